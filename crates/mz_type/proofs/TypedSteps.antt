-- Statements of a text, one after another.
use Rattle.std.proofs.Common.{ℕ, suc, ◌≡◌, ◌+◌, Bool, true, false, List, [], ◌∷◌, ◌++◌, sym, ap, ◌∙◌, subst}
use Rattle.std.specs.Prelude.{⊤}
use Rattle.mz_base.specs.Checks.{Checks, ◌>>◌, retold, AllHold}
use Rattle.mz_base.proofs.Offered.{Decides, retold-fails, retold-holds}
use Rattle.mz_sexpr.specs.Node.{Node, Nodes, atom, list, no_nodes, node, parts}
use Rattle.mz_sexpr.specs.Number.{first, rest}
use Rattle.mz_sexpr.specs.declared.rule.TextRefusal.{TextRefusal}
use Rattle.mz_logic_theory.specs.Declaration.{Declaration}
use Rattle.mz_mmu_theory.specs.Name.{Names, names_with}
use Rattle.mz_mmu_theory.specs.StatementOrder.{in_statement}
use Rattle.mz_mmu_theory.specs.Statements.{Statement, is_local_word, IsMarked, IsStatement, AreStatements}
use Rattle.mz_mmu_theory.specs.Stops.{Stops}
use Rattle.mz_mmu_theory.specs.declared.fault.Stop.{Stop}
use Rattle.mz_mmu_theory.specs.declared.fault.Stop.TheVariants as stop
use Rattle.mz_mmu_theory.specs.Names.{StatementThere, StatementsThere}
use Rattle.mz_mmu_theory.specs.Rules.{statement_rules}
use Rattle.mz_type_rules.proofs.Offered.{left_fails, left_step}
use Rattle.mz_mmu_theory.specs.TextRules.{rules_from}
use Rattle.mz_mmu.specs.TextStops.{TextStops, IsStopped}
use Rattle.mz_mmu_theory.specs.Weight.{statement_weight, weight_after}
use Rattle.mz_mmu.specs.declared.text.TextStop.{TextStop}
use Rattle.mz_mmu.specs.declared.text.TextStop.TheVariants as text_stop

-- ---- visibility

-- a statement is local exactly where its node begins with the keyword
abbrev pub AreMarked : Nodes → List Statement → Type 0
AreMarked ns [] = ⊤
AreMarked ns (s ∷ ss) = (is_local_word (first (parts (first ns))) ≡ s.is_local) × AreMarked (rest ns) ss

mark_is : (names : Names) (n : Node) (s : Statement) → IsStatement names n s → is_local_word (first (parts n)) ≡ s.is_local
mark_is names (list _ (node k ns)) s h = go (is_local_word k) ns h
  where
    go : (b : Bool) (ns : Nodes) → IsMarked b names k ns s → b ≡ s.is_local
    go false ns h = sym h.0
    go true no_nodes h = absurd h
    go true (node _ _) h = sym h.0
mark_is names _ s h = absurd h

pub marks_are : (names : Names) (ns : Nodes) (ss : List Statement) → AreStatements names ns ss → AreMarked ns ss
marks_are names no_nodes ss is = subst (AreMarked no_nodes) (sym is) tt
marks_are names (node n ns) ss (s, rest, h, hs, is) =
    subst (AreMarked (node n ns)) (sym is) (mark_is names n s h, marks_are (names_with names s.name s.decl) ns rest hs)

-- ---- one statement more

module _ (left after : List Statement) (s : Statement) (cut : left ≡ s ∷ after) where
  pub there_cut : (env : List Declaration) → StatementsThere env left → StatementThere env s × StatementsThere (env ++ s.decl ∷ []) after
  there_cut env h = subst (StatementsThere env) cut h

  pub marked_cut : (ns : Nodes) → AreMarked ns left → (is_local_word (first (parts (first ns))) ≡ s.is_local) × AreMarked (rest ns) after
  marked_cut ns h = subst (AreMarked ns) cut h

  pub rules_cut : (k : ℕ) (env : List Declaration) (ns : Nodes) → rules_from k env left ns
      ≡ (retold (in_statement k) (statement_rules env s (first ns)) >> rules_from (suc k) (env ++ s.decl ∷ []) after (rest ns))
  rules_cut k env ns = ap (λ xs. rules_from k env xs ns) cut

  pub weight_cut : (env : List Declaration) → weight_after env left ≡ statement_weight env s + weight_after (env ++ s.decl ∷ []) after
  weight_cut env = ap (weight_after env) cut

  pub rules_step : (k : ℕ) (env later : List Declaration) (ns ms : Nodes) (whole : Checks TextRefusal) → later ≡ env ++ s.decl ∷ [] → ms ≡ rest ns
      → AllHold (statement_rules env s (first ns)) → Decides (rules_from k env left ns) whole → Decides (rules_from (suc k) later after ms) whole
  rules_step k env later ns ms whole is moved all d =
      subst (λ e. Decides (rules_from (suc k) e after ms) whole) (sym is)
      (subst (λ m. Decides (rules_from (suc k) (env ++ s.decl ∷ []) after m) whole) (sym moved)
      (left_step (rules_from k env left ns) (retold (in_statement k) (statement_rules env s (first ns)))
      (rules_from (suc k) (env ++ s.decl ∷ []) after (rest ns)) whole (rules_cut k env ns) d
      (retold-holds (in_statement k) (statement_rules env s (first ns)) all)))

  pub rules_stop : (k number : ℕ) (env : List Declaration) (ns : Nodes) (whole : Checks TextRefusal) (stopped : Stop) (r : TextStop) → number ≡ k → IsStopped number stopped r
      → Stops stopped (statement_rules env s (first ns)) → Decides (rules_from k env left ns) whole → TextStops r whole
  rules_stop k number env ns whole (stop.Refused f) r e is h d =
      subst (λ t. TextStops t whole) (sym (is ∙ ap (λ j. text_stop.Refused (in_statement j f)) e))
      (left_fails (rules_from k env left ns) (retold (in_statement k) (statement_rules env s (first ns)))
      (rules_from (suc k) (env ++ s.decl ∷ []) after (rest ns)) whole (in_statement k f) (rules_cut k env ns) d
      (retold-fails (in_statement k) (statement_rules env s (first ns)) f h))
  rules_stop k number env ns whole stop.Mem r e is h d = subst (λ t. TextStops t whole) (sym is) tt

-- ---- the end

pub all_rules : (k : ℕ) (left : List Statement) (env : List Declaration) (ns : Nodes) (whole : Checks TextRefusal) → left ≡ [] → Decides (rules_from k env left ns) whole → AllHold whole
all_rules k left env ns whole end d = d.holds (subst (λ xs. AllHold (rules_from k env xs ns)) (sym end) tt)

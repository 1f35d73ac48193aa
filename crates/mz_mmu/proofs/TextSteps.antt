-- Statements, one after another.
use Rattle.std.proofs.Common.{ℕ, suc, ◌≡◌, ◌≤◌, ◌<◌, ◌+◌, ◌-◌, ◌∙◌, Bool, List, [], ◌∷◌, ◌++◌, length, sym, ap, refl, subst, arith, append_assoc, append-nil}
use Rattle.mz_base.proofs.Offered.{length-push, Decides, decides-after, fails-before, retold-fails, retold-holds}
use Rattle.mz_base.specs.Checks.{Checks, retold, FailsFirst}
use Rattle.mz_sexpr.specs.Node.{Node, Nodes, no_nodes, node, atom, list}
use Rattle.mz_sexpr.specs.Number.{node_count, node_at}
use Rattle.mz_sexpr.specs.declared.rule.TextRefusal.{TextRefusal}
use Rattle.mz_logic_theory.specs.Declaration.{Declaration, sort_decl, term_decl, assertion_decl}
use Rattle.mz_sexpr.specs.Grammar.{Reads as Spells}
use Rattle.mz_sexpr.specs.Rows.{entries}
use Rattle.mz_sexpr.specs.Token.{Token, close, spelled, spelled_node}
use Rattle.mz_sexpr.proofs.Offered.{few_rows, tokens_when_read}
use Rattle.mz_mmu_theory.specs.Cursor.{node_size, nodes_size}
use Rattle.mz_mmu_theory.specs.Stops.{Stops}
use Rattle.mz_mmu.specs.TextStops.{IsStopped, TextStops}
use Rattle.mz_mmu_theory.specs.declared.fault.Stop.{Stop}
use Rattle.mz_mmu_theory.specs.declared.fault.Stop.TheVariants as stop
use Rattle.mz_mmu.specs.declared.text.TextStop.{TextStop}
use Rattle.mz_mmu_theory.specs.declared.fault.Fault.{Fault}
use Rattle.mz_mmu_theory.specs.Name.{Names, no_names, names_with, constant_name}
use Rattle.mz_mmu_theory.specs.NamesMore.{AreFew}
use Rattle.mz_mmu.specs.EntryView.{AreNumbers}
use Rattle.mz_mmu_theory.specs.Statements.{Statement, IsStatement, AreStatements}
use Rattle.mz_mmu_theory.specs.StatementOrder.{statement_asked, statements_asked, in_statement, names_after}
use Rattle.mz_mmu_theory.proofs.Offered.{statement_says}

module _ (names later : Names) (left ns : Nodes) (n : Node) (is : left ≡ node n ns) (s : Statement) (h : IsStatement names n s) (after : later ≡ names_with names s.name s.decl) where
  pub statements_read_more : (P : List Statement → Type 0) (sofar now : List Statement) → now ≡ sofar ++ s ∷ [] → ((ss : List Statement) → AreStatements names left ss → P (sofar ++ ss))
      → (ss : List Statement) → AreStatements later ns ss → P (now ++ ss)
  statements_read_more P sofar now pushed read ss r =
      subst P (sym (ap (λ x. x ++ ss) pushed ∙ append_assoc sofar (s ∷ []) ss))
      (read (s ∷ ss) (subst (λ l. AreStatements names l (s ∷ ss)) (sym is) (s, ss, h, subst (λ x. AreStatements x ns ss) after r, refl)))

  pub statements_asked_more : (k : ℕ) (whole : Checks TextRefusal) → Decides (statements_asked k names left) whole → Decides (statements_asked (suc k) later ns) whole
  statements_asked_more k whole d =
      let says = statement_says names n s h in
      subst (λ x. Decides (statements_asked (suc k) x ns) whole) (says.1 ∙ sym after)
      (decides-after (retold (in_statement k) (statement_asked names n)) (statements_asked (suc k) (names_after names n) ns) whole (retold-holds (in_statement k) (statement_asked names n) says.0)
      (subst (λ l. Decides (statements_asked k names l) whole) is d))

pub statements_stop : (names : Names) (left ns : Nodes) (n : Node) (k : ℕ) (whole : Checks TextRefusal) (f : Fault) → left ≡ node n ns → Decides (statements_asked k names left) whole → FailsFirst (statement_asked names n) f
    → FailsFirst whole (in_statement k f)
statements_stop names left ns n k whole f is d h =
    d.fails (in_statement k f) (subst (λ l. FailsFirst (statements_asked k names l) (in_statement k f)) (sym is)
    (fails-before (retold (in_statement k) (statement_asked names n)) (statements_asked (suc k) (names_after names n) ns) (in_statement k f) (retold-fails (in_statement k) (statement_asked names n) f h)))

pub numbers_more : (all left ns : Nodes) (k : ℕ) → left ≡ node (node_at all k) ns → k < node_count all → (P : List ℕ → Type 0) (sofar now : List ℕ) → now ≡ sofar ++ k ∷ []
    → ((ks : List ℕ) → AreNumbers all left ks → P (sofar ++ ks)) → (ks : List ℕ) → AreNumbers all ns ks → P (now ++ ks)
numbers_more all left ns k is within P sofar now pushed read ks r =
    subst P (sym (ap (λ x. x ++ ks) pushed ∙ append_assoc sofar (k ∷ []) ks)) (read (k ∷ ks) (subst (λ l. AreNumbers all l (k ∷ ks)) (sym is) (within, refl, r)))

-- ---- names

few_with : (names : Names) (w : List ℕ) (d : Declaration) (n : ℕ) → AreFew names n → AreFew (names_with names w d) (suc n)
few_with names w (sort_decl m) n few = let k = length-push names.sorts w in
    record { sorts = omega (arith, k, few.sorts); terms = omega (arith, few.terms); constants = omega (arith, few.constants); assertions = omega (arith, few.assertions) }
few_with names w (term_decl t) n few = let k = length-push names.terms w in let j = length-push names.constants (constant_name t.signature.params w) in
    record { sorts = omega (arith, few.sorts); terms = omega (arith, k, few.terms); constants = omega (arith, j, few.constants); assertions = omega (arith, few.assertions) }
few_with names w (assertion_decl a) n few = let k = length-push names.assertions w in
    record { sorts = omega (arith, few.sorts); terms = omega (arith, few.terms); constants = omega (arith, few.constants); assertions = omega (arith, k, few.assertions) }

pub few_more : (names later : Names) (w : List ℕ) (d : Declaration) (n m : ℕ) → later ≡ names_with names w d → m ≡ suc n → AreFew names n → AreFew later m
few_more names later w d n m after one few = subst (λ k. AreFew later k) (sym one) (subst (λ x. AreFew x (suc n)) (sym after) (few_with names w d n few))

pub few_first : (gaps : Bool) (n : ℕ) → AreFew (no_names gaps) n
few_first gaps n = record { sorts = omega arith; terms = omega arith; constants = omega arith; assertions = omega arith }

pub few_enough : (names : Names) (n m : ℕ) → n ≤ m → AreFew names n → AreFew names m
few_enough names n m le few = record { sorts = omega (arith, few.sorts); terms = omega (arith, few.terms); constants = omega (arith, few.constants); assertions = omega (arith, few.assertions) }

-- ---- stops

pub text_stops : (names : Names) (left ns : Nodes) (n : Node) (k number : ℕ) (whole : Checks TextRefusal) (s : Stop) (r : TextStop) → number ≡ k → IsStopped number s r → left ≡ node n ns
    → Decides (statements_asked k names left) whole → Stops s (statement_asked names n) → TextStops r whole
text_stops names left ns n k number whole (stop.Refused f) r e is shape d h =
    subst (λ t. TextStops t whole) (sym is) (subst (λ j. FailsFirst whole (in_statement j f)) (sym e) (statements_stop names left ns n k whole f shape d h))
text_stops names left ns n k number whole stop.Mem r e is shape d h = subst (λ t. TextStops t whole) (sym is) tt

-- ---- there are no more nodes than bytes

mutual
  rows_of_node : (d : ℕ) (n : Node) (ts : List Token) → length (entries d (spelled_node n ++ ts)) ≡ node_size n + length (entries d ts)
  rows_of_node d (atom at w) ts = omega arith
  rows_of_node d (list at ns) ts =
      let same : suc d - 1 ≡ d = omega arith in
      let inner = ap (λ us. length (entries (suc d) us)) (append_assoc (spelled ns) (close ∷ []) ts) ∙ rows_of_nodes (suc d) ns (close ∷ ts) in
      let outer = ap (λ k. length (entries k ts)) same in
      omega (arith, inner, outer)

  rows_of_nodes : (d : ℕ) (ns : Nodes) (ts : List Token) → length (entries d (spelled ns ++ ts)) ≡ nodes_size ns + length (entries d ts)
  rows_of_nodes d no_nodes ts = omega arith
  rows_of_nodes d (node n ns) ts =
      let first = ap (λ us. length (entries d us)) (append_assoc (spelled_node n) (spelled ns) ts) ∙ rows_of_node d n (spelled ns ++ ts) in
      let rest = rows_of_nodes d ns ts in
      omega (arith, first, rest)

pub few_nodes : (text : List ℕ) (ns : Nodes) → Spells text ns → nodes_size ns ≤ length text
few_nodes text ns read =
    let rows = few_rows text in
    let is = ap (λ ts. length (entries 0 ts)) (tokens_when_read text ns read ∙ sym (append-nil (spelled ns))) ∙ rows_of_nodes 0 ns [] in
    omega (arith, rows, is)

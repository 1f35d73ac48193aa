-- A text has one answer.
use Rattle.std.proofs.Common.{ℕ, suc, ◌≡◌, ◌⊎◌, inl, inr, Bool, List, sym, subst}
use Rattle.mz_base.specs.Checks.{AllHold, FailsFirst, retold}
use Rattle.mz_base.proofs.Offered.{all_hold-both, fails_first-unique, all_hold-excludes, all_hold-or_fails, retold-holds}
use Rattle.mz_sexpr.specs.declared.rule.TextRefusal.{TextRefusal}
use Rattle.mz_sexpr.specs.Grammar.{Reads as Spells}
use Rattle.mz_sexpr.specs.Node.{Nodes, no_nodes, node}
use Rattle.mz_sexpr.proofs.Offered.{one_reading_only, is_read_or_refused}
use Rattle.mz_mmu_theory.specs.Name.{Names, no_names, names_with}
use Rattle.mz_mmu_theory.specs.Statements.{Statement, AreStatements, Reads}
use Rattle.mz_mmu_theory.specs.StatementOrder.{statement_asked, statements_asked, in_statement, names_after, Refuses}
use Rattle.mz_mmu_theory.specs.ReadingLaws.{IsReadOrRefusedOnce, IsReadOrRefused, HasOneReading}
use Rattle.mz_mmu_theory.proofs.Declaring.{statement_says}
use Rattle.mz_mmu_theory.proofs.ReadingDecided.{statements-decided}
use Rattle.mz_mmu_theory.proofs.FoundStatements.{statements_found}
use Rattle.mz_mmu_theory.proofs.OneStatement.{statements_once}

statements_hold : (k : ℕ) (names : Names) (ns : Nodes) (ss : List Statement) → AreStatements names ns ss → AllHold (statements_asked k names ns)
statements_hold k names no_nodes ss h = tt
statements_hold k names (node n ns) ss (s, rest, h, r, is) =
    let says = statement_says names n s h in
    all_hold-both (retold (in_statement k) (statement_asked names n)) (statements_asked (suc k) (names_after names n) ns) (retold-holds (in_statement k) (statement_asked names n) says.0)
    (subst (λ x. AllHold (statements_asked (suc k) x ns)) (sym says.1) (statements_hold (suc k) (names_with names s.name s.decl) ns rest r))

never : (gaps : Bool) (text : List ℕ) (ns : Nodes) (ss : List Statement) (r : TextRefusal) → Reads gaps text ns ss → Refuses gaps text r → ⊥
never gaps text ns ss r (spells, read) (inl m) = (is_read_or_refused text).never_both ns r spells m
never gaps text ns ss r (spells, read) (inr (ms, spells', f)) =
    all_hold-excludes (statements_asked 1 (no_names gaps) ms) r
    (statements_hold 1 (no_names gaps) ms ss (subst (λ x. AreStatements (no_names gaps) x ss) (one_reading_only text ns ms spells spells') read)) f

one : (gaps : Bool) (text : List ℕ) (q r : TextRefusal) → Refuses gaps text q → Refuses gaps text r → q ≡ r
one gaps text q r (inl m) (inl m') = (is_read_or_refused text).one_refusal q r m m'
one gaps text q r (inl m) (inr (ns, spells, f)) = absurd ((is_read_or_refused text).never_both ns q spells m)
one gaps text q r (inr (ns, spells, f)) (inl m) = absurd ((is_read_or_refused text).never_both ns r spells m)
one gaps text q r (inr (ns, spells, f)) (inr (ms, spells', g)) =
    fails_first-unique (statements_asked 1 (no_names gaps) ms) q r (subst (λ x. FailsFirst (statements_asked 1 (no_names gaps) x) q) (one_reading_only text ns ms spells spells') f) g

pub one_answer : (gaps : Bool) (text : List ℕ) → IsReadOrRefusedOnce gaps text
one_answer gaps text = record { never_both = never gaps text; one_refusal = one gaps text }

of_nodes : (gaps : Bool) (text : List ℕ) (ns : Nodes) → Spells text ns → AllHold (statements_asked 1 (no_names gaps) ns) ⊎ ((r : TextRefusal) × FailsFirst (statements_asked 1 (no_names gaps) ns) r)
    → ((ms : Nodes) × (ss : List Statement) × Reads gaps text ms ss) ⊎ ((r : TextRefusal) × Refuses gaps text r)
of_nodes gaps text ns spells (inl a) = let ss = statements_found 1 (no_names gaps) ns a in inl (ns, ss.0, (spells, ss.1))
of_nodes gaps text ns spells (inr f) = inr (f.0, inr (ns, spells, f.1))

some : (gaps : Bool) (text : List ℕ) → ((ns : Nodes) × (ss : List Statement) × Reads gaps text ns ss) ⊎ ((r : TextRefusal) × Refuses gaps text r)
some gaps text = elim (is_read_or_refused text).one_of_both [
  | inl read ↦ of_nodes gaps text read.0 read.1 (all_hold-or_fails (statements_asked 1 (no_names gaps) read.0) (statements-decided 1 (no_names gaps) read.0))
  | inr refused ↦ inr (refused.0, inl refused.1)
]

pub some_answer : (gaps : Bool) (text : List ℕ) → IsReadOrRefused gaps text
some_answer gaps text = record { one_of_both = some gaps text; never_both = never gaps text; one_refusal = one gaps text }

pub one_reading : (gaps : Bool) (text : List ℕ) → HasOneReading gaps text
one_reading gaps text ns ms ss ts (spells, read) (spells', read') =
    let same = one_reading_only text ns ms spells spells' in
    (same, statements_once (no_names gaps) ns ss ts read (subst (λ x. AreStatements (no_names gaps) x ts) (sym same) read'))

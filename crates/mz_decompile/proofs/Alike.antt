-- They can be restated in one way.
use Rattle.std.proofs.Common.{◌≡◌, ◌∙◌, ℕ, Bool, true, false, List, [], ◌∷◌, ◌++◌, Option, Some, Ok, refl, sym, ap, subst}
use Rattle.mz_cmd.specs.declared.statement.StmtAt.TheVariants.{Head}
use Rattle.mz_logic_theory.specs.Declaration.{Declaration, sort_decl, term_decl, assertion_decl}
use Rattle.mz_logic_theory.specs.LegalLists.{Statement as Marked}
use Rattle.mz_logic_theory.specs.declared.binder.Binder.{Binder}
use Rattle.mz_mmu_theory.specs.Proof.{Proof}
use Rattle.mz_mmu_theory.specs.Statements.{Statement}
use Rattle.mz_layout_tables.specs.Tables.{list_at}
use Rattle.mz_layout_tables.specs.Heads.{body_bytes}
use Rattle.mz_machine_theory.specs.FileRows.{taken_by, rows_taken}
use Rattle.mz_binary_theory.specs.WholeLaws.{OneListOfStatements, GoodFilesSpell}
use Rattle.mz_binary_theory.specs.Standards.{strict_standard}
use Rattle.mz_spec_theory.specs.State.{Entry}
use Rattle.mz_spec_theory.specs.Laws.{OneReading}
use Rattle.mz_trace.specs.Laws.{BodiesMakeOne}
use Rattle.mz_trace.specs.Traces.{under_lets}
use Rattle.mz_mmu_theory.specs.DeclaredNames.{prefix_beside}
use Rattle.mz_decompile_text.specs.Names.{declared_names, statement_names}
use Rattle.mz_decompile.specs.Restated.{IsProofMade, IsRestated, AreRestated}
use Rattle.mz_decompile.specs.Laws.{RestatedAlike}
use Rattle.mz_decompile.proofs.Theorems.{next_heading, IsProofBy}

module _ (law : BodiesMakeOne) (file : List ℕ) (env : List Declaration) where
  abbrev Same : List Binder → List Binder → Option Proof → Option Proof → Type 0
  Same ds es p q = (ds ≡ es) × (p ≡ q)

  proofs-same : (body next : ℕ) (d : Declaration) (ds es : List Binder) (p q : Option Proof) → IsProofMade file env body next d ds p → IsProofMade file env body next d es q → Same ds es p q
  proofs-same body next (sort_decl m) ds es p q (a, b) (c, d) = (a ∙ sym c, b ∙ sym d)
  proofs-same body next (term_decl t) ds es p q (a, b) (c, d) = (a ∙ sym c, b ∙ sym d)
  proofs-same body next (assertion_decl a) ds es p q h k = go a.is_axiom h k
    where
      go : (b : Bool) → IsProofBy file env body next b ds p → IsProofBy file env body next b es q → Same ds es p q
      go true (x, y) (z, w) = (x ∙ sym z, y ∙ sym w)
      go false (lets, root, is, made) (others, other, is', made') =
          let (same, lets-same, root-same) = law (rows_taken file (taken_by env)) (next_heading file env) (body_bytes file body next) ds es lets others root other made made' in
          (same, is ∙ ap (λ (xs : List Proof). Some (under_lets xs root)) lets-same ∙ ap (λ (x : Proof). Some (under_lets others x)) root-same ∙ sym is')

  same-fields : (t u : Statement) → t.is_local ≡ u.is_local → t.name ≡ u.name → t.decl ≡ u.decl → t.dummies ≡ u.dummies → t.proof ≡ u.proof → t ≡ u
  same-fields t u a b c d e =
      ap (λ x. record t { is_local = x }) a
      ∙ ap (λ x. record { is_local = u.is_local; name = x; decl = t.decl; dummies = t.dummies; proof = t.proof }) b
      ∙ ap (λ x. record { is_local = u.is_local; name = u.name; decl = x; dummies = t.dummies; proof = t.proof }) c
      ∙ ap (λ x. record { is_local = u.is_local; name = u.name; decl = u.decl; dummies = x; proof = t.proof }) d
      ∙ ap (λ x. record { is_local = u.is_local; name = u.name; decl = u.decl; dummies = u.dummies; proof = x }) e

  one-way : (at : ℕ) (s : Marked) (next other : ℕ) (name : List ℕ) (t u : Statement) → IsRestated file env at s next name t → IsRestated file env at s other name u → (next ≡ other) × (t ≡ u)
  one-way at s next other name t u a b =
      let there : Ok (Head a.code a.body next) ≡ Ok (Head b.code b.body other) = sym a.stands ∙ b.stands in
      let body : a.body ≡ b.body = cc in
      let place : next ≡ other = cc in
      let (ds, ps) = proofs-same b.body other s.decl t.dummies u.dummies t.proof u.proof
      (subst (λ n. IsProofMade file env b.body n s.decl t.dummies t.proof) place (subst (λ n. IsProofMade file env n next s.decl t.dummies t.proof) body a.proof)) b.proof in
      (place, same-fields t u (a.mark ∙ sym b.mark) (a.named ∙ sym b.named) (a.declares ∙ sym b.declares) ds ps)

all-one-way : BodiesMakeOne → (file : List ℕ) (env : List Declaration) (at : ℕ) (ss : List Marked) (names : List (List ℕ)) (ts us : List Statement)
    → AreRestated file env at ss names ts → AreRestated file env at ss names us → ts ≡ us
all-one-way law file env at [] [] [] [] a b = refl
all-one-way law file env at (s ∷ ss) (name ∷ names) (t ∷ ts) (u ∷ us) (next, is, are) (other, is', are') =
    let (place, same) = one-way law file env at s next other name t u is is' in
    let rest = all-one-way law file (env ++ s.decl ∷ []) next ss names ts us are (subst (λ n. AreRestated file (env ++ s.decl ∷ []) n ss names us) (sym place) are') in
    ap (λ (x : Statement). x ∷ ts) same ∙ ap (λ (xs : List Statement). u ∷ xs) rest
all-one-way law file env at [] [] [] (u ∷ us) a b = absurd b
all-one-way law file env at [] [] (t ∷ ts) us a b = absurd a
all-one-way law file env at [] (name ∷ names) ts us a b = absurd a
all-one-way law file env at (s ∷ ss) [] ts us a b = absurd a
all-one-way law file env at (s ∷ ss) (name ∷ names) [] us a b = absurd a
all-one-way law file env at (s ∷ ss) (name ∷ names) (t ∷ ts) [] a b = absurd b

pub restated-alike : BodiesMakeOne → OneReading → OneListOfStatements → GoodFilesSpell → RestatedAlike
restated-alike law reading list spells spec bin prefix other ts us a b =
    let entries : a.entries ≡ b.entries = reading spec a.entries b.entries a.makes b.makes in
    let ss : a.accepts.statements ≡ b.accepts.statements =
    list bin a.accepts.statements b.accepts.statements (spells strict_standard bin a.accepts.statements a.accepts.is_good) (spells strict_standard bin b.accepts.statements b.accepts.is_good) in
    let same : prefix ≡ other = a.beside ∙ ap (λ (es : List Entry). prefix_beside (declared_names spec es)) entries ∙ sym b.beside in
    let there : AreRestated bin [] (list_at bin) b.accepts.statements (statement_names (declared_names spec b.entries) other 0 1 b.accepts.statements) ts =
    subst (λ (xs : List Marked). AreRestated bin [] (list_at bin) xs (statement_names (declared_names spec b.entries) other 0 1 xs) ts) ss
    (subst (λ (p : List ℕ). AreRestated bin [] (list_at bin) a.accepts.statements (statement_names (declared_names spec b.entries) p 0 1 a.accepts.statements) ts) same
    (subst (λ (es : List Entry). AreRestated bin [] (list_at bin) a.accepts.statements (statement_names (declared_names spec es) prefix 0 1 a.accepts.statements) ts) entries a.restated)) in
    (same, all-one-way law bin [] (list_at bin) b.accepts.statements (statement_names (declared_names spec b.entries) other 0 1 b.accepts.statements) ts us there b.restated)

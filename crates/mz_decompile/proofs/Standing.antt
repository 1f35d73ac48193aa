-- What is said of a statement that stands at its place, by its kind.
use Rattle.std.proofs.Common.{◌≡◌, ◌∙◌, ◌⊎◌, ◌<◌, ◌+◌, ℕ, Bool, true, false, inl, inr, List, [], length, Option, Some, None, refl, sym, ap, subst, arith}
use Rattle.std.specs.Prelude.{MatchBool, slice_get}
use Rattle.std.proofs.lemmas.Option.{slice_get_within}
use Rattle.mz_cmd.specs.declared.code.StatementCode.{StatementCode}
use Rattle.mz_cmd.specs.declared.code.StatementCode.TheVariants as codes
use Rattle.mz_cmd.specs.Codes.{statement_byte}
use Rattle.mz_logic_theory.specs.Signature.{Signature}
use Rattle.mz_logic_theory.specs.Declaration.{Term, Assertion, Declaration, sort_decl, term_decl, assertion_decl, sorts, signatures, assertions}
use Rattle.mz_logic_theory.specs.declared.binder.Binder.{Binder}
use Rattle.mz_logic_theory.specs.declared.binder.SortMods.{SortMods}
use Rattle.mz_layout_tables.specs.Tables.{tables_of, term_count, thm_count}
use Rattle.mz_machine_theory.specs.Spells.{SpellsTerm, SpellsThm}
use Rattle.mz_machine_theory.specs.FileRows.{term_of_file, thm_of_file}
use Rattle.mz_layout_tables.specs.declared.head.Head.{Head}
use Rattle.mz_layout_tables.specs.declared.rows_so_far.Rows.{Rows}
use Rattle.mz_binary.specs.Progress.{IsTermKind}
use Rattle.mz_binary_theory.specs.Spelling.{IsKindOf, SpellsRow}
use Rattle.mz_binary_walk.proofs.Offered.{one-code}
use Rattle.mz_mmu_theory.specs.Proof.{Proof}
use Rattle.mz_mmu_theory.specs.Statements.{Statement}
use Rattle.mz_mmu_theory.specs.Weight.{declaration_weight, stated_weight}
use Rattle.mz_decompile_text.specs.Phrases.{Phrase}
use Rattle.mz_decompile_text.specs.Phrasing.{Vocabulary, declared_parts, assertion_parts}
use Rattle.mz_decompile_text.specs.Naming.{Naming, vocabulary_by}
use Rattle.mz_decompile_text.specs.Measures.{capped}
use Rattle.mz_decompile_text.specs.Rows.{AreArities}
use Rattle.mz_decompile.specs.Adding.{Adds}
use Rattle.mz_decompile.specs.Naming.{next_name}
use Rattle.mz_decompile.specs.Telling.{Counts, HasProof, MakesProof, MakesSome, Stands, SpellsSomeTerm, SpellsSomeThm, IsTerm, IsAxiom, IsTheorem, AreParts}

-- ---- the kind of what is declared, by the code

abbrev pub IsTheoremCode : StatementCode → Type 0
IsTheoremCode k = (k ≡ codes.Theorem) ⊎ (k ≡ codes.LocalTheorem)

assertion-code : (k : StatementCode) (b : Bool) → MatchBool b (statement_byte k ≡ 0x02) ((statement_byte k ≡ 0x06) ⊎ (statement_byte k ≡ 0x0E))
    → ((b ≡ true) × (k ≡ codes.Axiom)) ⊎ ((b ≡ false) × IsTheoremCode k)
assertion-code k true is = inl (refl, one-code k codes.Axiom is)
assertion-code k false (inl is) = inr (refl, inl (one-code k codes.Theorem is))
assertion-code k false (inr is) = inr (refl, inr (one-code k codes.LocalTheorem is))

-- tables are numbered, so that what belongs to two of them belongs to none
abbrev table_of : StatementCode → ℕ
table_of codes.Sort = 0
table_of codes.Term = 1
table_of codes.LocalDefinition = 1
table_of k = 2

abbrev table_by : Declaration → ℕ
table_by (sort_decl _) = 0
table_by (term_decl _) = 1
table_by (assertion_decl _) = 2

same-table : (k : StatementCode) (d : Declaration) → IsKindOf (statement_byte k) d → table_of k ≡ table_by d
same-table k (sort_decl m) is = ap table_of (one-code k codes.Sort is)
same-table k (term_decl d) (inl is) = ap table_of (one-code k codes.Term is)
same-table k (term_decl d) (inr is) = ap table_of (one-code k codes.LocalDefinition is)
same-table k (assertion_decl a) is = by (assertion-code k a.is_axiom is)
  where
    by : ((a.is_axiom ≡ true) × (k ≡ codes.Axiom)) ⊎ ((a.is_axiom ≡ false) × IsTheoremCode k) → table_of k ≡ 2
    by (inl e) = ap table_of e.1
    by (inr (x, inl e)) = ap table_of e
    by (inr (x, inr e)) = ap table_of e

module _ (k : StatementCode) where
  in-sorts : (d : Declaration) → IsKindOf (statement_byte k) d → k ≡ codes.Sort → 0 ≡ table_by d
  in-sorts d kind is = sym (ap table_of is) ∙ same-table k d kind

  in-terms : (d : Declaration) → IsKindOf (statement_byte k) d → IsTermKind k → 1 ≡ table_by d
  in-terms d kind (inl is) = sym (ap table_of is) ∙ same-table k d kind
  in-terms d kind (inr is) = sym (ap table_of is) ∙ same-table k d kind

  in-thms : (d : Declaration) → IsKindOf (statement_byte k) d → (k ≡ codes.Axiom) ⊎ IsTheoremCode k → 2 ≡ table_by d
  in-thms d kind (inl is) = sym (ap table_of is) ∙ same-table k d kind
  in-thms d kind (inr (inl is)) = sym (ap table_of is) ∙ same-table k d kind
  in-thms d kind (inr (inr is)) = sym (ap table_of is) ∙ same-table k d kind

  not-both : k ≡ codes.Axiom → IsTheoremCode k → ⊥
  not-both e (inl f) = let both : codes.Axiom ≡ codes.Theorem = sym e ∙ f in cc
  not-both e (inr f) = let both : codes.Axiom ≡ codes.LocalTheorem = sym e ∙ f in cc

-- ---- what is reported, by parts

record ArePartsOf (v : Vocabulary) (env : List Declaration) (a b : List Phrase) (l m : List ℕ) (w : ℕ) (name : List ℕ) (d : Declaration) (dummies : List Binder) (p : Option Proof) : Type 0 where
  adds : Adds a b l m (declared_parts v name d dummies p)
  weight_is : w ≡ capped (1 + declaration_weight d + length dummies + stated_weight env p)

module _ (file : List ℕ) (names : Naming) (before : Rows) (env : List Declaration) (counts : Counts env before) (k : StatementCode) (body next : ℕ) where
  abbrev v : Vocabulary
  v = vocabulary_by names

  module _ (a b : List Phrase) (l m : List ℕ) (w : ℕ) (name : List ℕ) (dummies : List Binder) (p : Option Proof) where
    abbrev Told : Declaration → Type 0
    Told d = ArePartsOf v env a b l m w name d dummies p

    nothing-else : (d : Declaration) → (dummies ≡ []) × (p ≡ None) → Adds a b l m (declared_parts v name d [] None) → w ≡ capped (1 + declaration_weight d) → Told d
    nothing-else d (none, no-proof) adds weight =
        let x : length dummies ≡ 0 = ap length none in
        let y : stated_weight env p ≡ 0 = ap (stated_weight env) no-proof in record {
          adds = subst (λ (q : Option Proof). Adds a b l m (declared_parts v name d dummies q)) (sym no-proof) (subst (λ (ds : List Binder). Adds a b l m (declared_parts v name d ds None))
              (sym none) adds);
          weight_is = omega (arith, weight, x, y);
        }

    sort-told : (d : Declaration) → k ≡ codes.Sort → IsKindOf (statement_byte k) d → name ≡ next_name v env d → SpellsRow file env d
        → HasProof file before env body next d dummies p
        → ((mods : SortMods) → slice_get (tables_of file).sorts before.sorts ≡ Some mods → Adds a b l m (declared_parts v (v.sort before.sorts) (sort_decl mods) [] None)) → w ≡ 1 → Told d
    sort-told (sort_decl mods) is kind named row nothing adds weight =
        let sorts-are = counts.sorts_are in
        nothing-else (sort_decl mods) nothing
        (subst (λ (x : List ℕ). Adds a b l m (declared_parts v x (sort_decl mods) [] None)) (ap v.sort sorts-are ∙ sym named)
        (adds mods (subst (λ (i : ℕ). slice_get (tables_of file).sorts i ≡ Some mods) (sym sorts-are) row)))
        (omega (arith, weight))
    sort-told (term_decl d) is kind named row nothing adds weight = absurd (let e : 0 ≡ 1 = in-sorts k (term_decl d) kind is in omega (arith, e))
    sort-told (assertion_decl t) is kind named row nothing adds weight = absurd (let e : 0 ≡ 2 = in-sorts k (assertion_decl t) kind is in omega (arith, e))

    term-told : (d : Declaration) → IsTermKind k → IsKindOf (statement_byte k) d → name ≡ next_name v env d → SpellsRow file env d
        → HasProof file before env body next d dummies p → AreArities file (signatures env)
        → ((sigs : List Signature) (t : Term) → AreArities file sigs → SpellsTerm sigs (term_of_file file before.terms) t → IsTerm v a b l m w (v.term before.terms) t) → Told d
    term-told (term_decl t) is kind named row nothing arities told =
        let terms-are = counts.terms_are in
        let here = told (signatures env) t arities (subst (λ (i : ℕ). SpellsTerm (signatures env) (term_of_file file i) t) (sym terms-are) row.1) in
        nothing-else (term_decl t) nothing
        (subst (λ (x : List ℕ). Adds a b l m (declared_parts v x (term_decl t) [] None)) (ap v.term terms-are ∙ sym named) here.adds) here.weight_is
    term-told (sort_decl mods) is kind named row nothing arities told = absurd (let e : 1 ≡ 0 = in-terms k (sort_decl mods) kind is in omega (arith, e))
    term-told (assertion_decl t) is kind named row nothing arities told = absurd (let e : 1 ≡ 2 = in-terms k (assertion_decl t) kind is in omega (arith, e))

    -- an assertion is reported as its code says
    assertion-told : (d : Declaration) → (k ≡ codes.Axiom) ⊎ IsTheoremCode k → IsKindOf (statement_byte k) d → name ≡ next_name v env d → SpellsRow file env d
        → HasProof file before env body next d dummies p
        → ((t : Assertion) → SpellsThm (signatures env) (thm_of_file file before.thms) t → k ≡ codes.Axiom → (dummies ≡ []) × (p ≡ None) → IsAxiom v a b l m w (v.assertion before.thms) t)
        → ((t : Assertion) → SpellsThm (signatures env) (thm_of_file file before.thms) t → IsTheoremCode k → MakesProof file before env body next dummies p
        → IsTheorem v env a b l m w (v.assertion before.thms) t dummies p)
        → Told d
    assertion-told (assertion_decl t) is kind named row proof told-axiom told-theorem = by t.is_axiom refl (assertion-code k t.is_axiom kind) proof
      where
        thms-are : before.thms ≡ length (assertions env)
        thms-are = counts.thms_are

        spells : SpellsThm (signatures env) (thm_of_file file before.thms) t
        spells = subst (λ (i : ℕ). SpellsThm (signatures env) (thm_of_file file i) t) (sym thms-are) row.1

        name-is : v.assertion before.thms ≡ name
        name-is = ap v.assertion thms-are ∙ sym named

        by : (x : Bool) → t.is_axiom ≡ x → ((t.is_axiom ≡ true) × (k ≡ codes.Axiom)) ⊎ ((t.is_axiom ≡ false) × IsTheoremCode k)
            → MatchBool x ((dummies ≡ []) × (p ≡ None)) (MakesProof file before env body next dummies p) → Told (assertion_decl t)
        by true same (inl (x, e)) nothing =
            let here = told-axiom t spells e nothing in
            let named-here = subst (λ (y : List ℕ). Adds a b l m (assertion_parts v y true t.params t.hyps t.conclusion [] None)) name-is here.adds in
            nothing-else (assertion_decl t) nothing (subst (λ (y : Bool). Adds a b l m (assertion_parts v name y t.params t.hyps t.conclusion [] None)) (sym same) named-here) here.weight_is
        by true same (inr (x, e)) nothing = absurd (let f : true ≡ false = sym same ∙ x in cc)
        by false same (inl (x, e)) makes = absurd (let f : true ≡ false = sym x ∙ same in cc)
        by false same (inr (x, e)) makes =
            let here = told-theorem t spells e makes in
            let named-here = subst (λ (y : List ℕ). Adds a b l m (assertion_parts v y false t.params t.hyps t.conclusion dummies p)) name-is here.adds in record {
              adds = subst (λ (y : Bool). Adds a b l m (assertion_parts v name y t.params t.hyps t.conclusion dummies p)) (sym same) named-here;
              weight_is = here.weight_is;
            }
    assertion-told (sort_decl mods) is kind named row proof told-axiom told-theorem = absurd (let e : 2 ≡ 0 = in-thms k (sort_decl mods) kind is in omega (arith, e))
    assertion-told (term_decl d) is kind named row proof told-axiom told-theorem = absurd (let e : 2 ≡ 1 = in-thms k (term_decl d) kind is in omega (arith, e))

-- ---- a whole statement

module _ (file : List ℕ) (names : Naming) (before : Rows) (env : List Declaration) (head : Head) (t : Statement) (stands : Stands file names before env head t)
    (a b : List Phrase) (l m : List ℕ) (w : ℕ) where
  abbrev names-of : Vocabulary
  names-of = vocabulary_by names

  to-parts : ArePartsOf names-of env a b l m w t.name t.decl t.dummies t.proof → AreParts names-of env a b l m w t
  to-parts told = record { adds = told.adds; weight_is = told.weight_is }

  pub sort-parts : head.code ≡ codes.Sort
      → ((mods : SortMods) → slice_get (tables_of file).sorts before.sorts ≡ Some mods → Adds a b l m (declared_parts names-of (names-of.sort before.sorts) (sort_decl mods) [] None)) → w ≡ 1
      → AreParts names-of env a b l m w t
  sort-parts is adds weight =
      to-parts (sort-told file names before env stands.counts head.code head.body head.next a b l m w t.name t.dummies t.proof t.decl is stands.kind stands.named stands.row
      stands.proof adds weight)

  pub term-parts : IsTermKind head.code
      → ((sigs : List Signature) (d : Term) → AreArities file sigs → SpellsTerm sigs (term_of_file file before.terms) d → IsTerm names-of a b l m w (names-of.term before.terms) d)
      → AreParts names-of env a b l m w t
  term-parts is told =
      to-parts (term-told file names before env stands.counts head.code head.body head.next a b l m w t.name t.dummies t.proof t.decl is stands.kind stands.named stands.row stands.proof
      stands.arities told)

  pub axiom-parts : head.code ≡ codes.Axiom
      → ((sigs : List Signature) (d : Assertion) → AreArities file sigs → SpellsThm sigs (thm_of_file file before.thms) d → IsAxiom names-of a b l m w (names-of.assertion before.thms) d)
      → AreParts names-of env a b l m w t
  axiom-parts is told =
      to-parts (assertion-told file names before env stands.counts head.code head.body head.next a b l m w t.name t.dummies t.proof t.decl (inl is) stands.kind stands.named stands.row
      stands.proof
      (λ d spells _ _. told (signatures env) d stands.arities spells) (λ d spells other _. absurd (not-both head.code is other)))

  pub theorem-parts : IsTheoremCode head.code
      → ((sigs : List Signature) (d : Assertion) (dummies : List Binder) (p : Option Proof) → AreArities file sigs → SpellsThm sigs (thm_of_file file before.thms) d
      → MakesProof file before env head.body head.next dummies p → IsTheorem names-of env a b l m w (names-of.assertion before.thms) d dummies p)
      → AreParts names-of env a b l m w t
  theorem-parts is told =
      to-parts (assertion-told file names before env stands.counts head.code head.body head.next a b l m w t.name t.dummies t.proof t.decl (inr is) stands.kind stands.named stands.row
      stands.proof
      (λ d spells other _. absurd (not-both head.code other is)) (λ d spells _ makes. told (signatures env) d t.dummies t.proof stands.arities spells makes))

-- ---- the row of what stands

module _ (file : List ℕ) (names : Naming) (before : Rows) (env : List Declaration) (head : Head) (t : Statement) (stands : Stands file names before env head t) where
  abbrev Kind : Declaration → Type 0
  Kind d = IsKindOf (statement_byte head.code) d

  sort-by : (d : Declaration) → Kind d → SpellsRow file env d → head.code ≡ codes.Sort → before.sorts < length (tables_of file).sorts
  sort-by (sort_decl m) kind row is = let x = stands.counts.sorts_are in let there = slice_get_within (tables_of file).sorts (length (sorts env)) m row in omega (arith, x, there)
  sort-by (term_decl d) kind row is = absurd (let e : 0 ≡ 1 = in-sorts head.code (term_decl d) kind is in omega (arith, e))
  sort-by (assertion_decl a) kind row is = absurd (let e : 0 ≡ 2 = in-sorts head.code (assertion_decl a) kind is in omega (arith, e))

  pub sort-row : head.code ≡ codes.Sort → before.sorts < length (tables_of file).sorts
  sort-row is = sort-by t.decl stands.kind stands.row is

  term-by : (d : Declaration) → Kind d → SpellsRow file env d → IsTermKind head.code → (before.terms < term_count file) × SpellsSomeTerm file before.terms
  term-by (sort_decl m) kind row is = absurd (let e : 1 ≡ 0 = in-terms head.code (sort_decl m) kind is in omega (arith, e))
  term-by (term_decl d) kind row is =
      let x = stands.counts.terms_are in let there = row.0 in
      (omega (arith, x, there), (signatures env, stands.arities, (d, subst (λ (i : ℕ). SpellsTerm (signatures env) (term_of_file file i) d) (sym x) row.1)))
  term-by (assertion_decl a) kind row is = absurd (let e : 1 ≡ 2 = in-terms head.code (assertion_decl a) kind is in omega (arith, e))

  pub term-there : IsTermKind head.code → (before.terms < term_count file) × SpellsSomeTerm file before.terms
  term-there is = term-by t.decl stands.kind stands.row is

  thm-by : (d : Declaration) → Kind d → SpellsRow file env d → HasProof file before env head.body head.next d t.dummies t.proof → (head.code ≡ codes.Axiom) ⊎ IsTheoremCode head.code
      → (before.thms < thm_count file) × SpellsSomeThm file before.thms × (IsTheoremCode head.code → MakesSome file before head.body head.next)
  thm-by (sort_decl m) kind row proof is = absurd (let e : 2 ≡ 0 = in-thms head.code (sort_decl m) kind is in omega (arith, e))
  thm-by (term_decl d) kind row proof is = absurd (let e : 2 ≡ 1 = in-thms head.code (term_decl d) kind is in omega (arith, e))
  thm-by (assertion_decl a) kind row proof is =
      let x = stands.counts.thms_are in let there = row.0 in (
        omega (arith, x, there),
        (signatures env, stands.arities, (a, subst (λ (i : ℕ). SpellsThm (signatures env) (thm_of_file file i) a) (sym x) row.1)),
        λ theorem. makes a.is_axiom (assertion-code head.code a.is_axiom kind) proof theorem,
      )
    where
      makes : (b : Bool) → ((b ≡ true) × (head.code ≡ codes.Axiom)) ⊎ ((b ≡ false) × IsTheoremCode head.code)
          → MatchBool b ((t.dummies ≡ []) × (t.proof ≡ None)) (MakesProof file before env head.body head.next t.dummies t.proof) → IsTheoremCode head.code → MakesSome file before head.body head.next
      makes false by-code made theorem = (env, t.dummies, t.proof, made)
      makes true (inl (x, e)) made theorem = absurd (not-both head.code e theorem)
      makes true (inr (x, e)) made theorem = absurd (let g : true ≡ false = x in cc)

  pub thm-there : (head.code ≡ codes.Axiom) ⊎ IsTheoremCode head.code
      → (before.thms < thm_count file) × SpellsSomeThm file before.thms × (IsTheoremCode head.code → MakesSome file before head.body head.next)
  thm-there is = thm-by t.decl stands.kind stands.row stands.proof is

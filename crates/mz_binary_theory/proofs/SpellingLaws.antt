-- A place has one statement at most.
use Rattle.std.proofs.Common.{◌≡◌, ◌⊎◌, ◌∙◌, ℕ, Bool, true, false, List, length, Ok, refl, sym, ap, subst, inl, inr, arith}
use Rattle.std.specs.Prelude.{MatchBool}
use Rattle.mz_cmd.specs.declared.statement.StmtAt.TheVariants.{Head}
use Rattle.mz_logic_theory.specs.Declaration.{Declaration, sort_decl, term_decl, assertion_decl, terms, signatures, assertions}
use Rattle.mz_logic_theory.specs.LegalLists.{Statement}
use Rattle.mz_machine_theory.proofs.Offered.{one-assertion, one-term, same-statement}
use Rattle.mz_machine_theory.specs.FileRows.{term_of_file, thm_of_file}
use Rattle.mz_binary_theory.specs.Spelling.{IsSpelled, IsKindOf, SpellsRow, is_local_code}
use Rattle.mz_binary_theory.specs.Chains.{IsGoodStatement}
use Rattle.mz_binary_theory.specs.Standards.{Standard}

-- the codes of an axiom and of a theorem
abbrev AssertionCode : ℕ → Bool → Type 0
AssertionCode code b = MatchBool b (code ≡ 0x02) ((code ≡ 0x06) ⊎ (code ≡ 0x0E))

no-sort : (code : ℕ) (b : Bool) → code ≡ 0x04 → AssertionCode code b → ⊥
no-sort code true e h = omega arith
no-sort code false e (inl h) = omega arith
no-sort code false e (inr h) = omega arith

no-term : (code : ℕ) (b : Bool) → (code ≡ 0x05) ⊎ (code ≡ 0x0D) → AssertionCode code b → ⊥
no-term code true (inl e) h = omega arith
no-term code true (inr e) h = omega arith
no-term code false (inl e) (inl h) = omega arith
no-term code false (inl e) (inr h) = omega arith
no-term code false (inr e) (inl h) = omega arith
no-term code false (inr e) (inr h) = omega arith

not-term : (code : ℕ) → code ≡ 0x04 → (code ≡ 0x05) ⊎ (code ≡ 0x0D) → ⊥
not-term code e (inl h) = omega arith
not-term code e (inr h) = omega arith

one-mark : (code : ℕ) (b c : Bool) → AssertionCode code b → AssertionCode code c → b ≡ c
one-mark code true true h k = refl
one-mark code false false h k = refl
one-mark code true false h (inl k) = absurd (omega arith)
one-mark code true false h (inr k) = absurd (omega arith)
one-mark code false true (inl h) k = absurd (omega arith)
one-mark code false true (inr h) k = absurd (omega arith)

-- the kind and the row leave one declaration
one-declaration : (file : List ℕ) (env : List Declaration) (code : ℕ) (d e : Declaration) → IsKindOf code d → IsKindOf code e → SpellsRow file env d → SpellsRow file env e → d ≡ e
one-declaration file env code (sort_decl m) (sort_decl n) k l r t = let one : m ≡ n = cc in ap sort_decl one
one-declaration file env code (sort_decl m) (term_decl e) k l r t = absurd (not-term code k l)
one-declaration file env code (sort_decl m) (assertion_decl a) k l r t = absurd (no-sort code a.is_axiom k l)
one-declaration file env code (term_decl d) (sort_decl n) k l r t = absurd (not-term code l k)
one-declaration file env code (term_decl d) (term_decl e) k l (_, r) (_, t) = ap term_decl (one-term (signatures env) (term_of_file file (length (terms env))) d e r t)
one-declaration file env code (term_decl d) (assertion_decl a) k l r t = absurd (no-term code a.is_axiom k l)
one-declaration file env code (assertion_decl a) (sort_decl n) k l r t = absurd (no-sort code a.is_axiom l k)
one-declaration file env code (assertion_decl a) (term_decl e) k l r t = absurd (no-term code a.is_axiom l k)
one-declaration file env code (assertion_decl a) (assertion_decl b) k l (_, r) (_, t) =
    ap assertion_decl (one-assertion (signatures env) (thm_of_file file (length (assertions env))) a b (one-mark code a.is_axiom b.is_axiom k l) r t)

pub one-spelled : (file : List ℕ) (env : List Declaration) (at : ℕ) (s t : Statement) (next next' : ℕ) → IsSpelled file env at s next → IsSpelled file env at t next' → (s ≡ t) × (next ≡ next')
one-spelled file env at s t next next' a b =
    let there : Ok (Head a.code a.body next) ≡ Ok (Head b.code b.body next') = sym a.stands ∙ b.stands in
    let code : a.code ≡ b.code = cc in
    let place : next ≡ next' = cc in
    (same-statement s t (a.kind.1 ∙ ap is_local_code code ∙ sym b.kind.1) (one-declaration file env b.code s.decl t.decl (subst (λ (z : ℕ). IsKindOf z s.decl) code a.kind.0) b.kind.0 a.row b.row), place)

pub one-good : (standard : Standard) (file : List ℕ) (env : List Declaration) (at : ℕ) (s t : Statement) (next next' : ℕ) → IsGoodStatement standard file env at s next → IsGoodStatement standard file env at t next' → (s ≡ t) × (next ≡ next')
one-good standard file env at s t next next' a b = one-spelled file env at s t next next' a.spelled b.spelled

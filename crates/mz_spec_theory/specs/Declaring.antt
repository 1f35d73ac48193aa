-- What a good statement declares, and the state after it (mm0.md, sections on sorts, terms, definitions, axioms and
-- theorems).
use Rattle.std.specs.Prelude.{◌≡◌, ◌+◌, ◌*◌, ℕ, List, Bool, true, false, Option, Some, None, if◌then◌else◌}
use Rattle.mz_lex.specs.Lexemes.{Lexeme}
use Rattle.mz_logic_theory.specs.Tree.{Tree, Trees}
use Rattle.mz_logic_theory.specs.Declaration.{Declaration, sort_decl, term_decl, assertion_decl, Form, plain_form, abstract_form, defined}
use Rattle.mz_math_theory.specs.Notation.{Table}
use Rattle.mz_spec_theory.specs.declared.kind.AssertKind.{AssertKind}
use Rattle.mz_spec_theory.specs.declared.kind.AssertKind.TheVariants as kinds
use Rattle.mz_spec_theory.specs.Statement.{Modifiers, TypeText, SpecStatement, sort_statement, term_statement, assert_statement, definition_statement}
use Rattle.mz_spec_theory.specs.View.{Variable, view, claim, body, stated_of}
use Rattle.mz_spec_theory.specs.State.{State, with_sort, with_term, with_assertion, with_table, param_binders, dummy_binders, signature_of}
use Rattle.mz_spec_theory.specs.Formulas.{IsMeant, AreHyps}
use Rattle.mz_spec_theory.specs.Forms.{ChangesTable}

abbrev pub bit : Bool → ℕ → ℕ
bit b n = if b then n else 0

-- bit 0 pure, 1 strict, 2 provable, 3 free
abbrev pub sort_bits : Modifiers → ℕ
sort_bits m = bit m.is_pure 1 + 2 * bit m.is_strict 1 + 4 * bit m.is_provable 1 + 8 * bit m.is_free 1

abbrev pub is_axiom : AssertKind → Bool
is_axiom kinds.Axiom = true
is_axiom kinds.Theorem = false

-- ---- declarations

-- a definition without a body is abstract
abbrev pub IsForm : State → List Variable → TypeText → Option Lexeme → Form → Type 0
IsForm σ vs t None f = f ≡ abstract_form
IsForm σ vs t (Some l) f = (e : Tree) × IsMeant σ vs (body l t) e × (f ≡ defined (dummy_binders σ vs) e)

abbrev pub Declares : State → SpecStatement → Declaration → Type 0
Declares σ (sort_statement m name) d = d ≡ sort_decl (record { 0 = sort_bits m })
Declares σ (term_statement h arguments result) d =
    d ≡ term_decl (record { signature = signature_of σ (view (term_statement h arguments result)).variables result; form = plain_form })
Declares σ (assert_statement kind h premises conclusion) d = (hyps : Trees) × (e : Tree)
    × AreHyps σ (view (assert_statement kind h premises conclusion)).variables (stated_of h.groups premises) hyps
    × IsMeant σ (view (assert_statement kind h premises conclusion)).variables (claim conclusion) e
    × (d ≡ assertion_decl (record { is_axiom = is_axiom kind; params = param_binders σ (view (assert_statement kind h premises conclusion)).variables; hyps = hyps; conclusion = e }))
Declares σ (definition_statement h result b) d = (f : Form) × IsForm σ (view (definition_statement h result b)).variables result b f
    × (d ≡ term_decl (record { signature = signature_of σ (view (definition_statement h result b)).variables result; form = f }))
Declares σ _ d = ⊥

-- ---- the state after the statement at a place

abbrev pub After : State → ℕ → SpecStatement → State → Type 0
After σ place (sort_statement m name) τ = (d : Declaration) × Declares σ (sort_statement m name) d × (τ ≡ with_sort σ place name d)
After σ place (term_statement h arguments result) τ = (d : Declaration) × Declares σ (term_statement h arguments result) d × (τ ≡ with_term σ place h.name d)
After σ place (assert_statement kind h premises conclusion) τ = (d : Declaration) × Declares σ (assert_statement kind h premises conclusion) d × (τ ≡ with_assertion σ place h.name d)
After σ place (definition_statement h result b) τ = (d : Declaration) × Declares σ (definition_statement h result b) d × (τ ≡ with_term σ place h.name d)
After σ place s τ = (u : Table) × ChangesTable σ s u × (τ ≡ with_table σ u)

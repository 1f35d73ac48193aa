-- The rows of public terms, by their public numbers.
use Rattle.std.proofs.Common.{◌≡◌, ◌<◌, ◌+◌, ◌++◌, ◌∙◌, ℕ, zero, suc, List, [], ◌∷◌, length, Bool, true, false, Some, ap, arith}
use Rattle.std.specs.Prelude.{if◌then◌else◌, slice_get}
use Rattle.std.proofs.lemmas.Bool.{true≢false}
use Rattle.mz_logic_theory.specs.Declaration.{Declaration, sort_decl, term_decl, assertion_decl, terms, signatures}
use Rattle.mz_logic_theory.specs.LegalLists.{Statement, declarations}
use Rattle.mz_prefix.specs.PublicPart.{public_number, is_local_term, visibility_of, visibilities_of}
use Rattle.mz_spec_proved_theory.specs.Match.{term_row_of, term_rows}

-- the public number of t is the place of its row
abbrev pub IsTracked : List ℕ → (ℕ → ℕ) → ℕ → Type 0
IsTracked rows f t = slice_get rows (f t) ≡ Some t

-- each term that isn't local, of those that are declared, has its row
row-step : (n : ℕ) (l : Bool) (d : Declaration) (before : List Statement) (others : List Bool) (t : ℕ)
    → ((m u : ℕ) → u < length (signatures (declarations before)) → is_local_term (visibilities_of before ++ others) u ≡ false
    → slice_get (term_rows m before) (public_number (visibilities_of before ++ others) u) ≡ Some (m + u))
    → t < length (signatures (d ∷ declarations before)) → is_local_term ((visibility_of l d ++ visibilities_of before) ++ others) t ≡ false
    → slice_get ((if l then [] else term_row_of n d) ++ term_rows (n + length (terms (d ∷ []))) before) (public_number ((visibility_of l d ++ visibilities_of before) ++ others) t) ≡ Some (n + t)
row-step n true (term_decl d) before others zero rest less public = absurd (true≢false public)
row-step n true (term_decl d) before others (suc t) rest less public = rest (n + 1) t (omega arith) public ∙ ap (λ (u : ℕ). Some u) (omega arith)
row-step n false (term_decl d) before others zero rest less public = ap (λ (u : ℕ). Some u) (omega arith)
row-step n false (term_decl d) before others (suc t) rest less public = rest (n + 1) t (omega arith) public ∙ ap (λ (u : ℕ). Some u) (omega arith)
row-step n _ _ before others t rest less public = rest (n + 0) t less public ∙ ap (λ (u : ℕ). Some u) (omega arith)

pub row-at : (before : List Statement) (others : List Bool) (n t : ℕ) → t < length (signatures (declarations before)) → is_local_term (visibilities_of before ++ others) t ≡ false
    → slice_get (term_rows n before) (public_number (visibilities_of before ++ others) t) ≡ Some (n + t)
row-at [] others n t less public = absurd (omega arith)
row-at (s ∷ before) others n t less public = row-step n s.is_local s.decl before others t (row-at before others) less public

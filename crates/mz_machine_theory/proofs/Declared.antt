-- The rows of the tables and the declarations that they spell.
use Rattle.std.proofs.Common.{◌≡◌, ℕ, zero, suc, List, [], ◌∷◌, map, length, Some, refl, sym, ap, subst, ◌∙◌}
use Rattle.std.specs.Prelude.{slice_get}
use Rattle.mz_logic_theory.specs.Signature.{Signature}
use Rattle.mz_logic_theory.specs.Declaration.{Term, Declaration, sort_decl, term_decl, assertion_decl, terms, signatures}
use Rattle.mz_machine_theory.specs.Spells.{SpelledTerm, SpellsTerm}
use Rattle.mz_machine_theory.specs.MachineState.{RowsBefore, signatures_in, Pairwise, Declares}

pub pair-at : {A B : Type 0} (R : A → B → Type 0) (xs : List A) (ys : List B) → Pairwise R xs ys → (i : ℕ) (x : A) → slice_get xs i ≡ Some x → (y : B) × (slice_get ys i ≡ Some y) × R x y
pair-at R [] ys h i x at = absurd cc
pair-at R (a ∷ xs) [] h i x at = absurd h
pair-at R (a ∷ xs) (b ∷ ys) (r, h) zero x at = let is : a ≡ x = cc in (b, refl, subst (λ z. R z b) is r)
pair-at R (a ∷ xs) (b ∷ ys) (r, h) (suc i) x at = pair-at R xs ys h i x at

pub pairs-long : {A B : Type 0} (R : A → B → Type 0) (xs : List A) (ys : List B) → Pairwise R xs ys → length xs ≡ length ys
pairs-long R [] [] h = refl
pairs-long R [] (y ∷ ys) h = absurd h
pairs-long R (x ∷ xs) [] h = absurd h
pairs-long R (x ∷ xs) (y ∷ ys) (_, h) = ap suc (pairs-long R xs ys h)

pub signatures-of : (env : List Declaration) → signatures env ≡ map (λ d. d.signature) (terms env)
signatures-of [] = refl
signatures-of (sort_decl m ∷ env) = signatures-of env
signatures-of (term_decl d ∷ env) = ap (λ (z : List Signature). d.signature ∷ z) (signatures-of env)
signatures-of (assertion_decl a ∷ env) = signatures-of env

rows-signatures : (sigs : List Signature) (rows : List SpelledTerm) (ds : List Term) → Pairwise (SpellsTerm sigs) rows ds → map (λ r. r.signature) rows ≡ map (λ d. d.signature) ds
rows-signatures sigs [] [] h = refl
rows-signatures sigs [] (d ∷ ds) h = absurd h
rows-signatures sigs (r ∷ rows) [] h = absurd h
rows-signatures sigs (r ∷ rows) (d ∷ ds) ((is, _), h) =
    ap (λ (z : Signature). z ∷ map (λ r. r.signature) rows) is ∙ ap (λ (z : List Signature). d.signature ∷ z) (rows-signatures sigs rows ds h)

-- the signatures are the environment's
pub signatures-are : (tables : RowsBefore) (env : List Declaration) → Declares tables env → signatures_in tables ≡ signatures env
signatures-are tables env declares = rows-signatures (signatures env) tables.terms (terms env) declares.terms_are ∙ sym (signatures-of env)

get-signature : (rows : List SpelledTerm) (t : ℕ) (row : SpelledTerm) → slice_get rows t ≡ Some row → slice_get (map (λ r. r.signature) rows) t ≡ Some row.signature
get-signature [] t row at = absurd cc
get-signature (r ∷ rows) zero row at = let is : r ≡ row = cc in ap (λ (z : SpelledTerm). Some z.signature) is
get-signature (r ∷ rows) (suc t) row at = get-signature rows t row at

pub signature-at : (tables : RowsBefore) (env : List Declaration) → Declares tables env → (t : ℕ) (row : SpelledTerm) → slice_get tables.terms t ≡ Some row → slice_get (signatures env) t ≡ Some row.signature
signature-at tables env declares t row at =
    subst (λ (z : List Signature). slice_get z t ≡ Some row.signature) (signatures-are tables env declares) (get-signature tables.terms t row at)

-- The rows of the tables for what a text declares, where the two environments are one but for dummies.
use Rattle.std.proofs.Common.{◌≡◌, ℕ, zero, suc, List, [], ◌∷◌, map, Some, refl, sym, ap, subst, ◌∙◌}
use Rattle.std.specs.Prelude.{slice_get}
use Rattle.mz_logic_theory.specs.Signature.{Signature}
use Rattle.mz_logic_theory.specs.Declaration.{Term, Assertion, Declaration, sorts, terms, signatures, assertions}
use Rattle.mz_machine_theory.specs.Spells.{SpelledTerm, SpelledThm, SpellsThm, SpellsTerm}
use Rattle.mz_machine_theory.specs.MachineState.{RowsBefore, signatures_in, Pairwise, Declares}
use Rattle.mz_machine_theory.proofs.Offered.{pair-at, signatures-are, signatures-of}
use Rattle.mz_emit_theory.specs.AlphaEquivalence.{IsSameTerm, IsSameEnv}

pub pair-back : {A B : Type 0} (R : A → B → Type 0) (xs : List A) (ys : List B) → Pairwise R xs ys → (i : ℕ) (y : B) → slice_get ys i ≡ Some y → (x : A) × (slice_get xs i ≡ Some x) × R x y
pair-back R [] [] h i y at = absurd cc
pair-back R (a ∷ xs) (b ∷ ys) (r, h) zero y at = let is : b ≡ y = cc in (a, refl, subst (λ z. R a z) is r)
pair-back R (a ∷ xs) (b ∷ ys) (r, h) (suc i) y at = pair-back R xs ys h i y at
pair-back R _ _ h i y at = absurd h

terms-signatures : (ds ds' : List Term) → Pairwise IsSameTerm ds ds' → map (λ d. d.signature) ds ≡ map (λ d. d.signature) ds'
terms-signatures [] [] h = refl
terms-signatures (d ∷ ds) (d' ∷ ds') ((is, _), h) = ap (λ (z : Signature). z ∷ map (λ c. c.signature) ds) is ∙ ap (λ (z : List Signature). d'.signature ∷ z) (terms-signatures ds ds' h)
terms-signatures _ _ h = absurd h

pub same-signatures : (env env' : List Declaration) → IsSameEnv env env' → signatures env ≡ signatures env'
same-signatures env env' same = signatures-of env ∙ terms-signatures (terms env) (terms env') same.terms_are ∙ sym (signatures-of env')

row-back : (rows : List SpelledTerm) (t : ℕ) (d : Signature) → slice_get (map (λ r. r.signature) rows) t ≡ Some d → (row : SpelledTerm) × (slice_get rows t ≡ Some row) × (row.signature ≡ d)
row-back [] t d at = absurd cc
row-back (r ∷ rows) zero d at = let is : r.signature ≡ d = cc in (r, refl, is)
row-back (r ∷ rows) (suc t) d at = row-back rows t d at

module _ (tables : RowsBefore) (env env' : List Declaration) (declares : Declares tables env') (same : IsSameEnv env env') where
  pub in-tables : signatures_in tables ≡ signatures env
  in-tables = signatures-are tables env' declares ∙ sym (same-signatures env env' same)

  pub sorts-in : tables.sorts ≡ sorts env
  sorts-in = declares.sorts_are ∙ sym same.sorts_are

  -- the row of a term
  pub term-row-at : (t : ℕ) (d : Signature) → slice_get (signatures env) t ≡ Some d → (row : SpelledTerm) × (slice_get tables.terms t ≡ Some row) × (row.signature ≡ d)
  term-row-at t d at = row-back tables.terms t d (subst (λ (z : List Signature). slice_get z t ≡ Some d) (sym in-tables) at)

  -- the row of an assertion spells it
  pub thm-row-at : (t : ℕ) (a : Assertion) → slice_get (assertions env) t ≡ Some a → (row : SpelledThm) × (slice_get tables.thms t ≡ Some row) × SpellsThm (signatures env) row a
  thm-row-at t a at =
      let (row, row-at, spells) = pair-back (SpellsThm (signatures env')) tables.thms (assertions env') declares.thms_are t a (subst (λ (z : List Assertion). slice_get z t ≡ Some a) same.assertions_are at) in
      (row, row-at, subst (λ (z : List Signature). SpellsThm z row a) (sym (same-signatures env env' same)) spells)

  -- the row of a definition spells a body that is the same but for dummies
  pub definition-row-at : (t : ℕ) (d : Term) → slice_get (terms env) t ≡ Some d
      → (row : SpelledTerm) × (d' : Term) × (slice_get tables.terms t ≡ Some row) × IsSameTerm d d' × SpellsTerm (signatures env) row d'
  definition-row-at t d at =
      let (d', at', is) = pair-at IsSameTerm (terms env) (terms env') same.terms_are t d at in
      let (row, row-at, spells) = pair-back (SpellsTerm (signatures env')) tables.terms (terms env') declares.terms_are t d' at' in
      (row, d', row-at, is, subst (λ (z : List Signature). SpellsTerm z row d') (sym (same-signatures env env' same)) spells)

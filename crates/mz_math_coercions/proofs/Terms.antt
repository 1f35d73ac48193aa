-- The terms of a path.
use Rattle.std.proofs.Common.{◌≡◌, ◌<◌, ◌≤◌, ◌∙◌, ◌++◌, ℕ, List, [], ◌∷◌, length, None, Option, Some, slice_get, get_or, map, ap, ap₂, sym, refl, subst, arith}
use Rattle.std.specs.Prelude.{All, IfSome, IsTrue}
use Rattle.std.specs.Option.{is_some}
use Rattle.std.proofs.lemmas.Bool.{true≢false}
use Rattle.std.proofs.lemmas.List.{length-map, map-append}
use Rattle.std.proofs.lemmas.List.Elements.{All-push}
use Rattle.std.proofs.lemmas.Option.{get_or_from_slice_get}
use Rattle.mz_logic_theory.specs.Tree.{Tree, app, none, more, under}
use Rattle.mz_math_theory.specs.declared.coercion.Coercion.{Coercion}
use Rattle.mz_math_theory.specs.Coercions.{IsPath, OnePath, coercion_term, wrapped}
use Rattle.mz_math_theory.specs.CoercionAnswers.{HasLength, IsNext}
use Rattle.mz_math_theory.proofs.Offered.{path-join, path-short}
use Rattle.mz_math_coercions.specs.Found.{AreTermsOf}
use Rattle.mz_math_coercions.specs.declared.paths.FoundPath.{FoundPath}

pub term-at : (cs : List Coercion) (p : ℕ) (c : Coercion) → slice_get cs p ≡ Some c → coercion_term cs p ≡ c.term
term-at cs p c at = ap (λ d. d.term) (get_or_from_slice_get cs p c (record { term = 0; from = 0; to = 0 }) at)

-- with one coercion more
pub terms-more : (cs : List Coercion) → OnePath cs → (from at : ℕ) (ts : List ℕ) (p : ℕ) (c : Coercion) → slice_get cs p ≡ Some c → c.from ≡ at
    → AreTermsOf cs from at ts → AreTermsOf cs from c.to (ts ++ c.term ∷ [])
terms-more cs one from at ts p c there begins (path, on, are, short) =
    let longer = path-join cs from at c.to path (p ∷ []) on (c, there, begins, refl) in (
      path ++ p ∷ [],
      longer,
      ap₂ (λ (us : List ℕ) (t : ℕ). us ++ t ∷ []) are (sym (term-at cs p c there)) ∙ sym (map-append (coercion_term cs) path (p ∷ [])),
      path-short cs one from c.to (path ++ p ∷ []) longer,
    )

-- ---- how many there are

module _ (cs : List Coercion) (from to : ℕ) (ts : List ℕ) where
  pub terms-length : (n : ℕ) → n ≡ length ts → AreTermsOf cs from to ts → HasLength cs (length cs) from to n
  terms-length n is (path, on, are, short) =
      let many : length path ≡ n = sym (is ∙ ap length are ∙ length-map path (coercion_term cs)) in
      (path, on, many, omega (arith, short, many))

  pub terms-short : AreTermsOf cs from to ts → length ts ≤ length cs
  terms-short are = (terms-length (length ts) refl are).3

-- ---- one step

-- a coercion that leads right to the end is the whole path
pub single-terms : (cs : List Coercion) → OnePath cs → (from to p : ℕ) (c : Coercion) → IsNext cs from to p c → c.to ≡ to → AreTermsOf cs from to (c.term ∷ [])
single-terms cs one from to p c next ends = subst (λ s. AreTermsOf cs from s (c.term ∷ [])) ends (terms-more cs one from from [] p c next.0 next.1 ([], refl, refl, omega arith))

pub single-length : (cs : List Coercion) (from to : ℕ) (o : Option ℕ) → IfSome o (λ t. AreTermsOf cs from to (t ∷ [])) → IsTrue (is_some o) → HasLength cs (length cs) from to 1
single-length cs from to None are some = absurd (true≢false (sym some))
single-length cs from to (Some t) are some = terms-length cs from to (t ∷ []) 1 refl are

-- ---- an expression under the terms of a path

under-terms : (cs : List Coercion) (path : List ℕ) (e : Tree) → under (map (coercion_term cs) path) e ≡ wrapped cs path e
under-terms cs [] e = refl
under-terms cs (p ∷ path) e = under-terms cs path (app (coercion_term cs p) (more e none))

pub under-wrapped : (cs : List Coercion) (from to : ℕ) (ts : List ℕ) (e f : Tree) → f ≡ under ts e → AreTermsOf cs from to ts → (path : List ℕ) × IsPath cs from path to × (f ≡ wrapped cs path e)
under-wrapped cs from to ts e f is (path, on, are, short) = (path, on, is ∙ ap (λ us. under us e) are ∙ under-terms cs path e)

-- ---- the terms that are kept

abbrev pub IsFound : List Coercion → FoundPath → Type 0
IsFound cs f = AreTermsOf cs f.from f.to f.terms

pub found-more : (cs : List Coercion) (fs new : List FoundPath) (f : FoundPath) → new ≡ fs ++ f ∷ [] → All (IsFound cs) fs → IsFound cs f → All (IsFound cs) new
found-more cs fs new f is all one = subst (All (IsFound cs)) (sym is) (All-push (IsFound cs) fs f all one)

pub found-at : (cs : List Coercion) (fs : List FoundPath) (i : ℕ) (f : FoundPath) (from to : ℕ) (ts : List ℕ) → All (IsFound cs) fs → i < length fs → f ≡ get_or fs i f
    → f.from ≡ from → f.to ≡ to → ts ≡ f.terms → AreTermsOf cs from to ts
found-at cs fs i f from to ts all below is begins ends same =
    subst (AreTermsOf cs from to) (sym same)
    (subst (λ t. AreTermsOf cs from t f.terms) ends
    (subst (λ s. AreTermsOf cs s f.to f.terms) begins
    (subst (IsFound cs) (sym is) (all i f below))))

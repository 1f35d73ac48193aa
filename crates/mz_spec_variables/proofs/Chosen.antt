-- The parameters, the dummies and the places of dependencies among variables, from one variable on.
use Rattle.std.proofs.Common.{◌≡◌, ◌∙◌, ◌<◌, ◌+◌, ◌++◌, ℕ, List, [], ◌∷◌, length, map, drop, drop-cons, add-one, get_or, true, false, ap, ap₂, sym, append_assoc}
use Rattle.std.proofs.lemmas.Bool.{cond-true, cond-false}
use Rattle.std.proofs.lemmas.List.{map-append}
use Rattle.mz_spec_variables.specs.declared.variables.Variable.{Variable}
use Rattle.mz_spec_variables.specs.Code.{dummies_read, params_read, variable}
use Rattle.mz_spec_theory.specs.View.{dummies_of, is_among, params_of}
use Rattle.mz_spec_theory.specs.Dependencies.{dep_places}
use Rattle.mz_lex.specs.Lexemes.{Lexeme}

-- one more is taken
pub one-taken : {A : Type 0} (xs ys : List A) (x : A) (now later all : List A) → now ≡ x ∷ later → ys ≡ xs ++ x ∷ [] → xs ++ now ≡ all → ys ++ later ≡ all
one-taken xs ys x now later all first more so_far =
    ap (λ zs. zs ++ later) more ∙ append_assoc xs (x ∷ []) later ∙ ap (λ zs. xs ++ zs) (sym first) ∙ so_far

pub one-mapped : {A B : Type 0} (g : A → B) (xs ys : List A) (x : A) (now later all : List B) → now ≡ g x ∷ later → ys ≡ xs ++ x ∷ [] → map g xs ++ now ≡ all → map g ys ++ later ≡ all
one-mapped g xs ys x now later all first more = one-taken (map g xs) (map g ys) (g x) now later all first (ap (map g) more ∙ map-append g xs (x ∷ []))

module _ (vs : List Variable) (i : ℕ) (v : Variable) (within : i < length vs) (is : v ≡ get_or vs i v) where
  abbrev rest : List Variable
  rest = drop (i + 1) vs

  here : drop i vs ≡ v ∷ rest
  here = drop-cons vs i v within ∙ ap₂ ◌∷◌ (sym is) (ap (λ k. drop k vs) (sym (add-one i)))

  pub dummy-first : v.is_dummy ≡ true → dummies_of (map variable (drop i vs)) ≡ variable v ∷ dummies_of (map variable (drop (i + 1) vs))
  dummy-first dummy = ap (λ xs. dummies_of (map variable xs)) here ∙ cond-true v.is_dummy (variable v ∷ dummies_of (map variable rest)) (dummies_of (map variable rest)) dummy

  pub dummy-passed : v.is_dummy ≡ false → dummies_of (map variable (drop i vs)) ≡ dummies_of (map variable (drop (i + 1) vs))
  dummy-passed isnt = ap (λ xs. dummies_of (map variable xs)) here ∙ cond-false v.is_dummy (variable v ∷ dummies_of (map variable rest)) (dummies_of (map variable rest)) isnt

  pub dummy-read : v.is_dummy ≡ true → dummies_read (drop i vs) ≡ v ∷ dummies_read (drop (i + 1) vs)
  dummy-read dummy = ap dummies_read here ∙ cond-true v.is_dummy (v ∷ dummies_read rest) (dummies_read rest) dummy

  pub dummy-unread : v.is_dummy ≡ false → dummies_read (drop i vs) ≡ dummies_read (drop (i + 1) vs)
  dummy-unread isnt = ap dummies_read here ∙ cond-false v.is_dummy (v ∷ dummies_read rest) (dummies_read rest) isnt

  pub param-first : v.is_dummy ≡ false → params_of (map variable (drop i vs)) ≡ variable v ∷ params_of (map variable (drop (i + 1) vs))
  param-first isnt = ap (λ xs. params_of (map variable xs)) here ∙ cond-false v.is_dummy (params_of (map variable rest)) (variable v ∷ params_of (map variable rest)) isnt

  pub param-passed : v.is_dummy ≡ true → params_of (map variable (drop i vs)) ≡ params_of (map variable (drop (i + 1) vs))
  param-passed dummy = ap (λ xs. params_of (map variable xs)) here ∙ cond-true v.is_dummy (params_of (map variable rest)) (variable v ∷ params_of (map variable rest)) dummy

  pub param-read : v.is_dummy ≡ false → params_read (drop i vs) ≡ v ∷ params_read (drop (i + 1) vs)
  param-read isnt = ap params_read here ∙ cond-false v.is_dummy (params_read rest) (v ∷ params_read rest) isnt

  pub param-unread : v.is_dummy ≡ true → params_read (drop i vs) ≡ params_read (drop (i + 1) vs)
  param-unread dummy = ap params_read here ∙ cond-true v.is_dummy (params_read rest) (v ∷ params_read rest) dummy

  pub place-first : (ds : List Lexeme) → is_among ds (variable v).name ≡ true → dep_places i (map variable (drop i vs)) ds ≡ i ∷ dep_places (i + 1) (map variable (drop (i + 1) vs)) ds
  place-first ds among = ap (λ xs. dep_places i (map variable xs) ds) here ∙ cond-true (is_among ds (variable v).name) (i ∷ dep_places (i + 1) (map variable rest) ds) (dep_places (i + 1) (map variable rest) ds) among

  pub place-passed : (ds : List Lexeme) → is_among ds (variable v).name ≡ false → dep_places i (map variable (drop i vs)) ds ≡ dep_places (i + 1) (map variable (drop (i + 1) vs)) ds
  place-passed ds isnt = ap (λ xs. dep_places i (map variable xs) ds) here ∙ cond-false (is_among ds (variable v).name) (i ∷ dep_places (i + 1) (map variable rest) ds) (dep_places (i + 1) (map variable rest) ds) isnt

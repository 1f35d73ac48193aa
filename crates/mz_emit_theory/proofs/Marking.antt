-- Places, names and variables that are met.
use Rattle.std.proofs.Common.{◌≡◌, ℕ, zero, suc, ◌<◌, Bool, true, false, cond, eqb, List, [], ◌∷◌, ◌++◌, length, Option, Some, None, refl, sym, ap, subst, inl, inr, arith, eq-eqb, not-suc-le-zero}
use Rattle.std.specs.Prelude.{slice_get, Contains}
use Rattle.std.specs.Option.{option_map}
use Rattle.std.proofs.lemmas.Bool.{eqb-true}
use Rattle.mz_base.proofs.Offered.{both-true}
use Rattle.mz_logic_theory.specs.Tree.{Tree, Trees, var, app, none, more}
use Rattle.mz_logic_theory.specs.Variables.{Occurs, OccursIn}
use Rattle.mz_logic_theory.proofs.Offered.{among-true}
use Rattle.mz_machine_theory.specs.Tests.{same_tree}
use Rattle.mz_machine_theory.proofs.Offered.{not-both, member-contains, same_tree-true, same_tree-refl}
use Rattle.mz_emit_theory.specs.SymbolicState.{place_of}
use Rattle.mz_emit_theory.specs.StreamWriting.{place_in, are_met, all_are_met}

-- ---- places of expressions

pub place-found : (e : Tree) (ts : List Tree) (i : ℕ) → place_in e ts ≡ Some i → slice_get ts i ≡ Some e
place-found e [] i h = absurd cc
place-found e (f ∷ ts) i h = go (same_tree e f) refl h (λ k is. place-found e ts k is)
  where
    further : (o : Option ℕ) → place_in e ts ≡ o → ((k : ℕ) → place_in e ts ≡ Some k → slice_get ts k ≡ Some e) → option_map suc o ≡ Some i → slice_get (f ∷ ts) i ≡ Some e
    further None is later e' = absurd cc
    further (Some k) is later e' =
        let same : suc k ≡ i = cc in
        subst (λ (z : ℕ). slice_get (f ∷ ts) z ≡ Some e) same (later k is)

    go : (b : Bool) → same_tree e f ≡ b → cond b (Some 0) (option_map suc (place_in e ts)) ≡ Some i → ((k : ℕ) → place_in e ts ≡ Some k → slice_get ts k ≡ Some e) → slice_get (f ∷ ts) i ≡ Some e
    go true is h' later =
        let same : 0 ≡ i = cc in
        subst (λ (z : ℕ). slice_get (f ∷ ts) z ≡ Some e) same (ap (λ (z : Tree). Some z) (sym (same_tree-true e f is)))
    go false is h' later = further (place_in e ts) refl later h'

pub place-missing : (e : Tree) (ts : List Tree) → place_in e ts ≡ None → (i : ℕ) → slice_get ts i ≡ Some e → ⊥
place-missing e [] h i at = cc
place-missing e (f ∷ ts) h i at = go (same_tree e f) refl h i at (λ is j. place-missing e ts is j)
  where
    further : (o : Option ℕ) → place_in e ts ≡ o → option_map suc o ≡ None → place_in e ts ≡ None
    further None is e' = is
    further (Some k) is e' = absurd cc

    go : (b : Bool) → same_tree e f ≡ b → cond b (Some 0) (option_map suc (place_in e ts)) ≡ None → (j : ℕ) → slice_get (f ∷ ts) j ≡ Some e
        → (place_in e ts ≡ None → (k : ℕ) → slice_get ts k ≡ Some e → ⊥) → ⊥
    go true is h' j at' later = cc
    go false is h' zero at' later =
        let same : f ≡ e = cc in
        not-both (same_tree e f) (subst (λ (z : Tree). same_tree e z ≡ true) (sym same) (same_tree-refl e)) is
    go false is h' (suc j) at' later = later (further (place_in e ts) refl h') j at'

-- ---- names

pub place-front : (met others : List ℕ) (x : ℕ) → Contains met x → place_of x (met ++ others) ≡ place_of x met
place-front [] others x (k, lt, is) = absurd (not-suc-le-zero lt)
place-front (z ∷ met) others x has = go (eqb x z) refl has (place-front met others x)
  where
    go : (b : Bool) → eqb x z ≡ b → Contains (z ∷ met) x → (Contains met x → place_of x (met ++ others) ≡ place_of x met) → cond b 0 (suc (place_of x (met ++ others))) ≡ cond b 0 (suc (place_of x met))
    go true is h later = refl
    go false is (zero, lt, same) later = absurd (not-both (eqb x z) (eq-eqb x z (sym same)) is)
    go false is (suc k, lt, same) later = ap suc (later (k, omega arith, same))

pub place-below : (met : List ℕ) (x : ℕ) → Contains met x → place_of x met < length met
place-below [] x (k, lt, is) = absurd (not-suc-le-zero lt)
place-below (z ∷ met) x has = go (eqb x z) refl has (place-below met x)
  where
    go : (b : Bool) → eqb x z ≡ b → Contains (z ∷ met) x → (Contains met x → place_of x met < length met) → cond b 0 (suc (place_of x met)) < suc (length met)
    go true is h later = omega arith
    go false is (zero, lt, same) later = absurd (not-both (eqb x z) (eq-eqb x z (sym same)) is)
    go false is (suc k, lt, same) later = let below = later (k, omega arith, same) in omega (arith, below)

-- what has a place among the first is one of them
pub place-among : (met others : List ℕ) (x : ℕ) → place_of x (met ++ others) < length met → Contains met x
place-among [] others x lt = absurd (not-suc-le-zero lt)
place-among (z ∷ met) others x lt = go (eqb x z) refl lt (place-among met others x)
  where
    go : (b : Bool) → eqb x z ≡ b → cond b 0 (suc (place_of x (met ++ others))) < suc (length met) → (place_of x (met ++ others) < length met → Contains met x) → Contains (z ∷ met) x
    go true is h later = (0, omega arith, sym (eqb-true _ _ is))
    go false is h later = let (k, k-lt, same) = later (omega arith) in (suc k, omega arith, same)

-- ---- variables that are met

mutual
  pub all-met : (met : List ℕ) (e : Tree) → are_met met e ≡ true → (y : ℕ) → Occurs y e → Contains met y
  all-met met (var x) h y o = subst (Contains met) (sym o) (member-contains x met h)
  all-met met (app t es) h y o = each-met met es h y o

  pub each-met : (met : List ℕ) (es : Trees) → all_are_met met es ≡ true → (y : ℕ) → OccursIn y es → Contains met y
  each-met met none h y o = absurd o
  each-met met (more e es) h y (inl o) = all-met met e (both-true (are_met met e) (all_are_met met es) h).0 y o
  each-met met (more e es) h y (inr o) = each-met met es (both-true (are_met met e) (all_are_met met es) h).1 y o

mutual
  pub met-all : (met : List ℕ) (e : Tree) → ((y : ℕ) → Occurs y e → Contains met y) → are_met met e ≡ true
  met-all met (var x) h = among-true x met (h x refl)
  met-all met (app t es) h = met-each met es h

  pub met-each : (met : List ℕ) (es : Trees) → ((y : ℕ) → OccursIn y es → Contains met y) → all_are_met met es ≡ true
  met-each met none h = refl
  met-each met (more e es) h = rw (met-all met e λ y o. h y (inl o), met-each met es λ y o. h y (inr o)) refl

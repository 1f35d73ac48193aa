-- Each rule on names, precedences and binders holds or fails.
use Rattle.std.proofs.Common.{◌≡◌, ◌⊎◌, ◌++◌, ℕ, zero, suc, List, [], ◌∷◌, Option, Some, None, refl, inl, inr, arith}
use Rattle.std.specs.Prelude.{IsBitSet, bit_and, ◌^◌, ◌≢◌}
use Rattle.mz_base.proofs.Offered.{either-decided, not-decided, three-decided, Decided, true-decided, are_decided-both, are_decided-rows, both-decided, implied-decided, bytes-decided, at_most-decided}
use Rattle.mz_lex.specs.Lexemes.{Lexeme}
use Rattle.mz_base.specs.Checks.{AreDecided, each_in_order}
use Rattle.mz_logic_theory.specs.Modifiers.{IsPure, IsStrict, IsFree}
use Rattle.mz_logic_theory.specs.declared.binder.SortMods.{SortMods}
use Rattle.mz_spec_theory.specs.Statement.{TypeText, Level, number_level, level_max}
use Rattle.mz_base.specs.Names.{number_of}
use Rattle.mz_math_theory.proofs.Offered.{some-with}
use Rattle.mz_spec_theory.specs.View.{Variable, View, names_of, name_texts, params_of, dummies_of}
use Rattle.mz_spec_theory.specs.State.{State, names_in}
use Rattle.mz_spec_theory.specs.Forms.{number_in, highest_level}
use Rattle.mz_spec_theory.specs.Rules.{is_level, is_new, is_other, are_others, is_known, type_checks, mods_of, HasSortThat, IsBinder, AreBinders, DependsOnNothing, IsResult, IsDummySort, IsNotPure, name_rules, use_rules, binder_rules}
use Rattle.mz_spec_theory.specs.Dependencies.{IsCalled, IsBoundAmong}
use Rattle.mz_spec_theory.proofs.FreeDecided.{every-decided}

new-decided : (o : Option ℕ) → Decided (o ≡ None)
new-decided None = inl refl
new-decided (Some k) = inr (λ e. cc)

known-decided : (o : Option ℕ) → Decided ((n : ℕ) × (o ≡ Some n))
known-decided None = inr (λ k. some-none k.0 k.1)
  where
    some-none : (n : ℕ) → None ≡ Some n → ⊥
    some-none n e = cc
known-decided (Some n) = inl (n, refl)

level-decided : (l : Level) → AreDecided (is_level l)
level-decided (number_level l) = (at_most-decided (number_in l) highest_level, λ _. tt)
level-decided level_max = tt

pub levels-decided : (ls : List Level) → AreDecided (each_in_order is_level ls)
levels-decided ls = are_decided-rows is_level level-decided ls

other-decided : (seen : List (List ℕ)) (o : Option Lexeme) → AreDecided (is_other seen o)
other-decided seen None = tt
other-decided seen (Some l) = (new-decided (number_of seen l.text), λ _. tt)

others-decided : (seen : List (List ℕ)) (vs : List Variable) → AreDecided (are_others seen vs)
others-decided seen [] = tt
others-decided seen (v ∷ vs) = are_decided-both (is_other seen v.name) _ (other-decided seen v.name) (λ _. others-decided (seen ++ name_texts v.name) vs)

pub names-decided : (σ : State) (v : View) → AreDecided (name_rules σ v)
names-decided σ v =
    are_decided-both (each_in_order (is_new σ) v.declares) (are_others [] v.variables) (are_decided-rows (is_new σ) (λ d. (new-decided (number_of (names_in σ d.space) d.name.text), λ _. tt)) v.declares)
    (λ _. others-decided [] v.variables)

name-decided : (names : List (List ℕ)) (l : Lexeme) → AreDecided (is_known names l)
name-decided names l = (known-decided (number_of names l.text), λ _. tt)

type-decided : (σ : State) (names : List (List ℕ)) (t : TypeText) → AreDecided (type_checks σ names t)
type-decided σ names t = are_decided-both (is_known σ.sort_names t.sort) _ (name-decided σ.sort_names t.sort) (λ _. are_decided-rows (is_known names) (name-decided names) t.deps)

pub uses-decided : (σ : State) (v : View) → AreDecided (use_rules σ v)
uses-decided σ v =
    are_decided-both (each_in_order (is_known σ.term_names) v.mentions) _ (are_decided-rows (is_known σ.term_names) (name-decided σ.term_names) v.mentions)
    (λ _. are_decided-rows (type_checks σ (names_of v.variables)) (type-decided σ (names_of v.variables)) v.types)

-- ---- binders

empty-decided : (ls : List Lexeme) → Decided (ls ≡ [])
empty-decided [] = inl refl
empty-decided (l ∷ ls) = inr (λ e. cc)

called-decided : (o : Option Lexeme) (text : List ℕ) → Decided (IsCalled o text)
called-decided None text = inr (λ e. e)
called-decided (Some l) text = bytes-decided l.text text

bound-decided : (vs : List Variable) (l : Lexeme) → Decided (IsBoundAmong vs l)
bound-decided [] l = inr (λ e. e)
bound-decided (v ∷ vs) l = either-decided (both-decided (true-decided v.is_bound) (called-decided v.name l.text)) (bound-decided vs l)

bit-decided : (n k : ℕ) → Decided (IsBitSet n k)
bit-decided n k = go (bit_and n (2 ^ k))
  where
    go : (m : ℕ) → (m ≢ 0) ⊎ (m ≢ 0 → ⊥)
    go zero = inr (λ out. out refl)
    go (suc m) = inl (λ e. absurd (omega (arith, e)))

sort-decided : (σ : State) (P : SortMods → Type 0) → ((m : SortMods) → Decided (P m)) → (t : TypeText) → Decided (HasSortThat σ P t)
sort-decided σ P d t = some-with P d (mods_of σ t)

binder-decided : (σ : State) (before : List Variable) (v : Variable) → Decided (IsBinder σ before v)
binder-decided σ before v =
    both-decided (implied-decided (true-decided v.is_bound) (both-decided (empty-decided v.type.deps) (not-decided (sort-decided σ IsStrict (λ m. bit-decided m.0 1) v.type))))
    (every-decided (IsBoundAmong before) (bound-decided before) v.type.deps)

binders-decided : (σ : State) (before vs : List Variable) → Decided (AreBinders σ before vs)
binders-decided σ before [] = inl tt
binders-decided σ before (v ∷ vs) = both-decided (binder-decided σ before v) (binders-decided σ (before ++ v ∷ []) vs)

result-decided : (vs : List Variable) (t : TypeText) → Decided (IsResult vs t)
result-decided vs t = every-decided (IsBoundAmong vs) (bound-decided vs) t.deps

dummy-decided : (σ : State) (v : Variable) → Decided (IsDummySort σ v)
dummy-decided σ v = not-decided (sort-decided σ (λ m. IsStrict m ⊎ IsFree m) (λ m. either-decided (bit-decided m.0 1) (bit-decided m.0 3)) v.type)

pure-decided : (σ : State) (t : TypeText) → Decided (IsNotPure σ t)
pure-decided σ t = not-decided (sort-decided σ IsPure (λ m. bit-decided m.0 0) t)

pub parts-decided : (σ : State) (place : ℕ) (vs : List Variable) (results : List TypeText) → AreDecided (binder_rules σ place vs results)
parts-decided σ place vs results = (
  three-decided (binders-decided σ [] (params_of vs)) (every-decided DependsOnNothing (λ v. empty-decided v.type.deps) (dummies_of vs)) (every-decided (IsResult (params_of vs)) (result-decided (params_of vs)) results),
  λ _. (every-decided (IsDummySort σ) (dummy-decided σ) (dummies_of vs), λ _. (every-decided (IsNotPure σ) (pure-decided σ) results, λ _. tt)),
)

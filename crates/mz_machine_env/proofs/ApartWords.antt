-- Operands that are disjoint, by the words of their variables.
use Rattle.std.proofs.Common.{◌≡◌, ℕ, Bool, true, false, eqb, List, [], length, Some, Ok, refl, sym, ap, ◌∙◌, subst, arith, eq-eqb}
use Rattle.std.specs.Prelude.{slice_get, not, bit_and, if◌then◌else◌}
use Rattle.std.proofs.lemmas.Bool.{eqb-true}
use Rattle.mz_base.proofs.Offered.{slice_get-some, not-true}
use Rattle.mz_logic_theory.specs.Tree.{Tree}
use Rattle.mz_logic_theory.specs.Signature.{Signature}
use Rattle.mz_logic_theory.specs.Sorts.{IsBoundVar}
use Rattle.mz_logic_theory.specs.Variables.{InV}
use Rattle.mz_logic_theory.specs.Words.{word_bound, word_deps, bound_places, binders_of}
use Rattle.mz_logic_theory.specs.declared.binder.Binder.{Binder}
use Rattle.mz_logic_theory.specs.declared.word.Word.{Word}
use Rattle.mz_store.specs.Bits.{Tells, bound_vars}
use Rattle.mz_store.specs.declared.item.Id.{Id}
use Rattle.mz_store.specs.declared.item.DepsMode.TheVariants.{All}
use Rattle.mz_store.proofs.Offered.{bits-meet}
use Rattle.mz_machine_theory.specs.Tests.{is_bound_var, in_v, var_within}
use Rattle.mz_machine_theory.proofs.Offered.{some_is, bound-is, in-v-true, v-in}
use Rattle.mz_machine_theory.specs.Premises.{operands_fit}
use Rattle.mz_machine_env.specs.OperandRows.{AreAmong}
use Rattle.mz_machine_env.proofs.DisjointPlaces.{place-below, place-fits, apart-none, whole_row, decides-first}

-- the word names all variables of the expression
abbrev pub TellsV : List Binder → ℕ → Tree → Type 0
TellsV ctx word e = Tells (bound_vars ctx) word (λ x. InV ctx x e)

-- a bound variable is in V of an expression where their words share a bit
pub apart-words : (ctx : List Binder) (e f : Tree) (v w : ℕ) → TellsV ctx v e → TellsV ctx w f → is_bound_var ctx f ≡ true → eqb (bit_and v w) 0 ≡ not (var_within ctx f e)
apart-words ctx e f v w told own bd = go (bound-is ctx f bd)
  where
    by : (x : ℕ) → ((bit_and v w ≡ 0 → ⊥) → in_v ctx x e ≡ true) → (in_v ctx x e ≡ true → bit_and v w ≡ 0 → ⊥) → eqb (bit_and v w) 0 ≡ not (in_v ctx x e)
    by x to from = on (in_v ctx x e) refl
      where
        on : (b : Bool) → in_v ctx x e ≡ b → eqb (bit_and v w) 0 ≡ not b
        on true has = not-zero (eqb (bit_and v w) 0) refl
          where
            not-zero : (z : Bool) → eqb (bit_and v w) 0 ≡ z → z ≡ false
            not-zero true is = absurd (from has (eqb-true _ _ is))
            not-zero false is = refl
        on false out = is-zero (eqb (bit_and v w) 0) refl
          where
            is-zero : (z : Bool) → eqb (bit_and v w) 0 ≡ z → z ≡ true
            is-zero true is = refl
            is-zero false is = absurd (let some : in_v ctx x e ≡ true = to (λ z. let t = eq-eqb (bit_and v w) 0 z in absurd cc) in cc)

    go : IsBoundVar ctx f → eqb (bit_and v w) 0 ≡ not (var_within ctx f e)
    go (x, b, is, at, bound) =
        let (to, from) = bits-meet All [] ctx e w v x (b, at, bound) (subst (λ t. Tells (bound_vars ctx) w (λ y. InV ctx y t)) is own) told in
        by x (λ some. v-in ctx x e (to some)) (λ has. from (in-v-true ctx x e has))
        ∙ ap (λ z. not (var_within ctx z e)) (sym is)

-- and it isn't where they share none
apart-word : (ctx : List Binder) (e f : Tree) (v w : ℕ) → TellsV ctx v e → TellsV ctx w f → is_bound_var ctx f ≡ true → bit_and v w ≡ 0 → var_within ctx f e ≡ false
apart-word ctx e f v w told own bd none = not-true (var_within ctx f e) (sym (apart-words ctx e f v w told own bd) ∙ eq-eqb (bit_and v w) 0 none)

-- operands by ids, each with its tree and its word
module _ (sigs : List Signature) (ctx : List Binder) (ids : List Id) (es : List Tree) (tree : Id → Tree) (word : Id → ℕ)
    (tree-at : (k : ℕ) (id : Id) → slice_get ids k ≡ Some id → slice_get es k ≡ Some (tree id))
    (told : (k : ℕ) (id : Id) → slice_get ids k ≡ Some id → TellsV ctx (word id) (tree id)) where
  -- an operand that shares no variable with any of the bound parameters' is disjoint
  pub apart-at-once : (ws : List Word) → length ids ≡ length ws → length es ≡ length ws → operands_fit sigs ctx es (binders_of ws) ≡ Ok tt
      → (places : List ℕ) → places ≡ bound_places 0 ws → (all : ℕ) → AreAmong word ids places all
      → (i : ℕ) (id : Id) (w : Word) → slice_get ids i ≡ Some id → slice_get ws i ≡ Some w → bit_and (word id) all ≡ 0 → whole_row ctx es ws i w (tree id) ≡ true
  apart-at-once ws many as-many fit places are all among i id w at wat none =
      let bits = if word_bound w then 0 else word_deps w in
      sym (decides-first ctx es ws as-many i w (tree id) bits places are refl)
      ∙ apart-none ctx i (tree id) es bits places λ k p f pat there.
      let low = place-below ws places are k p pat in
      let (g, gat) = slice_get-some ids p (omega (arith, low, many)) in
      let is : tree g ≡ f = some_is (tree-at p g gat) there in
      let bd = place-fits ctx es ws sigs tt fit places are k p pat (tree g) (tree-at p g gat) in
      subst (λ t. var_within ctx t (tree id) ≡ false) is
      (apart-word ctx (tree id) (tree g) (word id) (word g) (told i id at) (told p g gat) bd (among (word id) k p g pat gat none))

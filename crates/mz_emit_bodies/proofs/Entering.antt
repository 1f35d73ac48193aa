-- Variables that are entered: the parameters, and dummies behind them.
use Rattle.std.proofs.Common.{ℕ, zero, suc, ◌≡◌, ◌<◌, ◌+◌, Bool, true, false, List, [], ◌∷◌, ◌++◌, length, slice_get, Some, refl, ap, sym, ◌∙◌, subst, inl, inr, arith, if◌then◌else◌}
use Rattle.std.proofs.lemmas.Option.{none-some}
use Rattle.mz_logic_theory.specs.Tree.{Tree, Trees, var, none, more, followed_by}
use Rattle.mz_logic_theory.specs.Signature.{Signature}
use Rattle.mz_logic_theory.specs.Legality.{Each, IsDummy}
use Rattle.mz_logic_theory.specs.Words.{binders_of}
use Rattle.mz_logic_theory.specs.declared.binder.Binder.{Binder}
use Rattle.mz_logic_theory.specs.declared.word.Word.{Word}
use Rattle.mz_logic_theory.proofs.Offered.{one_at, split_at, length-binders}
use Rattle.mz_store.specs.Bits.{bound_from, bound_vars}
use Rattle.mz_store.specs.Sharing.{Sharing, AreIn, Holds, IsOver, KeepsIds, tree_of, trees_of, dummy_binder}
use Rattle.mz_store.specs.declared.item.DepsMode.TheVariants as of
use Rattle.mz_store.specs.declared.item.Id.{Id}
use Rattle.mz_machine_theory.specs.Spells.{trees_of as operands_of, variables_from}
use Rattle.mz_emit_bodies.specs.Variables.{IsShared}
use Rattle.mz_emit_bodies.proofs.Making.{trees_push, in_push, are_in_grown, trees_grown}

-- ---- numbers in order

pub number_push : (is : List Id) (i : Id) → Each is (λ k id. id.0 ≡ k) → i.0 ≡ length is → Each (is ++ i ∷ []) (λ k id. id.0 ≡ k)
number_push is i h new k id at = elim (split_at is (i ∷ []) k id at) [
  | inl here ↦ h k id here
  | inr later ↦ last later.0 later.1 later.2
]
  where
    last : (j : ℕ) → k ≡ length is + j → slice_get (i ∷ []) j ≡ Some id → id.0 ≡ k
    last zero is at = (let same : i ≡ id = one_at refl at in let e : i.0 ≡ id.0 = ap (λ (z : Id). z.0) same in omega (arith, is, new, e))
    last (suc j) is at = absurd (none-some _ at)

-- ---- the variables of a context

-- ids whose trees are the variables from the j-th on
from_numbers : (s : Sharing) (j : ℕ) (vars : List Id) (ctx : List Binder) → length vars ≡ length ctx → ((i : ℕ) (id : Id) → slice_get vars i ≡ Some id → Holds s id.0 (var (j + i)))
    → AreIn s vars × (trees_of s vars ≡ operands_of (variables_from j ctx))
from_numbers s j [] [] long h = (tt, refl)
from_numbers s j (v ∷ vars) (b ∷ ctx) long h =
    let first : Holds s v.0 (var (j + 0)) = h 0 v refl in
    let rest : AreIn s vars × (trees_of s vars ≡ operands_of (variables_from (suc j) ctx)) =
    from_numbers s (suc j) vars ctx (omega (arith, long)) (λ i id at. subst (λ (n : ℕ). Holds s id.0 (var n)) (omega arith) (h (suc i) id at)) in
    ((first.0, rest.0), ap (λ (e : Tree). more e (trees_of s vars)) (first.1 ∙ ap var (omega arith)) ∙ ap (more (var j)) rest.1)
from_numbers s j _ _ long h = absurd (omega (arith, long))

pub parameters_shared : (s : Sharing) (ws : List Word) (vars : List Id) → s.context ≡ binders_of ws → s.mode ≡ of.All → length s.entries ≡ length ws
    → ((i : ℕ) → i < length ws → tree_of s i ≡ var i) → ((sigs : List Signature) → IsOver sigs s) → length vars ≡ length ws → Each vars (λ i id. id.0 ≡ i)
    → (sigs : List Signature) → IsShared sigs s vars
parameters_shared s ws vars context mode many trees over long numbers sigs =
    let both : AreIn s vars × (trees_of s vars ≡ operands_of (variables_from 0 s.context)) =
    from_numbers s 0 vars s.context (long ∙ sym (ap length context ∙ length-binders 0 [] ws)) (λ i id at. held i id at) in
    record { over = over sigs; all = mode; inside = both.0; trees = both.1; numbers = numbers }
  where
    within : (xs : List Id) (i : ℕ) (id : Id) → slice_get xs i ≡ Some id → i < length xs
    within [] i id at = absurd (none-some _ at)
    within (x ∷ xs) zero id at = omega arith
    within (x ∷ xs) (suc i) id at = (let lt = within xs i id at in omega (arith, lt))

    held : (i : ℕ) (id : Id) → slice_get vars i ≡ Some id → Holds s id.0 (var (0 + i))
    held i id at =
        let lt = within vars i id at in
        let is : id.0 ≡ i = numbers i id at in
        (omega (arith, lt, is, long, many), ap (tree_of s) is ∙ trees i (omega (arith, lt, long)) ∙ ap var (omega arith))

-- ---- a dummy more

pub own_push : (j : ℕ) (ctx : List Binder) (b : Binder) → operands_of (variables_from j (ctx ++ b ∷ [])) ≡ followed_by (operands_of (variables_from j ctx)) (more (var (j + length ctx)) none)
own_push j [] b = ap (λ (n : ℕ). more (var n) none) (omega arith)
own_push j (c ∷ ctx) b = ap (more (var j)) (own_push (suc j) ctx b ∙ ap (λ (n : ℕ). followed_by (operands_of (variables_from (suc j) ctx)) (more (var n) none)) (omega arith))

pub dummy_shared : (s s' : Sharing) (vars : List Id) (id : Id) (sort : ℕ) → ((sigs : List Signature) → IsShared sigs s vars) → length s.entries ≡ length vars
    → id.0 ≡ length s.entries → Holds s' id.0 (var (length s.context)) → s'.context ≡ s.context ++ dummy_binder sort ∷ [] → s'.mode ≡ s.mode → KeepsIds s s'
    → ((sigs : List Signature) → IsOver sigs s → IsOver sigs s') → (sigs : List Signature) → IsShared sigs s' (vars ++ id ∷ [])
dummy_shared s s' vars id sort h alone number holds context mode kept over sigs = record {
  over = over sigs (h sigs).over;
  all = mode ∙ (h sigs).all;
  inside = in_push s' vars id (are_in_grown s here (refl, refl, (kept.0, kept.1)) vars (h sigs).inside) holds.0;
  trees = trees_push s' vars id
      ∙ ap (λ (es : Trees). followed_by es (more (tree_of s' id.0) none)) (trees_grown s here (refl, refl, (kept.0, kept.1)) vars (h sigs).inside ∙ (h sigs).trees)
      ∙ ap (λ (e : Tree). followed_by (operands_of (variables_from 0 s.context)) (more e none)) (holds.1 ∙ ap var (omega arith))
      ∙ sym (own_push 0 s.context (dummy_binder sort))
      ∙ ap (λ (ctx : List Binder). operands_of (variables_from 0 ctx)) (sym context);
  numbers = number_push vars id (h sigs).numbers (number ∙ alone);
}
  where
    -- the same entries under the old context
    here : Sharing
    here = record { context = s.context; mode = s.mode; entries = s'.entries }

bound_push : (j : ℕ) (ctx : List Binder) (sort : ℕ) → length (bound_from j (ctx ++ dummy_binder sort ∷ [])) ≡ suc (length (bound_from j ctx))
bound_push j [] sort = refl
bound_push j (b ∷ ctx) sort = go b.bound (bound_push (suc j) ctx sort)
  where
    go : (v : Bool) → length (bound_from (suc j) (ctx ++ dummy_binder sort ∷ [])) ≡ suc (length (bound_from (suc j) ctx))
        → length (if v then j ∷ bound_from (suc j) (ctx ++ dummy_binder sort ∷ []) else bound_from (suc j) (ctx ++ dummy_binder sort ∷ []))
        ≡ suc (length (if v then j ∷ bound_from (suc j) ctx else bound_from (suc j) ctx))
    go true is = ap suc is
    go false is = is

pub one_bound_more : (ctx : List Binder) (sort : ℕ) → length (bound_vars (ctx ++ dummy_binder sort ∷ [])) ≡ suc (length (bound_vars ctx))
one_bound_more ctx sort = bound_push 0 ctx sort

pub dummy_is : (b : Binder) → IsDummy b → dummy_binder b.sort ≡ b
dummy_is b (bound, deps) = ap (λ (v : Bool). record { sort = b.sort; bound = v; deps = [] }) (sym bound) ∙ ap (λ (ds : List ℕ). record { sort = b.sort; bound = b.bound; deps = ds }) (sym deps)

-- Words that share a bit, and ids that keep their trees.
use Rattle.std.proofs.Common.{ℕ, zero, suc, ◌≡◌, ◌+◌, ◌*◌, ◌^◌, ◌↔◌, Bool, true, false, List, [], ◌∷◌, slice_get, Some, bit_and, refl, ap, sym, ◌∙◌, subst, inl, inr, arith, if◌then◌else◌}
use Rattle.std.specs.Int.{bit_at}
use Rattle.std.proofs.lemmas.Bool.Decides.{eqb_tells}
use Rattle.std.proofs.lemmas.Nat.Bits.{bit_at-pow_same, bit_at-pow_other, and_pow, same_from_bits}
use Rattle.std.proofs.lemmas.Nat.{pow_pos}
use Rattle.std.proofs.lemmas.Option.{none-some}
use Rattle.mz_logic_theory.specs.Tree.{Tree, var}
use Rattle.mz_logic_theory.specs.Signature.{Signature}
use Rattle.mz_logic_theory.specs.Variables.{IsBoundAt}
use Rattle.mz_logic_theory.specs.declared.binder.Binder.{Binder}
use Rattle.mz_logic_theory.proofs.Offered.{one_at}
use Rattle.mz_store.specs.Bits.{Tells, bound_from, bound_vars}
use Rattle.mz_store.specs.Sharing.{Shared, tree_of, deps_of, DependsOn}
use Rattle.mz_store.specs.Laws.{OldIdsKeepTrees, OldListsKeepTrees, WordsMeet}
use Rattle.mz_store.specs.declared.item.DepsMode.{DepsMode}
use Rattle.mz_store.specs.declared.item.DepsMode.TheVariants as of
use Rattle.mz_store.proofs.Places.{bound-once}
use Rattle.mz_store.proofs.Gathering.{zero-or-one}
use Rattle.mz_store.proofs.Growing.{in-kept, entry-kept, are-in-kept, trees-kept}

pub old-ids-keep-trees : OldIdsKeepTrees
old-ids-keep-trees s s' (last, is, _) i inside = (in-kept s s' (last, is) i inside, ap (λ (e : Shared). e.tree) (entry-kept s s' (last, is) i inside))

pub old-lists-keep-trees : OldListsKeepTrees
old-lists-keep-trees s s' (last, is, _) js inside = (are-in-kept s s' (last, is) js inside, trees-kept s s' (last, is) js inside)

-- a bound variable's place is among those of bound variables
pub bound-has : (i : ℕ) (bs : List Binder) (y : ℕ) (b : Binder) → slice_get bs y ≡ Some b → b.bound ≡ true → (k : ℕ) × (slice_get (bound_from i bs) k ≡ Some (i + y))
bound-has i [] y b at bd = absurd (none-some _ at)
bound-has i (c ∷ bs) zero b at bd = (0, here c.bound (ap (λ (d : Binder). d.bound) (one_at refl at) ∙ bd))
  where
    here : (v : Bool) → v ≡ true → slice_get (if v then i ∷ bound_from (suc i) bs else bound_from (suc i) bs) 0 ≡ Some (i + 0)
    here true is = ap Some (omega arith)
    here false is = absurd cc
bound-has i (c ∷ bs) (suc y) b at bd = later c.bound (bound-has (suc i) bs y b at bd)
  where
    later : (v : Bool) → (k : ℕ) × (slice_get (bound_from (suc i) bs) k ≡ Some (suc i + y))
        → (k : ℕ) × (slice_get (if v then i ∷ bound_from (suc i) bs else bound_from (suc i) bs) k ≡ Some (i + suc y))
    later true (k, h) = (suc k, h ∙ ap Some (omega arith))
    later false (k, h) = (k, h ∙ ap Some (omega arith))

told-is : (mode : DepsMode) (sigs : List Signature) (ctx : List Binder) (x y : ℕ) → IsBoundAt ctx x → DependsOn mode sigs ctx (var x) y → y ≡ x
told-is of.All sigs ctx x y bd (c, at, inl (_, same)) = same
told-is of.All sigs ctx x y (b, at', bound) (c, at, inr (regular, _)) = absurd (let e : true ≡ false = sym bound ∙ ap (λ (d : Binder). d.bound) (one_at at' at) ∙ regular in cc)
told-is of.Free sigs ctx x y bd (c, at, inl (_, same)) = same
told-is of.Free sigs ctx x y (b, at', bound) (c, at, inr (regular, _)) = absurd (let e : true ≡ false = sym bound ∙ ap (λ (d : Binder). d.bound) (one_at at' at) ∙ regular in cc)

told-itself : (mode : DepsMode) (sigs : List Signature) (ctx : List Binder) (x : ℕ) → IsBoundAt ctx x → DependsOn mode sigs ctx (var x) x
told-itself of.All sigs ctx x (b, at, bound) = (b, at, inl (bound, refl))
told-itself of.Free sigs ctx x (b, at, bound) = (b, at, inl (bound, refl))

-- the word of a bound variable is its own bit
own-bit : (mode : DepsMode) (sigs : List Signature) (ctx : List Binder) (word x k : ℕ) → IsBoundAt ctx x → slice_get (bound_vars ctx) k ≡ Some x
    → Tells (bound_vars ctx) word (DependsOn mode sigs ctx (var x)) → word ≡ 2 ^ k
own-bit mode sigs ctx word x k bd at-k tells = same_from_bits word (2 ^ k) each
  where
    each : (m : ℕ) → bit_at word m ≡ bit_at (2 ^ k) m
    each m = elim (eqb_tells m k) [
      | inl same ↦ ap (bit_at word) same.1 ∙ (tells k).1 (x, at-k, told-itself mode sigs ctx x bd) ∙ sym (ap (bit_at (2 ^ k)) same.1 ∙ bit_at-pow_same k)
      | inr other ↦ off other.1 ∙ sym (bit_at-pow_other k m other.1)
    ]
      where
        off : (m ≡ k → ⊥) → bit_at word m ≡ 0
        off apart = elim (zero-or-one word m) [
          | inl zero-is ↦ zero-is
          | inr one ↦ absurd (let (y, at-y, told) = (tells m).0 one in
              apart (bound-once 0 ctx m k x (at-y ∙ ap Some (told-is mode sigs ctx x y bd told)) at-k))
        ]

-- a bound variable's word meets an expression's exactly where the variable is among those that words name of the expression
pub bits-meet : (mode : DepsMode) (sigs : List Signature) (ctx : List Binder) (e : Tree) (v w x : ℕ) → IsBoundAt ctx x → Tells (bound_vars ctx) v (DependsOn mode sigs ctx (var x)) → Tells (bound_vars ctx) w (DependsOn mode sigs ctx e)
    → (bit_and w v ≡ 0 → ⊥) ↔ DependsOn mode sigs ctx e x
bits-meet mode sigs ctx e v w x bd own all = (let (b, at, bound) = bd in let (k, at-k) = bound-has 0 ctx x b at bound in go k (at-k ∙ ap Some (omega arith)))
  where
    go : (k : ℕ) → slice_get (bound_vars ctx) k ≡ Some x → (bit_and w v ≡ 0 → ⊥) ↔ DependsOn mode sigs ctx e x
    go k at-k = (to, from)
      where
        both : bit_and w v ≡ bit_at w k * 2 ^ k
        both = ap (bit_and w) (own-bit mode sigs ctx v x k bd at-k own) ∙ and_pow w k

        to : (bit_and w v ≡ 0 → ⊥) → DependsOn mode sigs ctx e x
        to some = elim (zero-or-one w k) [
          | inl off ↦ absurd (some (both ∙ ap (λ n. n * 2 ^ k) off ∙ omega arith))
          | inr on ↦ (let (y, at-y, told) = (all k).0 on in subst (DependsOn mode sigs ctx e) (one_at at-y at-k) told)
        ]

        from : DependsOn mode sigs ctx e x → bit_and w v ≡ 0 → ⊥
        from told nothing-shared = (
            let on : bit_at w k ≡ 1 = (all k).1 (x, at-k, told) in
            let power : bit_at w k * 2 ^ k ≡ 2 ^ k = ap (λ n. n * 2 ^ k) on ∙ omega arith in
            let none : 2 ^ k ≡ 0 = sym power ∙ sym both ∙ nothing-shared in
            omega (arith, pow_pos k)
            )

pub words-meet : WordsMeet
words-meet sigs s over i j x in-i in-j is bd =
    bits-meet s.mode sigs s.context (tree_of s j) (deps_of s i) (deps_of s j) x bd
    (subst (λ e. Tells (bound_vars s.context) (deps_of s i) (DependsOn s.mode sigs s.context e)) is (over i in-i).1) (over j in-j).1

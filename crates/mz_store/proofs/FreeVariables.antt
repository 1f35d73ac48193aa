-- The free variables of a term over operands, gathered one parameter after another.
use Rattle.std.proofs.Common.{ℕ, suc, ◌≡◌, ◌<◌, ◌≤◌, ◌^◌, ◌⊎◌, true, false, List, [], ◌∷◌, length, take, drop, slice_get, Some, ap, sym, ◌∙◌, subst, inl, inr, bit_and, bit_or, w64, if◌then◌else◌}
use Rattle.std.specs.Int.{bit_not}
use Rattle.mz_logic_theory.specs.Tree.{Tree, Trees, app, operand}
use Rattle.mz_logic_theory.specs.Signature.{Signature}
use Rattle.mz_logic_theory.specs.Variables.{InFV, InSomeFV, IsOperandAt}
use Rattle.mz_logic_theory.specs.Words.{TermWords, term_at, word_bound, word_deps, bound_places, places_set, binder_of, binders_of, signature_of, signatures_of}
use Rattle.mz_logic_theory.specs.declared.word.Word.{Word}
use Rattle.mz_logic_theory.specs.declared.binder.Binder.{Binder}
use Rattle.mz_logic_theory.proofs.Offered.{one_at}
use Rattle.mz_store.specs.Bits.{Tells, bound_vars}
use Rattle.mz_store.specs.Sharing.{DependsOn, CanTake}
use Rattle.mz_store.specs.declared.item.DepsMode.TheVariants as of
use Rattle.mz_store.proofs.Gathering.{Gathers, gather-first, gather-step, gather-skip, gather-end, tells-same, tells-without}
use Rattle.mz_store.proofs.OverTerms.{signature-at}
use Rattle.mz_store.proofs.Params.{many, next-binder, taken-all}
use Rattle.mz_store.proofs.Operands.{rest_of, next-operand, none-left}

-- the operands of bound parameters among the first `end` that the bits name
abbrev pub Named : Trees → List Word → ℕ → ℕ → ℕ → Type 0
Named es ws end bits x = IsOperandAt (binders_of ws) es (places_set bits (bound_places 0 (take end ws))) x

-- free in an operand from the i-th on
abbrev pub FreeFrom : List Signature → List Binder → Trees → List Word → ℕ → ℕ → Type 0
FreeFrom sigs ctx es ws i x = InSomeFV sigs ctx x (binders_of ws) es (drop i (binders_of ws)) (rest_of i es)

abbrev pub Free : List Signature → List Binder → Trees → List Word → ℕ → ℕ → ℕ → Type 0
Free sigs ctx es ws end bits x = FreeFrom sigs ctx es ws 0 x ⊎ Named es ws end bits x

-- the i-th parameter and operand, and those after them
from-next : (sigs : List Signature) (ctx : List Binder) (es : Trees) (ws : List Word) (i j : ℕ) (w : Word) → slice_get ws i ≡ Some w → i < many es → j ≡ suc i → (x : ℕ)
    → FreeFrom sigs ctx es ws i x ≡ (((word_bound w ≡ false) × InFV sigs ctx x (operand es i)
    × (IsOperandAt (binders_of ws) es (binder_of (bound_places 0 (take i ws)) w).deps x → ⊥)) ⊎ FreeFrom sigs ctx es ws j x)
from-next sigs ctx es ws i j w at inside next x =
    ap (λ ps. InSomeFV sigs ctx x (binders_of ws) es ps (rest_of i es)) (next-binder ws i w at)
    ∙ ap (λ fs. InSomeFV sigs ctx x (binders_of ws) es (binder_of (bound_places 0 (take i ws)) w ∷ drop (suc i) (binders_of ws)) fs) (next-operand es i inside)
    ∙ ap (λ k. (((word_bound w ≡ false) × InFV sigs ctx x (operand es i)
    × (IsOperandAt (binders_of ws) es (binder_of (bound_places 0 (take i ws)) w).deps x → ⊥)) ⊎ FreeFrom sigs ctx es ws k x)) (sym next)

pub free-skip : (sigs : List Signature) (ctx : List Binder) (es : Trees) (ws : List Word) (i j word : ℕ) (w : Word) → slice_get ws i ≡ Some w → i < many es → j ≡ suc i → word_bound w ≡ true
    → (P : ℕ → Type 0) → Gathers (bound_vars ctx) word P (FreeFrom sigs ctx es ws i) → Gathers (bound_vars ctx) word P (FreeFrom sigs ctx es ws j)
free-skip sigs ctx es ws i j word w at inside next bd P so-far =
    gather-skip (bound_vars ctx) word P (FreeFrom sigs ctx es ws i) (FreeFrom sigs ctx es ws j) so-far
    (λ x h. later x (subst (λ t. t) (from-next sigs ctx es ws i j w at inside next x) h))
    (λ x h. subst (λ t. t) (sym (from-next sigs ctx es ws i j w at inside next x)) (inr h))
  where
    later : (x : ℕ) → ((word_bound w ≡ false) × InFV sigs ctx x (operand es i)
        × (IsOperandAt (binders_of ws) es (binder_of (bound_places 0 (take i ws)) w).deps x → ⊥)) ⊎ FreeFrom sigs ctx es ws j x → FreeFrom sigs ctx es ws j x
    later x (inl h) = absurd (let e : true ≡ false = sym bd ∙ h.0 in cc)
    later x (inr h) = h

pub free-take : (sigs : List Signature) (ctx : List Binder) (es : Trees) (ws : List Word) (i j word kept binding part : ℕ) (w : Word) → slice_get ws i ≡ Some w → i < many es → j ≡ suc i → word_bound w ≡ false
    → kept < 2 ^ 64 → binding < 2 ^ 64 → Tells (bound_vars ctx) kept (λ x. InFV sigs ctx x (operand es i))
    → Tells (bound_vars ctx) binding (Named es ws i (word_deps w))
    → part ≡ bit_and kept (bit_not w64 binding)
    → (P : ℕ → Type 0) → Gathers (bound_vars ctx) word P (FreeFrom sigs ctx es ws i) → Gathers (bound_vars ctx) (bit_or word part) P (FreeFrom sigs ctx es ws j)
free-take sigs ctx es ws i j word kept binding part w at inside next regular small-kept small-binding tells-kept tells-binding part-is P so-far =
    gather-step (bound_vars ctx) word part P (FreeFrom sigs ctx es ws i) (FreeFrom sigs ctx es ws j) S so-far
    (λ x h. subst (λ t. t) (from-next sigs ctx es ws i j w at inside next x) h)
    (λ x h. subst (λ t. t) (sym (from-next sigs ctx es ws i j w at inside next x)) (inl h))
    (λ x h. subst (λ t. t) (sym (from-next sigs ctx es ws i j w at inside next x)) (inr h))
    (subst (λ n. Tells (bound_vars ctx) n S) (sym part-is)
    (tells-same (bound_vars ctx) (bit_and kept (bit_not w64 binding)) (λ x. InFV sigs ctx x e × (Named es ws i (word_deps w) x → ⊥)) S to from
    (tells-without (bound_vars ctx) kept binding (λ x. InFV sigs ctx x e) (Named es ws i (word_deps w)) small-kept small-binding tells-kept tells-binding)))
  where
    e : Tree
    e = operand es i

    S : ℕ → Type 0
    S x = (word_bound w ≡ false) × InFV sigs ctx x e × (IsOperandAt (binders_of ws) es (binder_of (bound_places 0 (take i ws)) w).deps x → ⊥)

    deps-are : (binder_of (bound_places 0 (take i ws)) w).deps ≡ places_set (word_deps w) (bound_places 0 (take i ws))
    deps-are = ap (λ v. if v then [] else places_set (word_deps w) (bound_places 0 (take i ws))) regular

    to : (x : ℕ) → InFV sigs ctx x e × (Named es ws i (word_deps w) x → ⊥) → S x
    to x (h, out) = (regular, h, λ k. out (subst (λ ds. IsOperandAt (binders_of ws) es ds x) deps-are k))

    from : (x : ℕ) → S x → InFV sigs ctx x e × (Named es ws i (word_deps w) x → ⊥)
    from x (_, h, out) = (h, λ k. out (subst (λ ds. IsOperandAt (binders_of ws) es ds x) (sym deps-are) k))

-- what is free in the operands, and what the result names
pub free-end : (terms : List TermWords) (ctx : List Binder) (es : Trees) (t i word named : ℕ) → CanTake terms ctx t es
    → many es ≤ i → length (term_at terms t).params ≤ i
    → Gathers (bound_vars ctx) word (FreeFrom (signatures_of terms) ctx es (term_at terms t).params 0) (FreeFrom (signatures_of terms) ctx es (term_at terms t).params i)
    → Tells (bound_vars ctx) named (Named es (term_at terms t).params i (word_deps (term_at terms t).result))
    → Tells (bound_vars ctx) (bit_or word named) (DependsOn of.Free (signatures_of terms) ctx (app t es))
free-end terms ctx es t i word named (there, fits) past all so-far tells =
    tells-same (bound_vars ctx) (bit_or word named) (Free sigs ctx es ws i bits) (λ x. InFV sigs ctx x (app t es)) to from
    (gather-end (bound_vars ctx) (bit_or word named) (Free sigs ctx es ws i bits) (λ x. ⊥)
    (gather-step (bound_vars ctx) word named (Free sigs ctx es ws i bits) (Named es ws i bits) (λ x. ⊥) (Named es ws i bits)
    (gather-first (bound_vars ctx) word (Free sigs ctx es ws i bits) (Named es ws i bits) (FreeFrom sigs ctx es ws 0) (λ x h. h) (λ x h. inl h) (λ x h. inr h)
    (gather-end (bound_vars ctx) word (FreeFrom sigs ctx es ws 0) (FreeFrom sigs ctx es ws i) so-far over))
    (λ x h. inl h) (λ x h. h) (λ x h. absurd h) tells)
    (λ x h. h))
  where
    sigs : List Signature
    sigs = signatures_of terms

    ws : List Word
    ws = (term_at terms t).params

    bits : ℕ
    bits = word_deps (term_at terms t).result

    d : Signature
    d = signature_of (term_at terms t)

    over : (x : ℕ) → FreeFrom sigs ctx es ws i x → ⊥
    over x h = subst (InSomeFV sigs ctx x (binders_of ws) es (drop i (binders_of ws))) (none-left es i past) h

    result-deps : places_set bits (bound_places 0 (take i ws)) ≡ d.result.deps
    result-deps = ap (λ vs. places_set bits (bound_places 0 vs)) (taken-all ws i all)

    to : (x : ℕ) → Free sigs ctx es ws i bits x → InFV sigs ctx x (app t es)
    to x (inl h) = (d, signature-at terms t there, inl h)
    to x (inr h) = (d, signature-at terms t there, inr (subst (λ ds. IsOperandAt (binders_of ws) es ds x) result-deps h))

    from : (x : ℕ) → InFV sigs ctx x (app t es) → Free sigs ctx es ws i bits x
    from x (c, at, h) = go (subst (λ (b : Signature). InSomeFV sigs ctx x b.params es b.params es ⊎ IsOperandAt b.params es b.result.deps x)
        (one_at at (signature-at terms t there)) h)
      where
        go : InSomeFV sigs ctx x d.params es d.params es ⊎ IsOperandAt d.params es d.result.deps x → Free sigs ctx es ws i bits x
        go (inl k) = inl k
        go (inr k) = inr (subst (λ ds. IsOperandAt (binders_of ws) es ds x) (sym result-deps) k)

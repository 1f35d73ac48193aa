-- Two operands that fit a term's two parameters.
use Rattle.std.proofs.Common.{◌≡◌, true, List, [], ◌∷◌, length, Some, subst, arith}
use Rattle.std.specs.Prelude.{slice_get}
use Rattle.mz_logic_theory.specs.Tree.{Tree, more, none}
use Rattle.mz_logic_theory.specs.Signature.{Signature}
use Rattle.mz_logic_theory.specs.Sorts.{HasSort, Fits, IsBoundVar}
use Rattle.mz_logic_theory.specs.Words.{word_sort, word_bound, binders_of}
use Rattle.mz_logic_theory.specs.declared.word.Word.{Word}
use Rattle.mz_logic_theory.specs.declared.binder.Binder.{Binder}

abbrev CanStand : List Signature → List Binder → Tree → Word → Type 0
CanStand sigs ctx e w = HasSort sigs ctx e (word_sort w) × (word_bound w ≡ true → IsBoundVar ctx e)

pub two-fit : (sigs : List Signature) (ctx : List Binder) (a b : Tree) (ws : List Word) (w v : Word) → length ws ≡ 2 → slice_get ws 0 ≡ Some w → slice_get ws 1 ≡ Some v
    → HasSort sigs ctx a (word_sort w) × (word_bound w ≡ true → IsBoundVar ctx a) → HasSort sigs ctx b (word_sort v) × (word_bound v ≡ true → IsBoundVar ctx b)
    → Fits sigs ctx (more a (more b none)) (binders_of ws)
two-fit sigs ctx a b [] w v many p q f g = absurd (omega arith)
two-fit sigs ctx a b (x ∷ []) w v many p q f g = absurd (omega arith)
two-fit sigs ctx a b (x ∷ y ∷ []) w v many p q f g =
    let first : w ≡ x = cc in
    let second : v ≡ y = cc in
    let fx : CanStand sigs ctx a x = subst (CanStand sigs ctx a) first f in
    let gy : CanStand sigs ctx b y = subst (CanStand sigs ctx b) second g in
    (fx.0, fx.1, (gy.0, gy.1, tt))
two-fit sigs ctx a b (x ∷ y ∷ z ∷ zs) w v many p q f g = absurd (omega arith)

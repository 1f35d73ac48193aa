-- Lists of trees one after another.
use Rattle.std.proofs.Common.{◌≡◌, ap, refl}
use Rattle.mz_logic_theory.specs.Tree.{Tree, Trees, more, none, followed_by}

pub followed_by_push : (es fs : Trees) (e : Tree) → followed_by (followed_by es (more e none)) fs ≡ followed_by es (more e fs)
followed_by_push none fs e = refl
followed_by_push (more d es) fs e = ap (more d) (followed_by_push es fs e)

pub followed_by_none : (es : Trees) → followed_by es none ≡ es
followed_by_none none = refl
followed_by_none (more e es) = ap (more e) (followed_by_none es)

pub followed_by_assoc : (es fs gs : Trees) → followed_by (followed_by es fs) gs ≡ followed_by es (followed_by fs gs)
followed_by_assoc none fs gs = refl
followed_by_assoc (more e es) fs gs = ap (more e) (followed_by_assoc es fs gs)

use Rattle.std.proofs.Common.{◌↔◌, ◌≤◌, ◌∙◌, IsTrue, ap, length, sym, subst}
use Rattle.std.proofs.lemmas.Bool.{false≢true}
use Rattle.mz_logic_theory.specs.Kinds.{kind_tree}
use Rattle.mz_logic_theory.specs.Tree.{Tree}
use Rattle.mz_math_theory.specs.Meaning.{height}
use Rattle.mz_math.proofs.Heights.{low-under, high-under}
use Rattle.mz_math.proofs.height.+is_low.Goals as goal

pub is_low-returns-then-many-most : goal.is_low-returns-then-many-most
is_low-returns-then-many-most t c =
    let high = high-under c.in-Under.path c.in-Under.e.value (length c.as_slice-many.result.now) c.args.most (ap length c.as_slice-many.ensures) c.if-many-most.true in
    (λ no. absurd (false≢true no), λ low. absurd (high (subst (λ e. height e ≤ c.args.most) (sym c.kind.ensures.tree ∙ ap kind_tree c.in-Under.is) low)))

pub is_low-returns-else-many-most : goal.is_low-returns-else-many-most
is_low-returns-else-many-most t c =
    let Low : Tree → Type 0 = λ e. IsTrue c.is_low.result ↔ (height e ≤ c.args.most) in
    let (to, from) = c.is_low.ensures in
    let (up, down) = low-under c.in-Under.path c.in-Under.e.value (length c.as_slice-many.result.now) c.args.most (ap length c.as_slice-many.ensures) c.deref.result.now c.deref.ensures c.if-many-most.false in
    subst Low (sym (ap kind_tree c.in-Under.is) ∙ c.kind.ensures.tree) (λ is. up (to is), λ low. from (down low))

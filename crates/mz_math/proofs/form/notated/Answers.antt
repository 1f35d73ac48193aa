use Rattle.std.proofs.Common.{◌∙◌, ap, sym}
use Rattle.mz_logic_theory.specs.Tree.{app}
use Rattle.mz_math.proofs.Arranging.{arranged-in-order}
use Rattle.mz_math.proofs.form.notated.Goals as goal

pub returns-then-many-len : goal.returns-then-many-len
returns-then-many-len c =
    c.app.ensures ∙ ap (app c.args.notation.now.term) (sym (arranged-in-order c.args.notation.now.elements c.in-Some.many c.args.operands
    c.in-Some.ensures (c.if-many-len.true ∙ c.len.ensures)))

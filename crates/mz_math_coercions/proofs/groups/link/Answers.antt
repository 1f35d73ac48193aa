use Rattle.mz_math_coercions.proofs.Naming.{down-same, link-down, link-here, link-other}
use Rattle.mz_math_coercions.proofs.groups.link.Goals as goal

pub returns-in_err-lengthen-clause-down : goal.returns-in_err-lengthen-clause-down
returns-in_err-lengthen-clause-down c = down-same c.args.ups.now.items c.lengthen.new.ups.items c.lengthen.ensures.same c.requires.down

pub returns-clause-down : goal.returns-clause-down
returns-clause-down c = link-down c.args.ups.now.items c.lengthen.new.ups.items c.args.low c.args.high c.lengthen.ensures.same c.in_ok-lengthen.ensures.there c.requires.lower c.requires.down

pub returns-clause-ok : goal.returns-clause-ok
returns-clause-ok c = (
  link-here c.args.ups.now.items c.lengthen.new.ups.items c.args.low c.args.high c.lengthen.ensures.same c.in_ok-lengthen.ensures.there,
  link-other c.args.ups.now.items c.lengthen.new.ups.items c.args.low c.args.high c.lengthen.ensures.same c.in_ok-lengthen.ensures.there,
)

use Rattle.std.proofs.lemmas.Result.{IfOk-weaker}
use Rattle.mz_axioms.proofs.Halving.{single-least, single-lower, single-upper}
use Rattle.mz_axioms.proofs.sets.Sets.+single.Goals as goal

pub returns-then-size-eq0 : goal.returns-then-size-eq0
returns-then-size-eq0 t c = single-least c.args.self.now.nodes.items c.args.size.height c.args.n c.args.size.span c.if-size-eq0.true c.requires.power c.requires.below

pub returns-in_ok-left : goal.returns-in_ok-left
returns-in_ok-left t c =
    IfOk-weaker c.join.result _ _
    (λ id joined. single-lower c.args.self.now.nodes.items _ _ c.args.size.height c.args.n c.in_ok-left.left id c.if-size-eq0.false c.requires.starts c.in_ok-left.ensures joined)
    c.join.ensures

pub returns-in_ok-right : goal.returns-in_ok-right
returns-in_ok-right t c =
    IfOk-weaker c.join-else-n-half.result _ _
    (λ id joined. single-upper c.args.self.now.nodes.items _ _ c.args.size.height c.args.n c.args.size.span c.in_ok-right.right id c.if-size-eq0.false c.requires.power c.if-n-half.false c.requires.starts
    c.in_ok-right.ensures joined)
    c.join-else-n-half.ensures

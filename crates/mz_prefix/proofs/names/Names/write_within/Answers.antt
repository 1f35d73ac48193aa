use Rattle.std.proofs.Common.{◌∙◌}
use Rattle.mz_prefix.proofs.Answering.{too-long, worded}
use Rattle.mz_prefix.proofs.names.Names.write_within.Goals as goal

pub returns-then-count-most : goal.returns-then-count-most
returns-then-count-most c = λ bytes typed said brief.
    too-long c.args.most bytes c.args.text.now.statements typed c.args.self.now c.requires said brief
    c.in-Ok.spec.items c.in-Ok.ensures c.len-count.result (c.len-count.ensures ∙ c.in-Ok.spec.ok.0) c.if-count-most.true

pub returns : goal.returns
returns c = λ bytes typed said brief.
    worded c.args.most bytes c.args.text.now.statements typed c.args.self.now c.requires said brief
    c.in-Ok.spec.items c.in-Ok.ensures c.len-count.result (c.len-count.ensures ∙ c.in-Ok.spec.ok.0) c.if-count-most.false

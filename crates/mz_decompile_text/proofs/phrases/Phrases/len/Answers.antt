use Rattle.std.proofs.Common.{arith}
use Rattle.mz_decompile_text.proofs.Fields.{count}
use Rattle.mz_decompile_text.proofs.phrases.Phrases.len.Goals as goal

pub returns : goal.returns
returns c =
    let many = count c.self.inside c.args.self.now c.self.view_is in
    omega (arith, many, c.len.ensures, c.self.inside.nodes.ok.0)

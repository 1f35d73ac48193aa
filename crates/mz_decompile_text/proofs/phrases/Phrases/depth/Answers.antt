use Rattle.std.proofs.Common.{arith}
use Rattle.mz_decompile_text.proofs.Fields.{count, found}
use Rattle.mz_decompile_text.proofs.phrases.Phrases.depth.Goals as goal

pub index-requires : goal.index-requires
index-requires c = let many = count c.self.inside c.args.self.now c.self.view_is in omega arith

pub returns-clause-depth : goal.returns-clause-depth
returns-clause-depth c = (found c.self.inside c.args.self.now c.args.n c.index.result.now (record { is = c.self.view_is; kept = c.self.invariant }) c.requires c.index.ensures).measured.depth

pub returns-clause-low : goal.returns-clause-low
returns-clause-low c =
    let low = (found c.self.inside c.args.self.now c.args.n c.index.result.now (record { is = c.self.view_is; kept = c.self.invariant }) c.requires c.index.ensures).measured.low in
    omega arith

use Rattle.std.proofs.Common.{arith}
use Rattle.mz_decompile_text.proofs.Fields.{count, found}
use Rattle.mz_decompile_text.proofs.phrases.Phrases.length.Goals as goal

pub index-requires : goal.index-requires
index-requires c = let many = count c.self.inside c.args.self.now c.self.view_is in omega arith

pub returns : goal.returns
returns c = (found c.self.inside c.args.self.now c.args.n c.index.result.now (record { is = c.self.view_is; kept = c.self.invariant }) c.requires c.index.ensures).measured.text_len

use Rattle.std.proofs.Common.{◌∙◌, ap}
use Rattle.mz_decompile_text.specs.Naming.{vocabulary_by}
use Rattle.mz_decompile_text.specs.Phrases.{depth}
use Rattle.mz_decompile_text.specs.Phrasing.{statement}
use Rattle.mz_decompile_text.specs.ByNumber.{phrase_at}
use Rattle.mz_decompile.proofs.Walking.{line-length, deep-is}
use Rattle.mz_decompile.proofs.measure.line_of.Goals as goal

pub length-requires : goal.length-requires
length-requires c = (c.in_ok-told.ensures c.requires.0 c.requires.1 c.requires.2).phrase.0

pub depth-deep-requires : goal.depth-deep-requires
depth-deep-requires c = (c.in_ok-told.ensures c.requires.0 c.requires.1 c.requires.2).phrase.0

pub returns : goal.returns
returns c env t stands =
    let v = vocabulary_by c.args.names.now in
    let told = c.in_ok-told.ensures env t stands in
    let is = told.phrase.1 in
    record {
      sizes = record {
        length_is = line-length v t c.length.result c.saturating_add.result (phrase_at c.statement.new.phrases c.in_ok-told.told.phrase) is c.length.ensures c.saturating_add.ensures;
        weight_is = told.weight;
      };
      deep = deep-is c.depth-deep.result (depth (statement v t)) (c.depth-deep.ensures.depth ∙ ap depth is);
    }

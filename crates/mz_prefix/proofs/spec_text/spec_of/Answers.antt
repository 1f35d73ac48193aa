use Rattle.mz_prefix.proofs.Answering.{declares}
use Rattle.mz_prefix.proofs.spec_text.spec_of.Goals as goal

pub returns : goal.returns
returns c = record {
  answer = c.spec_within.ensures;
  declares = declares c.specifications_of_texts_declare.ensures c.args.text.now c.spec_within.result c.spec_within.ensures;
}

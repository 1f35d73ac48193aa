use Rattle.std.proofs.Common.{◌∙◌, ap, sym, arith}
use Rattle.mz_layout_tables.specs.Normal.{file_length, file_of}
use Rattle.mz_asm.proofs.OneAnswer.{listing-breaks-none, one-fault, one-listing}
use Rattle.mz_asm.proofs.SomeAnswer.{some-answer}
use Rattle.mz_asm.proofs.laws.assembly_is_one.Goals as goal

pub returns : goal.returns
returns c = λ text. record {
  some_answer = some-answer text;
  one_binary = λ a b (ss, says, is, _) (ts, says', is', _). is ∙ ap file_of (one-listing text ss ts says says') ∙ sym is';
  one_length = λ m n (ss, says, is, _) (ts, says', is', _). is ∙ ap file_length (one-listing text ss ts says says') ∙ sym is';
  one_fault = one-fault text;
  not_refused = λ file n r (ss, says, _, _) b. listing-breaks-none text ss n r says b;
  not_limited = λ file n (ss, says, _, short) (ts, says', is, long). let same = ap file_length (one-listing text ss ts says says') in absurd (omega (arith, same, is, short, long));
  not_both = λ m n r (ss, says, _, _) b. listing-breaks-none text ss n r says b;
}

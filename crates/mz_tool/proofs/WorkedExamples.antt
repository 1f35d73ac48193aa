-- The definitions, computed on small examples: how many bytes they have.
use Rattle.std.proofs.Common.{◌≡◌, length, refl}
use Rattle.std.specs.Fmt.{digits}
use Rattle.mz_tool.specs.Samples.{sample_specification, sample_text}

specification_of_one : length (sample_specification 1) ≡ 367
unfolding digits
specification_of_one = refl

text_of_one : length (sample_text 1) ≡ 514
unfolding digits
text_of_one = refl

specification_of_two : length (sample_specification 2) ≡ 492
unfolding digits
specification_of_two = refl

text_of_two : length (sample_text 2) ≡ 793
unfolding digits
text_of_two = refl

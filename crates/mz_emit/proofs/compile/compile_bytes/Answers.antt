use Rattle.std.proofs.Common.{false}
use Rattle.mz_base.specs.Gaps.{gaps_of}
use Rattle.mz_emit.proofs.OneFile.{answers_one}
use Rattle.mz_emit.proofs.compile.compile_bytes.Goals as goal

pub returns-clause-compilable : goal.returns-clause-compilable
returns-clause-compilable c = λ can.
    let gaps = gaps_of c.args.mode in
    let text = c.args.text.now in
    let (bytes, compiles) = c.compilable_texts_have_files.ensures text gaps can in
    (bytes, compiles, answers_one c.texts_have_one_file.ensures gaps text (c.compilation_is_decided.ensures gaps text) c.compile_read.result bytes compiles c.compile_read.ensures.answer)

pub returns-clause-either_mode : goal.returns-clause-either_mode
returns-clause-either_mode c = λ bytes compiles.
    let text = c.args.text.now in
    answers_one c.texts_have_one_file.ensures false text (c.compilation_is_decided.ensures false text) c.compile_read.result bytes compiles (c.compile_read.ensures.finished compiles.0 compiles.1)

use Rattle.std.proofs.Common.{◌∙◌, refl, arith}
use Rattle.mz_cmd.proofs.FirstCommand.{split-first, nothing-read, cut-read, whole-read, width-0, width-1, width-2, width-4}
use Rattle.mz_cmd.proofs.command.first_cmd.Goals as goal

pub returns-in_default : goal.returns-in_default
returns-in_default c = nothing-read c.args.bytes.now c.in_default.ensures.value

pub returns-then-head-lt-ONE_BYTE : goal.returns-then-head-lt-ONE_BYTE
returns-then-head-lt-ONE_BYTE c =
    c.spelled.ensures ∙ whole-read _ _ _ 0 _ _ (split-first _ _ c.in-Some.ensures.value) (width-0 _ (omega arith)) (omega arith) refl refl

pub returns-then-operand-lt1 : goal.returns-then-operand-lt1
returns-then-operand-lt1 c =
    cut-read _ _ _ 1 (split-first _ _ c.in-Some.ensures.value) (width-1 _ (omega arith) (omega arith)) (omega arith)

pub returns-then-head-lt-TWO_BYTES : goal.returns-then-head-lt-TWO_BYTES
returns-then-head-lt-TWO_BYTES c =
    c.spelled-then-head-lt-TWO_BYTES.ensures
    ∙ whole-read _ _ _ 1 _ _ (split-first _ _ c.in-Some.ensures.value) (width-1 _ (omega arith) (omega arith)) (omega arith) (omega arith) refl

pub returns-then-operand-lt2 : goal.returns-then-operand-lt2
returns-then-operand-lt2 c =
    cut-read _ _ _ 2 (split-first _ _ c.in-Some.ensures.value) (width-2 _ (omega arith) (omega arith)) (omega arith)

pub returns-then-head-lt-FOUR_BYTES : goal.returns-then-head-lt-FOUR_BYTES
returns-then-head-lt-FOUR_BYTES c =
    c.spelled-then-head-lt-FOUR_BYTES.ensures
    ∙ whole-read _ _ _ 2 _ _ (split-first _ _ c.in-Some.ensures.value) (width-2 _ (omega arith) (omega arith)) (omega arith) (omega arith) refl

pub returns-then-operand-lt4 : goal.returns-then-operand-lt4
returns-then-operand-lt4 c =
    cut-read _ _ _ 4 (split-first _ _ c.in-Some.ensures.value) (width-4 _ (omega arith)) (omega arith)

pub returns : goal.returns
returns c =
    c.spelled-2.ensures ∙ whole-read _ _ _ 4 _ _ (split-first _ _ c.in-Some.ensures.value) (width-4 _ (omega arith)) (omega arith) c.read_u32.ensures refl

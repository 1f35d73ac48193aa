use Rattle.std.proofs.Common.{◌≡◌, ◌+◌, ◌-◌, ◌*◌, ◌∙◌, ℕ, List, length, ap, arith}
use Rattle.mz_binary_theory.specs.FileRun.{file_steps}
use Rattle.mz_binary.specs.Progress.{most_left, under}
use Rattle.mz_binary.proofs.Counting.{no-steps, most-of-file}
use Rattle.mz_binary.proofs.check_file.check_all.Goals as goal

pub returns-in-Ok-clause-bound : goal.returns-in-Ok-clause-bound
returns-in-Ok-clause-bound g c =
    let file = c.args.file.now in
    let same : c.new.result.file ≡ file = c.new.ensures.file ∙ c.in-Ok.ensures.0 in
    let most : most_left (under g.B.Bodies.STANDARD c.new.result) ≡ (length file - c.new.result.at) * (length file + 1) = ap (λ (f : List ℕ). (length f - c.new.result.at) * (length f + 1)) same in
    omega (arith, most, most-of-file (length file) c.new.result.at, c.check_list.ensures.bound)

pub returns-in-Err-clause-steps : goal.returns-in-Err-clause-steps
returns-in-Err-clause-steps g c =
    let none : file_steps g.B.Bodies.STANDARD c.args.file.now ≡ 0 = no-steps g.B.Bodies.STANDARD c.args.file.now (c.in-Err.refusal.at, c.in-Err.refusal.rule) c.in-Err.ensures.1 in
    omega (arith, none)

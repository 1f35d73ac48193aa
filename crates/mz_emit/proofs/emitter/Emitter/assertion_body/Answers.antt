use Rattle.std.proofs.Common.{ap, arith}
use Rattle.mz_type_rules.specs.Answers.{stated}
use Rattle.mz_emit.specs.Emitting.{body_weight}
use Rattle.mz_emit.proofs.emitter.Emitter.assertion_body.Goals as goal

pub theorem_body-requires-clause-room : goal.theorem_body-requires-clause-room
theorem_body-requires-clause-room c =
    let weight = ap (λ q. body_weight c.args.self.now.env (stated q)) c.in-Some.is in
    omega (arith, weight, c.requires.room)

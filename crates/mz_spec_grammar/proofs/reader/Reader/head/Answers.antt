use Rattle.std.proofs.Common.{arith, refl}
use Rattle.mz_spec_theory.specs.StatementCode.{group, lexeme}
use Rattle.mz_spec_theory.specs.Progress.{headed}
use Rattle.mz_spec_grammar.specs.Standing.{behind}
use Rattle.mz_spec_grammar.proofs.Onward.{added, none-yet}
use Rattle.mz_spec_grammar.proofs.reader.Reader.head.Goals as goal

pub groups-init : goal.groups-init
groups-init c = λ s w. none-yet group (λ groups. behind (headed c.args.kind (record { name = lexeme c.take-name.result; groups = groups }))) c.new-groups.ensures.items (c.take-name.ensures.reads _ _ refl s w)

pub groups-preserved : goal.groups-preserved
groups-preserved c = λ s w.
    added group (λ groups. behind (headed c.args.kind (record { name = lexeme c.take-name.result; groups = groups }))) _ _ c.push.ensures.reads (
    c.group-group.ensures.reads _ s (c.in-Some.ensures.reads _ _ s (c.groups.invariant s w)))

pub returns : goal.returns
returns c = λ s w. c.in_default.ensures.reads _ _ s (c.groups.invariant s w)

pub groups-smaller : goal.groups-smaller
groups-smaller c = omega (arith, c.in-Some.ensures.shrinks)

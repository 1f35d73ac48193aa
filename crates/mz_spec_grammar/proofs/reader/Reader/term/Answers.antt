use Rattle.std.proofs.Common.{refl}
use Rattle.mz_spec_theory.specs.StatementCode.{head, type_text}
use Rattle.mz_spec_theory.specs.Progress.{argument_slot, wanted}
use Rattle.mz_spec_grammar.specs.Standing.{behind}
use Rattle.mz_spec_grammar.proofs.Onward.{added, no, none-yet, yes}
use Rattle.mz_spec_grammar.proofs.reader.Reader.term.Goals as goal

pub arguments-init : goal.arguments-init
arguments-init c = λ s w. none-yet type_text (λ types. behind (wanted (argument_slot (head c.head-head.result) types))) c.new-arguments.ensures.items (c.head-head.ensures s w)

pub returns-then-not-is : goal.returns-then-not-is
returns-then-not-is c = λ s w. c.need.ensures.reads _ s (no (c.ty-result.ensures.reads _ refl s (c.arguments.invariant s w)) c.is.ensures.passes c.if-not-is.true)

pub arguments-preserved : goal.arguments-preserved
arguments-preserved c = λ s w.
    added type_text (λ types. behind (wanted (argument_slot (head c.head-head.result) types))) _ _ c.push.ensures.reads (
    yes (c.ty-result.ensures.reads _ refl s (c.arguments.invariant s w)) c.is.ensures.passes c.if-not-is.false)

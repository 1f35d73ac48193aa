use Rattle.mz_spec_theory.specs.StatementCode.{literal}
use Rattle.mz_spec_notations.proofs.Spans.{literals-next}
use Rattle.mz_spec_notations.proofs.literals.Literals.push.Goals as goal

pub returns-clause-literals : goal.returns-clause-literals
returns-clause-literals c = λ ls are.
    literals-next c.args.self.now.text.items c.in_ok-span.ensures.text.0 c.span_of.new.text.items ls c.args.self.now.spans.items c.push.new.self.items (literal c.args.literal) c.in_ok-span.span
    c.in_ok-span.ensures.text.1 c.in_ok-push.ensures.items c.in_ok-span.ensures.span are

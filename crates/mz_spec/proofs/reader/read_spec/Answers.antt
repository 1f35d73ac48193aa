use Rattle.std.proofs.Common.{◌∙◌, length, ap, subst, sym}
use Rattle.mz_spec.specs.Answers.{IsAnswer}
use Rattle.mz_spec_theory.specs.Spec.{SpecMakes}
use Rattle.mz_spec_theory.specs.State.{entries_of}
use Rattle.mz_spec.proofs.reader.read_spec.Goals as goal

pub new-requires-clause-each : goal.new-requires-clause-each
new-requires-clause-each c = ap length c.into_parts-env.ensures.spans ∙ c.in-Ok.ensures.kept.spans ∙ ap length (sym c.into_parts-env.ensures.env)

pub returns-in-Ok : goal.returns-in-Ok
returns-in-Ok c =
    let made = ap (λ env. entries_of env c.into_parts-env.result.1.items) c.into_parts-env.ensures.env ∙ ap (entries_of c.read_into-read.new.state.env) c.into_parts-env.ensures.spans in
    subst (SpecMakes c.args.text.now) (sym (c.new.ensures ∙ made)) c.in-Ok.ensures.made

pub returns-in-Err : goal.returns-in-Err
returns-in-Err c = subst (IsAnswer c.args.text.now) (sym c.halted.ensures) c.in-Err.ensures.stops

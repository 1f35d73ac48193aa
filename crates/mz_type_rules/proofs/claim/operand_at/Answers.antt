use Rattle.std.proofs.Common.{sym, ◌∙◌, arith}
use Rattle.std.proofs.lemmas.Option.{slice_get_within}
use Rattle.mz_logic_theory.specs.Tree.{variables, listed}
use Rattle.mz_type_rules.proofs.Claims.{none_past, operand_before, operand_behind}
use Rattle.mz_type_rules.proofs.claim.operand_at.Goals as goal

pub returns-in-Some : goal.returns-in-Some
returns-in-Some c =
    c.of.ensures ∙ sym c.in-Some.ensures.operand
    ∙ sym (operand_before c.args.es.now (variables c.args.vars.now) c.args.place (slice_get_within (listed c.args.es.now) c.args.place _ (sym c.in-Some.ensures.at)))

pub returns-in-None : goal.returns-in-None
returns-in-None c =
    let past = none_past (listed c.args.es.now) c.args.place c.in-None.ensures.at in
    c.variable_at.ensures ∙ sym (operand_behind c.args.es.now (variables c.args.vars.now) c.args.place _ (omega (arith, past, c.len.ensures)))

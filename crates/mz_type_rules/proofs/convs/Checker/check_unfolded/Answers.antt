use Rattle.std.proofs.Common.{sym}
use Rattle.std.proofs.lemmas.Option.{get_or_from_slice_get}
use Rattle.mz_sexpr.specs.Number.{first}
use Rattle.mz_logic_theory.specs.Declaration.{terms}
use Rattle.mz_logic_theory.specs.DeclView.{term_view}
use Rattle.mz_mmu_theory.specs.ConvView.{conversion}
use Rattle.mz_type_rules.proofs.ConvSteps as step
use Rattle.mz_type_rules.proofs.convs.Checker.check_unfolded.Goals as goal

pub returns-in-None : goal.returns-in-None
returns-in-None c =
    step.no_term_fails c.args.self.now.env.now c.args.self.now.ctx.now c.args.term c.args.es.now c.args.vars.now (conversion c.args.conv.now) (first c.args.nodes.now) c.fault.result
    c.requires.sorted c.requires.held c.in-None.ensures.term c.fault.ensures

pub returns-in-Some : goal.returns-in-Some
returns-in-Some c =
    let env = c.args.self.now.env.now in
    step.unfold_judged env c.args.self.now.ctx.now c.args.term c.args.es.now c.args.vars.now (conversion c.args.conv.now) (first c.args.nodes.now) c.check_definition.result (term_view c.in-Some.term.now)
    c.requires.sorted c.requires.held
    (sym (get_or_from_slice_get (terms env) c.args.term _ _ (sym c.in-Some.ensures.term))) c.check_definition.ensures

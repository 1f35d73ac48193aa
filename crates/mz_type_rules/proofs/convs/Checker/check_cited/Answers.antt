use Rattle.std.proofs.Common.{sym, ap, ◌∙◌, subst, ◌≡◌, drop, take}
use Rattle.std.proofs.lemmas.Option.{get_or_from_slice_get}
use Rattle.std.specs.Result.{OnOk}
use Rattle.mz_sexpr.specs.Number.{first}
use Rattle.mz_logic_theory.specs.Declaration.{signatures, assertions}
use Rattle.mz_logic_theory.specs.Tree.{instance}
use Rattle.mz_type_rules.specs.Answers.{Judged}
use Rattle.mz_type_rules.specs.Claims.{claim_trees}
use Rattle.mz_mmu_theory.specs.Rules.{citation_rules}
use Rattle.mz_mmu_theory.specs.Sides.{assertion_at, with_fact}
use Rattle.mz_type_rules.proofs.ProofSteps as step
use Rattle.mz_type_rules.proofs.convs.Checker.check_cited.Goals as goal

pub unreachable-requires : goal.unreachable-requires
unreachable-requires c = step.is_there (assertions c.args.self.now.env.now) c.args.number c.requires.number c.in-None.ensures

pub returns-clause-judged : goal.returns-clause-judged
returns-clause-judged c =
    let env = c.args.self.now.env.now in
    subst (λ a. Judged c.conclude.result (citation_rules (signatures env) c.args.self.now.ctx.now a c.args.es.now (claim_trees (drop c.args.from c.args.claims.now.items)) (first c.args.nodes.now)))
    (sym (get_or_from_slice_get (assertions env) c.args.number _ _ (sym c.in-Some.ensures))) c.conclude.ensures.judged

pub returns-clause-claims : goal.returns-clause-claims
returns-clause-claims c =
    let env = c.args.self.now.env.now in
    subst (λ a. OnOk c.conclude.result (claim_trees c.conclude.new.claims.items ≡ with_fact (claim_trees (take c.args.from c.args.claims.now.items)) (instance c.args.es.now a.conclusion)))
    (sym (get_or_from_slice_get (assertions env) c.args.number _ _ (sym c.in-Some.ensures))) c.conclude.ensures.claims

pub conclude-requires-clause-thm : goal.conclude-requires-clause-thm
conclude-requires-clause-thm c =
    ap (λ e. assertion_at e c.args.number) c.requires.env ∙ get_or_from_slice_get (assertions c.args.self.now.env.now) c.args.number _ _ (sym c.in-Some.ensures)

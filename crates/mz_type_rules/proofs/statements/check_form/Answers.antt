use Rattle.std.proofs.Common.{sym, subst}
use Rattle.mz_logic_theory.specs.Declaration.{defined}
use Rattle.mz_logic_theory.specs.DeclView.{signature, form}
use Rattle.mz_logic_theory.specs.View.{tree}
use Rattle.mz_type_rules.specs.Answers.{Judged}
use Rattle.mz_mmu_theory.specs.Rules.{body_rules}
use Rattle.mz_type_rules.proofs.statements.check_form.Goals as goal

pub returns-in-Body : goal.returns-in-Body
returns-in-Body c =
    subst (λ F. Judged c.check_body.result (body_rules c.args.env.now (signature c.args.term.now) (form F) c.args.parts.now)) (sym c.in-Body.is)
    (subst (λ ds. Judged c.check_body.result (body_rules c.args.env.now (signature c.args.term.now) (defined ds (tree c.in-Body.body)) c.args.parts.now)) c.as_slice.ensures c.check_body.ensures)

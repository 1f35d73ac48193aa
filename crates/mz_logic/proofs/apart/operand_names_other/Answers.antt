use Rattle.std.proofs.Common.{◌↔◌, true≢false, sym, subst, IsTrue}
use Rattle.mz_logic_theory.specs.Tree.{Tree}
use Rattle.mz_logic_theory.specs.Variables.{InV}
use Rattle.mz_logic_free.proofs.Offered.{IsOther, Names}
use Rattle.mz_logic.proofs.apart.operand_names_other.Goals as goal

pub returns-in-None-clause-answer : goal.returns-in-None-clause-answer
returns-in-None-clause-answer c = (
  λ never. absurd (true≢false (sym never)),
  λ h. absurd (subst (InV c.args.ctx.now h.0) c.in-None.ensures.operand h.2),
)

pub returns-in-Some-clause-answer : goal.returns-in-Some-clause-answer
returns-in-Some-clause-answer c =
    subst (λ (e : Tree). IsTrue c.names_other.result ↔ Names c.args.ctx.now (IsOther c.args.variables.now c.args.own.now) e) (sym c.in-Some.ensures.operand) c.names_other.ensures.answer

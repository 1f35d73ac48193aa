use Rattle.mz_math_theory.proofs.Offered.{prefix-constant}
use Rattle.mz_logic_theory.specs.Declaration.{signatures}
use Rattle.mz_math_operators.proofs.form.prefix_of.Goals as goal

pub returns-in_default-constant : goal.returns-in_default-constant
returns-in_default-constant c = λ k h.
    let found = prefix-constant (signatures c.args.env.now) c.args.delimiters.now c.args.term c.args.constant.now c.args.level k h in c.in_default-constant.ensures found.0 found.1

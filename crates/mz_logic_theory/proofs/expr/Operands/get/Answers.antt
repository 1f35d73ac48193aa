use Rattle.std.proofs.Common.{◌≤◌, length, sym, arith}
use Rattle.mz_logic_theory.specs.Tree.{listed}
use Rattle.mz_logic_theory.proofs.Past.{at-past, none-past, operand-none, operand-past}
use Rattle.mz_logic_theory.proofs.expr.Operands.get.Goals as goal

pub returns-then-i-len-clause-at : goal.returns-then-i-len-clause-at
returns-then-i-len-clause-at c = sym (at-past c.args.self.now _ c.args.i c.at.result c.at.ensures.left)

pub returns-then-i-len-clause-operand : goal.returns-then-i-len-clause-operand
returns-then-i-len-clause-operand c = operand-past c.args.self.now _ c.args.i c.at.result c.at.ensures.left

pub returns-else-i-len-clause-at : goal.returns-else-i-len-clause-at
returns-else-i-len-clause-at c =
    let end : length (listed c.args.self.now) ≤ c.args.i = omega (arith, c.len.ensures, c.if-i-len.false) in sym (none-past c.args.self.now c.args.i end)

pub returns-else-i-len-clause-operand : goal.returns-else-i-len-clause-operand
returns-else-i-len-clause-operand c =
    let end : length (listed c.args.self.now) ≤ c.args.i = omega (arith, c.len.ensures, c.if-i-len.false) in operand-none c.args.self.now c.args.i end

-- How many tokens the prefix form of an expression has.
use Rattle.std.specs.Prelude.{ℕ, suc, ◌+◌, Bool, true, false, if◌then◌else◌}
use Rattle.mz_logic_theory.specs.Tree.{Tree, Trees, var, app, none, more}

-- a term over operands
abbrev pub has_operands : Tree → Bool
has_operands (var x) = false
has_operands (app t none) = false
has_operands (app t (more e es)) = true

-- the parentheses round an operand
abbrev pub parentheses : Tree → ℕ
parentheses e = if has_operands e then 2 else 0

abbrev mutual
  pub token_count : Tree → ℕ
  token_count (var x) = 1
  token_count (app t es) = suc (operand_count es)

  pub operand_count : Trees → ℕ
  operand_count none = 0
  operand_count (more e es) = parentheses e + token_count e + operand_count es

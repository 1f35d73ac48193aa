use Rattle.mz_logic_theory.proofs.Offered.{keep_sorts, keep_fits, keep_variables, keep_disjoint, keep_conversions, keep_derivations}
use Rattle.mz_logic.proofs.laws.longer_ones_keep.Goals as goal

pub returns-clause-sorts : goal.returns-clause-sorts
returns-clause-sorts c = keep_sorts

pub returns-clause-operands : goal.returns-clause-operands
returns-clause-operands c = keep_fits

pub returns-clause-variables : goal.returns-clause-variables
returns-clause-variables c = keep_variables

pub returns-clause-apart : goal.returns-clause-apart
returns-clause-apart c = keep_disjoint

pub returns-clause-conversions : goal.returns-clause-conversions
returns-clause-conversions c = keep_conversions

pub returns-clause-derivations : goal.returns-clause-derivations
returns-clause-derivations c = keep_derivations

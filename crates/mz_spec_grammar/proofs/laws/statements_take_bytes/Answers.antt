use Rattle.mz_spec_theory.proofs.Offered.{takes-bytes}
use Rattle.mz_spec_grammar.proofs.laws.statements_take_bytes.Goals as goal

pub returns : goal.returns
returns c = takes-bytes

use Rattle.mz_spec_theory.proofs.Offered.{one-read, one-fault-OneAnswer as one-fault, read-or-fault, read-or-blank, fault-or-blank}
use Rattle.mz_spec_grammar.proofs.laws.answers_are_one.Goals as goal

pub returns : goal.returns
returns c = record { read = one-read; fault = one-fault; read_or_fault = read-or-fault; read_or_blank = read-or-blank; fault_or_blank = fault-or-blank }

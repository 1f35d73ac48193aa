use Rattle.mz_spec_grammar.proofs.Onward.{stop-by}
use Rattle.mz_spec_grammar.proofs.reader.Reader.stop.Goals as goal

pub returns-in-Ok-clause-reads : goal.returns-in-Ok-clause-reads
returns-in-Ok-clause-reads c = λ at s w. record { is = stop-by s c.in-Ok.found c.args.self.now.text.now c.args.self.now.rule c.args.self.now.hand c.in-Ok.is w.is }

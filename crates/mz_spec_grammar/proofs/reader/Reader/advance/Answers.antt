use Rattle.mz_spec_grammar.proofs.Onward.{advance-by}
use Rattle.mz_spec_grammar.proofs.reader.Reader.advance.Goals as goal

pub returns-in-Ok-clause-reads : goal.returns-in-Ok-clause-reads
returns-in-Ok-clause-reads c = λ p goes s w. record { is = advance-by s p c.in-Ok.found c.args.self.now.text.now c.args.self.now.rule c.args.self.now.hand c.lexeme_at-self.result c.in-Ok.is goes w.is c.lexeme_at-self.ensures.next }

use Rattle.mz_spec_grammar.proofs.Onward.{needed, onto}
use Rattle.mz_spec_grammar.proofs.reader.Reader.take.Goals as goal

pub returns-clause-reads : goal.returns-clause-reads
returns-clause-reads c = λ p f e s w. needed c.need.ensures.reads c.lexeme.ensures (onto c.advance.ensures.reads e w)

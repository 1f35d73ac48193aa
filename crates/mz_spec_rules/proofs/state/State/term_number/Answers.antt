use Rattle.mz_spec_rules.proofs.NamesAlone.{found-term, no-term}
use Rattle.mz_spec_rules.proofs.state.State.term_number.Goals as goal

pub returns-in-Some : goal.returns-in-Some
returns-in-Some c = found-term c.args.self.now.notations.names c.args.name.bytes.now c.in-Some.number c.requires.names c.in-Some.ensures

pub returns-in-None : goal.returns-in-None
returns-in-None c = no-term c.args.self.now.notations.names c.args.name.bytes.now c.in-None.ensures

use Rattle.std.proofs.Common.{inl}
use Rattle.mz_spec_rules.proofs.NamesAlone.{told-new, told-taken}
use Rattle.mz_spec_rules.proofs.state.State.check_new_term.Goals as goal

pub returns-then-names_term : goal.returns-then-names_term
returns-then-names_term c = inl (told-taken c.args.self.now.notations.names c.args.name.bytes.now c.names_term.result c.names_term.ensures c.if-names_term.true, c.name_twice.ensures)

pub returns : goal.returns
returns c = (told-new c.args.self.now.notations.names c.args.name.bytes.now c.names_term.result c.names_term.ensures c.if-names_term.false, tt)

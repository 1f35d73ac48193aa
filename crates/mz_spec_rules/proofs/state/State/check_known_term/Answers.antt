use Rattle.std.proofs.Common.{refl, inl}
use Rattle.mz_spec_rules.proofs.NamesAlone.{told-known, told-unknown}
use Rattle.mz_spec_rules.proofs.state.State.check_known_term.Goals as goal

pub returns-then-not-names_term : goal.returns-then-not-names_term
returns-then-not-names_term c = inl (told-unknown c.args.self.now.notations.names c.args.name.bytes.now c.names_term.result c.names_term.ensures c.if-not-names_term.true, refl)

pub returns : goal.returns
returns c = (told-known c.args.self.now.notations.names c.args.name.bytes.now c.names_term.result c.names_term.ensures c.if-not-names_term.false, tt)

use Rattle.mz_logic_theory.specs.DeclView.{form}
use Rattle.mz_logic_theory.specs.View.{tree}
use Rattle.mz_emit.proofs.Rows.{plain_is, defined_is}
use Rattle.mz_emit.proofs.emitter.Emitter.write_term.Goals as goal

pub write_plain-requires-clause-plain : goal.write_plain-requires-clause-plain
write_plain-requires-clause-plain c = plain_is (form c.args.term.now.form) c.requires.2.follows.stated c.in-None.ensures

pub write_definition-requires-clause-body : goal.write_definition-requires-clause-body
write_definition-requires-clause-body c = defined_is (form c.args.term.now.form) (tree c.in-Some.body.now) c.in-Some.ensures

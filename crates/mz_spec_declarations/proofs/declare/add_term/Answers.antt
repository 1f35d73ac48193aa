use Rattle.std.proofs.Common.{[]}
use Rattle.mz_spec_theory.specs.StatementCode.{term}
use Rattle.mz_logic_theory.specs.DeclView.{term_of}
use Rattle.mz_spec_rules.specs.Entries.{state}
use Rattle.mz_spec_theory.proofs.Offered.{declared-legal}
use Rattle.mz_spec_declarations.proofs.declare.add_term.Goals as goal

pub push_term-requires-clause-new : goal.push_term-requires-clause-new
push_term-requires-clause-new c = (c.in_ok-decl.ensures.judged [] tt).0

pub push_term-requires-clause-legal : goal.push_term-requires-clause-legal
push_term-requires-clause-legal c =
    declared-legal (state c.args.state.now) c.args.place c.requires.kept (term c.args.term.now) (term_of c.in_ok-decl.decl) [] c.requires.spelled (c.in_ok-decl.ensures.judged [] tt) c.in_ok-decl.ensures.declares

use Rattle.mz_spec_theory.specs.StatementCode.{assertion}
use Rattle.mz_logic_theory.specs.DeclView.{assertion_of}
use Rattle.mz_spec_rules.specs.Entries.{state}
use Rattle.mz_spec_theory.specs.View.{view}
use Rattle.mz_spec_theory.proofs.Offered.{declared-legal, formulas-tokens}
use Rattle.mz_spec_declarations.proofs.declare.add_assertion.Goals as goal

pub push-requires : goal.push-requires
push-requires c = let t = formulas-tokens (state c.args.state.now) (view (assertion c.args.assertion.now)).formulas in (c.in_ok-decl.ensures.judged t.0 t.1).0

pub push_decl-requires-clause-legal : goal.push_decl-requires-clause-legal
push_decl-requires-clause-legal c =
    let t = formulas-tokens (state c.args.state.now) (view (assertion c.args.assertion.now)).formulas in
    declared-legal (state c.args.state.now) c.args.place c.requires.kept (assertion c.args.assertion.now) (assertion_of c.in_ok-decl.decl) t.0 c.requires.spelled (c.in_ok-decl.ensures.judged t.0 t.1) c.in_ok-decl.ensures.declares

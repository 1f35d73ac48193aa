use Rattle.mz_spec_theory.specs.StatementCode.{definition}
use Rattle.mz_logic_theory.specs.DeclView.{term_of}
use Rattle.mz_spec_rules.specs.Entries.{state}
use Rattle.mz_spec_theory.specs.View.{view}
use Rattle.mz_spec_theory.proofs.Offered.{declared-legal, formulas-tokens}
use Rattle.mz_spec_declarations.proofs.declare.add_definition.Goals as goal

pub push_term-requires-clause-new : goal.push_term-requires-clause-new
push_term-requires-clause-new c = let t = formulas-tokens (state c.args.state.now) (view (definition c.args.definition.now)).formulas in (c.in_ok-decl.ensures.judged t.0 t.1).0

pub push_term-requires-clause-legal : goal.push_term-requires-clause-legal
push_term-requires-clause-legal c =
    let t = formulas-tokens (state c.args.state.now) (view (definition c.args.definition.now)).formulas in
    declared-legal (state c.args.state.now) c.args.place c.requires.kept (definition c.args.definition.now) (term_of c.in_ok-decl.decl) t.0 c.requires.spelled (c.in_ok-decl.ensures.judged t.0 t.1) c.in_ok-decl.ensures.declares

use Rattle.std.proofs.Common.{OnOk, sym, subst}
use Rattle.mz_spec_theory.specs.StatementCode.{statement}
use Rattle.mz_spec_rules.specs.Answers.{JudgesStatement}
use Rattle.mz_spec_theory.specs.Declaring.{After}
use Rattle.mz_spec_rules.specs.Entries.{state}
use Rattle.mz_spec.proofs.statements.add_read.Goals as goal

pub returns-in-Term-clause-judged : goal.returns-in-Term-clause-judged
returns-in-Term-clause-judged c = subst (λ s. JudgesStatement c.add_term.result (state c.args.state.now) c.args.place (statement s)) (sym c.in-Term.is) c.add_term.ensures.judged

pub returns-in-Assert-clause-judged : goal.returns-in-Assert-clause-judged
returns-in-Assert-clause-judged c = subst (λ s. JudgesStatement c.add_assertion.result (state c.args.state.now) c.args.place (statement s)) (sym c.in-Assert.is) c.add_assertion.ensures.judged

pub returns-in-Definition-clause-judged : goal.returns-in-Definition-clause-judged
returns-in-Definition-clause-judged c = subst (λ s. JudgesStatement c.add_definition.result (state c.args.state.now) c.args.place (statement s)) (sym c.in-Definition.is) c.add_definition.ensures.judged

pub returns-in-Operator-clause-judged : goal.returns-in-Operator-clause-judged
returns-in-Operator-clause-judged c = subst (λ s. JudgesStatement c.add_operator.result (state c.args.state.now) c.args.place (statement s)) (sym c.in-Operator.is) c.add_operator.ensures.judged

pub returns-in-Coercion-clause-judged : goal.returns-in-Coercion-clause-judged
returns-in-Coercion-clause-judged c = subst (λ s. JudgesStatement c.add_coercion.result (state c.args.state.now) c.args.place (statement s)) (sym c.in-Coercion.is) c.add_coercion.ensures.judged

pub returns-in-Notation-clause-judged : goal.returns-in-Notation-clause-judged
returns-in-Notation-clause-judged c = subst (λ s. JudgesStatement c.add_notation.result (state c.args.state.now) c.args.place (statement s)) (sym c.in-Notation.is) c.add_notation.ensures.judged

pub returns-in-Delimiter-clause-judged : goal.returns-in-Delimiter-clause-judged
returns-in-Delimiter-clause-judged c = subst (λ s. JudgesStatement c.add_delimiter.result (state c.args.state.now) c.args.place (statement s)) (sym c.in-Delimiter.is) c.add_delimiter.ensures.judged

pub returns-in-Sort-clause-judged : goal.returns-in-Sort-clause-judged
returns-in-Sort-clause-judged c = subst (λ s. JudgesStatement c.add_sort.result (state c.args.state.now) c.args.place (statement s)) (sym c.in-Sort.is) c.add_sort.ensures.judged

pub returns-in-Term-clause-after : goal.returns-in-Term-clause-after
returns-in-Term-clause-after c = subst (λ s. OnOk c.add_term.result (After (state c.args.state.now) c.args.place (statement s) (state c.add_term.new.state))) (sym c.in-Term.is) c.add_term.ensures.after

pub returns-in-Assert-clause-after : goal.returns-in-Assert-clause-after
returns-in-Assert-clause-after c = subst (λ s. OnOk c.add_assertion.result (After (state c.args.state.now) c.args.place (statement s) (state c.add_assertion.new.state))) (sym c.in-Assert.is) c.add_assertion.ensures.after

pub returns-in-Definition-clause-after : goal.returns-in-Definition-clause-after
returns-in-Definition-clause-after c = subst (λ s. OnOk c.add_definition.result (After (state c.args.state.now) c.args.place (statement s) (state c.add_definition.new.state))) (sym c.in-Definition.is) c.add_definition.ensures.after

pub returns-in-Operator-clause-after : goal.returns-in-Operator-clause-after
returns-in-Operator-clause-after c = subst (λ s. OnOk c.add_operator.result (After (state c.args.state.now) c.args.place (statement s) (state c.add_operator.new.state))) (sym c.in-Operator.is) c.add_operator.ensures.after

pub returns-in-Coercion-clause-after : goal.returns-in-Coercion-clause-after
returns-in-Coercion-clause-after c = subst (λ s. OnOk c.add_coercion.result (After (state c.args.state.now) c.args.place (statement s) (state c.add_coercion.new.state))) (sym c.in-Coercion.is) c.add_coercion.ensures.after

pub returns-in-Notation-clause-after : goal.returns-in-Notation-clause-after
returns-in-Notation-clause-after c = subst (λ s. OnOk c.add_notation.result (After (state c.args.state.now) c.args.place (statement s) (state c.add_notation.new.state))) (sym c.in-Notation.is) c.add_notation.ensures.after

pub returns-in-Delimiter-clause-after : goal.returns-in-Delimiter-clause-after
returns-in-Delimiter-clause-after c = subst (λ s. OnOk c.add_delimiter.result (After (state c.args.state.now) c.args.place (statement s) (state c.add_delimiter.new.state))) (sym c.in-Delimiter.is) c.add_delimiter.ensures.after

pub returns-in-Sort-clause-after : goal.returns-in-Sort-clause-after
returns-in-Sort-clause-after c = subst (λ s. OnOk c.add_sort.result (After (state c.args.state.now) c.args.place (statement s) (state c.add_sort.new.state))) (sym c.in-Sort.is) c.add_sort.ensures.after

use Rattle.std.proofs.Common.{ℕ, sym, subst}
use Rattle.mz_base.specs.Checks.{FailsFirst, retold}
use Rattle.mz_spec_theory.specs.StatementCode.{lexeme}
use Rattle.mz_spec_theory.specs.declared.refusal.Fault.{Fault}
use Rattle.mz_logic_theory.specs.View.{tree}
use Rattle.mz_math_theory.specs.Formula.{IsFormula, Misreads, Reader, formula_checks}
use Rattle.mz_spec_theory.specs.Formulas.{inner, told}
use Rattle.mz_spec_declarations.proofs.Told.{told-fails, told-holds, misread-small}
use Rattle.mz_spec_declarations.proofs.formulas.formula.Goals as goal

pub place_in-requires : goal.place_in-requires
place_in-requires c =
    let r : Reader = record { env = c.args.state.now.env; table = c.args.state.now.notations; scope = c.args.scope.now } in
    misread-small r c.args.wanted (lexeme c.args.math) c.in-Refused.at c.in-Refused.rule c.requires.small
    (subst (λ text. Misreads r c.args.wanted text (record { at = c.in-Refused.at; rule = c.in-Refused.rule })) c.inner.ensures c.in-Refused.ensures)

pub returns-in-Tree-clause-judged : goal.returns-in-Tree-clause-judged
returns-in-Tree-clause-judged c = λ ps cut.
    let r : Reader = record { env = c.args.state.now.env; table = c.args.state.now.notations; scope = c.args.scope.now } in
    told-holds r c.args.wanted (lexeme c.args.math) ps cut (tree c.in-Tree.expr) (subst (λ text. IsFormula r c.args.wanted text (tree c.in-Tree.expr)) c.inner.ensures c.in-Tree.ensures)

pub returns-in-Tree-clause-meant : goal.returns-in-Tree-clause-meant
returns-in-Tree-clause-meant c =
    let r : Reader = record { env = c.args.state.now.env; table = c.args.state.now.notations; scope = c.args.scope.now } in
    subst (λ text. IsFormula r c.args.wanted text (tree c.in-Tree.expr)) c.inner.ensures c.in-Tree.ensures

pub returns-in-Refused-clause-judged : goal.returns-in-Refused-clause-judged
returns-in-Refused-clause-judged c = λ ps cut.
    let r : Reader = record { env = c.args.state.now.env; table = c.args.state.now.notations; scope = c.args.scope.now } in
    let at_place : ℕ → Fault = λ n. record { at = n; rule = c.in-Refused.rule } in
    subst (λ n. FailsFirst (retold (told (lexeme c.args.math)) (formula_checks r c.args.wanted (inner (lexeme c.args.math)) ps)) (at_place n)) (sym c.place_in.ensures)
    (told-fails r c.args.wanted (lexeme c.args.math) ps cut c.in-Refused.at c.in-Refused.rule
    (subst (λ text. Misreads r c.args.wanted text (record { at = c.in-Refused.at; rule = c.in-Refused.rule })) c.inner.ensures c.in-Refused.ensures))

use Rattle.std.proofs.Common.{true, false, refl}
use Rattle.mz_spec_theory.specs.StatementCode.{lexeme, level}
use Rattle.mz_spec_theory.specs.declared.kind.Fixity.TheVariants as fixities
use Rattle.mz_logic_theory.specs.Declaration.{signatures}
use Rattle.mz_spec_rules.specs.Entries.{state}
use Rattle.mz_spec_theory.specs.Formulas.{inner}
use Rattle.mz_spec_theory.specs.Forms.{level_of}
use Rattle.mz_spec_theory.specs.State.{term_number}
use Rattle.mz_spec_notations.proofs.Noted.{infix-after, infix-answer, operator-after, operator-answer, prefix-after, prefix-answer}
use Rattle.mz_spec_notations.proofs.notations.note_operator.Goals as goal

pub returns-in-InfixLeft-clause-answer : goal.returns-in-InfixLeft-clause-answer
returns-in-InfixLeft-clause-answer c =
    let σ = state c.args.state.now in
    let n = lexeme c.args.operator.name in
    let k = lexeme c.args.operator.constant in
    let l = level c.args.operator.level in
    operator-answer c.add_infix.result σ c.args.operator.fixity fixities.InfixLeft n k l c.in-InfixLeft.is
    (infix-answer c.add_infix.result σ.table (signatures σ.env) σ.table.delimiters c.term_number-term.result (term_number σ n) c.inner-constant.result.now (inner k) c.args.level (level_of l) false
    c.term_number-term.ensures c.inner-constant.ensures c.requires.level c.add_infix.ensures.answer)

pub returns-in-InfixRight-clause-answer : goal.returns-in-InfixRight-clause-answer
returns-in-InfixRight-clause-answer c =
    let σ = state c.args.state.now in
    let n = lexeme c.args.operator.name in
    let k = lexeme c.args.operator.constant in
    let l = level c.args.operator.level in
    operator-answer c.add_infix-in-InfixRight.result σ c.args.operator.fixity fixities.InfixRight n k l c.in-InfixRight.is
    (infix-answer c.add_infix-in-InfixRight.result σ.table (signatures σ.env) σ.table.delimiters c.term_number-term.result (term_number σ n) c.inner-constant.result.now (inner k) c.args.level (level_of l) true
    c.term_number-term.ensures c.inner-constant.ensures c.requires.level c.add_infix-in-InfixRight.ensures.answer)

pub returns-in-Prefix-clause-answer : goal.returns-in-Prefix-clause-answer
returns-in-Prefix-clause-answer c =
    let σ = state c.args.state.now in
    let n = lexeme c.args.operator.name in
    let k = lexeme c.args.operator.constant in
    let l = level c.args.operator.level in
    operator-answer c.add_prefix.result σ c.args.operator.fixity fixities.Prefix n k l c.in-Prefix.is
    (prefix-answer c.add_prefix.result σ.table (signatures σ.env) σ.table.delimiters c.term_number-term.result (term_number σ n) c.inner-constant.result.now (inner k) c.args.level (level_of l)
    c.term_number-term.ensures c.inner-constant.ensures c.requires.level c.add_prefix.ensures.answer)

pub returns-in-InfixLeft-clause-after : goal.returns-in-InfixLeft-clause-after
returns-in-InfixLeft-clause-after c =
    let σ = state c.args.state.now in
    let n = lexeme c.args.operator.name in
    let k = lexeme c.args.operator.constant in
    let l = level c.args.operator.level in
    let u = c.add_infix.new.self in
    operator-after c.add_infix.result σ u c.args.operator.fixity fixities.InfixLeft n k l refl c.in-InfixLeft.is
    (infix-after c.add_infix.result σ.table u (signatures σ.env) σ.table.delimiters c.term_number-term.result (term_number σ n) c.inner-constant.result.now (inner k) c.args.level (level_of l) false
    c.term_number-term.ensures c.inner-constant.ensures c.requires.level c.add_infix.ensures.ok)

pub returns-in-InfixRight-clause-after : goal.returns-in-InfixRight-clause-after
returns-in-InfixRight-clause-after c =
    let σ = state c.args.state.now in
    let n = lexeme c.args.operator.name in
    let k = lexeme c.args.operator.constant in
    let l = level c.args.operator.level in
    let u = c.add_infix-in-InfixRight.new.self in
    operator-after c.add_infix-in-InfixRight.result σ u c.args.operator.fixity fixities.InfixRight n k l refl c.in-InfixRight.is
    (infix-after c.add_infix-in-InfixRight.result σ.table u (signatures σ.env) σ.table.delimiters c.term_number-term.result (term_number σ n) c.inner-constant.result.now (inner k) c.args.level (level_of l) true
    c.term_number-term.ensures c.inner-constant.ensures c.requires.level c.add_infix-in-InfixRight.ensures.ok)

pub returns-in-Prefix-clause-after : goal.returns-in-Prefix-clause-after
returns-in-Prefix-clause-after c =
    let σ = state c.args.state.now in
    let n = lexeme c.args.operator.name in
    let k = lexeme c.args.operator.constant in
    let l = level c.args.operator.level in
    let u = c.add_prefix.new.self in
    operator-after c.add_prefix.result σ u c.args.operator.fixity fixities.Prefix n k l refl c.in-Prefix.is
    (prefix-after c.add_prefix.result σ.table u (signatures σ.env) σ.table.delimiters c.term_number-term.result (term_number σ n) c.inner-constant.result.now (inner k) c.args.level (level_of l)
    c.term_number-term.ensures c.inner-constant.ensures c.requires.level c.add_prefix.ensures.ok)

use Rattle.std.proofs.Common.{◌∙◌, ◌++◌, ◌∷◌, [], ap, sym, refl, arith}
use Rattle.mz_spec_theory.specs.StatementCode.{lexeme}
use Rattle.mz_logic_theory.specs.DeclView.{term_of}
use Rattle.mz_spec_rules.specs.Entries.{state}
use Rattle.mz_spec_rules.proofs.Offered.{few-terms}
use Rattle.mz_spec_rules.proofs.Offered.{names-many, term-pushed}
use Rattle.mz_spec_rules.proofs.Offered.{new-apart}
use Rattle.mz_spec_declarations.proofs.declare.push_term.Goals as goal

pub overflow_cast-number : goal.overflow_cast-number
overflow_cast-number c =
    let few = few-terms (state c.args.state.now) c.requires.kept c.requires.few in
    let many = names-many c.args.state.now.notations.names in
    let all = c.name_count-number.ensures in
    omega (arith, few, many, all)

pub add_term_name-requires-clause-other : goal.add_term_name-requires-clause-other
add_term_name-requires-clause-other c = λ n has same. new-apart c.args.state.now.notations.names c.args.name.bytes.now c.requires.new n has same

pub returns-clause-with : goal.returns-clause-with
returns-clause-with c =
    let σ = state c.args.state.now in
    term-pushed σ c.args.place (lexeme c.args.name) (term_of c.args.term) c.name_count-number.result c.add_term_name.new.self c.push_decl.new.self c.push.new.self.items
    refl (c.name_count-number.ensures ∙ sym (names-many σ.table.names)) c.in-Ok.ensures.ok c.in_ok-push_decl.ensures.ok
    (c.in_ok-push.ensures.items ∙ ap (λ m. σ.spans ++ m ∷ []) c.span_of.ensures)

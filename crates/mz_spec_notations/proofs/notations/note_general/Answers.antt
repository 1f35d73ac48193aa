use Rattle.std.proofs.Common.{arith, ◌++◌, ◌∷◌, [], map, ap, refl, subst, sym}
use Rattle.std.specs.Prelude.{option_map}
use Rattle.mz_math_theory.specs.Forms.{General}
use Rattle.mz_spec_theory.specs.StatementCode.{head, literal, notation, tail, type_text}
use Rattle.mz_spec_rules.specs.Entries.{state}
use Rattle.mz_spec_theory.specs.Forms.{AreLiterals}
use Rattle.mz_spec_theory.specs.View.{view}
use Rattle.mz_spec_rules.proofs.Offered.{few-sorts, few-params}
use Rattle.mz_spec_theory.proofs.Offered.{variables-named}
use Rattle.mz_spec_notations.proofs.Noted.{parts-variables, general-answer, general-after}
use Rattle.mz_spec_notations.proofs.notations.note_general.Goals as goal

pub scope_of-requires-clause-few : goal.scope_of-requires-clause-few
scope_of-requires-clause-few c = few-sorts (state c.args.state.now) c.requires.kept c.requires.few

pub scope_of-requires-clause-room : goal.scope_of-requires-clause-room
scope_of-requires-clause-room c = few-params (notation c.args.notation.now) c.args.parts.now c.requires.spelled c.requires.parts

pub scope_of-requires-clause-names : goal.scope_of-requires-clause-names
scope_of-requires-clause-names c =
    let s = notation c.args.notation.now in
    parts-variables c.args.parts.now (view s).variables (view s).types (view s).result c.requires.parts c.requires.others (variables-named s c.requires.spelled)

pub scope_of-requires-clause-grouped_params : goal.scope_of-requires-clause-grouped_params
scope_of-requires-clause-grouped_params c = c.requires.parts.grouped_params

pub scope_of-requires-clause-grouped_dummies : goal.scope_of-requires-clause-grouped_dummies
scope_of-requires-clause-grouped_dummies c = c.requires.parts.grouped_dummies

pub result_of-requires-clause-few : goal.result_of-requires-clause-few
result_of-requires-clause-few c = few-sorts (state c.args.state.now) c.requires.kept c.requires.few

pub result_of-requires-clause-small : goal.result_of-requires-clause-small
result_of-requires-clause-small c =
    let few = few-params (notation c.args.notation.now) c.args.parts.now c.requires.spelled c.requires.parts in
    omega (arith, few)

pub returns-clause-answer : goal.returns-clause-answer
returns-clause-answer c =
    let σ = state c.args.state.now in
    let n = c.args.notation.now in
    let s = notation n in
    let scope = c.in-Ok-scope_of.ensures (view s).variables (view s).types (view s).result c.requires.parts in
    let result_type = c.in-Ok.ensures (view s).variables (view s).types (view s).result c.requires.parts in
    let all = map literal n.literals.items ++ literal n.last ∷ [] in
    let g : General = record { term = c.term_number-term.result; names = c.in-Ok-scope_of.scope.names; binders = c.in-Ok-scope_of.scope.binders; result = c.in-Ok.result_type; text = c.deref.result.now; literals = c.deref-2.result.now; tail = c.args.tail } in
    let are : AreLiterals c.deref.result.now all c.deref-2.result.now =
    subst (λ x. AreLiterals x all c.deref-2.result.now) (sym c.deref.ensures.value) (subst (λ y. AreLiterals c.args.literals.now.text.items all y) (sym c.deref-2.ensures.value) c.requires.literals) in
    general-answer σ (head n.head) (type_text n.result) (map literal n.literals.items) (literal n.last) (option_map tail n.tail) g
    (c.term_number-term.ensures, ap (λ x. x.names) scope, ap (λ x. x.binders) scope, result_type, are, c.requires.tail) c.add_general.result c.add_general.ensures.answer

pub returns-clause-after : goal.returns-clause-after
returns-clause-after c =
    let σ = state c.args.state.now in
    let n = c.args.notation.now in
    let s = notation n in
    let scope = c.in-Ok-scope_of.ensures (view s).variables (view s).types (view s).result c.requires.parts in
    let result_type = c.in-Ok.ensures (view s).variables (view s).types (view s).result c.requires.parts in
    let all = map literal n.literals.items ++ literal n.last ∷ [] in
    let g : General = record { term = c.term_number-term.result; names = c.in-Ok-scope_of.scope.names; binders = c.in-Ok-scope_of.scope.binders; result = c.in-Ok.result_type; text = c.deref.result.now; literals = c.deref-2.result.now; tail = c.args.tail } in
    let are : AreLiterals c.deref.result.now all c.deref-2.result.now =
    subst (λ x. AreLiterals x all c.deref-2.result.now) (sym c.deref.ensures.value) (subst (λ y. AreLiterals c.args.literals.now.text.items all y) (sym c.deref-2.ensures.value) c.requires.literals) in
    general-after σ (head n.head) (type_text n.result) (map literal n.literals.items) (literal n.last) (option_map tail n.tail) g
    (c.term_number-term.ensures, ap (λ x. x.names) scope, ap (λ x. x.binders) scope, result_type, are, c.requires.tail) c.add_general.result c.add_general.new.self refl c.add_general.ensures.ok

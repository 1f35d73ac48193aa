use Rattle.std.proofs.Common.{◌≤◌, ◌++◌, ◌+◌, ◌∙◌, List, length, sym, subst, ap, arith}
use Rattle.mz_logic_theory.specs.Tree.{size}
use Rattle.mz_logic_theory.specs.Words.{binders_of}
use Rattle.mz_logic_theory.specs.declared.word.Word.{Word}
use Rattle.mz_store.specs.Bits.{bound_vars}
use Rattle.mz_machine_env.proofs.Offered.{binders_many}
use Rattle.mz_emit_bodies.specs.Variables.{IsShared}
use Rattle.mz_emit_theory.specs.CompiledFile.{definition_stream_of, definition_body_of}
use Rattle.mz_emit.proofs.Speaking.{few_bound, has_params, dummies_behind, few_words}
use Rattle.mz_emit.proofs.emitter.Emitter.defined.Goals as goal

pub overflow_cast-params : goal.overflow_cast-params
overflow_cast-params c =
    let few = few_words c.args.words.now.params.items c.requires.can.ready.few_params in
    let many = ap length c.as_slice.ensures.value in
    omega (arith, few, many)

pub new-requires-clause-few : goal.new-requires-clause-few
new-requires-clause-few c =
    let few = few_bound c.args.self.now.env (binders_of c.args.words.now.params.items) c.args.dummies.now c.requires.can.ready in
    subst (λ (ws : List Word). length (bound_vars (binders_of ws)) + length c.args.dummies.now ≤ 55) (sym c.deref.ensures.value) few

pub id-requires-clause-shared : goal.id-requires-clause-shared
id-requires-clause-shared c = c.in_ok-shared.ensures.shared _

pub definition_stream-requires-clause-params : goal.definition_stream-requires-clause-params
definition_stream-requires-clause-params c =
    let is = c.in_ok-id.ensures.grows.0 ∙ c.in_ok-shared.ensures.context ∙ ap (λ (ws : List Word). binders_of ws ++ c.args.dummies.now) c.deref.ensures.value in
    let many = binders_many c.args.words.now.params.items ∙ ap length (sym c.as_slice.ensures.value) in
    has_params c.args.self.now.env (binders_of c.args.words.now.params.items) c.args.dummies.now c.requires.can.ready c.id.new.self.store.context (length c.as_slice.result.now) is many

pub definition_body-requires-clause-behind : goal.definition_body-requires-clause-behind
definition_body-requires-clause-behind c =
    let is = c.in_ok-id.ensures.grows.0 ∙ c.in_ok-shared.ensures.context ∙ ap (λ (ws : List Word). binders_of ws ++ c.args.dummies.now) c.deref.ensures.value in
    let many = binders_many c.args.words.now.params.items ∙ ap length (sym c.as_slice.ensures.value) in
    let shared = subst (λ sigs. IsShared sigs c.id.new.self.store c.id.new.self.variables.items) c.requires.table c.in_ok-id.ensures.shared in
    dummies_behind c.args.self.now.env (binders_of c.args.words.now.params.items) c.args.dummies.now c.requires.can.ready c.id.new.self.store c.id.new.self.variables.items
    (length c.as_slice.result.now) is many shared

pub definition_stream-requires-clause-room : goal.definition_stream-requires-clause-room
definition_stream-requires-clause-room c =
    let many = binders_many c.args.words.now.params.items ∙ ap length (sym c.as_slice.ensures.value) in
    omega (arith, many, ap size c.in_ok-id.ensures.holds.1, c.requires.can.room)

pub definition_body-requires-clause-room : goal.definition_body-requires-clause-room
definition_body-requires-clause-room c =
    let many = binders_many c.args.words.now.params.items ∙ ap length (sym c.as_slice.ensures.value) in
    omega (arith, many, ap size c.in_ok-id.ensures.holds.1, c.requires.can.room)

pub returns-clause-stream : goal.returns-clause-stream
returns-clause-stream c =
    let is = c.in_ok-id.ensures.grows.0 ∙ c.in_ok-shared.ensures.context ∙ ap (λ (ws : List Word). binders_of ws ++ c.args.dummies.now) c.deref.ensures.value in
    let many = binders_many c.args.words.now.params.items ∙ ap length (sym c.as_slice.ensures.value) in
    let params = binders_of c.args.words.now.params.items in
    c.in_ok-stream.ensures params c.args.dummies.now is many ∙ ap (definition_stream_of params c.args.dummies.now) c.in_ok-id.ensures.holds.1

pub returns-clause-body : goal.returns-clause-body
returns-clause-body c =
    let is = c.in_ok-id.ensures.grows.0 ∙ c.in_ok-shared.ensures.context ∙ ap (λ (ws : List Word). binders_of ws ++ c.args.dummies.now) c.deref.ensures.value in
    let many = binders_many c.args.words.now.params.items ∙ ap length (sym c.as_slice.ensures.value) in
    let params = binders_of c.args.words.now.params.items in
    c.in_ok-body.ensures.written params c.args.dummies.now is many ∙ ap (definition_body_of params c.args.dummies.now) c.in_ok-id.ensures.holds.1

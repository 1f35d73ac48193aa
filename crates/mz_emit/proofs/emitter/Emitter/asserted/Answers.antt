use Rattle.std.proofs.Common.{◌≤◌, ◌+◌, ◌∙◌, ◌++◌, List, length, sym, subst, ap, arith}
use Rattle.mz_logic_theory.specs.Declaration.{signatures}
use Rattle.mz_logic_theory.specs.DeclView.{assertion_view}
use Rattle.mz_logic_theory.specs.Signature.{Signature}
use Rattle.mz_logic_theory.specs.Tree.{listed, size, trees_size}
use Rattle.mz_logic_theory.specs.View.{tree}
use Rattle.mz_logic_theory.specs.Words.{binders_of}
use Rattle.mz_logic_theory.specs.declared.binder.Binder.{Binder}
use Rattle.mz_logic_theory.specs.declared.word.Word.{Word}
use Rattle.mz_store.specs.Bits.{bound_vars}
use Rattle.mz_store.specs.Sharing.{tree_of, trees_of}
use Rattle.mz_machine_theory.specs.Sorted.{Sorted}
use Rattle.mz_machine_env.proofs.Offered.{binders_many}
use Rattle.mz_type_rules.specs.Answers.{stated}
use Rattle.mz_emit_theory.specs.InReach.{AreSorted}
use Rattle.mz_emit_bodies.specs.Variables.{IsShared}
use Rattle.mz_emit_theory.specs.StreamWriting.{assertion_written, stream_of}
use Rattle.mz_emit_theory.specs.CompiledFile.{assertion_body_of}
use Rattle.mz_emit.proofs.Speaking.{few_bound, has_params, dummies_behind, few_words, held_after, conclusion_sorted, hyps_sorted, conclusion_reach, hyps_reach, hyps_provable, sound_there}
use Rattle.mz_emit.proofs.emitter.Emitter.asserted.Goals as goal

pub overflow_cast-params : goal.overflow_cast-params
overflow_cast-params c =
    let few = few_words c.args.words.now.params.items (subst (λ (ps : List Binder). length ps ≤ 65535) (sym c.requires.params) c.requires.can.ready.few_params) in
    let many = ap length c.as_slice.ensures.value in
    omega (arith, few, many)

pub new-requires-clause-few : goal.new-requires-clause-few
new-requires-clause-few c =
    let few = few_bound c.args.self.now.env (assertion_view c.args.thm.now).params c.args.dummies.now c.requires.can.ready in
    subst (λ (ps : List Binder). length (bound_vars ps) + length c.args.dummies.now ≤ 55) (sym (ap binders_of c.deref.ensures.value ∙ c.requires.params)) few

pub id-requires-clause-shared : goal.id-requires-clause-shared
id-requires-clause-shared c = c.in_ok-shared.ensures.shared _

pub id-requires-clause-sorted : goal.id-requires-clause-sorted
id-requires-clause-sorted c =
    let is = c.in_ok-shared.ensures.context ∙ ap (λ (ws : List Word). binders_of ws ++ c.args.dummies.now) c.deref.ensures.value ∙ ap (λ ps. ps ++ c.args.dummies.now) c.requires.params in
    let sorted = conclusion_sorted c.args.self.now.env (assertion_view c.args.thm.now) c.args.dummies.now c.requires.can in
    subst (λ (sigs : List Signature). Sorted sigs c.in_ok-shared.shared.store.context (tree c.args.thm.now.conclusion)) (sym c.requires.table)
    (subst (λ ctx. Sorted (signatures c.args.self.now.env) ctx (tree c.args.thm.now.conclusion)) (sym is) sorted)

pub hyp_ids-requires-clause-sorted : goal.hyp_ids-requires-clause-sorted
hyp_ids-requires-clause-sorted c =
    let is = c.in_ok-conclusion.ensures.grows.0 ∙ c.in_ok-shared.ensures.context ∙ ap (λ (ws : List Word). binders_of ws ++ c.args.dummies.now) c.deref.ensures.value ∙ ap (λ ps. ps ++ c.args.dummies.now) c.requires.params in
    let sorted = hyps_sorted c.args.self.now.env (assertion_view c.args.thm.now) c.args.dummies.now c.requires.can in
    subst (λ (sigs : List Signature). AreSorted sigs c.id.new.self.store.context c.args.thm.now.hyps) (sym c.requires.table)
    (subst (λ ctx. AreSorted (signatures c.args.self.now.env) ctx c.args.thm.now.hyps) (sym is) sorted)

pub assertion_stream-requires-clause-params : goal.assertion_stream-requires-clause-params
assertion_stream-requires-clause-params c =
    let is = c.in_ok-hyps.ensures.grows.0 ∙ c.in_ok-conclusion.ensures.grows.0 ∙ c.in_ok-shared.ensures.context ∙ ap (λ (ws : List Word). binders_of ws ++ c.args.dummies.now) c.deref.ensures.value ∙ ap (λ ps. ps ++ c.args.dummies.now) c.requires.params in
    let many = sym (ap length c.requires.params) ∙ binders_many c.args.words.now.params.items ∙ ap length (sym c.as_slice.ensures.value) in
    has_params c.args.self.now.env (assertion_view c.args.thm.now).params c.args.dummies.now c.requires.can.ready c.hyp_ids.new.self.store.context (length c.as_slice.result.now) is many

pub assertion_stream-requires-clause-conclusion_reach : goal.assertion_stream-requires-clause-conclusion_reach
assertion_stream-requires-clause-conclusion_reach c =
    let many = sym (ap length c.requires.params) ∙ binders_many c.args.words.now.params.items ∙ ap length (sym c.as_slice.ensures.value) in
    let conclusion = held_after c.id.new.self.store c.hyp_ids.new.self.store c.in_ok-conclusion.conclusion.0 (tree c.args.thm.now.conclusion) c.in_ok-hyps.ensures.grows c.in_ok-conclusion.ensures.holds in
    conclusion_reach c.args.self.now.env (assertion_view c.args.thm.now) c.args.dummies.now c.requires.can (tree_of c.hyp_ids.new.self.store c.in_ok-conclusion.conclusion.0) (length c.as_slice.result.now) conclusion many

pub assertion_stream-requires-clause-hyps_reach : goal.assertion_stream-requires-clause-hyps_reach
assertion_stream-requires-clause-hyps_reach c =
    let many = sym (ap length c.requires.params) ∙ binders_many c.args.words.now.params.items ∙ ap length (sym c.as_slice.ensures.value) in
    let hyps = ap (trees_of c.hyp_ids.new.self.store) c.deref-2.ensures.value ∙ c.in_ok-hyps.ensures.trees in
    hyps_reach c.args.self.now.env (assertion_view c.args.thm.now) c.args.dummies.now c.requires.can (trees_of c.hyp_ids.new.self.store c.deref-2.result.now) (length c.as_slice.result.now) hyps many

pub assertion_body-requires-clause-behind : goal.assertion_body-requires-clause-behind
assertion_body-requires-clause-behind c =
    let is = c.in_ok-hyps.ensures.grows.0 ∙ c.in_ok-conclusion.ensures.grows.0 ∙ c.in_ok-shared.ensures.context ∙ ap (λ (ws : List Word). binders_of ws ++ c.args.dummies.now) c.deref.ensures.value ∙ ap (λ ps. ps ++ c.args.dummies.now) c.requires.params in
    let many = sym (ap length c.requires.params) ∙ binders_many c.args.words.now.params.items ∙ ap length (sym c.as_slice.ensures.value) in
    let shared = subst (λ sigs. IsShared sigs c.hyp_ids.new.self.store c.hyp_ids.new.self.variables.items) c.requires.table c.in_ok-hyps.ensures.shared in
    dummies_behind c.args.self.now.env (assertion_view c.args.thm.now).params c.args.dummies.now c.requires.can.ready c.hyp_ids.new.self.store c.hyp_ids.new.self.variables.items (length c.as_slice.result.now) is many shared

pub assertion_body-requires-clause-provable : goal.assertion_body-requires-clause-provable
assertion_body-requires-clause-provable c =
    let is = c.in_ok-hyps.ensures.grows.0 ∙ c.in_ok-conclusion.ensures.grows.0 ∙ c.in_ok-shared.ensures.context ∙ ap (λ (ws : List Word). binders_of ws ++ c.args.dummies.now) c.deref.ensures.value ∙ ap (λ ps. ps ++ c.args.dummies.now) c.requires.params in
    let hyps = ap (trees_of c.hyp_ids.new.self.store) c.deref-3.ensures.value ∙ c.in_ok-hyps.ensures.trees in
    hyps_provable c.args.self.now.env (assertion_view c.args.thm.now) c.args.dummies.now c.requires.can c.hyp_ids.new.self.store.context (trees_of c.hyp_ids.new.self.store c.deref-3.result.now) is hyps

pub assertion_body-requires-clause-sound : goal.assertion_body-requires-clause-sound
assertion_body-requires-clause-sound c =
    let is = c.in_ok-hyps.ensures.grows.0 ∙ c.in_ok-conclusion.ensures.grows.0 ∙ c.in_ok-shared.ensures.context ∙ ap (λ (ws : List Word). binders_of ws ++ c.args.dummies.now) c.deref.ensures.value ∙ ap (λ ps. ps ++ c.args.dummies.now) c.requires.params in
    let hyps = ap (trees_of c.hyp_ids.new.self.store) c.deref-3.ensures.value ∙ c.in_ok-hyps.ensures.trees in
    (c.requires.proved.0, sound_there c.args.self.now.env (assertion_view c.args.thm.now) c.args.dummies.now c.requires.can c.requires.proved.0 (stated c.args.proof) c.hyp_ids.new.self.store.context (trees_of c.hyp_ids.new.self.store c.deref-3.result.now) is hyps c.requires.proved.1)

pub assertion_stream-requires-clause-room : goal.assertion_stream-requires-clause-room
assertion_stream-requires-clause-room c =
    let many = sym (ap length c.requires.params) ∙ binders_many c.args.words.now.params.items ∙ ap length (sym c.as_slice.ensures.value) in
    let conclusion = held_after c.id.new.self.store c.hyp_ids.new.self.store c.in_ok-conclusion.conclusion.0 (tree c.args.thm.now.conclusion) c.in_ok-hyps.ensures.grows c.in_ok-conclusion.ensures.holds in
    let hyps = ap (trees_of c.hyp_ids.new.self.store) c.deref-2.ensures.value ∙ c.in_ok-hyps.ensures.trees in
    omega (arith, many, ap size conclusion, ap trees_size hyps, c.requires.room)

pub assertion_body-requires-clause-room : goal.assertion_body-requires-clause-room
assertion_body-requires-clause-room c =
    let many = sym (ap length c.requires.params) ∙ binders_many c.args.words.now.params.items ∙ ap length (sym c.as_slice.ensures.value) in
    let conclusion = held_after c.id.new.self.store c.hyp_ids.new.self.store c.in_ok-conclusion.conclusion.0 (tree c.args.thm.now.conclusion) c.in_ok-hyps.ensures.grows c.in_ok-conclusion.ensures.holds in
    let hyps = ap (trees_of c.hyp_ids.new.self.store) c.deref-3.ensures.value ∙ c.in_ok-hyps.ensures.trees in
    omega (arith, many, ap size conclusion, ap trees_size hyps, c.requires.room)

pub returns-clause-stream : goal.returns-clause-stream
returns-clause-stream c =
    let is = c.in_ok-hyps.ensures.grows.0 ∙ c.in_ok-conclusion.ensures.grows.0 ∙ c.in_ok-shared.ensures.context
    ∙ ap (λ (ws : List Word). binders_of ws ++ c.args.dummies.now) c.deref.ensures.value ∙ ap (λ ps. ps ++ c.args.dummies.now) c.requires.params in
    let many = sym (ap length c.requires.params) ∙ binders_many c.args.words.now.params.items ∙ ap length (sym c.as_slice.ensures.value) in
    let conclusion = held_after c.id.new.self.store c.hyp_ids.new.self.store c.in_ok-conclusion.conclusion.0 (tree c.args.thm.now.conclusion)
    c.in_ok-hyps.ensures.grows c.in_ok-conclusion.ensures.holds in
    let hyps = ap (trees_of c.hyp_ids.new.self.store) c.deref-2.ensures.value ∙ c.in_ok-hyps.ensures.trees in
    let params = (assertion_view c.args.thm.now).params in
    c.in_ok-stream.ensures params c.args.dummies.now is many
    ∙ ap (λ hs. stream_of (assertion_written params hs (tree_of c.hyp_ids.new.self.store c.in_ok-conclusion.conclusion.0)).commands) hyps
    ∙ ap (λ e. stream_of (assertion_written params (assertion_view c.args.thm.now).hyps e).commands) conclusion

pub returns-clause-body : goal.returns-clause-body
returns-clause-body c =
    let is = c.in_ok-hyps.ensures.grows.0 ∙ c.in_ok-conclusion.ensures.grows.0 ∙ c.in_ok-shared.ensures.context
    ∙ ap (λ (ws : List Word). binders_of ws ++ c.args.dummies.now) c.deref.ensures.value ∙ ap (λ ps. ps ++ c.args.dummies.now) c.requires.params in
    let many = sym (ap length c.requires.params) ∙ binders_many c.args.words.now.params.items ∙ ap length (sym c.as_slice.ensures.value) in
    let conclusion = held_after c.id.new.self.store c.hyp_ids.new.self.store c.in_ok-conclusion.conclusion.0 (tree c.args.thm.now.conclusion)
    c.in_ok-hyps.ensures.grows c.in_ok-conclusion.ensures.holds in
    let hyps = ap (trees_of c.hyp_ids.new.self.store) c.deref-3.ensures.value ∙ c.in_ok-hyps.ensures.trees in
    let env = c.args.self.now.env in
    let params = (assertion_view c.args.thm.now).params in
    let dummies = c.args.dummies.now in
    c.in_ok-body.ensures params dummies is many
    ∙ ap (λ hs. assertion_body_of env params dummies (listed hs) (tree_of c.hyp_ids.new.self.store c.in_ok-conclusion.conclusion.0) (stated c.args.proof)) hyps
    ∙ ap (λ e. assertion_body_of env params dummies (listed (assertion_view c.args.thm.now).hyps) e (stated c.args.proof)) conclusion

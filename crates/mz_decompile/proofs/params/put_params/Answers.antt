use Rattle.std.proofs.Common.{◌≡◌, ◌∙◌, ◌≤◌, ◌+◌, ◌++◌, ℕ, List, [], ◌∷◌, length, drop, sym, ap, subst, arith}
use Rattle.std.proofs.lemmas.Option.{get_or_from_slice_get, slice_get_within}
use Rattle.mz_logic_theory.specs.Words.{binder_of, binders_of, bound_places}
use Rattle.mz_match_theory.proofs.Offered.{places-step, places-end}
use Rattle.mz_layout_tables.specs.Rows.{params_of}
use Rattle.mz_decompile_text.specs.Phrasing.{binder, binders}
use Rattle.mz_decompile_text.specs.Naming.{vocabulary_by}
use Rattle.mz_decompile.specs.Adding.{Adds}
use Rattle.mz_decompile.proofs.Adding.{added-first, added-more, added-there, added-last}
use Rattle.mz_decompile.proofs.Lists.{params-from, params-step, params-end}
use Rattle.mz_decompile.proofs.params.put_params.Goals as goal

pub params-init : goal.params-init
params-init c =
    let v = vocabulary_by c.args.names.now in
    let ws = params_of c.args.mmb.now c.args.row in
    record {
      added = added-first c.args.phrases.now c.new-inner.result.items (binders v 0 (binders_of ws)) (params-from v 0 c.new-places.result.items ws) c.new-inner.ensures.items
          (ap (λ (ps : List ℕ). params-from v 0 ps ws) c.new-places.ensures.items);
      places = ap (λ (ps : List ℕ). ps ++ bound_places 0 ws) c.new-places.ensures.items;
    }

pub param-word-requires-clause-place : goal.param-word-requires-clause-place
param-word-requires-clause-place c =
    let test = c.params-test.true in
    let many = c.arity-arity.ensures in
    omega (arith, test, many)

pub params-preserved : goal.params-preserved
params-preserved c =
    let v = vocabulary_by c.args.names.now in
    let ws = params_of c.args.mmb.now c.args.row in
    let w = c.param-word.result in
    let i = c.params.i in
    let old = c.params.places.items in
    let new = c.push_bound.new.places.items in
    let within = slice_get_within ws i w c.param-word.ensures in
    let is = sym (get_or_from_slice_get ws i w w c.param-word.ensures) in
    let adds = subst (λ (ps : List ℕ). Adds c.params.phrases c.put_binder.new.phrases c.params.inner.items c.put_binder.new.parts.items (binder v i (binder_of ps w) ∷ [])) c.deref.ensures.value
    c.in_ok-put_binder.ensures in
    record {
      added = added-more c.args.phrases.now c.params.phrases c.put_binder.new.phrases c.params.inner.items c.put_binder.new.parts.items (binders v 0 (binders_of ws))
          (params-from v i old ws) (params-from v (i + 1) new ws) (binder v i (binder_of old w) ∷ []) c.params.invariant.added
          (params-step v i old new ws w within is c.in_ok-push_bound.ensures) adds;
      places = ap (λ (ps : List ℕ). ps ++ bound_places (i + 1) (drop (i + 1) ws)) c.in_ok-push_bound.ensures
          ∙ places-step [] ws (i ≡ i) i old w (bound_places 0 ws) within is c.params.invariant.places;
    }

pub put_list-requires : goal.put_list-requires
put_list-requires c =
    let v = vocabulary_by c.args.names.now in
    let ws = params_of c.args.mmb.now c.args.row in
    added-there c.args.phrases.now c.params.phrases c.deref-2.result.now c.params.inner.items (binders v 0 (binders_of ws)) (params-from v c.params.i c.params.places.items ws)
    c.deref-2.ensures.value c.params.invariant.added

pub returns-clause-adds : goal.returns-clause-adds
returns-clause-adds c =
    let v = vocabulary_by c.args.names.now in
    let ws = params_of c.args.mmb.now c.args.row in
    let i = c.params.i in
    let test = c.params-test.false in
    let many = c.arity-arity.ensures in
    let past : length ws ≤ i = omega (arith, test, many) in
    added-last c.args.phrases.now c.params.phrases c.put_list.new.phrases c.deref-2.result.now c.params.inner.items c.args.parts.now.items c.put_list.new.parts.items (binders v 0 (binders_of ws))
    (params-from v i c.params.places.items ws) c.deref-2.ensures.value c.params.invariant.added (params-end v i c.params.places.items ws past) c.in_ok-put_list.ensures

pub returns-clause-places : goal.returns-clause-places
returns-clause-places c =
    let ws = params_of c.args.mmb.now c.args.row in
    let i = c.params.i in
    let test = c.params-test.false in
    let many = c.arity-arity.ensures in
    let past : length ws ≤ i = omega (arith, test, many) in
    places-end [] ws (i ≡ i) i c.params.places.items (bound_places 0 ws) past c.params.invariant.places

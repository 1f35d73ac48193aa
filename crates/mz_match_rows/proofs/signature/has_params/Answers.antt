use Rattle.std.proofs.Common.{◌≡◌, ◌∙◌, ◌<◌, ◌+◌, ◌++◌, [], drop, refl, sym, ap, true≢false, length, arith}
use Rattle.std.proofs.lemmas.Option.{get_or_from_slice_get, slice_get_within}
use Rattle.mz_logic_theory.specs.Words.{binder_of, binders_of, bound_places}
use Rattle.mz_logic_theory.proofs.Offered.{length-binders}
use Rattle.mz_layout_tables.specs.Rows.{params_of}
use Rattle.mz_match_theory.proofs.Offered.{params-step, params-differ, params-end, places-step, places-end, places-room}
use Rattle.mz_match_rows.proofs.signature.has_params.Goals as goal

pub returns-then-params-arity-clause-same : goal.returns-then-params-arity-clause-same
returns-then-params-arity-clause-same c = (
  λ t. absurd (true≢false (sym t)),
  λ same. absurd (c.if-params-arity.true (ap length same ∙ length-binders 0 [] (params_of c.args.mmb.now c.args.row) ∙ sym c.arity-arity.ensures)),
)

pub returns-then-not-is_binder-clause-same : goal.returns-then-not-is_binder-clause-same
returns-then-not-is_binder-clause-same c =
    let ws = params_of c.args.mmb.now c.args.row in
    let word = c.param-word.result in
    let there : c.loop-i.i < length c.args.params.now = (let test = c.loop-i-test.true in let many = c.if-params-arity.false in omega (arith, test, many)) in (
      λ t. absurd (true≢false (sym t)),
      λ same. absurd (params-differ c.args.params.now ws (c.args.params.now ≡ binders_of ws) c.loop-i.i c.loop-i.places.items word c.index-params-i.result
          (slice_get_within ws c.loop-i.i word c.param-word.ensures) (sym (get_or_from_slice_get ws c.loop-i.i word word c.param-word.ensures)) there c.index-params-i.is
          (λ e. true≢false (sym (c.is_binder.ensures.1 (e ∙ ap (λ ps. binder_of ps word) (sym c.as_slice.ensures.value))) ∙ c.if-not-is_binder.true)) c.loop-i.invariant.left same),
    )

pub push_bound-requires : goal.push_bound-requires
push_bound-requires c =
    let ws = params_of c.args.mmb.now c.args.row in
    let word = c.param-word.result in
    λ bound. places-room c.args.params.now ws (c.args.params.now ≡ binders_of ws) c.loop-i.i c.loop-i.places.items word
    (slice_get_within ws c.loop-i.i word c.param-word.ensures) (sym (get_or_from_slice_get ws c.loop-i.i word word c.param-word.ensures)) c.loop-i.invariant.places bound c.requires.few

pub loop-i-preserved : goal.loop-i-preserved
loop-i-preserved c =
    let ws = params_of c.args.mmb.now c.args.row in
    let word = c.param-word.result in
    let within = slice_get_within ws c.loop-i.i word c.param-word.ensures in
    let is = sym (get_or_from_slice_get ws c.loop-i.i word word c.param-word.ensures) in
    let there : c.loop-i.i < length c.args.params.now = (let test = c.loop-i-test.true in let many = c.if-params-arity.false in omega (arith, test, many)) in
    record {
      left = params-step c.args.params.now ws (c.args.params.now ≡ binders_of ws) c.loop-i.i c.loop-i.places.items word c.index-params-i.result c.push_bound.new.places.items within is there
          c.index-params-i.is (c.is_binder.ensures.0 c.if-not-is_binder.false ∙ ap (λ ps. binder_of ps word) c.as_slice.ensures.value) c.push_bound.ensures c.loop-i.invariant.left;
      places = ap (λ ps. ps ++ bound_places (c.loop-i.i + 1) (drop (c.loop-i.i + 1) ws)) c.push_bound.ensures
          ∙ places-step c.args.params.now ws (c.args.params.now ≡ binders_of ws) c.loop-i.i c.loop-i.places.items word (bound_places 0 ws) within is c.loop-i.invariant.places;
    }

pub returns : goal.returns
returns c =
    let ws = params_of c.args.mmb.now c.args.row in
    let past = c.loop-i-test.false in
    let many = c.if-params-arity.false in
    let words = c.arity-arity.ensures in
    record {
      same = (λ _. params-end c.args.params.now ws (c.args.params.now ≡ binders_of ws) c.loop-i.i c.loop-i.places.items (omega (arith, past, many)) (omega (arith, past, words)) c.loop-i.invariant.left, λ _. refl);
      places = λ _. places-end c.args.params.now ws (c.args.params.now ≡ binders_of ws) c.loop-i.i c.loop-i.places.items (bound_places 0 ws) (omega (arith, past, words)) c.loop-i.invariant.places;
    }

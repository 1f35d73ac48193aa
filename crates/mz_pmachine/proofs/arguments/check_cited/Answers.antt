use Rattle.std.proofs.Common.{◌<◌, ◌≤◌, ◌+◌, ◌++◌, List, ℕ, drop, length, refl, sym, ap, ◌∙◌, arith, add-one}
use Rattle.std.proofs.lemmas.Option.{slice_get-get_or}
use Rattle.std.proofs.lemmas.Result.{err_from_is_err_and}
use Rattle.mz_logic_theory.specs.Words.{bound_places}
use Rattle.mz_pmachine_unify.specs.Stored.{trees_at}
use Rattle.mz_pmachine_unify.proofs.Offered.{is-in-at, length-trees, tree-at}
use Rattle.mz_machine_env.specs.Before.{signatures_of}
use Rattle.mz_machine_env.proofs.Offered.{places-take, places-skip, places-all}
use Rattle.mz_layout_tables.specs.Rows.{params_of}
use Rattle.mz_machine.proofs.Offered.{fit-end, fit-step, memory-stops}
use Rattle.mz_pmachine.proofs.arguments.check_cited.Goals as goal
use Rattle.mz_pmachine.proofs.arguments.check_cited.Goals.{then-bound+in_ok-push, else-bound}

pub operands-init : goal.operands-init
operands-init c = (refl, ap (λ (ps : List ℕ). ps ++ bound_places 0 (params_of c.args.env.now.file c.args.row)) c.clear.ensures.items)

pub check_operand-requires : goal.check_operand-requires
check_operand-requires c =
    is-in-at c.args.nodes.now c.args.operands.now c.operands.j _ c.requires.ids
    (slice_get-get_or _ _ _ (let e : c.operands.j < length c.args.operands.now = omega (arith, c.requires.many, c.arity_of-j-end.ensures, c.operands-test.true) in e))

pub returns-in-Err-clause-fit : goal.returns-in-Err-clause-fit
returns-in-Err-clause-fit c =
    let here : c.operands.j < length c.args.operands.now = omega (arith, c.requires.many, c.arity_of-j-end.ensures, c.operands-test.true) in
    sym c.operands.invariant.0
    ∙ fit-step (signatures_of c.args.env.now) c.args.nodes.now.context (trees_at c.args.nodes.now c.args.operands.now) (params_of c.args.env.now.file c.args.row) c.operands.j _ c.word_of-word.result _
    (tree-at c.args.nodes.now c.args.operands.now c.operands.j _ (slice_get-get_or _ _ _ here)) c.word_of-word.ensures (λ q s b. c.in-Err.ensures (signatures_of c.args.env.now) q c.requires.over s b)

pub operands-preserved : goal.operands-preserved
operands-preserved c =
    let ws = params_of c.args.env.now.file c.args.row in
    let here : c.operands.j < length c.args.operands.now = omega (arith, c.requires.many, c.arity_of-j-end.ensures, c.operands-test.true) in
    let rest = bound_places (c.operands.j + 1) (drop (c.operands.j + 1) ws) in (
      rw (add-one c.operands.j)
          (sym (fit-step (signatures_of c.args.env.now) c.args.nodes.now.context (trees_at c.args.nodes.now c.args.operands.now) ws c.operands.j _ c.word_of-word.result _
          (tree-at c.args.nodes.now c.args.operands.now c.operands.j _ (slice_get-get_or _ _ _ here)) c.word_of-word.ensures (λ q s b. c.in_default.ensures (signatures_of c.args.env.now) q c.requires.over s b)) ∙ c.operands.invariant.0),
      elim c.if-bound.branch [
        | then-bound+in_ok-push r ↦
            ap (λ b. b.items ++ rest) r.places-is ∙ ap (λ (ps : List ℕ). ps ++ rest) r.in_ok-push.ensures.ok
            ∙ rw (add-one c.operands.j)
            (places-take ws c.operands.j c.word_of-word.result c.word_of-word.ensures c.operands.places.items (bound_places 0 ws) c.operands.invariant.1 (sym c.bound.ensures ∙ r.if-bound.true))
        | else-bound r ↦
            ap (λ b. b.items ++ rest) r.places-is
            ∙ rw (add-one c.operands.j)
            (places-skip ws c.operands.j c.word_of-word.result c.word_of-word.ensures c.operands.places.items (bound_places 0 ws) c.operands.invariant.1 (sym c.bound.ensures ∙ r.if-bound.false))
      ],
    )

pub returns-clause-fit : goal.returns-clause-fit
returns-clause-fit c =
    let past : length (trees_at c.args.nodes.now c.args.operands.now) ≤ c.operands.j = omega (arith, length-trees c.args.nodes.now c.args.operands.now, c.requires.many, c.arity_of-j-end.ensures, c.operands-test.false) in
    sym c.operands.invariant.0
    ∙ fit-end (signatures_of c.args.env.now) c.args.nodes.now.context (trees_at c.args.nodes.now c.args.operands.now) _ c.operands.j past

pub returns-clause-places : goal.returns-clause-places
returns-clause-places c =
    let ws = params_of c.args.env.now.file c.args.row in
    places-all ws c.operands.j c.operands.places.items (bound_places 0 ws) (omega (arith, c.arity_of-j-end.ensures, c.operands-test.false)) c.operands.invariant.1

pub returns-in_err-push-clause-fit : goal.returns-in_err-push-clause-fit
returns-in_err-push-clause-fit c =
    let p = err_from_is_err_and c.from_residual.result c.from_residual.ensures.1 in
    rw (p.1, p.2) (memory-stops _ _ c.in_err-push.ensures.err)

pub returns-in_err-push-clause-places : goal.returns-in_err-push-clause-places
returns-in_err-push-clause-places c = rw (err_from_is_err_and c.from_residual.result c.from_residual.ensures.1).1 tt

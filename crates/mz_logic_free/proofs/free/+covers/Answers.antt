use Rattle.std.proofs.Common.{ℕ, ◌≡◌, ◌<◌, ◌+◌, ◌∷◌, Contains, All, IsTrue, IfOk, sym, ap, refl, subst, ◌∙◌, ◌↔◌, arith, drop, length, true≢false}
use Rattle.std.proofs.lemmas.Result.{IfOk-weaker}
use Rattle.mz_base.proofs.Offered.{drop-item}
use Rattle.mz_logic_theory.specs.Declaration.{signatures}
use Rattle.mz_logic_theory.specs.DeclView.{signature}
use Rattle.mz_logic_theory.specs.Legality.{InRange, AllInRange}
use Rattle.mz_logic_theory.specs.Shapes.{shape_tree}
use Rattle.mz_logic_theory.specs.Signature.{Signature}
use Rattle.mz_logic_theory.specs.Tree.{Tree, size, app}
use Rattle.mz_logic_theory.specs.Variables.{InFV, InSomeFV}
use Rattle.mz_logic_theory.proofs.Offered.{past-end, signature_is}
use Rattle.mz_logic_free.proofs.Walking.{IsCoveredAt, app-out, app-in, operand-in, operands-out, operands-step}
use Rattle.mz_logic_free.specs.Known.{LearntMore}
use Rattle.mz_logic_free.proofs.Knowing.{Inside, bound-next, bound-passed, deps-of, param-at, inside-first, inside-bound, inside-learnt, inside-same, inside-left}
use Rattle.mz_logic_free.proofs.free.+covers.Goals as goal
use Rattle.mz_logic_free.proofs.free.+covers.Goals.{covers_operands-then-not-param+in_ok-bind+in_ok-holds+else-not-holds, covers_operands-else-not-param}

pub covers-returns-then-not-covers_bound_operands-clause-answer : goal.covers-returns-then-not-covers_bound_operands-clause-answer
covers-returns-then-not-covers_bound_operands-clause-answer t c = (
  λ no. absurd (true≢false (sym no)),
  λ all. absurd (
      let sigs = signatures c.args.env.now in
      let d = signature c.in-Some.term.now in
      let out : All (IsCoveredAt d.params c.in-App.es c.args.covered.now.variables) d.result.deps → ⊥ =
      subst (λ ps. All (IsCoveredAt ps c.in-App.es c.args.covered.now.variables) d.result.deps → ⊥) c.as_slice-params.ensures
      (λ here. true≢false (sym (c.covers_bound_operands.ensures.1 here) ∙ c.if-not-covers_bound_operands.true)) in
      app-out sigs c.args.ctx.now c.in-App.t c.in-App.es d (sym c.in-Some.ensures.signature) c.args.covered.now.variables out
      (subst (λ e. (x : ℕ) → InFV sigs c.args.ctx.now x e → Contains c.args.covered.now.variables x) (sym c.shape.ensures ∙ ap shape_tree c.in-App.is) all)),
)

pub covers-covers_operands-requires : goal.covers-covers_operands-requires
covers-covers_operands-requires t c =
    let sizes = ap size (sym c.shape.ensures ∙ ap shape_tree c.in-App.is) in
    let ranges : InRange (signatures c.args.env.now) (length c.args.ctx.now) (app c.in-App.t c.in-App.es) = subst (InRange (signatures c.args.env.now) (length c.args.ctx.now)) (sym c.shape.ensures ∙ ap shape_tree c.in-App.is) c.requires.there in
    let at = signature_is (signatures c.args.env.now) c.in-App.t (signature c.in-Some.term.now) (sym c.in-Some.ensures.signature) in
    (omega (arith, sizes, c.decreases), (ranges.2, (ranges.1 ∙ ap (λ (s : Signature). length s.params) at, c.requires.known)))

pub covers-returns-in-Var-clause-answer : goal.covers-returns-in-Var-clause-answer
covers-returns-in-Var-clause-answer t c =
    subst (λ e. IfOk c.covers_variable.result (λ b. IsTrue b ↔ ((x : ℕ) → InFV (signatures c.args.env.now) c.args.ctx.now x e → Contains c.args.covered.now.variables x))) (sym (ap shape_tree c.in-Var.is) ∙ c.shape.ensures) c.covers_variable.ensures.answer

pub covers-returns-else-not-covers_bound_operands-clause-answer : goal.covers-returns-else-not-covers_bound_operands-clause-answer
covers-returns-else-not-covers_bound_operands-clause-answer t c =
    let sigs = signatures c.args.env.now in
    let d = signature c.in-Some.term.now in
    let Free : Tree → Type 0 = λ e. (x : ℕ) → InFV sigs c.args.ctx.now x e → Contains c.args.covered.now.variables x in
    let here : All (IsCoveredAt d.params c.in-App.es c.args.covered.now.variables) d.result.deps =
    subst (λ ps. All (IsCoveredAt ps c.in-App.es c.args.covered.now.variables) d.result.deps) c.as_slice-params.ensures (c.covers_bound_operands.ensures.0 c.if-not-covers_bound_operands.false) in
    IfOk-weaker c.covers_operands.result _ _
    (λ b e. subst (λ x. IsTrue b ↔ Free x) (sym (ap shape_tree c.in-App.is) ∙ c.shape.ensures)
    (app-in sigs c.args.ctx.now c.in-App.t c.in-App.es d (sym c.in-Some.ensures.signature) c.args.covered.now.variables here b e))
    c.covers_operands.ensures.answer

pub covers_operands-loop-i-init : goal.covers_operands-loop-i-init
covers_operands-loop-i-init t c = record {
  left = ((λ all. all), (λ all. all));
  inside = inside-first c.args.ctx.now c.args.params.now c.args.es.now c.args.covered.now.variables c.args.covered.now.known c.len-known.result c.len-known.ensures c.requires.known;
  there = c.requires.there;
  before = λ b below _ _. absurd (let e : 0 < 0 = below in omega (arith, e));
  many = c.requires.many ∙ ap length (sym c.as_slice-binders.ensures);
}

pub covers_operands-binds_as_before-alike-requires : goal.covers_operands-binds_as_before-alike-requires
covers_operands-binds_as_before-alike-requires t c =
    let many = c.loop-i.invariant.many in
    let below = c.loop-i-test.true in
    let end = c.len-i-end.ensures in
    let within = subst (λ ps. c.loop-i.i < length ps) c.as_slice-binders.ensures (omega (arith, many, below, end)) in
    let at = param-at c.args.params.now c.as_slice-binders.result.now c.loop-i.i c.index-binders-i.result c.as_slice-binders.ensures (omega (arith, many, below, end)) c.index-binders-i.is in
    record { within = within; before = c.loop-i.invariant.before; places = deps-of c.args.params.now c.loop-i.i c.index-binders-i.result at }

pub covers_operands-covers-requires : goal.covers_operands-covers-requires
covers_operands-covers-requires t c =
    let below = c.loop-i-test.true in
    let end = c.len-i-end.ensures in
    let cut = c.at-operand.ensures.left in
    let inside = inside-bound c.args.ctx.now c.args.params.now c.args.es.now c.args.covered.now.variables c.args.covered.now.known c.as_slice-binders.result.now c.as_slice-binders.ensures
    c.loop-i.bound.now c.index-binders-i.result.deps c.binds_as_before-alike.result c.binds_as_before-alike.ensures c.loop-i.known c.len-outside.result c.loop-i.covered.variables c.loop-i.covered.known c.bind.new.covered.variables c.bind.new.covered.known c.len-outside.ensures c.loop-i.invariant.inside c.in_ok-bind.ensures in
    (omega (arith, c.at-operand.ensures.within, c.decreases), ((subst (AllInRange (signatures c.args.env.now) (length c.args.ctx.now)) cut c.loop-i.invariant.there).0, inside.looked))

pub covers_operands-returns-then-not-holds-clause-answer : goal.covers_operands-returns-then-not-holds-clause-answer
covers_operands-returns-then-not-holds-clause-answer t c =
    let many = c.loop-i.invariant.many in
    let below = c.loop-i-test.true in
    let end = c.len-i-end.ensures in
    let inside = inside-bound c.args.ctx.now c.args.params.now c.args.es.now c.args.covered.now.variables c.args.covered.now.known c.as_slice-binders.result.now c.as_slice-binders.ensures
    c.loop-i.bound.now c.index-binders-i.result.deps c.binds_as_before-alike.result c.binds_as_before-alike.ensures c.loop-i.known c.len-outside.result c.loop-i.covered.variables c.loop-i.covered.known c.bind.new.covered.variables c.bind.new.covered.known c.len-outside.ensures c.loop-i.invariant.inside c.in_ok-bind.ensures in
    let answer = operand-in (signatures c.args.env.now) c.args.ctx.now c.args.params.now c.args.es.now c.index-binders-i.result c.at-operand.result c.args.covered.now.variables
    c.bind.new.covered.variables inside.has c.if-not-param.true c.in_ok-holds.holds c.in_ok-holds.ensures.answer in (
      λ no. absurd (true≢false (sym no)),
      λ all. absurd (operands-out (signatures c.args.env.now) c.args.ctx.now c.args.params.now c.args.es.now c.args.covered.now.variables _ _ _ _ c.index-binders-i.result c.at-operand.result
          (subst (λ ps. drop c.loop-i.i ps ≡ c.index-binders-i.result ∷ drop (c.loop-i.i + 1) ps) c.as_slice-binders.ensures (drop-item c.as_slice-binders.result.now c.loop-i.i c.index-binders-i.result (omega (arith, many, below, end)) c.index-binders-i.is)) (c.at-operand.ensures.left) _ c.loop-i.invariant.left
          (λ here. true≢false (sym (answer.1 here) ∙ c.if-not-holds.true)) all),
    )

pub covers_operands-loop-i-preserved : goal.covers_operands-loop-i-preserved
covers_operands-loop-i-preserved t c =
    let many = c.loop-i.invariant.many in
    let below = c.loop-i-test.true in
    let end = c.len-i-end.ensures in
    let cut = c.at-operand.ensures.left in
    let at = param-at c.args.params.now c.as_slice-binders.result.now c.loop-i.i c.index-binders-i.result c.as_slice-binders.ensures (omega (arith, many, below, end)) c.index-binders-i.is in
    let there = (subst (AllInRange (signatures c.args.env.now) (length c.args.ctx.now)) cut c.loop-i.invariant.there).1 in
    let step = operands-step (signatures c.args.env.now) c.args.ctx.now c.args.params.now c.args.es.now c.args.covered.now.variables _ _ _ _ c.index-binders-i.result c.at-operand.result
    (subst (λ ps. drop c.loop-i.i ps ≡ c.index-binders-i.result ∷ drop (c.loop-i.i + 1) ps) c.as_slice-binders.ensures (drop-item c.as_slice-binders.result.now c.loop-i.i c.index-binders-i.result (omega (arith, many, below, end)) c.index-binders-i.is)) cut _ c.loop-i.invariant.left in
    elim c.if-not-param.branch [
      | covers_operands-then-not-param+in_ok-bind+in_ok-holds+else-not-holds w ↦ (
          let inside = inside-bound c.args.ctx.now c.args.params.now c.args.es.now c.args.covered.now.variables c.args.covered.now.known c.as_slice-binders.result.now c.as_slice-binders.ensures
          c.loop-i.bound.now c.index-binders-i.result.deps w.binds_as_before-alike.result w.binds_as_before-alike.ensures c.loop-i.known c.len-outside.result c.loop-i.covered.variables c.loop-i.covered.known w.bind.new.covered.variables w.bind.new.covered.known c.len-outside.ensures c.loop-i.invariant.inside w.in_ok-bind.ensures in
          let answer = operand-in (signatures c.args.env.now) c.args.ctx.now c.args.params.now c.args.es.now c.index-binders-i.result c.at-operand.result c.args.covered.now.variables
          w.bind.new.covered.variables inside.has w.if-not-param.true w.in_ok-holds.holds w.in_ok-holds.ensures.answer in
          let learnt = inside-learnt c.args.ctx.now c.args.params.now c.args.es.now c.args.covered.now.variables c.args.covered.now.known w.as_slice-bound.result.now c.loop-i.known w.known_outside-known.result
          w.bind.new.covered.variables w.bind.new.covered.known w.covers.new.covered.variables w.covers.new.covered.known
          (subst (λ b. Inside c.args.ctx.now c.args.params.now c.args.es.now c.args.covered.now.variables c.args.covered.now.known b c.loop-i.known w.bind.new.covered.variables w.bind.new.covered.known) (sym w.as_slice-bound.ensures) inside)
          (w.in_ok-holds.ensures.same w.if-not-holds.false) (w.in_ok-holds.ensures.known w.if-not-holds.false) w.known_outside-known.ensures in
          record {
            left = step (answer.0 w.if-not-holds.false);
            inside = inside-same c.args.ctx.now c.args.params.now c.args.es.now c.args.covered.now.variables c.args.covered.now.known _ _ _ _ _ _ _ _ (ap (λ b. b.now) w.bound-is) w.known-is (ap (λ s. s.variables) w.covered-is) (ap (λ s. s.known) w.covered-is) learnt;
            there = there;
            before = bound-next c.args.params.now c.loop-i.i c.index-binders-i.result at _ (ap (λ b. b.now) w.bound-is ∙ w.as_slice-bound.ensures);
            many = many;
          })
      | covers_operands-else-not-param w ↦ record {
        left = step (λ x free. absurd (true≢false (sym w.if-not-param.false ∙ free.0)));
        inside = inside-same c.args.ctx.now c.args.params.now c.args.es.now c.args.covered.now.variables c.args.covered.now.known _ _ _ _ _ _ _ _ (ap (λ b. b.now) w.bound-is) w.known-is (ap (λ s. s.variables) w.covered-is) (ap (λ s. s.known) w.covered-is) c.loop-i.invariant.inside;
        there = there;
        before = bound-passed c.args.params.now c.loop-i.i c.index-binders-i.result at _ w.if-not-param.false;
        many = many;
      }
    ]

pub covers_operands-returns-clause-answer : goal.covers_operands-returns-clause-answer
covers_operands-returns-clause-answer t c =
    let sigs = signatures c.args.env.now in
    let ps = drop c.loop-i.i c.args.params.now in (
      λ _. c.loop-i.invariant.left.0
          (λ x free. absurd (subst (InSomeFV sigs c.args.ctx.now x c.args.params.now c.args.es.now ps) (past-end c.args.es.now c.loop-i.i (omega (arith, c.len-i-end.ensures, c.loop-i-test.false))) free)),
      λ _. refl,
    )

pub covers_operands-returns-clause-same : goal.covers_operands-returns-clause-same
covers_operands-returns-clause-same t c = λ _. c.truncate.ensures.variables
    ∙ (inside-left c.args.ctx.now c.args.params.now c.args.es.now c.args.covered.now.variables c.args.covered.now.known c.loop-i.bound.now c.loop-i.known c.len-outside.result c.loop-i.covered.variables c.loop-i.covered.known c.len-outside.ensures c.loop-i.invariant.inside).0

pub covers_operands-returns-clause-known : goal.covers_operands-returns-clause-known
covers_operands-returns-clause-known t c = λ _. subst (LearntMore c.args.ctx.now c.args.covered.now.variables c.args.covered.now.known) (sym c.truncate.ensures.known)
    (inside-left c.args.ctx.now c.args.params.now c.args.es.now c.args.covered.now.variables c.args.covered.now.known c.loop-i.bound.now c.loop-i.known c.len-outside.result c.loop-i.covered.variables c.loop-i.covered.known c.len-outside.ensures c.loop-i.invariant.inside).1

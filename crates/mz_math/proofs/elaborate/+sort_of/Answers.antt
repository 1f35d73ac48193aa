use Rattle.std.proofs.Common.{◌∙◌, ◌<◌, List, ap, arith, length, sym, subst, refl}
use Rattle.std.proofs.lemmas.Bool.{true≢false, false≢true}
use Rattle.mz_logic_theory.specs.Tree.{Tree, none, more, var, app, listed}
use Rattle.mz_logic_theory.specs.DeclView.{signature}
use Rattle.mz_logic_theory.specs.Declaration.{signatures}
use Rattle.mz_logic_theory.specs.Shapes.{shape_tree}
use Rattle.mz_logic_theory.specs.declared.binder.Binder.{Binder}
use Rattle.mz_math_theory.specs.Meaning.{Coerced, CoercedAll}
use Rattle.mz_math_theory.proofs.Offered.{fits-never, all-length, take-one, put-one, none-left, app-coerced}
use Rattle.mz_math.proofs.Found.{bound-variable, no-sort, no-variable, some-sort, unbound-application, variable-stands}
use Rattle.mz_math.proofs.elaborate.+sort_of.Goals as goal

pub all_fit-returns-then-len-params-clause-fit : goal.all_fit-returns-then-len-params-clause-fit
all_fit-returns-then-len-params-clause-fit t c =
    (λ f. absurd (false≢true f), λ h. absurd (c.if-len-params.true (c.len.ensures ∙ all-length (signatures c.args.env.now) c.args.coercions.now c.args.ctx.now c.requires.one c.args.operands.now c.args.params.now h.0 h.1)))

pub all_fit-returns-then-not-branch-clause-fit : goal.all_fit-returns-then-not-branch-clause-fit
all_fit-returns-then-not-branch-clause-fit t c =
    let below : c.loop-i.i < length (listed c.args.operands.now) = omega (arith, c.len-i-end.ensures, c.loop-i-test.true) in (
      λ f. absurd (false≢true f),
      λ h. absurd (let rest = c.loop-i.invariant.left.1 h in
          true≢false (sym (c.in_ok-fits.ensures.fit.1 (take-one (signatures c.args.env.now) c.args.coercions.now c.args.ctx.now c.requires.one c.args.operands.now c.args.params.now c.loop-i.i c.at.result c.index-params-i.result c.loop-i.invariant.many below c.at.ensures.left c.index-params-i.is rest.0 rest.1).0) ∙ c.if-not-branch.true)),
    )

pub all_fit-loop-i-preserved : goal.all_fit-loop-i-preserved
all_fit-loop-i-preserved t c =
    let below : c.loop-i.i < length (listed c.args.operands.now) = omega (arith, c.len-i-end.ensures, c.loop-i-test.true) in
    let fits = c.in_ok-fits.ensures.fit.0 c.if-not-branch.false in
    record {
      left = (
        λ h. c.loop-i.invariant.left.0 (more fits.0 h.0, put-one (signatures c.args.env.now) c.args.coercions.now c.args.ctx.now c.requires.one c.args.operands.now c.args.params.now c.loop-i.i c.at.result c.index-params-i.result c.loop-i.invariant.many below c.at.ensures.left c.index-params-i.is fits.0 h.0 fits.1 h.1),
        λ h. let rest = c.loop-i.invariant.left.1 h in (take-one (signatures c.args.env.now) c.args.coercions.now c.args.ctx.now c.requires.one c.args.operands.now c.args.params.now c.loop-i.i c.at.result c.index-params-i.result c.loop-i.invariant.many below c.at.ensures.left c.index-params-i.is rest.0 rest.1).1,
      );
      many = c.loop-i.invariant.many;
      found = c.fits.ensures.found;
    }

pub all_fit-returns-clause-fit : goal.all_fit-returns-clause-fit
all_fit-returns-clause-fit t c = (
  λ h. c.loop-i.invariant.left.0 (none, none-left (signatures c.args.env.now) c.args.coercions.now c.args.ctx.now c.args.operands.now c.args.params.now c.loop-i.i c.loop-i.invariant.many (omega (arith, c.len-i-end.ensures, c.loop-i-test.false))),
  λ h. refl,
)

pub fits-returns-in-None-clause-fit : goal.fits-returns-in-None-clause-fit
fits-returns-in-None-clause-fit t c = (
  λ f. absurd (false≢true f),
  λ h. absurd (fits-never (signatures c.args.env.now) c.args.coercions.now c.args.ctx.now c.requires.one c.args.operand.now c.args.param.now
      (no-variable (signatures c.args.env.now) c.args.coercions.now c.args.ctx.now c.args.operand.now c.in-Var.x (sym c.shape.ensures ∙ ap shape_tree c.in-Var.is) (sym c.in-None.ensures)) h),
)

pub fits-returns-in-Some-clause-fit : goal.fits-returns-in-Some-clause-fit
fits-returns-in-Some-clause-fit t c =
    let sigs = signatures c.args.env.now in
    let ctx = c.args.ctx.now in
    let operand = c.args.operand.now in
    let x = c.in-Var.x in
    let b = c.in-Some.binder.now in
    let is = sym c.shape.ensures ∙ ap shape_tree c.in-Var.is in
    let at = sym c.in-Some.ensures in
    c.sort_fits.ensures.fit sigs ctx operand (var x) c.requires.one (variable-stands sigs c.args.coercions.now ctx operand x is b at) (bound-variable ctx operand x b is at)

pub fits-returns-in-None-2-clause-fit : goal.fits-returns-in-None-2-clause-fit
fits-returns-in-None-2-clause-fit t c = (
  λ f. absurd (false≢true f),
  λ h. absurd (fits-never (signatures c.args.env.now) c.args.coercions.now c.args.ctx.now c.requires.one c.args.operand.now c.args.param.now
      (no-sort (signatures c.args.env.now) c.args.coercions.now c.args.ctx.now c.args.operand.now _ c.in_ok-sort_of-in-App.ensures.sort c.in-None-2.is) h),
)

pub fits-returns-in-Some-2-clause-fit : goal.fits-returns-in-Some-2-clause-fit
fits-returns-in-Some-2-clause-fit t c =
    let sigs = signatures c.args.env.now in
    let ctx = c.args.ctx.now in
    let operand = c.args.operand.now in
    let found = some-sort sigs c.args.coercions.now ctx operand _ c.in_ok-sort_of-in-App.ensures.sort c.in-Some-2.sort c.in-Some-2.is in
    c.sort_fits-in-Some-2.ensures.fit sigs ctx operand found.0 c.requires.one found.1 (unbound-application ctx operand c.in-App.field-0 c.in-App.field-1 (sym c.shape.ensures ∙ ap shape_tree c.in-App.is))

pub sort_of-returns-in-Some-clause-sort : goal.sort_of-returns-in-Some-clause-sort
sort_of-returns-in-Some-clause-sort t c =
    subst (λ e. (x : Tree) × Coerced (signatures c.args.env.now) c.args.coercions.now c.args.ctx.now e x c.in-Some.binder.now.sort) (sym (ap shape_tree c.in-Var.is) ∙ c.shape.ensures) (var _, (refl, c.in-Some.binder.now, sym c.in-Some.ensures, refl))

pub sort_of-returns-then-branch-clause-sort : goal.sort_of-returns-then-branch-clause-sort
sort_of-returns-then-branch-clause-sort t c =
    let all = c.in_ok-all_fit-in-Some-term.ensures.fit.0 c.if-branch.true in
    let d = signature c.in-Some-term.term.now in
    subst (λ e. (x : Tree) × Coerced (signatures c.args.env.now) c.args.coercions.now c.args.ctx.now e x d.result.sort) (sym (ap shape_tree c.in-App.is) ∙ c.shape.ensures) (
      app _ all.0,
      app-coerced (signatures c.args.env.now) c.args.coercions.now c.args.ctx.now _ _ d all.0 (sym c.in-Some-term.ensures.signature)
          (subst (λ (bs : List Binder). CoercedAll (signatures c.args.env.now) c.args.coercions.now c.args.ctx.now c.in-App.operands bs all.0) c.as_slice.ensures all.1),
    )

use Rattle.std.proofs.Common.{◌≡◌, ◌-◌, ◌+◌, ◌∙◌, ℕ, sym, ap, subst, refl, arith}
use Rattle.std.proofs.lemmas.Option.{IfSome_then}
use Rattle.mz_logic_theory.specs.Shapes.{shape_tree}
use Rattle.mz_logic_theory.specs.Tree.{Tree, Trees, var, app, none, more, past, size}
use Rattle.mz_logic_theory.proofs.Offered.{past-end}
use Rattle.mz_spec_proved_theory.specs.AlphaTrees.{SameTree, SameTrees}
use Rattle.mz_match_rows.proofs.Numbering.{grows-twice, grown, all-grown}
use Rattle.mz_match_rows.proofs.pieces.Pieces.+enter.Goals as goal

-- ---- enter

pub enter-enter_all-requires : goal.enter-enter_all-requires
enter-enter_all-requires t c =
    let sizes = ap size (sym (ap shape_tree c.in-App.is) ∙ c.shape.ensures) in
    (omega (arith, sizes), tt)

pub enter-returns-in-Var-clause-number : goal.enter-returns-in-Var-clause-number
enter-returns-in-Var-clause-number t c =
    IfSome_then c.number.result c.number.ensures.number λ i at.
    (var c.in-Var.x, subst (λ (e : Tree). SameTree c.args.publics.now e (var c.in-Var.x)) (sym (ap shape_tree c.in-Var.is) ∙ c.shape.ensures) refl, at)

pub enter-returns-in-Some-enter_all-clause-number : goal.enter-returns-in-Some-enter_all-clause-number
enter-returns-in-Some-enter_all-clause-number t c =
    let (fs, same, numbered) = c.in-Some-enter_all.ensures.number in
    IfSome_then c.number_of_application.result c.number_of_application.ensures.number λ i (at, less). (
      app c.in-Some.term fs,
      subst (λ (e : Tree). SameTree c.args.publics.now e (app c.in-Some.term fs)) (sym (ap shape_tree c.in-App.is) ∙ c.shape.ensures) (sym c.in-Some.ensures, same),
      (c.in-Some-enter_all.operands, at, less, all-grown c.enter_all.new.self c.number_of_application.new.self fs c.in-Some-enter_all.operands c.number_of_application.ensures.grows numbered),
    )

-- ---- enter_all

pub enter_all-exprs-init : goal.enter_all-exprs-init
enter_all-exprs-init t c =
    let ends = past-end c.args.exprs.now c.len-left.result (omega (arith, c.len-left.ensures)) in record {
      few = omega (arith, c.len-left.ensures);
      grows = c.in-Some.ensures.grows;
      list = (none, subst (λ (es : Trees). SameTrees c.args.publics.now es none) (sym ends) tt, c.in-Some.ensures.number);
    }

pub enter_all-at-requires : goal.enter_all-at-requires
enter_all-at-requires t c = omega (arith, c.exprs-test.true, c.exprs.invariant.few)

pub enter_all-enter-requires : goal.enter_all-enter-requires
enter_all-enter-requires t c = (omega (arith, c.at.ensures.within), tt)

pub enter_all-exprs-preserved : goal.enter_all-exprs-preserved
enter_all-exprs-preserved t c =
    let back : (c.exprs.left - 1) + 1 ≡ c.exprs.left = omega (arith, c.exprs-test.true) in
    let (f, same-f, f-is) = c.in-Some-enter.ensures.number in
    let (fs, same-fs, fs-are) = c.exprs.invariant.list in
    let (at, first, rest) = c.in-Some-number_of_list.ensures.number in
    let twice = grows-twice c.exprs.self c.enter.new.self c.number_of_list.new.self c.enter.ensures.grows c.number_of_list.ensures.grows in record {
      few = omega (arith, c.exprs.invariant.few);
      grows = grows-twice c.args.self.now c.exprs.self c.number_of_list.new.self c.exprs.invariant.grows twice;
      list = (
        more f fs,
        subst (λ (es : Trees). SameTrees c.args.publics.now es (more f fs)) (sym c.at.ensures.left)
            (same-f, subst (λ (i : ℕ). SameTrees c.args.publics.now (past i c.args.exprs.now) fs) (sym back) same-fs),
        (
          c.in-Some-enter.first,
          c.exprs.list,
          at,
          first,
          rest,
          grown c.enter.new.self c.number_of_list.new.self f c.in-Some-enter.first c.number_of_list.ensures.grows f-is,
          all-grown c.exprs.self c.number_of_list.new.self fs c.exprs.list twice fs-are,
        ),
      );
    }

use Rattle.std.proofs.Common.{◌≡◌, ◌<◌, ◌-◌, ◌∙◌, Some, length, refl, sym, subst, arith}
use Rattle.mz_base.proofs.Offered.{slice_get-some}
use Rattle.mz_logic_theory.specs.Tree.{Tree, listed}
use Rattle.mz_logic_theory.specs.View.{tree}
use Rattle.mz_spec_proved_theory.specs.AlphaTrees.{SameTree}
use Rattle.mz_match_rows.specs.declared.stream.Cursor.{Cursor}
use Rattle.mz_match_rows.specs.Beside.{SaidAt}
use Rattle.mz_match_rows.specs.Numbers.{AreSaidTrees}
use Rattle.mz_match_rows.proofs.Numbering.{one-partner, said-grown}
use Rattle.mz_match_rows.proofs.expression.same_hyp.Goals as goal

pub is_known-requires : goal.is_known-requires
is_known-requires c = c.requires.some

pub returns-then-is_known-clause-same : goal.returns-then-is_known-clause-same
returns-then-is_known-clause-same c = λ e m f to at plain said.
    let (place, shared) = c.is_known.ensures c.if-is_known.true in (
      (λ _. c.requires.known e m f to (sym shared ∙ at) plain (subst (λ (p : Cursor). SaidAt c.args.sides.now m p f to) (sym place) said)),
      λ _. refl,
    )

pub returns-then-is_known-clause-right : goal.returns-then-is_known-clause-right
returns-then-is_known-clause-right c =
    let (place, shared) = c.is_known.ensures c.if-is_known.true in
    record { said = c.requires.right.said; number = λ e at. c.requires.right.number e (sym shared ∙ at) }

pub go_on-requires-clause-number : goal.go_on-requires-clause-number
go_on-requires-clause-number c = c.requires.right.number

pub at-requires : goal.at-requires
at-requires c = omega (arith, c.requires.some, c.requires.there)

pub same_tree-requires : goal.same_tree-requires
same_tree-requires c = c.requires.said

pub returns-in_default-clause-same : goal.returns-in_default-clause-same
returns-in_default-clause-same c = λ e m f to at plain said.
    let both : Some (tree c.at.result.now) ≡ Some e = sym c.at.ensures ∙ at in
    let same : tree c.at.result.now ≡ e = cc in
    let (same-then, then-same) = c.same_tree.ensures m f to plain said in (
      (λ is. subst (λ (d : Tree). SameTree c.args.sides.now.publics.now d f) same (same-then is)),
      λ is. then-same (subst (λ (d : Tree). SameTree c.args.sides.now.publics.now d f) (sym same) is),
    )

pub returns-in_default-clause-right : goal.returns-in_default-clause-right
returns-in_default-clause-right c = record {
  said = subst (AreSaidTrees c.args.sides.now c.go_on.new.self.pieces) (sym c.go_on.ensures.said)
      (said-grown c.args.sides.now c.args.formulas.now.pieces c.go_on.new.self.pieces c.args.formulas.now.said c.go_on.ensures.grows c.requires.right.said);
  number = c.go_on.ensures.number;
}

pub same_from-requires-clause-said : goal.same_from-requires-clause-said
same_from-requires-clause-said c =
    subst (AreSaidTrees c.args.sides.now c.go_on.new.self.pieces) (sym c.go_on.ensures.said)
    (said-grown c.args.sides.now c.args.formulas.now.pieces c.go_on.new.self.pieces c.args.formulas.now.said c.go_on.ensures.grows c.requires.right.said)

pub same_from-requires-clause-there : goal.same_from-requires-clause-there
same_from-requires-clause-there c =
    let (m, f, to, plain, said) = c.requires.said in
    let below : c.args.i - 1 < length (listed c.args.hyps.now) = omega (arith, c.requires.some, c.requires.there) in
    let (e, at) = slice_get-some (listed c.args.hyps.now) (c.args.i - 1) below in
    let (g, partner, numbered) = c.go_on.ensures.number e at c.in-Some.number (sym c.go_on.ensures.kept ∙ c.in-Some.is) in
    (g, m, f, c.args.made.dummies, to.at, to.dummies, numbered, plain, said)

pub returns-clause-same : goal.returns-clause-same
returns-clause-same c = λ e m f to at plain said.
    let rows = c.args.sides.now.publics.now in
    let (g, partner, numbered) = c.go_on.ensures.number e at c.in-Some.number (sym c.go_on.ensures.kept ∙ c.in-Some.is) in
    let exact = c.same_from.ensures.same g m f c.args.made.dummies to.at to.dummies numbered plain said in
    ((λ is. subst (SameTree rows e) (exact.0 is) partner), λ same. exact.1 (one-partner rows e g f partner same))

pub returns-clause-right : goal.returns-clause-right
returns-clause-right c = record { said = c.same_from.ensures.said; number = c.go_on.ensures.number }

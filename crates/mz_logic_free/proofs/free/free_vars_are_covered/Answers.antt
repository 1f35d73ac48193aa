use Rattle.std.proofs.Common.{ℕ, List, Contains, length, subst, sym, inl, inr}
use Rattle.std.proofs.lemmas.Result.{IfOk-weaker}
use Rattle.mz_base.proofs.Offered.{contains_none}
use Rattle.mz_logic_theory.specs.Declaration.{signatures}
use Rattle.mz_logic_theory.specs.Legality.{InRange}
use Rattle.mz_logic_theory.specs.Tree.{Tree}
use Rattle.mz_logic_theory.specs.Variables.{InFV}
use Rattle.mz_logic_theory.proofs.Offered.{range_of_sort}
use Rattle.mz_logic_free.proofs.free.free_vars_are_covered.Goals as goal

pub covers-requires : goal.covers-requires
covers-requires c = record {
  there = subst (InRange (signatures c.args.env.now) (length c.args.ctx.now)) (sym c.borrowed.ensures) (range_of_sort (signatures c.args.env.now) c.args.ctx.now c.args.expr.now c.requires.sorted.0 c.requires.sorted.1);
  known = λ y at. absurd (contains_none y (subst (λ (ys : List ℕ). Contains ys y) c.requires.known at));
}

pub returns : goal.returns
returns c =
    let Free : ℕ → Tree → Type 0 = λ x e. InFV (signatures c.args.env.now) c.args.ctx.now x e in
    let covered = c.in_ok-cover_places.ensures in
    IfOk-weaker c.covers.result _ _
    (λ b e. (
      λ is x free. elim ((covered x).0 (e.0 is x (subst (Free x) (sym c.borrowed.ensures) free))) [
        | inl none ↦ absurd (contains_none x (subst (λ (ys : List ℕ). Contains ys x) c.requires.empty none))
        | inr here ↦ here
      ],
      λ all. e.1 (λ x free. (covered x).1 (inr (all x (subst (Free x) c.borrowed.ensures free)))),
    ))
    c.covers.ensures.answer

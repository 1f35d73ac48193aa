use Rattle.std.proofs.Common.{◌≡◌, ◌<◌, ◌-◌, ◌∙◌, ℕ, suc, List, length, take, reverse, sym, ap, subst, arith}
use Rattle.std.specs.Prelude.{◌↔◌}
use Rattle.std.proofs.lemmas.Bool.{false≢true}
use Rattle.std.proofs.lemmas.Option.{slice_get_within}
use Rattle.mz_cmd.specs.declared.code.UnifyCode.TheVariants as codes
use Rattle.mz_logic_theory.specs.Tree.{Tree, listed}
use Rattle.mz_logic_theory.specs.View.{tree, trees}
use Rattle.mz_logic_theory.proofs.Offered.{expr-at, exprs_of, length-exprs, trees-exprs}
use Rattle.mz_machine_theory.specs.Spells.{trees_of}
use Rattle.mz_spec_proved_theory.specs.AlphaTrees.{SameTrees}
use Rattle.mz_match_rows.specs.Streams.{step_at, Passes, Says}
use Rattle.mz_match_rows.proofs.Steps.{step-takes}
use Rattle.mz_match_rows.proofs.Numbering.{nothing-yet}
use Rattle.mz_match_rows.proofs.PlainTrees.{said-passes, next-hyp-same, all-left, none-answer, left-answer, hyp-left, hyp-found}
use Rattle.mz_match_rows.proofs.expression.same_hyps.Goals as goal

pub hyps-init : goal.hyps-init
hyps-init c =
    let (m0, hs0, plain0, said0) = c.requires in
    let all : c.len-left.result ≡ length (exprs_of c.args.hyps.now) = c.len-left.ensures ∙ sym (length-exprs c.args.hyps.now) in
    record {
      within = plain0.stream.within;
      few = omega (arith, all);
      known = λ e m f to at plain said. absurd (let below = slice_get_within (listed c.args.hyps.now) c.len-left.result e at in omega (arith, below, c.len-left.ensures));
      right = nothing-yet c.args.sides.now c.args.hyps.now c.len-left.result c.new-formulas.result c.new-formulas.ensures.said c.new-formulas.ensures.number;
      goes_on = λ m hs plain (conclusion, to, said, hyps).
          let (n, passes) = said-passes c.args.sides.now.mmb.now c.args.sides.now.params m c.args.sides.now.start 0 conclusion to.at to.dummies said in
          let whole = all-left c.args.sides.now.publics.now (exprs_of c.args.hyps.now) c.args.hyps.now hs (trees-exprs c.args.hyps.now) in (
            hs,
            n,
            to.at,
            passes,
            hyps,
            subst (λ (k : ℕ). SameTrees c.args.sides.now.publics.now c.args.hyps.now (trees_of (reverse hs))
                ↔ SameTrees c.args.sides.now.publics.now (trees (take k (exprs_of c.args.hyps.now))) (trees_of (reverse hs))) (sym all) whole,
          );
    }

pub returns-then-len-eq0 : goal.returns-then-len-eq0
returns-then-len-eq0 c = λ m hs plain (conclusion, to, said, hyps).
    let (n, passes) = said-passes c.args.sides.now.mmb.now c.args.sides.now.params m c.args.sides.now.start 0 conclusion to.at to.dummies said in
    let passes' = subst (λ (xs : List ℕ). Passes xs n c.args.sides.now.start to.at) (sym c.file.ensures.file) passes in
    let no-hyps : length (exprs_of c.args.hyps.now) ≡ 0 = length-exprs c.args.hyps.now ∙ sym c.len.ensures ∙ c.if-len-eq0.true in
    let whole = all-left c.args.sides.now.publics.now (exprs_of c.args.hyps.now) c.args.hyps.now hs (trees-exprs c.args.hyps.now) in
    let exact = subst (λ (k : ℕ). SameTrees c.args.sides.now.publics.now c.args.hyps.now (trees_of (reverse hs))
    ↔ SameTrees c.args.sides.now.publics.now (trees (take k (exprs_of c.args.hyps.now))) (trees_of (reverse hs))) no-hyps whole in
    let answer = none-answer c.args.sides.now.mmb.now c.args.sides.now.params m c.args.sides.now.publics.now to.at hs c.next_hyp.result c.is_none.result hyps
    (λ ends. c.next_hyp.ensures.end n to.at passes' (ap (λ (xs : List ℕ). step_at xs to.at) c.file.ensures.file ∙ ends))
    (λ v next says. c.next_hyp.ensures.hyp n to.at v next passes' (subst (λ (xs : List ℕ). Says xs to.at codes.Hyp v next) (sym c.file.ensures.file) says))
    c.is_none.ensures in
    ((λ yes-is. exact.1 (answer.0 yes-is)), λ same. answer.1 (exact.0 same))

pub returns-in_default : goal.returns-in_default
returns-in_default c = λ m hs plain said.
    let (rest, n, q, passes, hyps, exact) = c.hyps.invariant.goes_on m hs plain said in
    left-answer c.args.sides.now.mmb.now c.args.sides.now.params m c.args.sides.now.publics.now (exprs_of c.args.hyps.now) c.hyps.left q rest _ c.hyps.invariant.few hyps
    (λ v next says. let found = c.in_default.ensures.hyp n q v next (subst (λ (xs : List ℕ). Passes xs n c.hyps.at q) (sym c.file-in-hyps.ensures.file) passes) (subst (λ (xs : List ℕ). Says xs q codes.Hyp v next) (sym c.file-in-hyps.ensures.file) says) in absurd cc)
    exact

pub returns-then-left-eq0 : goal.returns-then-left-eq0
returns-then-left-eq0 c = λ m hs plain said.
    let (rest, n, q, passes, hyps, exact) = c.hyps.invariant.goes_on m hs plain said in (
      (λ yes-is. absurd (false≢true yes-is)),
      λ same. absurd (hyp-left c.args.sides.now.mmb.now c.args.sides.now.params m c.args.sides.now.publics.now (exprs_of c.args.hyps.now) q rest hyps
          (λ ends. let found = c.in-Some.ensures.end n q (subst (λ (xs : List ℕ). Passes xs n c.hyps.at q) (sym c.file-in-hyps.ensures.file) passes) (ap (λ (xs : List ℕ). step_at xs q) c.file-in-hyps.ensures.file ∙ ends) in absurd cc)
          (subst (λ (k : ℕ). SameTrees c.args.sides.now.publics.now (trees (take k (exprs_of c.args.hyps.now))) (trees_of (reverse rest))) c.if-left-eq0.true (exact.0 same))),
    )

pub made_at-made-requires : goal.made_at-made-requires
made_at-made-requires c =
    let (m, hs, plain, said) = c.requires in
    let (rest, k, q, passes, hyps, exact) = c.hyps.invariant.goes_on m hs plain said in
    let (h, later, v, to, rest-is, says, said-h, hyps-later) = hyp-found c.args.sides.now.mmb.now c.args.sides.now.params m _ k c.hyps.at q rest c.in-Some.next c.file-in-hyps.ensures.file passes hyps c.in-Some.ensures.end c.in-Some.ensures.hyp in
    (m, h, record { at = to; dummies = 0 }, plain.stream, said-h)

pub same_hyp-requires-clause-some : goal.same_hyp-requires-clause-some
same_hyp-requires-clause-some c = omega (arith, c.if-left-eq0.false)

pub same_hyp-requires-clause-there : goal.same_hyp-requires-clause-there
same_hyp-requires-clause-there c = let many = length-exprs c.args.hyps.now in omega (arith, many, c.hyps.invariant.few)

pub same_hyp-requires-clause-known : goal.same_hyp-requires-clause-known
same_hyp-requires-clause-known c = c.hyps.invariant.known

pub same_hyp-requires-clause-right : goal.same_hyp-requires-clause-right
same_hyp-requires-clause-right c = c.hyps.invariant.right

pub same_hyp-requires-clause-said : goal.same_hyp-requires-clause-said
same_hyp-requires-clause-said c =
    let (m, hs, plain, said) = c.requires in
    let (rest, k, q, passes, hyps, exact) = c.hyps.invariant.goes_on m hs plain said in
    let (h, later, v, to, rest-is, says, said-h, hyps-later) = hyp-found c.args.sides.now.mmb.now c.args.sides.now.params m _ k c.hyps.at q rest c.in-Some.next c.file-in-hyps.ensures.file passes hyps c.in-Some.ensures.end c.in-Some.ensures.hyp in
    let (end, made) = c.made_at-made.ensures m h (record { at = to; dummies = 0 }) plain.stream said-h in
    (m, h, end, plain, made)

pub returns-then-not-same_hyp : goal.returns-then-not-same_hyp
returns-then-not-same_hyp c = λ m hs plain said.
    let (rest, k, q, passes, hyps, exact) = c.hyps.invariant.goes_on m hs plain said in
    let (h, later, v, to, rest-is, says, said-h, hyps-later) = hyp-found c.args.sides.now.mmb.now c.args.sides.now.params m _ k c.hyps.at q rest c.in-Some.next c.file-in-hyps.ensures.file passes hyps c.in-Some.ensures.end c.in-Some.ensures.hyp in
    let (end, made) = c.made_at-made.ensures m h (record { at = to; dummies = 0 }) plain.stream said-h in
    let one-less : suc (c.hyps.left - 1) ≡ c.hyps.left = omega (arith, c.if-left-eq0.false) in
    let below : c.hyps.left - 1 < length (exprs_of c.args.hyps.now) = omega (arith, one-less, c.hyps.invariant.few) in
    let (e, at, read) = expr-at c.args.hyps.now (c.hyps.left - 1) below in (
      (λ yes-is. absurd (false≢true yes-is)),
      λ same. absurd (false≢true (sym c.if-not-same_hyp.true ∙ (c.same_hyp.ensures.same (tree e) m h end at plain made).1
          ((next-hyp-same c.args.sides.now.publics.now (exprs_of c.args.hyps.now) (c.hyps.left - 1) e h later below read).0
          (subst (λ (gs : List Tree). SameTrees c.args.sides.now.publics.now (trees (take (suc (c.hyps.left - 1)) (exprs_of c.args.hyps.now))) (trees_of (reverse gs))) rest-is
          (subst (λ (j : ℕ). SameTrees c.args.sides.now.publics.now (trees (take j (exprs_of c.args.hyps.now))) (trees_of (reverse rest))) (sym one-less) (exact.0 same)))).1)),
    )

pub hyps-preserved : goal.hyps-preserved
hyps-preserved c =
    let (m, hs, plain, said) = c.requires in
    let (rest, k, q, passes, hyps, exact) = c.hyps.invariant.goes_on m hs plain said in
    let (h, later, v, to, rest-is, says, said-h, hyps-later) = hyp-found c.args.sides.now.mmb.now c.args.sides.now.params m _ k c.hyps.at q rest c.in-Some.next c.file-in-hyps.ensures.file passes hyps c.in-Some.ensures.end c.in-Some.ensures.hyp in
    record {
      within = (step-takes c.args.sides.now.mmb.now q (record { code = codes.Hyp; value = v; next = c.in-Some.next }) says).1;
      few = omega (arith, c.hyps.invariant.few);
      known = λ e m f to at plain made. (c.same_hyp.ensures.same e m f to at plain made).0 c.if-not-same_hyp.false;
      right = c.same_hyp.ensures.right;
      goes_on = λ m hs plain said.
          let (rest, k, q, passes, hyps, exact) = c.hyps.invariant.goes_on m hs plain said in
          let (h, later, v, to, rest-is, says, said-h, hyps-later) = hyp-found c.args.sides.now.mmb.now c.args.sides.now.params m _ k c.hyps.at q rest c.in-Some.next c.file-in-hyps.ensures.file passes hyps c.in-Some.ensures.end c.in-Some.ensures.hyp in
          let (end, made) = c.made_at-made.ensures m h (record { at = to; dummies = 0 }) plain.stream said-h in
          let (k', passes') = said-passes c.args.sides.now.mmb.now c.args.sides.now.params m c.in-Some.next 0 h to 0 said-h in
          let one-less : suc (c.hyps.left - 1) ≡ c.hyps.left = omega (arith, c.if-left-eq0.false) in
          let below : c.hyps.left - 1 < length (exprs_of c.args.hyps.now) = omega (arith, one-less, c.hyps.invariant.few) in
          let (e, at, read) = expr-at c.args.hyps.now (c.hyps.left - 1) below in
          let same-h = (c.same_hyp.ensures.same (tree e) m h end at plain made).0 c.if-not-same_hyp.false in
          let step = next-hyp-same c.args.sides.now.publics.now (exprs_of c.args.hyps.now) (c.hyps.left - 1) e h later below read in
          let exact' = subst (λ (gs : List Tree). SameTrees c.args.sides.now.publics.now c.args.hyps.now (trees_of (reverse hs)) ↔ SameTrees c.args.sides.now.publics.now (trees (take (suc (c.hyps.left - 1)) (exprs_of c.args.hyps.now))) (trees_of (reverse gs))) rest-is
          (subst (λ (j : ℕ). SameTrees c.args.sides.now.publics.now c.args.hyps.now (trees_of (reverse hs)) ↔ SameTrees c.args.sides.now.publics.now (trees (take j (exprs_of c.args.hyps.now))) (trees_of (reverse rest))) (sym one-less) exact) in
          (later, k', to, passes', hyps-later, ((λ same. (step.0 (exact'.0 same)).0), λ same. exact'.1 (step.1 (same, same-h))));
    }

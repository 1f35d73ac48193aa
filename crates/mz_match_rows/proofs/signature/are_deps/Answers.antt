use Rattle.std.proofs.Common.{◌≡◌, ◌/◌, ◌+◌, drop, sym, subst, true≢false, arith, length}
use Rattle.std.specs.Prelude.{◌↔◌}
use Rattle.std.proofs.lemmas.Bool.{eq-eqb, eqb-true}
use Rattle.mz_logic_theory.specs.Words.{places_set}
use Rattle.mz_match_theory.proofs.Offered.{deps-short, deps-differ, deps-step, deps-skip, deps-end}
use Rattle.mz_match_rows.proofs.signature.are_deps.Goals.{then-found-deps-via-then-found-deps, then-found-deps-via-else-found-deps+then-deps-found, then-bits-eq1+else-found-deps+else-deps-found, else-bits-eq1}
use Rattle.mz_match_rows.proofs.signature.are_deps.Goals as goal

pub returns-then-found-deps : goal.returns-then-found-deps
returns-then-found-deps c =
    let W : Type 0 = c.args.deps.now ≡ places_set c.args.bits c.args.places.now in
    let i = c.loop-place.invariant in (
      λ t. absurd (true≢false (sym t)),
      λ whole. absurd (elim c.then-found-deps.branch [
        | then-found-deps-via-then-found-deps w ↦
            deps-short c.args.deps.now c.args.places.now W c.loop-place.place-index c.loop-place.found c.loop-place.bits c.loop-place-test.true c.if-bits-eq1.true
            (let past = w.if-found-deps.true in omega (arith, past)) i.left whole
        | then-found-deps-via-else-found-deps+then-deps-found w ↦
            deps-differ c.args.deps.now c.args.places.now W c.loop-place.place-index c.loop-place.found c.loop-place.bits c.loop-place-test.true c.if-bits-eq1.true
            (let other = w.if-found-deps.false in let within = i.within in omega (arith, other, within)) w.if-deps-found.true i.left whole
      ]),
    )

pub loop-place-preserved : goal.loop-place-preserved
loop-place-preserved c =
    let W : Type 0 = c.args.deps.now ≡ places_set c.args.bits c.args.places.now in
    let i = c.loop-place.invariant in
    elim c.if-bits-eq1.branch [
      | then-bits-eq1+else-found-deps+else-deps-found w ↦
          (let other = w.if-found-deps.false in let within = i.within in let is = w.found-is in
          record {
            within = omega (arith, other, within, is);
            left = subst (λ n. (drop n c.args.deps.now ≡ places_set (c.loop-place.bits / 2) (drop (c.loop-place.place-index + 1) c.args.places.now)) ↔ W) (sym is)
                (deps-step c.args.deps.now c.args.places.now W c.loop-place.place-index c.loop-place.found c.loop-place.bits c.loop-place-test.true w.if-bits-eq1.true
                (omega (arith, other, within)) w.if-deps-found.false i.left);
          })
      | else-bits-eq1 w ↦
          (let within = i.within in let is = w.found-is in
          record {
            within = omega (arith, within, is);
            left = subst (λ n. (drop n c.args.deps.now ≡ places_set (c.loop-place.bits / 2) (drop (c.loop-place.place-index + 1) c.args.places.now)) ↔ W) (sym is)
                (deps-skip c.args.deps.now c.args.places.now W c.loop-place.place-index c.loop-place.found c.loop-place.bits c.loop-place-test.true w.if-bits-eq1.false i.left);
          })
    ]

pub returns : goal.returns
returns c =
    let same = deps-end c.args.deps.now c.args.places.now (c.args.deps.now ≡ places_set c.args.bits c.args.places.now) c.loop-place.place-index c.loop-place.found c.loop-place.bits
    c.loop-place-test.false c.loop-place.invariant.within c.loop-place.invariant.left in
    let within = c.loop-place.invariant.within in (
      λ e. same.0 (let at : c.loop-place.found ≡ length c.args.deps.now = eqb-true c.loop-place.found (length c.args.deps.now) e in omega (arith, at)),
      λ w. eq-eqb c.loop-place.found (length c.args.deps.now) (let at = same.1 w in omega (arith, at, within)),
    )

use Rattle.std.proofs.Common.{◌≡◌, ◌∙◌, ℕ, List, ap, sym, subst, arith}
use Rattle.mz_decompile_text.specs.Naming.{Naming}
use Rattle.mz_decompile_text.specs.Adding.{AreGathered}
use Rattle.mz_binary_walk.specs.declared.passed.Passed.{Passed}
use Rattle.mz_mmu_theory.specs.DeclaredNames.{prefix_beside}
use Rattle.mz_decompile_text.specs.Names.{declared_names}
use Rattle.mz_decompile_text.proofs.Walking.{Walked, no-names, walked-asks, walked-first, walked-more, walked-last, names-of-pair}
use Rattle.mz_decompile_text.proofs.names.PairNames.of.Goals as goal

pub statements-init : goal.statements-init
statements-init c =
    let file = c.args.mmb.now in
    let names = declared_names c.args.spec.now.text.now c.args.spec.now.declared in
    let made : c.with_prefix-names.result ≡ no-names (prefix_beside names) = c.with_prefix-names.ensures ∙ ap no-names c.in_ok-prefix_beside.ensures in
    record {
      so_far = subst (λ (n : Naming). Walked names file c.nothing-passed.result n) (sym made)
          (subst (λ (p : Passed). Walked names file p (no-names (prefix_beside names))) (sym c.nothing-passed.ensures.nothing) (walked-first names file c.requires.0 c.requires.1));
      placed = c.nothing-passed.ensures.placed;
    }

pub next-requires-clause-placed : goal.next-requires-clause-placed
next-requires-clause-placed c = c.statements.invariant.placed

pub next-requires-clause-good : goal.next-requires-clause-good
next-requires-clause-good c =
    walked-asks (declared_names c.args.spec.now.text.now c.args.spec.now.declared) c.args.mmb.now c.statements.passed c.statements.names c.statements.invariant.so_far

pub statements-smaller : goal.statements-smaller
statements-smaller c =
    let further = c.in-Some.ensures.goes_on.further in
    let within = c.in-Some.ensures.goes_on.placed.within in
    omega (arith, further, within)

pub statements-preserved : goal.statements-preserved
statements-preserved c = record {
  so_far = walked-more (declared_names c.args.spec.now.text.now c.args.spec.now.declared) c.args.mmb.now c.statements.passed c.in-Some.head c.in-Some.after c.statements.names c.add_next.new.self
      c.statements.invariant.so_far c.in-Some.ensures.goes_on c.in_ok-add_next.ensures;
  placed = c.in-Some.ensures.goes_on.placed;
}

pub returns : goal.returns
returns c = λ text named.
    let s = c.args.spec.now in
    let bin = c.args.mmb.now in
    names-of-pair text bin s.declared c.statements.names named.makes
    (subst (λ (t : List ℕ). AreGathered (declared_names t s.declared) bin c.statements.names) named.is_text
    (walked-last (declared_names s.text.now s.declared) bin c.statements.passed c.statements.names c.statements.invariant.so_far c.in_default.ensures.ends))

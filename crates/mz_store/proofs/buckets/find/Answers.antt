use Rattle.std.proofs.Common.{sym, ◌∙◌, subst}
use Rattle.mz_store.proofs.Finding.{IsSought, not-both, earlier-none, earlier-some, earlier-less, sought-first, sought-none, next-within, next-order, next-found, next-other}
use Rattle.mz_store.proofs.buckets.find.Goals as goal
use Rattle.mz_store.proofs.buckets.find.Goals.{else-made-head-via-then-made-head+else-are_same, else-made-head-via-else-made-head}

pub chain-init : goal.chain-init
chain-init c =
    subst (IsSought c.args.operands.now c.args.nodes.now c.args.head c.args.args.now) c.in-Some.is (sought-first c.args.operands.now c.args.nodes.now c.args.head c.args.args.now c.args.newest c.requires)

pub returns-in_default-clause-none : goal.returns-in_default-clause-none
returns-in_default-clause-none c =
    sought-none c.args.operands.now c.args.nodes.now c.args.head c.args.args.now
    (subst (IsSought c.args.operands.now c.args.nodes.now c.args.head c.args.args.now) c.in_default.is (sought-first c.args.operands.now c.args.nodes.now c.args.head c.args.args.now c.args.newest c.requires))

pub part-requires-clause-order : goal.part-requires-clause-order
part-requires-clause-order c = (next-order c.requires.0 c.args.operands.now c.args.nodes.now c.chain.next _ c.in-Application.made c.requires.1 (next-within c.args.operands.now c.args.nodes.now c.args.head c.args.args.now c.chain.next c.chain.invariant) c.in-Application.is).0

pub part-requires-clause-within : goal.part-requires-clause-within
part-requires-clause-within c = (next-order c.requires.0 c.args.operands.now c.args.nodes.now c.chain.next _ c.in-Application.made c.requires.1 (next-within c.args.operands.now c.args.nodes.now c.args.head c.args.args.now c.chain.next c.chain.invariant) c.in-Application.is).1

pub returns-then-are_same-clause-some : goal.returns-then-are_same-clause-some
returns-then-are_same-clause-some c = next-found c.args.operands.now c.args.nodes.now c.args.head c.args.args.now c.chain.next _ c.in-Application.made (next-within c.args.operands.now c.args.nodes.now c.args.head c.args.args.now c.chain.next c.chain.invariant) c.in-Application.is
    c.if-made-head.true (sym c.part.ensures ∙ c.are_same.ensures.0 c.if-are_same.true)

pub returns-then-eq-clause-none : goal.returns-then-eq-clause-none
returns-then-eq-clause-none c =
    sought-none c.args.operands.now c.args.nodes.now c.args.head c.args.args.now
    (subst (IsSought c.args.operands.now c.args.nodes.now c.args.head c.args.args.now) (earlier-none c.chain.next.0 c.in-Application.made (sym c.eq.ensures ∙ c.if-eq.true))
    (next-other c.args.operands.now c.args.nodes.now c.args.head c.args.args.now c.chain.next _ c.in-Application.made c.chain.invariant c.in-Application.is
    (elim c.else-made-head.branch [
      | else-made-head-via-then-made-head+else-are_same w ↦ (λ both. not-both w.are_same.result (w.are_same.ensures.1 (w.part.ensures ∙ both.1)) w.if-are_same.false)
      | else-made-head-via-else-made-head w ↦ (λ both. w.if-made-head.false both.0)
    ])))

pub chain-smaller : goal.chain-smaller
chain-smaller c = earlier-less c.requires.0 c.args.operands.now c.args.nodes.now c.chain.next _ c.in-Application.made c.requires.1 (next-within c.args.operands.now c.args.nodes.now c.args.head c.args.args.now c.chain.next c.chain.invariant) c.in-Application.is
    (earlier-some c.chain.next.0 c.in-Application.made (sym c.eq.ensures ∙ c.if-eq.false))

pub chain-preserved : goal.chain-preserved
chain-preserved c =
    subst (IsSought c.args.operands.now c.args.nodes.now c.args.head c.args.args.now) (earlier-some c.chain.next.0 c.in-Application.made (sym c.eq.ensures ∙ c.if-eq.false))
    (next-other c.args.operands.now c.args.nodes.now c.args.head c.args.args.now c.chain.next _ c.in-Application.made c.chain.invariant c.in-Application.is
    (elim c.else-made-head.branch [
      | else-made-head-via-then-made-head+else-are_same w ↦ (λ both. not-both w.are_same.result (w.are_same.ensures.1 (w.part.ensures ∙ both.1)) w.if-are_same.false)
      | else-made-head-via-else-made-head w ↦ (λ both. w.if-made-head.false both.0)
    ]))

use Rattle.std.proofs.Common.{◌∙◌, ap, arith, refl, sym, true≢false}
use Rattle.std.proofs.lemmas.Result.{on_ok_weaker}
use Rattle.mz_logic_theory.specs.Tree.{trees_size}
use Rattle.mz_type_rules.specs.Claims.{all_put_in, borrowed_trees, claim_tree, AllSame}
use Rattle.mz_type_rules.proofs.ClaimSides.{first_compared, no_end, put_end, put_first}
use Rattle.mz_type_rules.proofs.claim.compare_first.Goals as goal

pub returns-in_ok-wait-in-Some-Some-clause-same : goal.returns-in_ok-wait-in-Some-Some-clause-same
returns-in_ok-wait-in-Some-Some-clause-same c =
    let p = c.args.lists.p in
    let q = c.args.lists.q in
    let left = put_first p c.operands.ensures c.in-Some-Some.ensures c.with.ensures c.shape.ensures c.of-es.ensures in
    let right = put_first q c.operands-2.ensures c.in-Some-Some.ensures' c.with-in-Some-Some.ensures c.shape-in-Some-Some.ensures c.of-fs.ensures in
    first_compared c.compare.result (AllSame c.compare.new.waiting.items) (AllSame c.wait.new.waiting.items) (AllSame c.args.waiting.now.items)
    (claim_tree c.with.result) (claim_tree c.with-in-Some-Some.result) (all_put_in p (borrowed_trees c.of-es.result)) (all_put_in q (borrowed_trees c.of-fs.result)) _ _ left right
    c.in_ok-wait-in-Some-Some.ensures.same c.compare.ensures.same

pub returns-in_ok-wait-in-Some-Some-clause-less : goal.returns-in_ok-wait-in-Some-Some-clause-less
returns-in_ok-wait-in-Some-Some-clause-less c =
    let sizes = ap trees_size (put_first c.args.lists.p c.operands.ensures c.in-Some-Some.ensures c.with.ensures c.shape.ensures c.of-es.ensures) in
    let small = c.in_ok-wait-in-Some-Some.ensures.small in
    on_ok_weaker c.compare.result (λ less. omega (arith, less, small, sizes)) c.compare.ensures.less

pub returns-in-None-None-clause-same : goal.returns-in-None-None-clause-same
returns-in-None-None-clause-same c =
    let same = put_end c.args.lists.p _ (sym c.operands.ensures ∙ c.in-None-None.ensures) ∙ sym (put_end c.args.lists.q _ (sym c.operands-2.ensures ∙ c.in-None-None.ensures')) in
    (λ h. (h.1, same), λ h. (refl, h.0))

pub returns-in_default-clause-same : goal.returns-in_default-clause-same
returns-in_default-clause-same c = (
  λ h. absurd (true≢false (sym h.0)),
  λ h. absurd (no_end c.args.lists.q c.args.lists.p (sym c.operands-2.ensures ∙ c.in_default.ensures') (sym c.operands.ensures ∙ c.in_default.ensures) (sym h.1)),
)

pub returns-in_default-2-clause-same : goal.returns-in_default-2-clause-same
returns-in_default-2-clause-same c = (
  λ h. absurd (true≢false (sym h.0)),
  λ h. absurd (no_end c.args.lists.p c.args.lists.q (sym c.operands.ensures ∙ c.in_default.ensures) (sym c.operands-2.ensures ∙ c.in_default.ensures') h.1),
)

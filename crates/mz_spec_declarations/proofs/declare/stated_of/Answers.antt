use Rattle.std.proofs.Common.{◌∙◌, ◌++◌, map, ap}
use Rattle.mz_spec_theory.specs.StatementCode.{group, source}
use Rattle.mz_spec_theory.specs.SpecCode.{stated}
use Rattle.mz_spec_theory.specs.View.{group_stated, premise_stated}
use Rattle.mz_spec_declarations.proofs.declare.stated_of.Goals as goal

pub returns : goal.returns
returns c =
    let first = c.in_ok-push_group_stated.ensures ∙ ap (λ xs. map stated xs ++ group_stated (map group c.deref.result.now)) c.new-stated.ensures.items ∙ ap (λ gs. group_stated (map group gs)) c.deref.ensures.value in
    c.in_ok-push_premise_stated.ensures ∙ ap (λ xs. xs ++ premise_stated (map source c.deref-2.result.now)) first ∙ ap (λ ps. group_stated (map group c.args.assertion.now.head.groups.items) ++ premise_stated (map source ps)) c.deref-2.ensures.value

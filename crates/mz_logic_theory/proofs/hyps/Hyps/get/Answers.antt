use Rattle.std.proofs.Common.{◌∙◌, leb, sym, subst, rules}
use Rattle.std.specs.List.Sorted.{IsNonDecreasingBy}
use Rattle.std.proofs.lemmas.List.Sorted.{IsPartitionPoint-from_clause, IsPartitionedBy-leb}
use Rattle.mz_logic_theory.proofs.Grouped.{formula_found, never_fall, operand_of_listed}
use Rattle.mz_logic_theory.proofs.hyps.Hyps.get.Goals as goal

pub returns-clause-at : goal.returns-clause-at
returns-clause-at c =
    let ends = c.self.inside.ends.items in
    let rising = subst (IsNonDecreasingBy (λ x. x)) (sym c.deref.ensures.value) (never_fall 0 ends c.self.invariant.1) in
    let parted = IsPartitionedBy-leb (λ x. x) _ c.args.i rising in
    let point = IsPartitionPoint-from_clause (λ x. leb x c.args.i) _ _ c.partition_point-group.ensures.partitioned parted (λ a r q k. search rules) in
    c.get.ensures.at ∙ sym (formula_found c.self.inside.formulas c.args.self.now ends _ c.args.i _ c.self.view_is c.self.invariant c.deref.ensures.value point)

pub returns-clause-operand : goal.returns-clause-operand
returns-clause-operand c =
    let ends = c.self.inside.ends.items in
    let rising = subst (IsNonDecreasingBy (λ x. x)) (sym c.deref.ensures.value) (never_fall 0 ends c.self.invariant.1) in
    let parted = IsPartitionedBy-leb (λ x. x) _ c.args.i rising in
    let point = IsPartitionPoint-from_clause (λ x. leb x c.args.i) _ _ c.partition_point-group.ensures.partitioned parted (λ a r q k. search rules) in
    operand_of_listed c.get.result c.args.self.now c.args.i
    (c.get.ensures.at ∙ sym (formula_found c.self.inside.formulas c.args.self.now ends _ c.args.i _ c.self.view_is c.self.invariant c.deref.ensures.value point))

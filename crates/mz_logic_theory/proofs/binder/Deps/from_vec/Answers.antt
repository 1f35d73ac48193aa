use Rattle.std.proofs.Common.{◌∙◌, sym, arith}
use Rattle.std.proofs.lemmas.Bool.{eqb-true}
use Rattle.std.proofs.lemmas.List.{nil_from_length}
use Rattle.mz_logic_theory.proofs.Dependences.{sorted}
use Rattle.mz_logic_theory.proofs.binder.Deps.from_vec.Goals as goal

pub returns-then-is_empty : goal.returns-then-is_empty
returns-then-is_empty c =
    let none = eqb-true _ 0 (sym c.is_empty.ensures ∙ c.if-is_empty.true) in
    c.new.ensures ∙ sym (nil_from_length c.args.places.items (omega (arith, none, c.args.places.ok.0)))

pub invariant_of-result : goal.invariant_of-result
invariant_of-result c = sorted _ _ c.is_sorted-ascend.result c.is_sorted-ascend.ensures.cases c.if-ascend.true (c.deref.ensures.value ∙ sym c.in_ok-shared.ensures)

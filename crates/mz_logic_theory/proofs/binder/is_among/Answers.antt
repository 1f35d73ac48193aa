use Rattle.std.proofs.Common.{◌∙◌, sym}
use Rattle.mz_logic_theory.proofs.Dependences.{found, looked}
use Rattle.mz_logic_theory.proofs.binder.is_among.Goals as goal

pub returns-then-ascend : goal.returns-then-ascend
returns-then-ascend c =
    let (to, from) = found c.args.places.now c.args.place c.binary_search.result (c.requires c.if-ascend.true) c.binary_search.ensures.position in
    ((λ is. to (sym c.is_ok.ensures.value ∙ is)), λ has. c.is_ok.ensures.value ∙ from has)

pub returns-else-ascend : goal.returns-else-ascend
returns-else-ascend c = looked c.args.places.now c.args.place c.contains.result c.contains.ensures.cases

use Rattle.std.proofs.Common.{◌≡◌, ◌∙◌, ◌++◌, Some, None, sym}
use Rattle.mz_sexpr.specs.Number.{node_at}
use Rattle.mz_mmu_theory.specs.FormOrder.{new_asked}
use Rattle.mz_mmu_theory.specs.Stops.{Stops}
use Rattle.mz_mmu_theory.proofs.Offered.{new_name_is, new_name_both, taken_left, taken_right}
use Rattle.mz_mmu_forms.proofs.Stopping.{failed}
use Rattle.mz_mmu_forms.proofs.reader.Reader.let_name.Goals as goal

pub number_of-requires : goal.number_of-requires
number_of-requires c = (new_name_is c.args.hyps.now (node_at c.args.self.now.nodes.now c.args.n) c.in_ok-name.name.now c.in_ok-name.ensures.read).0

pub returns-in_err-name-clause-stops : goal.returns-in_err-name-clause-stops
returns-in_err-name-clause-stops c =
    let m = node_at c.args.self.now.nodes.now c.args.n in
    let s = c.in_err-name.field-0.0 in
    failed c.from_residual.result s (λ stop. Stops stop (new_asked (c.args.hyps.now ++ c.args.lets.now) m)) c.from_residual.ensures.1
    (taken_left s c.args.hyps.now c.args.lets.now m c.in_err-name.ensures.stops)

pub returns-in-Some-clause-stops : goal.returns-in-Some-clause-stops
returns-in-Some-clause-stops c =
    let m = node_at c.args.self.now.nodes.now c.args.n in
    taken_right c.wrong.result c.args.hyps.now c.args.lets.now m c.in_ok-name.name.now c.in_ok-name.ensures.read
    (λ new. let f : Some _ ≡ None = sym c.in-Some.is ∙ c.number_of.ensures ∙ new in cc) c.wrong.ensures

pub returns-in-None-clause-read : goal.returns-in-None-clause-read
returns-in-None-clause-read c =
    new_name_both c.args.hyps.now c.args.lets.now (node_at c.args.self.now.nodes.now c.args.n) c.in_ok-name.name.now c.in_ok-name.ensures.read (sym c.number_of.ensures ∙ c.in-None.is)

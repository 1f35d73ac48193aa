use Rattle.std.proofs.Common.{length, refl, slice_get, ap, sym, ◌∙◌}
use Rattle.std.proofs.lemmas.Bool.{ltb-true}
use Rattle.std.proofs.lemmas.Option.{slice_get_read}
use Rattle.mz_emit_bodies.proofs.instances.Instances.find.Goals as goal

pub returns-then-are_same : goal.returns-then-are_same
returns-then-are_same c =
    let read = slice_get_read c.deref.result.now (length c.deref.result.now) c.in-Some.place c.in-Some-get.found.now refl (ltb-true _ _ (sym c.in-Some-get.ensures.lookup.0)) c.in-Some-get.ensures.lookup.1 in
    let there = ap (λ xs. slice_get xs c.in-Some.place) (sym c.deref.ensures.value) ∙ read in
    let operands = sym c.deref-then-found-number.ensures.value ∙ c.are_same.ensures.0 c.if-are_same.true in
    (c.in-Some.place, c.in-Some-get.found.now, there, c.if-found-number.true, operands, refl)

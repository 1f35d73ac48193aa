use Rattle.std.proofs.Common.{◌∙◌, ap, sym}
use Rattle.std.specs.Prelude.{bytes_eq}
use Rattle.mz_lex.proofs.Placing.{found-behind, found-here}
use Rattle.mz_lex.proofs.places.Places.among_few.Goals as goal

pub returns-then-eq : goal.returns-then-eq
returns-then-eq g c =
    found-here (λ k. k.items) c.args.word.now c.self.inside.places.entries c.keys.i (c.in-Some.key.now, c.in-Some.place.now) (sym c.in-Some.ensures.entry)
    (ap (bytes_eq c.args.word.now) (sym c.as_slice.ensures.value) ∙ sym c.eq.ensures ∙ c.if-eq.true)
    ∙ c.keys.invariant

pub keys-preserved : goal.keys-preserved
keys-preserved g c =
    found-behind (λ k. k.items) c.args.word.now c.self.inside.places.entries c.keys.i (c.in-Some.key.now, c.in-Some.place.now) (sym c.in-Some.ensures.entry)
    (ap (bytes_eq c.args.word.now) (sym c.as_slice.ensures.value) ∙ sym c.eq.ensures ∙ c.if-eq.false)
    ∙ c.keys.invariant

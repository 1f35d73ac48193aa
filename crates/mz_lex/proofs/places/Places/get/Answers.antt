use Rattle.std.proofs.Common.{◌∙◌, ap, refl}
use Rattle.mz_lex.specs.Places.{place_of}
use Rattle.mz_lex.proofs.Placing.{look-is}
use Rattle.mz_lex.proofs.places.Places.get.Goals as goal

pub returns : goal.returns
returns g c =
    c.copied.ensures ∙ c.get.ensures.value ∙ look-is (λ k. k.items) c.args.word.now _ (λ k. refl) c.self.inside.places.entries
    ∙ ap (λ ps. place_of ps c.args.word.now) c.self.view_is

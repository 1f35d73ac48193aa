use Rattle.std.proofs.Common.{◌∙◌, ap, refl}
use Rattle.mz_lex.specs.Places.{place_of}
use Rattle.mz_lex.proofs.Offered.{look-is}
use Rattle.mz_spec_variables.proofs.index.NameIndex.get.Goals as goal

pub returns : goal.returns
returns c =
    c.copied.ensures ∙ c.get.ensures.value ∙ look-is (λ k. k.now) c.args.name.now _ (λ k. refl) c.self.inside.places.entries
    ∙ ap (λ ps. place_of ps c.args.name.now) c.self.view_is

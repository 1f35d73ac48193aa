use Rattle.std.proofs.Common.{◌∙◌, Some, ap, sym, refl}
use Rattle.std.specs.Prelude.{bytes_eq, if◌then◌else◌}
use Rattle.mz_lex.specs.Places.{place_of}
use Rattle.mz_lex.proofs.Offered.{look-is, named, put-is}
use Rattle.mz_spec_variables.proofs.Keyed.{was-none}
use Rattle.mz_spec_variables.proofs.index.NameIndex.insert.Goals as goal

pub returns : goal.returns
returns c =
    let w = c.args.name.now in
    let es = c.self.inside.places.entries in
    let before = look-is (λ k. k.now) w _ (λ k. refl) es ∙ ap (λ ps. place_of ps w) c.self.view_is in (
      λ new. sym before ∙ sym c.in_ok-insert.ensures.old ∙ was-none c.in_ok-insert.field-0 c.is_none.result c.is_none.ensures new,
      λ v. ap (λ es. place_of (named (λ k. k.now) es) v) c.in_ok-insert.ensures.entries ∙ put-is (λ k. k.now) _ (λ j k. refl) c.args.name c.args.place v es
          ∙ ap (λ ps. if bytes_eq w v then Some c.args.place else place_of ps v) c.self.view_is,
    )

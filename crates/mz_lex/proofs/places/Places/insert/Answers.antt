use Rattle.std.proofs.Common.{◌∙◌, ap, Some, refl}
use Rattle.std.specs.Prelude.{bytes_eq, if◌then◌else◌}
use Rattle.mz_lex.specs.Places.{place_of}
use Rattle.mz_lex.proofs.Placing.{named, put-is}
use Rattle.mz_lex.proofs.places.Places.insert.Goals as goal

pub returns-clause-ok : goal.returns-clause-ok
returns-clause-ok g c = λ w.
    ap (λ es. place_of (named (λ k. k.items) es) w) c.in_ok-insert.ensures.entries
    ∙ put-is (λ k. k.items) _ (λ j k. refl) c.in_ok-word.word c.args.place w c.self.inside.places.entries
    ∙ ap (λ ps. if bytes_eq c.in_ok-word.word.items w then Some c.args.place else place_of ps w) c.self.view_is
    ∙ ap (λ v. if bytes_eq v w then Some c.args.place else place_of c.args.self.now w) (c.in_ok-word.ensures.items_if_clones_equal (λ x y e. e))

use Rattle.std.proofs.Common.{◌≡◌, List, ℕ, Some, sym, subst, refl}
use Rattle.std.specs.Prelude.{bytes_eq, if◌then◌else◌}
use Rattle.std.proofs.lemmas.Result.{IfOk-weaker}
use Rattle.mz_lex.specs.Places.{place_of}
use Rattle.mz_spec_theory.specs.Dependencies.{IsCalled}
use Rattle.mz_spec_variables.proofs.Indexed.{named-step}
use Rattle.mz_spec_variables.proofs.by_name.add_name.Goals as goal

pub returns : goal.returns
returns c = IfOk-weaker c.insert.result _ _
    (λ b (fresh, made). λ new vs v at named index.
    named-step vs c.args.place v at c.args.places.now _ index c.args.name.bytes.now (subst (λ o. IsCalled o c.args.name.bytes.now) (sym named) refl) (fresh new)
    (subst (λ n. (w : List ℕ) → place_of c.insert.new.self w ≡ (if bytes_eq c.args.name.bytes.now w then Some n else place_of c.args.places.now w)) c.in-Ok.ensures.1 made))
    c.insert.ensures

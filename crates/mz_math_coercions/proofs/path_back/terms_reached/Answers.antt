use Rattle.std.proofs.Common.{◌∙◌, List, reverse, sym, subst}
use Rattle.std.proofs.lemmas.Bool.{true≢false}
use Rattle.mz_math_theory.specs.declared.coercion.Coercion.{Coercion}
use Rattle.mz_math_theory.specs.Coercions.{OnePath}
use Rattle.mz_math_theory.proofs.Offered.{path-short}
use Rattle.mz_math_coercions.specs.Found.{AreTermsOf}
use Rattle.mz_math_coercions.proofs.Backwards.{path-has}
use Rattle.mz_math_coercions.proofs.path_back.terms_reached.Goals as goal

pub returns-then-not-has : goal.returns-then-not-has
returns-then-not-has c = λ path.
    true≢false (sym (c.has.ensures.1 (path-has c.args.graph.now c.args.from c.args.to 0 c.walk_from.new.reached c.in_ok-walk_from.ensures path)) ∙ c.if-not-has.true)

pub terms_back-requires : goal.terms_back-requires
terms_back-requires c = (c.args.from, c.args.to, c.in_ok-places.ensures)

pub returns : goal.returns
returns c =
    let one = subst OnePath (sym c.as_slice-items.ensures) c.requires.one in
    let on = c.in_ok-places.ensures in
    let back = reverse c.in_ok-places.places.items in
    subst (λ (cs : List Coercion). AreTermsOf cs c.args.from c.args.to c.in_ok-terms.terms.items) c.as_slice-items.ensures
    (back, on, c.in_ok-terms.ensures, path-short c.as_slice-items.result.now one c.args.from c.args.to back on)

use Rattle.std.proofs.Common.{◌≡◌, ◌∙◌, ◌↔◌, length, false, get_or, replicate, ap, subst}
use Rattle.std.specs.Prelude.{IsTrue}
use Rattle.std.proofs.lemmas.List.{length-replicate}
use Rattle.mz_lex.proofs.Offered.{unmarked}
use Rattle.mz_math_theory.specs.Forms.{EachOnce}
use Rattle.mz_math_operators.proofs.parameters.each_once.Goals as goal

pub mark_each_once-requires : goal.mark_each_once-requires
mark_each_once-requires c = λ i. ap (λ ms. get_or ms i false) (c.deref_mut.ensures.value ∙ c.in_ok-marks.ensures.items_if_clones_equal (λ y h. h)) ∙ unmarked c.args.many i

pub returns : goal.returns
returns c =
    let unmarked : c.deref_mut.result.now ≡ replicate c.args.many false = c.deref_mut.ensures.value ∙ c.in_ok-marks.ensures.items_if_clones_equal (λ y h. h) in
    subst (λ n. IsTrue c.mark_each_once.result ↔ EachOnce n c.args.elements.now) (ap length unmarked ∙ length-replicate c.args.many false) c.mark_each_once.ensures

use Rattle.std.proofs.Common.{◌∙◌, List, ap, sym, subst, refl, length}
use Rattle.std.proofs.lemmas.Bool.{true≢false}
use Rattle.mz_math_theory.specs.declared.notation.Element.{Element}
use Rattle.mz_math_theory.specs.Forms.{EachOnce, Begins}
use Rattle.mz_math_theory.specs.NotationAnswers.{IsNotationOf}
use Rattle.mz_math_operators.specs.Given.{general}
use Rattle.mz_math_operators.proofs.Literals.{made-mem}
use Rattle.mz_math_operators.proofs.form.notation_of.Goals as goal

pub returns-in_err-once : goal.returns-in_err-once
returns-in_err-once c =
    made-mem c.from_residual.result (IsNotationOf (general c.args.statement) c.args.elements.items) c.from_residual.ensures.1

pub returns-then-not-once : goal.returns-then-not-once
returns-then-not-once c = λ k is.
    let many = c.len-many.ensures ∙ ap length c.binders.ensures.binders in
    true≢false (sym (c.in_ok-once.ensures.1 (subst (λ n. EachOnce n c.deref.result.now) (sym many) (subst (EachOnce (length c.args.statement.params.now.binders)) (sym c.deref.ensures.value) is.2))) ∙ c.if-not-once.true)

pub returns-in-Some : goal.returns-in-Some
returns-in-Some c =
    let many = c.len-many.ensures ∙ ap length c.binders.ensures.binders in (
      refl,
      c.from_vec.ensures,
      subst (EachOnce (length c.args.statement.params.now.binders)) c.deref.ensures.value (subst (λ n. EachOnce n c.deref.result.now) many (c.in_ok-once.ensures.0 c.if-not-once.false)),
      subst (λ (es : List Element). Begins es c.args.statement.tail c.in-Some.level c.in-Some.is_right) c.deref-2.ensures.value c.in-Some.ensures,
    )

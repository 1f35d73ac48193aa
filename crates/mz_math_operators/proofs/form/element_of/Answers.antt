use Rattle.std.proofs.Common.{◌∙◌, sym, subst, Contains}
use Rattle.mz_math_theory.specs.Forms.{IsElement}
use Rattle.mz_math_theory.specs.declared.literal.Literal.{Literal}
use Rattle.mz_lex.specs.MathTokens.{IsConstant}
use Rattle.mz_math_operators.proofs.Literals.{constant-parts, name-parts}
use Rattle.mz_math_operators.proofs.form.element_of.Goals as goal

pub returns-in_default-constant : goal.returns-in_default-constant
returns-in_default-constant c = λ e is.
    let parts = constant-parts c.args.delimiters.now c.args.params.now.names c.args.text.now c.in-Constant.from c.in-Constant.to c.in-Constant.level e (subst (λ (l : Literal). IsElement c.args.delimiters.now c.args.params.now.names c.args.text.now l e) c.in-Constant.is is) in
    c.in_default-constant.ensures parts.1.0 (subst (λ s. IsConstant c.args.delimiters.now s parts.1.0) (sym c.in-Some.ensures.1) parts.1.1)

pub returns-in-None : goal.returns-in-None
returns-in-None c = λ e is.
    let parts = name-parts c.args.delimiters.now c.args.params.now.names c.args.text.now c.in-Name.from c.in-Name.to e (subst (λ (l : Literal). IsElement c.args.delimiters.now c.args.params.now.names c.args.text.now l e) c.in-Name.is is) in
    let here = c.in-Some-span.ensures.1 in
    c.in-None.ensures (λ none. parts.1 (sym here ∙ none)) (subst (Contains c.args.params.now.names) (sym here) parts.2)

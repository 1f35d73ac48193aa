use Rattle.std.proofs.Common.{◌≡◌, ◌∙◌, List, Some, ap₂, sym, subst, length, slice_get}
use Rattle.mz_logic_theory.specs.Declaration.{signatures}
use Rattle.mz_math_theory.specs.declared.notation.Element.{Element}
use Rattle.mz_math_theory.specs.declared.notation.Notation.{Notation}
use Rattle.mz_math_theory.specs.Forms.{AreElements, IsGeneral, EachOnce, Begins}
use Rattle.mz_math_theory.specs.NotationAnswers.{IsNotationOf}
use Rattle.mz_math_operators.specs.Given.{general}
use Rattle.mz_math_operators.proofs.Literals.{general-made, made-err, made-map}
use Rattle.mz_math_theory.proofs.Offered.{elements-one}
use Rattle.mz_math_operators.proofs.form.general_of.Goals as goal

pub returns-in-Err-clause-made : goal.returns-in-Err-clause-made
returns-in-Err-clause-made c =
    made-err (AreElements c.args.delimiters.now c.args.statement.params.now.names c.args.statement.text.now c.args.statement.literals.now) (IsGeneral (signatures c.args.env.now) c.args.delimiters.now (general c.args.statement)) c.in-Err.fault
    (λ (k : Notation) is. (k.elements, is.elements)) c.in-Err.ensures

pub returns-in-Ok-clause-made : goal.returns-in-Ok-clause-made
returns-in-Ok-clause-made c =
    let g = general c.args.statement in
    let binders : c.in-Some.decl.now.params ≡ c.args.statement.params.now.binders =
    c.same_binders.ensures.0 c.if-not-same_binders.false ∙ c.binders-binders.ensures.binders in
    let same : c.in-Some.decl.now.result ≡ c.args.statement.result.now = c.same_result.ensures.0 c.if-not-same_result.false in
    let signature : slice_get (signatures c.args.env.now) c.args.statement.term ≡ Some (record { params = c.args.statement.params.now.binders; result = c.args.statement.result.now }) =
    sym c.in-Some.ensures.signature ∙ ap₂ (λ ps r. Some (record { params = ps; result = r })) binders same in
    made-map (IsNotationOf g c.in-Ok.elements.items) (IsGeneral (signatures c.args.env.now) c.args.delimiters.now g) c.notation_of.result
    (λ (k : Notation) is. general-made (signatures c.args.env.now) c.args.delimiters.now g c.in-Ok.elements.items k signature c.in-Ok.ensures is)
    (λ (k : Notation) is.
    let same_elements : k.elements ≡ c.in-Ok.elements.items = elements-one c.args.delimiters.now g.names c.binders-binders.ensures.names.distinct g.text g.literals k.elements c.in-Ok.elements.items is.elements c.in-Ok.ensures in
    (is.term, same_elements, subst (λ (es : List Element). EachOnce (length g.binders) es) same_elements is.once, subst (λ (es : List Element). Begins es g.tail k.level k.is_right) same_elements is.begins))
    c.notation_of.ensures

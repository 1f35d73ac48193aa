use Rattle.std.proofs.Common.{[], List, sym, subst}
use Rattle.std.proofs.lemmas.List.{append-nil}
use Rattle.mz_math_theory.specs.Forms.{AreElements, IsElement}
use Rattle.mz_math_theory.specs.declared.literal.Literal.{Literal}
use Rattle.mz_math_operators.proofs.Literals.{made-err, here-element, later-elements, more-elements}
use Rattle.mz_math_operators.proofs.form.elements_of.Goals as goal

pub returns-in-Err : goal.returns-in-Err
returns-in-Err c =
    made-err (IsElement c.args.delimiters.now c.args.params.now.names c.args.text.now c.in-Some.literal.now) (AreElements c.args.delimiters.now c.args.params.now.names c.args.text.now c.args.literals.now) c.in-Err.fault
    (here-element c.args.delimiters.now c.args.params.now.names c.args.text.now c.args.literals.now c.literals.i c.in-Some.literal.now c.in-Some.ensures.literal c.literals.invariant.1)
    c.in-Err.ensures

pub literals-preserved : goal.literals-preserved
literals-preserved c =
    let here = c.in-Some.ensures.literal in (
      more-elements c.args.delimiters.now c.args.params.now.names c.args.text.now c.args.literals.now c.literals.i c.in-Some.literal.now here c.literals.elements.items c.in-Ok.element c.push.new.self.items c.in-Ok-push.ensures.items c.in-Ok.ensures c.literals.invariant.0,
      later-elements c.args.delimiters.now c.args.params.now.names c.args.text.now c.args.literals.now c.literals.i c.in-Some.literal.now here c.literals.invariant.1,
    )

pub returns : goal.returns
returns c =
    subst (AreElements c.args.delimiters.now c.args.params.now.names c.args.text.now c.args.literals.now) (append-nil c.literals.elements.items)
    (c.literals.invariant.0 [] (subst (λ (ls : List Literal). AreElements c.args.delimiters.now c.args.params.now.names c.args.text.now ls []) (sym c.in_default.ensures.literal) tt))

use Rattle.std.proofs.Common.{◌∙◌, ℕ, List, Option, Some, MatchOption, ap, sym, subst}
use Rattle.std.proofs.lemmas.Option.{slice_get-get_or}
use Rattle.mz_math_theory.specs.declared.notation.Notation.{Notation}
use Rattle.mz_math_theory.specs.declared.notation.Element.{Element}
use Rattle.mz_math_theory.specs.Clear.{HasConstant}
use Rattle.mz_math_theory.proofs.Offered.{listed-element}
use Rattle.mz_math_operators.proofs.Spotting.{none-found, past-notations, past-elements, level-here}
use Rattle.mz_math_operators.proofs.notations.level_in.Goals as goal

abbrev IsLevelOf : List Notation → List ℕ → Option ℕ → Type 0
IsLevelOf ks w o = MatchOption o ((q : ℕ) → HasConstant ks w q → ⊥) (λ q. HasConstant ks w q)

pub returns-in_err-spot : goal.returns-in_err-spot
returns-in_err-spot c =
    let ks = c.args.items.now in
    let w = c.args.token.now in
    subst (IsLevelOf ks w) (sym c.from_residual.ensures) (none-found c.args.constants.now ks w c.requires (sym c.in_err-spot.ensures))

pub returns-in_err-notation : goal.returns-in_err-notation
returns-in_err-notation c =
    let ks = c.args.items.now in
    let w = c.args.token.now in
    subst (IsLevelOf ks w) (sym c.from_residual-in_err-notation.ensures)
    (past-notations c.args.constants.now ks w c.in_ok-spot.spot c.requires (sym c.in_ok-spot.ensures) c.in_err-notation.ensures.lookup.3)

pub returns-in_err-element : goal.returns-in_err-element
returns-in_err-element c =
    let ks = c.args.items.now in
    let w = c.args.token.now in
    let s = c.in_ok-spot.spot in
    let n : Notation = c.in_ok-notation.notation.now in
    let read = c.in_ok-notation.ensures.lookup in
    let here = slice_get-get_or ks s.notation n read.3.0 ∙ ap Some (sym read.1) in
    subst (IsLevelOf ks w) (sym c.from_residual-in_err-element.ensures)
    (past-elements c.args.constants.now ks w s c.requires (sym c.in_ok-spot.ensures) n here c.listed.result.now c.listed.ensures c.in_err-element.ensures.lookup.3)

pub returns : goal.returns
returns c =
    let ks = c.args.items.now in
    let w = c.args.token.now in
    let s = c.in_ok-spot.spot in
    let n : Notation = c.in_ok-notation.notation.now in
    let e : Element = c.in_ok-element.element.now in
    let read = c.in_ok-notation.ensures.lookup in
    let item = c.in_ok-element.ensures.lookup in
    let here = slice_get-get_or ks s.notation n read.3.0 ∙ ap Some (sym read.1) in
    let element = listed-element n.elements c.listed.result.now s.element e c.listed.ensures (slice_get-get_or c.listed.result.now s.element e item.3.0 ∙ ap Some (sym item.1)) in
    level-here c.args.constants.now ks w s c.requires (sym c.in_ok-spot.ensures) n here e element c.level_of.result c.level_of.ensures

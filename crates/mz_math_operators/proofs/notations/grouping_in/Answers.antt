use Rattle.std.proofs.Common.{◌≡◌, ◌∙◌, Bool, Option, Some, MatchOption, Contains, ap, sym, subst}
use Rattle.std.proofs.lemmas.Option.{slice_get-get_or}
use Rattle.mz_math_theory.specs.declared.notation.Notation.{Notation}
use Rattle.mz_math_operators.proofs.Levelling.{none-kept, past-stands, other-stands}
use Rattle.mz_math_operators.proofs.notations.grouping_in.Goals as goal

pub returns-in_err-place : goal.returns-in_err-place
returns-in_err-place c =
    let P : Type 0 = (k : Notation) → Contains c.args.items.now k → k.level ≡ c.args.level → ⊥ in
    let Q : Bool → Type 0 = λ right. (k : Notation) × Contains c.args.items.now k × (k.level ≡ c.args.level) × (k.is_right ≡ right) in
    subst (λ (o : Option Bool). MatchOption o P Q) (sym c.from_residual.ensures) (none-kept c.args.levels.now c.args.items.now c.args.level c.requires (sym c.in_err-place.ensures))

pub returns-in_err-notation : goal.returns-in_err-notation
returns-in_err-notation c =
    let P : Type 0 = (k : Notation) → Contains c.args.items.now k → k.level ≡ c.args.level → ⊥ in
    let Q : Bool → Type 0 = λ right. (k : Notation) × Contains c.args.items.now k × (k.level ≡ c.args.level) × (k.is_right ≡ right) in
    subst (λ (o : Option Bool). MatchOption o P Q) (sym c.from_residual-in_err-notation.ensures)
    (past-stands c.args.levels.now c.args.items.now c.args.level c.in_ok-place.place c.requires (sym c.in_ok-place.ensures) c.in_err-notation.ensures.lookup.3)

pub returns-else-notation-level : goal.returns-else-notation-level
returns-else-notation-level c =
    let n : Notation = c.in_ok-notation.notation.now in
    let read = c.in_ok-notation.ensures.lookup in
    other-stands c.args.levels.now c.args.items.now c.args.level c.in_ok-place.place n c.requires (sym c.in_ok-place.ensures)
    (slice_get-get_or c.args.items.now c.in_ok-place.place n read.3.0 ∙ ap Some (sym read.1)) c.if-notation-level.false

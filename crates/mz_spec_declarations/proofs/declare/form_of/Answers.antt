use Rattle.std.proofs.Common.{◌≡◌, List, [], ◌∷◌, option_map, sym, subst}
use Rattle.std.specs.Prelude.{IfOk}
use Rattle.mz_spec_theory.specs.StatementCode.{lexeme}
use Rattle.mz_spec_theory.specs.Statement.{TypeText}
use Rattle.mz_logic_theory.specs.DeclView.{form}
use Rattle.mz_spec_variables.specs.Code.{AreParts}
use Rattle.mz_spec_theory.specs.Declaring.{IsForm}
use Rattle.mz_spec_rules.specs.Entries.{state}
use Rattle.mz_spec_theory.specs.State.{result_of}
use Rattle.mz_spec_theory.specs.View.{Variable}
use Rattle.mz_spec_declarations.proofs.declare.form_of.Goals as goal

pub returns-in-Some-clause-form : goal.returns-in-Some-clause-form
returns-in-Some-clause-form c =
    let σ = state c.args.state.now in
    subst (λ o. IfOk c.body_of.result (λ f. (vs : List Variable) (ts : List TypeText) (t : TypeText) → AreParts c.args.parts.now vs ts (t ∷ []) → c.args.result_type.now ≡ result_of σ vs t → IsForm σ vs t (option_map lexeme o) (form f)))
    (sym c.in-Some.is) c.body_of.ensures.form

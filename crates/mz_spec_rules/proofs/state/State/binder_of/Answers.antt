use Rattle.std.proofs.Common.{◌∙◌, ℕ, List, ap, map}
use Rattle.mz_logic_theory.specs.declared.binder.Binder.{Binder}
use Rattle.mz_spec_theory.specs.StatementCode.{lexeme}
use Rattle.mz_spec_theory.specs.Dependencies.{dep_places}
use Rattle.mz_spec_variables.specs.Code.{variable}
use Rattle.mz_spec_rules.specs.Entries.{state}
use Rattle.mz_spec_theory.specs.State.{sort_number}
use Rattle.mz_spec_rules.proofs.state.State.binder_of.Goals as goal

pub returns : goal.returns
returns c =
    let v = variable c.args.variable.now in
    let made : ℕ → List ℕ → Binder = λ sort deps. record { sort = sort; bound = v.is_bound; deps = deps } in
    ap (λ sort. made sort c.in_ok-deps.deps) c.sort_number-sort.ensures
    ∙ ap (made (sort_number (state c.args.self.now) v.type)) (c.in_ok-deps.ensures ∙ ap (λ ds. dep_places 0 (map variable c.args.params.now) (map lexeme ds)) c.deref.ensures.value)

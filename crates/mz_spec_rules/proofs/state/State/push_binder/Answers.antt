use Rattle.std.proofs.Common.{◌∙◌, ◌-◌, ◌++◌, ◌∷◌, [], ℕ, List, length, ap, map}
use Rattle.std.proofs.lemmas.Result.{IfOk-weaker}
use Rattle.mz_logic_theory.specs.Alike.{deps_at}
use Rattle.mz_logic_theory.specs.declared.binder.Binder.{Binder}
use Rattle.mz_spec_variables.specs.Code.{variable}
use Rattle.mz_spec_rules.specs.Entries.{state}
use Rattle.mz_spec_theory.specs.State.{sort_number}
use Rattle.mz_spec_rules.proofs.Grouping.{as-last}
use Rattle.mz_spec_rules.proofs.state.State.push_binder.Goals as goal

pub returns-then-is_of : goal.returns-then-is_of
returns-then-is_of c = IfOk-weaker c.push_alike.result _ _
    (λ _ pushed types is last.
    let (g, own, same) = c.is_of.ensures.0 c.if-is_of.true in
    let v = variable c.args.variable.now in
    let bs = c.args.binders.now in
    let (sort, deps) = as-last types c.args.variable.now is (state c.args.self.now) (map variable c.args.params.now) bs c.args.group last g own same in
    let made : ℕ → List ℕ → Binder = λ sort deps. record { sort = sort; bound = v.is_bound; deps = deps } in
    pushed ∙ ap (λ sort. bs ++ made sort (deps_at bs (length bs - 1)) ∷ []) (c.last_sort.ensures ∙ sort)
    ∙ ap (λ deps. bs ++ made (sort_number (state c.args.self.now) v.type) deps ∷ []) deps)
    c.push_alike.ensures.ok

pub returns : goal.returns
returns c = λ types is last. c.in_ok-push.ensures.ok ∙ ap (λ b. c.args.binders.now ++ b ∷ []) c.in_ok-binder.ensures

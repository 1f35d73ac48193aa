use Rattle.std.proofs.Common.{◌≡◌, ◌≢◌, ◌⊎◌, ◌∙◌, ◌-◌, ◌++◌, ◌∷◌, [], ℕ, List, length, ap, map, subst, sym, Contains}
use Rattle.std.specs.Prelude.{IsTrue}
use Rattle.std.proofs.lemmas.Result.{IfOk-weaker}
use Rattle.mz_base.specs.Identifiers.{is_name}
use Rattle.mz_logic_theory.specs.Alike.{deps_at}
use Rattle.mz_logic_theory.specs.declared.binder.Binder.{Binder}
use Rattle.mz_spec_variables.specs.Code.{variable}
use Rattle.mz_spec_rules.specs.Entries.{state}
use Rattle.mz_spec_rules.specs.LastOf.{sort_at}
use Rattle.mz_spec_theory.specs.State.{sort_number}
use Rattle.mz_spec_rules.proofs.Grouping.{as-last}
use Rattle.mz_spec_rules.proofs.state.State.push_variable.Goals as goal

pub push_alike-requires-clause-name : goal.push_alike-requires-clause-name
push_alike-requires-clause-name c = subst (λ b. (b ≡ []) ⊎ IsTrue (is_name b)) (sym c.bytes_of-name.ensures) c.requires.name

pub push_alike-requires-clause-other : goal.push_alike-requires-clause-other
push_alike-requires-clause-other c = subst (λ b. b ≢ [] → Contains c.args.scope.now.names b → ⊥) (sym c.bytes_of-name.ensures) c.requires.other

pub push-requires-clause-name : goal.push-requires-clause-name
push-requires-clause-name c = subst (λ b. (b ≡ []) ⊎ IsTrue (is_name b)) (sym c.bytes_of-name.ensures) c.requires.name

pub push-requires-clause-other : goal.push-requires-clause-other
push-requires-clause-other c = subst (λ b. b ≢ [] → Contains c.args.scope.now.names b → ⊥) (sym c.bytes_of-name.ensures) c.requires.other

pub returns-then-is_of-clause-names : goal.returns-then-is_of-clause-names
returns-then-is_of-clause-names c = IfOk-weaker c.push_alike.result _ _
    (λ _ pushed. ap (λ s. s.names) pushed ∙ ap (λ b. c.args.scope.now.names ++ b ∷ []) c.bytes_of-name.ensures) c.push_alike.ensures.ok

pub returns-then-is_of-clause-binders : goal.returns-then-is_of-clause-binders
returns-then-is_of-clause-binders c = IfOk-weaker c.push_alike.result _ _
    (λ _ pushed types is last.
    let (g, own, same) = c.is_of.ensures.0 c.if-is_of.true in
    let v = variable c.args.variable.now in
    let bs = c.args.scope.now.binders in
    let (sort, deps) = as-last types c.args.variable.now is (state c.args.self.now) (map variable c.args.params.now) bs c.args.group last g own same in
    let made : ℕ → List ℕ → Binder = λ sort deps. record { sort = sort; bound = v.is_bound; deps = deps } in
    ap (λ s. s.binders) pushed
    ∙ ap (λ sort. bs ++ made sort (deps_at bs (length bs - 1)) ∷ []) (c.last_sort-sort.ensures ∙ ap (λ xs. sort_at xs (length xs - 1)) c.binders.ensures.binders ∙ sort)
    ∙ ap (λ deps. bs ++ made (sort_number (state c.args.self.now) v.type) deps ∷ []) deps)
    c.push_alike.ensures.ok

pub returns-clause-names : goal.returns-clause-names
returns-clause-names c = IfOk-weaker c.push.result _ _
    (λ _ pushed. ap (λ s. s.names) pushed ∙ ap (λ b. c.args.scope.now.names ++ b ∷ []) c.bytes_of-name.ensures) c.push.ensures.ok

pub returns-clause-binders : goal.returns-clause-binders
returns-clause-binders c = IfOk-weaker c.push.result _ _
    (λ _ pushed types is last. ap (λ s. s.binders) pushed ∙ ap (λ b. c.args.scope.now.binders ++ b ∷ []) c.in_ok-binder.ensures) c.push.ensures.ok

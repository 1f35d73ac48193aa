use Rattle.std.proofs.Common.{◌∙◌, map, Err, ap, subst, sym}
use Rattle.std.proofs.lemmas.Result.{err_from_is_err_and}
use Rattle.mz_base.specs.Checks.{AllHold, FailsFirst}
use Rattle.mz_base.proofs.Offered.{all_hold-both}
use Rattle.mz_spec_theory.specs.StatementCode.{type_text}
use Rattle.mz_spec_theory.specs.Reading.{OnFault}
use Rattle.mz_spec_rules.specs.Answers.{JudgesOrMem}
use Rattle.mz_spec_variables.specs.Code.{variable}
use Rattle.mz_spec_rules.specs.Entries.{state}
use Rattle.mz_spec_theory.specs.Rules.{binder_rules, parts_rules, variable_rules}
use Rattle.mz_spec_theory.proofs.Offered.{mem-before, mem-after}
use Rattle.mz_spec_rules.proofs.state.State.check_parts.Goals as goal

pub returns-in_err-check_variables : goal.returns-in_err-check_variables
returns-in_err-check_variables c = λ vs ts rs parts.
    let σ = state c.args.self.now in
    let halt = c.in_err-check_variables.field-0.0 in
    let same = ap (map variable) c.deref.ensures.value ∙ parts.variables in
    let types = ap (map (λ t. type_text t.ty.now)) c.deref-2.ensures.value ∙ parts.types in
    let p = err_from_is_err_and c.from_residual.result c.from_residual.ensures.1 in
    subst (λ r. JudgesOrMem r (parts_rules σ c.args.place vs ts rs)) (sym (p.1 ∙ ap Err p.2))
    (mem-before (variable_rules σ vs ts) (binder_rules σ c.args.place vs rs) halt
    (subst (λ xs. OnFault halt (FailsFirst (variable_rules σ vs xs))) types (subst (λ xs. OnFault halt (FailsFirst (variable_rules σ xs (map (λ t. type_text t.ty.now) c.deref-2.result.now)))) same c.in_err-check_variables.ensures)))

pub returns-in_err-check_binders : goal.returns-in_err-check_binders
returns-in_err-check_binders c = λ vs ts rs parts.
    let σ = state c.args.self.now in
    let halt = c.in_err-check_binders.field-0.0 in
    let same = ap (map variable) c.deref.ensures.value ∙ parts.variables in
    let types = ap (map (λ t. type_text t.ty.now)) c.deref-2.ensures.value ∙ parts.types in
    let p = err_from_is_err_and c.from_residual-in_err-check_binders.result c.from_residual-in_err-check_binders.ensures.1 in
    subst (λ r. JudgesOrMem r (parts_rules σ c.args.place vs ts rs)) (sym (p.1 ∙ ap Err p.2))
    (mem-after (variable_rules σ vs ts) (binder_rules σ c.args.place vs rs) halt
    (subst (λ xs. AllHold (variable_rules σ vs xs)) types (subst (λ xs. AllHold (variable_rules σ xs (map (λ t. type_text t.ty.now) c.deref-2.result.now))) same c.in_ok-check_variables.ensures))
    (c.in_err-check_binders.ensures vs ts rs parts))

pub returns : goal.returns
returns c = λ vs ts rs parts.
    let σ = state c.args.self.now in
    let same = ap (map variable) c.deref.ensures.value ∙ parts.variables in
    let types = ap (map (λ t. type_text t.ty.now)) c.deref-2.ensures.value ∙ parts.types in
    all_hold-both (variable_rules σ vs ts) (binder_rules σ c.args.place vs rs)
    (subst (λ xs. AllHold (variable_rules σ vs xs)) types (subst (λ xs. AllHold (variable_rules σ xs (map (λ t. type_text t.ty.now) c.deref-2.result.now))) same c.in_ok-check_variables.ensures))
    (c.in_ok-check_binders.ensures vs ts rs parts)

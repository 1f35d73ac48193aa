use Rattle.std.proofs.Common.{◌∙◌, map, Err, ap, subst, sym}
use Rattle.std.proofs.lemmas.Result.{err_from_is_err_and}
use Rattle.mz_base.specs.Checks.{AllHold, FailsFirst}
use Rattle.mz_base.proofs.Offered.{all_hold-both}
use Rattle.mz_spec_theory.specs.StatementCode.{lexeme, type_text}
use Rattle.mz_spec_theory.specs.Reading.{OnFault}
use Rattle.mz_spec_rules.specs.Answers.{JudgesOrMem}
use Rattle.mz_spec_variables.specs.Code.{variable}
use Rattle.mz_spec_rules.specs.Entries.{state}
use Rattle.mz_spec_rules.specs.Noting.{named_rules, noting_rules}
use Rattle.mz_spec_theory.specs.Rules.{binder_rules}
use Rattle.mz_spec_theory.proofs.Offered.{mem-before, mem-after}
use Rattle.mz_spec_rules.proofs.state.State.check_notation.Goals as goal

pub returns-in_err-check_names : goal.returns-in_err-check_names
returns-in_err-check_names c = λ vs ts rs parts.
    let σ = state c.args.self.now in
    let n = lexeme c.args.name in
    let halt = c.in_err-check_names.field-0.0 in
    let same = ap (map variable) c.deref.ensures.value ∙ parts.variables in
    let types = ap (map (λ t. type_text t.ty.now)) c.deref-2.ensures.value ∙ parts.types in
    let p = err_from_is_err_and c.from_residual.result c.from_residual.ensures.1 in
    subst (λ r. JudgesOrMem r (noting_rules σ c.args.place n vs ts rs)) (sym (p.1 ∙ ap Err p.2))
    (mem-before (named_rules σ n vs ts) (binder_rules σ c.args.place vs rs) halt
    (subst (λ xs. OnFault halt (FailsFirst (named_rules σ n vs xs))) types (subst (λ xs. OnFault halt (FailsFirst (named_rules σ n xs (map (λ t. type_text t.ty.now) c.deref-2.result.now)))) same c.in_err-check_names.ensures)))

pub returns-in_err-check_binders : goal.returns-in_err-check_binders
returns-in_err-check_binders c = λ vs ts rs parts.
    let σ = state c.args.self.now in
    let n = lexeme c.args.name in
    let halt = c.in_err-check_binders.field-0.0 in
    let same = ap (map variable) c.deref.ensures.value ∙ parts.variables in
    let types = ap (map (λ t. type_text t.ty.now)) c.deref-2.ensures.value ∙ parts.types in
    let p = err_from_is_err_and c.from_residual-in_err-check_binders.result c.from_residual-in_err-check_binders.ensures.1 in
    subst (λ r. JudgesOrMem r (noting_rules σ c.args.place n vs ts rs)) (sym (p.1 ∙ ap Err p.2))
    (mem-after (named_rules σ n vs ts) (binder_rules σ c.args.place vs rs) halt
    (subst (λ xs. AllHold (named_rules σ n vs xs)) types (subst (λ xs. AllHold (named_rules σ n xs (map (λ t. type_text t.ty.now) c.deref-2.result.now))) same c.in_ok-check_names.ensures))
    (c.in_err-check_binders.ensures vs ts rs parts))

pub returns : goal.returns
returns c = λ vs ts rs parts.
    let σ = state c.args.self.now in
    let n = lexeme c.args.name in
    let same = ap (map variable) c.deref.ensures.value ∙ parts.variables in
    let types = ap (map (λ t. type_text t.ty.now)) c.deref-2.ensures.value ∙ parts.types in
    all_hold-both (named_rules σ n vs ts) (binder_rules σ c.args.place vs rs)
    (subst (λ xs. AllHold (named_rules σ n vs xs)) types (subst (λ xs. AllHold (named_rules σ n xs (map (λ t. type_text t.ty.now) c.deref-2.result.now))) same c.in_ok-check_names.ensures))
    (c.in_ok-check_binders.ensures vs ts rs parts)

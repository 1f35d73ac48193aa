use Rattle.std.proofs.Common.{◌<◌, ◌+◌, ◌++◌, ◌∷◌, [], ◌∙◌, drop, length, sym, ap, subst, refl, arith}
use Rattle.std.proofs.lemmas.List.{append-nil}
use Rattle.mz_base.specs.Checks.{FailsFirst}
use Rattle.mz_spec_theory.specs.State.{env_of}
use Rattle.mz_match.specs.declared.progress.Matching.{Matching}
use Rattle.mz_match_theory.specs.declared.verdict.Verdict.TheVariants as verdicts
use Rattle.mz_spec_proved_theory.specs.Match.{partner_checks, partner_of}
use Rattle.mz_match.specs.Reported.{IsReported}
use Rattle.mz_match_theory.specs.Verdict.{IsVerdictBy}
use Rattle.mz_logic_theory.specs.Declaration.{terms}
use Rattle.mz_match_rows.proofs.Offered.{exact-no}
use Rattle.mz_match.proofs.Pairing.{told-next, done-fewer, differs-here, matched-local, matched-public, term-row, no-term-row}
use Rattle.mz_match.proofs.progress.Matching.pass.Goals as goal
use Rattle.mz_match.proofs.progress.Matching.pass.Goals.{then-not-told+in_default+then-has_kind+in-Ok, then-not-told+in_default+else-has_kind, else-not-told}

pub overflow_add-result : goal.overflow_add-result
overflow_add-result c =
    let t = c.requires.told in
    let few = done-fewer t.progress (env_of c.args.spec.now) c.args.self.now t.before t.env t.later c.args.told.now t.matched t.passes in
    let fits : c.args.told.now.number < 4294967296 = c.fits-told.0.1 in
    omega (arith, few, fits)

pub returns-in-Err-clause-stops : goal.returns-in-Err-clause-stops
returns-in-Err-clause-stops c = λ p after ss env same matched passes text makes.
    let self = c.args.self.now in
    let ds = env_of c.args.spec.now in
    let here : IsReported p.standard c.args.mmb.now self.publics c.args.told.now ss env passes.statement after.at =
    subst (λ f. IsReported p.standard f self.publics c.args.told.now ss env passes.statement after.at) same (told-next p ds self ss env after c.args.told.now matched passes) in
    let fails : FailsFirst (partner_checks (drop self.done ds) (partner_of ss passes.statement)) c.in-Err.rule = c.in-Err.ensures p.standard ss env passes.statement after.at here in
    subst (λ f. IsVerdictBy p.standard text f (verdicts.Match (self.done + 1) c.args.told.now.number c.in-Err.rule)) same
    (differs-here text c.args.spec.now p self ss env after c.args.told.now c.in-Err.rule makes matched passes c.if-not-told.true fails)

pub overflow_add-self : goal.overflow_add-self
overflow_add-self c =
    let t = c.requires.told in
    let few = done-fewer t.progress (env_of c.args.spec.now) c.args.self.now t.before t.env t.later c.args.told.now t.matched t.passes in
    let fits : c.args.told.now.number < 4294967296 = c.fits-told.0.1 in
    omega (arith, few, fits)

pub returns-clause-passed : goal.returns-clause-passed
returns-clause-passed c = λ p after ss env same matched passes.
    let ds = env_of c.args.spec.now in
    let self = c.args.self.now in
    let told = c.args.told.now in
    let later : Matching = record { done = c.if-not-told.self.done; passed = told.number; publics = c.if-not-told.self.publics } in
    let here : IsReported p.standard c.args.mmb.now self.publics told ss env passes.statement after.at =
    subst (λ f. IsReported p.standard f self.publics told ss env passes.statement after.at) same (told-next p ds self ss env after told matched passes) in
    elim c.if-not-told.branch [
      | then-not-told+in_default+then-has_kind+in-Ok w ↦ (
          matched-public p ds self ss env after told matched passes later refl (sym passes.tells.mark ∙ w.if-not-told.true) (w.in_default.ensures p.standard ss env passes.statement after.at here)
          (ap (λ (x : Matching). x.done) w.self-is)
          (ap (λ (x : Matching). x.publics) w.self-is ∙ w.in-Ok.ensures.ok ∙ ap (λ xs. self.publics ++ xs)
          (ap (λ n. n ∷ []) passes.tells.row ∙ sym (term-row env passes.statement.decl (sym passes.tells.kind ∙ w.has_kind.ensures.0 w.if-has_kind.true))))
          )
      | then-not-told+in_default+else-has_kind w ↦ (
          matched-public p ds self ss env after told matched passes later refl (sym passes.tells.mark ∙ w.if-not-told.true) (w.in_default.ensures p.standard ss env passes.statement after.at here)
          (ap (λ (x : Matching). x.done) w.self-is)
          (ap (λ (x : Matching). x.publics) w.self-is ∙ sym (append-nil self.publics) ∙ ap (λ xs. self.publics ++ xs)
          (sym (no-term-row (length (terms env)) passes.statement.decl (λ is. exact-no w.has_kind.result _ w.has_kind.ensures w.if-has_kind.false (passes.tells.kind ∙ is)))))
          )
      | else-not-told w ↦ (
          matched-local p ds self ss env after told matched passes later refl (sym passes.tells.mark ∙ w.if-not-told.false)
          (ap (λ (x : Matching). x.done) w.self-is) (ap (λ (x : Matching). x.publics) w.self-is)
          )
    ]

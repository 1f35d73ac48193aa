use Rattle.std.proofs.Common.{◌≡◌, ◌∙◌, ap, sym, subst, slice_get, Contains}
use Rattle.std.proofs.lemmas.Option.{none-some}
use Rattle.mz_math_theory.specs.Grammar.{Words}
use Rattle.mz_math.proofs.vocabulary.Vocabulary.term.Goals as goal

pub returns-in-None : goal.returns-in-None
returns-in-None c = λ t n is. c.in-None.ensures is.0 (subst (λ (ws : Words). Contains ws.names is.0) (sym c.self.view_is) is.1) is.2

pub returns-in-None-term : goal.returns-in-None-term
returns-in-None-term c = λ t n is.
    let found = c.in-Some.ensures in
    let same = found.1.2 is.0 (subst (λ (ws : Words). Contains ws.names is.0) (sym c.self.view_is) is.1) is.2 in
    let number : t ≡ c.in-Some.number = sym is.3 ∙ ap (λ x. x.term) same ∙ found.2 in
    none-some _ (c.in-None-term.ensures.signature ∙ ap (λ (ws : Words). slice_get ws.signatures c.in-Some.number) c.self.view_is
    ∙ ap (slice_get c.args.self.now.signatures) (sym number) ∙ is.4.1)

pub returns-in-Some-term : goal.returns-in-Some-term
returns-in-Some-term c =
    let found = c.in-Some.ensures in (
      found.0,
      subst (λ (ws : Words). Contains ws.names found.0) c.self.view_is found.1.0,
      found.1.1,
      found.2,
      (_, sym (c.in-Some-term.ensures.signature ∙ ap (λ (ws : Words). slice_get ws.signatures c.in-Some.number) c.self.view_is), sym c.len.ensures),
    )

use Rattle.std.proofs.Common.{ℕ, List, Contains, subst, inr}
use Rattle.std.proofs.lemmas.Bool.{eqb-true}
use Rattle.mz_logic_free.proofs.Narrowing.{looked-up}
use Rattle.mz_logic_free.proofs.narrowed.Narrowed.places.Goals as goal

pub returns-in-Some : goal.returns-in-Some
returns-in-Some c =
    inr (subst (λ (es : List (ℕ × List ℕ)). Contains es (c.args.y, c.in-Some.few.now)) c.self.view_is
    (looked-up c.args.y _ (λ k e. eqb-true c.args.y k e) c.self.inside.few.entries c.in-Some.few.now c.in-Some.ensures.value))

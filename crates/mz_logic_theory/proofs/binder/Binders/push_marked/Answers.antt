use Rattle.std.proofs.Common.{◌≡◌, ◌-◌, ◌∙◌, length, ap, sym, arith}
use Rattle.mz_logic_theory.specs.Alike.{deps_at}
use Rattle.mz_logic_theory.proofs.Dependences.{alike-more}
use Rattle.mz_logic_theory.proofs.binder.Binders.push_marked.Goals as goal

pub invariant_of-self-in-Ok : goal.invariant_of-self-in-Ok
invariant_of-self-in-Ok c =
    let bs = c.self.inside.items.items in
    let place : c.len-place.result ≡ length bs = omega (arith, c.len-place.ensures, c.self.inside.items.ok.0) in
    alike-more bs _ c.args.binder c.self.inside.alike.items _ _ c.in-Ok.ensures.ok
    c.in_ok-push_tightly.ensures.ok place (c.requires ∙ ap (λ xs. deps_at xs (length xs - 1)) (sym c.self.view_is)) c.self.invariant

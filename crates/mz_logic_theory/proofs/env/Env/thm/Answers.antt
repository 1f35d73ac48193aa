use Rattle.std.proofs.Common.{◌∙◌, ap, option_map, rules}
use Rattle.mz_logic_theory.specs.DeclView.{assertion_view}
use Rattle.mz_logic_theory.proofs.Lookup.{assertion_at, no_assertion_at}
use Rattle.mz_logic_theory.proofs.env.Env.thm.Goals as goal

pub returns-in_err-place : goal.returns-in_err-place
returns-in_err-place c =
    ap (option_map (λ d. assertion_view d.now)) c.from_residual.ensures
    ∙ no_assertion_at c.self.inside.decls.items c.deref.result.now c.args.self.now c.args.number c.self.view_is (c.deref.ensures.value ∙ c.self.invariant.3) c.in_err-place.ensures.lookup.3

pub index-requires : goal.index-requires
index-requires c = let h =
    (assertion_at c.self.inside.decls.items c.deref.result.now c.args.self.now c.args.number c.in_ok-place.field-0.now c.self.view_is (c.deref.ensures.value ∙ c.self.invariant.3)
    c.in_ok-place.ensures.lookup.3.0 c.in_ok-place.ensures.lookup.1).within in search (rules, h)

pub returns-in-Thm : goal.returns-in-Thm
returns-in-Thm c =
    (assertion_at c.self.inside.decls.items c.deref.result.now c.args.self.now c.args.number c.in_ok-place.field-0.now c.self.view_is (c.deref.ensures.value ∙ c.self.invariant.3)
    c.in_ok-place.ensures.lookup.3.0 c.in_ok-place.ensures.lookup.1).is c.index.result.now c.in-Thm.thm c.index.ensures c.in-Thm.is

pub returns-in_default : goal.returns-in_default
returns-in_default c =
    absurd ((assertion_at c.self.inside.decls.items c.deref.result.now c.args.self.now c.args.number c.in_ok-place.field-0.now c.self.view_is (c.deref.ensures.value ∙ c.self.invariant.3)
    c.in_ok-place.ensures.lookup.3.0 c.in_ok-place.ensures.lookup.1).one c.index.result.now c.index.ensures c.in_default.not-Thm)

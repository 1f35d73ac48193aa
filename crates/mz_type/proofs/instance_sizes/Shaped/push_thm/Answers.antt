use Rattle.std.proofs.Common.{sym, subst}
use Rattle.mz_logic_theory.specs.DeclView.{assertion_view, assertion_of}
use Rattle.mz_logic_theory.specs.Legality.{IsLegalDecl}
use Rattle.mz_type.proofs.Shaping.{shapes_with_assertion}
use Rattle.mz_type.proofs.instance_sizes.Shaped.push_thm.Goals as goal

pub push_decl-requires-clause-legal : goal.push_decl-requires-clause-legal
push_decl-requires-clause-legal c = subst (λ e. IsLegalDecl e (assertion_of c.args.thm)) (sym c.self.view_is) c.requires.legal

pub invariant_of-self-in-Ok : goal.invariant_of-self-in-Ok
invariant_of-self-in-Ok c =
    shapes_with_assertion c.self.inside.env _ c.self.inside.bodies.items c.self.inside.conclusions.items c.self.invariant (assertion_view c.args.thm) c.in_ok-shape.shape _ c.in-Ok.ensures.ok c.in_ok-push.ensures.items c.in_ok-shape.ensures

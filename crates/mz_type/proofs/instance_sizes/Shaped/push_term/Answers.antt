use Rattle.std.proofs.Common.{sym, subst}
use Rattle.mz_logic_theory.specs.DeclView.{term_view, term_of}
use Rattle.mz_logic_theory.specs.Legality.{IsLegalDecl}
use Rattle.mz_type.proofs.Shaping.{shapes_with_term}
use Rattle.mz_type.proofs.instance_sizes.Shaped.push_term.Goals as goal

pub push_decl-requires-clause-legal : goal.push_decl-requires-clause-legal
push_decl-requires-clause-legal c = subst (λ e. IsLegalDecl e (term_of c.args.term)) (sym c.self.view_is) c.requires.legal

pub invariant_of-self-in-Ok : goal.invariant_of-self-in-Ok
invariant_of-self-in-Ok c =
    shapes_with_term c.self.inside.env _ c.self.inside.bodies.items c.self.inside.conclusions.items c.self.invariant (term_view c.args.term) c.in_ok-shape.shape _ c.in-Ok.ensures.ok c.in_ok-push.ensures.items c.in_ok-shape.ensures

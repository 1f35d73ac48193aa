use Rattle.std.proofs.Common.{◌≡◌, ◌∙◌, slice_get, Some, subst, sym}
use Rattle.mz_logic_theory.specs.Declaration.{terms}
use Rattle.mz_emit_bodies.proofs.Prefixed.{term-of-all}
use Rattle.mz_emit_bodies.proofs.env_prefix.EnvPrefix.term.Goals as goal

pub returns : goal.returns
returns c = λ x at. c.term.ensures.term ∙ term-of-all c.self.inside.len c.self.inside.env.now c.args.number x (subst (λ ds. slice_get (terms ds) c.args.number ≡ Some x) (sym c.self.view_is) at)

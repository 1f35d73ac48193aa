use Rattle.std.proofs.Common.{refl, sym, ap, ◌∙◌, slice_get, arith}
use Rattle.std.specs.Prelude.{option_map}
use Rattle.mz_type.proofs.StatedSteps.{both_there, beside_at}
use Rattle.mz_type.proofs.typed.Typed.dummies.Goals as goal

pub index-requires : goal.index-requires
index-requires c =
    let there = both_there c.args.self.now c.self.inside.env c.self.inside.beside.items c.args.i (ap (λ s. s.statements) c.self.view_is) c.self.invariant.many c.requires in
    omega (arith, there.1, c.self.inside.beside.ok)

pub returns : goal.returns
returns c =
    let there = both_there c.args.self.now c.self.inside.env c.self.inside.beside.items c.args.i (ap (λ s. s.statements) c.self.view_is) c.self.invariant.many c.requires in
    ap (λ s. option_map (λ t. t.dummies) (slice_get s.statements c.args.i)) (sym c.self.view_is)
    ∙ beside_at (λ s. s.dummies) (λ b. b.dummies) (λ d b. refl) c.self.inside.env c.self.inside.beside.items c.args.i c.index.result.now c.self.invariant.many there.0 c.index.ensures

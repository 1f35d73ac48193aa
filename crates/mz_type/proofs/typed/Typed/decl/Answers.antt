use Rattle.std.proofs.Common.{sym, ap, ◌∙◌, slice_get}
use Rattle.std.specs.Prelude.{option_map}
use Rattle.mz_type_rules.proofs.Offered.{is_there}
use Rattle.mz_type.proofs.StatedSteps.{declared_at, both_there}
use Rattle.mz_type.proofs.typed.Typed.decl.Goals as goal

pub unreachable-requires : goal.unreachable-requires
unreachable-requires c =
    let there = both_there c.args.self.now c.self.inside.env c.self.inside.beside.items c.args.i (ap (λ s. s.statements) c.self.view_is) c.self.invariant.many c.requires in
    is_there c.self.inside.env c.args.i there.0 c.in-None.ensures

pub returns : goal.returns
returns c =
    ap (λ s. option_map (λ t. t.decl) (slice_get s.statements c.args.i)) (sym c.self.view_is)
    ∙ declared_at c.self.inside.env c.self.inside.beside.items c.args.i c.self.invariant.many ∙ sym c.in-Some.ensures

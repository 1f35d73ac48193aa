use Rattle.std.proofs.Common.{◌≡◌, Option, Some, None, refl, sym, ap, ◌∙◌, slice_get, arith}
use Rattle.std.specs.Prelude.{option_map}
use Rattle.std.specs.Borrow.{Bor}
use Rattle.mz_mmu_theory.specs.ProofView.{proof_view}
use Rattle.mz_mmu_theory.specs.StatementView.{option_proof}
use Rattle.mz_mmu_theory.specs.declared.proof.Proof.{Proof as Coded}
use Rattle.mz_type_rules.specs.Answers.{stated}
use Rattle.mz_type.proofs.StatedSteps.{both_there, beside_at}
use Rattle.mz_type.proofs.typed.Typed.proof.Goals as goal

as_stated : (o : Option (Bor Coded)) → option_map (λ p. proof_view p.now) o ≡ stated o
as_stated None = refl
as_stated (Some p) = refl

pub index-requires : goal.index-requires
index-requires c =
    let there = both_there c.args.self.now c.self.inside.env c.self.inside.beside.items c.args.i (ap (λ s. s.statements) c.self.view_is) c.self.invariant.many c.requires in
    omega (arith, there.1, c.self.inside.beside.ok)

pub returns : goal.returns
returns c =
    let there = both_there c.args.self.now c.self.inside.env c.self.inside.beside.items c.args.i (ap (λ s. s.statements) c.self.view_is) c.self.invariant.many c.requires in
    ap (λ s. option_map (λ t. t.proof) (slice_get s.statements c.args.i)) (sym c.self.view_is)
    ∙ beside_at (λ s. s.proof) (λ b. option_proof b.proof) (λ d b. refl) c.self.inside.env c.self.inside.beside.items c.args.i c.index.result.now c.self.invariant.many there.0 c.index.ensures
    ∙ ap Some (sym c.proof_in.ensures ∙ sym (as_stated c.proof_in.result))

use Rattle.std.proofs.Common.{◌∙◌, ◌∷◌, ap}
use Rattle.std.proofs.lemmas.Result.{on_ok_weaker}
use Rattle.mz_cmd.specs.declared.code.ProofCode.TheVariants as code
use Rattle.mz_emit_bodies.specs.TaskInvariant.{push, give}
use Rattle.mz_emit_bodies.proofs.body.add_unfolding.Goals as goal

pub returns : goal.returns
returns c = on_ok_weaker c.add-4.result
    (λ last. last ∙ ap (λ z. push c.args.left.0 ∷ z) (c.in_ok-add-3.ensures ∙ ap (λ z. push c.args.unfolded.0 ∷ z) (c.in_ok-add-2.ensures ∙ ap (λ z. give code.Unfold 0 ∷ z) c.in_ok-add.ensures)))
    c.add-4.ensures

use Rattle.std.proofs.Common.{◌∙◌, ◌∷◌, ◌++◌, ap}
use Rattle.std.proofs.lemmas.Result.{on_ok_weaker}
use Rattle.mz_emit_bodies.specs.Pushing.{pushes}
use Rattle.mz_emit_bodies.specs.TaskInvariant.{push}
use Rattle.mz_emit_bodies.proofs.body.add_citation.Goals as goal

pub returns : goal.returns
returns c = on_ok_weaker c.push_turned.result
    (λ last. last ∙ ap (λ z. pushes c.args.operands.now ++ z) (c.in_ok-add-2.ensures ∙ ap (λ z. push c.args.conclusion.0 ∷ z) c.in_ok-add.ensures))
    c.push_turned.ensures

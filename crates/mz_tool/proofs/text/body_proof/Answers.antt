use Rattle.std.proofs.Common.{◌≡◌, ◌∙◌, append_assoc, string_bytes}
use Rattle.std.proofs.lemmas.Result.{IfOk-weaker}
use Rattle.mz_tool.proofs.Lines.{further-proof, is-further-proof}
use Rattle.mz_tool.proofs.text.body_proof.Goals as goal

pub returns-else-k-eq0 : goal.returns-else-k-eq0
returns-else-k-eq0 c =
    IfOk-weaker c.format-else-k-eq0.result _ _
    (λ s e. (let same : string_bytes s ≡ further-proof c.args.k = e ∙ simp append_assoc in same ∙ is-further-proof c.args.k c.if-k-eq0.false))
    c.format-else-k-eq0.ensures.ok

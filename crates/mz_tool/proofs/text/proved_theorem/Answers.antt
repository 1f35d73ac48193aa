use Rattle.std.proofs.Common.{ℕ, List, ◌≡◌, ◌++◌, ◌∙◌, ap, append_assoc, codes, decimal, string_bytes}
use Rattle.std.proofs.lemmas.Result.{IfOk-weaker}
use Rattle.mz_tool.specs.Samples.{body_expression}
use Rattle.mz_tool.proofs.text.proved_theorem.Goals as goal

pub returns : goal.returns
returns c =
    let line : List ℕ → List ℕ → List ℕ = λ body proof.
    codes "(theorem t" ++ decimal c.args.i ++ codes " ((a wff ())) () (d" ++ decimal c.args.i ++ codes " a) () (:conv (d" ++ decimal c.args.i
    ++ codes " a) (:unfold d" ++ decimal c.args.i ++ codes " (a) () " ++ body ++ codes ") " ++ proof ++ codes "))\n" in
    IfOk-weaker c.format.result _ _
    (λ s e. (let same : string_bytes s ≡ line (string_bytes c.in_ok-body.body) (string_bytes c.in_ok-proof.proof) = e ∙ simp append_assoc in
    same ∙ ap (λ (body : List ℕ). line body (string_bytes c.in_ok-proof.proof)) c.in_ok-body.ensures
    ∙ ap (λ (proof : List ℕ). line (body_expression c.args.k) proof) c.in_ok-proof.ensures))
    c.format.ensures.ok

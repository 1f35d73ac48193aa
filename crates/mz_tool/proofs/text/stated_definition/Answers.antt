use Rattle.std.proofs.Common.{ℕ, List, ◌≡◌, ◌++◌, ◌∙◌, ap, append_assoc, codes, decimal, string_bytes}
use Rattle.std.proofs.lemmas.Result.{IfOk-weaker}
use Rattle.mz_tool.proofs.text.stated_definition.Goals as goal

pub returns : goal.returns
returns c =
    let line : List ℕ → List ℕ = λ body. codes "(def d" ++ decimal c.args.i ++ codes " ((a wff ())) (wff ()) () " ++ body ++ codes ")\n" in
    IfOk-weaker c.format.result _ _
    (λ s e. (let same : string_bytes s ≡ line (string_bytes c.in_ok-body.body) = e ∙ simp append_assoc in same ∙ ap line c.in_ok-body.ensures))
    c.format.ensures.ok

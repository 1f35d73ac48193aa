use Rattle.std.proofs.Common.{◌≡◌, ◌∙◌, ◌+◌, ◌∷◌, ℕ, List, ap, sym, subst, drop, drop-cons, add-one, get_or}
use Rattle.mz_lex.specs.MathTokens.{MathToken, token_text, token_texts}
use Rattle.mz_lex.proofs.Strings.{drop-texts}
use Rattle.mz_lex.proofs.tokens.Tokens.get.Goals as goal

pub returns-then-at-self-clause-token : goal.returns-then-at-self-clause-token
returns-then-at-self-clause-token c =
    let ps = c.self.inside.pieces.now in
    let text = c.self.inside.text.now in
    let zero : MathToken = record { from = 0; to = 0 } in
    let p : MathToken = get_or ps c.args.at zero in
    let here : drop c.args.at ps ≡ p ∷ drop (c.args.at + 1) ps = drop-cons ps c.args.at zero c.if-at-self.true ∙ ap (λ k. p ∷ drop k ps) (sym (add-one c.args.at)) in
    let texts : drop c.args.at (token_texts text ps) ≡ token_text text p ∷ drop (c.args.at + 1) (token_texts text ps) =
    drop-texts text ps c.args.at ∙ ap (token_texts text) here ∙ ap (λ ts. token_text text p ∷ ts) (sym (drop-texts text ps (c.args.at + 1))) in
    subst (λ (ts : List (List ℕ)). drop c.args.at ts ≡ token_text text p ∷ drop (c.args.at + 1) ts) c.self.view_is texts

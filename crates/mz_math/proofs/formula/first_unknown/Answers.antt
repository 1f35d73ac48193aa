use Rattle.std.proofs.Common.{◌≡◌, ◌∙◌, ◌+◌, ◌∷◌, List, ap, sym, subst, refl, drop, drop-cons, add-one, inl, get_or}
use Rattle.std.proofs.lemmas.Bool.{true≢false}
use Rattle.mz_base.proofs.Offered.{Decides, decides-after}
use Rattle.mz_lex.specs.declared.tokens.MathToken.{MathToken}
use Rattle.mz_math_theory.specs.Formula.{known_checks, is_known}
use Rattle.mz_lex.specs.declared.rule.S.TheVariants as rules
use Rattle.mz_math.proofs.formula.first_unknown.Goals as goal

pub returns-then-not-is_known : goal.returns-then-not-is_known
returns-then-not-is_known c =
    let ps = c.args.pieces.now in
    let p : MathToken = get_or ps c.loop-i.i (record { from = 0; to = 0 }) in
    let here : drop c.loop-i.i ps ≡ p ∷ drop (c.loop-i.i + 1) ps = drop-cons ps c.loop-i.i (record { from = 0; to = 0 }) c.loop-i-test.true ∙ ap (λ k. p ∷ drop k ps) (sym (add-one c.loop-i.i)) in
    let decides = subst (λ (qs : List MathToken). Decides (known_checks c.args.words.now c.args.text.now qs) (known_checks c.args.words.now c.args.text.now ps)) here c.loop-i.invariant in
    decides.fails (record { at = p.from; rule = rules.MathToken }) (inl ((λ known. true≢false (sym (c.is_known.ensures.1 known) ∙ c.if-not-is_known.true)), refl))

pub loop-i-preserved : goal.loop-i-preserved
loop-i-preserved c =
    let ps = c.args.pieces.now in
    let p : MathToken = get_or ps c.loop-i.i (record { from = 0; to = 0 }) in
    let here : drop c.loop-i.i ps ≡ p ∷ drop (c.loop-i.i + 1) ps = drop-cons ps c.loop-i.i (record { from = 0; to = 0 }) c.loop-i-test.true ∙ ap (λ k. p ∷ drop k ps) (sym (add-one c.loop-i.i)) in
    let decides = subst (λ (qs : List MathToken). Decides (known_checks c.args.words.now c.args.text.now qs) (known_checks c.args.words.now c.args.text.now ps)) here c.loop-i.invariant in
    decides-after (is_known c.args.words.now c.args.text.now p) (known_checks c.args.words.now c.args.text.now (drop (c.loop-i.i + 1) ps)) (known_checks c.args.words.now c.args.text.now ps)
    (c.is_known.ensures.0 c.if-not-is_known.false, tt) decides

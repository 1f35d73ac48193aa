use Rattle.std.proofs.Common.{◌≡◌, ◌∙◌, ℕ, List, [], ◌∷◌, length, sym, refl}
use Rattle.std.proofs.lemmas.Bool.{eqb-false}
use Rattle.std.proofs.lemmas.Result.{IfOk-weaker}
use Rattle.mz_decompile_text.specs.Phrases.{Phrase, a_word, a_list, one_more}
use Rattle.mz_decompile_text.specs.ByNumber.{phrases_at}
use Rattle.mz_decompile_text.specs.Growing.{Tells, those_at}
use Rattle.mz_decompile_text.specs.Telling.{applied}
use Rattle.mz_decompile_text.proofs.LongerProofs.{tells-as}
use Rattle.mz_decompile_text.proofs.tell.application.Goals as goal

some-applied : (w : List ℕ) (qs : List Phrase) (ns : List ℕ) → (length ns ≡ 0 → ⊥) → a_list (one_more (a_word w) (phrases_at qs ns)) ≡ applied w (phrases_at qs ns)
some-applied w qs [] some = absurd (some refl)
some-applied w qs (n ∷ ns) some = refl

pub returns-else-is_empty : goal.returns-else-is_empty
returns-else-is_empty c =
    let a = c.args.phrases.now in
    let qs = those_at a c.args.told.now in
    let w = c.args.term.now in
    let ns = c.args.operands.now in
    let b = c.headed.new.phrases in
    let some = eqb-false (length ns) 0 (sym c.is_empty.ensures ∙ c.if-is_empty.false) in
    IfOk-weaker c.headed.result (λ n. Tells a b (a_list (one_more (a_word w) (phrases_at qs ns))) n) (λ n. Tells a b (applied w (phrases_at qs ns)) n)
    (λ n t. tells-as a b (a_list (one_more (a_word w) (phrases_at qs ns))) (applied w (phrases_at qs ns)) n t (some-applied w qs ns some)) c.headed.ensures

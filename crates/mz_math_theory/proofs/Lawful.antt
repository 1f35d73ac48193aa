-- The laws.
use Rattle.std.proofs.Common.{◌≡◌, ◌∙◌, ℕ, List, Bool, true, false, ap, sym, refl, subst, inl, inr}
use Rattle.mz_base.specs.Checks.{FailsFirst}
use Rattle.mz_base.proofs.Offered.{fails_first-unique, all_hold-excludes}
use Rattle.mz_logic_theory.specs.Tree.{Tree}
use Rattle.mz_logic_theory.specs.Signature.{Signature}
use Rattle.mz_logic_theory.specs.Declaration.{signatures}
use Rattle.mz_lex.specs.MathTokens.{token_texts}
use Rattle.mz_lex.specs.declared.tokens.Delimiters.{Delimiters}
use Rattle.mz_lex.specs.declared.tokens.MathToken.{MathToken}
use Rattle.mz_math_theory.specs.Notation.{begins_with_slot, with_notation}
use Rattle.mz_math_theory.specs.declared.notation.Notation.{Notation}
use Rattle.mz_math_theory.specs.Grammar.{words_of, tree_of}
use Rattle.mz_math_theory.specs.Kept.{IsTable, AreVariables}
use Rattle.mz_math_theory.specs.Meaning.{Wanted, Coerced, IsSettled, IsClaimed}
use Rattle.mz_math_theory.specs.Formula.{Reader, Means, formula_checks}
use Rattle.mz_math_theory.specs.NotationAnswers.{IsShaped, IsClearTable}
use Rattle.mz_math_theory.specs.Laws.{IsNoted, NotationsKeepTables, OneTree, OneTokens, OneMeaning, OneMisreading, OneReading}
use Rattle.mz_math_theory.proofs.Unique.{one-expression}
use Rattle.mz_lex.proofs.Offered.{math_tokens-one}
use Rattle.mz_math_theory.proofs.OneMeaning.{coerced-one, settled-one, claimed-one}
use Rattle.mz_math_theory.proofs.Judging.{exp-one}
use Rattle.mz_math_theory.proofs.Readable.{table-readable}
use Rattle.mz_math_theory.proofs.Tables.{leading-is, infix-is, shaped-slot, shaped-constant, with-slot, with-constant, infix-shaped, prefix-shaped, general-shaped}

noted-shaped : (sigs : List Signature) (d : Delimiters) (k : Notation) → IsNoted sigs d k → IsShaped k
noted-shaped sigs d k (inl (term, text, level, right, is)) = infix-shaped sigs d term text level right k is
noted-shaped sigs d k (inr (inl (term, text, level, is))) = prefix-shaped sigs d term text level k is
noted-shaped sigs d k (inr (inr (g, is))) = general-shaped sigs d g k is

pub notations-keep : NotationsKeepTables
notations-keep t sigs k is noted clear = go (begins_with_slot k.elements) refl
  where
    shaped : IsShaped k
    shaped = noted-shaped sigs t.delimiters k noted

    go : (b : Bool) → begins_with_slot k.elements ≡ b → IsTable (with_notation t k)
    go true e = subst IsTable (with-slot t k e) (infix-is t k is shaped.1 (subst IsClearTable (sym (with-slot t k e)) clear) (shaped-slot k shaped e))
    go false e = subst IsTable (with-constant t k e) (leading-is t k is shaped.1 (subst IsClearTable (sym (with-constant t k e)) clear) (shaped-constant k shaped e))

pub one-tree : OneTree
one-tree t sigs variables is vs tokens e f (p, is_p, le_p, toks_p, tree_p) (q, is_q, le_q, toks_q, tree_q) =
    sym tree_p ∙ ap tree_of (one-expression (words_of t sigs variables) (table-readable t sigs variables is vs) p q is_p is_q (toks_p ∙ sym toks_q)) ∙ tree_q

pub one-tokens : OneTokens
one-tokens d text ps qs a b = math_tokens-one d text 0 ps qs a b

means-one : (r : Reader) (w : Wanted) (tokens : List (List ℕ)) → IsTable r.table → AreVariables r.scope.names → (e f : Tree) → Means r w tokens e → Means r w tokens f → e ≡ f
means-one r w tokens is vs e f (g, s, (t, x, exp, coerced, settles), claimed) (h, q, (u, y, exp_u, coerced_u, settles_u), claimed_u) =
    let cs = r.table.coercions in
    let trees : u ≡ t = exp-one r is vs u t tokens exp_u exp in
    let both = coerced-one (signatures r.env) cs r.scope.binders is.one_path t y x q s (subst (λ z. Coerced (signatures r.env) cs r.scope.binders z y q) trees coerced_u) coerced in
    let whole : h ≡ g = settled-one (signatures r.env) cs r.scope.binders is.one_path w x h g s
    (subst (λ i. IsSettled r.table.coercions w x i h) both.1 (subst (λ z. IsSettled r.table.coercions w z q h) both.0 settles_u)) settles in
    sym (claimed-one (signatures r.env) cs r.scope.binders is.one_path r.env w g f e s (subst (λ i. IsClaimed r.env cs w g i f) both.1 (subst (λ z. IsClaimed r.env cs w z q f) whole claimed_u)) claimed)

pub one-meaning : OneMeaning
one-meaning r w text is vs e f (ps, on, all, means) (qs, on_q, all_q, means_q) =
    let same : qs ≡ ps = math_tokens-one r.table.delimiters text 0 qs ps on_q on in
    means-one r w (token_texts text ps) is vs e f means (subst (λ (xs : List MathToken). Means r w (token_texts text xs) f) same means_q)

pub one-misreading : OneMisreading
one-misreading r w text m n (ps, on, fails) (qs, on_q, fails_q) =
    let same : qs ≡ ps = math_tokens-one r.table.delimiters text 0 qs ps on_q on in
    fails_first-unique (formula_checks r w text ps) m n fails (subst (λ (xs : List MathToken). FailsFirst (formula_checks r w text xs) n) same fails_q)

pub one-reading : OneReading
one-reading r w text e m (ps, on, all, means) (qs, on_q, fails) =
    let same : qs ≡ ps = math_tokens-one r.table.delimiters text 0 qs ps on_q on in
    all_hold-excludes (formula_checks r w text ps) m all (subst (λ (xs : List MathToken). FailsFirst (formula_checks r w text xs) m) same fails)

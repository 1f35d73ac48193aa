-- The prefix form of an expression is read as it.
use Rattle.std.proofs.Common.{◌≡◌, ◌<◌, ◌≤◌, ◌∙◌, ◌++◌, ◌∷◌, [], ℕ, suc, List, length, ap, ap₂, sym, refl, subst, arith}
use Rattle.std.specs.Prelude.{codes, Contains}
use Rattle.std.proofs.lemmas.Option.{slice_get-get_or}
use Rattle.mz_logic_theory.specs.Tree.{Tree, Trees, var, app, none, more, listed}
use Rattle.mz_logic_theory.specs.Legality.{InRange, AllInRange, signature_at}
use Rattle.mz_math_theory.specs.Notation.{max_level}
use Rattle.mz_math_theory.specs.declared.notation.Notation.{Notation}
use Rattle.mz_math_theory.specs.Grammar.{Words, variable, parens, applied, Parse, Parts, headed, end, word, part, operands_at_max, level_of, part_tokens, tree_of, part_trees, IsLeading, IsExp, AreParts}
use Rattle.mz_math_theory.specs.Grammar as grammar
use Rattle.mz_prefix.specs.Prefix.{tokens_of, operand_tokens, enclosed, IsSpoken}
use Rattle.mz_prefix.specs.PrintLaws.{PrefixFormsAreRead}

abbrev count : Trees → ℕ
count none = 0
count (more e es) = suc (count es)

count-is : (es : Trees) → length (listed es) ≡ count es
count-is none = refl
count-is (more e es) = ap suc (count-is es)

module _ (ws : Words) (term name : ℕ → List ℕ) (spoken : IsSpoken ws term name) where
  -- ---- the parse

  abbrev mutual
    parse_of : Tree → Parse
    parse_of (var x) = headed (variable (name x) x) (word (name x) end)
    parse_of (app t es) = headed (applied (term t) t (count es)) (word (term t) (operand_parts es))

    operand_parts : Trees → Parts
    operand_parts none = end
    operand_parts (more e es) = part (enclosed_parse e) (operand_parts es)

    enclosed_parse : Tree → Parse
    enclosed_parse (var x) = headed (variable (name x) x) (word (name x) end)
    enclosed_parse (app t none) = headed (applied (term t) t 0) (word (term t) end)
    enclosed_parse (app t (more e es)) =
        headed parens (word (codes "(") (part (headed (applied (term t) t (suc (count es))) (word (term t) (part (enclosed_parse e) (operand_parts es)))) (word (codes ")") end)))

  -- ---- its tokens and its tree

  mutual
    parse-tokens : (e : Tree) → grammar.tokens_of (parse_of e) ≡ tokens_of term name e
    parse-tokens (var x) = refl
    parse-tokens (app t es) = ap (λ ts. term t ∷ ts) (parts-tokens es)

    parts-tokens : (es : Trees) → part_tokens (operand_parts es) ≡ operand_tokens term name es
    parts-tokens none = refl
    parts-tokens (more e es) = ap₂ ◌++◌ (enclosed-tokens e) (parts-tokens es)

    enclosed-tokens : (e : Tree) → grammar.tokens_of (enclosed_parse e) ≡ enclosed term name e
    enclosed-tokens (app t (more e es)) = ap₂ (λ xs ys. codes "(" ∷ (term t ∷ (xs ++ ys) ++ codes ")" ∷ [])) (enclosed-tokens e) (parts-tokens es)
    enclosed-tokens _ = refl

  mutual
    parse-tree : (e : Tree) → tree_of (parse_of e) ≡ e
    parse-tree (var x) = refl
    parse-tree (app t es) = ap (app t) (parts-tree es)

    parts-tree : (es : Trees) → part_trees (operand_parts es) ≡ es
    parts-tree none = refl
    parts-tree (more e es) = ap₂ more (enclosed-tree e) (parts-tree es)

    enclosed-tree : (e : Tree) → tree_of (enclosed_parse e) ≡ e
    enclosed-tree (app t (more e es)) = ap₂ (λ f fs. app t (more f fs)) (enclosed-tree e) (parts-tree es)
    enclosed-tree _ = refl

  -- ---- it is right

  enclosed-max : (e : Tree) → max_level ≤ level_of (enclosed_parse e)
  enclosed-max (app t none) = omega arith
  enclosed-max _ = omega arith

  no-leading : (w : List ℕ) → IsLeading ws w → ⊥
  no-leading w (k, among, led) =
      let P : List Notation → Type 0 = λ ks. Contains ks k in
      let (i, less, is) = subst P spoken.plain among in absurd (omega arith)

  head-is : (t n : ℕ) → t < length ws.signatures → n ≡ length (signature_at ws.signatures t).params → grammar.IsHead ws (applied (term t) t n)
  head-is t n there many =
      let (a, among, named, is) = spoken.terms t there in
      ((a, among, named, is, (signature_at ws.signatures t, slice_get-get_or ws.signatures t _ there, sym many)), spoken.apart t there, no-leading (term t))

  mutual
    parse-is : (e : Tree) → InRange ws.signatures (length ws.variables) e → IsExp ws (parse_of e)
    parse-is (var x) range = (spoken.variables x range, (refl, tt))
    parse-is (app t es) range = (head-is t (count es) range.0 (sym (count-is es) ∙ range.1), (refl, parts-are es range.2))

    parts-are : (es : Trees) → AllInRange ws.signatures (length ws.variables) es → AreParts ws (operands_at_max (count es)) (operand_parts es)
    parts-are none range = tt
    parts-are (more e es) range = (enclosed-max e, enclosed-is e range.0, parts-are es range.1)

    enclosed-is : (e : Tree) → InRange ws.signatures (length ws.variables) e → IsExp ws (enclosed_parse e)
    enclosed-is (var x) range = (spoken.variables x range, (refl, tt))
    enclosed-is (app t none) range = (head-is t 0 range.0 range.1, (refl, tt))
    enclosed-is (app t (more e es)) range =
        (tt, (refl, ((omega arith), (head-is t (suc (count es)) range.0 (ap suc (sym (count-is es)) ∙ range.1), (refl, (enclosed-max e, enclosed-is e range.2.0, parts-are es range.2.1))), (refl, tt))))

pub prefix-read : PrefixFormsAreRead
prefix-read ws term name e spoken range =
    (parse_of ws term name spoken e, parse-is ws term name spoken e range, omega arith, parse-tokens ws term name spoken e, parse-tree ws term name spoken e)

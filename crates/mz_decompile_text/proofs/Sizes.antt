-- An expression's phrase has as many tokens as the expression has variables and terms.
use Rattle.std.proofs.Common.{◌≡◌, refl, arith}
use Rattle.mz_logic_theory.specs.Tree.{Tree, Trees, var, app, none, more, size, trees_size}
use Rattle.mz_decompile_text.specs.Phrasing.{Vocabulary, expression, expressions}
use Rattle.mz_decompile_text.specs.Measures.{word_count, words_of_all}

mutual
  pub expression-words : (v : Vocabulary) (e : Tree) → word_count (expression v e) ≡ size e
  expression-words v (var x) = refl
  expression-words v (app t none) = refl
  expression-words v (app t (more e es)) = let one = expression-words v e in let rest = expressions-words v es in omega (arith, one, rest)

  pub expressions-words : (v : Vocabulary) (es : Trees) → words_of_all (expressions v es) ≡ trees_size es
  expressions-words v none = refl
  expressions-words v (more e es) = let one = expression-words v e in let rest = expressions-words v es in omega (arith, one, rest)

-- How long prefix forms are.
use Rattle.std.specs.Prelude.{nat_le, codes}
use Rattle.std.proofs.Common.{◌≡◌, ◌≤◌, ◌<◌, ◌+◌, ◌++◌, ◌∙◌, ℕ, suc, true, List, [], ◌∷◌, length, Option, Some, None, MatchOption, is_some, refl, sym, ap, arith, length-append}
use Rattle.std.proofs.lemmas.Bool.{leb-true, le-leb, and_from, and_parts, false_from_ne_true}
use Rattle.mz_logic_theory.specs.Tree.{Tree, Trees, var, app, none, more}
use Rattle.mz_math_theory.specs.Meaning.{height}
use Rattle.mz_math_theory.specs.Formula.{most}
use Rattle.mz_prefix.specs.Prefix.{tokens_of, operand_tokens, enclosed, IsShort}
use Rattle.mz_prefix.specs.NamedDeclarations.{Vocabulary, formula_of}
use Rattle.mz_prefix.specs.Wording.{is_short}
use Rattle.mz_prefix.specs.Measures.{parentheses, token_count, operand_count}

one-more : (n : ℕ) → n + 1 ≡ suc n
one-more n = omega arith

two-more : (n : ℕ) → suc (suc n) ≡ 2 + n
two-more n = omega arith

mutual
  count-is : (term variable : ℕ → List ℕ) (e : Tree) → length (tokens_of term variable e) ≡ token_count e
  count-is term variable (var x) = refl
  count-is term variable (app t es) = ap suc (operands-count term variable es)

  operands-count : (term variable : ℕ → List ℕ) (es : Trees) → length (operand_tokens term variable es) ≡ operand_count es
  operands-count term variable none = refl
  operands-count term variable (more e es) =
      let whole : length (enclosed term variable e ++ operand_tokens term variable es) ≡ length (enclosed term variable e) + length (operand_tokens term variable es)
      = length-append (enclosed term variable e) (operand_tokens term variable es) in
      let first : length (enclosed term variable e) ≡ parentheses e + token_count e = enclosed-count term variable e in
      let rest : length (operand_tokens term variable es) ≡ operand_count es = operands-count term variable es in
      omega (arith, whole, first, rest)

  enclosed-count : (term variable : ℕ → List ℕ) (e : Tree) → length (enclosed term variable e) ≡ parentheses e + token_count e
  enclosed-count term variable (app t (more e es)) =
      let inner = operand_tokens term variable (more e es) in
      let whole : length (inner ++ codes ")" ∷ []) ≡ length inner + 1 = length-append inner (codes ")" ∷ []) in
      let tokens : length inner ≡ operand_count (more e es) = operands-count term variable (more e es) in
      ap (λ n. suc (suc n)) (whole ∙ ap (λ n. n + 1) tokens ∙ one-more (operand_count (more e es))) ∙ two-more (suc (operand_count (more e es)))
  enclosed-count term variable _ = refl

pub short-is : (v : Vocabulary) (e : Tree) → is_short v e ≡ true → IsShort (formula_of v e) e
short-is v e is =
    let (few, low) = and_parts (nat_le (length (formula_of v e)) most) (nat_le (height e) most) is in
    record { few = leb-true (length (formula_of v e)) most few; low = leb-true (height e) most low }

pub is-short : (v : Vocabulary) (e : Tree) → IsShort (formula_of v e) e → is_short v e ≡ true
is-short v e short =
    and_from (nat_le (length (formula_of v e)) most) (nat_le (height e) most) (le-leb (length (formula_of v e)) most short.few) (le-leb (height e) most short.low)

-- where it is low, the room that is left shows it
pub measured : (v : Vocabulary) (e : Tree) (o : Option ℕ) → height e ≤ most → MatchOption o (most < token_count e) (λ left. left + token_count e ≡ most) → is_some o ≡ is_short v e
measured v e None low many =
    sym (false_from_ne_true (is_short v e) (λ is. let few : length (formula_of v e) ≤ most = (short-is v e is).few in
    let count : length (formula_of v e) ≡ token_count e = count-is v.term v.variable e in
    omega (arith, few, count, many)))
measured v e (Some left) low room =
    let count : length (formula_of v e) ≡ token_count e = count-is v.term v.variable e in
    sym (is-short v e (record { few = omega (arith, count, room); low = low }))

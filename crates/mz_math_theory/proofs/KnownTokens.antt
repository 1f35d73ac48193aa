-- Tokens that make a tree are known.
use Rattle.std.proofs.Common.{◌++◌, ℕ, zero, suc, List, [], ◌∷◌, inl, inr, refl, sym, subst, Contains}
use Rattle.std.specs.Prelude.{⊤}
use Rattle.mz_base.proofs.Offered.{contains_at, contains_head, contains_tail}
use Rattle.mz_base.specs.Checks.{AllHold}
use Rattle.mz_logic_theory.specs.Tree.{Tree}
use Rattle.mz_math_theory.specs.declared.notation.Element.{Element}
use Rattle.mz_math_theory.specs.declared.notation.Element.TheVariants.{Fixed as fixed, Slot as slot}
use Rattle.mz_math_theory.specs.declared.notation.Notation.{Notation}
use Rattle.mz_lex.specs.MathTokens.{token_texts}
use Rattle.mz_lex.specs.declared.tokens.MathToken.{MathToken}
use Rattle.mz_math_theory.specs.Formula.{known_checks}
use Rattle.mz_math_theory.specs.Grammar.{Item, token, expr, items, operands_at_max, ParseHead, variable, parens, applied, notated, head_items, behind_first, last_level, infix_items, Parse, Parts, headed, joined, end, word, part, tokens_of, part_tokens, Words, IsHead, IsExp, AreParts, Exp, IsKnown}
use Rattle.mz_math_theory.proofs.Knowing.{known-constant, known-name}

abbrev pub AllKnown : Words → List (List ℕ) → Type 0
AllKnown ws [] = ⊤
AllKnown ws (w ∷ tokens) = IsKnown ws w × AllKnown ws tokens

pub known-both : (ws : Words) (ts us : List (List ℕ)) → AllKnown ws ts → AllKnown ws us → AllKnown ws (ts ++ us)
known-both ws [] us a b = b
known-both ws (t ∷ ts) us a b = (a.0, known-both ws ts us a.1 b)

-- ---- what a form asks for

abbrev AreKnown : Words → List Item → Type 0
AreKnown ws [] = ⊤
AreKnown ws (token w ∷ its) = IsKnown ws w × AreKnown ws its
AreKnown ws (expr l ∷ its) = AreKnown ws its

behind-there : (ls : List Element) (l : Element) → Contains (behind_first ls) l → Contains ls l
behind-there [] l there = there
behind-there (k ∷ ls) l there = contains_tail k l ls there

operands-known : (ws : Words) (n : ℕ) → AreKnown ws (operands_at_max n)
operands-known ws zero = tt
operands-known ws (suc n) = operands-known ws n

items-known : (ws : Words) (ls : List Element) (last : ℕ) → ((w : List ℕ) (q : ℕ) → Contains ls (fixed w q) → IsKnown ws w) → AreKnown ws (items ls last)
items-known ws [] last known = tt
items-known ws (fixed w q ∷ ls) last known = (
  known w q (contains_head (fixed w q) ls),
  items-known ws ls last (λ v p there. known v p (contains_tail (fixed w q) (fixed v p) ls there)),
)
items-known ws (slot i ∷ ls) last known = items-known ws ls last (λ v p there. known v p (contains_tail (slot i) (fixed v p) ls there))

head-known : (ws : Words) (h : ParseHead) → IsHead ws h → AreKnown ws (head_items h)
head-known ws (variable name x) is = (inl (is.0, contains_at ws.variables x name is.1), tt)
head-known ws parens is = (inr (inl refl), (inr (inr (inl refl)), tt))
head-known ws (applied name t n) is = (known-name ws name (is.0.0, is.0.1, is.0.2), operands-known ws n)
head-known ws (notated k) is = items-known ws k.elements k.level (λ w q there. known-constant ws w (q, inl (k, is.0, there)))

infix-known : (ws : Words) (k : Notation) → Contains ws.infixes k → AreKnown ws (infix_items k)
infix-known ws k among = items-known ws (behind_first k.elements) (last_level k)
    (λ w q there. known-constant ws w (q, inr (k, among, behind-there k.elements (fixed w q) there)))

-- ---- the tokens of an expression

mutual
  exp-known : (ws : Words) (p : Parse) → IsExp ws p → AllKnown ws (tokens_of p)
  exp-known ws (headed h ps) is = parts-known ws (head_items h) ps (head-known ws h is.0) is.1
  exp-known ws (joined k p ps) is =
      known-both ws (tokens_of p) (part_tokens ps) (exp-known ws p is.2) (parts-known ws (infix_items k) ps (infix-known ws k is.0) is.3)

  parts-known : (ws : Words) (its : List Item) (ps : Parts) → AreKnown ws its → AreParts ws its ps → AllKnown ws (part_tokens ps)
  parts-known ws [] end known are = tt
  parts-known ws [] (word w ps) known are = absurd are
  parts-known ws [] (part p ps) known are = absurd are
  parts-known ws (token v ∷ its) end known are = absurd are
  parts-known ws (token v ∷ its) (word w ps) known are = (subst (IsKnown ws) (sym are.0) known.0, parts-known ws its ps known.1 are.1)
  parts-known ws (token v ∷ its) (part p ps) known are = absurd are
  parts-known ws (expr l ∷ its) end known are = absurd are
  parts-known ws (expr l ∷ its) (word w ps) known are = absurd are
  parts-known ws (expr l ∷ its) (part p ps) known are =
      known-both ws (tokens_of p) (part_tokens ps) (exp-known ws p are.1) (parts-known ws its ps known are.2)

-- ---- the tokens of a math string

pub checks-hold : (ws : Words) (text : List ℕ) (ps : List MathToken) → AllKnown ws (token_texts text ps) → AllHold (known_checks ws text ps)
checks-hold ws text [] known = tt
checks-hold ws text (p ∷ ps) known = (known.0, checks-hold ws text ps known.1)

pub read-known : (ws : Words) (text : List ℕ) (ps : List MathToken) (level : ℕ) (t : Tree) → Exp ws level t (token_texts text ps) → AllHold (known_checks ws text ps)
read-known ws text ps level t (p, is, enough, tokens, made) = checks-hold ws text ps (subst (AllKnown ws) tokens (exp-known ws p is))

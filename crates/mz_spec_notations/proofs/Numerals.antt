-- The precedences of a statement that lexemes of a text spell are written in digits.
use Rattle.std.proofs.Common.{◌≡◌, ◌++◌, ℕ, List, [], ◌∷◌, Bool, true, false, Option, Some, None, sym, refl, subst, arith}
use Rattle.std.specs.Prelude.{⊤, ◌||◌, ◌&&◌, IsTrue, codes, bytes_eq}
use Rattle.std.specs.List.{list_all}
use Rattle.std.specs.Bool.{Decides}
use Rattle.std.proofs.lemmas.Bool.Decides.{nat_tests}
use Rattle.std.proofs.lemmas.Slice.Eq.{bytes_eq-Decides}
use Rattle.std.proofs.lemmas.Bool.{and_from}
use Rattle.mz_base.proofs.Offered.{both-true}
use Rattle.mz_base.specs.Identifiers.{is_digit}
use Rattle.mz_lex.specs.Kinds.{is_number_start, is_number, is_of_kind}
use Rattle.mz_lex.specs.Lexemes.{Lexeme}
use Rattle.mz_spec_theory.specs.declared.kind.Kind.TheVariants.{Notation}
use Rattle.mz_spec_theory.specs.declared.kind.Fixity.{Fixity}
use Rattle.mz_spec_theory.specs.Statement.{TypeText, Head, Level, number_level, level_max, LiteralText, constant_literal, name_literal, TailText, SpecStatement, operator_statement, notation_statement, Sign, keyword, symbol, name, name_or_blank, formula, number, only_if, IsSign, AreSigns, each, end_signs, type_signs, group_signs, level_sign, literal_signs, tail_signs, statement_signs}
use Rattle.mz_spec_theory.specs.Kept.{AreOfText, IsSpelled}
use Rattle.mz_spec_rules.specs.Noting.{IsNumeral}
use Rattle.mz_spec_theory.specs.Dependencies.{Every}
use Rattle.mz_spec_theory.specs.View.{literal_levels, tail_levels}
use Rattle.mz_spec_theory.proofs.Offered.{every-front}

start-digit : (c : ℕ) → is_number_start c ≡ true → is_digit c ≡ true
start-digit c is = grind (arith, nat_tests)

number-digits : (t : List ℕ) → IsTrue (is_number t) → IsTrue (list_all is_digit t)
number-digits [] is = absurd cc
number-digits (c ∷ cs) is = go (bytes_eq (c ∷ cs) (codes "0")) (bytes_eq-Decides (c ∷ cs) (codes "0")) is
  where
    go : (b : Bool) → Decides b ((c ∷ cs) ≡ codes "0") → (b || (is_number_start c && list_all is_digit cs)) ≡ true → IsTrue (list_all is_digit (c ∷ cs))
    go true by e = subst (λ t. IsTrue (list_all is_digit t)) (sym (by.0 refl)) refl
    go false by e = let both = both-true (is_number_start c) (list_all is_digit cs) e in and_from (is_digit c) (list_all is_digit cs) (start-digit c both.0) both.1

-- ---- signs

abbrev NumberHolds : Sign → Type 0
NumberHolds (keyword t) = ⊤
NumberHolds (symbol t) = ⊤
NumberHolds (name u) = ⊤
NumberHolds (name_or_blank u) = ⊤
NumberHolds (formula u) = ⊤
NumberHolds (number u) = IsTrue (list_all is_digit u.text)
NumberHolds (only_if b s) = ⊤

sign-number : (s : Sign) (l : Lexeme) → IsSign s l → IsTrue (is_of_kind l.kind l.text) → NumberHolds s
sign-number (keyword t) l is kind = tt
sign-number (symbol t) l is kind = tt
sign-number (name u) l is kind = tt
sign-number (name_or_blank u) l is kind = tt
sign-number (formula u) l is kind = tt
sign-number (number u) l (k, same) kind = number-digits u.text (subst (λ x. IsTrue (is_number x.text)) same (subst (λ q. IsTrue (is_of_kind q l.text)) k kind))
sign-number (only_if b s) l is kind = tt

signs-number : (ss : List Sign) (ls : List Lexeme) → AreSigns ss ls → AreOfText ls → Every NumberHolds ss
signs-number [] [] are of = tt
signs-number [] (l ∷ ls) are of = absurd are
signs-number (s ∷ ss) [] are of = absurd are
signs-number (s ∷ ss) (l ∷ ls) (is, are) (kind, small, of) = (sign-number s l is kind, signs-number ss ls are of)

spelled-numbers : (s : SpecStatement) → IsSpelled s → Every NumberHolds (statement_signs s)
spelled-numbers s (ls, spells, of, few) = signs-number (statement_signs s) ls spells of

-- ---- precedences

level-number : (l : Level) → NumberHolds (level_sign l) → IsNumeral l
level-number (number_level l) h = h
level-number level_max h = tt

literals-last : (ls : List LiteralText) (last : LiteralText) → Every NumberHolds (each literal_signs ls) → Every NumberHolds (literal_signs last) → Every IsNumeral (literal_levels (ls ++ last ∷ []))
literals-last [] (constant_literal c level) a b = (level-number level b.1.1.1.0, tt)
literals-last [] (name_literal n) a b = tt
literals-last (constant_literal c level ∷ ls) last a b = (level-number level a.1.1.1.0, literals-last ls last a.1.1.1.1.1 b)
literals-last (name_literal n ∷ ls) last a b = literals-last ls last a.1 b

tail-number : (o : Option TailText) → Every NumberHolds (tail_signs o) → Every IsNumeral (tail_levels o)
tail-number None n = tt
tail-number (Some tail) n = (level-number tail.level n.1.0, tt)

pub operator-numeral : (f : Fixity) (n c : Lexeme) (l : Level) → IsSpelled (operator_statement f n c l) → IsNumeral l
operator-numeral f n c l is = let all = spelled-numbers (operator_statement f n c l) is in level-number l all.1.1.1.1.1.0

pub notation-numerals : (h : Head) (t : TypeText) (ls : List LiteralText) (last : LiteralText) (o : Option TailText) → IsSpelled (notation_statement h t ls last o)
    → Every IsNumeral (literal_levels (ls ++ last ∷ [])) × Every IsNumeral (tail_levels o)
notation-numerals h t ls last o is =
    let all = spelled-numbers (notation_statement h t ls last o) is in
    let groups = every-front NumberHolds (each (group_signs Notation) h.groups) (symbol (codes ":") ∷ (type_signs t ++ (symbol (codes "=") ∷ (each literal_signs ls ++ (literal_signs last ++ (tail_signs o ++ end_signs)))))) all.1.1 in
    let types = every-front NumberHolds (type_signs t) (symbol (codes "=") ∷ (each literal_signs ls ++ (literal_signs last ++ (tail_signs o ++ end_signs)))) groups.1.1 in
    let first = every-front NumberHolds (each literal_signs ls) (literal_signs last ++ (tail_signs o ++ end_signs)) types.1.1 in
    let second = every-front NumberHolds (literal_signs last) (tail_signs o ++ end_signs) first.1 in
    let third = every-front NumberHolds (tail_signs o) end_signs second.1 in
    (literals-last ls last first.0 second.0, tail-number o third.0)

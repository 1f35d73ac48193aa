-- The literals of a notation have no more bytes than its lexemes.
use Rattle.std.proofs.Common.{◌≡◌, ◌∙◌, ◌++◌, ◌<◌, ◌≤◌, ◌+◌, ◌-◌, ◌^◌, ℕ, zero, suc, List, [], ◌∷◌, Option, length, map, take, drop, get_or, ap, arith, drop-cons}
use Rattle.std.specs.Prelude.{codes}
use Rattle.mz_lex.specs.Kinds.{inside_of}
use Rattle.mz_lex.specs.Lexemes.{Lexeme}
use Rattle.mz_spec_theory.specs.StatementCode.{literal}
use Rattle.mz_spec_theory.specs.declared.kind.Kind.TheVariants.{Notation}
use Rattle.mz_spec_theory.specs.declared.statement.LiteralText.{LiteralText as LiteralRead}
use Rattle.mz_spec_theory.specs.Statement.{Head, TypeText, LiteralText, constant_literal, name_literal, TailText, Sign, keyword, symbol, name, name_or_blank, formula, number, only_if, IsSign, AreSigns, each, end_signs, type_signs, group_signs, literal_signs, tail_signs, statement_signs, notation_statement}
use Rattle.mz_spec_theory.specs.Kept.{IsSpelled, bytes_of}
use Rattle.mz_spec_notations.specs.Noting.{literal_size, literals_size}

-- ---- signs

-- how many bytes a sign takes at least
abbrev sign_size : Sign → ℕ
sign_size (keyword t) = 0
sign_size (symbol t) = 0
sign_size (name u) = length u.text
sign_size (name_or_blank u) = 0
sign_size (formula u) = length u.text
sign_size (number u) = 0
sign_size (only_if b s) = sign_size s

abbrev signs_size : List Sign → ℕ
signs_size [] = 0
signs_size (s ∷ ss) = sign_size s + signs_size ss

sign-within : (s : Sign) (l : Lexeme) → IsSign s l → sign_size s ≤ length l.text
sign-within (keyword t) l is = omega arith
sign-within (symbol t) l is = omega arith
sign-within (name u) l (kind, same) = let e = ap (λ (x : Lexeme). length x.text) same in omega (arith, e)
sign-within (name_or_blank u) l is = omega arith
sign-within (formula u) l (kind, same) = let e = ap (λ (x : Lexeme). length x.text) same in omega (arith, e)
sign-within (number u) l is = omega arith
sign-within (only_if b s) l (allowed, is) = sign-within s l is

signs-within : (ss : List Sign) (ls : List Lexeme) → AreSigns ss ls → signs_size ss ≤ bytes_of ls
signs-within [] [] are = omega arith
signs-within [] (l ∷ ls) are = absurd are
signs-within (s ∷ ss) [] are = absurd are
signs-within (s ∷ ss) (l ∷ ls) (is, are) = omega (arith, sign-within s l is, signs-within ss ls are)

signs-append : (xs ys : List Sign) → signs_size (xs ++ ys) ≡ signs_size xs + signs_size ys
signs-append [] ys = omega arith
signs-append (x ∷ xs) ys = let e = signs-append xs ys in omega (arith, e)

-- ---- literals

take-short : (n : ℕ) (xs : List ℕ) → length (take n xs) ≤ length xs
take-short zero xs = omega arith
take-short (suc n) [] = omega arith
take-short (suc n) (x ∷ xs) = let e = take-short n xs in omega (arith, e)

drop-short : (xs : List ℕ) → length (drop 1 xs) ≤ length xs
drop-short [] = omega arith
drop-short (x ∷ xs) = omega arith

inside-short : (xs : List ℕ) → length (inside_of xs) ≤ length xs
inside-short xs =
    let e : length (inside_of xs) ≤ length (drop 1 xs) = take-short ((length xs - 1) - 1) (drop 1 xs) in
    omega (arith, e, drop-short xs)

literal-within : (l : LiteralText) → literal_size l ≤ signs_size (literal_signs l)
literal-within (constant_literal c level) = let e : literal_size (constant_literal c level) ≤ length c.text = inside-short c.text in omega (arith, e)
literal-within (name_literal n) = omega arith

literals-within : (ls : List LiteralText) (last : LiteralText) → literals_size (ls ++ last ∷ []) ≤ signs_size (each literal_signs ls) + signs_size (literal_signs last)
literals-within [] last = let e = literal-within last in omega (arith, e)
literals-within (l ∷ ls) last =
    let here = literal-within l in
    let both = signs-append (literal_signs l) (each literal_signs ls) in
    omega (arith, here, both, literals-within ls last)

pub notation-size : (h : Head) (t : TypeText) (ls : List LiteralText) (last : LiteralText) (o : Option TailText) → IsSpelled (notation_statement h t ls last o) → literals_size (ls ++ last ∷ []) < 2 ^ 32
notation-size h t ls last o (lexemes, spells, of, few) =
    let behind : List Sign = tail_signs o ++ end_signs in
    let literals : List Sign = each literal_signs ls ++ (literal_signs last ++ behind) in
    let all = signs-within (statement_signs (notation_statement h t ls last o)) lexemes spells in
    let groups = signs-append (each (group_signs Notation) h.groups) (symbol (codes ":") ∷ (type_signs t ++ (symbol (codes "=") ∷ literals))) in
    let types = signs-append (type_signs t) (symbol (codes "=") ∷ literals) in
    let first = signs-append (each literal_signs ls) (literal_signs last ++ behind) in
    let second = signs-append (literal_signs last) behind in
    omega (arith, all, groups, types, first, second, literals-within ls last, few)

-- ---- a loop over literals

-- the next one, and those behind it
pub size-cut : (xs : List LiteralRead) (i : ℕ) (d : LiteralRead) (last : LiteralText) → i < length xs
    → literals_size (map literal (drop i xs) ++ last ∷ []) ≡ literal_size (literal (get_or xs i d)) + literals_size (map literal (drop (i + 1) xs) ++ last ∷ [])
size-cut xs i d last within =
    let on : suc i ≡ i + 1 = omega arith in
    ap (λ ys. literals_size (map literal ys ++ last ∷ [])) (drop-cons xs i d within ∙ ap (λ n. get_or xs i d ∷ drop n xs) on)

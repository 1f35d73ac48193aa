-- Literals as spans of a text that grows at its end.
use Rattle.std.proofs.Common.{◌≡◌, ◌∙◌, ◌++◌, ◌<◌, ◌≤◌, ◌+◌, ◌-◌, ℕ, zero, suc, List, [], ◌∷◌, length, map, take, drop, get_or, ap, sym, refl, subst, arith, length-append, drop-cons, add-one, append_assoc}
use Rattle.mz_base.specs.Checks.{Checks, nothing, each_in_order, ◌>>◌, AllHold, FailsFirst}
use Rattle.mz_base.proofs.Offered.{Decides, decides-after, fails-before}
use Rattle.mz_math_theory.specs.declared.literal.Literal.{Literal}
use Rattle.mz_math_theory.specs.declared.literal.Literal.TheVariants.{Constant as constant, Name as name}
use Rattle.mz_spec_theory.specs.declared.refusal.Fault.{Fault}
use Rattle.mz_spec_theory.specs.declared.refusal.Halt.{Halt}
use Rattle.mz_spec_theory.specs.declared.refusal.Halt.TheVariants as halts
use Rattle.mz_spec_theory.specs.StatementCode.{literal}
use Rattle.mz_spec_theory.specs.declared.statement.LiteralText.{LiteralText as LiteralRead}
use Rattle.mz_spec_theory.specs.Reading.{OnFault}
use Rattle.mz_spec_theory.specs.Statement.{LiteralText, constant_literal, name_literal}
use Rattle.mz_spec_theory.specs.Forms.{IsLiteral, AreLiterals}
use Rattle.mz_spec_rules.specs.Noting.{IsNumeral}
use Rattle.mz_spec_notations.specs.Noting.{literal_size, literals_size}
use Rattle.mz_spec_theory.specs.Dependencies.{Every}
use Rattle.mz_spec_theory.specs.Rules.{is_level}
use Rattle.mz_spec_theory.specs.View.{literal_levels}
use Rattle.mz_spec_theory.proofs.Offered.{assoc}

-- ---- spans

take-front : (xs ys : List ℕ) (n : ℕ) → n ≤ length xs → take n (xs ++ ys) ≡ take n xs
take-front [] ys zero le = refl
take-front [] ys (suc n) le = absurd (omega (arith, le))
take-front (x ∷ xs) ys zero le = refl
take-front (x ∷ xs) ys (suc n) le = ap (λ zs. x ∷ zs) (take-front xs ys n (omega (arith, le)))

part-front : (xs ys : List ℕ) (from n : ℕ) → from + n ≤ length xs → take n (drop from (xs ++ ys)) ≡ take n (drop from xs)
part-front xs ys zero n le = take-front xs ys n (omega (arith, le))
part-front [] ys (suc from) n le = absurd (omega (arith, le))
part-front (x ∷ xs) ys (suc from) n le = part-front xs ys from n (omega (arith, le))

literal-front : (text more : List ℕ) (l : LiteralText) (k : Literal) → IsLiteral text l k → IsLiteral (text ++ more) l k
literal-front text more (constant_literal c level) (constant from to n) (span, bytes, is) =
    ((span.0, let long = length-append text more in let e = span.1 in omega (arith, long, e)), part-front text more from (to - from) (let a = span.0 in let b = span.1 in omega (arith, a, b)) ∙ bytes, is)
literal-front text more (constant_literal c level) (name from to) is = absurd is
literal-front text more (name_literal n) (constant from to level) is = absurd is
literal-front text more (name_literal n) (name from to) (span, bytes) =
    ((span.0, let long = length-append text more in let e = span.1 in omega (arith, long, e)), part-front text more from (to - from) (let a = span.0 in let b = span.1 in omega (arith, a, b)) ∙ bytes)

literals-front : (text more : List ℕ) (ls : List LiteralText) (ks : List Literal) → AreLiterals text ls ks → AreLiterals (text ++ more) ls ks
literals-front text more [] [] are = tt
literals-front text more [] (k ∷ ks) are = absurd are
literals-front text more (l ∷ ls) [] are = absurd are
literals-front text more (l ∷ ls) (k ∷ ks) (is, are) = (literal-front text more l k is, literals-front text more ls ks are)

literals-more : (text : List ℕ) (ls : List LiteralText) (ks : List Literal) (l : LiteralText) (k : Literal) → AreLiterals text ls ks → IsLiteral text l k → AreLiterals text (ls ++ l ∷ []) (ks ++ k ∷ [])
literals-more text [] [] l k are is = (is, tt)
literals-more text [] (j ∷ ks) l k are is = absurd are
literals-more text (m ∷ ls) [] l k are is = absurd are
literals-more text (m ∷ ls) (j ∷ ks) l k (this, are) is = (this, literals-more text ls ks l k are is)

-- one more literal, at the end of the text
pub literals-next : (text more next : List ℕ) (ls : List LiteralText) (ks js : List Literal) (l : LiteralText) (k : Literal) → next ≡ text ++ more → js ≡ ks ++ k ∷ [] → IsLiteral next l k → AreLiterals text ls ks
    → AreLiterals next (ls ++ l ∷ []) js
literals-next text more next ls ks js l k longer one is are =
    subst (λ zs. AreLiterals next (ls ++ l ∷ []) zs) (sym one) (literals-more next ls ks l k (subst (λ t. AreLiterals t ls ks) (sym longer) (literals-front text more ls ks are)) is)

-- ---- precedences

abbrev pub levels_in : List LiteralText → Checks Fault
levels_in ls = each_in_order is_level (literal_levels ls)

pub numerals-next : (x : LiteralText) (ys : List LiteralText) → Every IsNumeral (literal_levels (x ∷ ys)) → Every IsNumeral (literal_levels (x ∷ [])) × Every IsNumeral (literal_levels ys)
numerals-next (constant_literal c level) ys all = ((all.0, tt), all.1)
numerals-next (name_literal n) ys all = (tt, all)

levels-next : (x : LiteralText) (ys : List LiteralText) → levels_in (x ∷ ys) ≡ (levels_in (x ∷ []) >> levels_in ys)
levels-next (constant_literal c level) ys = sym (assoc (is_level level) nothing (levels_in ys))
levels-next (name_literal n) ys = refl

pub levels-step : (whole : Checks Fault) (x : LiteralText) (ys : List LiteralText) → Decides (levels_in (x ∷ ys)) whole → AllHold (levels_in (x ∷ [])) → Decides (levels_in ys) whole
levels-step whole x ys d all = decides-after (levels_in (x ∷ [])) (levels_in ys) whole all (subst (λ cs. Decides cs whole) (levels-next x ys) d)

pub levels-halt : (whole : Checks Fault) (x : LiteralText) (ys : List LiteralText) (halt : Halt) → Decides (levels_in (x ∷ ys)) whole → OnFault halt (FailsFirst (levels_in (x ∷ []))) → OnFault halt (FailsFirst whole)
levels-halt whole x ys (halts.Fault f) d fails = d.fails f (subst (λ cs. FailsFirst cs f) (sym (levels-next x ys)) (fails-before (levels_in (x ∷ [])) (levels_in ys) f fails))
levels-halt whole x ys halts.Mem d fails = tt

-- ---- a loop over literals

module _ (xs : List LiteralRead) (i : ℕ) (last : LiteralText) (whole : Checks Fault) where
  pub push-halt : (d : LiteralRead) (halt : Halt) → i < length xs → Decides (levels_in (map literal (drop i xs) ++ last ∷ [])) whole → OnFault halt (FailsFirst (levels_in (literal (get_or xs i d) ∷ [])))
      → OnFault halt (FailsFirst whole)
  push-halt d halt within left fails =
      let at = drop-cons xs i d within in
      levels-halt whole (literal (get_or xs i d)) (map literal (drop (suc i) xs) ++ last ∷ []) halt (subst (λ ys. Decides (levels_in (map literal ys ++ last ∷ [])) whole) at left) fails

  -- one literal more is read
  module _ (d : LiteralRead) (within : i < length xs) where
    abbrev rest : List LiteralText
    rest = map literal (drop (i + 1) xs) ++ last ∷ []

    literal-here : drop i xs ≡ get_or xs i d ∷ drop (i + 1) xs
    literal-here = drop-cons xs i d within ∙ ap (λ k. get_or xs i d ∷ drop k xs) (sym (add-one i))

    pub spans-passed : (ls : List LiteralText) → ls ++ map literal (drop i xs) ≡ map literal xs → (ls ++ literal (get_or xs i d) ∷ []) ++ map literal (drop (i + 1) xs) ≡ map literal xs
    spans-passed ls so_far =
        append_assoc ls (literal (get_or xs i d) ∷ []) (map literal (drop (i + 1) xs)) ∙ ap (λ ys. ls ++ map literal ys) (sym literal-here) ∙ so_far

    pub numeral-here : Every IsNumeral (literal_levels (map literal (drop i xs) ++ last ∷ [])) → Every IsNumeral (literal_levels (literal (get_or xs i d) ∷ []))
    numeral-here all = (numerals-next (literal (get_or xs i d)) rest (subst (λ ys. Every IsNumeral (literal_levels (map literal ys ++ last ∷ []))) literal-here all)).0

    pub size-here : (old total most : ℕ) → old + literals_size (map literal (drop i xs) ++ last ∷ []) ≡ total → total < most → old + literal_size (literal (get_or xs i d)) < most
    size-here old total most so_far small =
        let now : old + (literal_size (literal (get_or xs i d)) + literals_size rest) ≡ total = subst (λ ys. old + literals_size (map literal ys ++ last ∷ []) ≡ total) literal-here so_far in
        omega (arith, now, small)

    pub numerals-passed : Every IsNumeral (literal_levels (map literal (drop i xs) ++ last ∷ [])) → Every IsNumeral (literal_levels (map literal (drop (i + 1) xs) ++ last ∷ []))
    numerals-passed all = (numerals-next (literal (get_or xs i d)) rest (subst (λ ys. Every IsNumeral (literal_levels (map literal ys ++ last ∷ []))) literal-here all)).1

    pub size-passed : (old new total : ℕ) → old + literals_size (map literal (drop i xs) ++ last ∷ []) ≡ total → new ≡ old + literal_size (literal (get_or xs i d))
        → new + literals_size (map literal (drop (i + 1) xs) ++ last ∷ []) ≡ total
    size-passed old new total so_far more =
        let now : old + (literal_size (literal (get_or xs i d)) + literals_size rest) ≡ total = subst (λ ys. old + literals_size (map literal ys ++ last ∷ []) ≡ total) literal-here so_far in
        omega (arith, now, more)

    pub levels-passed : Decides (levels_in (map literal (drop i xs) ++ last ∷ [])) whole → AllHold (levels_in (literal (get_or xs i d) ∷ [])) → Decides (levels_in (map literal (drop (i + 1) xs) ++ last ∷ [])) whole
    levels-passed left = levels-step whole (literal (get_or xs i d)) rest (subst (λ ys. Decides (levels_in (map literal ys ++ last ∷ [])) whole) literal-here left)

-- The names of the samples' texts, by number.
use Rattle.std.proofs.Common.{ℕ, zero, suc, ◌≡◌, ◌<◌, ◌≤◌, ◌+◌, ◌∙◌, List, [], ◌∷◌, true, refl, ap, sym, arith, codes, decimal}
use Rattle.std.specs.Prelude.{bytes_eq, not}
use Rattle.std.proofs.lemmas.Bool.{and_from}
use Rattle.std.proofs.lemmas.Fmt.{decimal_injective, decimal_is_IsNumeral}
use Rattle.mz_base.proofs.Offered.{nil-cons, same-head, same-tail, digits-named}
use Rattle.mz_base.specs.Identifiers.{is_name_start}
use Rattle.mz_mmu_theory.specs.Name.{IsName}
use Rattle.mz_decompile_text.specs.Phrasing.{Vocabulary}
use Rattle.mz_decompile_text.specs.Phrasable.{HasNames}
use Rattle.mz_tool.proofs.Declarations.{twice, t_number}
use Rattle.mz_tool.proofs.Statements.{d_name, t_name, g_name}

abbrev pub sort_name : ℕ → List ℕ
sort_name zero = codes "wff"
sort_name (suc i) = codes "nat"

abbrev pub term_name : ℕ → List ℕ
term_name zero = codes "im"
term_name (suc zero) = codes "all"
term_name (suc (suc k)) = d_name k

-- of the theorems from those of number k on
abbrev pub theorem_name : ℕ → ℕ → List ℕ
theorem_name k zero = t_name k
theorem_name k (suc zero) = g_name k
theorem_name k (suc (suc T)) = theorem_name (suc k) T

abbrev pub assertion_name : ℕ → List ℕ
assertion_name zero = codes "ax_1"
assertion_name (suc zero) = codes "ax_mp"
assertion_name (suc (suc zero)) = codes "ax_gen"
assertion_name (suc (suc (suc T))) = theorem_name 0 T

-- no sample has a hypothesis or a let
abbrev pub one_of : List ℕ → List ℕ → ℕ → List ℕ
one_of u w zero = u
one_of u w (suc i) = w

-- with these names for a statement's variables
abbrev pub vocabulary : (ℕ → List ℕ) → Vocabulary
vocabulary variable = record {
  sort = sort_name;
  term = term_name;
  assertion = assertion_name;
  variable = variable;
  hypothesis = one_of (codes "h") (codes "i");
  let_name = one_of (codes "l") (codes "m");
}

abbrev pub ab : ℕ → List ℕ
ab = one_of (codes "a") (codes "b")

abbrev pub xp : ℕ → List ℕ
xp = one_of (codes "x") (codes "p")

-- ---- theorems by number

t-from : (j k : ℕ) → theorem_name j (twice k) ≡ t_name (j + k)
t-from j zero = let e : j ≡ j + 0 = omega arith in ap t_name e
t-from j (suc k) = let e : suc j + k ≡ j + suc k = omega arith in t-from (suc j) k ∙ ap t_name e

g-from : (j k : ℕ) → theorem_name j (suc (twice k)) ≡ g_name (j + k)
g-from j zero = let e : j ≡ j + 0 = omega arith in ap g_name e
g-from j (suc k) = let e : suc j + k ≡ j + suc k = omega arith in g-from (suc j) k ∙ ap g_name e

pub t-is : (k : ℕ) → t_name k ≡ assertion_name (t_number k)
t-is k = let e : k ≡ 0 + k = omega arith in ap t_name e ∙ sym (t-from 0 k)

pub g-is : (k : ℕ) → g_name k ≡ assertion_name (suc (t_number k))
g-is k = let e : k ≡ 0 + k = omega arith in ap g_name e ∙ sym (g-from 0 k)

-- ---- identifiers

pub numbered-name : (c k : ℕ) → is_name_start c ≡ true → not (bytes_eq (c ∷ decimal (suc k)) (codes "_")) ≡ true → k ≤ 10000 → IsName (c ∷ decimal (suc k))
numbered-name c k start other small = and_from _ _ (and_from _ _ start (digits-named (decimal (suc k)) (decimal_is_IsNumeral (suc k) (omega (arith, small))).0.1)) other

-- another first byte, another name
pub other-heads : (c e : ℕ) (xs ys : List ℕ) → (c ≡ e → ⊥) → c ∷ xs ≡ e ∷ ys → ⊥
other-heads c e xs ys other is = other (same-head is)

-- another number, another name
pub other-number : (c i j : ℕ) → i ≤ 10000 → j ≤ 10000 → (i ≡ j → ⊥) → c ∷ decimal (suc i) ≡ c ∷ decimal (suc j) → ⊥
other-number c i j a b other is =
    let e : suc i ≡ suc j = decimal_injective (suc i) (suc j) (omega (arith, a)) (omega (arith, b)) (same-tail is) in
    other (omega (arith, e))

-- ---- names of variables

-- two different identifiers, none of which is a term's
pub record AreVariables (f : ℕ → List ℕ) : Type 0 where
  pub named : (x : ℕ) → IsName (f x)
  pub own : (x y : ℕ) → x < 2 → y < 2 → f x ≡ f y → x ≡ y
  pub apart : (x t : ℕ) → f x ≡ term_name t → ⊥

two-own : (u w : List ℕ) → (u ≡ w → ⊥) → (x y : ℕ) → x < 2 → y < 2 → one_of u w x ≡ one_of u w y → x ≡ y
two-own u w other zero zero a b is = refl
two-own u w other zero (suc y) a b is = absurd (other is)
two-own u w other (suc x) zero a b is = absurd (other (sym is))
two-own u w other (suc x) (suc y) a b is = omega (arith, a, b)

one-named : (u w : List ℕ) → IsName u → IsName w → (x : ℕ) → IsName (one_of u w x)
one-named u w a b zero = a
one-named u w a b (suc x) = b

-- it is none of the letters with which terms' names of several letters begin, but for one
abbrev IsApart : ℕ → Type 0
IsApart c = (c ≡ 105 → ⊥) × (c ≡ 100 → ⊥)

one-apart : (c : ℕ) → IsApart c → (t : ℕ) → c ∷ [] ≡ term_name t → ⊥
one-apart c other zero is = other.0 (same-head is)
one-apart c other (suc zero) is = nil-cons (same-tail is)
one-apart c other (suc (suc k)) is = other.1 (same-head is)

pub ab-are : AreVariables ab
ab-are = record { named = one-named (codes "a") (codes "b") refl refl; own = two-own (codes "a") (codes "b") (λ is. other-heads 97 98 [] [] (λ e. absurd (omega (arith, e))) is); apart = apart }
  where
    apart : (x t : ℕ) → ab x ≡ term_name t → ⊥
    apart zero t is = one-apart 97 ((λ e. absurd (omega (arith, e))), (λ e. absurd (omega (arith, e)))) t is
    apart (suc x) t is = one-apart 98 ((λ e. absurd (omega (arith, e))), (λ e. absurd (omega (arith, e)))) t is

pub xp-are : AreVariables xp
xp-are = record { named = one-named (codes "x") (codes "p") refl refl; own = two-own (codes "x") (codes "p") (λ is. other-heads 120 112 [] [] (λ e. absurd (omega (arith, e))) is); apart = apart }
  where
    apart : (x t : ℕ) → xp x ≡ term_name t → ⊥
    apart zero t is = one-apart 120 ((λ e. absurd (omega (arith, e))), (λ e. absurd (omega (arith, e)))) t is
    apart (suc x) t is = one-apart 112 ((λ e. absurd (omega (arith, e))), (λ e. absurd (omega (arith, e)))) t is

pub has-names : (f : ℕ → List ℕ) → AreVariables f → HasNames (vocabulary f) 2
has-names f are = record {
  variables = λ x less. are.named x;
  hypotheses = λ i less. one-named (codes "h") (codes "i") refl refl i;
  lets = λ k less. one-named (codes "l") (codes "m") refl refl k;
  own_variables = are.own;
  own_hypotheses = two-own (codes "h") (codes "i") (λ is. other-heads 104 105 [] [] (λ e. absurd (omega (arith, e))) is);
  own_lets = two-own (codes "l") (codes "m") (λ is. other-heads 108 109 [] [] (λ e. absurd (omega (arith, e))) is);
  apart = λ i k a b is. no-let i k is;
}
  where
    no-let : (i k : ℕ) → one_of (codes "h") (codes "i") i ≡ one_of (codes "l") (codes "m") k → ⊥
    no-let zero zero is = other-heads 104 108 [] [] (λ e. absurd (omega (arith, e))) is
    no-let zero (suc k) is = other-heads 104 109 [] [] (λ e. absurd (omega (arith, e))) is
    no-let (suc i) zero is = other-heads 105 108 [] [] (λ e. absurd (omega (arith, e))) is
    no-let (suc i) (suc k) is = other-heads 105 109 [] [] (λ e. absurd (omega (arith, e))) is

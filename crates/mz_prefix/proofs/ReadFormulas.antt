-- The formulas that are printed mean the expressions.
use Rattle.std.proofs.Common.{◌≡◌, ◌∙◌, ◌<◌, ◌≤◌, ◌+◌, ◌++◌, ℕ, List, [], ◌∷◌, length, true, Some, ap, ap₂, sym, refl, subst, inl, inr, arith, get_or}
use Rattle.std.specs.Prelude.{⊤, slice_get, IsTrue, codes, not, Contains, ◌==◌, ◌&&◌, ◌||◌}
use Rattle.std.specs.List.{list_all}
use Rattle.std.proofs.lemmas.Bool.{and_parts, and_from, or_cases, or_left, eqb-true, ne_eqb, leb-true, le-leb, false≢true}
use Rattle.std.proofs.lemmas.Option.{get_or_from_slice_get}
use Rattle.mz_base.specs.Checks.{AllHold}
use Rattle.mz_base.proofs.Offered.{all_hold-both, retold-holds}
use Rattle.mz_base.specs.Identifiers.{is_name, is_name_start, is_name_byte, is_between}
use Rattle.mz_lex.specs.Kinds.{is_space, is_math_byte, is_allowed, inside_of}
use Rattle.mz_logic_theory.specs.Tree.{Tree, Trees, var, app, none, more}
use Rattle.mz_logic_theory.specs.Declaration.{sorts, signatures}
use Rattle.mz_logic_theory.specs.Sorts.{HasSort}
use Rattle.mz_logic_theory.specs.Legality.{InRange, AllInRange}
use Rattle.mz_logic_theory.specs.declared.binder.Binder.{Binder}
use Rattle.mz_logic_theory.proofs.Offered.{range_of_sort}
use Rattle.mz_lex.specs.declared.tokens.MathToken.{MathToken}
use Rattle.mz_math_theory.specs.declared.wanted.Wanted.{Wanted}
use Rattle.mz_lex.specs.MathTokens.{no_delimiters}
use Rattle.mz_math_theory.specs.Formula.{words, IsFormula}
use Rattle.mz_prefix.specs.Lines.{Tokens, math_text}
use Rattle.mz_prefix.specs.Plain.{is_token_byte, IsToken, AreTokens as AllTokens}
use Rattle.mz_prefix.specs.Prefix.{operand_tokens, enclosed, IsSpoken, IsOfWanted, IsShort}
use Rattle.mz_prefix.proofs.PrintFormulas.{prefix-meant}
use Rattle.mz_base.specs.Names.{number_of}
use Rattle.mz_spec_theory.specs.View.{Variable, Formula}
use Rattle.mz_spec_theory.specs.State.{State, scope_of, reader_of}
use Rattle.mz_spec_theory.specs.Formulas.{IsMeant, AreTokens, strings_checks, string_checks, math_of, told}
use Rattle.mz_prefix.specs.NamedDeclarations.{Vocabulary, HasVariables, formula_of}
use Rattle.mz_prefix.proofs.Shown.{names_from, length-names, name-there}

-- ---- the state behind declarations that are printed

pub record IsBehind (v : Vocabulary) (n : ℕ) (σ : State) : Type 0 where
  pub sorts_many : length σ.sort_names ≡ length (sorts σ.env)
  pub terms_many : length σ.term_names ≡ length (signatures σ.env)
  pub spans_many : length σ.spans ≡ length σ.env
  pub sort_at : (i : ℕ) → i < length σ.sort_names → get_or σ.sort_names i [] ≡ v.sort i
  pub term_at : (t : ℕ) → t < length σ.term_names → get_or σ.term_names t [] ≡ v.term t
  pub sort_number : (i : ℕ) → i < length (sorts σ.env) → number_of σ.sort_names (v.sort i) ≡ Some i
  pub sort_name : (i : ℕ) → i < length (sorts σ.env) → IsTrue (is_name (v.sort i))
  pub term_found : (t : ℕ) → t < length (signatures σ.env) → Contains σ.table.names (record { name = v.term t; term = t })
  pub term_name : (t : ℕ) → t < length (signatures σ.env) → IsTrue (is_name (v.term t))
  pub apart : (x t : ℕ) → x < n → t < length (signatures σ.env) → v.variable x ≡ v.term t → ⊥
  pub delimiters : σ.table.delimiters ≡ no_delimiters
  pub leading : σ.table.leading ≡ []

-- ---- tokens

-- a byte of a name is one of 48 to 122
name-range : (c : ℕ) → is_name_byte c ≡ true → (48 ≤ c) × (c ≤ 122)
name-range c is =
    elim (or_cases (is_name_start c) (is_between 48 57 c) is) [
      | inl start ↦ elim (or_cases (is_between 97 122 c || is_between 65 90 c) (c == 95) start) [
        | inl letter ↦ elim (or_cases (is_between 97 122 c) (is_between 65 90 c) letter) [
          | inl small ↦ (let parts = and_parts _ _ small in let low = leb-true 97 c parts.0 in let high = leb-true c 122 parts.1 in (omega arith, omega arith))
          | inr large ↦ (let parts = and_parts _ _ large in let low = leb-true 65 c parts.0 in let high = leb-true c 90 parts.1 in (omega arith, omega arith))
        ]
        | inr line ↦ (let same = eqb-true c 95 line in (omega arith, omega arith))
      ]
      | inr digit ↦ (let parts = and_parts _ _ digit in let low = leb-true 48 c parts.0 in let high = leb-true c 57 parts.1 in (omega arith, omega arith))
    ]

token-byte : (c : ℕ) → is_name_byte c ≡ true → is_token_byte c ≡ true
token-byte c is =
    let (low, high) = name-range c is in
    and_from (is_math_byte c) (not (is_space c))
    (and_from (is_allowed c) (not (c == 36)) (or_left _ _ (and_from _ _ (le-leb 32 c (omega arith)) (le-leb c 126 (omega arith)))) (ap not (ne_eqb c 36 (λ e. absurd (omega arith)))))
    (ap₂ (λ a b. not (a || b)) (ne_eqb c 32 (λ e. absurd (omega arith))) (ne_eqb c 10 (λ e. absurd (omega arith))))

token-bytes : (cs : List ℕ) → list_all is_name_byte cs ≡ true → list_all is_token_byte cs ≡ true
token-bytes [] all = refl
token-bytes (c ∷ cs) all = let parts = and_parts (is_name_byte c) (list_all is_name_byte cs) all in and_from _ _ (token-byte c parts.0) (token-bytes cs parts.1)

pub name-is_token : (w : List ℕ) → is_name w ≡ true → IsToken w
name-is_token [] is = absurd (false≢true is)
name-is_token (c ∷ cs) is =
    let parts = and_parts _ _ (and_parts (is_name_start c && list_all is_name_byte cs) _ is).0 in
    ((λ e. absurd cc), and_from _ _ (token-byte c (or_left (is_name_start c) _ parts.0)) (token-bytes cs parts.1))

tokens-append : (ts us : Tokens) → AllTokens ts → AllTokens us → AllTokens (ts ++ us)
tokens-append [] us a b = b
tokens-append (t ∷ ts) us a b = (a.0, tokens-append ts us a.1 b)

module _ (v : Vocabulary) (n : ℕ) (variables : HasVariables v n) (σ : State) (behind : IsBehind v n σ) where
  mutual
    pub tokens-are : (m : ℕ) → m ≤ n → (e : Tree) → InRange (signatures σ.env) m e → AllTokens (formula_of v e)
    tokens-are m few (var x) range = (name-is_token (v.variable x) (variables.names x (omega arith)), tt)
    tokens-are m few (app t es) range = (name-is_token (v.term t) (behind.term_name t range.0), operands-are m few es range.2)

    operands-are : (m : ℕ) → m ≤ n → (es : Trees) → AllInRange (signatures σ.env) m es → AllTokens (operand_tokens v.term v.variable es)
    operands-are m few none range = tt
    operands-are m few (more e es) range = tokens-append _ _ (enclosed-are m few e range.0) (operands-are m few es range.1)

    enclosed-are : (m : ℕ) → m ≤ n → (e : Tree) → InRange (signatures σ.env) m e → AllTokens (enclosed v.term v.variable e)
    enclosed-are m few (var x) range = (name-is_token (v.variable x) (variables.names x (omega arith)), tt)
    enclosed-are m few (app t none) range = (name-is_token (v.term t) (behind.term_name t range.0), tt)
    enclosed-are m few (app t (more e es)) range = (
      ((λ e. absurd cc), refl),
      (
        name-is_token (v.term t) (behind.term_name t range.0),
        tokens-append (enclosed v.term v.variable e ++ operand_tokens v.term v.variable es) (codes ")" ∷ [])
            (tokens-append _ _ (enclosed-are m few e range.2.0) (operands-are m few es range.2.1)) (((λ e. absurd cc), refl), tt),
      ),
    )

  -- ---- what is read over the variables of a statement

  pub record IsOver (vs : List Variable) (ctx : List Binder) : Type 0 where
    pub names : (scope_of σ vs).names ≡ names_from v 0 (length ctx)
    pub binders : (scope_of σ vs).binders ≡ ctx

  name-is : (vs : List Variable) (ctx : List Binder) → IsOver vs ctx → (x : ℕ) → x < length (scope_of σ vs).names → (x < length ctx) × (slice_get (scope_of σ vs).names x ≡ Some (v.variable x))
  name-is vs ctx over x less =
      let small : x < length ctx = omega (arith, ap length over.names, length-names v 0 (length ctx)) in
      let place : 0 + x ≡ x = omega arith in
      (small, ap (λ ns. slice_get ns x) over.names ∙ name-there v (length ctx) 0 x small ∙ ap (λ y. Some (v.variable y)) place)

  some-name : (x : ℕ) → x < n → v.variable x ≡ [] → ⊥
  some-name x less is = false≢true (ap is_name (sym is) ∙ variables.names x less)

  spoken : (vs : List Variable) (ctx : List Binder) → IsOver vs ctx → length ctx ≤ n → IsSpoken (words (reader_of σ vs)) v.term v.variable
  spoken vs ctx over few = record {
    plain = behind.leading;
    variables = λ x less. let (small, at) = name-is vs ctx over x less in (some-name x (omega arith), at);
    terms = λ t less. (record { name = v.term t; term = t }, behind.term_found t less, refl, refl);
    apart = λ t less (some, (k, there, is)). let (small, at) = name-is vs ctx over k there in
        behind.apart k t (omega arith) less (sym (get_or_from_slice_get (scope_of σ vs).names k (v.variable k) (v.term t) at) ∙ is);
  }

  pub formula-meant : (vs : List Variable) (ctx : List Binder) → IsOver vs ctx → length ctx ≤ n → (wanted : Wanted) (e : Tree) (s : ℕ) → HasSort (signatures σ.env) ctx e s
      → IsOfWanted (reader_of σ vs) wanted s → IsShort (formula_of v e) e → IsFormula (reader_of σ vs) wanted (inside_of (math_text (formula_of v e))) e
  formula-meant vs ctx over few wanted e s sorted fits short =
      let P : List Binder → Type 0 = λ bs. HasSort (signatures σ.env) bs e s in
      prefix-meant (reader_of σ vs) wanted v.term v.variable e s (record { delimiters = behind.delimiters; leading = behind.leading }) (spoken vs ctx over few)
      (ap length over.names ∙ length-names v 0 (length ctx) ∙ sym (ap length over.binders)) (subst P (sym over.binders) sorted) fits
      (tokens-are (length ctx) few e (range_of_sort (signatures σ.env) ctx e s sorted)) short

-- ---- string by string

abbrev pub AllMeant : State → List Variable → List Formula → Type 0
AllMeant σ vs [] = ⊤
AllMeant σ vs (f ∷ fs) = ((e : Tree) × IsMeant σ vs f e) × AllMeant σ vs fs

pub strung : (σ : State) (vs : List Variable) (fs : List Formula) → AllMeant σ vs fs → (tokens : List (List MathToken)) × AreTokens σ fs tokens × AllHold (strings_checks σ vs fs tokens)
strung σ vs [] meant = ([], tt, tt)
strung σ vs (f ∷ fs) ((e, (ps, pieces, holds, means)), rest) =
    let further = strung σ vs fs rest in
    (ps ∷ further.0, (pieces, further.1), all_hold-both (string_checks σ vs f ps) (strings_checks σ vs fs further.0) (retold-holds (told (math_of f)) _ holds) further.2)

-- What is written of a list, part by part: so far, with what is left, it is the whole.
use Rattle.std.proofs.Common.{◌≡◌, ◌≤◌, ◌<◌, ◌+◌, ◌++◌, ◌∙◌, ℕ, suc, true, false, List, [], ◌∷◌, length, get_or, drop, map, refl, sym, ap, append_assoc, append-nil, add-one, arith}
use Rattle.std.specs.Prelude.{codes}
use Rattle.std.proofs.lemmas.List.{drop_more, drop_all}
use Rattle.mz_base.proofs.Offered.{one-further}
use Rattle.mz_logic_theory.specs.Tree.{Tree, Trees, var, app, none, more}
use Rattle.mz_logic_theory.specs.declared.binder.Binder.{Binder}
use Rattle.mz_spec_theory.specs.Statement.{opening_of, closing_of}
use Rattle.mz_prefix.specs.Tokens.{written}
use Rattle.mz_prefix.specs.Lines.{Tokens, spaced, mark, spaced_mark, dep_words, type_words, binder_words, binders_words, hyp_words, hyps_words, math_word}
use Rattle.mz_prefix.specs.Prefix.{enclosed, operand_tokens}
use Rattle.mz_prefix.proofs.PlainLines.{written-append}
use Rattle.mz_prefix.specs.Measures.{has_operands}
use Rattle.mz_prefix.specs.NamedDeclarations.{Vocabulary, formula_of, formulas_of, plain_type, plain_param, plain_dummy, plain_binders, plain_dummies}

-- a part is written, behind which the rest stands
pub part-written : (whole out new here part rest : List ℕ) → here ≡ part ++ rest → out ++ here ≡ whole → new ≡ out ++ part → new ++ rest ≡ whole
part-written whole out new here part rest cut so_far added =
    ap (λ o. o ++ rest) added ∙ append_assoc out part rest ∙ sym (ap (λ t. out ++ t) cut) ∙ so_far

-- nothing is left
pub all-written : (whole out left : List ℕ) → left ≡ [] → out ++ left ≡ whole → out ≡ whole
all-written whole out left nothing so_far = sym (append-nil out) ∙ sym (ap (λ t. out ++ t) nothing) ∙ so_far

-- where the text of a list from its i-th part on is that part and the text of the rest
module _ {A : Type 0} (text : ℕ → List A → List ℕ) (part : ℕ → A → List ℕ) (cut : (i : ℕ) (x : A) (xs : List A) → text i (x ∷ xs) ≡ part i x ++ text (i + 1) xs) where
  pub part-added : (whole out new : List ℕ) (xs : List A) (i : ℕ) (x : A) → i < length xs → x ≡ get_or xs i x
      → out ++ text i (drop i xs) ≡ whole → new ≡ out ++ part i x → new ++ text (i + 1) (drop (i + 1) xs) ≡ whole
  part-added whole out new xs i x below is =
      part-written whole out new (text i (drop i xs)) (part i x) (text (i + 1) (drop (i + 1) xs))
      (ap (text i) (drop_more xs i x below) ∙ ap (λ y. text i (y ∷ drop (i + 1) xs)) (sym is) ∙ cut i x (drop (i + 1) xs))

  pub parts-end : (whole out : List ℕ) (xs : List A) (i : ℕ) → length xs ≤ i → text i [] ≡ [] → out ++ text i (drop i xs) ≡ whole → out ≡ whole
  parts-end whole out xs i past nothing = all-written whole out (text i (drop i xs)) (ap (text i) (drop_all i xs past) ∙ nothing)

-- ---- tokens

pub spaced-append : (ts us : Tokens) → spaced (ts ++ us) ≡ spaced ts ++ spaced us
spaced-append [] us = refl
spaced-append (t ∷ ts) us = ap (λ r. t ++ (32 ∷ r)) (spaced-append ts us) ∙ sym (append_assoc t (32 ∷ spaced ts) (spaced us))

module _ (v : Vocabulary) where
  -- dependencies
  abbrev pub deps_text : ℕ → List ℕ → List ℕ
  deps_text i xs = written (dep_words (map v.variable xs))

  abbrev pub dep_text : ℕ → ℕ → List ℕ
  dep_text i x = 32 ∷ v.variable x

  pub deps-cut : (i x : ℕ) (xs : List ℕ) → deps_text i (x ∷ xs) ≡ dep_text i x ++ deps_text (i + 1) xs
  deps-cut i x xs = refl

  -- parameters
  abbrev pub params_text : ℕ → List Binder → List ℕ
  params_text i bs = written (binders_words (plain_binders v i bs []))

  abbrev pub param_text : ℕ → Binder → List ℕ
  param_text i b = written (binder_words (plain_param v i b))

  pub params-cut : (i : ℕ) (b : Binder) (bs : List Binder) → params_text i (b ∷ bs) ≡ param_text i b ++ params_text (i + 1) bs
  params-cut i b bs = rw add-one (written-append (binder_words (plain_param v i b)) (binders_words (plain_binders v (suc i) bs [])))

  -- dummies behind so many parameters
  abbrev pub dummies_text : ℕ → ℕ → List Binder → List ℕ
  dummies_text first i ds = written (binders_words (plain_dummies v (first + i) ds))

  abbrev pub dummy_text : ℕ → ℕ → Binder → List ℕ
  dummy_text first i d = written (binder_words (plain_dummy v (first + i) d))

  suc-add : (m n : ℕ) → suc (m + n) ≡ m + (n + 1)
  suc-add m n = omega arith

  pub dummies-cut : (first i : ℕ) (d : Binder) (ds : List Binder) → dummies_text first i (d ∷ ds) ≡ dummy_text first i d ++ dummies_text first (i + 1) ds
  dummies-cut first i d ds =
      written-append (binder_words (plain_dummy v (first + i) d)) (binders_words (plain_dummies v (suc (first + i)) ds))
      ∙ ap (λ n. dummy_text first i d ++ written (binders_words (plain_dummies v n ds))) (suc-add first i)

  -- hypotheses
  abbrev pub hyps_text : Trees → List ℕ
  hyps_text es = written (hyps_words (formulas_of v es))

  abbrev pub hyp_text : Tree → List ℕ
  hyp_text e = written (hyp_words (formula_of v e))

  pub hyps-cut : (es rest : Trees) (e : Tree) → es ≡ more e rest → hyps_text es ≡ hyp_text e ++ hyps_text rest
  hyps-cut es rest e is = ap hyps_text is ∙ written-append (hyp_words (formula_of v e)) (hyps_words (formulas_of v rest))

  -- operands
  abbrev pub operands_text : Trees → List ℕ
  operands_text es = spaced (operand_tokens v.term v.variable es)

  abbrev pub operand_text : Tree → List ℕ
  operand_text e = spaced (enclosed v.term v.variable e)

  pub operands-cut : (es rest : Trees) (e : Tree) → es ≡ more e rest → operands_text es ≡ operand_text e ++ operands_text rest
  operands-cut es rest e is = ap operands_text is ∙ spaced-append (enclosed v.term v.variable e) (operand_tokens v.term v.variable rest)

-- ---- operands in parentheses

module _ (v : Vocabulary) where
  pub alone-is : (e : Tree) → has_operands e ≡ false → enclosed v.term v.variable e ≡ formula_of v e
  alone-is (app t (more e es)) has = absurd (let h : true ≡ false = has in cc)
  alone-is _ has = refl

  pub enclosed-is : (e : Tree) → has_operands e ≡ true → spaced (enclosed v.term v.variable e) ≡ 40 ∷ (32 ∷ (spaced (formula_of v e) ++ (41 ∷ 32 ∷ [])))
  enclosed-is (app t (more e es)) has = ap (λ r. 40 ∷ (32 ∷ r)) (spaced-append (formula_of v (app t (more e es))) ((41 ∷ []) ∷ []))
  enclosed-is _ has = absurd (let h : false ≡ true = has in cc)

-- ---- parts of a line

module _ (v : Vocabulary) where
  pub param-is : (x : ℕ) (b : Binder) (o c : ℕ) → o ∷ [] ≡ opening_of b.bound → c ∷ [] ≡ closing_of b.bound
      → written (binder_words (plain_param v x b)) ≡ 32 ∷ (o ∷ (v.variable x ++ (58 ∷ (written (type_words (plain_type v b.sort b.deps)) ++ (c ∷ [])))))
  param-is x b o c opens closes =
      let t = type_words (plain_type v b.sort b.deps) in
      ap (λ w. 32 ∷ (w ++ (v.variable x ++ (58 ∷ written (t ++ mark (closing_of b.bound) ∷ []))))) (sym opens)
      ∙ ap (λ w. 32 ∷ (o ∷ (v.variable x ++ (58 ∷ w)))) (written-append t (mark (closing_of b.bound) ∷ []) ∙ ap (λ w. written t ++ (w ++ [])) (sym closes))

  pub dummy-is : (x : ℕ) (b : Binder)
      → written (binder_words (plain_dummy v x b)) ≡ 32 ∷ (123 ∷ (46 ∷ (v.variable x ++ (58 ∷ (written (type_words (plain_type v b.sort [])) ++ (125 ∷ []))))))
  dummy-is x b = ap (λ w. 32 ∷ (123 ∷ (46 ∷ (v.variable x ++ (58 ∷ w))))) (written-append (type_words (plain_type v b.sort [])) (mark (codes "}") ∷ []))

pub hyp-is : (h : Tokens) → written (hyp_words h) ≡ written (math_word h ∷ []) ++ (32 ∷ 62 ∷ [])
hyp-is h = written-append (math_word h ∷ []) (spaced_mark (codes ">") ∷ [])

-- six parts, one after the other
pub six-parts : (old a b c d e f name type : List ℕ) (o k : ℕ) → a ≡ old ++ 32 ∷ [] → b ≡ a ++ o ∷ [] → c ≡ b ++ name → d ≡ c ++ 58 ∷ [] → e ≡ d ++ type → f ≡ e ++ k ∷ []
    → f ≡ old ++ (32 ∷ (o ∷ (name ++ (58 ∷ (type ++ (k ∷ []))))))
six-parts old a b c d e f name type o k is-a is-b is-c is-d is-e is-f = is-f ∙ rw is-e (rw is-d (rw is-c (rw is-b (rw is-a (simp append_assoc)))))

-- ---- binders

no-more : (n : ℕ) → n ≡ n + 0
no-more n = omega arith

none-before : (n : ℕ) → 0 + n ≡ n
none-before n = omega arith

joined : (a b c d : List ℕ) → a ≡ b ++ c → d ++ a ≡ (d ++ b) ++ c
joined a b c d is = ap (λ w. d ++ w) is ∙ sym (append_assoc d b c)

module _ (v : Vocabulary) where
  -- dummies stand behind the parameters
  binders-split : (x : ℕ) (ps ds : List Binder)
      → written (binders_words (plain_binders v x ps ds)) ≡ written (binders_words (plain_binders v x ps [])) ++ written (binders_words (plain_dummies v (x + length ps) ds))
  binders-split x [] ds = ap (λ n. written (binders_words (plain_dummies v n ds))) (no-more x)
  binders-split x (p ∷ ps) ds =
      let param = binder_words (plain_param v x p) in
      written-append param (binders_words (plain_binders v (suc x) ps ds))
      ∙ joined _ (written (binders_words (plain_binders v (suc x) ps []))) (written (binders_words (plain_dummies v (suc x + length ps) ds))) (written param) (binders-split (suc x) ps ds)
      ∙ ap (λ n. (written param ++ written (binders_words (plain_binders v (suc x) ps []))) ++ written (binders_words (plain_dummies v n ds))) (one-further x (length ps))
      ∙ ap (λ w. w ++ written (binders_words (plain_dummies v (x + suc (length ps)) ds))) (sym (written-append param (binders_words (plain_binders v (suc x) ps []))))

  pub binders-are : (ps ds : List Binder)
      → written (binders_words (plain_binders v 0 ps ds)) ≡ written (binders_words (plain_binders v 0 ps [])) ++ written (binders_words (plain_dummies v (length ps) ds))
  binders-are ps ds = binders-split 0 ps ds ∙ ap (λ n. written (binders_words (plain_binders v 0 ps [])) ++ written (binders_words (plain_dummies v n ds))) (none-before (length ps))

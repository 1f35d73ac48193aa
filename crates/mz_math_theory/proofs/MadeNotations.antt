-- Each statement on notations is of its form or not, and its table stays clear or not.
use Rattle.std.proofs.Common.{◌≡◌, ◌≢◌, ◌<◌, ◌⊎◌, ◌∙◌, ℕ, zero, suc, List, [], ◌∷◌, Option, Some, None, Bool, true, length, ap, ap₂, sym, refl, subst, inl, inr, arith, slice_get}
use Rattle.std.specs.Prelude.{⊤, ◌==◌, codes, slice_range}
use Rattle.std.specs.List.{count_by}
use Rattle.std.proofs.lemmas.Option.{slice_get_within, same_Some, none-some}
use Rattle.mz_base.proofs.Offered.{same-head as heads, same-tail as tails, nil-cons, not-decided, three-decided, some-decided, Decided, all_hold-or_fails, at_most-decided, both-decided, bytes-decided}
use Rattle.mz_base.specs.Checks.{AllHold, FailsFirst}
use Rattle.mz_logic_theory.specs.Signature.{Signature}
use Rattle.mz_logic_theory.specs.declared.binder.Binder.{Binder}
use Rattle.mz_logic_theory.specs.declared.binder.ResultType.{ResultType}
use Rattle.mz_lex.specs.MathTokens.{MathTokens, token_text, IsConstant}
use Rattle.mz_lex.specs.declared.tokens.Delimiters.{Delimiters}
use Rattle.mz_lex.specs.declared.tokens.MathToken.{MathToken}
use Rattle.mz_math_theory.specs.Notation.{level_of, places, infixed, prefixed, Table, with_notation}
use Rattle.mz_math_theory.specs.declared.notation.Element.{Element}
use Rattle.mz_math_theory.specs.declared.notation.Element.TheVariants.{Fixed as fixed, Slot as slot}
use Rattle.mz_math_theory.specs.declared.notation.Notation.{Notation}
use Rattle.mz_math_theory.specs.Kept.{IsTable}
use Rattle.mz_math_theory.specs.Forms.{IsInfix, IsPrefix, IsSpan, IsElement, AreElements, EachOnce, Begins, General, IsGeneral, notation_checks}
use Rattle.mz_math_theory.specs.declared.literal.Literal.{Literal}
use Rattle.mz_math_theory.specs.declared.literal.Literal.TheVariants.{Constant as constant, Name as name}
use Rattle.mz_math_theory.specs.declared.literal.Tail.{Tail}
use Rattle.mz_math_theory.specs.declared.fault.NoteFault.{NoteFault}
use Rattle.mz_math_theory.specs.NotationAnswers.{IsClearTable}
use Rattle.mz_lex.proofs.Offered.{math_tokens-one}
use Rattle.mz_math_theory.proofs.Tables.{constant-one, infix-one, prefix-one, begins-one}
use Rattle.mz_math_theory.proofs.Deciding.{equal-decided, true-decided}
use Rattle.mz_math_theory.proofs.Existing.{some-math_tokens}
use Rattle.mz_math_theory.proofs.StayingClear.{clear-decided}

-- ---- options, numbers and lists

pub some-with : {A : Type 0} → (Q : A → Type 0) → ((x : A) → Decided (Q x)) → (o : Option A) → Decided ((x : A) × (o ≡ Some x) × Q x)
some-with Q d None = inr (λ h. none-some _ h.1)
some-with Q d (Some x) = elim (d x) [ inl q ↦ inl (x, refl, q) | inr out ↦ inr (λ h. out (subst Q (sym (same_Some _ _ h.1)) h.2)) ]

some-equal : {A : Type 0} → (x : A) → ((y : A) → Decided (y ≡ x)) → (o : Option A) → Decided (o ≡ Some x)
some-equal x d None = inr (none-some _)
some-equal x d (Some y) = elim (d y) [ inl same ↦ inl (ap Some same) | inr out ↦ inr (λ e. out (same_Some _ _ e)) ]

-- one that has the fact, of two that are the same
one-with : {A : Type 0} → (P Q : A → Type 0) → ((x y : A) → P x → P y → x ≡ y) → ((x : A) → Decided (Q x)) → Decided ((x : A) × P x) → Decided ((x : A) × P x × Q x)
one-with P Q one d (inr out) = inr (λ h. out (h.0, h.1))
one-with P Q one d (inl (x, p)) = elim (d x) [ inl q ↦ inl (x, p, q) | inr out ↦ inr (λ h. out (subst Q (one h.0 x h.1 p) h.2)) ]

some-below : (P : ℕ → Type 0) → ((i : ℕ) → Decided (P i)) → (n : ℕ) → Decided ((i : ℕ) × (i < n) × P i)
some-below P d zero = inr (λ h. let below = h.1 in absurd (omega (arith, below)))
some-below P d (suc n) = go (d n) (some-below P d n)
  where
    go : Decided (P n) → Decided ((i : ℕ) × (i < n) × P i) → Decided ((i : ℕ) × (i < suc n) × P i)
    go (inl p) rest = inl (n, omega arith, p)
    go (inr out) (inl (i, below, p)) = inl (i, omega (arith, below), p)
    go (inr out) (inr never) = inr no
      where
        no : (i : ℕ) × (i < suc n) × P i → ⊥
        no (i, below, p) = elim (equal-decided i n) [
          | inl same ↦ out (subst P same p)
          | inr differs ↦ never (i, omega (arith, below, differs), p)
        ]

all-below : (P : ℕ → Type 0) → ((i : ℕ) → Decided (P i)) → (n : ℕ) → Decided ((i : ℕ) → i < n → P i)
all-below P d n = elim (some-below (λ i. P i → ⊥) (λ i. not-decided (d i)) n) [
  | inl h ↦ inr (λ all. h.2 (all h.0 h.1))
  | inr none ↦ inl (λ i below. elim (d i) [ inl p ↦ p | inr out ↦ absurd (none (i, below, out)) ])
]

lists-decided : {A : Type 0} → ((x y : A) → Decided (x ≡ y)) → (xs ys : List A) → Decided (xs ≡ ys)
lists-decided d [] [] = inl refl
lists-decided d [] (y ∷ ys) = inr nil-cons
lists-decided d (x ∷ xs) [] = inr (λ e. nil-cons (sym e))
lists-decided d (x ∷ xs) (y ∷ ys) = elim (both-decided (d x y) (lists-decided d xs ys)) [
  | inl both ↦ inl (ap₂ ◌∷◌ both.0 both.1)
  | inr out ↦ inr (λ e. out (heads e, tails e))
]

-- ---- signatures

binder-decided : (a b : Binder) → Decided (a ≡ b)
binder-decided a b = elim (three-decided (equal-decided a.sort b.sort) (true-decided a.bound b.bound) (bytes-decided a.deps b.deps)) [
  | inl all ↦ inl (same a b all.0 all.1 all.2)
  | inr out ↦ inr (λ e. out (ap (λ (x : Binder). x.sort) e, ap (λ (x : Binder). x.bound) e, ap (λ (x : Binder). x.deps) e))
]
  where
    same : (x y : Binder) → x.sort ≡ y.sort → x.bound ≡ y.bound → x.deps ≡ y.deps → x ≡ y
    same x y sort bound deps = ap₂ (λ s b. record x { sort = s; bound = b }) sort bound ∙ ap (λ ds. record y { deps = ds }) deps

result-decided : (a b : ResultType) → Decided (a ≡ b)
result-decided a b = elim (both-decided (equal-decided a.sort b.sort) (bytes-decided a.deps b.deps)) [
  | inl both ↦ inl (same a b both.0 both.1)
  | inr out ↦ inr (λ e. out (ap (λ (x : ResultType). x.sort) e, ap (λ (x : ResultType). x.deps) e))
]
  where
    same : (x y : ResultType) → x.sort ≡ y.sort → x.deps ≡ y.deps → x ≡ y
    same x y sort deps = ap₂ (λ s ds. record x { sort = s; deps = ds }) sort deps

signature-decided : (a b : Signature) → Decided (a ≡ b)
signature-decided a b = elim (both-decided (lists-decided binder-decided a.params b.params) (result-decided a.result b.result)) [
  | inl both ↦ inl (same a b both.0 both.1)
  | inr out ↦ inr (λ e. out (ap (λ (x : Signature). x.params) e, ap (λ (x : Signature). x.result) e))
]
  where
    same : (x y : Signature) → x.params ≡ y.params → x.result ≡ y.result → x ≡ y
    same x y params result = ap₂ (λ ps r. record x { params = ps; result = r }) params result

-- ---- constants

constant-decided : (d : Delimiters) (text : List ℕ) → Decided ((w : List ℕ) × IsConstant d text w)
constant-decided d text = go (some-math_tokens d text)
  where
    one : (p q : MathToken) (ps : List MathToken) → p ∷ ps ≡ q ∷ [] → p ≡ q
    one p q ps e = heads e

    go : (ps : List MathToken) × MathTokens d text ps → Decided ((w : List ℕ) × IsConstant d text w)
    go ([], pieces) = inr no
      where
        no : (w : List ℕ) × IsConstant d text w → ⊥
        no (w, (q, others, is, open_, close)) = nil-cons (math_tokens-one d text 0 [] (q ∷ []) pieces others)
    go (p ∷ r ∷ ps, pieces) = inr no
      where
        no : (w : List ℕ) × IsConstant d text w → ⊥
        no (w, (q, others, is, open_, close)) = nil-cons (sym (tails (math_tokens-one d text 0 (p ∷ r ∷ ps) (q ∷ []) pieces others)))
    go (p ∷ [], pieces) = told (both-decided (not-decided (bytes-decided (token_text text p) (codes "("))) (not-decided (bytes-decided (token_text text p) (codes ")"))))
      where
        told : Decided ((token_text text p ≢ codes "(") × (token_text text p ≢ codes ")")) → Decided ((w : List ℕ) × IsConstant d text w)
        told (inl both) = inl (token_text text p, (p, pieces, refl, both.0, both.1))
        told (inr out) = inr no
          where
            no : (w : List ℕ) × IsConstant d text w → ⊥
            no (w, (q, others, is, open_, close)) =
                let same : w ≡ token_text text p = is ∙ ap (token_text text) (sym (one p q [] (math_tokens-one d text 0 (p ∷ []) (q ∷ []) pieces others))) in
                out ((λ e. open_ (same ∙ e)), (λ e. close (same ∙ e)))

-- ---- infix and prefix

module _ (sigs : List Signature) (d : Delimiters) (term : ℕ) (text : List ℕ) (level : Option ℕ) where
  infix-decided : (right : Bool) → Decided ((k : Notation) × IsInfix sigs d term text level right k)
  infix-decided right = go (both-decided (constant-decided d text) (some-with (λ s. length s.params ≡ 2) (λ s. equal-decided (length s.params) 2) (slice_get sigs term)))
    where
      go : Decided (((w : List ℕ) × IsConstant d text w) × ((s : Signature) × (slice_get sigs term ≡ Some s) × (length s.params ≡ 2))) → Decided ((k : Notation) × IsInfix sigs d term text level right k)
      go (inl ((w, con), (s, at, two))) = inl (infixed term w (level_of level) right, (w, s, con, at, two, refl))
      go (inr out) = inr no
        where
          no : (k : Notation) × IsInfix sigs d term text level right k → ⊥
          no (k, (w, s, con, at, two, is)) = out ((w, con), (s, at, two))

  prefix-decided : Decided ((k : Notation) × IsPrefix sigs d term text level k)
  prefix-decided = go (both-decided (constant-decided d text) (some-decided (slice_get sigs term)))
    where
      go : Decided (((w : List ℕ) × IsConstant d text w) × ((s : Signature) × (slice_get sigs term ≡ Some s))) → Decided ((k : Notation) × IsPrefix sigs d term text level k)
      go (inl ((w, con), (s, at))) = inl (prefixed term (length s.params) w (level_of level), (w, s, con, at, refl))
      go (inr out) = inr no
        where
          no : (k : Notation) × IsPrefix sigs d term text level k → ⊥
          no (k, (w, s, con, at, is)) = out ((w, con), (s, at))

-- ---- the elements of a general notation

span-decided : (text : List ℕ) (from to : ℕ) → Decided (IsSpan text from to)
span-decided text from to = both-decided (at_most-decided from to) (at_most-decided to (length text))

nonempty-decided : (w : List ℕ) → Decided (w ≢ [])
nonempty-decided w = not-decided (bytes-decided w [])

module _ (d : Delimiters) (names : List (List ℕ)) (text : List ℕ) where
  -- a literal stands for an element that has a fact
  module _ (Q : Element → Type 0) (dec : (e : Element) → Decided (Q e)) (from to : ℕ) where
    abbrev part : List ℕ
    part = slice_range text from to

    abbrev Placed : ℕ → Type 0
    Placed i = (slice_get names i ≡ Some part) × Q (slot i)

    placed-decided : (i : ℕ) → Decided (Placed i)
    placed-decided i = both-decided (some-equal part (λ v. bytes-decided v part) (slice_get names i)) (dec (slot i))

    name-with : Decided ((e : Element) × IsElement d names text (name from to) e × Q e)
    name-with = go (three-decided (span-decided text from to) (nonempty-decided part) (some-below Placed placed-decided (length names)))
      where
        go : Decided (IsSpan text from to × (part ≢ []) × ((i : ℕ) × (i < length names) × Placed i)) → Decided ((e : Element) × IsElement d names text (name from to) e × Q e)
        go (inl (span, some, (i, below, (at, q)))) = inl (slot i, (i, span, some, at, refl), q)
        go (inr out) = inr (λ h. no h.0 h.1 h.2)
          where
            no : (e : Element) → IsElement d names text (name from to) e → Q e → ⊥
            no e (i, span, some, at, is) q = out (span, some, (i, slice_get_within names i part at, (at, subst Q is q)))

    constant-with : (level : Option ℕ) → Decided ((e : Element) × IsElement d names text (constant from to level) e × Q e)
    constant-with level = go (both-decided (span-decided text from to) (one-with (IsConstant d part) (λ w. Q (fixed w (level_of level))) (constant-one d part) (λ w. dec (fixed w (level_of level))) (constant-decided d part)))
      where
        go : Decided (IsSpan text from to × ((w : List ℕ) × IsConstant d part w × Q (fixed w (level_of level)))) → Decided ((e : Element) × IsElement d names text (constant from to level) e × Q e)
        go (inl (span, (w, con, q))) = inl (fixed w (level_of level), (w, span, con, refl), q)
        go (inr out) = inr (λ h. no h.0 h.1 h.2)
          where
            no : (e : Element) → IsElement d names text (constant from to level) e → Q e → ⊥
            no e (w, span, con, is) q = out (span, (w, con, subst Q is q))

  element-with : (Q : Element → Type 0) → ((e : Element) → Decided (Q e)) → (l : Literal) → Decided ((e : Element) × IsElement d names text l e × Q e)
  element-with Q dec (constant from to level) = constant-with Q dec from to level
  element-with Q dec (name from to) = name-with Q dec from to

  abbrev Rest : (List Element → Type 0) → List Literal → Element → Type 0
  Rest Q ls e = (es : List Element) × AreElements d names text ls es × Q (e ∷ es)

  elements-with : (Q : List Element → Type 0) → ((es : List Element) → Decided (Q es)) → (ls : List Literal) → Decided ((es : List Element) × AreElements d names text ls es × Q es)
  elements-with Q dec [] = elim (dec []) [ inl q ↦ inl ([], tt, q) | inr out ↦ inr (λ h. no h.0 h.1 h.2 out) ]
    where
      no : (es : List Element) → AreElements d names text [] es → Q es → (Q [] → ⊥) → ⊥
      no [] are q out = out q
      no (e ∷ es) are q out = are
  elements-with Q dec (l ∷ ls) = go (element-with (Rest Q ls) (λ e. elements-with (λ es. Q (e ∷ es)) (λ es. dec (e ∷ es)) ls) l)
    where
      go : Decided ((e : Element) × IsElement d names text l e × Rest Q ls e) → Decided ((es : List Element) × AreElements d names text (l ∷ ls) es × Q es)
      go (inl (e, is, (es, are, q))) = inl (e ∷ es, (is, are), q)
      go (inr out) = inr (λ h. no h.0 h.1 h.2)
        where
          no : (es : List Element) → AreElements d names text (l ∷ ls) es → Q es → ⊥
          no [] are q = are
          no (e ∷ es) (is, are) q = out (e, is, (es, are, q))

-- ---- a general notation

once-decided : (n : ℕ) (es : List Element) → Decided (EachOnce n es)
once-decided n es = all-below (λ i. count_by (λ j. j == i) (places es) ≡ 1) (λ i. equal-decided (count_by (λ j. j == i) (places es)) 1) n

abbrev Begun : List Element → Option Tail → Type 0
Begun es tail = (level : ℕ) × (right : Bool) × Begins es tail level right

begins-decided : (es : List Element) (tail : Option Tail) → Decided (Begun es tail)
begins-decided [] tail = inr (λ h. h.2)
begins-decided (fixed w q ∷ es) None = inl (q, true, (refl, refl))
begins-decided (fixed w q ∷ es) (Some tail) = inr (λ h. h.2)
begins-decided (slot i ∷ []) tail = inr (λ h. h.2)
begins-decided (slot i ∷ slot j ∷ es) tail = inr (λ h. h.2)
begins-decided (slot i ∷ fixed w q ∷ es) None = inr (λ h. h.2)
begins-decided (slot i ∷ fixed w q ∷ es) (Some tail) = elim (equal-decided q (level_of tail.level)) [
  | inl same ↦ inl (q, tail.right, (same, refl, refl))
  | inr out ↦ inr (λ h. out h.2.0)
]

begins-with : (es : List Element) (tail : Option Tail) (Q : ℕ → Bool → Type 0) → ((level : ℕ) (right : Bool) → Decided (Q level right)) → Decided ((level : ℕ) × (right : Bool) × Begins es tail level right × Q level right)
begins-with es tail Q dec = go (begins-decided es tail)
  where
    go : Decided (Begun es tail) → Decided ((level : ℕ) × (right : Bool) × Begins es tail level right × Q level right)
    go (inr out) = inr (λ h. out (h.0, h.1, h.2))
    go (inl (level, right, begins)) = elim (dec level right) [ inl q ↦ inl (level, right, begins, q) | inr out ↦ inr (λ h. no out h.0 h.1 h.2 h.3) ]
      where
        no : (Q level right → ⊥) → (p : ℕ) (r : Bool) → Begins es tail p r → Q p r → ⊥
        no out p r other q = let same = begins-one es tail p level r right other begins in out (subst (Q level) same.1 (subst (λ x. Q x r) same.0 q))

module _ (sigs : List Signature) (d : Delimiters) (g : General) (Q : Notation → Type 0) (dec : (k : Notation) → Decided (Q k)) where
  abbrev made : List Element → ℕ → Bool → Notation
  made es level right = record { term = g.term; level = level; is_right = right; elements = es }

  abbrev Fits : List Element → Type 0
  Fits es = EachOnce (length g.binders) es × ((level : ℕ) × (right : Bool) × Begins es g.tail level right × Q (made es level right))

  fits-decided : (es : List Element) → Decided (Fits es)
  fits-decided es = both-decided (once-decided (length g.binders) es) (begins-with es g.tail (λ level right. Q (made es level right)) (λ level right. dec (made es level right)))

  abbrev Sign : Signature
  Sign = record { params = g.binders; result = g.result }

  general-with : Decided ((k : Notation) × IsGeneral sigs d g k × Q k)
  general-with = go (both-decided (some-equal Sign (λ s. signature-decided s Sign) (slice_get sigs g.term)) (elements-with d g.names g.text Fits fits-decided g.literals))
    where
      go : Decided ((slice_get sigs g.term ≡ Some Sign) × ((es : List Element) × AreElements d g.names g.text g.literals es × Fits es)) → Decided ((k : Notation) × IsGeneral sigs d g k × Q k)
      go (inl (at, (es, are, (once, (level, right, begins, q))))) =
          inl (made es level right, record { term = refl; signature = at; elements = are; once = once; begins = begins }, q)
      go (inr out) = inr (λ h. no h.0 h.1 h.2)
        where
          no : (k : Notation) → IsGeneral sigs d g k → Q k → ⊥
          no k is q = out (is.signature, (k.elements, is.elements, (is.once, (k.level, k.is_right, is.begins, subst Q (ap (λ n. record k { term = n }) is.term) q))))

-- ---- the rules

abbrev Judged : Table → (Notation → Type 0) → Type 0
Judged t Makes = AllHold (notation_checks t Makes) ⊎ ((f : NoteFault) × FailsFirst (notation_checks t Makes) f)

module _ (t : Table) (is : IsTable t) where
  abbrev Stays : Notation → Type 0
  Stays k = IsClearTable (with_notation t k)

  one-judged : (Makes : Notation → Type 0) → ((k l : Notation) → Makes k → Makes l → k ≡ l) → Decided ((k : Notation) × Makes k) → Judged t Makes
  one-judged Makes one form = all_hold-or_fails (notation_checks t Makes) (form, λ some. (one-with Makes Stays one (clear-decided t is.clear) form, λ clear. tt))

  pub infix-judged : (sigs : List Signature) (term : ℕ) (text : List ℕ) (level : Option ℕ) (right : Bool) → Judged t (IsInfix sigs t.delimiters term text level right)
  infix-judged sigs term text level right =
      one-judged (IsInfix sigs t.delimiters term text level right) (infix-one sigs t.delimiters term text level right) (infix-decided sigs t.delimiters term text level right)

  pub prefix-judged : (sigs : List Signature) (term : ℕ) (text : List ℕ) (level : Option ℕ) → Judged t (IsPrefix sigs t.delimiters term text level)
  prefix-judged sigs term text level =
      one-judged (IsPrefix sigs t.delimiters term text level) (prefix-one sigs t.delimiters term text level) (prefix-decided sigs t.delimiters term text level)

  pub general-judged : (sigs : List Signature) (g : General) → Judged t (IsGeneral sigs t.delimiters g)
  general-judged sigs g = all_hold-or_fails (notation_checks t (IsGeneral sigs t.delimiters g)) (form (general-with sigs t.delimiters g (λ k. ⊤) (λ k. inl tt)), λ some. (general-with sigs t.delimiters g Stays (clear-decided t is.clear), λ clear. tt))
    where
      form : Decided ((k : Notation) × IsGeneral sigs t.delimiters g k × ⊤) → Decided ((k : Notation) × IsGeneral sigs t.delimiters g k)
      form (inl (k, makes, tt)) = inl (k, makes)
      form (inr out) = inr (λ h. out (h.0, h.1, tt))

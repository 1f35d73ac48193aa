-- The axioms and theorems of a list beside the declarations with which it agrees.
use Rattle.std.proofs.Common.{◌≡◌, ◌∙◌, ◌≤◌, ◌<◌, ◌+◌, ◌⊎◌, ℕ, zero, suc, Bool, true, false, List, [], ◌∷◌, ◌++◌, length, slice_get, Some, refl, sym, ap, subst, inl, inr, arith, append_assoc, append-nil}
use Rattle.std.specs.Prelude.{if◌then◌else◌, MatchBool, not, ◌&&◌, flat_map, option_to_list}
use Rattle.std.proofs.lemmas.Option.{none-some}
use Rattle.mz_base.specs.Checks.{AllHold}
use Rattle.mz_cmd.specs.declared.code.StatementCode.{StatementCode}
use Rattle.mz_cmd.specs.declared.code.StatementCode.TheVariants as codes
use Rattle.mz_cmd.specs.Codes.{statement_byte}
use Rattle.mz_logic_theory.specs.Declaration.{Declaration, sort_decl, term_decl, assertion_decl, Assertion, Form, plain_form, abstract_form, defined, assertions}
use Rattle.mz_logic_theory.specs.LegalLists.{Statement, declarations}
use Rattle.mz_logic_theory.proofs.Offered.{one_at}
use Rattle.mz_binary_theory.specs.Spelling.{IsKindOf, is_local_code, HasKind}
use Rattle.mz_spec_proved_theory.specs.declared.kind.Kind.TheVariants as kinds
use Rattle.mz_spec_proved_theory.specs.Match.{Partner, partner_of, publics, publics_after, kind_of, kind_of_form, match_checks, Agrees}
use Rattle.mz_spec_proved_theory.proofs.Offered.{publics-append, publics-public}
use Rattle.mz_binary_walk.specs.Walk.{past_public}
use Rattle.mz_binary_walk.proofs.Offered.{one-code}
use Rattle.mz_axioms.specs.declared.rows.Place.{Place}
use Rattle.mz_axioms.specs.Places.{theorem_number, theorems_from, place_there, places_from, publics_past, place_by, is_listed}

pub places-more : (k : ℕ) (ss : List Statement) (s : Statement) → places_from k (ss ++ s ∷ []) ≡ places_from k ss ++ place_there (publics_past k ss) s.is_local s.decl
places-more k [] s = append-nil (place_there k s.is_local s.decl)
places-more k (t ∷ ts) s =
    ap (λ xs. place_there k t.is_local t.decl ++ xs) (places-more (past_public k t.is_local) ts s)
    ∙ sym (append_assoc (place_there k t.is_local t.decl) (places_from (past_public k t.is_local) ts) (place_there (publics_past (past_public k t.is_local) ts) s.is_local s.decl))

pub publics-more : (k : ℕ) (ss : List Statement) (s : Statement) → publics_past k (ss ++ s ∷ []) ≡ past_public (publics_past k ss) s.is_local
publics-more k [] s = refl
publics-more k (t ∷ ts) s = publics-more (past_public k t.is_local) ts s

-- ---- by the code of a statement

by-assertion : (k : ℕ) (code : StatementCode) (local b : Bool) → MatchBool b (statement_byte code ≡ 0x02) ((statement_byte code ≡ 0x06) ⊎ (statement_byte code ≡ 0x0E))
    → local ≡ is_local_code (statement_byte code) → option_to_list (place_by k code) ≡ record { number = k; is_axiom = b; is_local = local } ∷ []
by-assertion k code local b is mark = go b is
  where
    one : (b : Bool) (j : StatementCode) → option_to_list (place_by k j) ≡ record { number = k; is_axiom = b; is_local = is_local_code (statement_byte j) } ∷ [] → code ≡ j
        → option_to_list (place_by k code) ≡ record { number = k; is_axiom = b; is_local = local } ∷ []
    one b j at e =
        subst (λ (i : StatementCode). option_to_list (place_by k i) ≡ record { number = k; is_axiom = b; is_local = is_local_code (statement_byte i) } ∷ []) (sym e) at
        ∙ ap (λ (l : Bool). record { number = k; is_axiom = b; is_local = l } ∷ []) (sym mark)

    go : (b : Bool) → MatchBool b (statement_byte code ≡ 0x02) ((statement_byte code ≡ 0x06) ⊎ (statement_byte code ≡ 0x0E))
        → option_to_list (place_by k code) ≡ record { number = k; is_axiom = b; is_local = local } ∷ []
    go true e = one true codes.Axiom refl (one-code code codes.Axiom e)
    go false (inl e) = one false codes.Theorem refl (one-code code codes.Theorem e)
    go false (inr e) = one false codes.LocalTheorem refl (one-code code codes.LocalTheorem e)

by-decl : (k : ℕ) (code : StatementCode) (local : Bool) (d : Declaration) → IsKindOf (statement_byte code) d → local ≡ is_local_code (statement_byte code)
    → option_to_list (place_by k code) ≡ place_there k local d
by-decl k code local (sort_decl _) is mark = ap (λ (i : StatementCode). option_to_list (place_by k i)) (one-code code codes.Sort is)
by-decl k code local (term_decl _) (inl e) mark = ap (λ (i : StatementCode). option_to_list (place_by k i)) (one-code code codes.Term e)
by-decl k code local (term_decl _) (inr e) mark = ap (λ (i : StatementCode). option_to_list (place_by k i)) (one-code code codes.LocalDefinition e)
by-decl k code local (assertion_decl a) is mark = by-assertion k code local a.is_axiom is mark

pub by-code : (k : ℕ) (code : StatementCode) (s : Statement) → HasKind (statement_byte code) s → option_to_list (place_by k code) ≡ place_there k s.is_local s.decl
by-code k code s (is, mark) = by-decl k code s.is_local s.decl is mark

-- ---- places by their numbers

count-by : (k : ℕ) (b : Bool) (ss : List Statement) (x : Partner) (xs : List Partner) → ((m : ℕ) → publics_past m ss ≡ m + length xs) → publics_past (past_public k b) ss ≡ k + length (if b then xs else x ∷ xs)
count-by k true ss x xs h = h k
count-by k false ss x xs h = let e = h (k + 1) in omega (arith, e)

pub publics-count : (k : ℕ) (before ss : List Statement) → publics_past k ss ≡ k + length (publics_after before ss)
publics-count k before [] = omega arith
publics-count k before (s ∷ ss) = count-by k s.is_local ss (partner_of before s) (publics_after (before ++ s ∷ []) ss) (λ m. publics-count m (before ++ s ∷ []) ss)

pub places-many : (k : ℕ) (ss : List Statement) → length (places_from k ss) ≡ length (assertions (declarations ss))
places-many k [] = refl
places-many k (s ∷ ss) = one-more k s.is_local s.decl (places_from (past_public k s.is_local) ss) (declarations ss) (places-many (past_public k s.is_local) ss)
  where
    one-more : (k : ℕ) (l : Bool) (d : Declaration) (xs : List Place) (ds : List Declaration) → length xs ≡ length (assertions ds) → length (place_there k l d ++ xs) ≡ length (assertions (d ∷ ds))
    one-more k l (assertion_decl _) xs ds e = ap (λ n. suc n) e
    one-more k l _ xs ds e = e

-- the statement of a place
pub record IsPlaceOf (k : ℕ) (ss : List Statement) (T : ℕ) (p : Place) : Type 0 where
  pub before : List Statement
  pub statement : Statement
  pub after : List Statement
  pub assertion : Assertion
  pub all : ss ≡ before ++ statement ∷ after
  pub says : statement.decl ≡ assertion_decl assertion
  pub row : T ≡ length (assertions (declarations before))
  pub number : p.number ≡ publics_past k before
  pub axiom_is : p.is_axiom ≡ assertion.is_axiom
  pub local_is : p.is_local ≡ statement.is_local

pub place-of : (k : ℕ) (ss : List Statement) (T : ℕ) (p : Place) → slice_get (places_from k ss) T ≡ Some p → IsPlaceOf k ss T p
place-of k [] T p at = absurd (none-some _ at)
place-of k (s ∷ ss) T p at = go s.decl refl T at (λ U on. place-of (past_public k s.is_local) ss U p on)
  where
    later : (U V : ℕ) → V ≡ length (assertions (s.decl ∷ [])) + U → IsPlaceOf (past_public k s.is_local) ss U p → IsPlaceOf k (s ∷ ss) V p
    later U V is h = record {
      before = s ∷ h.before;
      statement = h.statement;
      after = h.after;
      assertion = h.assertion;
      all = ap (λ xs. s ∷ xs) h.all;
      says = h.says;
      row = (let r = h.row in let e = count s.decl (declarations h.before) in omega (arith, is, r, e));
      number = h.number;
      axiom_is = h.axiom_is;
      local_is = h.local_is;
    }
      where
        count : (d : Declaration) (ds : List Declaration) → length (assertions (d ∷ ds)) ≡ length (assertions (d ∷ [])) + length (assertions ds)
        count (sort_decl _) ds = omega arith
        count _ ds = omega arith

    go : (d : Declaration) → s.decl ≡ d → (V : ℕ) → slice_get (place_there k s.is_local d ++ places_from (past_public k s.is_local) ss) V ≡ Some p
        → ((U : ℕ) → slice_get (places_from (past_public k s.is_local) ss) U ≡ Some p → IsPlaceOf (past_public k s.is_local) ss U p) → IsPlaceOf k (s ∷ ss) V p
    go (assertion_decl a) is (suc V) here on = later V (suc V) (let e : length (assertions (s.decl ∷ [])) ≡ 1 = ap (λ (d : Declaration). length (assertions (d ∷ []))) is in omega (arith, e)) (on V here)
    go (assertion_decl a) is zero here on =
        let same : record { number = k; is_axiom = a.is_axiom; is_local = s.is_local } ≡ p = one_at refl here in
        record {
          before = [];
          statement = s;
          after = ss;
          assertion = a;
          all = refl;
          says = is;
          row = refl;
          number = sym (ap (λ (q : Place). q.number) same);
          axiom_is = sym (ap (λ (q : Place). q.is_axiom) same);
          local_is = sym (ap (λ (q : Place). q.is_local) same);
        }
    go _ is V here on = later V V (let e : length (assertions (s.decl ∷ [])) ≡ 0 = ap (λ (d : Declaration). length (assertions (d ∷ []))) is in omega (arith, e)) (on V here)

-- numbers grow past a public statement
low-number : (k : ℕ) (ss : List Statement) (T : ℕ) (p : Place) → slice_get (places_from k ss) T ≡ Some p → k ≤ p.number
low-number k ss T p at = let h = place-of k ss T p at in let a = h.number in let b = publics-count k [] h.before in omega (arith, a, b)

pub numbers-grow : (k : ℕ) (ss : List Statement) (T U : ℕ) (p q : Place) → slice_get (places_from k ss) T ≡ Some p → slice_get (places_from k ss) U ≡ Some q → T < U → p.is_local ≡ false → p.number < q.number
numbers-grow k [] T U p q at-p at-q lt public_ = absurd (none-some _ at-p)
numbers-grow k (s ∷ ss) T U p q at-p at-q lt public_ = go s.decl T U at-p at-q lt (λ V W a b c. numbers-grow (past_public k s.is_local) ss V W p q a b c public_)
  where
    Rest : List Place
    Rest = places_from (past_public k s.is_local) ss

    go : (d : Declaration) (V W : ℕ) → slice_get (place_there k s.is_local d ++ Rest) V ≡ Some p → slice_get (place_there k s.is_local d ++ Rest) W ≡ Some q → V < W
        → ((V W : ℕ) → slice_get Rest V ≡ Some p → slice_get Rest W ≡ Some q → V < W → p.number < q.number) → p.number < q.number
    go (assertion_decl c) V zero a b l on = absurd (omega (arith, l))
    go (assertion_decl c) (suc V) (suc W) a b l on = on V W a b (omega (arith, l))
    go (assertion_decl c) zero (suc W) a b l on =
        let same : record { number = k; is_axiom = c.is_axiom; is_local = s.is_local } ≡ p = one_at refl a in
        let number : k ≡ p.number = ap (λ (x : Place). x.number) same in
        let local : s.is_local ≡ false = ap (λ (x : Place). x.is_local) same ∙ public_ in
        let past : past_public k s.is_local ≡ k + 1 = ap (past_public k) local in
        let low = low-number (past_public k s.is_local) ss W q b in
        omega (arith, number, past, low)
    go _ V W a b l on = on V W a b l

-- ---- the declaration of a public statement

agrees-at : (ds : List Declaration) (ps qs : List Partner) (p : Partner) → Agrees ds (ps ++ p ∷ qs) → (d : Declaration) × (slice_get ds (length ps) ≡ Some d) × AllHold (match_checks d p)
agrees-at [] [] qs p agrees = absurd agrees
agrees-at (e ∷ ds) [] qs p agrees = (e, refl, agrees.0)
agrees-at [] (q ∷ ps) qs p agrees = absurd agrees
agrees-at (e ∷ ds) (q ∷ ps) qs p agrees = agrees-at ds ps qs p agrees.1

pub declared-at : (ds : List Declaration) (before after : List Statement) (s : Statement) → Agrees ds (publics (before ++ s ∷ after)) → s.is_local ≡ false
    → (d : Declaration) × (slice_get ds (length (publics before)) ≡ Some d) × AllHold (match_checks d (partner_of before s))
declared-at ds before after s agrees public_ =
    let parts : publics (before ++ s ∷ after) ≡ publics before ++ partner_of before s ∷ publics_after (before ++ s ∷ []) after =
    publics-append [] before (s ∷ after) ∙ ap (λ ps. publics before ++ ps) (publics-public before s after public_) in
    agrees-at ds (publics before) (publics_after (before ++ s ∷ []) after) (partner_of before s) (subst (Agrees ds) parts agrees)

-- ---- theorems in order

-- the numbers of the places that are public theorems'
abbrev pub listed_number : Place → List ℕ
listed_number p = if is_listed p then p.number ∷ [] else []

abbrev pub listed_numbers : List Place → List ℕ
listed_numbers ps = flat_map listed_number ps

not-theorem : (f : Form) → kinds.Theorem ≡ kind_of_form f → ⊥
not-theorem plain_form is = cc
not-theorem _ is = cc

-- two declarations of one kind are both theorems, or none is
same-numbers : (k : ℕ) (d e : Declaration) → kind_of d ≡ kind_of e → theorem_number k d ≡ theorem_number k e
same-numbers k (sort_decl _) (assertion_decl b) is = go b.is_axiom is
  where
    go : (y : Bool) → kinds.Sort ≡ (if y then kinds.Axiom else kinds.Theorem) → [] ≡ (if y then [] else k ∷ [])
    go true is = refl
    go false is = absurd cc
same-numbers k (term_decl t) (assertion_decl b) is = go b.is_axiom is
  where
    go : (y : Bool) → kind_of_form t.form ≡ (if y then kinds.Axiom else kinds.Theorem) → [] ≡ (if y then [] else k ∷ [])
    go true is = refl
    go false is = absurd (not-theorem t.form (sym is))
same-numbers k (assertion_decl a) (sort_decl _) is = go a.is_axiom is
  where
    go : (x : Bool) → (if x then kinds.Axiom else kinds.Theorem) ≡ kinds.Sort → (if x then [] else k ∷ []) ≡ []
    go true is = refl
    go false is = absurd cc
same-numbers k (assertion_decl a) (term_decl t) is = go a.is_axiom is
  where
    go : (x : Bool) → (if x then kinds.Axiom else kinds.Theorem) ≡ kind_of_form t.form → (if x then [] else k ∷ []) ≡ []
    go true is = refl
    go false is = absurd (not-theorem t.form is)
same-numbers k (assertion_decl a) (assertion_decl b) is = go a.is_axiom b.is_axiom is
  where
    go : (x y : Bool) → (if x then kinds.Axiom else kinds.Theorem) ≡ (if y then kinds.Axiom else kinds.Theorem) → (if x then [] else k ∷ []) ≡ (if y then [] else k ∷ [])
    go true true is = refl
    go true false is = absurd cc
    go false true is = absurd cc
    go false false is = refl
same-numbers k _ _ is = refl

listed-append : (xs ys : List Place) → listed_numbers (xs ++ ys) ≡ listed_numbers xs ++ listed_numbers ys
listed-append [] ys = refl
listed-append (x ∷ xs) ys = ap (λ zs. listed_number x ++ zs) (listed-append xs ys) ∙ sym (append_assoc (listed_number x) (listed_numbers xs) (listed_numbers ys))

of-public : (k : ℕ) (d : Declaration) → listed_numbers (place_there k false d) ≡ theorem_number k d
of-public k (assertion_decl a) = go a.is_axiom
  where
    go : (x : Bool) → (if not x && not false then k ∷ [] else []) ++ [] ≡ (if x then [] else k ∷ [])
    go true = refl
    go false = refl
of-public k _ = refl

of-local : (k : ℕ) (d : Declaration) → listed_numbers (place_there k true d) ≡ []
of-local k (assertion_decl a) = go a.is_axiom
  where
    go : (x : Bool) → (if not x && not true then k ∷ [] else []) ++ [] ≡ []
    go true = refl
    go false = refl
of-local k _ = refl

-- the public theorems of statements that agree with declarations have the numbers of the declared theorems
pub theorems-listed : (k : ℕ) (before ss : List Statement) (ds : List Declaration) → Agrees ds (publics_after before ss) → listed_numbers (places_from k ss) ≡ theorems_from k ds
theorems-listed k before [] [] agrees = refl
theorems-listed k before [] (d ∷ ds) agrees = absurd agrees
theorems-listed k before (s ∷ ss) ds agrees = by s.is_local ds agrees (λ m es so_far. theorems-listed m (before ++ s ∷ []) ss es so_far)
  where
    by : (b : Bool) (ds : List Declaration) → Agrees ds (if b then publics_after (before ++ s ∷ []) ss else partner_of before s ∷ publics_after (before ++ s ∷ []) ss)
        → ((m : ℕ) (es : List Declaration) → Agrees es (publics_after (before ++ s ∷ []) ss) → listed_numbers (places_from m ss) ≡ theorems_from m es)
        → listed_numbers (place_there k b s.decl ++ places_from (past_public k b) ss) ≡ theorems_from k ds
    by true ds agrees on = listed-append (place_there k true s.decl) (places_from k ss) ∙ ap (λ xs. xs ++ listed_numbers (places_from k ss)) (of-local k s.decl) ∙ on k ds agrees
    by false [] agrees on = absurd agrees
    by false (d ∷ ds) agrees on =
        listed-append (place_there k false s.decl) (places_from (k + 1) ss)
        ∙ ap (λ xs. xs ++ listed_numbers (places_from (k + 1) ss)) (of-public k s.decl ∙ sym (same-numbers k d s.decl agrees.0.0))
        ∙ ap (λ xs. theorem_number k d ++ xs) (on (k + 1) ds agrees.1)

-- The lists of a good file that agrees with declarations are the supports of the declared theorems.
use Rattle.std.proofs.Common.{◌≡◌, ◌∙◌, ◌<◌, ℕ, zero, suc, Bool, true, false, List, [], ◌∷◌, ◌++◌, map, length, slice_get, Some, refl, sym, ap, subst, inl, inr, arith}
use Rattle.std.specs.Prelude.{All, Contains, flat_map, if◌then◌else◌, not, ◌&&◌}
use Rattle.std.proofs.lemmas.List.{map-append}
use Rattle.std.proofs.lemmas.List.Elements.{All-nil, All-cons, All-append}
use Rattle.std.proofs.lemmas.Option.{none-some, slice_get_within}
use Rattle.mz_base.proofs.Offered.{slice_get-some, slice_get-map_at}
use Rattle.mz_logic_theory.specs.Declaration.{Declaration, sort_decl, term_decl, assertion_decl}
use Rattle.mz_logic_theory.specs.LegalLists.{Statement, declarations, IsProvedBy, Legal, gap_free}
use Rattle.mz_logic_theory.proofs.Offered.{one_at, legal_at}
use Rattle.mz_layout_tables.specs.Tables.{list_at}
use Rattle.mz_cmd.specs.StatementList.{statement_at}
use Rattle.mz_binary_theory.specs.Good.{Good}
use Rattle.mz_binary_theory.proofs.Offered.{good-legal, one-list, good-spelled}
use Rattle.mz_spec_proved_theory.specs.Match.{publics, Agrees}
use Rattle.mz_match_theory.specs.Verdict.{Accepts}
use Rattle.mz_axioms.specs.declared.rows.Place.{Place}
use Rattle.mz_axioms.specs.Rows.{RowTold, Tells, TellsAll, number_at, number_in, support_of, supports_at, supports_of}
use Rattle.mz_binary_theory.specs.Gapped.{AssertionBody, body_there, place_after, body_of, bodies_from, bodies_of}
use Rattle.mz_axioms.specs.Supports.{IsKind, InSupport, within_support}
use Rattle.mz_axioms.specs.Places.{StandsFor, theorems_of, place_there, places_from, is_listed}
use Rattle.mz_binary_walk.specs.Walk.{past_public}
use Rattle.mz_axioms.specs.Lists.{TheoremSupport, IsSupportOf, AreSupports}
use Rattle.mz_axioms.proofs.Increasing.{increasing-map}
use Rattle.mz_axioms.proofs.Mapped.{contains-map, map-contains}
use Rattle.mz_axioms.proofs.Supporting.{support-axiom, one-kind, kind-within}
use Rattle.mz_axioms.proofs.Placing.{IsPlaceOf, place-of, numbers-grow, declared-at, publics-count, listed_number, listed_numbers, theorems-listed}
use Rattle.mz_axioms.proofs.Resting.{rest-on-supports}
use Rattle.mz_axioms.proofs.Telling.{rows-many}
use Rattle.mz_binary_theory.specs.Standards.{strict_standard}
use Rattle.mz_spec_proved_theory.proofs.Offered.{never-local}

-- ---- lists

all-flat : {A B : Type 0} (P : B → Type 0) (f : A → List B) (xs : List A) → ((k : ℕ) (x : A) → slice_get xs k ≡ Some x → All P (f x)) → All P (flat_map f xs)
all-flat P f [] each = All-nil P
all-flat P f (x ∷ xs) each = All-append P (f x) (flat_map f xs) (each 0 x refl) (all-flat P f xs (λ k y at. each (suc k) y at))

-- ---- the theorems

theorem-numbers : (whole rows : List RowTold) → map (λ (s : TheoremSupport). s.theorem) (flat_map (supports_at whole) rows) ≡ listed_numbers (map (λ (r : RowTold). r.place) rows)
theorem-numbers whole [] = refl
theorem-numbers whole (r ∷ rows) =
    map-append (λ (s : TheoremSupport). s.theorem) (supports_at whole r) (flat_map (supports_at whole) rows)
    ∙ ap (λ xs. xs ++ map (λ (s : TheoremSupport). s.theorem) (flat_map (supports_at whole) rows)) (one (is_listed r.place))
    ∙ ap (λ xs. listed_number r.place ++ xs) (theorem-numbers whole rows)
  where
    one : (b : Bool) → map (λ (s : TheoremSupport). s.theorem) (if b then support_of whole r ∷ [] else []) ≡ (if b then r.place.number ∷ [] else [])
    one true = refl
    one false = refl

-- a body and a place of one row are of one kind
kinds-same : (file : List ℕ) (at k : ℕ) (ss : List Statement) (T : ℕ) (b : AssertionBody) (p : Place) → slice_get (bodies_from file at ss) T ≡ Some b → slice_get (places_from k ss) T ≡ Some p → b.is_axiom ≡ p.is_axiom
kinds-same file at k [] T b p at-b at-p = absurd (none-some _ at-b)
kinds-same file at k (s ∷ ss) T b p at-b at-p = go s.decl T at-b at-p (λ U x y. kinds-same file (place_after (statement_at file at)) (past_public k s.is_local) ss U b p x y)
  where
    Bodies : List AssertionBody
    Bodies = bodies_from file (place_after (statement_at file at)) ss

    Places : List Place
    Places = places_from (past_public k s.is_local) ss

    go : (d : Declaration) (U : ℕ) → slice_get (body_of file at d ++ Bodies) U ≡ Some b → slice_get (place_there k s.is_local d ++ Places) U ≡ Some p
        → ((U : ℕ) → slice_get Bodies U ≡ Some b → slice_get Places U ≡ Some p → b.is_axiom ≡ p.is_axiom) → b.is_axiom ≡ p.is_axiom
    go (sort_decl _) U x y on = on U x y
    go (term_decl _) U x y on = on U x y
    go (assertion_decl a) (suc U) x y on = on U x y
    go (assertion_decl a) zero x y on =
        let b-is : record { is_axiom = a.is_axiom; bytes = body_there file (statement_at file at) } ≡ b = one_at refl x in
        let p-is : record { number = k; is_axiom = a.is_axiom; is_local = s.is_local } ≡ p = one_at refl y in
        sym (ap (λ (z : AssertionBody). z.is_axiom) b-is) ∙ ap (λ (z : Place). z.is_axiom) p-is

listed-is : (p : Place) (x y : Bool) → p.is_axiom ≡ x → p.is_local ≡ y → is_listed p ≡ true → (x ≡ false) × (y ≡ false)
listed-is p true y is-x is-y is = absurd (let e : (not true && not y) ≡ true = ap (λ z. not z && not y) (sym is-x) ∙ ap (λ z. not p.is_axiom && not z) (sym is-y) ∙ is in cc)
listed-is p false true is-x is-y is = absurd (let e : (not false && not true) ≡ true = ap (λ z. not z && not true) (sym is-x) ∙ ap (λ z. not p.is_axiom && not z) (sym is-y) ∙ is in cc)
listed-is p false false is-x is-y is = (refl, refl)

module _ (file : List ℕ) (ds : List Declaration) (ss : List Statement) (rows : List RowTold) (good : Good strict_standard file ss) (agrees : Agrees ds (publics ss)) (told : TellsAll file ss rows) where
  place-there : (T : ℕ) (r : RowTold) → slice_get rows T ≡ Some r → slice_get (places_from 0 ss) T ≡ Some r.place
  place-there T r at = subst (λ (ps : List Place). slice_get ps T ≡ Some r.place) told.places (slice_get-map_at (λ (x : RowTold). x.place) rows T r at)

  stands-for : (T : ℕ) (p : Place) (h : IsPlaceOf 0 ss T p) → h.statement.is_local ≡ false → StandsFor ds ss p.number T
  stands-for T p h public_ =
      let number : p.number ≡ length (publics h.before) = (let a = h.number in let b = publics-count 0 [] h.before in omega (arith, a, b)) in
      let (d, there, all) = declared-at ds h.before h.after h.statement (subst (λ (xs : List Statement). Agrees ds (publics xs)) h.all agrees) public_ in
      record {
        before = h.before;
        statement = h.statement;
        after = h.after;
        assertion = h.assertion;
        declared = d;
        all = h.all;
        says = h.says;
        is_public = public_;
        row = h.row;
        number = number;
        there = ap (slice_get ds) number ∙ there;
        agrees = all;
      }

  legal : Legal ss
  legal = good-legal strict_standard file ss good

  -- an axiom's row
  pub record IsAxiomRow (A : ℕ) : Type 0 where
    pub row : RowTold
    pub at : slice_get rows A ≡ Some row
    pub stands : StandsFor ds ss row.place.number A
    pub public_ : row.place.is_local ≡ false

  axiom-row : (A : ℕ) → IsKind (bodies_of file ss) true A → IsAxiomRow A
  axiom-row A kind =
      let many = rows-many file ss rows told in
      let inside : A < length rows = (let w = kind-within (bodies_of file ss) true A kind in omega (arith, w, many)) in
      let (r, at) = slice_get-some rows A inside in
      let place = place-there A r at in
      let h = place-of 0 ss A r.place place in
      let ax : r.place.is_axiom ≡ true = sym (kinds-same file (list_at file) 0 ss A kind.body r.place kind.there place) ∙ kind.is in
      let public_ : h.statement.is_local ≡ false = never-local h.statement h.assertion h.statement.is_local refl
      (legal_at gap_free [] h.before h.after h.statement (subst Legal h.all legal)).1 h.says (sym h.axiom_is ∙ ax) in
      record { row = r; at = at; stands = stands-for A r.place h public_; public_ = h.local_is ∙ public_ }

  number-is : (A : ℕ) (r : RowTold) → slice_get rows A ≡ Some r → number_at rows A ≡ r.place.number
  number-is A r at = ap number_in at

  theorem-row : (T : ℕ) (r : RowTold) → slice_get rows T ≡ Some r → is_listed r.place ≡ true → IsSupportOf file ds ss (support_of rows r)
  unfolding stands-for
  theorem-row T r at listed =
      record {
        row = T;
        theorem = stands-for T r.place h public_;
        is_theorem = is_theorem;
        all = all;
        only = only;
        in_order = increasing-map (number_at rows) r.axioms tells.in_order grows;
        proved = subst (λ (n : ℕ). IsProvedBy (within_support (bodies_of file ss) n) (declarations h.before) h.assertion) (sym h.row)
            (rest-on-supports file ss good h.before h.after h.statement h.assertion h.all h.says is_theorem);
      }
    where
      h : IsPlaceOf 0 ss T r.place
      h = place-of 0 ss T r.place (place-there T r at)

      both : (r.place.is_axiom ≡ false) × (r.place.is_local ≡ false)
      both = listed-is r.place r.place.is_axiom r.place.is_local refl refl listed

      public_ : h.statement.is_local ≡ false
      public_ = sym h.local_is ∙ both.1

      is_theorem : h.assertion.is_axiom ≡ false
      is_theorem = sym h.axiom_is ∙ both.0

      tells : Tells (bodies_of file ss) T r
      tells = told.each T r at

      kind : IsKind (bodies_of file ss) false T
      kind =
          let inside : T < length (bodies_of file ss) = (let w = slice_get_within rows T r at in let many = rows-many file ss rows told in omega (arith, w, many)) in
          let (b, there) = slice_get-some (bodies_of file ss) T inside in
          record { body = b; there = there; is = kinds-same file (list_at file) 0 ss T b r.place there (place-there T r at) ∙ both.0 }

      all : (A : ℕ) → InSupport (bodies_of file ss) T A → (a : ℕ) × StandsFor ds ss a A × Contains (map (number_at rows) r.axioms) a
      all A on =
          let x = axiom-row A (support-axiom (bodies_of file ss) T A on) in (
            x.row.place.number,
            x.stands,
            subst (Contains (map (number_at rows) r.axioms)) (number-is A x.row x.at) (contains-map (number_at rows) r.axioms A ((tells.axioms A).1 (inr (kind, on)))),
          )

      comes : (A : ℕ) → Contains r.axioms A → InSupport (bodies_of file ss) T A
      comes A has = elim ((tells.axioms A).0 has) [
        | inl here ↦ absurd (let e : true ≡ false = one-kind (bodies_of file ss) T true false here.0 kind in cc)
        | inr on ↦ on.1
      ]

      only : (a : ℕ) → Contains (map (number_at rows) r.axioms) a → (A : ℕ) × StandsFor ds ss a A × InSupport (bodies_of file ss) T A
      only a has =
          let (A, there, is) = map-contains (number_at rows) r.axioms a has in
          let on = comes A there in
          let x = axiom-row A (support-axiom (bodies_of file ss) T A on) in
          (A, subst (λ (n : ℕ). StandsFor ds ss n A) (sym (number-is A x.row x.at) ∙ is) x.stands, on)

      grows : (x y : ℕ) → Contains r.axioms x → Contains r.axioms y → x < y → number_at rows x < number_at rows y
      grows x y has-x has-y lt =
          let p = axiom-row x (support-axiom (bodies_of file ss) T x (comes x has-x)) in
          let q = axiom-row y (support-axiom (bodies_of file ss) T y (comes y has-y)) in
          let less = numbers-grow 0 ss x y p.row.place q.row.place (place-there x p.row p.at) (place-there y q.row q.at) lt p.public_ in
          let a = number-is x p.row p.at in
          let b = number-is y q.row q.at in
          omega (arith, less, a, b)

  pub lists-theorems : map (λ (s : TheoremSupport). s.theorem) (supports_of rows) ≡ theorems_of ds
  lists-theorems = theorem-numbers rows rows ∙ ap listed_numbers told.places ∙ theorems-listed 0 [] ss ds agrees

  pub lists-each : All (IsSupportOf file ds ss) (supports_of rows)
  lists-each = all-flat (IsSupportOf file ds ss) (supports_at rows) rows (λ T r at. one T r at (is_listed r.place) refl)
    where
      one : (T : ℕ) (r : RowTold) → slice_get rows T ≡ Some r → (b : Bool) → is_listed r.place ≡ b → All (IsSupportOf file ds ss) (if b then support_of rows r ∷ [] else [])
      one T r at true is = All-cons (IsSupportOf file ds ss) (support_of rows r) [] (theorem-row T r at is) (All-nil (IsSupportOf file ds ss))
      one T r at false is = All-nil (IsSupportOf file ds ss)

-- of a pair that is accepted
pub are-supports : (spec bin : List ℕ) (accepts : Accepts spec bin) (ss : List Statement) → Good strict_standard bin ss → (rows : List RowTold) → TellsAll bin ss rows → (lists : List TheoremSupport) → lists ≡ supports_of rows
    → AreSupports spec bin lists
are-supports spec bin accepts ss good rows told lists is =
    let same : ss ≡ accepts.statements = one-list bin ss accepts.statements (good-spelled strict_standard bin ss good) (good-spelled strict_standard bin accepts.statements accepts.is_good) in
    let tells = subst (λ (xs : List Statement). TellsAll bin xs rows) same told in
    subst (AreSupports spec bin) (sym is) (record {
      accepts = accepts;
      theorems = lists-theorems bin accepts.declared accepts.statements rows accepts.is_good accepts.agrees tells;
      each = lists-each bin accepts.declared accepts.statements rows accepts.is_good accepts.agrees tells;
    })

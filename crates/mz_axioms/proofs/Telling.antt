-- What is known of the rows stays true as the list of statements goes on.
use Rattle.std.proofs.Common.{◌≡◌, ◌∙◌, ◌≤◌, ◌<◌, ◌+◌, ◌⊎◌, ℕ, zero, suc, Bool, true, false, List, [], ◌∷◌, ◌++◌, map, length, get_or, slice_get, Option, Some, None, refl, sym, ap, subst, inl, inr, arith, length-append, append_assoc, append-nil}
use Rattle.std.specs.Prelude.{◌↔◌, Contains, MatchBool, option_to_list}
use Rattle.std.proofs.lemmas.List.{length-map, map_push}
use Rattle.std.proofs.lemmas.Option.{none-some, slice_get_within, slice_get-get_or}
use Rattle.mz_base.proofs.Offered.{contains_none, slice_get-some, contains_at}
use Rattle.mz_base.specs.Checks.{AllHold}
use Rattle.mz_cmd.specs.Codes.{statement_byte}
use Rattle.mz_cmd.specs.StatementList.{statement_at}
use Rattle.mz_logic_theory.specs.Declaration.{Declaration, sort_decl, term_decl, assertion_decl, assertions}
use Rattle.mz_logic_theory.specs.LegalLists.{Statement, declarations}
use Rattle.mz_logic_theory.proofs.Offered.{one_at, split_at}
use Rattle.mz_layout_tables.specs.Tables.{list_at}
use Rattle.mz_layout_tables.specs.Heads.{body_bytes, head_checks}
use Rattle.mz_layout_tables.specs.declared.head.Head.{Head}
use Rattle.mz_binary_theory.specs.Spelling.{is_local_code}
use Rattle.mz_binary_theory.specs.Chains.{GoodTo, IsListEnd}
use Rattle.mz_binary_theory.specs.Good.{Good}
use Rattle.mz_binary_walk.specs.Walk.{GoesOn, nothing_passed, past_public}
use Rattle.mz_binary_walk.specs.declared.passed.Passed.{Passed}
use Rattle.mz_binary_walk.proofs.Offered.{HasGone, IsOnWay, head-here, way-asks, way-first, way-last, way-more}
use Rattle.mz_axioms.specs.declared.rows.Place.{Place}
use Rattle.mz_axioms.specs.declared.rows.Row.{Row}
use Rattle.mz_axioms.specs.Commands.{IsCitedIn}
use Rattle.mz_binary_theory.specs.Gapped.{AssertionBody, body_there, place_after, body_of, bodies_from, bodies_of}
use Rattle.mz_axioms.specs.Supports.{InSupport}
use Rattle.mz_axioms.specs.Places.{place_there, places_from, publics_past, place_by}
use Rattle.mz_axioms.specs.Rows.{ComesTo, Tells, TellsAll, TellsFile, Reaches, IsNew, IsNoted, RowTold, AreWithin, AreFew}
use Rattle.mz_axioms.specs.Kept.{CitesSet, HasSet}
use Rattle.mz_axioms.proofs.Citing.{CitedBetween}
use Rattle.mz_axioms.proofs.Increasing.{increasing-few}
use Rattle.mz_axioms.proofs.Placing.{places-more, publics-more, places-many, by-code}
use Rattle.mz_axioms.proofs.Resting.{at-seam}
use Rattle.mz_axioms.proofs.Supporting.{support-step, support-inverts, comes-on, comes-low, one-kind}
use Rattle.mz_binary_theory.specs.Standards.{strict_standard}

-- ---- citations of a body, one after another

module _ (file : List ℕ) (rows : List Row) (pos end : ℕ) where
  -- these sets and those that are cited from a place on are all that are cited
  abbrev pub SetsCited : ℕ → List ℕ → Type 0
  SetsCited at ids = (id : ℕ) → (Contains ids id ⊎ CitesSet rows (body_bytes file at end) id) ↔ CitesSet rows (body_bytes file pos end) id

  pub cited-first : SetsCited pos []
  cited-first id = (λ h. elim h [ inl no_ ↦ absurd (contains_none id no_) | inr on ↦ on ], λ on. inr on)

  pub cited-more : (at U after : ℕ) (old new : List ℕ) → CitedBetween file at end (Some (U, after)) → ((id : ℕ) → Contains new id ↔ (Contains old id ⊎ HasSet rows U id)) → SetsCited at old → SetsCited after new
  cited-more at U after old new (lt, le, said) put h id = (
    λ r. elim r [
      | inl has ↦ elim ((put id).0 has) [ inl was ↦ (h id).0 (inl was) | inr here ↦ (h id).0 (inr (U, (said U).1 (inl refl), here)) ]
      | inr (V, cited, there) ↦ (h id).0 (inr (V, (said V).1 (inr cited), there))
    ],
    λ w. elim ((h id).1 w) [
      | inl was ↦ inl ((put id).1 (inl was))
      | inr (V, cited, there) ↦ elim ((said V).0 cited) [
        | inl same ↦ inl ((put id).1 (inr (subst (λ n. HasSet rows n id) same there)))
        | inr on ↦ inr (V, on, there)
      ]
    ],
  )

  pub cited-last : (at : ℕ) (ids : List ℕ) → CitedBetween file at end None → SetsCited at ids → (id : ℕ) → Contains ids id ↔ CitesSet rows (body_bytes file pos end) id
  cited-last at ids said h id = (
    λ has. (h id).0 (inl has),
    λ w. elim ((h id).1 w) [ inl has ↦ has | inr (V, cited, there) ↦ absurd (said V cited) ],
  )

-- ---- one row more

module _ (bodies : List AssertionBody) (rows : List RowTold) (many : length rows ≡ length bodies) (each : (U : ℕ) (row : RowTold) → slice_get rows U ≡ Some row → Tells bodies U row) (body : AssertionBody) where
  last-there : slice_get (bodies ++ body ∷ []) (length bodies) ≡ Some body
  last-there = at-seam bodies body [] (length bodies) refl

  reached-support : (A : ℕ) → Reaches rows body.bytes A ↔ InSupport (bodies ++ body ∷ []) (length bodies) A
  reached-support A = (
    λ (U, cited, (row, at, has)). (
        let low : U < length bodies = (let w = slice_get_within rows U row at in omega (arith, w, many)) in
        support-step (bodies ++ body ∷ []) (length bodies) U A (record { body = body; there = last-there; cited = cited; earlier = low })
        ((comes-on bodies (body ∷ []) U A low).0 (((each U row at).axioms A).0 has))
        ),
    λ h. (
        let (U, cites, comes) = support-inverts (bodies ++ body ∷ []) (length bodies) A h in
        let same : cites.body ≡ body = one_at cites.there last-there in
        let (row, at) = slice_get-some rows U (let e = cites.earlier in omega (arith, e, many)) in (
          U,
          subst (λ (b : AssertionBody). IsCitedIn b.bytes U) same cites.cited,
          (row, at, ((each U row at).axioms A).1 ((comes-on bodies (body ∷ []) U A cites.earlier).1 comes)),
        )
        ),
  )

  -- a citation of the new one comes to what it says
  new-comes : (A : ℕ) (k : Bool) → body.is_axiom ≡ k → MatchBool k (A ≡ length rows) (Reaches rows body.bytes A) ↔ ComesTo (bodies ++ body ∷ []) (length bodies) A
  new-comes A true is = (
    λ same. inl (record { body = body; there = last-there; is = is }, same ∙ many),
    λ h. elim h [
      | inl here ↦ here.1 ∙ sym many
      | inr on ↦ absurd (let e : true ≡ false = one-kind (bodies ++ body ∷ []) (length bodies) true false (record { body = body; there = last-there; is = is }) on.0 in cc)
    ],
  )
  new-comes A false is = (
    λ r. inr (record { body = body; there = last-there; is = is }, (reached-support A).0 r),
    λ h. elim h [
      | inl here ↦ absurd (let e : true ≡ false = one-kind (bodies ++ body ∷ []) (length bodies) true false here.0 (record { body = body; there = last-there; is = is }) in cc)
      | inr on ↦ (reached-support A).1 on.1
    ],
  )

  pub each-more : (place : Place) (new : RowTold) → place.is_axiom ≡ body.is_axiom → IsNew rows place body.bytes new
      → (U : ℕ) (row : RowTold) → slice_get (rows ++ new ∷ []) U ≡ Some row → Tells (bodies ++ body ∷ []) U row
  each-more place new kind is U row at = elim (split_at rows (new ∷ []) U row at) [
    | inl old ↦ (
        let told = each U row old in
        let low : U < length bodies = (let w = slice_get_within rows U row old in omega (arith, w, many)) in
        record {
          in_order = told.in_order;
          axioms = λ A. (λ has. (comes-on bodies (body ∷ []) U A low).0 ((told.axioms A).0 has), λ c. (told.axioms A).1 ((comes-on bodies (body ∷ []) U A low).1 c));
        }
        )
    | inr (k, place_, there) ↦ at-end k place_ there
  ]
    where
      here : Tells (bodies ++ body ∷ []) (length bodies) new
      here = record {
        in_order = is.in_order;
        axioms = λ A. (
            let made = new-comes A place.is_axiom (sym kind) in (
              λ has. made.0 ((is.axioms A).0 has),
              λ c. (is.axioms A).1 (made.1 c),
            )
            );
      }

      at-end : (k : ℕ) → U ≡ length rows + k → slice_get (new ∷ []) k ≡ Some row → Tells (bodies ++ body ∷ []) U row
      at-end zero e there = subst (Tells (bodies ++ body ∷ []) U) (one_at refl there) (subst (λ n. Tells (bodies ++ body ∷ []) n new) (omega (arith, e, many)) here)
      at-end (suc k) e there = absurd (none-some _ there)

-- ---- the list

module _ (file : List ℕ) where
  pub bodies-many : (at : ℕ) (ss : List Statement) → length (bodies_from file at ss) ≡ length (assertions (declarations ss))
  bodies-many at [] = refl
  bodies-many at (s ∷ ss) = one-more at s.decl (bodies_from file (place_after (statement_at file at)) ss) (declarations ss) (bodies-many (place_after (statement_at file at)) ss)
    where
      one-more : (at : ℕ) (d : Declaration) (xs : List AssertionBody) (ds : List Declaration) → length xs ≡ length (assertions ds) → length (body_of file at d ++ xs) ≡ length (assertions (d ∷ ds))
      one-more at (assertion_decl a) xs ds e = ap (λ n. suc n) e
      one-more at _ xs ds e = e

  bodies-more : (env : List Declaration) (from : ℕ) (ss : List Statement) (env' : List Declaration) (to : ℕ) (s : Statement) → GoodTo strict_standard file env from ss env' to
      → bodies_from file from (ss ++ s ∷ []) ≡ bodies_from file from ss ++ body_of file to s.decl
  bodies-more env from [] env' to s chain = append-nil (body_of file from s.decl) ∙ ap (λ n. body_of file n s.decl) (sym chain.1)
  bodies-more env from (t ∷ ts) env' to s (next, good, chain) =
      let goes : place_after (statement_at file from) ≡ next = ap place_after good.spelled.stands in
      ap (λ n. body_of file from t.decl ++ bodies_from file n (ts ++ s ∷ [])) goes
      ∙ ap (λ xs. body_of file from t.decl ++ xs) (bodies-more (env ++ t.decl ∷ []) next ts env' to s chain)
      ∙ ap (λ n. body_of file from t.decl ++ (bodies_from file n ts ++ body_of file to s.decl)) (sym goes)
      ∙ sym (append_assoc (body_of file from t.decl) (bodies_from file (place_after (statement_at file from)) ts) (body_of file to s.decl))

  pub rows-many : (ss : List Statement) (rows : List RowTold) → TellsAll file ss rows → length rows ≡ length (bodies_of file ss)
  rows-many ss rows t =
      let a : length (map (λ (r : RowTold). r.place) rows) ≡ length rows = length-map rows (λ (r : RowTold). r.place) in
      let b : length (map (λ (r : RowTold). r.place) rows) ≡ length (places_from 0 ss) = ap (λ (xs : List Place). length xs) t.places in
      let c = places-many 0 ss in
      let d = bodies-many (list_at file) ss in
      omega (arith, a, b, c, d)

  -- a statement more, of this code, whose body stands there
  told-more : (ss : List Statement) (old new : List RowTold) (d : Declaration) (local : Bool) (at : ℕ) (o : Option Place) → TellsAll file ss old
      → option_to_list o ≡ place_there (publics_past 0 ss) local d → IsNoted o (body_there file (statement_at file at)) old new
      → (map (λ (r : RowTold). r.place) new ≡ places_from 0 ss ++ place_there (publics_past 0 ss) local d)
      × ((U : ℕ) (row : RowTold) → slice_get new U ≡ Some row → Tells (bodies_of file ss ++ body_of file at d) U row)
  told-more ss old new d local at o t place noted = go d o place noted
    where
      same : (d : Declaration) → place_there (publics_past 0 ss) local d ≡ [] → body_of file at d ≡ [] → new ≡ old
          → (map (λ (r : RowTold). r.place) new ≡ places_from 0 ss ++ place_there (publics_past 0 ss) local d)
          × ((U : ℕ) (row : RowTold) → slice_get new U ≡ Some row → Tells (bodies_of file ss ++ body_of file at d) U row)
      same d no-place no-body is = (
        ap (λ (rs : List RowTold). map (λ (r : RowTold). r.place) rs) is ∙ t.places ∙ sym (append-nil (places_from 0 ss)) ∙ ap (λ ps. places_from 0 ss ++ ps) (sym no-place),
        λ U row has. subst (λ bs. Tells bs U row) (sym (append-nil (bodies_of file ss)) ∙ ap (λ bs. bodies_of file ss ++ bs) (sym no-body)) (t.each U row (subst (λ (rs : List RowTold). slice_get rs U ≡ Some row) is has)),
      )

      go : (d : Declaration) (o : Option Place) → option_to_list o ≡ place_there (publics_past 0 ss) local d → IsNoted o (body_there file (statement_at file at)) old new
          → (map (λ (r : RowTold). r.place) new ≡ places_from 0 ss ++ place_there (publics_past 0 ss) local d)
          × ((U : ℕ) (row : RowTold) → slice_get new U ≡ Some row → Tells (bodies_of file ss ++ body_of file at d) U row)
      go (sort_decl m) None place noted = same (sort_decl m) refl refl noted
      go (term_decl m) None place noted = same (term_decl m) refl refl noted
      go (assertion_decl a) (Some p) place (row, pushed, is) =
          let p-is : p ≡ record { number = publics_past 0 ss; is_axiom = a.is_axiom; is_local = local } = (let e : p ∷ [] ≡ record { number = publics_past 0 ss; is_axiom = a.is_axiom; is_local = local } ∷ [] = place in cc) in
          let body : AssertionBody = record { is_axiom = a.is_axiom; bytes = body_there file (statement_at file at) } in (
            ap (λ (rs : List RowTold). map (λ (r : RowTold). r.place) rs) pushed ∙ map_push (λ (r : RowTold). r.place) old row ∙ ap (λ (ps : List Place). ps ++ row.place ∷ []) t.places
                ∙ ap (λ (q : Place). places_from 0 ss ++ q ∷ []) (is.place_is ∙ p-is),
            λ U r has. each-more (bodies_of file ss) old (rows-many ss old t) t.each body p row (ap (λ (q : Place). q.is_axiom) p-is) is U r (subst (λ (rs : List RowTold). slice_get rs U ≡ Some r) pushed has),
          )
      go _ _ place noted = absurd cc

  -- ---- how far the list has been gone over

  pub record Walked (p : Passed) (rows : List RowTold) : Type 0 where
    pub whole : List Statement
    pub before : List Statement
    pub after : List Statement
    pub env : List Declaration
    pub way : IsOnWay file p whole before after env
    pub tells : TellsAll file before rows
    pub publics_are : p.publics ≡ publics_past 0 before
    pub rows_low : length rows ≤ p.at

  pub walked-first : (ss : List Statement) → Good strict_standard file ss → Walked (nothing_passed file) []
  walked-first ss good = record {
    whole = ss;
    before = [];
    after = ss;
    env = [];
    way = way-first file ss good;
    tells = record { places = refl; each = λ U row at. absurd (none-some _ at) };
    publics_are = refl;
    rows_low = omega arith;
  }

  pub walked-asks : (p : Passed) (rows : List RowTold) → Walked p rows → AllHold (head_checks file p.rows p.at)
  walked-asks p rows w = way-asks file p w.whole w.before w.after w.env w.way

  noted-most : (o : Option Place) (bytes : List ℕ) (old new : List RowTold) → IsNoted o bytes old new → length new ≤ length old + 1
  noted-most None bytes old new is = (let e : length new ≡ length old = ap (λ (rs : List RowTold). length rs) is in omega (arith, e))
  noted-most (Some p) bytes old new (row, is, _) = (let e : length new ≡ length (old ++ row ∷ []) = ap (λ (rs : List RowTold). length rs) is in omega (arith, e, length-append old (row ∷ [])))

  pub walked-more : (p : Passed) (head : Head) (after : Passed) (old new : List RowTold) → Walked p old → GoesOn file p head after
      → IsNoted (place_by p.publics head.code) (body_bytes file head.body head.next) old new → Walked after new
  walked-more p head after old new w on noted = subst (λ (q : Passed). Walked q new) (sym on.passed) (record {
    whole = w.whole;
    before = w.before ++ s ∷ [];
    after = gone.rest;
    env = w.env ++ s.decl ∷ [];
    way = gone.on;
    tells = record {
      places = told.0 ∙ sym (places-more 0 w.before s);
      each = λ U row has. subst (λ (bs : List AssertionBody). Tells bs U row) (sym (bodies-more [] (list_at file) w.before w.env p.at s w.way.gone)) (told.1 U row has);
    };
    publics_are = ap (λ (n : ℕ). past_public n (is_local_code (statement_byte head.code))) w.publics_are ∙ ap (past_public (publics_past 0 w.before)) (sym gone.kind.1)
        ∙ sym (publics-more 0 w.before s);
    rows_low = (let a = noted-most (place_by p.publics head.code) (body_bytes file head.body head.next) old new noted in let b = w.rows_low in let c = on.further in
        let d : after.at ≡ head.next = ap (λ (q : Passed). q.at) on.passed in omega (arith, a, b, c, d));
  })
    where
      gone : HasGone file p w.whole w.before w.after w.env head
      gone = way-more file p w.whole w.before w.after w.env head w.way on.next.head_is

      s : Statement
      s = gone.statement

      place : option_to_list (place_by p.publics head.code) ≡ place_there (publics_past 0 w.before) s.is_local s.decl
      place = by-code p.publics head.code s gone.kind ∙ ap (λ (n : ℕ). place_there n s.is_local s.decl) w.publics_are

      bytes : body_bytes file head.body head.next ≡ body_there file (statement_at file p.at)
      bytes = sym (ap (body_there file) (head-here file p.at head on.next.head_is))

      told : (map (λ (r : RowTold). r.place) new ≡ places_from 0 w.before ++ place_there (publics_past 0 w.before) s.is_local s.decl)
          × ((U : ℕ) (row : RowTold) → slice_get new U ≡ Some row → Tells (bodies_of file w.before ++ body_of file p.at s.decl) U row)
      told = told-more w.before old new s.decl s.is_local p.at (place_by p.publics head.code) w.tells place (subst (λ (bs : List ℕ). IsNoted (place_by p.publics head.code) bs old new) bytes noted)

  pub walked-last : (p : Passed) (rows : List RowTold) → Walked p rows → IsListEnd file p.at → TellsFile file rows
  walked-last p rows w end =
      (w.whole, w.way.good, subst (λ (ss : List Statement). TellsAll file ss rows) (sym same) w.tells)
    where
      same : w.whole ≡ w.before
      same = w.way.all ∙ ap (λ (ss : List Statement). w.before ++ ss) (way-last file p w.whole w.before w.after w.env w.way end) ∙ append-nil w.before

  -- ---- what the rows of a whole file are

  pub told-within : (rows : List RowTold) → TellsFile file rows → AreWithin rows
  told-within rows (ss, good, t) U row at k d lt =
      let A = get_or row.axioms k d in
      let has = contains_at row.axioms k A (slice_get-get_or row.axioms k d lt) in
      let low = comes-low (bodies_of file ss) U A (((t.each U row at).axioms A).0 has) in
      let w = slice_get_within rows U row at in
      omega (arith, low, w)

  pub told-few : (rows : List RowTold) → TellsFile file rows → AreFew rows
  told-few rows told k d lt =
      let row = get_or rows k d in
      let at = slice_get-get_or rows k d lt in
      increasing-few row.axioms (length rows) ((told.2.each k row at).in_order) (told-within rows told k row at)

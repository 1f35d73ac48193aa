-- A row more in a table, and the lists of a whole one.
use Rattle.std.proofs.Common.{◌≡◌, ◌∙◌, ◌≤◌, ◌<◌, ◌+◌, ◌^◌, ◌⊎◌, ℕ, Bool, true, false, List, [], ◌∷◌, ◌++◌, map, length, get_or, slice_get, Option, Some, refl, sym, ap, subst, inl, inr, arith, length-append}
use Rattle.std.specs.Prelude.{◌↔◌, All, Contains, MatchBool, IfSome, flat_map, if◌then◌else◌}
use Rattle.std.proofs.lemmas.List.{map_push, map-append, length-map}
use Rattle.std.proofs.lemmas.List.Elements.{All-contains, All-head, All-tail, All-push, All-weaker, All-nil, All-cons, All-append, Contains-append_left, Contains-get_or, Contains-push, Contains-push_cases}
use Rattle.std.proofs.lemmas.Option.{slice_get-get_or}
use Rattle.mz_logic_theory.proofs.Offered.{one_at}
use Rattle.mz_base.proofs.Offered.{contains_at, slice_get-map_at, slice_get-map_back}
use Rattle.mz_cmd.specs.declared.code.StatementCode.{StatementCode}
use Rattle.mz_cmd.specs.declared.code.StatementCode.TheVariants as codes
use Rattle.mz_layout_tables.specs.Heads.{next_row, row_count, rows_after}
use Rattle.mz_layout_tables.specs.Tables.{thm_count}
use Rattle.mz_layout_tables.specs.declared.rows_so_far.Rows.{Rows}
use Rattle.mz_axioms.specs.declared.lists.Support.{Support}
use Rattle.mz_axioms.specs.declared.rows.Place.{Place}
use Rattle.mz_axioms.specs.declared.rows.Row.{Row}
use Rattle.mz_axioms.specs.declared.rows.Table.{Table}
use Rattle.mz_axioms.specs.declared.sets.Node.{Node}
use Rattle.mz_axioms.specs.Kept.{CitesSet, HasSet, IsKept, IsListed, IsSetOf, IsSupport, nodes_of, support_kept, support_told, supports_kept, supports_told, told, told_row}
use Rattle.mz_axioms.specs.Lists.{TheoremSupport, AreSmall}
use Rattle.mz_axioms.specs.Members.{Grows, InSome, IsSet, IsSingle, IsUnion, members}
use Rattle.mz_axioms.specs.Places.{is_listed, place_by}
use Rattle.mz_axioms.specs.Rows.{RowTold, Reaches, IsNoted, AreWithin, AreFew, support_of, supports_at, supports_of}
use Rattle.mz_axioms.proofs.Joining.{members-kept, members-up, set-kept}
use Rattle.mz_axioms.proofs.Numbering.{small}

-- ---- the set of a new row

-- the sets that a body cites have the axioms that it reaches
cited-reach : (nodes : List Node) (height : ℕ) (rows : List Row) (bytes ids : List ℕ) (A : ℕ) → ((id : ℕ) → Contains ids id ↔ CitesSet rows bytes id)
    → InSome nodes height 0 ids A ↔ Reaches (map (told_row nodes height) rows) bytes A
cited-reach nodes height rows bytes ids A cited = (
  λ (id, there, has). (
      let (U, cites, (row, at, is)) = (cited id).0 there in
      (U, cites, (told_row nodes height row, slice_get-map_at (told_row nodes height) rows U row at, subst (λ k. Contains (members nodes height 0 k) A) (sym is) has))
      ),
  λ (U, cites, (row, at, has)). (
      let (r, there, is) = slice_get-map_back (told_row nodes height) rows U row at in
      (r.set, (cited r.set).1 (U, cites, (r, there, refl)), subst (λ (x : RowTold). Contains x.axioms A) (sym is) has)
      ),
)

pub set-of-theorem : (old new : List Node) (height : ℕ) (rows : List Row) (place : Place) (bytes ids : List ℕ) (id : ℕ) → place.is_axiom ≡ false
    → ((k : ℕ) → Contains ids k ↔ CitesSet rows bytes k) → IsUnion old new height ids id → IsSetOf old new height rows place bytes id
set-of-theorem old new height rows place bytes ids id kind cited made = record {
  grows = made.grows;
  is_set = made.is_set;
  holds = λ A.
      (let reach = cited-reach old height rows bytes ids A cited in
      subst (λ (k : Bool). Contains (members new height 0 id) A ↔ MatchBool k (A ≡ length (map (told_row old height) rows)) (Reaches (map (told_row old height) rows) bytes A)) (sym kind)
      (λ has. reach.0 ((made.holds 0 A).0 has), λ r. (made.holds 0 A).1 (reach.1 r)));
}

pub set-of-axiom : (old new : List Node) (height : ℕ) (rows : List Row) (place : Place) (bytes : List ℕ) (n id : ℕ) → place.is_axiom ≡ true → n ≡ length rows → IsSingle old new height n id
    → IsSetOf old new height rows place bytes id
set-of-axiom old new height rows place bytes n id kind last made = record {
  grows = made.grows;
  is_set = made.is_set;
  holds = λ A.
      (let many = length-map rows (told_row old height) in
      let here = made.holds 0 A in
      subst (λ (k : Bool). Contains (members new height 0 id) A ↔ MatchBool k (A ≡ length (map (told_row old height) rows)) (Reaches (map (told_row old height) rows) bytes A)) (sym kind)
      (λ has. (let e = here.0 has in omega (arith, e, many, last)), λ e. here.1 (omega (arith, e, many, last))));
}

-- the same rows
pub sets-of-rows : (rows same : List Row) (bytes ids : List ℕ) → same ≡ rows → ((id : ℕ) → Contains ids id ↔ CitesSet same bytes id) → (id : ℕ) → Contains ids id ↔ CitesSet rows bytes id
sets-of-rows rows same bytes ids is cited = subst (λ (rs : List Row). (id : ℕ) → Contains ids id ↔ CitesSet rs bytes id) is cited

pub cited-sets : (nodes : List Node) (height : ℕ) (rows : List Row) (bytes ids : List ℕ) → ((id : ℕ) → Contains ids id ↔ CitesSet rows bytes id) → All (λ r. IsSet nodes height r.set) rows → All (IsSet nodes height) ids
cited-sets nodes height rows bytes ids cited sets k d lt =
    let (U, cites, (row, at, is)) = (cited (get_or ids k d)).0 (Contains-get_or ids k d lt) in
    subst (IsSet nodes height) is (All-contains (λ (r : Row). IsSet nodes height r.set) rows row sets (contains_at rows U row at))

-- what is had where a row is put
pub put-set : (rows : List Row) (U : ℕ) (row : Row) (old new : List ℕ) → slice_get rows U ≡ Some row → new ≡ old ++ row.set ∷ [] → (id : ℕ) → Contains new id ↔ (Contains old id ⊎ HasSet rows U id)
put-set rows U row old new at pushed id =
    subst (λ (xs : List ℕ). Contains xs id ↔ (Contains old id ⊎ HasSet rows U id)) (sym pushed) (
      λ has. elim (Contains-push_cases old row.set id has) [ inl was ↦ inl was | inr same ↦ inr (row, at, same) ],
      λ h. elim h [
        | inl was ↦ Contains-append_left old (row.set ∷ []) id was
        | inr (r, there, is) ↦ subst (Contains (old ++ row.set ∷ [])) (ap (λ (x : Row). x.set) (one_at at there) ∙ is) (Contains-push old row.set)
      ],
    )

-- ---- a row more

rows-kept : (old new : List Node) (height : ℕ) (rows : List Row) → Grows old new → All (λ r. IsSet old height r.set) rows → map (told_row new height) rows ≡ map (told_row old height) rows
rows-kept old new height [] grows sets = refl
rows-kept old new height (r ∷ rows) grows sets =
    let same : told_row new height r ≡ told_row old height r =
    ap (λ xs. record { place = r.place; axioms = xs }) (members-kept old new height 0 r.set grows (All-head (λ (x : Row). IsSet old height x.set) r rows sets)) in
    ap (λ (x : RowTold). x ∷ map (told_row new height) rows) same ∙ ap (λ (xs : List RowTold). told_row old height r ∷ xs) (rows-kept old new height rows grows (All-tail (λ (x : Row). IsSet old height x.set) r rows sets))

module _ (old new : List Node) (height : ℕ) (rows made : List Row) (place : Place) (bytes : List ℕ) (id : ℕ) (is : IsSetOf old new height rows place bytes id) (sets : All (λ (r : Row). IsSet old height r.set) rows) where
  abbrev row : Row
  row = record { place = place; set = id }

  pub more-noted : (o : Option Place) → o ≡ Some place → made ≡ rows ++ row ∷ [] → IsNoted o bytes (map (told_row old height) rows) (map (told_row new height) made)
  more-noted o at pushed = subst (λ (x : Option Place). IsNoted x bytes (map (told_row old height) rows) (map (told_row new height) made)) (sym at) (
    told_row new height row,
    ap (λ (rs : List Row). map (told_row new height) rs) pushed ∙ map_push (told_row new height) rows row ∙ ap (λ (rs : List RowTold). rs ++ told_row new height row ∷ []) (rows-kept old new height rows is.grows sets),
    record { place_is = refl; in_order = (members-up new height 0 id).0; axioms = is.holds },
  )

  pub more-sets : made ≡ rows ++ row ∷ [] → All (λ r. IsSet new height r.set) made
  more-sets pushed = subst (All (λ (r : Row). IsSet new height r.set)) (sym pushed)
      (All-push (λ (r : Row). IsSet new height r.set) rows row
      (All-weaker (λ (r : Row). IsSet old height r.set) (λ (r : Row). IsSet new height r.set) (λ r set. set-kept old new height r.set is.grows set) rows sets) is.is_set)

-- ---- how many rows

one-more : (old new : List RowTold) (row : RowTold) (n : ℕ) → new ≡ old ++ row ∷ [] → length old ≡ n → length new ≡ n + 1
one-more old new row n pushed is = (let e : length new ≡ length (old ++ row ∷ []) = ap (λ (rs : List RowTold). length rs) pushed in omega (arith, e, is, length-append old (row ∷ [])))

-- a row is left for an axiom or a theorem
pub room-for : (file : List ℕ) (rows : Rows) (publics many span : ℕ) (code : StatementCode) → many ≡ rows.thms → thm_count file ≤ span → next_row rows code < row_count file code → IfSome (place_by publics code) (λ place. many < span)
room-for file rows publics many span codes.Axiom is enough lt = omega (arith, is, enough, lt)
room-for file rows publics many span codes.Theorem is enough lt = omega (arith, is, enough, lt)
room-for file rows publics many span codes.LocalTheorem is enough lt = omega (arith, is, enough, lt)
room-for file rows publics many span _ is enough lt = tt

-- and is counted
pub rows-counted : (rows : Rows) (publics : ℕ) (code : StatementCode) (bytes : List ℕ) (old new : List RowTold) → length old ≡ rows.thms → IsNoted (place_by publics code) bytes old new → length new ≡ (rows_after rows code).thms
rows-counted rows publics codes.Axiom bytes old new is (row, pushed, _) = one-more old new row rows.thms pushed is
rows-counted rows publics codes.Theorem bytes old new is (row, pushed, _) = one-more old new row rows.thms pushed is
rows-counted rows publics codes.LocalTheorem bytes old new is (row, pushed, _) = one-more old new row rows.thms pushed is
rows-counted rows publics _ bytes old new is noted = ap (λ (rs : List RowTold). length rs) noted ∙ is

-- ---- the lists

lists-same : (whole : List RowTold) (nodes : List Node) (height : ℕ) (f : Support → TheoremSupport) → ((r : Row) → f (record { theorem = r.place.number; set = r.set }) ≡ support_of whole (told_row nodes height r))
    → (rows : List Row) → map f (flat_map support_kept rows) ≡ flat_map (supports_at whole) (map (told_row nodes height) rows)
lists-same whole nodes height f same [] = refl
lists-same whole nodes height f same (r ∷ rows) =
    map-append f (support_kept r) (flat_map support_kept rows)
    ∙ ap (λ (ss : List TheoremSupport). ss ++ map f (flat_map support_kept rows)) (one (is_listed r.place))
    ∙ ap (λ (ss : List TheoremSupport). supports_at whole (told_row nodes height r) ++ ss) (lists-same whole nodes height f same rows)
  where
    one : (b : Bool) → map f (if b then record { theorem = r.place.number; set = r.set } ∷ [] else []) ≡ (if b then support_of whole (told_row nodes height r) ∷ [] else [])
    one true = ap (λ (s : TheoremSupport). s ∷ []) (same r)
    one false = refl

pub lists-told : (table : Table) (supports : List Support) → supports ≡ supports_kept table.rows.items → supports_told table supports ≡ supports_of (told table)
lists-told table supports is =
    ap (λ (ss : List Support). supports_told table ss) is ∙ lists-same (told table) (nodes_of table) table.size.height (support_told table) (λ r. refl) table.rows.items

lists-supported : (table : Table) (rows : List Row) → All (λ r. IsSupport table (record { theorem = r.place.number; set = r.set })) rows → All (IsSupport table) (flat_map support_kept rows)
lists-supported table [] h = All-nil (IsSupport table)
lists-supported table (r ∷ rows) h =
    All-append (IsSupport table) (support_kept r) (flat_map support_kept rows) (one (is_listed r.place)) (lists-supported table rows (All-tail (λ (x : Row). IsSupport table (record { theorem = x.place.number; set = x.set })) r rows h))
  where
    one : (b : Bool) → All (IsSupport table) (if b then record { theorem = r.place.number; set = r.set } ∷ [] else [])
    one true = All-cons (IsSupport table) (record { theorem = r.place.number; set = r.set }) [] (All-head (λ (x : Row). IsSupport table (record { theorem = x.place.number; set = x.set })) r rows h) (All-nil (IsSupport table))
    one false = All-nil (IsSupport table)

pub listed : (table : Table) (supports : List Support) → IsKept table → AreWithin (told table) → AreFew (told table) → length table.rows.items < 2 ^ 32 → supports ≡ supports_kept table.rows.items → IsListed table supports
listed table supports kept within few many is = record {
  kept = kept;
  each = subst (All (IsSupport table)) (sym is) (lists-supported table table.rows.items (λ k d lt. one k (get_or table.rows.items k d) (slice_get-get_or table.rows.items k d lt) (kept.sets k d lt)));
  small = subst AreSmall (sym (lists-told table supports is)) (small (told table) (let e = length-map table.rows.items (told_row (nodes_of table) table.size.height) in omega (arith, e, many)) few);
}
  where
    one : (U : ℕ) (r : Row) → slice_get table.rows.items U ≡ Some r → IsSet (nodes_of table) table.size.height r.set → IsSupport table (record { theorem = r.place.number; set = r.set })
    one U r at set = record {
      is_set = set;
      within = within U (told_row (nodes_of table) table.size.height r) (slice_get-map_at (told_row (nodes_of table) table.size.height) table.rows.items U r at);
    }

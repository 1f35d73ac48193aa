-- The ends of rows, found from the last row back.
use Rattle.std.proofs.Common.{ℕ, ◌≡◌, ◌<◌, ◌≤◌, ◌+◌, List, length, get_or, set, map, drop, sym, ap, subst, ◌∙◌, arith, inl, inr}
use Rattle.std.specs.Prelude.{◌⊎◌}
use Rattle.std.proofs.lemmas.List.{length-map, get_or-set_same, get_or-set_other}
use Rattle.mz_sexpr.specs.declared.sexprs.Row.{Row}
use Rattle.mz_sexpr.specs.Rows.{Entry, entry, entry_at, level, EndsAt, EndFrom}
use Rattle.mz_sexpr.proofs.Numbered.{passed_over}
use Rattle.mz_sexpr.proofs.RowLemmas.{entry_is, below_entries}

abbrev pub AllEndFrom : List Row → List ℕ → ℕ → Type 0
AllEndFrom rows ends n = (text : List ℕ) → EndFrom (map (entry text) rows) ends n

pub end_known : (text : List ℕ) (rows : List Row) (ends : List ℕ) (n m : ℕ) → AllEndFrom rows ends n → n ≤ m → m < length rows → EndsAt (map (entry text) rows) m (get_or ends m 0)
end_known text rows ends n m known h k = known text m h (below_entries text rows m k)

pub end_within : (text : List ℕ) (rows : List Row) (ends : List ℕ) (n m : ℕ) → AllEndFrom rows ends n → n ≤ m → m < length rows → get_or ends m 0 ≤ length rows
end_within text rows ends n m known h k = subst (λ l. get_or ends m 0 ≤ l) (length-map rows (entry text)) (end_known text rows ends n m known h k).within

-- past a row that is deeper, and its parts
pub skipped : (text : List ℕ) (rows : List Row) (ends : List ℕ) (m d k : ℕ) (r : Row) → m < length rows → EndsAt (map (entry text) rows) m (get_or ends m 0)
    → d < (get_or rows m r).depth → k ≤ d → level (drop (get_or ends m 0) (map (entry text) rows)) k ≡ level (drop m (map (entry text) rows)) k
skipped text rows ends m d k r here ended below h =
    let deep : (entry_at (map (entry text) rows) m).depth ≡ (get_or rows m r).depth = ap (λ (e : Entry). e.depth) (entry_is text rows m r here) in
    ended.same k (omega arith) ∙ sym (passed_over (map (entry text) rows) m k (below_entries text rows m here) (omega arith))

same_or_later : (n m : ℕ) → n ≤ m → (m ≡ n) ⊎ (n + 1 ≤ m)
same_or_later n m h = grind arith

-- one end more
pub end_set : (rows : List Row) (ends : List ℕ) (n e : ℕ) → n < length ends → AllEndFrom rows ends (n + 1) → ((text : List ℕ) → EndsAt (map (entry text) rows) n e) → AllEndFrom rows (set ends n e) n
end_set rows ends n e here known new = λ text m h k. go text m k (same_or_later n m h)
  where
    go : (text : List ℕ) (m : ℕ) → m < length (map (entry text) rows) → (m ≡ n) ⊎ (n + 1 ≤ m) → EndsAt (map (entry text) rows) m (get_or (set ends n e) m 0)
    go text m k (inl is) =
        subst (λ i. EndsAt (map (entry text) rows) i (get_or (set ends n e) i 0)) (sym is)
        (subst (EndsAt (map (entry text) rows) n) (sym (get_or-set_same ends n e 0 here)) (new text))
    go text m k (inr later) =
        let other : get_or (set ends n e) m 0 ≡ get_or ends m 0 = get_or-set_other ends n m e 0 (λ q. omega (arith, q, later)) in
        subst (EndsAt (map (entry text) rows) m) (sym other) (known text m later k)

-- A row of the code and its entry.
use Rattle.std.proofs.Common.{ℕ, ◌≡◌, ◌<◌, List, length, get_or, map, sym, subst}
use Rattle.std.proofs.lemmas.List.{get_or-map, length-map}
use Rattle.mz_sexpr.specs.declared.sexprs.Row.{Row}
use Rattle.mz_sexpr.specs.Rows.{entry, entry_at, no_entry}

pub entry_is : (text : List ℕ) (rows : List Row) (n : ℕ) (r : Row) → n < length rows → entry_at (map (entry text) rows) n ≡ entry text (get_or rows n r)
entry_is text rows n r h = get_or-map (entry text) rows n r no_entry h

pub below_entries : (text : List ℕ) (rows : List Row) (n : ℕ) → n < length rows → n < length (map (entry text) rows)
below_entries text rows n h = subst (λ k. n < k) (sym (length-map rows (entry text))) h

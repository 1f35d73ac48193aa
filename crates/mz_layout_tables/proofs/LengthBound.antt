-- How long a file in the normal layout is at most.
use Rattle.std.proofs.Common.{◌≤◌, ◌+◌, ◌*◌, ℕ, List, [], ◌∷◌, length, arith}
use Rattle.std.proofs.lemmas.List.{length-append}
use Rattle.std.proofs.lemmas.Bool.Decides.{nat_tests}
use Rattle.mz_layout_tables.specs.Normal.{Row, Written, Parts, gap, row_block, blocks, distance, statement_bytes, list_bytes, file_length}
use Rattle.mz_layout_tables.specs.NormalLaws.{rows_cost, statements_cost}
use Rattle.mz_layout_tables.proofs.FileParts.{length-blocks-append}
use Rattle.mz_layout_tables.proofs.PieceLengths.{length-block, length-statement}

gap-small : (n : ℕ) → gap n ≤ 7
gap-small n = omega arith

-- a row takes 8 bytes of the table, and its block
blocks-bound : (rs : List Row) → 8 * length rs + length (blocks rs) ≤ rows_cost rs
blocks-bound [] = omega arith
blocks-bound (r ∷ rs) =
    omega (arith, length-append (row_block r) (blocks rs), length-block r.words r.stream, gap-small (8 * length r.words + length r.stream), blocks-bound rs)

distance-bound : (n : ℕ) → distance n ≤ 5 + n
distance-bound n = grind (arith, nat_tests)

list-bound : (ss : List Written) → length (list_bytes ss) ≤ 1 + statements_cost ss
list-bound [] = omega arith
list-bound (s ∷ ss) = omega (arith, length-append (statement_bytes s) (list_bytes ss), length-statement s, distance-bound (length s.body), list-bound ss)

pub file-bound : (p : Parts) → file_length p ≤ 48 + length p.sorts + rows_cost p.terms + rows_cost p.thms + statements_cost p.statements
file-bound p = omega (arith, gap-small (40 + length p.sorts), length-blocks-append p.terms p.thms, blocks-bound p.terms, blocks-bound p.thms, list-bound p.statements)

-- The parts of a file, joined.
use Rattle.std.proofs.Common.{◌≡◌, ◌≤◌, ◌+◌, ℕ, List, [], ◌∷◌, ◌++◌, length, replicate, refl, sym, ap, ◌∙◌, arith, append_assoc}
use Rattle.std.proofs.lemmas.List.{length-append}
use Rattle.mz_layout_tables.specs.Normal.{Row, Written, Parts, gap, padded, row_block, blocks, record_bytes, table, statement_bytes, list_bytes, header_bytes, header_of, rows, rows_place, file_of}
use Rattle.mz_layout_tables.specs.declared.header.Header.{Header}

pub blocks-append : (rs ss : List Row) → blocks (rs ++ ss) ≡ blocks rs ++ blocks ss
blocks-append [] ss = refl
blocks-append (r ∷ rs) ss = ap (λ (x : List ℕ). row_block r ++ x) (blocks-append rs ss) ∙ sym (append_assoc (row_block r) (blocks rs) (blocks ss))

pub length-blocks-append : (rs ss : List Row) → length (blocks (rs ++ ss)) ≡ length (blocks rs) + length (blocks ss)
length-blocks-append rs ss = ap length (blocks-append rs ss) ∙ length-append (blocks rs) (blocks ss)

pub table-append : (at : ℕ) (rs ss : List Row) → table at (rs ++ ss) ≡ table at rs ++ table (at + length (blocks rs)) ss
table-append at [] ss = ap (λ (k : ℕ). table k ss) (let e : at ≡ at + 0 = omega arith in e)
table-append at (r ∷ rs) ss =
    let e : (at + length (row_block r)) + length (blocks rs) ≡ at + length (row_block r ++ blocks rs) = omega (arith, length-append (row_block r) (blocks rs)) in
    ap (λ (x : List ℕ). record_bytes at r ++ x) (table-append (at + length (row_block r)) rs ss ∙ ap (λ (k : ℕ). table (at + length (row_block r)) rs ++ table k ss) e)
    ∙ sym (append_assoc (record_bytes at r) (table (at + length (row_block r)) rs) (table (at + length (row_block r ++ blocks rs)) ss))

pub length-header : (h : Header) → length (header_bytes h) ≡ 40
unfolding header_bytes
length-header h = refl

pub length-list : (ss : List Written) → 1 ≤ length (list_bytes ss)
length-list [] = omega arith
length-list (s ∷ ss) = omega (arith, length-append (statement_bytes s) (list_bytes ss), length-list ss)

-- the header and the sorts, piece by piece
pub front-written : (old a b new : List ℕ) (h : Header) (sorts : List ℕ) (g : ℕ) → a ≡ old ++ header_bytes h → b ≡ a ++ sorts → g ≡ gap (40 + length sorts) → new ≡ b ++ replicate g 0 → new ≡ old ++ padded (header_bytes h ++ sorts)
front-written old a b new h sorts g ea eb eg en =
    let n : length (header_bytes h ++ sorts) ≡ 40 + length sorts = omega (arith, length-append (header_bytes h) sorts, length-header h) in
    rw (en, eb, ea, eg, n) (simp append_assoc)

pub rows-written : (old a b new : List ℕ) (at : ℕ) (rs ss : List Row) → a ≡ old ++ table at (rs ++ ss) → b ≡ a ++ blocks rs → new ≡ b ++ blocks ss → new ≡ old ++ (table at (rs ++ ss) ++ blocks (rs ++ ss))
rows-written old a b new at rs ss ea eb en = rw (en, eb, ea, blocks-append rs ss) (simp append_assoc)

pub file-written : (old a b new : List ℕ) (p : Parts) (h : Header) (at : ℕ) → h ≡ header_of p → at ≡ rows_place p → a ≡ old ++ padded (header_bytes h ++ p.sorts) → b ≡ a ++ (table at (rows p) ++ blocks (rows p)) → new ≡ b ++ list_bytes p.statements → new ≡ old ++ file_of p
unfolding file_of
file-written old a b new p h at eh e ea eb en = rw (en, eb, ea, eh, e) (simp append_assoc)

pub ruleset sizes = (length-blocks-append, table-append, length-list, append_assoc)

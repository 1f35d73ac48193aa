-- The rows of a file in the normal layout, as they are read.
use Rattle.std.proofs.Common.{◌≡◌, ◌<◌, ◌+◌, ◌*◌, ◌^◌, ◌/◌, ◌%◌, ℕ, zero, suc, Bool, true, false, eqb, List, [], ◌∷◌, ◌++◌, length, slice_get, Option, Some, None, refl, sym, ap, subst, ◌∙◌, arith}
use Rattle.std.proofs.lemmas.List.{length-append, append-nil}
use Rattle.std.proofs.lemmas.Bool.Decides.{nat_tests}
use Rattle.mz_base.proofs.Offered.{slice_get-append, slice_get-append_add}
use Rattle.mz_logic_theory.specs.declared.word.Word.{Word}
use Rattle.mz_logic_theory.specs.Words.{word_sort}
use Rattle.mz_layout_tables.specs.Numbers.{byte_at}
use Rattle.mz_layout_tables.specs.Tables.{TermRow, ThmRow, mods_of, term_record, thm_record, term_row, thm_row, param_count, words_at, word_at, params_of}
use Rattle.mz_layout_tables.specs.Normal.{Row, Parts, row_of_term, row_of_thm, rows, terms_place, thms_place, rows_place, file_length, file_of}
use Rattle.mz_layout_tables.specs.NormalLaws.{written_term, written_thm}
use Rattle.mz_layout_tables.specs.Standing.{Stands, HasRoom, Fit, block_place}
use Rattle.mz_layout_tables.proofs.ListLaws.{slice_get-All}
use Rattle.mz_layout_tables.proofs.StandingLaws.{stands-at, stands-byte, stands-second, stands-record, stands-block}
use Rattle.mz_layout_tables.proofs.PartsStand.{counts-said, file-length, tables-stand, blocks-stand, sorts-stand}
use Rattle.mz_layout_tables.proofs.RowsRead.{IsRowAt, row-read, word-read, params-read}

-- the i-th of all rows
row-stands : (p : Parts) → file_length p < 2 ^ 32 → (i : ℕ) (r : Row) → r.params < 2 ^ 16 → slice_get (rows p) i ≡ Some r → IsRowAt (file_of p) (terms_place p + 8 * i) (block_place (rows_place p) (rows p) i) r
row-stands p short i r few e =
    let b = stands-block (file_of p) (rows_place p) (rows p) i r (blocks-stand p) e in
    let low : block_place (rows_place p) (rows p) i < 2 ^ 32 = omega (arith, b.within, file-length p) in
    row-read (file_of p) (terms_place p + 8 * i) (block_place (rows_place p) (rows p) i) r few low
    (stands-record (file_of p) (terms_place p) (rows_place p) (rows p) i r (tables-stand p) e) b

pub term-stands : (p : Parts) → Fit p → (t : ℕ) (r : Row) → slice_get p.terms t ≡ Some r → IsRowAt (file_of p) (term_record (file_of p) t) (block_place (rows_place p) (rows p) t) r
term-stands p fit t r e =
    let few : r.params < 2 ^ 16 = (slice_get-All (HasRoom 1) p.terms t r fit.room.terms e).few_params in
    subst (λ k. IsRowAt (file_of p) (k + 8 * t) (block_place (rows_place p) (rows p) t) r) (sym (counts-said p fit.short).terms_at)
    (row-stands p fit.short t r few (slice_get-append p.terms p.thms t r e))

pub thm-stands : (p : Parts) → Fit p → (i : ℕ) (r : Row) → slice_get p.thms i ≡ Some r → IsRowAt (file_of p) (thm_record (file_of p) i) (block_place (rows_place p) (rows p) (length p.terms + i)) r
thm-stands p fit i r e =
    let few : r.params < 2 ^ 16 = (slice_get-All (HasRoom 0) p.thms i r fit.room.thms e).few_params in
    let place : terms_place p + 8 * (length p.terms + i) ≡ thm_record (file_of p) i = (let z : terms_place p + 8 * (length p.terms + i) ≡ thms_place p + 8 * i = omega arith in z) ∙ ap (λ (k : ℕ). k + 8 * i) (sym (counts-said p fit.short).thms_at) in
    subst (λ k. IsRowAt (file_of p) k (block_place (rows_place p) (rows p) (length p.terms + i)) r) place
    (row-stands p fit.short (length p.terms + i) r few (slice_get-append_add p.terms p.thms i ∙ e))

-- ---- terms

plain-mark : (s : ℕ) → s < 128 → (eqb (s / 128) 1 ≡ false) × (s % 128 ≡ s)
plain-mark s h = (grind (arith, nat_tests), omega arith)

defined-mark : (s : ℕ) → s < 128 → (eqb ((s + 128) / 128) 1 ≡ true) × ((s + 128) % 128 ≡ s)
defined-mark s h = (grind (arith, nat_tests), omega arith)

sort-fits : (w : Word) → word_sort w < 128
sort-fits w = omega arith

-- the parts of a term's row, from its record's third byte
abbrev row_from : List Word → Word → ℕ → ℕ → ℕ → TermRow
row_from params result mark place n = record {
  words = record { params = params; result = result; has_body = eqb (mark / 128) 1 };
  sort = mark % 128;
  words_at = place;
  stream_at = place + 8 * (n + 1);
}

term-from : (file : List ℕ) (at place : ℕ) (r : Row) (params : List Word) (ret : Word) → IsRowAt file at place r → HasRoom 1 r → r.words ≡ params ++ ret ∷ [] → r.params ≡ length params → (row : TermRow) → row ≡ row_from (params_of file at) (word_at file at (param_count file at)) (byte_at file (at + 2)) (words_at file at) (param_count file at) → row ≡ row_from params ret r.mark place (length params)
term-from file at place r params ret stands room e n row is =
    let ps : params_of file at ≡ params = params-read file at place r params (ret ∷ []) stands room.words e n in
    let count : param_count file at ≡ length params = stands.params ∙ n in
    let last : slice_get r.words (length params) ≡ Some ret = rw e ((let z : slice_get (params ++ ret ∷ []) (length params) ≡ slice_get (params ++ ret ∷ []) (length params + 0) = ap (λ (k : ℕ). slice_get (params ++ ret ∷ []) k) (let y : length params ≡ length params + 0 = omega arith in y) in z) ∙ slice_get-append_add params (ret ∷ []) 0) in
    let res : word_at file at (param_count file at) ≡ ret = ap (word_at file at) count ∙ word-read file at place r (length params) ret stands room.words last in
    is ∙ ap (λ (x : List Word). row_from x (word_at file at (param_count file at)) (byte_at file (at + 2)) (words_at file at) (param_count file at)) ps
    ∙ ap (λ (x : Word). row_from params x (byte_at file (at + 2)) (words_at file at) (param_count file at)) res
    ∙ ap (λ (x : ℕ). row_from params ret x (words_at file at) (param_count file at)) stands.mark
    ∙ ap (λ (x : ℕ). row_from params ret r.mark x (param_count file at)) stands.words_at
    ∙ ap (λ (x : ℕ). row_from params ret r.mark place x) count

pub term-read : (p : Parts) → Fit p → (t : ℕ) (params : List Word) (ret : Word) (unify : Option (List ℕ)) → slice_get p.terms t ≡ Some (row_of_term params ret unify) → term_row (file_of p) t ≡ written_term params ret unify (block_place (rows_place p) (rows p) t)
term-read p fit t params ret None e =
    let r : Row = row_of_term params ret None in
    let place : ℕ = block_place (rows_place p) (rows p) t in
    let m = plain-mark (word_sort ret) (sort-fits ret) in
    term-from (file_of p) (term_record (file_of p) t) place r params ret (term-stands p fit t r e) (slice_get-All (HasRoom 1) p.terms t r fit.room.terms e) refl refl (term_row (file_of p) t) refl
    ∙ ap (λ (b : Bool). record { words = record { params = params; result = ret; has_body = b }; sort = word_sort ret % 128; words_at = place; stream_at = place + 8 * (length params + 1) }) m.0
    ∙ ap (λ (s : ℕ). record { words = record { params = params; result = ret; has_body = false }; sort = s; words_at = place; stream_at = place + 8 * (length params + 1) }) m.1
term-read p fit t params ret (Some stream) e =
    let r : Row = row_of_term params ret (Some stream) in
    let place : ℕ = block_place (rows_place p) (rows p) t in
    let m = defined-mark (word_sort ret) (sort-fits ret) in
    term-from (file_of p) (term_record (file_of p) t) place r params ret (term-stands p fit t r e) (slice_get-All (HasRoom 1) p.terms t r fit.room.terms e) refl refl (term_row (file_of p) t) refl
    ∙ ap (λ (b : Bool). record { words = record { params = params; result = ret; has_body = b }; sort = (word_sort ret + 128) % 128; words_at = place; stream_at = place + 8 * (length params + 1) }) m.0
    ∙ ap (λ (s : ℕ). record { words = record { params = params; result = ret; has_body = true }; sort = s; words_at = place; stream_at = place + 8 * (length params + 1) }) m.1

pub term-stream : (p : Parts) → Fit p → (t : ℕ) (params : List Word) (ret : Word) (stream : List ℕ) → slice_get p.terms t ≡ Some (row_of_term params ret (Some stream)) → Stands (file_of p) (block_place (rows_place p) (rows p) t + 8 * (length params + 1)) stream
term-stream p fit t params ret stream e =
    let r : Row = row_of_term params ret (Some stream) in
    let place : ℕ = block_place (rows_place p) (rows p) t in
    stands-at (file_of p) (place + 8 * length r.words) (place + 8 * (length params + 1)) stream (omega (arith, length-append params (ret ∷ []))) (term-stands p fit t r e).stream

-- ---- axioms and theorems

abbrev thm_from : List Word → ℕ → ℕ → ThmRow
thm_from params place n = record { params = params; words_at = place; stream_at = place + 8 * n }

pub thm-read : (p : Parts) → Fit p → (i : ℕ) (params : List Word) (stream : List ℕ) → slice_get p.thms i ≡ Some (row_of_thm params stream) → thm_row (file_of p) i ≡ written_thm params (block_place (rows_place p) (rows p) (length p.terms + i))
thm-read p fit i params stream e =
    let r : Row = row_of_thm params stream in
    let file : List ℕ = file_of p in
    let at : ℕ = thm_record (file_of p) i in
    let place : ℕ = block_place (rows_place p) (rows p) (length p.terms + i) in
    let stands = thm-stands p fit i r e in
    let room = slice_get-All (HasRoom 0) p.thms i r fit.room.thms e in
    let ps : params_of (file_of p) at ≡ params = params-read (file_of p) at place r params [] stands room.words (let z : params ≡ params ++ [] = sym (append-nil params) in z) refl in
    ap (λ (x : List Word). thm_from x (words_at (file_of p) at) (param_count (file_of p) at)) ps
    ∙ ap (λ (x : ℕ). thm_from params x (param_count (file_of p) at)) stands.words_at
    ∙ ap (λ (x : ℕ). thm_from params place x) stands.params

pub thm-stream : (p : Parts) → Fit p → (i : ℕ) (params : List Word) (stream : List ℕ) → slice_get p.thms i ≡ Some (row_of_thm params stream) → Stands (file_of p) (block_place (rows_place p) (rows p) (length p.terms + i) + 8 * length params) stream
thm-stream p fit i params stream e = (thm-stands p fit i (row_of_thm params stream) e).stream

-- ---- sorts

sort-byte : (file : List ℕ) (at : ℕ) (ms : List ℕ) (s m : ℕ) → Stands file at ms → slice_get ms s ≡ Some m → byte_at file (at + s) ≡ m
sort-byte file at [] s m st e = absurd (let no : None ≡ Some m = e in cc)
sort-byte file at (x ∷ ms) zero m st e = ap (byte_at file) (let z : at + 0 ≡ at = omega arith in z) ∙ stands-byte file at x ms st ∙ (let f : Some x ≡ Some m = e in cc)
sort-byte file at (x ∷ ms) (suc s) m st e = ap (byte_at file) (let z : at + suc s ≡ (at + 1) + s = omega arith in z) ∙ sort-byte file (at + 1) ms s m (stands-second file at (x ∷ []) ms st) e

pub mods-read : (p : Parts) → Fit p → (s m : ℕ) → slice_get p.sorts s ≡ Some m → mods_of (file_of p) s ≡ record { 0 = m }
mods-read p fit s m e =
    let b : byte_at (file_of p) (40 + s) ≡ m = sort-byte (file_of p) 40 p.sorts s m (sorts-stand p) e in
    let low : m < 16 = slice_get-All (λ x. x < 16) p.sorts s m fit.room.mods e in
    let n : byte_at (file_of p) (40 + s) % 16 ≡ m = ap (λ (k : ℕ). k % 16) b ∙ (let z : m % 16 ≡ m = omega arith in z) in
    ap (λ (k : ℕ). record { 0 = k }) n

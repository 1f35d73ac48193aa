-- What is read of a row that stands in a file.
use Rattle.std.proofs.Common.{◌≡◌, ◌≤◌, ◌<◌, ◌+◌, ◌*◌, ◌^◌, ℕ, List, [], ◌∷◌, ◌++◌, length, slice_get, Some, map, ap, ◌∙◌, arith}
use Rattle.std.specs.List.{range_with_len, All}
use Rattle.mz_base.proofs.Offered.{slice_get-append}
use Rattle.byteorder.specs.Endian.{little_bytes}
use Rattle.mz_logic_theory.specs.declared.word.Word.{Word}
use Rattle.mz_layout_tables.specs.Numbers.{byte_at, number_at}
use Rattle.mz_layout_tables.specs.Tables.{param_count, words_at, word_at, params_of}
use Rattle.mz_layout_tables.specs.Normal.{Row, words_bytes, row_bytes, row_block, record_bytes}
use Rattle.mz_layout_tables.specs.Standing.{Stands}
use Rattle.mz_layout_tables.proofs.ListLaws.{slice_get-All, map-range}
use Rattle.mz_layout_tables.proofs.PieceLengths.{length-words_bytes}
use Rattle.mz_layout_tables.proofs.StandingLaws.{stands-first, stands-second, stands-at, stands-byte, stands-number, stands-word}

-- a row is read at its record's place: its record, and the words and the stream to which that points
pub record IsRowAt (file : List ℕ) (at place : ℕ) (r : Row) : Type 0 where
  pub record_within : at + 8 ≤ length file
  pub params : param_count file at ≡ r.params
  pub mark : byte_at file (at + 2) ≡ r.mark
  pub words_at : words_at file at ≡ place
  pub words : Stands file place (words_bytes r.words)
  pub stream : Stands file (place + 8 * length r.words) r.stream

pub row-read : (file : List ℕ) (at place : ℕ) (r : Row) → r.params < 2 ^ 16 → place < 2 ^ 32 → Stands file at (record_bytes place r) → Stands file place (row_block r) → IsRowAt file at place r
row-read file at place r few low s b =
    let s2 = stands-second file at (little_bytes 2 r.params) (r.mark ∷ 0 ∷ little_bytes 4 place) s in
    let s4 = stands-second file (at + 2) (r.mark ∷ 0 ∷ []) (little_bytes 4 place) s2 in
    let bytes = stands-first file place (row_bytes r) _ b in
    record {
      record_within = s.within;
      params = stands-number 2 file at r.params (omega arith) (stands-first file at (little_bytes 2 r.params) (r.mark ∷ 0 ∷ little_bytes 4 place) s);
      mark = stands-byte file (at + 2) r.mark (0 ∷ little_bytes 4 place) s2;
      words_at = stands-number 4 file (at + 4) place (omega arith) (stands-at file ((at + 2) + 2) (at + 4) (little_bytes 4 place) (omega arith) s4);
      words = stands-first file place (words_bytes r.words) r.stream bytes;
      stream = stands-at file (place + length (words_bytes r.words)) (place + 8 * length r.words) r.stream (omega (arith, length-words_bytes r.words)) (stands-second file place (words_bytes r.words) r.stream bytes);
    }

-- one word
pub word-read : (file : List ℕ) (at place : ℕ) (r : Row) (j : ℕ) (w : Word) → IsRowAt file at place r → All (λ v. v.0 < 2 ^ 64) r.words → slice_get r.words j ≡ Some w → word_at file at j ≡ w
word-read file at place r j w row fit e =
    let low : w.0 < 2 ^ 64 = slice_get-All (λ v. v.0 < 2 ^ 64) r.words j w fit e in
    let n : number_at 8 file (place + 8 * j) ≡ w.0 = stands-number 8 file (place + 8 * j) w.0 (omega arith) (stands-word file place r.words j w row.words e) in
    let m : number_at 8 file (words_at file at + 8 * j) ≡ w.0 = ap (λ (k : ℕ). number_at 8 file (k + 8 * j)) row.words_at ∙ n in
    ap (λ (k : ℕ). record { 0 = k }) m

-- the parameters' words, of which the row's are the first
pub params-read : (file : List ℕ) (at place : ℕ) (r : Row) (ps rest : List Word) → IsRowAt file at place r → All (λ v. v.0 < 2 ^ 64) r.words → r.words ≡ ps ++ rest → r.params ≡ length ps → params_of file at ≡ ps
params-read file at place r ps rest row fit e n =
    ap (λ (k : ℕ). map (word_at file at) (range_with_len 0 k)) (row.params ∙ n)
    ∙ map-range (word_at file at) ps (λ j w is. word-read file at place r j w row fit (rw e (slice_get-append ps rest j w is)))

-- How long the pieces of the normal layout are.
use Rattle.std.proofs.Common.{◌≡◌, ◌+◌, ◌*◌, ℕ, List, [], ◌∷◌, ◌++◌, length, replicate, refl, ap, ◌∙◌, arith, append_assoc}
use Rattle.std.proofs.lemmas.List.{length-append, length-replicate}
use Rattle.std.proofs.lemmas.Bool.Decides.{nat_tests}
use Rattle.byteorder.specs.Endian.{little_bytes}
use Rattle.byteorder.specs.Numbers.{length-bytes_low_first}
use Rattle.mz_cmd.specs.Spelling.{operand_len, shortest_size, shortest}
use Rattle.mz_logic_theory.specs.declared.word.Word.{Word}
use Rattle.mz_layout_tables.specs.Normal.{Written, gap, padded, words_bytes, distance, statement_bytes}

pub length-words_bytes : (ws : List Word) → length (words_bytes ws) ≡ 8 * length ws
length-words_bytes [] = refl
length-words_bytes (w ∷ ws) = omega (arith, length-append (little_bytes 8 w.0) (words_bytes ws), length-words_bytes ws)

pub length-padded : (bytes : List ℕ) → length (padded bytes) ≡ length bytes + gap (length bytes)
length-padded bytes = omega (arith, length-append bytes (replicate (gap (length bytes)) 0), length-replicate {A = ℕ} (gap (length bytes)) 0)

pub length-row_bytes : (ws : List Word) (stream : List ℕ) → length (words_bytes ws ++ stream) ≡ 8 * length ws + length stream
length-row_bytes ws stream = omega (arith, length-append (words_bytes ws) stream, length-words_bytes ws)

pub length-block : (ws : List Word) (stream : List ℕ) → length (padded (words_bytes ws ++ stream)) ≡ (8 * length ws + length stream) + gap (8 * length ws + length stream)
length-block ws stream = length-padded (words_bytes ws ++ stream) ∙ ap (λ (k : ℕ). k + gap k) (length-row_bytes ws stream)

-- a block written piece by piece
pub block-written : (old front middle new : List ℕ) (ws : List Word) (stream : List ℕ) (g : ℕ) → front ≡ old ++ words_bytes ws → middle ≡ front ++ stream → g ≡ gap (8 * length ws + length stream) → new ≡ middle ++ replicate g 0 → new ≡ old ++ padded (words_bytes ws ++ stream)
block-written old front middle new ws stream g e f k h =
    rw (h, f, e, k, length-row_bytes ws stream) (simp append_assoc)

length-shortest : (code value : ℕ) → length (shortest code value) ≡ operand_len (shortest_size value) + 1
length-shortest code value = omega (arith, length-bytes_low_first 0 (operand_len (shortest_size value)) value)

pub length-statement : (s : Written) → length (statement_bytes s) ≡ distance (length s.body)
length-statement s = length-append (shortest s.code (distance (length s.body))) s.body ∙ ap (λ (k : ℕ). k + length s.body) (length-shortest s.code (distance (length s.body))) ∙ go (length s.body)
  where
    go : (n : ℕ) → operand_len (shortest_size (distance n)) + 1 + n ≡ distance n
    go n = grind (arith, nat_tests)

pub ruleset piece_lengths = (length-row_bytes, length-block, length-statement)

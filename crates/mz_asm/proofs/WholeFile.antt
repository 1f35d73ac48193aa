-- A file that is normal by its bytes, whole.
use Rattle.std.proofs.Common.{◌≡◌, ◌≤◌, ◌<◌, ◌+◌, ◌*◌, ◌%◌, ◌^◌, inl, inr, ℕ, zero, suc, Bool, true, false, cond, List, [], ◌∷◌, ◌++◌, length, map, take, drop, replicate, codes, refl, sym, ap, subst, ◌∙◌, arith, append_assoc}
use Rattle.std.specs.List.{range_with_len}
use Rattle.std.proofs.lemmas.List.{length-append, length-replicate, take-append-drop}
use Rattle.std.proofs.lemmas.Bool.{le-ltb, cases_lt}
use Rattle.byteorder.specs.Endian.{little_bytes}
use Rattle.mz_base.specs.Checks.{AllHold}
use Rattle.mz_cmd.specs.declared.code.StatementCode.{StatementCode}
use Rattle.mz_cmd.specs.declared.code.StatementCode.TheVariants as codes_of
use Rattle.mz_logic_theory.specs.declared.word.Word.{Word}
use Rattle.mz_layout_tables.specs.Numbers.{byte_at, number_at}
use Rattle.mz_layout_tables.specs.Tables.{sort_count, term_count, thm_count, terms_at, thms_at, list_at, term_record, thm_record, param_count, words_at, word_at, term_row, thm_row}
use Rattle.mz_layout_tables.specs.declared.header.Header.{Header}
use Rattle.mz_layout_tables.specs.Normal.{Parts, no_parts, gap, padded, blocks, table, list_bytes, header_bytes, header_of, rows, terms_place, thms_place, rows_place, file_of}
use Rattle.mz_layout_tables.specs.Standing.{Stands}
use Rattle.mz_layout_tables.specs.Layout.{HoldsParts}
use Rattle.mz_layout_tables.specs.Heads.{AllTaken}
use Rattle.mz_layout_tables.proofs.Offered.{file-length, length-params, parts-of_layout}
use Rattle.mz_show.specs.declared.place.Place.{Place}
use Rattle.mz_show.specs.Listing.{Chain}
use Rattle.mz_show.specs.Statements.{Statement as Shown, Stands as StandsThere, first_place, after, has_streams, statement_checks}
use Rattle.mz_show.specs.Streams.{Run}
use Rattle.mz_asm.specs.declared.line.Line.{Line}
use Rattle.mz_asm.specs.declared.line.Line.TheVariants as lines
use Rattle.mz_asm.specs.declared.rows.Rows.{Rows}
use Rattle.mz_asm.specs.Rows.{no_rows}
use Rattle.mz_asm.specs.Statements.{Statement, statement_lines, all_lines, listing_lines, parts_of}
use Rattle.mz_asm.proofs.Plain.{IsMade}
use Rattle.mz_asm.specs.NormalBytes.{AreBytes, row_place, HasShortStreams, IsShortStatement, AreShortStatements, IsNormal}
use Rattle.mz_asm.proofs.OneText.{both_streams}
use Rattle.mz_asm.proofs.Operands.{unify_ops, proof_ops, unify-fit, proof-fit, bytes-cut, AreRight, right-fits, AreWords, right-params, right-streams}
use Rattle.mz_asm.proofs.Pieces.{stands-none, stands-join, stands-same, stands-all, byte-there, number-there, number-small, gap-ends, rows-joined, table-long, RowsStand, no-rows}
use Rattle.mz_asm.proofs.FromBytes.{all_bytes, all-listed, row-left, Found, IsStart, it, stated, all_stated, all-found}

-- ---- the lines of its statements

abbrev pub rows_at : Place → Rows
rows_at place = record { sorts = place.rows.sorts; terms = place.rows.terms; thms = place.rows.thms }

words-small : (file : List ℕ) (at k n : ℕ) → AreBytes file → AreWords (map (word_at file at) (range_with_len k n))
words-small file at k zero fits = tt
words-small file at k (suc n) fits = let small = number-small file 8 (words_at file at + 8 * k) fits in (omega (arith, small), words-small file at (k + 1) n fits)

abbrev made-header : ℕ → ℕ → ℕ → ℕ → ℕ → ℕ → Header
made-header a b c d e f = record { sorts = a; terms = b; thms = c; terms_at = d; thms_at = e; list_at = f }

pub header-long : (h : Header) → 40 ≡ length (header_bytes h)
unfolding header_bytes
header-long h = refl

pub padded-long : (p : Parts) → length (padded (header_bytes (header_of p) ++ p.sorts)) ≡ terms_place p
padded-long p =
    let front : List ℕ = header_bytes (header_of p) ++ p.sorts in
    let head-long = header-long (header_of p) in
    let front-long : length front ≡ 40 + length p.sorts = (let many = length-append (header_bytes (header_of p)) p.sorts in omega (arith, many, head-long)) in
    let one = length-append front (replicate (gap (length front)) 0) in
    let two = length-replicate {A = ℕ} (gap (length front)) 0 in
    let same : gap (length front) ≡ gap (40 + length p.sorts) = ap (λ (k : ℕ). gap k) front-long in
    omega (arith, one, two, same, front-long)

put : (file : List ℕ) (p : Parts) → Stands file 0 (padded (header_bytes (header_of p) ++ p.sorts) ++ (table (rows_place p) (rows p) ++ (blocks (rows p) ++ list_bytes p.statements))) → Stands file 0 (file_of p)
unfolding file_of
put file p s = s

same-made : (make : ℕ → ℕ → ℕ → ℕ → ℕ → ℕ → Header) {a b c d e f a' b' c' d' e' f' : ℕ} → a ≡ a' → b ≡ b' → c ≡ c' → d ≡ d' → e ≡ e' → f ≡ f' → make a' b' c' d' e' f' ≡ make a b c d e f
same-made make i j k l m n = cc

same-header : {a b c d e f a' b' c' d' e' f' : ℕ} → a ≡ a' → b ≡ b' → c ≡ c' → d ≡ d' → e ≡ e' → f ≡ f' → made-header a' b' c' d' e' f' ≡ made-header a b c d e f
same-header i j k l m n = same-made made-header i j k l m n

module _ (file : List ℕ) (fits : AreBytes file) (normal : IsNormal file) where
  parts : HoldsParts file
  parts = parts-of_layout file normal.layout

  term-few : (t : ℕ) → t < term_count file → (t ≤ 4294967295) × (length (term_row file t).words.params ≤ 65535)
  term-few t below =
      let many = number-small file 4 8 fits in
      let few = number-small file 2 (term_record file t) fits in
      let count = length-params file (term_record file t) in
      (omega (arith, many, below), omega (arith, few, count))

  thm-few : (i : ℕ) → i < thm_count file → (i ≤ 4294967295) × (length (thm_row file i).params ≤ 65535)
  thm-few i below =
      let many = number-small file 4 12 fits in
      let few = number-small file 2 (thm_record file i) fits in
      let count = length-params file (thm_record file i) in
      (omega (arith, many, below), omega (arith, few, count))

  result-small : (t : ℕ) → (term_row file t).words.result.0 < 2 ^ 64
  result-small t = let small = number-small file 8 (words_at file (term_record file t) + 8 * param_count file (term_record file t)) fits in omega (arith, small)

  -- the lines of a row with streams, behind its first one
  streams-right : (place : Place) (code : StatementCode) (at body next : ℕ) (u v : Run) (taken : Rows) (more : List Line) → StandsThere file place (it code at body next u v) → HasShortStreams true file place (it code at body next u v) → AreRight taken more → AreRight taken (both_streams (unify_ops u.commands) (proof_ops v.commands) ++ more)
  streams-right place code at body next u v taken more stands short right =
      right-streams taken (unify_ops u.commands) (proof_ops v.commands) more
      (unify-fit file u.commands _ u.to fits stands.unify.follow short.0.1)
      (proof-fit (take next file) v.commands _ v.to (bytes-cut next file fits) stands.proof.follow short.1.1)
      right

  term-lines : (t : ℕ) (taken : Rows) (ls more : List Line) → AreRight taken (ls ++ more) → AreRight taken ((map lines.Param (term_row file t).words.params ++ (lines.Outcome (term_row file t).words.result ∷ ls)) ++ more)
  term-lines t taken ls more right =
      let ps : List Word = (term_row file t).words.params in
      subst (AreRight taken) (sym (append_assoc (map lines.Param ps) (lines.Outcome (term_row file t).words.result ∷ ls) more))
      (right-params taken ps (lines.Outcome (term_row file t).words.result ∷ (ls ++ more)) (words-small file (term_record file t) 0 (param_count file (term_record file t)) fits) (tt, tt, result-small t, right))

  thm-lines : (i : ℕ) (taken : Rows) (ls more : List Line) → AreRight taken (ls ++ more) → AreRight taken ((map lines.Param (thm_row file i).params ++ ls) ++ more)
  thm-lines i taken ls more right =
      let ps : List Word = (thm_row file i).params in
      subst (AreRight taken) (sym (append_assoc (map lines.Param ps) ls more))
      (right-params taken ps (ls ++ more) (words-small file (thm_record file i) 0 (param_count file (thm_record file i)) fits) right)

  right : (code : StatementCode) (place : Place) (at body next : ℕ) (u v : Run) (more : List Line) → StandsThere file place (it code at body next u v) → AllHold (statement_checks file place (it code at body next u v)) → IsShortStatement file place (it code at body next u v) → AreRight (rows_at (after place (it code at body next u v))) more →
      AreRight (rows_at place) (statement_lines (stated file place (has_streams file place code) code u v) ++ more)
  right codes_of.Sort place at body next u v more stands all n rest =
      let below = (row-left file place (it codes_of.Sort at body next u v) stands all).0 in
      let few = parts.few_sorts in
      let mods = n.row in
      ((omega (arith, below, few), omega (arith, mods), omega (arith, below, few)), refl, tt, rest)
  right codes_of.Term place at body next u v more stands all n rest = by-body (term_row file place.rows.terms).words.has_body refl
    where
      below : place.rows.terms < term_count file
      below = (row-left file place (it codes_of.Term at body next u v) stands all).0

      by-body : (b : Bool) → (term_row file place.rows.terms).words.has_body ≡ b → AreRight (rows_at place) (statement_lines (stated file place b codes_of.Term u v) ++ more)
      by-body true e =
          let few = term-few place.rows.terms below in
          let short : HasShortStreams true file place (it codes_of.Term at body next u v) = subst (λ (b : Bool). HasShortStreams b file place (it codes_of.Term at body next u v)) e n.streams in
          ((few.0, few.1, tt), refl, tt, term-lines place.rows.terms _ (both_streams (unify_ops u.commands) (proof_ops v.commands)) more (streams-right place codes_of.Term at body next u v _ more stands short rest))
      by-body false e =
          let few = term-few place.rows.terms below in
          ((few.0, few.1, tt), refl, tt, term-lines place.rows.terms _ [] more rest)
  right codes_of.LocalDefinition place at body next u v more stands all n rest =
      let few = term-few place.rows.terms (row-left file place (it codes_of.LocalDefinition at body next u v) stands all).0 in
      ((few.0, few.1, tt), refl, tt, term-lines place.rows.terms _ (both_streams (unify_ops u.commands) (proof_ops v.commands)) more (streams-right place codes_of.LocalDefinition at body next u v _ more stands n.streams rest))
  right codes_of.Axiom place at body next u v more stands all n rest =
      let few = thm-few place.rows.thms (row-left file place (it codes_of.Axiom at body next u v) stands all).0 in
      ((few.0, few.1, tt), refl, tt, thm-lines place.rows.thms _ (both_streams (unify_ops u.commands) (proof_ops v.commands)) more (streams-right place codes_of.Axiom at body next u v _ more stands n.streams rest))
  right codes_of.Theorem place at body next u v more stands all n rest =
      let few = thm-few place.rows.thms (row-left file place (it codes_of.Theorem at body next u v) stands all).0 in
      ((few.0, few.1, tt), refl, tt, thm-lines place.rows.thms _ (both_streams (unify_ops u.commands) (proof_ops v.commands)) more (streams-right place codes_of.Theorem at body next u v _ more stands n.streams rest))
  right codes_of.LocalTheorem place at body next u v more stands all n rest =
      let few = thm-few place.rows.thms (row-left file place (it codes_of.LocalTheorem at body next u v) stands all).0 in
      ((few.0, few.1, tt), refl, tt, thm-lines place.rows.thms _ (both_streams (unify_ops u.commands) (proof_ops v.commands)) more (streams-right place codes_of.LocalTheorem at body next u v _ more stands n.streams rest))

  all-right : (ss : List Shown) (place to : Place) → Chain file place ss to → AreShortStatements file place ss → AreRight (rows_at place) (all_lines (all_stated file place ss) ++ (lines.End ∷ []))
  all-right [] place to c short = (tt, tt, tt, tt)
  all-right (s ∷ ss) place to (stands, all, more) (one, short) =
      let first : Statement = stated file place (has_streams file place s.head.code) s.head.code s.unify s.proof in
      subst (AreRight (rows_at place)) (sym (append_assoc (statement_lines first) (all_lines (all_stated file (after place s) ss)) (lines.End ∷ [])))
      (right s.head.code place s.head.at s.head.body s.head.next s.unify s.proof (all_lines (all_stated file (after place s) ss) ++ (lines.End ∷ [])) stands all one (all-right ss (after place s) to more short))

  -- ---- the header and the tables

  header-there : Stands file 0 (header_bytes (record { sorts = sort_count file; terms = term_count file; thms = thm_count file; terms_at = terms_at file; thms_at = thms_at file; list_at = list_at file }))
  unfolding header_bytes
  header-there =
      let long = parts.header in
      let magic : take 4 file ≡ codes "MM0B" = normal.layout.1.0 in
      let version : byte_at file 4 ≡ 1 = normal.layout.1.1.0 in
      let s0 : Stands file 0 (codes "MM0B") = record { within = omega (arith, long); rest = drop 4 file; from_there = sym (take-append-drop 4 file) ∙ ap (λ (x : List ℕ). x ++ drop 4 file) magic } in
      let s4 : Stands file 4 (1 ∷ []) = stands-same file 4 4 (byte_at file 4 ∷ []) (1 ∷ []) refl (ap (λ (k : ℕ). k ∷ []) version) (byte-there file 4 (omega (arith, long))) in
      let s5 : Stands file 5 (sort_count file ∷ []) = byte-there file 5 (omega (arith, long)) in
      let s6 : Stands file 6 (0 ∷ 0 ∷ []) = stands-same file 6 6 (little_bytes 2 (number_at 2 file 6)) (little_bytes 2 0) refl (ap (λ (k : ℕ). little_bytes 2 k) normal.reserved.0) (number-there file 2 6 fits (omega (arith, long))) in
      let s8 : Stands file 8 (little_bytes 4 (term_count file)) = number-there file 4 8 fits (omega (arith, long)) in
      let s12 : Stands file 12 (little_bytes 4 (thm_count file)) = number-there file 4 12 fits (omega (arith, long)) in
      let s16 : Stands file 16 (little_bytes 4 (terms_at file)) = number-there file 4 16 fits (omega (arith, long)) in
      let s20 : Stands file 20 (little_bytes 4 (thms_at file)) = number-there file 4 20 fits (omega (arith, long)) in
      let s24 : Stands file 24 (little_bytes 4 (list_at file)) = number-there file 4 24 fits (omega (arith, long)) in
      let s28 : Stands file 28 (replicate 4 0) = stands-same file 28 28 (little_bytes 4 (number_at 4 file 28)) (little_bytes 4 0) refl (ap (λ (k : ℕ). little_bytes 4 k) normal.reserved.1) (number-there file 4 28 fits (omega (arith, long))) in
      let s32 : Stands file 32 (replicate 8 0) = stands-same file 32 32 (little_bytes 8 (number_at 8 file 32)) (little_bytes 8 0) refl (ap (λ (k : ℕ). little_bytes 8 k) normal.reserved.2) (number-there file 8 32 fits (omega (arith, long))) in
      let t28 : Stands file 28 (replicate 12 0) = stands-join file 28 (replicate 4 0) (replicate 8 0) s28 s32 in
      let t24 = stands-join file 24 (little_bytes 4 (list_at file)) (replicate 12 0) s24 t28 in
      let t20 = stands-join file 20 (little_bytes 4 (thms_at file)) _ s20 t24 in
      let t16 = stands-join file 16 (little_bytes 4 (terms_at file)) _ s16 t20 in
      let t12 = stands-join file 12 (little_bytes 4 (thm_count file)) _ s12 t16 in
      let t8 = stands-join file 8 (little_bytes 4 (term_count file)) _ s8 t12 in
      let t6 = stands-join file 6 (0 ∷ 0 ∷ []) _ s6 t8 in
      let t5 = stands-join file 5 (sort_count file ∷ []) _ s5 t6 in
      let t4 = stands-join file 4 (1 ∷ []) _ s4 t5 in
      stands-join file 0 (codes "MM0B") _ s0 t4

  tables-within : (terms_at file + 8 * term_count file) + 8 * thm_count file ≤ length file
  tables-within =
      let pads = normal.terms.1.within in
      let is = normal.terms.0 in
      let many = length-replicate {A = ℕ} (gap (40 + sort_count file)) 0 in
      let thms = normal.thms in
      let terms-end : 0 < term_count file → terms_at file + 8 * term_count file ≤ length file = normal.layout.1.1.1.1.1.0 in
      let thms-end : 0 < thm_count file → thms_at file + 8 * thm_count file ≤ length file = normal.layout.1.1.1.1.1.1.0 in
      elim (cases_lt 0 (thm_count file)) [
        | inl some ↦ (let end = thms-end some in omega (arith, end, thms))
        | inr none ↦ elim (cases_lt 0 (term_count file)) [
          | inl some ↦ (let end = terms-end some in omega (arith, end, none))
          | inr nothing ↦ omega (arith, pads, is, many, none, nothing)
        ]
      ]

  nothing-found : Found file (first_place file) no_parts
  nothing-found =
      let long = parts.header in
      let tables = tables-within in
      let first = normal.rows in
      let thms = normal.thms in
      let place = normal.terms.0 in
      let even = gap-ends (40 + sort_count file) in
      record {
        sorts = stands-none file 40 (omega (arith, long));
        sorts_are = refl;
        terms = no-rows file (terms_at file) (row_place file 0) (omega (arith, tables)) (omega (arith, tables, first, thms)) (omega (arith, first, thms, place, even));
        terms_are = refl;
        thms = λ start. subst (λ (k : ℕ). RowsStand file (thms_at file) (row_place file (term_count file)) [] (row_place file k)) (let z : term_count file ≡ term_count file + 0 = omega arith in z) (no-rows file (thms_at file) (row_place file (term_count file)) (omega (arith, tables, thms)) start.0 start.1);
        thms_are = refl;
        list = record { stands = stands-none file (list_at file) parts.list; to_is = omega arith };
      }

  file-is : (place : Place) (p : Parts) → Found file place p → AllTaken file place.rows → byte_at file place.at ≡ 0 → length file ≡ place.at + 1 → file ≡ file_of p
  file-is place p f taken ends long =
      let h : Header = header_of p in
      let sorts-n : length p.sorts ≡ sort_count file = f.sorts_are ∙ taken.sorts_taken in
      let terms-n : length p.terms ≡ term_count file = f.terms_are ∙ taken.terms_taken in
      let thms-n : length p.thms ≡ thm_count file = f.thms_are ∙ taken.thms_taken in
      let thms-is = normal.thms in
      let rows-is = normal.rows in
      let terms-at : terms_place p ≡ terms_at file = ap (λ (n : ℕ). (40 + n) + gap (40 + n)) sorts-n ∙ sym normal.terms.0 in
      let thms-at : thms_place p ≡ thms_at file = omega (arith, terms-at, terms-n, thms-is) in
      let rows-at : rows_place p ≡ row_place file 0 = omega (arith, thms-at, thms-n, rows-is) in
      let middle : row_place file (term_count file) ≡ row_place file 0 + length (blocks p.terms) = ap (λ (k : ℕ). row_place file k) (sym taken.terms_taken) ∙ f.terms.next_is in
      let terms-far = f.terms.blocked.within in
      let start : IsStart file = (omega (arith, middle, terms-far), ap (λ (k : ℕ). row_place file k % 8) (sym taken.terms_taken) ∙ f.terms.eighth) in
      let g = f.thms start in
      let thms-end = g.next_is in
      let list-is : row_place file (term_count file + place.rows.thms) ≡ list_at file =
      ap (λ (k : ℕ). row_place file (term_count file + k)) taken.thms_taken
      ∙ ap (λ (b : Bool). cond b (words_at file (terms_at file + 8 * (term_count file + thm_count file))) (list_at file)) (le-ltb (term_count file + thm_count file) (term_count file + thm_count file) (omega arith)) in
      let joined = rows-joined (rows_place p) p.terms p.thms in
      let after : row_place file (term_count file) ≡ rows_place p + length (blocks p.terms) = omega (arith, middle, rows-at) in
      let blocks-long : length (blocks (rows p)) ≡ length (blocks p.terms) + length (blocks p.thms) = ap length joined.0 ∙ length-append (blocks p.terms) (blocks p.thms) in
      let list-at : list_at file ≡ rows_place p + length (blocks (rows p)) = omega (arith, list-is, thms-end, after, blocks-long) in
      let both-blocks : Stands file (rows_place p) (blocks (rows p)) =
      stands-same file (row_place file 0) (rows_place p) (blocks p.terms ++ blocks p.thms) (blocks (rows p)) (sym rows-at) (sym joined.0)
      (stands-join file (row_place file 0) (blocks p.terms) (blocks p.thms) f.terms.blocked (stands-same file (row_place file (term_count file)) (row_place file 0 + length (blocks p.terms)) (blocks p.thms) (blocks p.thms) middle refl g.blocked)) in
      let one-table : table (row_place file 0) p.terms ++ table (row_place file (term_count file)) p.thms ≡ table (rows_place p) (rows p) =
      ap (λ (k : ℕ). table k p.terms ++ table (row_place file (term_count file)) p.thms) (sym rows-at) ∙ ap (λ (k : ℕ). table (rows_place p) p.terms ++ table k p.thms) after ∙ sym joined.1 in
      let terms-long = table-long (row_place file 0) p.terms in
      let both-tables : Stands file (terms_place p) (table (rows_place p) (rows p)) =
      stands-same file (terms_at file) (terms_place p) (table (row_place file 0) p.terms ++ table (row_place file (term_count file)) p.thms) (table (rows_place p) (rows p)) (sym terms-at) one-table
      (stands-join file (terms_at file) (table (row_place file 0) p.terms) (table (row_place file (term_count file)) p.thms) f.terms.recorded
      (stands-same file (thms_at file) (terms_at file + length (table (row_place file 0) p.terms)) _ _ (omega (arith, thms-is, terms-long, terms-n)) refl g.recorded)) in
      let the-list : Stands file (list_at file) (list_bytes p.statements) =
      stands-same file (list_at file) (list_at file) (all_bytes p.statements ++ (0 ∷ [])) (list_bytes p.statements) refl (sym (all-listed p.statements))
      (stands-join file (list_at file) (all_bytes p.statements) (0 ∷ []) f.list.stands (stands-same file place.at (list_at file + length (all_bytes p.statements)) (byte_at file place.at ∷ []) (0 ∷ []) f.list.to_is (ap (λ (k : ℕ). k ∷ []) ends) (byte-there file place.at (omega (arith, long))))) in
      let front : List ℕ = header_bytes h ++ p.sorts in
      let head-long = header-long h in
      let front-long : length front ≡ 40 + length p.sorts = (let many = length-append (header_bytes h) p.sorts in omega (arith, many, head-long)) in
      let front-is : length front ≡ 40 + sort_count file = omega (arith, front-long, sorts-n) in
      let the-header : Stands file 0 (header_bytes h) = stands-same file 0 0 _ (header_bytes h) refl (ap (λ (x : Header). header_bytes x) (same-header sorts-n terms-n thms-n terms-at thms-at (sym list-at))) header-there in
      let the-front : Stands file 0 front = stands-join file 0 (header_bytes h) p.sorts the-header (stands-same file 40 (0 + length (header_bytes h)) p.sorts p.sorts (omega (arith, head-long)) refl f.sorts) in
      let zeros : Stands file (0 + length front) (replicate (gap (length front)) 0) = stands-same file (40 + sort_count file) (0 + length front) (replicate (gap (40 + sort_count file)) 0) (replicate (gap (length front)) 0) (omega (arith, front-is)) (ap (λ (k : ℕ). replicate (gap k) 0) (sym front-is)) normal.terms.1 in
      let tables-long = table-long (rows_place p) (rows p) in
      let rows-n = length-append p.terms p.thms in
      let behind : Stands file (terms_place p) (table (rows_place p) (rows p) ++ (blocks (rows p) ++ list_bytes p.statements)) =
      stands-join file (terms_place p) (table (rows_place p) (rows p)) (blocks (rows p) ++ list_bytes p.statements) both-tables
      (stands-same file (rows_place p) (terms_place p + length (table (rows_place p) (rows p))) _ _ (omega (arith, tables-long, rows-n)) refl
      (stands-join file (rows_place p) (blocks (rows p)) (list_bytes p.statements) both-blocks (stands-same file (list_at file) (rows_place p + length (blocks (rows p))) _ _ list-at refl the-list))) in
      let whole : Stands file 0 (file_of p) = put file p (stands-join file 0 (padded front) _ (stands-join file 0 front (replicate (gap (length front)) 0) the-front zeros) (stands-same file (terms_place p) (0 + length (padded front)) _ _ (omega (arith, padded-long p)) refl behind)) in
      let count = file-length p in
      let list-long : length (list_bytes p.statements) ≡ length (all_bytes p.statements) + 1 = ap length (all-listed p.statements) ∙ length-append (all_bytes p.statements) (0 ∷ []) in
      let last = f.list.to_is in
      stands-all file (file_of p) whole (omega (arith, long, count, list-long, last, list-at))

  pub in-range : IsMade file
  in-range =
      let ss : List Statement = all_stated file (first_place file) normal.statements in
      let right = right-fits no_rows (listing_lines ss) (all-right normal.statements (first_place file) normal.last normal.chain normal.short) in
      record {
        statements = ss;
        fitting = right.0;
        plain = right.1;
        file_is = file-is normal.last (parts_of ss) (all-found file fits normal normal.statements (first_place file) no_parts normal.last normal.chain normal.short nothing-found) normal.ends.1 normal.end.0 normal.end.1;
      }

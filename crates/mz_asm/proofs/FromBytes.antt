-- A file that is normal by its bytes is the binary of the statements that stand in it.
use Rattle.std.proofs.Common.{◌≡◌, ◌≤◌, ◌<◌, ◌+◌, ◌*◌, ◌/◌, ◌%◌, inl, inr, ℕ, Bool, true, false, cond, eqb, List, [], ◌∷◌, ◌++◌, length, take, Some, Ok, refl, sym, ap, subst, ◌∙◌, arith, append_assoc, append-nil}
use Rattle.std.proofs.lemmas.List.{length-append}
use Rattle.std.proofs.lemmas.Bool.{eqb-true, eq-eqb, lt-ltb, cases_lt}
use Rattle.byteorder.specs.Endian.{little_bytes}
use Rattle.mz_base.specs.Checks.{AllHold}
use Rattle.mz_base.proofs.Offered.{all_hold-first, retold-held}
use Rattle.mz_cmd.specs.declared.code.StatementCode.{StatementCode}
use Rattle.mz_cmd.specs.declared.code.StatementCode.TheVariants as codes_of
use Rattle.mz_cmd.specs.declared.statement.StmtAt.TheVariants.{Head}
use Rattle.mz_cmd.specs.Codes.{statement_byte, statement_code}
use Rattle.mz_cmd.specs.Spelling.{shortest}
use Rattle.mz_cmd.specs.StatementList.{statement_at}
use Rattle.mz_logic_theory.specs.declared.word.Word.{Word}
use Rattle.mz_logic_theory.specs.Words.{word_sort}
use Rattle.mz_layout_tables.specs.Numbers.{byte_at, number_at}
use Rattle.mz_layout_tables.specs.Tables.{sort_count, term_count, thm_count, terms_at, thms_at, list_at, term_record, thm_record, param_count, words_at, word_at, params_of, term_row, thm_row}
use Rattle.mz_layout_tables.specs.Normal.{Row, Written, Parts, row_of_term, row_of_thm, words_bytes, row_bytes, row_block, record_bytes, distance, statement_bytes, list_bytes}
use Rattle.mz_layout_tables.specs.Standing.{Stands}
use Rattle.mz_layout_tables.specs.Layout.{HoldsParts}
use Rattle.mz_layout_tables.specs.Heads.{kind_checks, checks_of, head_checks}
use Rattle.mz_layout_tables.proofs.Offered.{length-params, parts-of_layout}
use Rattle.mz_show.specs.declared.place.Place.{Place}
use Rattle.mz_show.specs.declared.stream.Stream.TheVariants as streams
use Rattle.mz_show.specs.Listing.{Chain}
use Rattle.mz_show.specs.Statements.{Statement as Shown, Stands as StandsThere, after, has_streams, refusal_at, place_checks, part_checks, statement_checks}
use Rattle.mz_show.specs.Streams.{Run, Follow}
use Rattle.mz_asm.specs.declared.kind.Kind.{Kind}
use Rattle.mz_asm.specs.declared.kind.Kind.TheVariants as kinds
use Rattle.mz_asm.specs.Statements.{Statement, unify_bytes, proof_bytes, with_statement, parts_from}
use Rattle.mz_asm.specs.NormalBytes.{AreBytes, IsPadded, spelled, IsShort, row_place, row_end, IsPlainTerm, IsPlainThm, HasShortStreams, IsShortStatement, AreShortStatements, IsNormal}
use Rattle.mz_asm.proofs.OneText.{st}
use Rattle.mz_asm.proofs.Operands.{unify_ops, proof_ops, unify-spelled, proof-spelled}
use Rattle.mz_asm.proofs.Pieces.{stands-none, stands-join, stands-same, byte-there, number-there, words-joined, words-long, words-there, block-there, RowsStand, rows-more}

-- ---- the list of statements

abbrev pub all_bytes : List Written → List ℕ
all_bytes [] = []
all_bytes (w ∷ ws) = statement_bytes w ++ all_bytes ws

all-more : (ws : List Written) (w : Written) → all_bytes (ws ++ (w ∷ [])) ≡ all_bytes ws ++ statement_bytes w
all-more [] w = append-nil (statement_bytes w)
all-more (v ∷ ws) w = ap (λ (x : List ℕ). statement_bytes v ++ x) (all-more ws w) ∙ sym (append_assoc (statement_bytes v) (all_bytes ws) (statement_bytes w))

pub all-listed : (ws : List Written) → list_bytes ws ≡ all_bytes ws ++ (0 ∷ [])
all-listed [] = refl
all-listed (w ∷ ws) = ap (λ (x : List ℕ). statement_bytes w ++ x) (all-listed ws) ∙ sym (append_assoc (statement_bytes w) (all_bytes ws) (0 ∷ []))

-- statements stand from the list's place up to another
pub record ListStands (file : List ℕ) (ws : List Written) (to : ℕ) : Type 0 where
  pub stands : Stands file (list_at file) (all_bytes ws)
  pub to_is : to ≡ list_at file + length (all_bytes ws)

list-more : (file : List ℕ) (ws : List Written) (at next : ℕ) (w : Written) → ListStands file ws at → Stands file at (statement_bytes w) × (next ≡ at + length (statement_bytes w)) → ListStands file (ws ++ (w ∷ [])) next
list-more file ws at next w l (s, is) =
    let more = all-more ws w in
    let long = length-append (all_bytes ws) (statement_bytes w) in
    let all : length (all_bytes (ws ++ (w ∷ []))) ≡ length (all_bytes ws ++ statement_bytes w) = ap length more in
    let here = l.to_is in
    record {
      stands = stands-same file (list_at file) (list_at file) _ _ refl (sym more) (stands-join file (list_at file) (all_bytes ws) (statement_bytes w) l.stands (stands-same file at (list_at file + length (all_bytes ws)) (statement_bytes w) (statement_bytes w) here refl s));
      to_is = omega (arith, is, here, all, long);
    }

-- a short statement stands with its body
written-there : (file : List ℕ) (place : Place) (s : Shown) (n : IsShortStatement file place s) (body : List ℕ) → n.size ≡ length body → Stands file s.head.body body →
    Stands file place.at (statement_bytes (record { code = statement_byte s.head.code; body = body })) × (s.head.next ≡ place.at + length (statement_bytes (record { code = statement_byte s.head.code; body = body })))
written-there file place s n body e stands =
    let code : ℕ = statement_byte s.head.code in
    let first : List ℕ = shortest code (distance (length body)) in
    let same : shortest code (distance n.size) ≡ first = ap (λ (k : ℕ). shortest code (distance k)) e in
    let there : s.head.body ≡ place.at + length first = n.body_is ∙ ap (λ (x : List ℕ). place.at + length x) same in
    let long = length-append first body in
    let next = n.next_is in (
      stands-join file place.at first body (stands-same file place.at place.at _ first refl same n.command) (stands-same file s.head.body (place.at + length first) body body there refl stands),
      omega (arith, long, there, next, e),
    )

-- ---- rows

abbrev pub a_row : ℕ → ℕ → List Word → List ℕ → Row
a_row n m ws stream = record { params = n; mark = m; words = ws; stream = stream }

-- a row and its record stand in the file, up to a multiple of 8
abbrev pub RowThere : List ℕ → ℕ → ℕ → ℕ → Row → Type 0
RowThere file rec place next r = Stands file rec (record_bytes place r) × (Stands file place (row_block r) × (next ≡ place + length (row_block r)) × (next % 8 ≡ 0))

record-there : (file : List ℕ) (rec n m : ℕ) (ws : List Word) (stream : List ℕ) → AreBytes file → rec + 8 ≤ length file → param_count file rec ≡ n → byte_at file (rec + 2) ≡ m → byte_at file (rec + 3) ≡ 0 → Stands file rec (record_bytes (words_at file rec) (a_row n m ws stream))
record-there file rec n m ws stream fits within count mark zero-is =
    let w : List ℕ = little_bytes 4 (words_at file rec) in
    let s0 : Stands file rec (little_bytes 2 n) = stands-same file rec rec (little_bytes 2 (number_at 2 file rec)) (little_bytes 2 n) refl (ap (λ (k : ℕ). little_bytes 2 k) count) (number-there file 2 rec fits (omega (arith, within))) in
    let s2 : Stands file (rec + 2) (m ∷ []) = stands-same file (rec + 2) (rec + 2) (byte_at file (rec + 2) ∷ []) (m ∷ []) refl (ap (λ (k : ℕ). k ∷ []) mark) (byte-there file (rec + 2) (omega (arith, within))) in
    let s3 : Stands file (rec + 3) (0 ∷ []) = stands-same file (rec + 3) (rec + 3) (byte_at file (rec + 3) ∷ []) (0 ∷ []) refl (ap (λ (k : ℕ). k ∷ []) zero-is) (byte-there file (rec + 3) (omega (arith, within))) in
    let s4 : Stands file (rec + 4) w = number-there file 4 (rec + 4) fits (omega (arith, within)) in
    let t3 : Stands file (rec + 3) (0 ∷ w) = stands-join file (rec + 3) (0 ∷ []) w s3 (stands-same file (rec + 4) ((rec + 3) + 1) w w (omega arith) refl s4) in
    let t2 : Stands file (rec + 2) (m ∷ 0 ∷ w) = stands-join file (rec + 2) (m ∷ []) (0 ∷ w) s2 (stands-same file (rec + 3) ((rec + 2) + 1) (0 ∷ w) (0 ∷ w) (omega arith) refl t3) in
    stands-join file rec (little_bytes 2 n) (m ∷ 0 ∷ w) s0 t2

row-there : (file : List ℕ) (rec place next n m : ℕ) (ws : List Word) (stream : List ℕ) → AreBytes file → rec + 8 ≤ length file → param_count file rec ≡ n → byte_at file (rec + 2) ≡ m → byte_at file (rec + 3) ≡ 0 →
    Stands file (words_at file rec) (words_bytes ws) → Stands file (words_at file rec + 8 * length ws) stream → words_at file rec ≡ place → place % 8 ≡ 0 → IsPadded file ((words_at file rec + 8 * length ws) + length stream) next →
    RowThere file rec place next (a_row n m ws stream)
row-there file rec place next n m ws stream fits within count mark zero-is words there is even pads =
    let w : ℕ = words_at file rec in
    let r : Row = a_row n m ws stream in
    let long = words-long ws in
    let both = length-append (words_bytes ws) stream in
    let bytes : Stands file w (words_bytes ws ++ stream) = stands-join file w (words_bytes ws) stream words (stands-same file (w + 8 * length ws) (w + length (words_bytes ws)) stream stream (omega (arith, long)) refl there) in
    let end : (w + 8 * length ws) + length stream ≡ place + length (row_bytes r) = omega (arith, is, long, both) in (
      stands-same file rec rec (record_bytes w r) (record_bytes place r) refl (ap (λ (k : ℕ). record_bytes k r) is) (record-there file rec n m ws stream fits within count mark zero-is),
      block-there file place next r (stands-same file w place (row_bytes r) (row_bytes r) is refl bytes) even (subst (λ (k : ℕ). IsPadded file k next) end pads),
    )

-- where a row's words begin
pub place-of : (file : List ℕ) (k : ℕ) → k < term_count file + thm_count file → words_at file (terms_at file + 8 * k) ≡ row_place file k
place-of file k below = ap (λ (b : Bool). cond b (words_at file (terms_at file + 8 * k)) (list_at file)) (sym (lt-ltb k (term_count file + thm_count file) below))

-- ---- the statements so far

-- where the rows of axioms and theorems begin
abbrev pub IsStart : List ℕ → Type 0
IsStart file = (row_place file (term_count file) ≤ length file) × (row_place file (term_count file) % 8 ≡ 0)

-- the parts of the statements before a place stand in the file
pub record Found (file : List ℕ) (place : Place) (q : Parts) : Type 0 where
  pub sorts : Stands file 40 q.sorts
  pub sorts_are : length q.sorts ≡ place.rows.sorts
  pub terms : RowsStand file (terms_at file) (row_place file 0) q.terms (row_place file place.rows.terms)
  pub terms_are : length q.terms ≡ place.rows.terms
  pub thms : IsStart file → RowsStand file (thms_at file) (row_place file (term_count file)) q.thms (row_place file (term_count file + place.rows.thms))
  pub thms_are : length q.thms ≡ place.rows.thms
  pub list : ListStands file q.statements place.at

-- what is seen of a statement there, made of its parts
abbrev pub it : StatementCode → ℕ → ℕ → ℕ → Run → Run → Shown
it code at body next u v = record { head = record { code = code; at = at; body = body; next = next }; unify = u; proof = v }

abbrev pub term_stated : Kind → List ℕ → ℕ → Run → Run → Statement
term_stated kind file t u v = st kind t 0 (term_row file t).words.params (term_row file t).words.result (unify_ops u.commands) (proof_ops v.commands)

abbrev pub thm_stated : Kind → List ℕ → ℕ → Run → Run → Statement
thm_stated kind file i u v = st kind i 0 (thm_row file i).params (record { 0 = 0 }) (unify_ops u.commands) (proof_ops v.commands)

-- the statement that a listing says, where one stands with streams or with none
abbrev pub stated : List ℕ → Place → Bool → StatementCode → Run → Run → Statement
stated file place b codes_of.Sort u v = st kinds.Sort place.rows.sorts (byte_at file (40 + place.rows.sorts)) [] (record { 0 = 0 }) [] []
stated file place b codes_of.Term u v = term_stated (cond b kinds.Definition kinds.Term) file place.rows.terms u v
stated file place b codes_of.LocalDefinition u v = term_stated kinds.LocalDefinition file place.rows.terms u v
stated file place b codes_of.Axiom u v = thm_stated kinds.Axiom file place.rows.thms u v
stated file place b codes_of.Theorem u v = thm_stated kinds.Theorem file place.rows.thms u v
stated file place b codes_of.LocalTheorem u v = thm_stated kinds.LocalTheorem file place.rows.thms u v

abbrev pub all_stated : List ℕ → Place → List Shown → List Statement
all_stated file place [] = []
all_stated file place (s ∷ ss) = stated file place (has_streams file place s.head.code) s.head.code s.unify s.proof ∷ all_stated file (after place s) ss

-- ---- one statement more

-- a row is left for it
pub row-left : (file : List ℕ) (place : Place) (s : Shown) → StandsThere file place s → AllHold (statement_checks file place s) → AllHold (kind_checks file place.rows place.at (statement_code (statement_byte s.head.code)))
row-left file place s stands all =
    let head : statement_at file place.at ≡ Ok (Head (statement_byte s.head.code) s.head.body s.head.next) = subst (λ (at : ℕ). statement_at file at ≡ Ok (Head (statement_byte s.head.code) s.head.body s.head.next)) stands.head.at_is stands.head.stands in
    let held = retold-held (λ fault. refusal_at place fault.0 fault.1) (head_checks file place.rows place.at) (all_hold-first (place_checks file place) (part_checks (has_streams file place s.head.code) file place s) all) in
    subst (λ r. AllHold (checks_of file place.rows place.at r)) head held

module _ (file : List ℕ) (fits : AreBytes file) (normal : IsNormal file) where
  parts : HoldsParts file
  parts = parts-of_layout file normal.layout

  -- no body
  empty-there : (place : Place) (s : Shown) (n : IsShortStatement file place s) → s.head.next ≡ s.head.body → Stands file place.at (statement_bytes (record { code = statement_byte s.head.code; body = [] })) × (s.head.next ≡ place.at + length (statement_bytes (record { code = statement_byte s.head.code; body = [] })))
  empty-there place s n e =
      let next = n.next_is in
      let none : n.size ≡ 0 = omega (arith, next, e) in
      let far = n.command.within in
      let body = n.body_is in
      written-there file place s n [] none (stands-none file s.head.body (omega (arith, far, body)))

  -- a body of commands
  body-there : (place : Place) (s : Shown) (n : IsShortStatement file place s) → StandsThere file place s → IsShort streams.Proof file s.head.body s.proof → s.head.next ≡ s.head.body + length (spelled s.proof.commands) →
      Stands file place.at (statement_bytes (record { code = statement_byte s.head.code; body = proof_bytes (proof_ops s.proof.commands) ++ (0 ∷ []) })) × (s.head.next ≡ place.at + length (statement_bytes (record { code = statement_byte s.head.code; body = proof_bytes (proof_ops s.proof.commands) ++ (0 ∷ []) })))
  body-there place s n stands short e =
      let same = proof-spelled (take s.head.next file) s.proof.commands s.head.body s.proof.to stands.proof.follow in
      let next = n.next_is in
      let size : n.size ≡ length (spelled s.proof.commands) = omega (arith, next, e) in
      written-there file place s n (proof_bytes (proof_ops s.proof.commands) ++ (0 ∷ [])) (size ∙ ap length (sym same)) (stands-same file s.head.body s.head.body _ _ refl (sym same) short.0)

  -- a term's row
  term-words : (t : ℕ) → t < term_count file → Stands file (words_at file (term_record file t)) (words_bytes ((term_row file t).words.params ++ ((term_row file t).words.result ∷ [])))
  term-words t below =
      let rec : ℕ = term_record file t in
      let n : ℕ = param_count file rec in
      let holds = (parts.terms t below).1 in
      let w : ℕ = words_at file rec in
      let ps : List Word = params_of file rec in
      let few : length ps ≡ n = length-params file rec in
      let first = stands-same file (w + 8 * 0) w (words_bytes ps) (words_bytes ps) (omega arith) refl (words-there file rec 0 n fits (omega (arith, holds))) in
      let long = words-long ps in
      let last = stands-same file (w + 8 * n) (w + length (words_bytes ps)) (little_bytes 8 (word_at file rec n).0) (words_bytes (word_at file rec n ∷ [])) (omega (arith, long, few)) (sym (append-nil (little_bytes 8 (word_at file rec n).0))) (number-there file 8 (w + 8 * n) fits (omega (arith, holds))) in
      stands-same file w w _ _ refl (sym (words-joined ps (word_at file rec n ∷ []))) (stands-join file w (words_bytes ps) (words_bytes (word_at file rec n ∷ [])) first last)

  term-there : (t m : ℕ) (stream : List ℕ) → t < term_count file → IsPlainTerm file t → byte_at file (term_record file t + 2) ≡ m → Stands file (term_row file t).stream_at stream → IsPadded file ((term_row file t).stream_at + length stream) (row_place file (t + 1)) → row_place file t % 8 ≡ 0 →
      RowThere file (term_record file t) (row_place file t) (row_place file (t + 1)) (a_row (length (term_row file t).words.params) m ((term_row file t).words.params ++ ((term_row file t).words.result ∷ [])) stream)
  term-there t m stream below plain mark there pads even =
      let rec : ℕ = term_record file t in
      let ps : List Word = params_of file rec in
      let ws : List Word = ps ++ ((term_row file t).words.result ∷ []) in
      let few : length ps ≡ param_count file rec = length-params file rec in
      let more = length-append ps ((term_row file t).words.result ∷ []) in
      let at : (term_row file t).stream_at ≡ words_at file rec + 8 * length ws = omega (arith, few, more) in
      row-there file rec (row_place file t) (row_place file (t + 1)) (length ps) m ws stream fits (parts.terms t below).0 (sym few) mark plain.reserved (term-words t below)
      (stands-same file (term_row file t).stream_at (words_at file rec + 8 * length ws) stream stream at refl there)
      (place-of file t (omega (arith, below))) even (subst (λ (k : ℕ). IsPadded file (k + length stream) (row_place file (t + 1))) at pads)

  plain-mark : (t : ℕ) → IsPlainTerm file t → (term_row file t).words.has_body ≡ false → byte_at file (term_record file t + 2) ≡ word_sort (term_row file t).words.result
  plain-mark t plain none = elim (cases_lt (byte_at file (term_record file t + 2)) 128) [
    | inl low ↦ (let sort = plain.sort in omega (arith, sort, low))
    | inr high ↦ (
        let byte = fits (term_record file t + 2) in
        let one : byte_at file (term_record file t + 2) / 128 ≡ 1 = omega (arith, byte, high) in
        let yes : eqb (byte_at file (term_record file t + 2) / 128) 1 ≡ true = eq-eqb _ _ one in
        absurd cc)
  ]

  defined-mark : (t : ℕ) → IsPlainTerm file t → (term_row file t).words.has_body ≡ true → byte_at file (term_record file t + 2) ≡ word_sort (term_row file t).words.result + 128
  defined-mark t plain some =
      let one : byte_at file (term_record file t + 2) / 128 ≡ 1 = eqb-true _ _ some in
      let sort = plain.sort in
      omega (arith, sort, one)

  -- an axiom's or a theorem's
  thm-there : (i : ℕ) (stream : List ℕ) → i < thm_count file → IsPlainThm file i → Stands file (thm_row file i).stream_at stream → IsPadded file ((thm_row file i).stream_at + length stream) (row_place file (term_count file + i + 1)) → row_place file (term_count file + i) % 8 ≡ 0 →
      RowThere file (thm_record file i) (row_place file (term_count file + i)) (row_place file (term_count file + (i + 1))) (row_of_thm (thm_row file i).params stream)
  thm-there i stream below plain there pads even =
      let rec : ℕ = thm_record file i in
      let ps : List Word = params_of file rec in
      let few : length ps ≡ param_count file rec = length-params file rec in
      let holds = (parts.thms i below).1 in
      let at : (thm_row file i).stream_at ≡ words_at file rec + 8 * length ps = omega (arith, few) in
      let thms = normal.thms in
      let record-at : terms_at file + 8 * (term_count file + i) ≡ rec = omega (arith, thms) in
      let place : words_at file rec ≡ row_place file (term_count file + i) = ap (λ (k : ℕ). words_at file k) (sym record-at) ∙ place-of file (term_count file + i) (omega (arith, below)) in
      let next : row_place file (term_count file + i + 1) ≡ row_place file (term_count file + (i + 1)) = ap (λ (k : ℕ). row_place file k) (let e : term_count file + i + 1 ≡ term_count file + (i + 1) = omega arith in e) in
      row-there file rec (row_place file (term_count file + i)) (row_place file (term_count file + (i + 1))) (length ps) 0 ps stream fits (parts.thms i below).0 (sym few) plain.0 plain.1
      (stands-same file (words_at file rec + 8 * 0) (words_at file rec) (words_bytes ps) (words_bytes ps) (omega arith) refl (words-there file rec 0 (param_count file rec) fits (omega (arith, holds))))
      (stands-same file (thm_row file i).stream_at (words_at file rec + 8 * length ps) stream stream at refl there)
      place even (subst (λ (k : ℕ). IsPadded file (k + length stream) (row_place file (term_count file + (i + 1)))) at (subst (λ (k : ℕ). IsPadded file ((thm_row file i).stream_at + length stream) k) next pads))

  -- ---- the parts with one row more

  with-sort : (place : Place) (q : Parts) (next m : ℕ) (w : Written) → Found file place q → place.rows.sorts < sort_count file → byte_at file (40 + place.rows.sorts) ≡ m → Stands file place.at (statement_bytes w) × (next ≡ place.at + length (statement_bytes w)) →
      Found file (record { number = place.number + 1; at = next; rows = record place.rows { sorts = place.rows.sorts + 1 } }) (record q { sorts = q.sorts ++ (m ∷ []); statements = q.statements ++ (w ∷ []) })
  with-sort place q next m w f below is there =
      let header = parts.header in
      let count = f.sorts_are in
      let more = length-append q.sorts (m ∷ []) in
      record {
        sorts = stands-join file 40 q.sorts (m ∷ []) f.sorts (stands-same file (40 + place.rows.sorts) (40 + length q.sorts) (byte_at file (40 + place.rows.sorts) ∷ []) (m ∷ []) (omega (arith, count)) (ap (λ (k : ℕ). k ∷ []) is) (byte-there file (40 + place.rows.sorts) (omega (arith, header, below))));
        sorts_are = omega (arith, count, more);
        terms = f.terms;
        terms_are = f.terms_are;
        thms = f.thms;
        thms_are = f.thms_are;
        list = list-more file q.statements place.at next w f.list there;
      }

  with-term : (place : Place) (q : Parts) (next : ℕ) (r : Row) (w : Written) → Found file place q → (row_place file place.rows.terms % 8 ≡ 0 → RowThere file (term_record file place.rows.terms) (row_place file place.rows.terms) (row_place file (place.rows.terms + 1)) r) → Stands file place.at (statement_bytes w) × (next ≡ place.at + length (statement_bytes w)) →
      Found file (record { number = place.number + 1; at = next; rows = record place.rows { terms = place.rows.terms + 1 } }) (record q { terms = q.terms ++ (r ∷ []); statements = q.statements ++ (w ∷ []) })
  with-term place q next r w f row there =
      let count = f.terms_are in
      let more = length-append q.terms (r ∷ []) in
      let here = row f.terms.eighth in
      record {
        sorts = f.sorts;
        sorts_are = f.sorts_are;
        terms = rows-more file (terms_at file) (row_place file 0) (row_place file place.rows.terms) (row_place file (place.rows.terms + 1)) q.terms r f.terms (stands-same file (term_record file place.rows.terms) (terms_at file + 8 * length q.terms) _ _ (omega (arith, count)) refl here.0) here.1;
        terms_are = omega (arith, count, more);
        thms = f.thms;
        thms_are = f.thms_are;
        list = list-more file q.statements place.at next w f.list there;
      }

  with-thm : (place : Place) (q : Parts) (next : ℕ) (r : Row) (w : Written) → Found file place q → (row_place file (term_count file + place.rows.thms) % 8 ≡ 0 → RowThere file (thm_record file place.rows.thms) (row_place file (term_count file + place.rows.thms)) (row_place file (term_count file + (place.rows.thms + 1))) r) → Stands file place.at (statement_bytes w) × (next ≡ place.at + length (statement_bytes w)) →
      Found file (record { number = place.number + 1; at = next; rows = record place.rows { thms = place.rows.thms + 1 } }) (record q { thms = q.thms ++ (r ∷ []); statements = q.statements ++ (w ∷ []) })
  with-thm place q next r w f row there =
      let count = f.thms_are in
      let more = length-append q.thms (r ∷ []) in
      record {
        sorts = f.sorts;
        sorts_are = f.sorts_are;
        terms = f.terms;
        terms_are = f.terms_are;
        thms = λ start.
            let before = f.thms start in
            let here = row before.eighth in
            rows-more file (thms_at file) (row_place file (term_count file)) (row_place file (term_count file + place.rows.thms)) (row_place file (term_count file + (place.rows.thms + 1))) q.thms r before (stands-same file (thm_record file place.rows.thms) (thms_at file + 8 * length q.thms) _ _ (omega (arith, count)) refl here.0) here.1;
        thms_are = omega (arith, count, more);
        list = list-more file q.statements place.at next w f.list there;
      }

  -- the row of a definition, and that of an axiom or a theorem, with the stream of its statement
  definition-row : (t : ℕ) (u : Run) (to : ℕ) → t < term_count file → IsPlainTerm file t → (term_row file t).words.has_body ≡ true → Follow streams.Unify file (term_row file t).stream_at u.commands to → IsShort streams.Unify file (term_row file t).stream_at u → IsPadded file (row_end true (term_row file t).stream_at u) (row_place file (t + 1)) → row_place file t % 8 ≡ 0 →
      RowThere file (term_record file t) (row_place file t) (row_place file (t + 1)) (row_of_term (term_row file t).words.params (term_row file t).words.result (Some (unify_bytes (unify_ops u.commands) ++ (0 ∷ []))))
  definition-row t u to below plain some follow short pads even =
      let same = unify-spelled file u.commands (term_row file t).stream_at to follow in
      term-there t (word_sort (term_row file t).words.result + 128) (unify_bytes (unify_ops u.commands) ++ (0 ∷ [])) below plain (defined-mark t plain some) (stands-same file _ _ _ _ refl (sym same) short.0)
      (subst (λ (x : List ℕ). IsPadded file ((term_row file t).stream_at + length x) (row_place file (t + 1))) (sym same) pads) even

  thm-row : (i : ℕ) (u : Run) (to : ℕ) → i < thm_count file → IsPlainThm file i → Follow streams.Unify file (thm_row file i).stream_at u.commands to → IsShort streams.Unify file (thm_row file i).stream_at u → IsPadded file (row_end true (thm_row file i).stream_at u) (row_place file (term_count file + i + 1)) → row_place file (term_count file + i) % 8 ≡ 0 →
      RowThere file (thm_record file i) (row_place file (term_count file + i)) (row_place file (term_count file + (i + 1))) (row_of_thm (thm_row file i).params (unify_bytes (unify_ops u.commands) ++ (0 ∷ [])))
  thm-row i u to below plain follow short pads even =
      let same = unify-spelled file u.commands (thm_row file i).stream_at to follow in
      thm-there i (unify_bytes (unify_ops u.commands) ++ (0 ∷ [])) below plain (stands-same file _ _ _ _ refl (sym same) short.0)
      (subst (λ (x : List ℕ). IsPadded file ((thm_row file i).stream_at + length x) (row_place file (term_count file + i + 1))) (sym same) pads) even

  -- ---- the statement itself

  found : (code : StatementCode) (place : Place) (q : Parts) (at body next : ℕ) (u v : Run) → StandsThere file place (it code at body next u v) → AllHold (statement_checks file place (it code at body next u v)) → IsShortStatement file place (it code at body next u v) → Found file place q →
      Found file (after place (it code at body next u v)) (with_statement q (stated file place (has_streams file place code) code u v))
  found codes_of.Sort place q at body next u v stands all n f =
      with-sort place q next (byte_at file (40 + place.rows.sorts)) (record { code = 0x04; body = [] }) f (row-left file place _ stands all).0 refl (empty-there place _ n n.streams)
  found codes_of.Term place q at body next u v stands all n f = by-body (term_row file place.rows.terms).words.has_body refl
    where
      t : ℕ
      t = place.rows.terms

      below : t < term_count file
      below = (row-left file place (it codes_of.Term at body next u v) stands all).0

      by-body : (b : Bool) → (term_row file place.rows.terms).words.has_body ≡ b → Found file (after place (it codes_of.Term at body next u v)) (with_statement q (stated file place b codes_of.Term u v))
      by-body true e =
          let short : HasShortStreams true file place (it codes_of.Term at body next u v) = subst (λ (b : Bool). HasShortStreams b file place (it codes_of.Term at body next u v)) e n.streams in
          let pads : IsPadded file (row_end true (term_row file place.rows.terms).stream_at u) (row_place file (place.rows.terms + 1)) = subst (λ (b : Bool). IsPadded file (row_end b (term_row file place.rows.terms).stream_at u) (row_place file (place.rows.terms + 1))) e n.row.1 in
          with-term place q next _ _ f (definition-row place.rows.terms u u.to below n.row.0 e stands.unify.follow short.0 pads) (body-there place _ n stands short.1 short.2)
      by-body false e =
          let empty : next ≡ body = subst (λ (b : Bool). HasShortStreams b file place (it codes_of.Term at body next u v)) e n.streams in
          let pads : IsPadded file (term_row file place.rows.terms).stream_at (row_place file (place.rows.terms + 1)) = subst (λ (b : Bool). IsPadded file (row_end b (term_row file place.rows.terms).stream_at u) (row_place file (place.rows.terms + 1))) e n.row.1 in
          let holds = (parts.terms place.rows.terms below).1 in
          with-term place q next _ _ f
          (term-there place.rows.terms (word_sort (term_row file place.rows.terms).words.result) [] below n.row.0 (plain-mark place.rows.terms n.row.0 e) (stands-none file (term_row file place.rows.terms).stream_at (omega (arith, holds)))
          (subst (λ (k : ℕ). IsPadded file k (row_place file (place.rows.terms + 1))) (let z : (term_row file place.rows.terms).stream_at ≡ (term_row file place.rows.terms).stream_at + 0 = omega arith in z) pads))
          (empty-there place _ n empty)
  found codes_of.LocalDefinition place q at body next u v stands all n f =
      let left = row-left file place (it codes_of.LocalDefinition at body next u v) stands all in
      with-term place q next _ _ f (definition-row place.rows.terms u u.to left.0 n.row.0 left.1.0 stands.unify.follow n.streams.0 n.row.1) (body-there place _ n stands n.streams.1 n.streams.2)
  found codes_of.Axiom place q at body next u v stands all n f =
      with-thm place q next _ _ f (thm-row place.rows.thms u u.to (row-left file place (it codes_of.Axiom at body next u v) stands all).0 n.row.0 stands.unify.follow n.streams.0 n.row.1) (body-there place _ n stands n.streams.1 n.streams.2)
  found codes_of.Theorem place q at body next u v stands all n f =
      with-thm place q next _ _ f (thm-row place.rows.thms u u.to (row-left file place (it codes_of.Theorem at body next u v) stands all).0 n.row.0 stands.unify.follow n.streams.0 n.row.1) (body-there place _ n stands n.streams.1 n.streams.2)
  found codes_of.LocalTheorem place q at body next u v stands all n f =
      with-thm place q next _ _ f (thm-row place.rows.thms u u.to (row-left file place (it codes_of.LocalTheorem at body next u v) stands all).0 n.row.0 stands.unify.follow n.streams.0 n.row.1) (body-there place _ n stands n.streams.1 n.streams.2)

  pub all-found : (ss : List Shown) (place : Place) (q : Parts) (to : Place) → Chain file place ss to → AreShortStatements file place ss → Found file place q → Found file to (parts_from q (all_stated file place ss))
  all-found [] place q to c short f = subst (λ (p : Place). Found file p q) (sym c) f
  all-found (s ∷ ss) place q to (stands, all, more) (one, short) f =
      all-found ss (after place s) (with_statement q (stated file place (has_streams file place s.head.code) s.head.code s.unify s.proof)) to more short (found s.head.code place q s.head.at s.head.body s.head.next s.unify s.proof stands all one f)

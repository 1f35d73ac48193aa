-- The statements of a binary are normal by their bytes, and so is the whole.
use Rattle.std.proofs.Common.{◌≡◌, ◌<◌, ◌+◌, ◌*◌, ◌^◌, ℕ, Bool, true, false, List, [], ◌∷◌, ◌++◌, length, map, replicate, slice_get, Option, Some, None, refl, sym, ap, subst, ◌∙◌, arith, append_assoc}
use Rattle.std.specs.Prelude.{⊤}
use Rattle.std.proofs.lemmas.List.{length-append}
use Rattle.mz_cmd.specs.declared.code.ProofCode.{ProofCode}
use Rattle.mz_cmd.specs.declared.code.ProofCode.TheVariants as proofs
use Rattle.mz_cmd.specs.declared.code.UnifyCode.{UnifyCode}
use Rattle.mz_cmd.specs.declared.code.UnifyCode.TheVariants as unifies
use Rattle.mz_cmd.specs.declared.code.StatementCode.{StatementCode}
use Rattle.mz_cmd.specs.declared.command.Cmd.{Cmd}
use Rattle.mz_cmd.specs.Codes.{unify_byte, proof_byte, statement_byte}
use Rattle.mz_cmd.specs.Spelling.{shortest}
use Rattle.mz_logic_theory.specs.declared.word.Word.{Word}
use Rattle.mz_logic_theory.specs.Words.{word_sort}
use Rattle.mz_layout_tables.specs.Numbers.{byte_at}
use Rattle.mz_layout_tables.specs.Tables.{TermRow, ThmRow, term_count, list_at, term_row as term_row_of, thm_row as thm_row_of}
use Rattle.mz_layout_tables.specs.Normal.{Row, Written, Parts, no_parts, row_of_term, row_of_thm, gap, header_of, distance, statement_bytes, list_bytes, rows, list_place, header_bytes, file_of}
use Rattle.mz_layout_tables.specs.Standing.{Stands, Fit, AreListed, body_place, next_place}
use Rattle.mz_layout_tables.proofs.Offered.{layout-holds, all-listed, counts-said, file-length, term-read, thm-read, stands-first, stands-second, stands-is}
use Rattle.mz_show.specs.declared.place.Place.{Place}
use Rattle.mz_show.specs.declared.stream.Stream.{Stream}
use Rattle.mz_show.specs.declared.stream.Stream.TheVariants as streams
use Rattle.mz_show.specs.Listing.{Chain, EndsAt}
use Rattle.mz_show.specs.Statements.{Statement as Shown, has_streams as shown_streams, unify_at}
use Rattle.mz_show.specs.Streams.{Run}
use Rattle.mz_show.specs.Tokens.{texts, unify_has_number, proof_has_number}
use Rattle.mz_asm.specs.declared.kind.Kind.{Kind}
use Rattle.mz_asm.specs.declared.kind.Kind.TheVariants as kinds
use Rattle.mz_asm.specs.declared.line.Line.{Line}
use Rattle.mz_asm.specs.declared.line.Line.TheVariants as lines
use Rattle.mz_asm.specs.declared.rows.Rows.{Rows}
use Rattle.mz_asm.specs.Rows.{no_rows, taken}
use Rattle.mz_asm.proofs.Plain.{ArePlain, IsMade}
use Rattle.mz_asm.specs.Statements.{Statement, has_streams, code_of, unify_line, proof_line, statement_lines, all_lines, listing_lines, command_bytes, unify_bytes, proof_bytes, body_of, written, with_statement, parts_from, parts_of}
use Rattle.mz_asm.specs.NormalBytes.{AreBytes, spelled, is_listed, HaveListed, row_end, IsPlainTerm, IsPlainThm, RowEnds, HasNormalRow, HasShortStreams, IsShortStatement, AreShortStatements, IsNormal}
use Rattle.mz_asm.proofs.GoodLines.{AllGood, Fine, good-lines}
use Rattle.mz_asm.proofs.LineTexts.{line_text}
use Rattle.mz_asm.proofs.Listable.{has-lines}
use Rattle.mz_asm.proofs.OneText.{st, both_streams}
use Rattle.mz_asm.proofs.Runs.{cmd_of, run_of}
use Rattle.mz_asm.proofs.Shown.{Extends, extends-all, IsSeen, IsShown, is-shown, place_at, counts, slice-at, good-parts, rows-go-on, statements-from, all-room, no-room}
use Rattle.mz_asm.proofs.OfBytes.{file-bytes}
use Rattle.mz_asm.proofs.Pieces.{stands-same, byte-read}
use Rattle.mz_asm.proofs.ToBytes.{reserved-there, front-there, sorts-there, zeros-there, list-there, row-place-is, term-normal, thm-normal}

-- ---- commands

spelled-is : {C : Type 0} → (byte : C → ℕ) (cs : List (C × ℕ)) → spelled (map (cmd_of byte) cs) ≡ command_bytes byte cs ++ (0 ∷ [])
spelled-is byte [] = refl
spelled-is byte (c ∷ cs) = ap (λ (x : List ℕ). shortest (byte c.0) c.1 ++ x) (spelled-is byte cs) ∙ sym (append_assoc (shortest (byte c.0) c.1) (command_bytes byte cs) (0 ∷ []))

-- an operand that isn't listed is 0
abbrev pub AreBare : {C : Type 0} → (C → Bool) → List (C × ℕ) → Type 0
AreBare has [] = ⊤
AreBare has (c ∷ cs) = (has c.0 ≡ false → c.1 ≡ 0) × AreBare has cs

bare-listed : {C : Type 0} → (stream : Stream) (byte : C → ℕ) (has : C → Bool) → ((c : C) → is_listed stream (byte c) ≡ has c) → (cs : List (C × ℕ)) → AreBare has cs → HaveListed stream (map (cmd_of byte) cs)
bare-listed stream byte has is [] bare = tt
bare-listed stream byte has is (c ∷ cs) (one, bare) = ((λ no. one (sym (is c.0) ∙ no)), bare-listed stream byte has is cs bare)

unify-lists : (c : UnifyCode) → is_listed streams.Unify (unify_byte c) ≡ unify_has_number c
unify-lists unifies.Term = refl
unify-lists _ = refl

proof-lists : (c : ProofCode) → is_listed streams.Proof (proof_byte c) ≡ proof_has_number c
proof-lists proofs.Term = refl
proof-lists _ = refl

-- ---- plain lines

plain-apart : (ls ms : List Line) → ArePlain (ls ++ ms) → ArePlain ls × ArePlain ms
plain-apart [] ms plain = (tt, plain)
plain-apart (l ∷ ls) ms (one, plain) = let rest = plain-apart ls ms plain in ((one, rest.0), rest.1)

bare-unify : (us : List (UnifyCode × ℕ)) → ArePlain (map unify_line us) → AreBare unify_has_number us
bare-unify [] plain = tt
bare-unify (u ∷ us) (one, plain) = (one, bare-unify us plain)

bare-proof : (us : List (ProofCode × ℕ)) → ArePlain (map proof_line us) → AreBare proof_has_number us
bare-proof [] plain = tt
bare-proof (u ∷ us) (one, plain) = (one, bare-proof us plain)

abbrev pub BothBare : List (UnifyCode × ℕ) → List (ProofCode × ℕ) → Type 0
BothBare us qs = AreBare unify_has_number us × AreBare proof_has_number qs

bare-streams : (us : List (UnifyCode × ℕ)) (qs : List (ProofCode × ℕ)) → ArePlain (both_streams us qs) → BothBare us qs
bare-streams us qs plain =
    let first = plain-apart (map unify_line us) (lines.UnifyEnd ∷ (map proof_line qs ++ (lines.ProofEnd ∷ []))) plain in
    let second = plain-apart (map proof_line qs) (lines.ProofEnd ∷ []) first.1.1 in
    (bare-unify us first.0, bare-proof qs second.0)

bare-of : (k : Kind) (row mods : ℕ) (ps : List Word) (o : Word) (us : List (UnifyCode × ℕ)) (qs : List (ProofCode × ℕ)) → ArePlain (statement_lines (st k row mods ps o us qs)) → has_streams k ≡ true → BothBare us qs
bare-of kinds.Sort row mods ps o us qs plain has = absurd cc
bare-of kinds.Term row mods ps o us qs plain has = absurd cc
bare-of kinds.Definition row mods ps o us qs plain has = bare-streams us qs (plain-apart (map lines.Param ps) (lines.Outcome o ∷ both_streams us qs) plain.1).1.1
bare-of kinds.LocalDefinition row mods ps o us qs plain has = bare-streams us qs (plain-apart (map lines.Param ps) (lines.Outcome o ∷ both_streams us qs) plain.1).1.1
bare-of _ row mods ps o us qs plain has = bare-streams us qs (plain-apart (map lines.Param ps) (both_streams us qs) plain.1).1

-- ---- one statement

-- what stands at a place is the command and the body of a statement, and then more
module _ (p : Parts) (fit : Fit p) where
  -- the streams
  streams-short : (place : Place) (at : ℕ) (s : Statement) (shown : Shown) → IsSeen (file_of p) place at s shown → (has_streams s.kind ≡ true → BothBare s.unify s.proof) → Stands (file_of p) (body_place at (written s)) (written s).body → (b : Bool) → has_streams s.kind ≡ b → HasShortStreams b (file_of p) place shown
  streams-short place at s shown seen bare body false e =
      let none : (written s).body ≡ [] = ap (λ (b : Bool). body_of b s) e in
      let long = ap length none in
      let here = seen.body in
      let next = seen.next in
      omega (arith, here, next, long)
  streams-short place at s shown seen bare body true e =
      let from : unify_at (file_of p) place shown.head.code ≡ unify_at (file_of p) place (code_of s.kind) = ap (λ (c : StatementCode). unify_at (file_of p) place c) seen.code in
      let us : shown.unify.commands ≡ map (cmd_of unify_byte) s.unify = ap (λ (r : Run). r.commands) (seen.unify e) in
      let qs : shown.proof.commands ≡ map (cmd_of proof_byte) s.proof = ap (λ (r : Run). r.commands) (seen.proof e) in
      let us-is : spelled shown.unify.commands ≡ unify_bytes s.unify ++ (0 ∷ []) = ap (λ (cs : List Cmd). spelled cs) us ∙ spelled-is unify_byte s.unify in
      let qs-is : spelled shown.proof.commands ≡ proof_bytes s.proof ++ (0 ∷ []) = ap (λ (cs : List Cmd). spelled cs) qs ∙ spelled-is proof_byte s.proof in
      let is : (written s).body ≡ proof_bytes s.proof ++ (0 ∷ []) = ap (λ (b : Bool). body_of b s) e in
      let long : length (written s).body ≡ length (spelled shown.proof.commands) = ap length (is ∙ sym qs-is) in
      let here = seen.body in
      let next = seen.next in (
        (
          stands-same (file_of p) _ (unify_at (file_of p) place shown.head.code) _ (spelled shown.unify.commands) (sym from) (sym us-is) (seen.stream e),
          subst (λ (cs : List Cmd). HaveListed streams.Unify cs) (sym us) (bare-listed streams.Unify unify_byte unify_has_number unify-lists s.unify (bare e).0),
        ),
        (
          stands-same (file_of p) (body_place at (written s)) shown.head.body _ (spelled shown.proof.commands) (sym here) (is ∙ sym qs-is) body,
          subst (λ (cs : List Cmd). HaveListed streams.Proof cs) (sym qs) (bare-listed streams.Proof proof_byte proof_has_number proof-lists s.proof (bare e).1),
        ),
        omega (arith, here, next, long),
      )

  -- the row
  end-is : (at : ℕ) (us : List (UnifyCode × ℕ)) (u : Run) (from : ℕ) → u ≡ run_of unify_byte from us → row_end true at u ≡ at + length (unify_bytes us ++ (0 ∷ []))
  end-is at us u from e = ap (λ (r : Run). at + length (spelled r.commands)) e ∙ ap (λ (x : List ℕ). at + length x) (spelled-is unify_byte us)

  term-said : (q : Parts) (ps : List Word) (o : Word) (stream : Option (List ℕ)) (a : List Row) → p.terms ≡ (q.terms ++ (row_of_term ps o stream ∷ [])) ++ a →
      ((term_row_of (file_of p) (length q.terms)).sort ≡ word_sort (term_row_of (file_of p) (length q.terms)).words.result) × ((term_row_of (file_of p) (length q.terms)).stream_at ≡ (term_row_of (file_of p) (length q.terms)).words_at + 8 * (length ps + 1))
  term-said q ps o stream a e =
      let t : ℕ = length q.terms in
      let read = term-read p fit t ps o stream (ap (λ (l : List Row). slice_get l t) e ∙ slice-at q.terms a (row_of_term ps o stream)) in
      let end = ap (λ (r : TermRow). r.stream_at) read in
      let start = ap (λ (r : TermRow). r.words_at) read in
      (ap (λ (r : TermRow). r.sort) read ∙ sym (ap (λ (r : TermRow). word_sort r.words.result) read), omega (arith, end, start))

  thm-said : (q : Parts) (ps : List Word) (stream : List ℕ) (a : List Row) → p.thms ≡ (q.thms ++ (row_of_thm ps stream ∷ [])) ++ a →
      (thm_row_of (file_of p) (length q.thms)).stream_at ≡ (thm_row_of (file_of p) (length q.thms)).words_at + 8 * length ps
  thm-said q ps stream a e =
      let i : ℕ = length q.thms in
      let read = thm-read p fit i ps stream (ap (λ (l : List Row). slice_get l i) e ∙ slice-at q.thms a (row_of_thm ps stream)) in
      let end = ap (λ (r : ThmRow). r.stream_at) read in
      let start = ap (λ (r : ThmRow). r.words_at) read in
      omega (arith, end, start)

  definition-normal : (q : Parts) (ps : List Word) (o : Word) (us : List (UnifyCode × ℕ)) (u : Run) (from : ℕ) (b : Bool) → (a : List Row) × (p.terms ≡ (q.terms ++ (row_of_term ps o (Some (unify_bytes us ++ (0 ∷ []))) ∷ [])) ++ a) → u ≡ run_of unify_byte from us → b ≡ true →
      IsPlainTerm (file_of p) (length q.terms) × RowEnds (file_of p) (length q.terms) (row_end b (term_row_of (file_of p) (length q.terms)).stream_at u)
  definition-normal q ps o us u from b (a, e) is has =
      let at : ℕ = (term_row_of (file_of p) (length q.terms)).stream_at in
      let said = term-said q ps o (Some (unify_bytes us ++ (0 ∷ []))) a e in
      let normal = term-normal p fit q (word_sort o + 128) ps o (unify_bytes us ++ (0 ∷ [])) a e said.0 said.1 in
      (normal.0, subst (λ (k : ℕ). RowEnds (file_of p) (length q.terms) k) (sym (ap (λ (c : Bool). row_end c at u) has ∙ end-is at us u from is)) normal.1)

  plain-normal : (q : Parts) (ps : List Word) (o : Word) (u : Run) (b : Bool) → (a : List Row) × (p.terms ≡ (q.terms ++ (row_of_term ps o None ∷ [])) ++ a) → b ≡ false →
      IsPlainTerm (file_of p) (length q.terms) × RowEnds (file_of p) (length q.terms) (row_end b (term_row_of (file_of p) (length q.terms)).stream_at u)
  plain-normal q ps o u b (a, e) none =
      let at : ℕ = (term_row_of (file_of p) (length q.terms)).stream_at in
      let said = term-said q ps o None a e in
      let normal = term-normal p fit q (word_sort o) ps o [] a e said.0 said.1 in
      let end : row_end b at u ≡ at + 0 = ap (λ (c : Bool). row_end c at u) none ∙ (let z : at ≡ at + 0 = omega arith in z) in
      (normal.0, subst (λ (k : ℕ). RowEnds (file_of p) (length q.terms) k) (sym end) normal.1)

  assertion-normal : (q : Parts) (ps : List Word) (us : List (UnifyCode × ℕ)) (u : Run) (from : ℕ) → (a : List Row) × (p.thms ≡ (q.thms ++ (row_of_thm ps (unify_bytes us ++ (0 ∷ [])) ∷ [])) ++ a) → u ≡ run_of unify_byte from us →
      IsPlainThm (file_of p) (length q.thms) × RowEnds (file_of p) (term_count (file_of p) + length q.thms) (row_end true (thm_row_of (file_of p) (length q.thms)).stream_at u)
  assertion-normal q ps us u from (a, e) is =
      let at : ℕ = (thm_row_of (file_of p) (length q.thms)).stream_at in
      let normal = thm-normal p fit q ps (unify_bytes us ++ (0 ∷ [])) a e (thm-said q ps (unify_bytes us ++ (0 ∷ [])) a e) in
      (normal.0, subst (λ (k : ℕ). RowEnds (file_of p) (term_count (file_of p) + length q.thms) k) (sym (end-is at us u from is)) normal.1)

  normal-row : (k : Kind) (row mods : ℕ) (ps : List Word) (o : Word) (us : List (UnifyCode × ℕ)) (qs : List (ProofCode × ℕ)) (q : Parts) (number at : ℕ) (taken : Rows) (shown : Shown) → Extends (with_statement q (st k row mods ps o us qs)) p → Fine taken (st k row mods ps o us qs) → IsSeen (file_of p) (place_at number at q) at (st k row mods ps o us qs) shown →
      HasNormalRow (file_of p) (place_at number at q) shown (code_of k)
  normal-row kinds.Sort row mods ps o us qs q number at taken shown e fine seen =
      let a : List ℕ = e.sorts.0 in
      let all = stands-is (file_of p) 40 _ _ (e.sorts.1 ∙ append_assoc q.sorts (mods ∷ []) a) (sorts-there p fit) in
      let is = byte-read (file_of p) (40 + length q.sorts) mods a (stands-second (file_of p) 40 q.sorts (mods ∷ a) all) in
      let small = fine.mods refl in
      omega (arith, is, small)
  normal-row kinds.Term row mods ps o us qs q number at taken shown e fine seen = plain-normal q ps o shown.unify _ e.terms seen.streams
  normal-row kinds.Definition row mods ps o us qs q number at taken shown e fine seen = definition-normal q ps o us shown.unify _ _ e.terms (seen.unify refl) seen.streams
  normal-row kinds.LocalDefinition row mods ps o us qs q number at taken shown e fine seen = definition-normal q ps o us shown.unify _ true e.terms (seen.unify refl) refl
  normal-row _ row mods ps o us qs q number at taken shown e fine seen = assertion-normal q ps us shown.unify _ e.thms (seen.unify refl)

  short-statement : (q : Parts) (number at : ℕ) (taken : Rows) (s : Statement) (one : IsShown p q number at s) → Extends (with_statement q s) p → Fine taken s → ArePlain (statement_lines s) → Stands (file_of p) at (statement_bytes (written s)) → IsShortStatement (file_of p) (place_at number at q) one.shown
  short-statement q number at taken s one e fine plain there =
      let place : Place = place_at number at q in
      let w : Written = written s in
      let first : List ℕ = shortest w.code (distance (length w.body)) in
      let seen : IsSeen (file_of p) (place_at number at q) at s one.shown = one.seen in
      let code : statement_byte one.shown.head.code ≡ w.code = ap (λ (c : StatementCode). statement_byte c) seen.code in
      let here = seen.body in
      let next = seen.next in
      record {
        size = length w.body;
        next_is = omega (arith, here, next);
        command = stands-is (file_of p) at first _ (ap (λ (c : ℕ). shortest c (distance (length w.body))) (sym code)) (stands-first (file_of p) at first w.body there);
        body_is = here ∙ ap (λ (c : ℕ). at + length (shortest c (distance (length w.body)))) (sym code);
        streams =
            subst (λ (b : Bool). HasShortStreams b (file_of p) place one.shown) (sym (ap (λ (c : StatementCode). shown_streams (file_of p) place c) seen.code ∙ seen.streams))
            (streams-short place at s one.shown seen (bare-of s.kind s.row s.mods s.params s.outcome s.unify s.proof plain) (stands-second (file_of p) at first w.body there) (has_streams s.kind) refl);
        row = subst (λ (c : StatementCode). HasNormalRow (file_of p) place one.shown c) (sym seen.code) (normal-row s.kind s.row s.mods s.params s.outcome s.unify s.proof q number at taken one.shown e fine seen);
      }

  -- ---- all of them

  pub record IsNormalChain (q : Parts) (number at : ℕ) : Type 0 where
    pub shown : List Shown
    pub last : Place
    pub chain : Chain (file_of p) (place_at number at q) shown last
    pub ends : EndsAt (file_of p) last
    pub short : AreShortStatements (file_of p) (place_at number at q) shown
    pub end : (byte_at (file_of p) last.at ≡ 0) × (length (file_of p) ≡ last.at + 1)

  chain-normal : (q : Parts) (ss : List Statement) (number at : ℕ) (before : Rows) (more : List Line) → parts_from q ss ≡ p → before ≡ counts q → AllGood before (all_lines ss ++ more) → ArePlain (all_lines ss ++ more) → AreListed (file_of p) at (map written ss) → Stands (file_of p) at (list_bytes (map written ss)) → length (file_of p) ≡ at + length (list_bytes (map written ss)) →
      IsNormalChain q number at
  chain-normal q [] number at before more e r good plain listed there long =
      let many = counts-said p fit.short in
      record {
        shown = [];
        last = place_at number at q;
        chain = refl;
        ends = (listed, record { sorts_taken = ap (λ (x : Parts). length x.sorts) e ∙ sym many.sorts; terms_taken = ap (λ (x : Parts). length x.terms) e ∙ sym many.terms; thms_taken = ap (λ (x : Parts). length x.thms) e ∙ sym many.thms });
        short = tt;
        end = (byte-read (file_of p) at 0 [] there, long);
      }
  chain-normal q (s ∷ ss) number at before more e r good plain (head, stands, listed) there long =
      let w : Written = written s in
      let ws : List Written = map written ss in
      let parts = good-parts before s ss more good in
      let apart = plain-apart (statement_lines s) (all_lines ss ++ more) (subst ArePlain (append_assoc (statement_lines s) (all_lines ss) more) plain) in
      let extends : Extends (with_statement q s) p = subst (Extends (with_statement q s)) e (extends-all (with_statement q s) ss) in
      let one : IsShown p q number at s = is-shown p fit q number at before s.kind s.row s.mods s.params s.outcome s.unify s.proof extends r parts.0 head stands in
      let bytes = length-append (shortest w.code (distance (length w.body))) w.body in
      let both = length-append (statement_bytes w) (list_bytes ws) in
      let behind : Stands (file_of p) (next_place at w) (list_bytes ws) = stands-same (file_of p) (at + length (statement_bytes w)) (next_place at w) (list_bytes ws) (list_bytes ws) (omega (arith, bytes)) refl (stands-second (file_of p) at (statement_bytes w) (list_bytes ws) there) in
      let rest = chain-normal (with_statement q s) ss (number + 1) (next_place at w) (taken before s.kind) more e (rows-go-on q s before r) parts.1 apart.1 listed behind (omega (arith, long, bytes, both)) in
      record {
        shown = one.shown ∷ rest.shown;
        last = rest.last;
        chain = (one.stands, one.right, subst (λ (pl : Place). Chain (file_of p) pl rest.shown rest.last) (sym one.goes) rest.chain);
        ends = rest.ends;
        short = (short-statement q number at before s one extends parts.0 apart.0 (stands-first (file_of p) at (statement_bytes w) (list_bytes ws) there), subst (λ (pl : Place). AreShortStatements (file_of p) pl rest.shown) (sym one.goes) rest.short);
        end = rest.end;
      }

  -- a whole binary
  whole-normal : AreBytes (file_of p) → IsNormalChain no_parts 1 (list_at (file_of p)) → IsNormal (file_of p)
  whole-normal bytes c =
      let said = counts-said p fit.short in
      let sorts = said.sorts in
      let terms = said.terms in
      let thms = said.thms in
      let terms-at = said.terms_at in
      let thms-at = said.thms_at in
      let rows-at = row-place-is p fit [] (rows p) refl in
      record {
        bytes = bytes;
        layout = layout-holds p fit;
        reserved = reserved-there (file_of p) (header_of p) (stands-first (file_of p) 0 (header_bytes (header_of p)) p.sorts (front-there p fit));
        terms = (terms-at ∙ ap (λ (n : ℕ). (40 + n) + gap (40 + n)) (sym sorts), subst (λ (n : ℕ). Stands (file_of p) (40 + n) (replicate (gap (40 + n)) 0)) (sym sorts) (zeros-there p fit));
        thms = omega (arith, terms-at, thms-at, terms);
        rows = omega (arith, rows-at, thms-at, thms);
        statements = c.shown;
        last = c.last;
        chain = c.chain;
        ends = c.ends;
        short = c.short;
        end = c.end;
      }

pub by-bytes : (file : List ℕ) → length file < 2 ^ 32 → IsMade file → IsNormal file
by-bytes file few normal =
    let ss : List Statement = normal.statements in
    let p : Parts = parts_of ss in
    let many = ap length normal.file_is in
    let long = file-length (parts_of ss) in
    let has = has-lines (listing_lines ss) no_rows normal.fitting normal.plain in
    let good : AllGood no_rows (all_lines ss ++ (lines.End ∷ [])) = good-lines (texts line_text (listing_lines ss)) (listing_lines ss) [] no_rows has normal.fitting in
    let room = all-room no_parts ss no_rows (lines.End ∷ []) no-room (omega arith) refl good in
    let fit : Fit p = record { room = room.0; few_sorts = room.1; short = omega (arith, many, long, few) } in
    let said = counts-said p fit.short in
    let at = said.list_at in
    let is : p.statements ≡ map written ss = statements-from no_parts ss in
    let listed = subst (λ (ws : List Written). AreListed (file_of p) (list_at (file_of p)) ws) is (subst (λ (k : ℕ). AreListed (file_of p) k p.statements) (sym at) (all-listed p fit)) in
    let there = stands-same (file_of p) (list_place p) (list_at (file_of p)) (list_bytes p.statements) (list_bytes (map written ss)) (sym at) (ap (λ (ws : List Written). list_bytes ws) is) (list-there p fit) in
    let same : length (list_bytes p.statements) ≡ length (list_bytes (map written ss)) = ap (λ (ws : List Written). length (list_bytes ws)) is in
    let chain = chain-normal p fit no_parts ss 1 (list_at (file_of p)) no_rows (lines.End ∷ []) refl refl good normal.plain listed there (omega (arith, long, at, same)) in
    subst IsNormal (sym normal.file_is) (whole-normal p fit (file-bytes ss fit) chain)

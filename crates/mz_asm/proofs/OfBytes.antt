-- A written binary is a list of bytes.
use Rattle.std.proofs.Common.{◌≤◌, ◌<◌, ◌+◌, ◌/◌, ◌^◌, ℕ, zero, suc, Bool, true, false, cond, List, [], ◌∷◌, ◌++◌, length, replicate, codes, Some, None, sym, subst, arith, append_assoc, mod-lt}
use Rattle.std.specs.Prelude.{⊤, ◌==◌, nat_lt, All}
use Rattle.std.specs.Int.{bytes_low_first}
use Rattle.byteorder.specs.Endian.{little_bytes}
use Rattle.mz_cmd.specs.declared.code.ProofCode.{ProofCode}
use Rattle.mz_cmd.specs.declared.code.ProofCode.TheVariants as proofs
use Rattle.mz_cmd.specs.declared.code.UnifyCode.{UnifyCode}
use Rattle.mz_cmd.specs.declared.code.UnifyCode.TheVariants as unifies
use Rattle.mz_cmd.specs.Codes.{unify_byte, proof_byte}
use Rattle.mz_cmd.specs.Spelling.{operand_len, shortest_size, shortest}
use Rattle.mz_logic_theory.specs.declared.word.Word.{Word}
use Rattle.mz_logic_theory.specs.Words.{word_sort}
use Rattle.mz_layout_tables.specs.Numbers.{byte_at}
use Rattle.mz_layout_tables.specs.declared.header.Header.{Header}
use Rattle.mz_layout_tables.specs.Normal.{Row, Written, Parts, no_parts, row_of_term, row_of_thm, gap, padded, row_bytes, row_block, words_bytes, blocks, record_bytes, table, distance, statement_bytes, list_bytes, header_bytes, header_of, rows, rows_place, file_of}
use Rattle.mz_layout_tables.specs.Standing.{Fit}
use Rattle.mz_asm.specs.declared.kind.Kind.{Kind}
use Rattle.mz_asm.specs.declared.kind.Kind.TheVariants as kinds
use Rattle.mz_asm.specs.NormalBytes.{AreBytes}
use Rattle.mz_asm.specs.Statements.{Statement, command_bytes, unify_bytes, proof_bytes, written, with_statement, parts_from, parts_of}
use Rattle.mz_asm.proofs.OneText.{st}
use Rattle.mz_asm.proofs.Pieces.{digit-is}

-- ---- lists of bytes

abbrev pub AllBytes : List ℕ → Type 0
AllBytes [] = ⊤
AllBytes (x ∷ xs) = (x < 256) × AllBytes xs

pub are-bytes : (xs : List ℕ) → AllBytes xs → (at : ℕ) → byte_at xs at < 256
are-bytes [] all at = omega arith
are-bytes (x ∷ xs) (one, all) zero = one
are-bytes (x ∷ xs) (one, all) (suc at) = are-bytes xs all at

both : (xs ys : List ℕ) → AllBytes xs → AllBytes ys → AllBytes (xs ++ ys)
both [] ys a b = b
both (x ∷ xs) ys (one, a) b = (one, both xs ys a b)

little : (n j x : ℕ) → AllBytes (bytes_low_first j n x)
little zero j x = tt
little (suc n) j x = (subst (λ (k : ℕ). k < 256) (sym (digit-is x j)) (mod-lt (x / 256 ^ j) (omega arith)), little n (suc j) x)

zeros : (n : ℕ) → AllBytes (replicate n 0)
zeros zero = tt
zeros (suc n) = (omega arith, zeros n)

-- ---- commands

size-small : (a b c : Bool) → cond a 0 (cond b 1 (cond c 2 3)) < 4
size-small false false true = omega arith
size-small _ _ _ = omega arith

short-bytes : (code value : ℕ) → code < 64 → AllBytes (shortest code value)
short-bytes code value small = let size = size-small (value == 0) (nat_lt value 256) (nat_lt value 65536) in (omega (arith, small, size), little (operand_len (shortest_size value)) 0 value)

commands-bytes : {C : Type 0} → (byte : C → ℕ) → ((c : C) → byte c < 64) → (cs : List (C × ℕ)) → AllBytes (command_bytes byte cs ++ (0 ∷ []))
commands-bytes byte small [] = (omega arith, tt)
commands-bytes byte small (c ∷ cs) = subst AllBytes (sym (append_assoc (shortest (byte c.0) c.1) (command_bytes byte cs) (0 ∷ []))) (both (shortest (byte c.0) c.1) (command_bytes byte cs ++ (0 ∷ [])) (short-bytes (byte c.0) c.1 (small c.0)) (commands-bytes byte small cs))

unify-small : (c : UnifyCode) → unify_byte c < 64
unify-small unifies.Term = omega arith
unify-small _ = omega arith

proof-small : (c : ProofCode) → proof_byte c < 64
proof-small proofs.Term = omega arith
proof-small _ = omega arith

-- ---- parts

-- a row whose third byte and stream are bytes
abbrev pub AreRows : List Row → Type 0
AreRows [] = ⊤
AreRows (r ∷ rs) = (r.mark < 256) × AllBytes r.stream × AreRows rs

abbrev pub AreWritten : List Written → Type 0
AreWritten [] = ⊤
AreWritten (w ∷ ws) = (w.code < 64) × AllBytes w.body × AreWritten ws

pub record OfBytes (p : Parts) : Type 0 where
  pub terms : AreRows p.terms
  pub thms : AreRows p.thms
  pub statements : AreWritten p.statements

rows-both : (rs qs : List Row) → AreRows rs → AreRows qs → AreRows (rs ++ qs)
rows-both [] qs a b = b
rows-both (r ∷ rs) qs (mark, stream, a) b = (mark, stream, rows-both rs qs a b)

written-more : (ws : List Written) (w : Written) → AreWritten ws → w.code < 64 → AllBytes w.body → AreWritten (ws ++ (w ∷ []))
written-more [] w a small body = (small, body, tt)
written-more (v ∷ ws) w (code, bytes, a) small body = (code, bytes, written-more ws w a small body)

unify-stream : (us : List (UnifyCode × ℕ)) → AllBytes (unify_bytes us ++ (0 ∷ []))
unify-stream us = commands-bytes unify_byte unify-small us

body-bytes : (qs : List (ProofCode × ℕ)) → AllBytes (proof_bytes qs ++ (0 ∷ []))
body-bytes qs = commands-bytes proof_byte proof-small qs

mark-small : (w : Word) → word_sort w + 128 < 256
mark-small w = omega arith

one-more : (p : Parts) (k : Kind) (row mods : ℕ) (ps : List Word) (o : Word) (us : List (UnifyCode × ℕ)) (qs : List (ProofCode × ℕ)) → OfBytes p → OfBytes (with_statement p (st k row mods ps o us qs))
one-more p kinds.Sort row mods ps o us qs of = record { terms = of.terms; thms = of.thms; statements = written-more p.statements (written (st kinds.Sort row mods ps o us qs)) of.statements (omega arith) tt }
one-more p kinds.Term row mods ps o us qs of = record { terms = rows-both p.terms (row_of_term ps o None ∷ []) of.terms ((let small = mark-small o in omega (arith, small)), tt, tt); thms = of.thms; statements = written-more p.statements (written (st kinds.Term row mods ps o us qs)) of.statements (omega arith) tt }
one-more p kinds.Definition row mods ps o us qs of = record { terms = rows-both p.terms (row_of_term ps o (Some (unify_bytes us ++ (0 ∷ []))) ∷ []) of.terms (mark-small o, unify-stream us, tt); thms = of.thms; statements = written-more p.statements (written (st kinds.Definition row mods ps o us qs)) of.statements (omega arith) (body-bytes qs) }
one-more p kinds.LocalDefinition row mods ps o us qs of = record { terms = rows-both p.terms (row_of_term ps o (Some (unify_bytes us ++ (0 ∷ []))) ∷ []) of.terms (mark-small o, unify-stream us, tt); thms = of.thms; statements = written-more p.statements (written (st kinds.LocalDefinition row mods ps o us qs)) of.statements (omega arith) (body-bytes qs) }
one-more p kinds.Axiom row mods ps o us qs of = record { terms = of.terms; thms = rows-both p.thms (row_of_thm ps (unify_bytes us ++ (0 ∷ [])) ∷ []) of.thms (omega arith, unify-stream us, tt); statements = written-more p.statements (written (st kinds.Axiom row mods ps o us qs)) of.statements (omega arith) (body-bytes qs) }
one-more p kinds.Theorem row mods ps o us qs of = record { terms = of.terms; thms = rows-both p.thms (row_of_thm ps (unify_bytes us ++ (0 ∷ [])) ∷ []) of.thms (omega arith, unify-stream us, tt); statements = written-more p.statements (written (st kinds.Theorem row mods ps o us qs)) of.statements (omega arith) (body-bytes qs) }
one-more p kinds.LocalTheorem row mods ps o us qs of = record { terms = of.terms; thms = rows-both p.thms (row_of_thm ps (unify_bytes us ++ (0 ∷ [])) ∷ []) of.thms (omega arith, unify-stream us, tt); statements = written-more p.statements (written (st kinds.LocalTheorem row mods ps o us qs)) of.statements (omega arith) (body-bytes qs) }

all-more : (p : Parts) (ss : List Statement) → OfBytes p → OfBytes (parts_from p ss)
all-more p [] of = of
all-more p (s ∷ ss) of = all-more (with_statement p s) ss (one-more p s.kind s.row s.mods s.params s.outcome s.unify s.proof of)

sorts-bytes : (xs : List ℕ) → All (λ m. m < 16) xs → AllBytes xs
sorts-bytes [] all = tt
sorts-bytes (x ∷ xs) all = ((let one = all 0 0 (omega arith) in omega (arith, one)), sorts-bytes xs (λ i d below. all (suc i) d (omega (arith, below))))

-- ---- the file

words-all : (ws : List Word) → AllBytes (words_bytes ws)
words-all [] = tt
words-all (w ∷ ws) = both (little_bytes 8 w.0) (words_bytes ws) (little 8 0 w.0) (words-all ws)

blocks-all : (rs : List Row) → AreRows rs → AllBytes (blocks rs)
blocks-all [] all = tt
blocks-all (r ∷ rs) (mark, stream, all) =
    both (row_block r) (blocks rs) (both (row_bytes r) (replicate (gap (length (row_bytes r))) 0) (both (words_bytes r.words) r.stream (words-all r.words) stream) (zeros (gap (length (row_bytes r))))) (blocks-all rs all)

table-all : (at : ℕ) (rs : List Row) → AreRows rs → AllBytes (table at rs)
table-all at [] all = tt
table-all at (r ∷ rs) (mark, stream, all) =
    both (record_bytes at r) (table (at + length (row_block r)) rs) (both (little_bytes 2 r.params) (r.mark ∷ 0 ∷ little_bytes 4 at) (little 2 0 r.params) (mark, (omega arith, little 4 0 at))) (table-all (at + length (row_block r)) rs all)

list-all : (ws : List Written) → AreWritten ws → AllBytes (list_bytes ws)
list-all [] all = (omega arith, tt)
list-all (w ∷ ws) (code, body, all) =
    both (statement_bytes w) (list_bytes ws) (both (shortest w.code (distance (length w.body))) w.body (short-bytes w.code (distance (length w.body)) code) body) (list-all ws all)

header-all : (h : Header) → h.sorts < 256 → AllBytes (header_bytes h)
unfolding header_bytes
header-all h few =
    let from24 : List ℕ = little_bytes 4 h.list_at ++ replicate 12 0 in
    let from20 : List ℕ = little_bytes 4 h.thms_at ++ from24 in
    let from16 : List ℕ = little_bytes 4 h.terms_at ++ from20 in
    let from12 : List ℕ = little_bytes 4 h.thms ++ from16 in
    let from8 : List ℕ = little_bytes 4 h.terms ++ from12 in
    let all24 : AllBytes from24 = both (little_bytes 4 h.list_at) (replicate 12 0) (little 4 0 h.list_at) (zeros 12) in
    let all20 : AllBytes from20 = both (little_bytes 4 h.thms_at) from24 (little 4 0 h.thms_at) all24 in
    let all16 : AllBytes from16 = both (little_bytes 4 h.terms_at) from20 (little 4 0 h.terms_at) all20 in
    let all12 : AllBytes from12 = both (little_bytes 4 h.thms) from16 (little 4 0 h.thms) all16 in
    let all8 : AllBytes from8 = both (little_bytes 4 h.terms) from12 (little 4 0 h.terms) all12 in
    both (codes "MM0B" ++ (1 ∷ h.sorts ∷ [])) (0 ∷ 0 ∷ from8) (omega arith, (omega arith, (omega arith, (omega arith, (omega arith, (few, tt)))))) (omega arith, (omega arith, all8))

parts-all : (p : Parts) → OfBytes p → AllBytes p.sorts → length p.sorts ≤ 128 → AllBytes (file_of p)
unfolding file_of
parts-all p of sorts few =
    both (padded (header_bytes (header_of p) ++ p.sorts)) (table (rows_place p) (rows p) ++ (blocks (rows p) ++ list_bytes p.statements))
    (both (header_bytes (header_of p) ++ p.sorts) (replicate (gap (length (header_bytes (header_of p) ++ p.sorts))) 0) (both (header_bytes (header_of p)) p.sorts (header-all (header_of p) (omega (arith, few))) sorts) (zeros (gap (length (header_bytes (header_of p) ++ p.sorts)))))
    (both (table (rows_place p) (rows p)) (blocks (rows p) ++ list_bytes p.statements) (table-all (rows_place p) (rows p) (rows-both p.terms p.thms of.terms of.thms))
    (both (blocks (rows p)) (list_bytes p.statements) (blocks-all (rows p) (rows-both p.terms p.thms of.terms of.thms)) (list-all p.statements of.statements)))

pub file-bytes : (ss : List Statement) → Fit (parts_of ss) → AreBytes (file_of (parts_of ss))
file-bytes ss fit = are-bytes (file_of (parts_of ss)) (parts-all (parts_of ss) (all-more no_parts ss (record { terms = tt; thms = tt; statements = tt })) (sorts-bytes (parts_of ss).sorts fit.room.mods) fit.few_sorts)

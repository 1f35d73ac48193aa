-- A place of the list has one statement, of which all that is asked is decided.
use Rattle.std.proofs.Common.{◌≡◌, ◌⊎◌, ◌∙◌, ℕ, Bool, true, false, List, length, take, Option, Some, None, Result, Ok, Err, refl, sym, subst, arith, inl, inr}
use Rattle.mz_base.specs.Checks.{AllHold, FailsFirst, AreDecided}
use Rattle.mz_base.proofs.Offered.{all_hold-both, all_hold-excludes, all_hold-first, all_hold-or_fails, fails-before, fails_first-unique, are_decided-both, retold-decided, retold-held, retold-holds}
use Rattle.mz_cmd.specs.declared.code.StatementCode.{StatementCode}
use Rattle.mz_cmd.specs.declared.code.StatementCode.TheVariants as codes_of
use Rattle.mz_cmd.specs.declared.rule.Refusal.{Refusal}
use Rattle.mz_cmd.specs.declared.statement.StmtAt.{StmtAt}
use Rattle.mz_cmd.specs.declared.statement.StmtAt.TheVariants as stands
use Rattle.mz_cmd.specs.declared.statement.StmtFault.{StmtFault}
use Rattle.mz_cmd.specs.Codes.{statement_byte, statement_code}
use Rattle.mz_cmd.specs.StatementList.{statement_at}
use Rattle.mz_layout_tables.specs.declared.head.Head.{Head}
use Rattle.mz_layout_tables.specs.Heads.{IsHeadAt, body_bytes, checks_of, head_checks, kind_checks}
use Rattle.mz_layout_tables.proofs.Offered.{code-is, empty-decided, head-decided}
use Rattle.mz_show.specs.declared.place.Place.{Place}
use Rattle.mz_show.specs.declared.stream.Stream.TheVariants.{Unify, Proof}
use Rattle.mz_show.specs.Streams.{Run, IsLongest}
use Rattle.mz_show.specs.Statements.{Statement, Stands, unify_at, has_streams, place_checks, part_checks, statement_checks, refusal_at}
use Rattle.mz_show.specs.Listing.{EndsAt, StopsAt}
use Rattle.mz_show.proofs.Commands.{longest-unique, longest-some, end_stands-decided, leads_to-decided}

-- ---- one statement

equal : (make : StatementCode → ℕ → ℕ → ℕ → Head) (c d : StatementCode) (a a' b b' n n' : ℕ) → c ≡ d → a ≡ a' → b ≡ b' → n ≡ n' → make c a b n ≡ make d a' b' n'
equal make c d a a' b b' n n' e f g h = cc

byte-back : (c : StatementCode) → statement_code (statement_byte c) ≡ Some c
byte-back codes_of.Sort = refl
byte-back codes_of.Term = refl
byte-back codes_of.LocalDefinition = refl
byte-back codes_of.Axiom = refl
byte-back codes_of.Theorem = refl
byte-back codes_of.LocalTheorem = refl

same-code : (c d : StatementCode) (o : Option StatementCode) → o ≡ Some c → o ≡ Some d → c ≡ d
same-code c d o e f = cc

same-head : (r : Result StmtAt StmtFault) (k k' b b' n n' : ℕ) → r ≡ Ok (stands.Head k b n) → r ≡ Ok (stands.Head k' b' n') → (k ≡ k') × (b ≡ b') × (n ≡ n')
same-head r k k' b b' n n' e f = (cc, cc, cc)

-- the command of a statement stands at the place
abbrev pub at_place : List ℕ → Place → Head → Type 0
at_place file place head = statement_at file place.at ≡ Ok (stands.Head (statement_byte head.code) head.body head.next)

pub head-there : (file : List ℕ) (place : Place) (head : Head) → IsHeadAt file place.at head → at_place file place head
head-there file place head h = subst (λ (at : ℕ). statement_at file at ≡ Ok (stands.Head (statement_byte head.code) head.body head.next)) h.at_is h.stands

heads-same : (file : List ℕ) (place : Place) (h k : Head) → IsHeadAt file place.at h → IsHeadAt file place.at k → h ≡ k
heads-same file place h k a b =
    let same = same-head (statement_at file place.at) (statement_byte h.code) (statement_byte k.code) h.body k.body h.next k.next (head-there file place h a) (head-there file place k b) in
    let back : statement_code (statement_byte h.code) ≡ Some k.code = subst (λ (n : ℕ). statement_code n ≡ Some k.code) (sym same.0) (byte-back k.code) in
    let code : h.code ≡ k.code = same-code h.code k.code (statement_code (statement_byte h.code)) (byte-back h.code) back in
    equal (λ c at b n. record { code = c; at = at; body = b; next = n }) h.code k.code h.at k.at h.body k.body h.next k.next code (a.at_is ∙ sym b.at_is) same.1 same.2

statements-same : (make : Head → Run → Run → Statement) (h k : Head) (u u' p p' : Run) → h ≡ k → u ≡ u' → p ≡ p' → make h u p ≡ make k u' p'
statements-same make h k u u' p p' e f g = cc

pub stands-unique : (file : List ℕ) (place : Place) (s t : Statement) → Stands file place s → Stands file place t → s ≡ t
stands-unique file place s t a b =
    let h : s.head ≡ t.head = heads-same file place s.head t.head a.head b.head in
    let u : s.unify ≡ t.unify = longest-unique Unify file (unify_at file place s.head.code) s.unify t.unify a.unify
    (subst (λ (k : Head). IsLongest Unify file (unify_at file place k.code) t.unify) (sym h) b.unify) in
    let there : IsLongest Proof (take s.head.next file) s.head.body t.proof = subst (λ (k : Head). IsLongest Proof (take k.next file) k.body t.proof) (sym h) b.proof in
    let p : s.proof ≡ t.proof = longest-unique Proof (take s.head.next file) s.head.body s.proof t.proof a.proof there in
    statements-same (λ head unify proof. record { head = head; unify = unify; proof = proof }) s.head t.head s.unify t.unify s.proof t.proof h u p

-- where a statement begins, one stands
pub stands-some : (file : List ℕ) (place : Place) (head : Head) → IsHeadAt file place.at head →
    (unify proof : Run) × Stands file place (record { head = head; unify = unify; proof = proof })
stands-some file place head there =
    let u = longest-some Unify file (length file) (unify_at file place head.code) (omega arith) in
    let p = longest-some Proof (take head.next file) (length (take head.next file)) head.body (omega arith) in
    (u.0, p.0, record { head = there; unify = u.1; proof = p.1 })

-- ---- what is asked is decided

place-decided : (file : List ℕ) (place : Place) → AreDecided (place_checks file place)
place-decided file place = retold-decided (λ fault. refusal_at place fault.0 fault.1) (head_checks file place.rows place.at) (head-decided file place.rows place.at)

part-decided : (b : Bool) (file : List ℕ) (place : Place) (s : Statement) → AreDecided (part_checks b file place s)
part-decided true file place s =
    (end_stands-decided file s.unify.to, λ _. (end_stands-decided (take s.head.next file) s.proof.to, λ _. (leads_to-decided (take s.head.next file) s.proof.to s.head.next, λ _. tt)))
part-decided false file place s = (empty-decided (body_bytes file s.head.body s.head.next), λ _. tt)

pub statement-decided : (file : List ℕ) (place : Place) (s : Statement) → AreDecided (statement_checks file place s)
statement-decided file place s =
    are_decided-both (place_checks file place) (part_checks (has_streams file place s.head.code) file place s)
    (place-decided file place) (λ _. part-decided (has_streams file place s.head.code) file place s)

-- ---- what stands at a place

-- where nothing fails, the checks of what was read there hold
place-holds : (file : List ℕ) (place : Place) (there : Result StmtAt StmtFault) → statement_at file place.at ≡ there → AllHold (place_checks file place) → AllHold (checks_of file place.rows place.at there)
place-holds file place there e all =
    subst (λ (r : Result StmtAt StmtFault). AllHold (checks_of file place.rows place.at r)) e
    (retold-held (λ fault. refusal_at place fault.0 fault.1) (head_checks file place.rows place.at) all)

-- and where they hold, nothing fails
pub holds-place : (file : List ℕ) (place : Place) (there : Result StmtAt StmtFault) → statement_at file place.at ≡ there → AllHold (checks_of file place.rows place.at there) → AllHold (place_checks file place)
holds-place file place there e all =
    retold-holds (λ fault. refusal_at place fault.0 fault.1) (head_checks file place.rows place.at)
    (subst (λ (r : Result StmtAt StmtFault). AllHold (checks_of file place.rows place.at r)) (sym e) all)

-- where all that is asked of the place and of its parts holds, nothing fails
pub statement-holds : (file : List ℕ) (place : Place) (s : Statement) → Stands file place s → AllHold (kind_checks file place.rows place.at (Some s.head.code)) →
    AllHold (part_checks (has_streams file place s.head.code) file place s) → AllHold (statement_checks file place s)
statement-holds file place s a row parts =
    let code : AllHold (kind_checks file place.rows place.at (statement_code (statement_byte s.head.code))) =
    subst (λ (o : Option StatementCode). AllHold (kind_checks file place.rows place.at o)) (sym (byte-back s.head.code)) row in
    all_hold-both (place_checks file place) (part_checks (has_streams file place s.head.code) file place s)
    (holds-place file place (Ok (stands.Head (statement_byte s.head.code) s.head.body s.head.next)) (head-there file place s.head a.head) code) parts

pub end-holds : (file : List ℕ) (place : Place) → EndsAt file place → AllHold (place_checks file place)
end-holds file place ends = holds-place file place (Ok stands.End) ends.0 (ends.1, tt)

-- ---- one outcome

abbrev pub Outcome : List ℕ → Place → Type 0
Outcome file place = EndsAt file place ⊎ ((refusal : Refusal) × StopsAt file place refusal)

abbrev pub Good : List ℕ → Place → Type 0
Good file place = (s : Statement) × Stands file place s × AllHold (statement_checks file place s)

by-head : (file : List ℕ) (place : Place) (head : Head) → IsHeadAt file place.at head → Good file place ⊎ Outcome file place
by-head file place head there =
    let some = stands-some file place head there in
    let s : Statement = record { head = head; unify = some.0; proof = some.1 } in
    let stands_there : Stands file place s = some.2 in
    elim (all_hold-or_fails (statement_checks file place s) (statement-decided file place s)) [
      | inl all ↦ inl (s, stands_there, all)
      | inr fails ↦ inr (inr (fails.0, inr (s, stands_there, fails.1)))
    ]

by-code : (file : List ℕ) (place : Place) (kind body next : ℕ) (o : Option StatementCode) → statement_at file place.at ≡ Ok (stands.Head kind body next) → statement_code kind ≡ o →
    AllHold (kind_checks file place.rows place.at o) → Good file place ⊎ Outcome file place
by-code file place kind body next None e is all = absurd all.0
by-code file place kind body next (Some code) e is all =
    by-head file place (record { code = code; at = place.at; body = body; next = next })
    (record { stands = subst (λ (n : ℕ). statement_at file place.at ≡ Ok (stands.Head n body next)) (code-is code kind is) e; at_is = refl })

by-answer : (file : List ℕ) (place : Place) (there : Result StmtAt StmtFault) → statement_at file place.at ≡ there → AllHold (checks_of file place.rows place.at there) → Good file place ⊎ Outcome file place
by-answer file place (Err fault) e all = absurd all.0
by-answer file place (Ok stands.End) e all = inr (inl (e, all.0))
by-answer file place (Ok (stands.Head kind body next)) e all = by-code file place kind body next (statement_code kind) e refl all

pub outcome : (file : List ℕ) (place : Place) → Good file place ⊎ Outcome file place
outcome file place = elim (all_hold-or_fails (place_checks file place) (place-decided file place)) [
  | inl all ↦ by-answer file place (statement_at file place.at) refl (place-holds file place (statement_at file place.at) refl all)
  | inr fails ↦ inr (inr (fails.0, inl fails.1))
]

pub good-excludes_end : (file : List ℕ) (place : Place) → Good file place → EndsAt file place → ⊥
good-excludes_end file place good ends = let e = head-there file place good.0.head good.1.head in let f = ends.0 in absurd cc

pub good-excludes_stop : (file : List ℕ) (place : Place) (refusal : Refusal) → Good file place → StopsAt file place refusal → ⊥
good-excludes_stop file place refusal good (inl stop) =
    all_hold-excludes (place_checks file place) refusal
    (all_hold-first (place_checks file place) (part_checks (has_streams file place good.0.head.code) file place good.0) good.2) stop
good-excludes_stop file place refusal good (inr stop) =
    let same : stop.0 ≡ good.0 = stands-unique file place stop.0 good.0 stop.1 good.1 in
    all_hold-excludes (statement_checks file place good.0) refusal good.2
    (subst (λ (s : Statement). FailsFirst (statement_checks file place s) refusal) same stop.2)

pub end-excludes_stop : (file : List ℕ) (place : Place) (refusal : Refusal) → EndsAt file place → StopsAt file place refusal → ⊥
end-excludes_stop file place refusal ends (inl stop) = all_hold-excludes (place_checks file place) refusal (end-holds file place ends) stop
end-excludes_stop file place refusal ends (inr stop) = let e = ends.0 in let f = head-there file place stop.0.head stop.1.head in absurd cc

-- a rule that fails at the place fails of the statement there
fails-whole : (file : List ℕ) (place : Place) (s : Statement) (refusal : Refusal) → FailsFirst (place_checks file place) refusal → FailsFirst (statement_checks file place s) refusal
fails-whole file place s refusal f = fails-before (place_checks file place) (part_checks (has_streams file place s.head.code) file place s) refusal f

pub stop-unique : (file : List ℕ) (place : Place) (r q : Refusal) → StopsAt file place r → StopsAt file place q → r ≡ q
stop-unique file place r q (inl a) (inl b) = fails_first-unique (place_checks file place) r q a b
stop-unique file place r q (inl a) (inr b) = fails_first-unique (statement_checks file place b.0) r q (fails-whole file place b.0 r a) b.2
stop-unique file place r q (inr a) (inl b) = fails_first-unique (statement_checks file place a.0) r q a.2 (fails-whole file place a.0 q b)
stop-unique file place r q (inr a) (inr b) =
    let same : b.0 ≡ a.0 = stands-unique file place b.0 a.0 b.1 a.1 in
    fails_first-unique (statement_checks file place a.0) r q a.2
    (subst (λ (s : Statement). FailsFirst (statement_checks file place s) q) same b.2)

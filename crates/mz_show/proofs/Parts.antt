-- What was found of a statement's streams and body is reported of the one statement there.
use Rattle.std.proofs.Common.{◌≡◌, ◌++◌, ◌∙◌, ℕ, Bool, true, false, List, length, take, codes, Result, Ok, Err, refl, sym, ap, subst, inl, inr, arith, append_assoc, append-nil}
use Rattle.std.specs.Prelude.{IsErrAnd}
use Rattle.mz_base.specs.Checks.{AllHold, FailsFirst}
use Rattle.mz_base.proofs.Offered.{fails-after, all_hold-both}
use Rattle.mz_cmd.specs.declared.rule.K.TheVariants as rules
use Rattle.mz_cmd.specs.declared.rule.Refusal.{Refusal}
use Rattle.mz_layout_tables.specs.declared.head.Head.{Head}
use Rattle.mz_layout_tables.specs.Heads.{IsHeadAt, empty_checks}
use Rattle.mz_show.specs.declared.place.Place.{Place}
use Rattle.mz_show.specs.declared.stream.Stream.TheVariants.{Unify, Proof}
use Rattle.mz_show.specs.declared.stop.Stop.{Stop}
use Rattle.mz_show.specs.declared.stop.Stop.TheVariants.{Refused, Mem}
use Rattle.mz_show.specs.Tokens.{texts}
use Rattle.mz_show.specs.Streams.{EndStands, LeadsTo, command_line}
use Rattle.mz_show.specs.Statements.{Statement, unify_at, has_streams, place_checks, told_there, part_checks, statement_checks, row_text, streams_text, statement_text, refusal_at}
use Rattle.mz_show.specs.Answers.{AppendsRun, IsThere, IfRefused, TellsStreams, TellsStatement}
use Rattle.mz_show.proofs.Commands.{longest-some}
use Rattle.mz_show.proofs.Statements.{stands-some}

module _ (file : List ℕ) (place : Place) (head : Head) where
  abbrev pub FailsThere : Bool → Refusal → Type 0
  FailsThere b refusal = (s : Statement) × IsThere file place head s × FailsFirst (part_checks b file place s) refusal

  abbrev pub PassesThere : Bool → List ℕ → List ℕ → Type 0
  PassesThere b old new = (s : Statement) × IsThere file place head s × AllHold (part_checks b file place s) × (new ≡ old ++ streams_text b s)

  -- ---- neither stream

  pub empty-passes : (b : Bool) (text : List ℕ) → b ≡ false → IsHeadAt file place.at head → AllHold (told_there place (empty_checks file place.at head.body head.next)) → PassesThere b text text
  empty-passes true text e there all = absurd cc
  empty-passes false text e there all =
      let some = stands-some file place head there in (
        record { head = head; unify = some.0; proof = some.1 },
        record { stands = some.2; head_is = refl },
        all,
        sym (append-nil text),
      )

  pub empty-fails : (b : Bool) (refusal : Refusal) → b ≡ false → IsHeadAt file place.at head → FailsFirst (told_there place (empty_checks file place.at head.body head.next)) refusal → FailsThere b refusal
  empty-fails true refusal e there fails = absurd cc
  empty-fails false refusal e there fails =
      let some = stands-some file place head there in (
        record { head = head; unify = some.0; proof = some.1 },
        record { stands = some.2; head_is = refl },
        fails,
      )

  -- ---- a unify stream and a body

  abbrev UnifyRun : ℕ → List ℕ → List ℕ → Type 0
  UnifyRun to old new = AppendsRun Unify file (unify_at file place head.code) to old new

  abbrev ProofRun : ℕ → List ℕ → List ℕ → Type 0
  ProofRun to old new = AppendsRun Proof (take head.next file) head.body to old new

  -- the same runs over what a call gave
  pub unify-run : (given : List ℕ) (at to : ℕ) (old new : List ℕ) → given ≡ file → at ≡ unify_at file place head.code → AppendsRun Unify given at to old new → UnifyRun to old new
  unify-run given at to old new e f u =
      subst (λ (n : ℕ). AppendsRun Unify file n to old new) f (subst (λ (bytes : List ℕ). AppendsRun Unify bytes at to old new) e u)

  pub proof-run : (given : List ℕ) (to : ℕ) (old new : List ℕ) → given ≡ file → AppendsRun Proof (take head.next given) head.body to old new → ProofRun to old new
  proof-run given to old new e p = subst (λ (bytes : List ℕ). AppendsRun Proof (take head.next bytes) head.body to old new) e p

  pub unify-fails : (b : Bool) (to : ℕ) (old new : List ℕ) (refusal : Refusal) → b ≡ true → IsHeadAt file place.at head → UnifyRun to old new →
      (EndStands file to → ⊥) → refusal ≡ refusal_at place to rules.Command → FailsThere b refusal
  unify-fails false to old new refusal e there u none is = absurd cc
  unify-fails true to old new refusal e there u none is =
      let p = longest-some Proof (take head.next file) (length (take head.next file)) head.body (omega arith) in (
        record { head = head; unify = record { commands = u.commands; to = to }; proof = p.0 },
        record { stands = record { head = there; unify = u.longest; proof = p.1 }; head_is = refl },
        inl (none, is),
      )

  pub body-fails : (b : Bool) (to end : ℕ) (old between start new : List ℕ) (refusal : Refusal) → b ≡ true → IsHeadAt file place.at head → UnifyRun to old between →
      EndStands file to → ProofRun end start new → (EndStands (take head.next file) end → ⊥) → refusal ≡ refusal_at place end rules.Command → FailsThere b refusal
  body-fails false to end old between start new refusal e there u ends p none is = absurd cc
  body-fails true to end old between start new refusal e there u ends p none is = (
    record { head = head; unify = record { commands = u.commands; to = to }; proof = record { commands = p.commands; to = end } },
    record { stands = record { head = there; unify = u.longest; proof = p.longest }; head_is = refl },
    inr (ends, inl (none, is)),
  )

  pub length-fails : (b : Bool) (to end : ℕ) (old between start new : List ℕ) (refusal : Refusal) → b ≡ true → IsHeadAt file place.at head → UnifyRun to old between →
      EndStands file to → ProofRun end start new → EndStands (take head.next file) end → (LeadsTo (take head.next file) end head.next → ⊥) → refusal ≡ refusal_at place end rules.StatementLength → FailsThere b refusal
  length-fails false to end old between start new refusal e there u ends p closes none is = absurd cc
  length-fails true to end old between start new refusal e there u ends p closes none is = (
    record { head = head; unify = record { commands = u.commands; to = to }; proof = record { commands = p.commands; to = end } },
    record { stands = record { head = there; unify = u.longest; proof = p.longest }; head_is = refl },
    inr (ends, inr (closes, inl (none, is))),
  )

  joined : (old unify unify_end proof proof_end between start new : List ℕ) → between ≡ old ++ unify → start ≡ between ++ unify_end → new ≡ start ++ proof →
      new ++ proof_end ≡ old ++ ((unify ++ unify_end) ++ (proof ++ proof_end))
  joined old unify unify_end proof proof_end between start new e f g =
      let all : new ++ proof_end ≡ (((old ++ unify) ++ unify_end) ++ proof) ++ proof_end = cc in all ∙ simp append_assoc

  pub streams-pass : (b : Bool) (to end : ℕ) (old between start new text : List ℕ) → b ≡ true → IsHeadAt file place.at head → UnifyRun to old between →
      EndStands file to → start ≡ between ++ codes " u end\n" → ProofRun end start new → EndStands (take head.next file) end → LeadsTo (take head.next file) end head.next →
      text ≡ new ++ codes " p end\n" → PassesThere b old text
  streams-pass false to end old between start new text e there u ends f p closes leads g = absurd cc
  streams-pass true to end old between start new text e there u ends f p closes leads g = (
    record { head = head; unify = record { commands = u.commands; to = to }; proof = record { commands = p.commands; to = end } },
    record { stands = record { head = there; unify = u.longest; proof = p.longest }; head_is = refl },
    (ends, (closes, (leads, tt))),
    g ∙ joined old (texts (command_line Unify) u.commands) (codes " u end\n") (texts (command_line Proof) p.commands) (codes " p end\n") between start new u.lines f p.lines,
  )

  -- ---- what is asked of the place before them

  pub parts-fail : (refusal : Refusal) → AllHold (place_checks file place) → FailsThere (has_streams file place head.code) refusal →
      (s : Statement) × IsThere file place head s × FailsFirst (statement_checks file place s) refusal
  parts-fail refusal holds t =
      let fails : FailsFirst (part_checks (has_streams file place t.0.head.code) file place t.0) refusal =
      subst (λ (h : Head). FailsFirst (part_checks (has_streams file place h.code) file place t.0) refusal) (sym t.1.head_is) t.2 in
      (t.0, t.1, fails-after (place_checks file place) (part_checks (has_streams file place t.0.head.code) file place t.0) refusal holds fails)

  pub parts-pass : (old between new : List ℕ) → AllHold (place_checks file place) → between ≡ old ++ row_text file place head.code → PassesThere (has_streams file place head.code) between new →
      (s : Statement) × IsThere file place head s × AllHold (statement_checks file place s) × (new ≡ old ++ statement_text file place s)
  parts-pass old between new holds e t =
      let all : AllHold (part_checks (has_streams file place t.0.head.code) file place t.0) =
      subst (λ (h : Head). AllHold (part_checks (has_streams file place h.code) file place t.0)) (sym t.1.head_is) t.2 in
      let lines : new ≡ (old ++ row_text file place head.code) ++ streams_text (has_streams file place head.code) t.0 =
      t.3 ∙ ap (λ front. front ++ streams_text (has_streams file place head.code) t.0) e in
      let text : new ≡ old ++ (row_text file place head.code ++ streams_text (has_streams file place head.code) t.0) =
      lines ∙ append_assoc old (row_text file place head.code) (streams_text (has_streams file place head.code) t.0) in (
        t.0,
        t.1,
        all_hold-both (place_checks file place) (part_checks (has_streams file place t.0.head.code) file place t.0) holds all,
        subst (λ (h : Head). new ≡ old ++ (row_text file place h.code ++ streams_text (has_streams file place h.code) t.0)) (sym t.1.head_is) text,
      )

  -- ---- what is answered with

  pub streams-refused : (old new : List ℕ) (r : Result (Unit {0}) Stop) (refusal : Refusal) → IsErrAnd r (λ stop. stop ≡ Refused refusal) →
      FailsThere (has_streams file place head.code) refusal → TellsStreams file place head old new r
  streams-refused old new (Ok x) refusal is fails = absurd is
  streams-refused old new (Err stop) refusal is fails = subst (λ (s : Stop). IfRefused s (λ r. FailsThere (has_streams file place head.code) r)) (sym is) fails

  pub statement-told : (old between new : List ℕ) (r : Result (Unit {0}) Stop) → AllHold (place_checks file place) → between ≡ old ++ row_text file place head.code →
      TellsStreams file place head between new r → TellsStatement file place head old new r
  statement-told old between new (Ok x) holds e t = parts-pass old between new holds e t
  statement-told old between new (Err (Refused refusal)) holds e t = parts-fail refusal holds t
  statement-told old between new (Err Mem) holds e t = tt

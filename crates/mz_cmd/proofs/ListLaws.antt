-- What stands in the list of statements is reported exactly.
use Rattle.std.proofs.Common.{◌≡◌, ℕ, ◌+◌, Bool, true, false, cond, ltb, eqb, ◌||◌, List, length, Result, Ok, Err, refl, subst, arith, inl, inr}
use Rattle.std.specs.Prelude.{◌↔◌, IsTrue}
use Rattle.std.proofs.lemmas.Bool.{ltb-false, ltb-true, eqb-true, eq-eqb, le-ltb}
use Rattle.mz_base.specs.Checks.{Judges}
use Rattle.mz_cmd.proofs.SpellingLaws.{found-is}
use Rattle.mz_cmd.specs.declared.command.Cmd.{Cmd}
use Rattle.mz_cmd.specs.declared.command.CmdFault.{CmdFault}
use Rattle.mz_cmd.specs.declared.statement.StmtAt.{StmtAt}
use Rattle.mz_cmd.specs.declared.statement.StmtAt.TheVariants.{End, Head}
use Rattle.mz_cmd.specs.declared.statement.StmtFault.{StmtFault}
use Rattle.mz_cmd.specs.declared.statement.StmtFault.TheVariants.{Kind, Length}
use Rattle.mz_cmd.specs.Codes.{begins_statement}
use Rattle.mz_cmd.specs.Reading.{StandsAt}
use Rattle.mz_cmd.specs.StatementList.{IsEnd, LeadsOn, IsHead, IsListedAt, statement_checks, statement_of}

-- the answer is Ok of exactly the command that stands at the place
abbrev pub Reads : List ℕ → ℕ → Result Cmd CmdFault → Type 0
Reads bytes at r = (c : Cmd) → (r ≡ Ok c) ↔ StandsAt bytes at c

abbrev found : Cmd → Result Cmd CmdFault
found c = Ok c

-- one command stands at a place
one-stands : (bytes : List ℕ) (at : ℕ) (c d : Cmd) → Reads bytes at (Ok c) → StandsAt bytes at d → c ≡ d
one-stands bytes at c d reads stands = found-is c d ((reads d).1 stands)

-- what is said of the command that stands there is said of each that does
each : (bytes : List ℕ) (at : ℕ) (c : Cmd) (P : Cmd → Type 0) → Reads bytes at (Ok c) → P c → (d : Cmd) → StandsAt bytes at d → P d
each bytes at c P reads p d stands = subst P (one-stands bytes at c d reads stands) p

abbrev BeginsOrEnds : Cmd → Type 0
BeginsOrEnds d = IsTrue (eqb d.code 0 || begins_statement d.code)

abbrev LeadsOnFrom : List ℕ → ℕ → Cmd → Type 0
LeadsOnFrom bytes at d = (IsEnd d → ⊥) → LeadsOn bytes at d

-- the answer is the first check's that fails
pub listed-judged : (bytes : List ℕ) (at : ℕ) (r : Result Cmd CmdFault) → Reads bytes at r → Judges (statement_of (length bytes) at r) (statement_checks bytes at)
listed-judged bytes at (Err f) reads = inl (λ p. absurd (let no : Err f ≡ Ok p.0 = (reads p.0).1 p.1 in cc), refl)
listed-judged bytes at (Ok c) reads = go (eqb c.code 0) (begins_statement c.code) (ltb c.value c.len) (ltb (length bytes) (at + c.value)) refl refl refl refl
  where
    stands : StandsAt bytes at c
    stands = (reads c).0 refl

    go : (z k a b : Bool) → eqb c.code 0 ≡ z → begins_statement c.code ≡ k → ltb c.value c.len ≡ a → ltb (length bytes) (at + c.value) ≡ b → Judges (cond z (Ok End) (cond k (cond (a || b) (Err Length) (Ok (Head c.code (at + c.len) (at + c.value)))) (Err Kind))) (statement_checks bytes at)
    go true k a b e f g h = ((c, stands), (each bytes at c BeginsOrEnds reads (rw e refl), (each bytes at c (LeadsOnFrom bytes at) reads (λ other. absurd (other (eqb-true _ _ e))), tt)))
    go false false a b e f g h = inr ((c, stands), inl (λ all. absurd (let no : IsTrue (eqb c.code 0 || begins_statement c.code) = all c stands in let is : eqb c.code 0 || begins_statement c.code ≡ false = rw (e, f) refl in cc), refl))
    go false true true b e f g h = inr ((c, stands), inr (each bytes at c BeginsOrEnds reads (rw (e, f) refl), inl (λ all. let on = all c stands (λ z. absurd (let is : eqb c.code 0 ≡ true = eq-eqb _ _ z in cc)) in absurd (omega (arith, ltb-true _ _ g, on.0)), refl)))
    go false true false true e f g h = inr ((c, stands), inr (each bytes at c BeginsOrEnds reads (rw (e, f) refl), inl (λ all. let on = all c stands (λ z. absurd (let is : eqb c.code 0 ≡ true = eq-eqb _ _ z in cc)) in absurd (omega (arith, ltb-true _ _ h, on.1)), refl)))
    go false true false false e f g h = ((c, stands), (each bytes at c BeginsOrEnds reads (rw (e, f) refl), (each bytes at c (LeadsOnFrom bytes at) reads (λ other. (ltb-false _ _ g, ltb-false _ _ h)), tt)))

-- ---- what is answered stands in the list

abbrev found_place : StmtAt → Result StmtAt StmtFault
found_place s = Ok s

found-place : (s t : StmtAt) → found_place s ≡ found_place t → s ≡ t
found-place s t e = cc

pub listed-stands : (bytes : List ℕ) (at : ℕ) (r : Result Cmd CmdFault) → Reads bytes at r → (s : StmtAt) → statement_of (length bytes) at r ≡ Ok s → IsListedAt bytes at s
listed-stands bytes at (Err f) reads s e = absurd cc
listed-stands bytes at (Ok c) reads s e = go (eqb c.code 0) (begins_statement c.code) (ltb c.value c.len) (ltb (length bytes) (at + c.value)) refl refl refl refl e
  where
    go : (z k a b : Bool) → eqb c.code 0 ≡ z → begins_statement c.code ≡ k → ltb c.value c.len ≡ a → ltb (length bytes) (at + c.value) ≡ b → cond z (Ok End) (cond k (cond (a || b) (Err Length) (Ok (Head c.code (at + c.len) (at + c.value)))) (Err Kind)) ≡ Ok s → IsListedAt bytes at s
    go true k a b e f g h is = subst (IsListedAt bytes at) (found-place End s is) (c, (reads c).0 refl, eqb-true _ _ e)
    go false false a b e f g h is = absurd cc
    go false true true b e f g h is = absurd cc
    go false true false true e f g h is = absurd cc
    go false true false false e f g h is =
        let head : IsHead bytes at c.code (at + c.len) (at + c.value) = record { command = c; stands = (reads c).0 refl; statement = f; leads_on = (ltb-false _ _ g, ltb-false _ _ h); kind_is = refl; body_is = refl; next_is = refl } in
        subst (IsListedAt bytes at) (found-place (Head c.code (at + c.len) (at + c.value)) s is) head

pub not-ended : (code : ℕ) → IsTrue (begins_statement code) → eqb code 0 ≡ false
not-ended code h = go (eqb code 0) refl
  where
    go : (z : Bool) → eqb code 0 ≡ z → z ≡ false
    go false e = refl
    go true e = absurd (let no : begins_statement 0 ≡ true = subst (λ (n : ℕ). begins_statement n ≡ true) (eqb-true _ _ e) h in cc)

-- what stands in the list is answered
pub stands-listed : (bytes : List ℕ) (at : ℕ) (r : Result Cmd CmdFault) → Reads bytes at r → (s : StmtAt) → IsListedAt bytes at s → statement_of (length bytes) at r ≡ Ok s
stands-listed bytes at r reads End l =
    rw ((reads l.0).1 l.1, l.2) refl
stands-listed bytes at r reads (Head kind body next) l =
    let read : r ≡ Ok l.command = (reads l.command).1 l.stands in
    let other : eqb l.command.code 0 ≡ false = not-ended l.command.code l.statement in
    let short : ltb l.command.value l.command.len ≡ false = le-ltb _ _ l.leads_on.0 in
    let within : ltb (length bytes) (at + l.command.value) ≡ false = le-ltb _ _ l.leads_on.1 in
    rw (read, other, l.statement, short, within, l.kind_is, l.body_is, l.next_is) refl

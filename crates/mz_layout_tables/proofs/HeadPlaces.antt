-- Where the first command of a statement leads.
use Rattle.std.proofs.Common.{◌≡◌, ◌<◌, ◌≤◌, ◌+◌, ◌-◌, ◌^◌, ◌/◌, ◌%◌, ℕ, Bool, true, false, cond, ltb, eqb, ◌||◌, List, [], ◌∷◌, length, length-drop, drop, Some, Result, Ok, Err, refl, sym, ap, subst, ◌∙◌, arith, inl, inr}
use Rattle.std.specs.Prelude.{◌==◌, find}
use Rattle.std.proofs.lemmas.Bool.{ltb-false, cases_eq, eqb-true}
use Rattle.byteorder.specs.Endian.{little_number}
use Rattle.mz_base.specs.Checks.{AllHold}
use Rattle.mz_cmd.specs.declared.code.StatementCode.{StatementCode}
use Rattle.mz_cmd.specs.declared.command.Cmd.{Cmd}
use Rattle.mz_cmd.specs.declared.command.CmdFault.{CmdFault}
use Rattle.mz_cmd.specs.declared.command.CmdFault.TheVariants.{Cut, Unknown}
use Rattle.mz_cmd.specs.declared.statement.StmtAt.{StmtAt}
use Rattle.mz_cmd.specs.declared.statement.StmtAt.TheVariants.{End, Head}
use Rattle.mz_cmd.specs.declared.statement.StmtFault.{StmtFault}
use Rattle.mz_cmd.specs.declared.statement.StmtFault.TheVariants.{Kind, Length}
use Rattle.mz_cmd.specs.Codes.{is_known, statement_byte, statement_code, statement_codes, begins_statement}
use Rattle.mz_cmd.specs.Spelling.{operand_len}
use Rattle.mz_cmd.specs.Reading.{first_command, command_at}
use Rattle.mz_cmd.specs.StatementList.{statement_of, statement_at}
use Rattle.mz_layout_tables.specs.declared.rows_so_far.Rows.{Rows}
use Rattle.mz_layout_tables.specs.Heads.{IsNextHead, next_row, row_checks}

-- ---- a command

-- it takes a byte or more, all of them there, and one byte has no operand
pub record Takes (len value rest : ℕ) : Type 0 where
  pub some : 1 ≤ len
  pub whole : len ≤ rest
  pub bare : len ≡ 1 → value ≡ 0

abbrev none-left : (n : ℕ) → n + 1 ≡ 1 → n ≡ 0
none-left n e = omega arith

first-takes : (bytes : List ℕ) (c : Cmd) → first_command bytes ≡ Ok c → Takes c.len c.value (length bytes)
first-takes [] c e = absurd cc
first-takes (head ∷ rest) c e = go (ltb (length rest) n) (is_known (head % 64)) refl e
  where
    n : ℕ
    n = operand_len (head / 64)

    made : Cmd
    made = record { code = head % 64; value = little_number n rest; len = n + 1 }

    go : (cut known : Bool) → ltb (length rest) n ≡ cut → cond cut (Err Cut) (cond known (Ok made) (Err Unknown)) ≡ Ok c → Takes c.len c.value (length (head ∷ rest))
    go true known f is = absurd cc
    go false false f is = absurd cc
    go false true f is =
        let same : made ≡ c = cc in
        let room : n ≤ length rest = ltb-false _ _ f in
        subst (λ (d : Cmd). Takes d.len d.value (length (head ∷ rest))) same (record {
          some = omega arith;
          whole = omega arith;
          bare = λ one. ap (λ (k : ℕ). little_number k rest) (none-left n one);
        })

pub command-takes : (bytes : List ℕ) (at : ℕ) (c : Cmd) → command_at bytes at ≡ Ok c → Takes c.len c.value (length bytes - at)
command-takes bytes at c e =
    let t = first-takes (drop at bytes) c e in
    subst (λ (n : ℕ). Takes c.len c.value n) (length-drop at bytes) t

-- ---- the command of a statement

-- its body lies two bytes on or more, and the next statement behind the body and within the bytes
pub record IsAhead (bytes : List ℕ) (at kind body next : ℕ) : Type 0 where
  pub body_after : at + 2 ≤ body
  pub next_after : body ≤ next
  pub within : next ≤ length bytes
  pub begins : begins_statement kind ≡ true

pub head-ahead : (bytes : List ℕ) (at kind body next : ℕ) → statement_at bytes at ≡ Ok (Head kind body next) → IsAhead bytes at kind body next
head-ahead bytes at kind body next e = by-command (command_at bytes at) refl e
  where
    by-command : (r : Result Cmd CmdFault) → command_at bytes at ≡ r → statement_of (length bytes) at r ≡ Ok (Head kind body next) → IsAhead bytes at kind body next
    by-command (Err f) is e = absurd cc
    by-command (Ok c) is e = go (eqb c.code 0) (begins_statement c.code) (ltb c.value c.len) (ltb (length bytes) (at + c.value)) refl refl refl refl e
      where
        go : (z k a b : Bool) → eqb c.code 0 ≡ z → begins_statement c.code ≡ k → ltb c.value c.len ≡ a → ltb (length bytes) (at + c.value) ≡ b →
            cond z (Ok End) (cond k (cond (a || b) (Err Length) (Ok (Head c.code (at + c.len) (at + c.value)))) (Err Kind)) ≡ Ok (Head kind body next) → IsAhead bytes at kind body next
        go true k a b e f g h is_head = absurd cc
        go false false a b e f g h is_head = absurd cc
        go false true true b e f g h is_head = absurd cc
        go false true false true e f g h is_head = absurd cc
        go false true false false e f g h is_head =
            let kind_is : c.code ≡ kind = cc in
            let body_is : at + c.len ≡ body = cc in
            let next_is : at + c.value ≡ next = cc in
            let t = command-takes bytes at c is in
            let long : c.len ≤ c.value = ltb-false _ _ g in
            let inside : at + c.value ≤ length bytes = ltb-false _ _ h in
            let two : 2 ≤ c.len = elim (cases_eq c.len 1) [
              | inl one ↦ (let none = t.bare one in absurd (omega arith))
              | inr other ↦ omega (arith, t.some, other)
            ] in
            record { body_after = omega arith; next_after = omega arith; within = omega arith; begins = subst (λ (n : ℕ). begins_statement n ≡ true) kind_is f }

-- ---- the codes

find-passes : {A : Type 0} → (p : A → Bool) (xs : List A) (x : A) → find p xs ≡ Some x → p x ≡ true
find-passes p [] x e = absurd cc
find-passes p (y ∷ ys) x e = by (p y) refl e (find-passes p ys x)
  where
    by : (b : Bool) → p y ≡ b → cond b (Some y) (find p ys) ≡ Some x → (find p ys ≡ Some x → p x ≡ true) → p x ≡ true
    by true passes e rest = let same : y ≡ x = cc in subst (λ z. p z ≡ true) same passes
    by false passes e rest = rest e

pub code-is : (k : StatementCode) (code : ℕ) → statement_code code ≡ Some k → code ≡ statement_byte k
code-is k code e = sym (eqb-true (statement_byte k) code (find-passes (λ c. statement_byte c == code) statement_codes k e))

-- ---- a statement that stands at a place

abbrev there_is : StmtAt → Result StmtAt StmtFault
there_is there = Ok there

-- what was read in a file that is this one
pub stands-here : (read file : List ℕ) (at : ℕ) (there same_there : StmtAt) → read ≡ file → Ok there ≡ statement_at read at → there ≡ same_there → statement_at file at ≡ Ok same_there
stands-here read file at there same_there same stands is = subst (λ f. statement_at f at ≡ there_is same_there) same (sym stands ∙ ap there_is is)

pub next-head : (file : List ℕ) (rows : Rows) (at kind body next : ℕ) (code : StatementCode) → statement_at file at ≡ Ok (Head kind body next) → statement_code kind ≡ Some code →
    AllHold (row_checks file rows at code) → next_row rows code + 1 < 2 ^ 32 → IsNextHead file rows at (record { code = code; at = at; body = body; next = next })
next-head file rows at kind body next code stands is row fits =
    let h = head-ahead file at kind body next stands in
    record {
      head_is = record { stands = subst (λ (n : ℕ). statement_at file at ≡ there_is (Head n body next)) (code-is code kind is) stands; at_is = refl };
      row = row.0;
      suits = row.1;
      fits = fits;
      body_after = h.body_after;
      next_after = h.next_after;
      within = h.within;
    }

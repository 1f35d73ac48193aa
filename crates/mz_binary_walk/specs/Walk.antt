-- How far the list of statements of a binary was gone over (the .mmb format, its list of statements).
use Rattle.std.specs.Prelude.{◌≡◌, ◌≤◌, ◌<◌, ◌+◌, ◌^◌, ℕ, Bool, if◌then◌else◌, List, length}
use Rattle.mz_cmd.specs.Codes.{statement_byte}
use Rattle.mz_layout_tables.specs.Heads.{IsNextHead, rows_after}
use Rattle.mz_layout_tables.specs.Tables.{list_at}
use Rattle.mz_layout_tables.specs.declared.head.Head.{Head}
use Rattle.mz_binary_theory.specs.Spelling.{is_local_code}
use Rattle.mz_binary_walk.specs.declared.passed.Passed.{Passed}

-- one more, if the statement is public
abbrev pub past_public : ℕ → Bool → ℕ
past_public k local = if local then k else k + 1

-- no statement
abbrev pub nothing_passed : List ℕ → Passed
nothing_passed file = record { at = list_at file; rows = record { sorts = 0; terms = 0; thms = 0 }; statements = 0; publics = 0 }

-- a statement more
abbrev pub passed_with : Passed → Head → Passed
passed_with p head = record {
  at = head.next;
  rows = rows_after p.rows head.code;
  statements = p.statements + 1;
  publics = past_public p.publics (is_local_code (statement_byte head.code));
}

-- the place lies within a file of 32 bits, and no more statements stand before it than bytes
pub record IsPlaced (file : List ℕ) (p : Passed) : Type 0 where
  pub fits : length file < 2 ^ 32
  pub within : p.at ≤ length file
  pub statements_low : p.statements ≤ p.at
  pub publics_low : p.publics ≤ p.at

-- the statement comes next, and with it the list was gone over so far
pub record GoesOn (file : List ℕ) (p : Passed) (head : Head) (after : Passed) : Type 0 where
  pub next : IsNextHead file p.rows p.at head
  pub passed : after ≡ passed_with p head
  pub placed : IsPlaced file after
  pub further : p.at < after.at

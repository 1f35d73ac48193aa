-- The command of a statement that stands at a place.
use Rattle.std.proofs.Common.{◌≡◌, ◌<◌, ◌≤◌, ℕ, List, length, Some, Ok, refl, arith}
use Rattle.mz_cmd.specs.declared.code.StatementCode.{StatementCode}
use Rattle.mz_cmd.specs.declared.code.StatementCode.TheVariants as codes
use Rattle.mz_cmd.specs.declared.statement.StmtAt.TheVariants.{Head}
use Rattle.mz_cmd.specs.Codes.{statement_byte, statement_code}
use Rattle.mz_cmd.specs.StatementList.{statement_at}
use Rattle.mz_layout_tables.proofs.Offered.{head-ahead}

pub code-of : (k : StatementCode) → statement_code (statement_byte k) ≡ Some k
code-of codes.Axiom = refl
code-of codes.Sort = refl
code-of codes.Term = refl
code-of codes.Theorem = refl
code-of codes.LocalDefinition = refl
code-of codes.LocalTheorem = refl

pub record IsHeadAt (file : List ℕ) (at kind body next : ℕ) : Type 0 where
  pub before : at ≤ body
  pub order : body ≤ next
  pub within : next ≤ length file
  pub further : at < next

pub head-at : (file : List ℕ) (at kind body next : ℕ) → statement_at file at ≡ Ok (Head kind body next) → IsHeadAt file at kind body next
head-at file at kind body next e =
    let h = head-ahead file at kind body next e in
    record { before = omega (arith, h.body_after); order = h.next_after; within = h.within; further = omega (arith, h.body_after, h.next_after) }

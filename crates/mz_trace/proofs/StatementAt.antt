-- The body of a theorem that stands at a place.
use Rattle.std.proofs.Common.{◌≡◌, ◌≤◌, ℕ, List, Ok, length, refl, sym, subst, ◌∙◌}
use Rattle.mz_cmd.specs.declared.statement.StmtAt.TheVariants.{Head}
use Rattle.mz_cmd.specs.StatementList.{statement_at}
use Rattle.mz_layout_tables.specs.declared.rows_so_far.Rows.{Rows}
use Rattle.mz_binary_theory.proofs.Offered.{head-at}
use Rattle.mz_layout_tables.specs.Heads.{body_bytes}
use Rattle.mz_trace.specs.Runs.{RunsOver, IsTheoremAt}

-- in the bytes that were read, and so in the file
pub stands-in : (bytes file : List ℕ) (at kind body next : ℕ) → bytes ≡ file → statement_at bytes at ≡ Ok (Head kind body next) → statement_at file at ≡ Ok (Head kind body next)
stands-in bytes file at kind body next same stands = subst (λ (f : List ℕ). statement_at f at ≡ Ok (Head kind body next)) same stands

module _ (file : List ℕ) (at row kind body next : ℕ) (stands : statement_at file at ≡ Ok (Head kind body next)) where
  pub in-order : body ≤ next
  in-order = (head-at file at kind body next stands).order

  pub within : next ≤ length file
  within = (head-at file at kind body next stands).within

  module _ (before : Rows) (t : IsTheoremAt file at row before) where
    pub body-is : t.body ≡ body
    body-is = let same : Ok (Head t.code t.body t.next) ≡ Ok (Head kind body next) = sym t.stands ∙ stands in cc

    pub next-is : t.next ≡ next
    next-is = let same : Ok (Head t.code t.body t.next) ≡ Ok (Head kind body next) = sym t.stands ∙ stands in cc

    pub runs-there : RunsOver file row body (body_bytes file body next) before
    runs-there = rw (sym body-is, sym next-is) t.runs

    pub bytes-are : body_bytes file body next ≡ body_bytes file t.body t.next
    bytes-are = rw (body-is, next-is) refl

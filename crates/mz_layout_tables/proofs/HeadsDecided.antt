-- What is asked of a place of the list can be found out.
use Rattle.std.proofs.Common.{◌≡◌, ◌⊎◌, ℕ, Bool, true, false, List, [], ◌∷◌, Option, Some, None, Result, Ok, Err, refl, inl, inr}
use Rattle.std.proofs.lemmas.Bool.{cases_eq}
use Rattle.mz_base.proofs.Offered.{below-decided, bytes-decided}
use Rattle.mz_base.specs.Checks.{AreDecided}
use Rattle.mz_cmd.specs.declared.code.StatementCode.{StatementCode}
use Rattle.mz_cmd.specs.declared.code.StatementCode.TheVariants as codes
use Rattle.mz_cmd.specs.declared.statement.StmtAt.{StmtAt}
use Rattle.mz_cmd.specs.declared.statement.StmtAt.TheVariants.{End, Head}
use Rattle.mz_cmd.specs.declared.statement.StmtFault.{StmtFault}
use Rattle.mz_cmd.specs.Codes.{statement_code}
use Rattle.mz_cmd.specs.StatementList.{statement_at}
use Rattle.mz_layout_tables.specs.Tables.{sort_count, term_count, thm_count, term_row}
use Rattle.mz_layout_tables.specs.declared.rows_so_far.Rows.{Rows}
use Rattle.mz_layout_tables.specs.Heads.{AllTaken, IsEmptyBody, checks_of, head_checks, kind_checks, next_row, row_count, suits_checks}

bool-decided : (b : Bool) → (b ≡ true) ⊎ (b ≡ true → ⊥)
bool-decided true = inl refl
bool-decided false = inr (λ e. absurd cc)

taken-decided : (file : List ℕ) (rows : Rows) → AllTaken file rows ⊎ (AllTaken file rows → ⊥)
taken-decided file rows = elim (cases_eq rows.sorts (sort_count file)) [
  | inl s ↦ elim (cases_eq rows.terms (term_count file)) [
    | inl t ↦ elim (cases_eq rows.thms (thm_count file)) [
      | inl h ↦ inl (record { sorts_taken = s; terms_taken = t; thms_taken = h })
      | inr h ↦ inr (λ all. h all.thms_taken)
    ]
    | inr t ↦ inr (λ all. t all.terms_taken)
  ]
  | inr s ↦ inr (λ all. s all.sorts_taken)
]

suits-decided : (file : List ℕ) (rows : Rows) (at : ℕ) (code : StatementCode) → AreDecided (suits_checks file rows at code)
suits-decided file rows at codes.Sort = tt
suits-decided file rows at codes.Term = (inl tt, λ _. tt)
suits-decided file rows at codes.LocalDefinition = (bool-decided (term_row file rows.terms).words.has_body, λ _. tt)
suits-decided file rows at codes.Axiom = tt
suits-decided file rows at codes.Theorem = tt
suits-decided file rows at codes.LocalTheorem = tt

kind-decided : (file : List ℕ) (rows : Rows) (at : ℕ) (o : Option StatementCode) → AreDecided (kind_checks file rows at o)
kind-decided file rows at None = (inr (λ never. never), λ _. tt)
kind-decided file rows at (Some code) = (below-decided (next_row rows code) (row_count file code), λ _. suits-decided file rows at code)

checks-decided : (file : List ℕ) (rows : Rows) (at : ℕ) (there : Result StmtAt StmtFault) → AreDecided (checks_of file rows at there)
checks-decided file rows at (Err fault) = (inr (λ never. never), λ _. tt)
checks-decided file rows at (Ok End) = (taken-decided file rows, λ _. tt)
checks-decided file rows at (Ok (Head kind body next)) = kind-decided file rows at (statement_code kind)

pub head-decided : (file : List ℕ) (rows : Rows) (at : ℕ) → AreDecided (head_checks file rows at)
head-decided file rows at = checks-decided file rows at (statement_at file at)

pub empty-decided : (bytes : List ℕ) → IsEmptyBody bytes ⊎ (IsEmptyBody bytes → ⊥)
empty-decided bytes = elim (bytes-decided bytes []) [
  | inl none ↦ inl (inl none)
  | inr some ↦ elim (bytes-decided bytes (0 ∷ [])) [
    | inl one ↦ inl (inr one)
    | inr more ↦ inr (λ h. elim h [ inl a ↦ some a | inr b ↦ more b ])
  ]
]

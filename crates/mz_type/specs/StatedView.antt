-- What a well-typed text is seen as: whether its proofs may have gaps, and its statements.
use Rattle.std.specs.Prelude.{ℕ, ◌≡◌, ◌<◌, ◌^◌, Bool, List, [], ◌∷◌, length, refl}
use Rattle.std.specs.Coded.{Coded, code_by, coded×, coded_bool, coded_list}
use Rattle.mz_logic_theory.specs.Declaration.{Declaration}
use Rattle.mz_sexpr.specs.Node.{Nodes}
use Rattle.mz_mmu_theory.specs.Statements.{Statement, AreStatements}
use Rattle.mz_mmu_theory.specs.StatementView.{option_proof}
use Rattle.mz_mmu_theory.specs.Name.{no_names}
use Rattle.mz_mmu_theory.specs.TextView.{statement_code}
use Rattle.mz_mmu_theory.specs.Meaning.{LegalAsStated}
use Rattle.mz_mmu_theory.specs.Weight.{weight_of}
use Rattle.mz_type.specs.declared.typed.Beside.{Beside}

pub record Stated : Type 0 where
  pub gaps : Bool
  pub statements : List Statement

abbrev pub stated_code : Coded Stated
stated_code = code_by (Bool × List Statement) (coded× coded_bool (coded_list statement_code))
    (λ s. (s.gaps, s.statements)) (λ p. record { gaps = p.0; statements = p.1 }) (λ _. refl)

-- the statement that declares this, and says that beside it
abbrev pub with_decl : Declaration → Beside → Statement
with_decl d b = record { is_local = b.is_local; name = b.name.now; decl = d; dummies = b.dummies; proof = option_proof b.proof }

abbrev pub statements_of : List Declaration → List Beside → List Statement
statements_of [] bs = []
statements_of (d ∷ ds) [] = []
statements_of (d ∷ ds) (b ∷ bs) = with_decl d b ∷ statements_of ds bs

-- some nodes read as these statements
abbrev pub AreRead : Bool → List Statement → Type 0
AreRead gaps ss = (ns : Nodes) × AreStatements (no_names gaps) ns ss

-- a well-typed text, kept as what it declares, what it says beside that, and its weight
pub record IsTyped (gaps : Bool) (env : List Declaration) (beside : List Beside) (weight : ℕ) : Type 0 where
  pub many : length env ≡ length beside
  pub few : length env < 2 ^ 32
  pub read : AreRead gaps (statements_of env beside)
  pub legal : LegalAsStated gaps (statements_of env beside)
  pub weighs : weight ≡ weight_of (statements_of env beside)
  pub small : weight < 2 ^ 64

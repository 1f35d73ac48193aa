-- What the code's statements stand for.
use Rattle.std.specs.Prelude.{Bool, Option, Some, None}
use Rattle.mz_logic_theory.specs.DeclView.{declaration}
use Rattle.mz_mmu_theory.specs.Proof.{Proof as StatedProof}
use Rattle.mz_mmu_theory.specs.Statements.{Statement, Modifiers}
use Rattle.mz_mmu_theory.specs.declared.proof.ProofBox.{ProofBox}
use Rattle.mz_mmu_theory.specs.declared.modifiers.Modifiers.{Modifiers as Met}
use Rattle.mz_mmu_theory.specs.declared.statement.Declared.{Declared}

abbrev pub modifiers : Met → Modifiers
modifiers m = record { is_pure = m.is_pure; is_strict = m.is_strict; is_provable = m.is_provable; is_free = m.is_free }

abbrev pub option_modifiers : Option Met → Option Modifiers
option_modifiers None = None
option_modifiers (Some m) = Some (modifiers m)

abbrev pub option_proof : Option ProofBox → Option StatedProof
option_proof None = None
option_proof (Some p) = Some p

-- with this visibility
abbrev pub stated : Bool → Declared → Statement
stated mark d = record { is_local = mark; name = d.name.now; decl = declaration d.decl; dummies = d.dummies; proof = option_proof d.proof }

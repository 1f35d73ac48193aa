-- What a text is seen as: whether its proofs may have gaps, its nodes and its statements.
use Rattle.std.specs.Prelude.{ℕ, Bool, false, List, ◌≡◌, ◌⊎◌, Option, Some, None, refl}
use Rattle.std.specs.Coded.{Coded, code_by, coded×, coded⊎, coded_ℕ, coded_bool, coded_list}
use Rattle.std.proofs.Common.{inl, inr}
use Rattle.mz_logic_theory.specs.Codes.{binder_code, declaration_code}
use Rattle.mz_logic_theory.specs.Declaration.{Declaration}
use Rattle.mz_logic_theory.specs.declared.binder.Binder.{Binder}
use Rattle.mz_sexpr.specs.Node.{Nodes}
use Rattle.mz_sexpr.specs.NodesCode.{nodes_code}
use Rattle.mz_mmu_theory.specs.Proof.{Proof}
use Rattle.mz_mmu_theory.specs.Statements.{Statement}
use Rattle.mz_mmu_theory.specs.ProofCode.{proof_code}

pub record Forms : Type 0 where
  pub gaps : Bool
  pub nodes : Nodes
  pub statements : List Statement

-- ---- how it is stored

abbrev pub proof_to : Option Proof → Bool ⊎ Proof
proof_to None = inl false
proof_to (Some p) = inr p

abbrev pub proof_from : Bool ⊎ Proof → Option Proof
proof_from (inl _) = None
proof_from (inr p) = Some p

pub proof_back : (o : Option Proof) → proof_from (proof_to o) ≡ o
proof_back None = refl
proof_back (Some p) = refl

abbrev pub option_proof_code : Coded (Option Proof)
option_proof_code = code_by (Bool ⊎ Proof) (coded⊎ coded_bool proof_code) proof_to proof_from proof_back

abbrev pub statement_code : Coded Statement
statement_code = code_by ((Bool × List ℕ) × (Declaration × (List Binder × Option Proof)))
    (coded× (coded× coded_bool (coded_list coded_ℕ)) (coded× declaration_code (coded× (coded_list binder_code) option_proof_code)))
    (λ s. ((s.is_local, s.name), (s.decl, (s.dummies, s.proof))))
    (λ p. record { is_local = p.0.0; name = p.0.1; decl = p.1.0; dummies = p.1.1.0; proof = p.1.1.1 }) (λ _. refl)

abbrev pub forms_code : Coded Forms
forms_code = code_by (Bool × (Nodes × List Statement)) (coded× coded_bool (coded× nodes_code (coded_list statement_code)))
    (λ f. (f.gaps, (f.nodes, f.statements))) (λ p. record { gaps = p.0; nodes = p.1.0; statements = p.1.1 }) (λ _. refl)

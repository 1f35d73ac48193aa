-- What an application's parts are, of expressions that carry numbers, and that the same ones are equal.
use Rattle.std.proofs.Common.{◌≡◌, ℕ, Some, None, refl}
use Rattle.mz_unify.proofs.Offered.{Parts}
use Rattle.mz_pmachine_theory.specs.NodeIdentity.{Numbered, a_variable, an_application, operand_list, parts_of, portable}
use Rattle.mz_pmachine_theory.proofs.Offered.{equal-same, equal-refl}
use Rattle.mz_pmachine_unify.specs.Numbering.{head_of, operands_of}

parts-none : (e : Numbered) → head_of e ≡ None → parts_of e ≡ None
parts-none (a_variable x) h = refl
parts-none (an_application n t es) h = absurd cc

parts-some : (t : ℕ) (e : Numbered) → head_of e ≡ Some t → parts_of e ≡ Some (t, operand_list (operands_of e))
parts-some t (a_variable x) h = absurd cc
parts-some t (an_application n u es) h = let is : u ≡ t = cc in rw is refl

pub of-numbered : Parts portable head_of (λ e. operand_list (operands_of e))
of-numbered = record { of_none = parts-none; of_some = parts-some; equal = equal-same; itself = equal-refl }

-- The words of a store that names all variables.
use Rattle.std.proofs.Common.{◌≡◌, ℕ, List, subst}
use Rattle.mz_logic_theory.specs.Signature.{Signature}
use Rattle.mz_store.specs.Bits.{Tells, bound_vars}
use Rattle.mz_store.specs.Sharing.{Sharing, IsIn, IsOver, DependsOn, tree_of, deps_of}
use Rattle.mz_store.specs.declared.item.DepsMode.{DepsMode}
use Rattle.mz_store.specs.declared.item.DepsMode.TheVariants.{All}
use Rattle.mz_machine_env.proofs.Offered.{TellsV}

pub tells-v : (sigs : List Signature) (s : Sharing) (i : ℕ) → IsOver sigs s → s.mode ≡ All → IsIn s i → TellsV s.context (deps_of s i) (tree_of s i)
tells-v sigs s i over mode in-i = subst (λ (m : DepsMode). Tells (bound_vars s.context) (deps_of s i) (DependsOn m sigs s.context (tree_of s i))) mode (over i in-i).1

-- How many nodes there are, and will be when what stands on the stack is paid.
use Rattle.std.proofs.Common.{◌≡◌, ℕ, zero, suc, List, [], ◌∷◌, ◌++◌, length, refl, arith, length-append}
use Rattle.mz_trace.specs.Entries.{exprs_onto, proofs_onto}
use Rattle.mz_trace.specs.Commands.{begun, size_of, unmade}
use Rattle.mz_trace.specs.declared.node.RunNode.{RunNode}
use Rattle.mz_trace.specs.declared.node.RunNode.TheVariants as node
use Rattle.mz_trace.specs.declared.entry.Entry.{Entry}

pub one-node : (ns : List RunNode) (n : RunNode) → length (ns ++ n ∷ []) ≡ suc (length ns)
one-node ns n = omega (arith, length-append ns (n ∷ []))

-- expressions and proofs wait for nothing
pub unmade-exprs : (ns : List ℕ) (xs : List Entry) → unmade (exprs_onto ns xs) ≡ unmade xs
unmade-exprs [] xs = refl
unmade-exprs (n ∷ ns) xs = unmade-exprs ns xs

pub unmade-proofs : (ps : List (ℕ × ℕ)) (xs : List Entry) → unmade (proofs_onto ps xs) ≡ unmade xs
unmade-proofs [] xs = refl
unmade-proofs (p ∷ ps) xs = unmade-proofs ps xs

-- at first there is a node for each parameter
pub size-begun : (n : ℕ) → size_of (begun n) ≡ n
size-begun zero = refl
size-begun (suc n) = let before = size-begun n in let more = one-node (begun n).nodes (node.Var (begun n).variables) in omega (arith, before, more)

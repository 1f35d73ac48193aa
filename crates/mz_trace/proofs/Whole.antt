-- What the numbers of a whole proof name is there.
use Rattle.std.proofs.Common.{◌≡◌, ◌<◌, ℕ, zero, suc, List, [], ◌∷◌, Some, length, subst}
use Rattle.std.specs.Prelude.{slice_get}
use Rattle.std.proofs.lemmas.Option.{slice_get_within}
use Rattle.mz_trace.specs.Nodes.{Value, a_proof, values, AreProofs}
use Rattle.mz_trace.specs.Numbered.{Numbered, IsWhole}
use Rattle.mz_trace.proofs.Adding.{all-values}

pub root-there : (p : Numbered) → IsWhole p → p.root < length p.nodes
root-there p w = subst (λ (k : ℕ). p.root < k) (all-values p.nodes) (slice_get_within (values p.nodes) p.root (a_proof w.root.0) w.root.1)

proofs-there : (vs : List Value) (ns : List ℕ) (i n : ℕ) → AreProofs vs ns → slice_get ns i ≡ Some n → n < length vs
proofs-there vs [] i n h at = absurd cc
proofs-there vs (m ∷ ns) zero n h at =
    let same : m ≡ n = cc in subst (λ (k : ℕ). k < length vs) same (slice_get_within vs m (a_proof h.0.0) h.0.1)
proofs-there vs (m ∷ ns) (suc i) n h at = proofs-there vs ns i n h.1 at

pub let-there : (p : Numbered) (i n : ℕ) → IsWhole p → slice_get p.lets i ≡ Some n → n < length p.nodes
let-there p i n w at = subst (λ (k : ℕ). n < k) (all-values p.nodes) (proofs-there (values p.nodes) p.lets i n w.lets at)

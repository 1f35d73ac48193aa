-- The numbers of the top forms.
use Rattle.std.proofs.Common.{ℕ, zero, suc, ◌≡◌, ◌<◌, List, [], ◌∷◌, slice_get, Some, None, sym, ap, ◌∙◌, subst}
use Rattle.mz_sexpr.specs.Node.{Nodes, no_nodes, node}
use Rattle.mz_sexpr.specs.Number.{node_count, node_at}
use Rattle.mz_mmu.specs.EntryView.{AreNumbers}
use Rattle.mz_mmu.specs.TextRead.{listed}

pub numbers_at : (all ns : Nodes) (ks : List ℕ) (i k : ℕ) → AreNumbers all ns ks → slice_get ks i ≡ Some k → (k < node_count all) × (slice_get (listed ns) i ≡ Some (node_at all k))
numbers_at all no_nodes ks i k h at = absurd (let f : None ≡ Some k = sym (ap (λ xs. slice_get xs i) h) ∙ at in cc)
numbers_at all (node n ns) [] i k h at = absurd h
numbers_at all (node n ns) (j ∷ ks) zero k (within, is, r) at =
    let same : j ≡ k = cc in (subst (λ x. x < node_count all) same within, ap Some (is ∙ ap (node_at all) same))
numbers_at all (node n ns) (j ∷ ks) (suc i) k (within, is, r) at = numbers_at all ns ks i k r at

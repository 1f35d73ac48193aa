-- Nodes passed one by one.
use Rattle.std.proofs.Common.{ℕ, zero, suc, ◌≡◌, ◌∙◌, Option, Some, None, refl, sym, ap}
use Rattle.mz_sexpr.specs.Node.{Nodes, no_nodes}
use Rattle.mz_sexpr.specs.Number.{rest, nodes_after, StandsFor}
use Rattle.mz_mmu_theory.specs.Cursor.{nodes_from}
use Rattle.mz_mmu_theory.specs.Parts.{after}
use Rattle.mz_mmu_theory.proofs.Offered.{stepped}

pub after_none : (k : ℕ) → after k no_nodes ≡ no_nodes
after_none zero = refl
after_none (suc k) = after_none k

pub passed_one : (all : Nodes) (o : Option ℕ) (n : ℕ) (next : Option ℕ) (k j : ℕ) → o ≡ Some n → StandsFor all next (nodes_after all n) → k ≡ suc j
    → after j (nodes_from all next) ≡ after k (nodes_from all o)
passed_one all o n next k j e s one = ap (λ ns. after j (rest ns)) (sym (stepped all o n next e s)) ∙ ap (λ i. after i (nodes_from all o)) (sym one)

pub passed_all : (all : Nodes) (o : Option ℕ) (k : ℕ) → o ≡ None → nodes_from all o ≡ after k (nodes_from all o)
passed_all all o k e = ap (nodes_from all) e ∙ sym (after_none k) ∙ ap (λ p. after k (nodes_from all p)) (sym e)

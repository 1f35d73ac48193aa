-- Proofs as a text states them, with names resolved (this project's own form of Carneiro's derivations). Conversions are the logic's.
use Rattle.std.specs.Prelude.{ℕ}
use Rattle.mz_logic_theory.specs.Tree.{Tree, Trees}
use Rattle.mz_logic_theory.specs.Conversions.{Conversion}

-- a hypothesis; a visible let, counted from the outermost; a citation of an axiom or theorem; an
-- expression that converts to what is proved; a let with the proof in which it is visible; and a gap, in the
-- place of a proof of the expression
mutual
  pub data Proof : Type 0 where
    by_hyp : ℕ → Proof
    by_name : ℕ → Proof
    by_citation : ℕ → Trees → Proofs → Proof
    by_conv : Tree → Conversion → Proof → Proof
    by_let : Proof → Proof → Proof
    by_gap : Tree → Proof

  pub data Proofs : Type 0 where
    no_proofs : Proofs
    more_proofs : Proof → Proofs → Proofs

-- Trees of a proof with a hole for what is still to be shown (this project's own form of the proofs that a body makes; what
-- stands on the stack is the .mmb format's).
use Rattle.std.specs.Prelude.{ℕ, zero, suc, List, ◌∷◌}
use Rattle.mz_logic_theory.specs.Tree.{Tree, Trees, none, app}
use Rattle.mz_logic_theory.specs.Conversions.{Conversion, Conversions, refl_conv, sym_conv, cong_conv, unfold_conv, no_convs, more_convs}
use Rattle.mz_mmu_theory.specs.Proof.{Proof, Proofs, by_conv, more_proofs}

-- What an item of the machine's stack or heap stands for: an expression; a proof, with its tree; an obligation, which is
-- a hole; a conversion that is paid, with its tree. And below an obligation, what its tree goes into when it is paid: a
-- proof of the expression from the given one, the tree turned, an operand's place in an application (behind the trees of
-- the operands before it, with so many places left behind it), the body of an unfolded definition, or a conversion that
-- is to be saved.
pub data Part : Type 0 where
  expression : Part
  proved : Proof → Part
  owed : Part
  converted : Conversion → Part
  for_proof : Tree → Proof → Part
  for_turned : Part
  for_operand : ℕ → Conversions → ℕ → Part
  for_unfolded : ℕ → Trees → List ℕ → Part
  for_cut : Part

abbrev pub then_conv : Conversions → Conversion → Conversions
then_conv no_convs c = more_convs c no_convs
then_conv (more_convs d ds) c = more_convs d (then_conv ds c)

-- The obligation that stood above these is paid by the tree: it goes into its place, and where that makes a tree whole
-- this one goes into its own.
abbrev pub paid : Conversion → List Part → List Part
paid c (for_proof e p ∷ xs) = proved (by_conv e c p) ∷ xs
paid c (for_turned ∷ xs) = paid (sym_conv c) xs
paid c (for_operand t cs zero ∷ xs) = paid (cong_conv t (then_conv cs c)) xs
paid c (for_operand t cs (suc n) ∷ xs) = owed ∷ for_operand t (then_conv cs c) n ∷ xs
paid c (for_unfolded t es ys ∷ xs) = paid (unfold_conv t es ys c) xs
paid c (for_cut ∷ xs) = converted c ∷ xs
paid c xs = xs

-- an obligation between two applications of the term t becomes one for each of the n operands; where there is none, it is
-- paid
abbrev pub by_operands : ℕ → ℕ → List Part → List Part
by_operands t zero xs = paid (refl_conv (app t none)) xs
by_operands t (suc n) xs = owed ∷ for_operand t no_convs n ∷ xs

-- the trees of n proofs from the top down, the topmost one last, before those taken already
abbrev pub proofs_above : ℕ → List Part → Proofs → Proofs
proofs_above zero xs ps = ps
proofs_above (suc n) (proved p ∷ xs) ps = proofs_above n xs (more_proofs p ps)
proofs_above (suc n) xs ps = ps

-- The phrase and the weight of the proof that a run has.
use Rattle.std.specs.Prelude.{ℕ, ◌≡◌, ◌<◌, List, length}
use Rattle.mz_logic_theory.specs.Declaration.{Declaration}
use Rattle.mz_mmu_theory.specs.Proof.{Proof}
use Rattle.mz_mmu_theory.specs.Weight.{proof_weight}
use Rattle.mz_trace.specs.Traces.{under_lets}
use Rattle.mz_decompile_text.specs.Phrases.{Phrase}
use Rattle.mz_decompile_text.specs.Phrasing.{Vocabulary, proof}
use Rattle.mz_decompile_text.specs.ByNumber.{phrase_at}
use Rattle.mz_decompile_text.specs.Measures.{capped}
use Rattle.mz_trace.specs.Claims.{HasClaims}
use Rattle.mz_trace.specs.Runs.{lets_in, root_in}
use Rattle.mz_trace.specs.declared.run.Run.{Run}

-- the proof that is left, behind those with names
abbrev pub proof_in : Run → Proof
proof_in r = under_lets (lets_in r) (root_in r)

-- the phrase of this number is the proof's
abbrev pub IsRetold : Vocabulary → Run → List Phrase → ℕ → Type 0
IsRetold v r ps n = (n < length ps) × (phrase_at ps n ≡ proof v 0 (proof_in r))

-- over declarations of which the claims are
abbrev pub IsWeighed : Run → ℕ → Type 0
IsWeighed r weight = (env : List Declaration) → HasClaims env r.nodes → weight ≡ capped (proof_weight env (proof_in r))

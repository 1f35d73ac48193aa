-- Lines, put together and appended.
use Rattle.std.proofs.Common.{ℕ, ◌≡◌, ◌++◌, List, Bool, cond, codes, decimal, ap, sym}
use Rattle.std.proofs.lemmas.Bool.{ne_eqb}
use Rattle.mz_tool.specs.Samples.{body_proof}

-- the proof of what each further definition stands for
abbrev pub further-proof : ℕ → List ℕ
further-proof k =
    codes "(ax_mp ((d" ++ decimal k ++ codes " a) (im a (d" ++ decimal k ++ codes " a))) (ax_1 ((d" ++ decimal k ++ codes " a) a)) (t"
    ++ decimal k ++ codes " (a)))"

pub is-further-proof : (k : ℕ) → (k ≡ 0 → ⊥) → further-proof k ≡ body_proof k
is-further-proof k other = sym (ap (λ (b : Bool). cond b (codes "(ax_1 (a a))") (further-proof k)) (ne_eqb k 0 other))

-- How many declarations there are of a kind.
use Rattle.std.proofs.Common.{◌≡◌, ◌+◌, ℕ, zero, suc, List, [], ◌∷◌, take, Some, arith}
use Rattle.std.specs.Prelude.{if◌then◌else◌, slice_get, option_map}
use Rattle.mz_logic_theory.specs.Declaration.{Declaration}
use Rattle.mz_spec_theory.specs.State.{Entry, env_of}
use Rattle.mz_spec_proved_theory.specs.declared.kind.Kind.{Kind}
use Rattle.mz_spec_proved_theory.specs.Match.{kind_of, is_kind}
use Rattle.mz_match_theory.specs.Verdict.{count}

-- ---- counts

pub count-take : (k : Kind) (es : List Entry) (i : ℕ) (d : Declaration) → option_map (λ e. e.decl) (slice_get es i) ≡ Some d
    → count k (take (suc i) (env_of es)) ≡ count k (take i (env_of es)) + (if is_kind (kind_of d) k then 1 else 0)
count-take k [] i d is = absurd cc
count-take k (e ∷ es) zero d is = let same : e.decl ≡ d = cc in rw same (omega arith)
count-take k (e ∷ es) (suc i) d is = let more = count-take k es i d is in omega (arith, more)

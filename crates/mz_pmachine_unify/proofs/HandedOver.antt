-- An answer that only running out of memory can stop.
use Rattle.std.proofs.Common.{Result, Ok, Err}
use Rattle.std.specs.Prelude.{⊤, OnOk, MatchResult}
use Rattle.mz_cmd.specs.declared.rule.K.{K}
use Rattle.mz_unify.specs.Rows.{StopsBy}
use Rattle.mz_unify.specs.declared.stop.Stop.{Stop}
use Rattle.mz_unify.specs.declared.stop.Stop.TheVariants.{Rule, Mem}

pub kept-told : {A P Q : Type 0} (result : Result A Stop) (R : Type 0) (T : K → Type 0) → (P → Q → R) → OnOk result P → OnOk result Q
    → MatchResult result (λ _. ⊤) (λ stop. StopsBy stop (λ _. ⊥)) → MatchResult result (λ _. R) (λ stop. StopsBy stop T)
kept-told (Ok x) R T both p q err = both p q
kept-told (Err Mem) R T both p q err = tt
kept-told (Err (Rule d)) R T both p q err = absurd err

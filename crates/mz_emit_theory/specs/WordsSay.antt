-- The words that are written for parameters and for a signature say them.
use Rattle.std.specs.Prelude.{List, All}
use Rattle.std.specs.List.Sorted.{IsStrictlyIncreasing}
use Rattle.mz_logic_theory.specs.Signature.{Signature}
use Rattle.mz_logic_theory.specs.Modifiers.{MayBeResultSort}
use Rattle.mz_logic_theory.specs.Variables.{IsBoundAt}
use Rattle.mz_logic_theory.specs.WordsWritten.{words_of, result_word, CanBeWords}
use Rattle.mz_logic_theory.specs.declared.binder.Binder.{Binder}
use Rattle.mz_logic_theory.specs.declared.binder.SortMods.{SortMods}
use Rattle.mz_emit_theory.specs.FileWriting.{SayParams, SaySignature}

abbrev pub WordsSayParams : Type 0
WordsSayParams = (ss : List SortMods) (params : List Binder) → CanBeWords ss params → SayParams ss (words_of params) params

-- a result depends on bound parameters, in ascending order
abbrev pub WordsSaySignatures : Type 0
WordsSaySignatures = (ss : List SortMods) (signature : Signature) → CanBeWords ss signature.params → MayBeResultSort ss signature.result.sort
    → All (IsBoundAt signature.params) signature.result.deps → IsStrictlyIncreasing signature.result.deps
    → SaySignature ss (words_of signature.params) (result_word signature.params signature.result) signature

-- What the verifier's `show` answers, and the way back from a listing.
use Rattle.std.proofs.Common.{ℕ, List, [], ◌∷◌, Option, Result, Ok, Err, arith}
use Rattle.mz_io.specs.Calls.{Call}
use Rattle.mz_io.specs.declared.folder.Failed.{Failed}
use Rattle.mz_asm.specs.Laws.{ListingsAreAssembled}
use Rattle.mz_tool_engine.specs.Said.{OfOne}
use Rattle.mz_tool_engine.specs.Inputs.{AreWithin}
use Rattle.mz_tool_engine.specs.Run.{Affirms, longest}
use Rattle.mz_tool_engine.specs.Answering.{IsAnswering}
use Rattle.mz_tool_engine.specs.declared.outcome.Outcome.{Outcome}
use Rattle.mz_tool_engine.specs.declared.outcome.Outcome.TheVariants as outcomes
use Rattle.mz_tool_verify.specs.Show.{show_says}
use Rattle.mz_tool.specs.Listed.{ReturnsTo, listed_says}

module _ (assembled : ListingsAreAssembled) (name : List ℕ) where
  affirmed-returns : (contents : List (List ℕ)) (put : Option (List ℕ)) (text : List ℕ) → AreWithin longest contents → Affirms (show_says name) contents put text → OfOne ReturnsTo contents
  affirmed-returns [] put text within affirms = absurd affirms.0
  affirmed-returns (bin ∷ []) put text (short, none) affirms = λ normal listed listing. assembled listed bin normal (omega (arith, short)) listing
  affirmed-returns (bin ∷ more ∷ rest) put text within affirms = absurd affirms.0

  -- an answer of the verifier's `show` is one of the program's
  pub shown-returns : (contents : List (List ℕ)) (result : Result Outcome Failed) (written : List Call) → AreWithin longest contents →
      IsAnswering (show_says name) contents result written → IsAnswering (listed_says name) contents result written
  shown-returns contents (Ok (outcomes.Yes put text)) written within (front, calls, quiet, affirms, sound, short) =
      (front, calls, quiet, affirms, affirmed-returns contents _ _ within affirms, short)
  shown-returns contents (Ok (outcomes.No text)) written within answering = answering
  shown-returns contents (Ok outcomes.Mem) written within answering = answering
  shown-returns contents (Err e) written within answering = answering

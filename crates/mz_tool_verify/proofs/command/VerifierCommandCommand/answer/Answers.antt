use Rattle.std.proofs.Common.{◌≤◌, ℕ, List, Option, length, subst}
use Rattle.mz_tool_engine.specs.Inputs.{contents_of}
use Rattle.mz_tool_engine.specs.Run.{IsAnswer}
use Rattle.mz_tool_verify.specs.declared.command.VerifierCommand.{VerifierCommand}
use Rattle.mz_tool_verify.specs.Requests.{said_of, request}
use Rattle.mz_tool_verify.proofs.command.VerifierCommandCommand.answer.Goals as goal

-- that each answer of this command has room
abbrev Fits : List (List ℕ) → ℕ → VerifierCommand → Type 0
Fits contents room command = (put : Option (List ℕ)) (text : List ℕ) → IsAnswer (said_of (request command)) contents put text → length text ≤ room

pub returns-in-Verify-clause-only_full : goal.returns-in-Verify-clause-only_full
returns-in-Verify-clause-only_full g c = λ clear fits. c.answer.ensures.only_full clear (subst (Fits (contents_of c.args.contents.now) (g.O.Sink.room c.args.out.now)) c.in-Verify.is fits)

pub returns-in-Verify-clause-left : goal.returns-in-Verify-clause-left
returns-in-Verify-clause-left g c = λ clear fits. c.answer.ensures.left clear (subst (Fits (contents_of c.args.contents.now) (g.O.Sink.room c.args.out.now)) c.in-Verify.is fits)

pub returns-in-Show-clause-only_full : goal.returns-in-Show-clause-only_full
returns-in-Show-clause-only_full g c = λ clear fits. c.answer-in-Show.ensures.only_full clear (subst (Fits (contents_of c.args.contents.now) (g.O.Sink.room c.args.out.now)) c.in-Show.is fits)

pub returns-in-Show-clause-left : goal.returns-in-Show-clause-left
returns-in-Show-clause-left g c = λ clear fits. c.answer-in-Show.ensures.left clear (subst (Fits (contents_of c.args.contents.now) (g.O.Sink.room c.args.out.now)) c.in-Show.is fits)

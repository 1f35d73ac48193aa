use Rattle.std.proofs.Common.{◌≤◌, ℕ, List, Option, length, sym, subst}
use Rattle.mz_tool_engine.specs.Inputs.{contents_of}
use Rattle.mz_tool_engine.specs.Answering.{IsAnswering}
use Rattle.mz_tool_engine.specs.Run.{IsAnswer}
use Rattle.mz_tool.specs.declared.command.ProgramCommand.{ProgramCommand}
use Rattle.mz_tool.specs.Requests.{said_of, request}
use Rattle.mz_tool.proofs.Listed.{shown-returns}
use Rattle.mz_tool.proofs.command.ProgramCommandCommand.answer.Goals as goal

-- that each answer of this command has room
abbrev Fits : List (List ℕ) → ℕ → ProgramCommand → Type 0
Fits contents room command = (put : Option (List ℕ)) (text : List ℕ) → IsAnswer (said_of (request command)) contents put text → length text ≤ room

pub returns-in-Verify-clause-only_full : goal.returns-in-Verify-clause-only_full
returns-in-Verify-clause-only_full g c = λ clear fits. c.answer.ensures.only_full clear (subst (Fits (contents_of c.args.contents.now) (g.O.Sink.room c.args.out.now)) c.in-Verify.is fits)

pub returns-in-Verify-clause-left : goal.returns-in-Verify-clause-left
returns-in-Verify-clause-left g c = λ clear fits. c.answer.ensures.left clear (subst (Fits (contents_of c.args.contents.now) (g.O.Sink.room c.args.out.now)) c.in-Verify.is fits)

-- what the verifier's `show` answers leads back
pub returns-in-Show-clause-log : goal.returns-in-Show-clause-log
returns-in-Show-clause-log g c =
    let contents = contents_of c.args.contents.now in
    let log = c.answer-in-Show.ensures.log in
    let answering = shown-returns c.listings_are_assembled.ensures.assembled c.in-Show.command.bin.now contents c.answer-in-Show.result log.0 c.requires.short log.2 in
    (log.0, log.1, subst (λ (command : ProgramCommand). IsAnswering (said_of (request command)) contents c.answer-in-Show.result log.0) (sym c.in-Show.is) answering)

pub returns-in-Show-clause-only_full : goal.returns-in-Show-clause-only_full
returns-in-Show-clause-only_full g c = λ clear fits. c.answer-in-Show.ensures.only_full clear (subst (Fits (contents_of c.args.contents.now) (g.O.Sink.room c.args.out.now)) c.in-Show.is fits)

pub returns-in-Show-clause-left : goal.returns-in-Show-clause-left
returns-in-Show-clause-left g c = λ clear fits. c.answer-in-Show.ensures.left clear (subst (Fits (contents_of c.args.contents.now) (g.O.Sink.room c.args.out.now)) c.in-Show.is fits)

pub returns-in-Compile-clause-only_full : goal.returns-in-Compile-clause-only_full
returns-in-Compile-clause-only_full g c = λ clear fits. c.answer-in-Compile.ensures.only_full clear (subst (Fits (contents_of c.args.contents.now) (g.O.Sink.room c.args.out.now)) c.in-Compile.is fits)

pub returns-in-Compile-clause-left : goal.returns-in-Compile-clause-left
returns-in-Compile-clause-left g c = λ clear fits. c.answer-in-Compile.ensures.left clear (subst (Fits (contents_of c.args.contents.now) (g.O.Sink.room c.args.out.now)) c.in-Compile.is fits)

pub returns-in-Assemble-clause-only_full : goal.returns-in-Assemble-clause-only_full
returns-in-Assemble-clause-only_full g c = λ clear fits. c.answer-in-Assemble.ensures.only_full clear (subst (Fits (contents_of c.args.contents.now) (g.O.Sink.room c.args.out.now)) c.in-Assemble.is fits)

pub returns-in-Assemble-clause-left : goal.returns-in-Assemble-clause-left
returns-in-Assemble-clause-left g c = λ clear fits. c.answer-in-Assemble.ensures.left clear (subst (Fits (contents_of c.args.contents.now) (g.O.Sink.room c.args.out.now)) c.in-Assemble.is fits)

pub returns-in-Axioms-clause-only_full : goal.returns-in-Axioms-clause-only_full
returns-in-Axioms-clause-only_full g c = λ clear fits. c.answer-in-Axioms.ensures.only_full clear (subst (Fits (contents_of c.args.contents.now) (g.O.Sink.room c.args.out.now)) c.in-Axioms.is fits)

pub returns-in-Axioms-clause-left : goal.returns-in-Axioms-clause-left
returns-in-Axioms-clause-left g c = λ clear fits. c.answer-in-Axioms.ensures.left clear (subst (Fits (contents_of c.args.contents.now) (g.O.Sink.room c.args.out.now)) c.in-Axioms.is fits)

pub returns-in-Draft-clause-only_full : goal.returns-in-Draft-clause-only_full
returns-in-Draft-clause-only_full g c = λ clear fits. c.answer-in-Draft.ensures.only_full clear (subst (Fits (contents_of c.args.contents.now) (g.O.Sink.room c.args.out.now)) c.in-Draft.is fits)

pub returns-in-Draft-clause-left : goal.returns-in-Draft-clause-left
returns-in-Draft-clause-left g c = λ clear fits. c.answer-in-Draft.ensures.left clear (subst (Fits (contents_of c.args.contents.now) (g.O.Sink.room c.args.out.now)) c.in-Draft.is fits)

pub returns-in-Portable-clause-only_full : goal.returns-in-Portable-clause-only_full
returns-in-Portable-clause-only_full g c = λ clear fits. c.answer-in-Portable.ensures.only_full clear (subst (Fits (contents_of c.args.contents.now) (g.O.Sink.room c.args.out.now)) c.in-Portable.is fits)

pub returns-in-Portable-clause-left : goal.returns-in-Portable-clause-left
returns-in-Portable-clause-left g c = λ clear fits. c.answer-in-Portable.ensures.left clear (subst (Fits (contents_of c.args.contents.now) (g.O.Sink.room c.args.out.now)) c.in-Portable.is fits)

pub returns-in-Specify-clause-only_full : goal.returns-in-Specify-clause-only_full
returns-in-Specify-clause-only_full g c = λ clear fits. c.answer-in-Specify.ensures.only_full clear (subst (Fits (contents_of c.args.contents.now) (g.O.Sink.room c.args.out.now)) c.in-Specify.is fits)

pub returns-in-Specify-clause-left : goal.returns-in-Specify-clause-left
returns-in-Specify-clause-left g c = λ clear fits. c.answer-in-Specify.ensures.left clear (subst (Fits (contents_of c.args.contents.now) (g.O.Sink.room c.args.out.now)) c.in-Specify.is fits)

pub returns-in-Decompile-clause-only_full : goal.returns-in-Decompile-clause-only_full
returns-in-Decompile-clause-only_full g c = λ clear fits. c.answer-in-Decompile.ensures.only_full clear (subst (Fits (contents_of c.args.contents.now) (g.O.Sink.room c.args.out.now)) c.in-Decompile.is fits)

pub returns-in-Decompile-clause-left : goal.returns-in-Decompile-clause-left
returns-in-Decompile-clause-left g c = λ clear fits. c.answer-in-Decompile.ensures.left clear (subst (Fits (contents_of c.args.contents.now) (g.O.Sink.room c.args.out.now)) c.in-Decompile.is fits)

pub returns-in-Sample-clause-only_full : goal.returns-in-Sample-clause-only_full
returns-in-Sample-clause-only_full g c = λ clear fits. c.answer-in-Sample.ensures.only_full clear (subst (Fits (contents_of c.args.contents.now) (g.O.Sink.room c.args.out.now)) c.in-Sample.is fits)

pub returns-in-Sample-clause-left : goal.returns-in-Sample-clause-left
returns-in-Sample-clause-left g c = λ clear fits. c.answer-in-Sample.ensures.left clear (subst (Fits (contents_of c.args.contents.now) (g.O.Sink.room c.args.out.now)) c.in-Sample.is fits)

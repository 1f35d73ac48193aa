use Rattle.std.proofs.Common.{◌≡◌, ◌++◌, ◌∙◌, List, ap, subst, sym, map, string_bytes}
use Rattle.mz_io.specs.Calls.{Call}
use Rattle.mz_tool_engine.specs.Run.{IsRun}
use Rattle.mz_tool_engine.proofs.system.run_on_system.Goals as goal

pub returns-clause-log : goal.returns-clause-log
returns-clause-log g c =
    let log = c.run-status.ensures.ran.log in
    let first : c.run-status.new.folder.log.calls ≡ log.0 = log.2 ∙ ap (λ front. front ++ log.0) c.new-folder.ensures.calls in
    let second : c.run-status.new.out.log.calls ≡ log.1 = log.3 ∙ ap (λ front. front ++ log.1) c.new-out.ensures.calls in
    let words = map string_bytes c.args.words.now in
    subst (λ (calls : List Call). IsRun g.P.Program.said_of words c.run-status.result calls c.run-status.new.out.log.calls) (sym first)
    (subst (λ (written : List Call). IsRun g.P.Program.said_of words c.run-status.result log.0 written) (sym second) log.4)

pub returns-clause-follows : goal.returns-clause-follows
returns-clause-follows g c = λ file given.
    let calls = c.run-status.new.folder.log.calls in
    let written = c.run-status.new.out.log.calls in
    c.run-status.ensures.ran.follows file calls written (sym (ap (λ front. front ++ calls) c.new-folder.ensures.calls)) (sym (ap (λ front. front ++ written) c.new-out.ensures.calls)) given

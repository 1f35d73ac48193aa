use Rattle.std.proofs.Common.{◌∷◌, ap, ◌∙◌}
use Rattle.std.proofs.lemmas.Result.{on_ok_weaker}
use Rattle.std.specs.Prelude.{reverse}
use Rattle.mz_cmd.specs.declared.code.ProofCode.TheVariants as code
use Rattle.mz_trace.specs.Commands.{stage_of, with_stack, IsAny}
use Rattle.mz_trace.specs.declared.entry.Entry.TheVariants.{Owed, ForTurned}
use Rattle.mz_trace.proofs.Moves.{leads-to, symm-leads}
use Rattle.mz_trace.proofs.Having.{symm-has}
use Rattle.mz_trace.proofs.state.Making.symm.Goals as goal

pub pop_owed-left-requires : goal.pop_owed-left-requires
pop_owed-left-requires c = symm-has IsAny 0 (stage_of c.args.self.now) c.requires

pub returns : goal.returns
returns c =
    let s = stage_of c.args.self.now in
    let l = c.pop_owed-left.result.0 in
    let r = c.pop_owed-left.result.1 in
    let xs = reverse c.pop_owed-left.new.stack.items in
    on_ok_weaker c.push-2.result (λ is. leads-to IsAny code.Symm 0 s (Owed l r ∷ xs) (with_stack s (reverse c.push-2.new.stack.items)) (with_stack s (Owed r l ∷ ForTurned ∷ xs)) c.pop_owed-left.ensures
    (ap (with_stack s) (is ∙ ap (λ zs. Owed r l ∷ zs) c.in_ok-push.ensures)) (symm-leads 0 s xs l r)) c.push-2.ensures

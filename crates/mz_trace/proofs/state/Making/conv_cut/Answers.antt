use Rattle.std.proofs.Common.{◌∷◌, ap, ◌∙◌}
use Rattle.std.proofs.lemmas.Result.{on_ok_weaker}
use Rattle.std.specs.Prelude.{reverse}
use Rattle.mz_cmd.specs.declared.code.ProofCode.TheVariants as code
use Rattle.mz_trace.specs.Commands.{stage_of, with_stack, IsAny}
use Rattle.mz_trace.specs.declared.entry.Entry.TheVariants.{Owed, ForCut}
use Rattle.mz_trace.proofs.Moves.{leads-to, conv_cut-leads}
use Rattle.mz_trace.proofs.Having.{conv_cut-has}
use Rattle.mz_trace.proofs.state.Making.conv_cut.Goals as goal

pub pop_owed-left-requires : goal.pop_owed-left-requires
pop_owed-left-requires c = conv_cut-has IsAny 0 (stage_of c.args.self.now) c.requires

pub returns : goal.returns
returns c =
    let s = stage_of c.args.self.now in
    let l = c.pop_owed-left.result.0 in
    let r = c.pop_owed-left.result.1 in
    let xs = reverse c.pop_owed-left.new.stack.items in
    on_ok_weaker c.push-2.result (λ is. leads-to IsAny code.ConvCut 0 s (Owed l r ∷ xs) (with_stack s (reverse c.push-2.new.stack.items)) (with_stack s (Owed l r ∷ ForCut l r ∷ xs)) c.pop_owed-left.ensures
    (ap (with_stack s) (is ∙ ap (λ zs. Owed l r ∷ zs) c.in_ok-push.ensures)) (conv_cut-leads 0 s xs l r)) c.push-2.ensures

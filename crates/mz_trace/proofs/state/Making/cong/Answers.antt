use Rattle.std.proofs.Common.{◌∷◌, length, refl, sym, ap, ◌∙◌, subst}
use Rattle.std.proofs.lemmas.Result.{on_ok_weaker}
use Rattle.std.specs.Prelude.{reverse}
use Rattle.mz_cmd.specs.declared.code.ProofCode.TheVariants as code
use Rattle.mz_trace.specs.Commands.{Stage, stage_of, with_stack, IsAny, Goes, MayPay, Pays}
use Rattle.mz_trace.specs.declared.node.RunNode.TheVariants as node
use Rattle.mz_trace.specs.declared.entry.Entry.TheVariants.{Owed, ForOperand}
use Rattle.mz_trace.proofs.Paying.{with_both-is}
use Rattle.mz_trace.proofs.Moves.{leads-to, refl-may, refl-leads}
use Rattle.mz_trace.proofs.Having.{cong-has}
use Rattle.mz_trace.proofs.UnfoldingSides.{cong-may, cong-leads, cong-goes, cong-none-leads}
use Rattle.mz_trace.proofs.state.Making.cong.Goals as goal

pub pop_owed-left-requires : goal.pop_owed-left-requires
pop_owed-left-requires c = cong-has IsAny 0 (stage_of c.args.self.now) c.requires

pub operands_of-requires : goal.operands_of-requires
operands_of-requires c =
    let s = stage_of c.args.self.now in
    cong-may 0 s (reverse c.pop_owed-left.new.stack.items) c.pop_owed-left.result.0 c.pop_owed-left.result.1
    (subst (λ zs. Goes IsAny code.Cong 0 (with_stack s zs)) c.pop_owed-left.ensures c.requires)

pub pay-requires : goal.pay-requires
pay-requires c =
    let s = stage_of c.args.self.now in
    let l = c.pop_owed-left.result.0 in
    let r = c.pop_owed-left.result.1 in
    let xs = reverse c.pop_owed-left.new.stack.items in
    rw c.in_ok-tree-in-None.ensures.number (subst (λ (t : Stage). MayPay t (length s.nodes)) (sym (with_both-is s c.add.new.nodes.items xs (node.Refl l) c.in_ok-tree-in-None.ensures.added))
    (refl-may 0 s xs l r (cong-goes 0 s xs l r c.in_ok-term.term c.in_ok-term.sides.items c.in_ok-term.ensures c.in-None.ensures.none
    (subst (λ zs. Goes IsAny code.Cong 0 (with_stack s zs)) c.pop_owed-left.ensures c.requires))))

pub returns-in_ok-push-in-Some : goal.returns-in_ok-push-in-Some
returns-in_ok-push-in-Some c =
    let s = stage_of c.args.self.now in
    let l = c.pop_owed-left.result.0 in
    let r = c.pop_owed-left.result.1 in
    let xs = reverse c.pop_owed-left.new.stack.items in
    let t = c.in_ok-term.term in
    let f = c.in-Some.first in
    let o = c.in-Some.other in
    let done = c.new-done.result in
    let left = c.pop_pair.new.sides in
    on_ok_weaker c.push-in-Some.result (λ is. leads-to IsAny code.Cong 0 s (Owed l r ∷ xs) (with_stack s (reverse c.push-in-Some.new.stack.items)) (with_stack s (Owed f o ∷ ForOperand t done left ∷ xs)) c.pop_owed-left.ensures
    (ap (with_stack s) (is ∙ ap (λ zs. Owed f o ∷ zs) c.in_ok-push-in-Some.ensures))
    (cong-leads 0 s xs l r t c.in_ok-term.sides.items c.in_ok-term.ensures f o done left c.new-done.ensures.items c.in-Some.ensures.some)) c.push-in-Some.ensures

pub returns-in_ok-tree-in-None : goal.returns-in_ok-tree-in-None
returns-in_ok-tree-in-None c =
    let s = stage_of c.args.self.now in
    let l = c.pop_owed-left.result.0 in
    let r = c.pop_owed-left.result.1 in
    let xs = reverse c.pop_owed-left.new.stack.items in
    let s' = stage_of c.pay.new.self in
    on_ok_weaker c.pay.result (λ pays. leads-to IsAny code.Cong 0 s (Owed l r ∷ xs) s' s' c.pop_owed-left.ensures refl
    (cong-none-leads 0 s xs l r c.in_ok-term.term c.in_ok-term.sides.items c.in_ok-term.ensures c.in-None.ensures.none s'
    (refl-leads 0 s xs l r s' (subst (λ (t : Stage). Pays t (length s.nodes) s') (with_both-is s c.add.new.nodes.items xs (node.Refl l) c.in_ok-tree-in-None.ensures.added)
    (subst (λ k. Pays (record s { nodes = c.add.new.nodes.items; stack = xs }) k s') c.in_ok-tree-in-None.ensures.number pays))))) c.pay.ensures

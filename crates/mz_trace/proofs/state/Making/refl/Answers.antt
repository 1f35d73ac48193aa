use Rattle.std.proofs.Common.{◌∷◌, length, refl, sym, subst}
use Rattle.std.proofs.lemmas.Result.{on_ok_weaker}
use Rattle.std.specs.Prelude.{reverse}
use Rattle.mz_cmd.specs.declared.code.ProofCode.TheVariants as code
use Rattle.mz_trace.specs.Commands.{Stage, stage_of, with_stack, IsAny, Goes, MayPay, Pays}
use Rattle.mz_trace.specs.declared.node.RunNode.TheVariants as node
use Rattle.mz_trace.specs.declared.entry.Entry.TheVariants.{Owed}
use Rattle.mz_trace.proofs.Paying.{with_both-is}
use Rattle.mz_trace.proofs.Moves.{leads-to, refl-may, refl-leads}
use Rattle.mz_trace.proofs.Having.{refl-has}
use Rattle.mz_trace.proofs.state.Making.refl.Goals as goal

pub pop_owed-left-requires : goal.pop_owed-left-requires
pop_owed-left-requires c = refl-has IsAny 0 (stage_of c.args.self.now) c.requires

pub pay-requires : goal.pay-requires
pay-requires c =
    let s = stage_of c.args.self.now in
    let l = c.pop_owed-left.result.0 in
    let r = c.pop_owed-left.result.1 in
    let xs = reverse c.pop_owed-left.new.stack.items in
    rw c.in_ok-tree.ensures.number (subst (λ (t : Stage). MayPay t (length s.nodes)) (sym (with_both-is s c.add.new.nodes.items xs (node.Refl l) c.in_ok-tree.ensures.added))
    (refl-may 0 s xs l r (subst (λ zs. Goes IsAny code.Refl 0 (with_stack s zs)) c.pop_owed-left.ensures c.requires)))

pub returns : goal.returns
returns c =
    let s = stage_of c.args.self.now in
    let l = c.pop_owed-left.result.0 in
    let r = c.pop_owed-left.result.1 in
    let xs = reverse c.pop_owed-left.new.stack.items in
    on_ok_weaker c.pay.result (λ pays. leads-to IsAny code.Refl 0 s (Owed l r ∷ xs) (stage_of c.pay.new.self) (stage_of c.pay.new.self) c.pop_owed-left.ensures refl
    (refl-leads 0 s xs l r (stage_of c.pay.new.self) (subst (λ (t : Stage). Pays t (length s.nodes) (stage_of c.pay.new.self)) (with_both-is s c.add.new.nodes.items xs (node.Refl l) c.in_ok-tree.ensures.added)
    (subst (λ k. Pays (record s { nodes = c.add.new.nodes.items; stack = xs }) k (stage_of c.pay.new.self)) c.in_ok-tree.ensures.number pays)))) c.pay.ensures

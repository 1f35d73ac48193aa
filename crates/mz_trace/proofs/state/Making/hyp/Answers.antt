use Rattle.std.proofs.Common.{◌≡◌, ◌∷◌, length, arith}
use Rattle.std.specs.Prelude.{reverse}
use Rattle.std.proofs.lemmas.Result.{on_ok_weaker}
use Rattle.mz_cmd.specs.declared.code.ProofCode.TheVariants as code
use Rattle.mz_trace.specs.Commands.{stage_of, IsAny}
use Rattle.mz_trace.specs.declared.entry.Item.TheVariants.{Expr}
use Rattle.mz_trace.specs.declared.entry.Entry.TheVariants.{Held}
use Rattle.mz_trace.proofs.Having.{hyp-has}
use Rattle.mz_trace.proofs.Moves.{leads-to}
use Rattle.mz_trace.proofs.Keeping.{assumed, assumed-is, hyp-leads}
use Rattle.mz_trace.proofs.state.Making.hyp.Goals as goal

pub pop_expr-claim-requires : goal.pop_expr-claim-requires
pop_expr-claim-requires c = hyp-has IsAny 0 (stage_of c.args.self.now) c.requires

pub returns : goal.returns
returns c =
    let s = stage_of c.args.self.now in
    let e = c.pop_expr-claim.result in
    let xs = reverse c.pop_expr-claim.new.stack.items in
    let count : c.in_ok-hyp.hyp ≡ length c.args.self.now.hyps.items = omega (arith, c.in_ok-hyp.ensures.number, c.len.ensures, c.args.self.now.hyps.ok.0) in
    on_ok_weaker c.keep.result (λ is. leads-to IsAny code.Hyp 0 s (Held (Expr e) ∷ xs) (record s { nodes = c.add.new.nodes.items; heap = c.keep.new.heap.items; stack = xs; hyps = c.push.new.self.items }) (assumed 0 s xs e) c.pop_expr-claim.ensures
    (assumed-is 0 s xs e c.add.new.nodes.items c.keep.new.heap.items c.push.new.self.items c.in_ok-hyp.hyp c.in_ok-proof.proof c.in_ok-proof.ensures.added is c.in_ok-push.ensures.items count c.in_ok-proof.ensures.number)
    (hyp-leads 0 s xs e)) c.keep.ensures

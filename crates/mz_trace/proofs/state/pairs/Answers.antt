use Rattle.std.proofs.Common.{◌++◌, ◌∷◌, [], ◌+◌, ℕ, drop, slice_index_or, ap, sym, ◌∙◌}
use Rattle.std.proofs.lemmas.List.{append_assoc, append-nil}
use Rattle.mz_trace.specs.Sides.{paired}
use Rattle.mz_trace.proofs.UnfoldingSides.{paired-next, paired-past}
use Rattle.mz_trace.proofs.state.pairs.Goals as goal

pub operands-init : goal.operands-init
operands-init c = ap (λ ps. ps ++ paired c.args.ls.now c.args.rs.now) c.new-sides.ensures.items

pub operands-preserved : goal.operands-preserved
operands-preserved c =
    let ls = c.args.ls.now in
    let rs = c.args.rs.now in
    let i = c.operands.i in
    let one : ℕ × ℕ = (slice_index_or ls i 0, slice_index_or rs i 0) in
    ap (λ ps. ps ++ paired (drop (i + 1) ls) (drop (i + 1) rs)) c.in_ok-push.ensures.items
    ∙ append_assoc c.operands.sides.items (one ∷ []) (paired (drop (i + 1) ls) (drop (i + 1) rs))
    ∙ ap (λ ps. c.operands.sides.items ++ ps) (sym (paired-next ls rs i c.operands-test.true c.requires)) ∙ c.operands.invariant

pub returns : goal.returns
returns c =
    sym (append-nil c.operands.sides.items) ∙ ap (λ ps. c.operands.sides.items ++ ps) (sym (paired-past c.args.ls.now c.args.rs.now c.operands.i c.operands-test.false)) ∙ c.operands.invariant

use Rattle.std.proofs.Common.{Some, None, sym, subst, arith}
use Rattle.mz_axioms.proofs.Citing.{cited-between}
use Rattle.mz_axioms.proofs.Telling.{SetsCited, cited-first, cited-more, cited-last}
use Rattle.mz_axioms.proofs.walk.sets_cited.Goals as goal

pub citations-init : goal.citations-init
citations-init c =
    let file = c.args.mmb.now in
    let rows = c.args.rows.now in
    let pos = c.args.head.body in
    let end = c.args.head.next in
    record {
      to = c.requires.order;
      so_far = subst (SetsCited file rows pos end pos) (sym c.new-ids.ensures.items) (cited-first file rows pos end);
    }

pub citations-preserved : goal.citations-preserved
citations-preserved c =
    let file = c.args.mmb.now in
    let end = c.args.head.next in
    let at = c.citations.pos in
    let said = cited-between file at end c.citations.invariant.to (Some (c.in-Some.row, c.in-Some.after)) c.in-Some.ensures in
    record {
      to = said.1;
      so_far = cited-more file c.args.rows.now c.args.head.body end at c.in-Some.row c.in-Some.after c.citations.ids.items c.put_set.new.ids.items said c.in_ok-put_set.ensures c.citations.invariant.so_far;
    }

pub citations-smaller : goal.citations-smaller
citations-smaller c =
    let said = cited-between c.args.mmb.now c.citations.pos c.args.head.next c.citations.invariant.to (Some (c.in-Some.row, c.in-Some.after)) c.in-Some.ensures in
    let lt = said.0 in
    let le = said.1 in
    omega (arith, lt, le)

pub returns : goal.returns
returns c =
    let file = c.args.mmb.now in
    let end = c.args.head.next in
    let at = c.citations.pos in
    cited-last file c.args.rows.now c.args.head.body end at c.citations.ids.items (cited-between file at end c.citations.invariant.to None c.in_default.ensures) c.citations.invariant.so_far

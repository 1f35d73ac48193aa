use Rattle.std.proofs.Common.{◌≡◌, ◌∙◌, [], length, refl, ap, sym, arith}
use Rattle.mz_store.specs.Sharing.{Sharing}
use Rattle.mz_store.proofs.Chained.{none-variables}
use Rattle.mz_store.proofs.Tabled.{knows-none, table-lies, table-variables}
use Rattle.mz_store.proofs.table.Table.widen.Goals as goal

pub terms-init : goal.terms-init
terms-init c =
    let t = record c.args.self.now { buckets = c.in_ok-self.field-0 } in
    record {
      room = omega (arith, c.in_ok-self.ensures.len, c.max-many.ensures);
      lie = table-lies c.args.self.now c.args.expressions.now.operands.items c.args.expressions.now.nodes.items c.requires.table;
      table = table-variables t c.args.expressions.now.operands.items [] (none-variables [] refl)
          (knows-none t c.max-many.result c.requires.table.0.0 (c.in_ok-self.ensures.items_if_clones_equal (λ y h. h)));
      kept = c.requires.kept;
      same = refl;
    }

pub link-requires-clause-inside : goal.link-requires-clause-inside
link-requires-clause-inside c =
    let many : length c.terms.expressions.nodes.items ≡ length c.args.expressions.now.nodes.items =
    sym c.terms.invariant.kept.many ∙ ap (λ (s : Sharing). length s.entries) c.terms.invariant.same ∙ c.requires.kept.many in
    omega (arith, many, c.terms-test.true, c.in_ok-count.ensures.number, c.len.ensures)

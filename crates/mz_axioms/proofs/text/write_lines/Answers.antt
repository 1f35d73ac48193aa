use Rattle.std.proofs.Common.{[], ◌+◌, ◌++◌, take, drop, get_or, refl}
use Rattle.mz_axioms.specs.declared.lists.Support.{Support}
use Rattle.mz_axioms.specs.Kept.{support_told, supports_told}
use Rattle.mz_axioms.specs.Text.{support_line, supports_text}
use Rattle.mz_axioms.proofs.Adding.{adds-both, adds-end, adds-held, adds-stops}
use Rattle.mz_axioms.proofs.Naming.{lines-more, lines-parts, lines-whole}
use Rattle.mz_axioms.proofs.text.write_lines.Goals as goal

abbrev none : Support
none = record { theorem = 0; set = 0 }

pub supports-init : goal.supports-init
supports-init g c = record {
  so_far = adds-held tt (g.O.Sink.is_clear c.args.out.now) (g.O.Sink.room c.args.out.now) (g.O.Sink.faults c.args.out.now) (g.O.Sink.calls c.args.out.now) [] c.new-held.result.items [] c.new-held.ensures.items;
}

pub supports-preserved : goal.supports-preserved
supports-preserved g c =
    let spec = c.args.spec.now.text.now in
    let declared = c.args.spec.now.declared in
    let table = c.args.table.now in
    let supports = c.args.supports.now in
    let i = c.supports.support-index in record {
      so_far = adds-both (supports_text spec declared (supports_told table (take i supports))) (support_line spec declared (support_told table (get_or supports i none))) (supports_text spec declared (supports_told table (take (i + 1) supports)))
          (lines-more spec declared (support_told table) supports i none c.supports-test.true) c.supports.invariant.so_far c.in_ok-put_line.ensures;
    }

pub returns-in_err-put_line : goal.returns-in_err-put_line
returns-in_err-put_line g c =
    let spec = c.args.spec.now.text.now in
    let declared = c.args.spec.now.declared in
    let table = c.args.table.now in
    let supports = c.args.supports.now in
    let i = c.supports.support-index in
    let line = support_line spec declared (support_told table (get_or supports i none)) in
    let rest = supports_text spec declared (supports_told table (drop (i + 1) supports)) in
    adds-both (supports_text spec declared (supports_told table (take i supports))) (line ++ rest) (supports_text spec declared (supports_told table supports))
    (lines-parts spec declared (support_told table) supports i none c.supports-test.true) c.supports.invariant.so_far
    (adds-stops c.from_residual.result c.from_residual.ensures.0 line rest (line ++ rest) refl c.in_err-put_line.ensures)

pub returns : goal.returns
returns g c =
    let spec = c.args.spec.now.text.now in
    let declared = c.args.spec.now.declared in
    let table = c.args.table.now in
    let supports = c.args.supports.now in
    let i = c.supports.support-index in
    adds-end c.spill.result [] c.spill.new.held.items (supports_text spec declared (supports_told table supports)) c.spill.ensures.none
    (adds-both (supports_text spec declared (supports_told table (take i supports))) [] (supports_text spec declared (supports_told table supports))
    (lines-whole spec declared (support_told table) supports i c.supports-test.false) c.supports.invariant.so_far c.spill.ensures.adds)

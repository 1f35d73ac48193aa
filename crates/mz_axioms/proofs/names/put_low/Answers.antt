use Rattle.std.proofs.Common.{ap, codes, map, length}
use Rattle.mz_spec_theory.specs.Names.{name_at}
use Rattle.mz_axioms.specs.Kept.{number_of}
use Rattle.mz_axioms.specs.Members.{low_bit}
use Rattle.mz_axioms.specs.Text.{axiom_names}
use Rattle.mz_axioms.proofs.Adding.{adds-both, adds-none, adds-stops, adds-text}
use Rattle.mz_axioms.proofs.Naming.{names-one}
use Rattle.mz_axioms.proofs.Writing.{low-none, low-number, low-there}
use Rattle.mz_axioms.proofs.names.put_low.Goals as goal

pub returns-then-word-ne1 : goal.returns-then-word-ne1
returns-then-word-ne1 g c =
    let none = ap (axiom_names c.args.spec.now.text.now c.args.spec.now.declared) (low-none c.args.rows.now.items c.args.base c.args.word c.if-word-ne1.true) in
    adds-none tt (g.O.Sink.is_clear c.args.out.now) (g.O.Sink.room c.args.out.now) (g.O.Sink.faults c.args.out.now) (g.O.Sink.calls c.args.out.now) c.args.held.now.items
    (axiom_names c.args.spec.now.text.now c.args.spec.now.declared (map (number_of c.args.rows.now.items) (low_bit c.args.base c.args.word))) none

pub returns-in_err-put : goal.returns-in_err-put
returns-in_err-put g c =
    let rows = c.args.rows.now.items in
    let row = c.index.result.now in
    let lt = low-there c.args.base c.args.word (length rows) c.if-word-ne1.false c.requires in
    let text = axiom_names c.args.spec.now.text.now c.args.spec.now.declared (map (number_of rows) (low_bit c.args.base c.args.word)) in
    adds-stops c.from_residual.result c.from_residual.ensures.0 (codes " ") (name_at c.args.spec.now.text.now c.args.spec.now.declared row.place.number) text
    (names-one c.args.spec.now.text.now c.args.spec.now.declared (map (number_of rows) (low_bit c.args.base c.args.word)) row.place.number (low-number rows c.args.base c.args.word row c.if-word-ne1.false lt c.index.ensures))
    c.in_err-put.ensures

pub returns : goal.returns
returns g c =
    let rows = c.args.rows.now.items in
    let row = c.index.result.now in
    let lt = low-there c.args.base c.args.word (length rows) c.if-word-ne1.false c.requires in
    let name = name_at c.args.spec.now.text.now c.args.spec.now.declared row.place.number in
    let text = axiom_names c.args.spec.now.text.now c.args.spec.now.declared (map (number_of rows) (low_bit c.args.base c.args.word)) in
    adds-both (codes " ") name text
    (names-one c.args.spec.now.text.now c.args.spec.now.declared (map (number_of rows) (low_bit c.args.base c.args.word)) row.place.number (low-number rows c.args.base c.args.word row c.if-word-ne1.false lt c.index.ensures))
    c.in_ok-put.ensures
    (adds-text c.name.result.now name c.name.ensures c.put-2.ensures)

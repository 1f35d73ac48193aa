use Rattle.std.proofs.Common.{[], ◌+◌, ◌++◌, Ok, map, refl, ap}
use Rattle.mz_axioms.specs.Kept.{number_of}
use Rattle.mz_axioms.specs.Members.{bits, low_bit}
use Rattle.mz_axioms.proofs.Adding.{adds-both, adds-none, adds-stops, adds-text}
use Rattle.mz_axioms.specs.Text.{axiom_names}
use Rattle.mz_axioms.proofs.Naming.{names-append, word-parts}
use Rattle.mz_axioms.proofs.Writing.{left-first, left-low, left-next, left-last}
use Rattle.mz_axioms.proofs.names.put_word.Goals as goal

pub bits-init : goal.bits-init
bits-init g c = record {
  some = (
    [],
    left-first c.args.rows.now.items c.args.base c.args.word [] c.requires.within,
    adds-none tt (g.O.Sink.is_clear c.args.out.now) (g.O.Sink.room c.args.out.now) (g.O.Sink.faults c.args.out.now) (g.O.Sink.calls c.args.out.now) c.args.held.now.items [] refl,
  );
}

pub put_low-requires : goal.put_low-requires
put_low-requires g c =
    left-low c.args.rows.now.items c.args.base c.bits.rest c.bits.i c.bits.invariant.some.0 (map (number_of c.args.rows.now.items) (bits 64 c.args.base c.args.word)) c.bits-test.true c.bits.invariant.some.1

pub returns-in_err-put_low : goal.returns-in_err-put_low
returns-in_err-put_low g c =
    let rows = c.args.rows.now.items in
    let f = number_of rows in
    let so_far = c.bits.invariant.some in
    let low = low_bit (c.args.base + c.bits.i) c.bits.rest in
    let parts = word-parts c.args.spec.now.text.now c.args.spec.now.declared rows c.args.base c.bits.rest c.bits.i so_far.0 (map f (bits 64 c.args.base c.args.word)) c.bits-test.true so_far.1 in
    adds-both (axiom_names c.args.spec.now.text.now c.args.spec.now.declared so_far.0) _ _ parts.1 so_far.2
    (adds-stops c.from_residual.result c.from_residual.ensures.0 (axiom_names c.args.spec.now.text.now c.args.spec.now.declared (map f low)) parts.0 _ refl c.in_err-put_low.ensures)

pub bits-preserved : goal.bits-preserved
bits-preserved g c =
    let rows = c.args.rows.now.items in
    let f = number_of rows in
    let so_far = c.bits.invariant.some in
    let low = low_bit (c.args.base + c.bits.i) c.bits.rest in
    let next = so_far.0 ++ map f low in
    record {
      some = (
        next,
        left-next rows c.args.base c.bits.rest c.bits.i so_far.0 next (map f (bits 64 c.args.base c.args.word)) c.bits-test.true refl so_far.1,
        adds-both {result = Ok tt} (axiom_names c.args.spec.now.text.now c.args.spec.now.declared so_far.0) (axiom_names c.args.spec.now.text.now c.args.spec.now.declared (map f low)) (axiom_names c.args.spec.now.text.now c.args.spec.now.declared next)
            (names-append c.args.spec.now.text.now c.args.spec.now.declared so_far.0 (map f low)) so_far.2 c.in_ok-put_low.ensures,
      );
    }

pub returns : goal.returns
returns g c =
    let rows = c.args.rows.now.items in
    let so_far = c.bits.invariant.some in
    let last = left-last rows c.args.base c.bits.rest c.bits.i so_far.0 (map (number_of rows) (bits 64 c.args.base c.args.word)) c.bits-test.false so_far.1 in
    adds-text (axiom_names c.args.spec.now.text.now c.args.spec.now.declared so_far.0) (axiom_names c.args.spec.now.text.now c.args.spec.now.declared (map (number_of rows) (bits 64 c.args.base c.args.word)))
    (ap (axiom_names c.args.spec.now.text.now c.args.spec.now.declared) last) so_far.2

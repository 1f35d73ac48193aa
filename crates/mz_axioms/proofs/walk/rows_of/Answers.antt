use Rattle.std.proofs.Common.{◌∙◌, ◌≤◌, List, [], map, sym, ap, subst, length, arith}
use Rattle.std.proofs.lemmas.List.{length-map}
use Rattle.std.proofs.lemmas.List.Elements.{All-nil, All-same}
use Rattle.mz_binary_walk.specs.declared.passed.Passed.{Passed}
use Rattle.mz_layout_tables.specs.Heads.{body_bytes}
use Rattle.mz_layout_tables.specs.Tables.{thm_count}
use Rattle.mz_axioms.specs.declared.rows.Row.{Row}
use Rattle.mz_axioms.specs.declared.sets.Size.{Size}
use Rattle.mz_axioms.specs.Kept.{told, told_row}
use Rattle.mz_axioms.specs.Members.{IsSet}
use Rattle.mz_axioms.proofs.Noting.{room-for, rows-counted}
use Rattle.mz_axioms.proofs.Telling.{Walked, walked-asks, walked-first, walked-more, walked-last}
use Rattle.mz_axioms.proofs.walk.rows_of.Goals as goal

pub statements-init : goal.statements-init
statements-init c =
    let file = c.args.mmb.now in
    let nodes = c.in_ok-new.field-0.nodes.items in
    let height = c.for_numbers_below.result.height in
    record {
      so_far = subst (λ (rs : List Row). Walked file c.nothing-passed.result (map (told_row nodes height) rs)) (sym c.new-2.ensures.items)
          (subst (λ (p : Passed). Walked file p []) (sym c.nothing-passed.ensures.nothing) (walked-first file c.requires.0 c.requires.1));
      placed = c.nothing-passed.ensures.placed;
      kept = record {
        starts = c.in_ok-new.ensures;
        sets = All-same (λ (r : Row). IsSet nodes height r.set) c.new-2.result.items [] c.new-2.ensures.items (All-nil (λ (r : Row). IsSet nodes height r.set));
        power = c.for_numbers_below.ensures.power;
        small = c.for_numbers_below.ensures.small;
      };
      many = length-map c.new-2.result.items (told_row nodes height) ∙ ap (λ (rs : List Row). length rs) c.new-2.ensures.items ∙ sym (ap (λ (p : Passed). p.rows.thms) c.nothing-passed.ensures.nothing);
      enough = (let is = c.thms.ensures in let enough = c.for_numbers_below.ensures.enough in omega (arith, is, enough));
    }

pub next-requires-clause-placed : goal.next-requires-clause-placed
next-requires-clause-placed c = c.statements.invariant.placed

pub next-requires-clause-good : goal.next-requires-clause-good
next-requires-clause-good c = walked-asks c.args.mmb.now c.statements.passed (told c.statements.table) c.statements.invariant.so_far

pub note-requires-clause-order : goal.note-requires-clause-order
note-requires-clause-order c = c.in-Some.ensures.goes_on.next.next_after

pub note-requires-clause-within : goal.note-requires-clause-within
note-requires-clause-within c = c.in-Some.ensures.goes_on.next.within

pub note-requires-clause-room : goal.note-requires-clause-room
note-requires-clause-room c =
    let same = length-map c.statements.table.rows.items (told_row c.statements.table.sets.nodes.items c.statements.table.size.height) in
    room-for c.args.mmb.now c.statements.passed.rows c.statements.passed.publics (length c.statements.table.rows.items) c.statements.table.size.span c.in-Some.head.code (sym same ∙ c.statements.invariant.many)
    c.statements.invariant.enough c.in-Some.ensures.goes_on.next.row

pub note-requires-clause-kept : goal.note-requires-clause-kept
note-requires-clause-kept c = c.statements.invariant.kept

pub statements-smaller : goal.statements-smaller
statements-smaller c =
    let further = c.in-Some.ensures.goes_on.further in
    let within = c.in-Some.ensures.goes_on.placed.within in
    omega (arith, further, within)

pub statements-preserved : goal.statements-preserved
statements-preserved c =
    let on = c.in-Some.ensures.goes_on in record {
      so_far = walked-more c.args.mmb.now c.statements.passed c.in-Some.head c.in-Some.after (told c.statements.table) (told c.note.new.table) c.statements.invariant.so_far on c.in_ok-note.ensures.noted;
      placed = on.placed;
      kept = c.in_ok-note.ensures.kept;
      many = rows-counted c.statements.passed.rows c.statements.passed.publics c.in-Some.head.code (body_bytes c.args.mmb.now c.in-Some.head.body c.in-Some.head.next) (told c.statements.table) (told c.note.new.table)
          c.statements.invariant.many c.in_ok-note.ensures.noted ∙ sym (ap (λ (p : Passed). p.rows.thms) on.passed);
      enough = subst (λ (s : Size). thm_count c.args.mmb.now ≤ s.span) (sym c.in_ok-note.ensures.size) c.statements.invariant.enough;
    }

pub returns-clause-told : goal.returns-clause-told
returns-clause-told c = walked-last c.args.mmb.now c.statements.passed (told c.statements.table) c.statements.invariant.so_far c.in_default.ensures.ends

pub returns-clause-few : goal.returns-clause-few
returns-clause-few c =
    let same = length-map c.statements.table.rows.items (told_row c.statements.table.sets.nodes.items c.statements.table.size.height) in
    let low = c.statements.invariant.so_far.rows_low in
    let within = c.statements.invariant.placed.within in
    let fits = c.statements.invariant.placed.fits in
    omega (arith, same, low, within, fits)

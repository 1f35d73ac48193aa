use Rattle.std.proofs.Common.{◌<◌, sym, subst, length, Option}
use Rattle.std.specs.Prelude.{IfSome}
use Rattle.mz_layout_tables.specs.Heads.{body_bytes}
use Rattle.mz_axioms.specs.declared.rows.Place.{Place}
use Rattle.mz_axioms.specs.Places.{place_by}
use Rattle.mz_axioms.proofs.Noting.{more-noted, more-sets}
use Rattle.mz_axioms.proofs.Joining.{still-store}
use Rattle.mz_axioms.proofs.walk.note.Goals as goal

pub set_of-requires-clause-room : goal.set_of-requires-clause-room
set_of-requires-clause-room c = subst (λ (o : Option Place). IfSome o (λ place. length c.args.table.now.rows.items < c.args.table.now.size.span)) (sym c.in-Some.ensures) c.requires.room

pub returns-clause-noted : goal.returns-clause-noted
returns-clause-noted c =
    more-noted c.args.table.now.sets.nodes.items c.set_of.new.sets.nodes.items c.args.table.now.size.height c.args.table.now.rows.items c.push.new.self.items c.in-Some.place
    (body_bytes c.args.mmb.now c.args.head.body c.args.head.next) c.in_ok-set.set c.in_ok-set.ensures c.requires.kept.sets (place_by c.args.publics c.args.head.code) (sym c.in-Some.ensures) c.in_ok-push.ensures.items

pub returns-clause-kept : goal.returns-clause-kept
returns-clause-kept c = record {
  starts = still-store c.args.table.now.sets.nodes.items c.set_of.new.sets.nodes.items c.in_ok-set.ensures.grows c.requires.kept.starts;
  sets = more-sets c.args.table.now.sets.nodes.items c.set_of.new.sets.nodes.items c.args.table.now.size.height c.args.table.now.rows.items c.push.new.self.items c.in-Some.place
      (body_bytes c.args.mmb.now c.args.head.body c.args.head.next) c.in_ok-set.set c.in_ok-set.ensures c.requires.kept.sets c.in_ok-push.ensures.items;
  power = c.requires.kept.power;
  small = c.requires.kept.small;
}

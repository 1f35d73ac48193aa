use Rattle.mz_io.proofs.Places.{serves_there, after_first, some_serves, none_serves}
use Rattle.mz_io.specs.Memory.{room_view}
use Rattle.mz_io.specs.Outside.{serves}
use Rattle.mz_io.proofs.rooms.serving_place.Goals as goal

pub returns-clause-serves : goal.returns-clause-serves
returns-clause-serves c = serves_there c.args.name.now c.args.size c.args.rooms.now _ c.first_place.ensures

pub returns-clause-after : goal.returns-clause-after
returns-clause-after c = after_first (serves c.args.name.now c.args.size) room_view c.args.rooms.now _ c.first_place.ensures

pub returns-clause-none : goal.returns-clause-none
returns-clause-none c = none_serves (serves c.args.name.now c.args.size) room_view c.args.rooms.now _ c.first_place.ensures

pub returns-clause-some : goal.returns-clause-some
returns-clause-some c = some_serves (serves c.args.name.now c.args.size) room_view c.args.rooms.now _ c.first_place.ensures

use Rattle.std.proofs.Common.{◌≤◌, ap, sym, subst, length}
use Rattle.mz_tool_engine.specs.Inputs.{name_of, bytes_of}
use Rattle.mz_tool_engine.specs.Run.{longest}
use Rattle.mz_tool_engine.proofs.Rooms.{shorter-serves}
use Rattle.mz_tool_engine.proofs.Telling.{put-leaves, none-leaves}
use Rattle.mz_tool_engine.proofs.output.put_file.Goals as goal

pub returns-in-File-File-clause-only_room : goal.returns-in-File-File-clause-only_room
returns-in-File-File-clause-only_room g c = λ clear rooms short.
    let named = rooms c.in-File-File.name.now (ap name_of c.in-File-File.is-0) in
    let le = short c.in-File-File.bytes.items (ap bytes_of c.in-File-File.is-1) in
    let within = subst (λ bytes. length bytes ≤ longest) (sym c.deref.ensures.value) le in
    c.put.ensures.only_room clear (shorter-serves c.in-File-File.name.now longest (length c.deref.result.now) within (g.F.Folder.rooms c.args.folder.now) named)

pub returns-in-File-File-clause-files : goal.returns-in-File-File-clause-files
returns-in-File-File-clause-files g c = λ told.
    put-leaves (g.F.Folder.file c.args.folder.now) (g.F.Folder.file c.put.new.self) _ _ c.in-File-File.name.now c.deref.result.now c.put.result c.put.ensures.logged (c.put.ensures.put told) (c.put.ensures.others told)

pub returns-in_default-clause-files : goal.returns-in_default-clause-files
returns-in_default-clause-files g c = λ told. none-leaves (g.F.Folder.file c.args.folder.now) (g.F.Folder.calls c.args.folder.now)

pub returns-in_default-2-clause-files : goal.returns-in_default-2-clause-files
returns-in_default-2-clause-files g c = λ told. none-leaves (g.F.Folder.file c.args.folder.now) (g.F.Folder.calls c.args.folder.now)

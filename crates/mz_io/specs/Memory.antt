-- The files and rooms of a folder in memory.
use Rattle.std.specs.Prelude.{ℕ, List, [], Bool, Option, Some, None, find, option_map, bytes_eq, string_bytes, map, drop, slice_get}
use Rattle.mz_io.specs.Outside.{Rooms}
use Rattle.mz_io.specs.declared.entry.Entry.{Entry}
use Rattle.mz_io.specs.declared.room.Room.{Room}

-- the file has this name
abbrev pub is_named : List ℕ → Entry → Bool
is_named name entry = bytes_eq (string_bytes entry.name) name

-- what the file holds
abbrev pub bytes_of : Entry → List ℕ
bytes_of entry = entry.bytes.items

-- the file of a name, where there is one
abbrev pub file_of : List Entry → List ℕ → Option (List ℕ)
file_of files name = option_map bytes_of (find (is_named name) files)

-- what is left of a file, where there is one, from an offset on
abbrev pub left_in : Option (List ℕ) → ℕ → List ℕ
left_in None offset = []
left_in (Some bytes) offset = drop offset bytes

-- what is left of the file at a place, from an offset on
abbrev pub left_at : List Entry → Option ℕ → ℕ → List ℕ
left_at files None offset = []
left_at files (Some i) offset = left_in (option_map bytes_of (slice_get files i)) offset

-- a room, as its name and its size
abbrev pub room_view : Room → List ℕ × ℕ
room_view room = (string_bytes room.name, room.size)

-- the rooms, in the order in which they were made
abbrev pub rooms_of : List Room → Rooms
rooms_of rooms = map room_view rooms

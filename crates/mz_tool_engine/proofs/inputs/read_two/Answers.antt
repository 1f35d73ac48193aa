use Rattle.std.proofs.Common.{◌∷◌, [], refl, sym, inl, inr}
use Rattle.std.proofs.lemmas.List.{append-nil}
use Rattle.mz_io.specs.Calls.{IsRead, IsUnread, IsOver}
use Rattle.mz_tool_engine.specs.Run.{AreRead, StopAt, IsPartly}
use Rattle.mz_io.proofs.Offered.{grows-both, grows-answered}
use Rattle.mz_tool_engine.proofs.Telling.{read-within}
use Rattle.mz_tool_engine.proofs.inputs.read_two.Goals as goal

pub returns-in-TooLong-read_bounded-clause-log : goal.returns-in-TooLong-read_bounded-clause-log
returns-in-TooLong-read_bounded-clause-log g c =
    grows-both _ _ _ (IsRead c.args.first.now c.in-Bytes.bytes.items) (IsOver c.args.limit c.args.second.now) (StopAt (IsOver c.args.limit) (c.args.first.now ∷ c.args.second.now ∷ []))
    c.in-Bytes.ensures.log c.in-TooLong-read_bounded.ensures.log
    (λ first second one two. inr (c.in-Bytes.bytes.items, first, second, refl, one, inl two))

pub returns-in-Bytes-read_bounded-clause-log : goal.returns-in-Bytes-read_bounded-clause-log
returns-in-Bytes-read_bounded-clause-log g c =
    grows-both _ _ _ (IsRead c.args.first.now c.in-Bytes.bytes.items) (IsRead c.args.second.now c.in-Bytes-read_bounded.more.items)
    (AreRead (c.args.first.now ∷ c.args.second.now ∷ []) (c.in-Bytes.bytes.items ∷ c.in-Bytes-read_bounded.more.items ∷ []))
    c.in-Bytes.ensures.log c.in-Bytes-read_bounded.ensures.log
    (λ first second one two. (first, second, refl, one, (second, [], sym (append-nil second), two, refl)))

pub returns-in-Fault-read_bounded-clause-log : goal.returns-in-Fault-read_bounded-clause-log
returns-in-Fault-read_bounded-clause-log g c =
    grows-both _ _ _ (IsRead c.args.first.now c.in-Bytes.bytes.items) (IsUnread c.args.second.now) (StopAt IsUnread (c.args.first.now ∷ c.args.second.now ∷ []))
    c.in-Bytes.ensures.log c.in-Fault-read_bounded.ensures.log
    (λ first second one two. inr (c.in-Bytes.bytes.items, first, second, refl, one, inl two))

pub returns-in-Mem-read_bounded-clause-log : goal.returns-in-Mem-read_bounded-clause-log
returns-in-Mem-read_bounded-clause-log g c =
    grows-both _ _ _ (IsRead c.args.first.now c.in-Bytes.bytes.items) (IsPartly c.args.second.now) (StopAt IsPartly (c.args.first.now ∷ c.args.second.now ∷ []))
    c.in-Bytes.ensures.log c.in-Mem-read_bounded.ensures.log
    (λ first second one two. inr (c.in-Bytes.bytes.items, first, second, refl, one, inl two))

pub returns-in-TooLong-read_bounded-clause-answered : goal.returns-in-TooLong-read_bounded-clause-answered
returns-in-TooLong-read_bounded-clause-answered g c = λ told.
    grows-answered (g.F.Folder.file c.args.folder.now) (g.F.Folder.file c.read_bounded.new.folder) (g.F.Folder.left c.args.folder.now) (g.F.Folder.left c.read_bounded.new.folder) (g.F.Folder.left c.read_bounded-2.new.folder) _ _ _
    (c.read_bounded.ensures.files told) (c.read_bounded.ensures.answered told) (c.read_bounded-2.ensures.answered told)

pub returns-in-Bytes-read_bounded-clause-answered : goal.returns-in-Bytes-read_bounded-clause-answered
returns-in-Bytes-read_bounded-clause-answered g c = λ told.
    grows-answered (g.F.Folder.file c.args.folder.now) (g.F.Folder.file c.read_bounded.new.folder) (g.F.Folder.left c.args.folder.now) (g.F.Folder.left c.read_bounded.new.folder) (g.F.Folder.left c.read_bounded-2.new.folder) _ _ _
    (c.read_bounded.ensures.files told) (c.read_bounded.ensures.answered told) (c.read_bounded-2.ensures.answered told)

pub returns-in-Fault-read_bounded-clause-answered : goal.returns-in-Fault-read_bounded-clause-answered
returns-in-Fault-read_bounded-clause-answered g c = λ told.
    grows-answered (g.F.Folder.file c.args.folder.now) (g.F.Folder.file c.read_bounded.new.folder) (g.F.Folder.left c.args.folder.now) (g.F.Folder.left c.read_bounded.new.folder) (g.F.Folder.left c.read_bounded-2.new.folder) _ _ _
    (c.read_bounded.ensures.files told) (c.read_bounded.ensures.answered told) (c.read_bounded-2.ensures.answered told)

pub returns-in-Mem-read_bounded-clause-answered : goal.returns-in-Mem-read_bounded-clause-answered
returns-in-Mem-read_bounded-clause-answered g c = λ told.
    grows-answered (g.F.Folder.file c.args.folder.now) (g.F.Folder.file c.read_bounded.new.folder) (g.F.Folder.left c.args.folder.now) (g.F.Folder.left c.read_bounded.new.folder) (g.F.Folder.left c.read_bounded-2.new.folder) _ _ _
    (c.read_bounded.ensures.files told) (c.read_bounded.ensures.answered told) (c.read_bounded-2.ensures.answered told)

pub returns-in-TooLong-read_bounded-clause-unread : goal.returns-in-TooLong-read_bounded-clause-unread
returns-in-TooLong-read_bounded-clause-unread g c = λ told clear longer. absurd (
    read-within (g.F.Folder.file c.args.folder.now) (g.F.Folder.left c.args.folder.now) (g.F.Folder.left c.read_bounded.new.folder) _ _ c.args.first.now c.in-Bytes.bytes.items c.args.limit
    c.in-Bytes.ensures.log (c.read_bounded.ensures.answered told) c.in-Bytes.ensures.within longer
    )

pub returns-in-Bytes-read_bounded-clause-unread : goal.returns-in-Bytes-read_bounded-clause-unread
returns-in-Bytes-read_bounded-clause-unread g c = λ told clear longer. absurd (
    read-within (g.F.Folder.file c.args.folder.now) (g.F.Folder.left c.args.folder.now) (g.F.Folder.left c.read_bounded.new.folder) _ _ c.args.first.now c.in-Bytes.bytes.items c.args.limit
    c.in-Bytes.ensures.log (c.read_bounded.ensures.answered told) c.in-Bytes.ensures.within longer
    )

pub returns-in-Fault-read_bounded-clause-unread : goal.returns-in-Fault-read_bounded-clause-unread
returns-in-Fault-read_bounded-clause-unread g c = λ told clear longer. absurd (
    read-within (g.F.Folder.file c.args.folder.now) (g.F.Folder.left c.args.folder.now) (g.F.Folder.left c.read_bounded.new.folder) _ _ c.args.first.now c.in-Bytes.bytes.items c.args.limit
    c.in-Bytes.ensures.log (c.read_bounded.ensures.answered told) c.in-Bytes.ensures.within longer
    )

pub returns-in-Mem-read_bounded-clause-unread : goal.returns-in-Mem-read_bounded-clause-unread
returns-in-Mem-read_bounded-clause-unread g c = λ told clear longer. absurd (
    read-within (g.F.Folder.file c.args.folder.now) (g.F.Folder.left c.args.folder.now) (g.F.Folder.left c.read_bounded.new.folder) _ _ c.args.first.now c.in-Bytes.bytes.items c.args.limit
    c.in-Bytes.ensures.log (c.read_bounded.ensures.answered told) c.in-Bytes.ensures.within longer
    )

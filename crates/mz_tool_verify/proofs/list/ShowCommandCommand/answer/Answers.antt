use Rattle.std.proofs.Common.{refl, inl, inr, rules}
use Rattle.std.proofs.lemmas.Option.{none-some}
use Rattle.mz_tool_engine.specs.Inputs.{contents_of}
use Rattle.mz_tool_verify.proofs.Listed.{listed-affirms, listed-refuses, listed-begun, listing-is_cut, whole-begun, front-begun, room-of_listed, room-of_line}
use Rattle.mz_tool_verify.proofs.list.ShowCommandCommand.answer.Goals as goal

pub returns-in-Done-clause-log : goal.returns-in-Done-clause-log
returns-in-Done-clause-log g c =
    let shown = c.in-Done.ensures.log in
    (shown.0, shown.1, (shown.2.0, shown.2.2, inl refl, listed-affirms c.args.self.now.bin.now c.one.result.now (contents_of c.args.contents.now) c.one.ensures.is c.each_file_has_one_listing.ensures.not_both shown.2.0 c.new.result.items c.new.ensures.items shown.2.1, tt, λ bytes some. absurd (none-some bytes some)))

pub returns-in-Done-clause-only_full : goal.returns-in-Done-clause-only_full
returns-in-Done-clause-only_full g c = λ clear fits. c.in-Done.ensures.only_full clear (room-of_listed c.args.self.now.bin.now c.one.result.now (contents_of c.args.contents.now) c.one.ensures.is c.each_file_has_one_listing.ensures.not_both (g.O.Sink.room c.args.out.now) fits)

pub returns-in-Done-clause-left : goal.returns-in-Done-clause-left
returns-in-Done-clause-left g c = λ clear fits. (c.in-Done.ensures.stays_clear clear, search rules)

pub returns-in-Ok-clause-log : goal.returns-in-Ok-clause-log
returns-in-Ok-clause-log g c =
    let shown = c.in-Refused.ensures.log in
    (shown.0, shown.1, (shown.2.0, shown.2.2, listed-refuses c.args.self.now.bin.now c.one.result.now (contents_of c.args.contents.now) c.one.ensures.is c.each_file_has_one_listing.ensures.not_both shown.2.0 c.in-Ok.text.items c.in-Refused.refusal c.in-Ok.ensures shown.2.1))

pub returns-in-Ok-clause-only_full : goal.returns-in-Ok-clause-only_full
returns-in-Ok-clause-only_full g c = λ clear fits. c.in-Refused.ensures.only_full clear (room-of_listed c.args.self.now.bin.now c.one.result.now (contents_of c.args.contents.now) c.one.ensures.is c.each_file_has_one_listing.ensures.not_both (g.O.Sink.room c.args.out.now) fits)

pub returns-in-Ok-clause-left : goal.returns-in-Ok-clause-left
returns-in-Ok-clause-left g c = λ clear fits.
    let listed = c.in-Refused.ensures.refused c.in-Refused.refusal refl in
    (c.in-Refused.ensures.stays_clear clear, room-of_line c.args.self.now.bin.now c.one.result.now (contents_of c.args.contents.now) c.one.ensures.is c.each_file_has_one_listing.ensures.not_both (g.O.Sink.room c.args.out.now) fits listed.0 c.in-Ok.text.items c.in-Refused.refusal (g.O.Sink.room c.listing.new.out) c.in-Ok.ensures listed.1 (listed.2 clear))

pub returns-in-Err-clause-log : goal.returns-in-Err-clause-log
returns-in-Err-clause-log g c =
    let shown = c.in-Refused.ensures.log in
    (shown.0, shown.1, inr (shown.2.0, listed-begun c.args.self.now.bin.now c.one.result.now (contents_of c.args.contents.now) c.one.ensures.is c.each_file_has_one_listing.ensures.not_both shown.2.0 (inr (c.in-Refused.refusal, shown.2.1)), whole-begun shown.2.0 shown.0 shown.2.2))

pub returns-in-Err-clause-only_full : goal.returns-in-Err-clause-only_full
returns-in-Err-clause-only_full g c = λ clear fits. c.in-Refused.ensures.only_full clear (room-of_listed c.args.self.now.bin.now c.one.result.now (contents_of c.args.contents.now) c.one.ensures.is c.each_file_has_one_listing.ensures.not_both (g.O.Sink.room c.args.out.now) fits)

pub returns-in-Fault-clause-log : goal.returns-in-Fault-clause-log
returns-in-Fault-clause-log g c =
    let shown = c.in-Fault.ensures.log in
    (shown.0, shown.1, listing-is_cut c.args.self.now.bin.now c.one.result.now (contents_of c.args.contents.now) c.one.ensures.is c.each_file_has_one_listing.ensures.not_both shown.2.0 shown.0 shown.2.1 shown.2.2)

pub returns-in-Fault-clause-only_full : goal.returns-in-Fault-clause-only_full
returns-in-Fault-clause-only_full g c = λ clear fits. c.in-Fault.ensures.only_full clear (room-of_listed c.args.self.now.bin.now c.one.result.now (contents_of c.args.contents.now) c.one.ensures.is c.each_file_has_one_listing.ensures.not_both (g.O.Sink.room c.args.out.now) fits)

pub returns-in-Mem-clause-log : goal.returns-in-Mem-clause-log
returns-in-Mem-clause-log g c =
    let shown = c.in-Mem.ensures.log in
    (shown.0, shown.1, inr (shown.2.0, listed-begun c.args.self.now.bin.now c.one.result.now (contents_of c.args.contents.now) c.one.ensures.is c.each_file_has_one_listing.ensures.not_both shown.2.0 shown.2.1, front-begun shown.2.0 shown.0 shown.2.2))

pub returns-in-Mem-clause-only_full : goal.returns-in-Mem-clause-only_full
returns-in-Mem-clause-only_full g c = λ clear fits. c.in-Mem.ensures.only_full clear (room-of_listed c.args.self.now.bin.now c.one.result.now (contents_of c.args.contents.now) c.one.ensures.is c.each_file_has_one_listing.ensures.not_both (g.O.Sink.room c.args.out.now) fits)

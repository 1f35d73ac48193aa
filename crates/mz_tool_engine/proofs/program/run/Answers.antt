use Rattle.std.proofs.Common.{rules, ◌≡◌, ◌∙◌, [], ℕ, List, refl, sym, subst, inl, inr, string_bytes}
use Rattle.std.specs.Prelude.{map}
use Rattle.std.proofs.lemmas.List.{append-nil, append_cancel_left}
use Rattle.mz_io.specs.Calls.{Call, Hold}
use Rattle.mz_tool_engine.specs.Files.{AreThere, BeginsLonger}
use Rattle.mz_tool_engine.specs.Run.{IsRun, IsSaidOf, longest}
use Rattle.mz_tool_engine.proofs.Following.{follows}
use Rattle.mz_tool_engine.proofs.Telling.{none-tells, taken-since}
use Rattle.mz_tool_engine.proofs.program.run.Goals as goal

pub returns-in-Some : goal.returns-in-Some
returns-in-Some g c =
    let same : IsSaidOf (g.P.Asked.Command.says c.in-Some.command) (g.P.Program.said_of (g.P.Program.request c.in-Some.command)) = search rules in
    let asked = g.P.Program.request c.in-Some.command in
    let is_asked = c.in-Some.ensures.asked in
    let words = map string_bytes c.args.words.now in
    let log = c.answer.ensures.log in
    let ran : IsRun g.P.Program.said_of words c.answer.result log.0 log.1 = inl (asked, is_asked, same.ran longest c.answer.result log.0 log.1 log.4) in
    record {
      ran = record {
        log = (log.0, log.1, log.2, log.3, ran);
        follows = λ file calls written is wrote given.
            let here : log.0 ≡ calls = append_cancel_left (g.F.Folder.calls c.args.folder.now) log.0 calls (sym log.2 ∙ is) in
            let there : log.1 ≡ written = append_cancel_left (g.O.Sink.calls c.args.out.now) log.1 written (sym log.3 ∙ wrote) in
            follows g.P.Program.said_of words file c.read.ensures.one (c.keeps_its_promises.ensures file) c.answer.result calls written
            (subst (λ (cs : List Call). IsRun g.P.Program.said_of words c.answer.result cs written) here (subst (λ (ws : List Call). IsRun g.P.Program.said_of words c.answer.result log.0 ws) there ran)) given;
        files = c.answer.ensures.files;
        text = λ told.
            taken-since (g.O.Sink.written c.args.out.now) (g.O.Sink.written c.answer.new.out) (g.O.Sink.calls c.args.out.now) (g.O.Sink.calls c.answer.new.out)
            (g.met.O.Sink.tells told c.args.out.now) (g.met.O.Sink.tells told c.answer.new.out);
        read_fault = c.answer.ensures.read_fault;
        write_fault = c.answer.ensures.write_fault;
        out_fault = c.answer.ensures.out_fault;
        put_faults = λ nothing. c.answer.ensures.put_faults (same.puts ∙ nothing asked is_asked);
        apart = λ nothing. let both = nothing asked is_asked in c.answer.ensures.apart (same.reads ∙ both.0) (same.puts ∙ both.1);
        only_missing = λ clear there.
            c.answer.ensures.only_missing clear (subst (λ (names : List (List ℕ)). AreThere (g.F.Folder.file c.args.folder.now) names) (sym same.reads) (there asked is_asked));
        unread = λ clear longer.
            c.answer.ensures.unread clear (subst (λ (names : List (List ℕ)). BeginsLonger longest (g.F.Folder.file c.args.folder.now) names) (sym same.reads) (longer asked is_asked));
        only_room = λ clear room. c.answer.ensures.only_room clear (λ name is. room asked is_asked name (sym same.puts ∙ is));
        only_full = λ file gives clear fits.
            c.answer.ensures.only_full file gives clear (λ contents put text hold answer. fits asked is_asked put text
            (contents, subst (λ (names : List (List ℕ)). Hold file names contents) same.reads hold, same.answer contents put text answer));
      };
    }

pub returns-in-None : goal.returns-in-None
returns-in-None g c =
    let words = map string_bytes c.args.words.now in
    record {
      ran = record {
        log = ([], [], sym (append-nil (g.F.Folder.calls c.args.folder.now)), sym (append-nil (g.O.Sink.calls c.args.out.now)), inr (c.in-None.ensures.usage, refl, refl, refl));
        follows = λ file calls written is wrote given.
            let here : calls ≡ [] = append_cancel_left (g.F.Folder.calls c.args.folder.now) calls [] (sym is ∙ sym (append-nil (g.F.Folder.calls c.args.folder.now))) in
            let there : written ≡ [] = append_cancel_left (g.O.Sink.calls c.args.out.now) written [] (sym wrote ∙ sym (append-nil (g.O.Sink.calls c.args.out.now))) in
            follows g.P.Program.said_of words file c.read.ensures.one (c.keeps_its_promises.ensures file) _ calls written (inr (c.in-None.ensures.usage, refl, here, there)) given;
        files = λ told. none-tells (g.F.Folder.file c.args.folder.now) (g.F.Folder.left c.args.folder.now) (g.F.Folder.calls c.args.folder.now);
        text = λ told.
            taken-since (g.O.Sink.written c.args.out.now) (g.O.Sink.written c.args.out.now) (g.O.Sink.calls c.args.out.now) (g.O.Sink.calls c.args.out.now)
            (g.met.O.Sink.tells told c.args.out.now) (g.met.O.Sink.tells told c.args.out.now);
        read_fault = λ is. cc is;
        write_fault = λ is. cc is;
        out_fault = λ is. cc is;
        put_faults = λ nothing. refl;
        apart = λ nothing. refl;
        only_missing = λ clear there. refl;
        unread = λ clear longer. refl;
        only_room = λ clear room. refl;
        only_full = λ file gives clear fits. refl;
      };
    }

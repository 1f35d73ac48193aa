use Rattle.std.proofs.Common.{refl}
use Rattle.std.proofs.lemmas.Result.{IfOk-weaker}
use Rattle.mz_decompile_text.specs.Naming.{vocabulary_by}
use Rattle.mz_decompile_text.proofs.RowSteps.{next_dummy, next_ref, next_save, next_term, never_hyp, no_command, read_command}
use Rattle.mz_decompile_text.proofs.reading.Reading.step.Goals as goal

pub unreachable-requires : goal.unreachable-requires
unreachable-requires c =
    let r = c.requires.can in
    no_command c.args.mmb.now r.0 (vocabulary_by c.args.names.now) c.args.phrases.now c.args.self.now r.1 r.2 c.in_default.ensures

pub begin-requires : goal.begin-requires
begin-requires c =
    let r = c.requires.can in
    let mmb = c.args.mmb.now in
    let v = vocabulary_by c.args.names.now in
    let ps = c.args.phrases.now in
    let old = c.args.self.now in
    let s = c.in-Some.step in
    let self = record old { stream = s.rest } in
    record {
      can = (
        r.0,
        r.1,
        next_term mmb r.0 v ps self r.1 s.code s.value (read_command mmb r.0 v ps old self r.1 s.code s.value r.2 c.in-Some.ensures refl refl refl refl refl) c.in-Term.is,
      );
    }

pub begin_saved-requires : goal.begin_saved-requires
begin_saved-requires c =
    let r = c.requires.can in
    let mmb = c.args.mmb.now in
    let v = vocabulary_by c.args.names.now in
    let ps = c.args.phrases.now in
    let old = c.args.self.now in
    let s = c.in-Some.step in
    let self = record old { stream = s.rest } in
    record {
      can = (
        r.0,
        r.1,
        next_save mmb r.0 v ps self r.1 s.code s.value (read_command mmb r.0 v ps old self r.1 s.code s.value r.2 c.in-Some.ensures refl refl refl refl refl) c.in-TermSave.is,
      );
    }

pub refer-requires : goal.refer-requires
refer-requires c =
    let r = c.requires.can in
    let mmb = c.args.mmb.now in
    let v = vocabulary_by c.args.names.now in
    let ps = c.args.phrases.now in
    let old = c.args.self.now in
    let s = c.in-Some.step in
    let self = record old { stream = s.rest } in
    record {
      can = (
        mmb,
        v,
        ps,
        r.0,
        r.1,
        next_ref mmb r.0 v ps self r.1 s.code s.value (read_command mmb r.0 v ps old self r.1 s.code s.value r.2 c.in-Some.ensures refl refl refl refl refl) c.in-Ref.is,
      );
    }

pub meet-requires : goal.meet-requires
meet-requires c =
    let r = c.requires.can in
    let mmb = c.args.mmb.now in
    let v = vocabulary_by c.args.names.now in
    let ps = c.args.phrases.now in
    let old = c.args.self.now in
    let s = c.in-Some.step in
    let self = record old { stream = s.rest } in
    record {
      can = (
        mmb,
        r.0,
        r.1,
        next_dummy mmb r.0 v ps self r.1 s.code s.value (read_command mmb r.0 v ps old self r.1 s.code s.value r.2 c.in-Some.ensures refl refl refl refl refl) c.in-Dummy.is,
      );
    }

pub unreachable-requires-in-Hyp : goal.unreachable-requires-in-Hyp
unreachable-requires-in-Hyp c =
    let r = c.requires.can in
    let mmb = c.args.mmb.now in
    let v = vocabulary_by c.args.names.now in
    let ps = c.args.phrases.now in
    let old = c.args.self.now in
    let s = c.in-Some.step in
    let self = record old { stream = s.rest } in
    never_hyp mmb r.0 v ps self r.1 s.code s.value (read_command mmb r.0 v ps old self r.1 s.code s.value r.2 c.in-Some.ensures refl refl refl refl refl) c.in-Hyp.is

pub returns-in-Term-clause-does : goal.returns-in-Term-clause-does
returns-in-Term-clause-does c =
    let mmb = c.args.mmb.now in
    let v = vocabulary_by c.args.names.now in
    let ps = c.args.phrases.now in
    let old = c.args.self.now in
    let s = c.in-Some.step in
    let self = record old { stream = s.rest } in
    IfOk-weaker c.begin.result _ _ (λ _ does o t g. does o t
    (next_term mmb o v ps self t s.code s.value (read_command mmb o v ps old self t s.code s.value g c.in-Some.ensures refl refl refl refl refl) c.in-Term.is)) c.begin.ensures.does

pub returns-in-TermSave-clause-does : goal.returns-in-TermSave-clause-does
returns-in-TermSave-clause-does c =
    let mmb = c.args.mmb.now in
    let v = vocabulary_by c.args.names.now in
    let ps = c.args.phrases.now in
    let old = c.args.self.now in
    let s = c.in-Some.step in
    let self = record old { stream = s.rest } in
    IfOk-weaker c.begin_saved.result _ _ (λ _ does o t g. does o t
    (next_save mmb o v ps self t s.code s.value (read_command mmb o v ps old self t s.code s.value g c.in-Some.ensures refl refl refl refl refl) c.in-TermSave.is)) c.begin_saved.ensures.does

pub returns-in-Ref-clause-does : goal.returns-in-Ref-clause-does
returns-in-Ref-clause-does c =
    let mmb = c.args.mmb.now in
    let v = vocabulary_by c.args.names.now in
    let ps = c.args.phrases.now in
    let old = c.args.self.now in
    let s = c.in-Some.step in
    let self = record old { stream = s.rest } in
    IfOk-weaker c.refer.result _ _ (λ _ does o t g. does mmb v ps o t
    (next_ref mmb o v ps self t s.code s.value (read_command mmb o v ps old self t s.code s.value g c.in-Some.ensures refl refl refl refl refl) c.in-Ref.is)) c.refer.ensures.does

pub returns-in-Dummy-clause-does : goal.returns-in-Dummy-clause-does
returns-in-Dummy-clause-does c =
    let mmb = c.args.mmb.now in
    let v = vocabulary_by c.args.names.now in
    let ps = c.args.phrases.now in
    let old = c.args.self.now in
    let s = c.in-Some.step in
    let self = record old { stream = s.rest } in
    IfOk-weaker c.meet.result _ _ (λ _ does o t g. does mmb o t
    (next_dummy mmb o v ps self t s.code s.value (read_command mmb o v ps old self t s.code s.value g c.in-Some.ensures refl refl refl refl refl) c.in-Dummy.is)) c.meet.ensures.does

use Rattle.std.proofs.Common.{◌∙◌, append-nil, arith, refl}
use Rattle.std.proofs.lemmas.List.{nil_from_length}
use Rattle.mz_decompile_text.specs.Naming.{vocabulary_by}
use Rattle.mz_decompile_text.proofs.RowNumbers.{none_counted}
use Rattle.mz_decompile_text.proofs.RowSteps.{start_next, whole_read, whole_some}
use Rattle.mz_decompile_text.proofs.reading.Reading.expression.Goals as goal

pub step-requires : goal.step-requires
step-requires c =
    let r = c.requires.can in
    let mmb = c.args.mmb.now in
    let v = vocabulary_by c.args.names.now in
    record { can = (r.0, r.1, start_next mmb r.0 v c.args.phrases.now c.args.self.now r.1 r.2 r.3 r.4 r.5) }

pub go_on-requires-clause-can : goal.go_on-requires-clause-can
go_on-requires-clause-can c =
    let r = c.requires.can in
    let mmb = c.args.mmb.now in
    let v = vocabulary_by c.args.names.now in
    (r.0, r.1, c.pending.invariant.does r.0 r.1 (c.in_ok-step.ensures.does r.0 r.1 (start_next mmb r.0 v c.args.phrases.now c.args.self.now r.1 r.2 r.3 r.4 r.5)))

pub unreachable-requires : goal.unreachable-requires
unreachable-requires c =
    let r = c.requires.can in
    let mmb = c.args.mmb.now in
    let v = vocabulary_by c.args.names.now in
    let self = c.pending.self in
    let empty = none_counted self.pending.items _ c.is_empty.result c.pending-test.false c.is_empty.ensures (let long = self.pending.ok.0 in omega (arith, long)) in
    let none-left = nil_from_length c.pop.new.self.items (let none = c.in_default.ensures.cases.1 in omega (arith, none, c.pop.new.self.ok.0)) in
    whole_some mmb r.0 v c.pending.phrases self r.1
    (c.pending.invariant.does r.0 r.1 (c.in_ok-step.ensures.does r.0 r.1 (start_next mmb r.0 v c.args.phrases.now c.args.self.now r.1 r.2 r.3 r.4 r.5))) empty
    (c.in_default.ensures.items ∙ append-nil c.pop.new.self.items ∙ none-left)

pub returns-clause-does : goal.returns-clause-does
returns-clause-does c = λ o t m us st spells.
    let mmb = c.args.mmb.now in
    let v = vocabulary_by c.args.names.now in
    let self = c.pending.self in
    let empty = none_counted self.pending.items _ c.is_empty.result c.pending-test.false c.is_empty.ensures (let long = self.pending.ok.0 in omega (arith, long)) in
    whole_read mmb o v c.pending.phrases self (record self { read = c.pop.new.self }) t c.in-Some.number
    (c.pending.invariant.does o t (c.in_ok-step.ensures.does o t
    (start_next mmb o v c.args.phrases.now c.args.self.now t m us st spells))) empty c.in-Some.ensures.items refl refl refl refl refl

use Rattle.std.proofs.Common.{◌≡◌, ℕ, ◌+◌, ◌∙◌, length, sym, ap, subst, arith}
use Rattle.mz_store.specs.Sharing.{Sharing}
use Rattle.mz_machine.specs.Tidiness.{OneACommand}
use Rattle.mz_machine.specs.Running.{IsRunning, machine_of}
use Rattle.mz_machine.specs.Stepping.{reference}
use Rattle.mz_machine.specs.Steps.{tables_for, heading_for}
use Rattle.mz_machine_theory.specs.Profile.{plain}
use Rattle.mz_machine_theory.proofs.Offered.{further, more-steps, within-steps}
use Rattle.mz_machine_env.proofs.Offered.{at-first, cut-whole, long-whole, end-whole, end-refused, end-many, refused-whole, refused-many, goes-on, ends-there, goes-further}
use Rattle.mz_machine.proofs.BodyRunning.{itself, goes, row-over, steps-over, most-over, end-answer, end-counts, stop-answer, stop-counts, place-fits, none-last, none-so-far, one-last, one-so-far, whatever}
use Rattle.mz_machine.proofs.GapWalk.{gap-at-first, gap-ends, gap-goes-on}
use Rattle.mz_machine.proofs.KnownParams.{where-good, stopped-good}
use Rattle.mz_machine.proofs.Referring.{read-at}
use Rattle.mz_machine.proofs.body.run.Goals as goal

-- a reference is not the end
not-end : ◌≡◌ {A = ℕ} 0x12 0 → ⊥
not-end e = omega (arith, e)

pub commands-init : goal.commands-init
commands-init g c =
    let v = machine_of c.args.setting.now c.args.parts.now in
    let bytes = c.args.bytes.now in
    record {
      in_range = omega arith;
      running = c.requires.running;
      same = itself v;
      underway = at-first (plain v.gaps) (tables_for v) (heading_for v) c.args.from bytes v.state c.args.steps.now;
      gap = gap-at-first bytes v.sorry c.requires.fresh;
      most = omega arith;
      nodes = none-so-far (length c.args.parts.now.store.entries) bytes;
    }

pub returns-in_default-cmd_at-clause-run : goal.returns-in_default-cmd_at-clause-run
returns-in_default-cmd_at-clause-run g c =
    let on = c.commands.invariant.underway in
    (cut-whole on c.in_default-cmd_at.field-0 (sym c.in_default-cmd_at.ensures.computed)).0

pub returns-in_default-cmd_at-clause-steps : goal.returns-in_default-cmd_at-clause-steps
returns-in_default-cmd_at-clause-steps g c =
    let on = c.commands.invariant.underway in
    (cut-whole on c.in_default-cmd_at.field-0 (sym c.in_default-cmd_at.ensures.computed)).1

pub returns-then-next-bytes-clause-run : goal.returns-then-next-bytes-clause-run
returns-then-next-bytes-clause-run g c =
    let on = c.commands.invariant.underway in
    let cmd = c.in-Ok-cmd_at.cmd in
    let read = sym c.in-Ok-cmd_at.ensures.computed in
    let ahead = further c.args.bytes.now c.commands.at cmd read c.commands.invariant.in_range in
    let more = goes-further c.args.bytes.now c.commands.at cmd.len (λ whole. c.if-next-bytes.true (ap (λ n. c.commands.at + n) c.from.ensures ∙ sym whole)) ahead.1 in
    (long-whole on cmd read c.if-cmd-eq-END.true more).0

pub returns-then-next-bytes-clause-steps : goal.returns-then-next-bytes-clause-steps
returns-then-next-bytes-clause-steps g c =
    let on = c.commands.invariant.underway in
    let cmd = c.in-Ok-cmd_at.cmd in
    let read = sym c.in-Ok-cmd_at.ensures.computed in
    let ahead = further c.args.bytes.now c.commands.at cmd read c.commands.invariant.in_range in
    let more = goes-further c.args.bytes.now c.commands.at cmd.len (λ whole. c.if-next-bytes.true (ap (λ n. c.commands.at + n) c.from.ensures ∙ sym whole)) ahead.1 in
    (long-whole on cmd read c.if-cmd-eq-END.true more).1

pub returns-in_default-cmd_at-clause-most : goal.returns-in_default-cmd_at-clause-most
returns-in_default-cmd_at-clause-most g c =
    let u = machine_of c.args.setting.now c.args.parts.now in
    within-steps c.args.steps.now c.commands.steps c.commands.at (length c.args.bytes.now) (length u.file) c.commands.invariant.most c.commands.invariant.in_range

pub returns-then-next-bytes-clause-most : goal.returns-then-next-bytes-clause-most
returns-then-next-bytes-clause-most g c =
    let u = machine_of c.args.setting.now c.args.parts.now in
    within-steps c.args.steps.now c.commands.steps c.commands.at (length c.args.bytes.now) (length u.file) c.commands.invariant.most c.commands.invariant.in_range

pub overflow_add-at : goal.overflow_add-at
overflow_add-at g c =
    let ahead = further c.args.bytes.now c.commands.at (reference c.in-Some.place c.in-Some.len) (read-at c.args.bytes.now c.commands.at (reference c.in-Some.place c.in-Some.len) c.in-Some.ensures) c.commands.invariant.in_range in
    omega (arith, ahead.1, c.requires.within)

pub overflow_add-next : goal.overflow_add-next
overflow_add-next g c =
    let cmd = c.in-Ok-cmd_at.cmd in
    let ahead = further c.args.bytes.now c.commands.at cmd (sym c.in-Ok-cmd_at.ensures.computed) c.commands.invariant.in_range in
    rw c.from.ensures (record { fits = place-fits c.args.from (c.commands.at + cmd.len) (length c.args.bytes.now) 4294967296 ahead.1 c.requires.within })

pub returns-then-cmd-eq-END-clause-run : goal.returns-then-cmd-eq-END-clause-run
returns-then-cmd-eq-END-clause-run g c =
    let u = machine_of c.args.setting.now c.args.parts.now in
    let v = machine_of c.args.setting.now c.commands.parts in
    let same = c.commands.invariant.same in
    let on = c.commands.invariant.underway in
    let place = c.args.from + c.commands.at in
    let cmd = c.in-Ok-cmd_at.cmd in
    let read = sym c.in-Ok-cmd_at.ensures.computed in
    let none = ends-there c.args.bytes.now c.commands.at cmd.len (sym c.if-next-bytes.false ∙ ap (λ n. c.commands.at + n) c.from.ensures) in
    rw c.ended.ensures
    (end-answer u v c.args.bytes.now _ place c.finish.result same
    (gap-ends c.args.bytes.now c.commands.at cmd v.sorry read c.if-cmd-eq-END.true none c.commands.invariant.gap)
    (λ last done. end-whole on cmd read last c.if-cmd-eq-END.true none done)
    (λ d done. end-refused on cmd read d c.if-cmd-eq-END.true none done) c.finish.ensures.run)

pub returns-then-cmd-eq-END-clause-steps : goal.returns-then-cmd-eq-END-clause-steps
returns-then-cmd-eq-END-clause-steps g c =
    let u = machine_of c.args.setting.now c.args.parts.now in
    let v = machine_of c.args.setting.now c.commands.parts in
    let same = c.commands.invariant.same in
    let on = c.commands.invariant.underway in
    let place = c.args.from + c.commands.at in
    let cmd = c.in-Ok-cmd_at.cmd in
    let read = sym c.in-Ok-cmd_at.ensures.computed in
    let none = ends-there c.args.bytes.now c.commands.at cmd.len (sym c.if-next-bytes.false ∙ ap (λ n. c.commands.at + n) c.from.ensures) in
    rw c.ended.ensures
    (end-counts u v place c.finish.new.steps c.commands.steps _ c.finish.result same c.finish.ensures.steps
    (λ is. end-many on cmd read c.finish.new.steps c.if-cmd-eq-END.true none is))

pub returns-then-cmd-eq-END-clause-most : goal.returns-then-cmd-eq-END-clause-most
returns-then-cmd-eq-END-clause-most g c =
    let u = machine_of c.args.setting.now c.args.parts.now in
    let v = machine_of c.args.setting.now c.commands.parts in
    let same = c.commands.invariant.same in
    let cmd = c.in-Ok-cmd_at.cmd in
    let read = sym c.in-Ok-cmd_at.ensures.computed in
    let ahead = further c.args.bytes.now c.commands.at cmd read c.commands.invariant.in_range in
    within-steps c.args.steps.now c.finish.new.steps (c.commands.at + cmd.len) (length c.args.bytes.now) (length u.file)
    (more-steps c.args.steps.now c.commands.steps c.finish.new.steps c.commands.at cmd.len (length u.file) c.commands.invariant.most (most-over u v c.finish.new.steps c.commands.steps same c.finish.ensures.most) ahead.0) ahead.1

pub returns-in-Err-advance-clause-run : goal.returns-in-Err-advance-clause-run
returns-in-Err-advance-clause-run g c =
    let u = machine_of c.args.setting.now c.args.parts.now in
    let v = machine_of c.args.setting.now c.commands.parts in
    let same = c.commands.invariant.same in
    let on = c.commands.invariant.underway in
    let place = c.args.from + c.commands.at in
    let cmd = c.in-Ok-cmd_at.cmd in
    let read = sym c.in-Ok-cmd_at.ensures.computed in
    rw c.stopped-in-Err-advance.ensures
    (stop-answer u v c.args.bytes.now _ place cmd (machine_of c.args.setting.now c.advance.new.parts) c.in-Err-advance.stop same
    (λ d row. refused-whole on cmd read c.if-cmd-eq-END.false d row) (c.in-Err-advance.ensures.row place))

pub returns-in-Err-clause-run : goal.returns-in-Err-clause-run
returns-in-Err-clause-run g c =
    let u = machine_of c.args.setting.now c.args.parts.now in
    let v = machine_of c.args.setting.now c.commands.parts in
    let same = c.commands.invariant.same in
    let on = c.commands.invariant.underway in
    let place = c.args.from + c.commands.at in
    let cmd = reference c.in-Some.place c.in-Some.len in
    let read = read-at c.args.bytes.now c.commands.at cmd c.in-Some.ensures in
    rw c.stopped.ensures
    (stop-answer u v c.args.bytes.now _ place cmd (machine_of c.args.setting.now c.refer.new.parts) c.in-Err.stop same
    (λ d row. refused-whole on cmd read not-end d row) (c.in-Err.ensures.row place c.in-Some.len))

pub returns-in-Err-advance-clause-steps : goal.returns-in-Err-advance-clause-steps
returns-in-Err-advance-clause-steps g c =
    let u = machine_of c.args.setting.now c.args.parts.now in
    let v = machine_of c.args.setting.now c.commands.parts in
    let same = c.commands.invariant.same in
    let on = c.commands.invariant.underway in
    let place = c.args.from + c.commands.at in
    let cmd = c.in-Ok-cmd_at.cmd in
    let read = sym c.in-Ok-cmd_at.ensures.computed in
    rw c.stopped-in-Err-advance.ensures
    (stop-counts u v place c.advance.new.steps c.commands.steps _ cmd (machine_of c.args.setting.now c.advance.new.parts) c.in-Err-advance.stop same (c.in-Err-advance.ensures.row place) c.in-Err-advance.ensures.steps
    (λ d row many. refused-many on cmd read c.if-cmd-eq-END.false d c.advance.new.steps row many))

pub returns-in-Err-clause-steps : goal.returns-in-Err-clause-steps
returns-in-Err-clause-steps g c =
    let u = machine_of c.args.setting.now c.args.parts.now in
    let v = machine_of c.args.setting.now c.commands.parts in
    let same = c.commands.invariant.same in
    let on = c.commands.invariant.underway in
    let place = c.args.from + c.commands.at in
    let cmd = reference c.in-Some.place c.in-Some.len in
    let read = read-at c.args.bytes.now c.commands.at cmd c.in-Some.ensures in
    rw c.stopped.ensures
    (stop-counts u v place c.refer.new.steps c.commands.steps _ cmd (machine_of c.args.setting.now c.refer.new.parts) c.in-Err.stop same (c.in-Err.ensures.row place c.in-Some.len) (c.in-Err.ensures.steps c.in-Some.len)
    (λ d row many. refused-many on cmd read not-end d c.refer.new.steps row many))

pub returns-in-Err-advance-clause-most : goal.returns-in-Err-advance-clause-most
returns-in-Err-advance-clause-most g c =
    let u = machine_of c.args.setting.now c.args.parts.now in
    let v = machine_of c.args.setting.now c.commands.parts in
    let same = c.commands.invariant.same in
    let cmd = c.in-Ok-cmd_at.cmd in
    let read = sym c.in-Ok-cmd_at.ensures.computed in
    let ahead = further c.args.bytes.now c.commands.at cmd read c.commands.invariant.in_range in
    within-steps c.args.steps.now c.advance.new.steps (c.commands.at + cmd.len) (length c.args.bytes.now) (length u.file)
    (more-steps c.args.steps.now c.commands.steps c.advance.new.steps c.commands.at cmd.len (length u.file) c.commands.invariant.most (most-over u v c.advance.new.steps c.commands.steps same c.advance.ensures.most) ahead.0) ahead.1

pub returns-in-Err-clause-most : goal.returns-in-Err-clause-most
returns-in-Err-clause-most g c =
    let u = machine_of c.args.setting.now c.args.parts.now in
    let v = machine_of c.args.setting.now c.commands.parts in
    let same = c.commands.invariant.same in
    let cmd = reference c.in-Some.place c.in-Some.len in
    let read = read-at c.args.bytes.now c.commands.at cmd c.in-Some.ensures in
    let ahead = further c.args.bytes.now c.commands.at cmd read c.commands.invariant.in_range in
    within-steps c.args.steps.now c.refer.new.steps (c.commands.at + cmd.len) (length c.args.bytes.now) (length u.file)
    (more-steps c.args.steps.now c.commands.steps c.refer.new.steps c.commands.at cmd.len (length u.file) c.commands.invariant.most (most-over u v c.refer.new.steps c.commands.steps same c.refer.ensures.most) ahead.0) ahead.1

-- ---- the store

pub returns-in_default-cmd_at-clause-nodes : goal.returns-in_default-cmd_at-clause-nodes
returns-in_default-cmd_at-clause-nodes g c =
    none-last (length c.args.parts.now.store.entries) c.args.bytes.now c.commands.at (length c.commands.parts.store.entries) c.commands.invariant.nodes

pub returns-then-next-bytes-clause-nodes : goal.returns-then-next-bytes-clause-nodes
returns-then-next-bytes-clause-nodes g c =
    none-last (length c.args.parts.now.store.entries) c.args.bytes.now c.commands.at (length c.commands.parts.store.entries) c.commands.invariant.nodes

pub returns-then-cmd-eq-END-clause-nodes : goal.returns-then-cmd-eq-END-clause-nodes
returns-then-cmd-eq-END-clause-nodes g c =
    let first = length c.args.parts.now.store.entries in
    let bytes = c.args.bytes.now in
    let made = none-last first bytes c.commands.at (length c.commands.parts.store.entries) c.commands.invariant.nodes in
    whatever c.ended.result (OneACommand first bytes (length c.finish.new.parts.store.entries))
    (subst (λ (s : Sharing). OneACommand first bytes (length s.entries)) (sym c.finish.ensures.store) made)

pub returns-in-Err-advance-clause-nodes : goal.returns-in-Err-advance-clause-nodes
returns-in-Err-advance-clause-nodes g c =
    let first = length c.args.parts.now.store.entries in
    let bytes = c.args.bytes.now in
    let later = length c.advance.new.parts.store.entries in
    whatever c.stopped-in-Err-advance.result (OneACommand first bytes later)
    (one-last first bytes c.commands.at (length c.commands.parts.store.entries) later c.in-Ok-cmd_at.cmd (sym c.in-Ok-cmd_at.ensures.computed) c.if-cmd-eq-END.false c.advance.ensures.nodes c.commands.invariant.nodes)

pub returns-in-Err-clause-nodes : goal.returns-in-Err-clause-nodes
returns-in-Err-clause-nodes g c =
    let first = length c.args.parts.now.store.entries in
    let bytes = c.args.bytes.now in
    let later = length c.refer.new.parts.store.entries in
    whatever c.stopped.result (OneACommand first bytes later)
    (one-last first bytes c.commands.at (length c.commands.parts.store.entries) later (reference c.in-Some.place c.in-Some.len) (read-at c.args.bytes.now c.commands.at (reference c.in-Some.place c.in-Some.len) c.in-Some.ensures) not-end c.refer.ensures.nodes c.commands.invariant.nodes)

-- ---- the machine after a body that has run

pub returns-then-cmd-eq-END-clause-running : goal.returns-then-cmd-eq-END-clause-running
returns-then-cmd-eq-END-clause-running g c = where-good c.ended.result (IsRunning c.args.setting.now c.finish.new.parts) c.finish.ensures.running

pub returns-in-Err-advance-clause-running : goal.returns-in-Err-advance-clause-running
returns-in-Err-advance-clause-running g c = stopped-good c.stopped-in-Err-advance.result _ c.in-Err-advance.stop (IsRunning c.args.setting.now c.advance.new.parts) c.stopped-in-Err-advance.ensures

pub returns-in-Err-clause-running : goal.returns-in-Err-clause-running
returns-in-Err-clause-running g c = stopped-good c.stopped.result _ c.in-Err.stop (IsRunning c.args.setting.now c.refer.new.parts) c.stopped.ensures

-- ---- the loop

pub commands-smaller : goal.commands-smaller
commands-smaller g c =
    let cmd = c.in-Ok-cmd_at.cmd in
    let read = sym c.in-Ok-cmd_at.ensures.computed in
    let ahead = further c.args.bytes.now c.commands.at cmd read c.commands.invariant.in_range in
    rw c.from.ensures (omega (arith, ahead.0, ahead.1))

pub commands-smaller-in-Some : goal.commands-smaller-in-Some
commands-smaller-in-Some g c =
    let cmd = reference c.in-Some.place c.in-Some.len in
    let read = read-at c.args.bytes.now c.commands.at cmd c.in-Some.ensures in
    let ahead = further c.args.bytes.now c.commands.at cmd read c.commands.invariant.in_range in
    (omega (arith, ahead.0, ahead.1))

pub commands-preserved : goal.commands-preserved
commands-preserved g c =
    let u = machine_of c.args.setting.now c.args.parts.now in
    let v = machine_of c.args.setting.now c.commands.parts in
    let same = c.commands.invariant.same in
    let on = c.commands.invariant.underway in
    let place = c.args.from + c.commands.at in
    let cmd = c.in-Ok-cmd_at.cmd in
    let read = sym c.in-Ok-cmd_at.ensures.computed in
    let ahead = further c.args.bytes.now c.commands.at cmd read c.commands.invariant.in_range in
    let after = machine_of c.args.setting.now c.advance.new.parts in
    record {
      in_range = rw c.from.ensures ahead.1;
      running = c.in-Ok-advance.ensures.running;
      same = goes u v after cmd same (c.in-Ok-advance.ensures.row place).1;
      underway = rw c.from.ensures (goes-on on cmd read c.if-cmd-eq-END.false after.state c.advance.new.steps (row-over u v place v.state cmd _ same (c.in-Ok-advance.ensures.row place).0) (steps-over u v v.state cmd c.advance.new.steps c.commands.steps same c.in-Ok-advance.ensures.steps));
      gap = rw c.from.ensures (gap-goes-on c.args.bytes.now c.commands.at cmd v.sorry after.sorry read (c.in-Ok-advance.ensures.row place).1.sorry c.commands.invariant.gap);
      most = rw c.from.ensures (more-steps c.args.steps.now c.commands.steps c.advance.new.steps c.commands.at cmd.len (length u.file) c.commands.invariant.most (most-over u v c.advance.new.steps c.commands.steps same c.in-Ok-advance.ensures.most) ahead.0);
      nodes = rw c.from.ensures (one-so-far (length c.args.parts.now.store.entries) c.args.bytes.now c.commands.at (length c.commands.parts.store.entries) (length c.advance.new.parts.store.entries) cmd read c.if-cmd-eq-END.false c.advance.ensures.nodes c.commands.invariant.nodes);
    }

pub commands-preserved-in-Some : goal.commands-preserved-in-Some
commands-preserved-in-Some g c =
    let u = machine_of c.args.setting.now c.args.parts.now in
    let v = machine_of c.args.setting.now c.commands.parts in
    let same = c.commands.invariant.same in
    let on = c.commands.invariant.underway in
    let place = c.args.from + c.commands.at in
    let cmd = reference c.in-Some.place c.in-Some.len in
    let read = read-at c.args.bytes.now c.commands.at cmd c.in-Some.ensures in
    let ahead = further c.args.bytes.now c.commands.at cmd read c.commands.invariant.in_range in
    let after = machine_of c.args.setting.now c.refer.new.parts in
    record {
      in_range = ahead.1;
      running = c.in-Ok.ensures.running;
      same = goes u v after cmd same (c.in-Ok.ensures.row place c.in-Some.len).1;
      underway = (goes-on on cmd read not-end after.state c.refer.new.steps (row-over u v place v.state cmd _ same (c.in-Ok.ensures.row place c.in-Some.len).0) (steps-over u v v.state cmd c.refer.new.steps c.commands.steps same (c.in-Ok.ensures.steps c.in-Some.len)));
      gap = (gap-goes-on c.args.bytes.now c.commands.at cmd v.sorry after.sorry read (c.in-Ok.ensures.row place c.in-Some.len).1.sorry c.commands.invariant.gap);
      most = (more-steps c.args.steps.now c.commands.steps c.refer.new.steps c.commands.at cmd.len (length u.file) c.commands.invariant.most (most-over u v c.refer.new.steps c.commands.steps same c.in-Ok.ensures.most) ahead.0);
      nodes = (one-so-far (length c.args.parts.now.store.entries) c.args.bytes.now c.commands.at (length c.commands.parts.store.entries) (length c.refer.new.parts.store.entries) cmd read not-end c.refer.ensures.nodes c.commands.invariant.nodes);
    }

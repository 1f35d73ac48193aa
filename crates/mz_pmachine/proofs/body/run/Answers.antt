use Rattle.std.proofs.Common.{◌+◌, ◌∙◌, length, sym, ap, subst, arith}
use Rattle.mz_pmachine_unify.specs.Numbering.{Numbering}
use Rattle.mz_machine.specs.Tidiness.{OneACommand}
use Rattle.mz_pmachine.specs.Running.{machine_of}
use Rattle.mz_pmachine.specs.Steps.{tables_for, heading_for}
use Rattle.mz_pmachine_theory.specs.NodeIdentity.{portable}
use Rattle.mz_machine_theory.proofs.Offered.{further, more-steps, within-steps}
use Rattle.mz_machine_env.proofs.Offered.{at-first, cut-whole, long-whole, end-whole, end-refused, end-many, refused-whole, refused-many, goes-on, ends-there, goes-further}
use Rattle.mz_pmachine.proofs.BodyRunning.{itself, goes, row-over, steps-over, most-over, end-answer, end-counts, stop-answer, stop-counts}
use Rattle.mz_machine.proofs.Offered.{none-last, none-so-far, one-last, one-so-far, place-fits, whatever}
use Rattle.mz_pmachine.proofs.body.run.Goals as goal

pub commands-init : goal.commands-init
commands-init g c =
    record { in_range = omega arith; running = c.requires.running; same = itself (machine_of c.args.setting.now c.args.parts.now); underway = at-first portable (tables_for (machine_of c.args.setting.now c.args.parts.now)) (heading_for (machine_of c.args.setting.now c.args.parts.now)) c.args.from c.args.bytes.now (machine_of c.args.setting.now c.args.parts.now).state c.args.steps.now; first = omega (arith, c.requires.first); most = omega arith; nodes = none-so-far (length c.args.parts.now.nodes.entries) c.args.bytes.now }

pub returns-in_default-clause-run : goal.returns-in_default-clause-run
returns-in_default-clause-run g c =
    let on = c.commands.invariant.underway in
    (cut-whole on c.in_default.field-0 (sym c.in_default.ensures.computed)).0

pub returns-in_default-clause-steps : goal.returns-in_default-clause-steps
returns-in_default-clause-steps g c =
    let on = c.commands.invariant.underway in
    (cut-whole on c.in_default.field-0 (sym c.in_default.ensures.computed)).1

pub returns-then-next-bytes-clause-run : goal.returns-then-next-bytes-clause-run
returns-then-next-bytes-clause-run g c =
    let on = c.commands.invariant.underway in
    let cmd = c.in-Ok.cmd in
    let read = sym c.in-Ok.ensures.computed in
    let ahead = further c.args.bytes.now c.commands.at cmd read c.commands.invariant.in_range in
    let more = goes-further c.args.bytes.now c.commands.at cmd.len (λ whole. c.if-next-bytes.true (ap (λ n. c.commands.at + n) c.from.ensures ∙ sym whole)) ahead.1 in
    (long-whole on cmd read c.if-cmd-eq-END.true more).0

pub returns-then-next-bytes-clause-steps : goal.returns-then-next-bytes-clause-steps
returns-then-next-bytes-clause-steps g c =
    let on = c.commands.invariant.underway in
    let cmd = c.in-Ok.cmd in
    let read = sym c.in-Ok.ensures.computed in
    let ahead = further c.args.bytes.now c.commands.at cmd read c.commands.invariant.in_range in
    let more = goes-further c.args.bytes.now c.commands.at cmd.len (λ whole. c.if-next-bytes.true (ap (λ n. c.commands.at + n) c.from.ensures ∙ sym whole)) ahead.1 in
    (long-whole on cmd read c.if-cmd-eq-END.true more).1

pub returns-in_default-clause-most : goal.returns-in_default-clause-most
returns-in_default-clause-most g c =
    let u = machine_of c.args.setting.now c.args.parts.now in
    within-steps c.args.steps.now c.commands.steps c.commands.at (length c.args.bytes.now) (length u.file) c.commands.invariant.most c.commands.invariant.in_range

pub returns-then-next-bytes-clause-most : goal.returns-then-next-bytes-clause-most
returns-then-next-bytes-clause-most g c =
    let u = machine_of c.args.setting.now c.args.parts.now in
    within-steps c.args.steps.now c.commands.steps c.commands.at (length c.args.bytes.now) (length u.file) c.commands.invariant.most c.commands.invariant.in_range

pub overflow_add-next : goal.overflow_add-next
overflow_add-next g c =
    let cmd = c.in-Ok.cmd in
    let ahead = further c.args.bytes.now c.commands.at cmd (sym c.in-Ok.ensures.computed) c.commands.invariant.in_range in
    rw c.from.ensures (record { fits = place-fits c.args.from (c.commands.at + cmd.len) (length c.args.bytes.now) 4294967296 ahead.1 c.requires.within })

pub returns-then-cmd-eq-END-clause-run : goal.returns-then-cmd-eq-END-clause-run
returns-then-cmd-eq-END-clause-run g c =
    let u = machine_of c.args.setting.now c.args.parts.now in
    let v = machine_of c.args.setting.now c.commands.parts in
    let same = c.commands.invariant.same in
    let on = c.commands.invariant.underway in
    let place = c.args.from + c.commands.at in
    let cmd = c.in-Ok.cmd in
    let read = sym c.in-Ok.ensures.computed in
    let none = ends-there c.args.bytes.now c.commands.at cmd.len (sym c.if-next-bytes.false ∙ ap (λ n. c.commands.at + n) c.from.ensures) in
    rw c.ended.ensures
    (end-answer u v _ place c.finish.result same
    (λ last done. end-whole on cmd read last c.if-cmd-eq-END.true none done)
    (λ d done. end-refused on cmd read d c.if-cmd-eq-END.true none done) c.finish.ensures.run)

pub returns-then-cmd-eq-END-clause-steps : goal.returns-then-cmd-eq-END-clause-steps
returns-then-cmd-eq-END-clause-steps g c =
    let u = machine_of c.args.setting.now c.args.parts.now in
    let v = machine_of c.args.setting.now c.commands.parts in
    let same = c.commands.invariant.same in
    let on = c.commands.invariant.underway in
    let place = c.args.from + c.commands.at in
    let cmd = c.in-Ok.cmd in
    let read = sym c.in-Ok.ensures.computed in
    let none = ends-there c.args.bytes.now c.commands.at cmd.len (sym c.if-next-bytes.false ∙ ap (λ n. c.commands.at + n) c.from.ensures) in
    rw c.ended.ensures
    (end-counts u v place c.finish.new.steps c.commands.steps _ c.finish.result same c.finish.ensures.steps
    (λ is. end-many on cmd read c.finish.new.steps c.if-cmd-eq-END.true none is))

pub returns-then-cmd-eq-END-clause-most : goal.returns-then-cmd-eq-END-clause-most
returns-then-cmd-eq-END-clause-most g c =
    let u = machine_of c.args.setting.now c.args.parts.now in
    let v = machine_of c.args.setting.now c.commands.parts in
    let same = c.commands.invariant.same in
    let cmd = c.in-Ok.cmd in
    let read = sym c.in-Ok.ensures.computed in
    let ahead = further c.args.bytes.now c.commands.at cmd read c.commands.invariant.in_range in
    within-steps c.args.steps.now c.finish.new.steps (c.commands.at + cmd.len) (length c.args.bytes.now) (length u.file)
    (more-steps c.args.steps.now c.commands.steps c.finish.new.steps c.commands.at cmd.len (length u.file) c.commands.invariant.most (most-over u v c.finish.new.steps c.commands.steps same c.finish.ensures.most) ahead.0) ahead.1

pub returns-in-Err-clause-run : goal.returns-in-Err-clause-run
returns-in-Err-clause-run g c =
    let u = machine_of c.args.setting.now c.args.parts.now in
    let v = machine_of c.args.setting.now c.commands.parts in
    let same = c.commands.invariant.same in
    let on = c.commands.invariant.underway in
    let place = c.args.from + c.commands.at in
    let cmd = c.in-Ok.cmd in
    let read = sym c.in-Ok.ensures.computed in
    rw c.stopped.ensures
    (stop-answer u v _ place cmd (machine_of c.args.setting.now c.advance.new.parts) c.in-Err.stop same
    (λ d row. refused-whole on cmd read c.if-cmd-eq-END.false d row) c.in-Err.ensures.row)

pub returns-in-Err-clause-steps : goal.returns-in-Err-clause-steps
returns-in-Err-clause-steps g c =
    let u = machine_of c.args.setting.now c.args.parts.now in
    let v = machine_of c.args.setting.now c.commands.parts in
    let same = c.commands.invariant.same in
    let on = c.commands.invariant.underway in
    let place = c.args.from + c.commands.at in
    let cmd = c.in-Ok.cmd in
    let read = sym c.in-Ok.ensures.computed in
    rw c.stopped.ensures
    (stop-counts u v place c.advance.new.steps c.commands.steps _ cmd (machine_of c.args.setting.now c.advance.new.parts) c.in-Err.stop same c.in-Err.ensures.row c.in-Err.ensures.steps
    (λ d row many. refused-many on cmd read c.if-cmd-eq-END.false d c.advance.new.steps row many))

pub returns-in-Err-clause-most : goal.returns-in-Err-clause-most
returns-in-Err-clause-most g c =
    let u = machine_of c.args.setting.now c.args.parts.now in
    let v = machine_of c.args.setting.now c.commands.parts in
    let same = c.commands.invariant.same in
    let cmd = c.in-Ok.cmd in
    let read = sym c.in-Ok.ensures.computed in
    let ahead = further c.args.bytes.now c.commands.at cmd read c.commands.invariant.in_range in
    within-steps c.args.steps.now c.advance.new.steps (c.commands.at + cmd.len) (length c.args.bytes.now) (length u.file)
    (more-steps c.args.steps.now c.commands.steps c.advance.new.steps c.commands.at cmd.len (length u.file) c.commands.invariant.most (most-over u v c.advance.new.steps c.commands.steps same c.advance.ensures.most) ahead.0) ahead.1

-- ---- the nodes

pub returns-in_default-clause-nodes : goal.returns-in_default-clause-nodes
returns-in_default-clause-nodes g c =
    none-last (length c.args.parts.now.nodes.entries) c.args.bytes.now c.commands.at (length c.commands.parts.nodes.entries) c.commands.invariant.nodes

pub returns-then-next-bytes-clause-nodes : goal.returns-then-next-bytes-clause-nodes
returns-then-next-bytes-clause-nodes g c =
    none-last (length c.args.parts.now.nodes.entries) c.args.bytes.now c.commands.at (length c.commands.parts.nodes.entries) c.commands.invariant.nodes

pub returns-then-cmd-eq-END-clause-nodes : goal.returns-then-cmd-eq-END-clause-nodes
returns-then-cmd-eq-END-clause-nodes g c =
    let first = length c.args.parts.now.nodes.entries in
    let bytes = c.args.bytes.now in
    let made = none-last first bytes c.commands.at (length c.commands.parts.nodes.entries) c.commands.invariant.nodes in
    whatever c.ended.result (OneACommand first bytes (length c.finish.new.parts.nodes.entries))
    (subst (λ (s : Numbering). OneACommand first bytes (length s.entries)) (sym c.finish.ensures.nodes) made)

pub returns-in-Err-clause-nodes : goal.returns-in-Err-clause-nodes
returns-in-Err-clause-nodes g c =
    let first = length c.args.parts.now.nodes.entries in
    let bytes = c.args.bytes.now in
    let later = length c.advance.new.parts.nodes.entries in
    whatever c.stopped.result (OneACommand first bytes later)
    (one-last first bytes c.commands.at (length c.commands.parts.nodes.entries) later c.in-Ok.cmd (sym c.in-Ok.ensures.computed) c.if-cmd-eq-END.false c.advance.ensures.nodes c.commands.invariant.nodes)

-- ---- the loop

pub commands-smaller : goal.commands-smaller
commands-smaller g c =
    let cmd = c.in-Ok.cmd in
    let read = sym c.in-Ok.ensures.computed in
    let ahead = further c.args.bytes.now c.commands.at cmd read c.commands.invariant.in_range in
    rw c.from.ensures (omega (arith, ahead.0, ahead.1))

pub commands-preserved : goal.commands-preserved
commands-preserved g c =
    let u = machine_of c.args.setting.now c.args.parts.now in
    let v = machine_of c.args.setting.now c.commands.parts in
    let same = c.commands.invariant.same in
    let on = c.commands.invariant.underway in
    let place = c.args.from + c.commands.at in
    let cmd = c.in-Ok.cmd in
    let read = sym c.in-Ok.ensures.computed in
    let ahead = further c.args.bytes.now c.commands.at cmd read c.commands.invariant.in_range in
    let after = machine_of c.args.setting.now c.advance.new.parts in
    record {
      in_range = rw c.from.ensures ahead.1;
      running = c.in-Ok-advance.ensures.running;
      same = goes u v after place same c.in-Ok-advance.ensures.row.1;
      underway = rw c.from.ensures
          (goes-on on cmd read c.if-cmd-eq-END.false after.state c.advance.new.steps
          (row-over u v place v.state cmd _ same c.in-Ok-advance.ensures.row.0) (steps-over u v v.state cmd c.advance.new.steps c.commands.steps same c.in-Ok-advance.ensures.steps));
      first = rw c.from.ensures (omega (arith, ahead.0, c.in-Ok-advance.ensures.row.1.next));
      most = rw c.from.ensures (more-steps c.args.steps.now c.commands.steps c.advance.new.steps c.commands.at cmd.len (length u.file) c.commands.invariant.most (most-over u v c.advance.new.steps c.commands.steps same c.in-Ok-advance.ensures.most) ahead.0);
      nodes = rw c.from.ensures (one-so-far (length c.args.parts.now.nodes.entries) c.args.bytes.now c.commands.at (length c.commands.parts.nodes.entries) (length c.advance.new.parts.nodes.entries) cmd read c.if-cmd-eq-END.false c.advance.ensures.nodes c.commands.invariant.nodes);
    }

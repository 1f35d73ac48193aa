use Rattle.std.proofs.Common.{◌∙◌, ◌+◌, ◌++◌, ◌≤◌, length, drop, refl, sym, ap, subst, arith}
use Rattle.mz_machine_theory.specs.Streams.{IsEnd}
use Rattle.mz_unify.specs.Stored.{mode_of, trees_at, items_at}
use Rattle.mz_unify.specs.Rows.{command_of, TellsFor, all_targets, state_at}
use Rattle.mz_unify.proofs.Underway.{not-end, dummy-stands, left-none, left-both, stopped-not-done, taken-there, taken-exactly, taken-fits, counted-within, counted-once, cut-whole, cut-many, other-whole, other-many, stopped-whole, stopped-many, ended-whole, ended-many, goes-on}
use Rattle.mz_machine_theory.proofs.Offered.{command-long, further}
use Rattle.mz_unify.proofs.running.run.Goals as goal

pub commands-init : goal.commands-init
commands-init g c = record {
  in_range = omega arith;
  heap = c.requires.heap;
  targets = c.requires.targets;
  hyps = c.requires.hyps;
  ticked = omega arith;
  held = c.len-held.ensures ∙ c.args.hyps.now.ok.0;
  left = (0, omega arith, left-none c.args.hyps.now.items);
  underway = λ sigs over. record { left = (trees_at c.args.store.now c.args.operands.now, c.requires.apart, refl, refl) };
}

pub returns-in_default-cmd_at-clause-run : goal.returns-in_default-cmd_at-clause-run
returns-in_default-cmd_at-clause-run g c sigs over = rw c.stopped.ensures (cut-whole (c.commands.invariant.underway sigs over) c.in_default-cmd_at.field-0 (sym c.in_default-cmd_at.ensures.computed))

pub returns-in_default-cmd_at-clause-steps : goal.returns-in_default-cmd_at-clause-steps
returns-in_default-cmd_at-clause-steps g c sigs over = rw c.stopped.ensures (cut-many (c.commands.invariant.underway sigs over) c.in_default-cmd_at.field-0 (sym c.in_default-cmd_at.ensures.computed))

pub returns-in_default-clause-run : goal.returns-in_default-clause-run
returns-in_default-clause-run g c sigs over = rw c.stopped-in_default.ensures (other-whole (c.commands.invariant.underway sigs over) c.in-Ok.other (sym c.in-Ok.ensures.computed) (c.in_default.ensures.none c.in-Ok.other (sym c.in-Ok.ensures.computed)))

pub returns-in_default-clause-steps : goal.returns-in_default-clause-steps
returns-in_default-clause-steps g c sigs over = rw c.stopped-in_default.ensures (c.tick.ensures ∙ other-many (c.commands.invariant.underway sigs over) c.in-Ok.other (sym c.in-Ok.ensures.computed) (c.in_default.ensures.none c.in-Ok.other (sym c.in-Ok.ensures.computed)))

pub returns-in-Err-clause-run : goal.returns-in-Err-clause-run
returns-in-Err-clause-run g c sigs over =
    let (code, value, read, here) = c.in-Some.ensures.some in
    rw c.stopped-in-Err.ensures (stopped-whole (c.commands.invariant.underway sigs over) (record { code = code; value = value; len = c.in-Some.len }) read (command_of c.in-Some.next) here c.in-Err.stop _ (λ es told. c.in-Err.ensures.row sigs es over told))

pub returns-in-Err-clause-steps : goal.returns-in-Err-clause-steps
returns-in-Err-clause-steps g c sigs over =
    let (code, value, read, here) = c.in-Some.ensures.some in
    rw (c.stopped-in-Err.ensures, c.tick-in-commands.ensures) (stopped-many (c.commands.invariant.underway sigs over) (record { code = code; value = value; len = c.in-Some.len }) read (command_of c.in-Some.next) here c.in-Err.stop _ (λ es told. c.in-Err.ensures.row sigs es over told))

pub returns-in-End-clause-run : goal.returns-in-End-clause-run
returns-in-End-clause-run g c sigs over =
    let (code, value, read, here) = c.in-Some.ensures.some in
    ended-whole (c.commands.invariant.underway sigs over) (record { code = code; value = value; len = c.in-Some.len }) read (command_of c.in-Some.next) here (λ fs. TellsFor (mode_of c.args.mode) c.args.store.now.context c.step.new.apart fs) (λ fs. state_at c.args.store.now (c.args.operands.now ++ c.step.new.saved.items) fs (all_targets c.in-Ok-step.rest.now c.step.new.targets.items) c.step.new.hyps.items) (trees_at c.args.store.now (c.args.operands.now ++ c.step.new.saved.items)) (items_at c.args.store.now c.step.new.hyps.items) (λ _. (refl, refl)) (subst IsEnd (ap command_of (sym c.in-End.is)) tt) (λ es told. c.in-Ok-step.ensures.row sigs es over told)

pub returns-in-End-clause-steps : goal.returns-in-End-clause-steps
returns-in-End-clause-steps g c sigs over =
    let (code, value, read, here) = c.in-Some.ensures.some in
    c.tick-in-commands.ensures ∙ ended-many (c.commands.invariant.underway sigs over) (record { code = code; value = value; len = c.in-Some.len }) read (command_of c.in-Some.next) here (λ fs. TellsFor (mode_of c.args.mode) c.args.store.now.context c.step.new.apart fs) (λ fs. state_at c.args.store.now (c.args.operands.now ++ c.step.new.saved.items) fs (all_targets c.in-Ok-step.rest.now c.step.new.targets.items) c.step.new.hyps.items) (subst IsEnd (ap command_of (sym c.in-End.is)) tt) (λ es told. c.in-Ok-step.ensures.row sigs es over told)

pub overflow_add-at : goal.overflow_add-at
overflow_add-at g c =
    let (code, value, read, here) = c.in-Some.ensures.some in
    let on = further c.args.stream.now c.commands.at (record { code = code; value = value; len = c.in-Some.len }) read c.commands.invariant.in_range in
    let within : c.commands.at + c.in-Some.len ≤ length c.args.stream.now = on.1 in
    (omega (arith, c.requires.stream))

pub commands-smaller : goal.commands-smaller
commands-smaller g c =
    let (code, value, read, here) = c.in-Some.ensures.some in
    let on = further c.args.stream.now c.commands.at (record { code = code; value = value; len = c.in-Some.len }) read c.commands.invariant.in_range in
    omega (arith, on.0, on.1)

pub commands-preserved : goal.commands-preserved
commands-preserved g c =
    let (code, value, read, here) = c.in-Some.ensures.some in
    let on = further c.args.stream.now c.commands.at (record { code = code; value = value; len = c.in-Some.len }) read c.commands.invariant.in_range in
    let start = state_at c.args.store.now (c.args.operands.now ++ c.args.saved.now.items) (trees_at c.args.store.now c.args.operands.now) (all_targets c.args.front.now c.args.targets.now.items) c.args.hyps.now.items in
    let before = c.commands.invariant.left in
    let after = c.in-Ok-step.ensures.left in
    record {
      in_range = on.1;
      heap = c.in-Ok-step.ensures.ids.0;
      targets = c.in-Ok-step.ensures.ids.1;
      hyps = c.in-Ok-step.ensures.ids.2;
      ticked = rw (c.tick-in-commands.ensures) (omega (arith, (command-long (drop c.commands.at c.args.stream.now) (record { code = code; value = value; len = c.in-Some.len }) read).0, c.commands.invariant.ticked));
      held = c.commands.invariant.held;
      left = (before.0 + after.0, (omega arith), left-both c.args.hyps.now.items c.commands.hyps.items c.step.new.hyps.items before.0 after.0 before.2 after.2);
      underway = λ sigs over. rw (c.tick-in-commands.ensures) (goes-on {start = start} (c.commands.invariant.underway sigs over) (record { code = code; value = value; len = c.in-Some.len }) read (command_of c.in-Some.next) here (λ fs. TellsFor (mode_of c.args.mode) c.args.store.now.context c.step.new.apart fs) (λ fs. state_at c.args.store.now (c.args.operands.now ++ c.step.new.saved.items) fs (all_targets c.in-Ok-step.rest.now c.step.new.targets.items) c.step.new.hyps.items) (not-end c.in-Some.next c.in_default-next.not-End) (λ es told. c.in-Ok-step.ensures.row sigs es over told));
    }

pub step-requires-clause-stands : goal.step-requires-clause-stands
step-requires-clause-stands g c sort same =
    let (code, value, read, here) = c.in-Some.ensures.some in
    dummy-stands (mode_of c.args.mode) code value sort c.in-Some.next here same

-- ---- what is said of running out of memory and refusals is nothing

pub returns-in_default-cmd_at-clause-taken : goal.returns-in_default-cmd_at-clause-taken
returns-in_default-cmd_at-clause-taken g c = rw c.stopped.ensures tt

pub returns-in_default-cmd_at-clause-ids : goal.returns-in_default-cmd_at-clause-ids
returns-in_default-cmd_at-clause-ids g c = rw c.stopped.ensures tt

pub returns-in_default-clause-taken : goal.returns-in_default-clause-taken
returns-in_default-clause-taken g c = rw c.stopped-in_default.ensures tt

pub returns-in_default-clause-ids : goal.returns-in_default-clause-ids
returns-in_default-clause-ids g c = rw c.stopped-in_default.ensures tt

pub returns-in-Err-clause-taken : goal.returns-in-Err-clause-taken
returns-in-Err-clause-taken g c = rw c.stopped-in-Err.ensures (stopped-not-done _ c.in-Err.stop _)

pub returns-in-Err-clause-ids : goal.returns-in-Err-clause-ids
returns-in-Err-clause-ids g c = rw c.stopped-in-Err.ensures (stopped-not-done _ c.in-Err.stop _)

-- ---- the count

pub returns-in_default-cmd_at-clause-most : goal.returns-in_default-cmd_at-clause-most
returns-in_default-cmd_at-clause-most g c =
    counted-within c.args.steps.now c.commands.steps c.commands.at (length c.args.stream.now) c.commands.invariant.ticked c.commands.invariant.in_range

pub returns-in_default-clause-most : goal.returns-in_default-clause-most
returns-in_default-clause-most g c =
    let on = further c.args.stream.now c.commands.at c.in-Ok.other (sym c.in-Ok.ensures.computed) c.commands.invariant.in_range in
    let long = command-long (drop c.commands.at c.args.stream.now) c.in-Ok.other (sym c.in-Ok.ensures.computed) in
    counted-once c.args.steps.now c.commands.steps c.tick.new.self c.commands.at c.in-Ok.other.len (length c.args.stream.now) c.tick.ensures c.commands.invariant.ticked long.0 on.1

pub returns-in-Err-clause-most : goal.returns-in-Err-clause-most
returns-in-Err-clause-most g c =
    let (code, value, read, here) = c.in-Some.ensures.some in
    let on = further c.args.stream.now c.commands.at (record { code = code; value = value; len = c.in-Some.len }) read c.commands.invariant.in_range in
    let long = command-long (drop c.commands.at c.args.stream.now) (record { code = code; value = value; len = c.in-Some.len }) read in
    counted-once c.args.steps.now c.commands.steps c.tick-in-commands.new.self c.commands.at c.in-Some.len (length c.args.stream.now) c.tick-in-commands.ensures c.commands.invariant.ticked long.0 on.1

pub returns-in-End-clause-most : goal.returns-in-End-clause-most
returns-in-End-clause-most g c =
    let (code, value, read, here) = c.in-Some.ensures.some in
    let on = further c.args.stream.now c.commands.at (record { code = code; value = value; len = c.in-Some.len }) read c.commands.invariant.in_range in
    let long = command-long (drop c.commands.at c.args.stream.now) (record { code = code; value = value; len = c.in-Some.len }) read in
    counted-once c.args.steps.now c.commands.steps c.tick-in-commands.new.self c.commands.at c.in-Some.len (length c.args.stream.now) c.tick-in-commands.ensures c.commands.invariant.ticked long.0 on.1

-- ---- the end

pub returns-in-End-clause-ids : goal.returns-in-End-clause-ids
returns-in-End-clause-ids g c = (c.in-Ok-step.ensures.ids.0, c.in-Ok-step.ensures.ids.2)

pub overflow_sub-taken : goal.overflow_sub-taken
overflow_sub-taken g c =
    taken-there c.args.hyps.now.items c.commands.hyps.items c.step.new.hyps.items c.commands.at c.len-held.result c.len.result c.commands.invariant.left c.in-Ok-step.ensures.left
    c.commands.invariant.held (c.len.ensures ∙ c.step.new.hyps.ok.0)

pub overflow_cast-taken : goal.overflow_cast-taken
overflow_cast-taken g c =
    let (code, value, read, here) = c.in-Some.ensures.some in
    let on = further c.args.stream.now c.commands.at (record { code = code; value = value; len = c.in-Some.len }) read c.commands.invariant.in_range in
    let long = command-long (drop c.commands.at c.args.stream.now) (record { code = code; value = value; len = c.in-Some.len }) read in
    record {
      fits = taken-fits c.args.hyps.now.items c.commands.hyps.items c.step.new.hyps.items c.commands.at c.len-held.result c.len.result c.commands.invariant.left c.in-Ok-step.ensures.left
          c.commands.invariant.held (c.len.ensures ∙ c.step.new.hyps.ok.0)
          c.in-Some.len (length c.args.stream.now) 4294967296 long.0 on.1 c.requires.stream;
    }

pub returns-in-End-clause-taken : goal.returns-in-End-clause-taken
returns-in-End-clause-taken g c =
    taken-exactly c.args.hyps.now.items c.commands.hyps.items c.step.new.hyps.items c.commands.at c.len-held.result c.len.result c.commands.invariant.left c.in-Ok-step.ensures.left
    c.commands.invariant.held (c.len.ensures ∙ c.step.new.hyps.ok.0)

use Rattle.std.proofs.Common.{◌≡◌, ◌≤◌, List, Ok, Err, length, sym, subst, arith}
use Rattle.mz_base.specs.Gaps.{gaps_of}
use Rattle.mz_machine_theory.specs.Profile.{plain}
use Rattle.mz_unify.specs.Stored.{items_at}
use Rattle.mz_machine_theory.specs.Bodies.{body_command}
use Rattle.mz_machine_env.specs.Before.{signatures_of, tables_of}
use Rattle.mz_machine_env.specs.OwnRow.{kind_of}
use Rattle.mz_machine.specs.OverStore.{state_at}
use Rattle.mz_machine.specs.OpenEquations.{stored, AllOpen, IsLack, IsNoLack}
use Rattle.mz_machine.specs.declared.equations.Equation.{Equation}
use Rattle.mz_machine.proofs.LackRows.{lack-gives, no-lack-asks, open-each}
use Rattle.mz_machine.proofs.Citing.{items-many}
use Rattle.mz_machine.proofs.Proceeding.{AsksWithin, as-counted, now-stand, resumed, sides-in, still-stopped}
use Rattle.mz_machine.proofs.Unfoldings.{unless-mem}
use Rattle.mz_machine.proofs.machine.proceed.Goals as goal

-- ---- it asks for more than is written out

pub returns-in-Some-clause-done : goal.returns-in-Some-clause-done
returns-in-Some-clause-done g c at =
    let E = c.args.env.now in
    let s = c.args.store.now in
    let heap = c.args.heap.now.items in
    let stack = c.args.stack.now.items in
    let hyps = c.args.hyps.now.items in
    let es = c.args.equations.now.items in
    let gaps = gaps_of c.args.mode in
    let kind = kind_of c.args.kind in
    let xs = items_at s stack in
    let st = state_at s heap stack hyps in
    let many : length xs ≡ c.len.result = omega (arith, c.len.ensures, c.args.stack.now.ok.0, items-many s stack) in
    let lack = lack-gives gaps (tables_of E) st kind c.args.cmd (stored s) es xs c.len.result many c.requires.settled c.in-Some.rule (subst (λ (fs : List Equation). IsLack (tables_of E) kind c.args.cmd (stored s) c.len.result fs c.in-Some.rule) c.deref.ensures.value c.in-Some.ensures.some) in
    (lack at).0

pub returns-in-Some-clause-steps : goal.returns-in-Some-clause-steps
returns-in-Some-clause-steps g c =
    let E = c.args.env.now in
    let s = c.args.store.now in
    let heap = c.args.heap.now.items in
    let stack = c.args.stack.now.items in
    let hyps = c.args.hyps.now.items in
    let es = c.args.equations.now.items in
    let gaps = gaps_of c.args.mode in
    let kind = kind_of c.args.kind in
    let xs = items_at s stack in
    let st = state_at s heap stack hyps in
    let many : length xs ≡ c.len.result = omega (arith, c.len.ensures, c.args.stack.now.ok.0, items-many s stack) in
    let lack = lack-gives gaps (tables_of E) st kind c.args.cmd (stored s) es xs c.len.result many c.requires.settled c.in-Some.rule (subst (λ (fs : List Equation). IsLack (tables_of E) kind c.args.cmd (stored s) c.len.result fs c.in-Some.rule) c.deref.ensures.value c.in-Some.ensures.some) in
    (omega (arith, c.tick.ensures, (lack 0).1), omega (arith, c.tick.ensures))

-- ---- a command stops

pub returns-in-Err-clause-done : goal.returns-in-Err-clause-done
returns-in-Err-clause-done g c =
    let E = c.args.env.now in
    let s = c.args.store.now in
    let heap = c.args.heap.now.items in
    let stack = c.args.stack.now.items in
    let hyps = c.args.hyps.now.items in
    let es = c.args.equations.now.items in
    let gaps = gaps_of c.args.mode in
    let kind = kind_of c.args.kind in
    let xs = items_at s stack in
    let st = state_at s heap stack hyps in
    let many : length xs ≡ c.len.result = omega (arith, c.len.ensures, c.args.stack.now.ok.0, items-many s stack) in
    let u = body_command (plain gaps) kind c.args.cmd.code c.args.cmd.value in
    let asks : AsksWithin gaps (tables_of E) s heap stack hyps es u =
    no-lack-asks gaps (tables_of E) st kind c.args.cmd (stored s) es xs c.len.result many (subst (λ (fs : List Equation). IsNoLack (tables_of E) kind c.args.cmd c.len.result fs) c.deref.ensures.value c.in_default.ensures.none) in
    still-stopped gaps (tables_of E) s heap stack hyps es u c.requires.settled asks c.in-Err.stop c.in-Err.ensures.done

pub returns-in-Err-clause-steps : goal.returns-in-Err-clause-steps
returns-in-Err-clause-steps g c =
    let E = c.args.env.now in
    let s = c.args.store.now in
    let heap = c.args.heap.now.items in
    let stack = c.args.stack.now.items in
    let hyps = c.args.hyps.now.items in
    let es = c.args.equations.now.items in
    let gaps = gaps_of c.args.mode in
    let kind = kind_of c.args.kind in
    let xs = items_at s stack in
    let st = state_at s heap stack hyps in
    let many : length xs ≡ c.len.result = omega (arith, c.len.ensures, c.args.stack.now.ok.0, items-many s stack) in
    let u = body_command (plain gaps) kind c.args.cmd.code c.args.cmd.value in
    let asks : AsksWithin gaps (tables_of E) s heap stack hyps es u =
    no-lack-asks gaps (tables_of E) st kind c.args.cmd (stored s) es xs c.len.result many (subst (λ (fs : List Equation). IsNoLack (tables_of E) kind c.args.cmd c.len.result fs) c.deref.ensures.value c.in_default.ensures.none) in
    (as-counted gaps (tables_of E) s heap stack hyps es u c.requires.settled asks (Unit {0}) (Err c.in-Err.stop) c.args.steps.now c.obey.new.steps c.in-Err.ensures.steps.0, c.in-Err.ensures.steps.1)

-- ---- it goes through

pub returns-in-Ok-clause-done : goal.returns-in-Ok-clause-done
returns-in-Ok-clause-done g c =
    let E = c.args.env.now in
    let s = c.args.store.now in
    let heap = c.args.heap.now.items in
    let stack = c.args.stack.now.items in
    let hyps = c.args.hyps.now.items in
    let es = c.args.equations.now.items in
    let gaps = gaps_of c.args.mode in
    let kind = kind_of c.args.kind in
    let xs = items_at s stack in
    let st = state_at s heap stack hyps in
    let many : length xs ≡ c.len.result = omega (arith, c.len.ensures, c.args.stack.now.ok.0, items-many s stack) in
    let u = body_command (plain gaps) kind c.args.cmd.code c.args.cmd.value in
    let asks : AsksWithin gaps (tables_of E) s heap stack hyps es u =
    no-lack-asks gaps (tables_of E) st kind c.args.cmd (stored s) es xs c.len.result many (subst (λ (fs : List Equation). IsNoLack (tables_of E) kind c.args.cmd c.len.result fs) c.deref.ensures.value c.in_default.ensures.none) in
    let scratch = c.args.stack.now.cap in
    let few : length xs ≤ scratch = omega (arith, items-many s stack, c.args.stack.now.ok.0, c.args.stack.now.ok.1) in
    resumed gaps (tables_of E) s heap stack hyps es u c.requires.settled asks (signatures_of E) c.obey.new.store c.obey.new.heap.items c.obey.new.stack.items c.obey.new.hyps.items scratch c.obey.new.stack.cap c.in-Ok.opened c.in-Ok.ensures.done
    c.requires.ready.stack_in c.resume.result c.resume.new.equations.items c.resume.new.stack.items few c.resume.ensures

pub returns-in-Ok-clause-steps : goal.returns-in-Ok-clause-steps
returns-in-Ok-clause-steps g c =
    let E = c.args.env.now in
    let s = c.args.store.now in
    let heap = c.args.heap.now.items in
    let stack = c.args.stack.now.items in
    let hyps = c.args.hyps.now.items in
    let es = c.args.equations.now.items in
    let gaps = gaps_of c.args.mode in
    let kind = kind_of c.args.kind in
    let xs = items_at s stack in
    let st = state_at s heap stack hyps in
    let many : length xs ≡ c.len.result = omega (arith, c.len.ensures, c.args.stack.now.ok.0, items-many s stack) in
    let u = body_command (plain gaps) kind c.args.cmd.code c.args.cmd.value in
    let asks : AsksWithin gaps (tables_of E) s heap stack hyps es u =
    no-lack-asks gaps (tables_of E) st kind c.args.cmd (stored s) es xs c.len.result many (subst (λ (fs : List Equation). IsNoLack (tables_of E) kind c.args.cmd c.len.result fs) c.deref.ensures.value c.in_default.ensures.none) in
    (unless-mem c.resume.result (as-counted gaps (tables_of E) s heap stack hyps es u c.requires.settled asks (Unit {0}) (Ok tt) c.args.steps.now c.obey.new.steps c.in-Ok.ensures.steps.0), c.in-Ok.ensures.steps.1)

-- ---- what the calls ask

pub lack-requires-clause-standing : goal.lack-requires-clause-standing
lack-requires-clause-standing g c =
    let s = c.args.store.now in
    subst (AllOpen (stored s)) (sym c.deref.ensures.value) (open-each (stored s) c.args.equations.now.items (items_at s c.args.stack.now.items) c.requires.settled.0)

pub obey-requires-clause-ready : goal.obey-requires-clause-ready
obey-requires-clause-ready g c = c.requires.ready

pub obey-requires-clause-hyps : goal.obey-requires-clause-hyps
obey-requires-clause-hyps g c = c.requires.hyps

pub resume-requires-clause-sides : goal.resume-requires-clause-sides
resume-requires-clause-sides g c = sides-in c.obey.new.store c.in-Ok.opened c.args.stack.now.items c.obey.new.stack.items c.in-Ok.ensures.done.opens

pub resume-requires-clause-stack : goal.resume-requires-clause-stack
resume-requires-clause-stack g c = c.in-Ok.ensures.done.stack_in

pub resume-requires-clause-standing : goal.resume-requires-clause-standing
resume-requires-clause-standing g c =
    let E = c.args.env.now in
    let s = c.args.store.now in
    let heap = c.args.heap.now.items in
    let stack = c.args.stack.now.items in
    let hyps = c.args.hyps.now.items in
    let es = c.args.equations.now.items in
    let gaps = gaps_of c.args.mode in
    let kind = kind_of c.args.kind in
    let xs = items_at s stack in
    let st = state_at s heap stack hyps in
    let many : length xs ≡ c.len.result = omega (arith, c.len.ensures, c.args.stack.now.ok.0, items-many s stack) in
    let u = body_command (plain gaps) kind c.args.cmd.code c.args.cmd.value in
    let asks : AsksWithin gaps (tables_of E) s heap stack hyps es u =
    no-lack-asks gaps (tables_of E) st kind c.args.cmd (stored s) es xs c.len.result many (subst (λ (fs : List Equation). IsNoLack (tables_of E) kind c.args.cmd c.len.result fs) c.deref.ensures.value c.in_default.ensures.none) in
    now-stand gaps (tables_of E) s heap stack hyps es u c.requires.settled asks (signatures_of E) c.obey.new.store c.obey.new.heap.items c.obey.new.stack.items c.obey.new.hyps.items c.args.stack.now.cap c.obey.new.stack.cap c.in-Ok.opened c.in-Ok.ensures.done
    c.requires.ready.stack_in

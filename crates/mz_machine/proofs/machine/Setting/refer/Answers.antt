use Rattle.std.proofs.Common.{Result, Ok, Err, arith}
use Rattle.mz_base.specs.Gaps.{gaps_of}
use Rattle.mz_machine_theory.specs.Profile.{plain}
use Rattle.mz_unify.specs.declared.stop.Stop.{Stop}
use Rattle.mz_machine_theory.specs.Bodies.{body_command}
use Rattle.mz_machine_env.specs.Before.{signatures_of, tables_of}
use Rattle.mz_machine_env.specs.OwnRow.{kind_of}
use Rattle.mz_machine.specs.Running.{machine_of}
use Rattle.mz_machine.specs.Stepping.{reference}
use Rattle.mz_machine.specs.declared.machine.Parts.{Parts}
use Rattle.mz_machine.proofs.Advancing.{keeps, stepped, counted}
use Rattle.mz_machine.proofs.Citing.{items-many}
use Rattle.mz_machine.proofs.Executed.{one-step, quiet}
use Rattle.mz_machine.proofs.Proceeding.{now-stand, resumed, sides-in, still-stopped}
use Rattle.mz_machine.proofs.Referring.{asks, counts-one, refers, still}
use Rattle.mz_machine.proofs.machine.Setting.refer.Goals as goal

pub returns-in-Ok-clause-running : goal.returns-in-Ok-clause-running
returns-in-Ok-clause-running g c =
    let t = c.args.self.now in
    let p = c.args.parts.now in
    let hyps = p.hyps.items in
    let es = p.equations.items in
    let wanted = asks (gaps_of t.mode) (tables_of t.env) (kind_of t.kind) c.args.place p.store p.heap.items p.stack.items hyps es in
    let done = refers t p c.args.place c.keep.new.store c.keep.new.heap.items c.keep.new.stack.items c.keep.new.hyps.items c.keep.new.stack.cap c.keep.result c.opens_none.result (Ok c.in-Ok.opened) c.opens_none.ensures c.in-Ok.is c.keep.ensures.done in
    let after : Parts = record { store = c.keep.new.store; heap = c.keep.new.heap; stack = c.resume.new.stack; equations = c.resume.new.equations; hyps = c.keep.new.hyps; sorry = p.sorry; spare = p.spare } in
    let moved = resumed (gaps_of t.mode) (tables_of t.env) p.store p.heap.items p.stack.items hyps es (body_command (plain (gaps_of t.mode)) (kind_of t.kind) 0x12 c.args.place) c.requires.2 wanted (signatures_of t.env) c.keep.new.store c.keep.new.heap.items c.keep.new.stack.items c.keep.new.hyps.items p.stack.cap c.keep.new.stack.cap c.in-Ok.opened done c.requires.0.stack_in c.resume.result c.resume.new.equations.items c.resume.new.stack.items (omega (arith, items-many p.store p.stack.items, p.stack.ok.0, p.stack.ok.1)) c.resume.ensures in
    keeps t p after (reference c.args.place 0) c.resume.result c.requires moved

pub returns-in-Ok-clause-row : goal.returns-in-Ok-clause-row
returns-in-Ok-clause-row g c at len =
    let t = c.args.self.now in
    let p = c.args.parts.now in
    let hyps = p.hyps.items in
    let es = p.equations.items in
    let wanted = asks (gaps_of t.mode) (tables_of t.env) (kind_of t.kind) c.args.place p.store p.heap.items p.stack.items hyps es in
    let done = refers t p c.args.place c.keep.new.store c.keep.new.heap.items c.keep.new.stack.items c.keep.new.hyps.items c.keep.new.stack.cap c.keep.result c.opens_none.result (Ok c.in-Ok.opened) c.opens_none.ensures c.in-Ok.is c.keep.ensures.done in
    let after : Parts = record { store = c.keep.new.store; heap = c.keep.new.heap; stack = c.resume.new.stack; equations = c.resume.new.equations; hyps = c.keep.new.hyps; sorry = p.sorry; spare = p.spare } in
    let moved = resumed (gaps_of t.mode) (tables_of t.env) p.store p.heap.items p.stack.items hyps es (body_command (plain (gaps_of t.mode)) (kind_of t.kind) 0x12 c.args.place) c.requires.2 wanted (signatures_of t.env) c.keep.new.store c.keep.new.heap.items c.keep.new.stack.items c.keep.new.hyps.items p.stack.cap c.keep.new.stack.cap c.in-Ok.opened done c.requires.0.stack_in c.resume.result c.resume.new.equations.items c.resume.new.stack.items (omega (arith, items-many p.store p.stack.items, p.stack.ok.0, p.stack.ok.1)) c.resume.ensures in
    stepped t p after (reference c.args.place len) at c.resume.result moved (still p.sorry)

pub returns-in-Ok-clause-steps : goal.returns-in-Ok-clause-steps
returns-in-Ok-clause-steps g c len =
    let t = c.args.self.now in
    let p = c.args.parts.now in
    counted t p p (reference c.args.place len) c.resume.result c.args.steps.now c.tick.new.self
    (one-step c.resume.result c.args.steps.now c.tick.new.self c.tick.new.self 0 _ 0 c.tick.ensures (counts-one (gaps_of t.mode) (tables_of t.env) (kind_of t.kind) c.args.place (machine_of t p).state) (quiet c.resume.result c.tick.new.self 0)).0

pub returns-in-Ok-clause-most : goal.returns-in-Ok-clause-most
returns-in-Ok-clause-most g c = omega (arith, c.tick.ensures)

pub returns-in-Err-clause-running : goal.returns-in-Err-clause-running
returns-in-Err-clause-running g c =
    let t = c.args.self.now in
    let p = c.args.parts.now in
    let hyps = p.hyps.items in
    let es = p.equations.items in
    let wanted = asks (gaps_of t.mode) (tables_of t.env) (kind_of t.kind) c.args.place p.store p.heap.items p.stack.items hyps es in
    let done = refers t p c.args.place c.keep.new.store c.keep.new.heap.items c.keep.new.stack.items c.keep.new.hyps.items c.keep.new.stack.cap c.keep.result c.opens_none.result (Err c.in-Err.stop) c.opens_none.ensures c.in-Err.is c.keep.ensures.done in
    let after : Parts = record { store = c.keep.new.store; heap = c.keep.new.heap; stack = c.keep.new.stack; equations = p.equations; hyps = c.keep.new.hyps; sorry = p.sorry; spare = p.spare } in
    let result : Result (Unit {0}) Stop = Err c.in-Err.stop in
    let moved = still-stopped (gaps_of t.mode) (tables_of t.env) p.store p.heap.items p.stack.items hyps es (body_command (plain (gaps_of t.mode)) (kind_of t.kind) 0x12 c.args.place) c.requires.2 wanted c.in-Err.stop done in
    keeps t p after (reference c.args.place 0) result c.requires moved

pub returns-in-Err-clause-row : goal.returns-in-Err-clause-row
returns-in-Err-clause-row g c at len =
    let t = c.args.self.now in
    let p = c.args.parts.now in
    let hyps = p.hyps.items in
    let es = p.equations.items in
    let wanted = asks (gaps_of t.mode) (tables_of t.env) (kind_of t.kind) c.args.place p.store p.heap.items p.stack.items hyps es in
    let done = refers t p c.args.place c.keep.new.store c.keep.new.heap.items c.keep.new.stack.items c.keep.new.hyps.items c.keep.new.stack.cap c.keep.result c.opens_none.result (Err c.in-Err.stop) c.opens_none.ensures c.in-Err.is c.keep.ensures.done in
    let after : Parts = record { store = c.keep.new.store; heap = c.keep.new.heap; stack = c.keep.new.stack; equations = p.equations; hyps = c.keep.new.hyps; sorry = p.sorry; spare = p.spare } in
    let result : Result (Unit {0}) Stop = Err c.in-Err.stop in
    let moved = still-stopped (gaps_of t.mode) (tables_of t.env) p.store p.heap.items p.stack.items hyps es (body_command (plain (gaps_of t.mode)) (kind_of t.kind) 0x12 c.args.place) c.requires.2 wanted c.in-Err.stop done in
    stepped t p after (reference c.args.place len) at result moved (still p.sorry)

pub returns-in-Err-clause-steps : goal.returns-in-Err-clause-steps
returns-in-Err-clause-steps g c len =
    let t = c.args.self.now in
    let p = c.args.parts.now in
    let result : Result (Unit {0}) Stop = Err c.in-Err.stop in
    counted t p p (reference c.args.place len) result c.args.steps.now c.tick.new.self
    (one-step result c.args.steps.now c.tick.new.self c.tick.new.self 0 _ 0 c.tick.ensures (counts-one (gaps_of t.mode) (tables_of t.env) (kind_of t.kind) c.args.place (machine_of t p).state) (quiet result c.tick.new.self 0)).0

pub returns-in-Err-clause-most : goal.returns-in-Err-clause-most
returns-in-Err-clause-most g c = omega (arith, c.tick.ensures)

-- ---- what the calls ask

pub keep-requires-clause-ready : goal.keep-requires-clause-ready
keep-requires-clause-ready g c = record { over = c.requires.0.over; heap_in = c.requires.0.heap_in; stack_in = c.requires.0.stack_in }

pub keep-requires-clause-hyps : goal.keep-requires-clause-hyps
keep-requires-clause-hyps g c = (c.requires.0.hyps_in, c.requires.0.few_hyps)

pub resume-requires-clause-sides : goal.resume-requires-clause-sides
resume-requires-clause-sides g c =
    let t = c.args.self.now in
    let p = c.args.parts.now in
    let done = refers t p c.args.place c.keep.new.store c.keep.new.heap.items c.keep.new.stack.items c.keep.new.hyps.items c.keep.new.stack.cap c.keep.result c.opens_none.result (Ok c.in-Ok.opened) c.opens_none.ensures c.in-Ok.is c.keep.ensures.done in
    sides-in c.keep.new.store c.in-Ok.opened p.stack.items c.keep.new.stack.items done.opens

pub resume-requires-clause-stack : goal.resume-requires-clause-stack
resume-requires-clause-stack g c =
    let t = c.args.self.now in
    let p = c.args.parts.now in
    let done = refers t p c.args.place c.keep.new.store c.keep.new.heap.items c.keep.new.stack.items c.keep.new.hyps.items c.keep.new.stack.cap c.keep.result c.opens_none.result (Ok c.in-Ok.opened) c.opens_none.ensures c.in-Ok.is c.keep.ensures.done in
    done.stack_in

pub resume-requires-clause-standing : goal.resume-requires-clause-standing
resume-requires-clause-standing g c =
    let t = c.args.self.now in
    let p = c.args.parts.now in
    let hyps = p.hyps.items in
    let es = p.equations.items in
    let wanted = asks (gaps_of t.mode) (tables_of t.env) (kind_of t.kind) c.args.place p.store p.heap.items p.stack.items hyps es in
    let done = refers t p c.args.place c.keep.new.store c.keep.new.heap.items c.keep.new.stack.items c.keep.new.hyps.items c.keep.new.stack.cap c.keep.result c.opens_none.result (Ok c.in-Ok.opened) c.opens_none.ensures c.in-Ok.is c.keep.ensures.done in
    now-stand (gaps_of t.mode) (tables_of t.env) p.store p.heap.items p.stack.items hyps es (body_command (plain (gaps_of t.mode)) (kind_of t.kind) 0x12 c.args.place) c.requires.2 wanted (signatures_of t.env) c.keep.new.store c.keep.new.heap.items c.keep.new.stack.items c.keep.new.hyps.items p.stack.cap c.keep.new.stack.cap c.in-Ok.opened done c.requires.0.stack_in

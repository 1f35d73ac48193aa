use Rattle.std.proofs.Common.{◌≡◌, ◌∙◌, List, Some, None, Ok, Err, length, sym, ap, subst, arith, suc}
use Rattle.std.proofs.lemmas.Result.{on_ok_weaker}
use Rattle.mz_cmd.specs.declared.rule.K.{K}
use Rattle.mz_machine_theory.specs.Profile.{Item as UnifyItem}
use Rattle.mz_machine_theory.specs.Bodies.{proves}
use Rattle.mz_machine_theory.specs.ProofMachine.{proof_step}
use Rattle.mz_machine_env.specs.Before.{signatures_of, tables_of}
use Rattle.mz_machine.specs.OpenEquations.{asked_by, AllOpen, AsksNoMore, IsLacking, many_to_come}
use Rattle.mz_machine.specs.declared.equations.Equation.{Equation}
use Rattle.mz_machine.proofs.Offered.{counts-as, gives-as, lacking, open-each, pushed-gives, stops-as, true-false, unless-mem}
use Rattle.mz_pmachine_theory.specs.NodeIdentity.{Numbered, portable}
use Rattle.mz_pmachine_unify.specs.Stored.{items_at}
use Rattle.mz_pmachine.specs.OpenNodes.{of_nodes, whole_state}
use Rattle.mz_pmachine.specs.OverNodes.{code_of, state_at, with_stack}
use Rattle.mz_pmachine.specs.Steps.{row_by, steps_by}
use Rattle.mz_pmachine.specs.declared.command.Command.{Command}
use Rattle.mz_pmachine.proofs.Citing.{items-many}
use Rattle.mz_pmachine.proofs.Proceeding.{proceeds, whole-count, whole-refused, whole-through}
use Rattle.mz_pmachine.proofs.TermResults.{grows-not}
use Rattle.mz_pmachine.proofs.machine.obey.Goals as goal

-- ---- no command of such bodies

pub returns-in_default-clause-done : goal.returns-in_default-clause-done
returns-in_default-clause-done g c =
    ap (row_by (tables_of c.args.env.now) c.args.at (whole_state c.args.nodes.now c.args.heap.now.items c.args.equations.now.items c.args.stack.now.items c.args.hyps.now.items)) (c.in_default.ensures.none c.args.cmd.value)

pub returns-in_default-clause-steps : goal.returns-in_default-clause-steps
returns-in_default-clause-steps g c =
    let whole = whole_state c.args.nodes.now c.args.heap.now.items c.args.equations.now.items c.args.stack.now.items c.args.hyps.now.items in
    omega (arith, ap (steps_by (tables_of c.args.env.now) whole) (c.in_default.ensures.none c.args.cmd.value), c.tick.ensures)

pub returns-in_default-clause-most : goal.returns-in_default-clause-most
returns-in_default-clause-most g c = omega (arith, c.tick.ensures)

-- ---- it asks for more than is written out

pub returns-in-Some-lack-clause-done : goal.returns-in-Some-lack-clause-done
returns-in-Some-lack-clause-done g c =
    let s = c.args.nodes.now in
    let E = c.args.env.now in
    let es = c.args.equations.now.items in
    let code = code_of c.in-Some.command in
    let xs = items_at s c.args.stack.now.items in
    let st = state_at s c.args.heap.now.items c.args.stack.now.items c.args.hyps.now.items in
    let many : length xs ≡ c.len.result = omega (arith, c.len.ensures, c.args.stack.now.ok.0, items-many s c.args.stack.now.items) in
    let told = subst (λ (fs : List Equation). IsLacking (asked_by (tables_of E) code c.args.cmd.value) c.len.result (many_to_come (of_nodes s) fs) c.in-Some-lack.rule) c.deref.ensures.value c.in-Some-lack.ensures.some in
    let refused = lacking portable (tables_of E) st (of_nodes s) es xs c.requires.settled c.args.at code c.args.cmd.value c.len.result c.in-Some-lack.rule many told in
    ap (row_by (tables_of E) c.args.at (whole_state s c.args.heap.now.items es c.args.stack.now.items c.args.hyps.now.items)) (c.in-Some.ensures.some c.args.cmd.value) ∙ refused.0

pub returns-in-Some-lack-clause-steps : goal.returns-in-Some-lack-clause-steps
returns-in-Some-lack-clause-steps g c =
    let s = c.args.nodes.now in
    let E = c.args.env.now in
    let es = c.args.equations.now.items in
    let code = code_of c.in-Some.command in
    let xs = items_at s c.args.stack.now.items in
    let st = state_at s c.args.heap.now.items c.args.stack.now.items c.args.hyps.now.items in
    let many : length xs ≡ c.len.result = omega (arith, c.len.ensures, c.args.stack.now.ok.0, items-many s c.args.stack.now.items) in
    let told = subst (λ (fs : List Equation). IsLacking (asked_by (tables_of E) code c.args.cmd.value) c.len.result (many_to_come (of_nodes s) fs) c.in-Some-lack.rule) c.deref.ensures.value c.in-Some-lack.ensures.some in
    let refused = lacking portable (tables_of E) st (of_nodes s) es xs c.requires.settled c.args.at code c.args.cmd.value c.len.result c.in-Some-lack.rule many told in
    omega (arith, ap (steps_by (tables_of E) (whole_state s c.args.heap.now.items es c.args.stack.now.items c.args.hyps.now.items)) (c.in-Some.ensures.some c.args.cmd.value), refused.1, c.tick.ensures)

pub returns-in-Some-lack-clause-most : goal.returns-in-Some-lack-clause-most
returns-in-Some-lack-clause-most g c = omega (arith, c.tick.ensures)

-- ---- Cong

pub returns-then-is_cong-clause-done : goal.returns-then-is_cong-clause-done
returns-then-is_cong-clause-done g c =
    let s = c.args.nodes.now in
    let E = c.args.env.now in
    let whole = whole_state s c.args.heap.now.items c.args.equations.now.items c.args.stack.now.items c.args.hyps.now.items in
    let here = c.in-Some.ensures.some c.args.cmd.value ∙ ap (λ (k : Command). Some (proves (code_of k) c.args.cmd.value)) (c.is_cong.ensures.0 c.if-is_cong.true) in
    proceeds (signatures_of E) c.args.at s s (grows-not (signatures_of E) s c.requires.over) c.args.heap.now.items c.requires.heap c.args.hyps.now.items c.requires.hyps c.requires.few (omega (arith, c.requires.number))
    (row_by (tables_of E) c.args.at whole _) c.open_equation.result c.open_equation.new.equations.items c.open_equation.new.stack.items c.open_equation.ensures.done
    (gives-as _ _ c.open_equation.result _ (ap (row_by (tables_of E) c.args.at whole) here) (c.open_equation.ensures.row (tables_of E) c.args.at c.args.cmd.value c.args.heap.now.items c.args.hyps.now.items))

pub returns-then-is_cong-clause-steps : goal.returns-then-is_cong-clause-steps
returns-then-is_cong-clause-steps g c =
    let E = c.args.env.now in
    let whole = whole_state c.args.nodes.now c.args.heap.now.items c.args.equations.now.items c.args.stack.now.items c.args.hyps.now.items in
    let here = c.in-Some.ensures.some c.args.cmd.value ∙ ap (λ (k : Command). Some (proves (code_of k) c.args.cmd.value)) (c.is_cong.ensures.0 c.if-is_cong.true) in
    unless-mem c.open_equation.result (omega (arith, ap (steps_by (tables_of E) whole) here, c.tick.ensures))

pub returns-then-is_cong-clause-most : goal.returns-then-is_cong-clause-most
returns-then-is_cong-clause-most g c = omega (arith, c.tick.ensures)

-- ---- it goes through

pub returns-in-Ok-clause-done : goal.returns-in-Ok-clause-done
returns-in-Ok-clause-done g c =
    let s = c.args.nodes.now in
    let s' = c.execute.new.nodes in
    let E = c.args.env.now in
    let es = c.args.equations.now.items in
    let code = code_of c.in-Some.command in
    let xs = items_at s c.args.stack.now.items in
    let whole = whole_state s c.args.heap.now.items es c.args.stack.now.items c.args.hyps.now.items in
    let many : length xs ≡ c.len.result = omega (arith, c.len.ensures, c.args.stack.now.ok.0, items-many s c.args.stack.now.items) in
    let asks = subst (λ (fs : List Equation). AsksNoMore fs (asked_by (tables_of E) code c.args.cmd.value) (length xs)) c.deref.ensures.value (subst (AsksNoMore c.deref.result.now (asked_by (tables_of E) code c.args.cmd.value)) (sym many) c.in_default-lack.ensures.none) in
    let done = c.in-Ok.ensures in
    let through = whole-through (tables_of E) s c.args.heap.now.items c.args.stack.now.items c.args.hyps.now.items es c.requires.settled code c.args.cmd.value asks s' done.grows.keeps c.execute.new.heap.items c.execute.new.stack.items c.execute.new.hyps.items None tt c.args.at done.row in
    proceeds (signatures_of E) c.args.at s s' done.grows c.execute.new.heap.items done.ids.0 c.execute.new.hyps.items done.ids.2 done.few done.next
    (row_by (tables_of E) c.args.at whole _) c.settle.result c.settle.new.equations.items c.settle.new.stack.items (on_ok_weaker c.settle.result (λ settled. (settled.0, settled.1)) c.settle.ensures.done)
    (pushed-gives c.settle.result _ _ (on_ok_weaker c.settle.result (λ settled.
    ap (row_by (tables_of E) c.args.at whole) (c.in-Some.ensures.some c.args.cmd.value) ∙ through.1
    ∙ ap (λ (ws : List (UnifyItem Numbered)). Ok (with_stack (state_at s' c.execute.new.heap.items c.execute.new.stack.items c.execute.new.hyps.items) ws)) (sym settled.2)) c.settle.ensures.done) c.settle.ensures.err)

pub returns-in-Ok-clause-steps : goal.returns-in-Ok-clause-steps
returns-in-Ok-clause-steps g c =
    let s = c.args.nodes.now in
    let E = c.args.env.now in
    let es = c.args.equations.now.items in
    let code = code_of c.in-Some.command in
    let xs = items_at s c.args.stack.now.items in
    let whole = whole_state s c.args.heap.now.items es c.args.stack.now.items c.args.hyps.now.items in
    let many : length xs ≡ c.len.result = omega (arith, c.len.ensures, c.args.stack.now.ok.0, items-many s c.args.stack.now.items) in
    let asks = subst (λ (fs : List Equation). AsksNoMore fs (asked_by (tables_of E) code c.args.cmd.value) (length xs)) c.deref.ensures.value (subst (AsksNoMore c.deref.result.now (asked_by (tables_of E) code c.args.cmd.value)) (sym many) c.in_default-lack.ensures.none) in
    let count = ap (steps_by (tables_of E) whole) (c.in-Some.ensures.some c.args.cmd.value) ∙ ap suc (whole-count (tables_of E) s c.args.heap.now.items c.args.stack.now.items c.args.hyps.now.items es c.requires.settled code c.args.cmd.value asks) in
    unless-mem c.settle.result (omega (arith, count, c.in-Ok.ensures.steps, c.tick.ensures))

pub returns-in-Ok-clause-most : goal.returns-in-Ok-clause-most
returns-in-Ok-clause-most g c = omega (arith, c.execute.ensures.most, c.tick.ensures)

-- ---- a rule stops it

pub returns-in-Err-clause-done : goal.returns-in-Err-clause-done
returns-in-Err-clause-done g c =
    let s = c.args.nodes.now in
    let E = c.args.env.now in
    let es = c.args.equations.now.items in
    let code = code_of c.in-Some.command in
    let xs = items_at s c.args.stack.now.items in
    let whole = whole_state s c.args.heap.now.items es c.args.stack.now.items c.args.hyps.now.items in
    let many : length xs ≡ c.len.result = omega (arith, c.len.ensures, c.args.stack.now.ok.0, items-many s c.args.stack.now.items) in
    let asks = subst (λ (fs : List Equation). AsksNoMore fs (asked_by (tables_of E) code c.args.cmd.value) (length xs)) c.deref.ensures.value (subst (AsksNoMore c.deref.result.now (asked_by (tables_of E) code c.args.cmd.value)) (sym many) c.in_default-lack.ensures.none) in
    stops-as c.in-Err.stop (λ (k : K). proof_step portable (tables_of E) c.args.at code c.args.cmd.value (state_at s c.args.heap.now.items c.args.stack.now.items c.args.hyps.now.items) ≡ Err k) _
    (λ k refused. ap (row_by (tables_of E) c.args.at whole) (c.in-Some.ensures.some c.args.cmd.value) ∙ whole-refused (tables_of E) s c.args.heap.now.items c.args.stack.now.items c.args.hyps.now.items es c.requires.settled code c.args.cmd.value asks c.args.at k refused)
    c.in-Err.ensures.row

pub returns-in-Err-clause-steps : goal.returns-in-Err-clause-steps
returns-in-Err-clause-steps g c =
    let s = c.args.nodes.now in
    let E = c.args.env.now in
    let es = c.args.equations.now.items in
    let code = code_of c.in-Some.command in
    let xs = items_at s c.args.stack.now.items in
    let whole = whole_state s c.args.heap.now.items es c.args.stack.now.items c.args.hyps.now.items in
    let many : length xs ≡ c.len.result = omega (arith, c.len.ensures, c.args.stack.now.ok.0, items-many s c.args.stack.now.items) in
    let asks = subst (λ (fs : List Equation). AsksNoMore fs (asked_by (tables_of E) code c.args.cmd.value) (length xs)) c.deref.ensures.value (subst (AsksNoMore c.deref.result.now (asked_by (tables_of E) code c.args.cmd.value)) (sym many) c.in_default-lack.ensures.none) in
    let count = ap (steps_by (tables_of E) whole) (c.in-Some.ensures.some c.args.cmd.value) ∙ ap suc (whole-count (tables_of E) s c.args.heap.now.items c.args.stack.now.items c.args.hyps.now.items es c.requires.settled code c.args.cmd.value asks) in
    counts-as {A = Unit {0}} (Err c.in-Err.stop) c.args.steps.now c.tick.new.self c.execute.new.steps _ _ c.tick.ensures count c.in-Err.ensures.steps

pub returns-in-Err-clause-most : goal.returns-in-Err-clause-most
returns-in-Err-clause-most g c = omega (arith, c.execute.ensures.most, c.tick.ensures)

-- ---- the nodes

pub returns-in_default-clause-nodes : goal.returns-in_default-clause-nodes
returns-in_default-clause-nodes g c = omega arith

pub returns-in-Some-lack-clause-nodes : goal.returns-in-Some-lack-clause-nodes
returns-in-Some-lack-clause-nodes g c = omega arith

pub returns-then-is_cong-clause-nodes : goal.returns-then-is_cong-clause-nodes
returns-then-is_cong-clause-nodes g c = omega arith

pub returns-in-Ok-clause-nodes : goal.returns-in-Ok-clause-nodes
returns-in-Ok-clause-nodes g c = c.execute.ensures.nodes

pub returns-in-Err-clause-nodes : goal.returns-in-Err-clause-nodes
returns-in-Err-clause-nodes g c = c.execute.ensures.nodes

-- ---- what the calls ask

pub lack-requires : goal.lack-requires
lack-requires g c =
    let s = c.args.nodes.now in
    subst (AllOpen (of_nodes s)) (sym c.deref.ensures.value) (open-each (of_nodes s) c.args.equations.now.items (items_at s c.args.stack.now.items) c.requires.settled.0)

pub open_equation-requires-clause-stack : goal.open_equation-requires-clause-stack
open_equation-requires-clause-stack g c = c.requires.stack

pub open_equation-requires-clause-settled : goal.open_equation-requires-clause-settled
open_equation-requires-clause-settled g c = c.requires.settled

pub execute-requires-clause-number : goal.execute-requires-clause-number
execute-requires-clause-number g c = c.requires.number

pub execute-requires-clause-over : goal.execute-requires-clause-over
execute-requires-clause-over g c = c.requires.over

pub execute-requires-clause-heap : goal.execute-requires-clause-heap
execute-requires-clause-heap g c = c.requires.heap

pub execute-requires-clause-stack : goal.execute-requires-clause-stack
execute-requires-clause-stack g c = c.requires.stack

pub execute-requires-clause-hyps : goal.execute-requires-clause-hyps
execute-requires-clause-hyps g c = c.requires.hyps

pub execute-requires-clause-few : goal.execute-requires-clause-few
execute-requires-clause-few g c = c.requires.few

pub execute-requires-clause-other : goal.execute-requires-clause-other
execute-requires-clause-other g c is = true-false (sym (c.is_cong.ensures.1 is) ∙ c.if-is_cong.false)

pub settle-requires-clause-stack : goal.settle-requires-clause-stack
settle-requires-clause-stack g c = c.in-Ok.ensures.ids.1

pub settle-requires-clause-standing : goal.settle-requires-clause-standing
settle-requires-clause-standing g c =
    let s = c.args.nodes.now in
    let E = c.args.env.now in
    let es = c.args.equations.now.items in
    let code = code_of c.in-Some.command in
    let xs = items_at s c.args.stack.now.items in
    let many : length xs ≡ c.len.result = omega (arith, c.len.ensures, c.args.stack.now.ok.0, items-many s c.args.stack.now.items) in
    let asks = subst (λ (fs : List Equation). AsksNoMore fs (asked_by (tables_of E) code c.args.cmd.value) (length xs)) c.deref.ensures.value (subst (AsksNoMore c.deref.result.now (asked_by (tables_of E) code c.args.cmd.value)) (sym many) c.in_default-lack.ensures.none) in
    (whole-through (tables_of E) s c.args.heap.now.items c.args.stack.now.items c.args.hyps.now.items es c.requires.settled code c.args.cmd.value asks c.execute.new.nodes c.in-Ok.ensures.grows.keeps c.execute.new.heap.items c.execute.new.stack.items c.execute.new.hyps.items None tt c.args.at c.in-Ok.ensures.row).0

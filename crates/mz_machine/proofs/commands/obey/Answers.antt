use Rattle.std.proofs.Common.{◌≡◌, ◌∙◌, false, Some, arith, length, suc, refl, sym, ap}
use Rattle.std.specs.Prelude.{IsTrue, ◌&&◌}
use Rattle.mz_base.specs.Gaps.{gaps_of}
use Rattle.mz_cmd.specs.declared.code.ProofCode.TheVariants as code
use Rattle.mz_machine_theory.specs.Profile.{strict, draft}
use Rattle.mz_machine_theory.specs.ProofMachine.{proof_step}
use Rattle.mz_machine_theory.specs.Bodies.{body_command, proves}
use Rattle.mz_machine_env.specs.CommandCodes.{code_of_making, code_of_converting}
use Rattle.mz_machine_env.specs.OwnRow.{kind_of}
use Rattle.mz_machine_env.specs.Before.{signatures_of, tables_of}
use Rattle.mz_machine.specs.OverStore.{code_of, code_of_keeping, state_at}
use Rattle.mz_machine.specs.Steps.{is_sorry, takes_none}
use Rattle.mz_machine.specs.declared.command.Command.{Command}
use Rattle.mz_machine.specs.declared.command.Command.TheVariants.{Makes, Converts}
use Rattle.mz_machine.proofs.Converting.{true-false}
use Rattle.mz_machine.proofs.Executed.{none-counts, one-step, opens-executes, quiet, ruled-executes}
use Rattle.mz_machine.proofs.GapRows.{its-steps, gap-steps, none-counted, none-here}
use Rattle.mz_machine.proofs.HandedOn.{keeping-steps, making-takes}
use Rattle.mz_machine.proofs.Machines.{tells-all}
use Rattle.mz_machine.proofs.Obeying.{obeys, obeys-counts, obeys-gap, obeys-none}
use Rattle.mz_machine.proofs.commands.obey.Goals as goal

-- ---- no command of such bodies

pub returns-in_default-clause-done : goal.returns-in_default-clause-done
returns-in_default-clause-done g c at =
    none-here (gaps_of c.args.mode) (tables_of c.args.env.now) (kind_of c.args.kind) c.args.cmd.code c.args.cmd.value at _ (c.in_default.ensures.none c.args.cmd.value)

pub returns-in_default-clause-steps : goal.returns-in_default-clause-steps
returns-in_default-clause-steps g c =
    let st = state_at c.args.store.now c.args.heap.now.items c.args.stack.now.items c.args.hyps.now.items in
    let one = none-counted (gaps_of c.args.mode) (tables_of c.args.env.now) (kind_of c.args.kind) c.args.cmd.code c.args.cmd.value st (c.in_default.ensures.none c.args.cmd.value) in
    (omega (arith, one, c.tick.ensures), omega (arith, c.tick.ensures))

-- ---- a gap

pub returns-then-leaves_gap-clause-done : goal.returns-then-leaves_gap-clause-done
returns-then-leaves_gap-clause-done g c =
    let E = c.args.env.now in
    let tables = tables_of E in
    let s = c.args.store.now in
    let heap = c.args.heap.now.items in
    let stack = c.args.stack.now.items in
    let hyps = c.args.hyps.now.items in
    let st = state_at s heap stack hyps in
    let gaps = gaps_of c.args.mode in
    let kind = kind_of c.args.kind in
    let value = c.args.cmd.value in
    let scratch = c.args.stack.now.cap in
    let most = length E.file in
    let here = c.in-Some.ensures.some value in
    let gap = sym c.leaves_gap.ensures ∙ c.if-leaves_gap.true in
    let takes = IsTrue (takes_none (code_of c.in-Some.command) value st) in
    let stack' = c.gap.new.stack.items in
    obeys-gap gaps tables kind c.args.cmd.code value (code_of c.in-Some.command) here st (signatures_of E) takes (λ none. none) s s heap stack stack' hyps scratch c.gap.new.stack.cap gap c.by_rule.result c.opens_none.result c.opens_none.ensures
    (ruled-executes (signatures_of E) (λ at. proof_step draft tables at code.Sorry value st) takes s c.requires.ready.over heap stack stack' c.requires.ready.heap_in hyps c.requires.hyps scratch c.gap.new.stack.cap c.gap.result c.by_rule.result c.by_rule.ensures c.gap.ensures.ids
    (λ at. c.gap.ensures.row at value st refl refl) (λ none. c.gap.ensures.capacity))

pub returns-then-leaves_gap-clause-steps : goal.returns-then-leaves_gap-clause-steps
returns-then-leaves_gap-clause-steps g c =
    let E = c.args.env.now in
    let tables = tables_of E in
    let s = c.args.store.now in
    let heap = c.args.heap.now.items in
    let stack = c.args.stack.now.items in
    let hyps = c.args.hyps.now.items in
    let st = state_at s heap stack hyps in
    let gaps = gaps_of c.args.mode in
    let kind = kind_of c.args.kind in
    let value = c.args.cmd.value in
    let scratch = c.args.stack.now.cap in
    let most = length E.file in
    let here = c.in-Some.ensures.some value in
    one-step c.opens_none.result c.args.steps.now c.tick.new.self c.tick.new.self 0 _ most c.tick.ensures (gap-steps gaps tables kind c.args.cmd.code value (code_of c.in-Some.command) here st (sym c.leaves_gap.ensures ∙ c.if-leaves_gap.true)) (quiet c.opens_none.result c.tick.new.self most)

-- ---- Makes

pub returns-in-Makes-clause-done : goal.returns-in-Makes-clause-done
returns-in-Makes-clause-done g c =
    let E = c.args.env.now in
    let tables = tables_of E in
    let s = c.args.store.now in
    let heap = c.args.heap.now.items in
    let stack = c.args.stack.now.items in
    let hyps = c.args.hyps.now.items in
    let st = state_at s heap stack hyps in
    let gaps = gaps_of c.args.mode in
    let kind = kind_of c.args.kind in
    let value = c.args.cmd.value in
    let scratch = c.args.stack.now.cap in
    let most = length E.file in
    let here = c.in-Some.ensures.some value in
    let is = c.in-Makes.is in
    let stands : body_command strict kind c.args.cmd.code value ≡ Some (proves (code_of_making c.in-Makes.making) value) = here ∙ ap (λ (k : Command). Some (proves (code_of k) value)) is in
    let other : (gaps && is_sorry (Some (code_of_making c.in-Makes.making))) ≡ false = ap (λ (k : Command). gaps && is_sorry (Some (code_of k))) (sym is) ∙ sym c.leaves_gap.ensures ∙ c.if-leaves_gap.false in
    obeys-none gaps tables kind c.args.cmd.code value (code_of_making c.in-Makes.making) stands st (signatures_of E) ⊥ (making-takes c.in-Makes.making value st) s c.make.new.store c.make.new.heap.items stack c.make.new.stack.items hyps scratch c.make.new.stack.cap other
    c.make.result c.opens_none-in-Makes.result c.opens_none-in-Makes.ensures (c.make.ensures.done hyps c.requires.hyps)

pub returns-in-Makes-clause-steps : goal.returns-in-Makes-clause-steps
returns-in-Makes-clause-steps g c =
    let E = c.args.env.now in
    let tables = tables_of E in
    let s = c.args.store.now in
    let heap = c.args.heap.now.items in
    let stack = c.args.stack.now.items in
    let hyps = c.args.hyps.now.items in
    let st = state_at s heap stack hyps in
    let gaps = gaps_of c.args.mode in
    let kind = kind_of c.args.kind in
    let value = c.args.cmd.value in
    let scratch = c.args.stack.now.cap in
    let most = length E.file in
    let here = c.in-Some.ensures.some value in
    let is = c.in-Makes.is in
    let stands : body_command strict kind c.args.cmd.code value ≡ Some (proves (code_of_making c.in-Makes.making) value) = here ∙ ap (λ (k : Command). Some (proves (code_of k) value)) is in
    obeys-counts gaps tables kind c.args.cmd.code value (code_of_making c.in-Makes.making) stands st c.opens_none-in-Makes.result c.args.steps.now c.tick.new.self c.make.new.steps most c.tick.ensures
    (none-counts c.make.result c.opens_none-in-Makes.result c.tick.new.self c.make.new.steps _ most c.opens_none-in-Makes.ensures (c.make.ensures.steps hyps))

-- ---- Keeps

pub returns-in-Keeps-clause-done : goal.returns-in-Keeps-clause-done
returns-in-Keeps-clause-done g c =
    let E = c.args.env.now in
    let tables = tables_of E in
    let s = c.args.store.now in
    let heap = c.args.heap.now.items in
    let stack = c.args.stack.now.items in
    let hyps = c.args.hyps.now.items in
    let st = state_at s heap stack hyps in
    let gaps = gaps_of c.args.mode in
    let kind = kind_of c.args.kind in
    let value = c.args.cmd.value in
    let scratch = c.args.stack.now.cap in
    let most = length E.file in
    let here = c.in-Some.ensures.some value in
    let is = c.in-Keeps.is in
    let stands : body_command strict kind c.args.cmd.code value ≡ Some (proves (code_of_keeping c.in-Keeps.keeping) value) = here ∙ ap (λ (k : Command). Some (proves (code_of k) value)) is in
    let other : (gaps && is_sorry (Some (code_of_keeping c.in-Keeps.keeping))) ≡ false = ap (λ (k : Command). gaps && is_sorry (Some (code_of k))) (sym is) ∙ sym c.leaves_gap.ensures ∙ c.if-leaves_gap.false in
    obeys-none gaps tables kind c.args.cmd.code value (code_of_keeping c.in-Keeps.keeping) stands st (signatures_of E) (IsTrue (takes_none (code_of_keeping c.in-Keeps.keeping) value st)) (λ none. none) s c.keep.new.store c.keep.new.heap.items stack c.keep.new.stack.items c.keep.new.hyps.items scratch c.keep.new.stack.cap other
    c.keep.result c.opens_none-in-Keeps.result c.opens_none-in-Keeps.ensures c.keep.ensures.done

pub returns-in-Keeps-clause-steps : goal.returns-in-Keeps-clause-steps
returns-in-Keeps-clause-steps g c =
    let E = c.args.env.now in
    let tables = tables_of E in
    let s = c.args.store.now in
    let heap = c.args.heap.now.items in
    let stack = c.args.stack.now.items in
    let hyps = c.args.hyps.now.items in
    let st = state_at s heap stack hyps in
    let gaps = gaps_of c.args.mode in
    let kind = kind_of c.args.kind in
    let value = c.args.cmd.value in
    let scratch = c.args.stack.now.cap in
    let most = length E.file in
    let here = c.in-Some.ensures.some value in
    let is = c.in-Keeps.is in
    let stands : body_command strict kind c.args.cmd.code value ≡ Some (proves (code_of_keeping c.in-Keeps.keeping) value) = here ∙ ap (λ (k : Command). Some (proves (code_of k) value)) is in
    one-step c.opens_none-in-Keeps.result c.args.steps.now c.tick.new.self c.tick.new.self 0 _ most c.tick.ensures
    (its-steps gaps tables kind c.args.cmd.code value (code_of_keeping c.in-Keeps.keeping) stands st ∙ ap suc (keeping-steps strict tables c.in-Keeps.keeping value st)) (quiet c.opens_none-in-Keeps.result c.tick.new.self most)

-- ---- Cong

pub returns-then-is_cong-clause-done : goal.returns-then-is_cong-clause-done
returns-then-is_cong-clause-done g c =
    let E = c.args.env.now in
    let tables = tables_of E in
    let s = c.args.store.now in
    let heap = c.args.heap.now.items in
    let stack = c.args.stack.now.items in
    let hyps = c.args.hyps.now.items in
    let st = state_at s heap stack hyps in
    let gaps = gaps_of c.args.mode in
    let kind = kind_of c.args.kind in
    let value = c.args.cmd.value in
    let scratch = c.args.stack.now.cap in
    let most = length E.file in
    let here = c.in-Some.ensures.some value in
    let is = c.in-Converts.is ∙ ap Converts (c.is_cong.ensures.0 c.if-is_cong.true) in
    let stands : body_command strict kind c.args.cmd.code value ≡ Some (proves (code.Cong) value) = here ∙ ap (λ (k : Command). Some (proves (code_of k) value)) is in
    let other : (gaps && is_sorry (Some (code.Cong))) ≡ false = ap (λ (k : Command). gaps && is_sorry (Some (code_of k))) (sym is) ∙ sym c.leaves_gap.ensures ∙ c.if-leaves_gap.false in
    let stack' = c.cong.new.stack.items in
    obeys gaps tables kind c.args.cmd.code value code.Cong stands st (signatures_of E) ⊥ (λ none. true-false (sym none)) s s heap stack stack' hyps scratch c.cong.new.stack.cap other c.opens.result
    (opens-executes (signatures_of E) (λ at. proof_step strict tables at code.Cong value st) ⊥ s c.requires.ready.over heap stack stack' c.requires.ready.heap_in hyps c.requires.hyps scratch c.cong.new.stack.cap c.cong.result c.opens.result c.opens.ensures
    c.cong.ensures.ids c.cong.ensures.items (λ at. c.cong.ensures.row tables at value st refl) (λ none. none))

pub returns-then-is_cong-clause-steps : goal.returns-then-is_cong-clause-steps
returns-then-is_cong-clause-steps g c =
    let E = c.args.env.now in
    let tables = tables_of E in
    let s = c.args.store.now in
    let heap = c.args.heap.now.items in
    let stack = c.args.stack.now.items in
    let hyps = c.args.hyps.now.items in
    let st = state_at s heap stack hyps in
    let gaps = gaps_of c.args.mode in
    let kind = kind_of c.args.kind in
    let value = c.args.cmd.value in
    let scratch = c.args.stack.now.cap in
    let most = length E.file in
    let here = c.in-Some.ensures.some value in
    let is = c.in-Converts.is ∙ ap Converts (c.is_cong.ensures.0 c.if-is_cong.true) in
    let stands : body_command strict kind c.args.cmd.code value ≡ Some (proves (code.Cong) value) = here ∙ ap (λ (k : Command). Some (proves (code_of k) value)) is in
    obeys-counts gaps tables kind c.args.cmd.code value code.Cong stands st c.opens.result c.args.steps.now c.tick.new.self c.tick.new.self most c.tick.ensures (quiet c.opens.result c.tick.new.self most)

-- ---- Converts

pub returns-else-is_cong-clause-done : goal.returns-else-is_cong-clause-done
returns-else-is_cong-clause-done g c =
    let E = c.args.env.now in
    let tables = tables_of E in
    let s = c.args.store.now in
    let heap = c.args.heap.now.items in
    let stack = c.args.stack.now.items in
    let hyps = c.args.hyps.now.items in
    let st = state_at s heap stack hyps in
    let gaps = gaps_of c.args.mode in
    let kind = kind_of c.args.kind in
    let value = c.args.cmd.value in
    let scratch = c.args.stack.now.cap in
    let most = length E.file in
    let here = c.in-Some.ensures.some value in
    let is = c.in-Converts.is in
    let stands : body_command strict kind c.args.cmd.code value ≡ Some (proves (code_of_converting c.in-Converts.converting) value) = here ∙ ap (λ (k : Command). Some (proves (code_of k) value)) is in
    let other : (gaps && is_sorry (Some (code_of_converting c.in-Converts.converting))) ≡ false = ap (λ (k : Command). gaps && is_sorry (Some (code_of k))) (sym is) ∙ sym c.leaves_gap.ensures ∙ c.if-leaves_gap.false in
    obeys-none gaps tables kind c.args.cmd.code value (code_of_converting c.in-Converts.converting) stands st (signatures_of E) (IsTrue (takes_none (code_of_converting c.in-Converts.converting) value st)) (λ none. none) s s c.convert.new.heap.items stack c.convert.new.stack.items hyps scratch c.convert.new.stack.cap other
    c.convert.result c.opens_none-in-Converts.result c.opens_none-in-Converts.ensures (c.convert.ensures.done value hyps c.requires.hyps)

pub returns-else-is_cong-clause-steps : goal.returns-else-is_cong-clause-steps
returns-else-is_cong-clause-steps g c =
    let E = c.args.env.now in
    let tables = tables_of E in
    let s = c.args.store.now in
    let heap = c.args.heap.now.items in
    let stack = c.args.stack.now.items in
    let hyps = c.args.hyps.now.items in
    let st = state_at s heap stack hyps in
    let gaps = gaps_of c.args.mode in
    let kind = kind_of c.args.kind in
    let value = c.args.cmd.value in
    let scratch = c.args.stack.now.cap in
    let most = length E.file in
    let here = c.in-Some.ensures.some value in
    let is = c.in-Converts.is in
    let stands : body_command strict kind c.args.cmd.code value ≡ Some (proves (code_of_converting c.in-Converts.converting) value) = here ∙ ap (λ (k : Command). Some (proves (code_of k) value)) is in
    obeys-counts gaps tables kind c.args.cmd.code value (code_of_converting c.in-Converts.converting) stands st c.opens_none-in-Converts.result c.args.steps.now c.tick.new.self c.convert.new.steps most c.tick.ensures
    (none-counts c.convert.result c.opens_none-in-Converts.result c.tick.new.self c.convert.new.steps _ most c.opens_none-in-Converts.ensures (c.convert.ensures.steps value hyps))

-- ---- what the calls ask

pub gap-requires-clause-over : goal.gap-requires-clause-over
gap-requires-clause-over g c = c.requires.ready.over

pub gap-requires-clause-stack : goal.gap-requires-clause-stack
gap-requires-clause-stack g c = c.requires.ready.stack_in

pub make-requires-clause-ready : goal.make-requires-clause-ready
make-requires-clause-ready g c = c.requires.ready

pub make-requires-clause-mode : goal.make-requires-clause-mode
make-requires-clause-mode g c cited =
    let here = c.in-Some.ensures.some c.args.cmd.value in
    let stands : body_command strict (kind_of c.args.kind) c.args.cmd.code c.args.cmd.value ≡ Some (proves (code_of_making c.in-Makes.making) c.args.cmd.value) = here ∙ ap (λ (k : Command). Some (proves (code_of k) c.args.cmd.value)) c.in-Makes.is in
    tells-all (kind_of c.args.kind) c.args.cmd.code c.args.cmd.value (Makes c.in-Makes.making) c.args.store.now c.requires.told stands cited

pub keep-requires-clause-ready : goal.keep-requires-clause-ready
keep-requires-clause-ready g c = c.requires.ready

pub keep-requires-clause-hyps : goal.keep-requires-clause-hyps
keep-requires-clause-hyps g c = c.requires.hyps

pub cong-requires : goal.cong-requires
cong-requires g c = c.requires.ready.stack_in

pub convert-requires-clause-ready : goal.convert-requires-clause-ready
convert-requires-clause-ready g c = c.requires.ready

pub convert-requires-clause-mode : goal.convert-requires-clause-mode
convert-requires-clause-mode g c =
    let here = c.in-Some.ensures.some c.args.cmd.value in
    let stands : body_command strict (kind_of c.args.kind) c.args.cmd.code c.args.cmd.value ≡ Some (proves (code_of_converting c.in-Converts.converting) c.args.cmd.value) = here ∙ ap (λ (k : Command). Some (proves (code_of k) c.args.cmd.value)) c.in-Converts.is in
    tells-all (kind_of c.args.kind) c.args.cmd.code c.args.cmd.value (Converts c.in-Converts.converting) c.args.store.now c.requires.told stands refl

pub convert-requires-clause-other : goal.convert-requires-clause-other
convert-requires-clause-other g c is = true-false (sym (c.is_cong.ensures.1 is) ∙ c.if-is_cong.false)

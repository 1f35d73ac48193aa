use Rattle.std.proofs.Common.{true≢false, sym, ap, ◌∙◌, subst, length}
use Rattle.mz_base.specs.Checks.{Judges}
use Rattle.mz_sexpr.specs.Number.{first}
use Rattle.mz_sexpr.specs.Node.{parts}
use Rattle.mz_logic_theory.specs.Tree.{instance, followed_by, variables}
use Rattle.mz_logic_theory.specs.Declaration.{signatures, dummies_of}
use Rattle.mz_logic_theory.specs.DeclView.{term_view}
use Rattle.mz_mmu_theory.specs.ConvView.{conversion}
use Rattle.mz_mmu_theory.specs.declared.fault.Stop.TheVariants.{Mem}
use Rattle.mz_mmu_theory.specs.Parts.{part}
use Rattle.mz_mmu_theory.specs.Rules.{operand_rules, variable_rules, unfold_rules}
use Rattle.mz_mmu_theory.specs.Sides.{left}
use Rattle.mz_type_rules.proofs.Judging.{stop_handed_on, told_stop, told_holds}
use Rattle.mz_type_rules.proofs.ConvSteps as step
use Rattle.mz_type_rules.proofs.convs.Checker.check_definition.Goals as goal

pub returns-in_err-refuse : goal.returns-in_err-refuse
returns-in_err-refuse c =
    let sigs = signatures c.args.self.now.env.now in
    let ctx = c.args.self.now.ctx.now in
    let d = term_view c.args.term.now in
    let es = c.args.es.now in
    let n = first c.args.nodes.now in
    let s = c.in_err-refuse.field-0.0 in
    stop_handed_on (unfold_rules sigs ctx d es c.args.vars.now (left (conversion c.args.conv.now)) n) c.from_residual.result s c.from_residual.ensures.1
    (step.operands_stop sigs ctx d es c.args.vars.now (left (conversion c.args.conv.now)) n
    (step.defined_by d.form _ c.in-Some.ensures)
    (sym c.len.ensures ∙ c.if-len-params.false ∙ ap length c.as_slice-params.ensures, ap length (sym c.as_slice.ensures) ∙ c.if-as_slice-dummies.false ∙ ap length c.dummies-dummies.ensures) s
    (told_stop (operand_rules sigs ctx es (parts (part (parts n) 2)) d.signature.params) c.check_operands.result c.refuse.result s c.refuse.ensures c.in_err-refuse.was
    (subst (λ ps. Judges c.check_operands.result (operand_rules sigs ctx es (parts (part (parts n) 2)) ps)) c.as_slice-params.ensures
    (subst (λ ns. Judges c.check_operands.result (operand_rules sigs ctx es ns c.as_slice-params.result.now)) c.parts_of.ensures c.check_operands.ensures))))

pub returns-in_err-refuse-2 : goal.returns-in_err-refuse-2
returns-in_err-refuse-2 c =
    let sigs = signatures c.args.self.now.env.now in
    let ctx = c.args.self.now.ctx.now in
    let d = term_view c.args.term.now in
    let es = c.args.es.now in
    let n = first c.args.nodes.now in
    let s = c.in_err-refuse-2.field-0.0 in
    stop_handed_on (unfold_rules sigs ctx d es c.args.vars.now (left (conversion c.args.conv.now)) n) c.from_residual-in_err-refuse-2.result s c.from_residual-in_err-refuse-2.ensures.1
    (step.variables_stop sigs ctx d es c.args.vars.now (left (conversion c.args.conv.now)) n
    (step.defined_by d.form _ c.in-Some.ensures)
    (sym c.len.ensures ∙ c.if-len-params.false ∙ ap length c.as_slice-params.ensures, ap length (sym c.as_slice.ensures) ∙ c.if-as_slice-dummies.false ∙ ap length c.dummies-dummies.ensures) s
    (told_holds (operand_rules sigs ctx es (parts (part (parts n) 2)) d.signature.params) c.check_operands.result c.refuse.result c.in_ok-refuse.field-0 c.refuse.ensures c.in_ok-refuse.was
    (subst (λ ps. Judges c.check_operands.result (operand_rules sigs ctx es (parts (part (parts n) 2)) ps)) c.as_slice-params.ensures
    (subst (λ ns. Judges c.check_operands.result (operand_rules sigs ctx es ns c.as_slice-params.result.now)) c.parts_of.ensures c.check_operands.ensures)))
    (told_stop (variable_rules ctx c.args.vars.now (parts (part (parts n) 3)) (dummies_of d.form)) c.check_variables.result c.refuse-2.result s c.refuse-2.ensures c.in_err-refuse-2.was
    (subst (λ ps. Judges c.check_variables.result (variable_rules ctx c.args.vars.now (parts (part (parts n) 3)) ps)) c.dummies-dummies.ensures
    (subst (λ ns. Judges c.check_variables.result (variable_rules ctx c.args.vars.now ns c.dummies-dummies.result.now)) c.parts_of-2.ensures c.check_variables.ensures))))

pub returns-in_err-fresh : goal.returns-in_err-fresh
returns-in_err-fresh c =
    stop_handed_on (unfold_rules (signatures c.args.self.now.env.now) c.args.self.now.ctx.now (term_view c.args.term.now) c.args.es.now c.args.vars.now (left (conversion c.args.conv.now)) (first c.args.nodes.now))
    c.from_residual-in_err-fresh.result Mem c.from_residual-in_err-fresh.ensures.1 tt

pub returns-then-not-fresh : goal.returns-then-not-fresh
returns-then-not-fresh c =
    let sigs = signatures c.args.self.now.env.now in
    let ctx = c.args.self.now.ctx.now in
    let d = term_view c.args.term.now in
    let es = c.args.es.now in
    let n = first c.args.nodes.now in
    step.disjoint_fails sigs ctx d es c.args.vars.now (left (conversion c.args.conv.now)) n
    (step.defined_by d.form _ c.in-Some.ensures)
    (sym c.len.ensures ∙ c.if-len-params.false ∙ ap length c.as_slice-params.ensures, ap length (sym c.as_slice.ensures) ∙ c.if-as_slice-dummies.false ∙ ap length c.dummies-dummies.ensures)
    c.fault-then-not-fresh.result
    (told_holds (operand_rules sigs ctx es (parts (part (parts n) 2)) d.signature.params) c.check_operands.result c.refuse.result c.in_ok-refuse.field-0 c.refuse.ensures c.in_ok-refuse.was
    (subst (λ ps. Judges c.check_operands.result (operand_rules sigs ctx es (parts (part (parts n) 2)) ps)) c.as_slice-params.ensures
    (subst (λ ns. Judges c.check_operands.result (operand_rules sigs ctx es ns c.as_slice-params.result.now)) c.parts_of.ensures c.check_operands.ensures)))
    (told_holds (variable_rules ctx c.args.vars.now (parts (part (parts n) 3)) (dummies_of d.form)) c.check_variables.result c.refuse-2.result c.in_ok-refuse-2.field-0 c.refuse-2.ensures c.in_ok-refuse-2.was
    (subst (λ ps. Judges c.check_variables.result (variable_rules ctx c.args.vars.now (parts (part (parts n) 3)) ps)) c.dummies-dummies.ensures
    (subst (λ ns. Judges c.check_variables.result (variable_rules ctx c.args.vars.now ns c.dummies-dummies.result.now)) c.parts_of-2.ensures c.check_variables.ensures)))
    c.fault-then-not-fresh.ensures (λ new. true≢false (sym (c.in_ok-fresh.ensures.1 new) ∙ c.if-not-fresh.true))

pub returns-in_err-goes : goal.returns-in_err-goes
returns-in_err-goes c =
    let from = left (conversion c.args.conv.now) in
    stop_handed_on (unfold_rules (signatures c.args.self.now.env.now) c.args.self.now.ctx.now (term_view c.args.term.now) c.args.es.now c.args.vars.now from (first c.args.nodes.now))
    c.from_residual-in_err-goes.result Mem c.from_residual-in_err-goes.ensures.1 tt

pub returns-then-goes : goal.returns-then-goes
returns-then-goes c =
    let sigs = signatures c.args.self.now.env.now in
    let ctx = c.args.self.now.ctx.now in
    let d = term_view c.args.term.now in
    let es = c.args.es.now in
    let n = first c.args.nodes.now in
    step.unfold_holds sigs ctx d es c.args.vars.now (left (conversion c.args.conv.now)) n
    (step.defined_by d.form _ c.in-Some.ensures)
    (sym c.len.ensures ∙ c.if-len-params.false ∙ ap length c.as_slice-params.ensures, ap length (sym c.as_slice.ensures) ∙ c.if-as_slice-dummies.false ∙ ap length c.dummies-dummies.ensures)
    (told_holds (operand_rules sigs ctx es (parts (part (parts n) 2)) d.signature.params) c.check_operands.result c.refuse.result c.in_ok-refuse.field-0 c.refuse.ensures c.in_ok-refuse.was
    (subst (λ ps. Judges c.check_operands.result (operand_rules sigs ctx es (parts (part (parts n) 2)) ps)) c.as_slice-params.ensures
    (subst (λ ns. Judges c.check_operands.result (operand_rules sigs ctx es ns c.as_slice-params.result.now)) c.parts_of.ensures c.check_operands.ensures)))
    (told_holds (variable_rules ctx c.args.vars.now (parts (part (parts n) 3)) (dummies_of d.form)) c.check_variables.result c.refuse-2.result c.in_ok-refuse-2.field-0 c.refuse-2.ensures c.in_ok-refuse-2.was
    (subst (λ ps. Judges c.check_variables.result (variable_rules ctx c.args.vars.now (parts (part (parts n) 3)) ps)) c.dummies-dummies.ensures
    (subst (λ ns. Judges c.check_variables.result (variable_rules ctx c.args.vars.now ns c.dummies-dummies.result.now)) c.parts_of-2.ensures c.check_variables.ensures)))
    (c.in_ok-fresh.ensures.0 c.if-not-fresh.false) (c.in_ok-goes.ensures.0 c.if-goes.true ∙ ap (instance (followed_by es (variables c.args.vars.now))) (sym (step.body_by d.form _ c.in-Some.ensures)))

pub returns-else-goes : goal.returns-else-goes
returns-else-goes c =
    let sigs = signatures c.args.self.now.env.now in
    let ctx = c.args.self.now.ctx.now in
    let d = term_view c.args.term.now in
    let es = c.args.es.now in
    let n = first c.args.nodes.now in
    step.body_differs sigs ctx d es c.args.vars.now (left (conversion c.args.conv.now)) n
    (step.defined_by d.form _ c.in-Some.ensures)
    (sym c.len.ensures ∙ c.if-len-params.false ∙ ap length c.as_slice-params.ensures, ap length (sym c.as_slice.ensures) ∙ c.if-as_slice-dummies.false ∙ ap length c.dummies-dummies.ensures)
    c.fault-else-goes.result
    (told_holds (operand_rules sigs ctx es (parts (part (parts n) 2)) d.signature.params) c.check_operands.result c.refuse.result c.in_ok-refuse.field-0 c.refuse.ensures c.in_ok-refuse.was
    (subst (λ ps. Judges c.check_operands.result (operand_rules sigs ctx es (parts (part (parts n) 2)) ps)) c.as_slice-params.ensures
    (subst (λ ns. Judges c.check_operands.result (operand_rules sigs ctx es ns c.as_slice-params.result.now)) c.parts_of.ensures c.check_operands.ensures)))
    (told_holds (variable_rules ctx c.args.vars.now (parts (part (parts n) 3)) (dummies_of d.form)) c.check_variables.result c.refuse-2.result c.in_ok-refuse-2.field-0 c.refuse-2.ensures c.in_ok-refuse-2.was
    (subst (λ ps. Judges c.check_variables.result (variable_rules ctx c.args.vars.now (parts (part (parts n) 3)) ps)) c.dummies-dummies.ensures
    (subst (λ ns. Judges c.check_variables.result (variable_rules ctx c.args.vars.now ns c.dummies-dummies.result.now)) c.parts_of-2.ensures c.check_variables.ensures)))
    (c.in_ok-fresh.ensures.0 c.if-not-fresh.false) c.fault-else-goes.ensures
    (λ is. true≢false (sym (c.in_ok-goes.ensures.1 (is ∙ ap (instance (followed_by es (variables c.args.vars.now))) (step.body_by d.form _ c.in-Some.ensures))) ∙ c.if-goes.false))

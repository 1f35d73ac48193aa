use Rattle.std.proofs.Common.{◌∙◌, ◌+◌, ◌≡◌, ap, arith, length, map, ◌++◌}
use Rattle.mz_pmachine_theory.specs.NodeIdentity.{a_variable}
use Rattle.mz_logic_theory.specs.Words.{binders_from}
use Rattle.mz_store.specs.Bits.{bound_vars}
use Rattle.mz_pmachine_unify.specs.Numbering.{expr_of}
use Rattle.mz_pmachine_unify.specs.Entering.{variable_node, entered_all}
use Rattle.mz_pmachine_unify.proofs.Growing.{mode-of}
use Rattle.mz_pmachine_unify.proofs.Beginning.{begun-context, begun-many, begun-exprs, begun-next}
use Rattle.mz_pmachine_unify.proofs.nodes.Nodes.begin.Goals as goal

pub returns-in-Ok-clause-mode : goal.returns-in-Ok-clause-mode
returns-in-Ok-clause-mode c = ap (λ s. s.mode) c.in-Ok.ensures.ok ∙ mode-of c.clear.new.self (map variable_node c.args.params.now) ∙ c.clear.ensures.mode

pub returns-in-Ok-clause-context : goal.returns-in-Ok-clause-context
returns-in-Ok-clause-context c = ap (λ s. s.context) c.in-Ok.ensures.ok ∙ begun-context c.clear.new.self c.args.params.now
    ∙ ap (λ ctx. ctx ++ binders_from (length ctx) (bound_vars ctx) c.args.params.now) c.clear.ensures.empty.0

pub returns-in-Ok-clause-many : goal.returns-in-Ok-clause-many
returns-in-Ok-clause-many c = ap (λ s. length s.entries) c.in-Ok.ensures.ok ∙ begun-many c.clear.new.self c.args.params.now
    ∙ (let none : length c.clear.new.self.entries ≡ 0 = ap length c.clear.ensures.empty.1 in omega arith)

pub returns-in-Ok-clause-next : goal.returns-in-Ok-clause-next
returns-in-Ok-clause-next c = ap (λ s. s.next) c.in-Ok.ensures.ok ∙ begun-next c.clear.new.self c.args.params.now ∙ c.clear.ensures.empty.2

pub returns-in-Ok-clause-exprs : goal.returns-in-Ok-clause-exprs
returns-in-Ok-clause-exprs c = λ i less.
    let entries : length c.clear.new.self.entries ≡ 0 = ap length c.clear.ensures.empty.1 in
    let places : length c.clear.new.self.context ≡ 0 = ap length c.clear.ensures.empty.0 in
    let at : i ≡ length c.clear.new.self.entries + i = omega arith in
    ap (λ s. expr_of s i) c.in-Ok.ensures.ok ∙ ap (expr_of (entered_all c.clear.new.self (map variable_node c.args.params.now))) at ∙ begun-exprs c.clear.new.self c.args.params.now i less ∙ ap a_variable (omega arith)

pub returns-in-Ok-clause-over : goal.returns-in-Ok-clause-over
returns-in-Ok-clause-over c = λ sigs. c.in-Ok.ensures.over sigs (λ i inside. absurd (let none : length c.clear.new.self.entries ≡ 0 = ap length c.clear.ensures.empty.1 in omega arith))

use Rattle.std.proofs.Common.{◌∙◌, ◌+◌, ◌≡◌, ap, arith, length, map, ◌++◌}
use Rattle.mz_logic_theory.specs.Tree.{var}
use Rattle.mz_logic_theory.specs.Words.{binders_from}
use Rattle.mz_store.specs.Bits.{bound_vars}
use Rattle.mz_store.specs.Sharing.{tree_of}
use Rattle.mz_store.specs.Nodes.{variable_node, entered_all}
use Rattle.mz_store.proofs.Growing.{mode-of}
use Rattle.mz_store.proofs.Beginning.{begun-context, begun-many, begun-trees}
use Rattle.mz_store.proofs.store.Store.begin.Goals as goal

pub returns-in-Ok-clause-mode : goal.returns-in-Ok-clause-mode
returns-in-Ok-clause-mode c = ap (λ s. s.mode) c.in-Ok.ensures.ok ∙ mode-of c.clear.new.self (map variable_node c.args.params.now) ∙ c.clear.ensures.mode

pub returns-in-Ok-clause-context : goal.returns-in-Ok-clause-context
returns-in-Ok-clause-context c = ap (λ s. s.context) c.in-Ok.ensures.ok ∙ begun-context c.clear.new.self c.args.params.now
    ∙ ap (λ ctx. ctx ++ binders_from (length ctx) (bound_vars ctx) c.args.params.now) c.clear.ensures.empty.0

pub returns-in-Ok-clause-many : goal.returns-in-Ok-clause-many
returns-in-Ok-clause-many c = ap (λ s. length s.entries) c.in-Ok.ensures.ok ∙ begun-many c.clear.new.self c.args.params.now
    ∙ (let none : length c.clear.new.self.entries ≡ 0 = ap length c.clear.ensures.empty.1 in omega arith)

pub returns-in-Ok-clause-trees : goal.returns-in-Ok-clause-trees
returns-in-Ok-clause-trees c = λ i less.
    let entries : length c.clear.new.self.entries ≡ 0 = ap length c.clear.ensures.empty.1 in
    let places : length c.clear.new.self.context ≡ 0 = ap length c.clear.ensures.empty.0 in
    let at : i ≡ length c.clear.new.self.entries + i = omega arith in
    ap (λ s. tree_of s i) c.in-Ok.ensures.ok ∙ ap (tree_of (entered_all c.clear.new.self (map variable_node c.args.params.now))) at ∙ begun-trees c.clear.new.self c.args.params.now i less ∙ ap var (omega arith)

pub returns-in-Ok-clause-over : goal.returns-in-Ok-clause-over
returns-in-Ok-clause-over c = λ sigs. c.in-Ok.ensures.over sigs (λ i inside. absurd (let none : length c.clear.new.self.entries ≡ 0 = ap length c.clear.ensures.empty.1 in omega arith))

use Rattle.std.proofs.Common.{◌≡◌, List, length, drop, map}
use Rattle.mz_logic_theory.specs.Signature.{Signature}
use Rattle.mz_logic_theory.specs.Words.{BitsRightAfter}
use Rattle.mz_store.specs.Bits.{bound_vars}
use Rattle.mz_store.specs.Sharing.{IsOver}
use Rattle.mz_store.specs.Nodes.{entered_all, variable_node}
use Rattle.mz_store.proofs.store.Store.enter_all.Given as goal

abbrev pub invariant-loop-param : goal.invariant-loop-param
invariant-loop-param l = BitsRightAfter (length (bound_vars l.self.context)) (drop l.param-index l.params)
    × (entered_all l.self (map variable_node (drop l.param-index l.params)) ≡ entered_all l.fn.self (map variable_node l.params))
    × ((sigs : List Signature) → IsOver sigs l.fn.self → IsOver sigs l.self)

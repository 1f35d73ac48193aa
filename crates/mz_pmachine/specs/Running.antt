-- A machine in two parts: the statement whose body runs, and what its commands change.
use Rattle.std.specs.Prelude.{◌≡◌, length, reverse}
use Rattle.mz_store.specs.Bits.{bound_vars}
use Rattle.mz_machine_env.specs.OwnRow.{byte_of}
use Rattle.mz_machine_theory.specs.Headings.{heading_of}
use Rattle.mz_pmachine.specs.OverNodes.{IsUnderway}
use Rattle.mz_pmachine.specs.OpenNodes.{of_nodes, whole_state}
use Rattle.mz_machine.specs.OpenEquations.{AreSettled}
use Rattle.mz_pmachine_unify.specs.Stored.{items_at}
use Rattle.mz_pmachine.specs.Steps.{Underway}
use Rattle.mz_pmachine.specs.declared.machine.Setting.{Setting}
use Rattle.mz_pmachine.specs.declared.machine.Parts.{Parts}

-- the machine that both are
abbrev pub machine_of : Setting → Parts → Underway
machine_of t p = record { file = t.env.file; kind = byte_of t.kind; row = t.row; before = t.env.rows; state = whole_state p.nodes p.heap.items p.equations.items p.stack.items p.hyps.items; next = p.nodes.next; nodes = length p.nodes.entries }

abbrev pub IsRunning : Setting → Parts → Type 0
IsRunning t p =
    IsUnderway t.env.file (byte_of t.kind) t.row t.env.rows p.nodes p.heap.items p.stack.items p.hyps.items
    × (t.bound_params ≡ length (bound_vars (heading_of t.env.file (byte_of t.kind) t.row).params))
    × AreSettled (of_nodes p.nodes) (reverse p.equations.items) (items_at p.nodes p.stack.items)

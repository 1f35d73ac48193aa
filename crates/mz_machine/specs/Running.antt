-- A machine in two parts: the statement whose body runs, and what its commands change.
use Rattle.std.specs.Prelude.{length, reverse}
use Rattle.mz_base.specs.Gaps.{gaps_of}
use Rattle.mz_logic_theory.specs.Tree.{Tree}
use Rattle.mz_unify.specs.Stored.{items_at}
use Rattle.mz_machine_env.specs.OwnRow.{byte_of}
use Rattle.mz_machine_theory.specs.Headings.{kind_at}
use Rattle.mz_machine_theory.specs.MachineState.{State}
use Rattle.mz_machine.specs.OverStore.{IsUnderway}
use Rattle.mz_machine.specs.OpenEquations.{stored, AreSettled, whole_state}
use Rattle.mz_machine.specs.Parameters.{IsOwn}
use Rattle.mz_machine.specs.Steps.{Underway}
use Rattle.mz_machine.specs.declared.machine.Setting.{Setting}
use Rattle.mz_machine.specs.declared.machine.Parts.{Parts}

-- the machine that both are, in a state
abbrev pub machine_in : Setting → Parts → State Tree → Underway
machine_in t p st = record { gaps = gaps_of t.mode; file = t.env.file; kind = byte_of t.kind; row = t.row; before = t.env.rows; state = st; sorry = p.sorry; nodes = length p.store.entries }

abbrev pub machine_of : Setting → Parts → Underway
machine_of t p = machine_in t p (whole_state p.store p.heap.items p.equations.items p.stack.items p.hyps.items)

abbrev pub IsRunning : Setting → Parts → Type 0
IsRunning t p =
    IsUnderway t.env.file (byte_of t.kind) t.row t.env.rows p.store p.heap.items p.stack.items p.hyps.items
    × IsOwn t.env.file t.row (kind_at (byte_of t.kind)) t.entered
    × AreSettled (stored p.store) (reverse p.equations.items) (items_at p.store p.stack.items)

-- A command on the parts of a machine, said of the machine that they make.
use Rattle.std.specs.Prelude.{OnOk}
use Rattle.std.proofs.Common.{◌≡◌, ◌≤◌, ◌+◌, ℕ, length, Result, Ok, Err, refl, sym, ap, ◌∙◌, subst, arith, length-append}
use Rattle.mz_cmd.specs.declared.command.Cmd.{Cmd}
use Rattle.mz_cmd.specs.declared.rule.K.{K}
use Rattle.mz_pmachine_theory.specs.NodeIdentity.{Numbered, portable}
use Rattle.mz_machine_theory.specs.MachineState.{Kind, State}
use Rattle.mz_machine_theory.specs.Bodies.{body_command}
use Rattle.mz_machine_env.specs.Before.{signatures_of, tables_of}
use Rattle.mz_machine_env.specs.OwnRow.{byte_of, kind_of}
use Rattle.mz_machine_theory.specs.Headings.{kind_at, heading_of}
use Rattle.mz_unify.specs.declared.stop.Stop.{Stop}
use Rattle.mz_unify.specs.declared.stop.Stop.TheVariants.{Rule, Mem}
use Rattle.mz_machine.specs.OverStore.{UnlessMem}
use Rattle.mz_pmachine.specs.OpenNodes.{Proceeds}
use Rattle.mz_pmachine.specs.Running.{IsRunning, machine_of}
use Rattle.mz_pmachine.specs.Stepping.{IsStepped}
use Rattle.mz_pmachine.specs.Steps.{row_by, steps_by, steps_for, heading_for}
use Rattle.mz_pmachine.specs.declared.machine.Parts.{Parts}
use Rattle.mz_pmachine.specs.declared.machine.Setting.{Setting}
use Rattle.mz_pmachine_unify.specs.Numbering.{Numbering, KeepsIds}
use Rattle.mz_machine_env.proofs.Offered.{kind-byte, kind-is}
use Rattle.mz_pmachine.proofs.Machines.{goes-on}

-- nodes that keep their ids are at most one more
one-more : (s s' : Numbering) → KeepsIds s s' → length s'.entries ≤ length s.entries + 1
one-more s s' (last, is, few) = (let len : length s'.entries ≡ length s.entries + length last = ap length is ∙ length-append s.entries last in omega (arith, len, few))

module _ (t : Setting) (p q : Parts) where
  row-kind : (heading_of t.env.file (byte_of t.kind) t.row).kind ≡ kind_of t.kind
  row-kind = kind-is t.env.file t.row (kind_at (byte_of t.kind)) ∙ kind-byte t.kind

  module _ (c : Cmd) where
    abbrev by_kind : ℕ → Kind → Result (State Numbered) K
    by_kind at k = row_by (tables_of t.env) at (machine_of t p).state (body_command portable k c.code c.value)

    -- it is of a body of its row's kind
    its-kind : (at : ℕ) (r : Result (State Numbered) K) → by_kind at (kind_of t.kind) ≡ r → by_kind at (heading_of t.env.file (byte_of t.kind) t.row).kind ≡ r
    its-kind at r is = subst (λ (k : Kind). by_kind at k ≡ r) (sym row-kind) is

    abbrev Moved : {A : Type 0} → ℕ → Result A Stop → Type 0
    Moved at result = Proceeds (signatures_of t.env) at (by_kind at (kind_of t.kind)) p.nodes q.nodes q.heap.items q.equations.items q.stack.items q.hyps.items result

    pub keeps : {A : Type 0} (at : ℕ) (result : Result A Stop) → IsRunning t p → Moved at result → OnOk result (IsRunning t q)
    keeps at (Ok x) was moved =
        (goes-on t.env.file (byte_of t.kind) t.row t.env.rows p.nodes q.nodes p.heap.items p.stack.items q.heap.items q.stack.items p.hyps.items q.hyps.items was.0 moved.grows moved.heap_in moved.stack_in moved.hyps_in moved.few_hyps, was.1, moved.settled)
    keeps at (Err stop) was moved = tt

    pub stepped : {A : Type 0} (at : ℕ) (result : Result A Stop) → Moved at result → IsStepped (machine_of t p) c at (machine_of t q) result
    stepped at (Ok x) moved = (its-kind at (Ok (machine_of t q).state) moved.row_is, record { file = refl; kind = refl; row = refl; before = refl; next = moved.next; nodes = one-more p.nodes q.nodes moved.grows.keeps })
    stepped at (Err (Rule k)) moved = its-kind at (Err k) moved
    stepped at (Err Mem) moved = tt

    pub counted : {A : Type 0} (result : Result A Stop) (old new : ℕ) → UnlessMem result (new ≡ old + steps_by (tables_of t.env) (machine_of t p).state (body_command portable (kind_of t.kind) c.code c.value))
        → UnlessMem result (new ≡ old + steps_for (tables_of t.env) (heading_for (machine_of t p)) (machine_of t p).state c)
    counted result old new =
        subst (λ (k : Kind). UnlessMem result (new ≡ old + steps_by (tables_of t.env) (machine_of t p).state (body_command portable k c.code c.value))) (sym row-kind)

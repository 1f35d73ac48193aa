-- A command on the parts of a machine, said of the machine that they make.
use Rattle.std.specs.Prelude.{IfOk, OnOk, MatchResult, ◌||◌}
use Rattle.std.proofs.Common.{◌≡◌, ◌+◌, ℕ, Result, Ok, Err, refl, sym, ◌∙◌, subst}
use Rattle.mz_cmd.specs.declared.command.Cmd.{Cmd}
use Rattle.mz_cmd.specs.declared.rule.K.{K}
use Rattle.mz_cmd.specs.Codes.{proof_code}
use Rattle.mz_base.specs.Gaps.{gaps_of}
use Rattle.mz_logic_theory.specs.Tree.{Tree}
use Rattle.mz_machine_theory.specs.Profile.{plain}
use Rattle.mz_machine_theory.specs.MachineState.{Kind, State}
use Rattle.mz_machine_theory.specs.Bodies.{body_command}
use Rattle.mz_machine_env.specs.Before.{signatures_of, tables_of}
use Rattle.mz_machine_env.specs.OwnRow.{byte_of, kind_of}
use Rattle.mz_machine_theory.specs.Headings.{kind_at, heading_of}
use Rattle.mz_machine.specs.OverStore.{UnlessMem}
use Rattle.mz_machine.specs.Executing.{Proceeds, StopsAs}
use Rattle.mz_machine.specs.Running.{IsRunning, machine_of}
use Rattle.mz_machine.specs.Stepping.{IsStepped, stepped_to, UnlessMem as UnlessStepMem}
use Rattle.mz_machine.specs.Steps.{Underway, row_by, steps_by, steps_for, heading_for, is_sorry, TakesNone}
use Rattle.mz_unify.specs.declared.stop.Stop.{Stop}
use Rattle.mz_unify.specs.declared.stop.Stop.TheVariants.{Rule, Mem}
use Rattle.mz_machine.specs.declared.machine.Parts.{Parts}
use Rattle.mz_machine.specs.declared.machine.Setting.{Setting}
use Rattle.mz_machine_env.proofs.Offered.{kind-byte, kind-is}
use Rattle.mz_machine.proofs.Machines.{goes-on, one-more}

module _ (t : Setting) (p q : Parts) where
  row-kind : (heading_of t.env.file (byte_of t.kind) t.row).kind ≡ kind_of t.kind
  row-kind = kind-is t.env.file t.row (kind_at (byte_of t.kind)) ∙ kind-byte t.kind

  module _ (c : Cmd) where
    abbrev by_kind : ℕ → Kind → Result (State Tree) K
    by_kind at k = row_by (gaps_of t.mode) (tables_of t.env) at (machine_of t p).state (body_command (plain (gaps_of t.mode)) k c.code c.value)

    abbrev takes_none : Kind → Type 0
    takes_none k = TakesNone (machine_of t p).state (body_command (plain (gaps_of t.mode)) k c.code c.value)

    -- it is of a body of its row's kind
    its-kind : (at : ℕ) (r : Result (State Tree) K) → by_kind at (kind_of t.kind) ≡ r → by_kind at (heading_of t.env.file (byte_of t.kind) t.row).kind ≡ r
    its-kind at r is = subst (λ (k : Kind). by_kind at k ≡ r) (sym row-kind) is

    -- what the command answers
    abbrev Moved : {A : Type 0} → Result A Stop → Type 0
    Moved result = MatchResult result (λ _. Proceeds (signatures_of t.env) (λ at. by_kind at (kind_of t.kind)) p.store q.store q.heap.items q.equations.items q.stack.items q.hyps.items) (StopsAs (λ at. by_kind at (kind_of t.kind)) (takes_none (kind_of t.kind)))

    pub keeps : {A : Type 0} (result : Result A Stop) → IsRunning t p → Moved result → OnOk result (IsRunning t q)
    keeps (Ok x) was moved =
        (goes-on t.env.file (byte_of t.kind) t.row t.env.rows p.store q.store p.heap.items p.stack.items q.heap.items q.stack.items p.hyps.items q.hyps.items was.0 moved.grows moved.heap_in moved.stack_in moved.hyps_in.0 moved.hyps_in.1, was.1, moved.settled)
    keeps (Err stop) was moved = tt

    pub stepped : {A : Type 0} (at : ℕ) (result : Result A Stop) → Moved result → q.sorry ≡ (p.sorry || is_sorry (proof_code c.code)) → IsStepped (machine_of t p) c at (stepped_to (machine_of t q) result)
    stepped at (Ok x) moved sorry =
        (its-kind at (Ok (machine_of t q).state) (moved.row_is at), record { gaps = refl; file = refl; kind = refl; row = refl; before = refl; sorry = sorry; nodes = one-more (signatures_of t.env) p.store q.store moved.grows })
    stepped at (Err (Rule k)) moved sorry = its-kind at (Err k) (moved at)
    stepped at (Err Mem) moved sorry = λ none. moved (subst (λ (k : Kind). takes_none k) row-kind none)

    pub counted : {A : Type 0} (result : Result A Stop) (old new : ℕ)
        → UnlessMem result (new ≡ old + steps_by (gaps_of t.mode) (tables_of t.env) (machine_of t p).state (body_command (plain (gaps_of t.mode)) (kind_of t.kind) c.code c.value))
        → UnlessMem result (new ≡ old + steps_for (gaps_of t.mode) (tables_of t.env) (heading_for (machine_of t p)) (machine_of t p).state c)
    counted result old new =
        subst (λ (k : Kind). UnlessMem result (new ≡ old + steps_by (gaps_of t.mode) (tables_of t.env) (machine_of t p).state (body_command (plain (gaps_of t.mode)) k c.code c.value)))
        (sym row-kind)

pub begun-ok : {E : Type 0} (setting : Result Setting E) (result : Result Underway E) (p : Parts) (P : Underway → Type 0) → MatchResult setting (λ t. result ≡ Ok (machine_of t p)) (λ e. result ≡ Err e) → IfOk setting (λ t. P (machine_of t p)) → IfOk result P
begun-ok (Ok t) result p P is h = rw is h
begun-ok (Err e) result p P is h = rw is tt

pub stepped-unless : {A : Type 0} (u : Underway) (P : Type 0) (result : Result A Stop) → UnlessMem result P → UnlessStepMem (stepped_to u result) P
stepped-unless u P (Ok x) p = p
stepped-unless u P (Err (Rule k)) p = p
stepped-unless u P (Err Mem) p = tt

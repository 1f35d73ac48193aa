-- What is left of a body, command by command.
use Rattle.std.proofs.Common.{Result, Option, ◌≡◌, ◌⊎◌, inl, inr, ℕ, zero, suc, ◌+◌, Bool, true, false, List, drop, Some, None, Ok, Err, refl, sym, ap, ◌∙◌, subst, arith, ◌≤◌}
use Rattle.std.specs.Prelude.{◌==◌}
use Rattle.std.proofs.lemmas.Bool.{eqb-true}
use Rattle.std.proofs.lemmas.List.{drop-drop}
use Rattle.mz_cmd.specs.declared.rule.K.{K}
use Rattle.mz_cmd.specs.declared.rule.K.TheVariants as k
use Rattle.mz_cmd.specs.declared.command.Cmd.{Cmd}
use Rattle.mz_cmd.specs.declared.command.CmdFault.{CmdFault}
use Rattle.mz_cmd.specs.declared.code.ProofCode.{ProofCode}
use Rattle.mz_cmd.specs.declared.code.ProofCode.TheVariants as code
use Rattle.mz_cmd.specs.Codes.{proof_code}
use Rattle.mz_cmd.specs.Reading.{first_command}
use Rattle.mz_logic_theory.specs.Tree.{Tree}
use Rattle.mz_machine_theory.specs.Steps.{◌>>=◌, ◌>>◌, need, at_place, over, goes_on, follow}
use Rattle.mz_machine_theory.specs.Profile.{strict}
use Rattle.mz_machine_theory.specs.UnifyMachine.{is_empty}
use Rattle.mz_machine_theory.specs.MachineState.{RowsBefore, State, is_theorem, Heading}
use Rattle.mz_machine_theory.specs.ProofMachine.{proof_step, built, proof_end}
use Rattle.mz_machine_theory.specs.Bodies.{BodyCommand, ends, proves, if_allowed, body_command, body_turn_by, body_turn, body_from}
use Rattle.mz_trace.specs.Commands.{Stage, IsRead, IsMade, state_of, trace_of, Goes, Leads, size_of}
use Rattle.mz_trace.specs.Sharing.{nodes_by, nodes_for, nodes_from}
use Rattle.mz_trace.specs.Runs.{RunsFrom, LeadsToEnd}
use Rattle.mz_trace.specs.Traces.{Trace, traced, trace_from}
use Rattle.mz_trace.proofs.Known.{known-kept}

abbrev read-is : Cmd → Result Cmd CmdFault
read-is c = Ok c

abbrev finished : State Tree → Result (State Tree) K
finished s = Ok s

abbrev pub traces : State Tree → Trace → Result (State Tree × Trace) K
traces st tr = Ok (st, tr)

module _ (tables : RowsBefore) (h : Heading) (at : ℕ) (st end : State Tree) where
  -- the END stands here
  abbrev pub EndsHere : Cmd → ℕ → List ℕ → Type 0
  EndsHere c n bytes = (body_command strict h.kind c.code c.value ≡ Some ends) × (proof_end strict tables h st ≡ Ok end) × ((tr : Trace) → trace_from tables h n bytes (st, tr) ≡ traces st tr)

  -- or a command that leads on
  abbrev pub GoesOn : Cmd → ℕ → List ℕ → Type 0
  GoesOn c n bytes = (pc : ProofCode) × (value m : ℕ) × (st' : State Tree) × (body_command strict h.kind c.code c.value ≡ Some (proves pc value)) × (proof_step strict tables at pc value st ≡ Ok st')
      × (body_from strict tables h m (at + c.len) (drop c.len bytes) st' ≡ Ok end)
      × ((tr tr' : Trace) → proof_step strict tables 0 pc value st ≡ Ok st' → traced tables pc value st tr ≡ Ok tr' → trace_from tables h n bytes (st, tr) ≡ trace_from tables h m (drop c.len bytes) (st', tr'))
      × (nodes_from n bytes ≡ nodes_by (proof_code c.code) + nodes_from m (drop c.len bytes))

  by-command : (c : Cmd) (n : ℕ) (bytes : List ℕ) (o : Option BodyCommand) → first_command bytes ≡ Ok c → body_command strict h.kind c.code c.value ≡ o
      → follow (at_place at (body_turn_by strict tables h at c.len (drop c.len bytes) st o)) (λ len s. body_from strict tables h n (at + len) (drop len bytes) s) ≡ Ok end
      → EndsHere c (suc n) bytes ⊎ GoesOn c (suc n) bytes
  unfolding trace_from nodes_from
  by-command c n bytes None read is run = absurd cc
  by-command c n bytes (Some ends) read is run = go (is_empty (drop c.len bytes)) (proof_end strict tables h st) refl run
    where
      go : (b : Bool) (r : Result (State Tree) K) → proof_end strict tables h st ≡ r
          → follow (at_place at (need b k.StatementLength >> r >>= λ s. Ok (over s))) (λ len s. body_from strict tables h n (at + len) (drop len bytes) s) ≡ Ok end
          → EndsHere c (suc n) bytes ⊎ GoesOn c (suc n) bytes
      go true (Ok s) done run = let same : s ≡ end = cc in inl (is, done ∙ ap (λ z. finished z) same, λ tr. rw (read, is) refl)
      go _ _ done run = absurd cc
  by-command c n bytes (Some (proves pc value)) read is run = go (proof_step strict tables at pc value st) refl run
    where
      go : (r : Result (State Tree) K) → proof_step strict tables at pc value st ≡ r
          → follow (at_place at (r >>= λ s. Ok (goes_on c.len s))) (λ len s. body_from strict tables h n (at + len) (drop len bytes) s) ≡ Ok end
          → EndsHere c (suc n) bytes ⊎ GoesOn c (suc n) bytes
      go (Err f) row run = absurd cc
      go (Ok s) row run = inr (pc, value, n, s, is, row, run, λ tr tr' row0 made. rw (read, is, row0, made) refl, rw read refl)

  pub next-command : (n : ℕ) (bytes : List ℕ) → body_from strict tables h n at bytes st ≡ Ok end → (c : Cmd) × (first_command bytes ≡ Ok c) × (EndsHere c n bytes ⊎ GoesOn c n bytes)
  unfolding body_from
  next-command zero bytes run = absurd cc
  next-command (suc n) bytes run = go (first_command bytes) refl run
    where
      go : (r : Result Cmd CmdFault) → first_command bytes ≡ r
          → follow (at_place at (body_turn strict tables h at bytes st r)) (λ len s. body_from strict tables h n (at + len) (drop len bytes) s) ≡ Ok end
          → (c : Cmd) × (first_command bytes ≡ Ok c) × (EndsHere c (suc n) bytes ⊎ GoesOn c (suc n) bytes)
      go (Err f) read run = absurd cc
      go (Ok c) read run = (c, read, by-command c n bytes (body_command strict h.kind c.code c.value) read refl run)

-- the place of a command is of no account
pub any-place : (tables : RowsBefore) (at : ℕ) (c : ProofCode) (n : ℕ) (st : State Tree) → proof_step strict tables at c n st ≡ proof_step strict tables 0 c n st
unfolding proof_step built
any-place tables at code.Term n st = refl
any-place tables at _ n st = refl

-- ---- codes

some-proves : (c d : ProofCode) (v w : ℕ) (o : Option BodyCommand) → o ≡ Some (proves c v) → o ≡ Some (proves d w) → (c ≡ d) × (v ≡ w)
some-proves c d v w o e f = let same : Some (proves c v) ≡ Some (proves d w) = sym e ∙ f in (cc, cc)

by-zero : (b v : ℕ) → ((b ≡ 0) × (body_command strict is_theorem b v ≡ Some ends)) ⊎ (body_command strict is_theorem b v ≡ if_allowed strict is_theorem v (proof_code b))
by-zero b v = go (b == 0x00) refl
  where
    go : (z : Bool) → (b == 0x00) ≡ z → ((b ≡ 0) × (body_command strict is_theorem b v ≡ Some ends)) ⊎ (body_command strict is_theorem b v ≡ if_allowed strict is_theorem v (proof_code b))
    go true is = inl (eqb-true b 0 is, rw is refl)
    go false is = inr (rw is refl)

allowed-is : (v : ℕ) (pc : ProofCode) → if_allowed strict is_theorem v (Some pc) ≡ Some (proves pc v)
allowed-is v code.Term = refl
allowed-is v _ = refl

-- a proof's code is the command's, and what has none ends the body
pub a-proof : (b v : ℕ) (pc : ProofCode) → proof_code b ≡ Some pc → body_command strict is_theorem b v ≡ Some (proves pc v)
a-proof b v pc has = go (by-zero b v)
  where
    go : ((b ≡ 0) × (body_command strict is_theorem b v ≡ Some ends)) ⊎ (body_command strict is_theorem b v ≡ if_allowed strict is_theorem v (proof_code b)) → body_command strict is_theorem b v ≡ Some (proves pc v)
    go (inl (zero-is, e)) = absurd (let none : None ≡ Some pc = sym (ap proof_code zero-is) ∙ has in cc)
    go (inr e) = e ∙ ap (if_allowed strict is_theorem v) has ∙ allowed-is v pc

pub no-proof : (b v : ℕ) (pc : ProofCode) (w : ℕ) → proof_code b ≡ None → body_command strict is_theorem b v ≡ Some (proves pc w) → ⊥
no-proof b v pc w none is = go (by-zero b v)
  where
    go : ((b ≡ 0) × (body_command strict is_theorem b v ≡ Some ends)) ⊎ (body_command strict is_theorem b v ≡ if_allowed strict is_theorem v (proof_code b)) → ⊥
    go (inl (zero-is, e)) = let no : Some ends ≡ Some (proves pc w) = sym e ∙ is in cc
    go (inr e) = let no : None ≡ Some (proves pc w) = sym (e ∙ ap (if_allowed strict is_theorem v) none) ∙ is in cc

read-same : (x y : Cmd) → read-is x ≡ read-is y → x ≡ y
read-same x y e = cc

-- the row of this command, and what is left behind it
abbrev pub GoesOnBy : RowsBefore → Heading → ℕ → State Tree → State Tree → Cmd → ℕ → List ℕ → ProofCode → Type 0
GoesOnBy tables h at st end c n bytes pc = (m : ℕ) × (st' : State Tree) × (proof_step strict tables 0 pc c.value st ≡ Ok st')
    × (body_from strict tables h m (at + c.len) (drop c.len bytes) st' ≡ Ok end)
    × ((tr tr' : Trace) → proof_step strict tables 0 pc c.value st ≡ Ok st' → traced tables pc c.value st tr ≡ Ok tr' → trace_from tables h n bytes (st, tr) ≡ trace_from tables h m (drop c.len bytes) (st', tr'))
    × (nodes_from n bytes ≡ nodes_for pc + nodes_from m (drop c.len bytes))

-- ---- a body that is underway

module _ (file bytes : List ℕ) (s0 : Stage) where
  abbrev pub IsUnderway : ℕ → Stage → Type 0
  IsUnderway at s = (tables : RowsBefore) (h : Heading) (n p : ℕ) (end : State Tree)
      → IsRead file tables h.params s0 → h.kind ≡ is_theorem → IsMade tables h.params s0 → body_from strict tables h n p bytes (state_of h.params s0) ≡ Ok end
      → IsRead file tables h.params s × IsMade tables h.params s × ((m q : ℕ) × (body_from strict tables h m q (drop at bytes) (state_of h.params s) ≡ Ok end)
      × (trace_from tables h n bytes (state_of h.params s0, trace_of s0) ≡ trace_from tables h m (drop at bytes) (state_of h.params s, trace_of s))
      × (size_of s + nodes_from m (drop at bytes) ≤ size_of s0 + nodes_from n bytes))

  pub at-first : IsUnderway 0 s0
  at-first tables h n p end q kind made run = (q, made, (n, p, run, refl, omega arith))

  pub runs-on : (at : ℕ) (s : Stage) → RunsFrom file bytes s0 → IsUnderway at s → RunsFrom file (drop at bytes) s
  runs-on at s (tables, h, n, p, end, q, kind, made, run) on =
      let (q1, made1, (m, p1, run1, same, few)) = on tables h n p end q kind made run in (tables, h, m, p1, end, q1, kind, made1, run1)

  module _ (at : ℕ) (s : Stage) (on : IsUnderway at s) (c : Cmd) (read : first_command (drop at bytes) ≡ Ok c) where
    -- what the next command is
    module _ (tables : RowsBefore) (h : Heading) (kind : h.kind ≡ is_theorem) (p : ℕ) (end : State Tree) (m : ℕ) where
      abbrev here : State Tree
      here = state_of h.params s

      next : body_from strict tables h m p (drop at bytes) here ≡ Ok end → EndsHere tables h p here end c m (drop at bytes) ⊎ GoesOn tables h p here end c m (drop at bytes)
      next run =
          let (d, read1, cases) = next-command tables h p here end m (drop at bytes) run in
          let is : d ≡ c = read-same d c (sym read1 ∙ read) in
          subst (λ (x : Cmd). EndsHere tables h p here end x m (drop at bytes) ⊎ GoesOn tables h p here end x m (drop at bytes)) is cases

      pub a-row : (pc : ProofCode) → proof_code c.code ≡ Some pc → body_from strict tables h m p (drop at bytes) here ≡ Ok end → GoesOnBy tables h p here end c m (drop at bytes) pc
      a-row pc has run = go (next run)
        where
          coded : body_command strict h.kind c.code c.value ≡ Some (proves pc c.value)
          coded = ap (λ z. body_command strict z c.code c.value) kind ∙ a-proof c.code c.value pc has

          by-same : (pc1 : ProofCode) (value : ℕ) → pc1 ≡ pc → value ≡ c.value → (n1 : ℕ) (st' : State Tree) → proof_step strict tables p pc1 value here ≡ Ok st'
              → body_from strict tables h n1 (p + c.len) (drop c.len (drop at bytes)) st' ≡ Ok end
              → ((tr tr' : Trace) → proof_step strict tables 0 pc1 value here ≡ Ok st' → traced tables pc1 value here tr ≡ Ok tr' → trace_from tables h m (drop at bytes) (here, tr) ≡ trace_from tables h n1 (drop c.len (drop at bytes)) (st', tr'))
              → nodes_from m (drop at bytes) ≡ nodes_by (proof_code c.code) + nodes_from n1 (drop c.len (drop at bytes))
              → GoesOnBy tables h p here end c m (drop at bytes) pc
          by-same pc1 value pc-is value-is n1 st' row run1 same count = (
            n1,
            st',
            sym (any-place tables p pc c.value here) ∙ subst (λ z. proof_step strict tables p z c.value here ≡ Ok st') pc-is (subst (λ z. proof_step strict tables p pc1 z here ≡ Ok st') value-is row),
            run1,
            λ tr tr' row0 made. same tr tr' (subst (λ z. proof_step strict tables 0 z value here ≡ Ok st') (sym pc-is) (subst (λ z. proof_step strict tables 0 pc z here ≡ Ok st') (sym value-is) row0))
                (subst (λ z. traced tables z value here tr ≡ Ok tr') (sym pc-is) (subst (λ z. traced tables pc z here tr ≡ Ok tr') (sym value-is) made)),
            subst (λ (o : Option ProofCode). nodes_from m (drop at bytes) ≡ nodes_by o + nodes_from n1 (drop c.len (drop at bytes))) has count,
          )

          go : EndsHere tables h p here end c m (drop at bytes) ⊎ GoesOn tables h p here end c m (drop at bytes) → GoesOnBy tables h p here end c m (drop at bytes) pc
          go (inl e) = absurd (let no : Some ends ≡ Some (proves pc c.value) = sym e.0 ∙ coded in cc)
          go (inr (pc1, value, n1, st', is, row, run1, same, count)) =
              let (pc-is, value-is) = some-proves pc1 pc value c.value _ is coded in
              by-same pc1 value pc-is value-is n1 st' row run1 same count

      pub an-end : proof_code c.code ≡ None → body_from strict tables h m p (drop at bytes) here ≡ Ok end → EndsHere tables h p here end c m (drop at bytes)
      an-end none run = go (next run)
        where
          go : EndsHere tables h p here end c m (drop at bytes) ⊎ GoesOn tables h p here end c m (drop at bytes) → EndsHere tables h p here end c m (drop at bytes)
          go (inl e) = e
          go (inr (pc, value, n1, st', is, row, run1, same, count)) = absurd (no-proof c.code c.value pc value none (ap (λ z. body_command strict z c.code c.value) (sym kind) ∙ is))

    pub goes-over : (pc : ProofCode) → proof_code c.code ≡ Some pc → RunsFrom file bytes s0 → Goes (IsRead file) pc c.value s
    goes-over pc has (tables, h, n, p, end, q, kind, made, run) =
        let (q1, made1, (m, p1, run1, same, few)) = on tables h n p end q kind made run in
        let (n1, st', row, run2, more, count) = a-row tables h kind p1 end m pc has run1 in
        (tables, h.params, st', q1, made1, row)

    pub goes-further : (pc : ProofCode) (s' : Stage) → proof_code c.code ≡ Some pc → Leads (IsRead file) pc c.value s s' → IsUnderway (at + c.len) s'
    goes-further pc s' has leads tables h n p end q kind made run =
        let (q1, made1, (m, p1, run1, same, few)) = on tables h n p end q kind made run in
        let (n1, st', row, run2, more, count) = a-row tables h kind p1 end m pc has run1 in
        let (made2, state-is, trace-is, fewer) = leads tables h.params st' q1 made1 row in
        let there : drop c.len (drop at bytes) ≡ drop (at + c.len) bytes = drop-drop c.len at bytes in (
          (q1.0, known-kept tables h.params pc c.value s s' q1.1 (row ∙ ap (λ z. finished z) state-is)),
          made2,
          (
            n1,
            p1 + c.len,
            subst (λ bs. body_from strict tables h n1 (p1 + c.len) bs (state_of h.params s') ≡ Ok end) there (subst (λ z. body_from strict tables h n1 (p1 + c.len) (drop c.len (drop at bytes)) z ≡ Ok end) state-is run2),
            same ∙ more (trace_of s) (trace_of s') row trace-is ∙ ap (λ z. trace_from tables h n1 (drop c.len (drop at bytes)) (z, trace_of s')) state-is
                ∙ ap (λ bs. trace_from tables h n1 bs (state_of h.params s', trace_of s')) there,
            omega (arith, few, count, fewer, ap (nodes_from n1) there),
          ),
        )

    pub ends-there : proof_code c.code ≡ None → LeadsToEnd file bytes s0 s
    ends-there none tables h n p end q kind made run =
        let (q1, made1, (m, p1, run1, same, few)) = on tables h n p end q kind made run in
        let (is, done, last) = an-end tables h kind p1 end m none run1 in
        (made1, done, same ∙ last (trace_of s), omega (arith, few))

-- a command stands there
pub reads : (file bytes : List ℕ) (s : Stage) → RunsFrom file bytes s → (c : Cmd) × (first_command bytes ≡ Ok c)
reads file bytes s (tables, h, n, p, end, q, kind, made, run) = let (c, read, cases) = next-command tables h p (state_of h.params s) end n bytes run in (c, read)

-- and none that can't be read
pub reads-on : (file bytes : List ℕ) (s0 : Stage) → RunsFrom file bytes s0 → (at : ℕ) (s : Stage) → IsUnderway file bytes s0 at s → (f : CmdFault) → first_command (drop at bytes) ≡ Err f → ⊥
reads-on file bytes s0 runs at s on f fails =
    let (c, read) = reads file (drop at bytes) s (runs-on file bytes s0 at s runs on) in
    let no : read-is c ≡ Err f = sym read ∙ fails in cc

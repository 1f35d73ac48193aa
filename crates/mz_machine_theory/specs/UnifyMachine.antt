-- The unify machine: a stream of commands takes a target apart against operands (the .mmb format).
use Rattle.std.specs.Prelude.{ℕ, zero, suc, ◌+◌, Bool, true, false, not, ◌==◌, ◌||◌, ◌&&◌, if◌then◌else◌, List, [], ◌∷◌, ◌++◌, length, drop, Option, Some, None, Result, Ok, Err, slice_get}
use Rattle.mz_cmd.specs.declared.rule.K.{K}
use Rattle.mz_cmd.specs.declared.rule.K.TheVariants as k
use Rattle.mz_cmd.specs.declared.command.Cmd.{Cmd}
use Rattle.mz_cmd.specs.declared.command.CmdFault.{CmdFault}
use Rattle.mz_cmd.specs.Reading.{first_command}
use Rattle.mz_logic_theory.specs.Signature.{Signature}
use Rattle.mz_logic_theory.specs.Legality.{sort_of}
use Rattle.mz_logic_theory.specs.declared.binder.Binder.{Binder}
use Rattle.mz_machine_theory.specs.Steps.{◌>>=◌, ◌>>◌, need, want, at_place, Turn, over, goes_on, follow, goes_to, if_read}
use Rattle.mz_machine_theory.specs.Streams.{StreamKind, of_assertion, of_definition, UnifyCommand, u_term, u_term_save, u_ref, u_dummy, u_hyp, u_end, unify_command}
use Rattle.mz_machine_theory.specs.Profile.{Profile, Item, expr, proof, obligation, conversion}
use Rattle.mz_machine_theory.specs.Tests.{is_bound_var, var_within}

-- where a stream runs: in a citation it takes hypotheses from the stack, at an assertion's END from the
-- hypotheses of the body, for a definition (unfolded, or at its END) there are none
pub data UnifyMode : Type 0 where
  in_citation : UnifyMode
  at_end : UnifyMode
  in_definition : UnifyMode

abbrev pub kind_of : UnifyMode → StreamKind
kind_of in_citation = of_assertion
kind_of at_end = of_assertion
kind_of in_definition = of_definition

-- a stream that is run: against these operands, on a target, with the items from which hypotheses are
-- taken, the next one first
pub record Matching (T : Type 0) : Type 0 where
  pub mode : UnifyMode
  pub stream : List ℕ
  pub operands : List T
  pub target : T
  pub items : List (Item T)

-- the heap; what a dummy is kept apart from; the targets, the top first; the items that are left
pub record UnifyState (T : Type 0) : Type 0 where
  pub heap : List T
  pub apart : List T
  pub targets : List T
  pub items : List (Item T)

-- the top target and those below it
abbrev pub top_target : {T : Type 0} → List T → Result (T × List T) K
top_target [] = Err k.UnifyRest
top_target (e ∷ es) = Ok (e, es)

abbrev pub is_empty : {A : Type 0} → List A → Bool
is_empty [] = true
is_empty (x ∷ xs) = false

abbrev pub proved_by : {T : Type 0} → Item T → Option T
proved_by (expr e) = None
proved_by (proof e) = Some e
proved_by (obligation l r) = None
proved_by (conversion l r) = None

-- the next hypothesis and the items after it
abbrev pub next_hypothesis : {T : Type 0} → UnifyMode → List (Item T) → Result (T × List (Item T)) K
next_hypothesis at_end [] = Err k.UnifyHypothesis
next_hypothesis in_citation [] = Err k.Underflow
next_hypothesis in_definition [] = Err k.Underflow
next_hypothesis mode (x ∷ xs) = want (proved_by x) k.Kind >>= λ e. Ok (e, xs)

-- an application of term t: its operands
abbrev pub operands_of : {T : Type 0} → ℕ → Option (ℕ × List T) → Option (List T)
operands_of t None = None
operands_of t (Some p) = if p.0 == t then Some p.1 else None

-- e is a variable in V of one of these
abbrev pub within_any : (P : Profile) → List Binder → P.T → List P.T → Bool
within_any P ctx e [] = false
within_any P ctx e (f ∷ fs) = var_within ctx (P.tree e) (P.tree f) || within_any P ctx e fs

-- a bound variable of the sort, in V of no operand and no earlier dummy
abbrev pub is_fresh : (P : Profile) → List Signature → List Binder → ℕ → P.T → List P.T → Bool
is_fresh P sigs ctx s e apart = is_bound_var ctx (P.tree e) && sort_of sigs ctx (P.tree e) == s && not (within_any P ctx e apart)

-- at an assertion's END all hypotheses of the body are taken
abbrev pub nothing_left : {T : Type 0} → UnifyMode → List (Item T) → Bool
nothing_left in_citation items = true
nothing_left at_end items = is_empty items
nothing_left in_definition items = true

-- one clause a command: its premises in order, and the next state
unfoldable pub unify_step : (P : Profile) → List Signature → List Binder → UnifyMode → UnifyCommand → UnifyState P.T → Result (UnifyState P.T) K
unify_step P sigs ctx mode (u_term t) st = do
  top ← top_target st.targets
  es ← want (operands_of t (P.parts top.0)) k.UnifyTerm
  Ok (record st { targets = es ++ top.1 })
unify_step P sigs ctx mode (u_term_save t) st = do
  top ← top_target st.targets
  es ← want (operands_of t (P.parts top.0)) k.UnifyTerm
  Ok (record st { targets = es ++ top.1; heap = st.heap ++ top.0 ∷ []; apart = if P.portable then st.apart ++ top.0 ∷ [] else st.apart })
unify_step P sigs ctx mode (u_ref i) st = do
  top ← top_target st.targets
  e ← want (slice_get st.heap i) k.UnifyReference
  need (P.same e top.0) k.UnifyReference
  Ok (record st { targets = top.1 })
unify_step P sigs ctx mode (u_dummy s) st = do
  top ← top_target st.targets
  need (is_fresh P sigs ctx s top.0 st.apart) k.UnifyDummy
  Ok (record st { targets = top.1; heap = st.heap ++ top.0 ∷ []; apart = st.apart ++ top.0 ∷ [] })
unify_step P sigs ctx mode u_hyp st = do
  need (is_empty st.targets) k.UnifyRest
  next ← next_hypothesis mode st.items
  Ok (record st { targets = next.0 ∷ []; items = next.1 })
unify_step P sigs ctx mode u_end st = do
  need (is_empty st.targets && nothing_left mode st.items) k.UnifyRest
  Ok st

-- the command at the front: cut, unknown or of another stream, or its row
abbrev pub unify_turn_by : (P : Profile) → List Signature → List Binder → UnifyMode → ℕ → UnifyState P.T → Option UnifyCommand → Result (Turn (UnifyState P.T)) K
unify_turn_by P sigs ctx mode len st None = Err k.Command
unify_turn_by P sigs ctx mode len st (Some u_end) = unify_step P sigs ctx mode u_end st >>= λ s. Ok (over s)
unify_turn_by P sigs ctx mode len st (Some u) = unify_step P sigs ctx mode u st >>= λ s. Ok (goes_on len s)

abbrev pub unify_turn : (P : Profile) → List Signature → List Binder → UnifyMode → UnifyState P.T → Result Cmd CmdFault → Result (Turn (UnifyState P.T)) K
unify_turn P sigs ctx mode st (Err _) = Err k.Command
unify_turn P sigs ctx mode st (Ok c) = unify_turn_by P sigs ctx mode c.len st (unify_command (kind_of mode) c.code c.value)

-- Runs what is left of a stream, which stands at a place: n bounds its commands, of which each takes a
-- byte. Beside the rule that fails stands the place of its command.
unfoldable pub unify_from : (P : Profile) → List Signature → List Binder → UnifyMode → ℕ → ℕ → List ℕ → UnifyState P.T → Result (UnifyState P.T) (ℕ × K)
unify_from P sigs ctx mode zero at bytes st = Err (at, k.Command)
unify_from P sigs ctx mode (suc n) at bytes st =
    follow (at_place at (unify_turn P sigs ctx mode st (first_command bytes)))
    (λ len s. unify_from P sigs ctx mode n (at + len) (drop len bytes) s)

-- at first the operands are in the heap
abbrev pub at_start : {T : Type 0} → Matching T → UnifyState T
at_start m = record { heap = m.operands; apart = m.operands; targets = m.target ∷ []; items = m.items }

unfoldable pub unify : (P : Profile) → List Signature → List Binder → Matching P.T → Result (UnifyState P.T) (ℕ × K)
unify P sigs ctx m = unify_from P sigs ctx m.mode (length m.stream) 0 m.stream (at_start m)

-- The commands executed: each that is read, up to the END or the one that is refused. One that is cut or
-- unknown isn't executed; one of another kind of stream is.
unfoldable pub unify_steps_from : (P : Profile) → List Signature → List Binder → UnifyMode → ℕ → List ℕ → UnifyState P.T → ℕ
unify_steps_from P sigs ctx mode zero bytes st = 0
unify_steps_from P sigs ctx mode (suc n) bytes st =
    if_read (first_command bytes) (λ c. suc (goes_to (unify_turn P sigs ctx mode st (Ok c)) (λ len s. unify_steps_from P sigs ctx mode n (drop len bytes) s)))

abbrev pub unify_steps : (P : Profile) → List Signature → List Binder → Matching P.T → ℕ
unify_steps P sigs ctx m = unify_steps_from P sigs ctx m.mode (length m.stream) m.stream (at_start m)

-- A run that is underway, in any machine: the run from here is the whole run, and so is the count.
use Rattle.std.proofs.Common.{◌≡◌, ℕ, suc, Bool, true, false, cond, eqb, Option, ◌+◌, ◌-◌, ◌<◌, ◌≤◌, List, [], ◌++◌, length, drop, Some, None, Result, Ok, Err, refl, sym, ap, subst, ◌∙◌, arith, append_assoc, length-append}
use Rattle.std.proofs.lemmas.List.{append-nil, drop-drop}
use Rattle.mz_cmd.specs.declared.rule.K.{K}
use Rattle.mz_cmd.specs.declared.rule.K.TheVariants as k
use Rattle.mz_cmd.specs.declared.command.Cmd.{Cmd}
use Rattle.mz_cmd.specs.declared.command.CmdFault.{CmdFault}
use Rattle.mz_cmd.specs.declared.code.UnifyCode.{UnifyCode}
use Rattle.mz_cmd.specs.declared.code.UnifyCode.TheVariants as codes
use Rattle.mz_cmd.specs.Codes.{unify_code}
use Rattle.mz_cmd.specs.Reading.{first_command}
use Rattle.mz_logic_theory.specs.Signature.{Signature}
use Rattle.mz_logic_theory.specs.declared.binder.Binder.{Binder}
use Rattle.mz_machine_theory.specs.Streams.{StreamKind, of_assertion, of_definition, UnifyCommand, u_dummy, u_end, IsEnd, command_in, unify_command}
use Rattle.mz_machine_theory.specs.Profile.{Profile, Item}
use Rattle.mz_machine_theory.specs.UnifyMachine.{UnifyMode as Mode, in_citation, at_end, in_definition, kind_of, Matching, UnifyState, unify_step, unify_from, unify_steps_from, at_start, unify, unify_steps}
use Rattle.mz_unify.specs.Stored.{AreLeft, EndsWith, IsRun, OnDone, Says, UnlessMem}
use Rattle.mz_unify.specs.Rows.{command_of, StopsBy, stopped_at}
use Rattle.mz_unify.specs.declared.unified.Unified.{Unified}
use Rattle.mz_unify.specs.declared.command.Command.{Command}
use Rattle.mz_unify.specs.declared.command.Command.TheVariants.{Term, TermSave, Ref, Dummy, Hyp, End}
use Rattle.mz_unify.specs.declared.stop.Stop.{Stop}
use Rattle.mz_unify.specs.declared.stop.Stop.TheVariants.{Rule, Mem}
use Rattle.mz_unify.proofs.UnifyTurns.{run_left, count_left, cut-run, cut-count, other-run, other-count, stopped-run, stopped-count, ended-run, ended-count, went-run, went-count}

-- At a place of the stream the state is one of these: what the code doesn't keep is known only so far. What is left from
-- there gives the whole, which began with a state and a count.
pub record IsUnderway (P : Profile) (sigs : List Signature) (ctx : List Binder) (mode : Mode) (A : Type 0) (stream : List ℕ) (start : UnifyState P.T) (first at : ℕ) (Known : A → Type 0) (state : A → UnifyState P.T) (steps : ℕ) : Type 0 where
  pub left : (a : A) × Known a × (run_left P sigs ctx mode 0 stream start ≡ run_left P sigs ctx mode at (drop at stream) (state a))
      × (steps + count_left P sigs ctx mode (drop at stream) (state a) ≡ first + count_left P sigs ctx mode stream start)

pub not-end : (n : Command) → (n ≡ End → ⊥) → IsEnd (command_of n) → ⊥
not-end (Term t) h e = e
not-end (TermSave t) h e = e
not-end (Ref i) h e = e
not-end (Dummy s) h e = e
not-end Hyp h e = e
not-end End h e = h refl

-- only definitions have dummies
dummy-in : (kind : StreamKind) (value sort : ℕ) (o : Option UnifyCode) → command_in kind value o ≡ Some (u_dummy sort) → kind ≡ of_definition
dummy-in kind value sort None e = absurd cc
dummy-in kind value sort (Some codes.Term) e = absurd cc
dummy-in kind value sort (Some codes.TermSave) e = absurd cc
dummy-in kind value sort (Some codes.Ref) e = absurd cc
dummy-in of_assertion value sort (Some codes.Dummy) e = absurd cc
dummy-in of_definition value sort (Some codes.Dummy) e = refl
dummy-in of_assertion value sort (Some codes.Hyp) e = absurd cc
dummy-in of_definition value sort (Some codes.Hyp) e = absurd cc

dummy-by : (kind : StreamKind) (byte value sort : ℕ) → unify_command kind byte value ≡ Some (u_dummy sort) → kind ≡ of_definition
dummy-by kind byte value sort e = go (eqb byte 0x00) e
  where
    go : (a : Bool) → cond a (Some u_end) (command_in kind value (unify_code byte)) ≡ Some (u_dummy sort) → kind ≡ of_definition
    go true h = absurd cc
    go false h = dummy-in kind value sort (unify_code byte) h

of-definitions : (mode : Mode) → kind_of mode ≡ of_definition → mode ≡ in_definition
of-definitions in_citation e = absurd cc
of-definitions at_end e = absurd cc
of-definitions in_definition e = refl

pub dummy-stands : (mode : Mode) (byte value sort : ℕ) (c : Command) → unify_command (kind_of mode) byte value ≡ Some (command_of c) → c ≡ Dummy sort → mode ≡ in_definition
dummy-stands mode byte value sort c is same = of-definitions mode (dummy-by (kind_of mode) byte value sort (is ∙ ap (λ (d : Command). Some (command_of d)) same))

pub left-none : {A : Type 0} (xs : List A) → AreLeft xs xs 0
left-none xs = ([], sym (append-nil xs), refl)

pub left-both : {A : Type 0} (xs ys zs : List A) (m n : ℕ) → AreLeft xs ys m → AreLeft ys zs n → AreLeft xs zs (m + n)
left-both xs ys zs m n (gone, is, many) (more, are, count) =
    (more ++ gone, is ∙ ap (λ ws. ws ++ gone) are ∙ append_assoc zs more gone, length-append more gone ∙ omega arith)

-- so many that there were and are left, in two steps, say how many are taken
module _ {A : Type 0} (xs ys zs : List A) (at before after : ℕ) (left : (m : ℕ) × (m ≤ at) × AreLeft xs ys m) (right : (n : ℕ) × (n ≤ 1) × AreLeft ys zs n) (e : before ≡ length xs) (f : after ≡ length zs) where
  both : AreLeft xs zs (left.0 + right.0)
  both = left-both xs ys zs left.0 right.0 left.2 right.2

  taken-sum : before ≡ after + (left.0 + right.0)
  taken-sum = let (gone, is, many) = both in omega (arith, ap length is, length-append zs gone)

  pub taken-there : after ≤ before
  taken-there = omega (arith, taken-sum)

  pub taken-exactly : AreLeft xs zs (before - after)
  taken-exactly = subst (AreLeft xs zs) (omega (arith, taken-sum)) both

  pub taken-fits : (len whole most : ℕ) → 1 ≤ len → at + len ≤ whole → whole < most → before - after < most
  taken-fits len whole most one within small = omega (arith, taken-sum, left.1, right.1)

-- of a count: no more than one for each byte
pub counted-within : (first steps at whole : ℕ) → steps ≤ first + at → at ≤ whole → steps ≤ first + whole
counted-within first steps at whole most within = omega arith

pub counted-once : (first steps later at len whole : ℕ) → later ≡ steps + 1 → steps ≤ first + at → 1 ≤ len → at + len ≤ whole → later ≤ first + whole
counted-once first steps later at len whole more most one within = omega arith

pub stopped-not-done : (at : ℕ) (stop : Stop) (Q : ℕ → Type 0) → OnDone (stopped_at at stop) Q
stopped-not-done at (Rule rule) Q = tt
stopped-not-done at Mem Q = tt

module _ {P : Profile} {sigs : List Signature} {ctx : List Binder} {mode : Mode} {A : Type 0} {stream : List ℕ} {start : UnifyState P.T} {first at : ℕ} {Known : A → Type 0} {state : A → UnifyState P.T} {steps : ℕ} (h : IsUnderway P sigs ctx mode A stream start first at Known state steps) where
  abbrev whole : Result (UnifyState P.T) (ℕ × K)
  whole = run_left P sigs ctx mode 0 stream start

  abbrev many : ℕ
  many = count_left P sigs ctx mode stream start

  pub cut-whole : (f : CmdFault) → first_command (drop at stream) ≡ Err f → whole ≡ Err (at, k.Command)
  cut-whole f read = let (a, is, run, count) = h.left in run ∙ cut-run P sigs ctx mode at (drop at stream) (state a) f read

  pub cut-many : (f : CmdFault) → first_command (drop at stream) ≡ Err f → steps ≡ first + many
  cut-many f read =
      let (a, is, run, count) = h.left in
      let none = cut-count P sigs ctx mode (drop at stream) (state a) f read in
      omega arith

  module _ (c : Cmd) (read : first_command (drop at stream) ≡ Ok c) where
    pub other-whole : unify_command (kind_of mode) c.code c.value ≡ None → whole ≡ Err (at, k.Command)
    other-whole none = let (a, is, run, count) = h.left in run ∙ other-run P sigs ctx mode (drop at stream) (state a) c read at none

    pub other-many : unify_command (kind_of mode) c.code c.value ≡ None → steps + 1 ≡ first + many
    other-many none =
        let (a, is, run, count) = h.left in
        let one = other-count P sigs ctx mode (drop at stream) (state a) c read none in
        omega arith

    module _ (u : UnifyCommand) (here : unify_command (kind_of mode) c.code c.value ≡ Some u) where
      -- ---- a rule stops the command, or out of memory

      -- from each state that this may be
      abbrev pub Stops : Stop → Type 0
      Stops stop = (a : A) → Known a → StopsBy stop (λ rule. unify_step P sigs ctx mode u (state a) ≡ Err rule)

      pub stopped-whole : (stop : Stop) (Q : ℕ → Type 0) → Stops stop → Says (stopped_at at stop) Q (λ place rule. whole ≡ Err (place, rule))
      stopped-whole (Rule rule) Q stops = let (a, is, run, count) = h.left in run ∙ stopped-run P sigs ctx mode (drop at stream) (state a) c read u here at rule (stops a is)
      stopped-whole Mem Q stops = tt

      pub stopped-many : (stop : Stop) (Q : ℕ → Type 0) → Stops stop → Says (stopped_at at stop) Q (λ place rule. steps + 1 ≡ first + many)
      stopped-many (Rule rule) Q stops =
          let (a, is, run, count) = h.left in
          let one = stopped-count P sigs ctx mode (drop at stream) (state a) c read u here rule (stops a is) in
          omega arith
      stopped-many Mem Q stops = tt

      -- ---- the command goes through

      -- to one of these states
      module _ (Known' : A → Type 0) (state' : A → UnifyState P.T) where
        abbrev pub Goes : Type 0
        Goes = (a : A) → Known a → (b : A) × Known' b × (unify_step P sigs ctx mode u (state a) ≡ Ok (state' b))

        pub ended-whole : (heap : List P.T) (items : List (Item P.T)) → ((b : A) → ((state' b).heap ≡ heap) × ((state' b).items ≡ items)) → IsEnd u → Goes → EndsWith whole heap items
        ended-whole heap items keeps end goes =
            let (a, is, run, count) = h.left in
            let (b, _, row) = goes a is in
            (state' b, run ∙ ended-run P sigs ctx mode (drop at stream) (state a) c read u here at (state' b) end row, (keeps b).0, (keeps b).1)

        pub ended-many : IsEnd u → Goes → steps + 1 ≡ first + many
        ended-many end goes =
            let (a, is, run, count) = h.left in
            let (b, _, row) = goes a is in
            let one = ended-count P sigs ctx mode (drop at stream) (state a) c read u here (state' b) end row in
            omega arith

        pub goes-on : (IsEnd u → ⊥) → Goes → IsUnderway P sigs ctx mode A stream start first (at + c.len) Known' state' (steps + 1)
        goes-on no-end goes =
            let (a, is, run, count) = h.left in
            let (b, is', row) = goes a is in
            let on : run_left P sigs ctx mode at (drop at stream) (state a) ≡ run_left P sigs ctx mode (at + c.len) (drop c.len (drop at stream)) (state' b) =
            went-run P sigs ctx mode (drop at stream) (state a) c read u here at (state' b) no-end row in
            let counted : count_left P sigs ctx mode (drop at stream) (state a) ≡ suc (count_left P sigs ctx mode (drop c.len (drop at stream)) (state' b)) =
            went-count P sigs ctx mode (drop at stream) (state a) c read u here (state' b) no-end row in
            let there : drop c.len (drop at stream) ≡ drop (at + c.len) stream = drop-drop c.len at stream in
            record {
              left = (
                b,
                is',
                run ∙ on ∙ ap (λ bytes. run_left P sigs ctx mode (at + c.len) bytes (state' b)) there,
                ap (λ bytes. steps + 1 + count_left P sigs ctx mode bytes (state' b)) (sym there) ∙ omega arith,
              );
            }

-- ---- the whole run

module _ (P : Profile) (sigs : List Signature) (ctx : List Binder) (m : Matching P.T) (st : UnifyState P.T) (begins : st ≡ at_start m) where
  pub whole-run : (said : Unified) (heap : List P.T) (items : List (Item P.T))
      → IsRun (unify_from P sigs ctx m.mode (length m.stream) 0 m.stream st) said heap items → IsRun (unify P sigs ctx m) said heap items
  unfolding unify
  whole-run said heap items h = rw begins at h

  pub whole-count : (said : Unified) (before after : ℕ)
      → UnlessMem said (after ≡ before + unify_steps_from P sigs ctx m.mode (length m.stream) m.stream st) → UnlessMem said (after ≡ before + unify_steps P sigs ctx m)
  whole-count said before after h = rw begins at h

-- A body that leaves no gap runs the same whether gaps are let through or not; and without gaps none is left.
use Rattle.std.proofs.Common.{◌≡◌, ◌∙◌, ◌+◌, ◌⊎◌, ℕ, zero, suc, Bool, true, false, cond, eqb, List, [], ◌∷◌, length, drop, map, Option, Some, None, Result, Ok, Err, refl, sym, ap, subst, inl, inr}
use Rattle.std.proofs.lemmas.Bool.{eqb-true}
use Rattle.mz_cmd.specs.declared.rule.K.{K}
use Rattle.mz_cmd.specs.declared.rule.K.TheVariants as k
use Rattle.mz_cmd.specs.declared.command.Cmd.{Cmd}
use Rattle.mz_cmd.specs.declared.command.CmdFault.{CmdFault}
use Rattle.mz_cmd.specs.declared.code.ProofCode.{ProofCode}
use Rattle.mz_cmd.specs.declared.code.ProofCode.TheVariants as code
use Rattle.mz_cmd.specs.Codes.{proof_code}
use Rattle.mz_cmd.specs.Reading.{first_command}
use Rattle.mz_logic_theory.specs.Tree.{Tree}
use Rattle.mz_machine_theory.specs.Steps.{◌>>=◌, ◌>>◌, need, at_place, Turn, over, goes_on, follow}
use Rattle.mz_machine_theory.specs.Profile.{plain, strict, expr}
use Rattle.mz_machine_theory.specs.UnifyMachine.{is_empty}
use Rattle.mz_machine_theory.proofs.Offered.{follow-same, from_bind, from_need, place-ok, command-plain, end-plain, from_follow, own-plain, row-plain}
use Rattle.mz_machine_theory.specs.MachineState.{RowsBefore, State, Kind, is_axiom, is_theorem, is_definition, Heading}
use Rattle.mz_machine_theory.specs.ProofMachine.{proof_step, proof_end}
use Rattle.mz_machine_theory.specs.Bodies.{BodyCommand, ends, proves, stands_in, if_allowed, body_command, body_turn, body_turn_by, body_from, body_run, body_start, Runs}
use Rattle.mz_machine_theory.specs.Sound.{GapsWithin, HasGap}

module _ (tables : RowsBefore) (h : Heading) where
  -- a turn that goes on does so past its command
  len-is : (at len len' : ℕ) (rest : List ℕ) (st s : State Tree) (o : Option BodyCommand) → body_turn_by strict tables h at len rest st o ≡ Ok (goes_on len' s) → len ≡ len'
  len-is at len len' rest st s None e = absurd cc
  len-is at len len' rest st s (Some ends) e =
      from_bind (need (is_empty rest) k.StatementLength >> proof_end strict tables h st) _ (goes_on len' s) e λ z done e1. absurd cc
  len-is at len len' rest st s (Some (proves c value)) e =
      from_bind (proof_step strict tables at c value st) _ (goes_on len' s) e λ z row e1. cc

  turn-len : (at len : ℕ) (bytes : List ℕ) (st s : State Tree) (r : Result Cmd CmdFault) → body_turn strict tables h at bytes st r ≡ Ok (goes_on len s) → (c : Cmd) × (r ≡ Ok c) × (c.len ≡ len)
  turn-len at len bytes st s (Err f) e = absurd cc
  turn-len at len bytes st s (Ok c) e = (c, refl, len-is at c.len len (drop c.len bytes) st s (body_command strict h.kind c.code c.value) e)

  -- ---- the same run

  module _ (gaps : Bool) where
    -- where such a command stands, it leaves no gap in a theorem's body
    abbrev NoGap : Option ProofCode → Type 0
    NoGap o = o ≡ Some code.Sorry → h.kind ≡ is_theorem → ⊥

    row-same : (at len value : ℕ) (rest : List ℕ) (st : State Tree) (c : ProofCode) → (c ≡ code.Sorry → ⊥) → (stands : Bool)
        → body_turn_by (plain gaps) tables h at len rest st (cond stands (Some (proves c value)) None) ≡ body_turn_by strict tables h at len rest st (cond stands (Some (proves c value)) None)
    row-same at len value rest st c other true = ap (λ (z : Result (State Tree) K). z >>= λ x. Ok (goes_on len x)) (row-plain gaps tables at c value st other)
    row-same at len value rest st c other false = refl

    -- a gap stands in theorems alone
    gap-same : (kind : Kind) → (kind ≡ is_theorem → ⊥) → (at len value : ℕ) (rest : List ℕ) (st : State Tree)
        → body_turn_by (plain gaps) tables h at len rest st (if_allowed strict kind value (Some code.Sorry)) ≡ body_turn_by strict tables h at len rest st (if_allowed strict kind value (Some code.Sorry))
    gap-same is_theorem none at len value rest st = absurd (none refl)
    gap-same is_axiom none at len value rest st = refl
    gap-same is_definition none at len value rest st = refl

    code-same : (at len value : ℕ) (rest : List ℕ) (st : State Tree) (o : Option ProofCode) → NoGap o
        → body_turn_by (plain gaps) tables h at len rest st (if_allowed strict h.kind value o) ≡ body_turn_by strict tables h at len rest st (if_allowed strict h.kind value o)
    code-same at len value rest st None none = refl
    code-same at len value rest st (Some code.Sorry) none = gap-same h.kind (none refl) at len value rest st
    code-same at len value rest st (Some c) none = row-same at len value rest st c (λ is. absurd cc) (stands_in strict h.kind c)

    command-same : (at len byte value : ℕ) (rest : List ℕ) (st : State Tree) → NoGap (proof_code byte)
        → body_turn_by (plain gaps) tables h at len rest st (body_command (plain gaps) h.kind byte value) ≡ body_turn_by strict tables h at len rest st (body_command strict h.kind byte value)
    command-same at len byte value rest st none =
        ap (λ (o : Option BodyCommand). body_turn_by (plain gaps) tables h at len rest st o) (command-plain gaps h.kind byte value) ∙ by (eqb byte 0x00)
      where
        by : (b : Bool) → body_turn_by (plain gaps) tables h at len rest st (cond b (Some ends) (if_allowed strict h.kind value (proof_code byte)))
            ≡ body_turn_by strict tables h at len rest st (cond b (Some ends) (if_allowed strict h.kind value (proof_code byte)))
        by true = ap (λ (z : Result (State Tree) K). (need (is_empty rest) k.StatementLength >> z) >>= λ s. Ok (over s)) (end-plain gaps tables h st)
        by false = code-same at len value rest st (proof_code byte) none

    turn-same : (at : ℕ) (bytes : List ℕ) (st : State Tree) (r : Result Cmd CmdFault) → ((c : Cmd) → r ≡ Ok c → NoGap (proof_code c.code))
        → body_turn (plain gaps) tables h at bytes st r ≡ body_turn strict tables h at bytes st r
    turn-same at bytes st (Err f) none = refl
    turn-same at bytes st (Ok c) none = command-same at c.len c.code c.value (drop c.len bytes) st (none c refl)

    from-same : (n at : ℕ) (bytes : List ℕ) (st : State Tree) → (GapsWithin n bytes → h.kind ≡ is_theorem → ⊥) → body_from (plain gaps) tables h n at bytes st ≡ body_from strict tables h n at bytes st
    unfolding body_from
    from-same zero at bytes st none = refl
    from-same (suc n) at bytes st none =
        ap (λ (r : Result (Turn (State Tree)) K). follow (at_place at r) (λ len s. body_from (plain gaps) tables h n (at + len) (drop len bytes) s))
        (turn-same at bytes st (first_command bytes) (λ c read is. none (c, read, inl is)))
        ∙ follow-same at (body_turn strict tables h at bytes st (first_command bytes)) _ _ λ len s turn.
        let (c, read, long) = turn-len at len bytes st s (first_command bytes) turn in
        from-same n (at + len) (drop len bytes) s (λ within. none (c, read, inr (subst (λ (z : ℕ). GapsWithin n (drop z bytes)) (sym long) within)))

    pub run-same : (at : ℕ) (bytes : List ℕ) → (HasGap bytes → h.kind ≡ is_theorem → ⊥) → body_run (plain gaps) tables h at bytes ≡ body_run strict tables h at bytes
    run-same at bytes none =
        from-same (length bytes) at bytes (body_start (plain gaps) h) none
        ∙ ap (λ (xs : List Tree). body_from strict tables h (length bytes) at bytes (record { ctx = h.params; heap = map expr xs; stack = []; hyps = [] })) (own-plain gaps 0 h.params)

  -- ---- no gap

  gap-fails : (kind : Kind) (at len value : ℕ) (rest : List ℕ) (st : State Tree) (t : Turn (State Tree)) → body_turn_by strict tables h at len rest st (if_allowed strict kind value (Some code.Sorry)) ≡ Ok t → ⊥
  unfolding proof_step
  gap-fails is_theorem at len value rest st t e = cc
  gap-fails is_axiom at len value rest st t e = cc
  gap-fails is_definition at len value rest st t e = cc

  none-after : (n : ℕ) (rest : List ℕ) → is_empty rest ≡ true → GapsWithin n rest → ⊥
  none-after zero rest is within = within
  none-after (suc n) [] is (c, read, gap) = cc
  none-after (suc n) (b ∷ rest) is within = cc

  -- the command of a turn leaves no gap
  turn-free : (at len byte value : ℕ) (rest : List ℕ) (st : State Tree) (t : Turn (State Tree)) → body_turn_by strict tables h at len rest st (body_command strict h.kind byte value) ≡ Ok t → proof_code byte ≡ Some code.Sorry → ⊥
  turn-free at len byte value rest st t e gap = by (eqb byte 0x00) refl e
    where
      by : (b : Bool) → eqb byte 0x00 ≡ b → body_turn_by strict tables h at len rest st (cond b (Some ends) (if_allowed strict h.kind value (proof_code byte))) ≡ Ok t → ⊥
      by true is e1 = (let none : proof_code 0x00 ≡ Some code.Sorry = subst (λ (z : ℕ). proof_code z ≡ Some code.Sorry) (eqb-true byte 0x00 is) gap in cc)
      by false is e1 = gap-fails h.kind at len value rest st t (subst (λ (o : Option ProofCode). body_turn_by strict tables h at len rest st (if_allowed strict h.kind value o) ≡ Ok t) gap e1)

  -- a turn that is over has nothing after it
  over-last : (at len : ℕ) (rest : List ℕ) (st s : State Tree) (o : Option BodyCommand) → body_turn_by strict tables h at len rest st o ≡ Ok (over s) → is_empty rest ≡ true
  over-last at len rest st s None e = absurd cc
  over-last at len rest st s (Some ends) e =
      from_bind (need (is_empty rest) k.StatementLength >> proof_end strict tables h st) _ (over s) e λ z both e1.
      from_need (is_empty rest) k.StatementLength _ z both λ empty done. empty
  over-last at len rest st s (Some (proves c value)) e =
      from_bind (proof_step strict tables at c value st) _ (over s) e λ z row e1. absurd cc

  from-free : (n at : ℕ) (bytes : List ℕ) (st last : State Tree) → body_from strict tables h n at bytes st ≡ Ok last → GapsWithin n bytes → ⊥
  unfolding body_from
  from-free zero at bytes st last e within = within
  from-free (suc n) at bytes st last e (c, read, gap) =
      let turn : Result (Turn (State Tree)) K = body_turn strict tables h at bytes st (Ok c) in
      from_follow (at_place at turn) _ last
      (subst (λ (r : Result Cmd CmdFault). follow (at_place at (body_turn strict tables h at bytes st r)) (λ len s. body_from strict tables h n (at + len) (drop len bytes) s) ≡ Ok last) read e)
      (λ s ended s-is.
      let done : turn ≡ Ok (over s) = place-ok at turn (over s) ended in
      here n (over s) gap done (none-after n (drop c.len bytes) (over-last at c.len (drop c.len bytes) st s (body_command strict h.kind c.code c.value) done)))
      (λ len s went rest.
      let on : turn ≡ Ok (goes_on len s) = place-ok at turn (goes_on len s) went in
      let long : c.len ≡ len = len-is at c.len len (drop c.len bytes) st s (body_command strict h.kind c.code c.value) on in
      here n (goes_on len s) gap on (λ within. from-free n (at + len) (drop len bytes) s last rest (subst (λ (z : ℕ). GapsWithin n (drop z bytes)) long within)))
    where
      here : (n : ℕ) (t : Turn (State Tree)) → (proof_code c.code ≡ Some code.Sorry) ⊎ GapsWithin n (drop c.len bytes) → body_turn strict tables h at bytes st (Ok c) ≡ Ok t → (GapsWithin n (drop c.len bytes) → ⊥) → ⊥
      here n t (inl is) done later = turn-free at c.len c.code c.value (drop c.len bytes) st t done is
      here n t (inr within) done later = later within

  pub runs-free : (at : ℕ) (bytes : List ℕ) → Runs strict tables h at bytes → HasGap bytes → ⊥
  runs-free at bytes (last, e) gap = from-free (length bytes) at bytes (body_start strict h) last e gap

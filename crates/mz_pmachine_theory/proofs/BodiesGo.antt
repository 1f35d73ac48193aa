-- A body that runs in one machine runs in another that has its expressions.
use Rattle.std.proofs.Common.{◌≡◌, ℕ, zero, suc, ◌+◌, Bool, true, false, not, cond, List, [], ◌∷◌, length, drop, map, reverse, Option, Some, None, Result, Ok, Err, refl, sym, ap, ap₂, subst, ◌∙◌}
use Rattle.std.specs.Prelude.{⊤, ◌==◌}
use Rattle.mz_cmd.specs.declared.rule.K.{K}
use Rattle.mz_cmd.specs.declared.rule.K.TheVariants as k
use Rattle.mz_cmd.specs.declared.command.Cmd.{Cmd}
use Rattle.mz_cmd.specs.declared.command.CmdFault.{CmdFault}
use Rattle.mz_cmd.specs.declared.code.ProofCode.{ProofCode}
use Rattle.mz_cmd.specs.declared.code.ProofCode.TheVariants as code
use Rattle.mz_cmd.specs.Codes.{proof_code}
use Rattle.mz_cmd.specs.Reading.{first_command}
use Rattle.mz_logic_theory.specs.Tree.{Tree}
use Rattle.mz_logic_theory.specs.Signature.{Signature}
use Rattle.mz_logic_theory.specs.Legality.{sort_of}
use Rattle.mz_logic_theory.specs.declared.binder.Binder.{Binder}
use Rattle.mz_machine_theory.specs.Steps.{◌>>◌, need, goes_on}
use Rattle.mz_machine_theory.specs.Profile.{Profile, Item, expr, proof, obligation, conversion}
use Rattle.mz_machine_theory.specs.UnifyMachine.{UnifyMode, at_end, in_definition, Matching, UnifyState, unify, is_empty}
use Rattle.mz_machine_theory.proofs.Offered.{map-reverse}
use Rattle.mz_machine_theory.specs.MachineState.{RowsBefore, signatures_in, State, Kind, is_axiom, is_theorem, is_definition, Heading}
use Rattle.mz_machine_theory.specs.FreeVars.{free_within}
use Rattle.mz_machine_theory.specs.ProofMachine.{matched_by, has_provable_sort, proof_step, last_item, as_proofs, own_variables, own_stream, ending, ends_with, proof_end}
use Rattle.mz_machine_theory.specs.Bodies.{BodyCommand, ends, proves, stands_in, if_allowed, body_command, body_turn, body_turn_by, body_from, body_start, Runs}
use Rattle.mz_pmachine_theory.specs.Simulation.{items_onto, state_onto, matching_onto}
use Rattle.mz_pmachine_theory.proofs.Going.{Goes, Is, TurnIs, goes-to, goes-bind, goes-on, goes-need, goes-over, goes-further, goes-follow}
use Rattle.mz_pmachine_theory.proofs.Embeds.{Embeds}
use Rattle.mz_pmachine_theory.proofs.UnifyGoes.{Shows, unify-goes}
use Rattle.mz_pmachine_theory.proofs.RowsGo.{matched-goes, provable-too, MakesRight, row-goes}

no-more : (b c : Bool) → (c ≡ true → b ≡ true) → not b ≡ true → not c ≡ true
no-more true c less h = absurd cc
no-more false true less h = absurd (let same : false ≡ true = less refl in cc)
no-more false false less h = refl

module _ (P Q : Profile) (f : P.T → Q.T) (Right : ℕ → P.T → Type 0) (embeds : Embeds P Q f Right) where
  -- ---- commands

  stands-too : (kind : Kind) (c : ProofCode) → stands_in P kind c ≡ true → stands_in Q kind c ≡ true
  stands-too kind code.Term h = h
  stands-too kind code.TermSave h = h
  stands-too kind code.Ref h = h
  stands-too kind code.Dummy h = h
  stands-too kind code.Thm h = h
  stands-too kind code.ThmSave h = h
  stands-too kind code.Hyp h = h
  stands-too kind code.Conv h = h
  stands-too kind code.Refl h = h
  stands-too kind code.Symm h = h
  stands-too kind code.Cong h = h
  stands-too kind code.Unfold h = h
  stands-too kind code.ConvCut h = h
  stands-too kind code.ConvSave h = h
  stands-too kind code.Save h = h
  stands-too kind code.Sorry h = h
  stands-too is_axiom code.ConvRef h = h
  stands-too is_theorem code.ConvRef h = no-more P.portable Q.portable embeds.asks_less h
  stands-too is_definition code.ConvRef h = h

  allowed-by : (b b' : Bool) (x u : BodyCommand) → (b ≡ true → b' ≡ true) → cond b (Some x) None ≡ Some u → cond b' (Some x) None ≡ Some u
  allowed-by true b' x u too e = ap (λ (z : Bool). cond z (Some x) None) (too refl) ∙ e
  allowed-by false b' x u too e = absurd cc

  allowed-too : (kind : Kind) (value : ℕ) (o : Option ProofCode) (u : BodyCommand) → if_allowed P kind value o ≡ Some u → if_allowed Q kind value o ≡ Some u
  allowed-too kind value None u e = absurd cc
  allowed-too kind value (Some c) u e = allowed-by (stands_in P kind c) (stands_in Q kind c) (proves c value) u (stands-too kind c) e

  command-by : (b : Bool) (o o' : Option BodyCommand) (u : BodyCommand) → ((v : BodyCommand) → o ≡ Some v → o' ≡ Some v) → cond b (Some ends) o ≡ Some u → cond b (Some ends) o' ≡ Some u
  command-by true o o' u too e = e
  command-by false o o' u too e = too u e

  command-too : (kind : Kind) (byte value : ℕ) (u : BodyCommand) → body_command P kind byte value ≡ Some u → body_command Q kind byte value ≡ Some u
  command-too kind byte value u e =
      command-by (byte == 0x00) (if_allowed P kind value (proof_code byte)) (if_allowed Q kind value (proof_code byte)) u (allowed-too kind value (proof_code byte)) e

  -- ---- the END

  own-mapped : (i : ℕ) (bs : List Binder) → map f (own_variables P i bs) ≡ own_variables Q i bs
  own-mapped i [] = refl
  own-mapped i (b ∷ bs) = ap₂ (λ (x : Q.T) (xs : List Q.T). x ∷ xs) (embeds.variable_is i) (own-mapped (suc i) bs)

  proofs-mapped : (es : List P.T) → items_onto f (map proof es) ≡ map proof (map f es)
  proofs-mapped [] = refl
  proofs-mapped (e ∷ es) = ap (λ (xs : List (Item Q.T)). proof (f e) ∷ xs) (proofs-mapped es)

  exprs-mapped : (es : List P.T) → items_onto f (map expr es) ≡ map expr (map f es)
  exprs-mapped [] = refl
  exprs-mapped (e ∷ es) = ap (λ (xs : List (Item Q.T)). expr (f e) ∷ xs) (exprs-mapped es)

  hyps-mapped : (es : List P.T) → items_onto f (as_proofs es) ≡ as_proofs (map f es)
  hyps-mapped es = proofs-mapped (reverse es) ∙ ap (λ (z : List Q.T). map proof z) (map-reverse f es)

  last-goes : (kind : Kind) (xs : List (Item P.T)) → Goes (Is f) (last_item kind xs) (last_item kind (items_onto f xs))
  last-goes is_theorem [] = λ y e. absurd cc
  last-goes is_theorem (proof a ∷ []) = goes-to (Is f) a (f a) refl
  last-goes is_theorem (proof a ∷ x ∷ xs) = λ y e. absurd cc
  last-goes is_theorem (expr a ∷ xs) = λ y e. absurd cc
  last-goes is_theorem (obligation l r ∷ xs) = λ y e. absurd cc
  last-goes is_theorem (conversion l r ∷ xs) = λ y e. absurd cc
  last-goes is_axiom [] = λ y e. absurd cc
  last-goes is_axiom (expr a ∷ []) = goes-to (Is f) a (f a) refl
  last-goes is_axiom (expr a ∷ x ∷ xs) = λ y e. absurd cc
  last-goes is_axiom (proof a ∷ xs) = λ y e. absurd cc
  last-goes is_axiom (obligation l r ∷ xs) = λ y e. absurd cc
  last-goes is_axiom (conversion l r ∷ xs) = λ y e. absurd cc
  last-goes is_definition [] = λ y e. absurd cc
  last-goes is_definition (expr a ∷ []) = goes-to (Is f) a (f a) refl
  last-goes is_definition (expr a ∷ x ∷ xs) = λ y e. absurd cc
  last-goes is_definition (proof a ∷ xs) = λ y e. absurd cc
  last-goes is_definition (obligation l r ∷ xs) = λ y e. absurd cc
  last-goes is_definition (conversion l r ∷ xs) = λ y e. absurd cc

  module _ (tables : RowsBefore) (h : Heading) where
    abbrev StreamIs : Matching P.T → Matching Q.T → Type 0
    StreamIs = Is (matching_onto f)

    own-is : (mode : UnifyMode) (e : P.T) (xs : List (Item P.T)) (ys : List (Item Q.T)) → items_onto f xs ≡ ys
        → matching_onto f (own_stream P h mode e xs) ≡ own_stream Q h mode (f e) ys
    own-is mode e xs ys are =
        ap₂ (λ (y : List Q.T) (z : List (Item Q.T)). record { mode = mode; stream = h.stream; operands = y; target = f e; items = z }) (own-mapped 0 h.params) are

    ending-goes : (st : State P.T) (kind : Kind) (e : P.T) → Goes StreamIs (ending P tables h st kind e) (ending Q tables h (state_onto f st) kind (f e))
    ending-goes st is_axiom e =
        goes-need StreamIs (has_provable_sort P tables st.ctx e) (has_provable_sort Q tables st.ctx (f e)) k.NotProvable _ _ (provable-too P Q f Right embeds tables st.ctx e)
        (goes-to StreamIs (own_stream P h at_end e (as_proofs st.hyps)) (own_stream Q h at_end (f e) (as_proofs (map f st.hyps))) (own-is at_end e (as_proofs st.hyps) (as_proofs (map f st.hyps)) (hyps-mapped st.hyps)))
    ending-goes st is_theorem e =
        goes-to StreamIs (own_stream P h at_end e (as_proofs st.hyps)) (own_stream Q h at_end (f e) (as_proofs (map f st.hyps))) (own-is at_end e (as_proofs st.hyps) (as_proofs (map f st.hyps)) (hyps-mapped st.hyps))
    ending-goes st is_definition e =
        goes-need StreamIs (sort_of (signatures_in tables) st.ctx (P.tree e) == h.result.sort) (sort_of (signatures_in tables) st.ctx (Q.tree (f e)) == h.result.sort) k.DefinitionSort _ _
        (λ b. ap (λ (z : Tree). sort_of (signatures_in tables) st.ctx z == h.result.sort) (embeds.tree_is e) ∙ b)
        (goes-need StreamIs (free_within (signatures_in tables) st.ctx h.result.deps (P.tree e) (length st.ctx)) (free_within (signatures_in tables) st.ctx h.result.deps (Q.tree (f e)) (length st.ctx)) k.DefinitionDependencies _ _
        (λ b. ap (λ (z : Tree). free_within (signatures_in tables) st.ctx h.result.deps z (length st.ctx)) (embeds.tree_is e) ∙ b)
        (goes-to StreamIs (own_stream P h in_definition e []) (own_stream Q h in_definition (f e) []) (own-is in_definition e [] [] refl)))

    ends-goes : (st : State P.T) → Goes StreamIs (ends_with P tables h st) (ends_with Q tables h (state_onto f st))
    unfolding ends_with
    ends-goes st =
        goes-on f StreamIs (last_item h.kind st.stack) (last_item h.kind (items_onto f st.stack)) _ _ (last-goes h.kind st.stack) λ e.
        ending-goes st h.kind e

    abbrev Stated : State P.T → State Q.T → Type 0
    Stated = Is (state_onto f)

    end-goes : (st : State P.T) → Goes Stated (proof_end P tables h st) (proof_end Q tables h (state_onto f st))
    unfolding proof_end
    end-goes st =
        goes-on (matching_onto f) Stated (ends_with P tables h st) (ends_with Q tables h (state_onto f st)) _ _ (ends-goes st) λ m.
        goes-bind (Shows P Q f Right embeds (signatures_in tables) st.ctx) Stated (matched_by P tables st.ctx m) (matched_by Q tables st.ctx (matching_onto f m)) _ _ (matched-goes P Q f Right embeds tables st.ctx m) λ u v shows.
        goes-to Stated st (state_onto f st) refl

    -- ---- whole bodies

    abbrev pub CommandMakes : ℕ → State P.T → Option BodyCommand → Type 0
    CommandMakes at st None = ⊤
    CommandMakes at st (Some ends) = ⊤
    CommandMakes at st (Some (proves c value)) = MakesRight P Q f Right embeds tables at c value st

    abbrev pub TurnMakes : ℕ → State P.T → Result Cmd CmdFault → Type 0
    TurnMakes at st (Err d) = ⊤
    TurnMakes at st (Ok c) = CommandMakes at st (body_command P h.kind c.code c.value)

    -- all that is made in a run has Right
    abbrev pub RunMakes : ℕ → ℕ → List ℕ → State P.T → Type 0
    RunMakes zero at bytes st = ⊤
    RunMakes (suc n) at bytes st =
        TurnMakes at st (first_command bytes)
        × ((len : ℕ) (s : State P.T) → body_turn P tables h at bytes st (first_command bytes) ≡ Ok (goes_on len s) → RunMakes n (at + len) (drop len bytes) s)

    command-goes : (at len : ℕ) (rest : List ℕ) (st : State P.T) (u : BodyCommand) → CommandMakes at st (Some u)
        → Goes (TurnIs Stated) (body_turn_by P tables h at len rest st (Some u)) (body_turn_by Q tables h at len rest (state_onto f st) (Some u))
    command-goes at len rest st ends right =
        goes-over Stated (need (is_empty rest) k.StatementLength >> proof_end P tables h st) (need (is_empty rest) k.StatementLength >> proof_end Q tables h (state_onto f st))
        (goes-need Stated (is_empty rest) (is_empty rest) k.StatementLength _ _ (λ b. b) (end-goes st))
    command-goes at len rest st (proves c value) right =
        goes-further Stated len (proof_step P tables at c value st) (proof_step Q tables at c value (state_onto f st)) (row-goes P Q f Right embeds tables at c value st right)

    by-goes : (at len : ℕ) (rest : List ℕ) (st : State P.T) (o o' : Option BodyCommand) → CommandMakes at st o → ((u : BodyCommand) → o ≡ Some u → o' ≡ Some u)
        → Goes (TurnIs Stated) (body_turn_by P tables h at len rest st o) (body_turn_by Q tables h at len rest (state_onto f st) o')
    by-goes at len rest st None o' right too = λ y e. absurd cc
    by-goes at len rest st (Some u) o' right too =
        subst (λ (z : Option BodyCommand). Goes (TurnIs Stated) (body_turn_by P tables h at len rest st (Some u)) (body_turn_by Q tables h at len rest (state_onto f st) z)) (sym (too u refl))
        (command-goes at len rest st u right)

    turn-goes : (at : ℕ) (bytes : List ℕ) (st : State P.T) (r : Result Cmd CmdFault) → TurnMakes at st r → Goes (TurnIs Stated) (body_turn P tables h at bytes st r) (body_turn Q tables h at bytes (state_onto f st) r)
    turn-goes at bytes st (Err d) right = λ y e. absurd cc
    turn-goes at bytes st (Ok c) right = by-goes at c.len (drop c.len bytes) st (body_command P h.kind c.code c.value) (body_command Q h.kind c.code c.value) right (command-too h.kind c.code c.value)

    from-goes : (n at : ℕ) (bytes : List ℕ) (st : State P.T) → RunMakes n at bytes st → Goes Stated (body_from P tables h n at bytes st) (body_from Q tables h n at bytes (state_onto f st))
    unfolding body_from
    from-goes zero at bytes st right = λ y e. absurd cc
    from-goes (suc n) at bytes st right =
        goes-follow Stated at (body_turn Q tables h at bytes (state_onto f st) (first_command bytes)) _ _ (body_turn P tables h at bytes st (first_command bytes)) (turn-goes at bytes st (first_command bytes) right.0)
        λ len s s' turn is.
        subst (λ (w : State Q.T). Goes Stated (body_from P tables h n (at + len) (drop len bytes) s) (body_from Q tables h n (at + len) (drop len bytes) w)) is
        (from-goes n (at + len) (drop len bytes) s (right.1 len s turn))

    start-is : state_onto f (body_start P h) ≡ body_start Q h
    start-is =
        ap (λ (z : List (Item Q.T)). record { ctx = h.params; heap = z; stack = []; hyps = [] }) (exprs-mapped (own_variables P 0 h.params) ∙ ap (λ (z : List Q.T). map expr z) (own-mapped 0 h.params))

    pub body-runs : (at : ℕ) (bytes : List ℕ) → RunMakes (length bytes) at bytes (body_start P h) → Runs P tables h at bytes → Runs Q tables h at bytes
    body-runs at bytes right (last, e) =
        let (last', run, is) = from-goes (length bytes) at bytes (body_start P h) right last e in
        (last', ap (λ (z : State Q.T). body_from Q tables h (length bytes) at bytes z) (sym start-is) ∙ run)

  stated : (r : Result (State Q.T) K) (s : State P.T) (y : State Q.T) → r ≡ Ok y → state_onto f s ≡ y → r ≡ Ok (state_onto f s)
  stated r s y run is = run ∙ ap (λ (z : State Q.T). Ok z) (sym is)

  pub row-runs : (tables : RowsBefore) (at : ℕ) (c : ProofCode) (value : ℕ) (st s : State P.T) → MakesRight P Q f Right embeds tables at c value st
      → proof_step P tables at c value st ≡ Ok s → proof_step Q tables at c value (state_onto f st) ≡ Ok (state_onto f s)
  row-runs tables at c value st s right e =
      let (y, run, is) = row-goes P Q f Right embeds tables at c value st right s e in
      stated (proof_step Q tables at c value (state_onto f st)) s y run is

  pub stream-runs : (sigs : List Signature) (ctx : List Binder) (m : Matching P.T) (u : UnifyState P.T) → unify P sigs ctx m ≡ Ok u
      → (v : UnifyState Q.T) × (unify Q sigs ctx (matching_onto f m) ≡ Ok v) × (v.heap ≡ map f u.heap) × (v.items ≡ items_onto f u.items)
  stream-runs sigs ctx m u e =
      let (v, run, (others, covers, is)) = unify-goes P Q f Right embeds sigs ctx m u e in
      (v, run, sym (ap (λ (z : UnifyState Q.T). z.heap) is), sym (ap (λ (z : UnifyState Q.T). z.items) is))

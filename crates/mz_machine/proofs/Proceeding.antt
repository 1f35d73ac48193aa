-- A command on the items that are written out, said of the whole stack.
use Rattle.std.proofs.Common.{◌≡◌, ◌≤◌, ◌+◌, ℕ, Bool, List, [], ◌∷◌, length, Option, Some, None, Result, Ok, Err, refl, sym, ap, subst, ◌∙◌, arith}
use Rattle.std.specs.Prelude.{reverse, IfSome, MatchResult}
use Rattle.mz_cmd.specs.declared.rule.K.{K}
use Rattle.mz_logic_theory.specs.Tree.{Tree, listed}
use Rattle.mz_logic_theory.specs.Signature.{Signature}
use Rattle.mz_store.specs.Sharing.{Sharing, IsIn, KeepsIds, operands_of}
use Rattle.mz_store.specs.declared.item.Id.{Id}
use Rattle.mz_store.specs.declared.item.Item.{Item as Kept}
use Rattle.mz_store.specs.declared.item.Item.TheVariants.{Obligation}
use Rattle.mz_machine_theory.specs.Profile.{plain}
use Rattle.mz_unify.specs.Stored.{item_at, items_at, AreItemsIn}
use Rattle.mz_unify.proofs.Offered.{still-in}
use Rattle.mz_unify.specs.declared.stop.Stop.{Stop}
use Rattle.mz_unify.specs.declared.stop.Stop.TheVariants.{Rule, Mem}
use Rattle.mz_machine_theory.specs.MachineState.{RowsBefore, State}
use Rattle.mz_machine_theory.specs.Bodies.{BodyCommand, proves}
use Rattle.mz_cmd.specs.declared.code.ProofCode.{ProofCode}
use Rattle.mz_machine.specs.Steps.{row_by, steps_by, TakesNone}
use Rattle.mz_machine.specs.OverStore.{state_at, UnlessMem}
use Rattle.mz_machine.specs.Executing.{GoesThrough, Proceeds, StopsAs, WantsUnless}
use Rattle.mz_machine.specs.OpenEquations.{asked_by, stored, AsksNoMore, whole_stack, whole_state, IsInHand, AreOpen, AreSettled, opened_on, opened_state, IsOpenedBy}
use Rattle.mz_machine.specs.declared.equations.Equation.{Equation}
use Rattle.mz_machine.proofs.BarredRows.{stacked}
use Rattle.mz_machine.proofs.LackRows.{takes-same}
use Rattle.mz_machine.proofs.OpenStacks.{AreKept, the-same}
use Rattle.mz_machine.proofs.Popping.{items-popped}
use Rattle.mz_machine.proofs.TermResults.{items-kept, tree-kept}
use Rattle.mz_machine.proofs.WholeRows.{StoodOn, WholeAfter, whole-by, steps-whole}

-- a store that grows keeps what its ids stand for
stored-kept : (s s' : Sharing) → KeepsIds s s' → AreKept (stored s) (stored s')
stored-kept s s' keeps i inside = (still-in s s' keeps i.0 inside, ap (λ (e : Tree). listed (operands_of e)) (tree-kept s s' keeps i.0 inside))

-- so many items are above
in-hand-more : (es : List Equation) (n m : ℕ) → IsInHand es n → n ≤ m → IsInHand es m
in-hand-more [] n m is le = tt
in-hand-more (e ∷ es) n m is le = omega (arith, is, le)

pub sides-in : (s : Sharing) (o : Option (Id × Id)) (before after : List Kept) → IsOpenedBy s o before after → IfSome o (λ e. IsIn s e.0.0 × IsIn s e.1.0)
sides-in s None before after is = tt
sides-in s (Some e) before after is = (is.0, is.1)

module _ (gaps : Bool) (tables : RowsBefore) (s : Sharing) (heap stack : List Kept) (hyps : List Id) (es : List Equation) (u : Option BodyCommand) where
  abbrev st : State Tree
  st = state_at s heap stack hyps

  abbrev pub AsksWithin : Type 0
  AsksWithin = (c : ProofCode) (n : ℕ) → u ≡ Some (proves c n) → AsksNoMore (reverse es) (asked_by tables c n) (length (items_at s stack))

  module _ (settled : AreSettled (stored s) (reverse es) (items_at s stack)) (asks : AsksWithin) where
    -- what is refused is refused
    still-refused : (at : ℕ) (d : K) → row_by gaps tables at st u ≡ Err d → row_by gaps tables at (whole_state s heap es stack hyps) u ≡ Err d
    still-refused at d is =
        subst (λ (r : Result (State Tree) K). WholeAfter (plain gaps) tables st (stored s) (stored s) (the-same (stored s)) (reverse es) (items_at s stack) r (row_by gaps tables at (whole_state s heap es stack hyps) u)) is
        (whole-by (plain gaps) tables st (stored s) (stored s) (the-same (stored s)) (reverse es) (items_at s stack) settled at u asks)

    pub as-counted : (A : Type 0) (result : Result A Stop) (old new : ℕ) → UnlessMem result (new ≡ old + steps_by gaps tables st u) → UnlessMem result (new ≡ old + steps_by gaps tables (whole_state s heap es stack hyps) u)
    as-counted A result old new = subst (λ (n : ℕ). UnlessMem result (new ≡ old + n)) (sym (steps-whole (plain gaps) tables st (stored s) (stored s) (the-same (stored s)) (reverse es) (items_at s stack) settled u asks))

    -- what goes through goes through, up to what was opened
    module _ (s' : Sharing) (keeps : KeepsIds s s') (inside : AreItemsIn s stack) (heap' stack' : List Kept) (hyps' : List Id) (o : Option (Id × Id)) (opened : IsOpenedBy s' o stack stack') where
      stood : (p : Option (Id × Id)) → IsOpenedBy s' p stack stack' → StoodOn p (items_at s stack) (items_at s' stack')
      stood None is = tt
      stood (Some e) is = (item_at s' (Obligation e.0 e.1), sym (items-kept s s' keeps stack inside) ∙ items-popped s' stack stack' (Obligation e.0 e.1) is.2)

      goes-through : (at : ℕ) → row_by gaps tables at st u ≡ Ok (opened_state s' heap' o stack' hyps')
          → AreOpen (stored s') (reverse es) (items_at s' stack')
          × (row_by gaps tables at (whole_state s heap es stack hyps) u ≡ Ok (stacked (state_at s' heap' stack' hyps') (opened_on (stored s') o (whole_stack (stored s') (reverse es) (items_at s' stack')))))
      goes-through at is =
          subst (λ (r : Result (State Tree) K). WholeAfter (plain gaps) tables st (stored s) (stored s') (stored-kept s s' keeps) (reverse es) (items_at s stack) r (row_by gaps tables at (whole_state s heap es stack hyps) u)) is
          (whole-by (plain gaps) tables st (stored s) (stored s') (stored-kept s s' keeps) (reverse es) (items_at s stack) settled at u asks) o (items_at s' stack') refl (stood o opened)

  -- what takes no memory on the whole stack takes none on what is written out
  takes-written : TakesNone (whole_state s heap es stack hyps) u → TakesNone st u
  takes-written = takes-same st (whole_stack (stored s) (reverse es) (items_at s stack)) (items_at s stack) u

  abbrev row : ℕ → Result (State Tree) K
  row = λ at. row_by gaps tables at st u

  abbrev whole-row : ℕ → Result (State Tree) K
  whole-row = λ at. row_by gaps tables at (whole_state s heap es stack hyps) u

  abbrev whole-takes : Type 0
  whole-takes = TakesNone (whole_state s heap es stack hyps) u

  module _ (settled : AreSettled (stored s) (reverse es) (items_at s stack)) (asks : AsksWithin) where
    -- what stops it stops it
    pub still-stopped : (stop : Stop) → StopsAs row (TakesNone st u) stop → StopsAs whole-row whole-takes stop
    still-stopped (Rule k) h = λ at. still-refused settled asks at k (h at)
    still-stopped Mem h = λ none. h (takes-written none)

    -- and behind it the next obligation is written out
    module _ (sigs : List Signature) (s' : Sharing) (heap' stack' : List Kept) (hyps' : List Id) (scratch scratch' : ℕ) (o : Option (Id × Id)) (h : GoesThrough sigs row (TakesNone st u) s s' heap' stack stack' hyps' scratch scratch' o) (inside : AreItemsIn s stack) where
      pub now-stand : AreOpen (stored s') (reverse es) (items_at s' stack')
      now-stand = (goes-through settled asks s' h.grows.keeps inside heap' stack' hyps' o h.opens 0 (h.row_is 0)).0

      pub resumed : {A : Type 0} (result : Result A Stop) (es' : List Equation) (ended : List Kept) → length (items_at s stack) ≤ scratch
          → MatchResult result (λ _. AreItemsIn s' ended × AreSettled (stored s') (reverse es') (items_at s' ended) × (whole_stack (stored s') (reverse es') (items_at s' ended) ≡ opened_on (stored s') o (whole_stack (stored s') (reverse es) (items_at s' stack')))) (WantsUnless ((o ≡ None) × IsInHand (reverse es) scratch'))
          → MatchResult result (λ _. Proceeds sigs whole-row s s' heap' es' ended hyps') (StopsAs whole-row whole-takes)
      resumed (Ok x) es' ended few is = record {
        grows = h.grows;
        heap_in = h.heap_in;
        stack_in = is.0;
        hyps_in = h.hyps_in;
        settled = is.1;
        row_is = λ at. (goes-through settled asks s' h.grows.keeps inside heap' stack' hyps' o h.opens at (h.row_is at)).1 ∙ ap (λ ws. Ok (stacked (state_at s' heap' stack' hyps') ws)) (sym is.2);
      }
      resumed (Err (Rule k)) es' ended few is = absurd is
      resumed (Err Mem) es' ended few is = λ none.
          let n = h.no_more (takes-written none) in
          is (n.0, in-hand-more (reverse es) (length (items_at s stack)) scratch' settled.1 (omega (arith, few, n.1)))

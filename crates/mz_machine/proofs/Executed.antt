-- Answers of commands, as what they do to the parts of a body.
use Rattle.std.proofs.Common.{◌≡◌, ◌≤◌, ◌+◌, ℕ, suc, List, ◌++◌, ◌∷◌, [], Option, Some, None, Result, Ok, Err, refl, ap, ◌∙◌, arith}
use Rattle.std.specs.Prelude.{⊤, OnOk, IfOk, MatchResult}
use Rattle.mz_cmd.specs.declared.rule.K.{K}
use Rattle.mz_logic_theory.specs.Tree.{Tree}
use Rattle.mz_logic_theory.specs.Signature.{Signature}
use Rattle.mz_store.specs.Sharing.{Sharing, IsIn, IsOver}
use Rattle.mz_store.specs.declared.item.Id.{Id}
use Rattle.mz_store.specs.declared.item.Item.{Item as Kept}
use Rattle.mz_store.specs.declared.item.Item.TheVariants.{Obligation}
use Rattle.mz_unify.specs.Stored.{item_at, items_at, AreItemsIn, IsItemIn}
use Rattle.mz_unify.proofs.Offered.{are-still-in, items-in-both}
use Rattle.mz_unify.specs.Rows.{StopsBy}
use Rattle.mz_unify.specs.declared.stop.Stop.{Stop}
use Rattle.mz_unify.specs.declared.stop.Stop.TheVariants.{Rule, Mem}
use Rattle.mz_machine_theory.specs.MachineState.{State}
use Rattle.mz_machine_theory.specs.ProofMachine.{push, saved}
use Rattle.mz_machine.specs.OverStore.{state_at, Gives, GivesRule, Grows, NeverWants}
use Rattle.mz_machine.specs.OpenEquations.{opened_state}
use Rattle.mz_machine.specs.Executing.{AreHyps, Counts, Executes, GoesThrough, StopsAs, WantsUnless}
use Rattle.mz_machine.proofs.GapRows.{counts-as}
use Rattle.mz_machine.proofs.HandedOn.{IsByRule, grows-not}
use Rattle.mz_machine.proofs.TermResults.{items-still, put-state, saved-state}
use Rattle.mz_machine.proofs.Unfoldings.{no-more, unless-mem}

abbrev pub OpensNone : {A : Type 0} → Result A Stop → Result (Option (Id × Id)) Stop → Type 0
OpensNone answer result = MatchResult answer (λ _. result ≡ Ok None) (λ stop. result ≡ Err stop)

abbrev pub Opens : Result (Id × Id) K → Result (Option (Id × Id)) Stop → Type 0
Opens answer result = MatchResult answer (λ e. result ≡ Ok (Some e)) (λ rule. result ≡ Err (Rule rule))

abbrev Row : Type 0
Row = ℕ → Result (State Tree) K

-- ---- the same command in other words

module _ (sigs : List Signature) (row row' : Row) (takes takes' : Type 0) (rows : (at : ℕ) → row' at ≡ row at) (fewer : takes' → takes) where
  pub stops-so : (stop : Stop) → StopsAs row takes stop → StopsAs row' takes' stop
  stops-so (Rule k) h = λ at. rows at ∙ h at
  stops-so Mem h = λ none. h (fewer none)

  module _ (s s' : Sharing) (heap' stack stack' : List Kept) (hyps' : List Id) (scratch scratch' : ℕ) where
    so : (o : Option (Id × Id)) → GoesThrough sigs row takes s s' heap' stack stack' hyps' scratch scratch' o → GoesThrough sigs row' takes' s s' heap' stack stack' hyps' scratch scratch' o
    so o h = record {
      grows = h.grows;
      heap_in = h.heap_in;
      stack_in = h.stack_in;
      hyps_in = h.hyps_in;
      opens = h.opens;
      row_is = λ at. rows at ∙ h.row_is at;
      no_more = λ none. h.no_more (fewer none);
    }

    pub executes-so : (result : Result (Option (Id × Id)) Stop) → Executes sigs row takes s s' heap' stack stack' hyps' scratch scratch' (λ o. o) result
        → Executes sigs row' takes' s s' heap' stack stack' hyps' scratch scratch' (λ o. o) result
    executes-so (Ok o) h = so o h
    executes-so (Err stop) h = stops-so stop h

    pub none-executes : {A : Type 0} (answer : Result A Stop) (result : Result (Option (Id × Id)) Stop) → OpensNone answer result
        → Executes sigs row takes s s' heap' stack stack' hyps' scratch scratch' (λ (_ : A). None) answer → Executes sigs row' takes' s s' heap' stack stack' hyps' scratch scratch' (λ o. o) result
    none-executes (Ok x) result is h = rw is (so None h)
    none-executes (Err stop) result is h = rw is (stops-so stop h)

-- ---- a command that changes the stack alone

module _ (sigs : List Signature) (row : Row) (takes : Type 0) (s : Sharing) (over : IsOver sigs s) (heap stack stack' : List Kept) (heap_in : AreItemsIn s heap) (hyps : List Id) (hyps_in : AreHyps s hyps) (scratch scratch' : ℕ) where
  through : AreItemsIn s stack' → ((at : ℕ) → row at ≡ Ok (state_at s heap stack' hyps)) → (takes → scratch ≤ scratch') → GoesThrough sigs row takes s s heap stack stack' hyps scratch scratch' None
  through stack_in is more = record { grows = grows-not sigs s over; heap_in = heap_in; stack_in = stack_in; hyps_in = hyps_in; opens = tt; row_is = is; no_more = λ none. (refl, more none) }

  pub given-executes : {A : Type 0} (result : Result A Stop) → OnOk result (AreItemsIn s stack') → ((at : ℕ) → Gives (row at) result (λ _. state_at s heap stack' hyps)) → (takes → NeverWants result)
      → (takes → scratch ≤ scratch') → Executes sigs row takes s s heap stack stack' hyps scratch scratch' (λ (_ : A). None) result
  given-executes (Ok x) ids is never more = through ids is more
  given-executes (Err (Rule k)) ids is never more = is
  given-executes (Err Mem) ids is never more = λ none. never none refl

  pub ruled-executes : {A : Type 0} (answer : Result A K) (result : Result A Stop) → IsByRule answer result → OnOk answer (AreItemsIn s stack') → ((at : ℕ) → GivesRule (row at) answer (λ _. state_at s heap stack' hyps))
      → (takes → scratch ≤ scratch') → Executes sigs row takes s s heap stack stack' hyps scratch scratch' (λ (_ : A). None) result
  ruled-executes (Ok x) result by ids is more = rw by (through ids is more)
  ruled-executes (Err k) result by ids is more = rw by is

  -- Cong
  pub opens-executes : (answer : Result (Id × Id) K) (result : Result (Option (Id × Id)) Stop) → Opens answer result → IfOk answer (λ e. IsIn s e.0.0 × IsIn s e.1.0 × AreItemsIn s stack')
      → IfOk answer (λ e. stack ≡ stack' ++ Obligation e.0 e.1 ∷ []) → ((at : ℕ) → GivesRule (row at) answer (λ e. opened_state s heap (Some e) stack' hyps)) → (takes → ⊥)
      → Executes sigs row takes s s heap stack stack' hyps scratch scratch' (λ o. o) result
  opens-executes (Ok e) result by ids items is some = rw by (record {
    grows = grows-not sigs s over;
    heap_in = heap_in;
    stack_in = ids.2;
    hyps_in = hyps_in;
    opens = (ids.0, ids.1, items);
    row_is = is;
    no_more = λ none. absurd (some none);
  })
  opens-executes (Err k) result by ids items is some = rw by is

-- ---- a command whose last call is stopped by memory alone

module _ (sigs : List Signature) (row : Row) (takes : Type 0) (s s' : Sharing) (heap' stack stack' : List Kept) (hyps' : List Id) (scratch scratch' : ℕ) (some : takes → ⊥) where
  pub kept-executes : {A P : Type 0} (result : Result A Stop) → (P → GoesThrough sigs row takes s s' heap' stack stack' hyps' scratch scratch' None) → MatchResult result (λ _. P) (λ stop. StopsBy stop (λ _. ⊥))
      → Executes sigs row takes s s' heap' stack stack' hyps' scratch scratch' (λ (_ : A). None) result
  kept-executes (Ok x) done h = done h
  kept-executes (Err Mem) done h = some
  kept-executes (Err (Rule d)) done h = absurd h

  pub pushed-executes : {A : Type 0} (result : Result A Stop) → OnOk result (GoesThrough sigs row takes s s' heap' stack stack' hyps' scratch scratch' None) → MatchResult result (λ _. ⊤) (λ stop. StopsBy stop (λ _. ⊥))
      → Executes sigs row takes s s' heap' stack stack' hyps' scratch scratch' (λ (_ : A). None) result
  pushed-executes (Ok x) h err = h
  pushed-executes (Err Mem) h err = some
  pushed-executes (Err (Rule d)) h err = absurd err

  pub stopped-executes : (stop : Stop) → ((at : ℕ) → StopsBy stop (λ k. row at ≡ Err k)) → StopsAs row takes stop
  stopped-executes (Rule k) h = h
  stopped-executes Mem h = some

-- ---- a command that makes an expression or a proof

module _ (sigs : List Signature) (row : Row) (s s' : Sharing) (grows : Grows sigs s s') (context : s'.context ≡ s.context) (heap stack below : List Kept) (hyps : List Id) (heap_in : AreItemsIn s heap) (hyps_in : AreHyps s hyps) (x : Kept) (x_in : IsItemIn s' x) (below_in : AreItemsIn s' below) (scratch scratch' : ℕ) where
  pub made : (stack' : List Kept) → stack' ≡ below ++ x ∷ [] → ((at : ℕ) → row at ≡ Ok (push (item_at s' x) (items_at s' below) (state_at s heap stack hyps))) → GoesThrough sigs row ⊥ s s' heap stack stack' hyps scratch scratch' None
  made stack' put is = record {
    grows = grows;
    heap_in = items-still s s' grows.keeps heap heap_in;
    stack_in = rw put (items-in-both s' below (x ∷ []) below_in (x_in, tt));
    hyps_in = (are-still-in s s' grows.keeps hyps hyps_in.0, hyps_in.1);
    opens = tt;
    row_is = λ at. is at ∙ ap (λ st. Ok st) (put-state s s' grows.keeps heap below stack' hyps x context put heap_in hyps_in.0);
    no_more = λ none. absurd none;
  }

  pub made-saved : (heap' stack' : List Kept) → heap' ≡ heap ++ x ∷ [] → stack' ≡ below ++ x ∷ [] → ((at : ℕ) → row at ≡ Ok (saved (item_at s' x) (push (item_at s' x) (items_at s' below) (state_at s heap stack hyps))))
      → GoesThrough sigs row ⊥ s s' heap' stack stack' hyps scratch scratch' None
  made-saved heap' stack' more put is = record {
    grows = grows;
    heap_in = rw more (items-in-both s' heap (x ∷ []) (items-still s s' grows.keeps heap heap_in) (x_in, tt));
    stack_in = rw put (items-in-both s' below (x ∷ []) below_in (x_in, tt));
    hyps_in = (are-still-in s s' grows.keeps hyps hyps_in.0, hyps_in.1);
    opens = tt;
    row_is = λ at. is at ∙ ap (λ st. Ok st) (saved-state s s' grows.keeps heap heap' below stack' hyps x context more put heap_in hyps_in.0);
    no_more = λ none. absurd none;
  }

-- ---- counting

-- no stream runs
pub quiet : {A : Type 0} (result : Result A Stop) (n most : ℕ) → Counts result n n 0 most
quiet result n most = (unless-mem result (no-more n 0 refl), omega arith)

-- a step more
pub one-step : {A : Type 0} (result : Result A Stop) (old ticked new count all most : ℕ) → ticked ≡ old + 1 → all ≡ suc count → Counts result ticked new count most → Counts result old new all (1 + most)
one-step result old ticked new count all most one is h = (counts-as result old ticked new count all one is h.0, omega (arith, one, h.1))

pub none-counts : {A : Type 0} (answer : Result A Stop) (result : Result (Option (Id × Id)) Stop) (old new count most : ℕ) → OpensNone answer result → Counts answer old new count most → Counts result old new count most
none-counts (Ok x) result old new count most is h = rw is h
none-counts (Err stop) result old new count most is h = rw is h

-- ---- out of memory

pub some-not-none : {A : Type 0} (x : A) → Some x ≡ None → ⊥
some-not-none x is = cc

pub opens-not : {A B : Type 0} (x : A) (u v : B) → Some x ≡ None → u ≡ v
opens-not x u v is = absurd (some-not-none x is)

pub wants-for : (P P' : Type 0) → (P' → P) → (stop : Stop) → WantsUnless P stop → WantsUnless P' stop
wants-for P P' less (Rule k) h = h
wants-for P P' less Mem h = λ p. h (less p)

pub wants-pushed : {A : Type 0} (P Q : Type 0) (result : Result A Stop) → OnOk result P → MatchResult result (λ _. ⊤) (λ stop. StopsBy stop (λ _. ⊥)) → (Q → ⊥) → MatchResult result (λ _. P) (WantsUnless Q)
wants-pushed P Q (Ok x) p err some = p
wants-pushed P Q (Err Mem) p err some = some
wants-pushed P Q (Err (Rule k)) p err some = absurd err

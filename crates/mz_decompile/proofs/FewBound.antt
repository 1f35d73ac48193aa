-- The bound parameters of a statement and its dummies are at most 55 together: the machine makes no more.
use Rattle.std.proofs.Common.{◌≡◌, ◌≤◌, ◌<◌, ◌+◌, ◌∙◌, ℕ, zero, suc, Bool, true, false, cond, ltb, List, [], ◌∷◌, ◌++◌, length, drop, Option, Some, None, Result, Ok, Err, slice_get, refl, sym, ap, subst, inl, inr, arith, leb, length-append}
use Rattle.std.specs.Prelude.{if◌then◌else◌, ◌&&◌, ◌==◌, not}
use Rattle.std.proofs.lemmas.Bool.{ltb-true, leb-true, leb-false}
use Rattle.std.proofs.lemmas.Option.{slice_get_within}
use Rattle.mz_cmd.specs.declared.rule.K.TheVariants as k
use Rattle.mz_cmd.specs.declared.command.Cmd.{Cmd}
use Rattle.mz_cmd.specs.declared.command.CmdFault.{CmdFault}
use Rattle.mz_cmd.specs.declared.code.ProofCode.{ProofCode}
use Rattle.mz_cmd.specs.declared.code.ProofCode.TheVariants as code
use Rattle.mz_cmd.specs.Reading.{first_command}
use Rattle.mz_logic_theory.specs.Tree.{Tree, none}
use Rattle.mz_logic_theory.specs.Declaration.{Declaration, defined, sorts, signatures}
use Rattle.mz_logic_theory.specs.Variables.{InSomeV}
use Rattle.mz_logic_theory.specs.Conversions.{AreFresh}
use Rattle.mz_logic_theory.specs.Legality.{sort_of}
use Rattle.mz_logic_theory.specs.LegalLists.{AreDummies}
use Rattle.mz_logic_theory.specs.declared.binder.Binder.{Binder}
use Rattle.mz_logic_theory.specs.declared.binder.SortMods.{SortMods}
use Rattle.mz_mmu_theory.specs.Proof.{Proof}
use Rattle.mz_machine_theory.specs.Steps.{◌>>◌, need, at_place, Turn, over, goes_on}
use Rattle.mz_machine_theory.specs.Streams.{of_definition}
use Rattle.mz_machine_theory.specs.Spells.{trees_of, dummy_of, variables_from, SpellsForm}
use Rattle.mz_machine_theory.specs.Profile.{strict, tree_parts, Item, expr, proof, obligation, conversion}
use Rattle.mz_machine_theory.specs.UnifyMachine.{in_definition, is_empty}
use Rattle.mz_machine_theory.proofs.Offered.{from_bind, from_need, from_want, taken, taken-is, place-ok, place_from, renamed, definition-spelled, unfolding-is, one-text, length-params, body-fact, end-ran, own-run, last-expr, from_follow}
use Rattle.mz_machine_theory.specs.MachineState.{RowsBefore, signatures_in, State, Kind, is_definition, Heading, Declares}
use Rattle.mz_machine_theory.specs.FreeVars.{free_within}
use Rattle.mz_machine_theory.specs.Premises.{bound_count, pop, pop_expr, pop_proof, pop_obligation, pop_conversion, is_conversion, is_obligation, may_be_dummy_sort}
use Rattle.mz_machine_theory.specs.ProofMachine.{ends_with, matched_by, built, cited, referred, same_term, unfolding_of, has_provable_sort, proof_step, proof_end, last_item, ending, own_stream}
use Rattle.mz_machine_theory.specs.Bodies.{BodyCommand, ends, proves, body_command, body_turn, body_turn_by, body_from, body_start, Runs}
use Rattle.mz_machine.proofs.Offered.{count-after}
use Rattle.mz_trace.specs.Traces.{Trace, traced, trace_turn, trace_command, trace_from, trace_start, Made}
use Rattle.mz_binary_theory.proofs.Offered.{Among, fresh-fewer}

-- ---- a command adds at most one bound variable, where there are fewer than 55

abbrev Few : State Tree → Type 0
Few st = bound_count st.ctx ≤ 55

few-same : (s st : State Tree) → taken s ≡ taken st → Few s → Few st
few-same s st e few = subst Few (taken-is s st e) few

referred-few : (x : Item Tree) (st st' : State Tree) → referred strict x st ≡ Ok st' → Few st → Few st'
referred-few (expr e) st st' is few = few-same _ st' is few
referred-few (proof e) st st' is few = few-same _ st' is few
referred-few (obligation l r) st st' is few = few-same _ st' is few
referred-few (conversion l r) st st' is few =
    from_bind (pop_obligation st.stack) _ st' is λ o popped e1.
    from_need (strict.same l o.0 && strict.same r o.1) k.ConversionReference _ st' e1 λ t e2. few-same _ st' e2 few

row-few : (tables : RowsBefore) (at : ℕ) (c : ProofCode) (n : ℕ) (st st' : State Tree) → proof_step strict tables at c n st ≡ Ok st' → Few st → Few st'
unfolding proof_step
row-few tables at code.Term n st st' e few = from_bind (built strict tables at n st) _ st' e λ r made e1. few-same _ st' e1 few
row-few tables at code.TermSave n st st' e few = from_bind (built strict tables at n st) _ st' e λ r made e1. few-same _ st' e1 few
row-few tables at code.Ref n st st' e few = from_want (slice_get st.heap n) k.HeapIndex _ st' e λ x there e1. referred-few x st st' e1 few
row-few tables at code.ConvRef n st st' e few =
    from_want (slice_get st.heap n) k.HeapIndex _ st' e λ x there e1. from_need (is_conversion x) k.Kind _ st' e1 λ is e2. referred-few x st st' e2 few
row-few tables at code.Dummy n st st' e few =
    from_need (may_be_dummy_sort (slice_get tables.sorts n)) k.DummySort _ st' e λ sort e1.
    from_need (ltb (bound_count st.ctx) 55) k.DummyCount _ st' e1 λ room e2.
    few-same _ st' e2 (let below = ltb-true (bound_count st.ctx) 55 room in omega (arith, below, count-after st.ctx (dummy_of n ∷ [])))
row-few tables at code.Thm n st st' e few = from_bind (cited strict tables n st) _ st' e λ p is e1. few-same _ st' e1 few
row-few tables at code.ThmSave n st st' e few = from_bind (cited strict tables n st) _ st' e λ p is e1. few-same _ st' e1 few
row-few tables at code.Hyp n st st' e few =
    from_bind (pop_expr st.stack) _ st' e λ x popped e1. from_need (has_provable_sort strict tables st.ctx x.0) k.NotProvable _ st' e1 λ is e2. few-same _ st' e2 few
row-few tables at code.Conv n st st' e few = from_bind (pop_proof st.stack) _ st' e λ p popped e1. from_bind (pop_expr p.1) _ st' e1 λ l popped-l e2. few-same _ st' e2 few
row-few tables at code.Refl n st st' e few = from_bind (pop_obligation st.stack) _ st' e λ o popped e1. from_need (strict.same o.0 o.1) k.Refl _ st' e1 λ is e2. few-same _ st' e2 few
row-few tables at code.Symm n st st' e few = from_bind (pop_obligation st.stack) _ st' e λ o popped e1. few-same _ st' e1 few
row-few tables at code.Cong n st st' e few =
    from_bind (pop_obligation st.stack) _ st' e λ o popped e1. from_want (same_term (tree_parts o.0) (tree_parts o.1)) k.Cong _ st' e1 λ es is e2. few-same _ st' e2 few
row-few tables at code.Unfold n st st' e few =
    from_bind (unfolding_of strict tables st) _ st' e λ m is e1. from_bind (matched_by strict tables st.ctx m.0) _ st' e1 λ u ran e2. few-same _ st' e2 few
row-few tables at code.ConvCut n st st' e few = from_bind (pop_obligation st.stack) _ st' e λ o popped e1. few-same _ st' e1 few
row-few tables at code.ConvSave n st st' e few = from_bind (pop_conversion st.stack) _ st' e λ o popped e1. few-same _ st' e1 few
row-few tables at code.Save n st st' e few =
    from_bind (pop st.stack) _ st' e λ x popped e1. from_need (not (is_obligation x.0)) k.SaveKind _ st' e1 λ t e2. few-same _ st' e2 few
row-few tables at code.Sorry n st st' e few = absurd cc

-- ---- a body that is traced

-- the state that a turn leaves
abbrev Left : {S : Type 0} → (S → State Tree) → Turn S → Type 0
Left f (over s) = Few (f s)
Left f (goes_on len s) = Few (f s)

module _ (tables : RowsBefore) (h : Heading) where
  abbrev state : State Tree × Trace → State Tree
  state s = s.0

  turn-few : (len : ℕ) (s : State Tree × Trace) (o : Option BodyCommand) (t : Turn (State Tree × Trace)) → trace_turn tables h len s o ≡ Ok t → Few s.0 → Left state t
  turn-few len s None t e few = absurd cc
  turn-few len s (Some ends) t e few = let same : over s ≡ t = cc in subst (Left state) same few
  turn-few len s (Some (proves c value)) t e few =
      from_bind (proof_step strict tables 0 c value s.0) _ t e λ st row e1.
      from_bind (traced tables c value s.0 s.1) _ t e1 λ tr is e2.
      let same : goes_on len (st, tr) ≡ t = cc in subst (Left state) same (row-few tables 0 c value s.0 st row few)

  command-few : (s : State Tree × Trace) (r : Result Cmd CmdFault) (t : Turn (State Tree × Trace)) → trace_command tables h s r ≡ Ok t → Few s.0 → Left state t
  command-few s (Err f) t e few = absurd cc
  command-few s (Ok c) t e few = turn-few c.len s (body_command strict h.kind c.code c.value) t e few

  trace-few : (n : ℕ) (bytes : List ℕ) (s last : State Tree × Trace) → trace_from tables h n bytes s ≡ Ok last → Few s.0 → Few last.0
  unfolding trace_from
  trace-few zero bytes s last e few = absurd cc
  trace-few (suc n) bytes s last e few =
      from_follow (trace_command tables h s (first_command bytes)) _ last e
      (λ t turn same. subst (λ (z : State Tree × Trace). Few z.0) same (command-few s (first_command bytes) (over t) turn few))
      (λ len t turn rest. trace-few n (drop len bytes) t last rest (command-few s (first_command bytes) (goes_on len t) turn few))

  -- ---- a body that runs

  abbrev itself : State Tree → State Tree
  itself s = s

  end-few : (st s : State Tree) → proof_end strict tables h st ≡ Ok s → Few st → Few s
  unfolding proof_end
  end-few st s done few =
      from_bind (ends_with strict tables h st) _ s done λ m is e1.
      from_bind (matched_by strict tables st.ctx m) _ s e1 λ u ran e2. few-same st s e2 few

  run-turn-few : (at len : ℕ) (rest : List ℕ) (st : State Tree) (t : Turn (State Tree)) (o : Option BodyCommand)
      → body_turn_by strict tables h at len rest st o ≡ Ok t → Few st → Left itself t
  run-turn-few at len rest st t None e few = absurd cc
  run-turn-few at len rest st t (Some ends) e few =
      from_bind (need (is_empty rest) k.StatementLength >> proof_end strict tables h st) _ t e λ s both e1.
      from_need (is_empty rest) k.StatementLength _ s both λ p done.
      let same : over s ≡ t = cc in subst (Left itself) same (end-few st s done few)
  run-turn-few at len rest st t (Some (proves c n)) e few =
      from_bind (proof_step strict tables at c n st) _ t e λ s row e1.
      let same : goes_on len s ≡ t = cc in subst (Left itself) same (row-few tables at c n st s row few)

  run-command-few : (at : ℕ) (bytes : List ℕ) (st : State Tree) (r : Result Cmd CmdFault) (t : Turn (State Tree)) → body_turn strict tables h at bytes st r ≡ Ok t → Few st → Left itself t
  run-command-few at bytes st (Err f) t e few = absurd cc
  run-command-few at bytes st (Ok c) t e few = run-turn-few at c.len (drop c.len bytes) st t (body_command strict h.kind c.code c.value) e few

  body-few : (n at : ℕ) (bytes : List ℕ) (st last : State Tree) → body_from strict tables h n at bytes st ≡ Ok last → Few st → Few last
  unfolding body_from
  body-few zero at bytes st last e few = absurd cc
  body-few (suc n) at bytes st last e few =
      from_follow (at_place at (body_turn strict tables h at bytes st (first_command bytes))) _ last e
      (λ s is same. subst Few same (run-command-few at bytes st (first_command bytes) (over s) (place-ok at (body_turn strict tables h at bytes st (first_command bytes)) (over s) is) few))
      (λ len s is rest. body-few n (at + len) (drop len bytes) s last rest
      (run-command-few at bytes st (first_command bytes) (goes_on len s) (place-ok at (body_turn strict tables h at bytes st (first_command bytes)) (goes_on len s) is) few))

-- ---- parameters and dummies

-- dummies are all bound
dummies-bound : (ss : List SortMods) (ds : List Binder) → AreDummies ss ds → bound_count ds ≡ length ds
dummies-bound ss [] are = refl
dummies-bound ss (d ∷ ds) are =
    ap (λ (b : Bool). if b then suc (bound_count ds) else bound_count ds) (are zero d refl).0.0
    ∙ ap suc (dummies-bound ss ds (λ i x at. are (suc i) x at))

context-few : (ss : List SortMods) (ctx params ds : List Binder) → ctx ≡ params ++ ds → AreDummies ss ds → bound_count ctx ≤ 55 → bound_count params + length ds ≤ 55
context-few ss ctx params ds is are few = omega (arith, few, ap bound_count is, count-after params ds, dummies-bound ss ds are)

-- a theorem's
pub theorem-few : (tables : RowsBefore) (h : Heading) (bytes : List ℕ) (ss : List SortMods) (dummies : List Binder) (lets : List Proof) (root : Proof)
    → Made tables h bytes dummies lets root → AreDummies ss dummies
    → bound_count h.params ≤ 55 → bound_count h.params + length dummies ≤ 55
theorem-few tables h bytes ss dummies lets root made are few =
    context-few ss made.last.0.ctx h.params dummies made.dummies_are are (trace-few tables h (length bytes) bytes (trace_start h) made.last made.runs few)

-- ---- distinct variables behind the parameters are no more than there are

-- n numbers from a first one on
abbrev numbers : ℕ → ℕ → List ℕ
numbers i zero = []
numbers i (suc n) = i ∷ numbers (suc i) n

numbers-many : (i n : ℕ) → length (numbers i n) ≡ n
numbers-many i zero = refl
numbers-many i (suc n) = ap suc (numbers-many (suc i) n)

among-numbers : (i n y : ℕ) → i ≤ y → y < i + n → Among y (numbers i n)
among-numbers i zero y low high = absurd (omega (arith, low, high))
among-numbers i (suc n) y low high = go (leb (suc i) y) refl (λ up. among-numbers (suc i) n y up (omega (arith, high)))
  where
    go : (b : Bool) → leb (suc i) y ≡ b → (suc i ≤ y → Among y (numbers (suc i) n)) → Among y (i ∷ numbers (suc i) n)
    go true above later = inr (later (leb-true (suc i) y above))
    go false below later = let down = leb-false (suc i) y below in inl (omega (arith, down, low))

-- a bound parameter is in V of the operands, which are the parameters
parameter-in : (ctx : List Binder) (i : ℕ) (ps : List Binder) (j : ℕ) (b : Binder) → j < length ps → slice_get ctx (i + j) ≡ Some b → b.bound ≡ true
    → InSomeV ctx (i + j) (trees_of (variables_from i ps))
parameter-in ctx i [] j b below at bound = absurd (omega (arith, below))
parameter-in ctx i (p ∷ ps) zero b below at bound =
    let here : i + 0 ≡ i = omega arith in
    inl (b, subst (λ n. slice_get ctx n ≡ Some b) here at, inl (bound, here))
parameter-in ctx i (p ∷ ps) (suc j) b below at bound =
    let same : i + suc j ≡ suc i + j = omega arith in
    let later = parameter-in ctx (suc i) ps j b (omega (arith, below)) (subst (λ n. slice_get ctx n ≡ Some b) same at) bound in
    inr (subst (λ n. InSomeV ctx n (trees_of (variables_from (suc i) ps))) (sym same) later)

fresh-behind : (ctx params : List Binder) (n : ℕ) → length ctx ≡ length params + n → (ys : List ℕ) (ds : List Binder) → AreFresh ctx (trees_of (variables_from 0 params)) ys ds
    → (y : ℕ) → Among y ys → Among y (numbers (length params) n)
fresh-behind ctx params n many [] ds fresh y h = absurd h
fresh-behind ctx params n many (x ∷ ys) [] fresh y h = absurd fresh
fresh-behind ctx params n many (x ∷ ys) (d ∷ ds) ((b, at, bound, sort), free, once, later) y (inr h) = fresh-behind ctx params n many ys ds later y h
fresh-behind ctx params n many (x ∷ ys) (d ∷ ds) ((b, at, bound, sort), free, once, later) y (inl same) =
    let within = slice_get_within ctx x b at in
    among-numbers (length params) n y (go (leb (length params) y) refl) (omega (arith, within, many, same))
  where
    go : (c : Bool) → leb (length params) y ≡ c → length params ≤ y
    go true is = leb-true (length params) y is
    go false is =
        let below = leb-false (length params) y is in
        let zero_more : 0 + y ≡ x = omega (arith, same) in
        let there = parameter-in ctx 0 params y b below (subst (λ z. slice_get ctx z ≡ Some b) (sym zero_more) at) bound in
        absurd (free (subst (λ z. InSomeV ctx z (trees_of (variables_from 0 params))) zero_more there))

-- ---- a definition's row

pub definition-few : (tables : RowsBefore) (env : List Declaration) → Declares tables env → (h : Heading) (at : ℕ) (bytes : List ℕ) → h.kind ≡ is_definition
    → bound_count h.params ≤ 55 → Runs strict tables h at bytes
    → (ds : List Binder) (body : Tree) → SpellsForm (signatures env) h.params (Some h.stream) (defined ds body) → bound_count h.params + length ds ≤ 55
definition-few tables env declares h at bytes kind few (last, run-is) ds body text =
    let (fact, done) = body-fact false tables env declares h at bytes last run-is in
    let (made, ctx-is, are) = fact.context in
    let last-few : Few last = body-few tables h (length bytes) at bytes (body_start strict h) last run-is few in
    let all-few = context-few (sorts env) last.ctx h.params made ctx-is are last-few in
    let many : length last.ctx ≡ length h.params + length made = ap length ctx-is ∙ length-append h.params made in
    end-ran tables h last done λ e m u e-is ending-is ran.
    from_need (sort_of (signatures_in tables) last.ctx e == h.result.sort) k.DefinitionSort _ m (subst (λ (z : Kind). ending strict tables h last z e ≡ Ok m) kind ending-is) λ sort-test e1.
    from_need (free_within (signatures_in tables) last.ctx h.result.deps e (length last.ctx)) k.DefinitionDependencies _ m e1 λ free-test e2.
    let sorted = last-expr (signatures env) last.ctx last.stack e (subst (λ (z : Kind). last_item z last.stack ≡ Ok e) kind e-is) fact.stack_sorted in
    let own = own-run tables env declares h last.ctx in_definition e [] m u (taken-is (own_stream strict h in_definition e []) m e2) ran in
    let (met, spelled) = definition-spelled (signatures env) last.ctx h.params h.stream e u own sorted in
    let own-vars = variables_from 0 h.params in
    let (ys, _, _, (fresh, _)) =
    unfolding-is (signatures env) last.ctx h.params h.stream met (renamed (place_from 0 u.apart) e) own-vars e u spelled (length-params 0 h.params) sorted own in
    let same : met ≡ ds = (one-text of_definition (signatures env) h.params h.stream none none (renamed (place_from 0 u.apart) e) body met ds spelled text).2 in
    let fewer = fresh-fewer last.ctx (variables_from 0 h.params) ys met (numbers (length h.params) (length made)) fresh (fresh-behind last.ctx h.params (length made) many ys met fresh) in
    subst (λ (bs : List Binder). bound_count h.params + length bs ≤ 55) same (omega (arith, fewer, numbers-many (length h.params) (length made), all-few))

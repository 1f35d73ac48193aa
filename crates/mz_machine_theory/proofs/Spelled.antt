-- A stream that runs against an expression spells it, up to the names of its dummies.
use Rattle.std.proofs.Common.{◌≡◌, ℕ, zero, suc, ◌+◌, Bool, true, false, cond, eqb, List, [], ◌∷◌, ◌++◌, length, drop, map, Option, Some, None, Result, Ok, Err, refl, sym, ap, subst, ◌∙◌, ◌⊎◌, inl, inr, arith, append_assoc, eq-eqb}
use Rattle.std.specs.Prelude.{slice_get, ◌&&◌}
use Rattle.std.proofs.lemmas.Bool.{eqb-true, or_parts}
use Rattle.std.proofs.lemmas.List.{length-append, map-append}
use Rattle.mz_cmd.specs.declared.rule.K.{K}
use Rattle.mz_cmd.specs.declared.rule.K.TheVariants as k
use Rattle.mz_cmd.specs.declared.command.Cmd.{Cmd}
use Rattle.mz_cmd.specs.declared.command.CmdFault.{CmdFault}
use Rattle.mz_cmd.specs.Reading.{first_command}
use Rattle.mz_logic_theory.specs.Tree.{Tree, Trees, var, app, none, more, listed}
use Rattle.mz_logic_theory.specs.Signature.{Signature}
use Rattle.mz_logic_theory.specs.Sorts.{Fits}
use Rattle.mz_logic_theory.specs.declared.binder.Binder.{Binder}
use Rattle.mz_logic_theory.proofs.Offered.{same-variable, same-term, same-operands}
use Rattle.mz_machine_theory.specs.Steps.{◌>>=◌, at_place, over, goes_on, follow}
use Rattle.mz_machine_theory.specs.Streams.{UnifyCommand, u_term, u_term_save, u_ref, u_dummy, u_hyp, u_end, unify_command, IsEnd, StreamIs}
use Rattle.mz_machine_theory.specs.Spells.{trees_of, dummy_of, Marks, marked, with_dummy, HasOperands, Spells, SpellsAll}
use Rattle.mz_machine_theory.specs.Profile.{strict}
use Rattle.mz_machine_theory.specs.Sorted.{Sorted, AllSorted}
use Rattle.mz_machine_theory.specs.Tests.{in_v, same_tree}
use Rattle.mz_machine_theory.specs.UnifyMachine.{UnifyMode, kind_of, UnifyState, top_target, is_empty, nothing_left, within_any, is_fresh, unify_step, unify_turn_by, unify_turn, unify_from}
use Rattle.mz_machine_theory.proofs.Inverting.{from_bind, from_need, from_want, need-not, taken, taken-is}
use Rattle.mz_machine_theory.proofs.TestLaws.{not-in-v}
use Rattle.mz_machine_theory.proofs.Trees.{listed-trees_of, operand-trees_of, same_tree-true}
use Rattle.mz_machine_theory.proofs.Matching.{run, turn-goes, run-grows, fresh-one, top-is, head-is, tail-is, Opened, opened-term, opened-save}

-- ---- the commands of a stream that runs

ending-or-not : (v : UnifyCommand) → (v ≡ u_end) ⊎ (IsEnd v → ⊥)
ending-or-not (u_term t) = inr (λ h. h)
ending-or-not (u_term_save t) = inr (λ h. h)
ending-or-not (u_ref i) = inr (λ h. h)
ending-or-not (u_dummy s) = inr (λ h. h)
ending-or-not u_hyp = inr (λ h. h)
ending-or-not u_end = inl refl

abbrev pub Read : List Signature → List Binder → UnifyMode → List ℕ → UnifyState Tree → UnifyState Tree → Type 0
Read sigs ctx mode bytes st u = (us : List UnifyCommand) × StreamIs (kind_of mode) bytes us × (run sigs ctx mode us st ≡ Ok u)

pub reads : (sigs : List Signature) (ctx : List Binder) (mode : UnifyMode) (n at : ℕ) (bytes : List ℕ) (st u : UnifyState Tree)
    → unify_from strict sigs ctx mode n at bytes st ≡ Ok u → Read sigs ctx mode bytes st u
unfolding unify_from
reads sigs ctx mode zero at bytes st u e = absurd cc
reads sigs ctx mode (suc n) at bytes st u e = go (first_command bytes) refl e (λ c s h. reads sigs ctx mode n (at + c.len) (drop c.len bytes) s u h)
  where
    later : ℕ → UnifyState Tree → Result (UnifyState Tree) (ℕ × K)
    later len s = unify_from strict sigs ctx mode n (at + len) (drop len bytes) s

    ended : (r : Result (UnifyState Tree) K) → follow (at_place at (r >>= λ s. Ok (over s))) later ≡ Ok u → r ≡ Ok u
    ended (Ok s) h = let same : s ≡ u = cc in ap taken same
    ended (Err f) h = absurd cc

    goes : (c : Cmd) (v : UnifyCommand) (r : Result (UnifyState Tree) K) → first_command bytes ≡ Ok c → unify_command (kind_of mode) c.code c.value ≡ Some v → (IsEnd v → ⊥) → r ≡ unify_step strict sigs ctx mode v st
        → follow (at_place at (r >>= λ s. Ok (goes_on c.len s))) later ≡ Ok u
        → ((s : UnifyState Tree) → unify_from strict sigs ctx mode n (at + c.len) (drop c.len bytes) s ≡ Ok u → Read sigs ctx mode (drop c.len bytes) s u) → Read sigs ctx mode bytes st u
    goes c v (Err f) read is end row h ih = absurd cc
    goes c v (Ok s) read is end row h ih =
        let (us, stream, ran) = ih s h in
        (v ∷ us, (c, read, is, end, stream), subst (λ (z : Result (UnifyState Tree) K). (z >>= run sigs ctx mode us) ≡ Ok u) row ran)

    commands : (c : Cmd) (o : Option UnifyCommand) → first_command bytes ≡ Ok c → unify_command (kind_of mode) c.code c.value ≡ o
        → follow (at_place at (unify_turn_by strict sigs ctx mode c.len st o)) later ≡ Ok u
        → ((s : UnifyState Tree) → unify_from strict sigs ctx mode n (at + c.len) (drop c.len bytes) s ≡ Ok u → Read sigs ctx mode (drop c.len bytes) s u) → Read sigs ctx mode bytes st u
    commands c None read is h ih = absurd cc
    commands c (Some v) read is h ih =
        elim (ending-or-not v) [
          | inl end ↦ ([], (c, read, is ∙ ap (λ (z : UnifyCommand). Some z) end), ended (unify_step strict sigs ctx mode u_end st) (subst (λ (z : UnifyCommand). follow (at_place at (unify_turn_by strict sigs ctx mode c.len st (Some z))) later ≡ Ok u) end h))
          | inr not-end ↦ goes c v (unify_step strict sigs ctx mode v st) read is not-end refl (rw (turn-goes sigs ctx mode c.len st v not-end) at h) ih
        ]

    go : (r : Result Cmd CmdFault) → first_command bytes ≡ r → follow (at_place at (unify_turn strict sigs ctx mode st r)) (λ len s. unify_from strict sigs ctx mode n (at + len) (drop len bytes) s) ≡ Ok u
        → ((c : Cmd) (s : UnifyState Tree) → unify_from strict sigs ctx mode n (at + c.len) (drop c.len bytes) s ≡ Ok u → Read sigs ctx mode (drop c.len bytes) s u) → Read sigs ctx mode bytes st u
    go (Err f) read h ih = absurd cc
    go (Ok c) read h ih = commands c (unify_command (kind_of mode) c.code c.value) read refl h (ih c)

-- ---- names of variables by their places

abbrev pub is_named : ℕ → Tree → Bool
is_named x (var y) = eqb x y
is_named x (app t es) = false

-- the place of a variable in a list of trees that begins at a place; elsewhere the variable keeps its own
abbrev pub place_from : ℕ → List Tree → ℕ → ℕ
place_from i [] y = y
place_from i (t ∷ ts) y = cond (is_named y t) i (place_from (suc i) ts y)

abbrev mutual
  pub renamed : (ℕ → ℕ) → Tree → Tree
  renamed g (var x) = var (g x)
  renamed g (app t es) = app t (all_renamed g es)

  pub all_renamed : (ℕ → ℕ) → Trees → Trees
  all_renamed g none = none
  all_renamed g (more e es) = more (renamed g e) (all_renamed g es)

count-renamed : (g : ℕ → ℕ) (es : Trees) → length (listed (all_renamed g es)) ≡ length (listed es)
count-renamed g none = refl
count-renamed g (more e es) = ap suc (count-renamed g es)

get-map : (g : Tree → Tree) (xs : List Tree) (i : ℕ) (x : Tree) → slice_get xs i ≡ Some x → slice_get (map g xs) i ≡ Some (g x)
get-map g [] i x e = absurd cc
get-map g (y ∷ xs) zero x e = let is : y ≡ x = cc in ap (λ (z : Tree). Some (g z)) is
get-map g (y ∷ xs) (suc i) x e = get-map g xs i x e

-- a bound variable that isn't in V of an expression isn't the expression
not-itself : (ctx : List Binder) (y : ℕ) (b : Binder) (t : Tree) → slice_get ctx y ≡ Some b → b.bound ≡ true → in_v ctx y t ≡ false → is_named y t ≡ false
not-itself ctx y b (app h es) at bound out = refl
not-itself ctx y b (var z) at bound out = go (eqb y z) refl
  where
    go : (q : Bool) → eqb y z ≡ q → eqb y z ≡ false
    go false is = is
    go true is =
        let same : y ≡ z = eqb-true _ _ is in
        let at-z : slice_get ctx z ≡ Some b = subst (λ (w : ℕ). slice_get ctx w ≡ Some b) same at in
        absurd (not-in-v ctx y (var z) out (b, at-z, inl (bound, same)))

-- a bound variable that isn't in V of any of these stands at none of their places
place-past : (ctx : List Binder) (i y : ℕ) (b : Binder) (xs ys : List Tree) → slice_get ctx y ≡ Some b → b.bound ≡ true → within_any strict ctx (var y) xs ≡ false
    → place_from i ((xs ++ var y ∷ []) ++ ys) y ≡ i + length xs
place-past ctx i y b [] ys at bound out = rw (eq-eqb y y refl) (omega arith)
place-past ctx i y b (x ∷ xs) ys at bound out =
    let (here, there) = or_parts (in_v ctx y x) (within_any strict ctx (var y) xs) out in
    let is-not : is_named y x ≡ false = not-itself ctx y b x at bound here in
    rw is-not (place-past ctx (suc i) y b xs ys at bound there ∙ omega arith)

-- the target on top is not nothing
pub not-empty : {A : Type 0} (xs : List A) (y : A) (ys : List A) → xs ≡ y ∷ ys → is_empty xs ≡ false
not-empty [] y ys e = absurd cc
not-empty (x ∷ xs) y ys e = refl

pub count-fits : (sigs : List Signature) (ctx : List Binder) (es : Trees) (ps : List Binder) → Fits sigs ctx es ps → length (listed es) ≡ length ps
count-fits sigs ctx none [] h = refl
count-fits sigs ctx none (p ∷ ps) h = absurd h
count-fits sigs ctx (more e es) [] h = absurd h
count-fits sigs ctx (more e es) (p ∷ ps) (_, _, h) = ap suc (count-fits sigs ctx es ps h)

all-sorted : (sigs : List Signature) (ctx : List Binder) (es : Trees) (ps : List Binder) → Fits sigs ctx es ps → AllSorted sigs ctx (listed es)
all-sorted sigs ctx none ps h = tt
all-sorted sigs ctx (more e es) [] h = absurd h
all-sorted sigs ctx (more e es) (p ∷ ps) (has, _, h) = ((p.sort, has), all-sorted sigs ctx es ps h)

module _ (sigs : List Signature) (ctx : List Binder) (mode : UnifyMode) (n : ℕ) (u : UnifyState Tree) where
  abbrev name : ℕ → ℕ
  name = place_from 0 u.apart

  -- what is spelled under these marks, and the state after it
  pub record Spelt (m : Marks) (us : List UnifyCommand) (p : Tree) (st : UnifyState Tree) (left : List Tree) : Type 0 where
    pub after : Marks
    pub rest : List UnifyCommand
    pub state : UnifyState Tree
    pub suffix : (front : List UnifyCommand) × (us ≡ front ++ rest)
    pub spells : Spells n sigs m us p after rest
    pub runs : run sigs ctx mode rest state ≡ Ok u
    pub targets : state.targets ≡ left
    pub marks : after.trees ≡ map (renamed name) state.heap
    pub long : length state.apart ≡ n + length after.dummies
    pub items : state.items ≡ st.items

  pub record AllSpelt (m : Marks) (us : List UnifyCommand) (ps : Trees) (st : UnifyState Tree) (left : List Tree) : Type 0 where
    pub after : Marks
    pub rest : List UnifyCommand
    pub state : UnifyState Tree
    pub suffix : (front : List UnifyCommand) × (us ≡ front ++ rest)
    pub spells : SpellsAll n sigs m us ps after rest
    pub runs : run sigs ctx mode rest state ≡ Ok u
    pub targets : state.targets ≡ left
    pub marks : after.trees ≡ map (renamed name) state.heap
    pub long : length state.apart ≡ n + length after.dummies
    pub items : state.items ≡ st.items

  pub spells-ref : (p : Tree) (m : Marks) (us : List UnifyCommand) (i : ℕ) → slice_get m.trees i ≡ Some p → Spells n sigs m (u_ref i ∷ us) p m us
  spells-ref (var x) m us i at = inl (i, refl, at, refl)
  spells-ref (app h es) m us i at = inl (i, refl, at, refl)

  spelled-ref : (t : Tree) (i : ℕ) (m : Marks) (us : List UnifyCommand) (st : UnifyState Tree) (ts : List Tree)
      → run sigs ctx mode (u_ref i ∷ us) st ≡ Ok u → st.targets ≡ t ∷ ts → m.trees ≡ map (renamed name) st.heap → length st.apart ≡ n + length m.dummies → Spelt m (u_ref i ∷ us) (renamed name t) st ts
  unfolding unify_step
  spelled-ref t i m us st ts ran top marks long =
      from_bind (unify_step strict sigs ctx mode (u_ref i) st) _ u ran λ s row later.
      from_bind (top_target st.targets) _ s row λ r r-is e1.
      from_want (slice_get st.heap i) k.UnifyReference _ s e1 λ x x-at e2.
      from_need (same_tree x r.0) k.UnifyReference _ s e2 λ same e3.
      let both : t ∷ ts ≡ r.0 ∷ r.1 = sym top ∙ top-is st.targets r r-is in
      let x-is : x ≡ t = same_tree-true x r.0 same ∙ sym (head-is t r.0 ts r.1 both) in
      let at : slice_get m.trees i ≡ Some (renamed name t) = ap (λ (z : List Tree). slice_get z i) marks ∙ get-map (renamed name) st.heap i x x-at ∙ ap (λ (z : Tree). Some (renamed name z)) x-is in
      record {
        after = m;
        rest = us;
        state = record st { targets = r.1 };
        suffix = (u_ref i ∷ [], refl);
        spells = spells-ref (renamed name t) m us i at;
        runs = subst (λ (z : UnifyState Tree). run sigs ctx mode us z ≡ Ok u) (sym (taken-is (record st { targets = r.1 }) s e3)) later;
        targets = sym (tail-is t r.0 ts r.1 both);
        marks = marks;
        long = long;
        items = refl;
      }

  pub no-app : (h : ℕ) (es : Trees) (d : ℕ) (us : List UnifyCommand) (st : UnifyState Tree) (ts : List Tree) → run sigs ctx mode (u_dummy d ∷ us) st ≡ Ok u → st.targets ≡ app h es ∷ ts → ⊥
  unfolding unify_step
  no-app h es d us st ts ran top =
      from_bind (unify_step strict sigs ctx mode (u_dummy d) st) _ u ran λ s row later.
      from_bind (top_target st.targets) _ s row λ r r-is e1.
      from_need (is_fresh strict sigs ctx d r.0 st.apart) k.UnifyDummy _ s e1 λ test e2.
      let both : app h es ∷ ts ≡ r.0 ∷ r.1 = sym top ∙ top-is st.targets r r-is in
      let (z, z-is, _) = fresh-one sigs ctx st.apart r.0 d test in
      let bad : app h es ≡ var z = head-is (app h es) r.0 ts r.1 both ∙ z-is in
      cc

  spelled-dummy : (y d : ℕ) (m : Marks) (us : List UnifyCommand) (st : UnifyState Tree) (ts : List Tree)
      → run sigs ctx mode (u_dummy d ∷ us) st ≡ Ok u → st.targets ≡ var y ∷ ts → m.trees ≡ map (renamed name) st.heap → length st.apart ≡ n + length m.dummies → Spelt m (u_dummy d ∷ us) (renamed name (var y)) st ts
  unfolding unify_step
  spelled-dummy y d m us st ts ran top marks long =
      from_bind (unify_step strict sigs ctx mode (u_dummy d) st) _ u ran λ s row later.
      from_bind (top_target st.targets) _ s row λ r r-is e1.
      from_need (is_fresh strict sigs ctx d r.0 st.apart) k.UnifyDummy _ s e1 λ test e2.
      let both : var y ∷ ts ≡ r.0 ∷ r.1 = sym top ∙ top-is st.targets r r-is in
      let y-is : r.0 ≡ var y = sym (head-is (var y) r.0 ts r.1 both) in
      let made : UnifyState Tree = record st { targets = r.1; heap = st.heap ++ r.0 ∷ []; apart = st.apart ++ r.0 ∷ [] } in
      let later' : run sigs ctx mode us made ≡ Ok u = subst (λ (z : UnifyState Tree). run sigs ctx mode us z ≡ Ok u) (sym (taken-is made s e2)) later in
      let (z, z-is, ((b, b-at, bound, b-sort), _, out, _)) = fresh-one sigs ctx st.apart r.0 d test in
      let same : z ≡ y = same-variable z y (sym z-is ∙ y-is) in
      let (grown, apart-are) = run-grows sigs ctx mode us made u later' in
      let u-apart : u.apart ≡ (st.apart ++ var z ∷ []) ++ grown = apart-are ∙ ap (λ (w : Tree). (st.apart ++ w ∷ []) ++ grown) z-is in
      let named : name y ≡ n + length m.dummies = ap name (sym same) ∙ ap (λ (w : List Tree). place_from 0 w z) u-apart ∙ place-past ctx 0 z b st.apart grown b-at bound out ∙ omega (arith, long) in
      record {
        after = with_dummy m (name y) d;
        rest = us;
        state = made;
        suffix = (u_dummy d ∷ [], refl);
        spells = inr (d, refl, named, refl);
        runs = later';
        targets = sym (tail-is (var y) r.0 ts r.1 both);
        marks = ap (λ (w : List Tree). w ++ var (name y) ∷ []) marks ∙ ap (λ (w : Tree). map (renamed name) st.heap ++ renamed name w ∷ []) (sym y-is) ∙ sym (map-append (renamed name) st.heap (r.0 ∷ []));
        long = omega (arith, length-append st.apart (r.0 ∷ []), length-append m.dummies (dummy_of d ∷ []), long);
        items = refl;
      }

  abbrev opened : (h : ℕ) (us rest : List UnifyCommand) (st : UnifyState Tree) (t : Tree) (ts : List Tree)
      → us ≡ u_term h ∷ rest → run sigs ctx mode us st ≡ Ok u → st.targets ≡ t ∷ ts → Opened sigs ctx mode n (trees_of u.apart) u (operand-trees_of u.apart) rest st t ts h st.heap
  opened = opened-term sigs ctx mode n (trees_of u.apart) u (operand-trees_of u.apart)

  abbrev opened-saved : (h : ℕ) (us rest : List UnifyCommand) (st : UnifyState Tree) (t : Tree) (ts : List Tree)
      → us ≡ u_term_save h ∷ rest → run sigs ctx mode us st ≡ Ok u → st.targets ≡ t ∷ ts → Opened sigs ctx mode n (trees_of u.apart) u (operand-trees_of u.apart) rest st t ts h (st.heap ++ t ∷ [])
  opened-saved = opened-save sigs ctx mode n (trees_of u.apart) u (operand-trees_of u.apart)

  -- the operands of an application, as many as its term's parameters and each of a sort
  operands-of : (h : ℕ) (es : Trees) → Sorted sigs ctx (app h es) → HasOperands sigs h (all_renamed name es) × AllSorted sigs ctx (listed es)
  operands-of h es (s, (d, at, is, fits)) = ((d, at, count-renamed name es ∙ count-fits sigs ctx es d.params fits), all-sorted sigs ctx es d.params fits)

  mutual
    unfolding unify_step Opened

    pub spelled : (t : Tree) (us : List UnifyCommand) (m : Marks) (st : UnifyState Tree) (ts : List Tree)
        → run sigs ctx mode us st ≡ Ok u → st.targets ≡ t ∷ ts → Sorted sigs ctx t → m.trees ≡ map (renamed name) st.heap → length st.apart ≡ n + length m.dummies → Spelt m us (renamed name t) st ts
    spelled t [] m st ts ran top sorted marks long = absurd (need-not (is_empty st.targets && nothing_left mode st.items) k.UnifyRest (Ok st) u (rw (not-empty st.targets t ts top) refl) ran)
    spelled t (u_ref i ∷ us) m st ts ran top sorted marks long = spelled-ref t i m us st ts ran top marks long
    spelled (var y) (u_dummy d ∷ us) m st ts ran top sorted marks long = spelled-dummy y d m us st ts ran top marks long
    spelled (app h es) (u_dummy d ∷ us) m st ts ran top sorted marks long = absurd (no-app h es d us st ts ran top)
    spelled t (u_hyp ∷ us) m st ts ran top sorted marks long =
        from_bind (unify_step strict sigs ctx mode u_hyp st) _ u ran λ s row later. absurd (need-not (is_empty st.targets) k.UnifyRest _ s (not-empty st.targets t ts top) row)
    spelled t (u_end ∷ us) m st ts ran top sorted marks long =
        from_bind (unify_step strict sigs ctx mode u_end st) _ u ran λ s row later. absurd (need-not (is_empty st.targets && nothing_left mode st.items) k.UnifyRest (Ok st) s (rw (not-empty st.targets t ts top) refl) row)
    spelled (var y) (u_term h ∷ us) m st ts ran top sorted marks long = let (es, bad, later) = opened h (u_term h ∷ us) us st (var y) ts refl ran top in absurd cc
    spelled (var y) (u_term_save h ∷ us) m st ts ran top sorted marks long = let (es, bad, later) = opened-saved h (u_term_save h ∷ us) us st (var y) ts refl ran top in absurd cc
    spelled (app h es) (u_term t ∷ us) m st ts ran top sorted marks long =
        let (fs, is, later) = opened t (u_term t ∷ us) us st (app h es) ts refl ran top in
        let same : h ≡ t = same-term h t es (trees_of fs) is in
        let fs-are : fs ++ ts ≡ listed es ++ ts = ap (λ (z : List Tree). z ++ ts) (sym (listed-trees_of fs) ∙ ap listed (sym (same-operands h t es (trees_of fs) is))) in
        let (operands, es-sorted) = operands-of h es sorted in
        let a = all-spelled es us m (record st { targets = fs ++ ts }) ts later fs-are es-sorted marks long in
        record {
          after = a.after;
          rest = a.rest;
          state = a.state;
          suffix = (u_term t ∷ a.suffix.0, ap (λ (z : List UnifyCommand). u_term t ∷ z) a.suffix.1);
          spells = inr (inl (us, ap (λ (z : ℕ). u_term z ∷ us) (sym same), operands, a.spells));
          runs = a.runs;
          targets = a.targets;
          marks = a.marks;
          long = a.long;
          items = a.items;
        }
    spelled (app h es) (u_term_save t ∷ us) m st ts ran top sorted marks long =
        let (fs, is, later) = opened-saved t (u_term_save t ∷ us) us st (app h es) ts refl ran top in
        let same : h ≡ t = same-term h t es (trees_of fs) is in
        let fs-are : fs ++ ts ≡ listed es ++ ts = ap (λ (z : List Tree). z ++ ts) (sym (listed-trees_of fs) ∙ ap listed (sym (same-operands h t es (trees_of fs) is))) in
        let (operands, es-sorted) = operands-of h es sorted in
        let p : Tree = renamed name (app h es) in
        let marks' : (marked m p).trees ≡ map (renamed name) (st.heap ++ app h es ∷ []) = ap (λ (z : List Tree). z ++ p ∷ []) marks ∙ sym (map-append (renamed name) st.heap (app h es ∷ [])) in
        let a = all-spelled es us (marked m p) (record st { targets = fs ++ ts; heap = st.heap ++ app h es ∷ [] }) ts later fs-are es-sorted marks' long in
        record {
          after = a.after;
          rest = a.rest;
          state = a.state;
          suffix = (u_term_save t ∷ a.suffix.0, ap (λ (z : List UnifyCommand). u_term_save t ∷ z) a.suffix.1);
          spells = inr (inr (us, ap (λ (z : ℕ). u_term_save z ∷ us) (sym same), operands, a.spells));
          runs = a.runs;
          targets = a.targets;
          marks = a.marks;
          long = a.long;
          items = a.items;
        }

    all-spelled : (es : Trees) (us : List UnifyCommand) (m : Marks) (st : UnifyState Tree) (ts : List Tree)
        → run sigs ctx mode us st ≡ Ok u → st.targets ≡ listed es ++ ts → AllSorted sigs ctx (listed es) → m.trees ≡ map (renamed name) st.heap → length st.apart ≡ n + length m.dummies → AllSpelt m us (all_renamed name es) st ts
    all-spelled none us m st ts ran top sorted marks long =
        record { after = m; rest = us; state = st; suffix = ([], refl); spells = (refl, refl); runs = ran; targets = top; marks = marks; long = long; items = refl }
    all-spelled (more e es) us m st ts ran top (sorted, rest-sorted) marks long =
        let a = spelled e us m st (listed es ++ ts) ran top sorted marks long in
        let b = all-spelled es a.rest a.after a.state ts a.runs a.targets rest-sorted a.marks a.long in
        record {
          after = b.after;
          rest = b.rest;
          state = b.state;
          suffix = (a.suffix.0 ++ b.suffix.0, a.suffix.1 ∙ ap (λ (z : List UnifyCommand). a.suffix.0 ++ z) b.suffix.1 ∙ sym (append_assoc a.suffix.0 b.suffix.0 b.rest));
          spells = (a.after, a.rest, a.spells, b.spells);
          runs = b.runs;
          targets = b.targets;
          marks = b.marks;
          long = b.long;
          items = b.items ∙ a.items;
        }

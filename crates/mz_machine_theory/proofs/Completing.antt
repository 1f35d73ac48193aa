-- A stream that spells a pattern runs on each instance of it.
use Rattle.std.proofs.Common.{◌≡◌, ℕ, zero, suc, ◌+◌, ◌≤◌, true, List, [], ◌∷◌, ◌++◌, length, drop, map, Some, Result, Ok, refl, sym, ap, subst, ◌∙◌, inl, inr, arith, append_assoc, append-nil, length-append, eq-eqb}
use Rattle.std.specs.Prelude.{slice_get, take}
use Rattle.std.proofs.lemmas.List.{map-append}
use Rattle.mz_cmd.specs.declared.rule.K.{K}
use Rattle.mz_logic_theory.specs.Tree.{Tree, Trees, var, app, none, more, listed, operand, size, trees_size, instance, instances}
use Rattle.mz_logic_theory.specs.Signature.{Signature}
use Rattle.mz_logic_theory.specs.declared.binder.Binder.{Binder}
use Rattle.mz_machine_theory.specs.Steps.{◌>>=◌}
use Rattle.mz_machine_theory.specs.Streams.{UnifyCommand, u_term, u_term_save, u_ref, u_dummy, u_hyp, u_end, StreamIs}
use Rattle.mz_machine_theory.specs.Spells.{dummy_of, Marks, marked, with_dummy, Spells, SpellsAll, SpellsHyps}
use Rattle.mz_machine_theory.specs.Profile.{strict, Item, proof}
use Rattle.mz_machine_theory.specs.UnifyMachine.{UnifyMode, kind_of, UnifyState, nothing_left, is_fresh, unify_step, unify_from}
use Rattle.mz_machine_theory.proofs.Inverting.{from_bind}
use Rattle.mz_machine_theory.proofs.Trees.{same_tree-refl}
use Rattle.mz_machine_theory.proofs.Turning.{command-long, drop-less}
use Rattle.mz_machine_theory.proofs.Matching.{run, turn-goes, Agrees, agrees-append, agrees-pending, same-length}

-- ---- from commands to bytes

pub from-run : (sigs : List Signature) (ctx : List Binder) (mode : UnifyMode) (n at : ℕ) (bytes : List ℕ) (us : List UnifyCommand) (st u : UnifyState Tree)
    → StreamIs (kind_of mode) bytes us → length bytes ≤ n → run sigs ctx mode us st ≡ Ok u → unify_from strict sigs ctx mode n at bytes st ≡ Ok u
unfolding unify_from
from-run sigs ctx mode zero at bytes [] st u (c, read, is) le ran = absurd (let (one, within) = command-long bytes c read in omega arith)
from-run sigs ctx mode zero at bytes (v ∷ us) st u (c, read, is, _, stream) le ran = absurd (let (one, within) = command-long bytes c read in omega arith)
from-run sigs ctx mode (suc n) at bytes [] st u (c, read, is) le ran =
    let row : unify_step strict sigs ctx mode u_end st ≡ Ok u = ran in
    rw (read, is, row) refl
from-run sigs ctx mode (suc n) at bytes (v ∷ us) st u (c, read, is, no-end, stream) le ran =
    from_bind (unify_step strict sigs ctx mode v st) _ u ran λ s row later.
    rw (read, is, turn-goes sigs ctx mode c.len st v no-end, row)
    (from-run sigs ctx mode n (at + c.len) (drop c.len bytes) us s u stream (drop-less bytes c.len n (command-long bytes c read).0 le) later)

-- ---- rows that go through

module _ (sigs : List Signature) (ctx : List Binder) (mode : UnifyMode) where
  ref-row : (i : ℕ) (st : UnifyState Tree) (t : Tree) (ts : List Tree) → st.targets ≡ t ∷ ts → slice_get st.heap i ≡ Some t → unify_step strict sigs ctx mode (u_ref i) st ≡ Ok (record st { targets = ts })
  unfolding unify_step
  ref-row i st t ts top at = rw (top, at, same_tree-refl t) refl

  term-row : (h : ℕ) (st : UnifyState Tree) (fs : Trees) (ts : List Tree) → st.targets ≡ app h fs ∷ ts → unify_step strict sigs ctx mode (u_term h) st ≡ Ok (record st { targets = listed fs ++ ts })
  unfolding unify_step
  term-row h st fs ts top = rw (top, eq-eqb h h refl) refl

  save-row : (h : ℕ) (st : UnifyState Tree) (fs : Trees) (ts : List Tree) → st.targets ≡ app h fs ∷ ts → unify_step strict sigs ctx mode (u_term_save h) st ≡ Ok (record st { targets = listed fs ++ ts; heap = st.heap ++ app h fs ∷ [] })
  unfolding unify_step
  save-row h st fs ts top = rw (top, eq-eqb h h refl) refl

  dummy-row : (s : ℕ) (st : UnifyState Tree) (t : Tree) (ts : List Tree) → st.targets ≡ t ∷ ts → is_fresh strict sigs ctx s t st.apart ≡ true
      → unify_step strict sigs ctx mode (u_dummy s) st ≡ Ok (record st { targets = ts; heap = st.heap ++ t ∷ []; apart = st.apart ++ t ∷ [] })
  unfolding unify_step
  dummy-row s st t ts top fresh = rw (top, fresh) refl

  -- ---- a pattern

  module _ (n : ℕ) (f : Trees) (es : List Tree) (ys : List ℕ) (ds : List Binder)
      (fresh-next : (k : ℕ) (b : Binder) → slice_get ds k ≡ Some b
      → (y : ℕ) × (operand f (n + k) ≡ var y) × (is_fresh strict sigs ctx b.sort (var y) (es ++ map var (take k ys)) ≡ true) × (take (suc k) ys ≡ take k ys ++ y ∷ [])) where
    abbrev DisjointIs : Marks → UnifyState Tree → Type 0
    DisjointIs m st = st.apart ≡ es ++ map var (take (length m.dummies) ys)

    abbrev Within : Marks → Type 0
    Within m = (rest : List Binder) × (ds ≡ m.dummies ++ rest)

    pub record Onward (m m' : Marks) (us us' : List UnifyCommand) (st : UnifyState Tree) (ts : List Tree) : Type 0 where
      pub state : UnifyState Tree
      pub new : List Tree
      pub runs : run sigs ctx mode us st ≡ run sigs ctx mode us' state
      pub targets : state.targets ≡ ts
      pub items : state.items ≡ st.items
      pub marks : m'.trees ≡ m.trees ++ new
      pub heap : state.heap ≡ st.heap ++ map (instance f) new
      pub apart : DisjointIs m' state

    -- the dummies only grow
    mutual
      grown : (p : Tree) (m m' : Marks) (us us' : List UnifyCommand) → Spells n sigs m us p m' us' → Within m' → Within m
      grown (var x) m m' us us' (inl (i, _, _, is)) (rest, all) = (rest, all ∙ ap (λ (z : Marks). z.dummies ++ rest) is)
      grown (var x) m m' us us' (inr (s, _, _, is)) (rest, all) = (dummy_of s ∷ rest, all ∙ ap (λ (z : Marks). z.dummies ++ rest) is ∙ append_assoc m.dummies (dummy_of s ∷ []) rest)
      grown (app t ps) m m' us us' (inl (i, _, _, is)) (rest, all) = (rest, all ∙ ap (λ (z : Marks). z.dummies ++ rest) is)
      grown (app t ps) m m' us us' (inr (inl (mid, _, _, h))) w = all-grown ps m m' mid us' h w
      grown (app t ps) m m' us us' (inr (inr (mid, _, _, h))) w = all-grown ps (marked m (app t ps)) m' mid us' h w

      all-grown : (ps : Trees) (m m' : Marks) (us us' : List UnifyCommand) → SpellsAll n sigs m us ps m' us' → Within m' → Within m
      all-grown none m m' us us' (is, _) (rest, all) = (rest, all ∙ ap (λ (z : Marks). z.dummies ++ rest) is)
      all-grown (more p ps) m m' us us' (mid, middle, h, hs) w = grown p m mid us middle h (all-grown ps mid m' middle us' hs w)

    pub hyps-grown : (hs : List Tree) (m last : Marks) (us : List UnifyCommand) → SpellsHyps n sigs m us hs last → Within last → Within m
    hyps-grown [] m last us (_, is) (rest, all) = (rest, all ∙ ap (λ (z : Marks). z.dummies ++ rest) is)
    hyps-grown (h ∷ hs) m last us (mid-us, mid, us', _, first, others) w = grown h m mid mid-us us' first (hyps-grown hs mid last us' others w)

    onward-ref : (p : Tree) (m m' : Marks) (us us' : List UnifyCommand) (st : UnifyState Tree) (ts : List Tree) (i : ℕ) → us ≡ u_ref i ∷ us' → slice_get m.trees i ≡ Some p → m' ≡ m
        → st.targets ≡ instance f p ∷ ts → Agrees f m.trees st.heap (size p) → DisjointIs m st → Onward m m' us us' st ts
    unfolding Agrees
    onward-ref p m m' us us' st ts i u at is top agrees apart = record {
      state = record st { targets = ts };
      new = [];
      runs = ap (λ (z : List UnifyCommand). run sigs ctx mode z st) u ∙ ap (λ (r : Result (UnifyState Tree) K). r >>= run sigs ctx mode us') (ref-row i st (instance f p) ts top (agrees i p at (omega arith)));
      targets = refl;
      items = refl;
      marks = ap (λ (z : Marks). z.trees) is ∙ sym (append-nil m.trees);
      heap = sym (append-nil st.heap);
      apart = subst (λ (z : Marks). st.apart ≡ es ++ map var (take (length z.dummies) ys)) (sym is) apart;
    }

    get-next : (xs rest : List Binder) (b : Binder) → slice_get ((xs ++ b ∷ []) ++ rest) (length xs) ≡ Some b
    get-next [] rest b = refl
    get-next (x ∷ xs) rest b = get-next xs rest b

    onward-dummy : (x s : ℕ) (m m' : Marks) (us us' : List UnifyCommand) (st : UnifyState Tree) (ts : List Tree) → us ≡ u_dummy s ∷ us' → x ≡ n + length m.dummies → m' ≡ with_dummy m x s → Within m'
        → st.targets ≡ operand f x ∷ ts → DisjointIs m st → Onward m m' us us' st ts
    onward-dummy x s m m' us us' st ts u x-is is (rest, all) top apart =
        let at : slice_get ds (length m.dummies) ≡ Some (dummy_of s) = ap (λ (z : List Binder). slice_get z (length m.dummies)) (all ∙ ap (λ (z : Marks). z.dummies ++ rest) is) ∙ get-next m.dummies rest (dummy_of s) in
        let (y, put, fresh, longer) = fresh-next (length m.dummies) (dummy_of s) at in
        let value : operand f x ≡ var y = ap (operand f) x-is ∙ put in
        let top' : st.targets ≡ var y ∷ ts = top ∙ ap (λ (z : Tree). z ∷ ts) value in
        let fresh' : is_fresh strict sigs ctx s (var y) st.apart ≡ true = ap (is_fresh strict sigs ctx s (var y)) apart ∙ fresh in
        let dums : length m'.dummies ≡ suc (length m.dummies) = ap (λ (z : Marks). length z.dummies) is ∙ length-append m.dummies (dummy_of s ∷ []) ∙ omega arith in
        record {
          state = record st { targets = ts; heap = st.heap ++ var y ∷ []; apart = st.apart ++ var y ∷ [] };
          new = var x ∷ [];
          runs = ap (λ (z : List UnifyCommand). run sigs ctx mode z st) u ∙ ap (λ (r : Result (UnifyState Tree) K). r >>= run sigs ctx mode us') (dummy-row s st (var y) ts top' fresh');
          targets = refl;
          items = refl;
          marks = ap (λ (z : Marks). z.trees) is;
          heap = ap (λ (z : Tree). st.heap ++ z ∷ []) (sym value);
          apart = ap (λ (z : List Tree). z ++ var y ∷ []) apart ∙ append_assoc es (map var (take (length m.dummies) ys)) (var y ∷ [])
              ∙ ap (λ (z : List Tree). es ++ z) (sym (map-append var (take (length m.dummies) ys) (y ∷ [])))
              ∙ ap (λ (z : List ℕ). es ++ map var z) (sym longer) ∙ ap (λ (k : ℕ). es ++ map var (take k ys)) (sym dums);
        }

    mutual
      unfolding Agrees

      pub onward : (p : Tree) (m m' : Marks) (us us' : List UnifyCommand) (st : UnifyState Tree) (ts : List Tree) → Spells n sigs m us p m' us' → Within m'
          → st.targets ≡ instance f p ∷ ts → length m.trees ≡ length st.heap → Agrees f m.trees st.heap (size p) → DisjointIs m st → Onward m m' us us' st ts
      onward (var x) m m' us us' st ts (inl (i, u, at, is)) w top long agrees apart = onward-ref (var x) m m' us us' st ts i u at is top agrees apart
      onward (var x) m m' us us' st ts (inr (s, u, x-is, is)) w top long agrees apart = onward-dummy x s m m' us us' st ts u x-is is w top apart
      onward (app h ps) m m' us us' st ts (inl (i, u, at, is)) w top long agrees apart = onward-ref (app h ps) m m' us us' st ts i u at is top agrees apart
      onward (app h ps) m m' us us' st ts (inr (inl (rest, u, _, all))) w top long agrees apart =
          let a = onward-all ps m m' rest us' (record st { targets = listed (instances f ps) ++ ts }) ts all w refl long (λ i q at small. agrees i q at (omega arith)) apart in
          record {
            state = a.state;
            new = a.new;
            targets = a.targets;
            items = a.items;
            marks = a.marks;
            heap = a.heap;
            apart = a.apart;
            runs = ap (λ (z : List UnifyCommand). run sigs ctx mode z st) u ∙ ap (λ (r : Result (UnifyState Tree) K). r >>= run sigs ctx mode rest) (term-row h st (instances f ps) ts top) ∙ a.runs;
          }
      onward (app h ps) m m' us us' st ts (inr (inr (rest, u, _, all))) w top long agrees apart =
          let t : Tree = instance f (app h ps) in
          let longer : length (marked m (app h ps)).trees ≡ length (st.heap ++ t ∷ []) = omega (arith, length-append m.trees (app h ps ∷ []), length-append st.heap (t ∷ []), long) in
          let pending : Agrees f (m.trees ++ app h ps ∷ []) (st.heap ++ t ∷ []) (trees_size ps) = agrees-pending f m.trees st.heap (app h ps) t (trees_size ps) long (omega arith) (λ i q at small. agrees i q at (omega arith)) in
          let a = onward-all ps (marked m (app h ps)) m' rest us' (record st { targets = listed (instances f ps) ++ ts; heap = st.heap ++ t ∷ [] }) ts all w refl longer pending apart in
          record {
            state = a.state;
            new = app h ps ∷ a.new;
            targets = a.targets;
            items = a.items;
            apart = a.apart;
            marks = a.marks ∙ append_assoc m.trees (app h ps ∷ []) a.new;
            heap = a.heap ∙ append_assoc st.heap (t ∷ []) (map (instance f) a.new);
            runs = ap (λ (z : List UnifyCommand). run sigs ctx mode z st) u ∙ ap (λ (r : Result (UnifyState Tree) K). r >>= run sigs ctx mode rest) (save-row h st (instances f ps) ts top) ∙ a.runs;
          }

      onward-all : (ps : Trees) (m m' : Marks) (us us' : List UnifyCommand) (st : UnifyState Tree) (ts : List Tree) → SpellsAll n sigs m us ps m' us' → Within m'
          → st.targets ≡ listed (instances f ps) ++ ts → length m.trees ≡ length st.heap → Agrees f m.trees st.heap (trees_size ps) → DisjointIs m st → Onward m m' us us' st ts
      onward-all none m m' us us' st ts (is, u) w top long agrees apart = record {
        state = st;
        new = [];
        targets = top;
        items = refl;
        runs = ap (λ (z : List UnifyCommand). run sigs ctx mode z st) (sym u);
        marks = ap (λ (z : Marks). z.trees) is ∙ sym (append-nil m.trees);
        heap = sym (append-nil st.heap);
        apart = subst (λ (z : Marks). st.apart ≡ es ++ map var (take (length z.dummies) ys)) (sym is) apart;
      }
      onward-all (more p ps) m m' us us' st ts (mid, middle, first, others) w top long agrees apart =
          let a = onward p m mid us middle st (listed (instances f ps) ++ ts) first (all-grown ps mid m' middle us' others w) top long (λ i q at small. agrees i q at (omega arith)) apart in
          let long-mid : length mid.trees ≡ length a.state.heap = ap length a.marks ∙ same-length f m.trees st.heap a.new long ∙ sym (ap length a.heap) in
          let grown-agrees : Agrees f (m.trees ++ a.new) (st.heap ++ map (instance f) a.new) (trees_size ps) = agrees-append f m.trees st.heap a.new (trees_size ps) long (λ i q at small. agrees i q at (omega arith)) in
          let agrees-mid : Agrees f mid.trees a.state.heap (trees_size ps) = subst (λ (z : List Tree). Agrees f z a.state.heap (trees_size ps)) (sym a.marks) (subst (λ (z : List Tree). Agrees f (m.trees ++ a.new) z (trees_size ps)) (sym a.heap) grown-agrees) in
          let b = onward-all ps mid m' middle us' a.state ts others w a.targets long-mid agrees-mid a.apart in
          record {
            state = b.state;
            new = a.new ++ b.new;
            runs = a.runs ∙ b.runs;
            targets = b.targets;
            items = b.items ∙ a.items;
            marks = b.marks ∙ ap (λ (z : List Tree). z ++ b.new) a.marks ∙ append_assoc m.trees a.new b.new;
            heap = b.heap ∙ ap (λ (z : List Tree). z ++ map (instance f) b.new) a.heap ∙ append_assoc st.heap (map (instance f) a.new) (map (instance f) b.new) ∙ ap (λ (z : List Tree). st.heap ++ z) (sym (map-append (instance f) a.new b.new));
            apart = b.apart;
          }

    -- ---- hypotheses, and the end

    -- the heap is the marks' instances
    pub heap-grown : (st st' : UnifyState Tree) (m m' : Marks) (new : List Tree) → st.heap ≡ map (instance f) m.trees → st'.heap ≡ st.heap ++ map (instance f) new → m'.trees ≡ m.trees ++ new → st'.heap ≡ map (instance f) m'.trees
    heap-grown st st' m m' new heap grew marks =
        grew ∙ ap (λ (z : List Tree). z ++ map (instance f) new) heap ∙ sym (map-append (instance f) m.trees new) ∙ ap (map (instance f)) (sym marks)

    module _ (rest : List (Item Tree)) (end-is : nothing_left mode rest ≡ true) where
      hyp-row : (st : UnifyState Tree) (t : Tree) (xs : List (Item Tree)) → st.targets ≡ [] → st.items ≡ proof t ∷ xs → unify_step strict sigs ctx mode u_hyp st ≡ Ok (record st { targets = t ∷ []; items = xs })
      unfolding unify_step
      hyp-row st t xs top items = rw (top, items) refl

      abbrev Ends : List UnifyCommand → UnifyState Tree → Marks → Type 0
      Ends us st last = (u : UnifyState Tree) × (run sigs ctx mode us st ≡ Ok u) × (u.heap ≡ map (instance f) last.trees) × (u.items ≡ rest)

      end-row : (st : UnifyState Tree) → st.targets ≡ [] → st.items ≡ rest → unify_step strict sigs ctx mode u_end st ≡ Ok st
      unfolding unify_step
      end-row st top items = rw (top, items, end-is) refl

      pub hyps-onward : (rs : List Tree) (m last : Marks) (us : List UnifyCommand) (st : UnifyState Tree) → SpellsHyps n sigs m us rs last → Within last → st.targets ≡ [] → st.items ≡ map proof (map (instance f) rs) ++ rest
          → st.heap ≡ map (instance f) m.trees → length m.trees ≡ length st.heap → ((k : ℕ) → Agrees f m.trees st.heap k) → DisjointIs m st → Ends us st last
      hyps-onward [] m last us st (u, is) w top items heap long agrees apart =
          (st, ap (λ (z : List UnifyCommand). run sigs ctx mode z st) u ∙ end-row st top items, heap ∙ ap (λ (z : Marks). map (instance f) z.trees) (sym is), items)
      hyps-onward (h ∷ rs) m last us st (mid-us, mid, us', u, first, others) w top items heap long agrees apart =
          let st' : UnifyState Tree = record st { targets = instance f h ∷ []; items = map proof (map (instance f) rs) ++ rest } in
          let a = onward h m mid mid-us us' st' [] first (hyps-grown rs mid last us' others w) refl long (agrees (size h)) apart in
          let long-mid : length mid.trees ≡ length a.state.heap = ap length a.marks ∙ same-length f m.trees st.heap a.new long ∙ sym (ap length a.heap) in
          let agrees-mid : (k : ℕ) → Agrees f mid.trees a.state.heap k =
          λ k. subst (λ (z : List Tree). Agrees f z a.state.heap k) (sym a.marks) (subst (λ (z : List Tree). Agrees f (m.trees ++ a.new) z k) (sym a.heap) (agrees-append f m.trees st.heap a.new k long (agrees k))) in
          let (v, ran, heap-is, left) = hyps-onward rs mid last us' a.state others w a.targets a.items (heap-grown st' a.state m mid a.new heap a.heap a.marks) long-mid agrees-mid a.apart in
          (v, ap (λ (z : List UnifyCommand). run sigs ctx mode z st) u ∙ ap (λ (r : Result (UnifyState Tree) K). r >>= run sigs ctx mode mid-us) (hyp-row st (instance f h) (map proof (map (instance f) rs) ++ rest) top items) ∙ a.runs ∙ ran, heap-is, left)

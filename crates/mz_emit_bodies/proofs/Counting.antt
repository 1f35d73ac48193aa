-- How much is in the heap and how many lets are met: what is written only adds to both, to the heap at most one item for each
-- command. So where 32 bits are enough for the whole, they are at each place on the way.
use Rattle.std.specs.Prelude.{ℕ, ◌≡◌, ◌<◌, ◌≤◌, ◌+◌, ◌*◌, ◌^◌, false, List, [], ◌∷◌, ◌++◌, length, get_or, take, Option, Some, None}
use Rattle.std.proofs.Common.{zero, suc, refl, sym, ap, ◌∙◌, subst, arith}
use Rattle.std.proofs.lemmas.List.{length-append}
use Rattle.mz_cmd.specs.declared.code.ProofCode.{ProofCode}
use Rattle.mz_cmd.specs.declared.code.ProofCode.TheVariants as code
use Rattle.mz_logic_theory.specs.Tree.{Tree, Trees, var, app, none, more, listed, instance, followed_by, variables, size, trees_size}
use Rattle.mz_logic_theory.specs.Declaration.{Declaration}
use Rattle.mz_logic_theory.specs.Legality.{binder_at}
use Rattle.mz_logic_theory.specs.Conversions.{Conversion, Conversions, refl_conv, sym_conv, cong_conv, unfold_conv, gap_conv, no_convs, more_convs}
use Rattle.mz_logic_theory.specs.declared.binder.Binder.{Binder}
use Rattle.mz_store.specs.Sharing.{Sharing, IsIn, tree_of, trees_of, head_of}
use Rattle.mz_store.specs.declared.item.Id.{Id}
use Rattle.mz_mmu_theory.specs.Proof.{Proof, Proofs, by_hyp, by_name, by_citation, by_conv, by_let, by_gap, no_proofs, more_proofs}
use Rattle.mz_emit_theory.specs.Claims.{conclusion_of}
use Rattle.mz_emit_theory.specs.Costs.{body_at}
use Rattle.mz_emit_theory.specs.Uses.{a_gap}
use Rattle.mz_emit_theory.specs.Weights.{proof_weight}
use Rattle.mz_emit_theory.specs.BodyWriting.{Kept, expression, hypothesis, first_part, Writing, Written, Writer, and_then, nothing, ◌>>◌, command, keeping, unless_kept, at_first, write_expr, write_exprs, write_payment, write_payments, at_name, write_proof, write_proofs, write_hyp, write_hyps}
use Rattle.mz_emit_bodies.specs.Places.{place_of}
use Rattle.mz_emit_bodies.specs.Sight.{Part, parts}
use Rattle.mz_emit_bodies.specs.Scopes.{in_sight, row_of, scopes_after}
use Rattle.mz_emit_bodies.specs.TaskInvariant.{Task, prove, prove_all, cite, push, make, pay, pay_all, give, save}
use Rattle.mz_emit_bodies.specs.Writers.{let_writers, term_of, write_task, write_tasks, HasRoom, IsWriting}
use Rattle.mz_emit_bodies.specs.declared.let_scopes.Cell.{Cell}
use Rattle.mz_emit_bodies.proofs.Heaps.{below_long}
use Rattle.mz_emit_bodies.proofs.Lists.{each_last}
use Rattle.mz_emit_bodies.proofs.Owned.{is_var}
use Rattle.mz_emit_bodies.proofs.QuietWriters.{bytes_in, few_commands, kept_either, expr_quiet, hyps_quiet, quiet_then}
use Rattle.mz_emit_bodies.proofs.Spending.{theorem_spends}
use Rattle.mz_emit_bodies.proofs.Writers.{dummy_written, hyps_next, so_far}

-- ---- writers

pub record OnlyAdds (f : Writer) : Type 0 where
  pub heap : (w : Writing) → length w.heap ≤ length (f w).after.heap
  pub few : (w : Writing) → length (f w).after.heap ≤ length w.heap + length (f w).commands
  pub lets : (w : Writing) → w.lets ≤ (f w).after.lets

adds_nothing : OnlyAdds nothing
adds_nothing = record { heap = λ w. omega arith; few = λ w. omega arith; lets = λ w. omega arith }

adds_then : (f g : Writer) → OnlyAdds f → OnlyAdds g → OnlyAdds (f >> g)
adds_then f g a b = record {
  heap = λ w. (let h = a.heap w in let k = b.heap (f w).after in omega (arith, h, k));
  few = λ w. (let h = a.few w in let k = b.few (f w).after in let l = length-append (f w).commands (g (f w).after).commands in omega (arith, h, k, l));
  lets = λ w. (let h = a.lets w in let k = b.lets (f w).after in omega (arith, h, k));
}

adds_command : (c : ProofCode) (v : ℕ) → OnlyAdds (command c v)
adds_command c v = record { heap = λ w. omega arith; few = λ w. omega arith; lets = λ w. omega arith }

adds_keeping : (c : ProofCode) (v : ℕ) (x : Kept) → OnlyAdds (keeping c v x)
adds_keeping c v x = record { heap = λ w. omega arith; few = λ w. omega arith; lets = λ w. omega arith }

adds_kept : (x : Kept) (f : Writer) → OnlyAdds f → OnlyAdds (unless_kept x f)
adds_kept x f a = record {
  heap = λ w. kept_either (λ (r : Written). length w.heap ≤ length r.after.heap) x f w (λ p. omega arith) (a.heap w);
  few = λ w. kept_either (λ (r : Written). length r.after.heap ≤ length w.heap + length r.commands) x f w (λ p. omega arith) (a.few w);
  lets = λ w. kept_either (λ (r : Written). w.lets ≤ r.after.lets) x f w (λ p. omega arith) (a.lets w);
}

adds_name : (n : ℕ) (f : Writer) → OnlyAdds f → OnlyAdds (at_name n f)
adds_name n f a = adds_kept (first_part n) (f >> keeping code.Save 0 (first_part n)) (adds_then f (keeping code.Save 0 (first_part n)) a (adds_keeping code.Save 0 (first_part n)))

-- ---- expressions and hypotheses

module _ (ctx : List Binder) where
  mutual
    expr_adds : (e : Tree) → OnlyAdds (write_expr ctx e)
    expr_adds (var x) = adds_kept (expression (var x)) (keeping code.Dummy (binder_at ctx x).sort (expression (var x))) (adds_keeping code.Dummy (binder_at ctx x).sort (expression (var x)))
    expr_adds (app t es) = adds_kept (expression (app t es)) (write_exprs ctx es >> keeping code.TermSave t (expression (app t es)))
        (adds_then (write_exprs ctx es) (keeping code.TermSave t (expression (app t es))) (exprs_add es) (adds_keeping code.TermSave t (expression (app t es))))

    exprs_add : (es : Trees) → OnlyAdds (write_exprs ctx es)
    exprs_add none = adds_nothing
    exprs_add (more e es) = adds_then (write_expr ctx e) (write_exprs ctx es) (expr_adds e) (exprs_add es)

  hyp_adds : (n : ℕ) (e : Tree) → OnlyAdds (write_hyp ctx n e)
  hyp_adds n e = adds_then (write_expr ctx e) (keeping code.Hyp 0 (hypothesis n)) (expr_adds e) (adds_keeping code.Hyp 0 (hypothesis n))

  hyps_add : (n : ℕ) (es : List Tree) → OnlyAdds (write_hyps ctx n es)
  hyps_add n [] = adds_nothing
  hyps_add n (e ∷ es) = adds_then (write_hyp ctx n e) (write_hyps ctx (suc n) es) (hyp_adds n e) (hyps_add (suc n) es)

-- ---- proofs

-- what is written for the name of each let
abbrev AllAdd : List Writer → Type 0
AllAdd lets = (i : ℕ) → OnlyAdds (get_or lets i nothing)

none_add : AllAdd []
none_add i = adds_nothing

module _ (env : List Declaration) (ctx : List Binder) where
  mutual
    payment_adds : (c : Conversion) → OnlyAdds (write_payment env ctx c)
    payment_adds (refl_conv e) = adds_command code.Refl 0
    payment_adds (sym_conv c) = adds_then (command code.Symm 0) (write_payment env ctx c) (adds_command code.Symm 0) (payment_adds c)
    payment_adds (cong_conv t cs) = adds_then (command code.Cong 0) (write_payments env ctx cs) (adds_command code.Cong 0) (payments_add cs)
    payment_adds (unfold_conv t es ys c) =
        let x : Tree = instance (followed_by es (variables ys)) (body_at env t) in
        adds_then (write_expr ctx (app t es)) (write_expr ctx x >> command code.Unfold 0 >> write_payment env ctx c) (expr_adds ctx (app t es))
        (adds_then (write_expr ctx x) (command code.Unfold 0 >> write_payment env ctx c) (expr_adds ctx x)
        (adds_then (command code.Unfold 0) (write_payment env ctx c) (adds_command code.Unfold 0) (payment_adds c)))
    payment_adds (gap_conv l r) = adds_command code.Sorry 0

    payments_add : (cs : Conversions) → OnlyAdds (write_payments env ctx cs)
    payments_add no_convs = adds_nothing
    payments_add (more_convs c cs) = adds_then (write_payment env ctx c) (write_payments env ctx cs) (payment_adds c) (payments_add cs)

  citation_adds : (T : ℕ) (es : Trees) → OnlyAdds (write_exprs ctx es >> write_expr ctx (instance es (conclusion_of env T)) >> command code.Thm T)
  citation_adds T es =
      let e : Tree = instance es (conclusion_of env T) in
      adds_then (write_exprs ctx es) (write_expr ctx e >> command code.Thm T) (exprs_add ctx es)
      (adds_then (write_expr ctx e) (command code.Thm T) (expr_adds ctx e) (adds_command code.Thm T))

  -- one name more
  names_add : (lets : List Writer) → AllAdd lets → (n : ℕ) (f : Writer) → OnlyAdds f → AllAdd (lets ++ at_name n f ∷ [])
  names_add lets each n f adds i = each_last Writer nothing OnlyAdds lets (at_name n f) i each (adds_name n f adds) adds_nothing

  -- a let adds what its second part does, and is met itself
  let_adds : (lets : List Writer) (p q : Proof) → ((n : ℕ) → OnlyAdds (write_proof env ctx (lets ++ at_name n (write_proof env ctx lets p) ∷ []) q)) → OnlyAdds (write_proof env ctx lets (by_let p q))
  let_adds lets p q second = record {
    heap = λ w. (second w.lets).heap (record w { lets = suc w.lets });
    few = λ w. (second w.lets).few (record w { lets = suc w.lets });
    lets = λ w. (let h = (second w.lets).lets (record w { lets = suc w.lets }) in omega (arith, h));
  }

  mutual
    proof_adds : (lets : List Writer) → AllAdd lets → (p : Proof) → OnlyAdds (write_proof env ctx lets p)
    proof_adds lets each (by_hyp i) = adds_kept (hypothesis i) nothing adds_nothing
    proof_adds lets each (by_name i) = each i
    proof_adds lets each (by_citation T es ps) =
        adds_then (write_proofs env ctx lets ps) (write_exprs ctx es >> write_expr ctx (instance es (conclusion_of env T)) >> command code.Thm T) (proofs_add lets each ps) (citation_adds T es)
    proof_adds lets each (by_conv e c p) =
        adds_then (write_expr ctx e) (write_proof env ctx lets p >> command code.Conv 0 >> write_payment env ctx c) (expr_adds ctx e)
        (adds_then (write_proof env ctx lets p) (command code.Conv 0 >> write_payment env ctx c) (proof_adds lets each p)
        (adds_then (command code.Conv 0) (write_payment env ctx c) (adds_command code.Conv 0) (payment_adds c)))
    proof_adds lets each (by_let p q) = let_adds lets p q (λ n. proof_adds (lets ++ at_name n (write_proof env ctx lets p) ∷ []) (names_add lets each n (write_proof env ctx lets p) (proof_adds lets each p)) q)
    proof_adds lets each (by_gap e) = adds_then (write_expr ctx e) (command code.Sorry 0) (expr_adds ctx e) (adds_command code.Sorry 0)

    proofs_add : (lets : List Writer) → AllAdd lets → (ps : Proofs) → OnlyAdds (write_proofs env ctx lets ps)
    proofs_add lets each no_proofs = adds_nothing
    proofs_add lets each (more_proofs p ps) = adds_then (write_proof env ctx lets p) (write_proofs env ctx lets ps) (proof_adds lets each p) (proofs_add lets each ps)

  -- ---- tasks

  abbrev name_of : ℕ → List Writer → Proof → Writer
  name_of n lets p = at_name n (write_proof env ctx lets p)

  sight_adds : (table : List (List Writer)) → ((c : ℕ) → AllAdd (get_or table c [])) → (chain : Option ℕ) → AllAdd (in_sight table chain)
  sight_adds table each None = none_add
  sight_adds table each (Some c) = each c

  scopes_add : (table : List (List Writer)) (ps : List Part) → ((c : ℕ) → AllAdd (get_or table c [])) → (c : ℕ) → AllAdd (get_or (scopes_after name_of table ps) c [])
  scopes_add table [] each c = each c
  scopes_add table (p ∷ ps) each c =
      let lets : List Writer = in_sight table p.outer in
      let above : AllAdd lets = sight_adds table each p.outer in
      let row : AllAdd (row_of name_of (length table) table p) = names_add lets above (length table) (write_proof env ctx lets p.proof) (proof_adds lets above p.proof) in
      scopes_add (table ++ row_of name_of (length table) table p ∷ []) ps (λ d. each_last (List Writer) [] AllAdd table (row_of name_of (length table) table p) d each row none_add) c

  module _ (s : Sharing) (ps : List Part) where
    lets_add : (chain : Option ℕ) → AllAdd (in_sight (let_writers env ctx ps) chain)
    lets_add chain = sight_adds (let_writers env ctx ps) (scopes_add [] ps (λ c. none_add)) chain

    task_adds : (t : Task) → OnlyAdds (write_task env ctx s ps t)
    task_adds (prove p chain) = proof_adds (in_sight (let_writers env ctx ps) chain) (lets_add chain) p
    task_adds (prove_all qs chain) = proofs_add (in_sight (let_writers env ctx ps) chain) (lets_add chain) qs
    task_adds (cite T es) = citation_adds T es
    task_adds (push i) = expr_adds ctx (tree_of s i)
    task_adds (make i) = adds_keeping code.TermSave (term_of (tree_of s i)) (expression (tree_of s i))
    task_adds (pay c) = payment_adds c
    task_adds (pay_all cs) = payments_add cs
    task_adds (give c v) = adds_command c v
    task_adds (save c) = adds_keeping code.Save 0 (first_part c)

    tasks_add : (ts : List Task) → OnlyAdds (write_tasks env ctx s ps ts)
    tasks_add [] = adds_nothing
    tasks_add (t ∷ ts) = adds_then (write_task env ctx s ps t) (write_tasks env ctx s ps ts) (task_adds t) (tasks_add ts)

-- ---- on the way

module _ (env : List Declaration) (s : Sharing) (places : List (Option ℕ)) (len : ℕ) (hps : List ℕ) (cells : List Cell) (cs : List (ProofCode × ℕ)) (whole : Written) (us : List Task) where
  -- this is put into the heap next
  room_kept : (t : Task) (h : IsWriting env s places len hps cells (t ∷ us) cs whole) (c : ProofCode) (v : ℕ) (x : Kept)
      → write_tasks env s.context s (parts cells) (t ∷ us) h.here ≡ (keeping c v x >> write_tasks env s.context s (parts cells) us) h.here → len + 1 < 2 ^ 32
  room_kept t h c v x same =
      let w : Writing = record { heap = x ∷ h.here.heap; lets = h.here.lets } in
      let is : (write_tasks env s.context s (parts cells) us w).after ≡ whole.after = sym (ap (λ (r : Written). r.after) same) ∙ ap (λ (r : Written). r.after) h.comes in
      let more = (tasks_add env s.context s (parts cells) us).heap w in
      let l = ap (λ (z : Writing). length z.heap) is in
      let long = h.kept.long in
      let room = h.room.0 in
      omega (arith, more, l, long, room)

  pub make_room : (i : ℕ) → IsWriting env s places len hps cells (make i ∷ us) cs whole → len + 1 < 2 ^ 32
  make_room i h = room_kept (make i) h code.TermSave (term_of (tree_of s i)) (expression (tree_of s i)) refl

  pub save_room : (c : ℕ) → IsWriting env s places len hps cells (save c ∷ us) cs whole → len + 1 < 2 ^ 32
  save_room c h = room_kept (save c) h code.Save 0 (first_part c) refl

  pub dummy_room : (i : ℕ) → ((a b : ℕ) → IsIn s a → IsIn s b → tree_of s a ≡ tree_of s b → a ≡ b) → IsIn s i → place_of places i ≡ None → head_of (tree_of s i) ≡ None
      → IsWriting env s places len hps cells (push i ∷ us) cs whole → len + 1 < 2 ^ 32
  dummy_room i once inside none-yet head h =
      let v = is_var (tree_of s i) head in
      room_kept (push i) h code.Dummy (binder_at s.context v.0).sort (expression (tree_of s i))
      (dummy_written env s places len hps cells h.here h.kept us once i inside none-yet v.0 (binder_at s.context v.0).sort v.1 refl)

  -- a let is met next
  pub let_room : (p q : Proof) (chain : Option ℕ) → IsWriting env s places len hps cells (prove (by_let p q) chain ∷ us) cs whole → length cells + 1 < 2 ^ 32
  let_room p q chain h =
      let lets : List Writer = in_sight (let_writers env s.context (parts cells)) chain in
      let w : Writing = record { heap = h.here.heap; lets = suc h.here.lets } in
      let each : AllAdd lets = lets_add env s.context s (parts cells) chain in
      let f : Writer = write_proof env s.context lets p in
      let n : ℕ = h.here.lets in
      let second : Writer = write_proof env s.context (lets ++ at_name n f ∷ []) q in
      let rest : Writer = write_tasks env s.context s (parts cells) us in
      let adds : OnlyAdds second = proof_adds env s.context (lets ++ at_name n f ∷ []) (names_add env s.context lets each n f (proof_adds env s.context lets each p)) q in
      let more = (adds_then second rest adds (tasks_add env s.context s (parts cells) us)).lets w in
      let is : ((second >> rest) w).after ≡ whole.after = ap (λ (r : Written). r.after) h.comes in
      let l = ap (λ (z : Writing). z.lets) is in
      let met = h.kept.met in
      let room = h.room.1 in
      omega (arith, more, l, met, room)

-- ---- stages

-- what comes before what there is room for
pub room_before : (a : Written) (f g : Writer) → ((w : Writing) → length (f w).after.heap ≤ length (g w).after.heap) → ((w : Writing) → (f w).after.lets ≤ (g w).after.lets)
    → HasRoom (and_then a g) → HasRoom (and_then a f)
room_before a f g heap lets room =
    let h = heap a.after in
    let l = lets a.after in
    let m = room.0 in
    let n = room.1 in
    (omega (arith, h, m), omega (arith, l, n))

-- the expression of a hypothesis
pub room_expr : (ctx : List Binder) (a : Written) (n : ℕ) (e : Tree) → HasRoom (and_then a (write_hyp ctx n e)) → HasRoom (and_then a (write_expr ctx e))
room_expr ctx a n e room = room_before a (write_expr ctx e) (write_hyp ctx n e) (λ w. omega arith) (λ w. omega arith) room

-- and the hypothesis, behind it
pub hyp_room : (env : List Declaration) (s : Sharing) (places : List (Option ℕ)) (len : ℕ) (hps : List ℕ) (cells : List Cell) (cs : List (ProofCode × ℕ)) (ctx : List Binder) (a : Written) (n : ℕ) (e : Tree) (ts : List Task)
    → ts ≡ [] → HasRoom (and_then a (write_hyp ctx n e)) → IsWriting env s places len hps cells ts cs (and_then a (write_expr ctx e)) → len + 1 < 2 ^ 32
hyp_room env s places len hps cells cs ctx a n e ts none-left room h =
    let l = ap (λ (r : Written). length r.after.heap) (so_far env s places len hps cells cs (and_then a (write_expr ctx e)) ts none-left h) in
    let long = h.kept.long in
    let m = room.0 in
    omega (arith, l, long, m)

-- the first of hypotheses
module _ (ctx : List Binder) (s : Sharing) where
  front_heap : (is : List Id) (k n : ℕ) (w : Writing) → length (write_hyps ctx n (listed (trees_of s (take k is))) w).after.heap ≤ length (write_hyps ctx n (listed (trees_of s is)) w).after.heap
  front_heap is zero n w = (hyps_add ctx n (listed (trees_of s is))).heap w
  front_heap [] (suc k) n w = omega arith
  front_heap (i ∷ is) (suc k) n w = front_heap is k (suc n) (write_hyp ctx n (tree_of s i.0) w).after

  front_lets : (is : List Id) (k n : ℕ) (w : Writing) → (write_hyps ctx n (listed (trees_of s (take k is))) w).after.lets ≤ (write_hyps ctx n (listed (trees_of s is)) w).after.lets
  front_lets is zero n w = (hyps_add ctx n (listed (trees_of s is))).lets w
  front_lets [] (suc k) n w = omega arith
  front_lets (i ∷ is) (suc k) n w = front_lets is k (suc n) (write_hyp ctx n (tree_of s i.0) w).after

  room_front : (a : Written) (is : List Id) (k : ℕ) → HasRoom (and_then a (write_hyps ctx 0 (listed (trees_of s is)))) → HasRoom (and_then a (write_hyps ctx 0 (listed (trees_of s (take k is)))))
  room_front a is k room = room_before a (write_hyps ctx 0 (listed (trees_of s (take k is)))) (write_hyps ctx 0 (listed (trees_of s is))) (λ w. front_heap is k 0 w) (λ w. front_lets is k 0 w) room

  -- and the next
  pub room_next : (a : Written) (is : List Id) (k : ℕ) (d : Id) → k < length is → HasRoom (and_then a (write_hyps ctx 0 (listed (trees_of s is))))
      → HasRoom (and_then (and_then a (write_hyps ctx 0 (listed (trees_of s (take k is))))) (write_hyp ctx k (tree_of s (get_or is k d).0)))
  room_next a is k d lt room = subst (λ (v : Writing). (length v.heap < 2 ^ 32) × (v.lets < 2 ^ 32)) (ap (λ (r : Written). r.after) (hyps_next ctx s d is k a.after lt)) (room_front a is (k + 1) room)

-- ---- whole bodies

-- the hypotheses alone
room_hyps : (a : Written) (f g : Writer) → OnlyAdds g → HasRoom (and_then a (f >> g)) → HasRoom (and_then a f)
room_hyps a f g adds room = room_before a f (f >> g) (λ w. adds.heap (f w).after) (λ w. adds.lets (f w).after) room

pub room_axiom : (ctx : List Binder) (a : Written) (f : Writer) (e : Tree) → HasRoom (and_then a (f >> write_expr ctx e)) → HasRoom (and_then a f)
room_axiom ctx a f e room = room_hyps a f (write_expr ctx e) (expr_adds ctx e) room

pub room_theorem : (env : List Declaration) (ctx : List Binder) (a : Written) (f : Writer) (p : Proof) → HasRoom (and_then a (f >> write_proof env ctx [] p)) → HasRoom (and_then a f)
room_theorem env ctx a f p room = room_hyps a f (write_proof env ctx [] p) (proof_adds env ctx [] none_add p) room

-- an item for each parameter and, at the most, for each command
whole_room : (f : Writer) → OnlyAdds f → (params : List Binder) (n : ℕ) → bytes_in (f (at_first params)).commands ≤ n → (f (at_first params)).after.lets ≤ n → length params + n < 2 ^ 32 → HasRoom (f (at_first params))
whole_room f adds params n short lets room =
    let few = adds.few (at_first params) in
    let cs = few_commands (f (at_first params)).commands in
    let long = below_long (length params) in
    (omega (arith, few, cs, long, short, room), omega (arith, lets, room))

pub params_room : (params : List Binder) → length params < 2 ^ 32 → HasRoom (record { commands = []; after = at_first params })
params_room params lt =
    let long = below_long (length params) in
    (omega (arith, long, lt), omega arith)

pub definition_room : (ctx params : List Binder) (e : Tree) → length params + 6 * size e < 2 ^ 32 → HasRoom (write_expr ctx e (at_first params))
definition_room ctx params e room =
    let q = expr_quiet a_gap ctx e in
    let s = q.short (at_first params) in
    let l = q.lets (at_first params) in
    whole_room (write_expr ctx e) (expr_adds ctx e) params (6 * size e) (omega (arith, s)) (omega (arith, l)) room

pub axiom_room : (ctx params : List Binder) (hs : Trees) (e : Tree) → length params + 6 * (trees_size hs + size e) < 2 ^ 32 → HasRoom ((write_hyps ctx 0 (listed hs) >> write_expr ctx e) (at_first params))
axiom_room ctx params hs e room =
    let f : Writer = write_hyps ctx 0 (listed hs) in
    let q = quiet_then a_gap f (write_expr ctx e) false false (6 * trees_size hs) (5 * size e) (hyps_quiet a_gap ctx hs 0) (expr_quiet a_gap ctx e) in
    let s = q.short (at_first params) in
    let l = q.lets (at_first params) in
    whole_room (f >> write_expr ctx e) (adds_then f (write_expr ctx e) (hyps_add ctx 0 (listed hs)) (expr_adds ctx e)) params (6 * (trees_size hs + size e)) (omega (arith, s)) (omega (arith, l)) room

pub theorem_room : (env : List Declaration) (ctx params : List Binder) (hs : Trees) (p : Proof) → length params + 6 * (trees_size hs + proof_weight env p) < 2 ^ 32
    → HasRoom ((write_hyps ctx 0 (listed hs) >> write_proof env ctx [] p) (at_first params))
theorem_room env ctx params hs p room =
    let f : Writer = write_hyps ctx 0 (listed hs) in
    let s = theorem_spends env ctx params hs p in
    whole_room (f >> write_proof env ctx [] p) (adds_then f (write_proof env ctx [] p) (hyps_add ctx 0 (listed hs)) (proof_adds env ctx [] none_add p)) params (6 * (trees_size hs + proof_weight env p))
    (omega (arith, s)) (omega (arith, s)) room

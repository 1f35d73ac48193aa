-- What is written, from one task to the next.
use Rattle.std.specs.Prelude.{ℕ, ◌≡◌, ◌<◌, ◌+◌, Bool, List, [], ◌∷◌, ◌++◌, length, take, slice_get, get_or, Option, Some, None}
use Rattle.std.proofs.Common.{zero, suc, refl, sym, ap, ◌∙◌, append_assoc, append-nil, arith}
use Rattle.std.proofs.lemmas.Option.{none-some}
use Rattle.mz_cmd.specs.declared.code.ProofCode.{ProofCode}
use Rattle.mz_cmd.specs.declared.code.ProofCode.TheVariants as code
use Rattle.mz_logic_theory.specs.Tree.{Tree, Trees, var, app, listed}
use Rattle.mz_logic_theory.specs.Declaration.{Declaration}
use Rattle.mz_logic_theory.specs.Legality.{binder_at}
use Rattle.mz_logic_theory.specs.declared.binder.Binder.{Binder}
use Rattle.mz_store.specs.Sharing.{Sharing, IsIn, tree_of, trees_of, head_of, operands_of}
use Rattle.mz_store.specs.declared.item.Id.{Id}
use Rattle.mz_mmu_theory.specs.Proof.{Proof, by_hyp, by_name, by_let}
use Rattle.mz_emit_bodies.specs.Instances.{Grows}
use Rattle.mz_emit_bodies.specs.Places.{place_of}
use Rattle.mz_emit_bodies.proofs.Making.{tree_grown}
use Rattle.mz_emit_bodies.specs.Sight.{Part, links, parts, part_at, place_at, InSight, AreRight, IsThere}
use Rattle.mz_emit_bodies.specs.Scopes.{in_sight}
use Rattle.mz_emit_bodies.specs.TaskInvariant.{Task, prove, prove_all, cite, push, make, pay, pay_all, give, save, CanBeDone, AllCanBeDone}
use Rattle.mz_emit_bodies.specs.Pushing.{pushes}
use Rattle.mz_emit_theory.specs.BodyWriting.{Kept, expression, hypothesis, first_part, Writing, place_in, Written, Writer, and_then, nothing, ◌>>◌, command, keeping, write_expr, write_exprs, at_name, write_proof, write_proofs, write_hyp, write_hyps}
use Rattle.mz_emit_bodies.specs.Writers.{let_writers, term_of, write_task, write_tasks, IsKept, behind, HasRoom, IsWriting}
use Rattle.mz_emit_bodies.specs.declared.let_scopes.Cell.{Cell}
use Rattle.mz_emit_bodies.proofs.Scoping.{sight_more, sight_new, named}
use Rattle.mz_emit_bodies.proofs.Heaps.{written, then_assoc, then_first, then_second, then_nothing, kept_there, not_kept, expr_there, expr_new, dummy_new, expr_absent, met_kept, kept_grown}

pub then_assoc3 : (f g h k : Writer) (w : Writing) → ((f >> g >> h) >> k) w ≡ (f >> g >> h >> k) w
then_assoc3 f g h k w = then_assoc f (g >> h) k w ∙ then_second f ((g >> h) >> k) (g >> h >> k) w (then_assoc g h k)

pub then_assoc4 : (f g h k l : Writer) (w : Writing) → ((f >> g >> h >> k) >> l) w ≡ (f >> g >> h >> k >> l) w
then_assoc4 f g h k l w = then_assoc f (g >> h >> k) l w ∙ then_second f ((g >> h >> k) >> l) (g >> h >> k >> l) w (then_assoc3 g h k l)

-- ---- a store that grew

module _ (gaps : Bool) (env : List Declaration) (ctx : List Binder) (hyps : List Tree) (n : ℕ) (s s' : Sharing) (g : Grows s s') (ps : List Part) where
  task_grown : (t : Task) → CanBeDone gaps env ctx hyps n s ps t → (w : Writing) → write_task env ctx s' ps t w ≡ write_task env ctx s ps t w
  task_grown (push i) h w = ap (λ (e : Tree). write_expr ctx e w) (tree_grown s s' g i h)
  task_grown (make i) h w = ap (λ (e : Tree). keeping code.TermSave (term_of e) (expression e) w) (tree_grown s s' g i h.0)
  task_grown _ h w = refl

  pub tasks_grown : (ts : List Task) → AllCanBeDone gaps env ctx hyps n s ps ts → (w : Writing) → write_tasks env ctx s' ps ts w ≡ write_tasks env ctx s ps ts w
  tasks_grown [] h w = refl
  tasks_grown (t ∷ ts) (can, h) w =
      then_first (write_task env ctx s' ps t) (write_task env ctx s ps t) (write_tasks env ctx s' ps ts) w (task_grown t can w)
      ∙ then_second (write_task env ctx s ps t) (write_tasks env ctx s' ps ts) (write_tasks env ctx s ps ts) w (tasks_grown ts h)

pub writing_grown : (gaps : Bool) (env : List Declaration) (hyps : List Tree) (n : ℕ) (s s' : Sharing) → Grows s s' → (places : List (Option ℕ)) (len : ℕ) (hps : List ℕ) (cells : List Cell) (ts : List Task)
    (cs : List (ProofCode × ℕ)) (whole : Written) → AllCanBeDone gaps env s.context hyps n s (parts cells) ts
    → IsWriting env s places len hps cells ts cs whole → IsWriting env s' places len hps cells ts cs whole
writing_grown gaps env hyps n s s' gr places len hps cells ts cs whole can h = record {
  here = h.here;
  kept = kept_grown s places len hps cells h.here h.kept s' gr;
  comes = ap (behind cs) (ap (λ (ctx : List Binder). write_tasks env ctx s' (parts cells) ts h.here) gr.0
      ∙ tasks_grown gaps env s.context hyps n s s' gr (parts cells) ts can h.here) ∙ h.comes;
  room = h.room;
}

-- ---- one let more

module _ (gaps : Bool) (env : List Declaration) (ctx : List Binder) (hyps : List Tree) (count : ℕ) (s : Sharing) (ps : List Part) (p : Part) where
  lets_opened : (o : Option ℕ) → IsThere (length ps) o → in_sight (let_writers env ctx (ps ++ p ∷ [])) o ≡ in_sight (let_writers env ctx ps) o
  lets_opened o there = sight_more Writer (λ n lets q. at_name n (write_proof env ctx lets q)) ps p o there

  task_opened : (t : Task) → CanBeDone gaps env ctx hyps count s ps t → (w : Writing) → write_task env ctx s (ps ++ p ∷ []) t w ≡ write_task env ctx s ps t w
  task_opened (prove q chain) h w = ap (λ (L : List Writer). write_proof env ctx L q w) (lets_opened chain h.1)
  task_opened (prove_all qs chain) h w = ap (λ (L : List Writer). write_proofs env ctx L qs w) (lets_opened chain h.1)
  task_opened _ h w = refl

  pub tasks_opened : (ts : List Task) → AllCanBeDone gaps env ctx hyps count s ps ts → (w : Writing) → write_tasks env ctx s (ps ++ p ∷ []) ts w ≡ write_tasks env ctx s ps ts w
  tasks_opened [] h w = refl
  tasks_opened (t ∷ ts) (can, h) w =
      then_first (write_task env ctx s (ps ++ p ∷ []) t) (write_task env ctx s ps t) (write_tasks env ctx s (ps ++ p ∷ []) ts) w (task_opened t can w)
      ∙ then_second (write_task env ctx s ps t) (write_tasks env ctx s (ps ++ p ∷ []) ts) (write_tasks env ctx s ps ts) w (tasks_opened ts h)

  -- a let is met, and what stands over it is written
  pub let_opened : (q r : Proof) (chain : Option ℕ) (n : ℕ) (us : List Task) (w : Writing) → AllCanBeDone gaps env ctx hyps count s ps us → n ≡ length ps → w.lets ≡ n
      → p ≡ record { proof = q; outer = chain }
      → write_tasks env ctx s (ps ++ p ∷ []) (prove r (Some n) ∷ us) (record w { lets = suc w.lets }) ≡ write_tasks env ctx s ps (prove (by_let q r) chain ∷ us) w
  let_opened q r chain n us w can n-is met p-is =
      let v : Writing = record w { lets = suc w.lets } in
      let lets : List Writer = in_sight (let_writers env ctx ps) chain in
      let row : in_sight (let_writers env ctx (ps ++ p ∷ [])) (Some n) ≡ lets ++ at_name w.lets (write_proof env ctx lets q) ∷ [] =
      sight_new Writer (λ k ls z. at_name k (write_proof env ctx ls z)) ps p n n-is
      ∙ ap (λ (z : Part). in_sight (let_writers env ctx ps) z.outer ++ at_name n (write_proof env ctx (in_sight (let_writers env ctx ps) z.outer) z.proof) ∷ []) p-is
      ∙ ap (λ (k : ℕ). lets ++ at_name k (write_proof env ctx lets q) ∷ []) (sym met) in
      then_first (write_proof env ctx (in_sight (let_writers env ctx (ps ++ p ∷ [])) (Some n)) r) (write_proof env ctx (lets ++ at_name w.lets (write_proof env ctx lets q) ∷ []) r)
      (write_tasks env ctx s (ps ++ p ∷ []) us) v (ap (λ (L : List Writer). write_proof env ctx L r v) row)
      ∙ then_second (write_proof env ctx (lets ++ at_name w.lets (write_proof env ctx lets q) ∷ []) r) (write_tasks env ctx s (ps ++ p ∷ []) us) (write_tasks env ctx s ps us) v
      (tasks_opened us can)

pub writing_opened : (gaps : Bool) (env : List Declaration) (hyps : List Tree) (count : ℕ) (s : Sharing) (places : List (Option ℕ)) (len : ℕ) (hps : List ℕ) (cells cells' : List Cell) (q r : Proof) (chain : Option ℕ) (n : ℕ)
    (us ts' : List Task) (cs : List (ProofCode × ℕ)) (whole : Written) → AllCanBeDone gaps env s.context hyps count s (parts cells) us
    → parts cells' ≡ parts cells ++ record { proof = q; outer = chain } ∷ [] → length cells' ≡ length cells + 1 → n ≡ length cells → n ≡ length (parts cells) → ts' ≡ prove r (Some n) ∷ us
    → ((c : ℕ) → place_at cells' c ≡ place_at cells c)
    → IsWriting env s places len hps cells (prove (by_let q r) chain ∷ us) cs whole → IsWriting env s places len hps cells' ts' cs whole
writing_opened gaps env hyps count s places len hps cells cells' q r chain n us ts' cs whole can parts-are many n-is n-parts ts-is same h =
    let v : Writing = record { heap = h.here.heap; lets = suc h.here.lets } in
    record {
      here = v;
      kept = met_kept s places len hps cells h.here h.kept cells' many same;
      comes = ap (behind cs) (ap (λ (ps : List Part). write_tasks env s.context s ps ts' v) parts-are
          ∙ ap (λ (ts : List Task). write_tasks env s.context s (parts cells ++ record { proof = q; outer = chain } ∷ []) ts v) ts-is
          ∙ let_opened gaps env s.context hyps count s (parts cells) (record { proof = q; outer = chain }) q r chain n us h.here can n-parts (h.kept.met ∙ sym n-is) refl) ∙ h.comes;
      room = h.room;
    }

-- ---- commands

module _ (env : List Declaration) (s : Sharing) (places : List (Option ℕ)) (len : ℕ) (hps : List ℕ) (cells : List Cell) (cs : List (ProofCode × ℕ)) (whole : Written) (ts : List Task)
    (h : IsWriting env s places len hps cells ts cs whole) where
  -- other tasks, for which the same is written
  pub writing_others : (us : List Task) → write_tasks env s.context s (parts cells) us h.here ≡ write_tasks env s.context s (parts cells) ts h.here → IsWriting env s places len hps cells us cs whole
  writing_others us same = record { here = h.here; kept = h.kept; comes = ap (behind cs) same ∙ h.comes; room = h.room }

  one_before : (c : ProofCode × ℕ) (r : Written) → behind (cs ++ c ∷ []) r ≡ behind cs (behind (c ∷ []) r)
  one_before c r = ap (λ (xs : List (ProofCode × ℕ)). written xs r.after) (append_assoc cs (c ∷ []) r.commands)

  -- a command more, behind which this stands in the heap
  pub writing_on : (places' : List (Option ℕ)) (len' : ℕ) (hps' : List ℕ) (cells' : List Cell) (us : List Task) (c : ProofCode) (v : ℕ) (w : Writing) → IsKept s places' len' hps' cells' w
      → write_tasks env s.context s (parts cells) ts h.here ≡ behind ((c, v) ∷ []) (write_tasks env s.context s (parts cells') us w)
      → IsWriting env s places' len' hps' cells' us (cs ++ (c, v) ∷ []) whole
  writing_on places' len' hps' cells' us c v w kept same = record {
    here = w;
    kept = kept;
    comes = one_before (c, v) (write_tasks env s.context s (parts cells') us w) ∙ ap (behind cs) (sym same) ∙ h.comes;
    room = h.room;
  }

  -- a command that puts nothing into the heap
  pub writing_given : (us : List Task) (c : ProofCode) (v : ℕ)
      → write_tasks env s.context s (parts cells) ts h.here ≡ (command c v >> write_tasks env s.context s (parts cells) us) h.here → IsWriting env s places len hps cells us (cs ++ (c, v) ∷ []) whole
  writing_given us c v same = writing_on places len hps cells us c v h.here h.kept same

-- ---- expressions

pub term_is : (e : Tree) (t : ℕ) → Some t ≡ head_of e → term_of e ≡ t
term_is (var x) t is = absurd (none-some t (sym is))
term_is (app u es) t is = ap get (sym is)
  where
    get : Option ℕ → ℕ
    get None = t
    get (Some x) = x

expr_made : (ctx : List Binder) (e : Tree) (t : ℕ) (w : Writing) → Some t ≡ head_of e → place_in (expression e) w.heap ≡ None
    → write_expr ctx e w ≡ (write_exprs ctx (operands_of e) >> keeping code.TermSave (term_of e) (expression e)) w
expr_made ctx (var x) t w is at = absurd (none-some t (sym is))
expr_made ctx (app u es) t w is at = expr_new ctx w u es at

dummy_made : (ctx : List Binder) (e : Tree) (x sort : ℕ) (w : Writing) → e ≡ var x → (binder_at ctx x).sort ≡ sort → place_in (expression e) w.heap ≡ None
    → write_expr ctx e w ≡ keeping code.Dummy sort (expression e) w
dummy_made ctx e x sort w is sort-is at =
    ap (λ (z : Tree). write_expr ctx z w) is ∙ dummy_new ctx w x (ap (λ (z : Tree). place_in (expression z) w.heap) (sym is) ∙ at)
    ∙ ap (λ (n : ℕ). keeping code.Dummy n (expression (var x)) w) sort-is ∙ ap (λ (z : Tree). keeping code.Dummy sort (expression z) w) (sym is)

module _ (env : List Declaration) (ctx : List Binder) (s : Sharing) (ps : List Part) where
  pub pushes_written : (is : List Id) (us : List Task) (w : Writing) → write_tasks env ctx s ps (pushes is ++ us) w ≡ (write_exprs ctx (trees_of s is) >> write_tasks env ctx s ps us) w
  pushes_written [] us w = refl
  pushes_written (i ∷ is) us w =
      then_second (write_expr ctx (tree_of s i.0)) (write_tasks env ctx s ps (pushes is ++ us)) (write_exprs ctx (trees_of s is) >> write_tasks env ctx s ps us) w (pushes_written is us)
      ∙ sym (then_assoc (write_expr ctx (tree_of s i.0)) (write_exprs ctx (trees_of s is)) (write_tasks env ctx s ps us) w)

  -- operands and one expression more, over what is written for us
  pub operands_written : (es : Trees) (e : Tree) (is : List Id) (i : ℕ) (us : List Task) (w : Writing) → trees_of s is ≡ es → tree_of s i ≡ e
      → write_tasks env ctx s ps (pushes is ++ push i ∷ us) w ≡ (write_exprs ctx es >> write_expr ctx e >> write_tasks env ctx s ps us) w
  operands_written es e is i us w es-are e-is =
      pushes_written is (push i ∷ us) w ∙ ap (λ (z : Trees). (write_exprs ctx z >> write_expr ctx (tree_of s i) >> write_tasks env ctx s ps us) w) es-are
      ∙ ap (λ (z : Tree). (write_exprs ctx es >> write_expr ctx z >> write_tasks env ctx s ps us) w) e-is

module _ (env : List Declaration) (s : Sharing) (places : List (Option ℕ)) (len : ℕ) (hps : List ℕ) (cells : List Cell) (w : Writing) (k : IsKept s places len hps cells w) (us : List Task) where
  -- an expression that has a place
  pub place_written : (i p : ℕ) → place_of places i ≡ Some p
      → write_tasks env s.context s (parts cells) (push i ∷ us) w ≡ (command code.Ref p >> write_tasks env s.context s (parts cells) us) w
  place_written i p at = then_first (write_expr s.context (tree_of s i)) (command code.Ref p) (write_tasks env s.context s (parts cells) us) w
      (expr_there s.context w (tree_of s i) p (k.placed i p at).1)

  module _ (once : (a b : ℕ) → IsIn s a → IsIn s b → tree_of s a ≡ tree_of s b → a ≡ b) (i : ℕ) (inside : IsIn s i) (none-yet : place_of places i ≡ None) where
    absent : place_in (expression (tree_of s i)) w.heap ≡ None
    absent = expr_absent s places len hps cells w k i once inside none-yet

    -- an application that has none
    pub parts_written : (t : ℕ) (is : List Id) → Some t ≡ head_of (tree_of s i) → trees_of s is ≡ operands_of (tree_of s i)
        → write_tasks env s.context s (parts cells) (pushes is ++ make i ∷ us) w ≡ write_tasks env s.context s (parts cells) (push i ∷ us) w
    parts_written t is head trees =
        let e : Tree = tree_of s i in
        let f : Writer = write_tasks env s.context s (parts cells) us in
        let g : Writer = keeping code.TermSave (term_of e) (expression e) in
        pushes_written env s.context s (parts cells) is (make i ∷ us) w ∙ ap (λ (es : Trees). (write_exprs s.context es >> g >> f) w) trees
        ∙ sym (then_first (write_expr s.context e) (write_exprs s.context (operands_of e) >> g) f w (expr_made s.context e t w head absent) ∙ then_assoc (write_exprs s.context (operands_of e)) g f w)

    -- a dummy that has none
    pub dummy_written : (x sort : ℕ) → tree_of s i ≡ var x → (binder_at s.context x).sort ≡ sort
        → write_tasks env s.context s (parts cells) (push i ∷ us) w ≡ (keeping code.Dummy sort (expression (tree_of s i)) >> write_tasks env s.context s (parts cells) us) w
    dummy_written x sort is sort-is = then_first (write_expr s.context (tree_of s i)) (keeping code.Dummy sort (expression (tree_of s i))) (write_tasks env s.context s (parts cells) us) w
        (dummy_made s.context (tree_of s i) x sort w is sort-is absent)

  -- an application whose operands are made
  pub made_written : (i t : ℕ) → Some t ≡ head_of (tree_of s i)
      → write_tasks env s.context s (parts cells) (make i ∷ us) w ≡ (keeping code.TermSave t (expression (tree_of s i)) >> write_tasks env s.context s (parts cells) us) w
  made_written i t head = ap (λ (n : ℕ). (keeping code.TermSave n (expression (tree_of s i)) >> write_tasks env s.context s (parts cells) us) w) (term_is (tree_of s i) t head)

  -- ---- proofs

  pub hyp_written : (i p : ℕ) (chain : Option ℕ) → slice_get hps i ≡ Some p
      → write_tasks env s.context s (parts cells) (prove (by_hyp i) chain ∷ us) w ≡ (command code.Ref p >> write_tasks env s.context s (parts cells) us) w
  hyp_written i p chain at = then_first (write_proof env s.context (in_sight (let_writers env s.context (parts cells)) chain) (by_hyp i)) (command code.Ref p) (write_tasks env s.context s (parts cells) us) w
      (kept_there (hypothesis i) nothing w p (k.hypotheses i ∙ at))

  module _ (n c d : ℕ) (right : AreRight (links cells)) (inside : c < length cells) (sight : InSight (links cells) c n d) where
    abbrev first : Writer
    first = write_proof env s.context (in_sight (let_writers env s.context (parts cells)) (part_at (parts cells) d).outer) (part_at (parts cells) d).proof

    name_is : write_proof env s.context (in_sight (let_writers env s.context (parts cells)) (Some c)) (by_name n)
        ≡ at_name d (write_proof env s.context (in_sight (let_writers env s.context (parts cells)) (part_at (parts cells) d).outer) (part_at (parts cells) d).proof)
    name_is = named Writer (λ m lets p. at_name m (write_proof env s.context lets p)) cells right c n d nothing inside sight

    -- a let whose part is saved
    pub saved_written : (p : ℕ) → place_at cells d ≡ Some p
        → write_tasks env s.context s (parts cells) (prove (by_name n) (Some c) ∷ us) w ≡ (command code.Ref p >> write_tasks env s.context s (parts cells) us) w
    saved_written p at = (
        let f : Writer = write_tasks env s.context s (parts cells) us in
        ap (λ (g : Writer). (g >> f) w) name_is
        ∙ then_first (at_name d first) (command code.Ref p) f w (kept_there (first_part d) (first >> keeping code.Save 0 (first_part d)) w p (k.saved d ∙ at)))

    -- a let's part that isn't
    pub first_written : place_at cells d ≡ None
        → write_tasks env s.context s (parts cells) (prove (part_at (parts cells) d).proof (part_at (parts cells) d).outer ∷ save d ∷ us) w
        ≡ write_tasks env s.context s (parts cells) (prove (by_name n) (Some c) ∷ us) w
    first_written none-yet = (
        let f : Writer = write_tasks env s.context s (parts cells) us in
        let g : Writer = keeping code.Save 0 (first_part d) in
        sym (ap (λ (x : Writer). (x >> f) w) name_is
        ∙ then_first (at_name d first) (first >> g) f w (not_kept (first_part d) (first >> g) w (k.saved d ∙ none-yet)) ∙ then_assoc first g f w))

-- ---- stages

module _ (env : List Declaration) (s : Sharing) (places : List (Option ℕ)) (len : ℕ) (hps : List ℕ) (cells : List Cell) (cs : List (ProofCode × ℕ)) (whole : Written) (ts : List Task) (none-left : ts ≡ [])
    (h : IsWriting env s places len hps cells ts cs whole) where
  -- nothing is left to be written
  pub so_far : written cs h.here ≡ whole
  so_far = ap (λ (xs : List (ProofCode × ℕ)). written xs h.here) (sym (append-nil cs)) ∙ ap (λ (us : List Task). behind cs (write_tasks env s.context s (parts cells) us h.here)) (sym none-left) ∙ h.comes

  pub writing_ended : cs ≡ whole.commands
  writing_ended = ap (λ (r : Written). r.commands) so_far

  -- this is to be written behind it
  pub writing_more : (us : List Task) (f : Writer) → ((w : Writing) → write_tasks env s.context s (parts cells) us w ≡ f w) → HasRoom (and_then whole f) → IsWriting env s places len hps cells us cs (and_then whole f)
  writing_more us f same room = record { here = h.here; kept = h.kept; comes = ap (behind cs) (same h.here) ∙ ap (λ (r : Written). and_then r f) so_far; room = room }

  -- a command is written, and this stands in the heap
  pub writing_put : (places' : List (Option ℕ)) (len' : ℕ) (hps' : List ℕ) (c : ProofCode) (v : ℕ) (x : Kept) → IsKept s places' len' hps' cells (record { heap = x ∷ h.here.heap; lets = h.here.lets })
      → HasRoom (and_then whole (keeping c v x)) → IsWriting env s places' len' hps' cells ts (cs ++ (c, v) ∷ []) (and_then whole (keeping c v x))
  writing_put places' len' hps' c v x kept room =
      let w : Writing = record { heap = x ∷ h.here.heap; lets = h.here.lets } in
      record {
        here = w;
        kept = kept;
        comes = ap (λ (us : List Task). behind (cs ++ (c, v) ∷ []) (write_tasks env s.context s (parts cells) us w)) none-left
            ∙ ap (λ (xs : List (ProofCode × ℕ)). written xs w) (append-nil (cs ++ (c, v) ∷ [])) ∙ ap (λ (r : Written). and_then r (keeping c v x)) so_far;
        room = room;
      }

-- ---- hypotheses

hyps_first : (ctx : List Binder) (s : Sharing) (d : Id) (n : ℕ) (is : List Id) (k : ℕ) (w : Writing) → k < length is
    → write_hyps ctx n (listed (trees_of s (take (suc k) is))) w ≡ (write_hyps ctx n (listed (trees_of s (take k is))) >> write_hyp ctx (n + k) (tree_of s (get_or is k d).0)) w
hyps_first ctx s d n [] k w lt = absurd (omega (arith, lt))
hyps_first ctx s d n (i ∷ is) zero w lt =
    let e : n ≡ n + 0 = omega arith in
    then_nothing (write_hyp ctx n (tree_of s i.0)) w ∙ ap (λ (m : ℕ). write_hyp ctx m (tree_of s i.0) w) e
hyps_first ctx s d n (i ∷ is) (suc k) w lt =
    let f : Writer = write_hyp ctx n (tree_of s i.0) in
    let g : Writer = write_hyps ctx (suc n) (listed (trees_of s (take k is))) in
    let e : suc n + k ≡ n + suc k = omega arith in
    then_second f (write_hyps ctx (suc n) (listed (trees_of s (take (suc k) is)))) (g >> write_hyp ctx (suc n + k) (tree_of s (get_or is k d).0)) w (λ v. hyps_first ctx s d (suc n) is k v (omega (arith, lt)))
    ∙ ap (λ (m : ℕ). (f >> g >> write_hyp ctx m (tree_of s (get_or is k d).0)) w) e
    ∙ sym (then_assoc f g (write_hyp ctx (n + suc k) (tree_of s (get_or is k d).0)) w)

-- one hypothesis more
pub hyps_next : (ctx : List Binder) (s : Sharing) (d : Id) (is : List Id) (k : ℕ) (w : Writing) → k < length is
    → write_hyps ctx 0 (listed (trees_of s (take (k + 1) is))) w ≡ (write_hyps ctx 0 (listed (trees_of s (take k is))) >> write_hyp ctx k (tree_of s (get_or is k d).0)) w
hyps_next ctx s d is k w lt =
    let a : k + 1 ≡ suc k = omega arith in
    let b : 0 + k ≡ k = omega arith in
    ap (λ (n : ℕ). write_hyps ctx 0 (listed (trees_of s (take n is))) w) a ∙ hyps_first ctx s d 0 is k w lt
    ∙ ap (λ (n : ℕ). (write_hyps ctx 0 (listed (trees_of s (take k is))) >> write_hyp ctx n (tree_of s (get_or is k d).0)) w) b

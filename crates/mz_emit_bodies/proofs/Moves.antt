-- What is to do, from one task to the next.
use Rattle.std.specs.Prelude.{Bool, ℕ, ◌≡◌, ◌<◌, ◌≤◌, ◌+◌, ◌*◌, ◌^◌, ◌-◌, List, [], ◌∷◌, ◌++◌, length, take, drop, get_or, map, reverse, slice_get, Option, Some, None}
use Rattle.std.proofs.Common.{refl, sym, ap, ◌∙◌, subst, arith, append_assoc, append-nil}
use Rattle.std.proofs.lemmas.List.{length-append, reverse-append, map-append}
use Rattle.mz_cmd.specs.declared.code.ProofCode.{ProofCode}
use Rattle.mz_cmd.specs.declared.code.ProofCode.TheVariants as code
use Rattle.mz_logic_theory.specs.Tree.{Tree, Trees, var, app, size, trees_size}
use Rattle.mz_logic_theory.specs.Declaration.{Declaration}
use Rattle.mz_logic_theory.specs.declared.binder.Binder.{Binder}
use Rattle.mz_store.specs.Sharing.{Sharing, IsIn, AreIn, tree_of, trees_of, head_of, operands_of}
use Rattle.mz_store.specs.declared.item.Id.{Id}
use Rattle.mz_mmu_theory.specs.Proof.{Proof, Proofs, by_hyp, by_citation, no_proofs, more_proofs}
use Rattle.mz_mmu_theory.specs.ProofView.{proof_view, proofs_view}
use Rattle.mz_mmu_theory.specs.declared.proof.Proof.{Proof as Code}
use Rattle.mz_emit_theory.specs.BodyWriting.{◌>>◌, command, write_proof, write_proofs}
use Rattle.mz_emit_theory.specs.Claims.{proved, all_proved, IsSound, AreSound}
use Rattle.mz_emit_theory.specs.Costs.{cost, costs}
use Rattle.mz_emit_theory.specs.Steps.{command_bytes}
use Rattle.mz_emit_bodies.specs.Instances.{Grows}
use Rattle.mz_emit_bodies.specs.Laws.{TakeFourBytes}
use Rattle.mz_emit_bodies.specs.Places.{place_of}
use Rattle.mz_emit_bodies.specs.Sight.{Part, parts, IsThere}
use Rattle.mz_emit_bodies.specs.Scopes.{in_sight}
use Rattle.mz_emit_bodies.specs.declared.work_list.Task.{Task as Coded}
use Rattle.mz_emit_bodies.specs.TaskInvariant.{task_view, to_do, Task, prove, prove_all, cite, push, make, pay, pay_all, give, save, claims, CanBeDone, AllCanBeDone, task_cost, left}
use Rattle.mz_emit_bodies.specs.Pushing.{pushes}
use Rattle.mz_emit_bodies.specs.Going.{Job, spelled, IsGoing}
use Rattle.mz_emit_bodies.specs.Writers.{let_writers, write_task, write_tasks}
use Rattle.mz_emit_bodies.specs.declared.let_scopes.Cell.{Cell}
use Rattle.mz_emit_bodies.proofs.Making.{in_grown, tree_grown}
use Rattle.mz_emit_bodies.proofs.Lists.{rest_whole}
use Rattle.mz_emit_bodies.proofs.Scoping.{sight_more, there_more}
use Rattle.mz_emit_bodies.proofs.Heaps.{then_assoc}
use Rattle.mz_emit_bodies.proofs.Writers.{writing_others, writing_given, place_written, parts_written, hyp_written}

-- ---- one command more

spelled_last : (cs : List (ProofCode × ℕ)) (c : ProofCode × ℕ) → spelled (cs ++ c ∷ []) ≡ spelled cs ++ command_bytes c
spelled_last [] c = append-nil (command_bytes c)
spelled_last (d ∷ cs) c = ap (λ (z : List ℕ). command_bytes d ++ z) (spelled_last cs c) ∙ sym (append_assoc (command_bytes d) (spelled cs) (command_bytes c))

pub spelled_on : (bytes bytes' : List ℕ) (cs : List (ProofCode × ℕ)) (c : ProofCode × ℕ) → bytes ≡ spelled cs → bytes' ≡ bytes ++ command_bytes c → bytes' ≡ spelled (cs ++ c ∷ [])
spelled_on bytes bytes' cs c is on = on ∙ ap (λ (z : List ℕ). z ++ command_bytes c) is ∙ sym (spelled_last cs c)

pub short_on : (cs : List (ProofCode × ℕ)) (c : ProofCode × ℕ) → TakeFourBytes cs → c.1 < 2 ^ 32 → TakeFourBytes (cs ++ c ∷ [])
short_on [] c short small = (small, tt)
short_on (d ∷ cs) c short small = (short.0, short_on cs c short.1 small)

-- ---- sizes

pub size_head : (t : ℕ) (e : Tree) → Some t ≡ head_of e → size e ≡ 1 + trees_size (operands_of e)
size_head t (app u es) is = omega arith
size_head t (var x) is = absurd (grind (arith, is))

pub size_some : (e : Tree) → 0 < size e
size_some (var x) = omega arith
size_some (app t es) = omega arith

-- ---- expressions to be pushed

module _ (gaps : Bool) (env : List Declaration) (ctx : List Binder) (hyps : List Tree) (n : ℕ) (s : Sharing) (ps : List Part) where
  pub pushes_can : (is : List Id) (us : List Task) → AreIn s is → AllCanBeDone gaps env ctx hyps n s ps us → AllCanBeDone gaps env ctx hyps n s ps (pushes is ++ us)
  pushes_can [] us inside can = can
  pushes_can (i ∷ is) us (here, inside) can = (here, pushes_can is us inside can)

pub pushes_cost : (env : List Declaration) (s : Sharing) (ps : List Part) (is : List Id) (us : List Task) → left env s ps (pushes is ++ us) ≡ 2 * trees_size (trees_of s is) + left env s ps us
pushes_cost env s ps [] us = omega arith
pushes_cost env s ps (i ∷ is) us = (let r = pushes_cost env s ps is us in omega (arith, r))

-- ---- a store that grew

module _ (gaps : Bool) (env : List Declaration) (ctx : List Binder) (hyps : List Tree) (n : ℕ) (s s' : Sharing) (g : Grows s s') (ps : List Part) where
  can_grown : (t : Task) → CanBeDone gaps env ctx hyps n s ps t → CanBeDone gaps env ctx hyps n s' ps t
  can_grown (push i) h = in_grown s s' g i h
  can_grown (make i) h = (in_grown s s' g i h.0, h.1, ap head_of (tree_grown s s' g i h.0) ∙ h.2)
  can_grown _ h = h

  pub all_grown : (ts : List Task) → AllCanBeDone gaps env ctx hyps n s ps ts → AllCanBeDone gaps env ctx hyps n s' ps ts
  all_grown [] h = h
  all_grown (t ∷ ts) (can, h) = (can_grown t can, all_grown ts h)

  cost_grown : (t : Task) → CanBeDone gaps env ctx hyps n s ps t → task_cost env s' ps t ≡ task_cost env s ps t
  cost_grown (push i) h = ap (λ (e : Tree). 2 * size e) (tree_grown s s' g i h)
  cost_grown _ h = refl

  pub left_grown : (ts : List Task) → AllCanBeDone gaps env ctx hyps n s ps ts → left env s' ps ts ≡ left env s ps ts
  left_grown [] h = refl
  left_grown (t ∷ ts) (can, h) = (let a = cost_grown t can in let b = left_grown ts h in omega (arith, a, b))

-- ---- one let more

module _ (gaps : Bool) (env : List Declaration) (ctx : List Binder) (hyps : List Tree) (n : ℕ) (s : Sharing) (ps : List Part) (p : Part) where
  more_parts : length (ps ++ p ∷ []) ≡ length ps + 1
  more_parts = length-append ps (p ∷ [])

  there_opened : (o : Option ℕ) → IsThere (length ps) o → IsThere (length (ps ++ p ∷ [])) o
  there_opened o h = there_more (length ps) (length (ps ++ p ∷ [])) o (omega (arith, more_parts)) h

  pub claims_more : (o : Option ℕ) → IsThere (length ps) o → in_sight (claims env hyps (ps ++ p ∷ [])) o ≡ in_sight (claims env hyps ps) o
  claims_more o h = sight_more Tree (λ k. proved env hyps) ps p o h

  can_opened : (t : Task) → CanBeDone gaps env ctx hyps n s ps t → CanBeDone gaps env ctx hyps n s (ps ++ p ∷ []) t
  can_opened (prove q chain) h = (h.0, there_opened chain h.1, subst (λ (L : List Tree). IsSound gaps env ctx hyps L q) (sym (claims_more chain h.1)) h.2)
  can_opened (prove_all qs chain) h = (h.0, there_opened chain h.1, subst (λ (L : List Tree). AreSound gaps env ctx hyps L qs) (sym (claims_more chain h.1)) h.2)
  can_opened (save c) h = omega (arith, h, more_parts)
  can_opened _ h = h

  pub all_opened : (ts : List Task) → AllCanBeDone gaps env ctx hyps n s ps ts → AllCanBeDone gaps env ctx hyps n s (ps ++ p ∷ []) ts
  all_opened [] h = h
  all_opened (t ∷ ts) (can, h) = (can_opened t can, all_opened ts h)

  cost_opened : (t : Task) → CanBeDone gaps env ctx hyps n s ps t → task_cost env s (ps ++ p ∷ []) t ≡ task_cost env s ps t
  cost_opened (prove q chain) h = ap (λ (L : List ℕ). cost env L q) (sight_more ℕ (λ k. cost env) ps p chain h.1)
  cost_opened (prove_all qs chain) h = ap (λ (L : List ℕ). costs env L qs) (sight_more ℕ (λ k. cost env) ps p chain h.1)
  cost_opened _ h = refl

  pub left_opened : (ts : List Task) → AllCanBeDone gaps env ctx hyps n s ps ts → left env s (ps ++ p ∷ []) ts ≡ left env s ps ts
  left_opened [] h = refl
  left_opened (t ∷ ts) (can, h) = (let a = cost_opened t can in let b = left_opened ts h in omega (arith, a, b))

-- ---- commands

module _ (env : List Declaration) (o : Job) (s : Sharing) (vars : List Id) (places : List (Option ℕ)) (len : ℕ) (hps : List ℕ) (cells : List Cell) where
  -- other tasks that come to the same
  pub replaced : (ts us : List Task) (bytes : List ℕ) (g : IsGoing env o s vars places len hps cells ts bytes) → AllCanBeDone o.gaps env s.context o.hyps o.count s (parts cells) us
      → write_tasks env s.context s (parts cells) us g.writing.here ≡ write_tasks env s.context s (parts cells) ts g.writing.here
      → IsGoing env o s vars places len hps cells us bytes
  replaced ts us bytes g can same = record {
    commands = g.commands;
    written = g.written;
    short = g.short;
    writing = writing_others env s places len hps cells g.commands o.whole ts g.writing us same;
    counted = g.counted;
    grew = g.grew;
    shared = g.shared;
    lets = g.lets;
    can = can;
  }

  -- a command that leaves the heap as it is
  pub given : (ts us : List Task) (bytes bytes' : List ℕ) (g : IsGoing env o s vars places len hps cells ts bytes) (c : ProofCode) (v : ℕ) → bytes' ≡ bytes ++ command_bytes (c, v) → v < 2 ^ 32
      → AllCanBeDone o.gaps env s.context o.hyps o.count s (parts cells) us
      → write_tasks env s.context s (parts cells) ts g.writing.here ≡ (command c v >> write_tasks env s.context s (parts cells) us) g.writing.here
      → IsGoing env o s vars places len hps cells us bytes'
  given ts us bytes bytes' g c v is small can same = record {
    commands = g.commands ++ (c, v) ∷ [];
    written = spelled_on bytes bytes' g.commands (c, v) g.written is;
    short = short_on g.commands (c, v) g.short small;
    writing = writing_given env s places len hps cells g.commands o.whole ts g.writing us c v same;
    counted = g.counted;
    grew = g.grew;
    shared = g.shared;
    lets = g.lets;
    can = can;
  }

  -- the same tasks
  pub at_last : (ts ts' : List Task) (bs : List ℕ) → ts' ≡ ts → IsGoing env o s vars places len hps cells ts bs → IsGoing env o s vars places len hps cells ts' bs
  at_last ts ts' bs t-is g = subst (λ (z : List Task). IsGoing env o s vars places len hps cells z bs) (sym t-is) g

pub no_proofs_left : (ps : List Code) → length ps < 1 → proofs_view ps ≡ no_proofs
no_proofs_left [] lt = refl
no_proofs_left (p ∷ ps) lt = absurd (omega (arith, lt))

pub first_proof : (ps : List Code) (p : Code) → 1 ≤ length ps → p ≡ get_or ps 0 p → proofs_view ps ≡ more_proofs (proof_view p) (proofs_view (take (length ps - 1) (drop 1 ps)))
first_proof [] p le is = absurd (omega (arith, le))
first_proof (q ∷ ps) p le is =
    ap (λ (x : Code). more_proofs (proof_view x) (proofs_view ps)) (sym is) ∙ ap (λ (xs : List Code). more_proofs (proof_view p) (proofs_view xs)) (sym (rest_whole Code q ps))

module _ (env : List Declaration) (o : Job) (s : Sharing) (vars : List Id) (places : List (Option ℕ)) (len : ℕ) (hps : List ℕ) (cells : List Cell) where
  pub give_done : (c : ProofCode) (v : ℕ) (us : List Task) (bs bs' : List ℕ) → bs' ≡ bs ++ command_bytes (c, v) → v < 2 ^ 32 → IsGoing env o s vars places len hps cells (give c v ∷ us) bs
      → IsGoing env o s vars places len hps cells us bs'
  give_done c v us bs bs' is small g = given env o s vars places len hps cells (give c v ∷ us) us bs bs' g c v is small g.can.1 refl

  -- an expression that has a place
  pub push_there : (i p : ℕ) (us : List Task) (bs bs' : List ℕ) → place_of places i ≡ Some p → bs' ≡ bs ++ command_bytes (code.Ref, p) → p < 2 ^ 32 → IsGoing env o s vars places len hps cells (push i ∷ us) bs
      → IsGoing env o s vars places len hps cells us bs'
  push_there i p us bs bs' at is small g = given env o s vars places len hps cells (push i ∷ us) us bs bs' g code.Ref p is small g.can.1
      (place_written env s places len hps cells g.writing.here g.writing.kept us i p at)

  -- an expression that is to be made
  pub push_parts : (i : ℕ) (t : ℕ) (is : List Id) (us ts' : List Task) (bs : List ℕ) → ((j k : ℕ) → IsIn s j → IsIn s k → tree_of s j ≡ tree_of s k → j ≡ k) → Some t ≡ head_of (tree_of s i) → place_of places i ≡ None → AreIn s is → trees_of s is ≡ operands_of (tree_of s i)
      → ts' ≡ pushes is ++ make i ∷ us → IsGoing env o s vars places len hps cells (push i ∷ us) bs → IsGoing env o s vars places len hps cells ts' bs
  push_parts i t is us ts' bs once head none-yet inside trees ts-is g = at_last env o s vars places len hps cells (pushes is ++ make i ∷ us) ts' bs ts-is
      (replaced env o s vars places len hps cells (push i ∷ us) (pushes is ++ make i ∷ us) bs g
      (pushes_can o.gaps env s.context o.hyps o.count s (parts cells) is (make i ∷ us) inside ((g.can.0, t, sym head), g.can.1))
      (parts_written env s places len hps cells g.writing.here g.writing.kept us once i g.can.0 none-yet t is head trees))

  pub hyp_there : (i p : ℕ) (chain : Option ℕ) (us : List Task) (bs bs' : List ℕ) → slice_get hps i ≡ Some p → bs' ≡ bs ++ command_bytes (code.Ref, p) → p < 2 ^ 32
      → IsGoing env o s vars places len hps cells (prove (by_hyp i) chain ∷ us) bs → IsGoing env o s vars places len hps cells us bs'
  hyp_there i p chain us bs bs' at is small g = given env o s vars places len hps cells (prove (by_hyp i) chain ∷ us) us bs bs' g code.Ref p is small g.can.1
      (hyp_written env s places len hps cells g.writing.here g.writing.kept us i p chain at)

  pub hyp_within : (i : ℕ) (chain : Option ℕ) (us : List Task) (bs : List ℕ) → IsGoing env o s vars places len hps cells (prove (by_hyp i) chain ∷ us) bs → i < length hps
  hyp_within i chain us bs g = (let n = g.can.0.0 in let lt = g.can.0.2 in let m = g.counted in omega (arith, n, m, lt))

  pub cite_parts : (T : ℕ) (es : Trees) (qs : Proofs) (chain : Option ℕ) (us ts' : List Task) (bs : List ℕ) → ts' ≡ prove_all qs chain ∷ cite T es ∷ us
      → IsGoing env o s vars places len hps cells (prove (by_citation T es qs) chain ∷ us) bs → IsGoing env o s vars places len hps cells ts' bs
  cite_parts T es qs chain us ts' bs is g =
      let sound = g.can.0.2 in
      at_last env o s vars places len hps cells (prove_all qs chain ∷ cite T es ∷ us) ts' bs is
      (replaced env o s vars places len hps cells (prove (by_citation T es qs) chain ∷ us) (prove_all qs chain ∷ cite T es ∷ us) bs g
      ((g.can.0.0, g.can.0.1, sound.1), ((all_proved env o.hyps (in_sight (claims env o.hyps (parts cells)) chain) qs, sound.0), g.can.1))
      (sym (then_assoc (write_proofs env s.context (in_sight (let_writers env s.context (parts cells)) chain) qs) (write_task env s.context s (parts cells) (cite T es))
      (write_tasks env s.context s (parts cells) us) g.writing.here)))

  pub none_proved : (chain : Option ℕ) (us : List Task) (bs : List ℕ) → IsGoing env o s vars places len hps cells (prove_all no_proofs chain ∷ us) bs → IsGoing env o s vars places len hps cells us bs
  none_proved chain us bs g = replaced env o s vars places len hps cells (prove_all no_proofs chain ∷ us) us bs g g.can.1 refl

  pub more_proved : (p : Proof) (qs : Proofs) (chain : Option ℕ) (us ts' : List Task) (bs : List ℕ) → ts' ≡ prove p chain ∷ prove_all qs chain ∷ us
      → IsGoing env o s vars places len hps cells (prove_all (more_proofs p qs) chain ∷ us) bs → IsGoing env o s vars places len hps cells ts' bs
  more_proved p qs chain us ts' bs is g =
      let sound = g.can.0.2 in
      at_last env o s vars places len hps cells (prove p chain ∷ prove_all qs chain ∷ us) ts' bs is
      (replaced env o s vars places len hps cells (prove_all (more_proofs p qs) chain ∷ us) (prove p chain ∷ prove_all qs chain ∷ us) bs g
      ((g.can.0.0, g.can.0.1, sound.0), ((g.can.0.0, g.can.0.1, sound.1), g.can.1))
      (sym (then_assoc (write_proof env s.context (in_sight (let_writers env s.context (parts cells)) chain) p) (write_proofs env s.context (in_sight (let_writers env s.context (parts cells)) chain) qs)
      (write_tasks env s.context s (parts cells) us) g.writing.here)))

pub parts_cost : (env : List Declaration) (s : Sharing) (ps : List Part) (i t : ℕ) (is : List Id) (us ts' : List Task) → Some t ≡ head_of (tree_of s i)
    → trees_of s is ≡ operands_of (tree_of s i) → ts' ≡ pushes is ++ make i ∷ us → left env s ps ts' < 2 * size (tree_of s i) + left env s ps us
parts_cost env s ps i t is us ts' head trees ts-is =
    let a = ap (left env s ps) ts-is ∙ pushes_cost env s ps is (make i ∷ us) in
    let b = ap trees_size trees in
    let c = size_head t (tree_of s i) head in
    omega (arith, a, b, c)

pub popped : (ts rest : List Coded) (t : Coded) → ts ≡ rest ++ t ∷ [] → to_do ts ≡ task_view t ∷ to_do rest
popped ts rest t is = ap to_do is ∙ ap reverse (map-append task_view rest (t ∷ [])) ∙ reverse-append (map task_view rest) (task_view t ∷ [])

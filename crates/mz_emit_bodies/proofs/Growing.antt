-- A body whose store grew: citations, conversions and gaps.
use Rattle.std.specs.Prelude.{ℕ, ◌≡◌, ◌<◌, ◌+◌, ◌*◌, List, [], ◌∷◌, ◌++◌, length, slice_get, Option, Some}
use Rattle.std.proofs.Common.{suc, refl, sym, ap, ◌∙◌, subst, arith}
use Rattle.std.proofs.lemmas.Option.{get_or_from_slice_get}
use Rattle.mz_cmd.specs.declared.code.ProofCode.TheVariants as code
use Rattle.mz_logic_theory.specs.Tree.{Tree, Trees, listed, instance, size, trees_size}
use Rattle.mz_logic_theory.specs.Signature.{Signature}
use Rattle.mz_logic_theory.specs.Declaration.{Assertion, Declaration, signatures, assertions}
use Rattle.mz_logic_theory.specs.Conversions.{Conversion}
use Rattle.mz_logic_theory.specs.declared.binder.Binder.{Binder}
use Rattle.mz_store.specs.Sharing.{Sharing, AreIn, Holds, tree_of, trees_of}
use Rattle.mz_store.specs.declared.item.Id.{Id}
use Rattle.mz_mmu_theory.specs.Proof.{Proof, by_conv, by_gap}
use Rattle.mz_emit_bodies.specs.Instances.{Grows}
use Rattle.mz_emit_theory.specs.InReach.{InReach}
use Rattle.mz_emit_bodies.specs.Variables.{IsShared}
use Rattle.mz_emit_bodies.specs.Sight.{parts}
use Rattle.mz_emit_bodies.specs.Scopes.{in_sight}
use Rattle.mz_emit_theory.specs.Claims.{proved, conclusion_of, IsCitable}
use Rattle.mz_emit_theory.specs.Costs.{cost, pay_cost}
use Rattle.mz_emit_bodies.specs.TaskInvariant.{Task, prove, cite, push, pay, give, claims, let_costs, AllCanBeDone, left}
use Rattle.mz_emit_bodies.specs.Pushing.{pushes}
use Rattle.mz_emit_bodies.specs.Going.{Job, CellsRight, IsGoing}
use Rattle.mz_emit_bodies.specs.declared.let_scopes.Cell.{Cell}
use Rattle.mz_emit_bodies.proofs.Making.{grows_on}
use Rattle.mz_emit_theory.specs.BodyWriting.{◌>>◌, command, write_expr, write_exprs, write_payment}
use Rattle.mz_emit_bodies.specs.Writers.{write_task, write_tasks}
use Rattle.mz_emit_bodies.proofs.Heaps.{then_assoc}
use Rattle.mz_emit_bodies.proofs.Writers.{then_assoc3, then_assoc4, writing_grown, operands_written}
use Rattle.mz_emit_bodies.proofs.Moves.{all_grown, left_grown, pushes_can, pushes_cost, at_last, replaced}

pub many_ids : (s : Sharing) (is : List Id) → length is ≡ length (listed (trees_of s is))
many_ids s [] = refl
many_ids s (i ∷ is) = ap suc (many_ids s is)

module _ (env : List Declaration) (o : Job) (s s' : Sharing) (gr : Grows s s') (vars : List Id) (places : List (Option ℕ)) (len : ℕ) (hps : List ℕ) (cells : List Cell) where
  pub grown : (ts : List Task) (bs : List ℕ) → IsShared (signatures env) s' vars → IsGoing env o s vars places len hps cells ts bs → IsGoing env o s' vars places len hps cells ts bs
  grown ts bs shared g = record {
    commands = g.commands;
    written = g.written;
    short = g.short;
    writing = writing_grown o.gaps env o.hyps o.count s s' gr places len hps cells ts g.commands o.whole g.can g.writing;
    counted = g.counted;
    grew = grows_on o.store s s' g.grew gr;
    shared = shared;
    lets = subst (λ (ctx : List Binder). CellsRight o.gaps env ctx o.hyps cells) (sym gr.0) g.lets;
    can = subst (λ (ctx : List Binder). AllCanBeDone o.gaps env ctx o.hyps o.count s' (parts cells) ts) (sym gr.0) (all_grown o.gaps env s.context o.hyps o.count s s' gr (parts cells) ts g.can);
  }

  pub rest_cost : (t : Task) (us : List Task) (bs : List ℕ) → IsGoing env o s vars places len hps cells (t ∷ us) bs → left env s' (parts cells) us ≡ left env s (parts cells) us
  rest_cost t us bs g = left_grown o.gaps env s.context o.hyps o.count s s' gr (parts cells) us g.can.1

  pub cite_done : (T : ℕ) (es : Trees) (is : List Id) (i : ℕ) (us ts' : List Task) (bs : List ℕ) → IsShared (signatures env) s' vars → AreIn s' is → trees_of s' is ≡ es
      → Holds s' i (instance es (conclusion_of env T)) → ts' ≡ pushes is ++ push i ∷ give code.Thm T ∷ us
      → IsGoing env o s vars places len hps cells (cite T es ∷ us) bs → IsGoing env o s' vars places len hps cells ts' bs
  cite_done T es is i us ts' bs shared inside trees (i-in, i-is) ts-is g₀ =
      let g = grown (cite T es ∷ us) bs shared g₀ in
      at_last env o s' vars places len hps cells (pushes is ++ push i ∷ give code.Thm T ∷ us) ts' bs ts-is
      (replaced env o s' vars places len hps cells (cite T es ∷ us) (pushes is ++ push i ∷ give code.Thm T ∷ us) bs g
      (pushes_can o.gaps env s'.context o.hyps o.count s' (parts cells) is (push i ∷ give code.Thm T ∷ us) inside (i-in, (tt, g.can.1)))
      (operands_written env s'.context s' (parts cells) es (instance es (conclusion_of env T)) is i (give code.Thm T ∷ us) g.writing.here trees i-is
      ∙ sym (then_assoc3 (write_exprs s'.context es) (write_expr s'.context (instance es (conclusion_of env T))) (command code.Thm T) (write_tasks env s'.context s' (parts cells) us) g.writing.here)))

  pub cite_cost : (T : ℕ) (es : Trees) (is : List Id) (i : ℕ) (us ts' : List Task) (bs : List ℕ) → trees_of s' is ≡ es
      → tree_of s' i ≡ instance es (conclusion_of env T) → ts' ≡ pushes is ++ push i ∷ give code.Thm T ∷ us
      → IsGoing env o s vars places len hps cells (cite T es ∷ us) bs
      → left env s' (parts cells) ts' < 2 + 2 * trees_size es + 2 * size (instance es (conclusion_of env T)) + left env s (parts cells) us
  cite_cost T es is i us ts' bs trees i-is ts-is g =
      let a = ap (left env s' (parts cells)) ts-is ∙ pushes_cost env s' (parts cells) is (push i ∷ give code.Thm T ∷ us) in
      let b = ap trees_size trees in
      let c = ap size i-is in
      let d = rest_cost (cite T es) us bs g in
      omega (arith, a, b, c, d)

  -- a conversion: the expression, what is proved, and what is to be paid
  pub convert_done : (e : Tree) (c : Conversion) (p : Proof) (chain : Option ℕ) (i : ℕ) (us ts' : List Task) (bs : List ℕ) → IsShared (signatures env) s' vars → Holds s' i e
      → ts' ≡ push i ∷ prove p chain ∷ give code.Conv 0 ∷ pay c ∷ us
      → IsGoing env o s vars places len hps cells (prove (by_conv e c p) chain ∷ us) bs → IsGoing env o s' vars places len hps cells ts' bs
  convert_done e c p chain i us ts' bs shared (i-in, i-is) ts-is g₀ =
      let g = grown (prove (by_conv e c p) chain ∷ us) bs shared g₀ in
      let sound = g.can.0.2 in
      at_last env o s' vars places len hps cells (push i ∷ prove p chain ∷ give code.Conv 0 ∷ pay c ∷ us) ts' bs ts-is
      (replaced env o s' vars places len hps cells (prove (by_conv e c p) chain ∷ us) (push i ∷ prove p chain ∷ give code.Conv 0 ∷ pay c ∷ us) bs g
      (i-in, ((g.can.0.0, g.can.0.1, sound.1), (tt, ((e, proved env o.hyps (in_sight (claims env o.hyps (parts cells)) chain) p, sound.0), g.can.1))))
      (ap (λ (z : Tree). (write_expr s'.context z >> write_tasks env s'.context s' (parts cells) (prove p chain ∷ give code.Conv 0 ∷ pay c ∷ us)) g.writing.here) i-is
      ∙ sym (then_assoc4 (write_expr s'.context e) (write_task env s'.context s' (parts cells) (prove p chain)) (command code.Conv 0) (write_payment env s'.context c)
      (write_tasks env s'.context s' (parts cells) us) g.writing.here)))

  pub convert_cost : (e : Tree) (c : Conversion) (p : Proof) (chain : Option ℕ) (i : ℕ) (us ts' : List Task) (bs : List ℕ) → tree_of s' i ≡ e
      → ts' ≡ push i ∷ prove p chain ∷ give code.Conv 0 ∷ pay c ∷ us
      → IsGoing env o s vars places len hps cells (prove (by_conv e c p) chain ∷ us) bs
      → left env s' (parts cells) ts' < 2 + 2 * size e + pay_cost env c + cost env (in_sight (let_costs env (parts cells)) chain) p + left env s (parts cells) us
  convert_cost e c p chain i us ts' bs i-is ts-is g =
      let a = ap (left env s' (parts cells)) ts-is in
      let b = ap size i-is in
      let d = rest_cost (prove (by_conv e c p) chain) us bs g in
      omega (arith, a, b, d)

  -- a gap: the expression, and then it is proved
  pub gap_done : (e : Tree) (chain : Option ℕ) (i : ℕ) (us ts' : List Task) (bs : List ℕ) → IsShared (signatures env) s' vars → Holds s' i e
      → ts' ≡ push i ∷ give code.Sorry 0 ∷ us
      → IsGoing env o s vars places len hps cells (prove (by_gap e) chain ∷ us) bs → IsGoing env o s' vars places len hps cells ts' bs
  gap_done e chain i us ts' bs shared (i-in, i-is) ts-is g₀ =
      let g = grown (prove (by_gap e) chain ∷ us) bs shared g₀ in
      at_last env o s' vars places len hps cells (push i ∷ give code.Sorry 0 ∷ us) ts' bs ts-is
      (replaced env o s' vars places len hps cells (prove (by_gap e) chain ∷ us) (push i ∷ give code.Sorry 0 ∷ us) bs g (i-in, (tt, g.can.1))
      (ap (λ (z : Tree). (write_expr s'.context z >> write_tasks env s'.context s' (parts cells) (give code.Sorry 0 ∷ us)) g.writing.here) i-is
      ∙ sym (then_assoc (write_expr s'.context e) (command code.Sorry 0) (write_tasks env s'.context s' (parts cells) us) g.writing.here)))

  pub gap_cost : (e : Tree) (chain : Option ℕ) (i : ℕ) (us ts' : List Task) (bs : List ℕ) → tree_of s' i ≡ e → ts' ≡ push i ∷ give code.Sorry 0 ∷ us
      → IsGoing env o s vars places len hps cells (prove (by_gap e) chain ∷ us) bs
      → left env s' (parts cells) ts' < 2 + 2 * size e + left env s (parts cells) us
  gap_cost e chain i us ts' bs i-is ts-is g =
      let a = ap (left env s' (parts cells)) ts-is in
      let b = ap size i-is in
      let d = rest_cost (prove (by_gap e) chain) us bs g in
      omega (arith, a, b, d)

-- the same variables, and the same signatures
pub shared_as : (env : List Declaration) (sigs : List Signature) (s : Sharing) (vars vars' : List Id) → sigs ≡ signatures env → vars' ≡ vars → IsShared sigs s vars' → IsShared (signatures env) s vars
shared_as env sigs s vars vars' sigs-is v-is h = subst (λ (z : List Signature). IsShared z s vars) sigs-is (subst (IsShared sigs s) v-is h)

pub vars_as : (env : List Declaration) (o : Job) (s : Sharing) (vars vars' : List Id) (places : List (Option ℕ)) (len : ℕ) (hps : List ℕ) (cells : List Cell) (ts : List Task) (bs : List ℕ)
    → vars' ≡ vars → IsGoing env o s vars places len hps cells ts bs → IsGoing env o s vars' places len hps cells ts bs
vars_as env o s vars vars' places len hps cells ts bs v-is g = subst (λ (z : List Id). IsGoing env o s z places len hps cells ts bs) (sym v-is) g

pub concl_is : (env : List Declaration) (T : ℕ) (x : Assertion) → Some x ≡ slice_get (assertions env) T → x.conclusion ≡ conclusion_of env T
concl_is env T x is = sym (ap (λ (b : Assertion). b.conclusion) (get_or_from_slice_get (assertions env) T x _ (sym is)))

pub cite_reach : (env : List Declaration) (ctx : List Binder) (T : ℕ) (es : Trees) (hs : List Tree) (x : Assertion) (s : Sharing) (is vs : List Id) → IsCitable env ctx T es hs
    → Some x ≡ slice_get (assertions env) T → vs ≡ is → trees_of s is ≡ es → InReach (length vs) x.conclusion
cite_reach env ctx T es hs x s is vs (a, at, fits, apart, hs-is, reach, sorted) x-is vs-is trees =
    let same : a.conclusion ≡ x.conclusion = concl_is env T a (sym at) ∙ sym (concl_is env T x x-is) in
    let n : length (listed es) ≡ length vs = sym (ap length vs-is ∙ many_ids s is ∙ ap (λ (z : Trees). length (listed z)) trees) in
    subst (λ (k : ℕ). InReach k x.conclusion) n (subst (InReach (length (listed es))) same reach)

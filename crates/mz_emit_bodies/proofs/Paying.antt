-- Obligations that are paid.
use Rattle.std.specs.Prelude.{Bool, ℕ, ◌≡◌, ◌<◌, ◌≤◌, ◌+◌, ◌-◌, List, [], ◌∷◌, ◌++◌, length, take, drop, get_or, slice_get, Option, Some, slice_index_or}
use Rattle.std.proofs.Common.{zero, suc, refl, sym, ap, ◌∙◌, subst, arith}
use Rattle.std.proofs.lemmas.List.{length-append}
use Rattle.std.proofs.lemmas.Option.{get_or_from_slice_get, slice_get_within}
use Rattle.mz_cmd.specs.declared.code.ProofCode.TheVariants as code
use Rattle.mz_logic_theory.specs.Tree.{Tree, Trees, app, none, more, listed, instance, followed_by, variables, size}
use Rattle.mz_logic_theory.specs.Signature.{Signature}
use Rattle.mz_logic_theory.specs.Declaration.{Form, plain_form, abstract_form, defined, body_of, Term, Declaration, terms, signatures, body_tree}
use Rattle.mz_logic_theory.specs.Sorts.{HasSort, IsSorted}
use Rattle.mz_logic_theory.specs.Legality.{IsLegalEnv}
use Rattle.mz_logic_theory.specs.Conversions.{Conversion, Conversions, refl_conv, sym_conv, cong_conv, unfold_conv, gap_conv, no_convs, more_convs, IsDefined, AreFresh, Between}
use Rattle.mz_logic_theory.specs.declared.binder.Binder.{Binder}
use Rattle.mz_logic_theory.proofs.Offered.{legal_env_is_right}
use Rattle.mz_store.specs.Sharing.{Sharing, Holds, tree_of}
use Rattle.mz_store.specs.declared.item.Id.{Id}
use Rattle.mz_machine_theory.specs.Profile.{Item, expr, obligation}
use Rattle.mz_machine_theory.proofs.Offered.{trees_of-listed, count-fits}
use Rattle.mz_emit_theory.specs.SymbolicState.{Work}
use Rattle.mz_emit_theory.specs.Steps.{stacked, Step, command_bytes}
use Rattle.mz_emit_bodies.specs.Instances.{Grows}
use Rattle.mz_emit_theory.specs.InReach.{InReach}
use Rattle.mz_emit_bodies.specs.Variables.{IsShared}
use Rattle.mz_emit_bodies.specs.Sight.{parts}
use Rattle.mz_emit_theory.specs.Costs.{body_at, pay_cost}
use Rattle.mz_mmu_theory.specs.ConvView.{conversion, conversions}
use Rattle.mz_mmu_theory.specs.declared.conv.Conv.{Conv}
use Rattle.mz_emit_theory.specs.Claims.{Goes, AllGo}
use Rattle.mz_emit_bodies.specs.TaskInvariant.{Task, push, pay, pay_all, give, left}
use Rattle.mz_emit_bodies.specs.Going.{Job, IsGoing}
use Rattle.mz_emit_bodies.specs.declared.let_scopes.Cell.{Cell}
use Rattle.mz_emit_bodies.proofs.Lists.{rest_whole}
use Rattle.mz_emit_theory.proofs.Offered.{fresh_long, reach_of_sort}
use Rattle.mz_emit_bodies.proofs.Moves.{at_last, replaced, given}
use Rattle.mz_emit_bodies.proofs.Growing.{grown, rest_cost}
use Rattle.mz_emit_theory.specs.BodyWriting.{◌>>◌, command, write_expr, write_payment, write_payments}
use Rattle.mz_emit_bodies.specs.Writers.{write_tasks}
use Rattle.mz_emit_bodies.proofs.Heaps.{then_assoc}
use Rattle.mz_emit_bodies.proofs.Writers.{then_assoc4}

-- ---- a definition's body

pub body_is : (env : List Declaration) (t : ℕ) (d : Term) (dummies : List Binder) (body : Tree) → IsDefined env t d dummies body → body_at env t ≡ body
body_is env t d dummies body (at, form) = ap (λ (x : Term). body_tree x.form) (get_or_from_slice_get (terms env) t d _ at) ∙ ap body_tree form

form_body : (f : Form) (e : Tree) → body_of f ≡ more e none → body_tree f ≡ e
form_body (defined dummies body) e is = ap first is
  where
    first : Trees → Tree
    first none = body
    first (more f fs) = f
form_body _ e is = absurd (grind (arith, is))

pub body_found : (env : List Declaration) (t : ℕ) (d : Term) (e : Tree) → Some d ≡ slice_get (terms env) t → body_of d.form ≡ more e none → body_at env t ≡ e
body_found env t d e at is = ap (λ (x : Term). body_tree x.form) (get_or_from_slice_get (terms env) t d _ (sym at)) ∙ form_body d.form e is

pub fresh_below : (ctx : List Binder) (es : Trees) (ys : List ℕ) (bs : List Binder) → AreFresh ctx es ys bs → (k d : ℕ) → k < length ys → slice_index_or ys k d < length ctx
fresh_below ctx es [] bs h k d lt = absurd (omega (arith, lt))
fresh_below ctx es (y ∷ ys) [] h k d lt = absurd h
fresh_below ctx es (y ∷ ys) (b ∷ bs) (bound, _, _, h) zero d lt = slice_get_within ctx y bound.0 bound.1
fresh_below ctx es (y ∷ ys) (b ∷ bs) (bound, _, _, h) (suc k) d lt = fresh_below ctx es ys bs h k d (omega (arith, lt))

-- the body of what unfolds is over as many variables as are put in
pub unfold_reach : (env : List Declaration) (ctx : List Binder) (t : ℕ) (es : Trees) (ys : List ℕ) (c : Conversion) (l r : Tree) (n : ℕ) → IsLegalEnv env
    → Between env ctx (unfold_conv t es ys c) l r → n ≡ length (listed es) + length ys → InReach n (body_at env t)
unfold_reach env ctx t es ys c l r n legal (_, _, _, (d, dummies, body, is, fits, fresh, _)) n-is =
    let right = (legal_env_is_right env legal).terms_right t d is.0 dummies body is.1 in
    let a = count-fits (signatures env) ctx es d.signature.params fits in
    let b = fresh_long ctx es ys dummies fresh in
    let c : length (d.signature.params ++ dummies) ≡ length d.signature.params + length dummies = length-append d.signature.params dummies in
    subst (λ (e : Tree). InReach n e) (sym (body_is env t d dummies body is))
    (subst (λ (k : ℕ). InReach k body) (omega (arith, a, b, c, n-is)) (reach_of_sort (signatures env) (d.signature.params ++ dummies) body d.signature.result.sort right.0))

pub between_sorted : (env : List Declaration) (ctx : List Binder) (c : Conversion) (l r : Tree) → Between env ctx c l r → IsSorted env ctx l
between_sorted env ctx (refl_conv e) l r h = h.0
between_sorted env ctx _ l r h = h.0

pub left_sorted : (env : List Declaration) (ctx : List Binder) (t : ℕ) (es : Trees) (ys : List ℕ) (c : Conversion) (l r : Tree) → Between env ctx (unfold_conv t es ys c) l r → IsSorted env ctx (app t es)
left_sorted env ctx t es ys c l r (sorted, _, is, _) = subst (IsSorted env ctx) is sorted

pub unfolded_sorted : (env : List Declaration) (ctx : List Binder) (t : ℕ) (es : Trees) (ys : List ℕ) (c : Conversion) (l r : Tree) → Between env ctx (unfold_conv t es ys c) l r
    → IsSorted env ctx (instance (followed_by es (variables ys)) (body_at env t))
unfolded_sorted env ctx t es ys c l r (_, _, _, (d, dummies, body, is, _, _, between)) =
    subst (λ (e : Tree). IsSorted env ctx (instance (followed_by es (variables ys)) e)) (sym (body_is env t d dummies body is))
    (between_sorted env ctx c (instance (followed_by es (variables ys)) body) r between)

-- ---- the command of an unfolding

pub unfold_step : (gaps : Bool) (env : List Declaration) (ctx : List Binder) (t : ℕ) (es : Trees) (ys : List ℕ) (d : Term) (dummies : List Binder) (body e r : Tree) (rest : List (Item Tree))
    → IsDefined env t d dummies body → AreFresh ctx es ys dummies → e ≡ instance (followed_by es (variables ys)) body
    → (w : Work) → w.stack ≡ expr e ∷ expr (app t es) ∷ obligation (app t es) r ∷ rest → Step gaps env ctx w code.Unfold 0 (stacked w (obligation e r ∷ rest))
unfold_step gaps env ctx t es ys d dummies body e r rest is fresh e-is w w-is =
    let back = sym (trees_of-listed es) in (
      t,
      listed es,
      e,
      r,
      rest,
      (d, dummies, body, ys, is, subst (λ (z : Trees). AreFresh ctx z ys dummies) back fresh, e-is ∙ ap (λ (z : Trees). instance (followed_by z (variables ys)) body) back),
      w-is ∙ ap (λ (z : Trees). expr e ∷ expr (app t z) ∷ obligation (app t z) r ∷ rest) back,
      refl,
    )

module _ (env : List Declaration) (o : Job) (s s' : Sharing) (gr : Grows s s') (vars : List Id) (places : List (Option ℕ)) (len : ℕ) (hps : List ℕ) (cells : List Cell)
    (t : ℕ) (es : Trees) (ys : List ℕ) (c : Conversion) (i j : ℕ) (us ts' : List Task) (bs : List ℕ) (ts-is : ts' ≡ push i ∷ push j ∷ give code.Unfold 0 ∷ pay c ∷ us) where
  pub unfold_done : IsShared (signatures env) s' vars → Holds s' i (app t es) → Holds s' j (instance (followed_by es (variables ys)) (body_at env t))
      → IsGoing env o s vars places len hps cells (pay (unfold_conv t es ys c) ∷ us) bs → IsGoing env o s' vars places len hps cells ts' bs
  unfold_done shared (i-in, i-is) (j-in, j-is) g₀ =
      let g = grown env o s s' gr vars places len hps cells (pay (unfold_conv t es ys c) ∷ us) bs shared g₀ in
      let goes = g.can.0.2 in
      let u = goes.0.3 in
      let f = write_tasks env s'.context s' (parts cells) us in
      let x = instance (followed_by es (variables ys)) (body_at env t) in
      at_last env o s' vars places len hps cells (push i ∷ push j ∷ give code.Unfold 0 ∷ pay c ∷ us) ts' bs ts-is
      (replaced env o s' vars places len hps cells (pay (unfold_conv t es ys c) ∷ us) (push i ∷ push j ∷ give code.Unfold 0 ∷ pay c ∷ us) bs g
      (i-in, (j-in, (tt, ((instance (followed_by es (variables ys)) u.2, g.can.0.1, (u.6, goes.1)), g.can.1))))
      (ap (λ (z : Tree). (write_expr s'.context z >> write_expr s'.context (tree_of s' j) >> command code.Unfold 0 >> write_payment env s'.context c >> f) g.writing.here) i-is
      ∙ ap (λ (z : Tree). (write_expr s'.context (app t es) >> write_expr s'.context z >> command code.Unfold 0 >> write_payment env s'.context c >> f) g.writing.here) j-is
      ∙ sym (then_assoc4 (write_expr s'.context (app t es)) (write_expr s'.context x) (command code.Unfold 0) (write_payment env s'.context c) f g.writing.here)))

  pub unfold_cost : tree_of s' i ≡ app t es → tree_of s' j ≡ instance (followed_by es (variables ys)) (body_at env t)
      → IsGoing env o s vars places len hps cells (pay (unfold_conv t es ys c) ∷ us) bs
      → left env s' (parts cells) ts' < pay_cost env (unfold_conv t es ys c) + left env s (parts cells) us
  unfold_cost i-is j-is g =
      let a = ap (left env s' (parts cells)) ts-is in
      let b = ap size i-is in
      let d = ap size j-is in
      let e = rest_cost env o s s' gr vars places len hps cells (pay (unfold_conv t es ys c)) us bs g in
      omega (arith, a, b, d, e)

-- ---- the other conversions

module _ (env : List Declaration) (o : Job) (s : Sharing) (vars : List Id) (places : List (Option ℕ)) (len : ℕ) (hps : List ℕ) (cells : List Cell) (us : List Task) (bs bs' : List ℕ) where
  pub refl_paid : (e : Tree) → bs' ≡ bs ++ command_bytes (code.Refl, 0) → IsGoing env o s vars places len hps cells (pay (refl_conv e) ∷ us) bs → IsGoing env o s vars places len hps cells us bs'
  refl_paid e is g = given env o s vars places len hps cells (pay (refl_conv e) ∷ us) us bs bs' g code.Refl 0 is (omega arith) g.can.1 refl

  pub sym_paid : (c : Conversion) (ts' : List Task) → ts' ≡ pay c ∷ us → bs' ≡ bs ++ command_bytes (code.Symm, 0)
      → IsGoing env o s vars places len hps cells (pay (sym_conv c) ∷ us) bs → IsGoing env o s vars places len hps cells ts' bs'
  sym_paid c ts' ts-is is g =
      let goes = g.can.0.2 in
      at_last env o s vars places len hps cells (pay c ∷ us) ts' bs' ts-is
      (given env o s vars places len hps cells (pay (sym_conv c) ∷ us) (pay c ∷ us) bs bs' g code.Symm 0 is (omega arith) ((g.can.0.1, g.can.0.0, (goes.0.2, goes.1)), g.can.1)
      (then_assoc (command code.Symm 0) (write_payment env s.context c) (write_tasks env s.context s (parts cells) us) g.writing.here))

  pub cong_paid : (t : ℕ) (cs : Conversions) (ts' : List Task) → ts' ≡ pay_all cs ∷ us → bs' ≡ bs ++ command_bytes (code.Cong, 0)
      → IsGoing env o s vars places len hps cells (pay (cong_conv t cs) ∷ us) bs → IsGoing env o s vars places len hps cells ts' bs'
  cong_paid t cs ts' ts-is is g =
      let goes = g.can.0.2 in
      let u = goes.0.2 in
      at_last env o s vars places len hps cells (pay_all cs ∷ us) ts' bs' ts-is
      (given env o s vars places len hps cells (pay (cong_conv t cs) ∷ us) (pay_all cs ∷ us) bs bs' g code.Cong 0 is (omega arith) ((u.0, u.1, (u.4, goes.1)), g.can.1)
      (then_assoc (command code.Cong 0) (write_payments env s.context cs) (write_tasks env s.context s (parts cells) us) g.writing.here))

  pub gap_paid : (a b : Tree) → bs' ≡ bs ++ command_bytes (code.Sorry, 0) → IsGoing env o s vars places len hps cells (pay (gap_conv a b) ∷ us) bs → IsGoing env o s vars places len hps cells us bs'
  gap_paid a b is g = given env o s vars places len hps cells (pay (gap_conv a b) ∷ us) us bs bs' g code.Sorry 0 is (omega arith) g.can.1 refl

-- ---- the conversions of operands

pub no_convs_left : (cs : List Conv) → length cs < 1 → conversions cs ≡ no_convs
no_convs_left [] lt = refl
no_convs_left (c ∷ cs) lt = absurd (omega (arith, lt))

pub first_conv : (cs : List Conv) (c : Conv) → 1 ≤ length cs → c ≡ get_or cs 0 c → conversions cs ≡ more_convs (conversion c) (conversions (take (length cs - 1) (drop 1 cs)))
first_conv [] c le is = absurd (omega (arith, le))
first_conv (d ∷ cs) c le is =
    ap (λ (x : Conv). more_convs (conversion x) (conversions cs)) (sym is) ∙ ap (λ (xs : List Conv). more_convs (conversion c) (conversions xs)) (sym (rest_whole Conv d cs))

-- the first goes, and so do the others
first_goes : (gaps : Bool) (env : List Declaration) (ctx : List Binder) (c : Conversion) (cs : Conversions) (ls rs : Trees) → AllGo gaps env ctx (more_convs c cs) ls rs
    → ((l : Tree) × (r : Tree) × Goes gaps env ctx c l r) × ((ms : Trees) × (ns : Trees) × AllGo gaps env ctx cs ms ns)
first_goes gaps env ctx c cs (more l ls) (more r rs) h = ((l, r, (h.0.0, h.1.0)), (ls, rs, (h.0.1, h.1.1)))
first_goes gaps env ctx c cs _ _ h = absurd h.0

module _ (env : List Declaration) (o : Job) (s : Sharing) (vars : List Id) (places : List (Option ℕ)) (len : ℕ) (hps : List ℕ) (cells : List Cell) (us : List Task) (bs : List ℕ) where
  pub none_paid : IsGoing env o s vars places len hps cells (pay_all no_convs ∷ us) bs → IsGoing env o s vars places len hps cells us bs
  none_paid g = replaced env o s vars places len hps cells (pay_all no_convs ∷ us) us bs g g.can.1 refl

  pub more_paid : (c : Conversion) (cs : Conversions) (ts' : List Task) → ts' ≡ pay c ∷ pay_all cs ∷ us
      → IsGoing env o s vars places len hps cells (pay_all (more_convs c cs) ∷ us) bs → IsGoing env o s vars places len hps cells ts' bs
  more_paid c cs ts' is g =
      let f = first_goes o.gaps env s.context c cs g.can.0.0 g.can.0.1 g.can.0.2 in
      at_last env o s vars places len hps cells (pay c ∷ pay_all cs ∷ us) ts' bs is
      (replaced env o s vars places len hps cells (pay_all (more_convs c cs) ∷ us) (pay c ∷ pay_all cs ∷ us) bs g (f.0, (f.1, g.can.1))
      (sym (then_assoc (write_payment env s.context c) (write_payments env s.context cs) (write_tasks env s.context s (parts cells) us) g.writing.here)))

-- ---- what is sorted, under other names

pub sorted_as : (sigs sigs' : List Signature) (ctx ctx' : List Binder) (e e' : Tree) → sigs' ≡ sigs → ctx' ≡ ctx → e' ≡ e → ((k : ℕ) × HasSort sigs ctx e k) → ((k : ℕ) × HasSort sigs' ctx' e' k)
sorted_as sigs sigs' ctx ctx' e e' sigs-is ctx-is e-is (k, has) =
    (k, subst (λ (z : List Signature). HasSort z ctx' e' k) (sym sigs-is) (subst (λ (z : List Binder). HasSort sigs z e' k) (sym ctx-is) (subst (λ (z : Tree). HasSort sigs ctx z k) (sym e-is) has)))

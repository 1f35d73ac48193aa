-- A conversion goes into what waits for it.
use Rattle.std.proofs.Common.{Vec, Global, ◌≡◌, ◌<◌, ℕ, suc, List, [], ◌∷◌, ◌++◌, length, map, refl, sym, ap, ◌∙◌, subst, arith, length-append}
use Rattle.std.specs.Prelude.{reverse}
use Rattle.std.proofs.lemmas.List.{reverse-append}
use Rattle.mz_logic_theory.specs.Conversions.{Conversion, sym_conv, cong_conv, unfold_conv, more_convs}
use Rattle.mz_logic_theory.specs.declared.binder.Binder.{Binder}
use Rattle.mz_mmu_theory.specs.Proof.{by_conv}
use Rattle.mz_machine_theory.specs.Spells.{trees_of}
use Rattle.mz_machine_theory.specs.MachineState.{RowsBefore}
use Rattle.mz_trace.specs.OneHoleContexts.{Part, then_conv, paid, for_operand, owed}
use Rattle.mz_trace.specs.Traces.{Trace, stacked}
use Rattle.mz_trace.specs.Nodes.{Value, a_conversion, expression_at, expressions_at, conversion_at, conversions_at, proof_at, value_of, HasParts, IsConversion, AreConversions}
use Rattle.mz_trace.specs.Entries.{owed_at, items_at, parts_at, ArePairs, IsStack, IsWaiting}
use Rattle.mz_trace.specs.Commands.{Stage, with_node, with_stack, values_in, context_of, state_of, trace_of, IsHeld, IsMadeBelow, MayPay, IsPaid, Pays, IsPassedOn, PassesOn, unmade}
use Rattle.mz_trace.specs.declared.node.RunNode.{RunNode}
use Rattle.mz_trace.specs.declared.node.RunNode.TheVariants as node
use Rattle.mz_trace.specs.declared.entry.Item.TheVariants.{Proof, Conversion as ConversionItem}
use Rattle.mz_trace.specs.declared.entry.Entry.{Entry}
use Rattle.mz_trace.specs.declared.entry.Entry.TheVariants.{Held, Owed, ForProof, ForTurned, ForOperand, ForUnfolded, ForCut}
use Rattle.mz_trace.proofs.FewNodes.{one-node}
use Rattle.mz_trace.proofs.Stages.{same-expression-still, alike, alike-trace, held-of, state-below, trace-below, held-still, waiting-still, stack-still, expression-still, conversion-added, proof-added, heap-still, heap_parts-still, items-still, hyps-still, parts-still, lets-still}

abbrev atop : Trace → Part → List Part → Trace
atop tr x xs = stacked tr (x ∷ xs)

-- ---- where it makes a conversion that pays in its turn

module _ (tables : RowsBefore) (params : List Binder) (s : Stage) (xs : List Entry) (x : Entry) (c : ℕ) (n : RunNode) where
  -- the entry stands for no items, and the node's conversion is what is paid below it
  pub passed : IsHeld tables params (with_stack s xs) → HasParts tables (values_in s) n → IsWaiting tables (values_in s) xs
      → items_at (values_in s) (x ∷ xs) ≡ items_at (values_in s) xs
      → unmade (x ∷ xs) ≡ suc (unmade xs) → (d : Conversion) → value_of (values_in s) n ≡ a_conversion d → paid (conversion_at (values_in s) c) (parts_at (values_in s) (x ∷ xs)) ≡ paid d (parts_at (values_in s) xs)
      → IsPassedOn tables params (with_stack s (x ∷ xs)) c (with_node (with_stack s xs) n) (length s.nodes)
  passed held parts w none waits d value pays =
      let below = with_stack s xs in
      let (is, at) = conversion-added tables params below n held parts d value in
      let later = trace-below tables params below n held parts w in
      record {
        made = (held-still tables params below n held parts, waiting-still tables params below n held parts xs w);
        conversion = is;
        state = state-below tables params below n held parts w ∙ ap (λ is. record (state_of params s) { stack = is }) (sym none);
        trace = ap (λ (tr : Trace). stacked tr (paid (conversion_at (values_in (with_node below n)) (length s.nodes)) tr.stack)) later
            ∙ ap (λ e. stacked (trace_of below) (paid e (parts_at (values_in s) xs))) at
            ∙ ap (stacked (trace_of below)) (sym pays);
        few = omega (arith, one-node s.nodes n, waits);
      }

pub passed-on : (s : Stage) (b : List Entry) (c : ℕ) (s' t : Stage) (k : ℕ) → s.stack ≡ b → s' ≡ t → PassesOn (with_stack s b) c t k → PassesOn s c s' k
passed-on s b c s' t k h h' go = subst (λ z. PassesOn (with_stack s z) c s' k) (sym h) (subst (λ z. PassesOn (with_stack s b) c z k) (sym h') go)

pub paid-by : (s : Stage) (b : List Entry) (c : ℕ) (s' t : Stage) → s.stack ≡ b → s' ≡ t → Pays (with_stack s b) c t → Pays s c s'
paid-by s b c s' t h h' go = subst (λ z. Pays (with_stack s z) c s') (sym h) (subst (λ z. Pays (with_stack s b) c z) (sym h') go)

module _ (s : Stage) (xs : List Entry) (c : ℕ) where
  pub through-turned : PassesOn (with_stack s (ForTurned ∷ xs)) c (with_node (with_stack s xs) (node.Sym c)) (length s.nodes)
  through-turned tables params made is =
      passed tables params s xs ForTurned c (node.Sym c) (held-of tables params s (ForTurned ∷ xs) xs made.0) is made.1 refl refl
      (sym_conv (conversion_at (values_in s) c)) refl refl

conversions-then : (vs : List Value) (ns : List ℕ) (n : ℕ) → conversions_at vs (ns ++ n ∷ []) ≡ then_conv (conversions_at vs ns) (conversion_at vs n)
conversions-then vs [] n = refl
conversions-then vs (m ∷ ns) n = ap (more_convs (conversion_at vs m)) (conversions-then vs ns n)

conversions-both : (vs : List Value) (ns ms : List ℕ) → AreConversions vs ns → AreConversions vs ms → AreConversions vs (ns ++ ms)
conversions-both vs [] ms h h' = h'
conversions-both vs (n ∷ ns) ms h h' = (h.0, conversions-both vs ns ms h.1 h')

pairs-left : (vs : List Value) (ps qs : List (ℕ × ℕ)) → ArePairs vs (ps ++ qs) → ArePairs vs ps × ArePairs vs qs
pairs-left vs [] qs h = (tt, h)
pairs-left vs (p ∷ ps) qs h = let (rest, more) = pairs-left vs ps qs h.2 in ((h.0, h.1, rest), more)

-- ---- where it is in its place

module _ (tables : RowsBefore) (params : List Binder) (s : Stage) (xs : List Entry) where
  -- a proof of the expression, by the conversion from what the other proof proves
  pub into-proof : (e p c : ℕ) → IsMadeBelow tables params (with_stack s (ForProof e p ∷ xs)) → IsConversion (values_in s) c
      → IsPaid tables params (with_stack s (ForProof e p ∷ xs)) c (with_stack (with_node s (node.Conv e c p)) (Held (Proof e (length s.nodes)) ∷ xs))
  into-proof e p c made is =
      let n = node.Conv e c p in
      let below = with_stack s xs in
      let held = held-of tables params s (ForProof e p ∷ xs) xs made.0 in
      let parts : HasParts tables (values_in s) n = (made.1.0, is, made.1.1) in
      let w : IsStack tables (values_in s) xs = made.1.2 in
      let (there, at) = proof-added tables params below n held parts (by_conv (expression_at (values_in s) e) (conversion_at (values_in s) c) (proof_at (values_in s) p)) refl in
      let still = expression-still tables params below n held parts e made.1.0 in
      record {
        made = (held-of tables params (with_node s n) xs (Held (Proof e (length s.nodes)) ∷ xs) (held-still tables params below n held parts), ((still, there), stack-still tables params below n held parts xs w));
        state = alike (context_of params s) (heap-still tables params below n held parts)
            (rw (same-expression-still tables params below n held parts e made.1.0, items-still tables params below n held parts xs w) refl) (hyps-still tables params below n held parts);
        trace = alike-trace (heap_parts-still tables params below n held parts) (rw (at, parts-still tables params below n held parts xs w) refl) (lets-still tables params below n held parts);
        few = omega (arith, one-node s.nodes n);
      }

  pub into-cut : (l r c : ℕ) → IsMadeBelow tables params (with_stack s (ForCut l r ∷ xs)) → IsConversion (values_in s) c
      → IsPaid tables params (with_stack s (ForCut l r ∷ xs)) c (with_stack s (Held (ConversionItem l r c) ∷ xs))
  into-cut l r c made is = record {
    made = (held-of tables params s (ForCut l r ∷ xs) (Held (ConversionItem l r c) ∷ xs) made.0, ((made.1.0, made.1.1, is), made.1.2));
    state = refl;
    trace = refl;
    few = omega arith;
  }

-- ---- definitions and operands

module _ (s : Stage) (xs : List Entry) (c t : ℕ) where
  pub through-unfolded : (e : ℕ) (es ys : Vec ℕ Global) → PassesOn (with_stack s (ForUnfolded t e es ys ∷ xs)) c (with_node (with_stack s xs) (node.Unfold t e es ys c)) (length s.nodes)
  through-unfolded e es ys tables params made is =
      passed tables params s xs (ForUnfolded t e es ys) c (node.Unfold t e es ys c) (held-of tables params s (ForUnfolded t e es ys ∷ xs) xs made.0) (made.1.0, made.1.1, is, made.1.2) made.1.3 refl refl
      (unfold_conv t (trees_of (expressions_at (values_in s) es.items)) ys.items (conversion_at (values_in s) c)) refl refl

  module _ (done more : Vec ℕ Global) (longer : more.items ≡ done.items ++ c ∷ []) where
    one-more : (vs : List Value) → conversions_at vs more.items ≡ then_conv (conversions_at vs done.items) (conversion_at vs c)
    one-more vs = ap (conversions_at vs) longer ∙ conversions-then vs done.items c

    all-more : (vs : List Value) → AreConversions vs done.items → IsConversion vs c → AreConversions vs more.items
    all-more vs h is = subst (AreConversions vs) (sym longer) (conversions-both vs done.items (c ∷ []) h (is, tt))

    paid-last : (vs : List Value) (ps : List Part) (n : ℕ) → n ≡ 0 → paid (conversion_at vs c) (for_operand t (conversions_at vs done.items) n ∷ ps) ≡ paid (cong_conv t (conversions_at vs more.items)) ps
    paid-last vs ps n none = rw (none, one-more vs) refl

    paid-next : (vs : List Value) (ps : List Part) (n m : ℕ) → n ≡ suc m
        → owed ∷ for_operand t (conversions_at vs more.items) m ∷ ps ≡ paid (conversion_at vs c) (for_operand t (conversions_at vs done.items) n ∷ ps)
    paid-next vs ps n m some = rw (some, one-more vs) refl

    pub through-operands : (left : Vec (ℕ × ℕ) Global) → left.items ≡ [] → PassesOn (with_stack s (ForOperand t done left ∷ xs)) c (with_node (with_stack s xs) (node.Cong t more)) (length s.nodes)
    through-operands left none tables params made is =
        let vs = values_in s in
        passed tables params s xs (ForOperand t done left) c (node.Cong t more) (held-of tables params s (ForOperand t done left ∷ xs) xs made.0) (all-more vs made.1.0 is) made.1.2
        (ap (λ (ps : List (ℕ × ℕ)). map (owed_at vs) (reverse ps) ++ items_at vs xs) none) refl
        (cong_conv t (conversions_at vs more.items)) refl (paid-last vs (parts_at vs xs) (length left.items) (ap length none))

    pub next-operand : (left fewer : Vec (ℕ × ℕ) Global) (f o : ℕ) → left.items ≡ fewer.items ++ (f, o) ∷ []
        → Pays (with_stack s (ForOperand t done left ∷ xs)) c (with_stack s (Owed f o ∷ ForOperand t more fewer ∷ xs))
    next-operand left fewer f o some tables params made is =
        let vs = values_in s in
        let (pairs, pair) = pairs-left vs fewer.items ((f, o) ∷ []) (subst (ArePairs vs) some made.1.1) in
        let turned : reverse left.items ≡ (f, o) ∷ reverse fewer.items = ap (λ (ps : List (ℕ × ℕ)). reverse ps) some ∙ reverse-append fewer.items ((f, o) ∷ []) in
        let many : length left.items ≡ suc (length fewer.items) = omega (arith, ap length some, length-append fewer.items ((f, o) ∷ [])) in
        record {
          made = (
            held-of tables params s (ForOperand t done left ∷ xs) (Owed f o ∷ ForOperand t more fewer ∷ xs) made.0,
            (pair.0, pair.1, (all-more vs made.1.0 is, pairs, made.1.2)),
          );
          state = ap (λ (ps : List (ℕ × ℕ)). record (state_of params s) { stack = map (owed_at vs) ps ++ items_at vs xs }) (sym turned);
          trace = ap (stacked (trace_of s)) (paid-next vs (parts_at vs xs) (length left.items) (length fewer.items) many);
          few = omega arith;
        }

-- ---- what was taken from a list, top last

pub top-of : (old new : List Entry) (x y : Entry) → old ≡ new ++ x ∷ [] → x ≡ y → reverse old ≡ y ∷ reverse new
top-of old new x y is same = ap (λ (zs : List Entry). reverse zs) is ∙ reverse-append new (x ∷ []) ∙ ap (λ z. z ∷ reverse new) same

pub shorter : (xs ys : List Entry) (x : Entry) → xs ≡ x ∷ ys → length ys < length xs
shorter xs ys x is = omega (arith, ap length is)

-- the stage with these nodes and this stack
pub with_both-is : (s : Stage) (nodes : List RunNode) (xs : List Entry) (n : RunNode) → nodes ≡ s.nodes ++ n ∷ [] → record s { nodes = nodes; stack = xs } ≡ with_stack (with_node s n) xs
with_both-is s nodes xs n is = ap (λ ns. record s { nodes = ns; stack = xs }) is

-- ---- one after another

pub itself : (s : Stage) (c : ℕ) → PassesOn s c s c
itself s c tables params made is = record { made = made; conversion = is; state = refl; trace = refl; few = omega arith }

pub may-pay : (s : Stage) (c : ℕ) (s' : Stage) (c' : ℕ) → MayPay s c → PassesOn s c s' c' → MayPay s' c'
may-pay s c s' c' (tables, params, made, is) go = let on = go tables params made is in (tables, params, on.made, on.conversion)

pub then-passed : (s : Stage) (c : ℕ) (s' : Stage) (c' : ℕ) (s'' : Stage) (c'' : ℕ) → PassesOn s c s' c' → PassesOn s' c' s'' c'' → PassesOn s c s'' c''
then-passed s c s' c' s'' c'' go more tables params made is =
    let on = go tables params made is in
    let two = more tables params on.made on.conversion in
    record { made = two.made; conversion = two.conversion; state = two.state ∙ on.state; trace = two.trace ∙ on.trace; few = omega (arith, two.few, on.few) }

pub then-paid : (s : Stage) (c : ℕ) (s' : Stage) (c' : ℕ) (s'' : Stage) → PassesOn s c s' c' → Pays s' c' s'' → Pays s c s''
then-paid s c s' c' s'' go more tables params made is =
    let on = go tables params made is in
    let two = more tables params on.made on.conversion in
    record { made = two.made; state = two.state ∙ on.state; trace = two.trace ∙ on.trace; few = omega (arith, two.few, on.few) }

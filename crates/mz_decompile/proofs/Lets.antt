-- The proofs that a body makes mention lets that have got their name, and leave no gap.
use Rattle.std.proofs.Common.{◌≡◌, ◌≤◌, ◌<◌, ◌+◌, ◌-◌, ◌∙◌, ℕ, zero, suc, List, [], ◌∷◌, ◌++◌, length, drop, map, Some, None, Option, Result, Ok, Err, refl, sym, ap, subst, arith, length-append}
use Rattle.std.specs.Prelude.{⊤, slice_get}
use Rattle.mz_cmd.specs.declared.rule.K.TheVariants as k
use Rattle.mz_cmd.specs.declared.command.Cmd.{Cmd}
use Rattle.mz_cmd.specs.declared.command.CmdFault.{CmdFault}
use Rattle.mz_cmd.specs.declared.code.ProofCode.{ProofCode}
use Rattle.mz_cmd.specs.declared.code.ProofCode.TheVariants as code
use Rattle.mz_cmd.specs.Reading.{first_command}
use Rattle.mz_logic_theory.specs.Tree.{Tree}
use Rattle.mz_logic_theory.specs.Conversions.{Conversion, Conversions, refl_conv, sym_conv, cong_conv, unfold_conv, no_convs, more_convs, GapsOnly, AllGapsOnly}
use Rattle.mz_logic_theory.specs.declared.binder.Binder.{Binder}
use Rattle.mz_mmu_theory.specs.Proof.{Proof, Proofs, by_hyp, by_name, by_citation, by_conv, by_let, by_gap, no_proofs, more_proofs}
use Rattle.mz_mmu_theory.specs.Gaps.{LeavesOnly, AllLeaveOnly}
use Rattle.mz_machine_theory.specs.Steps.{Turn, over, goes_on}
use Rattle.mz_machine_theory.specs.Profile.{strict, tree_parts}
use Rattle.mz_machine_theory.proofs.Offered.{from_bind, from_want, taken, taken-is, from_follow}
use Rattle.mz_machine_theory.specs.MachineState.{RowsBefore, State, Heading}
use Rattle.mz_machine_theory.specs.Premises.{pop_expr, pop_proof, pop_obligation, pop_sides}
use Rattle.mz_machine_theory.specs.ProofMachine.{citation, matched_by, unfolding_of, proof_step}
use Rattle.mz_machine_theory.specs.Bodies.{BodyCommand, ends, proves, body_command}
use Rattle.mz_trace.specs.OneHoleContexts.{Part, expression, proved, owed, converted, for_proof, for_turned, for_operand, for_unfolded, for_cut, then_conv, paid, by_operands, proofs_above}
use Rattle.mz_trace.specs.Traces.{Trace, stacked, kept, named, saved, referred, conversion_saved, to_convert, below_sides, cited, traced, trace_turn, trace_command, trace_from, trace_start, under_lets, Made}
use Rattle.mz_decompile_text.specs.Phrasable.{SeesLets, AllSeeLets}

-- ---- one proof

-- it has no let of its own and no gap, and mentions only the first k lets
abbrev mutual
  pub Plain : ℕ → Proof → Type 0
  Plain k (by_hyp i) = ⊤
  Plain k (by_name i) = i < k
  Plain k (by_citation T es ps) = AllPlain k ps
  Plain k (by_conv e c p) = GapsOnly ⊥ c × Plain k p
  Plain k (by_let p q) = ⊥
  Plain k (by_gap e) = ⊥

  pub AllPlain : ℕ → Proofs → Type 0
  AllPlain k no_proofs = ⊤
  AllPlain k (more_proofs p ps) = Plain k p × AllPlain k ps

mutual
  plain-more : (k m : ℕ) → k ≤ m → (p : Proof) → Plain k p → Plain m p
  plain-more k m le (by_hyp i) h = tt
  plain-more k m le (by_name i) h = omega (arith, h, le)
  plain-more k m le (by_citation T es ps) h = all-plain-more k m le ps h
  plain-more k m le (by_conv e c p) (a, h) = (a, plain-more k m le p h)
  plain-more k m le (by_let p q) h = h
  plain-more k m le (by_gap e) h = h

  all-plain-more : (k m : ℕ) → k ≤ m → (ps : Proofs) → AllPlain k ps → AllPlain m ps
  all-plain-more k m le no_proofs h = tt
  all-plain-more k m le (more_proofs p ps) (h, hs) = (plain-more k m le p h, all-plain-more k m le ps hs)

mutual
  plain-sees : (n k : ℕ) (p : Proof) → Plain k p → SeesLets n k p
  plain-sees n k (by_hyp i) h = tt
  plain-sees n k (by_name i) h = h
  plain-sees n k (by_citation T es ps) h = all-plain-see n k ps h
  plain-sees n k (by_conv e c p) (a, h) = plain-sees n k p h
  plain-sees n k (by_let p q) h = absurd h
  plain-sees n k (by_gap e) h = tt

  all-plain-see : (n k : ℕ) (ps : Proofs) → AllPlain k ps → AllSeeLets n k ps
  all-plain-see n k no_proofs h = tt
  all-plain-see n k (more_proofs p ps) (h, hs) = (plain-sees n k p h, all-plain-see n k ps hs)

mutual
  plain-leaves : (k : ℕ) (p : Proof) → Plain k p → LeavesOnly ⊥ p
  plain-leaves k (by_hyp i) h = tt
  plain-leaves k (by_name i) h = tt
  plain-leaves k (by_citation T es ps) h = all-plain-leave k ps h
  plain-leaves k (by_conv e c p) (a, h) = (a, plain-leaves k p h)
  plain-leaves k (by_let p q) h = absurd h
  plain-leaves k (by_gap e) h = h

  all-plain-leave : (k : ℕ) (ps : Proofs) → AllPlain k ps → AllLeaveOnly ⊥ ps
  all-plain-leave k no_proofs h = tt
  all-plain-leave k (more_proofs p ps) (h, hs) = (plain-leaves k p h, all-plain-leave k ps hs)

-- ---- proofs that have names, the first of them the k-th

abbrev LetsPlain : ℕ → List Proof → Type 0
LetsPlain k [] = ⊤
LetsPlain k (p ∷ ps) = Plain k p × LetsPlain (suc k) ps

lets-more : (k m : ℕ) (ps : List Proof) (p : Proof) → LetsPlain k ps → m ≡ k + length ps → Plain m p → LetsPlain k (ps ++ p ∷ [])
lets-more k m [] p h is plain = (plain-more m k (omega (arith, is)) p plain, tt)
lets-more k m (q ∷ ps) p (h, hs) is plain = (h, lets-more (suc k) m ps p hs (omega (arith, is)) plain)

under-sees : (n k m : ℕ) (ps : List Proof) (p : Proof) → LetsPlain k ps → m ≡ k + length ps → Plain m p → m ≤ n → SeesLets n k (under_lets ps p)
under-sees n k m [] p h is plain le = plain-sees n k p (plain-more m k (omega (arith, is)) p plain)
under-sees n k m (q ∷ ps) p (h, hs) is plain le =
    (omega (arith, is, le), plain-sees n k q h, under-sees n (suc k) m ps p hs (omega (arith, is)) plain le)

under-leaves : (k m : ℕ) (ps : List Proof) (p : Proof) → LetsPlain k ps → Plain m p → LeavesOnly ⊥ (under_lets ps p)
under-leaves k m [] p h plain = plain-leaves m p plain
under-leaves k m (q ∷ ps) p (h, hs) plain = (plain-leaves k q h, under-leaves (suc k) m ps p hs plain)

-- ---- parts

abbrev PartPlain : ℕ → Part → Type 0
PartPlain k expression = ⊤
PartPlain k (proved p) = Plain k p
PartPlain k owed = ⊤
PartPlain k (converted c) = GapsOnly ⊥ c
PartPlain k (for_proof e p) = Plain k p
PartPlain k for_turned = ⊤
PartPlain k (for_operand t cs n) = AllGapsOnly ⊥ cs
PartPlain k (for_unfolded t es ys) = ⊤
PartPlain k for_cut = ⊤

abbrev PartsPlain : ℕ → List Part → Type 0
PartsPlain k [] = ⊤
PartsPlain k (x ∷ xs) = PartPlain k x × PartsPlain k xs

part-more : (k m : ℕ) → k ≤ m → (x : Part) → PartPlain k x → PartPlain m x
part-more k m le (proved p) h = plain-more k m le p h
part-more k m le (for_proof e p) h = plain-more k m le p h
part-more k m le expression h = tt
part-more k m le owed h = tt
part-more k m le (converted c) h = h
part-more k m le for_turned h = tt
part-more k m le (for_operand t cs n) h = h
part-more k m le (for_unfolded t es ys) h = tt
part-more k m le for_cut h = tt

parts-more : (k m : ℕ) → k ≤ m → (xs : List Part) → PartsPlain k xs → PartsPlain m xs
parts-more k m le [] h = tt
parts-more k m le (x ∷ xs) (h, hs) = (part-more k m le x h, parts-more k m le xs hs)

parts-snoc : (k : ℕ) (xs : List Part) (x : Part) → PartsPlain k xs → PartPlain k x → PartsPlain k (xs ++ x ∷ [])
parts-snoc k [] x hs h = (h, tt)
parts-snoc k (y ∷ xs) x (g, hs) h = (g, parts-snoc k xs x hs h)

parts-drop : (k n : ℕ) (xs : List Part) → PartsPlain k xs → PartsPlain k (drop n xs)
parts-drop k zero xs h = h
parts-drop k (suc n) [] h = tt
parts-drop k (suc n) (x ∷ xs) (h, hs) = parts-drop k n xs hs

part-at : (k i : ℕ) (xs : List Part) (x : Part) → slice_get xs i ≡ Some x → PartsPlain k xs → PartPlain k x
part-at k i [] x is h = absurd cc
part-at k zero (y ∷ xs) x is (h, hs) = let same : y ≡ x = cc in subst (PartPlain k) same h
part-at k (suc i) (y ∷ xs) x is (h, hs) = part-at k i xs x is hs

-- ---- conversions that are paid

then-gapless : (cs : Conversions) (c : Conversion) → AllGapsOnly ⊥ cs → GapsOnly ⊥ c → AllGapsOnly ⊥ (then_conv cs c)
then-gapless no_convs c hs h = (h, tt)
then-gapless (more_convs d ds) c (g, hs) h = (g, then-gapless ds c hs h)

paid-plain : (k : ℕ) (c : Conversion) (xs : List Part) → GapsOnly ⊥ c → PartsPlain k xs → PartsPlain k (paid c xs)
paid-plain k c (for_proof e p ∷ xs) g (h, hs) = ((g, h), hs)
paid-plain k c (for_turned ∷ xs) g (h, hs) = paid-plain k (sym_conv c) xs g hs
paid-plain k c (for_operand t cs zero ∷ xs) g (h, hs) = paid-plain k (cong_conv t (then_conv cs c)) xs (then-gapless cs c h g) hs
paid-plain k c (for_operand t cs (suc n) ∷ xs) g (h, hs) = (tt, (then-gapless cs c h g, hs))
paid-plain k c (for_unfolded t es ys ∷ xs) g (h, hs) = paid-plain k (unfold_conv t es ys c) xs g hs
paid-plain k c (for_cut ∷ xs) g (h, hs) = (g, hs)
paid-plain k c [] g h = h
paid-plain k c (expression ∷ xs) g h = h
paid-plain k c (proved p ∷ xs) g h = h
paid-plain k c (owed ∷ xs) g h = h
paid-plain k c (converted d ∷ xs) g h = h

operands-plain : (k t n : ℕ) (xs : List Part) → PartsPlain k xs → PartsPlain k (by_operands t n xs)
operands-plain k t zero xs h = paid-plain k _ xs tt h
operands-plain k t (suc n) xs h = (tt, (tt, h))

above-plain : (k n : ℕ) (xs : List Part) (ps : Proofs) → PartsPlain k xs → AllPlain k ps → AllPlain k (proofs_above n xs ps)
above-plain k zero xs ps h g = g
above-plain k (suc n) (proved p ∷ xs) ps (h, hs) g = above-plain k n xs (more_proofs p ps) hs (h, g)
above-plain k (suc n) _ ps h g = g

convert-plain : (k : ℕ) (e : Tree) (xs : List Part) → PartsPlain k xs → PartsPlain k (to_convert e xs)
convert-plain k e (proved p ∷ xs) (h, hs) = (tt, (h, parts-drop k 1 xs hs))
convert-plain k e [] h = h
convert-plain k e (expression ∷ xs) h = h
convert-plain k e (owed ∷ xs) h = h
convert-plain k e (converted c ∷ xs) h = h
convert-plain k e (for_proof f p ∷ xs) h = h
convert-plain k e (for_turned ∷ xs) h = h
convert-plain k e (for_operand t cs n ∷ xs) h = h
convert-plain k e (for_unfolded t es ys ∷ xs) h = h
convert-plain k e (for_cut ∷ xs) h = h

sides-plain : (k : ℕ) (xs : List Part) → PartsPlain k xs → PartsPlain k (below_sides xs)
sides-plain k (expression ∷ xs) (h, hs) = parts-drop k 1 xs hs
sides-plain k [] h = parts-drop k 1 [] h
sides-plain k (proved p ∷ xs) (h, hs) = hs
sides-plain k (owed ∷ xs) (h, hs) = hs
sides-plain k (converted c ∷ xs) (h, hs) = hs
sides-plain k (for_proof f p ∷ xs) (h, hs) = hs
sides-plain k (for_turned ∷ xs) (h, hs) = hs
sides-plain k (for_operand t cs n ∷ xs) (h, hs) = hs
sides-plain k (for_unfolded t es ys ∷ xs) (h, hs) = hs
sides-plain k (for_cut ∷ xs) (h, hs) = hs

-- ---- a command

record IsFine (tr : Trace) : Type 0 where
  heap : PartsPlain (length tr.lets) tr.heap
  stack : PartsPlain (length tr.lets) tr.stack
  lets : LetsPlain 0 tr.lets

-- and it names one proof at the most
abbrev Steps : Trace → Trace → Type 0
Steps tr next = (IsFine tr → IsFine next) × (length next.lets ≤ suc (length tr.lets))

step-is : (tr made next : Trace) → taken made ≡ taken next → Steps tr made → Steps tr next
step-is tr made next e step = subst (Steps tr) (taken-is made next e) step

stack-step : (tr : Trace) (xs : List Part) → (IsFine tr → PartsPlain (length tr.lets) xs) → Steps tr (stacked tr xs)
stack-step tr xs f = (λ fine. record { heap = fine.heap; stack = f fine; lets = fine.lets }, omega arith)

kept-step : (tr : Trace) (xs : List Part) (x : Part) → (IsFine tr → PartsPlain (length tr.lets) xs) → (IsFine tr → PartPlain (length tr.lets) x) → Steps tr (kept (stacked tr xs) x)
kept-step tr xs x f g = (λ fine. record { heap = parts-snoc (length tr.lets) tr.heap x fine.heap (g fine); stack = f fine; lets = fine.lets }, omega arith)

one-longer : (ps : List Proof) (p : Proof) → length (ps ++ p ∷ []) ≡ suc (length ps)
one-longer ps p = omega (arith, length-append ps (p ∷ []))

named-step : (p : Proof) (xs : List Part) (tr : Trace) → (IsFine tr → Plain (length tr.lets) p) → (IsFine tr → PartsPlain (length tr.lets) xs) → Steps tr (named p xs tr)
named-step p xs tr f g =
    let many = one-longer tr.lets p in
    let more : length tr.lets ≤ length (tr.lets ++ p ∷ []) = omega (arith, many) in
    let less : length tr.lets < length (tr.lets ++ p ∷ []) = omega (arith, many) in (
      λ fine. record {
        heap = parts-snoc (length (tr.lets ++ p ∷ [])) tr.heap (proved (by_name (length tr.lets))) (parts-more (length tr.lets) (length (tr.lets ++ p ∷ [])) more tr.heap fine.heap) less;
        stack = (less, parts-more (length tr.lets) (length (tr.lets ++ p ∷ [])) more xs (g fine));
        lets = lets-more 0 (length tr.lets) tr.lets p fine.lets (omega arith) (f fine);
      },
      omega (arith, many),
    )

saved-step : (xs : List Part) (tr : Trace) → (IsFine tr → PartsPlain (length tr.lets) xs) → Steps tr (saved xs tr)
saved-step (proved p ∷ xs) tr f = named-step p xs tr (λ fine. (f fine).0) (λ fine. (f fine).1)
saved-step [] tr f = (λ fine. fine, omega arith)
saved-step (x ∷ xs) tr f = kept-step tr tr.stack x (λ fine. fine.stack) (λ fine. (f fine).0)

referred-step : (x : Part) (tr : Trace) → (IsFine tr → PartPlain (length tr.lets) x) → Steps tr (referred x tr)
referred-step (converted c) tr f = stack-step tr (paid c (drop 1 tr.stack)) (λ fine. paid-plain (length tr.lets) c (drop 1 tr.stack) (f fine) (parts-drop (length tr.lets) 1 tr.stack fine.stack))
referred-step x tr f = stack-step tr (x ∷ tr.stack) (λ fine. (f fine, fine.stack))

conversion-step : (xs : List Part) (tr : Trace) → (IsFine tr → PartsPlain (length tr.lets) xs) → Steps tr (conversion_saved xs tr)
conversion-step (converted c ∷ xs) tr f = kept-step tr (paid c xs) (converted c) (λ fine. paid-plain (length tr.lets) c xs (f fine).0 (f fine).1) (λ fine. (f fine).0)
conversion-step _ tr f = (λ fine. fine, omega arith)

module _ (tables : RowsBefore) where
  cited-plain : (t : ℕ) (st : State Tree) (tr : Trace) (p : Proof × List Part) → cited tables t st tr ≡ Ok p → IsFine tr → Plain (length tr.lets) p.0 × PartsPlain (length tr.lets) p.1
  cited-plain t st tr p e fine =
      from_bind (citation strict tables t st) _ p e λ m is e1.
      from_bind (matched_by strict tables st.ctx m) _ p e1 λ u ran e2.
      let below : List Part = drop (suc (length m.operands)) tr.stack in
      let count : ℕ = length m.items - length u.items in
      let left : PartsPlain (length tr.lets) below = parts-drop (length tr.lets) (suc (length m.operands)) tr.stack fine.stack in
      subst (λ (q : Proof × List Part). Plain (length tr.lets) q.0 × PartsPlain (length tr.lets) q.1) (taken-is _ p e2)
      (above-plain (length tr.lets) count below no_proofs left tt, parts-drop (length tr.lets) count below left)

  traced-step : (c : ProofCode) (n : ℕ) (st : State Tree) (tr next : Trace) → traced tables c n st tr ≡ Ok next → Steps tr next
  unfolding traced
  traced-step code.Term t st tr next e =
      from_want (slice_get tables.terms t) k.TermIndex _ next e λ row at e1.
      step-is tr _ next e1 (stack-step tr _ λ fine. (tt, parts-drop (length tr.lets) _ tr.stack fine.stack))
  traced-step code.TermSave t st tr next e =
      from_want (slice_get tables.terms t) k.TermIndex _ next e λ row at e1.
      step-is tr _ next e1 (kept-step tr _ expression (λ fine. (tt, parts-drop (length tr.lets) _ tr.stack fine.stack)) (λ fine. tt))
  traced-step code.Ref i st tr next e =
      from_want (slice_get tr.heap i) k.HeapIndex _ next e λ x at e1.
      step-is tr _ next e1 (referred-step x tr λ fine. part-at (length tr.lets) i tr.heap x at fine.heap)
  traced-step code.ConvRef i st tr next e =
      from_want (slice_get tr.heap i) k.HeapIndex _ next e λ x at e1.
      step-is tr _ next e1 (referred-step x tr λ fine. part-at (length tr.lets) i tr.heap x at fine.heap)
  traced-step code.Dummy s st tr next e = step-is tr _ next e (kept-step tr (expression ∷ tr.stack) expression (λ fine. (tt, fine.stack)) (λ fine. tt))
  traced-step code.Thm t st tr next e =
      from_bind (cited tables t st tr) _ next e λ p is e1.
      step-is tr _ next e1 (stack-step tr (proved p.0 ∷ p.1) λ fine. cited-plain t st tr p is fine)
  traced-step code.ThmSave t st tr next e =
      from_bind (cited tables t st tr) _ next e λ p is e1.
      step-is tr _ next e1 (named-step p.0 p.1 tr (λ fine. (cited-plain t st tr p is fine).0) (λ fine. (cited-plain t st tr p is fine).1))
  traced-step code.Hyp n st tr next e = step-is tr _ next e (kept-step tr (drop 1 tr.stack) _ (λ fine. parts-drop (length tr.lets) 1 tr.stack fine.stack) (λ fine. tt))
  traced-step code.Conv n st tr next e =
      from_bind (pop_proof st.stack) _ next e λ p popped e1.
      from_bind (pop_expr p.1) _ next e1 λ l popped-l e2.
      step-is tr _ next e2 (stack-step tr _ λ fine. convert-plain (length tr.lets) l.0 tr.stack fine.stack)
  traced-step code.Refl n st tr next e =
      from_bind (pop_obligation st.stack) _ next e λ o popped e1.
      step-is tr _ next e1 (stack-step tr _ λ fine. paid-plain (length tr.lets) (refl_conv o.0) (drop 1 tr.stack) tt (parts-drop (length tr.lets) 1 tr.stack fine.stack))
  traced-step code.Symm n st tr next e = step-is tr _ next e (stack-step tr _ λ fine. (tt, (tt, parts-drop (length tr.lets) 1 tr.stack fine.stack)))
  traced-step code.Cong n st tr next e =
      from_bind (pop_obligation st.stack) _ next e λ o popped e1.
      from_want (tree_parts o.0) k.Cong _ next e1 λ es is e2.
      step-is tr _ next e2 (stack-step tr _ λ fine. operands-plain (length tr.lets) es.0 (length es.1) (drop 1 tr.stack) (parts-drop (length tr.lets) 1 tr.stack fine.stack))
  traced-step code.Unfold n st tr next e =
      from_bind (pop_expr st.stack) _ next e λ x popped e1.
      from_bind (pop_sides strict x.1) _ next e1 λ o popped-o e2.
      from_want (tree_parts o.0) k.Unfold _ next e2 λ es is e3.
      from_bind (unfolding_of strict tables st) _ next e3 λ m is-m e4.
      from_bind (matched_by strict tables st.ctx m.0) _ next e4 λ u ran e5.
      step-is tr _ next e5 (stack-step tr _ λ fine. (tt, (tt, sides-plain (length tr.lets) (drop 1 tr.stack) (parts-drop (length tr.lets) 1 tr.stack fine.stack))))
  traced-step code.ConvCut n st tr next e = step-is tr _ next e (stack-step tr _ λ fine. (tt, (tt, parts-drop (length tr.lets) 1 tr.stack fine.stack)))
  traced-step code.ConvSave n st tr next e = step-is tr _ next e (conversion-step tr.stack tr λ fine. fine.stack)
  traced-step code.Save n st tr next e = step-is tr _ next e (saved-step tr.stack tr λ fine. fine.stack)
  traced-step code.Sorry n st tr next e = absurd cc

-- ---- a whole body

module _ (tables : RowsBefore) (h : Heading) where
  -- a turn that ends leaves the trace, one that goes on is a command's
  abbrev Turns : Trace → Turn (State Tree × Trace) → Type 0
  Turns tr (over s) = s.1 ≡ tr
  Turns tr (goes_on len s) = Steps tr s.1

  turn-steps : (len : ℕ) (s : State Tree × Trace) (o : Option BodyCommand) (t : Turn (State Tree × Trace)) → trace_turn tables h len s o ≡ Ok t → Turns s.1 t
  turn-steps len s None t e = absurd cc
  turn-steps len s (Some ends) t e = let same : over s ≡ t = cc in subst (Turns s.1) same refl
  turn-steps len s (Some (proves c value)) t e =
      from_bind (proof_step strict tables 0 c value s.0) _ t e λ st row e1.
      from_bind (traced tables c value s.0 s.1) _ t e1 λ tr is e2.
      let same : goes_on len (st, tr) ≡ t = cc in subst (Turns s.1) same (traced-step tables c value s.0 s.1 tr is)

  command-steps : (s : State Tree × Trace) (r : Result Cmd CmdFault) (t : Turn (State Tree × Trace)) → trace_command tables h s r ≡ Ok t → Turns s.1 t
  command-steps s (Err f) t e = absurd cc
  command-steps s (Ok c) t e = turn-steps c.len s (body_command strict h.kind c.code c.value) t e

  trace-fine : (n : ℕ) (bytes : List ℕ) (s last : State Tree × Trace) → trace_from tables h n bytes s ≡ Ok last → IsFine s.1 → IsFine last.1 × (length last.1.lets ≤ length s.1.lets + n)
  unfolding trace_from
  trace-fine zero bytes s last e fine = absurd cc
  trace-fine (suc n) bytes s last e fine =
      from_follow (trace_command tables h s (first_command bytes)) _ last e
      (λ t turn same.
      let there : t.1 ≡ s.1 = command-steps s (first_command bytes) (over t) turn in
      let is : s.1 ≡ last.1 = sym there ∙ ap (λ (z : State Tree × Trace). z.1) same in
      subst (λ (z : Trace). IsFine z × (length z.lets ≤ length s.1.lets + suc n)) is (fine, omega arith))
      (λ len t turn rest.
      let (keeps, few) = command-steps s (first_command bytes) (goes_on len t) turn in
      let (done, many) = trace-fine n (drop len bytes) t last rest (keeps fine) in
      (done, omega (arith, few, many)))

  exprs-plain : (bs : List Binder) → PartsPlain 0 (map (λ b. expression) bs)
  exprs-plain [] = tt
  exprs-plain (b ∷ bs) = (tt, exprs-plain bs)

  -- no more lets than bytes; they see those before them, and none leaves a gap
  pub made-sees : (bytes : List ℕ) (dummies : List Binder) (lets : List Proof) (root : Proof) → Made tables h bytes dummies lets root
      → (n : ℕ) → length bytes ≤ n → SeesLets n 0 (under_lets lets root) × LeavesOnly ⊥ (under_lets lets root)
  made-sees bytes dummies lets root made n le =
      let start : IsFine (trace_start h).1 = record { heap = exprs-plain h.params; stack = tt; lets = tt } in
      let (fine, few) = trace-fine (length bytes) bytes (trace_start h) made.last made.runs start in
      let plain : Plain (length made.last.1.lets) root = (subst (PartsPlain (length made.last.1.lets)) made.left fine.stack).0 in
      let m = length made.last.1.lets in
      let sees = under-sees n 0 m made.last.1.lets root fine.lets (omega arith) plain (omega (arith, few, le)) in
      subst (λ (ps : List Proof). SeesLets n 0 (under_lets ps root) × LeavesOnly ⊥ (under_lets ps root)) made.names (sees, under-leaves 0 m made.last.1.lets root fine.lets plain)

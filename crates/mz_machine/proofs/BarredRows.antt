-- A row above a barrier: what lies below is left, and asked of but for how much it is.
use Rattle.std.proofs.Common.{◌≡◌, ◌≤◌, ℕ, suc, Bool, true, false, List, [], ◌∷◌, ◌++◌, length, Option, Some, None, Result, Ok, Err, slice_get, refl, ap, arith}
use Rattle.std.specs.Prelude.{nat_le, map, not, ◌&&◌, if◌then◌else◌, ◌==◌, nat_lt}
use Rattle.mz_cmd.specs.declared.rule.K.{K}
use Rattle.mz_cmd.specs.declared.rule.K.TheVariants as k
use Rattle.mz_cmd.specs.declared.code.ProofCode.{ProofCode}
use Rattle.mz_cmd.specs.declared.code.ProofCode.TheVariants as code
use Rattle.mz_logic_theory.specs.Legality.{sort_of}
use Rattle.mz_machine_theory.specs.Steps.{◌>>=◌, ◌>>◌, need, want, rule_of}
use Rattle.mz_machine_theory.specs.Profile.{Profile, Item, expr, proof, obligation, conversion}
use Rattle.mz_machine_theory.specs.Spells.{SpelledTerm, SpelledThm, dummy_of}
use Rattle.mz_machine_theory.specs.UnifyMachine.{in_citation, in_definition, Matching, UnifyState, unify}
use Rattle.mz_machine_theory.specs.MachineState.{RowsBefore, State, signatures_in}
use Rattle.mz_machine_theory.specs.Premises.{pop_expr, pop_operands, pop_sides, is_conversion, is_obligation, may_be_dummy_sort, is_provable_sort, bound_count, operands_fit, are_disjoint}
use Rattle.mz_machine_theory.specs.ProofMachine.{built, citation, matched_by, cited, referred, sides, same_term, stream_of, unfolding_of, gapped, has_provable_sort, proof_step, saved}
use Rattle.mz_machine.specs.OpenEquations.{IsBarrier, EndsBarred, IsBarred, many_of_term, many_of_thm, asked_by}
use Rattle.mz_machine.proofs.Barred.{still-barred, Above, made, needed, fitted, wanted, enough, top-obligation, top-conversion, top-expr, top-proof, top-operands, bound}
use Rattle.mz_machine.proofs.UnifyBelow.{IsHeld, matched_over, IsOver, unify-over}

-- the state with another stack
abbrev pub stacked : {T : Type 0} → State T → List (Item T) → State T
stacked st xs = record st { stack = xs }

-- a state over items that lie below
abbrev pub lay_state : {T : Type 0} → List (Item T) → State T → State T
lay_state zs s = stacked s (s.stack ++ zs)

abbrev pub IsBarredState : {T : Type 0} → State T → Type 0
IsBarredState s = IsBarred s.stack

-- the same of a value beside the items that are left
abbrev pub lay_left : {T V : Type 0} → List (Item T) → V × List (Item T) → V × List (Item T)
lay_left zs p = (p.0, p.1 ++ zs)

abbrev pub IsHeldLeft : {T V : Type 0} → V × List (Item T) → Type 0
IsHeldLeft p = IsHeld p.1

abbrev pub lay_match : {T : Type 0} → List (Item T) → Matching T → Matching T
lay_match zs m = matched_over zs m

abbrev pub IsHeldMatch : {T : Type 0} → Matching T → Type 0
IsHeldMatch m = IsHeld m.items × (m.mode ≡ in_citation)

abbrev pub lay_unfolding : {T : Type 0} → List (Item T) → Matching T × T × List (Item T) → Matching T × T × List (Item T)
lay_unfolding zs u = (u.0, u.1, u.2 ++ zs)

abbrev pub IsBarredUnfolding : {T : Type 0} → Matching T × T × List (Item T) → Type 0
IsBarredUnfolding u = IsBarred u.2

-- the sides of an obligation, taken
abbrev took : {T : Type 0} → T → T → List (Item T) → Result (T × T × List (Item T)) K
took l r xs = Ok (l, r, xs)

abbrev no_sides : {T : Type 0} → K → Result (T × T × List (Item T)) K
no_sides d = Err d

pub sides-over : {T : Type 0} (es fs : List T) (xs zs : List (Item T)) → sides es fs (xs ++ zs) ≡ sides es fs xs ++ zs
sides-over [] fs xs zs = refl
sides-over (e ∷ es) [] xs zs = refl
sides-over (e ∷ es) (f ∷ fs) xs zs = ap (λ ys. obligation e f ∷ ys) (sides-over es fs xs zs)

pub on-barrier : {T : Type 0} (x : Item T) (xs : List (Item T)) → IsBarrier x → IsBarred xs → EndsBarred x xs
on-barrier x [] is b = is
on-barrier x (y ∷ ys) is b = b

on-held : {T : Type 0} (x : Item T) (xs : List (Item T)) → IsHeld xs → EndsBarred x xs
on-held x [] held = absurd held
on-held x (y ∷ ys) held = held

sides-barred : {T : Type 0} (es fs : List T) (xs : List (Item T)) → IsBarred xs → IsBarred (sides es fs xs)
sides-barred [] fs xs b = b
sides-barred (e ∷ es) [] xs b = b
sides-barred (e ∷ es) (f ∷ fs) xs b = on-barrier (obligation e f) (sides es fs xs) tt (sides-barred es fs xs b)

module _ (P : Profile) (tables : RowsBefore) (st : State P.T) (x : Item P.T) (xs : List (Item P.T)) (barred : EndsBarred x xs) where
  -- the state with these items below
  abbrev pub on : List (Item P.T) → State P.T
  on zs = stacked st (x ∷ xs ++ zs)

  -- there are so many items
  abbrev pub HasMany : ℕ → List (Item P.T) → Type 0
  HasMany n zs = n ≤ length (x ∷ xs ++ zs)

  -- ---- applications and citations

  built-above : (at t : ℕ) → Above (HasMany (many_of_term (slice_get tables.terms t))) lay_left IsHeldLeft (λ zs. built P tables at t (on zs))
  unfolding built
  built-above at t = go (slice_get tables.terms t)
    where
      go : (o : Option SpelledTerm) → Above (HasMany (many_of_term o)) lay_left IsHeldLeft
          (λ zs. want o k.TermIndex >>= λ row. (pop_operands (length row.signature.params) (x ∷ xs ++ zs) >>= λ es. (operands_fit (signatures_in tables) st.ctx (map P.tree es.0) row.signature.params >> Ok (P.make at t es.0, es.1))))
      go None = (Err k.TermIndex, tt, λ zs fits. refl)
      go (Some row) =
          top-operands (HasMany (length row.signature.params)) lay_left IsHeldLeft (length row.signature.params) x xs barred (λ zs fits. fits)
          (λ es ys. operands_fit (signatures_in tables) st.ctx (map P.tree es) row.signature.params >> Ok (P.make at t es, ys)) λ es y ys b.
          fitted (HasMany (length row.signature.params)) lay_left IsHeldLeft (operands_fit (signatures_in tables) st.ctx (map P.tree es) row.signature.params) (λ zs. Ok (P.make at t es, y ∷ ys ++ zs))
          (made (HasMany (length row.signature.params)) lay_left IsHeldLeft (P.make at t es, y ∷ ys) _ b λ zs. refl)

  -- what is asked of the operands of a citation
  abbrev cites : SpelledThm → P.T → List P.T → List (Item P.T) → Result (Matching P.T) K
  cites row e es ys =
      operands_fit (signatures_in tables) st.ctx (map P.tree es) row.params
      >> (need (are_disjoint st.ctx (map P.tree es) row.params) k.Disjoint >> Ok (record { mode = in_citation; stream = row.stream; operands = es; target = e; items = ys }))

  pub citation-above : (t : ℕ) → Above (HasMany (many_of_thm (slice_get tables.thms t))) lay_match IsHeldMatch (λ zs. citation P tables t (on zs))
  unfolding citation
  citation-above t = go (slice_get tables.thms t)
    where
      go : (o : Option SpelledThm) → Above (HasMany (many_of_thm o)) lay_match IsHeldMatch
          (λ zs. want o k.TheoremIndex >>= λ row. (need (nat_le (suc (length row.params)) (length (x ∷ xs ++ zs))) k.Underflow >>
          (pop_expr (x ∷ xs ++ zs) >>= λ e. (pop_operands (length row.params) e.1 >>= λ es. cites row e.0 es.0 es.1))))
      go None = (Err k.TheoremIndex, tt, λ zs fits. refl)
      go (Some row) =
          let n : ℕ = length row.params in
          enough (HasMany (suc n)) lay_match IsHeldMatch (suc n) (λ zs. length (x ∷ xs ++ zs)) k.Underflow _ (λ zs fits. fits)
          (top-expr (HasMany (suc n)) lay_match IsHeldMatch x xs barred (λ e ys. pop_operands n ys >>= λ es. cites row e es.0 es.1) λ e y ys b is.
          top-operands (HasMany (suc n)) lay_match IsHeldMatch n y ys b (λ zs fits. omega (arith, fits, ap (λ (ws : List (Item P.T)). length (ws ++ zs)) is)) (λ es ws. cites row e es ws) λ es z ws c.
          fitted (HasMany (suc n)) lay_match IsHeldMatch (operands_fit (signatures_in tables) st.ctx (map P.tree es) row.params) _
          (needed (HasMany (suc n)) lay_match IsHeldMatch (are_disjoint st.ctx (map P.tree es) row.params) k.Disjoint _
          (made (HasMany (suc n)) lay_match IsHeldMatch (record { mode = in_citation; stream = row.stream; operands = es; target = e; items = z ∷ ws }) _ (c, refl) λ zs. refl)))

  run-above : (Fits : List (Item P.T) → Type 0) (m : Matching P.T) → IsHeldMatch m → Above Fits lay_left IsHeldLeft (λ zs. matched_by P tables st.ctx (matched_over zs m) >>= λ u. Ok (m.target, u.items))
  run-above Fits m held = go (unify P (signatures_in tables) st.ctx m) λ zs. unify-over P (signatures_in tables) st.ctx zs m held.1 held.0
    where
      go : (q : Result (UnifyState P.T) (ℕ × K)) → ((zs : List (Item P.T)) → IsOver P (signatures_in tables) st.ctx zs (unify P (signatures_in tables) st.ctx (matched_over zs m)) q)
          → Above Fits lay_left IsHeldLeft (λ zs. matched_by P tables st.ctx (matched_over zs m) >>= λ u. Ok (m.target, u.items))
      go (Ok u) is = (Ok (m.target, u.items), (is []).1, λ zs fits. ap (λ (r : Result (UnifyState P.T) (ℕ × K)). rule_of r >>= λ v. Ok (m.target, v.items)) (is zs).0)
      go (Err f) is = (Err f.1, tt, λ zs fits. ap (λ (r : Result (UnifyState P.T) (ℕ × K)). rule_of r >>= λ v. Ok (m.target, v.items)) (is zs).0)

  cited-above : (t : ℕ) → Above (HasMany (many_of_thm (slice_get tables.thms t))) lay_left IsHeldLeft (λ zs. cited P tables t (on zs))
  unfolding cited
  cited-above t =
      bound (HasMany (many_of_thm (slice_get tables.thms t))) lay_match IsHeldMatch lay_left IsHeldLeft (λ zs. citation P tables t (on zs)) (λ m. matched_by P tables st.ctx m >>= λ u. Ok (m.target, u.items)) (citation-above t)
      (λ m held. run-above (HasMany (many_of_thm (slice_get tables.thms t))) m held)

  -- ---- unfoldings

  module _ (Fits : List (Item P.T) → Type 0) where
    sides-above : {S : Type 0} (lay : List (Item P.T) → S → S) (Good : S → Type 0) (y : Item P.T) (ys : List (Item P.T)) → EndsBarred y ys → (f : P.T → P.T → List (Item P.T) → Result S K)
        → ((l r : P.T) (ws : List (Item P.T)) → IsBarred ws → Above Fits lay Good (λ zs. f l r (ws ++ zs))) → Above Fits lay Good (λ zs. pop_sides P (y ∷ ys ++ zs) >>= λ o. f o.0 o.1 o.2)
    sides-above lay Good (expr m) [] b f a = absurd b
    sides-above {S} lay Good (expr m) (y ∷ ys) b f a = go y (still-barred y ys b)
      where
        same : (v : Bool) (l r : P.T) → IsBarred ys → Above Fits lay Good (λ zs. (need v k.Unfold >> took l r (ys ++ zs)) >>= λ o. f o.0 o.1 o.2)
        same true l r c = a l r ys c
        same false l r c = (Err k.Unfold, tt, λ zs fits. refl)

        go : (w : Item P.T) → IsBarred ys → Above Fits lay Good (λ zs. pop_sides P (expr m ∷ w ∷ ys ++ zs) >>= λ o. f o.0 o.1 o.2)
        go (expr e) c = (Err k.Kind, tt, λ zs fits. refl)
        go (proof e) c = (Err k.Kind, tt, λ zs fits. refl)
        go (obligation l r) c = same (P.same m l) l r c
        go (conversion l r) c = (Err k.Kind, tt, λ zs fits. refl)
    sides-above {S} lay Good (obligation l r) ys b f a = go P.portable (still-barred (obligation l r) ys b)
      where
        go : (v : Bool) → IsBarred ys → Above Fits lay Good (λ zs. (if v then no_sides k.Kind else took l r (ys ++ zs)) >>= λ o. f o.0 o.1 o.2)
        go true c = (Err k.Kind, tt, λ zs fits. refl)
        go false c = a l r ys c
    sides-above lay Good (proof e) ys b f a = (Err k.Kind, tt, λ zs fits. refl)
    sides-above lay Good (conversion l r) ys b f a = (Err k.Kind, tt, λ zs fits. refl)

    pub unfolding-above : Above Fits lay_unfolding IsBarredUnfolding (λ zs. unfolding_of P tables (on zs))
    unfolding unfolding_of
    unfolding-above =
        top-expr Fits lay_unfolding IsBarredUnfolding x xs barred
        (λ e ys. pop_sides P ys >>= λ o. (want (P.parts o.0) k.Unfold >>= λ p. (want (stream_of (slice_get tables.terms p.0)) k.Unfold >>= λ stream. Ok (record { mode = in_definition; stream = stream; operands = p.1; target = e; items = [] }, o.1, o.2))))
        λ e y ys b is.
        sides-above lay_unfolding IsBarredUnfolding y ys b
        (λ l r ws. want (P.parts l) k.Unfold >>= λ p. (want (stream_of (slice_get tables.terms p.0)) k.Unfold >>= λ stream. Ok (record { mode = in_definition; stream = stream; operands = p.1; target = e; items = [] }, r, ws)))
        λ l r ws c.
        wanted Fits lay_unfolding IsBarredUnfolding (P.parts l) k.Unfold
        (λ p zs. want (stream_of (slice_get tables.terms p.0)) k.Unfold >>= λ stream. Ok (record { mode = in_definition; stream = stream; operands = p.1; target = e; items = [] }, r, ws ++ zs)) λ p at.
        wanted Fits lay_unfolding IsBarredUnfolding (stream_of (slice_get tables.terms p.0)) k.Unfold (λ stream zs. Ok (record { mode = in_definition; stream = stream; operands = p.1; target = e; items = [] }, r, ws ++ zs)) λ stream there.
        made Fits lay_unfolding IsBarredUnfolding (record { mode = in_definition; stream = stream; operands = p.1; target = e; items = [] }, r, ws) _ c λ zs. refl

    unfold-above : (m : Matching P.T × P.T × List (Item P.T)) → IsBarredUnfolding m
        → Above Fits lay_state IsBarredState (λ zs. matched_by P tables st.ctx m.0 >>= λ u. Ok (stacked st (obligation m.0.target m.1 ∷ m.2 ++ zs)))
    unfold-above m b = go (matched_by P tables st.ctx m.0)
      where
        go : (r : Result (UnifyState P.T) K) → Above Fits lay_state IsBarredState (λ zs. r >>= λ u. Ok (stacked st (obligation m.0.target m.1 ∷ m.2 ++ zs)))
        go (Ok u) = (Ok (stacked st (obligation m.0.target m.1 ∷ m.2)), on-barrier (obligation m.0.target m.1) m.2 tt b, λ zs fits. refl)
        go (Err d) = (Err d, tt, λ zs fits. refl)

    -- ---- an item of the heap

    referred-above : (y : Item P.T) → Above Fits lay_state IsBarredState (λ zs. referred P y (on zs))
    referred-above (expr e) = made Fits lay_state IsBarredState (stacked st (expr e ∷ x ∷ xs)) _ barred λ zs. refl
    referred-above (proof e) = made Fits lay_state IsBarredState (stacked st (proof e ∷ x ∷ xs)) _ barred λ zs. refl
    referred-above (obligation l r) = made Fits lay_state IsBarredState (stacked st (obligation l r ∷ x ∷ xs)) _ barred λ zs. refl
    referred-above (conversion l r) =
        top-obligation Fits lay_state IsBarredState x xs barred (λ a b ys. need (P.same l a && P.same r b) k.ConversionReference >> Ok (stacked st ys)) λ a b c.
        needed Fits lay_state IsBarredState (P.same l a && P.same r b) k.ConversionReference _ (made Fits lay_state IsBarredState (stacked st xs) _ c λ zs. refl)

    -- ---- a gap

    gap-above : Above Fits lay_state IsBarredState (λ zs. gapped P tables (on zs) x (xs ++ zs))
    gap-above = go x barred
      where
        go : (y : Item P.T) → EndsBarred y xs → Above Fits lay_state IsBarredState (λ zs. gapped P tables (on zs) y (xs ++ zs))
        go (expr e) b = needed Fits lay_state IsBarredState (is_provable_sort (slice_get tables.sorts (sort_of (signatures_in tables) st.ctx (P.tree e)))) k.NotProvable _ (claimed xs b)
          where
            claimed : (ys : List (Item P.T)) → EndsBarred (expr e) ys → Above Fits lay_state IsBarredState (λ zs. Ok (stacked st (proof e ∷ ys ++ zs)))
            claimed [] c = absurd c
            claimed (w ∷ ws) c = made Fits lay_state IsBarredState (stacked st (proof e ∷ w ∷ ws)) _ c λ zs. refl
        go (proof e) b = (Err k.Kind, tt, λ zs fits. refl)
        go (obligation l r) b =
            needed Fits lay_state IsBarredState (sort_of (signatures_in tables) st.ctx (P.tree l) == sort_of (signatures_in tables) st.ctx (P.tree r)) k.Sorry _
            (made Fits lay_state IsBarredState (stacked st xs) _ (still-barred (obligation l r) xs b) λ zs. refl)
        go (conversion l r) b = (Err k.Kind, tt, λ zs fits. refl)

  -- ---- the rows

  pub row-above : (at : ℕ) (c : ProofCode) (n : ℕ) → Above (HasMany (asked_by tables c n)) lay_state IsBarredState (λ zs. proof_step P tables at c n (on zs))
  unfolding proof_step
  row-above at code.Term n =
      bound (HasMany (many_of_term (slice_get tables.terms n))) lay_left IsHeldLeft lay_state IsBarredState (λ zs. built P tables at n (on zs)) (λ e. Ok (stacked st (expr e.0 ∷ e.1))) (built-above at n)
      λ e held. (Ok (stacked st (expr e.0 ∷ e.1)), on-held (expr e.0) e.1 held, λ zs fits. refl)
  row-above at code.TermSave n =
      bound (HasMany (many_of_term (slice_get tables.terms n))) lay_left IsHeldLeft lay_state IsBarredState (λ zs. built P tables at n (on zs)) (λ e. Ok (saved (expr e.0) (stacked st (expr e.0 ∷ e.1)))) (built-above at n)
      λ e held. (Ok (saved (expr e.0) (stacked st (expr e.0 ∷ e.1))), on-held (expr e.0) e.1 held, λ zs fits. refl)
  row-above at code.Ref n = wanted (HasMany 0) lay_state IsBarredState (slice_get st.heap n) k.HeapIndex (λ y zs. referred P y (on zs)) λ y there. referred-above (HasMany 0) y
  row-above at code.ConvRef n =
      wanted (HasMany 0) lay_state IsBarredState (slice_get st.heap n) k.HeapIndex (λ y zs. need (is_conversion y) k.Kind >> referred P y (on zs)) λ y there.
      needed (HasMany 0) lay_state IsBarredState (is_conversion y) k.Kind (λ zs. referred P y (on zs)) (referred-above (HasMany 0) y)
  row-above at code.Dummy n =
      needed (HasMany 0) lay_state IsBarredState (may_be_dummy_sort (slice_get tables.sorts n)) k.DummySort _
      (needed (HasMany 0) lay_state IsBarredState (nat_lt (bound_count st.ctx) 55) k.DummyCount _
      (made (HasMany 0) lay_state IsBarredState (record {
        ctx = st.ctx ++ dummy_of n ∷ [];
        heap = st.heap ++ expr (P.variable (length st.ctx)) ∷ [];
        stack = expr (P.variable (length st.ctx)) ∷ x ∷ xs;
        hyps = st.hyps;
      }) _ barred λ zs. refl))
  row-above at code.Thm n =
      bound (HasMany (many_of_thm (slice_get tables.thms n))) lay_left IsHeldLeft lay_state IsBarredState (λ zs. cited P tables n (on zs)) (λ e. Ok (stacked st (proof e.0 ∷ e.1))) (cited-above n)
      λ e held. (Ok (stacked st (proof e.0 ∷ e.1)), on-held (proof e.0) e.1 held, λ zs fits. refl)
  row-above at code.ThmSave n =
      bound (HasMany (many_of_thm (slice_get tables.thms n))) lay_left IsHeldLeft lay_state IsBarredState (λ zs. cited P tables n (on zs)) (λ e. Ok (saved (proof e.0) (stacked st (proof e.0 ∷ e.1)))) (cited-above n)
      λ e held. (Ok (saved (proof e.0) (stacked st (proof e.0 ∷ e.1))), on-held (proof e.0) e.1 held, λ zs fits. refl)
  row-above at code.Hyp n =
      top-expr (HasMany 0) lay_state IsBarredState x xs barred (λ e ys. need (has_provable_sort P tables st.ctx e) k.NotProvable >> Ok (record st { heap = st.heap ++ proof e ∷ []; stack = ys; hyps = st.hyps ++ e ∷ [] })) λ e y ys b is.
      needed (HasMany 0) lay_state IsBarredState (has_provable_sort P tables st.ctx e) k.NotProvable _
      (made (HasMany 0) lay_state IsBarredState (record st { heap = st.heap ++ proof e ∷ []; stack = y ∷ ys; hyps = st.hyps ++ e ∷ [] }) _ b λ zs. refl)
  row-above at code.Conv n =
      top-proof (HasMany 0) lay_state IsBarredState x xs barred (λ p ys. pop_expr ys >>= λ e. Ok (stacked st (obligation e.0 p ∷ proof e.0 ∷ e.1))) λ p y ys b.
      top-expr (HasMany 0) lay_state IsBarredState y ys b (λ e ws. Ok (stacked st (obligation e p ∷ proof e ∷ ws))) λ e z ws c is.
      made (HasMany 0) lay_state IsBarredState (stacked st (obligation e p ∷ proof e ∷ z ∷ ws)) _ c λ zs. refl
  row-above at code.Refl n =
      top-obligation (HasMany 0) lay_state IsBarredState x xs barred (λ l r ys. need (P.same l r) k.Refl >> Ok (stacked st ys)) λ l r b.
      needed (HasMany 0) lay_state IsBarredState (P.same l r) k.Refl _ (made (HasMany 0) lay_state IsBarredState (stacked st xs) _ b λ zs. refl)
  row-above at code.Symm n =
      top-obligation (HasMany 0) lay_state IsBarredState x xs barred (λ l r ys. Ok (stacked st (obligation r l ∷ ys))) λ l r b.
      made (HasMany 0) lay_state IsBarredState (stacked st (obligation r l ∷ xs)) _ (on-barrier (obligation r l) xs tt b) λ zs. refl
  row-above at code.Cong n =
      top-obligation (HasMany 0) lay_state IsBarredState x xs barred (λ l r ys. want (same_term (P.parts l) (P.parts r)) k.Cong >>= λ es. Ok (stacked st (sides es.0 es.1 ys))) λ l r b.
      wanted (HasMany 0) lay_state IsBarredState (same_term (P.parts l) (P.parts r)) k.Cong (λ es zs. Ok (stacked st (sides es.0 es.1 (xs ++ zs)))) λ es there.
      made (HasMany 0) lay_state IsBarredState (stacked st (sides es.0 es.1 xs)) _ (sides-barred es.0 es.1 xs b) λ zs. ap (λ ys. Ok (stacked st ys)) (sides-over es.0 es.1 xs zs)
  row-above at code.Unfold n =
      bound (HasMany 0) lay_unfolding IsBarredUnfolding lay_state IsBarredState (λ zs. unfolding_of P tables (on zs)) (λ m. matched_by P tables st.ctx m.0 >>= λ u. Ok (stacked st (obligation m.0.target m.1 ∷ m.2))) (unfolding-above (HasMany 0))
      λ m b. unfold-above (HasMany 0) m b
  row-above at code.ConvCut n =
      top-obligation (HasMany 0) lay_state IsBarredState x xs barred (λ l r ys. Ok (stacked st (obligation l r ∷ conversion l r ∷ ys))) λ l r b.
      made (HasMany 0) lay_state IsBarredState (stacked st (obligation l r ∷ conversion l r ∷ xs)) _ (on-barrier (conversion l r) xs tt b) λ zs. refl
  row-above at code.ConvSave n =
      top-conversion (HasMany 0) lay_state IsBarredState x xs barred (λ l r ys. Ok (saved (conversion l r) (stacked st ys))) λ l r b.
      made (HasMany 0) lay_state IsBarredState (saved (conversion l r) (stacked st xs)) _ b λ zs. refl
  row-above at code.Save n = needed (HasMany 0) lay_state IsBarredState (not (is_obligation x)) k.SaveKind _ (made (HasMany 0) lay_state IsBarredState (saved x (stacked st (x ∷ xs))) _ barred λ zs. refl)
  row-above at code.Sorry n = needed (HasMany 0) lay_state IsBarredState P.gaps k.Sorry _ (gap-above (HasMany 0))

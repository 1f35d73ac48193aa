-- Each row of a body that goes through in one machine goes through in another that has its expressions.
use Rattle.std.proofs.Common.{◌≡◌, ℕ, zero, suc, Bool, true, false, not, cond, List, [], ◌∷◌, ◌++◌, length, map, Ok, Err, refl, ap, ap₂, ◌∙◌}
use Rattle.std.specs.Prelude.{⊤, slice_get, nat_le, nat_lt, ◌&&◌, ◌==◌}
use Rattle.std.proofs.lemmas.List.{map-append, length-map}
use Rattle.mz_base.proofs.Offered.{both-true, slice_get-map_at}
use Rattle.mz_cmd.specs.declared.rule.K.TheVariants as k
use Rattle.mz_cmd.specs.declared.code.ProofCode.{ProofCode}
use Rattle.mz_cmd.specs.declared.code.ProofCode.TheVariants as code
use Rattle.mz_logic_theory.specs.Tree.{Tree}
use Rattle.mz_logic_theory.specs.Legality.{sort_of}
use Rattle.mz_logic_theory.specs.declared.binder.Binder.{Binder}
use Rattle.mz_machine_theory.specs.Steps.{◌>>=◌}
use Rattle.mz_machine_theory.specs.Spells.{dummy_of}
use Rattle.mz_machine_theory.specs.Profile.{Profile, Item, expr, proof, obligation, conversion}
use Rattle.mz_machine_theory.specs.UnifyMachine.{in_citation, in_definition, Matching, UnifyState, unify}
use Rattle.mz_machine_theory.specs.MachineState.{RowsBefore, signatures_in, State}
use Rattle.mz_machine_theory.specs.Premises.{pop, pop_expr, pop_proof, pop_obligation, pop_conversion, pop_exprs, pop_operands, pop_sides, is_conversion, is_obligation, may_be_dummy_sort, is_provable_sort, bound_count, operands_fit, are_disjoint}
use Rattle.mz_machine_theory.specs.ProofMachine.{push, saved, built, citation, matched_by, cited, referred, sides, same_term, stream_of, unfolding_of, gapped, has_provable_sort, proof_step}
use Rattle.mz_pmachine_theory.specs.Simulation.{item_onto, items_onto, state_onto, matching_onto}
use Rattle.mz_pmachine_theory.proofs.Going.{Goes, Is, goes-to, goes-bind, goes-known, goes-on, goes-need, goes-want, goes-after, goes-rule}
use Rattle.mz_pmachine_theory.proofs.Embeds.{Embeds, both-are, trees-same}
use Rattle.mz_pmachine_theory.proofs.UnifyGoes.{Shows, unify-goes}

module _ (P Q : Profile) (f : P.T → Q.T) (Right : ℕ → P.T → Type 0) (embeds : Embeds P Q f Right) where
  -- ---- what is taken from the stack

  abbrev pub with_items : P.T × List (Item P.T) → Q.T × List (Item Q.T)
  with_items p = (f p.0, items_onto f p.1)

  abbrev pairs_with_items : P.T × P.T × List (Item P.T) → Q.T × Q.T × List (Item Q.T)
  pairs_with_items p = (f p.0, f p.1, items_onto f p.2)

  abbrev lists_with_items : List P.T × List (Item P.T) → List Q.T × List (Item Q.T)
  lists_with_items p = (map f p.0, items_onto f p.1)

  abbrev item_with_items : Item P.T × List (Item P.T) → Item Q.T × List (Item Q.T)
  item_with_items p = (item_onto f p.0, items_onto f p.1)

  pop-goes : (xs : List (Item P.T)) → Goes (Is item_with_items) (pop xs) (pop (items_onto f xs))
  pop-goes [] = λ y e. absurd cc
  pop-goes (x ∷ xs) = goes-to (Is item_with_items) (x, xs) (item_onto f x, items_onto f xs) refl

  expr-goes : (xs : List (Item P.T)) → Goes (Is with_items) (pop_expr xs) (pop_expr (items_onto f xs))
  expr-goes [] = λ y e. absurd cc
  expr-goes (expr a ∷ xs) = goes-to (Is with_items) (a, xs) (f a, items_onto f xs) refl
  expr-goes (proof a ∷ xs) = λ y e. absurd cc
  expr-goes (obligation l r ∷ xs) = λ y e. absurd cc
  expr-goes (conversion l r ∷ xs) = λ y e. absurd cc

  proof-goes : (xs : List (Item P.T)) → Goes (Is with_items) (pop_proof xs) (pop_proof (items_onto f xs))
  proof-goes [] = λ y e. absurd cc
  proof-goes (expr a ∷ xs) = λ y e. absurd cc
  proof-goes (proof a ∷ xs) = goes-to (Is with_items) (a, xs) (f a, items_onto f xs) refl
  proof-goes (obligation l r ∷ xs) = λ y e. absurd cc
  proof-goes (conversion l r ∷ xs) = λ y e. absurd cc

  obligation-goes : (xs : List (Item P.T)) → Goes (Is pairs_with_items) (pop_obligation xs) (pop_obligation (items_onto f xs))
  obligation-goes [] = λ y e. absurd cc
  obligation-goes (expr a ∷ xs) = λ y e. absurd cc
  obligation-goes (proof a ∷ xs) = λ y e. absurd cc
  obligation-goes (obligation l r ∷ xs) = goes-to (Is pairs_with_items) (l, r, xs) (f l, f r, items_onto f xs) refl
  obligation-goes (conversion l r ∷ xs) = λ y e. absurd cc

  conversion-goes : (xs : List (Item P.T)) → Goes (Is pairs_with_items) (pop_conversion xs) (pop_conversion (items_onto f xs))
  conversion-goes [] = λ y e. absurd cc
  conversion-goes (expr a ∷ xs) = λ y e. absurd cc
  conversion-goes (proof a ∷ xs) = λ y e. absurd cc
  conversion-goes (obligation l r ∷ xs) = λ y e. absurd cc
  conversion-goes (conversion l r ∷ xs) = goes-to (Is pairs_with_items) (l, r, xs) (f l, f r, items_onto f xs) refl

  exprs-goes : (n : ℕ) (xs : List (Item P.T)) (es : List P.T) → Goes (Is lists_with_items) (pop_exprs n xs es) (pop_exprs n (items_onto f xs) (map f es))
  exprs-goes zero xs es = goes-to (Is lists_with_items) (es, xs) (map f es, items_onto f xs) refl
  exprs-goes (suc n) [] es = λ y e. absurd cc
  exprs-goes (suc n) (expr a ∷ xs) es = exprs-goes n xs (a ∷ es)
  exprs-goes (suc n) (proof a ∷ xs) es = λ y e. absurd cc
  exprs-goes (suc n) (obligation l r ∷ xs) es = λ y e. absurd cc
  exprs-goes (suc n) (conversion l r ∷ xs) es = λ y e. absurd cc

  enough : (n : ℕ) (xs : List (Item P.T)) → nat_le n (length xs) ≡ true → nat_le n (length (items_onto f xs)) ≡ true
  enough n xs h = ap (λ (m : ℕ). nat_le n m) (length-map xs (item_onto f)) ∙ h

  operands-goes : (n : ℕ) (xs : List (Item P.T)) → Goes (Is lists_with_items) (pop_operands n xs) (pop_operands n (items_onto f xs))
  operands-goes n xs = goes-need (Is lists_with_items) (nat_le n (length xs)) (nat_le n (length (items_onto f xs))) k.Underflow _ _ (enough n xs) (exprs-goes n xs [])

  -- a left side by itself is let through at most there
  sides-by : (b c : Bool) (l r : P.T) (xs : List (Item P.T)) → (c ≡ true → b ≡ true) → Goes (Is pairs_with_items) (cond b (Err k.Kind) (Ok (l, r, xs))) (cond c (Err k.Kind) (Ok (f l, f r, items_onto f xs)))
  sides-by true c l r xs less = λ y e. absurd cc
  sides-by false true l r xs less = λ y e. absurd (let same : false ≡ true = less refl in cc)
  sides-by false false l r xs less = goes-to (Is pairs_with_items) (l, r, xs) (f l, f r, items_onto f xs) refl

  sides-goes : (xs : List (Item P.T)) → Goes (Is pairs_with_items) (pop_sides P xs) (pop_sides Q (items_onto f xs))
  sides-goes [] = λ y e. absurd cc
  sides-goes (expr m ∷ xs) =
      goes-on pairs_with_items (Is pairs_with_items) (pop_obligation xs) (pop_obligation (items_onto f xs)) _ _ (obligation-goes xs) λ o.
      goes-need (Is pairs_with_items) (P.same m o.0) (Q.same (f m) (f o.0)) k.Unfold _ _ (embeds.same_is m o.0)
      (goes-to (Is pairs_with_items) o (f o.0, f o.1, items_onto f o.2) refl)
  sides-goes (proof m ∷ xs) = λ y e. absurd cc
  sides-goes (obligation l r ∷ xs) = sides-by P.portable Q.portable l r xs embeds.asks_less
  sides-goes (conversion l r ∷ xs) = λ y e. absurd cc

  conversion-too : (x : Item P.T) → is_conversion x ≡ true → is_conversion (item_onto f x) ≡ true
  conversion-too (expr a) h = h
  conversion-too (proof a) h = h
  conversion-too (obligation l r) h = h
  conversion-too (conversion l r) h = h

  no-obligation : (x : Item P.T) → not (is_obligation x) ≡ true → not (is_obligation (item_onto f x)) ≡ true
  no-obligation (expr a) h = h
  no-obligation (proof a) h = h
  no-obligation (obligation l r) h = h
  no-obligation (conversion l r) h = h

  same-sides : (l r l' r' : P.T) → (P.same l l' && P.same r r') ≡ true → (Q.same (f l) (f l') && Q.same (f r) (f r')) ≡ true
  same-sides l r l' r' h =
      let (a, b) = both-true (P.same l l') (P.same r r') h in
      ap₂ (λ (v w : Bool). v && w) (embeds.same_is l l' a) (embeds.same_is r r' b)

  sides-mapped : (es ds : List P.T) (xs : List (Item P.T)) → items_onto f (sides es ds xs) ≡ sides (map f es) (map f ds) (items_onto f xs)
  sides-mapped [] ds xs = refl
  sides-mapped (e ∷ es) [] xs = refl
  sides-mapped (e ∷ es) (d ∷ ds) xs = ap (λ (z : List (Item Q.T)). obligation (f e) (f d) ∷ z) (sides-mapped es ds xs)

  module _ (tables : RowsBefore) where
    abbrev pub StateIs : State P.T → State Q.T → Type 0
    StateIs = Is (state_onto f)

    -- one more item in the heap
    heap-is : (st : State P.T) (x : Item P.T) → state_onto f (saved x st) ≡ saved (item_onto f x) (state_onto f st)
    heap-is st x = ap (λ (z : List (Item Q.T)). record (state_onto f st) { heap = z }) (map-append (item_onto f) st.heap (x ∷ []))

    fits-same : (ctx : List Binder) (es : List P.T) (ps : List Binder)
        → operands_fit (signatures_in tables) ctx (map Q.tree (map f es)) ps ≡ operands_fit (signatures_in tables) ctx (map P.tree es) ps
    fits-same ctx es ps = ap (λ (z : List Tree). operands_fit (signatures_in tables) ctx z ps) (trees-same P Q f Right embeds es)

    apart-too : (ctx : List Binder) (es : List P.T) (ps : List Binder) → are_disjoint ctx (map P.tree es) ps ≡ true → are_disjoint ctx (map Q.tree (map f es)) ps ≡ true
    apart-too ctx es ps h = ap (λ (z : List Tree). are_disjoint ctx z ps) (trees-same P Q f Right embeds es) ∙ h

    -- a sort that is provable, or asked
    pub provable-too : (ctx : List Binder) (e : P.T) → has_provable_sort P tables ctx e ≡ true → has_provable_sort Q tables ctx (f e) ≡ true
    provable-too ctx e h = ap (λ (z : Tree). is_provable_sort (slice_get tables.sorts (sort_of (signatures_in tables) ctx z))) (embeds.tree_is e) ∙ h

    one-sort : (ctx : List Binder) (l r : P.T) → (sort_of (signatures_in tables) ctx (P.tree l) == sort_of (signatures_in tables) ctx (P.tree r)) ≡ true
        → (sort_of (signatures_in tables) ctx (Q.tree (f l)) == sort_of (signatures_in tables) ctx (Q.tree (f r))) ≡ true
    one-sort ctx l r h = ap₂ (λ (y z : Tree). sort_of (signatures_in tables) ctx y == sort_of (signatures_in tables) ctx z) (embeds.tree_is l) (embeds.tree_is r) ∙ h

    -- where it has Right
    abbrev MadeIs : ℕ → P.T × List (Item P.T) → Q.T × List (Item Q.T) → Type 0
    MadeIs at x y = Right at x.0 → with_items x ≡ y

    built-goes : (at t : ℕ) (st : State P.T) → Goes (MadeIs at) (built P tables at t st) (built Q tables at t (state_onto f st))
    unfolding built
    built-goes at t st =
        goes-want (λ row. row) (MadeIs at) (slice_get tables.terms t) (slice_get tables.terms t) k.TermIndex _ _ (λ row there. there) λ row.
        goes-on lists_with_items (MadeIs at) (pop_operands (length row.signature.params) st.stack) (pop_operands (length row.signature.params) (items_onto f st.stack)) _ _
        (operands-goes (length row.signature.params) st.stack) λ es.
        goes-after (MadeIs at) (operands_fit (signatures_in tables) st.ctx (map P.tree es.0) row.signature.params) (operands_fit (signatures_in tables) st.ctx (map Q.tree (map f es.0)) row.signature.params) _ _
        (fits-same st.ctx es.0 row.signature.params)
        (goes-to (MadeIs at) (P.make at t es.0, es.1) (Q.make at t (map f es.0), items_onto f es.1) λ right. ap (λ (z : Q.T). (z, items_onto f es.1)) (embeds.made_is at t es.0 right))

    citation-goes : (t : ℕ) (st : State P.T) → Goes (Is (matching_onto f)) (citation P tables t st) (citation Q tables t (state_onto f st))
    unfolding citation
    citation-goes t st =
        goes-want (λ row. row) (Is (matching_onto f)) (slice_get tables.thms t) (slice_get tables.thms t) k.TheoremIndex _ _ (λ row there. there) λ row.
        goes-need (Is (matching_onto f)) (nat_le (suc (length row.params)) (length st.stack)) (nat_le (suc (length row.params)) (length (items_onto f st.stack))) k.Underflow _ _ (enough (suc (length row.params)) st.stack)
        (goes-on with_items (Is (matching_onto f)) (pop_expr st.stack) (pop_expr (items_onto f st.stack)) _ _ (expr-goes st.stack) λ e.
        goes-on lists_with_items (Is (matching_onto f)) (pop_operands (length row.params) e.1) (pop_operands (length row.params) (items_onto f e.1)) _ _ (operands-goes (length row.params) e.1) λ es.
        goes-after (Is (matching_onto f)) (operands_fit (signatures_in tables) st.ctx (map P.tree es.0) row.params) (operands_fit (signatures_in tables) st.ctx (map Q.tree (map f es.0)) row.params) _ _
        (fits-same st.ctx es.0 row.params)
        (goes-need (Is (matching_onto f)) (are_disjoint st.ctx (map P.tree es.0) row.params) (are_disjoint st.ctx (map Q.tree (map f es.0)) row.params) k.Disjoint _ _ (apart-too st.ctx es.0 row.params)
        (goes-to (Is (matching_onto f)) (record { mode = in_citation; stream = row.stream; operands = es.0; target = e.0; items = es.1 })
        (record { mode = in_citation; stream = row.stream; operands = map f es.0; target = f e.0; items = items_onto f es.1 }) refl)))

    pub matched-goes : (ctx : List Binder) (m : Matching P.T) → Goes (Shows P Q f Right embeds (signatures_in tables) ctx) (matched_by P tables ctx m) (matched_by Q tables ctx (matching_onto f m))
    matched-goes ctx m =
        goes-rule (Shows P Q f Right embeds (signatures_in tables) ctx) (unify P (signatures_in tables) ctx m) (unify Q (signatures_in tables) ctx (matching_onto f m)) (unify-goes P Q f Right embeds (signatures_in tables) ctx m)

    cited-goes : (t : ℕ) (st : State P.T) → Goes (Is with_items) (cited P tables t st) (cited Q tables t (state_onto f st))
    unfolding cited
    cited-goes t st =
        goes-on (matching_onto f) (Is with_items) (citation P tables t st) (citation Q tables t (state_onto f st)) _ _ (citation-goes t st) λ m.
        goes-bind (Shows P Q f Right embeds (signatures_in tables) st.ctx) (Is with_items) (matched_by P tables st.ctx m) (matched_by Q tables st.ctx (matching_onto f m)) _ _ (matched-goes st.ctx m) λ u v (others, covers, is).
        goes-to (Is with_items) (m.target, u.items) (f m.target, v.items) (ap (λ (z : UnifyState Q.T). (f m.target, z.items)) is)

    referred-goes : (x : Item P.T) (st : State P.T) → Goes StateIs (referred P x st) (referred Q (item_onto f x) (state_onto f st))
    referred-goes (expr a) st = goes-to StateIs (push (expr a) st.stack st) (push (expr (f a)) (items_onto f st.stack) (state_onto f st)) refl
    referred-goes (proof a) st = goes-to StateIs (push (proof a) st.stack st) (push (proof (f a)) (items_onto f st.stack) (state_onto f st)) refl
    referred-goes (obligation l r) st = goes-to StateIs (push (obligation l r) st.stack st) (push (obligation (f l) (f r)) (items_onto f st.stack) (state_onto f st)) refl
    referred-goes (conversion l r) st =
        goes-on pairs_with_items StateIs (pop_obligation st.stack) (pop_obligation (items_onto f st.stack)) _ _ (obligation-goes st.stack) λ o.
        goes-need StateIs (P.same l o.0 && P.same r o.1) (Q.same (f l) (f o.0) && Q.same (f r) (f o.1)) k.ConversionReference _ _ (same-sides l r o.0 o.1)
        (goes-to StateIs (record st { stack = o.2 }) (record (state_onto f st) { stack = items_onto f o.2 }) refl)

    abbrev unfolding_onto : Matching P.T × P.T × List (Item P.T) → Matching Q.T × Q.T × List (Item Q.T)
    unfolding_onto p = (matching_onto f p.0, f p.1, items_onto f p.2)

    unfolding-goes : (st : State P.T) → Goes (Is unfolding_onto) (unfolding_of P tables st) (unfolding_of Q tables (state_onto f st))
    unfolding unfolding_of
    unfolding-goes st =
        goes-on with_items (Is unfolding_onto) (pop_expr st.stack) (pop_expr (items_onto f st.stack)) _ _ (expr-goes st.stack) λ e.
        goes-on pairs_with_items (Is unfolding_onto) (pop_sides P e.1) (pop_sides Q (items_onto f e.1)) _ _ (sides-goes e.1) λ o.
        goes-want (λ p. (p.0, map f p.1)) (Is unfolding_onto) (P.parts o.0) (Q.parts (f o.0)) k.Unfold _ _ (embeds.parts_are o.0) λ p.
        goes-want (λ stream. stream) (Is unfolding_onto) (stream_of (slice_get tables.terms p.0)) (stream_of (slice_get tables.terms p.0)) k.Unfold _ _ (λ stream there. there) λ stream.
        goes-to (Is unfolding_onto) (record { mode = in_definition; stream = stream; operands = p.1; target = e.0; items = [] }, o.1, o.2)
        (record { mode = in_definition; stream = stream; operands = map f p.1; target = f e.0; items = [] }, f o.1, items_onto f o.2) refl

    -- a new variable, to the heap and the stack
    dummy-is : (s : ℕ) (st : State P.T)
        → state_onto f (record { ctx = st.ctx ++ dummy_of s ∷ []; heap = st.heap ++ expr (P.variable (length st.ctx)) ∷ []; stack = expr (P.variable (length st.ctx)) ∷ st.stack; hyps = st.hyps })
        ≡ record { ctx = st.ctx ++ dummy_of s ∷ []; heap = items_onto f st.heap ++ expr (Q.variable (length st.ctx)) ∷ []; stack = expr (Q.variable (length st.ctx)) ∷ items_onto f st.stack; hyps = map f st.hyps }
    dummy-is s st =
        ap (λ (z : List (Item Q.T)). record { ctx = st.ctx ++ dummy_of s ∷ []; heap = z; stack = expr (f (P.variable (length st.ctx))) ∷ items_onto f st.stack; hyps = map f st.hyps })
        (map-append (item_onto f) st.heap (expr (P.variable (length st.ctx)) ∷ []))
        ∙ ap (λ (z : Q.T). record { ctx = st.ctx ++ dummy_of s ∷ []; heap = items_onto f st.heap ++ expr z ∷ []; stack = expr z ∷ items_onto f st.stack; hyps = map f st.hyps }) (embeds.variable_is (length st.ctx))

    hyp-is : (st : State P.T) (e : P.T) (xs : List (Item P.T))
        → state_onto f (record st { heap = st.heap ++ proof e ∷ []; stack = xs; hyps = st.hyps ++ e ∷ [] })
        ≡ record (state_onto f st) { heap = items_onto f st.heap ++ proof (f e) ∷ []; stack = items_onto f xs; hyps = map f st.hyps ++ f e ∷ [] }
    hyp-is st e xs =
        ap₂ (λ (y : List (Item Q.T)) (z : List Q.T). record (state_onto f st) { heap = y; stack = items_onto f xs; hyps = z }) (map-append (item_onto f) st.heap (proof e ∷ [])) (map-append f st.hyps (e ∷ []))

    gap-goes : (st : State P.T) (x : Item P.T) (xs : List (Item P.T)) → Goes StateIs (gapped P tables st x xs) (gapped Q tables (state_onto f st) (item_onto f x) (items_onto f xs))
    gap-goes st (expr e) xs =
        goes-need StateIs (has_provable_sort P tables st.ctx e) (has_provable_sort Q tables st.ctx (f e)) k.NotProvable _ _ (provable-too st.ctx e)
        (goes-to StateIs (push (proof e) xs st) (push (proof (f e)) (items_onto f xs) (state_onto f st)) refl)
    gap-goes st (obligation l r) xs =
        goes-need StateIs (sort_of (signatures_in tables) st.ctx (P.tree l) == sort_of (signatures_in tables) st.ctx (P.tree r)) (sort_of (signatures_in tables) st.ctx (Q.tree (f l)) == sort_of (signatures_in tables) st.ctx (Q.tree (f r))) k.Sorry _ _ (one-sort st.ctx l r)
        (goes-to StateIs (record st { stack = xs }) (record (state_onto f st) { stack = items_onto f xs }) refl)
    gap-goes st (proof e) xs = λ y h. absurd cc
    gap-goes st (conversion l r) xs = λ y h. absurd cc

    -- what the row makes has Right
    abbrev pub MakesRight : ℕ → ProofCode → ℕ → State P.T → Type 0
    MakesRight at code.Term t st = (x : P.T × List (Item P.T)) → built P tables at t st ≡ Ok x → Right at x.0
    MakesRight at code.TermSave t st = (x : P.T × List (Item P.T)) → built P tables at t st ≡ Ok x → Right at x.0
    MakesRight at c t st = ⊤

    -- a step on what is built
    on-built : (at t : ℕ) (st : State P.T) (g : P.T × List (Item P.T) → State P.T) (g' : Q.T × List (Item Q.T) → State Q.T)
        → ((x : P.T × List (Item P.T)) → built P tables at t st ≡ Ok x → Right at x.0) → ((x : P.T × List (Item P.T)) → state_onto f (g x) ≡ g' (with_items x))
        → Goes StateIs (built P tables at t st >>= λ x. Ok (g x)) (built Q tables at t (state_onto f st) >>= λ x. Ok (g' x))
    on-built at t st g g' right is =
        goes-bind _ StateIs (built P tables at t st) (built Q tables at t (state_onto f st)) _ _ (goes-known (MadeIs at) (built P tables at t st) (built Q tables at t (state_onto f st)) (built-goes at t st))
        λ x y (made, are). goes-to StateIs (g x) (g' y) (is x ∙ ap g' (are (right x made)))

    pub row-goes : (at : ℕ) (c : ProofCode) (n : ℕ) (st : State P.T) → MakesRight at c n st → Goes StateIs (proof_step P tables at c n st) (proof_step Q tables at c n (state_onto f st))
    unfolding proof_step
    row-goes at code.Term n st right = on-built at n st (λ x. push (expr x.0) x.1 st) (λ x. push (expr x.0) x.1 (state_onto f st)) right λ x. refl
    row-goes at code.TermSave n st right =
        on-built at n st (λ x. saved (expr x.0) (push (expr x.0) x.1 st)) (λ x. saved (expr x.0) (push (expr x.0) x.1 (state_onto f st))) right λ x. heap-is (push (expr x.0) x.1 st) (expr x.0)
    row-goes at code.Ref n st right =
        goes-want (item_onto f) StateIs (slice_get st.heap n) (slice_get (items_onto f st.heap) n) k.HeapIndex _ _ (slice_get-map_at (item_onto f) st.heap n) λ x.
        referred-goes x st
    row-goes at code.ConvRef n st right =
        goes-want (item_onto f) StateIs (slice_get st.heap n) (slice_get (items_onto f st.heap) n) k.HeapIndex _ _ (slice_get-map_at (item_onto f) st.heap n) λ x.
        goes-need StateIs (is_conversion x) (is_conversion (item_onto f x)) k.Kind _ _ (conversion-too x) (referred-goes x st)
    row-goes at code.Dummy n st right =
        goes-need StateIs (may_be_dummy_sort (slice_get tables.sorts n)) (may_be_dummy_sort (slice_get tables.sorts n)) k.DummySort _ _ (λ h. h)
        (goes-need StateIs (nat_lt (bound_count st.ctx) 55) (nat_lt (bound_count st.ctx) 55) k.DummyCount _ _ (λ h. h)
        (goes-to StateIs _ _ (dummy-is n st)))
    row-goes at code.Thm n st right =
        goes-on with_items StateIs (cited P tables n st) (cited Q tables n (state_onto f st)) _ _ (cited-goes n st) λ e.
        goes-to StateIs (push (proof e.0) e.1 st) (push (proof (f e.0)) (items_onto f e.1) (state_onto f st)) refl
    row-goes at code.ThmSave n st right =
        goes-on with_items StateIs (cited P tables n st) (cited Q tables n (state_onto f st)) _ _ (cited-goes n st) λ e.
        goes-to StateIs (saved (proof e.0) (push (proof e.0) e.1 st)) (saved (proof (f e.0)) (push (proof (f e.0)) (items_onto f e.1) (state_onto f st))) (heap-is (push (proof e.0) e.1 st) (proof e.0))
    row-goes at code.Hyp n st right =
        goes-on with_items StateIs (pop_expr st.stack) (pop_expr (items_onto f st.stack)) _ _ (expr-goes st.stack) λ e.
        goes-need StateIs (has_provable_sort P tables st.ctx e.0) (has_provable_sort Q tables st.ctx (f e.0)) k.NotProvable _ _ (provable-too st.ctx e.0)
        (goes-to StateIs _ _ (hyp-is st e.0 e.1))
    row-goes at code.Conv n st right =
        goes-on with_items StateIs (pop_proof st.stack) (pop_proof (items_onto f st.stack)) _ _ (proof-goes st.stack) λ p.
        goes-on with_items StateIs (pop_expr p.1) (pop_expr (items_onto f p.1)) _ _ (expr-goes p.1) λ e.
        goes-to StateIs (push (obligation e.0 p.0) (proof e.0 ∷ e.1) st) (push (obligation (f e.0) (f p.0)) (proof (f e.0) ∷ items_onto f e.1) (state_onto f st)) refl
    row-goes at code.Refl n st right =
        goes-on pairs_with_items StateIs (pop_obligation st.stack) (pop_obligation (items_onto f st.stack)) _ _ (obligation-goes st.stack) λ o.
        goes-need StateIs (P.same o.0 o.1) (Q.same (f o.0) (f o.1)) k.Refl _ _ (embeds.same_is o.0 o.1)
        (goes-to StateIs (record st { stack = o.2 }) (record (state_onto f st) { stack = items_onto f o.2 }) refl)
    row-goes at code.Symm n st right =
        goes-on pairs_with_items StateIs (pop_obligation st.stack) (pop_obligation (items_onto f st.stack)) _ _ (obligation-goes st.stack) λ o.
        goes-to StateIs (push (obligation o.1 o.0) o.2 st) (push (obligation (f o.1) (f o.0)) (items_onto f o.2) (state_onto f st)) refl
    row-goes at code.Cong n st right =
        goes-on pairs_with_items StateIs (pop_obligation st.stack) (pop_obligation (items_onto f st.stack)) _ _ (obligation-goes st.stack) λ o.
        goes-want (λ z. (map f z.0, map f z.1)) StateIs (same_term (P.parts o.0) (P.parts o.1)) (same_term (Q.parts (f o.0)) (Q.parts (f o.1))) k.Cong _ _ (both-are P Q f Right embeds o.0 o.1) λ es.
        goes-to StateIs (record st { stack = sides es.0 es.1 o.2 }) (record (state_onto f st) { stack = sides (map f es.0) (map f es.1) (items_onto f o.2) })
        (ap (λ (z : List (Item Q.T)). record (state_onto f st) { stack = z }) (sides-mapped es.0 es.1 o.2))
    row-goes at code.Unfold n st right =
        goes-on unfolding_onto StateIs (unfolding_of P tables st) (unfolding_of Q tables (state_onto f st)) _ _ (unfolding-goes st) λ m.
        goes-bind (Shows P Q f Right embeds (signatures_in tables) st.ctx) StateIs (matched_by P tables st.ctx m.0) (matched_by Q tables st.ctx (matching_onto f m.0)) _ _ (matched-goes st.ctx m.0) λ u v shows.
        goes-to StateIs (push (obligation m.0.target m.1) m.2 st) (push (obligation (f m.0.target) (f m.1)) (items_onto f m.2) (state_onto f st)) refl
    row-goes at code.ConvCut n st right =
        goes-on pairs_with_items StateIs (pop_obligation st.stack) (pop_obligation (items_onto f st.stack)) _ _ (obligation-goes st.stack) λ o.
        goes-to StateIs (push (obligation o.0 o.1) (conversion o.0 o.1 ∷ o.2) st)
        (push (obligation (f o.0) (f o.1)) (conversion (f o.0) (f o.1) ∷ items_onto f o.2) (state_onto f st)) refl
    row-goes at code.ConvSave n st right =
        goes-on pairs_with_items StateIs (pop_conversion st.stack) (pop_conversion (items_onto f st.stack)) _ _ (conversion-goes st.stack) λ o.
        goes-to StateIs (saved (conversion o.0 o.1) (record st { stack = o.2 })) (saved (conversion (f o.0) (f o.1)) (record (state_onto f st) { stack = items_onto f o.2 }))
        (heap-is (record st { stack = o.2 }) (conversion o.0 o.1))
    row-goes at code.Save n st right =
        goes-on item_with_items StateIs (pop st.stack) (pop (items_onto f st.stack)) _ _ (pop-goes st.stack) λ x.
        goes-need StateIs (not (is_obligation x.0)) (not (is_obligation (item_onto f x.0))) k.SaveKind _ _ (no-obligation x.0)
        (goes-to StateIs (saved x.0 st) (saved (item_onto f x.0) (state_onto f st)) (heap-is st x.0))
    row-goes at code.Sorry n st right =
        goes-need StateIs P.gaps Q.gaps k.Sorry _ _ embeds.gaps_too
        (goes-on item_with_items StateIs (pop st.stack) (pop (items_onto f st.stack)) _ _ (pop-goes st.stack) λ x.
        gap-goes st x.0 x.1)

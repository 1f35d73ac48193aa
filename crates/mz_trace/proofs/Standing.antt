-- What stands beside the machine's stack and heap: for each expression, proof and conversion what is asked of it, and below
-- an obligation what stands there once it is paid.
use Rattle.std.proofs.Common.{◌≡◌, ℕ, zero, suc, ◌+◌, leb, List, [], ◌∷◌, ◌++◌, length, map, drop, Ok, refl, sym, ap, subst, ◌∙◌, arith}
use Rattle.std.specs.Prelude.{reverse, ⊤}
use Rattle.std.proofs.lemmas.List.{reverse-append, append_assoc}
use Rattle.mz_cmd.specs.declared.rule.K.TheVariants as k
use Rattle.mz_logic_theory.specs.Tree.{Tree, app, none}
use Rattle.mz_logic_theory.specs.Conversions.{Conversion, Conversions, refl_conv, cong_conv, no_convs, more_convs}
use Rattle.mz_mmu_theory.specs.Proof.{Proof, Proofs, no_proofs, more_proofs}
use Rattle.mz_machine_theory.specs.Profile.{strict, Item, expr, proof, obligation, conversion}
use Rattle.mz_machine_theory.specs.Tests.{same_tree}
use Rattle.mz_machine_theory.proofs.Offered.{from_bind, from_need, taken-is}
use Rattle.mz_machine_theory.specs.MachineState.{Pairwise}
use Rattle.mz_machine_theory.specs.Premises.{pop_expr, pop_obligation, pop_exprs, pop_operands, pop_sides}
use Rattle.mz_machine_theory.specs.ProofMachine.{sides}
use Rattle.mz_trace.specs.OneHoleContexts.{Part, expression, proved, owed, converted, for_operand, then_conv, paid, by_operands, proofs_above}
use Rattle.mz_trace.specs.Traces.{below_sides}

-- ---- conversions one after another

abbrev append_convs : Conversions → Conversions → Conversions
append_convs no_convs ds = ds
append_convs (more_convs c cs) ds = more_convs c (append_convs cs ds)

append-one : (cs : Conversions) (c : Conversion) → append_convs cs (more_convs c no_convs) ≡ then_conv cs c
append-one no_convs c = refl
append-one (more_convs d cs) c = ap (more_convs d) (append-one cs c)

append-then : (cs : Conversions) (c : Conversion) (ds : Conversions) → append_convs cs (more_convs c ds) ≡ append_convs (then_conv cs c) ds
append-then no_convs c ds = refl
append-then (more_convs d cs) c ds = ap (more_convs d) (append-then cs c ds)

-- What is asked of an expression, of a conversion from one to another, of a proof of one from hypotheses and behind lets,
-- and of the lets.
pub record Asked : Type 1 where
  pub of_expr : Tree → Type 0
  pub of_conv : Conversion → Tree → Tree → Type 0
  pub of_proof : List Tree → List Proof → Proof → Tree → Type 0
  pub of_lets : List Tree → List Proof → Type 0

module _ (A : Asked) where
  abbrev pub EachIs : List Tree → Type 0
  EachIs [] = ⊤
  EachIs (e ∷ es) = A.of_expr e × EachIs es

  abbrev pub EachFrom : Conversions → List Tree → List Tree → Type 0
  EachFrom no_convs [] [] = ⊤
  EachFrom (more_convs c cs) (l ∷ ls) (r ∷ rs) = A.of_conv c l r × EachFrom cs ls rs
  EachFrom cs ls rs = ⊥

  module _ (hyps : List Tree) (lets : List Proof) where
    abbrev pub EachProves : Proofs → List Tree → Type 0
    EachProves no_proofs [] = ⊤
    EachProves (more_proofs p ps) (e ∷ es) = A.of_proof hyps lets p e × EachProves ps es
    EachProves ps es = ⊥

    -- an item of the heap
    abbrev pub Is : Item Tree → Part → Type 0
    Is (expr e) expression = A.of_expr e
    Is (proof e) (proved p) = A.of_expr e × A.of_proof hyps lets p e
    Is (conversion l r) (converted c) = A.of_conv c l r
    Is x t = ⊥

    abbrev pub Stands : List (Item Tree) → List Part → Type 0
    Stands [] [] = ⊤
    Stands (expr e ∷ xs) (expression ∷ ts) = A.of_expr e × Stands xs ts
    Stands (proof e ∷ xs) (proved p ∷ ts) = A.of_expr e × A.of_proof hyps lets p e × Stands xs ts
    Stands (obligation l r ∷ xs) (owed ∷ ts) = A.of_expr l × A.of_expr r × ((c : Conversion) → A.of_conv c l r → Stands xs (paid c ts))
    Stands (conversion l r ∷ xs) (converted c ∷ ts) = A.of_conv c l r × Stands xs (paid c ts)
    Stands xs ts = ⊥

    -- ---- the item on top

    pub expr-is : (e : Tree) (xs : List (Item Tree)) (ts : List Part) → Stands (expr e ∷ xs) ts → (us : List Part) × (ts ≡ expression ∷ us) × A.of_expr e × Stands xs us
    expr-is e xs (expression ∷ us) (he, h) = (us, refl, he, h)
    expr-is e xs ts h = absurd h

    pub proof-is : (e : Tree) (xs : List (Item Tree)) (ts : List Part) → Stands (proof e ∷ xs) ts
        → (p : Proof) × (us : List Part) × (ts ≡ proved p ∷ us) × A.of_expr e × A.of_proof hyps lets p e × Stands xs us
    proof-is e xs (proved p ∷ us) (he, hp, h) = (p, us, refl, he, hp, h)
    proof-is e xs ts h = absurd h

    pub conversion-is : (l r : Tree) (xs : List (Item Tree)) (ts : List Part) → Stands (conversion l r ∷ xs) ts
        → (c : Conversion) × (us : List Part) × (ts ≡ converted c ∷ us) × A.of_conv c l r × Stands xs (paid c us)
    conversion-is l r xs (converted c ∷ us) (hc, h) = (c, us, refl, hc, h)
    conversion-is l r xs ts h = absurd h

    -- what stands below, once it is paid
    abbrev pub Owes : Tree → Tree → List (Item Tree) → List Part → Type 0
    Owes l r xs ts = A.of_expr l × A.of_expr r × ((c : Conversion) → A.of_conv c l r → Stands xs (paid c ts))

    obligation-is : (l r : Tree) (xs : List (Item Tree)) (ts : List Part) → Stands (obligation l r ∷ xs) ts → Owes l r xs (drop 1 ts)
    obligation-is l r xs (owed ∷ us) h = h
    obligation-is l r xs ts h = absurd h

    -- ---- what is popped

    pub expr-top : (xs : List (Item Tree)) (ts : List Part) (r : Tree × List (Item Tree)) → pop_expr xs ≡ Ok r → Stands xs ts → A.of_expr r.0 × Stands r.1 (drop 1 ts)
    expr-top (expr e ∷ xs) (expression ∷ ts) r is h = subst (λ (z : Tree × List (Item Tree)). A.of_expr z.0 × Stands z.1 ts) (taken-is (e, xs) r is) h
    expr-top (expr e ∷ xs) ts r is h = absurd h
    expr-top xs ts r is h = absurd cc

    pub obligation-top : (xs : List (Item Tree)) (ts : List Part) (o : Tree × Tree × List (Item Tree)) → pop_obligation xs ≡ Ok o → Stands xs ts → Owes o.0 o.1 o.2 (drop 1 ts)
    obligation-top (obligation l r ∷ xs) ts o is h = subst (λ (z : Tree × Tree × List (Item Tree)). Owes z.0 z.1 z.2 (drop 1 ts)) (taken-is (l, r, xs) o is) (obligation-is l r xs ts h)
    obligation-top xs ts o is h = absurd cc

    pub sides-top : (xs : List (Item Tree)) (ts : List Part) (o : Tree × Tree × List (Item Tree)) → pop_sides strict xs ≡ Ok o → Stands xs ts → Owes o.0 o.1 o.2 (below_sides ts)
    sides-top (expr m ∷ xs) (expression ∷ ts) o is (hm, h) =
        from_bind (pop_obligation xs) _ o is λ p popping e1.
        from_need (same_tree m p.0) k.Unfold _ o e1 λ same e2.
        subst (λ (z : Tree × Tree × List (Item Tree)). Owes z.0 z.1 z.2 (drop 1 ts)) (taken-is p o e2) (obligation-top xs ts p popping h)
    sides-top (expr m ∷ xs) ts o is h = absurd h
    sides-top (obligation l r ∷ xs) (owed ∷ ts) o is h = subst (λ (z : Tree × Tree × List (Item Tree)). Owes z.0 z.1 z.2 ts) (taken-is (l, r, xs) o is) h
    sides-top (obligation l r ∷ xs) ts o is h = absurd h
    sides-top xs ts o is h = absurd cc

    popped : (n : ℕ) (xs : List (Item Tree)) (ts : List Part) (acc : List Tree) (r : List Tree × List (Item Tree))
        → pop_exprs n xs acc ≡ Ok r → EachIs acc → Stands xs ts → EachIs r.0 × Stands r.1 (drop n ts) × (length r.0 ≡ n + length acc)
    popped zero xs ts acc r is each h = subst (λ (z : List Tree × List (Item Tree)). EachIs z.0 × Stands z.1 ts × (length z.0 ≡ 0 + length acc)) (taken-is (acc, xs) r is) (each, h, omega arith)
    popped (suc n) (expr e ∷ xs) (expression ∷ ts) acc r is each (he, h) = let (a, b, c) = popped n xs ts (e ∷ acc) r is (he, each) h in (a, b, omega arith)
    popped (suc n) (expr e ∷ xs) ts acc r is each h = absurd h
    popped (suc n) xs ts acc r is each h = absurd cc

    pub operands-top : (n : ℕ) (xs : List (Item Tree)) (ts : List Part) (r : List Tree × List (Item Tree))
        → pop_operands n xs ≡ Ok r → Stands xs ts → EachIs r.0 × Stands r.1 (drop n ts) × (length r.0 ≡ n)
    operands-top n xs ts r is h =
        from_need (leb n (length xs)) k.Underflow _ r is λ enough e1.
        let (a, b, c) = popped n xs ts [] r e1 tt h in
        (a, b, omega arith)

    -- the proofs of a citation's hypotheses, the last one on top
    pub proofs-top : (rs hs : List Tree) (xs : List (Item Tree)) (ts : List Part) (ps : Proofs) → Stands (map proof rs ++ xs) ts → EachProves ps hs
        → EachProves (proofs_above (length rs) ts ps) (reverse rs ++ hs) × Stands xs (drop (length rs) ts)
    proofs-top [] hs xs ts ps h all = (all, h)
    proofs-top (r ∷ rs) hs xs (proved p ∷ ts) ps (hr, hp, h) all =
        let (each, below) = proofs-top rs (r ∷ hs) xs ts (more_proofs p ps) h (hp, all) in
        let same : reverse rs ++ (r ∷ hs) ≡ reverse (r ∷ rs) ++ hs = sym (append_assoc (reverse rs) (r ∷ []) hs) ∙ ap (λ (z : List Tree). z ++ hs) (sym (reverse-append (r ∷ []) rs)) in
        (subst (EachProves (proofs_above (length rs) ts (more_proofs p ps))) same each, below)
    proofs-top (r ∷ rs) hs xs ts ps h all = absurd h

    -- ---- the sides of a congruence

    operands-stand : (t : ℕ) (ls rs : List Tree) (l r : Tree) (cs : Conversions) (xs : List (Item Tree)) (ts : List Part) → length ls ≡ length rs → EachIs (l ∷ ls) → EachIs (r ∷ rs)
        → ((ds : Conversions) → EachFrom ds (l ∷ ls) (r ∷ rs) → Stands xs (paid (cong_conv t (append_convs cs ds)) ts))
        → Stands (obligation l r ∷ sides ls rs xs) (owed ∷ for_operand t cs (length ls) ∷ ts)
    operands-stand t [] [] l r cs xs ts len (el, _) (er, _) then =
        (el, er, λ c h. subst (λ (z : Conversions). Stands xs (paid (cong_conv t z) ts)) (append-one cs c) (then (more_convs c no_convs) (h, tt)))
    operands-stand t (l' ∷ ls) (r' ∷ rs) l r cs xs ts len (el, els) (er, ers) then = (
      el,
      er,
      λ c h. operands-stand t ls rs l' r' (then_conv cs c) xs ts (omega arith) els ers
          λ ds all. subst (λ (z : Conversions). Stands xs (paid (cong_conv t z) ts)) (append-then cs c ds) (then (more_convs c ds) (h, all)),
    )
    operands-stand t [] (r' ∷ rs) l r cs xs ts len hl hr then = absurd (omega arith)
    operands-stand t (l' ∷ ls) [] l r cs xs ts len hl hr then = absurd (omega arith)

    pub sides-stand : (t : ℕ) (ls rs : List Tree) (xs : List (Item Tree)) (ts : List Part) → length ls ≡ length rs → EachIs ls → EachIs rs
        → (ls ≡ [] → rs ≡ [] → Stands xs (paid (refl_conv (app t none)) ts))
        → ((ds : Conversions) → EachFrom ds ls rs → Stands xs (paid (cong_conv t ds) ts))
        → Stands (sides ls rs xs) (by_operands t (length ls) ts)
    sides-stand t [] [] xs ts len hl hr empty then = empty refl refl
    sides-stand t (l ∷ ls) (r ∷ rs) xs ts len hl hr empty then = operands-stand t ls rs l r no_convs xs ts (omega arith) hl hr then
    sides-stand t [] (r ∷ rs) xs ts len hl hr empty then = absurd (omega arith)
    sides-stand t (l ∷ ls) [] xs ts len hl hr empty then = absurd (omega arith)

    -- ---- the heap

    pub heap-push : (xs : List (Item Tree)) (ts : List Part) (x : Item Tree) (t : Part) → Pairwise Is xs ts → Is x t → Pairwise Is (xs ++ x ∷ []) (ts ++ t ∷ [])
    heap-push [] [] x t h is = (is, tt)
    heap-push [] (u ∷ ts) x t h is = absurd h
    heap-push (y ∷ xs) [] x t h is = absurd h
    heap-push (y ∷ xs) (u ∷ ts) x t (a, h) is = (a, heap-push xs ts x t h is)

  -- ---- more is known of proofs

  module _ (hyps gs : List Tree) (lets ms : List Proof) (also : (p : Proof) (e : Tree) → A.of_proof hyps lets p e → A.of_proof gs ms p e) where
    pub stands-also : (xs : List (Item Tree)) (ts : List Part) → Stands hyps lets xs ts → Stands gs ms xs ts
    stands-also [] [] h = tt
    stands-also (expr e ∷ xs) (expression ∷ ts) (he, h) = (he, stands-also xs ts h)
    stands-also (proof e ∷ xs) (proved p ∷ ts) (he, hp, h) = (he, also p e hp, stands-also xs ts h)
    stands-also (obligation l r ∷ xs) (owed ∷ ts) (hl, hr, h) = (hl, hr, λ c hc. stands-also xs (paid c ts) (h c hc))
    stands-also (conversion l r ∷ xs) (converted c ∷ ts) (hc, h) = (hc, stands-also xs (paid c ts) h)
    stands-also xs ts h = absurd h

    is-also : (x : Item Tree) (t : Part) → Is hyps lets x t → Is gs ms x t
    is-also (expr e) expression h = h
    is-also (proof e) (proved p) (he, h) = (he, also p e h)
    is-also (conversion l r) (converted c) h = h
    is-also x t h = absurd h

    pub heap-also : (xs : List (Item Tree)) (ts : List Part) → Pairwise (Is hyps lets) xs ts → Pairwise (Is gs ms) xs ts
    heap-also [] [] h = tt
    heap-also [] (t ∷ ts) h = absurd h
    heap-also (x ∷ xs) [] h = absurd h
    heap-also (x ∷ xs) (t ∷ ts) (a, h) = (is-also x t a, heap-also xs ts h)

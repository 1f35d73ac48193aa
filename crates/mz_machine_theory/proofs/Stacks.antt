-- Stacks and heaps of which the fact holds, and what is taken from them.
use Rattle.std.proofs.Common.{◌≡◌, ℕ, zero, suc, ◌+◌, leb, List, [], ◌∷◌, ◌++◌, length, map, Some, Ok, sym, subst, arith}
use Rattle.std.specs.Prelude.{slice_get, reverse}
use Rattle.std.proofs.lemmas.List.{reverse-append}
use Rattle.mz_cmd.specs.declared.rule.K.TheVariants as k
use Rattle.mz_logic_theory.specs.Tree.{Tree, Trees, none, more, listed}
use Rattle.mz_logic_theory.specs.Declaration.{Declaration, signatures}
use Rattle.mz_logic_theory.specs.Sorts.{HasProvable}
use Rattle.mz_logic_theory.specs.Conversions.{Conversions, no_convs, more_convs, AllBetween, AllGapsOnly}
use Rattle.mz_logic_theory.specs.Derivations.{Derivation, Derivations, hypothesis, cite, convert, gap, no_derivs, more_derivs, Derives, AllDerive, Uses, AllCiteOnly}
use Rattle.mz_logic_theory.specs.declared.binder.Binder.{Binder}
use Rattle.mz_machine_theory.specs.Spells.{trees_of}
use Rattle.mz_machine_theory.specs.Profile.{strict, Item, expr, proof, obligation, conversion}
use Rattle.mz_machine_theory.specs.Sorted.{Sorted, AllSorted, ItemSorted, ItemsSorted}
use Rattle.mz_machine_theory.specs.Tests.{same_tree}
use Rattle.mz_machine_theory.proofs.Inverting.{from_bind, from_need, taken-is}
use Rattle.mz_machine_theory.proofs.Trees.{listed-trees_of}
use Rattle.mz_machine_theory.specs.Premises.{pop_expr, pop_proof, pop_obligation, pop_conversion, pop_exprs, pop_operands, pop_sides}
use Rattle.mz_machine_theory.specs.ProofMachine.{sides}
use Rattle.mz_machine_theory.specs.Invariant.{Derivable, Convertible, Holds, HeapHolds, StackHolds, AreProvableClaims}

module _ (P : Uses) (env : List Declaration) (full : List Binder) where
  -- ---- heaps

  pub item-at : (ctx : List Binder) (xs : List (Item Tree)) (i : ℕ) (x : Item Tree) → slice_get xs i ≡ Some x → ItemsSorted (signatures env) ctx xs → ItemSorted (signatures env) ctx x
  item-at ctx [] i x at h = absurd cc
  item-at ctx (y ∷ xs) zero x at (h, hs) = let is : y ≡ x = cc in subst (ItemSorted (signatures env) ctx) is h
  item-at ctx (y ∷ xs) (suc i) x at (h, hs) = item-at ctx xs i x at hs

  pub holds-at : (hyps : List Tree) (xs : List (Item Tree)) (i : ℕ) (x : Item Tree) → slice_get xs i ≡ Some x → HeapHolds P env full hyps xs → Holds P env full hyps x
  holds-at hyps [] i x at h = absurd cc
  holds-at hyps (y ∷ xs) zero x at (h, hs) = let is : y ≡ x = cc in subst (Holds P env full hyps) is h
  holds-at hyps (y ∷ xs) (suc i) x at (h, hs) = holds-at hyps xs i x at hs

  pub sorted-push : (ctx : List Binder) (xs : List (Item Tree)) (x : Item Tree) → ItemsSorted (signatures env) ctx xs → ItemSorted (signatures env) ctx x → ItemsSorted (signatures env) ctx (xs ++ x ∷ [])
  sorted-push ctx [] x h hx = (hx, tt)
  sorted-push ctx (y ∷ xs) x (h, hs) hx = (h, sorted-push ctx xs x hs hx)

  pub holds-push : (hyps : List Tree) (xs : List (Item Tree)) (x : Item Tree) → HeapHolds P env full hyps xs → Holds P env full hyps x → HeapHolds P env full hyps (xs ++ x ∷ [])
  holds-push hyps [] x h hx = (hx, tt)
  holds-push hyps (y ∷ xs) x (h, hs) hx = (h, holds-push hyps xs x hs hx)

  pub claims-push : (ctx : List Binder) (es : List Tree) (e : Tree) → AreProvableClaims env ctx es → HasProvable env ctx e → AreProvableClaims env ctx (es ++ e ∷ [])
  claims-push ctx [] e h he = (he, tt)
  claims-push ctx (f ∷ es) e (h, hs) he = (h, claims-push ctx es e hs he)

  -- ---- what is popped

  abbrev pub ExprTop : List Binder → List Tree → Tree × List (Item Tree) → Type 0
  ExprTop ctx hyps r = Sorted (signatures env) ctx r.0 × ItemsSorted (signatures env) ctx r.1 × StackHolds P env full hyps r.1

  pub expr-top : (ctx : List Binder) (hyps : List Tree) (xs : List (Item Tree)) (r : Tree × List (Item Tree))
      → pop_expr xs ≡ Ok r → ItemsSorted (signatures env) ctx xs → StackHolds P env full hyps xs → ExprTop ctx hyps r
  expr-top ctx hyps [] r e s h = absurd cc
  expr-top ctx hyps (expr x ∷ xs) r e (sx, s) (hx, h) = subst (ExprTop ctx hyps) (taken-is (x, xs) r e) (sx, s, h tt)
  expr-top ctx hyps (proof x ∷ xs) r e s h = absurd cc
  expr-top ctx hyps (obligation a b ∷ xs) r e s h = absurd cc
  expr-top ctx hyps (conversion a b ∷ xs) r e s h = absurd cc

  abbrev pub ProofTop : List Binder → List Tree → Tree × List (Item Tree) → Type 0
  ProofTop ctx hyps r = Sorted (signatures env) ctx r.0 × Derivable P env full hyps r.0 × ItemsSorted (signatures env) ctx r.1 × StackHolds P env full hyps r.1

  pub proof-top : (ctx : List Binder) (hyps : List Tree) (xs : List (Item Tree)) (r : Tree × List (Item Tree))
      → pop_proof xs ≡ Ok r → ItemsSorted (signatures env) ctx xs → StackHolds P env full hyps xs → ProofTop ctx hyps r
  proof-top ctx hyps [] r e s h = absurd cc
  proof-top ctx hyps (proof x ∷ xs) r e (sx, s) (hx, h) = subst (ProofTop ctx hyps) (taken-is (x, xs) r e) (sx, hx, s, h tt)
  proof-top ctx hyps (expr x ∷ xs) r e s h = absurd cc
  proof-top ctx hyps (obligation a b ∷ xs) r e s h = absurd cc
  proof-top ctx hyps (conversion a b ∷ xs) r e s h = absurd cc

  abbrev pub ObligationTop : List Binder → List Tree → Tree × Tree × List (Item Tree) → Type 0
  ObligationTop ctx hyps r = Sorted (signatures env) ctx r.0 × Sorted (signatures env) ctx r.1 × ItemsSorted (signatures env) ctx r.2 × (Convertible P.gaps env full r.0 r.1 → StackHolds P env full hyps r.2)

  pub obligation-top : (ctx : List Binder) (hyps : List Tree) (xs : List (Item Tree)) (r : Tree × Tree × List (Item Tree))
      → pop_obligation xs ≡ Ok r → ItemsSorted (signatures env) ctx xs → StackHolds P env full hyps xs → ObligationTop ctx hyps r
  obligation-top ctx hyps [] r e s h = absurd cc
  obligation-top ctx hyps (obligation a b ∷ xs) r e (sx, s) (hx, h) = subst (ObligationTop ctx hyps) (taken-is (a, b, xs) r e) (sx.0, sx.1, s, h)
  obligation-top ctx hyps (expr x ∷ xs) r e s h = absurd cc
  obligation-top ctx hyps (proof x ∷ xs) r e s h = absurd cc
  obligation-top ctx hyps (conversion a b ∷ xs) r e s h = absurd cc

  abbrev pub ConversionTop : List Binder → List Tree → Tree × Tree × List (Item Tree) → Type 0
  ConversionTop ctx hyps r = Sorted (signatures env) ctx r.0 × Sorted (signatures env) ctx r.1 × Convertible P.gaps env full r.0 r.1 × ItemsSorted (signatures env) ctx r.2 × StackHolds P env full hyps r.2

  pub conversion-top : (ctx : List Binder) (hyps : List Tree) (xs : List (Item Tree)) (r : Tree × Tree × List (Item Tree))
      → pop_conversion xs ≡ Ok r → ItemsSorted (signatures env) ctx xs → StackHolds P env full hyps xs → ConversionTop ctx hyps r
  conversion-top ctx hyps [] r e s h = absurd cc
  conversion-top ctx hyps (conversion a b ∷ xs) r e (sx, s) (hx, h) = subst (ConversionTop ctx hyps) (taken-is (a, b, xs) r e) (sx.0, sx.1, hx, s, h tt)
  conversion-top ctx hyps (expr x ∷ xs) r e s h = absurd cc
  conversion-top ctx hyps (proof x ∷ xs) r e s h = absurd cc
  conversion-top ctx hyps (obligation a b ∷ xs) r e s h = absurd cc

  pub sides-top : (ctx : List Binder) (hyps : List Tree) (xs : List (Item Tree)) (o : Tree × Tree × List (Item Tree))
      → pop_sides strict xs ≡ Ok o → ItemsSorted (signatures env) ctx xs → StackHolds P env full hyps xs → ObligationTop ctx hyps o
  sides-top ctx hyps [] o e s h = absurd cc
  sides-top ctx hyps (expr m ∷ xs) o e (sx, s) (hx, h) =
      from_bind (pop_obligation xs) _ o e λ p popping e1.
      from_need (same_tree m p.0) k.Unfold _ o e1 λ same e2.
      subst (ObligationTop ctx hyps) (taken-is p o e2) (obligation-top ctx hyps xs p popping s (h tt))
  sides-top ctx hyps (obligation a b ∷ xs) o e (sx, s) (hx, h) = subst (ObligationTop ctx hyps) (taken-is (a, b, xs) o e) (sx.0, sx.1, s, h)
  sides-top ctx hyps (proof x ∷ xs) o e s h = absurd cc
  sides-top ctx hyps (conversion x y ∷ xs) o e s h = absurd cc

  -- n expressions on top of the stack have sorts, and what is below them holds as it did
  abbrev pub OperandsTop : List Binder → List Tree → ℕ → List Tree × List (Item Tree) → Type 0
  OperandsTop ctx hyps n r = AllSorted (signatures env) ctx r.0 × ItemsSorted (signatures env) ctx r.1 × StackHolds P env full hyps r.1 × (length r.0 ≡ n)

  popped : (ctx : List Binder) (hyps : List Tree) (n : ℕ) (xs : List (Item Tree)) (acc : List Tree) (r : List Tree × List (Item Tree))
      → pop_exprs n xs acc ≡ Ok r → ItemsSorted (signatures env) ctx xs → AllSorted (signatures env) ctx acc → StackHolds P env full hyps xs → OperandsTop ctx hyps (n + length acc) r
  popped ctx hyps zero xs acc r e sorted acc-sorted holds = subst (OperandsTop ctx hyps (0 + length acc)) (taken-is (acc, xs) r e) (acc-sorted, sorted, holds, omega arith)
  popped ctx hyps (suc n) [] acc r e sorted acc-sorted holds = absurd cc
  popped ctx hyps (suc n) (expr x ∷ xs) acc r e (x-sorted, sorted) acc-sorted (x-holds, holds) =
      let (a, b, c, d) = popped ctx hyps n xs (x ∷ acc) r e sorted (x-sorted, acc-sorted) (holds tt) in
      (a, b, c, omega arith)
  popped ctx hyps (suc n) (proof x ∷ xs) acc r e sorted acc-sorted holds = absurd cc
  popped ctx hyps (suc n) (obligation x y ∷ xs) acc r e sorted acc-sorted holds = absurd cc
  popped ctx hyps (suc n) (conversion x y ∷ xs) acc r e sorted acc-sorted holds = absurd cc

  pub operands-top : (ctx : List Binder) (hyps : List Tree) (n : ℕ) (xs : List (Item Tree)) (r : List Tree × List (Item Tree))
      → pop_operands n xs ≡ Ok r → ItemsSorted (signatures env) ctx xs → StackHolds P env full hyps xs → OperandsTop ctx hyps n r
  operands-top ctx hyps n xs r e sorted holds =
      from_need (leb n (length xs)) k.Underflow _ r e λ enough e1.
      let (a, b, c, d) = popped ctx hyps n xs [] r e1 sorted tt holds in
      (a, b, c, omega arith)

  -- ---- one more hypothesis

  holds-hyps : (hyps : List Tree) (h : Tree) → ((i : ℕ) (e : Tree) → slice_get hyps i ≡ Some e → slice_get (hyps ++ h ∷ []) i ≡ Some e)
  holds-hyps [] h i e at = absurd cc
  holds-hyps (g ∷ hyps) h zero e at = at
  holds-hyps (g ∷ hyps) h (suc i) e at = holds-hyps hyps h i e at

  mutual
    derives-more : (hs gs : Trees) → ((i : ℕ) (e : Tree) → slice_get (listed hs) i ≡ Some e → slice_get (listed gs) i ≡ Some e) → (d : Derivation) (e : Tree) → Derives env full hs d e → Derives env full gs d e
    derives-more hs gs front (hypothesis i) e h = front i e h
    derives-more hs gs front (cite T es ds) e (a, at, is, fits, apart, h) = (a, at, is, fits, apart, all-derive-more hs gs front ds _ h)
    derives-more hs gs front (convert f c d) e (is, (g, between, h)) = (is, (g, between, derives-more hs gs front d g h))
    derives-more hs gs front (gap f) e h = h

    all-derive-more : (hs gs : Trees) → ((i : ℕ) (e : Tree) → slice_get (listed hs) i ≡ Some e → slice_get (listed gs) i ≡ Some e) → (ds : Derivations) (es : Trees) → AllDerive env full hs ds es → AllDerive env full gs ds es
    all-derive-more hs gs front no_derivs none h = tt
    all-derive-more hs gs front no_derivs (more e es) h = absurd h
    all-derive-more hs gs front (more_derivs d ds) none h = absurd h
    all-derive-more hs gs front (more_derivs d ds) (more e es) (h, rest) = (derives-more hs gs front d e h, all-derive-more hs gs front ds es rest)

  item-hyps : (hyps : List Tree) (h : Tree) (x : Item Tree) → Holds P env full hyps x → Holds P env full (hyps ++ h ∷ []) x
  item-hyps hyps h (expr e) t = t
  item-hyps hyps h (proof e) (d, cites, derives) = (
    d,
    cites,
    derives-more (trees_of hyps) (trees_of (hyps ++ h ∷ []))
        (λ i e' at. subst (λ (z : List Tree). slice_get z i ≡ Some e') (sym (listed-trees_of (hyps ++ h ∷ []))) (holds-hyps hyps h i e' (subst (λ (z : List Tree). slice_get z i ≡ Some e') (listed-trees_of hyps) at))) d e derives,
  )
  item-hyps hyps h (obligation a b) t = t
  item-hyps hyps h (conversion a b) t = t

  pub heap-hyps : (hyps : List Tree) (h : Tree) (xs : List (Item Tree)) → HeapHolds P env full hyps xs → HeapHolds P env full (hyps ++ h ∷ []) xs
  heap-hyps hyps h [] t = t
  heap-hyps hyps h (x ∷ xs) (t, ts) = (item-hyps hyps h x t, heap-hyps hyps h xs ts)

  pub stack-hyps : (hyps : List Tree) (h : Tree) (xs : List (Item Tree)) → StackHolds P env full hyps xs → StackHolds P env full (hyps ++ h ∷ []) xs
  stack-hyps hyps h [] t = t
  stack-hyps hyps h (x ∷ xs) (t, ts) = (item-hyps hyps h x t, λ paid. stack-hyps hyps h xs (ts paid))

  -- ---- the proofs that a citation takes

  abbrev pub EachDerivable : List Tree → List Tree → Type 0
  EachDerivable hyps [] = Unit {0}
  EachDerivable hyps (e ∷ es) = Derivable P env full hyps e × EachDerivable hyps es

  each-split : (hyps xs : List Tree) (y : Tree) → EachDerivable hyps (xs ++ y ∷ []) → EachDerivable hyps xs × Derivable P env full hyps y
  each-split hyps [] y (d, t) = (tt, d)
  each-split hyps (x ∷ xs) y (d, ds) = let (es, last) = each-split hyps xs y ds in ((d, es), last)

  pub each-reverse : (hyps hs : List Tree) → EachDerivable hyps (reverse hs) → EachDerivable hyps hs
  each-reverse hyps [] t = tt
  each-reverse hyps (h ∷ hs) ds =
      let (es, last) = each-split hyps (reverse hs) h (subst (EachDerivable hyps) (reverse-append (h ∷ []) hs) ds) in
      (last, each-reverse hyps hs es)

  pub derive-all : (hyps hs : List Tree) → EachDerivable hyps hs → (ds : Derivations) × AllCiteOnly P ds × AllDerive env full (trees_of hyps) ds (trees_of hs)
  derive-all hyps [] t = (no_derivs, tt, tt)
  derive-all hyps (h ∷ hs) ((d, cites, derives), ds) = let (ps, cite-all, all) = derive-all hyps hs ds in (more_derivs d ps, (cites, cite-all), (derives, all))

  pub proofs-below : (hyps xs : List Tree) (rest : List (Item Tree)) → StackHolds P env full hyps (map proof xs ++ rest) → EachDerivable hyps xs × StackHolds P env full hyps rest
  proofs-below hyps [] rest h = (tt, h)
  proofs-below hyps (x ∷ xs) rest (d, h) = let (ds, below) = proofs-below hyps xs rest (h tt) in ((d, ds), below)

  pub sorted-below : (ctx : List Binder) (xs : List Tree) (rest : List (Item Tree)) → ItemsSorted (signatures env) ctx (map proof xs ++ rest) → ItemsSorted (signatures env) ctx rest
  sorted-below ctx [] rest h = h
  sorted-below ctx (x ∷ xs) rest (s, h) = sorted-below ctx xs rest h

  -- ---- the sides of a congruence

  pub sides-sorted : (ctx : List Binder) (ls rs : List Tree) (xs : List (Item Tree)) → AllSorted (signatures env) ctx ls → AllSorted (signatures env) ctx rs → ItemsSorted (signatures env) ctx xs → ItemsSorted (signatures env) ctx (sides ls rs xs)
  sides-sorted ctx [] rs xs l r h = h
  sides-sorted ctx (l ∷ ls) [] xs sl sr h = h
  sides-sorted ctx (l ∷ ls) (r ∷ rs) xs (l-sorted, sl) (r-sorted, sr) h = ((l-sorted, r-sorted), sides-sorted ctx ls rs xs sl sr h)

  pub sides-hold : (hyps ls rs : List Tree) (xs : List (Item Tree)) → length ls ≡ length rs
      → ((cs : Conversions) → AllGapsOnly P.gaps cs → AllBetween env full cs (trees_of ls) (trees_of rs) → StackHolds P env full hyps xs) → StackHolds P env full hyps (sides ls rs xs)
  sides-hold hyps [] [] xs len then = then no_convs tt tt
  sides-hold hyps [] (r ∷ rs) xs len then = absurd (omega arith)
  sides-hold hyps (l ∷ ls) [] xs len then = absurd (omega arith)
  sides-hold hyps (l ∷ ls) (r ∷ rs) xs len then =
      (tt, λ paid. sides-hold hyps ls rs xs (omega arith) λ cs few all. then (more_convs paid.0 cs) (paid.1, few) (paid.2, all))

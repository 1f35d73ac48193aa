-- What is spelled over n parameters has only these and the dummies that were met.
use Rattle.std.proofs.Common.{◌≡◌, ℕ, zero, suc, ◌+◌, ◌≤◌, ◌<◌, List, [], ◌∷◌, ◌++◌, length, Some, sym, ap, subst, inl, inr, arith, length-append}
use Rattle.std.specs.Prelude.{slice_get, reverse}
use Rattle.mz_logic_theory.specs.Tree.{Tree, Trees, var, app, none, more, listed, size, trees_size}
use Rattle.mz_logic_theory.specs.Signature.{Signature}
use Rattle.mz_logic_theory.specs.Variables.{Occurs, OccursIn}
use Rattle.mz_logic_theory.specs.declared.binder.Binder.{Binder}
use Rattle.mz_machine_theory.specs.Streams.{StreamKind, UnifyCommand}
use Rattle.mz_machine_theory.specs.Spells.{dummy_of, Marks, marked, Spells, SpellsAll, SpellsHyps, variables_from, at_first, SpellsText, Text}

-- each variable is below n
abbrev mutual
  pub Below : ℕ → Tree → Type 0
  Below n (var x) = x < n
  Below n (app t es) = AllBelow n es

  pub AllBelow : ℕ → Trees → Type 0
  AllBelow n none = Unit {0}
  AllBelow n (more e es) = Below n e × AllBelow n es

abbrev pub EachBelow : ℕ → List Tree → Type 0
EachBelow n [] = Unit {0}
EachBelow n (e ∷ es) = Below n e × EachBelow n es

-- the marks of at most this size are below
abbrev pub MarksBelow : ℕ → List Tree → ℕ → Type 0
MarksBelow top marks k = (i : ℕ) (q : Tree) → slice_get marks i ≡ Some q → size q ≤ k → Below top q

marks-push : (top : ℕ) (marks : List Tree) (k : ℕ) (e : Tree) → MarksBelow top marks k → (size e ≤ k → Below top e) → MarksBelow top (marks ++ e ∷ []) k
marks-push top [] k e h he zero q at small = let is : e ≡ q = cc in subst (Below top) is (he (subst (λ (z : Tree). size z ≤ k) (sym is) small))
marks-push top [] k e h he (suc i) q at small = absurd cc
marks-push top (f ∷ marks) k e h he zero q at small = h zero q at small
marks-push top (f ∷ marks) k e h he (suc i) q at small = marks-push top marks k e (λ j r. h (suc j) r) he i q at small

module _ (n : ℕ) (sigs : List Signature) where
  mutual
    -- the dummies only grow
    grows : (p : Tree) (m m' : Marks) (us us' : List UnifyCommand) → Spells n sigs m us p m' us' → length m.dummies ≤ length m'.dummies
    grows (var x) m m' us us' (inl (i, _, _, is)) = omega (arith, ap (λ (z : Marks). length z.dummies) is)
    grows (var x) m m' us us' (inr (s, _, _, is)) = omega (arith, ap (λ (z : Marks). length z.dummies) is, length-append m.dummies (dummy_of s ∷ []))
    grows (app t es) m m' us us' (inl (i, _, _, is)) = omega (arith, ap (λ (z : Marks). length z.dummies) is)
    grows (app t es) m m' us us' (inr (inl (rest, _, _, all))) = all-grow es m m' rest us' all
    grows (app t es) m m' us us' (inr (inr (rest, _, _, all))) = all-grow es (marked m (app t es)) m' rest us' all

    all-grow : (es : Trees) (m m' : Marks) (us us' : List UnifyCommand) → SpellsAll n sigs m us es m' us' → length m.dummies ≤ length m'.dummies
    all-grow none m m' us us' (is, _) = omega (arith, ap (λ (z : Marks). length z.dummies) is)
    all-grow (more e es) m m' us us' (mid, rest, first, others) = omega (arith, grows e m mid us rest first, all-grow es mid m' rest us' others)

  module _ (top : ℕ) where
    mutual
      below : (p : Tree) (m m' : Marks) (us us' : List UnifyCommand) → Spells n sigs m us p m' us' → n + length m'.dummies ≤ top → MarksBelow top m.trees (size p)
          → Below top p × ((k : ℕ) → MarksBelow top m.trees k → MarksBelow top m'.trees k)
      below (var x) m m' us us' (inl (i, _, at, is)) le ok = (ok i (var x) at (omega arith), λ k h. subst (λ (z : Marks). MarksBelow top z.trees k) (sym is) h)
      below (var x) m m' us us' (inr (s, _, x-is, is)) le ok =
          let x-below : x < top = omega (arith, ap (λ (z : Marks). length z.dummies) is, length-append m.dummies (dummy_of s ∷ [])) in
          (x-below, λ k h. subst (λ (z : Marks). MarksBelow top z.trees k) (sym is) (marks-push top m.trees k (var x) h λ _. x-below))
      below (app t es) m m' us us' (inl (i, _, at, is)) le ok = (ok i (app t es) at (omega arith), λ k h. subst (λ (z : Marks). MarksBelow top z.trees k) (sym is) h)
      below (app t es) m m' us us' (inr (inl (rest, _, _, all))) le ok = all-below es m m' rest us' all le λ i q at small. ok i q at (omega arith)
      below (app t es) m m' us us' (inr (inr (rest, _, _, all))) le ok =
          let (es-below, keep) = all-below es (marked m (app t es)) m' rest us' all le
          (marks-push top m.trees (trees_size es) (app t es) (λ i q at small. ok i q at (omega arith)) λ small. absurd (omega arith)) in
          (es-below, λ k h. keep k (marks-push top m.trees k (app t es) h λ _. es-below))

      all-below : (es : Trees) (m m' : Marks) (us us' : List UnifyCommand) → SpellsAll n sigs m us es m' us' → n + length m'.dummies ≤ top → MarksBelow top m.trees (trees_size es)
          → AllBelow top es × ((k : ℕ) → MarksBelow top m.trees k → MarksBelow top m'.trees k)
      all-below none m m' us us' (is, _) le ok = (tt, λ k h. subst (λ (z : Marks). MarksBelow top z.trees k) (sym is) h)
      all-below (more e es) m m' us us' (mid, rest, first, others) le ok =
          let (e-below, keep) = below e m mid us rest first (omega (arith, all-grow es mid m' rest us' others)) λ i q at small. ok i q at (omega arith) in
          let (es-below, keep') = all-below es mid m' rest us' others le (keep (trees_size es) λ i q at small. ok i q at (omega arith)) in
          ((e-below, es-below), λ k h. keep' k (keep k h))

    hyps-grow : (hs : List Tree) (m last : Marks) (us : List UnifyCommand) → SpellsHyps n sigs m us hs last → length m.dummies ≤ length last.dummies
    hyps-grow [] m last us (_, is) = omega (arith, ap (λ (z : Marks). length z.dummies) is)
    hyps-grow (e ∷ hs) m last us (rest, mid, us', _, first, others) = omega (arith, grows e m mid rest us' first, hyps-grow hs mid last us' others)

    hyps-below : (hs : List Tree) (m last : Marks) (us : List UnifyCommand) → SpellsHyps n sigs m us hs last → n + length last.dummies ≤ top → ((k : ℕ) → MarksBelow top m.trees k)
        → EachBelow top hs × ((k : ℕ) → MarksBelow top last.trees k)
    hyps-below [] m last us (_, is) le ok = (tt, λ k. subst (λ (z : Marks). MarksBelow top z.trees k) (sym is) (ok k))
    hyps-below (e ∷ hs) m last us (rest, mid, us', _, first, others) le ok =
        let (e-below, keep) = below e m mid rest us' first (omega (arith, hyps-grow hs mid last us' others)) (ok (size e)) in
        let (hs-below, marks-below) = hyps-below hs mid last us' others le (λ k. keep k (ok k)) in
        ((e-below, hs-below), marks-below)

first-below : (j : ℕ) (ps : List Binder) (top k : ℕ) → j + length ps ≤ top → MarksBelow top (variables_from j ps) k
first-below j [] top k le i q at small = absurd cc
first-below j (p ∷ ps) top k le zero q at small = let is : var j ≡ q = cc in subst (Below top) is (omega arith)
first-below j (p ∷ ps) top k le (suc i) q at small = first-below (suc j) ps top k (omega arith) i q at small

-- an assertion or body that is spelled, and its marks, have only parameters and dummies that were met
pub text-below : (kind : StreamKind) (sigs : List Signature) (params : List Binder) (stream : List ℕ) (hyps : Trees) (e : Tree) (last : Marks) → SpellsText kind sigs params stream hyps e last
    → Below (length params + length last.dummies) e × EachBelow (length params + length last.dummies) (reverse (listed hyps)) × ((k : ℕ) → MarksBelow (length params + length last.dummies) last.trees k)
text-below kind sigs params stream hyps e last (us, _, mid, rest, spells, others) =
    let top : ℕ = length params + length last.dummies in
    let start : (k : ℕ) → MarksBelow top (variables_from 0 params) k = λ k. first-below 0 params top k (omega arith) in
    let (e-below, keep) = below (length params) sigs top e (at_first params) mid us rest spells (omega (arith, hyps-grow (length params) sigs top (reverse (listed hyps)) mid last rest others)) (start (size e)) in
    let (hs-below, marks-below) = hyps-below (length params) sigs top (reverse (listed hyps)) mid last rest others (omega arith) (λ k. keep k (start k)) in
    (e-below, hs-below, marks-below)

pub text-met : (kind : StreamKind) (sigs : List Signature) (params : List Binder) (stream : List ℕ) (hyps : Trees) (e : Tree) (dummies : List Binder) → Text kind sigs params stream hyps e dummies
    → Below (length params + length dummies) e × EachBelow (length params + length dummies) (reverse (listed hyps))
text-met kind sigs params stream hyps e dummies (last, text, are) =
    let (e-below, hs-below, _) = text-below kind sigs params stream hyps e last text in
    subst (λ (z : List Binder). Below (length params + length z) e × EachBelow (length params + length z) (reverse (listed hyps))) are (e-below, hs-below)

mutual
  pub below-occurs : (n : ℕ) (e : Tree) → Below n e → (y : ℕ) → Occurs y e → y < n
  below-occurs n (var x) lt y is = subst (λ (z : ℕ). z < n) (sym is) lt
  below-occurs n (app t es) below y occurs = all-occurs n es below y occurs

  all-occurs : (n : ℕ) (es : Trees) → AllBelow n es → (y : ℕ) → OccursIn y es → y < n
  all-occurs n none below y occurs = absurd occurs
  all-occurs n (more e es) (b, bs) y (inl here) = below-occurs n e b y here
  all-occurs n (more e es) (b, bs) y (inr there) = all-occurs n es bs y there

-- Works that are right: what is taken from them, and what is put in.
use Rattle.std.proofs.Common.{◌≡◌, ℕ, zero, suc, List, [], ◌∷◌, ◌++◌, map, Some, refl, ap, subst, ◌∙◌, inl, inr}
use Rattle.std.specs.Prelude.{slice_get, Contains, reverse}
use Rattle.std.proofs.lemmas.List.{reverse-append, map-append}
use Rattle.std.proofs.lemmas.List.Elements.{Contains-append_left}
use Rattle.mz_logic_theory.specs.Tree.{Tree, Trees, app, none, more, listed}
use Rattle.mz_logic_theory.specs.Signature.{Signature}
use Rattle.mz_logic_theory.specs.Sorts.{Fits}
use Rattle.mz_logic_theory.specs.Variables.{OccursIn}
use Rattle.mz_logic_theory.specs.declared.binder.Binder.{Binder}
use Rattle.mz_machine_theory.specs.Spells.{trees_of}
use Rattle.mz_machine_theory.specs.Profile.{Item, expr, proof, obligation, conversion}
use Rattle.mz_machine_theory.specs.Sorted.{Sorted, AllSorted, ItemSorted, ItemsSorted}
use Rattle.mz_machine_theory.proofs.Offered.{map-reverse}
use Rattle.mz_machine_theory.specs.ProofMachine.{sides}
use Rattle.mz_emit_theory.specs.SymbolicState.{renamed, item_renamed, name_in, met_binders}
use Rattle.mz_emit_theory.specs.Steps.{above}
use Rattle.mz_emit_theory.specs.BodyLaws.{IsRightTree, IsRightItem, AreRightItems, AreRightTrees}
use Rattle.mz_emit_theory.proofs.Naming.{DepsAreKept, place-more, renamed-alike, sort-forward}

module _ (sigs : List Signature) (ctx : List Binder) (met : List ℕ) where
  abbrev Right : Tree → Type 0
  Right e = IsRightTree sigs ctx met e

  abbrev RightItem : Item Tree → Type 0
  RightItem x = IsRightItem sigs ctx met x

  abbrev RightItems : List (Item Tree) → Type 0
  RightItems xs = AreRightItems sigs ctx met xs

  abbrev RightTrees : List Tree → Type 0
  RightTrees es = AreRightTrees sigs ctx met es

  -- ---- lists

  pub right-at : (xs : List (Item Tree)) (i : ℕ) (x : Item Tree) → slice_get xs i ≡ Some x → RightItems xs → RightItem x
  right-at [] i x at h = absurd cc
  right-at (y ∷ xs) zero x at (h, hs) = let is : y ≡ x = cc in subst RightItem is h
  right-at (y ∷ xs) (suc i) x at (h, hs) = right-at xs i x at hs

  pub right-push : (xs : List (Item Tree)) (x : Item Tree) → RightItems xs → RightItem x → RightItems (xs ++ x ∷ [])
  right-push [] x h hx = (hx, tt)
  right-push (y ∷ xs) x (h, hs) hx = (h, right-push xs x hs hx)

  pub trees-push : (es : List Tree) (e : Tree) → RightTrees es → Right e → RightTrees (es ++ e ∷ [])
  trees-push [] e h he = (he, tt)
  trees-push (f ∷ es) e (h, hs) he = (h, trees-push es e hs he)

  pub right-split : (xs ys : List (Item Tree)) → RightItems (xs ++ ys) → RightItems xs × RightItems ys
  right-split [] ys h = (tt, h)
  right-split (x ∷ xs) ys (h, hs) = let (front, back) = right-split xs ys hs in ((h, front), back)

  pub trees-split : (es fs : List Tree) → RightTrees (es ++ fs) → RightTrees es × RightTrees fs
  trees-split [] fs h = (tt, h)
  trees-split (e ∷ es) fs (h, hs) = let (front, back) = trees-split es fs hs in ((h, front), back)

  pub trees-reverse : (es : List Tree) → RightTrees (reverse es) → RightTrees es
  trees-reverse [] h = tt
  trees-reverse (e ∷ es) h =
      let (rest, last) = trees-split (reverse es) (e ∷ []) (subst RightTrees (reverse-append (e ∷ []) es) h) in
      (last.0, trees-reverse es rest)

  pub right-exprs : (es : List Tree) → RightItems (map expr es) → RightTrees es
  right-exprs [] h = tt
  right-exprs (e ∷ es) (h, hs) = (h, right-exprs es hs)

  pub right-proofs : (es : List Tree) → RightItems (map proof es) → RightTrees es
  right-proofs [] h = tt
  right-proofs (e ∷ es) (h, hs) = (h, right-proofs es hs)

  pub right-above : (es : List Tree) (rest : List (Item Tree)) → RightItems (above es rest) → RightTrees es × RightItems rest
  right-above es rest h = let (front, back) = right-split (map expr (reverse es)) rest h in (trees-reverse es (right-exprs (reverse es) front), back)

  pub known-of : (es : List Tree) → RightTrees es → (y : ℕ) → OccursIn y (trees_of es) → Contains met y
  known-of [] h y o = absurd o
  known-of (e ∷ es) ((_, known), hs) y (inl o) = known y o
  known-of (e ∷ es) (h, hs) y (inr o) = known-of es hs y o

  -- ---- operands of an application

  pub right-operands : (es : Trees) (ps : List Binder) → Fits sigs ctx es ps → ((y : ℕ) → OccursIn y es → Contains met y) → RightTrees (listed es)
  right-operands none ps fits known = tt
  right-operands (more e es) [] fits known = absurd fits
  right-operands (more e es) (p ∷ ps) (has, _, fits) known = (((p.sort, has), λ y o. known y (inl o)), right-operands es ps fits λ y o. known y (inr o))

  pub right-parts : (t : ℕ) (es : Trees) → Right (app t es) → RightTrees (listed es)
  right-parts t es ((s, (d, _, _, fits)), known) = right-operands es d.params fits known

  pub right-sides : (ls rs : List Tree) (rest : List (Item Tree)) → RightTrees ls → RightTrees rs → RightItems rest → RightItems (sides ls rs rest)
  right-sides (l ∷ ls) (r ∷ rs) rest (hl, hls) (hr, hrs) h = ((hl, hr), right-sides ls rs rest hls hrs h)
  right-sides _ _ rest hl hr h = h

  -- ---- the machine's expressions have sorts

  module _ (deps : DepsAreKept ctx met) where
    abbrev g : ℕ → ℕ
    g = name_in met

    pub sorted-forward : (e : Tree) → Right e → Sorted sigs (met_binders ctx met) (renamed g e)
    sorted-forward e ((s, has), known) = (s, sort-forward sigs ctx met deps e s known has)

    pub item-sorted : (x : Item Tree) → RightItem x → ItemSorted sigs (met_binders ctx met) (item_renamed g x)
    item-sorted (expr e) h = sorted-forward e h
    item-sorted (proof e) h = sorted-forward e h
    item-sorted (obligation l r) (hl, hr) = (sorted-forward l hl, sorted-forward r hr)
    item-sorted (conversion l r) (hl, hr) = (sorted-forward l hl, sorted-forward r hr)

    pub items-sorted : (xs : List (Item Tree)) → RightItems xs → ItemsSorted sigs (met_binders ctx met) (map (item_renamed g) xs)
    items-sorted [] h = tt
    items-sorted (x ∷ xs) (h, hs) = (item-sorted x h, items-sorted xs hs)

    pub trees-sorted : (es : List Tree) → RightTrees es → AllSorted sigs (met_binders ctx met) (map (renamed g) es)
    trees-sorted [] h = tt
    trees-sorted (e ∷ es) (h, hs) = (sorted-forward e h, trees-sorted es hs)

-- ---- renaming of items

module _ (g : ℕ → ℕ) where
  pub renamed-exprs : (es : List Tree) → map (item_renamed g) (map expr es) ≡ map expr (map (renamed g) es)
  renamed-exprs [] = refl
  renamed-exprs (e ∷ es) = ap (λ (z : List (Item Tree)). expr (renamed g e) ∷ z) (renamed-exprs es)

  pub renamed-proofs : (es : List Tree) → map (item_renamed g) (map proof es) ≡ map proof (map (renamed g) es)
  renamed-proofs [] = refl
  renamed-proofs (e ∷ es) = ap (λ (z : List (Item Tree)). proof (renamed g e) ∷ z) (renamed-proofs es)

  pub renamed-above : (es : List Tree) (rest : List (Item Tree)) → map (item_renamed g) (above es rest) ≡ above (map (renamed g) es) (map (item_renamed g) rest)
  renamed-above es rest =
      map-append (item_renamed g) (map expr (reverse es)) rest
      ∙ ap (λ (z : List (Item Tree)). z ++ map (item_renamed g) rest) (renamed-exprs (reverse es) ∙ ap (map expr) (map-reverse (renamed g) es))

  pub renamed-hyps : (hs : List Tree) (rest : List (Item Tree)) → map (item_renamed g) (map proof (reverse hs) ++ rest) ≡ map proof (reverse (map (renamed g) hs)) ++ map (item_renamed g) rest
  renamed-hyps hs rest =
      map-append (item_renamed g) (map proof (reverse hs)) rest
      ∙ ap (λ (z : List (Item Tree)). z ++ map (item_renamed g) rest) (renamed-proofs (reverse hs) ∙ ap (map proof) (map-reverse (renamed g) hs))

  pub renamed-sides : (ls rs : List Tree) (rest : List (Item Tree)) → map (item_renamed g) (sides ls rs rest) ≡ sides (map (renamed g) ls) (map (renamed g) rs) (map (item_renamed g) rest)
  renamed-sides (l ∷ ls) (r ∷ rs) rest = ap (λ (z : List (Item Tree)). obligation (renamed g l) (renamed g r) ∷ z) (renamed-sides ls rs rest)
  renamed-sides _ _ rest = refl

-- ---- one variable more

module _ (sigs : List Signature) (ctx : List Binder) (met : List ℕ) (x : ℕ) where
  abbrev met' : List ℕ
  met' = met ++ x ∷ []

  pub tree-more : (e : Tree) → IsRightTree sigs ctx met e → IsRightTree sigs ctx met' e
  tree-more e (sorted, known) = (sorted, λ y o. Contains-append_left met (x ∷ []) y (known y o))

  pub item-more : (i : Item Tree) → IsRightItem sigs ctx met i → IsRightItem sigs ctx met' i
  item-more (expr e) h = tree-more e h
  item-more (proof e) h = tree-more e h
  item-more (obligation l r) (hl, hr) = (tree-more l hl, tree-more r hr)
  item-more (conversion l r) (hl, hr) = (tree-more l hl, tree-more r hr)

  pub items-more : (xs : List (Item Tree)) → AreRightItems sigs ctx met xs → AreRightItems sigs ctx met' xs
  items-more [] h = tt
  items-more (i ∷ xs) (h, hs) = (item-more i h, items-more xs hs)

  pub trees-more : (es : List Tree) → AreRightTrees sigs ctx met es → AreRightTrees sigs ctx met' es
  trees-more [] h = tt
  trees-more (e ∷ es) (h, hs) = (tree-more e h, trees-more es hs)

  -- the names stay
  pub tree-alike : (e : Tree) → IsRightTree sigs ctx met e → renamed (name_in met') e ≡ renamed (name_in met) e
  tree-alike e (_, known) = renamed-alike (name_in met') (name_in met) e λ y o. place-more met y x (known y o)

  item-alike : (i : Item Tree) → IsRightItem sigs ctx met i → item_renamed (name_in met') i ≡ item_renamed (name_in met) i
  item-alike (expr e) h = ap expr (tree-alike e h)
  item-alike (proof e) h = ap proof (tree-alike e h)
  item-alike (obligation l r) (hl, hr) = ap (λ (z : Tree). obligation z (renamed (name_in met') r)) (tree-alike l hl) ∙ ap (obligation (renamed (name_in met) l)) (tree-alike r hr)
  item-alike (conversion l r) (hl, hr) = ap (λ (z : Tree). conversion z (renamed (name_in met') r)) (tree-alike l hl) ∙ ap (conversion (renamed (name_in met) l)) (tree-alike r hr)

  pub items-alike : (xs : List (Item Tree)) → AreRightItems sigs ctx met xs → map (item_renamed (name_in met')) xs ≡ map (item_renamed (name_in met)) xs
  items-alike [] h = refl
  items-alike (i ∷ xs) (h, hs) = ap (λ (z : Item Tree). z ∷ map (item_renamed (name_in met')) xs) (item-alike i h) ∙ ap (λ (z : List (Item Tree)). item_renamed (name_in met) i ∷ z) (items-alike xs hs)

  pub trees-alike : (es : List Tree) → AreRightTrees sigs ctx met es → map (renamed (name_in met')) es ≡ map (renamed (name_in met)) es
  trees-alike [] h = refl
  trees-alike (e ∷ es) (h, hs) = ap (λ (z : Tree). z ∷ map (renamed (name_in met')) es) (tree-alike e h) ∙ ap (λ (z : List Tree). renamed (name_in met) e ∷ z) (trees-alike es hs)

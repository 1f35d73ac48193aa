-- The stack for which the written items and the open equations stand.
use Rattle.std.proofs.Common.{◌≡◌, ◌≤◌, ◌<◌, ◌+◌, ◌-◌, ◌⊎◌, inl, inr, ℕ, suc, Bool, true, false, List, [], ◌∷◌, ◌++◌, length, take, drop, Option, Some, None, refl, sym, ap, subst, ◌∙◌, arith, length-append, slice_get, add-one, min}
use Rattle.std.specs.Prelude.{nat_lt, reverse, option_to_list, map}
use Rattle.std.specs.Option.{option_map}
use Rattle.std.proofs.lemmas.Option.{slice_get-map}
use Rattle.std.proofs.lemmas.List.{take_at, drop_at, length-map, reverse-append, length-drop, take-append-drop}
use Rattle.std.proofs.lemmas.Bool.{ltb-true, ltb-false}
use Rattle.mz_base.proofs.Offered.{drop-past}
use Rattle.mz_store.specs.declared.item.Id.{Id}
use Rattle.mz_machine_theory.specs.Profile.{Item, obligation}
use Rattle.mz_machine_env.proofs.Offered.{next-at}
use Rattle.mz_machine_theory.specs.ProofMachine.{sides}
use Rattle.mz_machine.specs.OpenEquations.{IsBarrier, IsBarred, Expressions, to_come, after, above, below, whole_stack, many_at, IsOpen, AreOpen, IsInHand, AreSettled, many_to_come}
use Rattle.mz_machine.specs.declared.equations.Equation.{Equation}
use Rattle.mz_machine.proofs.ConversionRows.{no-right}
use Rattle.mz_machine.proofs.Barred.{still-barred}
use Rattle.mz_machine.proofs.BarredRows.{on-barrier}

-- ---- two parts of a list

length-less : {A : Type 0} (xs ys : List A) (n : ℕ) → length ys ≡ n → length (xs ++ ys) - n ≡ length xs
length-less xs ys n is = omega (arith, length-append xs ys, is)

pub above-is : {T : Type 0} (xs ys : List (Item T)) (n : ℕ) → length ys ≡ n → above (xs ++ ys) n ≡ xs
above-is xs ys n is = ap (λ k. take k (xs ++ ys)) (length-less xs ys n is) ∙ take_at xs ys (length xs) refl

pub below-is : {T : Type 0} (xs ys : List (Item T)) (n : ℕ) → length ys ≡ n → below (xs ++ ys) n ≡ ys
below-is xs ys n is = ap (λ k. drop k (xs ++ ys)) (length-less xs ys n is) ∙ drop_at xs ys (length xs) refl

pub below-many : {T : Type 0} (xs : List (Item T)) (n : ℕ) → n ≤ length xs → length (below xs n) ≡ n
below-many xs n le = omega (arith, length-drop (length xs - n) xs, le)

-- ---- more ids

-- those that are there stay, with their operands
abbrev pub AreKept : {T : Type 0} → Expressions T → Expressions T → Type 0
AreKept s s' = (i : Id) → s.is_in i.0 → s'.is_in i.0 × (s'.operands i ≡ s.operands i)

pub the-same : {T : Type 0} (s : Expressions T) → AreKept s s
the-same s i inside = (inside, refl)

module _ {T : Type 0} (s s' : Expressions T) (keeps : AreKept s s') where
  pub to-come-kept : (e : Equation) → IsOpen s e → (xs : List (Item T)) → to_come s' e xs ≡ to_come s e xs
  to-come-kept e is xs = rw ((keeps e.left is.left_in).1, (keeps e.right is.right_in).1) refl

  pub open-kept : (e : Equation) → IsOpen s e → IsOpen s' e
  open-kept e is = record {
    left_in = (keeps e.left is.left_in).0;
    right_in = (keeps e.right is.right_in).0;
    more = rw ((keeps e.left is.left_in).1, (keeps e.right is.right_in).1) is.more;
  }

  pub all-kept : (es : List Equation) (xs : List (Item T)) → AreOpen s es xs → AreOpen s' es xs
  all-kept [] xs stand = tt
  all-kept (e ∷ es) xs (is, le, barred, rest) = (open-kept e is, le, barred, all-kept es (below xs e.height) rest)

  pub whole-kept : (es : List Equation) (xs : List (Item T)) → AreOpen s es xs → whole_stack s' es xs ≡ whole_stack s es xs
  whole-kept [] xs stand = refl
  whole-kept (e ∷ es) xs (is, le, barred, rest) =
      ap (λ ys. above xs e.height ++ ys) (to-come-kept e is (whole_stack s' es (below xs e.height)) ∙ ap (to_come s e) (whole-kept es (below xs e.height) rest))

-- ---- one item more

module _ {T : Type 0} (s : Expressions T) (x : Item T) where
  above-more : (xs : List (Item T)) (n : ℕ) → n ≤ length xs → above (x ∷ xs) n ≡ x ∷ above xs n
  above-more xs n le = let one : suc (length xs) - n ≡ suc (length xs - n) = omega (arith, le) in ap (λ k. take k (x ∷ xs)) one

  below-more : (xs : List (Item T)) (n : ℕ) → n ≤ length xs → below (x ∷ xs) n ≡ below xs n
  below-more xs n le = let one : suc (length xs) - n ≡ suc (length xs - n) = omega (arith, le) in ap (λ k. drop k (x ∷ xs)) one

  pub whole-more : (es : List Equation) (xs : List (Item T)) → AreOpen s es xs → whole_stack s es (x ∷ xs) ≡ x ∷ whole_stack s es xs
  whole-more [] xs stand = refl
  whole-more (e ∷ es) xs (is, le, barred, rest) = rw (above-more xs e.height le, below-more xs e.height le) refl

  pub all-more : IsBarrier x → (es : List Equation) (xs : List (Item T)) → AreOpen s es xs → AreOpen s es (x ∷ xs)
  all-more is [] xs stand = tt
  all-more is (e ∷ es) xs (at, le, barred, rest) = (
    at,
    omega (arith, le),
    subst IsBarred (sym (above-more xs e.height le)) (on-barrier x (above xs e.height) is barred),
    subst (AreOpen s es) (sym (below-more xs e.height le)) rest,
  )

  -- one less, where it was in hand
  pub all-less : (es : List Equation) (xs : List (Item T)) → AreSettled s es (x ∷ xs) → AreOpen s es xs
  all-less [] xs settled = tt
  all-less (e ∷ es) xs ((at, le, barred, rest), less) =
      let fits : e.height ≤ length xs = omega (arith, less) in (
        at,
        fits,
        still-barred x (above xs e.height) (subst IsBarred (above-more xs e.height fits) barred),
        subst (AreOpen s es) (below-more xs e.height fits) rest,
      )

-- ---- nothing above

above-none : {T : Type 0} (xs : List (Item T)) (n : ℕ) → length xs ≡ n → above xs n ≡ []
above-none xs n is = let none : length xs - n ≡ 0 = omega (arith, is) in ap (λ k. take k xs) none

below-all : {T : Type 0} (xs : List (Item T)) (n : ℕ) → length xs ≡ n → below xs n ≡ xs
below-all xs n is = let none : length xs - n ≡ 0 = omega (arith, is) in ap (λ k. drop k xs) none

-- ---- sides

no-left : {T : Type 0} (es fs : List T) (n : ℕ) (xs : List (Item T)) → length es ≤ n → sides (drop n es) (drop n fs) xs ≡ xs
no-left es fs n xs le = rw (drop-past es n le) refl

pub none-to-come : {T : Type 0} (s : Expressions T) (l r : Id) (n : ℕ) (xs : List (Item T)) → many_at s l r ≤ n → sides (drop n (s.operands l)) (drop n (s.operands r)) xs ≡ xs
none-to-come s l r n xs none = go (nat_lt n (length (s.operands l))) refl
  where
    go : (a : Bool) → nat_lt n (length (s.operands l)) ≡ a → sides (drop n (s.operands l)) (drop n (s.operands r)) xs ≡ xs
    go false is = no-left (s.operands l) (s.operands r) n xs (ltb-false n (length (s.operands l)) is)
    go true is =
        let few : length (s.operands r) ≤ n = omega (arith, none, ltb-true n (length (s.operands l)) is) in
        ap (λ fs. sides (drop n (s.operands l)) fs xs) (drop-past (s.operands r) n few) ∙ no-right (drop n (s.operands l)) xs

-- the next one
module _ {T : Type 0} (s : Expressions T) (f : Id → T) where
  pub operands-many : (args : List Id) (i : Id) → s.operands i ≡ map f args → length (s.operands i) ≡ length args
  operands-many args i are = ap length are ∙ length-map args f

  at-place : (args : List Id) (es : List T) (n : ℕ) (i : Id) → es ≡ map f args → slice_get args n ≡ Some i → slice_get es n ≡ Some (f i)
  at-place args es n i are at = ap (λ (fs : List T). slice_get fs n) are ∙ slice_get-map f args n ∙ ap (option_map f) at

  pub next-come : (e : Equation) (lefts rights : List Id) (l r : Id) → s.operands e.left ≡ map f lefts → s.operands e.right ≡ map f rights
      → slice_get lefts e.next ≡ Some l → slice_get rights e.next ≡ Some r → (xs : List (Item T)) → to_come s e xs ≡ obligation (f l) (f r) ∷ to_come s (after e) xs
  next-come e lefts rights l r are bre at bt xs =
      rw (next-at (s.operands e.left) e.next (f l) (at-place lefts (s.operands e.left) e.next l are at), next-at (s.operands e.right) e.next (f r) (at-place rights (s.operands e.right) e.next r bre bt), add-one) refl

-- how many
sides-many : {T : Type 0} (es fs : List T) → length (sides es fs []) ≡ min (length es) (length fs)
sides-many [] fs = omega arith
sides-many (e ∷ es) [] = omega arith
sides-many (e ∷ es) (f ∷ fs) = let rest : length (sides es fs []) ≡ min (length es) (length fs) = sides-many es fs in omega (arith, rest)

pub come-many : {T : Type 0} (s : Expressions T) (e : Equation) → many_at s e.left e.right - e.next ≡ length (to_come s e [])
come-many s e =
    omega (arith, sides-many (drop e.next (s.operands e.left)) (drop e.next (s.operands e.right)), length-drop e.next (s.operands e.left), length-drop e.next (s.operands e.right))

-- those of the next equation, and of the others
pub reach-next : {T : Type 0} (s : Expressions T) (es : List Equation) (i : ℕ) (e : Equation) (n : ℕ) → slice_get es i ≡ Some e → n ≡ length (to_come s e []) → many_to_come s (drop i es) ≡ n + many_to_come s (drop (suc i) es)
reach-next s es i e n at is = ap (many_to_come s) (next-at es i e at) ∙ ap (λ m. m + many_to_come s (drop (suc i) es)) (sym is)

module _ {T : Type 0} (s : Expressions T) where
  -- ---- what begins

  pub begun-stand : (e : Equation) (es : List Equation) (xs : List (Item T)) → e.height ≡ length xs → IsOpen s e → AreOpen s es xs → AreOpen s (e ∷ es) xs
  begun-stand e es xs height is stand = (
    is,
    omega (arith, height),
    subst IsBarred (sym (above-none xs e.height (sym height))) tt,
    subst (AreOpen s es) (sym (below-all xs e.height (sym height))) stand,
  )

  pub begun-whole : (e : Equation) (es : List Equation) (xs : List (Item T)) → e.height ≡ length xs → whole_stack s (e ∷ es) xs ≡ to_come s e (whole_stack s es xs)
  begun-whole e es xs height = rw (above-none xs e.height (sym height), below-all xs e.height (sym height)) refl

  -- ---- the next obligation

  module _ (e : Equation) (es : List Equation) (xs : List (Item T)) (stand : AreOpen s (e ∷ es) xs) (low : length xs ≤ e.height) where
    height-is : length xs ≡ e.height
    height-is = omega (arith, low, stand.1)

    rest-stand : AreOpen s es xs
    rest-stand = subst (AreOpen s es) (below-all xs e.height height-is) stand.3

    whole-is : whole_stack s (e ∷ es) xs ≡ to_come s e (whole_stack s es xs)
    whole-is = begun-whole e es xs (sym height-is)

    module _ (x : Item T) (barrier : IsBarrier x) (next : (ys : List (Item T)) → to_come s e ys ≡ x ∷ to_come s (after e) ys) where
      pub more-settled : e.next + 1 < many_at s e.left e.right → AreSettled s (after e ∷ es) (x ∷ xs)
      more-settled more = (
        (
          record { left_in = stand.0.left_in; right_in = stand.0.right_in; more = more },
          omega (arith, stand.1),
          subst IsBarred (sym (above-more s x xs e.height stand.1)) (on-barrier x (above xs e.height) barrier stand.2),
          subst (AreOpen s es) (sym (below-more s x xs e.height stand.1)) stand.3,
        ),
        omega (arith, height-is),
      )

      pub more-whole : whole_stack s (after e ∷ es) (x ∷ xs) ≡ whole_stack s (e ∷ es) xs
      more-whole =
          rw (above-more s x xs e.height stand.1, below-more s x xs e.height stand.1, above-none xs e.height height-is, below-all xs e.height height-is)
          (sym (next (whole_stack s es xs)))

      in-hand : (fs : List Equation) → AreOpen s fs xs → IsInHand fs (suc (length xs))
      in-hand [] at = tt
      in-hand (f ∷ fs) at = omega (arith, at.1)

      pub last-settled : AreSettled s es (x ∷ xs)
      last-settled = (all-more s x barrier es xs rest-stand, in-hand es rest-stand)

      pub last-whole : many_at s e.left e.right ≤ e.next + 1 → whole_stack s es (x ∷ xs) ≡ whole_stack s (e ∷ es) xs
      last-whole none =
          whole-more s x es xs rest-stand
          ∙ sym (whole-is ∙ next (whole_stack s es xs) ∙ ap (λ ys. x ∷ ys) (none-to-come s e.left e.right (e.next + 1) (whole_stack s es xs) none))

-- ---- so many there are

pub sides-add : {T : Type 0} (es fs : List T) (xs : List (Item T)) → length (sides es fs xs) ≡ length (sides es fs []) + length xs
sides-add [] fs xs = omega arith
sides-add (e ∷ es) [] xs = omega arith
sides-add (e ∷ es) (f ∷ fs) xs = let rest : length (sides es fs xs) ≡ length (sides es fs []) + length xs = sides-add es fs xs in omega (arith, rest)

pub sides-long : {T : Type 0} (es fs : List T) (xs : List (Item T)) → length xs ≤ length (sides es fs xs)
sides-long es fs xs = omega (arith, sides-add es fs xs)

pub whole-long : {T : Type 0} (s : Expressions T) (es : List Equation) (xs : List (Item T)) → length xs ≤ length (whole_stack s es xs)
whole-long s [] xs = omega arith
whole-long s (e ∷ es) xs =
    let n : ℕ = length xs - e.height in
    let rest : length (below xs e.height) ≤ length (whole_stack s es (below xs e.height)) = whole-long s es (below xs e.height) in
    let come = sides-long (drop e.next (s.operands e.left)) (drop e.next (s.operands e.right)) (whole_stack s es (below xs e.height)) in
    omega (arith, rest, come, length-append (above xs e.height) (to_come s e (whole_stack s es (below xs e.height))), ap length (take-append-drop n xs), length-append (above xs e.height) (below xs e.height))

-- ---- lists of the code

-- the last one comes first
pub last-first : (es : List Equation) (e : Equation) → reverse (es ++ e ∷ []) ≡ e ∷ reverse es
last-first es e = reverse-append es (e ∷ [])

-- the equation that was popped stands first
pub popped-first : (old new : List Equation) (r : Option Equation) (e : Equation) → old ≡ new ++ option_to_list r → r ≡ Some e → reverse old ≡ e ∷ reverse new
popped-first old new r e is some =
    ap (λ (es : List Equation). reverse es) (is ∙ ap (λ (o : Option Equation). new ++ option_to_list o) some) ∙ last-first new e

pub popped-back : (old new : List Equation) (r : Option Equation) (e : Equation) → old ≡ new ++ option_to_list r → r ≡ Some e → old ≡ new ++ e ∷ []
popped-back old new r e is some = is ∙ ap (λ (o : Option Equation). new ++ option_to_list o) some

pub popped-none : (old new : List Equation) (r : Option Equation) → old ≡ new ++ option_to_list r → r ≡ None → (new ≡ []) → reverse old ≡ []
popped-none old new r is none empty = ap (λ (es : List Equation). reverse es) (is ∙ ap (λ (o : Option Equation). new ++ option_to_list o) none ∙ ap (λ (es : List Equation). es ++ []) empty)

pub first-open : {T : Type 0} (s : Expressions T) (old new : List Equation) (r : Option Equation) (e : Equation) (xs : List (Item T)) → old ≡ new ++ option_to_list r → r ≡ Some e → AreOpen s (reverse old) xs → IsOpen s e
first-open s old new r e xs is some stand = (subst (λ (fs : List Equation). AreOpen s fs xs) (popped-first old new r e is some) stand).0

module _ {T : Type 0} (s : Expressions T) (old new : List Equation) (xs : List (Item T)) where
  -- where there is none
  pub none-settled : (popped : Option Equation) → old ≡ new ++ option_to_list popped → popped ≡ None → length new ≡ 0 → AreSettled s (reverse new) xs × (whole_stack s (reverse new) xs ≡ whole_stack s (reverse old) xs)
  none-settled popped is none empty =
      let all : new ≡ [] = nothing new empty in
      (subst (λ (fs : List Equation). AreSettled s (reverse fs) xs) (sym all) (tt, tt), ap (λ (fs : List Equation). whole_stack s fs xs) (ap (λ (fs : List Equation). reverse fs) all ∙ sym (popped-none old new popped is none all)))
    where
      nothing : (es : List Equation) → length es ≡ 0 → es ≡ []
      nothing [] is = refl
      nothing (e ∷ es) is = absurd (omega (arith, is))

  -- where the obligation in hand isn't paid
  pub same-settled : (rest : List Equation) (popped : Option Equation) (e : Equation) → old ≡ rest ++ option_to_list popped → popped ≡ Some e → new ≡ rest ++ e ∷ [] → AreOpen s (reverse old) xs → e.height < length xs
      → AreSettled s (reverse new) xs × (whole_stack s (reverse new) xs ≡ whole_stack s (reverse old) xs)
  same-settled rest popped e is some put stand high =
      let same : new ≡ old = put ∙ sym (popped-back old rest popped e is some) in (
        (
          subst (λ (fs : List Equation). AreOpen s (reverse fs) xs) (sym same) stand,
          subst (λ (fs : List Equation). IsInHand fs (length xs)) (sym (ap (λ (fs : List Equation). reverse fs) put ∙ last-first rest e)) high,
        ),
        ap (λ (fs : List Equation). whole_stack s (reverse fs) xs) same,
      )

-- what stands behind the next obligation
abbrev pub FollowsBy : {T : Type 0} → Expressions T → Equation → List Equation → List Equation → Type 0
FollowsBy s e es fs = ((fs ≡ after e ∷ es) × (e.next + 1 < many_at s e.left e.right)) ⊎ ((fs ≡ es) × (many_at s e.left e.right ≤ e.next + 1))

pub now-settled : {T : Type 0} (s : Expressions T) (e : Equation) (es : List Equation) (xs : List (Item T)) → AreOpen s (e ∷ es) xs → length xs ≤ e.height → (x : Item T) → IsBarrier x
    → ((ys : List (Item T)) → to_come s e ys ≡ x ∷ to_come s (after e) ys) → (fs : List Equation) → FollowsBy s e es fs → AreSettled s fs (x ∷ xs) × (whole_stack s fs (x ∷ xs) ≡ whole_stack s (e ∷ es) xs)
now-settled s e es xs stand low x barrier next fs (inl (are, more)) = (
  subst (λ (gs : List Equation). AreSettled s gs (x ∷ xs)) (sym are) (more-settled s e es xs stand low x barrier next more),
  ap (λ (gs : List Equation). whole_stack s gs (x ∷ xs)) are ∙ more-whole s e es xs stand low x barrier next,
)
now-settled s e es xs stand low x barrier next fs (inr (are, none)) = (
  subst (λ (gs : List Equation). AreSettled s gs (x ∷ xs)) (sym are) (last-settled s e es xs stand low x barrier next),
  ap (λ (gs : List Equation). whole_stack s gs (x ∷ xs)) are ∙ last-whole s e es xs stand low x barrier next none,
)

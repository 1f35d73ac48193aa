-- A term's parameters beside its operands, one by one.
use Rattle.std.proofs.Common.{ℕ, zero, suc, ◌≡◌, ◌<◌, ◌≤◌, ◌⊎◌, Bool, true, false, List, [], ◌∷◌, ◌++◌, length, take, drop, get_or, slice_get, Some, refl, ap, sym, ◌∙◌, subst, inl, inr, arith, append-nil, append_assoc, if◌then◌else◌}
use Rattle.std.specs.Int.{bit_at}
use Rattle.std.proofs.lemmas.Nat.Bits.{bit_at-zero}
use Rattle.std.proofs.lemmas.Option.{none-some}
use Rattle.mz_base.proofs.Offered.{contains_none, contains_tail, contains_head, contains_cases}
use Rattle.mz_logic_theory.specs.Tree.{Tree, Trees, var, none, more, operand}
use Rattle.mz_logic_theory.specs.Signature.{Signature}
use Rattle.mz_logic_theory.specs.Sorts.{IsBoundVar}
use Rattle.mz_logic_theory.specs.Variables.{IsBoundAt, IsOperandAt}
use Rattle.mz_logic_theory.specs.Words.{word_bound, bound_places, places_set, binder_of, binders_from, binders_of}
use Rattle.mz_logic_theory.specs.declared.word.Word.{Word}
use Rattle.mz_logic_theory.specs.declared.binder.Binder.{Binder}
use Rattle.mz_logic_theory.proofs.Offered.{one_at}
use Rattle.mz_store.specs.Bits.{Tells}
use Rattle.mz_store.specs.Sharing.{Sharing, tree_of, trees_of, IsIn, AreIn, DependsOn}
use Rattle.mz_store.specs.declared.item.DepsMode.{DepsMode}
use Rattle.mz_store.specs.declared.item.DepsMode.TheVariants as of
use Rattle.mz_store.specs.declared.item.Id.{Id}
use Rattle.mz_store.proofs.Places.{set-from}
use Rattle.mz_store.proofs.Gathering.{tells-same}

-- ---- operands

abbrev pub many : Trees → ℕ
many none = 0
many (more e es) = suc (many es)

abbrev pub nothing : Id
nothing = record { 0 = 0 }

pub next-id : (is : List Id) (i : ℕ) → i < length is → drop i is ≡ get_or is i nothing ∷ drop (suc i) is
next-id [] i less = absurd (omega arith)
next-id (j ∷ is) zero less = refl
next-id (j ∷ is) (suc i) less = next-id is i (omega arith)

pub in-at : (s : Sharing) (is : List Id) (i : ℕ) → AreIn s is → i < length is → IsIn s (get_or is i nothing).0
in-at s [] i inside less = absurd (omega arith)
in-at s (j ∷ is) zero (here, rest) less = here
in-at s (j ∷ is) (suc i) (here, rest) less = in-at s is i rest (omega arith)

pub operand-at : (s : Sharing) (is : List Id) (i : ℕ) → i < length is → operand (trees_of s is) i ≡ tree_of s (get_or is i nothing).0
operand-at s [] i less = absurd (omega arith)
operand-at s (j ∷ is) zero less = refl
operand-at s (j ∷ is) (suc i) less = operand-at s is i (omega arith)

pub many-operands : (s : Sharing) (is : List Id) → many (trees_of s is) ≡ length is
many-operands s [] = refl
many-operands s (i ∷ is) = ap suc (many-operands s is)

-- ---- words and binders

-- the binder of the i-th word: its bits are those of the bound words before it
next-binder-from : (j : ℕ) (places : List ℕ) (ws : List Word) (i : ℕ) (w : Word) → slice_get ws i ≡ Some w
    → drop i (binders_from j places ws) ≡ binder_of (places ++ bound_places j (take i ws)) w ∷ drop (suc i) (binders_from j places ws)
next-binder-from j places [] i w at = absurd (none-some _ at)
next-binder-from j places (v ∷ ws) zero w at =
    ap (λ x. binder_of places x ∷ binders_from (suc j) (if word_bound v then places ++ j ∷ [] else places) ws) (one_at refl at)
    ∙ ap (λ ps. binder_of ps w ∷ binders_from (suc j) (if word_bound v then places ++ j ∷ [] else places) ws) (sym (append-nil places))
next-binder-from j places (v ∷ ws) (suc i) w at =
    next-binder-from (suc j) (if word_bound v then places ++ j ∷ [] else places) ws i w at
    ∙ ap (λ ps. binder_of ps w ∷ drop (suc i) (binders_from (suc j) (if word_bound v then places ++ j ∷ [] else places) ws)) (branch (word_bound v))
  where
    branch : (b : Bool) → (if b then places ++ j ∷ [] else places) ++ bound_places (suc j) (take i ws) ≡ places ++ (if b then j ∷ bound_places (suc j) (take i ws) else bound_places (suc j) (take i ws))
    branch true = append_assoc places (j ∷ []) (bound_places (suc j) (take i ws))
    branch false = refl

pub next-binder : (ws : List Word) (i : ℕ) (w : Word) → slice_get ws i ≡ Some w → drop i (binders_of ws) ≡ binder_of (bound_places 0 (take i ws)) w ∷ drop (suc i) (binders_of ws)
next-binder ws i w at = next-binder-from 0 [] ws i w at

at-drop : {A : Type 0} (xs : List A) (i : ℕ) (x : A) (rest : List A) → drop i xs ≡ x ∷ rest → slice_get xs i ≡ Some x
at-drop [] zero x rest is = absurd cc
at-drop [] (suc i) x rest is = absurd cc
at-drop (y ∷ xs) zero x rest is = ap Some (first y x xs rest is)
  where
    first : {B : Type 0} (a b : B) (r s : List B) → a ∷ r ≡ b ∷ s → a ≡ b
    first a b r s e = cc
at-drop (y ∷ xs) (suc i) x rest is = at-drop xs i x rest is

pub binder-at : (ws : List Word) (i : ℕ) (w : Word) → slice_get ws i ≡ Some w → slice_get (binders_of ws) i ≡ Some (binder_of (bound_places 0 (take i ws)) w)
binder-at ws i w at = at-drop (binders_of ws) i (binder_of (bound_places 0 (take i ws)) w) (drop (suc i) (binders_of ws)) (next-binder ws i w at)

pub next-taken : (ws : List Word) (end i : ℕ) (w : Word) → slice_get ws i ≡ Some w → i < end → drop i (take end ws) ≡ w ∷ drop (suc i) (take end ws)
next-taken [] end i w at less = absurd (none-some _ at)
next-taken (v ∷ ws) zero i w at less = absurd (omega arith)
next-taken (v ∷ ws) (suc end) zero w at less = ap (λ x. x ∷ take end ws) (one_at refl at)
next-taken (v ∷ ws) (suc end) (suc i) w at less = next-taken ws end i w at (omega arith)

pub taken-past : (ws : List Word) (end i : ℕ) → end ≤ i → drop i (take end ws) ≡ []
taken-past [] zero zero h = refl
taken-past [] zero (suc i) h = refl
taken-past [] (suc end) zero h = refl
taken-past [] (suc end) (suc i) h = refl
taken-past (v ∷ ws) zero zero h = refl
taken-past (v ∷ ws) zero (suc i) h = refl
taken-past (v ∷ ws) (suc end) zero h = absurd (omega arith)
taken-past (v ∷ ws) (suc end) (suc i) h = taken-past ws end i (omega arith)

pub taken-all : (ws : List Word) (end : ℕ) → length ws ≤ end → take end ws ≡ ws
taken-all [] zero h = refl
taken-all [] (suc end) h = refl
taken-all (v ∷ ws) zero h = absurd (omega arith)
taken-all (v ∷ ws) (suc end) h = ap (λ xs. v ∷ xs) (taken-all ws end (omega arith))

-- ---- operands at places

pub operand-none : (params : List Binder) (es : Trees) (x : ℕ) → IsOperandAt params es [] x → ⊥
operand-none params es x (j, has, _, _) = contains_none j has

pub operand-zero : (params : List Binder) (es : Trees) (ps : List ℕ) (x : ℕ) → IsOperandAt params es (places_set 0 ps) x → ⊥
operand-zero params es ps x (j, has, _, _) = (let (k, _, bit) = set-from 0 ps j has in absurd (let e : bit_at 0 k ≡ 0 = bit_at-zero k in omega arith))

pub operand-split : (params : List Binder) (es : Trees) (i : ℕ) (js : List ℕ) (x : ℕ) → IsOperandAt params es (i ∷ js) x
    → (IsBoundAt params i × (operand es i ≡ var x)) ⊎ IsOperandAt params es js x
operand-split params es i js x (j, has, bd, is) = elim (contains_cases i j js has) [
  | inl same ↦ inl (subst (IsBoundAt params) (sym same) bd, ap (operand es) same ∙ is)
  | inr later ↦ inr (j, later, bd, is)
]

pub operand-here : (params : List Binder) (es : Trees) (i : ℕ) (js : List ℕ) (x : ℕ) → IsBoundAt params i × (operand es i ≡ var x) → IsOperandAt params es (i ∷ js) x
operand-here params es i js x (bd, is) = (i, contains_head i js, bd, is)

pub operand-later : (params : List Binder) (es : Trees) (i : ℕ) (js : List ℕ) (x : ℕ) → IsOperandAt params es js x → IsOperandAt params es (i ∷ js) x
operand-later params es i js x (j, has, bd, is) = (j, contains_tail i j js has, bd, is)

-- the word of a bound variable names the variable itself
pub tells-bound : (mode : DepsMode) (sigs : List Signature) (ctx params : List Binder) (places : List ℕ) (word : ℕ) (es : Trees) (i : ℕ) (e : Tree)
    → IsBoundAt params i → operand es i ≡ e → IsBoundVar ctx e → Tells places word (DependsOn mode sigs ctx e) → Tells places word (λ x. IsBoundAt params i × (operand es i ≡ var x))
tells-bound mode sigs ctx params places word es i e bd is (y, b, e-is, at, bound) tells =
    tells-same places word (DependsOn mode sigs ctx e) (λ x. IsBoundAt params i × (operand es i ≡ var x)) to from tells
  where
    told : (m : DepsMode) (x : ℕ) → DependsOn m sigs ctx (var y) x → x ≡ y
    told of.All x (c, at', inl (_, same)) = same
    told of.All x (c, at', inr (regular, _)) = absurd (let e1 : true ≡ false = sym bound ∙ ap (λ (d : Binder). d.bound) (one_at at at') ∙ regular in cc)
    told of.Free x (c, at', inl (_, same)) = same
    told of.Free x (c, at', inr (regular, _)) = absurd (let e1 : true ≡ false = sym bound ∙ ap (λ (d : Binder). d.bound) (one_at at at') ∙ regular in cc)

    back : (m : DepsMode) (x : ℕ) → x ≡ y → DependsOn m sigs ctx (var y) x
    back of.All x same = (b, at, inl (bound, same))
    back of.Free x same = (b, at, inl (bound, same))

    to : (x : ℕ) → DependsOn mode sigs ctx e x → IsBoundAt params i × (operand es i ≡ var x)
    to x t = (bd, is ∙ e-is ∙ ap var (sym (told mode x (subst (λ f. DependsOn mode sigs ctx f x) e-is t))))

    from : (x : ℕ) → IsBoundAt params i × (operand es i ≡ var x) → DependsOn mode sigs ctx e x
    from x (_, same) = subst (λ f. DependsOn mode sigs ctx f x) (sym e-is) (back mode x (place x y (sym same ∙ is ∙ e-is)))
      where
        place : (a b : ℕ) → var a ≡ var b → a ≡ b
        place a b eq = cc

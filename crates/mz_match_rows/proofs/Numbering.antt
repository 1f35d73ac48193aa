-- Trees by numbers: a number is one tree's, and stays where more pieces are added.
use Rattle.std.proofs.Common.{◌≡◌, ◌<◌, ◌++◌, ◌∷◌, [], ℕ, Bool, false, List, Option, Some, None, append_assoc, length, slice_get, refl, ap, sym, ◌∙◌, subst}
use Rattle.std.specs.Prelude.{IsTrue, ◌↔◌, is_some}
use Rattle.std.proofs.lemmas.Bool.{false≢true}
use Rattle.mz_base.proofs.Offered.{slice_get-append}
use Rattle.mz_logic_theory.specs.Tree.{Tree, Trees, var, app, none, more, listed}
use Rattle.mz_logic_theory.specs.declared.binder.Binder.{Binder}
use Rattle.mz_logic_theory.proofs.Offered.{same-first, same-rest}
use Rattle.mz_machine_theory.specs.Spells.{Marks, dummy_of}
use Rattle.mz_spec_proved_theory.specs.AlphaTrees.{SameTree, SameTrees}
use Rattle.mz_match_rows.specs.declared.by_number.SaidTree.{SaidTree}
use Rattle.mz_match_rows.specs.declared.expression.Sides.{Sides}
use Rattle.mz_match_rows.specs.declared.formulas.Formulas.{Formulas}
use Rattle.mz_match_rows.specs.declared.pieces.Piece.{Piece}
use Rattle.mz_match_rows.specs.declared.pieces.Piece.TheVariants as pieces
use Rattle.mz_match_rows.specs.declared.stream.Step.{Step}
use Rattle.mz_match_rows.specs.Numbers.{IsNumbered, AreNumbered, IsSaidTree, AreSaidTrees, AreRight, TellsSame}
use Rattle.mz_match_rows.specs.Streams.{step_at, AreSaid, IsMade}
use Rattle.mz_match_rows.specs.TermCodes.{makes_term}
use Rattle.mz_match_rows.proofs.Compared.{made-variable}
use Rattle.mz_match_rows.proofs.KeptMarks.{each-more}

-- ---- one tree

mutual
  pub one-tree : (ps : List Piece) (f g : Tree) (i : ℕ) → IsNumbered ps f i → IsNumbered ps g i → f ≡ g
  one-tree ps (var x) (var y) i a b = let both : Some (pieces.Variable x) ≡ Some (pieces.Variable y) = sym a ∙ b in cc
  one-tree ps (var x) (app u gs) i a (k, b, _, _) = let both : Some (pieces.Variable x) ≡ Some (pieces.Application u k) = sym a ∙ b in absurd cc
  one-tree ps (app t fs) (var y) i (j, a, _, _) b = let both : Some (pieces.Application t j) ≡ Some (pieces.Variable y) = sym a ∙ b in absurd cc
  one-tree ps (app t fs) (app u gs) i (j, a, _, left) (k, b, _, right) =
      let both : Some (pieces.Application t j) ≡ Some (pieces.Application u k) = sym a ∙ b in
      let terms : t ≡ u = cc in
      let lists : j ≡ k = cc in
      ap (λ (z : ℕ). app z fs) terms ∙ ap (app u) (one-list ps fs gs k (subst (AreNumbered ps fs) lists left) right)

  pub one-list : (ps : List Piece) (fs gs : Trees) (i : ℕ) → AreNumbered ps fs i → AreNumbered ps gs i → fs ≡ gs
  one-list ps none none i a b = refl
  one-list ps none (more g gs) i a (j, k, b, _, _, _, _) = let both : Some pieces.Empty ≡ Some (pieces.Listed j k) = sym a ∙ b in absurd cc
  one-list ps (more f fs) none i (j, k, a, _, _, _, _) b = let both : Some (pieces.Listed j k) ≡ Some pieces.Empty = sym a ∙ b in absurd cc
  one-list ps (more f fs) (more g gs) i (j, k, a, _, _, f-is, fs-are) (l, m, b, _, _, g-is, gs-are) =
      let both : Some (pieces.Listed j k) ≡ Some (pieces.Listed l m) = sym a ∙ b in
      let firsts : j ≡ l = cc in
      let rests : k ≡ m = cc in
      ap (λ (z : Tree). more z fs) (one-tree ps f g l (subst (IsNumbered ps f) firsts f-is) g-is)
      ∙ ap (more g) (one-list ps fs gs m (subst (AreNumbered ps fs) rests fs-are) gs-are)

-- ---- more pieces

mutual
  pub still : (ps qs : List Piece) (f : Tree) (i : ℕ) → IsNumbered ps f i → IsNumbered (ps ++ qs) f i
  still ps qs (var x) i a = slice_get-append ps qs i (pieces.Variable x) a
  still ps qs (app t fs) i (j, a, less, all) = (j, slice_get-append ps qs i (pieces.Application t j) a, less, all-still ps qs fs j all)

  pub all-still : (ps qs : List Piece) (fs : Trees) (i : ℕ) → AreNumbered ps fs i → AreNumbered (ps ++ qs) fs i
  all-still ps qs none i a = slice_get-append ps qs i pieces.Empty a
  all-still ps qs (more f fs) i (j, k, a, first, rest, f-is, fs-are) =
      (j, k, slice_get-append ps qs i (pieces.Listed j k) a, first, rest, still ps qs f j f-is, all-still ps qs fs k fs-are)

abbrev pub Grows : List Piece → List Piece → Type 0
Grows old new = (qs : List Piece) × (new ≡ old ++ qs)

pub grown : (old new : List Piece) (f : Tree) (i : ℕ) → Grows old new → IsNumbered old f i → IsNumbered new f i
grown old new f i (qs, is) a = subst (λ (ps : List Piece). IsNumbered ps f i) (sym is) (still old qs f i a)

pub all-grown : (old new : List Piece) (fs : Trees) (i : ℕ) → Grows old new → AreNumbered old fs i → AreNumbered new fs i
all-grown old new fs i (qs, is) a = subst (λ (ps : List Piece). AreNumbered ps fs i) (sym is) (all-still old qs fs i a)

pub grows-twice : (old mid new : List Piece) → Grows old mid → Grows mid new → Grows old new
grows-twice old mid new (qs, mid-is) (rs, new-is) = (qs ++ rs, new-is ∙ ap (λ (ps : List Piece). ps ++ rs) mid-is ∙ append_assoc old qs rs)

-- ---- the parts of a number

module _ (ps : List Piece) (i : ℕ) where
  pub is-variable : (g : Tree) (x : ℕ) → IsNumbered ps g i → (slice_get ps i ≡ Some (pieces.Variable x)) ↔ (g ≡ var x)
  is-variable (var y) x a = (
    λ b. (let both : Some (pieces.Variable y) ≡ Some (pieces.Variable x) = sym a ∙ b in cc),
    λ is. (let same : y ≡ x = cc in a ∙ ap (λ (z : ℕ). Some (pieces.Variable z)) same),
  )
  is-variable (app t es) x (j, a, _, _) = (
    λ b. (let both : Some (pieces.Application t j) ≡ Some (pieces.Variable x) = sym a ∙ b in absurd cc),
    λ is. absurd (let e : app t es ≡ var x = is in cc),
  )

  pub operands-of : (g : Tree) (t j : ℕ) → IsNumbered ps g i → slice_get ps i ≡ Some (pieces.Application t j) → (es : Trees) × (g ≡ app t es) × (j < i) × AreNumbered ps es j
  operands-of (var x) t j a b = let both : Some (pieces.Variable x) ≡ Some (pieces.Application t j) = sym a ∙ b in absurd cc
  operands-of (app u es) t j (k, a, less, all) b =
      let both : Some (pieces.Application u k) ≡ Some (pieces.Application t j) = sym a ∙ b in
      let terms : u ≡ t = cc in
      let lists : k ≡ j = cc in
      (es, ap (λ (z : ℕ). app z es) terms, subst (λ (z : ℕ). z < i) lists less, subst (AreNumbered ps es) lists all)

  pub other-term : (g : Tree) (t : ℕ) (fs : Trees) → IsNumbered ps g i → ((j : ℕ) → slice_get ps i ≡ Some (pieces.Application t j) → ⊥) → g ≡ app t fs → ⊥
  other-term (var x) t fs a other is = cc
  other-term (app u es) t fs (k, a, _, _) other is = let terms : u ≡ t = cc in other k (a ∙ ap (λ (z : ℕ). Some (pieces.Application z k)) terms)

  pub is-empty : (gs : Trees) → AreNumbered ps gs i → (slice_get ps i ≡ Some pieces.Empty) ↔ (gs ≡ none)
  is-empty none a = ((λ _. refl), λ _. a)
  is-empty (more g gs) (j, k, a, _, _, _, _) = (
    λ b. (let both : Some (pieces.Listed j k) ≡ Some pieces.Empty = sym a ∙ b in absurd cc),
    λ is. absurd (let e : more g gs ≡ none = is in cc),
  )

  pub parts-of : (gs : Trees) (j k : ℕ) → AreNumbered ps gs i → slice_get ps i ≡ Some (pieces.Listed j k)
      → (g : Tree) × (rest : Trees) × (gs ≡ more g rest) × (j < i) × (k < i) × IsNumbered ps g j × AreNumbered ps rest k
  parts-of none j k a b = let both : Some pieces.Empty ≡ Some (pieces.Listed j k) = sym a ∙ b in absurd cc
  parts-of (more g gs) j k (l, m, a, first, rest, g-is, gs-are) b =
      let both : Some (pieces.Listed l m) ≡ Some (pieces.Listed j k) = sym a ∙ b in
      let firsts : l ≡ j = cc in
      let rests : m ≡ k = cc in
      (g, gs, refl, subst (λ (z : ℕ). z < i) firsts first, subst (λ (z : ℕ). z < i) rests rest, subst (IsNumbered ps g) firsts g-is, subst (AreNumbered ps gs) rests gs-are)

  pub no-parts : (gs : Trees) (f : Tree) (fs : Trees) → AreNumbered ps gs i → ((j k : ℕ) → slice_get ps i ≡ Some (pieces.Listed j k) → ⊥) → gs ≡ more f fs → ⊥
  no-parts none f fs a other is = cc
  no-parts (more g gs) f fs (j, k, a, _, _, _, _) other is = other j k a

-- ---- partners

-- an expression of the specification is one tree of the binary
mutual
  pub one-partner : (rows : List ℕ) (e f g : Tree) → SameTree rows e f → SameTree rows e g → f ≡ g
  one-partner rows (var x) (var y) (var z) a b = ap var (sym a ∙ b)
  one-partner rows (var x) (var y) (app u gs) a b = absurd b
  one-partner rows (var x) (app t fs) g a b = absurd a
  one-partner rows (app k es) (var y) g a b = absurd a
  one-partner rows (app k es) (app t fs) (var z) a b = absurd b
  one-partner rows (app k es) (app t fs) (app u gs) (a, left) (b, right) =
      let both : Some t ≡ Some u = sym a ∙ b in
      let terms : t ≡ u = cc in
      ap (λ (z : ℕ). app z fs) terms ∙ ap (app u) (partners rows es fs gs left right)

  partners : (rows : List ℕ) (es fs gs : Trees) → SameTrees rows es fs → SameTrees rows es gs → fs ≡ gs
  partners rows none none none a b = refl
  partners rows none none (more g gs) a b = absurd b
  partners rows none (more f fs) gs a b = absurd a
  partners rows (more e es) none gs a b = absurd a
  partners rows (more e es) (more f fs) none a b = absurd b
  partners rows (more e es) (more f fs) (more g gs) (a, left) (b, right) =
      ap (λ (z : Tree). more z fs) (one-partner rows e f g a b) ∙ ap (more g) (partners rows es fs gs left right)

-- ---- what is said

pub said-more : (s : Sides) (ps : List Piece) (ks : List SaidTree) (k : SaidTree) → AreSaidTrees s ps ks → IsSaidTree s ps k → AreSaidTrees s ps (ks ++ k ∷ [])
said-more s ps ks k all last = each-more (λ j. IsSaidTree s ps) ks k all last

pub said-grown : (s : Sides) (old new : List Piece) (ks : List SaidTree) → Grows old new → AreSaidTrees s old ks → AreSaidTrees s new ks
said-grown s old new ks grows all j k at m f d to d' plain said = grown old new f k.number grows (all j k at m f d to d' plain said)

-- ---- what a comparison tells

pub told : (o : Option ℕ) (g f : Tree) (to : ℕ) (b : Bool) → b ≡ is_some o → TellsSame o g f to → IsTrue b ↔ (g ≡ f)
told None g f to b is other = ((λ yes-is. absurd (false≢true (sym is ∙ yes-is))), λ same. absurd (other same))
told (Some next) g f to b is (same, _) = ((λ _. same), λ _. is)

pub first-of : (others later : Trees) (g f : Tree) (next rest : Trees) → others ≡ more g next → later ≡ more f rest → others ≡ later → g ≡ f
first-of others later g f next rest others-is later-is is = same-first g f next rest (sym others-is ∙ is ∙ later-is)

-- lists are the same where what is behind trees that are the same is
pub one-further : (gs fs others later : Trees) (g f : Tree) (next rest : Trees) → others ≡ more g next → later ≡ more f rest → g ≡ f → (gs ≡ fs) ↔ (others ≡ later) → (gs ≡ fs) ↔ (next ≡ rest)
one-further gs fs others later g f next rest others-is later-is same so-far = (
  λ is. same-rest g f next rest (sym others-is ∙ so-far.0 is ∙ later-is),
  λ is. so-far.1 (others-is ∙ ap (λ (e : Tree). more e next) same ∙ ap (more f) is ∙ sym later-is),
)

-- a command of no term says a dummy, of which a plain stream has none
pub made-plain : (file : List ℕ) (n : ℕ) (m : Marks) (at d : ℕ) (f : Tree) (to d' : ℕ) (s : Step) → m.dummies ≡ [] → step_at file at ≡ Some s → makes_term s.code ≡ false → IsMade file n m at d f to d' → ⊥
made-plain file n m at d (var x) to d' s plain stands other (_, _, _, there, _) = let none-there : None ≡ Some (dummy_of _) = ap (λ (ds : List Binder). slice_get ds d) (sym plain) ∙ there in absurd cc
made-plain file n m at d (app t fs) to d' s plain stands other made = let (y, is) = made-variable file n m at d (app t fs) to d' s stands other made in let e : app t fs ≡ var y = is in absurd cc

-- where no trees are left, none are said
pub none-said : (file : List ℕ) (n : ℕ) (m : Marks) (fs : Trees) (at d to d' : ℕ) → 0 ≡ length (listed fs) → AreSaid file n m at d fs to d' → (fs ≡ none) × (at ≡ to)
none-said file n m none at d to d' many (p, q) = (refl, sym p)
none-said file n m (more f fs) at d to d' many all = absurd cc

-- ---- from one hypothesis to the next

pub nothing-yet : (s : Sides) (hyps : Trees) (i : ℕ) (formulas : Formulas) → formulas.said ≡ [] → formulas.number ≡ None → AreRight s hyps i formulas
nothing-yet s hyps i formulas empty none-yet = record {
  said = λ j k at. absurd (let e : slice_get [] j ≡ Some k = ap (λ (ks : List SaidTree). slice_get ks j) (sym empty) ∙ at in cc);
  number = λ e at n is. absurd (let both : None ≡ Some n = sym none-yet ∙ is in cc);
}

-- Trees by numbers, and what a stream says by them.
use Rattle.std.specs.Prelude.{◌≡◌, ◌<◌, ℕ, List, Option, Some, MatchOption, slice_get}
use Rattle.mz_logic_theory.specs.Tree.{Tree, Trees, var, app, none, more, listed}
use Rattle.mz_machine_theory.specs.Spells.{Marks}
use Rattle.mz_match_rows.specs.declared.by_number.SaidTree.{SaidTree}
use Rattle.mz_match_rows.specs.declared.expression.Sides.{Sides}
use Rattle.mz_match_rows.specs.declared.formulas.Formulas.{Formulas}
use Rattle.mz_match_rows.specs.declared.pieces.Piece.{Piece}
use Rattle.mz_match_rows.specs.declared.pieces.Piece.TheVariants as pieces
use Rattle.mz_spec_proved_theory.specs.AlphaTrees.{SameTree}
use Rattle.mz_match_rows.specs.Beside.{IsPlainStream}
use Rattle.mz_match_rows.specs.Streams.{IsSaid}

-- the number is that of the tree, and of the list of trees: the parts of each have smaller ones
abbrev mutual
  pub IsNumbered : List Piece → Tree → ℕ → Type 0
  IsNumbered ps (var x) i = slice_get ps i ≡ Some (pieces.Variable x)
  IsNumbered ps (app t es) i = (j : ℕ) × (slice_get ps i ≡ Some (pieces.Application t j)) × (j < i) × AreNumbered ps es j

  pub AreNumbered : List Piece → Trees → ℕ → Type 0
  AreNumbered ps none i = slice_get ps i ≡ Some pieces.Empty
  AreNumbered ps (more e es) i = (j : ℕ) × (k : ℕ) × (slice_get ps i ≡ Some (pieces.Listed j k)) × (j < i) × (k < i) × IsNumbered ps e j × AreNumbered ps es k

-- what a comparison by numbers answers: the place behind, where the trees are the same
abbrev pub TellsSame : Option ℕ → Tree → Tree → ℕ → Type 0
TellsSame result g f to = MatchOption result (g ≡ f → ⊥) (λ next. (g ≡ f) × (next ≡ to))

abbrev pub TellsAllSame : Option ℕ → Trees → Trees → ℕ → Type 0
TellsAllSame result gs fs to = MatchOption result (gs ≡ fs → ⊥) (λ next. (gs ≡ fs) × (next ≡ to))

-- whatever the stream says at the place has the number
abbrev pub IsSaidTree : Sides → List Piece → SaidTree → Type 0
IsSaidTree s ps k = (m : Marks) (f : Tree) (d to d' : ℕ) → IsPlainStream s m → IsSaid s.mmb.now s.params m k.at d f to d' → IsNumbered ps f k.number

abbrev pub AreSaidTrees : Sides → List Piece → List SaidTree → Type 0
AreSaidTrees s ps ks = (j : ℕ) (k : SaidTree) → slice_get ks j ≡ Some k → IsSaidTree s ps k

-- if there is a number in hand, it is that of the expression's tree
abbrev pub HasNumber : List ℕ → Formulas → Tree → Type 0
HasNumber rows formulas e = (n : ℕ) → formulas.number ≡ Some n → (f : Tree) × SameTree rows e f × IsNumbered formulas.pieces f n

-- what is kept is right, where the i-th hypothesis is in hand
pub record AreRight (s : Sides) (hyps : Trees) (i : ℕ) (formulas : Formulas) : Type 0 where
  pub said : AreSaidTrees s formulas.pieces formulas.said
  pub number : (e : Tree) → slice_get (listed hyps) i ≡ Some e → HasNumber s.publics.now formulas e

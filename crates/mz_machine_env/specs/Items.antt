-- Items of a body's stack and heap, whatever their ids stand for.
use Rattle.std.specs.Prelude.{ℕ, zero, suc, ◌≡◌, Bool, true, false, List, refl}
use Rattle.std.specs.Coded.{Coded, code_by, coded×, coded_ℕ, coded_list}
use Rattle.mz_store.specs.declared.item.Id.{Id}
use Rattle.mz_store.specs.declared.item.Item.{Item as Kept}
use Rattle.mz_store.specs.declared.item.Item.TheVariants.{Expr, Proof, Obligation, Conversion}

-- something is still to be shown
abbrev pub is_owed : Kept → Bool
is_owed (Expr i) = false
is_owed (Proof i) = false
is_owed (Obligation i j) = true
is_owed (Conversion i j) = false

-- ---- a heap

pub record Heaped : Type 0 where
  pub items : List Kept

-- how it is stored as data
abbrev pub number_of : Kept → ℕ × (ℕ × ℕ)
number_of (Expr i) = (0, (i.0, i.0))
number_of (Proof i) = (1, (i.0, i.0))
number_of (Obligation i j) = (2, (i.0, j.0))
number_of (Conversion i j) = (3, (i.0, j.0))

abbrev pub kept_by : ℕ → Id → Id → Kept
kept_by zero i j = Expr i
kept_by (suc zero) i j = Proof i
kept_by (suc (suc zero)) i j = Obligation i j
kept_by (suc (suc (suc n))) i j = Conversion i j

abbrev pub kept_from : ℕ × (ℕ × ℕ) → Kept
kept_from p = kept_by p.0 (record { 0 = p.1.0 }) (record { 0 = p.1.1 })

pub kept_back : (x : Kept) → kept_from (number_of x) ≡ x
kept_back (Expr i) = refl
kept_back (Proof i) = refl
kept_back (Obligation i j) = refl
kept_back (Conversion i j) = refl

abbrev pub kept_code : Coded Kept
kept_code = code_by (ℕ × (ℕ × ℕ)) (coded× coded_ℕ (coded× coded_ℕ coded_ℕ)) number_of kept_from kept_back

abbrev pub heaped_code : Coded Heaped
heaped_code = code_by (List Kept) (coded_list kept_code) (λ h. h.items) (λ xs. record { items = xs }) (λ _. refl)

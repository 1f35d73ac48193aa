-- Names that stand before a declaration, by their spaces.
use Rattle.std.proofs.Common.{◌≡◌, ℕ, List, [], ◌∷◌, ◌++◌, Bool, true, false, Some, None, Option, refl, sym, ap}
use Rattle.std.specs.Prelude.{⊤, IsTrue, if◌then◌else◌, option_map, bytes_eq, suc}
use Rattle.std.specs.Bool.{Decides}
use Rattle.std.proofs.lemmas.Slice.Eq.{bytes_eq-Decides}
use Rattle.mz_base.specs.Identifiers.{is_name}
use Rattle.mz_logic_theory.specs.Declaration.{Declaration, sort_decl, term_decl, assertion_decl}
use Rattle.mz_base.specs.Names.{number_of, IsNew}
use Rattle.mz_mmu_theory.specs.Name.{Names, names_with}
use Rattle.mz_spec_theory.specs.Dependencies.{Every}

pub record Seen : Type 0 where
  pub sorts : List (List ℕ)
  pub terms : List (List ℕ)
  pub assertions : List (List ℕ)

abbrev pub none_seen : Seen
none_seen = record { sorts = []; terms = []; assertions = [] }

-- those of the declaration's space
abbrev pub seen_in : Seen → Declaration → List (List ℕ)
seen_in seen (sort_decl _) = seen.sorts
seen_in seen (term_decl _) = seen.terms
seen_in seen (assertion_decl _) = seen.assertions

abbrev pub seen_with : Seen → List ℕ → Declaration → Seen
seen_with seen w (sort_decl _) = record seen { sorts = seen.sorts ++ w ∷ [] }
seen_with seen w (term_decl _) = record seen { terms = seen.terms ++ w ∷ [] }
seen_with seen w (assertion_decl _) = record seen { assertions = seen.assertions ++ w ∷ [] }

-- it is none of these
abbrev pub IsOther : List ℕ → List (List ℕ) → Type 0
IsOther w xs = Every (λ x. x ≡ w → ⊥) xs

-- identifiers, each another than those before it in its space
abbrev pub AreNew : Seen → List Declaration → List (List ℕ) → Type 0
AreNew seen [] [] = ⊤
AreNew seen (d ∷ ds) (w ∷ ws) = IsTrue (is_name w) × IsOther w (seen_in seen d) × AreNew (seen_with seen w d) ds ws
AreNew seen [] (w ∷ ws) = ⊥
AreNew seen (d ∷ ds) [] = ⊥

-- ---- of a text

abbrev pub seen_of : Names → Seen
seen_of names = record { sorts = names.sorts; terms = names.terms; assertions = names.assertions }

pub seen-with : (names : Names) (w : List ℕ) (d : Declaration) → seen_of (names_with names w d) ≡ seen_with (seen_of names) w d
seen-with names w (sort_decl m) = refl
seen-with names w (term_decl d) = refl
seen-with names w (assertion_decl a) = refl

-- the number of a name, where the first of the others is this one or isn't
abbrev first_or : Bool → Option ℕ → Option ℕ
first_or b o = if b then Some 0 else option_map suc o

pub other-new : (xs : List (List ℕ)) (w : List ℕ) → IsOther w xs → IsNew xs w
other-new [] w other = refl
other-new (x ∷ xs) w (this, rest) = go (bytes_eq w x) (bytes_eq-Decides w x) (other-new xs w rest)
  where
    go : (b : Bool) → Decides b (w ≡ x) → number_of xs w ≡ None → first_or b (number_of xs w) ≡ None
    go true is none = absurd (this (sym (is.0 refl)))
    go false is none = ap (first_or false) none

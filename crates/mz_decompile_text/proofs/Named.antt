-- The names of statements that declare what a list's do are those of the list.
use Rattle.std.proofs.Common.{◌≡◌, ◌∙◌, ◌++◌, ℕ, List, [], ◌∷◌, refl, ap}
use Rattle.mz_logic_theory.specs.Declaration.{Declaration}
use Rattle.mz_logic_theory.specs.LegalLists.{Statement as Marked}
use Rattle.mz_mmu_theory.specs.Statements.{Statement}
use Rattle.mz_mmu_theory.specs.DeclaredNames.{sort_name, term_name, sort_names, term_names, assertion_name, assertion_names}
use Rattle.mz_decompile_text.specs.Naming.{Naming}
use Rattle.mz_decompile_text.specs.Accepted.{names_of, AreNamed, NamedStatementsName}

abbrev of-parts : List (List ℕ) → List (List ℕ) → List (List ℕ) → List ℕ → Naming
of-parts x y z p = record { sorts = x; terms = y; assertions = z; prefix = p }

-- equal part by part
pub same-naming : (a b : Naming) → a.sorts ≡ b.sorts → a.terms ≡ b.terms → a.assertions ≡ b.assertions → a.prefix ≡ b.prefix → a ≡ b
same-naming a b sorts terms assertions prefix =
    ap (λ (x : List (List ℕ)). of-parts x a.terms a.assertions a.prefix) sorts
    ∙ ap (λ (x : List (List ℕ)). of-parts b.sorts x a.assertions a.prefix) terms
    ∙ ap (λ (x : List (List ℕ)). of-parts b.sorts b.terms x a.prefix) assertions
    ∙ ap (λ (x : List ℕ). of-parts b.sorts b.terms b.assertions x) prefix

module _ (part : Declaration → List ℕ → List (List ℕ)) (all : List Statement → List (List ℕ)) (nothing : all [] ≡ [])
    (cut : (t : Statement) (ts : List Statement) → all (t ∷ ts) ≡ part t.decl t.name ++ all ts) where
  of-named : (ss : List Marked) (names : List (List ℕ)) (ts : List Statement) → AreNamed ss names ts → all ts ≡ names_of part ss names
  of-named [] [] [] are = nothing
  of-named [] [] (t ∷ ts) are = absurd are
  of-named [] (name ∷ names) ts are = absurd are
  of-named (s ∷ ss) [] ts are = absurd are
  of-named (s ∷ ss) (name ∷ names) [] are = absurd are
  of-named (s ∷ ss) (name ∷ names) (t ∷ ts) (decl, is, are) =
      cut t ts ∙ ap (λ (d : Declaration). part d t.name ++ all ts) decl ∙ ap (λ (n : List ℕ). part s.decl n ++ all ts) is
      ∙ ap (λ (rest : List (List ℕ)). part s.decl name ++ rest) (of-named ss names ts are)

pub named-alike : NamedStatementsName
named-alike prefix ss names ts are =
    same-naming _ _ (of-named sort_name sort_names refl (λ t ts. refl) ss names ts are) (of-named term_name term_names refl (λ t ts. refl) ss names ts are)
    (of-named assertion_name assertion_names refl (λ t ts. refl) ss names ts are) refl

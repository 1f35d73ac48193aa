-- The public part of a list of statements, as a specification that stands alone: local statements are left out, terms
-- are numbered anew, and some definitions are left abstract (mm0.md, section on definitions: a proof file may have
-- local definitions and theorems of its own).
use Rattle.std.specs.Prelude.{◌≡◌, ◌++◌, ◌||◌, ⊤, ℕ, zero, suc, List, [], ◌∷◌, Bool, false, get_or, if◌then◌else◌}
use Rattle.mz_logic_theory.specs.Tree.{Tree, Trees, var, app, none, more}
use Rattle.mz_logic_theory.specs.Declaration.{Form, plain_form, abstract_form, defined, Assertion, Declaration, sort_decl, term_decl, assertion_decl}
use Rattle.mz_logic_theory.specs.LegalLists.{Statement}

-- ---- terms, each local or public

-- how many of the first t terms are public
abbrev pub public_number : List Bool → ℕ → ℕ
public_number ls zero = 0
public_number [] (suc t) = 0
public_number (l ∷ ls) (suc t) = if l then public_number ls t else suc (public_number ls t)

abbrev pub is_local_term : List Bool → ℕ → Bool
is_local_term ls t = get_or ls t false

abbrev pub visibility_of : Bool → Declaration → List Bool
visibility_of is_local (sort_decl _) = []
visibility_of is_local (term_decl _) = is_local ∷ []
visibility_of is_local (assertion_decl _) = []

-- of each term of the statements, whether it is local
abbrev pub visibilities_of : List Statement → List Bool
visibilities_of [] = []
visibilities_of (s ∷ ss) = visibility_of s.is_local s.decl ++ visibilities_of ss

-- ---- expressions

-- the same with other numbers of terms
abbrev mutual
  pub renamed : (ℕ → ℕ) → Tree → Tree
  renamed f (var x) = var x
  renamed f (app t es) = app (f t) (all_renamed f es)

  pub all_renamed : (ℕ → ℕ) → Trees → Trees
  all_renamed f none = none
  all_renamed f (more e es) = more (renamed f e) (all_renamed f es)

-- a local term stands in it
abbrev mutual
  pub mentions_local : List Bool → Tree → Bool
  mentions_local ls (var x) = false
  mentions_local ls (app t es) = is_local_term ls t || any_mentions_local ls es

  pub any_mentions_local : List Bool → Trees → Bool
  any_mentions_local ls none = false
  any_mentions_local ls (more e es) = mentions_local ls e || any_mentions_local ls es

-- ---- declarations

-- a body that is hidden is left out
abbrev pub shown : (Tree → Bool) → (ℕ → ℕ) → Form → Form
shown hidden f plain_form = plain_form
shown hidden f abstract_form = abstract_form
shown hidden f (defined ds body) = if hidden body then abstract_form else defined ds (renamed f body)

abbrev pub renamed_assertion : (ℕ → ℕ) → Assertion → Assertion
renamed_assertion f a = record { is_axiom = a.is_axiom; params = a.params; hyps = all_renamed f a.hyps; conclusion = renamed f a.conclusion }

abbrev pub public_decl : (Tree → Bool) → (ℕ → ℕ) → Declaration → Declaration
public_decl hidden f (sort_decl m) = sort_decl m
public_decl hidden f (term_decl d) = term_decl (record { signature = d.signature; form = shown hidden f d.form })
public_decl hidden f (assertion_decl a) = assertion_decl (renamed_assertion f a)

-- of statements among others, whose terms are numbered so
abbrev pub public_decls : (Tree → Bool) → (ℕ → ℕ) → List Statement → List Declaration
public_decls hidden f [] = []
public_decls hidden f (s ∷ ss) = if s.is_local then public_decls hidden f ss else public_decl hidden f s.decl ∷ public_decls hidden f ss

abbrev pub public_part : (Tree → Bool) → List Statement → List Declaration
public_part hidden ss = public_decls hidden (public_number (visibilities_of ss)) ss

-- ---- what can be said without local definitions

-- bodies that mention a local definition are hidden
abbrev pub Hides : List Bool → (Tree → Bool) → Type 0
Hides ls hidden = (e : Tree) → hidden e ≡ false → mentions_local ls e ≡ false

-- no claim of an axiom or theorem mentions one
abbrev pub IsSayable : List Bool → Declaration → Type 0
IsSayable ls (sort_decl _) = ⊤
IsSayable ls (term_decl _) = ⊤
IsSayable ls (assertion_decl a) = (any_mentions_local ls a.hyps ≡ false) × (mentions_local ls a.conclusion ≡ false)

-- each public statement
abbrev pub AreSayable : List Bool → List Statement → Type 0
AreSayable ls [] = ⊤
AreSayable ls (s ∷ ss) = (s.is_local ≡ false → IsSayable ls s.decl) × AreSayable ls ss

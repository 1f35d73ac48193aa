-- The specification that is written of a text (this project's own): its public statements, in prefix form.
use Rattle.std.specs.Prelude.{◌≡◌, ◌≤◌, ◌++◌, ◌&&◌, ◌||◌, ⊤, ℕ, suc, List, [], ◌∷◌, length, get_or, Bool, false, not, nat_le, if◌then◌else◌, codes, decimal}
use Rattle.mz_base.specs.Checks.{Checks, nothing, demand, ◌>>◌, AllHold, FailsFirst}
use Rattle.mz_logic_theory.specs.Tree.{Tree}
use Rattle.mz_logic_theory.specs.Declaration.{Declaration, sort_decl, term_decl, assertion_decl}
use Rattle.mz_prefix.specs.PublicPart.{visibilities_of, mentions_local, public_decl, IsSayable}
use Rattle.mz_math_theory.specs.Meaning.{height}
use Rattle.mz_math_theory.specs.Formula.{most}
use Rattle.mz_prefix.specs.Prefix.{IsShort}
use Rattle.mz_prefix.specs.Lines.{Line, lines_text}
use Rattle.mz_prefix.specs.NamedDeclarations.{Named, Vocabulary, formula_of, AreShort, lines_of}
use Rattle.mz_mmu_theory.specs.Statements.{Statement}
use Rattle.mz_mmu_theory.specs.DeclaredNames.{prefix_beside, text_names, sort_names, term_names}
use Rattle.mz_mmu_theory.specs.Meaning.{marked}
use Rattle.mz_mmu_theory.specs.TextOf.{TextOf}

-- ---- names

-- what stands before a variable's number: more underscores than a name of the text begins with, and `v`
abbrev pub variable_prefix : List Statement → List ℕ
variable_prefix ss = prefix_beside (text_names ss) ++ codes "v"

-- sorts and terms named so, variables by a prefix and their numbers
abbrev pub vocabulary_from : (sorts terms : List (List ℕ)) → (prefix : List ℕ) → Vocabulary
vocabulary_from sorts terms prefix = record { sort = λ i. get_or sorts i []; term = λ t. get_or terms t []; variable = λ x. prefix ++ decimal x }

-- the text's own names, and those that it leaves for variables
abbrev pub vocabulary_of : List Statement → Vocabulary
vocabulary_of ss = vocabulary_from (sort_names ss) (term_names ss) (variable_prefix ss)

-- ---- what is written

-- of each term, whether it is local
abbrev pub local_terms : List Statement → List Bool
local_terms ss = visibilities_of (marked ss)

-- its prefix form is within the limits of a math string
abbrev pub is_short : Vocabulary → Tree → Bool
is_short v e = nat_le (length (formula_of v e)) most && nat_le (height e) most

-- a body that isn't written
abbrev pub is_hidden : List Bool → Vocabulary → Tree → Bool
is_hidden ls v body = mentions_local ls body || not (is_short v body)

-- the public statements, terms by their numbers in the text; a body that is hidden is left out, with its dummies
abbrev pub publics_named : (Tree → Bool) → List Statement → List Named
publics_named hidden [] = []
publics_named hidden (s ∷ ss) = if s.is_local then publics_named hidden ss else (record { name = s.name; decl = public_decl hidden (λ t. t) s.decl } ∷ publics_named hidden ss)

-- one public statement a line
abbrev pub prefix_lines : List Statement → List Line
prefix_lines ss = lines_of (vocabulary_of ss) (publics_named (is_hidden (local_terms ss) (vocabulary_of ss)) ss)

abbrev pub prefix_text : List Statement → List ℕ
prefix_text ss = lines_text (prefix_lines ss)

-- ---- why there is none

-- a statement by its number in the text, of which a hypothesis or the conclusion mentions a local definition, or is over
-- the limits of a math string; or the length of a specification
pub data Unwritten : Type 0 where
  local_in : ℕ → Unwritten
  long_in : ℕ → Unwritten
  too_long : ℕ → Unwritten

-- the hypotheses and the conclusion are within the limits of a math string
abbrev pub IsBrief : Vocabulary → Declaration → Type 0
IsBrief v (sort_decl _) = ⊤
IsBrief v (term_decl _) = ⊤
IsBrief v (assertion_decl a) = AreShort v a.hyps × IsShort (formula_of v a.conclusion) a.conclusion

-- of each public statement, where the first has this number
abbrev pub local_checks : List Bool → ℕ → List Statement → Checks Unwritten
local_checks ls k [] = nothing
local_checks ls k (s ∷ ss) = demand (local_in k) (s.is_local ≡ false → IsSayable ls s.decl) >> local_checks ls (suc k) ss

abbrev pub long_checks : Vocabulary → ℕ → List Statement → Checks Unwritten
long_checks v k [] = nothing
long_checks v k (s ∷ ss) = demand (long_in k) (s.is_local ≡ false → IsBrief v s.decl) >> long_checks v (suc k) ss

-- of a specification of at most so many bytes
abbrev pub wording_checks : ℕ → List Statement → Checks Unwritten
wording_checks limit ss =
    local_checks (local_terms ss) 1 ss
    >> long_checks (vocabulary_of ss) 1 ss
    >> demand (too_long (length (prefix_text ss))) (length (prefix_text ss) ≤ limit)

-- the bytes of the longest file that is read or written
abbrev pub longest : ℕ
longest = 4294967295

-- the text is well typed, nothing stands against a specification of at most so many bytes, and this is it
abbrev pub IsWordedAs : ℕ → List ℕ → List ℕ → Type 0
IsWordedAs limit text spec = (ss : List Statement) × TextOf false text ss × AllHold (wording_checks limit ss) × (spec ≡ prefix_text ss)

-- the text is well typed, and this stands first against it
abbrev pub IsUnwritten : ℕ → List ℕ → Unwritten → Type 0
IsUnwritten limit text u = (ss : List Statement) × TextOf false text ss × FailsFirst (wording_checks limit ss) u

-- Two lists of statements that are one but for the dummies of definitions' bodies (mm0.md, on definitions: the names of
-- dummies don't matter).
use Rattle.std.specs.Prelude.{◌≡◌, List}
use Rattle.mz_logic_theory.specs.Declaration.{Declaration, sort_decl, term_decl, assertion_decl}
use Rattle.mz_logic_theory.specs.LegalLists.{Statement, declarations}
use Rattle.mz_machine_theory.specs.MachineState.{Pairwise}
use Rattle.mz_emit_theory.specs.AlphaEquivalence.{IsSameTerm, IsSameEnv}

abbrev pub IsSameDeclaration : Declaration → Declaration → Type 0
IsSameDeclaration (sort_decl m) (sort_decl n) = m ≡ n
IsSameDeclaration (sort_decl m) (term_decl e) = ⊥
IsSameDeclaration (sort_decl m) (assertion_decl b) = ⊥
IsSameDeclaration (term_decl d) (sort_decl n) = ⊥
IsSameDeclaration (term_decl d) (term_decl e) = IsSameTerm d e
IsSameDeclaration (term_decl d) (assertion_decl b) = ⊥
IsSameDeclaration (assertion_decl a) (sort_decl n) = ⊥
IsSameDeclaration (assertion_decl a) (term_decl e) = ⊥
IsSameDeclaration (assertion_decl a) (assertion_decl b) = a ≡ b

-- the same visibility, and the same declaration
abbrev pub IsSameStatement : Statement → Statement → Type 0
IsSameStatement t s = (t.is_local ≡ s.is_local) × IsSameDeclaration t.decl s.decl

-- statement by statement
abbrev pub IsSameList : List Statement → List Statement → Type 0
IsSameList ts ss = Pairwise IsSameStatement ts ss

-- such lists declare environments that are the same
abbrev pub SameListsAreSameEnvs : Type 0
SameListsAreSameEnvs = (ts ss : List Statement) → IsSameList ts ss → IsSameEnv (declarations ts) (declarations ss)

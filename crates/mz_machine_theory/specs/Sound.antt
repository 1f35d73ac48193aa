-- Soundness of bodies: what a body that runs makes of its row (documents of the .mmb format, on proof
-- streams; Carneiro, the rules of derivation and conversion).
use Rattle.std.specs.Prelude.{◌≡◌, ℕ, zero, suc, ◌<◌, ◌⊎◌, Bool, true, false, List, length, drop, All, Some, Ok}
use Rattle.mz_cmd.specs.declared.command.Cmd.{Cmd}
use Rattle.mz_cmd.specs.declared.code.ProofCode.{ProofCode}
use Rattle.mz_cmd.specs.declared.code.ProofCode.TheVariants.{Thm, ThmSave, Sorry}
use Rattle.mz_cmd.specs.Codes.{proof_code}
use Rattle.mz_cmd.specs.Reading.{first_command}
use Rattle.mz_logic_theory.specs.Tree.{Tree}
use Rattle.mz_logic_theory.specs.Declaration.{Term, Assertion, Declaration, term_decl, assertion_decl, sorts, signatures, assertions}
use Rattle.mz_logic_theory.specs.Modifiers.{MayBeResultSort}
use Rattle.mz_logic_theory.specs.Variables.{IsBoundAt}
use Rattle.mz_logic_theory.specs.Legality.{AreParams, IsLegalDecl, IsLegalEnv}
use Rattle.mz_logic_theory.specs.Derivations.{Derivation, Uses, CitesOnly}
use Rattle.mz_logic_theory.specs.LegalLists.{IsProvedBy}
use Rattle.mz_logic_theory.specs.Laws.{SortsThere}
use Rattle.mz_logic_theory.specs.declared.binder.Binder.{Binder}
use Rattle.mz_logic_theory.specs.declared.binder.ResultType.{ResultType}
use Rattle.mz_logic_theory.specs.declared.binder.SortMods.{SortMods}
use Rattle.mz_machine_theory.specs.Profile.{plain}
use Rattle.mz_machine_theory.specs.Spells.{SpelledTerm, SpelledThm, SpellsTerm, SpellsThm}
use Rattle.mz_machine_theory.specs.MachineState.{RowsBefore, State, is_axiom, is_theorem, is_definition, Heading, Declares}
use Rattle.mz_machine_theory.specs.ProofMachine.{proof_step}
use Rattle.mz_machine_theory.specs.Invariant.{Keeps}
use Rattle.mz_machine_theory.specs.Bodies.{Runs}

-- the command cites assertion T
abbrev pub IsCitation : Cmd → ℕ → Type 0
IsCitation c T = ((proof_code c.code ≡ Some Thm) ⊎ (proof_code c.code ≡ Some ThmSave)) × (c.value ≡ T)

-- one of the first n commands of the bytes does
abbrev pub CitesWithin : ℕ → List ℕ → ℕ → Type 0
CitesWithin zero bytes T = ⊥
CitesWithin (suc n) bytes T = (c : Cmd) × (first_command bytes ≡ Ok c) × (IsCitation c T ⊎ CitesWithin n (drop c.len bytes) T)

-- assertion T is cited by a command of the body, and declared before
abbrev pub IsCited : List Declaration → List ℕ → ℕ → Type 0
IsCited env bytes T = CitesWithin (length bytes) bytes T × (T < length (assertions env))

-- one of the first n commands of the bytes leaves a gap
abbrev pub GapsWithin : ℕ → List ℕ → Type 0
GapsWithin zero bytes = ⊥
GapsWithin (suc n) bytes = (c : Cmd) × (first_command bytes ≡ Ok c) × ((proof_code c.code ≡ Some Sorry) ⊎ GapsWithin n (drop c.len bytes))

-- a command of the body leaves a gap
abbrev pub HasGap : List ℕ → Type 0
HasGap bytes = GapsWithin (length bytes) bytes

-- a command of the body leaves a gap, where gaps are let through
abbrev pub LeavesGap : Bool → List ℕ → Type 0
LeavesGap gaps bytes = (gaps ≡ true) × GapsWithin (length bytes) bytes

-- what the body uses
abbrev pub used_by : Bool → List Declaration → List ℕ → Uses
used_by gaps env bytes = record { cites = IsCited env bytes; gaps = LeavesGap gaps bytes }

-- the derivation cites only what the body does, and has a gap only where the body leaves one
abbrev pub cites_as : Bool → List ℕ → List Declaration → Derivation → Type 0
cites_as gaps bytes env d = CitesOnly (used_by gaps env bytes) d

-- each row of the machine keeps the fact, in each full context that begins with the next state's, where
-- what it cites is cited in the body, and a gap is one of the body's
abbrev pub RowsKeepTheFact : Type 0
RowsKeepTheFact = (gaps : Bool) (tables : RowsBefore) (env : List Declaration) → Declares tables env → (bytes : List ℕ) (params full : List Binder)
    → (at : ℕ) (c : ProofCode) (n : ℕ) (st st' : State Tree) → (((c ≡ Thm) ⊎ (c ≡ ThmSave)) → CitesWithin (length bytes) bytes n) → (c ≡ Sorry → GapsWithin (length bytes) bytes)
    → proof_step (plain gaps) tables at c n st ≡ Ok st' → Keeps (used_by gaps env bytes) env params full st st'

-- the parameters that the words of a row give
abbrev pub AreRowParams : List SortMods → List Binder → Type 0
AreRowParams ss params = SortsThere ss params × AreParams ss params

-- the result that the last word gives
abbrev pub IsRowResult : List SortMods → List Binder → ResultType → Type 0
IsRowResult ss params r = MayBeResultSort ss r.sort × All (IsBoundAt params) r.deps

abbrev pub thm_row : Heading → SpelledThm
thm_row h = record { params = h.params; stream = h.stream }

abbrev pub term_row : Heading → SpelledTerm
term_row h = record { signature = record { params = h.params; result = h.result }; stream = Some h.stream }

-- where the body of an axiom runs, its row spells a legal axiom
abbrev pub AxiomsAreLegal : Type 0
AxiomsAreLegal = (gaps : Bool) (tables : RowsBefore) (env : List Declaration) → Declares tables env → (h : Heading) (at : ℕ) (bytes : List ℕ)
    → h.kind ≡ is_axiom → AreRowParams (sorts env) h.params → Runs (plain gaps) tables h at bytes
    → (a : Assertion) × (a.is_axiom ≡ true) × SpellsThm (signatures env) (thm_row h) a × IsLegalDecl env (assertion_decl a)

-- where the body of a theorem runs, its row spells a legal theorem, which has a derivation that cites
-- only what the body cites, and has a gap only where the body leaves one
abbrev pub TheoremsAreProved : Type 0
TheoremsAreProved = (gaps : Bool) (tables : RowsBefore) (env : List Declaration) → IsLegalEnv env → Declares tables env → (h : Heading) (at : ℕ) (bytes : List ℕ)
    → h.kind ≡ is_theorem → AreRowParams (sorts env) h.params → Runs (plain gaps) tables h at bytes
    → (a : Assertion) × (a.is_axiom ≡ false) × SpellsThm (signatures env) (thm_row h) a × IsLegalDecl env (assertion_decl a) × IsProvedBy (cites_as gaps bytes) env a

-- where the body of a definition runs, its row spells a legal definition
abbrev pub DefinitionsAreLegal : Type 0
DefinitionsAreLegal = (gaps : Bool) (tables : RowsBefore) (env : List Declaration) → Declares tables env → (h : Heading) (at : ℕ) (bytes : List ℕ)
    → h.kind ≡ is_definition → AreRowParams (sorts env) h.params → IsRowResult (sorts env) h.params h.result → Runs (plain gaps) tables h at bytes
    → (d : Term) × SpellsTerm (signatures env) (term_row h) d × IsLegalDecl env (term_decl d)

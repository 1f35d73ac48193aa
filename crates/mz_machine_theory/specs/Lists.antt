-- Lists of rows with their bodies, and the statements that they spell: the whole file, but for its bytes (the .mmb
-- format, its list of statements).
use Rattle.std.specs.Prelude.{◌≡◌, ℕ, ⊤, Bool, true, false, ◌+◌, ◌*◌, ◌≤◌, List, [], ◌∷◌, ◌++◌, length, Option, Some, None}
use Rattle.mz_logic_theory.specs.Signature.{Signature}
use Rattle.mz_logic_theory.specs.Declaration.{Term, Assertion, Declaration, sort_decl, term_decl, assertion_decl, signatures}
use Rattle.mz_logic_theory.specs.LegalLists.{Statement, IsProvedBy, LegalBy, allowed_with}
use Rattle.mz_logic_theory.specs.declared.binder.SortMods.{SortMods}
use Rattle.mz_machine_theory.specs.Profile.{plain}
use Rattle.mz_machine_theory.specs.Spells.{SpelledTerm, SpelledThm, SpellsTerm, SpellsThm}
use Rattle.mz_machine_theory.specs.MachineState.{RowsBefore, Kind, is_axiom, is_theorem, is_definition, Heading}
use Rattle.mz_machine_theory.specs.Bodies.{Runs, body_steps}
use Rattle.mz_machine_theory.specs.Laws.{no_tables, with_sort, with_term, with_thm}
use Rattle.mz_machine_theory.specs.Sound.{AreRowParams, IsRowResult, cites_as}

-- a body's bytes, and the place where they begin
pub record Body : Type 0 where
  pub at : ℕ
  pub bytes : List ℕ

-- a sort; a term's row, whose body runs if it is a definition; the row of an axiom or theorem, and its body
pub data Entry : Type 0 where
  a_sort : SortMods → Entry
  a_term : (is_local : Bool) → SpelledTerm → Body → Entry
  an_assertion : (is_local : Bool) → (is_axiom : Bool) → SpelledThm → Body → Entry

abbrev pub with_entry : RowsBefore → Entry → RowsBefore
with_entry tables (a_sort m) = with_sort tables m
with_entry tables (a_term is_local row body) = with_term tables row
with_entry tables (an_assertion is_local without_proof row body) = with_thm tables row

-- ---- what is asked of an entry after the rows before it

abbrev pub definition_of : SpelledTerm → List ℕ → Heading
definition_of row stream = record { kind = is_definition; params = row.signature.params; result = row.signature.result; stream = stream }

abbrev pub kind_of : Bool → Kind
kind_of true = is_axiom
kind_of false = is_theorem

abbrev pub assertion_of : Bool → SpelledThm → Heading
assertion_of without_proof row = record { kind = kind_of without_proof; params = row.params; result = record { sort = 0; deps = [] }; stream = row.stream }

-- only definitions may be local, and their bodies run
abbrev pub BodyIsGood : Bool → RowsBefore → Bool → SpelledTerm → Body → Option (List ℕ) → Type 0
BodyIsGood gaps tables is_local row body None = is_local ≡ false
BodyIsGood gaps tables is_local row body (Some stream) = Runs (plain gaps) tables (definition_of row stream) body.at body.bytes

abbrev pub IsGoodEntry : Bool → RowsBefore → Entry → Type 0
IsGoodEntry gaps tables (a_sort m) = ⊤
IsGoodEntry gaps tables (a_term is_local row body) =
    AreRowParams tables.sorts row.signature.params × IsRowResult tables.sorts row.signature.params row.signature.result
    × BodyIsGood gaps tables is_local row body row.stream
IsGoodEntry gaps tables (an_assertion is_local without_proof row body) =
    (is_local ≡ true → without_proof ≡ false) × AreRowParams tables.sorts row.params
    × Runs (plain gaps) tables (assertion_of without_proof row) body.at body.bytes

abbrev pub AreGood : Bool → RowsBefore → List Entry → Type 0
AreGood gaps tables [] = ⊤
AreGood gaps tables (e ∷ es) = IsGoodEntry gaps tables e × AreGood gaps (with_entry tables e) es

-- ---- what an entry spells

abbrev pub SpellsEntry : List Signature → Entry → Statement → Type 0
SpellsEntry sigs (a_sort m) s = (s.is_local ≡ false) × (s.decl ≡ sort_decl m)
SpellsEntry sigs (a_term is_local row body) s = (s.is_local ≡ is_local) × ((d : Term) × (s.decl ≡ term_decl d) × SpellsTerm sigs row d)
SpellsEntry sigs (an_assertion is_local without_proof row body) s =
    (s.is_local ≡ is_local) × ((a : Assertion) × (s.decl ≡ assertion_decl a) × (a.is_axiom ≡ without_proof) × SpellsThm sigs row a)

-- one statement an entry, each over the terms before it
abbrev pub SpellEntries : List Declaration → List Entry → List Statement → Type 0
SpellEntries env [] [] = ⊤
SpellEntries env [] (s ∷ ss) = ⊥
SpellEntries env (e ∷ es) [] = ⊥
SpellEntries env (e ∷ es) (s ∷ ss) = SpellsEntry (signatures env) e s × SpellEntries (env ++ s.decl ∷ []) es ss

-- a theorem has a derivation that cites only what its body cites
abbrev pub ProvedByBody : Bool → List Declaration → Entry → Declaration → Type 0
ProvedByBody gaps env (a_sort m) d = ⊤
ProvedByBody gaps env (a_term is_local row body) d = ⊤
ProvedByBody gaps env (an_assertion is_local without_proof row body) (sort_decl m) = ⊤
ProvedByBody gaps env (an_assertion is_local without_proof row body) (term_decl t) = ⊤
ProvedByBody gaps env (an_assertion is_local without_proof row body) (assertion_decl a) = a.is_axiom ≡ false → IsProvedBy (cites_as gaps body.bytes) env a

abbrev pub ProvedByBodies : Bool → List Declaration → List Entry → List Statement → Type 0
ProvedByBodies gaps env [] ss = ⊤
ProvedByBodies gaps env (e ∷ es) [] = ⊤
ProvedByBodies gaps env (e ∷ es) (s ∷ ss) = ProvedByBody gaps env e s.decl × ProvedByBodies gaps (env ++ s.decl ∷ []) es ss

-- ---- the promise

-- good entries spell a list of statements that is legal, a draft where gaps are let through, each theorem by what its body cites
abbrev pub GoodEntriesAreLegal : Type 0
GoodEntriesAreLegal = (gaps : Bool) (es : List Entry) → AreGood gaps no_tables es
    → (ss : List Statement) × SpellEntries [] es ss × LegalBy (allowed_with gaps) ss × ProvedByBodies gaps [] es ss

-- and they spell no other
abbrev pub OneListOfStatements : Type 0
OneListOfStatements = (es : List Entry) (ss ts : List Statement) → SpellEntries [] es ss → SpellEntries [] es ts → ss ≡ ts

-- ---- steps

abbrev pub term_steps : Bool → RowsBefore → SpelledTerm → Body → Option (List ℕ) → ℕ
term_steps gaps tables row body None = 0
term_steps gaps tables row body (Some stream) = body_steps (plain gaps) tables (definition_of row stream) body.at body.bytes

-- the commands executed for an entry after the rows before it; a sort or a plain term has none
abbrev pub entry_steps : Bool → RowsBefore → Entry → ℕ
entry_steps gaps tables (a_sort m) = 0
entry_steps gaps tables (a_term is_local row body) = term_steps gaps tables row body row.stream
entry_steps gaps tables (an_assertion is_local without_proof row body) = body_steps (plain gaps) tables (assertion_of without_proof row) body.at body.bytes

abbrev pub steps_of : Bool → RowsBefore → List Entry → ℕ
steps_of gaps tables [] = 0
steps_of gaps tables (e ∷ es) = entry_steps gaps tables e + steps_of gaps (with_entry tables e) es

abbrev pub body_length : Entry → ℕ
body_length (a_sort m) = 0
body_length (a_term is_local row body) = length body.bytes
body_length (an_assertion is_local without_proof row body) = length body.bytes

-- the bytes of all bodies
abbrev pub bodies_length : List Entry → ℕ
bodies_length [] = 0
bodies_length (e ∷ es) = body_length e + bodies_length es

-- the entry's stream has at most n bytes
abbrev pub StreamWithin : ℕ → Entry → Type 0
StreamWithin n (a_sort m) = ⊤
StreamWithin n (a_term is_local row body) = (stream : List ℕ) → row.stream ≡ Some stream → length stream ≤ n
StreamWithin n (an_assertion is_local without_proof row body) = length row.stream ≤ n

abbrev pub AllStreamsWithin : ℕ → List Entry → Type 0
AllStreamsWithin n [] = ⊤
AllStreamsWithin n (e ∷ es) = StreamWithin n e × AllStreamsWithin n es

-- where streams and all bodies lie within n bytes, at most n*n + n commands are executed, whatever fails
abbrev pub StepsOfLists : Type 0
StepsOfLists = (gaps : Bool) (es : List Entry) (n : ℕ) → AllStreamsWithin n es → bodies_length es ≤ n → steps_of gaps no_tables es ≤ n * n + n

-- Statements as they are written into a binary (this project's own choice among the files that the .mmb format allows).
use Rattle.std.specs.Prelude.{Bool, true, false, ◌≡◌, ◌≤◌, ◌<◌, ◌+◌, ◌*◌, ◌^◌, ⊤, ℕ, List, [], ◌∷◌, ◌++◌, length, map, All, Option, Some, None}
use Rattle.mz_logic_theory.specs.Tree.{Tree, listed, size, trees_size}
use Rattle.mz_logic_theory.specs.Signature.{Signature}
use Rattle.mz_logic_theory.specs.Declaration.{Form, plain_form, abstract_form, defined, Assertion, Declaration, sort_decl, term_decl, assertion_decl, sorts, signatures}
use Rattle.mz_logic_theory.specs.Legality.{Each, IsDummy, AreParams, IsLegalEnv}
use Rattle.mz_logic_theory.specs.Modifiers.{MayBeDummySort}
use Rattle.mz_logic_theory.specs.Sorts.{HasProvable, AreProvable}
use Rattle.mz_logic_theory.specs.Words.{signatures_of}
use Rattle.mz_logic_theory.specs.WordsWritten.{CanBeWords, words_of, result_word}
use Rattle.mz_logic_theory.specs.declared.binder.Binder.{Binder}
use Rattle.mz_logic_theory.specs.declared.binder.SortMods.{SortMods}
use Rattle.mz_machine_theory.specs.Sorted.{Sorted}
use Rattle.mz_machine_theory.specs.Premises.{bound_count as bound_in}
use Rattle.mz_mmu_theory.specs.Statements.{HasGapsOnly, Statement}
use Rattle.mz_mmu_theory.specs.Proof.{Proof}
use Rattle.mz_mmu_theory.specs.ReadingLaws.{IsWhole}
use Rattle.mz_mmu_theory.specs.Names.{StatementThere}
use Rattle.mz_mmu_theory.specs.Meaning.{IsLegalAsStated, LegalAsStated}
use Rattle.mz_type.specs.TypedText.{declared}
use Rattle.mz_mmu_theory.specs.Weight.{params_of, parameter_count, bound_count, statement_weight, weight_of}
use Rattle.mz_emit_theory.specs.StreamLaws.{IsSmall}
use Rattle.mz_emit_theory.specs.FileWriting.{SaySignature}
use Rattle.mz_emit_bodies.specs.Rows.{words_of_row}
use Rattle.mz_emit_theory.specs.Claims.{IsSound, proved}
use Rattle.mz_emit_theory.specs.Weights.{proof_weight}
use Rattle.mz_emit.specs.declared.emitter.Emitter.{Emitter}
use Rattle.mz_emit_theory.specs.CompiledFile.{with_declaration, compiled_parts}

-- ---- what is asked of a statement

-- the statements are legal as stated, with gaps only where these are let through
abbrev pub IsLegalWith : Bool → List Statement → Type 0
IsLegalWith gaps ss = LegalAsStated gaps ss × All (HasGapsOnly (gaps ≡ true)) ss

-- a definition has its body
abbrev pub IsConcrete : Form → Type 0
IsConcrete plain_form = ⊤
IsConcrete abstract_form = ⊥
IsConcrete (defined _ _) = ⊤

-- a sort's modifiers are four bits
abbrev pub IsStated : Declaration → Type 0
IsStated (sort_decl m) = m.0 < 16
IsStated (term_decl d) = IsConcrete d.form
IsStated (assertion_decl _) = ⊤

-- the statement may follow these, with gaps or without, and no limit is passed by it
pub record MayFollow (gaps : Bool) (before : List Statement) (s : Statement) : Type 0 where
  pub legal : IsLegalAsStated gaps (declared before) s
  pub legal_env : IsLegalEnv (declared before)
  pub there : StatementThere (declared before) s
  pub whole : IsWhole s
  pub has_gaps : HasGapsOnly (gaps ≡ true) s
  pub stated : IsStated s.decl
  pub words : CanBeWords (sorts (declared before)) (params_of s.decl)
  pub few_params : parameter_count s ≤ 65535
  pub few_bound : bound_count s ≤ 55
  pub light : weight_of before + statement_weight (declared before) s ≤ 134217725

-- words say the signature, over these sorts
pub record HasWords (ss : List SortMods) (sg : Signature) : Type 0 where
  pub can : CanBeWords ss sg.params
  pub say : SaySignature ss (words_of sg.params) (result_word sg.params sg.result) sg
  pub few : length sg.params ≤ 65535
  pub deps : All (λ j. j < length sg.params) sg.result.deps
  pub sort : sg.result.sort < 128

-- right parameters, and dummies behind them, at most 55 bound
pub record AreReady (env : List Declaration) (params dummies : List Binder) : Type 0 where
  pub params_are : AreParams (sorts env) params
  pub dummies_are : All IsDummy dummies
  pub dummy_sorts : Each dummies (λ _ b. MayBeDummySort (sorts env) b.sort)
  pub few : bound_in (params ++ dummies) ≤ 55
  pub few_params : length params ≤ 65535
  pub small : IsSmall (signatures env) (params ++ dummies)

-- an expression over them, for a definition
pub record CanBeDefined (env : List Declaration) (params dummies : List Binder) (e : Tree) : Type 0 where
  pub ready : AreReady env params dummies
  pub sorted : Sorted (signatures env) (params ++ dummies) e
  pub room : length params + 6 * size e < 2 ^ 32

-- the weight of the proof, if there is one
abbrev pub body_weight : List Declaration → Option Proof → ℕ
body_weight env None = 0
body_weight env (Some p) = proof_weight env p

-- 32 bits are enough for what is counted in the body of an axiom, or of a theorem with this proof
abbrev pub CountsFit : List Declaration → Assertion → Option Proof → Type 0
CountsFit env a q = length a.params + 6 * (trees_size a.hyps + size a.conclusion + body_weight env q) < 2 ^ 32

-- hypotheses and a conclusion over the parameters alone
pub record CanBeAsserted (env : List Declaration) (a : Assertion) (dummies : List Binder) : Type 0 where
  pub ready : AreReady env a.params dummies
  pub hyps : AreProvable env a.params a.hyps
  pub conclusion : HasProvable env a.params a.conclusion
  pub short : length a.params + (size a.conclusion + (trees_size a.hyps + length (listed a.hyps))) ≤ 2 ^ 32

-- the stated proof, if there is one, is sound and proves the assertion, which else is an axiom
abbrev pub IsProvedBy : Bool → List Declaration → List Binder → Assertion → Option Proof → Type 0
IsProvedBy gaps env ctx a None = a.is_axiom ≡ true
IsProvedBy gaps env ctx a (Some p) = (a.is_axiom ≡ false) × IsSound gaps env ctx (listed a.hyps) [] p × (proved env (listed a.hyps) [] p ≡ a.conclusion)

-- where there is a proof, it is sound
abbrev pub IsSoundIfStated : Bool → List Declaration → List Binder → List Tree → Option Proof → Type 0
IsSoundIfStated gaps env ctx hyps None = ⊤
IsSoundIfStated gaps env ctx hyps (Some p) = IsSound gaps env ctx hyps [] p

-- ---- all that is written

-- the signatures of the terms so far
abbrev pub table_of : Emitter → List Signature
table_of e = signatures_of (map words_of_row e.table.terms.items)

-- the parts are those of the statements, the table has their sorts and terms, and what they declare stands before the next
pub record HasEmitted (ss : List Statement) (e : Emitter) : Type 0 where
  pub written : e.writer ≡ compiled_parts ss
  pub sorts_are : e.table.sorts.items ≡ sorts (declared ss)
  pub terms_are : table_of e ≡ signatures (declared ss)
  pub env : e.env ≡ declared ss

-- the statement is the next to be written, after these
pub record IsNext (gaps : Bool) (earlier : List Statement) (s : Statement) (e : Emitter) : Type 0 where
  pub before : HasEmitted earlier e
  pub follows : MayFollow gaps earlier s

-- after some, in one of both modes
abbrev pub CanBeNext : Statement → Emitter → Type 0
CanBeNext s e = (gaps : Bool) × (earlier : List Statement) × IsNext gaps earlier s e

-- it is written: its parts are added, and to the table its sort or term
pub record WritesNext (s : Statement) (e e' : Emitter) : Type 0 where
  pub writer : e'.writer ≡ with_declaration e.env e.writer s.is_local s.dummies s.proof s.decl
  pub more_sorts : e'.table.sorts.items ≡ e.table.sorts.items ++ sorts (s.decl ∷ [])
  pub more_terms : table_of e' ≡ table_of e ++ signatures (s.decl ∷ [])

-- and what it declares stands before the one after it
abbrev pub EmitsNext : Statement → Emitter → Emitter → Type 0
EmitsNext s e e' = (earlier : List Statement) → HasEmitted earlier e → HasEmitted (earlier ++ s ∷ []) e'

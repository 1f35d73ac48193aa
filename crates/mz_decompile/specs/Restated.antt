-- The statements of a binary as a text's, with the proofs that its bodies make, and the text of a pair that is accepted
-- (this project's own; the statements and bodies are the .mmb format's).
use Rattle.std.specs.Prelude.{◌≡◌, ◌≤◌, ◌++◌, ⊤, ℕ, suc, max, min, ◌-◌, ◌^◌, List, [], ◌∷◌, length, Option, Some, None, Ok, MatchBool}
use Rattle.mz_base.specs.Checks.{Checks, nothing, demand, ◌>>◌}
use Rattle.mz_cmd.specs.declared.statement.StmtAt.TheVariants.{Head}
use Rattle.mz_cmd.specs.StatementList.{statement_at}
use Rattle.mz_logic_theory.specs.Declaration.{Declaration, sort_decl, term_decl, assertion_decl, assertions}
use Rattle.mz_logic_theory.specs.LegalLists.{Statement as Marked}
use Rattle.mz_logic_theory.specs.declared.binder.Binder.{Binder}
use Rattle.mz_sexpr.specs.Node.{depth_limit}
use Rattle.mz_mmu_theory.specs.Proof.{Proof}
use Rattle.mz_mmu_theory.specs.Statements.{Statement}
use Rattle.mz_mmu_theory.specs.Weight.{byte_bound}
use Rattle.mz_layout_tables.specs.Tables.{list_at}
use Rattle.mz_layout_tables.specs.Heads.{body_bytes}
use Rattle.mz_machine_theory.specs.FileRows.{taken_by, rows_taken}
use Rattle.mz_machine_theory.specs.Headings.{heading_of}
use Rattle.mz_spec_theory.specs.State.{Entry}
use Rattle.mz_spec_theory.specs.Spec.{SpecMakes}
use Rattle.mz_match_theory.specs.Verdict.{Accepts}
use Rattle.mz_prefix.specs.Wording.{longest}
use Rattle.mz_mmu_theory.specs.DeclaredNames.{prefix_beside}
use Rattle.mz_decompile_text.specs.Names.{declared_names, statement_names}
use Rattle.mz_trace.specs.Traces.{Made, under_lets}
use Rattle.mz_decompile_text.specs.Phrases.{depth}
use Rattle.mz_decompile_text.specs.Phrasing.{Vocabulary, statement, text_of}

-- ---- statements

-- a theorem is proved by the proof that its body, from one place of the file up to another, makes over the rows before it;
-- nothing else has a proof
abbrev pub IsProofMade : List ℕ → List Declaration → ℕ → ℕ → Declaration → List Binder → Option Proof → Type 0
IsProofMade file env body next (sort_decl _) dummies proof = (dummies ≡ []) × (proof ≡ None)
IsProofMade file env body next (term_decl _) dummies proof = (dummies ≡ []) × (proof ≡ None)
IsProofMade file env body next (assertion_decl a) dummies proof = MatchBool a.is_axiom
    ((dummies ≡ []) × (proof ≡ None))
    ((lets : List Proof) × (root : Proof) × (proof ≡ Some (under_lets lets root))
    × Made (rows_taken file (taken_by env)) (heading_of file 0x06 (length (assertions env))) (body_bytes file body next) dummies lets root)

-- the statement that stands at a place after env, under this name
pub record IsRestated (file : List ℕ) (env : List Declaration) (at : ℕ) (s : Marked) (next : ℕ) (name : List ℕ) (t : Statement) : Type 0 where
  pub code : ℕ
  pub body : ℕ
  pub stands : statement_at file at ≡ Ok (Head code body next)
  pub mark : t.is_local ≡ s.is_local
  pub named : t.name ≡ name
  pub declares : t.decl ≡ s.decl
  pub proof : IsProofMade file env body next s.decl t.dummies t.proof

-- one after another
abbrev pub AreRestated : List ℕ → List Declaration → ℕ → List Marked → List (List ℕ) → List Statement → Type 0
AreRestated file env at [] [] [] = ⊤
AreRestated file env at (s ∷ ss) (name ∷ names) (t ∷ ts) = (next : ℕ) × IsRestated file env at s next name t
    × AreRestated file (env ++ s.decl ∷ []) next ss names ts
AreRestated file env at _ _ _ = ⊥

-- The pair is accepted, and these are the binary's statements, under the specification's names.
pub record Restates (spec bin : List ℕ) (prefix : List ℕ) (ts : List Statement) : Type 0 where
  pub accepts : Accepts spec bin
  pub entries : List Entry
  pub makes : SpecMakes spec entries
  pub beside : prefix ≡ prefix_beside (declared_names spec entries)
  pub restated : AreRestated bin [] (list_at bin) accepts.statements (statement_names (declared_names spec entries) prefix 0 1 accepts.statements) ts

-- ---- what stands against the text

-- a statement, by its number, in whose text too many lists stand in one another; or the greater of the text's length and the
-- bound on its binary's, as it is reported
pub data Unstated : Type 0 where
  deep : ℕ → Unstated
  too_long : ℕ → Unstated

-- the first statement has this number
abbrev pub depth_checks : Vocabulary → ℕ → List Statement → Checks Unstated
depth_checks v k [] = nothing
depth_checks v k (s ∷ ss) = demand (deep k) (depth (statement v s) ≤ depth_limit) >> depth_checks v (suc k) ss

-- the text's length, or the bound on that of what it compiles to, if it is greater
abbrev pub greater_length : Vocabulary → List Statement → ℕ
greater_length v ss = max (length (text_of v ss)) (byte_bound ss)

-- a length as it is reported: the greatest that is
abbrev pub told_length : ℕ → ℕ
told_length n = min n (2 ^ 128 - 1)

abbrev pub stating_checks : Vocabulary → List Statement → Checks Unstated
stating_checks v ss = depth_checks v 1 ss >> demand (too_long (told_length (greater_length v ss))) (greater_length v ss ≤ longest)

-- What is known of a statement that is reported, and what is said of it.
use Rattle.std.specs.Prelude.{◌≡◌, ◌≤◌, ◌+◌, ℕ, true, false, List, [], length, map, Option, Some, None, MatchBool}
use Rattle.mz_cmd.specs.Codes.{statement_byte}
use Rattle.mz_logic_theory.specs.Signature.{Signature}
use Rattle.mz_logic_theory.specs.Declaration.{Term, Assertion, Declaration, sort_decl, term_decl, assertion_decl, sorts, terms, signatures, assertions}
use Rattle.mz_logic_theory.specs.declared.binder.Binder.{Binder}
use Rattle.mz_machine_theory.specs.Profile.{strict}
use Rattle.mz_machine_theory.specs.Spells.{SpellsTerm, SpellsThm, dummy_of}
use Rattle.mz_machine_theory.specs.Bodies.{Runs}
use Rattle.mz_layout_tables.specs.Heads.{body_bytes}
use Rattle.mz_machine_theory.specs.FileRows.{term_of_file, thm_of_file}
use Rattle.mz_machine_theory.specs.MachineState.{Declares}
use Rattle.mz_machine_env.specs.OwnRow.{MayRun}
use Rattle.mz_machine_theory.specs.Headings.{heading_of}
use Rattle.mz_machine_env.specs.Before.{tables_before}
use Rattle.mz_layout_tables.specs.declared.head.Head.{Head}
use Rattle.mz_layout_tables.specs.declared.rows_so_far.Rows.{Rows}
use Rattle.mz_binary_theory.specs.Spelling.{IsKindOf, is_local_code, SpellsRow}
use Rattle.mz_mmu_theory.specs.Proof.{Proof}
use Rattle.mz_mmu_theory.specs.Statements.{Statement}
use Rattle.mz_mmu_theory.specs.Weight.{statement_weight, declaration_weight, proof_weight, stated_weight}
use Rattle.mz_trace.specs.Traces.{Made, under_lets}
use Rattle.mz_decompile_text.specs.Phrases.{Phrase}
use Rattle.mz_decompile_text.specs.Phrasing.{Vocabulary, statement, declared_parts, term_parts, assertion_parts, proof}
use Rattle.mz_decompile_text.specs.Naming.{Naming, vocabulary_by}
use Rattle.mz_decompile_text.specs.Measures.{capped}
use Rattle.mz_decompile_text.specs.Rows.{AreArities, IsPhrase}
use Rattle.mz_decompile.specs.Adding.{Adds}
use Rattle.mz_decompile.specs.Naming.{next_name}
use Rattle.mz_decompile.specs.declared.size.Sized.{Sized}
use Rattle.mz_decompile.specs.declared.proof.Proved.{Proved}

-- ---- what is known

-- so many rows of each table were taken by the declarations
pub record Counts (env : List Declaration) (rows : Rows) : Type 0 where
  pub sorts_are : rows.sorts ≡ length (sorts env)
  pub terms_are : rows.terms ≡ length (terms env)
  pub thms_are : rows.thms ≡ length (assertions env)

-- the body, from one place up to another, of the theorem whose row is the next makes a proof, this one with these dummies
pub record MakesProof (file : List ℕ) (before : Rows) (env : List Declaration) (body next : ℕ) (dummies : List Binder) (p : Option Proof) : Type 0 where
  pub may_run : MayRun file 0x06 before.thms before
  pub order : body ≤ next
  pub within : next ≤ length file
  pub runs : Runs strict (tables_before file before) (heading_of file 0x06 before.thms) body (body_bytes file body next)
  pub declares : Declares (tables_before file before) env
  pub one : (ds : List Binder) (lets : List Proof) (root : Proof)
      → Made (tables_before file before) (heading_of file 0x06 before.thms) (body_bytes file body next) ds lets root
      → (dummies ≡ ds) × (p ≡ Some (under_lets lets root))

-- nothing but a theorem has a proof
abbrev pub HasProof : List ℕ → Rows → List Declaration → ℕ → ℕ → Declaration → List Binder → Option Proof → Type 0
HasProof file before env body next (sort_decl m) dummies p = (dummies ≡ []) × (p ≡ None)
HasProof file before env body next (term_decl d) dummies p = (dummies ≡ []) × (p ≡ None)
HasProof file before env body next (assertion_decl a) dummies p =
    MatchBool a.is_axiom ((dummies ≡ []) × (p ≡ None)) (MakesProof file before env body next dummies p)

-- the statement t, which declares what the next row of its kind spells, has this head after env
pub record Stands (file : List ℕ) (names : Naming) (before : Rows) (env : List Declaration) (head : Head) (t : Statement) : Type 0 where
  pub kind : IsKindOf (statement_byte head.code) t.decl
  pub mark : t.is_local ≡ is_local_code (statement_byte head.code)
  pub counts : Counts env before
  pub named : t.name ≡ next_name (vocabulary_by names) env t.decl
  pub row : SpellsRow file env t.decl
  pub arities : AreArities file (signatures env)
  pub proof : HasProof file before env head.body head.next t.decl t.dummies t.proof

abbrev pub SomeStands : List ℕ → Naming → Rows → Head → Type 0
SomeStands file names before head = (env : List Declaration) × (t : Statement) × Stands file names before env head t

-- ---- what is reported

-- the statement's phrase, by its number, and its weight
pub record IsSized (v : Vocabulary) (env : List Declaration) (ps : List Phrase) (told : Sized) (t : Statement) : Type 0 where
  pub phrase : IsPhrase ps told.phrase (statement v t)
  pub weight : told.weight ≡ capped (statement_weight env t)

-- its parts but for the visibility, and its weight
pub record AreParts (v : Vocabulary) (env : List Declaration) (old new : List Phrase) (before after : List ℕ) (weight : ℕ) (t : Statement) : Type 0 where
  pub adds : Adds old new before after (declared_parts v t.name t.decl t.dummies t.proof)
  pub weight_is : weight ≡ capped (statement_weight env t)

-- a term's or a definition's
pub record IsTerm (v : Vocabulary) (old new : List Phrase) (before after : List ℕ) (weight : ℕ) (name : List ℕ) (d : Term) : Type 0 where
  pub adds : Adds old new before after (term_parts v name d.signature d.form)
  pub weight_is : weight ≡ capped (1 + declaration_weight (term_decl d))

-- the sorts of a proof's dummies, its phrase and its weight
pub record IsProved (v : Vocabulary) (env : List Declaration) (ps : List Phrase) (r : Proved) (dummies : List Binder) (p : Option Proof) : Type 0 where
  pub dummies_are : dummies ≡ map dummy_of r.dummies.items
  pub tree : Proof
  pub proof_is : p ≡ Some tree
  pub phrase : IsPhrase ps r.phrase (proof v 0 tree)
  pub weight_is : r.weight ≡ capped (proof_weight env tree)

-- an axiom's
pub record IsAxiom (v : Vocabulary) (old new : List Phrase) (before after : List ℕ) (weight : ℕ) (name : List ℕ) (a : Assertion) : Type 0 where
  pub adds : Adds old new before after (assertion_parts v name true a.params a.hyps a.conclusion [] None)
  pub weight_is : weight ≡ capped (1 + declaration_weight (assertion_decl a))

-- a theorem's
pub record IsTheorem (v : Vocabulary) (env : List Declaration) (old new : List Phrase) (before after : List ℕ) (weight : ℕ) (name : List ℕ) (a : Assertion) (dummies : List Binder) (p :
    Option Proof) : Type 0 where
  pub adds : Adds old new before after (assertion_parts v name false a.params a.hyps a.conclusion dummies p)
  pub weight_is : weight ≡ capped (1 + declaration_weight (assertion_decl a) + length dummies + stated_weight env p)

-- signatures over which the row spells something
abbrev pub SpellsSomeThm : List ℕ → ℕ → Type 0
SpellsSomeThm file row = (sigs : List Signature) × AreArities file sigs × ((a : Assertion) × SpellsThm sigs (thm_of_file file row) a)

abbrev pub SpellsSomeTerm : List ℕ → ℕ → Type 0
SpellsSomeTerm file row = (sigs : List Signature) × AreArities file sigs × ((d : Term) × SpellsTerm sigs (term_of_file file row) d)

-- a proof is made of the body
abbrev pub MakesSome : List ℕ → Rows → ℕ → ℕ → Type 0
MakesSome file before body next = (env : List Declaration) × (dummies : List Binder) × (p : Option Proof) × MakesProof file before env body next dummies p

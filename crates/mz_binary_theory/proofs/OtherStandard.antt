-- What passes by one standard passes by another by which its bodies run too.
use Rattle.std.proofs.Common.{◌≡◌, ℕ, Bool, true, false, List, Option, None, Some, Result, Ok, Err, sym, subst}
use Rattle.std.specs.Prelude.{⊤}
use Rattle.mz_base.specs.Checks.{Checks, AllHold}
use Rattle.mz_base.proofs.Offered.{all_hold-both, all_hold-first, all_hold-rest}
use Rattle.mz_cmd.specs.declared.rule.K.{K}
use Rattle.mz_cmd.specs.declared.code.StatementCode.{StatementCode}
use Rattle.mz_cmd.specs.declared.code.StatementCode.TheVariants as codes
use Rattle.mz_cmd.specs.declared.statement.StmtAt.{StmtAt}
use Rattle.mz_cmd.specs.declared.statement.StmtAt.TheVariants.{End, Head}
use Rattle.mz_cmd.specs.declared.statement.StmtFault.{StmtFault}
use Rattle.mz_cmd.specs.StatementList.{statement_at}
use Rattle.mz_cmd.specs.Codes.{statement_code}
use Rattle.mz_logic_theory.specs.Declaration.{Declaration}
use Rattle.mz_logic_theory.specs.LegalLists.{Statement}
use Rattle.mz_layout_tables.specs.Tables.{term_row, thm_row}
use Rattle.mz_layout_tables.specs.Heads.{body_bytes}
use Rattle.mz_layout_tables.specs.Heads as heads
use Rattle.mz_layout_tables.specs.RowWords.{param_checks, word_checks}
use Rattle.mz_machine_theory.specs.FileRows.{Taken, taken_by, term_of_file, thm_of_file, rows_taken}
use Rattle.mz_machine_theory.specs.Lists.{definition_of, assertion_of}
use Rattle.mz_machine_theory.specs.MachineState.{RowsBefore, is_axiom, is_theorem, is_definition, Heading}
use Rattle.mz_binary_theory.specs.Standards.{Standard, checks_by}
use Rattle.mz_binary_theory.specs.Checking.{counts, term_body_checks, term_checks, thm_checks, parts_of, rest_checks, checks_of}
use Rattle.mz_binary_theory.specs.Chains.{IsGoodStatement, EndsAt}

-- a statement that has a proof
abbrev pub IsProving : Option StatementCode → Type 0
IsProving None = ⊥
IsProving (Some codes.Sort) = ⊥
IsProving (Some codes.Term) = ⊥
IsProving (Some codes.LocalDefinition) = ⊥
IsProving (Some codes.Axiom) = ⊥
IsProving (Some codes.Theorem) = ⊤
IsProving (Some codes.LocalTheorem) = ⊤

no-proof-of-definition : is_definition ≡ is_theorem → ⊥
no-proof-of-definition e = cc

no-proof-of-axiom : is_axiom ≡ is_theorem → ⊥
no-proof-of-axiom e = cc

-- what is asked of a body by A holds by B, of a theorem's where Fine is so of its bytes
module _ (A B : Standard) (Fine : List ℕ → Type 0)
    (body : (tables : RowsBefore) (h : Heading) (at : ℕ) (bytes : List ℕ) → (h.kind ≡ is_theorem → Fine bytes) → AllHold (checks_by A tables h at bytes) → AllHold (checks_by B tables h at bytes)) where
  module _ (file : List ℕ) (taken : Taken) (at from next : ℕ) where
    term-body : (o : Option (List ℕ)) → AllHold (term_body_checks A file taken at from next o) → AllHold (term_body_checks B file taken at from next o)
    term-body None all = all
    term-body (Some stream) all = body (rows_taken file taken) (definition_of (term_of_file file taken.terms) stream) from (body_bytes file from next) (λ is. absurd (no-proof-of-definition is)) all

    term : AllHold (term_checks A file taken at from next) → AllHold (term_checks B file taken at from next)
    term all =
        let words : Checks (ℕ × K) = word_checks taken.sorts (term_row file taken.terms) in
        let stream : Option (List ℕ) = (term_of_file file taken.terms).stream in
        let run : Checks (ℕ × K) = term_body_checks A file taken at from next stream in
        all_hold-both words (term_body_checks B file taken at from next stream) (all_hold-first words run all) (term-body stream (all_hold-rest words run all))

    thm : (without_proof : Bool) → ((assertion_of without_proof (thm_of_file file taken.thms)).kind ≡ is_theorem → Fine (body_bytes file from next))
        → AllHold (thm_checks A file taken from next without_proof) → AllHold (thm_checks B file taken from next without_proof)
    thm without_proof fine all =
        let words : Checks (ℕ × K) = param_checks taken.sorts (thm_row file taken.thms).words_at (thm_row file taken.thms).params in
        let h : Heading = assertion_of without_proof (thm_of_file file taken.thms) in
        let tables : RowsBefore = rows_taken file taken in
        let bytes : List ℕ = body_bytes file from next in
        let run : Checks (ℕ × K) = checks_by A tables h from bytes in
        all_hold-both words (checks_by B tables h from bytes) (all_hold-first words run all) (body tables h from bytes fine (all_hold-rest words run all))

    parts : (o : Option StatementCode) → (IsProving o → Fine (body_bytes file from next)) → AllHold (parts_of A file taken at from next o) → AllHold (parts_of B file taken at from next o)
    parts None fine all = all
    parts (Some codes.Sort) fine all = all
    parts (Some codes.Term) fine all = term all
    parts (Some codes.LocalDefinition) fine all = term all
    parts (Some codes.Axiom) fine all = thm true (λ is. absurd (no-proof-of-axiom is)) all
    parts (Some codes.Theorem) fine all = thm false (λ is. fine tt) all
    parts (Some codes.LocalTheorem) fine all = thm false (λ is. fine tt) all

  abbrev FineAt : List ℕ → Result StmtAt StmtFault → Type 0
  FineAt file (Err f) = ⊤
  FineAt file (Ok End) = ⊤
  FineAt file (Ok (Head code from next)) = IsProving (statement_code code) → Fine (body_bytes file from next)

  module _ (file : List ℕ) (taken : Taken) (at : ℕ) where
    rest : (there : Result StmtAt StmtFault) → FineAt file there → AllHold (rest_checks A file taken at there) → AllHold (rest_checks B file taken at there)
    rest (Err f) fine all = all
    rest (Ok End) fine all = all
    rest (Ok (Head code from next)) fine all = parts file taken at from next (statement_code code) fine all

    place : (there : Result StmtAt StmtFault) → FineAt file there → AllHold (checks_of A file taken at there) → AllHold (checks_of B file taken at there)
    place there fine all =
        let head : Checks (ℕ × K) = heads.checks_of file (counts taken) at there in
        all_hold-both head (rest_checks B file taken at there) (all_hold-first head (rest_checks A file taken at there) all) (rest there fine (all_hold-rest head (rest_checks A file taken at there) all))

  pub statement-by : (file : List ℕ) (env : List Declaration) (at : ℕ) (s : Statement) (next : ℕ) (good : IsGoodStatement A file env at s next)
      → (IsProving (statement_code good.spelled.code) → Fine (body_bytes file good.spelled.body next)) → IsGoodStatement B file env at s next
  statement-by file env at s next good fine =
      record { spelled = good.spelled; passes = place file (taken_by env) at (statement_at file at) (subst (FineAt file) (sym good.spelled.stands) fine) good.passes }

  pub end-by : (file : List ℕ) (env : List Declaration) (at : ℕ) → EndsAt A file env at → EndsAt B file env at
  end-by file env at ends = record { ends = ends.ends; passes = place file (taken_by env) at (statement_at file at) (subst (FineAt file) (sym ends.ends) tt) ends.passes }

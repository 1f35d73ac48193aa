-- What is asked of a statement by the standard machine holds by identity too, where its body runs there.
use Rattle.std.proofs.Common.{◌≡◌, ◌⊎◌, ℕ, Bool, true, false, List, Option, None, Some, refl, sym, subst, inl, inr}
use Rattle.std.specs.Prelude.{MatchBool, ⊤}
use Rattle.mz_base.specs.Checks.{Checks, AllHold}
use Rattle.mz_base.proofs.Offered.{all_hold-both, all_hold-first, all_hold-rest}
use Rattle.mz_cmd.specs.declared.rule.K.{K}
use Rattle.mz_cmd.specs.Codes.{statement_code}
use Rattle.mz_logic_theory.specs.Declaration.{Declaration, sort_decl, term_decl, assertion_decl}
use Rattle.mz_layout_tables.specs.Tables.{term_row, thm_row}
use Rattle.mz_machine_theory.specs.Profile.{strict}
use Rattle.mz_machine_theory.specs.Bodies.{Runs}
use Rattle.mz_layout_tables.specs.Heads.{body_bytes}
use Rattle.mz_machine_theory.specs.FileRows.{Taken, term_of_file, thm_of_file, rows_taken}
use Rattle.mz_machine_theory.specs.Lists.{definition_of, assertion_of}
use Rattle.mz_layout_tables.specs.RowWords.{param_checks, word_checks}
use Rattle.mz_machine_theory.specs.MachineState.{RowsBefore, Heading}
use Rattle.mz_binary_theory.proofs.Offered.{runs-by-table}
use Rattle.mz_pmachine_theory.proofs.Offered.{holds-by-standard}
use Rattle.mz_pmachine_theory.specs.NodeIdentity.{portable}
use Rattle.mz_pmachine_theory.specs.FilesByIdentity.{portable_standard}
use Rattle.mz_binary_theory.specs.Standards.{checks_by, strict_standard}
use Rattle.mz_binary_theory.specs.Checking.{term_body_checks, term_checks, thm_checks, kind_checks}
use Rattle.mz_binary_theory.specs.Spelling.{IsKindOf}

-- the bytes of a body run by identity where they run by the standard machine
abbrev pub RunsToo : RowsBefore → Heading → ℕ → List ℕ → Type 0
RunsToo tables h at bytes = Runs strict tables h at bytes → Runs portable tables h at bytes

module _ (file : List ℕ) (taken : Taken) (body next : ℕ) where
  abbrev tables : RowsBefore
  tables = rows_taken file taken

  abbrev bytes : List ℕ
  bytes = body_bytes file body next

  -- the body of the declaration, whose row is the next one, does
  abbrev pub BodyRunsToo : Declaration → Type 0
  BodyRunsToo (sort_decl _) = ⊤
  BodyRunsToo (term_decl _) = (stream : List ℕ) → (term_of_file file taken.terms).stream ≡ Some stream → RunsToo tables (definition_of (term_of_file file taken.terms) stream) body bytes
  BodyRunsToo (assertion_decl a) = RunsToo tables (assertion_of a.is_axiom (thm_of_file file taken.thms)) body bytes

  body-too : (h : Heading) → RunsToo tables h body bytes → AllHold (checks_by strict_standard tables h body bytes) → AllHold (checks_by portable_standard tables h body bytes)
  body-too h too all = holds-by-standard tables h body bytes (too (runs-by-table strict_standard tables h body bytes all))

  module _ (at : ℕ) where
    term-body-too : (o : Option (List ℕ)) → ((stream : List ℕ) → o ≡ Some stream → RunsToo tables (definition_of (term_of_file file taken.terms) stream) body bytes)
        → AllHold (term_body_checks strict_standard file taken at body next o) → AllHold (term_body_checks portable_standard file taken at body next o)
    term-body-too None too all = all
    term-body-too (Some stream) too all = body-too (definition_of (term_of_file file taken.terms) stream) (too stream refl) all

    term-too : ((stream : List ℕ) → (term_of_file file taken.terms).stream ≡ Some stream → RunsToo tables (definition_of (term_of_file file taken.terms) stream) body bytes)
        → AllHold (term_checks strict_standard file taken at body next) → AllHold (term_checks portable_standard file taken at body next)
    term-too too all =
        let words : Checks (ℕ × K) = word_checks taken.sorts (term_row file taken.terms) in
        let stream : Option (List ℕ) = (term_of_file file taken.terms).stream in
        let run : Checks (ℕ × K) = term_body_checks strict_standard file taken at body next stream in
        all_hold-both words (term_body_checks portable_standard file taken at body next stream) (all_hold-first words run all) (term-body-too stream too (all_hold-rest words run all))

    thm-too : (without_proof : Bool) → RunsToo tables (assertion_of without_proof (thm_of_file file taken.thms)) body bytes
        → AllHold (thm_checks strict_standard file taken body next without_proof) → AllHold (thm_checks portable_standard file taken body next without_proof)
    thm-too without_proof too all =
        let words : Checks (ℕ × K) = param_checks taken.sorts (thm_row file taken.thms).words_at (thm_row file taken.thms).params in
        let h : Heading = assertion_of without_proof (thm_of_file file taken.thms) in
        let run : Checks (ℕ × K) = checks_by strict_standard tables h body bytes in
        all_hold-both words (checks_by portable_standard tables h body bytes) (all_hold-first words run all) (body-too h too (all_hold-rest words run all))

    -- ---- by the command's code

    abbrev HoldsToo : ℕ → Type 0
    HoldsToo code = AllHold (kind_checks strict_standard file taken at body next (statement_code code)) → AllHold (kind_checks portable_standard file taken at body next (statement_code code))

    assertion-too : (code : ℕ) (without_proof : Bool) → MatchBool without_proof (code ≡ 0x02) ((code ≡ 0x06) ⊎ (code ≡ 0x0E))
        → RunsToo tables (assertion_of without_proof (thm_of_file file taken.thms)) body bytes → HoldsToo code
    assertion-too code true is too = subst HoldsToo (sym is) (λ all. (all.0, thm-too true too all.1))
    assertion-too code false (inl is) too = subst HoldsToo (sym is) (λ all. (all.0, thm-too false too all.1))
    assertion-too code false (inr is) too = subst HoldsToo (sym is) (λ all. (all.0, thm-too false too all.1))

    pub holds-too : (code : ℕ) (d : Declaration) → IsKindOf code d → BodyRunsToo d → HoldsToo code
    holds-too code (sort_decl m) is too = subst HoldsToo (sym is) (λ all. all)
    holds-too code (term_decl d) (inl is) too = subst HoldsToo (sym is) (λ all. (all.0, (all.1.0, term-too too all.1.1)))
    holds-too code (term_decl d) (inr is) too = subst HoldsToo (sym is) (λ all. (all.0, (all.1.0, term-too too all.1.1)))
    holds-too code (assertion_decl a) is too = assertion-too code a.is_axiom is too

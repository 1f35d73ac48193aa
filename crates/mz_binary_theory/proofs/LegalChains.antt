-- The statements of a good file are a legal list.
use Rattle.std.proofs.Common.{◌≡◌, ℕ, List, [], ◌∷◌, ◌++◌, Option, Some, None, Result, refl, subst, ◌∙◌, sym, Ok}
use Rattle.mz_base.specs.Checks.{AllHold}
use Rattle.mz_cmd.specs.declared.code.StatementCode.{StatementCode}
use Rattle.mz_cmd.specs.declared.statement.StmtAt.{StmtAt}
use Rattle.mz_cmd.specs.declared.statement.StmtAt.TheVariants.{Head}
use Rattle.mz_cmd.specs.declared.statement.StmtFault.{StmtFault}
use Rattle.mz_cmd.specs.Codes.{statement_code}
use Rattle.mz_cmd.specs.StatementList.{statement_at}
use Rattle.mz_logic_theory.specs.Declaration.{Declaration}
use Rattle.mz_logic_theory.specs.Legality.{IsLegalEnv}
use Rattle.mz_logic_theory.specs.LegalLists.{Statement, IsProvedBy, IsLegalStatement, LegalAfter, LegalBy, allowed_with}
use Rattle.mz_logic_theory.proofs.Offered.{legal_push}
use Rattle.mz_layout_tables.specs.Tables.{list_at}
use Rattle.mz_machine_theory.specs.MachineState.{Declares}
use Rattle.mz_machine_theory.specs.Sound.{cites_as}
use Rattle.mz_layout_tables.specs.Heads.{body_bytes}
use Rattle.mz_machine_theory.specs.FileRows.{taken_by, rows_taken}
use Rattle.mz_binary_theory.specs.Checking.{kind_checks, checks_of}
use Rattle.mz_binary_theory.specs.Chains.{IsGoodStatement, GoodTo}
use Rattle.mz_binary_theory.specs.Good.{Good}
use Rattle.mz_binary_theory.proofs.SpellingLaws.{one-spelled}
use Rattle.mz_binary_theory.specs.WholeLaws.{TheoremsCiteAsTheirBodies}
use Rattle.mz_binary_theory.proofs.Following.{ProvedAs, followed}
use Rattle.mz_binary_theory.specs.Standards.{Standard, lets_gaps}

module _ (standard : Standard) (file : List ℕ) where
  -- a good statement is legal and proved by its body, and the rows declare it too
  pub record GoesWell (env : List Declaration) (body next : ℕ) (s : Statement) : Type 0 where
    pub legal : IsLegalStatement (allowed_with (lets_gaps standard)) env s
    pub proved : ProvedAs (lets_gaps standard) (body_bytes file body next) env s.decl
    pub declares : Declares (rows_taken file (taken_by (env ++ s.decl ∷ []))) (env ++ s.decl ∷ [])

  good-follows : (env : List Declaration) (at : ℕ) (s : Statement) (next : ℕ) (good : IsGoodStatement standard file env at s next) → IsLegalEnv env → Declares (rows_taken file (taken_by env)) env → GoesWell env good.spelled.body next s
  good-follows env at s next good legal declares =
      go (statement_code good.spelled.code) refl (subst (λ (r : Result StmtAt StmtFault). AllHold (checks_of standard file (taken_by env) at r)) good.spelled.stands good.passes)
    where
      go : (o : Option StatementCode) → statement_code good.spelled.code ≡ o → AllHold (kind_checks standard file (taken_by env) at good.spelled.body next o) → GoesWell env good.spelled.body next s
      go None is all = absurd all.0
      go (Some k) is all =
          let f = followed standard file env at good.spelled.code good.spelled.body next good.spelled.stands k is legal declares all in
          let same : f.statement ≡ s = (one-spelled file env at f.statement s next next f.spelled good.spelled).0 in
          subst (GoesWell env good.spelled.body next) same (record { legal = f.legal; proved = f.proved; declares = f.declares })

  legal-chain : (env : List Declaration) (from : ℕ) (ss : List Statement) (env' : List Declaration) (to : ℕ) → GoodTo standard file env from ss env' to
      → IsLegalEnv env → Declares (rows_taken file (taken_by env)) env → LegalAfter (allowed_with (lets_gaps standard)) env ss
  legal-chain env from [] env' to chain legal declares = tt
  legal-chain env from (s ∷ ss) env' to (next, good, rest) legal declares =
      let here = good-follows env from s next good legal declares in
      (here.legal, legal-chain (env ++ s.decl ∷ []) next ss env' to rest (legal_push env s.decl legal here.legal.0) here.declares)

  -- what good statements declare is legal, and the rows declare it too
  pub well-chain : (env : List Declaration) (from : ℕ) (ss : List Statement) (env' : List Declaration) (to : ℕ) → GoodTo standard file env from ss env' to
      → IsLegalEnv env → Declares (rows_taken file (taken_by env)) env → IsLegalEnv env' × Declares (rows_taken file (taken_by env')) env'
  well-chain env from [] env' to (same, _) legal declares =
      subst (λ (z : List Declaration). IsLegalEnv z × Declares (rows_taken file (taken_by z)) z) (sym same) (legal, declares)
  well-chain env from (s ∷ ss) env' to (next, good, rest) legal declares =
      let here = good-follows env from s next good legal declares in
      well-chain (env ++ s.decl ∷ []) next ss env' to rest (legal_push env s.decl legal here.legal.0) here.declares

  pub good-legal : (ss : List Statement) → Good standard file ss → LegalBy (allowed_with (lets_gaps standard)) ss
  good-legal ss good = legal-chain [] (list_at file) ss good.env good.to good.statements tt (record { sorts_are = refl; terms_are = tt; thms_are = tt })

body-is : (file : List ℕ) (at code body code' body' next next' : ℕ) → statement_at file at ≡ Ok (Head code body next) → statement_at file at ≡ Ok (Head code' body' next') → body ≡ body'
body-is file at code body code' body' next next' e f = let both : Ok (Head code body next) ≡ Ok (Head code' body' next') = sym e ∙ f in cc

pub cite-as-bodies : TheoremsCiteAsTheirBodies
cite-as-bodies standard file before env at s next code body a chain good stands is theorem =
    let (legal, declares) = well-chain standard file [] (list_at file) before env at chain tt (record { sorts_are = refl; terms_are = tt; thms_are = tt }) in
    let here = good-follows standard file env at s next good legal declares in
    let same : good.spelled.body ≡ body = body-is file at good.spelled.code good.spelled.body code body next next good.spelled.stands stands in
    subst (λ (z : ℕ). IsProvedBy (cites_as (lets_gaps standard) (body_bytes file z next)) env a) same (here.proved a is theorem)

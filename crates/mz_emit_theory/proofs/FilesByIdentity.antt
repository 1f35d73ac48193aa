-- A file whose parts say a finished legal text is good by identity.
use Rattle.std.proofs.Common.{◌≡◌, ◌∙◌, ℕ, false, List, [], ◌∷◌, ◌++◌, Result, Ok, refl, sym, ap, subst}
use Rattle.mz_base.specs.Checks.{AllHold}
use Rattle.mz_cmd.specs.declared.statement.StmtAt.{StmtAt}
use Rattle.mz_cmd.specs.declared.statement.StmtAt.TheVariants.{Head}
use Rattle.mz_cmd.specs.declared.statement.StmtFault.{StmtFault}
use Rattle.mz_cmd.specs.StatementList.{statement_at}
use Rattle.mz_logic_theory.specs.Declaration.{Declaration}
use Rattle.mz_logic_theory.specs.Legality.{IsLegalEnv}
use Rattle.mz_logic_theory.specs.LegalLists.{Statement, LegalAfter, gap_free}
use Rattle.mz_layout_tables.specs.Normal.{Written, Parts, file_of}
use Rattle.mz_layout_tables.specs.Standing.{Fit, AreListed, body_place, next_place}
use Rattle.mz_layout_tables.specs.Tables.{list_at}
use Rattle.mz_layout_tables.proofs.Offered.{all-listed, counts-said}
use Rattle.mz_layout_tables.specs.Heads.{body_bytes}
use Rattle.mz_machine_theory.specs.FileRows.{taken_by, rows_taken}
use Rattle.mz_machine_theory.specs.MachineState.{Declares}
use Rattle.mz_binary_theory.specs.Standards.{Standard, strict_standard}
use Rattle.mz_pmachine_theory.specs.FilesByIdentity.{portable_standard}
use Rattle.mz_binary_theory.specs.Chains.{IsGoodStatement, GoodTo, EndsAt}
use Rattle.mz_binary_theory.specs.Checking.{checks_of}
use Rattle.mz_binary_theory.specs.Good.{Good}
use Rattle.mz_binary_theory.proofs.Offered.{well-chain}
use Rattle.mz_emit_theory.specs.AlphaEquivalence.{IsSameEnv}
use Rattle.mz_emit_theory.proofs.Joining.{same-at-first}
use Rattle.mz_emit_theory.proofs.LongerRows.{shared-at-first}
use Rattle.mz_emit_theory.proofs.ListsHold.{body-is, same-after}
use Rattle.mz_emit_theory.proofs.FilesHold.{files-good}
use Rattle.mz_emit_theory.specs.SharedRows.{AreSharedRows}
use Rattle.mz_emit_theory.specs.FileWriting.{AreWritten}
use Rattle.mz_emit_theory.specs.LawsByIdentity.{WrittenFilesAreGoodByIdentity}
use Rattle.mz_emit_theory.proofs.BodiesByIdentity.{BodyRunsToo, holds-too}
use Rattle.mz_emit_theory.proofs.StatementsByIdentity.{GoesOn, goes-on}

-- one head alone is read at a place
one-head : (file : List ℕ) (at code body next code' body' next' : ℕ) → statement_at file at ≡ Ok (Head code body next) → statement_at file at ≡ Ok (Head code' body' next') → (body ≡ body') × (next ≡ next')
one-head file at code body next code' body' next' e f = let both : Ok (Head code body next) ≡ Ok (Head code' body' next') = sym e ∙ f in (cc, cc)

module _ (file : List ℕ) where
  statement-too : (env : List Declaration) (at : ℕ) (s : Statement) (next : ℕ) (good : IsGoodStatement strict_standard file env at s next) → BodyRunsToo file (taken_by env) good.spelled.body next s.decl
      → IsGoodStatement portable_standard file env at s next
  statement-too env at s next good too =
      let holds : (standard : Standard) → Result StmtAt StmtFault → Type 0 = λ standard r. AllHold (checks_of standard file (taken_by env) at r) in
      record {
        spelled = good.spelled;
        passes = subst (holds portable_standard) (sym good.spelled.stands) (holds-too file (taken_by env) good.spelled.body next at good.spelled.code s.decl good.spelled.kind.0 too (subst (holds strict_standard) good.spelled.stands good.passes));
      }

  ends-too : (env : List Declaration) (at : ℕ) → EndsAt strict_standard file env at → EndsAt portable_standard file env at
  ends-too env at end =
      let holds : (standard : Standard) → Result StmtAt StmtFault → Type 0 = λ standard r. AllHold (checks_of standard file (taken_by env) at r) in
      record { ends = end.ends; passes = subst (holds portable_standard) (sym end.ends) (subst (holds strict_standard) end.ends end.passes) }

-- ---- all of them

module _ (p : Parts) (fit : Fit p) where
  rest-too : (env env' : List Declaration) (at : ℕ) (ts ss : List Statement) (ws : List Written) (last : List Declaration) (to : ℕ) → AreWritten false p env ts ss ws → LegalAfter gap_free env ts
      → AreListed (file_of p) at ws → IsSameEnv env env' → IsLegalEnv env' → Declares (rows_taken (file_of p) (taken_by env')) env' → AreSharedRows (rows_taken (file_of p) (taken_by env')).terms
      → GoodTo strict_standard (file_of p) env' at ss last to → GoodTo portable_standard (file_of p) env' at ss last to
  rest-too env env' at ts [] ws last to written legal listed same legal-env declares shared chain = chain
  rest-too env env' at [] (s ∷ ss) ws last to written legal listed same legal-env declares shared chain = absurd written
  rest-too env env' at (t ∷ ts) (s ∷ ss) [] last to written legal listed same legal-env declares shared chain = absurd written
  rest-too env env' at (t ∷ ts) (s ∷ ss) (w ∷ ws) last to (written, all) (legal, all-legal) (stands, body-stands, listed) same legal-env declares shared (next, good, rest) =
      let (body-same, next-same) = one-head (file_of p) at good.spelled.code good.spelled.body next w.code (body_place at w) (next_place at w) good.spelled.stands stands in
      let bytes-are : body_bytes (file_of p) good.spelled.body next ≡ w.body =
      ap (λ (b : ℕ). body_bytes (file_of p) b next) body-same ∙ ap (body_bytes (file_of p) (body_place at w)) next-same ∙ body-is (file_of p) at w body-stands in
      let on : GoesOn p fit env env' same declares shared good.spelled.body next w.body bytes-are s.decl =
      goes-on p fit env env' same declares shared good.spelled.body next w.body bytes-are s.is_local t.decl s.decl legal.0 good.spelled.row written.declaration in
      let (legal-env', declares') = well-chain strict_standard (file_of p) env' at (s ∷ []) (env' ++ s.decl ∷ []) next (next, good, (refl, refl)) legal-env declares in (
        next,
        statement-too (file_of p) env' at s next good on.runs,
        rest-too (env ++ t.decl ∷ []) (env' ++ s.decl ∷ []) next ts ss ws last to all all-legal (subst (λ (z : ℕ). AreListed (file_of p) z ws) (sym next-same) listed)
            (same-after false p fit env env' same declares s.is_local t.decl s.decl w.body written.declaration) legal-env' declares' on.shares rest,
      )

pub files-by-identity : WrittenFilesAreGoodByIdentity
files-by-identity p text made fit legal written =
    let good : Good strict_standard (file_of p) made = files-good false p text made fit legal written in
    let listed : AreListed (file_of p) (list_at (file_of p)) p.statements = subst (λ at. AreListed (file_of p) at p.statements) (sym (counts-said p fit.short).list_at) (all-listed p fit) in
    record {
      layout = good.layout;
      env = good.env;
      to = good.to;
      statements = rest-too p fit [] [] (list_at (file_of p)) text made p.statements good.env good.to written legal listed same-at-first tt (record { sorts_are = refl; terms_are = tt; thms_are = tt }) shared-at-first good.statements;
      ends = ends-too (file_of p) good.env good.to good.ends;
    }

-- What runs by a standard runs on the standard machine.
use Rattle.std.proofs.Common.{◌≡◌, ℕ, Bool, true, false, List, [], Result, Ok, Err, refl}
use Rattle.std.specs.Prelude.{⊤}
use Rattle.mz_base.specs.Checks.{AllHold}
use Rattle.mz_cmd.specs.declared.rule.K.{K}
use Rattle.mz_logic_theory.specs.Declaration.{Declaration}
use Rattle.mz_logic_theory.specs.LegalLists.{Statement}
use Rattle.mz_layout_tables.specs.Tables.{list_at}
use Rattle.mz_machine_theory.specs.Profile.{plain}
use Rattle.mz_machine_theory.specs.Steps.{◌>>◌}
use Rattle.mz_machine_theory.specs.Bodies.{Runs, body_run, checks_of}
use Rattle.mz_machine_theory.specs.MachineState.{RowsBefore, is_theorem, Heading}
use Rattle.mz_machine_theory.proofs.Offered.{bodies-checked}
use Rattle.mz_binary_theory.specs.Standards.{Standard, checks_by, lets_gaps, published, by_table}
use Rattle.mz_binary_theory.specs.Chains.{IsGoodStatement}
use Rattle.mz_binary_theory.specs.WholeLaws.{GoodFilesAreGoodByTable}
use Rattle.mz_binary_theory.proofs.ChainLaws.{chain-weaker}
use Rattle.mz_binary_theory.proofs.OtherStandard.{statement-by, end-by}

pub runs-by-table : (standard : Standard) (tables : RowsBefore) (h : Heading) (at : ℕ) (bytes : List ℕ) → AllHold (checks_by standard tables h at bytes) → Runs (plain (lets_gaps standard)) tables h at bytes
runs-by-table standard tables h at bytes = go (standard.first tables h at bytes)
  where
    go : (r : Result (Unit {0}) (ℕ × K)) → AllHold (checks_of (r >> body_run (plain (lets_gaps standard)) tables h at bytes)) → Runs (plain (lets_gaps standard)) tables h at bytes
    go (Ok x) all = (bodies-checked (plain (lets_gaps standard)) tables h at bytes).0.0 all
    go (Err f) all = absurd all.0

-- the standard machine with gaps, or without
pub holds-with : (gaps : Bool) (tables : RowsBefore) (h : Heading) (at : ℕ) (bytes : List ℕ) → Runs (plain gaps) tables h at bytes → AllHold (checks_by (by_table gaps) tables h at bytes)
holds-with false tables h at bytes runs = (bodies-checked (plain false) tables h at bytes).0.1 runs
holds-with true tables h at bytes runs = (bodies-checked (plain true) tables h at bytes).0.1 runs

pub lets-with : (gaps : Bool) → lets_gaps (by_table gaps) ≡ gaps
lets-with false = refl
lets-with true = refl

abbrev any : List ℕ → Type 0
any bytes = ⊤

module _ (standard : Standard) (file : List ℕ) where
  holds : (tables : RowsBefore) (h : Heading) (at : ℕ) (bytes : List ℕ) → (h.kind ≡ is_theorem → ⊤) → AllHold (checks_by standard tables h at bytes) → AllHold (checks_by (published standard.mode) tables h at bytes)
  holds tables h at bytes fine all = (bodies-checked (plain (lets_gaps standard)) tables h at bytes).0.1 (runs-by-table standard tables h at bytes all)

  statement-by-table : (env : List Declaration) (at : ℕ) (s : Statement) (next : ℕ) → IsGoodStatement standard file env at s next → IsGoodStatement (published standard.mode) file env at s next
  statement-by-table env at s next good = statement-by standard (published standard.mode) any holds file env at s next good (λ proving. tt)

pub good-by-table : GoodFilesAreGoodByTable
good-by-table standard file ss good = record {
  layout = good.layout;
  env = good.env;
  to = good.to;
  statements = chain-weaker (IsGoodStatement standard file) (IsGoodStatement (published standard.mode) file) (statement-by-table standard file) [] (list_at file) ss good.env good.to good.statements;
  ends = end-by standard (published standard.mode) any (holds standard file) file good.env good.to good.ends;
}

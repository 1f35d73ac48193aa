use Rattle.std.proofs.Common.{suc, drop, subst, List, ℕ}
use Rattle.mz_base.specs.Checks.{Judges}
use Rattle.mz_logic_theory.specs.DeclView.{declaration}
use Rattle.mz_spec_theory.specs.State.{env_of}
use Rattle.mz_spec_proved_theory.specs.Match.{match_checks, partner_of}
use Rattle.mz_spec_proved_theory.proofs.Offered.{drop-entry}
use Rattle.mz_match.proofs.ReportedRows.{reported-row}
use Rattle.mz_match_rows.proofs.Offered.{judges-partner}
use Rattle.mz_match.proofs.statement.match_statement.Goals as goal

pub match_declaration-requires : goal.match_declaration-requires
match_declaration-requires c =
    let t = c.requires.told in (t.3.decl, reported-row t.0 c.args.mmb.now c.args.publics.now c.args.statement.now t.1 t.2 t.3 t.4 t.5)

pub returns : goal.returns
returns c = λ standard ss env s next told.
    judges-partner (drop c.args.i (env_of c.args.spec.now)) (drop (suc c.args.i) (env_of c.args.spec.now)) (declaration c.decl.result.now) (partner_of ss s) c.match_declaration.result
    (drop-entry c.args.spec.now c.args.i (declaration c.decl.result.now) c.decl.ensures)
    (subst (λ (rows : List ℕ). Judges c.match_declaration.result (match_checks (declaration c.decl.result.now) (record { rows = rows; decl = s.decl }))) told.rows_are
    (c.match_declaration.ensures s.decl (reported-row standard c.args.mmb.now c.args.publics.now c.args.statement.now ss env s next told)))

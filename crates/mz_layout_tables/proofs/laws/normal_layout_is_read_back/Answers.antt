use Rattle.std.proofs.Common.{Some, sym, subst}
use Rattle.mz_layout_tables.specs.Normal.{file_of}
use Rattle.mz_layout_tables.specs.Standing.{Stands, AreListed}
use Rattle.mz_layout_tables.proofs.PartsStand.{counts-said, file-length}
use Rattle.mz_layout_tables.proofs.StandingLaws.{stands-bytes}
use Rattle.mz_layout_tables.proofs.TablesRead.{mods-read, term-read, thm-read, term-stream, thm-stream}
use Rattle.mz_layout_tables.proofs.LayoutHolds.{layout-holds}
use Rattle.mz_layout_tables.proofs.ListRead.{all-listed}
use Rattle.mz_layout_tables.proofs.laws.normal_layout_is_read_back.Goals as goal

pub returns-clause-layout : goal.returns-clause-layout
returns-clause-layout c = layout-holds

pub returns-clause-counted : goal.returns-clause-counted
returns-clause-counted c = λ p fit. let h = counts-said p fit.short in record { len = file-length p; sorts = h.sorts; terms = h.terms; thms = h.thms; list_at = h.list_at }

pub returns-clause-sorts : goal.returns-clause-sorts
returns-clause-sorts c = mods-read

pub returns-clause-terms : goal.returns-clause-terms
returns-clause-terms c = term-read

pub returns-clause-thms : goal.returns-clause-thms
returns-clause-thms c = thm-read

pub returns-clause-term_streams : goal.returns-clause-term_streams
returns-clause-term_streams c = λ p fit t params ret unify e.
    subst (λ row. Stands (file_of p) row.stream_at unify) (sym (term-read p fit t params ret (Some unify) e)) (term-stream p fit t params ret unify e)

pub returns-clause-thm_streams : goal.returns-clause-thm_streams
returns-clause-thm_streams c = λ p fit i params unify e.
    subst (λ row. Stands (file_of p) row.stream_at unify) (sym (thm-read p fit i params unify e)) (thm-stream p fit i params unify e)

pub returns-clause-listed : goal.returns-clause-listed
returns-clause-listed c = λ p fit. subst (λ at. AreListed (file_of p) at p.statements) (sym (counts-said p fit.short).list_at) (all-listed p fit)

pub returns-clause-standing : goal.returns-clause-standing
returns-clause-standing c = stands-bytes

use Rattle.mz_base.proofs.Offered.{all_hold-excludes, all_hold-or_fails, fails_first-unique}
use Rattle.mz_layout_tables.specs.Layout.{layout_checks}
use Rattle.mz_layout_tables.proofs.Decided.{layout-decided}
use Rattle.mz_layout_tables.proofs.laws.each_file_has_one_layout.Goals as goal

pub returns-clause-one : goal.returns-clause-one
returns-clause-one c = λ file. all_hold-or_fails (layout_checks file) (layout-decided file)

pub returns-clause-not_both : goal.returns-clause-not_both
returns-clause-not_both c = λ file fault a f. all_hold-excludes (layout_checks file) fault a f

pub returns-clause-only : goal.returns-clause-only
returns-clause-only c = λ file fault other f g. fails_first-unique (layout_checks file) fault other f g

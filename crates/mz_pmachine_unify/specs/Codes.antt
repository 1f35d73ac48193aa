-- How the expressions of a body are stored as data.
use Rattle.std.specs.Prelude.{ℕ, List, refl}
use Rattle.std.specs.Coded.{Coded, code_by, coded×, coded_ℕ, coded_list}
use Rattle.mz_logic_theory.specs.Codes.{binder_code}
use Rattle.mz_logic_theory.specs.declared.binder.Binder.{Binder}
use Rattle.mz_store.specs.Codes.{mode_code}
use Rattle.mz_store.specs.declared.item.DepsMode.{DepsMode}
use Rattle.mz_pmachine_theory.specs.NodeIdentity.{Numbered}
use Rattle.mz_pmachine_unify.specs.ExprCode.{expr_code}
use Rattle.mz_pmachine_unify.specs.Numbering.{Entry, Numbering}

abbrev pub entry_code : Coded Entry
entry_code = code_by (Numbered × (ℕ × (ℕ × ℕ))) (coded× expr_code (coded× coded_ℕ (coded× coded_ℕ coded_ℕ))) (λ e. (e.expr, (e.sort, (e.vars, e.deps))))
    (λ p. record { expr = p.0; sort = p.1.0; vars = p.1.1.0; deps = p.1.1.1 }) (λ _. refl)

abbrev pub numbering_code : Coded Numbering
numbering_code = code_by (List Binder × (DepsMode × (ℕ × List Entry))) (coded× (coded_list binder_code) (coded× mode_code (coded× coded_ℕ (coded_list entry_code))))
    (λ s. (s.context, (s.mode, (s.next, s.entries)))) (λ p. record { context = p.0; mode = p.1.0; next = p.1.1.0; entries = p.1.1.1 }) (λ _. refl)

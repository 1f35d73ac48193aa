use Rattle.std.proofs.Common.{◌≡◌, ◌++◌, drop}
use Rattle.mz_logic_theory.specs.Words.{binders_of, bound_places}
use Rattle.mz_unify.specs.Stored.{trees_at}
use Rattle.mz_machine_theory.specs.Premises.{operands_fit}
use Rattle.mz_machine_env.specs.Before.{signatures_of}
use Rattle.mz_layout_tables.specs.Rows.{params_of}
use Rattle.mz_machine.proofs.arguments.check_cited.Given as goal

-- the operands that are left decide; the places so far, followed by those of the parameters that are left, are all
abbrev pub invariant-operands : goal.invariant-operands
invariant-operands l =
    (operands_fit (signatures_of l.env) l.store.context (drop l.j (trees_at l.store l.operands)) (drop l.j (binders_of (params_of l.env.file l.row)))
    ≡ operands_fit (signatures_of l.env) l.store.context (trees_at l.store l.operands) (binders_of (params_of l.env.file l.row)))
    × (l.places.items ++ bound_places l.j (drop l.j (params_of l.env.file l.row)) ≡ bound_places 0 (params_of l.env.file l.row))

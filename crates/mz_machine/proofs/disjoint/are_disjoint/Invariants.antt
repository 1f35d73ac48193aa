use Rattle.std.proofs.Common.{◌≡◌, drop}
use Rattle.mz_logic_theory.specs.Words.{binders_of}
use Rattle.mz_unify.specs.Stored.{trees_at}
use Rattle.mz_machine_theory.specs.Premises.{apart_at, are_disjoint}
use Rattle.mz_layout_tables.specs.Rows.{params_of}
use Rattle.mz_machine.proofs.disjoint.are_disjoint.Given as goal

-- the operands that are left decide
abbrev pub invariant-operands : goal.invariant-operands
invariant-operands l =
    apart_at l.store.context (trees_at l.store l.operands) (binders_of (params_of l.env.file l.row)) l.i (drop l.i (trees_at l.store l.operands)) (drop l.i (binders_of (params_of l.env.file l.row)))
    ≡ are_disjoint l.store.context (trees_at l.store l.operands) (binders_of (params_of l.env.file l.row))

use Rattle.std.proofs.Common.{◌≡◌, Some, drop, slice_get}
use Rattle.mz_logic_theory.specs.declared.word.Word.{Word}
use Rattle.mz_store.specs.Sharing.{tree_of}
use Rattle.mz_unify.specs.Stored.{trees_at}
use Rattle.mz_layout_tables.specs.Rows.{params_of}
use Rattle.mz_machine_env.proofs.Offered.{Decides}
use Rattle.mz_machine.proofs.disjoint.is_apart.Given as goal

-- the places that are left decide, by the bits that are left
abbrev pub invariant-places : goal.invariant-places
invariant-places l = (w : Word) → slice_get (params_of l.env.file l.fn.row) l.i ≡ Some w
    → Decides l.store.context (trees_at l.store l.operands) (params_of l.env.file l.fn.row) l.i w (tree_of l.store l.id.0) l.bits (drop l.place-index l.bound)

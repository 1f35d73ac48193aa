use Rattle.std.proofs.Common.{◌∙◌, sym}
use Rattle.mz_unify.proofs.StoredIds.{some-left}
use Rattle.mz_unify.proofs.rows.are_none.Goals as goal

pub returns-else-is_empty : goal.returns-else-is_empty
returns-else-is_empty c = c.if-is_empty.false ∙ sym (some-left c.args.store.now c.args.front.now c.args.targets.now (sym c.is_empty.ensures ∙ c.if-is_empty.false))

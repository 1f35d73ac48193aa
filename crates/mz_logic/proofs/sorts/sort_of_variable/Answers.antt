use Rattle.std.proofs.Common.{sym, ap}
use Rattle.std.proofs.lemmas.Option.{get_or_from_slice_get}
use Rattle.mz_logic_theory.proofs.Offered.{none_read}
use Rattle.mz_logic.proofs.sorts.sort_of_variable.Goals as goal

pub returns-in-None : goal.returns-in-None
returns-in-None c = sym (ap (λ b. b.sort) (none_read c.args.ctx.now c.args.place _ c.in-None.ensures))

pub returns-in-Some : goal.returns-in-Some
returns-in-Some c = sym (ap (λ b. b.sort) (get_or_from_slice_get c.args.ctx.now c.args.place _ _ (sym c.in-Some.ensures)))

use Rattle.std.proofs.Common.{sym, ap}
use Rattle.std.proofs.lemmas.Option.{get_or_from_slice_get}
use Rattle.mz_logic_theory.specs.Declaration.{signatures}
use Rattle.mz_logic_theory.proofs.Offered.{none_read}
use Rattle.mz_logic.proofs.sorts.sort_of_term.Goals as goal

pub returns-in-None : goal.returns-in-None
returns-in-None c = sym (ap (λ b. b.result.sort) (none_read (signatures c.args.env.now) c.args.term _ c.in-None.ensures.signature))

pub returns-in-Some : goal.returns-in-Some
returns-in-Some c = sym (ap (λ b. b.result.sort) (get_or_from_slice_get (signatures c.args.env.now) c.args.term _ _ (sym c.in-Some.ensures.signature)))

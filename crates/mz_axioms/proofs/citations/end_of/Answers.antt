use Rattle.std.proofs.Common.{◌≤◌, ◌∙◌, sym, ap, subst, length, Ok}
use Rattle.mz_binary_theory.proofs.Offered.{head-at}
use Rattle.mz_axioms.proofs.citations.end_of.Goals as goal

pub returns-in-Ok-Head-clause-within : goal.returns-in-Ok-Head-clause-within
returns-in-Ok-Head-clause-within c =
    subst (λ f. c.in-Ok-Head.next ≤ length f) c.file.ensures.file
    (head-at c.file.result.now c.args.statement.now.at c.in-Ok-Head.field-0-0 c.in-Ok-Head.field-0-1 c.in-Ok-Head.next (sym c.in-Ok-Head.ensures.computed ∙ ap (λ s. Ok s) c.in-Ok-Head.field-0-is)).within

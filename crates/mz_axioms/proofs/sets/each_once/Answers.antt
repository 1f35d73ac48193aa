use Rattle.std.proofs.Common.{List, ℕ, subst}
use Rattle.std.proofs.lemmas.Result.{IfOk-weaker}
use Rattle.mz_axioms.specs.Members.{AreOnce}
use Rattle.mz_axioms.proofs.Joining.{once-sorted}
use Rattle.mz_axioms.proofs.sets.each_once.Goals as goal

pub returns : goal.returns
returns c =
    IfOk-weaker c.without_repeats.result _ _
    (λ kept once. once-sorted c.args.ids.items c.sort_unstable.new.self.items kept.items c.sort_unstable.ensures.permutation (subst (λ (xs : List ℕ). AreOnce xs kept.items) c.deref.ensures.value once))
    c.without_repeats.ensures

use Rattle.std.proofs.Common.{ℕ, List, ◌≤◌, length, subst, sym}
use Rattle.std.proofs.lemmas.List.{take_all}
use Rattle.mz_logic_free.proofs.variables.VariableSet.truncate.Goals as goal

pub returns-else-len : goal.returns-else-len
returns-else-len c =
    sym (take_all c.args.len c.args.self.now (subst (λ (ks : List ℕ). length ks ≤ c.args.len) c.self.view_is (subst (λ n. n ≤ c.args.len) c.len.ensures.len c.if-len.false)))

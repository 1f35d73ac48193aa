use Rattle.std.proofs.Common.{◌↔◌, ℕ, List, Contains, subst, sym}
use Rattle.std.proofs.lemmas.Result.{IfOk-weaker}
use Rattle.mz_logic_free.proofs.Narrowing.{few-are}
use Rattle.mz_logic_free.proofs.narrowed.few_of.Goals as goal

pub returns : goal.returns
returns c =
    IfOk-weaker c.from_vec.result _ _
    (λ few is. subst (λ (ws : List ℕ). (x : ℕ) → Contains c.args.variables.now x → Contains ws x ↔ Contains c.args.places.now x) (sym is)
    (few-are c.args.variables.now c.args.places.now c.fewer-sought.result.now c.push_common.new.few.items c.new-few.result.items c.new-few.ensures.items c.fewer-sought.ensures c.in_ok-push_common.ensures))
    c.from_vec.ensures

use Rattle.std.proofs.Common.{sym, true≢false}
use Rattle.mz_logic_free.proofs.Sharing.{none-has}
use Rattle.mz_logic_free.proofs.named.some_name_any.Goals as goal

pub returns-then-is_empty : goal.returns-then-is_empty
returns-then-is_empty c = (
  λ no. absurd (true≢false (sym no)),
  λ (x, has, named). absurd (none-has c.args.variables.now x (c.is_empty.ensures.0 c.if-is_empty.true) has),
)

use Rattle.std.proofs.Common.{◌≡◌, ◌++◌, take}
use Rattle.mz_store.proofs.expressions.put_all.Given as goal

-- those so far are there
abbrev pub invariant-more : goal.invariant-more
invariant-more l = l.ids.items ≡ l.fn.ids.items ++ take l.id-index l.more

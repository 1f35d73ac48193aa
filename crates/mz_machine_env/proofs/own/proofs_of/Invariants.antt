use Rattle.std.proofs.Common.{◌≡◌, map, take}
use Rattle.mz_store.specs.declared.item.Item.TheVariants.{Proof}
use Rattle.mz_machine_env.proofs.own.proofs_of.Given as goal

abbrev pub invariant-hyps : goal.invariant-hyps
invariant-hyps l = l.items.items ≡ map Proof (take l.hyp-index l.hyps)

use Rattle.std.proofs.Common.{◌∙◌, sym}
use Rattle.std.proofs.lemmas.Option.{none-some}
use Rattle.mz_math_coercions.proofs.Leading.{next-at}
use Rattle.mz_math_coercions.proofs.next_hop.next_coercion.Goals as goal

pub returns-in-Some : goal.returns-in-Some
returns-in-Some c = next-at c.args.items.now c.args.from c.args.to c.in-Some.place c.coercion_at.result c.requires.one ((c.requires.led c.args.from c.args.to).1 c.in-Some.place (sym c.in-Some.ensures)) c.coercion_at.ensures

pub returns-in-None : goal.returns-in-None
returns-in-None c = λ p path on. none-some _ (c.in-None.ensures ∙ (c.requires.led c.args.from c.args.to).0 p path on)

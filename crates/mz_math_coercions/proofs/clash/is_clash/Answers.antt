use Rattle.mz_math_coercions.proofs.Clashes.{apart-one, grouped-kept}
use Rattle.mz_math_coercions.proofs.clash.is_clash.Goals as goal

pub returns-then-are_apart-clause-grouped : goal.returns-then-are_apart-clause-grouped
returns-then-are_apart-clause-grouped c = grouped-kept c.args.graph.now c.args.groups.now c.are_apart.new.self c.are_apart.ensures.named c.requires.grouped

pub returns-then-are_apart-clause-clash : goal.returns-then-are_apart-clause-clash
returns-then-are_apart-clause-clash c = apart-one c.args.graph.now c.args.coercion c.args.groups.now c.requires.one c.requires.grouped (c.are_apart.ensures.apart c.if-are_apart.true)

pub returns-clause-grouped : goal.returns-clause-grouped
returns-clause-grouped c = grouped-kept c.args.graph.now c.args.groups.now c.are_apart.new.self c.are_apart.ensures.named c.requires.grouped

use Rattle.std.proofs.Common.{◌<◌, ◌+◌, ◌∙◌, length, get_or, ap, sym, arith, rules}
use Rattle.mz_logic_theory.specs.Tree.{listed, more, past, under}
use Rattle.mz_logic_theory.proofs.Past.{length-mapped, past-mapped, size-at}
use Rattle.mz_logic_theory.proofs.expr.Operands.at.Goals as goal

pub offset_bounds-self-inside-i : goal.offset_bounds-self-inside-i
offset_bounds-self-inside-i c =
    let many = length-mapped (under c.self.inside.path.now) c.self.inside.exprs.now in
    let same = ap (λ es. length (listed es)) c.self.view_is in
    let below : c.args.i < length c.self.inside.exprs.now = omega (arith, many, same, c.requires) in search (rules, below)

pub bounds-self-inside-i : goal.bounds-self-inside-i
bounds-self-inside-i c =
    let many = length-mapped (under c.self.inside.path.now) c.self.inside.exprs.now in
    let same = ap (λ es. length (listed es)) c.self.view_is in
    omega (arith, many, same, c.requires)

pub returns-clause-left : goal.returns-clause-left
returns-clause-left c =
    let many = length-mapped (under c.self.inside.path.now) c.self.inside.exprs.now in
    let same = ap (λ es. length (listed es)) c.self.view_is in
    let below : c.args.i < length c.self.inside.exprs.now = omega (arith, many, same, c.requires) in
    sym (ap (past c.args.i) c.self.view_is) ∙ past-mapped (under c.self.inside.path.now) c.self.inside.exprs.now c.args.i c.index-self-i.result below
    ∙ ap (λ es. more (under c.self.inside.path.now (get_or c.self.inside.exprs.now c.args.i c.index-self-i.result)) (past (c.args.i + 1) es)) c.self.view_is

pub returns-clause-within : goal.returns-clause-within
returns-clause-within c = size-at c.args.self.now _ c.args.i _ (returns-clause-left c)

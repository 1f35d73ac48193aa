use Rattle.std.proofs.Common.{List, sym, subst, Contains}
use Rattle.mz_math_theory.specs.Notation.{Table, TermName}
use Rattle.mz_math_theory.specs.Kept.{IsTable}
use Rattle.mz_math_theory.proofs.Offered.{name-is}
use Rattle.mz_math_notation.proofs.table.Notations.add_term_name.Goals as goal

pub invariant_of-self-2 : goal.invariant_of-self-2
invariant_of-self-2 c =
    let v : Table = record { delimiters = c.self.inside.delimiters; leading = c.self.inside.leading; infixes = c.self.inside.infixes; names = c.self.inside.names; coercions = c.self.inside.coercions } in
    let n : TermName = record { name = c.args.name.now; term = c.args.term } in
    subst (λ (ns : List TermName). IsTable (record v { names = ns })) (sym c.in-Ok.ensures.ok)
    (name-is v n c.self.invariant c.requires.name
    (λ (m : TermName) in_m e. c.requires.other m (subst (λ (t : Table). Contains t.names m) c.self.view_is in_m) e))

pub push-requires : goal.push-requires
push-requires c = λ (m : TermName) in_m e. c.requires.other m (subst (λ (t : Table). Contains t.names m) c.self.view_is in_m) e

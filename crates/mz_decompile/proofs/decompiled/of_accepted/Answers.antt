use Rattle.std.proofs.Common.{ℕ, List, sym, subst}
use Rattle.std.proofs.lemmas.Result.{IfOk-weaker}
use Rattle.mz_match_theory.specs.Verdict.{Accepts}
use Rattle.mz_decompile.specs.Decompiling.{IsDecompilation}
use Rattle.mz_decompile.proofs.Answered.{some-standing, answered}
use Rattle.mz_decompile.proofs.decompiled.of_accepted.Goals as goal

pub of-requires : goal.of-requires
of-requires c =
    let (spec, bin, is) = c.requires in
    let accepts = subst (Accepts spec) (sym is.binary) is.accepts in
    (accepts.statements, accepts.is_good)

pub answer-requires : goal.answer-requires
answer-requires c =
    let (spec, bin, is) = c.requires in
    some-standing spec c.args.pair.now.mmb c.in_ok-names.names (c.in_ok-names.ensures spec is.named) c.accepted_are_restated.ensures.some c.bodies_make_proofs.ensures.one
    (subst (Accepts spec) (sym is.binary) is.accepts)

pub returns-clause-answer : goal.returns-clause-answer
returns-clause-answer c = λ spec bin is.
    IfOk-weaker c.answer.result _ _
    (λ d said. subst (λ (file : List ℕ). IsDecompilation spec file d) is.binary
    (answered spec c.args.pair.now.mmb c.in_ok-names.names (c.in_ok-names.ensures spec is.named) c.accepted_are_restated.ensures.some c.bodies_make_proofs.ensures.one
    (subst (Accepts spec) (sym is.binary) is.accepts) d said).0)
    c.answer.ensures

pub returns-clause-own : goal.returns-clause-own
returns-clause-own c =
    let (spec, bin, is) = c.requires in
    IfOk-weaker c.answer.result _ _
    (λ d said. (answered spec c.args.pair.now.mmb c.in_ok-names.names (c.in_ok-names.ensures spec is.named) c.accepted_are_restated.ensures.some c.bodies_make_proofs.ensures.one
    (subst (Accepts spec) (sym is.binary) is.accepts) d said).1)
    c.answer.ensures

use Rattle.std.proofs.Common.{◌∙◌, ap, sym}
use Rattle.std.proofs.lemmas.Result.{err_from_is_err_and}
use Rattle.mz_machine_env.specs.Before.{tables_of}
use Rattle.mz_machine.specs.OverStore.{pop_unfolding}
use Rattle.mz_machine_theory.specs.Profile.{strict}
use Rattle.mz_unify.proofs.Offered.{of-trees}
use Rattle.mz_machine.proofs.ConversionRows.{not-taken, of-variable, not-defined, is-unfolding}
use Rattle.mz_machine.proofs.Unfoldings.{term-there, row-there, stream-there, no-stream}
use Rattle.mz_machine.proofs.commands.conversions.take_unfolding.Goals as goal

pub returns-in_err-unfolded-clause-taken : goal.returns-in_err-unfolded-clause-taken
returns-in_err-unfolded-clause-taken c st is =
    let p = err_from_is_err_and c.from_residual.result c.from_residual.ensures.1 in
    rw (p.1, p.2) (not-taken strict _ st _ (ap pop_unfolding is ∙ c.in_err-unfolded.ensures.taken))

pub returns-in_err-unfolded-clause-ids : goal.returns-in_err-unfolded-clause-ids
returns-in_err-unfolded-clause-ids c = rw (err_from_is_err_and c.from_residual.result c.from_residual.ensures.1).1 tt

pub returns-in_err-unfolded-clause-head : goal.returns-in_err-unfolded-clause-head
returns-in_err-unfolded-clause-head c = rw (err_from_is_err_and c.from_residual.result c.from_residual.ensures.1).1 tt

pub returns-in_default-clause-taken : goal.returns-in_default-clause-taken
returns-in_default-clause-taken c st is = of-variable strict _ st of-trees _ _ _ _ (ap pop_unfolding is ∙ c.in_ok-unfolded.ensures.taken) (sym c.head.ensures ∙ c.in_default.is)

pub returns-then-not-has_body-clause-taken : goal.returns-then-not-has_body-clause-taken
returns-then-not-has_body-clause-taken c st is =
    let E = c.args.env.now in
    let t = c.in-Some.term in
    let h = sym c.head.ensures ∙ c.in-Some.is in
    let there = row-there E t (term-there E c.args.store.now c.requires.over c.in_ok-unfolded.left.0 t c.in_ok-unfolded.ensures.ids.1 h) in
    not-defined strict (tables_of E) st of-trees _ _ _ _ (ap pop_unfolding is ∙ c.in_ok-unfolded.ensures.taken) t h (no-stream E t there (sym c.has_body.ensures.row ∙ c.if-not-has_body.true))

pub returns-clause-ids : goal.returns-clause-ids
returns-clause-ids c =
    let ids = c.in_ok-unfolded.ensures.ids in
    let there = row-there c.args.env.now c.in-Some.term (term-there c.args.env.now c.args.store.now c.requires.over c.in_ok-unfolded.left.0 c.in-Some.term ids.1 (sym c.head.ensures ∙ c.in-Some.is)) in
    (ids.0, ids.1, ids.2, there, ids.3)

pub returns-clause-head : goal.returns-clause-head
returns-clause-head c = sym c.head.ensures ∙ c.in-Some.is

pub returns-clause-taken : goal.returns-clause-taken
returns-clause-taken c st is =
    let E = c.args.env.now in
    let t = c.in-Some.term in
    let h = sym c.head.ensures ∙ c.in-Some.is in
    let there = row-there E t (term-there E c.args.store.now c.requires.over c.in_ok-unfolded.left.0 t c.in_ok-unfolded.ensures.ids.1 h) in
    is-unfolding strict (tables_of E) st of-trees _ _ _ _ (ap pop_unfolding is ∙ c.in_ok-unfolded.ensures.taken) t _ h (stream-there E t there (sym c.has_body.ensures.row ∙ c.if-not-has_body.false))

-- ---- what the calls ask

pub pop_unfolding-requires : goal.pop_unfolding-requires
pop_unfolding-requires c = c.requires.stack

pub head-requires : goal.head-requires
head-requires c = c.in_ok-unfolded.ensures.ids.1

pub has_body-requires : goal.has_body-requires
has_body-requires c = term-there c.args.env.now c.args.store.now c.requires.over c.in_ok-unfolded.left.0 c.in-Some.term c.in_ok-unfolded.ensures.ids.1 (sym c.head.ensures ∙ c.in-Some.is)

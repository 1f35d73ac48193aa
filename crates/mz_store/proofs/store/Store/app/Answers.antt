use Rattle.std.proofs.Common.{ap}
use Rattle.std.proofs.lemmas.Result.{IfOk-weaker}
use Rattle.mz_store.specs.Sharing.{Sharing}
use Rattle.mz_store.proofs.Placing.{either-way, placed-context, placed-holds, placed-keeps, placed-mode, placed-over}
use Rattle.mz_store.proofs.store.Store.app.Goals as goal

pub returns-clause-holds : goal.returns-clause-holds
returns-clause-holds g c =
    IfOk-weaker c.find_or_add.result _ _ (λ id. placed-holds (g.T.Terms.all_terms c.args.terms.now) c.args.self.now c.find_or_add.new.self c.args.t c.args.args.now id) c.find_or_add.ensures.ok

pub returns-clause-context : goal.returns-clause-context
returns-clause-context g c =
    either-way c.find_or_add.result _ _ _ (λ id. placed-context (g.T.Terms.all_terms c.args.terms.now) c.args.self.now c.find_or_add.new.self c.args.t c.args.args.now id)
    (λ same. ap (λ (s : Sharing). s.context) same) c.find_or_add.ensures.ok c.find_or_add.ensures.err

pub returns-clause-mode : goal.returns-clause-mode
returns-clause-mode g c =
    either-way c.find_or_add.result _ _ _ (λ id. placed-mode (g.T.Terms.all_terms c.args.terms.now) c.args.self.now c.find_or_add.new.self c.args.t c.args.args.now id)
    (λ same. ap (λ (s : Sharing). s.mode) same) c.find_or_add.ensures.ok c.find_or_add.ensures.err

pub returns-clause-kept : goal.returns-clause-kept
returns-clause-kept g c =
    IfOk-weaker c.find_or_add.result _ _ (λ id. placed-keeps (g.T.Terms.all_terms c.args.terms.now) c.args.self.now c.find_or_add.new.self c.args.t c.args.args.now id) c.find_or_add.ensures.ok

pub returns-clause-over : goal.returns-clause-over
returns-clause-over g c =
    IfOk-weaker c.find_or_add.result _ _ (λ id. placed-over (g.T.Terms.all_terms c.args.terms.now) c.args.self.now c.find_or_add.new.self c.args.t c.args.args.now id c.requires.over) c.find_or_add.ensures.ok

pub returns-clause-err : goal.returns-clause-err
returns-clause-err g c = c.find_or_add.ensures.err

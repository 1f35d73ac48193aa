use Rattle.std.proofs.Common.{sym, ◌∙◌, subst, ap}
use Rattle.mz_logic_theory.specs.Words.{signatures_of, word_sort}
use Rattle.mz_pmachine_unify.specs.Numbering.{IsOver}
use Rattle.mz_store.proofs.Offered.{on-ok-from}
use Rattle.mz_pmachine_unify.proofs.OverTerms.{over-term}
use Rattle.mz_pmachine_unify.proofs.nodes.Nodes.app.Goals as goal

pub told_vars-requires-clause-vars : goal.told_vars-requires-clause-vars
told_vars-requires-clause-vars g c = c.all_vars-vars.ensures (signatures_of (g.T.Terms.all_terms c.args.terms.now)) c.requires.over

pub returns-clause-over : goal.returns-clause-over
returns-clause-over g c = on-ok-from _ _ c.add.result
    (λ is. subst (IsOver (signatures_of (g.T.Terms.all_terms c.args.terms.now))) (sym is)
    (over-term (g.T.Terms.all_terms c.args.terms.now) c.args.self.now c.args.number c.args.t c.args.args.now c.sort.result c.all_vars-vars.result c.in_ok-deps.deps
    c.requires.over c.requires.fit (c.sort.ensures ∙ ap word_sort c.result.ensures)
    (c.all_vars-vars.ensures (signatures_of (g.T.Terms.all_terms c.args.terms.now)) c.requires.over) c.in_ok-deps.ensures))
    c.add.ensures.ok

use Rattle.std.proofs.Common.{sym, ◌∙◌, ap, subst}
use Rattle.mz_pmachine_unify.specs.Numbering.{AreIn, exprs_of, operands_of}
use Rattle.mz_pmachine_unify.proofs.Reading.{form-at, operands-read}
use Rattle.mz_pmachine_unify.proofs.nodes.Nodes.args.Goals as goal

pub returns-in-Variable-clause-exprs : goal.returns-in-Variable-clause-exprs
returns-in-Variable-clause-exprs c =
    let own = c.self.inside in
    let form = form-at own.mode own.bound_count own.operands.items own.nodes.items c.args.self.now c.self.invariant c.self.view_is c.args.id.0 c.index.result.now c.requires c.index.ensures _ c.in-Variable.is in
    sym (ap operands_of form.2)

pub returns-in-Application-clause-ids : goal.returns-in-Application-clause-ids
returns-in-Application-clause-ids c =
    let own = c.self.inside in
    let form = form-at own.mode own.bound_count own.operands.items own.nodes.items c.args.self.now c.self.invariant c.self.view_is c.args.id.0 c.index.result.now c.requires c.index.ensures _ c.in-Application.is in
    subst (AreIn c.args.self.now) (sym (operands-read own.operands.items c.deref.result.now c.in-Application.made.from c.in-Application.made.many c.deref.ensures.value)) form.0

pub returns-in-Application-clause-exprs : goal.returns-in-Application-clause-exprs
returns-in-Application-clause-exprs c =
    let own = c.self.inside in
    let form = form-at own.mode own.bound_count own.operands.items own.nodes.items c.args.self.now c.self.invariant c.self.view_is c.args.id.0 c.index.result.now c.requires c.index.ensures _ c.in-Application.is in
    ap (exprs_of c.args.self.now) (operands-read own.operands.items c.deref.result.now c.in-Application.made.from c.in-Application.made.many c.deref.ensures.value) ∙ sym (ap operands_of form.1)

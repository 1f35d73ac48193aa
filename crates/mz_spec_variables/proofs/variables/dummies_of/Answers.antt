use Rattle.std.proofs.Common.{◌∙◌, ◌++◌, ◌+◌, List, ap, drop, map, sym}
use Rattle.std.proofs.lemmas.List.{append-nil, drop_all}
use Rattle.mz_spec_variables.specs.declared.variables.Variable.{Variable}
use Rattle.mz_spec_variables.specs.Code.{dummies_read, variable}
use Rattle.mz_spec_theory.specs.View.{dummies_of}
use Rattle.mz_spec_variables.proofs.Chosen.{one-taken, one-mapped, dummy-first, dummy-passed, dummy-read, dummy-unread}
use Rattle.mz_spec_variables.proofs.variables.dummies_of.Goals.{then-variable+in_ok-push, else-variable}
use Rattle.mz_spec_variables.proofs.variables.dummies_of.Goals as goal

pub loop-variable-preserved : goal.loop-variable-preserved
loop-variable-preserved c =
    let vs = c.args.variables.now in
    let i = c.loop-variable.variable-index in
    let v = c.variable-item.result in
    let within = c.loop-variable-test.true in
    let is = c.variable-item.is in
    let before = c.loop-variable.dummies.items in
    let so_far = c.loop-variable.invariant in
    elim c.if-variable.branch [
      | then-variable+in_ok-push w ↦
          let more = ap (λ a. a.items) w.dummies-is ∙ w.in_ok-push.ensures.items in
          record {
            dummies = one-mapped variable before c.if-variable.dummies.items v _ _ _ (dummy-first vs i v within is w.if-variable.true) more so_far.dummies;
            read = one-taken before c.if-variable.dummies.items v _ _ _ (dummy-read vs i v within is w.if-variable.true) more so_far.read;
          }
      | else-variable w ↦
          let same = ap (λ a. a.items) w.dummies-is in
          record {
            dummies = ap (λ xs. map variable xs ++ dummies_of (map variable (drop (i + 1) vs))) same ∙ ap (λ xs. map variable before ++ xs) (sym (dummy-passed vs i v within is w.if-variable.false)) ∙ so_far.dummies;
            read = ap (λ xs. xs ++ dummies_read (drop (i + 1) vs)) same ∙ ap (λ xs. before ++ xs) (sym (dummy-unread vs i v within is w.if-variable.false)) ∙ so_far.read;
          }
    ]

pub returns-clause-dummies : goal.returns-clause-dummies
returns-clause-dummies c =
    let end = drop_all c.loop-variable.variable-index c.args.variables.now c.loop-variable-test.false in
    sym (append-nil _) ∙ ap (λ (xs : List Variable). map variable c.loop-variable.dummies.items ++ dummies_of (map variable xs)) (sym end) ∙ c.loop-variable.invariant.dummies

pub returns-clause-read : goal.returns-clause-read
returns-clause-read c =
    let end = drop_all c.loop-variable.variable-index c.args.variables.now c.loop-variable-test.false in
    sym (append-nil _) ∙ ap (λ (xs : List Variable). c.loop-variable.dummies.items ++ dummies_read xs) (sym end) ∙ c.loop-variable.invariant.read

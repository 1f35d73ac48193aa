use Rattle.std.proofs.Common.{◌∙◌, ◌++◌, ◌+◌, List, ap, drop, map, sym}
use Rattle.std.proofs.lemmas.List.{append-nil, drop_all}
use Rattle.mz_spec_variables.specs.declared.variables.Variable.{Variable}
use Rattle.mz_spec_variables.specs.Code.{params_read, variable}
use Rattle.mz_spec_theory.specs.View.{params_of}
use Rattle.mz_spec_variables.proofs.Chosen.{one-taken, one-mapped, param-first, param-passed, param-read, param-unread}
use Rattle.mz_spec_variables.proofs.variables.params_of.Goals.{then-not-variable+in_ok-push, else-not-variable}
use Rattle.mz_spec_variables.proofs.variables.params_of.Goals as goal

pub loop-variable-preserved : goal.loop-variable-preserved
loop-variable-preserved c =
    let vs = c.args.variables.now in
    let i = c.loop-variable.variable-index in
    let v = c.variable-item.result in
    let within = c.loop-variable-test.true in
    let is = c.variable-item.is in
    let before = c.loop-variable.params.items in
    let so_far = c.loop-variable.invariant in
    elim c.if-not-variable.branch [
      | then-not-variable+in_ok-push w ↦
          let more = ap (λ a. a.items) w.params-is ∙ w.in_ok-push.ensures.items in
          record {
            params = one-mapped variable before c.if-not-variable.params.items v _ _ _ (param-first vs i v within is w.if-not-variable.true) more so_far.params;
            read = one-taken before c.if-not-variable.params.items v _ _ _ (param-read vs i v within is w.if-not-variable.true) more so_far.read;
          }
      | else-not-variable w ↦
          let same = ap (λ a. a.items) w.params-is in
          record {
            params = ap (λ xs. map variable xs ++ params_of (map variable (drop (i + 1) vs))) same ∙ ap (λ xs. map variable before ++ xs) (sym (param-passed vs i v within is w.if-not-variable.false)) ∙ so_far.params;
            read = ap (λ xs. xs ++ params_read (drop (i + 1) vs)) same ∙ ap (λ xs. before ++ xs) (sym (param-unread vs i v within is w.if-not-variable.false)) ∙ so_far.read;
          }
    ]

pub returns-clause-params : goal.returns-clause-params
returns-clause-params c =
    let end = drop_all c.loop-variable.variable-index c.args.variables.now c.loop-variable-test.false in
    sym (append-nil _) ∙ ap (λ (xs : List Variable). map variable c.loop-variable.params.items ++ params_of (map variable xs)) (sym end) ∙ c.loop-variable.invariant.params

pub returns-clause-read : goal.returns-clause-read
returns-clause-read c =
    let end = drop_all c.loop-variable.variable-index c.args.variables.now c.loop-variable-test.false in
    sym (append-nil _) ∙ ap (λ (xs : List Variable). c.loop-variable.params.items ++ params_read xs) (sym end) ∙ c.loop-variable.invariant.read

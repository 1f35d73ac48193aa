use Rattle.std.proofs.Common.{◌≡◌, ◌∙◌, ◌++◌, ◌+◌, append_assoc, ap, drop, map, refl, subst, sym}
use Rattle.std.proofs.lemmas.List.{append-nil}
use Rattle.mz_base.proofs.Offered.{drop-item, drop-past}
use Rattle.mz_spec_theory.specs.StatementCode.{group}
use Rattle.mz_spec_variables.specs.Code.{typed, typed_group, typed_groups, variable}
use Rattle.mz_spec_theory.specs.View.{group_variables, variables_of}
use Rattle.mz_spec_variables.proofs.Joins.{made-end, made-step}
use Rattle.mz_spec_variables.proofs.variables.push_groups.Goals as goal

pub loop-i-preserved : goal.loop-i-preserved
loop-i-preserved c =
    let xs = c.args.groups.now in
    let i = c.loop-i.i in
    let x = c.index-groups-i.result in
    let within = c.loop-i-test.true in
    let is = c.index-groups-i.is in
    let old = c.loop-i.variables.items in
    let rest = map group (drop (i + 1) xs) in
    let whole = map variable c.args.variables.now.items ++ variables_of (map group xs) in
    let all = map typed c.args.variables.now.items ++ typed_groups 0 (map group xs) in
    record {
      variables = subst (λ ys. ys ++ variables_of rest ≡ whole) (sym c.in_ok-push_group.ensures.variables)
          (made-step (λ ys. variables_of (map group ys)) (λ g. group_variables (group g)) xs i ((λ y ys. refl), refl) (map variable old) whole x within is c.loop-i.invariant.variables);
      groups = subst (λ ys. ys ++ typed_groups (i + 1) rest ≡ all) (sym c.in_ok-push_group.ensures.groups)
          (append_assoc (map typed old) (typed_group i (group x)) (typed_groups (i + 1) rest) ∙ ap (λ ys. map typed old ++ typed_groups i (map group ys)) (sym (drop-item xs i x within is)) ∙ c.loop-i.invariant.groups);
    }

pub returns-clause-variables : goal.returns-clause-variables
returns-clause-variables c =
    let xs = c.args.groups.now in
    made-end (λ ys. variables_of (map group ys)) (λ g. group_variables (group g)) xs c.loop-i.i ((λ y ys. refl), refl) (map variable c.loop-i.variables.items)
    (map variable c.args.variables.now.items ++ variables_of (map group xs)) c.loop-i-test.false c.loop-i.invariant.variables

pub returns-clause-groups : goal.returns-clause-groups
returns-clause-groups c =
    let i = c.loop-i.i in
    let made = map typed c.loop-i.variables.items in
    sym (append-nil made) ∙ ap (λ ys. made ++ typed_groups i (map group ys)) (sym (drop-past c.args.groups.now i c.loop-i-test.false)) ∙ c.loop-i.invariant.groups

use Rattle.std.proofs.Common.{◌⊎◌, ◌∙◌, ◌↔◌, ℕ, List, Contains, get_or, ap, subst, sym, true≢false}
use Rattle.std.proofs.lemmas.List.{drop_all}
use Rattle.mz_logic_free.proofs.Walking.{Reaches, reaches-step, reaches-end}
use Rattle.mz_logic_free.proofs.Narrowing.{Common, pushed, unpushed, reached}
use Rattle.mz_logic_free.proofs.narrowed.push_common.Goals as goal
use Rattle.mz_logic_free.proofs.narrowed.push_common.Goals.{then-is_common+in_ok-push, else-is_common}

pub loop-x-preserved : goal.loop-x-preserved
loop-x-preserved c =
    let variables = c.args.variables.now in
    let places = c.args.places.now in
    let x = get_or c.args.sought.now c.loop-x.x-index 0 in
    let P = Common variables places in
    let W : ℕ → Type 0 = λ y. Contains c.args.few.now.items y ⊎ Reaches P c.args.sought.now y in
    reaches-step P (Contains c.loop-x.few.items) (Contains c.if-is_common.few.items) W c.args.sought.now c.loop-x.x-index 0 c.loop-x-test.true c.loop-x.invariant
    (elim c.if-is_common.branch [
      | then-is_common+in_ok-push w ↦ pushed variables places x c.loop-x.few.items c.if-is_common.few.items (c.is_common.ensures.0 w.if-is_common.true) (ap (λ v. v.items) w.few-is ∙ w.in_ok-push.ensures.items)
      | else-is_common w ↦
          subst (λ (xs : List ℕ). (y : ℕ) → Contains xs y ↔ (Contains c.loop-x.few.items y ⊎ P x y)) (sym (ap (λ v. v.items) w.few-is))
          (unpushed variables places x c.loop-x.few.items (λ here. true≢false (sym (c.is_common.ensures.1 here) ∙ w.if-is_common.false)))
    ])

pub returns : goal.returns
returns c =
    let P = Common c.args.variables.now c.args.places.now in
    let W : ℕ → Type 0 = λ x. Contains c.args.few.now.items x ⊎ Reaches P c.args.sought.now x in
    reached c.args.variables.now c.args.places.now c.args.sought.now c.loop-x.few.items c.args.few.now.items
    (reaches-end P (Contains c.loop-x.few.items) W _ (drop_all c.loop-x.x-index c.args.sought.now c.loop-x-test.false) c.loop-x.invariant)

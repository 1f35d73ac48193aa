use Rattle.std.proofs.Common.{◌∙◌, ◌+◌, ◌++◌, ap, drop, map, sym}
use Rattle.std.proofs.lemmas.Result.{IfOk-weaker}
use Rattle.mz_spec_theory.specs.StatementCode.{lexeme}
use Rattle.mz_spec_variables.specs.Code.{variable}
use Rattle.mz_spec_theory.specs.Dependencies.{dep_places}
use Rattle.mz_spec_theory.proofs.Offered.{all-seen, nothing-among}
use Rattle.mz_spec_variables.proofs.Chosen.{one-taken, place-first, place-passed}
use Rattle.mz_spec_variables.proofs.variables.dep_places.Goals.{then-is_among+in_ok-push, else-is_among}
use Rattle.mz_spec_variables.proofs.variables.dep_places.Goals as goal

pub returns-then-is_empty : goal.returns-then-is_empty
returns-then-is_empty c = c.new.ensures ∙ nothing-among lexeme (map variable c.args.variables.now) c.args.deps.now c.is_empty.result c.is_empty.ensures c.if-is_empty.true

pub loop-i-preserved : goal.loop-i-preserved
loop-i-preserved c =
    let vs = c.args.variables.now in
    let i = c.loop-i.i in
    let v = c.index-variables-i.result in
    let ds = map lexeme c.args.deps.now in
    let before = c.loop-i.places.items in
    elim c.if-is_among.branch [
      | then-is_among+in_ok-push w ↦
          one-taken before c.if-is_among.places.items i _ _ _ (place-first vs i v c.loop-i-test.true c.index-variables-i.is ds (sym c.is_among.ensures ∙ w.if-is_among.true))
          (ap (λ a. a.items) w.places-is ∙ w.in_ok-push.ensures.items) c.loop-i.invariant
      | else-is_among w ↦
          ap (λ xs. xs ++ dep_places (i + 1) (map variable (drop (i + 1) vs)) ds) (ap (λ a. a.items) w.places-is)
          ∙ ap (λ xs. before ++ xs) (sym (place-passed vs i v c.loop-i-test.true c.index-variables-i.is ds (sym c.is_among.ensures ∙ w.if-is_among.false))) ∙ c.loop-i.invariant
    ]

pub returns : goal.returns
returns c = IfOk-weaker c.from_vec.result _ _ (λ deps same. same ∙ all-seen variable (map lexeme c.args.deps.now) c.args.variables.now c.loop-i.i c.loop-i.places.items _ c.loop-i-test.false c.loop-i.invariant) c.from_vec.ensures

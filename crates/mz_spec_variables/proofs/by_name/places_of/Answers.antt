use Rattle.std.proofs.Common.{◌≡◌, length, map, subst, arith}
use Rattle.std.proofs.lemmas.List.{length-map}
use Rattle.mz_spec_variables.specs.Code.{variable}
use Rattle.mz_spec_variables.specs.Index.{IsIndexUpTo}
use Rattle.mz_spec_variables.proofs.Indexed.{get-item}
use Rattle.mz_spec_variables.proofs.by_name.places_of.Goals as goal

pub loop-i-preserved : goal.loop-i-preserved
loop-i-preserved c =
    c.in_ok-is_new.ensures c.if-not-is_new.false (map variable c.args.variables.now) (get-item variable c.args.variables.now c.loop-i.i c.index-variables-i.result c.loop-i-test.true c.index-variables-i.is) c.loop-i.invariant

pub returns : goal.returns
returns c =
    let many = length-map c.args.variables.now variable in
    let past = c.loop-i-test.false in
    let within = c.loop-i.auto.i-end in
    subst (λ n. IsIndexUpTo n (map variable c.args.variables.now) c.loop-i.places) (let e : c.loop-i.i ≡ length (map variable c.args.variables.now) = omega (arith, many, past, within) in e) c.loop-i.invariant

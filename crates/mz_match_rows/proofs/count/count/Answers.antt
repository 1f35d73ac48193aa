use Rattle.std.proofs.Common.{◌≡◌, ◌+◌, ◌∙◌, ℕ, Bool, suc, take, sym, ap, arith}
use Rattle.std.specs.Prelude.{if◌then◌else◌}
use Rattle.mz_logic_theory.specs.DeclView.{declaration}
use Rattle.mz_spec_theory.specs.State.{env_of}
use Rattle.mz_spec_proved_theory.specs.Match.{is_kind, kind_of}
use Rattle.mz_match_theory.specs.Verdict.{count as count_lem}
use Rattle.mz_match_theory.proofs.Offered.{count-take}
use Rattle.mz_match_rows.proofs.count.count.Goals as goal
use Rattle.mz_match_rows.proofs.count.count.Goals.{then-is, else-is}

abbrev here : Bool → ℕ
here b = if b then 1 else 0

pub declarations-preserved : goal.declarations-preserved
declarations-preserved c =
    let d = declaration c.decl.result.now in
    let k = c.args.kind in
    let more : count_lem k (take (suc c.declarations.i) (env_of c.args.spec.now)) ≡ count_lem k (take c.declarations.i (env_of c.args.spec.now)) + here (is_kind (kind_of d) k) =
    count-take k c.args.spec.now c.declarations.i d c.decl.ensures in
    let tested : c.is.result ≡ is_kind (kind_of d) k = c.is.ensures ∙ ap (λ x. is_kind x k) c.kind_of.ensures in
    let next : c.declarations.i + 1 ≡ suc c.declarations.i = omega arith in
    let place : count_lem k (take (c.declarations.i + 1) (env_of c.args.spec.now)) ≡ count_lem k (take (suc c.declarations.i) (env_of c.args.spec.now)) = ap (λ i. count_lem k (take i (env_of c.args.spec.now))) next in
    elim c.if-is.branch [
      | then-is w ↦ (
          let one : here (is_kind (kind_of d) k) ≡ 1 = ap here (sym tested ∙ w.if-is.true) in
          record { counted = omega (arith, w.found-is, one, more, place, c.declarations.invariant.counted); few = omega (arith, w.found-is, c.declarations.invariant.few) })
      | else-is w ↦ (
          let none : here (is_kind (kind_of d) k) ≡ 0 = ap here (sym tested ∙ w.if-is.false) in
          record { counted = omega (arith, w.found-is, none, more, place, c.declarations.invariant.counted); few = omega (arith, w.found-is, c.declarations.invariant.few) })
    ]

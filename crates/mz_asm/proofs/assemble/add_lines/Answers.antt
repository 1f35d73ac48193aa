use Rattle.std.proofs.Common.{◌≡◌, ◌<◌, ◌∙◌, ◌+◌, List, [], ℕ, Err, refl, ◌∷◌, length, take, drop, sym, ap, subst, arith}
use Rattle.std.proofs.lemmas.Bool.{eqb-true, eqb-false}
use Rattle.mz_asm.specs.Making.{Made, IsAdded, Adds}
use Rattle.mz_asm.specs.Assembling.{newline_at}
use Rattle.mz_asm.proofs.Looping.{HasRead, read-nothing, goes-on, no-newline, stops-at, cut-off, whole}
use Rattle.mz_asm.proofs.assemble.add_lines.Goals as goal

nothing-left : (rest : List ℕ) → length rest ≡ 0 → rest ≡ []
nothing-left [] e = refl
nothing-left (c ∷ cs) e = absurd (omega (arith, e))

pub lines-init : goal.lines-init
lines-init c = subst (λ (m : Made). HasRead c.args.text.now m c.args.text.now 1) (sym c.requires.fresh) (read-nothing c.args.text.now)

pub returns-then-end-rest : goal.returns-then-end-rest
returns-then-end-rest c =
    no-newline c.args.text.now c.lines.assembly c.lines.rest.now c.lines.line c.lines.invariant
    (omega (arith, eqb-false _ _ (sym c.is_empty.ensures ∙ c.lines-test.true)))
    (sym c.place_of-end.ensures.place ∙ c.if-end-rest.true)

pub returns-in-Err : goal.returns-in-Err
returns-in-Err c =
    let at = c.place_of-end.ensures.place in
    let inside : newline_at c.lines.rest.now < length c.lines.rest.now = omega (arith, at, c.place_of-end.ensures.within, c.if-end-rest.false) in
    rw c.at.ensures
    (stops-at c.args.text.now c.lines.assembly c.lines.rest.now c.lines.line c.lines.invariant inside c.in-Err.fault c.add.new.self
    (subst (λ (n : ℕ). Adds c.lines.assembly (take n c.lines.rest.now) c.add.new.self (Err c.in-Err.fault)) at c.in-Err.ensures))

pub lines-preserved : goal.lines-preserved
lines-preserved c =
    let at = c.place_of-end.ensures.place in
    let inside : newline_at c.lines.rest.now < length c.lines.rest.now = omega (arith, at, c.place_of-end.ensures.within, c.if-end-rest.false) in
    let added = subst (λ (n : ℕ). IsAdded c.lines.assembly (take n c.lines.rest.now) c.add.new.self) at c.in-Ok.ensures in
    let more = goes-on c.args.text.now c.lines.assembly c.lines.rest.now c.lines.line c.add.new.self c.lines.invariant inside added in
    subst (λ rest. HasRead c.args.text.now c.add.new.self rest (c.lines.line + 1)) (sym (c.behind-rest.ensures ∙ ap (λ (n : ℕ). drop (n + 1) c.lines.rest.now) at)) more

pub returns-in-Nothing : goal.returns-in-Nothing
returns-in-Nothing c =
    let none = nothing-left c.lines.rest.now (eqb-true _ _ (sym c.is_empty.ensures ∙ c.lines-test.false)) in
    whole c.args.text.now c.lines.assembly c.lines.rest.now c.lines.line c.lines.invariant none (sym c.want.ensures ∙ c.in-Nothing.is)

pub returns-in_default : goal.returns-in_default
returns-in_default c =
    let none = nothing-left c.lines.rest.now (eqb-true _ _ (sym c.is_empty.ensures ∙ c.lines-test.false)) in
    cut-off c.args.text.now c.lines.assembly c.lines.rest.now c.lines.line c.lines.invariant none (λ is. c.in_default.not-Nothing (c.want.ensures ∙ is))

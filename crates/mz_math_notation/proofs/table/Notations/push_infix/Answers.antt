use Rattle.std.proofs.Common.{◌++◌, ◌∷◌, [], ◌∙◌, List, sym, subst, refl, inr}
use Rattle.std.proofs.lemmas.Bool.{true≢false}
use Rattle.mz_math_theory.specs.Notation.{Table, with_infix}
use Rattle.mz_math_theory.specs.declared.notation.Notation.{Notation}
use Rattle.mz_math_theory.specs.Clear.{IsClear}
use Rattle.mz_math_theory.specs.Kept.{IsTable}
use Rattle.mz_math_theory.specs.NotationAnswers.{IsClearTable}
use Rattle.mz_math_theory.proofs.Offered.{infix-other, infix-is, pushed-infix, added-mem}
use Rattle.mz_math_operators.proofs.Offered.{joined-apart}
use Rattle.mz_math_notation.proofs.table.Notations.push_infix.Goals as goal

pub returns-in_err-is_clear : goal.returns-in_err-is_clear
returns-in_err-is_clear c = added-mem c.from_residual.result c.args.self.now (with_infix c.args.self.now c.args.notation) _ refl c.from_residual.ensures.1

pub returns-then-not-is_clear : goal.returns-then-not-is_clear
returns-then-not-is_clear c =
    let v : Table = record { delimiters = c.self.inside.delimiters; leading = c.self.inside.leading; infixes = c.self.inside.infixes; names = c.self.inside.names; coercions = c.self.inside.coercions } in
    let k = c.args.notation in (
      (λ made. let clear : IsClear v.leading (v.infixes ++ k ∷ []) = subst (λ (t : Table). IsClearTable (with_infix t k)) (sym c.self.view_is) made in
          true≢false (sym (c.in_ok-is_clear.ensures.1 clear) ∙ c.if-not-is_clear.true)),
      refl,
    )

pub invariant_of-self-2 : goal.invariant_of-self-2
invariant_of-self-2 c =
    let v : Table = record { delimiters = c.self.inside.delimiters; leading = c.self.inside.leading; infixes = c.self.inside.infixes; names = c.self.inside.names; coercions = c.self.inside.coercions } in
    let k = c.args.notation in
    let clear : IsClear v.leading (v.infixes ++ k ∷ []) = c.in_ok-is_clear.ensures.0 c.if-not-is_clear.false in
    subst (λ (xs : List Notation). IsTable (record v { infixes = xs })) (sym c.in-Ok.ensures.ok)
    (infix-is v k c.self.invariant c.requires.plain clear c.requires.joined)

pub returns : goal.returns
returns c =
    let v : Table = record { delimiters = c.self.inside.delimiters; leading = c.self.inside.leading; infixes = c.self.inside.infixes; names = c.self.inside.names; coercions = c.self.inside.coercions } in
    let k = c.args.notation in
    let clear : IsClear v.leading (v.infixes ++ k ∷ []) = c.in_ok-is_clear.ensures.0 c.if-not-is_clear.false in
    pushed-infix v c.args.self.now c.self.view_is k c.push.new.self c.in-Ok.ensures.ok clear

pub push-requires-clause-headed : goal.push-requires-clause-headed
push-requires-clause-headed c = (c.requires.joined.0, inr c.requires.joined.1)

pub push-requires-clause-other : goal.push-requires-clause-other
push-requires-clause-other c =
    let v : Table = record { delimiters = c.self.inside.delimiters; leading = c.self.inside.leading; infixes = c.self.inside.infixes; names = c.self.inside.names; coercions = c.self.inside.coercions } in
    let k = c.args.notation in
    let clear : IsClear v.leading (v.infixes ++ k ∷ []) = c.in_ok-is_clear.ensures.0 c.if-not-is_clear.false in
    joined-apart v.infixes k c.requires.joined c.self.invariant.joined (infix-other v.leading v.infixes k clear)

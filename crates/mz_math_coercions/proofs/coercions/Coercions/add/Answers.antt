use Rattle.std.proofs.Common.{◌++◌, ◌∷◌, ◌∙◌, [], List, ap, sym, subst}
use Rattle.std.specs.Prelude.{MatchBool}
use Rattle.mz_math_theory.specs.declared.coercion.Coercion.{Coercion}
use Rattle.mz_math_theory.specs.Coercions.{OnePath}
use Rattle.mz_math_coercions.specs.Kept.{AreKept}
use Rattle.mz_math_coercions.proofs.Clashes.{grouped-fewer, grouped-kept, grouped-more, turned-more}
use Rattle.mz_math_coercions.proofs.Leading.{torn-kept}
use Rattle.mz_math_coercions.proofs.coercions.Coercions.add.Goals as goal

pub invariant_of-self-in_err-join : goal.invariant_of-self-in_err-join
invariant_of-self-in_err-join c =
    torn-kept c.self.inside.graph c.add.new.self c.join.new.self c.lead_on.new.firsts c.self.invariant.one
    (grouped-kept c.self.inside.graph c.is_clash.new.groups c.join.new.self c.in_err-join.ensures.err c.in_ok-is_clash.ensures.grouped)

pub invariant_of-self-in_err-add-2 : goal.invariant_of-self-in_err-add-2
invariant_of-self-in_err-add-2 c =
    subst (λ (cs : List Coercion). AreKept cs c.add.new.self c.join.new.self c.lead_on.new.firsts _ _) (sym c.in_err-add-2.ensures.err)
    (torn-kept c.self.inside.graph c.add.new.self c.join.new.self c.lead_on.new.firsts c.self.invariant.one
    (grouped-fewer c.self.inside.graph c.args.coercion c.join.new.self (grouped-more c.self.inside.graph c.args.coercion c.is_clash.new.groups c.join.new.self c.in_ok-is_clash.ensures.grouped c.in_ok-join.ensures.ok)))

pub invariant_of-self-2 : goal.invariant_of-self-2
invariant_of-self-2 c =
    let one : OnePath (c.self.inside.graph ++ c.args.coercion ∷ []) = subst (λ b. MatchBool b (OnePath (c.self.inside.graph ++ c.args.coercion ∷ []) → ⊥) (OnePath (c.self.inside.graph ++ c.args.coercion ∷ []))) c.if-branch.false c.in_ok-is_clash.ensures.clash in
    subst (λ (cs : List Coercion). AreKept cs c.add.new.self c.join.new.self c.lead_on.new.firsts c.in_ok-is_led.is_led _) (sym c.in_ok-add-2.ensures.ok)
    (record {
      one = one;
      grouped = (grouped-more c.self.inside.graph c.args.coercion c.is_clash.new.groups c.join.new.self c.in_ok-is_clash.ensures.grouped c.in_ok-join.ensures.ok);
      led = c.in_ok-is_led.ensures;
      turned = λ t. turned-more c.self.inside.graph c.self.inside.back c.add.new.self c.args.coercion (c.self.invariant.turned c.if-not-self.false)
          (c.in_ok-add.ensures.ok ∙ ap (λ (d : Coercion). c.self.inside.back ++ d ∷ []) c.turned.ensures);
    })

pub returns-clause-ok : goal.returns-clause-ok
returns-clause-ok c =
    let one : OnePath (c.self.inside.graph ++ c.args.coercion ∷ []) = subst (λ b. MatchBool b (OnePath (c.self.inside.graph ++ c.args.coercion ∷ []) → ⊥) (OnePath (c.self.inside.graph ++ c.args.coercion ∷ []))) c.if-branch.false c.in_ok-is_clash.ensures.clash in (
      subst (λ (cs : List Coercion). OnePath (cs ++ c.args.coercion ∷ [])) c.self.view_is one,
      c.in_ok-add-2.ensures.ok ∙ ap (λ (cs : List Coercion). cs ++ c.args.coercion ∷ []) c.self.view_is,
    )

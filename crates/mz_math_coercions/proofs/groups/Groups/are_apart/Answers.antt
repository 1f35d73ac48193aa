use Rattle.std.proofs.Common.{◌≡◌, ◌∙◌, ℕ, List, ap, subst, sym}
use Rattle.std.proofs.Math.Bool.{not}
use Rattle.std.proofs.lemmas.Bool.{eq-eqb, true≢false}
use Rattle.mz_math_coercions.proofs.Naming.{IsTopOf, tops-equal, tops-kept}
use Rattle.mz_math_coercions.proofs.groups.Groups.are_apart.Goals as goal

pub returns-clause-named : goal.returns-clause-named
returns-clause-named c = tops-kept c.args.self.now c.top_of-top.new.ups.items c.top_of-other_top.new.ups.items c.args.one c.args.other c.top_of-top.result c.top_of-other_top.result
    (subst (λ (us : List ℕ). IsTopOf us c.top_of-top.new.ups.items c.args.one c.top_of-top.result) c.self.view_is c.top_of-top.ensures.named) c.top_of-other_top.ensures.named

pub returns-clause-apart : goal.returns-clause-apart
returns-clause-apart c = λ t name named same.
    let e : c.top_of-top.result ≡ c.top_of-other_top.result =
    tops-equal c.args.self.now c.top_of-top.new.ups.items c.top_of-other_top.new.ups.items c.args.one c.args.other c.top_of-top.result c.top_of-other_top.result
    (subst (λ (us : List ℕ). IsTopOf us c.top_of-top.new.ups.items c.args.one c.top_of-top.result) c.self.view_is c.top_of-top.ensures.named) c.top_of-other_top.ensures.named name named same in
    true≢false (sym t ∙ ap not (eq-eqb c.top_of-top.result c.top_of-other_top.result e))

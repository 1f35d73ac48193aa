use Rattle.std.proofs.Common.{◌<◌, ◌∷◌, [], ℕ, All, List, subst, sym, length, map, arith}
use Rattle.mz_machine_theory.specs.Spells.{dummy_of}
use Rattle.mz_decompile_text.specs.Phrases.{a_list}
use Rattle.mz_decompile_text.specs.Phrasing.{binders}
use Rattle.mz_decompile_text.specs.Naming.{vocabulary_by}
use Rattle.mz_decompile_text.specs.ByNumber.{phrases_at}
use Rattle.mz_decompile.specs.Adding.{Adds}
use Rattle.mz_decompile.specs.Hypotheses.{named}
use Rattle.mz_decompile.proofs.Statements.{theorem-told}
use Rattle.mz_decompile.proofs.theorem.put_theorem.Goals as goal

pub weight_said-weight-requires-clause-hypotheses : goal.weight_said-weight-requires-clause-hypotheses
weight_said-weight-requires-clause-hypotheses c =
    let spells = c.requires.spells in (c.in_ok-said.ensures.said spells.0 spells.2.0 spells.1 spells.2.1).there

pub weight_said-weight-requires-clause-conclusion : goal.weight_said-weight-requires-clause-conclusion
weight_said-weight-requires-clause-conclusion c =
    let spells = c.requires.spells in (c.in_ok-said.ensures.said spells.0 spells.2.0 spells.1 spells.2.1).conclusion.0

pub put_hypotheses-requires : goal.put_hypotheses-requires
put_hypotheses-requires c =
    let spells = c.requires.spells in
    subst (λ (ns : List ℕ). All (λ n. n < length c.assertion.new.phrases) ns) (sym c.deref.ensures.value) (c.in_ok-said.ensures.said spells.0 spells.2.0 spells.1 spells.2.1).there

pub returns : goal.returns
returns c env sigs t dummies p arities spells makes =
    let v = vocabulary_by c.args.names.now in
    let row = c.args.before.thms in
    let n = c.thm_arity-params.result in
    let b = c.assertion.new.phrases in
    let d = c.put_hypotheses.new.phrases in
    let e = c.prove.new.phrases in
    let f = c.put_dummies.new.phrases in
    let hyps = subst (λ (ns : List ℕ). Adds b d c.put_heading.new.parts.items c.put_hypotheses.new.parts.items (a_list (named v 0 (phrases_at b ns)) ∷ [])) c.deref.ensures.value
    c.in_ok-put_hypotheses.ensures in
    let dummies-put = subst (λ (xs : List ℕ). Adds e f c.push.new.self.items c.put_dummies.new.parts.items (a_list (binders v n (map dummy_of xs)) ∷ [])) c.deref-2.ensures.value
    c.in_ok-put_dummies.ensures in
    let x = c.saturating_add.ensures in
    let y = c.saturating_add-2.ensures in
    let z = c.len-dummies.ensures in
    theorem-told v c.args.mmb.now row (v.assertion row) sigs n env t c.in_ok-said.said c.in_ok-proved.proved dummies p c.args.phrases.now c.put_heading.new.phrases b d e f c.args.parts.now.items
    c.put_heading.new.parts.items c.put_hypotheses.new.parts.items c.push.new.self.items c.put_dummies.new.parts.items c.push-2.new.self.items c.weight_said-weight.result
    c.saturating_add-2.result spells
    c.in_ok-put_heading.ensures c.in_ok-said.ensures.grows (c.in_ok-said.ensures.said sigs t arities spells) hyps c.in_ok-push.ensures.items c.in_ok-proved.ensures.grows
    (c.in_ok-proved.ensures.proved env dummies p makes) dummies-put c.in_ok-push-2.ensures.items c.thm_arity-params.ensures c.weight_said-weight.ensures (omega (arith, x, y, z))

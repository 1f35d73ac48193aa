use Rattle.std.proofs.Common.{◌<◌, ◌∷◌, [], ℕ, All, List, subst, sym, length}
use Rattle.mz_decompile_text.specs.Phrases.{a_list}
use Rattle.mz_decompile_text.specs.Naming.{vocabulary_by}
use Rattle.mz_decompile_text.specs.ByNumber.{phrases_at}
use Rattle.mz_decompile.specs.Adding.{Adds}
use Rattle.mz_decompile.proofs.Statements.{axiom-told}
use Rattle.mz_decompile.proofs.axiom.put_axiom.Goals as goal

pub weight_said-weight-requires-clause-hypotheses : goal.weight_said-weight-requires-clause-hypotheses
weight_said-weight-requires-clause-hypotheses c =
    let spells = c.requires.spells in (c.in_ok-said.ensures.said spells.0 spells.2.0 spells.1 spells.2.1).there

pub weight_said-weight-requires-clause-conclusion : goal.weight_said-weight-requires-clause-conclusion
weight_said-weight-requires-clause-conclusion c =
    let spells = c.requires.spells in (c.in_ok-said.ensures.said spells.0 spells.2.0 spells.1 spells.2.1).conclusion.0

pub put_list-requires : goal.put_list-requires
put_list-requires c =
    let spells = c.requires.spells in
    subst (λ (ns : List ℕ). All (λ n. n < length c.assertion.new.phrases) ns) (sym c.deref.ensures.value) (c.in_ok-said.ensures.said spells.0 spells.2.0 spells.1 spells.2.1).there

pub returns : goal.returns
returns c sigs t arities spells =
    let v = vocabulary_by c.args.names.now in
    let b = c.assertion.new.phrases in
    let s = c.in_ok-said.said in
    let hyps = subst (λ (ns : List ℕ). Adds b c.put_list.new.phrases c.put_heading.new.parts.items c.put_list.new.parts.items (a_list (phrases_at b ns) ∷ [])) c.deref.ensures.value
    c.in_ok-put_list.ensures in
    axiom-told v c.args.mmb.now c.args.row (v.assertion c.args.row) sigs c.thm_arity.result c.args.phrases.now c.put_heading.new.phrases b c.put_list.new.phrases c.args.parts.now.items
    c.put_heading.new.parts.items c.put_list.new.parts.items c.push.new.self.items t s c.weight_said-weight.result spells c.in_ok-put_heading.ensures c.in_ok-said.ensures.grows
    (c.in_ok-said.ensures.said sigs t arities spells) hyps c.in_ok-push.ensures.items c.thm_arity.ensures c.weight_said-weight.ensures

use Rattle.std.proofs.Common.{◌≤◌, ◌∙◌, List, length, sym, subst, ap, arith}
use Rattle.mz_logic_theory.specs.declared.binder.Binder.{Binder}
use Rattle.mz_emit.proofs.Speaking.{few_words}
use Rattle.mz_emit.proofs.emitter.Emitter.plain.Goals as goal

pub add_term-requires : goal.add_term-requires
add_term-requires c =
    let is = c.in_ok-words.ensures.binders ∙ c.as_slice.ensures in
    let few = few_words c.in_ok-words.words.params.items (subst (λ (ps : List Binder). length ps ≤ 65535) (sym is) c.requires.words.1.few) in
    let many = ap length c.deref.ensures.value in
    omega (arith, few, many)

pub add_term-requires-2-clause-few : goal.add_term-requires-2-clause-few
add_term-requires-2-clause-few c =
    let is = c.in_ok-words.ensures.binders ∙ c.as_slice.ensures in
    let few = few_words c.in_ok-words.words.params.items (subst (λ (ps : List Binder). length ps ≤ 65535) (sym is) c.requires.words.1.few) in
    omega (arith, few)

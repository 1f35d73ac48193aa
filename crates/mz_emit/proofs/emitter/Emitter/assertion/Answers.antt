use Rattle.std.proofs.Common.{◌≤◌, ◌∙◌, List, length, sym, subst, ap, arith}
use Rattle.mz_logic_theory.specs.declared.binder.Binder.{Binder}
use Rattle.mz_emit.proofs.Speaking.{few_words}
use Rattle.mz_emit.proofs.emitter.Emitter.assertion.Goals as goal

pub add_thm-requires : goal.add_thm-requires
add_thm-requires c =
    let is = c.in_ok-words.ensures.binders ∙ c.as_slice.ensures in
    let few = few_words c.in_ok-words.words.params.items (subst (λ (ps : List Binder). length ps ≤ 65535) (sym is) c.requires.can.ready.few_params) in
    let many = ap length c.deref.ensures.value in
    omega (arith, few, many)

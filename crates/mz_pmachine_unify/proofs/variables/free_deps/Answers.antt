use Rattle.std.proofs.Common.{◌≡◌, ◌<◌, ◌≤◌, ◌+◌, ◌++◌, ◌∷◌, [], true, false, take, Contains, arith, refl, sym, ◌∙◌, ap, subst, length, add-one}
use Rattle.mz_logic_theory.specs.Words.{signatures_of, term_at, word_deps, bound_places, binders_of}
use Rattle.mz_logic_theory.specs.Tree.{operand}
use Rattle.mz_store.specs.Bits.{Tells, bound_vars}
use Rattle.mz_store.specs.Sharing.{DependsOn}
use Rattle.mz_store.proofs.Offered.{many, args-many, places-next, places-are-bound, places-within, names-told, free-skip, free-take, free-end}
use Rattle.mz_pmachine_unify.specs.Numbering.{trees_of}
use Rattle.mz_pmachine_unify.proofs.Params.{in-at, operand-at, many-operands}
use Rattle.mz_pmachine_unify.proofs.variables.free_deps.Goals as goal
use Rattle.mz_pmachine_unify.proofs.variables.free_deps.Goals.{then-bound+in_ok-push, else-bound}

pub bounds-args-i : goal.bounds-args-i
bounds-args-i g c = omega (
  arith,
  args-many (signatures_of (g.T.Terms.all_terms c.args.terms.now)) c.args.nodes.now.context (trees_of c.args.nodes.now c.args.args.now) (term_at (g.T.Terms.all_terms c.args.terms.now) c.args.t).params c.requires.fit.1,
  many-operands c.args.nodes.now c.args.args.now,
  c.arity-i-end.ensures,
)

pub deps-requires : goal.deps-requires
deps-requires g c = in-at c.args.nodes.now c.args.args.now c.loop-i.i c.requires.ids
    (omega (
      arith,
      args-many (signatures_of (g.T.Terms.all_terms c.args.terms.now)) c.args.nodes.now.context (trees_of c.args.nodes.now c.args.args.now) (term_at (g.T.Terms.all_terms c.args.terms.now) c.args.t).params c.requires.fit.1,
      many-operands c.args.nodes.now c.args.args.now,
      c.arity-i-end.ensures,
    ))

pub named-requires-clause-within : goal.named-requires-clause-within
named-requires-clause-within g c =
    let terms = g.T.Terms.all_terms c.args.terms.now in
    let ws = (term_at terms c.args.t).params in
    let within : c.loop-i.i ≤ length ws = omega (arith, c.arity-i-end.ensures) in
    λ j has. let below : j < many (trees_of c.args.nodes.now c.args.args.now) = places-within (signatures_of terms) c.args.nodes.now.context (trees_of c.args.nodes.now c.args.args.now) ws c.requires.fit.1 c.loop-i.i within _ (c.deref.ensures.value ∙ c.loop-i.invariant.0) j has in
    omega (arith, many-operands c.args.nodes.now c.args.args.now)

pub loop-i-preserved : goal.loop-i-preserved
loop-i-preserved g c =
    let terms = g.T.Terms.all_terms c.args.terms.now in
    let ws = (term_at terms c.args.t).params in
    let s = c.args.nodes.now in
    let is = c.args.args.now in
    let es = trees_of s is in
    let inside : c.loop-i.i < many es = omega (arith, args-many (signatures_of terms) s.context es ws c.requires.fit.1, c.arity-i-end.ensures) in
    let there : c.loop-i.i < length is = omega (arith, many-operands s is) in
    let within : c.loop-i.i ≤ length ws = omega (arith, c.arity-i-end.ensures) in
    elim c.if-bound.branch [
      | then-bound+in_ok-push w ↦ (
          let bd = sym c.bound.ensures ∙ w.if-bound.true in (
            ap (λ b. b.items) w.bound-is ∙ w.in_ok-push.ensures.items ∙ ap (λ ps. ps ++ c.loop-i.i ∷ []) c.loop-i.invariant.0
                ∙ sym (places-next ws c.loop-i.i (c.loop-i.i + 1) c.param-param.result true c.param-param.ensures (add-one c.loop-i.i) bd),
            rw w.word-is (free-skip (signatures_of terms) s.context es ws c.loop-i.i (c.loop-i.i + 1) c.loop-i.word c.param-param.result c.param-param.ensures inside (add-one c.loop-i.i) bd _ c.loop-i.invariant.1),
          )
          )
      | else-bound w ↦ (
          let regular = sym c.bound.ensures ∙ w.if-bound.false in (
            ap (λ b. b.items) w.bound-is ∙ c.loop-i.invariant.0
                ∙ sym (places-next ws c.loop-i.i (c.loop-i.i + 1) c.param-param.result false c.param-param.ensures (add-one c.loop-i.i) regular),
            rw w.word-is (free-take (signatures_of terms) s.context es ws c.loop-i.i (c.loop-i.i + 1) c.loop-i.word w.deps.result w.named.result _ c.param-param.result c.param-param.ensures inside (add-one c.loop-i.i) regular
                w.deps.type_inv w.named.type_inv
                (subst (λ m. Tells (bound_vars s.context) w.deps.result (DependsOn m (signatures_of terms) s.context (operand es c.loop-i.i))) c.requires.mode
                (subst (λ e. Tells (bound_vars s.context) w.deps.result (DependsOn s.mode (signatures_of terms) s.context e)) (sym (operand-at s is c.loop-i.i there)) (w.deps.ensures.variables (signatures_of terms) c.requires.over)))
                (names-told s.context es ws w.deref.result.now (bound_places 0 (take c.loop-i.i ws)) w.deps-else-bound.result (word_deps c.param-param.result) w.named.result
                (w.deref.ensures.value ∙ c.loop-i.invariant.0) w.deps-else-bound.ensures
                (w.named.ensures (signatures_of terms) (binders_of ws) c.requires.over c.requires.fit.1
                (λ j has. places-are-bound ws c.loop-i.i within j (subst (λ ps. Contains ps j) (w.deref.ensures.value ∙ c.loop-i.invariant.0) has))))
                refl _ c.loop-i.invariant.1),
          )
          )
    ]

pub named-requires-2-clause-within : goal.named-requires-2-clause-within
named-requires-2-clause-within g c =
    let terms = g.T.Terms.all_terms c.args.terms.now in
    let ws = (term_at terms c.args.t).params in
    let within : c.loop-i.i ≤ length ws = omega (arith, c.arity-i-end.ensures) in
    λ j has. let below : j < many (trees_of c.args.nodes.now c.args.args.now) = places-within (signatures_of terms) c.args.nodes.now.context (trees_of c.args.nodes.now c.args.args.now) ws c.requires.fit.1 c.loop-i.i within _ (c.deref-2.ensures.value ∙ c.loop-i.invariant.0) j has in
    omega (arith, many-operands c.args.nodes.now c.args.args.now)

pub returns : goal.returns
returns g c =
    let terms = g.T.Terms.all_terms c.args.terms.now in
    let ws = (term_at terms c.args.t).params in
    let within : c.loop-i.i ≤ length ws = omega (arith, c.arity-i-end.ensures) in
    let count : many (trees_of c.args.nodes.now c.args.args.now) ≡ length ws = args-many (signatures_of terms) c.args.nodes.now.context (trees_of c.args.nodes.now c.args.args.now) ws c.requires.fit.1 in
    free-end terms c.args.nodes.now.context (trees_of c.args.nodes.now c.args.args.now) c.args.t c.loop-i.i c.loop-i.word c.named-2.result c.requires.fit
    (omega (arith, count, c.arity-i-end.ensures)) (omega (arith, c.arity-i-end.ensures)) c.loop-i.invariant.1
    (names-told c.args.nodes.now.context (trees_of c.args.nodes.now c.args.args.now) ws c.deref-2.result.now (bound_places 0 (take c.loop-i.i ws)) c.deps-2.result (word_deps (term_at terms c.args.t).result) c.named-2.result
    (c.deref-2.ensures.value ∙ c.loop-i.invariant.0) (c.deps-2.ensures ∙ ap word_deps c.result.ensures)
    (c.named-2.ensures (signatures_of terms) (binders_of ws) c.requires.over c.requires.fit.1
    (λ j has. places-are-bound ws c.loop-i.i within j (subst (λ ps. Contains ps j) (c.deref-2.ensures.value ∙ c.loop-i.invariant.0) has))))

-- Expressions within one another, and what a step makes of one.
use Rattle.std.proofs.Common.{◌≡◌, ◌<◌, ◌+◌, ◌*◌, ◌++◌, ◌∙◌, ℕ, List, [], ◌∷◌, Option, Some, None, sym, refl, subst, ap, arith}
use Rattle.mz_base.specs.Checks.{◌>>◌}
use Rattle.mz_sexpr.specs.Node.{Node, Nodes}
use Rattle.mz_sexpr.specs.Number.{node_at, nodes_after, StandsFor}
use Rattle.mz_logic_theory.specs.Tree.{Tree, Trees, app, none, more, followed_by}
use Rattle.mz_logic_theory.proofs.Offered.{followed_by_none, followed_by_push}
use Rattle.mz_mmu_theory.specs.Name.{Scope}
use Rattle.mz_mmu_theory.specs.Cursor.{nodes_from, nodes_size, node_size, IsThere}
use Rattle.mz_mmu_theory.specs.Expressions.{IsExpr, AreExprs}
use Rattle.mz_mmu_theory.specs.FormOrder.{expr_asked, exprs_asked}
use Rattle.mz_mmu_forms.specs.Steps.{IsUnderWay, Says, turns}
use Rattle.mz_mmu_theory.specs.Stops.{Stops}
use Rattle.mz_mmu_theory.specs.declared.fault.Stop.{Stop}
use Rattle.mz_mmu_forms.specs.declared.exprs.Application.{Application}
use Rattle.mz_mmu_forms.specs.declared.exprs.Step.{Step}
use Rattle.mz_mmu_forms.specs.declared.exprs.Step.TheVariants as steps
use Rattle.mz_mmu_theory.proofs.Offered.{stepped, stands_there, node_size_positive, expr_holds}
use Rattle.mz_mmu_forms.proofs.Stopping.{stops_before, stops_after}

-- the same where an operand, this node, is being read
abbrev pub Waits : Scope → Nodes → Node → Node → Application → Type 0
Waits sc all m inner o =
    IsThere all o.left
    × ((e : Tree) (es : Trees) → IsExpr sc inner e → AreExprs sc (nodes_from all o.left) es → IsExpr sc m (app o.term (followed_by o.operands (more e es))))
    × ((stop : Stop) → Stops stop (expr_asked sc inner >> exprs_asked sc (nodes_from all o.left)) → Stops stop (expr_asked sc m))

-- these stand around the node, the outermost of them is `top`
abbrev pub Nested : Scope → Nodes → Node → List Application → Node → Type 0
Nested sc all top [] m = top ≡ m
Nested sc all top (o ∷ os) m = (mid : Node) × Waits sc all top mid o × Nested sc all mid os m

-- the expressions around, and what the step says of the innermost
abbrev pub IsReading : Scope → Nodes → Node → List Application → Step → Type 0
IsReading sc all top os step = (m : Node) × Nested sc all top os m × Says sc all m step

-- the turns that are left
abbrev pub turns_around : Nodes → List Application → ℕ
turns_around all [] = 0
turns_around all (o ∷ os) = 2 * nodes_size (nodes_from all o.left) + 2 + turns_around all os

abbrev pub turns_left : Nodes → List Application → Step → ℕ
turns_left all os step = turns_around all os + turns all step

abbrev pub going_on : Application → Option ℕ → Application
going_on o next = record { term = o.term; operands = o.operands; left = next }

abbrev pub with_one : Application → Tree → Application
with_one o e = record { term = o.term; operands = followed_by o.operands (more e none); left = o.left }

module _ (sc : Scope) (all : Nodes) where
  -- ---- one application

  waits : (m : Node) (o : Application) (n : ℕ) (next : Option ℕ) → IsUnderWay sc all m o → o.left ≡ Some n → StandsFor all next (nodes_after all n)
      → Waits sc all m (node_at all n) (going_on o next)
  waits m o n next so_far is stands =
      let step = stepped all o.left n next is stands in (
        stands_there all next (nodes_after all n) stands,
        λ e es h r. so_far.1 (more e es) (subst (λ ns. AreExprs sc ns (more e es)) (sym step) (e, es, h, r, refl)),
        λ stop h. so_far.2 stop (subst (λ ns. Stops stop (exprs_asked sc ns)) (sym step) h),
      )

  one_more : (m inner : Node) (o : Application) (e : Tree) → Waits sc all m inner o → IsExpr sc inner e → IsUnderWay sc all m (with_one o e)
  one_more m inner o e w h = (
    w.0,
    λ es r. subst (λ fs. IsExpr sc m (app o.term fs)) (sym (followed_by_push o.operands es e)) (w.1 e es h r),
    λ stop r. w.2 stop (stops_after stop (expr_asked sc inner) (exprs_asked sc (nodes_from all o.left)) (expr_holds sc inner e h) r),
  )

  all_read : (m : Node) (o : Application) → IsUnderWay sc all m o → o.left ≡ None → IsExpr sc m (app o.term o.operands)
  all_read m o so_far is =
      subst (λ fs. IsExpr sc m (app o.term fs)) (followed_by_none o.operands) (so_far.1 none (subst (λ l. AreExprs sc (nodes_from all l) none) (sym is) refl))

  -- ---- expressions within one another

  nested_more : (top : Node) (os : List Application) (m : Node) (o : Application) (inner : Node)
      → Nested sc all top os m → Waits sc all m inner o → Nested sc all top (os ++ o ∷ []) inner
  nested_more top [] m o inner same w = (inner, subst (λ x. Waits sc all x inner o) (sym same) w, refl)
  nested_more top (p ∷ os) m o inner (mid, v, rest) w = (mid, v, nested_more mid os m o inner rest w)

  nested_last : (top : Node) (os : List Application) (o : Application) (inner : Node) → Nested sc all top (os ++ o ∷ []) inner
      → (m : Node) × Nested sc all top os m × Waits sc all m inner o
  nested_last top [] o inner (mid, w, same) = (top, refl, subst (λ x. Waits sc all top x o) same w)
  nested_last top (p ∷ os) o inner (mid, v, rest) = let last = nested_last mid os o inner rest in (last.0, (mid, v, last.1), last.2)

  stops_through : (top : Node) (os : List Application) (m : Node) (stop : Stop) → Nested sc all top os m → Stops stop (expr_asked sc m) → Stops stop (expr_asked sc top)
  stops_through top [] m stop same h = subst (λ x. Stops stop (expr_asked sc x)) (sym same) h
  stops_through top (o ∷ os) m stop (mid, w, rest) h =
      w.2 stop (stops_before stop (expr_asked sc mid) (exprs_asked sc (nodes_from all o.left)) (stops_through mid os m stop rest h))

  around_more : (os : List Application) (o : Application) → turns_around all (os ++ o ∷ []) ≡ turns_around all os + (2 * nodes_size (nodes_from all o.left) + 2)
  around_more [] o = omega arith
  around_more (p ∷ os) o = let more = around_more os o in omega (arith, more)

  -- ---- turns of the loop

  module _ (top : Node) (os : List Application) (step : Step) where
    pub ended_read : (o : Application) (e : Tree) → e ≡ app o.term o.operands → step ≡ steps.Operands o → o.left ≡ None → IsReading sc all top os step
        → IsReading sc all top os (steps.Whole e)
    ended_read o e made is none_left (m, nested, says) = (m, nested, subst (IsExpr sc m) (sym made) (all_read m o (subst (Says sc all m) is says) none_left))

    pub ended_fewer : (o : Application) (e : Tree) → step ≡ steps.Operands o → turns_left all os (steps.Whole e) < turns_left all os step
    ended_fewer o e is =
        let now : turns all step ≡ 2 * nodes_size (nodes_from all o.left) + 1 = ap (turns all) is in
        omega (arith, now)

    -- an atom is read at once
    pub atom_read : (o p : Application) (n : ℕ) (left : Option ℕ) (e : Tree) → p ≡ with_one (going_on o left) e → step ≡ steps.Operands o → o.left ≡ Some n
        → StandsFor all left (nodes_after all n) → IsExpr sc (node_at all n) e → IsReading sc all top os step → IsReading sc all top os (steps.Operands p)
    atom_read o p n left e p_is is left_is stands h (m, nested, says) =
        let w = waits m o n left (subst (Says sc all m) is says) left_is stands in
        (m, nested, subst (IsUnderWay sc all m) (sym p_is) (one_more m (node_at all n) (going_on o left) e w h))

    pub atom_fewer : (o p : Application) (n : ℕ) (left : Option ℕ) (e : Tree) → p ≡ with_one (going_on o left) e → step ≡ steps.Operands o → o.left ≡ Some n
        → StandsFor all left (nodes_after all n) → turns_left all os (steps.Operands p) < turns_left all os step
    atom_fewer o p n left e p_is is left_is stands =
        let now : turns all step ≡ 2 * nodes_size (nodes_from all o.left) + 1 = ap (turns all) is in
        let after : nodes_size (nodes_from all p.left) ≡ nodes_size (nodes_from all left) = ap (λ q. nodes_size (nodes_from all q.left)) p_is in
        let sizes : nodes_size (nodes_from all o.left) ≡ node_size (node_at all n) + nodes_size (nodes_from all left) = ap nodes_size (stepped all o.left n left left_is stands) in
        let some = node_size_positive (node_at all n) in
        omega (arith, now, after, sizes, some)

    pub inner_read : (new : List Application) (next : Step) (o : Application) (n : ℕ) (left : Option ℕ) → new ≡ os ++ going_on o left ∷ [] → step ≡ steps.Operands o → o.left ≡ Some n
        → StandsFor all left (nodes_after all n) → Says sc all (node_at all n) next → IsReading sc all top os step → IsReading sc all top new next
    inner_read new next o n left new_is is left_is stands after (m, nested, says) = (
      node_at all n,
      subst (λ ps. Nested sc all top ps (node_at all n)) (sym new_is)
          (nested_more top os m (going_on o left) (node_at all n) nested (waits m o n left (subst (Says sc all m) is says) left_is stands)),
      after,
    )

    pub inner_fewer : (new : List Application) (next : Step) (o : Application) (n : ℕ) (left : Option ℕ) → new ≡ os ++ going_on o left ∷ [] → step ≡ steps.Operands o → o.left ≡ Some n
        → StandsFor all left (nodes_after all n) → turns all next + 1 < 2 * node_size (node_at all n) → turns_left all new next < turns_left all os step
    inner_fewer new next o n left new_is is left_is stands less =
        let now : turns all step ≡ 2 * nodes_size (nodes_from all o.left) + 1 = ap (turns all) is in
        let sizes : nodes_size (nodes_from all o.left) ≡ node_size (node_at all n) + nodes_size (nodes_from all left) = ap nodes_size (stepped all o.left n left left_is stands) in
        let around : turns_around all new ≡ turns_around all os + (2 * nodes_size (nodes_from all left) + 2) = ap (turns_around all) new_is ∙ around_more os (going_on o left) in
        omega (arith, now, sizes, around, less)

    pub inner_stops : (o : Application) (n : ℕ) (stop : Stop) → step ≡ steps.Operands o → o.left ≡ Some n → Stops stop (expr_asked sc (node_at all n))
        → IsReading sc all top os step → Stops stop (expr_asked sc top)
    inner_stops o n stop is left_is h (m, nested, says) =
        let so_far = subst (Says sc all m) is says in
        stops_through top os m stop nested (so_far.2 stop (subst (λ l. Stops stop (exprs_asked sc (nodes_from all l))) (sym left_is)
        (stops_before stop (expr_asked sc (node_at all n)) (exprs_asked sc (nodes_after all n)) h)))

    pub back_read : (old : List Application) (o p : Application) (e : Tree) → old ≡ os ++ o ∷ [] → step ≡ steps.Whole e → p ≡ with_one o e
        → IsReading sc all top old step → IsReading sc all top os (steps.Operands p)
    back_read old o p e old_is is p_is (m, nested, says) =
        let last = nested_last top os o m (subst (λ ps. Nested sc all top ps m) old_is nested) in
        (last.0, last.1, subst (IsUnderWay sc all last.0) (sym p_is) (one_more last.0 m o e last.2 (subst (Says sc all m) is says)))

    pub back_fewer : (old : List Application) (o p : Application) (e : Tree) → old ≡ os ++ o ∷ [] → step ≡ steps.Whole e → p ≡ with_one o e
        → turns_left all os (steps.Operands p) < turns_left all old step
    back_fewer old o p e old_is is p_is =
        let now : turns all step ≡ 0 = ap (turns all) is in
        let sizes : nodes_size (nodes_from all p.left) ≡ nodes_size (nodes_from all o.left) = ap (λ q. nodes_size (nodes_from all q.left)) p_is in
        let around : turns_around all old ≡ turns_around all os + (2 * nodes_size (nodes_from all o.left) + 2) = ap (turns_around all) old_is ∙ around_more os o in
        omega (arith, now, sizes, around)

    pub whole_read : (e : Tree) → os ≡ [] → step ≡ steps.Whole e → IsReading sc all top os step → IsExpr sc top e
    whole_read e empty is (m, nested, says) =
        subst (λ x. IsExpr sc x e) (sym (subst (λ ps. Nested sc all top ps m) empty nested)) (subst (Says sc all m) is says)

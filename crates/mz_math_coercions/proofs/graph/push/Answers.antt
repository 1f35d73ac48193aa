use Rattle.std.proofs.Common.{◌≡◌, ◌+◌, ◌∙◌, ◌∷◌, ◌++◌, [], ℕ, List, ap, arith, get_or, length, length-append, slice_set, sym, subst}
use Rattle.mz_math_theory.specs.declared.coercion.Coercion.{Coercion}
use Rattle.mz_math_coercions.specs.Graph.{AreChained}
use Rattle.mz_math_coercions.proofs.Walks.{chained-longer, chained-push}
use Rattle.mz_math_coercions.proofs.graph.push.Goals as goal

pub returns-in_err-lengthen-clause-chained : goal.returns-in_err-lengthen-clause-chained
returns-in_err-lengthen-clause-chained c = chained-longer c.args.items.now.items c.args.last.now.items c.args.before.now.items c.lengthen.new.links.items c.requires c.lengthen.ensures.same

pub returns-in_err-push-clause-chained : goal.returns-in_err-push-clause-chained
returns-in_err-push-clause-chained c =
    subst (λ (xs : List ℕ). AreChained c.args.items.now.items c.lengthen.new.links.items xs) (sym c.in_err-push.ensures.items)
    (chained-longer c.args.items.now.items c.args.last.now.items c.args.before.now.items c.lengthen.new.links.items c.requires c.lengthen.ensures.same)

pub returns-in_default-clause-chained : goal.returns-in_default-clause-chained
returns-in_default-clause-chained c =
    subst (λ (cs : List Coercion). AreChained cs c.lengthen.new.links.items c.drop_last.new.items.items) (sym c.in_default.ensures.items)
    (subst (λ (xs : List ℕ). AreChained c.args.items.now.items c.lengthen.new.links.items xs) (sym (c.drop_last.ensures c.args.before.now.items c.link_at.result c.in_ok-push.ensures.items))
    (chained-longer c.args.items.now.items c.args.last.now.items c.args.before.now.items c.lengthen.new.links.items c.requires c.lengthen.ensures.same))

pub returns-clause-chained : goal.returns-clause-chained
returns-clause-chained c =
    let links = c.lengthen.new.links.items in
    let many : length c.push-2.new.self.items ≡ length c.args.items.now.items + 1 = ap length c.in-Ok.ensures.items ∙ length-append c.args.items.now.items (c.args.coercion ∷ []) in
    let n : c.len.result ≡ length c.args.items.now.items + 1 = (let e = c.len.ensures in omega (arith, e, many, c.push-2.new.self.ok.0)) in
    let more : c.push.new.self.items ≡ c.args.before.now.items ++ get_or links c.args.coercion.from 0 ∷ [] =
    c.in_ok-push.ensures.items ∙ ap (λ x. c.args.before.now.items ++ x ∷ []) (c.link_at.ensures ∙ ap (λ (xs : List ℕ). get_or xs c.args.coercion.from 0) c.deref.ensures.value) in
    subst (λ (cs : List Coercion). AreChained cs (slice_set links c.args.coercion.from c.len.result) c.push.new.self.items) (sym c.in-Ok.ensures.items)
    (subst (λ (xs : List ℕ). AreChained (c.args.items.now.items ++ c.args.coercion ∷ []) (slice_set links c.args.coercion.from c.len.result) xs) (sym more)
    (chained-push c.args.items.now.items c.args.last.now.items c.args.before.now.items links c.args.coercion c.requires c.in_ok-lengthen.ensures.there c.lengthen.ensures.same c.len.result n))

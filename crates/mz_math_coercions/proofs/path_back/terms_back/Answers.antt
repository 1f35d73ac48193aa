use Rattle.std.proofs.Common.{◌≡◌, ◌∙◌, ◌+◌, ◌++◌, ◌∷◌, [], ℕ, List, ap, append-nil, arith, length, length-append, map, reverse, sym}
use Rattle.std.proofs.lemmas.List.{nil_from_length}
use Rattle.std.proofs.lemmas.Option.{none-some}
use Rattle.mz_math_theory.specs.Coercions.{coercion_term}
use Rattle.mz_math_coercions.proofs.Backwards.{next-term, next-there}
use Rattle.mz_math_coercions.proofs.path_back.terms_back.Goals as goal

pub steps-init : goal.steps-init
steps-init c = record { rest = c.requires; so_far = ap (λ ts. ts ++ map (coercion_term c.args.items.now) (reverse c.args.places.items)) c.in_ok-terms.ensures.items }

pub unreachable-requires : goal.unreachable-requires
unreachable-requires c =
    let (from, to, on) = c.steps.invariant.rest in
    let (d, at, begins, rest) = next-there c.args.items.now c.in-Some.place c.steps.left.items c.pop.new.self.items c.in-Some.ensures.items from to on in
    none-some d (c.in_default-coercion_at.ensures ∙ at)

pub steps-smaller : goal.steps-smaller
steps-smaller c = let many : length c.steps.left.items ≡ length c.pop.new.self.items + 1 = ap length c.in-Some.ensures.items ∙ length-append c.pop.new.self.items (c.in-Some.place ∷ []) in omega (arith, many)

pub steps-preserved : goal.steps-preserved
steps-preserved c =
    let (from, to, on) = c.steps.invariant.rest in
    let (d, at, begins, rest) = next-there c.args.items.now c.in-Some.place c.steps.left.items c.pop.new.self.items c.in-Some.ensures.items from to on in
    record {
      rest = (d.to, to, rest);
      so_far = next-term c.args.items.now c.in-Some.place c.steps.left.items c.pop.new.self.items c.in-Some.ensures.items c.in-Some-coercion_at.coercion c.steps.terms.items c.push.new.self.items
          (sym c.in-Some-coercion_at.ensures) c.in_ok-push.ensures.items ∙ c.steps.invariant.so_far;
    }

pub returns : goal.returns
returns c =
    let gone : c.steps.left.items ≡ [] = nil_from_length c.steps.left.items (let none = c.in_default.ensures.cases.0 in let many = c.steps.left.ok.0 in omega (arith, none, many)) in
    sym (append-nil c.steps.terms.items) ∙ sym (ap (λ (places : List ℕ). c.steps.terms.items ++ map (coercion_term c.args.items.now) (reverse places)) gone) ∙ c.steps.invariant.so_far

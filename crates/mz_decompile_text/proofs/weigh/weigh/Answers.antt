use Rattle.std.proofs.Common.{◌<◌, ◌++◌, ◌∷◌, [], All, sym, subst, length}
use Rattle.mz_decompile_text.specs.Telling.{IsLower}
use Rattle.mz_decompile_text.proofs.LongerProofs.{first-there, rest-there, all-of, no-numbers, all-left, all-right}
use Rattle.mz_decompile_text.proofs.weigh.weigh.Goals as goal

pub with_parts-requires : goal.with_parts-requires
with_parts-requires c =
    let k = length c.args.weights.now in
    let es = c.in-Use.operands.items in
    let ps = c.in-Use.proofs.items in
    let low : All (λ m. m < k) (c.in-Use.claim ∷ (es ++ ps)) = subst (IsLower k) c.in-Use.is c.requires in
    subst (All (λ m. m < k)) (sym c.deref.ensures.value) (all-left k es ps (rest-there k c.in-Use.claim (es ++ ps) low))

pub with_parts-requires-in-Use : goal.with_parts-requires-in-Use
with_parts-requires-in-Use c =
    let k = length c.args.weights.now in
    let es = c.in-Use.operands.items in
    let ps = c.in-Use.proofs.items in
    let low : All (λ m. m < k) (c.in-Use.claim ∷ (es ++ ps)) = subst (IsLower k) c.in-Use.is c.requires in
    subst (All (λ m. m < k)) (sym c.deref-in-Use.ensures.value) (all-right k es ps (rest-there k c.in-Use.claim (es ++ ps) low))

pub with_parts-own-requires-in-Unfold : goal.with_parts-own-requires-in-Unfold
with_parts-own-requires-in-Unfold c =
    let k = length c.args.weights.now in
    let es = c.in-Unfold.operands.items in
    let low : All (λ m. m < k) (c.in-Unfold.unfolded ∷ c.in-Unfold.conversion ∷ es) = subst (IsLower k) c.in-Unfold.is c.requires in
    subst (All (λ m. m < k)) (sym c.deref-in-Unfold.ensures.value)
    (rest-there k c.in-Unfold.conversion es (rest-there k c.in-Unfold.unfolded (c.in-Unfold.conversion ∷ es) low))

pub with_parts-requires-in-Unfold : goal.with_parts-requires-in-Unfold
with_parts-requires-in-Unfold c =
    let k = length c.args.weights.now in
    let u = c.in-Unfold.unfolded in
    let d = c.in-Unfold.conversion in
    let es = c.in-Unfold.operands.items in
    let low : All (λ m. m < k) (u ∷ d ∷ es) = subst (IsLower k) c.in-Unfold.is c.requires in
    all-of k u (d ∷ []) (first-there k u (d ∷ es) low) (all-of k d [] (first-there k d es (rest-there k u (d ∷ es) low)) (no-numbers k))

use Rattle.std.proofs.Common.{◌<◌, ◌++◌, ◌∷◌, All, sym, subst, length}
use Rattle.mz_decompile_text.specs.Telling.{IsLower}
use Rattle.mz_decompile_text.proofs.LongerProofs.{first-there, rest-there, all-left, all-right}
use Rattle.mz_decompile_text.proofs.tell.tell.Goals as goal

pub citation-requires-clause-operands : goal.citation-requires-clause-operands
citation-requires-clause-operands c =
    let k = length c.args.told.now in
    let es = c.in-Use.operands.items in
    let ps = c.in-Use.proofs.items in
    let low : All (λ m. m < k) (c.in-Use.field-1 ∷ (es ++ ps)) = subst (IsLower k) c.in-Use.is c.requires.node in
    subst (All (λ m. m < k)) (sym c.deref-in-Use.ensures.value) (all-left k es ps (rest-there k c.in-Use.field-1 (es ++ ps) low))

pub citation-requires-clause-proofs : goal.citation-requires-clause-proofs
citation-requires-clause-proofs c =
    let k = length c.args.told.now in
    let es = c.in-Use.operands.items in
    let ps = c.in-Use.proofs.items in
    let low : All (λ m. m < k) (c.in-Use.field-1 ∷ (es ++ ps)) = subst (IsLower k) c.in-Use.is c.requires.node in
    subst (All (λ m. m < k)) (sym c.deref-in-Use-2.ensures.value) (all-right k es ps (rest-there k c.in-Use.field-1 (es ++ ps) low))

pub unfolding-requires-clause-operands : goal.unfolding-requires-clause-operands
unfolding-requires-clause-operands c =
    let k = length c.args.told.now in
    let es = c.in-Unfold.operands.items in
    let low : All (λ m. m < k) (c.in-Unfold.field-1 ∷ c.in-Unfold.conversion ∷ es) = subst (IsLower k) c.in-Unfold.is c.requires.node in
    subst (All (λ m. m < k)) (sym c.deref-in-Unfold.ensures.value)
    (rest-there k c.in-Unfold.conversion es (rest-there k c.in-Unfold.field-1 (c.in-Unfold.conversion ∷ es) low))

pub unfolding-requires-clause-conversion : goal.unfolding-requires-clause-conversion
unfolding-requires-clause-conversion c =
    let k = length c.args.told.now in
    let es = c.in-Unfold.operands.items in
    let low : All (λ m. m < k) (c.in-Unfold.field-1 ∷ c.in-Unfold.conversion ∷ es) = subst (IsLower k) c.in-Unfold.is c.requires.node in
    first-there k c.in-Unfold.conversion es (rest-there k c.in-Unfold.field-1 (c.in-Unfold.conversion ∷ es) low)

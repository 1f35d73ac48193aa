-- More values behind: what was named stays what it was.
use Rattle.std.proofs.Common.{◌≡◌, ℕ, List, [], ◌∷◌, ◌++◌, map, refl, sym, ap, ◌∙◌}
use Rattle.std.specs.Prelude.{reverse}
use Rattle.std.proofs.lemmas.List.{reverse-append}
use Rattle.mz_base.proofs.Offered.{slice_get-append}
use Rattle.mz_logic_theory.specs.Tree.{app}
use Rattle.mz_machine_theory.specs.Profile.{expr, proof}
use Rattle.mz_machine_theory.specs.Spells.{trees_of}
use Rattle.mz_machine_theory.specs.MachineState.{RowsBefore}
use Rattle.mz_trace.specs.OneHoleContexts.{proved, converted}
use Rattle.mz_trace.specs.Nodes.{Value, an_expression, a_conversion, a_proof, expression_of, conversion_of, proof_of, expression_at, conversion_at, proof_at, expressions_at, conversions_at, proofs_at, value_of, IsExpression, IsConversion, IsProof, AreExpressions, AreConversions, AreProofs, conclusion_under, body_under, IsClaim, IsBody, HasParts}
use Rattle.mz_trace.specs.Entries.{item_at, part_at, IsItem, AreItems, owed_at, items_at, parts_at, ArePairs, IsStack, IsWaiting}
use Rattle.mz_trace.specs.declared.node.RunNode.{RunNode}
use Rattle.mz_trace.specs.declared.node.RunNode.TheVariants as node
use Rattle.mz_trace.specs.declared.entry.Item.{Item}
use Rattle.mz_trace.specs.declared.entry.Item.TheVariants.{Expr, Proof as ProofItem, Conversion as ConversionItem}
use Rattle.mz_trace.specs.declared.entry.Entry.{Entry}
use Rattle.mz_trace.specs.declared.entry.Entry.TheVariants.{Held, Owed, ForProof, ForTurned, ForOperand, ForUnfolded, ForCut}

module _ (vs ws : List Value) where
  -- ---- one number

  pub grown-expression : (n : ℕ) → IsExpression vs n → IsExpression (vs ++ ws) n
  grown-expression n h = (h.0, slice_get-append vs ws n (an_expression h.0) h.1)

  pub grown-conversion : (n : ℕ) → IsConversion vs n → IsConversion (vs ++ ws) n
  grown-conversion n h = (h.0, slice_get-append vs ws n (a_conversion h.0) h.1)

  pub grown-proof : (n : ℕ) → IsProof vs n → IsProof (vs ++ ws) n
  grown-proof n h = (h.0, slice_get-append vs ws n (a_proof h.0) h.1)

  pub same-expression : (n : ℕ) → IsExpression vs n → expression_at (vs ++ ws) n ≡ expression_at vs n
  same-expression n h = ap expression_of (slice_get-append vs ws n (an_expression h.0) h.1 ∙ sym h.1)

  pub same-conversion : (n : ℕ) → IsConversion vs n → conversion_at (vs ++ ws) n ≡ conversion_at vs n
  same-conversion n h = ap conversion_of (slice_get-append vs ws n (a_conversion h.0) h.1 ∙ sym h.1)

  pub same-proof : (n : ℕ) → IsProof vs n → proof_at (vs ++ ws) n ≡ proof_at vs n
  same-proof n h = ap proof_of (slice_get-append vs ws n (a_proof h.0) h.1 ∙ sym h.1)

  -- ---- lists of numbers

  pub grown-expressions : (ns : List ℕ) → AreExpressions vs ns → AreExpressions (vs ++ ws) ns
  grown-expressions [] h = tt
  grown-expressions (n ∷ ns) h = (grown-expression n h.0, grown-expressions ns h.1)

  pub grown-conversions : (ns : List ℕ) → AreConversions vs ns → AreConversions (vs ++ ws) ns
  grown-conversions [] h = tt
  grown-conversions (n ∷ ns) h = (grown-conversion n h.0, grown-conversions ns h.1)

  pub grown-proofs : (ns : List ℕ) → AreProofs vs ns → AreProofs (vs ++ ws) ns
  grown-proofs [] h = tt
  grown-proofs (n ∷ ns) h = (grown-proof n h.0, grown-proofs ns h.1)

  pub same-expressions : (ns : List ℕ) → AreExpressions vs ns → expressions_at (vs ++ ws) ns ≡ expressions_at vs ns
  same-expressions [] h = refl
  same-expressions (n ∷ ns) h = rw (same-expression n h.0, same-expressions ns h.1) refl

  pub same-conversions : (ns : List ℕ) → AreConversions vs ns → conversions_at (vs ++ ws) ns ≡ conversions_at vs ns
  same-conversions [] h = refl
  same-conversions (n ∷ ns) h = rw (same-conversion n h.0, same-conversions ns h.1) refl

  pub same-proofs : (ns : List ℕ) → AreProofs vs ns → proofs_at (vs ++ ws) ns ≡ proofs_at vs ns
  same-proofs [] h = refl
  same-proofs (n ∷ ns) h = rw (same-proof n h.0, same-proofs ns h.1) refl

  pub same-named : (ns : List ℕ) → AreProofs vs ns → map (proof_at (vs ++ ws)) ns ≡ map (proof_at vs) ns
  same-named [] h = refl
  same-named (n ∷ ns) h = rw (same-proof n h.0, same-named ns h.1) refl

  -- ---- what was matched

  pub grown-claim : (tables : RowsBefore) (t : ℕ) (es : List ℕ) (e : ℕ) → AreExpressions vs es → IsExpression vs e
      → IsClaim tables t (expressions_at vs es) (expression_at vs e) → IsClaim tables t (expressions_at (vs ++ ws) es) (expression_at (vs ++ ws) e)
  grown-claim tables t es e are is h env declares = same-expression e is ∙ h env declares ∙ ap (conclusion_under env t) (sym (same-expressions es are))

  pub grown-body : (tables : RowsBefore) (t : ℕ) (es ys : List ℕ) (e : ℕ) → AreExpressions vs es → IsExpression vs e
      → IsBody tables t (expressions_at vs es) ys (expression_at vs e) → IsBody tables t (expressions_at (vs ++ ws) es) ys (expression_at (vs ++ ws) e)
  grown-body tables t es ys e are is h env declares = same-expression e is ∙ h env declares ∙ ap (λ ts. body_under env t ts ys) (sym (same-expressions es are))

  -- ---- nodes

  pub grown-parts : (tables : RowsBefore) (n : RunNode) → HasParts tables vs n → HasParts tables (vs ++ ws) n
  grown-parts tables (node.App t es) h = (grown-expressions es.items h.0, h.1)
  grown-parts tables (node.Use t e es ps) h = (grown-expression e h.0, grown-expressions es.items h.1, grown-proofs ps.items h.2, grown-claim tables t es.items e h.1 h.0 h.3)
  grown-parts tables (node.Conv e c p) h = (grown-expression e h.0, grown-conversion c h.1, grown-proof p h.2)
  grown-parts tables (node.Refl e) h = grown-expression e h
  grown-parts tables (node.Sym c) h = grown-conversion c h
  grown-parts tables (node.Cong t cs) h = grown-conversions cs.items h
  grown-parts tables (node.Unfold t e es ys c) h = (grown-expression e h.0, grown-expressions es.items h.1, grown-conversion c h.2, grown-body tables t es.items ys.items e h.1 h.0 h.3)
  grown-parts tables _ h = tt

  pub same-value : (tables : RowsBefore) (n : RunNode) → HasParts tables vs n → value_of (vs ++ ws) n ≡ value_of vs n
  same-value tables (node.App t es) h = ap (λ ts. an_expression (app t (trees_of ts))) (same-expressions es.items h.0)
  same-value tables (node.Use t e es ps) h = rw (same-expressions es.items h.1, same-proofs ps.items h.2) refl
  same-value tables (node.Conv e c p) h = rw (same-expression e h.0, same-conversion c h.1, same-proof p h.2) refl
  same-value tables (node.Refl e) h = rw (same-expression e h) refl
  same-value tables (node.Sym c) h = rw (same-conversion c h) refl
  same-value tables (node.Cong t cs) h = rw (same-conversions cs.items h) refl
  same-value tables (node.Unfold t e es ys c) h = rw (same-expressions es.items h.1, same-conversion c h.2) refl
  same-value tables _ h = refl

  -- ---- items

  pub grown-item : (x : Item) → IsItem vs x → IsItem (vs ++ ws) x
  grown-item (Expr e) h = grown-expression e h
  grown-item (ProofItem e p) h = (grown-expression e h.0, grown-proof p h.1)
  grown-item (ConversionItem l r c) h = (grown-expression l h.0, grown-expression r h.1, grown-conversion c h.2)

  pub same-item : (x : Item) → IsItem vs x → item_at (vs ++ ws) x ≡ item_at vs x
  same-item (Expr e) h = ap expr (same-expression e h)
  same-item (ProofItem e p) h = ap proof (same-expression e h.0)
  same-item (ConversionItem l r c) h = rw (same-expression l h.0, same-expression r h.1) refl

  pub same-part : (x : Item) → IsItem vs x → part_at (vs ++ ws) x ≡ part_at vs x
  same-part (Expr e) h = refl
  same-part (ProofItem e p) h = ap proved (same-proof p h.1)
  same-part (ConversionItem l r c) h = ap converted (same-conversion c h.2)

  pub grown-heap : (xs : List Item) → AreItems vs xs → AreItems (vs ++ ws) xs
  grown-heap [] h = tt
  grown-heap (x ∷ xs) h = (grown-item x h.0, grown-heap xs h.1)

  pub same-heap : (xs : List Item) → AreItems vs xs → map (item_at (vs ++ ws)) xs ≡ map (item_at vs) xs
  same-heap [] h = refl
  same-heap (x ∷ xs) h = rw (same-item x h.0, same-heap xs h.1) refl

  pub same-heap_parts : (xs : List Item) → AreItems vs xs → map (part_at (vs ++ ws)) xs ≡ map (part_at vs) xs
  same-heap_parts [] h = refl
  same-heap_parts (x ∷ xs) h = rw (same-part x h.0, same-heap_parts xs h.1) refl

  -- ---- the stack

  pub grown-pairs : (ps : List (ℕ × ℕ)) → ArePairs vs ps → ArePairs (vs ++ ws) ps
  grown-pairs [] h = tt
  grown-pairs (p ∷ ps) h = (grown-expression p.0 h.0, grown-expression p.1 h.1, grown-pairs ps h.2)

  -- in the order of the stack
  pub same-pairs : (ps : List (ℕ × ℕ)) → ArePairs vs ps → map (owed_at (vs ++ ws)) ps ≡ map (owed_at vs) ps
  same-pairs [] h = refl
  same-pairs (p ∷ ps) h = rw (same-expression p.0 h.0, same-expression p.1 h.1, same-pairs ps h.2) refl

pub pairs-both : (vs : List Value) (ps qs : List (ℕ × ℕ)) → ArePairs vs ps → ArePairs vs qs → ArePairs vs (ps ++ qs)
pairs-both vs [] qs h k = k
pairs-both vs (p ∷ ps) qs h k = (h.0, h.1, pairs-both vs ps qs h.2 k)

pub pairs-turned : (vs : List Value) (ps : List (ℕ × ℕ)) → ArePairs vs ps → ArePairs vs (reverse ps)
pairs-turned vs [] h = tt
pairs-turned vs (p ∷ ps) h = rw (reverse-append (p ∷ []) ps) (pairs-both vs (reverse ps) (p ∷ []) (pairs-turned vs ps h.2) (h.0, h.1, tt))

module _ (tables : RowsBefore) (vs ws : List Value) where
  mutual
    pub grown-stack : (xs : List Entry) → IsStack tables vs xs → IsStack tables (vs ++ ws) xs
    grown-stack [] h = tt
    grown-stack (Held (Expr e) ∷ xs) h = (grown-expression vs ws e h.0, grown-stack xs h.1)
    grown-stack (Held (ProofItem e p) ∷ xs) h = (grown-item vs ws (ProofItem e p) h.0, grown-stack xs h.1)
    grown-stack (Held (ConversionItem l r c) ∷ xs) h = (grown-item vs ws (ConversionItem l r c) h.0, grown-waiting xs h.1)
    grown-stack (Owed l r ∷ xs) h = (grown-expression vs ws l h.0, grown-expression vs ws r h.1, grown-waiting xs h.2)
    grown-stack _ h = absurd h

    pub grown-waiting : (xs : List Entry) → IsWaiting tables vs xs → IsWaiting tables (vs ++ ws) xs
    grown-waiting (ForProof e p ∷ xs) h = (grown-expression vs ws e h.0, grown-proof vs ws p h.1, grown-stack xs h.2)
    grown-waiting (ForTurned ∷ xs) h = grown-waiting xs h
    grown-waiting (ForOperand t done left ∷ xs) h = (grown-conversions vs ws done.items h.0, grown-pairs vs ws left.items h.1, grown-waiting xs h.2)
    grown-waiting (ForUnfolded t e es ys ∷ xs) h =
        (grown-expression vs ws e h.0, grown-expressions vs ws es.items h.1, grown-body vs ws tables t es.items ys.items e h.1 h.0 h.2, grown-waiting xs h.3)
    grown-waiting (ForCut l r ∷ xs) h = (grown-expression vs ws l h.0, grown-expression vs ws r h.1, grown-waiting xs h.2)
    grown-waiting _ h = absurd h

  mutual
    pub same-items : (xs : List Entry) → IsStack tables vs xs → items_at (vs ++ ws) xs ≡ items_at vs xs
    same-items [] h = refl
    same-items (Held (Expr e) ∷ xs) h = rw (same-expression vs ws e h.0, same-items xs h.1) refl
    same-items (Held (ProofItem e p) ∷ xs) h = rw (same-expression vs ws e h.0.0, same-items xs h.1) refl
    same-items (Held (ConversionItem l r c) ∷ xs) h = rw (same-expression vs ws l h.0.0, same-expression vs ws r h.0.1, same-items_below xs h.1) refl
    same-items (Owed l r ∷ xs) h = rw (same-expression vs ws l h.0, same-expression vs ws r h.1, same-items_below xs h.2) refl
    same-items _ h = absurd h

    pub same-items_below : (xs : List Entry) → IsWaiting tables vs xs → items_at (vs ++ ws) xs ≡ items_at vs xs
    same-items_below (ForProof e p ∷ xs) h = rw (same-expression vs ws e h.0, same-items xs h.2) refl
    same-items_below (ForTurned ∷ xs) h = same-items_below xs h
    same-items_below (ForOperand t done left ∷ xs) h = rw (same-pairs vs ws (reverse left.items) (pairs-turned vs left.items h.1), same-items_below xs h.2) refl
    same-items_below (ForUnfolded t e es ys ∷ xs) h = same-items_below xs h.3
    same-items_below (ForCut l r ∷ xs) h = rw (same-expression vs ws l h.0, same-expression vs ws r h.1, same-items_below xs h.2) refl
    same-items_below _ h = absurd h

  mutual
    pub same-parts : (xs : List Entry) → IsStack tables vs xs → parts_at (vs ++ ws) xs ≡ parts_at vs xs
    same-parts [] h = refl
    same-parts (Held (Expr e) ∷ xs) h = rw (same-parts xs h.1) refl
    same-parts (Held (ProofItem e p) ∷ xs) h = rw (same-proof vs ws p h.0.1, same-parts xs h.1) refl
    same-parts (Held (ConversionItem l r c) ∷ xs) h = rw (same-conversion vs ws c h.0.2, same-parts_below xs h.1) refl
    same-parts (Owed l r ∷ xs) h = rw (same-parts_below xs h.2) refl
    same-parts _ h = absurd h

    pub same-parts_below : (xs : List Entry) → IsWaiting tables vs xs → parts_at (vs ++ ws) xs ≡ parts_at vs xs
    same-parts_below (ForProof e p ∷ xs) h = rw (same-expression vs ws e h.0, same-proof vs ws p h.1, same-parts xs h.2) refl
    same-parts_below (ForTurned ∷ xs) h = rw (same-parts_below xs h) refl
    same-parts_below (ForOperand t done left ∷ xs) h = rw (same-conversions vs ws done.items h.0, same-parts_below xs h.2) refl
    same-parts_below (ForUnfolded t e es ys ∷ xs) h = rw (same-expressions vs ws es.items h.1, same-parts_below xs h.3) refl
    same-parts_below (ForCut l r ∷ xs) h = rw (same-parts_below xs h.2) refl
    same-parts_below _ h = absurd h

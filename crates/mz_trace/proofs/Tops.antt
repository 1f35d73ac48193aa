-- What stands on top where the machine takes something.
use Rattle.std.proofs.Common.{◌≡◌, ℕ, zero, suc, List, [], ◌∷◌, ◌++◌, Ok, Result, length, map, refl, sym, ap, ◌∙◌, subst, inl, inr}
use Rattle.std.specs.Prelude.{reverse, drop}
use Rattle.std.proofs.lemmas.List.{reverse-append, map-append, append_assoc, length-reverse, reverse-reverse}
use Rattle.mz_cmd.specs.declared.rule.K.{K}
use Rattle.mz_cmd.specs.declared.rule.K.TheVariants as k
use Rattle.mz_logic_theory.specs.Tree.{Tree}
use Rattle.mz_mmu_theory.specs.Proof.{Proofs, no_proofs, more_proofs}
use Rattle.mz_machine_theory.specs.Profile.{strict, Item as MachineItem}
use Rattle.mz_machine_theory.specs.Tests.{same_tree}
use Rattle.mz_machine_theory.proofs.Offered.{from_bind, from_need, taken-is}
use Rattle.mz_machine_theory.specs.MachineState.{RowsBefore}
use Rattle.mz_machine_theory.specs.Premises.{pop_expr, pop_proof, pop_obligation, pop_conversion, pop_sides, pop_exprs}
use Rattle.mz_trace.specs.OneHoleContexts.{proofs_above}
use Rattle.mz_trace.specs.Nodes.{Value, expression_at, expressions_at, proof_at, proofs_at, AreExpressions, AreProofs}
use Rattle.mz_trace.specs.Entries.{items_at, parts_at, IsStack, exprs_onto, proofs_onto, HasExprs, TookSides}
use Rattle.mz_trace.specs.declared.entry.Item.TheVariants.{Expr, Proof, Conversion}
use Rattle.mz_trace.specs.declared.entry.Entry.{Entry}
use Rattle.mz_trace.specs.declared.entry.Entry.TheVariants.{Held, Owed, ForProof, ForTurned, ForOperand, ForUnfolded, ForCut}

abbrev pub second : ℕ × ℕ → ℕ
second p = p.1

module _ (tables : RowsBefore) (vs : List Value) where
  pub expr-top : (xs : List Entry) (r : Tree × List (MachineItem Tree)) → IsStack tables vs xs → pop_expr (items_at vs xs) ≡ Ok r
      → (n : ℕ) × (ys : List Entry) × (xs ≡ Held (Expr n) ∷ ys) × (r ≡ (expression_at vs n, items_at vs ys))
  expr-top [] r h e = absurd cc
  expr-top (Held (Expr n) ∷ xs) r h e = (n, xs, refl, sym (taken-is (expression_at vs n, items_at vs xs) r e))
  expr-top (Held (Proof n p) ∷ xs) r h e = absurd cc
  expr-top (Held (Conversion a b c) ∷ xs) r h e = absurd cc
  expr-top (Owed a b ∷ xs) r h e = absurd cc
  expr-top _ r h e = absurd h

  pub proof-top : (xs : List Entry) (r : Tree × List (MachineItem Tree)) → IsStack tables vs xs → pop_proof (items_at vs xs) ≡ Ok r
      → (n p : ℕ) × (ys : List Entry) × (xs ≡ Held (Proof n p) ∷ ys) × (r ≡ (expression_at vs n, items_at vs ys))
  proof-top [] r h e = absurd cc
  proof-top (Held (Expr n) ∷ xs) r h e = absurd cc
  proof-top (Held (Proof n p) ∷ xs) r h e = (n, p, xs, refl, sym (taken-is (expression_at vs n, items_at vs xs) r e))
  proof-top (Held (Conversion a b c) ∷ xs) r h e = absurd cc
  proof-top (Owed a b ∷ xs) r h e = absurd cc
  proof-top _ r h e = absurd h

  pub owed-top : (xs : List Entry) (r : Tree × Tree × List (MachineItem Tree)) → IsStack tables vs xs → pop_obligation (items_at vs xs) ≡ Ok r
      → (a b : ℕ) × (ys : List Entry) × (xs ≡ Owed a b ∷ ys) × (r ≡ (expression_at vs a, expression_at vs b, items_at vs ys))
  owed-top [] r h e = absurd cc
  owed-top (Held (Expr n) ∷ xs) r h e = absurd cc
  owed-top (Held (Proof n p) ∷ xs) r h e = absurd cc
  owed-top (Held (Conversion a b c) ∷ xs) r h e = absurd cc
  owed-top (Owed a b ∷ xs) r h e = (a, b, xs, refl, sym (taken-is (expression_at vs a, expression_at vs b, items_at vs xs) r e))
  owed-top _ r h e = absurd h

  pub conversion-top : (xs : List Entry) (r : Tree × Tree × List (MachineItem Tree)) → IsStack tables vs xs → pop_conversion (items_at vs xs) ≡ Ok r
      → (a b c : ℕ) × (ys : List Entry) × (xs ≡ Held (Conversion a b c) ∷ ys) × (r ≡ (expression_at vs a, expression_at vs b, items_at vs ys))
  conversion-top [] r h e = absurd cc
  conversion-top (Held (Expr n) ∷ xs) r h e = absurd cc
  conversion-top (Held (Proof n p) ∷ xs) r h e = absurd cc
  conversion-top (Held (Conversion a b c) ∷ xs) r h e = (a, b, c, xs, refl, sym (taken-is (expression_at vs a, expression_at vs b, items_at vs xs) r e))
  conversion-top (Owed a b ∷ xs) r h e = absurd cc
  conversion-top _ r h e = absurd h

  pub sides-top : (xs : List Entry) (r : Tree × Tree × List (MachineItem Tree)) → IsStack tables vs xs → pop_sides strict (items_at vs xs) ≡ Ok r
      → (a b : ℕ) × (ys : List Entry) × TookSides xs a b ys × (r ≡ (expression_at vs a, expression_at vs b, items_at vs ys))
  sides-top [] r h e = absurd cc
  sides-top (Held (Expr n) ∷ xs) r h e =
      from_bind (pop_obligation (items_at vs xs)) _ r e λ o popping e1.
      from_need (same_tree (expression_at vs n) o.0) k.Unfold _ r e1 λ same e2.
      let (a, b, ys, is, of) = owed-top xs o h.1 popping in
      (a, b, ys, inr (n, ap (λ zs. Held (Expr n) ∷ zs) is), sym (taken-is o r e2) ∙ of)
  sides-top (Held (Proof n p) ∷ xs) r h e = absurd cc
  sides-top (Held (Conversion a b c) ∷ xs) r h e = absurd cc
  sides-top (Owed a b ∷ xs) r h e = (a, b, xs, inl refl, sym (taken-is (expression_at vs a, expression_at vs b, items_at vs xs) r e))
  sides-top _ r h e = absurd h

  pub has-exprs : (n : ℕ) (xs : List Entry) (acc : List Tree) (r : List Tree × List (MachineItem Tree)) → IsStack tables vs xs → pop_exprs n (items_at vs xs) acc ≡ Ok r → HasExprs n xs
  has-exprs zero xs acc r h e = ([], xs, refl, refl)
  has-exprs (suc n) [] acc r h e = absurd cc
  has-exprs (suc n) (Held (Expr m) ∷ xs) acc r h e = let (ns, ys, is, many) = has-exprs n xs (expression_at vs m ∷ acc) r h.1 e in (m ∷ ns, ys, ap (λ zs. Held (Expr m) ∷ zs) is, ap suc many)
  has-exprs (suc n) (Held (Proof m p) ∷ xs) acc r h e = absurd cc
  has-exprs (suc n) (Held (Conversion a b c) ∷ xs) acc r h e = absurd cc
  has-exprs (suc n) (Owed a b ∷ xs) acc r h e = absurd cc
  has-exprs (suc n) _ acc r h e = absurd h

  pub exprs-below : (ns : List ℕ) (ys : List Entry) → IsStack tables vs (exprs_onto ns ys) → AreExpressions vs ns × IsStack tables vs ys
  exprs-below [] ys h = (tt, h)
  exprs-below (n ∷ ns) ys h = let (es, rest) = exprs-below ns ys h.1 in ((h.0, es), rest)

  pub proofs-below : (ps : List (ℕ × ℕ)) (ys : List Entry) → IsStack tables vs (proofs_onto ps ys) → AreProofs vs (map second ps) × IsStack tables vs ys
  proofs-below [] ys h = (tt, h)
  proofs-below (p ∷ ps) ys h = let (es, rest) = proofs-below ps ys h.1 in ((h.0.1, es), rest)

-- ---- expressions one after another

module _ (vs : List Value) where
  exprs-turn : (n : ℕ) (ns : List ℕ) (acc : List Tree) → expressions_at vs (reverse ns) ++ (expression_at vs n ∷ acc) ≡ expressions_at vs (reverse (n ∷ ns)) ++ acc
  exprs-turn n ns acc =
      sym (append_assoc (expressions_at vs (reverse ns)) (expression_at vs n ∷ []) acc)
      ∙ ap (λ es. es ++ acc) (sym (map-append (expression_at vs) (reverse ns) (n ∷ [])) ∙ ap (expressions_at vs) (sym (reverse-append (n ∷ []) ns)))

  abbrev popped : List Tree → List (MachineItem Tree) → Result (List Tree × List (MachineItem Tree)) K
  popped es xs = Ok (es, xs)

  pop-onto : (ns : List ℕ) (ys : List Entry) (acc : List Tree) → pop_exprs (length ns) (items_at vs (exprs_onto ns ys)) acc ≡ popped (expressions_at vs (reverse ns) ++ acc) (items_at vs ys)
  pop-onto [] ys acc = refl
  pop-onto (n ∷ ns) ys acc = pop-onto ns ys (expression_at vs n ∷ acc) ∙ ap (λ es. popped es (items_at vs ys)) (exprs-turn n ns acc)

  append-none : {A : Type 0} (xs : List A) → xs ++ [] ≡ xs
  append-none [] = refl
  append-none (x ∷ xs) = ap (λ ys. x ∷ ys) (append-none xs)

  -- the last one on top
  pub pop-operands : (ns : List ℕ) (ys : List Entry) → pop_exprs (length ns) (items_at vs (exprs_onto (reverse ns) ys)) [] ≡ popped (expressions_at vs ns) (items_at vs ys)
  pop-operands ns ys =
      ap (λ n. pop_exprs n (items_at vs (exprs_onto (reverse ns) ys)) []) (sym (length-reverse ns)) ∙ pop-onto (reverse ns) ys []
      ∙ ap (λ es. popped es (items_at vs ys)) (append-none (expressions_at vs (reverse (reverse ns))) ∙ ap (expressions_at vs) (reverse-reverse ns))

  -- the parts that stand there
  pub drop-exprs : (ns : List ℕ) (ys : List Entry) → drop (length ns) (parts_at vs (exprs_onto ns ys)) ≡ parts_at vs ys
  drop-exprs [] ys = refl
  drop-exprs (n ∷ ns) ys = drop-exprs ns ys

  expressions-both : (ns ms : List ℕ) → AreExpressions vs ns → AreExpressions vs ms → AreExpressions vs (ns ++ ms)
  expressions-both [] ms h h' = h'
  expressions-both (n ∷ ns) ms h h' = (h.0, expressions-both ns ms h.1 h')

  turned : (ns : List ℕ) → AreExpressions vs ns → AreExpressions vs (reverse ns)
  turned [] h = tt
  turned (n ∷ ns) h = rw (reverse-append (n ∷ []) ns) (expressions-both (reverse ns) (n ∷ []) (turned ns h.1) (h.0, tt))

  pub unturned : (ns : List ℕ) → AreExpressions vs (reverse ns) → AreExpressions vs ns
  unturned ns h = subst (AreExpressions vs) (reverse-reverse ns) (turned (reverse ns) h)

  -- ---- proofs one after another

  pub drop-proofs : (ps : List (ℕ × ℕ)) (ys : List Entry) → drop (length ps) (parts_at vs (proofs_onto ps ys)) ≡ parts_at vs ys
  drop-proofs [] ys = refl
  drop-proofs (p ∷ ps) ys = drop-proofs ps ys

  abbrev onto : List ℕ → Proofs → Proofs
  onto [] qs = qs
  onto (n ∷ ns) qs = onto ns (more_proofs (proof_at vs n) qs)

  above : (ps : List (ℕ × ℕ)) (ys : List Entry) (qs : Proofs) → proofs_above (length ps) (parts_at vs (proofs_onto ps ys)) qs ≡ onto (map second ps) qs
  above [] ys qs = refl
  above (p ∷ ps) ys qs = above ps ys (more_proofs (proof_at vs p.1) qs)

  onto-both : (ns ms : List ℕ) (qs : Proofs) → onto (ns ++ ms) qs ≡ onto ms (onto ns qs)
  onto-both [] ms qs = refl
  onto-both (n ∷ ns) ms qs = onto-both ns ms (more_proofs (proof_at vs n) qs)

  onto-turned : (ns : List ℕ) → onto (reverse ns) no_proofs ≡ proofs_at vs ns
  onto-turned [] = refl
  onto-turned (n ∷ ns) = ap (λ ms. onto ms no_proofs) (reverse-append (n ∷ []) ns) ∙ onto-both (reverse ns) (n ∷ []) no_proofs ∙ ap (more_proofs (proof_at vs n)) (onto-turned ns)

  -- the last one on top
  pub proofs-are : (ps : List (ℕ × ℕ)) (ns : List ℕ) (ys : List Entry) → map second ps ≡ reverse ns → proofs_above (length ps) (parts_at vs (proofs_onto ps ys)) no_proofs ≡ proofs_at vs ns
  proofs-are ps ns ys is = above ps ys no_proofs ∙ ap (λ ms. onto ms no_proofs) is ∙ onto-turned ns

  proofs-both : (ns ms : List ℕ) → AreProofs vs ns → AreProofs vs ms → AreProofs vs (ns ++ ms)
  proofs-both [] ms h h' = h'
  proofs-both (n ∷ ns) ms h h' = (h.0, proofs-both ns ms h.1 h')

  turned-proofs : (ns : List ℕ) → AreProofs vs ns → AreProofs vs (reverse ns)
  turned-proofs [] h = tt
  turned-proofs (n ∷ ns) h = rw (reverse-append (n ∷ []) ns) (proofs-both (reverse ns) (n ∷ []) (turned-proofs ns h.1) (h.0, tt))

  pub unturned-proofs : (ns : List ℕ) → AreProofs vs (reverse ns) → AreProofs vs ns
  unturned-proofs ns h = subst (AreProofs vs) (reverse-reverse ns) (turned-proofs (reverse ns) h)

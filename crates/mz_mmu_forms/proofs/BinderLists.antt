-- Variables and binders, one after another.
use Rattle.std.proofs.Common.{◌≡◌, ◌∙◌, ℕ, List, [], ◌∷◌, ◌++◌, sym, ap, refl, subst, append_assoc}
use Rattle.mz_base.specs.Checks.{Checks, AllHold}
use Rattle.mz_base.proofs.Offered.{Decides, decides-after}
use Rattle.mz_sexpr.specs.Node.{Node, Nodes, node, parts}
use Rattle.mz_logic_theory.specs.declared.binder.Binder.{Binder}
use Rattle.mz_mmu_theory.specs.declared.fault.Fault.{Fault}
use Rattle.mz_mmu_theory.specs.Name.{HasNumber}
use Rattle.mz_mmu_theory.specs.Expressions.{AreVariables, AreBinders}
use Rattle.mz_mmu_theory.specs.FormOrder.{known_asked, variables_asked, first_word, binders_asked}
use Rattle.mz_mmu_theory.proofs.Offered.{known_holds}

module _ (vars : List (List ℕ)) (left ns : Nodes) (n : Node) (is : left ≡ node n ns) (x : ℕ) (h : HasNumber vars n x) where
  pub variables_read_more : (P : List ℕ → Type 0) (sofar now : List ℕ) → now ≡ sofar ++ x ∷ [] → ((xs : List ℕ) → AreVariables vars left xs → P (sofar ++ xs))
      → (xs : List ℕ) → AreVariables vars ns xs → P (now ++ xs)
  variables_read_more P sofar now pushed read xs r =
      subst P (sym (ap (λ ys. ys ++ xs) pushed ∙ append_assoc sofar (x ∷ []) xs)) (read (x ∷ xs) (subst (λ l. AreVariables vars l (x ∷ xs)) (sym is) (x, xs, h, r, refl)))

  pub variables_asked_more : (whole : Checks Fault) → Decides (variables_asked vars left) whole → Decides (variables_asked vars ns) whole
  variables_asked_more whole d = decides-after (known_asked vars n) (variables_asked vars ns) whole (known_holds vars n x h) (subst (λ l. Decides (variables_asked vars l) whole) is d)

module _ (Is : List (List ℕ) → Node → List ℕ → Binder → Type 0) (asked : List (List ℕ) → Node → Checks Fault)
    (holds : (vars : List (List ℕ)) (n : Node) (w : List ℕ) (b : Binder) → Is vars n w b → AllHold (asked vars n))
    (says : (vars : List (List ℕ)) (n : Node) (w : List ℕ) (b : Binder) → Is vars n w b → w ≡ first_word (parts n))
    (vars later : List (List ℕ)) (left ns : Nodes) (n : Node) (is : left ≡ node n ns) (x : List ℕ) (b : Binder) (h : Is vars n x b) (more_vars : later ≡ vars ++ x ∷ []) where
  pub binders_read_more : (P : List Binder → List (List ℕ) → Type 0) (sofar now : List Binder) → now ≡ sofar ++ b ∷ []
      → ((bs : List Binder) (after : List (List ℕ)) → AreBinders Is vars left bs after → P (sofar ++ bs) after)
      → (bs : List Binder) (after : List (List ℕ)) → AreBinders Is later ns bs after → P (now ++ bs) after
  binders_read_more P sofar now pushed read bs after r =
      subst (λ cs. P cs after) (sym (ap (λ ys. ys ++ bs) pushed ∙ append_assoc sofar (b ∷ []) bs))
      (read (b ∷ bs) after (subst (λ l. AreBinders Is vars l (b ∷ bs) after) (sym is) (x, b, bs, h, subst (λ vs. AreBinders Is vs ns bs after) more_vars r, refl)))

  pub binders_asked_more : (whole : Checks Fault) → Decides (binders_asked asked vars left) whole → Decides (binders_asked asked later ns) whole
  binders_asked_more whole d =
      subst (λ vs. Decides (binders_asked asked vs ns) whole) (sym (more_vars ∙ ap (λ w. vars ++ w ∷ []) (says vars n x b h)))
      (decides-after (asked vars n) (binders_asked asked (vars ++ first_word (parts n) ∷ []) ns) whole (holds vars n x b h) (subst (λ l. Decides (binders_asked asked vars l) whole) is d))

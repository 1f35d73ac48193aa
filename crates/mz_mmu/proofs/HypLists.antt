-- Hypotheses, one after another.
use Rattle.std.proofs.Common.{◌≡◌, ◌∙◌, ℕ, List, [], ◌∷◌, ◌++◌, sym, ap, refl, subst}
use Rattle.mz_base.specs.Checks.{Checks}
use Rattle.mz_base.proofs.Offered.{Decides, decides-after}
use Rattle.mz_sexpr.specs.Node.{Node, Nodes, node, parts}
use Rattle.mz_logic_theory.specs.Tree.{Tree, Trees, more, none, followed_by}
use Rattle.mz_logic_theory.proofs.Offered.{followed_by_push}
use Rattle.mz_mmu_theory.specs.declared.fault.Fault.{Fault}
use Rattle.mz_mmu_theory.specs.Name.{Scope}
use Rattle.mz_mmu_theory.specs.Statements.{IsHyp, AreHyps}
use Rattle.mz_mmu_theory.specs.FormOrder.{first_word, binders_asked}
use Rattle.mz_mmu_theory.specs.StatementOrder.{hyp_asked}
use Rattle.mz_mmu_theory.proofs.Offered.{hyp_holds, hyp_word}

module _ (sc : Scope) (taken later : List (List ℕ)) (left ns : Nodes) (n : Node) (is : left ≡ node n ns) (w : List ℕ) (e : Tree) (h : IsHyp sc taken n w e)
    (more_taken : later ≡ taken ++ w ∷ []) where
  pub hyps_read_more : (P : Trees → List (List ℕ) → Type 0) (sofar now : Trees) → now ≡ followed_by sofar (more e none)
      → ((es : Trees) (after : List (List ℕ)) → AreHyps sc taken left es after → P (followed_by sofar es) after)
      → (es : Trees) (after : List (List ℕ)) → AreHyps sc later ns es after → P (followed_by now es) after
  hyps_read_more P sofar now pushed read es after r =
      subst (λ fs. P fs after) (sym (ap (λ x. followed_by x es) pushed ∙ followed_by_push sofar es e))
      (read (more e es) after (subst (λ l. AreHyps sc taken l (more e es) after) (sym is) (w, e, es, h, subst (λ vs. AreHyps sc vs ns es after) more_taken r, refl)))

  pub hyps_asked_more : (whole : Checks Fault) → Decides (binders_asked (hyp_asked sc) taken left) whole → Decides (binders_asked (hyp_asked sc) later ns) whole
  hyps_asked_more whole d =
      subst (λ vs. Decides (binders_asked (hyp_asked sc) vs ns) whole) (sym (more_taken ∙ ap (λ v. taken ++ v ∷ []) (hyp_word sc taken n w e h)))
      (decides-after (hyp_asked sc taken n) (binders_asked (hyp_asked sc) (taken ++ first_word (parts n) ∷ []) ns) whole (hyp_holds sc taken n w e h)
      (subst (λ l. Decides (binders_asked (hyp_asked sc) taken l) whole) is d))

-- What is asked of a node holds where the node is a statement.
use Rattle.std.proofs.Common.{ℕ, ◌≡◌, inl, inr, List, [], ◌∷◌, ◌++◌, Some, None, refl, sym, ap, ◌∙◌, subst, append_assoc, append-nil}
use Rattle.std.specs.Prelude.{unwrap_or}
use Rattle.mz_base.specs.Checks.{Checks, nothing, ask, demand, ◌>>◌, AllHold, FailsFirst}
use Rattle.mz_base.proofs.Offered.{all_hold-both, Decides, decides-after, fails-before}
use Rattle.mz_sexpr.specs.Node.{Node, Nodes, atom, list, no_nodes, node, word, parts, place}
use Rattle.mz_logic_theory.specs.Tree.{Tree, Trees}
use Rattle.mz_sexpr.specs.declared.rule.U.{U}
use Rattle.mz_mmu_theory.specs.declared.fault.Fault.{Fault}
use Rattle.mz_mmu_theory.specs.declared.fault.Stop.{Stop}
use Rattle.mz_mmu_theory.specs.declared.fault.Stop.TheVariants.{Refused, Mem}
use Rattle.mz_mmu_theory.specs.Stops.{Stops}
use Rattle.mz_base.specs.Names.{IsNew}
use Rattle.mz_mmu_theory.specs.Name.{Scope, IsName}
use Rattle.mz_mmu_theory.specs.Statements.{Modifiers, with_modifier, AreModifiers, IsHyp, AreHyps, AreNamedHyps}
use Rattle.mz_mmu_theory.specs.FormOrder.{fault, new_asked, expr_asked, first_word, names_of, binders_asked}
use Rattle.mz_mmu_theory.specs.StatementOrder.{modifiers_asked, hyp_asked, hyps_asked}
use Rattle.mz_mmu_theory.proofs.Hold.{new_holds, new_name_is, expr_holds}

-- ---- modifiers and hypotheses

pub modifiers_hold : (m after : Modifiers) (ns : Nodes) → AreModifiers m ns after → AllHold (modifiers_asked m ns)
modifiers_hold m after no_nodes h = tt
modifiers_hold m after (node (atom at w) ns) (next, is, r) =
    ((next, is), subst (λ k. AllHold (modifiers_asked k ns)) (sym (ap (λ o. unwrap_or o m) is)) (modifiers_hold next after ns r))
modifiers_hold m after (node (list at _) ns) h = absurd h

pub hyp_holds : (sc : Scope) (taken : List (List ℕ)) (n : Node) (w : List ℕ) (e : Tree) → IsHyp sc taken n w e → AllHold (hyp_asked sc taken n)
hyp_holds sc taken (list at (node y (node f no_nodes))) x e (h, r) = all_hold-both (new_asked taken y) (expr_asked sc f) (new_holds taken y x h) (expr_holds sc f e r)
hyp_holds sc taken _ x e h = absurd h

pub hyp_word : (sc : Scope) (taken : List (List ℕ)) (n : Node) (w : List ℕ) (e : Tree) → IsHyp sc taken n w e → w ≡ first_word (parts n)
hyp_word sc taken (list at (node (atom _ _) (node f no_nodes))) x e h = h.0.0
hyp_word sc taken (list at (node (list _ _) (node f no_nodes))) x e h = absurd h.0
hyp_word sc taken (list at (node y (node f (node _ _)))) x e h = absurd h
hyp_word sc taken _ x e h = absurd h

hyps_hold_from : (sc : Scope) (taken : List (List ℕ)) (ns : Nodes) (es : Trees) (after : List (List ℕ)) → AreHyps sc taken ns es after → AllHold (binders_asked (hyp_asked sc) taken ns)
hyps_hold_from sc taken no_nodes es after h = tt
hyps_hold_from sc taken (node n ns) es after (w, f, fs, h, r, is) =
    all_hold-both (hyp_asked sc taken n) (binders_asked (hyp_asked sc) (taken ++ first_word (parts n) ∷ []) ns) (hyp_holds sc taken n w f h)
    (hyps_hold_from sc (taken ++ first_word (parts n) ∷ []) ns fs after (subst (λ v. AreHyps sc (taken ++ v ∷ []) ns fs after) (hyp_word sc taken n w f h) r))

hyps_named_from : (sc : Scope) (taken : List (List ℕ)) (ns : Nodes) (es : Trees) (after : List (List ℕ)) → AreHyps sc taken ns es after → after ≡ taken ++ names_of ns
hyps_named_from sc taken no_nodes es after h = h.1 ∙ sym (append-nil taken)
hyps_named_from sc taken (node n ns) es after (w, f, fs, h, r, is) =
    hyps_named_from sc (taken ++ w ∷ []) ns fs after r ∙ append_assoc taken (w ∷ []) (names_of ns) ∙ ap (λ v. taken ++ v ∷ names_of ns) (hyp_word sc taken n w f h)

pub hyps_hold : (sc : Scope) (n : Node) (es : Trees) (after : List (List ℕ)) → AreNamedHyps sc n es after → AllHold (hyps_asked sc n) × (after ≡ names_of (parts n))
hyps_hold sc (atom at w) es after h = absurd h
hyps_hold sc (list at ns) es after h = (hyps_hold_from sc [] ns es after h, hyps_named_from sc [] ns es after h)

pub hyp_new : (sc : Scope) (taken : List (List ℕ)) (n : Node) (w : List ℕ) (e : Tree) → IsHyp sc taken n w e → IsName w × IsNew taken w
hyp_new sc taken (list at (node y (node f no_nodes))) x e h = new_name_is taken y x h.0
hyp_new sc taken _ x e h = absurd h

-- ---- modifiers, one after another

module _ (m next : Modifiers) (left ns : Nodes) (n : Node) (is : left ≡ node n ns) (met : with_modifier m (word n) ≡ Some next) where
  modifier_read : (k : Modifiers) → AreModifiers next ns k → AreModifiers m (node n ns) k
  modifier_read k r = go n met
    where
      go : (n : Node) → with_modifier m (word n) ≡ Some next → AreModifiers m (node n ns) k
      go (atom at w) e = (next, e, r)
      go (list at _) e = absurd (let f : None ≡ Some next = e in cc)

  pub modifiers_read_more : (P : Modifiers → Type 0) → ((k : Modifiers) → AreModifiers m left k → P k) → (k : Modifiers) → AreModifiers next ns k → P k
  modifiers_read_more P read k r = read k (subst (λ l. AreModifiers m l k) (sym is) (modifier_read k r))

  pub modifiers_asked_more : (whole : Checks Fault) → Decides (modifiers_asked m left) whole → Decides (modifiers_asked next ns) whole
  modifiers_asked_more whole d =
      subst (λ k. Decides (modifiers_asked k ns) whole) (ap (λ o. unwrap_or o m) met)
      (decides-after (demand (fault (place n) U.Form) ((k : Modifiers) × (with_modifier m (word n) ≡ Some k))) (modifiers_asked (unwrap_or (with_modifier m (word n)) m) ns) whole ((next, met), tt)
      (subst (λ l. Decides (modifiers_asked m l) whole) is d))

pub modifier_stops : (m : Modifiers) (n : Node) (ns : Nodes) (s : Stop) → s ≡ Refused (fault (place n) U.Form) → with_modifier m (word n) ≡ None → Stops s (modifiers_asked m (node n ns))
modifier_stops m n ns s is none =
    subst (λ t. Stops t (modifiers_asked m (node n ns))) (sym is) (inl ((λ k. let f : None ≡ Some k.0 = sym none ∙ k.1 in cc), refl))

-- the first two of three
fails_front : (bs cs ds : Checks Fault) (f : Fault) → FailsFirst (bs >> cs) f → FailsFirst (bs >> (cs >> ds)) f
fails_front nothing cs ds f h = fails-before cs ds f h
fails_front (ask q P bs) cs ds f (inl out) = inl out
fails_front (ask q P bs) cs ds f (inr h) = inr (h.0, fails_front bs cs ds f h.1)

pub stops_front : (s : Stop) (bs cs ds : Checks Fault) → Stops s (bs >> cs) → Stops s (bs >> (cs >> ds))
stops_front (Refused f) bs cs ds h = fails_front bs cs ds f h
stops_front Mem bs cs ds h = tt

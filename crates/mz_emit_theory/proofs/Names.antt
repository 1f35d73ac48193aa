-- Steps only add variables, so what is built keeps its name; and under one naming different expressions have different
-- names.
use Rattle.std.proofs.Common.{◌≡◌, ℕ, zero, suc, Bool, List, [], ◌∷◌, ◌++◌, map, Some, refl, sym, ap, ap₂, subst, ◌∙◌, ◌⊎◌, inl, inr}
use Rattle.std.specs.Prelude.{slice_get, Contains}
use Rattle.mz_cmd.specs.declared.code.ProofCode.{ProofCode}
use Rattle.mz_cmd.specs.declared.code.ProofCode.TheVariants as code
use Rattle.mz_logic_theory.specs.Tree.{Tree, Trees, var, app, none, more}
use Rattle.mz_logic_theory.specs.Signature.{Signature}
use Rattle.mz_logic_theory.specs.Declaration.{Declaration, signatures}
use Rattle.mz_logic_theory.specs.Variables.{Occurs, OccursIn}
use Rattle.mz_logic_theory.specs.declared.binder.Binder.{Binder}
use Rattle.mz_logic_theory.proofs.Offered.{same-variable, same-term, same-operands, same-first, same-rest, no-application, no-trees}
use Rattle.mz_machine_theory.specs.Profile.{Item, expr, proof, obligation, conversion}
use Rattle.mz_machine_theory.proofs.Offered.{some_is}
use Rattle.mz_emit_theory.specs.SymbolicState.{renamed, all_renamed, name_in, Work}
use Rattle.mz_emit_theory.specs.Steps.{IsReferred, Step}
use Rattle.mz_emit_theory.specs.BodyLaws.{AreRightItems, AreRightTrees}
use Rattle.mz_emit_theory.specs.SharedBodies.{top, built, Builds}
use Rattle.mz_emit_theory.proofs.Naming.{one-name}
use Rattle.mz_emit_theory.proofs.Rightness.{trees-more, trees-alike}

-- ---- variables that are met

-- the same, or one more
abbrev MeetsMore : Work → Work → Type 0
MeetsMore w w' = (w'.met ≡ w.met) ⊎ ((x : ℕ) × (w'.met ≡ w.met ++ x ∷ []))

meets-same : (w w' made : Work) → w' ≡ made → made.met ≡ w.met → MeetsMore w w'
meets-same w w' made is same = inl (ap (λ (z : Work). z.met) is ∙ same)

referred-meets : (x : Item Tree) (w w' : Work) → IsReferred x w w' → MeetsMore w w'
referred-meets (expr e) w w' is = meets-same w w' _ is refl
referred-meets (proof e) w w' is = meets-same w w' _ is refl
referred-meets (obligation l r) w w' is = absurd is
referred-meets (conversion l r) w w' (rest, _, is) = meets-same w w' _ is refl

step-meets : (gaps : Bool) (env : List Declaration) (ctx : List Binder) (w : Work) (c : ProofCode) (v : ℕ) (w' : Work) → Step gaps env ctx w c v w' → MeetsMore w w'
step-meets gaps env ctx w code.Term v w' (es, rest, _, is) = meets-same w w' _ is refl
step-meets gaps env ctx w code.TermSave v w' (es, rest, _, is) = meets-same w w' _ is refl
step-meets gaps env ctx w code.Ref v w' (x, _, h) = referred-meets x w w' h
step-meets gaps env ctx w code.ConvRef v w' (l, r, _, h) = referred-meets (conversion l r) w w' h
step-meets gaps env ctx w code.Dummy v w' (x, _, _, _, is) = inr (x, ap (λ (z : Work). z.met) is)
step-meets gaps env ctx w code.Thm v w' (e, rest, _, is) = meets-same w w' _ is refl
step-meets gaps env ctx w code.ThmSave v w' (e, rest, _, is) = meets-same w w' _ is refl
step-meets gaps env ctx w code.Hyp v w' (e, rest, _, _, is) = meets-same w w' _ is refl
step-meets gaps env ctx w code.Conv v w' (l, r, rest, _, is) = meets-same w w' _ is refl
step-meets gaps env ctx w code.Refl v w' (e, rest, _, is) = meets-same w w' _ is refl
step-meets gaps env ctx w code.Symm v w' (l, r, rest, _, is) = meets-same w w' _ is refl
step-meets gaps env ctx w code.Cong v w' (t, ls, rs, rest, _, is) = meets-same w w' _ is refl
step-meets gaps env ctx w code.Unfold v w' (t, es, e, r, rest, _, _, is) = meets-same w w' _ is refl
step-meets gaps env ctx w code.ConvCut v w' (l, r, rest, _, is) = meets-same w w' _ is refl
step-meets gaps env ctx w code.ConvSave v w' (l, r, rest, _, is) = meets-same w w' _ is refl
step-meets gaps env ctx w code.Save v w' (x, rest, _, _, is) = meets-same w w' _ is refl
step-meets gaps env ctx w code.Sorry v w' (_, inl (e, rest, _, _, is)) = meets-same w w' _ is refl
step-meets gaps env ctx w code.Sorry v w' (_, inr (l, r, rest, s, _, _, _, is)) = meets-same w w' _ is refl

module _ (gaps : Bool) (env : List Declaration) (ctx : List Binder) where
  -- right expressions stay so, and keep their names
  abbrev pub Keeps : Work → Work → List Tree → Type 0
  Keeps w w' es = AreRightTrees (signatures env) ctx w'.met es × (map (renamed (name_in w'.met)) es ≡ map (renamed (name_in w.met)) es)

  met-keeps : (w w' : Work) (es : List Tree) → AreRightTrees (signatures env) ctx w.met es → MeetsMore w w' → Keeps w w' es
  met-keeps w w' es right (inl is) = (
    subst (λ (z : List ℕ). AreRightTrees (signatures env) ctx z es) (sym is) right,
    ap (λ (z : List ℕ). map (renamed (name_in z)) es) is,
  )
  met-keeps w w' es right (inr (x, is)) = (
    subst (λ (z : List ℕ). AreRightTrees (signatures env) ctx z es) (sym is) (trees-more (signatures env) ctx w.met x es right),
    ap (λ (z : List ℕ). map (renamed (name_in z)) es) is ∙ trees-alike (signatures env) ctx w.met x es right,
  )

  pub steps-keep-names : (cs : List (ProofCode × ℕ)) (w w' : Work) (bs es : List Tree) → Builds gaps env ctx w cs w' bs → AreRightTrees (signatures env) ctx w.met es → Keeps w w' es
  steps-keep-names [] w w' bs es (is, _) right = met-keeps w w' es right (inl (ap (λ (z : Work). z.met) is))
  steps-keep-names (c ∷ cs) w w' bs es (mid, later, step, builds, _) right =
      let (mid-right, mid-same) = met-keeps w mid es right (step-meets gaps env ctx w c.0 c.1 mid step) in
      let (last-right, last-same) = steps-keep-names cs mid w' later es builds mid-right in
      (last-right, last-same ∙ mid-same)

-- ---- what is built is right

module _ (sigs : List Signature) (ctx : List Binder) (met : List ℕ) where
  right-top : (xs : List (Item Tree)) → AreRightItems sigs ctx met xs → AreRightTrees sigs ctx met (top xs)
  right-top (expr e ∷ xs) (h, _) = (h, tt)
  right-top _ h = tt

  pub right-both : (es fs : List Tree) → AreRightTrees sigs ctx met es → AreRightTrees sigs ctx met fs → AreRightTrees sigs ctx met (es ++ fs)
  right-both [] fs h hs = hs
  right-both (e ∷ es) fs (h, hs) hs' = (h, right-both es fs hs hs')

  pub known-at : (es : List Tree) (i : ℕ) (e : Tree) → AreRightTrees sigs ctx met es → slice_get es i ≡ Some e → (y : ℕ) → Occurs y e → Contains met y
  known-at [] i e h at y o = absurd cc
  known-at (f ∷ es) zero e (h, _) at y o = h.1 y (subst (Occurs y) (sym (some_is refl at)) o)
  known-at (f ∷ es) (suc i) e (_, hs) at y o = known-at es i e hs at y o

pub right-built : (sigs : List Signature) (ctx : List Binder) (c : ProofCode) (w : Work) → AreRightItems sigs ctx w.met w.stack → AreRightTrees sigs ctx w.met (built c w)
right-built sigs ctx code.Term w h = right-top sigs ctx w.met w.stack h
right-built sigs ctx code.TermSave w h = right-top sigs ctx w.met w.stack h
right-built sigs ctx c w h = tt

-- ---- different names

module _ (met : List ℕ) where
  abbrev g : ℕ → ℕ
  g = name_in met

  mutual
    pub one-tree : (a b : Tree) → ((y : ℕ) → Occurs y a → Contains met y) → ((y : ℕ) → Occurs y b → Contains met y) → renamed g a ≡ renamed g b → a ≡ b
    one-tree (var x) (var y) in-a in-b is = ap var (one-name met x y (in-a x refl) (in-b y refl) (same-variable (g x) (g y) is))
    one-tree (var x) (app t es) in-a in-b is = absurd (no-application (g x) t (all_renamed g es) is)
    one-tree (app t es) (var x) in-a in-b is = absurd (no-application (g x) t (all_renamed g es) (sym is))
    one-tree (app t es) (app u fs) in-a in-b is =
        ap₂ app (same-term t u (all_renamed g es) (all_renamed g fs) is) (one-list es fs in-a in-b (same-operands t u (all_renamed g es) (all_renamed g fs) is))

    one-list : (es fs : Trees) → ((y : ℕ) → OccursIn y es → Contains met y) → ((y : ℕ) → OccursIn y fs → Contains met y) → all_renamed g es ≡ all_renamed g fs → es ≡ fs
    one-list none none in-a in-b is = refl
    one-list none (more f fs) in-a in-b is = absurd (no-trees (renamed g f) (all_renamed g fs) is)
    one-list (more e es) none in-a in-b is = absurd (no-trees (renamed g e) (all_renamed g es) (sym is))
    one-list (more e es) (more f fs) in-a in-b is =
        ap₂ more (one-tree e f (λ y o. in-a y (inl o)) (λ y o. in-b y (inl o)) (same-first (renamed g e) (renamed g f) (all_renamed g es) (all_renamed g fs) is))
        (one-list es fs (λ y o. in-a y (inr o)) (λ y o. in-b y (inr o)) (same-rest (renamed g e) (renamed g f) (all_renamed g es) (all_renamed g fs) is))

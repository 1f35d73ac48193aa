-- From one statement to the next.
use Rattle.std.proofs.Common.{◌≡◌, ℕ, ◌<◌, Bool, true, false, List, [], ◌∷◌, ◌++◌, length, Some, refl, sym, ap, subst, ◌∙◌, inl, inr, arith, append-nil, not-suc-le-zero}
use Rattle.std.specs.Prelude.{slice_get, Contains}
use Rattle.std.proofs.lemmas.Option.{slice_get_within}
use Rattle.mz_cmd.specs.declared.code.ProofCode.{ProofCode}
use Rattle.mz_cmd.specs.declared.code.ProofCode.TheVariants as code
use Rattle.mz_logic_theory.specs.Tree.{Tree, var, app, listed}
use Rattle.mz_logic_theory.specs.Declaration.{Term, Assertion, Declaration, sort_decl, term_decl, assertion_decl, sorts, terms, assertions}
use Rattle.mz_logic_theory.specs.declared.binder.Binder.{Binder}
use Rattle.mz_logic_theory.specs.declared.binder.SortMods.{SortMods}
use Rattle.mz_logic_theory.proofs.Offered.{Extends, extends_append, extends_itself, sorts-append, terms-append, assertions-append, split_at}
use Rattle.mz_machine_theory.specs.Spells.{trees_of}
use Rattle.mz_machine_theory.specs.Profile.{Item, expr, proof, obligation, conversion}
use Rattle.mz_machine_theory.specs.MachineState.{Pairwise}
use Rattle.mz_machine_theory.specs.ProofMachine.{sides}
use Rattle.mz_machine_theory.proofs.Offered.{pairs-push}
use Rattle.mz_emit_theory.specs.SymbolicState.{Work}
use Rattle.mz_emit_theory.specs.Steps.{stacked, kept, IsReferred, Step, Steps}
use Rattle.mz_emit_theory.specs.AlphaEquivalence.{IsSameTerm}
use Rattle.mz_emit_theory.specs.BodyMonotonicity.{StepsJoin, StepsKeepTheHeap, ContextsDependOnParams, SameAtFirst, SameWithSort, SameWithTerm, SameWithAssertion}

pub steps-join : StepsJoin
steps-join gaps env ctx [] ds w mid w' is steps = subst (λ (z : Work). Steps gaps env ctx z ds w') is steps
steps-join gaps env ctx (c ∷ cs) ds w mid w' (next, step, front) steps = (next, step, steps-join gaps env ctx cs ds next mid w' front steps)

-- ---- the heap only grows

abbrev Grows : Work → Work → Type 0
Grows w w' = Extends w.heap w'.heap

grows-to : (w w' made : Work) → w' ≡ made → Grows w made → Grows w w'
grows-to w w' made is h = subst (Grows w) (sym is) h

same-heap : (w w' : Work) (xs : List (Item Tree)) → w' ≡ stacked w xs → Grows w w'
same-heap w w' xs is = grows-to w w' (stacked w xs) is (extends_itself w.heap)

more-heap : (w w' made : Work) (x : Item Tree) → w' ≡ made → made.heap ≡ w.heap ++ x ∷ [] → Grows w w'
more-heap w w' made x is heap-is = grows-to w w' made is (subst (Extends w.heap) (sym heap-is) (extends_append w.heap (x ∷ [])))

referred-grows : (x : Item Tree) (w w' : Work) → IsReferred x w w' → Grows w w'
referred-grows (expr e) w w' is = same-heap w w' (expr e ∷ w.stack) is
referred-grows (proof e) w w' is = same-heap w w' (proof e ∷ w.stack) is
referred-grows (obligation l r) w w' is = absurd is
referred-grows (conversion l r) w w' (rest, _, is) = same-heap w w' rest is

step-grows : (gaps : Bool) (env : List Declaration) (ctx : List Binder) (w : Work) (c : ProofCode) (v : ℕ) (w' : Work) → Step gaps env ctx w c v w' → Grows w w'
step-grows gaps env ctx w code.Term v w' (es, rest, _, is) = same-heap w w' (expr (app v (trees_of es)) ∷ rest) is
step-grows gaps env ctx w code.TermSave v w' (es, rest, _, is) = let e : Tree = app v (trees_of es) in more-heap w w' (kept (stacked w (expr e ∷ rest)) (expr e)) (expr e) is refl
step-grows gaps env ctx w code.Ref v w' (x, _, h) = referred-grows x w w' h
step-grows gaps env ctx w code.ConvRef v w' (l, r, _, h) = referred-grows (conversion l r) w w' h
step-grows gaps env ctx w code.Dummy v w' (x, _, _, _, is) = more-heap w w' (record { met = w.met ++ x ∷ []; heap = w.heap ++ expr (var x) ∷ []; stack = expr (var x) ∷ w.stack; hyps = w.hyps }) (expr (var x)) is refl
step-grows gaps env ctx w code.Thm v w' (e, rest, _, is) = same-heap w w' (proof e ∷ rest) is
step-grows gaps env ctx w code.ThmSave v w' (e, rest, _, is) = more-heap w w' (kept (stacked w (proof e ∷ rest)) (proof e)) (proof e) is refl
step-grows gaps env ctx w code.Hyp v w' (e, rest, _, _, is) = more-heap w w' (record { met = w.met; heap = w.heap ++ proof e ∷ []; stack = rest; hyps = w.hyps ++ e ∷ [] }) (proof e) is refl
step-grows gaps env ctx w code.Conv v w' (l, r, rest, _, is) = same-heap w w' (obligation l r ∷ proof l ∷ rest) is
step-grows gaps env ctx w code.Refl v w' (e, rest, _, is) = same-heap w w' rest is
step-grows gaps env ctx w code.Symm v w' (l, r, rest, _, is) = same-heap w w' (obligation r l ∷ rest) is
step-grows gaps env ctx w code.Cong v w' (t, ls, rs, rest, _, is) = same-heap w w' (sides (listed ls) (listed rs) rest) is
step-grows gaps env ctx w code.Unfold v w' (t, es, e, r, rest, _, _, is) = same-heap w w' (obligation e r ∷ rest) is
step-grows gaps env ctx w code.ConvCut v w' (l, r, rest, _, is) = same-heap w w' (obligation l r ∷ conversion l r ∷ rest) is
step-grows gaps env ctx w code.ConvSave v w' (l, r, rest, _, is) = more-heap w w' (kept (stacked w rest) (conversion l r)) (conversion l r) is refl
step-grows gaps env ctx w code.Save v w' (x, rest, _, _, is) = more-heap w w' (kept w x) x is refl
step-grows gaps env ctx w code.Sorry v w' (_, inl (e, rest, _, _, is)) = same-heap w w' (proof e ∷ rest) is
step-grows gaps env ctx w code.Sorry v w' (_, inr (l, r, rest, s, _, _, _, is)) = same-heap w w' rest is

pub steps-keep : StepsKeepTheHeap
steps-keep gaps env ctx [] w w' is i x at = subst (λ (z : Work). slice_get z.heap i ≡ Some x) (sym is) at
steps-keep gaps env ctx (c ∷ cs) w w' (mid, step, steps) i x at = steps-keep gaps env ctx cs mid w' steps i x (step-grows gaps env ctx w c.0 c.1 mid step i x at)

none-in : (xs : List ℕ) (z : ℕ) → xs ≡ [] → Contains xs z → ⊥
none-in [] z is (k, lt, _) = not-suc-le-zero lt
none-in (x ∷ xs) z is has = cc

pub contexts-depend : ContextsDependOnParams
contexts-depend ss params dummies right plain-ones y b z at has = elim (split_at params dummies y b at) [
  | inl here ↦ go b.bound refl here (slice_get_within params y b here)
  | inr (k, is, there) ↦ absurd (none-in b.deps z (plain-ones k b there) has)
]
  where
    go : (t : Bool) → b.bound ≡ t → slice_get params y ≡ Some b → y < length params → z < length params
    go true bound here lt = absurd (none-in b.deps z ((right y b here).0 bound).0 has)
    go false regular here lt =
        let (k, k-lt, is) = has in
        let (below, _) = (right y b here).1 regular k z k-lt in
        let z-below : z < y = subst (λ (w : ℕ). w < y) is below in
        omega arith

terms-same : (env env' more more' : List Declaration) → Pairwise IsSameTerm (terms env ++ terms more) (terms env' ++ terms more') → Pairwise IsSameTerm (terms (env ++ more)) (terms (env' ++ more'))
terms-same env env' more more' h =
    subst (λ (z : List Term). Pairwise IsSameTerm z (terms (env' ++ more'))) (sym (terms-append env more))
    (subst (λ (z : List Term). Pairwise IsSameTerm (terms env ++ terms more) z) (sym (terms-append env' more')) h)

stay : (env env' more more' : List Declaration) → terms more ≡ [] → terms more' ≡ [] → Pairwise IsSameTerm (terms env) (terms env') → Pairwise IsSameTerm (terms (env ++ more)) (terms (env' ++ more'))
stay env env' more more' none none' h =
    terms-same env env' more more'
    (subst (λ (z : List Term). Pairwise IsSameTerm z (terms env' ++ terms more')) (sym (ap (λ (q : List Term). terms env ++ q) none ∙ append-nil (terms env)))
    (subst (λ (z : List Term). Pairwise IsSameTerm (terms env) z) (sym (ap (λ (q : List Term). terms env' ++ q) none' ∙ append-nil (terms env'))) h))

sorts-same : (env env' more more' : List Declaration) → sorts env ≡ sorts env' → sorts more ≡ sorts more' → sorts (env ++ more) ≡ sorts (env' ++ more')
sorts-same env env' more more' a b = sorts-append env more ∙ ap (λ (z : List SortMods). z ++ sorts more) a ∙ ap (λ (z : List SortMods). sorts env' ++ z) b ∙ sym (sorts-append env' more')

assertions-same : (env env' more more' : List Declaration) → assertions env ≡ assertions env' → assertions more ≡ assertions more' → assertions (env ++ more) ≡ assertions (env' ++ more')
assertions-same env env' more more' a b =
    assertions-append env more ∙ ap (λ (z : List Assertion). z ++ assertions more) a ∙ ap (λ (z : List Assertion). assertions env' ++ z) b ∙ sym (assertions-append env' more')

pub same-at-first : SameAtFirst
same-at-first = record { sorts_are = refl; terms_are = tt; assertions_are = refl }

pub same-with-sort : SameWithSort
same-with-sort env env' m same = record {
  sorts_are = sorts-same env env' (sort_decl m ∷ []) (sort_decl m ∷ []) same.sorts_are refl;
  terms_are = stay env env' (sort_decl m ∷ []) (sort_decl m ∷ []) refl refl same.terms_are;
  assertions_are = assertions-same env env' (sort_decl m ∷ []) (sort_decl m ∷ []) same.assertions_are refl;
}

pub same-with-term : SameWithTerm
same-with-term env env' d d' same is = record {
  sorts_are = sorts-same env env' (term_decl d ∷ []) (term_decl d' ∷ []) same.sorts_are refl;
  terms_are = terms-same env env' (term_decl d ∷ []) (term_decl d' ∷ []) (pairs-push IsSameTerm (terms env) (terms env') d d' same.terms_are is);
  assertions_are = assertions-same env env' (term_decl d ∷ []) (term_decl d' ∷ []) same.assertions_are refl;
}

pub same-with-assertion : SameWithAssertion
same-with-assertion env env' a same = record {
  sorts_are = sorts-same env env' (assertion_decl a ∷ []) (assertion_decl a ∷ []) same.sorts_are refl;
  terms_are = stay env env' (assertion_decl a ∷ []) (assertion_decl a ∷ []) refl refl same.terms_are;
  assertions_are = assertions-same env env' (assertion_decl a ∷ []) (assertion_decl a ∷ []) same.assertions_are refl;
}

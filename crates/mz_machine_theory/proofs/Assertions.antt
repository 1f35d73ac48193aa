-- An axiom or theorem whose body runs is legal, as its row spells it; a theorem has a derivation.
use Rattle.std.proofs.Common.{◌≡◌, ℕ, zero, suc, ◌+◌, Bool, true, false, List, [], ◌∷◌, ◌++◌, length, Some, Ok, refl, sym, ap, subst, arith}
use Rattle.std.specs.Prelude.{slice_get, reverse}
use Rattle.std.proofs.lemmas.List.{reverse-append}
use Rattle.mz_cmd.specs.declared.rule.K.TheVariants as k
use Rattle.mz_logic_theory.specs.Tree.{Tree, var, listed}
use Rattle.mz_logic_theory.specs.Signature.{Signature}
use Rattle.mz_logic_theory.specs.Declaration.{Assertion, Declaration, assertion_decl, sorts, signatures}
use Rattle.mz_logic_theory.specs.Sorts.{HasProvable, AreProvable}
use Rattle.mz_logic_theory.specs.Legality.{IsLegalDecl, IsLegalEnv}
use Rattle.mz_logic_theory.specs.Derivations.{Uses, Derives}
use Rattle.mz_logic_theory.specs.LegalLists.{IsProvedBy}
use Rattle.mz_logic_theory.specs.declared.binder.Binder.{Binder}
use Rattle.mz_logic_theory.proofs.Offered.{assertions_are_sorted, derived_has_provable}
use Rattle.mz_machine_theory.specs.Streams.{of_assertion}
use Rattle.mz_machine_theory.specs.Spells.{trees_of, variables_from, Text, SpellsThm}
use Rattle.mz_machine_theory.specs.Profile.{plain, strict, Item, expr, proof}
use Rattle.mz_machine_theory.specs.Sorted.{Sorted, AllSorted, ItemsSorted}
use Rattle.mz_machine_theory.specs.UnifyMachine.{UnifyMode, at_end, Matching, UnifyState, unify}
use Rattle.mz_machine_theory.proofs.Inverting.{from_bind, from_need, rule_of-ok, taken-is}
use Rattle.mz_machine_theory.proofs.Trees.{listed-trees_of}
use Rattle.mz_machine_theory.proofs.OwnStream.{assertion-spelled}
use Rattle.mz_machine_theory.proofs.Below.{Below, EachBelow, text-met}
use Rattle.mz_machine_theory.specs.MachineState.{RowsBefore, signatures_in, State, Kind, is_axiom, is_theorem, Heading, Declares}
use Rattle.mz_machine_theory.specs.ProofMachine.{last_item, ending, own_variables, own_stream, as_proofs, has_provable_sort, matched_by, ends_with, proof_end}
use Rattle.mz_machine_theory.specs.Bodies.{body_run}
use Rattle.mz_machine_theory.specs.Invariant.{Derivable, StackHolds, AreProvableClaims, Fact}
use Rattle.mz_machine_theory.specs.Sound.{used_by, cites_as, AreRowParams, thm_row}
use Rattle.mz_machine_theory.proofs.Declared.{signatures-are}
use Rattle.mz_machine_theory.proofs.RowsKeep.{claim}
use Rattle.mz_machine_theory.proofs.WholeBody.{body-fact}
use Rattle.mz_machine_theory.proofs.Renaming.{sort-over-params}

-- ---- what the END matched

pub own-are : (i : ℕ) (ps : List Binder) → own_variables strict i ps ≡ variables_from i ps
own-are i [] = refl
own-are i (p ∷ ps) = ap (λ (z : List Tree). var i ∷ z) (own-are (suc i) ps)

-- the item that is left, and what the row's stream ran on
pub end-ran : {G : Type 0} (tables : RowsBefore) (h : Heading) (last : State Tree) → proof_end strict tables h last ≡ Ok last
    → ((e : Tree) (m : Matching Tree) (u : UnifyState Tree) → last_item h.kind last.stack ≡ Ok e → ending strict tables h last h.kind e ≡ Ok m → unify strict (signatures_in tables) last.ctx m ≡ Ok u → G) → G
unfolding proof_end ends_with
end-ran tables h last done go =
    from_bind (ends_with strict tables h last) _ last done λ m m-is e1.
    from_bind (matched_by strict tables last.ctx m) _ last e1 λ u unified e2.
    from_bind (last_item h.kind last.stack) _ m m-is λ e e-is e3.
    go e m u e-is e3 (rule_of-ok _ u unified)

-- what runs as a row's own stream, over the environment's signatures and the parameters as variables
pub own-run : (tables : RowsBefore) (env : List Declaration) → Declares tables env → (h : Heading) (ctx : List Binder) (mode : UnifyMode) (e : Tree) (items : List (Item Tree)) (m : Matching Tree) (u : UnifyState Tree)
    → own_stream strict h mode e items ≡ m → unify strict (signatures_in tables) ctx m ≡ Ok u
    → unify strict (signatures env) ctx (record { mode = mode; stream = h.stream; operands = variables_from 0 h.params; target = e; items = items }) ≡ Ok u
own-run tables env declares h ctx mode e items m u is ran =
    subst (λ (z : List Tree). unify strict (signatures env) ctx (record { mode = mode; stream = h.stream; operands = z; target = e; items = items }) ≡ Ok u) (own-are 0 h.params)
    (subst (λ (z : List Signature). unify strict z ctx (own_stream strict h mode e items) ≡ Ok u) (signatures-are tables env declares)
    (subst (λ (z : Matching Tree). unify strict (signatures_in tables) ctx z ≡ Ok u) (sym is) ran))

-- ---- claims

pub claims-sorted : (env : List Declaration) (ctx : List Binder) (es : List Tree) → AreProvableClaims env ctx es → AllSorted (signatures env) ctx es
claims-sorted env ctx [] h = tt
claims-sorted env ctx (e ∷ es) ((s, has, _), hs) = ((s, has), claims-sorted env ctx es hs)

claim-at : (env : List Declaration) (ctx : List Binder) (es : List Tree) → AreProvableClaims env ctx es → (i : ℕ) (e : Tree) → slice_get es i ≡ Some e → HasProvable env ctx e
claim-at env ctx [] h i e at = absurd cc
claim-at env ctx (f ∷ es) (h, hs) zero e at = let is : f ≡ e = cc in subst (HasProvable env ctx) is h
claim-at env ctx (f ∷ es) (h, hs) (suc i) e at = claim-at env ctx es hs i e at

claims-provable : (env : List Declaration) (ctx : List Binder) (es : List Tree) → AreProvableClaims env ctx es → AreProvable env ctx (trees_of es)
claims-provable env ctx es h i e at = claim-at env ctx es h i e (subst (λ (z : List Tree). slice_get z i ≡ Some e) (listed-trees_of es) at)

below-split : (n : ℕ) (xs : List Tree) (y : Tree) → EachBelow n (xs ++ y ∷ []) → EachBelow n xs × Below n y
below-split n [] y (b, _) = (tt, b)
below-split n (x ∷ xs) y (b, bs) = let (rest, last) = below-split n xs y bs in ((b, rest), last)

below-reverse : (n : ℕ) (xs : List Tree) → EachBelow n (reverse xs) → EachBelow n xs
below-reverse n [] h = tt
below-reverse n (x ∷ xs) h = let (rest, last) = below-split n (reverse xs) x (subst (EachBelow n) (reverse-append (x ∷ []) xs) h) in (last, below-reverse n xs rest)

claim-over-params : (env : List Declaration) (params dummies : List Binder) (e : Tree) → Below (length params) e → HasProvable env (params ++ dummies) e → HasProvable env params e
claim-over-params env params dummies e below (s, h, provable) = (s, sort-over-params (signatures env) params dummies e s below h, provable)

claims-over-params : (env : List Declaration) (params dummies : List Binder) (es : List Tree) → EachBelow (length params) es → AreProvableClaims env (params ++ dummies) es → AreProvableClaims env params es
claims-over-params env params dummies [] below h = tt
claims-over-params env params dummies (e ∷ es) (b, bs) (h, hs) = (claim-over-params env params dummies e b h, claims-over-params env params dummies es bs hs)

-- ---- assertions

-- the row's assertion: the body's hypotheses and what it ends with
abbrev pub made : Heading → Bool → State Tree → Tree → Assertion
made h without_proof last e = record { is_axiom = without_proof; params = h.params; hyps = trees_of last.hyps; conclusion = e }

-- the row spells it, and it is legal where the conclusion has a provable sort
pub made-legal : (tables : RowsBefore) (env : List Declaration) (declares : Declares tables env) (h : Heading) (without_proof : Bool) (P : Uses) (last : State Tree) (e : Tree) (m : Matching Tree) (u : UnifyState Tree)
    → AreRowParams (sorts env) h.params → Fact P env h.params last.ctx last → HasProvable env last.ctx e
    → own_stream strict h at_end e (as_proofs last.hyps) ≡ m → unify strict (signatures_in tables) last.ctx m ≡ Ok u
    → SpellsThm (signatures env) (thm_row h) (made h without_proof last e) × IsLegalDecl env (assertion_decl (made h without_proof last e))
made-legal tables env declares h without_proof P last e m u (there, params-right) fact (s, e-sort, provable) m-is ran =
    let (dummies, ctx-is, _) = fact.context in
    let text : Text of_assertion (signatures env) h.params h.stream (trees_of last.hyps) e [] =
    assertion-spelled (signatures env) last.ctx h.params h.stream e last.hyps u (own-run tables env declares h last.ctx at_end e (as_proofs last.hyps) m u m-is ran) (s, e-sort) (claims-sorted env last.ctx last.hyps fact.hyps_provable) in
    let (e-below, hyps-below) = text-met of_assertion (signatures env) h.params h.stream (trees_of last.hyps) e [] text in
    let n-is : length h.params + 0 ≡ length h.params = omega arith in
    let e-below' : Below (length h.params) e = subst (λ (n : ℕ). Below n e) n-is e-below in
    let hyps-below' : EachBelow (length h.params) last.hyps =
    below-reverse (length h.params) last.hyps (subst (λ (z : List Tree). EachBelow (length h.params) (reverse z)) (listed-trees_of last.hyps) (subst (λ (n : ℕ). EachBelow n (reverse (listed (trees_of last.hyps)))) n-is hyps-below)) in
    let hyps-claims : AreProvableClaims env h.params last.hyps = claims-over-params env h.params dummies last.hyps hyps-below' (subst (λ (c : List Binder). AreProvableClaims env c last.hyps) ctx-is fact.hyps_provable) in
    let e-claim : HasProvable env h.params e = claim-over-params env h.params dummies e e-below' (subst (λ (c : List Binder). HasProvable env c e) ctx-is (s, e-sort, provable)) in
    ((refl, text), (assertions_are_sorted env (made h without_proof last e)).1 (there, params-right, claims-provable env h.params last.hyps hyps-claims, e-claim))

-- ---- theorems

last-proved : (P : Uses) (env : List Declaration) (full : List Binder) (ctx : List Binder) (hyps : List Tree) (xs : List (Item Tree)) (e : Tree) → last_item is_theorem xs ≡ Ok e → StackHolds P env full hyps xs → Derivable P env full hyps e
last-proved P env full ctx hyps (proof x ∷ []) e is (d, _) = subst (Derivable P env full hyps) (taken-is x e is) d
last-proved P env full ctx hyps _ e is h = absurd cc

last-expr : (sigs : List Signature) (ctx : List Binder) (xs : List (Item Tree)) (e : Tree) → last_item is_axiom xs ≡ Ok e → ItemsSorted sigs ctx xs → Sorted sigs ctx e
last-expr sigs ctx (expr x ∷ []) e is (s, _) = subst (Sorted sigs ctx) (taken-is x e is) s
last-expr sigs ctx _ e is h = absurd cc

pub theorem-legal : (gaps : Bool) (tables : RowsBefore) (env : List Declaration) → IsLegalEnv env → Declares tables env → (h : Heading) (at : ℕ) (bytes : List ℕ) (last : State Tree)
    → h.kind ≡ is_theorem → AreRowParams (sorts env) h.params → body_run (plain gaps) tables h at bytes ≡ Ok last
    → (a : Assertion) × (a.is_axiom ≡ false) × SpellsThm (signatures env) (thm_row h) a × IsLegalDecl env (assertion_decl a) × IsProvedBy (cites_as gaps bytes) env a
theorem-legal gaps tables env legal declares h at bytes last kind right run-is =
    let (fact, done) = body-fact gaps tables env declares h at bytes last run-is in
    end-ran tables h last done λ e m u e-is ending-is ran.
    let m-is : own_stream strict h at_end e (as_proofs last.hyps) ≡ m = taken-is _ m (subst (λ (z : Kind). ending strict tables h last z e ≡ Ok m) kind ending-is) in
    let (d, cites, derives) = last-proved (used_by gaps env bytes) env last.ctx last.ctx last.hyps last.stack e (subst (λ (z : Kind). last_item z last.stack ≡ Ok e) kind e-is) fact.stack_holds in
    let claim-is : HasProvable env last.ctx e = derived_has_provable env legal last.ctx (trees_of last.hyps) (claims-provable env last.ctx last.hyps fact.hyps_provable) d e derives in
    let (dummies, ctx-is, are) = fact.context in
    let (spells, is-legal) = made-legal tables env declares h false (used_by gaps env bytes) last e m u right fact claim-is m-is ran in
    (made h false last e, refl, spells, is-legal, (dummies, are, (d, cites, subst (λ (c : List Binder). Derives env c (trees_of last.hyps) d e) ctx-is derives)))

pub axiom-legal : (gaps : Bool) (tables : RowsBefore) (env : List Declaration) → Declares tables env → (h : Heading) (at : ℕ) (bytes : List ℕ) (last : State Tree)
    → h.kind ≡ is_axiom → AreRowParams (sorts env) h.params → body_run (plain gaps) tables h at bytes ≡ Ok last
    → (a : Assertion) × (a.is_axiom ≡ true) × SpellsThm (signatures env) (thm_row h) a × IsLegalDecl env (assertion_decl a)
axiom-legal gaps tables env declares h at bytes last kind right run-is =
    let (fact, done) = body-fact gaps tables env declares h at bytes last run-is in
    end-ran tables h last done λ e m u e-is ending-is ran.
    from_need (has_provable_sort strict tables last.ctx e) k.NotProvable _ m (subst (λ (z : Kind). ending strict tables h last z e ≡ Ok m) kind ending-is) λ provable e1.
    let sorted : Sorted (signatures env) last.ctx e = last-expr (signatures env) last.ctx last.stack e (subst (λ (z : Kind). last_item z last.stack ≡ Ok e) kind e-is) fact.stack_sorted in
    let claim-is : HasProvable env last.ctx e = claim (used_by gaps env bytes) tables env declares h.params last.ctx last.ctx e sorted provable in
    let (spells, is-legal) = made-legal tables env declares h true (used_by gaps env bytes) last e m u right fact claim-is (taken-is (own_stream strict h at_end e (as_proofs last.hyps)) m e1) ran in
    (made h true last e, refl, spells, is-legal)

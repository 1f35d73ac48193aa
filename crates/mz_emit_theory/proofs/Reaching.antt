-- Every legal statement has steps: one command after another, without sharing.
use Rattle.std.proofs.Common.{◌≡◌, ℕ, zero, suc, ◌+◌, ◌<◌, ◌≤◌, Bool, true, false, List, [], ◌∷◌, ◌++◌, length, map, Some, refl, sym, ap, subst, ◌∙◌, inl, inr, arith, append_assoc, append-nil, ltb, ltb-false}
use Rattle.std.specs.Prelude.{slice_get, All, Contains, reverse}
use Rattle.std.proofs.lemmas.Bool.{ltb-true}
use Rattle.std.proofs.lemmas.List.{reverse-append, map-append}
use Rattle.std.proofs.lemmas.List.Elements.{Contains-append_left, Contains-append_cases}
use Rattle.std.proofs.lemmas.Option.{slice_get_within}
use Rattle.mz_base.proofs.Offered.{slice_get-last, contains-decided}
use Rattle.mz_cmd.specs.declared.code.ProofCode.{ProofCode}
use Rattle.mz_cmd.specs.declared.code.ProofCode.TheVariants as code
use Rattle.mz_logic_theory.specs.Tree.{Tree, Trees, var, app, none, more, listed, instance, instances, followed_by, variables}
use Rattle.mz_logic_theory.specs.Declaration.{Form, Declaration, dummies_of, body_of, sorts, signatures}
use Rattle.mz_logic_theory.specs.Modifiers.{MayBeDummySort}
use Rattle.mz_logic_theory.specs.Sorts.{HasSort, Fits, HasProvable, AreProvable}
use Rattle.mz_logic_theory.specs.Variables.{InFV, AreDisjoint}
use Rattle.mz_logic_theory.specs.Legality.{EachTree, IsDummy, IsLegalEnv}
use Rattle.mz_logic_theory.specs.Conversions.{Conversion, Conversions, refl_conv, sym_conv, cong_conv, unfold_conv, gap_conv, no_convs, more_convs, AreFresh, Between, AllBetween, GapsOnly, AllGapsOnly}
use Rattle.mz_logic_theory.specs.Derivations.{Derivation, Derivations, hypothesis, cite, convert, gap, no_derivs, more_derivs, Derives, AllDerive, CitesOnly, AllCiteOnly, Uses}
use Rattle.mz_logic_theory.specs.LegalLists.{AreDummies}
use Rattle.mz_logic_theory.specs.declared.binder.Binder.{Binder}
use Rattle.mz_logic_theory.specs.declared.binder.SortMods.{SortMods}
use Rattle.mz_logic_theory.proofs.Offered.{Extends, extends_append, extends_itself, sort_extends, split_at, derived_has_provable, assertions_are_sorted, terms_are_sorted, each_from_all, sorted_sides as between-sorted}
use Rattle.mz_machine_theory.specs.Spells.{trees_of, variables_from, dummy_of}
use Rattle.mz_machine_theory.specs.Sorted.{Sorted}
use Rattle.mz_machine_theory.specs.Profile.{Item, expr, proof, obligation}
use Rattle.mz_machine_theory.proofs.Offered.{trees_of-listed}
use Rattle.mz_machine_theory.specs.ProofMachine.{sides}
use Rattle.mz_emit_theory.specs.SymbolicState.{Work, work_start}
use Rattle.mz_emit_theory.specs.Steps.{stacked, above, IsCited, IsUnfolding, Step, Steps}
use Rattle.mz_emit_theory.specs.BodyLaws.{IsRight}
use Rattle.mz_emit_theory.specs.Completeness.{LegalAxiomsHaveSteps, LegalTheoremsHaveSteps, LegalDefinitionsHaveSteps}
use Rattle.mz_emit_theory.proofs.Allowed.{used_with, allowed-uses}
use Rattle.mz_emit_theory.proofs.Joining.{steps-join}
use Rattle.mz_emit_theory.proofs.Starting.{start-right, within}

-- one more operand under the others
pub above-more : (e : Tree) (es : List Tree) (xs : List (Item Tree)) → above es (expr e ∷ xs) ≡ above (e ∷ es) xs
above-more e es xs =
    sym (ap (λ (z : List Tree). map expr z ++ xs) (reverse-append (e ∷ []) es)
    ∙ ap (λ (z : List (Item Tree)). z ++ xs) (map-append expr (reverse es) (e ∷ []))
    ∙ append_assoc (map expr (reverse es)) (expr e ∷ []) xs)

pub proofs-more : (e : Tree) (es : List Tree) (xs : List (Item Tree)) → map proof (reverse es) ++ proof e ∷ xs ≡ map proof (reverse (e ∷ es)) ++ xs
proofs-more e es xs =
    sym (ap (λ (z : List Tree). map proof z ++ xs) (reverse-append (e ∷ []) es)
    ∙ ap (λ (z : List (Item Tree)). z ++ xs) (map-append proof (reverse es) (e ∷ []))
    ∙ append_assoc (map proof (reverse es)) (proof e ∷ []) xs)

module _ (gaps : Bool) (env : List Declaration) (ctx : List Binder) (n : ℕ)
    (dummies-fine : (x : ℕ) (b : Binder) → slice_get ctx x ≡ Some b → n ≤ x → (b ≡ dummy_of b.sort) × MayBeDummySort (sorts env) b.sort) where
  -- each variable that is met is in the heap, and the parameters are met
  pub record Ready (w : Work) : Type 0 where
    pub findable : (x : ℕ) → Contains w.met x → (i : ℕ) × (slice_get w.heap i ≡ Some (expr (var x)))
    pub params_met : (x : ℕ) → x < n → Contains w.met x

  -- steps that leave this stack and these hypotheses
  pub record Made (w : Work) (xs : List (Item Tree)) (hs : List Tree) : Type 0 where
    pub commands : List (ProofCode × ℕ)
    pub work : Work
    pub steps : Steps gaps env ctx w commands work
    pub stack : work.stack ≡ xs
    pub hyps : work.hyps ≡ hs
    pub ready : Ready work
    pub grows : Extends w.heap work.heap

  one : (w w' : Work) (c : ProofCode) (v : ℕ) → Step gaps env ctx w c v w' → Ready w' → Extends w.heap w'.heap → Made w w'.stack w'.hyps
  one w w' c v step ready grows = record { commands = (c, v) ∷ []; work = w'; steps = (w', step, refl); stack = refl; hyps = refl; ready = ready; grows = grows }

  then : (w : Work) (xs ys : List (Item Tree)) (hs : List Tree) (m : Made w xs hs) → Made m.work ys m.work.hyps → Made w ys hs
  then w xs ys hs m k = record {
    commands = m.commands ++ k.commands;
    work = k.work;
    steps = steps-join gaps env ctx m.commands k.commands w m.work k.work m.steps k.steps;
    stack = k.stack;
    hyps = k.hyps ∙ m.hyps;
    ready = k.ready;
    grows = λ i x at. k.grows i x (m.grows i x at);
  }

  leaving : (w : Work) (xs ys : List (Item Tree)) (hs : List Tree) → Made w xs hs → xs ≡ ys → Made w ys hs
  leaving w xs ys hs m is = record { commands = m.commands; work = m.work; steps = m.steps; stack = m.stack ∙ is; hyps = m.hyps; ready = m.ready; grows = m.grows }

  -- a command that changes the stack alone
  turned : (w : Work) (xs : List (Item Tree)) (c : ProofCode) (v : ℕ) → Ready w → Step gaps env ctx w c v (stacked w xs) → Made w xs w.hyps
  turned w xs c v ready step = one w (stacked w xs) c v step (record { findable = ready.findable; params_met = ready.params_met }) (extends_itself w.heap)

  -- ---- expressions

  push-var : (x : ℕ) (b : Binder) → slice_get ctx x ≡ Some b → (w : Work) → Ready w → Made w (expr (var x) ∷ w.stack) w.hyps
  push-var x b at w ready = elim (contains-decided w.met x) [
    | inl has ↦ (let (i, i-at) = ready.findable x has in turned w (expr (var x) ∷ w.stack) code.Ref i ready (expr (var x), i-at, refl))
    | inr out ↦ meet out
  ]
    where
      meet : (Contains w.met x → ⊥) → Made w (expr (var x) ∷ w.stack) w.hyps
      meet out =
          let later : n ≤ x = not-below (ltb x n) refl in
          let (b-is, sort) = dummies-fine x b at later in
          let next : Work = record { met = w.met ++ x ∷ []; heap = w.heap ++ expr (var x) ∷ []; stack = expr (var x) ∷ w.stack; hyps = w.hyps } in
          one w next code.Dummy b.sort (x, at ∙ ap (λ (z : Binder). Some z) b-is, sort, out, refl)
          (record {
            findable = λ y has. elim (Contains-append_cases w.met (x ∷ []) y has) [
              | inl before ↦ (let (i, i-at) = ready.findable y before in (i, extends_append w.heap (expr (var x) ∷ []) i (expr (var y)) i-at))
              | inr last ↦ (length w.heap, slice_get-last w.heap (expr (var x)) ∙ ap (λ (z : ℕ). Some (expr (var z))) (only x y last))
            ];
            params_met = λ y lt. Contains-append_left w.met (x ∷ []) y (ready.params_met y lt);
          }) (extends_append w.heap (expr (var x) ∷ []))
        where
          not-below : (t : Bool) → ltb x n ≡ t → n ≤ x
          not-below true is = absurd (out (ready.params_met x (ltb-true x n is)))
          not-below false is = ltb-false x n is

          only : (a c : ℕ) → Contains (a ∷ []) c → a ≡ c
          only a c (zero, lt, is) = is
          only a c (suc k, lt, is) = absurd (omega arith)

  mutual
    push : (e : Tree) (s : ℕ) → HasSort (signatures env) ctx e s → (w : Work) → Ready w → Made w (expr e ∷ w.stack) w.hyps
    push (var x) s (b, at, _) w ready = push-var x b at w ready
    push (app t es) s (d, at, is, fits) w ready =
        let m = push-all es d.params fits w ready in
        let e' : Tree = app t (trees_of (listed es)) in
        let sorted : Sorted (signatures env) ctx e' = subst (λ (z : Trees). Sorted (signatures env) ctx (app t z)) (sym (trees_of-listed es)) (s, (d, at, is, fits)) in
        let k = turned m.work (expr e' ∷ w.stack) code.Term t m.ready (listed es, w.stack, (sorted, m.stack), refl) in
        leaving w (expr e' ∷ w.stack) (expr (app t es) ∷ w.stack) w.hyps (then w (above (listed es) w.stack) (expr e' ∷ w.stack) w.hyps m k)
        (ap (λ (z : Trees). expr (app t z) ∷ w.stack) (trees_of-listed es))

    push-all : (es : Trees) (ps : List Binder) → Fits (signatures env) ctx es ps → (w : Work) → Ready w → Made w (above (listed es) w.stack) w.hyps
    push-all none ps fits w ready = record { commands = []; work = w; steps = refl; stack = refl; hyps = refl; ready = ready; grows = extends_itself w.heap }
    push-all (more e es) [] fits w ready = absurd fits
    push-all (more e es) (p ∷ ps) (has, _, fits) w ready =
        let m = push e p.sort has w ready in
        let k = push-all es ps fits m.work m.ready in
        leaving w (above (listed es) m.work.stack) (above (e ∷ listed es) w.stack) w.hyps (then w (expr e ∷ w.stack) (above (listed es) m.work.stack) w.hyps m k)
        (ap (above (listed es)) m.stack ∙ above-more e (listed es) w.stack)

  -- ---- conversions

  mutual
    pay : (c : Conversion) → GapsOnly (gaps ≡ true) c → (l r : Tree) → Between env ctx c l r → (w : Work) (rest : List (Item Tree)) → w.stack ≡ obligation l r ∷ rest → Ready w → Made w rest w.hyps
    pay (refl_conv e) may l r (_, _, l-is, r-is) w rest on ready =
        turned w rest code.Refl 0 ready (e, rest, on ∙ ap (λ (z : Tree). obligation z r ∷ rest) l-is ∙ ap (λ (z : Tree). obligation e z ∷ rest) r-is, refl)
    pay (sym_conv c) may l r (_, _, between) w rest on ready =
        let m = turned w (obligation r l ∷ rest) code.Symm 0 ready (l, r, rest, on, refl) in
        then w (obligation r l ∷ rest) rest w.hyps m (pay c may r l between m.work rest m.stack m.ready)
    pay (cong_conv t cs) may l r (_, _, (ls, rs, l-is, r-is, all)) w rest on ready =
        let m = turned w (sides (listed ls) (listed rs) rest) code.Cong 0 ready (t, ls, rs, rest, on ∙ ap (λ (z : Tree). obligation z r ∷ rest) l-is ∙ ap (λ (z : Tree). obligation (app t ls) z ∷ rest) r-is, refl) in
        then w (sides (listed ls) (listed rs) rest) rest w.hyps m (pay-all cs may ls rs all m.work rest m.stack m.ready)
    pay (unfold_conv t es ys c) may l r ((s, has), _, l-is, (d, dummies, body, is-defined, fits, fresh, between)) w rest on ready =
        let e : Tree = instance (followed_by es (variables ys)) body in
        let fs : List Tree = listed es in
        let l' : Tree = app t (trees_of fs) in
        let l-is' : l ≡ l' = l-is ∙ ap (app t) (sym (trees_of-listed es)) in
        let (e-sort, e-has) = (between-sorted env ctx c e r between).0 in
        let m = push l s has w ready in
        let k = push e e-sort e-has m.work m.ready in
        let mk = then w (expr l ∷ w.stack) (expr e ∷ m.work.stack) w.hyps m k in
        let unfolds : IsUnfolding env ctx t fs e = (d, dummies, body, ys, is-defined, subst (λ (z : Trees). AreFresh ctx z ys dummies) (sym (trees_of-listed es)) fresh, ap (λ (z : Trees). instance (followed_by z (variables ys)) body) (sym (trees_of-listed es))) in
        let here : mk.work.stack ≡ expr e ∷ expr l' ∷ obligation l' r ∷ rest = mk.stack ∙ ap (λ (z : List (Item Tree)). expr e ∷ z) (m.stack ∙ ap (λ (z : List (Item Tree)). expr l ∷ z) on) ∙ ap (λ (z : Tree). expr e ∷ expr z ∷ obligation z r ∷ rest) l-is' in
        let u = turned mk.work (obligation e r ∷ rest) code.Unfold 0 mk.ready (t, fs, e, r, rest, unfolds, here, refl) in
        let mku = then w (expr e ∷ m.work.stack) (obligation e r ∷ rest) w.hyps mk u in
        then w (obligation e r ∷ rest) rest w.hyps mku (pay c may e r between mku.work rest mku.stack mku.ready)
    pay (gap_conv a b) may l r (_, _, _, _, (s, l-has, r-has)) w rest on ready =
        turned w rest code.Sorry 0 ready (may, inr (l, r, rest, s, on, l-has, r-has, refl))

    pay-all : (cs : Conversions) → AllGapsOnly (gaps ≡ true) cs → (ls rs : Trees) → AllBetween env ctx cs ls rs → (w : Work) (rest : List (Item Tree)) → w.stack ≡ sides (listed ls) (listed rs) rest → Ready w → Made w rest w.hyps
    pay-all no_convs may none none all w rest on ready = record { commands = []; work = w; steps = refl; stack = on; hyps = refl; ready = ready; grows = extends_itself w.heap }
    pay-all (more_convs c cs) (c-may, may) (more l ls) (more r rs) (between, all) w rest on ready =
        let m = pay c c-may l r between w (sides (listed ls) (listed rs) rest) on ready in
        let k = pay-all cs may ls rs all m.work rest m.stack m.ready in
        then w (sides (listed ls) (listed rs) rest) rest w.hyps m k
    pay-all (more_convs c cs) may (more l ls) none all w rest on ready = absurd all
    pay-all _ may _ _ all w rest on ready = absurd all

  -- ---- hypotheses

  -- each of these has a proof in the heap
  abbrev Proved : List Tree → Work → Type 0
  Proved hs w = (j : ℕ) (e : Tree) → slice_get hs j ≡ Some e → (k : ℕ) × (slice_get w.heap k ≡ Some (proof e))

  proved-later : (hs : List Tree) (w w' : Work) → Extends w.heap w'.heap → Proved hs w → Proved hs w'
  proved-later hs w w' grows proved j e at = let (k, k-at) = proved j e at in (k, grows k (proof e) k-at)

  pub record Assumed (w : Work) (hs : List Tree) : Type 0 where
    pub made : Made w w.stack (w.hyps ++ hs)
    pub proved : Proved hs made.work

  assume : (hs : List Tree) → ((j : ℕ) (e : Tree) → slice_get hs j ≡ Some e → HasProvable env ctx e) → (w : Work) → Ready w → Assumed w hs
  assume [] provable w ready = record {
    made = record { commands = []; work = w; steps = refl; stack = refl; hyps = sym (append-nil w.hyps); ready = ready; grows = extends_itself w.heap };
    proved = λ j e at. absurd cc;
  }
  assume (h ∷ hs) provable w ready =
      let (s, has, claim) = provable 0 h refl in
      let m = push h s has w ready in
      let next : Work = record { met = m.work.met; heap = m.work.heap ++ proof h ∷ []; stack = w.stack; hyps = m.work.hyps ++ h ∷ [] } in
      let grows-next : Extends m.work.heap next.heap = extends_append m.work.heap (proof h ∷ []) in
      let ready-next : Ready next = record { findable = λ y y-in. (let (i, i-at) = m.ready.findable y y-in in (i, grows-next i (expr (var y)) i-at)); params_met = m.ready.params_met } in
      let a = assume hs (λ j e at. provable (suc j) e at) next ready-next in
      record {
        made = record {
          commands = m.commands ++ (code.Hyp, 0) ∷ a.made.commands;
          work = a.made.work;
          steps = steps-join gaps env ctx m.commands ((code.Hyp, 0) ∷ a.made.commands) w m.work a.made.work m.steps (next, (h, w.stack, m.stack, (s, has, claim), refl), a.made.steps);
          stack = a.made.stack;
          hyps = a.made.hyps ∙ append_assoc m.work.hyps (h ∷ []) hs ∙ ap (λ (z : List Tree). z ++ h ∷ hs) m.hyps;
          ready = a.made.ready;
          grows = λ i x at. a.made.grows i x (grows-next i x (m.grows i x at));
        };
        proved = each h hs m.work.heap a.made.work a.made.grows a.proved;
      }
    where
      each : (e0 : Tree) (es : List Tree) (heap : List (Item Tree)) (last : Work) → Extends (heap ++ proof e0 ∷ []) last.heap → Proved es last → Proved (e0 ∷ es) last
      each e0 es heap last grows proved zero e at = (length heap, grows (length heap) (proof e) (slice_get-last heap (proof e0) ∙ (let is : e0 ≡ e = cc in ap (λ (z : Tree). Some (proof z)) is)))
      each e0 es heap last grows proved (suc j) e at = proved j e at

  -- ---- derivations

  -- gaps may stand in a derivation where they are let through
  abbrev with_gaps : Uses
  with_gaps = used_with gaps

  module _ (legal : IsLegalEnv env) (hyps : Trees) (provable : AreProvable env ctx hyps) where
    mutual
      derive : (d : Derivation) → CitesOnly with_gaps d → (e : Tree) → Derives env ctx hyps d e → (w : Work) → Ready w → Proved (listed hyps) w → Made w (proof e ∷ w.stack) w.hyps
      derive (hypothesis i) may e at w ready proved = let (k, k-at) = proved i e at in turned w (proof e ∷ w.stack) code.Ref k ready (proof e, k-at, refl)
      derive (cite T es ds) (_, may) e (a, a-at, e-is, fits, apart, all) w ready proved =
          let hs : List Tree = listed (instances es a.hyps) in
          let fs : List Tree = listed es in
          let es-same = trees_of-listed es in
          let (s, has, _) = derived_has_provable env legal ctx hyps provable (cite T es ds) e (a, a-at, e-is, fits, apart, all) in
          let m = derive-all ds may (instances es a.hyps) all w ready proved in
          let k = push-all es a.params fits m.work m.ready in
          let mk = then w (map proof (reverse hs) ++ w.stack) (above fs m.work.stack) w.hyps m k in
          let o = push e s has mk.work mk.ready in
          let mko = then w (above fs m.work.stack) (expr e ∷ mk.work.stack) w.hyps mk o in
          let cited : IsCited env ctx mko.work T e w.stack = (
            a,
            fs,
            m.work.stack,
            a-at,
            subst (λ (z : Trees). Fits (signatures env) ctx z a.params) (sym es-same) fits,
            subst (λ (z : Trees). AreDisjoint ctx z a.params) (sym es-same) apart,
            (hs, trees_of-listed (instances es a.hyps) ∙ ap (λ (z : Trees). instances z a.hyps) (sym es-same), e-is ∙ ap (λ (z : Trees). instance z a.conclusion) (sym es-same), m.stack),
            mko.stack ∙ ap (λ (z : List (Item Tree)). expr e ∷ z) mk.stack,
          ) in
          then w (expr e ∷ mk.work.stack) (proof e ∷ w.stack) w.hyps mko (turned mko.work (proof e ∷ w.stack) code.Thm T mko.ready (e, w.stack, cited, refl))
      derive (convert f c d) (c-may, may) e (e-is, (g, between, derives)) w ready proved =
          let (s, has) = (between-sorted env ctx c f g between).0 in
          let m = push f s has w ready in
          let k = derive d may g derives m.work m.ready (proved-later (listed hyps) w m.work m.grows proved) in
          let mk = then w (expr f ∷ w.stack) (proof g ∷ m.work.stack) w.hyps m k in
          let v = turned mk.work (obligation f g ∷ proof f ∷ w.stack) code.Conv 0 mk.ready (f, g, w.stack, mk.stack ∙ ap (λ (z : List (Item Tree)). proof g ∷ z) m.stack, refl) in
          let mkv = then w (proof g ∷ m.work.stack) (obligation f g ∷ proof f ∷ w.stack) w.hyps mk v in
          leaving w (proof f ∷ w.stack) (proof e ∷ w.stack) w.hyps
          (then w (obligation f g ∷ proof f ∷ w.stack) (proof f ∷ w.stack) w.hyps mkv (pay c c-may f g between mkv.work (proof f ∷ w.stack) mkv.stack mkv.ready)) (ap (λ (z : Tree). proof z ∷ w.stack) (sym e-is))
      derive (gap f) may e (_, (s, has, claim)) w ready proved =
          let m = push e s has w ready in
          then w (expr e ∷ w.stack) (proof e ∷ w.stack) w.hyps m
          (turned m.work (proof e ∷ w.stack) code.Sorry 0 m.ready (may, inl (e, w.stack, m.stack, (s, has, claim), refl)))

      derive-all : (ds : Derivations) → AllCiteOnly with_gaps ds → (es : Trees) → AllDerive env ctx hyps ds es → (w : Work) → Ready w → Proved (listed hyps) w → Made w (map proof (reverse (listed es)) ++ w.stack) w.hyps
      derive-all no_derivs may none all w ready proved = record { commands = []; work = w; steps = refl; stack = refl; hyps = refl; ready = ready; grows = extends_itself w.heap }
      derive-all no_derivs may (more e es) all w ready proved = absurd all
      derive-all (more_derivs d ds) may none all w ready proved = absurd all
      derive-all (more_derivs d ds) (d-may, may) (more e es) (derives, all) w ready proved =
          let m = derive d d-may e derives w ready proved in
          let k = derive-all ds may es all m.work m.ready (proved-later (listed hyps) w m.work m.grows proved) in
          leaving w (map proof (reverse (listed es)) ++ m.work.stack) (map proof (reverse (e ∷ listed es)) ++ w.stack) w.hyps
          (then w (proof e ∷ w.stack) (map proof (reverse (listed es)) ++ m.work.stack) w.hyps m k)
          (ap (λ (z : List (Item Tree)). map proof (reverse (listed es)) ++ z) m.stack ∙ proofs-more e (listed es) w.stack)

-- ---- theorems

pub own-item-at : (j : ℕ) (ps : List Binder) (i : ℕ) → i < length ps → slice_get (map expr (variables_from j ps)) i ≡ Some (expr (var (j + i)))
own-item-at j [] i lt = absurd (omega arith)
own-item-at j (p ∷ ps) zero lt = ap (λ (z : ℕ). Some (expr (var z))) (omega arith)
own-item-at j (p ∷ ps) (suc i) lt = own-item-at (suc j) ps i (omega arith) ∙ ap (λ (z : ℕ). Some (expr (var z))) (omega arith)

zero-plus : (x : ℕ) → 0 + x ≡ x
zero-plus x = omega arith

dummy-is : (b : Binder) → b.bound ≡ true → b.deps ≡ [] → b ≡ dummy_of b.sort
dummy-is b bound plain-one = ap (λ (z : Bool). binder b.sort z b.deps) bound ∙ ap (binder b.sort true) plain-one
  where
    binder : ℕ → Bool → List ℕ → Binder
    binder s t ds = record { sort = s; bound = t; deps = ds }

module _ (gaps : Bool) (env : List Declaration) (params dummies : List Binder) (are-dummies : AreDummies (sorts env) dummies) where
  abbrev all : List Binder
  all = params ++ dummies

  fine : (x : ℕ) (b : Binder) → slice_get all x ≡ Some b → length params ≤ x → (b ≡ dummy_of b.sort) × MayBeDummySort (sorts env) b.sort
  fine x b at later = elim (split_at params dummies x b at) [
    | inl here ↦ absurd (let lt : x < length params = slice_get_within params x b here in omega arith)
    | inr (k, is, there) ↦ (let ((bound, plain-one), sort) = are-dummies k b there in (dummy-is b bound plain-one, sort))
  ]

  ready-at-start : Ready gaps env all (length params) fine (work_start params)
  ready-at-start =
      let right : IsRight (signatures env) (length params) all (work_start params) = start-right (signatures env) params dummies in
      record {
        findable = λ x has. (let (_, high) = within 0 params x has in let lt : x < length params = omega arith in (x, own-item-at 0 params x lt ∙ ap (λ (z : ℕ). Some (expr (var z))) (zero-plus x)));
        params_met = λ x lt. (right.own x lt).0;
      }

provable-longer : (env : List Declaration) (params dummies : List Binder) (hyps : Trees) → AreProvable env params hyps → AreProvable env (params ++ dummies) hyps
provable-longer env params dummies hyps provable i e at =
    let (s, has, claim) = provable i e at in
    (s, sort_extends (signatures env) (signatures env) params (params ++ dummies) (extends_itself (signatures env)) (extends_append params dummies) e s has, claim)

no-dummies : (ss : List SortMods) → AreDummies ss []
no-dummies ss k b at = absurd cc

pub axioms-have-steps : LegalAxiomsHaveSteps
axioms-have-steps gaps env a is-legal =
    let ctx : List Binder = a.params ++ [] in
    let n : ℕ = length a.params in
    let (_, _, hyps-provable, (s, has, _)) = (assertions_are_sorted env a).0 is-legal in
    let f = fine gaps env a.params [] (no-dummies (sorts env)) in
    let p = assume gaps env ctx n f (listed a.hyps) (provable-longer env a.params [] a.hyps hyps-provable) (work_start a.params) (ready-at-start gaps env a.params [] (no-dummies (sorts env))) in
    let m = push gaps env ctx n f a.conclusion s (sort_extends (signatures env) (signatures env) a.params ctx (extends_itself (signatures env)) (extends_append a.params []) a.conclusion s has) p.made.work p.made.ready in (
      p.made.commands ++ m.commands,
      m.work,
      steps-join gaps env ctx p.made.commands m.commands (work_start a.params) p.made.work m.work p.made.steps m.steps,
      m.stack ∙ ap (λ (z : List (Item Tree)). expr a.conclusion ∷ z) p.made.stack,
      m.hyps ∙ p.made.hyps,
    )

pub theorems-have-steps : LegalTheoremsHaveSteps
theorems-have-steps gaps env legal a is-legal dummies are-dummies d allowed derives =
    let ctx : List Binder = a.params ++ dummies in
    let n : ℕ = length a.params in
    let (_, _, hyps-provable, _) = (assertions_are_sorted env a).0 is-legal in
    let provable : AreProvable env ctx a.hyps = provable-longer env a.params dummies a.hyps hyps-provable in
    let f = fine gaps env a.params dummies are-dummies in
    let p = assume gaps env ctx n f (listed a.hyps) provable (work_start a.params) (ready-at-start gaps env a.params dummies are-dummies) in
    let m = derive gaps env ctx n f legal a.hyps provable d (allowed-uses gaps env d allowed) a.conclusion derives p.made.work p.made.ready p.proved in (
      p.made.commands ++ m.commands,
      m.work,
      steps-join gaps env ctx p.made.commands m.commands (work_start a.params) p.made.work m.work p.made.steps m.steps,
      m.stack ∙ ap (λ (z : List (Item Tree)). proof a.conclusion ∷ z) p.made.stack,
      m.hyps ∙ p.made.hyps,
    )

pub definitions-have-steps : LegalDefinitionsHaveSteps
definitions-have-steps gaps env d dummies body form-is is-legal =
    let params : List Binder = d.signature.params in
    let ctx : List Binder = params ++ dummies in
    let (_, _, dummies-right, _, _, body-right) = (terms_are_sorted env d).0 is-legal in
    let dummies-all : All (λ b. IsDummy b × MayBeDummySort (sorts env) b.sort) dummies = subst (λ (z : Form). All (λ b. IsDummy b × MayBeDummySort (sorts env) b.sort) (dummies_of z)) form-is dummies-right in
    let are-dummies : AreDummies (sorts env) dummies = λ k b at. each_from_all (λ b. IsDummy b × MayBeDummySort (sorts env) b.sort) dummies dummies-all k b at in
    let has : HasSort (signatures env) ctx body d.signature.result.sort = (subst (λ (z : Form). EachTree (λ e. HasSort (signatures env) (params ++ dummies_of z) e d.signature.result.sort
    × ((x : ℕ) → InFV (signatures env) (params ++ dummies_of z) x e → Contains d.signature.result.deps x)) (body_of z)) form-is body-right).0.0 in
    let m = push gaps env ctx (length params) (fine gaps env params dummies are-dummies) body d.signature.result.sort has (work_start params) (ready-at-start gaps env params dummies are-dummies) in
    (m.commands, m.work, m.steps, m.stack, m.hyps)

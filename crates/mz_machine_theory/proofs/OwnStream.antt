-- A row's own stream, run at the END of its body, spells what the body made.
use Rattle.std.proofs.Common.{◌≡◌, ℕ, suc, ◌+◌, ◌≤◌, ◌<◌, Bool, true, false, cond, eqb, List, [], ◌∷◌, ◌++◌, length, drop, map, Ok, refl, sym, ap, subst, ◌∙◌, arith}
use Rattle.std.specs.Prelude.{reverse, ◌&&◌}
use Rattle.std.proofs.lemmas.Bool.{eqb-true, eqb-false}
use Rattle.std.proofs.lemmas.List.{reverse-append, nil_from_length}
use Rattle.mz_cmd.specs.declared.rule.K.TheVariants as k
use Rattle.mz_logic_theory.specs.Tree.{Tree, Trees, var, app, none, more, listed}
use Rattle.mz_logic_theory.specs.Signature.{Signature}
use Rattle.mz_logic_theory.specs.declared.binder.Binder.{Binder}
use Rattle.mz_machine_theory.proofs.Citations.{length-params}
use Rattle.mz_machine_theory.specs.Steps.{need}
use Rattle.mz_machine_theory.specs.Streams.{StreamKind, of_assertion, of_definition, UnifyCommand, u_term, u_term_save, u_ref, u_dummy, u_hyp, u_end, IsEnd, StreamIs}
use Rattle.mz_machine_theory.specs.Spells.{trees_of, Marks, Spells, SpellsHyps, variables_from, at_first, Text}
use Rattle.mz_machine_theory.specs.Profile.{strict, Item, proof}
use Rattle.mz_machine_theory.specs.Sorted.{Sorted, AllSorted}
use Rattle.mz_machine_theory.specs.UnifyMachine.{at_end, in_definition, UnifyState, top_target, is_empty, next_hypothesis, nothing_left, unify_step, unify}
use Rattle.mz_machine_theory.proofs.Inverting.{from_bind, from_then, from_need, need-not, taken-is}
use Rattle.mz_machine_theory.proofs.Trees.{listed-trees_of, apart-is, all-sorted-append}
use Rattle.mz_machine_theory.proofs.Matching.{run, run-grows}
use Rattle.mz_machine_theory.proofs.NoDummies.{plain-stream, plain-apart}
use Rattle.mz_machine_theory.proofs.Spelled.{reads, place_from, renamed, all_renamed, spelled}

-- ---- no variable is renamed

name-kept : (j y : ℕ) (ps : List Binder) → place_from j (variables_from j ps) y ≡ y
name-kept j y [] = refl
name-kept j y (p ∷ ps) = go (eqb y j) refl (name-kept (suc j) y ps)
  where
    go : (q : Bool) → eqb y j ≡ q → place_from (suc j) (variables_from (suc j) ps) y ≡ y → cond q j (place_from (suc j) (variables_from (suc j) ps) y) ≡ y
    go true is h = sym (eqb-true _ _ is)
    go false is h = h

mutual
  renamed-kept : (g : ℕ → ℕ) → ((y : ℕ) → g y ≡ y) → (e : Tree) → renamed g e ≡ e
  renamed-kept g kept (var x) = ap var (kept x)
  renamed-kept g kept (app t es) = ap (app t) (all-renamed-kept g kept es)

  all-renamed-kept : (g : ℕ → ℕ) → ((y : ℕ) → g y ≡ y) → (es : Trees) → all_renamed g es ≡ es
  all-renamed-kept g kept none = refl
  all-renamed-kept g kept (more e es) = ap (λ (z : Tree). more z (all_renamed g es)) (renamed-kept g kept e) ∙ ap (more e) (all-renamed-kept g kept es)

map-kept : (f : Tree → Tree) → ((e : Tree) → f e ≡ e) → (es : List Tree) → map f es ≡ es
map-kept f kept [] = refl
map-kept f kept (e ∷ es) = ap (λ (z : Tree). z ∷ map f es) (kept e) ∙ ap (λ (z : List Tree). e ∷ z) (map-kept f kept es)

-- ---- the hypotheses

-- no command of these is an END
abbrev pub Middle : List UnifyCommand → Type 0
Middle [] = Unit {0}
Middle (v ∷ us) = (IsEnd v → ⊥) × Middle us

pub middle-after : (front rest : List UnifyCommand) → Middle (front ++ rest) → Middle rest
middle-after [] rest h = h
middle-after (v ∷ front) rest (_, h) = middle-after front rest h

pub middle-stream : (kind : StreamKind) (bytes : List ℕ) (us : List UnifyCommand) → StreamIs kind bytes us → Middle us
middle-stream kind bytes [] s = tt
middle-stream kind bytes (u ∷ us) (c, read, is, no-end, s) = (no-end, middle-stream kind (drop c.len bytes) us s)

pub no-target : {T : Type 0} (r : T × List T) (ts : List T) → ts ≡ [] → top_target ts ≡ Ok r → ⊥
no-target r [] e h = cc
no-target r (t ∷ ts) e h = cc

no-next : (items : List (Item Tree)) (x : Tree × List (Item Tree)) → items ≡ [] → next_hypothesis at_end items ≡ Ok x → ⊥
no-next [] x e h = cc
no-next (y ∷ ys) x e h = cc

next-of : (items : List (Item Tree)) (r : Tree) (rs : List Tree) (x : Tree × List (Item Tree)) → items ≡ proof r ∷ map proof rs → next_hypothesis at_end items ≡ Ok x → (r, map proof rs) ≡ x
next-of items r rs x e h = taken-is (r, map proof rs) x (subst (λ (z : List (Item Tree)). next_hypothesis at_end z ≡ Ok x) e h)

module _ (sigs : List Signature) (ctx : List Binder) (n : ℕ) (u : UnifyState Tree) where
  HypsSpelt : Marks → List UnifyCommand → List Tree → Type 0
  HypsSpelt m us rs = (last : Marks) × SpellsHyps n sigs m us (map (renamed (place_from 0 u.apart)) rs) last × (length u.apart ≡ n + length last.dummies)

  hyps-spelt : (rs : List Tree) (us : List UnifyCommand) (m : Marks) (st : UnifyState Tree)
      → Middle us → run sigs ctx at_end us st ≡ Ok u → st.targets ≡ [] → st.items ≡ map proof rs → AllSorted sigs ctx rs → m.trees ≡ map (renamed (place_from 0 u.apart)) st.heap → length st.apart ≡ n + length m.dummies → HypsSpelt m us rs
  unfolding unify_step HypsSpelt
  hyps-spelt [] [] m st middle ran top items sorted marks long =
      from_then (need (is_empty st.targets && nothing_left at_end st.items) k.UnifyRest) _ u ran λ x done same.
      (m, (refl, refl), ap (λ (z : UnifyState Tree). length z.apart) (sym (taken-is st u same)) ∙ long)
  hyps-spelt (r ∷ rs) [] m st middle ran top items sorted marks long =
      absurd (need-not (is_empty st.targets && nothing_left at_end st.items) k.UnifyRest (Ok st) u (rw (top, items) refl) ran)
  hyps-spelt [] (u_hyp ∷ us) m st middle ran top items sorted marks long =
      from_bind (unify_step strict sigs ctx at_end u_hyp st) _ u ran λ s row later.
      from_need (is_empty st.targets) k.UnifyRest _ s row λ done e1.
      from_bind (next_hypothesis at_end st.items) _ s e1 λ x next e2.
      absurd (no-next st.items x items next)
  hyps-spelt (r ∷ rs) (u_hyp ∷ us) m st (_, middle) ran top items (sorted, all-sorted) marks long =
      from_bind (unify_step strict sigs ctx at_end u_hyp st) _ u ran λ s row later.
      from_need (is_empty st.targets) k.UnifyRest _ s row λ done e1.
      from_bind (next_hypothesis at_end st.items) _ s e1 λ x next e2.
      let next-is : (r, map proof rs) ≡ x = next-of st.items r rs x items next in
      let s-is : record st { targets = r ∷ []; items = map proof rs } ≡ s = ap (λ (z : Tree × List (Item Tree)). record st { targets = z.0 ∷ []; items = z.1 }) next-is ∙ taken-is (record st { targets = x.0 ∷ []; items = x.1 }) s e2 in
      let later' : run sigs ctx at_end us (record st { targets = r ∷ []; items = map proof rs }) ≡ Ok u = subst (λ (z : UnifyState Tree). run sigs ctx at_end us z ≡ Ok u) (sym s-is) later in
      let a = spelled sigs ctx at_end n u r us m (record st { targets = r ∷ []; items = map proof rs }) [] later' refl sorted marks long in
      let (last, spells, count) = hyps-spelt rs a.rest a.after a.state (middle-after a.suffix.0 a.rest (subst Middle a.suffix.1 middle)) a.runs a.targets a.items all-sorted a.marks a.long in
      (last, (us, a.after, a.rest, refl, a.spells, spells), count)
  hyps-spelt rs (u_end ∷ us) m st (no-end, middle) ran top items sorted marks long = absurd (no-end tt)
  hyps-spelt rs (u_term t ∷ us) m st middle ran top items sorted marks long =
      from_bind (unify_step strict sigs ctx at_end (u_term t) st) _ u ran λ s row later. from_bind (top_target st.targets) _ s row λ x x-is e1. absurd (no-target x st.targets top x-is)
  hyps-spelt rs (u_term_save t ∷ us) m st middle ran top items sorted marks long =
      from_bind (unify_step strict sigs ctx at_end (u_term_save t) st) _ u ran λ s row later. from_bind (top_target st.targets) _ s row λ x x-is e1. absurd (no-target x st.targets top x-is)
  hyps-spelt rs (u_ref i ∷ us) m st middle ran top items sorted marks long =
      from_bind (unify_step strict sigs ctx at_end (u_ref i) st) _ u ran λ s row later. from_bind (top_target st.targets) _ s row λ x x-is e1. absurd (no-target x st.targets top x-is)
  hyps-spelt rs (u_dummy d ∷ us) m st middle ran top items sorted marks long =
      from_bind (unify_step strict sigs ctx at_end (u_dummy d) st) _ u ran λ s row later. from_bind (top_target st.targets) _ s row λ x x-is e1. absurd (no-target x st.targets top x-is)

pub sorted-reverse : (sigs : List Signature) (ctx : List Binder) (es : List Tree) → AllSorted sigs ctx es → AllSorted sigs ctx (reverse es)
sorted-reverse sigs ctx [] h = h
sorted-reverse sigs ctx (e ∷ es) (h, hs) = subst (AllSorted sigs ctx) (sym (reverse-append (e ∷ []) es)) (all-sorted-append sigs ctx (reverse es) e (sorted-reverse sigs ctx es hs) h)

-- what an assertion's own stream matches is what it spells
pub assertion-spelled : (sigs : List Signature) (ctx params : List Binder) (stream : List ℕ) (e : Tree) (hyps : List Tree) (u : UnifyState Tree)
    → unify strict sigs ctx (record { mode = at_end; stream = stream; operands = variables_from 0 params; target = e; items = map proof (reverse hyps) }) ≡ Ok u → Sorted sigs ctx e → AllSorted sigs ctx hyps
    → Text of_assertion sigs params stream (trees_of hyps) e []
unfolding unify HypsSpelt
assertion-spelled sigs ctx params stream e hyps u done sorted hyps-sorted =
    let vars : List Tree = variables_from 0 params in
    let st : UnifyState Tree = record { heap = vars; apart = vars; targets = e ∷ []; items = map proof (reverse hyps) } in
    let (us, is-stream, ran) = reads sigs ctx at_end (length stream) 0 stream st u done in
    let apart-is : u.apart ≡ vars = plain-apart sigs ctx at_end us st u (plain-stream stream us is-stream) ran in
    let kept : (t : Tree) → renamed (place_from 0 u.apart) t ≡ t = λ t. renamed-kept (place_from 0 u.apart) (λ y. ap (λ (z : List Tree). place_from 0 z y) apart-is ∙ name-kept 0 y params) t in
    let marks : vars ≡ map (renamed (place_from 0 u.apart)) vars = sym (map-kept (renamed (place_from 0 u.apart)) kept vars) in
    let long : length vars ≡ length params + 0 = length-params 0 params ∙ omega arith in
    let a = spelled sigs ctx at_end (length params) u e us (at_first params) st [] ran refl sorted marks long in
    let (last, hyps-are, count) = hyps-spelt sigs ctx (length params) u (reverse hyps) a.rest a.after a.state (middle-after a.suffix.0 a.rest (subst Middle a.suffix.1 (middle-stream of_assertion stream us is-stream))) a.runs a.targets a.items (sorted-reverse sigs ctx hyps hyps-sorted) a.marks a.long in
    let none-left : last.dummies ≡ [] = nil_from_length last.dummies (omega (arith, count, ap length apart-is, length-params 0 params)) in
    let e-spells : Spells (length params) sigs (at_first params) us e a.after a.rest = subst (λ (z : Tree). Spells (length params) sigs (at_first params) us z a.after a.rest) (kept e) a.spells in
    let order : map (renamed (place_from 0 u.apart)) (reverse hyps) ≡ reverse (listed (trees_of hyps)) = map-kept (renamed (place_from 0 u.apart)) kept (reverse hyps) ∙ ap reverse (sym (listed-trees_of hyps)) in
    (last, (us, is-stream, a.after, a.rest, e-spells, subst (λ (z : List Tree). SpellsHyps (length params) sigs a.after a.rest z last) order hyps-are), none-left)

-- ---- a definition

-- the parameters keep their names
name-first : (j y : ℕ) (ps : List Binder) (others : List Tree) → j ≤ y → y < j + length ps → place_from j (variables_from j ps ++ others) y ≡ y
name-first j y [] others low high = absurd (omega arith)
name-first j y (p ∷ ps) others low high = go (eqb y j) refl λ differ. name-first (suc j) y ps others (omega arith) (omega arith)
  where
    go : (q : Bool) → eqb y j ≡ q → ((y ≡ j → ⊥) → place_from (suc j) (variables_from (suc j) ps ++ others) y ≡ y) → cond q j (place_from (suc j) (variables_from (suc j) ps ++ others) y) ≡ y
    go true is later = sym (eqb-true _ _ is)
    go false is later = later (eqb-false _ _ is)

first-kept : (g : ℕ → ℕ) (j : ℕ) (ps : List Binder) → ((y : ℕ) → j ≤ y → y < j + length ps → g y ≡ y) → variables_from j ps ≡ map (renamed g) (variables_from j ps)
first-kept g j [] kept = refl
first-kept g j (p ∷ ps) kept =
    ap (λ (z : ℕ). var z ∷ variables_from (suc j) ps) (sym (kept j (omega arith) (omega arith)))
    ∙ ap (λ (z : List Tree). var (g j) ∷ z) (first-kept g (suc j) ps (λ y low high. kept y (omega arith) (omega arith)))

-- nothing follows where no target is left
pub nothing-follows : (sigs : List Signature) (ctx : List Binder) (us : List UnifyCommand) (st u : UnifyState Tree) → Middle us → run sigs ctx in_definition us st ≡ Ok u → st.targets ≡ [] → st.items ≡ [] → us ≡ []
unfolding unify_step
nothing-follows sigs ctx [] st u middle ran top items = refl
nothing-follows sigs ctx (u_end ∷ us) st u (no-end, middle) ran top items = absurd (no-end tt)
nothing-follows sigs ctx (u_hyp ∷ us) st u middle ran top items =
    from_bind (unify_step strict sigs ctx in_definition u_hyp st) _ u ran λ s row later.
    from_need (is_empty st.targets) k.UnifyRest _ s row λ done e1.
    from_bind (next_hypothesis in_definition st.items) _ s e1 λ x next e2.
    absurd (none-next st.items x items next)
  where
    none-next : (xs : List (Item Tree)) (x : Tree × List (Item Tree)) → xs ≡ [] → next_hypothesis in_definition xs ≡ Ok x → ⊥
    none-next [] x e h = cc
    none-next (y ∷ ys) x e h = cc
nothing-follows sigs ctx (u_term t ∷ us) st u middle ran top items =
    from_bind (unify_step strict sigs ctx in_definition (u_term t) st) _ u ran λ s row later. from_bind (top_target st.targets) _ s row λ x x-is e1. absurd (no-target x st.targets top x-is)
nothing-follows sigs ctx (u_term_save t ∷ us) st u middle ran top items =
    from_bind (unify_step strict sigs ctx in_definition (u_term_save t) st) _ u ran λ s row later. from_bind (top_target st.targets) _ s row λ x x-is e1. absurd (no-target x st.targets top x-is)
nothing-follows sigs ctx (u_ref i ∷ us) st u middle ran top items =
    from_bind (unify_step strict sigs ctx in_definition (u_ref i) st) _ u ran λ s row later. from_bind (top_target st.targets) _ s row λ x x-is e1. absurd (no-target x st.targets top x-is)
nothing-follows sigs ctx (u_dummy d ∷ us) st u middle ran top items =
    from_bind (unify_step strict sigs ctx in_definition (u_dummy d) st) _ u ran λ s row later. from_bind (top_target st.targets) _ s row λ x x-is e1. absurd (no-target x st.targets top x-is)

-- what a definition's own stream matches is what it spells, its dummies named by their order
pub definition-spelled : (sigs : List Signature) (ctx params : List Binder) (stream : List ℕ) (e : Tree) (u : UnifyState Tree)
    → unify strict sigs ctx (record { mode = in_definition; stream = stream; operands = variables_from 0 params; target = e; items = [] }) ≡ Ok u → Sorted sigs ctx e
    → (dummies : List Binder) × Text of_definition sigs params stream none (renamed (place_from 0 u.apart) e) dummies
unfolding unify
definition-spelled sigs ctx params stream e u done sorted =
    let vars : List Tree = variables_from 0 params in
    let st : UnifyState Tree = record { heap = vars; apart = vars; targets = e ∷ []; items = [] } in
    let (us, is-stream, ran) = reads sigs ctx in_definition (length stream) 0 stream st u done in
    let (others, apart-is) = run-grows sigs ctx in_definition us st u ran in
    let g : ℕ → ℕ = place_from 0 u.apart in
    let kept : (y : ℕ) → 0 ≤ y → y < 0 + length params → g y ≡ y = λ y low high. ap (λ (z : List Tree). place_from 0 z y) apart-is ∙ name-first 0 y params others low high in
    let long : length vars ≡ length params + 0 = length-params 0 params ∙ omega arith in
    let a = spelled sigs ctx in_definition (length params) u e us (at_first params) st [] ran refl sorted (first-kept g 0 params kept) long in
    let ended : a.rest ≡ [] = nothing-follows sigs ctx a.rest a.state u (middle-after a.suffix.0 a.rest (subst Middle a.suffix.1 (middle-stream of_definition stream us is-stream))) a.runs a.targets a.items in
    (a.after.dummies, (a.after, (us, is-stream, a.after, a.rest, a.spells, (ended, refl)), refl))

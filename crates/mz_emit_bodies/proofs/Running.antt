-- What is written runs: its commands make what they are written for, from any work whose heap is the writing's, and build
-- no application twice.
use Rattle.std.specs.Prelude.{ℕ, ◌≡◌, ◌<◌, ◌≤◌, ◌+◌, ◌⊎◌, ⊤, Bool, true, false, List, [], ◌∷◌, ◌++◌, length, map, reverse, get_or, slice_get, Contains, Option, Some, None}
use Rattle.std.proofs.Common.{zero, suc, refl, sym, ap, ◌∙◌, subst, arith, append_assoc, append-nil, inl, inr, ltb, ltb-false, eq-eqb}
use Rattle.std.proofs.lemmas.Bool.{cases_eq, eqb-true, ltb-true, cases_Bool}
use Rattle.std.proofs.lemmas.List.{get_or_append_left, length-append}
use Rattle.std.proofs.lemmas.List.Elements.{Contains-append_left, Contains-append_cases}
use Rattle.std.proofs.lemmas.Option.{none-some, get_or_from_slice_get}
use Rattle.mz_cmd.specs.declared.code.ProofCode.{ProofCode}
use Rattle.mz_cmd.specs.declared.code.ProofCode.TheVariants as code
use Rattle.mz_logic_theory.specs.Tree.{Tree, Trees, var, app, none, more, listed, instance, followed_by, variables, size, trees_size}
use Rattle.mz_logic_theory.specs.Declaration.{Assertion, Declaration, sorts, signatures, assertions}
use Rattle.mz_logic_theory.specs.Legality.{binder_at}
use Rattle.mz_logic_theory.specs.Modifiers.{MayBeDummySort}
use Rattle.mz_logic_theory.specs.Sorts.{HasSort, Fits, HasProvable}
use Rattle.mz_logic_theory.specs.Conversions.{GapsOnly, AllGapsOnly, Conversion, Conversions, refl_conv, sym_conv, cong_conv, unfold_conv, gap_conv, no_convs, more_convs, Between, AllBetween}
use Rattle.mz_logic_theory.specs.declared.binder.Binder.{Binder}
use Rattle.mz_logic_theory.proofs.Offered.{extends_append}
use Rattle.mz_machine_theory.specs.Spells.{dummy_of}
use Rattle.mz_machine_theory.specs.Sorted.{Sorted}
use Rattle.mz_machine_theory.specs.Profile.{Item, expr, proof, obligation}
use Rattle.mz_machine_theory.proofs.Offered.{trees_of-listed, same_tree-true, same_tree-refl}
use Rattle.mz_machine_theory.specs.ProofMachine.{sides}
use Rattle.mz_mmu_theory.specs.Proof.{Proof, Proofs, by_hyp, by_name, by_citation, by_conv, by_let, by_gap, no_proofs, more_proofs}
use Rattle.mz_emit_theory.specs.SymbolicState.{Work}
use Rattle.mz_emit_theory.specs.Steps.{stacked, kept, above, IsReferred, Step}
use Rattle.mz_emit_theory.specs.SharedBodies.{built, Builds, AreDistinct, IsPlain, ArePlain}
use Rattle.mz_emit_theory.proofs.Offered.{above-more, proofs-more, has-place as meets}
use Rattle.mz_emit_theory.specs.Claims.{claim_at, conclusion_of, proved, all_proved, IsCitable, IsSound, AreSound}
use Rattle.mz_emit_theory.specs.Costs.{body_at}
use Rattle.mz_emit_theory.specs.BodyWriting.{Kept, expression, hypothesis, first_part, is_same, Writing, place_in, Written, Writer, and_then, nothing, ◌>>◌, command, keeping, unless_kept, write_expr, write_exprs, write_payment, write_payments, at_name, write_proof, write_proofs, write_hyp, write_hyps}
use Rattle.mz_emit_bodies.proofs.Heaps.{none_or_some, place_new, place_old, some_get, kept_there, not_kept}
use Rattle.mz_emit_bodies.proofs.Lists.{slice_last, get_end}
use Rattle.mz_emit_bodies.proofs.Opening.{strict}
use Rattle.mz_emit_bodies.proofs.Commands.{no_tree, thm_step}
use Rattle.mz_emit_bodies.proofs.Paying.{body_is, between_sorted, left_sorted, unfolded_sorted, unfold_step}

-- ---- items

same_is : (x y : Kept) → is_same x y ≡ true → x ≡ y
same_is (expression e) (expression f) h = ap expression (same_tree-true e f h)
same_is (hypothesis i) (hypothesis j) h = ap hypothesis (eqb-true i j h)
same_is (first_part i) (first_part j) h = ap first_part (eqb-true i j h)
same_is _ _ h = absurd cc

tree_same : (a b : Tree) → expression a ≡ expression b → a ≡ b
tree_same a b same = ap get same
  where
    get : Kept → Tree
    get (expression x) = x
    get _ = a

number_same : (a b : ℕ) → first_part a ≡ first_part b → a ≡ b
number_same a b same = ap get same
  where
    get : Kept → ℕ
    get (first_part j) = j
    get _ = 0

-- ---- lists of what is built

either : (xs ys : List Tree) (i : ℕ) (e : Tree) → slice_get (xs ++ ys) i ≡ Some e → (slice_get xs i ≡ Some e) ⊎ ((j : ℕ) × (i ≡ length xs + j) × (slice_get ys j ≡ Some e))
either [] ys i e at = inr (i, omega arith, at)
either (x ∷ xs) ys zero e at = inl at
either (x ∷ xs) ys (suc i) e at = elim (either xs ys i e at) [ inl h ↦ inl h | inr (j, is, h) ↦ inr (j, omega (arith, is), h) ]

distinct_on : (xs ys : List Tree) → AreDistinct xs → AreDistinct ys → ((i j : ℕ) (e : Tree) → slice_get xs i ≡ Some e → slice_get ys j ≡ Some e → ⊥) → AreDistinct (xs ++ ys)
distinct_on xs ys d d' apart i j e i-at j-at = elim (either xs ys i e i-at) [
  | inl a ↦ elim (either xs ys j e j-at) [ inl b ↦ d i j e a b | inr (m, is, b) ↦ absurd (apart i m e a b) ]
  | inr (l, l-is, a) ↦ elim (either xs ys j e j-at) [ inl b ↦ absurd (apart j l e b a) | inr (m, m-is, b) ↦ (let same = d' l m e a b in omega (arith, l-is, m-is, same)) ]
]

builds_on : (gaps : Bool) (env : List Declaration) (ctx : List Binder) (cs ds : List (ProofCode × ℕ)) (w mid w' : Work) (xs ys : List Tree) → Builds gaps env ctx w cs mid xs → Builds gaps env ctx mid ds w' ys
    → Builds gaps env ctx w (cs ++ ds) w' (xs ++ ys)
builds_on gaps env ctx [] ds w mid w' xs ys (is, empty) h = subst (λ (z : List Tree). Builds gaps env ctx w ds w' (z ++ ys)) (sym empty) (subst (λ (z : Work). Builds gaps env ctx z ds w' ys) is h)
builds_on gaps env ctx (c ∷ cs) ds w mid w' xs ys (next, later, first, rest, is) h =
    (next, later ++ ys, first, builds_on gaps env ctx cs ds next mid w' later ys rest h, ap (λ (z : List Tree). z ++ ys) is ∙ append_assoc (built c.0 next) later ys)

plain_on : (cs ds : List (ProofCode × ℕ)) → ArePlain cs → ArePlain ds → ArePlain (cs ++ ds)
plain_on [] ds a b = b
plain_on (c ∷ cs) ds a b = (a.0, plain_on cs ds a.1 b)

-- the conclusion's instance has a sort
cited_sorted : (env : List Declaration) (ctx : List Binder) (T : ℕ) (es : Trees) (hs : List Tree) → IsCitable env ctx T es hs → Sorted (signatures env) ctx (instance es (conclusion_of env T))
cited_sorted env ctx T es hs (a, at, fits, apart, hs-is, reach, sorted) =
    subst (λ (z : Tree). Sorted (signatures env) ctx (instance es z)) (ap (λ (b : Assertion). b.conclusion) (sym (get_or_from_slice_get (assertions env) T a _ at))) sorted

-- the expression has so many nodes at the most
abbrev IsUpTo : ℕ → Tree → Type 0
IsUpTo m e = size e ≤ m

abbrev pub Any : Tree → Type 0
Any e = ⊤

module _ (gaps : Bool) (env : List Declaration) (ctx : List Binder) (n : ℕ) (hyps : List Tree)
    (dummies-fine : (x : ℕ) (b : Binder) → slice_get ctx x ≡ Some b → n ≤ x → (b ≡ dummy_of b.sort) × MayBeDummySort (sorts env) b.sort) where
  -- the item of the heap, where the lets' first parts prove these
  abbrev pub item_of : List Tree → Kept → Item Tree
  item_of claims (expression e) = expr e
  item_of claims (hypothesis i) = proof (claim_at hyps i)
  item_of claims (first_part m) = proof (claim_at claims m)

  -- the work's heap is the writing's; the variables that are met stand in it, and so many hypotheses, and the parameters
  -- are met
  pub record Agrees (count : ℕ) (w : Writing) (k : Work) (claims : List Tree) : Type 0 where
    pub items : (x : Kept) (p : ℕ) → place_in x w.heap ≡ Some p → slice_get k.heap p ≡ Some (item_of claims x)
    pub long : length k.heap ≡ length w.heap
    pub lets : w.lets ≡ length claims
    pub below : (m p : ℕ) → place_in (first_part m) w.heap ≡ Some p → m < length claims
    pub met : (x : ℕ) → Contains k.met x → (p : ℕ) × (place_in (expression (var x)) w.heap ≡ Some p)
    pub params : (x : ℕ) → x < n → Contains k.met x
    pub there : (i : ℕ) → i < count → (p : ℕ) × (place_in (hypothesis i) w.heap ≡ Some p)

  -- what is written takes the work to this stack and these hypotheses; what is built stood nowhere and stands in the
  -- heap then, and new expressions are such as Q says
  pub record Taken (Q : Tree → Type 0) (count : ℕ) (w : Writing) (k : Work) (claims : List Tree) (r : Written) (ys : List (Item Tree)) (hs : List Tree) : Type 0 where
    pub work : Work
    pub newer : List Tree
    pub built_are : List Tree
    pub builds : Builds gaps env ctx k r.commands work built_are
    pub plain : ArePlain r.commands
    pub stack : work.stack ≡ ys
    pub assumed : work.hyps ≡ hs
    pub agrees : Agrees count r.after work (claims ++ newer)
    pub distinct : AreDistinct built_are
    pub fresh : (j : ℕ) (e : Tree) → slice_get built_are j ≡ Some e → place_in (expression e) w.heap ≡ None
    pub placed : (j : ℕ) (e : Tree) → slice_get built_are j ≡ Some e → (p : ℕ) × (place_in (expression e) r.after.heap ≡ Some p)
    pub grows : (x : Kept) (p : ℕ) → place_in x w.heap ≡ Some p → (q : ℕ) × (place_in x r.after.heap ≡ Some q)
    pub news : (e : Tree) (p : ℕ) → place_in (expression e) r.after.heap ≡ Some p → ((q : ℕ) × (place_in (expression e) w.heap ≡ Some q)) ⊎ Q e

  -- wherever at least these lets were met, the writer takes the stack xs to the stack ys
  abbrev Takes : (Tree → Type 0) → ℕ → List Tree → Writer → List (Item Tree) → List (Item Tree) → Type 0
  Takes Q count world f xs ys = (w : Writing) (k : Work) (since : List Tree) → Agrees count w k (world ++ since) → k.stack ≡ xs → Taken Q count w k (world ++ since) (f w) ys k.hyps

  -- ---- one after another

  pub taken_then : (Q : Tree → Type 0) (i j : ℕ) (w : Writing) (k : Work) (claims : List Tree) (r : Written) (g : Writer) (ys zs : List (Item Tree)) (hs hs' : List Tree) → (a : Taken Q i w k claims r ys hs)
      → Taken Q j r.after a.work (claims ++ a.newer) (g r.after) zs hs' → Taken Q j w k claims (and_then r g) zs hs'
  taken_then Q i j w k claims r g ys zs hs hs' a b = record {
    work = b.work;
    newer = a.newer ++ b.newer;
    built_are = a.built_are ++ b.built_are;
    builds = builds_on gaps env ctx r.commands (g r.after).commands k a.work b.work a.built_are b.built_are a.builds b.builds;
    plain = plain_on r.commands (g r.after).commands a.plain b.plain;
    stack = b.stack;
    assumed = b.assumed;
    agrees = subst (Agrees j (g r.after).after b.work) (append_assoc claims a.newer b.newer) b.agrees;
    distinct = distinct_on a.built_are b.built_are a.distinct b.distinct (λ l m e l-at m-at. (let p = a.placed l e l-at in none-some p.0 (sym (b.fresh m e m-at) ∙ p.1)));
    fresh = λ l e at. elim (either a.built_are b.built_are l e at) [
      | inl h ↦ a.fresh l e h
      | inr (m, is, h) ↦ elim (none_or_some (place_in (expression e) w.heap)) [
        | inl absent ↦ absent
        | inr (p, p-at) ↦ absurd (let q = a.grows (expression e) p p-at in none-some q.0 (sym (b.fresh m e h) ∙ q.1))
      ]
    ];
    placed = λ l e at. elim (either a.built_are b.built_are l e at) [
      | inl h ↦ (let p = a.placed l e h in b.grows (expression e) p.0 p.1)
      | inr (m, is, h) ↦ b.placed m e h
    ];
    grows = λ x p at. (let q = a.grows x p at in b.grows x q.0 q.1);
    news = λ e p at. elim (b.news e p at) [ inl q ↦ a.news e q.0 q.1 | inr new ↦ inr new ];
  }

  takes_nothing : (Q : Tree → Type 0) (count : ℕ) (world : List Tree) (xs : List (Item Tree)) → Takes Q count world nothing xs xs
  takes_nothing Q count world xs w k since agrees on = record {
    work = k;
    newer = [];
    built_are = [];
    builds = (refl, refl);
    plain = tt;
    stack = on;
    assumed = refl;
    agrees = subst (Agrees count w k) (sym (append-nil (world ++ since))) agrees;
    distinct = λ i j e at. no_tree (slice_get [] j ≡ Some e → i ≡ j) i e at;
    fresh = λ j e at. no_tree (place_in (expression e) w.heap ≡ None) j e at;
    placed = λ j e at. no_tree ((p : ℕ) × (place_in (expression e) w.heap ≡ Some p)) j e at;
    grows = λ x p at. (p, at);
    news = λ e p at. inl (p, at);
  }

  takes_then : (Q : Tree → Type 0) (count : ℕ) (world : List Tree) (f g : Writer) (xs ys zs : List (Item Tree)) → Takes Q count world f xs ys → Takes Q count world g ys zs → Takes Q count world (f >> g) xs zs
  takes_then Q count world f g xs ys zs first second w k since agrees on =
      let a = first w k since agrees on in
      let b = second (f w).after a.work (since ++ a.newer) (subst (Agrees count (f w).after a.work) (append_assoc world since a.newer) a.agrees) a.stack in
      subst (Taken Q count w k (world ++ since) ((f >> g) w) zs) a.assumed
      (taken_then Q count count w k (world ++ since) (f w) g ys zs k.hyps a.work.hyps a (subst (λ (z : List Tree). Taken Q count (f w).after a.work z (g (f w).after) zs a.work.hyps) (sym (append_assoc world since a.newer)) b))

  -- a stack by another name
  takes_to : (Q : Tree → Type 0) (count : ℕ) (world : List Tree) (f : Writer) (xs ys zs : List (Item Tree)) → Takes Q count world f xs ys → ys ≡ zs → Takes Q count world f xs zs
  takes_to Q count world f xs ys zs t is = subst (λ (z : List (Item Tree)). Takes Q count world f xs z) is t

  -- more lets were met
  takes_later : (Q : Tree → Type 0) (count : ℕ) (world newer : List Tree) (f : Writer) (xs ys : List (Item Tree)) → Takes Q count world f xs ys → Takes Q count (world ++ newer) f xs ys
  takes_later Q count world newer f xs ys t w k since agrees on =
      subst (λ (z : List Tree). Taken Q count w k z (f w) ys k.hyps) (sym (append_assoc world newer since)) (t w k (newer ++ since) (subst (Agrees count w k) (append_assoc world newer since) agrees) on)

  -- less is said of new expressions
  takes_wider : (Q Q' : Tree → Type 0) (count : ℕ) (world : List Tree) (f : Writer) (xs ys : List (Item Tree)) → ((e : Tree) → Q e → Q' e) → Takes Q count world f xs ys → Takes Q' count world f xs ys
  takes_wider Q Q' count world f xs ys wider t w k since agrees on =
      let a = t w k since agrees on in
      record {
        work = a.work;
        newer = a.newer;
        built_are = a.built_are;
        builds = a.builds;
        plain = a.plain;
        stack = a.stack;
        assumed = a.assumed;
        agrees = a.agrees;
        distinct = a.distinct;
        fresh = a.fresh;
        placed = a.placed;
        grows = a.grows;
        news = λ e p at. elim (a.news e p at) [ inl old ↦ inl old | inr new ↦ inr (wider e new) ];
      }

  -- ---- commands

  agrees_stacked : (count : ℕ) (w : Writing) (k : Work) (claims : List Tree) (xs : List (Item Tree)) → Agrees count w k claims → Agrees count w (stacked k xs) claims
  agrees_stacked count w k claims xs a = record { items = a.items; long = a.long; lets = a.lets; below = a.below; met = a.met; params = a.params; there = a.there }

  -- a command that changes the stack alone
  takes_command : (Q : Tree → Type 0) (count : ℕ) (world : List Tree) (c : ProofCode) (v : ℕ) (xs ys : List (Item Tree)) → IsPlain (c, v) → ((k : Work) → built c k ≡ [])
      → ((k : Work) → k.stack ≡ xs → Step gaps env ctx k c v (stacked k ys)) → Takes Q count world (command c v) xs ys
  takes_command Q count world c v xs ys is-plain none-built step w k since agrees on = record {
    work = stacked k ys;
    newer = [];
    built_are = [];
    builds = (stacked k ys, [], step k on, (refl, refl), ap (λ (z : List Tree). z ++ []) (sym (none-built (stacked k ys))));
    plain = (is-plain, tt);
    stack = refl;
    assumed = refl;
    agrees = subst (Agrees count w (stacked k ys)) (sym (append-nil (world ++ since))) (agrees_stacked count w k (world ++ since) ys agrees);
    distinct = λ i j e at. no_tree (slice_get [] j ≡ Some e → i ≡ j) i e at;
    fresh = λ j e at. no_tree (place_in (expression e) w.heap ≡ None) j e at;
    placed = λ j e at. no_tree ((p : ℕ) × (place_in (expression e) w.heap ≡ Some p)) j e at;
    grows = λ x p at. (p, at);
    news = λ e p at. inl (p, at);
  }

  -- one item more in the heap
  agrees_kept : (count : ℕ) (w : Writing) (k k' : Work) (claims : List Tree) (x : Kept) → Agrees count w k claims → k'.heap ≡ k.heap ++ item_of claims x ∷ []
      → ((m : ℕ) → x ≡ first_part m → m < length claims) → ((y : ℕ) → Contains k'.met y → Contains k.met y ⊎ (x ≡ expression (var y))) → ((y : ℕ) → Contains k.met y → Contains k'.met y)
      → Agrees count (record w { heap = x ∷ w.heap }) k' claims
  agrees_kept count w k k' claims x a heap-is inside meets keeps = record {
    items = λ y p at. elim (cases_Bool (is_same y x)) [
      | inl same ↦ (let p-is : length w.heap ≡ p = some_get (length w.heap) p (sym (place_new y x w.heap same) ∙ at) in
          ap (λ (z : List (Item Tree)). slice_get z p) heap-is ∙ slice_last (Item Tree) k.heap (item_of claims x) p (sym p-is ∙ sym a.long)
          ∙ ap (λ (z : Kept). Some (item_of claims z)) (sym (same_is y x same)))
      | inr differs ↦ ap (λ (z : List (Item Tree)). slice_get z p) heap-is
          ∙ extends_append k.heap (item_of claims x ∷ []) p (item_of claims y) (a.items y p (sym (place_old y x w.heap differs) ∙ at))
    ];
    long = (let l = ap length heap-is ∙ length-append k.heap (item_of claims x ∷ []) in let m = a.long in omega (arith, l, m));
    lets = a.lets;
    below = λ m p at. elim (cases_Bool (is_same (first_part m) x)) [
      | inl same ↦ inside m (sym (same_is (first_part m) x same))
      | inr differs ↦ a.below m p (sym (place_old (first_part m) x w.heap differs) ∙ at)
    ];
    met = λ y has. elim (cases_Bool (is_same (expression (var y)) x)) [
      | inl same ↦ (length w.heap, place_new (expression (var y)) x w.heap same)
      | inr differs ↦ elim (meets y has) [
        | inl old ↦ (let q = a.met y old in (q.0, place_old (expression (var y)) x w.heap differs ∙ q.1))
        | inr is ↦ (length w.heap, place_new (expression (var y)) x w.heap (ap (is_same (expression (var y))) is ∙ eq-eqb y y refl))
      ]
    ];
    params = λ y lt. keeps y (a.params y lt);
    there = λ i lt. elim (cases_Bool (is_same (hypothesis i) x)) [
      | inl same ↦ (length w.heap, place_new (hypothesis i) x w.heap same)
      | inr differs ↦ (let q = a.there i lt in (q.0, place_old (hypothesis i) x w.heap differs ∙ q.1))
    ];
  }

  -- a command that puts this into the heap, and builds these
  kept_taken : (Q : Tree → Type 0) (count : ℕ) (claims : List Tree) (c : ProofCode) (v : ℕ) (x : Kept) (bs : List Tree) (w : Writing) (k next : Work) → Agrees count w k claims → next.heap ≡ k.heap ++ item_of claims x ∷ []
      → ((m : ℕ) → x ≡ first_part m → m < length claims) → ((y : ℕ) → Contains next.met y → Contains k.met y ⊎ (x ≡ expression (var y))) → ((y : ℕ) → Contains k.met y → Contains next.met y)
      → Step gaps env ctx k c v next → IsPlain (c, v) → built c next ≡ bs → AreDistinct bs → ((j : ℕ) (e : Tree) → slice_get bs j ≡ Some e → (x ≡ expression e) × (place_in x w.heap ≡ None))
      → ((e : Tree) → x ≡ expression e → Q e) → Taken Q count w k claims (keeping c v x w) next.stack next.hyps
  kept_taken Q count claims c v x bs w k next agrees heap-is inside meets keeps step is-plain built-is distinct are news = record {
    work = next;
    newer = [];
    built_are = bs;
    builds = (next, [], step, (refl, refl), sym built-is ∙ sym (append-nil (built c next)));
    plain = (is-plain, tt);
    stack = refl;
    assumed = refl;
    agrees = subst (Agrees count (record w { heap = x ∷ w.heap }) next) (sym (append-nil claims)) (agrees_kept count w k next claims x agrees heap-is inside meets keeps);
    distinct = distinct;
    fresh = λ j e at. (let h = are j e at in ap (λ (z : Kept). place_in z w.heap) (sym h.0) ∙ h.1);
    placed = λ j e at. (let h = are j e at in (length w.heap, place_new (expression e) x w.heap (ap (is_same (expression e)) h.0 ∙ same_tree-refl e)));
    grows = λ y p at. elim (cases_Bool (is_same y x)) [ inl same ↦ (length w.heap, place_new y x w.heap same) | inr differs ↦ (p, place_old y x w.heap differs ∙ at) ];
    news = λ e p at. elim (cases_Bool (is_same (expression e) x)) [
      | inl same ↦ inr (news e (sym (same_is (expression e) x same)))
      | inr differs ↦ inl (p, sym (place_old (expression e) x w.heap differs) ∙ at)
    ];
  }

  -- what stands in the heap is referred to, and what doesn't is written
  takes_kept : (Q : Tree → Type 0) (count : ℕ) (world : List Tree) (x : Kept) (f : Writer) (xs : List (Item Tree)) (i : Item Tree) → ((since : List Tree) → item_of (world ++ since) x ≡ i)
      → ((k : Work) → IsReferred i k (stacked k (i ∷ k.stack)))
      → ((w : Writing) (k : Work) (since : List Tree) → place_in x w.heap ≡ None → Agrees count w k (world ++ since) → k.stack ≡ xs → Taken Q count w k (world ++ since) (f w) (i ∷ xs) k.hyps)
      → Takes Q count world (unless_kept x f) xs (i ∷ xs)
  takes_kept Q count world x f xs i item refers otherwise w k since agrees on = elim (none_or_some (place_in x w.heap)) [
    | inl absent ↦ subst (λ (r : Written). Taken Q count w k (world ++ since) r (i ∷ xs) k.hyps) (sym (not_kept x f w absent)) (otherwise w k since absent agrees on)
    | inr (p, at) ↦ subst (λ (r : Written). Taken Q count w k (world ++ since) r (i ∷ xs) k.hyps) (sym (kept_there x f w p at))
        (takes_here p (agrees.items x p at ∙ ap (λ (z : Item Tree). Some z) (item since)))
  ]
    where
      takes_here : (p : ℕ) → slice_get k.heap p ≡ Some i → Taken Q count w k (world ++ since) (command code.Ref p w) (i ∷ xs) k.hyps
      takes_here p at = record {
        work = stacked k (i ∷ k.stack);
        newer = [];
        built_are = [];
        builds = (stacked k (i ∷ k.stack), [], (i, at, refers k), (refl, refl), refl);
        plain = (tt, tt);
        stack = ap (λ (z : List (Item Tree)). i ∷ z) on;
        assumed = refl;
        agrees = subst (Agrees count w (stacked k (i ∷ k.stack))) (sym (append-nil (world ++ since))) (agrees_stacked count w k (world ++ since) (i ∷ k.stack) agrees);
        distinct = λ l j e e-at. no_tree (slice_get [] j ≡ Some e → l ≡ j) l e e-at;
        fresh = λ j e e-at. no_tree (place_in (expression e) w.heap ≡ None) j e e-at;
        placed = λ j e e-at. no_tree ((q : ℕ) × (place_in (expression e) w.heap ≡ Some q)) j e e-at;
        grows = λ y q y-at. (q, y-at);
        news = λ e q e-at. inl (q, e-at);
      }

  -- ---- expressions

  dummy_taken : (count : ℕ) (world : List Tree) (x : ℕ) (b : Binder) → slice_get ctx x ≡ Some b → (xs : List (Item Tree)) (w : Writing) (k : Work) (since : List Tree) → place_in (expression (var x)) w.heap ≡ None
      → Agrees count w k (world ++ since) → k.stack ≡ xs → Taken (IsUpTo 1) count w k (world ++ since) (keeping code.Dummy (binder_at ctx x).sort (expression (var x)) w) (expr (var x) ∷ xs) k.hyps
  dummy_taken count world x b at xs w k since absent agrees on =
      let out : Contains k.met x → ⊥ = λ has. (let q = agrees.met x has in none-some q.0 (sym absent ∙ q.1)) in
      let fine = dummies-fine x b at (not_below out (λ lt. agrees.params x lt) (ltb x n) refl) in
      let sort-is : b.sort ≡ (binder_at ctx x).sort = ap (λ (c : Binder). c.sort) (sym (get_or_from_slice_get ctx x b _ at)) in
      let next : Work = record { met = k.met ++ x ∷ []; heap = k.heap ++ expr (var x) ∷ []; stack = expr (var x) ∷ k.stack; hyps = k.hyps } in
      let step : Step gaps env ctx k code.Dummy b.sort next = (x, at ∙ ap (λ (c : Binder). Some c) fine.0, fine.1, out, refl) in
      subst (λ (z : List (Item Tree)). Taken (IsUpTo 1) count w k (world ++ since) (keeping code.Dummy (binder_at ctx x).sort (expression (var x)) w) (expr (var x) ∷ z) k.hyps) on
      (kept_taken (IsUpTo 1) count (world ++ since) code.Dummy (binder_at ctx x).sort (expression (var x)) [] w k next agrees refl (λ m is. absurd cc)
      (λ y has. elim (Contains-append_cases k.met (x ∷ []) y has) [ inl old ↦ inl old | inr last ↦ inr (ap (λ (z : ℕ). expression (var z)) (only x y last)) ])
      (λ y has. Contains-append_left k.met (x ∷ []) y has) (subst (λ (m : ℕ). Step gaps env ctx k code.Dummy m next) sort-is step) tt refl
      (λ i j e e-at. no_tree (slice_get [] j ≡ Some e → i ≡ j) i e e-at) (λ j e e-at. no_tree ((expression (var x) ≡ expression e) × (place_in (expression (var x)) w.heap ≡ None)) j e e-at)
      (λ e is. (let h = ap size (tree_same (var x) e is) in omega (arith, h))))
    where
      not_below : (Contains k.met x → ⊥) → (x < n → Contains k.met x) → (t : Bool) → ltb x n ≡ t → n ≤ x
      not_below out params true is = absurd (out (params (ltb-true x n is)))
      not_below out params false is = ltb-false x n is

      only : (a c : ℕ) → Contains (a ∷ []) c → a ≡ c
      only a c (zero, lt, is) = is
      only a c (suc j, lt, is) = absurd (omega (arith, lt))

  -- an application that doesn't stand there, over its operands
  term_taken : (count : ℕ) (claims : List Tree) (t s : ℕ) (es : Trees) → HasSort (signatures env) ctx (app t es) s → (xs : List (Item Tree)) (w : Writing) (k : Work) → Agrees count w k claims
      → k.stack ≡ above (listed es) xs → place_in (expression (app t es)) w.heap ≡ None
      → Taken (IsUpTo (size (app t es))) count w k claims (keeping code.TermSave t (expression (app t es)) w) (expr (app t es) ∷ xs) k.hyps
  term_taken count claims t s es has xs w k agrees on absent =
      let e : Tree = app t es in
      let next : Work = kept (stacked k (expr e ∷ xs)) (expr e) in
      kept_taken (IsUpTo (size e)) count claims code.TermSave t (expression e) (e ∷ []) w k next agrees refl (λ m is. absurd cc) (λ y has. inl has) (λ y has. has) (
        listed es,
        xs,
        (subst (λ (z : Trees). Sorted (signatures env) ctx (app t z)) (sym (trees_of-listed es)) (s, has), on),
        ap (λ (z : Trees). kept (stacked k (expr (app t z) ∷ xs)) (expr (app t z))) (sym (trees_of-listed es)),
      )
      tt refl (λ i j f i-at j-at. one_alone e i j f i-at j-at) (λ j f at. (ap expression (one_is e j f at), absent))
      (λ f is. (let h = ap size (tree_same e f is) in omega (arith, h)))
    where
      one_is : (a : Tree) (j : ℕ) (f : Tree) → slice_get (a ∷ []) j ≡ Some f → a ≡ f
      one_is a zero f at = from at
        where
          from : ◌≡◌ {A = Option Tree} (Some a) (Some f) → a ≡ f
          from e = cc
      one_is a (suc j) f at = no_tree (a ≡ f) j f at

      one_alone : (a : Tree) (i j : ℕ) (f : Tree) → slice_get (a ∷ []) i ≡ Some f → slice_get (a ∷ []) j ≡ Some f → i ≡ j
      one_alone a zero zero f i-at j-at = refl
      one_alone a zero (suc j) f i-at j-at = no_tree (zero ≡ suc j) j f j-at
      one_alone a (suc i) j f i-at j-at = no_tree (suc i ≡ j) i f i-at

  mutual
    expr_taken : (count : ℕ) (world : List Tree) (e : Tree) (s : ℕ) → HasSort (signatures env) ctx e s → (xs : List (Item Tree)) → Takes (IsUpTo (size e)) count world (write_expr ctx e) xs (expr e ∷ xs)
    expr_taken count world (var x) s (b, at, is) xs = takes_kept (IsUpTo 1) count world (expression (var x)) (keeping code.Dummy (binder_at ctx x).sort (expression (var x))) xs (expr (var x)) (λ since. refl) (λ k. refl)
        (dummy_taken count world x b at xs)
    expr_taken count world (app t es) s (d, at, is, fits) xs =
        takes_kept (IsUpTo (size (app t es))) count world (expression (app t es)) (write_exprs ctx es >> keeping code.TermSave t (expression (app t es))) xs (expr (app t es)) (λ since. refl) (λ k. refl)
        (λ w k since absent agrees on.
        let a = takes_wider (IsUpTo (trees_size es)) (IsUpTo (size (app t es))) count world (write_exprs ctx es) xs (above (listed es) xs) (λ e le. omega (arith, le)) (exprs_taken count world es d.params fits xs) w k since agrees on in
        let still : place_in (expression (app t es)) (write_exprs ctx es w).after.heap ≡ None =
        elim (none_or_some (place_in (expression (app t es)) (write_exprs ctx es w).after.heap)) [
          | inl none-yet ↦ none-yet
          | inr (p, p-at) ↦ elim ((exprs_taken count world es d.params fits xs w k since agrees on).news (app t es) p p-at) [
            | inl (q, q-at) ↦ absurd (none-some q (sym absent ∙ q-at))
            | inr le ↦ absurd (omega (arith, le))
          ]
        ] in
        subst (Taken (IsUpTo (size (app t es))) count w k (world ++ since) ((write_exprs ctx es >> keeping code.TermSave t (expression (app t es))) w) (expr (app t es) ∷ xs)) a.assumed
        (taken_then (IsUpTo (size (app t es))) count count w k (world ++ since) (write_exprs ctx es w) (keeping code.TermSave t (expression (app t es))) (above (listed es) xs) (expr (app t es) ∷ xs) k.hyps a.work.hyps a
        (term_taken count ((world ++ since) ++ a.newer) t s es (d, at, is, fits) xs (write_exprs ctx es w).after a.work a.agrees a.stack still)))

    exprs_taken : (count : ℕ) (world : List Tree) (es : Trees) (ps : List Binder) → Fits (signatures env) ctx es ps → (xs : List (Item Tree)) → Takes (IsUpTo (trees_size es)) count world (write_exprs ctx es) xs (above (listed es) xs)
    exprs_taken count world none ps fits xs = takes_nothing (IsUpTo 0) count world xs
    exprs_taken count world (more e es) [] fits xs = absurd fits
    exprs_taken count world (more e es) (p ∷ ps) (has, bound, fits) xs = takes_to (IsUpTo (trees_size (more e es))) count world (write_exprs ctx (more e es)) xs (above (listed es) (expr e ∷ xs)) (above (listed (more e es)) xs)
        (takes_then (IsUpTo (trees_size (more e es))) count world (write_expr ctx e) (write_exprs ctx es) xs (expr e ∷ xs) (above (listed es) (expr e ∷ xs))
        (takes_wider (IsUpTo (size e)) (IsUpTo (trees_size (more e es))) count world (write_expr ctx e) xs (expr e ∷ xs) (λ f le. omega (arith, le)) (expr_taken count world e p.sort has xs))
        (takes_wider (IsUpTo (trees_size es)) (IsUpTo (trees_size (more e es))) count world (write_exprs ctx es) (expr e ∷ xs) (above (listed es) (expr e ∷ xs)) (λ f le. omega (arith, le)) (exprs_taken count world es ps fits (expr e ∷ xs))))
        (above-more e (listed es) xs)

  pub any_expr : (count : ℕ) (world : List Tree) (e : Tree) (s : ℕ) → HasSort (signatures env) ctx e s → (xs : List (Item Tree)) → Takes Any count world (write_expr ctx e) xs (expr e ∷ xs)
  any_expr count world e s has xs = takes_wider (IsUpTo (size e)) Any count world (write_expr ctx e) xs (expr e ∷ xs) (λ f le. tt) (expr_taken count world e s has xs)

  any_exprs : (count : ℕ) (world : List Tree) (es : Trees) (ps : List Binder) → Fits (signatures env) ctx es ps → (xs : List (Item Tree)) → Takes Any count world (write_exprs ctx es) xs (above (listed es) xs)
  any_exprs count world es ps fits xs = takes_wider (IsUpTo (trees_size es)) Any count world (write_exprs ctx es) xs (above (listed es) xs) (λ f le. tt) (exprs_taken count world es ps fits xs)

  -- ---- conversions

  module _ (count : ℕ) where
    mutual
      payment_taken : (world : List Tree) (c : Conversion) → GapsOnly (gaps ≡ true) c → (l r : Tree) → Between env ctx c l r → (rest : List (Item Tree)) → Takes Any count world (write_payment env ctx c) (obligation l r ∷ rest) rest
      payment_taken world (refl_conv e) may l r (_, _, l-is, r-is) rest = takes_command Any count world code.Refl 0 (obligation l r ∷ rest) rest refl (λ k. refl)
          (λ k on. (e, rest, on ∙ ap (λ (z : Tree). obligation z r ∷ rest) l-is ∙ ap (λ (z : Tree). obligation e z ∷ rest) r-is, refl))
      payment_taken world (sym_conv c) may l r (_, _, between) rest = takes_then Any count world (command code.Symm 0) (write_payment env ctx c) (obligation l r ∷ rest) (obligation r l ∷ rest) rest
          (takes_command Any count world code.Symm 0 (obligation l r ∷ rest) (obligation r l ∷ rest) refl (λ k. refl) (λ k on. (l, r, rest, on, refl))) (payment_taken world c may r l between rest)
      payment_taken world (cong_conv t cs) may l r (_, _, (ls, rs, l-is, r-is, all)) rest =
          takes_then Any count world (command code.Cong 0) (write_payments env ctx cs) (obligation l r ∷ rest) (sides (listed ls) (listed rs) rest) rest
          (takes_command Any count world code.Cong 0 (obligation l r ∷ rest) (sides (listed ls) (listed rs) rest) refl (λ k. refl)
          (λ k on. (t, ls, rs, rest, on ∙ ap (λ (z : Tree). obligation z r ∷ rest) l-is ∙ ap (λ (z : Tree). obligation (app t ls) z ∷ rest) r-is, refl)))
          (payments_taken world cs may ls rs all rest)
      payment_taken world (unfold_conv t es ys c) may l r (l-sorted, r-sorted, l-is, (d, dummies, body, is, fits, fresh, between)) rest =
          let x : Tree = instance (followed_by es (variables ys)) (body_at env t) in
          let b-is : body_at env t ≡ body = body_is env t d dummies body is in
          let x-is : x ≡ instance (followed_by es (variables ys)) body = ap (instance (followed_by es (variables ys))) b-is in
          let xs : List (Item Tree) = obligation l r ∷ rest in
          let all : Between env ctx (unfold_conv t es ys c) l r = (l-sorted, r-sorted, l-is, (d, dummies, body, is, fits, fresh, between)) in
          let left = left_sorted env ctx t es ys c l r all in
          let right = unfolded_sorted env ctx t es ys c l r all in
          takes_then Any count world (write_expr ctx (app t es)) (write_expr ctx x >> command code.Unfold 0 >> write_payment env ctx c) xs (expr (app t es) ∷ xs) rest (any_expr count world (app t es) left.0 left.1 xs)
          (takes_then Any count world (write_expr ctx x) (command code.Unfold 0 >> write_payment env ctx c) (expr (app t es) ∷ xs) (expr x ∷ expr (app t es) ∷ xs) rest (any_expr count world x right.0 right.1 (expr (app t es) ∷ xs))
          (takes_then Any count world (command code.Unfold 0) (write_payment env ctx c) (expr x ∷ expr (app t es) ∷ xs) (obligation x r ∷ rest) rest
          (takes_command Any count world code.Unfold 0 (expr x ∷ expr (app t es) ∷ xs) (obligation x r ∷ rest) refl (λ k. refl)
          (λ k on. unfold_step gaps env ctx t es ys d dummies body x r rest is fresh x-is k (on ∙ ap (λ (z : Tree). expr x ∷ expr (app t es) ∷ obligation z r ∷ rest) l-is)))
          (payment_taken world c may x r (subst (λ (z : Tree). Between env ctx c z r) (sym x-is) between) rest)))
      payment_taken world (gap_conv a b) may l r (_, _, _, _, (s, l-has, r-has)) rest = takes_command Any count world code.Sorry 0 (obligation l r ∷ rest) rest refl (λ k. refl)
          (λ k on. (may, inr (l, r, rest, s, on, l-has, r-has, refl)))

      payments_taken : (world : List Tree) (cs : Conversions) → AllGapsOnly (gaps ≡ true) cs → (ls rs : Trees) → AllBetween env ctx cs ls rs → (rest : List (Item Tree))
          → Takes Any count world (write_payments env ctx cs) (sides (listed ls) (listed rs) rest) rest
      payments_taken world no_convs may none none all rest = takes_nothing Any count world rest
      payments_taken world (more_convs c cs) (c-may, may) (more l ls) (more r rs) (between, all) rest =
          takes_then Any count world (write_payment env ctx c) (write_payments env ctx cs) (obligation l r ∷ sides (listed ls) (listed rs) rest) (sides (listed ls) (listed rs) rest) rest
          (payment_taken world c c-may l r between (sides (listed ls) (listed rs) rest)) (payments_taken world cs may ls rs all rest)
      payments_taken world (more_convs c cs) may (more l ls) none all rest = absurd all
      payments_taken world _ may _ _ all rest = absurd all

    -- ---- proofs

    -- what is written for the names of lets leaves proofs of these
    pub record Names (world : List Tree) (lets : List Writer) (claims : List Tree) : Type 0 where
      pub many : length lets ≡ length claims
      pub each : (i : ℕ) → i < length claims → (xs : List (Item Tree)) → Takes Any count world (get_or lets i nothing) xs (proof (claim_at claims i) ∷ xs)

    -- a let's first part is saved
    save_taken : (world : List Tree) (m : ℕ) (e : Tree) → m < length world → claim_at world m ≡ e → (xs : List (Item Tree)) → Takes Any count world (keeping code.Save 0 (first_part m)) (proof e ∷ xs) (proof e ∷ xs)
    save_taken world m e lt is xs w k since agrees on =
        let next : Work = kept k (proof e) in
        let item : proof (claim_at (world ++ since) m) ≡ proof e = ap (λ (z : Tree). proof z) (get_or_append_left world since (app 0 none) m lt ∙ is) in
        subst (λ (z : List (Item Tree)). Taken Any count w k (world ++ since) (keeping code.Save 0 (first_part m) w) z k.hyps) on
        (kept_taken Any count (world ++ since) code.Save 0 (first_part m) [] w k next agrees (ap (λ (z : Item Tree). k.heap ++ z ∷ []) (sym item))
        (λ j same. (let l = length-append world since in let j-is = number_same m j same in omega (arith, lt, l, j-is))) (λ y has. inl has) (λ y has. has)
        (proof e, xs, on, refl, refl) refl refl (λ i j f at. no_tree (slice_get [] j ≡ Some f → i ≡ j) i f at)
        (λ j f at. no_tree ((first_part m ≡ expression f) × (place_in (first_part m) w.heap ≡ None)) j f at) (λ f same. tt))

    -- a let's name, where its first part proves e
    name_taken : (world : List Tree) (m : ℕ) (e : Tree) (f : Writer) → m < length world → claim_at world m ≡ e → ((xs : List (Item Tree)) → Takes Any count world f xs (proof e ∷ xs)) → (xs : List (Item Tree))
        → Takes Any count world (at_name m f) xs (proof e ∷ xs)
    name_taken world m e f lt is first xs = takes_kept Any count world (first_part m) (f >> keeping code.Save 0 (first_part m)) xs (proof e)
        (λ since. ap (λ (z : Tree). proof z) (get_or_append_left world since (app 0 none) m lt ∙ is)) (λ k. refl)
        (λ w k since absent agrees on. takes_then Any count world f (keeping code.Save 0 (first_part m)) xs (proof e ∷ xs) (proof e ∷ xs) (first xs) (save_taken world m e lt is xs) w k since agrees on)

    names_later : (world newer : List Tree) (lets : List Writer) (claims : List Tree) → Names world lets claims → Names (world ++ newer) lets claims
    names_later world newer lets claims names = record {
      many = names.many;
      each = λ i lt xs. takes_later Any count world newer (get_or lets i nothing) xs (proof (claim_at claims i) ∷ xs) (names.each i lt xs);
    }

    -- one let more
    names_more : (world : List Tree) (lets : List Writer) (claims : List Tree) (f : Writer) (e : Tree) → Names world lets claims → ((xs : List (Item Tree)) → Takes Any count world f xs (proof e ∷ xs))
        → Names world (lets ++ f ∷ []) (claims ++ e ∷ [])
    names_more world lets claims f e names one = record {
      many = (let a = length-append lets (f ∷ []) in let b = length-append claims (e ∷ []) in let c = names.many in omega (arith, a, b, c));
      each = λ i lt xs. elim (cases_eq i (length claims)) [
        | inl is ↦ (let l-is : i ≡ length lets = is ∙ sym names.many in
            subst (λ (g : Writer). Takes Any count world g xs (proof (claim_at (claims ++ e ∷ []) i) ∷ xs)) (sym (ap (λ (j : ℕ). get_or (lets ++ f ∷ []) j nothing) l-is ∙ get_end Writer lets f nothing))
            (subst (λ (z : Tree). Takes Any count world f xs (proof z ∷ xs)) (sym (ap (claim_at (claims ++ e ∷ [])) is ∙ get_end Tree claims e (app 0 none))) (one xs)))
        | inr other ↦ (let lt' : i < length claims = strict i (length claims) (let b = length-append claims (e ∷ []) in omega (arith, lt, b)) other in
            subst (λ (g : Writer). Takes Any count world g xs (proof (claim_at (claims ++ e ∷ []) i) ∷ xs)) (sym (get_or_append_left lets (f ∷ []) nothing i (let m = names.many in omega (arith, m, lt'))))
            (subst (λ (z : Tree). Takes Any count world (get_or lets i nothing) xs (proof z ∷ xs)) (sym (get_or_append_left claims (e ∷ []) (app 0 none) i lt')) (names.each i lt' xs)))
      ];
    }

    -- a let is met
    agrees_met : (w : Writing) (k : Work) (claims : List Tree) (e : Tree) → Agrees count w k claims → Agrees count (record w { lets = suc w.lets }) k (claims ++ e ∷ [])
    agrees_met w k claims e a = record {
      items = λ x p at. a.items x p at ∙ ap (λ (z : Item Tree). Some z) (same x p at);
      long = a.long;
      lets = (let l = length-append claims (e ∷ []) in let m = a.lets in omega (arith, l, m));
      below = λ m p at. (let l = length-append claims (e ∷ []) in let b = a.below m p at in omega (arith, l, b));
      met = a.met;
      params = a.params;
      there = a.there;
    }
      where
        same : (x : Kept) (p : ℕ) → place_in x w.heap ≡ Some p → item_of claims x ≡ item_of (claims ++ e ∷ []) x
        same (first_part m) p at = ap (λ (z : Tree). proof z) (sym (get_or_append_left claims (e ∷ []) (app 0 none) m (a.below m p at)))
        same _ p at = refl

    module _ (all-there : count ≡ length hyps) where
      hyp_taken : (world : List Tree) (i : ℕ) → i < length hyps → (xs : List (Item Tree)) → Takes Any count world (unless_kept (hypothesis i) nothing) xs (proof (claim_at hyps i) ∷ xs)
      hyp_taken world i lt xs = takes_kept Any count world (hypothesis i) nothing xs (proof (claim_at hyps i)) (λ since. refl) (λ k. refl)
          (λ w k since absent agrees on. absurd (let q = agrees.there i (omega (arith, all-there, lt)) in none-some q.0 (sym absent ∙ q.1)))

      mutual
        pub proof_taken : (world : List Tree) (lets : List Writer) (claims : List Tree) → Names world lets claims → (p : Proof) → IsSound gaps env ctx hyps claims p → (xs : List (Item Tree))
            → Takes Any count world (write_proof env ctx lets p) xs (proof (proved env hyps claims p) ∷ xs)
        proof_taken world lets claims names (by_hyp i) sound xs = hyp_taken world i sound xs
        proof_taken world lets claims names (by_name i) sound xs = names.each i sound xs
        proof_taken world lets claims names (by_citation T es ps) (citable, sound) xs =
            let hs : List Tree = all_proved env hyps claims ps in
            let e : Tree = instance es (conclusion_of env T) in
            let ys : List (Item Tree) = map proof (reverse hs) ++ xs in
            let sorted = cited_sorted env ctx T es hs citable in
            takes_then Any count world (write_proofs env ctx lets ps) (write_exprs ctx es >> write_expr ctx e >> command code.Thm T) xs ys (proof e ∷ xs) (proofs_taken world lets claims names ps sound xs)
            (takes_then Any count world (write_exprs ctx es) (write_expr ctx e >> command code.Thm T) ys (above (listed es) ys) (proof e ∷ xs) (any_exprs count world es citable.0.params citable.2 ys)
            (takes_then Any count world (write_expr ctx e) (command code.Thm T) (above (listed es) ys) (expr e ∷ above (listed es) ys) (proof e ∷ xs) (any_expr count world e sorted.0 sorted.1 (above (listed es) ys))
            (takes_command Any count world code.Thm T (expr e ∷ above (listed es) ys) (proof e ∷ xs) tt (λ k. refl) (λ k on. thm_step gaps env ctx T es hs xs ys e citable refl refl k on))))
        proof_taken world lets claims names (by_conv e c p) ((between, may), sound) xs =
            let f : Tree = proved env hyps claims p in
            let sorted = between_sorted env ctx c e f between in
            takes_then Any count world (write_expr ctx e) (write_proof env ctx lets p >> command code.Conv 0 >> write_payment env ctx c) xs (expr e ∷ xs) (proof e ∷ xs) (any_expr count world e sorted.0 sorted.1 xs)
            (takes_then Any count world (write_proof env ctx lets p) (command code.Conv 0 >> write_payment env ctx c) (expr e ∷ xs) (proof f ∷ expr e ∷ xs) (proof e ∷ xs) (proof_taken world lets claims names p sound (expr e ∷ xs))
            (takes_then Any count world (command code.Conv 0) (write_payment env ctx c) (proof f ∷ expr e ∷ xs) (obligation e f ∷ proof e ∷ xs) (proof e ∷ xs)
            (takes_command Any count world code.Conv 0 (proof f ∷ expr e ∷ xs) (obligation e f ∷ proof e ∷ xs) refl (λ k. refl) (λ k on. (e, f, xs, on, refl)))
            (payment_taken world c may e f between (proof e ∷ xs))))
        proof_taken world lets claims names (by_let p q) (first-sound, sound) xs =
            λ w k since agrees on.
            let e : Tree = proved env hyps claims p in
            let later : List Tree = (world ++ since) ++ e ∷ [] in
            let f : Writer = write_proof env ctx lets p in
            let v : Writing = record { heap = w.heap; lets = suc w.lets } in
            let names' : Names later lets claims = names_later (world ++ since) (e ∷ []) lets claims (names_later world since lets claims names) in
            let n-is : w.lets ≡ length (world ++ since) = agrees.lets in
            let name : (ys : List (Item Tree)) → Takes Any count later (at_name w.lets f) ys (proof e ∷ ys) =
            name_taken later w.lets e f (let l = length-append (world ++ since) (e ∷ []) in omega (arith, l, n-is))
            (ap (claim_at later) n-is ∙ get_end Tree (world ++ since) e (app 0 none)) (λ ys. proof_taken later lets claims names' p first-sound ys) in
            let t = proof_taken later (lets ++ at_name w.lets f ∷ []) (claims ++ e ∷ []) (names_more later lets claims (at_name w.lets f) e names' name) q sound xs v k []
            (subst (Agrees count v k) (sym (append-nil later)) (agrees_met w k (world ++ since) e agrees)) on in
            record {
              work = t.work;
              newer = e ∷ t.newer;
              built_are = t.built_are;
              builds = t.builds;
              plain = t.plain;
              stack = t.stack;
              assumed = t.assumed;
              agrees = subst (Agrees count (write_proof env ctx (lets ++ at_name w.lets f ∷ []) q v).after t.work)
                  (ap (λ (z : List Tree). z ++ t.newer) (append-nil later) ∙ append_assoc (world ++ since) (e ∷ []) t.newer) t.agrees;
              distinct = t.distinct;
              fresh = t.fresh;
              placed = t.placed;
              grows = t.grows;
              news = t.news;
            }
        proof_taken world lets claims names (by_gap e) (may, (s, has, claim)) xs = takes_then Any count world (write_expr ctx e) (command code.Sorry 0) xs (expr e ∷ xs) (proof e ∷ xs) (any_expr count world e s has xs)
            (takes_command Any count world code.Sorry 0 (expr e ∷ xs) (proof e ∷ xs) refl (λ k. refl) (λ k on. (may, inl (e, xs, on, (s, has, claim), refl))))

        proofs_taken : (world : List Tree) (lets : List Writer) (claims : List Tree) → Names world lets claims → (ps : Proofs) → AreSound gaps env ctx hyps claims ps → (xs : List (Item Tree))
            → Takes Any count world (write_proofs env ctx lets ps) xs (map proof (reverse (all_proved env hyps claims ps)) ++ xs)
        proofs_taken world lets claims names no_proofs sound xs = takes_nothing Any count world xs
        proofs_taken world lets claims names (more_proofs p ps) (here, sound) xs =
            let e : Tree = proved env hyps claims p in
            let es : List Tree = all_proved env hyps claims ps in
            takes_to Any count world (write_proofs env ctx lets (more_proofs p ps)) xs (map proof (reverse es) ++ proof e ∷ xs) (map proof (reverse (e ∷ es)) ++ xs)
            (takes_then Any count world (write_proof env ctx lets p) (write_proofs env ctx lets ps) xs (proof e ∷ xs) (map proof (reverse es) ++ proof e ∷ xs)
            (proof_taken world lets claims names p here xs) (proofs_taken world lets claims names ps sound (proof e ∷ xs)))
            (proofs-more e es xs)

  -- ---- hypotheses

  hyp_assumed : (j : ℕ) (h : Tree) → claim_at hyps j ≡ h → HasProvable env ctx h → (w : Writing) (k : Work) (claims : List Tree) → Agrees j w k claims → k.stack ≡ []
      → Taken Any (suc j) w k claims (write_hyp ctx j h w) [] (k.hyps ++ h ∷ [])
  hyp_assumed j h h-is (s, has, claim) w k claims agrees on =
      let a = any_expr j [] h s has [] w k claims agrees on in
      let v : Writing = (write_expr ctx h w).after in
      let later : List Tree = claims ++ a.newer in
      let next : Work = record { met = a.work.met; heap = a.work.heap ++ proof h ∷ []; stack = []; hyps = a.work.hyps ++ h ∷ [] } in
      let b : Taken Any j v a.work later (keeping code.Hyp 0 (hypothesis j) v) [] (a.work.hyps ++ h ∷ []) =
      kept_taken Any j later code.Hyp 0 (hypothesis j) [] v a.work next a.agrees (ap (λ (z : Tree). a.work.heap ++ proof z ∷ []) (sym h-is)) (λ m is. absurd cc) (λ y y-has. inl y-has) (λ y y-has. y-has)
      (h, [], a.stack, (s, has, claim), refl) refl refl (λ i l f at. no_tree (slice_get [] l ≡ Some f → i ≡ l) i f at)
      (λ l f at. no_tree ((hypothesis j ≡ expression f) × (place_in (hypothesis j) v.heap ≡ None)) l f at) (λ f same. tt) in
      let c : Taken Any (suc j) v a.work later (keeping code.Hyp 0 (hypothesis j) v) [] (a.work.hyps ++ h ∷ []) = record {
        work = b.work;
        newer = b.newer;
        built_are = b.built_are;
        builds = b.builds;
        plain = b.plain;
        stack = b.stack;
        assumed = b.assumed;
        agrees = record {
          items = b.agrees.items;
          long = b.agrees.long;
          lets = b.agrees.lets;
          below = b.agrees.below;
          met = b.agrees.met;
          params = b.agrees.params;
          there = λ i lt. elim (cases_eq i j) [
            | inl is ↦ (length v.heap, place_new (hypothesis i) (hypothesis j) v.heap (eq-eqb i j is))
            | inr other ↦ b.agrees.there i (strict i j (omega (arith, lt)) other)
          ];
        };
        distinct = b.distinct;
        fresh = b.fresh;
        placed = b.placed;
        grows = b.grows;
        news = b.news;
      } in
      subst (Taken Any (suc j) w k claims (write_hyp ctx j h w) []) (ap (λ (z : List Tree). z ++ h ∷ []) a.assumed)
      (taken_then Any j (suc j) w k claims (write_expr ctx h w) (keeping code.Hyp 0 (hypothesis j)) (expr h ∷ []) [] k.hyps (a.work.hyps ++ h ∷ []) a c)

  pub hyps_assumed : (hs front : List Tree) (j : ℕ) → j ≡ length front → hyps ≡ front ++ hs → ((i : ℕ) (e : Tree) → slice_get hyps i ≡ Some e → HasProvable env ctx e) → (w : Writing) (k : Work) (claims : List Tree)
      → Agrees j w k claims → k.stack ≡ [] → k.hyps ≡ front → Taken Any (length hyps) w k claims (write_hyps ctx j hs w) [] hyps
  hyps_assumed [] front j j-is is provable w k claims agrees on assumed =
      let front-is : hyps ≡ front = is ∙ append-nil front in
      subst (λ (i : ℕ). Taken Any i w k claims (nothing w) [] hyps) (j-is ∙ sym (ap length front-is))
      (subst (Taken Any j w k claims (nothing w) []) (assumed ∙ sym front-is) (takes_nothing Any j [] [] w k claims agrees on))
  hyps_assumed (h ∷ hs) front j j-is is provable w k claims agrees on assumed =
      let at : slice_get hyps j ≡ Some h = ap (λ (z : List Tree). slice_get z j) is ∙ slice_here front h hs j j-is in
      let h-is : claim_at hyps j ≡ h = get_or_from_slice_get hyps j h (app 0 none) at in
      let a = hyp_assumed j h h-is (provable j h at) w k claims agrees on in
      taken_then Any (suc j) (length hyps) w k claims (write_hyp ctx j h w) (write_hyps ctx (suc j) hs) [] [] (k.hyps ++ h ∷ []) hyps a
      (hyps_assumed hs (front ++ h ∷ []) (suc j) (let l = length-append front (h ∷ []) in omega (arith, l, j-is)) (is ∙ sym (append_assoc front (h ∷ []) hs)) provable
      (write_hyp ctx j h w).after a.work (claims ++ a.newer) a.agrees a.stack (a.assumed ∙ ap (λ (z : List Tree). z ++ h ∷ []) assumed))
    where
      slice_here : (xs : List Tree) (y : Tree) (ys : List Tree) (i : ℕ) → i ≡ length xs → slice_get (xs ++ y ∷ ys) i ≡ Some y
      slice_here [] y ys zero same = refl
      slice_here (x ∷ xs) y ys (suc i) same = slice_here xs y ys i (omega (arith, same))
      slice_here _ y ys _ same = absurd (omega (arith, same))

-- The commands of a theorem's body have a Sorry for each gap that its proof uses, and no other. The gaps of a let's part count
-- when the let is met, if it will be named, and wait until the part is emitted. A let that a proof comes to name stands in
-- the heap behind what is written, and with it all that its part comes to name; so nothing waits in the end.
use Rattle.std.specs.Prelude.{ℕ, ◌≡◌, ◌<◌, ◌+◌, ◌*◌, ◌⊎◌, ◌&&◌, if◌then◌else◌, Bool, true, false, List, [], ◌∷◌, ◌++◌, length, get_or, slice_get, Option, Some, None}
use Rattle.std.proofs.Common.{zero, suc, refl, sym, ap, ◌∙◌, subst, arith, append_assoc, append-nil, inl, inr}
use Rattle.std.proofs.lemmas.Bool.{cases_Bool, eqb-true, eq-eqb, false≢true, or_cases, or_left, or_right, or_parts, and_parts, and_from}
use Rattle.std.proofs.lemmas.List.{length-append}
use Rattle.std.proofs.lemmas.Option.{none-some, same_Some}
use Rattle.mz_base.proofs.Offered.{length-push, slice_get-append, slice_get-front, slice_get-last}
use Rattle.mz_cmd.specs.declared.code.ProofCode.{ProofCode}
use Rattle.mz_cmd.specs.declared.code.ProofCode.TheVariants as code
use Rattle.mz_logic_theory.specs.Tree.{Tree, app, instance, followed_by, variables, size, trees_size}
use Rattle.mz_logic_theory.specs.Declaration.{Declaration}
use Rattle.mz_logic_theory.specs.Conversions.{Conversion, Conversions, refl_conv, sym_conv, cong_conv, unfold_conv, gap_conv, no_convs, more_convs}
use Rattle.mz_logic_theory.specs.declared.binder.Binder.{Binder}
use Rattle.mz_mmu_theory.specs.Proof.{Proof, Proofs, by_hyp, by_name, by_citation, by_conv, by_let, by_gap, no_proofs, more_proofs}
use Rattle.mz_machine_theory.specs.Spells.{trees_of}
use Rattle.mz_machine_theory.proofs.Offered.{listed-trees_of}
use Rattle.mz_emit_theory.specs.Claims.{conclusion_of}
use Rattle.mz_emit_theory.specs.Costs.{body_at}
use Rattle.mz_emit_theory.specs.Uses.{a_gap, command_uses, commands_use, conv_uses}
use Rattle.mz_emit_theory.specs.Weights.{conv_weight}
use Rattle.mz_emit_theory.specs.BodyWriting.{Kept, hypothesis, first_part, is_same, Writing, place_in, Written, Writer, nothing, ◌>>◌, command, keeping, unless_kept, write_expr, write_exprs, write_payment, write_payments, at_name, write_proof, write_proofs, write_hyps, at_first, theorem_written}
use Rattle.mz_emit_bodies.specs.GapLaws.{comes_to, some_comes_to, gaps_in, gaps_among, used_gaps, gaps_used, sorries, EachUsedGapHasItsSorry}
use Rattle.mz_emit_bodies.proofs.Heaps.{none_or_some, kept_there, not_kept, no_part}
use Rattle.mz_emit_bodies.proofs.Waiting.{IsSaved, saved_now, saved_still, saved_before, waits_one, waiting, waiting_same, waiting_join, waiting_less, waiting_one, waiting_none, waits_saved, waits_free, waiting_new}
use Rattle.mz_emit_bodies.proofs.QuietWriters.{Extends, extends_self, extends_then, IsQuiet, quiet_nothing, quiet_one, quiet_five, quiet_then, quiet_within, quiet_kept, expr_quiet, exprs_quiet, hyps_quiet, payment_quiet}

-- ---- how many commands use a gap

sorries_join : (cs ds : List (ProofCode × ℕ)) → sorries (cs ++ ds) ≡ sorries cs + sorries ds
sorries_join [] ds = omega arith
sorries_join (c ∷ cs) ds = (let r = sorries_join cs ds in omega (arith, r))

none_counted : (cs : List (ProofCode × ℕ)) → commands_use a_gap cs ≡ false → sorries cs ≡ 0
none_counted [] is = refl
none_counted (c ∷ cs) is =
    let parts = or_parts (command_uses a_gap c.0 c.1) (commands_use a_gap cs) is in
    let one : ◌≡◌ {A = ℕ} (if command_uses a_gap c.0 c.1 then 1 else 0) 0 = ap (λ (b : Bool). if b then 1 else 0) parts.0 in
    let r = none_counted cs parts.1 in
    omega (arith, one, r)

-- what it writes has so many, whatever is in the heap
abbrev Has : Writer → ℕ → Type 0
Has f n = (w : Writing) → sorries (f w).commands ≡ n

has_then : (f g : Writer) (n m : ℕ) → Has f n → Has g m → Has (f >> g) (n + m)
has_then f g n m first second w =
    (let j = sorries_join (f w).commands (g (f w).after).commands in let a = first w in let b = second (f w).after in omega (arith, j, a, b))

has_to : (f : Writer) (n m : ℕ) → n ≡ m → Has f n → Has f m
has_to f n m is = subst (Has f) is

has_none : (f : Writer) (n : ℕ) → IsQuiet a_gap f false n → Has f 0
has_none f n q w = none_counted (f w).commands (q.uses w)

module _ (env : List Declaration) (ctx : List Binder) where
  mutual
    payment_has : (c : Conversion) → Has (write_payment env ctx c) (gaps_in c)
    payment_has (sym_conv c) = has_to (write_payment env ctx (sym_conv c)) (0 + gaps_in c) (gaps_in c) (omega arith)
        (has_then (command code.Symm 0) (write_payment env ctx c) 0 (gaps_in c) (λ w. omega arith) (payment_has c))
    payment_has (cong_conv t cs) = has_to (write_payment env ctx (cong_conv t cs)) (0 + gaps_among cs) (gaps_among cs) (omega arith)
        (has_then (command code.Cong 0) (write_payments env ctx cs) 0 (gaps_among cs) (λ w. omega arith) (payments_have cs))
    payment_has (unfold_conv t es ys c) =
        let l : Tree = app t es in
        let x : Tree = instance (followed_by es (variables ys)) (body_at env t) in
        has_to (write_payment env ctx (unfold_conv t es ys c)) (0 + (0 + (0 + gaps_in c))) (gaps_in c) (omega arith)
        (has_then (write_expr ctx l) (write_expr ctx x >> command code.Unfold 0 >> write_payment env ctx c) 0 (0 + (0 + gaps_in c)) (has_none (write_expr ctx l) (5 * size l) (expr_quiet a_gap ctx l))
        (has_then (write_expr ctx x) (command code.Unfold 0 >> write_payment env ctx c) 0 (0 + gaps_in c) (has_none (write_expr ctx x) (5 * size x) (expr_quiet a_gap ctx x))
        (has_then (command code.Unfold 0) (write_payment env ctx c) 0 (gaps_in c) (λ w. omega arith) (payment_has c))))
    payment_has _ = λ w. omega arith

    payments_have : (cs : Conversions) → Has (write_payments env ctx cs) (gaps_among cs)
    payments_have no_convs = λ w. omega arith
    payments_have (more_convs c cs) = has_then (write_payment env ctx c) (write_payments env ctx cs) (gaps_in c) (gaps_among cs) (payment_has c) (payments_have cs)

-- ---- lets that were met

-- a let that was met: its part, and the numbers of the lets in sight of it
pub record Met : Type 0 where
  pub sight : List ℕ
  pub part : Proof

-- with these lets in sight, the proof comes to name that with this number
abbrev Reaches : List ℕ → Proof → ℕ → Type 0
Reaches sight p m = (i : ℕ) × (comes_to (length sight) i p ≡ true) × (slice_get sight i ≡ Some m)

abbrev SomeReach : List ℕ → Proofs → ℕ → Type 0
SomeReach sight ps m = (i : ℕ) × (some_comes_to (length sight) i ps ≡ true) × (slice_get sight i ≡ Some m)

abbrev Never : ℕ → Type 0
Never m = ⊥

-- these lets were met; with one of them in the heap, what its part comes to name is there
pub record Stands (met : List Met) (w : Writing) : Type 0 where
  pub lets : w.lets ≡ length met
  pub below : (m : ℕ) → IsSaved w.heap m → m < length met
  pub closed : (k : ℕ) (x : Met) (m : ℕ) → slice_get met k ≡ Some x → IsSaved w.heap k → Reaches x.sight x.part m → IsSaved w.heap m

-- the lets that were met cost so much: what is written has the Sorries of n gaps, and of those that waited before and don't
-- afterwards; of the lets that are met meanwhile none waits; and what R says is in the heap
pub record Done (met : List Met) (costs : List ℕ) (w : Writing) (r : Written) (n : ℕ) (R : ℕ → Type 0) : Type 0 where
  pub next : List Met
  pub further : Extends Met met next
  pub prices : List ℕ
  pub priced : Extends ℕ costs prices
  pub long : length prices ≡ length next
  pub after : Stands next r.after
  pub stays : (m : ℕ) → IsSaved w.heap m → IsSaved r.after.heap m
  pub there : (m : ℕ) → R m → IsSaved r.after.heap m
  pub same : sorries r.commands + waiting r.after.heap 0 prices ≡ waiting w.heap 0 costs + n
  pub settled : waiting r.after.heap (length costs) priced.0 ≡ 0

-- wherever these lets were met, and maybe more
abbrev Does : List Met → List ℕ → Writer → ℕ → (ℕ → Type 0) → Type 0
Does seen known f n R = (w : Writing) (met : List Met) (costs : List ℕ) → Extends Met seen met → Extends ℕ known costs → length costs ≡ length met → Stands met w → Done met costs w (f w) n R

module _ (seen : List Met) (known : List ℕ) where
  does_then : (f g : Writer) (n m : ℕ) (R S T : ℕ → Type 0) → ((k : ℕ) → T k → R k ⊎ S k) → Does seen known f n R → Does seen known g m S → Does seen known (f >> g) (n + m) T
  does_then f g n m R S T either first second w met costs on paid many stands =
      let a = first w met costs on paid many stands in
      let b = second (f w).after a.next a.prices (extends_then Met seen met a.next on a.further) (extends_then ℕ known costs a.prices paid a.priced) a.long a.after in
      let heap : List Kept = (g (f w).after).after.heap in
      record {
        next = b.next;
        further = extends_then Met met a.next b.next a.further b.further;
        prices = b.prices;
        priced = (a.priced.0 ++ b.priced.0, b.priced.1 ∙ ap (λ (z : List ℕ). z ++ b.priced.0) a.priced.1 ∙ append_assoc costs a.priced.0 b.priced.0);
        long = b.long;
        after = b.after;
        stays = λ k saved. b.stays k (a.stays k saved);
        there = λ k t. elim (either k t) [ inl r ↦ b.stays k (a.there k r) | inr s ↦ b.there k s ];
        same = (let j = sorries_join (f w).commands (g (f w).after).commands in let h = a.same in let i = b.same in omega (arith, j, h, i));
        settled =
            let j = waiting_join heap (length costs) a.priced.0 b.priced.0 in
            let less = waiting_less (f w).after.heap heap b.stays (length costs) a.priced.0 in
            let h = a.settled in
            let i = ap (λ (k : ℕ). waiting heap k b.priced.0) (sym (ap length a.priced.1 ∙ length-append costs a.priced.0)) ∙ b.settled in
            omega (arith, j, less, h, i);
      }

  does_to : (f : Writer) (n m : ℕ) (R S : ℕ → Type 0) → n ≡ m → ((k : ℕ) → S k → R k) → Does seen known f n R → Does seen known f m S
  does_to f n m R S is from does w met costs on paid many stands =
      let a = does w met costs on paid many stands in
      record {
        next = a.next;
        further = a.further;
        prices = a.prices;
        priced = a.priced;
        long = a.long;
        after = a.after;
        stays = a.stays;
        there = λ k s. a.there k (from k s);
        same = (let h = a.same in omega (arith, h, is));
        settled = a.settled;
      }

  does_quiet : (f : Writer) (b : Bool) (n k : ℕ) → IsQuiet a_gap f b n → Has f k → Does seen known f k Never
  does_quiet f b n k q has w met costs on paid many stands = record {
    next = met;
    further = extends_self Met met;
    prices = costs;
    priced = ([], sym (append-nil costs));
    long = many;
    after = record {
      lets = q.lets w ∙ stands.lets;
      below = λ m saved. stands.below m (saved.0, sym (q.parts w m) ∙ saved.1);
      closed = λ j x m at saved reach. kept m (stands.closed j x m at (saved.0, sym (q.parts w j) ∙ saved.1) reach);
    };
    stays = kept;
    there = λ m never. absurd never;
    same = (let h = has w in let s = waiting_same w.heap (f w).after.heap (q.parts w) 0 costs in omega (arith, h, s));
    settled = refl;
  }
    where
      kept : (m : ℕ) → IsSaved w.heap m → IsSaved (f w).after.heap m
      kept m saved = (saved.0, q.parts w m ∙ saved.1)

does_later : (seen later : List Met) (known costs : List ℕ) (f : Writer) (n : ℕ) (R : ℕ → Type 0) → Extends Met seen later → Extends ℕ known costs → Does seen known f n R → Does later costs f n R
does_later seen later known costs f n R further more does w met now on paid = does w met now (extends_then Met seen later met further on) (extends_then ℕ known costs now more paid)

-- ---- names

-- the m-th let's part, with so many gaps, which counted when the let was met; while it is emitted they don't wait
module _ (seen : List Met) (x : Met) (base : List ℕ) (m n : ℕ) (f : Writer) (at : slice_get seen m ≡ Some x) (lt : m < length seen) (m-is : m ≡ length base)
    (does : Does seen (base ++ 0 ∷ []) f n (Reaches x.sight x.part)) where
  saved_done : (w : Writing) (met : List Met) (costs : List ℕ) → Extends Met seen met → Extends ℕ (base ++ n ∷ []) costs → length costs ≡ length met → Stands met w
      → place_in (first_part m) w.heap ≡ None → Done met costs w ((f >> keeping code.Save 0 (first_part m)) w) 0 (λ k. k ≡ m)
  saved_done w met costs on (since, costs-are) many stands absent =
      let free : List ℕ = (base ++ 0 ∷ []) ++ since in
      let as-long : length costs ≡ length free =
      (let a = ap length costs-are in let b = length-append (base ++ n ∷ []) since in let c = length-append base (n ∷ []) in let d = length-append (base ++ 0 ∷ []) since in let e = length-append base (0 ∷ []) in
      omega (arith, a, b, c, d, e)) in
      let a = does w met free on (since, refl) (sym as-long ∙ many) stands in
      let newer : List ℕ = a.priced.0 in
      let heap : List Kept = (f w).after.heap in
      let here : slice_get a.next m ≡ Some x =
      (let far = extends_then Met seen met a.next on a.further in ap (λ (z : List Met). slice_get z m) far.1 ∙ slice_get-append seen far.0 m x at) in
      record {
        next = a.next;
        further = a.further;
        prices = costs ++ newer;
        priced = (newer, refl);
        long = (let b = length-append costs newer in let c = ap length a.priced.1 in let d = length-append free newer in let l = a.long in omega (arith, as-long, b, c, d, l));
        after = record {
          lets = a.after.lets;
          below = λ k saved. elim (cases_Bool (is_same (first_part k) (first_part m))) [
            | inl same ↦ (let k-is = eqb-true k m same in let far = extends_then Met seen met a.next on a.further in let l = ap length far.1 in let j = length-append seen far.0 in omega (arith, k-is, l, j, lt))
            | inr differs ↦ a.after.below k (saved_before heap m k differs saved)
          ];
          closed = λ k y j k-at saved reach. saved_still (first_part m) heap j (elim (cases_Bool (is_same (first_part k) (first_part m))) [
            | inl same ↦ a.there j (subst (λ (z : Met). Reaches z.sight z.part j) (same_Some y x (sym k-at ∙ ap (slice_get a.next) (eqb-true k m same) ∙ here)) reach)
            | inr differs ↦ a.after.closed k y j k-at (saved_before heap m k differs saved) reach
          ]);
        };
        stays = λ k saved. saved_still (first_part m) heap k (a.stays k saved);
        there = λ k is. subst (IsSaved (first_part m ∷ heap)) (sym is) (saved_now heap m);
        same =
            let joined = sorries_join (f w).commands ((code.Save, 0) ∷ []) in
            let before = waiting_one w.heap 0 m n base since (omega (arith, m-is)) absent in
            let now-there = ap (waiting w.heap 0) costs-are in
            let after = waiting_none heap 0 m n base (since ++ newer) (omega (arith, m-is)) in
            let next-there = ap (waiting (first_part m ∷ heap) 0) (ap (λ (z : List ℕ). z ++ newer) costs-are ∙ append_assoc (base ++ n ∷ []) since newer) in
            let free-there = ap (waiting heap 0) (a.priced.1 ∙ append_assoc (base ++ 0 ∷ []) since newer) in
            let same = a.same in
            omega (arith, joined, before, now-there, after, next-there, free-there, same);
        settled =
            let less = waiting_less heap (first_part m ∷ heap) (saved_still (first_part m) heap) (length costs) newer in
            let free-settled = ap (λ (k : ℕ). waiting heap k newer) as-long ∙ a.settled in
            omega (arith, less, free-settled);
      }

  name_does : Does seen (base ++ n ∷ []) (at_name m f) 0 (λ k. k ≡ m)
  name_does w met costs on paid many stands = elim (none_or_some (place_in (first_part m) w.heap)) [
    | inl absent ↦ subst (λ (r : Written). Done met costs w r 0 (λ k. k ≡ m)) (sym (not_kept (first_part m) (f >> keeping code.Save 0 (first_part m)) w absent)) (saved_done w met costs on paid many stands absent)
    | inr (p, there) ↦ subst (λ (r : Written). Done met costs w r 0 (λ k. k ≡ m)) (sym (kept_there (first_part m) (f >> keeping code.Save 0 (first_part m)) w p there)) (referred p there)
  ]
    where
      referred : (p : ℕ) → place_in (first_part m) w.heap ≡ Some p → Done met costs w (command code.Ref p w) 0 (λ k. k ≡ m)
      referred p there = record {
        next = met;
        further = extends_self Met met;
        prices = costs;
        priced = ([], sym (append-nil costs));
        long = many;
        after = stands;
        stays = λ k saved. saved;
        there = λ k is. (p, ap (λ (z : ℕ). place_in (first_part z) w.heap) is ∙ there);
        same = omega arith;
        settled = refl;
      }

-- the writers of the lets in sight, and their numbers; one more
each_named : (P : Writer → Option ℕ → Type 0) (lets : List Writer) (sight : List ℕ) (f : Writer) (m i : ℕ) → length lets ≡ length sight
    → P (get_or lets i nothing) (slice_get sight i) → (i ≡ length sight → P f (Some m)) → P nothing None → P (get_or (lets ++ f ∷ []) i nothing) (slice_get (sight ++ m ∷ []) i)
each_named P [] [] f m zero many older own past = own refl
each_named P [] [] f m (suc i) many older own past = past
each_named P (g ∷ lets) (k ∷ sight) f m zero many older own past = older
each_named P (g ∷ lets) (k ∷ sight) f m (suc i) many older own past = each_named P lets sight f m i (omega (arith, many)) older (λ is. own (ap suc is)) past
each_named P _ _ f m i many older own past = absurd (omega (arith, many))

-- a let is met
met_stands : (w : Writing) (met : List Met) (x : Met) → Stands met w → Stands (met ++ x ∷ []) (record w { lets = suc w.lets })
met_stands w met x stands = record {
  lets = (let l = length-push met x in let h = stands.lets in omega (arith, l, h));
  below = λ m saved. (let l = length-push met x in let h = stands.below m saved in omega (arith, l, h));
  closed = λ k y m at saved reach. stands.closed k y m (slice_get-front met (x ∷ []) k y (stands.below k saved) at) saved reach;
}

-- ---- proofs

module _ (env : List Declaration) (ctx : List Binder) where
  -- what is written for the name of each let that the proof comes to name
  abbrev Names : List Met → List ℕ → List Writer → List ℕ → (ℕ → Bool) → Type 0
  Names seen known lets sight named = (i : ℕ) → named i ≡ true → Does seen known (get_or lets i nothing) 0 (λ m. slice_get sight i ≡ Some m)

  expr_does : (seen : List Met) (known : List ℕ) (e : Tree) → Does seen known (write_expr ctx e) 0 Never
  expr_does seen known e = does_quiet seen known (write_expr ctx e) false (5 * size e) 0 (expr_quiet a_gap ctx e) (has_none (write_expr ctx e) (5 * size e) (expr_quiet a_gap ctx e))

  nothing_does : (seen : List Met) (known : List ℕ) → Does seen known nothing 0 Never
  nothing_does seen known = does_quiet seen known nothing false 0 0 (quiet_nothing a_gap) (λ w. refl)

  mutual
    proof_does : (seen : List Met) (known : List ℕ) (lets : List Writer) (sight : List ℕ) → length lets ≡ length sight → (p : Proof)
        → Names seen known lets sight (λ i. comes_to (length sight) i p) → Does seen known (write_proof env ctx lets p) (used_gaps (length sight) p) (Reaches sight p)
    proof_does seen known lets sight many (by_hyp h) names =
        let f : Writer = unless_kept (hypothesis h) nothing in
        let q : IsQuiet a_gap f false 5 = quiet_kept a_gap (hypothesis h) nothing 5 (omega arith) (quiet_within a_gap nothing false 0 5 (omega arith) (quiet_nothing a_gap)) in
        does_to seen known f 0 0 Never (Reaches sight (by_hyp h)) refl (λ k r. absurd (false≢true r.1)) (does_quiet seen known f false 5 0 q (has_none f 5 q))
    proof_does seen known lets sight many (by_name k) names =
        does_to seen known (get_or lets k nothing) 0 0 (λ m. slice_get sight k ≡ Some m) (Reaches sight (by_name k)) refl
        (λ m r. ap (slice_get sight) (sym (eqb-true r.0 k r.1)) ∙ r.2) (names k (eq-eqb k k refl))
    proof_does seen known lets sight many (by_citation T es ps) names =
        let e : Tree = instance es (conclusion_of env T) in
        let n : ℕ = gaps_used (length sight) ps in
        let cited : Writer = write_exprs ctx es >> write_expr ctx e >> command code.Thm T in
        let five = quiet_five a_gap code.Thm T in
        let q = quiet_then a_gap (write_exprs ctx es) (write_expr ctx e >> command code.Thm T) false false (5 * trees_size es) (5 * size e + 5) (exprs_quiet a_gap ctx es)
        (quiet_then a_gap (write_expr ctx e) (command code.Thm T) false false (5 * size e) 5 (expr_quiet a_gap ctx e) five) in
        does_to seen known (write_proof env ctx lets (by_citation T es ps)) (n + 0) n (SomeReach sight ps) (Reaches sight (by_citation T es ps)) (omega arith) (λ m r. r)
        (does_then seen known (write_proofs env ctx lets ps) cited n 0 (SomeReach sight ps) Never (SomeReach sight ps) (λ m r. inl r) (proofs_do seen known lets sight many ps names)
        (does_quiet seen known cited false (5 * trees_size es + (5 * size e + 5)) 0 q (has_none cited (5 * trees_size es + (5 * size e + 5)) q)))
    proof_does seen known lets sight many (by_conv e c p) names =
        let n : ℕ = used_gaps (length sight) p in
        let m : ℕ = gaps_in c in
        let paid : Writer = command code.Conv 0 >> write_payment env ctx c in
        let q = quiet_then a_gap (command code.Conv 0) (write_payment env ctx c) false (conv_uses a_gap c) 1 (6 * conv_weight env c) (quiet_one a_gap code.Conv) (payment_quiet a_gap env ctx c) in
        let has : Has paid m = has_to paid (0 + m) m (omega arith) (has_then (command code.Conv 0) (write_payment env ctx c) 0 m (λ w. omega arith) (payment_has env ctx c)) in
        does_to seen known (write_proof env ctx lets (by_conv e c p)) (0 + (n + m)) (n + m) (Reaches sight p) (Reaches sight (by_conv e c p)) (omega arith) (λ k r. r)
        (does_then seen known (write_expr ctx e) (write_proof env ctx lets p >> paid) 0 (n + m) Never (Reaches sight p) (Reaches sight p) (λ k r. inr r) (expr_does seen known e)
        (does_then seen known (write_proof env ctx lets p) paid n m (Reaches sight p) Never (Reaches sight p) (λ k r. inl r) (proof_does seen known lets sight many p names)
        (does_quiet seen known paid (conv_uses a_gap c) (1 + 6 * conv_weight env c) m q has)))
    proof_does seen known lets sight many (by_let p q) names = λ w met costs on paid as-long stands.
        let d : ℕ = length sight in
        let m : ℕ = w.lets in
        let m-is : m ≡ length costs = stands.lets ∙ sym as-long in
        let own : Bool = comes_to (suc d) d q in
        let n : ℕ = used_gaps d p in
        let c : ℕ = if own then n else 0 in
        let f : Writer = write_proof env ctx lets p in
        let g : Writer = at_name m f in
        let x : Met = record { sight = sight; part = p } in
        let later : List Met = met ++ x ∷ [] in
        let dearer : List ℕ = costs ++ c ∷ [] in
        let step : Extends Met met later = (x ∷ [], refl) in
        let sight' : List ℕ = sight ++ m ∷ [] in
        let deep : length sight' ≡ suc d = length-push sight m in
        let x-at : slice_get later m ≡ Some x = ap (slice_get later) stands.lets ∙ slice_get-last met x in
        let within : m < length later = (let l = length-push met x in let h = stands.lets in omega (arith, l, h)) in
        let name : own ≡ true → Does later dearer g 0 (λ k. k ≡ m) = λ is.
        let priced : n ≡ c = sym (ap (λ (b : Bool). if b then n else 0) is) in
        let part = proof_does later (costs ++ 0 ∷ []) lets sight many p (λ i named. does_later seen later known (costs ++ 0 ∷ []) (get_or lets i nothing) 0 (λ k. slice_get sight i ≡ Some k)
        (extends_then Met seen met later on step) (extends_then ℕ known costs (costs ++ 0 ∷ []) paid (0 ∷ [], refl))
        (names i (or_right (comes_to (suc d) i q) (own && comes_to d i p) (and_from own (comes_to d i p) is named)))) in
        subst (λ (z : ℕ). Does later (costs ++ z ∷ []) g 0 (λ k. k ≡ m)) priced (name_does later x costs m n f x-at within m-is part) in
        let names' : Names later dearer (lets ++ g ∷ []) sight' (λ i. comes_to (length sight') i q) = λ i named.
        let named' : comes_to (suc d) i q ≡ true = ap (λ (z : ℕ). comes_to z i q) (sym deep) ∙ named in
        each_named (λ h o. Does later dearer h 0 (λ k. o ≡ Some k)) lets sight g m i many
        (does_later seen later known dearer (get_or lets i nothing) 0 (λ k. slice_get sight i ≡ Some k) (extends_then Met seen met later on step) (extends_then ℕ known costs dearer paid (c ∷ [], refl))
        (names i (or_left (comes_to (suc d) i q) (own && comes_to d i p) named')))
        (λ i-is. does_to later dearer g 0 0 (λ k. k ≡ m) (λ k. Some m ≡ Some k) refl (λ k is. sym (same_Some m k is)) (name (ap (λ (z : ℕ). comes_to (suc d) z q) (sym i-is) ∙ named')))
        (does_to later dearer nothing 0 0 Never (λ k. None ≡ Some k) refl (λ k is. none-some k is) (nothing_does later dearer)) in
        let v : Writing = record w { lets = suc m } in
        let as-long' : length dearer ≡ length later = (let a = length-push costs c in let b = length-push met x in omega (arith, a, b, as-long)) in
        let many' : length (lets ++ g ∷ []) ≡ length sight' = (let a = length-push lets g in omega (arith, a, deep, many)) in
        let t = proof_does later dearer (lets ++ g ∷ []) sight' many' q names' v later dearer (extends_self Met later) (extends_self ℕ dearer) as-long' (met_stands w met x stands) in
        let heap : List Kept = (write_proof env ctx (lets ++ g ∷ []) q v).after.heap in
        let named_there : own ≡ true → IsSaved heap m = λ is. t.there m (d, ap (λ (z : ℕ). comes_to z d q) deep ∙ is, slice_get-last sight m) in
        let x-after : slice_get t.next m ≡ Some x = ap (λ (z : List Met). slice_get z m) t.further.1 ∙ slice_get-append later t.further.0 m x x-at in
        record {
          next = t.next;
          further = extends_then Met met later t.next step t.further;
          prices = t.prices;
          priced = (c ∷ t.priced.0, t.priced.1 ∙ append_assoc costs (c ∷ []) t.priced.0);
          long = t.long;
          after = t.after;
          stays = t.stays;
          there = λ k r. elim (or_cases (comes_to (suc d) r.0 q) (own && comes_to d r.0 p) r.1) [
            | inl second ↦ t.there k (r.0, ap (λ (z : ℕ). comes_to z r.0 q) deep ∙ second, slice_get-append sight (m ∷ []) r.0 k r.2)
            | inr both ↦ (let parts = and_parts own (comes_to d r.0 p) both in t.after.closed m x k x-after (named_there parts.0) (r.0, parts.1, r.2))
          ];
          same =
              let h = t.same in
              let new = waiting_new w.heap costs c (λ saved. (let l = stands.below (length costs) saved in omega (arith, l, as-long))) in
              let deeper = ap (λ (z : ℕ). used_gaps z q) deep in
              omega (arith, h, new, deeper);
          settled =
              let first : waits_one (place_in (first_part (length costs)) heap) c ≡ 0 = elim (cases_Bool own) [
                | inl is ↦ waits_saved heap (length costs) c (subst (IsSaved heap) m-is (named_there is))
                | inr not ↦ waits_free heap (length costs) c (ap (λ (b : Bool). if b then n else 0) not)
              ] in
              let rest = ap (λ (z : ℕ). waiting heap z t.priced.0) (sym (length-push costs c)) ∙ t.settled in
              omega (arith, first, rest);
        }
    proof_does seen known lets sight many (by_gap e) names =
        does_to seen known (write_proof env ctx lets (by_gap e)) (0 + 1) 1 Never (Reaches sight (by_gap e)) (omega arith) (λ k r. absurd (false≢true r.1))
        (does_then seen known (write_expr ctx e) (command code.Sorry 0) 0 1 Never Never Never (λ k r. inl r) (expr_does seen known e)
        (does_quiet seen known (command code.Sorry 0) true 5 1 (quiet_five a_gap code.Sorry 0) (λ w. omega arith)))

    proofs_do : (seen : List Met) (known : List ℕ) (lets : List Writer) (sight : List ℕ) → length lets ≡ length sight → (ps : Proofs)
        → Names seen known lets sight (λ i. some_comes_to (length sight) i ps) → Does seen known (write_proofs env ctx lets ps) (gaps_used (length sight) ps) (SomeReach sight ps)
    proofs_do seen known lets sight many no_proofs names =
        does_to seen known nothing 0 0 Never (SomeReach sight no_proofs) refl (λ k r. absurd (false≢true r.1)) (nothing_does seen known)
    proofs_do seen known lets sight many (more_proofs p ps) names =
        let d : ℕ = length sight in
        does_then seen known (write_proof env ctx lets p) (write_proofs env ctx lets ps) (used_gaps d p) (gaps_used d ps) (Reaches sight p) (SomeReach sight ps) (SomeReach sight (more_proofs p ps))
        (λ k r. elim (or_cases (comes_to d r.0 p) (some_comes_to d r.0 ps) r.1) [ inl first ↦ inl (r.0, first, r.2) | inr rest ↦ inr (r.0, rest, r.2) ])
        (proof_does seen known lets sight many p (λ i named. names i (or_left (comes_to d i p) (some_comes_to d i ps) named)))
        (proofs_do seen known lets sight many ps (λ i named. names i (or_right (comes_to d i p) (some_comes_to d i ps) named)))

pub sorries_stand : EachUsedGapHasItsSorry
sorries_stand env params dummies hyps p =
    let ctx : List Binder = params ++ dummies in
    let w : Writing = at_first params in
    let hs : Writer = write_hyps ctx 0 hyps in
    let n : ℕ = 6 * trees_size (trees_of hyps) in
    let q : IsQuiet a_gap hs false n = subst (λ (z : List Tree). IsQuiet a_gap (write_hyps ctx 0 z) false n) (listed-trees_of hyps) (hyps_quiet a_gap ctx (trees_of hyps) 0) in
    let whole = does_then [] [] hs (write_proof env ctx [] p) 0 (used_gaps 0 p) Never (Reaches [] p) Never (λ k r. inl r) (does_quiet [] [] hs false n 0 q (has_none hs n q))
    (proof_does env ctx [] [] [] [] refl p (λ i named. does_to [] [] nothing 0 0 Never (λ m. None ≡ Some m) refl (λ k is. none-some k is) (nothing_does env ctx [] [])))
    w [] [] (extends_self Met []) (extends_self ℕ []) refl (record {
      lets = refl;
      below = λ m saved. absurd (none-some saved.0 (sym (no_part (length params) m) ∙ saved.1));
      closed = λ k x m at saved reach. absurd (none-some x at);
    }) in
    (let h = whole.same in let s = whole.settled in let all = ap (waiting (theorem_written env params dummies hyps p).after.heap 0) whole.priced.1 in omega (arith, h, s, all))

-- The commands of a theorem's body use what its proof uses. What is written for a name may be a Ref, so this is said of
-- what was used before and of the commands together: a let's part that stands in the heap was used.
use Rattle.std.specs.Prelude.{ℕ, ◌≡◌, ◌<◌, ◌*◌, ◌||◌, Bool, true, false, List, [], ◌∷◌, ◌++◌, length, get_or, Some}
use Rattle.std.proofs.Common.{zero, suc, refl, sym, ap, ◌∙◌, subst, arith, inl, inr}
use Rattle.std.proofs.lemmas.Bool.{cases_Bool, eqb-true, or_right}
use Rattle.std.proofs.lemmas.List.{get_or_append_left, length-append}
use Rattle.std.proofs.lemmas.Option.{none-some}
use Rattle.mz_base.proofs.Offered.{or-false}
use Rattle.mz_cmd.specs.declared.code.ProofCode.TheVariants as code
use Rattle.mz_logic_theory.specs.Tree.{Tree, instance, size, trees_size}
use Rattle.mz_logic_theory.specs.Declaration.{Declaration}
use Rattle.mz_logic_theory.specs.declared.binder.Binder.{Binder}
use Rattle.mz_mmu_theory.specs.Proof.{Proof, Proofs, by_hyp, by_name, by_citation, by_conv, by_let, by_gap, no_proofs, more_proofs}
use Rattle.mz_machine_theory.specs.Spells.{trees_of}
use Rattle.mz_machine_theory.proofs.Offered.{listed-trees_of}
use Rattle.mz_emit_theory.specs.Claims.{conclusion_of}
use Rattle.mz_emit_theory.specs.Uses.{Use, is_gap, is_assertion, conv_uses, uses, some_use, commands_use}
use Rattle.mz_emit_theory.specs.Weights.{conv_weight}
use Rattle.mz_emit_theory.specs.BodyWriting.{Kept, hypothesis, first_part, is_same, Writing, place_in, Written, Writer, nothing, ◌>>◌, command, keeping, unless_kept, write_expr, write_exprs, write_payment, at_name, write_proof, write_proofs, write_hyps, at_first}
use Rattle.mz_emit_bodies.specs.WrittenLaws.{TheoremsUseWhatProofsUse}
use Rattle.mz_emit_bodies.proofs.Heaps.{none_or_some, place_old, kept_there, not_kept, no_part}
use Rattle.mz_emit_bodies.proofs.Lists.{get_end}
use Rattle.mz_emit_bodies.proofs.Commands.{or_assoc}
use Rattle.mz_emit_bodies.proofs.QuietWriters.{Extends, extends_self, extends_then, uses_join, IsQuiet, quiet_nothing, quiet_five, quiet_kept, quiet_within, expr_quiet, exprs_quiet, hyps_quiet, payment_quiet}

-- ---- truth values

or_left : (a b : Bool) → a ≡ true → (a || b) ≡ true
or_left a b is = ap (λ (z : Bool). z || b) is

or_swapped : (a b : Bool) → (a || b) ≡ (b || a)
or_swapped true true = refl
or_swapped false true = refl
or_swapped _ _ = refl

or_had : (a b : Bool) → (b ≡ true → a ≡ true) → (a || false) ≡ (a || b)
or_had false true had = had refl
or_had _ _ had = refl

-- ---- lets beside their flags

each_pair : (P : Writer → Bool → Type 0) (lets : List Writer) (flags : List Bool) (f : Writer) (b : Bool) (i : ℕ) → length lets ≡ length flags
    → ((j : ℕ) → P (get_or lets j nothing) (get_or flags j false)) → P f b → P nothing false → P (get_or (lets ++ f ∷ []) i nothing) (get_or (flags ++ b ∷ []) i false)
each_pair P [] [] f b zero many each last past = last
each_pair P [] [] f b (suc i) many each last past = past
each_pair P (g ∷ lets) (c ∷ flags) f b zero many each last past = each zero
each_pair P (g ∷ lets) (c ∷ flags) f b (suc i) many each last past = each_pair P lets flags f b i (omega (arith, many)) (λ j. each (suc j)) last past
each_pair P _ _ f b i many each last past = absurd (omega (arith, many))

module _ (u : Use) where
  -- these are the flags of the lets that were met: what stands in the heap with its flag set was used
  pub record Had (flags : List Bool) (w : Writing) (before : Bool) : Type 0 where
    pub lets : w.lets ≡ length flags
    pub below : (m p : ℕ) → place_in (first_part m) w.heap ≡ Some p → m < length flags
    pub had : (m p : ℕ) → place_in (first_part m) w.heap ≡ Some p → get_or flags m false ≡ true → before ≡ true

  pub record Used (flags : List Bool) (before : Bool) (r : Written) (b : Bool) : Type 0 where
    pub next : List Bool
    pub further : Extends Bool flags next
    pub after : Had next r.after (before || b)
    pub same : (before || commands_use u r.commands) ≡ (before || b)

  -- wherever these lets were met, and maybe more, the writer comes to use it so
  abbrev WillUse : List Bool → Writer → Bool → Type 0
  WillUse world f b = (w : Writing) (flags : List Bool) (before : Bool) → Extends Bool world flags → Had flags w before → Used flags before (f w) b

  use_then : (world : List Bool) (f g : Writer) (b c : Bool) → WillUse world f b → WillUse world g c → WillUse world (f >> g) (b || c)
  use_then world f g b c first second w flags before on had =
      let a = first w flags before on had in
      let d = second (f w).after a.next (before || b) (extends_then Bool world flags a.next on a.further) a.after in
      let x : Bool = commands_use u (f w).commands in
      let y : Bool = commands_use u (g (f w).after).commands in
      record {
        next = d.next;
        further = extends_then Bool flags a.next d.next a.further d.further;
        after = subst (Had d.next (g (f w).after).after) (or_assoc before b c) d.after;
        same = ap (λ (z : Bool). before || z) (uses_join u (f w).commands (g (f w).after).commands) ∙ sym (or_assoc before x y) ∙ ap (λ (z : Bool). z || y) a.same ∙ d.same ∙ or_assoc before b c;
      }

  use_to : (world : List Bool) (f : Writer) (b c : Bool) → b ≡ c → WillUse world f b → WillUse world f c
  use_to world f b c is = subst (WillUse world f) is

  use_quiet : (world : List Bool) (f : Writer) (b : Bool) (n : ℕ) → IsQuiet u f b n → WillUse world f b
  use_quiet world f b n q w flags before on had = record {
    next = flags;
    further = extends_self Bool flags;
    after = record {
      lets = q.lets w ∙ had.lets;
      below = λ m p at. had.below m p (sym (q.parts w m) ∙ at);
      had = λ m p at set. or_left before b (had.had m p (sym (q.parts w m) ∙ at) set);
    };
    same = ap (λ (z : Bool). before || z) (q.uses w);
  }

  use_later : (world later : List Bool) (f : Writer) (b : Bool) → Extends Bool world later → WillUse world f b → WillUse later f b
  use_later world later f b further will w flags before on had = will w flags before (extends_then Bool world later flags further on) had

  -- ---- names

  flag_at : (world flags : List Bool) (m : ℕ) (b : Bool) → Extends Bool world flags → m < length world → get_or world m false ≡ b → get_or flags m false ≡ b
  flag_at world flags m b (more, is) lt at = ap (λ (z : List Bool). get_or z m false) is ∙ get_or_append_left world more false m lt ∙ at

  longer : (world flags : List Bool) (m : ℕ) → Extends Bool world flags → m < length world → m < length flags
  longer world flags m (more, is) lt = (let l = ap length is in let j = length-append world more in omega (arith, l, j, lt))

  -- the m-th let's part is saved, which uses it so
  use_saved : (world : List Bool) (m : ℕ) (f : Writer) (b : Bool) → m < length world → get_or world m false ≡ b → WillUse world f b → WillUse world (f >> keeping code.Save 0 (first_part m)) b
  use_saved world m f b lt is will w flags before on had =
      let a = will w flags before on had in
      let on' : Extends Bool world a.next = extends_then Bool world flags a.next on a.further in
      let heap : List Kept = (f w).after.heap in
      record {
        next = a.next;
        further = a.further;
        after = record {
          lets = a.after.lets;
          below = λ k p at. elim (cases_Bool (is_same (first_part k) (first_part m))) [
            | inl same ↦ (let k-is = eqb-true k m same in let l = longer world a.next m on' lt in omega (arith, k-is, l))
            | inr differs ↦ a.after.below k p (sym (place_old (first_part k) (first_part m) heap differs) ∙ at)
          ];
          had = λ k p at set. elim (cases_Bool (is_same (first_part k) (first_part m))) [
            | inl same ↦ or_right before b (sym (flag_at world a.next m b on' lt is) ∙ ap (λ (z : ℕ). get_or a.next z false) (sym (eqb-true k m same)) ∙ set)
            | inr differs ↦ a.after.had k p (sym (place_old (first_part k) (first_part m) heap differs) ∙ at) set
          ];
        };
        same = ap (λ (z : Bool). before || z) (uses_join u (f w).commands ((code.Save, 0) ∷ []) ∙ or-false (commands_use u (f w).commands)) ∙ a.same;
      }

  use_name : (world : List Bool) (m : ℕ) (f : Writer) (b : Bool) → m < length world → get_or world m false ≡ b → WillUse world f b → WillUse world (at_name m f) b
  use_name world m f b lt is will w flags before on had = elim (none_or_some (place_in (first_part m) w.heap)) [
    | inl absent ↦ subst (λ (r : Written). Used flags before r b) (sym (not_kept (first_part m) (f >> keeping code.Save 0 (first_part m)) w absent)) (use_saved world m f b lt is will w flags before on had)
    | inr (p, at) ↦ subst (λ (r : Written). Used flags before r b) (sym (kept_there (first_part m) (f >> keeping code.Save 0 (first_part m)) w p at)) (referred p at)
  ]
    where
      referred : (p : ℕ) → place_in (first_part m) w.heap ≡ Some p → Used flags before (command code.Ref p w) b
      referred p at = record {
        next = flags;
        further = extends_self Bool flags;
        after = record { lets = had.lets; below = had.below; had = λ k q k-at set. or_left before b (had.had k q k-at set) };
        same = or_had before b (λ set. had.had m p at (flag_at world flags m b on lt is ∙ set));
      }

  pub record Names (world : List Bool) (lets : List Writer) (flags : List Bool) : Type 0 where
    pub many : length lets ≡ length flags
    pub each : (i : ℕ) → WillUse world (get_or lets i nothing) (get_or flags i false)

  names_later : (world later : List Bool) (lets : List Writer) (flags : List Bool) → Extends Bool world later → Names world lets flags → Names later lets flags
  names_later world later lets flags further names = record { many = names.many; each = λ i. use_later world later (get_or lets i nothing) (get_or flags i false) further (names.each i) }

  names_more : (world : List Bool) (lets : List Writer) (flags : List Bool) (f : Writer) (b : Bool) → Names world lets flags → WillUse world f b → Names world (lets ++ f ∷ []) (flags ++ b ∷ [])
  names_more world lets flags f b names one = record {
    many = (let k = length-append lets (f ∷ []) in let l = length-append flags (b ∷ []) in let m = names.many in omega (arith, k, l, m));
    each = λ i. each_pair (WillUse world) lets flags f b i names.many names.each one (use_quiet world nothing false 0 (quiet_nothing u));
  }

  -- a let is met
  had_met : (w : Writing) (flags : List Bool) (before b : Bool) → Had flags w before → Had (flags ++ b ∷ []) (record w { lets = suc w.lets }) before
  had_met w flags before b had = record {
    lets = (let l = length-append flags (b ∷ []) in let m = had.lets in omega (arith, l, m));
    below = λ m p at. (let l = length-append flags (b ∷ []) in let lt = had.below m p at in omega (arith, l, lt));
    had = λ m p at set. had.had m p at (sym (get_or_append_left flags (b ∷ []) false m (had.below m p at)) ∙ set);
  }

  -- ---- proofs

  module _ (env : List Declaration) (ctx : List Binder) where
    mutual
      proof_uses : (world : List Bool) (lets : List Writer) (flags : List Bool) → Names world lets flags → (p : Proof) → WillUse world (write_proof env ctx lets p) (uses u flags p)
      proof_uses world lets flags names (by_hyp i) = use_quiet world (unless_kept (hypothesis i) nothing) false 5
          (quiet_kept u (hypothesis i) nothing 5 (omega arith) (quiet_within u nothing false 0 5 (omega arith) (quiet_nothing u)))
      proof_uses world lets flags names (by_name i) = names.each i
      proof_uses world lets flags names (by_citation T es ps) =
          let e : Tree = instance es (conclusion_of env T) in
          let cited : Bool = is_assertion u T in
          let below : Bool = some_use u flags ps in
          use_to world (write_proof env ctx lets (by_citation T es ps)) (below || (cited || false)) (cited || below) (ap (λ (z : Bool). below || z) (or-false cited) ∙ or_swapped below cited)
          (use_then world (write_proofs env ctx lets ps) (write_exprs ctx es >> write_expr ctx e >> command code.Thm T) below (cited || false) (proofs_use world lets flags names ps)
          (use_then world (write_exprs ctx es) (write_expr ctx e >> command code.Thm T) false (cited || false) (use_quiet world (write_exprs ctx es) false (5 * trees_size es) (exprs_quiet u ctx es))
          (use_then world (write_expr ctx e) (command code.Thm T) false (cited || false) (use_quiet world (write_expr ctx e) false (5 * size e) (expr_quiet u ctx e))
          (use_quiet world (command code.Thm T) (cited || false) 5 (quiet_five u code.Thm T)))))
      proof_uses world lets flags names (by_conv e c p) =
          let below : Bool = uses u flags p in
          let paid : Bool = conv_uses u c in
          use_to world (write_proof env ctx lets (by_conv e c p)) (below || paid) (paid || below) (or_swapped below paid)
          (use_then world (write_expr ctx e) (write_proof env ctx lets p >> command code.Conv 0 >> write_payment env ctx c) false (below || paid) (use_quiet world (write_expr ctx e) false (5 * size e) (expr_quiet u ctx e))
          (use_then world (write_proof env ctx lets p) (command code.Conv 0 >> write_payment env ctx c) below paid (proof_uses world lets flags names p)
          (use_then world (command code.Conv 0) (write_payment env ctx c) false paid (use_quiet world (command code.Conv 0) false 5 (quiet_five u code.Conv 0))
          (use_quiet world (write_payment env ctx c) paid (6 * conv_weight env c) (payment_quiet u env ctx c)))))
      proof_uses world lets flags names (by_let p q) = λ w now before on had.
          let b : Bool = uses u flags p in
          let f : Writer = write_proof env ctx lets p in
          let later : List Bool = now ++ b ∷ [] in
          let step : Extends Bool now later = (b ∷ [], refl) in
          let names' : Names later lets flags = names_later world later lets flags (extends_then Bool world now later on step) names in
          let m-is : w.lets ≡ length now = had.lets in
          let name : WillUse later (at_name w.lets f) b = use_name later w.lets f b (let l = length-append now (b ∷ []) in omega (arith, l, m-is))
          (ap (λ (z : ℕ). get_or later z false) m-is ∙ get_end Bool now b false) (proof_uses later lets flags names' p) in
          let t = proof_uses later (lets ++ at_name w.lets f ∷ []) (flags ++ b ∷ []) (names_more later lets flags (at_name w.lets f) b names' name) q
          (record w { lets = suc w.lets }) later before (extends_self Bool later) (had_met w now before b had) in
          record { next = t.next; further = extends_then Bool now later t.next step t.further; after = t.after; same = t.same }
      proof_uses world lets flags names (by_gap e) = use_to world (write_proof env ctx lets (by_gap e)) (is_gap u || false) (is_gap u) (or-false (is_gap u))
          (use_then world (write_expr ctx e) (command code.Sorry 0) false (is_gap u || false) (use_quiet world (write_expr ctx e) false (5 * size e) (expr_quiet u ctx e))
          (use_quiet world (command code.Sorry 0) (is_gap u || false) 5 (quiet_five u code.Sorry 0)))

      proofs_use : (world : List Bool) (lets : List Writer) (flags : List Bool) → Names world lets flags → (ps : Proofs) → WillUse world (write_proofs env ctx lets ps) (some_use u flags ps)
      proofs_use world lets flags names no_proofs = use_quiet world nothing false 0 (quiet_nothing u)
      proofs_use world lets flags names (more_proofs p ps) = use_then world (write_proof env ctx lets p) (write_proofs env ctx lets ps) (uses u flags p) (some_use u flags ps)
          (proof_uses world lets flags names p) (proofs_use world lets flags names ps)

    none_named : Names [] [] []
    none_named = record { many = refl; each = λ i. use_quiet [] nothing false 0 (quiet_nothing u) }

pub theorems_use : TheoremsUseWhatProofsUse
theorems_use u env params dummies hyps p =
    let ctx : List Binder = params ++ dummies in
    let w : Writing = at_first params in
    let hs : Writer = write_hyps ctx 0 hyps in
    let quiet : IsQuiet u hs false (6 * trees_size (trees_of hyps)) = subst (λ (z : List Tree). IsQuiet u (write_hyps ctx 0 z) false (6 * trees_size (trees_of hyps))) (listed-trees_of hyps) (hyps_quiet u ctx (trees_of hyps) 0) in
    (use_then u [] hs (write_proof env ctx [] p) false (uses u [] p) (use_quiet u [] hs false (6 * trees_size (trees_of hyps)) quiet) (proof_uses u env ctx [] [] [] (none_named u env ctx) p)
    w [] false (extends_self Bool []) (record {
      lets = refl;
      below = λ m q at. absurd (none-some q (sym (no_part (length params) m) ∙ at));
      had = λ m q at set. absurd (none-some q (sym (no_part (length params) m) ∙ at));
    })).same

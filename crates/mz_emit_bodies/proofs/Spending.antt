-- A body is in proportion to what it is written of: at most six bytes for each node and each unit of weight. A let's part
-- is paid when the let is met, and emitted at most once: what waits is what was paid for and isn't in the heap.
use Rattle.std.specs.Prelude.{ℕ, ◌≡◌, ◌≤◌, ◌+◌, ◌*◌, Bool, true, false, List, [], ◌∷◌, ◌++◌, length, get_or, None}
use Rattle.std.proofs.Common.{suc, refl, sym, ap, ◌∙◌, subst, arith, append_assoc, inl, inr}
use Rattle.std.proofs.lemmas.List.{length-append}
use Rattle.mz_cmd.specs.declared.code.ProofCode.TheVariants as code
use Rattle.mz_logic_theory.specs.Tree.{Tree, Trees, listed, instance, size, trees_size}
use Rattle.mz_logic_theory.specs.Declaration.{Declaration}
use Rattle.mz_logic_theory.specs.declared.binder.Binder.{Binder}
use Rattle.mz_mmu_theory.specs.Proof.{Proof, Proofs, by_hyp, by_name, by_citation, by_conv, by_let, by_gap, no_proofs, more_proofs}
use Rattle.mz_emit_theory.specs.Claims.{conclusion_of}
use Rattle.mz_emit_theory.specs.Uses.{a_gap, conv_uses}
use Rattle.mz_emit_theory.specs.Weights.{conv_weight, proof_weight, proofs_weight}
use Rattle.mz_emit_theory.specs.BodyWriting.{Kept, hypothesis, first_part, Writing, place_in, Written, Writer, nothing, ◌>>◌, command, keeping, unless_kept, write_expr, write_exprs, write_payment, at_name, write_proof, write_proofs, write_hyps, at_first, definition_written, axiom_written, theorem_written}
use Rattle.mz_emit_bodies.specs.WrittenLaws.{DefinitionsAreShort, AxiomsAreShort, TheoremsAreShort}
use Rattle.mz_emit_bodies.proofs.Lists.{each_last}
use Rattle.mz_emit_bodies.proofs.Heaps.{none_or_some, kept_there, not_kept}
use Rattle.mz_emit_bodies.proofs.Commands.{command_short, command_one}
use Rattle.mz_emit_bodies.proofs.Waiting.{waiting, waiting_same, waiting_last, waiting_one, waiting_none}
use Rattle.mz_emit_bodies.proofs.QuietWriters.{Extends, extends_self, extends_then, bytes_in, bytes_join, body_long, IsQuiet, quiet_nothing, quiet_within, quiet_five, quiet_one, quiet_then, quiet_kept, expr_quiet, exprs_quiet, hyps_quiet, payment_quiet}

-- ---- what is spent

-- the lets that were met cost so much: what is written, a byte for each let that is met, and what waits after it, is paid
-- by what waited before, and n
pub record Spent (now : List ℕ) (w : Writing) (r : Written) (n : ℕ) : Type 0 where
  pub next : List ℕ
  pub further : Extends ℕ now next
  pub lets : r.after.lets ≡ length next
  pub fits : bytes_in r.commands + length next + waiting r.after.heap 0 next ≤ length now + waiting w.heap 0 now + n

-- wherever these lets were met, and maybe more, the writer spends no more than n
abbrev Spends : List ℕ → Writer → ℕ → Type 0
Spends world f n = (w : Writing) (now : List ℕ) → Extends ℕ world now → w.lets ≡ length now → Spent now w (f w) n

spends_within : (world : List ℕ) (f : Writer) (n m : ℕ) → n ≤ m → Spends world f n → Spends world f m
spends_within world f n m le spends w now on lets = (let a = spends w now on lets in record { next = a.next; further = a.further; lets = a.lets; fits = (let h = a.fits in omega (arith, h, le)) })

spends_then : (world : List ℕ) (f g : Writer) (n m : ℕ) → Spends world f n → Spends world g m → Spends world (f >> g) (n + m)
spends_then world f g n m first second w now on lets =
    let a = first w now on lets in
    let b = second (f w).after a.next (extends_then ℕ world now a.next on a.further) a.lets in
    record {
      next = b.next;
      further = extends_then ℕ now a.next b.next a.further b.further;
      lets = b.lets;
      fits = (let j = bytes_join (f w).commands (g (f w).after).commands in let h = a.fits in let k = b.fits in omega (arith, j, h, k));
    }

spends_quiet : (world : List ℕ) (f : Writer) (b : Bool) (n : ℕ) → IsQuiet a_gap f b n → Spends world f n
spends_quiet world f b n q w now on lets = record {
  next = now;
  further = extends_self ℕ now;
  lets = q.lets w ∙ lets;
  fits = (let s = q.short w in let h = waiting_same w.heap (f w).after.heap (q.parts w) 0 now in omega (arith, s, h));
}

spends_later : (world later : List ℕ) (f : Writer) (n : ℕ) → Extends ℕ world later → Spends world f n → Spends later f n
spends_later world later f n further spends w now on lets = spends w now (extends_then ℕ world later now further on) lets

-- ---- names

-- a let's part that costs n, which was paid: its emission is paid by what waited for it, so that its name takes the Ref or
-- the Save alone
spends_saved : (base : List ℕ) (m n : ℕ) (f : Writer) → m ≡ length base → Spends (base ++ 0 ∷ []) f n → (w : Writing) (now : List ℕ) → Extends ℕ (base ++ n ∷ []) now → w.lets ≡ length now
    → place_in (first_part m) w.heap ≡ None → Spent now w ((f >> keeping code.Save 0 (first_part m)) w) 6
spends_saved base m n f m-is spends w now (since, now-is) lets absent =
    let free : List ℕ = (base ++ 0 ∷ []) ++ since in
    let same : length now ≡ length free =
    (let a = ap length now-is in let b = length-append (base ++ n ∷ []) since in let c = length-append base (n ∷ []) in let d = length-append (base ++ 0 ∷ []) since in let e = length-append base (0 ∷ []) in
    omega (arith, a, b, c, d, e)) in
    let a = spends w free (since, refl) (lets ∙ same) in
    let newer : List ℕ = a.further.0 in
    let heap : List Kept = (f w).after.heap in
    record {
      next = now ++ newer;
      further = (newer, refl);
      lets = a.lets ∙ ap length a.further.1 ∙ (let b = length-append free newer in let c = length-append now newer in omega (arith, b, c, same));
      fits =
          let joined = bytes_join (f w).commands ((code.Save, 0) ∷ []) in
          let one = command_one code.Save in
          let before = waiting_one w.heap 0 m n base since (omega (arith, m-is)) absent in
          let now-there = ap (waiting w.heap 0) now-is in
          let after = waiting_none heap 0 m n base (since ++ newer) (omega (arith, m-is)) in
          let next-there = ap (waiting (first_part m ∷ heap) 0) (ap (λ (z : List ℕ). z ++ newer) now-is ∙ append_assoc (base ++ n ∷ []) since newer) in
          let free-there = ap (waiting heap 0) (a.further.1 ∙ append_assoc (base ++ 0 ∷ []) since newer) in
          let fits = a.fits in
          let free-long = ap length a.further.1 ∙ length-append free newer in
          let now-long = length-append now newer in
          omega (arith, joined, one, before, now-there, after, next-there, free-there, fits, free-long, now-long, same);
    }

spends_name : (base : List ℕ) (m n : ℕ) (f : Writer) → m ≡ length base → Spends (base ++ 0 ∷ []) f n → Spends (base ++ n ∷ []) (at_name m f) 6
spends_name base m n f m-is spends w now on lets = elim (none_or_some (place_in (first_part m) w.heap)) [
  | inl absent ↦ subst (λ (r : Written). Spent now w r 6) (sym (not_kept (first_part m) (f >> keeping code.Save 0 (first_part m)) w absent)) (spends_saved base m n f m-is spends w now on lets absent)
  | inr (p, at) ↦ subst (λ (r : Written). Spent now w r 6) (sym (kept_there (first_part m) (f >> keeping code.Save 0 (first_part m)) w p at)) (referred p)
]
  where
    referred : (p : ℕ) → Spent now w (command code.Ref p w) 6
    referred p = record { next = now; further = extends_self ℕ now; lets = lets; fits = (let s = command_short code.Ref p in omega (arith, s)) }

-- each name in sight takes six bytes at most
abbrev Names : List ℕ → List Writer → Type 0
Names world lets = (i : ℕ) → Spends world (get_or lets i nothing) 6

names_later : (world later : List ℕ) (lets : List Writer) → Extends ℕ world later → Names world lets → Names later lets
names_later world later lets further names i = spends_later world later (get_or lets i nothing) 6 further (names i)

nothing_spent : (world : List ℕ) (n : ℕ) → Spends world nothing n
nothing_spent world n = spends_within world nothing 0 n (omega arith) (spends_quiet world nothing false 0 (quiet_nothing a_gap))

-- ---- proofs

module _ (env : List Declaration) (ctx : List Binder) where
  expr_spends : (world : List ℕ) (e : Tree) → Spends world (write_expr ctx e) (5 * size e)
  expr_spends world e = spends_quiet world (write_expr ctx e) false (5 * size e) (expr_quiet a_gap ctx e)

  mutual
    proof_spends : (world : List ℕ) (lets : List Writer) → Names world lets → (p : Proof) → Spends world (write_proof env ctx lets p) (6 * proof_weight env p)
    proof_spends world lets names (by_hyp i) = spends_within world (unless_kept (hypothesis i) nothing) 5 6 (omega arith)
        (spends_quiet world (unless_kept (hypothesis i) nothing) false 5 (quiet_kept a_gap (hypothesis i) nothing 5 (omega arith) (quiet_within a_gap nothing false 0 5 (omega arith) (quiet_nothing a_gap))))
    proof_spends world lets names (by_name i) = names i
    proof_spends world lets names (by_citation T es ps) =
        let e : Tree = instance es (conclusion_of env T) in
        let n : ℕ = 6 * proofs_weight env ps in
        spends_within world (write_proof env ctx lets (by_citation T es ps)) (n + (5 * trees_size es + (5 * size e + 5))) (6 * proof_weight env (by_citation T es ps)) (omega arith)
        (spends_then world (write_proofs env ctx lets ps) (write_exprs ctx es >> write_expr ctx e >> command code.Thm T) n (5 * trees_size es + (5 * size e + 5)) (proofs_spend world lets names ps)
        (spends_then world (write_exprs ctx es) (write_expr ctx e >> command code.Thm T) (5 * trees_size es) (5 * size e + 5) (spends_quiet world (write_exprs ctx es) false (5 * trees_size es) (exprs_quiet a_gap ctx es))
        (spends_then world (write_expr ctx e) (command code.Thm T) (5 * size e) 5 (expr_spends world e) (spends_quiet world (command code.Thm T) false 5 (quiet_five a_gap code.Thm T)))))
    proof_spends world lets names (by_conv e c p) =
        let n : ℕ = 6 * proof_weight env p in
        let m : ℕ = 6 * conv_weight env c in
        spends_within world (write_proof env ctx lets (by_conv e c p)) (5 * size e + (n + (1 + m))) (6 * proof_weight env (by_conv e c p)) (omega arith)
        (spends_then world (write_expr ctx e) (write_proof env ctx lets p >> command code.Conv 0 >> write_payment env ctx c) (5 * size e) (n + (1 + m)) (expr_spends world e)
        (spends_then world (write_proof env ctx lets p) (command code.Conv 0 >> write_payment env ctx c) n (1 + m) (proof_spends world lets names p)
        (spends_then world (command code.Conv 0) (write_payment env ctx c) 1 m (spends_quiet world (command code.Conv 0) false 1 (quiet_one a_gap code.Conv))
        (spends_quiet world (write_payment env ctx c) (conv_uses a_gap c) m (payment_quiet a_gap env ctx c)))))
    proof_spends world lets names (by_let p q) = λ w now on is.
        let n : ℕ = 6 * proof_weight env p in
        let f : Writer = write_proof env ctx lets p in
        let free : List ℕ = now ++ 0 ∷ [] in
        let later : List ℕ = now ++ n ∷ [] in
        let first : Spends free f n = proof_spends free lets (names_later world free lets (extends_then ℕ world now free on (0 ∷ [], refl)) names) p in
        let name : Spends later (at_name w.lets f) 6 = spends_name now w.lets n f is first in
        let names' : Names later (lets ++ at_name w.lets f ∷ []) =
        λ i. each_last Writer nothing (λ (g : Writer). Spends later g 6) lets (at_name w.lets f) i (names_later world later lets (extends_then ℕ world now later on (n ∷ [], refl)) names) name (nothing_spent later 6) in
        let v : Writing = record w { lets = suc w.lets } in
        let t = proof_spends later (lets ++ at_name w.lets f ∷ []) names' q v later (extends_self ℕ later) (let l = length-append now (n ∷ []) in omega (arith, l, is)) in
        record {
          next = t.next;
          further = extends_then ℕ now later t.next (n ∷ [], refl) t.further;
          lets = t.lets;
          fits = (let h = t.fits in let more = waiting_last w.heap 0 now n in let l = length-append now (n ∷ []) in omega (arith, h, more, l));
        }
    proof_spends world lets names (by_gap e) = spends_within world (write_proof env ctx lets (by_gap e)) (5 * size e + 5) (6 * proof_weight env (by_gap e)) (omega arith)
        (spends_then world (write_expr ctx e) (command code.Sorry 0) (5 * size e) 5 (expr_spends world e) (spends_quiet world (command code.Sorry 0) true 5 (quiet_five a_gap code.Sorry 0)))

    proofs_spend : (world : List ℕ) (lets : List Writer) → Names world lets → (ps : Proofs) → Spends world (write_proofs env ctx lets ps) (6 * proofs_weight env ps)
    proofs_spend world lets names no_proofs = nothing_spent world 0
    proofs_spend world lets names (more_proofs p ps) = spends_within world (write_proofs env ctx lets (more_proofs p ps)) (6 * proof_weight env p + 6 * proofs_weight env ps) (6 * proofs_weight env (more_proofs p ps)) (omega arith)
        (spends_then world (write_proof env ctx lets p) (write_proofs env ctx lets ps) (6 * proof_weight env p) (6 * proofs_weight env ps) (proof_spends world lets names p) (proofs_spend world lets names ps))

  -- a whole theorem, with a byte for each let
  pub theorem_spends : (params : List Binder) (hs : Trees) (p : Proof)
      → bytes_in ((write_hyps ctx 0 (listed hs) >> write_proof env ctx [] p) (at_first params)).commands + ((write_hyps ctx 0 (listed hs) >> write_proof env ctx [] p) (at_first params)).after.lets
      ≤ 6 * (trees_size hs + proof_weight env p)
  theorem_spends params hs p =
      let whole = spends_then [] (write_hyps ctx 0 (listed hs)) (write_proof env ctx [] p) (6 * trees_size hs) (6 * proof_weight env p)
      (spends_quiet [] (write_hyps ctx 0 (listed hs)) false (6 * trees_size hs) (hyps_quiet a_gap ctx hs 0)) (proof_spends [] [] (λ i. nothing_spent [] 6) p) (at_first params) [] (extends_self ℕ []) refl in
      (let h = whole.fits in let l = whole.lets in omega (arith, h, l))

pub theorem_bytes : (env : List Declaration) (params dummies : List Binder) (hs : Trees) (p : Proof) → bytes_in (theorem_written env params dummies (listed hs) p).commands ≤ 6 * (trees_size hs + proof_weight env p)
theorem_bytes env params dummies hs p = (let s = theorem_spends env (params ++ dummies) params hs p in omega (arith, s))

pub axiom_bytes : (params dummies : List Binder) (hs : Trees) (e : Tree) → bytes_in (axiom_written params dummies (listed hs) e).commands ≤ 6 * (trees_size hs + size e)
axiom_bytes params dummies hs e =
    let ctx : List Binder = params ++ dummies in
    let q = quiet_then a_gap (write_hyps ctx 0 (listed hs)) (write_expr ctx e) false false (6 * trees_size hs) (5 * size e) (hyps_quiet a_gap ctx hs 0) (expr_quiet a_gap ctx e) in
    (let s : bytes_in (axiom_written params dummies (listed hs) e).commands ≤ 6 * trees_size hs + 5 * size e = q.short (at_first params) in omega (arith, s))

pub definition_bytes : (params dummies : List Binder) (e : Tree) → bytes_in (definition_written params dummies e).commands ≤ 6 * size e
definition_bytes params dummies e = (let s : bytes_in (definition_written params dummies e).commands ≤ 5 * size e = (expr_quiet a_gap (params ++ dummies) e).short (at_first params) in omega (arith, s))

pub definitions_short : DefinitionsAreShort
definitions_short params dummies e = (let b = definition_bytes params dummies e in let l = body_long (definition_written params dummies e).commands in omega (arith, b, l))

pub axioms_short : AxiomsAreShort
axioms_short params dummies hyps e = (let b = axiom_bytes params dummies hyps e in let l = body_long (axiom_written params dummies (listed hyps) e).commands in omega (arith, b, l))

pub theorems_short : TheoremsAreShort
theorems_short env params dummies hyps p = (let b = theorem_bytes env params dummies hyps p in let l = body_long (theorem_written env params dummies (listed hyps) p).commands in omega (arith, b, l))

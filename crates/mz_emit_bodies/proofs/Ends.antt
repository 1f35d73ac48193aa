-- The stages of a body: an expression, a hypothesis, a proof, and the end.
use Rattle.std.specs.Prelude.{Bool, ℕ, ◌≡◌, ◌<◌, ◌≤◌, ◌+◌, ◌*◌, ◌^◌, List, [], ◌∷◌, ◌++◌, length, take, drop, get_or, slice_get, Option, None}
use Rattle.std.proofs.Common.{zero, suc, refl, sym, ap, ◌∙◌, subst, arith, append_assoc}
use Rattle.std.proofs.lemmas.List.{length-append}
use Rattle.mz_cmd.specs.declared.code.ProofCode.{ProofCode}
use Rattle.mz_cmd.specs.declared.code.ProofCode.TheVariants as code
use Rattle.mz_logic_theory.specs.Tree.{Tree, listed, size, trees_size}
use Rattle.mz_logic_theory.specs.Declaration.{Declaration, signatures}
use Rattle.mz_logic_theory.specs.declared.binder.Binder.{Binder}
use Rattle.mz_store.specs.Sharing.{Sharing, IsIn, AreIn, sort_of, tree_of, trees_of}
use Rattle.mz_store.specs.declared.item.Id.{Id}
use Rattle.mz_machine_theory.specs.Sorted.{Sorted}
use Rattle.mz_mmu_theory.specs.Proof.{Proof}
use Rattle.mz_emit_theory.specs.BodyWriting.{hypothesis, Writing, Written, Writer, and_then, nothing, ◌>>◌, keeping, at_first, write_expr, write_proof, write_hyp, write_hyps, definition_written, axiom_written, theorem_written}
use Rattle.mz_emit_theory.specs.Claims.{IsSound}
use Rattle.mz_emit_theory.specs.Endings.{spelled_body}
use Rattle.mz_emit_theory.specs.Steps.{command_bytes}
use Rattle.mz_emit_theory.specs.Weights.{proof_weight}
use Rattle.mz_emit_bodies.specs.Laws.{AreDummiesBehind, TakeFourBytes}
use Rattle.mz_emit_bodies.specs.TaskInvariant.{Task, prove, push, to_do, AllCanBeDone}
use Rattle.mz_emit_bodies.specs.Sight.{parts}
use Rattle.mz_emit_bodies.specs.Going.{Job, spelled, IsGoing, Does}
use Rattle.mz_emit_bodies.specs.Stages.{HasDummiesBehind, unwritten, job, Begins, Rests, writing_too, assuming, with_hyps, HasRoomFor, WritesFrom, Assumes, AssumesAll, Proves, ProvesFrom}
use Rattle.mz_emit_bodies.specs.Writers.{write_tasks, behind, HasRoom, IsWriting}
use Rattle.mz_emit_bodies.specs.declared.body.Before.{Before}
use Rattle.mz_emit_bodies.specs.declared.body.Body.{Body}
use Rattle.mz_emit_bodies.specs.declared.let_scopes.Cell.{Cell}
use Rattle.mz_emit_bodies.proofs.Making.{in_grown, tree_grown}
use Rattle.mz_emit_bodies.proofs.Moves.{spelled_on, short_on}
use Rattle.mz_emit_bodies.proofs.Counting.{room_expr, room_next, room_axiom, room_theorem, definition_room, axiom_room, theorem_room}
use Rattle.mz_emit_bodies.proofs.Growing.{many_ids}
use Rattle.mz_emit_bodies.proofs.Heaps.{then_nothing, and_nothing, and_assoc, hyp_kept}
use Rattle.mz_emit_bodies.proofs.Writers.{writing_ended, writing_more, writing_put, hyps_next}

-- ---- what is to be written next

take_whole : (A : Type 0) (xs : List A) (k : ℕ) → k ≡ length xs → take k xs ≡ xs
take_whole A [] zero is = refl
take_whole A (x ∷ xs) (suc k) is = ap (λ (zs : List A). x ∷ zs) (take_whole A xs k (omega (arith, is)))
take_whole A _ _ is = absurd (omega (arith, is))

module _ (env : List Declaration) (o : Job) (s : Sharing) (vars : List Id) (places : List (Option ℕ)) (len : ℕ) (hps : List ℕ) (cells : List Cell) where
  -- other tasks, for which this is written
  aimed : (r : Writer) (ts us : List Task) (bs : List ℕ) (g : IsGoing env o s vars places len hps cells ts bs) → ts ≡ [] → AllCanBeDone o.gaps env s.context o.hyps o.count s (parts cells) us
      → ((w : Writing) → write_tasks env s.context s (parts cells) us w ≡ r w) → HasRoomFor o r → IsGoing env (writing_too o r) s vars places len hps cells us bs
  aimed r ts us bs g ts-is can writes room = record {
    commands = g.commands;
    written = g.written;
    short = g.short;
    writing = writing_more env s places len hps cells g.commands o.whole ts ts-is g.writing us r writes room;
    counted = g.counted;
    grew = g.grew;
    shared = g.shared;
    lets = g.lets;
    can = can;
  }

  pub expr_owed : (i : ℕ) (ts ts' : List Task) (bs : List ℕ) → ts ≡ [] → ts' ≡ push i ∷ ts → IsIn o.store i → HasRoomFor o (write_expr o.store.context (tree_of o.store i))
      → IsGoing env o s vars places len hps cells ts bs → IsGoing env (writing_too o (write_expr o.store.context (tree_of o.store i))) s vars places len hps cells ts' bs
  expr_owed i ts ts' bs ts-is is inside room g =
      subst (λ (us : List Task). IsGoing env (writing_too o (write_expr o.store.context (tree_of o.store i))) s vars places len hps cells us bs)
      (sym (is ∙ ap (λ (us : List Task). push i ∷ us) ts-is))
      (aimed (write_expr o.store.context (tree_of o.store i)) ts (push i ∷ []) bs g ts-is (in_grown o.store s g.grew i inside, tt)
      (λ w. then_nothing (write_expr s.context (tree_of s i)) w ∙ ap (λ (ctx : List Binder). write_expr ctx (tree_of s i) w) g.grew.0
      ∙ ap (λ (e : Tree). write_expr o.store.context e w) (tree_grown o.store s g.grew i inside)) room)

  pub proof_owed : (p : Proof) (ts ts' : List Task) (bs : List ℕ) → ts ≡ [] → ts' ≡ prove p None ∷ ts → o.count ≡ length o.hyps → IsSound o.gaps env o.store.context o.hyps [] p
      → HasRoomFor o (write_proof env o.store.context [] p)
      → IsGoing env o s vars places len hps cells ts bs → IsGoing env (writing_too o (write_proof env o.store.context [] p)) s vars places len hps cells ts' bs
  proof_owed p ts ts' bs ts-is is all sound room g =
      subst (λ (us : List Task). IsGoing env (writing_too o (write_proof env o.store.context [] p)) s vars places len hps cells us bs)
      (sym (is ∙ ap (λ (us : List Task). prove p None ∷ us) ts-is))
      (aimed (write_proof env o.store.context [] p) ts (prove p None ∷ []) bs g ts-is ((all, tt, subst (λ (ctx : List Binder). IsSound o.gaps env ctx o.hyps [] p) (sym g.grew.0) sound), tt)
      (λ w. then_nothing (write_proof env s.context [] p) w ∙ ap (λ (ctx : List Binder). write_proof env ctx [] p w) g.grew.0) room)

  -- an expression that is left becomes a hypothesis
  pub hyp_assumed : (e : Tree) (places' : List (Option ℕ)) (len' : ℕ) (hps' : List ℕ) (ts : List Task) (bs bs' : List ℕ) → ts ≡ [] → HasRoomFor o (write_hyp o.store.context o.count e)
      → places' ≡ places → len' ≡ len + 1 → hps' ≡ hps ++ len ∷ [] → bs' ≡ bs ++ command_bytes (code.Hyp, 0)
      → IsGoing env (writing_too o (write_expr o.store.context e)) s vars places len hps cells ts bs
      → IsGoing env (writing_too (assuming o (o.count + 1)) (write_hyp o.store.context o.count e)) s vars places' len' hps' cells ts bs'
  hyp_assumed e places' len' hps' ts bs bs' ts-is room places-are len-is hps-are is g = record {
    commands = g.commands ++ (code.Hyp, 0) ∷ [];
    written = spelled_on bs bs' g.commands (code.Hyp, 0) g.written is;
    short = short_on g.commands (code.Hyp, 0) g.short (omega arith);
    writing = subst (λ (z : List (Option ℕ)). IsWriting env s z len' hps' cells ts (g.commands ++ (code.Hyp, 0) ∷ []) (and_then o.whole (write_hyp o.store.context o.count e))) (sym places-are)
        (subst (IsWriting env s places len' hps' cells ts (g.commands ++ (code.Hyp, 0) ∷ [])) (and_assoc o.whole (write_expr o.store.context e) (keeping code.Hyp 0 (hypothesis o.count)))
        (writing_put env s places len hps cells g.commands (and_then o.whole (write_expr o.store.context e)) ts ts-is g.writing places len' hps' code.Hyp 0 (hypothesis o.count)
        (hyp_kept s places len hps cells g.writing.here g.writing.kept o.count len' hps' (sym g.counted) hps-are len-is) room));
    counted = ap length hps-are ∙ length-append hps (len ∷ []) ∙ ap (λ (k : ℕ). k + 1) g.counted;
    grew = g.grew;
    shared = g.shared;
    lets = g.lets;
    can = subst (AllCanBeDone o.gaps env s.context o.hyps (o.count + 1) s (parts cells)) (sym ts-is) tt;
  }

  -- as many hypotheses, under another number
  pub recounted : (n : ℕ) (ts : List Task) (bs : List ℕ) → n ≡ o.count → IsGoing env o s vars places len hps cells ts bs → IsGoing env (writing_too (assuming o n) nothing) s vars places len hps cells ts bs
  recounted n ts bs is g = record {
    commands = g.commands;
    written = g.written;
    short = g.short;
    writing = subst (IsWriting env s places len hps cells ts g.commands) (sym (and_nothing o.whole)) g.writing;
    counted = g.counted ∙ sym is;
    grew = g.grew;
    shared = g.shared;
    lets = g.lets;
    can = subst (λ (k : ℕ). AllCanBeDone o.gaps env s.context o.hyps k s (parts cells) ts) (sym is) g.can;
  }

-- ---- the hypotheses, one after another

pub rests_next : (o : Job) (b : Body) (is : List Id) (k : ℕ) (d : Id) → k < length is
    → Rests (writing_too (assuming (with_hyps o k (take k is)) (k + 1)) (write_hyp o.store.context k (tree_of o.store (get_or is k d).0))) b
    → Rests (with_hyps o (k + 1) (take (k + 1) is)) b
rests_next o b is k d lt rests =
    let hyps : Writer = write_hyps o.store.context 0 (listed (trees_of o.store (take k is))) in
    let all : Writer = write_hyps o.store.context 0 (listed (trees_of o.store (take (k + 1) is))) in
    let one : Writer = write_hyp o.store.context k (tree_of o.store (get_or is k d).0) in
    let whole : and_then (and_then o.whole hyps) one ≡ and_then o.whole all = and_assoc o.whole hyps one ∙ ap (behind o.whole.commands) (sym (hyps_next o.store.context o.store d is k o.whole.after lt)) in
    subst (λ (r : Written). Rests (record o { count = k + 1; whole = r }) b) whole rests

pub rests_all : (o : Job) (b : Body) (is : List Id) (k : ℕ) → k ≡ length is → Rests (with_hyps o k (take k is)) b → Rests (with_hyps o (length is) is) b
rests_all o b is k k-is rests = subst (λ (n : ℕ). Rests (with_hyps o n is) b) k-is (subst (λ (js : List Id). Rests (with_hyps o k js) b) (take_whole Id is k k-is) rests)

in_at : (s : Sharing) (is : List Id) (k : ℕ) (d : Id) → AreIn s is → k < length is → IsIn s (get_or is k d).0
in_at s [] k d inside lt = absurd (omega (arith, lt))
in_at s (i ∷ is) zero d inside lt = inside.0
in_at s (i ∷ is) (suc k) d inside lt = in_at s is k d inside.1 (omega (arith, lt))

-- the next of the hypotheses
pub next_hyp : (o : Job) (b b' : Body) (is : List Id) (k : ℕ) (d : Id) → AssumesAll o b is → k < length is → Rests (with_hyps o k (take k is)) b' → Assumes (with_hyps o k (take k is)) b' (get_or is k d).0
next_hyp o b b' is k d all lt rests =
    let room = room_next o.store.context o.store o.whole is k d lt all.room in
    ((rests, in_at o.store is k d all.inside lt, room_expr o.store.context (with_hyps o k (take k is)).whole k (tree_of o.store (get_or is k d).0) room), room)

-- the proof, behind the hypotheses
pub proves_next : (o : Job) (b b' : Body) (is : List Id) (p : Proof) → b'.before ≡ b.before → ProvesFrom o b is p → Rests (with_hyps o (length is) is) b' → Proves (with_hyps o (length is) is) b' p
proves_next o b b' is p same can rests = (
  rests,
  can.1,
  subst (λ (z : Before). IsSound o.gaps z.env.now o.store.context o.hyps [] p) (sym same) can.2,
  subst (λ (z : Before). HasRoomFor (with_hyps o (length is) is) (write_proof z.env.now o.store.context [] p)) (sym same) can.3,
)

-- ---- the end

spelled_end : (cs : List (ProofCode × ℕ)) → spelled_body cs ≡ spelled cs ++ 0 ∷ []
spelled_end [] = refl
spelled_end (c ∷ cs) = ap (λ (z : List ℕ). command_bytes c ++ z) (spelled_end cs) ∙ sym (append_assoc (command_bytes c) (spelled cs) (0 ∷ []))

-- the bytes are these commands with an END, whose operands take four bytes at most
abbrev pub AreWrittenFor : List ℕ → Written → Type 0
AreWrittenFor bs r = (bs ≡ spelled_body r.commands) × TakeFourBytes r.commands

-- what was to be written is
pub ended : (env : List Declaration) (o : Job) (s : Sharing) (vars : List Id) (places : List (Option ℕ)) (len : ℕ) (hps : List ℕ) (cells : List Cell) (ts : List Task) (bs bs' : List ℕ)
    → ts ≡ [] → bs' ≡ bs ++ 0 ∷ [] → IsGoing env o s vars places len hps cells ts bs → AreWrittenFor bs' o.whole
ended env o s vars places len hps cells ts bs bs' ts-is is g =
    let same = writing_ended env s places len hps cells g.commands o.whole ts ts-is g.writing in
    (is ∙ ap (λ (z : List ℕ). z ++ 0 ∷ []) (g.written ∙ ap spelled same) ∙ sym (spelled_end o.whole.commands), subst TakeFourBytes same g.short)

pub cut_at : (xs : List Binder) (n : ℕ) → xs ≡ take n xs ++ drop n xs
cut_at xs zero = refl
cut_at [] (suc n) = refl
cut_at (x ∷ xs) (suc n) = ap (λ (ys : List Binder). x ∷ ys) (cut_at xs n)

pub take_long : (A : Type 0) (xs : List A) (n : ℕ) → n ≤ length xs → length (take n xs) ≡ n
take_long A xs zero le = refl
take_long A [] (suc n) le = absurd (omega (arith, le))
take_long A (x ∷ xs) (suc n) le = ap suc (take_long A xs n (omega (arith, le)))

-- for a definition
pub definition_ended : (gaps : Bool) (ps ds : List Binder) (s : Sharing) (i : ℕ) (b : Body) (bs : List ℕ) → to_do b.tasks.items ≡ [] → bs ≡ b.out.items ++ 0 ∷ [] → s.context ≡ ps ++ ds
    → Does (writing_too (job gaps ps s []) (write_expr s.context (tree_of s i))) b [] → AreWrittenFor bs (definition_written ps ds (tree_of s i))
definition_ended gaps ps ds s i b bs done end cut does =
    let e : Tree = tree_of s i in
    subst (λ (ctx : List Binder). AreWrittenFor bs (write_expr ctx e (at_first ps))) cut
    (ended b.before.env.now (writing_too (job gaps ps s []) (write_expr s.context e)) b.shared.store b.shared.variables.items b.heap.places.items b.heap.len b.hyps.items b.cells.cells.items
    (to_do b.tasks.items) b.out.items bs done end does)

-- for an axiom
pub axiom_ended : (gaps : Bool) (ps ds : List Binder) (s : Sharing) (is : List Id) (i : ℕ) (b : Body) (bs : List ℕ) → to_do b.tasks.items ≡ [] → bs ≡ b.out.items ++ 0 ∷ [] → s.context ≡ ps ++ ds
    → Does (writing_too (with_hyps (job gaps ps s (listed (trees_of s is))) (length is) is) (write_expr s.context (tree_of s i))) b []
    → AreWrittenFor bs (axiom_written ps ds (listed (trees_of s is)) (tree_of s i))
axiom_ended gaps ps ds s is i b bs done end cut does =
    let e : Tree = tree_of s i in
    let hyps : List Tree = listed (trees_of s is) in
    subst (λ (ctx : List Binder). AreWrittenFor bs ((write_hyps ctx 0 hyps >> write_expr ctx e) (at_first ps))) cut
    (ended b.before.env.now (writing_too (with_hyps (job gaps ps s hyps) (length is) is) (write_expr s.context e)) b.shared.store b.shared.variables.items b.heap.places.items b.heap.len b.hyps.items b.cells.cells.items
    (to_do b.tasks.items) b.out.items bs done end does)

-- for a theorem
pub theorem_ended : (gaps : Bool) (before before' : Before) (ps ds : List Binder) (s : Sharing) (is : List Id) (p : Proof) (b : Body) (bs : List ℕ) → before' ≡ before → to_do b.tasks.items ≡ [] → bs ≡ b.out.items ++ 0 ∷ []
    → s.context ≡ ps ++ ds
    → Does (writing_too (with_hyps (job gaps ps s (listed (trees_of s is))) (length is) is) (write_proof before'.env.now s.context [] p)) b []
    → AreWrittenFor bs (theorem_written before.env.now ps ds (listed (trees_of s is)) p)
theorem_ended gaps before before' ps ds s is p b bs same done end cut does =
    let hyps : List Tree = listed (trees_of s is) in
    subst (λ (z : Before). AreWrittenFor bs (theorem_written z.env.now ps ds hyps p)) same
    (subst (λ (ctx : List Binder). AreWrittenFor bs ((write_hyps ctx 0 hyps >> write_proof before'.env.now ctx [] p) (at_first ps))) cut
    (ended b.before.env.now (writing_too (with_hyps (job gaps ps s hyps) (length is) is) (write_proof before'.env.now s.context [] p)) b.shared.store b.shared.variables.items b.heap.places.items b.heap.len b.hyps.items
    b.cells.cells.items (to_do b.tasks.items) b.out.items bs done end does))

-- over the first of the variables
pub first_begins : (gaps : Bool) (s : Sharing) (hyps : List Tree) (params : List Binder) (n : ℕ) → length params ≡ n → Begins (job gaps params s hyps) s n
first_begins gaps s hyps params n long = (refl, refl, params, long, refl)

-- ---- what is asked for the laws

-- of the variables behind the parameters
pub fine_behind : (env : List Declaration) (n : ℕ) (s : Sharing) (vars : List Id) (ps ds : List Binder) → HasDummiesBehind env n s vars → s.context ≡ ps ++ ds → length ps ≡ n → AreDummiesBehind env (length ps) (ps ++ ds)
fine_behind env n s vars ps ds behind is long x b at le = behind.dummies x b (ap (λ (ctx : List Binder). slice_get ctx x) is ∙ at) (omega (arith, le, long))

-- of an expression of the store
pub sorted_there : (env : List Declaration) (n : ℕ) (s : Sharing) (vars : List Id) (ctx : List Binder) (i : ℕ) → HasDummiesBehind env n s vars → s.context ≡ ctx → IsIn s i → Sorted (signatures env) ctx (tree_of s i)
sorted_there env n s vars ctx i behind is inside = subst (λ (z : List Binder). Sorted (signatures env) z (tree_of s i)) is (sort_of s i, (behind.shared.over i inside).0)

-- ---- the room

module _ (gaps : Bool) (ps : List Binder) (s : Sharing) (is : List Id) (n : ℕ) (long : length ps ≡ n) where
  pub definition_fits : (i : ℕ) → n + 6 * size (tree_of s i) < 2 ^ 32 → HasRoomFor (job gaps ps s []) (write_expr s.context (tree_of s i))
  definition_fits i room = definition_room s.context ps (tree_of s i) (omega (arith, long, room))

  -- a conclusion is to be left behind all the hypotheses
  pub writes_from : (i : ℕ) (b : Body) → n + 6 * (trees_size (trees_of s is) + size (tree_of s i)) < 2 ^ 32 → Rests (job gaps ps s (listed (trees_of s is))) b → AreIn s is → IsIn s i
      → WritesFrom (job gaps ps s (listed (trees_of s is))) b is i
  writes_from i b room rests inside there =
      let fits : HasRoomFor (with_hyps (job gaps ps s (listed (trees_of s is))) (length is) is) (write_expr s.context (tree_of s i)) = axiom_room s.context ps (trees_of s is) (tree_of s i) (omega (arith, long, room)) in (
        record { rests = rests; none_yet = refl; inside = inside; room = room_axiom s.context (unwritten ps) (write_hyps s.context 0 (listed (trees_of s is))) (tree_of s i) fits },
        there,
        fits,
      )

  -- and a proof
  pub proves_from : (z : Before) (b : Body) (p : Proof) → b.before ≡ z → n + 6 * (trees_size (trees_of s is) + proof_weight z.env.now p) < 2 ^ 32 → Rests (job gaps ps s (listed (trees_of s is))) b → AreIn s is
      → IsSound gaps z.env.now s.context (listed (trees_of s is)) [] p → ProvesFrom (job gaps ps s (listed (trees_of s is))) b is p
  proves_from z b p same room rests inside sound =
      let fits : HasRoom ((write_hyps s.context 0 (listed (trees_of s is)) >> write_proof z.env.now s.context [] p) (at_first ps)) = theorem_room z.env.now s.context ps (trees_of s is) p (omega (arith, long, room)) in (
        record { rests = rests; none_yet = refl; inside = inside; room = room_theorem z.env.now s.context (unwritten ps) (write_hyps s.context 0 (listed (trees_of s is))) p fits },
        many_ids s is,
        subst (λ (y : Before). IsSound gaps y.env.now s.context (listed (trees_of s is)) [] p) (sym same) sound,
        subst (λ (y : Before). HasRoomFor (with_hyps (job gaps ps s (listed (trees_of s is))) (length is) is) (write_proof y.env.now s.context [] p)) (sym same) fits,
      )

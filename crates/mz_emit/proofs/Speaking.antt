-- What the streams and bodies of a statement say.
use Rattle.std.proofs.Common.{ℕ, zero, suc, ◌≡◌, ◌≤◌, ◌+◌, ◌*◌, length-append, append-nil, Bool, true, false, if◌then◌else◌, List, [], ◌∷◌, ◌++◌, length, All, refl, sym, subst, ap, ◌∙◌, arith}
use Rattle.std.specs.Prelude.{Option, Some, None, slice_get}
use Rattle.std.proofs.lemmas.List.Elements.{All-head, All-tail}
use Rattle.mz_logic_theory.specs.Tree.{Tree, Trees, none, more, listed, size, trees_size}
use Rattle.mz_logic_theory.specs.Signature.{Signature}
use Rattle.mz_logic_theory.specs.Declaration.{Assertion, Declaration, sorts, signatures}
use Rattle.mz_logic_theory.specs.Legality.{IsDummy}
use Rattle.mz_logic_theory.specs.Sorts.{HasSort, HasProvable, AreProvable}
use Rattle.mz_logic_theory.specs.Words.{binders_of}
use Rattle.mz_logic_theory.specs.declared.binder.Binder.{Binder}
use Rattle.mz_logic_theory.specs.declared.word.Word.{Word}
use Rattle.mz_logic_theory.proofs.Offered.{extends_append, each_from_all, keep_sorts}
use Rattle.mz_store.specs.Bits.{bound_from, bound_vars}
use Rattle.mz_store.specs.Sharing.{Sharing, Holds, tree_of}
use Rattle.mz_store.specs.declared.item.Id.{Id}
use Rattle.mz_machine_theory.specs.Sorted.{Sorted, AllSorted}
use Rattle.mz_machine_theory.specs.Spells.{dummy_of}
use Rattle.mz_machine_theory.specs.Streams.{of_definition, of_assertion}
use Rattle.mz_machine_theory.specs.Lists.{kind_of}
use Rattle.mz_machine_theory.specs.Premises.{bound_count as bound_in}
use Rattle.mz_machine_theory.specs.MachineState.{is_axiom, is_theorem, is_definition}
use Rattle.mz_machine_env.proofs.Offered.{binders_many}
use Rattle.mz_mmu_theory.specs.Proof.{Proof}
use Rattle.mz_emit_theory.specs.SharedBodies.{IsSharedBody}
use Rattle.mz_emit_theory.specs.StreamLaws.{IsSmall}
use Rattle.mz_emit_theory.specs.SharedTexts.{IsSharedText}
use Rattle.mz_emit_theory.specs.StreamWriting.{assertion_written, definition_written, body_spelled, dummies_spelled}
use Rattle.mz_emit_theory.proofs.Offered.{assertions-short, definitions-short, assertions-bounded, definitions-bounded, assertions-written, definitions-written, assertions-shared, definitions-shared, reach_of_sort}
use Rattle.mz_emit_bodies.specs.Instances.{Grows}
use Rattle.mz_emit_theory.specs.InReach.{InReach, AllInReach, AreSorted}
use Rattle.mz_emit_bodies.specs.Laws.{AreDummiesBehind}
use Rattle.mz_emit_bodies.specs.Variables.{IsShared}
use Rattle.mz_emit_bodies.proofs.Offered.{tree_grown}
use Rattle.mz_emit.specs.Params.{HasParams}
use Rattle.mz_emit_theory.specs.Claims.{IsSound, proved}
use Rattle.mz_emit_theory.specs.Uses.{uses, IsBodyUsing}
use Rattle.mz_emit_bodies.specs.Stages.{HasDummiesBehind}
use Rattle.mz_emit.proofs.Saying.{few_nodes}
use Rattle.mz_emit.proofs.Using.{used_as_stated}
use Rattle.mz_emit_theory.specs.Gapped.{SaysItsUses}
use Rattle.mz_emit.specs.Emitting.{AreReady, CanBeDefined, CanBeAsserted, IsProvedBy, IsSoundIfStated, body_weight}
use Rattle.mz_emit_theory.specs.CompiledFile.{definition_stream_of, definition_body_of, assertion_stream_of, assertion_body_of}

-- ---- counts of bound variables

one_counted : (b : Bool) (i : ℕ) (xs : List ℕ) (m k : ℕ) → m ≡ length xs + k → (if b then suc m else m) ≡ length (if b then i ∷ xs else xs) + k
one_counted true i xs m k e = omega arith
one_counted false i xs m k e = e

one_dummy : (b : Bool) (m n : ℕ) → b ≡ true → m ≡ n → (if b then suc m else m) ≡ suc n
one_dummy true m n is e = ap suc e
one_dummy false m n is e = absurd (cc)

dummies_counted : (ds : List Binder) → All IsDummy ds → bound_in ds ≡ length ds
dummies_counted [] are = refl
dummies_counted (d ∷ ds) are = one_dummy d.bound (bound_in ds) (length ds) (All-head IsDummy d ds are).0 (dummies_counted ds (All-tail IsDummy d ds are))

all_counted : (i : ℕ) (ps ds : List Binder) → All IsDummy ds → bound_in (ps ++ ds) ≡ length (bound_from i ps) + length ds
all_counted i [] ds are = let e : bound_in ds ≡ length ds = dummies_counted ds are in omega (arith, e)
all_counted i (p ∷ ps) ds are = one_counted p.bound i (bound_from (suc i) ps) (bound_in (ps ++ ds)) (length ds) (all_counted (suc i) ps ds are)

-- ---- what is behind the parameters

behind : (ps ds : List Binder) (x : ℕ) (b : Binder) → slice_get (ps ++ ds) x ≡ Some b → length ps ≤ x → (i : ℕ) × (slice_get ds i ≡ Some b)
behind [] ds x b e le = (x, e)
behind (p ∷ ps) ds zero b e le = absurd (omega arith)
behind (p ∷ ps) ds (suc x) b e le = behind ps ds x b e (omega arith)

dummy_is : (b : Binder) → IsDummy b → b ≡ dummy_of b.sort
dummy_is b is = ap (λ x. record { sort = b.sort; bound = x; deps = b.deps }) is.0 ∙ ap (λ xs. record { sort = b.sort; bound = true; deps = xs }) is.1

module _ (env : List Declaration) (ps ds : List Binder) (ready : AreReady env ps ds) where
  pub few_bound : length (bound_vars ps) + length ds ≤ 55
  few_bound = omega (arith, all_counted 0 ps ds ready.dummies_are, ready.few)

  pub has_params : (ctx : List Binder) (n : ℕ) → ctx ≡ ps ++ ds → length ps ≡ n → HasParams n ctx
  has_params ctx n is many = (sorts env, ps, ds, is, many, ready.params_are, ready.dummies_are)

  pub dummies_fine : AreDummiesBehind env (length ps) (ps ++ ds)
  dummies_fine x b at past =
      let found = behind ps ds x b at past in
      (dummy_is b (each_from_all IsDummy ds ready.dummies_are found.0 b found.1), ready.dummy_sorts found.0 b found.1)

  pub dummies_behind : (s : Sharing) (vars : List Id) (n : ℕ) → s.context ≡ ps ++ ds → length ps ≡ n → IsShared (signatures env) s vars → HasDummiesBehind env n s vars
  dummies_behind s vars n is many shared = record {
    shared = shared;
    many = let e : length s.context ≡ length ps + length ds = ap length is ∙ length-append ps ds in omega arith;
    dummies = λ x b at past. dummies_fine x b (sym (ap (λ ctx. slice_get ctx x) is) ∙ at) (omega (arith, many, past));
  }

pub few_words : (ws : List Word) → length (binders_of ws) ≤ 65535 → length ws ≤ 65535
few_words ws few = omega (arith, few, binders_many ws)

-- ---- what a store keeps

pub held_after : (s s' : Sharing) (i : ℕ) (e : Tree) → Grows s s' → Holds s i e → tree_of s' i ≡ e
held_after s s' i e grows (inside, holds) = tree_grown s s' grows i inside ∙ holds

-- ---- definitions

-- the stream spells the definition, and the body makes it, in which no gap can stand; both share what they build, and
-- are in proportion to it
pub record SaysDefinition (env : List Declaration) (params dummies : List Binder) (e : Tree) : Type 0 where
  pub text : IsSharedText of_definition (signatures env) params (definition_stream_of params dummies e) none (body_spelled params dummies e) (dummies_spelled params dummies e)
  pub makes : (gaps : Bool) → IsSharedBody gaps env is_definition params dummies e [] (definition_body_of params dummies e)
  pub short : length (definition_stream_of params dummies e) + length (definition_body_of params dummies e) ≤ 11 * size e + 2

pub definition_says : (env : List Declaration) (ps ds : List Binder) (e : Tree) → CanBeDefined env ps ds e
    → ((gaps : Bool) → IsSharedBody gaps env is_definition ps ds e [] (definition_body_of ps ds e)) → length (definition_body_of ps ds e) ≤ 6 * size e + 1
    → SaysDefinition env ps ds e
definition_says env ps ds e can makes short = record {
  text =
      let short_ones = definitions-short (signatures env) ps ds e can.ready.small can.sorted (let r = can.room in omega (arith, r)) in
      record {
        commands = (definition_written ps ds e).commands;
        written = refl;
        short = short_ones;
        spells = definitions-written (signatures env) ps ds e can.sorted short_ones;
        shares = definitions-shared (signatures env) ps ds e can.sorted short_ones;
      };
  makes = makes;
  short =
      let stream_short : length (definition_stream_of ps ds e) ≤ 5 * size e + 1 = definitions-bounded (signatures env) ps ds e can.ready.small can.sorted in
      omega (arith, stream_short, short);
}

-- ---- axioms and theorems

small_front : (sigs : List Signature) (ps ds : List Binder) → IsSmall sigs (ps ++ ds) → IsSmall sigs ps
small_front sigs ps ds small = record { terms = small.terms; sorts = λ x b e. small.sorts x b (extends_append ps ds x b e) }

module _ (env : List Declaration) (ps : List Binder) where
  longer : (ds : List Binder) (e : Tree) (s : ℕ) → HasSort (signatures env) ps e s → HasSort (signatures env) (ps ++ ds) e s
  longer ds e s has = subst (λ es. HasSort (signatures es) (ps ++ ds) e s) (append-nil env) (keep_sorts env [] ps ds e s has)

  all_sorted : (es : Trees) → ((i : ℕ) (e : Tree) → slice_get (listed es) i ≡ Some e → HasProvable env ps e) → AllSorted (signatures env) ps (listed es)
  all_sorted none h = tt
  all_sorted (more e es) h = let p = h 0 e refl in ((p.0, p.1), all_sorted es (λ i. h (suc i)))

  pub are_sorted : (ds : List Binder) (es : Trees) → ((i : ℕ) (e : Tree) → slice_get (listed es) i ≡ Some e → HasProvable env ps e) → AreSorted (signatures env) (ps ++ ds) es
  are_sorted ds none h = tt
  are_sorted ds (more e es) h = let p = h 0 e refl in ((p.0, longer ds e p.0 p.1), are_sorted ds es (λ i. h (suc i)))

  reach_all : (es : Trees) → ((i : ℕ) (e : Tree) → slice_get (listed es) i ≡ Some e → HasProvable env ps e) → AllInReach (length ps) es
  reach_all none h = tt
  reach_all (more e es) h = let p = h 0 e refl in (reach_of_sort (signatures env) ps e p.0 p.1, reach_all es (λ i. h (suc i)))

-- the body makes what the proof proves, and uses what it uses, or else makes an axiom's conclusion; it builds no
-- application twice
abbrev pub MakesBody : Bool → List Declaration → Option Proof → List Binder → List Binder → Tree → List Tree → List ℕ → Type 0
MakesBody gaps env None params dummies e hyps bytes = IsSharedBody gaps env is_axiom params dummies e hyps bytes
MakesBody gaps env (Some p) params dummies e hyps bytes = IsBodyUsing gaps env is_theorem params dummies (proved env hyps [] p) hyps bytes (λ u. uses u [] p)

-- as of a definition the stream and the body of an axiom, or of a theorem with this proof, with gaps or without; the body
-- uses what the proof does
pub record SaysAssertion (gaps : Bool) (env : List Declaration) (a : Assertion) (dummies : List Binder) (stated : Option Proof) : Type 0 where
  pub text : IsSharedText of_assertion (signatures env) a.params (assertion_stream_of a) a.hyps a.conclusion []
  pub makes : IsSharedBody gaps env (kind_of a.is_axiom) a.params dummies a.conclusion (listed a.hyps) (assertion_body_of env a.params dummies (listed a.hyps) a.conclusion stated)
  pub uses : SaysItsUses a.is_axiom stated (assertion_body_of env a.params dummies (listed a.hyps) a.conclusion stated)
  pub short : length (assertion_stream_of a) + length (assertion_body_of env a.params dummies (listed a.hyps) a.conclusion stated)
      ≤ 16 * (trees_size a.hyps + size a.conclusion + body_weight env stated) + 2

module _ (env : List Declaration) (a : Assertion) (ds : List Binder) (can : CanBeAsserted env a ds) where
  pub conclusion_sorted : Sorted (signatures env) (a.params ++ ds) a.conclusion
  conclusion_sorted = (can.conclusion.0, longer env a.params ds a.conclusion can.conclusion.0 can.conclusion.1)

  pub hyps_sorted : AreSorted (signatures env) (a.params ++ ds) a.hyps
  hyps_sorted = are_sorted env a.params ds a.hyps can.hyps

  pub conclusion_reach : (t : Tree) (n : ℕ) → t ≡ a.conclusion → length a.params ≡ n → InReach n t
  conclusion_reach t n is many = subst (λ k. InReach k t) many (subst (InReach (length a.params)) (sym is) (reach_of_sort (signatures env) a.params a.conclusion can.conclusion.0 can.conclusion.1))

  pub hyps_reach : (hs : Trees) (n : ℕ) → hs ≡ a.hyps → length a.params ≡ n → AllInReach n hs
  hyps_reach hs n is many = subst (λ k. AllInReach k hs) many (subst (AllInReach (length a.params)) (sym is) (reach_all env a.params a.hyps can.hyps))

  pub hyps_provable : (ctx : List Binder) (hs : Trees) → ctx ≡ a.params ++ ds → hs ≡ a.hyps → AreProvable env ctx hs
  hyps_provable ctx hs at is = subst (λ c. AreProvable env c hs) (sym at) (subst (AreProvable env (a.params ++ ds)) (sym is)
      (λ i e here. let p = can.hyps i e here in (p.0, longer env a.params ds e p.0 p.1, p.2)))

  pub sound_there : (gaps : Bool) (q : Option Proof) (ctx : List Binder) (hs : Trees) → ctx ≡ a.params ++ ds → hs ≡ a.hyps → IsProvedBy gaps env (a.params ++ ds) a q
      → IsSoundIfStated gaps env ctx (listed hs) q
  sound_there gaps None ctx hs at is by = tt
  sound_there gaps (Some p) ctx hs at is by =
      subst (λ c. IsSound gaps env c (listed hs) [] p) (sym at) (subst (λ xs. IsSound gaps env (a.params ++ ds) (listed xs) [] p) (sym is) by.1)

  made : (gaps : Bool) (q : Option Proof) (bytes : List ℕ) → IsProvedBy gaps env (a.params ++ ds) a q → MakesBody gaps env q a.params ds a.conclusion (listed a.hyps) bytes
      → IsSharedBody gaps env (kind_of a.is_axiom) a.params ds a.conclusion (listed a.hyps) bytes
  made gaps None bytes by makes = subst (λ b. IsSharedBody gaps env (kind_of b) a.params ds a.conclusion (listed a.hyps) bytes) (sym by) makes
  made gaps (Some p) bytes by makes =
      subst (λ b. IsSharedBody gaps env (kind_of b) a.params ds a.conclusion (listed a.hyps) bytes) (sym by.0)
      (subst (λ e. IsSharedBody gaps env is_theorem a.params ds e (listed a.hyps) bytes) by.2 makes.0)

  using : (gaps : Bool) (q : Option Proof) (bytes : List ℕ) → IsProvedBy gaps env (a.params ++ ds) a q → MakesBody gaps env q a.params ds a.conclusion (listed a.hyps) bytes
      → SaysItsUses a.is_axiom q bytes
  using gaps None bytes by makes = by
  using gaps (Some p) bytes by makes = (by.0, used_as_stated gaps env is_theorem a.params ds (proved env (listed a.hyps) [] p) (listed a.hyps) bytes p makes)

  pub assertion_says : (gaps : Bool) (q : Option Proof) → IsProvedBy gaps env (a.params ++ ds) a q
      → MakesBody gaps env q a.params ds a.conclusion (listed a.hyps) (assertion_body_of env a.params ds (listed a.hyps) a.conclusion q)
      → length (assertion_body_of env a.params ds (listed a.hyps) a.conclusion q) ≤ 6 * (trees_size a.hyps + size a.conclusion + body_weight env q) + 1 → SaysAssertion gaps env a ds q
  assertion_says gaps q by makes short =
      let body : List ℕ = assertion_body_of env a.params ds (listed a.hyps) a.conclusion q in
      let sorted = all_sorted env a.params a.hyps can.hyps in
      let small = small_front (signatures env) a.params ds can.ready.small in
      let one : Sorted (signatures env) a.params a.conclusion = (can.conclusion.0, can.conclusion.1) in
      record {
        text =
            let short_ones = assertions-short (signatures env) a.params a.hyps a.conclusion small sorted one can.short in
            record {
              commands = (assertion_written a.params a.hyps a.conclusion).commands;
              written = refl;
              short = short_ones;
              spells = assertions-written (signatures env) a.params a.hyps a.conclusion sorted one short_ones;
              shares = assertions-shared (signatures env) a.params a.hyps a.conclusion sorted one short_ones;
            };
        makes = made gaps q body by makes;
        uses = using gaps q body by makes;
        short =
            let stream_short : length (assertion_stream_of a) ≤ 5 * (size a.conclusion + (trees_size a.hyps + length (listed a.hyps))) + 1
            = assertions-bounded (signatures env) a.params a.hyps a.conclusion small sorted one in
            omega (arith, stream_short, short, few_nodes a.hyps);
      }

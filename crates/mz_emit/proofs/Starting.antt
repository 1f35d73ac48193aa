-- What is marked at the start.
use Rattle.std.proofs.Common.{true, false, ◌⊎◌, ◌≤◌, inl, inr, bit_or, map, reverse, append_assoc, ℕ, zero, suc, ◌≡◌, ◌<◌, ◌+◌, List, [], ◌∷◌, ◌++◌, length, slice_get, Contains, Option, Some, refl, ap, sym, ◌∙◌, subst, arith, append-nil}
use Rattle.std.specs.Prelude.{All}
use Rattle.std.proofs.lemmas.List.{length-append, map-append, reverse-append}
use Rattle.std.proofs.lemmas.List.Elements.{All-contains}
use Rattle.std.proofs.lemmas.Option.{get_or_from_slice_get, slice_get_within, none-some}
use Rattle.std.proofs.lemmas.Bool.{cases_eq}
use Rattle.mz_logic_theory.specs.Tree.{Tree, var, listed}
use Rattle.mz_logic_theory.specs.Legality.{AreParams, IsDummy}
use Rattle.mz_logic_theory.specs.Signature.{Signature}
use Rattle.mz_logic_theory.specs.Variables.{InV, IsBoundAt}
use Rattle.mz_logic_theory.specs.declared.binder.SortMods.{SortMods}
use Rattle.mz_logic_theory.specs.declared.binder.Binder.{Binder}
use Rattle.mz_logic_theory.proofs.Offered.{split_at, one_at}
use Rattle.mz_store.specs.Bits.{Tells, bound_vars}
use Rattle.mz_store.specs.Sharing.{Sharing, Holds, IsIn, IsOver, DependsOn, tree_of, trees_of}
use Rattle.mz_store.specs.declared.item.Id.{Id}
use Rattle.mz_machine_theory.specs.Streams.{UnifyCommand}
use Rattle.mz_emit_bodies.specs.Variables.{IsShared}
use Rattle.mz_emit_bodies.proofs.Offered.{variable_id}
use Rattle.mz_emit_theory.specs.SymbolicState.{from_to}
use Rattle.mz_emit_theory.specs.StreamWriting.{Written, and_then, assertion_written, stream_of, unify_bytes, write, write_hyps, writing_start}
use Rattle.mz_machine_theory.specs.Spells.{variables_from}
use Rattle.mz_machine_theory.proofs.Offered.{length-params}
use Rattle.mz_emit_bodies.specs.Places.{place_of}
use Rattle.mz_emit_theory.proofs.Offered.{get-own}
use Rattle.mz_emit.specs.Going.{IsMarked, IsStatement, spelled}
use Rattle.mz_emit.proofs.Telling.{RegularFirst, first_bits, own_in, own_is, tells_as, tells_or}
use Rattle.mz_emit.proofs.Going.{spelled_join}

within : (xs : List Tree) (p : ℕ) (e : Tree) → slice_get xs p ≡ Some e → p < length xs
within [] p e at = absurd (none-some _ at)
within (x ∷ xs) zero e at = omega arith
within (x ∷ xs) (suc p) e at = (let lt = within xs p e at in omega (arith, lt))

pub marked_first : (params dummies : List Binder) (s : Sharing) (st : IsStatement params dummies s) (n : ℕ) (places : List (Option ℕ)) (len met : ℕ) → length params ≡ n → len ≡ n
    → ((i p : ℕ) → place_of places i ≡ Some p → (i ≡ p) × (p < n)) → ((i : ℕ) → i < n → place_of places i ≡ Some i) → Tells (bound_vars s.context) met (λ y. y < n)
    → IsMarked params s places len met (writing_start params)
marked_first params dummies s st n places len met many len-is placed all told = record {
  long = length-params 0 params ∙ many ∙ sym len-is;
  placed = λ i p at. (let (is, lt) = placed i p at in let held = st.variables i (omega (arith, is, lt, many)) in
      (held.0, variable_here p (omega (arith, lt, many)) ∙ ap (λ (e : Tree). Some e) (ap var (sym is) ∙ sym held.1)));
  found = λ p e at. (let lt : p < length params = (let l = within (variables_from 0 params) p e at in let k = length-params 0 params in omega (arith, l, k)) in
      let held = st.variables p lt in (p, (held.0, held.1 ∙ one_at (variable_here p lt) at), all p (omega (arith, lt, many))));
  parameters = λ x lt. (x, variable_here x lt);
  told = tells_as (bound_vars s.context) met (λ y. y < n) (Contains (from_to 0 params ++ []))
      (λ k y at lt. subst (λ (ys : List ℕ). Contains ys y) (sym (append-nil (from_to 0 params))) (own_is params y (omega (arith, lt, many))))
      (λ k y at has. (let lt = own_in params y (subst (λ (ys : List ℕ). Contains ys y) (append-nil (from_to 0 params)) has) in omega (arith, lt, many)))
      told;
}
  where
    variable_here : (x : ℕ) → x < length params → slice_get (variables_from 0 params) x ≡ Some (var x)
    variable_here x lt = get-own 0 params x lt ∙ ap (λ (n : ℕ). Some (var n)) (omega arith)

-- ---- the bits of the parameters

pub bits_more : (ctx : List Binder) (i met word : ℕ) → Tells (bound_vars ctx) met (λ y. (z : ℕ) × (z < i) × InV ctx y (var z)) → Tells (bound_vars ctx) word (λ y. InV ctx y (var i))
    → Tells (bound_vars ctx) (bit_or met word) (λ y. (z : ℕ) × (z < i + 1) × InV ctx y (var z))
bits_more ctx i met word so-far this =
    tells_as (bound_vars ctx) (bit_or met word) (λ y. ((z : ℕ) × (z < i) × InV ctx y (var z)) ⊎ InV ctx y (var i)) (λ y. (z : ℕ) × (z < i + 1) × InV ctx y (var z))
    (λ k y at h. to y h) (λ k y at h. from y h)
    (tells_or (bound_vars ctx) met word (λ y. (z : ℕ) × (z < i) × InV ctx y (var z)) (λ y. InV ctx y (var i)) so-far this)
  where
    to : (y : ℕ) → ((z : ℕ) × (z < i) × InV ctx y (var z)) ⊎ InV ctx y (var i) → (z : ℕ) × (z < i + 1) × InV ctx y (var z)
    to y (inl (z, lt, h)) = (z, omega (arith, lt), h)
    to y (inr h) = (i, omega arith, h)

    from : (y : ℕ) → (z : ℕ) × (z < i + 1) × InV ctx y (var z) → ((z : ℕ) × (z < i) × InV ctx y (var z)) ⊎ InV ctx y (var i)
    from y (z, lt, h) = elim (cases_eq z i) [
      | inl is ↦ inr (subst (λ (x : ℕ). InV ctx y (var x)) is h)
      | inr other ↦ inl (z, less z i (omega (arith, lt)) other, h)
    ]
      where
        less : (a b : ℕ) → a ≤ b → (a ≡ b → ⊥) → a < b
        less zero zero le other = absurd (other refl)
        less zero (suc b) le other = omega arith
        less (suc a) zero le other = absurd (omega (arith, le))
        less (suc a) (suc b) le other = (let r = less a b (omega (arith, le)) (λ is. other (ap suc is)) in omega (arith, r))

pub bits_done : (params dummies : List Binder) (s : Sharing) (st : IsStatement params dummies s) (n i word : ℕ) → length params ≡ n → i ≡ n
    → Tells (bound_vars s.context) word (λ y. (z : ℕ) × (z < i) × InV s.context y (var z)) → Tells (bound_vars s.context) word (λ y. y < n)
bits_done params dummies s st n i word many is tells =
    subst (λ (m : ℕ). Tells (bound_vars s.context) word (λ y. y < m)) many
    (first_bits (length params) s.context st.regular word (subst (λ (m : ℕ). Tells (bound_vars s.context) word (λ y. (z : ℕ) × (z < m) × InV s.context y (var z))) (is ∙ sym many) tells))

pub param_word : (params dummies : List Binder) (s : Sharing) (st : IsStatement params dummies s) (x word : ℕ) → x < length params
    → ((sigs : List Signature) → IsOver sigs s → Tells (bound_vars s.context) word (DependsOn s.mode sigs s.context (tree_of s x))) → Tells (bound_vars s.context) word (λ y. InV s.context y (var x))
param_word params dummies s st x word lt tells =
    subst (λ (e : Tree). Tells (bound_vars s.context) word (λ y. InV s.context y e)) (st.variables x lt).1
    (subst (λ m. Tells (bound_vars s.context) word (DependsOn m st.sigs s.context (tree_of s x))) st.all (tells st.sigs st.over))

-- ---- statements

module _ (ss : List SortMods) (sigs : List Signature) (s : Sharing) (vars : List Id) (shared : IsShared sigs s vars) (ps ds : List Binder) (context : s.context ≡ ps ++ ds)
    (right : AreParams ss ps) (dummies : All IsDummy ds) (once : (i j : ℕ) → IsIn s i → IsIn s j → tree_of s i ≡ tree_of s j → i ≡ j) where
  regular_first : RegularFirst (length ps) s.context
  regular_first z b at reg = elim (split_at ps ds z b (sym (ap (λ (c : List Binder). slice_get c z) context) ∙ at)) [
    | inl here ↦ (
      slice_get_within ps z b here,
      λ y dep. (let less : y < z = (All-contains (λ j. (j < z) × IsBoundAt ps j) b.deps y ((right z b here).1 reg) dep).0 in
          let lt = slice_get_within ps z b here in omega (arith, less, lt)),
    )
    | inr later ↦ absurd (let bd = dummy_bound later.0 later.2 in let e : true ≡ false = sym bd ∙ reg in cc)
  ]
    where
      dummy_bound : (k : ℕ) → slice_get ds k ≡ Some b → b.bound ≡ true
      dummy_bound k k-at = (subst IsDummy (get_or_from_slice_get ds k b b k-at) (dummies k b (slice_get_within ds k b k-at))).0

  first_held : (x : ℕ) → x < length ps → Holds s x (var x)
  first_held x lt =
      let within : x < length s.context = (let long = ap length context ∙ length-append ps ds in omega (arith, lt, long)) in
      let v = variable_id s vars 0 s.context x shared.inside shared.trees within in
      let is : v.0.0 ≡ x = shared.numbers x v.0 v.1 in
      (subst (IsIn s) is v.2, ap (tree_of s) (sym is) ∙ v.3 ∙ ap var (omega arith))

  -- whatever part of the dummies is looked at
  pub statement_of : (es others : List Binder) → s.context ≡ (ps ++ es) ++ others → IsStatement ps es s
  statement_of es others cut = record {
    sigs = sigs;
    over = shared.over;
    all = shared.all;
    others = others;
    context = cut;
    regular = regular_first;
    variables = first_held;
    once = once;
  }

-- two cuts at one place
pub one_cut : (ps ds qs es : List Binder) → ps ++ ds ≡ qs ++ es → length ps ≡ length qs → (ps ≡ qs) × (ds ≡ es)
one_cut [] ds [] es is long = (refl, is)
one_cut (p ∷ ps) ds (q ∷ qs) es is long =
    let rest = one_cut ps ds qs es (ap tail is) (omega (arith, long)) in
    (ap (λ (b : Binder). b ∷ ps) (ap (head p) is) ∙ ap (λ (bs : List Binder). q ∷ bs) rest.0, rest.1)
  where
    tail : List Binder → List Binder
    tail [] = []
    tail (b ∷ bs) = bs

    head : Binder → List Binder → Binder
    head d [] = d
    head d (b ∷ bs) = b
one_cut _ ds _ es is long = absurd (omega (arith, long))

-- ---- the end

pub ended : (us : List UnifyCommand) → spelled us ++ 0x00 ∷ [] ≡ stream_of us
ended [] = refl
ended (u ∷ us) = append_assoc (unify_bytes u) (spelled us) (0x00 ∷ []) ∙ ap (λ (bs : List ℕ). unify_bytes u ++ bs) (ended us)

pub hyps_are : (s : Sharing) (is : List Id) → map (λ i. tree_of s i.0) (reverse is) ≡ reverse (listed (trees_of s is))
hyps_are s [] = refl
hyps_are s (i ∷ is) = ap (map (λ (j : Id). tree_of s j.0)) (reverse-append (i ∷ []) is) ∙ map-append (λ (j : Id). tree_of s j.0) (reverse is) (i ∷ [])
    ∙ ap (λ (es : List Tree). es ++ tree_of s i.0 ∷ []) (hyps_are s is) ∙ sym (reverse-append (tree_of s i.0 ∷ []) (listed (trees_of s is)))

pub assertion_end : (ctx ps : List Binder) (s : Sharing) (e : Tree) (is : List Id) (first mid last bytes : List ℕ) → ctx ≡ ps → first ≡ []
    → mid ≡ first ++ spelled (write (from_to 0 ps) ctx (writing_start ps) e).commands
    → last ≡ mid ++ spelled (write_hyps (from_to 0 ps) ctx (write (from_to 0 ps) ctx (writing_start ps) e).after (map (λ i. tree_of s i.0) (reverse is))).commands
    → bytes ≡ last ++ 0x00 ∷ [] → bytes ≡ stream_of (assertion_written ps (trees_of s is) e).commands
assertion_end ctx ps s e is first mid last bytes same none begun more end =
    let a : Written = write (from_to 0 ps) ctx (writing_start ps) e in
    let b : Written = write_hyps (from_to 0 ps) ctx a.after (map (λ i. tree_of s i.0) (reverse is)) in
    end ∙ ap (λ (bs : List ℕ). bs ++ 0x00 ∷ []) (more ∙ ap (λ (bs : List ℕ). bs ++ spelled b.commands) (begun ∙ ap (λ (bs : List ℕ). bs ++ spelled a.commands) none) ∙ sym (spelled_join a.commands b.commands))
    ∙ ended (a.commands ++ b.commands)
    ∙ ap (λ (c : List Binder). stream_of (and_then (write (from_to 0 ps) c (writing_start ps) e) (λ w. write_hyps (from_to 0 ps) c w (map (λ i. tree_of s i.0) (reverse is)))).commands) same
    ∙ ap (λ (hs : List Tree). stream_of (and_then (write (from_to 0 ps) ps (writing_start ps) e) (λ w. write_hyps (from_to 0 ps) ps w hs)).commands) (hyps_are s is)

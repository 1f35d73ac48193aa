-- A stream spells at most one thing, and the same over longer environments.
use Rattle.std.proofs.Common.{◌≡◌, ℕ, zero, suc, ◌+◌, List, [], ◌∷◌, ◌++◌, length, drop, Option, Some, None, Ok, refl, sym, ap, subst, ◌∙◌, inl, inr, arith, append_assoc, ◌≤◌, ◌<◌, Bool}
use Rattle.std.specs.Prelude.{slice_get, reverse}
use Rattle.std.proofs.lemmas.List.{reverse-reverse, append-nil, length-append}
use Rattle.mz_cmd.specs.declared.command.Cmd.{Cmd}
use Rattle.mz_cmd.specs.Reading.{first_command}
use Rattle.mz_logic_theory.specs.Tree.{Tree, Trees, var, app, none, more, listed, size, trees_size}
use Rattle.mz_logic_theory.specs.Signature.{Signature}
use Rattle.mz_logic_theory.specs.Declaration.{Form, plain_form, abstract_form, defined, Term, Assertion}
use Rattle.mz_logic_theory.specs.declared.binder.Binder.{Binder}
use Rattle.mz_logic_theory.proofs.Offered.{Extends}
use Rattle.mz_machine_theory.specs.Streams.{StreamKind, of_assertion, of_definition, UnifyCommand, u_term, u_term_save, u_ref, u_dummy, u_hyp, u_end, unify_command, IsEnd, StreamIs}
use Rattle.mz_machine_theory.specs.Spells.{trees_of, dummy_of, Marks, marked, Spells, SpellsAll, SpellsHyps, at_first, Text, SpelledTerm, SpelledThm, SpellsThm, SpellsForm, SpellsTerm}
use Rattle.mz_machine_theory.proofs.Inverting.{some_is}
use Rattle.mz_machine_theory.proofs.Trees.{trees_of-listed}

pub cmd-is : (bytes : List ℕ) (c d : Cmd) → first_command bytes ≡ Ok c → first_command bytes ≡ Ok d → c ≡ d
cmd-is bytes c d p q = cc

end-is : (u : UnifyCommand) → u ≡ u_end → IsEnd u
end-is u is = subst IsEnd (sym is) tt

-- the commands of a stream are a function of its bytes
pub one-stream : (kind : StreamKind) (bytes : List ℕ) (us vs : List UnifyCommand) → StreamIs kind bytes us → StreamIs kind bytes vs → us ≡ vs
one-stream kind bytes [] [] h k = refl
one-stream kind bytes [] (v ∷ vs) (c, read, is) (d, read', is', no-end, k) =
    let same : c ≡ d = cmd-is bytes c d read read' in
    absurd (no-end (end-is v (some_is is' (ap (λ (z : Cmd). unify_command kind z.code z.value) (sym same) ∙ is))))
one-stream kind bytes (u ∷ us) [] (d, read', is', no-end, k) (c, read, is) =
    let same : c ≡ d = cmd-is bytes c d read read' in
    absurd (no-end (end-is u (some_is is' (ap (λ (z : Cmd). unify_command kind z.code z.value) (sym same) ∙ is))))
one-stream kind bytes (u ∷ us) (v ∷ vs) (c, read, is, _, h) (d, read', is', _, k) =
    let same : d ≡ c = cmd-is bytes d c read' read in
    let first : u ≡ v = some_is is (ap (λ (z : Cmd). unify_command kind z.code z.value) (sym same) ∙ is') in
    let rest : us ≡ vs = one-stream kind (drop c.len bytes) us vs h (subst (λ (z : Cmd). StreamIs kind (drop z.len bytes) vs) same k) in
    ap (λ (z : UnifyCommand). z ∷ us) first ∙ ap (λ (z : List UnifyCommand). v ∷ z) rest

-- ---- one spelling

pub ref-is : (i j : ℕ) (us vs : List UnifyCommand) → u_ref i ∷ us ≡ u_ref j ∷ vs → (i ≡ j) × (us ≡ vs)
ref-is i j us vs e = (cc, cc)

pub dummy-is : (i j : ℕ) (us vs : List UnifyCommand) → u_dummy i ∷ us ≡ u_dummy j ∷ vs → (i ≡ j) × (us ≡ vs)
dummy-is i j us vs e = (cc, cc)

pub term-is : (i j : ℕ) (us vs : List UnifyCommand) → u_term i ∷ us ≡ u_term j ∷ vs → (i ≡ j) × (us ≡ vs)
term-is i j us vs e = (cc, cc)

pub save-is : (i j : ℕ) (us vs : List UnifyCommand) → u_term_save i ∷ us ≡ u_term_save j ∷ vs → (i ≡ j) × (us ≡ vs)
save-is i j us vs e = (cc, cc)

hyp-is : (us vs : List UnifyCommand) → u_hyp ∷ us ≡ u_hyp ∷ vs → us ≡ vs
hyp-is us vs e = cc

-- ---- marks that agree where it matters

-- a mark of at most this size stands at the same place of both
abbrev Agree : ℕ → List Tree → List Tree → Type 0
Agree k a b = (i : ℕ) (q : Tree) → slice_get a i ≡ Some q → size q ≤ k → slice_get b i ≡ Some q

agree-append : (k : ℕ) (a b new : List Tree) → length a ≡ length b → Agree k a b → Agree k (a ++ new) (b ++ new)
agree-append k [] [] new len h i q at small = at
agree-append k [] (y ∷ b) new len h i q at small = absurd (omega arith)
agree-append k (x ∷ a) [] new len h i q at small = absurd (omega arith)
agree-append k (x ∷ a) (y ∷ b) new len h zero q at small = h zero q at small
agree-append k (x ∷ a) (y ∷ b) new len h (suc i) q at small = agree-append k a b new (omega arith) (λ j r. h (suc j) r) i q at small

-- one more mark that is too large to matter
agree-pending : (k : ℕ) (a b : List Tree) (x y : Tree) → length a ≡ length b → k < size x → Agree k a b → Agree k (a ++ x ∷ []) (b ++ y ∷ [])
agree-pending k [] [] x y len large h zero q at small = let is : x ≡ q = cc in absurd (omega (arith, ap size is))
agree-pending k [] [] x y len large h (suc i) q at small = absurd cc
agree-pending k [] (v ∷ b) x y len large h i q at small = absurd (omega arith)
agree-pending k (v ∷ a) [] x y len large h i q at small = absurd (omega arith)
agree-pending k (v ∷ a) (w ∷ b) x y len large h zero q at small = h zero q at small
agree-pending k (v ∷ a) (w ∷ b) x y len large h (suc i) q at small = agree-pending k a b x y (omega arith) large (λ j r. h (suc j) r) i q at small

size-above : (e : Tree) → 1 ≤ size e
size-above (var x) = omega arith
size-above (app t es) = omega arith

module _ (n : ℕ) (sigs : List Signature) where
  -- both end alike: the same marks were added to both lists
  abbrev Alike : Marks → Marks → Marks → Marks → List UnifyCommand → List UnifyCommand → Type 0
  Alike a b m1 m2 us1 us2 = (new : List Tree) × (m1.trees ≡ a.trees ++ new) × (m2.trees ≡ b.trees ++ new) × (m1.dummies ≡ m2.dummies) × (us1 ≡ us2)

  by-ref : (p q : Tree) (a b m1 m2 : Marks) (us us1 us2 : List UnifyCommand) (i j : ℕ) → Agree (size p) a.trees b.trees → a.dummies ≡ b.dummies
      → us ≡ u_ref i ∷ us1 → slice_get a.trees i ≡ Some p → m1 ≡ a → us ≡ u_ref j ∷ us2 → slice_get b.trees j ≡ Some q → m2 ≡ b → (p ≡ q) × Alike a b m1 m2 us1 us2
  by-ref p q a b m1 m2 us us1 us2 i j agree dums u at is v at' is' =
      let (same, rest) = ref-is i j us1 us2 (sym u ∙ v) in (
        some_is (agree i p at (omega arith)) (ap (slice_get b.trees) same ∙ at'),
        (
          [],
          ap (λ (z : Marks). z.trees) is ∙ sym (append-nil a.trees),
          ap (λ (z : Marks). z.trees) is' ∙ sym (append-nil b.trees),
          ap (λ (z : Marks). z.dummies) is ∙ dums ∙ sym (ap (λ (z : Marks). z.dummies) is'),
          rest,
        ),
      )

  mutual
    pub spells-once : (p q : Tree) (a b m1 m2 : Marks) (us us1 us2 : List UnifyCommand) → length a.trees ≡ length b.trees → Agree (size p) a.trees b.trees → a.dummies ≡ b.dummies
        → Spells n sigs a us p m1 us1 → Spells n sigs b us q m2 us2 → (p ≡ q) × Alike a b m1 m2 us1 us2
    spells-once (var x) (var y) a b m1 m2 us us1 us2 long agree dums (inl (i, u, at, is)) (inl (j, v, at', is')) = by-ref (var x) (var y) a b m1 m2 us us1 us2 i j agree dums u at is v at' is'
    spells-once (var x) (var y) a b m1 m2 us us1 us2 long agree dums (inl (i, u, at, is)) (inr (r, v, y-is, is')) = absurd (let bad : u_ref i ∷ us1 ≡ u_dummy r ∷ us2 = sym u ∙ v in cc)
    spells-once (var x) (app w fs) a b m1 m2 us us1 us2 long agree dums (inl (i, u, at, is)) (inl (j, v, at', is')) = by-ref (var x) (app w fs) a b m1 m2 us us1 us2 i j agree dums u at is v at' is'
    spells-once (var x) (app w fs) a b m1 m2 us us1 us2 long agree dums (inl (i, u, at, is)) (inr (inl (rest', v, (d', d'-at, len'), k))) = absurd (let bad : u_ref i ∷ us1 ≡ u_term w ∷ rest' = sym u ∙ v in cc)
    spells-once (var x) (app w fs) a b m1 m2 us us1 us2 long agree dums (inl (i, u, at, is)) (inr (inr (rest', v, (d', d'-at, len'), k))) = absurd (let bad : u_ref i ∷ us1 ≡ u_term_save w ∷ rest' = sym u ∙ v in cc)
    spells-once (var x) (var y) a b m1 m2 us us1 us2 long agree dums (inr (s, u, x-is, is)) (inl (j, v, at', is')) = absurd (let bad : u_dummy s ∷ us1 ≡ u_ref j ∷ us2 = sym u ∙ v in cc)
    spells-once (var x) (var y) a b m1 m2 us us1 us2 long agree dums (inr (s, u, x-is, is)) (inr (r, v, y-is, is')) =
        let (same, rest) = dummy-is s r us1 us2 (sym u ∙ v) in
        let x-y : x ≡ y = x-is ∙ ap (λ (z : List Binder). n + length z) dums ∙ sym y-is in (
          ap var x-y,
          (
            var x ∷ [],
            ap (λ (z : Marks). z.trees) is,
            ap (λ (z : Marks). z.trees) is' ∙ ap (λ (z : ℕ). b.trees ++ var z ∷ []) (sym x-y),
            ap (λ (z : Marks). z.dummies) is ∙ ap (λ (z : List Binder). z ++ dummy_of s ∷ []) dums ∙ ap (λ (z : ℕ). b.dummies ++ dummy_of z ∷ []) same ∙ sym (ap (λ (z : Marks). z.dummies) is'),
            rest,
          ),
        )
    spells-once (var x) (app w fs) a b m1 m2 us us1 us2 long agree dums (inr (s, u, x-is, is)) (inl (j, v, at', is')) = absurd (let bad : u_dummy s ∷ us1 ≡ u_ref j ∷ us2 = sym u ∙ v in cc)
    spells-once (var x) (app w fs) a b m1 m2 us us1 us2 long agree dums (inr (s, u, x-is, is)) (inr (inl (rest', v, (d', d'-at, len'), k))) = absurd (let bad : u_dummy s ∷ us1 ≡ u_term w ∷ rest' = sym u ∙ v in cc)
    spells-once (var x) (app w fs) a b m1 m2 us us1 us2 long agree dums (inr (s, u, x-is, is)) (inr (inr (rest', v, (d', d'-at, len'), k))) = absurd (let bad : u_dummy s ∷ us1 ≡ u_term_save w ∷ rest' = sym u ∙ v in cc)
    spells-once (app t es) (var y) a b m1 m2 us us1 us2 long agree dums (inl (i, u, at, is)) (inl (j, v, at', is')) = by-ref (app t es) (var y) a b m1 m2 us us1 us2 i j agree dums u at is v at' is'
    spells-once (app t es) (var y) a b m1 m2 us us1 us2 long agree dums (inl (i, u, at, is)) (inr (r, v, y-is, is')) = absurd (let bad : u_ref i ∷ us1 ≡ u_dummy r ∷ us2 = sym u ∙ v in cc)
    spells-once (app t es) (app w fs) a b m1 m2 us us1 us2 long agree dums (inl (i, u, at, is)) (inl (j, v, at', is')) = by-ref (app t es) (app w fs) a b m1 m2 us us1 us2 i j agree dums u at is v at' is'
    spells-once (app t es) (app w fs) a b m1 m2 us us1 us2 long agree dums (inl (i, u, at, is)) (inr (inl (rest', v, (d', d'-at, len'), k))) = absurd (let bad : u_ref i ∷ us1 ≡ u_term w ∷ rest' = sym u ∙ v in cc)
    spells-once (app t es) (app w fs) a b m1 m2 us us1 us2 long agree dums (inl (i, u, at, is)) (inr (inr (rest', v, (d', d'-at, len'), k))) = absurd (let bad : u_ref i ∷ us1 ≡ u_term_save w ∷ rest' = sym u ∙ v in cc)
    spells-once (app t es) (var y) a b m1 m2 us us1 us2 long agree dums (inr (inl (rest, u, (d, d-at, len), h))) (inl (j, v, at', is')) = absurd (let bad : u_term t ∷ rest ≡ u_ref j ∷ us2 = sym u ∙ v in cc)
    spells-once (app t es) (var y) a b m1 m2 us us1 us2 long agree dums (inr (inl (rest, u, (d, d-at, len), h))) (inr (r, v, y-is, is')) = absurd (let bad : u_term t ∷ rest ≡ u_dummy r ∷ us2 = sym u ∙ v in cc)
    spells-once (app t es) (app w fs) a b m1 m2 us us1 us2 long agree dums (inr (inl (rest, u, (d, d-at, len), h))) (inl (j, v, at', is')) = absurd (let bad : u_term t ∷ rest ≡ u_ref j ∷ us2 = sym u ∙ v in cc)
    spells-once (app t es) (app w fs) a b m1 m2 us us1 us2 long agree dums (inr (inl (rest, u, (d, d-at, len), h))) (inr (inl (rest', v, (d', d'-at, len'), k))) =
        let (same, rests) = term-is t w rest rest' (sym u ∙ v) in
        let many : length (listed es) ≡ length (listed fs) = len ∙ ap (λ (z : Signature). length z.params) (some_is d-at (ap (slice_get sigs) same ∙ d'-at)) ∙ sym len' in
        let (es-are, alike) = all-once es fs a b m1 m2 rest us1 us2 many long (λ i q at small. agree i q at (omega arith)) dums h (subst (λ (z : List UnifyCommand). SpellsAll n sigs b z fs m2 us2) (sym rests) k) in
        (ap (λ (z : ℕ). app z es) same ∙ ap (app w) es-are, alike)
    spells-once (app t es) (app w fs) a b m1 m2 us us1 us2 long agree dums (inr (inl (rest, u, (d, d-at, len), h))) (inr (inr (rest', v, (d', d'-at, len'), k))) = absurd (let bad : u_term t ∷ rest ≡ u_term_save w ∷ rest' = sym u ∙ v in cc)
    spells-once (app t es) (var y) a b m1 m2 us us1 us2 long agree dums (inr (inr (rest, u, (d, d-at, len), h))) (inl (j, v, at', is')) = absurd (let bad : u_term_save t ∷ rest ≡ u_ref j ∷ us2 = sym u ∙ v in cc)
    spells-once (app t es) (var y) a b m1 m2 us us1 us2 long agree dums (inr (inr (rest, u, (d, d-at, len), h))) (inr (r, v, y-is, is')) = absurd (let bad : u_term_save t ∷ rest ≡ u_dummy r ∷ us2 = sym u ∙ v in cc)
    spells-once (app t es) (app w fs) a b m1 m2 us us1 us2 long agree dums (inr (inr (rest, u, (d, d-at, len), h))) (inl (j, v, at', is')) = absurd (let bad : u_term_save t ∷ rest ≡ u_ref j ∷ us2 = sym u ∙ v in cc)
    spells-once (app t es) (app w fs) a b m1 m2 us us1 us2 long agree dums (inr (inr (rest, u, (d, d-at, len), h))) (inr (inl (rest', v, (d', d'-at, len'), k))) = absurd (let bad : u_term_save t ∷ rest ≡ u_term w ∷ rest' = sym u ∙ v in cc)
    spells-once (app t es) (app w fs) a b m1 m2 us us1 us2 long agree dums (inr (inr (rest, u, (d, d-at, len), h))) (inr (inr (rest', v, (d', d'-at, len'), k))) =
        let (same, rests) = save-is t w rest rest' (sym u ∙ v) in
        let many : length (listed es) ≡ length (listed fs) = len ∙ ap (λ (z : Signature). length z.params) (some_is d-at (ap (slice_get sigs) same ∙ d'-at)) ∙ sym len' in
        let (es-are, (new, one, two, dums', us-are)) = all-once es fs (marked a (app t es)) (marked b (app w fs)) m1 m2 rest us1 us2 many
        (omega (arith, length-append a.trees (app t es ∷ []), length-append b.trees (app w fs ∷ []), long))
        (agree-pending (trees_size es) a.trees b.trees (app t es) (app w fs) long (omega arith) (λ i q at small. agree i q at (omega arith))) dums
        h (subst (λ (z : List UnifyCommand). SpellsAll n sigs (marked b (app w fs)) z fs m2 us2) (sym rests) k) in
        let whole : app t es ≡ app w fs = ap (λ (z : ℕ). app z es) same ∙ ap (app w) es-are in (
          whole,
          (
            app t es ∷ new,
            one ∙ append_assoc a.trees (app t es ∷ []) new,
            two ∙ append_assoc b.trees (app w fs ∷ []) new ∙ ap (λ (z : Tree). b.trees ++ z ∷ new) (sym whole),
            dums',
            us-are,
          ),
        )

    all-once : (es fs : Trees) (a b m1 m2 : Marks) (us us1 us2 : List UnifyCommand) → length (listed es) ≡ length (listed fs) → length a.trees ≡ length b.trees → Agree (trees_size es) a.trees b.trees → a.dummies ≡ b.dummies
        → SpellsAll n sigs a us es m1 us1 → SpellsAll n sigs b us fs m2 us2 → (es ≡ fs) × Alike a b m1 m2 us1 us2
    all-once none none a b m1 m2 us us1 us2 len long agree dums (is, u) (is', v) = (
      refl,
      (
        [],
        ap (λ (z : Marks). z.trees) is ∙ sym (append-nil a.trees),
        ap (λ (z : Marks). z.trees) is' ∙ sym (append-nil b.trees),
        ap (λ (z : Marks). z.dummies) is ∙ dums ∙ sym (ap (λ (z : Marks). z.dummies) is'),
        u ∙ sym v,
      ),
    )
    all-once none (more f fs) a b m1 m2 us us1 us2 len long agree dums h k = absurd (omega arith)
    all-once (more e es) none a b m1 m2 us us1 us2 len long agree dums h k = absurd (omega arith)
    all-once (more e es) (more f fs) a b m1 m2 us us1 us2 len long agree dums (mid, rest, h, hs) (mid', rest', k, ks) =
        let (e-is, (new, one, two, dums', rests)) = spells-once e f a b mid mid' us rest rest' long (λ i q at small. agree i q at (omega arith)) dums h k in
        let long' : length mid.trees ≡ length mid'.trees = ap length one ∙ omega (arith, length-append a.trees new, length-append b.trees new, long) ∙ sym (ap length two) in
        let agree' : Agree (trees_size es) mid.trees mid'.trees =
        subst (λ (z : List Tree). Agree (trees_size es) z mid'.trees) (sym one) (subst (λ (z : List Tree). Agree (trees_size es) (a.trees ++ new) z) (sym two)
        (agree-append (trees_size es) a.trees b.trees new long (λ i q at small. agree i q at (omega (arith, size-above e))))) in
        let (es-are, (new', one', two', dums'', us-are)) = all-once es fs mid mid' m1 m2 rest us1 us2 (omega arith) long' agree' dums' hs (subst (λ (z : List UnifyCommand). SpellsAll n sigs mid' z fs m2 us2) (sym rests) ks) in (
          ap (λ (z : Tree). more z es) e-is ∙ ap (more f) es-are,
          (new ++ new', one' ∙ ap (λ (z : List Tree). z ++ new') one ∙ append_assoc a.trees new new', two' ∙ ap (λ (z : List Tree). z ++ new') two ∙ append_assoc b.trees new new', dums'', us-are),
        )

  marks-are : (m m' : Marks) → m.trees ≡ m'.trees → m.dummies ≡ m'.dummies → m ≡ m'
  marks-are m m' p q = ap (λ (z : List Tree). record { trees = z; dummies = m.dummies }) p ∙ ap (λ (z : List Binder). record { trees = m'.trees; dummies = z }) q

  -- under the same marks
  pub spells-one : (p q : Tree) (m m1 m2 : Marks) (us us1 us2 : List UnifyCommand) → Spells n sigs m us p m1 us1 → Spells n sigs m us q m2 us2 → (p ≡ q) × (m1 ≡ m2) × (us1 ≡ us2)
  spells-one p q m m1 m2 us us1 us2 h k =
      let (is, (new, one, two, dums, us-are)) = spells-once p q m m m1 m2 us us1 us2 refl (λ i r at _. at) refl h k in
      (is, marks-are m1 m2 (one ∙ sym two) dums, us-are)

  hyps-one : (hs gs : List Tree) (m m1 m2 : Marks) (us : List UnifyCommand) → SpellsHyps n sigs m us hs m1 → SpellsHyps n sigs m us gs m2 → (hs ≡ gs) × (m1 ≡ m2)
  hyps-one [] [] m m1 m2 us (_, is) (_, is') = (refl, is ∙ sym is')
  hyps-one [] (g ∷ gs) m m1 m2 us (u, _) (rest, mid, us', v, _, _) = absurd (let bad : [] ≡ u_hyp ∷ rest = sym u ∙ v in cc)
  hyps-one (h ∷ hs) [] m m1 m2 us (rest, mid, us', u, _, _) (v, _) = absurd (let bad : u_hyp ∷ rest ≡ [] = sym u ∙ v in cc)
  hyps-one (h ∷ hs) (g ∷ gs) m m1 m2 us (rest, mid, us', u, a, alls) (rest', mid', us'', v, b, bs) =
      let rests : rest ≡ rest' = hyp-is rest rest' (sym u ∙ v) in
      let (is, mids, us-are) = spells-one h g m mid mid' rest us' us'' a (subst (λ (z : List UnifyCommand). Spells n sigs m z g mid' us'') (sym rests) b) in
      let (hs-are, ends) = hyps-one hs gs mid m1 m2 us' alls (subst (λ (z : Marks). SpellsHyps n sigs z us' gs m2) (sym mids) (subst (λ (z : List UnifyCommand). SpellsHyps n sigs mid' z gs m2) (sym us-are) bs)) in
      (ap (λ (z : Tree). z ∷ hs) is ∙ ap (λ (z : List Tree). g ∷ z) hs-are, ends)

-- a stream spells one text
pub one-text : (kind : StreamKind) (sigs : List Signature) (params : List Binder) (stream : List ℕ) (hyps hyps' : Trees) (e e' : Tree) (ds ds' : List Binder)
    → Text kind sigs params stream hyps e ds → Text kind sigs params stream hyps' e' ds' → (hyps ≡ hyps') × (e ≡ e') × (ds ≡ ds')
one-text kind sigs params stream hyps hyps' e e' ds ds' (last, (us, is, mid, rest, a, alls), d) (last', (us', is', mid', rest', b, bs), d') =
    let same : us ≡ us' = one-stream kind stream us us' is is' in
    let (e-is, mids, rests) = spells-one (length params) sigs e e' (at_first params) mid mid' us rest rest' a (subst (λ (z : List UnifyCommand). Spells (length params) sigs (at_first params) z e' mid' rest') (sym same) b) in
    let (hs-are, lasts) = hyps-one (length params) sigs (reverse (listed hyps)) (reverse (listed hyps')) mid last last' rest alls
    (subst (λ (z : Marks). SpellsHyps (length params) sigs z rest (reverse (listed hyps')) last') (sym mids) (subst (λ (z : List UnifyCommand). SpellsHyps (length params) sigs mid' z (reverse (listed hyps')) last') (sym rests) bs)) in
    let lists : listed hyps ≡ listed hyps' = sym (reverse-reverse (listed hyps)) ∙ ap reverse hs-are ∙ reverse-reverse (listed hyps') in
    (sym (trees_of-listed hyps) ∙ ap trees_of lists ∙ trees_of-listed hyps', e-is, sym d ∙ ap (λ (z : Marks). z.dummies) lasts ∙ d')

-- a row spells one assertion, but for whether it is an axiom
pub one-assertion : (sigs : List Signature) (row : SpelledThm) (a b : Assertion) → a.is_axiom ≡ b.is_axiom → SpellsThm sigs row a → SpellsThm sigs row b → a ≡ b
one-assertion sigs row a b axioms (ps, s) (qs, t) =
    let (hyps, conclusion, _) = one-text of_assertion sigs row.params row.stream a.hyps b.hyps a.conclusion b.conclusion [] [] s t in
    let params : a.params ≡ b.params = sym ps ∙ qs in
    ap (λ (z : Bool). record { is_axiom = z; params = a.params; hyps = a.hyps; conclusion = a.conclusion }) axioms
    ∙ ap (λ (z : List Binder). record { is_axiom = b.is_axiom; params = z; hyps = a.hyps; conclusion = a.conclusion }) params
    ∙ ap (λ (z : Trees). record { is_axiom = b.is_axiom; params = b.params; hyps = z; conclusion = a.conclusion }) hyps
    ∙ ap (λ (z : Tree). record { is_axiom = b.is_axiom; params = b.params; hyps = b.hyps; conclusion = z }) conclusion

one-form : (sigs : List Signature) (params : List Binder) (o : Option (List ℕ)) (f g : Form) → SpellsForm sigs params o f → SpellsForm sigs params o g → f ≡ g
one-form sigs params None plain_form plain_form h k = refl
one-form sigs params None plain_form abstract_form h k = absurd k
one-form sigs params None plain_form (defined ds p) h k = absurd k
one-form sigs params None abstract_form g h k = absurd h
one-form sigs params None (defined ds p) g h k = absurd h
one-form sigs params (Some stream) plain_form g h k = absurd h
one-form sigs params (Some stream) abstract_form g h k = absurd h
one-form sigs params (Some stream) (defined ds p) plain_form h k = absurd k
one-form sigs params (Some stream) (defined ds p) abstract_form h k = absurd k
one-form sigs params (Some stream) (defined ds p) (defined es q) h k =
    let (_, body, dums) = one-text of_definition sigs params stream none none p q ds es h k in
    ap (λ (z : List Binder). defined z p) dums ∙ ap (defined es) body

-- a row spells one term
pub one-term : (sigs : List Signature) (row : SpelledTerm) (c d : Term) → SpellsTerm sigs row c → SpellsTerm sigs row d → c ≡ d
one-term sigs row c d (ps, s) (qs, t) =
    ap (λ (z : Signature). record { signature = z; form = c.form }) (sym ps ∙ qs)
    ∙ ap (λ (z : Form). record { signature = d.signature; form = z }) (one-form sigs row.signature.params row.stream c.form d.form s t)

-- ---- longer environments

module _ (n : ℕ) (sigs sigs' : List Signature) (longer : Extends sigs sigs') where
  mutual
    spells-longer : (p : Tree) (m m' : Marks) (us us' : List UnifyCommand) → Spells n sigs m us p m' us' → Spells n sigs' m us p m' us'
    spells-longer (var x) m m' us us' h = h
    spells-longer (app t es) m m' us us' (inl h) = inl h
    spells-longer (app t es) m m' us us' (inr (inl (rest, u, (d, at, len), all))) = inr (inl (rest, u, (d, longer t d at, len), all-longer es m m' rest us' all))
    spells-longer (app t es) m m' us us' (inr (inr (rest, u, (d, at, len), all))) = inr (inr (rest, u, (d, longer t d at, len), all-longer es (marked m (app t es)) m' rest us' all))

    all-longer : (es : Trees) (m m' : Marks) (us us' : List UnifyCommand) → SpellsAll n sigs m us es m' us' → SpellsAll n sigs' m us es m' us'
    all-longer none m m' us us' h = h
    all-longer (more e es) m m' us us' (mid, rest, h, hs) = (mid, rest, spells-longer e m mid us rest h, all-longer es mid m' rest us' hs)

  hyps-longer : (hs : List Tree) (m last : Marks) (us : List UnifyCommand) → SpellsHyps n sigs m us hs last → SpellsHyps n sigs' m us hs last
  hyps-longer [] m last us h = h
  hyps-longer (h ∷ hs) m last us (rest, mid, us', u, a, alls) = (rest, mid, us', u, spells-longer h m mid rest us' a, hyps-longer hs mid last us' alls)

text-longer : (kind : StreamKind) (sigs sigs' : List Signature) → Extends sigs sigs' → (params : List Binder) (stream : List ℕ) (hyps : Trees) (e : Tree) (ds : List Binder) → Text kind sigs params stream hyps e ds → Text kind sigs' params stream hyps e ds
text-longer kind sigs sigs' longer params stream hyps e ds (last, (us, is, mid, rest, a, alls), d) =
    (last, (us, is, mid, rest, spells-longer (length params) sigs sigs' longer e (at_first params) mid us rest a, hyps-longer (length params) sigs sigs' longer (reverse (listed hyps)) mid last rest alls), d)

pub assertion-longer : (sigs sigs' : List Signature) → Extends sigs sigs' → (row : SpelledThm) (a : Assertion) → SpellsThm sigs row a → SpellsThm sigs' row a
assertion-longer sigs sigs' longer row a (ps, s) = (ps, text-longer of_assertion sigs sigs' longer row.params row.stream a.hyps a.conclusion [] s)

form-longer : (sigs sigs' : List Signature) → Extends sigs sigs' → (params : List Binder) (o : Option (List ℕ)) (f : Form) → SpellsForm sigs params o f → SpellsForm sigs' params o f
form-longer sigs sigs' longer params None plain_form h = h
form-longer sigs sigs' longer params None abstract_form h = h
form-longer sigs sigs' longer params None (defined ds p) h = h
form-longer sigs sigs' longer params (Some stream) plain_form h = h
form-longer sigs sigs' longer params (Some stream) abstract_form h = h
form-longer sigs sigs' longer params (Some stream) (defined ds p) h = text-longer of_definition sigs sigs' longer params stream none p ds h

pub term-longer : (sigs sigs' : List Signature) → Extends sigs sigs' → (row : SpelledTerm) (d : Term) → SpellsTerm sigs row d → SpellsTerm sigs' row d
term-longer sigs sigs' longer row d (is, s) = (is, form-longer sigs sigs' longer row.signature.params row.stream d.form s)

-- What is covered and known while operands are gone through.
use Rattle.std.proofs.Common.{◌≡◌, ◌∙◌, ◌++◌, ◌<◌, ◌+◌, ◌-◌, ◌⊎◌, ◌↔◌, ℕ, List, [], length, take, get_or, slice_get, Some, Contains, Bool, IsTrue, true, false, ap, sym, subst, inl, inr, append_assoc, append-nil, arith, true≢false}
use Rattle.std.specs.Option.{option_map_or}
use Rattle.std.proofs.Math.Seq.{take-append_seam}
use Rattle.std.proofs.lemmas.List.Elements.{Contains-append_left}
use Rattle.std.proofs.lemmas.Option.{slice_get-get_or}
use Rattle.mz_base.proofs.Offered.{contains_none}
use Rattle.mz_logic_theory.specs.Alike.{deps_at}
use Rattle.mz_logic_theory.specs.Tree.{Trees, var}
use Rattle.mz_logic_theory.specs.Variables.{InV, IsOperandAt}
use Rattle.mz_logic_theory.specs.declared.binder.Binder.{Binder}
use Rattle.mz_logic_theory.proofs.Offered.{one_at}
use Rattle.mz_logic_free.specs.Known.{AreKnown, BindsAnew, IsBoundBefore, LearntMore}

-- one that was looked at is known too
pub known-more : (ctx : List Binder) (C K L : List ℕ) (y : ℕ) → AreKnown ctx C K → ((x : ℕ) → InV ctx x (var y) → Contains C x) → ((z : ℕ) → Contains L z ↔ (Contains K z ⊎ (z ≡ y))) → AreKnown ctx C L
known-more ctx C K L y known here has z at x free = elim ((has z).0 at) [
  | inl old ↦ known z old x free
  | inr same ↦ here x (subst (λ w. InV ctx x (var w)) same free)
]

-- what the binder of a variable says of V
pub told-by : (ctx : List Binder) (x y : ℕ) (b : Binder) → Some b ≡ slice_get ctx y → InV ctx x (var y) → ((b.bound ≡ true) × (x ≡ y)) ⊎ ((b.bound ≡ false) × Contains b.deps x)
told-by ctx x y b at (c, at', is) = subst (λ (d : Binder). ((d.bound ≡ true) × (x ≡ y)) ⊎ ((d.bound ≡ false) × Contains d.deps x)) (one_at at' (sym at)) is

pub told-of : (ctx : List Binder) (y : ℕ) (b : Binder) → Some b ≡ slice_get ctx y → (C : List ℕ) (is : Bool)
    → IsTrue is ↔ ((x : ℕ) → ((b.bound ≡ true) × (x ≡ y)) ⊎ ((b.bound ≡ false) × Contains b.deps x) → Contains C x) → IsTrue is ↔ ((x : ℕ) → InV ctx x (var y) → Contains C x)
told-of ctx y b at C is (to, from) = (λ yes x free. to yes x (told-by ctx x y b at free), λ all. from (λ x tells. all x (b, sym at, tells)))

-- ---- parameters one after another

-- the one that is read at a place
pub param-at : (ps qs : List Binder) (i : ℕ) (p : Binder) → qs ≡ ps → i < length qs → p ≡ get_or qs i p → slice_get ps i ≡ Some p
param-at ps qs i p same below is = ap (λ xs. slice_get xs i) (sym same) ∙ slice_get-get_or qs i p below ∙ ap Some (sym is)

pub deps-of : (ps : List Binder) (i : ℕ) (p : Binder) → slice_get ps i ≡ Some p → deps_at ps i ≡ p.deps
deps-of ps i p at = ap (λ o. option_map_or (λ (b : Binder). b.deps) o []) at

module _ (ps : List Binder) (i : ℕ) (p : Binder) (at : slice_get ps i ≡ Some p) where
  back : i + 1 - 1 ≡ i
  back = omega arith

  pub bound-next : (bound : List ℕ) → bound ≡ p.deps → IsBoundBefore ps (i + 1) bound
  bound-next bound is b _ before _ = is ∙ ap (λ (c : Binder). c.deps) (one_at at (subst (λ k. slice_get ps k ≡ Some b) back before))

  pub bound-passed : (bound : List ℕ) → p.bound ≡ true → IsBoundBefore ps (i + 1) bound
  bound-passed bound is b _ before regular = absurd (true≢false (sym is ∙ ap (λ (c : Binder). c.bound) (one_at at (subst (λ k. slice_get ps k ≡ Some b) back before)) ∙ regular))

-- ---- beside what is covered and known outside

module _ (ctx params : List Binder) (es : Trees) (outside before : List ℕ) where
  -- n of those that are known are known outside
  abbrev pub Outside : ℕ → List ℕ → Type 0
  Outside n known = (outer : List ℕ) × (inner : List ℕ) × (n ≡ length outer) × (known ≡ outer ++ inner) × LearntMore ctx outside before outer

  -- what the parameters at the places bind is covered too
  abbrev pub Inside : List ℕ → ℕ → List ℕ → List ℕ → Type 0
  Inside bound n covered known = record {
    over : (more : List ℕ) × (covered ≡ outside ++ more);
    has : (x : ℕ) → Contains covered x ↔ (Contains outside x ⊎ IsOperandAt params es bound x);
    looked : AreKnown ctx covered known;
    kept : Outside n known;
  }

  pub inside-first : (n : ℕ) → n ≡ length before → AreKnown ctx outside before → Inside [] n outside before
  inside-first n many known = record {
    over = ([], sym (append-nil outside));
    has = λ x. (inl, λ h. elim h [ inl here ↦ here | inr op ↦ absurd (contains_none op.0 op.1) ]);
    looked = known;
    kept = (before, [], many, sym (append-nil before), (known, ([], sym (append-nil before))));
  }

  first-known : (n : ℕ) (known : List ℕ) → Outside n known → LearntMore ctx outside before (take n known)
  first-known n known (outer, inner, many, is, learnt) = subst (LearntMore ctx outside before) (sym (ap (λ k. take k known) many ∙ ap (take (length outer)) is ∙ take-append_seam outer inner)) learnt

  first-covered : (n : ℕ) (covered more : List ℕ) → n ≡ length outside → covered ≡ outside ++ more → take n covered ≡ outside
  first-covered n covered more many is = ap (λ k. take k covered) many ∙ ap (take (length outside)) is ∙ take-append_seam outside more

  -- the operand of the next parameter
  pub inside-bound : (ps : List Binder) → ps ≡ params → (bound places : List ℕ) (alike : Bool) → (IsTrue alike → bound ≡ places) → (n m : ℕ) (covered known covered' known' : List ℕ) → m ≡ length outside
      → Inside bound n covered known → ((alike ≡ true) × (covered' ≡ covered) × (known' ≡ known)) ⊎ BindsAnew ps es places (take m covered) (take n known) covered' known' → Inside places n covered' known'
  inside-bound ps ps-is bound places alike says n m covered known covered' known' many so (inl (held, covered-is, known-is)) =
      subst (λ b. Inside b n covered' known') (says held) (subst (λ c. Inside bound n c known') (sym covered-is) (subst (Inside bound n covered) (sym known-is) so))
  inside-bound ps ps-is bound places alike says n m covered known covered' known' many so (inr (over, has, known-is)) = record {
    over = (over.0, grown);
    has = subst (λ qs. (x : ℕ) → Contains covered' x ↔ (Contains outside x ⊎ IsOperandAt qs es places x)) ps-is (subst (λ c. (x : ℕ) → Contains covered' x ↔ (Contains c x ⊎ IsOperandAt ps es places x)) same has);
    looked = λ y at x free. subst (λ c. Contains c x) (sym grown) (Contains-append_left outside over.0 x (learnt.0 y (subst (λ k. Contains k y) known-is at) x free));
    kept = (known', [], long, sym (append-nil known'), subst (LearntMore ctx outside before) (sym known-is) learnt);
  }
    where
      same : take m covered ≡ outside
      same = first-covered m covered so.over.0 many so.over.1

      grown : covered' ≡ outside ++ over.0
      grown = over.1 ∙ ap (λ c. c ++ over.0) same

      learnt : LearntMore ctx outside before (take n known)
      learnt = first-known n known so.kept

      long : n ≡ length known'
      long = (let (outer, inner, is, made, _) = so.kept in is ∙ ap length (sym (known-is ∙ ap (λ k. take k known) is ∙ ap (take (length outer)) made ∙ take-append_seam outer inner)))

  -- and what was learnt of it
  pub inside-learnt : (bound : List ℕ) (n m : ℕ) (covered known covered' known' : List ℕ) → Inside bound n covered known → covered' ≡ covered → LearntMore ctx covered known known'
      → ((bound ≡ []) × (m ≡ length known')) ⊎ (m ≡ n) → Inside bound m covered' known'
  inside-learnt bound n m covered known covered' known' so same learnt counted = subst (λ c. Inside bound m c known') (sym same) record {
    over = so.over;
    has = so.has;
    looked = learnt.0;
    kept = go counted;
  }
    where
      out : (x : ℕ) → bound ≡ [] → Contains covered x → Contains outside x
      out x none at = elim ((so.has x).0 at) [ inl here ↦ here | inr op ↦ absurd (contains_none op.0 (subst (λ ps. Contains ps op.0) none op.1)) ]

      go : ((bound ≡ []) × (m ≡ length known')) ⊎ (m ≡ n) → Outside m known'
      go (inl (none, all)) =
          let (outer, inner, _, made, kept) = so.kept in
          let (first, from) = kept.1 in
          let (more, more-is) = learnt.1 in (
            known',
            [],
            all,
            sym (append-nil known'),
            (
              (λ y at x free. out x none (learnt.0 y at x free)),
              (
                first ++ (inner ++ more),
                more-is ∙ ap (λ k. k ++ more) (made ∙ ap (λ k. k ++ inner) from) ∙ append_assoc (before ++ first) inner more ∙ append_assoc before first (inner ++ more),
              ),
            ),
          )
      go (inr is) =
          let (outer, inner, many, made, kept) = so.kept in
          let (more, more-is) = learnt.1 in
          (outer, inner ++ more, is ∙ many, more-is ∙ ap (λ k. k ++ more) made ∙ append_assoc outer inner more, kept)

  pub inside-same : (bound bound' : List ℕ) (n n' : ℕ) (covered known covered' known' : List ℕ) → bound' ≡ bound → n' ≡ n → covered' ≡ covered → known' ≡ known
      → Inside bound n covered known → Inside bound' n' covered' known'
  inside-same bound bound' n n' covered known covered' known' bound-is n-is covered-is known-is so =
      subst (λ b. Inside b n' covered' known') (sym bound-is) (subst (λ k. Inside bound k covered' known') (sym n-is) (subst (λ c. Inside bound n c known') (sym covered-is) (subst (Inside bound n covered) (sym known-is) so)))

  -- the end
  pub inside-left : (bound : List ℕ) (n m : ℕ) (covered known : List ℕ) → m ≡ length outside → Inside bound n covered known
      → (take m covered ≡ outside) × LearntMore ctx outside before (take n known)
  inside-left bound n m covered known many so = (first-covered m covered so.over.0 many so.over.1, first-known n known so.kept)

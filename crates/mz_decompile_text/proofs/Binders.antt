-- Binders, results and named hypotheses are read of their phrases.
use Rattle.std.proofs.Common.{ℕ, suc, ◌≡◌, ◌<◌, ◌≤◌, ◌+◌, inr, Bool, true, false, List, [], ◌∷◌, length, All, Some, refl, sym, ap, subst, arith, slice_get}
use Rattle.std.specs.Prelude.{if◌then◌else◌}
use Rattle.std.specs.List.Sorted.{IsStrictlyIncreasing}
use Rattle.std.proofs.lemmas.List.Elements.{All-weaker}
use Rattle.mz_base.proofs.Offered.{one-further}
use Rattle.mz_sexpr.specs.Node.{Node}
use Rattle.mz_logic_theory.specs.Tree.{Trees, none, more, listed}
use Rattle.mz_logic_theory.specs.Declaration.{DepsAscend}
use Rattle.mz_logic_theory.specs.Signature.{Signature}
use Rattle.mz_logic_theory.specs.Legality.{AllInRange, IsBinderThere, AreBindersThere, AreParams as HasRightParams}
use Rattle.mz_logic_theory.specs.Variables.{IsBoundAt}
use Rattle.mz_logic_theory.specs.declared.binder.Binder.{Binder}
use Rattle.mz_logic_theory.specs.declared.binder.ResultType.{ResultType}
use Rattle.mz_logic_theory.specs.declared.binder.SortMods.{SortMods}
use Rattle.mz_logic_theory.proofs.Offered.{each_from_all}
use Rattle.mz_mmu_theory.specs.Name.{Names, IsParamName, scope_of}
use Rattle.mz_mmu_theory.specs.Expressions.{AreDeps, IsParam, IsDummy, AreBinders, AreParams, AreDummies, IsResult}
use Rattle.mz_mmu_theory.specs.Statements.{AreHyps, AreNamedHyps}
use Rattle.mz_decompile_text.specs.Phrases.{a_word, a_list}
use Rattle.mz_decompile_text.specs.Phrasing.{Vocabulary, list_of, variable_names, binder, binders, result, named_hypotheses}
use Rattle.mz_decompile_text.proofs.Saying.{Says, AllSay, a-word, a-list, take, done, so, all-so}
use Rattle.mz_decompile_text.proofs.Numbers.{Numbered, AreOwn, upto, new-next, numbered-upto}
use Rattle.mz_decompile_text.proofs.Atoms.{name-atom}
use Rattle.mz_decompile_text.proofs.Exprs.{a-number, a-new-name, variable-list, Known, expr-said}

deps-said : (v : Vocabulary) (k : ℕ) (vars : List (List ℕ)) → Numbered v.variable k vars → (xs : List ℕ) → All (λ j. j < k) xs → IsStrictlyIncreasing xs
    → Says (variable_names v xs) (λ m. AreDeps vars m xs)
deps-said v k vars are xs below rising = so (variable-list v k vars are xs below) (λ m is. (xs, is, (rising, λ x. (λ h. h, λ h. h))))

-- what is asked of the binder of the variable x
abbrev pub IsGoodParam : ℕ → ℕ → Binder → Type 0
IsGoodParam many x b = (b.sort < many) × (b.bound ≡ true → b.deps ≡ []) × (b.bound ≡ false → All (λ j. j < x) b.deps) × IsStrictlyIncreasing b.deps

abbrev pub IsGoodDummy : ℕ → ℕ → Binder → Type 0
IsGoodDummy many x b = (b.sort < many) × (b.bound ≡ true) × (b.deps ≡ [])

module _ (v : Vocabulary) (n : ℕ) (own : AreOwn v.variable n) (names : Names) (many : ℕ) (sorts_are : Numbered v.sort many names.sorts) where
  abbrev vars_of : ℕ → List (List ℕ)
  vars_of x = upto v.variable x

  param-name : (x : ℕ) → x < n → Says (a_word (v.variable x)) (λ m. IsParamName (vars_of x) m (v.variable x))
  param-name x less = a-word (v.variable x) _ (name-atom (v.variable x) (own.0 x less)) (λ at. (refl, inr (own.0 x less, new-next v.variable n own x less)))

  param-said : (x : ℕ) (b : Binder) → x < n → IsGoodParam many x b → Says (binder v x b) (λ m. IsParam names (vars_of x) m (v.variable x) b)
  param-said x b less (there, bound, regular, rising) = go b.bound refl
    where
      go : (y : Bool) → b.bound ≡ y
          → Says (if y then list_of (a_word (v.variable x) ∷ a_word (v.sort b.sort) ∷ []) else list_of (a_word (v.variable x) ∷ a_word (v.sort b.sort) ∷ variable_names v b.deps ∷ []))
          (λ m. IsParam names (vars_of x) m (v.variable x) b)
      go true is = a-list (take (param-name x less) (take (a-number v.sort many names.sorts sorts_are b.sort there) (done (λ m2 h2 m1 h1 at. (h1, h2, is, bound is)))))
      go false is =
          a-list (take (param-name x less) (take (a-number v.sort many names.sorts sorts_are b.sort there)
          (take (deps-said v x (vars_of x) (numbered-upto v.variable n own x (omega (arith, less))) b.deps (regular is) rising)
          (done (λ m3 h3 m2 h2 m1 h1 at. (h1, h2, is, h3))))))

  dummy-said : (x : ℕ) (b : Binder) → x < n → IsGoodDummy many x b → Says (binder v x b) (λ m. IsDummy names (vars_of x) m (v.variable x) b)
  dummy-said x b less (there, is, deps) =
      subst (λ y. Says (if y then list_of (a_word (v.variable x) ∷ a_word (v.sort b.sort) ∷ []) else list_of (a_word (v.variable x) ∷ a_word (v.sort b.sort) ∷ variable_names v b.deps ∷ []))
      (λ m. IsDummy names (vars_of x) m (v.variable x) b)) (sym is)
      (a-list (take (a-new-name (vars_of x) (v.variable x) (own.0 x less) (new-next v.variable n own x less)) (take (a-number v.sort many names.sorts sorts_are b.sort there)
      (done (λ m2 h2 m1 h1 at. (h1, h2, is, deps))))))

  module _ (Is : List (List ℕ) → Node → List ℕ → Binder → Type 0) (Good : ℕ → Binder → Type 0)
      (one : (x : ℕ) (b : Binder) → x < n → Good x b → Says (binder v x b) (λ m. Is (vars_of x) m (v.variable x) b)) where
    binders-said : (x : ℕ) (bs : List Binder) → x + length bs ≤ n → ((i : ℕ) (b : Binder) → slice_get bs i ≡ Some b → Good (x + i) b)
        → AllSay (binders v x bs) (λ ns. AreBinders Is (vars_of x) ns bs (vars_of (x + length bs)))
    binders-said x [] few good = done (refl, ap vars_of (let same : x + 0 ≡ x = omega arith in same))
    binders-said x (b ∷ bs) few good =
        take (one x b (omega arith) (subst (λ y. Good y b) (let same : x + 0 ≡ x = omega arith in same) (good 0 b refl)))
        (all-so (binders-said (suc x) bs (omega arith) (λ i c at. subst (λ y. Good y c) (let same : x + suc i ≡ suc x + i = omega arith in same) (good (suc i) c at)))
        (λ ns are m is. (v.variable x, b, bs, is, subst (λ y. AreBinders Is (vars_of (suc x)) ns bs (vars_of y)) (one-further x (length bs)) are, refl)))

  pub params-said : (ps : List Binder) → length ps ≤ n → ((i : ℕ) (b : Binder) → slice_get ps i ≡ Some b → IsGoodParam many i b)
      → Says (a_list (binders v 0 ps)) (λ m. AreParams names m ps (vars_of (length ps)))
  params-said ps few good =
      a-list (all-so (binders-said (IsParam names) (IsGoodParam many) param-said 0 ps (omega (arith, few))
      (λ i b at. subst (λ y. IsGoodParam many y b) (let same : i ≡ 0 + i = omega arith in same) (good i b at)))
      (λ ns are at. subst (λ y. AreBinders (IsParam names) [] ns ps (vars_of y)) (let same : 0 + length ps ≡ length ps = omega arith in same) are))

  pub dummies-said : (k : ℕ) (ds : List Binder) → k + length ds ≤ n → ((i : ℕ) (b : Binder) → slice_get ds i ≡ Some b → IsGoodDummy many i b)
      → Says (a_list (binders v k ds)) (λ m. AreDummies names (vars_of k) m ds (vars_of (k + length ds)))
  dummies-said k ds few good = a-list (all-so (binders-said (IsDummy names) (IsGoodDummy many) dummy-said k ds few good) (λ ns are at. are))

  pub result-said : (k : ℕ) (r : ResultType) → k ≤ n → r.sort < many → All (λ j. j < k) r.deps → IsStrictlyIncreasing r.deps → Says (result v r) (λ m. IsResult names (vars_of k) m r)
  result-said k r le there below rising =
      a-list (take (a-number v.sort many names.sorts sorts_are r.sort there) (take (deps-said v k (vars_of k) (numbered-upto v.variable n own k le) r.deps below rising)
      (done (λ m2 h2 m1 h1 at. (h1, h2)))))

-- what legality gives of the binders
pub good-params : (ss : List SortMods) (k : ℕ) (ps : List Binder) → AreBindersThere ss k ps → HasRightParams ss ps → DepsAscend ps
    → (i : ℕ) (b : Binder) → slice_get ps i ≡ Some b → IsGoodParam (length ss) i b
good-params ss k ps there right ascend i b at = (
  (each_from_all (IsBinderThere ss k) ps there i b at).0,
  (λ is. ((right i b at).0 is).0),
  (λ is. All-weaker (λ j. (j < i) × IsBoundAt ps j) (λ j. j < i) (λ j h. h.0) b.deps ((right i b at).1 is)),
  each_from_all (λ c. IsStrictlyIncreasing c.deps) ps ascend i b at,
)

-- ---- hypotheses

module _ (v : Vocabulary) (n : ℕ) (own : AreOwn v.hypothesis n) (names : Names) (sigs : List Signature) (k : ℕ) (vars : List (List ℕ)) (known : Known v names sigs k vars) where
  hyps-said : (i : ℕ) (es : Trees) → i + length (listed es) ≤ n → AllInRange sigs k es
      → AllSay (named_hypotheses v i es) (λ ns. AreHyps (scope_of names vars) (upto v.hypothesis i) ns es (upto v.hypothesis (i + length (listed es))))
  hyps-said i none few ranges = done (refl, ap (upto v.hypothesis) (let same : i + 0 ≡ i = omega arith in same))
  hyps-said i (more e es) few (range, ranges) =
      let less : i < n = omega arith in
      take (a-list (take (a-new-name (upto v.hypothesis i) (v.hypothesis i) (own.0 i less) (new-next v.hypothesis n own i less))
      (take (expr-said v names sigs k vars known e range) (done (λ m2 h2 m1 h1 at. (h1, h2))))))
      (all-so (hyps-said (suc i) es (omega arith) ranges)
      (λ ns are m is. (
        v.hypothesis i,
        e,
        es,
        is,
        subst (λ y. AreHyps (scope_of names vars) (upto v.hypothesis (suc i)) ns es (upto v.hypothesis y)) (one-further i (length (listed es))) are,
        refl,
      )))

  pub named-hyps-said : (es : Trees) → length (listed es) ≤ n → AllInRange sigs k es
      → Says (a_list (named_hypotheses v 0 es)) (λ m. AreNamedHyps (scope_of names vars) m es (upto v.hypothesis (length (listed es))))
  named-hyps-said es few ranges =
      a-list (all-so (hyps-said 0 es (omega (arith, few)) ranges)
      (λ ns are at. subst (λ y. AreHyps (scope_of names vars) [] ns es (upto v.hypothesis y)) (let same : 0 + length (listed es) ≡ length (listed es) = omega arith in same) are))

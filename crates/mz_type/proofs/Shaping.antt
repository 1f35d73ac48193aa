-- What a shape says of the expression with operands put in.
use Rattle.std.proofs.Common.{ℕ, zero, suc, true, Result, Ok, Err, OnOk, OnErr, ◌≡◌, ◌<◌, ◌≤◌, ◌+◌, ◌*◌, List, [], ◌∷◌, ◌++◌, length, get_or, drop, slice_set, replicate, map, sum_by, refl, sym, ap, ◌∙◌, subst, arith, add-one, append-nil, add-mul}
use Rattle.std.proofs.lemmas.List.{map-append}
use Rattle.std.proofs.lemmas.List.Sums.{sum_by-cons, get_or-le-sum_by}
use Rattle.mz_logic_theory.specs.Tree.{Tree, Trees, var, app, none, more, operand, instance, instances, size, trees_size}
use Rattle.mz_logic_theory.specs.Declaration.{plain_form, Term, Assertion, Declaration, sort_decl, term_decl, assertion_decl, terms, assertions, body_tree}
use Rattle.mz_logic_theory.specs.Legality.{InRange, AllInRange}
use Rattle.mz_logic_theory.specs.Signature.{Signature}
use Rattle.mz_logic_theory.specs.View.{tree, trees}
use Rattle.mz_logic_theory.specs.declared.binder.SortMods.{SortMods}
use Rattle.mz_logic_theory.specs.declared.expr.Expr.{Expr}
use Rattle.mz_logic_theory.proofs.Offered.{terms-append, assertions-append}
use Rattle.mz_mmu_theory.specs.Sides.{assertion_at, term_at}
use Rattle.mz_type_rules.proofs.Offered.{trees_cut}
use Rattle.mz_type.specs.Shapes.{one_more, counted, all_counted, beneath, put_on, IsShapeOf, AreShapes, bodies_of, conclusions_of}
use Rattle.mz_type.specs.declared.instance_sizes.Shape.{Shape}

-- ---- counting

pub one_more_is : (us : List ℕ) (x : ℕ) → x < length us → slice_set us x (get_or us x 0 + 1) ≡ one_more us x
one_more_is [] x below = absurd (omega (arith, below))
one_more_is (u ∷ us) zero below = refl
one_more_is (u ∷ us) (suc x) below = ap (λ vs. u ∷ vs) (one_more_is us x (omega (arith, below)))

pub no_more : (us : List ℕ) (x : ℕ) → length us ≤ x → us ≡ one_more us x
no_more [] x past = refl
no_more (u ∷ us) zero past = absurd (omega (arith, past))
no_more (u ∷ us) (suc x) past = ap (λ vs. u ∷ vs) (no_more us x (omega (arith, past)))

abbrev pub total : List ℕ → ℕ
total us = sum_by (λ u. u) us

pub use_fits : (us : List ℕ) (x : ℕ) → x < length us → get_or us x 0 ≤ total us
use_fits us x below = get_or-le-sum_by (λ u. u) us x 0 below

total_one_more : (us : List ℕ) (x : ℕ) → total (one_more us x) ≤ total us + 1
total_one_more [] x = omega arith
total_one_more (u ∷ us) zero = omega (arith, sum_by-cons (λ v. v) (u + 1) us, sum_by-cons (λ v. v) u us)
total_one_more (u ∷ us) (suc x) = omega (arith, sum_by-cons (λ v. v) u (one_more us x), sum_by-cons (λ v. v) u us, total_one_more us x)

length_one_more : (us : List ℕ) (x : ℕ) → length (one_more us x) ≡ length us
length_one_more (u ∷ us) (suc x) = ap suc (length_one_more us x)
length_one_more _ _ = refl

mutual
  pub total_counted : (us : List ℕ) (e : Tree) → total (counted us e) ≤ total us + size e
  total_counted us (var x) = total_one_more us x
  total_counted us (app t es) = omega (arith, total_all_counted us es)

  total_all_counted : (us : List ℕ) (es : Trees) → total (all_counted us es) ≤ total us + trees_size es
  total_all_counted us none = omega arith
  total_all_counted us (more e es) = omega (arith, total_counted us e, total_all_counted (counted us e) es)

mutual
  pub length_counted : (us : List ℕ) (e : Tree) → length (counted us e) ≡ length us
  length_counted us (var x) = length_one_more us x
  length_counted us (app t es) = length_all_counted us es

  length_all_counted : (us : List ℕ) (es : Trees) → length (all_counted us es) ≡ length us
  length_all_counted us none = refl
  length_all_counted us (more e es) = length_all_counted (counted us e) es ∙ length_counted us e

-- ---- the size of an instance

pub size_is : (e : Tree) → size e ≡ beneath e + 1
size_is (var x) = refl
size_is (app t es) = omega arith

pub put_on_none : (es : Trees) → put_on es [] ≡ 0
put_on_none none = refl
put_on_none (more e es) = refl

pub put_on_zeros : (es : Trees) (n : ℕ) → put_on es (replicate n 0) ≡ 0
put_on_zeros (more e es) (suc n) = omega (arith, put_on_zeros es n)
put_on_zeros _ _ = refl

put_on_one_more : (es : Trees) (us : List ℕ) (x : ℕ) → x < length us → put_on es (one_more us x) + 1 ≡ put_on es us + size (operand es x)
put_on_one_more none us x below = refl
put_on_one_more (more e es) [] x below = absurd (omega (arith, below))
put_on_one_more (more e es) (u ∷ us) zero below = omega (arith, add-mul u 1 (beneath e), size_is e)
put_on_one_more (more e es) (u ∷ us) (suc x) below = omega (arith, put_on_one_more es us x (omega (arith, below)))

module _ (sigs : List Signature) (n : ℕ) (es : Trees) where
  mutual
    size_counted : (us : List ℕ) (e : Tree) → length us ≡ n → InRange sigs n e → size (instance es e) + put_on es us ≡ size e + put_on es (counted us e)
    size_counted us (var x) many there =
        let h = put_on_one_more es us x (let below : x < length us = omega (arith, many, there) in below) in omega (arith, h)
    size_counted us (app t fs) many there = omega (arith, sizes_counted us fs many there.2)

    sizes_counted : (us : List ℕ) (fs : Trees) → length us ≡ n → AllInRange sigs n fs → trees_size (instances es fs) + put_on es us ≡ trees_size fs + put_on es (all_counted us fs)
    sizes_counted us none many there = refl
    sizes_counted us (more f fs) many there =
        omega (arith, size_counted us f many there.0, sizes_counted (counted us f) fs (length_counted us f ∙ many) there.1)

pub shape_is : (sigs : List Signature) (n own : ℕ) (uses us : List ℕ) (e : Tree) → InRange sigs n e → us ≡ replicate n 0 → length us ≡ n → own ≡ size e → uses ≡ counted us e
    → (es : Trees) → size (instance es e) ≡ own + put_on es uses
shape_is sigs n own uses us e there zeros many own_is uses_are es =
    let h = size_counted sigs n es us e many there in
    let z : put_on es us ≡ 0 = ap (put_on es) zeros ∙ put_on_zeros es n in
    let k : put_on es uses ≡ put_on es (counted us e) = ap (put_on es) uses_are in
    omega (arith, h, z, k, own_is)

pub empty_shape : (uses : List ℕ) (e : Tree) → e ≡ app 0 none → uses ≡ [] → (es : Trees) → size (instance es e) ≡ 1 + put_on es uses
empty_shape uses e is none_used es =
    let a : size (instance es e) ≡ 1 = ap (λ x. size (instance es x)) is in
    let b : put_on es uses ≡ 0 = ap (put_on es) none_used ∙ put_on_none es in
    omega (arith, a, b)

-- ---- one operand more

put_on_more : (e : Tree) (es : Trees) (us : List ℕ) (i : ℕ) → put_on (more e es) (drop i us) ≡ get_or us i 0 * beneath e + put_on es (drop (suc i) us)
put_on_more e es [] zero = omega (arith, put_on_none es)
put_on_more e es [] (suc i) = omega (arith, put_on_none es)
put_on_more e es (u ∷ us) zero = refl
put_on_more e es (u ∷ us) (suc i) = put_on_more e es us i

module _ (xs : List Expr) (i : ℕ) (e : Expr) (below : i < length xs) (is : e ≡ get_or xs i e) (us : List ℕ) where
  pub put_on_cut : put_on (trees (drop i xs)) (drop i us) ≡ get_or us i 0 * beneath (tree e) + put_on (trees (drop (i + 1) xs)) (drop (i + 1) us)
  put_on_cut =
      ap (λ es. put_on es (drop i us)) (trees_cut xs i e below is) ∙ put_on_more (tree e) (trees (drop (i + 1) xs)) us i
      ∙ ap (λ k. get_or us i 0 * beneath (tree e) + put_on (trees (drop (i + 1) xs)) (drop k us)) (sym (add-one i))

-- ---- the shapes of an environment

pub shape_at : (ss : List Shape) (es : List Tree) (i : ℕ) (s : Shape) → AreShapes ss es → i < length ss → s ≡ get_or ss i s → IsShapeOf s (get_or es i (app 0 none))
shape_at [] es i s are below is = absurd (omega (arith, below))
shape_at (t ∷ ss) [] i s are below is = absurd are
shape_at (t ∷ ss) (e ∷ es) zero s are below is = subst (λ r. IsShapeOf r e) (sym is) are.0
shape_at (t ∷ ss) (e ∷ es) (suc i) s are below is = shape_at ss es i s are.1 (omega (arith, below)) is

pub no_shape_at : (ss : List Shape) (es : List Tree) (i : ℕ) → AreShapes ss es → length ss ≤ i → get_or es i (app 0 none) ≡ app 0 none
no_shape_at [] [] i are past = refl
no_shape_at [] (e ∷ es) i are past = absurd are
no_shape_at (s ∷ ss) [] i are past = refl
no_shape_at (s ∷ ss) (e ∷ es) zero are past = absurd (omega (arith, past))
no_shape_at (s ∷ ss) (e ∷ es) (suc i) are past = no_shape_at ss es i are.1 (omega (arith, past))

one_shape_more : (ss : List Shape) (es : List Tree) (s : Shape) (e : Tree) → AreShapes ss es → IsShapeOf s e → AreShapes (ss ++ s ∷ []) (es ++ e ∷ [])
one_shape_more [] [] s e are is = (is, tt)
one_shape_more (t ∷ ss) (f ∷ es) s e are is = (are.0, one_shape_more ss es s e are.1 is)
one_shape_more _ _ s e are is = absurd are

read_mapped : {A : Type 0} (f : A → Tree) (xs : List A) (i : ℕ) (d : A) → get_or (map f xs) i (f d) ≡ f (get_or xs i d)
read_mapped f (x ∷ xs) (suc i) d = read_mapped f xs i d
read_mapped f _ _ d = refl

pub body_at : (env : List Declaration) (t : ℕ) → get_or (bodies_of env) t (app 0 none) ≡ body_tree (term_at env t).form
body_at env t = read_mapped (λ (d : Term). body_tree d.form) (terms env) t (record { signature = record { params = []; result = record { sort = 0; deps = [] } }; form = plain_form })

pub conclusion_at : (env : List Declaration) (T : ℕ) → get_or (conclusions_of env) T (app 0 none) ≡ (assertion_at env T).conclusion
conclusion_at env T = read_mapped (λ (a : Assertion). a.conclusion) (assertions env) T (record { is_axiom = true; params = []; hyps = none; conclusion = app 0 none })

abbrev pub HasShapes : List Declaration → List Shape → List Shape → Type 0
HasShapes env bodies conclusions = AreShapes bodies (bodies_of env) × AreShapes conclusions (conclusions_of env)

module _ (env new : List Declaration) (bodies conclusions : List Shape) (are : HasShapes env bodies conclusions) where
  pub shapes_with_sort : (m : SortMods) → new ≡ env ++ sort_decl m ∷ [] → HasShapes new bodies conclusions
  shapes_with_sort m is = (
    subst (AreShapes bodies) (sym (ap bodies_of is ∙ ap (map (λ (d : Term). body_tree d.form)) (terms-append env (sort_decl m ∷ []) ∙ append-nil (terms env)))) are.0,
    subst (AreShapes conclusions) (sym (ap conclusions_of is ∙ ap (map (λ (a : Assertion). a.conclusion)) (assertions-append env (sort_decl m ∷ []) ∙ append-nil (assertions env)))) are.1,
  )

  pub shapes_with_term : (d : Term) (s : Shape) (later : List Shape) → new ≡ env ++ term_decl d ∷ [] → later ≡ bodies ++ s ∷ [] → IsShapeOf s (body_tree d.form) → HasShapes new later conclusions
  shapes_with_term d s later is pushed shape = (
    subst (λ ss. AreShapes ss (bodies_of new)) (sym pushed)
        (subst (AreShapes (bodies ++ s ∷ [])) (sym (ap bodies_of is ∙ ap (map (λ (t : Term). body_tree t.form)) (terms-append env (term_decl d ∷ [])) ∙ map-append (λ (t : Term). body_tree t.form) (terms env) (d ∷ [])))
        (one_shape_more bodies (bodies_of env) s (body_tree d.form) are.0 shape)),
    subst (AreShapes conclusions) (sym (ap conclusions_of is ∙ ap (map (λ (a : Assertion). a.conclusion)) (assertions-append env (term_decl d ∷ []) ∙ append-nil (assertions env)))) are.1,
  )

  pub shapes_with_assertion : (a : Assertion) (s : Shape) (later : List Shape) → new ≡ env ++ assertion_decl a ∷ [] → later ≡ conclusions ++ s ∷ [] → IsShapeOf s a.conclusion → HasShapes new bodies later
  shapes_with_assertion a s later is pushed shape = (
    subst (AreShapes bodies) (sym (ap bodies_of is ∙ ap (map (λ (d : Term). body_tree d.form)) (terms-append env (assertion_decl a ∷ []) ∙ append-nil (terms env)))) are.0,
    subst (λ ss. AreShapes ss (conclusions_of new)) (sym pushed)
        (subst (AreShapes (conclusions ++ s ∷ [])) (sym (ap conclusions_of is ∙ ap (map (λ (b : Assertion). b.conclusion)) (assertions-append env (assertion_decl a ∷ [])) ∙ map-append (λ (b : Assertion). b.conclusion) (assertions env) (a ∷ [])))
        (one_shape_more conclusions (conclusions_of env) s a.conclusion are.1 shape)),
  )

-- a sort is added, or there was no memory
pub shapes_with_any_sort : {A E : Type 0} (r : Result A E) (env new : List Declaration) (m : SortMods) (bodies conclusions : List Shape) → OnOk r (new ≡ env ++ sort_decl m ∷ []) → OnErr r (new ≡ env)
    → HasShapes env bodies conclusions → HasShapes new bodies conclusions
shapes_with_any_sort (Ok x) env new m bodies conclusions ok err are = shapes_with_sort env new bodies conclusions are m ok
shapes_with_any_sort (Err x) env new m bodies conclusions ok err are = subst (λ e. HasShapes e bodies conclusions) (sym err) are

-- ---- what is said of an instance

module _ (env self : List Declaration) (seen shapes : List Shape) (es : Trees) (i : ℕ) (same : env ≡ self) (read : seen ≡ shapes) where
  pub no_body_size : AreShapes shapes (bodies_of env) → length seen ≤ i → size (instance es (body_tree (term_at self i).form)) ≡ 1
  no_body_size are past =
      ap (λ e. size (instance es (body_tree (term_at e i).form))) (sym same)
      ∙ ap (λ e. size (instance es e)) (sym (body_at env i) ∙ no_shape_at shapes (bodies_of env) i are (subst (λ ss. length ss ≤ i) read past))

  pub body_size : (s : Shape) → AreShapes shapes (bodies_of env) → i < length seen → s ≡ get_or seen i s
      → size (instance es (body_tree (term_at self i).form)) ≡ s.own + put_on es s.uses.items
  body_size s are below is =
      ap (λ e. size (instance es (body_tree (term_at e i).form))) (sym same)
      ∙ ap (λ e. size (instance es e)) (sym (body_at env i))
      ∙ shape_at shapes (bodies_of env) i s are (subst (λ ss. i < length ss) read below) (subst (λ ss. s ≡ get_or ss i s) read is) es

  pub no_conclusion_size : AreShapes shapes (conclusions_of env) → length seen ≤ i → size (instance es (assertion_at self i).conclusion) ≡ 1
  no_conclusion_size are past =
      ap (λ e. size (instance es (assertion_at e i).conclusion)) (sym same)
      ∙ ap (λ e. size (instance es e)) (sym (conclusion_at env i) ∙ no_shape_at shapes (conclusions_of env) i are (subst (λ ss. length ss ≤ i) read past))

  pub conclusion_size : (s : Shape) → AreShapes shapes (conclusions_of env) → i < length seen → s ≡ get_or seen i s
      → size (instance es (assertion_at self i).conclusion) ≡ s.own + put_on es s.uses.items
  conclusion_size s are below is =
      ap (λ e. size (instance es (assertion_at e i).conclusion)) (sym same)
      ∙ ap (λ e. size (instance es e)) (sym (conclusion_at env i))
      ∙ shape_at shapes (conclusions_of env) i s are (subst (λ ss. i < length ss) read below) (subst (λ ss. s ≡ get_or ss i s) read is) es

-- The weight of a text is at most the square of what is written in it, and no more is written than
-- there are nodes.
use Rattle.std.specs.Prelude.{⊤}
use Rattle.std.proofs.Common.{ℕ, zero, suc, ◌≡◌, ◌≤◌, ◌<◌, ◌+◌, ◌*◌, ◌^◌, List, [], ◌∷◌, ◌++◌, length, Some, None, Option, refl, ap, ◌∙◌, subst, arith, add-mul, suc-mul, mul-add, mul-one, mul_comm, mul-le-mul, le_refl, add_assoc}
use Rattle.mz_logic_theory.specs.Tree.{Tree, Trees, var, app, none, more, operand, instance, instances, followed_by, variables, size, trees_size}
use Rattle.mz_logic_theory.specs.Declaration.{Form, plain_form, abstract_form, defined, Declaration, sort_decl, term_decl, assertion_decl, body_of, body_tree}
use Rattle.mz_logic_theory.specs.Conversions.{Conversion, Conversions, refl_conv, sym_conv, cong_conv, unfold_conv, gap_conv, no_convs, more_convs}
use Rattle.mz_logic_theory.proofs.Offered.{trees_size-followed}
use Rattle.mz_mmu_theory.specs.Proof.{Proof, Proofs, by_hyp, by_name, by_citation, by_conv, by_let, by_gap, no_proofs, more_proofs}
use Rattle.mz_mmu_theory.specs.Statements.{Statement}
use Rattle.mz_mmu_theory.specs.Sides.{assertion_at, term_at}
use Rattle.mz_mmu_theory.specs.Weight.{conv_weight, convs_weight, proof_weight, proofs_weight, declaration_weight, statement_weight, weight_after, stated_weight}
use Rattle.mz_type.specs.Sizes.{conv_size, convs_size, proof_size, proofs_size, statement_size, text_size, stated_size}

operand_size : (f : Trees) (i : ℕ) → size (operand f i) ≤ trees_size f + 1
operand_size (more e f) (suc i) = omega (arith, operand_size f i)
operand_size _ _ = omega arith

-- (s + t) * k, in parts
parts_of : (s t k m n : ℕ) → m ≤ s * k → n ≤ t * k → m + n ≤ (s + t) * k
parts_of s t k m n h j = omega (arith, add-mul s t k)

mutual
  pub instance_size : (f : Trees) (e : Tree) → size (instance f e) ≤ size e * (trees_size f + 1)
  instance_size f (var x) = omega (arith, operand_size f x)
  instance_size f (app t es) = omega (arith, suc-mul (trees_size es) (trees_size f + 1), instances_size f es)

  pub instances_size : (f es : Trees) → trees_size (instances f es) ≤ trees_size es * (trees_size f + 1)
  instances_size f none = omega arith
  instances_size f (more e es) = parts_of (size e) (trees_size es) (trees_size f + 1) _ _ (instance_size f e) (instances_size f es)

-- a part's own steps, with an instance of something of size c
own_part : (s c most x : ℕ) → c ≤ most → x ≤ c * (s + 1) → 1 + s + x ≤ (1 + s) * (most + 1)
own_part s c most x h k =
    let wide : c * (s + 1) ≤ most * (s + 1) = mul-le-mul h (le_refl (s + 1)) in
    omega (arith, mul-add (1 + s) most 1, mul-one (1 + s), mul_comm most (s + 1), ap (λ n. n * most) (one_more s))
  where
    one_more : (n : ℕ) → n + 1 ≡ 1 + n
    one_more n = omega arith

size_pos : (e : Tree) → 1 ≤ size e
size_pos (var x) = omega arith
size_pos (app t es) = omega arith

size_of_variables : (ys : List ℕ) → trees_size (variables ys) ≡ length ys
size_of_variables [] = refl
size_of_variables (y ∷ ys) = omega (arith, size_of_variables ys)

at_least : (n k : ℕ) → n ≤ n * (k + 1)
at_least n k = omega (arith, mul-add n k 1, mul-one n)

-- no conclusion and no body is larger than `most`
abbrev pub Within : List Declaration → ℕ → Type 0
Within env most = ((T : ℕ) → size (assertion_at env T).conclusion ≤ most) × ((t : ℕ) → size (body_tree (term_at env t).form) ≤ most)

module _ (env : List Declaration) (most : ℕ) (within : Within env most) where
  mutual
    pub conv_within : (c : Conversion) → conv_weight env c ≤ conv_size c * (most + 1)
    conv_within (refl_conv e) = omega (arith, size_pos e, at_least (size e) most)
    conv_within (sym_conv c) = parts_of 1 (conv_size c) (most + 1) 1 _ (at_least 1 most) (conv_within c)
    conv_within (cong_conv t cs) = parts_of 1 (convs_size cs) (most + 1) 1 _ (at_least 1 most) (convs_within cs)
    conv_within (gap_conv l r) = at_least (1 + size l + size r) most
    conv_within (unfold_conv t es ys c) = parts_of (1 + trees_size es + length ys) (conv_size c) (most + 1) _ _ own (conv_within c)
      where
        body : Tree
        body = body_tree (term_at env t).form

        f : Trees
        f = followed_by es (variables ys)

        own : 1 + trees_size es + size (instance (followed_by es (variables ys)) (body_tree (term_at env t).form)) ≤ (1 + trees_size es + length ys) * (most + 1)
        own =
            let e : trees_size f ≡ trees_size es + length ys = trees_size-followed es (variables ys) ∙ ap (λ n. trees_size es + n) (size_of_variables ys) in
            let k = own_part (trees_size es + length ys) (size body) most (size (instance f body)) (within.1 t) (subst (λ n. size (instance f body) ≤ size body * (n + 1)) e (instance_size f body)) in
            omega (arith, k, ap (λ n. n * (most + 1)) (add_assoc 1 (trees_size es) (length ys)))

    pub convs_within : (cs : Conversions) → convs_weight env cs ≤ convs_size cs * (most + 1)
    convs_within no_convs = omega arith
    convs_within (more_convs c cs) = parts_of (conv_size c) (convs_size cs) (most + 1) _ _ (conv_within c) (convs_within cs)

  mutual
    pub proof_within : (p : Proof) → proof_weight env p ≤ proof_size p * (most + 1)
    proof_within (by_citation T es ps) =
        parts_of (1 + trees_size es) (proofs_size ps) (most + 1) _ _
        (own_part (trees_size es) (size (assertion_at env T).conclusion) most (size (instance es (assertion_at env T).conclusion)) (within.0 T) (instance_size es (assertion_at env T).conclusion))
        (proofs_within ps)
    proof_within (by_conv e c p) =
        parts_of (1 + size e + conv_size c) (proof_size p) (most + 1) _ _
        (parts_of (1 + size e) (conv_size c) (most + 1) _ _ (at_least (1 + size e) most) (conv_within c)) (proof_within p)
    proof_within (by_let p q) = parts_of (1 + proof_size p) (proof_size q) (most + 1) _ _ (parts_of 1 (proof_size p) (most + 1) 1 _ (at_least 1 most) (proof_within p)) (proof_within q)
    proof_within (by_gap e) = at_least (1 + size e) most
    proof_within _ = at_least 1 most

    pub proofs_within : (ps : Proofs) → proofs_weight env ps ≤ proofs_size ps * (most + 1)
    proofs_within no_proofs = omega arith
    proofs_within (more_proofs p ps) = parts_of (proof_size p) (proofs_size ps) (most + 1) _ _ (proof_within p) (proofs_within ps)

  stated_within : (p : Option Proof) → stated_weight env p ≤ stated_size p * (most + 1)
  stated_within None = omega arith
  stated_within (Some p) = proof_within p

  pub statement_within : (s : Statement) → statement_weight env s ≤ statement_size s * (most + 1)
  statement_within s =
      parts_of (1 + declaration_weight s.decl + length s.dummies) (stated_size s.proof) (most + 1) _ _
      (at_least (1 + declaration_weight s.decl + length s.dummies) most) (stated_within s.proof)

-- ---- no conclusion and no body is larger than all that is written

abbrev pub IsWithin : ℕ → Declaration → Type 0
IsWithin most (sort_decl _) = ⊤
IsWithin most (term_decl d) = size (body_tree d.form) ≤ most
IsWithin most (assertion_decl a) = size a.conclusion ≤ most

abbrev pub AreWithin : ℕ → List Declaration → Type 0
AreWithin most [] = ⊤
AreWithin most (d ∷ ds) = IsWithin most d × AreWithin most ds

within_more : (most : ℕ) (ds : List Declaration) (d : Declaration) → AreWithin most ds → IsWithin most d → AreWithin most (ds ++ d ∷ [])
within_more most [] d hs h = (h, tt)
within_more most (e ∷ ds) d (g, hs) h = (g, within_more most ds d hs h)

conclusion_within : (most : ℕ) → 1 ≤ most → (ds : List Declaration) → AreWithin most ds → (T : ℕ) → size (assertion_at ds T).conclusion ≤ most
conclusion_within most pos [] h T = pos
conclusion_within most pos (sort_decl _ ∷ ds) h T = conclusion_within most pos ds h.1 T
conclusion_within most pos (term_decl _ ∷ ds) h T = conclusion_within most pos ds h.1 T
conclusion_within most pos (assertion_decl a ∷ ds) h zero = h.0
conclusion_within most pos (assertion_decl a ∷ ds) h (suc T) = conclusion_within most pos ds h.1 T

body_within : (most : ℕ) → 1 ≤ most → (ds : List Declaration) → AreWithin most ds → (t : ℕ) → size (body_tree (term_at ds t).form) ≤ most
body_within most pos [] h t = pos
body_within most pos (sort_decl _ ∷ ds) h t = body_within most pos ds h.1 t
body_within most pos (assertion_decl _ ∷ ds) h t = body_within most pos ds h.1 t
body_within most pos (term_decl d ∷ ds) h zero = h.0
body_within most pos (term_decl d ∷ ds) h (suc t) = body_within most pos ds h.1 t

body_fits : (f : Form) → size (body_tree f) ≤ trees_size (body_of f) + 1
body_fits plain_form = omega arith
body_fits _ = omega arith

decl_fits : (most : ℕ) (d : Declaration) → declaration_weight d + 1 ≤ most → IsWithin most d
decl_fits most (sort_decl _) h = tt
decl_fits most (term_decl d) h = omega (arith, h, body_fits d.form)
decl_fits most (assertion_decl a) h = omega (arith, h)

weight_within : (most : ℕ) → 1 ≤ most → (env : List Declaration) (ss : List Statement) → AreWithin most env → text_size ss ≤ most → weight_after env ss ≤ text_size ss * (most + 1)
weight_within most pos env [] h small = omega arith
weight_within most pos env (s ∷ ss) h small =
    parts_of (statement_size s) (text_size ss) (most + 1) _ _
    (statement_within env most (conclusion_within most pos env h, body_within most pos env h) s)
    (weight_within most pos (env ++ s.decl ∷ []) ss (within_more most env s.decl h (decl_fits most s.decl (omega (arith, small)))) (omega (arith, small)))

pub weight_bound : (ss : List Statement) → weight_after [] ss ≤ text_size ss * (text_size ss + 2)
weight_bound ss =
    let e : text_size ss + 1 + 1 ≡ text_size ss + 2 = omega arith in
    let h = weight_within (text_size ss + 1) (omega arith) [] ss tt (omega arith) in
    subst (λ n. weight_after [] ss ≤ text_size ss * n) e h

pub square_bound : (n w : ℕ) → n < 2 ^ 32 → w ≤ n * (n + 2) → w < 2 ^ 64
square_bound n w small h =
    let one : n ≤ 4294967295 = omega (arith, small) in
    let two : n + 2 ≤ 4294967297 = omega (arith, small) in
    let wide : n * (n + 2) ≤ 4294967295 * 4294967297 = mul-le-mul one two in
    omega (arith, wide, h)

-- A text's statements are checked one after another; what each declares and what it says beside that are kept disjoint.
use Rattle.std.proofs.Common.{ℕ, zero, suc, ◌≡◌, ◌<◌, ◌+◌, ◌^◌, List, [], ◌∷◌, ◌++◌, length, get_or, refl, sym, ap, ◌∙◌, subst, arith, Bool, Some, length-append, append-nil}
use Rattle.std.specs.Prelude.{option_map, slice_get}
use Rattle.mz_base.specs.Checks.{AllHold}
use Rattle.mz_base.proofs.Offered.{Decides, decides-whole}
use Rattle.mz_sexpr.specs.Node.{Nodes}
use Rattle.mz_sexpr.specs.Number.{first, rest, node_count}
use Rattle.mz_logic_theory.specs.Declaration.{Declaration}
use Rattle.mz_mmu_theory.specs.Statements.{Statement, AreStatements}
use Rattle.mz_mmu_theory.specs.Name.{no_names}
use Rattle.mz_mmu_theory.specs.Names.{StatementsThere}
use Rattle.mz_mmu_theory.specs.Rules.{statement_rules}
use Rattle.mz_mmu_theory.specs.Meaning.{LegalAsStated}
use Rattle.mz_mmu_theory.specs.TextRules.{rules_from, text_rules}
use Rattle.mz_type.specs.StatedView.{Stated, with_decl, statements_of, IsTyped}
use Rattle.mz_mmu_theory.specs.Weight.{statement_weight, weight_after, weight_of}
use Rattle.mz_type.specs.declared.typed.Beside.{Beside}
use Rattle.mz_mmu_theory.proofs.Offered.{statements_there, rules_are_the_meaning}
use Rattle.mz_type.proofs.TypedSteps.{AreMarked, marks_are, there_cut, marked_cut, weight_cut, rules_step, all_rules}
use Rattle.mz_type.proofs.Written.{few_weigh}

-- ---- both lists say the statements

-- one more
pub statements_more : (ds : List Declaration) (bs : List Beside) (d : Declaration) (b : Beside) → length ds ≡ length bs
    → statements_of (ds ++ d ∷ []) (bs ++ b ∷ []) ≡ statements_of ds bs ++ with_decl d b ∷ []
statements_more [] [] d b h = refl
statements_more (x ∷ xs) (y ∷ ys) d b h = ap (λ ss. with_decl x y ∷ ss) (statements_more xs ys d b (omega (arith, h)))
statements_more _ _ d b h = absurd (omega (arith, h))

pub statements_many : (ds : List Declaration) (bs : List Beside) → length ds ≡ length bs → length (statements_of ds bs) ≡ length ds
statements_many [] bs h = refl
statements_many (x ∷ xs) [] h = absurd (omega (arith, h))
statements_many (x ∷ xs) (y ∷ ys) h = ap suc (statements_many xs ys (omega (arith, h)))

pub declared_at : (ds : List Declaration) (bs : List Beside) (i : ℕ) → length ds ≡ length bs
    → option_map (λ s. s.decl) (slice_get (statements_of ds bs) i) ≡ slice_get ds i
declared_at (x ∷ xs) [] i h = absurd (omega (arith, h))
declared_at (x ∷ xs) (y ∷ ys) (suc i) h = declared_at xs ys i (omega (arith, h))
declared_at _ _ _ h = refl

-- what the i-th says beside its declaration
pub beside_at : {A : Type 0} (f : Statement → A) (g : Beside → A) → ((d : Declaration) (b : Beside) → f (with_decl d b) ≡ g b) → (ds : List Declaration) (bs : List Beside) (i : ℕ) (b : Beside)
    → length ds ≡ length bs → i < length ds → b ≡ get_or bs i b → option_map f (slice_get (statements_of ds bs) i) ≡ Some (g b)
beside_at f g is [] bs i b h k e = absurd (omega (arith, k))
beside_at f g is (x ∷ xs) [] i b h k e = absurd (omega (arith, h))
beside_at f g is (x ∷ xs) (y ∷ ys) zero b h k e = ap Some (is x y ∙ ap g (sym e))
beside_at f g is (x ∷ xs) (y ∷ ys) (suc i) b h k e = beside_at f g is xs ys i b (omega (arith, h)) (omega (arith, k)) e

-- ---- how far the check has come: these statements are done, and these are left, whose nodes begin here

pub record IsAsFar (nodes : Nodes) (ss done left : List Statement) (env : List Declaration) (beside : List Beside) (number weight : ℕ) (at : Nodes) : Type 0 where
  pub counted : length env ≡ number
  pub many : length env ≡ length beside
  pub there : StatementsThere env left
  pub marked : AreMarked at left
  pub told : statements_of env beside ≡ done
  pub asked : Decides (rules_from (suc number) env left at) (text_rules nodes ss)
  pub weighs : weight + weight_after env left ≡ weight_of ss

module _ (gaps : Bool) (nodes : Nodes) (ss : List Statement) (read : AreStatements (no_names gaps) nodes ss) where
  pub begins : (left : List Statement) (env : List Declaration) (beside : List Beside) (at : Nodes) → left ≡ ss → env ≡ [] → beside ≡ [] → at ≡ nodes
      → IsAsFar nodes ss [] left env beside 0 0 at
  begins left env beside at l e b a = record {
    counted = ap length e;
    many = ap length e ∙ sym (ap length b);
    there = subst (λ x. StatementsThere x left) (sym e) (subst (StatementsThere []) (sym l) (statements_there gaps nodes ss read));
    marked = subst (λ x. AreMarked x left) (sym a) (subst (AreMarked nodes) (sym l) (marks_are (no_names gaps) nodes ss read));
    told = ap (λ x. statements_of x beside) e;
    asked = subst (λ x. Decides (rules_from 1 x left at) (text_rules nodes ss)) (sym e)
        (subst (λ x. Decides (rules_from 1 [] x at) (text_rules nodes ss)) (sym l)
        (subst (λ x. Decides (rules_from 1 [] ss x) (text_rules nodes ss)) (sym a) (decides-whole (text_rules nodes ss))));
    weighs = let all = ap (λ x. weight_after x left) e ∙ ap (weight_after []) l in omega (arith, all);
  }

  module _ (done left : List Statement) (env : List Declaration) (beside : List Beside) (number weight : ℕ) (at : Nodes) (h : IsAsFar nodes ss done left env beside number weight at) where
    -- no sum of weights overflows
    pub lighter : (s : Statement) (after : List Statement) → left ≡ s ∷ after → node_count nodes < 2 ^ 32 → weight + statement_weight env s < 2 ^ 64
    lighter s after cut few =
        let split = weight_cut left after s cut env in
        let small = few_weigh gaps nodes ss read few in
        omega (arith, split, small, h.weighs)

    -- a statement more
    pub goes_on : (s : Statement) (after : List Statement) → left ≡ s ∷ after
        → (done' : List Statement) (later : List Declaration) (beside' : List Beside) (number' weight' : ℕ) (after_it : Nodes)
        → done' ≡ done ++ s ∷ [] → later ≡ env ++ s.decl ∷ [] → length later ≡ length beside' → statements_of later beside' ≡ statements_of env beside ++ s ∷ []
        → number' ≡ suc number → weight' ≡ weight + statement_weight env s → after_it ≡ rest at → AllHold (statement_rules env s (first at))
        → IsAsFar nodes ss done' after later beside' number' weight' after_it
    goes_on s after cut done' later beside' number' weight' after_it d is m t n w moved all = record {
      counted = let longer = ap length is ∙ length-append env (s.decl ∷ []) in omega (arith, longer, h.counted, n);
      many = m;
      there = subst (λ e. StatementsThere e after) (sym is) (there_cut left after s cut env h.there).1;
      marked = subst (λ x. AreMarked x after) (sym moved) (marked_cut left after s cut at h.marked).1;
      told = t ∙ ap (λ xs. xs ++ s ∷ []) h.told ∙ sym d;
      asked = subst (λ k. Decides (rules_from (suc k) later after after_it) (text_rules nodes ss)) (sym n)
          (rules_step left after s cut (suc number) env later at after_it (text_rules nodes ss) is moved all h.asked);
      weighs = omega (arith, weight_cut left after s cut env, ap (λ e. weight_after e after) is, w, h.weighs);
    }

    -- none is left
    pub all_legal : left ≡ [] → LegalAsStated gaps ss
    all_legal end = (rules_are_the_meaning gaps nodes ss read).0 (all_rules (suc number) left env at (text_rules nodes ss) end h.asked)

    pub all_weigh : left ≡ [] → weight ≡ weight_of ss
    all_weigh end = omega (arith, ap (weight_after env) end, h.weighs)

    pub all_typed : left ≡ [] → done ≡ ss → length env < 2 ^ 32 → node_count nodes < 2 ^ 32 → IsTyped gaps env beside weight
    all_typed end d short few =
        let is : statements_of env beside ≡ ss = h.told ∙ d in
        record {
          many = h.many;
          few = short;
          read = (nodes, subst (AreStatements (no_names gaps) nodes) (sym is) read);
          legal = subst (LegalAsStated gaps) (sym is) (all_legal end);
          weighs = all_weigh end ∙ ap weight_of (sym is);
          small = omega (arith, all_weigh end, few_weigh gaps nodes ss read few);
        }

-- as all that are left were before
pub typed_at_end : (gaps : Bool) (nodes : Nodes) (ss left : List Statement) (env : List Declaration) (beside : List Beside) (number weight : ℕ) (at : Nodes) → AreStatements (no_names gaps) nodes ss
    → IsAsFar nodes ss (statements_of env beside) left env beside number weight at → statements_of env beside ++ left ≡ ss → left ≡ [] → length env < 2 ^ 32 → node_count nodes < 2 ^ 32
    → IsTyped gaps env beside weight
typed_at_end gaps nodes ss left env beside number weight at read h split none short few =
    let all = sym (append-nil (statements_of env beside)) ∙ ap (λ xs. statements_of env beside ++ xs) (sym none) ∙ split in
    all_typed gaps nodes ss read (statements_of env beside) left env beside number weight at h none all short few

-- ---- what is asked of the i-th

-- there is one in each list
pub both_there : (t : Stated) (ds : List Declaration) (bs : List Beside) (i : ℕ) → statements_of ds bs ≡ t.statements → length ds ≡ length bs → i < length t.statements
    → (i < length ds) × (i < length bs)
both_there t ds bs i is many below =
    let all = statements_many ds bs many in
    let same = ap length is in
    (omega (arith, all, same, below), omega (arith, all, same, below, many))

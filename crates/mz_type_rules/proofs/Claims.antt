-- Claims: what stands in place of a variable, and lists compared from the front.
use Rattle.std.proofs.Common.{ℕ, zero, suc, ◌≡◌, ◌↔◌, ◌<◌, ◌≤◌, ◌+◌, ◌*◌, Bool, true, false, List, [], ◌∷◌, ◌++◌, length, get_or, drop, slice_get, Some, None, refl, sym, ap, ◌∙◌, subst, arith}
use Rattle.std.proofs.lemmas.List.{drop_more}
use Rattle.mz_logic_theory.specs.Tree.{Trees, var, app, none, more, listed, operand, followed_by, variables}
use Rattle.mz_mmu_theory.specs.ConvView.{conversions}
use Rattle.mz_mmu_theory.specs.declared.conv.Conv.{Conv}
use Rattle.mz_type_rules.specs.Claims.{all_put_in, claim_tree, claim_trees, AreSame, AllSame, lists_size, turns}
use Rattle.mz_mmu_theory.specs.Sides.{sides}
use Rattle.mz_type_rules.specs.declared.claim.Claim.{Claim}
use Rattle.mz_type_rules.specs.declared.claim.Lists.{Lists}
use Rattle.mz_type_rules.specs.declared.claim.Put.{Put}
use Rattle.mz_type_rules.specs.declared.claim.Put.TheVariants.{Nothing, Operands}
use Rattle.mz_mmu_theory.proofs.Offered.{instances_many}

-- ---- what stands in place of a variable

pub variable_in : (ys : List ℕ) (i : ℕ) → i < length ys → operand (variables ys) i ≡ var (get_or ys i 0)
variable_in [] i below = absurd (omega (arith, below))
variable_in (y ∷ ys) zero below = refl
variable_in (y ∷ ys) (suc i) below = variable_in ys i (omega (arith, below))

pub variable_past : (ys : List ℕ) (i : ℕ) → length ys ≤ i → operand (variables ys) i ≡ app 0 none
variable_past [] i past = refl
variable_past (y ∷ ys) zero past = absurd (omega (arith, past))
variable_past (y ∷ ys) (suc i) past = variable_past ys i (omega (arith, past))

pub operand_before : (es fs : Trees) (i : ℕ) → i < length (listed es) → operand (followed_by es fs) i ≡ operand es i
operand_before none fs i below = absurd (omega (arith, below))
operand_before (more e es) fs zero below = refl
operand_before (more e es) fs (suc i) below = operand_before es fs i (omega (arith, below))

pub operand_behind : (es fs : Trees) (i j : ℕ) → i ≡ length (listed es) + j → operand (followed_by es fs) i ≡ operand fs j
operand_behind none fs i j is = ap (operand fs) (let e : i ≡ j = omega (arith, is) in e)
operand_behind (more e es) fs zero j is = absurd (omega (arith, is))
operand_behind (more e es) fs (suc i) j is = operand_behind es fs i j (omega (arith, is))

pub none_past : {A : Type 0} (xs : List A) (i : ℕ) → None ≡ slice_get xs i → length xs ≤ i
none_past [] i h = omega arith
none_past (x ∷ xs) zero h = absurd (let e : None ≡ Some x = h in cc)
none_past (x ∷ xs) (suc i) h = let below = none_past xs i h in omega (arith, below)

-- ---- lists with something put in

pub put_many : (p : Put) (es : Trees) → length (listed (all_put_in p es)) ≡ length (listed es)
put_many Nothing es = refl
put_many (Operands fs ys) es = instances_many (followed_by fs.now (variables ys.now)) es

pub sides_length : (r : Bool) (xs : List Conv) → length (listed (sides r (conversions xs))) ≡ length xs
sides_length true [] = refl
sides_length false [] = refl
sides_length true (x ∷ xs) = ap suc (sides_length true xs)
sides_length false (x ∷ xs) = ap suc (sides_length false xs)

-- lists of different lengths differ
pub lengths_differ : (es fs : Trees) (n m : ℕ) → length (listed es) ≡ n → length (listed fs) ≡ m → (n ≡ m → ⊥) → es ≡ fs → ⊥
lengths_differ es fs n m is is' differ same = differ (sym is ∙ ap (λ ts. length (listed ts)) same ∙ is')

-- ---- claims

pub claims_cut : (xs : List Claim) (i : ℕ) (c : Claim) → i < length xs → c ≡ get_or xs i c → claim_trees (drop i xs) ≡ more (claim_tree c) (claim_trees (drop (i + 1) xs))
claims_cut xs i c below is = ap claim_trees (drop_more xs i c below) ∙ ap (λ d. more (claim_tree d) (claim_trees (drop (i + 1) xs))) (sym is)

pub claim_read : (xs : List Claim) (i : ℕ) (c : Claim) → i < length xs → operand (claim_trees xs) i ≡ claim_tree (get_or xs i c)
claim_read [] i c below = absurd (omega (arith, below))
claim_read (x ∷ xs) zero c below = refl
claim_read (x ∷ xs) (suc i) c below = claim_read xs i c (omega (arith, below))

pub claims_append : (xs : List Claim) (c : Claim) → claim_trees (xs ++ c ∷ []) ≡ followed_by (claim_trees xs) (more (claim_tree c) none)
claims_append [] c = refl
claims_append (x ∷ xs) c = ap (more (claim_tree x)) (claims_append xs c)

pub length-claims : (xs : List Claim) → length (listed (claim_trees xs)) ≡ length xs
length-claims [] = refl
length-claims (x ∷ xs) = ap suc (length-claims xs)

-- ---- lists that wait to be compared

pub same_more : (ls new : List Lists) (l : Lists) → new ≡ ls ++ l ∷ [] → AllSame new ↔ (AllSame ls × AreSame l)
same_more ls new l is = (λ h. split ls (subst AllSame is h), λ h. subst AllSame (sym is) (join ls h))
  where
    split : (ls : List Lists) → AllSame (ls ++ l ∷ []) → AllSame ls × AreSame l
    split [] h = (tt, h.0)
    split (m ∷ ms) h = let r = split ms h.1 in ((h.0, r.0), r.1)

    join : (ls : List Lists) → AllSame ls × AreSame l → AllSame (ls ++ l ∷ [])
    join [] h = (h.1, tt)
    join (m ∷ ms) h = (h.0.0, join ms (h.0.1, h.1))

turns_append : (ls : List Lists) (l : Lists) → turns (ls ++ l ∷ []) ≡ turns ls + suc (2 * lists_size l)
turns_append [] l = omega arith
turns_append (m ∷ ms) l = let e = turns_append ms l in omega (arith, e)

pub turns_more : (ls new : List Lists) (l : Lists) → new ≡ ls ++ l ∷ [] → turns new ≡ turns ls + suc (2 * lists_size l)
turns_more ls new l is = ap turns is ∙ turns_append ls l

-- A definition whose stream runs is unfolded to an instance of its body.
use Rattle.std.proofs.Common.{◌≡◌, ℕ, zero, suc, true, false, List, [], ◌∷◌, ◌++◌, length, map, Ok, refl, sym, ap, subst, ◌∙◌, inl, inr, arith}
use Rattle.std.specs.Prelude.{◌&&◌, Contains}
use Rattle.std.proofs.lemmas.Bool.{or_parts}
use Rattle.mz_cmd.specs.declared.rule.K.TheVariants as k
use Rattle.mz_logic_theory.specs.Tree.{Tree, Trees, var, none, followed_by, variables, instance}
use Rattle.mz_logic_theory.specs.Signature.{Signature}
use Rattle.mz_logic_theory.specs.Variables.{InSomeV}
use Rattle.mz_logic_theory.specs.Conversions.{IsBoundOf, AreFresh}
use Rattle.mz_logic_theory.specs.declared.binder.Binder.{Binder}
use Rattle.mz_machine_theory.specs.Streams.{of_definition, UnifyCommand, u_end}
use Rattle.mz_machine_theory.specs.Spells.{trees_of, Marks, variables_from, at_first, Text}
use Rattle.mz_machine_theory.specs.Profile.{strict}
use Rattle.mz_machine_theory.specs.Sorted.{Sorted}
use Rattle.mz_machine_theory.specs.Tests.{in_v}
use Rattle.mz_machine_theory.specs.UnifyMachine.{in_definition, UnifyState, is_empty, within_any, unify_step, unify}
use Rattle.mz_machine_theory.proofs.Inverting.{from_need, taken-is}
use Rattle.mz_machine_theory.proofs.TestLaws.{not-in-v}
use Rattle.mz_machine_theory.proofs.Trees.{operand-trees_of, followed-by-variables}
use Rattle.mz_machine_theory.proofs.Matching.{run, run-from, Matched, matched, FreshList, run-grows}
use Rattle.mz_machine_theory.proofs.Citations.{start-agrees, length-params}

-- ---- fresh variables

-- what is in V of none of these expressions is in V of none of those
abbrev pub NoMore : List Binder → Trees → List Tree → Type 0
NoMore ctx ts apart = (y : ℕ) → within_any strict ctx (var y) apart ≡ false → InSomeV ctx y ts → ⊥

pub no-more-start : (ctx : List Binder) (es : List Tree) → NoMore ctx (trees_of es) es
no-more-start ctx [] y h has = has
no-more-start ctx (e ∷ es) y h (inl here) = not-in-v ctx y e (or_parts (in_v ctx y e) (within_any strict ctx (var y) es) h).0 here
no-more-start ctx (e ∷ es) y h (inr later) = no-more-start ctx es y (or_parts (in_v ctx y e) (within_any strict ctx (var y) es) h).1 later

within-both : (ctx : List Binder) (y : ℕ) (es : List Tree) (e : Tree) → within_any strict ctx (var y) (es ++ e ∷ []) ≡ false → (within_any strict ctx (var y) es ≡ false) × (in_v ctx y e ≡ false)
within-both ctx y [] e h = (refl, (or_parts (in_v ctx y e) false h).0)
within-both ctx y (f ∷ es) e h =
    let (here, later) = or_parts (in_v ctx y f) (within_any strict ctx (var y) (es ++ e ∷ [])) h in
    let (rest, last) = within-both ctx y es e later in
    (rw (here, rest) refl, last)

no-more-push : (ctx : List Binder) (ts : Trees) (es : List Tree) (e : Tree) → NoMore ctx ts es → NoMore ctx ts (es ++ e ∷ [])
no-more-push ctx ts es e n y h has = n y (within-both ctx y es e h).0 has

-- what is in V of none of these isn't y
Sees : List Binder → List Tree → ℕ → Type 0
Sees ctx apart y = (z : ℕ) → within_any strict ctx (var z) apart ≡ false → z ≡ y → ⊥

sees-last : (ctx : List Binder) (apart : List Tree) (y s : ℕ) → IsBoundOf ctx y s → Sees ctx (apart ++ var y ∷ []) y
unfolding Sees
sees-last ctx apart y s (b, at, bound, _) z out is =
    not-in-v ctx z (var y) (within-both ctx z apart (var y) out).1 (b, at, inl (bound, is))

sees-push : (ctx : List Binder) (apart : List Tree) (e : Tree) (y : ℕ) → Sees ctx apart y → Sees ctx (apart ++ e ∷ []) y
unfolding Sees
sees-push ctx apart e y sees z out is = sees z (within-both ctx z apart e out).0 is

not-later : (sigs : List Signature) (ctx : List Binder) (apart : List Tree) (y : ℕ) (ys : List ℕ) (bs : List Binder) → Sees ctx apart y → FreshList sigs ctx apart ys bs → Contains ys y → ⊥
unfolding Sees
not-later sigs ctx apart y [] bs sees h (k, lt, is) = absurd (omega arith)
not-later sigs ctx apart y (z ∷ ys) [] sees h has = absurd h
not-later sigs ctx apart y (z ∷ ys) (b ∷ bs) sees (_, _, out, h) (zero, lt, is) = sees z out is
not-later sigs ctx apart y (z ∷ ys) (b ∷ bs) sees (_, _, out, h) (suc k, lt, is) = not-later sigs ctx (apart ++ var z ∷ []) y ys bs (sees-push ctx apart (var z) y sees) h (k, omega arith, is)

pub fresh-from : (sigs : List Signature) (ctx : List Binder) (ts : Trees) (es : List Tree) (ys : List ℕ) (bs : List Binder) → NoMore ctx ts es → FreshList sigs ctx es ys bs → AreFresh ctx ts ys bs
fresh-from sigs ctx ts es [] [] n h = tt
fresh-from sigs ctx ts es [] (b ∷ bs) n h = h
fresh-from sigs ctx ts es (y ∷ ys) [] n h = h
fresh-from sigs ctx ts es (y ∷ ys) (b ∷ bs) n (bound, _, out, h) = (
  bound,
  n y out,
  not-later sigs ctx (es ++ var y ∷ []) y ys bs (sees-last ctx es y b.sort bound) h,
  fresh-from sigs ctx ts (es ++ var y ∷ []) ys bs (no-more-push ctx ts es (var y) n) h,
)

-- ---- a definition's stream

-- the expression is an instance of the body, with fresh variables for its dummies
abbrev pub IsUnfolding : List Binder → List Tree → Tree → List Binder → Tree → List ℕ → Type 0
IsUnfolding ctx es e dummies b ys = AreFresh ctx (trees_of es) ys dummies × (e ≡ instance (followed_by (trees_of es) (variables ys)) b)

-- where the stream of a definition runs, the target is an instance of its body
pub unfolding-is : (sigs : List Signature) (ctx params : List Binder) (stream : List ℕ) (dummies : List Binder) (b : Tree) (es : List Tree) (e : Tree) (u : UnifyState Tree)
    → Text of_definition sigs params stream none b dummies → length es ≡ length params → Sorted sigs ctx e
    → unify strict sigs ctx (record { mode = in_definition; stream = stream; operands = es; target = e; items = [] }) ≡ Ok u
    → (ys : List ℕ) × (u.apart ≡ es ++ map var ys) × FreshList sigs ctx es ys dummies × IsUnfolding ctx es e dummies b ys
unfolding unify unify_step Matched
unfolding-is sigs ctx params stream dummies b es e u (last, (us, stream-is, mid, rest, spells, (rest-are, last-is)), dummies-are) len sorted done =
    let st : UnifyState Tree = record { heap = es; apart = es; targets = e ∷ []; items = [] } in
    let ran = run-from sigs ctx in_definition (length stream) 0 stream us st u stream-is done in
    let grown = run-grows sigs ctx in_definition us st u ran in
    let len-params : length (variables_from 0 params) ≡ length es = length-params 0 params ∙ sym len in
    let (x, e-is) = matched sigs ctx in_definition (length params) (trees_of u.apart) u (operand-trees_of u.apart) b (at_first params) mid us rest st e [] spells ran refl sorted len-params (start-agrees params es u.apart _ len grown) (omega arith) in
    let ended : unify_step strict sigs ctx in_definition u_end x.state ≡ Ok u = subst (λ (z : List UnifyCommand). run sigs ctx in_definition z x.state ≡ Ok u) rest-are x.runs in
    from_need (is_empty x.state.targets && true) k.UnifyRest _ u ended λ left e1.
    let same : x.state ≡ u = taken-is x.state u e1 in
    let binders-are : x.met.binders ≡ dummies = sym x.met.dummies ∙ ap (λ (z : Marks). z.dummies) (sym last-is) ∙ dummies-are in
    let apart-is : u.apart ≡ es ++ map var x.met.ys = ap (λ (z : UnifyState Tree). z.apart) (sym same) ∙ x.met.apart in
    let fresh : FreshList sigs ctx es x.met.ys dummies = subst (λ (z : List Binder). FreshList sigs ctx es x.met.ys z) binders-are x.met.fresh in
    (x.met.ys, apart-is, fresh, (fresh-from sigs ctx (trees_of es) es x.met.ys dummies (no-more-start ctx es) fresh, e-is ∙ ap (λ (z : Trees). instance z b) (ap trees_of apart-is ∙ followed-by-variables es x.met.ys)))

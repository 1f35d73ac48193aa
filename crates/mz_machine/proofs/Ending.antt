-- The END of a body over a store: the row's own stream, and what it is run on.
use Rattle.std.proofs.Common.{◌≡◌, ◌≤◌, ◌<◌, ◌+◌, ℕ, zero, suc, List, [], ◌∷◌, length, map, refl, sym, ap, ◌∙◌, arith}
use Rattle.std.specs.Prelude.{reverse}
use Rattle.std.specs.List.{range_with_len}
use Rattle.mz_logic_theory.specs.Tree.{Tree, var}
use Rattle.mz_store.specs.Sharing.{Sharing, tree_of, IsIn, AreIn}
use Rattle.mz_store.specs.declared.item.Id.{Id}
use Rattle.mz_store.specs.declared.item.Item.{Item as Kept}
use Rattle.mz_store.specs.declared.item.Item.TheVariants.{Proof}
use Rattle.mz_machine_theory.specs.Profile.{strict, Item, proof}
use Rattle.mz_unify.specs.Stored.{item_at, items_at, trees_at, matching_at, AreVariables, AreItemsIn}
use Rattle.mz_machine_theory.proofs.Offered.{map-reverse}
use Rattle.mz_machine_theory.specs.MachineState.{State, Kind, is_axiom, is_theorem, is_definition, Heading}
use Rattle.mz_machine_theory.specs.ProofMachine.{as_proofs}
use Rattle.mz_machine_env.specs.OwnRow.{id_at, first_ids, own_proofs}
use Rattle.mz_machine.specs.OverStore.{AreFirst}
use Rattle.mz_machine.specs.Endings.{mode_at, items_of, ended}
use Rattle.mz_machine.proofs.EndRows.{own-are}

-- ---- the first variables

trees-from : (s : Sharing) (i n : ℕ) → ((j : ℕ) → i ≤ j → j < i + n → IsIn s j × (tree_of s j ≡ var j)) → trees_at s (map id_at (range_with_len i n)) ≡ map var (range_with_len i n)
trees-from s i zero first = refl
trees-from s i (suc n) first =
    ap (λ (e : Tree). e ∷ trees_at s (map id_at (range_with_len (i + 1) n))) (first i (omega arith) (omega arith)).1
    ∙ ap (λ (es : List Tree). var i ∷ es) (trees-from s (i + 1) n (λ j le below. first j (omega (arith, le)) (omega (arith, below))))

in-from : (s : Sharing) (i n : ℕ) → ((j : ℕ) → i ≤ j → j < i + n → IsIn s j × (tree_of s j ≡ var j)) → AreIn s (map id_at (range_with_len i n))
in-from s i zero first = tt
in-from s i (suc n) first = ((first i (omega arith) (omega arith)).0, in-from s (i + 1) n (λ j le below. first j (omega (arith, le)) (omega (arith, below))))

variables-from : (s : Sharing) (i n : ℕ) → ((j : ℕ) → i ≤ j → j < i + n → IsIn s j × (tree_of s j ≡ var j)) → AreVariables s (map id_at (range_with_len i n))
variables-from s i zero first = tt
variables-from s i (suc n) first =
    (rw ((first i (omega arith) (omega arith)).1) tt, variables-from s (i + 1) n (λ j le below. first j (omega (arith, le)) (omega (arith, below))))

pub first-trees : (s : Sharing) (n : ℕ) → AreFirst s n → trees_at s (first_ids n) ≡ map var (range_with_len 0 n)
first-trees s n first = trees-from s 0 n (λ j le below. first j (omega (arith, below)))

pub first-in : (s : Sharing) (n : ℕ) → AreFirst s n → AreIn s (first_ids n)
first-in s n first = in-from s 0 n (λ j le below. first j (omega (arith, below)))

pub first-variables : (s : Sharing) (n : ℕ) → AreFirst s n → AreVariables s (first_ids n)
first-variables s n first = variables-from s 0 n (λ j le below. first j (omega (arith, below)))

-- ---- hypotheses as proofs

items-are : (s : Sharing) (ids : List Id) → map (item_at s) (map Proof ids) ≡ map proof (trees_at s ids)
items-are s [] = refl
items-are s (i ∷ is) = ap (λ (xs : List (Item Tree)). proof (tree_of s i.0) ∷ xs) (items-are s is)

proofs-are : (s : Sharing) (hyps : List Id) → items_at s (map Proof hyps) ≡ as_proofs (trees_at s hyps)
proofs-are s hyps = ap (map (item_at s)) (sym (map-reverse Proof hyps)) ∙ (items-are s (reverse hyps) ∙ ap (map proof) (map-reverse (λ (i : Id). tree_of s i.0) hyps))

pub own-items : (s : Sharing) (kind : Kind) (hyps : List Id) → items_at s (own_proofs kind hyps) ≡ items_of kind (trees_at s hyps)
own-items s is_axiom hyps = proofs-are s hyps
own-items s is_theorem hyps = proofs-are s hyps
own-items s is_definition hyps = refl

proofs-in : (s : Sharing) (hyps : List Id) → AreIn s hyps → AreItemsIn s (map Proof hyps)
proofs-in s [] inside = tt
proofs-in s (h ∷ hs) (one, more) = (one, proofs-in s hs more)

pub own-items-in : (s : Sharing) (kind : Kind) (hyps : List Id) → AreIn s hyps → AreItemsIn s (own_proofs kind hyps)
own-items-in s is_axiom hyps inside = proofs-in s hyps inside
own-items-in s is_theorem hyps inside = proofs-in s hyps inside
own-items-in s is_definition hyps inside = tt

-- ---- the row's own stream

pub own-matching : (h : Heading) (st : State Tree) (kind : Kind) (s : Sharing) (stream : List ℕ) (operands : List Id) (target : Id) (proofs : List Kept)
    → stream ≡ h.stream → trees_at s operands ≡ map var (range_with_len 0 (length h.params)) → items_at s proofs ≡ items_of kind st.hyps
    → matching_at s (mode_at kind) stream operands target proofs ≡ ended h st kind (tree_of s target.0)
own-matching h st is_axiom s stream operands target proofs a b c = rw (a, b, c, own-are strict 0 h.params) refl
own-matching h st is_theorem s stream operands target proofs a b c = rw (a, b, c, own-are strict 0 h.params) refl
own-matching h st is_definition s stream operands target proofs a b c = rw (a, b, c, own-are strict 0 h.params) refl

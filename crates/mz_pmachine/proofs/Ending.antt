-- The END of a body over nodes: the row's own stream, and what it is run on.
use Rattle.std.proofs.Common.{◌≡◌, ◌≤◌, ◌<◌, ◌+◌, ℕ, zero, suc, List, [], ◌∷◌, length, map, refl, sym, ap, ◌∙◌, arith}
use Rattle.std.specs.Prelude.{reverse}
use Rattle.std.specs.List.{range_with_len}
use Rattle.mz_pmachine_unify.specs.Numbering.{Numbering, expr_of, IsIn, AreIn}
use Rattle.mz_store.specs.declared.item.Id.{Id}
use Rattle.mz_store.specs.declared.item.Item.{Item as Kept}
use Rattle.mz_store.specs.declared.item.Item.TheVariants.{Proof}
use Rattle.mz_pmachine_theory.specs.NodeIdentity.{Numbered, a_variable, portable}
use Rattle.mz_machine_theory.specs.Profile.{Item, proof}
use Rattle.mz_pmachine_unify.specs.Stored.{item_at, items_at, exprs_at, matching_at, AreItemsIn}
use Rattle.mz_machine_theory.proofs.Offered.{map-reverse}
use Rattle.mz_machine_theory.specs.MachineState.{State, Kind, is_axiom, is_theorem, is_definition, Heading}
use Rattle.mz_machine_theory.specs.ProofMachine.{as_proofs}
use Rattle.mz_machine_env.specs.OwnRow.{id_at, first_ids, own_proofs}
use Rattle.mz_pmachine.specs.OverNodes.{AreFirst}
use Rattle.mz_machine.specs.Endings.{mode_at, items_of}
use Rattle.mz_pmachine.specs.Endings.{ended}
use Rattle.mz_machine.proofs.Offered.{own-are}

-- ---- the first variables

exprs-from : (s : Numbering) (i n : ℕ) → ((j : ℕ) → i ≤ j → j < i + n → IsIn s j × (expr_of s j ≡ a_variable j)) → exprs_at s (map id_at (range_with_len i n)) ≡ map a_variable (range_with_len i n)
exprs-from s i zero first = refl
exprs-from s i (suc n) first =
    ap (λ (e : Numbered). e ∷ exprs_at s (map id_at (range_with_len (i + 1) n))) (first i (omega arith) (omega arith)).1
    ∙ ap (λ (es : List Numbered). a_variable i ∷ es) (exprs-from s (i + 1) n (λ j le below. first j (omega (arith, le)) (omega (arith, below))))

in-from : (s : Numbering) (i n : ℕ) → ((j : ℕ) → i ≤ j → j < i + n → IsIn s j × (expr_of s j ≡ a_variable j)) → AreIn s (map id_at (range_with_len i n))
in-from s i zero first = tt
in-from s i (suc n) first = ((first i (omega arith) (omega arith)).0, in-from s (i + 1) n (λ j le below. first j (omega (arith, le)) (omega (arith, below))))

pub first-exprs : (s : Numbering) (n : ℕ) → AreFirst s n → exprs_at s (first_ids n) ≡ map a_variable (range_with_len 0 n)
first-exprs s n first = exprs-from s 0 n (λ j le below. first j (omega (arith, below)))

pub first-in : (s : Numbering) (n : ℕ) → AreFirst s n → AreIn s (first_ids n)
first-in s n first = in-from s 0 n (λ j le below. first j (omega (arith, below)))

-- ---- hypotheses as proofs

items-are : (s : Numbering) (ids : List Id) → map (item_at s) (map Proof ids) ≡ map proof (exprs_at s ids)
items-are s [] = refl
items-are s (i ∷ is) = ap (λ (xs : List (Item Numbered)). proof (expr_of s i.0) ∷ xs) (items-are s is)

proofs-are : (s : Numbering) (hyps : List Id) → items_at s (map Proof hyps) ≡ as_proofs (exprs_at s hyps)
proofs-are s hyps = ap (map (item_at s)) (sym (map-reverse Proof hyps)) ∙ (items-are s (reverse hyps) ∙ ap (map proof) (map-reverse (λ (i : Id). expr_of s i.0) hyps))

pub own-items : (s : Numbering) (kind : Kind) (hyps : List Id) → items_at s (own_proofs kind hyps) ≡ items_of kind (exprs_at s hyps)
own-items s is_axiom hyps = proofs-are s hyps
own-items s is_theorem hyps = proofs-are s hyps
own-items s is_definition hyps = refl

proofs-in : (s : Numbering) (hyps : List Id) → AreIn s hyps → AreItemsIn s (map Proof hyps)
proofs-in s [] inside = tt
proofs-in s (h ∷ hs) (one, more) = (one, proofs-in s hs more)

pub own-items-in : (s : Numbering) (kind : Kind) (hyps : List Id) → AreIn s hyps → AreItemsIn s (own_proofs kind hyps)
own-items-in s is_axiom hyps inside = proofs-in s hyps inside
own-items-in s is_theorem hyps inside = proofs-in s hyps inside
own-items-in s is_definition hyps inside = tt

-- ---- the row's own stream

pub own-matching : (h : Heading) (st : State Numbered) (kind : Kind) (s : Numbering) (stream : List ℕ) (operands : List Id) (target : Id) (proofs : List Kept)
    → stream ≡ h.stream → exprs_at s operands ≡ map a_variable (range_with_len 0 (length h.params)) → items_at s proofs ≡ items_of kind st.hyps
    → matching_at s (mode_at kind) stream operands target proofs ≡ ended h st kind (expr_of s target.0)
own-matching h st is_axiom s stream operands target proofs a b c = rw (a, b, c, own-are portable 0 h.params) refl
own-matching h st is_theorem s stream operands target proofs a b c = rw (a, b, c, own-are portable 0 h.params) refl
own-matching h st is_definition s stream operands target proofs a b c = rw (a, b, c, own-are portable 0 h.params) refl

-- A step that goes through in one machine goes through in another, to what is related.
use Rattle.std.proofs.Common.{◌≡◌, ℕ, Bool, true, false, Option, Some, None, Result, Ok, Err, refl, sym, ap, subst, ◌∙◌}
use Rattle.mz_cmd.specs.declared.rule.K.{K}
use Rattle.mz_machine_theory.specs.Steps.{◌>>=◌, ◌>>◌, need, want, rule_of, at_place, Turn, over, goes_on, follow}

abbrev pub Goes : {A B F : Type 0} → (A → B → Type 0) → Result A F → Result B F → Type 0
Goes {A = A} {B = B} R r r' = (x : A) → r ≡ Ok x → (y : B) × (r' ≡ Ok y) × R x y

-- what f makes of the one is the other
abbrev pub Is : {A B : Type 0} → (A → B) → A → B → Type 0
Is f x y = f x ≡ y

abbrev pub went : {A F : Type 0} → A → Result A F
went x = Ok x

pub went-is : {A F : Type 0} (x y : A) → went {F = F} x ≡ went y → x ≡ y
went-is x y e = cc

pub goes-to : {A B F : Type 0} (R : A → B → Type 0) (x : A) (y : B) → R x y → Goes {F = F} R (Ok x) (Ok y)
goes-to {F = F} R x y r z e = (y, refl, subst (λ w. R w y) (went-is {F = F} x z e) r)

-- a step whose value is related
pub goes-bind : {A A' B B' F : Type 0} (R : A → A' → Type 0) (Q : B → B' → Type 0) (r : Result A F) (r' : Result A' F) (f : A → Result B F) (f' : A' → Result B' F)
    → Goes R r r' → ((x : A) (x' : A') → R x x' → Goes Q (f x) (f' x')) → Goes Q (r >>= f) (r' >>= f')
goes-bind {A' = A'} {F = F} R Q (Ok x) r' f f' first rest y e =
    let (x', run, related) = first x refl in
    let (y', run', q) = rest x x' related y e in
    (y', ap (λ (z : Result A' F). z >>= f') run ∙ run', q)
goes-bind R Q (Err d) r' f f' first rest y e = absurd cc

-- a step whose value is a function of the other
pub goes-on : {A A' B B' F : Type 0} (g : A → A') (Q : B → B' → Type 0) (r : Result A F) (r' : Result A' F) (f : A → Result B F) (f' : A' → Result B' F)
    → Goes (Is g) r r' → ((x : A) → Goes Q (f x) (f' (g x))) → Goes Q (r >>= f) (r' >>= f')
goes-on {A' = A'} {F = F} g Q (Ok x) r' f f' first rest y e =
    let (x', run, is) = first x refl in
    let (y', run', q) = rest x y e in
    (y', ap (λ (z : Result A' F). z >>= f') run ∙ ap f' (sym is) ∙ run', q)
goes-on g Q (Err d) r' f f' first rest y e = absurd cc

pub goes-need : {B B' : Type 0} (Q : B → B' → Type 0) (b b' : Bool) (rule : K) (s : Result B K) (s' : Result B' K)
    → (b ≡ true → b' ≡ true) → Goes Q s s' → Goes Q (need b rule >> s) (need b' rule >> s')
goes-need Q true b' rule s s' holds rest y e =
    let (y', run, q) = rest y e in
    (y', ap (λ (z : Bool). need z rule >> s') (holds refl) ∙ run, q)
goes-need Q false b' rule s s' holds rest y e = absurd cc

pub goes-want : {A A' B B' : Type 0} (g : A → A') (Q : B → B' → Type 0) (o : Option A) (o' : Option A') (rule : K) (f : A → Result B K) (f' : A' → Result B' K)
    → ((x : A) → o ≡ Some x → o' ≡ Some (g x)) → ((x : A) → Goes Q (f x) (f' (g x))) → Goes Q (want o rule >>= f) (want o' rule >>= f')
goes-want {A' = A'} g Q (Some x) o' rule f f' there rest y e =
    let (y', run, q) = rest x y e in
    (y', ap (λ (z : Option A'). want z rule >>= f') (there x refl) ∙ run, q)
goes-want g Q None o' rule f f' there rest y e = absurd cc

-- with the step itself at hand
pub goes-known : {A B F : Type 0} (R : A → B → Type 0) (r : Result A F) (r' : Result B F) → Goes R r r' → Goes (λ x y. (r ≡ Ok x) × R x y) r r'
goes-known R r r' goes x e =
    let (y, run, related) = goes x e in
    (y, run, (e, related))

-- after the same premise
pub goes-after : {A B B' F : Type 0} (Q : B → B' → Type 0) (r r' : Result A F) (s : Result B F) (s' : Result B' F)
    → r' ≡ r → Goes Q s s' → Goes Q (r >> s) (r' >> s')
goes-after {A = A} {F = F} Q (Ok x) r' s s' same rest y e =
    let (y', run, q) = rest y e in
    (y', ap (λ (z : Result A F). z >> s') same ∙ run, q)
goes-after Q (Err d) r' s s' same rest y e = absurd cc

pub goes-rule : {A B : Type 0} (R : A → B → Type 0) (r : Result A (ℕ × K)) (r' : Result B (ℕ × K)) → Goes R r r' → Goes R (rule_of r) (rule_of r')
goes-rule {B = B} R (Ok x) r' goes y e =
    let (z, run, q) = goes x refl in
    (z, ap (λ (w : Result B (ℕ × K)). rule_of w) run, subst (λ w. R w z) (went-is {F = K} x y e) q)
goes-rule R (Err d) r' goes y e = absurd cc

-- ---- turns

abbrev pub TurnIs : {S S' : Type 0} → (S → S' → Type 0) → Turn S → Turn S' → Type 0
TurnIs R (over s) (over s') = R s s'
TurnIs R (over s) (goes_on m s') = ⊥
TurnIs R (goes_on n s) (over s') = ⊥
TurnIs R (goes_on n s) (goes_on m s') = (n ≡ m) × R s s'

pub goes-over : {S S' F : Type 0} (R : S → S' → Type 0) (r : Result S F) (r' : Result S' F) → Goes R r r' → Goes (TurnIs R) (r >>= λ s. Ok (over s)) (r' >>= λ s. Ok (over s))
goes-over R r r' goes = goes-bind R (TurnIs R) r r' _ _ goes λ s s' related. goes-to (TurnIs R) (over s) (over s') related

pub goes-further : {S S' F : Type 0} (R : S → S' → Type 0) (len : ℕ) (r : Result S F) (r' : Result S' F) → Goes R r r' → Goes (TurnIs R) (r >>= λ s. Ok (goes_on len s)) (r' >>= λ s. Ok (goes_on len s))
goes-further R len r r' goes = goes-bind R (TurnIs R) r r' _ _ goes λ s s' related. goes-to (TurnIs R) (goes_on len s) (goes_on len s') (refl, related)

module _ {S S' : Type 0} (R : S → S' → Type 0) (at : ℕ) (r' : Result (Turn S') K) (f : ℕ → S → Result S (ℕ × K)) (f' : ℕ → S' → Result S' (ℕ × K)) where
  followed-over : (s : S) (t' : Turn S') → r' ≡ Ok t' → TurnIs R (over s) t' → Goes R (went {F = ℕ × K} s) (follow (at_place at r') f')
  followed-over s (over s') run related y e =
      (s', ap (λ (z : Result (Turn S') K). follow (at_place at z) f') run, subst (λ w. R w s') (went-is {F = ℕ × K} s y e) related)
  followed-over s (goes_on m s') run related y e = absurd related

  followed-on : (len : ℕ) (s : S) (t' : Turn S') → r' ≡ Ok t' → TurnIs R (goes_on len s) t' → ((s' : S') → R s s' → Goes R (f len s) (f' len s')) → Goes R (f len s) (follow (at_place at r') f')
  followed-on len s (over s') run related rest y e = absurd related
  followed-on len s (goes_on m s') run (same, related) rest y e =
      let (y', run', q) = rest s' related y e in
      (y', ap (λ (z : Result (Turn S') K). follow (at_place at z) f') run ∙ ap (λ (n : ℕ). f' n s') (sym same) ∙ run', q)

  pub goes-follow : (r : Result (Turn S) K) → Goes (TurnIs R) r r' → ((len : ℕ) (s : S) (s' : S') → r ≡ Ok (goes_on len s) → R s s' → Goes R (f len s) (f' len s')) → Goes R (follow (at_place at r) f) (follow (at_place at r') f')
  goes-follow (Err d) first rest y e = absurd cc
  goes-follow (Ok (over s)) first rest y e =
      let (t', run, related) = first (over s) refl in
      followed-over s t' run related y e
  goes-follow (Ok (goes_on len s)) first rest y e =
      let (t', run, related) = first (goes_on len s) refl in
      followed-on len s t' run related (λ s' are. rest len s s' refl are) y e

-- What is asked of something, in order (this project's own notion: the public documents say what must hold, and not in
-- which order it is asked).
use Rattle.std.specs.Prelude.{◌≡◌, ◌⊎◌, ⊤, List, [], ◌∷◌, Option, Some, None}
use Rattle.std.proofs.Common.{Result, Ok, Err}

-- facts in order, each with the refusal that comes where it is the first that does not hold
pub data Checks (R : Type 0) : Type 1 where
  nothing : Checks R
  ask : R → Type 0 → Checks R → Checks R

-- one fact
abbrev pub demand : {R : Type 0} → R → Type 0 → Checks R
demand r P = ask r P nothing

-- one after the other
infixr 10 ◌>>◌
abbrev pub ◌>>◌ : {R : Type 0} → Checks R → Checks R → Checks R
nothing >> cs = cs
(ask r P bs) >> cs = ask r P (bs >> cs)

-- the checks of each element, in order
abbrev pub each_in_order : {A R : Type 0} → (A → Checks R) → List A → Checks R
each_in_order f [] = nothing
each_in_order f (x ∷ xs) = f x >> each_in_order f xs

-- the same checks, each refusal reported otherwise
abbrev pub retold : {Q R : Type 0} → (Q → R) → Checks Q → Checks R
retold f nothing = nothing
retold f (ask q P cs) = ask (f q) P (retold f cs)

abbrev pub AllHold : {R : Type 0} → Checks R → Type 0
AllHold nothing = ⊤
AllHold (ask r P cs) = P × AllHold cs

-- r belongs to the first that does not hold
abbrev pub FailsFirst : {R : Type 0} → Checks R → R → Type 0
FailsFirst nothing r = ⊥
FailsFirst (ask q P cs) r = ((P → ⊥) × (r ≡ q)) ⊎ (P × FailsFirst cs r)

-- what a check answers: nothing where all hold, else the refusal of the first that does not
abbrev pub Answers : {R : Type 0} → Option R → Checks R → Type 0
Answers None cs = AllHold cs
Answers (Some r) cs = FailsFirst cs r

-- the same of a result
abbrev pub Judges : {A R : Type 0} → Result A R → Checks R → Type 0
Judges (Ok _) cs = AllHold cs
Judges (Err r) cs = FailsFirst cs r

-- each fact holds or fails, where those before it hold
abbrev pub AreDecided : {R : Type 0} → Checks R → Type 0
AreDecided nothing = ⊤
AreDecided (ask r P cs) = (P ⊎ (P → ⊥)) × (P → AreDecided cs)

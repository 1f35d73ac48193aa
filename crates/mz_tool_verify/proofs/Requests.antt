-- The arguments say which request they ask for, and what is promised of the specification alone follows from what is proved.
use Rattle.std.proofs.Common.{◌≡◌, ◌∙◌, ℕ, List, [], ◌∷◌, sym, subst}
use Rattle.mz_match_theory.proofs.Offered.{sound-proves}
use Rattle.mz_tool_engine.specs.Run.{Asks, IsProved}
use Rattle.mz_tool_engine.specs.Said.{Files}
use Rattle.mz_tool_verify.specs.Requests.{Request, verify, show, said_of}

same-two : (n a b x y : List ℕ) → n ∷ a ∷ b ∷ [] ≡ n ∷ x ∷ y ∷ [] → verify a b ≡ verify x y
same-two n a b x y e = cc

same-one : (n a x : List ℕ) → n ∷ a ∷ [] ≡ n ∷ x ∷ [] → show a ≡ show x
same-one n a x e = cc

AreThree : List (List ℕ) → Type 0
AreThree (a ∷ b ∷ c ∷ rest) = Unit {0}
AreThree words = ⊥

not-both : (n a b m x : List ℕ) → n ∷ a ∷ b ∷ [] ≡ m ∷ x ∷ [] → ⊥
unfolding AreThree
not-both n a b m x e = subst AreThree e tt

-- arguments ask for one request at the most
pub one-request : (words : List (List ℕ)) (r s : Request) → Asks (said_of r) words → Asks (said_of s) words → r ≡ s
one-request words (verify a b) (verify x y) (e, i) (f, j) = same-two _ a b x y (sym e ∙ f)
one-request words (verify a b) (show x) (e, i) (f, j) = absurd (not-both _ a b _ x (sym e ∙ f))
one-request words (show a) (verify x y) (e, i) (f, j) = absurd (not-both _ x y _ a (sym f ∙ e))
one-request words (show a) (show x) (e, i) (f, j) = same-one _ a x (sym e ∙ f)

pub promised : (file : Files) (r : Request) → IsProved file (said_of r) → (said_of r).promise file
promised file (verify a b) (spec ∷ bin ∷ [], hold, sound) = (spec, hold.0, sound-proves spec bin sound)
promised file (verify a b) (contents, hold, sound) = absurd sound
promised file (show b) proved = tt

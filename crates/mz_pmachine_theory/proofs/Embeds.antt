-- One machine's expressions as another's: so that what the one lets through the other does.
use Rattle.std.proofs.Common.{◌≡◌, ℕ, Bool, true, false, cond, List, [], ◌∷◌, map, Option, Some, None, refl, ap, ap₂, ◌∙◌}
use Rattle.std.specs.Prelude.{◌==◌}
use Rattle.std.proofs.lemmas.Option.{same_Some}
use Rattle.mz_logic_theory.specs.Tree.{Tree}
use Rattle.mz_machine_theory.specs.Profile.{Profile}
use Rattle.mz_machine_theory.specs.UnifyMachine.{operands_of}
use Rattle.mz_machine_theory.specs.ProofMachine.{same_term}

-- f takes each expression of P to one of Q that stands for the same tree; what has Right, made by the command at a place,
-- to what Q makes there. Q lets through all that P does, and asks no more.
pub record Embeds (P Q : Profile) (f : P.T → Q.T) (Right : ℕ → P.T → Type 0) : Type 0 where
  pub tree_is : (e : P.T) → Q.tree (f e) ≡ P.tree e
  pub variable_is : (x : ℕ) → f (P.variable x) ≡ Q.variable x
  pub made_is : (at t : ℕ) (es : List P.T) → Right at (P.make at t es) → f (P.make at t es) ≡ Q.make at t (map f es)
  pub parts_are : (e : P.T) (p : ℕ × List P.T) → P.parts e ≡ Some p → Q.parts (f e) ≡ Some (p.0, map f p.1)
  pub same_is : (a b : P.T) → P.same a b ≡ true → Q.same (f a) (f b) ≡ true
  pub gaps_too : P.gaps ≡ true → Q.gaps ≡ true
  pub asks_less : Q.portable ≡ true → P.portable ≡ true

module _ (P Q : Profile) (f : P.T → Q.T) (Right : ℕ → P.T → Type 0) (embeds : Embeds P Q f Right) where
  pub trees-same : (es : List P.T) → map Q.tree (map f es) ≡ map P.tree es
  trees-same [] = refl
  trees-same (e ∷ es) = ap₂ (λ (x : Tree) (xs : List Tree). x ∷ xs) (embeds.tree_is e) (trees-same es)

  taken-operands : (b : Bool) (es fs : List P.T) → cond b (Some es) None ≡ Some fs → cond b (Some (map f es)) None ≡ Some (map f fs)
  taken-operands true es fs e = ap (λ (z : List P.T). Some (map f z)) (same_Some es fs e)
  taken-operands false es fs e = absurd cc

  operands-mapped : (t : ℕ) (o : Option (ℕ × List P.T)) (q : Option (ℕ × List Q.T)) (es : List P.T) → ((p : ℕ × List P.T) → o ≡ Some p → q ≡ Some (p.0, map f p.1))
      → operands_of t o ≡ Some es → operands_of t q ≡ Some (map f es)
  operands-mapped t None q es there e = absurd cc
  operands-mapped t (Some p) q es there e = ap (λ (z : Option (ℕ × List Q.T)). operands_of t z) (there p refl) ∙ taken-operands (p.0 == t) p.1 es e

  pub operands-are : (t : ℕ) (a : P.T) (es : List P.T) → operands_of t (P.parts a) ≡ Some es → operands_of t (Q.parts (f a)) ≡ Some (map f es)
  operands-are t a es e = operands-mapped t (P.parts a) (Q.parts (f a)) es (embeds.parts_are a) e

  abbrev both_onto : List P.T × List P.T → List Q.T × List Q.T
  both_onto z = (map f z.0, map f z.1)

  taken-both : (b : Bool) (es fs : List P.T) (z : List P.T × List P.T) → cond b (Some (es, fs)) None ≡ Some z → cond b (Some (map f es, map f fs)) None ≡ Some (both_onto z)
  taken-both true es fs z e = ap (λ (w : List P.T × List P.T). Some (both_onto w)) (same_Some (es, fs) z e)
  taken-both false es fs z e = absurd cc

  both-mapped : (o o' : Option (ℕ × List P.T)) (q q' : Option (ℕ × List Q.T)) (z : List P.T × List P.T)
      → ((p : ℕ × List P.T) → o ≡ Some p → q ≡ Some (p.0, map f p.1)) → ((p : ℕ × List P.T) → o' ≡ Some p → q' ≡ Some (p.0, map f p.1))
      → same_term o o' ≡ Some z → same_term q q' ≡ Some (both_onto z)
  both-mapped None o' q q' z left right e = absurd cc
  both-mapped (Some p) None q q' z left right e = absurd cc
  both-mapped (Some p) (Some p') q q' z left right e =
      ap₂ (λ (v w : Option (ℕ × List Q.T)). same_term v w) (left p refl) (right p' refl) ∙ taken-both (p.0 == p'.0) p.1 p'.1 z e

  pub both-are : (a b : P.T) (z : List P.T × List P.T) → same_term (P.parts a) (P.parts b) ≡ Some z → same_term (Q.parts (f a)) (Q.parts (f b)) ≡ Some (map f z.0, map f z.1)
  both-are a b z e = both-mapped (P.parts a) (P.parts b) (Q.parts (f a)) (Q.parts (f b)) z (embeds.parts_are a) (embeds.parts_are b) e

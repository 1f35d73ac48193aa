-- The tokens of a sort's modifiers are read as these modifiers.
use Rattle.std.proofs.Common.{ℕ, ◌≡◌, ◌<◌, ◌+◌, ◌*◌, ◌/◌, ◌%◌, ◌==◌, ◌∙◌, ◌++◌, inl, inr, Bool, true, false, List, [], ◌∷◌, map, Some, refl, sym, ap, subst, arith, append_assoc}
use Rattle.std.specs.Prelude.{codes, if◌then◌else◌}
use Rattle.std.proofs.lemmas.Bool.{cases_eq, eq-eqb, ne_eqb}
use Rattle.mz_logic_theory.specs.declared.binder.SortMods.{SortMods}
use Rattle.mz_mmu_theory.specs.Statements.{Modifiers, no_modifiers, with_modifier, AreModifiers, bit, modifier_bits}
use Rattle.mz_decompile_text.specs.Phrases.{a_word}
use Rattle.mz_decompile_text.specs.Phrasing.{of_parts, if_set, modifiers}
use Rattle.mz_decompile_text.proofs.Saying.{IsFit, AllSay, key, done, all-so}
use Rattle.mz_decompile_text.proofs.Atoms.{plain-atom}

-- one token more, or none, with which f holds of what was read
one-more : (b : Bool) (w : List ℕ) (ws : List (List ℕ)) (f : Bool → Modifiers) (m : Modifiers) → IsFit w → with_modifier (f false) w ≡ Some (f true)
    → AllSay (of_parts (map a_word ws)) (λ ns. AreModifiers (f b) ns m) → AllSay (of_parts (map a_word ((if b then w ∷ [] else []) ++ ws))) (λ ns. AreModifiers (f false) ns m)
one-more true w ws f m fit is rest = key w fit (all-so rest (λ ns are at. (f true, is, are)))
one-more false w ws f m fit is rest = rest

last-one : (b : Bool) (w : List ℕ) (f : Bool → Modifiers) → IsFit w → with_modifier (f false) w ≡ Some (f true)
    → AllSay (of_parts (map a_word (if b then w ∷ [] else []))) (λ ns. AreModifiers (f false) ns (f b))
last-one true w f fit is = key w fit (done (λ at. (f true, is, refl)))
last-one false w f fit is = done refl

abbrev these : Bool → Bool → Bool → Bool → Modifiers
these a b c d = record { is_pure = a; is_strict = b; is_provable = c; is_free = d }

words-said : (a b c d : Bool) → AllSay (of_parts (map a_word ((if a then codes "pure" ∷ [] else []) ++ ((if b then codes "strict" ∷ [] else [])
    ++ ((if c then codes "provable" ∷ [] else []) ++ (if d then codes "free" ∷ [] else [])))))) (λ ns. AreModifiers no_modifiers ns (these a b c d))
words-said a b c d =
    one-more a (codes "pure") _ (λ x. these x false false false) (these a b c d) (plain-atom (codes "pure") refl) refl
    (one-more b (codes "strict") _ (λ x. these a x false false) (these a b c d) (plain-atom (codes "strict") refl) refl
    (one-more c (codes "provable") _ (λ x. these a b x false) (these a b c d) (plain-atom (codes "provable") refl) refl
    (last-one d (codes "free") (λ x. these a b c x) (plain-atom (codes "free") refl) refl)))

-- ---- the bits of a number below 16

a-bit : (x w : ℕ) → bit (x % 2 == 1) w ≡ (x % 2) * w
a-bit x w = elim (cases_eq (x % 2) 1) [
  | inl set ↦ ap (λ b. bit b w) (eq-eqb (x % 2) 1 set) ∙ (let one : 1 * w ≡ w = omega arith in sym one) ∙ ap (λ y. y * w) (sym set)
  | inr unset ↦ ap (λ b. bit b w) (ne_eqb (x % 2) 1 unset) ∙ (let nothing : 0 * w ≡ 0 = omega arith in sym nothing) ∙ ap (λ y. y * w) (sym (clear unset))
]
  where
    clear : (x % 2 ≡ 1 → ⊥) → x % 2 ≡ 0
    clear unset = grind arith

four-bits : (k : ℕ) → k < 16 → bit (k % 2 == 1) 1 + bit (k / 2 % 2 == 1) 2 + bit (k / 4 % 2 == 1) 4 + bit (k / 8 % 2 == 1) 8 ≡ k
four-bits k less =
    let a = a-bit k 1 in let b = a-bit (k / 2) 2 in let c = a-bit (k / 4) 4 in let d = a-bit (k / 8) 8 in
    let sum : (k % 2) * 1 + (k / 2 % 2) * 2 + (k / 4 % 2) * 4 + (k / 8 % 2) * 8 ≡ k = omega arith in
    omega (arith, a, b, c, d, sum)

-- what is read of the tokens of a sort's modifiers
pub record ModifiersSaid (m : SortMods) : Type 0 where
  pub modifiers_ : Modifiers
  pub said : AllSay (of_parts (map a_word (modifiers m))) (λ ns. AreModifiers no_modifiers ns modifiers_)
  pub bits : modifier_bits modifiers_ ≡ m.0

all-together : (ws xs ys zs : List (List ℕ)) → ws ++ (xs ++ (ys ++ zs)) ≡ ws ++ xs ++ ys ++ zs
all-together ws xs ys zs = sym (append_assoc (ws ++ xs) ys zs ∙ append_assoc ws xs (ys ++ zs))

pub modifiers-said : (m : SortMods) → m.0 < 16 → ModifiersSaid m
modifiers-said m less = record {
  modifiers_ = these (m.0 % 2 == 1) (m.0 / 2 % 2 == 1) (m.0 / 4 % 2 == 1) (m.0 / 8 % 2 == 1);
  said = subst (λ ws. AllSay (of_parts (map a_word ws)) (λ ns. AreModifiers no_modifiers ns (these (m.0 % 2 == 1) (m.0 / 2 % 2 == 1) (m.0 / 4 % 2 == 1) (m.0 / 8 % 2 == 1))))
      (all-together (if_set (m.0 % 2) (codes "pure")) (if_set (m.0 / 2 % 2) (codes "strict")) (if_set (m.0 / 4 % 2) (codes "provable")) (if_set (m.0 / 8 % 2) (codes "free")))
      (words-said (m.0 % 2 == 1) (m.0 / 2 % 2 == 1) (m.0 / 4 % 2 == 1) (m.0 / 8 % 2 == 1));
  bits = four-bits m.0 less;
}

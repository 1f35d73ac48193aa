use Rattle.std.proofs.Common.{◌≡◌, ◌<◌, ◌∙◌, ◌++◌, ◌∷◌, [], ℕ, List, Option, Some, None, false, true, sym, ap, subst, arith, length, map, length-append}
use Rattle.std.specs.Prelude.{IsSome, ◌↔◌}
use Rattle.std.specs.Option.{option_to_list}
use Rattle.mz_base.proofs.Offered.{length-push}
use Rattle.mz_mmu_forms.specs.SpaceView.{Key, word_of_key, AreKeysFrom}
use Rattle.mz_mmu_forms.proofs.Keys.{keys-front, words-more, same-front, length-words}
use Rattle.mz_mmu_forms.proofs.space.Space.pop.Goals as goal

pub invariant_of-self : goal.invariant_of-self
invariant_of-self c =
    let many = ap length c.pop.ensures.keys ∙ length-append c.pop.new.self.keys (option_to_list c.pop.result) in (
      keys-front 0 c.pop.new.self.keys (option_to_list c.pop.result) (subst (AreKeysFrom 0) c.pop.ensures.keys c.self.invariant.0),
      omega (arith, many, c.self.invariant.1),
    )

less : (o : Option Key) (old new : List Key) (front : List (List ℕ)) (last : List ℕ)
    → old ≡ new ++ option_to_list o → IsSome o ↔ (0 < length old) → map word_of_key old ≡ front ++ last ∷ [] → map word_of_key new ≡ front
less (Some k) old new front last keys found is = same-front (map word_of_key new) front (word_of_key k) last (sym (words-more new k) ∙ sym (ap (λ ks. map word_of_key ks) keys) ∙ is)
less None old new front last keys found is =
    let many = sym (length-words old) ∙ ap length is ∙ length-push front last in
    absurd (let f : false ≡ true = found.1 (omega (arith, many)) in cc)

pub returns : goal.returns
returns c = λ front last is. less c.pop.result c.self.inside.keys.keys c.pop.new.self.keys front last c.pop.ensures.keys c.pop.ensures.found (c.self.view_is ∙ is)

use Rattle.std.proofs.Common.{◌≡◌, ◌≤◌, ◌+◌, ◌∙◌, ◌++◌, ◌∷◌, [], suc, sym, ap, subst, arith, length, inr, map, if◌then◌else◌}
use Rattle.mz_base.proofs.Offered.{length-push}
use Rattle.mz_mmu_forms.specs.SpaceView.{word_of_key, AreKeysFrom}
use Rattle.mz_mmu_forms.proofs.Keys.{none_at_place, keys-more, words-more, length-words}
use Rattle.mz_mmu_forms.proofs.space.Space.push_other.Goals as goal

now_keys : (c : goal.In_ok-insert) → c.insert.new.self.keys ≡ c.self.inside.keys.keys ++ (c.args.word, c.len-place.result + 1) ∷ []
now_keys c =
    let few : length c.self.inside.keys.keys + 0 ≤ c.len-place.result = omega (arith, c.len-place.ensures.len) in
    c.in_ok-insert.ensures.keys
    ∙ ap (λ b. if b then c.self.inside.keys.keys else c.self.inside.keys.keys ++ (c.args.word, c.len-place.result + 1) ∷ [])
    (none_at_place 0 c.len-place.result c.self.inside.keys.keys c.args.word.now c.self.invariant.0 few)

pub invariant_of-self-2 : goal.invariant_of-self-2
invariant_of-self-2 c =
    let few = ap length c.self.view_is in
    let same = length-words c.self.inside.keys.keys in
    let more = ap length (now_keys c) ∙ length-push c.self.inside.keys.keys (c.args.word, c.len-place.result + 1) in
    let here : c.len-place.result + 1 ≡ suc (length c.self.inside.keys.keys + 0) = omega (arith, c.len-place.ensures.len) in (
      subst (AreKeysFrom 0) (sym (now_keys c))
          (keys-more 0 c.self.inside.keys.keys (c.args.word, c.len-place.result + 1) c.self.invariant.0 (inr (c.requires.other, here))),
      omega (arith, few, same, more, c.requires.few),
    )

pub returns : goal.returns
returns c = ap (λ ks. map word_of_key ks) (now_keys c) ∙ words-more c.self.inside.keys.keys (c.args.word, c.len-place.result + 1) ∙ ap (λ xs. xs ++ c.args.word.now ∷ []) c.self.view_is

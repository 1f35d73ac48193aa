use Rattle.std.proofs.Common.{◌≡◌, ◌∙◌, ◌++◌, ◌∷◌, [], sym, ap, subst, refl, arith, length, inl, map, if◌then◌else◌}
use Rattle.mz_base.proofs.Offered.{length-push, no-place}
use Rattle.mz_base.specs.Names.{IsNew}
use Rattle.mz_mmu_forms.specs.SpaceView.{word_of_key, AreKeysFrom}
use Rattle.mz_mmu_forms.proofs.Keys.{is_key, keys-tell, keys-more, words-more, length-words}
use Rattle.mz_mmu_forms.proofs.space.Space.push.Goals as goal

now_keys : (c : goal.In_ok-insert) → c.insert.new.self.keys ≡ c.self.inside.keys.keys ++ (c.args.name, 0) ∷ []
now_keys c =
    c.in_ok-insert.ensures.keys
    ∙ ap (λ b. if b then c.self.inside.keys.keys else c.self.inside.keys.keys ++ (c.args.name, 0) ∷ [])
    (no-place word_of_key c.args.name.now (is_key c.args.name.now 0) c.self.inside.keys.keys
    (keys-tell 0 c.self.inside.keys.keys c.args.name.now c.self.invariant.0 c.requires.name)
    (subst (λ xs. IsNew xs c.args.name.now) (sym c.self.view_is) c.requires.new))

pub invariant_of-self-2 : goal.invariant_of-self-2
invariant_of-self-2 c =
    let few = ap length c.self.view_is in
    let same = length-words c.self.inside.keys.keys in
    let more = ap length (now_keys c) ∙ length-push c.self.inside.keys.keys (c.args.name, 0) in (
      subst (AreKeysFrom 0) (sym (now_keys c)) (keys-more 0 c.self.inside.keys.keys (c.args.name, 0) c.self.invariant.0 (inl (c.requires.name, refl))),
      omega (arith, few, same, more, c.requires.few),
    )

pub returns : goal.returns
returns c = ap (λ ks. map word_of_key ks) (now_keys c) ∙ words-more c.self.inside.keys.keys (c.args.name, 0) ∙ ap (λ xs. xs ++ c.args.name.now ∷ []) c.self.view_is

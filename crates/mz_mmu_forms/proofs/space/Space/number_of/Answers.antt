use Rattle.std.proofs.Common.{◌≡◌, ℕ, List, map, position, sym, ap, ◌∙◌, arith}
use Rattle.mz_base.specs.Names.{number_of}
use Rattle.mz_base.proofs.Offered.{first-place}
use Rattle.mz_mmu_forms.specs.SpaceView.{Key, word_of_key, AreKeysFrom}
use Rattle.mz_mmu_theory.specs.Name.{IsName}
use Rattle.mz_mmu_forms.proofs.Keys.{is_key, keys-tell}
use Rattle.mz_mmu_forms.proofs.space.Space.number_of.Goals as goal

by-keys : (w : List ℕ) (ks : List Key) → AreKeysFrom 0 ks → IsName w → position (is_key w 0) ks ≡ number_of (map word_of_key ks) w
by-keys w ks all named = first-place word_of_key w (is_key w 0) ks (keys-tell 0 ks w all named)

pub overflow_cast-result : goal.overflow_cast-result
overflow_cast-result c =
    let e = sym c.in-Some.is ∙ c.get_index_of.ensures.index in
    let w = c.in-Some.ensures.within in
    omega (arith, w, c.self.invariant.1)

pub returns-in-Some : goal.returns-in-Some
returns-in-Some c = sym c.in-Some.is ∙ c.get_index_of.ensures.index ∙ by-keys c.args.name.now c.self.inside.keys.keys c.self.invariant.0 c.requires ∙ ap (λ xs. number_of xs c.args.name.now) c.self.view_is

pub returns-in-None : goal.returns-in-None
returns-in-None c = sym c.in-None.is ∙ c.get_index_of.ensures.index ∙ by-keys c.args.name.now c.self.inside.keys.keys c.self.invariant.0 c.requires ∙ ap (λ xs. number_of xs c.args.name.now) c.self.view_is

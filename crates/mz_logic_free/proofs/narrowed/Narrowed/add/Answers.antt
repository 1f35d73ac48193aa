use Rattle.std.proofs.Common.{◌⊎◌, ◌≡◌, ℕ, List, Contains, subst, inl}
use Rattle.std.proofs.lemmas.Bool.{eqb-true}
use Rattle.mz_logic_free.proofs.Narrowing.{either-way, inserted}
use Rattle.mz_logic_free.proofs.narrowed.Narrowed.add.Goals as goal

pub returns : goal.returns
returns c = λ z ws has.
    let Here : List (ℕ × List ℕ) → Type 0 = λ es. Contains es (z, ws) in
    let old = c.self.inside.few.entries in
    subst (λ (es : List (ℕ × List ℕ)). Contains es (z, ws) ⊎ ((z ≡ c.args.y) × (ws ≡ c.args.few))) c.self.view_is
    (either-way c.insert.result _ _ _ c.insert.ensures.entries c.insert.ensures.err
    (λ entries. inserted c.args.y c.args.few _ (λ k e. eqb-true c.args.y k e) old z ws (subst Here entries has))
    (λ same. inl (subst Here same has)))

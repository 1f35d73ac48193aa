-- Lemmas on all lists of checks.
use Rattle.std.specs.Prelude.{◌≡◌, refl, ◌⊎◌, ⊤, []}
use Rattle.std.proofs.Common.{inl, inr, sym, ◌∙◌}
use Rattle.mz_base.specs.Checks.{Checks, nothing, ask, AllHold, FailsFirst, AreDecided}

-- at most one refusal belongs to the first that does not hold
pub fails_first-unique : {R : Type 0} → (cs : Checks R) → (r s : R) → FailsFirst cs r → FailsFirst cs s → r ≡ s
fails_first-unique nothing r s f g = absurd f
fails_first-unique (ask q P cs) r s (inl f) (inl g) = f.1 ∙ sym g.1
fails_first-unique (ask q P cs) r s (inl f) (inr g) = absurd (f.0 g.0)
fails_first-unique (ask q P cs) r s (inr f) (inl g) = absurd (g.0 f.0)
fails_first-unique (ask q P cs) r s (inr f) (inr g) = fails_first-unique cs r s f.1 g.1

-- where all hold, none fails
pub all_hold-excludes : {R : Type 0} → (cs : Checks R) → (r : R) → AllHold cs → FailsFirst cs r → ⊥
all_hold-excludes nothing r a f = f
all_hold-excludes (ask q P cs) r a (inl f) = f.0 a.0
all_hold-excludes (ask q P cs) r a (inr f) = all_hold-excludes cs r a.1 f.1

abbrev at_rest : {R : Type 0} → (q : R) (P : Type 0) (cs : Checks R) → P → AllHold cs ⊎ ((r : R) × FailsFirst cs r)
    → AllHold (ask q P cs) ⊎ ((r : R) × FailsFirst (ask q P cs) r)
at_rest q P cs p (inl a) = inl (p, a)
at_rest q P cs p (inr f) = inr (f.0, inr (p, f.1))

abbrev at_first : {R : Type 0} → (q : R) (P : Type 0) (cs : Checks R) → P ⊎ (P → ⊥) → (P → AllHold cs ⊎ ((r : R) × FailsFirst cs r))
    → AllHold (ask q P cs) ⊎ ((r : R) × FailsFirst (ask q P cs) r)
at_first q P cs (inl p) rest = at_rest q P cs p (rest p)
at_first q P cs (inr n) rest = inr (q, inl (n, refl))

-- where each fact is decided, all hold or one fails first
pub all_hold-or_fails : {R : Type 0} → (cs : Checks R) → AreDecided cs → AllHold cs ⊎ ((r : R) × FailsFirst cs r)
all_hold-or_fails nothing d = inl tt
all_hold-or_fails (ask q P cs) d = at_first q P cs d.0 (λ p. all_hold-or_fails cs (d.1 p))

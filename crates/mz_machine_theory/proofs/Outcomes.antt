-- A body has one outcome.
use Rattle.std.proofs.Common.{◌≡◌, ℕ, List, Result, Ok, Err, refl, sym, ap, ◌⊎◌, inl, inr}
use Rattle.std.specs.Prelude.{◌↔◌}
use Rattle.mz_base.specs.Checks.{AllHold, FailsFirst, AreDecided}
use Rattle.mz_cmd.specs.declared.rule.K.{K}
use Rattle.mz_machine_theory.specs.Profile.{Profile}
use Rattle.mz_machine_theory.specs.MachineState.{RowsBefore, Heading}
use Rattle.mz_machine_theory.specs.Bodies.{body_run, Runs, Stops, checks_of}
use Rattle.mz_machine_theory.specs.Laws.{OneOutcome, BodiesAreChecked}

outcome_of : {S : Type 0} (r : Result S (ℕ × K)) → ((st : S) × (r ≡ Ok st)) ⊎ ((at : ℕ) × (rule : K) × (r ≡ Err (at, rule)))
outcome_of (Ok st) = inl (st, refl)
outcome_of (Err f) = inr (f.0, f.1, refl)

runs-or-stops : (P : Profile) (tables : RowsBefore) (h : Heading) (at : ℕ) (bytes : List ℕ)
    → Runs P tables h at bytes ⊎ ((place : ℕ) × (rule : K) × Stops P tables h at bytes place rule)
runs-or-stops P tables h at bytes = outcome_of (body_run P tables h at bytes)

not-both : (P : Profile) (tables : RowsBefore) (h : Heading) (at : ℕ) (bytes : List ℕ) (place : ℕ) (rule : K)
    → Runs P tables h at bytes → Stops P tables h at bytes place rule → ⊥
not-both P tables h at bytes place rule (st, runs) stops = cc

one_fault : {S : Type 0} (r : Result S (ℕ × K)) (f g : ℕ × K) → r ≡ Err f → r ≡ Err g → f ≡ g
one_fault r f g p q = cc

stops-once : (P : Profile) (tables : RowsBefore) (h : Heading) (at : ℕ) (bytes : List ℕ) (place place' : ℕ) (rule rule' : K)
    → Stops P tables h at bytes place rule → Stops P tables h at bytes place' rule' → (place ≡ place') × (rule ≡ rule')
stops-once P tables h at bytes place place' rule rule' p q =
    let same = one_fault (body_run P tables h at bytes) (place, rule) (place', rule') p q in
    (ap (λ (f : ℕ × K). f.0) same, ap (λ (f : ℕ × K). f.1) same)

pub one-outcome : (P : Profile) → OneOutcome P
one-outcome P tables h at bytes = (runs-or-stops P tables h at bytes, not-both P tables h at bytes, stops-once P tables h at bytes)

-- ---- as checks

abbrev ran : {A : Type 0} → A → Result A (ℕ × K)
ran x = Ok x

abbrev stopped : {A : Type 0} → ℕ × K → Result A (ℕ × K)
stopped f = Err f

never-both : {A : Type 0} (x : A) (f : ℕ × K) → stopped f ≡ ran x → ⊥
never-both x f e = cc

fault-is : {A : Type 0} (f g : ℕ × K) → stopped {A = A} f ≡ stopped g → g ≡ f
fault-is f g e = cc

all-hold : {A : Type 0} (r : Result A (ℕ × K)) → AllHold (checks_of r) ↔ ((x : A) × (r ≡ Ok x))
all-hold (Ok x) = (λ _. (x, refl), λ _. tt)
all-hold (Err f) = (λ h. absurd h.0, λ h. absurd (never-both h.0 f h.1))

first-is : {A : Type 0} (f g : ℕ × K) → ((⊥ → ⊥) × (g ≡ f)) ⊎ (⊥ × ⊥) → stopped {A = A} f ≡ stopped g
first-is f g (inl h) = ap (λ z. stopped z) (sym h.1)
first-is f g (inr h) = absurd h.0

fails-first : {A : Type 0} (r : Result A (ℕ × K)) (g : ℕ × K) → FailsFirst (checks_of r) g ↔ (r ≡ Err g)
fails-first (Ok x) g = (λ h. absurd h, λ e. absurd (never-both x g (sym e)))
fails-first (Err f) g = (first-is f g, λ e. inl ((λ b. b), fault-is f g e))

decided : {A : Type 0} (r : Result A (ℕ × K)) → AreDecided (checks_of r)
decided (Ok x) = tt
decided (Err f) = (inr (λ b. b), λ b. absurd b)

pub bodies-checked : (P : Profile) → BodiesAreChecked P
bodies-checked P tables h at bytes = (all-hold (body_run P tables h at bytes), λ place rule. fails-first (body_run P tables h at bytes) (place, rule), decided (body_run P tables h at bytes))

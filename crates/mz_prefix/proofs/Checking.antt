-- What is asked of statements, one after another.
use Rattle.std.proofs.Common.{◌≡◌, ◌≤◌, ◌<◌, ◌+◌, ◌∙◌, ℕ, suc, List, [], ◌∷◌, length, drop, sym, ap, subst, refl, inl, inr, arith}
use Rattle.std.proofs.lemmas.List.{drop_all}
use Rattle.mz_base.specs.Checks.{Checks, ask, AllHold, FailsFirst}
use Rattle.mz_base.proofs.Offered.{Decides, decides-whole}
use Rattle.mz_mmu_theory.specs.Statements.{Statement}
use Rattle.mz_type.specs.TypedText.{statement_at}
use Rattle.mz_prefix.specs.Wording.{Unwritten}
use Rattle.mz_prefix.proofs.Gathering.{from-there}

next-number : (n : ℕ) → suc n ≡ n + 1
next-number n = omega arith

-- P is asked of each, and reported with its number, where the first of all has the number 1
module _ (checks : ℕ → List Statement → Checks Unwritten) (told : ℕ → Unwritten) (P : Statement → Type 0)
    (cut : (k : ℕ) (s : Statement) (ss : List Statement) → checks k (s ∷ ss) ≡ ask (told k) (P s) (checks (suc k) ss)) (ss : List Statement) where
  -- those from the i-th on decide
  abbrev pub Left : ℕ → Type 0
  Left i = Decides (checks (i + 1) (drop i ss)) (checks 1 ss)

  pub all-left : Left 0
  all-left = decides-whole (checks 1 ss)

  here : (i : ℕ) → i < length ss → Left i → Decides (ask (told (i + 1)) (P (statement_at ss i)) (checks (suc (i + 1)) (drop (i + 1) ss))) (checks 1 ss)
  here i below d = subst (λ cs. Decides cs (checks 1 ss)) (ap (checks (i + 1)) (from-there ss i below) ∙ cut (i + 1) (statement_at ss i) (drop (i + 1) ss)) d

  pub next-left : (i : ℕ) → i < length ss → P (statement_at ss i) → Left i → Left (i + 1)
  next-left i below holds d =
      let at = here i below d in
      let on : Decides (checks (suc (i + 1)) (drop (i + 1) ss)) (checks 1 ss) = record { fails = λ r f. at.fails r (inr (holds, f)); holds = λ a. at.holds (holds, a) } in
      subst (λ n. Decides (checks n (drop (i + 1) ss)) (checks 1 ss)) (next-number (i + 1)) on

  pub stops-here : (i : ℕ) → i < length ss → (P (statement_at ss i) → ⊥) → Left i → FailsFirst (checks 1 ss) (told (i + 1))
  stops-here i below fails d = (here i below d).fails (told (i + 1)) (inl (fails, refl))

  pub none-left : (i : ℕ) → length ss ≤ i → ((k : ℕ) → AllHold (checks k [])) → Left i → AllHold (checks 1 ss)
  none-left i past nothing d = d.holds (subst (λ ts. AllHold (checks (i + 1) ts)) (sym (drop_all i ss past)) (nothing (i + 1)))

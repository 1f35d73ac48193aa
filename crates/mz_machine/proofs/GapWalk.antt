-- The commands of a body one after another: whether one of them leaves a gap.
use Rattle.std.proofs.Common.{◌≡◌, ◌≤◌, ◌⊎◌, ◌+◌, ◌∙◌, ℕ, zero, suc, Bool, true, false, List, [], ◌∷◌, length, drop, Option, Some, None, Ok, refl, sym, ap, subst, inl, inr, arith}
use Rattle.std.specs.Prelude.{◌↔◌, ◌||◌}
use Rattle.std.proofs.lemmas.List.{drop-drop}
use Rattle.mz_cmd.specs.declared.command.Cmd.{Cmd}
use Rattle.mz_cmd.specs.declared.code.ProofCode.{ProofCode}
use Rattle.mz_cmd.specs.declared.code.ProofCode.TheVariants as code
use Rattle.mz_cmd.specs.Codes.{proof_code}
use Rattle.mz_cmd.specs.Reading.{first_command}
use Rattle.mz_machine_theory.specs.UnifyMachine.{is_empty}
use Rattle.mz_machine_theory.proofs.Offered.{command-long, drop-less}
use Rattle.mz_machine_theory.specs.Sound.{GapsWithin, HasGap}
use Rattle.mz_machine.specs.Steps.{is_sorry}

sorry-is : (o : Option ProofCode) → is_sorry o ≡ true → o ≡ Some code.Sorry
sorry-is None e = absurd cc
sorry-is (Some code.Term) e = absurd cc
sorry-is (Some code.TermSave) e = absurd cc
sorry-is (Some code.Ref) e = absurd cc
sorry-is (Some code.ConvRef) e = absurd cc
sorry-is (Some code.Dummy) e = absurd cc
sorry-is (Some code.Thm) e = absurd cc
sorry-is (Some code.ThmSave) e = absurd cc
sorry-is (Some code.Hyp) e = absurd cc
sorry-is (Some code.Conv) e = absurd cc
sorry-is (Some code.Refl) e = absurd cc
sorry-is (Some code.Symm) e = absurd cc
sorry-is (Some code.Cong) e = absurd cc
sorry-is (Some code.Unfold) e = absurd cc
sorry-is (Some code.ConvCut) e = absurd cc
sorry-is (Some code.ConvSave) e = absurd cc
sorry-is (Some code.Save) e = absurd cc
sorry-is (Some code.Sorry) e = refl

-- a bound of at least the bytes finds the same
gaps-on : (n m : ℕ) (bytes : List ℕ) → GapsWithin n bytes → length bytes ≤ m → GapsWithin m bytes
gaps-on zero m bytes h le = absurd h
gaps-on (suc n) zero bytes (c, read, rest) le = absurd (let (one, within) = command-long bytes c read in omega (arith, one, within, le))
gaps-on (suc n) (suc m) bytes (c, read, inl is) le = (c, read, inl is)
gaps-on (suc n) (suc m) bytes (c, read, inr rest) le =
    (c, read, inr (gaps-on n m (drop c.len bytes) rest (let (one, within) = command-long bytes c read in drop-less bytes c.len m one le)))

gaps-first : (n : ℕ) (bytes : List ℕ) (c : Cmd) → first_command bytes ≡ Ok c → GapsWithin n bytes → (is_sorry (proof_code c.code) ≡ true) ⊎ HasGap (drop c.len bytes)
gaps-first zero bytes c read h = absurd h
gaps-first (suc n) bytes c read (d, again, h) =
    let same : d ≡ c = (let both : Ok d ≡ Ok c = sym again ∙ read in cc) in
    elim h [
      | inl is ↦ inl (ap is_sorry (subst (λ (x : Cmd). proof_code x.code ≡ Some code.Sorry) same is))
      | inr rest ↦ inr (subst (λ (x : Cmd). HasGap (drop x.len bytes)) same (gaps-on n (length (drop d.len bytes)) (drop d.len bytes) rest (omega arith)))
    ]

pub gaps-step : (bytes : List ℕ) (c : Cmd) → first_command bytes ≡ Ok c → HasGap bytes ↔ ((is_sorry (proof_code c.code) ≡ true) ⊎ HasGap (drop c.len bytes))
gaps-step bytes c read = (
  λ h. gaps-first (length bytes) bytes c read h,
  λ h. elim h [
    | inl is ↦ gaps-on 1 (length bytes) bytes (c, read, inl (sorry-is (proof_code c.code) is)) (omega arith)
    | inr rest ↦ gaps-on (suc (length (drop c.len bytes))) (length bytes) bytes (c, read, inr rest) (omega arith)
  ],
)

either : (a b v : Bool) → v ≡ (a || b) → (v ≡ true) ↔ ((a ≡ true) ⊎ (b ≡ true))
either true b v e = (λ _. inl refl, λ _. e)
either false b v e = (λ t. inr (sym e ∙ t), λ h. elim h [ inl no_ ↦ absurd cc | inr is ↦ e ∙ is ])

-- ---- so far, and in what is left

abbrev pub IsGapSoFar : List ℕ → ℕ → Bool → Type 0
IsGapSoFar bytes at sorry = HasGap bytes ↔ ((sorry ≡ true) ⊎ HasGap (drop at bytes))

pub gap-at-first : (bytes : List ℕ) (sorry : Bool) → sorry ≡ false → IsGapSoFar bytes 0 sorry
gap-at-first bytes sorry none = (λ h. inr h, λ h. elim h [ inl is ↦ absurd (let bad : false ≡ true = sym none ∙ is in cc) | inr rest ↦ rest ])

module _ (bytes : List ℕ) (at : ℕ) (c : Cmd) (sorry : Bool) where
  pub gap-goes-on : (after : Bool) → first_command (drop at bytes) ≡ Ok c → after ≡ (sorry || is_sorry (proof_code c.code)) → IsGapSoFar bytes at sorry → IsGapSoFar bytes (at + c.len) after
  gap-goes-on after read is so-far =
      let one = gaps-step (drop at bytes) c read in
      let said = either sorry (is_sorry (proof_code c.code)) after is in
      let place : HasGap (drop c.len (drop at bytes)) ↔ HasGap (drop (at + c.len) bytes) = rw (drop-drop c.len at bytes) (λ h. h, λ h. h) in (
        λ h. elim (so-far.0 h) [
          | inl was ↦ inl (said.1 (inl was))
          | inr left ↦ elim (one.0 left) [ inl here ↦ inl (said.1 (inr here)) | inr rest ↦ inr (place.0 rest) ]
        ],
        λ h. elim h [
          | inl now ↦ elim (said.0 now) [ inl was ↦ so-far.1 (inl was) | inr here ↦ so-far.1 (inr (one.1 (inl here))) ]
          | inr rest ↦ so-far.1 (inr (one.1 (inr (place.1 rest))))
        ],
      )

  no-more : (rest : List ℕ) → is_empty rest ≡ true → HasGap rest → ⊥
  no-more [] none h = h
  no-more (b ∷ bs) none h = cc

  -- at the END
  pub gap-ends : first_command (drop at bytes) ≡ Ok c → c.code ≡ 0 → is_empty (drop c.len (drop at bytes)) ≡ true → IsGapSoFar bytes at sorry → (sorry ≡ true) ↔ HasGap bytes
  gap-ends read z none so-far =
      let one = gaps-step (drop at bytes) c read in (
        λ is. so-far.1 (inl is),
        λ h. elim (so-far.0 h) [
          | inl is ↦ is
          | inr left ↦ elim (one.0 left) [
            | inl here ↦ absurd (let bad : is_sorry (proof_code 0) ≡ true = subst (λ n. is_sorry (proof_code n) ≡ true) z here in cc)
            | inr rest ↦ absurd (no-more (drop c.len (drop at bytes)) none rest)
          ]
        ],
      )

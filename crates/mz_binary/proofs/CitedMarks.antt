-- The citations of a body, one after another: whether one of them is of a tainted theorem.
use Rattle.std.proofs.Common.{◌≡◌, ◌≤◌, ◌⊎◌, ◌∙◌, ℕ, zero, suc, Bool, true, false, List, length, drop, slice_get, Option, Some, None, Ok, Err, refl, sym, ap, subst, inl, inr, arith}
use Rattle.std.specs.Prelude.{◌↔◌, ◌&&◌}
use Rattle.mz_base.proofs.Offered.{both-true as both}
use Rattle.mz_cmd.specs.declared.command.Cmd.{Cmd}
use Rattle.mz_cmd.specs.declared.command.CmdFault.{CmdFault}
use Rattle.mz_cmd.specs.declared.code.ProofCode.{ProofCode}
use Rattle.mz_cmd.specs.declared.code.ProofCode.TheVariants as code
use Rattle.mz_cmd.specs.Codes.{proof_code}
use Rattle.mz_cmd.specs.Reading.{first_command}
use Rattle.mz_machine_theory.proofs.Offered.{command-long, drop-less}
use Rattle.mz_machine_theory.specs.Sound.{IsCitation, CitesWithin}
use Rattle.mz_binary_theory.specs.Gapped.{CitesMarked, IsMarked, is_citing, mark_in, cites_mark}

cites-is : (o : Option ProofCode) → is_citing o ≡ true → (o ≡ Some code.Thm) ⊎ (o ≡ Some code.ThmSave)
cites-is None e = absurd cc
cites-is (Some code.Term) e = absurd cc
cites-is (Some code.TermSave) e = absurd cc
cites-is (Some code.Ref) e = absurd cc
cites-is (Some code.ConvRef) e = absurd cc
cites-is (Some code.Dummy) e = absurd cc
cites-is (Some code.Thm) e = inl refl
cites-is (Some code.ThmSave) e = inr refl
cites-is (Some code.Hyp) e = absurd cc
cites-is (Some code.Conv) e = absurd cc
cites-is (Some code.Refl) e = absurd cc
cites-is (Some code.Symm) e = absurd cc
cites-is (Some code.Cong) e = absurd cc
cites-is (Some code.Unfold) e = absurd cc
cites-is (Some code.ConvCut) e = absurd cc
cites-is (Some code.ConvSave) e = absurd cc
cites-is (Some code.Save) e = absurd cc
cites-is (Some code.Sorry) e = absurd cc

marked-is : (o : Option Bool) → mark_in o ≡ true → o ≡ Some true
marked-is None e = absurd cc
marked-is (Some b) e = ap (λ x. Some x) e

-- the command cites a tainted one
cites-it : (c : Cmd) (marks : List Bool) → (cites_mark c marks ≡ true) ↔ ((U : ℕ) × IsCitation c U × IsMarked marks U)
cites-it c marks = (
  λ e. (let (cites, marked) = both (is_citing (proof_code c.code)) (mark_in (slice_get marks c.value)) e in (c.value, (cites-is (proof_code c.code) cites, refl), marked-is (slice_get marks c.value) marked)),
  λ (U, (cites, is), marked). (
      let there : mark_in (slice_get marks c.value) ≡ true = ap (λ n. mark_in (slice_get marks n)) is ∙ ap mark_in marked in
      let says : is_citing (proof_code c.code) ≡ true = elim cites [ inl e ↦ ap is_citing e | inr e ↦ ap is_citing e ] in
      ap (λ x. x && mark_in (slice_get marks c.value)) says ∙ there
      ),
)

-- a bound of at least the bytes finds the same
cites-on : (n m : ℕ) (bytes : List ℕ) (T : ℕ) → CitesWithin n bytes T → length bytes ≤ m → CitesWithin m bytes T
cites-on zero m bytes T h le = absurd h
cites-on (suc n) zero bytes T (c, read, rest) le = absurd (let (one, within) = command-long bytes c read in omega (arith, one, within, le))
cites-on (suc n) (suc m) bytes T (c, read, inl is) le = (c, read, inl is)
cites-on (suc n) (suc m) bytes T (c, read, inr rest) le =
    (c, read, inr (cites-on n m (drop c.len bytes) T rest (let (one, within) = command-long bytes c read in drop-less bytes c.len m one le)))

cites-first : (n : ℕ) (bytes : List ℕ) (c : Cmd) (T : ℕ) → first_command bytes ≡ Ok c → CitesWithin n bytes T → IsCitation c T ⊎ CitesWithin (length (drop c.len bytes)) (drop c.len bytes) T
cites-first zero bytes c T read h = absurd h
cites-first (suc n) bytes c T read (d, again, h) =
    let same : d ≡ c = (let both : Ok d ≡ Ok c = sym again ∙ read in cc) in
    elim h [
      | inl is ↦ inl (subst (λ (x : Cmd). IsCitation x T) same is)
      | inr rest ↦ inr (subst (λ (x : Cmd). CitesWithin (length (drop x.len bytes)) (drop x.len bytes) T) same (cites-on n (length (drop d.len bytes)) (drop d.len bytes) T rest (omega arith)))
    ]

module _ (marks : List Bool) where
  pub none-cited : (bytes : List ℕ) (f : CmdFault) → first_command bytes ≡ Err f → CitesMarked bytes marks → ⊥
  none-cited bytes f unread (U, cited, marked) = go (length bytes) cited
    where
      go : (n : ℕ) → CitesWithin n bytes U → ⊥
      go zero h = h
      go (suc n) (c, read, rest) = let both : Err f ≡ Ok c = sym unread ∙ read in cc

  module _ (bytes : List ℕ) (c : Cmd) (read : first_command bytes ≡ Ok c) where
    pub cited-here : cites_mark c marks ≡ true → CitesMarked bytes marks
    cited-here is = let (U, cites, marked) = (cites-it c marks).0 is in (U, cites-on 1 (length bytes) bytes U (c, read, inl cites) (omega arith), marked)

    pub cited-later : cites_mark c marks ≡ false → CitesMarked bytes marks ↔ CitesMarked (drop c.len bytes) marks
    cited-later no_ = (
      λ (U, cited, marked). elim (cites-first (length bytes) bytes c U read cited) [
        | inl here ↦ absurd (let bad : true ≡ false = sym ((cites-it c marks).1 (U, here, marked)) ∙ no_ in cc)
        | inr rest ↦ (U, rest, marked)
      ],
      λ (U, rest, marked). (U, cites-on (suc (length (drop c.len bytes))) (length bytes) bytes U (c, read, inr rest) (omega arith), marked),
    )

  pub none-then : (bytes rest : List ℕ) (f : CmdFault) → first_command rest ≡ Err f → CitesMarked bytes marks ↔ CitesMarked rest marks → (false ≡ true) ↔ CitesMarked bytes marks
  none-then bytes rest f unread same = (λ e. absurd cc, λ h. absurd (none-cited rest f unread (same.0 h)))

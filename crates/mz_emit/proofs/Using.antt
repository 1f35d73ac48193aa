-- What the bytes of a body use is what its commands use.
use Rattle.std.proofs.Common.{◌≡◌, ◌⊎◌, ℕ, zero, suc, Bool, true, false, List, [], ◌∷◌, Contains, refl, sym, ◌∙◌, subst, inl, inr, arith, eq-eqb}
use Rattle.std.proofs.lemmas.Bool.{or_cases, or_left, or_right, eqb-true}
use Rattle.mz_cmd.specs.declared.code.ProofCode.{ProofCode}
use Rattle.mz_cmd.specs.declared.code.ProofCode.TheVariants as code
use Rattle.mz_logic_theory.specs.Tree.{Tree}
use Rattle.mz_logic_theory.specs.Declaration.{Declaration}
use Rattle.mz_logic_theory.specs.declared.binder.Binder.{Binder}
use Rattle.mz_machine_theory.specs.MachineState.{Kind}
use Rattle.mz_mmu_theory.specs.Proof.{Proof}
use Rattle.mz_emit_theory.specs.Uses.{Use, a_gap, assertion, uses, command_uses, commands_use, IsBodyUsing}
use Rattle.mz_emit_theory.specs.Gaps.{LeaveGap, Cite, SaysItsGaps}
use Rattle.mz_emit_theory.proofs.Offered.{bodies-say-gaps, in-none}
use Rattle.mz_emit_theory.specs.Gapped.{UsesAsStated}

-- ---- commands that use something

module _ (u : Use) where
  some_uses : (cs : List (ProofCode × ℕ)) (c : ProofCode × ℕ) → Contains cs c → command_uses u c.0 c.1 ≡ true → commands_use u cs ≡ true
  some_uses [] c has is = in-none c has
  some_uses (d ∷ cs) c (zero, below, same) is =
      or_left (command_uses u d.0 d.1) (commands_use u cs) (subst (λ (z : ProofCode × ℕ). command_uses u z.0 z.1 ≡ true) (sym same) is)
  some_uses (d ∷ cs) c (suc k, below, same) is =
      or_right (command_uses u d.0 d.1) (commands_use u cs) (some_uses cs c (k, omega arith, same) is)

  used_by : (cs : List (ProofCode × ℕ)) → commands_use u cs ≡ true → (c : ProofCode × ℕ) × Contains cs c × (command_uses u c.0 c.1 ≡ true)
  used_by [] is = absurd cc
  used_by (d ∷ cs) is = elim (or_cases (command_uses u d.0 d.1) (commands_use u cs) is) [
    | inl here ↦ (d, (zero, omega arith, refl), here)
    | inr later ↦ (let (c, (k, below, same), one) = used_by cs later in (c, (suc k, omega arith, same), one))
  ]

-- ---- which commands these are

is_sorry : (c : ProofCode) (n : ℕ) → command_uses a_gap c n ≡ true → c ≡ code.Sorry
is_sorry code.Sorry n is = refl
is_sorry c n is = absurd (let never : false ≡ true = is in cc)

same_number : (U T : ℕ) → command_uses (assertion U) code.Thm T ≡ true → T ≡ U
same_number U T is = sym (eqb-true U T is)

is_itself : (U : ℕ) → command_uses (assertion U) code.Thm U ≡ true
is_itself U = eq-eqb U U refl

is_citing : (U : ℕ) (c : ProofCode) (n : ℕ) → command_uses (assertion U) c n ≡ true → ((c ≡ code.Thm) ⊎ (c ≡ code.ThmSave)) × (n ≡ U)
is_citing U code.Thm n is = (inl refl, same_number U n is)
is_citing U code.ThmSave n is = (inr refl, same_number U n is)
is_citing U c n is = absurd (let never : false ≡ true = is in cc)

gap_used : (cs : List (ProofCode × ℕ)) → LeaveGap cs → commands_use a_gap cs ≡ true
gap_used cs (n, has) = some_uses a_gap cs (code.Sorry, n) has refl

gap_left : (cs : List (ProofCode × ℕ)) → commands_use a_gap cs ≡ true → LeaveGap cs
gap_left cs is =
    let (c, has, one) = used_by a_gap cs is in
    (c.1, subst (λ (d : ProofCode). Contains cs (d, c.1)) (is_sorry c.0 c.1 one) has)

cite_used : (U : ℕ) (cs : List (ProofCode × ℕ)) → Cite cs U → commands_use (assertion U) cs ≡ true
cite_used U cs (inl has) = some_uses (assertion U) cs (code.Thm, U) has (is_itself U)
cite_used U cs (inr has) = some_uses (assertion U) cs (code.ThmSave, U) has (is_itself U)

cited : (U : ℕ) (cs : List (ProofCode × ℕ)) → commands_use (assertion U) cs ≡ true → Cite cs U
cited U cs is =
    let (c, has, one) = used_by (assertion U) cs is in
    let (by, same) = is_citing U c.0 c.1 one in
    let here : Contains cs (c.0, U) = subst (λ (n : ℕ). Contains cs (c.0, n)) same has in
    elim by [
      | inl thm ↦ inl (subst (λ (d : ProofCode). Contains cs (d, U)) thm here)
      | inr saved ↦ inr (subst (λ (d : ProofCode). Contains cs (d, U)) saved here)
    ]

-- ---- a body whose commands use what the proof does

pub used_as_stated : (gaps : Bool) (env : List Declaration) (kind : Kind) (params dummies : List Binder) (e : Tree) (hyps : List Tree) (bytes : List ℕ) (p : Proof)
    → IsBodyUsing gaps env kind params dummies e hyps bytes (λ u. uses u [] p) → UsesAsStated p bytes
used_as_stated gaps env kind params dummies e hyps bytes p (shared, just) =
    let b = shared.body in
    let say : SaysItsGaps b.commands bytes = bodies-say-gaps gaps env kind params dummies e hyps bytes b in
    record {
      gaps = (λ has. sym (just a_gap) ∙ gap_used b.commands (say.gaps.0 has), λ is. say.gaps.1 (gap_left b.commands (just a_gap ∙ is)));
      citations = λ U. (
        λ cites. sym (just (assertion U)) ∙ cite_used U b.commands ((say.citations U).0 cites),
        λ is. (say.citations U).1 (cited U b.commands (just (assertion U) ∙ is)),
      );
    }

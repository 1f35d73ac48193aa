-- What a proof and commands use: the assertions that are cited, and gaps (proofs are this project's own, docs/FORMAT.md,
-- section 4; the commands are the .mmb format's, in which Thm and ThmSave cite and Sorry is a gap). A let's part counts
-- where its name stands, so that a let which isn't named uses nothing.
use Rattle.std.specs.Prelude.{ℕ, ◌≡◌, Bool, true, false, ◌||◌, ◌==◌, List, [], ◌∷◌, ◌++◌, get_or}
use Rattle.mz_cmd.specs.declared.code.ProofCode.{ProofCode}
use Rattle.mz_cmd.specs.declared.code.ProofCode.TheVariants as code
use Rattle.mz_logic_theory.specs.Conversions.{Conversion, Conversions, refl_conv, sym_conv, cong_conv, unfold_conv, gap_conv, no_convs, more_convs}
use Rattle.mz_logic_theory.specs.Tree.{Tree}
use Rattle.mz_logic_theory.specs.Declaration.{Declaration}
use Rattle.mz_logic_theory.specs.declared.binder.Binder.{Binder}
use Rattle.mz_machine_theory.specs.MachineState.{Kind}
use Rattle.mz_emit_theory.specs.SharedBodies.{IsSharedBody}
use Rattle.mz_mmu_theory.specs.Proof.{Proof, Proofs, by_hyp, by_name, by_citation, by_conv, by_let, by_gap, no_proofs, more_proofs}

-- what may be used: a gap, and the assertion with a number
pub data Use : Type 0 where
  a_gap : Use
  assertion : ℕ → Use

abbrev pub is_gap : Use → Bool
is_gap a_gap = true
is_gap (assertion T) = false

abbrev pub is_assertion : Use → ℕ → Bool
is_assertion a_gap T = false
is_assertion (assertion U) T = U == T

-- the conversion has a gap, if that is asked
abbrev mutual
  pub conv_uses : Use → Conversion → Bool
  conv_uses u (refl_conv e) = false
  conv_uses u (sym_conv c) = conv_uses u c
  conv_uses u (cong_conv t cs) = convs_use u cs
  conv_uses u (unfold_conv t es ys c) = conv_uses u c
  conv_uses u (gap_conv l r) = is_gap u

  pub convs_use : Use → Conversions → Bool
  convs_use u no_convs = false
  convs_use u (more_convs c cs) = conv_uses u c || convs_use u cs

-- the proof uses it, where each let in sight does as the list says
abbrev mutual
  pub uses : Use → List Bool → Proof → Bool
  uses u lets (by_hyp i) = false
  uses u lets (by_name i) = get_or lets i false
  uses u lets (by_citation T es ps) = is_assertion u T || some_use u lets ps
  uses u lets (by_conv e c p) = conv_uses u c || uses u lets p
  uses u lets (by_let p q) = uses u (lets ++ uses u lets p ∷ []) q
  uses u lets (by_gap e) = is_gap u

  pub some_use : Use → List Bool → Proofs → Bool
  some_use u lets no_proofs = false
  some_use u lets (more_proofs p ps) = uses u lets p || some_use u lets ps

-- the command uses it: a citation its assertion, and Sorry a gap
abbrev pub command_uses : Use → ProofCode → ℕ → Bool
command_uses u code.Term n = false
command_uses u code.TermSave n = false
command_uses u code.Ref n = false
command_uses u code.ConvRef n = false
command_uses u code.Dummy n = false
command_uses u code.Thm T = is_assertion u T
command_uses u code.ThmSave T = is_assertion u T
command_uses u code.Hyp n = false
command_uses u code.Conv n = false
command_uses u code.Refl n = false
command_uses u code.Symm n = false
command_uses u code.Cong n = false
command_uses u code.Unfold n = false
command_uses u code.ConvCut n = false
command_uses u code.ConvSave n = false
command_uses u code.Save n = false
command_uses u code.Sorry n = is_gap u

abbrev pub commands_use : Use → List (ProofCode × ℕ) → Bool
commands_use u [] = false
commands_use u (c ∷ cs) = command_uses u c.0 c.1 || commands_use u cs

-- a body as it is to be, whose commands use what f says, and nothing else
abbrev pub IsBodyUsing : Bool → List Declaration → Kind → List Binder → List Binder → Tree → List Tree → List ℕ → (Use → Bool) → Type 0
IsBodyUsing gaps env kind params dummies e hyps bytes f =
    (b : IsSharedBody gaps env kind params dummies e hyps bytes) × ((u : Use) → commands_use u b.body.commands ≡ f u)

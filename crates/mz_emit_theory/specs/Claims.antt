-- What a stated proof proves, and that it does (this project's own form of proofs).
use Rattle.std.specs.Prelude.{ℕ, ◌≡◌, ◌<◌, ⊤, Bool, true, List, [], ◌∷◌, ◌++◌, length, get_or, slice_get, Some}
use Rattle.mz_logic_theory.specs.Tree.{Tree, Trees, app, none, listed, instance, instances}
use Rattle.mz_logic_theory.specs.Declaration.{Assertion, Declaration, signatures, assertions}
use Rattle.mz_logic_theory.specs.Sorts.{Fits, HasProvable}
use Rattle.mz_logic_theory.specs.Variables.{AreDisjoint}
use Rattle.mz_logic_theory.specs.Conversions.{Conversion, Conversions, Between, AllBetween, GapsOnly, AllGapsOnly}
use Rattle.mz_logic_theory.specs.declared.binder.Binder.{Binder}
use Rattle.mz_machine_theory.specs.Sorted.{Sorted}
use Rattle.mz_mmu_theory.specs.Proof.{Proof, Proofs, by_hyp, by_name, by_citation, by_conv, by_let, by_gap, no_proofs, more_proofs}
use Rattle.mz_emit_theory.specs.InReach.{InReach}

-- the i-th; past the end, where nothing looks, a term without operands
abbrev pub claim_at : List Tree → ℕ → Tree
claim_at es i = get_or es i (app 0 none)

abbrev pub conclusion_of : List Declaration → ℕ → Tree
conclusion_of env T = (get_or (assertions env) T (record { is_axiom = true; params = []; hyps = none; conclusion = app 0 none })).conclusion

-- `lets` is what the lets in sight prove, the outermost first
abbrev pub proved : List Declaration → List Tree → List Tree → Proof → Tree
proved env hyps lets (by_hyp i) = claim_at hyps i
proved env hyps lets (by_name i) = claim_at lets i
proved env hyps lets (by_citation T es ps) = instance es (conclusion_of env T)
proved env hyps lets (by_conv e c p) = e
proved env hyps lets (by_let p q) = proved env hyps (lets ++ proved env hyps lets p ∷ []) q
proved env hyps lets (by_gap e) = e

abbrev pub all_proved : List Declaration → List Tree → List Tree → Proofs → List Tree
all_proved env hyps lets no_proofs = []
all_proved env hyps lets (more_proofs p ps) = proved env hyps lets p ∷ all_proved env hyps lets ps

-- the assertion T may be cited with these operands, of the proofs of these
abbrev pub IsCitable : List Declaration → List Binder → ℕ → Trees → List Tree → Type 0
IsCitable env ctx T es hs = (a : Assertion) × (slice_get (assertions env) T ≡ Some a) × Fits (signatures env) ctx es a.params × AreDisjoint ctx es a.params
    × (hs ≡ listed (instances es a.hyps)) × InReach (length (listed es)) a.conclusion × Sorted (signatures env) ctx (instance es a.conclusion)

-- the conversion goes from l to r, with gaps where they are let through
abbrev pub Goes : Bool → List Declaration → List Binder → Conversion → Tree → Tree → Type 0
Goes gaps env ctx c l r = Between env ctx c l r × GapsOnly (gaps ≡ true) c

abbrev pub AllGo : Bool → List Declaration → List Binder → Conversions → Trees → Trees → Type 0
AllGo gaps env ctx cs ls rs = AllBetween env ctx cs ls rs × AllGapsOnly (gaps ≡ true) cs

-- the proof proves what it says, and so do its lets, used or not; it has gaps where they are let through
abbrev mutual
  pub IsSound : Bool → List Declaration → List Binder → List Tree → List Tree → Proof → Type 0
  IsSound gaps env ctx hyps lets (by_hyp i) = i < length hyps
  IsSound gaps env ctx hyps lets (by_name i) = i < length lets
  IsSound gaps env ctx hyps lets (by_citation T es ps) = IsCitable env ctx T es (all_proved env hyps lets ps) × AreSound gaps env ctx hyps lets ps
  IsSound gaps env ctx hyps lets (by_conv e c p) = Goes gaps env ctx c e (proved env hyps lets p) × IsSound gaps env ctx hyps lets p
  IsSound gaps env ctx hyps lets (by_let p q) = IsSound gaps env ctx hyps lets p × IsSound gaps env ctx hyps (lets ++ proved env hyps lets p ∷ []) q
  IsSound gaps env ctx hyps lets (by_gap e) = (gaps ≡ true) × HasProvable env ctx e

  pub AreSound : Bool → List Declaration → List Binder → List Tree → List Tree → Proofs → Type 0
  AreSound gaps env ctx hyps lets no_proofs = ⊤
  AreSound gaps env ctx hyps lets (more_proofs p ps) = IsSound gaps env ctx hyps lets p × AreSound gaps env ctx hyps lets ps

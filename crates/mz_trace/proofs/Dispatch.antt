-- Each command has its clause, whatever its operand where none is looked at.
use Rattle.std.proofs.Common.{Result, ◌≡◌, arith, ℕ, refl, sym, ◌∙◌, subst, List, Ok, Option, Some, None, Bool, true, false}
use Rattle.std.specs.Prelude.{slice_get}
use Rattle.mz_cmd.specs.declared.rule.K.{K}
use Rattle.mz_cmd.specs.declared.rule.K.TheVariants as k
use Rattle.mz_cmd.specs.declared.code.ProofCode.{ProofCode}
use Rattle.mz_cmd.specs.declared.code.ProofCode.TheVariants as code
use Rattle.mz_logic_theory.specs.Tree.{Tree}
use Rattle.mz_logic_theory.specs.declared.binder.Binder.{Binder}
use Rattle.mz_machine_theory.specs.Profile.{strict, Item}
use Rattle.mz_machine_theory.specs.Steps.{◌>>=◌, ◌>>◌, need, want}
use Rattle.mz_machine_theory.specs.MachineState.{RowsBefore, State}
use Rattle.mz_machine_theory.specs.Premises.{is_conversion}
use Rattle.mz_machine_theory.specs.ProofMachine.{proof_step, referred}
use Rattle.mz_trace.specs.Traces.{Trace, traced}
use Rattle.mz_trace.specs.Commands.{Stage, Known, IsRead, state_of, trace_of, Goes, Leads}
use Rattle.mz_trace.specs.Sharing.{nodes_for}

-- c over n does what d over m does, wherever c goes through
abbrev pub DoesAs : (c : ProofCode) (n : ℕ) (d : ProofCode) (m : ℕ) → Type 0
DoesAs c n d m = ((tables : RowsBefore) (st st' : State Tree) → proof_step strict tables 0 c n st ≡ Ok st' → proof_step strict tables 0 d m st ≡ Ok st')
    × ((tables : RowsBefore) (st : State Tree) (tr : Trace) → traced tables d m st tr ≡ traced tables c n st tr)
    × (nodes_for d ≡ nodes_for c)

-- what is known carries over to Q
abbrev pub Lifts : List ℕ → Known → Type 0
Lifts file Q = (tables : RowsBefore) (params : List Binder) (s : Stage) → IsRead file tables params s → Q tables params s

module _ (file : List ℕ) (Q : Known) (lift : Lifts file Q) (b c d : ProofCode) (n m : ℕ) (is : b ≡ c) (as_d : DoesAs c n d m) (s : Stage) where
  pub goes-as : Goes (IsRead file) b n s → Goes Q d m s
  goes-as goes =
      let (tables, params, st, q, made, row) = subst (λ z. Goes (IsRead file) z n s) is goes in
      (tables, params, st, lift tables params s q, made, as_d.0 tables (state_of params s) st row)

  leads-c : (s' : Stage) → Leads Q d m s s' → Leads (IsRead file) c n s s'
  leads-c s' leads tables params st q made row =
      let (made1, state-is, trace-is, few) = leads tables params st (lift tables params s q) made (as_d.0 tables (state_of params s) st row) in
      (made1, state-is, sym (as_d.1 tables (state_of params s) (trace_of s)) ∙ trace-is, omega (arith, few, as_d.2))

  pub leads-as : (s' : Stage) → Leads Q d m s s' → Leads (IsRead file) b n s s'
  leads-as s' leads = subst (λ z. Leads (IsRead file) z n s s') (sym is) (leads-c s' leads)

-- the same command
pub itself : (c : ProofCode) (n : ℕ) → DoesAs c n c n
itself c n = (λ tables st st' row. row, λ tables st tr. refl, refl)

if-conversion : (b : Bool) (r : Result (State Tree) K) (st' : State Tree) → (need b k.Kind >> r) ≡ Ok st' → r ≡ Ok st'
if-conversion true r st' e = e
if-conversion false r st' e = absurd cc

conv-ref : (tables : RowsBefore) (st st' : State Tree) (n : ℕ) (o : Option (Item Tree)) → slice_get st.heap n ≡ o → proof_step strict tables 0 code.ConvRef n st ≡ Ok st' → proof_step strict tables 0 code.Ref n st ≡ Ok st'
unfolding proof_step
conv-ref tables st st' n None at row = absurd (let no : (want None k.HeapIndex >>= λ x. need (is_conversion x) k.Kind >> referred strict x st) ≡ Ok st' = subst (λ o. (want o k.HeapIndex >>= λ x. need (is_conversion x) k.Kind >> referred strict x st) ≡ Ok st') at row in cc)
conv-ref tables st st' n (Some x) at row =
    subst (λ o. (want o k.HeapIndex >>= λ x. referred strict x st) ≡ Ok st') (sym at)
    (if-conversion (is_conversion x) (referred strict x st) st' (subst (λ o. (want o k.HeapIndex >>= λ x. need (is_conversion x) k.Kind >> referred strict x st) ≡ Ok st') at row))

pub conv-ref-as : (n : ℕ) → DoesAs code.ConvRef n code.Ref n
unfolding traced
conv-ref-as n = (λ tables st st' row. conv-ref tables st st' n (slice_get st.heap n) refl row, λ tables st tr. refl, refl)

no-sorry : (tables : RowsBefore) (st st' : State Tree) (n : ℕ) → proof_step strict tables 0 code.Sorry n st ≡ Ok st' → ⊥
unfolding proof_step
no-sorry tables st st' n row = absurd cc

pub never-sorry : (file : List ℕ) (b : ProofCode) (n : ℕ) (s : Stage) → b ≡ code.Sorry → Goes (IsRead file) b n s → ⊥
never-sorry file b n s is goes =
    let (tables, params, st, q, made, row) = subst (λ z. Goes (IsRead file) z n s) is goes in no-sorry tables (state_of params s) st n row

-- ---- commands that look at no operand

pub hyp-as : (n : ℕ) → DoesAs code.Hyp n code.Hyp 0
unfolding proof_step traced
hyp-as n = (λ tables st st' row. row, λ tables st tr. refl, refl)

pub conv-as : (n : ℕ) → DoesAs code.Conv n code.Conv 0
unfolding proof_step traced
conv-as n = (λ tables st st' row. row, λ tables st tr. refl, refl)

pub refl-as : (n : ℕ) → DoesAs code.Refl n code.Refl 0
unfolding proof_step traced
refl-as n = (λ tables st st' row. row, λ tables st tr. refl, refl)

pub symm-as : (n : ℕ) → DoesAs code.Symm n code.Symm 0
unfolding proof_step traced
symm-as n = (λ tables st st' row. row, λ tables st tr. refl, refl)

pub cong-as : (n : ℕ) → DoesAs code.Cong n code.Cong 0
unfolding proof_step traced
cong-as n = (λ tables st st' row. row, λ tables st tr. refl, refl)

pub unfold-as : (n : ℕ) → DoesAs code.Unfold n code.Unfold 0
unfolding proof_step traced
unfold-as n = (λ tables st st' row. row, λ tables st tr. refl, refl)

pub conv_cut-as : (n : ℕ) → DoesAs code.ConvCut n code.ConvCut 0
unfolding proof_step traced
conv_cut-as n = (λ tables st st' row. row, λ tables st tr. refl, refl)

pub conv_save-as : (n : ℕ) → DoesAs code.ConvSave n code.ConvSave 0
unfolding proof_step traced
conv_save-as n = (λ tables st st' row. row, λ tables st tr. refl, refl)

pub save-as : (n : ℕ) → DoesAs code.Save n code.Save 0
unfolding proof_step traced
save-as n = (λ tables st st' row. row, λ tables st tr. refl, refl)

-- Answers that are handed on, with what holds of them beside.
use Rattle.std.proofs.Common.{◌≡◌, ℕ, List, [], Result, Ok, Err, refl, sym, arith}
use Rattle.std.proofs.lemmas.List.{append-nil}
use Rattle.std.specs.Prelude.{⊤, IsTrue, OnOk, MatchResult}
use Rattle.mz_cmd.specs.declared.rule.K.{K}
use Rattle.mz_logic_theory.specs.Tree.{Tree}
use Rattle.mz_logic_theory.specs.Signature.{Signature}
use Rattle.mz_store.specs.Sharing.{Sharing, IsOver}
use Rattle.mz_machine_theory.specs.Profile.{Profile}
use Rattle.mz_machine_theory.specs.MachineState.{RowsBefore, State}
use Rattle.mz_machine_theory.specs.Bodies.{row_steps}
use Rattle.mz_machine_env.specs.CommandCodes.{code_of_making}
use Rattle.mz_machine_env.specs.declared.command.Making.{Making}
use Rattle.mz_machine_env.specs.declared.command.Making.TheVariants as making
use Rattle.mz_unify.specs.Rows.{StopsBy}
use Rattle.mz_unify.specs.declared.stop.Stop.{Stop}
use Rattle.mz_unify.specs.declared.stop.Stop.TheVariants.{Rule, Mem}
use Rattle.mz_machine.specs.declared.command.Keeping.{Keeping}
use Rattle.mz_machine.specs.declared.command.Keeping.TheVariants as keeping
use Rattle.mz_machine.specs.Steps.{takes_none}
use Rattle.mz_machine.specs.OverStore.{code_of_keeping, Gives, GivesRule, Grows, NeverWants}
use Rattle.mz_machine.proofs.Dummies.{no-dummies}
use Rattle.mz_machine.proofs.GapRows.{rule-not-mem}

pub on-ok : {A F P : Type 0} (result : Result A F) → P → OnOk result P
on-ok (Ok x) p = p
on-ok (Err f) p = tt

pub on-both : {A F P Q R : Type 0} (result : Result A F) → (P → Q → R) → OnOk result P → OnOk result Q → OnOk result R
on-both (Ok x) both p q = both p q
on-both (Err f) both p q = tt

pub on-three : {A F P Q R S : Type 0} (result : Result A F) → (P → Q → R → S) → OnOk result P → OnOk result Q → OnOk result R → OnOk result S
on-three (Ok x) all p q r = all p q r
on-three (Err f) all p q r = tt

-- ---- what only a rule can stop

abbrev pub IsByRule : {A : Type 0} → Result A K → Result A Stop → Type 0
IsByRule answer result = MatchResult answer (λ done. result ≡ Ok done) (λ rule. result ≡ Err (Rule rule))

pub ruled-gives : {A B : Type 0} (answer : Result A K) (result : Result A Stop) (row : Result B K) (value : A → B) → IsByRule answer result → GivesRule row answer value → Gives row result value
ruled-gives (Ok x) result row value is h = rw is h
ruled-gives (Err d) result row value is h = rw is h

pub ruled-ok : {A : Type 0} (answer : Result A K) (result : Result A Stop) (P : Type 0) → IsByRule answer result → OnOk answer P → OnOk result P
ruled-ok (Ok x) result P is p = rw is p
ruled-ok (Err d) result P is p = rw is tt

pub ruled-never : {A : Type 0} (answer : Result A K) (result : Result A Stop) → IsByRule answer result → NeverWants result
ruled-never (Ok x) result is = rw is tt
ruled-never (Err d) result is = rw is (rule-not-mem d)

-- ---- what only running out of memory can stop

pub pushed-gives : {A B : Type 0} (result : Result A Stop) (row : Result B K) (value : B) → OnOk result (row ≡ Ok value) → MatchResult result (λ _. ⊤) (λ stop. StopsBy stop (λ _. ⊥))
    → Gives row result (λ _. value)
pushed-gives (Ok x) row value is err = is
pushed-gives (Err Mem) row value is err = tt
pushed-gives (Err (Rule d)) row value is err = absurd err

pub memory-stops : {B : Type 0} (stop : Stop) (row : Result B K) → StopsBy stop (λ _. ⊥) → StopsBy stop (λ d. row ≡ Err d)
memory-stops Mem row err = tt
memory-stops (Rule d) row err = absurd err

pub memory-unless : (stop : Stop) (P : Type 0) → StopsBy stop (λ _. ⊥) → StopsBy stop (λ _. P)
memory-unless Mem P err = tt
memory-unless (Rule d) P err = absurd err

-- ---- commands

-- a command that makes something may run out of memory
pub making-takes : (m : Making) (n : ℕ) (st : State Tree) → IsTrue (takes_none (code_of_making m) n st) → ⊥
making-takes making.Term n st is = cc
making-takes making.TermSave n st is = cc
making-takes making.Thm n st is = cc
making-takes making.ThmSave n st is = cc

-- one over the heap runs no stream
pub keeping-steps : (P : Profile) (tables : RowsBefore) (k : Keeping) (n : ℕ) (st : State P.T) → row_steps P tables (code_of_keeping k) n st ≡ 0
keeping-steps P tables keeping.Ref n st = refl
keeping-steps P tables keeping.ConvRef n st = refl
keeping-steps P tables keeping.Dummy n st = refl
keeping-steps P tables keeping.Hyp n st = refl
keeping-steps P tables keeping.Save n st = refl

-- a store that stays as it is
pub grows-not : (sigs : List Signature) (s : Sharing) → IsOver sigs s → Grows sigs s s
grows-not sigs s over = record { keeps = ([], sym (append-nil s.entries), omega arith); over = over; mode = refl; context = ([], sym (append-nil s.context), no-dummies) }

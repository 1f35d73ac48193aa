-- Whole files whose verdict is known from outside: the statement, the place and the rule of the first fault, and how
-- many commands are executed.
use Rattle.std.specs.Prelude.{◌≡◌, ℕ, List, [], ◌∷◌, take, Option, Some, None, Result, Ok, Err}
use Rattle.mz_cmd.specs.declared.rule.K.{K}
use Rattle.mz_cmd.specs.declared.rule.K.TheVariants as k
use Rattle.mz_cmd.specs.declared.rule.Refusal.{Refusal}
use Rattle.mz_machine_theory.specs.WorkedRuns.{with_byte}
use Rattle.mz_binary_theory.specs.Standards.{strict_standard, draft_standard}
use Rattle.mz_binary_theory.specs.FileRun.{run_file, file_steps}
use Rattle.mz_binary_theory.specs.Files.{with_bytes, without, one, empty, imp, gen, fold, saved, dummy, bound_inside}

abbrev pub fault_of : {A : Type 0} → Result A Refusal → Option Refusal
fault_of (Ok x) = None
fault_of (Err r) = Some r

abbrev pub refused : ℕ → ℕ → K → Option Refusal
refused = λ n at rule. Some (record { statement = n; at = at; rule = rule })

abbrev pub first_fault : List ℕ → Option Refusal
first_fault file = fault_of (run_file strict_standard file)

abbrev pub first_fault_of_draft : List ℕ → Option Refusal
first_fault_of_draft file = fault_of (run_file draft_standard file)

-- a gap is refused, and let through in a draft
abbrev pub Gaps : Type 0
Gaps = (first_fault (with_byte 157 0x20 fold) ≡ refused 4 157 k.Sorry) × (first_fault_of_draft (with_byte 157 0x20 fold) ≡ None) × (first_fault_of_draft fold ≡ None)

-- good files
abbrev pub AcceptedFiles : Type 0
AcceptedFiles =
    (first_fault one ≡ None)
    × (first_fault empty ≡ None)
    × (first_fault imp ≡ None)
    × (first_fault (with_byte 104 0x01 gen) ≡ None)
    × (first_fault fold ≡ None)
    × (first_fault (with_byte 139 0x12 (without 150 153 fold)) ≡ None)
    × (first_fault saved ≡ None)
    × (first_fault (with_bytes 72 (0x02 ∷ 0x00 ∷ 0x00 ∷ 0x00 ∷ 0x00 ∷ 0x00 ∷ 0x00 ∷ 0x81 ∷ []) (with_bytes 64 (0x01 ∷ 0x00 ∷ 0x00 ∷ 0x00 ∷ 0x00 ∷ 0x00 ∷ 0x00 ∷ 0x81 ∷ []) dummy)) ≡ None)

-- files that are cut
abbrev pub CutFiles : Type 0
CutFiles =
    (first_fault (take 39 one) ≡ refused 0 39 k.Header)
    × (first_fault (take 49 one) ≡ refused 1 48 k.Command)
    × (first_fault (with_byte 49 0x00 one) ≡ refused 1 48 k.StatementLength)
    × (first_fault (take 50 one) ≡ refused 2 50 k.Command)
    × (first_fault (take 100 imp) ≡ refused 0 24 k.Table)
    × (first_fault (take 237 imp) ≡ refused 6 237 k.Command)

-- header, tables, and the places that they name
abbrev pub HeadersChanged : Type 0
HeadersChanged =
    (first_fault (with_byte 0 0x00 one) ≡ refused 0 0 k.Header)
    × (first_fault (with_byte 4 0x02 one) ≡ refused 0 4 k.Header)
    × (first_fault (with_byte 5 0x81 one) ≡ refused 0 5 k.Header)
    × (first_fault (with_byte 24 0x33 one) ≡ refused 1 51 k.Command)
    × (first_fault (with_byte 27 0x01 one) ≡ refused 0 24 k.Table)
    × (first_fault (with_byte 49 0x04 one) ≡ refused 1 48 k.StatementLength)
    × (first_fault (with_byte 55 0xFF imp) ≡ refused 0 48 k.Table)
    × (first_fault (with_byte 12 0x04 imp) ≡ refused 6 237 k.RowsLeft)
    × (first_fault (with_byte 20 0xEF imp) ≡ refused 0 20 k.Table)
    × (first_fault (with_byte 16 0xE8 imp) ≡ refused 0 16 k.Table)
    × (first_fault (with_byte 60 0xE8 imp) ≡ refused 0 56 k.Table)

-- kinds, rows and their words
abbrev pub RowsChanged : Type 0
RowsChanged =
    (first_fault (with_byte 184 0x0A imp) ≡ refused 1 184 k.StatementKind)
    × (first_fault (with_byte 186 0x44 imp) ≡ refused 2 186 k.NoRow)
    × (first_fault (with_byte 186 0x4D imp) ≡ refused 2 186 k.StatementKind)
    × (first_fault (with_byte 95 0x01 imp) ≡ refused 2 88 k.Binder)
    × (first_fault (with_byte 80 0x01 imp) ≡ refused 2 80 k.Binder)
    × (first_fault (with_byte 103 0x01 imp) ≡ refused 2 96 k.Result)
    × (first_fault (with_byte 79 0x82 gen) ≡ refused 3 72 k.Binder)
    × (first_fault (with_byte 72 0x02 gen) ≡ refused 3 72 k.Binder)
    × (first_fault (with_byte 80 0x02 gen) ≡ refused 3 80 k.Binder)
    × (first_fault (with_byte 76 0x68 imp) ≡ refused 5 236 k.UnifyReference)
    × (first_fault (with_byte 76 0xDE imp) ≡ refused 5 222 k.Binder)
    × (first_fault (with_byte 50 0x01 imp) ≡ refused 2 96 k.Result)
    × (first_fault (with_byte 40 0x05 imp) ≡ refused 2 96 k.Result)
    × (first_fault (with_byte 41 0x02 gen) ≡ refused 3 72 k.Binder)
    × (first_fault (with_byte 41 0x08 dummy) ≡ refused 4 112 k.DummySort)

-- bodies
abbrev pub BodiesChanged : Type 0
BodiesChanged =
    (first_fault (with_bytes 213 (0x52 ∷ 0x02 ∷ 0x12 ∷ 0x52 ∷ 0x01 ∷ 0x12 ∷ 0x52 ∷ 0x01 ∷ 0x12 ∷ 0x10 ∷ 0x10 ∷ 0x14 ∷ []) imp) ≡ refused 5 234 k.UnifyReference)
    × (first_fault (with_byte 235 0x02 imp) ≡ refused 5 234 k.TheoremIndex)
    × (first_fault gen ≡ refused 5 174 k.Disjoint)
    × (first_fault bound_inside ≡ refused 5 188 k.Disjoint)
    × (first_fault (with_byte 139 0x14 (without 157 158 fold)) ≡ refused 4 157 k.FinalStack)
    × (first_fault (with_byte 139 0x23 (without 167 168 saved)) ≡ refused 4 167 k.ConversionReference)
    × (first_fault (with_byte 157 0x1E saved) ≡ refused 4 157 k.Kind)
    × (first_fault dummy ≡ refused 4 116 k.DefinitionDependencies)
    × (first_fault (with_bytes 96 (0x30 ∷ 0x73 ∷ 0x01 ∷ 0x73 ∷ 0x01 ∷ 0x00 ∷ []) (with_bytes 72 (0x02 ∷ 0x00 ∷ 0x00 ∷ 0x00 ∷ 0x00 ∷ 0x00 ∷ 0x00 ∷ 0x81 ∷ []) (with_bytes 64 (0x01 ∷ 0x00 ∷ 0x00 ∷ 0x00 ∷ 0x00 ∷ 0x00 ∷ 0x00 ∷ 0x81 ∷ []) dummy))) ≡ refused 4 116 k.UnifyDummy)
    × (first_fault (with_byte 190 0x18 imp) ≡ refused 3 190 k.Command)
    × (first_fault (with_byte 139 0x14 fold) ≡ refused 4 158 k.Command)
    × (first_fault (with_byte 139 0x16 fold) ≡ refused 4 158 k.StatementLength)
    × (first_fault (with_byte 190 0x10 imp) ≡ refused 3 190 k.Underflow)
    × (first_fault (with_byte 190 0x52 imp) ≡ refused 3 190 k.HeapIndex)
    × (first_fault (with_byte 190 0x50 imp) ≡ refused 3 190 k.TermIndex)
    × (first_fault (with_byte 190 0x53 imp) ≡ refused 3 190 k.DummySort)
    × (first_fault (with_byte 211 0x1D imp) ≡ refused 5 211 k.Kind)
    × (first_fault (with_byte 155 0x13 gen) ≡ refused 4 158 k.OperandSort)
    × (first_fault (with_byte 156 0x16 gen) ≡ refused 4 156 k.NotProvable)
    × (first_fault (with_byte 194 0x16 imp) ≡ refused 3 196 k.UnifyTerm)
    × (first_fault (with_byte 126 0x36 imp) ≡ refused 3 196 k.UnifyHypothesis)
    × (first_fault (with_byte 146 0x00 imp) ≡ refused 4 208 k.UnifyRest)
    × (first_fault (with_byte 194 0x00 imp) ≡ refused 3 194 k.StatementLength)
    × (first_fault (with_byte 120 0x33 imp) ≡ refused 3 196 k.Command)
    × (first_fault (with_byte 104 0x36 fold) ≡ refused 3 137 k.Command)
    × (first_fault (with_byte 141 0x12 fold) ≡ refused 4 157 k.Refl)
    × (first_fault (with_byte 150 0x1A fold) ≡ refused 4 150 k.Cong)
    × (first_fault (with_byte 150 0x13 fold) ≡ refused 4 156 k.Unfold)
    × (first_fault (with_byte 150 0x1F fold) ≡ refused 4 150 k.SaveKind)

-- the commands executed, up to the first fault
abbrev pub StepsOfFiles : Type 0
StepsOfFiles =
    (file_steps strict_standard one ≡ 0)
    × (file_steps strict_standard imp ≡ 68)
    × (file_steps strict_standard (with_byte 104 0x01 gen) ≡ 34)
    × (file_steps strict_standard gen ≡ 21)
    × (file_steps strict_standard fold ≡ 35)
    × (file_steps strict_standard saved ≡ 47)
    × (file_steps strict_standard (with_bytes 72 (0x02 ∷ 0x00 ∷ 0x00 ∷ 0x00 ∷ 0x00 ∷ 0x00 ∷ 0x00 ∷ 0x81 ∷ []) (with_bytes 64 (0x01 ∷ 0x00 ∷ 0x00 ∷ 0x00 ∷ 0x00 ∷ 0x00 ∷ 0x00 ∷ 0x81 ∷ []) dummy)) ≡ 8)
    × (file_steps strict_standard dummy ≡ 4)
    × (file_steps strict_standard (with_byte 190 0x14 imp) ≡ 1)
    × (file_steps strict_standard (with_byte 190 0x00 imp) ≡ 0)
    × (file_steps strict_standard (with_byte 76 0xDE imp) ≡ 28)

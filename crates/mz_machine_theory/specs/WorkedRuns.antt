-- Worked bodies: how many commands each executes, and what stops it with one byte changed. The counts, the
-- rules and the places are known from outside. A place is one of the file in which the body stands.
use Rattle.std.specs.Prelude.{◌≡◌, ℕ, ◌+◌, ◌-◌, List, [], ◌∷◌, ◌++◌, take, drop, Option, Some, None}
use Rattle.mz_cmd.specs.declared.rule.K.{K}
use Rattle.mz_cmd.specs.declared.rule.K.TheVariants as k
use Rattle.mz_logic_theory.specs.declared.binder.Binder.{Binder}
use Rattle.mz_machine_theory.specs.Profile.{strict}
use Rattle.mz_machine_theory.specs.MachineState.{RowsBefore, Heading}
use Rattle.mz_machine_theory.specs.Bodies.{body_steps}
use Rattle.mz_machine_theory.specs.Examples.{verdict, regular, bound, of_sort, assertion, definition, axiom_body, theorem_body, definition_body, ax_1_stream, ax_mp_stream, a1i_stream, before_ax_1, before_ax_mp, before_a1i, ax_v_stream, gen_stream, before_gen, negation, nn_stream, fold_stream, before_nn, before_fold, two_bound, one_dummy_stream, before_dummy, dummy_body}

-- a body, whose bytes begin at a place, with its heading and the rows before it
pub record Case : Type 0 where
  pub tables : RowsBefore
  pub heading : Heading
  pub at : ℕ
  pub bytes : List ℕ

-- where it stops, and by which rule; nothing where it runs
abbrev pub stop : Case → Option (ℕ × K)
stop c = verdict c.tables c.heading c.at c.bytes

abbrev pub count : Case → ℕ
count c = body_steps strict c.tables c.heading c.at c.bytes

-- the i-th byte is this one
abbrev pub with_byte : ℕ → ℕ → List ℕ → List ℕ
with_byte i value bytes = take i bytes ++ value ∷ drop (i + 1) bytes

-- the byte at a place of the body is this one
abbrev pub with_code : ℕ → ℕ → Case → Case
with_code place value c = record c { bytes = with_byte (place - c.at) value c.bytes }

-- of the row's own stream, the i-th byte is this one
abbrev pub with_own_stream : ℕ → ℕ → Case → Case
with_own_stream i value c = record c { heading = record c.heading { stream = with_byte i value c.heading.stream } }

-- ---- bodies that run

abbrev pub two : List Binder
two = regular 0 [] ∷ regular 0 [] ∷ []

abbrev pub ax_1 : Case
ax_1 = record { tables = before_ax_1; heading = axiom_body two ax_1_stream; at = 190; bytes = 0x12 ∷ 0x52 ∷ 0x01 ∷ 0x12 ∷ 0x10 ∷ 0x10 ∷ 0x00 ∷ [] }

abbrev pub ax_mp : Case
ax_mp = record { tables = before_ax_mp; heading = axiom_body two ax_mp_stream; at = 199; bytes = 0x12 ∷ 0x52 ∷ 0x01 ∷ 0x10 ∷ 0x16 ∷ 0x12 ∷ 0x16 ∷ 0x52 ∷ 0x01 ∷ 0x00 ∷ [] }

abbrev pub a1i : Case
a1i = record {
  tables = before_a1i;
  heading = theorem_body two a1i_stream;
  at = 211;
  bytes = 0x12 ∷ 0x16 ∷ 0x12 ∷ 0x52 ∷ 0x01 ∷ 0x12 ∷ 0x52 ∷ 0x01 ∷ 0x12 ∷ 0x10 ∷ 0x10 ∷ 0x14 ∷ 0x52 ∷ 0x02 ∷ 0x12 ∷ 0x52 ∷ 0x01 ∷ 0x12 ∷ 0x10 ∷ 0x52 ∷ 0x01 ∷ 0x12 ∷ 0x10 ∷ 0x54 ∷ 0x01 ∷ 0x00 ∷ [];
}

-- the axiom from p to (all x p), for {x: nat} (p: wff), where p depends on x or not
abbrev pub ax_v : List ℕ → Case
ax_v deps = record { tables = record (before_gen []) { thms = [] }; heading = axiom_body (bound 1 ∷ regular 0 deps ∷ []) ax_v_stream; at = 152; bytes = 0x52 ∷ 0x01 ∷ 0x16 ∷ 0x12 ∷ 0x52 ∷ 0x01 ∷ 0x10 ∷ 0x00 ∷ [] }

-- and the theorem that generalizes by it
abbrev pub gen : List ℕ → Case
gen deps = record {
  tables = before_gen deps;
  heading = theorem_body (bound 1 ∷ regular 0 (0 ∷ []) ∷ []) gen_stream;
  at = 162;
  bytes = 0x52 ∷ 0x01 ∷ 0x16 ∷ 0x52 ∷ 0x02 ∷ 0x12 ∷ 0x52 ∷ 0x01 ∷ 0x12 ∷ 0x52 ∷ 0x01 ∷ 0x10 ∷ 0x14 ∷ 0x00 ∷ [];
}

abbrev pub nn : Case
nn = record { tables = before_nn; heading = definition_body (regular 0 [] ∷ []) (of_sort 0 []) nn_stream; at = 134; bytes = 0x12 ∷ 0x10 ∷ 0x10 ∷ 0x00 ∷ [] }

abbrev pub fold : Case
fold = record {
  tables = before_fold;
  heading = theorem_body (regular 0 [] ∷ []) fold_stream;
  at = 140;
  bytes = 0x12 ∷ 0x10 ∷ 0x10 ∷ 0x16 ∷ 0x12 ∷ 0x50 ∷ 0x01 ∷ 0x52 ∷ 0x01 ∷ 0x17 ∷ 0x12 ∷ 0x50 ∷ 0x01 ∷ 0x12 ∷ 0x10 ∷ 0x10 ∷ 0x1B ∷ 0x18 ∷ 0x00 ∷ [];
}

-- the conversion is cut, saved, and used again, turned
abbrev pub saved : Case
saved = record fold {
  bytes = 0x12 ∷ 0x10 ∷ 0x10 ∷ 0x16 ∷ 0x12 ∷ 0x50 ∷ 0x01 ∷ 0x12 ∷ 0x10 ∷ 0x10 ∷ 0x12 ∷ 0x50 ∷ 0x01 ∷ 0x52 ∷ 0x01 ∷ 0x17 ∷ 0x1C ∷ 0x12 ∷ 0x50 ∷ 0x01 ∷ 0x12 ∷ 0x10 ∷ 0x10 ∷ 0x1B ∷ 0x18 ∷ 0x1E ∷ 0x17 ∷ 0x19 ∷ 0x52 ∷ 0x02 ∷ 0x17 ∷ 0x5D ∷ 0x02 ∷ 0x00 ∷ [];
}

-- a definition with a dummy
abbrev pub dummy : Case
dummy = record { tables = before_dummy two_bound; heading = dummy_body one_dummy_stream; at = 112; bytes = 0x53 ∷ 0x01 ∷ 0x12 ∷ 0x10 ∷ 0x00 ∷ [] }

-- ---- steps

-- the commands executed, of a body and of the streams that it runs
abbrev pub Counts : Type 0
Counts =
    (count ax_1 ≡ 12) × (count ax_mp ≡ 16) × (count a1i ≡ 40)
    × (count (ax_v (0 ∷ [])) ≡ 12) × (count (gen (0 ∷ [])) ≡ 22)
    × (count nn ≡ 8) × (count fold ≡ 27) × (count saved ≡ 39) × (count dummy ≡ 8)

-- and where a rule fails: up to the one that is refused; one of another body counts, and an END that
-- doesn't end its statement doesn't
abbrev pub CountsToFault : Type 0
CountsToFault =
    (count (gen []) ≡ 9)
    × (count (with_code 190 0x14 ax_1) ≡ 1)
    × (count (with_code 190 0x00 ax_1) ≡ 0)

-- ---- one byte changed

abbrev pub Run : Type 0
Run = (stop ax_1 ≡ None) × (stop ax_mp ≡ None) × (stop a1i ≡ None) × (stop (ax_v []) ≡ None) × (stop (gen (0 ∷ [])) ≡ None) × (stop nn ≡ None) × (stop fold ≡ None) × (stop saved ≡ None) × (stop dummy ≡ None)

-- in a body's commands
abbrev pub CodesChanged : Type 0
CodesChanged =
    (stop (with_code 190 0x10 ax_1) ≡ Some (190, k.Underflow))
    × (stop (with_code 190 0x52 ax_1) ≡ Some (190, k.HeapIndex))
    × (stop (with_code 190 0x50 ax_1) ≡ Some (190, k.TermIndex))
    × (stop (with_code 190 0x53 ax_1) ≡ Some (190, k.DummySort))
    × (stop (with_code 194 0x16 ax_1) ≡ Some (196, k.UnifyTerm))
    × (stop (with_code 194 0x00 ax_1) ≡ Some (194, k.StatementLength))
    × (stop (with_code 211 0x1D a1i) ≡ Some (211, k.Kind))
    × (stop (with_code 157 0x1E saved) ≡ Some (157, k.Kind))
    × (stop (with_code 155 0x13 (ax_v [])) ≡ Some (158, k.OperandSort))
    × (stop (with_code 156 0x16 (ax_v [])) ≡ Some (156, k.NotProvable))
    × (stop (with_code 141 0x12 fold) ≡ Some (157, k.Refl))
    × (stop (with_code 150 0x1A fold) ≡ Some (150, k.Cong))
    × (stop (with_code 150 0x13 fold) ≡ Some (156, k.Unfold))
    × (stop (with_code 150 0x1F fold) ≡ Some (150, k.SaveKind))

-- in a stream: at the row's own END, and in a citation or an unfolding
abbrev pub StreamsChanged : Type 0
StreamsChanged =
    (stop (with_own_stream 6 0x36 ax_1) ≡ Some (196, k.UnifyHypothesis))
    × (stop (with_own_stream 2 0x00 ax_mp) ≡ Some (208, k.UnifyRest))
    × (stop (with_own_stream 0 0x33 ax_1) ≡ Some (196, k.Command))
    × (stop (record a1i { tables = record before_a1i { thms = assertion two (with_byte 0 0x33 ax_1_stream) ∷ assertion two ax_mp_stream ∷ [] } }) ≡ Some (222, k.Command))
    × (stop (with_own_stream 0 0x36 nn) ≡ Some (137, k.Command))
    × (stop (record fold { tables = record before_fold { terms = negation ∷ definition (regular 0 [] ∷ []) (of_sort 0 []) (with_byte 0 0x36 nn_stream) ∷ [] } }) ≡ Some (156, k.Command))

-- an END with an operand
abbrev pub LongEnd : Type 0
LongEnd = stop (record ax_1 { bytes = take 6 ax_1.bytes ++ 0x40 ∷ 0x05 ∷ [] }) ≡ None

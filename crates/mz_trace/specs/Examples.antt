-- Worked bodies and the proofs that they make, known from outside.
use Rattle.std.specs.Prelude.{◌≡◌, List, [], ◌∷◌, None, Result, Ok}
use Rattle.mz_cmd.specs.declared.rule.K.{K}
use Rattle.mz_logic_theory.specs.Tree.{Tree, Trees, var, app, none, more}
use Rattle.mz_logic_theory.specs.Conversions.{Conversion, refl_conv, sym_conv, cong_conv, unfold_conv, no_convs, more_convs}
use Rattle.mz_mmu_theory.specs.Proof.{Proof, by_hyp, by_name, by_citation, by_conv, no_proofs, more_proofs}
use Rattle.mz_machine_theory.specs.Steps.{◌>>=◌}
use Rattle.mz_machine_theory.specs.Examples.{regular, of_sort, definition, theorem_body, for_all, before_ax_1}
use Rattle.mz_machine_theory.specs.WorkedRuns.{Case, stop, with_code, two, a1i, gen, fold, saved}
use Rattle.mz_trace.specs.OneHoleContexts.{Part, proved}
use Rattle.mz_trace.specs.Traces.{trace_body}

-- what is left beside the stack, and the proofs that have got a name
abbrev pub made_by : Case → Result (List Part × List Proof) K
made_by c = trace_body c.tables c.heading c.bytes >>= λ last. Ok (last.1.stack, last.1.lets)

-- the body runs, and makes this proof behind these
abbrev pub Makes : Case → List Proof → Proof → Type 0
Makes c lets root = (stop c ≡ None) × (made_by c ≡ Ok (proved root ∷ [], lets))

abbrev pub one : Tree → Trees
one e = more e none

abbrev pub both : Tree → Tree → Trees
both e f = more e (more f none)

-- ---- citations

abbrev pub ax_1_cited : Proof
ax_1_cited = by_citation 0 (both (var 0) (var 1)) no_proofs

abbrev pub ax_mp_cited : Proof → Proof → Proof
ax_mp_cited p q = by_citation 1 (both (var 0) (app 0 (both (var 1) (var 0)))) (more_proofs p (more_proofs q no_proofs))

-- what is cited, and the hypothesis, are saved once they are on the stack
abbrev pub each_saved : Case
each_saved = record a1i {
  bytes =
      0x12 ∷ 0x16 ∷ 0x12 ∷ 0x52 ∷ 0x01 ∷ 0x12 ∷ 0x52 ∷ 0x01 ∷ 0x12 ∷ 0x10 ∷ 0x10 ∷ 0x14 ∷ 0x1F ∷ 0x52 ∷ 0x02 ∷ 0x1F
      ∷ 0x12 ∷ 0x52 ∷ 0x01 ∷ 0x12 ∷ 0x10 ∷ 0x52 ∷ 0x01 ∷ 0x12 ∷ 0x10 ∷ 0x54 ∷ 0x01 ∷ 0x00 ∷ [];
}

-- subproofs come in the order of the hypotheses; what is saved has a name from then on, be it a hypothesis
abbrev pub Citations : Type 0
Citations =
    Makes a1i [] (ax_mp_cited ax_1_cited (by_hyp 0))
    × Makes (with_code 222 0x15 a1i) (ax_1_cited ∷ []) (ax_mp_cited (by_name 0) (by_hyp 0))
    × Makes each_saved (ax_1_cited ∷ by_hyp 0 ∷ []) (ax_mp_cited (by_name 0) (by_name 1))
    × Makes (gen (0 ∷ [])) [] (by_citation 0 (both (var 0) (var 1)) (more_proofs (by_hyp 0) no_proofs))

-- ---- conversions

abbrev pub negated : Tree → Tree
negated e = app 0 (one e)

abbrev pub folded : Tree
folded = app 1 (one (var 0))

abbrev pub step : Conversion
step = unfold_conv 1 (one (var 0)) [] (refl_conv (negated (negated (var 0))))

abbrev pub once : Proof
once = by_conv folded step (by_hyp 0)

-- a saved conversion's tree stands wherever it is used
abbrev pub Unfoldings : Type 0
Unfoldings =
    Makes fold [] once
    × Makes saved [] (by_conv folded step (by_conv (negated (negated (var 0))) (sym_conv step) once))

-- from a negated expression to the same, folded below the negation
abbrev pub below : Case
below = record fold {
  heading = theorem_body (regular 0 [] ∷ []) (0x30 ∷ 0x70 ∷ 0x01 ∷ 0x32 ∷ 0x36 ∷ 0x30 ∷ 0x30 ∷ 0x30 ∷ 0x32 ∷ 0x00 ∷ []);
  bytes = 0x12 ∷ 0x10 ∷ 0x10 ∷ 0x10 ∷ 0x16 ∷ 0x12 ∷ 0x50 ∷ 0x01 ∷ 0x10 ∷ 0x52 ∷ 0x01 ∷ 0x17 ∷ 0x1A ∷ 0x12 ∷ 0x50 ∷ 0x01 ∷ 0x12 ∷ 0x10 ∷ 0x10 ∷ 0x1B ∷ 0x18 ∷ 0x00 ∷ [];
}

-- an implication to itself, operand by operand
abbrev pub operands : Case
operands = record {
  tables = before_ax_1;
  heading = theorem_body two (0x30 ∷ 0x32 ∷ 0x72 ∷ 0x01 ∷ 0x36 ∷ 0x30 ∷ 0x32 ∷ 0x72 ∷ 0x01 ∷ 0x00 ∷ []);
  at = 0;
  bytes = 0x12 ∷ 0x52 ∷ 0x01 ∷ 0x10 ∷ 0x16 ∷ 0x12 ∷ 0x52 ∷ 0x01 ∷ 0x10 ∷ 0x52 ∷ 0x02 ∷ 0x17 ∷ 0x1A ∷ 0x18 ∷ 0x18 ∷ 0x00 ∷ [];
}

-- operands come in their order
abbrev pub Congruences : Type 0
Congruences =
    Makes below [] (by_conv (negated folded) (cong_conv 0 (more_convs step no_convs)) (by_hyp 0))
    × Makes operands [] (by_conv (app 0 (both (var 0) (var 1))) (cong_conv 0 (more_convs (refl_conv (var 0)) (more_convs (refl_conv (var 1)) no_convs))) (by_hyp 0))

-- A definition with a dummy: for all x, p. It is unfolded to a dummy of the body, and folded again.
abbrev pub with_dummy : Case
with_dummy = record {
  tables = record { sorts = record { 0 = 4 } ∷ record { 0 = 0 } ∷ []; terms = for_all ∷ definition (regular 0 [] ∷ []) (of_sort 0 []) (0x30 ∷ 0x73 ∷ 0x01 ∷ 0x32 ∷ 0x00 ∷ []) ∷ []; thms = [] };
  heading = theorem_body (regular 0 [] ∷ []) (0x70 ∷ 0x01 ∷ 0x32 ∷ 0x36 ∷ 0x70 ∷ 0x01 ∷ 0x32 ∷ 0x00 ∷ []);
  at = 0;
  bytes =
      0x12 ∷ 0x50 ∷ 0x01 ∷ 0x16 ∷ 0x12 ∷ 0x50 ∷ 0x01 ∷ 0x53 ∷ 0x01 ∷ 0x12 ∷ 0x10 ∷ 0x52 ∷ 0x01 ∷ 0x17 ∷ 0x19
      ∷ 0x12 ∷ 0x50 ∷ 0x01 ∷ 0x52 ∷ 0x02 ∷ 0x12 ∷ 0x10 ∷ 0x1B ∷ 0x18 ∷ 0x17 ∷ 0x52 ∷ 0x02 ∷ 0x12 ∷ 0x10 ∷ 0x1B ∷ 0x18 ∷ 0x00 ∷ [];
}

abbrev pub Dummies : Type 0
Dummies =
    let all : Tree = app 0 (both (var 1) (var 0)) in
    let c : Conversion = unfold_conv 1 (one (var 0)) (1 ∷ []) (refl_conv all) in
    Makes with_dummy [] (by_conv folded c (by_conv all (sym_conv c) (by_hyp 0)))

-- Bodies by identity whose outcome is known from outside. A place is one of the file in which the body stands.
use Rattle.std.specs.Prelude.{◌≡◌, ℕ, List, [], ◌∷◌, Option, Some, None}
use Rattle.mz_cmd.specs.declared.rule.K.{K}
use Rattle.mz_cmd.specs.declared.rule.K.TheVariants as k
use Rattle.mz_logic_theory.specs.Tree.{Tree, var, app, none, more}
use Rattle.mz_machine_theory.specs.Bodies.{body_run}
use Rattle.mz_machine_theory.specs.Examples.{outcome, dummy_body}
use Rattle.mz_machine_theory.specs.WorkedRuns.{Case, stop, with_code, ax_1, ax_mp, a1i, gen, nn, fold, saved, dummy}
use Rattle.mz_pmachine_theory.specs.NodeIdentity.{portable}
use Rattle.mz_pmachine_theory.specs.SharedBuilding.{portable_trees, body_makes}

-- where a body stops by identity, and by which rule; nothing where it runs
abbrev pub stop_by_identity : Case → Option (ℕ × K)
stop_by_identity c = outcome (body_run portable c.tables c.heading c.at c.bytes)

-- it runs by the standard machine, and by identity this rule fails at this place
abbrev pub IsStrictAlone : Case → ℕ → K → Type 0
IsStrictAlone c place rule = (stop c ≡ None) × (stop_by_identity c ≡ Some (place, rule))

-- ---- accepted: what is used twice is saved

abbrev pub shared_a1i : Case
shared_a1i = record a1i {
  bytes = 0x12 ∷ 0x16 ∷ 0x12 ∷ 0x52 ∷ 0x01 ∷ 0x12 ∷ 0x52 ∷ 0x01 ∷ 0x12 ∷ 0x11 ∷ 0x10 ∷ 0x14 ∷ 0x52 ∷ 0x02 ∷ 0x12 ∷ 0x52 ∷ 0x03 ∷ 0x52 ∷ 0x03 ∷ 0x54 ∷ 0x01 ∷ 0x00 ∷ [];
}

abbrev pub shared_fold : Case
shared_fold = record fold {
  bytes = 0x12 ∷ 0x10 ∷ 0x11 ∷ 0x16 ∷ 0x12 ∷ 0x51 ∷ 0x01 ∷ 0x52 ∷ 0x02 ∷ 0x17 ∷ 0x52 ∷ 0x03 ∷ 0x52 ∷ 0x01 ∷ 0x1B ∷ 0x18 ∷ 0x00 ∷ [];
}

-- a conversion is cut, saved, turned, and referred to once more by the command with this code
abbrev pub shared_conversion : ℕ → Case
shared_conversion code = record fold {
  bytes = 0x12 ∷ 0x10 ∷ 0x11 ∷ 0x16 ∷ 0x12 ∷ 0x51 ∷ 0x01 ∷ 0x52 ∷ 0x01 ∷ 0x52 ∷ 0x03 ∷ 0x52 ∷ 0x02 ∷ 0x17 ∷ 0x1C ∷ 0x52 ∷ 0x03 ∷ 0x52 ∷ 0x01 ∷ 0x1B ∷ 0x18 ∷ 0x1E ∷ 0x17 ∷ 0x19 ∷ 0x52 ∷ 0x04 ∷ 0x17 ∷ code ∷ 0x04 ∷ 0x00 ∷ [];
}

abbrev pub Shared : Type 0
Shared =
    (stop_by_identity shared_a1i ≡ None) × (stop_by_identity shared_fold ≡ None) × (stop_by_identity (shared_conversion 0x52) ≡ None)
    × (stop_by_identity ax_1 ≡ None) × (stop_by_identity ax_mp ≡ None) × (stop_by_identity (gen (0 ∷ [])) ≡ None) × (stop_by_identity nn ≡ None) × (stop_by_identity dummy ≡ None)

-- ---- refused

-- the right side is made anew after the unfolding
abbrev pub made_anew : Case
made_anew = record fold {
  bytes = 0x12 ∷ 0x10 ∷ 0x10 ∷ 0x16 ∷ 0x12 ∷ 0x51 ∷ 0x01 ∷ 0x52 ∷ 0x01 ∷ 0x17 ∷ 0x52 ∷ 0x02 ∷ 0x12 ∷ 0x10 ∷ 0x10 ∷ 0x1B ∷ 0x18 ∷ 0x00 ∷ [];
}

-- the last obligation's left side is another application than the saved conversion's
abbrev pub other_side : Case
other_side = record fold {
  bytes = 0x12 ∷ 0x10 ∷ 0x11 ∷ 0x16 ∷ 0x12 ∷ 0x50 ∷ 0x01 ∷ 0x52 ∷ 0x01 ∷ 0x12 ∷ 0x51 ∷ 0x01 ∷ 0x52 ∷ 0x02 ∷ 0x17 ∷ 0x1C ∷ 0x52 ∷ 0x03 ∷ 0x52 ∷ 0x01 ∷ 0x1B ∷ 0x18 ∷ 0x1E ∷ 0x17 ∷ 0x19 ∷ 0x52 ∷ 0x04 ∷ 0x17 ∷ 0x52 ∷ 0x04 ∷ 0x00 ∷ [];
}

-- equal trees that different commands made: a reference of a stream, Unfold's left side, Refl, a saved conversion
abbrev pub EqualTrees : Type 0
EqualTrees =
    IsStrictAlone a1i 234 k.UnifyReference
    × IsStrictAlone fold 156 k.Unfold
    × IsStrictAlone saved 163 k.Unfold
    × IsStrictAlone made_anew 156 k.Refl
    × IsStrictAlone other_side 168 k.ConversionReference

-- the variable that a pattern's dummy stands for occurs in a term that the pattern saved
abbrev pub saved_before : Case
saved_before = record dummy { heading = dummy_body (0x31 ∷ 0x73 ∷ 0x01 ∷ 0x72 ∷ 0x01 ∷ 0x00 ∷ []) }

abbrev pub DummyInSaved : Type 0
DummyInSaved = IsStrictAlone saved_before 116 k.UnifyDummy

-- Unfold without the left side before its expression
abbrev pub two_items : Case
two_items = record fold {
  bytes = 0x12 ∷ 0x10 ∷ 0x10 ∷ 0x16 ∷ 0x12 ∷ 0x50 ∷ 0x01 ∷ 0x52 ∷ 0x01 ∷ 0x17 ∷ 0x12 ∷ 0x10 ∷ 0x10 ∷ 0x1B ∷ 0x18 ∷ 0x00 ∷ [];
}

abbrev pub ThreeItems : Type 0
ThreeItems = IsStrictAlone two_items 153 k.Kind

-- a reference to a conversion by a command of its own
abbrev pub ConversionsByRef : Type 0
ConversionsByRef =
    IsStrictAlone (shared_conversion 0x5D) 167 k.Command
    × (stop (with_code 211 0x1D a1i) ≡ Some (211, k.Kind)) × (stop_by_identity (with_code 211 0x1D a1i) ≡ Some (211, k.Command))

-- ---- what is asked beside numbers, and what is made

-- where a body stops over trees
abbrev pub stop_over_trees : Case → Option (ℕ × K)
stop_over_trees c = outcome (body_run portable_trees c.tables c.heading c.at c.bytes)

-- of those above only the ones whose trees are equal run
abbrev pub AskedOfTrees : Type 0
AskedOfTrees =
    (stop_over_trees a1i ≡ None) × (stop_over_trees fold ≡ None) × (stop_over_trees made_anew ≡ None) × (stop_over_trees other_side ≡ None)
    × (stop_over_trees saved_before ≡ Some (116, k.UnifyDummy)) × (stop_over_trees two_items ≡ Some (153, k.Kind)) × (stop_over_trees (shared_conversion 0x5D) ≡ Some (167, k.Command))

abbrev pub made_in : Case → List (ℕ × Tree)
made_in c = body_makes portable_trees c.tables c.heading c.at c.bytes

abbrev pub applied : ℕ → Tree → Tree
applied t e = app t (more e none)

-- three applications, each once; and the same, each twice
abbrev pub MadeIn : Type 0
MadeIn =
    (made_in shared_fold ≡ (141, applied 0 (var 0)) ∷ (142, applied 0 (applied 0 (var 0))) ∷ (145, applied 1 (var 0)) ∷ [])
    × (made_in fold ≡ (141, applied 0 (var 0)) ∷ (142, applied 0 (applied 0 (var 0))) ∷ (145, applied 1 (var 0)) ∷ (151, applied 1 (var 0)) ∷ (154, applied 0 (var 0)) ∷ (155, applied 0 (applied 0 (var 0))) ∷ [])

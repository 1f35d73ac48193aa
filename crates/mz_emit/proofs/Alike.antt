-- A text without gaps is compiled alike in both modes.
use Rattle.std.proofs.Common.{◌≡◌, ◌≤◌, ◌∙◌, Bool, true, false, List, ℕ, length, sym, subst}
use Rattle.std.specs.Prelude.{◌↔◌}
use Rattle.mz_logic_theory.specs.LegalLists.{Statement as Marked, LegalBy, allowed_with}
use Rattle.mz_layout_tables.specs.Normal.{file_of}
use Rattle.mz_binary_theory.specs.Chains.{Statements}
use Rattle.mz_binary_theory.specs.Gapped.{GappedIn}
use Rattle.mz_binary_theory.proofs.Offered.{one-list}
use Rattle.mz_mmu_theory.specs.Statements.{Statement}
use Rattle.mz_sexpr.specs.declared.rule.TextRefusal.{TextRefusal}
use Rattle.mz_mmu_theory.specs.TypeLaws.{IsTypedOrFaulty}
use Rattle.mz_mmu_theory.specs.Meaning.{marked}
use Rattle.mz_mmu_theory.specs.TextOf.{TextOf, TextFault}
use Rattle.mz_mmu_theory.specs.Weight.{Passes, IsWithinLimits, byte_bound}
use Rattle.mz_type.proofs.Offered.{modes_agree}
use Rattle.mz_mmu_theory.proofs.Offered.{stated_is_legal}
use Rattle.mz_emit_theory.proofs.Offered.{finished-is-draft, files-spell}
use Rattle.mz_emit_theory.specs.Gapped.{proofs_of, IsGappedIn}
use Rattle.mz_emit_theory.specs.Compiling.{IsBinaryOf, ModesCompileAlike}
use Rattle.mz_emit.proofs.Finished.{binary_of}

-- ---- the statements are the same

-- a text that is finished has its statements in both modes
pub finished_in : (gaps : Bool) (text : List ℕ) (ss : List Statement) → TextOf false text ss → TextOf gaps text ss
finished_in false text ss is = is
finished_in true text ss is = (modes_agree text).finished_is_draft ss is

-- a text is typed or has a fault, never both
module _ (typed_or_faulty : (gaps : Bool) (text : List ℕ) → IsTypedOrFaulty gaps text) where
  pub finished_same : (gaps : Bool) (text : List ℕ) (ss ts : List Statement) → TextOf false text ss → TextOf gaps text ts → TextOf false text ts
  finished_same gaps text ss ts is typed = subst (TextOf false text) ((typed_or_faulty gaps text).one_list ss ts (finished_in gaps text ss is) typed) is

  pub never_faulty : {A : Type 0} → (gaps : Bool) (text : List ℕ) (ss : List Statement) (r : TextRefusal) → TextOf false text ss → TextFault gaps text r → A
  never_faulty gaps text ss r is fault = absurd ((typed_or_faulty gaps text).never_both ss r (finished_in gaps text ss is) fault)

-- ---- the binary is one of a draft

draft_too : (ss : List Statement) (bytes : List ℕ) → LegalBy (allowed_with true) (marked ss) → IsBinaryOf false ss bytes → IsBinaryOf true ss bytes
draft_too ss bytes legal b =
    let p = b.written.parts in
    let made = b.written.made in
    let says = finished-is-draft p (marked ss) made b.written.says in
    let spelled = subst (λ (bs : List ℕ). Statements bs b.good.made) b.written.file b.good.spelled in
    let same = one-list (file_of p) b.good.made made spelled (files-spell true p (marked ss) made b.written.fit legal says) in
    let gapped = subst (λ (bs : List ℕ). (T : ℕ) → GappedIn bs b.good.made T ↔ IsGappedIn (proofs_of ss) T) b.written.file b.good.gapped in
    subst (IsBinaryOf true ss) (sym b.written.file)
    (binary_of true ss p made b.written.fit legal says (subst (λ (ts : List Marked). (T : ℕ) → GappedIn (file_of p) ts T ↔ IsGappedIn (proofs_of ss) T) same gapped)
    (subst (λ (bs : List ℕ). length bs ≤ byte_bound ss) b.written.file b.written.short) (sym b.written.file ∙ b.compiled))

pub compile_alike : ((gaps : Bool) (text : List ℕ) → IsTypedOrFaulty gaps text) → (text : List ℕ) → ModesCompileAlike text
compile_alike typed_or_faulty text = record {
  finished = λ bytes (ss, typed, within, binary).
      let in_draft = finished_in true text ss typed in
      (ss, in_draft, within, draft_too ss bytes (stated_is_legal true ss in_draft.1) binary);
  draft = λ ss typed free (ts, other, within).
      (ss, (modes_agree text).draft_is_finished ss free typed, subst IsWithinLimits (one ts ss other typed) within);
  finished_limit = λ p (ss, typed, passes). (ss, finished_in true text ss typed, passes);
  draft_limit = λ ss p typed free (ts, other, passes).
      (ss, (modes_agree text).draft_is_finished ss free typed, subst (λ us. Passes us p) (one ts ss other typed) passes);
}
  where
    one : (ts ss : List Statement) → TextOf true text ts → TextOf true text ss → ts ≡ ss
    one = (typed_or_faulty true text).one_list

-- What is written of a whole text is its binary.
use Rattle.std.proofs.Common.{Bool, ℕ, ◌≡◌, ◌≤◌, List, [], ◌∷◌, ◌++◌, length, length-append, refl, sym, subst, ap, arith}
use Rattle.std.specs.Prelude.{◌↔◌}
use Rattle.mz_logic_theory.specs.Declaration.{sorts}
use Rattle.mz_logic_theory.specs.LegalLists.{Statement as Marked, LegalBy, allowed_with}
use Rattle.mz_logic_theory.proofs.Offered.{sorts-append}
use Rattle.mz_layout_tables.specs.Normal.{Parts, file_of, file_length}
use Rattle.mz_layout_tables.specs.Standing.{Fit}
use Rattle.mz_layout_tables.proofs.Offered.{file-bound, file-length}
use Rattle.mz_binary_theory.specs.Gapped.{GappedIn}
use Rattle.mz_mmu_theory.specs.Statements.{Statement}
use Rattle.mz_mmu_theory.specs.Meaning.{LegalAsStated, marked}
use Rattle.mz_type.specs.TypedText.{declared}
use Rattle.mz_mmu_theory.specs.Weight.{sort_count, byte_bound, IsWithinLimits}
use Rattle.mz_mmu_theory.proofs.Offered.{stated_is_legal}
use Rattle.mz_emit_theory.specs.SpelledLists.{list_spelled}
use Rattle.mz_emit_theory.specs.FileWriting.{IsWrittenAs}
use Rattle.mz_emit_theory.proofs.Offered.{written-gapped, files-good, files-spell, written-same, files-accepted, accepted-by-identity}
use Rattle.mz_emit_theory.specs.Compiling.{IsBinaryOf}
use Rattle.mz_emit_theory.specs.CompiledFile.{compiled_parts, compiled_file}
use Rattle.mz_emit_theory.specs.Gapped.{proofs_of, IsGappedIn}
use Rattle.mz_emit.proofs.Following.{short_enough}
use Rattle.mz_emit.proofs.Gapped.{gapped_same}
use Rattle.mz_emit.proofs.Lengths.{short_file}
use Rattle.mz_emit.proofs.OneMore.{HasWritten, counted}

sorts_counted : (ss : List Statement) → sort_count ss ≡ length (sorts (declared ss))
sorts_counted [] = refl
sorts_counted (s ∷ ss) =
    let both : sorts (s.decl ∷ declared ss) ≡ sorts (s.decl ∷ []) ++ sorts (declared ss) = sorts-append (s.decl ∷ []) (declared ss) in
    omega (arith, sorts_counted ss, ap length both, length-append (sorts (s.decl ∷ [])) (sorts (declared ss)))

-- what is written within the format's bounds of legal statements, has their gapped theorems, and is short enough, is their
-- binary
pub binary_of : (gaps : Bool) (ss : List Statement) (p : Parts) (made : List Marked) → Fit p → LegalBy (allowed_with gaps) (marked ss) → IsWrittenAs gaps p (marked ss) made
    → ((T : ℕ) → GappedIn (file_of p) made T ↔ IsGappedIn (proofs_of ss) T) → length (file_of p) ≤ byte_bound ss → file_of p ≡ compiled_file ss → IsBinaryOf gaps ss (file_of p)
binary_of gaps ss p made fit legal says gapped short compiled = record {
  written = record { parts = p; made = made; fit = fit; says = says; file = refl; short = short };
  good = record {
    made = made;
    spelled = files-spell gaps p (marked ss) made fit legal says;
    same = written-same gaps p (marked ss) made says;
    good = files-good gaps p (marked ss) made fit legal says;
    gapped = gapped;
  };
  accepted = λ spec ds is_spec agrees. files-accepted gaps p (marked ss) made fit legal says spec ds is_spec agrees;
  by_identity = λ finished spec ds is_spec agrees.
      accepted-by-identity p (marked ss) made fit (subst (λ (g : Bool). LegalBy (allowed_with g) (marked ss)) finished legal) (subst (λ (g : Bool). IsWrittenAs g p (marked ss) made) finished says) spec ds is_spec agrees;
  compiled = compiled;
}

module _ (gaps : Bool) (ss : List Statement) (h : HasWritten gaps ss (compiled_parts ss)) (within : IsWithinLimits ss) where
  pub few_sorts : length (compiled_parts ss).sorts ≤ 128
  few_sorts =
      let few : sort_count ss ≤ 128 = within.0 in
      let same = (counted gaps ss (compiled_parts ss) h).no_sorts in
      omega (arith, few, same, sorts_counted ss)

  bounded : file_length (compiled_parts ss) ≤ byte_bound ss
  bounded = short_file file-bound (compiled_parts ss) ss h.short

  pub short : file_length (compiled_parts ss) ≤ 4294967295
  short = omega (arith, bounded, short_enough ss within)

  gapped_there : Fit (compiled_parts ss) → (T : ℕ) → GappedIn (compiled_file ss) (list_spelled (marked ss)) T ↔ IsGappedIn (proofs_of ss) T
  gapped_there fit T =
      let written = written-gapped gaps (compiled_parts ss) (marked ss) (list_spelled (marked ss)) fit h.says T in
      let same = gapped_same ss (compiled_parts ss).statements h.uses T in
      (λ in_file. same.0 (written.0 in_file), λ in_text. written.1 (same.1 in_text))

  pub is_binary : LegalAsStated gaps ss → (bytes : List ℕ) → bytes ≡ compiled_file ss → Fit (compiled_parts ss) → IsBinaryOf gaps ss bytes
  is_binary legal bytes is fit =
      subst (IsBinaryOf gaps ss) (sym is)
      (binary_of gaps ss (compiled_parts ss) (list_spelled (marked ss)) fit (stated_is_legal gaps ss legal) h.says (gapped_there fit) (omega (arith, bounded, file-length (compiled_parts ss))) refl)

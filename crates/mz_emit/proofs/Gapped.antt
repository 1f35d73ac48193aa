-- The gapped theorems of what is written are those of the text.
use Rattle.std.proofs.Common.{◌≡◌, ℕ, zero, suc, Bool, true, false, List, [], ◌∷◌, ◌++◌, Some, None, refl, sym, ap, subst, ◌∙◌}
use Rattle.std.specs.Prelude.{Option, ◌↔◌}
use Rattle.mz_logic_theory.specs.Declaration.{Declaration, sort_decl, term_decl, assertion_decl}
use Rattle.mz_layout_tables.specs.Normal.{Written}
use Rattle.mz_binary_theory.specs.Gapped.{AssertionBody, IsTheoremBody, IsGapped, leaves_gap, rests_on}
use Rattle.mz_mmu_theory.specs.Proof.{Proof}
use Rattle.mz_mmu_theory.specs.Statements.{Statement}
use Rattle.mz_mmu_theory.specs.Meaning.{marked}
use Rattle.mz_emit_theory.specs.Gaps.{body_written, bodies_written}
use Rattle.mz_emit_theory.specs.Gapped.{proof_of, proofs_of, IsTheoremOf, IsGappedIn, leaves_gap as gap_stated, rests_on as rest_stated, UsesAsStated, StatementUses, SayTheirUses}

-- ---- one statement more

pub uses_more : (ss : List Statement) (ws : List Written) (s : Statement) (w : Written) → SayTheirUses ss ws → StatementUses s.decl s.proof w.body → SayTheirUses (ss ++ s ∷ []) (ws ++ w ∷ [])
uses_more [] [] s w all one = (one, tt)
uses_more (t ∷ ss) (x ∷ ws) s w (first, all) one = (first, uses_more ss ws s w all one)
uses_more _ _ s w all one = absurd all

-- ---- a theorem's body has its proof, and its proof a body

abbrev HasProof : List (Option Proof) → ℕ → List ℕ → Type 0
HasProof qs T bytes = (p : Proof) × IsTheoremOf qs T p × UsesAsStated p bytes

abbrev HasBody : List AssertionBody → ℕ → Proof → Type 0
HasBody bs T p = (bytes : List ℕ) × IsTheoremBody bs T bytes × UsesAsStated p bytes

proof_first : (d : Declaration) (q : Option Proof) (w : Written) (qs : List (Option Proof)) (bs : List AssertionBody) (T : ℕ) (bytes : List ℕ) → StatementUses d q w.body
    → IsTheoremBody (body_written d w ++ bs) T bytes → ((U : ℕ) → IsTheoremBody bs U bytes → HasProof qs U bytes) → HasProof (proof_of d q ++ qs) T bytes
proof_first (sort_decl m) q w qs bs T bytes one there rest = rest T there
proof_first (term_decl d) q w qs bs T bytes one there rest = rest T there
proof_first (assertion_decl a) q w qs bs (suc T) bytes one there rest = rest T there
proof_first (assertion_decl a) None w qs bs zero bytes one there rest =
    let written : AssertionBody = record { is_axiom = a.is_axiom; bytes = w.body } in
    let both : Some written ≡ Some (record { is_axiom = false; bytes = bytes }) = there in
    let is : written ≡ record { is_axiom = false; bytes = bytes } = cc in
    absurd (let never : true ≡ false = sym one ∙ ap (λ (b : AssertionBody). b.is_axiom) is in cc)
proof_first (assertion_decl a) (Some p) w qs bs zero bytes one there rest =
    let written : AssertionBody = record { is_axiom = a.is_axiom; bytes = w.body } in
    let both : Some written ≡ Some (record { is_axiom = false; bytes = bytes }) = there in
    let is : written ≡ record { is_axiom = false; bytes = bytes } = cc in
    (p, refl, subst (UsesAsStated p) (ap (λ (b : AssertionBody). b.bytes) is) one.1)

body_first : (d : Declaration) (q : Option Proof) (w : Written) (qs : List (Option Proof)) (bs : List AssertionBody) (T : ℕ) (p : Proof) → StatementUses d q w.body
    → IsTheoremOf (proof_of d q ++ qs) T p → ((U : ℕ) → IsTheoremOf qs U p → HasBody bs U p) → HasBody (body_written d w ++ bs) T p
body_first (sort_decl m) q w qs bs T p one there rest = rest T there
body_first (term_decl d) q w qs bs T p one there rest = rest T there
body_first (assertion_decl a) q w qs bs (suc T) p one there rest = rest T there
body_first (assertion_decl a) None w qs bs zero p one there rest =
    let none : Option Proof = None in
    let both : Some none ≡ Some (Some p) = there in
    absurd (let is : none ≡ Some p = cc in cc)
body_first (assertion_decl a) (Some r) w qs bs zero p one there rest =
    let both : Some (Some r) ≡ Some (Some p) = there in
    let one_proof : Some r ≡ Some p = cc in
    let is : r ≡ p = cc in
    (w.body, ap (λ (b : Bool). Some (record { is_axiom = b; bytes = w.body })) one.0, subst (λ (z : Proof). UsesAsStated z w.body) is one.1)

its_proof : (ss : List Statement) (ws : List Written) (T : ℕ) (bytes : List ℕ) → SayTheirUses ss ws → IsTheoremBody (bodies_written (marked ss) ws) T bytes → HasProof (proofs_of ss) T bytes
its_proof [] ws T bytes all there = absurd cc
its_proof (s ∷ ss) [] T bytes all there = absurd all
its_proof (s ∷ ss) (w ∷ ws) T bytes (one, all) there =
    proof_first s.decl s.proof w (proofs_of ss) (bodies_written (marked ss) ws) T bytes one there (λ U behind. its_proof ss ws U bytes all behind)

its_body : (ss : List Statement) (ws : List Written) (T : ℕ) (p : Proof) → SayTheirUses ss ws → IsTheoremOf (proofs_of ss) T p → HasBody (bodies_written (marked ss) ws) T p
its_body [] ws T p all there = absurd cc
its_body (s ∷ ss) [] T p all there = absurd all
its_body (s ∷ ss) (w ∷ ws) T p (one, all) there =
    body_first s.decl s.proof w (proofs_of ss) (bodies_written (marked ss) ws) T p one there (λ U behind. its_body ss ws U p all behind)

-- ---- the same theorems are gapped

module _ (ss : List Statement) (ws : List Written) (all : SayTheirUses ss ws) where
  gapped_out : (T : ℕ) → IsGapped (bodies_written (marked ss) ws) T → IsGappedIn (proofs_of ss) T
  gapped_out T (leaves_gap T0 bytes there gap) =
      let (p, stated, same) = its_proof ss ws T bytes all there in
      gap_stated T p stated (same.gaps.0 gap)
  gapped_out T (rests_on T0 U bytes there cites below on) =
      let (p, stated, same) = its_proof ss ws T bytes all there in
      rest_stated T U p stated ((same.citations U).0 cites) below (gapped_out U on)

  gapped_in : (T : ℕ) → IsGappedIn (proofs_of ss) T → IsGapped (bodies_written (marked ss) ws) T
  gapped_in T (gap_stated T0 p stated gap) =
      let (bytes, there, same) = its_body ss ws T p all stated in
      leaves_gap T bytes there (same.gaps.1 gap)
  gapped_in T (rest_stated T0 U p stated cites below on) =
      let (bytes, there, same) = its_body ss ws T p all stated in
      rests_on T U bytes there ((same.citations U).1 cites) below (gapped_in U on)

  pub gapped_same : (T : ℕ) → IsGapped (bodies_written (marked ss) ws) T ↔ IsGappedIn (proofs_of ss) T
  gapped_same T = (gapped_out T, gapped_in T)

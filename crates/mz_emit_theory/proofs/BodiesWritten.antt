-- The bodies of a written file are those that were written.
use Rattle.std.proofs.Common.{◌≡◌, ◌∙◌, ◌⊎◌, ℕ, zero, suc, Bool, true, false, List, [], ◌∷◌, ◌++◌, slice_get, Some, Result, refl, sym, ap, subst, inl, inr}
use Rattle.mz_cmd.specs.declared.statement.StmtAt.{StmtAt}
use Rattle.mz_cmd.specs.declared.statement.StmtFault.{StmtFault}
use Rattle.mz_cmd.specs.StatementList.{statement_at}
use Rattle.mz_logic_theory.specs.Tree.{listed}
use Rattle.mz_logic_theory.specs.Declaration.{Assertion, Declaration, sort_decl, term_decl, assertion_decl}
use Rattle.mz_logic_theory.specs.LegalLists.{Statement}
use Rattle.mz_layout_tables.specs.Normal.{Written, Parts, file_of}
use Rattle.mz_layout_tables.specs.Standing.{AreListed, next_place}
use Rattle.mz_layout_tables.specs.Tables.{list_at}
use Rattle.mz_layout_tables.proofs.Offered.{all-listed, counts-said}
use Rattle.mz_machine_theory.specs.Lists.{kind_of}
use Rattle.mz_machine_theory.specs.Sound.{HasGap}
use Rattle.mz_binary_theory.specs.Gapped.{AssertionBody, body_there, place_after, body_of, bodies_from, IsGapped, leaves_gap, rests_on}
use Rattle.mz_emit_theory.specs.Gaps.{body_written, bodies_written, BodiesAreWritten, BodiesSayWhatIsGapped, OnlyDraftsAreGapped}
use Rattle.mz_emit_theory.specs.FileWriting.{IsWrittenDeclaration, AreWritten}
use Rattle.mz_emit_theory.proofs.Gaps.{only-drafts-leave-gaps}
use Rattle.mz_emit_theory.proofs.ListsHold.{body-is}

abbrev one-body : Bool → List ℕ → List AssertionBody
one-body without_proof bytes = record { is_axiom = without_proof; bytes = bytes } ∷ []

module _ (gaps : Bool) (p : Parts) where
  body-here : (file : List ℕ) (at : ℕ) (env : List Declaration) (is_local : Bool) (d d' : Declaration) (w : Written) → IsWrittenDeclaration gaps p env is_local d d' w.body
      → body_there file (statement_at file at) ≡ w.body → body_of file at d' ≡ body_written d w
  body-here file at env is_local (sort_decl m) (sort_decl m') w written is = refl
  body-here file at env is_local (term_decl d) (term_decl d') w written is = refl
  body-here file at env is_local (assertion_decl a) (assertion_decl a') w (same, _) is =
      ap (λ (z : Assertion). one-body z.is_axiom (body_there file (statement_at file at))) (sym same) ∙ ap (one-body a.is_axiom) is
  body-here file at env is_local _ _ w written is = absurd written

  bodies-here : (file : List ℕ) (at : ℕ) (env : List Declaration) (ts ss : List Statement) (ws : List Written) → AreWritten gaps p env ts ss ws → AreListed file at ws
      → bodies_from file at ss ≡ bodies_written ts ws
  bodies-here file at env [] [] [] written listed = refl
  bodies-here file at env [] [] (w ∷ ws) written listed = absurd written
  bodies-here file at env [] (s ∷ ss) ws written listed = absurd written
  bodies-here file at env (t ∷ ts) [] ws written listed = absurd written
  bodies-here file at env (t ∷ ts) (s ∷ ss) [] written listed = absurd written
  bodies-here file at env (t ∷ ts) (s ∷ ss) (w ∷ ws) (written, all) (stands, body, listed) =
      let here : body_there file (statement_at file at) ≡ w.body = ap (body_there file) stands ∙ body-is file at w body in
      ap (λ (z : List AssertionBody). z ++ bodies_from file (place_after (statement_at file at)) ss) (body-here file at env s.is_local t.decl s.decl w written.declaration here)
      ∙ ap (λ (r : Result StmtAt StmtFault). body_written t.decl w ++ bodies_from file (place_after r) ss) stands
      ∙ ap (λ (z : List AssertionBody). body_written t.decl w ++ z) (bodies-here file (next_place at w) (env ++ t.decl ∷ []) ts ss ws all listed)

  -- ---- a body that leaves a gap

  gap-here : (env : List Declaration) (is_local : Bool) (d d' : Declaration) (w : Written) (rest : List AssertionBody) (T : ℕ) (x : AssertionBody) → IsWrittenDeclaration gaps p env is_local d d' w.body
      → slice_get (body_written d w ++ rest) T ≡ Some x → HasGap x.bytes → (gaps ≡ true) ⊎ ((U : ℕ) × (slice_get rest U ≡ Some x))
  gap-here env is_local (sort_decl m) d' w rest T x written there gap = inr (T, there)
  gap-here env is_local (term_decl d) d' w rest T x written there gap = inr (T, there)
  gap-here env is_local (assertion_decl a) (assertion_decl a') w rest zero x (same, written) there gap =
      let b : AssertionBody = record { is_axiom = a.is_axiom; bytes = w.body } in
      let both : Some b ≡ Some x = there in
      let is : b ≡ x = cc in
      inl (only-drafts-leave-gaps gaps env (kind_of a.is_axiom) a.params written.dummies a.conclusion (listed a.hyps) w.body written.body.body (subst (λ (z : AssertionBody). HasGap z.bytes) (sym is) gap)).0
  gap-here env is_local (assertion_decl a) (assertion_decl a') w rest (suc T) x written there gap = inr (T, there)
  gap-here env is_local (assertion_decl a) _ w rest T x written there gap = absurd written

  gap-among : (env : List Declaration) (ts ss : List Statement) (ws : List Written) (T : ℕ) (x : AssertionBody) → AreWritten gaps p env ts ss ws → slice_get (bodies_written ts ws) T ≡ Some x → HasGap x.bytes
      → gaps ≡ true
  gap-among env [] ss ws T x written there gap = absurd cc
  gap-among env (t ∷ ts) ss [] T x written there gap = absurd cc
  gap-among env (t ∷ ts) [] (w ∷ ws) T x written there gap = absurd written
  gap-among env (t ∷ ts) (s ∷ ss) (w ∷ ws) T x (written, all) there gap =
      elim (gap-here env s.is_local t.decl s.decl w (bodies_written ts ws) T x written.declaration there gap) [
        | inl is ↦ is
        | inr (U, later) ↦ gap-among (env ++ t.decl ∷ []) ts ss ws U x all later gap
      ]

  module _ (env : List Declaration) (ts ss : List Statement) (ws : List Written) (written : AreWritten gaps p env ts ss ws) where
    gapped-draft : (T : ℕ) → IsGapped (bodies_written ts ws) T → gaps ≡ true
    gapped-draft T (leaves_gap T0 bytes there gap) = gap-among env ts ss ws T (record { is_axiom = false; bytes = bytes }) written there gap
    gapped-draft T (rests_on T0 U bytes there cites below on) = gapped-draft U on

pub bodies-written : BodiesAreWritten
bodies-written gaps p text made fit written =
    bodies-here gaps p (file_of p) (list_at (file_of p)) [] text made p.statements written (subst (λ at. AreListed (file_of p) at p.statements) (sym (counts-said p fit.short).list_at) (all-listed p fit))

pub written-gapped : BodiesSayWhatIsGapped
written-gapped gaps p text made fit written T =
    let same = bodies-written gaps p text made fit written in
    (subst (λ (z : List AssertionBody). IsGapped z T) same, subst (λ (z : List AssertionBody). IsGapped z T) (sym same))

pub drafts-gapped : OnlyDraftsAreGapped
drafts-gapped gaps p text made fit written T gapped = gapped-draft gaps p [] text made p.statements written T ((written-gapped gaps p text made fit written T).0 gapped)

-- The bytes of commands are read as the commands, whatever follows.
use Rattle.std.proofs.Common.{◌≡◌, ℕ, List, [], ◌∷◌, ◌++◌, length, drop, Some, refl, sym, ap, subst, ◌∙◌, arith, append_assoc}
use Rattle.mz_cmd.specs.Spelling.{Spells}
use Rattle.mz_cmd.specs.Reading.{first_command}
use Rattle.mz_cmd.proofs.Offered.{Spells-again, shortest-spells}
use Rattle.mz_machine_theory.specs.Streams.{StreamKind, of_assertion, of_definition, UnifyCommand, u_term, u_term_save, u_ref, u_dummy, u_hyp, u_end, unify_command, IsEnd, StreamIs}
use Rattle.mz_emit_theory.proofs.Bytes.{drop-front}
use Rattle.mz_emit_theory.specs.StreamWriting.{unify_bytes, stream_of, IsShort, AreShort}
use Rattle.mz_emit_theory.proofs.StreamGrowing.{StandsIn, AllStandIn}

pub record Reads (kind : StreamKind) (u : UnifyCommand) : Type 0 where
  pub code : ℕ
  pub value : ℕ
  pub spells : Spells (unify_bytes u) code value
  pub again : unify_command kind code value ≡ Some u
  pub no_end : IsEnd u → ⊥

reads : (kind : StreamKind) (u : UnifyCommand) → StandsIn kind u → IsShort u → Reads kind u
reads kind (u_term t) stand short = record { code = 0x30; value = t; spells = shortest-spells 0x30 t refl short; again = refl; no_end = λ h. h }
reads kind (u_term_save t) stand short = record { code = 0x31; value = t; spells = shortest-spells 0x31 t refl short; again = refl; no_end = λ h. h }
reads kind (u_ref i) stand short = record { code = 0x32; value = i; spells = shortest-spells 0x32 i refl short; again = refl; no_end = λ h. h }
reads of_definition (u_dummy s) stand short = record { code = 0x33; value = s; spells = shortest-spells 0x33 s refl short; again = refl; no_end = λ h. h }
reads of_assertion u_hyp stand short = record { code = 0x36; value = 0; spells = shortest-spells 0x36 0 refl (omega arith); again = refl; no_end = λ h. h }
reads _ _ stand short = absurd stand

pub stream-is : (kind : StreamKind) (us : List UnifyCommand) (further : List ℕ) → AllStandIn kind us → AreShort us → StreamIs kind (stream_of us ++ further) us
stream-is kind [] further stand short = (record { code = 0; value = 0; len = 1 }, Spells-again (0x00 ∷ []) further 0 0 (shortest-spells 0 0 refl (omega arith)), refl)
stream-is kind (u ∷ us) further (one, stand) (s, short) =
    let r = reads kind u one s in
    let rest : List ℕ = stream_of us ++ further in
    let shape : (unify_bytes u ++ stream_of us) ++ further ≡ unify_bytes u ++ rest = append_assoc (unify_bytes u) (stream_of us) further in (
      record { code = r.code; value = r.value; len = length (unify_bytes u) },
      ap first_command shape ∙ Spells-again (unify_bytes u) rest r.code r.value r.spells,
      r.again,
      r.no_end,
      subst (λ (z : List ℕ). StreamIs kind z us) (sym (ap (drop (length (unify_bytes u))) shape ∙ drop-front (unify_bytes u) rest)) (stream-is kind us further stand short),
    )

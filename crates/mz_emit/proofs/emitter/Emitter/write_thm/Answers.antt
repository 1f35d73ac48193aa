use Rattle.std.proofs.Common.{ℕ, List, Option, map, refl, ap, sym, subst, ◌∙◌, append-nil}
use Rattle.mz_logic_theory.specs.DeclView.{assertion_of, assertion_view}
use Rattle.mz_logic_theory.specs.Declaration.{Declaration, signatures}
use Rattle.mz_logic_theory.specs.Legality.{IsLegalEnv}
use Rattle.mz_logic_theory.specs.Tree.{listed}
use Rattle.mz_logic_theory.specs.Words.{signatures_of}
use Rattle.mz_logic_theory.specs.declared.binder.Binder.{Binder}
use Rattle.mz_emit_bodies.specs.Rows.{words_of_row}
use Rattle.mz_emit_bodies.specs.declared.table.TermTable.{TermTable}
use Rattle.mz_layout_tables.specs.Normal.{Parts}
use Rattle.mz_mmu_theory.specs.Proof.{Proof}
use Rattle.mz_type_rules.specs.Answers.{stated}
use Rattle.mz_type.specs.StatedView.{with_decl}
use Rattle.mz_type.specs.TypedText.{declared}
use Rattle.mz_emit.specs.Emitting.{CanBeAsserted, table_of}
use Rattle.mz_emit_theory.specs.CompiledFile.{with_thm, thm_row, assertion_code, assertion_stream_of, assertion_body_of}
use Rattle.mz_emit.proofs.Rows.{proved_here, room_here}
use Rattle.mz_emit.proofs.Saying.{thm_words, assertion_can}
use Rattle.mz_emit.proofs.emitter.Emitter.write_thm.Goals as goal

pub assertion-requires-clause-words : goal.assertion-requires-clause-words
assertion-requires-clause-words c =
    let s = with_decl (assertion_of c.args.thm.now) c.args.beside.now in
    (_, thm_words c.requires.0 c.requires.1 s c.requires.2.follows (assertion_view c.args.thm.now) refl)

pub assertion-requires-clause-legal : goal.assertion-requires-clause-legal
assertion-requires-clause-legal c = subst IsLegalEnv (sym c.requires.2.before.env) c.requires.2.follows.legal_env

pub assertion-requires-clause-table : goal.assertion-requires-clause-table
assertion-requires-clause-table c = c.requires.2.before.terms_are ∙ ap signatures (sym c.requires.2.before.env)

pub assertion-requires-clause-can : goal.assertion-requires-clause-can
assertion-requires-clause-can c =
    let s = with_decl (assertion_of c.args.thm.now) c.args.beside.now in
    subst (λ (env : List Declaration). CanBeAsserted env (assertion_view c.args.thm.now) c.as_slice.result.now) (sym c.requires.2.before.env)
    (subst (λ (ds : List Binder). CanBeAsserted (declared c.requires.1) (assertion_view c.args.thm.now) ds) (sym c.as_slice.ensures)
    (assertion_can c.requires.0 c.requires.1 s c.requires.2.follows (assertion_view c.args.thm.now) refl))

pub assertion-requires-clause-proved : goal.assertion-requires-clause-proved
assertion-requires-clause-proved c = (
  c.requires.0,
  proved_here c.requires.0 c.requires.1 (with_decl (assertion_of c.args.thm.now) c.args.beside.now) c.args.self.now c.requires.2 c.stated_proofs_are_sound.ensures (assertion_view c.args.thm.now) refl
      c.as_slice.result.now (sym c.as_slice.ensures) (stated c.proof.result) (sym c.proof.ensures),
)

pub returns-clause-writes : goal.returns-clause-writes
returns-clause-writes c =
    let a = assertion_view c.args.thm.now in
    let env = c.args.self.now.env in
    let written : ℕ → List Binder → Option Proof → Parts
    = λ code dummies q. with_thm c.args.self.now.writer (thm_row a (assertion_stream_of a)) (record { code = code; body = assertion_body_of env a.params dummies (listed a.hyps) a.conclusion q }) in
    record {
      writer = c.in_ok-assertion.ensures.writer ∙ ap (λ code. written code c.as_slice.result.now (stated c.proof.result)) c.assertion_code-code.ensures.code
          ∙ ap (λ (ds : List Binder). written (assertion_code a.is_axiom c.args.beside.now.is_local) ds (stated c.proof.result)) c.as_slice.ensures
          ∙ ap (written (assertion_code a.is_axiom c.args.beside.now.is_local) c.args.beside.now.dummies) c.proof.ensures;
      more_sorts = ap (λ (t : TermTable). t.sorts.items) c.in_ok-assertion.ensures.table ∙ sym (append-nil c.args.self.now.table.sorts.items);
      more_terms = ap (λ (t : TermTable). signatures_of (map words_of_row t.terms.items)) c.in_ok-assertion.ensures.table ∙ sym (append-nil (table_of c.args.self.now));
    }

pub assertion-requires-clause-room : goal.assertion-requires-clause-room
assertion-requires-clause-room c =
    room_here c.requires.0 c.requires.1 (with_decl (assertion_of c.args.thm.now) c.args.beside.now) c.args.self.now c.requires.2 (assertion_view c.args.thm.now) refl (stated c.proof.result) (sym c.proof.ensures)

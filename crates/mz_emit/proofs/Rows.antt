-- The rows of one statement more.
use Rattle.std.proofs.Common.{suc, ◌≡◌, ◌≤◌, ◌<◌, ◌+◌, ◌^◌, Bool, List, [], ◌∷◌, ◌++◌, ◌∙◌, length, map, take, refl, sym, subst, ap, append_assoc, append-nil, arith}
use Rattle.std.specs.Prelude.{ℕ, Option, Some, None, slice_get}
use Rattle.std.proofs.lemmas.List.{take_more}
use Rattle.std.proofs.lemmas.Option.{get_or_from_slice_get, slice_get_within}
use Rattle.mz_logic_theory.specs.Tree.{Tree, none, more}
use Rattle.mz_logic_theory.specs.Declaration.{Form, plain_form, abstract_form, defined, body_of, dummies_of, Assertion, Declaration, sort_decl, term_decl, assertion_decl, sorts, signatures}
use Rattle.mz_logic_theory.specs.declared.binder.Binder.{Binder}
use Rattle.mz_logic_theory.proofs.Offered.{sorts-append, signatures-append}
use Rattle.mz_layout_tables.specs.Normal.{Parts, no_parts}
use Rattle.mz_mmu_theory.specs.Proof.{Proof}
use Rattle.mz_mmu_theory.specs.Statements.{Statement}
use Rattle.mz_type.specs.TypedText.{declared}
use Rattle.mz_logic_theory.specs.Words.{signatures_of}
use Rattle.mz_emit_bodies.specs.Rows.{words_of_row}
use Rattle.mz_emit_bodies.specs.declared.table.TermEntry.{TermEntry}
use Rattle.mz_emit_bodies.specs.declared.table.TermTable.{TermTable}
use Rattle.mz_emit_theory.specs.ClaimsLaws.{StatedProofsAreSound}
use Rattle.mz_emit.specs.Emitting.{IsConcrete, MayFollow, CountsFit, IsProvedBy, HasEmitted, IsNext, WritesNext}
use Rattle.mz_emit_theory.specs.CompiledFile.{with_declaration, parts_after}
use Rattle.mz_emit.specs.declared.emitter.Emitter.{Emitter}
use Rattle.mz_emit.proofs.Saying.{env_short, assertion_room, proof_can, axiom_is}

pub declared_more : (ss : List Statement) (s : Statement) → declared (ss ++ s ∷ []) ≡ declared ss ++ s.decl ∷ []
declared_more [] s = refl
declared_more (t ∷ ss) s = ap (λ ds. t.decl ∷ ds) (declared_more ss s)

-- the parts of one statement more
pub parts_more : (env : List Declaration) (p : Parts) (ss : List Statement) (s : Statement)
    → parts_after env p (ss ++ s ∷ []) ≡ with_declaration (env ++ declared ss) (parts_after env p ss) s.is_local s.dummies s.proof s.decl
parts_more env p [] s = ap (λ ds. with_declaration ds p s.is_local s.dummies s.proof s.decl) (sym (append-nil env))
parts_more env p (t ∷ ss) s =
    let q : Parts = with_declaration env p t.is_local t.dummies t.proof t.decl in
    parts_more (env ++ t.decl ∷ []) q ss s
    ∙ ap (λ ds. with_declaration ds (parts_after (env ++ t.decl ∷ []) q ss) s.is_local s.dummies s.proof s.decl) (append_assoc env (t.decl ∷ []) (declared ss))

-- what is written of it and declared stands before the next
pub emitted_next : (earlier : List Statement) (s : Statement) (e new e' : Emitter) → HasEmitted earlier e → WritesNext s e new → e'.writer ≡ new.writer → e'.table ≡ new.table
    → e'.env ≡ e.env ++ s.decl ∷ [] → HasEmitted (earlier ++ s ∷ []) e'
emitted_next earlier s e new e' before writes writer table env = record {
  written = writer ∙ writes.writer ∙ ap (λ ds. with_declaration ds e.writer s.is_local s.dummies s.proof s.decl) before.env
      ∙ ap (λ p. with_declaration (declared earlier) p s.is_local s.dummies s.proof s.decl) before.written ∙ sym (parts_more [] no_parts earlier s);
  sorts_are = ap (λ (t : TermTable). t.sorts.items) table ∙ writes.more_sorts ∙ ap (λ xs. xs ++ sorts (s.decl ∷ [])) before.sorts_are
      ∙ sym (sorts-append (declared earlier) (s.decl ∷ [])) ∙ ap sorts (sym (declared_more earlier s));
  terms_are = ap (λ (t : TermTable). signatures_of (map words_of_row t.terms.items)) table ∙ writes.more_terms ∙ ap (λ xs. xs ++ signatures (s.decl ∷ [])) before.terms_are
      ∙ sym (signatures-append (declared earlier) (s.decl ∷ [])) ∙ ap signatures (sym (declared_more earlier s));
  env = env ∙ ap (λ ds. ds ++ s.decl ∷ []) before.env ∙ sym (declared_more earlier s);
}

-- one declaration further
pub next_declared : (env : List Declaration) (i : ℕ) (d : Declaration) → slice_get env i ≡ Some d → take (i + 1) env ≡ take i env ++ d ∷ []
next_declared env i d at = take_more env i d (slice_get_within env i d at) ∙ ap (λ x. take i env ++ x ∷ []) (get_or_from_slice_get env i d d at)

-- a term that has no body is plain, and one that has a body is its definition
pub plain_is : (f : Form) → IsConcrete f → body_of f ≡ none → f ≡ plain_form
plain_is plain_form concrete e = refl
plain_is abstract_form concrete e = absurd concrete
plain_is (defined ds b) concrete e = absurd (let n : more b none ≡ none = e in cc)

pub defined_is : (f : Form) (b : Tree) → body_of f ≡ more b none → f ≡ defined (dummies_of f) b
defined_is (defined ds c) b e = ap (defined ds) (let n : more c none ≡ more b none = e in cc)
defined_is _ b e = absurd (let n : none ≡ more b none = e in cc)

module _ (gaps : Bool) (b : List Statement) (s : Statement) (follows : MayFollow gaps b s) where
  pub proved_by : StatedProofsAreSound → (a : Assertion) → s.decl ≡ assertion_decl a → (q : Option Proof) → s.proof ≡ q
      → IsProvedBy gaps (declared b) (a.params ++ s.dummies) a q
  proved_by sound a is None some = axiom_is gaps b s follows a is some
  proved_by sound a is (Some p) some =
      let can = proof_can gaps b s follows a is p some in
      let by = sound gaps (declared b) follows.legal_env (a.params ++ s.dummies) a p can.1 can.2 can.3 in
      (can.0, by.0, by.1)

-- the next statement, an axiom or a theorem, is proved over what the emitter has declared
pub proved_here : (gaps : Bool) (b : List Statement) (s : Statement) (e : Emitter) → IsNext gaps b s e → StatedProofsAreSound → (a : Assertion) → s.decl ≡ assertion_decl a
    → (ds : List Binder) → s.dummies ≡ ds → (q : Option Proof) → s.proof ≡ q → IsProvedBy gaps e.env (a.params ++ ds) a q
proved_here gaps b s e next sound a is ds dummies q proof =
    subst (λ (env : List Declaration). IsProvedBy gaps env (a.params ++ ds) a q) (sym next.before.env)
    (subst (λ (xs : List Binder). IsProvedBy gaps (declared b) (a.params ++ xs) a q) dummies
    (proved_by gaps b s next.follows sound a is q proof))

-- ---- the room in the table

rows_few : (ds : List Declaration) → length (sorts ds) + length (signatures ds) ≤ length ds
rows_few [] = omega arith
rows_few (sort_decl m ∷ ds) = omega (arith, rows_few ds)
rows_few (term_decl d ∷ ds) = omega (arith, rows_few ds)
rows_few (assertion_decl a ∷ ds) = omega (arith, rows_few ds)

rows_many : (rs : List TermEntry) → length (signatures_of (map words_of_row rs)) ≡ length rs
rows_many [] = refl
rows_many (r ∷ rs) = ap suc (rows_many rs)

module _ (gaps : Bool) (b : List Statement) (s : Statement) (e : Emitter) (next : IsNext gaps b s e) where
  pub sorts_room : length e.table.sorts.items + 1 < 2 ^ 32
  sorts_room = omega (arith, ap length next.before.sorts_are, rows_few (declared b), env_short gaps b s next.follows)

  pub terms_room : length e.table.terms.items + 1 < 2 ^ 32
  terms_room = omega (arith, ap length next.before.terms_are, rows_many e.table.terms.items, rows_few (declared b), env_short gaps b s next.follows)

  pub room_here : (a : Assertion) → s.decl ≡ assertion_decl a → (q : Option Proof) → s.proof ≡ q → CountsFit e.env a q
  room_here a is q proof =
      subst (λ (env : List Declaration). CountsFit env a q) (sym next.before.env) (subst (CountsFit (declared b) a) proof (assertion_room gaps b s next.follows a is))

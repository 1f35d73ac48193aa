-- Each text that can be compiled has its binary: what is written of its statements, without a run.
use Rattle.std.proofs.Common.{ℕ, zero, suc, ◌≡◌, ◌≤◌, ◌<◌, ◌+◌, ◌*◌, ◌^◌, Bool, true, false, List, [], ◌∷◌, ◌++◌, length, take, All, refl, sym, subst, ap, ◌∙◌, arith}
use Rattle.std.specs.Prelude.{Option, Some, None, IsTrue}
use Rattle.std.proofs.lemmas.List.{take_all, length-append}
use Rattle.std.proofs.lemmas.List.Elements.{All-nil, All-cons, All-append}
use Rattle.std.proofs.lemmas.Option.{slice_get_within}
use Rattle.mz_cmd.specs.Codes.{begins_statement}
use Rattle.mz_logic_theory.specs.Tree.{Tree, listed, size, trees_size}
use Rattle.mz_logic_theory.specs.Signature.{Signature}
use Rattle.mz_logic_theory.specs.Declaration.{Form, plain_form, abstract_form, defined, Assertion, Declaration, sort_decl, term_decl, assertion_decl, sorts, assertions}
use Rattle.mz_logic_theory.specs.Legality.{IsDummy, IsLegalDecl}
use Rattle.mz_logic_theory.specs.WordsWritten.{words_of, result_word, WordsFit, ResultWordsFit}
use Rattle.mz_logic_theory.specs.declared.binder.Binder.{Binder}
use Rattle.mz_logic_theory.specs.declared.word.Word.{Word}
use Rattle.mz_logic_theory.proofs.Offered.{each_from_all, terms_are_sorted}
use Rattle.mz_layout_tables.specs.Normal.{Row, Written, Parts, no_parts, row_of_term, row_of_thm}
use Rattle.mz_layout_tables.specs.Standing.{HasRoom, HaveRoom, Fit}
use Rattle.mz_mmu_theory.specs.Proof.{Proof}
use Rattle.mz_mmu_theory.specs.Statements.{Statement}
use Rattle.mz_mmu_theory.specs.Weight.{declaration_weight, stated_weight, IsWithinLimits}
use Rattle.mz_type.specs.Ready.{StatementsCanBeWords}
use Rattle.mz_type.specs.StatedView.{AreRead}
use Rattle.mz_type.specs.TypedText.{statement_at, declared}
use Rattle.mz_emit_theory.proofs.Offered.{words-say-params}
use Rattle.mz_emit_bodies.proofs.Offered.{axioms_are_written, axioms_short, axioms_take, definitions_are_written, definitions_short, definitions_take, theorem_bodies_use, theorems_short, theorems_take}
use Rattle.mz_emit_theory.specs.ClaimsLaws.{StatedProofsAreSound}
use Rattle.mz_emit_theory.specs.CompiledFile.{with_sort, with_term, with_thm, with_form, with_declaration, term_row, thm_row, definition_code, assertion_code, definition_stream_of, definition_body_of, assertion_stream_of, assertion_body_of, compiled_parts, compiled_file}
use Rattle.mz_emit_theory.specs.Compiling.{IsBinaryOf}
use Rattle.mz_emit_theory.specs.CompiledLaws.{HasFile, FileUsesWhatProofsUse}
use Rattle.mz_emit_theory.specs.Gapped.{SayTheirUses}
use Rattle.mz_emit.specs.Emitting.{IsLegalWith, IsStated, MayFollow, IsProvedBy, body_weight}
use Rattle.mz_emit.proofs.Finished.{few_sorts, short, is_binary}
use Rattle.mz_emit.proofs.Looping.{legal_with, all_follow, one_more}
use Rattle.mz_emit.proofs.OneMore.{HasWritten, sort_next, plain_next, definition_next, assertion_next, words_many}
use Rattle.mz_emit.proofs.Rows.{parts_more, proved_by}
use Rattle.mz_emit.proofs.Saying.{definition_kind, env_short, term_words, same_form, thm_words, sort_unmarked, plain_unmarked, thm_kind, definition_can, assertion_can}
use Rattle.mz_emit.proofs.Speaking.{SaysDefinition, SaysAssertion, MakesBody, dummies_fine, definition_says, conclusion_sorted, hyps_provable, assertion_says}
use Rattle.mz_emit.proofs.Weights.{stated_same}

-- ---- counts

assertions_few : (ds : List Declaration) → length (assertions ds) ≤ length ds
assertions_few [] = omega arith
assertions_few (sort_decl m ∷ ds) = omega (arith, assertions_few ds)
assertions_few (term_decl d ∷ ds) = omega (arith, assertions_few ds)
assertions_few (assertion_decl a ∷ ds) = omega (arith, assertions_few ds)

all_more : (A : Type 0) (P : A → Type 0) (xs : List A) (x : A) → All P xs → P x → All P (xs ++ x ∷ [])
all_more A P xs x all one = All-append P xs (x ∷ []) all (All-cons P x [] one (All-nil P))

-- ---- codes

definition_begins : (b : Bool) → IsTrue (begins_statement (definition_code b))
definition_begins true = refl
definition_begins false = refl

assertion_begins : (x b : Bool) → IsTrue (begins_statement (assertion_code x b))
assertion_begins false true = refl
assertion_begins _ _ = refl

-- ---- rows

term_room : (ws : List Word) (r : Word) (stream : Option (List ℕ)) → length ws ≤ 65535 → All (λ (w : Word). w.0 < 2 ^ 64) ws → r.0 < 2 ^ 64 → HasRoom 1 (row_of_term ws r stream)
term_room ws r None few all one = record { few_params = omega (arith, few); count = length-append ws (r ∷ []); words = all_more Word (λ w. w.0 < 2 ^ 64) ws r all one }
term_room ws r (Some stream) few all one = record { few_params = omega (arith, few); count = length-append ws (r ∷ []); words = all_more Word (λ w. w.0 < 2 ^ 64) ws r all one }

thm_room : (ws : List Word) (stream : List ℕ) → length ws ≤ 65535 → All (λ (w : Word). w.0 < 2 ^ 64) ws → HasRoom 0 (row_of_thm ws stream)
thm_room ws stream few all = record { few_params = omega (arith, few); count = omega arith; words = all }

module _ (p : Parts) (room : HaveRoom p) (w : Written) (begins : IsTrue (begins_statement w.code)) where
  codes_more : All (λ (v : Written). IsTrue (begins_statement v.code)) (p.statements ++ w ∷ [])
  codes_more = all_more Written (λ v. IsTrue (begins_statement v.code)) p.statements w room.codes begins

  term_more : (r : Row) → HasRoom 1 r → HaveRoom (with_term p r w)
  term_more r one = record { mods = room.mods; terms = all_more Row (HasRoom 1) p.terms r room.terms one; thms = room.thms; codes = codes_more }

  thm_more : (r : Row) → HasRoom 0 r → HaveRoom (with_thm p r w)
  thm_more r one = record { mods = room.mods; terms = room.terms; thms = all_more Row (HasRoom 0) p.thms r room.thms one; codes = codes_more }

sort_more : (p : Parts) (m : ℕ) → HaveRoom p → m < 16 → HaveRoom (with_sort p m)
sort_more p m room few = record {
  mods = all_more ℕ (λ n. n < 16) p.sorts m room.mods few;
  terms = room.terms;
  thms = room.thms;
  codes = codes_more p room (record { code = 0x04; body = [] }) refl;
}

-- ---- one statement

-- the parts say these, within the format's bounds
abbrev AreThere : Bool → List Statement → Parts → Type 0
AreThere gaps ss p = HasWritten gaps ss p × HaveRoom p

module _ (words_fit : WordsFit) (results_fit : ResultWordsFit) (sound : StatedProofsAreSound) (gaps : Bool) (b : List Statement) (s : Statement) (next : MayFollow gaps b s) where
  few_assertions : length (assertions (declared b)) ≤ 2 ^ 32
  few_assertions = (let few = assertions_few (declared b) in let short = env_short gaps b s next in omega (arith, few, short))

  -- ---- a definition

  definition_made : (sg : Signature) (dummies : List Binder) (e : Tree) → s.decl ≡ term_decl (record { signature = sg; form = defined dummies e })
      → SaysDefinition (declared b) sg.params dummies e
  definition_made sg dummies e is =
      let env : List Declaration = declared b in
      let can = definition_can gaps b s next sg dummies e is in
      let fine = dummies_fine env sg.params dummies can.ready in
      let light = next.light in
      let room : length sg.params + 6 * size e ≤ 2 ^ 32 = omega (arith, light, ap declaration_weight is) in
      let four = definitions_take env sg.params dummies e can.ready.small few_assertions fine can.sorted room in
      definition_says env sg.params dummies e can (λ g. definitions_are_written g env sg.params dummies e can.ready.few fine can.sorted four) (definitions_short sg.params dummies e)

  sg_room : (sg : Signature) (f : Form) → s.decl ≡ term_decl (record { signature = sg; form = f }) → (stream : Option (List ℕ)) → HasRoom 1 (term_row sg stream)
  sg_room sg f is stream =
      let env : List Declaration = declared b in
      let words = term_words gaps b s next sg f is in
      let legal : IsLegalDecl env (term_decl (record { signature = sg; form = f })) = subst (IsLegalDecl env) is next.legal.0 in
      let (m, at, may) = ((terms_are_sorted env (record { signature = sg; form = f })).0 legal).3 in
      let many = words_many 0 [] sg.params in
      let few = words.few in
      term_room (words_of sg.params) (result_word sg.params sg.result) stream (omega (arith, many, few)) (words_fit (sorts env) sg.params words.can)
      (results_fit (sorts env) sg.params sg.result words.can (slice_get_within (sorts env) sg.result.sort m at))

  form_there : (p : Parts) → HasWritten gaps b p → HaveRoom p → (sg : Signature) (f : Form) → s.decl ≡ term_decl (record { signature = sg; form = f })
      → AreThere gaps (b ++ s ∷ []) (with_form p s.is_local sg f)
  form_there p written room sg plain_form is =
      let w : Written = record { code = 0x05; body = [] } in
      let words = term_words gaps b s next sg plain_form is in
      (plain_next gaps b p written s sg is (plain_unmarked gaps b s next sg is) words.say, term_more p room w refl (term_row sg None) (sg_room sg plain_form is None))
  form_there p written room sg abstract_form is = absurd (let stated : IsStated (term_decl (record { signature = sg; form = abstract_form })) = subst IsStated is next.stated in stated)
  form_there p written room sg (defined dummies e) is =
      let words = term_words gaps b s next sg (defined dummies e) is in
      let stream : List ℕ = definition_stream_of sg.params dummies e in
      let w : Written = record { code = definition_code s.is_local; body = definition_body_of sg.params dummies e } in (
        definition_next gaps b p written s sg dummies e is (definition_kind s.is_local) words.say
            (same_form gaps b s next sg dummies e (definition_can gaps b s next sg dummies e is)) (definition_made sg dummies e is),
        term_more p room w (definition_begins s.is_local) (term_row sg (Some stream)) (sg_room sg (defined dummies e) is (Some stream)),
      )

  -- ---- an axiom or a theorem

  module _ (a : Assertion) (is : s.decl ≡ assertion_decl a) where
    body_made : (q : Option Proof) → s.proof ≡ q → IsProvedBy gaps (declared b) (a.params ++ s.dummies) a q
        → MakesBody gaps (declared b) q a.params s.dummies a.conclusion (listed a.hyps) (assertion_body_of (declared b) a.params s.dummies (listed a.hyps) a.conclusion q)
    body_made None bare by =
        let env : List Declaration = declared b in
        let can = assertion_can gaps b s next a is in
        let fine = dummies_fine env a.params s.dummies can.ready in
        let provable = hyps_provable env a s.dummies can (a.params ++ s.dummies) a.hyps refl refl in
        let sorted = conclusion_sorted env a s.dummies can in
        let light = next.light in
        axioms_are_written gaps env a.params s.dummies (listed a.hyps) a.conclusion can.ready.few fine provable sorted
        (axioms_take env a.params s.dummies a.hyps a.conclusion can.ready.small few_assertions fine provable sorted (omega (arith, light, ap declaration_weight is)))
    body_made (Some p) some (unmarked, proves, same) =
        let env : List Declaration = declared b in
        let can = assertion_can gaps b s next a is in
        let fine = dummies_fine env a.params s.dummies can.ready in
        let provable = hyps_provable env a s.dummies can (a.params ++ s.dummies) a.hyps refl refl in
        let light = next.light in
        theorem_bodies_use gaps env a.params s.dummies (listed a.hyps) p can.ready.few fine provable proves
        (theorems_take gaps env a.params s.dummies a.hyps p can.ready.small few_assertions fine provable proves
        (omega (arith, light, ap declaration_weight is, ap (stated_weight env) some, stated_same env (Some p))))

    body_short : (q : Option Proof) → length (assertion_body_of (declared b) a.params s.dummies (listed a.hyps) a.conclusion q)
        ≤ 6 * (trees_size a.hyps + size a.conclusion + body_weight (declared b) q) + 1
    body_short None = (let h = axioms_short a.params s.dummies a.hyps a.conclusion in omega (arith, h))
    body_short (Some p) = (let h = theorems_short (declared b) a.params s.dummies a.hyps p in omega (arith, h))

    assertion_made : SaysAssertion gaps (declared b) a s.dummies s.proof
    assertion_made =
        let by = proved_by gaps b s next sound a is s.proof refl in
        assertion_says (declared b) a s.dummies (assertion_can gaps b s next a is) gaps s.proof by (body_made s.proof refl by) (body_short s.proof)

    assertion_there : (p : Parts) → HasWritten gaps b p → HaveRoom p → AreThere gaps (b ++ s ∷ []) (with_declaration (declared b) p s.is_local s.dummies s.proof (assertion_decl a))
    assertion_there p written room =
        let env : List Declaration = declared b in
        let can = assertion_can gaps b s next a is in
        let stream : List ℕ = assertion_stream_of a in
        let w : Written = record { code = assertion_code a.is_axiom s.is_local; body = assertion_body_of env a.params s.dummies (listed a.hyps) a.conclusion s.proof } in
        let words = thm_words gaps b s next a is in
        let many = words_many 0 [] a.params in
        let few = can.ready.few_params in (
          assertion_next gaps b p written s a is (thm_kind gaps b s next a is) (words-say-params (sorts env) a.params words)
              (λ i d at. (each_from_all IsDummy s.dummies can.ready.dummies_are i d at).1) assertion_made,
          thm_more p room w (assertion_begins a.is_axiom s.is_local) (thm_row a stream) (thm_room (words_of a.params) stream (omega (arith, many, few)) (words_fit (sorts env) a.params words)),
        )

  statement_there : (p : Parts) → HasWritten gaps b p → HaveRoom p → (d : Declaration) → s.decl ≡ d → AreThere gaps (b ++ s ∷ []) (with_declaration (declared b) p s.is_local s.dummies s.proof d)
  statement_there p written room (sort_decl m) is = (sort_next gaps b p written s m is (sort_unmarked gaps b s next m is), sort_more p m.0 room (subst IsStated is next.stated))
  statement_there p written room (term_decl d) is = form_there p written room d.signature d.form is
  statement_there p written room (assertion_decl a) is = assertion_there a is p written room

-- ---- all of them

module _ (words_fit : WordsFit) (results_fit : ResultWordsFit) (sound : StatedProofsAreSound) (ready : StatementsCanBeWords) where
  nothing_there : (gaps : Bool) → AreThere gaps [] no_parts
  nothing_there gaps = (
    record { says = record { no_sorts = refl; no_terms = refl; no_thms = refl }; uses = tt; short = omega arith },
    record { mods = All-nil (λ m. m < 16); terms = All-nil (HasRoom 1); thms = All-nil (HasRoom 0); codes = All-nil (λ v. IsTrue (begins_statement v.code)) },
  )

  module _ (mode : Bool) (ss : List Statement) (read : AreRead mode ss) (within : IsWithinLimits ss) (gaps : Bool) (legal : IsLegalWith gaps ss) where
    first_there : (i : ℕ) → i ≤ length ss → AreThere gaps (take i ss) (compiled_parts (take i ss))
    first_there zero le = nothing_there gaps
    first_there (suc i) le =
        let (written, room) = first_there i (omega (arith, le)) in
        let below : i < length ss = omega (arith, le) in
        let same : i + 1 ≡ suc i = omega arith in
        let b : List Statement = take i ss in
        let s : Statement = statement_at ss i in
        let next = all_follow ready mode ss read within gaps legal i below in
        subst (λ (ts : List Statement). AreThere gaps ts (compiled_parts ts)) (one_more ss i below ∙ ap (λ (n : ℕ). take n ss) same)
        (subst (AreThere gaps (b ++ s ∷ [])) (sym (parts_more [] no_parts b s)) (statement_there words_fit results_fit sound gaps b s next (compiled_parts b) written room s.decl refl))

    all_there : AreThere gaps ss (compiled_parts ss)
    all_there = subst (λ (ts : List Statement). AreThere gaps ts (compiled_parts ts)) (take_all (length ss) ss (omega arith)) (first_there (length ss) (omega arith))

    pub fits : Fit (compiled_parts ss)
    fits =
        let (written, room) = all_there in
        let small = short gaps ss written within in
        record { room = room; few_sorts = few_sorts gaps ss written within; short = omega (arith, small) }

    pub has_binary : (bytes : List ℕ) → bytes ≡ compiled_file ss → IsBinaryOf gaps ss bytes
    has_binary bytes is = is_binary gaps ss all_there.0 within legal.0 bytes is fits

    uses_there : SayTheirUses ss (compiled_parts ss).statements
    uses_there = all_there.0.uses

  pub has_file : (text : List ℕ) → HasFile text
  has_file text gaps (ss, typed, within) =
      let ((nodes, read), legal) = typed in
      (compiled_file ss, (ss, typed, within, has_binary gaps ss (nodes, read.1) within gaps (legal_with gaps text ss typed) (compiled_file ss) refl))

  pub file_uses : (text : List ℕ) → FileUsesWhatProofsUse text
  file_uses text gaps ss typed within =
      let ((nodes, read), legal) = typed in
      uses_there gaps ss (nodes, read.1) within gaps (legal_with gaps text ss typed)

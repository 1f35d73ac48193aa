-- What the row of a good statement says.
use Rattle.std.proofs.Common.{◌≡◌, ◌≤◌, ◌<◌, ◌+◌, ◌∙◌, ◌⊎◌, ℕ, zero, suc, Bool, true, false, List, [], ◌∷◌, ◌++◌, length, drop, reverse, Option, Some, None, slice_get, refl, sym, ap, subst, inl, inr, arith, append_assoc}
use Rattle.std.specs.Prelude.{if◌then◌else◌}
use Rattle.mz_base.proofs.Offered.{slice_get-within, slice_get-append_add}
use Rattle.mz_cmd.specs.Codes.{statement_byte}
use Rattle.mz_logic_theory.specs.Tree.{Tree, Trees, var, none, listed}
use Rattle.mz_logic_theory.specs.Signature.{Signature}
use Rattle.mz_logic_theory.specs.Declaration.{Declaration, sort_decl, term_decl, assertion_decl, Term, Assertion, Form, plain_form, abstract_form, defined, sorts, terms, signatures, assertions, is_defined}
use Rattle.mz_logic_theory.specs.LegalLists.{Statement}
use Rattle.mz_logic_theory.specs.Words.{binders_of}
use Rattle.mz_logic_theory.specs.declared.binder.Binder.{Binder}
use Rattle.mz_logic_theory.proofs.Offered.{signatures-append, length-binders, length-signatures}
use Rattle.mz_layout_tables.specs.Tables.{list_at, term_count, mods_of, term_row, thm_row}
use Rattle.mz_machine_theory.specs.Streams.{StreamKind, of_assertion, of_definition, UnifyCommand, StreamIs}
use Rattle.mz_machine_theory.specs.Spells.{Marks, SpellsText, Text, SpellsForm, at_first, variables_from}
use Rattle.mz_layout_tables.proofs.Offered.{right-words}
use Rattle.mz_machine_theory.proofs.Offered.{length-params}
use Rattle.mz_machine_theory.specs.FileRows.{stream_of, term_of_file}
use Rattle.mz_binary_theory.specs.declared.statement.Statement.{Statement as Reported}
use Rattle.mz_binary_theory.specs.Chains.{GoodTo}
use Rattle.mz_binary_theory.specs.Laws.{HasRow, SaysTerm}
use Rattle.mz_binary.specs.Progress.{kind_code, row_after}
use Rattle.mz_binary_theory.specs.Spelling.{SpellsRow}
use Rattle.mz_binary_theory.proofs.Offered.{good-rows}
use Rattle.mz_match_rows.specs.Streams.{AreMarks, HypsAreSaid}
use Rattle.mz_match_rows.specs.ReportedRow.{SaysFirst, SaysForm, SaysClaims, IsTermRow, IsThmRow, IsRowOf, assertion_code}
use Rattle.mz_match.specs.Reported.{IsReported}
use Rattle.mz_match_rows.proofs.Offered.{command-takes, few-dummies, joined, Grows, Segment, append-none, grows-not, hyps-grow, spelled-said, hyps-said}
use Rattle.mz_binary_theory.specs.Standards.{Standard}

-- ---- the signatures of what was declared are those of the rows

abbrev Arities : List ℕ → List Declaration → Type 0
Arities file env = (t : ℕ) (s : Signature) → slice_get (signatures env) t ≡ Some s → (t < term_count file) × (length s.params ≡ length (term_row file t).words.params)

get-in-two : (xs : List Signature) (s x : Signature) (t : ℕ) → slice_get (xs ++ s ∷ []) t ≡ Some x → (slice_get xs t ≡ Some x) ⊎ ((t ≡ length xs) × (s ≡ x))
get-in-two [] s x zero at = inr (refl, cc)
get-in-two [] s x (suc t) at = absurd cc
get-in-two (y ∷ xs) s x zero at = inl at
get-in-two (y ∷ xs) s x (suc t) at = elim (get-in-two xs s x t at) [
  | inl before ↦ inl before
  | inr last ↦ inr (ap suc last.0, last.1)
]

more-arities : (file : List ℕ) (env : List Declaration) (d : Declaration) → HasRow file env d → Arities file env → Arities file (env ++ d ∷ [])
more-arities file env (sort_decl m) row so_far t s at = so_far t s (ap (λ xs. slice_get xs t) (append-none (signatures env) ∙ sym (signatures-append env (sort_decl m ∷ []))) ∙ at)
more-arities file env (assertion_decl a) row so_far t s at = so_far t s (ap (λ xs. slice_get xs t) (append-none (signatures env) ∙ sym (signatures-append env (assertion_decl a ∷ []))) ∙ at)
more-arities file env (term_decl d) (there, says) so_far t s at =
    elim (get-in-two (signatures env) d.signature s t (ap (λ xs. slice_get xs t) (sym (signatures-append env (term_decl d ∷ []))) ∙ at)) [
      | inl before ↦ so_far t s before
      | inr last ↦ (
          let row : t ≡ length (terms env) = last.0 ∙ length-signatures env in (
            omega (arith, row, there),
            ap (λ (x : Signature). length x.params) (sym last.1 ∙ says.signature) ∙ length-binders 0 [] (term_row file (length (terms env))).words.params ∙ ap (λ (r : ℕ). length (term_row file r).words.params) (sym row),
          ))
    ]

chain-arities : (standard : Standard) (file : List ℕ) (env : List Declaration) (from : ℕ) (ss : List Statement) (env' : List Declaration) (to : ℕ) → GoodTo standard file env from ss env' to → Arities file env → Arities file env'
chain-arities standard file env from [] env' to (same, _) so_far = subst (Arities file) (sym same) so_far
chain-arities standard file env from (s ∷ ss) env' to (next, good, rest) so_far =
    chain-arities standard file (env ++ s.decl ∷ []) next ss env' to rest (more-arities file env s.decl (good-rows standard file env from s next good) so_far)

-- ---- a whole stream

within-is : (file : List ℕ) (kind : StreamKind) (at : ℕ) (us : List UnifyCommand) → StreamIs kind (drop at file) us → at ≤ length file
within-is file kind at [] (c, read, is) = let t = command-takes file at c read in omega (arith, t.0, t.1)
within-is file kind at (u ∷ us) (c, read, is, going, rest) = let t = command-takes file at c read in omega (arith, t.0, t.1)

variable-at : (i j : ℕ) (ps : List Binder) → j < length ps → slice_get (variables_from i ps) j ≡ Some (var (i + j))
variable-at i j [] below = absurd (omega arith)
variable-at i zero (p ∷ ps) below = ap (λ (x : ℕ). Some (var x)) (let e : i ≡ i + 0 = omega arith in e)
variable-at i (suc j) (p ∷ ps) below = variable-at (suc i) j ps (omega arith) ∙ ap (λ (x : ℕ). Some (var x)) (let e : suc i + j ≡ i + suc j = omega arith in e)

module _ (file : List ℕ) (sigs : List Signature) (params : List Binder) (start : ℕ)
    (arities : (t : ℕ) (s : Signature) → slice_get sigs t ≡ Some s → (t < term_count file) × (length s.params ≡ length (term_row file t).words.params)) where
  abbrev n : ℕ
  n = length params

  -- the marks of the whole
  whole-marks : (last : Marks) (to d' : ℕ) (made : List Tree) → last.trees ≡ variables_from 0 params ++ made → length last.dummies ≤ 55 → Segment file n last start 0 to d' made → AreMarks file n start last
  whole-marks last to d' made trees_are few seg = record {
    params = λ i below.
        let many = length-params 0 params in
        ap (λ xs. slice_get xs i) trees_are ∙ slice_get-within (variables_from 0 params) made i (omega (arith, below, many)) ∙ variable-at 0 i params below ∙ ap (λ (x : ℕ). Some (var x)) (let e : 0 + i ≡ i = omega arith in e);
    made = λ j f at.
        let many = length-params 0 params in
        let there : length (variables_from 0 params) + j ≡ n + j = omega (arith, many) in
        let h = seg.holds j f (sym (slice_get-append_add (variables_from 0 params) made j) ∙ ap (slice_get (variables_from 0 params ++ made)) there ∙ ap (λ xs. slice_get xs (n + j)) (sym trees_are) ∙ at) in
        record { many = h.many; place = h.place; end = h.end; found = h.found; made = h.made };
    few = few;
  }

  -- what is said of a text
  record SaidText (last : Marks) (hyps : Trees) (conclusion : Tree) : Type 0 where
    first : SaysFirst file n start last conclusion
    hyps_said : last.dummies ≡ [] → HypsAreSaid file n last first.to.at (reverse (listed hyps))

  text-said : (kind : StreamKind) (hyps : Trees) (conclusion : Tree) (last : Marks) → SpellsText kind sigs params (drop start file) hyps conclusion last → length last.dummies ≤ 55 → SaidText last hyps conclusion
  text-said kind hyps conclusion last (us, stream, mid, rest, spelled, spelled-hyps) few =
      let on : Grows mid last = hyps-grow file n last kind sigs arities mid rest (reverse (listed hyps)) last spelled-hyps in
      let first = spelled-said file n last kind sigs arities (at_first params) us conclusion mid rest start spelled stream on in
      let later = hyps-said file n last kind sigs arities mid rest (reverse (listed hyps)) last first.to spelled-hyps first.rest (grows-not last) in
      let segment = joined file n last start 0 first.to (length mid.dummies) later.to (length last.dummies) first.made later.made first.segment later.segment in
      let trees_are : last.trees ≡ variables_from 0 params ++ (first.made ++ later.made) =
      later.trees_are ∙ ap (λ xs. xs ++ later.made) first.trees_are ∙ append_assoc (variables_from 0 params) first.made later.made in
      record {
        first = record {
          within = within-is file kind start us stream;
          marks = whole-marks last later.to (length last.dummies) (first.made ++ later.made) trees_are few segment;
          to = record { at = first.to; dummies = length mid.dummies };
          said = first.said;
        };
        hyps_said = later.said;
      }

-- ---- rows

form-said : (file : List ℕ) (env : List Declaration) (r : ℕ) (d : Term) → Arities file env → SaysTerm (sorts env) (term_row file r) d
    → SpellsForm (signatures env) (term_of_file file r).signature.params (term_of_file file r).stream d.form
    → ((dummies : List Binder) (body : Tree) → d.form ≡ defined dummies body → length dummies ≤ 55)
    → SaysForm file (length (term_row file r).words.params) (term_row file r).stream_at d.form
form-said file env r d arities says spelled few = go d.form refl says.form spelled
  where
    params : List Binder
    params = binders_of (term_row file r).words.params

    no-open : (o : Option (List ℕ)) → SpellsForm (signatures env) params o abstract_form → ⊥
    no-open None spells = spells
    no-open (Some stream) spells = spells

    go : (f : Form) → d.form ≡ f → (term_row file r).words.has_body ≡ is_defined f → SpellsForm (signatures env) params (stream_of file (term_row file r)) f
        → SaysForm file (length (term_row file r).words.params) (term_row file r).stream_at f
    go plain_form is body spells = tt
    go abstract_form is body spells = no-open (stream_of file (term_row file r)) spells
    go (defined dummies e) is body spells =
        let (last, text, met) = subst (λ (o : Option (List ℕ)). SpellsForm (signatures env) params o (defined dummies e)) (ap (λ (b : Bool). if b then Some (drop (term_row file r).stream_at file) else None) body) spells in
        let enough : length last.dummies ≤ 55 = subst (λ (bs : List Binder). length bs ≤ 55) (sym met) (few dummies e is) in
        let said = text-said file (signatures env) params (term_row file r).stream_at arities of_definition none e last text enough in
        (last, subst (λ (k : ℕ). SaysFirst file k (term_row file r).stream_at last e) (length-binders 0 [] (term_row file r).words.params) said.first, met)

claims-said : (file : List ℕ) (env : List Declaration) (r : ℕ) (a : Assertion) → Arities file env → Text of_assertion (signatures env) (binders_of (thm_row file r).params) (drop (thm_row file r).stream_at file) a.hyps a.conclusion []
    → SaysClaims file (length (thm_row file r).params) (thm_row file r).stream_at a
claims-said file env r a arities (last, text, met) =
    let params = binders_of (thm_row file r).params in
    let enough : length last.dummies ≤ 55 = subst (λ (bs : List Binder). length bs ≤ 55) (sym met) (omega arith) in
    let said = text-said file (signatures env) params (thm_row file r).stream_at arities of_assertion a.hyps a.conclusion last text enough in
    let whole : SaysClaims file (length params) (thm_row file r).stream_at a = record { marks = last; conclusion = said.first; no_dummies = met; hyps = said.hyps_said met } in
    subst (λ (k : ℕ). SaysClaims file k (thm_row file r).stream_at a) (length-binders 0 [] (thm_row file r).params) whole

-- the byte that is reported of an axiom or a theorem is that of its code
assertion-kind : (b : Bool) → (if b then 0x02 else 0x06) ≡ statement_byte (assertion_code b)
assertion-kind true = refl
assertion-kind false = refl

row-reported : (file : List ℕ) (env : List Declaration) (told : Reported) (d : Declaration) → Arities file env → told.kind ≡ kind_code d → told.row ≡ row_after env d → HasRow file env d → SpellsRow file env d
    → ((t : Term) (dummies : List Binder) (body : Tree) → d ≡ term_decl t → t.form ≡ defined dummies body → length dummies ≤ 55) → IsRowOf file told d
row-reported file env told (sort_decl m) arities kind row (here, is) spelled few = (kind, omega (arith, row, here), is ∙ ap (mods_of file) (sym row))
row-reported file env told (term_decl t) arities kind row (there, says) (_, spelled) few = (
  kind,
  subst (λ (r : ℕ). IsTermRow file r t) (sym row) (record {
    there = there;
    signature = says.signature;
    few = (right-words (sorts env) (term_row file (length (terms env))).words.params says.params).3;
    has_body = says.form;
    form = form-said file env (length (terms env)) t arities says spelled.1 (λ dummies body is. few t dummies body refl is);
  }),
)
row-reported file env told (assertion_decl a) arities kind row (there, says) (_, spelled) few = (
  kind ∙ assertion-kind a.is_axiom,
  subst (λ (r : ℕ). IsThmRow file r a) (sym row) (record {
    there = there;
    params = says.signature;
    few = (right-words (sorts env) (thm_row file (length (assertions env))).params says.params).3;
    claims = claims-said file env (length (assertions env)) a arities spelled.1;
  }),
)

-- its row says what it declares
pub reported-row : (standard : Standard) (file rows : List ℕ) (told : Reported) (ss : List Statement) (env : List Declaration) (s : Statement) (next : ℕ) → IsReported standard file rows told ss env s next → IsRowOf file told s.decl
reported-row standard file rows told ss env s next is =
    let arities = chain-arities standard file [] (list_at file) ss env told.at is.before (λ t x at. absurd cc) in
    row-reported file env told s.decl arities is.tells.kind is.tells.row (good-rows standard file env told.at s next is.good) is.good.spelled.row
    (λ t dummies body d-is form-is. few-dummies standard file ss env told.at s next t dummies body is.before is.good d-is form-is)

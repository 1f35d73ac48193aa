-- When the parts of a binary say a text: statement by statement the row of a table, the command's code and the body
-- (the .mmb format's tables and list of statements).
use Rattle.std.specs.Prelude.{◌≡◌, ◌<◌, ◌^◌, ◌++◌, ℕ, Bool, false, List, [], ◌∷◌, length, Some, None, slice_get}
use Rattle.mz_logic_theory.specs.Tree.{none, listed}
use Rattle.mz_logic_theory.specs.Signature.{Signature}
use Rattle.mz_logic_theory.specs.Declaration.{Form, plain_form, defined, Term, Assertion, Declaration, sort_decl, term_decl, assertion_decl, sorts, terms, signatures, assertions}
use Rattle.mz_logic_theory.specs.Legality.{Each}
use Rattle.mz_logic_theory.specs.LegalLists.{Statement}
use Rattle.mz_logic_theory.specs.Modifiers.{MayBeResultSort}
use Rattle.mz_logic_theory.specs.Words.{word_bound, word_sort, word_deps, binders_of, signature_of}
use Rattle.mz_logic_theory.specs.declared.binder.Binder.{Binder}
use Rattle.mz_logic_theory.specs.declared.binder.SortMods.{SortMods}
use Rattle.mz_logic_theory.specs.declared.word.Word.{Word}
use Rattle.mz_layout_tables.specs.Normal.{Written, Parts, row_of_term, row_of_thm}
use Rattle.mz_machine_theory.specs.Streams.{of_assertion, of_definition}
use Rattle.mz_machine_theory.specs.Lists.{kind_of}
use Rattle.mz_layout_tables.specs.RowWords.{bound_count, AreParamWords}
use Rattle.mz_machine_theory.specs.MachineState.{is_definition}
use Rattle.mz_emit_theory.specs.AlphaEquivalence.{IsSameTerm}
use Rattle.mz_emit_theory.specs.SharedBodies.{IsSharedBody}
use Rattle.mz_emit_theory.specs.SharedTexts.{IsSharedText}
use Rattle.mz_binary_theory.specs.Spelling.{HasKind}

-- ---- rows

-- the words say these parameters, and are right over these sorts
pub record SayParams (ss : List SortMods) (ws : List Word) (params : List Binder) : Type 0 where
  pub right : AreParamWords ss ws
  pub said : binders_of ws ≡ params

-- the words and, after them, the result's say this signature, and are right over these sorts
pub record SaySignature (ss : List SortMods) (ws : List Word) (result : Word) (signature : Signature) : Type 0 where
  pub right : AreParamWords ss ws
  pub is_regular : word_bound result ≡ false
  pub may_be : MayBeResultSort ss (word_sort result)
  pub bits : word_deps result < 2 ^ bound_count ws
  pub said : signature_of (record { params = ws; result = result; has_body = false }) ≡ signature

-- ---- statements; the proofs of theorems may have gaps, or not

-- A plain term's row has no stream, and its body is empty. A definition's stream spells the made body, and its body
-- makes the text's; both share what they build.
abbrev pub IsWrittenForm : Bool → Parts → List Declaration → Bool → Signature → List Word → Word → Form → Form → List ℕ → Type 0
IsWrittenForm gaps p env is_local signature ws result plain_form plain_form bytes =
    (slice_get p.terms (length (terms env)) ≡ Some (row_of_term ws result None)) × (is_local ≡ false) × (bytes ≡ [])
IsWrittenForm gaps p env is_local signature ws result (defined dummies e) (defined dummies' e') bytes =
    (stream : List ℕ) × (slice_get p.terms (length (terms env)) ≡ Some (row_of_term ws result (Some stream)))
    × IsSharedText of_definition (signatures env) signature.params stream none e' dummies'
    × IsSharedBody gaps env is_definition signature.params dummies e [] bytes
IsWrittenForm gaps p env is_local signature ws result form form' bytes = ⊥

abbrev pub IsWrittenTerm : Bool → Parts → List Declaration → Bool → Term → Term → List ℕ → Type 0
IsWrittenTerm gaps p env is_local d d' bytes =
    IsSameTerm d d' × ((ws : List Word) × (result : Word) × SaySignature (sorts env) ws result d.signature × IsWrittenForm gaps p env is_local d.signature ws result d.form d'.form bytes)

-- An assertion's stream spells its conclusion and hypotheses, and its body makes them; both share what they build.
pub record IsWrittenAssertion (gaps : Bool) (p : Parts) (env : List Declaration) (a : Assertion) (bytes : List ℕ) : Type 0 where
  pub words : List Word
  pub stream : List ℕ
  pub row : slice_get p.thms (length (assertions env)) ≡ Some (row_of_thm words stream)
  pub say : SayParams (sorts env) words a.params
  pub text : IsSharedText of_assertion (signatures env) a.params stream a.hyps a.conclusion []
  pub dummies : List Binder
  pub are_dummies : Each dummies (λ _ b. b.deps ≡ [])
  pub body : IsSharedBody gaps env (kind_of a.is_axiom) a.params dummies a.conclusion (listed a.hyps) bytes

-- after the text's env, the next row and these bytes say the text's declaration; the made one is the same but for the
-- dummies of a definition's body, which are numbered as the stream meets them
abbrev pub IsWrittenDeclaration : Bool → Parts → List Declaration → Bool → Declaration → Declaration → List ℕ → Type 0
IsWrittenDeclaration gaps p env is_local (sort_decl m) (sort_decl m') bytes = (m ≡ m') × (slice_get p.sorts (length (sorts env)) ≡ Some m.0) × (bytes ≡ [])
IsWrittenDeclaration gaps p env is_local (term_decl d) (term_decl d') bytes = IsWrittenTerm gaps p env is_local d d' bytes
IsWrittenDeclaration gaps p env is_local (assertion_decl a) (assertion_decl a') bytes = (a ≡ a') × IsWrittenAssertion gaps p env a bytes
IsWrittenDeclaration gaps p env is_local d d' bytes = ⊥

-- the text's statement and the made one have one visibility, which the code says with the kind
pub record IsWrittenStatement (gaps : Bool) (p : Parts) (env : List Declaration) (t s : Statement) (w : Written) : Type 0 where
  pub mark : t.is_local ≡ s.is_local
  pub code : HasKind w.code s
  pub declaration : IsWrittenDeclaration gaps p env s.is_local t.decl s.decl w.body

-- ---- all of them

-- the rows are those of env
pub record HaveNoMore (p : Parts) (env : List Declaration) : Type 0 where
  pub no_sorts : length (sorts env) ≡ length p.sorts
  pub no_terms : length (terms env) ≡ length p.terms
  pub no_thms : length (assertions env) ≡ length p.thms

-- after the text's env, its statements ts and the made ones ss are those of the list, one by one, and no rows are left
abbrev pub AreWritten : Bool → Parts → List Declaration → List Statement → List Statement → List Written → Type 0
AreWritten gaps p env [] [] [] = HaveNoMore p env
AreWritten gaps p env (t ∷ ts) (s ∷ ss) (w ∷ ws) = IsWrittenStatement gaps p env t s w × AreWritten gaps p (env ++ t.decl ∷ []) ts ss ws
AreWritten gaps p env ts ss ws = ⊥

-- the parts say the text, whose statements are `text`; those of the binary are `made`
abbrev pub IsWrittenAs : Bool → Parts → List Statement → List Statement → Type 0
IsWrittenAs gaps p text made = AreWritten gaps p [] text made p.statements

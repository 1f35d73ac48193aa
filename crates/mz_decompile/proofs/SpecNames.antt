-- The names of a specification's declarations are identifiers, each another than those before it in its space.
use Rattle.std.proofs.Common.{◌≡◌, ◌⊎◌, ◌∙◌, ℕ, zero, suc, List, [], ◌∷◌, ◌++◌, map, drop, Option, Some, None, inl, inr, refl, sym, ap, subst, append_assoc, append-nil}
use Rattle.std.specs.Prelude.{⊤, IsTrue, slice_get, codes, slice_range}
use Rattle.mz_base.specs.Identifiers.{is_name}
use Rattle.mz_lex.specs.Kinds.{is_of_kind}
use Rattle.mz_lex.specs.Lexemes.{Lexeme, IsNext, LexesFrom}
use Rattle.mz_lex.specs.declared.token.LexFault.{LexFault}
use Rattle.mz_logic_theory.specs.Declaration.{Declaration}
use Rattle.mz_math_theory.specs.Notation.{Table}
use Rattle.mz_spec_theory.specs.Statement.{SpecStatement, sort_statement, term_statement, assert_statement, definition_statement, operator_statement, coercion_statement, delimiter_statement, notation_statement, Spells, Sign, keyword, symbol, name, name_or_blank, formula, number, only_if, IsSign, AreSigns, end_signs, modifier_signs, statement_signs}
use Rattle.mz_spec_theory.specs.Reading.{place_of_first}
use Rattle.mz_spec_theory.specs.declared.spec.NameSpan.{NameSpan}
use Rattle.mz_base.specs.Names.{IsNew}
use Rattle.mz_base.proofs.Offered.{new-first}
use Rattle.mz_spec_theory.specs.Dependencies.{Every}
use Rattle.mz_spec_theory.specs.State.{State, Entry, nothing, span_at, env_of, with_table}
use Rattle.mz_spec_theory.specs.Declaring.{After}
use Rattle.mz_spec_theory.specs.Spec.{IsGood, Stand, SpecMakes}
use Rattle.mz_spec_theory.proofs.Offered.{IsOfKind, every-front, good-new, entries-decls, entries-spans, kept-nothing, lexes-kinds, stand-kept}
use Rattle.mz_spec_theory.specs.Names.{name_in}
use Rattle.mz_decompile_text.specs.Names.{names_from, declared_names}
use Rattle.mz_decompile.proofs.Seen.{Seen, none_seen, seen_in, seen_with, IsOther, AreNew}

new-other : (xs : List (List ℕ)) (w : List ℕ) → IsNew xs w → IsOther w xs
new-other [] w new = tt
new-other (x ∷ xs) w new = let parts = new-first x xs w new in (parts.0, new-other xs w parts.1)

module _ (text : List ℕ) where
  -- ---- lexemes, and the signs that they are

  abbrev IsHere : Lexeme → Type 0
  IsHere l = IsOfKind l × (l.text ≡ slice_range text l.from l.to)

  next-here : (from : ℕ) (l : Lexeme) → IsNext text from l → IsHere l
  next-here from l is = (subst (λ t. IsOfKind (record l { text = t })) (sym is.spelled) is.kind, is.spelled)

  lexes-here : (from : ℕ) (ls : List Lexeme) (e : Option LexFault) → LexesFrom text from ls e → Every IsHere ls
  lexes-here from [] e lexes = tt
  lexes-here from (l ∷ ls) e (is, lexes) = (next-here from l is, lexes-here l.to ls e lexes)

  -- an identifier, with its bytes
  abbrev IsNameHere : Lexeme → Type 0
  IsNameHere u = IsTrue (is_name u.text) × (u.text ≡ slice_range text u.from u.to)

  abbrev SignHere : Sign → Type 0
  SignHere (name u) = IsNameHere u
  SignHere (keyword t) = ⊤
  SignHere (symbol t) = ⊤
  SignHere (name_or_blank u) = ⊤
  SignHere (formula u) = ⊤
  SignHere (number u) = ⊤
  SignHere (only_if b s) = ⊤

  sign-here : (s : Sign) (l : Lexeme) → IsSign s l → IsHere l → SignHere s
  sign-here (name u) l (kind, same) (of, here) = subst IsNameHere same (subst (λ k. IsTrue (is_of_kind k l.text)) kind of, here)
  sign-here (keyword t) l is here = tt
  sign-here (symbol t) l is here = tt
  sign-here (name_or_blank u) l is here = tt
  sign-here (formula u) l is here = tt
  sign-here (number u) l is here = tt
  sign-here (only_if b s) l is here = tt

  signs-here : (ss : List Sign) (ls : List Lexeme) → AreSigns ss ls → Every IsHere ls → Every SignHere ss
  signs-here [] [] are here = tt
  signs-here [] (l ∷ ls) are here = absurd are
  signs-here (s ∷ ss) [] are here = absurd are
  signs-here (s ∷ ss) (l ∷ ls) (is, are) (h, here) = (sign-here s l is h, signs-here ss ls are here)

  sort-here : (m : List Sign) (n : Lexeme) → Every SignHere (m ++ keyword (codes "sort") ∷ name n ∷ end_signs) → IsNameHere n
  sort-here m n all = (every-front SignHere m _ all).1.1.0

  -- ---- the names before a statement

  abbrev seen : State → Seen
  seen σ = record { sorts = σ.sort_names; terms = σ.term_names; assertions = σ.assertion_names }

  abbrev span_name : NameSpan → List ℕ
  span_name m = slice_range text m.from m.to

  -- one declaration more, under a new name
  record Adds (σ ρ : State) : Type 0 where
    decl : Declaration
    span : NameSpan
    env_is : ρ.env ≡ σ.env ++ decl ∷ []
    spans_are : ρ.spans ≡ σ.spans ++ span ∷ []
    seen_is : seen ρ ≡ seen_with (seen σ) (span_name span) decl
    is_named : IsTrue (is_name (span_name span))
    other : IsOther (span_name span) (seen_in (seen σ) decl)

  record Stays (σ ρ : State) : Type 0 where
    env_is : ρ.env ≡ σ.env
    spans_are : ρ.spans ≡ σ.spans
    seen_is : seen ρ ≡ seen σ

  -- by the lexeme that names it
  adds : (σ ρ : State) (d : Declaration) (place : ℕ) (n : Lexeme) → ρ.env ≡ σ.env ++ d ∷ [] → ρ.spans ≡ σ.spans ++ span_at place n ∷ [] → seen ρ ≡ seen_with (seen σ) n.text d
      → IsNameHere n → IsOther n.text (seen_in (seen σ) d) → Adds σ ρ
  adds σ ρ d place n env spans is (named, here) other = record {
    decl = d;
    span = span_at place n;
    env_is = env;
    spans_are = spans;
    seen_is = is ∙ ap (λ (w : List ℕ). seen_with (seen σ) w d) here;
    is_named = subst (λ (w : List ℕ). IsTrue (is_name w)) here named;
    other = subst (λ (w : List ℕ). IsOther w (seen_in (seen σ) d)) here other;
  }

  stays : (σ ρ : State) (u : Table) → ρ ≡ with_table σ u → Stays σ ρ
  stays σ ρ u is = record { env_is = ap (λ (x : State). x.env) is; spans_are = ap (λ (x : State). x.spans) is; seen_is = ap seen is }

  -- in the space of the declaration's kind
  in-space : (σ : State) (d e : Declaration) (w : List ℕ) → d ≡ e → IsOther w (seen_in (seen σ) e) → IsOther w (seen_in (seen σ) d)
  in-space σ d e w is other = subst (λ (x : Declaration). IsOther w (seen_in (seen σ) x)) (sym is) other

  step : (σ ρ : State) (place : ℕ) (s : SpecStatement) (ls : List Lexeme) → Every IsHere ls → Spells s ls → IsGood σ place s → After σ place s ρ → Adds σ ρ ⊎ Stays σ ρ
  step σ ρ place (sort_statement m n) ls here spells (tokens, cut, good) (d, is, same) =
      let named = sort-here (modifier_signs m) n (signs-here (statement_signs (sort_statement m n)) ls spells here) in
      let new = new-other σ.sort_names n.text (good-new σ place (sort_statement m n) tokens good).0 in
      inl (adds σ ρ d place n (ap (λ (x : State). x.env) same) (ap (λ (x : State). x.spans) same)
      (ap seen same ∙ ap (seen_with (seen σ) n.text) (sym is)) named (in-space σ d _ n.text is new))
  step σ ρ place (term_statement h ts t) ls here spells (tokens, cut, good) (d, is, same) =
      let named = (signs-here (statement_signs (term_statement h ts t)) ls spells here).1.0 in
      let new = new-other σ.term_names h.name.text (good-new σ place (term_statement h ts t) tokens good).0 in
      inl (adds σ ρ d place h.name (ap (λ (x : State). x.env) same) (ap (λ (x : State). x.spans) same)
      (ap seen same ∙ ap (seen_with (seen σ) h.name.text) (sym is)) named (in-space σ d _ h.name.text is new))
  step σ ρ place (assert_statement k h ps c) ls here spells (tokens, cut, good) (d, (hyps, e, are, means, is), same) =
      let named = (signs-here (statement_signs (assert_statement k h ps c)) ls spells here).1.0 in
      let new = new-other σ.assertion_names h.name.text (good-new σ place (assert_statement k h ps c) tokens good).0 in
      inl (adds σ ρ d place h.name (ap (λ (x : State). x.env) same) (ap (λ (x : State). x.spans) same)
      (ap seen same ∙ ap (seen_with (seen σ) h.name.text) (sym is)) named (in-space σ d _ h.name.text is new))
  step σ ρ place (definition_statement h t b) ls here spells (tokens, cut, good) (d, (f, form, is), same) =
      let named = (signs-here (statement_signs (definition_statement h t b)) ls spells here).1.0 in
      let new = new-other σ.term_names h.name.text (good-new σ place (definition_statement h t b) tokens good).0 in
      inl (adds σ ρ d place h.name (ap (λ (x : State). x.env) same) (ap (λ (x : State). x.spans) same)
      (ap seen same ∙ ap (seen_with (seen σ) h.name.text) (sym is)) named (in-space σ d _ h.name.text is new))
  step σ ρ place (operator_statement f n c l) ls here spells good (u, changes, same) = inr (stays σ ρ u same)
  step σ ρ place (coercion_statement n from to) ls here spells good (u, changes, same) = inr (stays σ ρ u same)
  step σ ρ place (delimiter_statement left right) ls here spells good (u, changes, same) = inr (stays σ ρ u same)
  step σ ρ place (notation_statement h t ls' l tail) ls here spells good (u, changes, same) = inr (stays σ ρ u same)

  -- ---- all statements

  -- what stands behind σ in τ, under new names
  record Further (σ τ : State) : Type 0 where
    decls : List Declaration
    spans : List NameSpan
    env_is : τ.env ≡ σ.env ++ decls
    spans_are : τ.spans ≡ σ.spans ++ spans
    new : AreNew (seen σ) decls (map span_name spans)

  add-first : (σ ρ τ : State) → Adds σ ρ → Further ρ τ → Further σ τ
  add-first σ ρ τ a f = record {
    decls = a.decl ∷ f.decls;
    spans = a.span ∷ f.spans;
    env_is = f.env_is ∙ ap (λ (xs : List Declaration). xs ++ f.decls) a.env_is ∙ append_assoc σ.env (a.decl ∷ []) f.decls;
    spans_are = f.spans_are ∙ ap (λ (xs : List NameSpan). xs ++ f.spans) a.spans_are ∙ append_assoc σ.spans (a.span ∷ []) f.spans;
    new = (a.is_named, a.other, subst (λ (x : Seen). AreNew x f.decls (map span_name f.spans)) a.seen_is f.new);
  }

  stay-first : (σ ρ τ : State) → Stays σ ρ → Further ρ τ → Further σ τ
  stay-first σ ρ τ a f = record {
    decls = f.decls;
    spans = f.spans;
    env_is = f.env_is ∙ ap (λ (xs : List Declaration). xs ++ f.decls) a.env_is;
    spans_are = f.spans_are ∙ ap (λ (xs : List NameSpan). xs ++ f.spans) a.spans_are;
    new = subst (λ (x : Seen). AreNew x f.decls (map span_name f.spans)) a.seen_is f.new;
  }

  stand-further : (σ τ : State) (ss : List SpecStatement) (ls rest : List Lexeme) → Every IsHere ls → Stand σ ss ls τ rest → Further σ τ
  stand-further σ τ [] ls rest here (same, _) = record {
    decls = [];
    spans = [];
    env_is = ap (λ (x : State). x.env) same ∙ sym (append-nil σ.env);
    spans_are = ap (λ (x : State). x.spans) same ∙ sym (append-nil σ.spans);
    new = tt;
  }
  stand-further σ τ (s ∷ ss) ls rest here (front, back, ρ, is, spells, good, after, more) =
      let parts = every-front IsHere front back (subst (Every IsHere) is here) in
      let further = stand-further ρ τ ss back rest parts.1 more in
      elim (step σ ρ (place_of_first front) s front parts.0 spells good after) [ inl a ↦ add-first σ ρ τ a further | inr a ↦ stay-first σ ρ τ a further ]

  -- ---- as the declarations' names

  get-drop : {A : Type 0} (xs : List A) (k : ℕ) (y : A) (ys : List A) → drop k xs ≡ y ∷ ys → (slice_get xs k ≡ Some y) × (drop (suc k) xs ≡ ys)
  get-drop [] zero y ys is = absurd cc
  get-drop [] (suc k) y ys is = absurd cc
  get-drop (x ∷ xs) zero y ys is = let same : x ≡ y = cc in let rest : xs ≡ ys = cc in (ap Some same, rest)
  get-drop (x ∷ xs) (suc k) y ys is = get-drop xs k y ys is

  names-mapped : (all : List Entry) (k : ℕ) (es : List Entry) → drop k all ≡ es → names_from text all k es ≡ map (λ e. slice_range text e.from e.to) es
  names-mapped all k [] is = refl
  names-mapped all k (e ∷ es) is =
      let parts = get-drop all k e es is in
      ap (λ (o : Option Entry). name_in text o ∷ names_from text all (suc k) es) parts.0
      ∙ ap (λ (ws : List (List ℕ)). slice_range text e.from e.to ∷ ws) (names-mapped all (suc k) es parts.1)

  pub spec-names : (entries : List Entry) → SpecMakes text entries → AreNew none_seen (env_of entries) (declared_names text entries)
  spec-names entries (ls, ss, σ, lexes, stand, is) =
      let further = stand-further nothing σ ss ls [] (lexes-here 0 ls None lexes) stand in
      let kept = stand-kept nothing σ ss ls [] kept-nothing (lexes-kinds text 0 ls None lexes) stand in
      let names : declared_names text entries ≡ map span_name σ.spans =
      names-mapped entries 0 entries refl ∙ ap (map (λ (e : Entry). slice_range text e.from e.to)) is
      ∙ entries-spans (λ e. slice_range text e.from e.to) span_name (λ d m. refl) σ.env σ.spans kept.spans in
      let decls : env_of entries ≡ σ.env = ap env_of is ∙ entries-decls σ.env σ.spans kept.spans in
      subst (λ (ds : List Declaration). AreNew none_seen ds (declared_names text entries)) (sym (decls ∙ further.env_is))
      (subst (AreNew none_seen further.decls) (sym (names ∙ ap (map span_name) further.spans_are)) further.new)

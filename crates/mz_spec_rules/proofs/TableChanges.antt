-- The names of terms alone, where the table changes.
use Rattle.std.proofs.Common.{◌≡◌, ◌∙◌, ◌++◌, ℕ, Bool, true, false, List, [], ◌∷◌, Option, length, ap, sym, refl}
use Rattle.std.specs.Prelude.{if◌then◌else◌}
use Rattle.std.proofs.lemmas.List.{length-map, map-append}
use Rattle.mz_lex.specs.Lexemes.{Lexeme}
use Rattle.mz_logic_theory.specs.Declaration.{Declaration}
use Rattle.mz_math_theory.specs.declared.notation.Notation.{Notation}
use Rattle.mz_math_theory.specs.Forms.{AddsNotation, AddsDelimiters}
use Rattle.mz_math_theory.specs.Notation.{Table, begins_with_slot, with_infix, with_leading, with_name, TermName}
use Rattle.mz_spec_rules.specs.Entries.{names_alone}
use Rattle.mz_spec_theory.specs.State.{State, span_at, with_table, with_term}
use Rattle.mz_spec_theory.specs.declared.spec.NameSpan.{NameSpan}

pub names-many : (ns : List TermName) → length (names_alone ns) ≡ length ns
names-many ns = length-map ns (λ (m : TermName). m.name)

names-more : (ns : List TermName) (n : TermName) → names_alone (ns ++ n ∷ []) ≡ names_alone ns ++ n.name ∷ []
names-more ns n = map-append (λ (m : TermName). m.name) ns (n ∷ [])

-- the state with one more term
pub term-pushed : (σ : State) (place : ℕ) (l : Lexeme) (d : Declaration) (number : ℕ) (u : Table) (env : List Declaration) (spans : List NameSpan)
    → σ.term_names ≡ names_alone σ.table.names → number ≡ length σ.term_names → u ≡ with_name σ.table (record { name = l.text; term = number })
    → env ≡ σ.env ++ d ∷ [] → spans ≡ σ.spans ++ span_at place l ∷ []
    → record σ { term_names = names_alone u.names; env = env; spans = spans; table = u } ≡ with_term σ place l d
term-pushed σ place l d number u env spans alone numbered is declared marked =
    let make : List (List ℕ) → Table → List Declaration → List NameSpan → State = λ ws v ds ms. record σ { term_names = ws; env = ds; spans = ms; table = v } in
    let name : ℕ → TermName = λ k. record { name = l.text; term = k } in
    let texts : names_alone (σ.table.names ++ name number ∷ []) ≡ σ.term_names ++ l.text ∷ [] = names-more σ.table.names (name number) ∙ ap (λ ws. ws ++ l.text ∷ []) (sym alone) in
    ap (λ (v : Table). make (names_alone v.names) v env spans) is
    ∙ ap (λ ws. make ws (with_name σ.table (name number)) env spans) texts
    ∙ ap (λ k. make (σ.term_names ++ l.text ∷ []) (with_name σ.table (name k)) env spans) numbered
    ∙ ap (λ ds. make (σ.term_names ++ l.text ∷ []) (with_name σ.table (name (length σ.term_names))) ds spans) declared
    ∙ ap (λ ms. make (σ.term_names ++ l.text ∷ []) (with_name σ.table (name (length σ.term_names))) (σ.env ++ d ∷ []) ms) marked

-- the state with another table, which has the names of terms
abbrev pub over_table : State → Table → State
over_table σ u = record σ { term_names = names_alone u.names; table = u }

pub same-names : (σ : State) (u : Table) → names_alone u.names ≡ σ.term_names → over_table σ u ≡ with_table σ u
same-names σ u are = ap (λ (ws : List (List ℕ)). record σ { term_names = ws; table = u }) are

notation-names : (t : Table) (k : Notation) (b : Bool) → (if b then with_infix t k else with_leading t k).names ≡ t.names
notation-names t k true = refl
notation-names t k false = refl

pub notation-same : (t u : Table) (Makes : Notation → Type 0) → AddsNotation t Makes u → u.names ≡ t.names
notation-same t u Makes (k, makes, is) = ap (λ (v : Table). v.names) is ∙ notation-names t k (begins_with_slot k.elements)

pub delimiters-same : (t u : Table) (left : List ℕ) (right : Option (List ℕ)) → AddsDelimiters t left right u → u.names ≡ t.names
delimiters-same t u left right (d, are, is) = ap (λ (v : Table). v.names) is

-- One more line of a specification is read: its statement is good, and declares what it was printed from.
use Rattle.std.proofs.Common.{ℕ, ◌≡◌, ◌++◌, ◌∙◌, List, [], ◌∷◌, length, refl, ap, sym, subst₂, append-nil, append_assoc}
use Rattle.mz_logic_theory.specs.Declaration.{Declaration}
use Rattle.mz_spec_theory.specs.Statement.{SpecStatement, Spells}
use Rattle.mz_spec_theory.specs.Reading.{place_of_first}
use Rattle.mz_spec_theory.specs.State.{State, nothing}
use Rattle.mz_spec_theory.specs.Spec.{IsGood, Stand}
use Rattle.mz_spec_theory.specs.Declaring.{After}
use Rattle.mz_prefix.specs.Tokens.{Word, lexemes_at, AreWords}
use Rattle.mz_prefix.specs.Lines.{line_words, statement_at}
use Rattle.mz_prefix.specs.NamedDeclarations.{Vocabulary, HasVariables, IsPrintable, line_of_decl, used_with}
use Rattle.mz_prefix.proofs.Offered.{Step, behind-nothing, its-dummies, line-plain, step-of, IsBehind, lines-spell, line-is}
use Rattle.mz_tool.proofs.Vocabulary.{sort_name, term_name, ab, AreVariables, ab-are}
use Rattle.mz_tool.proofs.Lexed.{next_row, rows_lexemes, AreRows}

-- the names of the samples' specifications, with these for a statement's variables
abbrev pub spoken : (ℕ → List ℕ) → Vocabulary
spoken f = record { sort = sort_name; term = term_name; variable = f }

pub has-variables : (f : ℕ → List ℕ) → AreVariables f → HasVariables (spoken f) 2
has-variables f are = record { names = λ x less. are.named x; distinct = are.own }

-- variables matter only in that none is named as a term
behind-as : (f g : ℕ → List ℕ) (σ : State) → AreVariables g → IsBehind (spoken f) 2 σ → IsBehind (spoken g) 2 σ
behind-as f g σ are behind = record {
  sorts_many = behind.sorts_many;
  terms_many = behind.terms_many;
  spans_many = behind.spans_many;
  sort_at = behind.sort_at;
  term_at = behind.term_at;
  sort_number = behind.sort_number;
  sort_name = behind.sort_name;
  term_found = behind.term_found;
  term_name = behind.term_name;
  apart = λ x t less below is. are.apart x t is;
  delimiters = behind.delimiters;
  leading = behind.leading;
}

-- the state behind these declarations, with these names of axioms and theorems
pub record Ready (σ : State) (env : List Declaration) (used : List (List ℕ)) : Type 0 where
  pub behind : IsBehind (spoken ab) 2 σ
  pub env_is : σ.env ≡ env
  pub used_is : σ.assertion_names ≡ used

pub ready-nothing : Ready nothing [] []
ready-nothing = record { behind = behind-nothing (spoken ab) 2 (has-variables ab ab-are); env_is = refl; used_is = refl }

-- ---- a row

-- the words, from a place on, are a good statement that declares d
pub record Read (σ : State) (p : ℕ) (ws : List Word) (env : List Declaration) (used : List (List ℕ)) (name : List ℕ) (d : Declaration) : Type 0 where
  pub statement : SpecStatement
  pub state : State
  pub spells : Spells statement (lexemes_at p ws)
  pub good : IsGood σ (place_of_first (lexemes_at p ws)) statement
  pub after : After σ (place_of_first (lexemes_at p ws)) statement state
  pub ready : Ready state (env ++ d ∷ []) (used_with used name d)
  pub are : (rest : List ℕ) → AreWords ws (10 ∷ rest)

module _ (f : ℕ → List ℕ) (fine : AreVariables f) (σ : State) (env : List Declaration) (used : List (List ℕ)) (ready : Ready σ env used) (p : ℕ) (name : List ℕ) (d : Declaration)
    (printable : IsPrintable (spoken f) 2 env used (record { name = name; decl = d })) where
  behind : IsBehind (spoken f) 2 σ
  behind = behind-as ab f σ fine ready.behind

  over : IsPrintable (spoken f) 2 σ.env σ.assertion_names (record { name = name; decl = d })
  over = subst₂ (λ (e : List Declaration) (u : List (List ℕ)). IsPrintable (spoken f) 2 e u (record { name = name; decl = d })) (sym ready.env_is) (sym ready.used_is) printable

  pub step : (place : ℕ) → Step (spoken f) 2 (has-variables f fine) σ place (statement_at p (line_of_decl (spoken f) name d)) name d
  step place = step-of (spoken f) 2 (has-variables f fine) σ place p name d behind over

  pub ready-behind : (place : ℕ) → Ready (step place).state (env ++ d ∷ []) (used_with used name d)
  ready-behind place = record {
    behind = behind-as f ab (step place).state ab-are (step place).behind;
    env_is = (step place).env ∙ ap (λ (e : List Declaration). e ++ d ∷ []) ready.env_is;
    used_is = (step place).used ∙ ap (λ (u : List (List ℕ)). used_with u name d) ready.used_is;
  }

  pub plain-read : Read σ p (line_words (line_of_decl (spoken f) name d)) env used name d
  plain-read =
      let place : ℕ = place_of_first (lexemes_at p (line_words (line_of_decl (spoken f) name d))) in
      record {
        statement = statement_at p (line_of_decl (spoken f) name d);
        state = (step place).state;
        spells = lines-spell p (line_of_decl (spoken f) name d) (its-dummies (spoken f) name d);
        good = (step place).good;
        after = (step place).after;
        ready = ready-behind place;
        are = λ rest. line-is (line_of_decl (spoken f) name d) (10 ∷ rest) (line-plain (spoken f) 2 (has-variables f fine) σ behind name d over);
      }

-- ---- all rows

pub record AllRead (σ : State) (p : ℕ) (wss : List (List Word)) (env ds : List Declaration) : Type 0 where
  pub last : State
  pub statements : List SpecStatement
  pub stand : Stand σ statements (rows_lexemes p wss) last []
  pub env_is : last.env ≡ env ++ ds
  pub spans : length last.spans ≡ length last.env
  pub are : AreRows wss

pub none-read : (σ : State) (p : ℕ) (env : List Declaration) (used : List (List ℕ)) → Ready σ env used → AllRead σ p [] env []
none-read σ p env used ready = record {
  last = σ;
  statements = [];
  stand = (refl, refl);
  env_is = ready.env_is ∙ sym (append-nil env);
  spans = ready.behind.spans_many;
  are = tt;
}

pub one-more-read : (σ : State) (p : ℕ) (ws : List Word) (wss : List (List Word)) (env : List Declaration) (used : List (List ℕ)) (name : List ℕ) (d : Declaration) (ds : List Declaration)
    → (one : Read σ p ws env used name d) → AllRead one.state (next_row p ws) wss (env ++ d ∷ []) ds → AllRead σ p (ws ∷ wss) env (d ∷ ds)
one-more-read σ p ws wss env used name d ds one rest = record {
  last = rest.last;
  statements = one.statement ∷ rest.statements;
  stand = (lexemes_at p ws, rows_lexemes (next_row p ws) wss, one.state, refl, one.spells, one.good, one.after, rest.stand);
  env_is = rest.env_is ∙ append_assoc env (d ∷ []) ds;
  spans = rest.spans;
  are = (one.are, rest.are);
}

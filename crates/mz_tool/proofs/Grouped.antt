-- Lines whose two variables stand in one group are read as if each had its own.
use Rattle.std.proofs.Common.{ℕ, ◌≡◌, ◌<◌, ◌++◌, inl, true, false, true≢false, List, [], ◌∷◌, length, map, refl, sym, subst, codes}
use Rattle.std.specs.Prelude.{IsTrue}
use Rattle.mz_base.specs.Names.{IsNew, IsKnown}
use Rattle.mz_lex.specs.Lexemes.{Lexeme}
use Rattle.mz_logic_theory.specs.Declaration.{Assertion, Declaration, term_decl, assertion_decl, sorts}
use Rattle.mz_logic_theory.specs.Examples.{im_declared, ax_1, ax_mp}
use Rattle.mz_spec_theory.specs.declared.kind.Kind.{Kind}
use Rattle.mz_spec_theory.specs.declared.kind.Kind.TheVariants.{Term as TermKind, Assert}
use Rattle.mz_spec_theory.specs.declared.kind.AssertKind.TheVariants.{Axiom}
use Rattle.mz_spec_theory.specs.Statement.{SpecStatement, Group, type_source, term_statement, assert_statement, keyword_of}
use Rattle.mz_spec_theory.specs.Reading.{place_of_first}
use Rattle.mz_spec_theory.specs.State.{State}
use Rattle.mz_spec_theory.specs.Spec.{IsGood}
use Rattle.mz_spec_theory.specs.View.{Variable, Formula, assertions, variables_of, claim, stated_claim, premise_stated}
use Rattle.mz_prefix.specs.Tokens.{Word, lexeme_at, lexemes_at, stop}
use Rattle.mz_prefix.specs.Lines.{PlainType, Tokens, mark, spaced_mark, name_word, spaced_name, math_word, type_words, type_at, title_words, colon_words, end_words, hyps_words, hyps_at}
use Rattle.mz_prefix.specs.NamedDeclarations.{IsPrintable, formula_of, formulas_of}
use Rattle.mz_base.specs.Checks.{AllHold, each_in_order}
use Rattle.mz_spec_theory.specs.Formulas.{free_checks}
use Rattle.mz_prefix.proofs.Offered.{AllMeant, GoodBy, good-by}
use Rattle.mz_tool.proofs.Vocabulary.{ab, ab-are}
use Rattle.mz_tool.proofs.Reading.{spoken, Ready, Read, step, ready-behind}

-- a word more, of which all that is asked is seen by computing
seen : {A : Type 0} → A → (IsTrue true × IsTrue true × (false ≡ false)) × (true ≡ true) × A
seen rest = ((refl, refl, refl), refl, rest)

abbrev wff_type : PlainType
wff_type = record { sort = codes "wff"; deps = [] }

-- (a b: wff)
abbrev naming : List Word
naming = name_word (codes "a") ∷ spaced_name (codes "b") ∷ mark (codes ":") ∷ []

abbrev group_words : List Word
group_words = spaced_mark (codes "(") ∷ (naming ++ (type_words wff_type ++ mark (codes ")") ∷ []))

abbrev group_at : ℕ → Group
group_at p = record {
  is_bound = false;
  names = record { is_dummy = false; name = lexeme_at (stop p (spaced_mark (codes "(") ∷ [])) (name_word (codes "a")) }
      ∷ record { is_dummy = false; name = lexeme_at (stop p (spaced_mark (codes "(") ∷ name_word (codes "a") ∷ [])) (spaced_name (codes "b")) } ∷ [];
  source = type_source (type_at (stop p (spaced_mark (codes "(") ∷ naming)) wff_type);
}

abbrev head_words : Kind → List ℕ → List Word
head_words kind name = title_words kind name ++ group_words

-- behind the colon
abbrev colon_at : ℕ → Kind → List ℕ → ℕ
colon_at p kind name = stop (stop p (head_words kind name)) colon_words

-- ---- the term

abbrev pub im_words : List Word
im_words = head_words TermKind (codes "im") ++ (colon_words ++ (type_words wff_type ++ end_words))

abbrev im_at : ℕ → SpecStatement
im_at p =
    term_statement (record { name = lexeme_at (stop p (name_word (keyword_of TermKind) ∷ [])) (spaced_name (codes "im")); groups = group_at (stop p (title_words TermKind (codes "im"))) ∷ [] })
    [] (type_at (colon_at p TermKind (codes "im")) wff_type)

module _ (σ : State) (env : List Declaration) (used : List (List ℕ)) (ready : Ready σ env used) (p : ℕ)
    (printable : IsPrintable (spoken ab) 2 env used (record { name = codes "im"; decl = term_decl im_declared })) where
  abbrev im_place : ℕ
  im_place = place_of_first (lexemes_at p im_words)

  im-good : IsGood σ im_place (im_at p)
  im-good =
      let (tokens, are, (new, (a, (b, (first, (second, rest)))))) = (step ab ab-are σ env used ready p (codes "im") (term_decl im_declared) printable im_place).good in
      (tokens, are, (new, (a, (b, (first, rest)))))

  pub im-read : Read σ p im_words env used (codes "im") (term_decl im_declared)
  im-read = record {
    statement = im_at p;
    state = (step ab ab-are σ env used ready p (codes "im") (term_decl im_declared) printable im_place).state;
    spells = ((refl, refl), ((refl, refl), ((refl, refl), ((inl refl, refl), ((inl refl, refl), ((refl, refl), ((refl, refl), ((refl, refl), ((refl, refl), ((refl, refl), ((refl, refl), tt)))))))))));
    good = im-good;
    after = (step ab ab-are σ env used ready p (codes "im") (term_decl im_declared) printable im_place).after;
    ready = ready-behind ab ab-are σ env used ready p (codes "im") (term_decl im_declared) printable im_place;
    are = λ rest. seen (seen (seen (seen (seen (seen (seen (seen (seen (seen (seen tt))))))))));
  }

-- ---- the axioms

abbrev pub axiom_words : List ℕ → List Tokens → Tokens → List Word
axiom_words name hyps conclusion = head_words (Assert Axiom) name ++ (colon_words ++ (hyps_words hyps ++ (math_word conclusion ∷ end_words)))

abbrev pub ax_1_words : List Word
ax_1_words = axiom_words (codes "ax_1") (formulas_of (spoken ab) ax_1.hyps) (formula_of (spoken ab) ax_1.conclusion)

abbrev pub ax_mp_words : List Word
ax_mp_words = axiom_words (codes "ax_mp") (formulas_of (spoken ab) ax_mp.hyps) (formula_of (spoken ab) ax_mp.conclusion)

abbrev axiom_name : ℕ → List ℕ → Lexeme
axiom_name p name = lexeme_at (stop p (name_word (keyword_of (Assert Axiom)) ∷ [])) (spaced_name name)

abbrev axiom_conclusion : ℕ → List ℕ → List Tokens → Tokens → Lexeme
axiom_conclusion p name hyps conclusion = lexeme_at (stop (colon_at p (Assert Axiom) name) (hyps_words hyps)) (math_word conclusion)

abbrev axiom_formulas : ℕ → List ℕ → List Tokens → Tokens → List Formula
axiom_formulas p name hyps conclusion = map stated_claim (premise_stated (hyps_at (colon_at p (Assert Axiom) name) hyps)) ++ claim (axiom_conclusion p name hyps conclusion) ∷ []

abbrev axiom_at : ℕ → List ℕ → List Tokens → Tokens → SpecStatement
axiom_at p name hyps conclusion =
    assert_statement Axiom
    (record { name = axiom_name p name; groups = group_at (stop p (title_words (Assert Axiom) name)) ∷ [] })
    (hyps_at (colon_at p (Assert Axiom) name) hyps) (axiom_conclusion p name hyps conclusion)

-- the two variables, whose type's lexemes stand once
abbrev two_variables : ℕ → List Variable
two_variables p = variables_of (group_at p ∷ [])

module _ (σ : State) (env : List Declaration) (used : List (List ℕ)) (ready : Ready σ env used) (p : ℕ) (name : List ℕ) (a : Assertion) where
  abbrev axiom_printable : Type 0
  axiom_printable = IsPrintable (spoken ab) 2 env used (record { name = name; decl = assertion_decl a })

  -- what is asked of the names, types and binders
  good-axiom : (place q : ℕ) (l : Lexeme) (fs : List Formula) → l.text ≡ name → 0 < length (sorts env) → IsNew used name → AllMeant σ (two_variables q) fs
      → AllHold (each_in_order (free_checks σ place (two_variables q)) fs)
      → GoodBy σ place (record { space = assertions; name = l } ∷ []) (two_variables q) (type_at (stop q (spaced_mark (codes "(") ∷ naming)) wff_type ∷ []) [] fs
  good-axiom place q l fs is some new meant free =
      let sort_known : IsKnown σ.sort_names (codes "wff") = (0, ready.behind.sort_number 0 (subst (λ (e : List Declaration). 0 < length (sorts e)) (sym ready.env_is) some)) in
      good-by σ place (record { space = assertions; name = l } ∷ []) (two_variables q) (type_at (stop q (spaced_mark (codes "(") ∷ naming)) wff_type ∷ []) [] fs
      (subst (λ (w : List ℕ). IsNew σ.assertion_names w) (sym is) (subst (λ (u : List (List ℕ)). IsNew u name) (sym ready.used_is) new), tt)
      (refl, (refl, tt)) (sort_known, tt) ((((λ h. absurd (true≢false (sym h))), tt), (((λ h. absurd (true≢false (sym h))), tt), tt)), tt, tt) tt tt meant free

module _ (σ : State) (env : List Declaration) (used : List (List ℕ)) (ready : Ready σ env used) (some : 0 < length (sorts env)) (p : ℕ)
    (printable : IsPrintable (spoken ab) 2 env used (record { name = codes "ax_1"; decl = assertion_decl ax_1 })) where
  abbrev ax_1_place : ℕ
  ax_1_place = place_of_first (lexemes_at p ax_1_words)

  abbrev ax_1_statement : SpecStatement
  ax_1_statement = axiom_at p (codes "ax_1") (formulas_of (spoken ab) ax_1.hyps) (formula_of (spoken ab) ax_1.conclusion)

  ax-1-good : IsGood σ ax_1_place ax_1_statement
  ax-1-good =
      let (_, (_, e, are, conclusion, _), _) = (step ab ab-are σ env used ready p (codes "ax_1") (assertion_decl ax_1) printable ax_1_place).after in
      good-axiom σ env used ready p (codes "ax_1") ax_1 ax_1_place (stop p (title_words (Assert Axiom) (codes "ax_1"))) (axiom_name p (codes "ax_1"))
      (axiom_formulas p (codes "ax_1") (formulas_of (spoken ab) ax_1.hyps) (formula_of (spoken ab) ax_1.conclusion)) refl some printable.new ((e, conclusion), tt) tt

  pub ax-1-read : Read σ p ax_1_words env used (codes "ax_1") (assertion_decl ax_1)
  ax-1-read = record {
    statement = ax_1_statement;
    state = (step ab ab-are σ env used ready p (codes "ax_1") (assertion_decl ax_1) printable ax_1_place).state;
    spells = ((refl, refl), ((refl, refl), ((refl, refl), ((inl refl, refl), ((inl refl, refl), ((refl, refl), ((refl, refl), ((refl, refl), ((refl, refl), ((refl, refl), ((refl, refl), tt)))))))))));
    good = ax-1-good;
    after = (step ab ab-are σ env used ready p (codes "ax_1") (assertion_decl ax_1) printable ax_1_place).after;
    ready = ready-behind ab ab-are σ env used ready p (codes "ax_1") (assertion_decl ax_1) printable ax_1_place;
    are = λ rest. seen (seen (seen (seen (seen (seen (seen (seen (seen (seen (seen tt))))))))));
  }

module _ (σ : State) (env : List Declaration) (used : List (List ℕ)) (ready : Ready σ env used) (some : 0 < length (sorts env)) (p : ℕ)
    (printable : IsPrintable (spoken ab) 2 env used (record { name = codes "ax_mp"; decl = assertion_decl ax_mp })) where
  abbrev ax_mp_place : ℕ
  ax_mp_place = place_of_first (lexemes_at p ax_mp_words)

  abbrev ax_mp_statement : SpecStatement
  ax_mp_statement = axiom_at p (codes "ax_mp") (formulas_of (spoken ab) ax_mp.hyps) (formula_of (spoken ab) ax_mp.conclusion)

  ax-mp-good : IsGood σ ax_mp_place ax_mp_statement
  ax-mp-good =
      let (_, (_, e, (e1, _, first, (e2, _, second, _, _), _), conclusion, _), _) = (step ab ab-are σ env used ready p (codes "ax_mp") (assertion_decl ax_mp) printable ax_mp_place).after in
      good-axiom σ env used ready p (codes "ax_mp") ax_mp ax_mp_place (stop p (title_words (Assert Axiom) (codes "ax_mp"))) (axiom_name p (codes "ax_mp"))
      (axiom_formulas p (codes "ax_mp") (formulas_of (spoken ab) ax_mp.hyps) (formula_of (spoken ab) ax_mp.conclusion)) refl some printable.new ((e1, first), ((e2, second), ((e, conclusion), tt))) tt

  pub ax-mp-read : Read σ p ax_mp_words env used (codes "ax_mp") (assertion_decl ax_mp)
  ax-mp-read = record {
    statement = ax_mp_statement;
    state = (step ab ab-are σ env used ready p (codes "ax_mp") (assertion_decl ax_mp) printable ax_mp_place).state;
    spells = (
      (refl, refl),
      (
        (refl, refl),
        (
          (refl, refl),
          (
            (inl refl, refl),
            (
              (inl refl, refl),
              (
                (refl, refl),
                (
                  (refl, refl),
                  (
                    (refl, refl),
                    (
                      (refl, refl),
                      ((refl, refl), ((refl, refl), ((refl, refl), ((refl, refl), ((refl, refl), ((refl, refl), tt)))))),
                    ),
                  ),
                ),
              ),
            ),
          ),
        ),
      ),
    );
    good = ax-mp-good;
    after = (step ab ab-are σ env used ready p (codes "ax_mp") (assertion_decl ax_mp) printable ax_mp_place).after;
    ready = ready-behind ab ab-are σ env used ready p (codes "ax_mp") (assertion_decl ax_mp) printable ax_mp_place;
    are = λ rest. seen (seen (seen (seen (seen (seen (seen (seen (seen (seen (seen (seen (seen (seen (seen tt))))))))))))));
  }

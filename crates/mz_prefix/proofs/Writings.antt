-- The specification, statement by statement.
use Rattle.std.specs.Prelude.{if◌then◌else◌}
use Rattle.std.proofs.Common.{◌≡◌, ◌≤◌, ◌<◌, ◌+◌, ◌++◌, ◌∙◌, ℕ, Bool, true, false, List, [], ◌∷◌, length, drop, refl, ap}
use Rattle.mz_mmu_theory.specs.Statements.{Statement}
use Rattle.mz_prefix.specs.Lines.{line_text, lines_text}
use Rattle.mz_prefix.specs.PublicPart.{public_decl}
use Rattle.mz_prefix.specs.NamedDeclarations.{Vocabulary, Named, line_of_decl, line_of, lines_of}
use Rattle.mz_type.specs.TypedText.{statement_at}
use Rattle.mz_mmu_theory.specs.DeclaredNames.{sort_names, term_names}
use Rattle.mz_prefix.specs.Wording.{is_hidden, publics_named, vocabulary_from, vocabulary_of, local_terms, prefix_text}
use Rattle.mz_prefix.specs.declared.names.Names.{Names}
use Rattle.mz_prefix.specs.Names.{texts, spoken, AreNamesOf}
use Rattle.mz_prefix.specs.Writing.{statement_text}
use Rattle.mz_prefix.proofs.Gathering.{one-more, at-end}

pub same-vocabulary : (ss : List Statement) (names : Names) → AreNamesOf ss names → spoken names ≡ vocabulary_of ss
same-vocabulary ss names are =
    ap (λ s. vocabulary_from s (texts names.terms.items) names.prefix.items) are.sorts
    ∙ ap (λ t. vocabulary_from (sort_names ss) t names.prefix.items) are.terms
    ∙ ap (λ p. vocabulary_from (sort_names ss) (term_names ss) p) are.prefix

-- a statement's text by visibilities and a vocabulary
abbrev part : List Bool → Vocabulary → Statement → List ℕ
part ls v s = if s.is_local then [] else line_text (line_of_decl v s.name (public_decl (is_hidden ls v) (λ t. t) s.decl))

abbrev parts : List Bool → Vocabulary → List Statement → List ℕ
parts ls v ss = lines_text (lines_of v (publics_named (is_hidden ls v) ss))

cut-by : (v : Vocabulary) (b : Bool) (n : Named) (ns : List Named)
    → lines_text (lines_of v (if b then ns else (n ∷ ns))) ≡ (if b then [] else line_text (line_of v n)) ++ lines_text (lines_of v ns)
cut-by v true n ns = refl
cut-by v false n ns = refl

cut : (ls : List Bool) (v : Vocabulary) (s : Statement) (ss : List Statement) → parts ls v (s ∷ ss) ≡ part ls v s ++ parts ls v ss
cut ls v s ss = cut-by v s.is_local (record { name = s.name; decl = public_decl (is_hidden ls v) (λ t. t) s.decl }) (publics_named (is_hidden ls v) ss)

module _ (ss : List Statement) where
  -- what is left to write
  abbrev pub left_text : ℕ → List ℕ
  left_text i = parts (local_terms ss) (vocabulary_of ss) (drop i ss)

  pub written-on : (names : Names) → AreNamesOf ss names → (i : ℕ) (old new : List ℕ) → i < length ss → new ≡ old ++ statement_text names (statement_at ss i)
      → old ++ left_text i ≡ prefix_text ss → new ++ left_text (i + 1) ≡ prefix_text ss
  written-on names are i old new below added so_far =
      let s = statement_at ss i in
      one-more (part (local_terms ss) (vocabulary_of ss)) (parts (local_terms ss) (vocabulary_of ss)) (cut (local_terms ss) (vocabulary_of ss)) ss i old new below
      (added ∙ ap (λ ls. old ++ part ls (spoken names) s) are.locals ∙ ap (λ v. old ++ part (local_terms ss) v s) (same-vocabulary ss names are)) so_far

  pub all-written : (i : ℕ) (old : List ℕ) → length ss ≤ i → old ++ left_text i ≡ prefix_text ss → old ≡ prefix_text ss
  all-written i old past so_far =
      at-end (part (local_terms ss) (vocabulary_of ss)) (parts (local_terms ss) (vocabulary_of ss)) (cut (local_terms ss) (vocabulary_of ss)) ss i old past refl so_far

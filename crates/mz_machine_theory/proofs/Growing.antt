-- A row that spells the next declaration may be added to the tables.
use Rattle.std.proofs.Common.{◌≡◌, List, [], ◌∷◌, ◌++◌, refl, sym, ap, subst, ◌∙◌}
use Rattle.mz_logic_theory.specs.Declaration.{Term, Assertion, Declaration, sort_decl, term_decl, assertion_decl, sorts, terms, signatures, assertions}
use Rattle.mz_logic_theory.specs.declared.binder.SortMods.{SortMods}
use Rattle.mz_logic_theory.proofs.Offered.{Extends, env_extends_append, sorts-append, terms-append, assertions-append}
use Rattle.mz_machine_theory.specs.Spells.{SpelledTerm, SpelledThm, SpellsTerm, SpellsThm}
use Rattle.mz_machine_theory.proofs.OneSpelling.{assertion-longer, term-longer}
use Rattle.mz_machine_theory.specs.MachineState.{RowsBefore, Pairwise, Declares}
use Rattle.mz_machine_theory.specs.Laws.{with_sort, with_term, with_thm}

pairs-kept : {A B : Type 0} (R S : A → B → Type 0) → ((x : A) (y : B) → R x y → S x y) → (xs : List A) (ys : List B) → Pairwise R xs ys → Pairwise S xs ys
pairs-kept R S f [] [] h = tt
pairs-kept R S f [] (y ∷ ys) h = absurd h
pairs-kept R S f (x ∷ xs) [] h = absurd h
pairs-kept R S f (x ∷ xs) (y ∷ ys) (r, h) = (f x y r, pairs-kept R S f xs ys h)

pub pairs-push : {A B : Type 0} (R : A → B → Type 0) (xs : List A) (ys : List B) (x : A) (y : B) → Pairwise R xs ys → R x y → Pairwise R (xs ++ x ∷ []) (ys ++ y ∷ [])
pairs-push R [] [] x y h r = (r, tt)
pairs-push R [] (b ∷ ys) x y h r = absurd h
pairs-push R (a ∷ xs) [] x y h r = absurd h
pairs-push R (a ∷ xs) (b ∷ ys) x y (s, h) r = (s, pairs-push R xs ys x y h r)

module _ (tables : RowsBefore) (env : List Declaration) (declares : Declares tables env) where
  -- over a longer environment the rows spell what they did
  longer : (d : Declaration) → Extends (signatures env) (signatures (env ++ d ∷ []))
  longer d = (env_extends_append env (d ∷ [])).signatures_too

  terms-kept : (d : Declaration) → Pairwise (SpellsTerm (signatures (env ++ d ∷ []))) tables.terms (terms env)
  terms-kept d = pairs-kept (SpellsTerm (signatures env)) (SpellsTerm (signatures (env ++ d ∷ []))) (λ row t s. term-longer (signatures env) (signatures (env ++ d ∷ [])) (longer d) row t s) tables.terms (terms env) declares.terms_are

  thms-kept : (d : Declaration) → Pairwise (SpellsThm (signatures (env ++ d ∷ []))) tables.thms (assertions env)
  thms-kept d = pairs-kept (SpellsThm (signatures env)) (SpellsThm (signatures (env ++ d ∷ []))) (λ row a s. assertion-longer (signatures env) (signatures (env ++ d ∷ [])) (longer d) row a s) tables.thms (assertions env) declares.thms_are

  abbrev Terms : Declaration → List SpelledTerm → List Term → Type 0
  Terms d = Pairwise (SpellsTerm (signatures (env ++ d ∷ [])))

  abbrev Thms : Declaration → List SpelledThm → List Assertion → Type 0
  Thms d = Pairwise (SpellsThm (signatures (env ++ d ∷ [])))

  none-more : {A : Type 0} (xs : List A) → xs ++ [] ≡ xs
  none-more [] = refl
  none-more (x ∷ xs) = ap (λ z. x ∷ z) (none-more xs)

  pub sort-grows : (m : SortMods) → Declares (with_sort tables m) (env ++ sort_decl m ∷ [])
  sort-grows m = record {
    sorts_are = ap (λ (z : List SortMods). z ++ m ∷ []) declares.sorts_are ∙ sym (sorts-append env (sort_decl m ∷ []));
    terms_are = subst (Terms (sort_decl m) tables.terms) (sym (terms-append env (sort_decl m ∷ []) ∙ none-more (terms env))) (terms-kept (sort_decl m));
    thms_are = subst (Thms (sort_decl m) tables.thms) (sym (assertions-append env (sort_decl m ∷ []) ∙ none-more (assertions env))) (thms-kept (sort_decl m));
  }

  pub term-grows : (row : SpelledTerm) (d : Term) → SpellsTerm (signatures env) row d → Declares (with_term tables row) (env ++ term_decl d ∷ [])
  term-grows row d spells = record {
    sorts_are = declares.sorts_are ∙ sym (sorts-append env (term_decl d ∷ []) ∙ none-more (sorts env));
    terms_are = subst (Terms (term_decl d) (tables.terms ++ row ∷ [])) (sym (terms-append env (term_decl d ∷ [])))
        (pairs-push (SpellsTerm (signatures (env ++ term_decl d ∷ []))) tables.terms (terms env) row d (terms-kept (term_decl d)) (term-longer (signatures env) (signatures (env ++ term_decl d ∷ [])) (longer (term_decl d)) row d spells));
    thms_are = subst (Thms (term_decl d) tables.thms) (sym (assertions-append env (term_decl d ∷ []) ∙ none-more (assertions env))) (thms-kept (term_decl d));
  }

  pub thm-grows : (row : SpelledThm) (a : Assertion) → SpellsThm (signatures env) row a → Declares (with_thm tables row) (env ++ assertion_decl a ∷ [])
  thm-grows row a spells = record {
    sorts_are = declares.sorts_are ∙ sym (sorts-append env (assertion_decl a ∷ []) ∙ none-more (sorts env));
    terms_are = subst (Terms (assertion_decl a) tables.terms) (sym (terms-append env (assertion_decl a ∷ []) ∙ none-more (terms env))) (terms-kept (assertion_decl a));
    thms_are = subst (Thms (assertion_decl a) (tables.thms ++ row ∷ [])) (sym (assertions-append env (assertion_decl a ∷ [])))
        (pairs-push (SpellsThm (signatures (env ++ assertion_decl a ∷ []))) tables.thms (assertions env) row a (thms-kept (assertion_decl a)) (assertion-longer (signatures env) (signatures (env ++ assertion_decl a ∷ [])) (longer (assertion_decl a)) row a spells));
  }

-- The names of statements, gathered one statement after another.
use Rattle.std.specs.Prelude.{slice_get, option_map}
use Rattle.std.proofs.Common.{◌≡◌, ◌≤◌, ◌<◌, ◌+◌, ◌++◌, ◌∙◌, ℕ, zero, suc, max, Bool, List, [], ◌∷◌, length, drop, Some, None, refl, sym, ap, append_assoc, append-nil, add-one, arith}
use Rattle.std.proofs.Math.Seq.{drop-cons}
use Rattle.std.proofs.lemmas.List.{drop_all}
use Rattle.mz_logic_theory.specs.Declaration.{Declaration}
use Rattle.mz_prefix.specs.PublicPart.{visibility_of}
use Rattle.mz_mmu_theory.specs.Statements.{Statement}
use Rattle.mz_type.specs.TypedText.{statement_at}
use Rattle.mz_mmu_theory.specs.DeclaredNames.{sort_name, term_name, sort_names, term_names, underscores, longest_run, text_names}
use Rattle.mz_prefix.specs.Wording.{local_terms, variable_prefix}
use Rattle.mz_prefix.specs.declared.names.Names.{Names}
use Rattle.mz_prefix.specs.Names.{texts, AreNamesOf}

-- from the i-th on the first is that one
pub from-there : (ss : List Statement) (i : ℕ) → i < length ss → drop i ss ≡ statement_at ss i ∷ drop (i + 1) ss
from-there ss i below = rw add-one (drop-cons ss i _ below)

-- what is said of the i-th statement
pub told-of : {B : Type 0} (f : Statement → B) (ss : List Statement) (i : ℕ) (b : B) → option_map f (slice_get ss i) ≡ Some b → f (statement_at ss i) ≡ b
told-of f [] i b e = absurd (let n : option_map f None ≡ Some b = e in cc)
told-of f (s ∷ ss) zero b e = let n : Some (f s) ≡ Some b = e in cc
told-of f (s ∷ ss) (suc i) b e = told-of f ss i b e

-- where all statements from one on are it and those behind it
module _ {A : Type 0} (part : Statement → List A) (all : List Statement → List A) (cut : (s : Statement) (ss : List Statement) → all (s ∷ ss) ≡ part s ++ all ss) (ss : List Statement) where
  pub one-more : (i : ℕ) (old new : List A) → i < length ss → new ≡ old ++ part (statement_at ss i) → old ++ all (drop i ss) ≡ all ss → new ++ all (drop (i + 1) ss) ≡ all ss
  one-more i old new below added so_far =
      let here : all (drop i ss) ≡ part (statement_at ss i) ++ all (drop (i + 1) ss) = ap all (from-there ss i below) ∙ cut (statement_at ss i) (drop (i + 1) ss) in
      ap (λ o. o ++ all (drop (i + 1) ss)) added ∙ append_assoc old (part (statement_at ss i)) (all (drop (i + 1) ss)) ∙ sym (ap (λ t. old ++ t) here) ∙ so_far

  pub at-end : (i : ℕ) (old : List A) → length ss ≤ i → all [] ≡ [] → old ++ all (drop i ss) ≡ all ss → old ≡ all ss
  at-end i old past nothing so_far = sym (append-nil old) ∙ sym (ap (λ t. old ++ t) (ap all (drop_all i ss past) ∙ nothing)) ∙ so_far

-- the names so far, with those that are left, are all
pub record Gathered (ss : List Statement) (i : ℕ) (names : Names) : Type 0 where
  pub sorts : texts names.sorts.items ++ sort_names (drop i ss) ≡ sort_names ss
  pub terms : texts names.terms.items ++ term_names (drop i ss) ≡ term_names ss
  pub locals : names.locals.items ++ local_terms (drop i ss) ≡ local_terms ss
  pub prefix : names.prefix.items ≡ variable_prefix ss

pub gathered-on : (ss : List Statement) (i : ℕ) (old new : Names) (name : List ℕ) (is_local : Bool) (d : Declaration) → i < length ss
    → (statement_at ss i).name ≡ name → (statement_at ss i).is_local ≡ is_local → (statement_at ss i).decl ≡ d
    → texts new.sorts.items ≡ texts old.sorts.items ++ sort_name d name → texts new.terms.items ≡ texts old.terms.items ++ term_name d name
    → new.locals.items ≡ old.locals.items ++ visibility_of is_local d → new.prefix ≡ old.prefix → Gathered ss i old → Gathered ss (i + 1) new
gathered-on ss i old new name is_local d below is-name is-local is-decl sorts terms locals prefix so_far =
    let s = statement_at ss i in
    record {
      sorts = one-more (λ s. sort_name s.decl s.name) sort_names (λ s ss. refl) ss i (texts old.sorts.items) (texts new.sorts.items) below
          (sorts ∙ ap (λ n. texts old.sorts.items ++ sort_name d n) (sym is-name) ∙ ap (λ d. texts old.sorts.items ++ sort_name d s.name) (sym is-decl)) so_far.sorts;
      terms = one-more (λ s. term_name s.decl s.name) term_names (λ s ss. refl) ss i (texts old.terms.items) (texts new.terms.items) below
          (terms ∙ ap (λ n. texts old.terms.items ++ term_name d n) (sym is-name) ∙ ap (λ d. texts old.terms.items ++ term_name d s.name) (sym is-decl)) so_far.terms;
      locals = one-more (λ s. visibility_of s.is_local s.decl) local_terms (λ s ss. refl) ss i old.locals.items new.locals.items below
          (locals ∙ ap (λ l. old.locals.items ++ visibility_of l d) (sym is-local) ∙ ap (λ d. old.locals.items ++ visibility_of s.is_local d) (sym is-decl)) so_far.locals;
      prefix = ap (λ p. p.items) prefix ∙ so_far.prefix;
    }

pub gathered-all : (ss : List Statement) (i : ℕ) (names : Names) → length ss ≤ i → Gathered ss i names → AreNamesOf ss names
gathered-all ss i names past so_far = record {
  sorts = at-end (λ s. sort_name s.decl s.name) sort_names (λ s ss. refl) ss i (texts names.sorts.items) past refl so_far.sorts;
  terms = at-end (λ s. term_name s.decl s.name) term_names (λ s ss. refl) ss i (texts names.terms.items) past refl so_far.terms;
  locals = at-end (λ s. visibility_of s.is_local s.decl) local_terms (λ s ss. refl) ss i names.locals.items past refl so_far.locals;
  prefix = so_far.prefix;
}

max-on : (run u rest whole : ℕ) → max run (max u rest) ≡ whole → max (max run u) rest ≡ whole
max-on run u rest whole is = omega (arith, is)

-- one name more
pub run-on : (ss : List Statement) (i run u new : ℕ) (name : List ℕ) → i < length ss → (statement_at ss i).name ≡ name → u ≡ underscores name → new ≡ max run u
    → max run (longest_run (text_names (drop i ss))) ≡ longest_run (text_names ss) → max new (longest_run (text_names (drop (i + 1) ss))) ≡ longest_run (text_names ss)
run-on ss i run u new name below is-name is is-new so_far =
    let rest = longest_run (text_names (drop (i + 1) ss)) in
    let here : longest_run (text_names (drop i ss)) ≡ max (underscores (statement_at ss i).name) rest = ap (λ (ss : List Statement). longest_run (text_names ss)) (from-there ss i below) in
    let found : underscores (statement_at ss i).name ≡ u = ap underscores is-name ∙ sym is in
    ap (λ n. max n rest) is-new ∙ max-on run u rest (longest_run (text_names ss)) (sym (ap (λ r. max run r) (here ∙ ap (λ n. max n rest) found)) ∙ so_far)

pub run-end : (ss : List Statement) (i run : ℕ) → length ss ≤ i → max run (longest_run (text_names (drop i ss))) ≡ longest_run (text_names ss) → run ≡ longest_run (text_names ss)
run-end ss i run past so_far =
    let nothing : longest_run (text_names (drop i ss)) ≡ 0 = ap (λ (ss : List Statement). longest_run (text_names ss)) (drop_all i ss past) in
    omega (arith, nothing, so_far)

-- The names of restated statements: each is an identifier, that of the vocabulary, and new in its space.
use Rattle.std.proofs.Common.{◌≡◌, ◌≤◌, ◌<◌, ◌+◌, ◌^◌, ◌∙◌, ℕ, zero, suc, List, [], ◌∷◌, ◌++◌, length, map, drop, get_or, Bool, true, false, refl, sym, ap, subst, arith, append_assoc, append-nil, length-append}
use Rattle.std.specs.Prelude.{⊤, if◌then◌else◌}
use Rattle.mz_logic_theory.specs.Declaration.{Form, plain_form, abstract_form, defined, Declaration, sort_decl, term_decl, assertion_decl, sorts, signatures, assertions}
use Rattle.mz_logic_theory.specs.LegalLists.{Statement as Marked}
use Rattle.mz_logic_theory.proofs.Offered.{assertions-append, sorts-append, signatures-append}
use Rattle.mz_mmu_theory.specs.Name.{Names, IsName, no_names, names_with}
use Rattle.mz_mmu_theory.specs.Statements.{Statement}
use Rattle.mz_mmu_theory.specs.Meaning.{marked}
use Rattle.mz_spec_theory.specs.Dependencies.{Every}
use Rattle.mz_spec_theory.proofs.Offered.{every-front, every-join}
use Rattle.mz_spec_proved_theory.specs.declared.kind.Kind.{Kind}
use Rattle.mz_spec_proved_theory.specs.declared.kind.Kind.TheVariants as kinds
use Rattle.mz_spec_proved_theory.specs.Match.{partner_of, publics_after, publics, kind_of, kind_of_form, Agrees}
use Rattle.mz_mmu_theory.specs.DeclaredNames.{underscores, sort_name, term_name, sort_names, term_names, assertion_name, assertion_names, longest_run}
use Rattle.mz_decompile_text.specs.Phrasing.{Vocabulary}
use Rattle.mz_decompile_text.specs.Phrasable.{HasNewName}
use Rattle.mz_decompile_text.specs.Names.{statement_names, vocabulary_of}
use Rattle.mz_decompile.proofs.Seen.{Seen, none_seen, seen_in, seen_with, IsOther, AreNew, seen_of, seen-with, other-new}
use Rattle.mz_decompile.proofs.Prefixed.{prefix_of, prefixed, all-short, prefixed-named, not-short, same-number, same-letter}

-- ---- two declarations of one kind are of one space

abbrev SameSpace : Declaration → Declaration → Type 0
SameSpace (sort_decl _) (sort_decl _) = ⊤
SameSpace (term_decl _) (term_decl _) = ⊤
SameSpace (assertion_decl _) (assertion_decl _) = ⊤
SameSpace _ _ = ⊥

abbrev space_of_kind : Kind → ℕ
space_of_kind kinds.Sort = 0
space_of_kind kinds.Term = 1
space_of_kind kinds.Definition = 1
space_of_kind kinds.Axiom = 2
space_of_kind kinds.Theorem = 2

abbrev space_of : Declaration → ℕ
space_of (sort_decl _) = 0
space_of (term_decl _) = 1
space_of (assertion_decl _) = 2

kind-space : (d : Declaration) → space_of_kind (kind_of d) ≡ space_of d
kind-space (sort_decl m) = refl
kind-space (term_decl d) = go d.form
  where
    go : (f : Form) → space_of_kind (kind_of_form f) ≡ 1
    go plain_form = refl
    go abstract_form = refl
    go (defined ds e) = refl
kind-space (assertion_decl a) = go a.is_axiom
  where
    go : (b : Bool) → space_of_kind (if b then kinds.Axiom else kinds.Theorem) ≡ 2
    go true = refl
    go false = refl

same-space : (d e : Declaration) → space_of d ≡ space_of e → SameSpace d e
same-space (sort_decl _) (sort_decl _) is = tt
same-space (sort_decl _) (term_decl _) is = absurd (omega arith)
same-space (sort_decl _) (assertion_decl _) is = absurd (omega arith)
same-space (term_decl _) (sort_decl _) is = absurd (omega arith)
same-space (term_decl _) (term_decl _) is = tt
same-space (term_decl _) (assertion_decl _) is = absurd (omega arith)
same-space (assertion_decl _) (sort_decl _) is = absurd (omega arith)
same-space (assertion_decl _) (term_decl _) is = absurd (omega arith)
same-space (assertion_decl _) (assertion_decl _) is = tt

kinds-space : (d e : Declaration) → kind_of d ≡ kind_of e → SameSpace d e
kinds-space d e is = same-space d e (sym (kind-space d) ∙ ap space_of_kind is ∙ kind-space e)

-- ---- names of statements beside those of declarations

module _ (L : ℕ) where
  abbrev IsShort : List ℕ → Type 0
  IsShort w = underscores w ≤ L

  -- the name of a local statement, by its number
  abbrev local_name : ℕ → List ℕ
  local_name m = prefixed L 108 m

  -- what is none of the first names, nor that of a local statement before this number, is none of the second ones
  abbrev Covers : ℕ → List (List ℕ) → List (List ℕ) → Type 0
  Covers number xs ys = (w : List ℕ) → IsOther w xs → ((m : ℕ) → m < number → local_name m ≡ w → ⊥) → IsOther w ys

  covers-more : (number : ℕ) (xs ys : List (List ℕ)) → Covers number xs ys → Covers (suc number) xs ys
  covers-more number xs ys h w other locals = h w other (λ m less. locals m (omega arith))

  covers-local : (number : ℕ) (xs ys : List (List ℕ)) → Covers number xs ys → Covers (suc number) xs (ys ++ local_name number ∷ [])
  covers-local number xs ys h w other locals =
      every-join (λ x. x ≡ w → ⊥) ys (local_name number ∷ []) (covers-more number xs ys h w other locals) (locals number (omega arith), tt)

  covers-public : (number : ℕ) (x : List ℕ) (xs ys : List (List ℕ)) → Covers number xs ys → Covers (suc number) (xs ++ x ∷ []) (ys ++ x ∷ [])
  covers-public number x xs ys h w other locals =
      let parts = every-front (λ y. y ≡ w → ⊥) xs (x ∷ []) other in
      every-join (λ y. y ≡ w → ⊥) ys (x ∷ []) (covers-more number xs ys h w parts.0 locals) parts.1

  record IsBeside (number : ℕ) (spec text : Seen) : Type 0 where
    sorts : Covers number spec.sorts text.sorts
    terms : Covers number spec.terms text.terms
    assertions : Covers number spec.assertions text.assertions
    short_sorts : Every IsShort spec.sorts
    short_terms : Every IsShort spec.terms
    short_assertions : Every IsShort spec.assertions

  beside-local : (number : ℕ) (spec text : Seen) (d : Declaration) → IsBeside number spec text → IsBeside (suc number) spec (seen_with text (local_name number) d)
  beside-local number spec text (sort_decl m) h = record {
    sorts = covers-local number spec.sorts text.sorts h.sorts;
    terms = covers-more number spec.terms text.terms h.terms;
    assertions = covers-more number spec.assertions text.assertions h.assertions;
    short_sorts = h.short_sorts;
    short_terms = h.short_terms;
    short_assertions = h.short_assertions;
  }
  beside-local number spec text (term_decl d) h = record {
    sorts = covers-more number spec.sorts text.sorts h.sorts;
    terms = covers-local number spec.terms text.terms h.terms;
    assertions = covers-more number spec.assertions text.assertions h.assertions;
    short_sorts = h.short_sorts;
    short_terms = h.short_terms;
    short_assertions = h.short_assertions;
  }
  beside-local number spec text (assertion_decl a) h = record {
    sorts = covers-more number spec.sorts text.sorts h.sorts;
    terms = covers-more number spec.terms text.terms h.terms;
    assertions = covers-local number spec.assertions text.assertions h.assertions;
    short_sorts = h.short_sorts;
    short_terms = h.short_terms;
    short_assertions = h.short_assertions;
  }

  short-more : (w : List ℕ) (xs : List (List ℕ)) → IsShort w → Every IsShort xs → Every IsShort (xs ++ w ∷ [])
  short-more w xs short all = every-join IsShort xs (w ∷ []) all (short, tt)

  beside-public : (number : ℕ) (spec text : Seen) (d e : Declaration) (w : List ℕ) → SameSpace d e → IsShort w → IsBeside number spec text
      → IsBeside (suc number) (seen_with spec w d) (seen_with text w e)
  beside-public number spec text (sort_decl m) (sort_decl k) w same short h = record {
    sorts = covers-public number w spec.sorts text.sorts h.sorts;
    terms = covers-more number spec.terms text.terms h.terms;
    assertions = covers-more number spec.assertions text.assertions h.assertions;
    short_sorts = short-more w spec.sorts short h.short_sorts;
    short_terms = h.short_terms;
    short_assertions = h.short_assertions;
  }
  beside-public number spec text (term_decl d) (term_decl e) w same short h = record {
    sorts = covers-more number spec.sorts text.sorts h.sorts;
    terms = covers-public number w spec.terms text.terms h.terms;
    assertions = covers-more number spec.assertions text.assertions h.assertions;
    short_sorts = h.short_sorts;
    short_terms = short-more w spec.terms short h.short_terms;
    short_assertions = h.short_assertions;
  }
  beside-public number spec text (assertion_decl a) (assertion_decl b) w same short h = record {
    sorts = covers-more number spec.sorts text.sorts h.sorts;
    terms = covers-more number spec.terms text.terms h.terms;
    assertions = covers-public number w spec.assertions text.assertions h.assertions;
    short_sorts = h.short_sorts;
    short_terms = h.short_terms;
    short_assertions = short-more w spec.assertions short h.short_assertions;
  }
  beside-public number spec text (sort_decl _) (term_decl _) w same short h = absurd same
  beside-public number spec text (sort_decl _) (assertion_decl _) w same short h = absurd same
  beside-public number spec text (term_decl _) (sort_decl _) w same short h = absurd same
  beside-public number spec text (term_decl _) (assertion_decl _) w same short h = absurd same
  beside-public number spec text (assertion_decl _) (sort_decl _) w same short h = absurd same
  beside-public number spec text (assertion_decl _) (term_decl _) w same short h = absurd same

  -- a local name is none of short ones
  locals-other : (m : ℕ) (xs : List (List ℕ)) → Every IsShort xs → IsOther (local_name m) xs
  locals-other m [] all = tt
  locals-other m (x ∷ xs) (short, all) = ((λ is. not-short L 108 m x refl short (sym is)), locals-other m xs all)

  covered-local : (number : ℕ) (xs ys : List (List ℕ)) → number < 2 ^ 64 → Every IsShort xs → Covers number xs ys → IsOther (local_name number) ys
  covered-local number xs ys small short h =
      h (local_name number) (locals-other number xs short) (λ m less is. let same = same-number L 108 m number (omega (arith, less, small)) small is in omega (arith, same, less))

  -- so it is new
  local-other : (number : ℕ) (spec text : Seen) (d : Declaration) → number < 2 ^ 64 → IsBeside number spec text → IsOther (local_name number) (seen_in text d)
  local-other number spec text (sort_decl m) small h = covered-local number spec.sorts text.sorts small h.short_sorts h.sorts
  local-other number spec text (term_decl d) small h = covered-local number spec.terms text.terms small h.short_terms h.terms
  local-other number spec text (assertion_decl a) small h = covered-local number spec.assertions text.assertions small h.short_assertions h.assertions

  -- and so is a public one, which is short
  public-other : (number : ℕ) (spec text : Seen) (d e : Declaration) (w : List ℕ) → SameSpace d e → IsShort w → IsOther w (seen_in spec d)
      → IsBeside number spec text → IsOther w (seen_in text e)
  public-other number spec text (sort_decl m) (sort_decl k) w same short other h = h.sorts w other (λ i less is. not-short L 108 i w refl short is)
  public-other number spec text (term_decl d) (term_decl e) w same short other h = h.terms w other (λ i less is. not-short L 108 i w refl short is)
  public-other number spec text (assertion_decl a) (assertion_decl b) w same short other h = h.assertions w other (λ i less is. not-short L 108 i w refl short is)
  public-other number spec text (sort_decl _) (term_decl _) w same short other h = absurd same
  public-other number spec text (sort_decl _) (assertion_decl _) w same short other h = absurd same
  public-other number spec text (term_decl _) (sort_decl _) w same short other h = absurd same
  public-other number spec text (term_decl _) (assertion_decl _) w same short other h = absurd same
  public-other number spec text (assertion_decl _) (sort_decl _) w same short other h = absurd same
  public-other number spec text (assertion_decl _) (term_decl _) w same short other h = absurd same

-- ---- names as the vocabulary has them

-- the names before, so many, begin all of them
record IsFront (all front behind : List (List ℕ)) (n : ℕ) : Type 0 where
  is : all ≡ front ++ behind
  many : length front ≡ n

get-next : (front : List (List ℕ)) (w : List ℕ) (behind : List (List ℕ)) (n : ℕ) → length front ≡ n → get_or (front ++ w ∷ behind) n [] ≡ w
get-next [] w behind zero many = refl
get-next [] w behind (suc n) many = absurd (omega arith)
get-next (x ∷ front) w behind zero many = absurd (let e : suc (length front) ≡ 0 = many in omega arith)
get-next (x ∷ front) w behind (suc n) many = get-next front w behind n (let e : suc (length front) ≡ suc n = many in omega arith)

next-is : (all front behind : List (List ℕ)) (w : List ℕ) (n : ℕ) → IsFront all front (w ∷ behind) n → w ≡ get_or all n []
next-is all front behind w n h = sym (ap (λ (xs : List (List ℕ)). get_or xs n []) h.is ∙ get-next front w behind n h.many)

front-more : (all front behind : List (List ℕ)) (w : List ℕ) (n m : ℕ) → m ≡ suc n → IsFront all front (w ∷ behind) n → IsFront all (front ++ w ∷ []) behind m
front-more all front behind w n m more h = record { is = h.is ∙ sym (append_assoc front (w ∷ []) behind); many = omega (arith, length-append front (w ∷ []), h.many, more) }

front-same : (all front behind : List (List ℕ)) (n m : ℕ) → m ≡ n → IsFront all front behind n → IsFront all front behind m
front-same all front behind n m same h = record { is = h.is; many = h.many ∙ sym same }

-- the sorts' names, the terms' and those of assertions: those before, and then the declaration's
record Stands (whole : List Statement) (env : List Declaration) (names : Names) (ss ts as_ : List (List ℕ)) : Type 0 where
  sorts : IsFront (sort_names whole) names.sorts ss (length (sorts env))
  terms : IsFront (term_names whole) names.terms ts (length (signatures env))
  assertions : IsFront (assertion_names whole) names.assertions as_ (length (assertions env))

module _ (whole : List Statement) (env : List Declaration) (names : Names) (ss ts as_ : List (List ℕ)) where
  abbrev Before : Declaration → List ℕ → Type 0
  Before d w = Stands whole env names (sort_name d w ++ ss) (term_name d w ++ ts) (assertion_name d w ++ as_)

  same-sorts : (d : Declaration) → sorts (d ∷ []) ≡ [] → length (sorts (env ++ d ∷ [])) ≡ length (sorts env)
  same-sorts d none = ap length (sorts-append env (d ∷ []) ∙ ap (λ xs. sorts env ++ xs) none ∙ append-nil (sorts env))

  same-terms : (d : Declaration) → signatures (d ∷ []) ≡ [] → length (signatures (env ++ d ∷ [])) ≡ length (signatures env)
  same-terms d none = ap length (signatures-append env (d ∷ []) ∙ ap (λ xs. signatures env ++ xs) none ∙ append-nil (signatures env))

  same-assertions : (d : Declaration) → assertions (d ∷ []) ≡ [] → length (assertions (env ++ d ∷ [])) ≡ length (assertions env)
  same-assertions d none = ap length (assertions-append env (d ∷ []) ∙ ap (λ xs. assertions env ++ xs) none ∙ append-nil (assertions env))

  stands-next : (d : Declaration) (w : List ℕ) → Before d w → Stands whole (env ++ d ∷ []) (names_with names w d) ss ts as_
  stands-next (sort_decl m) w h = record {
    sorts = front-more (sort_names whole) names.sorts ss w (length (sorts env)) _ (omega (arith, ap length (sorts-append env (sort_decl m ∷ [])), length-append (sorts env) (m ∷ []))) h.sorts;
    terms = front-same (term_names whole) names.terms ts (length (signatures env)) _ (same-terms (sort_decl m) refl) h.terms;
    assertions = front-same (assertion_names whole) names.assertions as_ (length (assertions env)) _ (same-assertions (sort_decl m) refl) h.assertions;
  }
  stands-next (term_decl d) w h = record {
    sorts = front-same (sort_names whole) names.sorts ss (length (sorts env)) _ (same-sorts (term_decl d) refl) h.sorts;
    terms = front-more (term_names whole) names.terms ts w (length (signatures env)) _
        (omega (arith, ap length (signatures-append env (term_decl d ∷ [])), length-append (signatures env) (d.signature ∷ []))) h.terms;
    assertions = front-same (assertion_names whole) names.assertions as_ (length (assertions env)) _ (same-assertions (term_decl d) refl) h.assertions;
  }
  stands-next (assertion_decl a) w h = record {
    sorts = front-same (sort_names whole) names.sorts ss (length (sorts env)) _ (same-sorts (assertion_decl a) refl) h.sorts;
    terms = front-same (term_names whole) names.terms ts (length (signatures env)) _ (same-terms (assertion_decl a) refl) h.terms;
    assertions = front-more (assertion_names whole) names.assertions as_ w (length (assertions env)) _
        (omega (arith, ap length (assertions-append env (assertion_decl a ∷ [])), length-append (assertions env) (a ∷ []))) h.assertions;
  }

  -- a new name, which no variable has
  titled : (prefix : List ℕ) (n : ℕ) (d : Declaration) (w : List ℕ) → Before d w → IsOther w (seen_in (seen_of names) d) → ((x : ℕ) → x < n → (vocabulary_of prefix whole).variable x ≡ w → ⊥)
      → HasNewName (vocabulary_of prefix whole) n env names w d
  titled prefix n (sort_decl m) w h other apart = (next-is (sort_names whole) names.sorts ss w (length (sorts env)) h.sorts, other-new names.sorts w other)
  titled prefix n (term_decl d) w h other apart = (next-is (term_names whole) names.terms ts w (length (signatures env)) h.terms, other-new names.terms w other, apart)
  titled prefix n (assertion_decl a) w h other apart = (next-is (assertion_names whole) names.assertions as_ w (length (assertions env)) h.assertions, other-new names.assertions w other)

-- ---- all statements

abbrev pub AreTitled : Vocabulary → ℕ → List Declaration → Names → List Statement → Type 0
AreTitled v n env names [] = ⊤
AreTitled v n env names (t ∷ ts) = IsName t.name × HasNewName v n env names t.name t.decl × AreTitled v n (env ++ t.decl ∷ []) (names_with names t.name t.decl) ts

get-first : (xs : List (List ℕ)) (k : ℕ) (y : List ℕ) (ys : List (List ℕ)) → drop k xs ≡ y ∷ ys → (get_or xs k [] ≡ y) × (drop (suc k) xs ≡ ys)
get-first [] zero y ys is = absurd cc
get-first [] (suc k) y ys is = absurd cc
get-first (x ∷ xs) zero y ys is = let same : x ≡ y = cc in let rest : xs ≡ ys = cc in (same, rest)
get-first (x ∷ xs) (suc k) y ys is = get-first xs k y ys is

module _ (L : ℕ) (all : List (List ℕ)) (whole : List Statement) (n : ℕ) where
  abbrev v : Vocabulary
  v = vocabulary_of (prefix_of L) whole

  -- how far the statements and declarations have come
  record IsAsFar (k number : ℕ) (before : List Marked) (ts : List Statement) (ds : List Declaration) (ws : List (List ℕ)) (spec : Seen) (names : Names) (env : List Declaration) : Type 0 where
    named : map (λ t. t.name) ts ≡ statement_names all (prefix_of L) k number (marked ts)
    left : drop k all ≡ ws
    short : Every (IsShort L) ws
    new : AreNew spec ds ws
    agrees : Agrees ds (publics_after before (marked ts))
    beside : IsBeside L number spec (seen_of names)
    stands : Stands whole env names (sort_names ts) (term_names ts) (assertion_names ts)
    small : number + length ts < 2 ^ 64

  abbrev visibility_of : Statement → Marked
  visibility_of t = record { is_local = t.is_local; decl = t.decl }

  -- a local statement
  as-far-local : (k number : ℕ) (before : List Marked) (t : Statement) (ts : List Statement) (ds : List Declaration) (ws : List (List ℕ)) (spec : Seen) (names : Names) (env : List Declaration) (s : Marked)
      → t.name ≡ local_name L number → map (λ t. t.name) ts ≡ statement_names all (prefix_of L) k (suc number) (marked ts) → Agrees ds (publics_after (before ++ s ∷ []) (marked ts))
      → IsAsFar k number before (t ∷ ts) ds ws spec names env
      → IsAsFar k (suc number) (before ++ s ∷ []) ts ds ws spec (names_with names t.name t.decl) (env ++ t.decl ∷ [])
  as-far-local k number before t ts ds ws spec names env s name-is rest agrees far = record {
    named = rest;
    left = far.left;
    short = far.short;
    new = far.new;
    agrees = agrees;
    beside = subst (IsBeside L (suc number) spec) (sym (seen-with names t.name t.decl ∙ ap (λ (w : List ℕ). seen_with (seen_of names) w t.decl) name-is))
        (beside-local L number spec (seen_of names) t.decl far.beside);
    stands = stands-next whole env names (sort_names ts) (term_names ts) (assertion_names ts) t.decl t.name far.stands;
    small = let small = far.small in omega (arith, small);
  }

  as-far-public : (k number : ℕ) (before : List Marked) (t : Statement) (ts : List Statement) (d : Declaration) (ds : List Declaration) (w : List ℕ) (ws : List (List ℕ)) (spec : Seen) (names : Names) (env : List Declaration) (s : Marked)
      → t.name ≡ w → SameSpace d t.decl → map (λ t. t.name) ts ≡ statement_names all (prefix_of L) (suc k) (suc number) (marked ts) → drop (suc k) all ≡ ws
      → Agrees ds (publics_after (before ++ s ∷ []) (marked ts))
      → IsAsFar k number before (t ∷ ts) (d ∷ ds) (w ∷ ws) spec names env
      → IsAsFar (suc k) (suc number) (before ++ s ∷ []) ts ds ws (seen_with spec w d) (names_with names t.name t.decl) (env ++ t.decl ∷ [])
  as-far-public k number before t ts d ds w ws spec names env s name-is same rest left agrees far = record {
    named = rest;
    left = left;
    short = far.short.1;
    new = far.new.2;
    agrees = agrees;
    beside = subst (IsBeside L (suc number) (seen_with spec w d)) (sym (seen-with names t.name t.decl ∙ ap (λ (w : List ℕ). seen_with (seen_of names) w t.decl) name-is))
        (beside-public L number spec (seen_of names) d t.decl w same far.short.0 far.beside);
    stands = stands-next whole env names (sort_names ts) (term_names ts) (assertion_names ts) t.decl t.name far.stands;
    small = let small = far.small in omega (arith, small);
  }

  all-titled : (k number : ℕ) (before : List Marked) (ts : List Statement) (ds : List Declaration) (ws : List (List ℕ)) (spec : Seen) (names : Names) (env : List Declaration)
      → IsAsFar k number before ts ds ws spec names env → AreTitled v n env names ts
  all-titled k number before [] ds ws spec names env far = tt
  all-titled k number before (t ∷ ts) ds ws spec names env far = go t.is_local ds ws far far.named far.agrees
      (λ l m es xs sp far'. all-titled l m (before ++ visibility_of t ∷ []) ts es xs sp (names_with names t.name t.decl) (env ++ t.decl ∷ []) far')
    where
      go : (b : Bool) (ds : List Declaration) (ws : List (List ℕ)) → IsAsFar k number before (t ∷ ts) ds ws spec names env
          → t.name ∷ map (λ t. t.name) ts
          ≡ (if b then local_name L number ∷ statement_names all (prefix_of L) k (suc number) (marked ts) else get_or all k [] ∷ statement_names all (prefix_of L) (suc k) (suc number) (marked ts))
          → Agrees ds (if b then publics_after (before ++ visibility_of t ∷ []) (marked ts) else partner_of before (visibility_of t) ∷ publics_after (before ++ visibility_of t ∷ []) (marked ts))
          → ((l m : ℕ) (es : List Declaration) (xs : List (List ℕ)) (sp : Seen)
          → IsAsFar l m (before ++ visibility_of t ∷ []) ts es xs sp (names_with names t.name t.decl) (env ++ t.decl ∷ [])
          → AreTitled v n (env ++ t.decl ∷ []) (names_with names t.name t.decl) ts)
          → IsName t.name × HasNewName v n env names t.name t.decl × AreTitled v n (env ++ t.decl ∷ []) (names_with names t.name t.decl) ts
      go true ds ws far is agrees on =
          let name-is : t.name ≡ local_name L number = cc in
          let rest : map (λ t. t.name) ts ≡ statement_names all (prefix_of L) k (suc number) (marked ts) = cc in
          let small : number < 2 ^ 64 = let sm = far.small in omega (arith, sm) in (
            subst IsName (sym name-is) (prefixed-named L 108 number refl small),
            titled whole env names (sort_names ts) (term_names ts) (assertion_names ts) (prefix_of L) n t.decl t.name far.stands
                (subst (λ (w : List ℕ). IsOther w (seen_in (seen_of names) t.decl)) (sym name-is) (local-other L number spec (seen_of names) t.decl small far.beside))
                (λ x less same. let bad = same-letter L 118 108 x number (same ∙ name-is) in omega (arith, bad)),
            on k (suc number) ds ws spec (as-far-local k number before t ts ds ws spec names env (visibility_of t) name-is rest agrees far),
          )
      go false [] ws far is agrees on = absurd agrees
      go false (d ∷ ds) [] far is agrees on = absurd far.new
      go false (d ∷ ds) (w ∷ ws) far is agrees on =
          let here = get-first all k w ws far.left in
          let first : t.name ≡ get_or all k [] = cc in
          let name-is : t.name ≡ w = first ∙ here.0 in
          let rest : map (λ t. t.name) ts ≡ statement_names all (prefix_of L) (suc k) (suc number) (marked ts) = cc in
          let same = kinds-space d t.decl agrees.0.0 in (
            subst IsName (sym name-is) far.new.0,
            titled whole env names (sort_names ts) (term_names ts) (assertion_names ts) (prefix_of L) n t.decl t.name far.stands
                (subst (λ (w : List ℕ). IsOther w (seen_in (seen_of names) t.decl)) (sym name-is) (public-other L number spec (seen_of names) d t.decl w same far.short.0 far.new.1 far.beside))
                (λ x less is. not-short L 118 x w refl far.short.0 (is ∙ name-is)),
            on (suc k) (suc number) ds ws (seen_with spec w d)
                (as-far-public k number before t ts d ds w ws spec names env (visibility_of t) name-is same rest here.1 agrees.1 far),
          )

-- restated statements, beside the declarations with which the public ones agree
pub restated-titled : (L : ℕ) (all : List (List ℕ)) (ts : List Statement) (ds : List Declaration) (n : ℕ) → longest_run all ≤ L
    → map (λ t. t.name) ts ≡ statement_names all (prefix_of L) 0 1 (marked ts)
    → AreNew none_seen ds all → Agrees ds (publics (marked ts)) → 1 + length ts < 2 ^ 64 → AreTitled (vocabulary_of (prefix_of L) ts) n [] (no_names false) ts
restated-titled L all ts ds n longest named new agrees small = all-titled L all ts n 0 1 [] ts ds all none_seen (no_names false) [] (record {
  named = named;
  left = refl;
  short = all-short all L longest;
  new = new;
  agrees = agrees;
  beside = record { sorts = λ w other locals. tt; terms = λ w other locals. tt; assertions = λ w other locals. tt; short_sorts = tt; short_terms = tt; short_assertions = tt };
  stands = record { sorts = record { is = refl; many = refl }; terms = record { is = refl; many = refl }; assertions = record { is = refl; many = refl } };
  small = small;
})

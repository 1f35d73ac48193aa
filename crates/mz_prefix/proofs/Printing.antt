-- The public statements of a text, under their public numbers, can be printed.
use Rattle.std.proofs.Common.{◌≡◌, ◌<◌, ◌≤◌, ◌∙◌, ◌++◌, ◌+◌, ℕ, suc, List, [], ◌∷◌, length, Bool, true, false, Some, get_or, ap, sym, refl, inl, inr, arith, append-nil, append_assoc, length-append}
use Rattle.std.specs.Prelude.{⊤, slice_get, All, if◌then◌else◌}
use Rattle.std.proofs.Math.ListN.{get_or-append}
use Rattle.std.proofs.Math.Seq.{get_or-append_seam}
use Rattle.std.proofs.lemmas.Bool.{or_parts, cases_order}
use Rattle.std.proofs.lemmas.Option.{get_or_from_slice_get}
use Rattle.mz_logic_theory.specs.Tree.{Tree, Trees, none, more}
use Rattle.mz_logic_theory.specs.Signature.{Signature}
use Rattle.mz_logic_theory.specs.Declaration.{Form, plain_form, abstract_form, defined, context_of, Term, Declaration, sort_decl, term_decl, assertion_decl, sorts, signatures}
use Rattle.mz_logic_theory.specs.Legality.{InRange, AllInRange, NamesThere}
use Rattle.mz_logic_theory.specs.declared.binder.SortMods.{SortMods}
use Rattle.mz_logic_theory.specs.LegalLists.{Statement as Marked, LegalAfter, Legal, gap_free, MayBeLocal, declarations}
use Rattle.mz_logic_theory.proofs.Offered.{sorts-append, signatures-append, same-sorts, same-signatures}
use Rattle.mz_base.specs.Names.{IsNew}
use Rattle.mz_base.proofs.Offered.{new-last, new-more, new-other}
use Rattle.mz_mmu_theory.specs.Name.{Names, no_names, names_with}
use Rattle.mz_mmu_theory.specs.Statements.{Statement}
use Rattle.mz_mmu_theory.specs.ReadingLaws.{IsWhole, Ascends}
use Rattle.mz_mmu_theory.specs.Meaning.{marked}
use Rattle.mz_prefix.specs.Prefix.{IsShort}
use Rattle.mz_prefix.specs.NamedDeclarations.{Named, Vocabulary, formula_of, AreShort, HasNewName, HasShortBody, IsWithin, used_with, ArePrintable}
use Rattle.mz_prefix.specs.PublicPart.{public_number, is_local_term, visibility_of, visibilities_of, renamed, all_renamed, mentions_local, any_mentions_local, shown, public_decl, Hides, IsSayable}
use Rattle.mz_prefix.proofs.Beside.{AreBeside, none-beside, all-public}
use Rattle.mz_prefix.proofs.Legal.{pick, decl-legal, IsAt, mark-at, at-next, at-known, public-next, local-next}
use Rattle.mz_spec_proved_theory.specs.Match.{term_rows}
use Rattle.mz_mmu_theory.specs.DeclaredNames.{sort_name, term_name, sort_names, term_names}
use Rattle.mz_prefix.specs.Wording.{vocabulary_of, local_terms, IsBrief}
use Rattle.mz_prefix.proofs.Naming.{other-name}
use Rattle.mz_prefix.proofs.Rows.{IsTracked, row-at}
use Rattle.mz_prefix.proofs.Spoken.{KeepsName, same-short}
use Rattle.mz_prefix.proofs.Titles.{IsTitled, AreTitled}

-- ---- numbers of terms

visibilities-step : (l : Bool) (d : Declaration) (ss : List Marked) → length (visibilities_of ss) ≡ length (signatures (declarations ss)) → length (visibility_of l d ++ visibilities_of ss) ≡ length (signatures (d ∷ declarations ss))
visibilities-step l (term_decl d) ss is = omega (arith, is)
visibilities-step l _ ss is = is

visibilities-many : (ss : List Marked) → length (visibilities_of ss) ≡ length (signatures (declarations ss))
visibilities-many [] = refl
visibilities-many (s ∷ ss) = visibilities-step s.is_local s.decl ss (visibilities-many ss)

-- ---- names so far

sorts-next : (names : Names) (w : List ℕ) (d : Declaration) (env : List Declaration) → length names.sorts ≡ length (sorts env) → length (names_with names w d).sorts ≡ length (sorts (env ++ d ∷ []))
sorts-next names w (sort_decl m) env is = omega (arith, is, length-append names.sorts (w ∷ []), ap length (sorts-append env (sort_decl m ∷ [])), length-append (sorts env) (m ∷ []))
sorts-next names w (term_decl d) env is = is ∙ sym (ap length (same-sorts env (term_decl d) refl))
sorts-next names w (assertion_decl a) env is = is ∙ sym (ap length (same-sorts env (assertion_decl a) refl))

terms-next : (names : Names) (w : List ℕ) (d : Declaration) (env : List Declaration) → length names.terms ≡ length (signatures env) → length (names_with names w d).terms ≡ length (signatures (env ++ d ∷ []))
terms-next names w (sort_decl m) env is = is ∙ sym (ap length (same-signatures env (sort_decl m) refl))
terms-next names w (term_decl d) env is = omega (arith, is, length-append names.terms (w ∷ []), ap length (signatures-append env (term_decl d ∷ [])), length-append (signatures env) (d.signature ∷ []))
terms-next names w (assertion_decl a) env is = is ∙ sym (ap length (same-signatures env (assertion_decl a) refl))

sorts-all : (names : Names) (w : List ℕ) (d : Declaration) (rest : List (List ℕ)) → names.sorts ++ (sort_name d w ++ rest) ≡ (names_with names w d).sorts ++ rest
sorts-all names w (sort_decl m) rest = sym (append_assoc names.sorts (w ∷ []) rest)
sorts-all names w _ rest = refl

terms-all : (names : Names) (w : List ℕ) (d : Declaration) (rest : List (List ℕ)) → names.terms ++ (term_name d w ++ rest) ≡ (names_with names w d).terms ++ rest
terms-all names w (term_decl d) rest = sym (append_assoc names.terms (w ∷ []) rest)
terms-all names w _ rest = refl

-- ---- names of assertions

abbrev HasNew : Names → List (List ℕ) → Type 0
HasNew names used = (x : List ℕ) → IsNew names.assertions x → IsNew used x

new-public : (names : Names) (used : List (List ℕ)) (w : List ℕ) (hidden : Tree → Bool) (f : ℕ → ℕ) (d : Declaration) → HasNew names used → HasNew (names_with names w d) (used_with used w (public_decl hidden f d))
new-public names used w hidden f (assertion_decl a) has = λ x new. let parts = new-last names.assertions w x new in new-more used w x (has x parts.0) parts.1
new-public names used w hidden f _ has = has

new-local : (names : Names) (used : List (List ℕ)) (w : List ℕ) (d : Declaration) → HasNew names used → HasNew (names_with names w d) used
new-local names used w (assertion_decl a) has = λ x new. has x (new-last names.assertions w x new).0
new-local names used w _ has = has

-- ---- room

-- its variables are at most n
abbrev pub HasRoom : ℕ → Declaration → Type 0
HasRoom n (sort_decl m) = ⊤
HasRoom n (term_decl d) = length (context_of d) ≤ n
HasRoom n (assertion_decl a) = length a.params ≤ n

-- the text's names, terms by their public numbers
abbrev pub spoken : List Statement → Vocabulary
spoken all = record { sort = (vocabulary_of all).sort; term = λ k. (vocabulary_of all).term (get_or (term_rows 0 (marked all)) k 0); variable = (vocabulary_of all).variable }

-- the public statements, terms numbered so
abbrev pub named : (Tree → Bool) → (ℕ → ℕ) → List Statement → List Named
named hidden f [] = []
named hidden f (s ∷ ss) = if s.is_local then named hidden f ss else record { name = s.name; decl = public_decl hidden f s.decl } ∷ named hidden f ss

module _ (all : List Statement) (hidden : Tree → Bool) (n : ℕ) where
  abbrev ls : List Bool
  ls = local_terms all

  abbrev f : ℕ → ℕ
  f = public_number ls

  abbrev rows : List ℕ
  rows = term_rows 0 (marked all)

  abbrev v : Vocabulary
  v = vocabulary_of all

  -- what is asked of each public statement
  abbrev pub IsWanted : Declaration → Type 0
  IsWanted d = IsSayable ls d × IsBrief v d × HasRoom n (public_decl hidden f d)

  abbrev pub AreWanted : List Statement → Type 0
  AreWanted [] = ⊤
  AreWanted (s ∷ ss) = (s.is_local ≡ false → IsWanted s.decl) × AreWanted ss

  -- ---- numbers

  tracked : (t : ℕ) → t < length ls → is_local_term ls t ≡ false → IsTracked rows f t
  tracked t less public =
      ap (λ (xs : List Bool). slice_get rows (public_number xs t)) (sym (append-nil ls))
      ∙ row-at (marked all) [] 0 t (omega (arith, less, visibilities-many (marked all))) (ap (λ (xs : List Bool). is_local_term xs t) (append-nil ls) ∙ public)
      ∙ ap (λ (u : ℕ). Some u) (omega arith)

  row-is : (t : ℕ) → t < length ls → is_local_term ls t ≡ false → get_or rows (f t) 0 ≡ t
  row-is t less public = get_or_from_slice_get rows (f t) t 0 (tracked t less public)

  pub keeps-names : (t : ℕ) → t < length ls → is_local_term ls t ≡ false → KeepsName f v.term (spoken all).term v.variable t
  keeps-names t less public = ap v.term (row-is t less public)

  -- ---- formulas

  module _ (env : List Declaration) (few : length (signatures env) ≤ length ls) where
    claim-short : (m : ℕ) (e : Tree) → mentions_local ls e ≡ false → InRange (signatures env) m e → IsShort (formula_of v e) e → IsShort (formula_of (spoken all) (renamed f e)) (renamed f e)
    claim-short m e none_ range short =
        same-short f v.term (spoken all).term v.variable e
        (all-public ls (KeepsName f v.term (spoken all).term v.variable) (signatures env) (λ t less public. keeps-names t (omega (arith, less, few)) public) m e none_ range) short

    claims-short : (m : ℕ) (es : Trees) → any_mentions_local ls es ≡ false → AllInRange (signatures env) m es → AreShort v es → AreShort (spoken all) (all_renamed f es)
    claims-short m none none_ range short = tt
    claims-short m (more e es) none_ range short =
        let parts = or_parts (mentions_local ls e) (any_mentions_local ls es) none_ in
        (claim-short m e parts.0 range.0 short.0, claims-short m es parts.1 range.1 short.1)

    body-short : Hides ls hidden → ((e : Tree) → hidden e ≡ false → IsShort (formula_of v e) e) → (sig : Signature) (form : Form) → NamesThere env (term_decl (record { signature = sig; form = form }))
        → HasShortBody (spoken all) (shown hidden f form)
    body-short hides short sig (defined ds e) names =
        pick (HasShortBody (spoken all)) (hidden e) abstract_form (defined ds (renamed f e)) (λ is. tt)
        (λ is. claim-short (length (sig.params ++ ds)) e (hides e is) names.4.0 (short e is))
    body-short hides short sig _ names = tt

    decl-within : Hides ls hidden → ((e : Tree) → hidden e ≡ false → IsShort (formula_of v e) e) → (names : Names) (w : List ℕ) (d : Declaration) → NamesThere env d → IsWanted d → Ascends d → IsTitled names w d
        → IsWithin (spoken all) n (public_decl hidden f d)
    decl-within hides short names w (sort_decl m) there wanted ascends titled = titled.1.1
    decl-within hides short names w (term_decl d) there wanted ascends titled = (wanted.2, ascends.0, ascends.1, body-short hides short d.signature d.form there)
    decl-within hides short names w (assertion_decl a) there wanted ascends titled =
        (wanted.2, ascends, claims-short (length a.params) a.hyps wanted.0.0 there.1 wanted.1.0, claim-short (length a.params) a.conclusion wanted.0.1 there.2 wanted.1.1)

  -- ---- behind some of the statements

  -- each public number so far is that of a term so far
  abbrev IsLow : List Declaration → List Declaration → Type 0
  IsLow env env' = (k : ℕ) → k < length (signatures env') → get_or rows k 0 < length (signatures env)

  -- the names so far are those of the statements so far, and the others those of the rest
  record AreSoFar (env : List Declaration) (names : Names) (ss : List Statement) : Type 0 where
    at : IsAt ls env (marked ss)
    sorts_many : length names.sorts ≡ length (sorts env)
    terms_many : length names.terms ≡ length (signatures env)
    sorts_are : sort_names all ≡ names.sorts ++ sort_names ss
    terms_are : term_names all ≡ names.terms ++ term_names ss

  record IsBehind (env env' : List Declaration) (names : Names) (used : List (List ℕ)) (ss : List Statement) : Type 0 where
    so_far : AreSoFar env names ss
    beside : AreBeside ls env env'
    low : IsLow env env'
    new_used : HasNew names used

  pub few-terms : (env : List Declaration) (ss : List Statement) → IsAt ls env (marked ss) → length (signatures env) ≤ length ls
  few-terms env ss at = let place = at.place in omega (arith, place, ap length at.all, length-append at.before (visibilities_of (marked ss)))

  -- ---- the name of a public statement

  module _ (env env' : List Declaration) (names : Names) (used : List (List ℕ)) (ss : List Statement) where
    sort-new : (w : List ℕ) (m : SortMods) → sort_names all ≡ names.sorts ++ (w ∷ sort_names ss) → length names.sorts ≡ length (sorts env) → sorts env' ≡ sorts env → IsNew names.sorts w
        → HasNewName (spoken all) n env' used w (sort_decl m)
    sort-new w m are many same new =
        let count : length (sorts env') ≡ length names.sorts = ap length same ∙ sym many in (
          sym (ap (λ (i : ℕ). get_or (sort_names all) i []) count ∙ ap (λ (ws : List (List ℕ)). get_or ws (length names.sorts) []) are ∙ get_or-append_seam names.sorts w (sort_names ss) []),
          λ i less is. let below : i < length names.sorts = omega (arith, less, count) in
              new-other names.sorts w new i below
              (sym (ap (λ (ws : List (List ℕ)). get_or ws i []) are ∙ get_or-append names.sorts (w ∷ sort_names ss) [] i below) ∙ is),
        )

    term-new : (w : List ℕ) (d e : Term) → term_names all ≡ names.terms ++ (w ∷ term_names ss) → length names.terms ≡ length (signatures env) → IsAt ls env (record { is_local = false; decl = term_decl d } ∷ marked ss)
        → AreBeside ls env env' → IsLow env env' → IsNew names.terms w → HasNewName (spoken all) n env' used w (term_decl e)
    term-new w d e are many at beside low new =
        let (there, public) = mark-at ls env false d (marked ss) at in
        let last : ℕ = length (signatures env) in
        let row : get_or rows (length (signatures env')) 0 ≡ last = ap (λ (k : ℕ). get_or rows k 0) (sym beside.next) ∙ row-is last there public in
        let named_ : get_or (term_names all) last [] ≡ w =
        ap (λ (ws : List (List ℕ)). get_or ws last []) are ∙ ap (λ (i : ℕ). get_or (names.terms ++ (w ∷ term_names ss)) i []) (sym many) ∙ get_or-append_seam names.terms w (term_names ss) [] in
        let inside : last < length (term_names all) = omega (arith, ap length are, length-append names.terms (w ∷ term_names ss), many) in (
          sym (ap v.term row ∙ named_),
          λ t less is. let below : get_or rows t 0 < length names.terms = omega (arith, low t less, many) in
              new-other names.terms w new (get_or rows t 0) below
              (sym (ap (λ (ws : List (List ℕ)). get_or ws (get_or rows t 0) []) are ∙ get_or-append names.terms (w ∷ term_names ss) [] (get_or rows t 0) below) ∙ is),
          λ x less is. other-name all x last inside (is ∙ sym named_),
        )

    name-new : (w : List ℕ) (d : Declaration) → sort_names all ≡ names.sorts ++ (sort_name d w ++ sort_names ss) → term_names all ≡ names.terms ++ (term_name d w ++ term_names ss)
        → length names.sorts ≡ length (sorts env) → length names.terms ≡ length (signatures env) → IsAt ls env (record { is_local = false; decl = d } ∷ marked ss)
        → AreBeside ls env env' → IsLow env env' → HasNew names used → IsTitled names w d → HasNewName (spoken all) n env' used w (public_decl hidden f d)
    name-new w (sort_decl m) sorts_are terms_are sorts_many terms_many at beside low has titled = sort-new w m sorts_are sorts_many beside.same titled.1.0
    name-new w (term_decl d) sorts_are terms_are sorts_many terms_many at beside low has titled = term-new w d (record { signature = d.signature; form = shown hidden f d.form }) terms_are terms_many at beside low titled.1
    name-new w (assertion_decl a) sorts_are terms_are sorts_many terms_many at beside low has titled = has w titled.1

  -- ---- a statement more

  same-low : (env env' env₂ env'₂ : List Declaration) → length (signatures env) ≤ length (signatures env₂) → length (signatures env'₂) ≤ length (signatures env') → IsLow env env' → IsLow env₂ env'₂
  same-low env env' env₂ env'₂ more_ fewer low k less = omega (arith, low k (omega (arith, less, fewer)), more_)

  longer : (env : List Declaration) (d : Declaration) → length (signatures env) ≤ length (signatures (env ++ d ∷ []))
  longer env d = omega (arith, ap length (signatures-append env (d ∷ [])), length-append (signatures env) (signatures (d ∷ [])))

  low-term : (env env' : List Declaration) (d e : Term) (ss : List Statement) → IsAt ls env (record { is_local = false; decl = term_decl d } ∷ marked ss) → AreBeside ls env env' → IsLow env env'
      → IsLow (env ++ term_decl d ∷ []) (env' ++ term_decl e ∷ [])
  low-term env env' d e ss at beside low k less =
      let (there, public) = mark-at ls env false d (marked ss) at in
      let row : get_or rows (length (signatures env')) 0 ≡ length (signatures env) = ap (λ (i : ℕ). get_or rows i 0) (sym beside.next) ∙ row-is (length (signatures env)) there public in
      let own : length (signatures (env ++ term_decl d ∷ [])) ≡ length (signatures env) + 1 = ap length (signatures-append env (term_decl d ∷ [])) ∙ length-append (signatures env) (d.signature ∷ []) in
      let other : length (signatures (env' ++ term_decl e ∷ [])) ≡ length (signatures env') + 1 = ap length (signatures-append env' (term_decl e ∷ [])) ∙ length-append (signatures env') (e.signature ∷ []) in
      elim (cases_order k (length (signatures env'))) [
        | inl same ↦ omega (arith, ap (λ (i : ℕ). get_or rows i 0) same, row, own)
        | inr differ ↦ elim differ [
          | inl before ↦ omega (arith, low k before, own)
          | inr behind ↦ absurd (omega (arith, less, other, behind))
        ]
      ]

  low-public : (env env' : List Declaration) (d : Declaration) (ss : List Statement) → IsAt ls env (record { is_local = false; decl = d } ∷ marked ss) → AreBeside ls env env' → IsLow env env'
      → IsLow (env ++ d ∷ []) (env' ++ public_decl hidden f d ∷ [])
  low-public env env' (sort_decl m) ss at beside low =
      same-low env env' (env ++ sort_decl m ∷ []) (env' ++ sort_decl m ∷ []) (longer env (sort_decl m)) (omega (arith, ap length (same-signatures env' (sort_decl m) refl))) low
  low-public env env' (term_decl d) ss at beside low = low-term env env' d _ ss at beside low
  low-public env env' (assertion_decl a) ss at beside low =
      same-low env env' (env ++ assertion_decl a ∷ []) (env' ++ public_decl hidden f (assertion_decl a) ∷ []) (longer env (assertion_decl a))
      (omega (arith, ap length (same-signatures env' (public_decl hidden f (assertion_decl a)) refl))) low

  abbrev marked_one : Statement → Marked
  marked_one s = record { is_local = s.is_local; decl = s.decl }

  names-next : (env : List Declaration) (names : Names) (s : Statement) (ss : List Statement) → AreSoFar env names (s ∷ ss) → AreSoFar (env ++ s.decl ∷ []) (names_with names s.name s.decl) ss
  names-next env names s ss o = record {
    at = at-next ls env (marked_one s) (marked ss) o.at;
    sorts_many = sorts-next names s.name s.decl env o.sorts_many;
    terms_many = terms-next names s.name s.decl env o.terms_many;
    sorts_are = o.sorts_are ∙ sorts-all names s.name s.decl (sort_names ss);
    terms_are = o.terms_are ∙ terms-all names s.name s.decl (term_names ss);
  }

  behind-public : (env env' : List Declaration) (names : Names) (used : List (List ℕ)) (s : Statement) (ss : List Statement) → s.is_local ≡ false → IsBehind env env' names used (s ∷ ss)
      → IsBehind (env ++ s.decl ∷ []) (env' ++ public_decl hidden f s.decl ∷ []) (names_with names s.name s.decl) (used_with used s.name (public_decl hidden f s.decl)) ss
  behind-public env env' names used s ss public b =
      let at = at-known ls env (marked_one s) (marked ss) false public b.so_far.at in
      record {
        so_far = names-next env names s ss b.so_far;
        beside = public-next ls hidden env env' s.decl (marked ss) at b.beside;
        low = low-public env env' s.decl ss at b.beside b.low;
        new_used = new-public names used s.name hidden f s.decl b.new_used;
      }

  behind-local : (env env' : List Declaration) (names : Names) (used : List (List ℕ)) (s : Statement) (ss : List Statement) → s.is_local ≡ true → MayBeLocal s.decl → IsBehind env env' names used (s ∷ ss)
      → IsBehind (env ++ s.decl ∷ []) env' (names_with names s.name s.decl) used ss
  behind-local env env' names used s ss local may b = record {
    so_far = names-next env names s ss b.so_far;
    beside = local-next ls hidden env env' s.decl (marked ss) may (at-known ls env (marked_one s) (marked ss) true local b.so_far.at) b.beside;
    low = same-low env env' (env ++ s.decl ∷ []) env' (longer env s.decl) (omega arith) b.low;
    new_used = new-local names used s.name s.decl b.new_used;
  }

  -- ---- all statements

  module _ (hides : Hides ls hidden) (short : (e : Tree) → hidden e ≡ false → IsShort (formula_of v e) e) where
    printable-after : (ss : List Statement) (env env' : List Declaration) (names : Names) (used : List (List ℕ)) → IsBehind env env' names used ss → AreTitled names ss → All IsWhole ss → AreWanted ss
        → LegalAfter gap_free env (marked ss) → ArePrintable (spoken all) n env' used (named hidden f ss)
    printable-after [] env env' names used b titled whole wanted legal = tt
    printable-after (s ∷ ss) env env' names used b titled whole wanted legal =
        let further : All IsWhole ss = λ k d less. whole (suc k) d (omega arith) in
        pick (ArePrintable (spoken all) n env' used) s.is_local (named hidden f ss) (record { name = s.name; decl = public_decl hidden f s.decl } ∷ named hidden f ss)
        (λ local. printable-after ss (env ++ s.decl ∷ []) env' (names_with names s.name s.decl) used (behind-local env env' names used s ss local (legal.0.1 local) b) titled.1 further wanted.1 legal.1)
        (λ public. (
          record {
            identifier = titled.0.0;
            legal = decl-legal ls hidden hides env env' b.beside s.decl (wanted.0 public).0 legal.0.0;
            new = name-new env env' names used ss s.name s.decl b.so_far.sorts_are b.so_far.terms_are b.so_far.sorts_many b.so_far.terms_many (at-known ls env (marked_one s) (marked ss) false public b.so_far.at) b.beside b.low b.new_used titled.0;
            within = decl-within env (few-terms env (s ∷ ss) b.so_far.at) hides short names s.name s.decl legal.0.0.0 (wanted.0 public) (whole 0 s (omega arith)).ascend titled.0;
          },
          printable-after ss (env ++ s.decl ∷ []) (env' ++ public_decl hidden f s.decl ∷ []) (names_with names s.name s.decl) (used_with used s.name (public_decl hidden f s.decl))
              (behind-public env env' names used s ss public b) titled.1 further wanted.1 legal.1,
        ))

    pub all-printable : AreTitled (no_names false) all → All IsWhole all → AreWanted all → Legal (marked all) → ArePrintable (spoken all) n [] [] (named hidden f all)
    all-printable titled whole wanted legal =
        printable-after all [] [] (no_names false) [] (record {
          so_far = record { at = record { before = []; all = refl; place = refl }; sorts_many = refl; terms_many = refl; sorts_are = refl; terms_are = refl };
          beside = none-beside ls;
          low = λ k less. absurd (omega arith);
          new_used = λ x new. refl;
        }) titled whole wanted legal

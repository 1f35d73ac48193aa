-- The rules on names, types and binders hold of what is printed.
use Rattle.std.proofs.Common.{◌≡◌, ◌∙◌, ◌<◌, ◌≤◌, ◌+◌, ◌++◌, ◌⊎◌, ℕ, zero, suc, List, [], ◌∷◌, length, map, Bool, true, false, Some, ap, ap₂, sym, refl, subst, inl, inr, arith, get_or, append-nil, append_assoc}
use Rattle.std.specs.Prelude.{slice_get, All, option_and_then, unwrap_or, Option}
use Rattle.std.specs.List.Sorted.{IsStrictlyIncreasing}
use Rattle.std.proofs.lemmas.Bool.{cases_Bool, cases_order}
use Rattle.std.proofs.lemmas.Option.{slice_get_within}
use Rattle.mz_base.specs.Checks.{AllHold, each_in_order}
use Rattle.mz_base.proofs.Offered.{all_hold-both, known-first, known-later, new-more}
use Rattle.mz_lex.specs.Lexemes.{Lexeme}
use Rattle.mz_logic_theory.specs.Declaration.{sorts, DepsAscend}
use Rattle.mz_logic_theory.specs.Modifiers.{IsPure, IsStrict, IsFree, MayBeResultSort, MayBeDummySort}
use Rattle.mz_logic_theory.specs.Variables.{IsBoundAt}
use Rattle.mz_logic_theory.specs.Legality.{IsParam, AreParams, AreBindersThere, IsDummy}
use Rattle.mz_logic_theory.specs.declared.binder.Binder.{Binder}
use Rattle.mz_logic_theory.specs.declared.binder.SortMods.{SortMods}
use Rattle.mz_logic_theory.proofs.Offered.{one_at}
use Rattle.mz_spec_theory.specs.Statement.{TypeText}
use Rattle.mz_prefix.specs.Lines.{binders_at, binder_words, opening_words, naming_words, type_at}
use Rattle.mz_prefix.specs.Tokens.{stop}
use Rattle.mz_base.specs.Names.{number_of, IsNew, IsKnown}
use Rattle.mz_spec_theory.specs.View.{Variable, name_texts, group_types}
use Rattle.mz_spec_theory.specs.State.{State, binder_of}
use Rattle.mz_spec_theory.specs.Dependencies.{dep_places, Every, IsCalled, IsBoundAmong}
use Rattle.mz_spec_theory.specs.Rules.{are_others, is_other, is_known, type_checks, mods_of, HasSortThat, IsBinder, AreBinders, DependsOnNothing, IsDummySort, IsNotPure}
use Rattle.mz_prefix.specs.NamedDeclarations.{Vocabulary, HasVariables, plain_binders, plain_dummies, plain_param, plain_dummy, plain_type}
use Rattle.mz_prefix.proofs.Shown.{AreTexts, IsTyped, typed-at, IsShown, AreShown, AllShown, names_from}
use Rattle.mz_prefix.proofs.Places.{AllBelow, below-all, ascending, among-same, places-are}

-- ---- names

module _ (v : Vocabulary) (n : ℕ) (variables : HasVariables v n) where
  abbrev Free : ℕ → List (List ℕ) → Type 0
  Free x seen = (y : ℕ) → x ≤ y → y < n → IsNew seen (v.variable y)

  free-next : (x : ℕ) (seen : List (List ℕ)) → x < n → Free x seen → Free (suc x) (seen ++ v.variable x ∷ [])
  free-next x seen less free y le ys = new-more seen (v.variable x) (v.variable y) (free y (omega arith) ys) (λ is. let same : x ≡ y = variables.distinct x y less ys is in absurd (omega arith))

  others-next : (x : ℕ) (b : Binder) (d : Bool) (w : Variable) (ws : List Variable) (seen : List (List ℕ)) → x < n → IsShown v x b d w → Free x seen
      → AllHold (are_others (seen ++ v.variable x ∷ []) ws) → AllHold (are_others seen (w ∷ ws))
  others-next x b d w ws seen less is free rest =
      let P : Option Lexeme → Type 0 = λ o. AllHold (is_other seen o) in
      let Q : List ℕ → Type 0 = λ t. IsNew seen t in
      let R : List (List ℕ) → Type 0 = λ ts. AllHold (are_others (seen ++ ts) ws) in
      all_hold-both (is_other seen w.name) (are_others (seen ++ name_texts w.name) ws)
      (subst P (sym is.named) (subst Q (sym is.text) (free x (omega arith) less), tt))
      (subst R (sym (ap name_texts is.named ∙ ap (λ t. t ∷ []) is.text)) rest)

  dummies-others : (ds : List Binder) (ws : List Variable) (x : ℕ) (seen : List (List ℕ)) → x + length ds ≤ n → AreShown v true x ds ws → Free x seen → AllHold (are_others seen ws)
  dummies-others [] [] x seen few shown free = tt
  dummies-others (d ∷ ds) (w ∷ ws) x seen few (is, shown) free =
      others-next x d true w ws seen (omega arith) is free (dummies-others ds ws (suc x) (seen ++ v.variable x ∷ []) (omega arith) shown (free-next x seen (omega arith) free))
  dummies-others _ _ x seen few shown free = absurd shown

  pub all-others : (bs ds : List Binder) (ws : List Variable) (x : ℕ) (seen : List (List ℕ)) → x + length bs + length ds ≤ n → AllShown v x bs ds ws → Free x seen → AllHold (are_others seen ws)
  all-others [] ds ws x seen few shown free = dummies-others ds ws x seen (omega arith) shown free
  all-others (b ∷ bs) ds [] x seen few shown free = absurd shown
  all-others (b ∷ bs) ds (w ∷ ws) x seen few (is, shown) free =
      others-next x b false w ws seen (omega arith) is free (all-others bs ds ws (suc x) (seen ++ v.variable x ∷ []) (omega arith) shown (free-next x seen (omega arith) free))

-- ---- types

pub known-variable : (v : Vocabulary) (k x j y : ℕ) → j < k → y ≡ x + j → IsKnown (names_from v x k) (v.variable y)
known-variable v zero x j y less is = absurd (omega arith)
known-variable v (suc k) x zero y less is = let same : x ≡ y = omega arith in known-first (v.variable x) (names_from v (suc x) k) (v.variable y) (ap v.variable same)
known-variable v (suc k) x (suc j) y less is = known-later (v.variable x) (names_from v (suc x) k) (v.variable y) (known-variable v k (suc x) j y (omega arith) (omega arith))

module _ (v : Vocabulary) (σ : State) (sorts-known : (s : ℕ) → s < length (sorts σ.env) → number_of σ.sort_names (v.sort s) ≡ Some s) where
  pub sort-found : (s : ℕ) (deps : List ℕ) (t : TypeText) → IsTyped v s deps t → s < length (sorts σ.env) → number_of σ.sort_names t.sort.text ≡ Some s
  sort-found s deps t typed less = ap (number_of σ.sort_names) typed.0 ∙ sorts-known s less

  deps-hold : (names : List (List ℕ)) (m : ℕ) → ((j : ℕ) → j < m → IsKnown names (v.variable j)) → (xs : List ℕ) (ls : List Lexeme) → AreTexts v xs ls → AllBelow m xs → AllHold (each_in_order (is_known names) ls)
  deps-hold names m known [] [] texts below = tt
  deps-hold names m known (x ∷ xs) (l ∷ ls) texts below =
      let P : List ℕ → Type 0 = λ t. IsKnown names t in (subst P (sym texts.0) (known x below.0), deps-hold names m known xs ls texts.1 below.1)
  deps-hold names m known _ _ texts below = absurd texts

  pub type-holds : (names : List (List ℕ)) (m : ℕ) → ((j : ℕ) → j < m → IsKnown names (v.variable j)) → (s : ℕ) (xs : List ℕ) (t : TypeText) → IsTyped v s xs t → s < length (sorts σ.env) → AllBelow m xs
      → AllHold (type_checks σ names t)
  type-holds names m known s xs t typed less below = ((s, sort-found s xs t typed less), deps-hold names m known xs t.deps typed.1 below)

  dummy-types : (names : List (List ℕ)) (m : ℕ) → ((j : ℕ) → j < m → IsKnown names (v.variable j)) → (more_ : List TypeText) → AllHold (each_in_order (type_checks σ names) more_)
      → (ds : List Binder) (x p : ℕ) → AreBindersThere (sorts σ.env) m ds → AllHold (each_in_order (type_checks σ names) (group_types (binders_at p (plain_dummies v x ds)) ++ more_))
  dummy-types names m known more_ rest [] x p there = rest
  dummy-types names m known more_ rest (d ∷ ds) x p there =
      let t : TypeText = type_at (stop (stop p (opening_words (plain_dummy v x d))) (naming_words (plain_dummy v x d))) (plain_type v d.sort []) in
      all_hold-both (type_checks σ names t) _ (type-holds names m known d.sort [] t (refl, tt) (there 0 d (omega arith)).0 tt)
      (dummy-types names m known more_ rest ds (suc x) (stop p (binder_words (plain_dummy v x d))) (λ k e less. there (suc k) e (omega arith)))

  pub types-hold : (names : List (List ℕ)) (m : ℕ) → ((j : ℕ) → j < m → IsKnown names (v.variable j)) → (more_ : List TypeText) → AllHold (each_in_order (type_checks σ names) more_)
      → (bs ds : List Binder) (x p : ℕ) → AreBindersThere (sorts σ.env) m bs → AreBindersThere (sorts σ.env) m ds
      → AllHold (each_in_order (type_checks σ names) (group_types (binders_at p (plain_binders v x bs ds)) ++ more_))
  types-hold names m known more_ rest [] ds x p there also = dummy-types names m known more_ rest ds x p also
  types-hold names m known more_ rest (b ∷ bs) ds x p there also =
      let q : ℕ = stop (stop p (opening_words (plain_param v x b))) (naming_words (plain_param v x b)) in
      let t : TypeText = type_at q (plain_type v b.sort b.deps) in
      all_hold-both (type_checks σ names t) _ (type-holds names m known b.sort b.deps t (typed-at v b.sort b.deps q) (there 0 b (omega arith)).0 (below-all m b.deps (there 0 b (omega arith)).1))
      (types-hold names m known more_ rest bs ds (suc x) (stop p (binder_words (plain_param v x b))) (λ k e less. there (suc k) e (omega arith)) also)

  -- ---- sorts

  mods-are : (s : ℕ) (deps : List ℕ) (t : TypeText) → IsTyped v s deps t → s < length (sorts σ.env) → mods_of σ t ≡ slice_get (sorts σ.env) s
  mods-are s deps t typed less = ap (option_and_then (λ i. slice_get (sorts σ.env) i)) (sort-found s deps t typed less)

  -- what a sort's modifiers aren't
  not-of : (P : SortMods → Type 0) (s : ℕ) (deps : List ℕ) (t : TypeText) (m : SortMods) → IsTyped v s deps t → slice_get (sorts σ.env) s ≡ Some m → (P m → ⊥) → HasSortThat σ P t → ⊥
  not-of P s deps t m typed at not_ (m', is, p) =
      let same : m' ≡ m = one_at (sym (mods-are s deps t typed (slice_get_within (sorts σ.env) s m at)) ∙ is) at in not_ (subst P same p)

  pub not-pure : (s : ℕ) (deps : List ℕ) (t : TypeText) → IsTyped v s deps t → MayBeResultSort (sorts σ.env) s → IsNotPure σ t
  not-pure s deps t typed (m, at, not_) = not-of IsPure s deps t m typed at not_

  -- ---- binders

  no-texts : (xs : List ℕ) (ls : List Lexeme) → xs ≡ [] → AreTexts v xs ls → ls ≡ []
  no-texts xs [] is texts = refl
  no-texts xs (l ∷ ls) is texts = let P : List ℕ → Type 0 = λ us. AreTexts v us (l ∷ ls) in absurd (subst P is texts)

  pub dummies-hold : (ds : List Binder) (ws : List Variable) (x : ℕ) → AreShown v true x ds ws → All IsDummy ds → All (λ b. MayBeDummySort (sorts σ.env) b.sort) ds
      → Every DependsOnNothing ws × Every (IsDummySort σ) ws
  dummies-hold [] [] x shown are may = (tt, tt)
  dummies-hold (d ∷ ds) (w ∷ ws) x (is, shown) are may =
      let rest = dummies-hold ds ws (suc x) shown (λ k e less. are (suc k) e (omega arith)) (λ k e less. may (suc k) e (omega arith)) in
      let (m, at, strict, free) = may 0 d (omega arith) in
      let P : SortMods → Type 0 = λ m. IsStrict m ⊎ IsFree m in
      ((no-texts d.deps w.type.deps (are 0 d (omega arith)).1 is.typed.1, rest.0), (not-of P d.sort d.deps w.type m is.typed at (λ e. elim e [ inl s ↦ strict s | inr f ↦ free f ]), rest.1))
  dummies-hold _ _ x shown are may = absurd shown

  among-left : (xs ys : List Variable) (l : Lexeme) → IsBoundAmong xs l → IsBoundAmong (xs ++ ys) l
  among-left [] ys l among = absurd among
  among-left (x ∷ xs) ys l (inl here) = inl here
  among-left (x ∷ xs) ys l (inr there) = inr (among-left xs ys l there)

  among-right : (xs ys : List Variable) (l : Lexeme) → IsBoundAmong ys l → IsBoundAmong (xs ++ ys) l
  among-right [] ys l among = among
  among-right (x ∷ xs) ys l among = inr (among-right xs ys l among)

  module _ (all : List Binder) where
    -- the first x parameters, those that are bound, are found by their names
    abbrev pub Have : List Variable → ℕ → Type 0
    Have before x = (j : ℕ) (c : Binder) → j < x → slice_get all j ≡ Some c → c.bound ≡ true → (l : Lexeme) → l.text ≡ v.variable j → IsBoundAmong before l

    have-next : (before : List Variable) (x : ℕ) (b : Binder) (w : Variable) → Have before x → IsShown v x b false w → slice_get all x ≡ Some b → Have (before ++ w ∷ []) (suc x)
    have-next before x b w have is at j c less there bound l text =
        elim (cases_order j x) [
          | inl same ↦ (
              let C : Option Lexeme → Type 0 = λ o. IsCalled o l.text in
              let binder : b ≡ c = one_at at (ap (slice_get all) (sym same) ∙ there) in
              let called : IsCalled w.name l.text = subst C (sym is.named) (is.text ∙ ap v.variable (sym same) ∙ sym text) in
              among-right before (w ∷ []) l (inl (is.bound ∙ ap (λ d. d.bound) binder ∙ bound, called)))
          | inr other ↦ elim other [
            | inl earlier ↦ among-left before (w ∷ []) l (have j c earlier there bound l text)
            | inr later ↦ absurd (omega arith)
          ]
        ]

    deps-among : (before : List Variable) (x : ℕ) → Have before x → (xs : List ℕ) (ls : List Lexeme) → AreTexts v xs ls → All (λ j. (j < x) × IsBoundAt all j) xs → Every (IsBoundAmong before) ls
    deps-among before x have [] [] texts are = tt
    deps-among before x have (y ∷ ys) (l ∷ ls) texts are =
        let (less, (c, there, bound)) = are 0 0 (omega arith) in
        (have y c less there bound l texts.0, deps-among before x have ys ls texts.1 (λ k d less. are (suc k) d (omega arith)))
    deps-among before x have _ _ texts are = absurd texts

    binder-is : (before : List Variable) (x : ℕ) (b : Binder) (w : Variable) → Have before x → IsShown v x b false w → IsParam (sorts σ.env) all x b → IsBinder σ before w
    binder-is before x b w have is (bound, regular) = (
      (λ yes_. let (deps, (m, at, strict)) = bound (sym is.bound ∙ yes_) in (no-texts b.deps w.type.deps deps is.typed.1, not-of IsStrict b.sort b.deps w.type m is.typed at strict)),
      deps-among before x have b.deps w.type.deps is.typed.1 (elim (cases_Bool b.bound) [
        | inl yes_ ↦ (let P : List ℕ → Type 0 = λ js. All (λ j. (j < x) × IsBoundAt all j) js in subst P (sym (bound yes_).0) (λ k d less. absurd (omega arith)))
        | inr not_ ↦ regular not_
      ]),
    )

    abbrev pub Ends : ℕ → List Binder → Type 0
    Ends x bs = (k : ℕ) (c : Binder) → slice_get bs k ≡ Some c → slice_get all (x + k) ≡ Some c

    pub are-binders : AreParams (sorts σ.env) all → (bs : List Binder) (ws before : List Variable) (x : ℕ) → AreShown v false x bs ws → Ends x bs → Have before x
        → AreBinders σ before ws × Have (before ++ ws) (x + length bs)
    are-binders params [] [] before x shown ends have =
        let P : ℕ → Type 0 = λ y. Have (before ++ []) y in
        let Q : List Variable → Type 0 = λ us. Have us x in
        let place : x ≡ x + 0 = omega arith in (tt, subst P place (subst Q (sym (append-nil before)) have))
    are-binders params (b ∷ bs) (w ∷ ws) before x (is, shown) ends have =
        let zero_ : x + 0 ≡ x = omega arith in
        let at : slice_get all x ≡ Some b = ap (slice_get all) (sym zero_) ∙ ends 0 b refl in
        let further : Ends (suc x) bs = λ k c there. let place : suc x + k ≡ x + suc k = omega arith in ap (slice_get all) place ∙ ends (suc k) c there in
        let rest = are-binders params bs ws (before ++ w ∷ []) (suc x) shown further (have-next before x b w have is at) in
        let P : List Variable → Type 0 = λ us. Have us (suc x + length bs) in
        let Q : ℕ → Type 0 = λ y. Have (before ++ w ∷ ws) y in
        let end : suc x + length bs ≡ x + length (b ∷ bs) = omega arith in
        ((binder-is before x b w have is (params x b at), rest.0), subst Q end (subst P (append_assoc before (w ∷ []) ws) rest.1))
    are-binders params _ _ before x shown ends have = absurd shown

    pub result-among : (ps : List Variable) → Have ps (length all) → (xs : List ℕ) (ls : List Lexeme) → AreTexts v xs ls → All (λ j. IsBoundAt all j) xs → Every (IsBoundAmong ps) ls
    result-among ps have xs ls texts are = deps-among ps (length all) have xs ls texts (λ k d less. let (c, there, bound) = are k d less in (slice_get_within all (get_or xs k d) c there, (c, there, bound)))

  -- ---- the binders that are read

  make : ℕ → Bool → List ℕ → Binder
  make s b ds = record { sort = s; bound = b; deps = ds }

  module _ (n : ℕ) (variables : HasVariables v n) (all : List Binder) (ps : List Variable) (few : length all ≤ n) (whole : AreShown v false 0 all ps) where
    pub deps-are : (xs : List ℕ) (ls : List Lexeme) → AreTexts v xs ls → IsStrictlyIncreasing xs → All (λ j. j < length all) xs → dep_places 0 ps ls ≡ xs
    deps-are xs ls texts up below =
        let low = below-all (length all) xs below in
        let wide = below-all n xs (λ k d less. let b = below k d less in omega arith) in
        places-are v ls all ps 0 0 (length all) xs refl (omega arith) whole (ascending xs up) low (λ k le less. among-same v n variables xs ls k texts wide (omega arith))

    binder-same : (x : ℕ) (d : Bool) (b : Binder) (w : Variable) → IsShown v x b d w → b.sort < length (sorts σ.env) → IsStrictlyIncreasing b.deps → All (λ j. j < length all) b.deps → binder_of σ ps w ≡ b
    unfolding make
    binder-same x d b w is there up below =
        ap (λ o. make (unwrap_or o 0) w.is_bound (dep_places 0 ps w.type.deps)) (sort-found b.sort b.deps w.type is.typed there)
        ∙ ap₂ (make b.sort) is.bound (deps-are b.deps w.type.deps is.typed.1 up below)

    pub binders-same : (bs : List Binder) (ws : List Variable) (x : ℕ) (d : Bool) → AreShown v d x bs ws → AreBindersThere (sorts σ.env) (length all) bs → DepsAscend bs → map (binder_of σ ps) ws ≡ bs
    binders-same [] [] x d shown there up = refl
    binders-same (b ∷ bs) (w ∷ ws) x d (is, shown) there up =
        ap₂ ◌∷◌ (binder-same x d b w is (there 0 b (omega arith)).0 (up 0 b (omega arith)) (there 0 b (omega arith)).1)
        (binders-same bs ws (suc x) d shown (λ k e less. there (suc k) e (omega arith)) (λ k e less. up (suc k) e (omega arith)))
    binders-same _ _ x d shown there up = absurd shown

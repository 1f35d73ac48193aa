-- What the rules see of binders that are printed.
use Rattle.std.proofs.Common.{◌≡◌, ◌∙◌, ◌<◌, ◌≤◌, ◌++◌, ◌+◌, ℕ, zero, suc, List, [], ◌∷◌, length, map, Bool, true, false, Some, None, ap, sym, refl, subst, arith}
use Rattle.std.specs.Prelude.{⊤, bytes_eq, codes, if◌then◌else◌, IsTrue, slice_get}
use Rattle.std.proofs.lemmas.Bool.{and_parts, not-true}
use Rattle.mz_base.proofs.Offered.{or-false}
use Rattle.mz_base.specs.Identifiers.{is_name}
use Rattle.mz_lex.specs.Lexemes.{Lexeme}
use Rattle.mz_logic_theory.specs.declared.binder.Binder.{Binder}
use Rattle.mz_logic_theory.specs.Legality.{IsDummy}
use Rattle.mz_spec_theory.specs.Statement.{TypeText}
use Rattle.mz_prefix.specs.Tokens.{lexeme_at, lexemes_at, stop}
use Rattle.mz_prefix.specs.Lines.{name_word, spaced_name, dep_words, type_at, opening_words, naming_words, binder_words, binders_at}
use Rattle.mz_spec_theory.specs.View.{Variable, variables_of, name_of, params_of, dummies_of, names_of, name_texts}
use Rattle.mz_spec_theory.specs.State.{variable_bytes, bytes_of}
use Rattle.mz_prefix.specs.NamedDeclarations.{Vocabulary, plain_type, plain_param, plain_dummy, plain_dummies, plain_binders}

-- ---- types and variables, whatever their places

abbrev pub AreTexts : Vocabulary → List ℕ → List Lexeme → Type 0
AreTexts v [] [] = ⊤
AreTexts v [] (l ∷ ls) = ⊥
AreTexts v (x ∷ xs) [] = ⊥
AreTexts v (x ∷ xs) (l ∷ ls) = (l.text ≡ v.variable x) × AreTexts v xs ls

abbrev pub IsTyped : Vocabulary → ℕ → List ℕ → TypeText → Type 0
IsTyped v s deps t = (t.sort.text ≡ v.sort s) × AreTexts v deps t.deps

-- w is the variable x, of this binder
pub record IsShown (v : Vocabulary) (x : ℕ) (b : Binder) (dummy : Bool) (w : Variable) : Type 0 where
  pub lexeme : Lexeme
  pub named : w.name ≡ Some lexeme
  pub text : lexeme.text ≡ v.variable x
  pub dummy_is : w.is_dummy ≡ dummy
  pub bound : w.is_bound ≡ b.bound
  pub typed : IsTyped v b.sort b.deps w.type

abbrev pub AreShown : Vocabulary → Bool → ℕ → List Binder → List Variable → Type 0
AreShown v dummy x [] [] = ⊤
AreShown v dummy x [] (w ∷ ws) = ⊥
AreShown v dummy x (b ∷ bs) [] = ⊥
AreShown v dummy x (b ∷ bs) (w ∷ ws) = IsShown v x b dummy w × AreShown v dummy (suc x) bs ws

-- parameters, and then dummies
abbrev pub AllShown : Vocabulary → ℕ → List Binder → List Binder → List Variable → Type 0
AllShown v x [] ds ws = AreShown v true x ds ws
AllShown v x (b ∷ bs) ds [] = ⊥
AllShown v x (b ∷ bs) ds (w ∷ ws) = IsShown v x b false w × AllShown v (suc x) bs ds ws

-- ---- what is printed is shown

texts-at : (v : Vocabulary) (xs : List ℕ) (p : ℕ) → AreTexts v xs (lexemes_at p (dep_words (map v.variable xs)))
texts-at v [] p = tt
texts-at v (x ∷ xs) p = (refl, texts-at v xs (stop p (spaced_name (v.variable x) ∷ [])))

pub typed-at : (v : Vocabulary) (s : ℕ) (xs : List ℕ) (p : ℕ) → IsTyped v s xs (type_at p (plain_type v s xs))
typed-at v s xs p = (refl, texts-at v xs (stop p (spaced_name (v.sort s) ∷ [])))

not-blank : (n : List ℕ) → is_name n ≡ true → bytes_eq n (codes "_") ≡ false
not-blank [] is = refl
not-blank (c ∷ cs) is = not-true _ (and_parts _ _ is).1

named-at : (l : Lexeme) → is_name l.text ≡ true → name_of l ≡ Some l
named-at l is = ap (λ b. if b then None else Some l) (not-blank l.text is)

module _ (v : Vocabulary) (n : ℕ) (names : (x : ℕ) → x < n → IsTrue (is_name (v.variable x))) where
  dummies-shown : (ds : List Binder) (x p : ℕ) → x + length ds ≤ n → ((i : ℕ) (d : Binder) → slice_get ds i ≡ Some d → IsDummy d)
      → AreShown v true x ds (variables_of (binders_at p (plain_dummies v x ds)))
  dummies-shown [] x p few are = tt
  dummies-shown (d ∷ ds) x p few are =
      let is : IsDummy d = are 0 d refl in
      let q : ℕ = stop (stop p (opening_words (plain_dummy v x d))) (naming_words (plain_dummy v x d)) in
      let T : List ℕ → Type 0 = λ js. IsTyped v d.sort js (type_at q (plain_type v d.sort [])) in (
        record {
          lexeme = lexeme_at (stop p (opening_words (plain_dummy v x d))) (name_word (v.variable x));
          named = named-at _ (names x (omega arith));
          text = refl;
          dummy_is = refl;
          bound = sym is.0;
          typed = subst T (sym is.1) (typed-at v d.sort [] q);
        },
        dummies-shown ds (suc x) (stop p (binder_words (plain_dummy v x d))) (omega arith) (λ i e at. are (suc i) e at),
      )

  pub binders-shown : (bs ds : List Binder) (x p : ℕ) → x + length bs + length ds ≤ n → ((i : ℕ) (d : Binder) → slice_get ds i ≡ Some d → IsDummy d)
      → AllShown v x bs ds (variables_of (binders_at p (plain_binders v x bs ds)))
  binders-shown [] ds x p few are = dummies-shown ds x p (omega arith) are
  binders-shown (b ∷ bs) ds x p few are = (
    record {
      lexeme = lexeme_at (stop p (opening_words (plain_param v x b))) (name_word (v.variable x));
      named = named-at _ (names x (omega arith));
      text = refl;
      dummy_is = refl;
      bound = or-false b.bound;
      typed = typed-at v b.sort b.deps (stop (stop p (opening_words (plain_param v x b))) (naming_words (plain_param v x b)));
    },
    binders-shown bs ds (suc x) (stop p (binder_words (plain_param v x b))) (omega arith) are,
  )

-- ---- parameters and dummies apart

no-params : (v : Vocabulary) (ds : List Binder) (ws : List Variable) (x : ℕ) → AreShown v true x ds ws → (params_of ws ≡ []) × (dummies_of ws ≡ ws)
no-params v [] [] x shown = (refl, refl)
no-params v (d ∷ ds) (w ∷ ws) x (is, shown) =
    let rest = no-params v ds ws (suc x) shown in
    (ap (λ b. if b then params_of ws else w ∷ params_of ws) is.dummy_is ∙ rest.0, ap (λ b. if b then w ∷ dummies_of ws else dummies_of ws) is.dummy_is ∙ ap (λ us. w ∷ us) rest.1)
no-params v _ _ x shown = absurd shown

pub params-shown : (v : Vocabulary) (bs ds : List Binder) (ws : List Variable) (x : ℕ) → AllShown v x bs ds ws → AreShown v false x bs (params_of ws)
params-shown v [] ds ws x shown = let P : List Variable → Type 0 = λ us. AreShown v false x [] us in subst P (sym (no-params v ds ws x shown).0) tt
params-shown v (b ∷ bs) ds [] x shown = absurd shown
params-shown v (b ∷ bs) ds (w ∷ ws) x (is, shown) =
    let P : List Variable → Type 0 = λ us. AreShown v false x (b ∷ bs) us in
    subst P (sym (ap (λ b. if b then params_of ws else w ∷ params_of ws) is.dummy_is)) (is, params-shown v bs ds ws (suc x) shown)

pub dummies-apart : (v : Vocabulary) (bs ds : List Binder) (ws : List Variable) (x : ℕ) → AllShown v x bs ds ws → AreShown v true (x + length bs) ds (dummies_of ws)
dummies-apart v [] ds ws x shown =
    let P : List Variable → Type 0 = λ us. AreShown v true x ds us in
    let Q : ℕ → Type 0 = λ y. AreShown v true y ds (dummies_of ws) in
    let place : x ≡ x + 0 = omega arith in
    subst Q place (subst P (sym (no-params v ds ws x shown).1) shown)
dummies-apart v (b ∷ bs) ds [] x shown = absurd shown
dummies-apart v (b ∷ bs) ds (w ∷ ws) x (is, shown) =
    let P : List Variable → Type 0 = λ us. AreShown v true (x + length (b ∷ bs)) ds us in
    let Q : ℕ → Type 0 = λ y. AreShown v true y ds (dummies_of ws) in
    let place : suc x + length bs ≡ x + length (b ∷ bs) = omega arith in
    subst P (sym (ap (λ b. if b then w ∷ dummies_of ws else dummies_of ws) is.dummy_is)) (subst Q place (dummies-apart v bs ds ws (suc x) shown))

-- ---- names

-- so many names, the first of which is that of x
abbrev pub names_from : Vocabulary → ℕ → ℕ → List (List ℕ)
names_from v x zero = []
names_from v x (suc k) = v.variable x ∷ names_from v (suc x) k

pub length-names : (v : Vocabulary) (x k : ℕ) → length (names_from v x k) ≡ k
length-names v x zero = refl
length-names v x (suc k) = ap suc (length-names v (suc x) k)

pub name-there : (v : Vocabulary) (k x j : ℕ) → j < k → slice_get (names_from v x k) j ≡ Some (v.variable (x + j))
name-there v zero x j less = absurd (omega arith)
name-there v (suc k) x zero less = let place : x ≡ x + 0 = omega arith in ap (λ y. Some (v.variable y)) place
name-there v (suc k) x (suc j) less = let place : suc x + j ≡ x + suc j = omega arith in name-there v k (suc x) j (omega arith) ∙ ap (λ y. Some (v.variable y)) place

pub names-join : (v : Vocabulary) (a b x : ℕ) → names_from v x a ++ names_from v (x + a) b ≡ names_from v x (a + b)
names-join v zero b x = let place : x + 0 ≡ x = omega arith in let none_ : b ≡ 0 + b = omega arith in ap (λ y. names_from v y b) place ∙ ap (names_from v x) none_
names-join v (suc a) b x =
    let place : x + suc a ≡ suc x + a = omega arith in let more_ : suc (a + b) ≡ suc a + b = omega arith in
    ap (λ y. v.variable x ∷ (names_from v (suc x) a ++ names_from v y b)) place ∙ ap (λ ns. v.variable x ∷ ns) (names-join v a b (suc x)) ∙ ap (names_from v x) more_

bytes-shown : (v : Vocabulary) (x : ℕ) (b : Binder) (d : Bool) (w : Variable) → IsShown v x b d w → variable_bytes w ≡ v.variable x
bytes-shown v x b d w is = ap bytes_of is.named ∙ is.text

pub bytes-are : (v : Vocabulary) (d : Bool) (bs : List Binder) (ws : List Variable) (x : ℕ) → AreShown v d x bs ws → map variable_bytes ws ≡ names_from v x (length bs)
bytes-are v d [] [] x shown = refl
bytes-are v d (b ∷ bs) (w ∷ ws) x (is, shown) = ap (λ n. n ∷ map variable_bytes ws) (bytes-shown v x b d w is) ∙ ap (λ ns. v.variable x ∷ ns) (bytes-are v d bs ws (suc x) shown)
bytes-are v d _ _ x shown = absurd shown

texts-shown : (v : Vocabulary) (x : ℕ) (b : Binder) (d : Bool) (w : Variable) → IsShown v x b d w → name_texts w.name ≡ v.variable x ∷ []
texts-shown v x b d w is = ap name_texts is.named ∙ ap (λ t. t ∷ []) is.text

dummy-names : (v : Vocabulary) (ds : List Binder) (ws : List Variable) (x : ℕ) → AreShown v true x ds ws → names_of ws ≡ names_from v x (length ds)
dummy-names v [] [] x shown = refl
dummy-names v (d ∷ ds) (w ∷ ws) x (is, shown) = ap (λ ns. ns ++ names_of ws) (texts-shown v x d true w is) ∙ ap (λ ns. v.variable x ∷ ns) (dummy-names v ds ws (suc x) shown)
dummy-names v _ _ x shown = absurd shown

pub all-names : (v : Vocabulary) (bs ds : List Binder) (ws : List Variable) (x : ℕ) → AllShown v x bs ds ws → names_of ws ≡ names_from v x (length bs + length ds)
all-names v [] ds ws x shown = let same : length ds ≡ 0 + length ds = omega arith in dummy-names v ds ws x shown ∙ ap (names_from v x) same
all-names v (b ∷ bs) ds [] x shown = absurd shown
all-names v (b ∷ bs) ds (w ∷ ws) x (is, shown) =
    let same : suc (length bs + length ds) ≡ suc (length bs) + length ds = omega arith in
    ap (λ ns. ns ++ names_of ws) (texts-shown v x b false w is) ∙ ap (λ ns. v.variable x ∷ ns) (all-names v bs ds ws (suc x) shown) ∙ ap (names_from v x) same

-- The text of a line, part by part.
use Rattle.std.specs.Prelude.{codes, ◌==◌, if◌then◌else◌}
use Rattle.std.proofs.Common.{◌≡◌, ◌/◌, ◌%◌, ◌++◌, ◌∙◌, ℕ, Bool, true, false, List, [], ◌∷◌, refl, sym, ap, append_assoc}
use Rattle.mz_logic_theory.specs.Tree.{Tree, Trees, var, app, none, more}
use Rattle.mz_logic_theory.specs.Signature.{Signature}
use Rattle.mz_logic_theory.specs.Declaration.{plain_form, abstract_form, defined, Assertion, sort_decl, term_decl, assertion_decl}
use Rattle.mz_logic_theory.specs.declared.binder.Binder.{Binder}
use Rattle.mz_logic_theory.specs.declared.binder.SortMods.{SortMods}
use Rattle.mz_spec_theory.specs.Statement.{keyword_of}
use Rattle.mz_spec_theory.specs.declared.kind.Kind.{Kind}
use Rattle.mz_spec_theory.specs.declared.kind.Kind.TheVariants.{Term, Assert, Definition}
use Rattle.mz_prefix.specs.Tokens.{Word, written}
use Rattle.mz_prefix.specs.Lines.{PlainBinder, PlainType, spaced_name, spaced_mark, math_word, type_words, head_words, colon_words, end_words, hyps_words, sort_words, line_text}
use Rattle.mz_prefix.proofs.PlainLines.{written-append}
use Rattle.mz_prefix.specs.PublicPart.{renamed, all_renamed}
use Rattle.mz_prefix.specs.NamedDeclarations.{Vocabulary, plain_type, plain_binders, formula_of, formulas_of, kind_of, line_of_decl, term_line_of, modifiers_of}
use Rattle.mz_prefix.specs.Wording.{is_hidden}
use Rattle.mz_prefix.specs.declared.names.Names.{Names}
use Rattle.mz_prefix.specs.Names.{spoken}
use Rattle.mz_prefix.specs.Writing.{modifier_text, head_text, bare_text, told}

-- ---- sorts

keywords-are : (pure strict provable free : Bool) → written (sort_words (record { is_pure = pure; is_strict = strict; is_provable = provable; is_free = free }))
    ≡ modifier_text pure (codes "pure") ++ (modifier_text strict (codes "strict") ++ (modifier_text provable (codes "provable") ++ (modifier_text free (codes "free") ++ codes "sort")))
keywords-are true true true true = refl
keywords-are true true false true = refl
keywords-are true false true true = refl
keywords-are true false false true = refl
keywords-are false true true true = refl
keywords-are false true false true = refl
keywords-are false false true true = refl
keywords-are false false false true = refl
keywords-are _ _ _ _ = refl

ended-sort : (p s r f name : List ℕ) → ((p ++ (s ++ (r ++ (f ++ codes "sort")))) ++ (32 ∷ (name ++ (59 ∷ [])))) ++ (10 ∷ []) ≡ p ++ (s ++ (r ++ (f ++ (codes "sort " ++ (name ++ codes ";\n")))))
ended-sort p s r f name = simp append_assoc

module _ (m : SortMods) where
  abbrev pub pure_text : List ℕ
  pure_text = modifier_text (m.0 % 2 == 1) (codes "pure")

  abbrev pub strict_text : List ℕ
  strict_text = modifier_text (m.0 / 2 % 2 == 1) (codes "strict")

  abbrev pub provable_text : List ℕ
  provable_text = modifier_text (m.0 / 4 % 2 == 1) (codes "provable")

  abbrev pub free_text : List ℕ
  free_text = modifier_text (m.0 / 8 % 2 == 1) (codes "free")

  pub sort-line : (v : Vocabulary) (name : List ℕ) → line_text (line_of_decl v name (sort_decl m))
      ≡ pure_text ++ (strict_text ++ (provable_text ++ (free_text ++ (codes "sort " ++ (name ++ codes ";\n")))))
  sort-line v name =
      ap (λ t. t ++ codes "\n") (written-append (sort_words (modifiers_of m)) (spaced_name name ∷ end_words)
      ∙ ap (λ t. t ++ (32 ∷ (name ++ (59 ∷ [])))) (keywords-are (m.0 % 2 == 1) (m.0 / 2 % 2 == 1) (m.0 / 4 % 2 == 1) (m.0 / 8 % 2 == 1)))
      ∙ ended-sort pure_text strict_text provable_text free_text name

pub seven-parts : (old a b c d e f g p s r k x y z : List ℕ) → a ≡ old ++ p → b ≡ a ++ s → c ≡ b ++ r → d ≡ c ++ k → e ≡ d ++ x → f ≡ e ++ y → g ≡ f ++ z
    → g ≡ old ++ (p ++ (s ++ (r ++ (k ++ (x ++ (y ++ z))))))
seven-parts old a b c d e f g p s r k x y z is-a is-b is-c is-d is-e is-f is-g = is-g ∙ rw is-f (rw is-e (rw is-d (rw is-c (rw is-b (rw is-a (simp append_assoc))))))

-- ---- heads

head-is : (kind : Kind) (name : List ℕ) (bs : List PlainBinder) (rest : List Word) → written (head_words kind name bs ++ rest) ≡ head_text (keyword_of kind) name bs ++ written rest
head-is kind name bs rest = written-append (head_words kind name bs) rest

ended : (head w : List ℕ) → (head ++ (58 ∷ (w ++ (59 ∷ [])))) ++ (10 ∷ []) ≡ head ++ (58 ∷ (w ++ codes ";\n"))
ended head w = simp append_assoc

-- ---- terms

bare-line : (kind : Kind) (name : List ℕ) (bs : List PlainBinder) (t : PlainType)
    → written (head_words kind name bs ++ (colon_words ++ (type_words t ++ end_words))) ++ codes "\n" ≡ head_text (keyword_of kind) name bs ++ (58 ∷ (written (type_words t) ++ codes ";\n"))
bare-line kind name bs t =
    ap (λ w. w ++ codes "\n") (head-is kind name bs (colon_words ++ (type_words t ++ end_words)) ∙ ap (λ w. head_text (keyword_of kind) name bs ++ (58 ∷ w)) (written-append (type_words t) end_words))
    ∙ ended (head_text (keyword_of kind) name bs) (written (type_words t))

ended-definition : (head types body : List ℕ) → (head ++ (58 ∷ (types ++ (32 ∷ 61 ∷ (body ++ (59 ∷ [])))))) ++ (10 ∷ []) ≡ head ++ (58 ∷ (types ++ (32 ∷ 61 ∷ (body ++ codes ";\n"))))
ended-definition head types body = simp append_assoc

module _ (v : Vocabulary) where
  pub definition-line : (name : List ℕ) (sig : Signature) (ds : List Binder) (body : Tree)
      → line_text (term_line_of v name sig (defined ds body))
      ≡ head_text (codes "def") name (plain_binders v 0 sig.params ds)
      ++ (58 ∷ (written (type_words (plain_type v sig.result.sort sig.result.deps)) ++ (32 ∷ 61 ∷ (written (math_word (formula_of v body) ∷ []) ++ codes ";\n"))))
  definition-line name sig ds body =
      let bs = plain_binders v 0 sig.params ds in
      let t = plain_type v sig.result.sort sig.result.deps in
      let f = formula_of v body in
      ap (λ w. w ++ codes "\n") (head-is Definition name bs (colon_words ++ (type_words t ++ (spaced_mark (codes "=") ∷ math_word f ∷ end_words)))
      ∙ ap (λ w. head_text (codes "def") name bs ++ (58 ∷ w)) (written-append (type_words t) (spaced_mark (codes "=") ∷ math_word f ∷ end_words)
      ∙ ap (λ w. written (type_words t) ++ (32 ∷ 61 ∷ w)) (written-append (math_word f ∷ []) end_words)))
      ∙ ended-definition (head_text (codes "def") name bs) (written (type_words t)) (written (math_word f ∷ []))

  -- ---- axioms and theorems

  ended-claim : (head hyps conclusion : List ℕ) → (head ++ (58 ∷ (hyps ++ (conclusion ++ (59 ∷ []))))) ++ (10 ∷ []) ≡ head ++ (58 ∷ (hyps ++ (conclusion ++ codes ";\n")))
  ended-claim head hyps conclusion = simp append_assoc

  pub assertion-line : (name : List ℕ) (a : Assertion) → line_text (line_of_decl v name (assertion_decl a))
      ≡ head_text (keyword_of (Assert (kind_of a.is_axiom))) name (plain_binders v 0 a.params [])
      ++ (58 ∷ (written (hyps_words (formulas_of v a.hyps)) ++ (written (math_word (formula_of v a.conclusion) ∷ []) ++ codes ";\n")))
  assertion-line name a =
      let kind = Assert (kind_of a.is_axiom) in
      let bs = plain_binders v 0 a.params [] in
      let hyps = hyps_words (formulas_of v a.hyps) in
      let f = formula_of v a.conclusion in
      ap (λ w. w ++ codes "\n") (head-is kind name bs (colon_words ++ (hyps ++ (math_word f ∷ end_words)))
      ∙ ap (λ w. head_text (keyword_of kind) name bs ++ (58 ∷ w)) (written-append hyps (math_word f ∷ end_words)
      ∙ ap (λ w. written hyps ++ w) (written-append (math_word f ∷ []) end_words)))
      ∙ ended-claim (head_text (keyword_of kind) name bs) (written hyps) (written (math_word f ∷ []))

-- ---- lines as they are put together

pub five-parts : (old a b c d e p s r k x : List ℕ) → a ≡ old ++ p → b ≡ a ++ s → c ≡ b ++ r → d ≡ c ++ k → e ≡ d ++ x → e ≡ old ++ (p ++ (s ++ (r ++ (k ++ x))))
five-parts old a b c d e p s r k x is-a is-b is-c is-d is-e = is-e ∙ rw is-d (rw is-c (rw is-b (rw is-a (simp append_assoc))))

pub six-pieces : (old a b c d e f p s r k x y : List ℕ) → a ≡ old ++ p → b ≡ a ++ s → c ≡ b ++ r → d ≡ c ++ k → e ≡ d ++ x → f ≡ e ++ y → f ≡ old ++ (p ++ (s ++ (r ++ (k ++ (x ++ y)))))
six-pieces old a b c d e f p s r k x y is-a is-b is-c is-d is-e is-f = is-f ∙ rw is-e (rw is-d (rw is-c (rw is-b (rw is-a (simp append_assoc)))))

module _ (v : Vocabulary) (name : List ℕ) where
  pub definition-made : (sig : Signature) (ds : List Binder) (body : Tree) (ps : List Binder) (deps : List ℕ) → ps ≡ sig.params → deps ≡ sig.result.deps → (old a b c d e f : List ℕ)
      → a ≡ old ++ head_text (codes "def") name (plain_binders v 0 ps ds) → b ≡ a ++ codes ":"
      → c ≡ b ++ written (type_words (plain_type v sig.result.sort deps)) → d ≡ c ++ codes " =" → e ≡ d ++ written (math_word (formula_of v body) ∷ []) → f ≡ e ++ codes ";\n"
      → f ≡ old ++ line_text (term_line_of v name sig (defined ds body))
  definition-made sig ds body ps deps are-ps are-deps old a b c d e f is-a is-b is-c is-d is-e is-f =
      let types : List ℕ → List ℕ = λ deps. written (type_words (plain_type v sig.result.sort deps)) in
      let text : List Binder → List ℕ → List ℕ = λ ps deps. head_text (codes "def") name (plain_binders v 0 ps ds)
      ++ (58 ∷ (types deps ++ (32 ∷ 61 ∷ (written (math_word (formula_of v body) ∷ []) ++ codes ";\n")))) in
      six-pieces old a b c d e f (head_text (codes "def") name (plain_binders v 0 ps ds)) (codes ":")
      (types deps) (codes " =") (written (math_word (formula_of v body) ∷ [])) (codes ";\n") is-a is-b is-c is-d is-e is-f
      ∙ ap (λ ps. old ++ text ps deps) are-ps ∙ ap (λ deps. old ++ text sig.params deps) are-deps ∙ ap (λ t. old ++ t) (sym (definition-line v name sig ds body))

  pub assertion-made : (a : Assertion) (keyword : List ℕ) (ps : List Binder) → keyword ≡ keyword_of (Assert (kind_of a.is_axiom)) → ps ≡ a.params → (old p q r s t : List ℕ)
      → p ≡ old ++ head_text keyword name (plain_binders v 0 ps []) → q ≡ p ++ codes ":" → r ≡ q ++ written (hyps_words (formulas_of v a.hyps))
      → s ≡ r ++ written (math_word (formula_of v a.conclusion) ∷ []) → t ≡ s ++ codes ";\n" → t ≡ old ++ line_text (line_of_decl v name (assertion_decl a))
  assertion-made a keyword ps is-keyword are-ps old p q r s t is-p is-q is-r is-s is-t =
      let text : List ℕ → List Binder → List ℕ = λ keyword ps. head_text keyword name (plain_binders v 0 ps [])
      ++ (58 ∷ (written (hyps_words (formulas_of v a.hyps)) ++ (written (math_word (formula_of v a.conclusion) ∷ []) ++ codes ";\n"))) in
      five-parts old p q r s t (head_text keyword name (plain_binders v 0 ps [])) (codes ":") (written (hyps_words (formulas_of v a.hyps)))
      (written (math_word (formula_of v a.conclusion) ∷ [])) (codes ";\n") is-p is-q is-r is-s is-t
      ∙ ap (λ k. old ++ text k ps) is-keyword ∙ ap (λ ps. old ++ text (keyword_of (Assert (kind_of a.is_axiom))) ps) are-ps ∙ ap (λ t. old ++ t) (sym (assertion-line v name a))

-- ---- what is said of a declaration

mutual
  renamed-same : (e : Tree) → renamed (λ t. t) e ≡ e
  renamed-same (var x) = refl
  renamed-same (app t es) = ap (app t) (all-renamed-same es)

  all-renamed-same : (es : Trees) → all_renamed (λ t. t) es ≡ es
  all-renamed-same none = refl
  all-renamed-same (more e es) = ap (λ f. more f (all_renamed (λ t. t) es)) (renamed-same e) ∙ ap (more e) (all-renamed-same es)

module _ (names : Names) (name : List ℕ) where
  pub told-plain : (sig : Signature) → told names name (term_decl (record { signature = sig; form = plain_form })) ≡ bare_text (spoken names) (codes "term") name sig
  told-plain sig = bare-line Term name (plain_binders (spoken names) 0 sig.params []) (plain_type (spoken names) sig.result.sort sig.result.deps)

  pub told-abstract : (sig : Signature) → told names name (term_decl (record { signature = sig; form = abstract_form })) ≡ bare_text (spoken names) (codes "def") name sig
  told-abstract sig = bare-line Definition name (plain_binders (spoken names) 0 sig.params []) (plain_type (spoken names) sig.result.sort sig.result.deps)

  pub told-hidden : (sig : Signature) (ds : List Binder) (body : Tree) → is_hidden names.locals.items (spoken names) body ≡ true
      → told names name (term_decl (record { signature = sig; form = defined ds body })) ≡ bare_text (spoken names) (codes "def") name sig
  told-hidden sig ds body hidden =
      ap (λ (h : Bool). line_text (term_line_of (spoken names) name sig (if h then abstract_form else defined ds (renamed (λ t. t) body)))) hidden ∙ told-abstract sig

  pub told-defined : (sig : Signature) (ds : List Binder) (body : Tree) → is_hidden names.locals.items (spoken names) body ≡ false
      → told names name (term_decl (record { signature = sig; form = defined ds body })) ≡ line_text (term_line_of (spoken names) name sig (defined ds body))
  told-defined sig ds body shown =
      ap (λ (h : Bool). line_text (term_line_of (spoken names) name sig (if h then abstract_form else defined ds (renamed (λ t. t) body)))) shown
      ∙ ap (λ e. line_text (term_line_of (spoken names) name sig (defined ds e))) (renamed-same body)

  pub told-assertion : (a : Assertion) → told names name (assertion_decl a) ≡ line_text (line_of_decl (spoken names) name (assertion_decl a))
  told-assertion a =
      ap (λ hs. line_text (line_of_decl (spoken names) name (assertion_decl (record { is_axiom = a.is_axiom; params = a.params; hyps = hs; conclusion = renamed (λ t. t) a.conclusion })))) (all-renamed-same a.hyps)
      ∙ ap (λ e. line_text (line_of_decl (spoken names) name (assertion_decl (record { is_axiom = a.is_axiom; params = a.params; hyps = a.hyps; conclusion = e })))) (renamed-same a.conclusion)

-- What is said of each kind of statement.
use Rattle.std.proofs.Common.{◌≡◌, ◌∙◌, ◌<◌, ◌+◌, ◌^◌, ◌++◌, ℕ, suc, Bool, true, false, List, [], ◌∷◌, length, drop, Option, Some, None, refl, sym, ap, subst, arith}
use Rattle.std.proofs.lemmas.List.{length-map}
use Rattle.std.specs.Prelude.{codes, map, if◌then◌else◌}
use Rattle.mz_logic_theory.specs.Tree.{Tree, Trees, var, app, none, more, size, trees_size}
use Rattle.mz_logic_theory.specs.Signature.{Signature}
use Rattle.mz_logic_theory.specs.Declaration.{Form, plain_form, abstract_form, defined, Term, Assertion, Declaration, dummies_of, body_of}
use Rattle.mz_logic_theory.specs.declared.binder.Binder.{Binder}
use Rattle.mz_logic_theory.specs.Words.{binders_of, result_of}
use Rattle.mz_logic_theory.proofs.Offered.{length-binders}
use Rattle.mz_layout_tables.specs.Tables.{term_row, thm_row}
use Rattle.mz_machine_theory.specs.Spells.{SpellsTerm, SpellsThm, SpellsForm, dummy_of}
use Rattle.mz_machine_theory.specs.FileRows.{term_of_file, thm_of_file}
use Rattle.mz_mmu_theory.specs.Proof.{Proof}
use Rattle.mz_mmu_theory.specs.Weight.{proof_weight, stated_weight}
use Rattle.mz_decompile_text.specs.Phrases.{Phrase, Phrases, a_word, a_list, one_more}
use Rattle.mz_decompile_text.specs.Phrasing.{Vocabulary, list_of, expression, expressions, binders, result, term_parts, assertion_parts, named_hypotheses, proof as statement-proof-by}
use Rattle.mz_decompile_text.specs.ByNumber.{phrase_at, phrases_at, Grows}
use Rattle.mz_decompile_text.specs.Measures.{capped, word_count, words_of_all}
use Rattle.mz_decompile_text.specs.Rows.{IsSaid, IsDefined}
use Rattle.mz_decompile_text.specs.declared.row.Said.{Said}
use Rattle.mz_decompile_text.specs.declared.row.Defined.{Defined}
use Rattle.mz_decompile.specs.Adding.{Adds}
use Rattle.mz_decompile.specs.Hypotheses.{named}
use Rattle.mz_decompile.specs.Telling.{IsTerm, IsAxiom, IsTheorem, IsProved}
use Rattle.mz_decompile.specs.declared.proof.Proved.{Proved}
use Rattle.mz_decompile.proofs.Adding.{adds-then, adds-grown, adds-there, phrase-grows}

-- ---- sizes

mutual
  words-of : (v : Vocabulary) (e : Tree) → word_count (expression v e) ≡ size e
  words-of v (var x) = refl
  words-of v (app t none) = refl
  words-of v (app t (more e es)) = let a = words-of v e in let b = words-of-all v es in omega (arith, a, b)

  words-of-all : (v : Vocabulary) (es : Trees) → words_of_all (expressions v es) ≡ trees_size es
  words-of-all v none = refl
  words-of-all v (more e es) = let a = words-of v e in let b = words-of-all v es in omega (arith, a, b)

-- ---- forms

plain-form : (sigs : List Signature) (ps : List Binder) (form : Form) → SpellsForm sigs ps None form → form ≡ plain_form
plain-form sigs ps plain_form is = refl
plain-form sigs ps abstract_form is = absurd is
plain-form sigs ps (defined ds e) is = absurd is

defined-form : (sigs : List Signature) (ps : List Binder) (stream : List ℕ) (form : Form) → SpellsForm sigs ps (Some stream) form → (ds : List Binder) × (e : Tree) × (form ≡ defined ds e)
defined-form sigs ps stream plain_form is = absurd is
defined-form sigs ps stream abstract_form is = absurd is
defined-form sigs ps stream (defined ds e) is = (ds, e, refl)

abbrev statement-proof : Vocabulary → Proof → Phrase
statement-proof v p = statement-proof-by v 0 p

-- ---- hypotheses with names

named-is : (v : Vocabulary) (i : ℕ) (es : Trees) → named v i (expressions v es) ≡ named_hypotheses v i es
named-is v i none = refl
named-is v i (more e es) = ap (one_more (list_of (a_word (v.hypothesis i) ∷ expression v e ∷ []))) (named-is v (suc i) es)

-- a definition's body is still there where phrases are more
pub body-there : (v : Vocabulary) (file : List ℕ) (row : ℕ) (sigs : List Signature) (d : Term) (c e : List Phrase) (s : Defined) → (term_row file row).words.has_body ≡ true
    → SpellsTerm sigs (term_of_file file row) d → ((ds : List Binder) (body : Tree) → d.form ≡ defined ds body → IsDefined v c s ds body) → Grows c e → s.body < length e
body-there v file row sigs d c e s with-body spells is grows =
    let the-stream = drop (term_row file row).stream_at file in
    let some-is : (term_of_file file row).stream ≡ Some the-stream = ap (λ (x : Bool). if x then Some the-stream else None) with-body in
    let (ds, body, form) = defined-form sigs (term_of_file file row).signature.params the-stream d.form
    (subst (λ (x : Option (List ℕ)). SpellsForm sigs (term_of_file file row).signature.params x d.form) some-is spells.1) in
    (phrase-grows c e s.body (expression v body) grows (is ds body form).body).0

module _ (v : Vocabulary) (file : List ℕ) (row : ℕ) (name : List ℕ) (sigs : List Signature) (n : ℕ) where
  -- ---- terms

  abbrev the-stream : List ℕ
  the-stream = drop (term_row file row).stream_at file

  abbrev pub term-head : List ℕ → List Phrase
  term-head word = a_word word ∷ a_word name ∷ a_list (binders v 0 (binders_of (term_row file row).words.params)) ∷ result v (result_of (term_row file row).words) ∷ []

  params-many : (d : Term) → SpellsTerm sigs (term_of_file file row) d → n ≡ length (term_row file row).words.params → length d.signature.params ≡ n
  params-many d spells many =
      sym (ap (λ (s : Signature). length s.params) spells.0) ∙ length-binders 0 [] (term_row file row).words.params ∙ sym many

  pub plain-told : (a b : List Phrase) (l m : List ℕ) (d : Term) → (term_row file row).words.has_body ≡ false → SpellsTerm sigs (term_of_file file row) d
      → Adds a b l m (term-head (codes "term")) → n ≡ length (term_row file row).words.params → n < 2 ^ 32 → IsTerm v a b l m (1 + n) name d
  plain-told a b l m d without spells adds many small =
      let none-is : (term_of_file file row).stream ≡ None = ap (λ (x : Bool). if x then Some the-stream else None) without in
      let form : d.form ≡ plain_form = plain-form sigs (term_of_file file row).signature.params d.form (subst (λ (x : Option (List ℕ)). SpellsForm sigs (term_of_file file
      row).signature.params x d.form) none-is spells.1) in
      let params = params-many d spells many in
      let rest : length (dummies_of d.form) + trees_size (body_of d.form) ≡ 0 = ap (λ (f : Form). length (dummies_of f) + trees_size (body_of f)) form in
      record {
        adds = subst (λ (f : Form). Adds a b l m (term_parts v name d.signature f)) (sym form)
            (subst (λ (s : Signature). Adds a b l m (a_word (codes "term") ∷ a_word name ∷ a_list (binders v 0 s.params) ∷ result v s.result ∷ [])) spells.0 adds);
        weight_is = omega (arith, params, rest, small);
      }

  pub definition-told : (a b c e : List Phrase) (l m o p : List ℕ) (d : Term) (s : Defined) (weight : ℕ) → (term_row file row).words.has_body ≡ true → SpellsTerm sigs (term_of_file file row) d
      → Adds a b l m (term-head (codes "def")) → Grows b c → ((ds : List Binder) (body : Tree) → d.form ≡ defined ds body → IsDefined v c s ds body)
      → Adds c e m o (a_list (binders v n (map dummy_of s.dummies.items)) ∷ []) → p ≡ o ++ s.body ∷ []
      → n ≡ length (term_row file row).words.params → weight ≡ capped (capped (word_count (phrase_at e s.body)) + (1 + n + length s.dummies.items)) → IsTerm v a e l p weight name d
  definition-told a b c e l m o p d s weight with-body spells head grows is dummies last many weighs =
      let some-is : (term_of_file file row).stream ≡ Some the-stream = ap (λ (x : Bool). if x then Some the-stream else None) with-body in
      let (ds, body, form) = defined-form sigs (term_of_file file row).signature.params the-stream d.form
      (subst (λ (x : Option (List ℕ)). SpellsForm sigs (term_of_file file row).signature.params x d.form) some-is spells.1) in
      let told = is ds body form in
      let params = params-many d spells many in
      let there = phrase-grows c e s.body (expression v body) dummies.grows told.body in
      let all = adds-then a e e l o p (term-head (codes "def") ++ a_list (binders v n (map dummy_of s.dummies.items)) ∷ []) (expression v body ∷ [])
      (adds-then a c e l m o (term-head (codes "def")) (a_list (binders v n (map dummy_of s.dummies.items)) ∷ [])
      (adds-then a b c l m m (term-head (codes "def")) [] head (adds-grown b c m grows)) dummies)
      (adds-there e o p s.body (expression v body) there last) in
      let words : word_count (phrase_at e s.body) ≡ size body = ap word_count there.1 ∙ words-of v body in
      let count : length ds ≡ length s.dummies.items = ap length told.dummies ∙ length-map s.dummies.items dummy_of in
      let form-dummies : length (dummies_of d.form) ≡ length ds = ap (λ (f : Form). length (dummies_of f)) form in
      let form-body : trees_size (body_of d.form) ≡ size body + 0 = ap (λ (f : Form). trees_size (body_of f)) form in
      let more-than = λ (x : ℕ) (bs : List Binder). term-head (codes "def") ++ (a_list (binders v x bs) ∷ expression v body ∷ []) in
      let placed = subst (λ (x : ℕ). Adds a e l p (more-than x (map dummy_of s.dummies.items))) (sym params) all in
      let named-too = subst (λ (bs : List Binder). Adds a e l p (more-than (length d.signature.params) bs)) (sym told.dummies) placed in
      record {
        adds = subst (λ (f : Form). Adds a e l p (term_parts v name d.signature f)) (sym form)
            (subst (λ (g : Signature). Adds a e l p (a_word (codes "def") ∷ a_word name ∷ a_list (binders v 0 g.params) ∷ result v g.result
            ∷ a_list (binders v (length d.signature.params) ds) ∷ expression v body ∷ [])) spells.0 named-too);
        weight_is = omega (arith, weighs, words, params, count, form-dummies, form-body);
      }

  -- ---- axioms and theorems

  abbrev pub thm-head : List ℕ → List Phrase
  thm-head word = a_word word ∷ a_word name ∷ a_list (binders v 0 (binders_of (thm_row file row).params)) ∷ []

  thm-many : (t : Assertion) → SpellsThm sigs (thm_of_file file row) t → n ≡ length (thm_row file row).params → length t.params ≡ n
  thm-many t spells many = sym (ap (λ (bs : List Binder). length bs) spells.0) ∙ length-binders 0 [] (thm_row file row).params ∙ sym many

  -- what stands in an axiom or theorem, and its weight
  weight-said : (c : List Phrase) (t : Assertion) (s : Said) → IsSaid v c s t
      → words_of_all (phrases_at c s.hypotheses.items) + word_count (phrase_at c s.conclusion) ≡ trees_size t.hyps + size t.conclusion
  weight-said c t s said =
      let x : words_of_all (phrases_at c s.hypotheses.items) ≡ trees_size t.hyps = ap words_of_all said.hypotheses ∙ words-of-all v t.hyps in
      let y : word_count (phrase_at c s.conclusion) ≡ size t.conclusion = ap word_count said.conclusion.1 ∙ words-of v t.conclusion in
      omega (arith, x, y)

  pub axiom-told : (a b c e : List Phrase) (l m o p : List ℕ) (t : Assertion) (s : Said) (weight : ℕ) → SpellsThm sigs (thm_of_file file row) t
      → Adds a b l m (thm-head (codes "axiom")) → Grows b c → IsSaid v c s t
      → Adds c e m o (a_list (phrases_at c s.hypotheses.items) ∷ []) → p ≡ o ++ s.conclusion ∷ []
      → n ≡ length (thm_row file row).params
      → weight ≡ capped (1 + n + words_of_all (phrases_at c s.hypotheses.items) + word_count (phrase_at c s.conclusion)) → IsAxiom v a e l p weight name t
  axiom-told a b c e l m o p t s weight spells head grows said hyps last many weighs =
      let params = thm-many t spells many in
      let there = phrase-grows c e s.conclusion (expression v t.conclusion) hyps.grows said.conclusion in
      let listed = subst (λ (qs : Phrases). Adds c e m o (a_list qs ∷ [])) said.hypotheses hyps in
      let all = adds-then a e e l o p (thm-head (codes "axiom") ++ a_list (expressions v t.hyps) ∷ []) (expression v t.conclusion ∷ [])
      (adds-then a c e l m o (thm-head (codes "axiom")) (a_list (expressions v t.hyps) ∷ [])
      (adds-then a b c l m m (thm-head (codes "axiom")) [] head (adds-grown b c m grows)) listed)
      (adds-there e o p s.conclusion (expression v t.conclusion) there last) in
      let words = weight-said c t s said in
      record {
        adds = subst (λ (bs : List Binder). Adds a e l p (a_word (codes "axiom") ∷ a_word name ∷ a_list (binders v 0 bs) ∷ a_list (expressions v t.hyps) ∷ expression v t.conclusion ∷ []))
            spells.0 all;
        weight_is = omega (arith, weighs, words, params);
      }

  module _ (env : List Declaration) (t : Assertion) (s : Said) (r : Proved) (dummies : List Binder) (proof : Option Proof) where
    pub theorem-told : (a b c e f g : List Phrase) (l m o p q z : List ℕ) (said-weight weight : ℕ) → SpellsThm sigs (thm_of_file file row) t
        → Adds a b l m (thm-head (codes "theorem")) → Grows b c → IsSaid v c s t
        → Adds c e m o (a_list (named v 0 (phrases_at c s.hypotheses.items)) ∷ []) → p ≡ o ++ s.conclusion ∷ []
        → Grows e f → IsProved v env f r dummies proof
        → Adds f g p q (a_list (binders v n (map dummy_of r.dummies.items)) ∷ []) → z ≡ q ++ r.phrase ∷ []
        → n ≡ length (thm_row file row).params
        → said-weight ≡ capped (1 + n + words_of_all (phrases_at c s.hypotheses.items) + word_count (phrase_at c s.conclusion))
        → weight ≡ capped (capped (said-weight + length r.dummies.items) + r.weight)
        → IsTheorem v env a g l z weight name t dummies proof
    theorem-told a b c e f g l m o p q z said-weight weight spells head grows said hyps last grown proved dummies-put end many said-weighs weighs =
        let params = thm-many t spells many in
        let there = phrase-grows c e s.conclusion (expression v t.conclusion) hyps.grows said.conclusion in
        let proof-there = phrase-grows f g r.phrase (statement-proof v proved.tree) dummies-put.grows proved.phrase in
        let hyps-are : named v 0 (phrases_at c s.hypotheses.items) ≡ named_hypotheses v 0 t.hyps = ap (named v 0) said.hypotheses ∙ named-is v 0 t.hyps in
        let listed = subst (λ (qs : Phrases). Adds c e m o (a_list qs ∷ [])) hyps-are hyps in
        let x = thm-head (codes "theorem") in
        let y = x ++ a_list (named_hypotheses v 0 t.hyps) ∷ [] in
        let w = y ++ expression v t.conclusion ∷ [] in
        let ds = a_list (binders v n (map dummy_of r.dummies.items)) ∷ [] in
        let to-hyps = adds-then a c e l m o x (a_list (named_hypotheses v 0 t.hyps) ∷ []) (adds-then a b c l m m x [] head (adds-grown b c m grows)) listed in
        let to-conclusion = adds-then a e e l o p y (expression v t.conclusion ∷ []) to-hyps (adds-there e o p s.conclusion (expression v t.conclusion) there last) in
        let to-dummies = adds-then a f g l p q w ds (adds-then a e f l p p w [] to-conclusion (adds-grown e f p grown)) dummies-put in
        let all = adds-then a g g l q z (w ++ ds) (statement-proof v proved.tree ∷ []) to-dummies (adds-there g q z r.phrase (statement-proof v proved.tree) proof-there end) in
        let whole = λ (bs : List Binder) (i : ℕ) (cs : List Binder). a_word (codes "theorem") ∷ a_word name ∷ a_list (binders v 0 bs) ∷ a_list (named_hypotheses v 0 t.hyps) ∷ expression v t.conclusion
        ∷ a_list (binders v i cs) ∷ statement-proof v proved.tree ∷ [] in
        let by-row = subst (λ (bs : List Binder). Adds a g l z (whole bs n (map dummy_of r.dummies.items))) spells.0 all in
        let by-place = subst (λ (i : ℕ). Adds a g l z (whole t.params i (map dummy_of r.dummies.items))) (sym params) by-row in
        let by-dummies = subst (λ (cs : List Binder). Adds a g l z (whole t.params (length t.params) cs)) (sym proved.dummies_are) by-place in
        let words = weight-said c t s said in
        let count : length dummies ≡ length r.dummies.items = ap length proved.dummies_are ∙ length-map r.dummies.items dummy_of in
        let proof-weight : stated_weight env proof ≡ proof_weight env proved.tree = ap (stated_weight env) proved.proof_is in
        let proof-capped = proved.weight_is in
        record {
          adds = subst (λ (x : Option Proof). Adds a g l z (assertion_parts v name false t.params t.hyps t.conclusion dummies x)) (sym proved.proof_is) by-dummies;
          weight_is = omega (arith, weighs, said-weighs, words, params, count, proof-weight, proof-capped);
        }

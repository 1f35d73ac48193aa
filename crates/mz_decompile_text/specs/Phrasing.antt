-- Statements as phrases (this project's own form of mm0.md's sorts, terms, axioms, definitions and theorems, and of
-- proofs).
use Rattle.std.specs.Prelude.{ℕ, suc, ◌/◌, ◌%◌, ◌==◌, Bool, true, false, List, [], ◌∷◌, ◌++◌, length, map, Option, Some, None, codes, if◌then◌else◌}
use Rattle.mz_logic_theory.specs.Tree.{Tree, Trees, var, app, none, more}
use Rattle.mz_logic_theory.specs.Signature.{Signature}
use Rattle.mz_logic_theory.specs.Declaration.{Form, defined, Declaration, sort_decl, term_decl, assertion_decl}
use Rattle.mz_logic_theory.specs.Conversions.{Conversion, Conversions, refl_conv, sym_conv, cong_conv, unfold_conv, gap_conv, no_convs, more_convs}
use Rattle.mz_logic_theory.specs.declared.binder.Binder.{Binder}
use Rattle.mz_logic_theory.specs.declared.binder.ResultType.{ResultType}
use Rattle.mz_logic_theory.specs.declared.binder.SortMods.{SortMods}
use Rattle.mz_mmu_theory.specs.Proof.{Proof, Proofs, by_hyp, by_name, by_citation, by_conv, by_let, by_gap, no_proofs, more_proofs}
use Rattle.mz_mmu_theory.specs.Statements.{Statement}
use Rattle.mz_decompile_text.specs.Phrases.{Phrase, Phrases, a_word, a_list, no_phrases, one_more, lines_of}

-- the names of sorts, of terms, of axioms and theorems, and in a statement of variables, of hypotheses and of lets, each
-- by number
pub record Vocabulary : Type 0 where
  pub sort : ℕ → List ℕ
  pub term : ℕ → List ℕ
  pub assertion : ℕ → List ℕ
  pub variable : ℕ → List ℕ
  pub hypothesis : ℕ → List ℕ
  pub let_name : ℕ → List ℕ

-- ---- lists

-- phrases as the parts of one
abbrev pub of_parts : List Phrase → Phrases
of_parts [] = no_phrases
of_parts (p ∷ ps) = one_more p (of_parts ps)

-- a list of these
abbrev pub list_of : List Phrase → Phrase
list_of ps = a_list (of_parts ps)

-- a list that begins with these
abbrev pub followed_by : List Phrase → Phrases → Phrases
followed_by [] qs = qs
followed_by (p ∷ ps) qs = one_more p (followed_by ps qs)

-- tokens as parts
abbrev pub word_list : List (List ℕ) → Phrases
word_list [] = no_phrases
word_list (w ∷ ws) = one_more (a_word w) (word_list ws)

-- ---- expressions: a variable, a term without operands, (t expr ..)

abbrev mutual
  pub expression : Vocabulary → Tree → Phrase
  expression v (var x) = a_word (v.variable x)
  expression v (app t none) = a_word (v.term t)
  expression v (app t (more e es)) = a_list (one_more (a_word (v.term t)) (one_more (expression v e) (expressions v es)))

  pub expressions : Vocabulary → Trees → Phrases
  expressions v none = no_phrases
  expressions v (more e es) = one_more (expression v e) (expressions v es)

-- variables, by their names
abbrev pub variable_names : Vocabulary → List ℕ → Phrase
variable_names v xs = a_list (word_list (map v.variable xs))

-- ---- conversions: (:refl expr), (:sym conv), (t conv ..), (:unfold t (expr ..) (var ..) conv), (:sorry expr expr)

abbrev mutual
  pub conversion : Vocabulary → Conversion → Phrase
  conversion v (refl_conv e) = list_of (a_word (codes ":refl") ∷ expression v e ∷ [])
  conversion v (sym_conv c) = list_of (a_word (codes ":sym") ∷ conversion v c ∷ [])
  conversion v (cong_conv t cs) = a_list (one_more (a_word (v.term t)) (conversions v cs))
  conversion v (unfold_conv t es ys c) =
      list_of (a_word (codes ":unfold") ∷ a_word (v.term t) ∷ a_list (expressions v es) ∷ variable_names v ys ∷ conversion v c ∷ [])
  conversion v (gap_conv l r) = list_of (a_word (codes ":sorry") ∷ expression v l ∷ expression v r ∷ [])

  pub conversions : Vocabulary → Conversions → Phrases
  conversions v no_convs = no_phrases
  conversions v (more_convs c cs) = one_more (conversion v c) (conversions v cs)

-- ---- proofs: a hypothesis or a let by its name, (T (expr ..) proof ..), (:conv expr conv proof), (:let h proof proof),
-- (:sorry expr); k lets are visible

abbrev mutual
  pub proof : Vocabulary → ℕ → Proof → Phrase
  proof v k (by_hyp i) = a_word (v.hypothesis i)
  proof v k (by_name i) = a_word (v.let_name i)
  proof v k (by_citation T es ps) = a_list (one_more (a_word (v.assertion T)) (one_more (a_list (expressions v es)) (proofs v k ps)))
  proof v k (by_conv e c p) = list_of (a_word (codes ":conv") ∷ expression v e ∷ conversion v c ∷ proof v k p ∷ [])
  proof v k (by_let p q) = list_of (a_word (codes ":let") ∷ a_word (v.let_name k) ∷ proof v k p ∷ proof v (suc k) q ∷ [])
  proof v k (by_gap e) = list_of (a_word (codes ":sorry") ∷ expression v e ∷ [])

  pub proofs : Vocabulary → ℕ → Proofs → Phrases
  proofs v k no_proofs = no_phrases
  proofs v k (more_proofs p ps) = one_more (proof v k p) (proofs v k ps)

-- ---- binders: (x s), or (a s (dep ..)) where it isn't bound

abbrev pub binder : Vocabulary → ℕ → Binder → Phrase
binder v x b =
    if b.bound
    then list_of (a_word (v.variable x) ∷ a_word (v.sort b.sort) ∷ [])
    else list_of (a_word (v.variable x) ∷ a_word (v.sort b.sort) ∷ variable_names v b.deps ∷ [])

-- the first of them is variable x
abbrev pub binders : Vocabulary → ℕ → List Binder → Phrases
binders v x [] = no_phrases
binders v x (b ∷ bs) = one_more (binder v x b) (binders v (suc x) bs)

-- (s (dep ..))
abbrev pub result : Vocabulary → ResultType → Phrase
result v r = list_of (a_word (v.sort r.sort) ∷ variable_names v r.deps ∷ [])

-- ---- hypotheses of a theorem: (h expr), the first of them hypothesis i

abbrev pub named_hypotheses : Vocabulary → ℕ → Trees → Phrases
named_hypotheses v i none = no_phrases
named_hypotheses v i (more e es) = one_more (list_of (a_word (v.hypothesis i) ∷ expression v e ∷ [])) (named_hypotheses v (suc i) es)

-- ---- statements

-- the tokens of a sort's modifiers, in mm0.md's order
abbrev pub if_set : ℕ → List ℕ → List (List ℕ)
if_set bit w = if bit == 1 then w ∷ [] else []

abbrev pub modifiers : SortMods → List (List ℕ)
modifiers m = if_set (m.0 % 2) (codes "pure") ++ if_set (m.0 / 2 % 2) (codes "strict") ++ if_set (m.0 / 4 % 2) (codes "provable") ++ if_set (m.0 / 8 % 2) (codes "free")

-- a term, or a definition with its dummies and its body (one whose body is left open has no form of its own)
abbrev pub term_parts : Vocabulary → List ℕ → Signature → Form → List Phrase
term_parts v name sig (defined ds body) =
    a_word (codes "def") ∷ a_word name ∷ a_list (binders v 0 sig.params) ∷ result v sig.result
    ∷ a_list (binders v (length sig.params) ds) ∷ expression v body ∷ []
term_parts v name sig _ = a_word (codes "term") ∷ a_word name ∷ a_list (binders v 0 sig.params) ∷ result v sig.result ∷ []

abbrev pub proof_part : Vocabulary → Option Proof → List Phrase
proof_part v None = []
proof_part v (Some p) = proof v 0 p ∷ []

abbrev pub assertion_parts : Vocabulary → List ℕ → Bool → List Binder → Trees → Tree → List Binder → Option Proof → List Phrase
assertion_parts v name true params hyps conclusion dummies p =
    a_word (codes "axiom") ∷ a_word name ∷ a_list (binders v 0 params) ∷ a_list (expressions v hyps) ∷ expression v conclusion ∷ []
assertion_parts v name false params hyps conclusion dummies p =
    a_word (codes "theorem") ∷ a_word name ∷ a_list (binders v 0 params) ∷ a_list (named_hypotheses v 0 hyps) ∷ expression v conclusion
    ∷ a_list (binders v (length params) dummies) ∷ proof_part v p

abbrev pub declared_parts : Vocabulary → List ℕ → Declaration → List Binder → Option Proof → List Phrase
declared_parts v name (sort_decl m) dummies p = a_word (codes "sort") ∷ a_word name ∷ map a_word (modifiers m)
declared_parts v name (term_decl d) dummies p = term_parts v name d.signature d.form
declared_parts v name (assertion_decl a) dummies p = assertion_parts v name a.is_axiom a.params a.hyps a.conclusion dummies p

-- with its visibility
abbrev pub marked_parts : Bool → List Phrase → List Phrase
marked_parts true ps = a_word (codes "local") ∷ ps
marked_parts false ps = ps

abbrev pub statement : Vocabulary → Statement → Phrase
statement v s = list_of (marked_parts s.is_local (declared_parts v s.name s.decl s.dummies s.proof))

abbrev pub statements : Vocabulary → List Statement → Phrases
statements v [] = no_phrases
statements v (s ∷ ss) = one_more (statement v s) (statements v ss)

-- the text that states them, a line each
abbrev pub text_of : Vocabulary → List Statement → List ℕ
text_of v ss = lines_of (statements v ss)

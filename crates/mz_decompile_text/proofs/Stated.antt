-- Statements are read of their phrases, and so the text that states them is a well-typed text of these statements.
use Rattle.std.proofs.Common.{ℕ, ◌≤◌, max, Bool, true, false, true≢false, List, [], ◌∷◌, ◌++◌, Option, Some, None, refl, sym, arith}
use Rattle.std.specs.Prelude.{codes}
use Rattle.mz_sexpr.specs.Node.{depth_limit}
use Rattle.mz_logic_theory.specs.Tree.{Tree, Trees}
use Rattle.mz_logic_theory.specs.Signature.{Signature}
use Rattle.mz_logic_theory.specs.Declaration.{Form, plain_form, abstract_form, defined, Declaration, sort_decl, term_decl, assertion_decl}
use Rattle.mz_logic_theory.specs.declared.binder.Binder.{Binder}
use Rattle.mz_logic_theory.specs.declared.binder.SortMods.{SortMods}
use Rattle.mz_mmu_theory.specs.Name.{Names, IsName, no_names, names_with}
use Rattle.mz_mmu_theory.specs.Gaps.{SomeLeavesOnly}
use Rattle.mz_mmu_theory.specs.Proof.{Proof}
use Rattle.mz_mmu_theory.specs.Statements.{Statement, IsStatement, AreStatements}
use Rattle.mz_mmu_theory.proofs.Offered.{Agrees, agrees_more, agrees_first}
use Rattle.mz_mmu_theory.specs.Meaning.{IsLegalAsStated, LegalAsStatedAfter}
use Rattle.mz_decompile_text.specs.Phrases.{depth, depth_of_all}
use Rattle.mz_decompile_text.specs.Phrasing.{Vocabulary, list_of, marked_parts, declared_parts, statement, statements}
use Rattle.mz_decompile_text.specs.Phrasable.{HasNames, HasNewName, IsWithin, ArePhrasableAfter, IsPhrasable}
use Rattle.mz_decompile_text.specs.Laws.{LinesSpellPhrases, StatedTextsAreRead}
use Rattle.mz_decompile_text.proofs.Saying.{Says, AllSay, a-list, take, key, done, all-so}
use Rattle.mz_decompile_text.proofs.Behind.{Declares, behind-none, behind-more}
use Rattle.mz_decompile_text.proofs.Atoms.{plain-atom}
use Rattle.mz_decompile_text.proofs.Declared.{stated, sort-said, term-said, def-said, axiom-said, theorem-said}

module _ (v : Vocabulary) (n : ℕ) (has : HasNames v n) (env : List Declaration) (names : Names) (behind : Declares v n env names) where
  -- the phrase of a statement, part by part
  abbrev IsSaid : Bool → List ℕ → Declaration → List Binder → Option Proof → Type 0
  IsSaid b w d ds p = Says (list_of (marked_parts b (declared_parts v w d ds p))) (λ m. IsStatement names m (stated b w d ds p))

  abbrev Given : Bool → List ℕ → Declaration → List Binder → Option Proof → Type 0
  Given b w d ds p = IsName w × HasNewName v n env names w d × IsLegalAsStated false env (stated b w d ds p) × IsWithin n d ds p × SomeLeavesOnly ⊥ p

  sort-is : (b : Bool) (w : List ℕ) (m : SortMods) (ds : List Binder) (p : Option Proof) → Given b w (sort_decl m) ds p → IsSaid b w (sort_decl m) ds p
  sort-is true w m ds p (name, new, legal, within, free) = absurd (legal.1 refl)
  sort-is false w m ds p (name, new, legal, within, free) =
      a-list (key (codes "sort") (plain-atom (codes "sort") refl) (all-so (sort-said v n has env names behind false w m ds p name new.1 within) (λ ns are at' at. (refl, are))))

  term-is : (b : Bool) (w : List ℕ) (sig : Signature) (f : Form) (ds : List Binder) (p : Option Proof) → Given b w (term_decl (record { signature = sig; form = f })) ds p
      → IsSaid b w (term_decl (record { signature = sig; form = f })) ds p
  term-is true w sig plain_form ds p (name, new, legal, within, free) = absurd (legal.1 refl refl)
  term-is false w sig plain_form ds p (name, new, legal, within, free) =
      a-list (key (codes "term") (plain-atom (codes "term") refl) (all-so (term-said v n has env names behind false w sig ds p name new.1 legal.0 within) (λ ns are at' at. (refl, are))))
  term-is b w sig abstract_form ds p (name, new, legal, within, free) = absurd within.3
  term-is true w sig (defined es body) ds p (name, new, legal, within, free) =
      a-list (key (codes "local") (plain-atom (codes "local") refl) (key (codes "def") (plain-atom (codes "def") refl)
      (all-so (def-said v n has env names behind true w sig es body ds p name new.1 legal.0 within) (λ ns are at'' at' at. (refl, are)))))
  term-is false w sig (defined es body) ds p (name, new, legal, within, free) =
      a-list (key (codes "def") (plain-atom (codes "def") refl) (all-so (def-said v n has env names behind false w sig es body ds p name new.1 legal.0 within) (λ ns are at' at. (refl, are))))

  assertion-is : (b is_axiom : Bool) (w : List ℕ) (ps : List Binder) (hyps : Trees) (c : Tree) (ds : List Binder) (p : Option Proof)
      → Given b w (assertion_decl (record { is_axiom = is_axiom; params = ps; hyps = hyps; conclusion = c })) ds p
      → IsSaid b w (assertion_decl (record { is_axiom = is_axiom; params = ps; hyps = hyps; conclusion = c })) ds p
  assertion-is true true w ps hyps c ds p (name, new, legal, within, free) = absurd (true≢false (legal.1 refl))
  assertion-is b true w ps hyps c ds (Some q) (name, new, legal, within, free) = absurd (true≢false within.3.0)
  assertion-is false true w ps hyps c ds None (name, new, legal, within, free) =
      a-list (key (codes "axiom") (plain-atom (codes "axiom") refl) (all-so (axiom-said v n has env names behind false w ps hyps c ds name new.1 legal.0 within) (λ ns are at' at. (refl, are))))
  assertion-is b false w ps hyps c ds None (name, new, legal, within, free) = absurd (true≢false (sym within.3.0))
  assertion-is true false w ps hyps c ds (Some q) (name, new, legal, within, free) =
      a-list (key (codes "local") (plain-atom (codes "local") refl) (key (codes "theorem") (plain-atom (codes "theorem") refl)
      (all-so (theorem-said v n has env names behind true w ps hyps c ds q name new.1 legal.0 legal.2 within free) (λ ns are at'' at' at. (refl, are)))))
  assertion-is false false w ps hyps c ds (Some q) (name, new, legal, within, free) =
      a-list (key (codes "theorem") (plain-atom (codes "theorem") refl)
      (all-so (theorem-said v n has env names behind false w ps hyps c ds q name new.1 legal.0 legal.2 within free) (λ ns are at' at. (refl, are))))

  each-is : (b : Bool) (w : List ℕ) (d : Declaration) (ds : List Binder) (p : Option Proof) → Given b w d ds p → IsSaid b w d ds p
  each-is b w (sort_decl m) ds p given = sort-is b w m ds p given
  each-is b w (term_decl d) ds p given = term-is b w d.signature d.form ds p given
  each-is b w (assertion_decl a) ds p given = assertion-is b a.is_axiom w a.params a.hyps a.conclusion ds p given

  pub statement-said : (s : Statement) → IsPhrasable v n env names s → Says (statement v s) (λ m. IsStatement names m s)
  statement-said s can = each-is s.is_local s.name s.decl s.dummies s.proof (can.identifier, can.new, can.legal, can.within, can.finished)

-- ---- all statements

module _ (v : Vocabulary) (n : ℕ) (has : HasNames v n) where
  statements-said : (env : List Declaration) (names : Names) (ss : List Statement) → Declares v n env names → Agrees names → ArePhrasableAfter v n env names ss
      → AllSay (statements v ss) (λ ns. AreStatements names ns ss)
  statements-said env names [] behind agrees can = done refl
  statements-said env names (s ∷ ss) behind agrees (one, can) =
      take (statement-said v n has env names behind s one)
      (all-so (statements-said (env ++ s.decl ∷ []) (names_with names s.name s.decl) ss (behind-more v n env names behind agrees s.name s.decl one.identifier one.new)
      (agrees_more names (names_with names s.name s.decl) s.name s.decl refl agrees) can)
      (λ ns are m is. (s, ss, is, are, refl)))

  statements-low : (env : List Declaration) (names : Names) (ss : List Statement) → ArePhrasableAfter v n env names ss → depth_of_all (statements v ss) ≤ depth_limit
  statements-low env names [] can = omega arith
  statements-low env names (s ∷ ss) (one, can) = both (depth (statement v s)) _ one.low (statements-low (env ++ s.decl ∷ []) (names_with names s.name s.decl) ss can)
    where
      both : (a b : ℕ) → a ≤ 4096 → b ≤ 4096 → max a b ≤ 4096
      both a b h k = omega arith

  all-legal : (env : List Declaration) (names : Names) (ss : List Statement) → ArePhrasableAfter v n env names ss → LegalAsStatedAfter false env ss
  all-legal env names [] can = tt
  all-legal env names (s ∷ ss) (one, can) = (one.legal, all-legal (env ++ s.decl ∷ []) (names_with names s.name s.decl) ss can)

pub stated-texts : LinesSpellPhrases → StatedTextsAreRead
stated-texts spell v n ss has can =
    let said = statements-said v n has [] (no_names false) ss (behind-none v n) (agrees_first false) can in
    let (ns, spelled, is) = spell (statements v ss) said.fit (statements-low v n has [] (no_names false) ss can) in
    ((ns, (spelled, said.read ns is)), all-legal v n has [] (no_names false) ss can)

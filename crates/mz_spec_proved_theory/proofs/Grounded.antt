-- A theorem without hypotheses follows only where an axiom is declared before it: what is promised isn't empty.
use Rattle.std.proofs.Common.{◌≡◌, ◌∙◌, ℕ, zero, suc, Bool, true, List, [], ◌∷◌, ◌++◌, take, Some, refl, ap, subst}
use Rattle.std.specs.Prelude.{if◌then◌else◌, slice_get}
use Rattle.mz_logic_theory.specs.Tree.{Tree, Trees, none, more}
use Rattle.mz_logic_theory.specs.Declaration.{Declaration, Assertion, sort_decl, term_decl, assertion_decl, assertions}
use Rattle.mz_logic_theory.specs.Derivations.{Derivation, hypothesis, cite, convert, gap, Derives}
use Rattle.mz_logic_theory.specs.LegalLists.{Statement, declarations}
use Rattle.mz_logic_theory.specs.Closed.{IsAxiomIn, CitesAxioms}
use Rattle.mz_logic_theory.specs.declared.binder.Binder.{Binder}
use Rattle.mz_spec_proved_theory.specs.declared.kind.Kind.TheVariants as kinds
use Rattle.mz_spec_proved_theory.specs.Match.{term_rows, kind_of}
use Rattle.mz_spec_proved_theory.specs.AlphaTrees.{SameTrees}
use Rattle.mz_spec_proved_theory.specs.Proved.{Follows}
use Rattle.mz_spec_proved_theory.proofs.SameDeclared.{declaration-holds}

-- ---- assertions among statements

abbrev Among : List Statement → Assertion → Type 0
Among ss a = (front : List Statement) × (s : Statement) × (back : List Statement) × (ss ≡ front ++ s ∷ back) × (s.decl ≡ assertion_decl a)

among-later : (s : Statement) (ss : List Statement) (a : Assertion) → Among ss a → Among (s ∷ ss) a
among-later s ss a (front, t, back, at, says) = (s ∷ front, t, back, ap (λ xs. s ∷ xs) at, says)

among-by : (s : Statement) (ss : List Statement) (d : Declaration) (T : ℕ) (a : Assertion) → s.decl ≡ d → slice_get (assertions (d ∷ declarations ss)) T ≡ Some a
    → ((U : ℕ) → slice_get (assertions (declarations ss)) U ≡ Some a → Among ss a) → Among (s ∷ ss) a
among-by s ss (sort_decl m) T a is at later = among-later s ss a (later T at)
among-by s ss (term_decl t) T a is at later = among-later s ss a (later T at)
among-by s ss (assertion_decl b) zero a is at later = let same : b ≡ a = cc in ([], s, ss, refl, is ∙ ap assertion_decl same)
among-by s ss (assertion_decl b) (suc T) a is at later = among-later s ss a (later T at)

among : (ss : List Statement) (T : ℕ) (a : Assertion) → slice_get (assertions (declarations ss)) T ≡ Some a → Among ss a
among [] T a at = absurd cc
among (s ∷ ss) T a at = among-by s ss s.decl T a refl at (λ U there. among ss U a there)

-- ---- a derivation from nothing

cites-some : (env : List Declaration) (ctx : List Binder) (d : Derivation) (e : Tree) → CitesAxioms env d → Derives env ctx none d e → (T : ℕ) × IsAxiomIn env T
cites-some env ctx (hypothesis i) e cites derives = absurd cc
cites-some env ctx (cite T es ds) e cites derives = (T, cites.0)
cites-some env ctx (convert f c d) e cites (is, (g, between, derives)) = cites-some env ctx d g cites.1 derives
cites-some env ctx (gap f) e cites derives = absurd cites

no-hyps : (rows : List ℕ) (fs : Trees) → SameTrees rows none fs → fs ≡ none
no-hyps rows none same = refl
no-hyps rows (more f fs) same = absurd same

axiom-kind : (d e : Declaration) (a : Assertion) → kind_of d ≡ kind_of e → e ≡ assertion_decl a → a.is_axiom ≡ true → kind_of d ≡ kinds.Axiom
axiom-kind d e a same says is = same ∙ ap kind_of says ∙ ap (λ (b : Bool). if b then kinds.Axiom else kinds.Theorem) is

pub needs-axiom : (ds : List Declaration) (ss : List Statement) (i : ℕ) (theorem : Assertion) → Follows ds ss i theorem → theorem.hyps ≡ none
    → (k : ℕ) × (d : Declaration) × (slice_get (take i ds) k ≡ Some d) × (kind_of d ≡ kinds.Axiom)
needs-axiom ds ss i theorem f bare =
    let nothing : f.proved.hyps ≡ none = no-hyps (term_rows 0 f.before) f.proved.hyps (subst (λ (hs : Trees). SameTrees (term_rows 0 f.before) hs f.proved.hyps) bare
    (declaration-holds (term_rows 0 f.before) (assertion_decl theorem) (assertion_decl f.proved) f.same).1.1.0) in
    let (dummies, are, (d, cites, derives)) = f.closed in
    let (T, (a, at, is_axiom)) = cites-some (declarations f.before) (f.proved.params ++ dummies) d f.proved.conclusion cites
    (subst (λ (hs : Trees). Derives (declarations f.before) (f.proved.params ++ dummies) hs d f.proved.conclusion) nothing derives) in
    let (front, s, back, split, says) = among f.before T a at in
    let (public_, (k, e, stands, is)) = f.axioms front back s a split says is_axiom in
    (k, e, stands, axiom-kind e s.decl a (declaration-holds (term_rows 0 front) e s.decl is).0 says is_axiom)

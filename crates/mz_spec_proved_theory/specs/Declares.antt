-- When a list of statements declares what a specification does (mm0.md: what proves a specification declares what it
-- does, in its order, and may have more of its own; that terms go by numbers is the .mmb format's).
use Rattle.std.specs.Prelude.{ℕ, ◌≡◌, ◌≢◌, ◌++◌, List, [], ◌∷◌, length, MatchBool}
use Rattle.mz_logic_theory.specs.Tree.{Tree, Trees}
use Rattle.mz_logic_theory.specs.Declaration.{Declaration, sort_decl, term_decl, assertion_decl, Form, plain_form, abstract_form, defined}
use Rattle.mz_logic_theory.specs.LegalLists.{Statement}
use Rattle.mz_logic_theory.specs.declared.binder.Binder.{Binder}
use Rattle.mz_spec_proved_theory.specs.AlphaTrees.{SameTree, SameTrees, SameBody}
use Rattle.mz_spec_proved_theory.specs.Match.{term_rows}

-- where the specification gives a definition's body, this is the same after n parameters, up to the names of dummies;
-- else any will do
abbrev pub IsFormOf : List ℕ → ℕ → Form → Form → Type 0
IsFormOf rows n plain_form g = g ≡ plain_form
IsFormOf rows n abstract_form g = g ≢ plain_form
IsFormOf rows n (defined ds body) g = (es : List Binder) × (other : Tree) × (g ≡ defined es other) × SameBody rows n ds es body other

-- e is the declaration d of the specification, whose k-th term is the k-th of the rows
abbrev pub IsDeclarationOf : List ℕ → Declaration → Declaration → Type 0
IsDeclarationOf rows (sort_decl m) e = e ≡ sort_decl m
IsDeclarationOf rows (term_decl t) e = (f : Form) × (e ≡ term_decl (record { signature = t.signature; form = f })) × IsFormOf rows (length t.signature.params) t.form f
IsDeclarationOf rows (assertion_decl a) e = (hyps : Trees) × (conclusion : Tree)
    × (e ≡ assertion_decl (record { is_axiom = a.is_axiom; params = a.params; hyps = hyps; conclusion = conclusion }))
    × SameTrees rows a.hyps hyps × SameTree rows a.conclusion conclusion

-- the public ones of the statements, which stand after others, are these declarations, one by one
abbrev pub DeclareAfter : List Statement → List Declaration → List Statement → Type 0
DeclareAfter before ds [] = ds ≡ []
DeclareAfter before ds (s ∷ ss) = MatchBool s.is_local (DeclareAfter (before ++ s ∷ []) ds ss)
    ((d : Declaration) × (rest : List Declaration) × (ds ≡ d ∷ rest) × IsDeclarationOf (term_rows 0 before) d s.decl
    × DeclareAfter (before ++ s ∷ []) rest ss)

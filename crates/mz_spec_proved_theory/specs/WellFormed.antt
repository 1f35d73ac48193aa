-- Well-formed declarations, and legal lists of them (mm0.md, sections on sorts, terms, definitions, axioms and theorems;
-- Carneiro, the rules of well-formed declarations and of environments).
use Rattle.std.specs.Prelude.{ℕ, ◌≡◌, ◌<◌, ⊤, Bool, true, false, List, [], ◌∷◌, ◌++◌, length, Contains, All}
use Rattle.mz_logic_theory.specs.Signature.{Signature}
use Rattle.mz_logic_theory.specs.Declaration.{Declaration, sort_decl, term_decl, assertion_decl, Assertion, Form, plain_form, abstract_form, defined, sorts, signatures}
use Rattle.mz_logic_theory.specs.Legality.{AreParams}
use Rattle.mz_logic_theory.specs.LegalLists.{Statement, AreDummies, IsProvedBy, gap_free}
use Rattle.mz_logic_theory.specs.Modifiers.{MayBeResultSort}
use Rattle.mz_logic_theory.specs.Sorts.{HasSort, HasProvable, AreProvable}
use Rattle.mz_logic_theory.specs.Variables.{InFV, IsBoundAt}
use Rattle.mz_logic_theory.specs.declared.binder.Binder.{Binder}
use Rattle.mz_logic_theory.specs.declared.binder.SortMods.{SortMods}

-- ---- declarations

-- the sorts of parameters are there; a bound one's isn't strict, and it depends on nothing; a regular one depends on
-- bound ones before it alone
abbrev pub AreWellFormed : List SortMods → List Binder → Type 0
AreWellFormed ss params = All (λ b. b.sort < length ss) params × AreParams ss params

-- where there is a body, it has the result's sort, over the parameters and dummies, and the result depends on each variable of its FV
abbrev pub BodyIsRight : List Declaration → Signature → Form → Type 0
BodyIsRight env g plain_form = ⊤
BodyIsRight env g abstract_form = ⊤
BodyIsRight env g (defined dummies body) = AreDummies (sorts env) dummies × HasSort (signatures env) (g.params ++ dummies) body g.result.sort
    × ((x : ℕ) → InFV (signatures env) (g.params ++ dummies) x body → Contains g.result.deps x)

-- a result's sort isn't pure, and the result depends on bound parameters alone; hypotheses and conclusion have provable sorts
abbrev pub IsWellFormed : List Declaration → Declaration → Type 0
IsWellFormed env (sort_decl m) = ⊤
IsWellFormed env (term_decl t) = AreWellFormed (sorts env) t.signature.params × MayBeResultSort (sorts env) t.signature.result.sort
    × All (IsBoundAt t.signature.params) t.signature.result.deps × BodyIsRight env t.signature t.form
IsWellFormed env (assertion_decl a) = AreWellFormed (sorts env) a.params × AreProvable env a.params a.hyps × HasProvable env a.params a.conclusion

-- ---- lists

-- each definition has its body; local (the .mmb format's) are only definitions and theorems
abbrev pub MayHaveForm : (is_local : Bool) → Form → Type 0
MayHaveForm is_local plain_form = is_local ≡ false
MayHaveForm is_local abstract_form = ⊥
MayHaveForm is_local (defined dummies body) = ⊤

abbrev pub MayStand : (is_local : Bool) → Declaration → Type 0
MayStand is_local (sort_decl m) = is_local ≡ false
MayStand is_local (term_decl t) = MayHaveForm is_local t.form
MayStand is_local (assertion_decl a) = is_local ≡ true → a.is_axiom ≡ false

-- each statement is well formed over those before it, and each theorem has a derivation over them, without gaps
abbrev pub IsLegalAfter : List Declaration → List Statement → Type 0
IsLegalAfter env [] = ⊤
IsLegalAfter env (s ∷ ss) = MayStand s.is_local s.decl × IsWellFormed env s.decl
    × ((a : Assertion) → s.decl ≡ assertion_decl a → a.is_axiom ≡ false → IsProvedBy gap_free env a)
    × IsLegalAfter (env ++ s.decl ∷ []) ss

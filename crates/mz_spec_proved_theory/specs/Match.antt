-- The match: the declarations of a specification beside the public ones of a list of statements, in order (mm0.md: what
-- proves a specification declares what it does, in its order, and may have more of its own; the order of rules is this
-- project's own).
use Rattle.std.specs.Prelude.{◌≡◌, ◌+◌, ◌++◌, ⊤, ℕ, List, [], ◌∷◌, length, Bool, true, false, ◌==◌, if◌then◌else◌}
use Rattle.mz_base.specs.Checks.{Checks, nothing, demand, ◌>>◌, AllHold}
use Rattle.mz_logic_theory.specs.Declaration.{Declaration, sort_decl, term_decl, assertion_decl, Assertion, Form, plain_form, abstract_form, defined, terms}
use Rattle.mz_logic_theory.specs.LegalLists.{Statement}
use Rattle.mz_logic_theory.specs.Signature.{Signature}
use Rattle.mz_spec_proved_theory.specs.declared.kind.Kind.{Kind}
use Rattle.mz_spec_proved_theory.specs.declared.kind.Kind.TheVariants as kinds
use Rattle.mz_spec_proved_theory.specs.declared.rule.M.{M}
use Rattle.mz_spec_proved_theory.specs.declared.rule.M.TheVariants as rules
use Rattle.mz_spec_proved_theory.specs.AlphaTrees.{SameTree, SameTrees, SameBody}

-- ---- public statements

-- the row that a declaration takes in the table of terms, if it is a term or definition
abbrev pub term_row_of : ℕ → Declaration → List ℕ
term_row_of n (sort_decl _) = []
term_row_of n (term_decl _) = n ∷ []
term_row_of n (assertion_decl _) = []

-- the rows of the public terms and definitions, in order, where n rows were taken before
abbrev pub term_rows : ℕ → List Statement → List ℕ
term_rows n [] = []
term_rows n (s ∷ ss) = (if s.is_local then [] else term_row_of n s.decl) ++ term_rows (n + length (terms (s.decl ∷ []))) ss

-- What a public statement declares, and the rows of the public terms before it: the i-th of these is the
-- specification's i-th term.
pub record Partner : Type 0 where
  pub rows : List ℕ
  pub decl : Declaration

abbrev pub partner_of : List Statement → Statement → Partner
partner_of before s = record { rows = term_rows 0 before; decl = s.decl }

-- the statements that aren't local, in order, after others: a specification speaks of these alone
abbrev pub publics_after : List Statement → List Statement → List Partner
publics_after before [] = []
publics_after before (s ∷ ss) = if s.is_local then publics_after (before ++ s ∷ []) ss else partner_of before s ∷ publics_after (before ++ s ∷ []) ss

abbrev pub publics : List Statement → List Partner
publics ss = publics_after [] ss

-- ---- a declaration and its partner

abbrev pub is_plain : Form → Bool
is_plain plain_form = true
is_plain abstract_form = false
is_plain (defined _ _) = false

abbrev pub kind_of_form : Form → Kind
kind_of_form plain_form = kinds.Term
kind_of_form abstract_form = kinds.Definition
kind_of_form (defined _ _) = kinds.Definition

abbrev pub kind_of : Declaration → Kind
kind_of (sort_decl _) = kinds.Sort
kind_of (term_decl d) = kind_of_form d.form
kind_of (assertion_decl a) = if a.is_axiom then kinds.Axiom else kinds.Theorem

abbrev pub number_of : Kind → ℕ
number_of kinds.Sort = 0
number_of kinds.Term = 1
number_of kinds.Axiom = 2
number_of kinds.Definition = 3
number_of kinds.Theorem = 4

abbrev pub is_kind : Kind → Kind → Bool
is_kind k l = number_of k == number_of l

-- two terms have the same parameters, in number, sorts, boundness and dependencies, and the same result
abbrev pub signature_checks : Signature → Signature → Checks M
signature_checks d e = demand rules.Binders (d.params ≡ e.params) >> demand rules.Result (d.result ≡ e.result)

-- where the specification gives a body, the partner has one, the same after n parameters up to the names of dummies
abbrev pub form_checks : List ℕ → ℕ → Form → Form → Checks M
form_checks rows n (defined ds body) (defined es other) = demand rules.Body (SameBody rows n ds es body other)
form_checks rows n (defined ds body) g = demand rules.Body ⊥
form_checks rows n f g = nothing

-- two axioms, or two theorems, have the same parameters, hypotheses and conclusion
abbrev pub assertion_checks : List ℕ → Assertion → Assertion → Checks M
assertion_checks rows a b =
    demand rules.Binders (a.params ≡ b.params)
    >> demand rules.Hypotheses (SameTrees rows a.hyps b.hyps)
    >> demand rules.Conclusion (SameTree rows a.conclusion b.conclusion)

-- what is asked of two declarations of one kind
abbrev pub part_checks : List ℕ → Declaration → Declaration → Checks M
part_checks rows (sort_decl m) (sort_decl n) = demand rules.Modifiers (m ≡ n)
part_checks rows (term_decl d) (term_decl e) = signature_checks d.signature e.signature >> form_checks rows (length d.signature.params) d.form e.form
part_checks rows (assertion_decl a) (assertion_decl b) = assertion_checks rows a b
part_checks rows d e = nothing

-- what is asked of a declaration and its partner, in order
abbrev pub match_checks : Declaration → Partner → Checks M
match_checks d p = demand rules.Kind (kind_of d ≡ kind_of p.decl) >> part_checks p.rows d p.decl

-- ---- all of them

-- as many declarations as partners, which agree in order
abbrev pub Agrees : List Declaration → List Partner → Type 0
Agrees [] [] = ⊤
Agrees [] (p ∷ ps) = ⊥
Agrees (d ∷ ds) [] = ⊥
Agrees (d ∷ ds) (p ∷ ps) = AllHold (match_checks d p) × Agrees ds ps

-- what is asked of a public statement, where these declarations are left
abbrev pub partner_checks : List Declaration → Partner → Checks M
partner_checks [] p = demand rules.Extra ⊥
partner_checks (d ∷ ds) p = match_checks d p

-- what is asked at the list's end
abbrev pub end_checks : List Declaration → Checks M
end_checks left = demand rules.Missing (left ≡ [])

-- the public ones of the statements agree with the first of the declarations, and these are left
pub record Leaves (ds : List Declaration) (ss : List Statement) (left : List Declaration) : Type 0 where
  pub done : List Declaration
  pub all : ds ≡ done ++ left
  pub agrees : Agrees done (publics ss)

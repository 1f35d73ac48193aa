-- Declarations with names, and the lines that are printed of them (mm0.md, section on the grammar: sorts, terms,
-- definitions, axioms and theorems).
use Rattle.std.specs.Prelude.{◌≡◌, ◌<◌, ◌≤◌, ◌++◌, ◌/◌, ◌%◌, ◌==◌, ⊤, ℕ, suc, List, [], ◌∷◌, map, length, Bool, true, false, Some, None, IsTrue, if◌then◌else◌}
use Rattle.std.specs.List.Sorted.{IsStrictlyIncreasing}
use Rattle.mz_base.specs.Identifiers.{is_name}
use Rattle.mz_logic_theory.specs.Tree.{Tree, Trees, none, more}
use Rattle.mz_logic_theory.specs.Declaration.{Form, plain_form, abstract_form, defined, context_of, Declaration, sort_decl, term_decl, assertion_decl, sorts, signatures, DepsAscend}
use Rattle.mz_logic_theory.specs.Signature.{Signature}
use Rattle.mz_logic_theory.specs.Legality.{IsLegalDecl}
use Rattle.mz_logic_theory.specs.declared.binder.Binder.{Binder}
use Rattle.mz_logic_theory.specs.declared.binder.SortMods.{SortMods}
use Rattle.mz_spec_theory.specs.Statement.{Modifiers}
use Rattle.mz_spec_theory.specs.declared.kind.AssertKind.{AssertKind}
use Rattle.mz_spec_theory.specs.declared.kind.AssertKind.TheVariants.{Axiom, Theorem}
use Rattle.mz_prefix.specs.Lines.{PlainType, PlainBinder, Tokens, Line, sort_line, term_line, assert_line, definition_line}
use Rattle.mz_prefix.specs.Prefix.{tokens_of, IsShort}
use Rattle.mz_base.specs.Names.{IsNew}

-- a declaration with its name
pub record Named : Type 0 where
  pub name : List ℕ
  pub decl : Declaration

-- the names of sorts, of terms, and of the variables of a statement, by number
pub record Vocabulary : Type 0 where
  pub sort : ℕ → List ℕ
  pub term : ℕ → List ℕ
  pub variable : ℕ → List ℕ

-- ---- binders

abbrev pub plain_type : Vocabulary → ℕ → List ℕ → PlainType
plain_type v s deps = record { sort = v.sort s; deps = map v.variable deps }

abbrev pub plain_param : Vocabulary → ℕ → Binder → PlainBinder
plain_param v x b = record { is_dummy = false; is_bound = b.bound; name = v.variable x; type = plain_type v b.sort b.deps }

abbrev pub plain_dummy : Vocabulary → ℕ → Binder → PlainBinder
plain_dummy v x b = record { is_dummy = true; is_bound = true; name = v.variable x; type = plain_type v b.sort [] }

abbrev pub plain_dummies : Vocabulary → ℕ → List Binder → List PlainBinder
plain_dummies v x [] = []
plain_dummies v x (d ∷ ds) = plain_dummy v x d ∷ plain_dummies v (suc x) ds

-- parameters, the first of which is variable x, and then dummies
abbrev pub plain_binders : Vocabulary → ℕ → List Binder → List Binder → List PlainBinder
plain_binders v x [] ds = plain_dummies v x ds
plain_binders v x (b ∷ bs) ds = plain_param v x b ∷ plain_binders v (suc x) bs ds

-- ---- lines

abbrev pub formula_of : Vocabulary → Tree → Tokens
formula_of v e = tokens_of v.term v.variable e

abbrev pub formulas_of : Vocabulary → Trees → List Tokens
formulas_of v none = []
formulas_of v (more e es) = formula_of v e ∷ formulas_of v es

-- bit 0 pure, 1 strict, 2 provable, 3 free
abbrev pub modifiers_of : SortMods → Modifiers
modifiers_of m = record { is_pure = m.0 % 2 == 1; is_strict = m.0 / 2 % 2 == 1; is_provable = m.0 / 4 % 2 == 1; is_free = m.0 / 8 % 2 == 1 }

abbrev pub term_line_of : Vocabulary → List ℕ → Signature → Form → Line
term_line_of v name sig plain_form = term_line name (plain_binders v 0 sig.params []) (plain_type v sig.result.sort sig.result.deps)
term_line_of v name sig abstract_form = definition_line name (plain_binders v 0 sig.params []) (plain_type v sig.result.sort sig.result.deps) None
term_line_of v name sig (defined ds body) = definition_line name (plain_binders v 0 sig.params ds) (plain_type v sig.result.sort sig.result.deps) (Some (formula_of v body))

abbrev pub kind_of : Bool → AssertKind
kind_of is_axiom = if is_axiom then Axiom else Theorem

abbrev pub line_of_decl : Vocabulary → List ℕ → Declaration → Line
line_of_decl v name (sort_decl m) = sort_line (modifiers_of m) name
line_of_decl v name (term_decl d) = term_line_of v name d.signature d.form
line_of_decl v name (assertion_decl a) = assert_line (kind_of a.is_axiom) name (plain_binders v 0 a.params []) (formulas_of v a.hyps) (formula_of v a.conclusion)

abbrev pub line_of : Vocabulary → Named → Line
line_of v n = line_of_decl v n.name n.decl

abbrev pub lines_of : Vocabulary → List Named → List Line
lines_of v [] = []
lines_of v (n ∷ ns) = line_of v n ∷ lines_of v ns

abbrev pub decls_of : List Named → List Declaration
decls_of [] = []
decls_of (n ∷ ns) = n.decl ∷ decls_of ns

-- ---- what can be printed

-- the first n variables have names of their own
pub record HasVariables (v : Vocabulary) (n : ℕ) : Type 0 where
  pub names : (x : ℕ) → x < n → IsTrue (is_name (v.variable x))
  pub distinct : (x y : ℕ) → x < n → y < n → v.variable x ≡ v.variable y → x ≡ y

-- the name is that of the vocabulary, and new in its space; `used` are the names of assertions so far
abbrev pub HasNewName : Vocabulary → ℕ → List Declaration → List (List ℕ) → List ℕ → Declaration → Type 0
HasNewName v n env used name (sort_decl m) = (name ≡ v.sort (length (sorts env))) × ((i : ℕ) → i < length (sorts env) → v.sort i ≡ name → ⊥)
HasNewName v n env used name (term_decl d) = (name ≡ v.term (length (signatures env))) × ((t : ℕ) → t < length (signatures env) → v.term t ≡ name → ⊥)
    × ((x : ℕ) → x < n → v.variable x ≡ name → ⊥)
HasNewName v n env used name (assertion_decl a) = IsNew used name

abbrev pub HasShortBody : Vocabulary → Form → Type 0
HasShortBody v plain_form = ⊤
HasShortBody v abstract_form = ⊤
HasShortBody v (defined ds body) = IsShort (formula_of v body) body

abbrev pub AreShort : Vocabulary → Trees → Type 0
AreShort v none = ⊤
AreShort v (more e es) = IsShort (formula_of v e) e × AreShort v es

-- there are names for its variables, and its formulas are within the limits
abbrev pub IsWithin : Vocabulary → ℕ → Declaration → Type 0
IsWithin v n (sort_decl m) = m.0 < 16
IsWithin v n (term_decl d) = (length (context_of d) ≤ n) × DepsAscend d.signature.params × IsStrictlyIncreasing d.signature.result.deps × HasShortBody v d.form
IsWithin v n (assertion_decl a) = (length a.params ≤ n) × DepsAscend a.params × AreShort v a.hyps × IsShort (formula_of v a.conclusion) a.conclusion

abbrev pub used_with : List (List ℕ) → List ℕ → Declaration → List (List ℕ)
used_with used name (sort_decl m) = used
used_with used name (term_decl d) = used
used_with used name (assertion_decl a) = used ++ name ∷ []

pub record IsPrintable (v : Vocabulary) (n : ℕ) (env : List Declaration) (used : List (List ℕ)) (d : Named) : Type 0 where
  pub identifier : IsTrue (is_name d.name)
  pub legal : IsLegalDecl env d.decl
  pub new : HasNewName v n env used d.name d.decl
  pub within : IsWithin v n d.decl

-- each over those before it
abbrev pub ArePrintable : Vocabulary → ℕ → List Declaration → List (List ℕ) → List Named → Type 0
ArePrintable v n env used [] = ⊤
ArePrintable v n env used (d ∷ ds) = IsPrintable v n env used d × ArePrintable v n (env ++ d.decl ∷ []) (used_with used d.name d.decl) ds

-- What the statements on notations, coercions and delimiters add, and the first rule that they break (mm0.md, sections
-- on notations, coercions and delimiters; the order of rules is this project's own). Strings are given without their
-- `$`.
use Rattle.std.specs.Prelude.{◌≡◌, ◌≢◌, ◌<◌, ◌≤◌, ◌==◌, ⊤, ℕ, List, [], ◌∷◌, ◌++◌, Bool, true, false, Option, Some, None, length, slice_get, slice_range}
use Rattle.std.specs.List.{count_by}
use Rattle.std.proofs.Common.{Result, Ok, Err}
use Rattle.mz_base.specs.Checks.{Checks, demand, ◌>>◌, AllHold, FailsFirst}
use Rattle.mz_logic_theory.specs.Signature.{Signature}
use Rattle.mz_logic_theory.specs.declared.binder.Binder.{Binder}
use Rattle.mz_logic_theory.specs.declared.binder.ResultType.{ResultType}
use Rattle.mz_lex.specs.MathTokens.{IsConstant, AreDelimiters}
use Rattle.mz_lex.specs.declared.tokens.Delimiters.{Delimiters}
use Rattle.mz_math_theory.specs.Notation.{level_of, places, Element, fixed, slot, prefixed, infixed, Notation, Coercion, Table, with_delimiters, with_notation}
use Rattle.mz_math_theory.specs.Clear.{IsClear}
use Rattle.mz_math_theory.specs.Coercions.{OnePath}
pub use Rattle.mz_math_theory.specs.declared.literal.Literal.{Literal}
pub use Rattle.mz_math_theory.specs.declared.literal.Literal.TheVariants.{Constant as constant, Name as name}
pub use Rattle.mz_math_theory.specs.declared.literal.Tail.{Tail}
pub use Rattle.mz_math_theory.specs.declared.fault.NoteFault.{NoteFault}
use Rattle.mz_math_theory.specs.declared.fault.NoteFault.TheVariants as faults

-- ---- the notation that a statement makes, where it is of its form

-- `infixl` and `infixr`: the term has two parameters
abbrev pub IsInfix : List Signature → Delimiters → ℕ → List ℕ → Option ℕ → Bool → Notation → Type 0
IsInfix sigs d term text level right k = (w : List ℕ) × (s : Signature) × IsConstant d text w
    × (slice_get sigs term ≡ Some s) × (length s.params ≡ 2) × (k ≡ infixed term w (level_of level) right)

abbrev pub IsPrefix : List Signature → Delimiters → ℕ → List ℕ → Option ℕ → Notation → Type 0
IsPrefix sigs d term text level k = (w : List ℕ) × (s : Signature) × IsConstant d text w
    × (slice_get sigs term ≡ Some s) × (k ≡ prefixed term (length s.params) w (level_of level))

-- a span of a text
abbrev pub IsSpan : List ℕ → ℕ → ℕ → Type 0
IsSpan text from to = (from ≤ to) × (to ≤ length text)

-- a literal, by its span: a constant with its precedence, or the name of a parameter
abbrev pub IsElement : Delimiters → List (List ℕ) → List ℕ → Literal → Element → Type 0
IsElement d names text (constant from to level) e = (w : List ℕ) × IsSpan text from to × IsConstant d (slice_range text from to) w × (e ≡ fixed w (level_of level))
IsElement d names text (name from to) e = (i : ℕ) × IsSpan text from to × (slice_range text from to ≢ []) × (slice_get names i ≡ Some (slice_range text from to)) × (e ≡ slot i)

abbrev pub AreElements : Delimiters → List (List ℕ) → List ℕ → List Literal → List Element → Type 0
AreElements d names text [] [] = ⊤
AreElements d names text [] (e ∷ es) = ⊥
AreElements d names text (l ∷ ls) [] = ⊥
AreElements d names text (l ∷ ls) (e ∷ es) = IsElement d names text l e × AreElements d names text ls es

-- each of n parameters is named exactly once
abbrev pub EachOnce : ℕ → List Element → Type 0
EachOnce n es = (i : ℕ) → i < n → count_by (λ j. j == i) (places es) ≡ 1

-- a constant comes first and there is no tail; or a parameter, then a constant of the tail's precedence
abbrev pub Begins : List Element → Option Tail → ℕ → Bool → Type 0
Begins [] tail level right = ⊥
Begins (fixed w q ∷ es) None level right = (level ≡ q) × (right ≡ true)
Begins (fixed w q ∷ es) (Some tail) level right = ⊥
Begins (slot i ∷ []) tail level right = ⊥
Begins (slot i ∷ slot j ∷ es) tail level right = ⊥
Begins (slot i ∷ fixed w q ∷ es) None level right = ⊥
Begins (slot i ∷ fixed w q ∷ es) (Some tail) level right = (q ≡ level_of tail.level) × (level ≡ q) × (right ≡ tail.right)

-- the parts of a `notation` statement: its term, the names and binders of its parameters, its type, its
-- literals as spans of a text, and its tail
pub record General : Type 0 where
  pub term : ℕ
  pub names : List (List ℕ)
  pub binders : List Binder
  pub result : ResultType
  pub text : List ℕ
  pub literals : List Literal
  pub tail : Option Tail

-- the binders and the type are the term's
pub record IsGeneral (sigs : List Signature) (d : Delimiters) (g : General) (k : Notation) : Type 0 where
  pub term : k.term ≡ g.term
  pub signature : slice_get sigs g.term ≡ Some (record { params = g.binders; result = g.result })
  pub elements : AreElements d g.names g.text g.literals k.elements
  pub once : EachOnce (length g.binders) k.elements
  pub begins : Begins k.elements g.tail k.level k.is_right

-- a coercion's term has one regular parameter, of the one sort, and a result of the other
abbrev pub IsCoercion : List Signature → Coercion → Type 0
IsCoercion sigs c = (s : Signature) × (b : Binder) × (slice_get sigs c.term ≡ Some s) × (s.params ≡ b ∷ []) × (b.bound ≡ false)
    × (b.sort ≡ c.from) × (s.result.sort ≡ c.to)

-- ---- the rules in order

-- the statement makes a notation, and the table stays clear with it
abbrev pub notation_checks : Table → (Notation → Type 0) → Checks NoteFault
notation_checks t Makes =
    demand faults.Form ((k : Notation) × Makes k)
    >> demand faults.Clash ((k : Notation) × Makes k × IsClear (with_notation t k).leading (with_notation t k).infixes)

-- there is still one path between two sorts at most
abbrev pub coercion_checks : List Signature → Table → Coercion → Checks NoteFault
coercion_checks sigs t c = demand faults.Form (IsCoercion sigs c) >> demand faults.CoercionClash (OnePath (t.coercions ++ c ∷ []))

abbrev pub delimiter_checks : List ℕ → Option (List ℕ) → Checks NoteFault
delimiter_checks left right = demand faults.Form ((d : Delimiters) × AreDelimiters left right d)

-- ---- answers

-- nothing fails, or this is the first rule that does; out of memory is free
abbrev pub IsAnswer : {A : Type 0} → Result A NoteFault → Checks NoteFault → Type 0
IsAnswer (Ok _) cs = AllHold cs
IsAnswer (Err faults.Clash) cs = FailsFirst cs faults.Clash
IsAnswer (Err faults.Form) cs = FailsFirst cs faults.Form
IsAnswer (Err faults.CoercionClash) cs = FailsFirst cs faults.CoercionClash
IsAnswer (Err faults.Mem) cs = ⊤

-- what each statement makes of the table
abbrev pub AddsNotation : Table → (Notation → Type 0) → Table → Type 0
AddsNotation t Makes u = (k : Notation) × Makes k × (u ≡ with_notation t k)

abbrev pub AddsDelimiters : Table → List ℕ → Option (List ℕ) → Table → Type 0
AddsDelimiters t left right u = (d : Delimiters) × AreDelimiters left right d × (u ≡ with_delimiters t d)

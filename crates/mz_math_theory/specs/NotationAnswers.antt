-- What the calls within the crate answer.
use Rattle.std.specs.Prelude.{◌≡◌, ◌≢◌, ⊤, ℕ, List, Contains, length, MatchBool, codes}
use Rattle.std.proofs.Common.{Result, Ok, Err}
use Rattle.mz_lex.specs.MathTokens.{AreCharacters}
use Rattle.mz_lex.specs.declared.tokens.Delimiters.{Delimiters}
use Rattle.mz_math_theory.specs.Notation.{Notation, Element, fixed, begins_with_slot, Table}
use Rattle.mz_math_theory.specs.Clear.{HasConstant, LedBy, JoinedBy, IsClear}
use Rattle.mz_math_theory.specs.Forms.{General, NoteFault, EachOnce, Begins}
use Rattle.mz_math_theory.specs.declared.fault.NoteFault.TheVariants as faults

-- ---- statements

-- what is made of a statement, or there is no such thing; no other rule is reported
abbrev pub IsMade : {A : Type 0} → Result A NoteFault → (A → Type 0) → Type 0
IsMade (Ok x) P = P x
IsMade {A} (Err faults.Form) P = (y : A) → P y → ⊥
IsMade (Err faults.Mem) P = ⊤
IsMade (Err faults.Clash) P = ⊥
IsMade (Err faults.CoercionClash) P = ⊥

abbrev pub AreBoth : List ℕ → List ℕ → Delimiters → Type 0
AreBoth left right d = AreCharacters left d.left × AreCharacters right d.right

-- the notation of these elements: each parameter is named once, and they begin as the tail asks
abbrev pub IsNotationOf : General → List Element → Notation → Type 0
IsNotationOf g es k = (k.term ≡ g.term) × (k.elements ≡ es) × EachOnce (length g.binders) es × Begins es g.tail k.level k.is_right

-- a notation begins with a constant of its precedence, or with a parameter and then such a constant; none
-- of its constants is a parenthesis
abbrev pub IsShaped : Notation → Type 0
IsShaped k = MatchBool (begins_with_slot k.elements) ((w : List ℕ) × JoinedBy k w) ((w : List ℕ) × LedBy k w)
    × ((w : List ℕ) (q : ℕ) → Contains k.elements (fixed w q) → (w ≢ codes "(") × (w ≢ codes ")"))

abbrev pub IsClearTable : Table → Type 0
IsClearTable t = IsClear t.leading t.infixes

-- the table becomes another one, if that is clear
abbrev pub IsAdded : {A : Type 0} → Result A NoteFault → (t next u : Table) → Type 0
IsAdded (Ok x) t next u = IsClearTable next × (u ≡ next)
IsAdded (Err faults.Clash) t next u = (IsClearTable next → ⊥) × (u ≡ t)
IsAdded (Err faults.Mem) t next u = u ≡ t
IsAdded (Err faults.Form) t next u = ⊥
IsAdded (Err faults.CoercionClash) t next u = ⊥

-- none of its constants is a parenthesis
abbrev pub IsPlain : Notation → Type 0
IsPlain k = (w : List ℕ) (q : ℕ) → Contains k.elements (fixed w q) → (w ≢ codes "(") × (w ≢ codes ")")

-- ---- precedences

abbrev pub KeepsLevels : List Element → List Notation → Type 0
KeepsLevels es ks = (w : List ℕ) (q p : ℕ) → Contains es (fixed w q) → HasConstant ks w p → p ≡ q

abbrev pub KeepsOwnLevels : List Element → Type 0
KeepsOwnLevels es = (w : List ℕ) (q p : ℕ) → Contains es (fixed w q) → Contains es (fixed w p) → p ≡ q

-- each constant has one precedence wherever it stands
abbrev pub HaveOneLevel : List Notation → Type 0
HaveOneLevel ks = (w : List ℕ) (q p : ℕ) → HasConstant ks w q → HasConstant ks w p → q ≡ p

-- those of one precedence group to the same side
abbrev pub GroupAlike : List Notation → Type 0
GroupAlike ks = (k l : Notation) → Contains ks k → Contains ks l → k.level ≡ l.level → k.is_right ≡ l.is_right

abbrev pub GroupsWith : List Notation → Notation → Type 0
GroupsWith ks k = (l : Notation) → Contains ks l → l.level ≡ k.level → l.is_right ≡ k.is_right

abbrev pub NoOtherLed : List Notation → Notation → Type 0
NoOtherLed ks k = (l : Notation) (w : List ℕ) → Contains ks l → LedBy k w → LedBy l w → ⊥

abbrev pub NoOtherJoined : List Notation → Notation → Type 0
NoOtherJoined ks k = (l : Notation) (w : List ℕ) → Contains ks l → JoinedBy k w → JoinedBy l w → ⊥

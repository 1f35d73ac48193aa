-- Steps that may fail by a rule of the format: the first premise that fails names it (the .mmb format, its two
-- machines; the codes of rules are this project's own).
use Rattle.std.specs.Prelude.{ℕ, Bool, true, false, Option, Some, None, Result, Ok, Err}
use Rattle.mz_cmd.specs.declared.rule.K.{K}

infixl 10 ◌>>=◌
abbrev pub ◌>>=◌ : {A B F : Type 0} → Result A F → (A → Result B F) → Result B F
(Ok x) >>= f = f x
(Err k) >>= f = Err k

infixl 10 ◌>>◌
abbrev pub ◌>>◌ : {A B F : Type 0} → Result A F → Result B F → Result B F
(Ok x) >> r = r
(Err k) >> r = Err k

-- the premise holds, or this rule fails
abbrev pub need : Bool → K → Result (Unit {0}) K
need true k = Ok tt
need false k = Err k

-- there is a value, or this rule fails
abbrev pub want : {A : Type 0} → Option A → K → Result A K
want (Some x) k = Ok x
want None k = Err k

-- a step at a place: its rule with the place
abbrev pub at_place : {A : Type 0} → ℕ → Result A K → Result A (ℕ × K)
at_place at (Ok x) = Ok x
at_place at (Err k) = Err (at, k)

-- the rule alone, without its place
abbrev pub rule_of : {A : Type 0} → Result A (ℕ × K) → Result A K
rule_of (Ok x) = Ok x
rule_of (Err f) = Err f.1

-- what a command leads to: the run is over, or goes on so many bytes further
pub data Turn (S : Type 0) : Type 0 where
  over : S → Turn S
  goes_on : ℕ → S → Turn S

abbrev pub follow : {S F : Type 0} → Result (Turn S) F → (ℕ → S → Result S F) → Result S F
follow (Err f) rest = Err f
follow (Ok (over s)) rest = Ok s
follow (Ok (goes_on len s)) rest = rest len s

-- what is counted after a turn that goes on
abbrev pub goes_to : {S F : Type 0} → Result (Turn S) F → (ℕ → S → ℕ) → ℕ
goes_to (Err f) rest = 0
goes_to (Ok (over s)) rest = 0
goes_to (Ok (goes_on len s)) rest = rest len s

-- what is counted for a command that is read
abbrev pub if_read : {A F : Type 0} → Result A F → (A → ℕ) → ℕ
if_read (Err f) rest = 0
if_read (Ok x) rest = rest x

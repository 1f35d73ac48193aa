-- What the code's states stand for.
use Rattle.std.specs.Prelude.{ℕ, List, map}
use Rattle.mz_math_theory.specs.Notation.{TermName}
use Rattle.mz_spec_rules.specs.declared.state.State.{State as StateRead}
use Rattle.mz_spec_theory.specs.State.{State}

-- the names of terms alone
abbrev pub names_alone : List TermName → List (List ℕ)
names_alone ns = map (λ n. n.name) ns

-- terms have their names in the table
abbrev pub state : StateRead → State
state s = record { sort_names = s.sort_names; term_names = names_alone s.notations.names; assertion_names = s.assertion_names; env = s.env; spans = s.spans.items; table = s.notations }

-- The expressions that a list of nodes stands for: they are never written out.
use Rattle.std.specs.Prelude.{ℕ, suc, ◌≤◌, Bool, List, [], ◌∷◌, ◌++◌, length, map, take, drop}
use Rattle.mz_logic_theory.specs.Words.{word_sort, word_deps, word_bound}
use Rattle.mz_logic_theory.specs.declared.word.Word.{Word}
use Rattle.mz_logic_theory.specs.declared.binder.Binder.{Binder}
use Rattle.mz_store.specs.Nodes.{binder_after}
use Rattle.mz_store.specs.declared.item.DepsMode.{DepsMode}
use Rattle.mz_store.specs.declared.item.Id.{Id}
use Rattle.mz_pmachine_theory.specs.NodeIdentity.{Numbered, a_variable, an_application}
use Rattle.mz_pmachine_unify.specs.Numbering.{Numbering, AreIn, exprs_of}
use Rattle.mz_pmachine_unify.specs.declared.node.Node.{Node}
use Rattle.mz_pmachine_unify.specs.declared.node.Form.{Form}
use Rattle.mz_pmachine_unify.specs.declared.node.Form.TheVariants.{Variable, Application}

-- what a node says, with its operands as a list: a variable, bound or regular, or what a command with this number made, a
-- term over operands
pub data MadeOf : Type 0 where
  variable : Bool → MadeOf
  application : ℕ → ℕ → List Id → MadeOf

pub record Made : Type 0 where
  pub sort : ℕ
  pub vars : ℕ
  pub deps : ℕ
  pub form : MadeOf

-- so many of the list of operands, from one place on
abbrev pub operands_at : List Id → ℕ → ℕ → List Id
operands_at operands from many = take many (drop from operands)

abbrev pub form_of : List Id → Form → MadeOf
form_of operands (Variable bound) = variable bound
form_of operands (Application a) = application a.number a.head (operands_at operands a.from a.many)

abbrev pub made_of : List Id → Node → Made
made_of operands n = record { sort = n.sort; vars = n.vars; deps = n.deps; form = form_of operands n.form }

abbrev pub all_made : List Id → List Node → List Made
all_made operands nodes = map (made_of operands) nodes

abbrev pub context_with : Numbering → Made → MadeOf → List Binder
context_with s n (variable bound) = s.context ++ binder_after s.context n.sort n.deps bound ∷ []
context_with s n (application number head operands) = s.context

abbrev pub expr_with : Numbering → MadeOf → Numbered
expr_with s (variable bound) = a_variable (length s.context)
expr_with s (application number head operands) = an_application number head (exprs_of s operands)

abbrev pub next_with : Numbering → MadeOf → ℕ
next_with s (variable bound) = s.next
next_with s (application number head operands) = suc number

-- after one more node
abbrev pub entered : Numbering → Made → Numbering
entered s n = record {
  context = context_with s n n.form;
  mode = s.mode;
  next = next_with s n.form;
  entries = s.entries ++ record { expr = expr_with s n.form; sort = n.sort; vars = n.vars; deps = n.deps } ∷ [];
}

abbrev pub entered_all : Numbering → List Made → Numbering
entered_all s [] = s
entered_all s (n ∷ ns) = entered_all (entered s n) ns

abbrev pub no_expressions : DepsMode → Numbering
no_expressions mode = record { context = []; mode = mode; next = 0; entries = [] }

-- what these nodes stand for
abbrev pub numbering_of : DepsMode → List Made → Numbering
numbering_of mode nodes = entered_all (no_expressions mode) nodes

-- the node of a parameter
abbrev pub variable_node : Word → Made
variable_node w = record { sort = word_sort w; vars = word_deps w; deps = word_deps w; form = variable (word_bound w) }

-- what a command can make next: a term over expressions that are there, by a number that is new
abbrev pub IsNewIn : Numbering → MadeOf → Type 0
IsNewIn s (variable bound) = ⊥
IsNewIn s (application number head operands) = AreIn s operands × (s.next ≤ number)

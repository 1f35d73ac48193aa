-- What reading the nodes of a text answers.
use Rattle.std.specs.Prelude.{ℕ, ⊤, List}
use Rattle.mz_sexpr.specs.declared.sexprs.SexprRead.{SexprRead}
use Rattle.mz_sexpr.specs.declared.sexprs.SexprRead.TheVariants as read
use Rattle.mz_sexpr.specs.Grammar.{Reads}
use Rattle.mz_sexpr.specs.Order.{Refuses}

-- the text's nodes, or the first of the rules that it breaks
abbrev pub IsReading : List ℕ → SexprRead → Type 0
IsReading text (read.Nodes nodes) = Reads text nodes
IsReading text (read.Refused r) = Refuses text r
IsReading text read.Mem = ⊤

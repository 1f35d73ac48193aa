-- Laws on the nodes of texts.
use Rattle.std.specs.Prelude.{ℕ, ◌≡◌, ◌⊎◌, List}
use Rattle.mz_sexpr.specs.declared.rule.TextRefusal.{TextRefusal}
use Rattle.mz_sexpr.specs.Node.{Nodes}
use Rattle.mz_sexpr.specs.Grammar.{Reads}
use Rattle.mz_sexpr.specs.Order.{Refuses}

-- a text is no two lists of nodes
abbrev pub HasOneReading : List ℕ → Type 0
HasOneReading text = (ns ms : Nodes) → Reads text ns → Reads text ms → ns ≡ ms

-- a text has nodes or a refusal, and never both or two refusals
pub record IsReadOrRefused (text : List ℕ) : Type 0 where
  pub one_of_both : ((ns : Nodes) × Reads text ns) ⊎ ((r : TextRefusal) × Refuses text r)
  pub never_both : (ns : Nodes) (r : TextRefusal) → Reads text ns → Refuses text r → ⊥
  pub one_refusal : (q r : TextRefusal) → Refuses text q → Refuses text r → q ≡ r

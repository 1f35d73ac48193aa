-- One declaration more.
use Rattle.std.proofs.Common.{◌≡◌, ◌+◌, ◌∙◌, List, ◌++◌, length, ap, length-append}
use Rattle.mz_logic_theory.specs.Declaration.{Declaration, sorts, terms, assertions}
use Rattle.mz_logic_theory.proofs.Offered.{sorts-append, terms-append, assertions-append}

module _ (env more : List Declaration) where
  pub sorts-many : length (sorts (env ++ more)) ≡ length (sorts env) + length (sorts more)
  sorts-many = ap length (sorts-append env more) ∙ length-append (sorts env) (sorts more)

  pub terms-many : length (terms (env ++ more)) ≡ length (terms env) + length (terms more)
  terms-many = ap length (terms-append env more) ∙ length-append (terms env) (terms more)

  pub assertions-many : length (assertions (env ++ more)) ≡ length (assertions env) + length (assertions more)
  assertions-many = ap length (assertions-append env more) ∙ length-append (assertions env) (assertions more)

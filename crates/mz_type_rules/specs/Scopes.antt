-- What a proof stands in: the statements before, the theorem's hypotheses, and what the visible lets prove, the outermost first.
use Rattle.std.specs.Prelude.{List, refl}
use Rattle.std.specs.Coded.{Coded, code_by, coded×, coded_list}
use Rattle.mz_logic_theory.specs.Codes.{declaration_code}
use Rattle.mz_logic_theory.specs.Declaration.{Declaration}
use Rattle.mz_logic_theory.specs.Tree.{Tree, Trees}
use Rattle.mz_logic_theory.specs.TreeCode.{trees_code}
use Rattle.mz_mmu_theory.specs.Sides.{with_fact}

pub record Scope : Type 0 where
  pub env : List Declaration
  pub hyps : Trees
  pub lets : Trees

abbrev pub scope_code : Coded Scope
scope_code = code_by (List Declaration × (Trees × Trees)) (coded× (coded_list declaration_code) (coded× trees_code trees_code))
    (λ s. (s.env, (s.hyps, s.lets))) (λ p. record { env = p.0; hyps = p.1.0; lets = p.1.1 }) (λ _. refl)

-- one let more is visible, which proves this
abbrev pub with_let : Scope → Tree → Scope
with_let s e = record { env = s.env; hyps = s.hyps; lets = with_fact s.lets e }

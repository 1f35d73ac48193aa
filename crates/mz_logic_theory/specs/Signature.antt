-- What an application of a term needs to know of the term (mm0.md, section on terms; Carneiro, the rules of
-- well-formed expressions).
use Rattle.std.specs.Prelude.{List}
use Rattle.mz_logic_theory.specs.declared.binder.Binder.{Binder}
use Rattle.mz_logic_theory.specs.declared.binder.ResultType.{ResultType}

pub record Signature : Type 0 where
  pub params : List Binder
  pub result : ResultType

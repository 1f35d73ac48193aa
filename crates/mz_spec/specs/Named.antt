-- A specification as it was read: its text, and what it declares.
use Rattle.std.specs.Prelude.{◌≡◌, ℕ, List}
use Rattle.mz_spec_theory.specs.Spec.{SpecMakes}
use Rattle.mz_spec_theory.specs.Names.{name_at}
use Rattle.mz_spec.specs.declared.names.NamedSpec.{NamedSpec}

-- the name of the k-th declaration
abbrev pub name_of : NamedSpec → ℕ → List ℕ
name_of s k = name_at s.text.now s.declared k

-- it was read of this text
pub record IsNamed (text : List ℕ) (s : NamedSpec) : Type 0 where
  pub is_text : s.text.now ≡ text
  pub makes : SpecMakes text s.declared

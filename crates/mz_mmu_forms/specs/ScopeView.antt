-- What the code's names and scopes stand for.
use Rattle.mz_base.specs.Gaps.{gaps_of}
use Rattle.mz_mmu_theory.specs.Name.{Names, Scope}
use Rattle.mz_mmu_forms.specs.declared.scope.NameTable.{NameTable as Kept}
use Rattle.mz_mmu_forms.specs.declared.scope.Scope.{Scope as Seen}

abbrev pub names : Kept → Names
names n = record { gaps = gaps_of n.mode; sorts = n.sorts; terms = n.terms; constants = n.constants; assertions = n.assertions }

abbrev pub scope : Seen → Scope
scope s = record { names = names s.names.now; vars = s.vars.now }

use Rattle.std.proofs.Common.{◌-◌, ◌++◌, List, length, drop}
use Rattle.mz_math_theory.specs.declared.notation.Element.{Element}
use Rattle.mz_math_theory.specs.Forms.{AreElements}
use Rattle.mz_math_operators.proofs.form.elements_of.Given as goal

abbrev pub decreases-literals : goal.decreases-literals
decreases-literals l = length l.literals - l.i

abbrev pub invariant-literals : goal.invariant-literals
invariant-literals l =
    ((rest : List Element) → AreElements l.delimiters l.params.names l.text (drop l.i l.literals) rest → AreElements l.delimiters l.params.names l.text l.literals (l.elements.items ++ rest))
    × ((all : List Element) → AreElements l.delimiters l.params.names l.text l.literals all → (rest : List Element) × AreElements l.delimiters l.params.names l.text (drop l.i l.literals) rest)

-- What the code's statement on a notation stands for.
use Rattle.mz_math_theory.specs.Forms.{General}
use Rattle.mz_math_operators.specs.declared.form.Statement.{Statement}

abbrev pub general : Statement → General
general s = record { term = s.term; names = s.params.now.names; binders = s.params.now.binders; result = s.result.now; text = s.text.now; literals = s.literals.now; tail = s.tail }

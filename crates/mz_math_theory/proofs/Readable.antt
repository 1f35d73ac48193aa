-- What the grammar rests on holds of each table and each statement's variables.
use Rattle.std.proofs.Common.{List, ℕ, inl, inr, subst, sym, refl, arith, Contains}
use Rattle.std.specs.Prelude.{codes, IsTrue}
use Rattle.std.proofs.lemmas.Bool.{false≢true}
use Rattle.mz_base.specs.Identifiers.{is_name}
use Rattle.mz_logic_theory.specs.Signature.{Signature}
use Rattle.mz_math_theory.specs.Notation.{Table}
use Rattle.mz_math_theory.specs.declared.notation.Element.TheVariants.{Fixed as fixed}
use Rattle.mz_math_theory.specs.Kept.{IsTable, AreVariables}
use Rattle.mz_math_theory.specs.Grammar.{words_of}
use Rattle.mz_math_theory.specs.Readable.{IsReadable}

pub table-readable : (t : Table) (sigs : List Signature) (names : List (List ℕ)) → IsTable t → AreVariables names → IsReadable (words_of t sigs names)
table-readable t sigs names is vs = record {
  clear = is.clear;
  led = is.led;
  joined = is.joined;
  one_term_each = is.one_term_each;
  variables = vs.distinct;
  no_variable = λ v. false≢true (vs.identifiers (codes "(") v.0 v.1);
  no_term = λ n. false≢true (subst (λ w. IsTrue (is_name w)) n.2 (is.identifiers n.0 n.1));
  no_leading = λ k in_k led. (is.no_parentheses (codes "(") k.level (inl (k, in_k, subst (λ es. Contains es (fixed (codes "(") k.level)) (sym led.1) (0, omega arith, refl)))).0 refl;
  no_infix = λ k in_k by. (is.no_parentheses (codes ")") k.level (inr (k, in_k, subst (λ es. Contains es (fixed (codes ")") k.level)) (sym by.2) (1, omega arith, refl)))).1 refl;
}

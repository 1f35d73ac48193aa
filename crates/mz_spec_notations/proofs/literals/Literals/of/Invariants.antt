use Rattle.std.proofs.Common.{◌≡◌, ◌+◌, ◌++◌, ◌∷◌, [], List, length, map, drop}
use Rattle.mz_base.proofs.Offered.{Decides}
use Rattle.mz_spec_theory.specs.StatementCode.{literal}
use Rattle.mz_spec_theory.specs.Statement.{LiteralText}
use Rattle.mz_spec_theory.specs.Forms.{AreLiterals}
use Rattle.mz_spec_rules.specs.Noting.{IsNumeral}
use Rattle.mz_spec_notations.specs.Noting.{literals_size}
use Rattle.mz_spec_theory.specs.Dependencies.{Every}
use Rattle.mz_spec_theory.specs.View.{literal_levels}
use Rattle.mz_spec_notations.proofs.Spans.{levels_in}
use Rattle.mz_spec_notations.proofs.literals.Literals.of.Given as goal

abbrev pub invariant-loop-literal : goal.invariant-loop-literal
invariant-loop-literal l = record {
  spans : (ls : List LiteralText) × AreLiterals l.all.text.items ls l.all.spans.items × (ls ++ map literal (drop l.literal-index l.literals) ≡ map literal l.literals);
  numerals : Every IsNumeral (literal_levels (map literal (drop l.literal-index l.literals) ++ literal l.last ∷ []));
  size : length l.all.text.items + literals_size (map literal (drop l.literal-index l.literals) ++ literal l.last ∷ []) ≡ literals_size (map literal l.literals ++ literal l.last ∷ []);
  left : Decides (levels_in (map literal (drop l.literal-index l.literals) ++ literal l.last ∷ [])) (levels_in (map literal l.literals ++ literal l.last ∷ []));
}

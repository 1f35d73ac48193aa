use Rattle.std.proofs.Common.{◌≡◌, List, map, drop}
use Rattle.mz_base.proofs.Offered.{Decides}
use Rattle.mz_logic_theory.specs.Tree.{Trees, followed_by}
use Rattle.mz_lex.specs.declared.tokens.MathToken.{MathToken}
use Rattle.mz_spec_theory.specs.SpecCode.{EndsSmall, stated}
use Rattle.mz_spec_rules.specs.Entries.{state}
use Rattle.mz_spec_theory.specs.Formulas.{AreHyps, AreTokens, strings_checks}
use Rattle.mz_spec_theory.specs.Dependencies.{Every}
use Rattle.mz_spec_theory.specs.State.{scope_of}
use Rattle.mz_spec_theory.specs.View.{Variable, stated_claim}
use Rattle.mz_spec_declarations.proofs.formulas.hyps_of.Given as goal

abbrev pub invariant-loop-hyp : goal.invariant-loop-hyp
invariant-loop-hyp l = record {
  small : Every (λ h. EndsSmall h.math) (map stated (drop l.hyp-index l.stated));
  judged : (vs : List Variable) → l.scope ≡ scope_of (state l.state) vs → (tokens : List (List MathToken)) → AreTokens (state l.state) (map stated_claim (map stated l.stated)) tokens
      → (rest : List (List MathToken)) × AreTokens (state l.state) (map stated_claim (map stated (drop l.hyp-index l.stated))) rest
      × Decides (strings_checks (state l.state) vs (map stated_claim (map stated (drop l.hyp-index l.stated))) rest) (strings_checks (state l.state) vs (map stated_claim (map stated l.stated)) tokens);
  meant : (vs : List Variable) → l.scope ≡ scope_of (state l.state) vs → (rest : Trees) → AreHyps (state l.state) vs (map stated (drop l.hyp-index l.stated)) rest
      → AreHyps (state l.state) vs (map stated l.stated) (followed_by l.hyps rest);
}

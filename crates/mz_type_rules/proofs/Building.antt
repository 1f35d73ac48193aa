-- One part more of what is built.
use Rattle.std.proofs.Common.{ℕ, ◌≡◌, ◌<◌, ◌≤◌, ◌+◌, List, length, get_or, drop, sym, ap, ◌∙◌, arith}
use Rattle.mz_logic_theory.specs.Tree.{Tree, Trees, none, more, followed_by}
use Rattle.mz_logic_theory.proofs.Offered.{followed_by_none, followed_by_push}
use Rattle.mz_mmu_theory.specs.ConvCode.{conv_steps, convs_steps}
use Rattle.mz_mmu_theory.specs.ConvView.{conversion, conversions}
use Rattle.mz_mmu_theory.specs.declared.conv.Conv.{Conv}
use Rattle.mz_type_rules.proofs.Steps.{convs_cut}

-- what is built and what is left are the whole
abbrev pub Builds : Trees → Trees → Trees → Type 0
Builds built left whole = followed_by built left ≡ whole

pub builds_more : (built new left rest whole : Trees) (e : Tree) → left ≡ more e rest → new ≡ followed_by built (more e none) → Builds built left whole → Builds new rest whole
builds_more built new left rest whole e cut is h = ap (λ fs. followed_by fs rest) is ∙ followed_by_push built rest e ∙ ap (followed_by built) (sym cut) ∙ h

pub built_whole : (built left whole : Trees) → left ≡ none → Builds built left whole → built ≡ whole
built_whole built left whole ends h = sym (followed_by_none built) ∙ ap (followed_by built) (sym ends) ∙ h

-- ---- conversions

module _ (xs : List Conv) (i : ℕ) (c : Conv) (below : i < length xs) (is : c ≡ get_or xs i c) where
  pub convs_size_step : (m : ℕ) → convs_steps (conversions (drop i xs)) ≤ m → (conv_steps (conversion c) ≤ m) × (convs_steps (conversions (drop (i + 1) xs)) ≤ m)
  convs_size_step m h = (omega (arith, ap convs_steps (convs_cut xs i c below is)), omega (arith, ap convs_steps (convs_cut xs i c below is)))

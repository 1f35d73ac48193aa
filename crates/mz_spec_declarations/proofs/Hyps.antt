-- The hypotheses that formulas make, one after another.
use Rattle.std.proofs.Common.{◌≡◌, ◌∙◌, ◌<◌, ◌+◌, ℕ, List, [], ◌∷◌, length, map, drop, get_or, ap, sym, refl, subst}
use Rattle.mz_base.proofs.Offered.{drop-item, Decides, decides-after, fails-before}
use Rattle.mz_base.specs.Checks.{Checks, AllHold, FailsFirst}
use Rattle.mz_logic_theory.specs.Tree.{Tree, Trees, none, followed_by}
use Rattle.mz_logic_theory.proofs.Offered.{followed_by_assoc, followed_by_none}
use Rattle.mz_lex.specs.declared.tokens.MathToken.{MathToken}
use Rattle.mz_lex.specs.MathTokens.{MathTokens}
use Rattle.mz_spec_theory.specs.Reading.{OnFault}
use Rattle.mz_spec_theory.specs.declared.refusal.Fault.{Fault}
use Rattle.mz_spec_theory.specs.declared.refusal.Halt.{Halt}
use Rattle.mz_spec_theory.specs.declared.refusal.Halt.TheVariants as halts
use Rattle.mz_spec_theory.specs.declared.stated.Stated.{Stated as StatedRead}
use Rattle.mz_spec_theory.specs.SpecCode.{stated}
use Rattle.mz_spec_theory.specs.Dependencies.{Every}
use Rattle.mz_spec_theory.specs.View.{Variable, Formula, claim, Stated, stated_claim}
use Rattle.mz_spec_theory.specs.State.{State}
use Rattle.mz_spec_theory.specs.Formulas.{AreHyps, AreTokens, IsMeant, copies, inner, math_of, string_checks, strings_checks}

-- ---- strings

module _ (σ : State) (vs : List Variable) (f : Formula) (fs : List Formula) (whole : Checks Fault) where
  -- the first of them holds
  pub strings-step : (tokens : List (List MathToken)) → AreTokens σ (f ∷ fs) tokens → Decides (strings_checks σ vs (f ∷ fs) tokens) whole
      → ((ps : List MathToken) → MathTokens σ.table.delimiters (inner (math_of f)) ps → AllHold (string_checks σ vs f ps))
      → (rest : List (List MathToken)) × AreTokens σ fs rest × Decides (strings_checks σ vs fs rest) whole
  strings-step [] are d holds = absurd are
  strings-step (ps ∷ pss) (cut, are) d holds = (pss, are, decides-after (string_checks σ vs f ps) (strings_checks σ vs fs pss) whole (holds ps cut) d)

  -- or it fails
  pub strings-fail : (tokens : List (List MathToken)) (halt : Halt) → AreTokens σ (f ∷ fs) tokens → Decides (strings_checks σ vs (f ∷ fs) tokens) whole
      → ((ps : List MathToken) → MathTokens σ.table.delimiters (inner (math_of f)) ps → OnFault halt (FailsFirst (string_checks σ vs f ps))) → OnFault halt (FailsFirst whole)
  strings-fail [] halt are d fails = absurd are
  strings-fail (ps ∷ pss) (halts.Fault fault) (cut, are) d fails = d.fails fault (fails-before (string_checks σ vs f ps) (strings_checks σ vs fs pss) fault (fails ps cut))
  strings-fail (ps ∷ pss) halts.Mem are d fails = tt

pub strings-none : (σ : State) (vs : List Variable) (whole : Checks Fault) (tokens : List (List MathToken)) → AreTokens σ [] tokens → Decides (strings_checks σ vs [] tokens) whole → AllHold whole
strings-none σ vs whole tokens are d = d.holds tt

-- ---- meaning

pub hyps-step : (σ : State) (vs : List Variable) (h : Stated) (hs all : List Stated) (hyps now : Trees) (e : Tree)
    → ((rest : Trees) → AreHyps σ vs (h ∷ hs) rest → AreHyps σ vs all (followed_by hyps rest)) → IsMeant σ vs (claim h.math) e → now ≡ followed_by hyps (copies h.times e)
    → (rest : Trees) → AreHyps σ vs hs rest → AreHyps σ vs all (followed_by now rest)
hyps-step σ vs h hs all hyps now e so_far meant is rest are =
    subst (AreHyps σ vs all) (sym (ap (λ x. followed_by x rest) is ∙ followed_by_assoc hyps (copies h.times e) rest)) (so_far (followed_by (copies h.times e) rest) (e, rest, meant, are, refl))

pub hyps-end : (σ : State) (vs : List Variable) (all : List Stated) (hyps : Trees) → ((rest : Trees) → AreHyps σ vs [] rest → AreHyps σ vs all (followed_by hyps rest)) → AreHyps σ vs all hyps
hyps-end σ vs all hyps so_far = subst (AreHyps σ vs all) (followed_by_none hyps) (so_far none refl)

-- ---- one more formula of a list

module _ (σ : State) (vs : List Variable) (xs : List StatedRead) (i : ℕ) (x : StatedRead) (within : i < length xs) (is : x ≡ get_or xs i x) where
  at : map stated (drop i xs) ≡ stated x ∷ map stated (drop (i + 1) xs)
  at = ap (map stated) (drop-item xs i x within is)

  abbrev Left : ℕ → Checks Fault → Type 0
  Left j whole = (rest : List (List MathToken)) × AreTokens σ (map stated_claim (map stated (drop j xs))) rest × Decides (strings_checks σ vs (map stated_claim (map stated (drop j xs))) rest) whole

  split-left : (whole : Checks Fault) → Left i whole
      → (rest : List (List MathToken)) × AreTokens σ (claim (stated x).math ∷ map stated_claim (map stated (drop (i + 1) xs))) rest
      × Decides (strings_checks σ vs (claim (stated x).math ∷ map stated_claim (map stated (drop (i + 1) xs))) rest) whole
  split-left whole (rest, are, d) =
      (rest, subst (λ hs. AreTokens σ (map stated_claim hs) rest) at are, subst (λ hs. Decides (strings_checks σ vs (map stated_claim hs) rest) whole) at d)

  pub left-step : (whole : Checks Fault) → Left i whole → ((ps : List MathToken) → MathTokens σ.table.delimiters (inner (stated x).math) ps → AllHold (string_checks σ vs (claim (stated x).math) ps)) → Left (i + 1) whole
  left-step whole left holds =
      let here = split-left whole left in
      strings-step σ vs (claim (stated x).math) (map stated_claim (map stated (drop (i + 1) xs))) whole here.0 here.1 here.2 holds

  pub left-fail : (whole : Checks Fault) (halt : Halt) → Left i whole
      → ((ps : List MathToken) → MathTokens σ.table.delimiters (inner (stated x).math) ps → OnFault halt (FailsFirst (string_checks σ vs (claim (stated x).math) ps))) → OnFault halt (FailsFirst whole)
  left-fail whole halt left fails =
      let here = split-left whole left in
      strings-fail σ vs (claim (stated x).math) (map stated_claim (map stated (drop (i + 1) xs))) whole here.0 halt here.1 here.2 fails

  pub small-step : (P : Stated → Type 0) → Every P (map stated (drop i xs)) → P (stated x) × Every P (map stated (drop (i + 1) xs))
  small-step P all = subst (Every P) at all

  pub meant-step : (all : List Stated) (hyps now : Trees) (e : Tree) → ((rest : Trees) → AreHyps σ vs (map stated (drop i xs)) rest → AreHyps σ vs all (followed_by hyps rest))
      → IsMeant σ vs (claim (stated x).math) e → now ≡ followed_by hyps (copies (stated x).times e)
      → (rest : Trees) → AreHyps σ vs (map stated (drop (i + 1) xs)) rest → AreHyps σ vs all (followed_by now rest)
  meant-step all hyps now e so_far meant made =
      hyps-step σ vs (stated x) (map stated (drop (i + 1) xs)) all hyps now e (λ rest are. so_far rest (subst (λ hs. AreHyps σ vs hs rest) (sym at) are)) meant made

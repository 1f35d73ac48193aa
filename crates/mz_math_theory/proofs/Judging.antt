-- The first rule that a math string breaks.
use Rattle.std.proofs.Common.{◌≡◌, ◌<◌, ◌≤◌, ◌+◌, ◌∙◌, ℕ, List, [], length, Some, None, Option, ap, sym, refl, subst, inl, inr, arith}
use Rattle.mz_base.specs.Checks.{AllHold, FailsFirst}
use Rattle.mz_base.proofs.Offered.{all_hold-both, fails-before, fails-after}
use Rattle.mz_lex.specs.declared.rule.S.TheVariants as rules
use Rattle.mz_logic_theory.specs.Tree.{Tree}
use Rattle.mz_logic_theory.specs.View.{tree}
use Rattle.mz_logic_theory.specs.Declaration.{Declaration, signatures, sorts}
use Rattle.mz_logic_theory.specs.Modifiers.{MayBeClaimSort}
use Rattle.std.specs.Prelude.{IfSome, MatchOption, slice_get}
use Rattle.mz_logic_theory.specs.declared.binder.Binder.{Binder}
use Rattle.mz_lex.specs.MathTokens.{MathTokens, token_texts}
use Rattle.mz_lex.specs.declared.tokens.MathToken.{MathToken}
use Rattle.mz_math_theory.specs.declared.coercion.Coercion.{Coercion}
use Rattle.mz_math_theory.specs.Coercions.{IsPath, OnePath, Reaches, wrapped}
use Rattle.mz_math_theory.specs.Grammar.{Exp, tree_of}
use Rattle.mz_math_theory.specs.Meaning.{Wanted, provable, of_sort, Coerced, IsSettled, IsClaimed, IsGoal, height}
use Rattle.mz_math_theory.specs.Kept.{IsTable, AreVariables}
use Rattle.mz_math_theory.specs.Formula.{Reader, words, most, StandsFor, Means, Misreading, breaks, token_checks, known_checks, Misreads, IsParsed}
use Rattle.mz_math_theory.specs.CoercionAnswers.{HasLength}
use Rattle.mz_math_theory.specs.FormulaAnswers.{settled, IsMeant, IsJudged, IsFirstUnknown, IsClaimRead}
use Rattle.mz_math_theory.specs.declared.wanted.Parsed.{Parsed}
use Rattle.mz_math_theory.specs.declared.wanted.Parsed.TheVariants as parsed
use Rattle.mz_math_theory.proofs.Unique.{one-expression}
use Rattle.mz_math_theory.proofs.Readable.{table-readable}
use Rattle.mz_math_theory.proofs.OneMeaning.{coerced-one}
use Rattle.mz_math_theory.proofs.Meanings.{wrapped-height}
use Rattle.mz_math_theory.proofs.Paths.{length-one, path-reaches, last-end}

-- ---- before the whole's own rule

pub settled-there : (cs : List Coercion) → OnePath cs → (w : Wanted) (s : ℕ) (path : List ℕ) (f : Tree) → IsPath cs s path (settled w s) → IsSettled cs w f s (wrapped cs path f)
settled-there cs one (of_sort goal) s path f on = (path, on, refl)
settled-there cs one provable s path f on = ap (λ p. wrapped cs p f) (one s s path [] on refl)

pub settled-back : (cs : List Coercion) (w : Wanted) (s : ℕ) (f g : Tree) → IsSettled cs w f s g → (path : List ℕ) × IsPath cs s path (settled w s) × (g ≡ wrapped cs path f)
settled-back cs (of_sort goal) s f g (path, on, is) = (path, on, is)
settled-back cs provable s f g is = ([], refl, is)

pub exp-one : (r : Reader) → IsTable r.table → AreVariables r.scope.names → (t u : Tree) (tokens : List (List ℕ)) → Exp (words r) 0 t tokens → Exp (words r) 0 u tokens → t ≡ u
exp-one r is vs t u tokens (p, is_p, le_p, toks_p, tree_p) (q, is_q, le_q, toks_q, tree_q) =
    let right = table-readable r.table (signatures r.env) r.scope.names is vs in
    sym tree_p ∙ ap tree_of (one-expression (words r) right p q is_p is_q (toks_p ∙ sym toks_q)) ∙ tree_q

module _ (r : Reader) (w : Wanted) (is : IsTable r.table) (vs : AreVariables r.scope.names) (t : Tree) (tokens : List (List ℕ)) (few : length tokens ≤ most) (exp : Exp (words r) 0 t tokens) where
  abbrev cs : List Coercion
  cs = r.table.coercions

  abbrev Stands : Tree → ℕ → Type 0
  Stands f s = Coerced (signatures r.env) cs r.scope.binders t f s

  pub parts : (e : Tree) (s : ℕ) → StandsFor r w tokens e s → (f : Tree) × Stands f s × ((path : List ℕ) × IsPath cs s path (settled w s) × (e ≡ wrapped cs path f))
  parts e s (u, f, exp_u, coerced, settles) =
      (f, subst (λ x. Coerced (signatures r.env) cs r.scope.binders x f s) (exp-one r is vs u t tokens exp_u exp) coerced, settled-back cs w s f e settles)

  pub stands : (f : Tree) (s : ℕ) (path : List ℕ) → Stands f s → IsPath cs s path (settled w s) → StandsFor r w tokens (wrapped cs path f) s
  stands f s path coerced on = (t, f, exp, coerced, settled-there cs is.one_path w s path f on)

  pub no-sort : ((f : Tree) (s : ℕ) → Stands f s → ⊥) → FailsFirst (token_checks r w tokens) (breaks rules.NoCoercion)
  no-sort never = inr (few, inr ((t, exp), inl ((λ h. let p = parts h.0 h.1 h.2 in never p.0 h.1 p.1), refl)))

  pub same : (f g : Tree) (s q : ℕ) → Stands f s → Stands g q → (f ≡ g) × (s ≡ q)
  same f g s q a b = coerced-one (signatures r.env) cs r.scope.binders is.one_path t f g s q a b

  pub no-path : (f : Tree) (s : ℕ) → Stands f s → ((path : List ℕ) → IsPath cs s path (settled w s) → ⊥) → FailsFirst (token_checks r w tokens) (breaks rules.NoCoercion)
  no-path f s coerced never =
      inr (
        few,
        inr (
          (t, exp),
          inl (
            (λ h. let p = parts h.0 h.1 h.2 in
                never p.2.0 (subst (λ i. IsPath cs i p.2.0 (settled w i)) (sym (same f p.0 s h.1 coerced p.1).1) p.2.1)),
            refl,
          ),
        ),
      )

  heights : (f : Tree) (s many : ℕ) → Stands f s → HasLength cs (length cs) s (settled w s) many → (e : Tree) (q : ℕ) → StandsFor r w tokens e q → height e ≡ many + height f
  heights f s many coerced long e q stands_e =
      let p = parts e q stands_e in
      let both = same f p.0 s q coerced p.1 in
      let on = subst (λ i. IsPath cs i p.2.0 (settled w i)) (sym both.1) p.2.1 in
      ap height p.2.2 ∙ wrapped-height cs p.2.0 p.0 ∙ ap (λ n. n + height p.0) (length-one cs is.one_path s (settled w s) many p.2.0 long on) ∙ ap (λ x. many + height x) (sym both.0)

  pub too-high : (f : Tree) (s many : ℕ) → Stands f s → HasLength cs (length cs) s (settled w s) many → most < many + height f → FailsFirst (token_checks r w tokens) (breaks rules.Depth)
  too-high f s many coerced long high =
      inr (few, inr ((t, exp), inr ((wrapped cs long.0 f, s, stands f s long.0 coerced long.1), inl ((λ h. go h), refl))))
    where
      go : (e : Tree) × (q : ℕ) × StandsFor r w tokens e q × (height e ≤ most) → ⊥
      go (e, q, stands_e, low) = let h = heights f s many coerced long e q stands_e in absurd (omega (arith, h, high, low))

  module _ (f : Tree) (s : ℕ) (path : List ℕ) (coerced : Stands f s) (on : IsPath cs s path (settled w s)) (low : height (wrapped cs path f) ≤ most) where
    abbrev whole : Tree
    whole = wrapped cs path f

    meant : (e : Tree) (q : ℕ) → StandsFor r w tokens e q → (e ≡ whole) × (q ≡ s)
    meant e q stands_e =
        let p = parts e q stands_e in
        let both = same p.0 f q s p.1 coerced in
        let here = subst (λ i. IsPath cs i p.2.0 (settled w i)) both.1 p.2.1 in
        (p.2.2 ∙ ap (λ x. wrapped cs x p.0) (is.one_path s (settled w s) p.2.0 path here on) ∙ ap (wrapped cs path) both.0, both.1)

    first-hold : StandsFor r w tokens whole s
    first-hold = stands f s path coerced on

    pub no-claim : ((e : Tree) → IsClaimed r.env cs w whole s e → ⊥) → FailsFirst (token_checks r w tokens) (breaks rules.NotProvable)
    no-claim never =
        inr (few, inr ((t, exp), inr ((whole, s, first-hold), inr ((whole, s, first-hold, low), inl ((λ h. go h), refl)))))
      where
        go : (e : Tree) × Means r w tokens e → ⊥
        go (e, (g, q, stands_g, claimed)) =
            let both = meant g q stands_g in
            never e (subst (λ i. IsClaimed r.env cs w whole i e) both.1 (subst (λ x. IsClaimed r.env cs w x q e) both.0 claimed))

    pub claim : (e : Tree) → IsClaimed r.env cs w whole s e → AllHold (token_checks r w tokens) × Means r w tokens e
    claim e claimed =
        let means : Means r w tokens e = (whole, s, first-hold, claimed) in
        ((few, ((t, exp), ((whole, s, first-hold), ((whole, s, first-hold, low), ((e, means), tt))))), means)

    pub claim-read : (answer : Parsed) → IsClaimRead r.env cs w whole s answer → IsMeant r w tokens answer
    claim-read (parsed.Tree e) claimed = claim (tree e) claimed
    claim-read (parsed.Refused at rule) (never, at_is, rule_is) =
        subst (λ n. FailsFirst (token_checks r w tokens) (record { at = n; rule = rule })) (sym at_is)
        (subst (λ q. FailsFirst (token_checks r w tokens) (record { at = 0; rule = q })) (sym rule_is) (no-claim never))
    claim-read parsed.Mem claimed = tt

-- ---- the whole string

module _ (r : Reader) (w : Wanted) (text : List ℕ) (ps : List MathToken) (pieces : MathTokens r.table.delimiters text ps) where
  pub unknown-first : (at : ℕ) → IsFirstUnknown (words r) text ps (Some at) → Misreads r w text (record { at = at; rule = rules.MathToken })
  unknown-first at fails = (ps, pieces, fails-before (known_checks (words r) text ps) (token_checks r w (token_texts text ps)) (record { at = at; rule = rules.MathToken }) fails)

  pub known-then : AllHold (known_checks (words r) text ps) → (m : Misreading) → FailsFirst (token_checks r w (token_texts text ps)) m → Misreads r w text m
  known-then known m fails = (ps, pieces, fails-after (known_checks (words r) text ps) (token_checks r w (token_texts text ps)) m known fails)

  pub known-all : AllHold (known_checks (words r) text ps) → (answer : Parsed) → IsMeant r w (token_texts text ps) answer → IsParsed r w text answer
  known-all known (parsed.Tree e) (all, means) = (ps, pieces, all_hold-both (known_checks (words r) text ps) (token_checks r w (token_texts text ps)) known all, means)
  known-all known (parsed.Refused at rule) fails = known-then known (record { at = at; rule = rule }) fails
  known-all known parsed.Mem meant = tt

-- ---- by a list of coercions and a context that are those of the reader

module _ (r : Reader) (w : Wanted) (is : IsTable r.table) (vs : AreVariables r.scope.names) (t : Tree) (cs : List Coercion) (ctx : List Binder) (cs_is : cs ≡ r.table.coercions) (ctx_is : ctx ≡ r.scope.binders) where
  abbrev Has : Tree → ℕ → Type 0
  Has f s = Coerced (signatures r.env) cs ctx t f s

  into : (f : Tree) (s : ℕ) → Has f s → Coerced (signatures r.env) r.table.coercions r.scope.binders t f s
  into f s has = subst (λ (x : List Binder). Coerced (signatures r.env) r.table.coercions x t f s) ctx_is (subst (λ (x : List Coercion). Coerced (signatures r.env) x ctx t f s) cs_is has)

  out : (f : Tree) (s : ℕ) → Coerced (signatures r.env) r.table.coercions r.scope.binders t f s → Has f s
  out f s has = subst (λ (x : List Coercion). Coerced (signatures r.env) x ctx t f s) (sym cs_is) (subst (λ (x : List Binder). Coerced (signatures r.env) r.table.coercions x t f s) (sym ctx_is) has)

  path-into : (s to : ℕ) (path : List ℕ) → IsPath cs s path to → IsPath r.table.coercions s path to
  path-into s to path on = subst (λ (x : List Coercion). IsPath x s path to) cs_is on

  length-into : (s to n : ℕ) → HasLength cs (length cs) s to n → HasLength r.table.coercions (length r.table.coercions) s to n
  length-into s to n long = subst (λ (x : List Coercion). HasLength x (length x) s to n) cs_is long

  pub same-sort : (f g : Tree) (s q : ℕ) → Has f q → Has g s → Has f s
  same-sort f g s q has other =
      let one : OnePath cs = subst OnePath (sym cs_is) is.one_path in
      subst (λ i. Has f i) (coerced-one (signatures r.env) cs ctx one t f g q s has other).1 has

  pub judged-no-sort : (answer : Parsed) → answer ≡ parsed.Refused 0 rules.NoCoercion → ((f : Tree) (s : ℕ) → Has f s → ⊥) → IsJudged r w t answer
  judged-no-sort answer a_is never = subst (IsJudged r w t) (sym a_is) (λ tokens few exp. no-sort r w is vs t tokens few exp (λ f s has. never f s (out f s has)))

  pub judged-no-path : (answer : Parsed) → answer ≡ parsed.Refused 0 rules.NoCoercion → (f : Tree) (s : ℕ) → Has f s → (Reaches cs (length cs) s (settled w s) → ⊥) → IsJudged r w t answer
  judged-no-path answer a_is f s has never = subst (IsJudged r w t) (sym a_is)
      (λ tokens few exp. no-path r w is vs t tokens few exp f s (into f s has)
      (λ path on. never (subst (λ (x : List Coercion). Reaches x (length x) s (settled w s)) (sym cs_is) (path-reaches r.table.coercions is.one_path s (settled w s) path on))))

  pub judged-high : (answer : Parsed) → answer ≡ parsed.Refused 0 rules.Depth → (f : Tree) (s many : ℕ) → Has f s → HasLength cs (length cs) s (settled w s) many → ((g : Tree) (q : ℕ) → Has g q → most < many + height g) → IsJudged r w t answer
  judged-high answer a_is f s many has long high = subst (IsJudged r w t) (sym a_is)
      (λ tokens few exp. too-high r w is vs t tokens few exp f s many (into f s has) (length-into s (settled w s) many long) (high f s has))

  pub judged-claim : (answer : Parsed) (f : Tree) (s many : ℕ) (path : List ℕ) (e : Tree) → Has f s → HasLength cs (length cs) s (settled w s) many → IsPath cs s path (settled w s) → e ≡ wrapped cs path f → many + height f ≤ most
      → IsClaimRead r.env cs w e s answer → IsJudged r w t answer
  judged-claim answer f s many path e has long on e_is low claimed = λ tokens few exp.
      let on' = path-into s (settled w s) path on in
      let here : e ≡ wrapped r.table.coercions path f = e_is ∙ ap (λ (x : List Coercion). wrapped x path f) cs_is in
      let tall : height (wrapped r.table.coercions path f) ≡ many + height f =
      wrapped-height r.table.coercions path f ∙ ap (λ n. n + height f) (length-one r.table.coercions is.one_path s (settled w s) many path (length-into s (settled w s) many long) on') in
      claim-read r w is vs t tokens few exp f s path (into f s has) on' (omega (arith, tall, low)) answer
      (subst (λ x. IsClaimRead r.env r.table.coercions w x s answer) here (subst (λ (x : List Coercion). IsClaimRead r.env x w e s answer) cs_is claimed))

-- ---- the provable sort that is reached

pub goal-found : (env : List Declaration) (cs : List Coercion) → OnePath cs → (s : ℕ) → (MayBeClaimSort (sorts env) s → ⊥) → (found : Option ℕ)
    → ((j : ℕ) (d : Coercion) → slice_get cs j ≡ Some d → MayBeClaimSort (sorts env) d.to → (path : List ℕ) → IsPath cs s path d.to → found ≡ Some d.to)
    → IfSome found (λ g. MayBeClaimSort (sorts env) g × (path : List ℕ) × IsPath cs s path g)
    → MatchOption found ((goal : ℕ) (path : List ℕ) → IsGoal env cs s goal → IsPath cs s path goal → ⊥) (λ goal. IsGoal env cs s goal × Reaches cs (length cs) s goal)
goal-found env cs one s own None all some = go
  where
    go : (goal : ℕ) (path : List ℕ) → IsGoal env cs s goal → IsPath cs s path goal → ⊥
    go goal path (inl (same, claim)) on = own claim
    go goal path (inr (never, claim, only)) on = elim (last-end cs s goal path on) [
      | inl same ↦ own (subst (MayBeClaimSort (sorts env)) (sym same) claim)
      | inr found ↦ no-some (all found.0 found.1 found.2 (subst (MayBeClaimSort (sorts env)) (sym found.3) claim) path (subst (IsPath cs s path) (sym found.3) on))
    ]
      where
        no-some : {x : ℕ} → None ≡ Some x → ⊥
        no-some e = cc
goal-found env cs one s own (Some g) all (claim, way, there) = (inr (own, claim, (λ other path is on. go other path is on)), path-reaches cs one s g way there)
  where
    same-some : {x y : ℕ} → Some x ≡ Some y → y ≡ x
    same-some e = cc

    go : (other : ℕ) (path : List ℕ) → MayBeClaimSort (sorts env) other → IsPath cs s path other → other ≡ g
    go other path is on = elim (last-end cs s other path on) [
      | inl same ↦ absurd (own (subst (MayBeClaimSort (sorts env)) (sym same) is))
      | inr found ↦ sym found.3 ∙ same-some (all found.0 found.1 found.2 (subst (MayBeClaimSort (sorts env)) (sym found.3) is) path (subst (IsPath cs s path) (sym found.3) on))
    ]

-- Chains of statements.
use Rattle.std.proofs.Common.{◌≡◌, ◌∙◌, ◌⊎◌, ℕ, List, [], ◌∷◌, ◌++◌, refl, sym, ap, subst, inl, inr, append_assoc}
use Rattle.mz_logic_theory.specs.Declaration.{Declaration}
use Rattle.mz_logic_theory.specs.LegalLists.{Statement, declarations}
use Rattle.mz_binary_theory.specs.Chains.{Chain}

-- one statement more at the end
pub chain-more : (Step : List Declaration → ℕ → Statement → ℕ → Type 0) (env : List Declaration) (from : ℕ) (ss : List Statement) (env' : List Declaration) (mid : ℕ) (s : Statement) (to : ℕ)
    → Chain Step env from ss env' mid → Step env' mid s to → Chain Step env from (ss ++ s ∷ []) (env' ++ s.decl ∷ []) to
chain-more Step env from [] env' mid s to so_far here =
    (to, subst (λ e. Step e from s to) so_far.0 (subst (λ at. Step env' at s to) so_far.1 here), (ap (λ e. e ++ s.decl ∷ []) so_far.0, refl))
chain-more Step env from (t ∷ ts) env' mid s to so_far here =
    (so_far.0, so_far.1, chain-more Step (env ++ t.decl ∷ []) so_far.0 ts env' mid s to so_far.2 here)

-- the environment at the end is what the statements declare
pub chain-declares : (Step : List Declaration → ℕ → Statement → ℕ → Type 0) (env : List Declaration) (from : ℕ) (ss : List Statement) (env' : List Declaration) (to : ℕ)
    → Chain Step env from ss env' to → env' ≡ env ++ declarations ss
chain-declares Step env from [] env' to chain = chain.0 ∙ sym (append-nil env)
  where
    append-nil : (xs : List Declaration) → xs ++ [] ≡ xs
    append-nil [] = refl
    append-nil (x ∷ xs) = ap (λ ys. x ∷ ys) (append-nil xs)
chain-declares Step env from (s ∷ ss) env' to chain =
    chain-declares Step (env ++ s.decl ∷ []) chain.0 ss env' to chain.2 ∙ append_assoc env (s.decl ∷ []) (declarations ss)

-- another step in place of each
pub chain-weaker : (Step Other : List Declaration → ℕ → Statement → ℕ → Type 0) → ((env : List Declaration) (at : ℕ) (s : Statement) (next : ℕ) → Step env at s next → Other env at s next)
    → (env : List Declaration) (from : ℕ) (ss : List Statement) (env' : List Declaration) (to : ℕ) → Chain Step env from ss env' to → Chain Other env from ss env' to
chain-weaker Step Other weaker env from [] env' to chain = chain
chain-weaker Step Other weaker env from (s ∷ ss) env' to chain =
    (chain.0, weaker env from s chain.0 chain.1, chain-weaker Step Other weaker (env ++ s.decl ∷ []) chain.0 ss env' to chain.2)

-- ---- two chains from one place

-- a statement follows there
abbrev pub GoesOn : (List Declaration → ℕ → Statement → ℕ → Type 0) → List Declaration → ℕ → Type 0
GoesOn Step env at = (s : Statement) × (next : ℕ) × Step env at s next

pub record AreSame (ss ts : List Statement) (env env' : List Declaration) (to to' : ℕ) : Type 0 where
  pub statements : ss ≡ ts
  pub declared : env ≡ env'
  pub place : to ≡ to'

abbrev pub Compared : (List Declaration → ℕ → Statement → ℕ → Type 0) → List Statement → List Statement → List Declaration → List Declaration → ℕ → ℕ → Type 0
Compared Step ss ts env env' to to' = AreSame ss ts env env' to to' ⊎ (GoesOn Step env to ⊎ GoesOn Step env' to')

module _ (Step : List Declaration → ℕ → Statement → ℕ → Type 0)
    (one : (env : List Declaration) (at : ℕ) (s t : Statement) (next next' : ℕ) → Step env at s next → Step env at t next' → (s ≡ t) × (next ≡ next')) where
  more-same : (s t : Statement) (ss ts : List Statement) (env env' : List Declaration) (to to' : ℕ) → s ≡ t → Compared Step ss ts env env' to to' → Compared Step (s ∷ ss) (t ∷ ts) env env' to to'
  more-same s t ss ts env env' to to' e (inl same) =
      inl (record { statements = ap (λ x. x ∷ ss) e ∙ ap (λ xs. t ∷ xs) same.statements; declared = same.declared; place = same.place })
  more-same s t ss ts env env' to to' e (inr on) = inr on

  -- they are the same, or one of them ends where the other goes on
  pub compare : (start : List Declaration) (from : ℕ) (ss ts : List Statement) (env env' : List Declaration) (to to' : ℕ)
      → Chain Step start from ss env to → Chain Step start from ts env' to' → Compared Step ss ts env env' to to'
  compare start from [] [] env env' to to' a b = inl (record { statements = refl; declared = a.0 ∙ sym b.0; place = a.1 ∙ sym b.1 })
  compare start from [] (t ∷ ts) env env' to to' a b =
      inr (inl (t, b.0, subst (λ e. Step e to t b.0) (sym a.0) (subst (λ at. Step start at t b.0) (sym a.1) b.1)))
  compare start from (s ∷ ss) [] env env' to to' a b =
      inr (inr (s, a.0, subst (λ e. Step e to' s a.0) (sym b.0) (subst (λ at. Step start at s a.0) (sym b.1) a.1)))
  compare start from (s ∷ ss) (t ∷ ts) env env' to to' a b =
      let first = one start from s t a.0 b.0 a.1 b.1 in
      more-same s t ss ts env env' to to' first.0
      (compare (start ++ s.decl ∷ []) a.0 ss ts env env' to to' a.2
      (subst (λ next. Chain Step (start ++ s.decl ∷ []) next ts env' to') (sym first.1) (subst (λ x. Chain Step (start ++ x.decl ∷ []) b.0 ts env' to') (sym first.0) b.2)))

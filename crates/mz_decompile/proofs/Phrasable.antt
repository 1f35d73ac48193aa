-- Restated statements can be read of the phrases that state them, and are within the compiler's limits.
use Rattle.std.proofs.Common.{◌≡◌, ◌≤◌, ◌+◌, ◌∙◌, ◌++◌, ℕ, suc, Bool, true, false, cond, List, [], ◌∷◌, length, map, Ok, refl, sym, ap, subst, arith}
use Rattle.std.specs.Prelude.{count_by}
use Rattle.std.proofs.lemmas.List.Sums.{sum_by-cons}
use Rattle.mz_base.specs.Checks.{AllHold}
use Rattle.mz_cmd.specs.declared.statement.StmtAt.TheVariants.{Head}
use Rattle.mz_cmd.specs.StatementList.{statement_at}
use Rattle.mz_sexpr.specs.Node.{depth_limit}
use Rattle.mz_logic_theory.specs.Declaration.{Declaration}
use Rattle.mz_logic_theory.specs.Legality.{IsLegalDecl, IsLegalEnv}
use Rattle.mz_logic_theory.specs.LegalLists.{Statement as Marked, MayBeLocal, LegalAfter, gap_free}
use Rattle.mz_logic_theory.specs.declared.binder.Binder.{Binder}
use Rattle.mz_mmu_theory.specs.Name.{Names, IsName, names_with}
use Rattle.mz_mmu_theory.specs.Statements.{Statement}
use Rattle.mz_mmu_theory.specs.Meaning.{marked}
use Rattle.mz_mmu_theory.specs.Weight.{parameter_limit, bound_limit, params_of, parameter_count, bound_count as bound_in, each_within}
use Rattle.mz_machine_theory.specs.MachineState.{Declares}
use Rattle.mz_machine_theory.specs.Premises.{bound_count}
use Rattle.mz_machine_theory.specs.FileRows.{taken_by, rows_taken}
use Rattle.mz_binary_theory.specs.Chains.{IsGoodStatement, GoodTo}
use Rattle.mz_binary_theory.specs.Standards.{strict_standard}
use Rattle.mz_binary_theory.proofs.Offered.{head-at}
use Rattle.mz_trace.specs.Laws.{MadeProofsProve}
use Rattle.mz_decompile_text.specs.Phrases.{depth}
use Rattle.mz_decompile_text.specs.Phrasing.{Vocabulary, statement}
use Rattle.mz_decompile_text.specs.Phrasable.{HasNewName, IsPhrasable, ArePhrasableAfter}
use Rattle.mz_decompile.specs.Laws.{AreBytes}
use Rattle.mz_decompile.specs.Restated.{IsProofMade, IsRestated, AreRestated, depth_checks}
use Rattle.mz_decompile.proofs.Theorems.{one-more}
use Rattle.mz_decompile.proofs.Titles.{AreTitled}
use Rattle.mz_decompile.proofs.Stated.{IsStated, stated}

-- ---- the statements are the binary's, under the names

pub restated-marked : (file : List ℕ) (env : List Declaration) (at : ℕ) (ss : List Marked) (names : List (List ℕ)) (ts : List Statement) → AreRestated file env at ss names ts
    → (marked ts ≡ ss) × (map (λ t. t.name) ts ≡ names)
restated-marked file env at [] [] [] are = (refl, refl)
restated-marked file env at (s ∷ ss) (name ∷ names) (t ∷ ts) (next, is, are) =
    let (statements, named) = restated-marked file (env ++ s.decl ∷ []) next ss names ts are in (
      ap (λ (l : Bool). record { is_local = l; decl = t.decl } ∷ marked ts) is.mark
          ∙ ap (λ (d : Declaration). record { is_local = s.is_local; decl = d } ∷ marked ts) is.declares
          ∙ ap (λ (xs : List Marked). s ∷ xs) statements,
      ap (λ (x : List ℕ). x ∷ map (λ t. t.name) ts) is.named ∙ ap (λ (xs : List (List ℕ)). name ∷ xs) named,
    )
restated-marked file env at [] [] (t ∷ ts) are = absurd are
restated-marked file env at [] (name ∷ names) ts are = absurd are
restated-marked file env at (s ∷ ss) [] ts are = absurd are
restated-marked file env at (s ∷ ss) (name ∷ names) [] are = absurd are

-- each takes a byte
pub statements-few : (file : List ℕ) (env : List Declaration) (from : ℕ) (ss : List Marked) (env' : List Declaration) (to : ℕ)
    → GoodTo strict_standard file env from ss env' to → from ≤ length file
    → from + length ss ≤ length file
statements-few file env from [] env' to chain within = omega (arith, within)
statements-few file env from (s ∷ ss) env' to (next, good, rest) within =
    let head = head-at file from good.spelled.code good.spelled.body next good.spelled.stands in
    let rest-few = statements-few file (env ++ s.decl ∷ []) next ss env' to rest head.within in
    omega (arith, head.further, rest-few)

-- ---- bound variables, counted in either way

count-bound : (bs : List Binder) → count_by (λ b. b.bound) bs ≡ bound_count bs
count-bound [] = refl
count-bound (b ∷ bs) = sum_by-cons (λ (x : Binder). cond x.bound 1 0) b bs ∙ go b.bound (count-bound bs)
  where
    go : (t : Bool) → count_by (λ b. b.bound) bs ≡ bound_count bs → cond t 1 0 + count_by (λ b. b.bound) bs ≡ cond t (suc (bound_count bs)) (bound_count bs)
    go true e = omega (arith, e)
    go false e = omega (arith, e)

-- ---- along the list

abbrev pub AreWithin : List Statement → Type 0
AreWithin ts = AllHold (each_within parameter_limit parameter_count 65535 ts) × AllHold (each_within bound_limit bound_in 55 ts)

module _ (law : MadeProofsProve) (file : List ℕ) (bytes : AreBytes file) (n : ℕ) (room : 65590 ≤ n) (small : length file ≤ n) (v : Vocabulary) where
  -- the place behind a statement is one place
  same-head : (at code body next code' body' next' : ℕ) → statement_at file at ≡ Ok (Head code body next) → statement_at file at ≡ Ok (Head code' body' next')
      → (body ≡ body') × (next ≡ next')
  same-head at code body next code' body' next' e f =
      let both : Ok (Head code body next) ≡ Ok (Head code' body' next') = sym e ∙ f in
      let same : body ≡ body' = cc in
      (same, cc)

  module _ (env : List Declaration) (legal : IsLegalEnv env) (declares : Declares (rows_taken file (taken_by env)) env) (at : ℕ) (s : Marked) (next : ℕ)
      (good : IsGoodStatement strict_standard file env at s next) where
    one-stated : (next' : ℕ) (name : List ℕ) (t : Statement) → IsRestated file env at s next' name t → IsStated n env t.decl t.dummies t.proof
    one-stated next' name t is =
        let (body, place) = same-head at is.code is.body next' good.spelled.code good.spelled.body next is.stands good.spelled.stands in
        subst (λ (d : Declaration). IsStated n env d t.dummies t.proof) (sym is.declares)
        (stated law file bytes n room small env legal declares at s next good t.dummies t.proof
        (subst (λ x. IsProofMade file env good.spelled.body x s.decl t.dummies t.proof) place (subst (λ x. IsProofMade file env x next' s.decl t.dummies t.proof) body is.proof)))

  one-phrasable : (env : List Declaration) (names : Names) (t : Statement) → IsStated n env t.decl t.dummies t.proof → IsLegalDecl env t.decl → (t.is_local ≡ true → MayBeLocal t.decl)
      → IsName t.name → HasNewName v n env names t.name t.decl → depth (statement v t) ≤ depth_limit → IsPhrasable v n env names t
  one-phrasable env names t is legal mark name new low = record {
    identifier = name;
    new = new;
    legal = (legal, mark, is.proved);
    finished = is.finished;
    within = is.within;
    low = low;
  }

  bound-within : (env : List Declaration) (t : Statement) → IsStated n env t.decl t.dummies t.proof → bound_in t ≤ 55
  bound-within env t is = omega (arith, is.few_bound, count-bound (params_of t.decl))

  pub all-phrasable : (env : List Declaration) (from : ℕ) (ss : List Marked) (env' : List Declaration) (to : ℕ) (given : List (List ℕ)) (ts : List Statement) (names : Names) (k : ℕ)
      → GoodTo strict_standard file env from ss env' to → LegalAfter gap_free env ss → IsLegalEnv env → Declares (rows_taken file (taken_by env)) env
      → AreRestated file env from ss given ts → AreTitled v n env names ts → AllHold (depth_checks v k ts)
      → ArePhrasableAfter v n env names ts × AreWithin ts
  all-phrasable env from [] env' to [] [] names k chain laws legal declares are titled low = (tt, (tt, tt))
  all-phrasable env from (s ∷ ss) env' to (name ∷ given) (t ∷ ts) names k (next, good, rest) ((lawful, mark, _), laws) legal declares (next', is, are) (named, new, titled) (low, lower) =
      let (more-legal, more-declared) = one-more file env from s next good legal declares in
      let st = one-stated env legal declares from s next good next' name t is in
      let place = (same-head from is.code is.body next' good.spelled.code good.spelled.body next is.stands good.spelled.stands).1 in
      let (phrasable, (params, bound)) = all-phrasable (env ++ s.decl ∷ []) next ss env' to given ts (names_with names t.name t.decl) (suc k) rest laws more-legal more-declared
      (subst (λ x. AreRestated file (env ++ s.decl ∷ []) x ss given ts) place are)
      (subst (λ (d : Declaration). AreTitled v n (env ++ d ∷ []) (names_with names t.name t.decl) ts) is.declares titled) lower in (
        (
          one-phrasable env names t st (subst (IsLegalDecl env) (sym is.declares) lawful)
              (λ local. subst MayBeLocal (sym is.declares) (mark (sym is.mark ∙ local))) named new low,
          subst (λ (d : Declaration). ArePhrasableAfter v n (env ++ d ∷ []) (names_with names t.name t.decl) ts) (sym is.declares) phrasable,
        ),
        ((st.few_params, params), (bound-within env t st, bound)),
      )
  all-phrasable env from [] env' to [] (t ∷ ts) names k chain laws legal declares are titled low = absurd are
  all-phrasable env from [] env' to (name ∷ given) ts names k chain laws legal declares are titled low = absurd are
  all-phrasable env from (s ∷ ss) env' to [] ts names k chain laws legal declares are titled low = absurd are
  all-phrasable env from (s ∷ ss) env' to (name ∷ given) [] names k chain laws legal declares are titled low = absurd are

-- Two files are accepted or have a first refusal.
use Rattle.std.proofs.Common.{◌≡◌, ◌⊎◌, ◌+◌, ◌∙◌, ℕ, Bool, true, false, List, [], ◌∷◌, ◌++◌, length, refl, sym, ap, ap₂, subst, inl, inr, append_assoc}
use Rattle.std.specs.Prelude.{◌==◌, if◌then◌else◌}
use Rattle.std.proofs.lemmas.Bool.{cases_eq}
use Rattle.std.proofs.lemmas.List.{append-nil}
use Rattle.mz_base.specs.Checks.{AreDecided}
use Rattle.mz_base.proofs.Offered.{all_hold-or_fails, bytes-decided}
use Rattle.mz_cmd.specs.declared.rule.Refusal.{Refusal}
use Rattle.mz_logic_theory.specs.Declaration.{Declaration, sort_decl, term_decl, assertion_decl, Assertion, Form, plain_form, abstract_form, defined}
use Rattle.mz_logic_theory.specs.declared.binder.Binder.{Binder}
use Rattle.mz_logic_theory.specs.declared.binder.ResultType.{ResultType}
use Rattle.mz_logic_theory.specs.declared.binder.SortMods.{SortMods}
use Rattle.mz_logic_theory.specs.LegalLists.{Statement}
use Rattle.mz_layout_tables.specs.Layout.{Layout}
use Rattle.mz_layout_tables.specs.Tables.{list_at}
use Rattle.mz_binary_theory.specs.Chains.{IsGoodStatement, GoodTo}
use Rattle.mz_binary_theory.specs.Good.{Good, FailsAfter, BinaryFault}
use Rattle.mz_binary_theory.proofs.Offered.{chain-more, good-or-fault}
use Rattle.mz_spec_theory.specs.Spec.{SpecOf, SpecMakes, SpecFault}
use Rattle.mz_spec_theory.specs.State.{Entry, env_of}
use Rattle.mz_spec_theory.specs.declared.spec_refusal.SpecRefusal.{SpecRefusal}
use Rattle.mz_spec_theory.proofs.Offered.{one-of-both}
use Rattle.mz_spec_proved_theory.specs.declared.kind.Kind.{Kind}
use Rattle.mz_spec_proved_theory.specs.declared.kind.Kind.TheVariants as kinds
use Rattle.mz_spec_proved_theory.specs.declared.rule.M.{M}
use Rattle.mz_spec_proved_theory.specs.declared.rule.M.TheVariants as rules
use Rattle.mz_match_theory.specs.declared.verdict.Counts.{Counts}
use Rattle.mz_match_theory.specs.declared.verdict.Verdict.{Verdict}
use Rattle.mz_match_theory.specs.declared.verdict.Verdict.TheVariants as verdicts
use Rattle.mz_spec_proved_theory.specs.Match.{Partner, partner_of, publics, number_of, kind_of, form_checks, assertion_checks, part_checks, Agrees, Leaves, partner_checks}
use Rattle.mz_match_theory.specs.Verdict.{counts_of, AcceptsWithBy, MatchFails, FirstRefusalBy}
use Rattle.mz_spec_proved_theory.proofs.Offered.{same-tree-decided, same-trees-decided, same-body-decided, leaves-nothing, leaves-local, leaves-public, partner-there}
use Rattle.mz_binary_theory.specs.Standards.{Standard}

-- ---- whether a declaration and its partner agree can be found out

abbrev kind_numbered : ℕ → Kind
kind_numbered n = if n == 0 then kinds.Sort else (if n == 1 then kinds.Term else (if n == 2 then kinds.Axiom else (if n == 3 then kinds.Definition else kinds.Theorem)))

numbered : (k : Kind) → kind_numbered (number_of k) ≡ k
numbered kinds.Sort = refl
numbered kinds.Term = refl
numbered kinds.Axiom = refl
numbered kinds.Definition = refl
numbered kinds.Theorem = refl

kind-decided : (k l : Kind) → (k ≡ l) ⊎ (k ≡ l → ⊥)
kind-decided k l = elim (cases_eq (number_of k) (number_of l)) [
  | inl same ↦ inl (sym (numbered k) ∙ ap kind_numbered same ∙ numbered l)
  | inr differ ↦ inr (λ same. differ (ap number_of same))
]

mods-decided : (m n : SortMods) → (m ≡ n) ⊎ (m ≡ n → ⊥)
mods-decided m n = elim (cases_eq m.0 n.0) [
  | inl same ↦ inl (ap (λ x. record { 0 = x }) same)
  | inr differ ↦ inr (λ same. differ (ap (λ (x : SortMods). x.0) same))
]

list-decided : {A : Type 0} → ((x y : A) → (x ≡ y) ⊎ (x ≡ y → ⊥)) → (xs ys : List A) → (xs ≡ ys) ⊎ (xs ≡ ys → ⊥)
list-decided one [] [] = inl refl
list-decided one [] (y ∷ ys) = inr (λ e. cc)
list-decided one (x ∷ xs) [] = inr (λ e. cc)
list-decided one (x ∷ xs) (y ∷ ys) = go (one x y) (list-decided one xs ys)
  where
    go : (x ≡ y) ⊎ (x ≡ y → ⊥) → (xs ≡ ys) ⊎ (xs ≡ ys → ⊥) → (x ∷ xs ≡ y ∷ ys) ⊎ (x ∷ xs ≡ y ∷ ys → ⊥)
    go (inl a) (inl b) = inl (ap₂ ◌∷◌ a b)
    go (inr out) rest = inr (λ e. out (let heads : x ≡ y = cc in heads))
    go (inl a) (inr out) = inr (λ e. out (let tails : xs ≡ ys = cc in tails))

bool-same : (b c : Bool) → (b ≡ c) ⊎ (b ≡ c → ⊥)
bool-same true true = inl refl
bool-same true false = inr (λ e. cc)
bool-same false true = inr (λ e. cc)
bool-same false false = inl refl

binder-decided : (b c : Binder) → (b ≡ c) ⊎ (b ≡ c → ⊥)
binder-decided b c = go (cases_eq b.sort c.sort) (bool-same b.bound c.bound) (bytes-decided b.deps c.deps)
  where
    go : (b.sort ≡ c.sort) ⊎ (b.sort ≡ c.sort → ⊥) → (b.bound ≡ c.bound) ⊎ (b.bound ≡ c.bound → ⊥) → (b.deps ≡ c.deps) ⊎ (b.deps ≡ c.deps → ⊥) → (b ≡ c) ⊎ (b ≡ c → ⊥)
    go (inl s) (inl t) (inl u) =
        inl (ap (λ x. record { sort = x; bound = b.bound; deps = b.deps }) s ∙ ap (λ x. record { sort = c.sort; bound = x; deps = b.deps }) t ∙ ap (λ x. record { sort = c.sort; bound = c.bound; deps = x }) u)
    go (inr out) t u = inr (λ e. out (ap (λ (x : Binder). x.sort) e))
    go (inl s) (inr out) u = inr (λ e. out (ap (λ (x : Binder). x.bound) e))
    go (inl s) (inl t) (inr out) = inr (λ e. out (ap (λ (x : Binder). x.deps) e))

result-decided : (r t : ResultType) → (r ≡ t) ⊎ (r ≡ t → ⊥)
result-decided r t = go (cases_eq r.sort t.sort) (bytes-decided r.deps t.deps)
  where
    go : (r.sort ≡ t.sort) ⊎ (r.sort ≡ t.sort → ⊥) → (r.deps ≡ t.deps) ⊎ (r.deps ≡ t.deps → ⊥) → (r ≡ t) ⊎ (r ≡ t → ⊥)
    go (inl s) (inl u) = inl (ap (λ x. record { sort = x; deps = r.deps }) s ∙ ap (λ x. record { sort = t.sort; deps = x }) u)
    go (inr out) u = inr (λ e. out (ap (λ (x : ResultType). x.sort) e))
    go (inl s) (inr out) = inr (λ e. out (ap (λ (x : ResultType). x.deps) e))

assertion-decided : (rows : List ℕ) (a b : Assertion) → AreDecided (assertion_checks rows a b)
assertion-decided rows a b =
    (list-decided binder-decided a.params b.params, λ _. (same-trees-decided rows a.hyps b.hyps, λ _. (same-tree-decided rows a.conclusion b.conclusion, λ _. tt)))

form-decided : (rows : List ℕ) (n : ℕ) (f g : Form) → AreDecided (form_checks rows n f g)
form-decided rows n plain_form g = tt
form-decided rows n abstract_form g = tt
form-decided rows n (defined ds b) plain_form = (inr (λ h. h), λ _. tt)
form-decided rows n (defined ds b) abstract_form = (inr (λ h. h), λ _. tt)
form-decided rows n (defined ds b) (defined es c) = (same-body-decided rows n ds es b c, λ _. tt)

part-decided : (rows : List ℕ) (d p : Declaration) → AreDecided (part_checks rows d p)
part-decided rows (sort_decl m) (sort_decl n) = (mods-decided m n, λ _. tt)
part-decided rows (sort_decl m) (term_decl e) = tt
part-decided rows (sort_decl m) (assertion_decl b) = tt
part-decided rows (term_decl d) (sort_decl n) = tt
part-decided rows (term_decl d) (term_decl e) =
    (list-decided binder-decided d.signature.params e.signature.params, λ _. (result-decided d.signature.result e.signature.result, λ _. form-decided rows (length d.signature.params) d.form e.form))
part-decided rows (term_decl d) (assertion_decl b) = tt
part-decided rows (assertion_decl a) (sort_decl n) = tt
part-decided rows (assertion_decl a) (term_decl e) = tt
part-decided rows (assertion_decl a) (assertion_decl b) = assertion-decided rows a b

partner-decided : (left : List Declaration) (p : Partner) → AreDecided (partner_checks left p)
partner-decided [] p = (inr (λ h. h), λ _. tt)
partner-decided (d ∷ left) p = (kind-decided (kind_of d) (kind_of p.decl), λ _. part-decided p.rows d p.decl)

module _ (standard : Standard) where
  -- ---- along good statements

  -- their public ones agree with the first declarations, or one of them differs
  abbrev pub Walked : List ℕ → List Declaration → List Statement → Type 0
  Walked bin ds ss = ((left : List Declaration) × Leaves ds ss left) ⊎ ((d : ℕ) × (s : ℕ) × (rule : M) × MatchFails standard bin ds d s rule)

  module _ (bin : List ℕ) (layout : Layout bin) (ds : List Declaration) where
    -- a statement is local or public
    mark : (s : Statement) → (s.is_local ≡ true) ⊎ (s.is_local ≡ false)
    mark s = by s.is_local
      where
        by : (b : Bool) → (b ≡ true) ⊎ (b ≡ false)
        by true = inl refl
        by false = inr refl

    walk : (before : List Statement) (env : List Declaration) (at : ℕ) (ss : List Statement) (env' : List Declaration) (to : ℕ) (left : List Declaration)
        → GoodTo standard bin [] (list_at bin) before env at → Leaves ds before left → GoodTo standard bin env at ss env' to → Walked bin ds (before ++ ss)
    walk before env at [] env' to left passed leaves chain = subst (Walked bin ds) (sym (append-nil before)) (inl (left, leaves))
    walk before env at (s ∷ ss) env' to left passed leaves chain =
        let go : (rest : List Declaration) → Leaves ds (before ++ s ∷ []) rest → Walked bin ds ((before ++ s ∷ []) ++ ss) = λ rest more.
        walk (before ++ s ∷ []) (env ++ s.decl ∷ []) chain.0 ss env' to rest (chain-more (IsGoodStatement standard bin) [] (list_at bin) before env at s chain.0 passed chain.1) more chain.2 in
        subst (Walked bin ds) (append_assoc before (s ∷ []) ss) (elim (mark s) [
          | inl is_local ↦ go left (leaves-local ds left before s is_local leaves)
          | inr is_public ↦ elim (all_hold-or_fails (partner_checks left (partner_of before s)) (partner-decided left (partner_of before s))) [
            | inl agrees ↦ (
                let there = partner-there left (partner_of before s) agrees in
                go there.1 (leaves-public ds there.1 there.0 before s is_public there.3 (subst (Leaves ds before) there.2 leaves)))
            | inr fails ↦ inr (
              length (publics before) + 1,
              length before + 1,
              fails.0,
              record {
                layout = layout;
                before = before;
                env = env;
                at = at;
                left = left;
                statements = passed;
                leaves = leaves;
                declaration_is = refl;
                statement_is = refl;
                fails = inr (s, chain.0, chain.1, is_public, fails.1);
              },
            )
          ]
        ])

    pub walked : (ss : List Statement) (env : List Declaration) (to : ℕ) → GoodTo standard bin [] (list_at bin) ss env to → Walked bin ds ss
    walked ss env to chain = walk [] [] (list_at bin) ss env to ds (refl, refl) (leaves-nothing ds) chain

  -- ---- either

  abbrev pub Either : List ℕ → List ℕ → Type 0
  Either spec bin = ((counts : Counts) × AcceptsWithBy standard spec bin counts) ⊎ ((verdict : Verdict) × FirstRefusalBy standard spec bin verdict)

  module _ (spec bin : List ℕ) (ds : List Declaration) (is_spec : SpecOf spec ds) where
    differs : (d s : ℕ) (rule : M) → MatchFails standard bin ds d s rule → Either spec bin
    differs d s rule fails = inr (verdicts.Match d s rule, (ds, is_spec, fails))

    -- at a good end
    at-end : (ss : List Statement) (left : List Declaration) → Good standard bin ss → Leaves ds ss left → Either spec bin
    at-end ss [] good leaves = inl (
      counts_of ds,
      (
        record {
          declared = ds;
          statements = ss;
          is_spec = is_spec;
          is_good = good;
          agrees = subst (λ xs. Agrees xs (publics ss)) (sym (leaves.all ∙ append-nil leaves.done)) leaves.agrees;
        },
        refl,
      ),
    )
    at-end ss (d ∷ left) good leaves = differs (length (publics ss) + 1) (length ss + 1) rules.Missing (record {
      layout = good.layout;
      before = ss;
      env = good.env;
      at = good.to;
      left = d ∷ left;
      statements = good.statements;
      leaves = leaves;
      declaration_is = refl;
      statement_is = refl;
      fails = inl (good.ends, inl (λ none. absurd cc, refl));
    })

    over-good : (ss : List Statement) → Good standard bin ss → Walked bin ds ss → Either spec bin
    over-good ss good (inl (left, leaves)) = at-end ss left good leaves
    over-good ss good (inr (d, s, rule, fails)) = differs d s rule fails

    over-fault : (ss : List Statement) (env : List Declaration) (at : ℕ) (r : Refusal) → FailsAfter standard bin ss env at r → Walked bin ds ss → Either spec bin
    over-fault ss env at r fault (inl (left, leaves)) = inr (verdicts.Binary r, (ds, is_spec, inr (ss, env, at, left, fault, leaves)))
    over-fault ss env at r fault (inr (d, s, rule, fails)) = differs d s rule fails

    over-binary : ((ss : List Statement) × Good standard bin ss) ⊎ ((r : Refusal) × BinaryFault standard bin r) → Either spec bin
    over-binary (inl (ss, good)) = over-good ss good (walked bin good.layout ds ss good.env good.to good.statements)
    over-binary (inr (r, inl layout)) = inr (verdicts.Binary r, (ds, is_spec, inl layout))
    over-binary (inr (r, inr (ss, env, at, fault))) = over-fault ss env at r fault (walked bin fault.layout ds ss env at fault.statements)

  over-spec : (spec bin : List ℕ) → ((entries : List Entry) × SpecMakes spec entries) ⊎ ((r : SpecRefusal) × SpecFault spec r) → Either spec bin
  over-spec spec bin (inl (entries, makes)) = over-binary spec bin (env_of entries) (entries, makes, refl) (good-or-fault standard bin)
  over-spec spec bin (inr (r, fault)) = inr (verdicts.Spec r, fault)

  pub verdict-or-refusal : (spec bin : List ℕ) → Either spec bin
  verdict-or-refusal spec bin = over-spec spec bin (one-of-both spec)

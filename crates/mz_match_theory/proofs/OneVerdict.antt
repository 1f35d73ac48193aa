-- Two files have one verdict at most.
use Rattle.std.proofs.Common.{◌≡◌, ◌⊎◌, ◌+◌, ◌∙◌, ℕ, false, List, [], ◌∷◌, ◌++◌, length, Ok, refl, sym, ap, subst, inl, inr}
use Rattle.std.proofs.lemmas.List.{append-nil}
use Rattle.mz_base.specs.Checks.{AllHold, FailsFirst}
use Rattle.mz_base.proofs.Offered.{all_hold-excludes, fails_first-unique}
use Rattle.mz_cmd.specs.declared.rule.K.{K}
use Rattle.mz_cmd.specs.declared.rule.Refusal.{Refusal}
use Rattle.mz_cmd.specs.declared.statement.StmtAt.TheVariants.{End, Head}
use Rattle.mz_logic_theory.specs.Declaration.{Declaration}
use Rattle.mz_logic_theory.specs.LegalLists.{Statement}
use Rattle.mz_layout_tables.specs.Layout.{Layout, layout_checks}
use Rattle.mz_layout_tables.specs.Tables.{list_at}
use Rattle.mz_binary_theory.specs.Checking.{list_checks}
use Rattle.mz_binary_theory.specs.Chains.{IsGoodStatement, GoodTo, EndsAt}
use Rattle.mz_binary_theory.proofs.Offered.{one-good}
use Rattle.mz_spec_theory.specs.Spec.{SpecOf, SpecFault}
use Rattle.mz_spec_theory.specs.State.{env_of}
use Rattle.mz_spec_theory.specs.declared.spec_refusal.SpecRefusal.{SpecRefusal}
use Rattle.mz_spec_theory.proofs.Offered.{one-reading, one-fault, not-both}
use Rattle.mz_spec_proved_theory.specs.declared.rule.M.{M}
use Rattle.mz_match_theory.specs.declared.verdict.Counts.{Counts}
use Rattle.mz_match_theory.specs.declared.verdict.Verdict.{Verdict}
use Rattle.mz_match_theory.specs.declared.verdict.Verdict.TheVariants as verdicts
use Rattle.mz_spec_proved_theory.specs.Match.{partner_of, publics_after, publics, match_checks, Agrees, Leaves, partner_checks, end_checks}
use Rattle.mz_match_theory.specs.Verdict.{counts_of, AcceptsBy, AcceptsWith, AcceptsWithBy, BinaryFails, Differs, MatchFails, FirstRefusal, FirstRefusalBy, IsVerdictBy}
use Rattle.mz_spec_proved_theory.proofs.Offered.{publics-append, publics-public, left-same, left-next}
use Rattle.mz_binary_theory.specs.Standards.{Standard, strict_standard}

module _ (standard : Standard) where
  -- ---- two chains from one place

  pub record AreSame (ss ts : List Statement) (env env' : List Declaration) (to to' : ℕ) : Type 0 where
    pub statements : ss ≡ ts
    pub declared : env ≡ env'
    pub place : to ≡ to'

  -- the longer list goes on with a statement where the shorter one ends
  pub record GoesOn (file : List ℕ) (ss ts : List Statement) (env : List Declaration) (to : ℕ) : Type 0 where
    pub statement : Statement
    pub next : ℕ
    pub more : List Statement
    pub longer : ts ≡ ss ++ statement ∷ more
    pub good : IsGoodStatement standard file env to statement next

  abbrev pub Compared : List ℕ → List Statement → List Statement → List Declaration → List Declaration → ℕ → ℕ → Type 0
  Compared file ss ts env env' to to' = AreSame ss ts env env' to to' ⊎ (GoesOn file ss ts env to ⊎ GoesOn file ts ss env' to')

  more-same : (file : List ℕ) (s t : Statement) (ss ts : List Statement) (env env' : List Declaration) (to to' : ℕ) → s ≡ t → Compared file ss ts env env' to to' → Compared file (s ∷ ss) (t ∷ ts) env env' to to'
  more-same file s t ss ts env env' to to' e (inl same) =
      inl (record { statements = ap (λ x. x ∷ ss) e ∙ ap (λ xs. t ∷ xs) same.statements; declared = same.declared; place = same.place })
  more-same file s t ss ts env env' to to' e (inr (inl on)) =
      inr (inl (record { statement = on.statement; next = on.next; more = on.more; longer = ap (λ xs. t ∷ xs) on.longer ∙ ap (λ x. x ∷ (ss ++ on.statement ∷ on.more)) (sym e); good = on.good }))
  more-same file s t ss ts env env' to to' e (inr (inr on)) =
      inr (inr (record { statement = on.statement; next = on.next; more = on.more; longer = ap (λ xs. s ∷ xs) on.longer ∙ ap (λ x. x ∷ (ts ++ on.statement ∷ on.more)) e; good = on.good }))

  compare : (file : List ℕ) (start : List Declaration) (from : ℕ) (ss ts : List Statement) (env env' : List Declaration) (to to' : ℕ)
      → GoodTo standard file start from ss env to → GoodTo standard file start from ts env' to' → Compared file ss ts env env' to to'
  compare file start from [] [] env env' to to' a b = inl (record { statements = refl; declared = a.0 ∙ sym b.0; place = a.1 ∙ sym b.1 })
  compare file start from [] (t ∷ ts) env env' to to' a b =
      inr (inl (record {
        statement = t;
        next = b.0;
        more = ts;
        longer = refl;
        good = subst (λ e. IsGoodStatement standard file e to t b.0) (sym a.0) (subst (λ at. IsGoodStatement standard file start at t b.0) (sym a.1) b.1);
      }))
  compare file start from (s ∷ ss) [] env env' to to' a b =
      inr (inr (record {
        statement = s;
        next = a.0;
        more = ss;
        longer = refl;
        good = subst (λ e. IsGoodStatement standard file e to' s a.0) (sym b.0) (subst (λ at. IsGoodStatement standard file start at s a.0) (sym b.1) a.1);
      }))
  compare file start from (s ∷ ss) (t ∷ ts) env env' to to' a b =
      let first = one-good standard file start from s t a.0 b.0 a.1 b.1 in
      more-same file s t ss ts env env' to to' first.0
      (compare file (start ++ s.decl ∷ []) a.0 ss ts env env' to to' a.2
      (subst (λ next. GoodTo standard file (start ++ s.decl ∷ []) next ts env' to') (sym first.1) (subst (λ x. GoodTo standard file (start ++ x.decl ∷ []) b.0 ts env' to') (sym first.0) b.2)))

  -- ---- why the list stops there

  abbrev pub Stop : List ℕ → List Declaration → List Statement → List Declaration → ℕ → List Declaration → ℕ → ℕ → Verdict → Type 0
  Stop bin ds before env at left n k (verdicts.Accepted counts) = EndsAt standard bin env at × (left ≡ []) × (counts ≡ counts_of ds)
  Stop bin ds before env at left n k (verdicts.Spec refusal) = ⊥
  Stop bin ds before env at left n k (verdicts.Binary refusal) = (refusal.statement ≡ n) × FailsFirst (list_checks standard bin env at) (refusal.at, refusal.rule)
  Stop bin ds before env at left n k (verdicts.Match declaration statement rule) = (declaration ≡ k) × (statement ≡ n) × Differs standard bin before env at left rule
  Stop bin ds before env at left n k verdicts.Mem = ⊥

  -- good statements that agree, and why they stop
  pub record Stops (bin : List ℕ) (ds : List Declaration) (v : Verdict) : Type 0 where
    pub before : List Statement
    pub env : List Declaration
    pub at : ℕ
    pub left : List Declaration
    pub layout : Layout bin
    pub statements : GoodTo standard bin [] (list_at bin) before env at
    pub leaves : Leaves ds before left
    pub stop : Stop bin ds before env at left (length before + 1) (length (publics before) + 1) v

  no-end : (bin : List ℕ) (env : List Declaration) (at : ℕ) (s : Statement) (next : ℕ) → IsGoodStatement standard bin env at s next → EndsAt standard bin env at → ⊥
  no-end bin env at s next good ends =
      let both : Ok (Head good.spelled.code good.spelled.body next) ≡ Ok End = sym good.spelled.stands ∙ ends.ends in cc

  -- what comes next agrees
  abbrev pub AgreesNext : List Statement → List Declaration → Statement → Type 0
  AgreesNext before left s = s.is_local ≡ false → (d : Declaration) × (more : List Declaration) × (left ≡ d ∷ more) × AllHold (match_checks d (partner_of before s))

  partner-agrees : (before : List Statement) (left : List Declaration) (s t : Statement) (rule : M) → s ≡ t → t.is_local ≡ false → AgreesNext before left s → FailsFirst (partner_checks left (partner_of before t)) rule → ⊥
  partner-agrees before left s t rule same is_public agrees fails =
      let there = agrees (ap (λ (x : Statement). x.is_local) same ∙ is_public) in
      all_hold-excludes (match_checks there.0 (partner_of before s)) rule there.3
      (subst (λ x. FailsFirst (match_checks there.0 (partner_of before x)) rule) (sym same) (subst (λ xs. FailsFirst (partner_checks xs (partner_of before t)) rule) there.2 fails))

  -- nothing stops where a good statement that agrees comes next
  stop-goes : (bin : List ℕ) (ds : List Declaration) (before : List Statement) (env : List Declaration) (at : ℕ) (left : List Declaration) (n k : ℕ) (v : Verdict) (s : Statement) (next : ℕ)
      → Stop bin ds before env at left n k v → IsGoodStatement standard bin env at s next → AgreesNext before left s → ⊥
  stop-goes bin ds before env at left n k (verdicts.Accepted counts) s next stop good agrees = no-end bin env at s next good stop.0
  stop-goes bin ds before env at left n k (verdicts.Spec refusal) s next stop good agrees = stop
  stop-goes bin ds before env at left n k (verdicts.Binary refusal) s next stop good agrees = all_hold-excludes (list_checks standard bin env at) (refusal.at, refusal.rule) good.passes stop.1
  stop-goes bin ds before env at left n k (verdicts.Match declaration statement rule) s next (_, _, inl (ends, _)) good agrees = no-end bin env at s next good ends
  stop-goes bin ds before env at left n k (verdicts.Match declaration statement rule) s next (_, _, inr (t, after, there, is_public, fails)) good agrees =
      partner-agrees before left s t rule (one-good standard bin env at s t next after good there).0 is_public agrees fails
  stop-goes bin ds before env at left n k verdicts.Mem s next stop good agrees = stop

  -- ---- one reason at one place

  abbrev place_of : Refusal → ℕ × K
  place_of r = (r.at, r.rule)

  same-refusal : (r s : Refusal) → r.statement ≡ s.statement → place_of r ≡ place_of s → r ≡ s
  same-refusal r s n p =
      ap (λ x. record { statement = x; at = r.at; rule = r.rule }) n ∙ ap (λ (x : ℕ × K). record { statement = s.statement; at = x.0; rule = x.1 }) p

  rule-one : (bin : List ℕ) (before : List Statement) (env : List Declaration) (at : ℕ) (left : List Declaration) (r q : M) → Differs standard bin before env at left r → Differs standard bin before env at left q → r ≡ q
  rule-one bin before env at left r q (inl (_, f)) (inl (_, g)) = fails_first-unique (end_checks left) r q f g
  rule-one bin before env at left r q (inl (ends, _)) (inr (t, next, good, _, _)) = absurd (no-end bin env at t next good ends)
  rule-one bin before env at left r q (inr (s, next, good, _, _)) (inl (ends, _)) = absurd (no-end bin env at s next good ends)
  rule-one bin before env at left r q (inr (s, next, good, _, f)) (inr (t, after, there, _, g)) =
      let same = one-good standard bin env at s t next after good there in
      fails_first-unique (partner_checks left (partner_of before s)) r q f (subst (λ x. FailsFirst (partner_checks left (partner_of before x)) q) (sym same.0) g)

  -- nothing differs at a good end without declarations left, nor where a rule of the binary fails
  differs-ends : (bin : List ℕ) (before : List Statement) (env : List Declaration) (at : ℕ) (left : List Declaration) (r : M) → Differs standard bin before env at left r → EndsAt standard bin env at → left ≡ [] → ⊥
  differs-ends bin before env at left r (inl (_, f)) ends none = all_hold-excludes (end_checks left) r (none, tt) f
  differs-ends bin before env at left r (inr (s, next, good, _, _)) ends none = no-end bin env at s next good ends

  differs-fails : (bin : List ℕ) (before : List Statement) (env : List Declaration) (at : ℕ) (left : List Declaration) (r : M) (f : ℕ × K) → Differs standard bin before env at left r → FailsFirst (list_checks standard bin env at) f → ⊥
  differs-fails bin before env at left r f (inl (ends, _)) fails = all_hold-excludes (list_checks standard bin env at) f ends.passes fails
  differs-fails bin before env at left r f (inr (s, next, good, _, _)) fails = all_hold-excludes (list_checks standard bin env at) f good.passes fails

  stop-one : (bin : List ℕ) (ds : List Declaration) (before : List Statement) (env : List Declaration) (at : ℕ) (left : List Declaration) (n k : ℕ) (v w : Verdict) → Stop bin ds before env at left n k v → Stop bin ds before env at left n k w → v ≡ w
  stop-one bin ds before env at left n k (verdicts.Accepted c) (verdicts.Accepted e) a b = ap verdicts.Accepted (a.2 ∙ sym b.2)
  stop-one bin ds before env at left n k (verdicts.Accepted c) (verdicts.Spec r) a b = absurd b
  stop-one bin ds before env at left n k (verdicts.Accepted c) (verdicts.Binary r) a b = absurd (all_hold-excludes (list_checks standard bin env at) (r.at, r.rule) a.0.passes b.1)
  stop-one bin ds before env at left n k (verdicts.Accepted c) (verdicts.Match d s r) a b = absurd (differs-ends bin before env at left r b.2 a.0 a.1)
  stop-one bin ds before env at left n k (verdicts.Accepted c) verdicts.Mem a b = absurd b
  stop-one bin ds before env at left n k (verdicts.Spec r) w a b = absurd a
  stop-one bin ds before env at left n k (verdicts.Binary r) (verdicts.Accepted c) a b = absurd (all_hold-excludes (list_checks standard bin env at) (r.at, r.rule) b.0.passes a.1)
  stop-one bin ds before env at left n k (verdicts.Binary r) (verdicts.Spec q) a b = absurd b
  stop-one bin ds before env at left n k (verdicts.Binary r) (verdicts.Binary q) a b =
      ap verdicts.Binary (same-refusal r q (a.0 ∙ sym b.0) (fails_first-unique (list_checks standard bin env at) (r.at, r.rule) (q.at, q.rule) a.1 b.1))
  stop-one bin ds before env at left n k (verdicts.Binary r) (verdicts.Match d s q) a b = absurd (differs-fails bin before env at left q (r.at, r.rule) b.2 a.1)
  stop-one bin ds before env at left n k (verdicts.Binary r) verdicts.Mem a b = absurd b
  stop-one bin ds before env at left n k (verdicts.Match d s r) (verdicts.Accepted c) a b = absurd (differs-ends bin before env at left r a.2 b.0 b.1)
  stop-one bin ds before env at left n k (verdicts.Match d s r) (verdicts.Spec q) a b = absurd b
  stop-one bin ds before env at left n k (verdicts.Match d s r) (verdicts.Binary q) a b = absurd (differs-fails bin before env at left r (q.at, q.rule) a.2 b.1)
  stop-one bin ds before env at left n k (verdicts.Match d s r) (verdicts.Match e t q) a b =
      ap (λ x. verdicts.Match x s r) (a.0 ∙ sym b.0) ∙ ap (λ x. verdicts.Match e x r) (a.1 ∙ sym b.1) ∙ ap (λ x. verdicts.Match e t x) (rule-one bin before env at left r q a.2 b.2)
  stop-one bin ds before env at left n k (verdicts.Match d s r) verdicts.Mem a b = absurd b
  stop-one bin ds before env at left n k verdicts.Mem w a b = absurd a

  -- ---- one stop

  agrees-next : (ds ss-left ts-left : List Declaration) (ss ts : List Statement) (s : Statement) (more : List Statement) → ts ≡ ss ++ s ∷ more → Leaves ds ss ss-left → Leaves ds ts ts-left → AgreesNext ss ss-left s
  agrees-next ds left rest ss ts s more longer a b = λ is_public.
      let there : publics ts ≡ publics ss ++ partner_of ss s ∷ publics_after (ss ++ s ∷ []) more = ap publics longer ∙ publics-append [] ss (s ∷ more) ∙ ap (λ ps. publics ss ++ ps) (publics-public ss s more is_public) in
      left-next a.done b.done left rest (publics ss) (publics_after (ss ++ s ∷ []) more) (partner_of ss s) a.agrees (subst (Agrees b.done) there b.agrees) (sym a.all ∙ b.all)

  pub stops-one : (bin : List ℕ) (ds : List Declaration) (v w : Verdict) → Stops bin ds v → Stops bin ds w → v ≡ w
  stops-one bin ds v w a b = elim (compare bin [] (list_at bin) a.before b.before a.env b.env a.at b.at a.statements b.statements) [
    | inl same ↦ (
        let left : a.left ≡ b.left = left-same a.leaves.done b.leaves.done a.left b.left (publics a.before) a.leaves.agrees (subst (λ ss. Agrees b.leaves.done (publics ss)) (sym same.statements) b.leaves.agrees) (sym a.leaves.all ∙ b.leaves.all) in
        stop-one bin ds a.before a.env a.at a.left (length a.before + 1) (length (publics a.before) + 1) v w a.stop
        (subst (λ x. Stop bin ds a.before x a.at a.left (length a.before + 1) (length (publics a.before) + 1) w) (sym same.declared)
        (subst (λ x. Stop bin ds a.before b.env x a.left (length a.before + 1) (length (publics a.before) + 1) w) (sym same.place)
        (subst (λ x. Stop bin ds a.before b.env b.at x (length a.before + 1) (length (publics a.before) + 1) w) (sym left)
        (subst (λ x. Stop bin ds x b.env b.at b.left (length x + 1) (length (publics x) + 1) w) (sym same.statements) b.stop)))))
    | inr on ↦ elim on [
      | inl goes ↦ absurd (stop-goes bin ds a.before a.env a.at a.left (length a.before + 1) (length (publics a.before) + 1) v goes.statement goes.next a.stop goes.good (agrees-next ds a.left b.left a.before b.before goes.statement goes.more goes.longer a.leaves b.leaves))
      | inr goes ↦ absurd (stop-goes bin ds b.before b.env b.at b.left (length b.before + 1) (length (publics b.before) + 1) w goes.statement goes.next b.stop goes.good (agrees-next ds b.left a.left b.before a.before goes.statement goes.more goes.longer b.leaves a.leaves))
    ]
  ]

  -- ---- the binary's part of a verdict: header and tables fail, or the list stops

  abbrev pub Decided : List ℕ → List Declaration → Verdict → Type 0
  Decided bin ds v = ((refusal : Refusal) × (v ≡ verdicts.Binary refusal) × (refusal.statement ≡ 0) × FailsFirst (layout_checks bin) (refusal.at, refusal.rule)) ⊎ Stops bin ds v

  decided-one : (bin : List ℕ) (ds : List Declaration) (v w : Verdict) → Decided bin ds v → Decided bin ds w → v ≡ w
  decided-one bin ds v w (inl (r, is, none, fails)) (inl (q, too, nor, failing)) =
      is ∙ ap verdicts.Binary (same-refusal r q (none ∙ sym nor) (fails_first-unique (layout_checks bin) (r.at, r.rule) (q.at, q.rule) fails failing)) ∙ sym too
  decided-one bin ds v w (inl (r, is, none, fails)) (inr b) = absurd (all_hold-excludes (layout_checks bin) (r.at, r.rule) b.layout fails)
  decided-one bin ds v w (inr a) (inl (q, too, nor, failing)) = absurd (all_hold-excludes (layout_checks bin) (q.at, q.rule) a.layout failing)
  decided-one bin ds v w (inr a) (inr b) = stops-one bin ds v w a b

  accepted-decides : (bin : List ℕ) (spec : List ℕ) (counts : Counts) (a : AcceptsBy standard spec bin) → counts ≡ counts_of a.declared → Decided bin a.declared (verdicts.Accepted counts)
  accepted-decides bin spec counts a is = inr (record {
    before = a.statements;
    env = a.is_good.env;
    at = a.is_good.to;
    left = [];
    layout = a.is_good.layout;
    statements = a.is_good.statements;
    leaves = record { done = a.declared; all = sym (append-nil a.declared); agrees = a.agrees };
    stop = (a.is_good.ends, refl, is);
  })

  binary-decides : (bin : List ℕ) (ds : List Declaration) (r : Refusal) → BinaryFails standard bin ds r → Decided bin ds (verdicts.Binary r)
  binary-decides bin ds r (inl f) = inl (r, refl, f.0, f.1)
  binary-decides bin ds r (inr (ss, env, at, left, fails, leaves)) = inr (record {
    before = ss;
    env = env;
    at = at;
    left = left;
    layout = fails.layout;
    statements = fails.statements;
    leaves = leaves;
    stop = (fails.number, fails.fails);
  })

  match-decides : (bin : List ℕ) (ds : List Declaration) (d s : ℕ) (rule : M) → MatchFails standard bin ds d s rule → Decided bin ds (verdicts.Match d s rule)
  match-decides bin ds d s rule f = inr (record {
    before = f.before;
    env = f.env;
    at = f.at;
    left = f.left;
    layout = f.layout;
    statements = f.statements;
    leaves = f.leaves;
    stop = (f.declaration_is, f.statement_is, f.fails);
  })

  -- ---- one verdict

  -- it is accepted, or this is the first refusal
  abbrev pub Says : List ℕ → List ℕ → Verdict → Type 0
  Says spec bin (verdicts.Accepted counts) = AcceptsWithBy standard spec bin counts
  Says spec bin (verdicts.Spec refusal) = FirstRefusalBy standard spec bin (verdicts.Spec refusal)
  Says spec bin (verdicts.Binary refusal) = FirstRefusalBy standard spec bin (verdicts.Binary refusal)
  Says spec bin (verdicts.Match declaration statement rule) = FirstRefusalBy standard spec bin (verdicts.Match declaration statement rule)
  Says spec bin verdicts.Mem = ⊥

  -- the specification's fault, or its declarations and what they decide
  abbrev pub Split : List ℕ → List ℕ → Verdict → Type 0
  Split spec bin v = ((refusal : SpecRefusal) × (v ≡ verdicts.Spec refusal) × SpecFault spec refusal) ⊎ ((ds : List Declaration) × SpecOf spec ds × Decided bin ds v)

  split : (spec bin : List ℕ) (v : Verdict) → Says spec bin v → Split spec bin v
  split spec bin (verdicts.Accepted counts) (a, is) = inr (a.declared, a.is_spec, accepted-decides bin spec counts a is)
  split spec bin (verdicts.Spec refusal) says = inl (refusal, refl, says)
  split spec bin (verdicts.Binary refusal) (ds, is_spec, fails) = inr (ds, is_spec, binary-decides bin ds refusal fails)
  split spec bin (verdicts.Match d s rule) (ds, is_spec, fails) = inr (ds, is_spec, match-decides bin ds d s rule fails)
  split spec bin verdicts.Mem says = absurd says

  spec-one : (spec : List ℕ) (ds es : List Declaration) → SpecOf spec ds → SpecOf spec es → ds ≡ es
  spec-one spec ds es (entries, makes, is) (others, making, too) = is ∙ ap env_of (one-reading spec entries others makes making) ∙ sym too

  split-one : (spec bin : List ℕ) (v w : Verdict) → Split spec bin v → Split spec bin w → v ≡ w
  split-one spec bin v w (inl (r, is, fault)) (inl (q, too, other)) = is ∙ ap verdicts.Spec (one-fault spec r q fault other) ∙ sym too
  split-one spec bin v w (inl (r, is, fault)) (inr (ds, (entries, makes, _), _)) = absurd (not-both spec entries r makes fault)
  split-one spec bin v w (inr (ds, (entries, makes, _), _)) (inl (q, too, other)) = absurd (not-both spec entries q makes other)
  split-one spec bin v w (inr (ds, is_spec, a)) (inr (es, is_too, b)) =
      decided-one bin ds v w a (subst (λ xs. Decided bin xs w) (sym (spec-one spec ds es is_spec is_too)) b)

  pub says-one : (spec bin : List ℕ) (v w : Verdict) → Says spec bin v → Says spec bin w → v ≡ w
  says-one spec bin v w a b = split-one spec bin v w (split spec bin v a) (split spec bin w b)

  -- a verdict is the one that the files say, or out of memory
  pub verdict-says : (spec bin : List ℕ) (v w : Verdict) → IsVerdictBy standard spec bin v → Says spec bin w → (v ≡ w) ⊎ (v ≡ verdicts.Mem)
  verdict-says spec bin (verdicts.Accepted counts) w is says = inl (says-one spec bin (verdicts.Accepted counts) w is says)
  verdict-says spec bin (verdicts.Spec refusal) w is says = inl (says-one spec bin (verdicts.Spec refusal) w is says)
  verdict-says spec bin (verdicts.Binary refusal) w is says = inl (says-one spec bin (verdicts.Binary refusal) w is says)
  verdict-says spec bin (verdicts.Match d s rule) w is says = inl (says-one spec bin (verdicts.Match d s rule) w is says)
  verdict-says spec bin verdicts.Mem w is says = inr refl

  -- a first refusal is said
  pub refusal-says : (spec bin : List ℕ) (v : Verdict) → FirstRefusalBy standard spec bin v → Says spec bin v
  refusal-says spec bin (verdicts.Accepted counts) first = absurd first
  refusal-says spec bin (verdicts.Spec refusal) first = first
  refusal-says spec bin (verdicts.Binary refusal) first = first
  refusal-says spec bin (verdicts.Match d s rule) first = first
  refusal-says spec bin verdicts.Mem first = first

  -- nothing is accepted and refused
  pub excludes : (spec bin : List ℕ) (counts : Counts) (v : Verdict) → AcceptsWithBy standard spec bin counts → FirstRefusalBy standard spec bin v → ⊥
  excludes spec bin counts v accepts first =
      let same : v ≡ verdicts.Accepted counts = says-one spec bin v (verdicts.Accepted counts) (refusal-says spec bin v first) accepts in
      subst (FirstRefusalBy standard spec bin) same first

  pub counts-one : (spec bin : List ℕ) (counts other : Counts) → AcceptsWithBy standard spec bin counts → AcceptsWithBy standard spec bin other → counts ≡ other
  counts-one spec bin counts other a b =
      let same : verdicts.Accepted counts ≡ verdicts.Accepted other = says-one spec bin (verdicts.Accepted counts) (verdicts.Accepted other) a b in cc

  pub refusal-one : (spec bin : List ℕ) (v w : Verdict) → FirstRefusalBy standard spec bin v → FirstRefusalBy standard spec bin w → v ≡ w
  refusal-one spec bin v w a b = says-one spec bin v w (refusal-says spec bin v a) (refusal-says spec bin w b)

-- without gaps
pub accepted-excludes : (spec bin : List ℕ) (counts : Counts) (v : Verdict) → AcceptsWith spec bin counts → FirstRefusal spec bin v → ⊥
accepted-excludes spec bin counts v accepts first = excludes strict_standard spec bin counts v accepts first

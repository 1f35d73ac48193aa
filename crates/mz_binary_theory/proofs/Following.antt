-- What follows in the chain where a statement's checks hold.
use Rattle.std.proofs.Common.{◌≡◌, ◌⊎◌, ◌+◌, ◌∙◌, ℕ, zero, suc, Bool, true, false, List, [], ◌∷◌, ◌++◌, length, map, Some, Ok, refl, sym, ap, subst, inl, inr, arith, length-append, append-nil}
use Rattle.std.specs.Prelude.{MatchBool}
use Rattle.std.specs.List.{range_with_len}
use Rattle.mz_base.specs.Checks.{AllHold}
use Rattle.mz_cmd.specs.declared.code.StatementCode.{StatementCode}
use Rattle.mz_cmd.specs.declared.code.StatementCode.TheVariants as codes
use Rattle.mz_cmd.specs.declared.statement.StmtAt.TheVariants.{Head}
use Rattle.mz_cmd.specs.Codes.{statement_byte, statement_code}
use Rattle.mz_cmd.specs.StatementList.{statement_at}
use Rattle.mz_logic_theory.specs.Declaration.{Declaration, sort_decl, term_decl, assertion_decl, Term, Assertion, sorts, terms, signatures, assertions}
use Rattle.mz_logic_theory.specs.Legality.{IsLegalEnv}
use Rattle.mz_logic_theory.specs.LegalLists.{Statement, IsProvedBy, IsLegalStatement, allowed_with}
use Rattle.mz_logic_theory.specs.declared.binder.SortMods.{SortMods}
use Rattle.mz_logic_theory.proofs.Offered.{sorts-append, terms-append, assertions-append}
use Rattle.mz_layout_tables.specs.Tables.{mods_of}
use Rattle.mz_layout_tables.proofs.Offered.{code-is, slice_get-sorts}
use Rattle.mz_machine_theory.specs.MachineState.{RowsBefore, Declares}
use Rattle.mz_machine_theory.specs.Sound.{cites_as}
use Rattle.mz_machine_theory.specs.Lists.{Entry, with_entry, SpellsEntry, an_assertion, ProvedByBody}
use Rattle.mz_machine_theory.proofs.Offered.{follows}
use Rattle.mz_layout_tables.specs.Heads.{body_bytes}
use Rattle.mz_machine_theory.specs.FileRows.{Taken, taken_by, term_of_file, thm_of_file, rows_taken}
use Rattle.mz_binary_theory.specs.Spelling.{IsKindOf, is_local_code, SpellsRow, IsSpelled}
use Rattle.mz_binary_theory.specs.Checking.{kind_checks}
use Rattle.mz_binary_theory.specs.FileRun.{with_sort, with_term, with_thm, after_kind}
use Rattle.mz_binary_theory.proofs.Entries.{body_of, entry_of, entry-good}
use Rattle.mz_binary_theory.specs.Standards.{Standard, lets_gaps}

-- ---- the rows taken after a statement

range-more : (from n : ℕ) → range_with_len from (n + 1) ≡ range_with_len from n ++ (from + n) ∷ []
range-more from n = let one : n + 1 ≡ suc n = omega arith in ap (range_with_len from) one ∙ go from n
  where
    go : (i k : ℕ) → range_with_len i (suc k) ≡ range_with_len i k ++ (i + k) ∷ []
    go i zero = ap (λ (z : ℕ). z ∷ []) (omega arith)
    go i (suc k) = ap (λ (z : List ℕ). i ∷ z) (go (i + 1) k ∙ ap (λ (z : ℕ). range_with_len (i + 1) k ++ z ∷ []) (omega arith))

map-last : {A : Type 0} (f : ℕ → A) (xs : List ℕ) (x : ℕ) → map f (xs ++ x ∷ []) ≡ map f xs ++ f x ∷ []
map-last f [] x = refl
map-last f (y ∷ ys) x = ap (λ zs. f y ∷ zs) (map-last f ys x)

rows-more : {A : Type 0} (f : ℕ → A) (n : ℕ) → map f (range_with_len 0 (n + 1)) ≡ map f (range_with_len 0 n) ++ f n ∷ []
rows-more f n = ap (map f) (range-more 0 n) ∙ map-last f (range_with_len 0 n) (0 + n) ∙ ap (λ (k : ℕ). map f (range_with_len 0 n) ++ f k ∷ []) (omega arith)

module _ (file : List ℕ) (taken : Taken) (body next : ℕ) where
  terms-more : rows_taken file (with_term taken) ≡ record (rows_taken file taken) { terms = (rows_taken file taken).terms ++ term_of_file file taken.terms ∷ [] }
  terms-more = ap (λ z. record (rows_taken file taken) { terms = z }) (rows-more (term_of_file file) taken.terms)

  thms-more : rows_taken file (with_thm taken) ≡ record (rows_taken file taken) { thms = (rows_taken file taken).thms ++ thm_of_file file taken.thms ∷ [] }
  thms-more = ap (λ z. record (rows_taken file taken) { thms = z }) (rows-more (thm_of_file file) taken.thms)

  pub rows-after : (k : StatementCode) → rows_taken file (after_kind file taken k) ≡ with_entry (rows_taken file taken) (entry_of file taken body next k)
  rows-after codes.Sort = refl
  rows-after codes.Term = terms-more
  rows-after codes.LocalDefinition = terms-more
  rows-after codes.Axiom = thms-more
  rows-after codes.Theorem = thms-more
  rows-after codes.LocalTheorem = thms-more

-- ---- the environment after a statement

pub same-taken : (a b : Taken) → a.sorts ≡ b.sorts → a.terms ≡ b.terms → a.thms ≡ b.thms → a ≡ b
same-taken a b s t u =
    ap (λ z. record { sorts = z; terms = a.terms; thms = a.thms }) s ∙ ap (λ z. record { sorts = b.sorts; terms = z; thms = a.thms }) t
    ∙ ap (λ z. record { sorts = b.sorts; terms = b.terms; thms = z }) u

module _ (env : List Declaration) where
  no-sort : (d : Declaration) → sorts (d ∷ []) ≡ [] → sorts (env ++ d ∷ []) ≡ sorts env
  no-sort d e = sorts-append env (d ∷ []) ∙ ap (λ z. sorts env ++ z) e ∙ append-nil (sorts env)

  more-terms : (d : Declaration) → length (terms (env ++ d ∷ [])) ≡ length (terms env) + length (terms (d ∷ []))
  more-terms d = ap length (terms-append env (d ∷ [])) ∙ length-append (terms env) (terms (d ∷ []))

  more-thms : (d : Declaration) → length (assertions (env ++ d ∷ [])) ≡ length (assertions env) + length (assertions (d ∷ []))
  more-thms d = ap length (assertions-append env (d ∷ [])) ∙ length-append (assertions env) (assertions (d ∷ []))

  after-sort : (file : List ℕ) → taken_by (env ++ sort_decl (mods_of file (length (sorts env))) ∷ []) ≡ with_sort file (taken_by env)
  after-sort file =
      let d : Declaration = sort_decl (mods_of file (length (sorts env))) in
      same-taken (taken_by (env ++ d ∷ [])) (with_sort file (taken_by env)) (sorts-append env (d ∷ [])) (more-terms d ∙ omega arith) (more-thms d ∙ omega arith)

  after-term : (t : Term) → taken_by (env ++ term_decl t ∷ []) ≡ with_term (taken_by env)
  after-term t = same-taken (taken_by (env ++ term_decl t ∷ [])) (with_term (taken_by env)) (no-sort (term_decl t) refl) (more-terms (term_decl t)) (more-thms (term_decl t) ∙ omega arith)

  after-thm : (a : Assertion) → taken_by (env ++ assertion_decl a ∷ []) ≡ with_thm (taken_by env)
  after-thm a = same-taken (taken_by (env ++ assertion_decl a ∷ [])) (with_thm (taken_by env)) (no-sort (assertion_decl a) refl) (more-terms (assertion_decl a) ∙ omega arith) (more-thms (assertion_decl a))

-- ---- the statement that stands there

-- a theorem has a derivation that cites only what these bytes do
abbrev pub ProvedAs : Bool → List ℕ → List Declaration → Declaration → Type 0
ProvedAs gaps bytes env d = (a : Assertion) → d ≡ assertion_decl a → a.is_axiom ≡ false → IsProvedBy (cites_as gaps bytes) env a

-- the statement after which the list goes on: it is spelled there, it is legal, and the rows declare it too
pub record FollowedBy (standard : Standard) (file : List ℕ) (env : List Declaration) (at body next : ℕ) (k : StatementCode) : Type 0 where
  pub statement : Statement
  pub spelled : IsSpelled file env at statement next
  pub legal : IsLegalStatement (allowed_with (lets_gaps standard)) env statement
  pub proved : ProvedAs (lets_gaps standard) (body_bytes file body next) env statement.decl
  pub taken : taken_by (env ++ statement.decl ∷ []) ≡ after_kind file (taken_by env) k
  pub declares : Declares (rows_taken file (taken_by (env ++ statement.decl ∷ []))) (env ++ statement.decl ∷ [])

module _ (standard : Standard) (file : List ℕ) (env : List Declaration) (at code body next : ℕ) (stands : statement_at file at ≡ Ok (Head code body next)) where
  Spelled : StatementCode → Statement → Type 0
  Spelled k s = IsSpelled file env at s next × (taken_by (env ++ s.decl ∷ []) ≡ after_kind file (taken_by env) k)

  as-declared : (k : StatementCode) (s : Statement) (d : Declaration) (l : Bool) → s.decl ≡ d → s.is_local ≡ l → l ≡ is_local_code code → IsKindOf code d → SpellsRow file env d
      → taken_by (env ++ d ∷ []) ≡ after_kind file (taken_by env) k → Spelled k s
  unfolding Spelled
  as-declared k s d l decl-is local-is mark kind row taken = (
    record { code = code; body = body; stands = stands; kind = (subst (IsKindOf code) (sym decl-is) kind, local-is ∙ mark); row = subst (SpellsRow file env) (sym decl-is) row },
    subst (λ z. taken_by (env ++ z ∷ []) ≡ after_kind file (taken_by env) k) (sym decl-is) taken,
  )

  mark-of : (n : ℕ) (l : Bool) → code ≡ n → l ≡ is_local_code n → l ≡ is_local_code code
  mark-of n l e mark = mark ∙ ap is_local_code (sym e)

  axiom-kind : (a : Assertion) → a.is_axiom ≡ true → code ≡ 0x02 → IsKindOf code (assertion_decl a)
  axiom-kind a is e = subst (λ b. MatchBool b (code ≡ 0x02) ((code ≡ 0x06) ⊎ (code ≡ 0x0E))) (sym is) e

  theorem-kind : (a : Assertion) → a.is_axiom ≡ false → (code ≡ 0x06) ⊎ (code ≡ 0x0E) → IsKindOf code (assertion_decl a)
  theorem-kind a is e = subst (λ b. MatchBool b (code ≡ 0x02) ((code ≡ 0x06) ⊎ (code ≡ 0x0E))) (sym is) e

  spelled-as : (k : StatementCode) (s : Statement) → code ≡ statement_byte k → AllHold (kind_checks standard file (taken_by env) at body next (Some k))
      → SpellsEntry (signatures env) (entry_of file (taken_by env) body next k) s → Spelled k s
  spelled-as codes.Sort s e all (local-is, decl-is) =
      as-declared codes.Sort s _ false decl-is local-is (mark-of 0x04 false e refl) e (slice_get-sorts file (length (sorts env)) all.0) (after-sort env file)
  spelled-as codes.Term s e all (local-is, (d, decl-is, spells)) =
      as-declared codes.Term s _ false decl-is local-is (mark-of 0x05 false e refl) (inl e) (all.0, spells) (after-term env d)
  spelled-as codes.LocalDefinition s e all (local-is, (d, decl-is, spells)) =
      as-declared codes.LocalDefinition s _ true decl-is local-is (mark-of 0x0D true e refl) (inr e) (all.0, spells) (after-term env d)
  spelled-as codes.Axiom s e all (local-is, (a, decl-is, is, spells)) =
      as-declared codes.Axiom s _ false decl-is local-is (mark-of 0x02 false e refl) (axiom-kind a is e) (all.0, spells) (after-thm env a)
  spelled-as codes.Theorem s e all (local-is, (a, decl-is, is, spells)) =
      as-declared codes.Theorem s _ false decl-is local-is (mark-of 0x06 false e refl) (theorem-kind a is (inl e)) (all.0, spells) (after-thm env a)
  spelled-as codes.LocalTheorem s e all (local-is, (a, decl-is, is, spells)) =
      as-declared codes.LocalTheorem s _ true decl-is local-is (mark-of 0x0E true e refl) (theorem-kind a is (inr e)) (all.0, spells) (after-thm env a)

  no-assertion : (d : Declaration) (a : Assertion) (m : SortMods) → d ≡ sort_decl m → d ≡ assertion_decl a → ⊥
  no-assertion d a m e f = let bad : sort_decl m ≡ assertion_decl a = sym e ∙ f in cc

  no-term : (d : Declaration) (a : Assertion) (t : Term) → d ≡ term_decl t → d ≡ assertion_decl a → ⊥
  no-term d a t e f = let bad : term_decl t ≡ assertion_decl a = sym e ∙ f in cc

  by-body : (l w : Bool) (s : Statement) → ProvedByBody (lets_gaps standard) env (an_assertion l w (thm_of_file file (length (assertions env))) (body_of file body next)) s.decl → ProvedAs (lets_gaps standard) (body_bytes file body next) env s.decl
  by-body l w s proved a is theorem = subst (ProvedByBody (lets_gaps standard) env (an_assertion l w (thm_of_file file (length (assertions env))) (body_of file body next))) is proved theorem

  proved-as : (k : StatementCode) (s : Statement) → SpellsEntry (signatures env) (entry_of file (taken_by env) body next k) s → ProvedByBody (lets_gaps standard) env (entry_of file (taken_by env) body next k) s.decl
      → ProvedAs (lets_gaps standard) (body_bytes file body next) env s.decl
  proved-as codes.Sort s (_, decl-is) proved a is theorem = absurd (no-assertion s.decl a _ decl-is is)
  proved-as codes.Term s (_, (d, decl-is, _)) proved a is theorem = absurd (no-term s.decl a d decl-is is)
  proved-as codes.LocalDefinition s (_, (d, decl-is, _)) proved a is theorem = absurd (no-term s.decl a d decl-is is)
  proved-as codes.Axiom s spells proved a is theorem = by-body false true s proved a is theorem
  proved-as codes.Theorem s spells proved a is theorem = by-body false false s proved a is theorem
  proved-as codes.LocalTheorem s spells proved a is theorem = by-body true false s proved a is theorem

  pub followed : (k : StatementCode) → statement_code code ≡ Some k → IsLegalEnv env → Declares (rows_taken file (taken_by env)) env
      → AllHold (kind_checks standard file (taken_by env) at body next (Some k)) → FollowedBy standard file env at body next k
  unfolding Spelled
  followed k is legal-env declares all =
      let tables : RowsBefore = rows_taken file (taken_by env) in
      let e : Entry = entry_of file (taken_by env) body next k in
      let (s, spells, legal, proved, grown) = follows (lets_gaps standard) tables env legal-env declares e (entry-good standard file (taken_by env) at body next k all) in
      let (spelled, taken) = spelled-as k s (code-is k code is) all spells in
      let rows : rows_taken file (taken_by (env ++ s.decl ∷ [])) ≡ with_entry tables e = ap (rows_taken file) taken ∙ rows-after file (taken_by env) body next k in
      record { statement = s; spelled = spelled; legal = legal; proved = proved-as k s spells proved; taken = taken; declares = subst (λ z. Declares z (env ++ s.decl ∷ [])) (sym rows) grown }

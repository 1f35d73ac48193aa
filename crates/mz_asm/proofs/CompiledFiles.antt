-- What a text compiles to is in the normal layout.
use Rattle.std.proofs.Common.{◌≡◌, ◌≤◌, ◌<◌, ◌+◌, ◌^◌, ◌⊎◌, ℕ, suc, Bool, true, false, List, [], ◌∷◌, ◌++◌, length, map, slice_get, Some, None, All, MatchBool, refl, sym, ap, subst, ◌∙◌, arith, inl, inr, append_assoc, append-nil}
use Rattle.std.proofs.lemmas.List.{length-append}
use Rattle.std.proofs.lemmas.Option.{get_or_from_slice_get, slice_get_within}
use Rattle.mz_base.proofs.Offered.{slice_get-append_add}
use Rattle.mz_cmd.specs.declared.code.ProofCode.{ProofCode}
use Rattle.mz_cmd.specs.declared.code.ProofCode.TheVariants as proofs
use Rattle.mz_cmd.specs.declared.code.UnifyCode.{UnifyCode}
use Rattle.mz_cmd.specs.declared.code.UnifyCode.TheVariants as unifies
use Rattle.mz_cmd.specs.Codes.{proof_byte}
use Rattle.mz_cmd.specs.Spelling.{shortest}
use Rattle.mz_logic_theory.specs.Declaration.{Declaration, Form, plain_form, abstract_form, defined, Term, Assertion, sort_decl, term_decl, assertion_decl, sorts, terms, assertions}
use Rattle.mz_logic_theory.specs.LegalLists.{Statement as Marked}
use Rattle.mz_logic_theory.specs.Signature.{Signature}
use Rattle.mz_logic_theory.specs.declared.binder.SortMods.{SortMods}
use Rattle.mz_logic_theory.specs.declared.word.Word.{Word}
use Rattle.mz_logic_theory.proofs.Offered.{assertions-append, sorts-append, terms-append}
use Rattle.mz_layout_tables.specs.Normal.{Row, Written, Parts, no_parts, row_of_term, row_of_thm, file_of}
use Rattle.mz_layout_tables.specs.Standing.{HasRoom, Fit}
use Rattle.mz_machine_theory.specs.Streams.{UnifyCommand, u_term, u_term_save, u_ref, u_dummy, u_hyp, u_end}
use Rattle.mz_machine_theory.specs.Profile.{Profile, plain as standard}
use Rattle.mz_machine_theory.specs.Lists.{kind_of}
use Rattle.mz_machine_theory.specs.MachineState.{Kind as BodyKind, is_definition}
use Rattle.mz_binary_theory.specs.Spelling.{IsKindOf, is_local_code}
use Rattle.mz_show.specs.Tokens.{unify_has_number, proof_has_number}
use Rattle.mz_asm.specs.Assembling.{IsNormal}
use Rattle.mz_asm.specs.Rows.{no_rows, taken}
use Rattle.mz_asm.specs.Statements.{Statement, statement_lines, all_lines, listing_lines, unify_bytes, proof_bytes, with_statement, parts_from}
use Rattle.mz_asm.specs.declared.kind.Kind.TheVariants as kinds
use Rattle.mz_asm.specs.declared.line.Line.{Line}
use Rattle.mz_asm.specs.declared.line.Line.TheVariants as lines
use Rattle.mz_asm.specs.declared.rows.Rows.{Rows}
use Rattle.mz_asm.proofs.NormalChain.{by-bytes}
use Rattle.mz_asm.proofs.OneText.{both_streams, st}
use Rattle.mz_asm.proofs.Operands.{AreFit, AreRight, AreWords, right-fits, right-params, right-streams}
use Rattle.mz_layout_tables.proofs.Offered.{file-length}
use Rattle.mz_emit_theory.specs.StreamWriting.{stream_of, AreShort}
use Rattle.mz_emit_theory.specs.Endings.{spelled_body, MayStand}
use Rattle.mz_emit_theory.specs.SharedBodies.{IsPlain, ArePlain}
use Rattle.mz_emit_theory.specs.FileWriting.{IsWrittenForm, IsWrittenDeclaration, AreWritten, IsWrittenAs}

-- ---- streams and bodies, as a listing has their commands

abbrev pub unify_op : UnifyCommand → UnifyCode × ℕ
unify_op (u_term t) = (unifies.Term, t)
unify_op (u_term_save t) = (unifies.TermSave, t)
unify_op (u_ref i) = (unifies.Ref, i)
unify_op (u_dummy s) = (unifies.Dummy, s)
unify_op u_hyp = (unifies.Hyp, 0)
unify_op u_end = (unifies.Hyp, 0)

stream-more : (bytes more : List ℕ) (us : List UnifyCommand) → stream_of us ≡ more ++ (0 ∷ []) → bytes ++ stream_of us ≡ (bytes ++ more) ++ (0 ∷ [])
stream-more bytes more us e = ap (λ (x : List ℕ). bytes ++ x) e ∙ sym (append_assoc bytes more (0 ∷ []))

stream-is : (us : List UnifyCommand) → AreShort us → stream_of us ≡ unify_bytes (map unify_op us) ++ (0 ∷ [])
stream-is [] short = refl
stream-is (u_term t ∷ us) (one, short) = stream-more (shortest 0x30 t) (unify_bytes (map unify_op us)) us (stream-is us short)
stream-is (u_term_save t ∷ us) (one, short) = stream-more (shortest 0x31 t) (unify_bytes (map unify_op us)) us (stream-is us short)
stream-is (u_ref i ∷ us) (one, short) = stream-more (shortest 0x32 i) (unify_bytes (map unify_op us)) us (stream-is us short)
stream-is (u_dummy s ∷ us) (one, short) = stream-more (shortest 0x33 s) (unify_bytes (map unify_op us)) us (stream-is us short)
stream-is (u_hyp ∷ us) (one, short) = stream-more (shortest 0x36 0) (unify_bytes (map unify_op us)) us (stream-is us short)
stream-is (u_end ∷ us) (one, short) = absurd one

stream-fit : (us : List UnifyCommand) → AreShort us → AreFit unify_has_number (map unify_op us)
stream-fit [] short = tt
stream-fit (u_term t ∷ us) (one, short) = (omega (arith, one), (λ no. absurd cc), stream-fit us short)
stream-fit (u_term_save t ∷ us) (one, short) = (omega (arith, one), (λ no. absurd cc), stream-fit us short)
stream-fit (u_ref i ∷ us) (one, short) = (omega (arith, one), (λ no. absurd cc), stream-fit us short)
stream-fit (u_dummy s ∷ us) (one, short) = (omega (arith, one), (λ no. absurd cc), stream-fit us short)
stream-fit (u_hyp ∷ us) (one, short) = (omega arith, (λ no. refl), stream-fit us short)
stream-fit (u_end ∷ us) (one, short) = absurd one

body-is : (cs : List (ProofCode × ℕ)) → spelled_body cs ≡ proof_bytes cs ++ (0 ∷ [])
body-is [] = refl
body-is (c ∷ cs) = ap (λ (x : List ℕ). shortest (proof_byte c.0) c.1 ++ x) (body-is cs) ∙ sym (append_assoc (shortest (proof_byte c.0) c.1) (proof_bytes cs) (0 ∷ []))

bare : (c : ProofCode) (n : ℕ) → IsPlain (c, n) → proof_has_number c ≡ false → n ≡ 0
bare proofs.Term n plain other = absurd cc
bare proofs.TermSave n plain other = absurd cc
bare proofs.Ref n plain other = absurd cc
bare proofs.Dummy n plain other = absurd cc
bare proofs.Thm n plain other = absurd cc
bare proofs.ThmSave n plain other = absurd cc
bare proofs.ConvRef n plain other = absurd cc
bare _ n plain other = plain

body-fit : (P : Profile) (kind : BodyKind) (cs : List (ProofCode × ℕ)) → MayStand P kind cs → ArePlain cs → AreFit proof_has_number cs
body-fit P kind [] may plain = tt
body-fit P kind (c ∷ cs) (stands, small, may) (one, plain) = (omega (arith, small), bare c.0 c.1 one, body-fit P kind cs may plain)

-- ---- words

words-of : (ws : List Word) → All (λ w. w.0 < 2 ^ 64) ws → AreWords ws
words-of [] all = tt
words-of (w ∷ ws) all = (all 0 w (omega arith), words-of ws (λ i d below. all (suc i) d (omega (arith, below))))

words-apart : (ps : List Word) (o : Word) → AreWords (ps ++ (o ∷ [])) → AreWords ps × (o.0 < 2 ^ 64)
words-apart [] o words = (tt, words.0)
words-apart (p ∷ ps) o (one, words) = let rest = words-apart ps o words in ((one, rest.0), rest.1)

-- ---- lists, one item further

room-at : {A : Type 0} → (xs : List A) (i : ℕ) (x : A) (P : A → Type 0) → slice_get xs i ≡ Some x → All P xs → P x
room-at xs i x P e all = subst P (get_or_from_slice_get xs i x x e) (all i x (slice_get_within xs i x e))

item-next : {A : Type 0} → (xs rest all : List A) (n : ℕ) (x : A) → all ≡ xs ++ rest → length xs ≡ n → slice_get all n ≡ Some x → (more : List A) × (all ≡ (xs ++ (x ∷ [])) ++ more)
item-next xs rest all n x is long e = go rest is (sym (slice_get-append_add xs rest 0) ∙ ap (λ k. slice_get (xs ++ rest) k) (let z : length xs + 0 ≡ n = omega (arith, long) in z) ∙ ap (λ l. slice_get l n) (sym is) ∙ e)
  where
    go : (r : List _) → all ≡ xs ++ r → slice_get r 0 ≡ Some x → (more : List _) × (all ≡ (xs ++ (x ∷ [])) ++ more)
    go [] f g = absurd (let no : None ≡ Some x = g in cc)
    go (y ∷ r) f g = (r, f ∙ sym (append_assoc xs (y ∷ []) r) ∙ ap (λ z. (xs ++ (z ∷ [])) ++ r) (let same : Some y ≡ Some x = g in cc))

-- ---- the statements so far

abbrev pub rows_in : List Declaration → Rows
rows_in env = record { sorts = length (sorts env); terms = length (terms env); thms = length (assertions env) }

-- the parts before these statements are those of the declarations in env
pub record IsBefore (p : Parts) (env : List Declaration) (q : Parts) (ws : List Written) : Type 0 where
  pub sorts_are : (rest : List ℕ) × (p.sorts ≡ q.sorts ++ rest)
  pub sorts_many : length q.sorts ≡ length (sorts env)
  pub terms_are : (rest : List Row) × (p.terms ≡ q.terms ++ rest)
  pub terms_many : length q.terms ≡ length (terms env)
  pub thms_are : (rest : List Row) × (p.thms ≡ q.thms ++ rest)
  pub thms_many : length q.thms ≡ length (assertions env)
  pub statements_are : p.statements ≡ q.statements ++ ws

-- what a listing says from there on
pub record IsStated (p : Parts) (env : List Declaration) (q : Parts) : Type 0 where
  pub statements : List Statement
  pub parts : parts_from q statements ≡ p
  pub right : AreRight (rows_in env) (all_lines statements ++ (lines.End ∷ []))

same-rows : (make : ℕ → ℕ → ℕ → Rows) {a b c a' b' c' : ℕ} → a ≡ a' → b ≡ b' → c ≡ c' → make a b c ≡ make a' b' c'
same-rows make e f g = cc

abbrev made-rows : ℕ → ℕ → ℕ → Rows
made-rows a b c = record { sorts = a; terms = b; thms = c }

none-more : {A : Type 0} → (xs ys : List A) → ys ≡ xs ++ [] → length ys ≡ length xs
none-more xs ys e = ap length (e ∙ append-nil xs)

one-longer : {A : Type 0} → (xs ys : List A) (x : A) → ys ≡ xs ++ (x ∷ []) → length ys ≡ length xs + 1
one-longer xs ys x e = ap length e ∙ length-append xs (x ∷ [])

sort-counts : (env : List Declaration) (m : SortMods) → rows_in (env ++ (sort_decl m ∷ [])) ≡ taken (rows_in env) kinds.Sort
sort-counts env m = same-rows made-rows (one-longer (sorts env) _ m (sorts-append env (sort_decl m ∷ []))) (none-more (terms env) _ (terms-append env (sort_decl m ∷ []))) (none-more (assertions env) _ (assertions-append env (sort_decl m ∷ [])))

term-counts : (env : List Declaration) (d : Term) → rows_in (env ++ (term_decl d ∷ [])) ≡ taken (rows_in env) kinds.Term
term-counts env d = same-rows made-rows (none-more (sorts env) _ (sorts-append env (term_decl d ∷ []))) (one-longer (terms env) _ d (terms-append env (term_decl d ∷ []))) (none-more (assertions env) _ (assertions-append env (term_decl d ∷ [])))

assertion-counts : (env : List Declaration) (a : Assertion) → rows_in (env ++ (assertion_decl a ∷ [])) ≡ taken (rows_in env) kinds.Axiom
assertion-counts env a = same-rows made-rows (none-more (sorts env) _ (sorts-append env (assertion_decl a ∷ []))) (none-more (terms env) _ (terms-append env (assertion_decl a ∷ []))) (one-longer (assertions env) _ a (assertions-append env (assertion_decl a ∷ [])))

same-written : (make : ℕ → List ℕ → Written) (w : Written) {c : ℕ} {b : List ℕ} → w.code ≡ c → w.body ≡ b → make w.code w.body ≡ make c b
same-written make w e f = cc

abbrev made-written : ℕ → List ℕ → Written
made-written c b = record { code = c; body = b }

written-is : (w : Written) {c : ℕ} {b : List ℕ} → w.code ≡ c → w.body ≡ b → w ≡ made-written c b
written-is w e f = same-written made-written w e f

module _ (gaps : Bool) (p : Parts) (fit : Fit p) where
  -- ---- one more

  with-sort : (env : List Declaration) (q : Parts) (w : Written) (ws : List Written) (m : SortMods) → IsBefore p env q (w ∷ ws) → slice_get p.sorts (length (sorts env)) ≡ Some m.0 → IsBefore p (env ++ (sort_decl m ∷ [])) (record q { sorts = q.sorts ++ (m.0 ∷ []); statements = q.statements ++ (w ∷ []) }) ws
  with-sort env q w ws m b e =
      let n = b.sorts_many in
      let counts = sort-counts env m in
      let k = ap (λ (r : Rows). r.sorts) counts in
      let long = length-append q.sorts (m.0 ∷ []) in
      record {
        sorts_are = item-next q.sorts b.sorts_are.0 p.sorts (length (sorts env)) m.0 b.sorts_are.1 n e;
        sorts_many = omega (arith, n, k, long);
        terms_are = b.terms_are;
        terms_many = b.terms_many ∙ sym (ap (λ (r : Rows). r.terms) counts);
        thms_are = b.thms_are;
        thms_many = b.thms_many ∙ sym (ap (λ (r : Rows). r.thms) counts);
        statements_are = b.statements_are ∙ sym (append_assoc q.statements (w ∷ []) ws);
      }

  with-term : (env : List Declaration) (q : Parts) (w : Written) (ws : List Written) (d : Term) (r : Row) → IsBefore p env q (w ∷ ws) → slice_get p.terms (length (terms env)) ≡ Some r → IsBefore p (env ++ (term_decl d ∷ [])) (record q { terms = q.terms ++ (r ∷ []); statements = q.statements ++ (w ∷ []) }) ws
  with-term env q w ws d r b e =
      let n = b.terms_many in
      let counts = term-counts env d in
      let k = ap (λ (x : Rows). x.terms) counts in
      let long = length-append q.terms (r ∷ []) in
      record {
        sorts_are = b.sorts_are;
        sorts_many = b.sorts_many ∙ sym (ap (λ (x : Rows). x.sorts) counts);
        terms_are = item-next q.terms b.terms_are.0 p.terms (length (terms env)) r b.terms_are.1 n e;
        terms_many = omega (arith, n, k, long);
        thms_are = b.thms_are;
        thms_many = b.thms_many ∙ sym (ap (λ (x : Rows). x.thms) counts);
        statements_are = b.statements_are ∙ sym (append_assoc q.statements (w ∷ []) ws);
      }

  with-thm : (env : List Declaration) (q : Parts) (w : Written) (ws : List Written) (a : Assertion) (r : Row) → IsBefore p env q (w ∷ ws) → slice_get p.thms (length (assertions env)) ≡ Some r → IsBefore p (env ++ (assertion_decl a ∷ [])) (record q { thms = q.thms ++ (r ∷ []); statements = q.statements ++ (w ∷ []) }) ws
  with-thm env q w ws a r b e =
      let n = b.thms_many in
      let counts = assertion-counts env a in
      let k = ap (λ (x : Rows). x.thms) counts in
      let long = length-append q.thms (r ∷ []) in
      record {
        sorts_are = b.sorts_are;
        sorts_many = b.sorts_many ∙ sym (ap (λ (x : Rows). x.sorts) counts);
        terms_are = b.terms_are;
        terms_many = b.terms_many ∙ sym (ap (λ (x : Rows). x.terms) counts);
        thms_are = item-next q.thms b.thms_are.0 p.thms (length (assertions env)) r b.thms_are.1 n e;
        thms_many = omega (arith, n, k, long);
        statements_are = b.statements_are ∙ sym (append_assoc q.statements (w ∷ []) ws);
      }

  -- a statement, and those behind it
  stated-next : (env : List Declaration) (d : Declaration) (q : Parts) (s : Statement) → IsStated p (env ++ (d ∷ [])) (with_statement q s) → ((more : List Line) → AreRight (rows_in (env ++ (d ∷ []))) more → AreRight (rows_in env) (statement_lines s ++ more)) → IsStated p env q
  stated-next env d q s rest right = record {
    statements = s ∷ rest.statements;
    parts = rest.parts;
    right = subst (AreRight (rows_in env)) (sym (append_assoc (statement_lines s) (all_lines rest.statements) (lines.End ∷ []))) (right (all_lines rest.statements ++ (lines.End ∷ [])) rest.right);
  }

  term-few : (env : List Declaration) (r : Row) → slice_get p.terms (length (terms env)) ≡ Some r → (length (terms env) ≤ 4294967295) × HasRoom 1 r
  term-few env r e =
      let below = slice_get_within p.terms (length (terms env)) r e in
      let short = fit.short in
      (omega (arith, below, short), room-at p.terms (length (terms env)) r (HasRoom 1) e fit.room.terms)

  thm-few : (env : List Declaration) (r : Row) → slice_get p.thms (length (assertions env)) ≡ Some r → (length (assertions env) ≤ 4294967295) × HasRoom 0 r
  thm-few env r e =
      let below = slice_get_within p.thms (length (assertions env)) r e in
      let short = fit.short in
      (omega (arith, below, short), room-at p.thms (length (assertions env)) r (HasRoom 0) e fit.room.thms)

  -- the lines of words, and of what follows them
  term-lines : (rows : Rows) (ps : List Word) (o : Word) (ls more : List Line) → AreWords (ps ++ (o ∷ [])) → AreRight rows (ls ++ more) → AreRight rows ((map lines.Param ps ++ (lines.Outcome o ∷ ls)) ++ more)
  term-lines rows ps o ls more words right =
      let apart = words-apart ps o words in
      subst (AreRight rows) (sym (append_assoc (map lines.Param ps) (lines.Outcome o ∷ ls) more)) (right-params rows ps (lines.Outcome o ∷ (ls ++ more)) apart.0 (tt, tt, apart.1, right))

  thm-lines : (rows : Rows) (ps : List Word) (ls more : List Line) → AreWords ps → AreRight rows (ls ++ more) → AreRight rows ((map lines.Param ps ++ ls) ++ more)
  thm-lines rows ps ls more words right = subst (AreRight rows) (sym (append_assoc (map lines.Param ps) ls more)) (right-params rows ps (ls ++ more) words right)

  module _ (env : List Declaration) (q : Parts) (w : Written) (ws : List Written) (before : IsBefore p env q (w ∷ ws)) where
    sort-stated : (m : SortMods) → slice_get p.sorts (length (sorts env)) ≡ Some m.0 → w.code ≡ 0x04 → w.body ≡ [] → ((next : Parts) → IsBefore p (env ++ (sort_decl m ∷ [])) next ws → IsStated p (env ++ (sort_decl m ∷ [])) next) → IsStated p env q
    sort-stated m e code body rest =
        let s : Statement = st kinds.Sort (length (sorts env)) m.0 [] (record { 0 = 0 }) [] [] in
        let below = slice_get_within p.sorts (length (sorts env)) m.0 e in
        let few = fit.few_sorts in
        let mods = room-at p.sorts (length (sorts env)) m.0 (λ x. x < 16) e fit.room.mods in
        let after = subst (λ (v : Written). IsBefore p (env ++ (sort_decl m ∷ [])) (record q { sorts = q.sorts ++ (m.0 ∷ []); statements = q.statements ++ (v ∷ []) }) ws) (written-is w code body) (with-sort env q w ws m before e) in
        stated-next env (sort_decl m) q s (rest (with_statement q s) after)
        (λ more right. ((omega (arith, below, few), omega (arith, mods), omega (arith, below, few)), refl, tt, subst (λ (r : Rows). AreRight r more) (sort-counts env m) right))

    plain-stated : (d : Term) (ps : List Word) (o : Word) → slice_get p.terms (length (terms env)) ≡ Some (row_of_term ps o None) → w.code ≡ 0x05 → w.body ≡ [] → ((next : Parts) → IsBefore p (env ++ (term_decl d ∷ [])) next ws → IsStated p (env ++ (term_decl d ∷ [])) next) → IsStated p env q
    plain-stated d ps o e code body rest =
        let s : Statement = st kinds.Term (length (terms env)) 0 ps o [] [] in
        let few = term-few env (row_of_term ps o None) e in
        let short = few.1.few_params in
        let after = subst (λ (v : Written). IsBefore p (env ++ (term_decl d ∷ [])) (record q { terms = q.terms ++ (row_of_term ps o None ∷ []); statements = q.statements ++ (v ∷ []) }) ws) (written-is w code body) (with-term env q w ws d (row_of_term ps o None) before e) in
        stated-next env (term_decl d) q s (rest (with_statement q s) after)
        (λ more right. ((few.0, omega (arith, short), tt), refl, tt, term-lines (taken (rows_in env) kinds.Term) ps o [] more (words-of (ps ++ (o ∷ [])) few.1.words) (subst (λ (r : Rows). AreRight r more) (term-counts env d) right)))

    definition-right : (d : Term) (ps : List Word) (o : Word) (us : List (UnifyCode × ℕ)) (qs : List (ProofCode × ℕ)) → slice_get p.terms (length (terms env)) ≡ Some (row_of_term ps o (Some (unify_bytes us ++ (0 ∷ [])))) → AreFit unify_has_number us → AreFit proof_has_number qs → (more : List Line) → AreRight (rows_in (env ++ (term_decl d ∷ []))) more
        → (length (terms env) ≤ 4294967295) × (length ps ≤ 65535) × AreRight (taken (rows_in env) kinds.Term) ((map lines.Param ps ++ (lines.Outcome o ∷ both_streams us qs)) ++ more)
    definition-right d ps o us qs e fit-us fit-qs more right =
        let few = term-few env (row_of_term ps o (Some (unify_bytes us ++ (0 ∷ [])))) e in
        let short = few.1.few_params in
        (few.0, omega (arith, short), term-lines (taken (rows_in env) kinds.Term) ps o (both_streams us qs) more (words-of (ps ++ (o ∷ [])) few.1.words) (right-streams (taken (rows_in env) kinds.Term) us qs more fit-us fit-qs (subst (λ (r : Rows). AreRight r more) (term-counts env d) right)))

    definition-stated : (d : Term) (ps : List Word) (o : Word) (us : List (UnifyCode × ℕ)) (qs : List (ProofCode × ℕ)) → slice_get p.terms (length (terms env)) ≡ Some (row_of_term ps o (Some (unify_bytes us ++ (0 ∷ [])))) → (w.code ≡ 0x05) ⊎ (w.code ≡ 0x0D) → w.body ≡ proof_bytes qs ++ (0 ∷ []) → AreFit unify_has_number us → AreFit proof_has_number qs → ((next : Parts) → IsBefore p (env ++ (term_decl d ∷ [])) next ws → IsStated p (env ++ (term_decl d ∷ [])) next) → IsStated p env q
    definition-stated d ps o us qs e (inl code) body fit-us fit-qs rest =
        let s : Statement = st kinds.Definition (length (terms env)) 0 ps o us qs in
        let r : Row = row_of_term ps o (Some (unify_bytes us ++ (0 ∷ []))) in
        let after = subst (λ (v : Written). IsBefore p (env ++ (term_decl d ∷ [])) (record q { terms = q.terms ++ (r ∷ []); statements = q.statements ++ (v ∷ []) }) ws) (written-is w code body) (with-term env q w ws d r before e) in
        stated-next env (term_decl d) q s (rest (with_statement q s) after) (λ more right. let all = definition-right d ps o us qs e fit-us fit-qs more right in ((all.0, all.1, tt), refl, tt, all.2))
    definition-stated d ps o us qs e (inr code) body fit-us fit-qs rest =
        let s : Statement = st kinds.LocalDefinition (length (terms env)) 0 ps o us qs in
        let r : Row = row_of_term ps o (Some (unify_bytes us ++ (0 ∷ []))) in
        let after = subst (λ (v : Written). IsBefore p (env ++ (term_decl d ∷ [])) (record q { terms = q.terms ++ (r ∷ []); statements = q.statements ++ (v ∷ []) }) ws) (written-is w code body) (with-term env q w ws d r before e) in
        stated-next env (term_decl d) q s (rest (with_statement q s) after) (λ more right. let all = definition-right d ps o us qs e fit-us fit-qs more right in ((all.0, all.1, tt), refl, tt, all.2))

    assertion-right : (a : Assertion) (ps : List Word) (us : List (UnifyCode × ℕ)) (qs : List (ProofCode × ℕ)) → slice_get p.thms (length (assertions env)) ≡ Some (row_of_thm ps (unify_bytes us ++ (0 ∷ []))) → AreFit unify_has_number us → AreFit proof_has_number qs → (more : List Line) → AreRight (rows_in (env ++ (assertion_decl a ∷ []))) more
        → (length (assertions env) ≤ 4294967295) × (length ps ≤ 65535) × AreRight (taken (rows_in env) kinds.Axiom) ((map lines.Param ps ++ both_streams us qs) ++ more)
    assertion-right a ps us qs e fit-us fit-qs more right =
        let few = thm-few env (row_of_thm ps (unify_bytes us ++ (0 ∷ []))) e in
        let short = few.1.few_params in
        (few.0, omega (arith, short), thm-lines (taken (rows_in env) kinds.Axiom) ps (both_streams us qs) more (words-of ps few.1.words) (right-streams (taken (rows_in env) kinds.Axiom) us qs more fit-us fit-qs (subst (λ (r : Rows). AreRight r more) (assertion-counts env a) right)))

    assertion-stated : (a : Assertion) (ps : List Word) (us : List (UnifyCode × ℕ)) (qs : List (ProofCode × ℕ)) → slice_get p.thms (length (assertions env)) ≡ Some (row_of_thm ps (unify_bytes us ++ (0 ∷ []))) → (w.code ≡ 0x02) ⊎ ((w.code ≡ 0x06) ⊎ (w.code ≡ 0x0E)) → w.body ≡ proof_bytes qs ++ (0 ∷ []) → AreFit unify_has_number us → AreFit proof_has_number qs → ((next : Parts) → IsBefore p (env ++ (assertion_decl a ∷ [])) next ws → IsStated p (env ++ (assertion_decl a ∷ [])) next) → IsStated p env q
    assertion-stated a ps us qs e (inl code) body fit-us fit-qs rest =
        let s : Statement = st kinds.Axiom (length (assertions env)) 0 ps (record { 0 = 0 }) us qs in
        let r : Row = row_of_thm ps (unify_bytes us ++ (0 ∷ [])) in
        let after = subst (λ (v : Written). IsBefore p (env ++ (assertion_decl a ∷ [])) (record q { thms = q.thms ++ (r ∷ []); statements = q.statements ++ (v ∷ []) }) ws) (written-is w code body) (with-thm env q w ws a r before e) in
        stated-next env (assertion_decl a) q s (rest (with_statement q s) after) (λ more right. let all = assertion-right a ps us qs e fit-us fit-qs more right in ((all.0, all.1, tt), refl, tt, all.2))
    assertion-stated a ps us qs e (inr (inl code)) body fit-us fit-qs rest =
        let s : Statement = st kinds.Theorem (length (assertions env)) 0 ps (record { 0 = 0 }) us qs in
        let r : Row = row_of_thm ps (unify_bytes us ++ (0 ∷ [])) in
        let after = subst (λ (v : Written). IsBefore p (env ++ (assertion_decl a ∷ [])) (record q { thms = q.thms ++ (r ∷ []); statements = q.statements ++ (v ∷ []) }) ws) (written-is w code body) (with-thm env q w ws a r before e) in
        stated-next env (assertion_decl a) q s (rest (with_statement q s) after) (λ more right. let all = assertion-right a ps us qs e fit-us fit-qs more right in ((all.0, all.1, tt), refl, tt, all.2))
    assertion-stated a ps us qs e (inr (inr code)) body fit-us fit-qs rest =
        let s : Statement = st kinds.LocalTheorem (length (assertions env)) 0 ps (record { 0 = 0 }) us qs in
        let r : Row = row_of_thm ps (unify_bytes us ++ (0 ∷ [])) in
        let after = subst (λ (v : Written). IsBefore p (env ++ (assertion_decl a ∷ [])) (record q { thms = q.thms ++ (r ∷ []); statements = q.statements ++ (v ∷ []) }) ws) (written-is w code body) (with-thm env q w ws a r before e) in
        stated-next env (assertion_decl a) q s (rest (with_statement q s) after) (λ more right. let all = assertion-right a ps us qs e fit-us fit-qs more right in ((all.0, all.1, tt), refl, tt, all.2))

    -- a local term is no plain one
    public-code : (local : Bool) → local ≡ false → local ≡ is_local_code w.code → (w.code ≡ 0x05) ⊎ (w.code ≡ 0x0D) → w.code ≡ 0x05
    public-code local public is (inl code) = code
    public-code local public is (inr code) = absurd (let yes : is_local_code w.code ≡ true = ap is_local_code code in let other : is_local_code w.code ≡ false = sym is ∙ public in cc)

    form-stated : (d : Term) (local : Bool) (signature : Signature) (ps : List Word) (o : Word) (f g : Form) → IsWrittenForm gaps p env local signature ps o f g w.body → local ≡ is_local_code w.code → (w.code ≡ 0x05) ⊎ (w.code ≡ 0x0D) → ((next : Parts) → IsBefore p (env ++ (term_decl d ∷ [])) next ws → IsStated p (env ++ (term_decl d ∷ [])) next) → IsStated p env q
    form-stated d local signature ps o plain_form plain_form (row, public, body) is code rest = plain-stated d ps o row (public-code local public is code) body rest
    form-stated d local signature ps o (defined xs e) (defined ys f) (stream, row, text, body) is code rest =
        let us : List (UnifyCode × ℕ) = map unify_op text.commands in
        let stream-same : stream ≡ unify_bytes us ++ (0 ∷ []) = text.written ∙ stream-is text.commands text.short in
        definition-stated d ps o us body.body.commands (row ∙ ap (λ (x : List ℕ). Some (row_of_term ps o (Some x))) stream-same) code (body.body.spelled ∙ body-is body.body.commands) (stream-fit text.commands text.short) (body-fit (standard gaps) is_definition body.body.commands body.body.may_stand body.plain) rest
    form-stated d local signature ps o abstract_form plain_form is _ _ rest = absurd is
    form-stated d local signature ps o _ _ is _ _ rest = absurd is

    assertion-code : (b : Bool) → MatchBool b (w.code ≡ 0x02) ((w.code ≡ 0x06) ⊎ (w.code ≡ 0x0E)) → (w.code ≡ 0x02) ⊎ ((w.code ≡ 0x06) ⊎ (w.code ≡ 0x0E))
    assertion-code true code = inl code
    assertion-code false code = inr code

    declaration-stated : (local : Bool) (d d' : Declaration) → IsWrittenDeclaration gaps p env local d d' w.body → IsKindOf w.code d' → local ≡ is_local_code w.code → ((next : Parts) → IsBefore p (env ++ (d ∷ [])) next ws → IsStated p (env ++ (d ∷ [])) next) → IsStated p env q
    declaration-stated local (sort_decl m) (sort_decl m') (same, row, body) code is rest = sort-stated m row code body rest
    declaration-stated local (term_decl d) (term_decl d') (same, (ps, o, say, form)) code is rest = form-stated d local d.signature ps o d.form d'.form form is code rest
    declaration-stated local (assertion_decl a) (assertion_decl a') (same, it) code is rest =
        let us : List (UnifyCode × ℕ) = map unify_op it.text.commands in
        let stream-same : it.stream ≡ unify_bytes us ++ (0 ∷ []) = it.text.written ∙ stream-is it.text.commands it.text.short in
        assertion-stated a it.words us it.body.body.commands (it.row ∙ ap (λ (x : List ℕ). Some (row_of_thm it.words x)) stream-same) (assertion-code a'.is_axiom code) (it.body.body.spelled ∙ body-is it.body.body.commands) (stream-fit it.text.commands it.text.short) (body-fit (standard gaps) (kind_of a.is_axiom) it.body.body.commands it.body.body.may_stand it.body.plain) rest
    declaration-stated local _ _ is _ _ rest = absurd is

  -- ---- all of them

  none-left : {A : Type 0} → (xs ys rest : List A) → ys ≡ xs ++ rest → length xs ≡ length ys → xs ≡ ys
  none-left xs ys [] e n = sym (e ∙ append-nil xs)
  none-left xs ys (r ∷ rest) e n = absurd (let many = ap length e in let long = length-append xs (r ∷ rest) in omega (arith, many, long, n))

  same-parts : (make : List ℕ → List Row → List Row → List Written → Parts) (q : Parts) → q.sorts ≡ p.sorts → q.terms ≡ p.terms → q.thms ≡ p.thms → q.statements ≡ p.statements → make q.sorts q.terms q.thms q.statements ≡ make p.sorts p.terms p.thms p.statements
  same-parts make q a b c d = cc

  all-stated : (env : List Declaration) (ts ss : List Marked) (ws : List Written) (q : Parts) → AreWritten gaps p env ts ss ws → IsBefore p env q ws → IsStated p env q
  all-stated env [] [] [] q none before =
      let sorts-n = before.sorts_many ∙ none.no_sorts in
      let terms-n = before.terms_many ∙ none.no_terms in
      let thms-n = before.thms_many ∙ none.no_thms in
      record {
        statements = [];
        parts = same-parts (λ a b c d. record { sorts = a; terms = b; thms = c; statements = d }) q (none-left q.sorts p.sorts before.sorts_are.0 before.sorts_are.1 sorts-n) (none-left q.terms p.terms before.terms_are.0 before.terms_are.1 terms-n) (none-left q.thms p.thms before.thms_are.0 before.thms_are.1 thms-n) (sym (before.statements_are ∙ append-nil q.statements));
        right = (tt, tt, tt, tt);
      }
  all-stated env (t ∷ ts) (s ∷ ss) (w ∷ ws) q (one, more) before =
      declaration-stated env q w ws before s.is_local t.decl s.decl one.declaration one.code.0 one.code.1 (λ next b. all-stated (env ++ (t.decl ∷ [])) ts ss ws next more b)
  all-stated env [] (s ∷ ss) [] q is before = absurd is
  all-stated env (t ∷ ts) [] [] q is before = absurd is
  all-stated env _ _ _ q is before = absurd is

pub files-normal : (gaps : Bool) (p : Parts) (text made : List Marked) → Fit p → IsWrittenAs gaps p text made → IsNormal (file_of p)
files-normal gaps p text made fit says =
    let stated : IsStated p [] no_parts = all-stated gaps p fit [] text made p.statements no_parts says (record { sorts_are = (p.sorts, refl); sorts_many = refl; terms_are = (p.terms, refl); terms_many = refl; thms_are = (p.thms, refl); thms_many = refl; statements_are = refl }) in
    let right = right-fits no_rows (listing_lines stated.statements) stated.right in
    let long = file-length p in
    let short = fit.short in
    by-bytes (file_of p) (omega (arith, long, short)) (record { statements = stated.statements; fitting = right.0; plain = right.1; file_is = ap (λ (x : Parts). file_of x) (sym stated.parts) })

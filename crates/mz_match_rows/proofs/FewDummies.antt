-- A definition has at most 55 dummies: its body finds them among the bound variables of its context.
use Rattle.std.proofs.Common.{◌≡◌, ◌≤◌, ◌+◌, ◌∙◌, ℕ, zero, suc, Bool, true, false, not, cond, ltb, eqb, List, [], ◌∷◌, ◌++◌, length, drop, Option, Some, None, Result, Ok, Err, slice_get, refl, sym, ap, subst, inl, inr, arith}
use Rattle.std.specs.Prelude.{if◌then◌else◌, ◌&&◌, ◌==◌}
use Rattle.std.proofs.lemmas.Bool.{false≢true, ltb-true}
use Rattle.mz_base.specs.Checks.{AllHold}
use Rattle.mz_base.proofs.Offered.{all_hold-rest}
use Rattle.mz_cmd.specs.declared.rule.K.TheVariants as k
use Rattle.mz_cmd.specs.declared.command.Cmd.{Cmd}
use Rattle.mz_cmd.specs.declared.command.CmdFault.{CmdFault}
use Rattle.mz_cmd.specs.declared.code.ProofCode.{ProofCode}
use Rattle.mz_cmd.specs.declared.code.ProofCode.TheVariants as code
use Rattle.mz_cmd.specs.declared.statement.StmtAt.{StmtAt}
use Rattle.mz_cmd.specs.declared.statement.StmtFault.{StmtFault}
use Rattle.mz_cmd.specs.Codes.{proof_code, statement_code}
use Rattle.mz_cmd.specs.Reading.{first_command}
use Rattle.mz_logic_theory.specs.Tree.{Tree, none}
use Rattle.mz_logic_theory.specs.Declaration.{Declaration, term_decl, Term, defined, sorts, terms, signatures}
use Rattle.mz_logic_theory.specs.LegalLists.{Statement}
use Rattle.mz_logic_theory.specs.Conversions.{AreFresh}
use Rattle.mz_logic_theory.specs.Words.{binders_of}
use Rattle.mz_logic_theory.specs.declared.binder.Binder.{Binder}
use Rattle.mz_layout_tables.specs.Tables.{list_at, term_row}
use Rattle.mz_machine_theory.specs.Steps.{◌>>◌, need, at_place, Turn, over, goes_on, follow}
use Rattle.mz_machine_theory.specs.Streams.{of_definition}
use Rattle.mz_machine_theory.specs.Spells.{trees_of, dummy_of, variables_from, SpellsForm}
use Rattle.mz_machine_theory.specs.Profile.{plain, strict, Item, expr, proof, obligation, conversion}
use Rattle.mz_machine_theory.specs.UnifyMachine.{in_definition, is_empty}
use Rattle.mz_machine_theory.proofs.Offered.{from_bind, from_need, from_want, taken, taken-is, place-ok, place_from, renamed, definition-spelled, unfolding-is, one-text, length-params, body-fact, end-ran, own-run, last-expr}
use Rattle.mz_machine_theory.specs.MachineState.{RowsBefore, signatures_in, State, Kind, is_definition, Heading, Declares}
use Rattle.mz_logic_theory.specs.Legality.{sort_of}
use Rattle.mz_machine_theory.specs.FreeVars.{free_within}
use Rattle.mz_machine_theory.specs.Premises.{bound_count, pop, pop_obligation, is_obligation, may_be_dummy_sort}
use Rattle.mz_layout_tables.specs.RowWords.{word_checks}
use Rattle.mz_machine_theory.specs.Lists.{definition_of}
use Rattle.mz_layout_tables.specs.Heads.{body_bytes}
use Rattle.mz_machine_theory.specs.FileRows.{taken_by, rows_taken, term_of_file}
use Rattle.mz_machine_theory.specs.ProofMachine.{ends_with, matched_by, built, referred, proof_step, proof_end, last_item, ending, own_stream}
use Rattle.mz_machine_theory.specs.Bodies.{BodyCommand, ends, proves, stands_in, if_allowed, body_command, body_turn, body_turn_by, body_from, body_start, Runs}
use Rattle.mz_layout_tables.proofs.Offered.{right-words}
use Rattle.mz_binary_theory.specs.Chains.{IsGoodStatement, GoodTo}
use Rattle.mz_binary_theory.specs.Checking.{checks_of, kind_checks, term_checks, term_body_checks}
use Rattle.mz_binary_theory.specs.Laws.{HasRow}
use Rattle.mz_binary_theory.specs.Spelling.{IsKindOf, SpellsRow}
use Rattle.mz_binary_theory.proofs.Offered.{well-chain, good-rows, runs-by-table, Among, fresh-fewer, words-bound}
use Rattle.mz_binary_theory.specs.Standards.{lets_gaps, Standard}

-- ---- the commands of a definition's body add at most one bound variable, where there are fewer than 55

abbrev Few : State Tree → Type 0
Few st = bound_count st.ctx ≤ 55

few-same : (s st : State Tree) → taken s ≡ taken st → Few s → Few st
few-same s st e few = subst Few (taken-is s st e) few

one-more : (ctx : List Binder) (s : ℕ) → bound_count (ctx ++ dummy_of s ∷ []) ≡ suc (bound_count ctx)
one-more [] s = refl
one-more (b ∷ bs) s = go b.bound (one-more bs s)
  where
    go : (t : Bool) → bound_count (bs ++ dummy_of s ∷ []) ≡ suc (bound_count bs) → cond t (suc (bound_count (bs ++ dummy_of s ∷ []))) (bound_count (bs ++ dummy_of s ∷ [])) ≡ suc (cond t (suc (bound_count bs)) (bound_count bs))
    go true e = ap suc e
    go false e = e

module _ (gaps : Bool) where
  referred-few : (x : Item Tree) (st st' : State Tree) → referred (plain gaps) x st ≡ Ok st' → Few st → Few st'
  referred-few (expr e) st st' is few = few-same _ st' is few
  referred-few (proof e) st st' is few = few-same _ st' is few
  referred-few (obligation l r) st st' is few = few-same _ st' is few
  referred-few (conversion l r) st st' is few =
      from_bind (pop_obligation st.stack) _ st' is λ o popped e1.
      from_need ((plain gaps).same l o.0 && (plain gaps).same r o.1) k.ConversionReference _ st' e1 λ t e2. few-same _ st' e2 few

  row-few : (tables : RowsBefore) (at : ℕ) (c : ProofCode) (n : ℕ) (st st' : State Tree) → stands_in (plain gaps) is_definition c ≡ true → proof_step (plain gaps) tables at c n st ≡ Ok st' → Few st → Few st'
  unfolding proof_step
  row-few tables at code.Term n st st' may e few = from_bind (built (plain gaps) tables at n st) _ st' e λ r made e1. few-same _ st' e1 few
  row-few tables at code.TermSave n st st' may e few = from_bind (built (plain gaps) tables at n st) _ st' e λ r made e1. few-same _ st' e1 few
  row-few tables at code.Ref n st st' may e few = from_want (slice_get st.heap n) k.HeapIndex _ st' e λ x there e1. referred-few x st st' e1 few
  row-few tables at code.Dummy n st st' may e few =
      from_need (may_be_dummy_sort (slice_get tables.sorts n)) k.DummySort _ st' e λ sort e1.
      from_need (ltb (bound_count st.ctx) 55) k.DummyCount _ st' e1 λ room e2.
      few-same _ st' e2 (let below = ltb-true (bound_count st.ctx) 55 room in omega (arith, below, one-more st.ctx n))
  row-few tables at code.Save n st st' may e few =
      from_bind (pop st.stack) _ st' e λ x popped e1. from_need (not (is_obligation x.0)) k.SaveKind _ st' e1 λ t e2. few-same _ st' e2 few
  row-few tables at code.ConvRef n st st' may e few = absurd (false≢true may)
  row-few tables at code.Thm n st st' may e few = absurd (false≢true may)
  row-few tables at code.ThmSave n st st' may e few = absurd (false≢true may)
  row-few tables at code.Hyp n st st' may e few = absurd (false≢true may)
  row-few tables at code.Conv n st st' may e few = absurd (false≢true may)
  row-few tables at code.Refl n st st' may e few = absurd (false≢true may)
  row-few tables at code.Symm n st st' may e few = absurd (false≢true may)
  row-few tables at code.Cong n st st' may e few = absurd (false≢true may)
  row-few tables at code.Unfold n st st' may e few = absurd (false≢true may)
  row-few tables at code.ConvCut n st st' may e few = absurd (false≢true may)
  row-few tables at code.ConvSave n st st' may e few = absurd (false≢true may)
  row-few tables at code.Sorry n st st' may e few = absurd (false≢true may)

  from_follow : {S F G : Type 0} (r : Result (Turn S) F) (rest : ℕ → S → Result S F) (y : S) → follow r rest ≡ Ok y
      → ((s : S) → r ≡ Ok (over s) → s ≡ y → G) → ((len : ℕ) (s : S) → r ≡ Ok (goes_on len s) → rest len s ≡ Ok y → G) → G
  from_follow (Err f) rest y e ended went = absurd cc
  from_follow (Ok (over s)) rest y e ended went = ended s refl cc
  from_follow (Ok (goes_on len s)) rest y e ended went = went len s refl e

  module _ (tables : RowsBefore) (h : Heading) (kind : h.kind ≡ is_definition) where
    end-few : (st s : State Tree) → proof_end (plain gaps) tables h st ≡ Ok s → Few st → Few s
    unfolding proof_end
    end-few st s done few =
        from_bind (ends_with (plain gaps) tables h st) _ s done λ m is e1.
        from_bind (matched_by (plain gaps) tables st.ctx m) _ s e1 λ u ran e2. few-same st s e2 few

    allowed : (value : ℕ) (o : Option ProofCode) (c : ProofCode) (n : ℕ) → if_allowed (plain gaps) h.kind value o ≡ Some (proves c n) → stands_in (plain gaps) is_definition c ≡ true
    allowed value None c n e = absurd cc
    allowed value (Some d) c n e = go (stands_in (plain gaps) h.kind d) refl e
      where
        go : (b : Bool) → stands_in (plain gaps) h.kind d ≡ b → cond b (Some (proves d value)) None ≡ Some (proves c n) → stands_in (plain gaps) is_definition c ≡ true
        go true may t = let both : proves d value ≡ proves c n = cc in let same : d ≡ c = cc in subst (λ (x : ProofCode). stands_in (plain gaps) is_definition x ≡ true) same (ap (λ (z : Kind). stands_in (plain gaps) z d) (sym kind) ∙ may)
        go false may t = absurd cc

    command-may : (byte value : ℕ) (c : ProofCode) (n : ℕ) → body_command (plain gaps) h.kind byte value ≡ Some (proves c n) → stands_in (plain gaps) is_definition c ≡ true
    command-may byte value c n e = go (eqb byte 0x00) e
      where
        go : (b : Bool) → cond b (Some ends) (if_allowed (plain gaps) h.kind value (proof_code byte)) ≡ Some (proves c n) → stands_in (plain gaps) is_definition c ≡ true
        go true t = absurd cc
        go false t = allowed value (proof_code byte) c n t

    -- the state after a turn
    abbrev Next : Turn (State Tree) → State Tree → Type 0
    Next (over s) t = s ≡ t
    Next (goes_on len s) t = s ≡ t

    turn-few : (at len : ℕ) (rest : List ℕ) (st t : State Tree) (turn : Turn (State Tree)) (o : Option BodyCommand) → ((c : ProofCode) (n : ℕ) → o ≡ Some (proves c n) → stands_in (plain gaps) is_definition c ≡ true)
        → body_turn_by (plain gaps) tables h at len rest st o ≡ Ok turn → Next turn t → Few st → Few t
    turn-few at len rest st t turn None may e next few = absurd cc
    turn-few at len rest st t turn (Some ends) may e next few =
        from_bind (need (is_empty rest) k.StatementLength >> proof_end (plain gaps) tables h st) _ turn e λ s both e1.
        from_need (is_empty rest) k.StatementLength _ s both λ p done.
        let is : over s ≡ turn = cc in subst Few (subst (λ (u : Turn (State Tree)). Next u t) (sym is) next) (end-few st s done few)
    turn-few at len rest st t turn (Some (proves c n)) may e next few =
        from_bind (proof_step (plain gaps) tables at c n st) _ turn e λ s row e1.
        let is : goes_on len s ≡ turn = cc in subst Few (subst (λ (u : Turn (State Tree)). Next u t) (sym is) next) (row-few tables at c n st s (may c n refl) row few)

    read-few : (at : ℕ) (bytes : List ℕ) (st t : State Tree) (turn : Turn (State Tree)) (r : Result Cmd CmdFault) → body_turn (plain gaps) tables h at bytes st r ≡ Ok turn → Next turn t → Few st → Few t
    read-few at bytes st t turn (Err f) e next few = absurd cc
    read-few at bytes st t turn (Ok b) e next few =
        turn-few at b.len (drop b.len bytes) st t turn (body_command (plain gaps) h.kind b.code b.value) (λ c n is. command-may b.code b.value c n is) e next few

    body-few : (n at : ℕ) (bytes : List ℕ) (st last : State Tree) → body_from (plain gaps) tables h n at bytes st ≡ Ok last → Few st → Few last
    unfolding body_from
    body-few zero at bytes st last e few = absurd cc
    body-few (suc n) at bytes st last e few =
        from_follow (at_place at (body_turn (plain gaps) tables h at bytes st (first_command bytes))) _ last e
        (λ s turn same. read-few at bytes st last (over s) (first_command bytes) (place-ok at (body_turn (plain gaps) tables h at bytes st (first_command bytes)) (over s) turn) same few)
        (λ len s turn rest. body-few n (at + len) (drop len bytes) s last rest
        (read-few at bytes st s (goes_on len s) (first_command bytes) (place-ok at (body_turn (plain gaps) tables h at bytes st (first_command bytes)) (goes_on len s) turn) refl few))

-- ---- distinct bound variables of a context are no more than it has

abbrev bounds : ℕ → List Binder → List ℕ
bounds i [] = []
bounds i (b ∷ bs) = if b.bound then i ∷ bounds (suc i) bs else bounds (suc i) bs

bounds-many : (i : ℕ) (bs : List Binder) → length (bounds i bs) ≡ bound_count bs
bounds-many i [] = refl
bounds-many i (b ∷ bs) = go b.bound (bounds-many (suc i) bs)
  where
    go : (t : Bool) → length (bounds (suc i) bs) ≡ bound_count bs → length (cond t (i ∷ bounds (suc i) bs) (bounds (suc i) bs)) ≡ cond t (suc (bound_count bs)) (bound_count bs)
    go true e = ap suc e
    go false e = e

bound-among : (i : ℕ) (bs : List Binder) (y : ℕ) (b : Binder) → slice_get bs y ≡ Some b → b.bound ≡ true → Among (i + y) (bounds i bs)
bound-among i [] y b at is = absurd cc
bound-among i (c ∷ bs) zero b at is =
    let same : c ≡ b = cc in
    let bound : c.bound ≡ true = ap (λ (x : Binder). x.bound) same ∙ is in
    subst (λ (t : Bool). Among (i + 0) (cond t (i ∷ bounds (suc i) bs) (bounds (suc i) bs))) (sym bound) (inl (omega arith))
bound-among i (c ∷ bs) (suc y) b at is = go c.bound (subst (λ (z : ℕ). Among z (bounds (suc i) bs)) (let e : suc i + y ≡ i + suc y = omega arith in e) (bound-among (suc i) bs y b at is))
  where
    go : (t : Bool) → Among (i + suc y) (bounds (suc i) bs) → Among (i + suc y) (cond t (i ∷ bounds (suc i) bs) (bounds (suc i) bs))
    go true h = inr h
    go false h = h

fresh-among : (ctx : List Binder) (es : List Tree) (ys : List ℕ) (ds : List Binder) → AreFresh ctx (trees_of es) ys ds → (y : ℕ) → Among y ys → Among y (bounds 0 ctx)
fresh-among ctx es [] ds fresh y h = absurd h
fresh-among ctx es (x ∷ ys) [] fresh y h = absurd fresh
fresh-among ctx es (x ∷ ys) (d ∷ ds) ((b, at, is, sort), free, once, later) y (inl same) =
    subst (λ (z : ℕ). Among z (bounds 0 ctx)) (let e : 0 + x ≡ y = omega (arith, same) in e) (bound-among 0 ctx x b at is)
fresh-among ctx es (x ∷ ys) (d ∷ ds) (bound, free, once, later) y (inr h) = fresh-among ctx es ys ds later y h

fresh-few : (ctx : List Binder) (es : List Tree) (ys : List ℕ) (ds : List Binder) → AreFresh ctx (trees_of es) ys ds → length ds ≤ bound_count ctx
fresh-few ctx es ys ds fresh = let few = fresh-fewer ctx es ys ds (bounds 0 ctx) fresh (fresh-among ctx es ys ds fresh) in omega (arith, few, bounds-many 0 ctx)

-- ---- a definition's row

run-few : (gaps : Bool) (tables : RowsBefore) (env : List Declaration) → Declares tables env → (h : Heading) (at : ℕ) (bytes : List ℕ) → h.kind ≡ is_definition → bound_count h.params ≤ 55 → Runs (plain gaps) tables h at bytes
    → (ds : List Binder) (body : Tree) → SpellsForm (signatures env) h.params (Some h.stream) (defined ds body) → length ds ≤ 55
run-few gaps tables env declares h at bytes kind few (last, run-is) ds body text =
    let (fact, done) = body-fact gaps tables env declares h at bytes last run-is in
    let last-few : Few last = body-few gaps tables h kind (length bytes) at bytes (body_start (plain gaps) h) last run-is few in
    end-ran tables h last done λ e m u e-is ending-is ran.
    from_need (sort_of (signatures_in tables) last.ctx e == h.result.sort) k.DefinitionSort _ m (subst (λ (z : Kind). ending strict tables h last z e ≡ Ok m) kind ending-is) λ sort-test e1.
    from_need (free_within (signatures_in tables) last.ctx h.result.deps e (length last.ctx)) k.DefinitionDependencies _ m e1 λ free-test e2.
    let sorted = last-expr (signatures env) last.ctx last.stack e (subst (λ (z : Kind). last_item z last.stack ≡ Ok e) kind e-is) fact.stack_sorted in
    let own = own-run tables env declares h last.ctx in_definition e [] m u (taken-is (own_stream strict h in_definition e []) m e2) ran in
    let (met, spelled) = definition-spelled (signatures env) last.ctx h.params h.stream e u own sorted in
    let (ys, _, _, (fresh, _)) = unfolding-is (signatures env) last.ctx h.params h.stream met (renamed (place_from 0 u.apart) e) (variables_from 0 h.params) e u spelled (length-params 0 h.params) sorted own in
    let same : met ≡ ds = (one-text of_definition (signatures env) h.params h.stream none none (renamed (place_from 0 u.apart) e) body met ds spelled text).2 in
    let enough = fresh-few last.ctx (variables_from 0 h.params) ys met fresh in
    subst (λ (bs : List Binder). length bs ≤ 55) same (omega (arith, enough, last-few))

-- what is asked of a definition's statement, whether it is local or not
body-asked : (standard : Standard) (file : List ℕ) (env : List Declaration) (at code body next : ℕ) (t : Term) → IsKindOf code (term_decl t) → AllHold (kind_checks standard file (taken_by env) at body next (statement_code code))
    → AllHold (term_checks standard file (taken_by env) at body next)
body-asked standard file env at code body next t (inl is) all = (subst (λ (c : ℕ). AllHold (kind_checks standard file (taken_by env) at body next (statement_code c))) is all).1.1
body-asked standard file env at code body next t (inr is) all = (subst (λ (c : ℕ). AllHold (kind_checks standard file (taken_by env) at body next (statement_code c))) is all).1.1

pub few-dummies : (standard : Standard) (file : List ℕ) (ss : List Statement) (env : List Declaration) (at : ℕ) (s : Statement) (next : ℕ) (t : Term) (dummies : List Binder) (body : Tree)
    → GoodTo standard file [] (list_at file) ss env at → IsGoodStatement standard file env at s next → s.decl ≡ term_decl t → t.form ≡ defined dummies body → length dummies ≤ 55
few-dummies standard file ss env at s next t dummies body before good d-is form-is = go (term_of_file file r).stream refl
  where
    r : ℕ
    r = length (terms env)

    kind : IsKindOf good.spelled.code (term_decl t)
    kind = subst (IsKindOf good.spelled.code) d-is good.spelled.kind.0

    here : AllHold (kind_checks standard file (taken_by env) at good.spelled.body next (statement_code good.spelled.code))
    here = subst (λ (x : Result StmtAt StmtFault). AllHold (checks_of standard file (taken_by env) at x)) good.spelled.stands good.passes

    asked : AllHold (term_body_checks standard file (taken_by env) at good.spelled.body next (term_of_file file r).stream)
    asked =
        all_hold-rest (word_checks (sorts env) (term_row file r)) (term_body_checks standard file (taken_by env) at good.spelled.body next (term_of_file file r).stream)
        (body-asked standard file env at good.spelled.code good.spelled.body next t kind here)

    row : SpellsRow file env (term_decl t)
    row = subst (SpellsRow file env) d-is good.spelled.row

    has : HasRow file env (term_decl t)
    has = subst (HasRow file env) d-is (good-rows standard file env at s next good)

    spelled : SpellsForm (signatures env) (term_of_file file r).signature.params (term_of_file file r).stream (defined dummies body)
    spelled = subst (SpellsForm (signatures env) (term_of_file file r).signature.params (term_of_file file r).stream) form-is row.1.1

    declares : Declares (rows_taken file (taken_by env)) env
    declares = (well-chain standard file [] (list_at file) ss env at before tt (record { sorts_are = refl; terms_are = tt; thms_are = tt })).1

    enough : bound_count (binders_of (term_row file r).words.params) ≤ 55
    enough =
        let words = (right-words (sorts env) (term_row file r).words.params has.1.params).3 in
        omega (arith, words, words-bound 0 [] (term_row file r).words.params)

    go : (o : Option (List ℕ)) → (term_of_file file r).stream ≡ o → length dummies ≤ 55
    go None is = absurd (subst (λ (o : Option (List ℕ)). SpellsForm (signatures env) (term_of_file file r).signature.params o (defined dummies body)) is spelled)
    go (Some stream) is =
        let runs = runs-by-table standard (rows_taken file (taken_by env)) (definition_of (term_of_file file r) stream) good.spelled.body (body_bytes file good.spelled.body next)
        (subst (λ (o : Option (List ℕ)). AllHold (term_body_checks standard file (taken_by env) at good.spelled.body next o)) is asked) in
        run-few (lets_gaps standard) (rows_taken file (taken_by env)) env declares (definition_of (term_of_file file r) stream) good.spelled.body (body_bytes file good.spelled.body next) refl enough runs dummies body
        (subst (λ (o : Option (List ℕ)). SpellsForm (signatures env) (term_of_file file r).signature.params o (defined dummies body)) is spelled)

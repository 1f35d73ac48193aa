-- Rows of the machine that go through, where what they take is there.
use Rattle.std.proofs.Common.{◌≡◌, ℕ, suc, ◌+◌, ◌<◌, ◌≤◌, Bool, true, false, List, [], ◌∷◌, ◌++◌, length, map, Some, Ok, refl, sym, ap, subst, ◌∙◌, arith, eq-eqb, append_assoc, append-nil, length-append}
use Rattle.std.specs.Prelude.{slice_get, reverse, nat_le}
use Rattle.std.proofs.lemmas.List.{reverse-append, reverse-reverse, length-reverse, length-map, map-id}
use Rattle.std.proofs.lemmas.Bool.{le-leb, lt-ltb}
use Rattle.mz_cmd.specs.declared.code.ProofCode.TheVariants as code
use Rattle.mz_logic_theory.specs.Tree.{Tree, Trees, var, app, listed}
use Rattle.mz_logic_theory.specs.Legality.{sort_of}
use Rattle.mz_machine_theory.specs.Spells.{SpelledTerm, SpelledThm, trees_of, dummy_of}
use Rattle.mz_machine_theory.specs.Profile.{plain, Item, expr, proof, obligation, conversion}
use Rattle.mz_machine_theory.specs.UnifyMachine.{UnifyState, unify}
use Rattle.mz_machine_theory.specs.UnifyLaws.{citing, unfolding_by}
use Rattle.mz_machine_theory.proofs.Offered.{same_tree-refl, listed-trees_of}
use Rattle.mz_machine_theory.specs.MachineState.{RowsBefore, signatures_in, State}
use Rattle.mz_machine_theory.specs.Premises.{pop_exprs, pop_operands, is_obligation, may_be_dummy_sort, is_provable_sort, bound_count, operands_fit, are_disjoint}
use Rattle.mz_machine_theory.specs.ProofMachine.{built, citation, cited, sides, unfolding_of, proof_step}
use Rattle.mz_emit_theory.specs.Steps.{above}

-- ---- operands on the stack

pop-reversed : (rs : List Tree) (rest : List (Item Tree)) (acc : List Tree) → pop_exprs (length rs) (map expr rs ++ rest) acc ≡ Ok (reverse rs ++ acc, rest)
pop-reversed [] rest acc = refl
pop-reversed (r ∷ rs) rest acc =
    pop-reversed rs rest (r ∷ acc)
    ∙ ap (λ (z : List Tree). Ok (z, rest)) (sym (append_assoc (reverse rs) (r ∷ []) acc) ∙ ap (λ (z : List Tree). z ++ acc) (sym (reverse-append (r ∷ []) rs)))

pub pops : (es : List Tree) (rest : List (Item Tree)) (n : ℕ) → length es ≡ n → pop_operands n (above es rest) ≡ Ok (es, rest)
pops es rest n len =
    let many : length (above es rest) ≡ length es + length rest = length-append (map expr (reverse es)) rest ∙ ap (λ (z : ℕ). z + length rest) (length-map (reverse es) expr ∙ length-reverse es) in
    let popped : pop_exprs n (above es rest) [] ≡ Ok (es, rest) =
    subst (λ (z : ℕ). pop_exprs z (above es rest) [] ≡ Ok (es, rest)) (length-reverse es ∙ len)
    (pop-reversed (reverse es) rest [] ∙ ap (λ (z : List Tree). Ok (z, rest)) (append-nil (reverse (reverse es)) ∙ reverse-reverse es)) in
    rw (le-leb n (length (above es rest)) (let e : n ≤ length (above es rest) = omega (arith, many, len) in e)) popped

module _ (gaps : Bool) (tables : RowsBefore) (at : ℕ) (st : State Tree) where
  -- ---- expressions

  pub built-row : (t : ℕ) (es : List Tree) (rest : List (Item Tree)) (row : SpelledTerm) → slice_get tables.terms t ≡ Some row → length es ≡ length row.signature.params → st.stack ≡ above es rest
      → operands_fit (signatures_in tables) st.ctx es row.signature.params ≡ Ok tt → built (plain gaps) tables at t st ≡ Ok (app t (trees_of es), rest)
  unfolding built
  built-row t es rest row row-at len is fit = rw (row-at, is, pops es rest (length row.signature.params) len, map-id es, fit) refl

  pub term-row : (t : ℕ) (e : Tree) (rest : List (Item Tree)) → built (plain gaps) tables at t st ≡ Ok (e, rest) → proof_step (plain gaps) tables at code.Term t st ≡ Ok (record st { stack = expr e ∷ rest })
  unfolding proof_step
  term-row t e rest is = rw is refl

  pub term-save-row : (t : ℕ) (e : Tree) (rest : List (Item Tree)) → built (plain gaps) tables at t st ≡ Ok (e, rest)
      → proof_step (plain gaps) tables at code.TermSave t st ≡ Ok (record st { stack = expr e ∷ rest; heap = st.heap ++ expr e ∷ [] })
  unfolding proof_step
  term-save-row t e rest is = rw is refl

  pub dummy-row : (s : ℕ) → may_be_dummy_sort (slice_get tables.sorts s) ≡ true → bound_count st.ctx < 55
      → proof_step (plain gaps) tables at code.Dummy s st
      ≡ Ok (record { ctx = st.ctx ++ dummy_of s ∷ []; heap = st.heap ++ expr (var (length st.ctx)) ∷ []; stack = expr (var (length st.ctx)) ∷ st.stack; hyps = st.hyps })
  unfolding proof_step
  dummy-row s sort few = rw (sort, lt-ltb (bound_count st.ctx) 55 few) refl

  pub hyp-row : (n : ℕ) (e : Tree) (rest : List (Item Tree)) → st.stack ≡ expr e ∷ rest → is_provable_sort (slice_get tables.sorts (sort_of (signatures_in tables) st.ctx e)) ≡ true
      → proof_step (plain gaps) tables at code.Hyp n st ≡ Ok (record st { heap = st.heap ++ proof e ∷ []; stack = rest; hyps = st.hyps ++ e ∷ [] })
  unfolding proof_step
  hyp-row n e rest is provable = rw (is, provable) refl

  pub save-row : (n : ℕ) (x : Item Tree) (rest : List (Item Tree)) → st.stack ≡ x ∷ rest → is_obligation x ≡ false → proof_step (plain gaps) tables at code.Save n st ≡ Ok (record st { heap = st.heap ++ x ∷ [] })
  unfolding proof_step
  save-row n x rest is kind = rw (is, kind) refl

  -- ---- references

  pub ref-expr : (i : ℕ) (e : Tree) → slice_get st.heap i ≡ Some (expr e) → proof_step (plain gaps) tables at code.Ref i st ≡ Ok (record st { stack = expr e ∷ st.stack })
  unfolding proof_step
  ref-expr i e x-at = rw x-at refl

  pub ref-proof : (i : ℕ) (e : Tree) → slice_get st.heap i ≡ Some (proof e) → proof_step (plain gaps) tables at code.Ref i st ≡ Ok (record st { stack = proof e ∷ st.stack })
  unfolding proof_step
  ref-proof i e x-at = rw x-at refl

  pub ref-conversion : (i : ℕ) (l r : Tree) (rest : List (Item Tree)) → slice_get st.heap i ≡ Some (conversion l r) → st.stack ≡ obligation l r ∷ rest → proof_step (plain gaps) tables at code.Ref i st ≡ Ok (record st { stack = rest })
  unfolding proof_step
  ref-conversion i l r rest x-at is = rw (x-at, is, same_tree-refl l, same_tree-refl r) refl

  pub conv-ref : (i : ℕ) (l r : Tree) (rest : List (Item Tree)) → slice_get st.heap i ≡ Some (conversion l r) → st.stack ≡ obligation l r ∷ rest → proof_step (plain gaps) tables at code.ConvRef i st ≡ Ok (record st { stack = rest })
  unfolding proof_step
  conv-ref i l r rest x-at is = rw (x-at, is, same_tree-refl l, same_tree-refl r) refl

  -- ---- citations

  pub cited-row : (t : ℕ) (e : Tree) (es : List Tree) (items rest : List (Item Tree)) (row : SpelledThm) (u : UnifyState Tree) → slice_get tables.thms t ≡ Some row → length es ≡ length row.params
      → st.stack ≡ expr e ∷ above es items → operands_fit (signatures_in tables) st.ctx es row.params ≡ Ok tt → are_disjoint st.ctx es row.params ≡ true
      → unify (plain gaps) (signatures_in tables) st.ctx (citing row.stream es e items) ≡ Ok u → u.items ≡ rest → cited (plain gaps) tables t st ≡ Ok (e, rest)
  unfolding cited citation
  cited-row t e es items rest row u row-at len is fit apart ran left =
      let many : length (above es items) ≡ length es + length items = length-append (map expr (reverse es)) items ∙ ap (λ (z : ℕ). z + length items) (length-map (reverse es) expr ∙ length-reverse es) in
      let enough : nat_le (suc (length row.params)) (suc (length (above es items))) ≡ true = le-leb (suc (length row.params)) (suc (length (above es items))) (let le : suc (length row.params) ≤ suc (length (above es items)) = omega (arith, many, len) in le) in
      rw (row-at, is, enough, pops es items (length row.params) len, map-id es, fit, apart, ran, left) refl

  pub thm-row : (t : ℕ) (e : Tree) (rest : List (Item Tree)) → cited (plain gaps) tables t st ≡ Ok (e, rest) → proof_step (plain gaps) tables at code.Thm t st ≡ Ok (record st { stack = proof e ∷ rest })
  unfolding proof_step
  thm-row t e rest is = rw is refl

  pub thm-save-row : (t : ℕ) (e : Tree) (rest : List (Item Tree)) → cited (plain gaps) tables t st ≡ Ok (e, rest)
      → proof_step (plain gaps) tables at code.ThmSave t st ≡ Ok (record st { stack = proof e ∷ rest; heap = st.heap ++ proof e ∷ [] })
  unfolding proof_step
  thm-save-row t e rest is = rw is refl

  -- ---- conversions

  pub conv-row : (n : ℕ) (l r : Tree) (rest : List (Item Tree)) → st.stack ≡ proof r ∷ expr l ∷ rest → proof_step (plain gaps) tables at code.Conv n st ≡ Ok (record st { stack = obligation l r ∷ proof l ∷ rest })
  unfolding proof_step
  conv-row n l r rest is = rw is refl

  pub refl-row : (n : ℕ) (e : Tree) (rest : List (Item Tree)) → st.stack ≡ obligation e e ∷ rest → proof_step (plain gaps) tables at code.Refl n st ≡ Ok (record st { stack = rest })
  unfolding proof_step
  refl-row n e rest is = rw (is, same_tree-refl e) refl

  pub symm-row : (n : ℕ) (l r : Tree) (rest : List (Item Tree)) → st.stack ≡ obligation l r ∷ rest → proof_step (plain gaps) tables at code.Symm n st ≡ Ok (record st { stack = obligation r l ∷ rest })
  unfolding proof_step
  symm-row n l r rest is = rw is refl

  pub cong-row : (n t : ℕ) (ls rs : Trees) (rest : List (Item Tree)) → st.stack ≡ obligation (app t ls) (app t rs) ∷ rest → proof_step (plain gaps) tables at code.Cong n st ≡ Ok (record st { stack = sides (listed ls) (listed rs) rest })
  unfolding proof_step
  cong-row n t ls rs rest is = rw (is, eq-eqb t t refl) refl

  pub unfold-row : (n t : ℕ) (es : List Tree) (e r : Tree) (rest : List (Item Tree)) (row : SpelledTerm) (stream : List ℕ) (u : UnifyState Tree) → slice_get tables.terms t ≡ Some row → row.stream ≡ Some stream
      → st.stack ≡ expr e ∷ expr (app t (trees_of es)) ∷ obligation (app t (trees_of es)) r ∷ rest → unify (plain gaps) (signatures_in tables) st.ctx (unfolding_by stream es e) ≡ Ok u
      → proof_step (plain gaps) tables at code.Unfold n st ≡ Ok (record st { stack = obligation e r ∷ rest })
  unfolding proof_step unfolding_of
  unfold-row n t es e r rest row stream u row-at stream-is is ran = rw (is, same_tree-refl (app t (trees_of es)), row-at, stream-is, listed-trees_of es, ran) refl

  pub conv-cut-row : (n : ℕ) (l r : Tree) (rest : List (Item Tree)) → st.stack ≡ obligation l r ∷ rest → proof_step (plain gaps) tables at code.ConvCut n st ≡ Ok (record st { stack = obligation l r ∷ conversion l r ∷ rest })
  unfolding proof_step
  conv-cut-row n l r rest is = rw is refl

  pub conv-save-row : (n : ℕ) (l r : Tree) (rest : List (Item Tree)) → st.stack ≡ conversion l r ∷ rest → proof_step (plain gaps) tables at code.ConvSave n st ≡ Ok (record st { stack = rest; heap = st.heap ++ conversion l r ∷ [] })
  unfolding proof_step
  conv-save-row n l r rest is = rw is refl

  -- ---- gaps

  pub gap-expr : (n : ℕ) (e : Tree) (rest : List (Item Tree)) → gaps ≡ true → st.stack ≡ expr e ∷ rest → is_provable_sort (slice_get tables.sorts (sort_of (signatures_in tables) st.ctx e)) ≡ true
      → proof_step (plain gaps) tables at code.Sorry n st ≡ Ok (record st { stack = proof e ∷ rest })
  unfolding proof_step
  gap-expr n e rest through is provable = rw (through, is, provable) refl

  pub gap-obligation : (n : ℕ) (l r : Tree) (rest : List (Item Tree)) → gaps ≡ true → st.stack ≡ obligation l r ∷ rest → sort_of (signatures_in tables) st.ctx l ≡ sort_of (signatures_in tables) st.ctx r
      → proof_step (plain gaps) tables at code.Sorry n st ≡ Ok (record st { stack = rest })
  unfolding proof_step
  gap-obligation n l r rest through is sort = rw (through, is, eq-eqb (sort_of (signatures_in tables) st.ctx l) (sort_of (signatures_in tables) st.ctx r) sort) refl

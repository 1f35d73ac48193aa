-- The walk along the list of statements: what is left at a place, and what is known of all by then.
use Rattle.std.proofs.Common.{◌≡◌, ◌∙◌, ◌⊎◌, ◌<◌, ◌≤◌, ◌+◌, ◌++◌, ℕ, suc, true, false, List, [], ◌∷◌, length, Ok, refl, sym, ap, subst, inl, inr, arith, append_assoc, append-nil, length-append}
use Rattle.std.proofs.lemmas.Bool.{cases_lt, ltb-true, lt-ltb}
use Rattle.std.specs.Prelude.{◌↔◌, IsTrue, nat_lt as ltb, codes as bytes-of}
use Rattle.mz_base.specs.Checks.{AllHold, FailsFirst}
use Rattle.mz_base.proofs.Offered.{Decides, decides-whole}
use Rattle.mz_cmd.specs.declared.code.StatementCode.{StatementCode}
use Rattle.mz_cmd.specs.declared.statement.StmtAt.TheVariants as stands
use Rattle.mz_cmd.specs.Codes.{statement_byte}
use Rattle.mz_logic_theory.specs.Declaration.{Declaration}
use Rattle.mz_layout_tables.specs.Heads.{IsHeadAt, head_checks}
use Rattle.mz_layout_tables.specs.declared.head.Head.{Head}
use Rattle.mz_sexpr.specs.Node.{depth_limit}
use Rattle.mz_binary_theory.specs.Chains.{IsListEnd}
use Rattle.mz_binary_walk.specs.Walk.{GoesOn, nothing_passed, passed_with}
use Rattle.mz_binary_walk.specs.declared.passed.Passed.{Passed}
use Rattle.mz_binary_walk.proofs.Offered.{head-here, one-code}
use Rattle.mz_mmu_theory.specs.Statements.{Statement}
use Rattle.mz_mmu_theory.specs.Weight.{statement_weight, weight_after, weight_of}
use Rattle.mz_decompile_text.specs.Phrases.{Phrase, depth, written}
use Rattle.mz_decompile_text.specs.Phrasing.{Vocabulary, statement, text_of}
use Rattle.mz_decompile_text.specs.Naming.{Naming}
use Rattle.mz_decompile_text.specs.Measures.{capped}
use Rattle.mz_decompile.specs.Restated.{deep, depth_checks}
use Rattle.mz_decompile.specs.Telling.{Stands, SomeStands}
use Rattle.mz_decompile.specs.Standing.{AreStanding, AreAll}
use Rattle.mz_decompile.specs.Passes.{AreSizes, IsLine}
use Rattle.mz_decompile.specs.declared.measure.Line.{Line}
use Rattle.mz_decompile.specs.declared.measure.Sizes.{Sizes}

heads-same : (h g : Head) → h.code ≡ g.code → h.at ≡ g.at → h.body ≡ g.body → h.next ≡ g.next → h ≡ g
heads-same h g code at body next =
    let made = λ (k : StatementCode) (x y z : ℕ). let r : Head = record { code = k; at = x; body = y; next = z } in r in
    ap (λ (k : StatementCode). made k h.at h.body h.next) code ∙ ap (λ (x : ℕ). made g.code x h.body h.next) at
    ∙ ap (λ (y : ℕ). made g.code g.at y h.next) body ∙ ap (λ (z : ℕ). made g.code g.at g.body z) next

one-head : (file : List ℕ) (at : ℕ) (h g : Head) → IsHeadAt file at h → IsHeadAt file at g → h ≡ g
one-head file at h g is here =
    let both : Ok (stands.Head (statement_byte h.code) h.body h.next) ≡ Ok (stands.Head (statement_byte g.code) g.body g.next) = sym (head-here file at h is) ∙ head-here file at g here in
    let x : statement_byte h.code ≡ statement_byte g.code = cc in
    let y : h.body ≡ g.body = cc in
    let z : h.next ≡ g.next = cc in
    heads-same h g (one-code h.code g.code x) (is.at_is ∙ sym here.at_is) y z

module _ (file : List ℕ) (names : Naming) (p : Passed) (env : List Declaration) where
  -- the statement at hand, and those behind it
  pub record AtHead (head : Head) (ts : List Statement) : Type 0 where
    pub here : Statement
    pub behind : List Statement
    pub are : ts ≡ here ∷ behind
    pub stands : Stands file names p.rows env head here
    pub left : AreStanding file names (passed_with p head) (env ++ here.decl ∷ []) behind

  pub asks : (ts : List Statement) → AreStanding file names p env ts → AllHold (head_checks file p.rows p.at)
  asks [] are = are.0
  asks (t ∷ ts) are = are.1

  pub at-head : (head : Head) (ts : List Statement) → AreStanding file names p env ts → IsHeadAt file p.at head → AtHead head ts
  at-head head [] are is =
      absurd (let both : Ok (stands.Head (statement_byte head.code) head.body head.next) ≡ Ok stands.End = sym (head-here file p.at head is) ∙ are.1 in cc)
  at-head head (t ∷ ts) (other, _, here, told, left) is =
      let same = one-head file p.at other head here is in record {
        here = t;
        behind = ts;
        are = refl;
        stands = subst (λ (h : Head). Stands file names p.rows env h t) same told;
        left = subst (λ (h : Head). AreStanding file names (passed_with p h) (env ++ t.decl ∷ []) ts) same left;
      }

  pub at-end : (ts : List Statement) → AreStanding file names p env ts → IsListEnd file p.at → ts ≡ []
  at-end [] are end = refl
  at-end (t ∷ ts) (head, _, here, told, left) end =
      absurd (let both : Ok (stands.Head (statement_byte head.code) head.body head.next) ≡ Ok stands.End = sym (head-here file p.at head here) ∙ end in cc)

-- ---- the first pass

-- the depths of those that are left decide those of all; and the sums so far, with those that are left, are the whole
pub record IsMeasuring (file : List ℕ) (names : Naming) (v : Vocabulary) (p : Passed) (s : Sizes) (all : List Statement) : Type 0 where
  pub env : List Declaration
  pub left : List Statement
  pub standing : AreStanding file names p env left
  pub depths : Decides (depth_checks v (p.statements + 1) left) (depth_checks v 1 all)
  pub len : ℕ
  pub len_is : s.len ≡ capped len
  pub text : len + length (text_of v left) ≡ length (text_of v all)
  pub weight : ℕ
  pub weight_is : s.weight ≡ capped weight
  pub weights : weight + weight_after env left ≡ weight_of all

module _ (file : List ℕ) (names : Naming) (v : Vocabulary) where
  pub measuring-first : (s : Sizes) (all : List Statement) → s.len ≡ 0 → s.weight ≡ 0 → AreAll file names all → IsMeasuring file names v (nothing_passed file) s all
  measuring-first s all len weight are = record {
    env = [];
    left = all;
    standing = are;
    depths = decides-whole (depth_checks v 1 all);
    len = 0;
    len_is = omega (arith, len);
    text = omega arith;
    weight = 0;
    weight_is = omega (arith, weight);
    weights = omega arith;
  }

  module _ (p : Passed) (s : Sizes) (all : List Statement) (m : IsMeasuring file names v p s all) where
    pub measuring-asks : AllHold (head_checks file p.rows p.at)
    measuring-asks = asks file names p m.env m.left m.standing

    module _ (head : Head) (after : Passed) (on : GoesOn file p head after) where
      abbrev h : AtHead file names p m.env head m.left
      h = at-head file names p m.env head m.left m.standing on.next.head_is

      abbrev pub measuring-stands : SomeStands file names p.rows head
      measuring-stands = (m.env, h.here, h.stands)

      one-more : after.statements ≡ p.statements + 1
      one-more = ap (λ (q : Passed). q.statements) on.passed

      decides-here : Decides (depth_checks v (p.statements + 1) (h.here ∷ h.behind)) (depth_checks v 1 all)
      decides-here = subst (λ (ts : List Statement). Decides (depth_checks v (p.statements + 1) ts) (depth_checks v 1 all)) h.are m.depths

      -- the statement at hand is too deep
      pub measuring-deep : depth_limit < depth (statement v h.here) → FailsFirst (depth_checks v 1 all) (deep after.statements)
      measuring-deep past =
          subst (λ (k : ℕ). FailsFirst (depth_checks v 1 all) (deep k)) (sym one-more) (decides-here.fails (deep (p.statements + 1)) (inl (λ low. absurd (omega (arith, past, low)), refl)))

      pub measuring-more : (sizes sum : Sizes) → AreSizes v m.env h.here sizes → depth (statement v h.here) ≤ depth_limit
          → ((a b : ℕ) → s.len ≡ capped a → sizes.len ≡ capped b → sum.len ≡ capped (a + b))
          → ((a b : ℕ) → s.weight ≡ capped a → sizes.weight ≡ capped b → sum.weight ≡ capped (a + b))
          → IsMeasuring file names v after sum all
      measuring-more sizes sum are low lens weights =
          let line = written (statement v h.here) ++ bytes-of "\n" in
          let more : suc (p.statements + 1) ≡ p.statements + 1 + 1 = omega arith in
          let text-here : length (text_of v m.left) ≡ length (line ++ text_of v h.behind) =
          ap (λ (ts : List Statement). length (text_of v ts)) h.are ∙ ap length (sym (append_assoc (written (statement v h.here)) (bytes-of "\n") (text_of v h.behind))) in
          let cut = length-append line (text_of v h.behind) in
          let old-text = m.text in
          let weight-here : weight_after m.env m.left ≡ statement_weight m.env h.here + weight_after (m.env ++ h.here.decl ∷ []) h.behind = ap (weight_after m.env) h.are in
          let old-weights = m.weights in
          subst (λ (q : Passed). IsMeasuring file names v q sum all) (sym on.passed) (record {
            env = m.env ++ h.here.decl ∷ [];
            left = h.behind;
            standing = h.left;
            depths = subst (λ (k : ℕ). Decides (depth_checks v k h.behind) (depth_checks v 1 all)) more
                (record { fails = λ r fails. decides-here.fails r (inr (low, fails)); holds = λ all-hold. decides-here.holds (low, all-hold) });
            len = m.len + length line;
            len_is = lens m.len (length line) m.len_is are.length_is;
            text = omega (arith, text-here, cut, old-text);
            weight = m.weight + statement_weight m.env h.here;
            weight_is = weights m.weight (statement_weight m.env h.here) m.weight_is are.weight_is;
            weights = omega (arith, weight-here, old-weights);
          })

    pub record IsWhole : Type 0 where
      pub depths : AllHold (depth_checks v 1 all)
      pub text : s.len ≡ capped (length (text_of v all))
      pub weights : s.weight ≡ capped (weight_of all)

    pub measuring-last : IsListEnd file p.at → IsWhole
    measuring-last list-end =
        let end = at-end file names p m.env m.left m.standing list-end in
        let text-left : length (text_of v m.left) ≡ 0 = ap (λ (ts : List Statement). length (text_of v ts)) end in
        let weight-left : weight_after m.env m.left ≡ 0 = ap (weight_after m.env) end in
        let text = m.text in
        let weights = m.weights in
        let len-is = m.len_is in
        let weight-is = m.weight_is in
        record {
          depths = m.depths.holds (subst (λ (ts : List Statement). AllHold (depth_checks v (p.statements + 1) ts)) (sym end) tt);
          text = omega (arith, text-left, text, len-is);
          weights = omega (arith, weight-left, weights, weight-is);
        }

-- ---- the second pass

-- what is written so far, with what is left, is the whole
pub record IsWriting (file : List ℕ) (names : Naming) (v : Vocabulary) (p : Passed) (out : List ℕ) (all : List Statement) : Type 0 where
  pub env : List Declaration
  pub left : List Statement
  pub standing : AreStanding file names p env left
  pub text : out ++ text_of v left ≡ text_of v all

module _ (file : List ℕ) (names : Naming) (v : Vocabulary) where
  pub writing-first : (out : List ℕ) (all : List Statement) → out ≡ [] → AreAll file names all → IsWriting file names v (nothing_passed file) out all
  writing-first out all none are = record { env = []; left = all; standing = are; text = ap (λ (o : List ℕ). o ++ text_of v all) none }

  module _ (p : Passed) (out : List ℕ) (all : List Statement) (m : IsWriting file names v p out all) where
    pub writing-asks : AllHold (head_checks file p.rows p.at)
    writing-asks = asks file names p m.env m.left m.standing

    module _ (head : Head) (after : Passed) (on : GoesOn file p head after) where
      abbrev w : AtHead file names p m.env head m.left
      w = at-head file names p m.env head m.left m.standing on.next.head_is

      abbrev pub writing-stands : SomeStands file names p.rows head
      writing-stands = (m.env, w.here, w.stands)

      pub writing-more : (new : List ℕ) → new ≡ out ++ (written (statement v w.here) ++ bytes-of "\n") → IsWriting file names v after new all
      writing-more new is-new =
          let line = written (statement v w.here) ++ bytes-of "\n" in
          subst (λ (q : Passed). IsWriting file names v q new all) (sym on.passed) (record {
            env = m.env ++ w.here.decl ∷ [];
            left = w.behind;
            standing = w.left;
            text = ap (λ (o : List ℕ). o ++ text_of v w.behind) is-new ∙ append_assoc out line (text_of v w.behind)
                ∙ ap (λ (o : List ℕ). out ++ o) (append_assoc (written (statement v w.here)) (bytes-of "\n") (text_of v w.behind))
                ∙ ap (λ (ts : List Statement). out ++ text_of v ts) (sym w.are) ∙ m.text;
          })

    pub writing-last : IsListEnd file p.at → out ≡ text_of v all
    writing-last list-end =
        let end = at-end file names p m.env m.left m.standing list-end in
        sym (append-nil out) ∙ ap (λ (ts : List Statement). out ++ text_of v ts) (sym end) ∙ m.text

-- ---- what is said of a line

pub deep-if : (v : Vocabulary) (env : List Declaration) (t : Statement) (line : Line) → IsLine v env t line → line.deep ≡ true → depth_limit < depth (statement v t)
deep-if v env t line is set = is.deep.0 set

pub low-unless : (v : Vocabulary) (env : List Declaration) (t : Statement) (line : Line) → IsLine v env t line → line.deep ≡ false → depth (statement v t) ≤ depth_limit
low-unless v env t line is not = by (cases_lt depth_limit (depth (statement v t)))
  where
    by : (depth_limit < depth (statement v t)) ⊎ (depth (statement v t) ≤ depth_limit) → depth (statement v t) ≤ depth_limit
    by (inl past) = absurd (let both : true ≡ false = sym (is.deep.1 past) ∙ not in cc)
    by (inr low) = low

pub line-length : (v : Vocabulary) (t : Statement) (n sum : ℕ) (q : Phrase) → q ≡ statement v t → n ≡ capped (length (written q)) → sum ≡ capped (n + 1)
    → sum ≡ capped (length (written (statement v t) ++ bytes-of "\n"))
line-length v t n sum q is len added =
    let same : length (written q) ≡ length (written (statement v t)) = ap (λ (p : Phrase). length (written p)) is in
    omega (arith, len, added, same, length-append (written (statement v t)) (bytes-of "\n"))

pub deep-is : (n m : ℕ) → n ≡ m → IsTrue (ltb 4096 n) ↔ (depth_limit < m)
deep-is n m same = (λ set. let past = ltb-true 4096 n set in omega (arith, past, same), λ past. lt-ltb 4096 n (omega (arith, past, same)))

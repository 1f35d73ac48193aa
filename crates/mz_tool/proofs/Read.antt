-- The samples' texts are read as their statements.
use Rattle.std.proofs.Common.{ℕ, zero, suc, ◌≡◌, ◌≤◌, ◌+◌, ◌++◌, ◌∙◌, inl, inr, false, List, [], ◌∷◌, length, None, refl, ap, sym, subst, arith, codes}
use Rattle.std.specs.List.Sorted.{IsStrictlyIncreasing}
use Rattle.std.proofs.lemmas.List.Elements.{All-nil, All-cons}
use Rattle.mz_base.proofs.Offered.{length-push, new-more}
use Rattle.mz_base.specs.Names.{IsNew}
use Rattle.mz_sexpr.specs.Node.{Node, Nodes, atom, list, node, depth_limit}
use Rattle.mz_logic_theory.specs.Tree.{Tree, Trees, var, app, none, more}
use Rattle.mz_logic_theory.specs.Declaration.{Assertion, Declaration, sort_decl, term_decl, assertion_decl, sorts, signatures, assertions, DepsAscend}
use Rattle.mz_logic_theory.specs.Signature.{Signature}
use Rattle.mz_logic_theory.specs.Legality.{InRange, AllInRange}
use Rattle.mz_logic_theory.specs.Conversions.{Conversion, Conversions, refl_conv, cong_conv, unfold_conv, no_convs, more_convs}
use Rattle.mz_logic_theory.specs.Derivations.{Derivation, no_derivs, Derives}
use Rattle.mz_logic_theory.specs.Examples.{wff, nat, wff_x, im_declared, y_and_q, ax_1, ax_mp}
use Rattle.mz_logic_theory.specs.declared.binder.Binder.{Binder}
use Rattle.mz_logic_theory.proofs.Offered.{range_of_sort}
use Rattle.mz_mmu_theory.specs.Name.{Names, Scope, IsName, HasNumber, scope_of, no_names, names_with}
use Rattle.mz_mmu_theory.specs.Expressions.{AreDummies}
use Rattle.mz_mmu_theory.specs.Gaps.{LeavesOnly}
use Rattle.mz_mmu_theory.specs.TextOf.{TextOf}
use Rattle.mz_mmu_theory.specs.Proofs.{IsConv, IsConvBy, AreConvs, IsProof}
use Rattle.mz_mmu_theory.specs.Statements.{Statement, AreNamedHyps, IsStatement, AreStatements}
use Rattle.mz_mmu_theory.proofs.Offered.{Agrees, agrees_more, agrees_first}
use Rattle.mz_decompile_text.specs.Phrases.{lines_of, Phrase, Phrases, a_word, a_list, no_phrases, one_more, depth, depth_of_all}
use Rattle.mz_decompile_text.specs.Phrasing.{Vocabulary, list_of, statement, expression, expressions, binders, variable_names, proof}
use Rattle.mz_decompile_text.specs.Phrasable.{HasNames, HasNewName, SeesLets}
use Rattle.mz_decompile_text.proofs.Offered.{AllSay, Says, a-list, a-word, lines-spell, all-so, done, key, take, name-atom, plain-atom, Declares, behind-none, behind-more, good-params, params-said, Known, a-new-name, a-term, expr-list-said, expr-said, no-conv-word, numbered-upto, new-upto, upto, statement-said, proof-said}
use Rattle.mz_tool.proofs.Declarations.{all_declared, ax_gen, d, d_number, t_number, body, d_declared, t_stated, g_stated, body_conversion, t_conversion}
use Rattle.mz_tool.proofs.Environment.{Stands, env_d, env_t, env_g, stands-next, assertions_d, assertions_t}
use Rattle.mz_tool.proofs.Statements.{body-means, stated, head_declarations, d_name, t_name, g_name, body_proof, t_proof, d_statement, t_statement, g_statement, numbered, sample_statements}
use Rattle.mz_tool.proofs.Legal.{t-legal, body-derives, body-sort-d}
use Rattle.mz_tool.proofs.Stated.{env2, env3, env4, env5, env6, d-stated, g-stated, head-stands, sort-stated, im-stated, all-stated, ax-1-stated, ax-mp-stated, ax-gen-stated, body-lets, sample-legal}
use Rattle.mz_tool.proofs.Vocabulary.{vocabulary, ab, xp, t-is, g-is, numbered-name, other-heads, other-number, AreVariables, ab-are, xp-are, has-names, term_name, assertion_name}

-- ---- a conversion that is written as the expression: a reflexivity at each variable

abbrev mutual
  own : Tree → Conversion
  own (var x) = refl_conv (var x)
  own (app t none) = refl_conv (app t none)
  own (app t (more e es)) = cong_conv t (more_convs (own e) (all_own es))

  all_own : Trees → Conversions
  all_own none = no_convs
  all_own (more e es) = more_convs (own e) (all_own es)

own-body : (k : ℕ) → own (body k) ≡ body_conversion k
own-body zero = refl
own-body (suc j) = refl

module _ (v : Vocabulary) (names : Names) (sigs : List Signature) (k : ℕ) (vars : List (List ℕ)) (known : Known v names sigs k vars) where
  abbrev sc : Scope
  sc = scope_of names vars

  as-cong : (at at' : ℕ) (t : ℕ) (c : Conversion) (cs : Conversions) → IsName (v.term t) → HasNumber names.terms (atom at' (v.term t)) t → (m : Node) (ns : Nodes) → IsConv sc m c → AreConvs sc ns cs
      → IsConv sc (list at (node (atom at' (v.term t)) (node m ns))) (cong_conv t (more_convs c cs))
  as-cong at at' t c cs name has m ns is are =
      subst (λ w. IsConvBy sc w (atom at' (v.term t)) (node m ns) (cong_conv t (more_convs c cs))) (sym (no-conv-word (v.term t) name)) (t, c, cs, has, is, are, refl)

  mutual
    own-said : (e : Tree) → InRange sigs k e → Says (expression v e) (λ n. IsConv sc n (own e))
    own-said (var x) less =
        let name = known.variables.named x less in
        a-word (v.variable x) _ (name-atom (v.variable x) name) (λ at. (var x, (name, inl (x, known.variables.found x less, refl)), refl))
    own-said (app t none) (there, many, _) =
        let name = known.terms.named t there in
        a-word (v.term t) _ (name-atom (v.term t) name) (λ at. (app t none, (name, inr (known.apart t there, (t, known.constants t there many, refl))), refl))
    own-said (app t (more e es)) (there, many, (range, ranges)) =
        let name = known.terms.named t there in
        a-list (key (v.term t) (name-atom (v.term t) name)
        (take (own-said e range) (all-so (all-own-said es ranges)
        (λ ns are m is at' at. as-cong at at' t (own e) (all_own es) name (name, known.terms.found t there) m ns is are))))

    all-own-said : (es : Trees) → AllInRange sigs k es → AllSay (expressions v es) (λ ns. AreConvs sc ns (all_own es))
    all-own-said none ranges = done refl
    all-own-said (more e es) (range, ranges) = take (own-said e range) (all-so (all-own-said es ranges) (λ ns are m is. (own e, all_own es, is, are, refl)))

-- ---- statement by statement

-- one more, and others behind it
and-then : {p : Phrase} {ps : Phrases} (names : Names) (s : Statement) (ss : List Statement) → Says p (λ n. IsStatement names n s)
    → AllSay ps (λ ns. AreStatements (names_with names s.name s.decl) ns ss) → AllSay (one_more p ps) (λ ns. AreStatements names ns (s ∷ ss))
and-then names s ss one rest = take one (all-so rest (λ ns are n is. (s, ss, is, are, refl)))

-- ---- behind k definitions

abbrev names_d : Names → ℕ → Names
names_d names k = names_with names (d_name k) (term_decl (d_declared k))

abbrev names_t : Names → ℕ → Names
names_t names k = names_with (names_d names k) (t_name k) (assertion_decl (t_stated k))

abbrev names_g : Names → ℕ → Names
names_g names k = names_with (names_t names k) (g_name k) (assertion_decl (g_stated k))

record Ready (k : ℕ) (env : List Declaration) (names : Names) : Type 0 where
  stands : Stands k env
  with_ab : Declares (vocabulary ab) 2 env names
  with_xp : Declares (vocabulary xp) 2 env names
  agrees : Agrees names
  new_d : (i : ℕ) → k ≤ i → i ≤ 10000 → IsNew names.terms (d_name i)
  new_t : (i : ℕ) → k ≤ i → i ≤ 10000 → IsNew names.assertions (t_name i)
  new_g : (i : ℕ) → k ≤ i → i ≤ 10000 → IsNew names.assertions (g_name i)

pub none-rising : IsStrictlyIncreasing []
none-rising i less = absurd (omega arith)

pub one-ascends : DepsAscend (wff ∷ [])
one-ascends = All-cons (λ (b : Binder). IsStrictlyIncreasing b.deps) wff [] none-rising (All-nil (λ (b : Binder). IsStrictlyIncreasing b.deps))

pub two-ascend : DepsAscend (wff ∷ wff ∷ [])
two-ascend = All-cons (λ (b : Binder). IsStrictlyIncreasing b.deps) wff (wff ∷ []) none-rising one-ascends

one-rising : IsStrictlyIncreasing (0 ∷ [])
one-rising i less = absurd (omega arith)

pub nat-ascend : DepsAscend y_and_q
nat-ascend =
    All-cons (λ (b : Binder). IsStrictlyIncreasing b.deps) nat (wff_x ∷ []) none-rising
    (All-cons (λ (b : Binder). IsStrictlyIncreasing b.deps) wff_x [] one-rising (All-nil (λ (b : Binder). IsStrictlyIncreasing b.deps)))

d-low : (k : ℕ) → depth (statement (vocabulary ab) (d_statement k)) ≤ depth_limit
d-low zero = omega arith
d-low (suc j) = omega arith

body-sees : (k : ℕ) → SeesLets 2 0 (body_proof k)
body-sees zero = tt
body-sees (suc j) = (tt, (tt, tt))

body-leaves : (k : ℕ) → LeavesOnly ⊥ (body_proof k)
body-leaves zero = tt
body-leaves (suc j) = (tt, (tt, tt))

-- the phrase of the first theorem, whose conversion is written as the body
abbrev v : Vocabulary
v = vocabulary ab

abbrev unfold_phrase : ℕ → Phrase
unfold_phrase k =
    list_of (a_word (codes ":unfold") ∷ a_word (v.term (d_number k)) ∷ a_list (expressions v (more (var 0) none)) ∷ variable_names v [] ∷ expression v (body k) ∷ [])

abbrev t_proof_phrase : ℕ → Phrase
t_proof_phrase k = list_of (a_word (codes ":conv") ∷ expression v (d (d_number k) (var 0)) ∷ unfold_phrase k ∷ proof v 0 (body_proof k) ∷ [])

abbrev pub t_phrase : ℕ → Phrase
t_phrase k =
    list_of (a_word (codes "theorem") ∷ a_word (t_name k) ∷ a_list (binders v 0 (wff ∷ [])) ∷ a_list no_phrases ∷ expression v (d (d_number k) (var 0))
    ∷ a_list no_phrases ∷ t_proof_phrase k ∷ [])

t-low : (k : ℕ) → depth (t_phrase k) ≤ depth_limit
t-low zero = omega arith
t-low (suc j) = omega arith

module _ (k : ℕ) (small : k ≤ 10000) (env : List Declaration) (names : Names) (ready : Ready k env names) where
  is : Stands k env
  is = ready.stands

  itself : k ≤ k
  itself = omega arith

  -- ---- names

  d-new : (f : ℕ → List ℕ) → AreVariables f → HasNewName (vocabulary f) 2 env names (d_name k) (term_decl (d_declared k))
  d-new f are = (ap term_name (sym is.many_terms), ready.new_d k itself small, λ x less same. are.apart x (d_number k) same)

  behind-d : (f : ℕ → List ℕ) → AreVariables f → Declares (vocabulary f) 2 env names → Declares (vocabulary f) 2 (env_d env k) (names_d names k)
  behind-d f are behind =
      behind-more (vocabulary f) 2 env names behind ready.agrees (d_name k) (term_decl (d_declared k)) (numbered-name 100 k refl refl small) (d-new f are)

  t-new : (f : ℕ → List ℕ) → HasNewName (vocabulary f) 2 (env_d env k) (names_d names k) (t_name k) (assertion_decl (t_stated k))
  t-new f = (t-is k ∙ ap assertion_name (sym is.many_assertions ∙ sym (ap (λ (xs : List Assertion). length xs) (assertions_d k env is))), ready.new_t k itself small)

  agrees-d : Agrees (names_d names k)
  agrees-d = agrees_more names (names_d names k) (d_name k) (term_decl (d_declared k)) refl ready.agrees

  behind-t : (f : ℕ → List ℕ) → Declares (vocabulary f) 2 (env_d env k) (names_d names k) → Declares (vocabulary f) 2 (env_t env k) (names_t names k)
  behind-t f behind =
      behind-more (vocabulary f) 2 (env_d env k) (names_d names k) behind agrees-d (t_name k) (assertion_decl (t_stated k)) (numbered-name 116 k refl refl small) (t-new f)

  many-t : length (assertions (env_t env k)) ≡ suc (t_number k)
  many-t = ap (λ (xs : List Assertion). length xs) (assertions_t k env is) ∙ length-push (assertions env) (t_stated k) ∙ ap suc is.many_assertions

  other-letter : (i : ℕ) → t_name k ≡ g_name i → ⊥
  other-letter i same = other-heads 116 103 _ _ (λ e. absurd (omega (arith, e))) same

  letter-other : (i : ℕ) → g_name k ≡ t_name i → ⊥
  letter-other i same = other-heads 103 116 _ _ (λ e. absurd (omega (arith, e))) same

  g-new : (f : ℕ → List ℕ) → HasNewName (vocabulary f) 2 (env_t env k) (names_t names k) (g_name k) (assertion_decl (g_stated k))
  g-new f = (g-is k ∙ ap assertion_name (sym many-t), new-more names.assertions (t_name k) (g_name k) (ready.new_g k itself small) (other-letter k))

  agrees-t : Agrees (names_t names k)
  agrees-t = agrees_more (names_d names k) (names_t names k) (t_name k) (assertion_decl (t_stated k)) refl agrees-d

  behind-g : (f : ℕ → List ℕ) → Declares (vocabulary f) 2 (env_t env k) (names_t names k) → Declares (vocabulary f) 2 (env_g env k) (names_g names k)
  behind-g f behind =
      behind-more (vocabulary f) 2 (env_t env k) (names_t names k) behind agrees-t (g_name k) (assertion_decl (g_stated k)) (numbered-name 103 k refl refl small) (g-new f)

  further : (i : ℕ) → suc k ≤ i → k ≡ i → ⊥
  further i less same = absurd (omega (arith, less, same))

  ready-next : Ready (suc k) (env_g env k) (names_g names k)
  ready-next = record {
    stands = stands-next k env is;
    with_ab = behind-g ab (behind-t ab (behind-d ab ab-are ready.with_ab));
    with_xp = behind-g xp (behind-t xp (behind-d xp xp-are ready.with_xp));
    agrees = agrees_more (names_t names k) (names_g names k) (g_name k) (assertion_decl (g_stated k)) refl agrees-t;
    new_d = λ i less low. new-more names.terms (d_name k) (d_name i) (ready.new_d i (omega (arith, less)) low) (other-number 100 k i small low (further i less));
    new_t = λ i less low. new-more (names.assertions ++ t_name k ∷ []) (g_name k) (t_name i)
        (new-more names.assertions (t_name k) (t_name i) (ready.new_t i (omega (arith, less)) low) (other-number 116 k i small low (further i less))) (letter-other i);
    new_g = λ i less low. new-more (names.assertions ++ t_name k ∷ []) (g_name k) (g_name i)
        (new-more names.assertions (t_name k) (g_name i) (ready.new_g i (omega (arith, less)) low) (other-letter i)) (other-number 103 k i small low (further i less));
  }

  -- ---- the definition, and its second theorem

  d-said : Says (statement v (d_statement k)) (λ n. IsStatement names n (d_statement k))
  d-said = statement-said v 2 (has-names ab ab-are) env names ready.with_ab (d_statement k) (record {
    identifier = numbered-name 100 k refl refl small;
    new = d-new ab ab-are;
    legal = d-stated k env is;
    finished = tt;
    within = (omega arith, one-ascends, none-rising, tt, refl, refl);
    low = d-low k;
  })

  g-said : Says (statement (vocabulary xp) (g_statement k)) (λ n. IsStatement (names_t names k) n (g_statement k))
  g-said = statement-said (vocabulary xp) 2 (has-names xp xp-are) (env_t env k) (names_t names k) (behind-t xp (behind-d xp xp-are ready.with_xp)) (g_statement k) (record {
    identifier = numbered-name 103 k refl refl small;
    new = g-new xp;
    legal = g-stated k env is;
    finished = (tt, tt);
    within = (omega arith, omega arith, nat-ascend, (refl, (tt, tt)));
    low = omega arith;
  })

  -- ---- its first theorem

  abbrev env' : List Declaration
  env' = env_d env k

  abbrev names' : Names
  names' = names_d names k

  abbrev one : List Binder
  one = wff ∷ []

  abbrev vars : List (List ℕ)
  vars = upto v.variable 1

  behind : Declares v 2 env' names'
  behind = behind-d ab ab-are ready.with_ab

  has : HasNames v 2
  has = has-names ab ab-are

  known : Known v names' (signatures env') 1 vars
  known = record {
    variables = numbered-upto v.variable 2 (has.variables, has.own_variables) 1 (omega arith);
    terms = behind.terms;
    apart = λ t there. new-upto v.variable 1 (v.term t) (λ x less same. behind.apart t x there (omega (arith, less)) same);
    constants = behind.constants;
  }

  a-there : AllInRange (signatures env') 1 (more (var 0) none)
  a-there = (omega arith, tt)

  claim-there : InRange (signatures env') 1 (d (d_number k) (var 0))
  claim-there = (t-legal k env is).0.2

  body-there : InRange (signatures env') 1 (body k)
  body-there = range_of_sort (signatures env') one (body k) 0 (body-sort-d k env is)

  unfold-said : Says (unfold_phrase k) (λ n. IsConv (scope_of names' vars) n (t_conversion k))
  unfold-said =
      a-list (key (codes ":unfold") (plain-atom (codes ":unfold") refl)
      (take (a-term v names' (signatures env') 1 vars known (d_number k) claim-there.0)
      (take (expr-list-said v names' (signatures env') 1 vars known (more (var 0) none) a-there)
      (take (a-list (done (λ at. refl)))
      (take (own-said v names' (signatures env') 1 vars known (body k) body-there)
      (done (λ n h n3 h3 n2 h2 n1 h1 at' at.
      (d_number k, more (var 0) none, [], own (body k), h1, h2, h3, h, ap (unfold_conv (d_number k) (more (var 0) none) []) (sym (own-body k))))))))))

  proof-is : Says (t_proof_phrase k) (λ n. IsProof (scope_of names' vars) [] [] n (t_proof k))
  proof-is =
      a-list (key (codes ":conv") (plain-atom (codes ":conv") refl)
      (take (expr-said v names' (signatures env') 1 vars known (d (d_number k) (var 0)) claim-there)
      (take unfold-said
      (take (proof-said v names' env' one vars known 2 none behind.assertions_ has (omega arith) 0 no_derivs (body_proof k) (body k) (omega arith)
      (subst (λ (x : Derivation). Derives env' one none x (body k)) (sym (body-means k)) (body-derives k env is k refl)) (body-lets env' k) (body-sees k) (body-leaves k))
      (done (λ n3 h3 n2 h2 n1 h1 at' at. (d (d_number k) (var 0), t_conversion k, body_proof k, h1, h2, h3, refl)))))))

  t-said : Says (t_phrase k) (λ n. IsStatement names' n (t_statement k))
  t-said =
      a-list (key (codes "theorem") (plain-atom (codes "theorem") refl)
      (take (a-new-name names'.assertions (t_name k) (numbered-name 116 k refl refl small) (ready.new_t k itself small))
      (take (params-said v 2 (has.variables, has.own_variables) names' (length (sorts env')) behind.sorts_ one (omega arith)
      (good-params (sorts env') 1 one (t-legal k env is).0.0 (t-legal k env is).1.0 one-ascends))
      (take (a-list {P = λ n. AreNamedHyps (scope_of names' vars) n none []} (done (λ at. (refl, refl))))
      (take (expr-said v names' (signatures env') 1 vars known (d (d_number k) (var 0)) claim-there)
      (take (a-list {P = λ n. AreDummies names' vars n [] vars} (done (λ at. (refl, refl))))
      (take proof-is
      (done (λ n6 h6 n5 h5 n4 h4 n3 h3 n2 h2 n1 h1 at' at.
      (refl, (one, vars, none, [], d (d_number k) (var 0), vars, t_proof k, h1, h2, h3, h4, h5, h6, refl, refl)))))))))))

-- ---- all of them

abbrev pub numbered_phrases : ℕ → ℕ → Phrases
numbered_phrases k zero = no_phrases
numbered_phrases k (suc m) =
    one_more (statement (vocabulary ab) (d_statement k)) (one_more (t_phrase k) (one_more (statement (vocabulary xp) (g_statement k)) (numbered_phrases (suc k) m)))

numbered-said : (k m : ℕ) → k + m ≤ 10000 → (env : List Declaration) (names : Names) → Ready k env names → AllSay (numbered_phrases k m) (λ ns. AreStatements names ns (numbered k m))
numbered-said k zero few env names ready = done refl
numbered-said k (suc m) few env names ready =
    let small : k ≤ 10000 = omega (arith, few) in
    and-then names (d_statement k) _ (d-said k small env names ready)
    (and-then (names_d names k) (t_statement k) _ (t-said k small env names ready)
    (and-then (names_t names k) (g_statement k) _ (g-said k small env names ready)
    (numbered-said (suc k) m (omega (arith, few)) (env_g env k) (names_g names k) (ready-next k small env names ready))))

numbered-low : (k m : ℕ) → depth_of_all (numbered_phrases k m) ≤ depth_limit
numbered-low k zero = omega arith
numbered-low k (suc m) = omega (arith, d-low k, t-low k, numbered-low (suc k) m)

-- ---- the sorts, the terms and the axioms

abbrev names1 : Names
names1 = names_with (no_names false) (codes "wff") (sort_decl (record { 0 = 4 }))

abbrev names2 : Names
names2 = names_with names1 (codes "nat") (sort_decl (record { 0 = 0 }))

abbrev names3 : Names
names3 = names_with names2 (codes "im") (term_decl im_declared)

abbrev names4 : Names
names4 = names_with names3 (codes "all") (term_decl all_declared)

abbrev names5 : Names
names5 = names_with names4 (codes "ax_1") (assertion_decl ax_1)

abbrev names6 : Names
names6 = names_with names5 (codes "ax_mp") (assertion_decl ax_mp)

abbrev head_names : Names
head_names = names_with names6 (codes "ax_gen") (assertion_decl ax_gen)

abbrev env1 : List Declaration
env1 = sort_decl (record { 0 = 4 }) ∷ []

agrees1 : Agrees names1
agrees1 = agrees_more (no_names false) names1 (codes "wff") (sort_decl (record { 0 = 4 })) refl (agrees_first false)

agrees2 : Agrees names2
agrees2 = agrees_more names1 names2 (codes "nat") (sort_decl (record { 0 = 0 })) refl agrees1

agrees3 : Agrees names3
agrees3 = agrees_more names2 names3 (codes "im") (term_decl im_declared) refl agrees2

agrees4 : Agrees names4
agrees4 = agrees_more names3 names4 (codes "all") (term_decl all_declared) refl agrees3

agrees5 : Agrees names5
agrees5 = agrees_more names4 names5 (codes "ax_1") (assertion_decl ax_1) refl agrees4

agrees6 : Agrees names6
agrees6 = agrees_more names5 names6 (codes "ax_mp") (assertion_decl ax_mp) refl agrees5

module _ (f : ℕ → List ℕ) (are : AreVariables f) where
  behind1 : Declares (vocabulary f) 2 env1 names1
  behind1 = behind-more (vocabulary f) 2 [] (no_names false) (behind-none (vocabulary f) 2) (agrees_first false) (codes "wff") (sort_decl (record { 0 = 4 })) refl (refl, refl)

  behind2 : Declares (vocabulary f) 2 env2 names2
  behind2 = behind-more (vocabulary f) 2 env1 names1 behind1 agrees1 (codes "nat") (sort_decl (record { 0 = 0 })) refl (refl, refl)

  behind3 : Declares (vocabulary f) 2 env3 names3
  behind3 = behind-more (vocabulary f) 2 env2 names2 behind2 agrees2 (codes "im") (term_decl im_declared) refl (refl, refl, λ x less same. are.apart x 0 same)

  behind4 : Declares (vocabulary f) 2 env4 names4
  behind4 = behind-more (vocabulary f) 2 env3 names3 behind3 agrees3 (codes "all") (term_decl all_declared) refl (refl, refl, λ x less same. are.apart x 1 same)

  behind5 : Declares (vocabulary f) 2 env5 names5
  behind5 = behind-more (vocabulary f) 2 env4 names4 behind4 agrees4 (codes "ax_1") (assertion_decl ax_1) refl (refl, refl)

  behind6 : Declares (vocabulary f) 2 env6 names6
  behind6 = behind-more (vocabulary f) 2 env5 names5 behind5 agrees5 (codes "ax_mp") (assertion_decl ax_mp) refl (refl, refl)

  behind7 : Declares (vocabulary f) 2 head_declarations head_names
  behind7 = behind-more (vocabulary f) 2 env6 names6 behind6 agrees6 (codes "ax_gen") (assertion_decl ax_gen) refl (refl, refl)

ready-first : Ready 0 head_declarations head_names
ready-first = record {
  stands = head-stands;
  with_ab = behind7 ab ab-are;
  with_xp = behind7 xp xp-are;
  agrees = agrees_more names6 head_names (codes "ax_gen") (assertion_decl ax_gen) refl agrees6;
  new_d = λ i less low. refl;
  new_t = λ i less low. refl;
  new_g = λ i less low. refl;
}

wff-said : Says (statement v (stated (codes "wff") (sort_decl (record { 0 = 4 })) None)) (λ n. IsStatement (no_names false) n (stated (codes "wff") (sort_decl (record { 0 = 4 })) None))
wff-said = statement-said v 2 (has-names ab ab-are) [] (no_names false) (behind-none v 2) _ (record {
  identifier = refl;
  new = (refl, refl);
  legal = sort-stated [] (codes "wff") (record { 0 = 4 });
  finished = tt;
  within = (omega arith, refl, refl);
  low = omega arith;
})

nat-said : Says (statement v (stated (codes "nat") (sort_decl (record { 0 = 0 })) None)) (λ n. IsStatement names1 n (stated (codes "nat") (sort_decl (record { 0 = 0 })) None))
nat-said = statement-said v 2 (has-names ab ab-are) env1 names1 (behind1 ab ab-are) _ (record {
  identifier = refl;
  new = (refl, refl);
  legal = sort-stated env1 (codes "nat") (record { 0 = 0 });
  finished = tt;
  within = (omega arith, refl, refl);
  low = omega arith;
})

im-said : Says (statement v (stated (codes "im") (term_decl im_declared) None)) (λ n. IsStatement names2 n (stated (codes "im") (term_decl im_declared) None))
im-said = statement-said v 2 (has-names ab ab-are) env2 names2 (behind2 ab ab-are) _ (record {
  identifier = refl;
  new = (refl, refl, λ x less same. ab-are.apart x 0 same);
  legal = im-stated;
  finished = tt;
  within = (omega arith, two-ascend, none-rising, tt, refl, refl);
  low = omega arith;
})

all-said : Says (statement (vocabulary xp) (stated (codes "all") (term_decl all_declared) None)) (λ n. IsStatement names3 n (stated (codes "all") (term_decl all_declared) None))
all-said = statement-said (vocabulary xp) 2 (has-names xp xp-are) env3 names3 (behind3 xp xp-are) _ (record {
  identifier = refl;
  new = (refl, refl, λ x less same. xp-are.apart x 1 same);
  legal = all-stated;
  finished = tt;
  within = (omega arith, nat-ascend, none-rising, tt, refl, refl);
  low = omega arith;
})

ax-1-said : Says (statement v (stated (codes "ax_1") (assertion_decl ax_1) None)) (λ n. IsStatement names4 n (stated (codes "ax_1") (assertion_decl ax_1) None))
ax-1-said = statement-said v 2 (has-names ab ab-are) env4 names4 (behind4 ab ab-are) _ (record {
  identifier = refl;
  new = (refl, refl);
  legal = ax-1-stated;
  finished = tt;
  within = (omega arith, omega arith, two-ascend, (refl, refl));
  low = omega arith;
})

ax-mp-said : Says (statement v (stated (codes "ax_mp") (assertion_decl ax_mp) None)) (λ n. IsStatement names5 n (stated (codes "ax_mp") (assertion_decl ax_mp) None))
ax-mp-said = statement-said v 2 (has-names ab ab-are) env5 names5 (behind5 ab ab-are) _ (record {
  identifier = refl;
  new = (refl, refl);
  legal = ax-mp-stated;
  finished = tt;
  within = (omega arith, omega arith, two-ascend, (refl, refl));
  low = omega arith;
})

ax-gen-said : Says (statement (vocabulary xp) (stated (codes "ax_gen") (assertion_decl ax_gen) None)) (λ n. IsStatement names6 n (stated (codes "ax_gen") (assertion_decl ax_gen) None))
ax-gen-said = statement-said (vocabulary xp) 2 (has-names xp xp-are) env6 names6 (behind6 xp xp-are) _ (record {
  identifier = refl;
  new = (refl, refl);
  legal = ax-gen-stated;
  finished = tt;
  within = (omega arith, omega arith, nat-ascend, (refl, refl));
  low = omega arith;
})

-- ---- the text

abbrev pub sample_phrases : ℕ → Phrases
sample_phrases n =
    one_more (statement v (stated (codes "wff") (sort_decl (record { 0 = 4 })) None))
    (one_more (statement v (stated (codes "nat") (sort_decl (record { 0 = 0 })) None))
    (one_more (statement v (stated (codes "im") (term_decl im_declared) None))
    (one_more (statement (vocabulary xp) (stated (codes "all") (term_decl all_declared) None))
    (one_more (statement v (stated (codes "ax_1") (assertion_decl ax_1) None))
    (one_more (statement v (stated (codes "ax_mp") (assertion_decl ax_mp) None))
    (one_more (statement (vocabulary xp) (stated (codes "ax_gen") (assertion_decl ax_gen) None)) (numbered_phrases 0 n)))))))

sample-said : (n : ℕ) → n ≤ 10000 → AllSay (sample_phrases n) (λ ns. AreStatements (no_names false) ns (sample_statements n))
sample-said n few =
    and-then (no_names false) _ _ wff-said (and-then names1 _ _ nat-said (and-then names2 _ _ im-said (and-then names3 _ _ all-said
    (and-then names4 _ _ ax-1-said (and-then names5 _ _ ax-mp-said (and-then names6 _ _ ax-gen-said
    (numbered-said 0 n (omega (arith, few)) head_declarations head_names ready-first)))))))

sample-low : (n : ℕ) → depth_of_all (sample_phrases n) ≤ depth_limit
sample-low n = omega (arith, numbered-low 0 n)

-- what is written of the phrases is a well-typed text of the statements
pub phrases-read : (n : ℕ) → n ≤ 10000 → TextOf false (lines_of (sample_phrases n)) (sample_statements n)
phrases-read n few =
    let said = sample-said n few in
    let (ns, spelled, are) = lines-spell (sample_phrases n) said.fit (sample-low n) in
    ((ns, (spelled, said.read ns are)), sample-legal n)

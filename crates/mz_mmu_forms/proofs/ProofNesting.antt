-- Proofs within one another, and what a step makes of one.
use Rattle.std.proofs.Common.{◌≡◌, ◌<◌, ◌+◌, ◌*◌, ◌^◌, ◌++◌, ◌∙◌, ℕ, List, [], ◌∷◌, length, Option, Result, IfOk, ap, sym, refl, subst, arith}
use Rattle.std.specs.Prelude.{IfErr}
use Rattle.mz_base.proofs.Offered.{length-push, new-parts}
use Rattle.mz_base.specs.Checks.{Checks, ◌>>◌}
use Rattle.mz_sexpr.specs.Node.{Node, Nodes, list, no_nodes, node, place, word}
use Rattle.mz_sexpr.specs.Number.{node_at, node_count, nodes_after}
use Rattle.mz_logic_theory.specs.Tree.{Tree, Trees}
use Rattle.mz_logic_theory.specs.Conversions.{Conversion}
use Rattle.mz_logic_theory.specs.View.{tree}
use Rattle.mz_base.specs.Names.{IsNew}
use Rattle.mz_mmu_theory.specs.Name.{Scope, HasNumber, IsNewName}
use Rattle.mz_mmu_theory.specs.Cursor.{nodes_from, nodes_size, node_size, IsThere}
use Rattle.mz_mmu_theory.specs.Expressions.{IsExpr, IsExprList}
use Rattle.mz_mmu_theory.specs.Proof.{Proof, Proofs, by_citation, by_conv, by_let, no_proofs, more_proofs}
use Rattle.mz_mmu_theory.specs.Proofs.{proof_keyword, IsConv, IsProof, IsProofBy, AreProofs}
use Rattle.mz_mmu_theory.specs.declared.keyword.Keyword.{Keyword}
use Rattle.mz_mmu_theory.specs.declared.keyword.Keyword.TheVariants.{Conv as conv_word, Let as let_word, Other as no_word}
use Rattle.mz_mmu_theory.specs.FormOrder.{known_asked, new_asked, expr_asked, expr_list_asked, conv_asked, proof_asked, proof_asked_by, proofs_asked}
use Rattle.mz_mmu_theory.specs.ProofView.{proof_view}
use Rattle.mz_mmu_forms.specs.ProofSteps.{proofs_then, WaitsForLast, WaitsForLet, WaitsForMore, cited, ProofWaits, CanGoOn, ProofSays, SaysOfProof, ProofSaysBy, IsNextProof, proof_turns}
use Rattle.mz_mmu_theory.specs.Stops.{Stops}
use Rattle.mz_mmu_theory.specs.declared.fault.Fault.{Fault}
use Rattle.mz_mmu_theory.specs.declared.fault.Stop.{Stop}
use Rattle.mz_mmu_theory.specs.declared.proof.Proof.{Proof as Kept}
use Rattle.mz_mmu_forms.specs.declared.proofs.ProofOuter.{ProofOuter}
use Rattle.mz_mmu_forms.specs.declared.proofs.ProofOuter.TheVariants as outers
use Rattle.mz_mmu_forms.specs.declared.proofs.ProofStep.{ProofStep}
use Rattle.mz_mmu_forms.specs.declared.proofs.ProofStep.TheVariants as steps
use Rattle.mz_mmu_theory.proofs.Offered.{stepped, stands_there, node_size_positive, known_holds, new_holds, new_name_is, new_name_word, expr_holds, expr_list_holds, conv_holds, proof_holds}
use Rattle.mz_mmu_forms.proofs.ProofLists.{proofs_then_none, proofs_then_push}
use Rattle.mz_mmu_forms.proofs.Dispatch.{if_ok, if_err, proof_by, proof_stops_by}
use Rattle.mz_mmu_forms.proofs.Stopping.{stops_before, stops_after}

-- ---- what waits, when more is known of the kind

module _ (sc : Scope) (hyps : List (List ℕ)) (all : Nodes) (Is Is' : Proof → Type 0) (asked asked' : Checks Fault) (is : (p : Proof) → Is p → Is' p)
    (stops : (stop : Stop) → Stops stop asked → Stops stop asked') where
  last_more : (inner : Node) (within : List (List ℕ)) (make : Proof → Proof) → WaitsForLast sc hyps Is asked inner within make → WaitsForLast sc hyps Is' asked' inner within make
  last_more inner within make w = record { made = λ r h. is (make r) (w.made r h); stops = λ stop h. stops stop (w.stops stop h) }

  let_more : (lets : List (List ℕ)) (inner : Node) (name : List ℕ) (second : ℕ) → WaitsForLet sc hyps all Is asked lets inner name second → WaitsForLet sc hyps all Is' asked' lets inner name second
  let_more lets inner name second w = record {
    there = w.there;
    few = w.few;
    name = w.name;
    new = w.new;
    made = λ r r' h h'. is (by_let r r') (w.made r r' h h');
    stops = λ stop h. stops stop (w.stops stop h);
    stops_behind = λ stop holds h. stops stop (w.stops_behind stop holds h);
  }

  cite_more : (lets : List (List ℕ)) (inner : Node) (left : Option ℕ) (make : Proofs → Proof) → WaitsForMore sc hyps all Is asked lets inner left make
      → WaitsForMore sc hyps all Is' asked' lets inner left make
  cite_more lets inner left make w = record {
    there = w.there;
    few = w.few;
    made = λ r rs h hs. is (make (more_proofs r rs)) (w.made r rs h hs);
    stops = λ stop h. stops stop (w.stops stop h);
    stops_behind = λ stop holds h. stops stop (w.stops_behind stop holds h);
  }

  waits_more : (lets : List (List ℕ)) (inner : Node) (now : List (List ℕ)) (o : ProofOuter) → ProofWaits sc hyps all Is asked lets inner now o → ProofWaits sc hyps all Is' asked' lets inner now o
  waits_more lets inner now (outers.Conv e c) (same, w) = (same, last_more inner lets (by_conv (tree e) c) w)
  waits_more lets inner now (outers.Let x second) (same, w) = (same, let_more lets inner x.now second w)
  waits_more lets inner now (outers.Scope p) (x, same, w) = (x, same, last_more inner (lets ++ x ∷ []) (by_let p) w)
  waits_more lets inner now (outers.Cite T es ps left) (same, w) = (same, cite_more lets inner left (cited T es ps.items) w)

  proof_says_more : (lets now : List (List ℕ)) (step : ProofStep) → ProofSays sc hyps all Is asked lets now step → ProofSays sc hyps all Is' asked' lets now step
  proof_says_more lets now (steps.Inner o n) (there, few, w) = (there, few, waits_more lets (node_at all n) now o w)
  proof_says_more lets now (steps.Whole p) (same, h) = (same, is (proof_view p) h)

-- ---- a proof by its first atom

-- the keyword with which it begins is this one
module _ (sc : Scope) (hyps : List (List ℕ)) (all : Nodes) (lets : List (List ℕ)) (k : Keyword) (at : ℕ) (h : Node) (rest : Option ℕ) (key : proof_keyword h ≡ k) (r : Result ProofStep Stop) where
  pub proof_says_by : IfOk r (ProofSaysBy sc hyps all lets k at h rest) → IfOk r (ProofSaysBy sc hyps all lets (proof_keyword h) at h rest)
  proof_says_by = subst (λ q. IfOk r (ProofSaysBy sc hyps all lets q at h rest)) (sym key)

  pub proof_stops_by_word : IfErr r (λ s. Stops s (proof_asked_by sc hyps lets k at h (nodes_from all rest))) → IfErr r (λ s. Stops s (proof_asked_by sc hyps lets (proof_keyword h) at h (nodes_from all rest)))
  proof_stops_by_word = subst (λ q. IfErr r (λ s. Stops s (proof_asked_by sc hyps lets q at h (nodes_from all rest)))) (sym key)

-- a list is what it is by its first atom
module _ (sc : Scope) (hyps : List (List ℕ)) (all : Nodes) (lets : List (List ℕ)) (m h : Node) (rest : Option ℕ) (r : Result ProofStep Stop) (shape : m ≡ list (place m) (node h (nodes_from all rest))) where
  pub proof_list_says : IfOk r (ProofSaysBy sc hyps all lets (proof_keyword h) (place m) h rest) → IfOk r (SaysOfProof sc hyps all lets m lets)
  proof_list_says =
      let ns = nodes_from all rest in
      let k = proof_keyword h in
      if_ok r (ProofSaysBy sc hyps all lets k (place m) h rest) (SaysOfProof sc hyps all lets m lets)
      (λ step. proof_says_more sc hyps all (IsProofBy sc hyps lets k h ns) (IsProof sc hyps lets m) (proof_asked_by sc hyps lets k (place m) h ns) (proof_asked sc hyps lets m)
      (proof_by sc hyps lets m h ns k shape refl) (proof_stops_by sc hyps lets m h ns k shape refl) lets lets step)

  pub proof_list_stops : IfErr r (λ s. Stops s (proof_asked_by sc hyps lets (proof_keyword h) (place m) h (nodes_from all rest))) → IfErr r (λ s. Stops s (proof_asked sc hyps lets m))
  proof_list_stops =
      let ns = nodes_from all rest in
      let k = proof_keyword h in
      if_err r (λ s. Stops s (proof_asked_by sc hyps lets k (place m) h ns)) (λ s. Stops s (proof_asked sc hyps lets m)) (proof_stops_by sc hyps lets m h ns k shape refl)

  pub proof_list_fewer : IfOk r (λ step. proof_turns all step < 2 * nodes_size (nodes_from all rest) + 2) → IfOk r (λ step. proof_turns all step + 1 < 2 * node_size m)
  proof_list_fewer =
      let sizes : node_size m ≡ 1 + (node_size h + nodes_size (nodes_from all rest)) = ap node_size shape in
      let first = node_size_positive h in
      if_ok r (λ step. proof_turns all step < 2 * nodes_size (nodes_from all rest) + 2) (λ step. proof_turns all step + 1 < 2 * node_size m) (λ step less. omega (arith, sizes, first, less))

pub proof_list_few : (all : Nodes) (lets : List (List ℕ)) (m h : Node) (rest : Option ℕ) → m ≡ list (place m) (node h (nodes_from all rest))
    → length lets + node_size m < 2 ^ 32 → length lets + nodes_size (nodes_from all rest) < 2 ^ 32
proof_list_few all lets m h rest shape few =
    let sizes : node_size m ≡ 1 + (node_size h + nodes_size (nodes_from all rest)) = ap node_size shape in
    omega (arith, sizes, few)

-- ---- what waits

-- a citation with these proofs is something of a kind, once those that are left have been read
pub record IsCitedSoFar (sc : Scope) (hyps : List (List ℕ)) (all : Nodes) (Is : Proof → Type 0) (asked : Checks Fault) (lets : List (List ℕ)) (T : ℕ) (es : Trees) (ps : List Kept) (left : Option ℕ) : Type 0 where
  pub made : (rs : Proofs) → AreProofs sc hyps lets (nodes_from all left) rs → Is (cited T es ps rs)
  pub stops : (stop : Stop) → Stops stop (proofs_asked sc hyps lets (nodes_from all left)) → Stops stop asked

module _ (sc : Scope) (hyps : List (List ℕ)) (all : Nodes) (lets : List (List ℕ)) where
  pub conv_waits : (ns : Nodes) (at : ℕ) (h e c q : Node) (f : Tree) (d : Conversion) → ns ≡ node e (node c (node q no_nodes)) → IsExpr sc e f → IsConv sc c d
      → WaitsForLast sc hyps (IsProofBy sc hyps lets conv_word h ns) (proof_asked_by sc hyps lets conv_word at h ns) q lets (by_conv f d)
  conv_waits ns at h e c q f d is x y = record {
    made = λ r z. subst (λ l. IsProofBy sc hyps lets conv_word h l (by_conv f d r)) (sym is) (f, d, r, x, y, z, refl);
    stops = λ stop z. subst (λ l. Stops stop (proof_asked_by sc hyps lets conv_word at h l)) (sym is)
        (stops_after stop (expr_asked sc e) (conv_asked sc c >> proof_asked sc hyps lets q) (expr_holds sc e f x)
        (stops_after stop (conv_asked sc c) (proof_asked sc hyps lets q) (conv_holds sc c d y) z));
  }

  pub let_waits : (ns : Nodes) (at : ℕ) (h x q : Node) (second : ℕ) (w : List ℕ) → ns ≡ node x (node q (node (node_at all second) no_nodes)) → second < node_count all
      → length lets + nodes_size ns < 2 ^ 32 → IsNewName (hyps ++ lets) x w
      → WaitsForLet sc hyps all (IsProofBy sc hyps lets let_word h ns) (proof_asked_by sc hyps lets let_word at h ns) lets q w second
  let_waits ns at h x q second w is there few name =
      let p = node_at all second in
      let named = new_name_is (hyps ++ lets) x w name in
      let sizes : nodes_size ns ≡ node_size x + (node_size q + (node_size p + 0)) = ap nodes_size is in
      let one = node_size_positive x in
      record {
        there = there;
        few = omega (arith, sizes, one, few);
        name = named.0;
        new = (new-parts hyps lets w named.1).1;
        made = λ r r' y z. subst (λ l. IsProofBy sc hyps lets let_word h l (by_let r r')) (sym is) (w, r, r', name, y, z, refl);
        stops = λ stop y. subst (λ l. Stops stop (proof_asked_by sc hyps lets let_word at h l)) (sym is)
            (stops_after stop (new_asked (hyps ++ lets) x) (proof_asked sc hyps lets q >> proof_asked sc hyps (lets ++ word x ∷ []) p) (new_holds (hyps ++ lets) x w name)
            (stops_before stop (proof_asked sc hyps lets q) (proof_asked sc hyps (lets ++ word x ∷ []) p) y));
        stops_behind = λ stop holds y. subst (λ l. Stops stop (proof_asked_by sc hyps lets let_word at h l)) (sym is)
            (stops_after stop (new_asked (hyps ++ lets) x) (proof_asked sc hyps lets q >> proof_asked sc hyps (lets ++ word x ∷ []) p) (new_holds (hyps ++ lets) x w name)
            (stops_after stop (proof_asked sc hyps lets q) (proof_asked sc hyps (lets ++ word x ∷ []) p) holds
            (subst (λ v. Stops stop (proof_asked sc hyps (lets ++ v ∷ []) p)) (new_name_word (hyps ++ lets) x w name) y)));
      }

  pub cited_so_far : (ns : Nodes) (at : ℕ) (h es : Node) (T : ℕ) (fs : Trees) (left : Option ℕ) → ns ≡ node es (nodes_from all left)
      → HasNumber sc.names.assertions h T → IsExprList sc es fs
      → IsCitedSoFar sc hyps all (IsProofBy sc hyps lets no_word h ns) (proof_asked_by sc hyps lets no_word at h ns) lets T fs [] left
  cited_so_far ns at h es T fs left is k e = record {
    made = λ rs ps. subst (λ l. IsProofBy sc hyps lets no_word h l (by_citation T fs rs)) (sym is) (T, fs, rs, k, e, ps, refl);
    stops = λ stop r. subst (λ l. Stops stop (proof_asked_by sc hyps lets no_word at h l)) (sym is)
        (stops_after stop (known_asked sc.names.assertions h) (expr_list_asked sc es >> proofs_asked sc hyps lets (nodes_from all left)) (known_holds sc.names.assertions h T k)
        (stops_after stop (expr_list_asked sc es) (proofs_asked sc hyps lets (nodes_from all left)) (expr_list_holds sc es fs e) r));
  }

  module _ (Is : Proof → Type 0) (asked : Checks Fault) (T : ℕ) (es : Trees) (ps : List Kept) (left : Option ℕ) where
    pub next_proof_says : (step : ProofStep) → IsCitedSoFar sc hyps all Is asked lets T es ps left → IsThere all left → length lets + nodes_size (nodes_from all left) < 2 ^ 32
        → IsNextProof all T es ps left step → ProofSays sc hyps all Is asked lets lets step
    next_proof_says (steps.Inner (outers.Cite U fs qs behind) n) u there few (is, stands, same_T, same_es, same_ps) =
        let more = stepped all left n behind is stands in
        let p = node_at all n in
        let ns = nodes_from all behind in
        let sizes : nodes_size (nodes_from all left) ≡ node_size p + nodes_size ns = ap nodes_size more in
        let one = node_size_positive p in (
          subst (IsThere all) is there,
          omega (arith, sizes, few),
          (
            refl,
            record {
              there = stands_there all behind (nodes_after all n) stands;
              few = omega (arith, sizes, one, few);
              made = λ r rs x xs.
                  subst (λ V. Is (cited V fs qs.items (more_proofs r rs))) (sym same_T) (subst (λ gs. Is (cited T gs qs.items (more_proofs r rs))) (sym same_es) (subst (λ os. Is (cited T es os (more_proofs r rs))) (sym same_ps)
                  (u.made (more_proofs r rs) (subst (λ l. AreProofs sc hyps lets l (more_proofs r rs)) (sym more) (r, rs, x, xs, refl)))));
              stops = λ stop r. u.stops stop (subst (λ l. Stops stop (proofs_asked sc hyps lets l)) (sym more) (stops_before stop (proof_asked sc hyps lets p) (proofs_asked sc hyps lets ns) r));
              stops_behind = λ stop holds r. u.stops stop (subst (λ l. Stops stop (proofs_asked sc hyps lets l)) (sym more) (stops_after stop (proof_asked sc hyps lets p) (proofs_asked sc hyps lets ns) holds r));
            },
          ),
        )
    next_proof_says (steps.Whole p) u there few (none_left, is) = (
      refl,
      subst Is (sym (is ∙ sym (ap (by_citation T es) (proofs_then_none ps))))
          (u.made no_proofs (subst (λ l. AreProofs sc hyps lets (nodes_from all l) no_proofs) (sym none_left) refl)),
    )
    next_proof_says _ u there few h = absurd h

  module _ (Is : Proof → Type 0) (asked : Checks Fault) (inner : Node) where
    -- a proof that has been read is put to those before it
    pub one_more_proof : (T : ℕ) (es : Trees) (ps now : List Kept) (left : Option ℕ) (p : Kept) → now ≡ ps ++ p ∷ [] → WaitsForMore sc hyps all Is asked lets inner left (cited T es ps)
        → IsProof sc hyps lets inner (proof_view p) → IsCitedSoFar sc hyps all Is asked lets T es now left
    one_more_proof T es ps now left p pushed w read = record {
      made = λ rs xs. subst (λ x. Is (by_citation T es x)) (sym (ap (λ x. proofs_then x rs) pushed ∙ proofs_then_push ps p rs)) (w.made (proof_view p) rs read xs);
      stops = λ stop r. w.stops_behind stop (proof_holds sc hyps lets inner (proof_view p) read) r;
    }

    -- a let's first part has been read
    pub scope_waits : (name : List ℕ) (second : ℕ) (r : Proof) → WaitsForLet sc hyps all Is asked lets inner name second → IsProof sc hyps lets inner r
        → WaitsForLast sc hyps Is asked (node_at all second) (lets ++ name ∷ []) (by_let r)
    scope_waits name second r w read = record {
      made = λ r' z. w.made r r' read z;
      stops = λ stop z. w.stops_behind stop (proof_holds sc hyps lets inner r read) z;
    }

-- ---- with a proof that has been read

module _ (sc : Scope) (hyps : List (List ℕ)) (all : Nodes) (around : List (List ℕ)) (Is : Proof → Type 0) (asked : Checks Fault) (inner : Node) (now : List (List ℕ)) where
  pub conv_done : (make : Proof → Proof) (r part : Proof) → part ≡ r → ((now ≡ around) × WaitsForLast sc hyps Is asked inner around make) → IsProof sc hyps now inner r
      → (now ≡ around) × Is (make part)
  conv_done make r part is (same, w) read = (same, subst (λ q. Is (make q)) (sym is) (w.made r (subst (λ ls. IsProof sc hyps ls inner r) same read)))

  pub let_done : (new : List (List ℕ)) (name : List ℕ) (second : ℕ) (r first : Proof) → first ≡ r → new ≡ now ++ name ∷ []
      → ((now ≡ around) × WaitsForLet sc hyps all Is asked around inner name second) → IsProof sc hyps now inner r
      → (second < node_count all) × (length new + node_size (node_at all second) < 2 ^ 32)
      × ((x : List ℕ) × (new ≡ around ++ x ∷ []) × WaitsForLast sc hyps Is asked (node_at all second) (around ++ x ∷ []) (by_let first))
  let_done new name second r first is pushed (same, w) read =
      let visible : new ≡ around ++ name ∷ [] = pushed ∙ ap (λ ls. ls ++ name ∷ []) same in
      let lengths = ap length visible ∙ length-push around name in
      let few = w.few in (
        w.there,
        omega (arith, lengths, few),
        (
          name,
          visible,
          subst (λ q. WaitsForLast sc hyps Is asked (node_at all second) (around ++ name ∷ []) (by_let q)) (sym is)
              (scope_waits sc hyps all around Is asked inner name second r w (subst (λ ls. IsProof sc hyps ls inner r) same read)),
        ),
      )

  pub scope_done : (new : List (List ℕ)) (first r second : Proof) → second ≡ r → ((front : List (List ℕ)) (last : List ℕ) → now ≡ front ++ last ∷ [] → new ≡ front)
      → ((x : List ℕ) × (now ≡ around ++ x ∷ []) × WaitsForLast sc hyps Is asked inner (around ++ x ∷ []) (by_let first)) → IsProof sc hyps now inner r
      → (new ≡ around) × Is (by_let first second)
  scope_done new first r second is popped (x, same, w) read =
      (popped around x same, subst (λ q. Is (by_let first q)) (sym is) (w.made r (subst (λ ls. IsProof sc hyps ls inner r) same read)))

  pub cite_done : (T : ℕ) (es : Trees) (ps more : List Kept) (left : Option ℕ) (p : Kept) (step : ProofStep) → more ≡ ps ++ p ∷ [] → IsNextProof all T es more left step
      → ((now ≡ around) × WaitsForMore sc hyps all Is asked around inner left (cited T es ps)) → IsProof sc hyps now inner (proof_view p)
      → ProofSays sc hyps all Is asked around now step
  cite_done T es ps more left p step pushed is (same, w) read =
      subst (λ ls. ProofSays sc hyps all Is asked around ls step) (sym same)
      (next_proof_says sc hyps all around Is asked T es more left step
      (one_more_proof sc hyps all around Is asked inner T es ps more left p pushed w (subst (λ ls. IsProof sc hyps ls inner (proof_view p)) same read)) w.there w.few is)

-- ---- fewer turns are left for the parts, and there's room for the lets in them

module _ (ns : Nodes) (x y z : Node) (is : ns ≡ node x (node y (node z no_nodes))) where
  sizes_of_three : nodes_size ns ≡ node_size x + (node_size y + (node_size z + 0))
  sizes_of_three = ap nodes_size is

  pub third_fewer : 2 * node_size z + 2 * 0 + 1 < 2 * nodes_size ns + 2
  third_fewer = let sizes = sizes_of_three in omega (arith, sizes)

  pub second_fewer : 2 * node_size y + 2 * node_size z + 1 < 2 * nodes_size ns + 2
  second_fewer = let sizes = sizes_of_three in omega (arith, sizes)

  pub third_few : (lets : List (List ℕ)) → length lets + nodes_size ns < 2 ^ 32 → length lets + node_size z < 2 ^ 32
  third_few lets few = let sizes = sizes_of_three in omega (arith, sizes, few)

  pub second_few : (lets : List (List ℕ)) → length lets + nodes_size ns < 2 ^ 32 → length lets + node_size y < 2 ^ 32
  second_few lets few = let sizes = sizes_of_three in omega (arith, sizes, few)

module _ (ns behind : Nodes) (x : Node) (is : ns ≡ node x behind) where
  sizes_of_more : nodes_size ns ≡ node_size x + nodes_size behind
  sizes_of_more = ap nodes_size is

  pub fewer_behind : (turns : ℕ) → turns < 2 * nodes_size behind + 2 → turns < 2 * nodes_size ns + 2
  fewer_behind turns less = let sizes = sizes_of_more in omega (arith, sizes, less)

  pub few_behind : (lets : List (List ℕ)) → length lets + nodes_size ns < 2 ^ 32 → length lets + nodes_size behind < 2 ^ 32
  few_behind lets few = let sizes = sizes_of_more in omega (arith, sizes, few)

pub next_proof_fewer : (all : Nodes) (T : ℕ) (es : Trees) (ps : List Kept) (left : Option ℕ) (step : ProofStep) → IsNextProof all T es ps left step
    → proof_turns all step < 2 * nodes_size (nodes_from all left) + 2
next_proof_fewer all T es ps left (steps.Inner (outers.Cite U fs qs behind) n) (is, stands, same_T, same_es, same_ps) =
    let sizes : nodes_size (nodes_from all left) ≡ node_size (node_at all n) + nodes_size (nodes_from all behind) = ap nodes_size (stepped all left n behind is stands) in
    omega (arith, sizes)
next_proof_fewer all T es ps left (steps.Whole p) (none_left, is) = omega arith
next_proof_fewer all T es ps left _ h = absurd h

-- ---- proofs within one another

-- a node, and the lets that are visible in it
pub record Form : Type 0 where
  pub here : Node
  pub lets : List (List ℕ)

abbrev pub ProofWaitsAt : Scope → List (List ℕ) → Nodes → Form → Form → ProofOuter → Type 0
ProofWaitsAt sc hyps all m inner o = ProofWaits sc hyps all (IsProof sc hyps m.lets m.here) (proof_asked sc hyps m.lets m.here) m.lets inner.here inner.lets o

-- beside the lets that are visible now
abbrev pub ProofSaysAt : Scope → List (List ℕ) → Nodes → Form → List (List ℕ) × ProofStep → Type 0
ProofSaysAt sc hyps all m s = SaysOfProof sc hyps all m.lets m.here s.0 s.1

module _ (sc : Scope) (hyps : List (List ℕ)) (all : Nodes) where
  pub waits_stops : (m inner : Form) (o : ProofOuter) (stop : Stop) → ProofWaitsAt sc hyps all m inner o → Stops stop (proof_asked sc hyps inner.lets inner.here) → Stops stop (proof_asked sc hyps m.lets m.here)
  waits_stops m inner (outers.Conv e c) stop (same, w) h = w.stops stop (subst (λ ls. Stops stop (proof_asked sc hyps ls inner.here)) same h)
  waits_stops m inner (outers.Let x second) stop (same, w) h = w.stops stop (subst (λ ls. Stops stop (proof_asked sc hyps ls inner.here)) same h)
  waits_stops m inner (outers.Scope p) stop (x, same, w) h = w.stops stop (subst (λ ls. Stops stop (proof_asked sc hyps ls inner.here)) same h)
  waits_stops m inner (outers.Cite T es ps left) stop (same, w) h = w.stops stop (subst (λ ls. Stops stop (proof_asked sc hyps ls inner.here)) same h)

  can_go : (m inner : Form) (o : ProofOuter) → ProofWaitsAt sc hyps all m inner o → CanGoOn all inner.lets o
  can_go m inner (outers.Let x second) (same, w) =
      let lengths = ap length same in
      let few = w.few in
      (w.name, subst (λ ls. IsNew ls x.now) (sym same) w.new, omega (arith, lengths, few))
  can_go m inner (outers.Cite T es ps left) (same, w) = w.there
  can_go m inner _ w = tt

  pub can_go_on : (m inner : Form) (o : ProofOuter) (now : List (List ℕ)) → now ≡ inner.lets → ProofWaitsAt sc hyps all m inner o → CanGoOn all now o
  can_go_on m inner o now same w = subst (λ ls. CanGoOn all ls o) (sym same) (can_go m inner o w)

  -- what a proof was read for goes on with it, where the code says so of the lets that are visible
  pub goes_on_behind : (m inner : Form) (o : ProofOuter) (now new : List (List ℕ)) (step : ProofStep) (p : Kept) (next : ProofStep) → step ≡ steps.Whole p
      → (ProofWaits sc hyps all (IsProof sc hyps m.lets m.here) (proof_asked sc hyps m.lets m.here) m.lets inner.here now o → IsProof sc hyps now inner.here (proof_view p)
      → SaysOfProof sc hyps all m.lets m.here new next)
      → ProofWaitsAt sc hyps all m inner o → ProofSaysAt sc hyps all inner (now, step) → ProofSaysAt sc hyps all m (new, next)
  goes_on_behind m inner o now new step p next is go w says =
      let read = subst (SaysOfProof sc hyps all inner.lets inner.here now) is says in
      go (subst (λ ls. ProofWaits sc hyps all (IsProof sc hyps m.lets m.here) (proof_asked sc hyps m.lets m.here) m.lets inner.here ls o) (sym read.0) w)
      (subst (λ ls. IsProof sc hyps ls inner.here (proof_view p)) (sym read.0) read.1)

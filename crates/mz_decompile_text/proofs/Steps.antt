-- Conversions and proofs are read of their phrases.
use Rattle.std.proofs.Common.{ℕ, suc, ◌≡◌, ◌<◌, ◌≤◌, ◌++◌, inl, inr, List, [], ◌∷◌, length, All, refl, sym, ap, subst, arith}
use Rattle.std.specs.Prelude.{codes}
use Rattle.std.proofs.lemmas.List.Elements.{All-nil, All-cons}
use Rattle.std.proofs.lemmas.Option.{slice_get_within}
use Rattle.mz_sexpr.specs.Node.{Node, Nodes, atom, list, no_nodes, node}
use Rattle.mz_logic_theory.specs.Tree.{Tree, Trees, app, none, more, listed}
use Rattle.mz_logic_theory.specs.Declaration.{Declaration, signatures, assertions}
use Rattle.mz_logic_theory.specs.Sorts.{IsSorted}
use Rattle.mz_logic_theory.specs.Legality.{InRange}
use Rattle.mz_logic_theory.specs.Conversions.{Conversion, Conversions, refl_conv, sym_conv, cong_conv, unfold_conv, gap_conv, no_convs, more_convs, AreFresh, Between, AllBetween, GapsOnly, AllGapsOnly}
use Rattle.mz_logic_theory.specs.Derivations.{Derivations, Derives, AllDerive}
use Rattle.mz_logic_theory.specs.declared.binder.Binder.{Binder}
use Rattle.mz_logic_theory.proofs.Offered.{range_of_sort, ranges_of_fits}
use Rattle.mz_base.specs.Names.{IsNew}
use Rattle.mz_base.proofs.Offered.{new-both}
use Rattle.mz_mmu_theory.specs.Name.{Names, Scope, HasNumber, IsName, scope_of}
use Rattle.mz_mmu_theory.specs.Expressions.{IsExprList}
use Rattle.mz_mmu_theory.specs.Gaps.{LeavesOnly, AllLeaveOnly}
use Rattle.mz_mmu_theory.specs.Proof.{Proof, Proofs, by_hyp, by_name, by_citation, by_conv, by_let, by_gap, no_proofs, more_proofs}
use Rattle.mz_mmu_theory.specs.Proofs.{IsConv, IsConvBy, AreConvs, IsProof, IsProofBy, AreProofs}
use Rattle.mz_mmu_theory.specs.declared.keyword.Keyword.TheVariants.{Other as no_word}
use Rattle.mz_mmu_theory.specs.Meaning.{derivation, derivations, then_deriv, LetsDerive, AllLetsDerive}
use Rattle.mz_decompile_text.specs.Phrasing.{Vocabulary, conversion, conversions, proof, proofs}
use Rattle.mz_decompile_text.specs.Phrasable.{HasNames, SeesLets, AllSeeLets}
use Rattle.mz_decompile_text.proofs.Saying.{Says, AllSay, a-word, a-list, take, key, done, all-so}
use Rattle.mz_decompile_text.proofs.Numbers.{Numbered, upto, new-upto, new-next, numbered-upto}
use Rattle.mz_decompile_text.proofs.Atoms.{name-atom, plain-atom}
use Rattle.mz_decompile_text.proofs.NoKeyword.{no-conv-word, no-proof-word}
use Rattle.mz_decompile_text.proofs.Exprs.{a-new-name, variable-list, Known, a-term, expr-said, expr-list-said}

fresh-below : (ctx : List Binder) (es : Trees) (ys : List ℕ) (bs : List Binder) → AreFresh ctx es ys bs → All (λ y. y < length ctx) ys
fresh-below ctx es [] bs fresh = All-nil (λ y. y < length ctx)
fresh-below ctx es (y ∷ ys) [] fresh = absurd fresh
fresh-below ctx es (y ∷ ys) (b ∷ bs) ((c, at, _, _), _, _, rest) = All-cons (λ y. y < length ctx) y ys (slice_get_within ctx y c at) (fresh-below ctx es ys bs rest)

module _ (v : Vocabulary) (names : Names) (env : List Declaration) (ctx : List Binder) (vars : List (List ℕ))
    (known : Known v names (signatures env) (length ctx) vars) where
  abbrev sc : Scope
  sc = scope_of names vars

  abbrev There : Tree → Type 0
  There e = InRange (signatures env) (length ctx) e

  there-sorted : (e : Tree) → IsSorted env ctx e → There e
  there-sorted e (s, is) = range_of_sort (signatures env) ctx e s is

  -- ---- conversions

  by-cong : (h : Node) (t : ℕ) (cs : Conversions) → HasNumber names.terms h t → (ns : Nodes) → AreConvs sc ns cs → IsConvBy sc no_word h ns (cong_conv t cs)
  by-cong h t cs has no_nodes are = (t, has, ap (cong_conv t) are)
  by-cong h t cs has (node n ns) (d, ds, is, are, same) = (t, d, ds, has, is, are, ap (cong_conv t) same)

  as-cong : (at at' : ℕ) (t : ℕ) (cs : Conversions) → IsName (v.term t) → HasNumber names.terms (atom at' (v.term t)) t → (ns : Nodes) → AreConvs sc ns cs
      → IsConv sc (list at (node (atom at' (v.term t)) ns)) (cong_conv t cs)
  as-cong at at' t cs name has ns are = subst (λ w. IsConvBy sc w (atom at' (v.term t)) ns (cong_conv t cs)) (sym (no-conv-word (v.term t) name)) (by-cong (atom at' (v.term t)) t cs has ns are)

  term-there : (l : Tree) (t : ℕ) (es : Trees) → IsSorted env ctx l → l ≡ app t es → t < length (signatures env)
  term-there l t es sorted is = (subst There is (there-sorted l sorted)).0

  -- each side has a sort
  left-there : (c : Conversion) (l r : Tree) → Between env ctx c l r → There l
  left-there (refl_conv e) l r between = there-sorted l between.0
  left-there (sym_conv c) l r between = there-sorted l between.0
  left-there (cong_conv t cs) l r between = there-sorted l between.0
  left-there (unfold_conv t es ys c) l r between = there-sorted l between.0
  left-there (gap_conv a b) l r between = there-sorted l between.0

  mutual
    pub conv-said : (c : Conversion) (l r : Tree) → Between env ctx c l r → GapsOnly ⊥ c → Says (conversion v c) (λ n. IsConv sc n c)
    conv-said (refl_conv e) l r (sorted, _, is, _) free =
        a-list (key (codes ":refl") (plain-atom (codes ":refl") refl)
        (take (expr-said v names (signatures env) (length ctx) vars known e (subst There is (there-sorted l sorted)))
        (done (λ n h at' at. (e, h, refl)))))
    conv-said (sym_conv c) l r (_, _, between) free =
        a-list (key (codes ":sym") (plain-atom (codes ":sym") refl) (take (conv-said c r l between free) (done (λ n h at' at. (c, h, refl)))))
    conv-said (cong_conv t cs) l r (sorted, _, (ls, rs, is, _, all)) free =
        let there = term-there l t ls sorted is in
        let name = known.terms.named t there in
        a-list (key (v.term t) (name-atom (v.term t) name)
        (all-so (convs-said cs ls rs all free) (λ ns are at' at. as-cong at at' t cs name (name, known.terms.found t there) ns are)))
    conv-said (unfold_conv t es ys c) l r (sorted, _, is, (d, dummies, body, _, fits, fresh, between)) free =
        a-list (key (codes ":unfold") (plain-atom (codes ":unfold") refl)
        (take (a-term v names (signatures env) (length ctx) vars known t (term-there l t es sorted is))
        (take (expr-list-said v names (signatures env) (length ctx) vars known es (ranges_of_fits (signatures env) ctx es d.signature.params fits))
        (take (variable-list v (length ctx) vars known.variables ys (fresh-below ctx es ys dummies fresh))
        (take (conv-said c _ r between free)
        (done (λ n h n3 h3 n2 h2 n1 h1 at' at. (t, es, ys, c, h1, h2, h3, h, refl))))))))
    conv-said (gap_conv a b) l r between free = absurd free

    convs-said : (cs : Conversions) (ls rs : Trees) → AllBetween env ctx cs ls rs → AllGapsOnly ⊥ cs → AllSay (conversions v cs) (λ ns. AreConvs sc ns cs)
    convs-said no_convs ls rs all free = done refl
    convs-said (more_convs c cs) none rs all free = absurd all
    convs-said (more_convs c cs) (more l ls) none all free = absurd all
    convs-said (more_convs c cs) (more l ls) (more r rs) (between, all) (free, frees) =
        take (conv-said c l r between free) (all-so (convs-said cs ls rs all frees) (λ ns are n is. (c, cs, is, are, refl)))

  -- ---- proofs

  module _ (n : ℕ) (hyps : Trees) (assertions_ : Numbered v.assertion (length (assertions env)) names.assertions) (has : HasNames v n) (few : length (listed hyps) ≤ n) where
    abbrev labels : List (List ℕ)
    labels = upto v.hypothesis (length (listed hyps))

    abbrev lets_of : ℕ → List (List ℕ)
    lets_of k = upto v.let_name k

    labelled : Numbered v.hypothesis (length (listed hyps)) labels
    labelled = numbered-upto v.hypothesis n (has.hypotheses, has.own_hypotheses) (length (listed hyps)) few

    let-numbered : (k : ℕ) → k ≤ n → Numbered v.let_name k (lets_of k)
    let-numbered k le = numbered-upto v.let_name n (has.lets, has.own_lets) k le

    no-label : (k : ℕ) → k < n → IsNew labels (v.let_name k)
    no-label k less = new-upto v.hypothesis (length (listed hyps)) (v.let_name k) (λ i below is. has.apart i k (omega arith) less is)

    let-new : (k : ℕ) → k < n → IsNew (labels ++ lets_of k) (v.let_name k)
    let-new k less = new-both labels (lets_of k) (v.let_name k) (no-label k less) (new-next v.let_name n (has.lets, has.own_lets) k less)

    as-cited : (at at' : ℕ) (k T : ℕ) (es : Trees) (ps : Proofs) → IsName (v.assertion T) → HasNumber names.assertions (atom at' (v.assertion T)) T → (m : Node) (ns : Nodes)
        → IsExprList sc m es → AreProofs sc labels (lets_of k) ns ps → IsProof sc labels (lets_of k) (list at (node (atom at' (v.assertion T)) (node m ns))) (by_citation T es ps)
    as-cited at at' k T es ps name number m ns are all =
        subst (λ w. IsProofBy sc labels (lets_of k) w (atom at' (v.assertion T)) (node m ns) (by_citation T es ps)) (sym (no-proof-word (v.assertion T) name)) (T, es, ps, number, are, all, refl)

    mutual
      pub proof-said : (k : ℕ) (lets : Derivations) (p : Proof) (e : Tree) → k ≤ n → Derives env ctx hyps (derivation lets p) e → LetsDerive env ctx hyps lets p → SeesLets n k p
          → LeavesOnly ⊥ p → Says (proof v k p) (λ m. IsProof sc labels (lets_of k) m p)
      proof-said k lets (by_hyp i) e le derives _ _ _ =
          let less = slice_get_within (listed hyps) i e derives in
          a-word (v.hypothesis i) _ (name-atom (v.hypothesis i) (labelled.named i less)) (λ at. (labelled.named i less, inl (i, labelled.found i less, refl)))
      proof-said k lets (by_name i) e le _ _ less _ =
          let name = (let-numbered k le).named i less in
          a-word (v.let_name i) _ (name-atom (v.let_name i) name) (λ at. (name, inr (no-label i (omega (arith, less, le)), (i, (let-numbered k le).found i less, refl))))
      proof-said k lets (by_citation T es ps) e le (a, at, _, fits, _, all) derive sees free =
          let there = slice_get_within (assertions env) T a at in
          let name = assertions_.named T there in
          a-list (key (v.assertion T) (name-atom (v.assertion T) name)
          (take (expr-list-said v names (signatures env) (length ctx) vars known es (ranges_of_fits (signatures env) ctx es a.params fits))
          (all-so (proofs-said k lets ps _ le all derive sees free) (λ ns are m ms at'' at'. as-cited at' at'' k T es ps name (name, assertions_.found T there) m ns ms are))))
      proof-said k lets (by_conv f c p) e le (is, (g, between, derives)) derive sees (gap_free_, free) =
          a-list (key (codes ":conv") (plain-atom (codes ":conv") refl)
          (take (expr-said v names (signatures env) (length ctx) vars known f (left-there c f g between))
          (take (conv-said c f g between gap_free_)
          (take (proof-said k lets p g le derives derive sees free)
          (done (λ m3 h3 m2 h2 m1 h1 at' at. (f, c, p, h1, h2, h3, refl)))))))
      proof-said k lets (by_let p q) e le derives (derive, (f, first), derive') (less, sees, sees') (free, free') =
          a-list (key (codes ":let") (plain-atom (codes ":let") refl)
          (take (a-new-name (labels ++ lets_of k) (v.let_name k) (has.lets k less) (let-new k less))
          (take (proof-said k lets p f le first derive sees free)
          (take (proof-said (suc k) (then_deriv lets (derivation lets p)) q e less derives derive' sees' free')
          (done (λ m3 h3 m2 h2 m1 h1 at' at. (v.let_name k, p, q, h1, h2, h3, refl)))))))
      proof-said k lets (by_gap f) e le _ _ _ free = absurd free

      proofs-said : (k : ℕ) (lets : Derivations) (ps : Proofs) (es : Trees) → k ≤ n → AllDerive env ctx hyps (derivations lets ps) es
          → AllLetsDerive env ctx hyps lets ps → AllSeeLets n k ps → AllLeaveOnly ⊥ ps → AllSay (proofs v k ps) (λ ns. AreProofs sc labels (lets_of k) ns ps)
      proofs-said k lets no_proofs es le all derive sees free = done refl
      proofs-said k lets (more_proofs p ps) none le all derive sees free = absurd all
      proofs-said k lets (more_proofs p ps) (more e es) le (derives, all) (derive, rest) (sees, others) (free, frees) =
          take (proof-said k lets p e le derives derive sees free) (all-so (proofs-said k lets ps es le all rest others frees) (λ ns are m is. (p, ps, is, are, refl)))

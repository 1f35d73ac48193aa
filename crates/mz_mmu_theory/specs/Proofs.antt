-- Which conversions and proofs nodes are (this project's own profile of their s-expression form).
use Rattle.std.specs.Prelude.{ℕ, ◌≡◌, ◌⊎◌, true, List, [], ◌∷◌, ◌++◌, Some, codes, bytes_eq, if◌then◌else◌}
pub use Rattle.mz_mmu_theory.specs.declared.keyword.Keyword.{Keyword}
pub use Rattle.mz_mmu_theory.specs.declared.keyword.Keyword.TheVariants.{Conv as conv_word, Let as let_word, Refl as refl_word, Sym as sym_word, Unfold as unfold_word, Sorry as sorry_word, Other as no_word}
use Rattle.mz_sexpr.specs.Node.{Node, Nodes, atom, list, no_nodes, node, word}
use Rattle.mz_logic_theory.specs.Tree.{Tree, Trees}
use Rattle.mz_logic_theory.specs.Conversions.{Conversion, Conversions, refl_conv, sym_conv, cong_conv, unfold_conv, gap_conv, no_convs, more_convs}
use Rattle.mz_base.specs.Names.{number_of, IsNew}
use Rattle.mz_mmu_theory.specs.Name.{Scope, IsName, HasNumber, IsNewName}
use Rattle.mz_mmu_theory.specs.Expressions.{IsExpr, IsExprList, IsVariableList}
use Rattle.mz_mmu_theory.specs.Proof.{Proof, Proofs, by_hyp, by_name, by_citation, by_conv, by_let, by_gap, no_proofs, more_proofs}

-- ---- the keywords with which a list may begin; a list that begins with none of those that its
-- place knows begins with a name

-- a list has the empty string, which is none of them
abbrev pub conv_keyword_of : List ℕ → Keyword
conv_keyword_of w =
    if bytes_eq w (codes ":refl") then refl_word else
    (if bytes_eq w (codes ":sym") then sym_word else
    (if bytes_eq w (codes ":unfold") then unfold_word else
    (if bytes_eq w (codes ":sorry") then sorry_word else no_word)))

abbrev pub proof_keyword_of : List ℕ → Keyword
proof_keyword_of w =
    if bytes_eq w (codes ":conv") then conv_word else
    (if bytes_eq w (codes ":let") then let_word else
    (if bytes_eq w (codes ":sorry") then sorry_word else no_word))

abbrev pub conv_keyword : Node → Keyword
conv_keyword n = conv_keyword_of (word n)

abbrev pub proof_keyword : Node → Keyword
proof_keyword n = proof_keyword_of (word n)

-- ---- conversions: an atom or (:refl expr); (:sym conv); (t conv ..); (:unfold t (expr ..) (var ..) conv);
-- and in a draft a gap, (:sorry expr expr)

abbrev mutual
  pub IsConv : Scope → Node → Conversion → Type 0
  IsConv sc (atom at w) c = (e : Tree) × IsExpr sc (atom at w) e × (c ≡ refl_conv e)
  IsConv sc (list _ no_nodes) c = ⊥
  IsConv sc (list _ (node h ns)) c = IsConvBy sc (conv_keyword h) h ns c

  pub IsConvBy : Scope → Keyword → Node → Nodes → Conversion → Type 0
  IsConvBy sc refl_word h (node n no_nodes) c = (e : Tree) × IsExpr sc n e × (c ≡ refl_conv e)
  IsConvBy sc sym_word h (node n no_nodes) c = (d : Conversion) × IsConv sc n d × (c ≡ sym_conv d)
  IsConvBy sc unfold_word h (node t (node es (node ys (node n no_nodes)))) c =
      (u : ℕ) × (fs : Trees) × (zs : List ℕ) × (d : Conversion)
      × HasNumber sc.names.terms t u × IsExprList sc es fs × IsVariableList sc.vars ys zs × IsConv sc n d
      × (c ≡ unfold_conv u fs zs d)
  IsConvBy sc sorry_word h (node l (node r no_nodes)) c = (f : Tree) × (g : Tree)
      × (sc.names.gaps ≡ true) × IsExpr sc l f × IsExpr sc r g × (c ≡ gap_conv f g)
  IsConvBy sc no_word h no_nodes c = (t : ℕ) × HasNumber sc.names.terms h t × (c ≡ cong_conv t no_convs)
  IsConvBy sc no_word h (node n ns) c = (t : ℕ) × (d : Conversion) × (ds : Conversions)
      × HasNumber sc.names.terms h t × IsConv sc n d × AreConvs sc ns ds × (c ≡ cong_conv t (more_convs d ds))
  IsConvBy sc _ h ns c = ⊥

  pub AreConvs : Scope → Nodes → Conversions → Type 0
  AreConvs sc no_nodes cs = cs ≡ no_convs
  AreConvs sc (node n ns) cs = (d : Conversion) × (ds : Conversions) × IsConv sc n d × AreConvs sc ns ds × (cs ≡ more_convs d ds)

-- ---- proofs: h; (T (expr ..) proof ..); (:conv expr conv proof); (:let h proof proof); and in a draft a gap,
-- (:sorry expr)

-- an atom is a hypothesis or a visible let; `hyps` are the names of the hypotheses, and `lets` those
-- of the lets around, from the outermost
abbrev pub IsFact : List (List ℕ) → List (List ℕ) → List ℕ → Proof → Type 0
IsFact hyps lets w p =
    ((i : ℕ) × (number_of hyps w ≡ Some i) × (p ≡ by_hyp i))
    ⊎ (IsNew hyps w × ((i : ℕ) × (number_of lets w ≡ Some i) × (p ≡ by_name i)))

-- a let's name is none that is visible as a hypothesis or a let; it is visible in the second proof
abbrev mutual
  pub IsProof : Scope → List (List ℕ) → List (List ℕ) → Node → Proof → Type 0
  IsProof sc hyps lets (atom _ w) p = IsName w × IsFact hyps lets w p
  IsProof sc hyps lets (list _ no_nodes) p = ⊥
  IsProof sc hyps lets (list _ (node h ns)) p = IsProofBy sc hyps lets (proof_keyword h) h ns p

  pub IsProofBy : Scope → List (List ℕ) → List (List ℕ) → Keyword → Node → Nodes → Proof → Type 0
  IsProofBy sc hyps lets conv_word h (node e (node c (node q no_nodes))) p =
      (f : Tree) × (d : Conversion) × (r : Proof) × IsExpr sc e f × IsConv sc c d × IsProof sc hyps lets q r × (p ≡ by_conv f d r)
  IsProofBy sc hyps lets let_word h (node x (node q (node q' no_nodes))) p =
      (w : List ℕ) × (r : Proof) × (r' : Proof) × IsNewName (hyps ++ lets) x w × IsProof sc hyps lets q r × IsProof sc hyps (lets ++ w ∷ []) q' r'
      × (p ≡ by_let r r')
  IsProofBy sc hyps lets sorry_word h (node e no_nodes) p = (f : Tree) × (sc.names.gaps ≡ true) × IsExpr sc e f × (p ≡ by_gap f)
  IsProofBy sc hyps lets no_word h (node es ns) p =
      (T : ℕ) × (fs : Trees) × (rs : Proofs) × HasNumber sc.names.assertions h T × IsExprList sc es fs × AreProofs sc hyps lets ns rs
      × (p ≡ by_citation T fs rs)
  IsProofBy sc hyps lets _ h ns p = ⊥

  pub AreProofs : Scope → List (List ℕ) → List (List ℕ) → Nodes → Proofs → Type 0
  AreProofs sc hyps lets no_nodes ps = ps ≡ no_proofs
  AreProofs sc hyps lets (node n ns) ps = (r : Proof) × (rs : Proofs) × IsProof sc hyps lets n r × AreProofs sc hyps lets ns rs × (ps ≡ more_proofs r rs)

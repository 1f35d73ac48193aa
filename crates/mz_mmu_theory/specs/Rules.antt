-- The type rules (Carneiro, the rules of derivation and conversion; mm0.md, on sorts and dependencies): what is asked
-- of each part of a statement, at its node, from left to right, parts before their node. At the first that doesn't
-- hold the statement is refused.
use Rattle.std.specs.Prelude.{ℕ, suc, ◌≡◌, ⊤, Bool, true, false, IsTrue, List, [], ◌∷◌, ◌++◌, length, Contains, All, Option, Some, None}
use Rattle.mz_base.specs.Checks.{Checks, nothing, demand, ◌>>◌}
use Rattle.mz_sexpr.specs.declared.rule.U.{U}
use Rattle.mz_sexpr.specs.Node.{Node, Nodes, place, parts}
use Rattle.mz_sexpr.specs.Number.{first, rest}
use Rattle.mz_logic_theory.specs.Tree.{Tree, Trees, var, app, none, more, listed, instance, instances, followed_by, variables}
use Rattle.mz_logic_theory.specs.Signature.{Signature}
use Rattle.mz_logic_theory.specs.Declaration.{Form, plain_form, abstract_form, defined, Term, Assertion, Declaration, sort_decl, term_decl, assertion_decl, dummies_of, sorts, signatures, is_defined, body_tree}
use Rattle.mz_logic_theory.specs.Modifiers.{MayBeResultSort, MayBeDummySort}
use Rattle.mz_logic_theory.specs.Sorts.{IsBoundVar}
use Rattle.mz_logic_theory.specs.Variables.{InSomeV, InFV, IsBoundAt, AreDisjoint}
use Rattle.mz_logic_theory.specs.Legality.{signature_at, sort_of, IsParam, IsClaim}
use Rattle.mz_logic_theory.specs.Conversions.{Conversion, Conversions, refl_conv, sym_conv, cong_conv, unfold_conv, gap_conv, no_convs, more_convs, IsBoundOf}
use Rattle.mz_logic_theory.specs.declared.binder.Binder.{Binder}
use Rattle.mz_mmu_theory.specs.declared.fault.Fault.{Fault}
use Rattle.mz_mmu_theory.specs.FormOrder.{fault}
use Rattle.mz_mmu_theory.specs.Proof.{Proof, Proofs, by_hyp, by_name, by_citation, by_conv, by_let, by_gap, no_proofs, more_proofs}
use Rattle.mz_mmu_theory.specs.Statements.{Statement}
use Rattle.mz_mmu_theory.specs.Parts.{is_list, after, part, declared_parts}
use Rattle.mz_mmu_theory.specs.Sides.{left, right, assertion_at, term_at, with_fact, proved, all_proved}

-- ---- expressions

-- an operand has its parameter's sort, and is a bound variable where the parameter is bound
abbrev pub own_operand_rules : List Signature → List Binder → Tree → Node → Binder → Checks Fault
own_operand_rules sigs ctx e n p =
    demand (fault (place n) U.Sort) (sort_of sigs ctx e ≡ p.sort)
    >> demand (fault (place n) U.Bound) (p.bound ≡ true → IsBoundVar ctx e)

abbrev pub operand_rules : List Signature → List Binder → Trees → Nodes → List Binder → Checks Fault
operand_rules sigs ctx none ns ps = nothing
operand_rules sigs ctx (more e es) ns [] = nothing
operand_rules sigs ctx (more e es) ns (p ∷ ps) = own_operand_rules sigs ctx e (first ns) p >> operand_rules sigs ctx es (rest ns) ps

abbrev mutual
  pub expr_rules : List Signature → List Binder → Tree → Node → Checks Fault
  expr_rules sigs ctx (var x) n = nothing
  expr_rules sigs ctx (app t es) n =
      exprs_rules sigs ctx es (rest (parts n))
      >> demand (fault (place n) U.Arity) (length (listed es) ≡ length (signature_at sigs t).params)
      >> operand_rules sigs ctx es (rest (parts n)) (signature_at sigs t).params

  pub exprs_rules : List Signature → List Binder → Trees → Nodes → Checks Fault
  exprs_rules sigs ctx none ns = nothing
  exprs_rules sigs ctx (more e es) ns = expr_rules sigs ctx e (first ns) >> exprs_rules sigs ctx es (rest ns)

-- an expression of this sort
abbrev pub sorted_rules : List Signature → List Binder → ℕ → Tree → Node → Checks Fault
sorted_rules sigs ctx s e n = expr_rules sigs ctx e n >> demand (fault (place n) U.Sort) (s ≡ sort_of sigs ctx e)

-- an expression whose sort is provable
abbrev pub claim_rules : List Declaration → List Binder → Tree → Node → Checks Fault
claim_rules env ctx e n = expr_rules (signatures env) ctx e n >> demand (fault (place n) U.Declaration) (IsClaim env ctx e)

-- ---- conversions

abbrev pub conv_count : Conversions → ℕ
conv_count no_convs = 0
conv_count (more_convs _ cs) = suc (conv_count cs)

-- both sides of a part are operands
abbrev pub own_side_rules : List Signature → List Binder → Conversion → Node → Binder → Checks Fault
own_side_rules sigs ctx c n p =
    demand (fault (place n) U.Sort) ((sort_of sigs ctx (left c) ≡ p.sort) × (sort_of sigs ctx (right c) ≡ p.sort))
    >> demand (fault (place n) U.Bound) (p.bound ≡ true → IsBoundVar ctx (left c) × IsBoundVar ctx (right c))

abbrev pub side_rules : List Signature → List Binder → Conversions → Nodes → List Binder → Checks Fault
side_rules sigs ctx no_convs ns ps = nothing
side_rules sigs ctx (more_convs c cs) ns [] = nothing
side_rules sigs ctx (more_convs c cs) ns (p ∷ ps) = own_side_rules sigs ctx c (first ns) p >> side_rules sigs ctx cs (rest ns) ps

-- an unfold's variables are bound and of their dummies' sorts
abbrev pub variable_rules : List Binder → List ℕ → Nodes → List Binder → Checks Fault
variable_rules ctx [] ns bs = nothing
variable_rules ctx (y ∷ ys) ns [] = nothing
variable_rules ctx (y ∷ ys) ns (b ∷ bs) = demand (fault (place (first ns)) U.Bound) (IsBoundOf ctx y b.sort) >> variable_rules ctx ys (rest ns) bs

-- they differ, and none is in V of an operand
abbrev pub AreNew : List Binder → Trees → List ℕ → Type 0
AreNew ctx es [] = ⊤
AreNew ctx es (y ∷ ys) = (InSomeV ctx y es → ⊥) × (Contains ys y → ⊥) × AreNew ctx es ys

-- the expression of `e` or `(:refl e)`
abbrev pub refl_node : Bool → Node → Node
refl_node false n = n
refl_node true n = part (parts n) 1

-- an unfolding's own rules, where its part goes from l
abbrev pub unfold_rules : List Signature → List Binder → Term → Trees → List ℕ → Tree → Node → Checks Fault
unfold_rules sigs ctx d es ys l n =
    demand (fault (place n) U.Conversion) (IsTrue (is_defined d.form))
    >> demand (fault (place n) U.Arity) ((length (listed es) ≡ length d.signature.params) × (length ys ≡ length (dummies_of d.form)))
    >> operand_rules sigs ctx es (parts (part (parts n) 2)) d.signature.params
    >> variable_rules ctx ys (parts (part (parts n) 3)) (dummies_of d.form)
    >> demand (fault (place n) U.Disjoint) (AreNew ctx es ys)
    >> demand (fault (place n) U.Conversion) (l ≡ instance (followed_by es (variables ys)) (body_tree d.form))

abbrev mutual
  pub conv_rules : List Declaration → List Binder → Conversion → Node → Checks Fault
  conv_rules env ctx (refl_conv e) n = expr_rules (signatures env) ctx e (refl_node (is_list n) n)
  conv_rules env ctx (sym_conv c) n = conv_rules env ctx c (part (parts n) 1)
  conv_rules env ctx (cong_conv t cs) n =
      convs_rules env ctx cs (rest (parts n))
      >> demand (fault (place n) U.Arity) (conv_count cs ≡ length (signature_at (signatures env) t).params)
      >> side_rules (signatures env) ctx cs (rest (parts n)) (signature_at (signatures env) t).params
  conv_rules env ctx (unfold_conv t es ys c) n =
      exprs_rules (signatures env) ctx es (parts (part (parts n) 2))
      >> conv_rules env ctx c (part (parts n) 4)
      >> unfold_rules (signatures env) ctx (term_at env t) es ys (left c) n
  conv_rules env ctx (gap_conv l r) n =
      expr_rules (signatures env) ctx l (part (parts n) 1)
      >> sorted_rules (signatures env) ctx (sort_of (signatures env) ctx l) r (part (parts n) 2)

  pub convs_rules : List Declaration → List Binder → Conversions → Nodes → Checks Fault
  convs_rules env ctx no_convs ns = nothing
  convs_rules env ctx (more_convs c cs) ns = conv_rules env ctx c (first ns) >> convs_rules env ctx cs (rest ns)

-- ---- proofs

-- each subproof proves its hypothesis: the claims are what the subproofs prove
abbrev pub subproof_rules : Trees → Nodes → Trees → Checks Fault
subproof_rules none ns hs = nothing
subproof_rules (more e es) ns none = nothing
subproof_rules (more e es) ns (more h hs) = demand (fault (place (first ns)) U.Hypothesis) (e ≡ h) >> subproof_rules es (rest ns) hs

-- a citation's own rules, where the subproofs prove the claims
abbrev pub citation_rules : List Signature → List Binder → Assertion → Trees → Trees → Node → Checks Fault
citation_rules sigs ctx a es claims n =
    demand (fault (place n) U.Arity) ((length (listed es) ≡ length a.params) × (length (listed claims) ≡ length (listed a.hyps)))
    >> operand_rules sigs ctx es (parts (part (parts n) 1)) a.params
    >> demand (fault (place n) U.Disjoint) (AreDisjoint ctx es a.params)
    >> subproof_rules claims (after 2 (parts n)) (instances es a.hyps)

abbrev mutual
  pub proof_rules : List Declaration → List Binder → Trees → Trees → Proof → Node → Checks Fault
  proof_rules env ctx hyps lets (by_hyp i) n = nothing
  proof_rules env ctx hyps lets (by_name i) n = nothing
  proof_rules env ctx hyps lets (by_citation T es ps) n =
      exprs_rules (signatures env) ctx es (parts (part (parts n) 1))
      >> proofs_rules env ctx hyps lets ps (after 2 (parts n))
      >> citation_rules (signatures env) ctx (assertion_at env T) es (all_proved env hyps lets ps) n
  proof_rules env ctx hyps lets (by_conv e c p) n =
      expr_rules (signatures env) ctx e (part (parts n) 1)
      >> conv_rules env ctx c (part (parts n) 2)
      >> proof_rules env ctx hyps lets p (part (parts n) 3)
      >> demand (fault (place n) U.Conversion) ((left c ≡ e) × (right c ≡ proved env hyps lets p))
  proof_rules env ctx hyps lets (by_let p q) n =
      proof_rules env ctx hyps lets p (part (parts n) 2)
      >> proof_rules env ctx hyps (with_fact lets (proved env hyps lets p)) q (part (parts n) 3)
  proof_rules env ctx hyps lets (by_gap e) n = claim_rules env ctx e (part (parts n) 1)

  pub proofs_rules : List Declaration → List Binder → Trees → Trees → Proofs → Nodes → Checks Fault
  proofs_rules env ctx hyps lets no_proofs ns = nothing
  proofs_rules env ctx hyps lets (more_proofs p ps) ns = proof_rules env ctx hyps lets p (first ns) >> proofs_rules env ctx hyps lets ps (rest ns)

-- ---- statements

abbrev pub param_rules : List Declaration → List Binder → ℕ → List Binder → Nodes → Checks Fault
param_rules env params i [] ns = nothing
param_rules env params i (b ∷ bs) ns =
    demand (fault (place (first ns)) U.Declaration) (IsParam (sorts env) params i b) >> param_rules env params (suc i) bs (rest ns)

abbrev pub dummy_rules : List Declaration → List Binder → Nodes → Checks Fault
dummy_rules env [] ns = nothing
dummy_rules env (b ∷ bs) ns = demand (fault (place (first ns)) U.DummySort) (MayBeDummySort (sorts env) b.sort) >> dummy_rules env bs (rest ns)

-- a hypothesis of an axiom is an expression, one of a theorem has a name before it
abbrev pub hyp_node : Bool → Node → Node
hyp_node true n = n
hyp_node false n = part (parts n) 1

abbrev pub claims_rules : List Declaration → List Binder → Bool → Trees → Nodes → Checks Fault
claims_rules env ctx is_axiom none ns = nothing
claims_rules env ctx is_axiom (more e es) ns = claim_rules env ctx e (hyp_node is_axiom (first ns)) >> claims_rules env ctx is_axiom es (rest ns)

-- the parts of a statement are numbered from the keyword of its kind at 0
abbrev pub body_rules : List Declaration → Signature → Form → Nodes → Checks Fault
body_rules env d plain_form ps = nothing
body_rules env d abstract_form ps = nothing
body_rules env d (defined dummies body) ps =
    dummy_rules env dummies (parts (part ps 4))
    >> expr_rules (signatures env) (d.params ++ dummies) body (part ps 5)
    >> demand (fault (place (part ps 5)) U.Declaration) ((x : ℕ) → InFV (signatures env) (d.params ++ dummies) x body → Contains d.result.deps x)
    >> demand (fault (place (part ps 5)) U.Sort) (sort_of (signatures env) (d.params ++ dummies) body ≡ d.result.sort)

-- a theorem's dummies, its proof, and last its conclusion
abbrev pub theorem_rules : List Declaration → Assertion → List Binder → Option Proof → Nodes → Checks Fault
theorem_rules env a dummies None ps = nothing
theorem_rules env a dummies (Some p) ps =
    dummy_rules env dummies (parts (part ps 5))
    >> proof_rules env (a.params ++ dummies) a.hyps none p (part ps 6)
    >> demand (fault (place (part ps 4)) U.Conclusion) (proved env a.hyps none p ≡ a.conclusion)

-- the parameters, hypotheses and conclusion of an axiom or theorem
abbrev pub assertion_rules : List Declaration → Assertion → Nodes → Checks Fault
assertion_rules env a ps =
    param_rules env a.params 0 a.params (parts (part ps 2))
    >> claims_rules env a.params a.is_axiom a.hyps (parts (part ps 3))
    >> claim_rules env a.params a.conclusion (part ps 4)

-- what a statement declares, and behind it a theorem's proof
abbrev pub decl_rules : List Declaration → Declaration → List Binder → Option Proof → Nodes → Checks Fault
decl_rules env (sort_decl m) dummies proof ps = nothing
decl_rules env (term_decl d) dummies proof ps =
    param_rules env d.signature.params 0 d.signature.params (parts (part ps 2))
    >> demand (fault (place (part ps 3)) U.Declaration)
    (MayBeResultSort (sorts env) d.signature.result.sort × All (IsBoundAt d.signature.params) d.signature.result.deps)
    >> body_rules env d.signature d.form ps
decl_rules env (assertion_decl a) dummies proof ps = assertion_rules env a ps >> theorem_rules env a dummies proof ps

abbrev pub statement_rules : List Declaration → Statement → Node → Checks Fault
statement_rules env s n = decl_rules env s.decl s.dummies s.proof (declared_parts n)

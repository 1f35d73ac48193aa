-- Steps of the checks of conversions.
use Rattle.std.proofs.Common.{ℕ, suc, ◌≡◌, ◌<◌, ◌+◌, true≢false, IsTrue, List, [], ◌∷◌, length, get_or, drop, slice_get, None, Result, refl, sym, ap, subst, inl, inr}
use Rattle.mz_base.specs.Checks.{Checks, demand, ◌>>◌, AllHold, FailsFirst}
use Rattle.mz_base.proofs.Offered.{fails-after, all_hold-both}
use Rattle.mz_sexpr.specs.declared.rule.U.{U}
use Rattle.mz_sexpr.specs.Node.{Node, Nodes, place, parts}
use Rattle.mz_sexpr.specs.Number.{first, rest}
use Rattle.mz_logic_theory.specs.Tree.{Tree, Trees, none, more, listed, instance, followed_by, variables}
use Rattle.mz_logic_theory.specs.Signature.{Signature}
use Rattle.mz_logic_theory.specs.Declaration.{Form, plain_form, abstract_form, defined, Term, Declaration, dummies_of, body_of, terms, signatures, is_defined, body_tree}
use Rattle.mz_logic_theory.specs.Legality.{signature_at}
use Rattle.mz_logic_theory.specs.Conversions.{Conversion, Conversions, unfold_conv}
use Rattle.mz_logic_theory.specs.declared.binder.Binder.{Binder}
use Rattle.mz_mmu_theory.specs.FormOrder.{fault}
use Rattle.mz_mmu_theory.specs.Stops.{Stops}
use Rattle.mz_mmu_theory.specs.declared.fault.Fault.{Fault}
use Rattle.mz_mmu_theory.specs.declared.fault.Stop.{Stop}
use Rattle.mz_mmu_theory.specs.ConvView.{conversion, conversions}
use Rattle.mz_mmu_theory.specs.declared.conv.Conv.{Conv}
use Rattle.mz_type_rules.specs.Answers.{Judged}
use Rattle.mz_mmu_theory.specs.Names.{ConvThere, ConvsThere}
use Rattle.mz_mmu_theory.specs.Parts.{part}
use Rattle.mz_mmu_theory.specs.Rules.{operand_rules, exprs_rules, variable_rules, unfold_rules, conv_rules, convs_rules, side_rules, conv_count, AreNew}
use Rattle.mz_mmu_theory.specs.Sides.{left, term_at}
use Rattle.mz_type_rules.proofs.Judging.{stopped_before, stopped_after, stopped_asked, judged_after}
use Rattle.mz_logic_theory.proofs.Offered.{none_read}
use Rattle.mz_type_rules.proofs.Steps.{convs_cut}

pub defined_by : (F : Form) (e : Tree) → body_of F ≡ more e none → IsTrue (is_defined F)
defined_by (defined ds b) e is = refl
defined_by _ e is = absurd cc

pub body_by : (F : Form) (e : Tree) → body_of F ≡ more e none → body_tree F ≡ e
body_by (defined ds b) e is = cc
body_by _ e is = absurd cc

pub not_defined : (F : Form) → body_of F ≡ none → IsTrue (is_defined F) → ⊥
not_defined (defined ds b) is h = cc
not_defined _ is h = true≢false (sym h)

-- ---- an unfolding's own rules

module _ (sigs : List Signature) (ctx : List Binder) (d : Term) (es : Trees) (ys : List ℕ) (l : Tree) (n : Node) where
  abbrev of_operands : Checks Fault
  of_operands = operand_rules sigs ctx es (parts (part (parts n) 2)) d.signature.params

  abbrev of_variables : Checks Fault
  of_variables = variable_rules ctx ys (parts (part (parts n) 3)) (dummies_of d.form)

  abbrev of_unfold : Checks Fault
  of_unfold = unfold_rules sigs ctx d es ys l n

  module _ (is_def : IsTrue (is_defined d.form)) (many : (length (listed es) ≡ length d.signature.params) × (length ys ≡ length (dummies_of d.form))) where
    pub operands_stop : (s : Stop) → Stops s of_operands → Stops s of_unfold
    operands_stop s h = stopped_asked _ _ _ s is_def (stopped_asked _ _ _ s many (stopped_before of_operands _ s h))

    pub variables_stop : (s : Stop) → AllHold of_operands → Stops s of_variables → Stops s of_unfold
    variables_stop s ops h = stopped_asked _ _ _ s is_def (stopped_asked _ _ _ s many (stopped_after of_operands _ s ops (stopped_before of_variables _ s h)))

    pub disjoint_fails : (f : Fault) → AllHold of_operands → AllHold of_variables → f ≡ fault (place n) U.Disjoint → (AreNew ctx es ys → ⊥) → FailsFirst of_unfold f
    disjoint_fails f ops vars is out = inr (is_def, inr (many, fails-after of_operands _ f ops (fails-after of_variables _ f vars (inl (out, is)))))

    pub body_differs : (f : Fault) → AllHold of_operands → AllHold of_variables → AreNew ctx es ys → f ≡ fault (place n) U.Conversion
        → (l ≡ instance (followed_by es (variables ys)) (body_tree d.form) → ⊥) → FailsFirst of_unfold f
    body_differs f ops vars new is out = inr (is_def, inr (many, fails-after of_operands _ f ops (fails-after of_variables _ f vars (inr (new, inl (out, is))))))

    pub unfold_holds : AllHold of_operands → AllHold of_variables → AreNew ctx es ys → l ≡ instance (followed_by es (variables ys)) (body_tree d.form) → AllHold of_unfold
    unfold_holds ops vars new is = (is_def, (many, all_hold-both of_operands _ ops (all_hold-both of_variables _ vars (new, (is, tt)))))

-- ---- the rules of an unfolding

module _ (env : List Declaration) (ctx : List Binder) (t : ℕ) (es : Trees) (ys : List ℕ) (c : Conversion) (n : Node) where
  abbrev of_exprs : Checks Fault
  of_exprs = exprs_rules (signatures env) ctx es (parts (part (parts n) 2))

  abbrev of_part : Checks Fault
  of_part = conv_rules env ctx c (part (parts n) 4)

  abbrev of_whole : Checks Fault
  of_whole = conv_rules env ctx (unfold_conv t es ys c) n

  pub exprs_stop : (s : Stop) → Stops s of_exprs → Stops s of_whole
  exprs_stop s h = stopped_before of_exprs _ s h

  pub part_stops : (s : Stop) → AllHold of_exprs → Stops s of_part → Stops s of_whole
  part_stops s all h = stopped_after of_exprs _ s all (stopped_before of_part _ s h)

  pub no_term_fails : (f : Fault) → AllHold of_exprs → AllHold of_part → None ≡ slice_get (terms env) t → f ≡ fault (place n) U.Conversion → FailsFirst of_whole f
  no_term_fails f all h at is =
      fails-after of_exprs _ f all (fails-after of_part _ f h
      (inl (not_defined (term_at env t).form (ap (λ (d : Term). body_of d.form) (none_read (terms env) t _ at)), is)))

  pub unfold_judged : (r : Result (Unit {0}) Stop) (d : Term) → AllHold of_exprs → AllHold of_part → d ≡ term_at env t
      → Judged r (unfold_rules (signatures env) ctx d es ys (left c) n) → Judged r of_whole
  unfold_judged r d all h same j =
      judged_after of_exprs _ r all (judged_after of_part _ r h (subst (λ x. Judged r (unfold_rules (signatures env) ctx x es ys (left c) n)) same j))

-- ---- the rules under a term, whose parts stand at ns

abbrev pub cong_rules : List Declaration → List Binder → ℕ → Conversions → ℕ → Nodes → Checks Fault
cong_rules env ctx t cs at ns =
    convs_rules env ctx cs ns
    >> demand (fault at U.Arity) (conv_count cs ≡ length (signature_at (signatures env) t).params)
    >> side_rules (signatures env) ctx cs ns (signature_at (signatures env) t).params

pub convs_many : (cs : List Conv) → conv_count (conversions cs) ≡ length cs
convs_many [] = refl
convs_many (c ∷ cs) = ap suc (convs_many cs)

-- ---- one conversion more of a list

pub convs_rules_cut : (env : List Declaration) (ctx : List Binder) (xs : List Conv) (i : ℕ) (c : Conv) → i < length xs → c ≡ get_or xs i c → (ns : Nodes)
    → convs_rules env ctx (conversions (drop i xs)) ns ≡ (conv_rules env ctx (conversion c) (first ns) >> convs_rules env ctx (conversions (drop (i + 1) xs)) (rest ns))
convs_rules_cut env ctx xs i c below is ns = ap (λ cs. convs_rules env ctx cs ns) (convs_cut xs i c below is)

pub convs_there_cut : (ts n : ℕ) (xs : List Conv) (i : ℕ) (c : Conv) → i < length xs → c ≡ get_or xs i c → ConvsThere ts n (conversions (drop i xs))
    → ConvsThere ts n (conversions (drop (i + 1) xs))
convs_there_cut ts n xs i c below is there = (subst (ConvsThere ts n) (convs_cut xs i c below is) there).1

-- what is asked and reported of a conversion is asked and reported of an equal one
module _ {c d : Conversion} (is : d ≡ c) where
  pub there_as : (ts n : ℕ) → ConvThere ts n d → ConvThere ts n c
  there_as ts n = subst (ConvThere ts n) is

  pub judged_as : {A : Type 0} (r : Result A Stop) (env : List Declaration) (ctx : List Binder) (n : Node) → Judged r (conv_rules env ctx c n) → Judged r (conv_rules env ctx d n)
  judged_as r env ctx n = subst (λ x. Judged r (conv_rules env ctx x n)) (sym is)

-- Conversions within one another, and what a step makes of one.
use Rattle.std.proofs.Common.{◌≡◌, ◌<◌, ◌+◌, ◌*◌, ◌++◌, ◌∙◌, ℕ, List, [], ◌∷◌, Option, true, Result, IfOk, ap, sym, refl, subst, arith, true≢false}
use Rattle.std.specs.Prelude.{IfErr}
use Rattle.mz_base.specs.Checks.{Checks, nothing, ◌>>◌, AllHold}
use Rattle.mz_sexpr.specs.Node.{Node, Nodes, atom, list, no_nodes, node, is_atom, place}
use Rattle.mz_sexpr.specs.Number.{node_at, nodes_after}
use Rattle.mz_logic_theory.specs.Tree.{Tree, Trees}
use Rattle.mz_logic_theory.specs.Conversions.{Conversion, Conversions, refl_conv, sym_conv, cong_conv, unfold_conv, no_convs, more_convs}
use Rattle.mz_mmu_theory.specs.Name.{Scope, HasNumber}
use Rattle.mz_mmu_theory.specs.Cursor.{nodes_from, nodes_size, node_size, IsThere}
use Rattle.mz_mmu_theory.specs.Expressions.{IsExpr, IsExprList, IsVariableList}
use Rattle.mz_mmu_theory.specs.Proofs.{conv_keyword, IsConv, IsConvBy, AreConvs}
use Rattle.mz_mmu_theory.specs.declared.keyword.Keyword.{Keyword}
use Rattle.mz_mmu_theory.specs.declared.keyword.Keyword.TheVariants.{Sym as sym_word, Unfold as unfold_word, Other as no_word}
use Rattle.mz_mmu_theory.specs.FormOrder.{known_asked, expr_asked, expr_list_asked, variable_list_asked, conv_asked, conv_asked_by, convs_asked}
use Rattle.mz_mmu_theory.specs.ConvView.{conversion}
use Rattle.mz_mmu_forms.specs.ConvSteps.{convs_then, conv_left, conv_made, ConvWaits, ConvSays, ConvSaysBy, IsNextConv, conv_turns}
use Rattle.mz_mmu_theory.specs.Stops.{Stops}
use Rattle.mz_mmu_theory.specs.declared.fault.Fault.{Fault}
use Rattle.mz_mmu_theory.specs.declared.fault.Stop.{Stop}
use Rattle.mz_mmu_theory.specs.declared.fault.Stop.TheVariants.{Refused, Mem}
use Rattle.mz_mmu_theory.specs.declared.conv.Conv.{Conv}
use Rattle.mz_mmu_forms.specs.declared.convs.ConvOuter.{ConvOuter}
use Rattle.mz_mmu_forms.specs.declared.convs.ConvOuter.TheVariants as outers
use Rattle.mz_mmu_forms.specs.declared.convs.ConvStep.{ConvStep}
use Rattle.mz_mmu_forms.specs.declared.convs.ConvStep.TheVariants as steps
use Rattle.mz_mmu_theory.proofs.Offered.{stepped, stands_there, node_size_positive, known_holds, expr_list_holds, variable_list_holds, conv_holds}
use Rattle.mz_mmu_forms.proofs.ConvLists.{convs_then_none, convs_then_push}
use Rattle.mz_mmu_forms.proofs.Dispatch.{if_ok, if_err, conv_by, conv_stops_by}
use Rattle.mz_mmu_forms.proofs.Stopping.{stops_before, stops_after}

-- ---- where nothing is asked, and out of memory

pub stops_nothing : (s : Stop) (cs : Checks Fault) → Stops s nothing → Stops s cs
stops_nothing (Refused f) cs h = absurd h
stops_nothing Mem cs h = tt

pub mem_stops : (s : Stop) (cs : Checks Fault) → s ≡ Mem → Stops s cs
mem_stops s cs is = subst (λ t. Stops t cs) (sym is) tt

-- ---- one conversion

pub atom_conv : (sc : Scope) (m : Node) (e : Tree) → is_atom m ≡ true → IsExpr sc m e → IsConv sc m (refl_conv e)
atom_conv sc (atom at w) e a r = (e, r, refl)
atom_conv sc (list at ns) e a r = absurd (true≢false (sym a))

pub atom_conv_stops : (sc : Scope) (m : Node) (stop : Stop) → is_atom m ≡ true → Stops stop (expr_asked sc m) → Stops stop (conv_asked sc m)
atom_conv_stops sc (atom at w) stop a r = r
atom_conv_stops sc (list at ns) stop a r = absurd (true≢false (sym a))

-- more is known of the kind
pub says_more : (sc : Scope) (all : Nodes) (Is Is' : Conversion → Type 0) (asked asked' : Checks Fault) (step : ConvStep)
    → ((c : Conversion) → Is c → Is' c) → ((stop : Stop) → Stops stop asked → Stops stop asked') → ConvSays sc all Is asked step → ConvSays sc all Is' asked' step
says_more sc all Is Is' asked asked' (steps.Inner o n) is stops (there, w) = (
  there,
  record {
    there = w.there;
    made = λ d ds r rs. is (conv_made o d ds) (w.made d ds r rs);
    stops = λ stop r. stops stop (w.stops stop r);
    stops_behind = λ stop holds r. stops stop (w.stops_behind stop holds r);
  },
)
says_more sc all Is Is' asked asked' (steps.Whole c) is stops says = is (conversion c) says

-- the keyword with which it begins is this one
module _ (sc : Scope) (all : Nodes) (k : Keyword) (at : ℕ) (h : Node) (rest : Option ℕ) (key : conv_keyword h ≡ k) (r : Result ConvStep Stop) where
  pub says_by : IfOk r (ConvSaysBy sc all k at h rest) → IfOk r (ConvSaysBy sc all (conv_keyword h) at h rest)
  says_by = subst (λ q. IfOk r (ConvSaysBy sc all q at h rest)) (sym key)

  pub stops_by : IfErr r (λ s. Stops s (conv_asked_by sc k at h (nodes_from all rest))) → IfErr r (λ s. Stops s (conv_asked_by sc (conv_keyword h) at h (nodes_from all rest)))
  stops_by = subst (λ q. IfErr r (λ s. Stops s (conv_asked_by sc q at h (nodes_from all rest)))) (sym key)

  pub says_by_any : IfOk r (λ step. (x : Node) → ConvSaysBy sc all k at x rest step) → IfOk r (ConvSaysBy sc all (conv_keyword h) at h rest)
  says_by_any read = says_by (if_ok r (λ step. (x : Node) → ConvSaysBy sc all k at x rest step) (ConvSaysBy sc all k at h rest) (λ step says. says h) read)

  pub stops_by_any : IfErr r (λ s. (x : Node) → Stops s (conv_asked_by sc k at x (nodes_from all rest))) → IfErr r (λ s. Stops s (conv_asked_by sc (conv_keyword h) at h (nodes_from all rest)))
  stops_by_any stops = stops_by (if_err r (λ s. (x : Node) → Stops s (conv_asked_by sc k at x (nodes_from all rest))) (λ s. Stops s (conv_asked_by sc k at h (nodes_from all rest))) (λ s says. says h) stops)

-- a list is what it is by its first atom
pub list_says : (sc : Scope) (all : Nodes) (m h : Node) (rest : Option ℕ) (r : Result ConvStep Stop) → m ≡ list (place m) (node h (nodes_from all rest))
    → IfOk r (ConvSaysBy sc all (conv_keyword h) (place m) h rest) → IfOk r (ConvSays sc all (IsConv sc m) (conv_asked sc m))
list_says sc all m h rest r shape =
    let ns = nodes_from all rest in
    let k = conv_keyword h in
    if_ok r (ConvSaysBy sc all k (place m) h rest) (ConvSays sc all (IsConv sc m) (conv_asked sc m))
    (λ step. says_more sc all (IsConvBy sc k h ns) (IsConv sc m) (conv_asked_by sc k (place m) h ns) (conv_asked sc m) step (conv_by sc m h ns k shape refl) (conv_stops_by sc m h ns k shape refl))

pub list_stops : (sc : Scope) (all : Nodes) (m h : Node) (rest : Option ℕ) (r : Result ConvStep Stop) → m ≡ list (place m) (node h (nodes_from all rest))
    → IfErr r (λ s. Stops s (conv_asked_by sc (conv_keyword h) (place m) h (nodes_from all rest))) → IfErr r (λ s. Stops s (conv_asked sc m))
list_stops sc all m h rest r shape =
    let ns = nodes_from all rest in
    let k = conv_keyword h in
    if_err r (λ s. Stops s (conv_asked_by sc k (place m) h ns)) (λ s. Stops s (conv_asked sc m)) (conv_stops_by sc m h ns k shape refl)

pub list_fewer : (all : Nodes) (m h : Node) (rest : Option ℕ) (r : Result ConvStep Stop) → m ≡ list (place m) (node h (nodes_from all rest))
    → IfOk r (λ step. conv_turns all step < 2 * nodes_size (nodes_from all rest) + 2) → IfOk r (λ step. conv_turns all step + 1 < 2 * node_size m)
list_fewer all m h rest r shape =
    let sizes : node_size m ≡ 1 + (node_size h + nodes_size (nodes_from all rest)) = ap node_size shape in
    let first = node_size_positive h in
    if_ok r (λ step. conv_turns all step < 2 * nodes_size (nodes_from all rest) + 2) (λ step. conv_turns all step + 1 < 2 * node_size m) (λ step less. omega (arith, sizes, first, less))

-- ---- what waits

-- a term over these conversions is something of a kind, once those that are left have been read
pub record AreUnderWay (sc : Scope) (all : Nodes) (Is : Conversion → Type 0) (asked : Checks Fault) (t : ℕ) (cs : List Conv) (left : Option ℕ) : Type 0 where
  pub made : (ds : Conversions) → AreConvs sc (nodes_from all left) ds → Is (cong_conv t (convs_then cs ds))
  pub stops : (stop : Stop) → Stops stop (convs_asked sc (nodes_from all left)) → Stops stop asked

module _ (sc : Scope) (all : Nodes) where
  pub sym_waits : (ns : Nodes) (at : ℕ) (h p : Node) → ns ≡ node p no_nodes → ConvWaits sc all (IsConvBy sc sym_word h ns) (conv_asked_by sc sym_word at h ns) p outers.Sym
  sym_waits ns at h p is = record {
    there = tt;
    made = λ d ds r rs. subst (λ l. IsConvBy sc sym_word h l (sym_conv d)) (sym is) (d, r, refl);
    stops = λ stop r. subst (λ l. Stops stop (conv_asked_by sc sym_word at h l)) (sym is) r;
    stops_behind = λ stop holds r. stops_nothing stop (conv_asked_by sc sym_word at h ns) r;
  }

  pub unfold_waits : (ns : Nodes) (at : ℕ) (h t es ys p : Node) (u : ℕ) (fs : Trees) (zs : List ℕ) → ns ≡ node t (node es (node ys (node p no_nodes)))
      → HasNumber sc.names.terms t u → IsExprList sc es fs → IsVariableList sc.vars ys zs
      → ConvWaits sc all (IsConvBy sc unfold_word h ns) (conv_asked_by sc unfold_word at h ns) p (outers.Unfold u fs zs)
  unfold_waits ns at h t es ys p u fs zs is k e v = record {
    there = tt;
    made = λ d ds r rs. subst (λ l. IsConvBy sc unfold_word h l (unfold_conv u fs zs d)) (sym is) (u, fs, zs, d, k, e, v, r, refl);
    stops = λ stop r. subst (λ l. Stops stop (conv_asked_by sc unfold_word at h l)) (sym is)
        (stops_after stop (known_asked sc.names.terms t) (expr_list_asked sc es >> variable_list_asked sc.vars ys >> conv_asked sc p) (known_holds sc.names.terms t u k)
        (stops_after stop (expr_list_asked sc es) (variable_list_asked sc.vars ys >> conv_asked sc p) (expr_list_holds sc es fs e)
        (stops_after stop (variable_list_asked sc.vars ys) (conv_asked sc p) (variable_list_holds sc.vars ys zs v) r)));
    stops_behind = λ stop holds r. stops_nothing stop (conv_asked_by sc unfold_word at h ns) r;
  }

  pub cong_under_way : (at : ℕ) (h : Node) (t : ℕ) (rest : Option ℕ) → HasNumber sc.names.terms h t
      → AreUnderWay sc all (IsConvBy sc no_word h (nodes_from all rest)) (conv_asked_by sc no_word at h (nodes_from all rest)) t [] rest
  cong_under_way at h t rest k = record { made = made (nodes_from all rest); stops = stops (nodes_from all rest) }
    where
      made : (ns : Nodes) (ds : Conversions) → AreConvs sc ns ds → IsConvBy sc no_word h ns (cong_conv t ds)
      made no_nodes ds is = (t, k, ap (cong_conv t) is)
      made (node n ns) ds (d, es, r, rs, is) = (t, d, es, k, r, rs, ap (cong_conv t) is)

      stops : (ns : Nodes) (stop : Stop) → Stops stop (convs_asked sc ns) → Stops stop (conv_asked_by sc no_word at h ns)
      stops no_nodes stop r = stops_nothing stop (known_asked sc.names.terms h) r
      stops (node n ns) stop r = stops_after stop (known_asked sc.names.terms h) (conv_asked sc n >> convs_asked sc ns) (known_holds sc.names.terms h t k) r

  module _ (Is : Conversion → Type 0) (asked : Checks Fault) (t : ℕ) (cs : List Conv) (left : Option ℕ) where
    pub next_says : (step : ConvStep) → AreUnderWay sc all Is asked t cs left → IsThere all left → IsNextConv all t cs left step → ConvSays sc all Is asked step
    next_says (steps.Inner o n) u there (is, stands, makes) =
        let more = stepped all left n (conv_left o) is stands in
        let p = node_at all n in (
          subst (IsThere all) is there,
          record {
            there = stands_there all (conv_left o) (nodes_after all n) stands;
            made = λ d ds r rs. subst Is (sym (makes d ds)) (u.made (more_convs d ds) (subst (λ l. AreConvs sc l (more_convs d ds)) (sym more) (d, ds, r, rs, refl)));
            stops = λ stop r. u.stops stop (subst (λ l. Stops stop (convs_asked sc l)) (sym more) (stops_before stop (conv_asked sc p) (convs_asked sc (nodes_from all (conv_left o))) r));
            stops_behind = λ stop holds r. u.stops stop
                (subst (λ l. Stops stop (convs_asked sc l)) (sym more) (stops_after stop (conv_asked sc p) (convs_asked sc (nodes_from all (conv_left o))) holds r));
          },
        )
    next_says (steps.Whole c) u there (none_left, is) =
        subst Is (sym (is ∙ sym (ap (cong_conv t) (convs_then_none cs)))) (u.made no_convs (subst (λ l. AreConvs sc (nodes_from all l) no_convs) (sym none_left) refl))

  -- a conversion that has been read is put to those before it
  pub one_more : (Is : Conversion → Type 0) (asked : Checks Fault) (inner : Node) (t : ℕ) (cs now : List Conv) (left : Option ℕ) (c : Conv) → now ≡ cs ++ c ∷ []
      → ((d : Conversion) (ds : Conversions) → IsConv sc inner d → AreConvs sc (nodes_from all left) ds → Is (cong_conv t (convs_then cs (more_convs d ds))))
      → ((stop : Stop) → AllHold (conv_asked sc inner) → Stops stop (convs_asked sc (nodes_from all left)) → Stops stop asked)
      → IsConv sc inner (conversion c) → AreUnderWay sc all Is asked t now left
  one_more Is asked inner t cs now left c pushed made stops read = record {
    made = λ ds rs. subst (λ x. Is (cong_conv t x)) (sym (ap (λ x. convs_then x ds) pushed ∙ convs_then_push cs c ds)) (made (conversion c) ds read rs);
    stops = λ stop r. stops stop (conv_holds sc inner (conversion c) read) r;
  }

-- fewer turns are left for the parts
pub sym_fewer : (ns : Nodes) (p : Node) → ns ≡ node p no_nodes → 2 * node_size p + 2 * 0 + 1 < 2 * nodes_size ns + 2
sym_fewer ns p is = let sizes : nodes_size ns ≡ node_size p + 0 = ap nodes_size is in omega (arith, sizes)

pub unfold_fewer : (ns : Nodes) (t es ys p : Node) → ns ≡ node t (node es (node ys (node p no_nodes))) → 2 * node_size p + 2 * 0 + 1 < 2 * nodes_size ns + 2
unfold_fewer ns t es ys p is =
    let sizes : nodes_size ns ≡ node_size t + (node_size es + (node_size ys + (node_size p + 0))) = ap nodes_size is in
    omega (arith, sizes)

pub next_fewer : (all : Nodes) (t : ℕ) (cs : List Conv) (left : Option ℕ) (step : ConvStep) → IsNextConv all t cs left step → conv_turns all step < 2 * nodes_size (nodes_from all left) + 2
next_fewer all t cs left (steps.Inner o n) (is, stands, makes) =
    let sizes : nodes_size (nodes_from all left) ≡ node_size (node_at all n) + nodes_size (nodes_from all (conv_left o)) = ap nodes_size (stepped all left n (conv_left o) is stands) in
    omega (arith, sizes)
next_fewer all t cs left (steps.Whole c) (none_left, is) = omega arith

-- ---- conversions within one another

abbrev pub WaitsAt : Scope → Nodes → Node → Node → ConvOuter → Type 0
WaitsAt sc all m inner o = ConvWaits sc all (IsConv sc m) (conv_asked sc m) inner o

abbrev pub SaysAt : Scope → Nodes → Node → ConvStep → Type 0
SaysAt sc all m step = ConvSays sc all (IsConv sc m) (conv_asked sc m) step

abbrev pub conv_behind : Nodes → ConvOuter → ℕ
conv_behind all o = nodes_size (nodes_from all (conv_left o))

-- The rules of a conversion hold exactly where it goes from its left side to its right one.
use Rattle.std.proofs.Common.{ℕ, suc, ◌≡◌, ◌<◌, true≢false, IsTrue, List, [], ◌∷◌, slice_get, length, Some, refl, sym, ap, ◌∙◌, subst, arith}
use Rattle.std.proofs.lemmas.Option.{slice_get-get_or, get_or_from_slice_get}
use Rattle.mz_base.specs.Checks.{AllHold}
use Rattle.mz_sexpr.specs.Node.{Node, Nodes, parts}
use Rattle.mz_sexpr.specs.Number.{first, rest}
use Rattle.mz_base.proofs.Offered.{all_hold-first, all_hold-rest, all_hold-both}
use Rattle.mz_logic_theory.specs.Tree.{Tree, Trees, app, none, more, listed, instance, followed_by, variables}
use Rattle.mz_logic_theory.specs.Signature.{Signature}
use Rattle.mz_logic_theory.specs.Declaration.{Form, plain_form, abstract_form, defined, Term, Declaration, dummies_of, terms, signatures, is_defined, body_tree}
use Rattle.mz_logic_theory.specs.Sorts.{HasSort, Fits}
use Rattle.mz_logic_theory.specs.Legality.{signature_at, sort_of}
use Rattle.mz_logic_theory.specs.Conversions.{Conversion, Conversions, refl_conv, sym_conv, cong_conv, unfold_conv, gap_conv, no_convs, more_convs, AreFresh, Between, AllBetween}
use Rattle.mz_logic_theory.specs.declared.binder.Binder.{Binder}
use Rattle.mz_logic_theory.proofs.Offered.{sort_is, signature_is, many_of_fits, signature_of_term, length-signatures, sorted_sides}
use Rattle.mz_mmu_theory.specs.Parts.{part, is_list}
use Rattle.mz_mmu_theory.specs.Sides.{left, right, lefts, rights, term_at}
use Rattle.mz_mmu_theory.specs.Rules.{expr_rules, exprs_rules, operand_rules, conv_rules, convs_rules, unfold_rules, side_rules, variable_rules, conv_count, AreNew, refl_node}
use Rattle.mz_mmu_theory.specs.Names.{ConvThere, ConvsThere}
use Rattle.mz_mmu_theory.proofs.ExprRules.{checks_by_fits, checks_by_sort, fits_by_checks, operands_by_fits, sort_by_checks}

pub defined_is : (f : Form) → IsTrue (is_defined f) → f ≡ defined (dummies_of f) (body_tree f)
defined_is (defined ds e) h = refl
defined_is _ h = absurd (true≢false (sym h))

module _ (env : List Declaration) (ctx : List Binder) where
  abbrev pub sigs : List Signature
  sigs = signatures env

  fresh_by_checks : (es : Trees) (ys : List ℕ) (ns : Nodes) (bs : List Binder) → length ys ≡ length bs
      → AllHold (variable_rules ctx ys ns bs) → AreNew ctx es ys → AreFresh ctx es ys bs
  fresh_by_checks es [] ns [] many all new = tt
  fresh_by_checks es (y ∷ ys) ns (b ∷ bs) many (is, all) (out, differs, new) = (is, out, differs, fresh_by_checks es ys (rest ns) bs (omega arith) all new)
  fresh_by_checks es _ ns _ many all new = absurd (omega arith)

  mutual
    pub between_by_checks : (c : Conversion) (n : Node) → ConvThere (length sigs) (length ctx) c → AllHold (conv_rules env ctx c n) → Between env ctx c (left c) (right c)
    between_by_checks (refl_conv e) n there all =
        let h = sort_by_checks sigs ctx e (refl_node (is_list n) n) there all in
        ((_, h), (_, h), refl, refl)
    between_by_checks (sym_conv c) n there all =
        let h = between_by_checks c (part (parts n) 1) there all in
        let s = sorted_sides env ctx c (left c) (right c) h in
        (s.1, s.0, h)
    between_by_checks (cong_conv t cs) n (there, inner) all =
        let d = signature_at sigs t in
        let own = all_hold-rest (convs_rules env ctx cs (rest (parts n))) _ all in
        let h = all_by_checks cs (rest (parts n)) inner (all_hold-first (convs_rules env ctx cs (rest (parts n))) _ all) in
        let f = fits_by_sides cs (rest (parts n)) d.params h own.0 own.1 in
        ((_, (d, slice_get-get_or sigs t _ there, refl, f.0)), (_, (d, slice_get-get_or sigs t _ there, refl, f.1)), (lefts cs, rights cs, refl, refl, h))
    between_by_checks (unfold_conv t es ys c) n (there, inner, below) all =
        let d = term_at env t in
        let at : slice_get (terms env) t ≡ Some d = slice_get-get_or (terms env) t _ (subst (λ k. t < k) (length-signatures env) there) in
        let es_hold = all_hold-first (exprs_rules sigs ctx es (parts (part (parts n) 2))) _ all in
        let more_hold = all_hold-rest (exprs_rules sigs ctx es (parts (part (parts n) 2))) _ all in
        let own = all_hold-rest (conv_rules env ctx c (part (parts n) 4)) _ more_hold in
        let h = between_by_checks c (part (parts n) 4) below (all_hold-first (conv_rules env ctx c (part (parts n) 4)) _ more_hold) in
        let ops = all_hold-first (operand_rules sigs ctx es (parts (part (parts n) 2)) d.signature.params) _ own.1.1 in
        let vars_on = all_hold-rest (operand_rules sigs ctx es (parts (part (parts n) 2)) d.signature.params) _ own.1.1 in
        let vars = all_hold-first (variable_rules ctx ys (parts (part (parts n) 3)) (dummies_of d.form)) _ vars_on in
        let last = all_hold-rest (variable_rules ctx ys (parts (part (parts n) 3)) (dummies_of d.form)) _ vars_on in
        let fits = fits_by_checks sigs ctx es (parts (part (parts n) 2)) (parts (part (parts n) 2)) d.signature.params inner es_hold own.1.0.0 ops in (
          (_, (d.signature, signature_of_term env t d at, refl, fits)),
          (sorted_sides env ctx c (left c) (right c) h).1,
          refl,
          (
            d,
            dummies_of d.form,
            body_tree d.form,
            (at, defined_is d.form own.0),
            fits,
            fresh_by_checks es ys (parts (part (parts n) 3)) (dummies_of d.form) own.1.0.1 vars last.0,
            subst (λ l. Between env ctx c l (right c)) last.1.0 h,
          ),
        )
    between_by_checks (gap_conv l r) n (there, there') all =
        let A = expr_rules sigs ctx l (part (parts n) 1) in
        let B = expr_rules sigs ctx r (part (parts n) 2) in
        let on = all_hold-rest A _ all in
        let h = sort_by_checks sigs ctx l (part (parts n) 1) there (all_hold-first A _ all) in
        let k = sort_by_checks sigs ctx r (part (parts n) 2) there' (all_hold-first B _ on) in
        ((_, h), (_, k), refl, refl, (sort_of sigs ctx l, h, subst (HasSort sigs ctx r) (sym (all_hold-rest B _ on).0) k))

    pub all_by_checks : (cs : Conversions) (ns : Nodes) → ConvsThere (length sigs) (length ctx) cs → AllHold (convs_rules env ctx cs ns) → AllBetween env ctx cs (lefts cs) (rights cs)
    all_by_checks no_convs ns there all = tt
    all_by_checks (more_convs c cs) ns (there, inner) all =
        (between_by_checks c (first ns) there (all_hold-first (conv_rules env ctx c (first ns)) _ all), all_by_checks cs (rest ns) inner (all_hold-rest (conv_rules env ctx c (first ns)) _ all))

    -- both sides of the parts fit
    fits_by_sides : (cs : Conversions) (ns : Nodes) (ps : List Binder) → AllBetween env ctx cs (lefts cs) (rights cs) → conv_count cs ≡ length ps
        → AllHold (side_rules sigs ctx cs ns ps) → Fits sigs ctx (lefts cs) ps × Fits sigs ctx (rights cs) ps
    fits_by_sides no_convs ns [] h many all = (tt, tt)
    fits_by_sides (more_convs c cs) ns (p ∷ ps) (here, h) many (is, (bd, all)) =
        let s = sorted_sides env ctx c (left c) (right c) here in
        let f = fits_by_sides cs (rest ns) ps h (omega arith) all in (
          (subst (HasSort sigs ctx (left c)) (sym (sort_is sigs ctx (left c) _ s.0.1) ∙ is.0) s.0.1, λ b. (bd b).0, f.0),
          (subst (HasSort sigs ctx (right c)) (sym (sort_is sigs ctx (right c) _ s.1.1) ∙ is.1) s.1.1, λ b. (bd b).1, f.1),
        )
    fits_by_sides _ ns _ h many all = absurd (omega arith)

  -- ---- the other way

  mutual
    pub sides_are : (c : Conversion) (l r : Tree) → Between env ctx c l r → (l ≡ left c) × (r ≡ right c)
    sides_are (refl_conv e) l r (_, _, is, is') = (is, is')
    sides_are (sym_conv c) l r (_, _, h) = let k = sides_are c r l h in (k.1, k.0)
    sides_are (cong_conv t cs) l r (_, _, (ls, rs, is, is', h)) =
        let k = all_sides_are cs ls rs h in (is ∙ ap (app t) k.0, is' ∙ ap (app t) k.1)
    sides_are (unfold_conv t es ys c) l r (_, _, is, (d, ds, body, _, _, _, h)) = (is, (sides_are c _ r h).1)
    sides_are (gap_conv a b) l r (_, _, is, is', _) = (is, is')

    pub all_sides_are : (cs : Conversions) (ls rs : Trees) → AllBetween env ctx cs ls rs → (ls ≡ lefts cs) × (rs ≡ rights cs)
    all_sides_are no_convs none none h = (refl, refl)
    all_sides_are (more_convs c cs) (more l ls) (more r rs) (here, h) =
        let j = sides_are c l r here in
        let k = all_sides_are cs ls rs h in
        (ap (λ x. more x ls) j.0 ∙ ap (more (left c)) k.0, ap (λ x. more x rs) j.1 ∙ ap (more (right c)) k.1)
    all_sides_are _ _ _ h = absurd h

  conv_count_is : (cs : Conversions) → length (listed (lefts cs)) ≡ conv_count cs
  conv_count_is no_convs = refl
  conv_count_is (more_convs c cs) = ap suc (conv_count_is cs)

  sides_by_fits : (cs : Conversions) (ns : Nodes) (ps : List Binder) → Fits sigs ctx (lefts cs) ps → Fits sigs ctx (rights cs) ps → AllHold (side_rules sigs ctx cs ns ps)
  sides_by_fits (more_convs c cs) ns (p ∷ ps) (h, bd, f) (k, bd', g) =
      ((sort_is sigs ctx (left c) p.sort h, sort_is sigs ctx (right c) p.sort k), ((λ b. (bd b, bd' b)), sides_by_fits cs (rest ns) ps f g))
  sides_by_fits _ ns _ f g = tt

  variables_by_fresh : (es : Trees) (ys : List ℕ) (ns : Nodes) (bs : List Binder) → AreFresh ctx es ys bs
      → AllHold (variable_rules ctx ys ns bs) × AreNew ctx es ys × (length ys ≡ length bs)
  variables_by_fresh es [] ns [] h = (tt, tt, refl)
  variables_by_fresh es (y ∷ ys) ns (b ∷ bs) (is, out, differs, h) =
      let k = variables_by_fresh es ys (rest ns) bs h in ((is, k.0), (out, differs, k.1), ap suc k.2)
  variables_by_fresh es _ ns _ h = absurd h

  unfold_by_fresh : (d : Term) (ds : List Binder) (body : Tree) (es : Trees) (ys : List ℕ) (l : Tree) (n : Node) → d.form ≡ defined ds body
      → Fits sigs ctx es d.signature.params → AreFresh ctx es ys ds → l ≡ instance (followed_by es (variables ys)) body
      → AllHold (unfold_rules sigs ctx d es ys l n)
  unfold_by_fresh d ds body es ys l n form fits fresh is =
      let k = variables_by_fresh es ys (parts (part (parts n) 3)) ds fresh in (
        ap is_defined form,
        (
          (many_of_fits sigs ctx es d.signature.params fits, k.2 ∙ ap (λ f. length (dummies_of f)) (sym form)),
          all_hold-both (operand_rules sigs ctx es (parts (part (parts n) 2)) d.signature.params) _ (operands_by_fits sigs ctx es (parts (part (parts n) 2)) d.signature.params fits)
              (all_hold-both (variable_rules ctx ys (parts (part (parts n) 3)) (dummies_of d.form)) _
              (subst (λ f. AllHold (variable_rules ctx ys (parts (part (parts n) 3)) (dummies_of f))) (sym form) k.0)
              (k.1, (is ∙ ap (λ f. instance (followed_by es (variables ys)) (body_tree f)) (sym form), tt))),
        ),
      )

  mutual
    pub checks_by_between : (c : Conversion) (n : Node) (l r : Tree) → Between env ctx c l r → AllHold (conv_rules env ctx c n)
    checks_by_between (refl_conv e) n l r ((s, h), _, is, _) = checks_by_sort sigs ctx e (refl_node (is_list n) n) s (subst (λ x. HasSort sigs ctx x s) is h)
    checks_by_between (sym_conv c) n l r (_, _, h) = checks_by_between c (part (parts n) 1) r l h
    checks_by_between (cong_conv t cs) n l r ((s, h), (s', h'), (ls, rs, is, is', k)) =
        let j = all_sides_are cs ls rs k in
        let f : HasSort sigs ctx (app t (lefts cs)) s = subst (λ x. HasSort sigs ctx x s) (is ∙ ap (app t) j.0) h in
        let g : HasSort sigs ctx (app t (rights cs)) s' = subst (λ x. HasSort sigs ctx x s') (is' ∙ ap (app t) j.1) h' in
        let d = signature_at sigs t in
        let ff = subst (λ x. Fits sigs ctx (lefts cs) x.params) (sym (signature_is sigs t f.0 f.1)) f.3 in
        let gg = subst (λ x. Fits sigs ctx (rights cs) x.params) (sym (signature_is sigs t g.0 g.1)) g.3 in
        all_hold-both (convs_rules env ctx cs (rest (parts n))) _ (all_checks_by_between cs (rest (parts n)) ls rs k)
        (sym (conv_count_is cs) ∙ many_of_fits sigs ctx (lefts cs) d.params ff, sides_by_fits cs (rest (parts n)) d.params ff gg)
    checks_by_between (unfold_conv t es ys c) n l r (_, _, is, (d, ds, body, (at, form), fits, fresh, h)) =
        all_hold-both (exprs_rules sigs ctx es (parts (part (parts n) 2))) _ (checks_by_fits sigs ctx es (parts (part (parts n) 2)) d.signature.params fits)
        (all_hold-both (conv_rules env ctx c (part (parts n) 4)) _ (checks_by_between c (part (parts n) 4) _ r h)
        (subst (λ x. AllHold (unfold_rules sigs ctx x es ys (left c) n)) (sym (get_or_from_slice_get (terms env) t d _ at))
        (unfold_by_fresh d ds body es ys (left c) n form fits fresh (sym (sides_are c _ r h).0))))
    checks_by_between (gap_conv a b) n l r (_, _, is, is', (s, h, k)) =
        let here = subst (λ x. HasSort sigs ctx x s) is h in
        let there = subst (λ x. HasSort sigs ctx x s) is' k in
        all_hold-both (expr_rules sigs ctx a (part (parts n) 1)) _ (checks_by_sort sigs ctx a (part (parts n) 1) s here)
        (all_hold-both (expr_rules sigs ctx b (part (parts n) 2)) _ (checks_by_sort sigs ctx b (part (parts n) 2) s there)
        (sort_is sigs ctx a s here ∙ sym (sort_is sigs ctx b s there), tt))

    pub all_checks_by_between : (cs : Conversions) (ns : Nodes) (ls rs : Trees) → AllBetween env ctx cs ls rs → AllHold (convs_rules env ctx cs ns)
    all_checks_by_between no_convs ns ls rs h = tt
    all_checks_by_between (more_convs c cs) ns (more l ls) (more r rs) (here, h) =
        all_hold-both (conv_rules env ctx c (first ns)) _ (checks_by_between c (first ns) l r here) (all_checks_by_between cs (rest ns) ls rs h)
    all_checks_by_between (more_convs c cs) ns _ _ h = absurd h

-- What is made beside a body derives: each proof what the machine has proved, each conversion what it has converted.
use Rattle.std.proofs.Common.{◌≡◌, ℕ, false, List, [], ◌∷◌, length, map, drop, Ok, refl, sym, ap, subst, ◌∙◌}
use Rattle.std.specs.Prelude.{slice_get, ⊤}
use Rattle.std.proofs.lemmas.List.{drop_at}
use Rattle.mz_cmd.specs.declared.code.ProofCode.{ProofCode}
use Rattle.mz_logic_theory.specs.Tree.{Tree, var, app}
use Rattle.mz_logic_theory.specs.Signature.{Signature}
use Rattle.mz_logic_theory.specs.Declaration.{Declaration, terms, signatures, assertions}
use Rattle.mz_logic_theory.specs.Sorts.{Fits}
use Rattle.mz_logic_theory.specs.Variables.{AreDisjoint}
use Rattle.mz_logic_theory.specs.Conversions.{Conversions, unfold_conv, no_convs, more_convs, Between, AllBetween, GapsOnly, AllGapsOnly, AreFresh}
use Rattle.mz_logic_theory.specs.Derivations.{Uses, no_derivs, AllDerive}
use Rattle.mz_logic_theory.specs.declared.binder.Binder.{Binder}
use Rattle.mz_logic_theory.proofs.Offered.{extends_itself, sort_extends, fits_extends, disjoint_extends, fresh_extends}
use Rattle.mz_mmu_theory.specs.Proof.{Proof, Proofs, no_proofs, more_proofs}
use Rattle.mz_mmu_theory.specs.Meaning.{derivations}
use Rattle.mz_machine_theory.specs.Spells.{trees_of, SpellsTerm, SpellsThm}
use Rattle.mz_machine_theory.specs.Profile.{strict, Item, expr}
use Rattle.mz_machine_theory.specs.Sorted.{Sorted, AllSorted, ItemsSorted}
use Rattle.mz_machine_theory.specs.UnifyLaws.{citing, unfolding_by}
use Rattle.mz_machine_theory.specs.UnifyMachine.{unify}
use Rattle.mz_machine_theory.proofs.Offered.{some_is, parts-are, operands-sorted, citation-is, unfolding-is, pair-at, signatures-are, signature-at, fits-from, apart-from-test, expr-top, sides-top, operands-top, keeps, stream-row, definition-of}
use Rattle.mz_machine_theory.specs.MachineState.{RowsBefore, State, Declares}
use Rattle.mz_machine_theory.specs.Premises.{operands_fit}
use Rattle.mz_machine_theory.specs.ProofMachine.{proof_step}
use Rattle.mz_machine_theory.specs.Invariant.{IsFront, Fact}
use Rattle.mz_trace.specs.Traces.{Trace, variables_in, traced}
use Rattle.mz_trace.proofs.Standing.{Asked, EachIs, EachFrom, EachProves}
use Rattle.mz_trace.proofs.RowsStand.{Closed, Standing, Unfolds, Cites, goes}
use Rattle.mz_trace.proofs.PlainProofs.{ArePlain, derivs, Proves, LetsProve, assumed, proves-assuming, lets-assuming, proves-behind, named-proves, lets-grow}

-- of a derivation nothing is asked here
abbrev pub anything : Uses
anything = record { cites = λ T. ⊤; gaps = ⊤ }

pub variables-are : (ys : List ℕ) → variables_in (map var ys) ≡ ys
variables-are [] = refl
variables-are (y ∷ ys) = ap (λ (z : List ℕ). y ∷ z) (variables-are ys)

-- an expression has a sort, a conversion goes from the one to the other, and a proof derives; N says where gaps may stand
abbrev pub deriving_from : Type 0 → List Declaration → List Binder → Asked
deriving_from N env full = record {
  of_expr = λ e. Sorted (signatures env) full e;
  of_conv = λ c l r. GapsOnly N c × Between env full c l r;
  of_proof = λ hyps lets p e. Proves N env full hyps lets p e;
  of_lets = λ hyps lets. LetsProve N env full hyps lets;
}

module _ (N : Type 0) (tables : RowsBefore) (env : List Declaration) (declares : Declares tables env) (params full : List Binder) where
  abbrev Sigs : List Signature
  Sigs = signatures env

  abbrev A : Asked
  A = deriving_from N env full

  each-right : (es : List Tree) → AllSorted Sigs full es → EachIs A es
  each-right [] h = tt
  each-right (e ∷ es) (h, hs) = (h, each-right es hs)

  all-between : (cs : Conversions) (ls rs : List Tree) → EachFrom A cs ls rs → AllGapsOnly N cs × AllBetween env full cs (trees_of ls) (trees_of rs)
  all-between no_convs [] [] h = (tt, tt)
  all-between (more_convs c cs) (l ∷ ls) (r ∷ rs) ((few, between), h) = let (all-few, all) = all-between cs ls rs h in ((few, all-few), (between, all))
  all-between cs ls rs h = absurd h

  all-derive : (hyps : List Tree) (lets : List Proof) (ps : Proofs) (hs : List Tree) → EachProves A hyps lets ps hs
      → ArePlain N (length lets) ps × AllDerive env full (trees_of hyps) (derivations (derivs no_derivs lets) ps) (trees_of hs)
  all-derive hyps lets no_proofs [] h = (tt, tt)
  all-derive hyps lets (more_proofs p ps) (e ∷ hs) ((plain, derives), h) = let (all-plain, all) = all-derive hyps lets ps hs h in ((plain, all-plain), (derives, all))
  all-derive hyps lets ps hs h = absurd h

  all_fits : Closed A
  all_fits = record {
    by_refl = λ e h. (tt, (h, h, refl, refl));
    by_sym = λ l r c hl hr h. (h.0, (hl, hr, h.1));
    by_cong = λ t ls rs cs hl hr h. let (few, all) = all-between cs ls rs h in (few, (hl, hr, (trees_of ls, trees_of rs, refl, refl, all)));
    converts = λ hyps lets e f c p he hc hp. ((hc.0, hp.0), (refl, (f, hc.1, hp.1)));
    assumes = λ hyps lets e he. assumed N env full hyps lets e;
    names = named-proves N env full;
    more_hyps = λ hyps lets h p e hp. proves-assuming N env full hyps lets h p e hp;
    more_lets = λ hyps lets q p e hp. proves-behind N env full hyps lets q p e hp;
    lets_assume = λ hyps lets h all. lets-assuming N env full hyps lets h all;
    lets_grow = λ hyps lets p e all hp. lets-grow N env full hyps lets p e all hp;
    operands = λ t es h. let (_, _, _, sorted, _) = operands-sorted Sigs full (app t (trees_of es)) t es refl h in each-right es sorted;
    as_many = λ t ls rs hl hr.
        let (d, d-at, _, _, l-len) = operands-sorted Sigs full (app t (trees_of ls)) t ls refl hl in
        let (d', d'-at, _, _, r-len) = operands-sorted Sigs full (app t (trees_of rs)) t rs refl hr in
        l-len ∙ ap (λ (z : Signature). length z.params) (some_is d-at d'-at) ∙ sym r-len;
  }

  -- a sort in the context so far is one in the full context
  sorted-full : (ctx : List Binder) → IsFront ctx full → (e : Tree) → Sorted Sigs ctx e → Sorted Sigs full e
  sorted-full ctx front e (s, h) = (s, sort_extends Sigs Sigs ctx full (extends_itself Sigs) front e s h)

  abbrev Known : State Tree → Type 0
  Known st = Fact anything env params full st

  new-right : (st : State Tree) → IsFront st.ctx full → Known st → (e : Tree) (xs : List (Item Tree)) → st.stack ≡ expr e ∷ xs → Sorted Sigs full e
  new-right st front fact e xs is = sorted-full st.ctx front e (subst (ItemsSorted Sigs st.ctx) is fact.stack_sorted).0

  unfolds : (st : State Tree) → IsFront st.ctx full → Known st → Unfolds tables A all_fits params st
  unfolds st front fact x o p stream u popping popping-o parts stream-at ran c (few, between) =
      let ran' : unify strict Sigs st.ctx (unfolding_by stream p.1 x.0) ≡ Ok u =
      subst (λ (z : List Signature). unify strict z st.ctx (unfolding_by stream p.1 x.0) ≡ Ok u) (signatures-are tables env declares) ran in
      let (x-sorted, x-rest, x-holds) = expr-top anything env full st.ctx st.hyps st.stack x popping fact.stack_sorted fact.stack_holds in
      let (l-sorted, r-sorted, _, _) = sides-top anything env full st.ctx st.hyps x.1 o popping-o x-rest x-holds in
      let l-is : o.0 ≡ app p.0 (trees_of p.1) = parts-are o.0 p parts in
      let (s, s-at, fits, _, p-len) = operands-sorted Sigs st.ctx o.0 p.0 p.1 l-is l-sorted in
      let (row, row-at, row-stream) = stream-row (slice_get tables.terms p.0) stream stream-at in
      let (d, d-at, (sig-is, form-spells)) = pair-at (SpellsTerm Sigs) tables.terms (terms env) declares.terms_are p.0 row row-at in
      let same : row.signature ≡ s = some_is (signature-at tables env declares p.0 row row-at) s-at in
      let d-same : s ≡ d.signature = sym same ∙ sig-is in
      let (dummies, b, form, text) = definition-of Sigs row.signature.params row.stream stream d.form row-stream form-spells in
      let (ys, apart-is, _, (fresh, x-is)) =
      unfolding-is Sigs st.ctx row.signature.params stream dummies b p.1 x.0 u text (p-len ∙ ap (λ (z : Signature). length z.params) (sym same)) x-sorted ran' in
      let ys-are : variables_in (drop (length p.1) u.apart) ≡ ys =
      ap (λ (z : List Tree). variables_in (drop (length p.1) z)) apart-is ∙ ap variables_in (drop_at p.1 (map var ys) (length p.1) refl) ∙ variables-are ys in
      let fits-full : Fits Sigs full (trees_of p.1) d.signature.params =
      subst (λ (z : Signature). Fits Sigs full (trees_of p.1) z.params) d-same (fits_extends Sigs Sigs st.ctx full (extends_itself Sigs) front (trees_of p.1) s.params fits) in
      let fresh-full : AreFresh full (trees_of p.1) ys dummies = fresh_extends Sigs st.ctx full front (trees_of p.1) s.params fits ys dummies fresh in
      subst (λ (z : List ℕ). A.of_conv (unfold_conv p.0 (trees_of p.1) z c) o.0 o.1) (sym ys-are) (
        few,
        (
          sorted-full st.ctx front o.0 l-sorted,
          sorted-full st.ctx front o.1 r-sorted,
          l-is,
          (d, dummies, b, (d-at, form), fits-full, fresh-full, subst (λ (z : Tree). Between env full c z o.1) x-is between),
        ),
      )

  cites : (t : ℕ) (st : State Tree) (tr : Trace) → IsFront st.ctx full → Known st → Cites tables A all_fits params t st tr
  cites t st tr front fact row x es fit u row-at popping popping-es fits apart ran =
      let sigs-are = signatures-are tables env declares in
      let ran' : unify strict Sigs st.ctx (citing row.stream es.0 x.0 es.1) ≡ Ok u =
      subst (λ (z : List Signature). unify strict z st.ctx (citing row.stream es.0 x.0 es.1) ≡ Ok u) sigs-are ran in
      let (x-sorted, x-rest, x-holds) = expr-top anything env full st.ctx st.hyps st.stack x popping fact.stack_sorted fact.stack_holds in
      let (sorted, rest-sorted, rest-holds, len) = operands-top anything env full st.ctx st.hyps (length row.params) x.1 es popping-es x-rest x-holds in
      let (a, a-at, spells) = pair-at (SpellsThm Sigs) tables.thms (assertions env) declares.thms_are t row row-at in
      let (hs, hs-are, x-is, items-are) = citation-is Sigs st.ctx row a spells es.0 x.0 es.1 u len x-sorted rest-sorted ran' in
      let fits-ctx : Fits Sigs st.ctx (trees_of es.0) row.params =
      fits-from Sigs st.ctx es.0 row.params fit (subst (λ (z : List Signature). operands_fit z st.ctx es.0 row.params ≡ Ok fit) sigs-are fits) len sorted in
      let apart-ctx : AreDisjoint st.ctx (trees_of es.0) row.params = apart-from-test st.ctx es.0 row.params len apart in
      let fits-full : Fits Sigs full (trees_of es.0) a.params =
      subst (Fits Sigs full (trees_of es.0)) spells.0 (fits_extends Sigs Sigs st.ctx full (extends_itself Sigs) front (trees_of es.0) row.params fits-ctx) in
      let apart-full : AreDisjoint full (trees_of es.0) a.params =
      subst (AreDisjoint full (trees_of es.0)) spells.0 (disjoint_extends Sigs st.ctx full front (trees_of es.0) row.params fits-ctx apart-ctx) in (
        hs,
        items-are,
        λ ps each.
            let (plain, all) = all-derive st.hyps tr.lets ps hs each in
            (plain, (a, a-at, x-is, fits-full, apart-full, subst (AllDerive env full (trees_of st.hyps) (derivations (derivs no_derivs tr.lets) ps)) hs-are all)),
      )

  -- ---- every row

  abbrev pub Derived : State Tree → Trace → Type 0
  Derived st tr = IsFront st.ctx full → Known st × Standing A params st tr

  pub derived-goes : (at : ℕ) (c : ProofCode) (n : ℕ) (st : State Tree) (tr : Trace) (st' : State Tree) → proof_step strict tables at c n st ≡ Ok st' → Derived st tr
      → IsFront st'.ctx full → Known st' × ((tr' : Trace) × (traced tables c n st tr ≡ Ok tr') × Standing A params st' tr')
  derived-goes at c n st tr st' row derived front' =
      let (front, keep) = keeps anything tables env declares params full false at c n st st' ((λ is there. tt), λ is on. tt) row front' in
      let (fact, s) = derived front in
      let fact' = keep fact in (
        fact',
        goes tables A all_fits params at c n st tr st' row s (record {
          new = λ e xs is new. new-right st' front' fact' e xs is;
          unfolds = unfolds st front fact;
          cites = cites n st tr front fact;
        }),
      )

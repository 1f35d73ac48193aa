-- What is made has its shape, whatever the rows say: each term has as many operands as its row has parameters, and nothing
-- is asked of proofs and conversions.
use Rattle.std.proofs.Common.{◌≡◌, ℕ, List, [], ◌∷◌, ◌++◌, length, map, Some, Ok, sym, ap, ◌∙◌}
use Rattle.std.specs.Prelude.{slice_get, reverse, ⊤}
use Rattle.std.proofs.lemmas.List.{reverse-reverse}
use Rattle.mz_cmd.specs.declared.code.ProofCode.{ProofCode}
use Rattle.mz_logic_theory.specs.Tree.{Tree, Trees, var, app, none, more, listed}
use Rattle.mz_logic_theory.specs.declared.binder.Binder.{Binder}
use Rattle.mz_machine_theory.specs.Spells.{trees_of, SpelledTerm}
use Rattle.mz_machine_theory.specs.Profile.{strict, Item, proof}
use Rattle.mz_machine_theory.proofs.Offered.{some_is, listed-trees_of}
use Rattle.mz_machine_theory.specs.MachineState.{RowsBefore, signatures_in, State}
use Rattle.mz_machine_theory.specs.ProofMachine.{proof_step}
use Rattle.mz_trace.specs.Traces.{Trace, traced}
use Rattle.mz_trace.proofs.Taken.{Takes, unify-takes}
use Rattle.mz_trace.proofs.Standing.{Asked, EachIs}
use Rattle.mz_trace.proofs.RowsStand.{Closed, Standing, IsNew, goes}

module _ (tables : RowsBefore) where
  abbrev mutual
    pub IsMade : Tree → Type 0
    IsMade (var x) = ⊤
    IsMade (app t es) = (row : SpelledTerm) × (slice_get tables.terms t ≡ Some row) × (length (listed es) ≡ length row.signature.params) × AreMade es

    pub AreMade : Trees → Type 0
    AreMade none = ⊤
    AreMade (more e es) = IsMade e × AreMade es

  abbrev pub shape : Asked
  shape = record { of_expr = IsMade; of_conv = λ c l r. ⊤; of_proof = λ hyps lets p e. ⊤; of_lets = λ hyps lets. ⊤ }

  each-made : (es : List Tree) → AreMade (trees_of es) → EachIs shape es
  each-made [] h = tt
  each-made (e ∷ es) (h, hs) = (h, each-made es hs)

  all-made : (es : Trees) → EachIs shape (listed es) → AreMade es
  all-made none h = tt
  all-made (more e es) (h, hs) = (h, all-made es hs)

  shapes : Closed shape
  shapes = record {
    by_refl = λ e h. tt;
    by_sym = λ l r c hl hr h. tt;
    by_cong = λ t ls rs cs hl hr all. tt;
    converts = λ hyps lets e f c p he hc hp. tt;
    assumes = λ hyps lets e h. tt;
    names = λ hyps lets p e h. tt;
    more_hyps = λ hyps lets h p e hp. tt;
    more_lets = λ hyps lets q p e hp. tt;
    lets_assume = λ hyps lets h all. tt;
    lets_grow = λ hyps lets p e all h. tt;
    operands = λ t es h. each-made es h.3;
    as_many = λ t ls rs hl hr.
        sym (ap length (listed-trees_of ls)) ∙ hl.2 ∙ ap (λ (row : SpelledTerm). length row.signature.params) (some_is hl.1 hr.1) ∙ sym hr.2 ∙ ap length (listed-trees_of rs);
  }

  module _ (params : List Binder) where
    new-made : (e : Tree) → IsNew tables shape shapes params e → IsMade e
    new-made (var x) h = tt
    new-made (app t es) (row, row-at, len, each) = (row, row-at, len, all-made es each)

    taken-back : (xs ys : List (Item Tree)) → Takes xs ys → (hs : List Tree) × (xs ≡ map proof (reverse hs) ++ ys)
    taken-back xs ys (es, is) = (reverse es, is ∙ ap (λ (z : List Tree). map proof z ++ ys) (sym (reverse-reverse es)))

    abbrev pub Shaped : State Tree → Trace → Type 0
    Shaped st tr = Standing shape params st tr

    pub shape-goes : (at : ℕ) (c : ProofCode) (n : ℕ) (st : State Tree) (tr : Trace) (st' : State Tree) → proof_step strict tables at c n st ≡ Ok st' → Shaped st tr
        → (tr' : Trace) × (traced tables c n st tr ≡ Ok tr') × Shaped st' tr'
    shape-goes at c n st tr st' row s = goes tables shape shapes params at c n st tr st' row s (record {
      new = λ e xs is new. new-made e new;
      unfolds = λ x o p stream u popping popping-o parts stream-at ran c h. tt;
      cites = λ row x es fit u row-at popping popping-es fits apart ran.
          let (hs, is) = taken-back es.1 u.items (unify-takes (signatures_in tables) st.ctx row.stream es.0 x.0 es.1 u ran) in
          (hs, is, λ ps all. tt);
    })

-- Where a definition's stream has run, what it met is the instance of the body.
use Rattle.std.proofs.Common.{◌≡◌, ℕ, List, [], length, map, drop, Option, Some, None, Ok, refl, sym, ap, subst, ◌∙◌}
use Rattle.std.specs.Prelude.{slice_get}
use Rattle.std.proofs.lemmas.List.{drop_at}
use Rattle.std.proofs.lemmas.Option.{get_or_from_slice_get}
use Rattle.mz_logic_theory.specs.Tree.{Tree, var, app, none, instance, followed_by, variables}
use Rattle.mz_logic_theory.specs.Signature.{Signature}
use Rattle.mz_logic_theory.specs.Declaration.{Form, plain_form, abstract_form, defined, Term, Declaration, terms, signatures, body_tree}
use Rattle.mz_logic_theory.specs.declared.binder.Binder.{Binder}
use Rattle.mz_machine_theory.specs.Streams.{of_definition}
use Rattle.mz_machine_theory.specs.Spells.{trees_of, Text, SpelledTerm, SpellsForm, SpellsTerm}
use Rattle.mz_machine_theory.specs.Profile.{strict}
use Rattle.mz_machine_theory.specs.Sorted.{Sorted}
use Rattle.mz_machine_theory.specs.UnifyMachine.{UnifyState, unify}
use Rattle.mz_machine_theory.proofs.Offered.{some_is, operands-sorted, unfolding-is, pair-at, signatures-are, signature-at}
use Rattle.mz_machine_theory.specs.MachineState.{RowsBefore, Declares, signatures_in}
use Rattle.mz_trace.specs.Traces.{variables_in}
use Rattle.mz_trace.proofs.Deriving.{variables-are}
use Rattle.mz_trace.specs.Nodes.{body_under}
use Rattle.mz_trace.specs.Commands.{in_body}

-- a row with this stream spells a body
text-of : (sigs : List Signature) (params : List Binder) (o : Option (List ℕ)) (stream : List ℕ) (form : Form) → o ≡ Some stream → SpellsForm sigs params o form
    → (dummies : List Binder) × Text of_definition sigs params stream none (body_tree form) dummies
text-of sigs params None stream form is s = absurd cc
text-of sigs params (Some other) stream (defined dummies body) is s =
    let same : other ≡ stream = cc in
    (dummies, subst (λ (z : List ℕ). Text of_definition sigs params z none body dummies) same s)
text-of sigs params (Some other) stream _ is s = absurd s

module _ (tables : RowsBefore) (env : List Declaration) (declares : Declares tables env) (ctx : List Binder) where
  -- the left side is this term over the operands, and the target has a sort
  pub bodied : (t : ℕ) (row : SpelledTerm) (stream : List ℕ) (es : List Tree) (e : Tree) (u : UnifyState Tree) (met : List ℕ)
      → slice_get tables.terms t ≡ Some row → row.stream ≡ Some stream → Sorted (signatures env) ctx (app t (trees_of es)) → Sorted (signatures env) ctx e
      → unify strict (signatures_in tables) ctx (in_body stream es e) ≡ Ok u → variables_in (drop (length es) u.apart) ≡ met → e ≡ body_under env t es met
  bodied t row stream es e u met row-at row-stream left-sorted e-sorted ran met-is =
      let sigs = signatures env in
      let ran' : unify strict sigs ctx (in_body stream es e) ≡ Ok u =
      subst (λ (z : List Signature). unify strict z ctx (in_body stream es e) ≡ Ok u) (signatures-are tables env declares) ran in
      let (s, s-at, _, _, many) = operands-sorted sigs ctx (app t (trees_of es)) t es refl left-sorted in
      let (d, d-at, (sig-is, form-spells)) = pair-at (SpellsTerm sigs) tables.terms (terms env) declares.terms_are t row row-at in
      let same : row.signature ≡ s = some_is (signature-at tables env declares t row row-at) s-at in
      let (dummies, text) = text-of sigs row.signature.params row.stream stream d.form row-stream form-spells in
      let (ys, apart-is, _, (_, e-is)) =
      unfolding-is sigs ctx row.signature.params stream dummies (body_tree d.form) es e u text (many ∙ ap (λ (z : Signature). length z.params) (sym same)) e-sorted ran' in
      let ys-are : ys ≡ met =
      sym (ap (λ (z : List Tree). variables_in (drop (length es) z)) apart-is ∙ ap variables_in (drop_at es (map var ys) (length es) refl) ∙ variables-are ys) ∙ met-is in
      e-is ∙ ap (λ (zs : List ℕ). instance (followed_by (trees_of es) (variables zs)) (body_tree d.form)) ys-are
      ∙ ap (λ (z : Term). instance (followed_by (trees_of es) (variables met)) (body_tree z.form)) (sym (get_or_from_slice_get (terms env) t d _ d-at))

-- Rows whose streams are written spell.
use Rattle.std.proofs.Common.{◌≡◌, ℕ, suc, List, [], ◌∷◌, refl}
use Rattle.std.specs.Prelude.{slice_get, Some}
use Rattle.mz_logic_theory.specs.Tree.{Tree, listed}
use Rattle.mz_logic_theory.specs.Declaration.{Form, plain_form, abstract_form, defined, Declaration, term_decl, signatures}
use Rattle.mz_logic_theory.specs.Legality.{IsLegalDecl}
use Rattle.mz_logic_theory.specs.Signature.{Signature}
use Rattle.mz_logic_theory.specs.Sorts.{HasProvable}
use Rattle.mz_logic_theory.specs.declared.binder.Binder.{Binder}
use Rattle.mz_logic_theory.proofs.Offered.{assertions_are_sorted, terms_are_sorted}
use Rattle.mz_machine_theory.specs.Spells.{SpellsForm}
use Rattle.mz_machine_theory.specs.Sorted.{AllSorted}
use Rattle.mz_emit_theory.proofs.Texts.{assertions-written, definitions-written}
use Rattle.mz_emit_theory.specs.SpelledLists.{form_spelled}
use Rattle.mz_emit_theory.specs.WrittenRows.{stream_written, CanBeStream, AssertionRowsSpell, TermRowsSpell}

provable-sorted : (env : List Declaration) (ctx : List Binder) (es : List Tree) → ((i : ℕ) (e : Tree) → slice_get es i ≡ Some e → HasProvable env ctx e) → AllSorted (signatures env) ctx es
provable-sorted env ctx [] h = tt
provable-sorted env ctx (e ∷ es) h = let (s, has, _) = h 0 e refl in ((s, has), provable-sorted env ctx es λ i f at. h (suc i) f at)

pub assertion-rows : AssertionRowsSpell
assertion-rows env a further legal short =
    let (_, _, hyps, (s, has, _)) = (assertions_are_sorted env a).0 legal in
    (refl, assertions-written (signatures env) a.params a.hyps a.conclusion (provable-sorted env a.params (listed a.hyps) hyps) (s, has) short further)

form-spells : (env : List Declaration) (sig : Signature) (form : Form) (further : List ℕ) → IsLegalDecl env (term_decl (record { signature = sig; form = form })) → CanBeStream sig.params form
    → SpellsForm (signatures env) sig.params (stream_written sig.params form further) (form_spelled sig.params form)
form-spells env sig plain_form further legal can = tt
form-spells env sig abstract_form further legal can = absurd can
form-spells env sig (defined ds body) further legal can =
    let (_, _, _, _, _, ((has, _), _)) = (terms_are_sorted env (record { signature = sig; form = defined ds body })).0 legal in
    definitions-written (signatures env) sig.params ds body (sig.result.sort, has) can further

pub term-rows : TermRowsSpell
term-rows env d further legal can = (refl, form-spells env d.signature d.form further legal can)

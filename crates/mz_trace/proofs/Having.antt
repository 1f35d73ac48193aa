-- What stands there where a command goes through.
use Rattle.std.proofs.Common.{◌≡◌, ℕ, List, ◌∷◌, Ok, ap, ◌∙◌, subst}
use Rattle.mz_cmd.specs.declared.code.ProofCode.TheVariants as code
use Rattle.mz_logic_theory.specs.Tree.{Tree}
use Rattle.mz_machine_theory.specs.Profile.{Item as MachineItem}
use Rattle.mz_machine_theory.proofs.Offered.{from_bind}
use Rattle.mz_machine_theory.specs.MachineState.{RowsBefore}
use Rattle.mz_machine_theory.specs.Premises.{pop_expr, pop_proof, pop_obligation, pop_conversion}
use Rattle.mz_machine_theory.specs.ProofMachine.{proof_step}
use Rattle.mz_trace.specs.Entries.{items_at, IsStack, HasConversion, HasExpr, HasOwed}
use Rattle.mz_trace.specs.Commands.{Stage, values_in, Known, Goes}
use Rattle.mz_trace.specs.declared.entry.Item.TheVariants.{Expr, Proof}
use Rattle.mz_trace.specs.declared.entry.Entry.{Entry}
use Rattle.mz_trace.specs.declared.entry.Entry.TheVariants.{Held}
use Rattle.mz_trace.proofs.Tops.{expr-top, proof-top, owed-top, conversion-top}

module _ (Q : Known) (n : ℕ) (s : Stage) where
  pub conv-has : Goes Q code.Conv n s → (e p f : ℕ) × (ys : List Entry) × (s.stack ≡ Held (Proof e p) ∷ Held (Expr f) ∷ ys)
  unfolding proof_step
  conv-has (tables, params, st, q, made, row) =
      let vs = values_in s in
      from_bind (pop_proof (items_at vs s.stack)) _ st row λ a popping e1.
      from_bind (pop_expr a.1) _ st e1 λ b next e2.
      let (e, p, ys, is, a-is) = proof-top tables vs s.stack a made.1 popping in
      let (f, zs, there, b-is) = expr-top tables vs ys b (subst (IsStack tables vs) is made.1).1 (subst (λ (z : Tree × List (MachineItem Tree)). pop_expr z.1 ≡ Ok b) a-is next) in
      (e, p, f, zs, is ∙ ap (λ xs. Held (Proof e p) ∷ xs) there)

  pub hyp-has : Goes Q code.Hyp n s → HasExpr s.stack
  unfolding proof_step
  hyp-has (tables, params, st, q, made, row) =
      from_bind (pop_expr (items_at (values_in s) s.stack)) _ st row λ a popping e1.
      let (e, ys, is, a-is) = expr-top tables (values_in s) s.stack a made.1 popping in (e, ys, is)

  owed-has : (tables : RowsBefore) (r : Tree × Tree × List (MachineItem Tree)) → IsStack tables (values_in s) s.stack → pop_obligation (items_at (values_in s) s.stack) ≡ Ok r → HasOwed s.stack
  owed-has tables r made popping = let (a, b, ys, is, r-is) = owed-top tables (values_in s) s.stack r made popping in (a, b, ys, is)

  pub refl-has : Goes Q code.Refl n s → HasOwed s.stack
  unfolding proof_step
  refl-has (tables, params, st, q, made, row) = from_bind (pop_obligation (items_at (values_in s) s.stack)) _ st row λ o popping e1. owed-has tables o made.1 popping

  pub symm-has : Goes Q code.Symm n s → HasOwed s.stack
  unfolding proof_step
  symm-has (tables, params, st, q, made, row) = from_bind (pop_obligation (items_at (values_in s) s.stack)) _ st row λ o popping e1. owed-has tables o made.1 popping

  pub cong-has : Goes Q code.Cong n s → HasOwed s.stack
  unfolding proof_step
  cong-has (tables, params, st, q, made, row) = from_bind (pop_obligation (items_at (values_in s) s.stack)) _ st row λ o popping e1. owed-has tables o made.1 popping

  pub conv_cut-has : Goes Q code.ConvCut n s → HasOwed s.stack
  unfolding proof_step
  conv_cut-has (tables, params, st, q, made, row) = from_bind (pop_obligation (items_at (values_in s) s.stack)) _ st row λ o popping e1. owed-has tables o made.1 popping

  pub conv_save-has : Goes Q code.ConvSave n s → HasConversion s.stack
  unfolding proof_step
  conv_save-has (tables, params, st, q, made, row) =
      from_bind (pop_conversion (items_at (values_in s) s.stack)) _ st row λ o popping e1.
      let (a, b, c, ys, is, o-is) = conversion-top tables (values_in s) s.stack o made.1 popping in (a, b, c, ys, is)

-- the rest of what is known
pub rest-is : (x y : Entry) (xs ys : List Entry) → x ∷ xs ≡ y ∷ ys → xs ≡ ys
rest-is x y xs ys is = cc

-- The END, where obligations are still to come: more than one item is left, or a barrier is.
use Rattle.std.proofs.Common.{◌≡◌, List, [], ◌∷◌, ◌++◌, Ok, Err, refl, sym, ap, ◌∙◌}
use Rattle.mz_cmd.specs.declared.rule.K.{K}
use Rattle.mz_cmd.specs.declared.rule.K.TheVariants as k
use Rattle.mz_machine_theory.specs.Profile.{Profile, Item, expr, proof, obligation, conversion}
use Rattle.mz_machine_theory.specs.MachineState.{RowsBefore, State, Kind, is_axiom, is_theorem, is_definition, Heading}
use Rattle.mz_machine_theory.specs.ProofMachine.{last_item, ends_with, proof_end}
use Rattle.mz_machine_theory.specs.Bodies.{match_steps}
use Rattle.mz_machine.specs.OpenEquations.{EndsBarred, Expressions, to_come, below, whole_stack, AreSettled}
use Rattle.mz_machine.specs.declared.equations.Equation.{Equation}
use Rattle.mz_machine.proofs.BarredRows.{stacked}
use Rattle.mz_machine.proofs.EndRows.{no-end-steps, no-last-item, stopped-end}
use Rattle.mz_machine.proofs.WholeRows.{parted}

barred-last : {T : Type 0} (kind : Kind) (x : Item T) (xs zs : List (Item T)) → EndsBarred x xs → last_item kind (x ∷ xs ++ zs) ≡ Err k.FinalStack
barred-last is_theorem (proof e) [] zs b = absurd b
barred-last is_theorem (proof e) (y ∷ ys) zs b = refl
barred-last is_theorem (expr e) xs zs b = refl
barred-last is_theorem (obligation l r) xs zs b = refl
barred-last is_theorem (conversion l r) xs zs b = refl
barred-last is_axiom (expr e) [] zs b = absurd b
barred-last is_axiom (expr e) (y ∷ ys) zs b = refl
barred-last is_axiom (proof e) xs zs b = refl
barred-last is_axiom (obligation l r) xs zs b = refl
barred-last is_axiom (conversion l r) xs zs b = refl
barred-last is_definition (expr e) [] zs b = absurd b
barred-last is_definition (expr e) (y ∷ ys) zs b = refl
barred-last is_definition (proof e) xs zs b = refl
barred-last is_definition (obligation l r) xs zs b = refl
barred-last is_definition (conversion l r) xs zs b = refl

module _ (P : Profile) (tables : RowsBefore) (h : Heading) (st : State P.T) where
  module _ (s : Expressions P.T) where
    -- on both stacks
    none-ends : (e : Equation) (es : List Equation) (xs : List (Item P.T)) → AreSettled s (e ∷ es) xs
        → (ends_with P tables h (stacked st xs) ≡ Err k.FinalStack) × (ends_with P tables h (stacked st (whole_stack s (e ∷ es) xs)) ≡ Err k.FinalStack)
    none-ends e es xs settled =
        let (x, up, barred, top, all) = parted P tables st s e es xs settled in
        let low = to_come s e (whole_stack s es (below xs e.height)) in (
          no-last-item P tables h (stacked st xs) k.FinalStack (ap (last_item h.kind) all ∙ barred-last h.kind x up (below xs e.height) barred),
          no-last-item P tables h (stacked st (whole_stack s (e ∷ es) xs)) k.FinalStack (ap (λ ys. last_item h.kind (ys ++ low)) top ∙ barred-last h.kind x up low barred),
        )

    pub end-whole : (es : List Equation) (xs : List (Item P.T)) → AreSettled s es xs → proof_end P tables h (stacked st xs) ≡ Ok (stacked st xs)
        → proof_end P tables h (stacked st (whole_stack s es xs)) ≡ Ok (stacked st (whole_stack s es xs))
    end-whole [] xs settled ended = ended
    end-whole (e ∷ es) xs settled ended =
        absurd (let bad : Err k.FinalStack ≡ Ok (stacked st xs) = sym (stopped-end P tables h (stacked st xs) k.FinalStack (none-ends e es xs settled).0) ∙ ended in cc)

    pub end-refused : (es : List Equation) (xs : List (Item P.T)) → AreSettled s es xs → (d : K) → proof_end P tables h (stacked st xs) ≡ Err d
        → proof_end P tables h (stacked st (whole_stack s es xs)) ≡ Err d
    end-refused [] xs settled d refused = refused
    end-refused (e ∷ es) xs settled d refused =
        let none = none-ends e es xs settled in
        stopped-end P tables h (stacked st (whole_stack s (e ∷ es) xs)) k.FinalStack none.1
        ∙ sym (stopped-end P tables h (stacked st xs) k.FinalStack none.0) ∙ refused

    pub end-counts : (es : List Equation) (xs : List (Item P.T)) → AreSettled s es xs
        → match_steps P tables (stacked st (whole_stack s es xs)) (ends_with P tables h (stacked st (whole_stack s es xs)))
        ≡ match_steps P tables (stacked st xs) (ends_with P tables h (stacked st xs))
    end-counts [] xs settled = refl
    end-counts (e ∷ es) xs settled =
        let none = none-ends e es xs settled in
        no-end-steps P tables h (stacked st (whole_stack s (e ∷ es) xs)) k.FinalStack none.1 ∙ sym (no-end-steps P tables h (stacked st xs) k.FinalStack none.0)

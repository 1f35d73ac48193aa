-- What the steps of a body have made at its END, and the bytes of a body (the .mmb format, on proof streams).
use Rattle.std.specs.Prelude.{◌≡◌, ℕ, ◌<◌, ◌^◌, ⊤, true, List, [], ◌∷◌, ◌++◌, length, Contains}
use Rattle.mz_cmd.specs.declared.code.ProofCode.{ProofCode}
use Rattle.mz_logic_theory.specs.Tree.{Tree, none, instance, followed_by, variables}
use Rattle.mz_logic_theory.specs.Signature.{Signature}
use Rattle.mz_logic_theory.specs.Declaration.{Declaration, signatures}
use Rattle.mz_logic_theory.specs.Sorts.{HasSort, HasProvable}
use Rattle.mz_logic_theory.specs.Variables.{InFV}
use Rattle.mz_logic_theory.specs.Conversions.{AreFresh}
use Rattle.mz_logic_theory.specs.declared.binder.Binder.{Binder}
use Rattle.mz_machine_theory.specs.Streams.{of_assertion, of_definition}
use Rattle.mz_machine_theory.specs.Spells.{trees_of, Text}
use Rattle.mz_machine_theory.specs.Profile.{Profile, expr, proof}
use Rattle.mz_machine_theory.specs.MachineState.{Kind, is_axiom, is_theorem, is_definition, Heading}
use Rattle.mz_machine_theory.specs.Bodies.{stands_in}
use Rattle.mz_emit_theory.specs.SymbolicState.{Work}
use Rattle.mz_emit_theory.specs.Steps.{command_bytes}
use Rattle.mz_emit_theory.specs.AlphaEquivalence.{own}

-- ---- the end

-- the row spells these hypotheses and this conclusion
abbrev pub IsAsserted : List Signature → Heading → List Tree → Tree → Type 0
IsAsserted sigs h hyps e = Text of_assertion sigs h.params h.stream (trees_of hyps) e []

-- the row spells a body, which e is with distinct variables for its dummies
abbrev pub IsDefinedAs : List Signature → List Binder → Heading → Tree → Type 0
IsDefinedAs sigs ctx h e = (body : Tree) × (dummies : List Binder) × (ys : List ℕ) × Text of_definition sigs h.params h.stream none body dummies
    × AreFresh ctx (own h.params) ys dummies × (e ≡ instance (followed_by (own h.params) (variables ys)) body)

-- one item is left, by the statement's kind: what its row spells
abbrev pub IsEnding : List Declaration → List Binder → Heading → Work → Kind → Tree → Type 0
IsEnding env ctx h w is_theorem e = (w.stack ≡ proof e ∷ []) × IsAsserted (signatures env) h w.hyps e
IsEnding env ctx h w is_axiom e = (w.stack ≡ expr e ∷ []) × IsAsserted (signatures env) h w.hyps e × HasProvable env ctx e
IsEnding env ctx h w is_definition e = (w.stack ≡ expr e ∷ []) × IsDefinedAs (signatures env) ctx h e × HasSort (signatures env) ctx e h.result.sort
    × ((x : ℕ) → InFV (signatures env) ctx x e → Contains h.result.deps x) × ((x : ℕ) → Contains h.result.deps x → x < length h.params)

abbrev pub Ends : List Declaration → List Binder → Heading → Work → Type 0
Ends env ctx h w = (e : Tree) × IsEnding env ctx h w h.kind e

-- ---- the bytes

-- the commands, each in its shortest spelling, and END
abbrev pub spelled_body : List (ProofCode × ℕ) → List ℕ
spelled_body [] = 0x00 ∷ []
spelled_body (c ∷ cs) = command_bytes c ++ spelled_body cs

-- the commands may stand in a body of this kind, and their operands take four bytes at most
abbrev pub MayStand : Profile → Kind → List (ProofCode × ℕ) → Type 0
MayStand P kind [] = ⊤
MayStand P kind (c ∷ cs) = (stands_in P kind c.0 ≡ true) × (c.1 < 2 ^ 32) × MayStand P kind cs

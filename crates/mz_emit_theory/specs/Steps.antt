-- What each command of a body makes (the .mmb format, its list of proof commands), in the logic's words. Nothing here
-- speaks of a machine.
use Rattle.std.specs.Prelude.{◌≡◌, ℕ, ◌+◌, ◌⊎◌, Bool, true, false, List, [], ◌∷◌, ◌++◌, length, map, reverse, slice_get, Contains, Some, Result, Ok}
use Rattle.mz_cmd.specs.declared.rule.K.{K}
use Rattle.mz_cmd.specs.declared.code.ProofCode.{ProofCode}
use Rattle.mz_cmd.specs.declared.code.ProofCode.TheVariants as code
use Rattle.mz_cmd.specs.Codes.{proof_byte}
use Rattle.mz_cmd.specs.Spelling.{shortest}
use Rattle.mz_logic_theory.specs.Tree.{Tree, Trees, var, app, listed, instance, followed_by, variables}
use Rattle.mz_logic_theory.specs.Declaration.{Term, Assertion, Declaration, sorts, signatures, assertions}
use Rattle.mz_logic_theory.specs.Modifiers.{MayBeDummySort}
use Rattle.mz_logic_theory.specs.Sorts.{HasSort, Fits, HasProvable}
use Rattle.mz_logic_theory.specs.Variables.{AreDisjoint}
use Rattle.mz_logic_theory.specs.Conversions.{IsDefined, AreFresh}
use Rattle.mz_logic_theory.specs.declared.binder.Binder.{Binder}
use Rattle.mz_machine_theory.specs.Steps.{◌>>=◌}
use Rattle.mz_machine_theory.specs.Spells.{trees_of, dummy_of}
use Rattle.mz_machine_theory.specs.Sorted.{Sorted}
use Rattle.mz_machine_theory.specs.Profile.{Profile, Item, expr, proof, obligation, conversion}
use Rattle.mz_machine_theory.specs.UnifyLaws.{IsCitedAs}
use Rattle.mz_machine_theory.specs.MachineState.{RowsBefore, State}
use Rattle.mz_machine_theory.specs.Premises.{is_obligation}
use Rattle.mz_machine_theory.specs.ProofMachine.{sides, proof_step}
use Rattle.mz_emit_theory.specs.SymbolicState.{Work}

-- ---- a new stack, and one more item in the heap

abbrev pub stacked : Work → List (Item Tree) → Work
stacked w xs = record w { stack = xs }

abbrev pub kept : Work → Item Tree → Work
kept w x = record w { heap = w.heap ++ x ∷ [] }

-- n operands, the last one on top
abbrev pub above : List Tree → List (Item Tree) → List (Item Tree)
above es xs = map expr (reverse es) ++ xs

-- ---- the steps

-- the operands on the stack are those of an application that has a sort
abbrev pub IsBuilt : List Declaration → List Binder → Work → ℕ → List Tree → List (Item Tree) → Type 0
IsBuilt env ctx w t es rest = Sorted (signatures env) ctx (app t (trees_of es)) × (w.stack ≡ above es rest)

-- assertion T is cited: below its conclusion's instance stand the operands, which fit and are disjoint, and
-- below them the proofs of its hypotheses' instances
abbrev pub IsCited : List Declaration → List Binder → Work → ℕ → Tree → List (Item Tree) → Type 0
IsCited env ctx w T e rest = (a : Assertion) × (es : List Tree) × (items : List (Item Tree))
    × (slice_get (assertions env) T ≡ Some a) × Fits (signatures env) ctx (trees_of es) a.params × AreDisjoint ctx (trees_of es) a.params
    × IsCitedAs a.hyps a.conclusion es e items rest × (w.stack ≡ expr e ∷ above es items)

-- an item of the heap: a conversion pays the obligation on top, another is pushed
abbrev pub IsReferred : Item Tree → Work → Work → Type 0
IsReferred (conversion l r) w w' = (rest : List (Item Tree)) × (w.stack ≡ obligation l r ∷ rest) × (w' ≡ stacked w rest)
IsReferred (expr e) w w' = w' ≡ stacked w (expr e ∷ w.stack)
IsReferred (proof e) w w' = w' ≡ stacked w (proof e ∷ w.stack)
IsReferred (obligation l r) w w' = ⊥

-- the term t unfolds to e, the body with the operands for parameters and fresh variables for dummies
abbrev pub IsUnfolding : List Declaration → List Binder → ℕ → List Tree → Tree → Type 0
IsUnfolding env ctx t es e = (d : Term) × (dummies : List Binder) × (body : Tree) × (ys : List ℕ) × IsDefined env t d dummies body
    × AreFresh ctx (trees_of es) ys dummies × (e ≡ instance (followed_by (trees_of es) (variables ys)) body)

-- a gap: an expression becomes a proof; or an obligation, whose sides have one sort, goes
abbrev pub IsGap : List Declaration → List Binder → Work → Work → Type 0
IsGap env ctx w w' = ((e : Tree) × (rest : List (Item Tree)) × (w.stack ≡ expr e ∷ rest) × HasProvable env ctx e × (w' ≡ stacked w (proof e ∷ rest)))
    ⊎ ((l : Tree) × (r : Tree) × (rest : List (Item Tree)) × (s : ℕ) × (w.stack ≡ obligation l r ∷ rest) × HasSort (signatures env) ctx l s × HasSort (signatures env) ctx r s × (w' ≡ stacked w rest))

-- Under env and in the text's context, the command with its operand makes the second of the first. Gaps
-- are let through or not.
abbrev pub Step : Bool → List Declaration → List Binder → Work → ProofCode → ℕ → Work → Type 0
Step gaps env ctx w code.Term t w' = (es : List Tree) × (rest : List (Item Tree)) × IsBuilt env ctx w t es rest
    × (w' ≡ stacked w (expr (app t (trees_of es)) ∷ rest))
Step gaps env ctx w code.TermSave t w' = (es : List Tree) × (rest : List (Item Tree)) × IsBuilt env ctx w t es rest
    × (w' ≡ kept (stacked w (expr (app t (trees_of es)) ∷ rest)) (expr (app t (trees_of es))))
Step gaps env ctx w code.Ref i w' = (x : Item Tree) × (slice_get w.heap i ≡ Some x) × IsReferred x w w'
Step gaps env ctx w code.ConvRef i w' = (l : Tree) × (r : Tree) × (slice_get w.heap i ≡ Some (conversion l r)) × IsReferred (conversion l r) w w'
Step gaps env ctx w code.Dummy s w' = (x : ℕ) × (slice_get ctx x ≡ Some (dummy_of s)) × MayBeDummySort (sorts env) s
    × (Contains w.met x → ⊥)
    × (w' ≡ record { met = w.met ++ x ∷ []; heap = w.heap ++ expr (var x) ∷ []; stack = expr (var x) ∷ w.stack; hyps = w.hyps })
Step gaps env ctx w code.Thm T w' = (e : Tree) × (rest : List (Item Tree)) × IsCited env ctx w T e rest × (w' ≡ stacked w (proof e ∷ rest))
Step gaps env ctx w code.ThmSave T w' = (e : Tree) × (rest : List (Item Tree)) × IsCited env ctx w T e rest × (w' ≡ kept (stacked w (proof e ∷ rest)) (proof e))
Step gaps env ctx w code.Hyp n w' = (e : Tree) × (rest : List (Item Tree)) × (w.stack ≡ expr e ∷ rest) × HasProvable env ctx e
    × (w' ≡ record { met = w.met; heap = w.heap ++ proof e ∷ []; stack = rest; hyps = w.hyps ++ e ∷ [] })
Step gaps env ctx w code.Conv n w' = (l : Tree) × (r : Tree) × (rest : List (Item Tree)) × (w.stack ≡ proof r ∷ expr l ∷ rest)
    × (w' ≡ stacked w (obligation l r ∷ proof l ∷ rest))
Step gaps env ctx w code.Refl n w' = (e : Tree) × (rest : List (Item Tree)) × (w.stack ≡ obligation e e ∷ rest) × (w' ≡ stacked w rest)
Step gaps env ctx w code.Symm n w' = (l : Tree) × (r : Tree) × (rest : List (Item Tree)) × (w.stack ≡ obligation l r ∷ rest)
    × (w' ≡ stacked w (obligation r l ∷ rest))
Step gaps env ctx w code.Cong n w' = (t : ℕ) × (ls : Trees) × (rs : Trees) × (rest : List (Item Tree)) × (w.stack ≡ obligation (app t ls) (app t rs) ∷ rest)
    × (w' ≡ stacked w (sides (listed ls) (listed rs) rest))
Step gaps env ctx w code.Unfold n w' = (t : ℕ) × (es : List Tree) × (e : Tree) × (r : Tree) × (rest : List (Item Tree)) × IsUnfolding env ctx t es e
    × (w.stack ≡ expr e ∷ expr (app t (trees_of es)) ∷ obligation (app t (trees_of es)) r ∷ rest)
    × (w' ≡ stacked w (obligation e r ∷ rest))
Step gaps env ctx w code.ConvCut n w' = (l : Tree) × (r : Tree) × (rest : List (Item Tree)) × (w.stack ≡ obligation l r ∷ rest)
    × (w' ≡ stacked w (obligation l r ∷ conversion l r ∷ rest))
Step gaps env ctx w code.ConvSave n w' = (l : Tree) × (r : Tree) × (rest : List (Item Tree)) × (w.stack ≡ conversion l r ∷ rest)
    × (w' ≡ kept (stacked w rest) (conversion l r))
Step gaps env ctx w code.Save n w' = (x : Item Tree) × (rest : List (Item Tree)) × (w.stack ≡ x ∷ rest) × (is_obligation x ≡ false) × (w' ≡ kept w x)
Step gaps env ctx w code.Sorry n w' = (gaps ≡ true) × IsGap env ctx w w'

-- one after another
abbrev pub Steps : Bool → List Declaration → List Binder → Work → List (ProofCode × ℕ) → Work → Type 0
Steps gaps env ctx w [] w' = w' ≡ w
Steps gaps env ctx w (c ∷ cs) w' = (mid : Work) × Step gaps env ctx w c.0 c.1 mid × Steps gaps env ctx mid cs w'

-- ---- commands that the machine runs

-- the bytes of a command, in its shortest spelling
abbrev pub command_bytes : ProofCode × ℕ → List ℕ
command_bytes c = shortest (proof_byte c.0) c.1

-- commands in their shortest spellings, the first of which stands at a place
abbrev pub run_commands : (P : Profile) → RowsBefore → ℕ → List (ProofCode × ℕ) → State P.T → Result (State P.T) K
run_commands P tables at [] st = Ok st
run_commands P tables at (c ∷ cs) st = proof_step P tables at c.0 c.1 st >>= run_commands P tables (at + length (command_bytes c)) cs

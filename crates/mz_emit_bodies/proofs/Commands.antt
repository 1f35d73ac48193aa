-- The bytes of one command, and the steps of commands that build.
use Rattle.std.specs.Prelude.{ℕ, Bool, ◌≡◌, ◌≤◌, ◌||◌, true, false, List, [], ◌∷◌, ◌++◌, length, map, reverse, slice_get, Some}
use Rattle.std.proofs.Common.{zero, suc, refl, sym, ap, ◌∙◌, subst, arith}
use Rattle.std.proofs.lemmas.Option.{get_or_from_slice_get}
use Rattle.byteorder.specs.Numbers.{length-bytes_low_first}
use Rattle.mz_cmd.specs.declared.code.ProofCode.{ProofCode}
use Rattle.mz_cmd.specs.declared.code.ProofCode.TheVariants as code
use Rattle.mz_cmd.specs.Spelling.{operand_len, shortest_size}
use Rattle.mz_logic_theory.specs.Tree.{Tree, Trees, listed, instance, instances}
use Rattle.mz_logic_theory.specs.Declaration.{Assertion, Declaration, signatures, assertions}
use Rattle.mz_logic_theory.specs.Sorts.{Fits}
use Rattle.mz_logic_theory.specs.Variables.{AreDisjoint}
use Rattle.mz_logic_theory.specs.declared.binder.Binder.{Binder}
use Rattle.mz_machine_theory.specs.Profile.{Item, expr, proof, plain}
use Rattle.mz_machine_theory.specs.Spells.{trees_of as listed_back}
use Rattle.mz_machine_theory.proofs.Offered.{trees_of-listed}
use Rattle.mz_machine_theory.specs.Bodies.{stands_in}
use Rattle.mz_machine_theory.specs.MachineState.{is_theorem}
use Rattle.mz_emit_theory.specs.SymbolicState.{Work}
use Rattle.mz_emit_theory.specs.Steps.{stacked, above, Step, Steps, IsCited, command_bytes}
use Rattle.mz_emit_theory.specs.Claims.{conclusion_of, IsCitable}
use Rattle.mz_emit_theory.specs.SharedBodies.{Builds}

-- ---- bytes

operand_short : (size : ℕ) → operand_len size ≤ 4
operand_short (suc (suc zero)) = omega arith
operand_short _ = omega arith

pub command_short : (c : ProofCode) (v : ℕ) → length (command_bytes (c, v)) ≤ 5
command_short c v = (let a = length-bytes_low_first 0 (operand_len (shortest_size v)) v in let b = operand_short (shortest_size v) in omega (arith, a, b))

pub command_one : (c : ProofCode) → length (command_bytes (c, 0)) ≡ 1
command_one c = refl

-- ---- one or another

pub or_assoc : (a b c : Bool) → ((a || b) || c) ≡ (a || (b || c))
or_assoc true b c = refl
or_assoc false b c = refl

-- ---- steps

pub builds_steps : (gaps : Bool) (env : List Declaration) (ctx : List Binder) (cs : List (ProofCode × ℕ)) (w w' : Work) (bs : List Tree) → Builds gaps env ctx w cs w' bs → Steps gaps env ctx w cs w'
builds_steps gaps env ctx [] w w' bs (is, empty) = is
builds_steps gaps env ctx (c ∷ cs) w w' bs (next, later, first, rest, is) = (next, first, builds_steps gaps env ctx cs next w' later rest)

pub no_tree : (A : Type 0) (k : ℕ) (e : Tree) → slice_get [] k ≡ Some e → A
no_tree A k e is = absurd (grind (arith, is))

-- the command of a citation
pub thm_step : (gaps : Bool) (env : List Declaration) (ctx : List Binder) (T : ℕ) (es : Trees) (hs : List Tree) (rest items : List (Item Tree)) (e : Tree) → IsCitable env ctx T es hs
    → e ≡ instance es (conclusion_of env T) → items ≡ map proof (reverse hs) ++ rest → (w : Work) → w.stack ≡ expr e ∷ above (listed es) items → Step gaps env ctx w code.Thm T (stacked w (proof e ∷ rest))
thm_step gaps env ctx T es hs rest items e (a, at, fits, apart, hs-is, reach, sorted) e-is items-is w w-is =
    let back = trees_of-listed es in
    let same : conclusion_of env T ≡ a.conclusion = ap (λ (b : Assertion). b.conclusion) (get_or_from_slice_get (assertions env) T a _ at) in
    let cited : IsCited env ctx w T e rest = (
      a,
      listed es,
      items,
      at,
      subst (λ (z : Trees). Fits (signatures env) ctx z a.params) (sym back) fits,
      subst (λ (z : Trees). AreDisjoint ctx z a.params) (sym back) apart,
      (
        hs,
        ap listed_back hs-is ∙ trees_of-listed (instances es a.hyps) ∙ ap (λ (z : Trees). instances z a.hyps) (sym back),
        e-is ∙ ap (instance es) same ∙ ap (λ (z : Trees). instance z a.conclusion) (sym back),
        items-is,
      ),
      w-is,
    ) in
    (e, rest, cited, refl)

-- every command may stand in a theorem's body
pub in_theorem : (gaps : Bool) (c : ProofCode) → stands_in (plain gaps) is_theorem c ≡ true
in_theorem gaps code.Term = refl
in_theorem gaps _ = refl

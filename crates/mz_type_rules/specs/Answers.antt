-- What checks that take memory answer.
use Rattle.std.specs.Prelude.{◌≡◌, List, Option, Some, None, Result, Ok, Err}
use Rattle.std.specs.Borrow.{Bor}
use Rattle.mz_base.specs.Checks.{Checks, demand, ◌>>◌, AllHold}
use Rattle.mz_sexpr.specs.Node.{Node, Nodes, parts, place}
use Rattle.mz_sexpr.specs.declared.rule.U.{U}
use Rattle.mz_logic_theory.specs.Conversions.{Conversion}
use Rattle.mz_logic_theory.specs.Declaration.{Declaration, signatures}
use Rattle.mz_logic_theory.specs.declared.binder.Binder.{Binder}
use Rattle.mz_logic_theory.specs.Tree.{Tree, Trees, none}
use Rattle.mz_mmu_theory.specs.FormOrder.{fault}
use Rattle.mz_mmu_theory.specs.Proof.{Proof}
use Rattle.mz_mmu_theory.specs.ProofView.{proof_view}
use Rattle.mz_mmu_theory.specs.declared.proof.Proof.{Proof as Coded}
use Rattle.mz_mmu_theory.specs.Stops.{Stops}
use Rattle.mz_mmu_theory.specs.declared.fault.Fault.{Fault}
use Rattle.mz_mmu_theory.specs.declared.fault.Stop.{Stop}
use Rattle.mz_mmu_theory.specs.declared.fault.Stop.TheVariants.{Refused}
use Rattle.mz_type_rules.specs.Claims.{claim_tree}
use Rattle.mz_mmu_theory.specs.Parts.{part}
use Rattle.mz_mmu_theory.specs.Rules.{expr_rules, conv_rules, proof_rules}
use Rattle.mz_mmu_theory.specs.Sides.{proved}
use Rattle.mz_type_rules.specs.declared.claim.Claim.{Claim}

-- all hold, or the first that doesn't is reported, or there was no memory
abbrev pub Judged : {A : Type 0} → Result A Stop → Checks Fault → Type 0
Judged (Ok _) cs = AllHold cs
Judged (Err stop) cs = Stops stop cs

-- the same answer, where memory may be missing too
abbrev pub told : Result (Unit {0}) Fault → Result (Unit {0}) Stop
told (Ok x) = Ok x
told (Err f) = Err (Refused f)

-- the same, where a claim is answered
abbrev pub IsProved : Result Claim Stop → Checks Fault → Tree → Type 0
IsProved (Ok claim) cs x = AllHold cs × (claim_tree claim ≡ x)
IsProved (Err stop) cs x = Stops stop cs

-- the proof that a statement states, if it states one
abbrev pub stated : Option (Bor Coded) → Option Proof
stated None = None
stated (Some p) = Some (proof_view p.now)

-- what a converted proof asks before its subproof
abbrev pub converted_rules : List Declaration → List Binder → Tree → Conversion → Node → Checks Fault
converted_rules env ctx e c n = expr_rules (signatures env) ctx e (part (parts n) 1) >> conv_rules env ctx c (part (parts n) 2)

-- what is asked of a theorem's proof and its conclusion, after its dummies
abbrev pub proves_rules : List Declaration → List Binder → Trees → Proof → Tree → Nodes → Checks Fault
proves_rules env ctx hyps p e ps = proof_rules env ctx hyps none p (part ps 6) >> demand (fault (place (part ps 4)) U.Conclusion) (proved env hyps none p ≡ e)

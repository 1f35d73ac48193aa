-- What is to be emitted of a body, and what it stands on.
use Rattle.std.specs.Prelude.{ℕ, ◌≡◌, ◌<◌, ◌+◌, ◌*◌, ⊤, Bool, List, [], ◌∷◌, length, map, reverse, Option, Some}
use Rattle.mz_cmd.specs.declared.code.ProofCode.{ProofCode}
use Rattle.mz_logic_theory.specs.Tree.{Tree, Trees, instance, size, trees_size}
use Rattle.mz_logic_theory.specs.Declaration.{Declaration}
use Rattle.mz_logic_theory.specs.Conversions.{Conversion, Conversions}
use Rattle.mz_logic_theory.specs.declared.binder.Binder.{Binder}
use Rattle.mz_store.specs.Sharing.{Sharing, IsIn, tree_of, head_of}
use Rattle.mz_mmu_theory.specs.Proof.{Proof, Proofs}
use Rattle.mz_mmu_theory.specs.ProofView.{proof_view, proofs_view}
use Rattle.mz_mmu_theory.specs.ConvView.{conversion, conversions}
use Rattle.mz_emit_bodies.specs.Sight.{Part, IsThere}
use Rattle.mz_emit_bodies.specs.Scopes.{in_sight, scopes}
use Rattle.mz_emit_theory.specs.Claims.{proved, conclusion_of, IsCitable, Goes, AllGo, IsSound, AreSound}
use Rattle.mz_emit_theory.specs.Costs.{cost, costs, pay_cost, pay_costs}
use Rattle.mz_emit_bodies.specs.declared.work_list.Task.{Task as Coded}
use Rattle.mz_emit_bodies.specs.declared.work_list.Task.TheVariants as task

pub data Task : Type 0 where
  prove : Proof → Option ℕ → Task
  prove_all : Proofs → Option ℕ → Task
  cite : ℕ → Trees → Task
  push : ℕ → Task
  make : ℕ → Task
  pay : Conversion → Task
  pay_all : Conversions → Task
  give : ProofCode → ℕ → Task
  save : ℕ → Task

abbrev pub task_view : Coded → Task
task_view (task.Prove p chain) = prove (proof_view p.now) chain
task_view (task.ProveAll ps chain) = prove_all (proofs_view ps.now) chain
task_view (task.Cite T es) = cite T es.now
task_view (task.Push id) = push id.0
task_view (task.Make id) = make id.0
task_view (task.Pay c) = pay (conversion c.now)
task_view (task.PayAll cs) = pay_all (conversions cs.now)
task_view (task.Do code value) = give code value
task_view (task.Save c) = save c

-- what is to do, the next first
abbrev pub to_do : List Coded → List Task
to_do ts = reverse (map task_view ts)

-- what the lets prove that are in sight of each cell, itself counted
abbrev pub claims : List Declaration → List Tree → List Part → List (List Tree)
claims env hyps ps = scopes (λ n. proved env hyps) ps

abbrev pub let_costs : List Declaration → List Part → List (List ℕ)
let_costs env ps = scopes (λ n. cost env) ps

-- the task can be done, with the expressions that are kept and the lets that are open; where it is one of a proof, all of the
-- hypotheses are assumed, which so far are n
abbrev pub CanBeDone : Bool → List Declaration → List Binder → List Tree → ℕ → Sharing → List Part → Task → Type 0
CanBeDone gaps env ctx hyps n s ps (prove p chain) = (n ≡ length hyps) × IsThere (length ps) chain × IsSound gaps env ctx hyps (in_sight (claims env hyps ps) chain) p
CanBeDone gaps env ctx hyps n s ps (prove_all qs chain) = (n ≡ length hyps) × IsThere (length ps) chain × AreSound gaps env ctx hyps (in_sight (claims env hyps ps) chain) qs
CanBeDone gaps env ctx hyps n s ps (cite T es) = (hs : List Tree) × IsCitable env ctx T es hs
CanBeDone gaps env ctx hyps n s ps (push i) = IsIn s i
CanBeDone gaps env ctx hyps n s ps (make i) = IsIn s i × (t : ℕ) × (head_of (tree_of s i) ≡ Some t)
CanBeDone gaps env ctx hyps n s ps (pay c) = (l : Tree) × (r : Tree) × Goes gaps env ctx c l r
CanBeDone gaps env ctx hyps n s ps (pay_all cs) = (ls : Trees) × (rs : Trees) × AllGo gaps env ctx cs ls rs
CanBeDone gaps env ctx hyps n s ps (give code value) = ⊤
CanBeDone gaps env ctx hyps n s ps (save c) = c < length ps

-- all of them can
abbrev pub AllCanBeDone : Bool → List Declaration → List Binder → List Tree → ℕ → Sharing → List Part → List Task → Type 0
AllCanBeDone gaps env ctx hyps n s ps [] = ⊤
AllCanBeDone gaps env ctx hyps n s ps (t ∷ ts) = CanBeDone gaps env ctx hyps n s ps t × AllCanBeDone gaps env ctx hyps n s ps ts

-- ---- how many steps are left

abbrev pub task_cost : List Declaration → Sharing → List Part → Task → ℕ
task_cost env s ps (prove p chain) = cost env (in_sight (let_costs env ps) chain) p
task_cost env s ps (prove_all qs chain) = costs env (in_sight (let_costs env ps) chain) qs
task_cost env s ps (cite T es) = 2 + 2 * trees_size es + 2 * size (instance es (conclusion_of env T))
task_cost env s ps (push i) = 2 * size (tree_of s i)
task_cost env s ps (make i) = 1
task_cost env s ps (pay c) = pay_cost env c
task_cost env s ps (pay_all cs) = pay_costs env cs
task_cost env s ps (give code value) = 1
task_cost env s ps (save c) = 1

abbrev pub left : List Declaration → Sharing → List Part → List Task → ℕ
left env s ps [] = 0
left env s ps (t ∷ ts) = task_cost env s ps t + left env s ps ts

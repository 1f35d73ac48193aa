-- What is written for tasks, and what stands in the heap of a body that is being written: what is written so far, with
-- what is written for the tasks, is the whole.
use Rattle.std.specs.Prelude.{ℕ, ◌≡◌, ◌<◌, ◌^◌, List, [], ◌∷◌, ◌++◌, length, slice_get, Option, Some}
use Rattle.mz_cmd.specs.declared.code.ProofCode.{ProofCode}
use Rattle.mz_cmd.specs.declared.code.ProofCode.TheVariants as code
use Rattle.mz_logic_theory.specs.Tree.{Tree, var, app, instance}
use Rattle.mz_logic_theory.specs.Declaration.{Declaration}
use Rattle.mz_logic_theory.specs.declared.binder.Binder.{Binder}
use Rattle.mz_store.specs.Sharing.{Sharing, IsIn, Holds, tree_of}
use Rattle.mz_emit_bodies.specs.Places.{place_of}
use Rattle.mz_emit_theory.specs.Claims.{conclusion_of}
use Rattle.mz_emit_bodies.specs.Sight.{Part, parts, place_at}
use Rattle.mz_emit_bodies.specs.Scopes.{in_sight, scopes}
use Rattle.mz_emit_bodies.specs.TaskInvariant.{Task, prove, prove_all, cite, push, make, pay, pay_all, give, save}
use Rattle.mz_emit_theory.specs.BodyWriting.{expression, hypothesis, first_part, Writing, place_in, Written, Writer, nothing, ◌>>◌, command, keeping, write_expr, write_exprs, write_payment, write_payments, at_name, write_proof, write_proofs}
use Rattle.mz_emit_bodies.specs.declared.let_scopes.Cell.{Cell}

-- what is written for the names of the lets in sight of each cell, itself counted
abbrev pub let_writers : List Declaration → List Binder → List Part → List (List Writer)
let_writers env ctx ps = scopes (λ n lets p. at_name n (write_proof env ctx lets p)) ps

-- the term of an application; of a variable, which nothing makes of operands, 0
abbrev pub term_of : Tree → ℕ
term_of (var x) = 0
term_of (app t es) = t

abbrev pub write_task : List Declaration → List Binder → Sharing → List Part → Task → Writer
write_task env ctx s ps (prove p chain) = write_proof env ctx (in_sight (let_writers env ctx ps) chain) p
write_task env ctx s ps (prove_all qs chain) = write_proofs env ctx (in_sight (let_writers env ctx ps) chain) qs
write_task env ctx s ps (cite T es) = write_exprs ctx es >> write_expr ctx (instance es (conclusion_of env T)) >> command code.Thm T
write_task env ctx s ps (push i) = write_expr ctx (tree_of s i)
write_task env ctx s ps (make i) = keeping code.TermSave (term_of (tree_of s i)) (expression (tree_of s i))
write_task env ctx s ps (pay c) = write_payment env ctx c
write_task env ctx s ps (pay_all cs) = write_payments env ctx cs
write_task env ctx s ps (give code value) = command code value
write_task env ctx s ps (save c) = keeping code.Save 0 (first_part c)

-- one after another
abbrev pub write_tasks : List Declaration → List Binder → Sharing → List Part → List Task → Writer
write_tasks env ctx s ps [] = nothing
write_tasks env ctx s ps (t ∷ ts) = write_task env ctx s ps t >> write_tasks env ctx s ps ts

-- what stands where, of the expressions by their ids, of the hypotheses and of the lets by their cells
pub record IsKept (s : Sharing) (places : List (Option ℕ)) (len : ℕ) (hyp_places : List ℕ) (cells : List Cell) (w : Writing) : Type 0 where
  pub long : length w.heap ≡ len
  pub met : w.lets ≡ length cells
  pub placed : (i p : ℕ) → place_of places i ≡ Some p → IsIn s i × (place_in (expression (tree_of s i)) w.heap ≡ Some p)
  pub found : (e : Tree) (p : ℕ) → place_in (expression e) w.heap ≡ Some p → (i : ℕ) × Holds s i e × (place_of places i ≡ Some p)
  pub hypotheses : (k : ℕ) → place_in (hypothesis k) w.heap ≡ slice_get hyp_places k
  pub saved : (c : ℕ) → place_in (first_part c) w.heap ≡ place_at cells c

-- what is written, behind these commands
abbrev pub behind : List (ProofCode × ℕ) → Written → Written
behind cs r = record { commands = cs ++ r.commands; after = r.after }

-- 32 bits are enough for the number of what is in the heap, and for that of the lets
abbrev pub HasRoom : Written → Type 0
HasRoom r = (length r.after.heap < 2 ^ 32) × (r.after.lets < 2 ^ 32)

-- these are the commands so far, and with what is written for the tasks it is the whole, for which there is room
pub record IsWriting (env : List Declaration) (s : Sharing) (places : List (Option ℕ)) (len : ℕ) (hyp_places : List ℕ) (cells : List Cell) (tasks : List Task)
    (commands : List (ProofCode × ℕ)) (whole : Written) : Type 0 where
  pub here : Writing
  pub kept : IsKept s places len hyp_places cells here
  pub comes : behind commands (write_tasks env s.context s (parts cells) tasks here) ≡ whole
  pub room : HasRoom whole

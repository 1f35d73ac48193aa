-- A body that is being written: what is written so far, and what is to do.
use Rattle.std.specs.Prelude.{ℕ, ◌≡◌, ◌<◌, Bool, List, [], ◌∷◌, ◌++◌, length, map, Option}
use Rattle.mz_cmd.specs.declared.code.ProofCode.{ProofCode}
use Rattle.mz_logic_theory.specs.Tree.{Tree}
use Rattle.mz_logic_theory.specs.Declaration.{Declaration, signatures}
use Rattle.mz_logic_theory.specs.Legality.{IsLegalEnv}
use Rattle.mz_logic_theory.specs.Words.{signatures_of}
use Rattle.mz_logic_theory.specs.declared.binder.Binder.{Binder}
use Rattle.mz_store.specs.Sharing.{Sharing}
use Rattle.mz_store.specs.declared.item.Id.{Id}
use Rattle.mz_emit_theory.specs.BodyWriting.{Written}
use Rattle.mz_emit_theory.specs.Claims.{IsSound}
use Rattle.mz_emit_theory.specs.Steps.{command_bytes}
use Rattle.mz_emit_bodies.specs.Instances.{Grows}
use Rattle.mz_emit_bodies.specs.Laws.{TakeFourBytes}
use Rattle.mz_emit_bodies.specs.Rows.{words_of_row}
use Rattle.mz_emit_bodies.specs.Variables.{IsShared}
use Rattle.mz_emit_bodies.specs.Sight.{links, parts, part_at, AreRight}
use Rattle.mz_emit_bodies.specs.Scopes.{in_sight}
use Rattle.mz_emit_bodies.specs.TaskInvariant.{Task, claims, AllCanBeDone, to_do, left}
use Rattle.mz_emit_bodies.specs.Writers.{IsWriting}
use Rattle.mz_emit_bodies.specs.declared.let_scopes.Cell.{Cell}
use Rattle.mz_emit_bodies.specs.declared.body.Before.{Before}
use Rattle.mz_emit_bodies.specs.declared.body.Body.{Body}

-- what is to be written, with the expressions that are kept at first, from these hypotheses, of which so many are assumed;
-- gaps are let through or not
pub record Job : Type 0 where
  pub gaps : Bool
  pub store : Sharing
  pub hyps : List Tree
  pub count : ℕ
  pub whole : Written

-- the lets are linked, and their parts are sound
pub record CellsRight (gaps : Bool) (env : List Declaration) (ctx : List Binder) (hyps : List Tree) (cells : List Cell) : Type 0 where
  pub linked : AreRight (links cells)
  pub sound : (c : ℕ) → c < length cells → IsSound gaps env ctx hyps (in_sight (claims env hyps (parts cells)) (part_at (parts cells) c).outer) (part_at (parts cells) c).proof

-- the commands, one after another
abbrev pub spelled : List (ProofCode × ℕ) → List ℕ
spelled [] = []
spelled (c ∷ cs) = command_bytes c ++ spelled cs

-- the bytes are commands, which with what is written for the tasks are the whole; and the tasks can be done
pub record IsGoing (env : List Declaration) (o : Job) (s : Sharing) (vars : List Id) (places : List (Option ℕ)) (len : ℕ) (hyp_places : List ℕ) (cells : List Cell)
    (tasks : List Task) (bytes : List ℕ) : Type 0 where
  pub commands : List (ProofCode × ℕ)
  pub written : bytes ≡ spelled commands
  pub short : TakeFourBytes commands
  pub writing : IsWriting env s places len hyp_places cells tasks commands o.whole
  pub counted : length hyp_places ≡ o.count
  pub grew : Grows o.store s
  pub shared : IsShared (signatures env) s vars
  pub lets : CellsRight o.gaps env s.context o.hyps cells
  pub can : AllCanBeDone o.gaps env s.context o.hyps o.count s (parts cells) tasks

-- the declarations before a statement, and their words
abbrev pub IsAfter : Before → Type 0
IsAfter b = IsLegalEnv b.env.now × (signatures_of (map words_of_row b.table.now.terms.items) ≡ signatures b.env.now)

-- the body, which has these tasks to do and then its own
abbrev pub Does : Job → Body → List Task → Type 0
Does o b next = IsGoing b.before.env.now o b.shared.store b.shared.variables.items b.heap.places.items b.heap.len b.hyps.items b.cells.cells.items
    (next ++ to_do b.tasks.items) b.out.items

abbrev pub steps_left : Body → List Task → ℕ
steps_left b next = left b.before.env.now b.shared.store (parts b.cells.cells.items) (next ++ to_do b.tasks.items)

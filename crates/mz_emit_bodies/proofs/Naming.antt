-- A name, and what it stands for.
use Rattle.std.specs.Prelude.{ℕ, ◌≡◌, ◌<◌, ◌≤◌, ◌+◌, ◌^◌, List, ◌∷◌, ◌++◌, length, Option, Some, None}
use Rattle.std.proofs.Common.{sym, ap, ◌∙◌, arith}
use Rattle.mz_cmd.specs.declared.code.ProofCode.TheVariants as code
use Rattle.mz_logic_theory.specs.Tree.{Tree}
use Rattle.mz_logic_theory.specs.Declaration.{Declaration}
use Rattle.mz_store.specs.Sharing.{Sharing}
use Rattle.mz_store.specs.declared.item.Id.{Id}
use Rattle.mz_mmu_theory.specs.Proof.{by_name}
use Rattle.mz_emit_theory.specs.Steps.{command_bytes}
use Rattle.mz_emit_theory.specs.Claims.{proved}
use Rattle.mz_emit_theory.specs.Costs.{cost}
use Rattle.mz_emit_bodies.specs.Scopes.{in_sight}
use Rattle.mz_emit_bodies.specs.TaskInvariant.{Task, prove, save, let_costs, left}
use Rattle.mz_emit_bodies.specs.Sight.{Part, links, link_at, parts, part_at, place_at, InSight}
use Rattle.mz_emit_bodies.specs.Going.{Job, IsGoing}
use Rattle.mz_emit_bodies.specs.declared.let_scopes.Cell.{Cell}
use Rattle.mz_emit_bodies.proofs.Scoping.{long, named, outer_there, there_more, parts_long, links_long}
use Rattle.mz_emit_bodies.proofs.Moves.{at_last, replaced, given}
use Rattle.mz_emit_bodies.proofs.Writers.{saved_written, first_written}

module _ (env : List Declaration) (o : Job) (s : Sharing) (vars : List Id) (places : List (Option ℕ)) (len : ℕ) (hps : List ℕ) (cells : List Cell) (k c : ℕ) (us : List Task) (bs : List ℕ)
    (g : IsGoing env o s vars places len hps cells (prove (by_name k) (Some c) ∷ us) bs) where
  inside : c < length cells
  inside = (let l = parts_long cells in let t = g.can.0.1 in omega (arith, l, t))

  pub name_within : k ≤ (link_at (links cells) c).depth
  name_within = (let l = long Tree (λ n. proved env o.hyps) cells g.lets.linked c inside in let t = g.can.0.2 in omega (arith, l, t))

  module _ (d : ℕ) (sight : InSight (links cells) c k d) (d-lt : d < length (links cells)) where
    d-in : d < length cells
    d-in = (let l = links_long cells in omega (arith, l, d-lt))

    pub name_placed : (p : ℕ) (bs' : List ℕ) → place_at cells d ≡ Some p → bs' ≡ bs ++ command_bytes (code.Ref, p) → p < 2 ^ 32 → IsGoing env o s vars places len hps cells us bs'
    name_placed p bs' at is small = given env o s vars places len hps cells (prove (by_name k) (Some c) ∷ us) us bs bs' g code.Ref p is small g.can.1
        (saved_written env s places len hps cells g.writing.here g.writing.kept us k c d g.lets.linked inside sight p at)

    pub name_parts : (part : Part) (ts' : List Task) → place_at cells d ≡ None → part_at (parts cells) d ≡ part → ts' ≡ prove part.proof part.outer ∷ save d ∷ us → IsGoing env o s vars places len hps cells ts' bs
    name_parts part ts' none-yet part-is ts-is =
        let q : Part = part_at (parts cells) d in
        let l = parts_long cells in
        at_last env o s vars places len hps cells (prove q.proof q.outer ∷ save d ∷ us) ts' bs (ts-is ∙ ap (λ (z : Part). prove z.proof z.outer ∷ save d ∷ us) (sym part-is))
        (replaced env o s vars places len hps cells (prove (by_name k) (Some c) ∷ us) (prove q.proof q.outer ∷ save d ∷ us) bs g (
          (g.can.0.0, there_more d (length (parts cells)) q.outer (omega (arith, l, d-in)) (outer_there cells d g.lets.linked d-in), g.lets.sound d d-in),
          (omega (arith, l, d-in), g.can.1),
        )
        (first_written env s places len hps cells g.writing.here g.writing.kept us k c d g.lets.linked inside sight none-yet))

    pub name_cost : (part : Part) (ts' : List Task) → part_at (parts cells) d ≡ part → ts' ≡ prove part.proof part.outer ∷ save d ∷ us
        → left env s (parts cells) ts' < cost env (in_sight (let_costs env (parts cells)) (Some c)) (by_name k) + left env s (parts cells) us
    name_cost part ts' part-is ts-is =
        let a = ap (left env s (parts cells)) (ts-is ∙ ap (λ (z : Part). prove z.proof z.outer ∷ save d ∷ us) (sym part-is)) in
        let b = named ℕ (λ n. cost env) cells g.lets.linked c k d 0 inside sight in
        omega (arith, a, b)

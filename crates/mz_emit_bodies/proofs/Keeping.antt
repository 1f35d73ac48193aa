-- One item more in the heap: an expression that is made, a dummy where it is first needed, and a let's part that is saved.
use Rattle.std.specs.Prelude.{ℕ, ◌≡◌, ◌<◌, ◌+◌, ◌^◌, List, [], ◌∷◌, ◌++◌, length, Option, Some, None}
use Rattle.std.proofs.Common.{sym, ap, ◌∙◌, subst, arith}
use Rattle.std.proofs.lemmas.Option.{get_or_from_slice_get}
use Rattle.mz_cmd.specs.declared.code.ProofCode.{ProofCode}
use Rattle.mz_cmd.specs.declared.code.ProofCode.TheVariants as code
use Rattle.mz_logic_theory.specs.Tree.{Tree}
use Rattle.mz_logic_theory.specs.Declaration.{Declaration, signatures}
use Rattle.mz_logic_theory.specs.Sorts.{HasSort}
use Rattle.mz_logic_theory.specs.declared.binder.Binder.{Binder}
use Rattle.mz_store.specs.Sharing.{Sharing, IsIn, tree_of, head_of}
use Rattle.mz_store.specs.declared.item.Id.{Id}
use Rattle.mz_emit_theory.specs.BodyWriting.{expression, first_part, Writing, ◌>>◌, keeping}
use Rattle.mz_emit_theory.specs.Claims.{IsSound}
use Rattle.mz_emit_theory.specs.Steps.{command_bytes}
use Rattle.mz_emit_bodies.specs.Places.{place_of}
use Rattle.mz_emit_bodies.specs.Scopes.{in_sight}
use Rattle.mz_emit_bodies.specs.TaskInvariant.{Task, push, make, save, claims, AllCanBeDone}
use Rattle.mz_emit_bodies.specs.Sight.{Part, links, parts, part_at, place_at, AreRight}
use Rattle.mz_emit_bodies.specs.Going.{Job, CellsRight, IsGoing}
use Rattle.mz_emit_bodies.specs.Writers.{write_tasks, behind, IsKept}
use Rattle.mz_emit_bodies.specs.declared.let_scopes.Cell.{Cell}
use Rattle.mz_emit_bodies.proofs.Heaps.{expr_kept, part_kept}
use Rattle.mz_emit_bodies.proofs.Moves.{spelled_on, short_on}
use Rattle.mz_emit_bodies.proofs.Owned.{is_var}
use Rattle.mz_emit_bodies.proofs.Writers.{writing_on, dummy_written, made_written}

module _ (env : List Declaration) (o : Job) (s : Sharing) (vars : List Id) (places : List (Option ℕ)) (len : ℕ) (hps : List ℕ) (cells : List Cell) where
  -- a command, behind which this stands in the heap
  on : (ts us : List Task) (places' : List (Option ℕ)) (len' : ℕ) (cells' : List Cell) (bs bs' : List ℕ) (g : IsGoing env o s vars places len hps cells ts bs) (c : ProofCode) (v : ℕ) (w : Writing)
      → bs' ≡ bs ++ command_bytes (c, v) → v < 2 ^ 32 → IsKept s places' len' hps cells' w
      → write_tasks env s.context s (parts cells) ts g.writing.here ≡ behind ((c, v) ∷ []) (write_tasks env s.context s (parts cells') us w)
      → CellsRight o.gaps env s.context o.hyps cells' → AllCanBeDone o.gaps env s.context o.hyps o.count s (parts cells') us → IsGoing env o s vars places' len' hps cells' us bs'
  on ts us places' len' cells' bs bs' g c v w is small kept same lets can = record {
    commands = g.commands ++ (c, v) ∷ [];
    written = spelled_on bs bs' g.commands (c, v) g.written is;
    short = short_on g.commands (c, v) g.short small;
    writing = writing_on env s places len hps cells g.commands o.whole ts g.writing places' len' hps cells' us c v w kept same;
    counted = g.counted;
    grew = g.grew;
    shared = g.shared;
    lets = lets;
    can = can;
  }

  pub made : (i t : ℕ) (places' : List (Option ℕ)) (len' : ℕ) (us : List Task) (bs bs' : List ℕ) → ((j k : ℕ) → IsIn s j → IsIn s k → tree_of s j ≡ tree_of s k → j ≡ k) → Some t ≡ head_of (tree_of s i)
      → place_of places' i ≡ Some len → ((j : ℕ) → (j ≡ i → ⊥) → place_of places' j ≡ place_of places j) → len' ≡ len + 1 → bs' ≡ bs ++ command_bytes (code.TermSave, t) → t < 2 ^ 32
      → IsGoing env o s vars places len hps cells (make i ∷ us) bs → IsGoing env o s vars places' len' hps cells us bs'
  made i t places' len' us bs bs' once head at others len-is is small g =
      on (make i ∷ us) us places' len' cells bs bs' g code.TermSave t (record { heap = expression (tree_of s i) ∷ g.writing.here.heap; lets = g.writing.here.lets }) is small
      (expr_kept s places len hps cells g.writing.here g.writing.kept i len' places' once g.can.0.0 at others len-is)
      (made_written env s places len hps cells g.writing.here g.writing.kept us i t head) g.lets g.can.1

  pub dummy_made : (i sort : ℕ) (places' : List (Option ℕ)) (len' : ℕ) (us : List Task) (bs bs' : List ℕ)
      → ((j k : ℕ) → IsIn s j → IsIn s k → tree_of s j ≡ tree_of s k → j ≡ k) → head_of (tree_of s i) ≡ None → place_of places i ≡ None
      → HasSort (signatures env) s.context (tree_of s i) sort
      → place_of places' i ≡ Some len → ((j : ℕ) → (j ≡ i → ⊥) → place_of places' j ≡ place_of places j) → len' ≡ len + 1 → bs' ≡ bs ++ command_bytes (code.Dummy, sort) → sort < 2 ^ 32
      → IsGoing env o s vars places len hps cells (push i ∷ us) bs → IsGoing env o s vars places' len' hps cells us bs'
  dummy_made i sort places' len' us bs bs' once head fresh has at others len-is is small g =
      let v = is_var (tree_of s i) head in
      let h = subst (λ (e : Tree). HasSort (signatures env) s.context e sort) v.1 has in
      on (push i ∷ us) us places' len' cells bs bs' g code.Dummy sort (record { heap = expression (tree_of s i) ∷ g.writing.here.heap; lets = g.writing.here.lets }) is small
      (expr_kept s places len hps cells g.writing.here g.writing.kept i len' places' once g.can.0 at others len-is)
      (dummy_written env s places len hps cells g.writing.here g.writing.kept us once i g.can.0 fresh v.0 sort v.1 (ap (λ (b : Binder). b.sort) (get_or_from_slice_get s.context v.0 h.0 _ h.1) ∙ h.2))
      g.lets g.can.1

  pub saved : (c : ℕ) (cells' : List Cell) (places' : List (Option ℕ)) (len' : ℕ) (us : List Task) (bs bs' : List ℕ)
      → parts cells' ≡ parts cells → links cells' ≡ links cells → length cells' ≡ length cells
      → place_at cells' c ≡ Some len → ((d : ℕ) → (d ≡ c → ⊥) → place_at cells' d ≡ place_at cells d) → places' ≡ places → len' ≡ len + 1
      → bs' ≡ bs ++ command_bytes (code.Save, 0)
      → IsGoing env o s vars places len hps cells (save c ∷ us) bs → IsGoing env o s vars places' len' hps cells' us bs'
  saved c cells' places' len' us bs bs' parts-are links-are many at others places-are len-is is g =
      subst (λ (z : List (Option ℕ)). IsGoing env o s vars z len' hps cells' us bs') (sym places-are)
      (on (save c ∷ us) us places len' cells' bs bs' g code.Save 0 (record { heap = first_part c ∷ g.writing.here.heap; lets = g.writing.here.lets }) is (omega arith)
      (part_kept s places len hps cells g.writing.here g.writing.kept c len' cells' many at others len-is)
      (ap (λ (ps : List Part). (keeping code.Save 0 (first_part c) >> write_tasks env s.context s ps us) g.writing.here) (sym parts-are))
      (record {
        linked = subst AreRight (sym links-are) g.lets.linked;
        sound = λ d lt. subst (λ (ps : List Part). IsSound o.gaps env s.context o.hyps (in_sight (claims env o.hyps ps) (part_at ps d).outer) (part_at ps d).proof) (sym parts-are) (g.lets.sound d (omega (arith, lt, many)));
      })
      (subst (λ (ps : List Part). AllCanBeDone o.gaps env s.context o.hyps o.count s ps us) (sym parts-are) g.can.1))

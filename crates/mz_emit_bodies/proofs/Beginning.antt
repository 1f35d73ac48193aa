-- A body at its beginning.
use Rattle.std.specs.Prelude.{ℕ, ◌≡◌, ◌<◌, ◌^◌, List, [], ◌∷◌, length, map, Option, Some}
use Rattle.std.proofs.Common.{suc, refl, sym, ap, ◌∙◌, subst, arith}
use Rattle.mz_logic_theory.specs.Tree.{var}
use Rattle.mz_logic_theory.specs.Declaration.{Declaration}
use Rattle.mz_logic_theory.specs.declared.binder.Binder.{Binder}
use Rattle.mz_store.specs.Sharing.{Sharing, IsIn, Holds, tree_of}
use Rattle.mz_store.specs.declared.item.Id.{Id}
use Rattle.mz_machine_theory.specs.Profile.{expr}
use Rattle.mz_machine_theory.specs.Spells.{variables_from}
use Rattle.mz_emit_bodies.specs.Instances.{Grows}
use Rattle.mz_emit_bodies.specs.Places.{place_of}
use Rattle.mz_emit_bodies.specs.TaskInvariant.{to_do}
use Rattle.mz_emit_bodies.specs.Going.{Job, IsGoing}
use Rattle.mz_emit_bodies.specs.declared.let_scopes.Cell.{Cell}
use Rattle.mz_emit_bodies.specs.declared.work_list.Task.{Task as Coded}
use Rattle.mz_emit_bodies.specs.Stages.{HasDummiesBehind, Begins}
use Rattle.mz_emit_bodies.proofs.Heaps.{kept_at_first}
use Rattle.mz_emit_theory.specs.BodyWriting.{variables_below, at_first}
use Rattle.mz_emit_bodies.specs.Writers.{HasRoom, IsKept}
use Rattle.mz_emit_bodies.proofs.Counting.{params_room}
use Rattle.mz_emit_bodies.proofs.Making.{grows_self}
use Rattle.mz_emit_bodies.proofs.Owned.{variable_id}

pub heap_long : (j : ℕ) (ps : List Binder) → length (map expr (variables_from j ps)) ≡ length ps
heap_long j [] = refl
heap_long j (p ∷ ps) = ap suc (heap_long (suc j) ps)

module _ (env : List Declaration) (o : Job) (s : Sharing) (vars : List Id) (places : List (Option ℕ)) (n : ℕ)
    (once : (i j : ℕ) → IsIn s i → IsIn s j → tree_of s i ≡ tree_of s j → i ≡ j) (behind : HasDummiesBehind env n s vars) (begins : Begins o s n)
    (small : n < 2 ^ 32) (where_is : (i p : ℕ) → place_of places i ≡ Some p → (i ≡ p) × (p < n)) (all : (i : ℕ) → i < n → place_of places i ≡ Some i) where
  abbrev params : List Binder
  params = begins.2

  many : length params ≡ n
  many = begins.3

  -- the variable's id is its number
  variable_held : (x : ℕ) → x < n → Holds s x (var x)
  variable_held x lt =
      let k = variable_id s vars 0 s.context x behind.shared.inside behind.shared.trees (let m = behind.many in omega (arith, lt, m)) in
      let k-is : k.0.0 ≡ x = behind.shared.numbers x k.0 k.1 in
      (subst (λ (i : ℕ). IsIn s i) k-is k.2, sym (ap (tree_of s) k-is) ∙ k.3 ∙ ap var (omega arith))

  -- nothing is written
  begun : IsGoing env o s vars places n [] [] [] []
  begun = record {
    commands = [];
    written = refl;
    short = tt;
    writing = record {
      here = at_first params;
      kept = subst (λ (m : ℕ). IsKept s places n [] [] (record { heap = variables_below m; lets = 0 })) (sym many) (kept_at_first s places n variable_held where_is all);
      comes = sym begins.4;
      room = subst HasRoom (sym begins.4) (params_room params (let m = many in omega (arith, m, small)));
    };
    counted = sym begins.1;
    grew = subst (λ (z : Sharing). Grows z s) (sym begins.0) (grows_self s);
    shared = behind.shared;
    lets = record { linked = λ c lt. absurd (omega (arith, lt)); sound = λ c lt. absurd (omega (arith, lt)) };
    can = tt;
  }

  pub begun_as : (len : ℕ) (hps : List ℕ) (cells : List Cell) (ts : List Coded) (bs : List ℕ) → len ≡ n → hps ≡ [] → cells ≡ [] → ts ≡ [] → bs ≡ []
      → IsGoing env o s vars places len hps cells (to_do ts) bs × (ts ≡ [])
  begun_as len hps cells ts bs len-is hps-are cells-are ts-are bs-are = (
    subst (λ (z : ℕ). IsGoing env o s vars places z hps cells (to_do ts) bs) (sym len-is)
        (subst (λ (z : List ℕ). IsGoing env o s vars places n z cells (to_do ts) bs) (sym hps-are)
        (subst (λ (z : List Cell). IsGoing env o s vars places n [] z (to_do ts) bs) (sym cells-are)
        (subst (λ (z : List Coded). IsGoing env o s vars places n [] [] (to_do z) bs) (sym ts-are)
        (subst (λ (z : List ℕ). IsGoing env o s vars places n [] [] [] z) (sym bs-are) begun)))),
    ts-are,
  )

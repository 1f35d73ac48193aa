-- What a comparison answers of two bodies.
use Rattle.std.proofs.Common.{◌≡◌, ◌≤◌, ℕ, Bool, List, length, Option, Some, None, sym, ◌∙◌}
use Rattle.std.specs.Prelude.{IsTrue, ◌↔◌, is_some}
use Rattle.std.proofs.lemmas.Bool.{true≢false}
use Rattle.mz_logic_theory.specs.Tree.{Tree}
use Rattle.mz_spec_proved_theory.specs.AlphaTrees.{SameBody}
use Rattle.mz_match_rows.specs.declared.stream.Cursor.{Cursor}
use Rattle.mz_match_rows.specs.Comparison.{Answers}
use Rattle.mz_spec_proved_theory.specs.Comparison.{Beside, compared}
use Rattle.mz_spec_proved_theory.proofs.Offered.{SaysNothing, no-pairs, sound, complete}

pub same-body : (b : Beside) (ps qs : List (Option ℕ)) (e f : Tree) (o : Option Cursor) (to : Cursor) (r : Bool)
    → SaysNothing ps → length b.es ≤ length ps → r ≡ is_some o → Answers o qs (compared b ps e f) to → IsTrue r ↔ SameBody b.rows b.params b.ds b.es e f
same-body b ps qs e f (Some c) to r nothing room r-is (is, place) =
    let (good, up, same) = sound b ps qs e f (no-pairs b.ds b.es ps nothing) is in
    ((λ _. (qs, good, same)), λ _. r-is)
same-body b ps qs e f None to r nothing room r-is differ = (
  (λ yes-is. absurd (true≢false (sym yes-is ∙ r-is))),
  λ (rs, good, same).
      let (ts, is, up, many) = complete b rs good ps e f room (λ k p at. absurd (nothing k p at)) same in
      let both : None ≡ Some ts = sym differ ∙ is in
      absurd cc,
)

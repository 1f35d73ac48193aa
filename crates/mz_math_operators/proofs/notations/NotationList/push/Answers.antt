use Rattle.std.proofs.Common.{◌∙◌, ◌++◌, ◌∷◌, [], ℕ, List, Some, ap, sym, subst, Contains}
use Rattle.std.specs.Prelude.{bytes_eq, if◌then◌else◌}
use Rattle.mz_math_theory.specs.declared.notation.Notation.{Notation}
use Rattle.mz_math_operators.specs.Headed.{AreFound, AreLevelled, IsHeadedBy}
use Rattle.mz_lex.specs.Places.{LeadsTo, place_of}
use Rattle.mz_lex.proofs.Offered.{leads-kept, leads-more}
use Rattle.mz_math_operators.proofs.Spotting.{headed-one}
use Rattle.mz_math_operators.proofs.notations.NotationList.push.Goals as goal

pub invariant_of-self-in_err-push : goal.invariant_of-self-in_err-push
invariant_of-self-in_err-push c =
    let ks = c.self.inside.items.items in
    let head = c.in_ok-note_head.ensures.ok in (
      subst (LeadsTo IsHeadedBy c.note_head.new.heads) (sym c.in_err-push.ensures.items)
          (leads-kept IsHeadedBy c.self.inside.heads c.note_head.new.heads ks head.0 c.self.invariant.0
          (λ k has by. c.requires.other k head.0 (subst (λ (ls : List Notation). Contains ls k) c.self.view_is has) head.1 by)
          (λ w. head.2 w ∙ ap (λ n. if bytes_eq head.0 w then Some n else place_of c.self.inside.heads w) (c.len.ensures ∙ c.self.inside.items.ok.0))),
      subst (AreFound c.note_constants.new.constants) (c.deref.ensures.value ∙ sym c.in_err-push.ensures.items) c.note_constants.ensures.found,
      subst (AreLevelled c.note_level.new.levels) (c.deref-2.ensures.value ∙ sym c.in_err-push.ensures.items) c.note_level.ensures.found,
    )

pub invariant_of-self-2 : goal.invariant_of-self-2
invariant_of-self-2 c =
    let ks = c.self.inside.items.items in
    let head = c.in_ok-note_head.ensures.ok in (
      subst (LeadsTo IsHeadedBy c.note_head.new.heads) (sym c.in_ok-push.ensures.items)
          (leads-more IsHeadedBy c.self.inside.heads c.note_head.new.heads ks head.0 c.args.notation (λ w by. headed-one c.args.notation head.0 w head.1 by) c.self.invariant.0
          (λ k has by. c.requires.other k head.0 (subst (λ (ls : List Notation). Contains ls k) c.self.view_is has) head.1 by)
          (λ w. head.2 w ∙ ap (λ n. if bytes_eq head.0 w then Some n else place_of c.self.inside.heads w) (c.len.ensures ∙ c.self.inside.items.ok.0))),
      subst (AreFound c.note_constants.new.constants) (ap (λ ls. ls ++ c.args.notation ∷ []) c.deref.ensures.value ∙ sym c.in_ok-push.ensures.items) c.in_ok-note_constants.ensures.ok,
      subst (AreLevelled c.note_level.new.levels) (ap (λ ls. ls ++ c.args.notation ∷ []) c.deref-2.ensures.value ∙ sym c.in_ok-push.ensures.items) c.in_ok-note_level.ensures.ok,
    )

pub note_level-requires : goal.note_level-requires
note_level-requires c = subst (AreLevelled c.self.inside.levels) (sym c.deref-2.ensures.value) c.self.invariant.2

pub invariant_of-self-in_err-note_level : goal.invariant_of-self-in_err-note_level
invariant_of-self-in_err-note_level c = (
  c.self.invariant.0,
  subst (AreFound c.note_constants.new.constants) c.deref.ensures.value c.note_constants.ensures.found,
  subst (AreLevelled c.note_level.new.levels) c.deref-2.ensures.value c.note_level.ensures.found,
)

pub invariant_of-self-in_err-note_head : goal.invariant_of-self-in_err-note_head
invariant_of-self-in_err-note_head c = (
  subst (λ (hs : List (List ℕ × ℕ)). LeadsTo IsHeadedBy hs c.self.inside.items.items) (sym c.in_err-note_head.ensures.err) c.self.invariant.0,
  subst (AreFound c.note_constants.new.constants) c.deref.ensures.value c.note_constants.ensures.found,
  subst (AreLevelled c.note_level.new.levels) c.deref-2.ensures.value c.note_level.ensures.found,
)

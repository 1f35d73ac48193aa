use Rattle.std.proofs.Common.{◌≡◌, ◌-◌, ◌∙◌, length, Some, None, slice_get, option_copied, ap, subst, sym}
use Rattle.mz_logic_theory.proofs.Grouped.{final-none, final-read, long}
use Rattle.mz_logic_theory.proofs.hyps.Hyps.len.Goals as goal

pub returns-in-None : goal.returns-in-None
returns-in-None c =
    let ends = c.self.inside.ends.items in
    let at = subst (λ xs. slice_get xs (length xs - 1) ≡ None) c.deref.ensures.value (sym c.last.ensures.value ∙ ap option_copied c.in-None.is) in
    sym (long c.self.inside.formulas c.args.self.now ends c.self.view_is c.self.invariant ∙ final-none 0 ends at)

pub returns-in-Some : goal.returns-in-Some
returns-in-Some c =
    let ends = c.self.inside.ends.items in
    let end = c.in-Some.end.now in
    let at = subst (λ xs. slice_get xs (length xs - 1) ≡ Some end) c.deref.ensures.value (sym c.last.ensures.value ∙ ap option_copied c.in-Some.is) in
    sym (long c.self.inside.formulas c.args.self.now ends c.self.view_is c.self.invariant ∙ final-read 0 end ends at)

use Rattle.std.proofs.Common.{◌≡◌, ◌≤◌, ◌∙◌, List, Option, ℕ, length, sym, ap, subst, unwrap_or}
use Rattle.mz_match_rows.specs.declared.stream.Cursor.{Cursor}
use Rattle.mz_match_rows.specs.Streams.{step_at, IsMade}
use Rattle.mz_match_rows.proofs.Compared.{said-within, said-mark, mark-made, made-said}
use Rattle.mz_match_rows.proofs.expression.made_at.Goals as goal

pub step_at-requires-clause-within : goal.step_at-requires-clause-within
step_at-requires-clause-within c =
    let (m, f, to, stream, said) = c.requires in
    subst (λ (xs : List ℕ). c.args.at ≤ length xs) (sym c.file.ensures.file) (said-within c.args.sides.now.mmb.now c.args.sides.now.params m c.args.at 0 f to.at to.dummies said)

pub returns-in_default : goal.returns-in_default
returns-in_default c = λ m f to stream said. (to, said)

pub returns-then-not-is_ref : goal.returns-then-not-is_ref
returns-then-not-is_ref c = λ m f to stream said. (to, said)

pub returns-then-step-sides : goal.returns-then-step-sides
returns-then-step-sides c = λ m f to stream said. (to, said)

pub place_of-requires-clause-stream : goal.place_of-requires-clause-stream
place_of-requires-clause-stream c = let (m, f, to, stream, said) = c.requires in (m, stream)

pub returns : goal.returns
returns c = λ m f to stream said.
    let file = c.args.sides.now.mmb.now in
    let params = c.args.sides.now.params in
    let stands = ap (λ (xs : List ℕ). step_at xs c.args.at) (sym c.file.ensures.file) ∙ sym c.in-Some.ensures in
    let (at, next, same) = said-mark file params m c.args.at 0 f to.at to.dummies c.in-Some.step stands (c.is_ref.ensures.0 c.if-not-is_ref.false) said in
    let made = mark-made file params m c.args.sides.now.start c.in-Some.step.value f stream.marks c.if-step-sides.false at in
    let here : Cursor = record { at = c.args.at; dummies = 0 } in
    let found = c.place_of.ensures made.many made.place made.found in
    let place : made.place ≡ c.unwrap_or.result = sym (c.unwrap_or.ensures ∙ ap (λ (o : Option Cursor). unwrap_or o here) found) in
    let there = subst (λ (p : Cursor). IsMade file params m p.at p.dummies f made.end.at made.end.dummies) place made.made in
    (made.end, made-said file params m c.unwrap_or.result.at c.unwrap_or.result.dummies f made.end.at made.end.dummies there)

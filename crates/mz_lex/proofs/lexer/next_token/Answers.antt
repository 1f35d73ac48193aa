use Rattle.std.proofs.Common.{ℕ, subst, Ok, Err, Some, None}
use Rattle.mz_lex.specs.Lexemes.{IsBlank, lexeme}
use Rattle.mz_lex.specs.declared.token.LexFault.TheVariants as faults
use Rattle.mz_lex.proofs.Lexing.{fault-place, first-of, goes-after, one-next, spans-in-order}
use Rattle.mz_lex.proofs.lexer.next_token.Goals as goal

pub returns-in-Err-clause-only : goal.returns-in-Err-clause-only
returns-in-Err-clause-only c answer comes = one-next c.args.text.now c.args.pos answer (Err (faults.Char c.in-Err.place)) comes c.in-Err.ensures.fault

pub returns-in-Err-clause-first : goal.returns-in-Err-clause-first
returns-in-Err-clause-first c ls ending lexes = first-of c.args.text.now c.args.pos ls ending (Err (faults.Char c.in-Err.place)) c.in-Err.ensures.fault lexes

pub returns-in-Err-clause-place : goal.returns-in-Err-clause-place
returns-in-Err-clause-place c = fault-place c.args.text.now c.args.pos (faults.Char c.in-Err.place) c.in-Err.ensures.fault

pub returns-then-at-text-clause-only : goal.returns-then-at-text-clause-only
returns-then-at-text-clause-only c answer comes =
    let P : ℕ → Type 0 = λ i. IsBlank c.args.text.now c.args.pos i in
    one-next c.args.text.now c.args.pos answer (Ok None) comes (subst P c.if-at-text.true c.in-Ok.ensures.blank)

pub returns-then-at-text-clause-first : goal.returns-then-at-text-clause-first
returns-then-at-text-clause-first c ls ending lexes =
    let P : ℕ → Type 0 = λ i. IsBlank c.args.text.now c.args.pos i in
    first-of c.args.text.now c.args.pos ls ending (Ok None) (subst P c.if-at-text.true c.in-Ok.ensures.blank) lexes

pub returns-in-Ok-token_at-clause-only : goal.returns-in-Ok-token_at-clause-only
returns-in-Ok-token_at-clause-only c answer comes = one-next c.args.text.now c.args.pos answer (Ok (Some c.in-Ok-token_at.token)) comes c.in-Ok-token_at.ensures.next

pub returns-in-Ok-token_at-clause-first : goal.returns-in-Ok-token_at-clause-first
returns-in-Ok-token_at-clause-first c ls ending lexes = first-of c.args.text.now c.args.pos ls ending (Ok (Some c.in-Ok-token_at.token)) c.in-Ok-token_at.ensures.next lexes

pub returns-in-Ok-token_at-clause-span : goal.returns-in-Ok-token_at-clause-span
returns-in-Ok-token_at-clause-span c = spans-in-order c.args.text.now c.args.pos (lexeme c.args.text.now c.in-Ok-token_at.token) c.in-Ok-token_at.ensures.next

pub returns-in-Err-token_at-clause-only : goal.returns-in-Err-token_at-clause-only
returns-in-Err-token_at-clause-only c answer comes = one-next c.args.text.now c.args.pos answer (Err c.in-Err-token_at.fault) comes c.in-Err-token_at.ensures.fault

pub returns-in-Err-token_at-clause-first : goal.returns-in-Err-token_at-clause-first
returns-in-Err-token_at-clause-first c ls ending lexes = first-of c.args.text.now c.args.pos ls ending (Err c.in-Err-token_at.fault) c.in-Err-token_at.ensures.fault lexes

pub returns-in-Err-token_at-clause-place : goal.returns-in-Err-token_at-clause-place
returns-in-Err-token_at-clause-place c = fault-place c.args.text.now c.args.pos c.in-Err-token_at.fault c.in-Err-token_at.ensures.fault

pub returns-in-Err-clause-after : goal.returns-in-Err-clause-after
returns-in-Err-clause-after c from before lexes = goes-after c.args.text.now from c.args.pos before (Err (faults.Char c.in-Err.place)) c.in-Err.ensures.fault lexes

pub returns-then-at-text-clause-after : goal.returns-then-at-text-clause-after
returns-then-at-text-clause-after c from before lexes =
    let P : ℕ → Type 0 = λ i. IsBlank c.args.text.now c.args.pos i in
    goes-after c.args.text.now from c.args.pos before (Ok None) (subst P c.if-at-text.true c.in-Ok.ensures.blank) lexes

pub returns-in-Ok-token_at-clause-after : goal.returns-in-Ok-token_at-clause-after
returns-in-Ok-token_at-clause-after c from before lexes = goes-after c.args.text.now from c.args.pos before (Ok (Some c.in-Ok-token_at.token)) c.in-Ok-token_at.ensures.next lexes

pub returns-in-Err-token_at-clause-after : goal.returns-in-Err-token_at-clause-after
returns-in-Err-token_at-clause-after c from before lexes = goes-after c.args.text.now from c.args.pos before (Err c.in-Err-token_at.fault) c.in-Err-token_at.ensures.fault lexes

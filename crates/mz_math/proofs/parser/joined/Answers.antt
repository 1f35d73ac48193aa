use Rattle.std.proofs.Common.{◌∙◌, ◌+◌, not, ap, refl, sym, subst, drop}
use Rattle.std.specs.Prelude.{option_map}
use Rattle.std.proofs.lemmas.Bool.{true≢false}
use Rattle.mz_logic_theory.specs.Tree.{more, none, followed_by}
use Rattle.mz_logic_theory.specs.View.{tree}
use Rattle.mz_math_theory.specs.Grammar.{items, last_level, notated_tree}
use Rattle.mz_math_theory.specs.Reading.{NotJoined}
use Rattle.mz_math.specs.Steps.{IsUnderWay}
use Rattle.mz_math.proofs.Waiting.{highest-unjoined, infix-under-way, joins-none, joins-some}
use Rattle.mz_math_theory.proofs.Offered.{not-infix, low-infix, begun-read, joined-stuck}
use Rattle.mz_math.proofs.parser.joined.Goals as goal

pub returns-then-level-eq-MAX-clause-says : goal.returns-then-level-eq-MAX-clause-says
returns-then-level-eq-MAX-clause-says c = λ ws from right next begun.
    let here = drop c.args.before.next c.args.tokens.now in
    begun-read ws right c.args.level from here _ _ _ begun (subst (λ n. NotJoined ws n here) (sym c.if-level-eq-MAX.true) (highest-unjoined ws right here))

pub returns-in-None-clause-says : goal.returns-in-None-clause-says
returns-in-None-clause-says c = λ ws from right next begun.
    let here = drop c.args.before.next c.args.tokens.now in
    begun-read ws right c.args.level from here _ _ _ begun (subst (NotJoined ws c.args.level) (sym c.in-None.ensures.token) tt)

pub returns-in-None-joining-clause-says : goal.returns-in-None-joining-clause-says
returns-in-None-joining-clause-says c = λ ws from right next begun.
    let here = drop c.args.before.next c.args.tokens.now in
    let rest = drop (c.args.before.next + 1) c.args.tokens.now in
    begun-read ws right c.args.level from here _ _ _ begun
    (not-infix ws right c.args.level here rest c.in-Some.token.now c.in-Some.ensures.token
    (joins-none ws here c.in-Some.token.now rest _ (next c.if-level-eq-MAX.false) (ap (option_map (λ k. k.now)) c.in-None-joining.is) c.in-Some.ensures.token))

pub returns-then-notation-level-clause-says : goal.returns-then-notation-level-clause-says
returns-then-notation-level-clause-says c = λ ws from right next begun.
    let here = drop c.args.before.next c.args.tokens.now in
    let rest = drop (c.args.before.next + 1) c.args.tokens.now in
    let found = joins-some ws here c.in-Some.token.now rest _ c.in-Some-joining.notation.now (next c.if-level-eq-MAX.false) (ap (option_map (λ k. k.now)) c.in-Some-joining.is) c.in-Some.ensures.token in
    begun-read ws right c.args.level from here _ _ _ begun
    (low-infix ws right c.args.level here rest c.in-Some.token.now c.in-Some-joining.notation.now c.in-Some.ensures.token found.0 found.1 c.if-notation-level.true)

pub returns-then-not-can_lead-clause-says : goal.returns-then-not-can_lead-clause-says
returns-then-not-can_lead-clause-says c = λ ws from right next begun.
    let here = drop c.args.before.next c.args.tokens.now in
    let rest = drop (c.args.before.next + 1) c.args.tokens.now in
    let found = joins-some ws here c.in-Some.token.now rest _ c.in-Some-joining.notation.now (next c.if-level-eq-MAX.false) (ap (option_map (λ k. k.now)) c.in-Some-joining.is) c.in-Some.ensures.token in
    joined-stuck ws right c.args.level from here rest _ c.args.before.level c.args.before.is_left c.in-Some-joining.notation.now c.in-Some.token.now begun
    c.in-Some.ensures.token found.0 found.1 c.if-notation-level.false (λ may. true≢false (sym (c.can_lead.ensures.1 may) ∙ c.if-not-can_lead.true))

pub returns-clause-says : goal.returns-clause-says
returns-clause-says c = λ ws from right next begun.
    let here = drop c.args.before.next c.args.tokens.now in
    let rest = drop (c.args.before.next + 1) c.args.tokens.now in
    let first = tree c.args.before.tree in
    let found = joins-some ws here c.in-Some.token.now rest _ c.in-Some-joining.notation.now (next c.if-level-eq-MAX.false) (ap (option_map (λ k. k.now)) c.in-Some-joining.is) c.in-Some.ensures.token in
    let k = c.in-Some-joining.notation.now in (
      refl,
      subst (λ es. IsUnderWay ws c.args.level from rest (items (drop 2 k.elements) (last_level k)) es (notated_tree k) k.level (not k.is_right))
          (sym (c.in-Ok-push.ensures.ok ∙ ap (λ es. followed_by es (more first none)) c.in-Ok.ensures))
          (infix-under-way ws right c.args.level from here rest first c.args.before.level c.args.before.is_left k c.in-Some.token.now begun
          c.in-Some.ensures.token found.0 found.1 c.if-notation-level.false (c.can_lead.ensures.0 c.if-not-can_lead.false)),
    )

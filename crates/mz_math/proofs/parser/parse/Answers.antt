use Rattle.std.proofs.Common.{◌∙◌, ap, drop, sym, refl, subst, length, arith}
use Rattle.std.proofs.lemmas.List.{append-nil, nil_from_length}
use Rattle.mz_base.proofs.Offered.{drop-past, nil-cons}
use Rattle.mz_math.specs.Steps.{Says, turns}
use Rattle.mz_math_theory.proofs.Offered.{never-read}
use Rattle.mz_math.proofs.Waiting.{Nested, inner-read, inner-fewer, goes-on, goes-back, back-fewer, none-read, whole-read}
use Rattle.mz_math.proofs.parser.parse.Goals as goal

pub reading-init : goal.reading-init
reading-init c = (
  (
    c.args.tokens.now,
    0,
    subst (λ os. Nested c.args.words.now c.args.tokens.now 0 os c.args.tokens.now 0) (sym c.new-outers.ensures.items) (refl, refl),
    c.begin-step.ensures.says,
  ),
  λ w rest is. absurd (nil-cons (sym (ap (λ n. drop n c.args.tokens.now) c.len.ensures ∙ drop-past c.args.tokens.now (length c.args.tokens.now) (omega arith)) ∙ is)),
)

pub reading-preserved-in-Inner : goal.reading-preserved-in-Inner
reading-preserved-in-Inner c = (
  inner-read c.args.words.now c.requires.readable c.args.tokens.now c.reading.outers.items c.reading.step c.begin-step-in-Inner.result
      c.push.new.self.items c.in-Inner.outer c.in-Inner.level c.in-Inner.at c.in-Ok.ensures.items c.in-Inner.is c.begin-step-in-Inner.ensures.says c.reading.invariant.0,
  c.reading.invariant.1,
)

pub reading-smaller-in-Inner : goal.reading-smaller-in-Inner
reading-smaller-in-Inner c =
    inner-fewer c.args.words.now c.requires.readable c.args.tokens.now c.reading.outers.items c.reading.step c.begin-step-in-Inner.result (length c.args.tokens.now) c.push.new.self.items
    c.in-Inner.outer c.in-Inner.level c.in-Inner.at c.in-Ok.ensures.items c.in-Inner.is c.begin-step-in-Inner.ensures.less

pub reading-preserved-in-Parts : goal.reading-preserved-in-Parts
reading-preserved-in-Parts c =
    let ws = c.args.words.now in
    let ts = c.args.tokens.now in
    let next = c.next_part-step.result in (
      goes-on ws c.requires.readable ts c.reading.outers.items c.reading.step next
          (λ from level says. let here = subst (Says ws ts from level) c.in-Parts.is says in subst (λ l. Says ws ts from l next) here.0 (c.next_part-step.ensures.says ws from c.requires.readable here.1))
          c.reading.invariant.0,
      c.reading.invariant.1,
    )

pub reading-smaller-in-Parts : goal.reading-smaller-in-Parts
reading-smaller-in-Parts c = let now = ap (turns (length c.args.tokens.now)) c.in-Parts.is in let less = c.next_part-step.ensures.less in omega (arith, now, less)

pub reading-preserved-in-Begun : goal.reading-preserved-in-Begun
reading-preserved-in-Begun c =
    let ws = c.args.words.now in
    let ts = c.args.tokens.now in
    let next = c.joined-step.result in (
      goes-on ws c.requires.readable ts c.reading.outers.items c.reading.step next
          (λ from level says.
          let here = subst (Says ws ts from level) c.in-Begun.is says in
          subst (λ l. Says ws ts from l next) here.0 (c.joined-step.ensures.says ws from c.requires.readable c.ahead_at-ahead.ensures.next here.1)) c.reading.invariant.0,
      c.ahead_at-ahead.ensures.known,
    )

pub reading-smaller-in-Begun : goal.reading-smaller-in-Begun
reading-smaller-in-Begun c = let now = ap (turns (length c.args.tokens.now)) c.in-Begun.is in let less = c.joined-step.ensures.less in omega (arith, now, less)

pub reading-preserved : goal.reading-preserved
reading-preserved c = (
  goes-back c.args.words.now c.requires.readable c.args.tokens.now c.pop.new.self.items c.reading.step c.back-step.result c.reading.outers.items c.in-Some.outer c.in-Whole.found
      c.in-Some.ensures.items c.in-Whole.is (λ from here level waits read. c.back-step.ensures.says c.args.words.now from here level c.requires.readable waits read) c.reading.invariant.0,
  c.reading.invariant.1,
)

pub reading-smaller : goal.reading-smaller
reading-smaller c =
    back-fewer c.args.words.now c.requires.readable c.args.tokens.now c.pop.new.self.items c.reading.step c.back-step.result (length c.args.tokens.now)
    c.reading.outers.items c.in-Some.outer c.in-Whole.found c.in-Some.ensures.items c.in-Whole.is c.back-step.ensures.less

pub returns-in-None-clause-tree : goal.returns-in-None-clause-tree
returns-in-None-clause-tree c =
    let rest = c.pop.new.self in
    let none = c.in-None.ensures.cases.1 in
    let empty = c.in-None.ensures.items ∙ append-nil rest.items ∙ nil_from_length rest.items (omega (arith, none, rest.ok.0)) in
    c.all_read.ensures.tree c.args.words.now c.requires.readable
    (whole-read c.args.words.now c.requires.readable c.args.tokens.now c.reading.outers.items c.reading.step c.reading.step c.in-Whole.found empty c.in-Whole.is c.reading.invariant.0)

pub returns-in-None-clause-no : goal.returns-in-None-clause-no
returns-in-None-clause-no c =
    let rest = c.pop.new.self in
    let none = c.in-None.ensures.cases.1 in
    let empty = c.in-None.ensures.items ∙ append-nil rest.items ∙ nil_from_length rest.items (omega (arith, none, rest.ok.0)) in
    c.all_read.ensures.no c.args.words.now c.requires.readable
    (whole-read c.args.words.now c.requires.readable c.args.tokens.now c.reading.outers.items c.reading.step c.reading.step c.in-Whole.found empty c.in-Whole.is c.reading.invariant.0)

pub returns-in-No-clause-no : goal.returns-in-No-clause-no
returns-in-No-clause-no c = never-read c.args.words.now c.requires.readable c.args.tokens.now
    (none-read c.args.words.now c.requires.readable c.args.tokens.now c.reading.outers.items c.reading.step c.reading.step c.in-No.is c.reading.invariant.0)

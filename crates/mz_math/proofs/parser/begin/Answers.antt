use Rattle.std.proofs.Common.{◌≡◌, ◌∙◌, ◌+◌, ◌-◌, [], false, refl, sym, subst, drop, arith}
use Rattle.std.proofs.lemmas.Bool.{true≢false}
use Rattle.mz_math_theory.specs.Grammar.{items, notated_tree, operands_at_max, head_level, applied}
use Rattle.mz_logic_theory.specs.Tree.{app, none}
use Rattle.mz_math_theory.specs.Notation.{max_level}
use Rattle.mz_math_theory.specs.Reading.{IsBegun, NoReading}
use Rattle.mz_math.specs.Steps.{IsUnderWay}
use Rattle.mz_math.proofs.Waiting.{leading-under-way, applied-under-way}
use Rattle.mz_math_theory.proofs.Offered.{no-tokens, variable-begun, none-begins}
use Rattle.mz_math.proofs.parser.begin.Goals as goal

pub returns-in-None-clause-says : goal.returns-in-None-clause-says
returns-in-None-clause-says c =
    subst (NoReading c.args.words.now c.args.level) (sym c.in-None.ensures.token) (no-tokens c.args.words.now c.requires.readable c.args.level)

pub returns-in-Some-variable-clause-says : goal.returns-in-Some-variable-clause-says
returns-in-Some-variable-clause-says c =
    let found = c.in-Some-variable.ensures in (
      refl,
      subst (λ e. IsBegun c.args.words.now c.args.level (drop c.args.at c.args.tokens.now) (drop (c.args.at + 1) c.args.tokens.now) e max_level false) (sym c.var.ensures)
          (variable-begun c.args.words.now c.requires.readable c.args.level (drop c.args.at c.args.tokens.now) (drop (c.args.at + 1) c.args.tokens.now) c.in-Some.token.now c.in-Some-variable.place
          (omega (arith, c.ranges.level.fits)) c.in-Some.ensures.token found.0 found.1),
    )

pub returns-clause-says : goal.returns-clause-says
returns-clause-says c =
    none-begins c.args.words.now c.requires.readable c.args.level (drop c.args.at c.args.tokens.now) (drop (c.args.at + 1) c.args.tokens.now) c.in-Some.token.now c.in-Some.ensures.token
    c.in_default.ensures c.in_default-leading.ensures c.in_default-term.ensures (λ e. true≢false (sym (c.is_open.ensures.1 e) ∙ c.if-is_open.false))

pub returns-in-Some-leading-clause-says : goal.returns-in-Some-leading-clause-says
returns-in-Some-leading-clause-says c =
    let k = c.in-Some-leading.notation.now in
    let found = c.in-Some-leading.ensures in (
      refl,
      subst (λ es. IsUnderWay c.args.words.now c.args.level (drop c.args.at c.args.tokens.now) (drop (c.args.at + 1) c.args.tokens.now) (items (drop 1 k.elements) k.level) es (notated_tree k) k.level false) (sym c.new.ensures)
          (leading-under-way c.args.words.now c.requires.readable c.args.level (drop c.args.at c.args.tokens.now) (drop (c.args.at + 1) c.args.tokens.now) k c.in-Some.token.now
          c.in-Some.ensures.token found.0 found.1 c.in_default.ensures),
    )

pub returns-in-Some-term-clause-says : goal.returns-in-Some-term-clause-says
returns-in-Some-term-clause-says c =
    let ws = c.args.words.now in
    let from = drop c.args.at c.args.tokens.now in
    let here = drop (c.args.at + 1) c.args.tokens.now in
    let t = c.in-Some-term.term in
    let n = c.in-Some-term.many in
    let all : n ≡ n - 0 = omega arith in (
      refl,
      subst (λ es. IsUnderWay ws c.args.level from here (operands_at_max (n - 0)) es (app t) (head_level (applied [] 0 n)) false) (sym c.in-Ok.ensures)
          (subst (λ m. IsUnderWay ws c.args.level from here (operands_at_max m) none (app t) (head_level (applied [] 0 n)) false) all
          (applied-under-way ws c.requires.readable c.args.level from here c.in-Some.token.now t n c.in-Some.ensures.token c.in-Some-term.ensures c.in_default.ensures c.in_default-leading.ensures)),
    )

use Rattle.std.proofs.Common.{◌≡◌, ◌<◌, false, length, sym, ◌∙◌, arith}
use Rattle.mz_logic_theory.specs.Words.{word_bound, word_sort}
use Rattle.mz_layout_tables.specs.RowWords.{first_sorts}
use Rattle.mz_layout_tables.proofs.FirstSorts.{length-first_sorts}
use Rattle.mz_layout_tables.proofs.ParamWords.{regular-to, regular-from}
use Rattle.mz_layout_tables.proofs.word.is_param.Goals as goal

pub returns-else-bound : goal.returns-else-bound
returns-else-bound c =
    let ss = first_sorts c.args.mmb.now c.args.sorts in
    let many : length ss ≡ c.args.sorts = length-first_sorts c.args.mmb.now c.args.sorts c.requires.sorts in
    let there : word_sort c.args.word < length ss = omega (arith, many, c.if-sort-sorts.false, c.sort.ensures) in
    let reg : word_bound c.args.word ≡ false = sym c.bound.ensures ∙ c.if-bound.false in (
      λ t. regular-to ss c.args.bound c.args.word reg there (c.has_bits_below.ensures.0 t),
      λ h. c.has_bits_below.ensures.1 (regular-from ss c.args.bound c.args.word reg h),
    )

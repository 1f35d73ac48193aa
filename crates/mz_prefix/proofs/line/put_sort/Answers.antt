use Rattle.std.specs.Prelude.{codes}
use Rattle.std.proofs.Common.{◌++◌, ◌∙◌, sym, ap}
use Rattle.mz_prefix.proofs.LineTexts.{pure_text, strict_text, provable_text, free_text, sort-line, seven-parts}
use Rattle.mz_prefix.proofs.line.put_sort.Goals as goal

pub returns : goal.returns
returns c = λ v.
    let m = c.args.mods in
    seven-parts c.args.out.now.items _ _ _ _ _ _ _ (pure_text m) (strict_text m) (provable_text m) (free_text m) (codes "sort ") c.args.name.now (codes ";\n")
    c.in_ok-put_modifier.ensures c.in_ok-put_modifier-2.ensures c.in_ok-put_modifier-3.ensures c.in_ok-put_modifier-4.ensures
    c.in_ok-put.ensures c.in_ok-put-2.ensures c.in_ok-put-3.ensures
    ∙ sym (ap (λ t. c.args.out.now.items ++ t) (sort-line m v c.args.name.now))

use Rattle.std.proofs.Common.{◌++◌, ◌∙◌, sym, ap}
use Rattle.mz_prefix.specs.Lines.{type_words}
use Rattle.mz_prefix.specs.Tokens.{written}
use Rattle.mz_prefix.specs.NamedDeclarations.{plain_type}
use Rattle.mz_prefix.specs.Names.{spoken}
use Rattle.mz_prefix.proofs.Parts.{param-is, six-parts}
use Rattle.mz_prefix.proofs.names.Names.put_param.Goals as goal

pub returns : goal.returns
returns c =
    let v = spoken c.args.self.now in
    six-parts _ _ _ _ _ _ _ (v.variable c.args.x) (written (type_words (plain_type v c.args.param.now.sort c.args.param.now.deps))) c.opening.result c.closing.result
    c.in_ok-push.ensures.items c.in_ok-push-2.ensures.items c.in_ok-put_variable.ensures c.in_ok-push-3.ensures.items (c.in_ok-put_type.ensures ∙ ap (λ ds. c.push-3.new.self.items ++ written (type_words (plain_type v c.args.param.now.sort ds))) c.as_slice.ensures) c.in_ok-push-4.ensures.items
    ∙ sym (ap (λ w. c.args.out.now.items ++ w) (param-is v c.args.x c.args.param.now c.opening.result c.closing.result c.opening.ensures c.closing.ensures))

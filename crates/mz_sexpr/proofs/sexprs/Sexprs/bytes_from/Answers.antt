use Rattle.std.proofs.Common.{arith, sym, ap, ◌∙◌, drop}
use Rattle.std.specs.Prelude.{is_some, take_while}
use Rattle.mz_sexpr.specs.Node.{is_atom, word}
use Rattle.mz_sexpr.specs.Grammar.{is_letter}
use Rattle.mz_sexpr.specs.Rows.{all_ends, word_from}
use Rattle.mz_sexpr.proofs.Accessors.{in_rows, node_of_row, atom_of, word_of}
use Rattle.mz_sexpr.proofs.sexprs.Sexprs.bytes_from.Goals as goal

pub index-requires : goal.index-requires
index-requires c =
    let h = in_rows c.self.inside.text.now c.self.inside.rows.items (all_ends c.self.inside.rows.items c.self.inside.ends.items) c.args.self.now c.self.view_is c.self.invariant c.args.n c.requires in
    omega (arith, c.self.inside.rows.ok.0)

pub returns-clause-begins : goal.returns-clause-begins
returns-clause-begins c =
    let k = node_of_row c.self.inside.text.now c.self.inside.rows.items (all_ends c.self.inside.rows.items c.self.inside.ends.items) c.args.self.now c.self.view_is c.self.invariant c.args.n c.requires c.index.result.now c.index.ensures in
    ap (λ bs. is_some (word_from bs)) c.bytes_from.ensures ∙ sym (ap is_atom k ∙ atom_of c.index.result.now.at _ _)

pub returns-clause-word : goal.returns-clause-word
returns-clause-word c = λ atom.
    let k = node_of_row c.self.inside.text.now c.self.inside.rows.items (all_ends c.self.inside.rows.items c.self.inside.ends.items) c.args.self.now c.self.view_is c.self.invariant c.args.n c.requires c.index.result.now c.index.ensures in
    ap (take_while is_letter) c.bytes_from.ensures ∙ word_of c.index.result.now.at (drop c.index.result.now.at c.self.inside.text.now) _ (sym (ap is_atom k) ∙ atom) ∙ sym (ap word k)

use Rattle.std.proofs.Common.{◌≡◌, ◌∙◌, ◌≤◌, ℕ, List, ap, sym, subst, length, All}
use Rattle.mz_logic_theory.specs.View.{tree}
use Rattle.mz_logic_theory.specs.Declaration.{signatures}
use Rattle.mz_lex.specs.MathTokens.{MathTokens, token_texts}
use Rattle.mz_lex.specs.declared.tokens.Delimiters.{Delimiters}
use Rattle.mz_lex.specs.declared.tokens.MathToken.{MathToken}
use Rattle.mz_math_theory.specs.FormulaAnswers.{IsTreeOfFew}
use Rattle.mz_math_theory.specs.Grammar.{Words, Exp}
use Rattle.mz_math_theory.specs.Readable.{IsReadable}
use Rattle.mz_math_theory.specs.Formula.{Reader, words, most}
use Rattle.mz_math_theory.specs.declared.syntax.Syntax.TheVariants as syntax
use Rattle.mz_lex.proofs.Offered.{math_tokens-within}
use Rattle.mz_math_theory.proofs.Offered.{table-readable, known-all, read-known}
use Rattle.mz_math.proofs.formula.parse_formula.Goals as goal

pub new-tokens-requires : goal.new-tokens-requires
new-tokens-requires c =
    subst (λ (ps : List MathToken). All (λ (p : MathToken). (p.from ≤ p.to) × (p.to ≤ length c.args.text.now)) ps) (sym c.deref.ensures.value)
    (math_tokens-within c.delimiters.result.now c.args.text.now 0 c.in-Ok.pieces.items c.in-Ok.ensures)

pub parse_few-requires : goal.parse_few-requires
parse_few-requires c =
    subst IsReadable (sym c.new-words.ensures) (table-readable c.args.notations.now (signatures c.args.env.now) c.args.scope.now.names c.delimiters.ensures.table c.binders.ensures.names)

pub unread-requires-clause-within : goal.unread-requires-clause-within
unread-requires-clause-within c =
    subst (λ (ps : List MathToken). All (λ (p : MathToken). (p.from ≤ p.to) × (p.to ≤ length c.args.text.now)) ps) (sym c.deref-in-No.ensures.value)
    (math_tokens-within c.delimiters.result.now c.args.text.now 0 c.in-Ok.pieces.items c.in-Ok.ensures)

pub unread-requires-clause-no_tree : goal.unread-requires-clause-no_tree
unread-requires-clause-no_tree c =
    subst (λ (ts : List (List ℕ)). IsTreeOfFew c.new-words.result ts syntax.No)
    (c.new-tokens.ensures ∙ ap (token_texts c.args.text.now) (c.deref.ensures.value ∙ sym c.deref-in-No.ensures.value)) c.in-No.ensures.tree

pub returns-in-No : goal.returns-in-No
returns-in-No c =
    let r : Reader = record { env = c.args.env.now; table = c.args.notations.now; scope = c.args.scope.now } in
    let items = c.in-Ok.pieces.items in
    let pieces : MathTokens c.args.notations.now.delimiters c.args.text.now items = subst (λ (d : Delimiters). MathTokens d c.args.text.now items) c.delimiters.ensures.delimiters c.in-Ok.ensures in
    c.unread.ensures r c.args.wanted (sym c.new-words.ensures) (subst (MathTokens c.args.notations.now.delimiters c.args.text.now) (sym c.deref-in-No.ensures.value) pieces)

pub returns : goal.returns
returns c =
    let r : Reader = record { env = c.args.env.now; table = c.args.notations.now; scope = c.args.scope.now } in
    let text = c.args.text.now in
    let items = c.in-Ok.pieces.items in
    let pieces : MathTokens c.args.notations.now.delimiters text items = subst (λ (d : Delimiters). MathTokens d text items) c.delimiters.ensures.delimiters c.in-Ok.ensures in
    let tokens : c.new-tokens.result ≡ token_texts text items = c.new-tokens.ensures ∙ ap (token_texts text) c.deref.ensures.value in
    let read : (length (token_texts text items) ≤ most) × Exp c.new-words.result 0 (tree c.in-Tree.tree) (token_texts text items) =
    subst (λ (ts : List (List ℕ)). (length ts ≤ most) × Exp c.new-words.result 0 (tree c.in-Tree.tree) ts) tokens c.in-Tree.ensures.tree in
    let exp : Exp (words r) 0 (tree c.in-Tree.tree) (token_texts text items) = subst (λ (ws : Words). Exp ws 0 (tree c.in-Tree.tree) (token_texts text items)) c.new-words.ensures read.1 in
    known-all r c.args.wanted text items pieces (read-known (words r) text items 0 (tree c.in-Tree.tree) exp) c.meaning_of.result (c.meaning_of.ensures (token_texts text items) read.0 exp)

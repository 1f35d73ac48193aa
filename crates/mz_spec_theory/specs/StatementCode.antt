-- What the code's lexemes and statements stand for.
use Rattle.std.specs.Prelude.{map, option_map}
use Rattle.mz_lex.specs.Lexemes.{Lexeme}
use Rattle.mz_spec_theory.specs.declared.lexeme.Lexeme.{Lexeme as LexemeRead}
use Rattle.mz_spec_theory.specs.declared.statement.Modifiers.{Modifiers as ModifiersRead}
use Rattle.mz_spec_theory.specs.declared.statement.TypeText.{TypeText as TypeRead}
use Rattle.mz_spec_theory.specs.declared.statement.Source.{Source as SourceRead}
use Rattle.mz_spec_theory.specs.declared.statement.Source.TheVariants as sources
use Rattle.mz_spec_theory.specs.declared.statement.NameText.{NameText as NameRead}
use Rattle.mz_spec_theory.specs.declared.statement.Group.{Group as GroupRead}
use Rattle.mz_spec_theory.specs.declared.statement.Head.{Head as HeadRead}
use Rattle.mz_spec_theory.specs.declared.statement.Level.{Level as LevelRead}
use Rattle.mz_spec_theory.specs.declared.statement.Level.TheVariants as levels
use Rattle.mz_spec_theory.specs.declared.statement.LiteralText.{LiteralText as LiteralRead}
use Rattle.mz_spec_theory.specs.declared.statement.LiteralText.TheVariants as literals
use Rattle.mz_spec_theory.specs.declared.statement.TailText.{TailText as TailRead}
use Rattle.mz_spec_theory.specs.declared.statement.TermText.{TermText}
use Rattle.mz_spec_theory.specs.declared.statement.AssertText.{AssertText}
use Rattle.mz_spec_theory.specs.declared.statement.DefinitionText.{DefinitionText}
use Rattle.mz_spec_theory.specs.declared.statement.OperatorText.{OperatorText}
use Rattle.mz_spec_theory.specs.declared.statement.CoercionText.{CoercionText}
use Rattle.mz_spec_theory.specs.declared.statement.DelimiterText.{DelimiterText}
use Rattle.mz_spec_theory.specs.declared.statement.NotationText.{NotationText}
use Rattle.mz_spec_theory.specs.declared.statement.SyntaxStatement.{SyntaxStatement as StatementRead}
use Rattle.mz_spec_theory.specs.declared.statement.SyntaxStatement.TheVariants as statements
use Rattle.mz_spec_theory.specs.Statement.{Modifiers, TypeText, Source, type_source, formula_source, NameText, Group, Head, Level, number_level, level_max, LiteralText, constant_literal, name_literal, TailText, SpecStatement, sort_statement, term_statement, assert_statement, definition_statement, operator_statement, coercion_statement, delimiter_statement, notation_statement}

abbrev pub lexeme : LexemeRead → Lexeme
lexeme l = record { kind = l.kind; text = l.bytes.now; from = l.from; to = l.to }

abbrev pub modifiers : ModifiersRead → Modifiers
modifiers m = record { is_pure = m.is_pure; is_strict = m.is_strict; is_provable = m.is_provable; is_free = m.is_free }

abbrev pub type_text : TypeRead → TypeText
type_text t = record { sort = lexeme t.sort; deps = map lexeme t.deps.items }

abbrev pub source : SourceRead → Source
source (sources.Type t) = type_source (type_text t)
source (sources.Formula f) = formula_source (lexeme f)

abbrev pub name_text : NameRead → NameText
name_text n = record { is_dummy = n.is_dummy; name = lexeme n.name }

abbrev pub group : GroupRead → Group
group g = record { is_bound = g.is_bound; names = map name_text g.names.items; source = source g.source }

abbrev pub head : HeadRead → Head
head h = record { name = lexeme h.name; groups = map group h.groups.items }

abbrev pub level : LevelRead → Level
level (levels.Number l) = number_level (lexeme l)
level levels.Max = level_max

abbrev pub literal : LiteralRead → LiteralText
literal (literals.Constant c l) = constant_literal (lexeme c) (level l)
literal (literals.Name n) = name_literal (lexeme n)

abbrev pub tail : TailRead → TailText
tail t = record { level = level t.level; is_right = t.is_right }

abbrev pub term : TermText → SpecStatement
term t = term_statement (head t.head) (map type_text t.arguments.items) (type_text t.result)

abbrev pub assertion : AssertText → SpecStatement
assertion a = assert_statement a.kind (head a.head) (map source a.premises.items) (lexeme a.conclusion)

abbrev pub definition : DefinitionText → SpecStatement
definition d = definition_statement (head d.head) (type_text d.result) (option_map lexeme d.body)

abbrev pub operator : OperatorText → SpecStatement
operator o = operator_statement o.fixity (lexeme o.name) (lexeme o.constant) (level o.level)

abbrev pub coercion : CoercionText → SpecStatement
coercion c = coercion_statement (lexeme c.name) (lexeme c.from) (lexeme c.to)

abbrev pub delimiter : DelimiterText → SpecStatement
delimiter d = delimiter_statement (lexeme d.left) (option_map lexeme d.right)

abbrev pub notation : NotationText → SpecStatement
notation n = notation_statement (head n.head) (type_text n.result) (map literal n.literals.items) (literal n.last) (option_map tail n.tail)

abbrev pub statement : StatementRead → SpecStatement
statement (statements.Sort m name) = sort_statement (modifiers m) (lexeme name)
statement (statements.Term t) = term t
statement (statements.Assert a) = assertion a
statement (statements.Definition d) = definition d
statement (statements.Operator o) = operator o
statement (statements.Coercion c) = coercion c
statement (statements.Delimiter d) = delimiter d
statement (statements.Notation n) = notation n

-- Small cases of the promise's definitions, worked out, each beside a neighbour that fails.
use Rattle.std.proofs.Common.{Bool, true, false, [], ◌∷◌, refl, arith}
use Rattle.std.specs.Prelude.{codes}
use Rattle.mz_lex.specs.declared.token.TokenKind.TheVariants as lexemes
use Rattle.mz_lex.specs.Lexemes.{Lexeme}
use Rattle.mz_logic_theory.specs.Tree.{var, none}
use Rattle.mz_logic_theory.specs.Declaration.{Declaration, sort_decl, term_decl, assertion_decl, plain_form, abstract_form, defined}
use Rattle.mz_logic_theory.specs.LegalLists.{Statement}
use Rattle.mz_math_theory.specs.Notation.{empty_table}
use Rattle.mz_spec_theory.specs.Statement.{SpecStatement, sort_statement, level_max, number_level}
use Rattle.mz_spec_proved_theory.specs.Declares.{IsFormOf, DeclareAfter}
use Rattle.mz_spec_proved_theory.specs.NotationTexts.{IsPrecedence}
use Rattle.mz_spec_proved_theory.specs.Specifies.{Adds}
use Rattle.mz_spec_proved_theory.specs.Theory.{Theory, no_theory}
use Rattle.mz_spec_proved_theory.specs.WellFormed.{IsWellFormed, MayStand}

-- ---- `provable sort wff;`

abbrev wff : Lexeme
wff = record { kind = lexemes.Name; text = codes "wff"; from = 14; to = 17 }

abbrev wff_statement : SpecStatement
wff_statement = sort_statement (record { is_pure = false; is_strict = false; is_provable = true; is_free = false }) wff

abbrev wff_theory : Theory
wff_theory = record { sort_names = codes "wff" ∷ []; term_names = []; assertion_names = []; env = sort_decl (record { 0 = 4 }) ∷ []; table = empty_table }

wff-is-added : Adds no_theory wff_statement wff_theory
wff-is-added = (refl, refl)

wff-is-there : (τ : Theory) → Adds wff_theory wff_statement τ → ⊥
wff-is-there τ (new, _) = cc

-- ---- well formed

-- a term's result is of a sort that is there
no-sort : IsWellFormed [] (term_decl (record { signature = record { params = []; result = record { sort = 0; deps = [] } }; form = plain_form })) → ⊥
no-sort (_, (m, at, _), _, _) = cc

-- a theorem may be local, and an axiom may not
abbrev says : (is_axiom : Bool) → Declaration
says is_axiom = assertion_decl (record { is_axiom = is_axiom; params = []; hyps = none; conclusion = var 0 })

local-theorem : MayStand true (says false)
local-theorem = λ is. refl

no-local-axiom : MayStand true (says true) → ⊥
no-local-axiom stands = let is = stands refl in cc

-- ---- declared

-- a definition that is left open may have any body, and may not be a term
any-body : IsFormOf [] 1 abstract_form (defined [] (var 0))
any-body = λ is. cc

no-term : IsFormOf [] 1 abstract_form plain_form → ⊥
no-term is = is refl

abbrev public_sort : Statement
public_sort = record { is_local = false; decl = sort_decl (record { 0 = 4 }) }

abbrev local_lemma : Statement
local_lemma = record { is_local = true; decl = says false }

-- a local statement is nothing that is declared
local-skipped : DeclareAfter [] (sort_decl (record { 0 = 4 }) ∷ []) (public_sort ∷ local_lemma ∷ [])
local-skipped = (sort_decl (record { 0 = 4 }), [], refl, refl, refl)

nothing-missing : DeclareAfter [] (sort_decl (record { 0 = 4 }) ∷ []) (local_lemma ∷ []) → ⊥
nothing-missing is = cc

-- ---- precedences

ten : IsPrecedence (number_level (record wff { kind = lexemes.Number; text = codes "10" })) 10
ten = (refl, omega arith)

above-all : IsPrecedence level_max 4294967295
above-all = refl

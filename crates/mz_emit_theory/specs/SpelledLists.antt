-- The list that a compiled file spells: a text's list with each definition's dummies in the order in which they are met.
use Rattle.std.specs.Prelude.{List, map}
use Rattle.mz_logic_theory.specs.Declaration.{Form, plain_form, abstract_form, defined, Declaration, sort_decl, term_decl, assertion_decl}
use Rattle.mz_logic_theory.specs.Legality.{IsLegalEnv}
use Rattle.mz_logic_theory.specs.LegalLists.{Statement, declarations}
use Rattle.mz_logic_theory.specs.declared.binder.Binder.{Binder}
use Rattle.mz_emit_theory.specs.AlphaLists.{IsSameList}
use Rattle.mz_emit_theory.specs.StreamWriting.{body_spelled, dummies_spelled}

abbrev pub form_spelled : List Binder → Form → Form
form_spelled params plain_form = plain_form
form_spelled params abstract_form = abstract_form
form_spelled params (defined dummies body) = defined (dummies_spelled params dummies body) (body_spelled params dummies body)

abbrev pub decl_spelled : Declaration → Declaration
decl_spelled (sort_decl m) = sort_decl m
decl_spelled (term_decl d) = term_decl (record d { form = form_spelled d.signature.params d.form })
decl_spelled (assertion_decl a) = assertion_decl a

abbrev pub statement_spelled : Statement → Statement
statement_spelled s = record s { decl = decl_spelled s.decl }

abbrev pub list_spelled : List Statement → List Statement
list_spelled ss = map statement_spelled ss

-- of a legal list it is the same list
abbrev pub SpelledListsAreSame : Type 0
SpelledListsAreSame = (ss : List Statement) → IsLegalEnv (declarations ss) → IsSameList ss (list_spelled ss)

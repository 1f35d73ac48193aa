-- What the code's declarations stand for.
use Rattle.std.specs.Prelude.{Bool, true, false}
use Rattle.mz_logic_theory.specs.Signature.{Signature}
use Rattle.mz_logic_theory.specs.Declaration.{Term, Form, plain_form, abstract_form, defined, Assertion, Declaration, sort_decl, term_decl, assertion_decl}
use Rattle.mz_logic_theory.specs.View.{tree}
use Rattle.mz_logic_theory.specs.declared.decl.TermForm.{TermForm}
use Rattle.mz_logic_theory.specs.declared.decl.TermForm.TheVariants.{Plain, Abstract, Body}
use Rattle.mz_logic_theory.specs.declared.decl.TermDecl.{TermDecl}
use Rattle.mz_logic_theory.specs.declared.decl.ThmDecl.{ThmDecl}
use Rattle.mz_logic_theory.specs.declared.decl.ThmForm.{ThmForm}
use Rattle.mz_logic_theory.specs.declared.decl.ThmForm.TheVariants.{Axiom, Theorem}
use Rattle.mz_logic_theory.specs.declared.decl.Decl.{Decl}
use Rattle.mz_logic_theory.specs.declared.decl.Decl.TheVariants.{Sort, Term as ATerm, Thm}

abbrev pub is_axiom : ThmForm → Bool
is_axiom Axiom = true
is_axiom Theorem = false

abbrev pub form : TermForm → Form
form Plain = plain_form
form Abstract = abstract_form
form (Body dummies body) = defined dummies (tree body)

abbrev pub signature : TermDecl → Signature
signature d = record { params = d.params; result = d.result }

abbrev pub term_view : TermDecl → Term
term_view d = record { signature = signature d; form = form d.form }

abbrev pub assertion_view : ThmDecl → Assertion
assertion_view d = record { is_axiom = is_axiom d.form; params = d.params; hyps = d.hyps; conclusion = tree d.conclusion }

abbrev pub term_of : TermDecl → Declaration
term_of d = term_decl (term_view d)

abbrev pub assertion_of : ThmDecl → Declaration
assertion_of d = assertion_decl (assertion_view d)

abbrev pub declaration : Decl → Declaration
declaration (Sort m) = sort_decl m
declaration (ATerm d) = term_of d
declaration (Thm d) = assertion_of d

use Rattle.std.specs.Prelude.{OnOk}
use Rattle.std.proofs.Common.{◌≡◌, ◌++◌, ◌∙◌, sym, ap, subst}
use Rattle.mz_logic_theory.specs.DeclView.{signature, form}
use Rattle.mz_logic_theory.specs.Declaration.{defined, term_decl}
use Rattle.mz_logic_theory.specs.View.{tree}
use Rattle.mz_prefix.specs.Lines.{line_text}
use Rattle.mz_prefix.specs.NamedDeclarations.{term_line_of}
use Rattle.mz_prefix.specs.Names.{spoken}
use Rattle.mz_prefix.specs.Writing.{told}
use Rattle.mz_prefix.proofs.LineTexts.{told-plain, told-abstract, told-hidden, told-defined}
use Rattle.mz_prefix.proofs.names.Names.put_term.Goals as goal

pub returns-in-Plain : goal.returns-in-Plain
returns-in-Plain c =
    let sig = signature c.args.term.now in
    subst (λ t. OnOk c.put_bare.result (c.put_bare.new.out.items ≡ c.args.out.now.items ++ t))
    (sym (ap (λ f. told c.args.self.now c.args.name.now (term_decl (record { signature = sig; form = form f }))) c.in-Plain.is ∙ told-plain c.args.self.now c.args.name.now sig))
    c.put_bare.ensures

pub returns-in-Abstract : goal.returns-in-Abstract
returns-in-Abstract c =
    let sig = signature c.args.term.now in
    subst (λ t. OnOk c.put_bare-in-Abstract.result (c.put_bare-in-Abstract.new.out.items ≡ c.args.out.now.items ++ t))
    (sym (ap (λ f. told c.args.self.now c.args.name.now (term_decl (record { signature = sig; form = form f }))) c.in-Abstract.is ∙ told-abstract c.args.self.now c.args.name.now sig))
    c.put_bare-in-Abstract.ensures

pub returns-then-is_hidden : goal.returns-then-is_hidden
returns-then-is_hidden c =
    let sig = signature c.args.term.now in
    let hidden = sym c.is_hidden.ensures ∙ c.if-is_hidden.true in
    subst (λ t. OnOk c.put_bare-then-is_hidden.result (c.put_bare-then-is_hidden.new.out.items ≡ c.args.out.now.items ++ t))
    (sym (ap (λ f. told c.args.self.now c.args.name.now (term_decl (record { signature = sig; form = form f }))) c.in-Body.is
    ∙ told-hidden c.args.self.now c.args.name.now sig c.in-Body.dummies (tree c.in-Body.body) hidden))
    c.put_bare-then-is_hidden.ensures

pub returns-else-is_hidden : goal.returns-else-is_hidden
returns-else-is_hidden c =
    let sig = signature c.args.term.now in
    let shown = sym c.is_hidden.ensures ∙ c.if-is_hidden.false in
    subst (λ t. OnOk c.put_definition.result (c.put_definition.new.out.items ≡ c.args.out.now.items ++ t))
    (ap (λ ds. line_text (term_line_of (spoken c.args.self.now) c.args.name.now sig (defined ds (tree c.in-Body.body)))) c.as_slice.ensures
    ∙ sym (ap (λ f. told c.args.self.now c.args.name.now (term_decl (record { signature = sig; form = form f }))) c.in-Body.is
    ∙ told-defined c.args.self.now c.args.name.now sig c.in-Body.dummies (tree c.in-Body.body) shown))
    c.put_definition.ensures

use Rattle.std.proofs.Common.{refl, inl, inr}
use Rattle.std.proofs.lemmas.Result.{IfOk-weaker}
use Rattle.mz_decompile.proofs.Standing.{sort-row, term-there, thm-there, sort-parts, term-parts, axiom-parts, theorem-parts}
use Rattle.mz_decompile.proofs.statement.put_parts.Goals as goal

pub put_sort-requires : goal.put_sort-requires
put_sort-requires c =
    let s = c.requires in
    sort-row c.args.mmb.now c.args.names.now c.args.before s.0 c.args.head s.1 s.2 c.in-Sort.is

pub put_term-requires-clause-row : goal.put_term-requires-clause-row
put_term-requires-clause-row c =
    let s = c.requires in
    (term-there c.args.mmb.now c.args.names.now c.args.before s.0 c.args.head s.1 s.2 c.in-Term.is).0

pub put_term-requires-clause-spells : goal.put_term-requires-clause-spells
put_term-requires-clause-spells c =
    let s = c.requires in
    (term-there c.args.mmb.now c.args.names.now c.args.before s.0 c.args.head s.1 s.2 c.in-Term.is).1

pub put_axiom-requires-clause-row : goal.put_axiom-requires-clause-row
put_axiom-requires-clause-row c =
    let s = c.requires in
    (thm-there c.args.mmb.now c.args.names.now c.args.before s.0 c.args.head s.1 s.2 (inl c.in-Axiom.is)).0

pub put_axiom-requires-clause-spells : goal.put_axiom-requires-clause-spells
put_axiom-requires-clause-spells c =
    let s = c.requires in
    (thm-there c.args.mmb.now c.args.names.now c.args.before s.0 c.args.head s.1 s.2 (inl c.in-Axiom.is)).1

pub put_theorem-requires-clause-row : goal.put_theorem-requires-clause-row
put_theorem-requires-clause-row c =
    let s = c.requires in
    (thm-there c.args.mmb.now c.args.names.now c.args.before s.0 c.args.head s.1 s.2 (inr c.in-Theorem.is)).0

pub put_theorem-requires-clause-spells : goal.put_theorem-requires-clause-spells
put_theorem-requires-clause-spells c =
    let s = c.requires in
    (thm-there c.args.mmb.now c.args.names.now c.args.before s.0 c.args.head s.1 s.2 (inr c.in-Theorem.is)).1

pub put_theorem-requires-clause-makes : goal.put_theorem-requires-clause-makes
put_theorem-requires-clause-makes c =
    let s = c.requires in
    (thm-there c.args.mmb.now c.args.names.now c.args.before s.0 c.args.head s.1 s.2 (inr c.in-Theorem.is)).2 c.in-Theorem.is

pub returns-in_ok-put_sort-in-Sort : goal.returns-in_ok-put_sort-in-Sort
returns-in_ok-put_sort-in-Sort c env t stands =
    sort-parts c.args.mmb.now c.args.names.now c.args.before env c.args.head t stands c.args.phrases.now c.put_sort.new.phrases c.args.parts.now.items c.put_sort.new.parts.items 1
    c.in-Sort.is c.in_ok-put_sort-in-Sort.ensures refl

pub returns-in-Term : goal.returns-in-Term
returns-in-Term c =
    IfOk-weaker c.put_term.result _ _
    (λ weight told env t stands. term-parts c.args.mmb.now c.args.names.now c.args.before env c.args.head t stands c.args.phrases.now c.put_term.new.phrases c.args.parts.now.items
    c.put_term.new.parts.items
    weight c.in-Term.is told)
    c.put_term.ensures

pub returns-in-Axiom : goal.returns-in-Axiom
returns-in-Axiom c =
    IfOk-weaker c.put_axiom.result _ _
    (λ weight told env t stands. axiom-parts c.args.mmb.now c.args.names.now c.args.before env c.args.head t stands c.args.phrases.now c.put_axiom.new.phrases c.args.parts.now.items
    c.put_axiom.new.parts.items
    weight c.in-Axiom.is told)
    c.put_axiom.ensures

pub returns-in-Theorem : goal.returns-in-Theorem
returns-in-Theorem c =
    IfOk-weaker c.put_theorem.result _ _
    (λ weight told env t stands. theorem-parts c.args.mmb.now c.args.names.now c.args.before env c.args.head t stands c.args.phrases.now c.put_theorem.new.phrases c.args.parts.now.items
    c.put_theorem.new.parts.items
    weight c.in-Theorem.is (λ sigs d dummies p. told env sigs d dummies p))
    c.put_theorem.ensures

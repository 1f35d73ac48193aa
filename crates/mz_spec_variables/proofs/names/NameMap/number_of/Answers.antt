use Rattle.std.proofs.Common.{◌≡◌, ◌∙◌, ◌+◌, Some, None, length, map, ap, refl, sym}
use Rattle.std.proofs.lemmas.List.{length-map}
use Rattle.mz_base.specs.Names.{number_of}
use Rattle.mz_base.proofs.Offered.{first-place, number-both, or_later, tells-each}
use Rattle.mz_spec_variables.proofs.names.NameMap.number_of.Goals as goal

pub returns-in-Some-clause-number : goal.returns-in-Some-clause-number
returns-in-Some-clause-number c =
    let w = c.args.name.now in
    let first = map (λ name. name.now) c.self.inside.first.items in
    let others = map (λ name. name.now) c.self.inside.others.keys in
    let here : Some c.in-Some.number ≡ number_of first w = c.in-Some.ensures.number ∙ ap (λ xs. number_of (map (λ name. name.now) xs) w) c.deref.ensures.value in
    ap (λ o. or_later o (length first) (number_of others w)) here ∙ sym (number-both first others w) ∙ ap (λ names. number_of names w) c.self.view_is

pub returns-in-Some-get_index_of-clause-number : goal.returns-in-Some-get_index_of-clause-number
returns-in-Some-get_index_of-clause-number c =
    let w = c.args.name.now in
    let first = map (λ name. name.now) c.self.inside.first.items in
    let others = map (λ name. name.now) c.self.inside.others.keys in
    let none : None ≡ number_of first w = c.in-None.ensures.number ∙ ap (λ xs. number_of (map (λ name. name.now) xs) w) c.deref.ensures.value in
    let number : Some c.in-Some-get_index_of.number ≡ number_of others w = c.in-Some-get_index_of.ensures.index ∙ first-place (λ name. name.now) w _ c.self.inside.others.keys (tells-each _ w _ (λ k. refl) c.self.inside.others.keys) in
    let before : c.len-before.result ≡ length first = c.len-before.ensures ∙ c.self.inside.first.ok.0 ∙ sym (length-map c.self.inside.first.items (λ name. name.now)) in
    ap (λ n. Some (n + c.in-Some-get_index_of.number)) before ∙ ap (or_later None (length first)) number
    ∙ ap (λ o. or_later o (length first) (number_of others w)) none ∙ sym (number-both first others w) ∙ ap (λ names. number_of names w) c.self.view_is

pub returns-in-None-get_index_of-clause-number : goal.returns-in-None-get_index_of-clause-number
returns-in-None-get_index_of-clause-number c =
    let w = c.args.name.now in
    let first = map (λ name. name.now) c.self.inside.first.items in
    let others = map (λ name. name.now) c.self.inside.others.keys in
    let none : None ≡ number_of first w = c.in-None.ensures.number ∙ ap (λ xs. number_of (map (λ name. name.now) xs) w) c.deref.ensures.value in
    let number : None ≡ number_of others w = c.in-None-get_index_of.ensures.index ∙ first-place (λ name. name.now) w _ c.self.inside.others.keys (tells-each _ w _ (λ k. refl) c.self.inside.others.keys) in
    ap (or_later None (length first)) number ∙ ap (λ o. or_later o (length first) (number_of others w)) none ∙ sym (number-both first others w) ∙ ap (λ names. number_of names w) c.self.view_is

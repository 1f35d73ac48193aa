use Rattle.std.proofs.Common.{ℕ, ◌∷◌, [], ◌∙◌, sym, ap, subst, map, take, get_or}
use Rattle.std.proofs.lemmas.List.{take_all, take_more, map-append}
use Rattle.mz_decompile_text.specs.Phrases.{a_word}
use Rattle.mz_decompile_text.specs.Naming.{vocabulary_by}
use Rattle.mz_decompile_text.specs.Growing.{Adds}
use Rattle.mz_decompile_text.proofs.LongerProofs.{adds-none, adds-one, adds-on}
use Rattle.mz_decompile_text.proofs.parts.put_variables.Goals as goal

pub variables-init : goal.variables-init
variables-init c = adds-none c.args.phrases.now c.args.parts.now.items c.requires

pub variables-preserved : goal.variables-preserved
variables-preserved c =
    let f = λ (x : ℕ). a_word ((vocabulary_by c.args.names.now).variable x) in
    let xs = c.args.variables.now in
    let i = c.variables.x-index in
    let x = get_or xs i 0 in
    let a = c.args.phrases.now in
    let b = c.variables.phrases in
    let d = c.variable.new.phrases in
    let one = adds-one b d c.variables.parts.items c.push.new.self.items (f x) c.in_ok-n.n c.in_ok-n.ensures c.in_ok-push.ensures.items c.variables.invariant.there in
    let all = adds-on a b d c.args.parts.now.items c.variables.parts.items c.push.new.self.items (map f (take i xs)) (f x ∷ []) c.variables.invariant one in
    subst (Adds a d c.args.parts.now.items c.push.new.self.items)
    (sym (ap (map f) (take_more xs i 0 c.variables-test.true) ∙ map-append f (take i xs) (x ∷ []))) all

pub returns : goal.returns
returns c =
    let f = λ (x : ℕ). a_word ((vocabulary_by c.args.names.now).variable x) in
    subst (λ xs. Adds c.args.phrases.now c.variables.phrases c.args.parts.now.items c.variables.parts.items (map f xs))
    (take_all c.variables.x-index c.args.variables.now c.variables-test.false) c.variables.invariant

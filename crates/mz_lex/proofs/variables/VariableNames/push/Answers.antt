use Rattle.std.proofs.Common.{◌++◌, ◌∙◌, ◌∷◌, ℕ, List, [], ap, sym, subst, Contains}
use Rattle.mz_lex.specs.Names.{AreFoundBeyond}
use Rattle.mz_lex.proofs.Placing.{found-front}
use Rattle.mz_lex.proofs.variables.VariableNames.push.Goals as goal

pub invariant_of-self : goal.invariant_of-self
invariant_of-self c =
    let keys = c.note.new.places in
    subst (AreFoundBeyond 8 keys) c.deref.ensures.value (c.in_err-note.ensures.err (subst (AreFoundBeyond 8 c.self.inside.places) (sym c.deref.ensures.value) c.self.invariant))

pub invariant_of-self-in_err-push : goal.invariant_of-self-in_err-push
invariant_of-self-in_err-push c =
    let keys = c.note.new.places in
    let name = c.args.name.now in
    let whole =
    c.in_ok-note.ensures.ok (λ some has. c.requires some (subst (λ (ns : List (List ℕ)). Contains ns name) (c.deref.ensures.value ∙ c.self.view_is) has))
    (subst (AreFoundBeyond 8 c.self.inside.places) (sym c.deref.ensures.value) c.self.invariant) in
    subst (AreFoundBeyond 8 keys) (c.deref.ensures.value ∙ sym c.in_err-push.ensures.items) (found-front 8 keys c.deref.result.now (name ∷ []) whole)

pub invariant_of-self-2 : goal.invariant_of-self-2
invariant_of-self-2 c =
    let keys = c.note.new.places in
    let name = c.args.name.now in
    let whole =
    c.in_ok-note.ensures.ok (λ some has. c.requires some (subst (λ (ns : List (List ℕ)). Contains ns name) (c.deref.ensures.value ∙ c.self.view_is) has))
    (subst (AreFoundBeyond 8 c.self.inside.places) (sym c.deref.ensures.value) c.self.invariant) in
    subst (AreFoundBeyond 8 keys)
    (ap (λ ns. ns ++ name ∷ []) c.deref.ensures.value ∙ sym (c.in_ok-push.ensures.items ∙ ap (λ n. c.self.inside.items.items ++ n ∷ []) c.in_ok-copy.ensures)) whole

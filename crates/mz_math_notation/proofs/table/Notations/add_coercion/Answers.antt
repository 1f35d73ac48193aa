use Rattle.std.proofs.Common.{◌≡◌, ◌++◌, ◌∷◌, [], ◌∙◌, List, ap, sym, subst, refl, inl, inr}
use Rattle.std.proofs.lemmas.Bool.{MatchBool-at_true, MatchBool-at_false}
use Rattle.mz_math_theory.specs.Notation.{Table, with_coercion}
use Rattle.mz_math_theory.specs.declared.coercion.Coercion.{Coercion}
use Rattle.mz_math_theory.specs.Coercions.{OnePath}
use Rattle.mz_math_theory.specs.Kept.{IsTable}
use Rattle.mz_math_theory.proofs.Offered.{coercion-is}
use Rattle.mz_math_notation.proofs.table.Notations.add_coercion.Goals as goal

pub invariant_of-self-then-not-added : goal.invariant_of-self-then-not-added
invariant_of-self-then-not-added c =
    let v : Table = record { delimiters = c.self.inside.delimiters; leading = c.self.inside.leading; infixes = c.self.inside.infixes; names = c.self.inside.names; coercions = c.self.inside.coercions } in
    let k : Coercion = record { term = c.args.term; from = c.args.from; to = c.args.to } in
    let P : Type 0 = OnePath (c.self.inside.coercions ++ k ∷ []) × (c.add.new.self ≡ c.self.inside.coercions ++ k ∷ []) in
    let Q : Type 0 = (OnePath (c.self.inside.coercions ++ k ∷ []) → ⊥) × (c.add.new.self ≡ c.self.inside.coercions) in
    let not : Q = MatchBool-at_false P Q c.if-not-added.true c.in-Ok.ensures.ok in
    subst (λ (cs : List Coercion). IsTable (record v { coercions = cs })) (sym not.1) c.self.invariant

pub returns-then-not-added-clause-answer : goal.returns-then-not-added-clause-answer
returns-then-not-added-clause-answer c =
    let k : Coercion = record { term = c.args.term; from = c.args.from; to = c.args.to } in
    let P : Type 0 = OnePath (c.self.inside.coercions ++ k ∷ []) × (c.add.new.self ≡ c.self.inside.coercions ++ k ∷ []) in
    let Q : Type 0 = (OnePath (c.self.inside.coercions ++ k ∷ []) → ⊥) × (c.add.new.self ≡ c.self.inside.coercions) in
    let not : Q = MatchBool-at_false P Q c.if-not-added.true c.in-Ok.ensures.ok in
    let here = ap (λ (t : Table). t.coercions) c.self.view_is in
    inr (
      c.is_coercion.ensures.0 c.if-not-is_coercion.false,
      inl ((λ one. not.0 (subst (λ (cs : List Coercion). OnePath (cs ++ k ∷ [])) (sym here) one)), refl),
    )

pub returns-then-not-added-clause-err : goal.returns-then-not-added-clause-err
returns-then-not-added-clause-err c =
    let v : Table = record { delimiters = c.self.inside.delimiters; leading = c.self.inside.leading; infixes = c.self.inside.infixes; names = c.self.inside.names; coercions = c.self.inside.coercions } in
    let k : Coercion = record { term = c.args.term; from = c.args.from; to = c.args.to } in
    let P : Type 0 = OnePath (c.self.inside.coercions ++ k ∷ []) × (c.add.new.self ≡ c.self.inside.coercions ++ k ∷ []) in
    let Q : Type 0 = (OnePath (c.self.inside.coercions ++ k ∷ []) → ⊥) × (c.add.new.self ≡ c.self.inside.coercions) in
    let not : Q = MatchBool-at_false P Q c.if-not-added.true c.in-Ok.ensures.ok in
    ap (λ (cs : List Coercion). record v { coercions = cs }) not.1 ∙ c.self.view_is

pub invariant_of-self-2 : goal.invariant_of-self-2
invariant_of-self-2 c =
    let v : Table = record { delimiters = c.self.inside.delimiters; leading = c.self.inside.leading; infixes = c.self.inside.infixes; names = c.self.inside.names; coercions = c.self.inside.coercions } in
    let k : Coercion = record { term = c.args.term; from = c.args.from; to = c.args.to } in
    let P : Type 0 = OnePath (c.self.inside.coercions ++ k ∷ []) × (c.add.new.self ≡ c.self.inside.coercions ++ k ∷ []) in
    let Q : Type 0 = (OnePath (c.self.inside.coercions ++ k ∷ []) → ⊥) × (c.add.new.self ≡ c.self.inside.coercions) in
    let both : P = MatchBool-at_true P Q c.if-not-added.false c.in-Ok.ensures.ok in
    subst (λ (cs : List Coercion). IsTable (record v { coercions = cs })) (sym both.1) (coercion-is v k c.self.invariant both.0)

pub returns-clause-answer : goal.returns-clause-answer
returns-clause-answer c =
    let k : Coercion = record { term = c.args.term; from = c.args.from; to = c.args.to } in
    let P : Type 0 = OnePath (c.self.inside.coercions ++ k ∷ []) × (c.add.new.self ≡ c.self.inside.coercions ++ k ∷ []) in
    let Q : Type 0 = (OnePath (c.self.inside.coercions ++ k ∷ []) → ⊥) × (c.add.new.self ≡ c.self.inside.coercions) in
    let both : P = MatchBool-at_true P Q c.if-not-added.false c.in-Ok.ensures.ok in
    let here = ap (λ (t : Table). t.coercions) c.self.view_is in
    (c.is_coercion.ensures.0 c.if-not-is_coercion.false, (subst (λ (cs : List Coercion). OnePath (cs ++ k ∷ [])) here both.0, tt))

pub returns-clause-ok : goal.returns-clause-ok
returns-clause-ok c =
    let v : Table = record { delimiters = c.self.inside.delimiters; leading = c.self.inside.leading; infixes = c.self.inside.infixes; names = c.self.inside.names; coercions = c.self.inside.coercions } in
    let k : Coercion = record { term = c.args.term; from = c.args.from; to = c.args.to } in
    let P : Type 0 = OnePath (c.self.inside.coercions ++ k ∷ []) × (c.add.new.self ≡ c.self.inside.coercions ++ k ∷ []) in
    let Q : Type 0 = (OnePath (c.self.inside.coercions ++ k ∷ []) → ⊥) × (c.add.new.self ≡ c.self.inside.coercions) in
    let both : P = MatchBool-at_true P Q c.if-not-added.false c.in-Ok.ensures.ok in
    ap (λ (cs : List Coercion). record v { coercions = cs }) both.1 ∙ ap (λ (t : Table). with_coercion t k) c.self.view_is

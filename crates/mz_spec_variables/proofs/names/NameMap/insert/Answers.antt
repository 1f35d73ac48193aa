use Rattle.std.proofs.Common.{◌≡◌, ◌∙◌, ◌++◌, ◌∷◌, [], map, ap, subst, sym, refl}
use Rattle.std.specs.Prelude.{bytes_eq}
use Rattle.std.proofs.lemmas.List.{append-nil, map-append, nil_from_length}
use Rattle.mz_base.specs.Names.{IsKnown, IsNew, number_of}
use Rattle.mz_base.proofs.Offered.{tells-each}
use Rattle.mz_spec_variables.specs.NewNames.{AreNew}
use Rattle.mz_spec_variables.proofs.Inserted.{known-before, new-pushed, new-told, one-inserted}
use Rattle.mz_spec_variables.proofs.names.NameMap.insert.Goals as goal
use Rattle.mz_spec_variables.proofs.names.NameMap.insert.Goals.{then-is_empty+else-len-lt-FEW+in_ok-insert_all, else-is_empty}

pub returns-then-is_some : goal.returns-then-is_some
returns-then-is_some c =
    let w = c.args.name.now in
    let first = map (λ name. name.now) c.self.inside.first.items in
    let others = map (λ name. name.now) c.self.inside.others.keys in
    let at = c.number_among.ensures.number ∙ ap (λ xs. number_of (map (λ name. name.now) xs) w) c.deref.ensures.value in
    let known = known-before first others w c.number_among.result at (sym c.is_some.ensures ∙ c.if-is_some.true) in
    (subst (λ names. IsKnown names w) c.self.view_is known, refl)

pub invariant_of-self-then-len-lt-FEW : goal.invariant_of-self-then-len-lt-FEW
invariant_of-self-then-len-lt-FEW c =
    let w = c.args.name.now in
    let first = map (λ name. name.now) c.self.inside.first.items in
    let at = c.number_among.ensures.number ∙ ap (λ xs. number_of (map (λ name. name.now) xs) w) c.deref.ensures.value in
    let new = new-told first w c.number_among.result at (sym c.is_some.ensures ∙ c.if-is_some.false) in
    let more = ap (map (λ name. name.now)) c.in_ok-push.ensures.items ∙ map-append (λ name. name.now) c.self.inside.first.items (c.args.name ∷ []) in
    subst (AreNew []) (sym more) (new-pushed [] first w c.self.invariant new)

pub returns : goal.returns
returns c =
    let w = c.args.name.now in
    let inside = c.if-is_empty.self-inside in
    let keys = inside.others.keys in
    let first = map (λ name. name.now) inside.first.items in
    let others = map (λ name. name.now) keys in
    let at = c.number_among.ensures.number ∙ ap (λ xs. number_of (map (λ name. name.now) xs) w) c.deref.ensures.value in
    let unseen = new-told (map (λ name. name.now) c.self.inside.first.items) w c.number_among.result at (sym c.is_some.ensures ∙ c.if-is_some.false) in
    -- moving them changes no name
    let moved : (first ++ others ≡ c.args.self.now) × IsNew first w = elim c.if-is_empty.branch [
      | then-is_empty+else-len-lt-FEW+in_ok-insert_all b ↦ (
        ap (λ s. map (λ name. name.now) s.first.items ++ map (λ name. name.now) s.others.keys) b.self-inside-is
            ∙ ap (λ xs. map (λ name. name.now) xs ++ map (λ name. name.now) b.insert_all.new.set.keys) b.clear.ensures.items
            ∙ ap (map (λ name. name.now)) (b.in_ok-insert_all.ensures ∙ b.deref-then-is_empty.ensures.value)
            ∙ sym (append-nil (map (λ name. name.now) c.self.inside.first.items))
            ∙ ap (λ ks. map (λ name. name.now) c.self.inside.first.items ++ map (λ name. name.now) ks) (sym (nil_from_length c.self.inside.others.keys (b.if-is_empty.ensures.0 refl)))
            ∙ c.self.view_is,
        subst (λ s. IsNew (map (λ name. name.now) s.first.items) w) (sym b.self-inside-is)
            (subst (λ xs. IsNew (map (λ name. name.now) xs) w) (sym b.clear.ensures.items) refl),
      )
      | else-is_empty b ↦ (
        ap (λ s. map (λ name. name.now) s.first.items ++ map (λ name. name.now) s.others.keys) b.self-inside-is ∙ c.self.view_is,
        subst (λ s. IsNew (map (λ name. name.now) s.first.items) w) (sym b.self-inside-is) unseen,
      )
    ] in
    one-inserted (λ name. name.now) (λ other. bytes_eq w other.now) c.args.name first keys c.insert.new.self.keys c.args.self.now c.in_ok-insert.field-0
    moved.1 moved.0 (tells-each _ w _ (λ k. refl) keys) c.in_ok-insert.ensures.added c.in_ok-insert.ensures.keys

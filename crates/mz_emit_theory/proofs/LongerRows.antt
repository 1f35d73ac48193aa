-- What shares over some terms shares over more.
use Rattle.std.proofs.Common.{◌≡◌, ℕ, zero, suc, List, [], ◌∷◌, ◌++◌, length, map, Some, refl, sym, subst, inl, inr}
use Rattle.std.specs.Prelude.{slice_get}
use Rattle.std.proofs.lemmas.List.{map-append}
use Rattle.mz_logic_theory.specs.Tree.{Tree, Trees, var, app, none, more}
use Rattle.mz_logic_theory.specs.Signature.{Signature}
use Rattle.mz_logic_theory.specs.declared.binder.Binder.{Binder}
use Rattle.mz_logic_theory.proofs.Offered.{extends_append, split_at}
use Rattle.mz_machine_theory.specs.Streams.{UnifyCommand}
use Rattle.mz_machine_theory.specs.Spells.{Marks, marked, HasOperands, SpelledTerm, at_first}
use Rattle.mz_machine_theory.proofs.Offered.{some_is}
use Rattle.mz_emit_theory.specs.StreamWriting.{body_spelled}
use Rattle.mz_emit_theory.specs.Sharing.{Built, Builds, BuildsAll}
use Rattle.mz_emit_theory.proofs.Texts.{definitions-shared}
use Rattle.mz_emit_theory.specs.SharedRows.{SharesBody, IsSharedRow}
use Rattle.mz_emit_theory.specs.PortableLaws.{SharedTextsShare, WrittenDefinitionsShare, SharedAtFirst, SharedWithTerm}

module _ (n : ℕ) (sigs others : List Signature) where
  longer-operands : (t : ℕ) (es : Trees) → HasOperands sigs t es → HasOperands (sigs ++ others) t es
  longer-operands t es (d, at, len) = (d, extends_append sigs others t d at, len)

  mutual
    longer : (e : Tree) (m m' : Marks) (us us' : List UnifyCommand) (bs : List Built) → Builds n sigs m us e m' us' bs → Builds n (sigs ++ others) m us e m' us' bs
    longer (var x) m m' us us' bs h = h
    longer (app t es) m m' us us' bs (inl h) = inl h
    longer (app t es) m m' us us' bs (inr (inl (rest, cs, is, has, all, bs-are))) = inr (inl (rest, cs, is, longer-operands t es has, all-longer es m m' rest us' cs all, bs-are))
    longer (app t es) m m' us us' bs (inr (inr (rest, cs, is, has, all, bs-are))) =
        inr (inr (rest, cs, is, longer-operands t es has, all-longer es (marked m (app t es)) m' rest us' cs all, bs-are))

    all-longer : (es : Trees) (m m' : Marks) (us us' : List UnifyCommand) (bs : List Built) → BuildsAll n sigs m us es m' us' bs → BuildsAll n (sigs ++ others) m us es m' us' bs
    all-longer none m m' us us' bs h = h
    all-longer (more e es) m m' us us' bs (mid, rest, cs, ds, first, later, bs-are) = (mid, rest, cs, ds, longer e m mid us rest cs first, all-longer es mid m' rest us' ds later, bs-are)

longer-body : (sigs others : List Signature) (params : List Binder) (stream : List ℕ) → SharesBody sigs params stream → SharesBody (sigs ++ others) params stream
longer-body sigs others params stream (body, (last, bs, (us, is, mid, rest, cs, ds, first, hyps, bs-are), once)) =
    (body, (last, bs, (us, is, mid, rest, cs, ds, longer (length params) sigs others body (at_first params) mid us rest cs first, hyps, bs-are), once))

pub texts-share : SharedTextsShare
texts-share sigs params bytes body dummies text further = (body, text.shares further)

pub written-share : WrittenDefinitionsShare
written-share sigs params dummies body sorted short further = (body_spelled params dummies body, definitions-shared sigs params dummies body sorted short further)

pub shared-at-first : SharedAtFirst
shared-at-first t row at = absurd cc

pub shared-with-term : SharedWithTerm
shared-with-term rows row shared one t r at =
    let sigs : List Signature = map (λ (z : SpelledTerm). z.signature) rows in
    let here : IsSharedRow sigs r = elim (split_at rows (row ∷ []) t r at) [
      | inl before ↦ shared t r before
      | inr (k, _, there) ↦ last k there
    ] in
    λ stream is.
    subst (λ (z : List Signature). SharesBody z r.signature.params stream) (sym (map-append (λ (z : SpelledTerm). z.signature) rows (row ∷ []))) (longer-body sigs (row.signature ∷ []) r.signature.params stream (here stream is))
  where
    last : (k : ℕ) → slice_get (row ∷ []) k ≡ Some r → IsSharedRow (map (λ (z : SpelledTerm). z.signature) rows) r
    last zero there = subst (IsSharedRow (map (λ (z : SpelledTerm). z.signature) rows)) (some_is refl there) one
    last (suc k) there = absurd cc

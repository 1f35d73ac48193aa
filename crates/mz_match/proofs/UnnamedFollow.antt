-- Of a draft that is accepted, the theorems follow whose places aren't named.
use Rattle.std.proofs.Common.{ℕ, zero, List, [], ◌∷◌, ◌++◌, Contains, length, refl, sym, subst, inl, inr, append_assoc, append-nil, zero-lt-suc}
use Rattle.std.proofs.lemmas.List.Elements.{Contains-append_left, Contains-append_right}
use Rattle.mz_logic_theory.specs.Declaration.{Declaration, Assertion, assertions}
use Rattle.mz_logic_theory.specs.LegalLists.{Statement, declarations, DraftLegal}
use Rattle.mz_logic_theory.proofs.Offered.{closed_unless}
use Rattle.mz_binary_theory.specs.Gapped.{GappedIn, AreFreeUnlessGapped}
use Rattle.mz_spec_proved_theory.specs.Proved.{stated}
use Rattle.mz_spec_proved_theory.specs.Match.{publics, Agrees}
use Rattle.mz_spec_proved_theory.proofs.Offered.{ungapped-proved}
use Rattle.mz_match.specs.Drafts.{IsGapHere, ListsGaps, ListsGapsOf, UnnamedFollow}

-- a public theorem with G is named
named-here : (G : ℕ → Type 0) (before : List Statement) (a : Assertion) (here : List ℕ) → IsGapHere G before (stated a) here
    → G (length (assertions (declarations before))) → Contains here (length (publics before))
named-here G before a here (inl (is, g)) has = subst (λ xs. Contains xs (length (publics before))) (sym is) (zero, zero-lt-suc 0, refl)
named-here G before a here (inr (is, none)) has = absurd (none has)

named : (G : ℕ → Type 0) (before mid after : List Statement) (a : Assertion) (places : List ℕ) → ListsGaps G before (mid ++ stated a ∷ after) places
    → G (length (assertions (declarations (before ++ mid)))) → Contains places (length (publics (before ++ mid)))
named G before [] after a places (here, rest, is, gap, more) has =
    subst (λ xs. Contains xs (length (publics (before ++ [])))) (sym is)
    (Contains-append_left here rest (length (publics (before ++ [])))
    (subst (λ b. Contains here (length (publics b))) (sym (append-nil before))
    (named-here G before a here gap (subst (λ b. G (length (assertions (declarations b)))) (append-nil before) has))))
named G before (s ∷ mid) after a places (here, rest, is, gap, more) has =
    let whole = append_assoc before (s ∷ []) mid in
    subst (λ xs. Contains xs (length (publics (before ++ s ∷ mid)))) (sym is)
    (Contains-append_right here rest (length (publics (before ++ s ∷ mid)))
    (subst (λ b. Contains rest (length (publics b))) whole
    (named G (before ++ s ∷ []) mid after a rest more (subst (λ b. G (length (assertions (declarations b)))) (sym whole) has))))

pub unnamed-follow : (bin : List ℕ) (ds : List Declaration) (ss : List Statement) → DraftLegal ss → AreFreeUnlessGapped bin ss → Agrees ds (publics ss)
    → (places : List ℕ) → ListsGapsOf bin ss places → UnnamedFollow ds ss places
unnamed-follow bin ds ss legal free agrees places lists i a at theorem none =
    ungapped-proved ds ss legal agrees i a at theorem (λ before after proved among is_theorem place.
    closed_unless (GappedIn bin ss) ss legal free before after (stated proved) proved among refl is_theorem
    (λ has. none (subst (Contains places) place
    (named (GappedIn bin ss) [] before after proved places (subst (λ xs. ListsGaps (GappedIn bin ss) [] xs places) among lists) has))))

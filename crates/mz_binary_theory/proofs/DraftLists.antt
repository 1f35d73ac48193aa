-- What a legal draft is.
use Rattle.std.proofs.Common.{List, [], ◌∷◌, ◌++◌, refl, sym, subst, append-nil}
use Rattle.std.proofs.lemmas.Option.{none-some}
use Rattle.mz_logic_theory.specs.Declaration.{Declaration, sort_decl, term_decl, assertion_decl}
use Rattle.mz_logic_theory.specs.Sorts.{HasProvable}
use Rattle.mz_logic_theory.specs.Legality.{IsLegalDecl}
use Rattle.mz_logic_theory.specs.Derivations.{gap}
use Rattle.mz_logic_theory.specs.LegalLists.{Statement, IsProvedIfTheorem, LegalAfter, any_derivation}
use Rattle.mz_logic_theory.specs.declared.binder.Binder.{Binder}
use Rattle.mz_logic_theory.proofs.Offered.{assertions_are_sorted}
use Rattle.mz_binary_theory.specs.DraftLaws.{AreLegallyDeclared, DraftsAreLegallyDeclared}

-- a gap derives what a legal theorem states
left-open : (env : List Declaration) (d : Declaration) → IsLegalDecl env d → IsProvedIfTheorem any_derivation env d
left-open env (sort_decl m) legal = tt
left-open env (term_decl t) legal = tt
left-open env (assertion_decl a) legal = λ theorem. (
  [],
  (λ i b at. absurd (none-some _ at)),
  (gap a.conclusion, tt, (refl, subst (λ (ctx : List Binder). HasProvable env ctx a.conclusion) (sym (append-nil a.params)) ((assertions_are_sorted env a).0 legal).3)),
)

declared : (env : List Declaration) (ss : List Statement) → LegalAfter any_derivation env ss → AreLegallyDeclared env ss
declared env [] h = tt
declared env (s ∷ ss) h = (h.0.0, h.0.1, declared (env ++ s.decl ∷ []) ss h.1)

drafted : (env : List Declaration) (ss : List Statement) → AreLegallyDeclared env ss → LegalAfter any_derivation env ss
drafted env [] h = tt
drafted env (s ∷ ss) h = ((h.0, h.1, left-open env s.decl h.0), drafted (env ++ s.decl ∷ []) ss h.2)

pub drafts-declared : DraftsAreLegallyDeclared
drafts-declared ss = (declared [] ss, drafted [] ss)

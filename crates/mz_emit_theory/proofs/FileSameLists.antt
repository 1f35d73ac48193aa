-- The made statements are the text's.
use Rattle.std.proofs.Common.{Bool, List, [], ◌∷◌, ◌++◌, ℕ}
use Rattle.mz_logic_theory.specs.Declaration.{Declaration, sort_decl, term_decl, assertion_decl}
use Rattle.mz_logic_theory.specs.LegalLists.{Statement}
use Rattle.mz_layout_tables.specs.Normal.{Written, Parts}
use Rattle.mz_emit_theory.specs.AlphaLists.{IsSameDeclaration, IsSameList}
use Rattle.mz_emit_theory.specs.FileLaws.{WrittenListsAreSame}
use Rattle.mz_emit_theory.specs.FileWriting.{IsWrittenDeclaration, AreWritten}

same-declaration : (gaps : Bool) (p : Parts) (env : List Declaration) (is_local : Bool) (d d' : Declaration) (bytes : List ℕ) → IsWrittenDeclaration gaps p env is_local d d' bytes → IsSameDeclaration d d'
same-declaration gaps p env is_local (sort_decl m) (sort_decl m') bytes w = w.0
same-declaration gaps p env is_local (term_decl d) (term_decl d') bytes w = w.0
same-declaration gaps p env is_local (assertion_decl a) (assertion_decl a') bytes w = w.0
same-declaration gaps p env is_local _ _ bytes w = w

same-lists : (gaps : Bool) (p : Parts) (env : List Declaration) (ts ss : List Statement) (ws : List Written) → AreWritten gaps p env ts ss ws → IsSameList ts ss
same-lists gaps p env [] [] ws written = tt
same-lists gaps p env (t ∷ ts) (s ∷ ss) (w ∷ ws) (written, all) =
    ((written.mark, same-declaration gaps p env s.is_local t.decl s.decl w.body written.declaration), same-lists gaps p (env ++ t.decl ∷ []) ts ss ws all)
same-lists gaps p env _ _ _ written = absurd written

pub written-same : WrittenListsAreSame
written-same gaps p text made written = same-lists gaps p [] text made p.statements written

-- The sorts that good statements declare are the first of the file's.
use Rattle.std.proofs.Common.{◌≡◌, ◌∙◌, ℕ, suc, List, [], ◌∷◌, ◌++◌, length, take, slice_get, Some, refl, sym, ap, subst}
use Rattle.std.proofs.lemmas.Option.{slice_get_within, get_or_from_slice_get}
use Rattle.std.proofs.Math.Seq.{take-suc}
use Rattle.mz_logic_theory.specs.Declaration.{Declaration, sort_decl, term_decl, assertion_decl, sorts}
use Rattle.mz_logic_theory.specs.LegalLists.{Statement}
use Rattle.mz_logic_theory.specs.declared.binder.SortMods.{SortMods}
use Rattle.mz_logic_theory.proofs.Offered.{sorts-append, same-sorts}
use Rattle.mz_layout_tables.specs.Tables.{tables_of}
use Rattle.mz_layout_tables.specs.RowWords.{first_sorts}
use Rattle.mz_binary_theory.specs.Spelling.{SpellsRow}
use Rattle.mz_binary_theory.specs.Chains.{GoodTo}
use Rattle.mz_binary_theory.specs.Standards.{Standard}

abbrev pub HasSorts : List ℕ → List Declaration → Type 0
HasSorts file env = sorts env ≡ first_sorts file (length (sorts env))

take-one_more : (xs : List SortMods) (n : ℕ) (m : SortMods) → slice_get xs n ≡ Some m → take (suc n) xs ≡ take n xs ++ m ∷ []
take-one_more xs n m at = take-suc xs n m (slice_get_within xs n m at) ∙ ap (λ x. take n xs ++ x ∷ []) (get_or_from_slice_get xs n m m at)

longer : (xs : List SortMods) (m : SortMods) → length (xs ++ m ∷ []) ≡ suc (length xs)
longer [] m = refl
longer (x ∷ xs) m = ap suc (longer xs m)

pub sorts-more : (file : List ℕ) (env : List Declaration) (d : Declaration) → HasSorts file env → SpellsRow file env d → HasSorts file (env ++ d ∷ [])
sorts-more file env (sort_decl m) before row =
    let all = (tables_of file).sorts in
    let declared : sorts (env ++ sort_decl m ∷ []) ≡ sorts env ++ m ∷ [] = sorts-append env (sort_decl m ∷ []) in
    declared ∙ ap (λ ms. ms ++ m ∷ []) before ∙ sym (take-one_more all (length (sorts env)) m row)
    ∙ ap (λ n. take n all) (sym (ap length declared ∙ longer (sorts env) m))
sorts-more file env (term_decl d) before row = subst (λ ms. ms ≡ first_sorts file (length ms)) (sym (same-sorts env (term_decl d) refl)) before
sorts-more file env (assertion_decl a) before row = subst (λ ms. ms ≡ first_sorts file (length ms)) (sym (same-sorts env (assertion_decl a) refl)) before

pub chain-sorts : (standard : Standard) (file : List ℕ) (env : List Declaration) (from : ℕ) (ss : List Statement) (env' : List Declaration) (to : ℕ) → GoodTo standard file env from ss env' to → HasSorts file env → HasSorts file env'
chain-sorts standard file env from [] env' to chain before = subst (HasSorts file) (sym chain.0) before
chain-sorts standard file env from (s ∷ ss) env' to chain before =
    chain-sorts standard file (env ++ s.decl ∷ []) chain.0 ss env' to chain.2 (sorts-more file env s.decl before chain.1.spelled.row)

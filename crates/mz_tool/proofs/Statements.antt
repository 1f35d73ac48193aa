-- The statements of the samples' texts.
use Rattle.std.proofs.Common.{ℕ, zero, suc, ◌≡◌, ◌++◌, false, List, [], ◌∷◌, Option, Some, None, refl, codes, decimal}
use Rattle.mz_logic_theory.specs.Tree.{var, more, none}
use Rattle.mz_logic_theory.specs.Declaration.{Declaration, sort_decl, term_decl, assertion_decl}
use Rattle.mz_logic_theory.specs.Derivations.{no_derivs}
use Rattle.mz_logic_theory.specs.Examples.{im_declared, ax_1, ax_mp}
use Rattle.mz_mmu_theory.specs.Proof.{Proof, by_citation, by_conv, no_proofs, more_proofs}
use Rattle.mz_mmu_theory.specs.Statements.{Statement}
use Rattle.mz_mmu_theory.specs.Meaning.{derivation}
use Rattle.mz_tool.proofs.Declarations.{all_declared, ax_gen, d, d_number, t_number, body, d_declared, t_stated, g_stated, t_conversion, body_derivation}

abbrev pub stated : List ℕ → Declaration → Option Proof → Statement
stated name decl proof = record { is_local = false; name = name; decl = decl; dummies = []; proof = proof }

-- ---- the sorts, the terms and the axioms

abbrev pub head_declarations : List Declaration
head_declarations =
    sort_decl (record { 0 = 4 }) ∷ sort_decl (record { 0 = 0 }) ∷ term_decl im_declared ∷ term_decl all_declared
    ∷ assertion_decl ax_1 ∷ assertion_decl ax_mp ∷ assertion_decl ax_gen ∷ []

abbrev pub head_then : List Statement → List Statement
head_then rest =
    stated (codes "wff") (sort_decl (record { 0 = 4 })) None ∷ stated (codes "nat") (sort_decl (record { 0 = 0 })) None
    ∷ stated (codes "im") (term_decl im_declared) None ∷ stated (codes "all") (term_decl all_declared) None
    ∷ stated (codes "ax_1") (assertion_decl ax_1) None ∷ stated (codes "ax_mp") (assertion_decl ax_mp) None ∷ stated (codes "ax_gen") (assertion_decl ax_gen) None
    ∷ rest

-- ---- a definition and its theorems

abbrev pub d_name : ℕ → List ℕ
d_name k = codes "d" ++ decimal (suc k)

abbrev pub t_name : ℕ → List ℕ
t_name k = codes "t" ++ decimal (suc k)

abbrev pub g_name : ℕ → List ℕ
g_name k = codes "g" ++ decimal (suc k)

abbrev pub body_proof : ℕ → Proof
body_proof zero = by_citation 0 (more (var 0) (more (var 0) none)) no_proofs
body_proof (suc j) =
    by_citation 1 (more (d (d_number j) (var 0)) (more (body (suc j)) none))
    (more_proofs (by_citation 0 (more (d (d_number j) (var 0)) (more (var 0) none)) no_proofs) (more_proofs (by_citation (t_number j) (more (var 0) none) no_proofs) no_proofs))

abbrev pub t_proof : ℕ → Proof
t_proof k = by_conv (d (d_number k) (var 0)) (t_conversion k) (body_proof k)

abbrev pub g_proof : ℕ → Proof
g_proof k = by_citation 2 (more (var 0) (more (d (d_number k) (var 1)) none)) (more_proofs (by_citation (t_number k) (more (var 1) none) no_proofs) no_proofs)

abbrev pub d_statement : ℕ → Statement
d_statement k = stated (d_name k) (term_decl (d_declared k)) None

abbrev pub t_statement : ℕ → Statement
t_statement k = stated (t_name k) (assertion_decl (t_stated k)) (Some (t_proof k))

abbrev pub g_statement : ℕ → Statement
g_statement k = stated (g_name k) (assertion_decl (g_stated k)) (Some (g_proof k))

-- so many, from number k on
abbrev pub numbered : ℕ → ℕ → List Statement
numbered k zero = []
numbered k (suc m) = d_statement k ∷ t_statement k ∷ g_statement k ∷ numbered (suc k) m

abbrev pub sample_statements : ℕ → List Statement
sample_statements n = head_then (numbered 0 n)

-- ---- what the proofs mean

pub body-means : (k : ℕ) → derivation no_derivs (body_proof k) ≡ body_derivation k
body-means zero = refl
body-means (suc j) = refl

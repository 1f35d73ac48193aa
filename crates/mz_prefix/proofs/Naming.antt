-- The names that a text leaves for variables: they begin with more underscores than any of its own.
use Rattle.std.proofs.Common.{◌≡◌, ◌<◌, ◌≤◌, ◌∙◌, ◌++◌, ℕ, zero, suc, List, [], ◌∷◌, length, true, get_or, ap, sym, refl, arith, decimal, codes, ◌^◌}
use Rattle.std.specs.Prelude.{IsTrue, replicate}
use Rattle.std.specs.List.{list_all}
use Rattle.std.proofs.lemmas.Bool.{and_from}
use Rattle.std.proofs.lemmas.Fmt.{decimal_injective, decimal_is_IsNumeral}
use Rattle.std.proofs.lemmas.List.{append_cancel_left}
use Rattle.mz_base.specs.Identifiers.{is_name, is_name_byte}
use Rattle.mz_base.proofs.Offered.{digits-named}
use Rattle.mz_logic_theory.specs.Declaration.{Declaration, sort_decl, term_decl, assertion_decl}
use Rattle.mz_mmu_theory.specs.Statements.{Statement}
use Rattle.mz_mmu_theory.specs.DeclaredNames.{underscores, term_name, term_names, text_names, longest_run}
use Rattle.mz_prefix.specs.Wording.{variable_prefix, vocabulary_of}

-- ---- how they begin

run-is : (n : ℕ) (cs : List ℕ) → underscores ((replicate n 95 ++ codes "v") ++ cs) ≡ n
run-is zero cs = refl
run-is (suc n) cs = ap suc (run-is n cs)

one-shorter : (name : List ℕ) (d : Declaration) (rest : List (List ℕ)) (n i : ℕ) → ((k : ℕ) → k < length rest → underscores (get_or rest k []) ≤ n) → underscores name ≤ n
    → i < length (term_name d name ++ rest) → underscores (get_or (term_name d name ++ rest) i []) ≤ n
one-shorter name (term_decl d) rest n zero others own less = own
one-shorter name (term_decl d) rest n (suc i) others own less = others i (omega arith)
one-shorter name _ rest n i others own less = others i less

all-shorter : (ss : List Statement) (i : ℕ) → i < length (term_names ss) → underscores (get_or (term_names ss) i []) ≤ longest_run (text_names ss)
all-shorter [] i less = absurd (omega arith)
all-shorter (s ∷ ss) i less = one-shorter s.name s.decl (term_names ss) (longest_run (text_names (s ∷ ss))) i (λ k below. omega (arith, all-shorter ss k below)) (omega arith) less

-- no term is named as a variable
pub other-name : (ss : List Statement) (x t : ℕ) → t < length (term_names ss) → (vocabulary_of ss).variable x ≡ get_or (term_names ss) t [] → ⊥
other-name ss x t less is = omega (arith, sym (run-is (suc (longest_run (text_names ss))) (decimal x)) ∙ ap underscores is, all-shorter ss t less)

-- ---- they differ

pub distinct-names : (ss : List Statement) (x y : ℕ) → x < 2 ^ 64 → y < 2 ^ 64 → (vocabulary_of ss).variable x ≡ (vocabulary_of ss).variable y → x ≡ y
distinct-names ss x y a b is = decimal_injective x y a b (append_cancel_left (variable_prefix ss) (decimal x) (decimal y) is)

-- ---- they are identifiers

behind-named : (n : ℕ) (cs : List ℕ) → list_all is_name_byte cs ≡ true → list_all is_name_byte ((replicate n 95 ++ codes "v") ++ cs) ≡ true
behind-named zero cs all = all
behind-named (suc n) cs all = behind-named n cs all

prefixed-named : (n : ℕ) (cs : List ℕ) → list_all is_name_byte cs ≡ true → IsTrue (is_name ((replicate (suc n) 95 ++ codes "v") ++ cs))
prefixed-named zero cs all = and_from _ _ (behind-named 0 cs all) refl
prefixed-named (suc n) cs all = and_from _ _ (behind-named (suc n) cs all) refl

pub is-identifier : (ss : List Statement) (x : ℕ) → x < 2 ^ 64 → IsTrue (is_name ((vocabulary_of ss).variable x))
is-identifier ss x small = prefixed-named (longest_run (text_names ss)) (decimal x) (digits-named (decimal x) (decimal_is_IsNumeral x small).0.1)

-- Names with a prefix that is longer than any run of underscores with which one of some names begins.
use Rattle.std.proofs.Common.{◌≡◌, ◌≤◌, ◌<◌, ◌^◌, ◌++◌, ℕ, zero, suc, List, [], ◌∷◌, Bool, true, false, ap, refl, arith, decimal}
use Rattle.std.specs.Prelude.{replicate, if◌then◌else◌, ◌==◌}
use Rattle.std.specs.List.{list_all}
use Rattle.std.proofs.lemmas.Bool.{and_from}
use Rattle.std.proofs.lemmas.Fmt.{decimal_injective, decimal_is_IsNumeral}
use Rattle.std.proofs.lemmas.List.{append_cancel_left}
use Rattle.mz_base.specs.Identifiers.{is_name_byte}
use Rattle.mz_base.proofs.Offered.{digits-named}
use Rattle.mz_mmu_theory.specs.Name.{IsName}
use Rattle.mz_spec_theory.specs.Dependencies.{Every}
use Rattle.mz_mmu_theory.specs.DeclaredNames.{underscores, longest_run}

-- ---- how a prefixed name begins

abbrev pub prefix_of : ℕ → List ℕ
prefix_of n = replicate (suc n) 95

-- a prefix, a letter and a number
abbrev pub prefixed : ℕ → ℕ → ℕ → List ℕ
prefixed n c x = prefix_of n ++ c ∷ decimal x

run-is : (n c : ℕ) (cs : List ℕ) → (c == 95) ≡ false → underscores (replicate n 95 ++ c ∷ cs) ≡ n
run-is zero c cs other = ap (λ (b : Bool). if b then suc (underscores cs) else 0) other
run-is (suc n) c cs other = ap suc (run-is n c cs other)

-- none of the names that begin with fewer underscores
pub not-short : (n c x : ℕ) (w : List ℕ) → (c == 95) ≡ false → underscores w ≤ n → prefixed n c x ≡ w → ⊥
not-short n c x w other short is = omega (arith, run-is (suc n) c (decimal x) other, ap underscores is, short)

-- ---- two of them

pub same-number : (n c x y : ℕ) → x < 2 ^ 64 → y < 2 ^ 64 → prefixed n c x ≡ prefixed n c y → x ≡ y
same-number n c x y a b is =
    let rest : c ∷ decimal x ≡ c ∷ decimal y = append_cancel_left (prefix_of n) (c ∷ decimal x) (c ∷ decimal y) is in
    decimal_injective x y a b (let e : decimal x ≡ decimal y = cc in e)

pub same-letter : (n c d x y : ℕ) → prefixed n c x ≡ prefixed n d y → c ≡ d
same-letter n c d x y is =
    let rest : c ∷ decimal x ≡ d ∷ decimal y = append_cancel_left (prefix_of n) (c ∷ decimal x) (d ∷ decimal y) is in cc

-- ---- they are identifiers

behind-named : (n : ℕ) (cs : List ℕ) → list_all is_name_byte cs ≡ true → list_all is_name_byte (replicate n 95 ++ cs) ≡ true
behind-named zero cs all = all
behind-named (suc n) cs all = behind-named n cs all

longer-named : (n c : ℕ) (ds : List ℕ) → list_all is_name_byte (c ∷ ds) ≡ true → IsName (prefix_of n ++ c ∷ ds)
longer-named zero c ds all = and_from _ _ all refl
longer-named (suc n) c ds all = and_from _ _ (behind-named (suc n) (c ∷ ds) all) refl

pub prefixed-named : (n c x : ℕ) → is_name_byte c ≡ true → x < 2 ^ 64 → IsName (prefixed n c x)
prefixed-named n c x letter small = longer-named n c (decimal x) (and_from _ _ letter (digits-named (decimal x) (decimal_is_IsNumeral x small).0.1))

-- ---- the longest run

pub all-short : (ws : List (List ℕ)) (n : ℕ) → longest_run ws ≤ n → Every (λ w. underscores w ≤ n) ws
all-short [] n le = tt
all-short (w ∷ ws) n le = (omega (arith, le), all-short ws n (omega (arith, le)))

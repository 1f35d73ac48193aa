-- A list by the keyword with which it begins.
use Rattle.std.proofs.Common.{◌≡◌, ℕ, List, Bool, true, false, Result, Ok, Err, IfOk, sym, refl, subst}
use Rattle.std.specs.Prelude.{IfErr, bytes_eq, codes, if◌then◌else◌}
use Rattle.mz_sexpr.specs.Node.{Node, Nodes, list, node, place}
use Rattle.mz_logic_theory.specs.Conversions.{Conversion}
use Rattle.mz_mmu_theory.specs.declared.fault.Stop.{Stop}
use Rattle.mz_mmu_theory.specs.Name.{Scope}
use Rattle.mz_mmu_theory.specs.Proof.{Proof}
use Rattle.mz_mmu_theory.specs.Proofs.{conv_keyword, conv_keyword_of, proof_keyword, proof_keyword_of, IsConv, IsConvBy, IsProof, IsProofBy}
use Rattle.mz_mmu_theory.specs.declared.keyword.Keyword.{Keyword}
use Rattle.mz_mmu_theory.specs.declared.keyword.Keyword.TheVariants.{Conv as conv_word, Let as let_word, Refl as refl_word, Sym as sym_word, Unfold as unfold_word, Sorry as sorry_word, Other as no_word}
use Rattle.mz_mmu_theory.specs.FormOrder.{conv_asked, conv_asked_by, proof_asked, proof_asked_by}
use Rattle.mz_mmu_theory.specs.Stops.{Stops}

pub if_ok : {A E : Type 0} (r : Result A E) (P Q : A → Type 0) → ((a : A) → P a → Q a) → IfOk r P → IfOk r Q
if_ok (Ok a) P Q f h = f a h
if_ok (Err e) P Q f h = tt

pub if_err : {A E : Type 0} (r : Result A E) (P Q : E → Type 0) → ((e : E) → P e → Q e) → IfErr r P → IfErr r Q
if_err (Ok a) P Q f h = tt
if_err (Err e) P Q f h = f e h

module _ (sc : Scope) (m h : Node) (ns : Nodes) (k : Keyword) (shape : m ≡ list (place m) (node h ns)) (key : conv_keyword h ≡ k) where
  pub conv_by : (c : Conversion) → IsConvBy sc k h ns c → IsConv sc m c
  conv_by c r = subst (λ x. IsConv sc x c) (sym shape) (subst (λ q. IsConvBy sc q h ns c) (sym key) r)

  pub conv_stops_by : (s : Stop) → Stops s (conv_asked_by sc k (place m) h ns) → Stops s (conv_asked sc m)
  conv_stops_by s r = subst (λ x. Stops s (conv_asked sc x)) (sym shape) (subst (λ q. Stops s (conv_asked_by sc q (place m) h ns)) (sym key) r)

module _ (sc : Scope) (hyps lets : List (List ℕ)) (m h : Node) (ns : Nodes) (k : Keyword) (shape : m ≡ list (place m) (node h ns)) (key : proof_keyword h ≡ k) where
  pub proof_by : (p : Proof) → IsProofBy sc hyps lets k h ns p → IsProof sc hyps lets m p
  proof_by p r = subst (λ x. IsProof sc hyps lets x p) (sym shape) (subst (λ q. IsProofBy sc hyps lets q h ns p) (sym key) r)

  pub proof_stops_by : (s : Stop) → Stops s (proof_asked_by sc hyps lets k (place m) h ns) → Stops s (proof_asked sc hyps lets m)
  proof_stops_by s r = subst (λ x. Stops s (proof_asked sc hyps lets x)) (sym shape) (subst (λ q. Stops s (proof_asked_by sc hyps lets q (place m) h ns)) (sym key) r)

-- an atom that is no keyword of a conversion, or of a proof
by_four : (a b c d : Bool) → ((if a then refl_word else (if b then sym_word else (if c then unfold_word else (if d then sorry_word else no_word)))) ≡ refl_word → ⊥)
    → ((if a then refl_word else (if b then sym_word else (if c then unfold_word else (if d then sorry_word else no_word)))) ≡ sym_word → ⊥)
    → ((if a then refl_word else (if b then sym_word else (if c then unfold_word else (if d then sorry_word else no_word)))) ≡ unfold_word → ⊥)
    → ((if a then refl_word else (if b then sym_word else (if c then unfold_word else (if d then sorry_word else no_word)))) ≡ sorry_word → ⊥)
    → (if a then refl_word else (if b then sym_word else (if c then unfold_word else (if d then sorry_word else no_word)))) ≡ no_word
by_four true b c d p q r s = absurd (p refl)
by_four false true c d p q r s = absurd (q refl)
by_four false false true d p q r s = absurd (r refl)
by_four false false false true p q r s = absurd (s refl)
by_four false false false false p q r s = refl

pub conv_other : (w : List ℕ) → (conv_keyword_of w ≡ refl_word → ⊥) → (conv_keyword_of w ≡ sym_word → ⊥) → (conv_keyword_of w ≡ unfold_word → ⊥) → (conv_keyword_of w ≡ sorry_word → ⊥)
    → conv_keyword_of w ≡ no_word
conv_other w = by_four (bytes_eq w (codes ":refl")) (bytes_eq w (codes ":sym")) (bytes_eq w (codes ":unfold")) (bytes_eq w (codes ":sorry"))

by_three : (a b c : Bool) → ((if a then conv_word else (if b then let_word else (if c then sorry_word else no_word))) ≡ conv_word → ⊥)
    → ((if a then conv_word else (if b then let_word else (if c then sorry_word else no_word))) ≡ let_word → ⊥)
    → ((if a then conv_word else (if b then let_word else (if c then sorry_word else no_word))) ≡ sorry_word → ⊥)
    → (if a then conv_word else (if b then let_word else (if c then sorry_word else no_word))) ≡ no_word
by_three true b c p q r = absurd (p refl)
by_three false true c p q r = absurd (q refl)
by_three false false true p q r = absurd (r refl)
by_three false false false p q r = refl

pub proof_other : (w : List ℕ) → (proof_keyword_of w ≡ conv_word → ⊥) → (proof_keyword_of w ≡ let_word → ⊥) → (proof_keyword_of w ≡ sorry_word → ⊥) → proof_keyword_of w ≡ no_word
proof_other w = by_three (bytes_eq w (codes ":conv")) (bytes_eq w (codes ":let")) (bytes_eq w (codes ":sorry"))

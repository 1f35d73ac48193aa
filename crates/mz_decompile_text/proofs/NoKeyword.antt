-- No identifier is a literal token with a colon.
use Rattle.std.proofs.Common.{ℕ, ◌≡◌, ◌∙◌, Bool, false, List, ap, sym, refl, true≢false}
use Rattle.std.specs.Prelude.{codes, bytes_eq, if◌then◌else◌}
use Rattle.mz_base.proofs.Offered.{other-bytes}
use Rattle.mz_base.specs.Identifiers.{is_name}
use Rattle.mz_mmu_theory.specs.Name.{IsName}
use Rattle.mz_mmu_theory.specs.declared.keyword.Keyword.{Keyword}
use Rattle.mz_mmu_theory.specs.declared.keyword.Keyword.TheVariants.{Conv as conv_word, Let as let_word, Refl as refl_word, Sym as sym_word, Unfold as unfold_word, Sorry as sorry_word, Other as no_word}
use Rattle.mz_mmu_theory.specs.Proofs.{conv_keyword_of, proof_keyword_of}

not-this : (w u : List ℕ) → is_name u ≡ false → IsName w → bytes_eq w u ≡ false
not-this w u not_ name = other-bytes w u (λ is. true≢false (sym name ∙ ap is_name is ∙ not_))

abbrev ConvWord : Bool → Bool → Bool → Bool → Keyword
ConvWord a b c d = if a then refl_word else (if b then sym_word else (if c then unfold_word else (if d then sorry_word else no_word)))

pub no-conv-word : (w : List ℕ) → IsName w → conv_keyword_of w ≡ no_word
no-conv-word w name =
    ap (λ a. ConvWord a (bytes_eq w (codes ":sym")) (bytes_eq w (codes ":unfold")) (bytes_eq w (codes ":sorry"))) (not-this w (codes ":refl") refl name)
    ∙ ap (λ b. ConvWord false b (bytes_eq w (codes ":unfold")) (bytes_eq w (codes ":sorry"))) (not-this w (codes ":sym") refl name)
    ∙ ap (λ c. ConvWord false false c (bytes_eq w (codes ":sorry"))) (not-this w (codes ":unfold") refl name)
    ∙ ap (λ d. ConvWord false false false d) (not-this w (codes ":sorry") refl name)

abbrev ProofWord : Bool → Bool → Bool → Keyword
ProofWord a b c = if a then conv_word else (if b then let_word else (if c then sorry_word else no_word))

pub no-proof-word : (w : List ℕ) → IsName w → proof_keyword_of w ≡ no_word
no-proof-word w name =
    ap (λ a. ProofWord a (bytes_eq w (codes ":let")) (bytes_eq w (codes ":sorry"))) (not-this w (codes ":conv") refl name)
    ∙ ap (λ b. ProofWord false b (bytes_eq w (codes ":sorry"))) (not-this w (codes ":let") refl name)
    ∙ ap (λ c. ProofWord false false c) (not-this w (codes ":sorry") refl name)

-- The arguments say which request they ask for, and what is promised of the specification alone follows from what is proved.
use Rattle.std.proofs.Common.{◌≡◌, ◌∙◌, ◌⊎◌, ℕ, true, false, refl, List, [], ◌∷◌, ap, sym, subst, inl, inr, arith}
use Rattle.std.specs.Prelude.{bytes_eq, codes, decimal, if◌then◌else◌}
use Rattle.std.proofs.lemmas.Fmt.{decimal_injective}
use Rattle.mz_match_theory.proofs.Offered.{sound-proves}
use Rattle.mz_tool.specs.Samples.{sample_specification}
use Rattle.mz_tool_engine.specs.Run.{Asks, IsProved}
use Rattle.mz_tool_engine.specs.Said.{Files}
use Rattle.mz_tool.specs.Requests.{Request, verify, show, compile, assemble, axioms, draft, portable, specify, decompile, sample, said_of}

abbrev words_of : Request → List (List ℕ)
words_of r = (said_of r).words

abbrev IsInRange : Request → Type 0
IsInRange r = (said_of r).is_in_range

-- what arguments ask for: a sample of the size that is written so, or another request
data Read : Type 0 where
  a_sample : (size : List ℕ) → Read
  another : (r : Request) → Read

size_in : Read → List ℕ
size_in (a_sample size) = size
size_in (another r) = []

request_in : Read → Request
request_in (a_sample size) = sample 0
request_in (another r) = r

IsAnother : Read → Type 0
IsAnother (a_sample size) = ⊥
IsAnother (another r) = Unit {0}

read-one : List ℕ → List ℕ → Read
read-one name word = if bytes_eq name (codes "show") then another (show word) else a_sample word

read-two : List ℕ → List ℕ → List ℕ → Read
read-two name x y =
    if bytes_eq name (codes "verify") then another (verify x y)
    else if bytes_eq name (codes "compile") then another (compile false x y)
    else if bytes_eq name (codes "compile_draft") then another (compile true x y)
    else if bytes_eq name (codes "assemble") then another (assemble x y)
    else if bytes_eq name (codes "axioms") then another (axioms x y)
    else if bytes_eq name (codes "draft") then another (draft x y)
    else if bytes_eq name (codes "portable") then another (portable x y)
    else another (specify x y)

read : List (List ℕ) → Read
read [] = a_sample []
read (name ∷ []) = a_sample []
read (name ∷ x ∷ []) = read-one name x
read (name ∷ x ∷ y ∷ []) = read-two name x y
read (name ∷ x ∷ y ∷ z ∷ rest) = another (decompile x y z)

-- a request is read of its arguments
abbrev IsRead : Request → Type 0
IsRead r = (read (words_of r) ≡ another r) ⊎ ((n : ℕ) × (r ≡ sample n))

is-read : (r : Request) → IsRead r
unfolding read read-one read-two
is-read (verify spec bin) = inl refl
is-read (show bin) = inl refl
is-read (compile false text out) = inl refl
is-read (compile true text out) = inl refl
is-read (assemble listing out) = inl refl
is-read (axioms spec bin) = inl refl
is-read (draft spec bin) = inl refl
is-read (portable spec bin) = inl refl
is-read (specify text out) = inl refl
is-read (decompile spec bin out) = inl refl
is-read (sample n) = inr (n, refl)

size-read : (n : ℕ) → read (words_of (sample n)) ≡ a_sample (decimal n)
unfolding read read-one
size-read n = refl

same-sizes : (n m : ℕ) → words_of (sample n) ≡ words_of (sample m) → IsInRange (sample n) → IsInRange (sample m) → sample n ≡ sample m
unfolding size_in
same-sizes n m e (some, few) (some', few') =
    let same : decimal n ≡ decimal m = ap size_in (sym (size-read n) ∙ ap read e ∙ size-read m) in
    ap sample (decimal_injective n m (omega (arith, few)) (omega (arith, few')) same)

no-sample : (r : Request) (n : ℕ) → read (words_of r) ≡ another r → words_of r ≡ words_of (sample n) → ⊥
unfolding IsAnother
no-sample r n is e =
    let same : another r ≡ a_sample (decimal n) = sym is ∙ ap read e ∙ size-read n in
    subst IsAnother same tt

module _ (r s : Request) (e : words_of r ≡ words_of s) (i : IsInRange r) (j : IsInRange s) where
  same-others : read (words_of r) ≡ another r → read (words_of s) ≡ another s → r ≡ s
  unfolding request_in
  same-others a b = ap request_in (sym a ∙ ap read e ∙ b)

  same-read : IsRead r → IsRead s → r ≡ s
  same-read (inl a) (inl b) = same-others a b
  same-read (inl a) (inr (m, is)) = absurd (no-sample r m a (e ∙ ap words_of is))
  same-read (inr (n, is)) (inl b) = absurd (no-sample s n b (sym e ∙ ap words_of is))
  same-read (inr (n, is)) (inr (m, is')) =
      is ∙ same-sizes n m (sym (ap words_of is) ∙ e ∙ ap words_of is') (subst IsInRange is i) (subst IsInRange is' j) ∙ sym is'

-- arguments ask for one request at the most
pub one-request : (words : List (List ℕ)) (r s : Request) → Asks (said_of r) words → Asks (said_of s) words → r ≡ s
one-request words r s first other = same-read r s (sym first.0 ∙ other.0) first.1 other.1 (is-read r) (is-read s)

-- what a yes promises of the specification alone follows from what it promises of all files
pub promised : (file : Files) (r : Request) → IsProved file (said_of r) → (said_of r).promise file
promised file (verify a b) (spec ∷ bin ∷ [], hold, sound) = (spec, hold.0, sound-proves spec bin sound)
promised file (verify a b) (contents, hold, sound) = absurd sound
promised file (axioms a b) (spec ∷ bin ∷ [], hold, sound) = (spec, hold.0, sound-proves spec bin sound)
promised file (axioms a b) (contents, hold, sound) = absurd sound
promised file (portable a b) (spec ∷ bin ∷ [], hold, (sound, accepts)) = (spec, hold.0, sound-proves spec bin sound)
promised file (portable a b) (contents, hold, sound) = absurd sound
promised file (decompile a b out) (spec ∷ bin ∷ [], hold, (sound, texts)) = (spec, hold.0, sound-proves spec bin sound)
promised file (decompile a b out) (contents, hold, sound) = absurd sound
promised file (sample n) ([], hold, (bin, compiles, sound)) = sound-proves (sample_specification n) bin sound
promised file (sample n) (contents, hold, sound) = absurd sound
promised file (show b) proved = tt
promised file (compile gaps a b) proved = tt
promised file (assemble a b) proved = tt
promised file (draft a b) proved = tt
promised file (specify a b) proved = tt

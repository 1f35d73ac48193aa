-- What the first declarations have, all have at the same places.
use Rattle.std.proofs.Common.{◌≡◌, ℕ, List, ◌++◌, take, drop, slice_get, Some, ap, sym, subst, ◌∙◌}
use Rattle.std.proofs.lemmas.List.{take-append-drop}
use Rattle.mz_logic_theory.specs.Declaration.{Declaration, Term, Assertion, terms, assertions}
use Rattle.mz_logic_theory.proofs.Offered.{assertions-append, extends_append, terms-append}

pub term-of-all : (n : ℕ) (ds : List Declaration) (k : ℕ) (t : Term) → slice_get (terms (take n ds)) k ≡ Some t → slice_get (terms ds) k ≡ Some t
term-of-all n ds k t at =
    subst (λ xs. slice_get xs k ≡ Some t) (sym (terms-append (take n ds) (drop n ds)) ∙ ap terms (take-append-drop n ds))
    (extends_append (terms (take n ds)) (terms (drop n ds)) k t at)

pub assertion-of-all : (n : ℕ) (ds : List Declaration) (k : ℕ) (a : Assertion) → slice_get (assertions (take n ds)) k ≡ Some a → slice_get (assertions ds) k ≡ Some a
assertion-of-all n ds k a at =
    subst (λ xs. slice_get xs k ≡ Some a) (sym (assertions-append (take n ds) (drop n ds)) ∙ ap assertions (take-append-drop n ds))
    (extends_append (assertions (take n ds)) (assertions (drop n ds)) k a at)

-- Expressions and proofs taken from the top, one after another.
use Rattle.std.proofs.Common.{◌≡◌, ◌<◌, ℕ, ◌+◌, List, [], ◌∷◌, ◌++◌, length, map, refl, sym, ap, ◌∙◌, arith}
use Rattle.std.proofs.lemmas.List.{map-append}
use Rattle.mz_trace.specs.Entries.{HasExpr, HasProof, exprs_onto, proofs_onto}
use Rattle.mz_trace.specs.declared.entry.Item.TheVariants.{Expr, Proof}
use Rattle.mz_trace.specs.declared.entry.Entry.{Entry}
use Rattle.mz_trace.specs.declared.entry.Entry.TheVariants.{Held}

-- ---- expressions

module _ (xs : List Entry) (i count : ℕ) (below : i < count) where
  pub has-expr : (ns : List ℕ) (ys : List Entry) → xs ≡ exprs_onto ns ys → length ns + i ≡ count → HasExpr xs
  has-expr [] ys is many = absurd (omega (arith, many, below))
  has-expr (n ∷ ns) ys is many = (n, exprs_onto ns ys, is)

  abbrev pub ExprsLeft : List Entry → Type 0
  ExprsLeft zs = (ns : List ℕ) × (ys : List Entry) × (zs ≡ exprs_onto ns ys) × (length ns + (i + 1) ≡ count)

  pub exprs-left : (n : ℕ) (zs : List Entry) (ns : List ℕ) (ys : List Entry) → xs ≡ Held (Expr n) ∷ zs → xs ≡ exprs_onto ns ys → length ns + i ≡ count → ExprsLeft zs
  exprs-left n zs [] ys top is many = absurd (omega (arith, many, below))
  exprs-left n zs (m ∷ ns) ys top is many =
      let both : Held (Expr n) ∷ zs ≡ Held (Expr m) ∷ exprs_onto ns ys = sym top ∙ is in
      let rest : zs ≡ exprs_onto ns ys = cc in
      (ns, ys, rest, omega (arith, many))

pub exprs-more : (ns : List ℕ) (n : ℕ) (xs : List Entry) → exprs_onto (ns ++ n ∷ []) xs ≡ exprs_onto ns (Held (Expr n) ∷ xs)
exprs-more [] n xs = refl
exprs-more (m ∷ ns) n xs = ap (λ ys. Held (Expr m) ∷ ys) (exprs-more ns n xs)

-- ---- proofs

module _ (xs : List Entry) (i count : ℕ) (below : i < count) where
  pub has-proof : (ps : List (ℕ × ℕ)) (ys : List Entry) → xs ≡ proofs_onto ps ys → length ps + i ≡ count → HasProof xs
  has-proof [] ys is many = absurd (omega (arith, many, below))
  has-proof (p ∷ ps) ys is many = (p.0, p.1, proofs_onto ps ys, is)

  abbrev pub ProofsLeft : List Entry → Type 0
  ProofsLeft zs = (ps : List (ℕ × ℕ)) × (ys : List Entry) × (zs ≡ proofs_onto ps ys) × (length ps + (i + 1) ≡ count)

  pub proofs-left : (e p : ℕ) (zs : List Entry) (ps : List (ℕ × ℕ)) (ys : List Entry) → xs ≡ Held (Proof e p) ∷ zs → xs ≡ proofs_onto ps ys → length ps + i ≡ count → ProofsLeft zs
  proofs-left e p zs [] ys top is many = absurd (omega (arith, many, below))
  proofs-left e p zs (q ∷ ps) ys top is many =
      let both : Held (Proof e p) ∷ zs ≡ Held (Proof q.0 q.1) ∷ proofs_onto ps ys = sym top ∙ is in
      let rest : zs ≡ proofs_onto ps ys = cc in
      (ps, ys, rest, omega (arith, many))

pub proofs-more : (ps : List (ℕ × ℕ)) (e p : ℕ) (xs : List Entry) → proofs_onto (ps ++ (e, p) ∷ []) xs ≡ proofs_onto ps (Held (Proof e p) ∷ xs)
proofs-more [] e p xs = refl
proofs-more (q ∷ ps) e p xs = ap (λ ys. Held (Proof q.0 q.1) ∷ ys) (proofs-more ps e p xs)

pub seconds-more : (ps : List (ℕ × ℕ)) (e p : ℕ) (ns : List ℕ) → map (λ (q : ℕ × ℕ). q.1) ps ≡ ns → map (λ (q : ℕ × ℕ). q.1) (ps ++ (e, p) ∷ []) ≡ ns ++ p ∷ []
seconds-more ps e p ns is = map-append (λ (q : ℕ × ℕ). q.1) ps ((e, p) ∷ []) ∙ ap (λ ms. ms ++ p ∷ []) is

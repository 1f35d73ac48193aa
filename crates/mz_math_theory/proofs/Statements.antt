-- Each statement on delimiters and each on coercions is of its form or not, and leaves one path or not.
use Rattle.std.proofs.Common.{◌≡◌, ◌⊎◌, ◌++◌, ◌∙◌, ℕ, List, [], ◌∷◌, Option, Some, None, false, ap, sym, refl, subst, inl, inr, map, slice_get, Contains}
use Rattle.std.proofs.lemmas.Option.{slice_get_within, get_or_from_slice_get}
use Rattle.mz_base.proofs.Offered.{some-decided, Decided, all_hold-or_fails, both-decided}
use Rattle.mz_base.specs.Checks.{AllHold, FailsFirst}
use Rattle.mz_logic_theory.specs.Signature.{Signature}
use Rattle.mz_logic_theory.specs.declared.binder.Binder.{Binder}
use Rattle.mz_lex.specs.MathTokens.{no_delimiters, MathTokens, token_texts, AreCharacters, AreDelimiters}
use Rattle.mz_lex.specs.declared.tokens.Delimiters.{Delimiters}
use Rattle.mz_lex.specs.declared.tokens.MathToken.{MathToken}
use Rattle.mz_math_theory.specs.Notation.{Table}
use Rattle.mz_math_theory.specs.declared.coercion.Coercion.{Coercion}
use Rattle.mz_math_theory.specs.Coercions.{IsPath, OnePath}
use Rattle.mz_math_theory.specs.Kept.{IsTable}
use Rattle.mz_math_theory.specs.Forms.{IsCoercion, coercion_checks, delimiter_checks}
use Rattle.mz_math_theory.specs.declared.fault.NoteFault.{NoteFault}
use Rattle.mz_math_theory.specs.CoercionAnswers.{MayStart, MayEnd, IsClashAt}
use Rattle.mz_lex.proofs.Offered.{math_tokens-one}
use Rattle.mz_math_theory.proofs.Paths.{stays-one, clash-two, clash-parts, clash-made}
use Rattle.mz_math_theory.proofs.Deciding.{found, equal-decided, true-decided}
use Rattle.mz_math_theory.proofs.Standing.{path-decided}
use Rattle.mz_math_theory.proofs.Existing.{some-math_tokens}

-- ---- delimiters

one-each : (ts : List (List ℕ)) → Decided ((cs : List ℕ) × (ts ≡ map (λ c. c ∷ []) cs))
one-each [] = inl ([], refl)
one-each ([] ∷ ts) = inr (λ h. no h.0 h.1)
  where
    no : (cs : List ℕ) → [] ∷ ts ≡ map (λ c. c ∷ []) cs → ⊥
    no [] e = cc
    no (c ∷ cs) e = cc
one-each ((c ∷ d ∷ bytes) ∷ ts) = inr (λ h. no h.0 h.1)
  where
    no : (cs : List ℕ) → (c ∷ d ∷ bytes) ∷ ts ≡ map (λ x. x ∷ []) cs → ⊥
    no [] e = cc
    no (x ∷ cs) e = cc
one-each ((c ∷ []) ∷ ts) = go (one-each ts)
  where
    go : Decided ((cs : List ℕ) × (ts ≡ map (λ x. x ∷ []) cs)) → Decided ((cs : List ℕ) × ((c ∷ []) ∷ ts ≡ map (λ x. x ∷ []) cs))
    go (inl (cs, is)) = inl (c ∷ cs, ap (λ us. (c ∷ []) ∷ us) is)
    go (inr never) = inr (λ h. no h.0 h.1)
      where
        no : (cs : List ℕ) → (c ∷ []) ∷ ts ≡ map (λ x. x ∷ []) cs → ⊥
        no [] e = cc
        no (x ∷ cs) e = never (cs, (let tail : ts ≡ map (λ y. y ∷ []) cs = cc in tail))

characters-decided : (text : List ℕ) → Decided ((cs : List ℕ) × AreCharacters text cs)
characters-decided text = go (some-math_tokens no_delimiters text)
  where
    go : (ps : List MathToken) × MathTokens no_delimiters text ps → Decided ((cs : List ℕ) × AreCharacters text cs)
    go (ps, pieces) = told (one-each (token_texts text ps))
      where
        told : Decided ((cs : List ℕ) × (token_texts text ps ≡ map (λ c. c ∷ []) cs)) → Decided ((cs : List ℕ) × AreCharacters text cs)
        told (inl (cs, is)) = inl (cs, (ps, pieces, is))
        told (inr never) = inr no
          where
            no : (cs : List ℕ) × AreCharacters text cs → ⊥
            no (cs, (qs, others, is)) = never (cs, ap (token_texts text) (math_tokens-one no_delimiters text 0 ps qs pieces others) ∙ is)

delimiters-decided : (left : List ℕ) (right : Option (List ℕ)) → Decided ((d : Delimiters) × AreDelimiters left right d)
delimiters-decided left None = go (characters-decided left)
  where
    go : Decided ((cs : List ℕ) × AreCharacters left cs) → Decided ((d : Delimiters) × AreDelimiters left None d)
    go (inl (cs, are)) = inl (record { left = cs; right = cs }, (are, are))
    go (inr never) = inr (λ h. never (h.0.left, h.1.0))
delimiters-decided left (Some right) = go (characters-decided left) (characters-decided right)
  where
    go : Decided ((cs : List ℕ) × AreCharacters left cs) → Decided ((cs : List ℕ) × AreCharacters right cs) → Decided ((d : Delimiters) × AreDelimiters left (Some right) d)
    go (inl (cs, are)) (inl (bs, these)) = inl (record { left = cs; right = bs }, (are, these))
    go (inr never) d = inr (λ h. never (h.0.left, h.1.0))
    go (inl are) (inr never) = inr (λ h. never (h.0.right, h.1.1))

pub delimiters-judged : (left : List ℕ) (right : Option (List ℕ)) → AllHold (delimiter_checks left right) ⊎ ((f : NoteFault) × FailsFirst (delimiter_checks left right) f)
delimiters-judged left right = all_hold-or_fails (delimiter_checks left right) (delimiters-decided left right, λ is. tt)

-- ---- coercions

coercion-decided : (sigs : List Signature) (c : Coercion) → Decided (IsCoercion sigs c)
coercion-decided sigs c = go (some-decided (slice_get sigs c.term))
  where
    one : (a b : Signature) → Some a ≡ Some b → a ≡ b
    one a b e = cc

    head : (x y : Binder) (xs ys : List Binder) → x ∷ xs ≡ y ∷ ys → x ≡ y
    head x y xs ys e = cc

    of : (s : Signature) → slice_get sigs c.term ≡ Some s → (bs : List Binder) → s.params ≡ bs → Decided (IsCoercion sigs c)
    of s at [] e = inr no
      where
        no : IsCoercion sigs c → ⊥
        no (r, b, at_r, params, bound, from, to) = other (sym e ∙ ap (λ (x : Signature). x.params) (sym (one r s (sym at_r ∙ at))) ∙ params)
          where
            other : [] ≡ b ∷ [] → ⊥
            other h = cc
    of s at (x ∷ y ∷ bs) e = inr no
      where
        no : IsCoercion sigs c → ⊥
        no (r, b, at_r, params, bound, from, to) = other (sym e ∙ ap (λ (z : Signature). z.params) (sym (one r s (sym at_r ∙ at))) ∙ params)
          where
            other : x ∷ y ∷ bs ≡ b ∷ [] → ⊥
            other h = cc
    of s at (x ∷ []) e = told (both-decided (true-decided x.bound false) (both-decided (equal-decided x.sort c.from) (equal-decided s.result.sort c.to)))
      where
        told : Decided ((x.bound ≡ false) × ((x.sort ≡ c.from) × (s.result.sort ≡ c.to))) → Decided (IsCoercion sigs c)
        told (inl (bound, (from, to))) = inl (s, x, at, e, bound, from, to)
        told (inr never) = inr no
          where
            no : IsCoercion sigs c → ⊥
            no (r, b, at_r, params, bound, from, to) =
                let same : r ≡ s = one r s (sym at_r ∙ at) in
                let first : b ≡ x = head b x [] [] (sym params ∙ ap (λ (z : Signature). z.params) same ∙ e) in
                never (subst (λ (z : Binder). z.bound ≡ false) first bound, (subst (λ (z : Binder). z.sort ≡ c.from) first from, subst (λ (z : Signature). z.result.sort ≡ c.to) same to))

    go : Decided ((s : Signature) × (slice_get sigs c.term ≡ Some s)) → Decided (IsCoercion sigs c)
    go (inl (s, at)) = of s at s.params refl
    go (inr never) = inr no
      where
        no : IsCoercion sigs c → ⊥
        no (r, b, at_r, params, bound, from, to) = never (r, at_r)

module _ (cs : List Coercion) (c : Coercion) (one : OnePath cs) where
  clash-decided : (from to : ℕ) → Decided (IsClashAt cs c from to)
  clash-decided from to = go (both-decided (path-decided cs one from c.from) (both-decided (path-decided cs one c.to to) (path-decided cs one from to)))
    where
      go : Decided (((p : List ℕ) × IsPath cs from p c.from) × (((q : List ℕ) × IsPath cs c.to q to) × ((r : List ℕ) × IsPath cs from r to))) → Decided (IsClashAt cs c from to)
      go (inl (p, (q, r))) = inl (clash-made cs c from to p q r)
      go (inr never) = inr (λ h. let parts = clash-parts cs c from to h in never (parts.0, (parts.1, parts.2)))

  abbrev all : List Coercion
  all = cs ++ c ∷ []

  ends-decided : (from : ℕ) → Decided ((d : Coercion) × Contains all d × IsClashAt cs c from d.to)
  ends-decided from = told (found (λ d. IsClashAt cs c from d.to) (λ d. clash-decided from d.to) all)
    where
      told : ((d : Coercion) × Contains all d × IsClashAt cs c from d.to) ⊎ ((d : Coercion) → Contains all d → IsClashAt cs c from d.to → ⊥) → Decided ((d : Coercion) × Contains all d × IsClashAt cs c from d.to)
      told (inl h) = inl h
      told (inr never) = inr (λ h. never h.0 h.1 h.2)

  stays-decided : Decided (OnePath all)
  stays-decided = told (found (λ b. (d : Coercion) × Contains all d × IsClashAt cs c b.from d.to) (λ b. ends-decided b.from) all)
    where
      told : ((b : Coercion) × Contains all b × ((d : Coercion) × Contains all d × IsClashAt cs c b.from d.to)) ⊎ ((b : Coercion) → Contains all b → (d : Coercion) × Contains all d × IsClashAt cs c b.from d.to → ⊥) → Decided (OnePath all)
      told (inl (b, in_b, (d, in_d, clash))) = inr (clash-two cs c b.from d.to clash)
      told (inr never) = inl (stays-one cs c one none)
        where
          none : (i from j to : ℕ) → MayStart cs c i from → MayEnd cs c j to → IsClashAt cs c from to → ⊥
          none i from j to (b, at_b, begins) (d, at_d, ends) clash =
              never b (i, slice_get_within all i b at_b, get_or_from_slice_get all i b b at_b)
              (d, (j, slice_get_within all j d at_d, get_or_from_slice_get all j d d at_d), subst (λ x. IsClashAt cs c x d.to) (sym begins) (subst (IsClashAt cs c from) (sym ends) clash))

pub coercions-judged : (sigs : List Signature) (t : Table) (c : Coercion) → IsTable t → AllHold (coercion_checks sigs t c) ⊎ ((f : NoteFault) × FailsFirst (coercion_checks sigs t c) f)
coercions-judged sigs t c is = all_hold-or_fails (coercion_checks sigs t c) (coercion-decided sigs c, λ form. (stays-decided t.coercions c is.one_path, λ stays. tt))

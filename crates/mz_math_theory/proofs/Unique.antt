-- Each token list is at most one expression.
use Rattle.std.proofs.Common.{◌≡◌, ◌≤◌, ◌<◌, ◌⊎◌, ◌++◌, ◌∙◌, ℕ, zero, suc, List, [], ◌∷◌, Some, ap, ap₂, sym, refl, subst, inl, inr, arith, append_assoc, Contains, slice_get, length}
use Rattle.std.specs.Prelude.{codes, ⊤}
use Rattle.std.proofs.lemmas.Option.{slice_get_within, get_or_from_slice_get, same_Some}
use Rattle.mz_base.proofs.Offered.{same-head as cons_head, same-tail, place-of}
use Rattle.mz_math_theory.specs.Notation.{max_level}
use Rattle.mz_math_theory.specs.declared.notation.Element.{Element}
use Rattle.mz_math_theory.specs.declared.notation.Element.TheVariants.{Fixed as fixed, Slot as slot}
use Rattle.mz_math_theory.specs.declared.notation.Notation.{Notation}
use Rattle.mz_math_theory.specs.Clear.{IsOne, LedBy, JoinedBy, HasConstant}
use Rattle.mz_math_theory.specs.Grammar.{Item, token, expr, items, level_before, operands_at_max, ParseHead, variable, parens, applied, notated, Parse, Parts, headed, joined, end, word, part, level_of, head_level, head_items, infix_items, behind_first, last_level, tokens_of, part_tokens, Words, IsHead, IsTermName, IsNamed, IsVariable, IsExp, AreParts, CanLead}
use Rattle.mz_math_theory.specs.Readable.{IsReadable}
use Rattle.mz_math_theory.specs.Reading as Reading
use Rattle.mz_math_theory.specs.Reading.{Step, build, step_tokens}
use Rattle.mz_math_theory.proofs.Chains.{base, base_parts, steps_of, rebuilt, tokens-build, above-more, le_last, last_left, inner, level-falls}

-- ---- lists

-- the notation of a constant
pub one-notation : (By : Notation → List ℕ → Type 0) (ks : List Notation) (k l : Notation) (w : List ℕ) → IsOne By ks → Contains ks k → Contains ks l → By k w → By l w → k ≡ l
one-notation By ks k l w one in_k in_l by_k by_l =
    let at = place-of ks k in_k in
    let there = place-of ks l in_l in
    let same : at.0 ≡ there.0 = one at.0 there.0 k l w at.1 there.1 by_k by_l in
    same_Some _ _ (sym at.1 ∙ ap (slice_get ks) same ∙ there.1)

-- ---- what follows an expression

module _ (ws : Words) (right : IsReadable ws) where
  abbrev NotJoined : ℕ → List (List ℕ) → Type 0
  NotJoined n xs = Reading.NotJoined ws n xs

  abbrev Before : ℕ → List Item → List (List ℕ) → Type 0
  Before l its xs = Reading.Before ws l its xs

  abbrev Spaced : List Item → List (List ℕ) → Type 0
  Spaced its xs = Reading.Spaced ws its xs

  pub not_joined-more : (n m : ℕ) (xs : List (List ℕ)) → n ≤ m → NotJoined n xs → NotJoined m xs
  not_joined-more n m [] le not = tt
  not_joined-more n m (w ∷ xs) le not = λ k in_k by. let less = not k in_k by in omega (arith, less)

  pub not_joined-max : (xs : List (List ℕ)) → NotJoined max_level xs
  not_joined-max [] = tt
  not_joined-max (w ∷ xs) = λ k in_k by. right.clear.not_max k in_k

  pub behind : (l : ℕ) (its : List Item) (ps : Parts) (xs : List (List ℕ)) → Before l its xs → AreParts ws its ps → NotJoined l (part_tokens ps ++ xs)
  behind l [] end xs before are = before
  behind l [] (word w ps) xs before are = absurd are
  behind l [] (part p ps) xs before are = absurd are
  behind l (token c ∷ its) end xs before are = absurd are
  behind l (token c ∷ its) (word w ps) xs before (same, are) = λ k in_k by. before k in_k (subst (JoinedBy k) same by)
  behind l (token c ∷ its) (part p ps) xs before are = absurd are
  behind l (expr m ∷ its) ps xs before are = subst (λ n. NotJoined n (part_tokens ps ++ xs)) (sym before) (not_joined-max (part_tokens ps ++ xs))

  -- ---- the forms are spaced

  pub has-constant : (k : Notation) (w : List ℕ) → Contains ws.infixes k → JoinedBy k w → HasConstant ws.infixes w k.level
  has-constant k w in_k (i, ls, is) = (k, in_k, subst (λ xs. Contains xs (fixed w k.level)) (sym is) (1, omega arith, refl))

  pub spaced-elements : (ls : List Element) (last : ℕ) (xs : List (List ℕ))
      → ((c : List ℕ) (q : ℕ) → Contains ls (fixed c q) → HasConstant ws.leading c q ⊎ HasConstant ws.infixes c q)
      → NotJoined last xs → Spaced (items ls last) xs
  spaced-elements [] last xs has not = tt
  spaced-elements (fixed c q ∷ ls) last xs has not = spaced-elements ls last xs (λ d p at. has d p (later at)) not
    where
      later : {l m : Element} → Contains ls m → Contains (l ∷ ls) m
      later (k, below, is) = (suc k, omega arith, is)
  spaced-elements (slot i ∷ ls) last xs has not = (before ls (λ d p at. has d p (later at)), spaced-elements ls last xs (λ d p at. has d p (later at)) not)
    where
      later : {l m : Element} → Contains ls m → Contains (l ∷ ls) m
      later (k, below, is) = (suc k, omega arith, is)

      before : (ms : List Element) → ((c : List ℕ) (q : ℕ) → Contains ms (fixed c q) → HasConstant ws.leading c q ⊎ HasConstant ws.infixes c q)
          → Before (level_before ms last) (items ms last) xs
      before [] has_m = not
      before (fixed c q ∷ ms) has_m = λ k in_k by.
          let same : k.level ≡ q = right.clear.levels c k.level q (inr (has-constant k c in_k by)) (has_m c q (0, omega arith, refl)) in
          let less = right.clear.not_max k in_k in
          let more = above-more q (omega (arith, same, less)) in
          omega (arith, same, more)
      before (slot j ∷ ms) has_m = refl

  pub spaced-max : (n : ℕ) (xs : List (List ℕ)) → Spaced (operands_at_max n) xs
  spaced-max zero xs = tt
  spaced-max (suc zero) xs = (not_joined-max xs, tt)
  spaced-max (suc (suc n)) xs = (refl, spaced-max (suc n) xs)

  pub in-elements : (ks : List Notation) (k : Notation) → Contains ks k → (c : List ℕ) (q : ℕ) → Contains k.elements (fixed c q) → HasConstant ks c q
  in-elements ks k in_k c q at = (k, in_k, at)

  pub spaced-head : (h : ParseHead) (xs : List (List ℕ)) → IsHead ws h → NotJoined (head_level h) xs → Spaced (head_items h) xs
  spaced-head (variable name x) xs is not = tt
  spaced-head parens xs is not = (λ k in_k by. absurd (right.no_infix k in_k by), tt)
  spaced-head (applied name t n) xs is not = spaced-max n xs
  spaced-head (notated k) xs is not = spaced-elements k.elements k.level xs (λ c q at. inl (in-elements ws.leading k is.0 c q at)) not

  pub spaced-infix : (k : Notation) (xs : List (List ℕ)) → Contains ws.infixes k → NotJoined (last_level k) xs → Spaced (infix_items k) xs
  spaced-infix k xs in_k not = spaced-elements (behind_first k.elements) (last_level k) xs (λ c q at. inr (in-elements ws.infixes k in_k c q (whole k.elements c q at))) not
    where
      whole : (ls : List Element) (c : List ℕ) (q : ℕ) → Contains (behind_first ls) (fixed c q) → Contains ls (fixed c q)
      whole [] c q at = at
      whole (l ∷ ls) c q (i, below, is) = (suc i, omega arith, is)

  -- ---- the operands of one form

  -- p is the one expression of its tokens, whatever follows
  abbrev pub IsUnique : Parse → Type 0
  IsUnique p = (q : Parse) (n : ℕ) (xs ys : List (List ℕ)) → IsExp ws p → IsExp ws q → n ≤ level_of p → n ≤ level_of q → NotJoined n xs → NotJoined n ys
      → tokens_of p ++ xs ≡ tokens_of q ++ ys → (p ≡ q) × (xs ≡ ys)

  abbrev pub AreUnique : Parts → Type 0
  AreUnique end = ⊤
  AreUnique (word w ps) = AreUnique ps
  AreUnique (part p ps) = IsUnique p × AreUnique ps

  pub parts-same : (its : List Item) (ps qs : Parts) (xs ys : List (List ℕ)) → AreUnique ps → AreParts ws its ps → AreParts ws its qs → Spaced its xs → Spaced its ys
      → part_tokens ps ++ xs ≡ part_tokens qs ++ ys → (ps ≡ qs) × (xs ≡ ys)
  parts-same [] end end xs ys one are_p are_q sp_x sp_y e = (refl, e)
  parts-same [] end (word w qs) xs ys one are_p are_q sp_x sp_y e = absurd are_q
  parts-same [] end (part q qs) xs ys one are_p are_q sp_x sp_y e = absurd are_q
  parts-same [] (word w ps) qs xs ys one are_p are_q sp_x sp_y e = absurd are_p
  parts-same [] (part p ps) qs xs ys one are_p are_q sp_x sp_y e = absurd are_p
  parts-same (token c ∷ its) end qs xs ys one are_p are_q sp_x sp_y e = absurd are_p
  parts-same (token c ∷ its) (part p ps) qs xs ys one are_p are_q sp_x sp_y e = absurd are_p
  parts-same (token c ∷ its) (word w ps) end xs ys one are_p are_q sp_x sp_y e = absurd are_q
  parts-same (token c ∷ its) (word w ps) (part q qs) xs ys one are_p are_q sp_x sp_y e = absurd are_q
  parts-same (token c ∷ its) (word w ps) (word v qs) xs ys one (w_is, are_p) (v_is, are_q) sp_x sp_y e =
      let rest = parts-same its ps qs xs ys one are_p are_q sp_x sp_y (same-tail e) in
      (ap₂ word (w_is ∙ sym v_is) rest.0, rest.1)
  parts-same (expr l ∷ its) end qs xs ys one are_p are_q sp_x sp_y e = absurd are_p
  parts-same (expr l ∷ its) (word w ps) qs xs ys one are_p are_q sp_x sp_y e = absurd are_p
  parts-same (expr l ∷ its) (part p ps) end xs ys one are_p are_q sp_x sp_y e = absurd are_q
  parts-same (expr l ∷ its) (part p ps) (word v qs) xs ys one are_p are_q sp_x sp_y e = absurd are_q
  parts-same (expr l ∷ its) (part p ps) (part q qs) xs ys (u, one) (le_p, is_p, are_p) (le_q, is_q, are_q) (before_x, sp_x) (before_y, sp_y) e =
      let here = u q l (part_tokens ps ++ xs) (part_tokens qs ++ ys) is_p is_q le_p le_q (behind l its ps xs before_x are_p) (behind l its qs ys before_y are_q)
      (sym (append_assoc (tokens_of p) (part_tokens ps) xs) ∙ e ∙ append_assoc (tokens_of q) (part_tokens qs) ys) in
      let rest = parts-same its ps qs xs ys one are_p are_q sp_x sp_y here.1 in
      (ap₂ part here.0 rest.0, rest.1)

  -- ---- which form stands first

  pub token-first : (c : List ℕ) (its : List Item) (ps : Parts) → AreParts ws (token c ∷ its) ps → (rest : Parts) × (ps ≡ word c rest)
  token-first c its end are = absurd are
  token-first c its (word w ps) (same, are) = (ps, ap (λ v. word v ps) same)
  token-first c its (part p ps) are = absurd are

  abbrev pub BeginsWith : ParseHead → List ℕ → Type 0
  BeginsWith (variable name x) w = name ≡ w
  BeginsWith parens w = codes "(" ≡ w
  BeginsWith (applied name t n) w = name ≡ w
  BeginsWith (notated k) w = LedBy k w

  pub head-begins : (h : ParseHead) (ps : Parts) → IsHead ws h → AreParts ws (head_items h) ps → (w : List ℕ) × (rest : Parts) × BeginsWith h w × (ps ≡ word w rest)
  head-begins (variable name x) ps is are = let first = token-first name [] ps are in (name, first.0, refl, first.1)
  head-begins parens ps is are = let first = token-first (codes "(") (expr 0 ∷ token (codes ")") ∷ []) ps are in (codes "(", first.0, refl, first.1)
  head-begins (applied name t n) ps is are = let first = token-first name (operands_at_max n) ps are in (name, first.0, refl, first.1)
  head-begins (notated k) ps is are =
      let led = right.led k is.0 in
      let first = token-first led.0 (items led.1.0 k.level) ps (subst (λ ls. AreParts ws (items ls k.level) ps) led.1.1 are) in
      (led.0, first.0, led.1, first.1)

  pub step-begins : (k : Notation) (ps : Parts) → Contains ws.infixes k → AreParts ws (infix_items k) ps → (w : List ℕ) × (rest : Parts) × JoinedBy k w × (ps ≡ word w rest)
  step-begins k ps in_k are =
      let by = right.joined k in_k in
      let first = token-first by.0 (items by.1.1 (last_level k)) ps (subst (λ ls. AreParts ws (items (behind_first ls) (last_level k)) ps) by.1.2 are) in
      (by.0, first.0, by.1, first.1)

  pub is-variable : (name : List ℕ) (x : ℕ) → IsHead ws (variable name x) → IsVariable ws name
  is-variable name x (some, at) = (some, (x, slice_get_within ws.variables x name at, get_or_from_slice_get ws.variables x name name at))

  is-named : (name : List ℕ) (t n : ℕ) → IsTermName ws name t n → IsNamed ws name
  is-named name t n is = (is.0, is.1, is.2)

  same-term : (v w : List ℕ) (t u n m : ℕ) → IsTermName ws v t n → IsTermName ws w u m → v ≡ w → t ≡ u
  same-term v w t u n m (a, in_a, name_a, term_a, (d, at_d, many_d)) (b, in_b, name_b, term_b, (e, at_e, many_e)) same =
      sym term_a ∙ right.one_term_each a b in_a in_b (name_a ∙ same ∙ sym name_b) ∙ term_b

  same-arity : (v w : List ℕ) (t u n m : ℕ) → IsTermName ws v t n → IsTermName ws w u m → t ≡ u → n ≡ m
  same-arity v w t u n m (a, in_a, name_a, term_a, (d, at_d, many_d)) (b, in_b, name_b, term_b, (e, at_e, many_e)) place =
      let same : d ≡ e = same_Some _ _ (sym at_d ∙ ap (slice_get ws.signatures) place ∙ at_e) in
      sym many_d ∙ ap (λ s. length s.params) same ∙ many_e

  -- a token is first a variable, then a leading constant, then a term's name
  pub same-head : (h g : ParseHead) (w : List ℕ) → IsHead ws h → IsHead ws g → BeginsWith h w → BeginsWith g w → h ≡ g
  same-head (variable name x) (variable other y) w is_h is_g b_h b_g =
      let same = b_h ∙ sym b_g in
      let place : x ≡ y = right.variables x y name is_h.0 is_h.1 (is_g.1 ∙ ap Some (sym same)) in ap₂ variable same place
  same-head (variable name x) parens w is_h is_g b_h b_g = absurd (right.no_variable (subst (IsVariable ws) (b_h ∙ sym b_g) (is-variable name x is_h)))
  same-head (variable name x) (applied other t n) w is_h is_g b_h b_g = absurd (is_g.1 (subst (IsVariable ws) (b_h ∙ sym b_g) (is-variable name x is_h)))
  same-head (variable name x) (notated k) w is_h is_g b_h b_g = absurd (is_g.1 w b_g (subst (IsVariable ws) b_h (is-variable name x is_h)))
  same-head parens (variable name x) w is_h is_g b_h b_g = absurd (right.no_variable (subst (IsVariable ws) (b_g ∙ sym b_h) (is-variable name x is_g)))
  same-head parens parens w is_h is_g b_h b_g = refl
  same-head parens (applied name t n) w is_h is_g b_h b_g = absurd (right.no_term (subst (IsNamed ws) (b_g ∙ sym b_h) (is-named name t n is_g.0)))
  same-head parens (notated k) w is_h is_g b_h b_g = absurd (right.no_leading k is_g.0 (subst (LedBy k) (sym b_h) b_g))
  same-head (applied name t n) (variable other x) w is_h is_g b_h b_g = absurd (is_h.1 (subst (IsVariable ws) (b_g ∙ sym b_h) (is-variable other x is_g)))
  same-head (applied name t n) parens w is_h is_g b_h b_g = absurd (right.no_term (subst (IsNamed ws) (b_h ∙ sym b_g) (is-named name t n is_h.0)))
  same-head (applied name t n) (applied other u m) w is_h is_g b_h b_g =
      let same = b_h ∙ sym b_g in
      let place : t ≡ u = same-term name other t u n m is_h.0 is_g.0 same in
      let arity : n ≡ m = same-arity name other t u n m is_h.0 is_g.0 place in
      ap₂ (λ v i. applied v i n) same place ∙ ap (applied other u) arity
  same-head (applied name t n) (notated k) w is_h is_g b_h b_g = absurd (is_h.2 (k, is_g.0, subst (LedBy k) (sym b_h) b_g))
  same-head (notated k) (variable name x) w is_h is_g b_h b_g = absurd (is_h.1 w b_h (subst (IsVariable ws) b_g (is-variable name x is_g)))
  same-head (notated k) parens w is_h is_g b_h b_g = absurd (right.no_leading k is_h.0 (subst (LedBy k) (sym b_g) b_h))
  same-head (notated k) (applied name t n) w is_h is_g b_h b_g = absurd (is_g.2 (k, is_h.0, subst (LedBy k) (sym b_g) b_h))
  same-head (notated k) (notated l) w is_h is_g b_h b_g = ap notated (one-notation LedBy ws.leading k l w right.clear.led is_h.0 is_g.0 b_h b_g)

  -- ---- chains

  abbrev pub open_level : Parse → ℕ
  open_level (headed h ps) = head_level h
  open_level (joined k p ps) = last_level k

  pub le_open : (p : Parse) → IsExp ws p → level_of p ≤ open_level p
  le_open (headed h ps) is = omega arith
  le_open (joined k p ps) is = le_last k (right.clear.not_max k is.0)

  pub lead-open : (k : Notation) (p : Parse) → Contains ws.infixes k → IsExp ws p → CanLead k p → k.level < open_level p
  lead-open k p in_k is (inl more) =
      let less = right.clear.not_max k in_k in let open_le = le_open p is in omega (arith, above-more k.level less, open_le)
  lead-open k (headed h ps) in_k is (inr (left, form, same)) = absurd form
  lead-open k (joined l p ps) in_k is (inr (left, form, same)) = let less = last_left l form (right.clear.not_max l is.0) in omega (arith, same, less)

  -- what stands behind the inner part of an expression cannot be joined to its last operand
  pub follows : (p : Parse) (ss : List Step) (n : ℕ) (xs : List (List ℕ)) → IsExp ws (build p ss) → n ≤ level_of (build p ss) → NotJoined n xs
      → NotJoined (open_level p) (step_tokens ss ++ xs)
  follows p [] n xs is le not = let open_le = le_open p is in not_joined-more n (open_level p) xs (omega (arith, open_le)) not
  follows p (s ∷ ss) n xs is le not =
      let here = inner ws (joined s.notation p s.parts) ss is in
      let first = step-begins s.notation s.parts here.0 here.3 in
      let less = lead-open s.notation p here.0 here.2 here.1 in
      subst (λ ps. NotJoined (open_level p) ((part_tokens ps ++ step_tokens ss) ++ xs)) (sym first.3)
      (λ k in_k by. subst (λ l. l.level < open_level p) (one-notation JoinedBy ws.infixes s.notation k first.0 right.clear.joined here.0 in_k first.2 by) less)

  abbrev pub GoodSteps : List Step → Type 0
  GoodSteps [] = ⊤
  GoodSteps (s ∷ ss) = AreUnique s.parts × GoodSteps ss

  -- no step stands where nothing can be joined
  pub no-step : (p : Parse) (t : Step) (ts : List Step) (n : ℕ) (xs ys : List (List ℕ)) → IsExp ws (build p (t ∷ ts)) → n ≤ level_of (build p (t ∷ ts)) → NotJoined n xs
      → xs ≡ step_tokens (t ∷ ts) ++ ys → ⊥
  no-step p t ts n xs ys is le not e =
      let here = inner ws (joined t.notation p t.parts) ts is in
      let first = step-begins t.notation t.parts here.0 here.3 in
      let falls = level-falls ws right.clear.not_max (joined t.notation p t.parts) ts is in
      let less = (subst (NotJoined n) (e ∙ ap (λ ps. (part_tokens ps ++ step_tokens ts) ++ ys) first.3) not) t.notation here.0 first.2 in
      absurd (omega (arith, falls, less))

  -- the same notation: the parts are the same
  step-same : (p : Parse) (k : Notation) (ps qs : Parts) (ss ts : List Step) (n : ℕ) (xs ys : List (List ℕ)) → AreUnique ps
      → IsExp ws (build (joined k p ps) ss) → IsExp ws (build (joined k p qs) ts) → n ≤ level_of (build (joined k p ps) ss) → n ≤ level_of (build (joined k p qs) ts)
      → NotJoined n xs → NotJoined n ys → (part_tokens ps ++ step_tokens ss) ++ xs ≡ (part_tokens qs ++ step_tokens ts) ++ ys
      → (ps ≡ qs) × (step_tokens ss ++ xs ≡ step_tokens ts ++ ys)
  step-same p k ps qs ss ts n xs ys one is_p is_q le_p le_q not_x not_y e =
      let here_p = inner ws (joined k p ps) ss is_p in
      let here_q = inner ws (joined k p qs) ts is_q in
      parts-same (infix_items k) ps qs (step_tokens ss ++ xs) (step_tokens ts ++ ys) one here_p.3 here_q.3
      (spaced-infix k (step_tokens ss ++ xs) here_p.0 (follows (joined k p ps) ss n xs is_p le_p not_x))
      (spaced-infix k (step_tokens ts ++ ys) here_q.0 (follows (joined k p qs) ts n ys is_q le_q not_y))
      (sym (append_assoc (part_tokens ps) (step_tokens ss) xs) ∙ e ∙ append_assoc (part_tokens qs) (step_tokens ts) ys)

  pub chain : (p : Parse) (ss ts : List Step) (n : ℕ) (xs ys : List (List ℕ)) → GoodSteps ss → IsExp ws (build p ss) → IsExp ws (build p ts)
      → n ≤ level_of (build p ss) → n ≤ level_of (build p ts) → NotJoined n xs → NotJoined n ys → step_tokens ss ++ xs ≡ step_tokens ts ++ ys → (ss ≡ ts) × (xs ≡ ys)
  chain p [] [] n xs ys good is_p is_q le_p le_q not_x not_y e = (refl, e)
  chain p [] (t ∷ ts) n xs ys good is_p is_q le_p le_q not_x not_y e = absurd (no-step p t ts n xs ys is_q le_q not_x e)
  chain p (s ∷ ss) [] n xs ys good is_p is_q le_p le_q not_x not_y e = absurd (no-step p s ss n ys xs is_p le_p not_y (sym e))
  chain p (s ∷ ss) (t ∷ ts) n xs ys (one, good) is_p is_q le_p le_q not_x not_y e =
      let here_p = inner ws (joined s.notation p s.parts) ss is_p in
      let here_q = inner ws (joined t.notation p t.parts) ts is_q in
      let first_p = step-begins s.notation s.parts here_p.0 here_p.3 in
      let first_q = step-begins t.notation t.parts here_q.0 here_q.3 in
      let words : first_p.0 ≡ first_q.0 = cons_head (sym (ap (λ ps. (part_tokens ps ++ step_tokens ss) ++ xs) first_p.3) ∙ e ∙ ap (λ ps. (part_tokens ps ++ step_tokens ts) ++ ys) first_q.3) in
      let same : t.notation ≡ s.notation = one-notation JoinedBy ws.infixes t.notation s.notation first_q.0 right.clear.joined here_q.0 here_p.0 first_q.2 (subst (JoinedBy s.notation) words first_p.2) in
      let is_q' = subst (λ k. IsExp ws (build (joined k p t.parts) ts)) same is_q in
      let le_q' = subst (λ k. n ≤ level_of (build (joined k p t.parts) ts)) same le_q in
      let parts = step-same p s.notation s.parts t.parts ss ts n xs ys one is_p is_q' le_p le_q' not_x not_y e in
      let back = sym parts.0 in
      let rest = chain (joined s.notation p s.parts) ss ts n xs ys good is_p (subst (λ ps. IsExp ws (build (joined s.notation p ps) ts)) back is_q')
      le_p (subst (λ ps. n ≤ level_of (build (joined s.notation p ps) ts)) back le_q') not_x not_y parts.1 in
      (ap₂ ◌∷◌ (ap₂ step (sym same) parts.0) rest.0, rest.1)
    where
      step : Notation → Parts → Step
      step k ps = record { notation = k; parts = ps }

  -- ---- one expression

  same-base : (h : ParseHead) (ps qs : Parts) (ss ts : List Step) (n : ℕ) (xs ys : List (List ℕ)) → AreUnique ps → GoodSteps ss
      → IsExp ws (build (headed h ps) ss) → IsExp ws (build (headed h qs) ts) → n ≤ level_of (build (headed h ps) ss) → n ≤ level_of (build (headed h qs) ts)
      → NotJoined n xs → NotJoined n ys → part_tokens ps ++ (step_tokens ss ++ xs) ≡ part_tokens qs ++ (step_tokens ts ++ ys)
      → (build (headed h ps) ss ≡ build (headed h qs) ts) × (xs ≡ ys)
  same-base h ps qs ss ts n xs ys one good is_p is_q le_p le_q not_x not_y e =
      let here_p = inner ws (headed h ps) ss is_p in
      let here_q = inner ws (headed h qs) ts is_q in
      let parts = parts-same (head_items h) ps qs (step_tokens ss ++ xs) (step_tokens ts ++ ys) one here_p.1 here_q.1
      (spaced-head h (step_tokens ss ++ xs) here_p.0 (follows (headed h ps) ss n xs is_p le_p not_x))
      (spaced-head h (step_tokens ts ++ ys) here_q.0 (follows (headed h qs) ts n ys is_q le_q not_y)) e in
      let back = sym parts.0 in
      let rest = chain (headed h ps) ss ts n xs ys good is_p (subst (λ rs. IsExp ws (build (headed h rs) ts)) back is_q) le_p
      (subst (λ rs. n ≤ level_of (build (headed h rs) ts)) back le_q) not_x not_y parts.1 in
      (ap₂ (λ rs us. build (headed h rs) us) parts.0 rest.0, rest.1)

  pub any-base : (h g : ParseHead) (ps qs : Parts) (ss ts : List Step) (n : ℕ) (xs ys : List (List ℕ)) → AreUnique ps → GoodSteps ss
      → IsExp ws (build (headed h ps) ss) → IsExp ws (build (headed g qs) ts) → n ≤ level_of (build (headed h ps) ss) → n ≤ level_of (build (headed g qs) ts)
      → NotJoined n xs → NotJoined n ys → part_tokens ps ++ (step_tokens ss ++ xs) ≡ part_tokens qs ++ (step_tokens ts ++ ys)
      → (build (headed h ps) ss ≡ build (headed g qs) ts) × (xs ≡ ys)
  any-base h g ps qs ss ts n xs ys one good is_p is_q le_p le_q not_x not_y e =
      let here_p = inner ws (headed h ps) ss is_p in
      let here_q = inner ws (headed g qs) ts is_q in
      let first_p = head-begins h ps here_p.0 here_p.1 in
      let first_q = head-begins g qs here_q.0 here_q.1 in
      let words : first_p.0 ≡ first_q.0 = cons_head (sym (ap (λ rs. part_tokens rs ++ (step_tokens ss ++ xs)) first_p.3) ∙ e ∙ ap (λ rs. part_tokens rs ++ (step_tokens ts ++ ys)) first_q.3) in
      let same : g ≡ h = same-head g h first_q.0 here_q.0 here_p.0 first_q.2 (subst (BeginsWith h) words first_p.2) in
      let found = same-base h ps qs ss ts n xs ys one good is_p (subst (λ f. IsExp ws (build (headed f qs) ts)) same is_q) le_p
      (subst (λ f. n ≤ level_of (build (headed f qs) ts)) same le_q) not_x not_y e in
      (found.0 ∙ ap (λ f. build (headed f qs) ts) (sym same), found.1)

  abbrev IsGoodInside : Parse → Type 0
  IsGoodInside p = AreUnique (base_parts p) × GoodSteps (steps_of p)

  pub unique : (p : Parse) → IsGoodInside p → IsUnique p
  unique p good q n xs ys is_p is_q le_p le_q not_x not_y e =
      let found = any-base (base p) (base q) (base_parts p) (base_parts q) (steps_of p) (steps_of q) n xs ys good.0 good.1
      (subst (IsExp ws) (sym (rebuilt p)) is_p) (subst (IsExp ws) (sym (rebuilt q)) is_q)
      (subst (λ r. n ≤ level_of r) (sym (rebuilt p)) le_p) (subst (λ r. n ≤ level_of r) (sym (rebuilt q)) le_q) not_x not_y
      (sym (tokens p xs) ∙ e ∙ tokens q ys) in
      (sym (rebuilt p) ∙ found.0 ∙ rebuilt q, found.1)
    where
      tokens : (r : Parse) (zs : List (List ℕ)) → tokens_of r ++ zs ≡ part_tokens (base_parts r) ++ (step_tokens (steps_of r) ++ zs)
      tokens r zs = ap (λ s. tokens_of s ++ zs) (sym (rebuilt r)) ∙ ap (λ ts. ts ++ zs) (tokens-build (headed (base r) (base_parts r)) (steps_of r))
          ∙ append_assoc (part_tokens (base_parts r)) (step_tokens (steps_of r)) zs

  good-append : (ss : List Step) (s : Step) → GoodSteps ss → AreUnique s.parts → GoodSteps (ss ++ s ∷ [])
  good-append [] s good one = (one, tt)
  good-append (t ∷ ss) s (first, good) one = (first, good-append ss s good one)

  mutual
    pub good-inside : (p : Parse) → IsGoodInside p
    good-inside (headed h ps) = (all-unique ps, tt)
    good-inside (joined k p ps) = let before = good-inside p in (before.0, good-append (steps_of p) (record { notation = k; parts = ps }) before.1 (all-unique ps))

    pub all-unique : (ps : Parts) → AreUnique ps
    all-unique end = tt
    all-unique (word w ps) = all-unique ps
    all-unique (part p ps) = (unique p (good-inside p), all-unique ps)

  -- two expressions with one list of tokens are one expression
  pub one-expression : (p q : Parse) → IsExp ws p → IsExp ws q → tokens_of p ≡ tokens_of q → p ≡ q
  one-expression p q is_p is_q e = (unique p (good-inside p) q 0 [] [] is_p is_q (omega arith) (omega arith) tt tt (ap (λ ts. ts ++ []) e)).0

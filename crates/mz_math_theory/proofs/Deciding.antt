-- A list of tokens has a tree or none.
use Rattle.std.proofs.Common.{◌≡◌, ◌≢◌, ◌≤◌, ◌⊎◌, ◌++◌, ◌∙◌, ℕ, zero, suc, List, [], ◌∷◌, length, Bool, true, false, not, Some, slice_get, drop, ap, ap₂, sym, refl, subst, inl, inr, arith, Contains, length-append}
use Rattle.std.specs.Prelude.{codes}
use Rattle.mz_base.proofs.Offered.{same-head, same-tail, nil-cons, either-decided, three-decided, some-decided, Decided, at_most-decided, both-decided, bytes-decided}
use Rattle.mz_logic_theory.specs.Tree.{Tree, Trees, var, app, none, more, followed_by}
use Rattle.mz_logic_theory.specs.Signature.{Signature}
use Rattle.mz_math_theory.specs.Notation.{max_level, above, TermName}
use Rattle.mz_math_theory.specs.declared.notation.Element.{Element}
use Rattle.mz_math_theory.specs.declared.notation.Element.TheVariants.{Fixed as fixed, Slot as slot}
use Rattle.mz_math_theory.specs.declared.notation.Notation.{Notation}
use Rattle.mz_math_theory.specs.Clear.{LedBy, JoinedBy}
use Rattle.mz_math_theory.specs.Lookups.{NoVariable, NoLeading, NoTermName}
use Rattle.mz_math_theory.specs.FormulaAnswers.{MayLead}
use Rattle.mz_math_theory.specs.Grammar.{Item, token, expr, items, level_before, operands_at_max, variable, applied, end, word, head_level, Words, Exp, IsTermName, last_level, notated_tree, tokens_of, part_tokens}
use Rattle.mz_math_theory.specs.Readable.{IsReadable}
use Rattle.mz_math_theory.specs.Reading.{NoReading, IsBegun, ArePartsRead, NoParts, IsRead}
use Rattle.mz_math_theory.proofs.Readings.{no-items, no-tokens, no-expr, no-rest, one-operand, one-token, no-token, one-slot, variable-begun, none-begins, leading-never, leading-begun, leading-low, applied-never, applied-begun, applied-low, parens-never, parens-open, parens-begun, not-infix, low-infix, begun-read, joined-stuck, joined-never, joined-more, head-low, parens-low, all-read, never-read, some-left}

-- ---- lists

-- an element of which a fact holds, or none
pub found : {A : Type 0} → (P : A → Type 0) → ((x : A) → Decided (P x)) → (xs : List A) → ((x : A) × Contains xs x × P x) ⊎ ((x : A) → Contains xs x → P x → ⊥)
found {A} P d [] = inr nowhere
  where
    nowhere : (x : A) → Contains [] x → P x → ⊥
    nowhere x (k, below, is) p = absurd (omega (arith, below))
found {A} P d (y ∷ ys) = go (d y) (found P d ys)
  where
    never : (P y → ⊥) → ((x : A) → Contains ys x → P x → ⊥) → (x : A) → Contains (y ∷ ys) x → P x → ⊥
    never out rest x (zero, below, is) p = out (subst P (sym is) p)
    never out rest x (suc k, below, is) p = rest x (k, omega (arith, below), is) p

    go : Decided (P y) → ((x : A) × Contains ys x × P x) ⊎ ((x : A) → Contains ys x → P x → ⊥) → ((x : A) × Contains (y ∷ ys) x × P x) ⊎ ((x : A) → Contains (y ∷ ys) x → P x → ⊥)
    go (inl p) rest = inl (y, (zero, omega arith, refl), p)
    go (inr out) (inl (x, (k, below, is), p)) = inl (x, (suc k, omega (arith, below), is), p)
    go (inr out) (inr rest) = inr (never out rest)

-- the place of a name, or it is nowhere
pub placed : (w : List ℕ) (ns : List (List ℕ)) → ((x : ℕ) × (slice_get ns x ≡ Some w)) ⊎ (Contains ns w → ⊥)
placed w [] = inr (λ h. let below = h.1 in absurd (omega (arith, below)))
placed w (n ∷ ns) = go (bytes-decided n w) (placed w ns)
  where
    never : (n ≡ w → ⊥) → (Contains ns w → ⊥) → Contains (n ∷ ns) w → ⊥
    never other rest (zero, below, is) = other is
    never other rest (suc k, below, is) = rest (k, omega (arith, below), is)

    go : Decided (n ≡ w) → ((x : ℕ) × (slice_get ns x ≡ Some w)) ⊎ (Contains ns w → ⊥) → ((x : ℕ) × (slice_get (n ∷ ns) x ≡ Some w)) ⊎ (Contains (n ∷ ns) w → ⊥)
    go (inl same) rest = inl (zero, ap Some same)
    go (inr other) (inl (x, at)) = inl (suc x, at)
    go (inr other) (inr rest) = inr (never other rest)

pub equal-decided : (m n : ℕ) → Decided (m ≡ n)
equal-decided m n = elim (both-decided (at_most-decided m n) (at_most-decided n m)) [
  | inl le ↦ inl (let a = le.0 in let b = le.1 in omega (arith, a, b))
  | inr out ↦ inr (λ e. out (omega (arith, e), omega (arith, e)))
]

pub true-decided : (b c : Bool) → Decided (b ≡ c)
true-decided true true = inl refl
true-decided true false = inr (λ e. cc)
true-decided false true = inr (λ e. cc)
true-decided false false = inl refl

-- ---- the constants of a notation

pub led-decided : (w : List ℕ) (k : Notation) → Decided (LedBy k w)
led-decided w k = go k.elements refl
  where
    nil : (ls : List Element) → [] ≡ fixed w k.level ∷ ls → ⊥
    nil ls e = cc

    other : (i : ℕ) (es ls : List Element) → slot i ∷ es ≡ fixed w k.level ∷ ls → ⊥
    other i es ls e = cc

    same : (v : List ℕ) (q : ℕ) (es ls : List Element) → fixed v q ∷ es ≡ fixed w k.level ∷ ls → (v ≡ w) × (q ≡ k.level)
    same v q es ls e = (cc, cc)

    go : (es : List Element) → k.elements ≡ es → Decided (LedBy k w)
    go [] e = inr (λ h. nil h.0 (sym e ∙ h.1))
    go (slot i ∷ es) e = inr (λ h. other i es h.0 (sym e ∙ h.1))
    go (fixed v q ∷ es) e = elim (both-decided (bytes-decided v w) (equal-decided q k.level)) [
      | inl both ↦ inl (es, e ∙ ap₂ (λ x y. fixed x y ∷ es) both.0 both.1)
      | inr out ↦ inr (λ h. out (same v q es h.0 (sym e ∙ h.1)))
    ]

pub joined-decided : (w : List ℕ) (k : Notation) → Decided (JoinedBy k w)
joined-decided w k = go k.elements refl
  where
    nil : (i : ℕ) (ls : List Element) → [] ≡ slot i ∷ fixed w k.level ∷ ls → ⊥
    nil i ls e = cc

    other : (v : List ℕ) (q i : ℕ) (es ls : List Element) → fixed v q ∷ es ≡ slot i ∷ fixed w k.level ∷ ls → ⊥
    other v q i es ls e = cc

    alone : (i j : ℕ) (ls : List Element) → slot i ∷ [] ≡ slot j ∷ fixed w k.level ∷ ls → ⊥
    alone i j ls e = cc

    two : (i m j : ℕ) (es ls : List Element) → slot i ∷ slot m ∷ es ≡ slot j ∷ fixed w k.level ∷ ls → ⊥
    two i m j es ls e = cc

    same : (i : ℕ) (v : List ℕ) (q j : ℕ) (es ls : List Element) → slot i ∷ fixed v q ∷ es ≡ slot j ∷ fixed w k.level ∷ ls → (v ≡ w) × (q ≡ k.level)
    same i v q j es ls e = (cc, cc)

    go : (es : List Element) → k.elements ≡ es → Decided (JoinedBy k w)
    go [] e = inr (λ h. nil h.0 h.1 (sym e ∙ h.2))
    go (fixed v q ∷ es) e = inr (λ h. other v q h.0 es h.1 (sym e ∙ h.2))
    go (slot i ∷ []) e = inr (λ h. alone i h.0 h.1 (sym e ∙ h.2))
    go (slot i ∷ slot m ∷ es) e = inr (λ h. two i m h.0 es h.1 (sym e ∙ h.2))
    go (slot i ∷ fixed v q ∷ es) e = elim (both-decided (bytes-decided v w) (equal-decided q k.level)) [
      | inl both ↦ inl (i, es, e ∙ ap₂ (λ x y. slot i ∷ fixed x y ∷ es) both.0 both.1)
      | inr out ↦ inr (λ h. out (same i v q h.0 es h.1 (sym e ∙ h.2)))
    ]

may-decided : (k : Notation) (at : ℕ) (left : Bool) → Decided (MayLead k at left)
may-decided k at left = either-decided (at_most-decided (above k.level) at) (three-decided (true-decided k.is_right false) (true-decided left true) (equal-decided at k.level))

module _ (ws : Words) (right : IsReadable ws) where
  -- ---- what a token is

  variable-decided : (w : List ℕ) → ((w ≢ []) × (x : ℕ) × (slice_get ws.variables x ≡ Some w)) ⊎ NoVariable ws w
  variable-decided [] = inr (λ is. is.0 refl)
  variable-decided (c ∷ cs) = elim (placed (c ∷ cs) ws.variables) [
    | inl at ↦ inl ((λ e. nil-cons (sym e)), at.0, at.1)
    | inr never ↦ inr (λ is. never is.1)
  ]

  abbrev Names : List ℕ → TermName → Type 0
  Names w a = (a.name ≡ w) × ((d : Signature) × (slice_get ws.signatures a.term ≡ Some d))

  term-decided : (w : List ℕ) → ((t : ℕ) × (n : ℕ) × IsTermName ws w t n) ⊎ NoTermName ws w
  term-decided w = go (found (Names w) (λ a. both-decided (bytes-decided a.name w) (some-decided (slice_get ws.signatures a.term))) ws.names)
    where
      go : ((a : TermName) × Contains ws.names a × Names w a) ⊎ ((a : TermName) → Contains ws.names a → Names w a → ⊥) → ((t : ℕ) × (n : ℕ) × IsTermName ws w t n) ⊎ NoTermName ws w
      go (inl (a, in_a, (same, (d, at)))) = inl (a.term, length d.params, (a, in_a, same, refl, (d, at, refl)))
      go (inr never) = inr no
        where
          no : (t n : ℕ) → IsTermName ws w t n → ⊥
          no t n (a, in_a, same, is, (d, at, many)) = never a in_a (same, (d, ap (slice_get ws.signatures) is ∙ at))

  -- ---- readings, over those of lists that are not longer than some bound

  abbrev Got : ℕ → List (List ℕ) → Type 0
  Got level tokens = ((rest : List (List ℕ)) × (tree : Tree) × IsRead ws level tokens rest tree) ⊎ NoReading ws level tokens

  abbrev GotParts : List Item → List (List ℕ) → Trees → Type 0
  GotParts its tokens before = ((rest : List (List ℕ)) × (es : Trees) × ArePartsRead ws its tokens rest before es) ⊎ NoParts ws its tokens

  abbrev Begun : ℕ → List (List ℕ) → Type 0
  Begun level tokens = ((rest : List (List ℕ)) × (tree : Tree) × (at : ℕ) × (left : Bool) × IsBegun ws level tokens rest tree at left) ⊎ NoReading ws level tokens

  no-longer : (front rest tokens : List (List ℕ)) → front ++ rest ≡ tokens → length rest ≤ length tokens
  no-longer front rest tokens e = let many = length-append front rest in let same = ap length e in omega (arith, many, same)

  read-no-longer : (level : ℕ) (tokens rest : List (List ℕ)) (tree : Tree) → IsRead ws level tokens rest tree → length rest ≤ length tokens
  read-no-longer level tokens rest tree read = no-longer (tokens_of read.parse) rest tokens read.reads.2

  parts-no-longer : (its : List Item) (tokens rest : List (List ℕ)) (before es : Trees) → ArePartsRead ws its tokens rest before es → length rest ≤ length tokens
  parts-no-longer its tokens rest before es read = no-longer (part_tokens read.parts) rest tokens read.tokens_are

  module _ (m : ℕ) (shorter : (level : ℕ) (tokens : List (List ℕ)) → length tokens ≤ m → Got level tokens) where
    -- ---- parts

    expr-then : (l : ℕ) (its : List Item) (tokens : List (List ℕ)) (before : Trees) → length tokens ≤ m
        → ((mid : List (List ℕ)) (tree : Tree) → length mid ≤ m → GotParts its mid (followed_by before (more tree none)))
        → ((mid rest : List (List ℕ)) (tree : Tree) (es : Trees) → IsRead ws l tokens mid tree → ArePartsRead ws its mid rest (followed_by before (more tree none)) es → ArePartsRead ws (expr l ∷ its) tokens rest before es)
        → GotParts (expr l ∷ its) tokens before
    expr-then l its tokens before le later add = go (shorter l tokens le)
      where
        behind : (mid : List (List ℕ)) (tree : Tree) → IsRead ws l tokens mid tree → GotParts its mid (followed_by before (more tree none)) → GotParts (expr l ∷ its) tokens before
        behind mid tree read (inl (rest, es, parts)) = inl (rest, es, add mid rest tree es read parts)
        behind mid tree read (inr never) = inr (no-rest ws right l its tokens mid tree read never)

        go : Got l tokens → GotParts (expr l ∷ its) tokens before
        go (inr never) = inr (no-expr ws right l its tokens never)
        go (inl (mid, tree, read)) = behind mid tree read (later mid tree (let less = read-no-longer l tokens mid tree read in omega (arith, less, le)))

    token-then : (c : List ℕ) (its : List Item) (w : List ℕ) (xs : List (List ℕ)) (before : Trees) → Decided (w ≡ c) → GotParts its xs before → GotParts (token c ∷ its) (w ∷ xs) before
    token-then c its w xs before (inl same) (inl (rest, es, read)) = inl (rest, es, one-token ws right c its (w ∷ xs) xs rest before es (ap (λ v. v ∷ xs) same) read)
    token-then c its w xs before (inl same) (inr never) = inr (no-token ws right c its (w ∷ xs) (λ ys e. subst (NoParts ws its) (same-tail e) never))
    token-then c its w xs before (inr other) read = inr (no-token ws right c its (w ∷ xs) (λ ys e. absurd (other (same-head e))))

    parts-got : (ls : List Element) (last : ℕ) (tokens : List (List ℕ)) (before : Trees) → length tokens ≤ m → GotParts (items ls last) tokens before
    parts-got [] last tokens before le = inl (tokens, before, no-items ws right tokens before)
    parts-got (fixed c q ∷ ls) last [] before le = inr (no-token ws right c (items ls last) [] (λ xs e. absurd (nil-cons e)))
    parts-got (fixed c q ∷ ls) last (w ∷ xs) before le = token-then c (items ls last) w xs before (bytes-decided w c) (parts-got ls last xs before (omega (arith, le)))
    parts-got (slot i ∷ ls) last tokens before le =
        expr-then (level_before ls last) (items ls last) tokens before le (λ mid tree less. parts-got ls last mid (followed_by before (more tree none)) less)
        (λ mid rest tree es read parts. one-slot ws right i ls last tokens mid rest tree before es read parts)

    operands-got : (n : ℕ) (tokens : List (List ℕ)) (before : Trees) → length tokens ≤ m → GotParts (operands_at_max n) tokens before
    operands-got zero tokens before le = inl (tokens, before, no-items ws right tokens before)
    operands-got (suc n) tokens before le =
        expr-then max_level (operands_at_max n) tokens before le (λ mid tree less. operands-got n mid (followed_by before (more tree none)) less)
        (λ mid rest tree es read parts. one-operand ws right n tokens mid rest tree before es read parts)

    -- ---- what stands first

    module _ (level : ℕ) (w : List ℕ) (xs : List (List ℕ)) (le : length xs ≤ m) where
      abbrev tokens : List (List ℕ)
      tokens = w ∷ xs

      variable-got : (some : w ≢ []) (x : ℕ) (at : slice_get ws.variables x ≡ Some w) → Decided (level ≤ max_level) → Begun level tokens
      variable-got some x at (inl enough) = inl (xs, var x, max_level, false, variable-begun ws right level tokens xs w x enough refl some at)
      variable-got some x at (inr out) = inr (head-low ws right level (variable w x) w (word w end) xs xs (some, at) refl (refl, tt) tt refl (omega (arith, out)))

      leading-got : (k : Notation) → Contains ws.leading k → LedBy k w → NoVariable ws w → GotParts (items (drop 1 k.elements) k.level) xs none → Decided (level ≤ k.level) → Begun level tokens
      leading-got k in_k by other (inr never) d = inr (leading-never ws right level tokens xs k w refl in_k by other never)
      leading-got k in_k by other (inl (rest, es, read)) (inl enough) =
          inl (rest, notated_tree k es, k.level, false, leading-begun ws right level tokens xs rest k w es (notated_tree k es) refl in_k by other read enough refl)
      leading-got k in_k by other (inl (rest, es, read)) (inr out) = inr (leading-low ws right level tokens xs rest k w es refl in_k by other read (omega (arith, out)))

      applied-got : (t n : ℕ) → IsTermName ws w t n → NoVariable ws w → NoLeading ws w → GotParts (operands_at_max n) xs none → Decided (level ≤ head_level (applied [] 0 n)) → Begun level tokens
      applied-got t n name no_variable no_leading (inr never) d = inr (applied-never ws right level tokens xs w t n refl name no_variable no_leading never)
      applied-got t n name no_variable no_leading (inl (rest, es, read)) (inl enough) =
          inl (rest, app t es, head_level (applied [] 0 n), false, applied-begun ws right level tokens xs rest w t n (head_level (applied [] 0 n)) es refl name no_variable no_leading read refl enough)
      applied-got t n name no_variable no_leading (inl (rest, es, read)) (inr out) =
          inr (applied-low ws right level tokens xs rest w t n (head_level (applied [] 0 n)) es refl name no_variable no_leading read refl (omega (arith, out)))

      closed-got : (open_ : w ≡ codes "(") (tree : Tree) (mid : List (List ℕ)) → IsRead ws 0 xs mid tree → Decided (level ≤ max_level) → Begun level tokens
      closed-got open_ tree [] read d = inr (parens-open ws right level tokens xs [] tree (ap (λ v. v ∷ xs) open_) read (λ ys e. nil-cons e))
      closed-got open_ tree (v ∷ after) read d = close (bytes-decided v (codes ")")) d
        where
          first : tokens ≡ codes "(" ∷ xs
          first = ap (λ u. u ∷ xs) open_

          close : Decided (v ≡ codes ")") → Decided (level ≤ max_level) → Begun level tokens
          close (inr other) e = inr (parens-open ws right level tokens xs (v ∷ after) tree first read (λ ys same. other (same-head same)))
          close (inl same) (inl enough) = inl (after, tree, max_level, false, parens-begun ws right level tokens xs (v ∷ after) after tree first read (ap (λ u. u ∷ after) same) enough)
          close (inl same) (inr out) = inr (parens-low ws right level tokens xs (v ∷ after) after tree first read (ap (λ u. u ∷ after) same) (omega (arith, out)))

      parens-got : w ≡ codes "(" → Got 0 xs → Begun level tokens
      parens-got open_ (inr never) = inr (parens-never ws right level tokens xs (ap (λ v. v ∷ xs) open_) never)
      parens-got open_ (inl (mid, tree, read)) = closed-got open_ tree mid read (at_most-decided level max_level)

      default-got : NoVariable ws w → NoLeading ws w → NoTermName ws w → Decided (w ≡ codes "(") → Begun level tokens
      default-got no_variable no_leading no_term (inl open_) = parens-got open_ (shorter 0 xs le)
      default-got no_variable no_leading no_term (inr other) = inr (none-begins ws right level tokens xs w refl no_variable no_leading no_term other)

      term-got : NoVariable ws w → NoLeading ws w → ((t : ℕ) × (n : ℕ) × IsTermName ws w t n) ⊎ NoTermName ws w → Begun level tokens
      term-got no_variable no_leading (inl (t, n, name)) =
          applied-got t n name no_variable no_leading (operands-got n xs none le) (at_most-decided level (head_level (applied [] 0 n)))
      term-got no_variable no_leading (inr no_term) = default-got no_variable no_leading no_term (bytes-decided w (codes "("))

      constant-got : NoVariable ws w → ((k : Notation) × Contains ws.leading k × LedBy k w) ⊎ ((k : Notation) → Contains ws.leading k → LedBy k w → ⊥) → Begun level tokens
      constant-got no_variable (inl (k, in_k, by)) = leading-got k in_k by no_variable (parts-got (drop 1 k.elements) k.level xs none le) (at_most-decided level k.level)
      constant-got no_variable (inr never) = term-got no_variable (λ h. never h.0 h.1 h.2) (term-decided w)

      head-got : ((w ≢ []) × (x : ℕ) × (slice_get ws.variables x ≡ Some w)) ⊎ NoVariable ws w → Begun level tokens
      head-got (inl (some, x, at)) = variable-got some x at (at_most-decided level max_level)
      head-got (inr no_variable) = constant-got no_variable (found (λ k. LedBy k w) (led-decided w) ws.leading)

    -- ---- infix forms around it

    module _ (level : ℕ) (tokens : List (List ℕ)) where
      module _ (j : ℕ) (onward : (rest : List (List ℕ)) (tree : Tree) (at : ℕ) (left : Bool) → length rest ≤ j → length rest ≤ suc m → IsBegun ws level tokens rest tree at left → Got level tokens) (w : List ℕ) (tail : List (List ℕ)) (tree : Tree) (at : ℕ) (left : Bool) (less : length tail ≤ j) (le : length tail ≤ m) (begun : IsBegun ws level tokens (w ∷ tail) tree at left) where
        module _ (k : Notation) (in_k : Contains ws.infixes k) (by : JoinedBy k w) (high : level ≤ k.level) where
          behind-got : MayLead k at left → GotParts (items (drop 2 k.elements) (last_level k)) tail (more tree none) → Got level tokens
          behind-got may (inr never) = inr (joined-never ws right level tokens (w ∷ tail) tail tree at left k w begun refl in_k by high never)
          behind-got may (inl (after, es, read)) =
              let shorter_ = parts-no-longer (items (drop 2 k.elements) (last_level k)) tail after (more tree none) es read in
              onward after (notated_tree k es) k.level (not k.is_right) (omega (arith, shorter_, less)) (omega (arith, shorter_, le))
              (joined-more ws right level tokens (w ∷ tail) tail after tree at left k w es (notated_tree k es) begun refl in_k by high may read refl)

          form-got : Decided (MayLead k at left) → Got level tokens
          form-got (inl may) = behind-got may (parts-got (drop 2 k.elements) (last_level k) tail (more tree none) le)
          form-got (inr cannot) = inr (joined-stuck ws right level tokens (w ∷ tail) tail tree at left k w begun refl in_k by high cannot)

        level-got : (k : Notation) → Contains ws.infixes k → JoinedBy k w → Decided (level ≤ k.level) → Got level tokens
        level-got k in_k by (inl high) = form-got k in_k by high (may-decided k at left)
        level-got k in_k by (inr out) = inl (w ∷ tail, tree, begun-read ws right level tokens (w ∷ tail) tree at left begun (low-infix ws right level (w ∷ tail) tail w k refl in_k by (omega (arith, out))))

        infix-got : ((k : Notation) × Contains ws.infixes k × JoinedBy k w) ⊎ ((k : Notation) → Contains ws.infixes k → JoinedBy k w → ⊥) → Got level tokens
        infix-got (inl (k, in_k, by)) = level-got k in_k by (at_most-decided level k.level)
        infix-got (inr never) = inl (w ∷ tail, tree, begun-read ws right level tokens (w ∷ tail) tree at left begun (not-infix ws right level (w ∷ tail) tail w refl never))

      more-got : (j : ℕ) (rest : List (List ℕ)) (tree : Tree) (at : ℕ) (left : Bool) → length rest ≤ j → length rest ≤ suc m → IsBegun ws level tokens rest tree at left → Got level tokens
      more-got j [] tree at left less le begun = inl ([], tree, begun-read ws right level tokens [] tree at left begun tt)
      more-got zero (w ∷ tail) tree at left less le begun = absurd (omega (arith, less))
      more-got (suc j) (w ∷ tail) tree at left less le begun =
          infix-got j (λ rest t a l. more-got j rest t a l) w tail tree at left (omega (arith, less)) (omega (arith, le)) begun (found (λ k. JoinedBy k w) (joined-decided w) ws.infixes)

    longer-got : (level : ℕ) (w : List ℕ) (xs : List (List ℕ)) → length xs ≤ m → Begun level (w ∷ xs) → Got level (w ∷ xs)
    longer-got level w xs le (inr never) = inr never
    longer-got level w xs le (inl (rest, tree, at, left, begun)) =
        let less = no-longer (tokens_of begun.parse) rest (w ∷ xs) begun.tokens_are in
        more-got level (w ∷ xs) (length rest) rest tree at left (omega arith) (omega (arith, less, le)) begun

  -- ---- all

  got : (m : ℕ) (level : ℕ) (tokens : List (List ℕ)) → length tokens ≤ m → Got level tokens
  got m level [] le = inr (no-tokens ws right level)
  got zero level (w ∷ xs) le = absurd (omega (arith, le))
  got (suc m) level (w ∷ xs) le =
      let short : length xs ≤ m = omega (arith, le) in
      longer-got m (λ l ts. got m l ts) level w xs short (head-got m (λ l ts. got m l ts) level w xs short (variable-decided w))

  pub tree-decided : (tokens : List (List ℕ)) → Decided ((t : Tree) × Exp ws 0 t tokens)
  tree-decided tokens = go (got (length tokens) 0 tokens (omega arith))
    where
      go : Got 0 tokens → Decided ((t : Tree) × Exp ws 0 t tokens)
      go (inl ([], tree, read)) = inl (tree, all-read ws right tokens tree read)
      go (inl (w ∷ rest, tree, read)) = inr (λ h. some-left ws right tokens (w ∷ rest) tree read (λ e. nil-cons (sym e)) h.0 h.1)
      go (inr never) = inr (λ h. never-read ws right tokens never h.0 h.1)

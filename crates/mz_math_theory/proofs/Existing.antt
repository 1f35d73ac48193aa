-- Each string has tokens, and is read or refused.
use Rattle.std.proofs.Common.{Some, slice_get, ◌≡◌, ◌≢◌, ◌≤◌, ◌<◌, ◌+◌, ◌-◌, ◌⊎◌, ◌∙◌, ℕ, zero, suc, List, [], ◌∷◌, length, Bool, true, false, IsTrue, ap, sym, refl, subst, inl, inr, arith, Contains, eq-or-lt_of_le}
use Rattle.std.specs.Prelude.{codes, slice_index}
use Rattle.std.proofs.lemmas.Option.{slice_get_within, get_or_from_slice_get}
use Rattle.mz_base.proofs.Offered.{either-decided, Decided, contains-decided, all_hold-or_fails, at_most-decided, bytes-decided, both-decided, are_decided-both, are_decided-rows, all_hold-rest}
use Rattle.mz_base.specs.Checks.{AreDecided, AllHold, FailsFirst}
use Rattle.mz_lex.specs.Kinds.{is_space}
use Rattle.mz_logic_theory.specs.Tree.{Tree}
use Rattle.mz_logic_theory.specs.Declaration.{signatures}
use Rattle.mz_lex.specs.MathTokens.{IsSpaces, IsMathToken, MathTokensFrom, MathTokens, token_texts, token_text}
use Rattle.mz_lex.specs.declared.tokens.Delimiters.{Delimiters}
use Rattle.mz_lex.specs.declared.tokens.MathToken.{MathToken}
use Rattle.mz_math_theory.specs.declared.notation.Element.{Element}
use Rattle.mz_math_theory.specs.declared.notation.Element.TheVariants.{Fixed as fixed, Slot as slot}
use Rattle.mz_math_theory.specs.declared.notation.Notation.{Notation}
use Rattle.mz_math_theory.specs.Notation.{TermName}
use Rattle.mz_math_theory.specs.Clear.{HasConstant}
use Rattle.mz_math_theory.specs.Grammar.{Words, Exp, IsVariable, IsNamed, IsSomeConstant, IsKnown}
use Rattle.mz_math_theory.specs.Kept.{IsTable, AreVariables}
use Rattle.mz_math_theory.specs.Meaning.{Wanted, Coerced, IsClaimed, height}
use Rattle.mz_math_theory.specs.Coercions.{IsPath, wrapped}
use Rattle.mz_math_theory.specs.Formula.{Reader, words, most, StandsFor, Means, Misreading, is_known, known_checks, token_checks, formula_checks, IsFormula, Misreads}
use Rattle.mz_lex.specs.Answers.{EndsAt, IsWhole}
use Rattle.mz_math_theory.specs.FormulaAnswers.{settled}
use Rattle.mz_math_theory.proofs.Readable.{table-readable}
use Rattle.mz_lex.proofs.Offered.{next-first, whole-first, whole-more, whole-math_token}
use Rattle.mz_math_theory.proofs.Judging.{parts, stands, same}
use Rattle.mz_math_theory.proofs.Deciding.{found, placed, equal-decided, tree-decided}
use Rattle.mz_math_theory.proofs.Standing.{path-decided, coerced-decided, claimed-decided}

-- ---- tokens

is_true-decided : (b : Bool) → Decided (IsTrue b)
is_true-decided true = inl refl
is_true-decided false = inr (λ e. cc)

module _ (d : Delimiters) (text : List ℕ) where
  -- where whitespace ends
  abbrev Spaces : ℕ → Type 0
  Spaces from = (at : ℕ) × IsSpaces text from at × ((at ≡ length text) ⊎ ((at < length text) × (is_space (slice_index text at) ≡ false)))

  none-between : (from : ℕ) → IsSpaces text from from
  none-between from = (omega arith, λ i le below. absurd (omega (arith, le, below)))

  one-more : (from at : ℕ) → is_space (slice_index text from) ≡ true → IsSpaces text (from + 1) at → IsSpaces text from at
  one-more from at is (le, all) = (omega (arith, le), go)
    where
      go : (i : ℕ) → from ≤ i → i < at → IsTrue (is_space (slice_index text i))
      go i above below = elim (eq-or-lt_of_le above) [
        | inl same ↦ subst (λ k. IsTrue (is_space (slice_index text k))) same is
        | inr less ↦ all i (omega (arith, less)) below
      ]

  spaces-got : (n from : ℕ) → from ≤ length text → length text ≤ from + n → Spaces from
  spaces-got zero from le many = (from, none-between from, inl (omega (arith, le, many)))
  spaces-got (suc n) from le many = elim (at_most-decided (length text) from) [
    | inl done ↦ (from, none-between from, inl (omega (arith, le, done)))
    | inr below ↦ go (is_space (slice_index text from)) refl (λ le'. spaces-got n (from + 1) le' (omega (arith, many))) (omega (arith, below))
  ]
    where
      go : (b : Bool) → is_space (slice_index text from) ≡ b → (from + 1 ≤ length text → Spaces (from + 1)) → from < length text → Spaces from
      go false solid rest below = (from, none-between from, inr (below, solid))
      go true space rest below = let more = rest (omega (arith, below)) in (more.0, one-more from more.0 space more.1, more.2)

  ends-decided : (at : ℕ) → Decided (EndsAt d text at)
  ends-decided at = either-decided (is_true-decided (is_space (slice_index text at))) (either-decided (contains-decided d.left (slice_index text (at - 1))) (contains-decided d.right (slice_index text at)))

  -- a token from a place on
  abbrev Whole : ℕ → Type 0
  Whole from = (to : ℕ) × (from < to) × (to ≤ length text) × IsMathToken d text (record { from = from; to = to })

  ended : (from to : ℕ) → IsWhole d text from to → (to ≡ length text) ⊎ EndsAt d text to → Whole from
  ended from to whole end = (to, whole.later, whole.within, whole-math_token d text from to whole end)

  end-got : (n from to : ℕ) → IsWhole d text from to → length text ≤ to + n → Whole from
  end-got zero from to whole many = ended from to whole (inl (let within = whole.within in omega (arith, within, many)))
  end-got (suc n) from to whole many = elim (either-decided (equal-decided to (length text)) (ends-decided to)) [
    | inl end ↦ ended from to whole end
    | inr never ↦ go (λ whole'. end-got n from (to + 1) whole' (omega (arith, many))) never
  ]
    where
      go : (IsWhole d text from (to + 1) → Whole from) → ((to ≡ length text) ⊎ EndsAt d text to → ⊥) → Whole from
      go rest never = elim (equal-decided to (length text)) [
        | inl same ↦ absurd (never (inl same))
        | inr differs ↦ rest (whole-more d text from to whole (below differs) (λ end. never (inr end)))
      ]
        where
          below : (to ≡ length text → ⊥) → to < length text
          below differs = let within = whole.within in elim (eq-or-lt_of_le within) [ inl same ↦ absurd (differs same) | inr less ↦ less ]

  abbrev From : ℕ → Type 0
  From from = (ps : List MathToken) × MathTokensFrom d text from ps

  one-then : (from at : ℕ) → IsSpaces text from at → Whole at → ((to : ℕ) → from < to → to ≤ length text → From to) → From from
  one-then from at spaces (to, some, within, piece) rest =
      let le = spaces.0 in
      let more = rest to (omega (arith, le, some)) within in
      (record { from = at; to = to } ∷ more.0, next-first d text from (record { from = at; to = to }) more.0 (spaces, piece) more.1)

  math_tokens-got : (n from : ℕ) → from ≤ length text → length text ≤ from + n → From from
  math_tokens-got zero from le many = ([], subst (IsSpaces text from) (omega (arith, le, many)) (none-between from))
  math_tokens-got (suc n) from le many = go (spaces-got (suc n) from le many) (λ to some within. math_tokens-got n to within (omega (arith, many, some)))
    where
      go : Spaces from → ((to : ℕ) → from < to → to ≤ length text → From to) → From from
      go (at, spaces, inl done) rest = ([], subst (IsSpaces text from) done spaces)
      go (at, spaces, inr (below, solid)) rest = one-then from at spaces (end-got (length text) at (at + 1) (whole-first d text at below solid) (omega arith)) rest

  pub some-math_tokens : (ps : List MathToken) × MathTokens d text ps
  some-math_tokens = math_tokens-got (length text) 0 (omega arith) (omega arith)

-- ---- which tokens are known

module _ (ws : Words) (w : List ℕ) where
  variable-known : Decided (IsVariable ws w)
  variable-known = both-decided (some-decided w) (go (placed w ws.variables))
    where
      some-decided : (v : List ℕ) → Decided (v ≢ [])
      some-decided [] = inr (λ out. out refl)
      some-decided (c ∷ cs) = inl (λ e. cc)

      go : ((x : ℕ) × (slice_get ws.variables x ≡ Some w)) ⊎ (Contains ws.variables w → ⊥) → Decided (Contains ws.variables w)
      go (inl (x, at)) = inl (x, slice_get_within ws.variables x w at, get_or_from_slice_get ws.variables x w w at)
      go (inr never) = inr never

  constant-of : (k : Notation) → Decided ((q : ℕ) × Contains k.elements (fixed w q))
  constant-of k = go (found (λ e. (q : ℕ) × (e ≡ fixed w q)) is_it k.elements)
    where
      is_it : (e : Element) → Decided ((q : ℕ) × (e ≡ fixed w q))
      is_it (slot i) = inr (λ h. other h.0 h.1)
        where
          other : (q : ℕ) → slot i ≡ fixed w q → ⊥
          other q e = cc
      is_it (fixed v q) = elim (bytes-decided v w) [ inl same ↦ inl (q, ap (λ u. fixed u q) same) | inr out ↦ inr (λ h. out (word h.0 h.1)) ]
        where
          word : (p : ℕ) → fixed v q ≡ fixed w p → v ≡ w
          word p e = cc

      go : ((e : Element) × Contains k.elements e × ((q : ℕ) × (e ≡ fixed w q))) ⊎ ((e : Element) → Contains k.elements e → (q : ℕ) × (e ≡ fixed w q) → ⊥) → Decided ((q : ℕ) × Contains k.elements (fixed w q))
      go (inl (e, in_e, (q, is))) = inl (q, subst (Contains k.elements) is in_e)
      go (inr never) = inr (λ h. never (fixed w h.0) h.1 (h.0, refl))

  constant-among : (ks : List Notation) → Decided ((q : ℕ) × HasConstant ks w q)
  constant-among ks = go (found (λ k. (q : ℕ) × Contains k.elements (fixed w q)) constant-of ks)
    where
      go : ((k : Notation) × Contains ks k × ((q : ℕ) × Contains k.elements (fixed w q))) ⊎ ((k : Notation) → Contains ks k → (q : ℕ) × Contains k.elements (fixed w q) → ⊥) → Decided ((q : ℕ) × HasConstant ks w q)
      go (inl (k, in_k, (q, in_w))) = inl (q, (k, in_k, in_w))
      go (inr never) = inr no
        where
          no : (q : ℕ) × HasConstant ks w q → ⊥
          no (q, (k, in_k, in_w)) = never k in_k (q, in_w)

  constant-known : Decided (IsSomeConstant ws w)
  constant-known = go (constant-among ws.leading) (constant-among ws.infixes)
    where
      go : Decided ((q : ℕ) × HasConstant ws.leading w q) → Decided ((q : ℕ) × HasConstant ws.infixes w q) → Decided (IsSomeConstant ws w)
      go (inl (q, has)) d = inl (q, inl has)
      go (inr out) (inl (q, has)) = inl (q, inr has)
      go (inr out) (inr never) = inr (λ h. elim h.1 [ inl has ↦ out (h.0, has) | inr has ↦ never (h.0, has) ])

  named-known : Decided (IsNamed ws w)
  named-known = go (found (λ a. a.name ≡ w) (λ a. bytes-decided a.name w) ws.names)
    where
      go : ((a : TermName) × Contains ws.names a × (a.name ≡ w)) ⊎ ((a : TermName) → Contains ws.names a → a.name ≡ w → ⊥) → Decided (IsNamed ws w)
      go (inl (a, in_a, same)) = inl (a, in_a, same)
      go (inr never) = inr (λ h. never h.0 h.1 h.2)

  known-decided : Decided (IsKnown ws w)
  known-decided = either-decided variable-known (either-decided (bytes-decided w (codes "(")) (either-decided (bytes-decided w (codes ")")) (either-decided constant-known named-known)))

-- ---- what tokens stand for

module _ (r : Reader) (w : Wanted) (is : IsTable r.table) (vs : AreVariables r.scope.names) (tokens : List (List ℕ)) (few : length tokens ≤ most) where
  module _ (t : Tree) (exp : Exp (words r) 0 t tokens) where
    whole-of : (f : Tree) (s : ℕ) → Coerced (signatures r.env) r.table.coercions r.scope.binders t f s → Decided ((path : List ℕ) × IsPath r.table.coercions s path (settled w s)) → Decided ((e : Tree) × (q : ℕ) × StandsFor r w tokens e q)
    whole-of f s coerced (inl (path, on)) = inl (wrapped r.table.coercions path f, s, stands r w is vs t tokens few exp f s path coerced on)
    whole-of f s coerced (inr never) = inr (λ h. no h.0 h.1 h.2)
      where
        no : (e : Tree) (q : ℕ) → StandsFor r w tokens e q → ⊥
        no e q stands_e =
            let p = parts r w is vs t tokens few exp e q stands_e in
            let both = same r w is vs t tokens few exp f p.0 s q coerced p.1 in
            never (p.2.0, subst (λ i. IsPath r.table.coercions i p.2.0 (settled w i)) (sym both.1) p.2.1)

    stands-of : Decided ((f : Tree) × (s : ℕ) × Coerced (signatures r.env) r.table.coercions r.scope.binders t f s) → Decided ((e : Tree) × (q : ℕ) × StandsFor r w tokens e q)
    stands-of (inl (f, s, coerced)) = whole-of f s coerced (path-decided r.table.coercions is.one_path s (settled w s))
    stands-of (inr never) = inr (λ h. no h.0 h.1 h.2)
      where
        no : (e : Tree) (q : ℕ) → StandsFor r w tokens e q → ⊥
        no e q stands_e = let p = parts r w is vs t tokens few exp e q stands_e in never (p.0, q, p.1)

    stands-one : (e d : Tree) (s q : ℕ) → StandsFor r w tokens e s → StandsFor r w tokens d q → (e ≡ d) × (s ≡ q)
    stands-one e d s q a b =
        let cs = r.table.coercions in
        let p = parts r w is vs t tokens few exp e s a in
        let o = parts r w is vs t tokens few exp d q b in
        let both = same r w is vs t tokens few exp p.0 o.0 s q p.1 o.1 in
        let on = subst (λ i. IsPath cs i p.2.0 (settled w i)) both.1 p.2.1 in
        (p.2.2 ∙ ap (λ x. wrapped cs x p.0) (is.one_path q (settled w q) p.2.0 o.2.0 on o.2.1) ∙ ap (wrapped cs o.2.0) both.0 ∙ sym o.2.2, both.1)

    module _ (e : Tree) (s : ℕ) (stands_e : StandsFor r w tokens e s) where
      low-of : Decided (height e ≤ most) → Decided ((f : Tree) × (q : ℕ) × StandsFor r w tokens f q × (height f ≤ most))
      low-of (inl low) = inl (e, s, stands_e, low)
      low-of (inr out) = inr no
        where
          no : (f : Tree) × (q : ℕ) × StandsFor r w tokens f q × (height f ≤ most) → ⊥
          no (f, q, stands_f, low) = out (subst (λ x. height x ≤ most) (stands-one f e q s stands_f stands_e).0 low)

      means-of : Decided ((f : Tree) × IsClaimed r.env r.table.coercions w e s f) → Decided ((f : Tree) × Means r w tokens f)
      means-of (inl (f, claimed)) = inl (f, (e, s, stands_e, claimed))
      means-of (inr never) = inr no
        where
          no : (f : Tree) × Means r w tokens f → ⊥
          no (f, (g, q, stands_g, claimed)) =
              let both = stands-one g e q s stands_g stands_e in
              never (f, subst (λ i. IsClaimed r.env r.table.coercions w e i f) both.1 (subst (λ x. IsClaimed r.env r.table.coercions w x q f) both.0 claimed))

tokens-decided : (r : Reader) (w : Wanted) → IsTable r.table → AreVariables r.scope.names → (tokens : List (List ℕ)) → AreDecided (token_checks r w tokens)
tokens-decided r w is vs tokens = (
  at_most-decided (length tokens) most,
  λ few. (
    tree-decided (words r) (table-readable r.table (signatures r.env) r.scope.names is vs) tokens,
    λ has. (
      stands-of r w is vs tokens few has.0 has.1 (coerced-decided (signatures r.env) r.table.coercions r.scope.binders is.one_path has.0),
      λ h. (
        low-of r w is vs tokens few has.0 has.1 h.0 h.1 h.2 (at_most-decided (height h.0) most),
        λ low. (means-of r w is vs tokens few has.0 has.1 h.0 h.1 h.2 (claimed-decided r.env r.table.coercions is.one_path w h.0 h.1), λ means. tt),
      ),
    ),
  ),
)

-- ---- the whole string

pub some-reading : (r : Reader) (w : Wanted) (text : List ℕ) → IsTable r.table → AreVariables r.scope.names → ((e : Tree) × IsFormula r w text e) ⊎ ((m : Misreading) × Misreads r w text m)
some-reading r w text is vs = go (some-math_tokens r.table.delimiters text)
  where
    go : (ps : List MathToken) × MathTokens r.table.delimiters text ps → ((e : Tree) × IsFormula r w text e) ⊎ ((m : Misreading) × Misreads r w text m)
    go (ps, pieces) = told (all_hold-or_fails (formula_checks r w text ps) decided)
      where
        decided : AreDecided (formula_checks r w text ps)
        decided = are_decided-both (known_checks (words r) text ps) (token_checks r w (token_texts text ps))
            (are_decided-rows (is_known (words r) text) (λ p. (known-decided (words r) (token_text text p), λ known. tt)) ps)
            (λ known. tokens-decided r w is vs (token_texts text ps))

        read : AllHold (formula_checks r w text ps) → AllHold (token_checks r w (token_texts text ps)) → (e : Tree) × IsFormula r w text e
        read all held = let means = held.1.1.1.1.0 in (means.0, (ps, pieces, all, means.1))

        told : AllHold (formula_checks r w text ps) ⊎ ((m : Misreading) × FailsFirst (formula_checks r w text ps) m) → ((e : Tree) × IsFormula r w text e) ⊎ ((m : Misreading) × Misreads r w text m)
        told (inl all) = inl (read all (all_hold-rest (known_checks (words r) text ps) (token_checks r w (token_texts text ps)) all))
        told (inr (m, fails)) = inr (m, (ps, pieces, fails))

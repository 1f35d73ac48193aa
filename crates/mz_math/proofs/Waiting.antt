-- Expressions within one another, and what a step makes of one.
use Rattle.std.proofs.Common.{◌≡◌, ◌≤◌, ◌<◌, ◌+◌, ◌-◌, ◌*◌, ◌++◌, ◌∙◌, ℕ, List, [], ◌∷◌, Bool, false, not, length, drop, length-append, sym, refl, subst, ap, arith}
use Rattle.std.specs.Prelude.{Contains, MatchOption, Option, None, Some, option_map}
use Rattle.mz_base.proofs.Offered.{same-head, same-tail}
use Rattle.mz_logic_theory.specs.Tree.{Tree, Trees, app, none, more, followed_by}
use Rattle.mz_logic_theory.specs.View.{tree}
use Rattle.mz_math_theory.specs.declared.notation.Notation.{Notation}
use Rattle.mz_math_theory.specs.Clear.{LedBy, JoinedBy}
use Rattle.mz_math_theory.specs.FormulaAnswers.{MayLead, IsMaxBefore}
use Rattle.mz_math_theory.specs.Lookups.{NoInfix, NoVariable, NoLeading}
use Rattle.mz_math_theory.specs.Grammar.{Words, Item, token, expr, items, operands_at_max, last_level, notated_tree, head_level, applied, IsTermName}
use Rattle.mz_math_theory.specs.Readable.{IsReadable}
use Rattle.mz_math_theory.specs.Notation.{max_level}
use Rattle.mz_math_theory.specs.Reading.{NoReading, NoParts, NotJoined, IsRead, IsBegun}
use Rattle.mz_math.specs.Steps.{IsUnderWay, JoinsNext, Waits, outer_level, Says, turns}
use Rattle.mz_math.specs.declared.parser.Found.{Found}
use Rattle.mz_math.specs.declared.parser.Step.{Step}
use Rattle.mz_math.specs.declared.parser.Step.TheVariants as steps
use Rattle.mz_math.specs.declared.parser.Outer.{Outer}
use Rattle.mz_math.specs.declared.parser.Outer.TheVariants as outers
use Rattle.mz_math_theory.proofs.Offered.{no-items, no-expr, no-rest, one-part, one-token, no-token, parens-never, leading-never, leading-begun, leading-low, applied-never, applied-begun, applied-low, joined-never, joined-more}

-- in an expression of a precedence that begins at `from`, these stand around one of the precedence l that begins here
abbrev pub Nested : Words → List (List ℕ) → ℕ → List Outer → List (List ℕ) → ℕ → Type 0
Nested ws from level [] here l = (from ≡ here) × (level ≡ l)
Nested ws from level (o ∷ os) here l = (outer_level o ≡ level) × (mid : List (List ℕ)) × (m : ℕ) × Waits ws from mid m o × Nested ws mid m os here l

-- the expressions around, and what the step says of the innermost
abbrev pub IsReading : Words → List (List ℕ) → List Outer → Step → Type 0
IsReading ws tokens os step = (here : List (List ℕ)) × (level : ℕ) × Nested ws tokens 0 os here level × Says ws tokens here level step

-- the turns that are left
abbrev pub left : ℕ → List Outer → Step → ℕ
left many os step = 3 * length os + turns many step

-- nothing is joined to what is read at the highest precedence
pub highest-unjoined : (ws : Words) → IsReadable ws → (tokens : List (List ℕ)) → NotJoined ws max_level tokens
highest-unjoined ws right [] = tt
highest-unjoined ws right (w ∷ tokens) = λ k in_k by. right.clear.not_max k in_k

-- what is found of a token is what the one that stands next joins, where it is this one
pub joins-found : (ws : Words) (here : List (List ℕ)) (w : List ℕ) (rest : List (List ℕ)) → {A : Type 0} → (f : A → Notation) (o : Option A) → MatchOption o (NoInfix ws w) (λ k. Contains ws.infixes (f k) × JoinedBy (f k) w)
    → here ≡ w ∷ rest → JoinsNext ws here (option_map f o)
joins-found ws here w rest f None never is v tail at = subst (NoInfix ws) (same-head (sym is ∙ at)) never
joins-found ws here w rest f (Some k) found is v tail at = subst (λ u. Contains ws.infixes (f k) × JoinedBy (f k) u) (same-head (sym is ∙ at)) found

-- what the token that stands next joins
module _ (ws : Words) (here : List (List ℕ)) (w : List ℕ) (rest : List (List ℕ)) (o : Option Notation) where
  pub joins-none : JoinsNext ws here o → o ≡ None → here ≡ w ∷ rest → NoInfix ws w
  joins-none next empty is = subst (λ p. MatchOption p (NoInfix ws w) (λ k. Contains ws.infixes k × JoinedBy k w)) empty (next w rest is)

  pub joins-some : (k : Notation) → JoinsNext ws here o → o ≡ Some k → here ≡ w ∷ rest → Contains ws.infixes k × JoinedBy k w
  joins-some k next some is = subst (λ p. MatchOption p (NoInfix ws w) (λ l. Contains ws.infixes l × JoinedBy l w)) some (next w rest is)

module _ (ws : Words) (right : IsReadable ws) where
  -- ---- forms that begin

  pub leading-under-way : (level : ℕ) (from here : List (List ℕ)) (k : Notation) (w : List ℕ) → from ≡ w ∷ here → Contains ws.leading k → LedBy k w → NoVariable ws w
      → IsUnderWay ws level from here (items (drop 1 k.elements) k.level) none (notated_tree k) k.level false
  leading-under-way level from here k w is in_k by other = record {
    begun = λ rest fs read le. leading-begun ws right level from here rest k w fs (notated_tree k fs) is in_k by other read le refl;
    low = λ rest fs read less. leading-low ws right level from here rest k w fs is in_k by other read less;
    never = λ no. leading-never ws right level from here k w is in_k by other no;
  }

  pub applied-under-way : (level : ℕ) (from here : List (List ℕ)) (w : List ℕ) (t n : ℕ) → from ≡ w ∷ here → IsTermName ws w t n → NoVariable ws w → NoLeading ws w
      → IsUnderWay ws level from here (operands_at_max n) none (app t) (head_level (applied [] 0 n)) false
  applied-under-way level from here w t n is name variables leading = record {
    begun = λ rest fs read le. applied-begun ws right level from here rest w t n (head_level (applied [] 0 n)) fs is name variables leading read refl le;
    low = λ rest fs read less. applied-low ws right level from here rest w t n (head_level (applied [] 0 n)) fs is name variables leading read refl less;
    never = λ no. applied-never ws right level from here w t n is name variables leading no;
  }

  pub infix-under-way : (level : ℕ) (from before here : List (List ℕ)) (tree : Tree) (own : ℕ) (left : Bool) (k : Notation) (w : List ℕ)
      → IsBegun ws level from before tree own left → before ≡ w ∷ here
      → Contains ws.infixes k → JoinedBy k w → level ≤ k.level → MayLead k own left
      → IsUnderWay ws level from here (items (drop 2 k.elements) (last_level k)) (more tree none) (notated_tree k) k.level (not k.is_right)
  infix-under-way level from before here tree own left k w begun is in_k by high may = record {
    begun = λ rest fs read le. joined-more ws right level from before here rest tree own left k w fs (notated_tree k fs) begun is in_k by high may read refl;
    low = λ rest fs read less. absurd (omega (arith, less, high));
    never = λ no. joined-never ws right level from before here tree own left k w begun is in_k by high no;
  }

  -- ---- parts

  module _ (level : ℕ) (from here : List (List ℕ)) (es : Trees) (make : Trees → Tree) (own : ℕ) (left : Bool) where
    pub constant-next : (c : List ℕ) (its : List Item) (xs : List (List ℕ)) → here ≡ c ∷ xs → IsUnderWay ws level from here (token c ∷ its) es make own left
        → IsUnderWay ws level from xs its es make own left
    constant-next c its xs is so_far = record {
      begun = λ rest fs read le. so_far.begun rest fs (one-token ws right c its here xs rest es fs is read) le;
      low = λ rest fs read less. so_far.low rest fs (one-token ws right c its here xs rest es fs is read) less;
      never = λ no. so_far.never (no-token ws right c its here (λ ys e. subst (NoParts ws its) (same-tail (sym is ∙ e)) no));
    }

    pub no-constant : (c : List ℕ) (its : List Item) → ((xs : List (List ℕ)) → here ≡ c ∷ xs → ⊥) → IsUnderWay ws level from here (token c ∷ its) es make own left → NoReading ws level from
    no-constant c its never so_far = so_far.never (no-token ws right c its here (λ xs e. absurd (never xs e)))

    pub operand-next : (l : ℕ) (its : List Item) (mid : List (List ℕ)) (tree : Tree) → IsMaxBefore l its → IsRead ws l here mid tree → IsUnderWay ws level from here (expr l ∷ its) es make own left
        → IsUnderWay ws level from mid its (followed_by es (more tree none)) make own left
    operand-next l its mid tree max is so_far = record {
      begun = λ rest fs read le. so_far.begun rest fs (one-part ws right l its here mid rest tree es fs max is read) le;
      low = λ rest fs read less. so_far.low rest fs (one-part ws right l its here mid rest tree es fs max is read) less;
      never = λ no. so_far.never (no-rest ws right l its here mid tree is no);
    }

    pub no-operand : (l : ℕ) (its : List Item) → NoReading ws l here → IsUnderWay ws level from here (expr l ∷ its) es make own left → NoReading ws level from
    no-operand l its never so_far = so_far.never (no-expr ws right l its here never)

    module _ (its : List Item) (none_left : its ≡ []) (so_far : IsUnderWay ws level from here its es make own left) where
      at_end : IsUnderWay ws level from here [] es make own left
      at_end = subst (λ xs. IsUnderWay ws level from here xs es make own left) none_left so_far

      pub all-parts : (made : Tree) (at : ℕ) (is_left : Bool) → made ≡ make es → at ≡ own → is_left ≡ left → level ≤ at → IsBegun ws level from here made at is_left
      all-parts made at is_left made_is at_is left_is le =
          subst (λ t. IsBegun ws level from here t at is_left) (sym made_is) (subst (λ n. IsBegun ws level from here (make es) n is_left) (sym at_is)
          (subst (λ b. IsBegun ws level from here (make es) own b) (sym left_is) (at_end.begun here es (no-items ws right here es) (subst (λ n. level ≤ n) at_is le))))

      pub too-low : (at : ℕ) → at ≡ own → at < level → NoReading ws level from
      too-low at at_is less = at_end.low here es (no-items ws right here es) (subst (λ n. n < level) at_is less)

  -- ---- expressions within one another

  no-inner : (from here : List (List ℕ)) (l : ℕ) (o : Outer) → Waits ws from here l o → NoReading ws l here → NoReading ws (outer_level o) from
  no-inner from here l (outers.Parens level) (is, zero_is) never = parens-never ws right level from here is (subst (λ m. NoReading ws m here) zero_is never)
  no-inner from here l (outers.Operand p) (max, so_far) never = no-operand p.level from here p.operands _ _ _ l _ never so_far

  pub nested-more : (from : List (List ℕ)) (level : ℕ) (os : List Outer) (here : List (List ℕ)) (l : ℕ) (o : Outer) (there : List (List ℕ)) (m : ℕ)
      → Nested ws from level os here l → outer_level o ≡ l → Waits ws here there m o → Nested ws from level (os ++ o ∷ []) there m
  nested-more from level [] here l o there m (same, same_level) is waits =
      (is ∙ sym same_level, there, m, subst (λ ts. Waits ws ts there m o) (sym same) waits, (refl, refl))
  nested-more from level (p ∷ os) here l o there m (is_p, mid, n, waits_p, inner) is waits = (is_p, mid, n, waits_p, nested-more mid n os here l o there m inner is waits)

  pub nested-last : (from : List (List ℕ)) (level : ℕ) (os : List Outer) (o : Outer) (there : List (List ℕ)) (m : ℕ) → Nested ws from level (os ++ o ∷ []) there m
      → (here : List (List ℕ)) × Nested ws from level os here (outer_level o) × Waits ws here there m o
  nested-last from level [] o there m (is, mid, n, waits, (same, same_level)) =
      (from, (refl, sym is), subst (λ ts. Waits ws from ts m o) same (subst (λ k. Waits ws from mid k o) same_level waits))
  nested-last from level (p ∷ os) o there m (is, mid, n, waits, inner) =
      let last = nested-last mid n os o there m inner in (last.0, (is, mid, n, waits, last.1), last.2)

  pub no-whole : (from : List (List ℕ)) (level : ℕ) (os : List Outer) (here : List (List ℕ)) (l : ℕ) → Nested ws from level os here l → NoReading ws l here → NoReading ws level from
  no-whole from level [] here l (same, same_level) never = subst (λ ts. NoReading ws level ts) (sym same) (subst (λ m. NoReading ws m here) (sym same_level) never)
  no-whole from level (o ∷ os) here l (is, mid, m, waits, inner) never =
      subst (λ n. NoReading ws n from) is (no-inner from mid m o waits (no-whole mid m os here l inner never))

  -- ---- turns of the loop

  module _ (tokens : List (List ℕ)) (os : List Outer) (step next : Step) where
    pub inner-read : (new : List Outer) (o : Outer) (l at : ℕ) → new ≡ os ++ o ∷ [] → step ≡ steps.Inner o l at → Says ws tokens (drop at tokens) l next
        → IsReading ws tokens os step → IsReading ws tokens new next
    inner-read new o l at new_is is says (here, level, nested, before) =
        let waits = subst (Says ws tokens here level) is before in (
          drop at tokens,
          l,
          subst (λ ps. Nested ws tokens 0 ps (drop at tokens) l) (sym new_is) (nested-more tokens 0 os here level o (drop at tokens) l nested waits.0 waits.1),
          says,
        )

    pub inner-fewer : (many : ℕ) (new : List Outer) (o : Outer) (l at : ℕ) → new ≡ os ++ o ∷ [] → step ≡ steps.Inner o l at → turns many next < 8 * (many - at) + 1
        → left many new next < left many os step
    inner-fewer many new o l at new_is is less =
        let now : turns many step ≡ 8 * (many - at) + 4 = ap (turns many) is in
        let one = ap length new_is ∙ length-append os (o ∷ []) in
        omega (arith, now, one, less)

    pub goes-on : ((from : List (List ℕ)) (level : ℕ) → Says ws tokens from level step → Says ws tokens from level next) → IsReading ws tokens os step → IsReading ws tokens os next
    goes-on go (here, level, nested, says) = (here, level, nested, go here level says)

    pub goes-back : (old : List Outer) (o : Outer) (f : Found) → old ≡ os ++ o ∷ [] → step ≡ steps.Whole f
        → ((from here : List (List ℕ)) (level : ℕ) → Waits ws from here level o → IsRead ws level here (drop f.next tokens) (tree f.tree) → Says ws tokens from (outer_level o) next)
        → IsReading ws tokens old step → IsReading ws tokens os next
    goes-back old o f old_is is go (here, level, nested, says) =
        let last = nested-last tokens 0 os o here level (subst (λ ps. Nested ws tokens 0 ps here level) old_is nested) in
        (last.0, outer_level o, last.1, go last.0 here level last.2 (subst (Says ws tokens here level) is says))

    pub back-fewer : (many : ℕ) (old : List Outer) (o : Outer) (f : Found) → old ≡ os ++ o ∷ [] → step ≡ steps.Whole f → turns many next < 8 * (many - f.next) + 6
        → left many os next < left many old step
    back-fewer many old o f old_is is less =
        let now : turns many step ≡ 8 * (many - f.next) + 3 = ap (turns many) is in
        let one = ap length old_is ∙ length-append os (o ∷ []) in
        omega (arith, now, one, less)

    pub none-read : step ≡ steps.No → IsReading ws tokens os step → NoReading ws 0 tokens
    none-read is (here, level, nested, says) = no-whole tokens 0 os here level nested (subst (Says ws tokens here level) is says)

    pub whole-read : (f : Found) → os ≡ [] → step ≡ steps.Whole f → IsReading ws tokens os step → IsRead ws 0 tokens (drop f.next tokens) (tree f.tree)
    whole-read f empty is (here, level, nested, says) =
        let read = subst (Says ws tokens here level) is says in
        let same = subst (λ ps. Nested ws tokens 0 ps here level) empty nested in
        subst (λ ts. IsRead ws 0 ts (drop f.next tokens) (tree f.tree)) (sym same.0) (subst (λ l. IsRead ws l here (drop f.next tokens) (tree f.tree)) (sym same.1) read)

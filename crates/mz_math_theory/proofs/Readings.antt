-- What a parser's steps show of readings.
use Rattle.std.proofs.Common.{◌≡◌, ◌≢◌, ◌≤◌, ◌<◌, ◌++◌, ◌∙◌, ◌↔◌, ℕ, zero, suc, List, [], ◌∷◌, Bool, false, not, Some, slice_get, drop, ap, ap₂, sym, refl, subst, inl, inr, arith, append_assoc, Contains}
use Rattle.std.specs.Prelude.{codes}
use Rattle.std.proofs.lemmas.Bool.{false≢true, not-true}
use Rattle.std.proofs.lemmas.List.{append-nil}
use Rattle.mz_logic_theory.specs.Tree.{Tree, Trees, var, app, none, more, followed_by}
use Rattle.std.proofs.lemmas.Option.{slice_get_within, get_or_from_slice_get}
use Rattle.mz_logic_theory.proofs.Offered.{followed_by_none, followed_by_push}
use Rattle.mz_base.proofs.Offered.{same-head as cons_head, same-tail, nil-cons}
use Rattle.mz_math_theory.specs.Lookups.{NoVariable, NoLeading, NoTermName, NoInfix}
use Rattle.mz_math_theory.specs.FormulaAnswers.{MayLead, IsMaxBefore}
use Rattle.mz_math_theory.specs.Notation.{max_level, above}
use Rattle.mz_math_theory.specs.declared.notation.Element.{Element}
use Rattle.mz_math_theory.specs.declared.notation.Element.TheVariants.{Fixed as fixed, Slot as slot}
use Rattle.mz_math_theory.specs.declared.notation.Notation.{Notation}
use Rattle.mz_math_theory.specs.Clear.{LedBy, JoinedBy}
use Rattle.mz_math_theory.specs.Grammar.{Item, token, expr, items, level_before, operands_at_max, ParseHead, variable, parens, applied, notated, Parse, Parts, headed, joined, end, word, part, level_of, head_level, head_items, infix_items, tokens_of, part_tokens, tree_of, part_trees, Words, Exp, IsTermName, IsVariable, last_level, behind_first, IsHead, IsExp, AreParts, CanLead, notated_tree}
use Rattle.mz_math_theory.specs.Readable.{IsReadable}
use Rattle.mz_math_theory.specs.Reading.{NotJoined, Before, Spaced, Step, build, step_tokens, Reads, NoReading, GoesOn, IsBegun, ArePartsRead, NoParts, IsRead}
use Rattle.mz_math_theory.proofs.Chains.{base, base_parts, steps_of, rebuilt, tokens-build, inner, level-falls}
use Rattle.mz_math_theory.proofs.Unique.{one-notation, behind, spaced-head, spaced-infix, parts-same, head-begins, step-begins, same-head, follows, all-unique, good-inside, unique, BeginsWith}

module _ (ws : Words) (right : IsReadable ws) where
  -- ---- parts

  pub no-items : (tokens : List (List ℕ)) (es : Trees) → ArePartsRead ws [] tokens tokens es es
  no-items tokens es = record { parts = end; are = tt; tokens_are = refl; spaced = tt; trees_are = sym (followed_by_none es) }

  pub one-token : (c : List ℕ) (its : List Item) (tokens xs rest : List (List ℕ)) (es fs : Trees) → tokens ≡ c ∷ xs → ArePartsRead ws its xs rest es fs
      → ArePartsRead ws (token c ∷ its) tokens rest es fs
  one-token c its tokens xs rest es fs is read =
      record { parts = word c read.parts; are = (refl, read.are); tokens_are = ap (λ ys. c ∷ ys) read.tokens_are ∙ sym is; spaced = read.spaced; trees_are = read.trees_are }

  pub no-token : (c : List ℕ) (its : List Item) (tokens : List (List ℕ)) → ((xs : List (List ℕ)) → tokens ≡ c ∷ xs → NoParts ws its xs) → NoParts ws (token c ∷ its) tokens
  no-token c its tokens never end rest are sp e = absurd are
  no-token c its tokens never (word w ps) rest (same, are) sp e = never (part_tokens ps ++ rest) (sym e ∙ ap (λ v. v ∷ (part_tokens ps ++ rest)) same) ps rest are sp refl
  no-token c its tokens never (part p ps) rest are sp e = absurd are

  pub no-expr : (l : ℕ) (its : List Item) (tokens : List (List ℕ)) → NoReading ws l tokens → NoParts ws (expr l ∷ its) tokens
  no-expr l its tokens never end rest are sp e = absurd are
  no-expr l its tokens never (word w ps) rest are sp e = absurd are
  no-expr l its tokens never (part p ps) rest (le, is, are) (before, sp) e =
      never p (part_tokens ps ++ rest) (is, le, sym (append_assoc (tokens_of p) (part_tokens ps) rest) ∙ e, behind ws right l its ps rest before are)

  pub no-rest : (l : ℕ) (its : List Item) (tokens mid : List (List ℕ)) (tree : Tree) → IsRead ws l tokens mid tree → NoParts ws its mid → NoParts ws (expr l ∷ its) tokens
  no-rest l its tokens mid tree read never end rest are sp e = absurd are
  no-rest l its tokens mid tree read never (word w ps) rest are sp e = absurd are
  no-rest l its tokens mid tree read never (part p ps) rest (le, is, are) (before, sp) e =
      let same = unique ws right p (good-inside ws right p) read.parse l (part_tokens ps ++ rest) mid is read.reads.0 le read.reads.1
      (behind ws right l its ps rest before are) read.reads.3 (sym (append_assoc (tokens_of p) (part_tokens ps) rest) ∙ e ∙ sym read.reads.2) in
      never ps rest are sp same.1

  one-expr : (l : ℕ) (its : List Item) (tokens mid rest : List (List ℕ)) (tree : Tree) (es fs : Trees) → IsRead ws l tokens mid tree
      → ((parts : Parts) → AreParts ws its parts → part_tokens parts ++ rest ≡ mid → Before ws l its rest)
      → ArePartsRead ws its mid rest (followed_by es (more tree none)) fs → ArePartsRead ws (expr l ∷ its) tokens rest es fs
  one-expr l its tokens mid rest tree es fs read before parts = record {
    parts = part read.parse parts.parts;
    are = (read.reads.1, read.reads.0, parts.are);
    tokens_are = append_assoc (tokens_of read.parse) (part_tokens parts.parts) rest ∙ ap (λ ys. tokens_of read.parse ++ ys) parts.tokens_are ∙ read.reads.2;
    spaced = (before parts.parts parts.are parts.tokens_are, parts.spaced);
    trees_are = parts.trees_are ∙ followed_by_push es (part_trees parts.parts) tree ∙ ap (λ t. followed_by es (more t (part_trees parts.parts))) (sym read.tree_is);
  }

  -- nothing can be joined to an operand before what is next
  before-next : (l : ℕ) (its : List Item) (mid rest : List (List ℕ)) → IsMaxBefore l its → NotJoined ws l mid → (ps : Parts) → AreParts ws its ps → part_tokens ps ++ rest ≡ mid → Before ws l its rest
  before-next l [] mid rest max not end are e = subst (NotJoined ws l) (sym e) not
  before-next l [] mid rest max not (word w ps) are e = absurd are
  before-next l [] mid rest max not (part p ps) are e = absurd are
  before-next l (token c ∷ its) mid rest max not end are e = absurd are
  before-next l (token c ∷ its) mid rest max not (word w ps) (same, are) e = λ k in_k by. (subst (NotJoined ws l) (sym e) not) k in_k (subst (JoinedBy k) (sym same) by)
  before-next l (token c ∷ its) mid rest max not (part p ps) are e = absurd are
  before-next l (expr m ∷ its) mid rest max not ps are e = max

  pub one-part : (l : ℕ) (its : List Item) (tokens mid rest : List (List ℕ)) (tree : Tree) (es fs : Trees) → IsMaxBefore l its → IsRead ws l tokens mid tree
      → ArePartsRead ws its mid rest (followed_by es (more tree none)) fs → ArePartsRead ws (expr l ∷ its) tokens rest es fs
  one-part l its tokens mid rest tree es fs max read parts = one-expr l its tokens mid rest tree es fs read (before-next l its mid rest max read.reads.3) parts

  pub max-before-elements : (ls : List Element) (last : ℕ) → IsMaxBefore (level_before ls last) (items ls last)
  max-before-elements [] last = tt
  max-before-elements (fixed c q ∷ ls) last = tt
  max-before-elements (slot i ∷ ls) last = refl

  pub max-before-operands : (n : ℕ) → IsMaxBefore max_level (operands_at_max n)
  max-before-operands zero = tt
  max-before-operands (suc n) = refl

  pub one-slot : (i : ℕ) (ls : List Element) (last : ℕ) (tokens mid rest : List (List ℕ)) (tree : Tree) (es fs : Trees) → IsRead ws (level_before ls last) tokens mid tree
      → ArePartsRead ws (items ls last) mid rest (followed_by es (more tree none)) fs → ArePartsRead ws (items (slot i ∷ ls) last) tokens rest es fs
  one-slot i ls last tokens mid rest tree es fs read parts = one-part (level_before ls last) (items ls last) tokens mid rest tree es fs (max-before-elements ls last) read parts

  pub one-operand : (n : ℕ) (tokens mid rest : List (List ℕ)) (tree : Tree) (es fs : Trees) → IsRead ws max_level tokens mid tree
      → ArePartsRead ws (operands_at_max n) mid rest (followed_by es (more tree none)) fs → ArePartsRead ws (operands_at_max (suc n)) tokens rest es fs
  one-operand n tokens mid rest tree es fs read parts = one-part max_level (operands_at_max n) tokens mid rest tree es fs (max-before-operands n) read parts

  -- ---- what stands first in a reading

  record FirstOf (p : Parse) (tokens more_tokens : List (List ℕ)) : Type 0 where
    pub is : IsHead ws (base p)
    pub are : AreParts ws (head_items (base p)) (base_parts p)
    pub spaced : Spaced ws (head_items (base p)) (step_tokens (steps_of p) ++ more_tokens)
    pub whole : part_tokens (base_parts p) ++ (step_tokens (steps_of p) ++ more_tokens) ≡ tokens
    pub first : List ℕ
    pub rest : List (List ℕ)
    pub begins : BeginsWith ws right (base p) first
    pub tokens_are : tokens ≡ first ∷ rest

  first-of : (level : ℕ) (tokens : List (List ℕ)) (p : Parse) (xs : List (List ℕ)) → Reads ws level tokens p xs → FirstOf p tokens xs
  first-of level tokens p xs (is, le, e, not) =
      let is' = subst (IsExp ws) (sym (rebuilt p)) is in
      let here = inner ws (headed (base p) (base_parts p)) (steps_of p) is' in
      let begins = head-begins ws right (base p) (base_parts p) here.0 here.1 in
      let whole : part_tokens (base_parts p) ++ (step_tokens (steps_of p) ++ xs) ≡ tokens =
      sym (append_assoc (part_tokens (base_parts p)) (step_tokens (steps_of p)) xs)
      ∙ ap (λ ts. ts ++ xs) (sym (tokens-build (headed (base p) (base_parts p)) (steps_of p)) ∙ ap tokens_of (rebuilt p)) ∙ e in
      record {
        is = here.0;
        are = here.1;
        spaced = spaced-head ws right (base p) (step_tokens (steps_of p) ++ xs) here.0
            (follows ws right (headed (base p) (base_parts p)) (steps_of p) level xs is' (subst (λ r. level ≤ level_of r) (sym (rebuilt p)) le) not);
        whole = whole;
        first = begins.0;
        rest = part_tokens begins.1 ++ (step_tokens (steps_of p) ++ xs);
        begins = begins.2;
        tokens_are = sym whole ∙ ap (λ ps. part_tokens ps ++ (step_tokens (steps_of p) ++ xs)) begins.3;
      }

  pub no-tokens : (level : ℕ) → NoReading ws level []
  no-tokens level p xs reads = let first = first-of level [] p xs reads in nil-cons first.tokens_are

  -- never form begins with the token
  pub no-word : (level : ℕ) (w : List ℕ) (rest : List (List ℕ)) → ((h : ParseHead) → IsHead ws h → BeginsWith ws right h w → ⊥) → NoReading ws level (w ∷ rest)
  no-word level w rest never p xs reads =
      let first = first-of level (w ∷ rest) p xs reads in
      never (base p) first.is (subst (BeginsWith ws right (base p)) (sym (cons_head first.tokens_are)) first.begins)

  -- the form that begins with the token is not there
  pub no-head : (level : ℕ) (h : ParseHead) (w : List ℕ) (rest : List (List ℕ)) → IsHead ws h → BeginsWith ws right h w → NoParts ws (head_items h) (w ∷ rest) → NoReading ws level (w ∷ rest)
  no-head level h w rest is begins never p xs reads =
      let first = first-of level (w ∷ rest) p xs reads in
      let same : base p ≡ h = same-head ws right (base p) h w first.is is (subst (BeginsWith ws right (base p)) (sym (cons_head first.tokens_are)) first.begins) begins in
      never (base_parts p) (step_tokens (steps_of p) ++ xs) (subst (λ g. AreParts ws (head_items g) (base_parts p)) same first.are)
      (subst (λ g. Spaced ws (head_items g) (step_tokens (steps_of p) ++ xs)) same first.spaced) first.whole

  head-goes_on : (level : ℕ) (h : ParseHead) (w : List ℕ) (ps : Parts) (tail rest : List (List ℕ)) → IsHead ws h → BeginsWith ws right h w → AreParts ws (head_items h) ps
      → Spaced ws (head_items h) rest → part_tokens ps ++ rest ≡ w ∷ tail → GoesOn ws level (w ∷ tail) (headed h ps) rest
  head-goes_on level h w ps tail rest is begins are sp e p xs reads =
      let first = first-of level (w ∷ tail) p xs reads in
      let same : base p ≡ h = same-head ws right (base p) h w first.is is (subst (BeginsWith ws right (base p)) (sym (cons_head first.tokens_are)) first.begins) begins in
      let parts = parts-same ws right (head_items h) (base_parts p) ps (step_tokens (steps_of p) ++ xs) rest (all-unique ws right (base_parts p))
      (subst (λ g. AreParts ws (head_items g) (base_parts p)) same first.are) are
      (subst (λ g. Spaced ws (head_items g) (step_tokens (steps_of p) ++ xs)) same first.spaced) sp (first.whole ∙ sym e) in
      (steps_of p, sym (rebuilt p) ∙ ap₂ (λ g qs. build (headed g qs) (steps_of p)) same parts.0, parts.1)

  -- a form at an operand's place stands first
  pub head-begun : (level : ℕ) (h : ParseHead) (w : List ℕ) (ps : Parts) (tail rest : List (List ℕ)) (tree : Tree) → IsHead ws h → BeginsWith ws right h w → AreParts ws (head_items h) ps
      → Spaced ws (head_items h) rest → part_tokens ps ++ rest ≡ w ∷ tail → tree_of (headed h ps) ≡ tree → level ≤ head_level h
      → IsBegun ws level (w ∷ tail) rest tree (head_level h) false
  head-begun level h w ps tail rest tree is begins are sp e tree_is le = record {
    parse = headed h ps;
    is = (is, are);
    enough = le;
    tokens_are = e;
    tree_is = tree_is;
    level_is = refl;
    left_is = (λ f. false≢true f, λ f. absurd f);
    goes_on = head-goes_on level h w ps tail rest is begins are sp e;
  }

  pub head-low : (level : ℕ) (h : ParseHead) (w : List ℕ) (ps : Parts) (tail rest : List (List ℕ)) → IsHead ws h → BeginsWith ws right h w → AreParts ws (head_items h) ps
      → Spaced ws (head_items h) rest → part_tokens ps ++ rest ≡ w ∷ tail → head_level h < level → NoReading ws level (w ∷ tail)
  head-low level h w ps tail rest is begins are sp e low p xs reads =
      let on = head-goes_on level h w ps tail rest is begins are sp e p xs reads in
      let falls = level-falls ws right.clear.not_max (headed h ps) on.0 (subst (IsExp ws) on.1 reads.0) in
      let enough = subst (λ r. level ≤ level_of r) on.1 reads.1 in
      absurd (omega (arith, falls, enough))

  -- ---- what goes on

  -- nothing more can be joined
  pub begun-read : (level : ℕ) (tokens rest : List (List ℕ)) (tree : Tree) (at : ℕ) (left : Bool) → IsBegun ws level tokens rest tree at left → NotJoined ws level rest → IsRead ws level tokens rest tree
  begun-read level tokens rest tree at left begun not = record { parse = begun.parse; reads = (begun.is, begun.enough, begun.tokens_are, not); tree_is = begun.tree_is }

  -- a constant of the precedence or above goes on in each reading
  step-of : (level : ℕ) (tokens tail : List (List ℕ)) (tree : Tree) (at : ℕ) (left : Bool) (k : Notation) (w : List ℕ) → (begun : IsBegun ws level tokens (w ∷ tail) tree at left)
      → Contains ws.infixes k → JoinedBy k w → level ≤ k.level → (p : Parse) (xs : List (List ℕ)) → Reads ws level tokens p xs
      → (ps : Parts) × (ss : List Step) × (p ≡ build (joined k begun.parse ps) ss) × (part_tokens ps ++ (step_tokens ss ++ xs) ≡ w ∷ tail)
      × CanLead k begun.parse × AreParts ws (infix_items k) ps × Spaced ws (infix_items k) (step_tokens ss ++ xs)
  step-of level tokens tail tree at left k w begun in_k by le p xs reads = go (on.0) on.1 on.2
    where
      on : (ss : List Step) × (p ≡ build begun.parse ss) × (step_tokens ss ++ xs ≡ w ∷ tail)
      on = begun.goes_on p xs reads

      go : (ss : List Step) → p ≡ build begun.parse ss → step_tokens ss ++ xs ≡ w ∷ tail
          → (ps : Parts) × (ts : List Step) × (p ≡ build (joined k begun.parse ps) ts) × (part_tokens ps ++ (step_tokens ts ++ xs) ≡ w ∷ tail)
          × CanLead k begun.parse × AreParts ws (infix_items k) ps × Spaced ws (infix_items k) (step_tokens ts ++ xs)
      go [] is e = absurd (let less = (subst (NotJoined ws level) e reads.3) k in_k by in omega (arith, less))
      go (s ∷ ss) is e =
          let is_p : IsExp ws (build begun.parse (s ∷ ss)) = subst (IsExp ws) is reads.0 in
          let enough : level ≤ level_of (build begun.parse (s ∷ ss)) = subst (λ r. level ≤ level_of r) is reads.1 in
          let here = inner ws (joined s.notation begun.parse s.parts) ss is_p in
          let first = step-begins ws right s.notation s.parts here.0 here.3 in
          let words : first.0 ≡ w = cons_head (sym (ap (λ ps. (part_tokens ps ++ step_tokens ss) ++ xs) first.3) ∙ e) in
          let same : s.notation ≡ k = one-notation JoinedBy ws.infixes s.notation k w right.clear.joined here.0 in_k (subst (JoinedBy s.notation) words first.2) by in (
            s.parts,
            ss,
            is ∙ ap (λ l. build (joined l begun.parse s.parts) ss) same,
            sym (append_assoc (part_tokens s.parts) (step_tokens ss) xs) ∙ e,
            subst (λ l. CanLead l begun.parse) same here.1,
            subst (λ l. AreParts ws (infix_items l) s.parts) same here.3,
            subst (λ l. Spaced ws (infix_items l) (step_tokens ss ++ xs)) same
                (spaced-infix ws right s.notation (step_tokens ss ++ xs) here.0 (follows ws right (joined s.notation begun.parse s.parts) ss level xs is_p enough reads.3)),
          )

  pub begun-stuck : (level : ℕ) (tokens tail : List (List ℕ)) (tree : Tree) (at : ℕ) (left : Bool) (k : Notation) (w : List ℕ) → (begun : IsBegun ws level tokens (w ∷ tail) tree at left)
      → Contains ws.infixes k → JoinedBy k w → level ≤ k.level → (CanLead k begun.parse → ⊥) → NoReading ws level tokens
  begun-stuck level tokens tail tree at left k w begun in_k by le cannot p xs reads = let found = step-of level tokens tail tree at left k w begun in_k by le p xs reads in cannot found.4

  pub begun-parts : (level : ℕ) (tokens tail : List (List ℕ)) (tree : Tree) (at : ℕ) (left : Bool) (k : Notation) (w : List ℕ) → (begun : IsBegun ws level tokens (w ∷ tail) tree at left)
      → Contains ws.infixes k → JoinedBy k w → level ≤ k.level → NoParts ws (infix_items k) (w ∷ tail) → NoReading ws level tokens
  begun-parts level tokens tail tree at left k w begun in_k by le never p xs reads =
      let found = step-of level tokens tail tree at left k w begun in_k by le p xs reads in never found.0 (step_tokens found.1 ++ xs) found.5 found.6 found.3

  pub begun-more : (level : ℕ) (tokens tail rest : List (List ℕ)) (tree : Tree) (at : ℕ) (left : Bool) (k : Notation) (w : List ℕ) (es : Trees)
      → (begun : IsBegun ws level tokens (w ∷ tail) tree at left)
      → Contains ws.infixes k → JoinedBy k w → level ≤ k.level → CanLead k begun.parse → ArePartsRead ws (infix_items k) (w ∷ tail) rest (more tree none) es
      → IsBegun ws level tokens rest (notated_tree k es) k.level (not k.is_right)
  begun-more level tokens tail rest tree at left k w es begun in_k by le can read = record {
    parse = joined k begun.parse read.parts;
    is = (in_k, can, begun.is, read.are);
    enough = le;
    tokens_are = append_assoc (tokens_of begun.parse) (part_tokens read.parts) rest ∙ ap (λ ys. tokens_of begun.parse ++ ys) read.tokens_are ∙ begun.tokens_are;
    tree_is = ap (notated_tree k) (ap (λ t. more t (part_trees read.parts)) begun.tree_is ∙ sym read.trees_are);
    level_is = refl;
    left_is = (λ t. not-true k.is_right t, λ f. ap not f);
    goes_on = λ p xs reads.
        let found = step-of level tokens tail tree at left k w begun in_k by le p xs reads in
        let same = parts-same ws right (infix_items k) found.0 read.parts (step_tokens found.1 ++ xs) rest (all-unique ws right found.0) found.5 read.are found.6 read.spaced (found.3 ∙ sym read.tokens_are) in
        (found.1, found.2 ∙ ap (λ ps. build (joined k begun.parse ps) found.1) same.0, same.1);
  }

  -- ---- all tokens

  pub all-read : (tokens : List (List ℕ)) (tree : Tree) → IsRead ws 0 tokens [] tree → Exp ws 0 tree tokens
  all-read tokens tree read = (read.parse, read.reads.0, read.reads.1, sym (append-nil (tokens_of read.parse)) ∙ read.reads.2, read.tree_is)

  as-reading : (tokens : List (List ℕ)) (tree : Tree) → (e : Exp ws 0 tree tokens) → Reads ws 0 tokens e.0 []
  as-reading tokens tree (p, is, le, e, t) = (is, le, append-nil (tokens_of p) ∙ e, tt)

  pub never-read : (tokens : List (List ℕ)) → NoReading ws 0 tokens → (tree : Tree) → Exp ws 0 tree tokens → ⊥
  never-read tokens never tree e = never e.0 [] (as-reading tokens tree e)

  pub some-left : (tokens rest : List (List ℕ)) (t : Tree) → IsRead ws 0 tokens rest t → rest ≢ [] → (tree : Tree) → Exp ws 0 tree tokens → ⊥
  some-left tokens rest t read some tree e =
      let other = as-reading tokens tree e in
      some (sym (unique ws right e.0 (good-inside ws right e.0) read.parse 0 [] rest other.0 read.reads.0 (omega arith) (omega arith) tt read.reads.3 (other.2 ∙ sym read.reads.2)).1)

  -- ---- the forms at an operand's place, one by one

  pub variable-begun : (level : ℕ) (tokens rest : List (List ℕ)) (w : List ℕ) (x : ℕ) → level ≤ max_level → tokens ≡ w ∷ rest → w ≢ [] → slice_get ws.variables x ≡ Some w
      → IsBegun ws level tokens rest (var x) max_level false
  variable-begun level tokens rest w x le is some at =
      subst (λ ts. IsBegun ws level ts rest (var x) max_level false) (sym is)
      (head-begun level (variable w x) w (word w end) rest rest (var x) (some, at) refl (refl, tt) tt refl refl le)

  pub none-begins : (level : ℕ) (tokens rest : List (List ℕ)) (w : List ℕ) → tokens ≡ w ∷ rest → NoVariable ws w → NoLeading ws w → NoTermName ws w → w ≢ codes "(" → NoReading ws level tokens
  none-begins level tokens rest w is variables leading terms bracket = subst (NoReading ws level) (sym is) (no-word level w rest go)
    where
      go : (h : ParseHead) → IsHead ws h → BeginsWith ws right h w → ⊥
      go (variable name x) (some, at) begins = variables (subst (λ v. v ≢ []) begins some, (x, slice_get_within ws.variables x w (at ∙ ap Some begins), get_or_from_slice_get ws.variables x w w (at ∙ ap Some begins)))
      go parens is_h begins = bracket (sym begins)
      go (applied name t n) is_h begins = terms t n (subst (λ v. IsTermName ws v t n) begins is_h.0)
      go (notated k) is_h begins = leading (k, is_h.0, begins)

  led-same : (k : Notation) (v w : List ℕ) → LedBy k v → LedBy k w → v ≡ w
  led-same k v w (ls, is) (ms, other) = go (sym is ∙ other)
    where
      go : fixed v k.level ∷ ls ≡ fixed w k.level ∷ ms → v ≡ w
      go e = cc

  leading-head : (k : Notation) (w : List ℕ) → Contains ws.leading k → LedBy k w → NoVariable ws w → IsHead ws (notated k)
  leading-head k w in_k by other = (in_k, λ v led is. other (subst (IsVariable ws) (led-same k v w led by) is))

  leading-items : (k : Notation) (w : List ℕ) → LedBy k w → token w ∷ items (drop 1 k.elements) k.level ≡ head_items (notated k)
  leading-items k w (ls, is) = ap (λ ms. token w ∷ items (drop 1 ms) k.level) is ∙ ap (λ ms. items ms k.level) (sym is)

  pub leading-never : (level : ℕ) (tokens rest : List (List ℕ)) (k : Notation) (w : List ℕ) → tokens ≡ w ∷ rest → Contains ws.leading k → LedBy k w → NoVariable ws w
      → NoParts ws (items (drop 1 k.elements) k.level) rest → NoReading ws level tokens
  leading-never level tokens rest k w is in_k by other never =
      subst (NoReading ws level) (sym is) (no-head level (notated k) w rest (leading-head k w in_k by other) by
      (subst (λ its. NoParts ws its (w ∷ rest)) (leading-items k w by) (no-token w (items (drop 1 k.elements) k.level) (w ∷ rest)
      (λ xs e. subst (NoParts ws (items (drop 1 k.elements) k.level)) (same-tail e) never))))

  leading-parts : (k : Notation) (w : List ℕ) (tokens rest after : List (List ℕ)) (es : Trees) → tokens ≡ w ∷ rest → LedBy k w
      → ArePartsRead ws (items (drop 1 k.elements) k.level) rest after none es → ArePartsRead ws (head_items (notated k)) (w ∷ rest) after none es
  leading-parts k w tokens rest after es is by read =
      subst (λ its. ArePartsRead ws its (w ∷ rest) after none es) (leading-items k w by) (one-token w (items (drop 1 k.elements) k.level) (w ∷ rest) rest after none es refl read)

  pub leading-begun : (level : ℕ) (tokens rest after : List (List ℕ)) (k : Notation) (w : List ℕ) (es : Trees) (tree : Tree) → tokens ≡ w ∷ rest → Contains ws.leading k → LedBy k w → NoVariable ws w
      → ArePartsRead ws (items (drop 1 k.elements) k.level) rest after none es → level ≤ k.level → tree ≡ notated_tree k es → IsBegun ws level tokens after tree k.level false
  leading-begun level tokens rest after k w es tree is in_k by other read le tree_is =
      let parts = leading-parts k w tokens rest after es is by read in
      subst (λ ts. IsBegun ws level ts after tree k.level false) (sym is)
      (head-begun level (notated k) w parts.parts rest after tree (leading-head k w in_k by other) by parts.are parts.spaced parts.tokens_are (sym (ap (notated_tree k) parts.trees_are) ∙ sym tree_is) le)

  pub leading-low : (level : ℕ) (tokens rest after : List (List ℕ)) (k : Notation) (w : List ℕ) (es : Trees) → tokens ≡ w ∷ rest → Contains ws.leading k → LedBy k w → NoVariable ws w
      → ArePartsRead ws (items (drop 1 k.elements) k.level) rest after none es → k.level < level → NoReading ws level tokens
  leading-low level tokens rest after k w es is in_k by other read low =
      let parts = leading-parts k w tokens rest after es is by read in
      subst (NoReading ws level) (sym is) (head-low level (notated k) w parts.parts rest after (leading-head k w in_k by other) by parts.are parts.spaced parts.tokens_are low)

  term-head : (w : List ℕ) (t n : ℕ) → IsTermName ws w t n → NoVariable ws w → NoLeading ws w → IsHead ws (applied w t n)
  term-head w t n is variables leading = (is, variables, leading)

  pub applied-never : (level : ℕ) (tokens rest : List (List ℕ)) (w : List ℕ) (t n : ℕ) → tokens ≡ w ∷ rest → IsTermName ws w t n → NoVariable ws w → NoLeading ws w
      → NoParts ws (operands_at_max n) rest → NoReading ws level tokens
  applied-never level tokens rest w t n is name variables leading never =
      subst (NoReading ws level) (sym is) (no-head level (applied w t n) w rest (term-head w t n name variables leading) refl
      (no-token w (operands_at_max n) (w ∷ rest) (λ xs e. subst (NoParts ws (operands_at_max n)) (same-tail e) never)))

  same-level : (w : List ℕ) (t n : ℕ) → head_level (applied [] 0 n) ≡ head_level (applied w t n)
  same-level w t zero = refl
  same-level w t (suc n) = refl

  pub applied-begun : (level : ℕ) (tokens rest after : List (List ℕ)) (w : List ℕ) (t n at : ℕ) (es : Trees) → tokens ≡ w ∷ rest → IsTermName ws w t n → NoVariable ws w → NoLeading ws w
      → ArePartsRead ws (operands_at_max n) rest after none es → at ≡ head_level (applied [] 0 n) → level ≤ at → IsBegun ws level tokens after (app t es) at false
  applied-begun level tokens rest after w t n at es is name variables leading read own le =
      let here = own ∙ same-level w t n in
      let parts = one-token w (operands_at_max n) (w ∷ rest) rest after none es refl read in
      subst (λ ts. IsBegun ws level ts after (app t es) at false) (sym is) (subst (λ l. IsBegun ws level (w ∷ rest) after (app t es) l false) (sym here)
      (head-begun level (applied w t n) w parts.parts rest after (app t es) (term-head w t n name variables leading) refl parts.are parts.spaced parts.tokens_are
      (sym (ap (app t) parts.trees_are)) (subst (λ l. level ≤ l) here le)))

  pub applied-low : (level : ℕ) (tokens rest after : List (List ℕ)) (w : List ℕ) (t n at : ℕ) (es : Trees) → tokens ≡ w ∷ rest → IsTermName ws w t n → NoVariable ws w → NoLeading ws w
      → ArePartsRead ws (operands_at_max n) rest after none es → at ≡ head_level (applied [] 0 n) → at < level → NoReading ws level tokens
  applied-low level tokens rest after w t n at es is name variables leading read own low =
      let here = own ∙ same-level w t n in
      let parts = one-token w (operands_at_max n) (w ∷ rest) rest after none es refl read in
      subst (NoReading ws level) (sym is) (head-low level (applied w t n) w parts.parts rest after (term-head w t n name variables leading) refl parts.are parts.spaced parts.tokens_are
      (subst (λ l. l < level) here low))

  pub parens-never : (level : ℕ) (tokens rest : List (List ℕ)) → tokens ≡ codes "(" ∷ rest → NoReading ws 0 rest → NoReading ws level tokens
  parens-never level tokens rest is never =
      subst (NoReading ws level) (sym is) (no-head level parens (codes "(") rest tt refl
      (no-token (codes "(") (expr 0 ∷ token (codes ")") ∷ []) (codes "(" ∷ rest)
      (λ xs e. no-expr 0 (token (codes ")") ∷ []) xs (subst (NoReading ws 0) (same-tail e) never))))

  pub parens-open : (level : ℕ) (tokens rest mid : List (List ℕ)) (tree : Tree) → tokens ≡ codes "(" ∷ rest → IsRead ws 0 rest mid tree → ((xs : List (List ℕ)) → mid ≡ codes ")" ∷ xs → ⊥) → NoReading ws level tokens
  parens-open level tokens rest mid tree is read never =
      subst (NoReading ws level) (sym is) (no-head level parens (codes "(") rest tt refl
      (no-token (codes "(") (expr 0 ∷ token (codes ")") ∷ []) (codes "(" ∷ rest)
      (λ xs e. no-rest 0 (token (codes ")") ∷ []) xs mid tree (subst (λ ts. IsRead ws 0 ts mid tree) (same-tail e) read)
      (no-token (codes ")") [] mid (λ ys f. absurd (never ys f))))))

  pub parens-begun : (level : ℕ) (tokens rest mid after : List (List ℕ)) (tree : Tree) → tokens ≡ codes "(" ∷ rest → IsRead ws 0 rest mid tree → mid ≡ codes ")" ∷ after → level ≤ max_level
      → IsBegun ws level tokens after tree max_level false
  parens-begun level tokens rest mid after tree is read close le =
      subst (λ ts. IsBegun ws level ts after tree max_level false) (sym is)
      (head-begun level parens (codes "(") (word (codes "(") (part read.parse (word (codes ")") end))) rest after tree tt refl
      (refl, (read.reads.1, read.reads.0, (refl, tt))) (λ k in_k by. absurd (right.no_infix k in_k by), tt)
      (ap (λ ts. codes "(" ∷ ts) (append_assoc (tokens_of read.parse) (codes ")" ∷ []) after ∙ ap (λ ts. tokens_of read.parse ++ ts) (sym close) ∙ read.reads.2)) read.tree_is le)

  pub parens-low : (level : ℕ) (tokens rest mid after : List (List ℕ)) (tree : Tree) → tokens ≡ codes "(" ∷ rest → IsRead ws 0 rest mid tree → mid ≡ codes ")" ∷ after → max_level < level
      → NoReading ws level tokens
  parens-low level tokens rest mid after tree is read close low =
      subst (NoReading ws level) (sym is)
      (head-low level parens (codes "(") (word (codes "(") (part read.parse (word (codes ")") end))) rest after tt refl
      (refl, (read.reads.1, read.reads.0, (refl, tt))) (λ k in_k by. absurd (right.no_infix k in_k by), tt)
      (ap (λ ts. codes "(" ∷ ts) (append_assoc (tokens_of read.parse) (codes ")" ∷ []) after ∙ ap (λ ts. tokens_of read.parse ++ ts) (sym close) ∙ read.reads.2)) low)

  -- ---- infix forms, one by one

  pub not-infix : (level : ℕ) (tokens rest : List (List ℕ)) (w : List ℕ) → tokens ≡ w ∷ rest → NoInfix ws w → NotJoined ws level tokens
  not-infix level tokens rest w is never = subst (NotJoined ws level) (sym is) (λ k in_k by. absurd (never k in_k by))

  pub low-infix : (level : ℕ) (tokens rest : List (List ℕ)) (w : List ℕ) (k : Notation) → tokens ≡ w ∷ rest → Contains ws.infixes k → JoinedBy k w → k.level < level → NotJoined ws level tokens
  low-infix level tokens rest w k is in_k by low =
      subst (NotJoined ws level) (sym is) (λ l in_l by_l. subst (λ m. m.level < level) (one-notation JoinedBy ws.infixes k l w right.clear.joined in_k in_l by by_l) low)

  infix-all : (k : Notation) (w : List ℕ) → JoinedBy k w → token w ∷ items (drop 2 k.elements) (last_level k) ≡ infix_items k
  infix-all k w (i, ls, is) = ap (λ ms. token w ∷ items (drop 2 ms) (last_level k)) is ∙ ap (λ ms. items (behind_first ms) (last_level k)) (sym is)

  may-lead : (level : ℕ) (tokens rest : List (List ℕ)) (tree : Tree) (at : ℕ) (left : Bool) (k : Notation) → (begun : IsBegun ws level tokens rest tree at left) → CanLead k begun.parse ↔ MayLead k at left
  may-lead level tokens rest tree at left k begun = (there, back)
    where
      there : CanLead k begun.parse → MayLead k at left
      there (inl higher) = inl (subst (λ l. above k.level ≤ l) begun.level_is higher)
      there (inr (left_k, form, same)) = inr (left_k, begun.left_is.1 form, sym begun.level_is ∙ same)

      back : MayLead k at left → CanLead k begun.parse
      back (inl higher) = inl (subst (λ l. above k.level ≤ l) (sym begun.level_is) higher)
      back (inr (left_k, is_left, same)) = inr (left_k, begun.left_is.0 is_left, begun.level_is ∙ same)

  pub joined-stuck : (level : ℕ) (tokens here rest : List (List ℕ)) (tree : Tree) (at : ℕ) (left : Bool) (k : Notation) (w : List ℕ) → IsBegun ws level tokens here tree at left → here ≡ w ∷ rest
      → Contains ws.infixes k → JoinedBy k w → level ≤ k.level → (MayLead k at left → ⊥) → NoReading ws level tokens
  joined-stuck level tokens here rest tree at left k w begun is in_k by le cannot =
      let begun' = subst (λ ts. IsBegun ws level tokens ts tree at left) is begun in
      begun-stuck level tokens rest tree at left k w begun' in_k by le (λ can. cannot ((may-lead level tokens (w ∷ rest) tree at left k begun').0 can))

  pub joined-never : (level : ℕ) (tokens here rest : List (List ℕ)) (tree : Tree) (at : ℕ) (left : Bool) (k : Notation) (w : List ℕ) → IsBegun ws level tokens here tree at left → here ≡ w ∷ rest
      → Contains ws.infixes k → JoinedBy k w → level ≤ k.level → NoParts ws (items (drop 2 k.elements) (last_level k)) rest → NoReading ws level tokens
  joined-never level tokens here rest tree at left k w begun is in_k by le never =
      let begun' = subst (λ ts. IsBegun ws level tokens ts tree at left) is begun in
      begun-parts level tokens rest tree at left k w begun' in_k by le
      (subst (λ its. NoParts ws its (w ∷ rest)) (infix-all k w by) (no-token w (items (drop 2 k.elements) (last_level k)) (w ∷ rest)
      (λ xs e. subst (NoParts ws (items (drop 2 k.elements) (last_level k))) (same-tail e) never)))

  pub joined-more : (level : ℕ) (tokens here rest after : List (List ℕ)) (tree : Tree) (at : ℕ) (left : Bool) (k : Notation) (w : List ℕ) (es : Trees) (made : Tree)
      → IsBegun ws level tokens here tree at left → here ≡ w ∷ rest → Contains ws.infixes k → JoinedBy k w → level ≤ k.level → MayLead k at left
      → ArePartsRead ws (items (drop 2 k.elements) (last_level k)) rest after (more tree none) es → made ≡ notated_tree k es → IsBegun ws level tokens after made k.level (not k.is_right)
  joined-more level tokens here rest after tree at left k w es made begun is in_k by le may read made_is =
      let begun' = subst (λ ts. IsBegun ws level tokens ts tree at left) is begun in
      let parts = subst (λ its. ArePartsRead ws its (w ∷ rest) after (more tree none) es) (infix-all k w by)
      (one-token w (items (drop 2 k.elements) (last_level k)) (w ∷ rest) rest after (more tree none) es refl read) in
      subst (λ t. IsBegun ws level tokens after t k.level (not k.is_right)) (sym made_is)
      (begun-more level tokens rest after tree at left k w es begun' in_k by le ((may-lead level tokens (w ∷ rest) tree at left k begun').1 may) parts)

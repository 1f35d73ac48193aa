-- What is kept of the lines so far: whole statements, and the begin of one more.
use Rattle.std.proofs.Common.{◌≡◌, ◌+◌, ◌-◌, ℕ, Bool, true, false, cond, not, List, [], ◌∷◌, ◌++◌, length, map, replicate, Some, None, refl, sym, ap, subst, ◌∙◌, arith, append_assoc, append-nil, length-append}
use Rattle.std.specs.Prelude.{◌==◌, ◌&&◌}
use Rattle.std.proofs.lemmas.Bool.{eqb-true, eqb-false}
use Rattle.std.proofs.lemmas.List.{map-append, length-replicate}
use Rattle.mz_cmd.specs.declared.code.ProofCode.{ProofCode}
use Rattle.mz_cmd.specs.declared.code.UnifyCode.{UnifyCode}
use Rattle.mz_cmd.specs.Codes.{unify_byte, proof_byte}
use Rattle.mz_cmd.specs.Spelling.{shortest}
use Rattle.mz_logic_theory.specs.declared.word.Word.{Word}
use Rattle.mz_layout_tables.specs.Normal.{Parts}
use Rattle.mz_asm.specs.declared.kind.Kind.{Kind}
use Rattle.mz_asm.specs.declared.kind.Kind.TheVariants as kinds
use Rattle.mz_asm.specs.declared.line.Line.{Line}
use Rattle.mz_asm.specs.declared.line.Line.TheVariants as lines
use Rattle.mz_asm.specs.declared.expected.Want.{Want}
use Rattle.mz_asm.specs.declared.expected.Want.TheVariants as wants
use Rattle.mz_asm.specs.Statements.{Statement, unify_line, proof_line, outcome_lines, stream_lines, lines_of, statement_lines, all_lines, listing_lines, is_sort, has_result, has_streams, unify_bytes, proof_bytes, with_statement, parts_from, parts_of}
use Rattle.mz_asm.specs.Progress.{next, next_of}
use Rattle.mz_asm.specs.Making.{Made, sort_parts, with_end, with_line}
use Rattle.mz_asm.specs.Assembling.{Begins}

abbrev pub no_word : Word
no_word = record { 0 = 0 }

-- the lines of a row that has words and streams, up to some of its streams' lines
abbrev pub row_lines : Kind → ℕ → Made → List Line → List Line
row_lines kind row m more = lines.Head kind row (length m.params) ∷ (map lines.Param m.params ++ (outcome_lines (has_result kind) m.outcome ++ more))

-- that row, whole
abbrev pub row_of_lines : Made → ℕ → List (UnifyCode × ℕ) → List (ProofCode × ℕ) → Kind → Statement
row_of_lines m row us ps kind = record { kind = kind; row = row; mods = 0; params = m.params; outcome = m.outcome; unify = us; proof = ps }

abbrev pub Shape : Want → Made → List Line → List Statement → Type 0
Shape wants.Head m ls done = ls ≡ all_lines done
Shape (wants.Words kind left) m ls done =
    (row : ℕ) × (is_sort kind ≡ false) × (m.unify ≡ []) × (m.body ≡ []) × (ls ≡ all_lines done ++ (lines.Head kind row (length m.params + left) ∷ map lines.Param m.params))
Shape (wants.Unify kind) m ls done =
    (row : ℕ) × (us : List (UnifyCode × ℕ)) × (has_streams kind ≡ true) × (m.unify ≡ unify_bytes us) × (m.body ≡ []) × (ls ≡ all_lines done ++ row_lines kind row m (map unify_line us))
Shape (wants.Proof kind) m ls done =
    (row : ℕ) × (us : List (UnifyCode × ℕ)) × (ps : List (ProofCode × ℕ)) × (has_streams kind ≡ true) × (m.unify ≡ unify_bytes us ++ (0 ∷ [])) × (m.body ≡ proof_bytes ps)
    × (ls ≡ all_lines done ++ row_lines kind row m (map unify_line us ++ (lines.UnifyEnd ∷ map proof_line ps)))
Shape wants.Nothing m ls done = ls ≡ listing_lines done

-- whole statements, which the parts are of, and the begin of one more
abbrev pub Stands : Made → List Line → Type 0
Stands m ls = (done : List Statement) × (m.parts ≡ parts_of done) × Shape m.want m ls done

-- ---- one statement more

pub all-more : (ss : List Statement) (s : Statement) → all_lines (ss ++ (s ∷ [])) ≡ all_lines ss ++ statement_lines s
all-more [] s = append-nil (statement_lines s)
all-more (t ∷ ss) s = ap (λ rest. statement_lines t ++ rest) (all-more ss s) ∙ sym (append_assoc (statement_lines t) (all_lines ss) (statement_lines s))

parts-from-more : (p : Parts) (ss : List Statement) (s : Statement) → parts_from p (ss ++ (s ∷ [])) ≡ with_statement (parts_from p ss) s
parts-from-more p [] s = refl
parts-from-more p (t ∷ ss) s = parts-from-more (with_statement p t) ss s

pub parts-more : (ss : List Statement) (s : Statement) → parts_of (ss ++ (s ∷ [])) ≡ with_statement (parts_of ss) s
parts-more ss s = parts-from-more _ ss s

unify-more : (us : List (UnifyCode × ℕ)) (c : UnifyCode) (v : ℕ) → unify_bytes (us ++ ((c, v) ∷ [])) ≡ unify_bytes us ++ shortest (unify_byte c) v
unify-more [] c v = append-nil (shortest (unify_byte c) v)
unify-more (u ∷ us) c v = ap (λ rest. shortest (unify_byte u.0) u.1 ++ rest) (unify-more us c v) ∙ sym (append_assoc (shortest (unify_byte u.0) u.1) (unify_bytes us) (shortest (unify_byte c) v))

proof-more : (ps : List (ProofCode × ℕ)) (c : ProofCode) (v : ℕ) → proof_bytes (ps ++ ((c, v) ∷ [])) ≡ proof_bytes ps ++ shortest (proof_byte c) v
proof-more [] c v = append-nil (shortest (proof_byte c) v)
proof-more (u ∷ us) c v = ap (λ rest. shortest (proof_byte u.0) u.1 ++ rest) (proof-more us c v) ∙ sym (append_assoc (shortest (proof_byte u.0) u.1) (proof_bytes us) (shortest (proof_byte c) v))

-- ---- one line more

-- lines behind those of a row
behind : (a p o u more : List Line) (h : Line) → (a ++ (h ∷ (p ++ (o ++ u)))) ++ more ≡ a ++ (h ∷ (p ++ (o ++ (u ++ more))))
behind a p o u more h =
    append_assoc a (h ∷ (p ++ (o ++ u))) more ∙ ap (λ x. a ++ (h ∷ x)) (append_assoc p (o ++ u) more ∙ ap (λ x. p ++ x) (append_assoc o u more))

behind-words : (a p more : List Line) (h : Line) → (a ++ (h ∷ p)) ++ more ≡ a ++ (h ∷ (p ++ more))
behind-words a p more h = append_assoc a (h ∷ p) more

sort-or-not : (kind : Kind) → has_streams kind ≡ true → is_sort kind ≡ false
sort-or-not kinds.Sort e = absurd cc
sort-or-not _ e = refl

zero-left : (n : ℕ) → n ≡ 0 + n
zero-left n = omega arith

module _ (m : Made) (ls : List Line) (done : List Statement) (parts : m.parts ≡ parts_of done) where
  head-sort : (row number : ℕ) → ls ≡ all_lines done → Stands (with_line m (lines.Head kinds.Sort row number) wants.Head) (ls ++ (lines.Head kinds.Sort row number ∷ []))
  head-sort row number is =
      let s : Statement = record { kind = kinds.Sort; row = row; mods = number; params = []; outcome = no_word; unify = []; proof = [] } in
      (done ++ (s ∷ []), ap (λ (p : Parts). sort_parts true p number) parts ∙ sym (parts-more done s), ap (λ x. x ++ (lines.Head kinds.Sort row number ∷ [])) is ∙ sym (all-more done s))

  head-row : (kind : Kind) (row number : ℕ) → is_sort kind ≡ false → ls ≡ all_lines done → Stands (with_line m (lines.Head kind row number) (wants.Words kind number)) (ls ++ (lines.Head kind row number ∷ []))
  head-row kind row number e is =
      (done, ap (λ b. sort_parts b m.parts number) e ∙ parts, (row, e, refl, refl, ap (λ x. x ++ (lines.Head kind row number ∷ [])) is ∙ ap (λ (n : ℕ). all_lines done ++ (lines.Head kind row n ∷ [])) (zero-left number)))

  at-head : (l : Line) (w : Want) → ls ≡ all_lines done → next_of wants.Head l ≡ Some w → Stands (with_line m l w) (ls ++ (l ∷ []))
  at-head (lines.Head kinds.Sort row number) w is e =
      let to : wants.Head ≡ w = cc in
      subst (λ (v : Want). Stands (with_line m (lines.Head kinds.Sort row number) v) (ls ++ (lines.Head kinds.Sort row number ∷ []))) to (head-sort row number is)
  at-head (lines.Head kinds.Term row number) w is e = let to : wants.Words kinds.Term number ≡ w = cc in subst (λ (v : Want). Stands (with_line m (lines.Head kinds.Term row number) v) (ls ++ (lines.Head kinds.Term row number ∷ []))) to (head-row kinds.Term row number refl is)
  at-head (lines.Head kinds.Definition row number) w is e = let to : wants.Words kinds.Definition number ≡ w = cc in subst (λ (v : Want). Stands (with_line m (lines.Head kinds.Definition row number) v) (ls ++ (lines.Head kinds.Definition row number ∷ []))) to (head-row kinds.Definition row number refl is)
  at-head (lines.Head kinds.LocalDefinition row number) w is e = let to : wants.Words kinds.LocalDefinition number ≡ w = cc in subst (λ (v : Want). Stands (with_line m (lines.Head kinds.LocalDefinition row number) v) (ls ++ (lines.Head kinds.LocalDefinition row number ∷ []))) to (head-row kinds.LocalDefinition row number refl is)
  at-head (lines.Head kinds.Axiom row number) w is e = let to : wants.Words kinds.Axiom number ≡ w = cc in subst (λ (v : Want). Stands (with_line m (lines.Head kinds.Axiom row number) v) (ls ++ (lines.Head kinds.Axiom row number ∷ []))) to (head-row kinds.Axiom row number refl is)
  at-head (lines.Head kinds.Theorem row number) w is e = let to : wants.Words kinds.Theorem number ≡ w = cc in subst (λ (v : Want). Stands (with_line m (lines.Head kinds.Theorem row number) v) (ls ++ (lines.Head kinds.Theorem row number ∷ []))) to (head-row kinds.Theorem row number refl is)
  at-head (lines.Head kinds.LocalTheorem row number) w is e = let to : wants.Words kinds.LocalTheorem number ≡ w = cc in subst (λ (v : Want). Stands (with_line m (lines.Head kinds.LocalTheorem row number) v) (ls ++ (lines.Head kinds.LocalTheorem row number ∷ []))) to (head-row kinds.LocalTheorem row number refl is)
  at-head lines.End w is e =
      let to : wants.Nothing ≡ w = cc in
      subst (λ (v : Want). Stands (with_line m lines.End v) (ls ++ (lines.End ∷ []))) to (done, parts, ap (λ x. x ++ (lines.End ∷ [])) is)
  at-head _ w is e = absurd cc

  -- a parameter
  param-more : (kind : Kind) (left : ℕ) (x : Word) (w : Want) → Shape (wants.Words kind left) m ls done → next_of (wants.Words kind left) (lines.Param x) ≡ Some w → Stands (with_line m (lines.Param x) w) (ls ++ (lines.Param x ∷ []))
  param-more kind left x w (row, sort, u, b, is) e = go (left == 0) refl e
    where
      go : (z : Bool) → (left == 0) ≡ z → cond z None (Some (wants.Words kind (left - 1))) ≡ Some w → Stands (with_line m (lines.Param x) w) (ls ++ (lines.Param x ∷ []))
      go true at e = absurd cc
      go false at e =
          let to : wants.Words kind (left - 1) ≡ w = cc in
          let some : left ≡ 0 → ⊥ = eqb-false _ _ at in
          let count : length m.params + left ≡ length (m.params ++ (x ∷ [])) + (left - 1) = (let long = length-append m.params (x ∷ []) in omega (arith, long, some)) in
          let grown : map lines.Param m.params ++ (lines.Param x ∷ []) ≡ map lines.Param (m.params ++ (x ∷ [])) = sym (map-append lines.Param m.params (x ∷ [])) in
          let whole : ls ++ (lines.Param x ∷ []) ≡ all_lines done ++ (lines.Head kind row (length (m.params ++ (x ∷ [])) + (left - 1)) ∷ map lines.Param (m.params ++ (x ∷ []))) =
          ap (λ y. y ++ (lines.Param x ∷ [])) is ∙ behind-words (all_lines done) (map lines.Param m.params) (lines.Param x ∷ []) (lines.Head kind row (length m.params + left))
          ∙ ap (λ (n : ℕ). all_lines done ++ (lines.Head kind row n ∷ (map lines.Param m.params ++ (lines.Param x ∷ [])))) count
          ∙ ap (λ y. all_lines done ++ (lines.Head kind row (length (m.params ++ (x ∷ [])) + (left - 1)) ∷ y)) grown in
          subst (λ (v : Want). Stands (with_line m (lines.Param x) v) (ls ++ (lines.Param x ∷ []))) to (done, parts, (row, sort, u, b, whole))

  -- a result: the words before it are all there
  outcome-lines : (kind : Kind) (row left : ℕ) (x : Word) → left ≡ 0 → ls ≡ all_lines done ++ (lines.Head kind row (length m.params + left) ∷ map lines.Param m.params)
      → ls ++ (lines.Outcome x ∷ []) ≡ all_lines done ++ (lines.Head kind row (length m.params) ∷ (map lines.Param m.params ++ (lines.Outcome x ∷ [])))
  outcome-lines kind row left x nil is =
      let count : length m.params + left ≡ length m.params = omega (arith, nil) in
      ap (λ y. y ++ (lines.Outcome x ∷ [])) is ∙ behind-words (all_lines done) (map lines.Param m.params) (lines.Outcome x ∷ []) (lines.Head kind row (length m.params + left))
      ∙ ap (λ (n : ℕ). all_lines done ++ (lines.Head kind row n ∷ (map lines.Param m.params ++ (lines.Outcome x ∷ [])))) count

  term-whole : (row : ℕ) (x : Word) → ls ++ (lines.Outcome x ∷ []) ≡ all_lines done ++ (lines.Head kinds.Term row (length m.params) ∷ (map lines.Param m.params ++ (lines.Outcome x ∷ [])))
      → Stands (with_line m (lines.Outcome x) wants.Head) (ls ++ (lines.Outcome x ∷ []))
  term-whole row x is =
      let s : Statement = record { kind = kinds.Term; row = row; mods = 0; params = m.params; outcome = x; unify = []; proof = [] } in
      (done ++ (s ∷ []), ap (λ (p : Parts). with_statement p s) parts ∙ sym (parts-more done s), is ∙ sym (all-more done s))

  outcome-more : (kind : Kind) (left : ℕ) (x : Word) (w : Want) → (left ≡ 0 → has_result kind ≡ true) → Shape (wants.Words kind left) m ls done → next_of (wants.Words kind left) (lines.Outcome x) ≡ Some w
      → Stands (with_line m (lines.Outcome x) w) (ls ++ (lines.Outcome x ∷ []))
  outcome-more kind left x w result (row, sort, u, b, is) e = go (left == 0) refl e
    where
      by-kind : (k : Kind) → is_sort k ≡ false → has_result k ≡ true → ls ++ (lines.Outcome x ∷ []) ≡ all_lines done ++ (lines.Head k row (length m.params) ∷ (map lines.Param m.params ++ (lines.Outcome x ∷ [])))
          → cond (has_streams k) (wants.Unify k) wants.Head ≡ w → Stands (with_line m (lines.Outcome x) w) (ls ++ (lines.Outcome x ∷ []))
      by-kind kinds.Term n h whole to = subst (λ (v : Want). Stands (with_line m (lines.Outcome x) v) (ls ++ (lines.Outcome x ∷ []))) to (term-whole row x whole)
      by-kind kinds.Definition n h whole to = subst (λ (v : Want). Stands (with_line m (lines.Outcome x) v) (ls ++ (lines.Outcome x ∷ []))) to (done, parts, (row, [], refl, u, b, whole))
      by-kind kinds.LocalDefinition n h whole to = subst (λ (v : Want). Stands (with_line m (lines.Outcome x) v) (ls ++ (lines.Outcome x ∷ []))) to (done, parts, (row, [], refl, u, b, whole))
      by-kind _ n h whole to = absurd cc

      go : (z : Bool) → (left == 0) ≡ z → cond z (Some (cond (has_streams kind) (wants.Unify kind) wants.Head)) None ≡ Some w → Stands (with_line m (lines.Outcome x) w) (ls ++ (lines.Outcome x ∷ []))
      go false at e = absurd cc
      go true at e =
          let nil : left ≡ 0 = eqb-true _ _ at in
          let to : cond (has_streams kind) (wants.Unify kind) wants.Head ≡ w = cc in
          by-kind kind sort (result nil) (outcome-lines kind row left x nil is) to

  at-words : (kind : Kind) (left : ℕ) (l : Line) (w : Want) → (left ≡ 0 → has_result kind ≡ true) → Shape (wants.Words kind left) m ls done → next_of (wants.Words kind left) l ≡ Some w → Stands (with_line m l w) (ls ++ (l ∷ []))
  at-words kind left (lines.Param x) w result shape e = param-more kind left x w shape e
  at-words kind left (lines.Outcome x) w result shape e = outcome-more kind left x w result shape e
  at-words kind left _ w result shape e = absurd cc

  at-unify : (kind : Kind) (l : Line) (w : Want) → Shape (wants.Unify kind) m ls done → next_of (wants.Unify kind) l ≡ Some w → Stands (with_line m l w) (ls ++ (l ∷ []))
  at-unify kind (lines.Unify c v) w (row, us, streams, u, b, is) e =
      let to : wants.Unify kind ≡ w = cc in
      let whole = ap (λ y. y ++ (lines.Unify c v ∷ [])) is ∙ behind (all_lines done) (map lines.Param m.params) (outcome_lines (has_result kind) m.outcome) (map unify_line us) (lines.Unify c v ∷ []) (lines.Head kind row (length m.params))
      ∙ ap (λ y. all_lines done ++ row_lines kind row m y) (sym (map-append unify_line us ((c, v) ∷ []))) in
      let bytes = ap (λ y. y ++ shortest (unify_byte c) v) u ∙ sym (unify-more us c v) in
      subst (λ (x : Want). Stands (with_line m (lines.Unify c v) x) (ls ++ (lines.Unify c v ∷ []))) to (done, parts, (row, us ++ ((c, v) ∷ []), streams, bytes, b, whole))
  at-unify kind lines.UnifyEnd w (row, us, streams, u, b, is) e =
      let to : wants.Proof kind ≡ w = cc in
      let whole = ap (λ y. y ++ (lines.UnifyEnd ∷ [])) is ∙ behind (all_lines done) (map lines.Param m.params) (outcome_lines (has_result kind) m.outcome) (map unify_line us) (lines.UnifyEnd ∷ []) (lines.Head kind row (length m.params)) in
      subst (λ (x : Want). Stands (with_line m lines.UnifyEnd x) (ls ++ (lines.UnifyEnd ∷ []))) to (done, parts, (row, us, [], streams, ap (λ y. y ++ (0 ∷ [])) u, b, whole))
  at-unify kind _ w shape e = absurd cc

  -- the end of a body
  body-whole : (kind : Kind) (row : ℕ) (us : List (UnifyCode × ℕ)) (ps : List (ProofCode × ℕ)) → m.want ≡ wants.Proof kind → has_streams kind ≡ true → m.unify ≡ unify_bytes us ++ (0 ∷ []) → m.body ≡ proof_bytes ps
      → ls ++ (lines.ProofEnd ∷ []) ≡ all_lines done ++ row_lines kind row m (map unify_line us ++ (lines.UnifyEnd ∷ (map proof_line ps ++ (lines.ProofEnd ∷ []))))
      → Stands (with_line m lines.ProofEnd wants.Head) (ls ++ (lines.ProofEnd ∷ []))
  body-whole kind row us ps want streams u b is = (done ++ (row_of_lines m row us ps kind ∷ []), ap (λ (v : Want). (with_end v m).parts) want ∙ made kind streams ∙ sym (parts-more done (row_of_lines m row us ps kind)), is ∙ lined kind streams ∙ sym (all-more done (row_of_lines m row us ps kind)))
    where
      made : (k : Kind) → has_streams k ≡ true → (with_end (wants.Proof k) m).parts ≡ with_statement (parts_of done) (row_of_lines m row us ps k)
      made kinds.Sort h = absurd cc
      made kinds.Term h = absurd cc
      made _ h = rw (parts, u, b) refl

      lined : (k : Kind) → has_streams k ≡ true → all_lines done ++ row_lines k row m (map unify_line us ++ (lines.UnifyEnd ∷ (map proof_line ps ++ (lines.ProofEnd ∷ [])))) ≡ all_lines done ++ statement_lines (row_of_lines m row us ps k)
      lined kinds.Sort h = absurd cc
      lined kinds.Term h = absurd cc
      lined _ h = refl

  proof-lines : (kind : Kind) (row : ℕ) (us : List (UnifyCode × ℕ)) (ps : List (ProofCode × ℕ)) (l : Line) → ls ≡ all_lines done ++ row_lines kind row m (map unify_line us ++ (lines.UnifyEnd ∷ map proof_line ps))
      → ls ++ (l ∷ []) ≡ all_lines done ++ row_lines kind row m (map unify_line us ++ (lines.UnifyEnd ∷ (map proof_line ps ++ (l ∷ []))))
  proof-lines kind row us ps l is =
      ap (λ y. y ++ (l ∷ [])) is ∙ behind (all_lines done) (map lines.Param m.params) (outcome_lines (has_result kind) m.outcome) (map unify_line us ++ (lines.UnifyEnd ∷ map proof_line ps)) (l ∷ []) (lines.Head kind row (length m.params))
      ∙ ap (λ y. all_lines done ++ row_lines kind row m y) (append_assoc (map unify_line us) (lines.UnifyEnd ∷ map proof_line ps) (l ∷ []))

  at-proof : (kind : Kind) (l : Line) (w : Want) → m.want ≡ wants.Proof kind → Shape (wants.Proof kind) m ls done → next_of (wants.Proof kind) l ≡ Some w → Stands (with_line m l w) (ls ++ (l ∷ []))
  at-proof kind (lines.Proof c v) w want (row, us, ps, streams, u, b, is) e =
      let to : wants.Proof kind ≡ w = cc in
      let whole = proof-lines kind row us ps (lines.Proof c v) is ∙ ap (λ y. all_lines done ++ row_lines kind row m (map unify_line us ++ (lines.UnifyEnd ∷ y))) (sym (map-append proof_line ps ((c, v) ∷ []))) in
      let bytes = ap (λ y. y ++ shortest (proof_byte c) v) b ∙ sym (proof-more ps c v) in
      subst (λ (x : Want). Stands (with_line m (lines.Proof c v) x) (ls ++ (lines.Proof c v ∷ []))) to (done, parts, (row, us, ps ++ ((c, v) ∷ []), streams, u, bytes, whole))
  at-proof kind lines.ProofEnd w want (row, us, ps, streams, u, b, is) e =
      let to : wants.Head ≡ w = cc in
      subst (λ (x : Want). Stands (with_line m lines.ProofEnd x) (ls ++ (lines.ProofEnd ∷ []))) to (body-whole kind row us ps want streams u b (proof-lines kind row us ps lines.ProofEnd is))
  at-proof kind _ w want shape e = absurd cc

  -- where no word is left of a row without a result
  at-opened : (kind : Kind) (left : ℕ) (l : Line) (w : Want) → Shape (wants.Words kind left) m ls done → next (wants.Words kind left) l ≡ Some w → Stands (with_line m l w) (ls ++ (l ∷ []))
  at-opened kind left l w (row, sort, u, b, is) e = go (left == 0) refl (has_result kind) refl e
    where
      streams : (k : Kind) → is_sort k ≡ false → has_result k ≡ false → has_streams k ≡ true
      streams kinds.Sort n h = absurd cc
      streams kinds.Term n h = absurd cc
      streams _ n h = refl

      go : (z : Bool) → (left == 0) ≡ z → (r : Bool) → has_result kind ≡ r → next_of (cond (z && not r) (wants.Unify kind) (wants.Words kind left)) l ≡ Some w → Stands (with_line m l w) (ls ++ (l ∷ []))
      go false at r is-r e = at-words kind left l w (λ nil. absurd (eqb-false _ _ at nil)) (row, sort, u, b, is) e
      go true at true is-r e = at-words kind left l w (λ nil. is-r) (row, sort, u, b, is) e
      go true at false is-r e =
          let nil : left ≡ 0 = eqb-true _ _ at in
          let count : length m.params + left ≡ length m.params = omega (arith, nil) in
          let whole : ls ≡ all_lines done ++ row_lines kind row m [] =
          is ∙ ap (λ (n : ℕ). all_lines done ++ (lines.Head kind row n ∷ map lines.Param m.params)) count
          ∙ ap (λ y. all_lines done ++ (lines.Head kind row (length m.params) ∷ y)) (sym (append-nil (map lines.Param m.params)))
          ∙ ap (λ r. all_lines done ++ (lines.Head kind row (length m.params) ∷ (map lines.Param m.params ++ (outcome_lines r m.outcome ++ [])))) (sym is-r) in
          at-unify kind l w (row, [], streams kind sort is-r, u, b, whole) e

pub stands-more : (m : Made) (ls : List Line) (l : Line) (w : Want) → Stands m ls → next m.want l ≡ Some w → Stands (with_line m l w) (ls ++ (l ∷ []))
stands-more m ls l w (done, parts, shape) e = go m.want refl shape e
  where
    go : (v : Want) → m.want ≡ v → Shape v m ls done → next v l ≡ Some w → Stands (with_line m l w) (ls ++ (l ∷ []))
    go wants.Head is shape e = at-head m ls done parts l w shape e
    go (wants.Words kind left) is shape e = at-opened m ls done parts kind left l w shape e
    go (wants.Unify kind) is shape e = at-unify m ls done parts kind l w shape e
    go (wants.Proof kind) is shape e = at-proof m ls done parts kind l w is shape e
    go wants.Nothing is shape e = absurd cc

-- ---- some listing begins so

finished : (done : List Statement) (s : Statement) (ls more : List Line) → all_lines done ++ statement_lines s ≡ ls ++ more → Begins ls
finished done s ls more is =
    (done ++ (s ∷ []), more ++ (lines.End ∷ []), ap (λ y. y ++ (lines.End ∷ [])) (all-more done s ∙ is) ∙ append_assoc ls more (lines.End ∷ []))

not-sort-lines : (s : Statement) → is_sort s.kind ≡ false → lines_of false s ≡ statement_lines s
not-sort-lines s e = ap (λ b. lines_of b s) (sym e)

pub stands-begins : (m : Made) (ls : List Line) → Stands m ls → Begins ls
stands-begins m ls (done, parts, shape) = go m.want shape
  where
    row-begins : (kind : Kind) (row : ℕ) (us : List (UnifyCode × ℕ)) (ps : List (ProofCode × ℕ)) (before more : List Line) → has_streams kind ≡ true → ls ≡ all_lines done ++ row_lines kind row m before
        → before ++ more ≡ map unify_line us ++ (lines.UnifyEnd ∷ (map proof_line ps ++ (lines.ProofEnd ∷ []))) → Begins ls
    row-begins kind row us ps before more streams is goes =
        let s : Statement = record { kind = kind; row = row; mods = 0; params = m.params; outcome = m.outcome; unify = us; proof = ps } in
        let front = behind (all_lines done) (map lines.Param m.params) (outcome_lines (has_result kind) m.outcome) before more (lines.Head kind row (length m.params)) in
        let there : stream_lines (has_streams kind) s ≡ before ++ more = ap (λ b. stream_lines b s) streams ∙ sym goes in
        finished done s ls more
        (ap (λ y. all_lines done ++ y) (sym (not-sort-lines s (sort-or-not kind streams)) ∙ ap (λ y. lines.Head kind row (length m.params) ∷ (map lines.Param m.params ++ (outcome_lines (has_result kind) m.outcome ++ y))) there)
        ∙ sym front ∙ ap (λ y. y ++ more) (sym is))

    go : (v : Want) → Shape v m ls done → Begins ls
    go wants.Head is = (done, lines.End ∷ [], ap (λ y. y ++ (lines.End ∷ [])) (sym is))
    go (wants.Words kind left) (row, sort, u, b, is) =
        let rest : List Word = replicate left no_word in
        let s : Statement = record { kind = kind; row = row; mods = 0; params = m.params ++ rest; outcome = no_word; unify = []; proof = [] } in
        let count : length (m.params ++ rest) ≡ length m.params + left = length-append m.params rest ∙ ap (λ (n : ℕ). length m.params + n) (length-replicate left no_word) in
        let end : List Line = outcome_lines (has_result kind) no_word ++ stream_lines (has_streams kind) s in
        let more : List Line = map lines.Param rest ++ end in
        finished done s ls more
        (ap (λ y. all_lines done ++ y)
        (sym (not-sort-lines s sort) ∙ ap (λ (n : ℕ). lines.Head kind row n ∷ (map lines.Param (m.params ++ rest) ++ end)) count
        ∙ ap (λ y. lines.Head kind row (length m.params + left) ∷ y) (ap (λ y. y ++ end) (map-append lines.Param m.params rest) ∙ append_assoc (map lines.Param m.params) (map lines.Param rest) end))
        ∙ sym (behind-words (all_lines done) (map lines.Param m.params) more (lines.Head kind row (length m.params + left)))
        ∙ ap (λ y. y ++ more) (sym is))
    go (wants.Unify kind) (row, us, streams, u, b, is) = row-begins kind row us [] (map unify_line us) (lines.UnifyEnd ∷ (lines.ProofEnd ∷ [])) streams is refl
    go (wants.Proof kind) (row, us, ps, streams, u, b, is) = row-begins kind row us ps (map unify_line us ++ (lines.UnifyEnd ∷ map proof_line ps)) (lines.ProofEnd ∷ []) streams is (append_assoc (map unify_line us) (lines.UnifyEnd ∷ map proof_line ps) (lines.ProofEnd ∷ []))
    go wants.Nothing is = (done, [], sym is ∙ sym (append-nil ls))

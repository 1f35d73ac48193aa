-- What a stream spells, it says at places of the file.
use Rattle.std.proofs.Common.{◌≡◌, ◌<◌, ◌+◌, ◌-◌, ℕ, zero, suc, Bool, true, false, cond, ltb, eqb, List, [], ◌∷◌, ◌++◌, length, drop, Option, Some, None, slice_get, refl, ap, sym, ◌∙◌, subst, arith, inl, inr, append_assoc, length-append}
use Rattle.std.proofs.lemmas.Bool.{ltb-true, ltb-false, eqb-true}
use Rattle.mz_base.proofs.Offered.{slice_get-last, slice_get-append}
use Rattle.mz_cmd.specs.declared.code.UnifyCode.{UnifyCode}
use Rattle.mz_cmd.specs.declared.code.UnifyCode.TheVariants as codes
use Rattle.mz_cmd.specs.Codes.{unify_code}
use Rattle.mz_logic_theory.specs.Tree.{Tree, Trees, var, app, none, more}
use Rattle.mz_logic_theory.specs.Signature.{Signature}
use Rattle.mz_logic_theory.specs.declared.binder.Binder.{Binder}
use Rattle.mz_layout_tables.specs.Tables.{term_count, term_row}
use Rattle.mz_machine_theory.specs.Streams.{StreamKind, of_assertion, of_definition, UnifyCommand, u_term, u_term_save, u_ref, u_dummy, u_hyp, u_end, command_in, IsEnd, StreamIs}
use Rattle.mz_machine_theory.specs.Spells.{Marks, marked, with_dummy, dummy_of, HasOperands, Spells, SpellsAll, SpellsHyps}
use Rattle.mz_match_rows.specs.declared.stream.Cursor.{Cursor}
use Rattle.mz_match_rows.specs.Streams.{step_of, step_by, step_at, Says, makes_mark, dummies_in, mark_by, mark_here, mark_from, HasArity, IsSaid, AreSaid, IsMade, HypsAreSaid}

-- ---- one command

-- the code and the operand of a command of a stream
abbrev Coded : UnifyCommand → UnifyCode → ℕ → Type 0
Coded (u_term t) k v = (k ≡ codes.Term) × (v ≡ t)
Coded (u_term_save t) k v = (k ≡ codes.TermSave) × (v ≡ t)
Coded (u_ref i) k v = (k ≡ codes.Ref) × (v ≡ i)
Coded (u_dummy s) k v = (k ≡ codes.Dummy) × (v ≡ s)
Coded u_hyp k v = k ≡ codes.Hyp
Coded u_end k v = ⊥

coded : (kind : StreamKind) (v : ℕ) (k : UnifyCode) (u : UnifyCommand) → command_in kind v (Some k) ≡ Some u → Coded u k v
coded kind v codes.Term u e = let is : u_term v ≡ u = cc in subst (λ (w : UnifyCommand). Coded w codes.Term v) is (refl, refl)
coded kind v codes.TermSave u e = let is : u_term_save v ≡ u = cc in subst (λ (w : UnifyCommand). Coded w codes.TermSave v) is (refl, refl)
coded kind v codes.Ref u e = let is : u_ref v ≡ u = cc in subst (λ (w : UnifyCommand). Coded w codes.Ref v) is (refl, refl)
coded of_assertion v codes.Dummy u e = absurd cc
coded of_definition v codes.Dummy u e = let is : u_dummy v ≡ u = cc in subst (λ (w : UnifyCommand). Coded w codes.Dummy v) is (refl, refl)
coded of_assertion v codes.Hyp u e = let is : u_hyp ≡ u = cc in subst (λ (w : UnifyCommand). Coded w codes.Hyp v) is refl
coded of_definition v codes.Hyp u e = absurd cc

-- a command of a stream at a place of the file, with the place after it
record Stands (file : List ℕ) (kind : StreamKind) (at : ℕ) (u : UnifyCommand) (us : List UnifyCommand) : Type 0 where
  code : UnifyCode
  value : ℕ
  next : ℕ
  says : Says file at code value next
  is : Coded u code value
  rest : StreamIs kind (drop next file) us

drop-nil : (k : ℕ) → drop {A = ℕ} k [] ≡ []
drop-nil zero = refl
drop-nil (suc k) = refl

drop-on : (n at : ℕ) (file : List ℕ) → drop n (drop at file) ≡ drop (at + n) file
drop-on n zero file = ap (λ k. drop k file) (let e : n ≡ 0 + n = omega arith in e)
drop-on n (suc at) [] = ap (drop n) (drop-nil (suc at)) ∙ drop-nil n ∙ sym (drop-nil (suc at + n))
drop-on n (suc at) (x ∷ xs) = drop-on n at xs ∙ ap (λ k. drop k (x ∷ xs)) (let e : suc (at + n) ≡ suc at + n = omega arith in e)

stands : (file : List ℕ) (kind : StreamKind) (at : ℕ) (u : UnifyCommand) (us : List UnifyCommand) → StreamIs kind (drop at file) (u ∷ us) → Stands file kind at u us
stands file kind at u us (c, read, is, going, rest) = by (eqb c.code 0) (unify_code c.code) refl is
  where
    by : (ends : Bool) (o : Option UnifyCode) → unify_code c.code ≡ o → cond ends (Some u_end) (command_in kind c.value o) ≡ Some u → Stands file kind at u us
    by true o coded-as e = absurd (going (let same : u_end ≡ u = cc in subst IsEnd same tt))
    by false None coded-as e = absurd cc
    by false (Some k) coded-as e = record {
      code = k;
      value = c.value;
      next = at + c.len;
      says = ap (step_by at) read ∙ ap (step_of at c) coded-as;
      is = coded kind c.value k u e;
      rest = subst (λ bytes. StreamIs kind bytes us) (drop-on c.len at file) rest;
    }

-- at an END none is said
ended : (file : List ℕ) (kind : StreamKind) (at : ℕ) → StreamIs kind (drop at file) [] → step_at file at ≡ None
ended file kind at (c, read, is) = by (eqb c.code 0) (unify_code c.code) refl refl is
  where
    zero-code : (n : ℕ) → eqb n 0 ≡ true → unify_code n ≡ None
    zero-code zero e = refl
    zero-code (suc n) e = absurd (let same : suc n ≡ 0 = eqb-true (suc n) 0 e in omega (arith, same))

    by : (ends : Bool) (o : Option UnifyCode) → eqb c.code 0 ≡ ends → unify_code c.code ≡ o → cond ends (Some u_end) (command_in kind c.value o) ≡ Some u_end → step_at file at ≡ None
    by true o is-end coded-as e = ap (step_by at) read ∙ ap (step_of at c) (zero-code c.code is-end)
    by false None is-end coded-as e = absurd cc
    by false (Some k) is-end coded-as e = absurd (coded kind c.value k u_end e)

-- ---- marks grow

abbrev pub Grows : Marks → Marks → Type 0
Grows m m' = (ts : List Tree) × (ds : List Binder) × (m'.trees ≡ m.trees ++ ts) × (m'.dummies ≡ m.dummies ++ ds)

pub append-none : {A : Type 0} → (xs : List A) → xs ≡ xs ++ []
append-none [] = refl
append-none (x ∷ xs) = ap (λ ys. x ∷ ys) (append-none xs)

pub grows-not : (m : Marks) → Grows m m
grows-not m = ([], [], append-none m.trees, append-none m.dummies)

pub grows-on : (a b c : Marks) → Grows a b → Grows b c → Grows a c
grows-on a b c (ts, ds, t, d) (us, es, u, e) =
    (ts ++ us, ds ++ es, u ∙ ap (λ xs. xs ++ us) t ∙ append_assoc a.trees ts us, e ∙ ap (λ xs. xs ++ es) d ∙ append_assoc a.dummies ds es)

pub grows-same : (m m' : Marks) → m' ≡ m → Grows m m'
grows-same m m' is = subst (Grows m) (sym is) (grows-not m)

module _ (n : ℕ) (sigs : List Signature) where
  mutual
    pub grows : (m : Marks) (us : List UnifyCommand) (e : Tree) (m' : Marks) (us' : List UnifyCommand) → Spells n sigs m us e m' us' → Grows m m'
    grows m us (var x) m' us' (inl (i, us-is, at, same)) = grows-same m m' same
    grows m us (var x) m' us' (inr (s, us-is, x-is, same)) = subst (Grows m) (sym same) (var x ∷ [], dummy_of s ∷ [], refl, refl)
    grows m us (app t es) m' us' (inl (i, us-is, at, same)) = grows-same m m' same
    grows m us (app t es) m' us' (inr (inl (rest, us-is, ops, all))) = all-grow m rest es m' us' all
    grows m us (app t es) m' us' (inr (inr (rest, us-is, ops, all))) =
        grows-on m (marked m (app t es)) m' (app t es ∷ [], [], refl, append-none m.dummies) (all-grow (marked m (app t es)) rest es m' us' all)

    all-grow : (m : Marks) (us : List UnifyCommand) (es : Trees) (m' : Marks) (us' : List UnifyCommand) → SpellsAll n sigs m us es m' us' → Grows m m'
    all-grow m us none m' us' (same, _) = grows-same m m' same
    all-grow m us (more e es) m' us' (mid, rest, one, all) = grows-on m mid m' (grows m us e mid rest one) (all-grow mid rest es m' us' all)

stays : (m m' : Marks) (i : ℕ) (f : Tree) → Grows m m' → slice_get m.trees i ≡ Some f → slice_get m'.trees i ≡ Some f
stays m m' i f (ts, ds, t, d) at = ap (λ xs. slice_get xs i) t ∙ slice_get-append m.trees ts i f at

stays-dummy : (m m' : Marks) (i : ℕ) (b : Binder) → Grows m m' → slice_get m.dummies i ≡ Some b → slice_get m'.dummies i ≡ Some b
stays-dummy m m' i b (ts, ds, t, d) at = ap (λ xs. slice_get xs i) d ∙ slice_get-append m.dummies ds i b at

-- ---- segments of a stream, and the marks that they make

module _ (file : List ℕ) (n : ℕ) (last : Marks) where
  pub record MadeAt (at d j : ℕ) (f : Tree) : Type 0 where
    pub many : ℕ
    pub place : Cursor
    pub end : Cursor
    pub found : mark_from file many at d j ≡ Some place
    pub made : IsMade file n last place.at place.dummies f end.at end.dummies

  pub record Segment (at d to d' : ℕ) (made : List Tree) : Type 0 where
    pub holds : (j : ℕ) (f : Tree) → slice_get made j ≡ Some f → MadeAt at d j f
    pub beyond : (j k : ℕ) (place : Cursor) → mark_from file k to d' j ≡ Some place → (l : ℕ) × (mark_from file l at d (length made + j) ≡ Some place)

  nowhere : (at d : ℕ) → Segment at d at d []
  nowhere at d = record { holds = λ j f at-j. absurd cc; beyond = λ j k place found. (k, subst (λ (i : ℕ). mark_from file k at d i ≡ Some place) (let e : j ≡ 0 + j = omega arith in e) found) }

  -- a command that makes no mark
  step-past : (at d v next j : ℕ) (k : UnifyCode) (m : ℕ) (place : Cursor) → Says file at k v next → makes_mark k ≡ false → dummies_in k ≡ 0 → mark_from file m next d j ≡ Some place → mark_from file (suc m) at d j ≡ Some place
  step-past at d v next j k m place says plain no-dummy found =
      ap (mark_here (mark_from file m) at d j) says ∙ ap (λ (b : Bool). mark_by (mark_from file m next (d + dummies_in k)) at d b j) plain
      ∙ ap (λ (e : ℕ). mark_from file m next e j) (let same : d + dummies_in k ≡ d = omega (arith, no-dummy) in same) ∙ found

  past : (at d v next to d' : ℕ) (k : UnifyCode) (made : List Tree) → Says file at k v next → makes_mark k ≡ false → dummies_in k ≡ 0 → Segment next d to d' made → Segment at d to d' made
  past at d v next to d' k made says plain no-dummy seg = record {
    holds = λ j f at-j.
        let h = seg.holds j f at-j in
        record { many = suc h.many; place = h.place; end = h.end; found = step-past at d v next j k h.many h.place says plain no-dummy h.found; made = h.made };
    beyond = λ j m place found. let (l, on) = seg.beyond j m place found in (suc l, step-past at d v next (length made + j) k l place says plain no-dummy on);
  }

  -- one that does
  step-mark : (at d v next j : ℕ) (k : UnifyCode) (m : ℕ) (place : Cursor) → Says file at k v next → makes_mark k ≡ true → mark_from file m next (d + dummies_in k) j ≡ Some place → mark_from file (suc m) at d (suc j) ≡ Some place
  step-mark at d v next j k m place says makes found =
      ap (mark_here (mark_from file m) at d (suc j)) says ∙ ap (λ (b : Bool). mark_by (mark_from file m next (d + dummies_in k)) at d b (suc j)) makes ∙ found

  first-mark : (at d v next : ℕ) (k : UnifyCode) → Says file at k v next → makes_mark k ≡ true → mark_from file 1 at d 0 ≡ Some (record { at = at; dummies = d })
  first-mark at d v next k says makes =
      ap (mark_here (mark_from file 0) at d 0) says ∙ ap (λ (b : Bool). mark_by (mark_from file 0 next (d + dummies_in k)) at d b 0) makes

  marking : (at d v next to d' : ℕ) (k : UnifyCode) (e : Tree) (end : Cursor) (made : List Tree) → Says file at k v next → makes_mark k ≡ true → IsMade file n last at d e end.at end.dummies
      → Segment next (d + dummies_in k) to d' made → Segment at d to d' (e ∷ made)
  marking at d v next to d' k e end made says makes here seg = record {
    holds = holds;
    beyond = λ j m place found.
        let (l, on) = seg.beyond j m place found in
        (suc l, subst (λ (i : ℕ). mark_from file (suc l) at d i ≡ Some place) (let same : suc (length made + j) ≡ suc (length made) + j = omega arith in same) (step-mark at d v next (length made + j) k l place says makes on));
  }
    where
      holds : (j : ℕ) (f : Tree) → slice_get (e ∷ made) j ≡ Some f → MadeAt at d j f
      holds zero f at-j =
          let same : e ≡ f = cc in
          record { many = 1; place = record { at = at; dummies = d }; end = end; found = first-mark at d v next k says makes; made = subst (λ (g : Tree). IsMade file n last at d g end.at end.dummies) same here }
      holds (suc j) f at-j =
          let h = seg.holds j f at-j in
          record { many = suc h.many; place = h.place; end = h.end; found = step-mark at d v next j k h.many h.place says makes h.found; made = h.made }

  -- one after the other
  pub joined : (at d mid d1 to d' : ℕ) (xs ys : List Tree) → Segment at d mid d1 xs → Segment mid d1 to d' ys → Segment at d to d' (xs ++ ys)
  joined at d mid d1 to d' xs ys a b = record {
    holds = λ j f at-j. go j f (ltb j (length xs)) refl at-j;
    beyond = λ j m place found.
        let (l, on) = b.beyond j m place found in
        let (k, all) = a.beyond (length ys + j) l place on in
        (k, subst (λ (i : ℕ). mark_from file k at d i ≡ Some place) (omega (arith, length-append xs ys)) all);
  }
    where
      get-back : (zs ws : List Tree) (j : ℕ) → slice_get (zs ++ ws) (length zs + j) ≡ slice_get ws j
      get-back [] ws j = ap (slice_get ws) (let e : 0 + j ≡ j = omega arith in e)
      get-back (z ∷ zs) ws j = ap (slice_get (z ∷ (zs ++ ws))) (let e : suc (length zs) + j ≡ suc (length zs + j) = omega arith in e) ∙ get-back zs ws j

      get-in : (zs ws : List Tree) (j : ℕ) → j < length zs → slice_get (zs ++ ws) j ≡ slice_get zs j
      get-in [] ws j below = absurd (omega arith)
      get-in (z ∷ zs) ws zero below = refl
      get-in (z ∷ zs) ws (suc j) below = get-in zs ws j (omega arith)

      go : (j : ℕ) (f : Tree) (low : Bool) → ltb j (length xs) ≡ low → slice_get (xs ++ ys) j ≡ Some f → MadeAt at d j f
      go j f true e at-j = a.holds j f (sym (get-in xs ys j (ltb-true j (length xs) e)) ∙ at-j)
      go j f false e at-j =
          let high = ltb-false j (length xs) e in
          let there : length xs + (j - length xs) ≡ j = omega (arith, high) in
          let h = b.holds (j - length xs) f (sym (get-back xs ys (j - length xs)) ∙ ap (slice_get (xs ++ ys)) there ∙ at-j) in
          let (l, on) = a.beyond (j - length xs) h.many h.place h.found in
          record { many = l; place = h.place; end = h.end; found = subst (λ (i : ℕ). mark_from file l at d i ≡ Some h.place) there on; made = h.made }

  -- ---- what is spelled is said

  module _ (kind : StreamKind) (sigs : List Signature) (arities : (t : ℕ) (s : Signature) → slice_get sigs t ≡ Some s → (t < term_count file) × (length s.params ≡ length (term_row file t).words.params)) where
    pub record SaidFrom (m : Marks) (at : ℕ) (e : Tree) (m' : Marks) (us' : List UnifyCommand) : Type 0 where
      pub to : ℕ
      pub rest : StreamIs kind (drop to file) us'
      pub said : IsSaid file n last at (length m.dummies) e to (length m'.dummies)
      pub made : List Tree
      pub trees_are : m'.trees ≡ m.trees ++ made
      pub segment : Segment at (length m.dummies) to (length m'.dummies) made

    record AllSaidFrom (m : Marks) (at : ℕ) (es : Trees) (m' : Marks) (us' : List UnifyCommand) : Type 0 where
      to : ℕ
      rest : StreamIs kind (drop to file) us'
      said : AreSaid file n last at (length m.dummies) es to (length m'.dummies)
      made : List Tree
      trees_are : m'.trees ≡ m.trees ++ made
      segment : Segment at (length m.dummies) to (length m'.dummies) made

    arity-is : (t : ℕ) (es : Trees) → HasOperands sigs t es → HasArity file t es
    arity-is t es (s, at-t, many) = let (there, as-many) = arities t s at-t in (there, many ∙ as-many)

    -- a reference
    by-ref : (m : Marks) (us : List UnifyCommand) (e : Tree) (m' : Marks) (us' : List UnifyCommand) (i at : ℕ) → us ≡ u_ref i ∷ us' → slice_get m.trees i ≡ Some e → m' ≡ m
        → StreamIs kind (drop at file) us → Grows m' last
        → ((to : ℕ) → Says file at codes.Ref i to → slice_get last.trees i ≡ Some e → IsSaid file n last at (length m.dummies) e to (length m.dummies)) → SaidFrom m at e m' us'
    by-ref m us e m' us' i at us-is at-i same stream on put =
        let s = stands file kind at (u_ref i) us' (subst (StreamIs kind (drop at file)) us-is stream) in
        let says : Says file at codes.Ref i s.next = subst (λ (v : ℕ). Says file at codes.Ref v s.next) s.is.1 (subst (λ (k : UnifyCode). Says file at k s.value s.next) s.is.0 s.says) in
        let kept : slice_get last.trees i ≡ Some e = stays m last i e (subst (λ (x : Marks). Grows x last) same on) at-i in
        subst (λ (x : Marks). SaidFrom m at e x us') (sym same) (record {
          to = s.next;
          rest = s.rest;
          said = put s.next says kept;
          made = [];
          trees_are = append-none m.trees;
          segment = past at (length m.dummies) i s.next s.next (length m.dummies) codes.Ref [] says refl refl (nowhere s.next (length m.dummies));
        })

    by-dummy : (m : Marks) (us : List UnifyCommand) (x : ℕ) (m' : Marks) (us' : List UnifyCommand) (v at : ℕ) → us ≡ u_dummy v ∷ us' → x ≡ n + length m.dummies → m' ≡ with_dummy m x v
        → StreamIs kind (drop at file) us → Grows m' last → SaidFrom m at (var x) m' us'
    by-dummy m us x m' us' v at us-is x-is same stream on =
        let s = stands file kind at (u_dummy v) us' (subst (StreamIs kind (drop at file)) us-is stream) in
        let says : Says file at codes.Dummy v s.next = subst (λ (w : ℕ). Says file at codes.Dummy w s.next) s.is.1 (subst (λ (k : UnifyCode). Says file at k s.value s.next) s.is.0 s.says) in
        let kept : slice_get last.dummies (length m.dummies) ≡ Some (dummy_of v) =
        stays-dummy (with_dummy m x v) last (length m.dummies) (dummy_of v) (subst (λ (y : Marks). Grows y last) same on) (slice_get-last m.dummies (dummy_of v)) in
        let more-dummies : length (m.dummies ++ dummy_of v ∷ []) ≡ suc (length m.dummies) = omega (arith, length-append m.dummies (dummy_of v ∷ [])) in
        let made : IsMade file n last at (length m.dummies) (var x) s.next (suc (length m.dummies)) = (v, says, x-is, kept, refl) in
        subst (λ (y : Marks). SaidFrom m at (var x) y us') (sym same) (record {
          to = s.next;
          rest = s.rest;
          said = subst (λ (d : ℕ). IsSaid file n last at (length m.dummies) (var x) s.next d) (sym more-dummies) (inr made);
          made = var x ∷ [];
          trees_are = refl;
          segment = subst (λ (d : ℕ). Segment at (length m.dummies) s.next d (var x ∷ [])) (sym more-dummies)
              (marking at (length m.dummies) v s.next s.next (suc (length m.dummies)) codes.Dummy (var x) (record { at = s.next; dummies = suc (length m.dummies) }) [] says refl made
              (subst (λ (d : ℕ). Segment s.next d s.next (suc (length m.dummies)) []) (let e : suc (length m.dummies) ≡ length m.dummies + 1 = omega arith in e) (nowhere s.next (suc (length m.dummies)))));
        })

    by-term : (m : Marks) (t : ℕ) (es : Trees) (m' : Marks) (us' : List UnifyCommand) (at mid : ℕ) → Says file at codes.Term t mid → HasOperands sigs t es → AllSaidFrom m mid es m' us' → SaidFrom m at (app t es) m' us'
    by-term m t es m' us' at mid says ops all = record {
      to = all.to;
      rest = all.rest;
      said = inr (mid, inl says, arity-is t es ops, all.said);
      made = all.made;
      trees_are = all.trees_are;
      segment = past at (length m.dummies) t mid all.to (length m'.dummies) codes.Term all.made says refl refl all.segment;
    }

    by-save : (m : Marks) (t : ℕ) (es : Trees) (m' : Marks) (us' : List UnifyCommand) (at mid : ℕ) → Says file at codes.TermSave t mid → HasOperands sigs t es → AllSaidFrom (marked m (app t es)) mid es m' us' → SaidFrom m at (app t es) m' us'
    by-save m t es m' us' at mid says ops all =
        let here : IsMade file n last at (length m.dummies) (app t es) all.to (length m'.dummies) = (mid, inr says, arity-is t es ops, all.said) in
        record {
          to = all.to;
          rest = all.rest;
          said = inr here;
          made = app t es ∷ all.made;
          trees_are = all.trees_are ∙ append_assoc m.trees (app t es ∷ []) all.made;
          segment = marking at (length m.dummies) t mid all.to (length m'.dummies) codes.TermSave (app t es) (record { at = all.to; dummies = length m'.dummies }) all.made says refl here
              (subst (λ (d : ℕ). Segment mid d all.to (length m'.dummies) all.made) (let e : length m.dummies ≡ length m.dummies + 0 = omega arith in e) all.segment);
        }

    mutual
      pub spelled-said : (m : Marks) (us : List UnifyCommand) (e : Tree) (m' : Marks) (us' : List UnifyCommand) (at : ℕ) → Spells n sigs m us e m' us' → StreamIs kind (drop at file) us → Grows m' last → SaidFrom m at e m' us'
      spelled-said m us (var x) m' us' at (inl (i, us-is, at-i, same)) stream on = by-ref m us (var x) m' us' i at us-is at-i same stream on (λ to says kept. inl (i, says, kept, refl))
      spelled-said m us (var x) m' us' at (inr (v, us-is, x-is, same)) stream on = by-dummy m us x m' us' v at us-is x-is same stream on
      spelled-said m us (app t es) m' us' at (inl (i, us-is, at-i, same)) stream on = by-ref m us (app t es) m' us' i at us-is at-i same stream on (λ to says kept. inl (i, says, kept, refl))
      spelled-said m us (app t es) m' us' at (inr (inl (rest, us-is, ops, all))) stream on =
          let s = stands file kind at (u_term t) rest (subst (StreamIs kind (drop at file)) us-is stream) in
          let says : Says file at codes.Term t s.next = subst (λ (v : ℕ). Says file at codes.Term v s.next) s.is.1 (subst (λ (k : UnifyCode). Says file at k s.value s.next) s.is.0 s.says) in
          by-term m t es m' us' at s.next says ops (all-spelled m rest es m' us' s.next all s.rest on)
      spelled-said m us (app t es) m' us' at (inr (inr (rest, us-is, ops, all))) stream on =
          let s = stands file kind at (u_term_save t) rest (subst (StreamIs kind (drop at file)) us-is stream) in
          let says : Says file at codes.TermSave t s.next = subst (λ (v : ℕ). Says file at codes.TermSave v s.next) s.is.1 (subst (λ (k : UnifyCode). Says file at k s.value s.next) s.is.0 s.says) in
          by-save m t es m' us' at s.next says ops (all-spelled (marked m (app t es)) rest es m' us' s.next all s.rest on)

      all-spelled : (m : Marks) (us : List UnifyCommand) (es : Trees) (m' : Marks) (us' : List UnifyCommand) (at : ℕ) → SpellsAll n sigs m us es m' us' → StreamIs kind (drop at file) us → Grows m' last → AllSaidFrom m at es m' us'
      all-spelled m us none m' us' at (same, rest-is) stream on = subst (λ (y : Marks). AllSaidFrom m at none y us') (sym same) (record {
        to = at;
        rest = subst (StreamIs kind (drop at file)) (sym rest-is) stream;
        said = (refl, refl);
        made = [];
        trees_are = append-none m.trees;
        segment = nowhere at (length m.dummies);
      })
      all-spelled m us (more e es) m' us' at (mid, rest, one, all) stream on =
          let first = spelled-said m us e mid rest at one stream (grows-on mid m' last (all-grow n sigs mid rest es m' us' all) on) in
          let later = all-spelled mid rest es m' us' first.to all first.rest on in
          record {
            to = later.to;
            rest = later.rest;
            said = (first.to, length mid.dummies, first.said, later.said);
            made = first.made ++ later.made;
            trees_are = later.trees_are ∙ ap (λ xs. xs ++ later.made) first.trees_are ∙ append_assoc m.trees first.made later.made;
            segment = joined at (length m.dummies) first.to (length mid.dummies) later.to (length m'.dummies) first.made later.made first.segment later.segment;
          }

    -- the hypotheses, up to the END
    pub record HypsFrom (m : Marks) (at : ℕ) (hs : List Tree) (m' : Marks) : Type 0 where
      pub to : ℕ
      pub said : m'.dummies ≡ [] → HypsAreSaid file n last at hs
      pub made : List Tree
      pub trees_are : m'.trees ≡ m.trees ++ made
      pub segment : Segment at (length m.dummies) to (length m'.dummies) made

    none-before : (m m' : Marks) → Grows m m' → m'.dummies ≡ [] → length m.dummies ≡ 0
    none-before m m' (ts, ds, t, d) is = let both : length (m.dummies ++ ds) ≡ 0 = ap length (sym d ∙ is) in omega (arith, both, length-append m.dummies ds)

    pub hyps-grow : (m : Marks) (us : List UnifyCommand) (hs : List Tree) (m' : Marks) → SpellsHyps n sigs m us hs m' → Grows m m'
    hyps-grow m us [] m' (_, same) = grows-same m m' same
    hyps-grow m us (h ∷ hs) m' (rest, mid, us', us-is, one, all) = grows-on m mid m' (grows n sigs m rest h mid us' one) (hyps-grow mid us' hs m' all)

    pub hyps-said : (m : Marks) (us : List UnifyCommand) (hs : List Tree) (m' : Marks) (at : ℕ) → SpellsHyps n sigs m us hs m' → StreamIs kind (drop at file) us → Grows m' last → HypsFrom m at hs m'
    hyps-said m us [] m' at (us-is, same) stream on = subst (HypsFrom m at []) (sym same) (record {
      to = at;
      said = λ _. ended file kind at (subst (StreamIs kind (drop at file)) us-is stream);
      made = [];
      trees_are = append-none m.trees;
      segment = nowhere at (length m.dummies);
    })
    hyps-said m us (h ∷ hs) m' at (rest, mid, us', us-is, one, all) stream on =
        let s = stands file kind at u_hyp rest (subst (StreamIs kind (drop at file)) us-is stream) in
        let says : Says file at codes.Hyp s.value s.next = subst (λ (k : UnifyCode). Says file at k s.value s.next) s.is s.says in
        let first = spelled-said m rest h mid us' s.next one s.rest (grows-on mid m' last (hyps-grow mid us' hs m' all) on) in
        let later = hyps-said mid us' hs m' first.to all first.rest on in
        record {
          to = later.to;
          said = λ none-met.
              let before = none-before m m' (grows-on m mid m' (grows n sigs m rest h mid us' one) (hyps-grow mid us' hs m' all)) none-met in
              let after = none-before mid m' (hyps-grow mid us' hs m' all) none-met in
              (s.value, s.next, first.to, says, subst (λ (d : ℕ). IsSaid file n last s.next d h first.to 0) before (subst (λ (d : ℕ). IsSaid file n last s.next (length m.dummies) h first.to d) after first.said), later.said none-met);
          made = first.made ++ later.made;
          trees_are = later.trees_are ∙ ap (λ xs. xs ++ later.made) first.trees_are ∙ append_assoc m.trees first.made later.made;
          segment = past at (length m.dummies) s.value s.next later.to (length m'.dummies) codes.Hyp (first.made ++ later.made) says refl refl
              (joined s.next (length m.dummies) first.to (length mid.dummies) later.to (length m'.dummies) first.made later.made first.segment later.segment);
        }

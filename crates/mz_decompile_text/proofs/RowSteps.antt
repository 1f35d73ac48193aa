-- One command more of a unify stream, and the end of an application.
use Rattle.std.proofs.Common.{ℕ, suc, ◌≡◌, ◌<◌, ◌≤◌, ◌⊎◌, ◌+◌, All, List, [], ◌∷◌, ◌++◌, length, map, take, drop, Option, Some, None, slice_get, refl, ap, sym, ◌∙◌, subst, inl, inr, arith, append_assoc, length-append}
use Rattle.std.proofs.lemmas.List.{length-map, map-append, same_from_push}
use Rattle.std.proofs.lemmas.Option.{slice_get_within}
use Rattle.mz_base.proofs.Offered.{slice_get-last}
use Rattle.mz_layout_tables.specs.Tables.{term_count, term_row}
use Rattle.mz_logic_theory.specs.Tree.{Tree, Trees, var, app, none, more, listed}
use Rattle.mz_logic_theory.specs.declared.binder.Binder.{Binder}
use Rattle.mz_cmd.specs.declared.code.UnifyCode.{UnifyCode}
use Rattle.mz_cmd.specs.declared.code.UnifyCode.TheVariants as codes
use Rattle.mz_machine_theory.specs.Streams.{StreamKind, UnifyCommand, StreamIs, command_in, u_dummy, u_hyp, u_ref, u_term, u_term_save}
use Rattle.mz_machine_theory.specs.Spells.{HasOperands, Marks, Spells, SpellsAll, SpellsHyps, dummy_of, marked, trees_of, with_dummy}
use Rattle.mz_decompile_text.specs.Phrases.{Phrase, a_word}
use Rattle.mz_decompile_text.specs.Phrasing.{Vocabulary, expression}
use Rattle.mz_decompile_text.specs.ByNumber.{Grows}
use Rattle.mz_decompile_text.specs.Numbers.{AreAt}
use Rattle.mz_decompile_text.specs.Frames.{Frame, Target, AreMarked, Behind, IsOpenMark, IsOwn, Within, join, open_at, opens_of, parts, parts_of, whole, with_read}
use Rattle.mz_decompile_text.specs.Reading.{AreRead, IsAtHyp, IsBetween, IsComplete, IsGoing, IsNext, IsOpened, IsSame, IsSet, Over, Stands, held}
use Rattle.mz_decompile_text.specs.declared.reading.Open.{Open}
use Rattle.mz_decompile_text.specs.declared.reading.Reading.{Reading}
use Rattle.mz_decompile_text.proofs.RowNumbers.{are_behind, are_first, are_grow, are_many, are_push, are_there}
use Rattle.mz_decompile_text.proofs.Commands.{code_dummy, code_hyp, code_ref, code_save, code_term, dummy_is, hyp_never, none_never, ref_is, save_is, term_is}
use Rattle.mz_decompile_text.proofs.Frames.{join_many, join_none, join_push, marked_close, marked_grows, marked_more, marked_push, never_open, own_grows, parts_many}

some_number : (x y : ℕ) → Some x ≡ Some y → x ≡ y
some_number x y e = cc

one_not_none : {A : Type 0} → (xs : List A) (x : A) → [] ≡ xs ++ x ∷ [] → ⊥
one_not_none [] x e = cc
one_not_none (y ∷ xs) x e = cc

module _ (file : List ℕ) (o : Over file) (v : Vocabulary) where
  -- an expression is read
  pub absorbed : (ps : List Phrase) (r : Reading) (t : Target) (us : List UnifyCommand) (m : Marks) (fs : List Frame) (e : Tree)
      → Stands v ps o.kind o.params r us m fs (parts v fs ++ expression v e ∷ []) → Behind o.params o.sigs t m us fs e → IsGoing file o v ps r t
  absorbed ps r t us m [] e st (e-is, m-is, us-is) = record {
    marks = m;
    commands = us;
    frames = [];
    stands = subst (λ (d : Tree). Stands v ps o.kind o.params r us m [] (expression v d ∷ [])) e-is st;
    within = (m-is, us-is);
  }
  absorbed ps r t us m (f ∷ fs) e st (left, mid, rest, is, all, behind) = record {
    marks = m;
    commands = us;
    frames = with_read f e ∷ fs;
    stands = record {
      stream = st.stream;
      over = st.over;
      marked = record { many = st.marked.many; each = st.marked.each };
      own = st.own;
      dummies = st.dummies;
      read = subst (AreAt ps r.read.items) parts-are st.read;
      pending = st.pending;
    };
    within = (left, mid, rest, is ∙ sym (join_push f.read e left), all, behind);
  }
    where
      parts-are : parts v (f ∷ fs) ++ expression v e ∷ [] ≡ parts v (with_read f e ∷ fs)
      parts-are = append_assoc (parts v fs) (parts_of v f) (expression v e ∷ [])
          ∙ ap (λ (qs : List Phrase). parts v fs ++ a_word (v.term f.term) ∷ qs) (sym (map-append (expression v) f.read (e ∷ [])))

  -- ---- commands

  pub referred : (ps : List Phrase) (r : Reading) (t : Target) (i : ℕ) → IsNext file o v ps r t (u_ref i ∷ []) → (k : ℕ) × (slice_get r.marks.items i ≡ Some k)
  referred ps r t i g = by (g.stands.marked.each i g.tree is.0)
    where
      is : (slice_get g.marks.trees i ≡ Some g.tree) × (g.after ≡ g.marks) × (g.rest ≡ g.commands)
      is = ref_is o.params o.sigs g.marks g.commands i g.tree g.after g.rest g.spells

      by : (IsOpenMark g.frames i ⊎ ((k : ℕ) × (slice_get r.marks.items i ≡ Some k) × (slice_get ps k ≡ Some (expression v g.tree)))) → (k : ℕ) × (slice_get r.marks.items i ≡ Some k)
      by (inl found) = absurd (never_open o.params o.sigs t g.marks.trees i g.tree is.0 g.frames g.after g.rest g.tree g.behind g.stands.own (omega arith) found)
      by (inr (k, at, _)) = (k, at)

  pub refer_done : (ps : List Phrase) (r r' : Reading) (t : Target) (i k : ℕ) → IsNext file o v ps r t (u_ref i ∷ []) → slice_get r.marks.items i ≡ Some k
      → r'.stream ≡ r.stream → r'.params ≡ r.params → r'.marks ≡ r.marks → r'.dummies ≡ r.dummies → r'.read.items ≡ r.read.items ++ k ∷ [] → r'.pending ≡ r.pending → IsGoing file o v ps r' t
  refer_done ps r r' t i k g k-at stream params marks dummies read pending = absorbed ps r' t g.commands g.marks g.frames g.tree (record {
    stream = subst (λ s. StreamIs o.kind s.now g.commands) (sym stream) g.stands.stream;
    over = params ∙ g.stands.over;
    marked = subst (λ ms. AreMarked v ps g.marks.trees ms.items g.frames) (sym marks) g.stands.marked;
    own = g.stands.own;
    dummies = g.stands.dummies ∙ ap (λ ds. map dummy_of ds.items) (sym dummies);
    read = subst (λ (ns : List ℕ). AreAt ps ns (parts v g.frames ++ expression v g.tree ∷ [])) (sym read)
        (are_push ps r.read.items (parts v g.frames) k (expression v g.tree) g.stands.read right);
    pending = ap (λ os. os.items) pending ∙ g.stands.pending;
  }) (subst (λ (us : List UnifyCommand). Behind o.params o.sigs t g.marks us g.frames g.tree) is.2 (subst (λ (m : Marks). Behind o.params o.sigs t m g.rest g.frames g.tree) is.1 g.behind))
    where
      is : (slice_get g.marks.trees i ≡ Some g.tree) × (g.after ≡ g.marks) × (g.rest ≡ g.commands)
      is = ref_is o.params o.sigs g.marks g.commands i g.tree g.after g.rest g.spells

      by : (IsOpenMark g.frames i ⊎ ((l : ℕ) × (slice_get r.marks.items i ≡ Some l) × (slice_get ps l ≡ Some (expression v g.tree)))) → slice_get ps k ≡ Some (expression v g.tree)
      by (inl found) = absurd (never_open o.params o.sigs t g.marks.trees i g.tree is.0 g.frames g.after g.rest g.tree g.behind g.stands.own (omega arith) found)
      by (inr (l, at, l-is)) = ap (slice_get ps) (some_number k l (sym k-at ∙ at)) ∙ l-is

      right : slice_get ps k ≡ Some (expression v g.tree)
      right = by (g.stands.marked.each i g.tree is.0)

  pub meet_done : (ps qs : List Phrase) (r r' : Reading) (t : Target) (s k : ℕ) → IsNext file o v ps r t (u_dummy s ∷ []) → Grows ps qs
      → slice_get qs k ≡ Some (expression v (var (r.params + length r.dummies.items)))
      → r'.stream ≡ r.stream → r'.params ≡ r.params → r'.marks.items ≡ r.marks.items ++ k ∷ [] → r'.dummies.items ≡ r.dummies.items ++ s ∷ [] → r'.read.items ≡ r.read.items ++ k ∷ []
      → r'.pending ≡ r.pending → IsGoing file o v qs r' t
  meet_done ps qs r r' t s k g grows k-is stream params marks dummies read pending = absorbed qs r' t g.commands m' g.frames g.tree (record {
    stream = subst (λ b. StreamIs o.kind b.now g.commands) (sym stream) g.stands.stream;
    over = params ∙ g.stands.over;
    marked = subst (λ (ms : List ℕ). AreMarked v qs m'.trees ms g.frames) (sym marks)
        (marked_push v qs g.marks.trees r.marks.items g.frames g.frames (var x) k (marked_grows v ps qs g.marks.trees r.marks.items g.frames grows g.stands.marked) (λ i h. h)
        (inr right-var));
    own = own_grows g.marks.trees (var x) g.frames g.stands.own;
    dummies = ap (λ (ds : List Binder). ds ++ dummy_of s ∷ []) g.stands.dummies ∙ sym (map-append dummy_of r.dummies.items (s ∷ [])) ∙ ap (map dummy_of) (sym dummies);
    read = subst (λ (ns : List ℕ). AreAt qs ns (parts v g.frames ++ expression v g.tree ∷ [])) (sym read)
        (are_push qs r.read.items (parts v g.frames) k (expression v g.tree) (are_grow ps qs r.read.items (parts v g.frames) grows g.stands.read)
        (right-var ∙ ap (λ (e : Tree). Some (expression v e)) (sym is.0)));
    pending = ap (λ os. os.items) pending ∙ g.stands.pending;
  }) (subst (λ (us : List UnifyCommand). Behind o.params o.sigs t m' us g.frames g.tree) is.2 (subst (λ (m : Marks). Behind o.params o.sigs t m g.rest g.frames g.tree) is.1 g.behind))
    where
      x : ℕ
      x = o.params + length g.marks.dummies

      m' : Marks
      m' = with_dummy g.marks x s

      is : (g.tree ≡ var x) × (g.after ≡ m') × (g.rest ≡ g.commands)
      is = dummy_is o.params o.sigs g.marks g.commands s g.tree g.after g.rest g.spells

      x-is : r.params + length r.dummies.items ≡ x
      x-is = let many = ap length g.stands.dummies ∙ length-map r.dummies.items dummy_of in let over = g.stands.over in omega (arith, many, over)

      right-var : slice_get qs k ≡ Some (expression v (var x))
      right-var = k-is ∙ ap (λ (y : ℕ). Some (expression v (var y))) x-is

  -- ---- applications begin

  arity_is : (term : ℕ) (es : Trees) → HasOperands o.sigs term es → (term < term_count file) × (length (listed es) ≡ length (term_row file term).words.params)
  arity_is term es (d, at, many) = let (there, as-many) = o.arities term d at in (there, many ∙ as-many)

  pub term_there : (ps : List Phrase) (r : Reading) (t : Target) (term : ℕ) → IsNext file o v ps r t (u_term term ∷ []) → term < term_count file
  term_there ps r t term g = let (es, _, ops, _) = term_is o.params o.sigs g.marks g.commands term g.tree g.after g.rest g.spells in (let both = arity_is term es ops in both.0)

  pub save_there : (ps : List Phrase) (r : Reading) (t : Target) (term : ℕ) → IsNext file o v ps r t (u_term_save term ∷ []) → term < term_count file
  save_there ps r t term g = let (es, _, ops, _) = save_is o.params o.sigs g.marks g.commands term g.tree g.after g.rest g.spells in (let both = arity_is term es ops in both.0)

  -- where it stands
  opened_is : (ps : List Phrase) (r r' : Reading) (fs : List Frame) (f : Frame) (word operands : ℕ) → AreAt ps r.read.items (parts v fs) → r.pending.items ≡ opens_of v fs
      → length (listed f.operands) ≡ operands
      → IsOpened r r' word operands f.mark → r'.pending.items ≡ opens_of v (f ∷ fs)
  opened_is ps r r' fs f word operands read pending many opened =
      opened.pending
      ∙ ap (λ (os : List Open). os ++ record { from = length r.read.items; to = length r.read.items + suc operands; mark = f.mark } ∷ []) pending
      ∙ ap (λ (n : ℕ). opens_of v fs ++ record { from = n; to = n + suc operands; mark = f.mark } ∷ []) (are_many ps r.read.items (parts v fs) read)
      ∙ ap (λ (n : ℕ). opens_of v fs ++ record { from = length (parts v fs); to = length (parts v fs) + suc n; mark = f.mark } ∷ []) (sym many)

  pub begin_done : (ps qs : List Phrase) (r r' : Reading) (t : Target) (term word : ℕ) → IsNext file o v ps r t (u_term term ∷ []) → Grows ps qs
      → slice_get qs word ≡ Some (a_word (v.term term))
      → IsSame r r' → IsOpened r r' word (length (term_row file term).words.params) None → IsGoing file o v qs r' t
  begin_done ps qs r r' t term word g grows word-is same opened = by (term_is o.params o.sigs g.marks g.commands term g.tree g.after g.rest g.spells)
    where
      by : ((es : Trees) × (g.tree ≡ app term es) × HasOperands o.sigs term es × SpellsAll o.params o.sigs g.marks g.commands es g.after g.rest) → IsGoing file o v qs r' t
      by (es, tree-is, ops, all) =
          let f : Frame = record { term = term; operands = es; read = []; mark = None } in
          let read = are_grow ps qs r.read.items (parts v g.frames) grows g.stands.read in
          record {
            marks = g.marks;
            commands = g.commands;
            frames = f ∷ g.frames;
            stands = record {
              stream = subst (λ s. StreamIs o.kind s.now g.commands) (sym same.stream) g.stands.stream;
              over = same.params ∙ g.stands.over;
              marked = subst (λ ms. AreMarked v qs g.marks.trees ms.items (f ∷ g.frames)) (sym same.marks)
                  (marked_more v qs g.marks.trees r.marks.items f g.frames (marked_grows v ps qs g.marks.trees r.marks.items g.frames grows g.stands.marked));
              own = (tt, g.stands.own);
              dummies = g.stands.dummies ∙ ap (λ ds. map dummy_of ds.items) (sym same.dummies);
              read = subst (λ (ns : List ℕ). AreAt qs ns (parts v (f ∷ g.frames))) (sym opened.read) (are_push qs r.read.items (parts v g.frames) word (a_word (v.term term)) read word-is);
              pending = opened_is qs r r' g.frames f word (length (term_row file term).words.params) read g.stands.pending (let both = arity_is term es ops in both.1) opened;
            };
            within = (es, g.after, g.rest, refl, all, subst (λ (e : Tree). Behind o.params o.sigs t g.after g.rest g.frames e) tree-is g.behind);
          }

  pub save_done : (ps qs : List Phrase) (r r1 r' : Reading) (t : Target) (term word : ℕ) → IsNext file o v ps r t (u_term_save term ∷ []) → Grows ps qs
      → slice_get qs word ≡ Some (a_word (v.term term))
      → r1.stream ≡ r.stream → r1.params ≡ r.params → r1.marks.items ≡ r.marks.items ++ word ∷ [] → r1.dummies ≡ r.dummies → r1.read ≡ r.read → r1.pending ≡ r.pending
      → IsSame r1 r' → IsOpened r1 r' word (length (term_row file term).words.params) (Some (length r.marks.items)) → IsGoing file o v qs r' t
  save_done ps qs r r1 r' t term word g grows word-is stream params marks dummies reads pending same opened = by
      (save_is o.params o.sigs g.marks g.commands term g.tree g.after g.rest g.spells)
    where
      by : ((es : Trees) × (g.tree ≡ app term es) × HasOperands o.sigs term es × SpellsAll o.params o.sigs (marked g.marks (app term es)) g.commands es g.after g.rest)
          → IsGoing file o v qs r' t
      by (es, tree-is, ops, all) =
          let f : Frame = record { term = term; operands = es; read = []; mark = Some (length r.marks.items) } in
          let long : length r.marks.items ≡ length g.marks.trees = g.stands.marked.many in
          let read = subst (λ ns. AreAt qs ns.items (parts v g.frames)) (sym reads) (are_grow ps qs r.read.items (parts v g.frames) grows g.stands.read) in
          record {
            marks = marked g.marks (app term es);
            commands = g.commands;
            frames = f ∷ g.frames;
            stands = record {
              stream = subst (λ s. StreamIs o.kind s.now g.commands) (sym (same.stream ∙ stream)) g.stands.stream;
              over = same.params ∙ params ∙ g.stands.over;
              marked = subst (λ (ms : List ℕ). AreMarked v qs (g.marks.trees ++ app term es ∷ []) ms (f ∷ g.frames)) (sym (ap (λ ms. ms.items) same.marks ∙ marks))
                  (marked_push v qs g.marks.trees r.marks.items g.frames (f ∷ g.frames) (app term es) word
                  (marked_grows v ps qs g.marks.trees r.marks.items g.frames grows g.stands.marked) (λ i h. inr h)
                  (inl (inl (ap (λ (n : ℕ). Some n) long))));
              own = (ap (slice_get (g.marks.trees ++ app term es ∷ [])) long ∙ slice_get-last g.marks.trees (app term es), own_grows g.marks.trees (app term es) g.frames g.stands.own);
              dummies = g.stands.dummies ∙ ap (λ ds. map dummy_of ds.items) (sym (same.dummies ∙ dummies));
              read = subst (λ (ns : List ℕ). AreAt qs ns (parts v (f ∷ g.frames))) (sym opened.read) (are_push qs r1.read.items (parts v g.frames) word (a_word (v.term term)) read word-is);
              pending = opened_is qs r1 r' g.frames f word (length (term_row file term).words.params) read (ap (λ os. os.items) pending ∙ g.stands.pending)
                  (let both = arity_is term es ops in both.1) opened;
            };
            within = (es, g.after, g.rest, refl, all, subst (λ (e : Tree). Behind o.params o.sigs t g.after g.rest g.frames e) tree-is g.behind);
          }

  -- ---- and end

  -- the innermost application is read, and stands here
  pub record Closing (ps : List Phrase) (r : Reading) (t : Target) (others : List Open) (p : Open) : Type 0 where
    pub marks : Marks
    pub commands : List UnifyCommand
    pub frame : Frame
    pub frames : List Frame
    pub stands : Stands v ps o.kind o.params r commands marks (frame ∷ frames) (parts v (frame ∷ frames))
    pub behind : Behind o.params o.sigs t marks commands frames (whole frame)
    pub others_are : others ≡ opens_of v frames
    pub place : p ≡ open_at (length (parts v frames)) frame
    pub operands : frame.operands ≡ trees_of frame.read

  all_read : (es : List Tree) (left : Trees) → length (listed (join es left)) ≡ length es → left ≡ none
  all_read es none many = refl
  all_read es (more e left) many = absurd (let joined = join_many es (more e left) in omega (arith, joined, many))

  read_length : (ps : List Phrase) (r : Reading) (f : Frame) (fs : List Frame) → AreAt ps r.read.items (parts v (f ∷ fs)) → length r.read.items ≡ length (parts v fs) + suc (length f.read)
  read_length ps r f fs h = let long = are_many ps r.read.items (parts v (f ∷ fs)) h ∙ length-append (parts v fs) (parts_of v f) in let own = parts_many v f in omega (arith, long, own)

  pub closing : (ps : List Phrase) (r : Reading) (t : Target) (others : List Open) (p : Open) → IsGoing file o v ps r t → r.pending.items ≡ others ++ p ∷ [] → IsComplete r
      → Closing ps r t others p
  closing ps r t others p g pending (others1, p1, pending1, to-is) = by g.frames g.stands g.within
    where
      same : (others ≡ others1) × (p ≡ p1)
      same = same_from_push others others1 p p1 (sym pending ∙ pending1)

      by : (fs : List Frame) → Stands v ps o.kind o.params r g.commands g.marks fs (held v t fs) → Within o.params o.sigs t g.marks g.commands fs → Closing ps r t others p
      by [] st within = absurd (one_not_none others p (sym st.pending ∙ pending))
      by (f ∷ fs) st (left, mid, rest, is, all, behind) =
          let here = same_from_push others (opens_of v fs) p (open_at (length (parts v fs)) f) (sym pending ∙ st.pending) in
          let to1 : p.to ≡ length r.read.items = ap (λ (q : Open). q.to) same.1 ∙ to-is in
          let to2 : p.to ≡ length (parts v fs) + suc (length (listed f.operands)) = ap (λ (q : Open). q.to) here.1 in
          let long = read_length ps r f fs st.read in
          let many : length (listed f.operands) ≡ length f.read = omega (arith, to1, to2, long) in
          let none-left : left ≡ none = all_read f.read left (ap (λ (es : Trees). length (listed es)) (sym is) ∙ many) in
          let ends : (mid ≡ g.marks) × (rest ≡ g.commands) = subst (λ (es : Trees). SpellsAll o.params o.sigs g.marks g.commands es mid rest) none-left all in
          record {
            marks = g.marks;
            commands = g.commands;
            frame = f;
            frames = fs;
            stands = st;
            behind = subst (λ (us : List UnifyCommand). Behind o.params o.sigs t g.marks us fs (whole f)) ends.1
                (subst (λ (m : Marks). Behind o.params o.sigs t m rest fs (whole f)) ends.0 behind);
            others_are = here.0;
            place = here.1;
            operands = is ∙ ap (join f.read) none-left ∙ join_none f.read;
          }

  -- its parts
  pub closing_parts : (ps : List Phrase) (r : Reading) (t : Target) (others : List Open) (p : Open) (c : Closing ps r t others p) → AreAt ps (drop p.from r.read.items) (parts_of v c.frame)
  closing_parts ps r t others p c = subst (λ (n : ℕ). AreAt ps (drop n r.read.items) (parts_of v c.frame)) (sym (ap (λ (q : Open). q.from) c.place))
      (are_behind ps r.read.items (parts v c.frames) (parts_of v c.frame) c.stands.read)

  pub closing_there : (ps : List Phrase) (r : Reading) (t : Target) (others : List Open) (p : Open) → Closing ps r t others p → All (λ n. n < length ps) (drop p.from r.read.items)
  closing_there ps r t others p c = are_there ps (drop p.from r.read.items) (parts_of v c.frame) (closing_parts ps r t others p c)

  pub closing_from : (ps : List Phrase) (r : Reading) (t : Target) (others : List Open) (p : Open) → Closing ps r t others p → p.from ≤ length r.read.items
  closing_from ps r t others p c = let long = read_length ps r c.frame c.frames c.stands.read in let from = ap (λ (q : Open). q.from) c.place in omega (arith, long, from)

  pub closing_mark : (ps : List Phrase) (r : Reading) (t : Target) (others : List Open) (p : Open) → Closing ps r t others p → (i : ℕ) → p.mark ≡ Some i → i < length r.marks.items
  closing_mark ps r t others p c i is =
      let own : slice_get c.marks.trees i ≡ Some (whole c.frame) = subst (λ (m : Option ℕ). IsOwn c.marks.trees m (whole c.frame))
      (sym (ap (λ (q : Open). q.mark) c.place) ∙ is) c.stands.own.0 in
      let lt = slice_get_within c.marks.trees i (whole c.frame) own in
      let long = c.stands.marked.many in
      omega (arith, lt, long)

  pub close_done : (ps qs : List Phrase) (r r' : Reading) (t : Target) (others : List Open) (p : Open) (k : ℕ) → Closing ps r t others p → Grows ps qs
      → ((w : ℕ) (es : List Tree) → AreAt ps (drop p.from r.read.items) (a_word (v.term w) ∷ map (expression v) es) → slice_get qs k ≡ Some (expression v (app w (trees_of es))))
      → r'.stream ≡ r.stream → r'.params ≡ r.params → IsSet r.marks.items p.mark k r'.marks.items → r'.dummies ≡ r.dummies → r'.read.items ≡ take p.from r.read.items ++ k ∷ []
      → r'.pending.items ≡ others
      → IsGoing file o v qs r' t
  close_done ps qs r r' t others p k c grows does stream params marks dummies read pending = absorbed qs r' t c.commands c.marks c.frames (whole c.frame) (record {
    stream = subst (λ s. StreamIs o.kind s.now c.commands) (sym stream) c.stands.stream;
    over = params ∙ c.stands.over;
    marked = marked_close v qs c.marks.trees r.marks.items r'.marks.items c.frame c.frames k
        (marked_grows v ps qs c.marks.trees r.marks.items (c.frame ∷ c.frames) grows c.stands.marked) c.stands.own.0 k-is
        (subst (λ (m : Option ℕ). IsSet r.marks.items m k r'.marks.items) (ap (λ (q : Open). q.mark) c.place) marks);
    own = c.stands.own.1;
    dummies = c.stands.dummies ∙ ap (λ ds. map dummy_of ds.items) (sym dummies);
    read = subst (λ (ns : List ℕ). AreAt qs ns (parts v c.frames ++ expression v (whole c.frame) ∷ [])) (sym read)
        (are_push qs (take p.from r.read.items) (parts v c.frames) k (expression v (whole c.frame)) (are_grow ps qs (take p.from r.read.items) (parts v c.frames) grows first) k-is);
    pending = pending ∙ c.others_are;
  }) c.behind
    where
      k-is : slice_get qs k ≡ Some (expression v (whole c.frame))
      k-is = does c.frame.term c.frame.read (closing_parts ps r t others p c) ∙ ap (λ (es : Trees). Some (expression v (app c.frame.term es))) (sym c.operands)

      first : AreAt ps (take p.from r.read.items) (parts v c.frames)
      first = subst (λ (n : ℕ). AreAt ps (take n r.read.items) (parts v c.frames)) (sym (ap (λ (q : Open). q.from) c.place))
          (are_first ps r.read.items (parts v c.frames) (parts_of v c.frame) c.stands.read)

  -- ---- an expression from begin to end

  pub start_next : (ps : List Phrase) (r : Reading) (t : Target) (m : Marks) (us : List UnifyCommand) → IsBetween file o v ps r m us → Spells o.params o.sigs m us t.tree t.after t.rest
      → IsNext file o v ps r t []
  start_next ps r t m us st spells = record {
    marks = m;
    commands = us;
    frames = [];
    tree = t.tree;
    after = t.after;
    rest = t.rest;
    stands = st;
    spells = spells;
    behind = (refl, refl, refl);
  }

  pub next_of : (ps : List Phrase) (r : Reading) (t : Target) → IsGoing file o v ps r t → (r.pending.items ≡ [] → ⊥) → (IsComplete r → ⊥) → IsNext file o v ps r t []
  next_of ps r t g some incomplete = by g.frames g.stands g.within
    where
      by : (fs : List Frame) → Stands v ps o.kind o.params r g.commands g.marks fs (held v t fs) → Within o.params o.sigs t g.marks g.commands fs → IsNext file o v ps r t []
      by [] st within = absurd (some st.pending)
      by (f ∷ fs) st (none, mid, rest, is, all, behind) =
          let long = read_length ps r f fs st.read in
          let many : length (listed f.operands) ≡ length f.read =
          (let joined = ap (λ (es : Trees). length (listed es)) is in let sum = join_many f.read none in omega (arith, joined, sum)) in
          absurd (incomplete (opens_of v fs, open_at (length (parts v fs)) f, st.pending, omega (arith, long, many)))
      by (f ∷ fs) st (more e left, mid, rest, is, (mid1, rest1, first, others), behind) =
          record {
            marks = g.marks;
            commands = g.commands;
            frames = f ∷ fs;
            tree = e;
            after = mid1;
            rest = rest1;
            stands = st;
            spells = first;
            behind = (left, mid, rest, is, others, behind);
          }

  one_is : (ps : List Phrase) (ns : List ℕ) (new : List ℕ) (k : ℕ) (q : Phrase) → AreAt ps ns (q ∷ []) → ns ≡ new ++ k ∷ [] → (new ≡ []) × (slice_get ps k ≡ Some q)
  one_is ps [] new k q h is = absurd h
  one_is ps (n ∷ m ∷ ns) new k q (_, h) is = absurd h
  one_is ps (n ∷ []) new k q (at, _) is = let both = same_from_push new [] k n (sym is) in (both.0, ap (slice_get ps) both.1 ∙ at)

  pub whole_read : (ps : List Phrase) (r r' : Reading) (t : Target) (k : ℕ) → IsGoing file o v ps r t → r.pending.items ≡ [] → r.read.items ≡ r'.read.items ++ k ∷ []
      → r'.stream ≡ r.stream → r'.params ≡ r.params → r'.marks ≡ r.marks → r'.dummies ≡ r.dummies → r'.pending ≡ r.pending
      → IsBetween file o v ps r' t.after t.rest × (slice_get ps k ≡ Some (expression v t.tree))
  whole_read ps r r' t k g empty read stream params marks dummies pending = by g.frames g.stands g.within
    where
      by : (fs : List Frame) → Stands v ps o.kind o.params r g.commands g.marks fs (held v t fs) → Within o.params o.sigs t g.marks g.commands fs
          → IsBetween file o v ps r' t.after t.rest × (slice_get ps k ≡ Some (expression v t.tree))
      by (f ∷ fs) st within = absurd (one_not_none (opens_of v fs) (open_at (length (parts v fs)) f) (sym empty ∙ st.pending))
      by [] st (m-is, us-is) =
          let one = one_is ps r.read.items r'.read.items k (expression v t.tree) st.read read in (
            subst (λ (us : List UnifyCommand). IsBetween file o v ps r' t.after us) us-is (subst (λ (m : Marks). IsBetween file o v ps r' m g.commands) m-is (record {
              stream = subst (λ s. StreamIs o.kind s.now g.commands) (sym stream) st.stream;
              over = params ∙ st.over;
              marked = subst (λ ms. AreMarked v ps g.marks.trees ms.items []) (sym marks) st.marked;
              own = tt;
              dummies = st.dummies ∙ ap (λ ds. map dummy_of ds.items) (sym dummies);
              read = subst (λ (ns : List ℕ). AreAt ps ns []) (sym one.0) tt;
              pending = ap (λ os. os.items) pending ∙ empty;
            })),
            one.1,
          )

  pub whole_some : (ps : List Phrase) (r : Reading) (t : Target) → IsGoing file o v ps r t → r.pending.items ≡ [] → r.read.items ≡ [] → ⊥
  whole_some ps r t g empty none-read = by g.frames g.stands
    where
      by : (fs : List Frame) → Stands v ps o.kind o.params r g.commands g.marks fs (held v t fs) → ⊥
      by (f ∷ fs) st = one_not_none (opens_of v fs) (open_at (length (parts v fs)) f) (sym empty ∙ st.pending)
      by [] st = (let is = are_many ps r.read.items (expression v t.tree ∷ []) st.read in let long = ap length none-read in omega (arith, is, long))

  -- ---- commands that are read

  pub record Command (ps : List Phrase) (r : Reading) (t : Target) (code : UnifyCode) (value : ℕ) : Type 0 where
    pub command : UnifyCommand
    pub is : command_in o.kind value (Some code) ≡ Some command
    pub next : IsNext file o v ps r t (command ∷ [])

  -- the first of the commands, and what stands behind it
  abbrev pub Cut : Reading → Reading → UnifyCode → ℕ → StreamKind → List UnifyCommand → Type 0
  Cut r r' code value kind us = (u : UnifyCommand) × (rest : List UnifyCommand) × (us ≡ u ∷ rest) × (command_in kind value (Some code) ≡ Some u)
      × StreamIs kind r'.stream.now rest × (length r'.stream.now < length r.stream.now)

  abbrev pub IsFirst : Reading → Reading → UnifyCode → ℕ → Type 0
  IsFirst r r' code value = (kind : StreamKind) (us : List UnifyCommand) → StreamIs kind r.stream.now us → Cut r r' code value kind us

  pub read_command : (ps : List Phrase) (r r' : Reading) (t : Target) (code : UnifyCode) (value : ℕ) → IsNext file o v ps r t [] → IsFirst r r' code value
      → r'.params ≡ r.params → r'.marks ≡ r.marks → r'.dummies ≡ r.dummies → r'.read ≡ r.read → r'.pending ≡ r.pending → Command ps r' t code value
  read_command ps r r' t code value g first params marks dummies read pending = by (first o.kind g.commands g.stands.stream)
    where
      by : Cut r r' code value o.kind g.commands → Command ps r' t code value
      by (u, rest, us-are, is, stream, _) = record {
        command = u;
        is = is;
        next = record {
          marks = g.marks;
          commands = rest;
          frames = g.frames;
          tree = g.tree;
          after = g.after;
          rest = g.rest;
          stands = record {
            stream = stream;
            over = params ∙ g.stands.over;
            marked = subst (λ ms. AreMarked v ps g.marks.trees ms.items g.frames) (sym marks) g.stands.marked;
            own = g.stands.own;
            dummies = g.stands.dummies ∙ ap (λ ds. map dummy_of ds.items) (sym dummies);
            read = subst (λ ns. AreAt ps ns.items (parts v g.frames)) (sym read) g.stands.read;
            pending = ap (λ os. os.items) pending ∙ g.stands.pending;
          };
          spells = subst (λ (us : List UnifyCommand). Spells o.params o.sigs g.marks us g.tree g.after g.rest) us-are g.spells;
          behind = g.behind;
        };
      }

  pub no_command : (ps : List Phrase) (r : Reading) (t : Target) → IsNext file o v ps r t [] → ((kind : StreamKind) (us : List UnifyCommand) → StreamIs kind r.stream.now us → us ≡ []) → ⊥
  no_command ps r t g none-left = none_never o.params o.sigs g.marks g.tree g.after g.rest
      (subst (λ (us : List UnifyCommand). Spells o.params o.sigs g.marks us g.tree g.after g.rest) (none-left o.kind g.commands g.stands.stream) g.spells)

  module _ (ps : List Phrase) (r : Reading) (t : Target) (code : UnifyCode) (value : ℕ) (c : Command ps r t code value) where
    as_code : (k : UnifyCode) → code ≡ k → command_in o.kind value (Some k) ≡ Some c.command
    as_code k is = subst (λ (j : UnifyCode). command_in o.kind value (Some j) ≡ Some c.command) is c.is

    as_command : (u : UnifyCommand) → c.command ≡ u → IsNext file o v ps r t (u ∷ [])
    as_command u is = subst (λ (w : UnifyCommand). IsNext file o v ps r t (w ∷ [])) is c.next

    pub next_term : code ≡ codes.Term → IsNext file o v ps r t (u_term value ∷ [])
    next_term is = as_command (u_term value) (code_term o.kind value c.command (as_code codes.Term is))

    pub next_save : code ≡ codes.TermSave → IsNext file o v ps r t (u_term_save value ∷ [])
    next_save is = as_command (u_term_save value) (code_save o.kind value c.command (as_code codes.TermSave is))

    pub next_ref : code ≡ codes.Ref → IsNext file o v ps r t (u_ref value ∷ [])
    next_ref is = as_command (u_ref value) (code_ref o.kind value c.command (as_code codes.Ref is))

    pub next_dummy : code ≡ codes.Dummy → IsNext file o v ps r t (u_dummy value ∷ [])
    next_dummy is = as_command (u_dummy value) (code_dummy o.kind value c.command (as_code codes.Dummy is))

    pub never_hyp : code ≡ codes.Hyp → ⊥
    never_hyp is =
        let g : IsNext file o v ps r t (u_hyp ∷ []) = as_command u_hyp (code_hyp o.kind value c.command (as_code codes.Hyp is)) in
        hyp_never o.params o.sigs g.marks g.commands g.tree g.after g.rest g.spells

  -- ---- hypotheses

  pub hyp_next : (ps : List Phrase) (r r' : Reading) (m : Marks) (us : List UnifyCommand) (hs : List Tree) (last : Marks) (code : UnifyCode) (value : ℕ) → IsBetween file o v ps r m us
      → SpellsHyps o.params o.sigs m us hs last → IsFirst r r' code value → r'.params ≡ r.params → r'.marks ≡ r.marks → r'.dummies ≡ r.dummies → r'.read ≡ r.read → r'.pending ≡ r.pending
      → IsAtHyp file o v ps r' m hs last
  hyp_next ps r r' m us hs last code value st hyps first params marks dummies read pending = by hs hyps (first o.kind us st.stream)
    where
      cons_is : (u : UnifyCommand) (rest others : List UnifyCommand) → u ∷ rest ≡ u_hyp ∷ others → rest ≡ others
      cons_is u rest others e = cc

      by : (gs : List Tree) → SpellsHyps o.params o.sigs m us gs last → Cut r r' code value o.kind us → IsAtHyp file o v ps r' m gs last
      by [] (us-none, _) (u, rest, us-are, _, _, _) = absurd (let bad : [] ≡ u ∷ rest = sym us-none ∙ us-are in cc)
      by (h ∷ gs) (rest, mid, us', us-hyp, spells, others) (u, rest1, us-are, _, stream, _) = (
        h,
        gs,
        rest,
        mid,
        us',
        refl,
        record {
          stream = subst (StreamIs o.kind r'.stream.now) (cons_is u rest1 rest (sym us-are ∙ us-hyp)) stream;
          over = params ∙ st.over;
          marked = subst (λ ms. AreMarked v ps m.trees ms.items []) (sym marks) st.marked;
          own = tt;
          dummies = st.dummies ∙ ap (λ ds. map dummy_of ds.items) (sym dummies);
          read = subst (λ ns. AreAt ps ns.items []) (sym read) st.read;
          pending = ap (λ os. os.items) pending ∙ st.pending;
        },
        spells,
        others,
      )

  pub hyps_end : (m : Marks) (us : List UnifyCommand) (hs : List Tree) (last : Marks) → SpellsHyps o.params o.sigs m us hs last → us ≡ [] → hs ≡ []
  hyps_end m us [] last h none-left = refl
  hyps_end m us (h ∷ hs) last (rest, mid, us', us-hyp, _, _) none-left = absurd (let bad : [] ≡ u_hyp ∷ rest = sym none-left ∙ us-hyp in cc)

  pub read_more : (ps qs : List Phrase) (r r' r2 : Reading) (ns new : List ℕ) (hs : List Tree) (last : Marks) (k : ℕ) (a : AreRead file o v ps r ns hs last)
      (h : IsAtHyp file o v ps r' a.marks a.others last) → Grows ps qs → (IsBetween file o v qs r2 h.3 h.4 × (slice_get qs k ≡ Some (expression v h.0))) → new ≡ ns ++ k ∷ []
      → AreRead file o v qs r2 new hs last
  read_more ps qs r r' r2 ns new hs last k a h grows e new-is = record {
    done = a.done ++ h.0 ∷ [];
    others = h.1;
    marks = h.3;
    commands = h.4;
    all = a.all ∙ ap (λ (es : List Tree). a.done ++ es) h.5 ∙ sym (append_assoc a.done (h.0 ∷ []) h.1);
    between = e.0;
    spells = h.8;
    numbers = subst (λ (ms : List ℕ). AreAt qs ms (map (expression v) (a.done ++ h.0 ∷ []))) (sym new-is)
        (subst (AreAt qs (ns ++ k ∷ [])) (sym (map-append (expression v) a.done (h.0 ∷ [])))
        (are_push qs ns (map (expression v) a.done) k (expression v h.0) (are_grow ps qs ns (map (expression v) a.done) grows a.numbers) e.1));
  }

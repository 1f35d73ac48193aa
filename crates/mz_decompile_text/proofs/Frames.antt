-- The applications that are being read: their marks, and their operands.
use Rattle.std.proofs.Common.{ℕ, suc, ◌≡◌, ◌<◌, ◌≤◌, ◌⊎◌, ◌+◌, List, [], ◌∷◌, ◌++◌, length, Option, Some, None, slice_get, slice_set, refl, ap, sym, ◌∙◌, subst, inl, inr, arith, length-append}
use Rattle.std.proofs.lemmas.Bool.{cases_eq}
use Rattle.std.proofs.lemmas.List.{length-map}
use Rattle.std.proofs.lemmas.Option.{slice_get_within}
use Rattle.mz_base.proofs.Offered.{slice_get-last, slice_get-append, slice_get-push_cases}
use Rattle.mz_logic_theory.specs.Tree.{Tree, Trees, var, none, more, listed, size, trees_size}
use Rattle.mz_logic_theory.specs.Signature.{Signature}
use Rattle.mz_logic_theory.specs.declared.binder.Binder.{Binder}
use Rattle.mz_machine_theory.specs.Streams.{UnifyCommand}
use Rattle.mz_machine_theory.specs.Spells.{Marks, trees_of, variables_from}
use Rattle.mz_machine_theory.proofs.Offered.{length-params}
use Rattle.mz_decompile_text.specs.Phrases.{Phrase}
use Rattle.mz_decompile_text.specs.Phrasing.{Vocabulary, expression}
use Rattle.mz_decompile_text.specs.ByNumber.{Grows}
use Rattle.mz_decompile_text.specs.Frames.{Frame, Target, AreMarked, AreOwn, Behind, IsMarked, IsOpenMark, IsOwn, join, parts_of, whole}
use Rattle.mz_decompile_text.specs.Numbers.{AreVariables}
use Rattle.mz_decompile_text.specs.Reading.{IsSet}
use Rattle.mz_decompile_text.proofs.RowNumbers.{at_grows, set_else, set_here, set_length, variable_at}

-- ---- operands

pub join_push : (es : List Tree) (e : Tree) (fs : Trees) → join (es ++ e ∷ []) fs ≡ join es (more e fs)
join_push [] e fs = refl
join_push (d ∷ es) e fs = ap (more d) (join_push es e fs)

pub join_none : (es : List Tree) → join es none ≡ trees_of es
join_none [] = refl
join_none (e ∷ es) = ap (more e) (join_none es)

pub join_many : (es : List Tree) (fs : Trees) → length (listed (join es fs)) ≡ length es + length (listed fs)
join_many [] fs = omega arith
join_many (e ∷ es) fs = (let h = join_many es fs in omega (arith, h))

pub parts_many : (v : Vocabulary) (f : Frame) → length (parts_of v f) ≡ suc (length f.read)
parts_many v f = ap suc (length-map f.read (expression v))

-- ---- sizes

size_joined : (es : List Tree) (e : Tree) (fs : Trees) → size e ≤ trees_size (join es (more e fs))
size_joined [] e fs = omega arith
size_joined (d ∷ es) e fs = (let h = size_joined es e fs in omega (arith, h))

-- an operand is smaller
size_whole : (f : Frame) (e : Tree) (left : Trees) → f.operands ≡ join f.read (more e left) → size e < size (whole f)
size_whole f e left is = (let h = size_joined f.read e left in let same = ap trees_size is in omega (arith, h, same))

some_tree : (x y : Tree) → Some x ≡ Some y → x ≡ y
some_tree x y e = cc

-- no mark of an application that is being read is of an expression that is no larger than the next
module _ (n : ℕ) (sigs : List Signature) (t : Target) (trees : List Tree) (i : ℕ) (x : Tree) (at : slice_get trees i ≡ Some x) where
  own_is : (f : Frame) → IsOwn trees f.mark (whole f) → f.mark ≡ Some i → x ≡ whole f
  own_is f own is = some_tree x (whole f) (sym at ∙ subst (λ (o : Option ℕ). IsOwn trees o (whole f)) is own)

  pub never_open : (fs : List Frame) (m : Marks) (us : List UnifyCommand) (e : Tree) → Behind n sigs t m us fs e → AreOwn trees fs → size x ≤ size e → IsOpenMark fs i → ⊥
  never_open [] m us e behind own small found = found
  never_open (f ∷ fs) m us e (left, mid, rest, is, all, behind) (mine, own) small (inl here) =
      let less = size_whole f e left is in let same = ap size (own_is f mine here) in absurd (omega (arith, less, same, small))
  never_open (f ∷ fs) m us e (left, mid, rest, is, all, behind) (mine, own) small (inr there) =
      let less = size_whole f e left is in never_open fs mid rest (whole f) behind own (omega (arith, less, small)) there

-- ---- marks

pub own_grows : (trees : List Tree) (e : Tree) (fs : List Frame) → AreOwn trees fs → AreOwn (trees ++ e ∷ []) fs
own_grows trees e [] own = tt
own_grows trees e (f ∷ fs) (mine, own) = (by f.mark mine, own_grows trees e fs own)
  where
    by : (o : Option ℕ) → IsOwn trees o (whole f) → IsOwn (trees ++ e ∷ []) o (whole f)
    by None h = tt
    by (Some i) h = slice_get-append trees (e ∷ []) i (whole f) h

module _ (v : Vocabulary) where
  pub marked_grows : (ps qs : List Phrase) (trees : List Tree) (marks : List ℕ) (fs : List Frame) → Grows ps qs → AreMarked v ps trees marks fs → AreMarked v qs trees marks fs
  marked_grows ps qs trees marks fs grows h = record { many = h.many; each = λ i e at. by i e (h.each i e at) }
    where
      by : (i : ℕ) (e : Tree) → IsMarked v ps marks fs i e → IsMarked v qs marks fs i e
      by i e (inl found) = inl found
      by i e (inr (k, here, is)) = inr (k, here, at_grows ps qs k (expression v e) grows is)

  -- an application begins that isn't marked
  pub marked_more : (ps : List Phrase) (trees : List Tree) (marks : List ℕ) (f : Frame) (fs : List Frame) → AreMarked v ps trees marks fs → AreMarked v ps trees marks (f ∷ fs)
  marked_more ps trees marks f fs h = record { many = h.many; each = λ i e at. by i e (h.each i e at) }
    where
      by : (i : ℕ) (e : Tree) → IsMarked v ps marks fs i e → IsMarked v ps marks (f ∷ fs) i e
      by i e (inl found) = inl (inr found)
      by i e (inr there) = inr there

  -- one mark more, which is of an application that begins or has a phrase
  pub marked_push : (ps : List Phrase) (trees : List Tree) (marks : List ℕ) (fs gs : List Frame) (e : Tree) (k : ℕ) → AreMarked v ps trees marks fs
      → ((i : ℕ) → IsOpenMark fs i → IsOpenMark gs i) → (IsOpenMark gs (length trees) ⊎ (slice_get ps k ≡ Some (expression v e))) → AreMarked v ps (trees ++ e ∷ []) (marks ++ k ∷ []) gs
  marked_push ps trees marks fs gs e k h on last = record {
    many = (let a = length-append marks (k ∷ []) in let b = length-append trees (e ∷ []) in let same = h.many in omega (arith, a, b, same));
    each = λ i d at. by i d (slice_get-push_cases trees e i d at);
  }
    where
      old : (i : ℕ) (d : Tree) → IsMarked v ps marks fs i d → IsMarked v ps (marks ++ k ∷ []) gs i d
      old i d (inl found) = inl (on i found)
      old i d (inr (l, here, is)) = inr (l, slice_get-append marks (k ∷ []) i l here, is)

      new : (i : ℕ) (d : Tree) → i ≡ length trees → e ≡ d → (IsOpenMark gs (length trees) ⊎ (slice_get ps k ≡ Some (expression v e))) → IsMarked v ps (marks ++ k ∷ []) gs i d
      new i d i-is e-is (inl found) = inl (subst (IsOpenMark gs) (sym i-is) found)
      new i d i-is e-is (inr is) = inr (
        k,
        ap (slice_get (marks ++ k ∷ [])) (i-is ∙ sym h.many) ∙ slice_get-last marks k,
        is ∙ ap (λ (x : Tree). Some (expression v x)) e-is,
      )

      by : (i : ℕ) (d : Tree) → ((slice_get trees i ≡ Some d) ⊎ ((i ≡ length trees) × (e ≡ d))) → IsMarked v ps (marks ++ k ∷ []) gs i d
      by i d (inl at) = old i d (h.each i d at)
      by i d (inr (i-is, e-is)) = new i d i-is e-is last

  -- the innermost application is read
  pub marked_close : (ps : List Phrase) (trees : List Tree) (marks new : List ℕ) (f : Frame) (fs : List Frame) (k : ℕ) → AreMarked v ps trees marks (f ∷ fs) → IsOwn trees f.mark (whole f)
      → slice_get ps k ≡ Some (expression v (whole f)) → IsSet marks f.mark k new → AreMarked v ps trees new fs
  marked_close ps trees marks new f fs k h own is set = by f.mark refl own set
    where
      other : (o : Option ℕ) → f.mark ≡ o → (i : ℕ) → (o ≡ Some i → ⊥) → IsOpenMark (f ∷ fs) i → IsOpenMark fs i
      other o mark-is i apart (inl here) = absurd (apart (sym mark-is ∙ here))
      other o mark-is i apart (inr there) = there

      same : (o : Option ℕ) → f.mark ≡ o → (ms : List ℕ) (i : ℕ) (e : Tree) → (o ≡ Some i → ⊥) → slice_get ms i ≡ slice_get marks i → IsMarked v ps marks (f ∷ fs) i e
          → IsMarked v ps ms fs i e
      same o mark-is ms i e apart at (inl found) = inl (other o mark-is i apart found)
      same o mark-is ms i e apart at (inr (l, here, e-is)) = inr (l, at ∙ here, e-is)

      differ : (i j : ℕ) → (i ≡ j → ⊥) → Some j ≡ Some i → ⊥
      differ i j apart e = apart (let is : j ≡ i = cc in sym is)

      each : (j i : ℕ) (e : Tree) → f.mark ≡ Some j → slice_get trees j ≡ Some (whole f) → slice_get trees i ≡ Some e → ((i ≡ j) ⊎ (i ≡ j → ⊥)) → IsMarked v ps (slice_set marks j k) fs i e
      each j i e mark-is mine at (inl i-j) =
          let room : j < length marks = (let lt = slice_get_within trees j (whole f) mine in let long = h.many in omega (arith, lt, long)) in
          let e-is : whole f ≡ e = some_tree (whole f) e (sym mine ∙ ap (slice_get trees) (sym i-j) ∙ at) in
          inr (k, ap (slice_get (slice_set marks j k)) i-j ∙ set_here marks j k room, is ∙ ap (λ (x : Tree). Some (expression v x)) e-is)
      each j i e mark-is mine at (inr apart) = same (Some j) mark-is (slice_set marks j k) i e (differ i j apart) (set_else marks j i k apart) (h.each i e at)

      none_some : (i : ℕ) → ◌≡◌ {A = Option ℕ} None (Some i) → ⊥
      none_some i e = cc

      by : (o : Option ℕ) → f.mark ≡ o → IsOwn trees o (whole f) → IsSet marks o k new → AreMarked v ps trees new fs
      by None mark-is mine set-is = subst (λ (ms : List ℕ). AreMarked v ps trees ms fs) (sym set-is) (record {
        many = h.many;
        each = λ i e at. same None mark-is marks i e (none_some i) refl (h.each i e at);
      })
      by (Some j) mark-is mine set-is = subst (λ (ms : List ℕ). AreMarked v ps trees ms fs) (sym set-is) (record {
        many = set_length marks j k ∙ h.many;
        each = λ i e at. each j i e mark-is mine at (cases_eq i j);
      })

  -- at first the parameters are marked
  pub params_marked : (ps : List Phrase) (bs : List Binder) (ns : List ℕ) (count : ℕ) → AreVariables v ps ns count → length bs ≡ count → AreMarked v ps (variables_from 0 bs) ns []
  params_marked ps bs ns count h many = record { many = h.many ∙ sym many ∙ sym (length-params 0 bs); each = λ i e at. by i e (variable_at 0 bs i e at) }
    where
      by : (i : ℕ) (e : Tree) → ((i < length bs) × (e ≡ var (0 + i))) → IsMarked v ps ns [] i e
      by i e (lt, is) = let (k, at, k-is) = h.each i (omega (arith, lt, many)) in
          inr (k, at, k-is ∙ ap (λ (d : Tree). Some (expression v d)) (sym (is ∙ ap var (let same : 0 + i ≡ i = omega arith in same))))

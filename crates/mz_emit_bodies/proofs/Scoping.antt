-- Tables of what is in sight of each cell.
use Rattle.std.specs.Prelude.{ℕ, ◌≡◌, ◌<◌, ◌≤◌, ◌+◌, List, [], ◌∷◌, ◌++◌, length, get_or, Option, Some, None}
use Rattle.std.proofs.Common.{zero, suc, refl, sym, ap, ◌∙◌, subst, arith}
use Rattle.std.proofs.lemmas.List.{get_or_append_left, length-append}
use Rattle.mz_mmu_theory.specs.Proof.{Proof}
use Rattle.mz_emit_bodies.specs.declared.let_scopes.Cell.{Cell}
use Rattle.mz_emit_bodies.specs.Sight.{Link, Part, links, link_at, parts, part_at, InSight, here, out, IsRightAt, AreRight, IsThere}
use Rattle.mz_emit_bodies.specs.Scopes.{in_sight, row_of, scopes_after, scopes}

get_last : (A : Type 0) (xs : List A) (y z : A) (k : ℕ) → k ≡ length xs → get_or (xs ++ y ∷ []) k z ≡ y
get_last A [] y z zero is = refl
get_last A (x ∷ xs) y z (suc k) is = get_last A xs y z k (omega (arith, is))
get_last A _ y z _ is = absurd (omega (arith, is))

module _ (A : Type 0) (f : ℕ → List A → Proof → A) where
  one_row : (t : List (List A)) (q : Part) → length (t ++ row_of f (length t) t q ∷ []) ≡ length t + 1
  one_row t q = length-append t (row_of f (length t) t q ∷ [])

  after_last : (t : List (List A)) (ps : List Part) (p : Part) → scopes_after f t (ps ++ p ∷ []) ≡ scopes_after f t ps ++ row_of f (length (scopes_after f t ps)) (scopes_after f t ps) p ∷ []
  after_last t [] p = refl
  after_last t (q ∷ ps) p = after_last (t ++ row_of f (length t) t q ∷ []) ps p

  pub scopes_last : (ps : List Part) (p : Part) → scopes f (ps ++ p ∷ []) ≡ scopes f ps ++ row_of f (length (scopes f ps)) (scopes f ps) p ∷ []
  scopes_last ps p = after_last [] ps p

  after_long : (t : List (List A)) (ps : List Part) → length (scopes_after f t ps) ≡ length t + length ps
  after_long t [] = omega arith
  after_long t (q ∷ ps) = after_long (t ++ row_of f (length t) t q ∷ []) ps ∙ (let l = one_row t q in omega (arith, l))

  pub scopes_long : (ps : List Part) → length (scopes f ps) ≡ length ps
  scopes_long ps = (let l = after_long [] ps in omega (arith, l))

  after_stays : (t : List (List A)) (ps : List Part) (c : ℕ) → c < length t → get_or (scopes_after f t ps) c [] ≡ get_or t c []
  after_stays t [] c lt = refl
  after_stays t (q ∷ ps) c lt =
      after_stays (t ++ row_of f (length t) t q ∷ []) ps c (let l = one_row t q in omega (arith, l, lt))
      ∙ get_or_append_left t (row_of f (length t) t q ∷ []) [] c lt

  sight_stays : (t : List (List A)) (ps : List Part) (o : Option ℕ) → IsThere (length t) o → in_sight (scopes_after f t ps) o ≡ in_sight t o
  sight_stays t ps None lt = refl
  sight_stays t ps (Some c) lt = after_stays t ps c lt

  row_stays : (t : List (List A)) (ps : List Part) (n : ℕ) (p : Part) → IsThere (length t) p.outer → row_of f n (scopes_after f t ps) p ≡ row_of f n t p
  row_stays t ps n p there = ap (λ (z : List A). z ++ f n z p.proof ∷ []) (sight_stays t ps p.outer there)

  after_row : (t : List (List A)) (ps : List Part) (j : ℕ) → j < length ps → IsThere (length t + j) (part_at ps j).outer
      → get_or (scopes_after f t ps) (length t + j) [] ≡ row_of f (length t + j) (scopes_after f t ps) (part_at ps j)
  after_row t [] j lt there = absurd (omega (arith, lt))
  after_row t (q ∷ ps) zero lt there =
      let l = one_row t q in
      let n-is : length t ≡ length t + 0 = omega arith in
      let there' : IsThere (length t) q.outer = subst (λ (n : ℕ). IsThere n q.outer) (sym n-is) there in
      after_stays (t ++ row_of f (length t) t q ∷ []) ps (length t + 0) (omega (arith, l))
      ∙ get_last (List A) t (row_of f (length t) t q) [] (length t + 0) (omega arith)
      ∙ sym (row_stays t (q ∷ ps) (length t) q there')
      ∙ ap (λ (n : ℕ). row_of f n (scopes_after f t (q ∷ ps)) q) n-is
  after_row t (q ∷ ps) (suc j) lt there =
      let l = one_row t q in
      let e : length (t ++ row_of f (length t) t q ∷ []) + j ≡ length t + suc j = omega (arith, l) in
      ap (λ (n : ℕ). get_or (scopes_after f (t ++ row_of f (length t) t q ∷ []) ps) n []) (sym e)
      ∙ after_row (t ++ row_of f (length t) t q ∷ []) ps j (omega (arith, lt)) (subst (λ (n : ℕ). IsThere n (part_at ps j).outer) (sym e) there)
      ∙ ap (λ (n : ℕ). row_of f n (scopes_after f t (q ∷ ps)) (part_at ps j)) e

  -- the row of a cell
  pub sight_row : (ps : List Part) (c : ℕ) → c < length ps → IsThere c (part_at ps c).outer → in_sight (scopes f ps) (Some c) ≡ row_of f c (scopes f ps) (part_at ps c)
  sight_row ps c lt there =
      let e : c ≡ 0 + c = omega arith in
      ap (λ (n : ℕ). get_or (scopes f ps) n []) e ∙ after_row [] ps c lt (subst (λ (n : ℕ). IsThere n (part_at ps c).outer) e there)
      ∙ ap (λ (n : ℕ). row_of f n (scopes f ps) (part_at ps c)) (sym e)

  -- one cell more changes nothing for those before it
  pub sight_more : (ps : List Part) (p : Part) (o : Option ℕ) → IsThere (length ps) o → in_sight (scopes f (ps ++ p ∷ [])) o ≡ in_sight (scopes f ps) o
  sight_more ps p None there = refl
  sight_more ps p (Some c) lt =
      ap (λ (t : List (List A)). get_or t c []) (scopes_last ps p)
      ∙ get_or_append_left (scopes f ps) (row_of f (length (scopes f ps)) (scopes f ps) p ∷ []) [] c (let l = scopes_long ps in omega (arith, l, lt))

  pub sight_new : (ps : List Part) (p : Part) (c : ℕ) → c ≡ length ps → in_sight (scopes f (ps ++ p ∷ [])) (Some c) ≡ row_of f c (scopes f ps) p
  sight_new ps p c is =
      ap (λ (t : List (List A)). get_or t c []) (scopes_last ps p)
      ∙ get_last (List A) (scopes f ps) (row_of f (length (scopes f ps)) (scopes f ps) p) [] c (let l = scopes_long ps in omega (arith, l, is))
      ∙ ap (λ (n : ℕ). row_of f n (scopes f ps) p) (scopes_long ps ∙ sym is)

-- ---- cells

pub outer_same : (cs : List Cell) (c : ℕ) → c < length cs → (part_at (parts cs) c).outer ≡ (link_at (links cs) c).outer
outer_same [] c lt = absurd (omega (arith, lt))
outer_same (d ∷ cs) zero lt = refl
outer_same (d ∷ cs) (suc c) lt = outer_same cs c (omega (arith, lt))

pub links_long : (cs : List Cell) → length (links cs) ≡ length cs
links_long [] = refl
links_long (c ∷ cs) = ap suc (links_long cs)

pub parts_long : (cs : List Cell) → length (parts cs) ≡ length cs
parts_long [] = refl
parts_long (c ∷ cs) = ap suc (parts_long cs)

right_there : (ls : List Link) (c : ℕ) (o : Option ℕ) → IsRightAt ls c o → IsThere c o
right_there ls c None r = tt
right_there ls c (Some o) r = r.0

pub outer_there : (cs : List Cell) (c : ℕ) → AreRight (links cs) → c < length cs → IsThere c (part_at (parts cs) c).outer
outer_there cs c right lt = subst (IsThere c) (sym (outer_same cs c lt)) (right_there (links cs) c _ (right c (let l = links_long cs in omega (arith, l, lt))))

pub there_more : (n m : ℕ) (o : Option ℕ) → n ≤ m → IsThere n o → IsThere m o
there_more n m None le there = tt
there_more n m (Some c) le there = omega (arith, le, there)

pub sight_depth : (ls : List Link) (c k d : ℕ) → AreRight ls → c < length ls → InSight ls c k d → k ≤ (link_at ls c).depth
sight_depth ls c k d right lt (here c0 k0 e) = omega (arith, e)
sight_depth ls c k d right lt (out c0 o k0 d0 e v) =
    let r : IsRightAt ls c (Some o) = subst (IsRightAt ls c) e (right c lt) in
    let i = sight_depth ls o k d right (omega (arith, lt, r.0)) v in
    omega (arith, r.1, i)

pub sight_inside : (ls : List Link) (c k d : ℕ) → AreRight ls → c < length ls → InSight ls c k d → d < length ls
sight_inside ls c k d right lt (here c0 k0 e) = lt
sight_inside ls c k d right lt (out c0 o k0 d0 e v) =
    let r : IsRightAt ls c (Some o) = subst (IsRightAt ls c) e (right c lt) in
    sight_inside ls o k d right (omega (arith, lt, r.0)) v

module _ (A : Type 0) (f : ℕ → List A → Proof → A) (cs : List Cell) (right : AreRight (links cs)) where
  row : (c : ℕ) → c < length cs → in_sight (scopes f (parts cs)) (Some c) ≡ row_of f c (scopes f (parts cs)) (part_at (parts cs) c)
  row c lt = sight_row A f (parts cs) c (let l = parts_long cs in omega (arith, l, lt)) (outer_there cs c right lt)

  row_long : (xs : List A) (x : A) → length (xs ++ x ∷ []) ≡ length xs + 1
  row_long xs x = length-append xs (x ∷ [])

  by_outer : (c : ℕ) (o : Option ℕ) → IsRightAt (links cs) c o → ((d : ℕ) → d < c → length (in_sight (scopes f (parts cs)) (Some d)) ≡ (link_at (links cs) d).depth + 1)
      → length (in_sight (scopes f (parts cs)) o) + 1 ≡ (link_at (links cs) c).depth + 1
  by_outer c None r before = omega (arith, r.0)
  by_outer c (Some o) r before = (let i = before o r.0 in omega (arith, i, r.1))

  long_within : (n c : ℕ) → c < n → c < length cs → length (in_sight (scopes f (parts cs)) (Some c)) ≡ (link_at (links cs) c).depth + 1
  long_within zero c le lt = absurd (omega (arith, le))
  long_within (suc n) c le lt =
      ap length (row c lt) ∙ row_long (in_sight (scopes f (parts cs)) (part_at (parts cs) c).outer) _
      ∙ ap (λ (o : Option ℕ). length (in_sight (scopes f (parts cs)) o) + 1) (outer_same cs c lt)
      ∙ by_outer c (link_at (links cs) c).outer (right c (let l = links_long cs in omega (arith, l, lt))) (λ o less. long_within n o (omega (arith, le, less)) (omega (arith, lt, less)))

  -- as many lets are in sight as the cell's depth says, itself counted
  pub long : (c : ℕ) → c < length cs → length (in_sight (scopes f (parts cs)) (Some c)) ≡ (link_at (links cs) c).depth + 1
  long c lt = long_within (suc c) c (omega arith) lt

  -- what a name stands for
  pub named : (c k d : ℕ) (z : A) → c < length cs → InSight (links cs) c k d
      → get_or (in_sight (scopes f (parts cs)) (Some c)) k z ≡ f d (in_sight (scopes f (parts cs)) (part_at (parts cs) d).outer) (part_at (parts cs) d).proof
  named c k d z lt (here c0 k0 e) =
      let l = long c lt in
      let l' = ap length (row c lt) ∙ row_long (in_sight (scopes f (parts cs)) (part_at (parts cs) c).outer) _ in
      ap (λ (xs : List A). get_or xs k z) (row c lt)
      ∙ get_last A (in_sight (scopes f (parts cs)) (part_at (parts cs) c).outer) _ z k (omega (arith, l, l', e))
  named c k d z lt (out c0 o k0 d0 e v) =
      let r : IsRightAt (links cs) c (Some o) = subst (IsRightAt (links cs) c) e (right c (let l = links_long cs in omega (arith, l, lt))) in
      let o-lt : o < length cs = omega (arith, lt, r.0) in
      let l = long o o-lt in
      let i = sight_depth (links cs) o k d right (let l = links_long cs in omega (arith, l, o-lt)) v in
      ap (λ (xs : List A). get_or xs k z) (row c lt)
      ∙ ap (λ (b : Option ℕ). get_or (in_sight (scopes f (parts cs)) b ++ f c (in_sight (scopes f (parts cs)) b) (part_at (parts cs) c).proof ∷ []) k z) (outer_same cs c lt ∙ e)
      ∙ get_or_append_left (in_sight (scopes f (parts cs)) (Some o)) _ z k (omega (arith, l, i))
      ∙ named o k d z o-lt v

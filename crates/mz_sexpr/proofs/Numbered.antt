-- Nodes by number, and the rows.
use Rattle.std.proofs.Common.{ℕ, zero, suc, ◌≡◌, ◌<◌, ◌≤◌, ◌+◌, List, [], ◌∷◌, length, get_or, drop, refl, sym, ap, ◌∙◌, subst, arith, add-one, Option, Some, None}
use Rattle.std.proofs.lemmas.List.{drop_all}
use Rattle.std.proofs.Math.Seq.{drop-cons}
use Rattle.mz_sexpr.specs.Node.{no_nodes, node}
use Rattle.mz_sexpr.specs.Number.{tails, node_count, node_at, nodes_after, first, rest, StandsFor}
use Rattle.mz_sexpr.specs.Rows.{Entry, level, head_node, depth_inside, Steps, entry_at, no_entry, IsShallow}
use Rattle.mz_sexpr.proofs.Levels.{lists, tails_of_top, level_here, level_above, level_below}

length-lists : (es : List Entry) → length (lists es) ≡ length es
length-lists [] = refl
length-lists (e ∷ es) = ap suc (length-lists es)

pub node_count_is : (es : List Entry) → Steps 0 es → node_count (level es 0) ≡ length es
node_count_is es s = ap length (tails_of_top es s) ∙ length-lists es

lists_at : (es : List Entry) (n : ℕ) → n < length es → get_or (lists es) n no_nodes ≡ level (drop n es) (entry_at es n).depth
lists_at [] n h = absurd (omega arith)
lists_at (e ∷ es) zero h = refl
lists_at (e ∷ es) (suc n) h = lists_at es n (omega arith)

tails_at : (es : List Entry) (n : ℕ) → Steps 0 es → n < length es → get_or (tails (level es 0)) n no_nodes ≡ level (drop n es) (entry_at es n).depth
tails_at es n s h = ap (λ ls. get_or ls n no_nodes) (tails_of_top es s) ∙ lists_at es n h

cut : (es : List Entry) (n : ℕ) → n < length es → drop n es ≡ entry_at es n ∷ drop (n + 1) es
cut es n h = drop-cons es n no_entry h ∙ ap (λ m. entry_at es n ∷ drop m es) (sym (add-one n))

module _ (es : List Entry) (s : Steps 0 es) (n : ℕ) (h : n < length es) where
  list_from : get_or (tails (level es 0)) n no_nodes
      ≡ node (head_node (entry_at es n).at (entry_at es n).bytes (level (drop (n + 1) es) (suc (entry_at es n).depth))) (level (drop (n + 1) es) (entry_at es n).depth)
  list_from = tails_at es n s h ∙ ap (λ x. level x (entry_at es n).depth) (cut es n h) ∙ level_here (entry_at es n) (drop (n + 1) es) (entry_at es n).depth refl

  pub node_is : node_at (level es 0) n ≡ head_node (entry_at es n).at (entry_at es n).bytes (level (drop (n + 1) es) (suc (entry_at es n).depth))
  node_is = ap first list_from

  pub after_is : nodes_after (level es 0) n ≡ level (drop (n + 1) es) (entry_at es n).depth
  after_is = ap rest list_from

  -- the nodes of its depth from the row on
  pub stands_here : (d : ℕ) → (entry_at es n).depth ≡ d → StandsFor (level es 0) (Some n) (level (drop n es) d)
  stands_here d is = (
    subst (λ m. n < m) (sym (node_count_is es s)) h,
    ap (level (drop n es)) (sym is) ∙ sym (tails_at es n s h) ∙ list_from ∙ sym (ap (λ t. node (first t) (rest t)) list_from),
  )

pub none_past : (es : List Entry) (n d : ℕ) → length es ≤ n → level (drop n es) d ≡ no_nodes
none_past es n d h = ap (λ x. level x d) (drop_all n es h)

pub none_below : (es : List Entry) (n d : ℕ) → n < length es → (entry_at es n).depth < d → level (drop n es) d ≡ no_nodes
none_below es n d h less = ap (λ x. level x d) (cut es n h) ∙ level_above (entry_at es n) (drop (n + 1) es) d less

-- a deeper row adds nothing to a level
pub passed_over : (es : List Entry) (n k : ℕ) → n < length es → k < (entry_at es n).depth → level (drop n es) k ≡ level (drop (n + 1) es) k
passed_over es n k h below = ap (λ x. level x k) (cut es n h) ∙ level_below (entry_at es n) (drop (n + 1) es) k below

pub depth_inside_at_most : (d : ℕ) (b : Option (List ℕ)) → depth_inside d b ≤ suc d
depth_inside_at_most d None = omega arith
depth_inside_at_most d (Some w) = omega arith

pub depth_at_most : (d : ℕ) (es : List Entry) (n : ℕ) → Steps d es → n < length es → (entry_at es n).depth ≤ d + n
depth_at_most d [] n s h = absurd (omega arith)
depth_at_most d (e ∷ es) zero s h = omega (arith, s.0)
depth_at_most d (e ∷ es) (suc n) s h =
    let k = depth_at_most (depth_inside e.depth e.bytes) es n s.1 (omega arith) in
    omega (arith, s.0, depth_inside_at_most e.depth e.bytes)

head_shallow : (d : ℕ) (es : List Entry) → Steps d es → IsShallow es 0 d
head_shallow d [] s h = absurd (omega arith)
head_shallow d (e ∷ es) s h = s.0

shallow_more : (e : Entry) (es : List Entry) (n d : ℕ) → IsShallow es (n + 1) d → IsShallow (e ∷ es) (suc n + 1) d
shallow_more e es n d h = subst (λ m. IsShallow (e ∷ es) m d) eq step
  where
    eq : suc (n + 1) ≡ suc n + 1
    eq = omega arith

    step : IsShallow (e ∷ es) (suc (n + 1)) d
    step = λ k. h (omega arith)

pub part_shallow : (d : ℕ) (es : List Entry) (n : ℕ) → Steps d es → n < length es → IsShallow es (n + 1) (depth_inside (entry_at es n).depth (entry_at es n).bytes)
part_shallow d [] n s h = absurd (omega arith)
part_shallow d (e ∷ es) zero s h = λ k. head_shallow (depth_inside e.depth e.bytes) es s.1 (omega arith)
part_shallow d (e ∷ es) (suc n) s h =
    shallow_more e es n (depth_inside (entry_at es n).depth (entry_at es n).bytes) (part_shallow (depth_inside e.depth e.bytes) es n s.1 (omega arith))

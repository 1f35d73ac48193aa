-- Levels of rows, row by row.
use Rattle.std.proofs.Common.{ℕ, zero, suc, ◌≡◌, ◌<◌, ◌≤◌, false, List, [], ◌∷◌, ◌++◌, refl, sym, ap, ◌∙◌, arith, Option, Some, None, append_assoc, inl, inr}
use Rattle.std.specs.Prelude.{◌==◌, ◌⊎◌, if◌then◌else◌}
use Rattle.std.proofs.lemmas.Bool.{lt-ltb, le-ltb, eq-eqb}
use Rattle.std.proofs.lemmas.Bool.Decides.{nat_tests}
use Rattle.mz_sexpr.specs.Node.{Nodes, atom, list, no_nodes, node}
use Rattle.mz_sexpr.specs.Number.{tails}
use Rattle.mz_sexpr.specs.Rows.{Entry, level, head_node, depth_inside, Steps}

unequal : (a b : ℕ) → b < a → (a == b) ≡ false
unequal a b h = grind (arith, nat_tests)

pub level_below : (e : Entry) (es : List Entry) (k : ℕ) → k < e.depth → level (e ∷ es) k ≡ level es k
level_below e es k h =
    ap (λ t. if t then level es k else (if k == e.depth then node (head_node e.at e.bytes (level es (suc k))) (level es k) else no_nodes)) (lt-ltb k e.depth h)

pub level_here : (e : Entry) (es : List Entry) (k : ℕ) → k ≡ e.depth → level (e ∷ es) k ≡ node (head_node e.at e.bytes (level es (suc k))) (level es k)
level_here e es k h =
    ap (λ t. if t then level es k else (if k == e.depth then node (head_node e.at e.bytes (level es (suc k))) (level es k) else no_nodes)) (le-ltb k e.depth (omega arith))
    ∙ ap (λ t. if t then node (head_node e.at e.bytes (level es (suc k))) (level es k) else no_nodes) (eq-eqb k e.depth h)

pub level_above : (e : Entry) (es : List Entry) (k : ℕ) → e.depth < k → level (e ∷ es) k ≡ no_nodes
level_above e es k h =
    ap (λ t. if t then level es k else (if k == e.depth then node (head_node e.at e.bytes (level es (suc k))) (level es k) else no_nodes)) (le-ltb k e.depth (omega arith))
    ∙ ap (λ t. if t then node (head_node e.at e.bytes (level es (suc k))) (level es k) else no_nodes) (unequal k e.depth h)

-- for each row the nodes of its depth from it on
abbrev pub lists : List Entry → List Nodes
lists [] = []
lists (e ∷ es) = level (e ∷ es) e.depth ∷ lists es

-- those of the levels from d down to 0
abbrev pub all_tails : ℕ → List Entry → List Nodes
all_tails zero es = tails (level es 0)
all_tails (suc d) es = tails (level es (suc d)) ++ all_tails d es

none_left : (d : ℕ) → all_tails d [] ≡ []
none_left zero = refl
none_left (suc d) = none_left d

tails_below : (d : ℕ) (e : Entry) (es : List Entry) → d < e.depth → all_tails d (e ∷ es) ≡ all_tails d es
tails_below zero e es h = ap tails (level_below e es 0 h)
tails_below (suc d) e es h = ap (λ ns. tails ns ++ all_tails d (e ∷ es)) (level_below e es (suc d) h) ∙ ap (λ ns. tails (level es (suc d)) ++ ns) (tails_below d e es (omega arith))

abbrev row : ℕ → ℕ → Option (List ℕ) → Entry
row d at b = record { depth = d; at = at; bytes = b }

tails_here : (d at : ℕ) (b : Option (List ℕ)) (es : List Entry) → all_tails d (row d at b ∷ es) ≡ level (row d at b ∷ es) d ∷ all_tails (depth_inside d b) es
tails_here zero at None es =
    ap tails (level_here (row 0 at None) es 0 refl)
    ∙ sym (ap (λ ns. ns ∷ all_tails 1 es) (level_here (row 0 at None) es 0 refl))
tails_here zero at (Some w) es =
    ap tails (level_here (row 0 at (Some w)) es 0 refl)
    ∙ sym (ap (λ ns. ns ∷ all_tails 0 es) (level_here (row 0 at (Some w)) es 0 refl))
tails_here (suc d) at None es =
    ap (λ ns. tails ns ++ all_tails d (row (suc d) at None ∷ es)) (level_here (row (suc d) at None) es (suc d) refl)
    ∙ ap (λ ls. tails (node (list at (level es (suc (suc d)))) (level es (suc d))) ++ ls) (tails_below d (row (suc d) at None) es (omega arith))
    ∙ ap (λ ls. node (list at (level es (suc (suc d)))) (level es (suc d)) ∷ ls) (append_assoc (tails (level es (suc (suc d)))) (tails (level es (suc d))) (all_tails d es))
    ∙ sym (ap (λ ns. ns ∷ all_tails (suc (suc d)) es) (level_here (row (suc d) at None) es (suc d) refl))
tails_here (suc d) at (Some w) es =
    ap (λ ns. tails ns ++ all_tails d (row (suc d) at (Some w) ∷ es)) (level_here (row (suc d) at (Some w)) es (suc d) refl)
    ∙ ap (λ ls. tails (node (atom at w) (level es (suc d))) ++ ls) (tails_below d (row (suc d) at (Some w)) es (omega arith))
    ∙ sym (ap (λ ns. ns ∷ all_tails (suc d) es) (level_here (row (suc d) at (Some w)) es (suc d) refl))

at_top : (a d : ℕ) → a ≤ suc d → (a ≤ d) ⊎ (suc d ≡ a)
at_top a d h = grind arith

tails_above : (d : ℕ) (e : Entry) (es : List Entry) → e.depth ≤ d → all_tails d (e ∷ es) ≡ all_tails e.depth (e ∷ es)
tails_above zero e es h = let k : 0 ≡ e.depth = omega arith in ap (λ n. all_tails n (e ∷ es)) k
tails_above (suc d) e es h = go (λ k. tails_above d e es k) (at_top e.depth d h)
  where
    go : (e.depth ≤ d → all_tails d (e ∷ es) ≡ all_tails e.depth (e ∷ es)) → (e.depth ≤ d) ⊎ (suc d ≡ e.depth) → all_tails (suc d) (e ∷ es) ≡ all_tails e.depth (e ∷ es)
    go more (inl k) = ap (λ ns. tails ns ++ all_tails d (e ∷ es)) (level_above e es (suc d) (omega arith)) ∙ more k
    go more (inr k) = ap (λ n. all_tails n (e ∷ es)) k

tails_are : (d : ℕ) (es : List Entry) → Steps d es → all_tails d es ≡ lists es
tails_are d [] s = none_left d
tails_are d (e ∷ es) s =
    tails_above d e es s.0
    ∙ tails_here e.depth e.at e.bytes es
    ∙ ap (λ ls. level (e ∷ es) e.depth ∷ ls) (tails_are (depth_inside e.depth e.bytes) es s.1)

-- the top forms' numbered lists are those of the rows
pub tails_of_top : (es : List Entry) → Steps 0 es → tails (level es 0) ≡ lists es
tails_of_top es s = tails_are 0 es s

-- Where target and hypotheses are an instance of what a stream spells, the stream runs.
use Rattle.std.proofs.Common.{◌≡◌, ℕ, zero, suc, ◌+◌, List, [], ◌∷◌, ◌++◌, length, map, Some, refl, sym, ap, subst, ◌∙◌, arith, append-nil, true}
use Rattle.std.specs.Prelude.{slice_get, take, reverse}
use Rattle.mz_base.proofs.Offered.{slice_get-append_add}
use Rattle.mz_logic_theory.specs.Tree.{Tree, Trees, var, none, listed, operand, followed_by, variables, instance, instances, size}
use Rattle.mz_logic_theory.specs.Signature.{Signature}
use Rattle.mz_logic_theory.specs.Conversions.{AreFresh}
use Rattle.mz_logic_theory.specs.declared.binder.Binder.{Binder}
use Rattle.mz_machine_theory.specs.Streams.{StreamKind, of_assertion, of_definition, StreamIs}
use Rattle.mz_machine_theory.specs.Spells.{trees_of, Marks, variables_from, at_first, SpellsText}
use Rattle.mz_machine_theory.specs.Profile.{strict, Item, proof}
use Rattle.mz_machine_theory.specs.UnifyMachine.{UnifyMode, kind_of, in_definition, UnifyState, unify, nothing_left, is_fresh}
use Rattle.mz_machine_theory.specs.UnifyLaws.{RunsLeaving, instances_of}
use Rattle.mz_machine_theory.proofs.Trees.{operand-trees_of, listed-trees_of, followed-by-variables, instances-listed}
use Rattle.mz_machine_theory.proofs.Citations.{start-agrees, length-params, map-reverse}
use Rattle.mz_machine_theory.proofs.Matching.{Agrees, agrees-append, same-length}
use Rattle.mz_machine_theory.proofs.NoDummies.{no-dummies}
use Rattle.mz_machine_theory.proofs.FreshVars.{fresh-at, get-mapped, take-next, passes-fresh}
use Rattle.mz_machine_theory.proofs.Completing.{from-run, onward, hyps-grown, heap-grown, hyps-onward}

-- the operands that begin the trees are the instances of the parameters
params-instances : (j : ℕ) (f : Trees) (es : List Tree) (ps : List Binder) → length es ≡ length ps → ((i : ℕ) (t : Tree) → slice_get es i ≡ Some t → operand f (j + i) ≡ t) → es ≡ map (instance f) (variables_from j ps)
params-instances j f [] [] len at = refl
params-instances j f [] (p ∷ ps) len at = absurd (omega arith)
params-instances j f (e ∷ es) [] len at = absurd (omega arith)
params-instances j f (e ∷ es) (p ∷ ps) len at =
    ap (λ (z : Tree). z ∷ es) (sym (at 0 e refl) ∙ ap (operand f) (omega arith))
    ∙ ap (λ (z : List Tree). operand f j ∷ z) (params-instances (suc j) f es ps (omega arith) λ i t is. ap (operand f) (omega arith) ∙ at (suc i) t is)

pub instances-run : (sigs : List Signature) (ctx params : List Binder) (stream : List ℕ) (hyps : Trees) (conclusion : Tree) (last : Marks) → SpellsText of_assertion sigs params stream hyps conclusion last
    → (mode : UnifyMode) → kind_of mode ≡ of_assertion → (es hs : List Tree) (rest : List (Item Tree)) → nothing_left mode rest ≡ true → length es ≡ length params → trees_of hs ≡ instances (trees_of es) hyps
    → RunsLeaving sigs ctx (record { mode = mode; stream = stream; operands = es; target = instance (trees_of es) conclusion; items = map proof (reverse hs) ++ rest }) (instances_of (trees_of es) last) rest
unfolding unify
instances-run sigs ctx params stream hyps conclusion last (us, stream-is, mid, us', spells, others) mode kind es hs rest ends len hs-are =
    let f : Trees = trees_of es in
    let n : ℕ = length params in
    let none-met : last.dummies ≡ [] = no-dummies sigs params stream hyps conclusion last (us, stream-is, mid, us', spells, others) in
    let items : List (Item Tree) = map proof (reverse hs) ++ rest in
    let st : UnifyState Tree = record { heap = es; apart = es; targets = instance f conclusion ∷ []; items = items } in
    let rs : List Tree = reverse (listed hyps) in
    let len-params : length (variables_from 0 params) ≡ length es = length-params 0 params ∙ sym len in
    let agrees : (k : ℕ) → Agrees f (variables_from 0 params) es k = λ k. start-agrees params es es k len ([], sym (append-nil es)) in
    let w-last : (more : List Binder) × ([] ≡ last.dummies ++ more) = ([], sym (append-nil last.dummies ∙ none-met)) in
    let a1 = onward sigs ctx mode n f es [] [] (no-dummy f n es) conclusion (at_first params) mid us us' st [] spells
    (hyps-grown sigs ctx mode n f es [] [] (no-dummy f n es) rs mid last us' others w-last) refl len-params (agrees (size conclusion)) (sym (append-nil es)) in
    let long-mid : length mid.trees ≡ length a1.state.heap = ap length a1.marks ∙ same-length f (variables_from 0 params) es a1.new len-params ∙ sym (ap length a1.heap) in
    let agrees-mid : (k : ℕ) → Agrees f mid.trees a1.state.heap k =
    λ k. subst (λ (z : List Tree). Agrees f z a1.state.heap k) (sym a1.marks) (subst (λ (z : List Tree). Agrees f (variables_from 0 params ++ a1.new) z k) (sym a1.heap) (agrees-append f (variables_from 0 params) es a1.new k len-params (agrees k))) in
    let heap-mid : a1.state.heap ≡ map (instance f) mid.trees = heap-grown sigs ctx mode n f es [] [] (no-dummy f n es) st a1.state (at_first params) mid a1.new (params-instances 0 f es params len λ i t at. ap (operand f) (omega arith) ∙ operand-trees_of es i t at) a1.heap a1.marks in
    let hs-listed : hs ≡ map (instance f) (listed hyps) = sym (listed-trees_of hs) ∙ ap listed (hs-are ∙ sym (instances-listed f hyps)) ∙ listed-trees_of (map (instance f) (listed hyps)) in
    let items-are : a1.state.items ≡ map proof (map (instance f) rs) ++ rest = a1.items ∙ ap (λ (z : List Tree). map proof z ++ rest) (ap reverse hs-listed ∙ sym (map-reverse (instance f) (listed hyps))) in
    let (u, ran, heap-is, left) = hyps-onward sigs ctx mode n f es [] [] (no-dummy f n es) rest ends rs mid last us' a1.state others w-last a1.targets items-are heap-mid long-mid agrees-mid a1.apart in
    (u, from-run sigs ctx mode (length stream) 0 stream us st u (subst (λ (z : StreamKind). StreamIs z stream us) (sym kind) stream-is) (omega arith) (a1.runs ∙ ran), heap-is, left)
  where
    nothing-at : (k : ℕ) (b : Binder) → slice_get [] k ≡ Some b → ⊥
    nothing-at k b at = cc

    no-dummy : (f : Trees) (n : ℕ) (es : List Tree) (k : ℕ) (b : Binder) → slice_get [] k ≡ Some b
        → (y : ℕ) × (operand f (n + k) ≡ var y) × (is_fresh strict sigs ctx b.sort (var y) (es ++ map var (take k [])) ≡ true) × (take (suc k) [] ≡ take k [] ++ y ∷ [])
    no-dummy f n es k b at = absurd (nothing-at k b at)

pub instances-unfolded : (sigs : List Signature) (ctx params : List Binder) (stream : List ℕ) (body : Tree) (last : Marks) → SpellsText of_definition sigs params stream none body last
    → (es : List Tree) (ys : List ℕ) → length es ≡ length params → AreFresh ctx (trees_of es) ys last.dummies
    → RunsLeaving sigs ctx (record { mode = in_definition; stream = stream; operands = es; target = instance (followed_by (trees_of es) (variables ys)) body; items = [] }) (instances_of (followed_by (trees_of es) (variables ys)) last) []
unfolding unify
instances-unfolded sigs ctx params stream body last (us, stream-is, mid, us', spells, (ended, last-is)) es ys len fresh =
    let f : Trees = followed_by (trees_of es) (variables ys) in
    let f-is : trees_of (es ++ map var ys) ≡ f = followed-by-variables es ys in
    let n : ℕ = length params in
    let st : UnifyState Tree = record { heap = es; apart = es; targets = instance f body ∷ []; items = [] } in
    let fresh-next : (k : ℕ) (b : Binder) → slice_get last.dummies k ≡ Some b → (y : ℕ) × (operand f (n + k) ≡ var y) × (is_fresh strict sigs ctx b.sort (var y) (es ++ map var (take k ys)) ≡ true) × (take (suc k) ys ≡ take k ys ++ y ∷ []) =
    λ k b at.
    let (y, y-at, bound, out) = fresh-at ctx (trees_of es) ys last.dummies fresh k b at in (
      y,
      ap (λ (z : Trees). operand z (n + k)) (sym f-is) ∙ operand-trees_of (es ++ map var ys) (n + k) (var y) (ap (λ (z : ℕ). slice_get (es ++ map var ys) (z + k)) (sym len) ∙ slice_get-append_add es (map var ys) k ∙ get-mapped ys k y y-at),
      passes-fresh sigs ctx es ys last.dummies fresh k y b.sort y-at bound out,
      take-next ys k y y-at,
    ) in
    let len-params : length (variables_from 0 params) ≡ length es = length-params 0 params ∙ sym len in
    let agrees : (k : ℕ) → Agrees f (variables_from 0 params) es k = λ k. subst (λ (z : Trees). Agrees z (variables_from 0 params) es k) f-is (start-agrees params es (es ++ map var ys) k len (map var ys, refl)) in
    let w-mid : (more : List Binder) × (last.dummies ≡ mid.dummies ++ more) = ([], ap (λ (z : Marks). z.dummies) last-is ∙ sym (append-nil mid.dummies)) in
    let w-last : (more : List Binder) × (last.dummies ≡ last.dummies ++ more) = ([], sym (append-nil last.dummies)) in
    let a1 = onward sigs ctx in_definition n f es ys last.dummies fresh-next body (at_first params) mid us us' st [] spells w-mid refl len-params (agrees (size body)) (sym (append-nil es)) in
    let at-front : (i : ℕ) (t : Tree) → slice_get es i ≡ Some t → operand f i ≡ t = λ i t is. ap (λ (z : Trees). operand z i) (sym f-is) ∙ operand-trees_of (es ++ map var ys) i t (in-front es (map var ys) i t is) in
    let heap-mid : a1.state.heap ≡ map (instance f) mid.trees = heap-grown sigs ctx in_definition n f es ys last.dummies fresh-next st a1.state (at_first params) mid a1.new (params-instances 0 f es params len λ i t at. ap (operand f) (omega arith) ∙ at-front i t at) a1.heap a1.marks in
    let (u, ran, heap-is, left) = hyps-onward sigs ctx in_definition n f es ys last.dummies fresh-next [] refl [] mid last us' a1.state (ended, last-is) w-last a1.targets a1.items heap-mid
    (ap length a1.marks ∙ same-length f (variables_from 0 params) es a1.new len-params ∙ sym (ap length a1.heap))
    (λ k. subst (λ (z : List Tree). Agrees f z a1.state.heap k) (sym a1.marks) (subst (λ (z : List Tree). Agrees f (variables_from 0 params ++ a1.new) z k) (sym a1.heap) (agrees-append f (variables_from 0 params) es a1.new k len-params (agrees k)))) a1.apart in
    (u, from-run sigs ctx in_definition (length stream) 0 stream us st u stream-is (omega arith) (a1.runs ∙ ran), heap-is, left)
  where
    in-front : (xs ys : List Tree) (i : ℕ) (t : Tree) → slice_get xs i ≡ Some t → slice_get (xs ++ ys) i ≡ Some t
    in-front [] ys i t e = absurd cc
    in-front (x ∷ xs) ys zero t e = e
    in-front (x ∷ xs) ys (suc i) t e = in-front xs ys i t e

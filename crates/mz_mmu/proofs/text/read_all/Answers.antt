use Rattle.std.proofs.Common.{◌≡◌, ◌+◌, ◌∙◌, suc, [], ◌∷◌, ◌++◌, length, map, append-nil, ap, sym, subst, refl, arith}
use Rattle.mz_base.proofs.Offered.{Decides, decides-whole, length-push}
use Rattle.mz_sexpr.specs.Number.{node_at, nodes_after}
use Rattle.mz_base.specs.Gaps.{gaps_of}
use Rattle.mz_mmu_theory.specs.Cursor.{nodes_from, IsThere, nodes_size}
use Rattle.mz_mmu.specs.EntryView.{entry, root, AreNumbers}
use Rattle.mz_mmu_theory.specs.Name.{no_names}
use Rattle.mz_mmu_theory.specs.Statements.{AreStatements}
use Rattle.mz_mmu_theory.specs.StatementOrder.{statements_asked}
use Rattle.mz_mmu_forms.specs.ScopeView.{names}
use Rattle.mz_mmu_theory.specs.StatementView.{stated}
use Rattle.mz_mmu_theory.proofs.Offered.{node_size_positive, stands_from, stands_there, stepped, Agrees, statement_says, agrees_more, agrees_first}
use Rattle.std.proofs.lemmas.List.{map-append}
use Rattle.mz_mmu_theory.specs.NamesMore.{AreFew}
use Rattle.mz_mmu.proofs.TextSteps.{statements_read_more, statements_asked_more, numbers_more, few_more, few_first, text_stops}
use Rattle.mz_mmu.proofs.text.read_all.Goals as goal

pub loop-left-init : goal.loop-left-init
loop-left-init c =
    let all = c.args.nodes.now in
    let gaps = gaps_of c.args.names.now.mode in
    let start = stands_from all c.roots-left.result all c.roots-left.ensures in
    let none = ap length c.requires.no_entries in
    let sizes = ap nodes_size start in
    record {
      there = stands_there all c.roots-left.result all c.roots-left.ensures;
      few = omega (arith, none, sizes, c.requires.few);
      counts = subst (λ x. AreFew x (length c.args.entries.now.items)) (sym c.requires.no_names) (few_first gaps (length c.args.entries.now.items));
      agrees = subst Agrees (sym c.requires.no_names) (agrees_first gaps);
      read = λ ss r. subst (λ xs. AreStatements (no_names gaps) all (map entry xs ++ ss)) (sym c.requires.no_entries)
          (subst (λ ns. AreStatements (no_names gaps) ns ss) (sym start) (subst (λ x. AreStatements x (nodes_from all c.roots-left.result) ss) c.requires.no_names r));
      roots = λ ks r. subst (λ xs. AreNumbers all all (map root xs ++ ks)) (sym c.requires.no_entries) (subst (λ ns. AreNumbers all ns ks) (sym start) r);
      asked = subst (λ k. Decides (statements_asked (suc k) (names c.args.names.now) (nodes_from all c.roots-left.result)) (statements_asked 1 (no_names gaps) all)) (sym none)
          (subst (λ x. Decides (statements_asked 1 x (nodes_from all c.roots-left.result)) (statements_asked 1 (no_names gaps) all)) (sym c.requires.no_names)
          (subst (λ ns. Decides (statements_asked 1 (no_names gaps) ns) (statements_asked 1 (no_names gaps) all)) start (decides-whole (statements_asked 1 (no_names gaps) all))));
    }

pub loop-left-preserved : goal.loop-left-preserved
loop-left-preserved c =
    let all = c.args.nodes.now in
    let gaps = gaps_of c.args.names.now.mode in
    let ns = names c.loop-left.names in
    let later = names c.put.new.names in
    let m = node_at all c.in-Some.n in
    let s = stated c.in-Ok.read.0 c.in-Ok.read.1 in
    let step = stepped all c.loop-left.left c.in-Some.n c.next-left.result c.in-Some.is c.next-left.ensures in
    let old = c.loop-left.entries.items in
    let sizes = ap nodes_size step in
    let size = node_size_positive m in
    let one = ap length c.in-Ok-put.ensures.listed ∙ length-push old (record { root = c.in-Some.n; is_local = c.in-Ok.read.0; declared = c.in-Ok.read.1 }) in
    let entries = ap (map entry) c.in-Ok-put.ensures.listed ∙ map-append entry old (record { root = c.in-Some.n; is_local = c.in-Ok.read.0; declared = c.in-Ok.read.1 } ∷ []) in
    let roots = ap (map root) c.in-Ok-put.ensures.listed ∙ map-append root old (record { root = c.in-Some.n; is_local = c.in-Ok.read.0; declared = c.in-Ok.read.1 } ∷ []) in
    let within = subst (IsThere all) c.in-Some.is c.loop-left.invariant.there in
    record {
      there = stands_there all c.next-left.result (nodes_after all c.in-Some.n) c.next-left.ensures;
      few = omega (arith, sizes, size, one, c.loop-left.invariant.few);
      counts = few_more ns later s.name s.decl (length old) (length c.put.new.entries.items) c.in-Ok-put.ensures.named one c.loop-left.invariant.counts;
      agrees = agrees_more ns later s.name s.decl c.in-Ok-put.ensures.named c.loop-left.invariant.agrees;
      read = statements_read_more ns later (nodes_from all c.loop-left.left) (nodes_from all c.next-left.result) m step s c.in-Ok.ensures.read c.in-Ok-put.ensures.named
          (AreStatements (no_names gaps) all) (map entry old) (map entry c.put.new.entries.items) entries c.loop-left.invariant.read;
      roots = numbers_more all (nodes_from all c.loop-left.left) (nodes_from all c.next-left.result) c.in-Some.n step within (AreNumbers all all) (map root old) (map root c.put.new.entries.items) roots c.loop-left.invariant.roots;
      asked = subst (λ k. Decides (statements_asked (suc k) later (nodes_from all c.next-left.result)) (statements_asked 1 (no_names gaps) all)) (sym one)
          (statements_asked_more ns later (nodes_from all c.loop-left.left) (nodes_from all c.next-left.result) m step s c.in-Ok.ensures.read c.in-Ok-put.ensures.named (suc (length old)) (statements_asked 1 (no_names gaps) all) c.loop-left.invariant.asked);
    }

pub loop-left-smaller : goal.loop-left-smaller
loop-left-smaller c =
    let all = c.args.nodes.now in
    let sizes = ap nodes_size (stepped all c.loop-left.left c.in-Some.n c.next-left.result c.in-Some.is c.next-left.ensures) in
    let size = node_size_positive (node_at all c.in-Some.n) in
    omega (arith, sizes, size)

pub returns-in-Err-clause-stops : goal.returns-in-Err-clause-stops
returns-in-Err-clause-stops c =
    let all = c.args.nodes.now in
    let gaps = gaps_of c.args.names.now.mode in
    let number : c.len.result + 1 ≡ suc (length c.loop-left.entries.items) = omega (arith, c.len.ensures, c.loop-left.entries.ok.0) in
    text_stops (names c.loop-left.names) (nodes_from all c.loop-left.left) (nodes_after all c.in-Some.n) (node_at all c.in-Some.n) (suc (length c.loop-left.entries.items)) (c.len.result + 1)
    (statements_asked 1 (no_names gaps) all) c.in-Err.stop c.in_statement.result number c.in_statement.ensures (ap (nodes_from all) c.in-Some.is) c.loop-left.invariant.asked c.in-Err.ensures.stops

pub put-requires-clause-name : goal.put-requires-clause-name
put-requires-clause-name c =
    ((statement_says (names c.loop-left.names) (node_at c.args.nodes.now c.in-Some.n) (stated c.in-Ok.read.0 c.in-Ok.read.1) c.in-Ok.ensures.read).2 c.loop-left.invariant.agrees).0

pub put-requires-clause-unused : goal.put-requires-clause-unused
put-requires-clause-unused c =
    ((statement_says (names c.loop-left.names) (node_at c.args.nodes.now c.in-Some.n) (stated c.in-Ok.read.0 c.in-Ok.read.1) c.in-Ok.ensures.read).2 c.loop-left.invariant.agrees).1

pub returns-clause-read : goal.returns-clause-read
returns-clause-read c =
    let all = c.args.nodes.now in
    let gaps = gaps_of c.args.names.now.mode in
    let empty = sym (ap (nodes_from all) c.in_default.is) in
    record {
      read = subst (AreStatements (no_names gaps) all) (append-nil (map entry c.loop-left.entries.items)) (c.loop-left.invariant.read [] (subst (λ l. AreStatements (names c.loop-left.names) l []) empty refl));
      roots = subst (AreNumbers all all) (append-nil (map root c.loop-left.entries.items)) (c.loop-left.invariant.roots [] (subst (λ l. AreNumbers all l []) empty refl));
      few = omega (arith, c.loop-left.invariant.few);
    }

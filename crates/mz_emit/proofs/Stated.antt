-- What each statement has that nodes are, beside what makes it whole.
use Rattle.std.proofs.Common.{ℕ, ◌<◌, ◌≤◌, Bool, true, false, List, ◌+◌, All, sym, subst, arith}
use Rattle.std.proofs.lemmas.List.Elements.{All-nil, All-cons}
use Rattle.mz_sexpr.specs.Node.{Node, Nodes, atom, list, no_nodes, node}
use Rattle.mz_mmu_theory.specs.Name.{Names, names_with}
use Rattle.mz_mmu_theory.specs.Statements.{Statement, kind_of, is_local_word, Modifiers, bit, modifier_bits, IsDeclared, IsLocal, IsMarked, IsStatement, AreStatements}
use Rattle.mz_mmu_theory.specs.declared.kind.Kind.{Kind}
use Rattle.mz_mmu_theory.specs.declared.kind.Kind.TheVariants.{Sort as sort_kind, Term as term_kind, Axiom as axiom_kind, Def as def_kind, Theorem as theorem_kind}
use Rattle.mz_emit.specs.Emitting.{IsStated}

at_most : (b : Bool) (n : ℕ) → bit b n ≤ n
at_most true n = omega arith
at_most false n = omega arith

four_bits : (a b c d : Bool) → bit a 1 + bit b 2 + bit c 4 + bit d 8 < 16
four_bits a b c d = omega (arith, at_most a 1, at_most b 2, at_most c 4, at_most d 8)

few_bits : (m : Modifiers) → modifier_bits m < 16
few_bits m = four_bits m.is_pure m.is_strict m.is_provable m.is_free

declared_stated : (names : Names) (k : Kind) (ns : Nodes) (s : Statement) → IsDeclared names k ns s → IsStated s.decl
declared_stated names sort_kind (node x ms) s (m, n, r, e, i, j) = subst IsStated (sym e) (few_bits m)
declared_stated names term_kind (node x (node ps (node r no_nodes))) s (params, vars, result, n, p, q, e, i, j) = subst IsStated (sym e) tt
declared_stated names axiom_kind (node x (node ps (node hs (node c no_nodes)))) s (params, vars, hyps, conclusion, n, p, q, r, e, i, j) = subst IsStated (sym e) tt
declared_stated names def_kind (node x (node ps (node r (node ds (node b no_nodes))))) s (params, vars, result, dummies, all, body, n, p, q, d, f, e, i, j) =
    subst IsStated (sym e) tt
declared_stated names theorem_kind (node x (node ps (node hs (node c (node ds (node q no_nodes)))))) s (params, vars, hyps, labels, conclusion, all, proof, n, p, h, f, d, r, e, j) =
    subst IsStated (sym e) tt
declared_stated names _ _ s h = absurd h

local_stated : (names : Names) (k : Kind) (ns : Nodes) (s : Statement) → IsLocal names k ns s → IsStated s.decl
local_stated names def_kind ns s h = declared_stated names def_kind ns s h
local_stated names theorem_kind ns s h = declared_stated names theorem_kind ns s h
local_stated names _ ns s h = absurd h

marked_stated : (b : Bool) (names : Names) (k : Node) (ns : Nodes) (s : Statement) → IsMarked b names k ns s → IsStated s.decl
marked_stated false names k ns s (unset, h) = declared_stated names (kind_of k) ns s h
marked_stated true names k no_nodes s h = absurd h
marked_stated true names k (node l ns) s (is, h) = local_stated names (kind_of l) ns s h

statement_stated : (names : Names) (n : Node) (s : Statement) → IsStatement names n s → IsStated s.decl
statement_stated names (list at (node k ns)) s h = marked_stated (is_local_word k) names k ns s h
statement_stated names _ s h = absurd h

-- each statement of a text
pub all_stated : (names : Names) (ns : Nodes) (ss : List Statement) → AreStatements names ns ss → All (λ s. IsStated s.decl) ss
all_stated names no_nodes ss h = subst (All (λ s. IsStated s.decl)) (sym h) (All-nil (λ s. IsStated s.decl))
all_stated names (node n ns) ss (s, rest, h, hs, is) =
    subst (All (λ (t : Statement). IsStated t.decl)) (sym is)
    (All-cons (λ t. IsStated t.decl) s rest (statement_stated names n s h) (all_stated (names_with names s.name s.decl) ns rest hs))

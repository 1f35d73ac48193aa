-- The names of a text's statements: each is an identifier, and new in its space.
use Rattle.std.proofs.Common.{◌≤◌, ◌<◌, ℕ, List, [], ◌∷◌, Bool, true, false, sym, subst, arith}
use Rattle.std.specs.Prelude.{⊤}
use Rattle.mz_logic_theory.specs.Declaration.{Declaration, sort_decl, term_decl, assertion_decl}
use Rattle.mz_sexpr.specs.Node.{Node, Nodes, atom, list, no_nodes, node}
use Rattle.mz_base.specs.Names.{IsNew}
use Rattle.mz_mmu_theory.specs.Name.{Names, IsName, names_with}
use Rattle.mz_mmu_theory.proofs.Offered.{new_name_is}
use Rattle.mz_mmu_theory.specs.Statements.{Statement, kind_of, is_local_word, Modifiers, bit, modifier_bits, IsDeclared, IsLocal, IsMarked, IsStatement, AreStatements}
use Rattle.mz_mmu_theory.specs.declared.kind.Kind.{Kind}
use Rattle.mz_mmu_theory.specs.declared.kind.Kind.TheVariants.{Sort as sort_kind, Term as term_kind, Axiom as axiom_kind, Def as def_kind, Theorem as theorem_kind}

-- ---- what each statement has

-- new in its space; and a sort's modifiers are four bits
abbrev pub IsNewIn : Names → List ℕ → Declaration → Type 0
IsNewIn names w (sort_decl m) = IsNew names.sorts w × (m.0 < 16)
IsNewIn names w (term_decl d) = IsNew names.terms w
IsNewIn names w (assertion_decl a) = IsNew names.assertions w

abbrev pub IsTitled : Names → List ℕ → Declaration → Type 0
IsTitled names w d = IsName w × IsNewIn names w d

-- each after those before it
abbrev pub AreTitled : Names → List Statement → Type 0
AreTitled names [] = ⊤
AreTitled names (s ∷ ss) = IsTitled names s.name s.decl × AreTitled (names_with names s.name s.decl) ss

at_most : (b : Bool) (n : ℕ) → bit b n ≤ n
at_most true n = omega arith
at_most false n = omega arith

few-bits : (m : Modifiers) → modifier_bits m < 16
few-bits m = omega (arith, at_most m.is_pure 1, at_most m.is_strict 2, at_most m.is_provable 4, at_most m.is_free 8)

declared-titled : (names : Names) (k : Kind) (ns : Nodes) (s : Statement) → IsDeclared names k ns s → IsTitled names s.name s.decl
declared-titled names sort_kind (node x ms) s (m, n, r, e, i, j) =
    let (name, new) = new_name_is names.sorts x s.name n in subst (IsTitled names s.name) (sym e) (name, (new, few-bits m))
declared-titled names term_kind (node x (node ps (node r no_nodes))) s (params, vars, result, n, p, q, e, i, j) =
    subst (IsTitled names s.name) (sym e) (new_name_is names.terms x s.name n)
declared-titled names axiom_kind (node x (node ps (node hs (node c no_nodes)))) s (params, vars, hyps, conclusion, n, p, q, r, e, i, j) =
    subst (IsTitled names s.name) (sym e) (new_name_is names.assertions x s.name n)
declared-titled names def_kind (node x (node ps (node r (node ds (node b no_nodes))))) s (params, vars, result, dummies, all, body, n, p, q, d, f, e, i, j) =
    subst (IsTitled names s.name) (sym e) (new_name_is names.terms x s.name n)
declared-titled names theorem_kind (node x (node ps (node hs (node c (node ds (node q no_nodes)))))) s (params, vars, hyps, labels, conclusion, all, proof, n, p, h, f, d, r, e, j) =
    subst (IsTitled names s.name) (sym e) (new_name_is names.assertions x s.name n)
declared-titled names _ _ s h = absurd h

local-titled : (names : Names) (k : Kind) (ns : Nodes) (s : Statement) → IsLocal names k ns s → IsTitled names s.name s.decl
local-titled names def_kind ns s h = declared-titled names def_kind ns s h
local-titled names theorem_kind ns s h = declared-titled names theorem_kind ns s h
local-titled names _ ns s h = absurd h

marked-titled : (b : Bool) (names : Names) (k : Node) (ns : Nodes) (s : Statement) → IsMarked b names k ns s → IsTitled names s.name s.decl
marked-titled false names k ns s (unset, h) = declared-titled names (kind_of k) ns s h
marked-titled true names k no_nodes s h = absurd h
marked-titled true names k (node l ns) s (is, h) = local-titled names (kind_of l) ns s h

statement-titled : (names : Names) (n : Node) (s : Statement) → IsStatement names n s → IsTitled names s.name s.decl
statement-titled names (list at (node k ns)) s h = marked-titled (is_local_word k) names k ns s h
statement-titled names _ s h = absurd h

pub all-titled : (names : Names) (ns : Nodes) (ss : List Statement) → AreStatements names ns ss → AreTitled names ss
all-titled names no_nodes ss h = subst (AreTitled names) (sym h) tt
all-titled names (node n ns) ss (s, rest, h, hs, is) =
    subst (AreTitled names) (sym is) (statement-titled names n s h, all-titled (names_with names s.name s.decl) ns rest hs)

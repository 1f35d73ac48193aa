-- Each file is listed with exactly one text.
use Rattle.std.proofs.Common.{◌≡◌, ◌≤◌, ◌+◌, ◌++◌, ℕ, zero, suc, List, [], ◌∷◌, length, codes, refl, sym, ap, ◌∙◌, subst, arith, inl, inr, append_assoc}
use Rattle.mz_base.specs.Checks.{AllHold}
use Rattle.mz_base.proofs.Offered.{all_hold-excludes, all_hold-or_fails, fails_first-unique}
use Rattle.mz_cmd.specs.declared.rule.K.{K}
use Rattle.mz_cmd.specs.declared.rule.Refusal.{Refusal}
use Rattle.mz_cmd.specs.Codes.{statement_byte}
use Rattle.mz_layout_tables.specs.Layout.{Layout, layout_checks}
use Rattle.mz_layout_tables.proofs.Offered.{head-ahead, layout-decided}
use Rattle.mz_show.specs.declared.place.Place.{Place}
use Rattle.mz_show.specs.Statements.{Statement, Stands, first_place, after, statement_checks, statement_text}
use Rattle.mz_show.specs.Listing.{Chain, chain_text, EndsAt, StopsAt, IsListing, IsListedUpTo, IsListed}
use Rattle.mz_show.proofs.Statements.{Outcome, Good, head-there, outcome, stands-unique, good-excludes_end, good-excludes_stop, end-excludes_stop, stop-unique}

-- ---- the statements from a place on

-- what is listed from a place on
abbrev pub Rest : List ℕ → Place → Type 0
Rest file place = (ss : List Statement) × (to : Place) × Chain file place ss to × Outcome file to

further : (file : List ℕ) (place : Place) (good : Good file place) → Rest file (after place good.0) → Rest file place
further file place good rest = (good.0 ∷ rest.0, rest.1, (good.1, good.2, rest.2), rest.3)

abbrev moves : (file : List ℕ) (place : Place) → (good : Good file place) → (place.at + 2 ≤ (after place good.0).at) × ((after place good.0).at ≤ length file)
moves file place good =
    let h = head-ahead file place.at (statement_byte good.0.head.code) good.0.head.body good.0.head.next (head-there file place good.0.head good.1.head) in
    (omega (arith, h.body_after, h.next_after), h.within)

pub rest-some : (file : List ℕ) (fuel : ℕ) (place : Place) → length file ≤ place.at + fuel → Rest file place
rest-some file zero place enough = elim (outcome file place) [
  | inl good ↦ (let m = moves file place good in absurd (omega arith))
  | inr done ↦ ([], place, refl, done)
]
rest-some file (suc fuel) place enough = elim (outcome file place) [
  | inl good ↦ (let m = moves file place good in further file place good (rest-some file fuel (after place good.0) (omega arith)))
  | inr done ↦ ([], place, refl, done)
]

good-excludes : (file : List ℕ) (place : Place) → Good file place → Outcome file place → ⊥
good-excludes file place good (inl ends) = good-excludes_end file place good ends
good-excludes file place good (inr stop) = good-excludes_stop file place stop.0 good stop.1

-- two lists of statements from a place are one, where both are followed by none
pub chain-unique : (file : List ℕ) (from : Place) (ss ts : List Statement) (to end : Place) → Chain file from ss to → Chain file from ts end →
    Outcome file to → Outcome file end → (ss ≡ ts) × (to ≡ end)
chain-unique file from [] [] to end c d o p = (refl, c ∙ sym d)
chain-unique file from [] (t ∷ ts) to end c d o p =
    absurd (good-excludes file from (t, d.0, d.1) (subst (λ (q : Place). Outcome file q) c o))
chain-unique file from (s ∷ ss) [] to end c d o p =
    absurd (good-excludes file from (s, c.0, c.1) (subst (λ (q : Place). Outcome file q) d p))
chain-unique file from (s ∷ ss) (t ∷ ts) to end c d o p =
    let same : s ≡ t = stands-unique file from s t c.0 d.0 in
    let rest = chain-unique file (after from s) ss ts to end c.2 (subst (λ (x : Statement). Chain file (after from x) ts end) (sym same) d.2) o p in
    (let tails : ss ≡ ts = rest.0 in let e : s ∷ ss ≡ t ∷ ts = cc in e, rest.1)

-- one more statement
pub chain-snoc : (file : List ℕ) (from : Place) (ss : List Statement) (to : Place) (s : Statement) → Chain file from ss to → Stands file to s →
    AllHold (statement_checks file to s) → Chain file from (ss ++ s ∷ []) (after to s)
chain-snoc file from [] to s c stands all =
    (subst (λ (q : Place). Stands file q s) c stands, subst (λ (q : Place). AllHold (statement_checks file q s)) c all, ap (λ (q : Place). after q s) c)
chain-snoc file from (t ∷ ss) to s c stands all = (c.0, c.1, chain-snoc file (after from t) ss to s c.2 stands all)

pub chain-append : (file : List ℕ) (from : Place) (ss : List Statement) (to : Place) (ts : List Statement) (end : Place) → Chain file from ss to → Chain file to ts end →
    Chain file from (ss ++ ts) end
chain-append file from [] to ts end c d = subst (λ (q : Place). Chain file q ts end) c d
chain-append file from (s ∷ ss) to ts end c d = (c.0, c.1, chain-append file (after from s) ss to ts end c.2 d)

pub text-append : (file : List ℕ) (from : Place) (ss : List Statement) (to : Place) (ts : List Statement) → Chain file from ss to →
    chain_text file from (ss ++ ts) ≡ chain_text file from ss ++ chain_text file to ts
text-append file from [] to ts c = ap (λ (q : Place). chain_text file q ts) (sym c)
text-append file from (s ∷ ss) to ts c =
    ap (λ rest. statement_text file from s ++ rest) (text-append file (after from s) ss to ts c.2)
    ∙ sym (append_assoc (statement_text file from s) (chain_text file (after from s) ss) (chain_text file to ts))

-- ---- the whole

pub listed-some : (file : List ℕ) → (text : List ℕ) × IsListed file text
listed-some file = elim (all_hold-or_fails (layout_checks file) (layout-decided file)) [
  | inl layout ↦ by-rest layout (rest-some file (length file) (first_place file) (omega arith))
  | inr fails ↦ ([], inr (record { statement = 0; at = fails.0.0; rule = fails.0.1 }, inl (record { number = refl; fails = fails.1; text_is = refl })))
]
  where
    by-rest : Layout file → Rest file (first_place file) → (text : List ℕ) × IsListed file text
    by-rest layout (ss, to, chain, inl ends) =
        (chain_text file (first_place file) ss ++ codes "end\n", inl (record { layout = layout; statements = ss; last = to; chain = chain; ends = ends; text_is = refl }))
    by-rest layout (ss, to, chain, inr stop) =
        (chain_text file (first_place file) ss, inr (stop.0, inr (record { layout = layout; statements = ss; last = to; chain = chain; stops = stop.1; text_is = refl })))

equal : (make : ℕ → ℕ → K → Refusal) (m n at at' : ℕ) (rule rule' : K) → m ≡ n → at ≡ at' → rule ≡ rule' → make m at rule ≡ make n at' rule'
equal make m n at at' rule rule' e f g = cc

same-refusal : (r q : Refusal) → r.statement ≡ 0 → q.statement ≡ 0 → ◌≡◌ {A = ℕ × K} (r.at, r.rule) (q.at, q.rule) → r ≡ q
same-refusal r q e f pair =
    let places : r.at ≡ q.at = ap (λ (p : ℕ × K). p.0) pair in
    let rules : r.rule ≡ q.rule = ap (λ (p : ℕ × K). p.1) pair in
    equal (λ m at rule. record { statement = m; at = at; rule = rule }) r.statement q.statement r.at q.at r.rule q.rule (e ∙ sym f) places rules

pub listing-excludes : (file text other : List ℕ) (refusal : Refusal) → IsListing file text → IsListedUpTo file other refusal → ⊥
listing-excludes file text other refusal l (inl none) = all_hold-excludes (layout_checks file) (refusal.at, refusal.rule) l.layout none.fails
listing-excludes file text other refusal l (inr s) =
    let same = chain-unique file (first_place file) l.statements s.statements l.last s.last l.chain s.chain (inl l.ends) (inr (refusal, s.stops)) in
    end-excludes_stop file s.last refusal (subst (λ (q : Place). EndsAt file q) same.1 l.ends) s.stops

pub refusal-unique : (file text other : List ℕ) (refusal second : Refusal) → IsListedUpTo file text refusal → IsListedUpTo file other second → refusal ≡ second
refusal-unique file text other r q (inl a) (inl b) =
    same-refusal r q a.number b.number (fails_first-unique (layout_checks file) (r.at, r.rule) (q.at, q.rule) a.fails b.fails)
refusal-unique file text other r q (inl a) (inr b) = absurd (all_hold-excludes (layout_checks file) (r.at, r.rule) b.layout a.fails)
refusal-unique file text other r q (inr a) (inl b) = absurd (all_hold-excludes (layout_checks file) (q.at, q.rule) a.layout b.fails)
refusal-unique file text other r q (inr a) (inr b) =
    let same = chain-unique file (first_place file) a.statements b.statements a.last b.last a.chain b.chain (inr (r, a.stops)) (inr (q, b.stops)) in
    stop-unique file b.last r q (subst (λ (p : Place). StopsAt file p r) same.1 a.stops) b.stops

texts-of : (file text other end : List ℕ) (ss ts : List Statement) → ss ≡ ts → text ≡ chain_text file (first_place file) ss ++ end →
    other ≡ chain_text file (first_place file) ts ++ end → text ≡ other
texts-of file text other end ss ts same e f = e ∙ ap (λ (l : List Statement). chain_text file (first_place file) l ++ end) same ∙ sym f

pub text-unique : (file text other : List ℕ) → IsListed file text → IsListed file other → text ≡ other
text-unique file text other (inl a) (inl b) =
    let same = chain-unique file (first_place file) a.statements b.statements a.last b.last a.chain b.chain (inl a.ends) (inl b.ends) in
    texts-of file text other (codes "end\n") a.statements b.statements same.0 a.text_is b.text_is
text-unique file text other (inl a) (inr b) = absurd (listing-excludes file text other b.0 a b.1)
text-unique file text other (inr a) (inl b) = absurd (listing-excludes file other text a.0 b a.1)
text-unique file text other (inr (r, inl a)) (inr (q, inl b)) = a.text_is ∙ sym b.text_is
text-unique file text other (inr (r, inl a)) (inr (q, inr b)) = absurd (all_hold-excludes (layout_checks file) (r.at, r.rule) b.layout a.fails)
text-unique file text other (inr (r, inr a)) (inr (q, inl b)) = absurd (all_hold-excludes (layout_checks file) (q.at, q.rule) a.layout b.fails)
text-unique file text other (inr (r, inr a)) (inr (q, inr b)) =
    let same = chain-unique file (first_place file) a.statements b.statements a.last b.last a.chain b.chain (inr (r, a.stops)) (inr (q, b.stops)) in
    a.text_is ∙ ap (λ (l : List Statement). chain_text file (first_place file) l) same.0 ∙ sym b.text_is

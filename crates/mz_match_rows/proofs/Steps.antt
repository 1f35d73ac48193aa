-- Commands take bytes, and what follows of places.
use Rattle.std.proofs.Common.{◌≡◌, ◌≤◌, ◌<◌, ◌+◌, ◌-◌, ℕ, zero, suc, Bool, true, false, List, length, drop, Result, Ok, Err, Option, Some, None, refl, ap, sym, ◌∙◌, subst, arith, length-drop}
use Rattle.mz_cmd.specs.declared.command.Cmd.{Cmd}
use Rattle.mz_cmd.specs.declared.command.CmdFault.{CmdFault}
use Rattle.mz_cmd.specs.declared.code.UnifyCode.{UnifyCode}
use Rattle.mz_cmd.specs.declared.code.UnifyCode.TheVariants as codes
use Rattle.mz_cmd.specs.Codes.{unify_code}
use Rattle.mz_cmd.specs.Reading.{command_at}
use Rattle.mz_machine_theory.proofs.Offered.{command-long}
use Rattle.mz_match_rows.specs.declared.stream.Step.{Step}
use Rattle.mz_match_rows.specs.declared.stream.Cursor.{Cursor}
use Rattle.mz_match_rows.specs.Streams.{step_of, step_by, step_at, makes_mark, dummies_in, mark_by, mark_here, mark_from, Passes, Says}

-- a command takes a byte or more, all of them there
pub command-takes : (bytes : List ℕ) (at : ℕ) (c : Cmd) → command_at bytes at ≡ Ok c → (1 ≤ c.len) × (c.len ≤ length bytes - at)
command-takes bytes at c e =
    let t = command-long (drop at bytes) c e in
    (t.0, subst (λ (n : ℕ). c.len ≤ n) (length-drop at bytes) t.1)

pub step-takes : (file : List ℕ) (at : ℕ) (s : Step) → step_at file at ≡ Some s → (at < s.next) × (s.next ≤ length file)
step-takes file at s e = go (command_at file at) refl e
  where
    by : (c : Cmd) (o : Option UnifyCode) → command_at file at ≡ Ok c → step_of at c o ≡ Some s → (at < s.next) × (s.next ≤ length file)
    by c None stands is = absurd cc
    by c (Some k) stands is =
        let taken = command-takes file at c stands in
        let next : at + c.len ≡ s.next = cc in
        (omega (arith, taken.0, next), omega (arith, taken.0, taken.1, next))

    go : (r : Result Cmd CmdFault) → command_at file at ≡ r → step_by at r ≡ Some s → (at < s.next) × (s.next ≤ length file)
    go (Err f) stands is = absurd cc
    go (Ok c) stands is = by c (unify_code c.code) stands is

-- a dummy's command takes more bytes than it counts
pub dummies-fewer : (k : UnifyCode) → dummies_in k ≤ 1
dummies-fewer codes.Term = omega arith
dummies-fewer codes.TermSave = omega arith
dummies-fewer codes.Ref = omega arith
dummies-fewer codes.Dummy = omega arith
dummies-fewer codes.Hyp = omega arith

-- ---- what stands at a place

pub says-is : (file : List ℕ) (at : ℕ) (k : UnifyCode) (v next : ℕ) (s : Step) → step_at file at ≡ Some s → Says file at k v next → s ≡ record { code = k; value = v; next = next }
says-is file at k v next s stands says = let both : Some s ≡ Some (record { code = k; value = v; next = next }) = sym stands ∙ says in cc

pub says-next : (file : List ℕ) (at : ℕ) (k : UnifyCode) (v next : ℕ) (s : Step) → step_at file at ≡ Some s → Says file at k v next → s.next ≡ next
says-next file at k v next s stands says = ap (λ (t : Step). t.next) (says-is file at k v next s stands says)

pub says-no : (file : List ℕ) (at : ℕ) (k : UnifyCode) (v next : ℕ) → step_at file at ≡ None → Says file at k v next → ⊥
says-no file at k v next ends says = let both : None ≡ Some (record { code = k; value = v; next = next }) = sym ends ∙ says in absurd cc

pub ends-no : (file : List ℕ) (at : ℕ) (s : Step) → step_at file at ≡ Some s → step_at file at ≡ None → ⊥
ends-no file at s stands ends = let both : Some s ≡ None = sym stands ∙ ends in absurd cc

-- ---- marks

-- none is made at the last END
pub no-mark-at-end : (file : List ℕ) (n at d j : ℕ) (place : Cursor) → step_at file at ≡ None → mark_from file n at d j ≡ Some place → ⊥
no-mark-at-end file zero at d j place ends is = absurd cc
no-mark-at-end file (suc n) at d j place ends is = let none : mark_here (mark_from file n) at d j None ≡ Some place = subst (λ o. mark_here (mark_from file n) at d j o ≡ Some place) ends is in absurd cc

mark-at : (file : List ℕ) (n at d j : ℕ) (s : Step) (b : Bool) (place : Cursor) → step_at file at ≡ Some s → makes_mark s.code ≡ b
    → mark_from file (suc n) at d j ≡ Some place → mark_by (mark_from file n s.next (d + dummies_in s.code)) at d b j ≡ Some place
mark-at file n at d j s b place stands makes is =
    subst (λ c. mark_by (mark_from file n s.next (d + dummies_in s.code)) at d c j ≡ Some place) makes
    (subst (λ o. mark_here (mark_from file n) at d j o ≡ Some place) stands is)

-- the first of the marks is made here
pub mark-first : (file : List ℕ) (n at d : ℕ) (s : Step) (place : Cursor) → step_at file at ≡ Some s → makes_mark s.code ≡ true
    → mark_from file n at d 0 ≡ Some place → Some (record { at = at; dummies = d }) ≡ Some place
mark-first file zero at d s place stands makes is = absurd cc
mark-first file (suc n) at d s place stands makes is = mark-at file n at d 0 s true place stands makes is

-- another is made further on
pub mark-next : (file : List ℕ) (n at d j : ℕ) (s : Step) (place : Cursor) → step_at file at ≡ Some s → makes_mark s.code ≡ true
    → mark_from file n at d (suc j) ≡ Some place → (m : ℕ) × (mark_from file m s.next (d + dummies_in s.code) j ≡ Some place)
mark-next file zero at d j s place stands makes is = absurd cc
mark-next file (suc n) at d j s place stands makes is = (n, mark-at file n at d (suc j) s true place stands makes is)

pub mark-past : (file : List ℕ) (n at d j : ℕ) (s : Step) (place : Cursor) → step_at file at ≡ Some s → makes_mark s.code ≡ false
    → mark_from file n at d j ≡ Some place → (m : ℕ) × (mark_from file m s.next (d + dummies_in s.code) j ≡ Some place)
mark-past file zero at d j s place stands makes is = absurd cc
mark-past file (suc n) at d j s place stands makes is = (n, mark-at file n at d j s false place stands makes is)

-- ---- hypotheses

-- from a place at which no hypothesis stands, and which isn't passed already, it goes on behind it
pub passes-on : (file : List ℕ) (n at to : ℕ) (s : Step) → step_at file at ≡ Some s → Passes file n at to → (to ≡ at → ⊥) → (m : ℕ) × Passes file m s.next to
passes-on file zero at to s stands here other = absurd (other here)
passes-on file (suc n) at to s stands (t, at-t, no-hyp, rest) other =
    let same : t ≡ s = cc in
    (n, subst (λ (u : Step). Passes file n u.next to) same rest)

-- at a hypothesis none is passed
pub passes-stay : (file : List ℕ) (n at to : ℕ) (s : Step) → step_at file at ≡ Some s → s.code ≡ codes.Hyp → Passes file n at to → to ≡ at
passes-stay file zero at to s stands is here = here
passes-stay file (suc n) at to s stands is (t, at-t, no-hyp, rest) = let same : t ≡ s = cc in absurd (no-hyp (ap (λ (u : Step). u.code) same ∙ is))

pub passes-end : (file : List ℕ) (n at to : ℕ) → step_at file at ≡ None → Passes file n at to → to ≡ at
passes-end file zero at to ends here = here
passes-end file (suc n) at to ends (t, at-t, no-hyp, rest) = absurd cc

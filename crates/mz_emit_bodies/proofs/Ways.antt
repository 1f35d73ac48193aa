-- Ways outwards, put together.
use Rattle.std.specs.Prelude.{ℕ, ◌≡◌, ◌≤◌, ◌<◌, List, length, Option, Some, None}
use Rattle.std.proofs.Common.{zero, suc, arith, subst, sym, refl}
use Rattle.mz_emit_bodies.specs.Sight.{Link, link_at, InSight, here, out, IsRightAt, AreRight}

pub way_on : (ls : List Link) (c k j i d : ℕ) → InSight ls c k j → InSight ls j i d → InSight ls c i d
way_on ls c k j i d (here c0 k0 e) w = w
way_on ls c k j i d (out c0 o k0 d0 e v) w = out c o i d e (way_on ls o k j i d v w)

right_jump : (ls : List Link) (c n : ℕ) (o : Option ℕ) → IsRightAt ls c o → n < (link_at ls c).depth
    → InSight ls c (link_at ls (link_at ls c).jump).depth (link_at ls c).jump
right_jump ls c n None r h = absurd (omega (arith, r.0, h))
right_jump ls c n (Some o) r h = r.3

pub jump_way : (ls : List Link) (c n j d : ℕ) → AreRight ls → c < length ls → n < (link_at ls c).depth → j ≡ (link_at ls c).jump
    → InSight ls j n d → InSight ls c n d
jump_way ls c n j d right there h e w = way_on ls c _ _ n d (right_jump ls c n (link_at ls c).outer (right c there) h)
    (subst (λ x. InSight ls x n d) e w)

pub outer_way : (ls : List Link) (c n o d : ℕ) → (link_at ls c).outer ≡ Some o → InSight ls o n d → InSight ls c n d
outer_way ls c n o d e w = out c o n d e w

jump_by : (ls : List Link) (c : ℕ) (o : Option ℕ) → IsRightAt ls c o → InSight ls c (link_at ls (link_at ls c).jump).depth (link_at ls c).jump
jump_by ls c None r = subst (λ j. InSight ls c (link_at ls j).depth j) (sym r.1) (here c _ refl)
jump_by ls c (Some o) r = r.3

jump_near : (ls : List Link) (c : ℕ) (o : Option ℕ) → IsRightAt ls c o → (link_at ls c).jump ≤ c
jump_near ls c None r = omega (arith, r.1)
jump_near ls c (Some o) r = omega (arith, r.2)

pub jump_sight : (ls : List Link) (c : ℕ) → AreRight ls → c < length ls → InSight ls c (link_at ls (link_at ls c).jump).depth (link_at ls c).jump
jump_sight ls c right lt = jump_by ls c _ (right c lt)

pub two_jumps : (ls : List Link) (c i j : ℕ) → AreRight ls → c < length ls → i ≡ (link_at ls c).jump → j ≡ (link_at ls i).jump → InSight ls c (link_at ls j).depth j
two_jumps ls c i j right lt i-is j-is =
    let near = jump_near ls c _ (right c lt) in
    let first : InSight ls c (link_at ls i).depth i = subst (λ z. InSight ls c (link_at ls z).depth z) (sym i-is) (jump_sight ls c right lt) in
    let second : InSight ls i (link_at ls j).depth j = subst (λ z. InSight ls i (link_at ls z).depth z) (sym j-is) (jump_sight ls i right (omega (arith, i-is, near, lt))) in
    way_on ls c (link_at ls i).depth i (link_at ls j).depth j first second

-- ---- how deep a cell is

depth_by : (ls : List Link) (c : ℕ) (o : Option ℕ) → IsRightAt ls c o → ((b : ℕ) → b < c → (link_at ls b).depth ≤ b) → (link_at ls c).depth ≤ c
depth_by ls c None r low = omega (arith, r.0)
depth_by ls c (Some o) r low = (let l = low o r.0 in omega (arith, r.0, r.1, l))

depth_within : (ls : List Link) → AreRight ls → (n c : ℕ) → c < n → c < length ls → (link_at ls c).depth ≤ c
depth_within ls right zero c lt there = absurd (omega (arith, lt))
depth_within ls right (suc n) c lt there = depth_by ls c (link_at ls c).outer (right c there) (λ b below. depth_within ls right n b (omega (arith, lt, below)) (omega (arith, there, below)))

-- at most as many lets are in sight of a cell's part as there are cells before it
pub depth_low : (ls : List Link) (c : ℕ) → AreRight ls → c < length ls → (link_at ls c).depth ≤ c
depth_low ls c right there = depth_within ls right (suc c) c (omega arith) there

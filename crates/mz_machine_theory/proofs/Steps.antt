-- What is counted of a body's commands.
use Rattle.std.proofs.Common.{◌≡◌, ◌≤◌, ◌+◌, ◌*◌, ℕ, arith}
use Rattle.std.proofs.Math.Nat.{add-mul, mul-le-mul_right}

-- a command that takes at least a byte counts at most so many steps more
pub more-steps : (first steps later at len size : ℕ) → steps ≤ first + at * (size + 1) → later ≤ steps + (1 + size) → 1 ≤ len → later ≤ first + (at + len) * (size + 1)
more-steps first steps later at len size most more one =
    let wide : (at + len) * (size + 1) ≡ at * (size + 1) + len * (size + 1) = add-mul at len (size + 1) in
    let once : 1 * (size + 1) ≤ len * (size + 1) = mul-le-mul_right (size + 1) one in
    omega (arith, wide, once, most, more)

pub within-steps : (first steps at whole size : ℕ) → steps ≤ first + at * (size + 1) → at ≤ whole → steps ≤ first + whole * (size + 1)
within-steps first steps at whole size most le = let all : at * (size + 1) ≤ whole * (size + 1) = mul-le-mul_right (size + 1) le in omega (arith, all, most)

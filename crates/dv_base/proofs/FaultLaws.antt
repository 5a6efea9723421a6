-- How a count of faults goes over several calls.
use Rattle.std.proofs.Common.{◌≡◌, ℕ, arith}
use Rattle.dv_base.specs.Faults.{Rose}

-- a count that rose after calls that counted nothing has risen
pub Rose-since : (before middle now : ℕ) → middle ≡ before → Rose middle now → Rose before now
Rose-since before middle now steady rose = omega (arith, steady, rose)

-- A ring in one value whose writes free by a plan.
use Rattle.std.specs.Prelude.{ℕ, List}

-- all bytes that were stored, how many of them are freed, how many bytes it is made for, at once
-- and in all, and the numbers by which its next writes free
pub record PlannedBytes : Type 0 where
  pub sent : List ℕ
  pub freed : ℕ
  pub size : ℕ
  pub limit : ℕ
  pub left : List ℕ

-- A ring in one value, for one thread.
use Rattle.std.specs.Prelude.{ℕ, ◌-◌, ◌<◌, ◌≤◌, List}

-- all bytes that were stored, how many of them are taken, and how many bytes it is made for: at
-- once, and in all
pub record PlainBytes : Type 0 where
  pub sent : List ℕ
  pub freed : ℕ
  pub size : ℕ
  pub limit : ℕ

-- of so many stored and taken bytes: no more is taken than is stored, what is left fits the ring,
-- and there is memory for all that may come
pub record FitsPlainRing (stored taken size limit capacity : ℕ) : Type 0 where
  pub taken_of_stored : taken ≤ stored
  pub some_size : 0 < size
  pub held : stored - taken ≤ size - 1
  pub within : stored ≤ limit
  pub reserved : limit ≤ capacity

-- all bytes that were sent, those that are taken, and how often there was none
pub record PlainCommands : Type 0 where
  pub asked : List ℕ
  pub answered : List ℕ
  pub empties : ℕ

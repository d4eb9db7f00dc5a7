-- Registered modules. Each has as many event identifiers as it registered, one module after the
-- other, from 512 on (UM08027, registered modules; SEGGER_SYSVIEW_RegisterModule).
use Rattle.std.specs.Prelude.{ℕ, ◌+◌, ◌≤◌, nat_lt, nat_le, ◌||◌, Bool, List, length, sum_by, All}
use Rattle.sv_prim.specs.Text.{AreBytes}

-- how many events a module may send, and what describes them
pub record ModuleRow : Type 0 where
  pub events : ℕ
  pub name : List ℕ

-- the first event identifier after these modules
abbrev pub offset_after : List ModuleRow → ℕ
offset_after modules = 512 + sum_by (λ row. row.events) modules

-- after these modules no room is left for a module of so many events: 64 stand, or its identifiers
-- would pass 16384
abbrev pub is_full_for : List ModuleRow → ℕ → Bool
is_full_for modules events =
    nat_le 64 (length modules) || nat_lt 16384 (offset_after modules + events)

-- these modules could be registered, one after the other, with names of 1 to 128 bytes
pub record AreRegistered (modules : List ModuleRow) : Type 0 where
  pub few : length modules ≤ 64
  pub within : offset_after modules ≤ 16384
  pub some : All (λ row. 1 ≤ length row.name) modules
  pub short : All (λ row. length row.name ≤ 128) modules
  pub bytes : All (λ row. AreBytes row.name) modules

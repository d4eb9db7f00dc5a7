-- The language of workloads: what a text says, or its first line that says nothing.
use Rattle.std.specs.Prelude.{◌≡◌, ℕ, ◌+◌, ◌<◌, take, slice_index_or, not, List, [], ◌∷◌}
use Rattle.std.specs.Prelude.{◌++◌, length, map, filter, Option, Some, None, option_map}
use Rattle.std.specs.Prelude.{if◌then◌else◌}
use Rattle.std.specs.Option.{option_or}
use Rattle.sv_workload.specs.declared.fault.LineFault.{LineFault}
use Rattle.sv_text.specs.Lines.{lines_of, is_remark}
use Rattle.sv_workload.specs.Line.{Line, line_from}
use Rattle.sv_load.specs.Load.{Load}
use Rattle.sv_workload.specs.Reason.{reason_of}
use Rattle.sv_workload.specs.Meaning.{workload_of}
use Rattle.sv_workload.specs.Checks.{fault_of}

-- all lines but the remarks
abbrev pub said : List (List ℕ) → List Line
said lines = map line_from (filter (λ line. not (is_remark line)) lines)

-- what is wrong with a line after these lines, if anything is
abbrev pub fault_at : List (List ℕ) → List ℕ → Option LineFault
fault_at before line = if is_remark line then None else fault_of (said before) (line_from line)

-- the first line with a fault among those that follow the lines before, by its number among all of
-- them
abbrev pub first_fault_after : List (List ℕ) → List (List ℕ) → Option (ℕ × LineFault)
first_fault_after before [] = None
first_fault_after before (line ∷ lines) = option_or
    (option_map (λ fault. (length before + 1, fault)) (fault_at before line))
    (first_fault_after (before ++ line ∷ []) lines)

-- the first line with a fault, counted from 1, and the fault
abbrev pub first_fault : List ℕ → Option (ℕ × LineFault)
first_fault text = first_fault_after [] (lines_of text)

-- the same, with the fault as its number
abbrev pub first_reason : List ℕ → Option (ℕ × ℕ)
first_reason text = option_map (λ found. (found.0, reason_of found.1)) (first_fault text)

-- the text is of the language, and this is what it says
pub record IsWorkload (text : List ℕ) (load : Load) : Type 0 where
  pub good : first_fault text ≡ None
  pub meaning : load ≡ workload_of (said (lines_of text))

-- the line at this place has the fault, and no line before it has one
pub record IsFirstFault (text : List ℕ) (place : ℕ) (fault : LineFault) : Type 0 where
  pub within : place < length (lines_of text)
  pub here : fault_at (take place (lines_of text)) (slice_index_or (lines_of text) place []) ≡ Some
      fault
  pub earlier : (k : ℕ) → k < place → fault_at (take k (lines_of text))
      (slice_index_or (lines_of text) k []) ≡ None

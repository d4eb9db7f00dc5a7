-- Files and written bytes in memory.
use Rattle.std.specs.Prelude.{◌≡◌, ℕ, Bool, List, [], Option, Some, None, IsSome}
use Rattle.std.specs.Prelude.{map, position, slice_get, if◌then◌else◌, String, string_bytes}
use Rattle.std.specs.List.{find}
use Rattle.std.specs.Option.{option_map}
use Rattle.std.specs.Str.{bytes_eq}
use Rattle.std.specs.Global.{Global, Vec}

-- a file: its name, and its bytes
abbrev pub File : Type 0
File = List ℕ × List ℕ

-- the files that a caller hands over
abbrev pub files_of : List (String Global × Vec ℕ) → List File
files_of files = map (λ file. (string_bytes file.0, file.1.items)) files

abbrev pub is_named : List ℕ → File → Bool
is_named name file = bytes_eq file.0 name

-- the bytes of the first file of this name
abbrev pub bytes_of : List File → List ℕ → Option (List ℕ)
bytes_of files name = option_map (λ file. file.1) (find (is_named name) files)

-- the place of the first file of this name
abbrev pub first_place : List (String Global × Vec ℕ) → List ℕ → Option ℕ
first_place files name = position (λ file. bytes_eq (string_bytes file.0) name) files

-- the bytes of a file that may not be there
abbrev pub bytes_in : Option File → List ℕ
bytes_in None = []
bytes_in (Some file) = file.1

-- the bytes of the file at a place, and none where no file was begun
abbrev pub bytes_at : List File → Option ℕ → List ℕ
bytes_at files None = []
bytes_at files (Some place) = bytes_in (slice_get files place)

-- a source in memory: its files, which calls fail, how many calls, begins and faults there were,
-- what is left of the file begun last, whether it could be begun, and whether it is open
pub record MemFiles : Type 0 where
  pub files : List File
  pub fails : List ℕ
  pub calls : ℕ
  pub begins : ℕ
  pub faults : ℕ
  pub left : List ℕ
  pub begun : Bool
  pub opened : Bool

-- the bytes that are left of the file begun last, if it could be begun
abbrev pub left_of : MemFiles → Option (List ℕ)
left_of source = if source.begun then Some source.left else None

-- this name is there, and no call is told to fail
abbrev pub IsSure : MemFiles → List ℕ → Type 0
IsSure source name = (source.fails ≡ []) × IsSome (bytes_of source.files name)

-- a sink in memory: the bytes that it took, how many it takes at most, which calls fail, how many
-- calls and faults there were, and whether the latest call failed
pub record MemBytes : Type 0 where
  pub written : List ℕ
  pub room : ℕ
  pub fails : List ℕ
  pub calls : ℕ
  pub faults : ℕ
  pub broken : Bool

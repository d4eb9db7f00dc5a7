-- Lines after other lines: descriptions, modules, commands and turns of the host, each on its own
-- or after as many as there may be.
use Rattle.std.specs.Prelude.{codes, ◌≡◌, ℕ, List, [], ◌∷◌, Some, None, replicate}
use Rattle.std.proofs.Common.{refl}
use Rattle.sv_workload.specs.declared.fault.LineFault.TheVariants.{Shape, Number, Repeated, TooMany}
use Rattle.sv_workload.specs.declared.fault.LineFault.TheVariants.{Misplaced, ModuleFull}
use Rattle.sv_workload.specs.declared.keyword.SetupWord.TheVariants.{Time, Desc, Module, Command}
use Rattle.sv_workload.specs.declared.keyword.TurnWord.TheVariants.{Send}
use Rattle.sv_workload.specs.declared.keyword.Keyword.{Keyword}
use Rattle.sv_workload.specs.declared.keyword.Keyword.TheVariants.{Setup, Writer, Schedule, Turn}
use Rattle.sv_workload.specs.Line.{Line}
use Rattle.sv_text.specs.Words.{words_of}
use Rattle.sv_workload.specs.Meaning.{modules_of, commands_of}
use Rattle.sv_workload.specs.Checks.{fault_of}

-- a keyword with these words after it
abbrev by : Keyword → List ℕ → Line
by keyword words = record { advance = None; keyword = keyword; words = words_of words }

-- a keyword alone
abbrev alone : Keyword → Line
alone keyword = record { advance = None; keyword = keyword; words = [] }

a_module_that_fits : fault_of (by (Setup Module) (codes "15872 A") ∷ [])
    (by (Setup Module) (codes "0 B b")) ≡ None
a_module_that_fits = refl

a_module_past_the_last_identifier : fault_of (by (Setup Module) (codes "15872 A") ∷ [])
    (by (Setup Module) (codes "1 B")) ≡ Some ModuleFull
a_module_past_the_last_identifier = refl

a_first_module_too_large : fault_of [] (by (Setup Module) (codes "15873 A")) ≡ Some ModuleFull
a_first_module_too_large = refl

a_module_of_16385_events : fault_of [] (by (Setup Module) (codes "16385 A")) ≡ Some Number
a_module_of_16385_events = refl

a_65th_module_too_large : fault_of (replicate 64 (by (Setup Module) (codes "0 A")))
    (by (Setup Module) (codes "15873 B")) ≡ Some TooMany
a_65th_module_too_large = refl

a_fifth_description : fault_of (replicate 4 (by (Setup Desc) (codes "a")))
    (by (Setup Desc) (codes "a")) ≡ Some TooMany
a_fifth_description = refl

a_fifth_description_without_text : fault_of (replicate 4 (by (Setup Desc) (codes "a")))
    (by (Setup Desc) (codes "")) ≡ Some Shape
a_fifth_description_without_text = refl

a_second_time : fault_of (alone (Setup Time) ∷ []) (alone (Setup Time)) ≡ Some Repeated
a_second_time = refl

-- a command and its parameter: from 128 on, and only there

a_command_alone : fault_of [] (alone (Setup Command)) ≡ Some Shape
a_command_alone = refl

a_plain_command : fault_of [] (by (Setup Command) (codes "127")) ≡ None
a_plain_command = refl

a_plain_command_with_a_parameter : fault_of [] (by (Setup Command) (codes "127 0")) ≡ Some Shape
a_plain_command_with_a_parameter = refl

a_command_that_wants_a_parameter : fault_of [] (by (Setup Command) (codes "128")) ≡ Some Shape
a_command_that_wants_a_parameter = refl

a_command_with_its_parameter : fault_of [] (by (Setup Command) (codes "255 255")) ≡ None
a_command_with_its_parameter = refl

a_parameter_too_large : fault_of [] (by (Setup Command) (codes "128 256")) ≡ Some Number
a_parameter_too_large = refl

a_command_too_large_and_alone : fault_of [] (by (Setup Command) (codes "300")) ≡ Some Shape
a_command_too_large_and_alone = refl

a_command_too_large : fault_of [] (by (Setup Command) (codes "300 5")) ≡ Some Number
a_command_too_large = refl

a_command_that_is_no_number : fault_of [] (by (Setup Command) (codes "x 1 2")) ≡ Some Number
a_command_that_is_no_number = refl

an_empty_command : fault_of [] (by (Setup Command) (codes "")) ≡ Some Number
an_empty_command = refl

a_257th_command : fault_of (replicate 256 (by (Setup Command) (codes "1")))
    (by (Setup Command) (codes "1")) ≡ Some TooMany
a_257th_command = refl

what_commands_say : commands_of
    (by (Setup Command) (codes "9") ∷ by (Setup Command) (codes "128 7") ∷ []) ≡ record
    { byte = 9; param = 0 } ∷ record { byte = 128; param = 7 } ∷ []
what_commands_say = refl

what_modules_say : modules_of (by (Setup Module) (codes "3 M=Net") ∷ []) ≡ record
    { events = 3; name = codes "M=Net" } ∷ []
what_modules_say = refl

a_turn_of_the_host : fault_of (alone Writer ∷ alone Schedule ∷ []) (alone (Turn Send)) ≡ None
a_turn_of_the_host = refl

a_turn_of_the_host_with_a_number : fault_of (alone Writer ∷ alone Schedule ∷ [])
    (by (Turn Send) (codes "1")) ≡ Some Shape
a_turn_of_the_host_with_a_number = refl

a_turn_of_the_host_too_early : fault_of (alone Writer ∷ []) (alone (Turn Send)) ≡ Some Misplaced
a_turn_of_the_host_too_early = refl

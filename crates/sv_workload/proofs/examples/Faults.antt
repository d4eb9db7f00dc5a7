-- Texts with a fault, one for each way to have it, and pairs of faults in one line, of which the
-- first counts.
use Rattle.std.specs.Prelude.{codes}
use Rattle.std.proofs.Common.{◌≡◌, ◌∷◌, [], ◌++◌, refl, Some}
use Rattle.sv_workload.specs.declared.fault.LineFault.TheVariants.{UnknownWord, Shape, Number}
use Rattle.sv_workload.specs.declared.fault.LineFault.TheVariants.{Repeated, TooMany, Unaligned}
use Rattle.sv_workload.specs.declared.fault.LineFault.TheVariants.{Misplaced, BadText, NoSuchWriter}
use Rattle.sv_workload.specs.declared.fault.LineFault.TheVariants.{ModuleFull}
use Rattle.sv_workload.specs.Grammar.{first_fault}

-- the worked refusals

a_ring_too_small : first_fault (codes "ring 63") ≡ Some (1, Number)
a_ring_too_small = refl

no_keyword : first_fault (codes "hello") ≡ Some (1, UnknownWord)
no_keyword = refl

a_step_without_writer : first_fault (codes "1 mark 5") ≡ Some (1, Misplaced)
a_step_without_writer = refl

a_leading_zero : first_fault (codes "writer\n01 mark 5") ≡ Some (2, Number)
a_leading_zero = refl

an_unaligned_identifier : first_fault (codes "writer\n1 ready 536871941") ≡ Some (2, Unaligned)
an_unaligned_identifier = refl

-- no keyword

a_space_in_front : first_fault (codes " ring 64") ≡ Some (1, UnknownWord)
a_space_in_front = refl

a_space_alone : first_fault (codes " ") ≡ Some (1, UnknownWord)
a_space_alone = refl

ticks_alone : first_fault (codes "5") ≡ Some (1, UnknownWord)
ticks_alone = refl

ticks_and_a_space : first_fault (codes "5 ") ≡ Some (1, UnknownWord)
ticks_and_a_space = refl

two_spaces_behind_ticks : first_fault (codes "5  mark 1") ≡ Some (1, UnknownWord)
two_spaces_behind_ticks = refl

a_setting_with_ticks : first_fault (codes "5 ring 64") ≡ Some (1, UnknownWord)
a_setting_with_ticks = refl

an_act_without_ticks : first_fault (codes "mark 5") ≡ Some (1, UnknownWord)
an_act_without_ticks = refl

a_longer_word : first_fault (codes "writer2") ≡ Some (1, UnknownWord)
a_longer_word = refl

a_shorter_word : first_fault (codes "rin 64") ≡ Some (1, UnknownWord)
a_shorter_word = refl

-- another part of the text

a_setting_behind_writer : first_fault (codes "writer\nring 64") ≡ Some (2, Misplaced)
a_setting_behind_writer = refl

a_schedule_without_writer : first_fault (codes "schedule") ≡ Some (1, Misplaced)
a_schedule_without_writer = refl

a_turn_without_schedule : first_fault (codes "writer\nstep 0") ≡ Some (2, Misplaced)
a_turn_without_schedule = refl

a_base_behind_a_task : first_fault (codes "task 536870912 0 0 0 0 M\nbase 5") ≡ Some (2, Misplaced)
a_base_behind_a_task = refl

a_shift_behind_a_task : first_fault (codes "task 536870912 0 0 0 0 M\nshift 2")
    ≡ Some (2, Misplaced)
a_shift_behind_a_task = refl

a_second_schedule : first_fault (codes "writer\nschedule\nschedule") ≡ Some (3, Misplaced)
a_second_schedule = refl

a_writer_behind_schedule : first_fault (codes "writer\nschedule\nwriter") ≡ Some (3, Misplaced)
a_writer_behind_schedule = refl

a_step_behind_schedule : first_fault (codes "writer\nschedule\n0 start") ≡ Some (3, Misplaced)
a_step_behind_schedule = refl

-- words that are missing, empty or too many

no_number : first_fault (codes "ring") ≡ Some (1, Shape)
no_number = refl

an_empty_number : first_fault (codes "ring ") ≡ Some (1, Shape)
an_empty_number = refl

a_space_at_the_end : first_fault (codes "ring 64 ") ≡ Some (1, Shape)
a_space_at_the_end = refl

two_spaces : first_fault (codes "ring  64") ≡ Some (1, Shape)
two_spaces = refl

a_number_too_many : first_fault (codes "ring 64 64") ≡ Some (1, Shape)
a_number_too_many = refl

a_space_behind_writer : first_fault (codes "writer ") ≡ Some (1, Shape)
a_space_behind_writer = refl

a_task_without_name : first_fault (codes "task 4 1 2 3 5") ≡ Some (1, Shape)
a_task_without_name = refl

a_task_with_an_empty_name : first_fault (codes "task 4 1 2 3 5 ") ≡ Some (1, Shape)
a_task_with_an_empty_name = refl

a_task_with_an_empty_number : first_fault (codes "task 4  2 3 5 M") ≡ Some (1, Shape)
a_task_with_an_empty_number = refl

a_print_without_text : first_fault (codes "writer\n1 print ") ≡ Some (2, Shape)
a_print_without_text = refl

a_name_without_text : first_fault (codes "writer\n1 name 536870912") ≡ Some (2, Shape)
a_name_without_text = refl

nine_numbers_of_a_call : first_fault (codes "writer\n1 call 32 1 2 3 4 5 6 7 8 9") ≡ Some (2, Shape)
nine_numbers_of_a_call = refl

three_numbers_of_a_return : first_fault (codes "writer\n1 return 1 2 3") ≡ Some (2, Shape)
three_numbers_of_a_return = refl

three_numbers_of_a_turn : first_fault (codes "writer\nschedule\nstep 0 1 2") ≡ Some (3, Shape)
three_numbers_of_a_turn = refl

-- numbers

a_sign : first_fault (codes "ring +64") ≡ Some (1, Number)
a_sign = refl

a_ring_too_large : first_fault (codes "ring 65537") ≡ Some (1, Number)
a_ring_too_large = refl

a_clock_of_0 : first_fault (codes "clock 0") ≡ Some (1, Number)
a_clock_of_0 = refl

a_shift_of_32 : first_fault (codes "shift 32") ≡ Some (1, Number)
a_shift_of_32 = refl

a_base_of_33_bits : first_fault (codes "base 4294967296") ≡ Some (1, Number)
a_base_of_33_bits = refl

a_number_past_64_bits : first_fault (codes "ring 99999999999999999999999999999") ≡ Some (1, Number)
a_number_past_64_bits = refl

too_many_ticks : first_fault (codes "writer\n8589934593 start") ≡ Some (2, Number)
too_many_ticks = refl

ticks_with_a_letter : first_fault (codes "writer\n1x mark 5") ≡ Some (2, Number)
ticks_with_a_letter = refl

a_mark_of_33_bits : first_fault (codes "writer\n1 mark 4294967296") ≡ Some (2, Number)
a_mark_of_33_bits = refl

a_call_below_32 : first_fault (codes "writer\n1 call 31") ≡ Some (2, Number)
a_call_below_32 = refl

a_call_past_14_bits : first_fault (codes "writer\n1 call 16384") ≡ Some (2, Number)
a_call_past_14_bits = refl

no_turn_at_all : first_fault (codes "writer\nschedule\nstep 0 0") ≡ Some (3, Number)
no_turn_at_all = refl

too_many_turns : first_fault (codes "writer\nschedule\nstep 0 1048577") ≡ Some (3, Number)
too_many_turns = refl

a_read_of_none : first_fault (codes "writer\nschedule\nread 0") ≡ Some (3, Number)
a_read_of_none = refl

-- texts

a_name_of_33_bytes : first_fault (codes "task 536870912 0 0 0 0 nnnnnnnnnnnnnnnnnnnnnnnnnnnnnnnnn")
    ≡ Some (1, BadText)
a_name_of_33_bytes = refl

a_print_of_129_bytes :
    first_fault
    (codes
    "writer\n1 print ppppppppppppppppppppppppppppppppppppppppppppppppppppppppppppppppppppppppppppppppppppppppppppppppppppppppppppppppppppppppppppppppp") ≡ Some (2, BadText)
a_print_of_129_bytes = refl

-- identifiers

a_task_between_others : first_fault (codes "task 536870913 0 0 0 0 M") ≡ Some (1, Unaligned)
a_task_between_others = refl

a_base_in_between : first_fault (codes "base 1\nwriter\n1 run 4") ≡ Some (3, Unaligned)
a_base_in_between = refl

a_wider_shift : first_fault (codes "shift 4\nwriter\n1 timer 536870920") ≡ Some (3, Unaligned)
a_wider_shift = refl

-- a second time

a_ring_again : first_fault (codes "ring 64\nring 64") ≡ Some (2, Repeated)
a_ring_again = refl

a_task_again : first_fault (codes "task 536870912 0 0 0 0 M\ntask 536870912 1 2 3 4 N")
    ≡ Some (2, Repeated)
a_task_again = refl

-- one too many

a_seventeenth_writer :
    first_fault
    (codes
    "writer\nwriter\nwriter\nwriter\nwriter\nwriter\nwriter\nwriter\nwriter\nwriter\nwriter\nwriter\nwriter\nwriter\nwriter\nwriter\nwriter") ≡ Some (17, TooMany)
a_seventeenth_writer = refl

a_33rd_task :
    first_fault
    (codes
    "task 536870912 0 0 0 0 M\ntask 536870916 0 0 0 0 M\ntask 536870920 0 0 0 0 M\ntask 536870924 0 0 0 0 M\ntask 536870928 0 0 0 0 M\ntask 536870932 0 0 0 0 M\ntask 536870936 0 0 0 0 M\ntask 536870940 0 0 0 0 M\ntask 536870944 0 0 0 0 M\ntask 536870948 0 0 0 0 M\ntask 536870952 0 0 0 0 M\ntask 536870956 0 0 0 0 M\ntask 536870960 0 0 0 0 M\ntask 536870964 0 0 0 0 M\ntask 536870968 0 0 0 0 M\ntask 536870972 0 0 0 0 M\ntask 536870976 0 0 0 0 M\ntask 536870980 0 0 0 0 M\ntask 536870984 0 0 0 0 M\ntask 536870988 0 0 0 0 M\ntask 536870992 0 0 0 0 M\ntask 536870996 0 0 0 0 M\ntask 536871000 0 0 0 0 M\ntask 536871004 0 0 0 0 M\ntask 536871008 0 0 0 0 M\ntask 536871012 0 0 0 0 M\ntask 536871016 0 0 0 0 M\ntask 536871020 0 0 0 0 M\ntask 536871024 0 0 0 0 M\ntask 536871028 0 0 0 0 M\ntask 536871032 0 0 0 0 M\ntask 536871036 0 0 0 0 M\ntask 536871040 0 0 0 0 M") ≡ Some (33, TooMany)
a_33rd_task = refl

-- what describes the target, and the host

a_second_time : first_fault (codes "time\ntime") ≡ Some (2, Repeated)
a_second_time = refl

a_time_with_a_word : first_fault (codes "time 1") ≡ Some (1, Shape)
a_time_with_a_word = refl

a_time_after_a_writer : first_fault (codes "writer\ntime") ≡ Some (2, Misplaced)
a_time_after_a_writer = refl

a_description_without_text : first_fault (codes "desc ") ≡ Some (1, Shape)
a_description_without_text = refl

a_fifth_description : first_fault (codes "desc a\ndesc a\ndesc a\ndesc a\ndesc a")
    ≡ Some (5, TooMany)
a_fifth_description = refl

a_module_without_text : first_fault (codes "module 3") ≡ Some (1, Shape)
a_module_without_text = refl

a_module_past_the_last_identifier : first_fault (codes "module 15872 A\nmodule 1 B")
    ≡ Some (2, ModuleFull)
a_module_past_the_last_identifier = refl

a_module_of_16385_events : first_fault (codes "module 16385 A") ≡ Some (1, Number)
a_module_of_16385_events = refl

a_command_that_is_no_number : first_fault (codes "command x 1 2") ≡ Some (1, Number)
a_command_that_is_no_number = refl

a_command_alone : first_fault (codes "command") ≡ Some (1, Shape)
a_command_alone = refl

a_command_with_a_space : first_fault (codes "command ") ≡ Some (1, Number)
a_command_with_a_space = refl

a_command_that_wants_a_parameter : first_fault (codes "command 300") ≡ Some (1, Shape)
a_command_that_wants_a_parameter = refl

a_command_too_large : first_fault (codes "command 300 5") ≡ Some (1, Number)
a_command_too_large = refl

a_turn_of_the_host_with_a_number : first_fault (codes "writer\nschedule\nsend 1") ≡ Some (3, Shape)
a_turn_of_the_host_with_a_number = refl

a_turn_of_the_host_too_early : first_fault (codes "writer\nsend") ≡ Some (2, Misplaced)
a_turn_of_the_host_too_early = refl

-- no such writer

a_second_writer_of_one : first_fault (codes "writer\nschedule\nstep 1") ≡ Some (3, NoSuchWriter)
a_second_writer_of_one = refl

a_writer_past_32_bits : first_fault (codes "writer\nschedule\nstep 4294967296")
    ≡ Some (3, NoSuchWriter)
a_writer_past_32_bits = refl

a_writer_past_64_bits : first_fault (codes "writer\nschedule\nstep 99999999999999999999999")
    ≡ Some (3, NoSuchWriter)
a_writer_past_64_bits = refl

-- the first line with a fault, and remarks before it

the_first_line_counts : first_fault (codes "ring 63\nhello") ≡ Some (1, Number)
the_first_line_counts = refl

remarks_are_counted : first_fault (codes "; a\n\n\nring 63") ≡ Some (4, Number)
remarks_are_counted = refl

remarks_behind_schedule : first_fault (codes "writer\nschedule\n; step\n\nstep 1")
    ≡ Some (5, NoSuchWriter)
remarks_behind_schedule = refl

-- bytes that can't be printed

a_tab_in_a_text : first_fault (codes "writer\n1 print " ++ (9 ∷ [])) ≡ Some (2, BadText)
a_tab_in_a_text = refl

a_byte_past_the_tilde : first_fault (codes "writer\n1 print a" ++ (127 ∷ [])) ≡ Some (2, BadText)
a_byte_past_the_tilde = refl

a_carriage_return : first_fault (codes "ring 64" ++ (13 ∷ [])) ≡ Some (1, Number)
a_carriage_return = refl

-- two faults in one line

unknown_before_misplaced : first_fault (codes "writer\nschedule\nfoo 1") ≡ Some (3, UnknownWord)
unknown_before_misplaced = refl

misplaced_before_shape : first_fault (codes "step ") ≡ Some (1, Misplaced)
misplaced_before_shape = refl

misplaced_before_number : first_fault (codes "writer\nring 63") ≡ Some (2, Misplaced)
misplaced_before_number = refl

misplaced_before_unaligned : first_fault (codes "writer\nschedule\n1 run 1") ≡ Some (3, Misplaced)
misplaced_before_unaligned = refl

misplaced_before_repeated : first_fault (codes "base 0\ntask 4 0 0 0 0 M\nbase 0")
    ≡ Some (3, Misplaced)
misplaced_before_repeated = refl

shape_before_number : first_fault (codes "ring 63 ") ≡ Some (1, Shape)
shape_before_number = refl

shape_before_ticks : first_fault (codes "writer\n01 mark") ≡ Some (2, Shape)
shape_before_ticks = refl

shape_before_unaligned : first_fault (codes "writer\n1 run 1 2") ≡ Some (2, Shape)
shape_before_unaligned = refl

shape_before_repeated : first_fault (codes "ring 64\nring") ≡ Some (2, Shape)
shape_before_repeated = refl

shape_before_writer : first_fault (codes "writer\nschedule\nstep 5 1 1") ≡ Some (3, Shape)
shape_before_writer = refl

number_before_text : first_fault (codes "task x 0 0 0 0 nnnnnnnnnnnnnnnnnnnnnnnnnnnnnnnnn")
    ≡ Some (1, Number)
number_before_text = refl

number_before_unaligned : first_fault (codes "task 1 x 0 0 0 M") ≡ Some (1, Number)
number_before_unaligned = refl

number_before_repeated : first_fault (codes "ring 64\nring 63") ≡ Some (2, Number)
number_before_repeated = refl

number_before_writer : first_fault (codes "writer\nschedule\nstep 1 0") ≡ Some (3, Number)
number_before_writer = refl

text_before_unaligned :
    first_fault (codes "task 536870913 0 0 0 0 nnnnnnnnnnnnnnnnnnnnnnnnnnnnnnnnn")
    ≡ Some (1, BadText)
text_before_unaligned = refl

text_before_repeated :
    first_fault (codes "base 0\ntask 4 0 0 0 0 M\ntask 4 0 0 0 0 nnnnnnnnnnnnnnnnnnnnnnnnnnnnnnnnn")
    ≡ Some (3, BadText)
text_before_repeated = refl

unaligned_before_repeated : first_fault (codes "base 0\ntask 4 0 0 0 0 M\ntask 5 0 0 0 0 M")
    ≡ Some (3, Unaligned)
unaligned_before_repeated = refl

repeated_before_too_many :
    first_fault
    (codes
    "task 536870912 0 0 0 0 M\ntask 536870916 0 0 0 0 M\ntask 536870920 0 0 0 0 M\ntask 536870924 0 0 0 0 M\ntask 536870928 0 0 0 0 M\ntask 536870932 0 0 0 0 M\ntask 536870936 0 0 0 0 M\ntask 536870940 0 0 0 0 M\ntask 536870944 0 0 0 0 M\ntask 536870948 0 0 0 0 M\ntask 536870952 0 0 0 0 M\ntask 536870956 0 0 0 0 M\ntask 536870960 0 0 0 0 M\ntask 536870964 0 0 0 0 M\ntask 536870968 0 0 0 0 M\ntask 536870972 0 0 0 0 M\ntask 536870976 0 0 0 0 M\ntask 536870980 0 0 0 0 M\ntask 536870984 0 0 0 0 M\ntask 536870988 0 0 0 0 M\ntask 536870992 0 0 0 0 M\ntask 536870996 0 0 0 0 M\ntask 536871000 0 0 0 0 M\ntask 536871004 0 0 0 0 M\ntask 536871008 0 0 0 0 M\ntask 536871012 0 0 0 0 M\ntask 536871016 0 0 0 0 M\ntask 536871020 0 0 0 0 M\ntask 536871024 0 0 0 0 M\ntask 536871028 0 0 0 0 M\ntask 536871032 0 0 0 0 M\ntask 536871036 0 0 0 0 M\ntask 536870932 0 0 0 0 M") ≡ Some (33, Repeated)
repeated_before_too_many = refl

-- The text of a report, line by line (an own layout): words, numbers in decimal and texts between
-- quotation marks, parted by one space.
use Rattle.std.specs.Prelude.{ℕ, zero, suc, ◌/◌, ◌%◌, ◌==◌, List, [], ◌∷◌, ◌++◌, map, flat_map, codes, Option}
use Rattle.std.specs.Prelude.{Some, None, if◌then◌else◌}
use Rattle.std.specs.Fmt.{decimal}
use Rattle.sv_latency.specs.declared.class.TaskTimes.{TaskTimes}
use Rattle.sv_analyse.specs.declared.report.System.{System}
use Rattle.sv_analyse.specs.declared.report.ModuleLine.{ModuleLine}
use Rattle.sv_analyse.specs.declared.report.LoadLine.{LoadLine}
use Rattle.sv_analyse.specs.declared.report.TaskLine.{TaskLine}
use Rattle.sv_analyse.specs.declared.report.Report.{Report}
use Rattle.sv_report.specs.Lines.{quoted, hex_digit}
use Rattle.sv_report.specs.Ends.{end_line}
use Rattle.sv_report.specs.Spans.{label_of}

-- a line of words and a number
abbrev pub count_line : List ℕ → ℕ → List ℕ
count_line words n = words ++ (decimal n ++ codes "\n")

-- how many packets were lost, and how many OVERFLOW packets say so
abbrev pub lost_line : ℕ → ℕ → List ℕ
lost_line lost overflows = codes "lost " ++ (decimal lost ++ count_line (codes " in ") overflows)

-- the frequencies of the counter and of the processor
abbrev pub system_line : Option System → List ℕ
system_line None = codes "system - -\n"
system_line (Some system) =
    codes "system " ++ (decimal system.sys_freq ++ count_line (codes " ") system.cpu_freq)

abbrev pub desc_line : List ℕ → List ℕ
desc_line text = codes "desc " ++ (quoted text ++ codes "\n")

abbrev pub module_line : ModuleLine → List ℕ
module_line line =
    codes "module " ++ (decimal line.«module» ++ (codes " " ++ (decimal line.offset
    ++ (codes " " ++ (quoted line.text ++ codes "\n")))))

-- a context's label, its ticks, and how many thousandths of all ticks they are
abbrev pub load_line : LoadLine → List ℕ
load_line line =
    codes "load " ++ (label_of line.context
    ++ (codes " " ++ (decimal line.ticks ++ count_line (codes " ") line.per_mille)))

-- a number of 32 bits in eight upper-case hexadecimal digits
abbrev pub hex_digits : ℕ → List ℕ
hex_digits n =
    map (λ unit. hex_digit ((n / unit) % 16))
    (268435456 ∷ 16777216 ∷ 1048576 ∷ 65536 ∷ 4096 ∷ 256 ∷ 16 ∷ 1 ∷ [])

abbrev pub id_word : Option ℕ → List ℕ
id_word None = codes "-"
id_word (Some id) = codes "0x" ++ hex_digits id

abbrev pub name_word : Option (List ℕ) → List ℕ
name_word None = codes "-"
name_word (Some name) = quoted name

-- a number that stands only where something was measured
abbrev pub measured_word : TaskTimes → ℕ → List ℕ
measured_word times n = if times.measured == 0 then codes "-" else decimal n

-- the counts of a task's starts, and its waits in ticks
abbrev pub times_words : TaskTimes → List ℕ
times_words times =
    codes " starts " ++ (decimal times.starts
    ++ (codes " measured " ++ (decimal times.measured
    ++ (codes " min " ++ (measured_word times times.least
    ++ (codes " max " ++ (measured_word times times.most
    ++ (codes " sum " ++ (decimal times.sum
    ++ (codes " resumed " ++ (decimal times.resumed
    ++ count_line (codes " unknown ") times.unknown)))))))))))

-- a task's number, its identifier and its name, and its times
abbrev pub task_line : TaskLine → List ℕ
task_line line =
    codes "task " ++ (decimal line.times.task ++ (codes " " ++ (id_word line.id
    ++ (codes " " ++ (name_word line.name ++ times_words line.times)))))

-- how many places are damaged, where some are
abbrev pub damaged_line : ℕ → List ℕ
damaged_line zero = []
damaged_line (suc n) = count_line (codes "damaged ") (suc n)

-- the lines of counts
abbrev pub counts_of : Report → List ℕ
counts_of report =
    count_line (codes "packets ") report.packets
    ++ (count_line (codes "ticks ") report.ticks
    ++ (lost_line report.lost report.overflows
    ++ (count_line (codes "anomalies ") report.anomalies ++ damaged_line report.damaged)))

-- the counts alone, and how it ended
abbrev pub short_text_of : Report → List ℕ
short_text_of report = counts_of report ++ end_line report.end

-- the lines that each report has
abbrev pub head_of : Report → List ℕ
head_of report = counts_of report ++ system_line report.system

abbrev pub text_of : Report → List ℕ
text_of report =
    head_of report
    ++ (flat_map desc_line report.descs
    ++ (flat_map module_line report.modules
    ++ (flat_map load_line report.loads
    ++ (flat_map task_line report.tasks
    ++ end_line report.end))))

use Rattle.std.proofs.Common.{◌≡◌, ℕ, ◌≤◌, List, length, refl, arith, [], ◌∷◌, ◌++◌, true, false}
use Rattle.std.proofs.Common.{sym, ap, subst, ◌∙◌}
use Rattle.sv_desc.specs.Modules.{is_full_for}
use Rattle.std.specs.List.{list_all}
use Rattle.std.proofs.lemmas.Result.{on_ok_weaker}
use Rattle.sv_load.specs.declared.load.Command.{Command}
use Rattle.sv_load.specs.declared.load.Task.{Task}
use Rattle.sv_workload.specs.declared.keyword.Keyword.TheVariants.{Setup}
use Rattle.sv_workload.specs.declared.keyword.SetupWord.TheVariants as setup
use Rattle.sv_workload.specs.Line.{text_after}
use Rattle.sv_workload.proofs.fit_lines.FitSteps.{text_most, text_some, task_words}
use Rattle.sv_workload.specs.Forms.{is_in, form_of}
use Rattle.sv_workload.specs.Settings.{tell}
use Rattle.sv_workload.specs.Meaning.{number, task_in, row_of, command_of}
use Rattle.sv_load.specs.Need.{HasWords}
use Rattle.sv_workload.specs.Draft.{Draft, Stands}
use Rattle.sv_workload.proofs.first_check.Passed.{passes}
use Rattle.sv_workload.proofs.fit_lines.Ranged.{tells_one}
use Rattle.sv_workload.proofs.lines_told.Growing.{stands-task, stands-time, stands-line}
use Rattle.sv_workload.proofs.lines_told.Growing.{stands-module}
use Rattle.sv_workload.proofs.lines_told.Growing.{stands-command}
use Rattle.sv_workload.proofs.lines_told.Rooms.{fit_of, room_for_task, room_for_line}
use Rattle.sv_workload.proofs.lines_told.Rooms.{room_for_module, tells}
use Rattle.sv_workload.proofs.lines_told.Rooms.{room_for_command, told, module_events}
use Rattle.sv_workload.proofs.draft.Draft.add_setup.Goals as goal

pub add_task-requires-clause-few : goal.add_task-requires-clause-few
add_task-requires-clause-few c =
    let good = c.requires.good in
    room_for_task c.args.self.now good.0 c.args.line.now good.1
    (passes good.0 c.args.line.now good.2) (c.requires.keyword ∙ ap Setup c.in-Task.is)

pub add_task-requires-clause-name : goal.add_task-requires-clause-name
add_task-requires-clause-name c =
    let good = c.requires.good in
    let line = c.args.line.now in
    let e = c.requires.keyword ∙ ap Setup c.in-Task.is in
    let fit = fit_of good.0 line (passes good.0 line good.2) in
    let task : c.in_ok-task-in-Task.task ≡ task_in line = c.in_ok-task-in-Task.ensures e fit in
    let short : length (text_after line) ≤ 32 = text_most line (Setup setup.Task) 32 e refl fit in
    let some : 1 ≤ length (text_after line) =
    text_some line (Setup setup.Task) 32 e refl refl fit in (
      omega (arith, some, ap (λ (t : Task). length t.name) task),
      omega
          (arith, short, ap (λ (t : Task). length t.name) task),
    )

pub add_task-requires-clause-words : goal.add_task-requires-clause-words
add_task-requires-clause-words c =
    let good = c.requires.good in
    let line = c.args.line.now in
    let e = c.requires.keyword ∙ ap Setup c.in-Task.is in
    let fit = fit_of good.0 line (passes good.0 line good.2) in
    let task : c.in_ok-task-in-Task.task ≡ task_in line = c.in_ok-task-in-Task.ensures e fit in
    subst HasWords (sym task) (task_words line e fit)

pub add_setting-requires : goal.add_setting-requires
add_setting-requires c =
    let good = c.requires.good in
    let line = c.args.line.now in
    let is = tells_one c.args.word c.in_default.not-Task c.in_default.not-Time
    c.in_default.not-Desc c.in_default.not-Module c.in_default.not-Command in
    let told_now = tells line c.args.word (fit_of good.0 line (passes good.0 line good.2)) is
    c.requires.keyword in
    subst (λ (n : ℕ). list_all (λ range. is_in range n) (form_of (Setup c.args.word)).numbers ≡
    true) (sym c.first_number-in_default.ensures) told_now.range

pub returns-in_ok-task-in-Task : goal.returns-in_ok-task-in-Task
returns-in_ok-task-in-Task c =
    let line = c.args.line.now in
    let e = c.requires.keyword ∙ ap Setup c.in-Task.is in
    on_ok_weaker c.add_task.result (λ now lines stands none.
    let passed = passes lines line none in
    let task : c.in_ok-task-in-Task.task ≡ task_in line = c.in_ok-task-in-Task.ensures e
    (fit_of lines line passed) in
    let new : c.add_task.new.self ≡ record c.args.self.now
    { tasks = c.args.self.now.tasks ++ task_in line ∷ [] } = now ∙ ap
    (λ (t : Task). record c.args.self.now { tasks = c.args.self.now.tasks ++ t ∷ [] }) task in
    subst (λ (d : Draft). Stands d (lines ++ line ∷ [])) (sym new)
    (stands-task c.args.self.now lines line stands passed e)) c.add_task.ensures

pub returns-in_default : goal.returns-in_default
returns-in_default c = λ lines stands none.
    let line = c.args.line.now in
    let is = tells_one c.args.word c.in_default.not-Task c.in_default.not-Time
    c.in_default.not-Desc c.in_default.not-Module c.in_default.not-Command in
    let new = c.add_setting.ensures ∙ ap
    (λ (n : ℕ). record c.args.self.now
    { settings = tell c.args.word n c.args.self.now.settings }) c.first_number-in_default.ensures in
    subst (λ (d : Draft). Stands d (lines ++ line ∷ [])) (sym new)
    (told c.args.self.now lines line stands (passes lines line none) c.args.word is
    c.requires.keyword)

-- the time

pub returns-in-Time : goal.returns-in-Time
returns-in-Time c = λ lines stands none.
    let line = c.args.line.now in
    let e = c.requires.keyword ∙ ap Setup c.in-Time.is in
    subst (λ (d : Draft). Stands d (lines ++ line ∷ [])) (sym c.add_time.ensures)
    (stands-time c.args.self.now lines line stands (passes lines line none) e)

-- a line that describes the target

pub add_line-requires-clause-few : goal.add_line-requires-clause-few
add_line-requires-clause-few c =
    let good = c.requires.good in
    room_for_line c.args.self.now good.0 c.args.line.now good.1
    (passes good.0 c.args.line.now good.2) (c.requires.keyword ∙ ap Setup c.in-Desc.is)

pub add_line-requires-clause-short : goal.add_line-requires-clause-short
add_line-requires-clause-short c =
    let good = c.requires.good in
    let line = c.args.line.now in
    let e = c.requires.keyword ∙ ap Setup c.in-Desc.is in
    let fit = fit_of good.0 line (passes good.0 line good.2) in
    let text : c.in_ok-text-in-Desc.text ≡ text_after line = c.in_ok-text-in-Desc.ensures ∙
    c.text.ensures in
    subst (λ (bytes : List ℕ). length bytes ≤ 128) (sym text)
    (text_most line (Setup setup.Desc) 128 e refl fit)

pub returns-in_ok-text-in-Desc : goal.returns-in_ok-text-in-Desc
returns-in_ok-text-in-Desc c =
    let line = c.args.line.now in
    let old = c.args.self.now in
    let e = c.requires.keyword ∙ ap Setup c.in-Desc.is in
    let text : c.in_ok-text-in-Desc.text ≡ text_after line = c.in_ok-text-in-Desc.ensures ∙
    c.text.ensures in
    on_ok_weaker c.add_line.result (λ now lines stands none.
    let new : c.add_line.new.self ≡ record old { lines = old.lines ++ text_after line ∷ [] } =
    now ∙ ap (λ (t : List ℕ). record old { lines = old.lines ++ t ∷ [] }) text in
    subst (λ (d : Draft). Stands d (lines ++ line ∷ [])) (sym new)
    (stands-line old lines line stands (passes lines line none) e)) c.add_line.ensures

-- a module

pub add_module-requires-clause-room : goal.add_module-requires-clause-room
add_module-requires-clause-room c =
    let good = c.requires.good in
    let line = c.args.line.now in
    let e = c.requires.keyword ∙ ap Setup c.in-Module.is in
    let passed = passes good.0 line good.2 in
    let events : c.first_number.result ≡ number line 0 = c.first_number.ensures
    ∙ module_events line e (fit_of good.0 line passed) in
    subst (λ (n : ℕ). is_full_for c.args.self.now.modules n ≡ false) (sym events)
    (room_for_module c.args.self.now good.0 line good.1 passed e)

pub add_module-requires-clause-some : goal.add_module-requires-clause-some
add_module-requires-clause-some c =
    let good = c.requires.good in
    let line = c.args.line.now in
    let e = c.requires.keyword ∙ ap Setup c.in-Module.is in
    let fit = fit_of good.0 line (passes good.0 line good.2) in
    let name : c.in_ok-name-in-Module.name ≡ text_after line = c.in_ok-name-in-Module.ensures ∙
    c.text-in-Module.ensures in
    subst (λ (bytes : List ℕ). 1 ≤ length bytes) (sym name)
    (text_some line (Setup setup.Module) 128 e refl refl fit)

pub add_module-requires-clause-short : goal.add_module-requires-clause-short
add_module-requires-clause-short c =
    let good = c.requires.good in
    let line = c.args.line.now in
    let e = c.requires.keyword ∙ ap Setup c.in-Module.is in
    let fit = fit_of good.0 line (passes good.0 line good.2) in
    let name : c.in_ok-name-in-Module.name ≡ text_after line = c.in_ok-name-in-Module.ensures ∙
    c.text-in-Module.ensures in
    subst (λ (bytes : List ℕ). length bytes ≤ 128) (sym name)
    (text_most line (Setup setup.Module) 128 e refl fit)

pub returns-in_ok-name-in-Module : goal.returns-in_ok-name-in-Module
returns-in_ok-name-in-Module c = λ lines stands none.
    let line = c.args.line.now in
    let old = c.args.self.now in
    let e = c.requires.keyword ∙ ap Setup c.in-Module.is in
    let passed = passes lines line none in
    let name : c.in_ok-name-in-Module.name ≡ text_after line = c.in_ok-name-in-Module.ensures ∙
    c.text-in-Module.ensures in
    let events : c.first_number.result ≡ number line 0 = c.first_number.ensures
    ∙ module_events line e (fit_of lines line passed) in
    let new : c.add_module.new.self ≡ record old { modules = old.modules ++ row_of line ∷ [] } =
    c.add_module.ensures
    ∙ ap (λ (n : ℕ). record old {
      modules = old.modules ++
          record { events = n; name = c.in_ok-name-in-Module.name } ∷ [];
    }) events
    ∙ ap (λ (t : List ℕ). record old {
      modules = old.modules ++
          record { events = number line 0; name = t } ∷ [];
    }) name in
    subst (λ (d : Draft). Stands d (lines ++ line ∷ [])) (sym new)
    (stands-module old lines line stands passed e)

-- a command

pub command-requires-clause-fit : goal.command-requires-clause-fit
command-requires-clause-fit c =
    let good = c.requires.good in
    fit_of good.0 c.args.line.now (passes good.0 c.args.line.now good.2)

pub add_command-requires-clause-few : goal.add_command-requires-clause-few
add_command-requires-clause-few c =
    let good = c.requires.good in
    room_for_command c.args.self.now good.0 c.args.line.now good.1
    (passes good.0 c.args.line.now good.2) (c.requires.keyword ∙ ap Setup c.in-Command.is)

pub returns-in-Command : goal.returns-in-Command
returns-in-Command c =
    let line = c.args.line.now in
    let old = c.args.self.now in
    let e = c.requires.keyword ∙ ap Setup c.in-Command.is in
    on_ok_weaker c.add_command.result (λ now lines stands none.
    let new : c.add_command.new.self ≡ record old {
      commands = old.commands ++ command_of line ∷ [];
    } = now ∙ ap (λ (asked : Command). record old { commands = old.commands ++ asked ∷ [] })
    c.command.ensures.told in
    subst (λ (d : Draft). Stands d (lines ++ line ∷ [])) (sym new)
    (stands-command old lines line stands (passes lines line none) e)) c.add_command.ensures

-- Whole workloads, with what they say; and texts and loads that don't go together.
use Rattle.std.specs.Prelude.{codes, slice_index_or}
use Rattle.std.proofs.Common.{◌≡◌, ℕ, zero, suc, ◌<◌, true, false, [], ◌∷◌, take, Some, None, refl}
use Rattle.std.proofs.Common.{ap, arith}
use Rattle.sv_packet.specs.declared.event.Event.TheVariants as event
use Rattle.sv_workload.specs.declared.fault.LineFault.TheVariants.{Number, UnknownWord}
use Rattle.sv_load.specs.declared.load.Act.TheVariants as act
use Rattle.sv_load.specs.declared.load.Action.TheVariants as action
use Rattle.sv_load.specs.Load.{Load}
use Rattle.sv_text.specs.Lines.{lines_of}
use Rattle.sv_workload.specs.Grammar.{fault_at, IsWorkload, IsFirstFault}

-- what holds where nothing is said
abbrev nothing : Load
nothing = record {
  ring = 1024;
  clock = 1000000;
  cpu = 1000000;
  base = 536870912;
  shift = 2;
  timed = false;
  lines = [];
  tasks = [];
  modules = [];
  commands = [];
  scripts = [];
  scheduled = false;
  schedule = [];
}

the_empty_text : IsWorkload [] nothing
the_empty_text = record { good = refl; meaning = refl }

remarks_alone : IsWorkload (codes "; nothing\n\n;ring 63\n") nothing
remarks_alone = record { good = refl; meaning = refl }

the_plainest :
    IsWorkload (codes "writer\n0 start\n")
    (record nothing { scripts = (record { advance = 0; act = act.Start } ∷ []) ∷ [] })
the_plainest = record { good = refl; meaning = refl }

-- a start and a stop among marks
marks : IsWorkload (codes "writer\n5 mark 9\n0 start\n2 mark 9\n3 stop\n1 mark 9") (record nothing {
  scripts = (
      record { advance = 5; act = act.Event (event.MarkStart 9) }
      ∷ record { advance = 0; act = act.Start }
      ∷ record { advance = 2; act = act.Event (event.MarkStart 9) }
      ∷ record { advance = 3; act = act.Stop }
      ∷ record { advance = 1; act = act.Event (event.MarkStart 9) }
      ∷ []) ∷ [];
})
marks = record { good = refl; meaning = refl }

-- settings and tasks
settings :
    IsWorkload
    (codes
    "; all of it\n\nring 65536\nclock 4294967295\ncpu 1\nbase 16\nshift 4\ntask 32 5 0 4294967295 7 the name\ntask 16 0 0 0 0 M\nwriter") (record {
      ring = 65536;
      clock = 4294967295;
      cpu = 1;
      base = 16;
      shift = 4;
      timed = false;
      lines = [];
      tasks =
          record {
            id = 32;
            priority = 5;
            stack_base = 0;
            stack_size = 4294967295;
            extra = 7;
            name = codes "the name";
          } ∷ record {
            id = 16;
            priority = 0;
            stack_base = 0;
            stack_size = 0;
            extra = 0;
            name =
                codes "M";
          } ∷ [];
      modules = [];
      commands = [];
      scripts = [] ∷ [];
      scheduled = false;
      schedule = [];
    })
settings = record { good = refl; meaning = refl }

-- each step, with the numbers of a call spelled as in a packet
each_step :
    IsWorkload
    (codes
    "base 0\nshift 0\nwriter\n0 start\n8589934592 stop\n1 nop\n1 isr 4294967295\n1 isr-exit\n1 run 7\n1 halt\n1 ready 8\n1 unready 9 3\n1 create 10\n1 terminate 11\n1 mark 1\n1 mark-end 2\n1 idle\n1 sched\n1 timer 12\n1 timer-exit\n1 name 13 the text\n1 print  hi \n1 call 32\n1 call 16383 0 127 128 16384 4294967295 1 2 3\n1 return 5\n1 return 5 0") (record nothing {
      base = 0;
      shift = 0;
      scripts = (
          record { advance = 0; act = act.Start }
          ∷ record { advance = 8589934592; act = act.Stop }
          ∷ record { advance = 1; act = act.Event event.Nop }
          ∷ record { advance = 1; act = act.Event (event.IsrEnter 4294967295) }
          ∷ record { advance = 1; act = act.Event event.IsrExit }
          ∷ record { advance = 1; act = act.Event (event.TaskStart 7) }
          ∷ record { advance = 1; act = act.Event event.TaskStop }
          ∷ record { advance = 1; act = act.Event (event.TaskReady 8) }
          ∷ record { advance = 1; act = act.Event (event.TaskUnready 9 3) }
          ∷ record { advance = 1; act = act.Event (event.TaskCreate 10) }
          ∷ record { advance = 1; act = act.Event (event.TaskTerminate 11) }
          ∷ record { advance = 1; act = act.Event (event.MarkStart 1) }
          ∷ record { advance = 1; act = act.Event (event.MarkStop 2) }
          ∷ record { advance = 1; act = act.Event event.Idle }
          ∷ record { advance = 1; act = act.Event event.ToScheduler }
          ∷ record { advance = 1; act = act.Event (event.TimerEnter 12) }
          ∷ record { advance = 1; act = act.Event event.TimerExit }
          ∷ record { advance = 1; act = act.Event (event.NameResource 13 (codes "the text")) }
          ∷ record { advance = 1; act = act.Event (event.Print (codes " hi ") 0 []) }
          ∷ record { advance = 1; act = act.Event (event.Opaque 32 []) }
          ∷ record {
            advance = 1;
            act =
                act.Event
                (event.Opaque 16383
                (0 ∷ 127 ∷ 128 ∷ 1 ∷ 128 ∷ 128 ∷ 1 ∷ 255 ∷ 255 ∷ 255 ∷ 255 ∷ 15 ∷ 1 ∷ 2 ∷ 3 ∷ []));
          }
          ∷ record { advance = 1; act = act.Event (event.EndCall 5 None) }
          ∷ record { advance = 1; act = act.Event (event.EndCall 5 (Some 0)) }
          ∷ []) ∷ [];
    })
each_step = record { good = refl; meaning = refl }

-- three writers, of whom one does nothing, and a schedule
a_schedule :
    IsWorkload
    (codes
    "writer\nwriter\n0 start\n1 nop\nwriter\n2 idle\nschedule\n; now\nstep 2\nstep 0 1048576\nread 1\n\nread 65536") (record nothing {
      scripts =
          [] ∷
          (record { advance = 0; act = act.Start } ∷
          record { advance = 1; act = act.Event event.Nop } ∷ []) ∷
          (record { advance = 2; act = act.Event event.Idle } ∷ []) ∷ [];
      scheduled = true;
      schedule = action.Step 2 1 ∷ action.Step 0 1048576 ∷ action.Read 1 ∷ action.Read 65536 ∷ [];
    })
a_schedule = record { good = refl; meaning = refl }

-- what describes the target, what the host asks, and its turns
a_host :
    IsWorkload
    (codes
    "time\ndesc N=x, O=y\nmodule 3 M=Net\nmodule 0 M=A b\ncommand 128 0\ncommand 9\nwriter\n0 start\nschedule\nsend\nstep 0\nsend") (record nothing {
      timed = true;
      lines = codes "N=x, O=y" ∷ [];
      modules =
          record { events = 3; name = codes "M=Net" } ∷
          record { events = 0; name = codes "M=A b" } ∷ [];
      commands = record { byte = 128; param = 0 } ∷ record { byte = 9; param = 0 } ∷ [];
      scripts = (record { advance = 0; act = act.Start } ∷ []) ∷ [];
      scheduled = true;
      schedule = action.Send ∷ action.Step 0 1 ∷ action.Send ∷ [];
    })
a_host = record { good = refl; meaning = refl }

-- identifiers are counted from the base on, and round at 2 ^ 32
identifiers :
    IsWorkload
    (codes
    "writer\n0 start\n1 ready 536871940\n1 run 536870908\n2 call 40 300 1\n1 return 40 7")
    (record nothing {
      scripts = (
          record { advance = 0; act = act.Start }
          ∷ record { advance = 1; act = act.Event (event.TaskReady 257) }
          ∷ record { advance = 1; act = act.Event (event.TaskStart 1073741823) }
          ∷ record { advance = 2; act = act.Event (event.Opaque 40 (172 ∷ 2 ∷ 1 ∷ [])) }
          ∷ record { advance = 1; act = act.Event (event.EndCall 40 (Some 7)) }
          ∷ []) ∷ [];
    })
identifiers = record { good = refl; meaning = refl }

-- another load is not what the text says
another_ring : IsWorkload (codes "ring 64") nothing → ⊥
another_ring is = let n : 1024 ≡ 64 = ap (λ (load : Load). load.ring) is.meaning in
    absurd (omega (arith, n))

-- a text with a fault says nothing
no_load : (load : Load) → IsWorkload (codes "ring 63") load → ⊥
no_load load is = absurd (let n : Some (1, Number) ≡ None = is.good in cc)

-- the first fault in other words: the line before it has none
behind_a_good_line : IsFirstFault (codes "writer\n01 mark 5\nhello") 1 Number
behind_a_good_line = record { within = omega arith; here = refl; earlier = one }
  where
    one : (k : ℕ) → k < 1 →
        fault_at (take k (lines_of (codes "writer\n01 mark 5\nhello")))
        (slice_index_or (lines_of (codes "writer\n01 mark 5\nhello")) k []) ≡ None
    one zero lt = refl
    one (suc k) lt = absurd (omega arith)

-- a later fault is not the first
not_the_later : IsFirstFault (codes "writer\n01 mark 5\nhello") 2 UnknownWord → ⊥
not_the_later is = absurd (let n : Some Number ≡ None = is.earlier 1 (omega arith) in cc)

-- From a workload that was played, and what is written of it, to the answers of the commands.
use Rattle.std.proofs.Common.{◌≡◌, ℕ, ◌≤◌, Bool, true, false, List, ◌++◌, length, Option, Result}
use Rattle.std.proofs.Common.{Ok, Err, sym, ◌∙◌, subst}
use Rattle.std.specs.Prelude.{IfOk, OnOk}
use Rattle.std.specs.Global.{Vec}
use Rattle.std.specs.Io.KnownBytes.{Appends}
use Rattle.sv_base.specs.Streams.{AppendsPart}
use Rattle.sv_load.specs.Load.{Load}
use Rattle.sv_workload.specs.Grammar.{IsWorkload}
use Rattle.sv_journal.specs.declared.journal.Item.{Item}
use Rattle.sv_core.specs.Simulated.{IsSimulated}
use Rattle.sv_sent.specs.Start.{has_start}
use Rattle.sv_truth.specs.Truth.{TellsTruly}
use Rattle.sv_view.specs.Files.{OfFile}
use Rattle.sv_cli.specs.declared.make.Make.TheVariants.{Counts}
use Rattle.sv_cli.specs.declared.status.Status.{Status}
use Rattle.sv_cli.specs.declared.status.Status.TheVariants.{Done, Usage, ReadFault, WriteFault}
use Rattle.sv_cli.specs.declared.status.Status.TheVariants.{Damaged, Truncated, NoSync, Workload}
use Rattle.sv_cli.specs.declared.status.Status.TheVariants.{TooLong, NoMemory}
use Rattle.sv_cli.specs.Recorded.{IsGenerated, IsLoaded, IsNothing, IsOfNumber, IsPlayed, IsPut}
use Rattle.sv_cli.specs.Recorded.{IsRecorded, IsRecording, IsRecordingPart, IsRun, makes_of}
use Rattle.sv_cli.specs.Recorded.{most_of_workload}
use Rattle.sv_cli.proofs.Started.{always_started}

-- a fact of a file gives another
pub of_file : {fact other : List ℕ → List ℕ → Type 0} (held left : Option (List ℕ))
    → OfFile held left fact → ((file taken : List ℕ) → fact file taken → other file taken)
    → OfFile held left other
of_file held left o so = record {
  file = o.file;
  taken = o.taken;
  rest = o.rest;
  known = o.known;
  front = o.front;
  read = o.read;
  so = so o.file o.taken o.so;
}

module _ (says : Load → Type 0) (happens : Load → List Item → Type 0)
    (makes : Load → List Item → List ℕ → Type 0) (load : Load) (said : says load)
    (head : List ℕ) (history : List Item) (old new : Option (List ℕ)) (items : List Item) where
  run_of : items ≡ history → happens load history → TellsTruly load history
      → IsRun says happens load items
  run_of is happened names = record {
    said = said;
    happened = subst (λ (l : List Item). happens load l) (sym is) happened;
    names = subst (λ (l : List Item). TellsTruly load l) (sym is) names;
  }

  made_of : (rest : Vec ℕ) → items ≡ history → makes load history (head ++ rest.items)
      → makes load items (head ++ rest.items)
  made_of rest is = subst (λ (l : List Item). makes load l (head ++ rest.items)) (sym is)

  whole : (rest : Vec ℕ) (started : Bool) → happens load history → TellsTruly load history
      → makes load history (head ++ rest.items)
      → (items ≡ history) × (has_start load history ≡ started) × Appends old new (head ++ rest.items)
      → IsRecording (IsRun says happens) makes old new items started
  whole rest started happened names made (is, start, written) = record {
    load = load;
    run = run_of is happened names;
    start = subst (λ (l : List Item). has_start load l ≡ started) (sym is) start;
    made = head ++ rest.items;
    makes_it = made_of rest is made;
    written = written;
  }

  part : (rest : Vec ℕ) → happens load history → TellsTruly load history
      → makes load history (head ++ rest.items)
      → (items ≡ history) × AppendsPart old new (head ++ rest.items)
      → IsRecordingPart (IsRun says happens) makes old new items
  part rest happened names made (is, some) = record {
    load = load;
    run = run_of is happened names;
    made = head ++ rest.items;
    makes_it = made_of rest is made;
    part = some;
  }

  -- what was made and put is the answer over the workload
  pub played : {E : Type 0} (made : Result (Vec ℕ) E) (status : Status)
      → OnOk made (happens load history) → OnOk made (TellsTruly load history)
      → IfOk made (λ rest. makes load history (head ++ rest.items))
      → IsPut load head made history old new items status
      → IsPlayed says happens makes old new items status
  played (Ok rest) Done happened names made put = whole rest true happened names made put
  played (Ok rest) NoSync happened names made put = whole rest false happened names made put
  played (Ok rest) WriteFault happened names made put = part rest happened names made put
  played (Ok rest) NoMemory happened names made put = absurd put
  played (Ok rest) Usage happened names made put = absurd put
  played (Ok rest) ReadFault happened names made put = absurd put
  played (Ok rest) (Damaged place reason) happened names made put = absurd put
  played (Ok rest) (Truncated held) happened names made put = absurd put
  played (Ok rest) (Workload line reason) happened names made put = absurd put
  played (Ok rest) (TooLong limit) happened names made put = absurd put
  played (Err none) NoMemory happened names made put = put
  played (Err none) Done happened names made put = absurd put
  played (Err none) NoSync happened names made put = absurd put
  played (Err none) WriteFault happened names made put = absurd put
  played (Err none) Usage happened names made put = absurd put
  played (Err none) ReadFault happened names made put = absurd put
  played (Err none) (Damaged place reason) happened names made put = absurd put
  played (Err none) (Truncated held) happened names made put = absurd put
  played (Err none) (Workload line reason) happened names made put = absurd put
  played (Err none) (TooLong limit) happened names made put = absurd put

-- the answer over the workload that a file says is that over the file
pub recorded : (happens : Load → List Item → Type 0) (makes : Load → List Item → List ℕ → Type 0)
    (file taken : List ℕ) (old new : Option (List ℕ)) (items : List Item) (status : Status)
    → taken ≡ file → length file ≤ most_of_workload
    → IsPlayed (IsWorkload file) happens makes old new items status
    → IsRecorded happens makes file taken old new items status
recorded happens makes file taken old new items Done all few p = (all, few, p)
recorded happens makes file taken old new items NoSync all few p = (all, few, p)
recorded happens makes file taken old new items WriteFault all few p = (all, few, p)
recorded happens makes file taken old new items NoMemory all few p = p
recorded happens makes file taken old new items Usage all few p = absurd p
recorded happens makes file taken old new items ReadFault all few p = absurd p
recorded happens makes file taken old new items (Damaged place reason) all few p = absurd p
recorded happens makes file taken old new items (Truncated held) all few p = absurd p
recorded happens makes file taken old new items (Workload line reason) all few p = absurd p
recorded happens makes file taken old new items (TooLong limit) all few p = absurd p

-- where a file says no workload, that is the answer, and nothing is written
pub unloaded : (happens : Load → List Item → Type 0) (makes : Load → List Item → List ℕ → Type 0)
    (file taken : List ℕ) (old new : Option (List ℕ)) (items : List Item) (status : Status)
    → IsNothing old new items → IsLoaded file taken (Err status)
    → IsRecorded happens makes file taken old new items status
unloaded happens makes file taken old new items ReadFault none few = (few, none)
unloaded happens makes file taken old new items (TooLong limit) none (is, long) = (is, long, none)
unloaded happens makes file taken old new items (Workload line reason) none (all, few, is) =
    (all, few, (is, none))
unloaded happens makes file taken old new items NoMemory none so = none
unloaded happens makes file taken old new items Done none so = absurd so
unloaded happens makes file taken old new items NoSync none so = absurd so
unloaded happens makes file taken old new items WriteFault none so = absurd so
unloaded happens makes file taken old new items Usage none so = absurd so
unloaded happens makes file taken old new items (Damaged place reason) none so = absurd so
unloaded happens makes file taken old new items (Truncated held) none so = absurd so

-- the answer over the workload of a number is that of the number: it has a start
pub of_number : (number : ℕ) (old new : Option (List ℕ)) (items : List Item) (status : Status)
    → IsPlayed (IsOfNumber number) IsSimulated (makes_of Counts) old new items status
    → IsGenerated number old new items status
of_number number old new items Done p = p
of_number number old new items NoSync p =
    let wrong : true ≡ false =
    sym (always_started number p.load items p.run.said p.run.happened.legal
    p.run.happened.whole) ∙ p.start in
    absurd cc
of_number number old new items WriteFault p = p
of_number number old new items NoMemory p = p
of_number number old new items Usage p = absurd p
of_number number old new items ReadFault p = absurd p
of_number number old new items (Damaged place reason) p = absurd p
of_number number old new items (Truncated held) p = absurd p
of_number number old new items (Workload line reason) p = absurd p
of_number number old new items (TooLong limit) p = absurd p

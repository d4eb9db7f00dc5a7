-- What a run has when its ends are taken back.
use Rattle.std.proofs.Common.{◌≡◌, ℕ, ◌+◌, ◌^◌, ◌<◌, ◌≤◌, List, ◌++◌, Option, length, sym, ap}
use Rattle.std.proofs.Common.{◌∙◌, subst, arith, length-append, All, false, Result, Ok, Err}
use Rattle.std.specs.Prelude.{flat_map, OnOk}
use Rattle.sv_ring.specs.Down.{IsFront}
use Rattle.sv_ring.specs.Docks.{GainsStory}
use Rattle.sv_ring.specs.declared.story.Story.{Story}
use Rattle.sv_load.specs.Load.{Load}
use Rattle.sv_load.specs.Need.{IsAsked}
use Rattle.sv_journal.specs.declared.journal.Item.{Item}
use Rattle.sv_journal.specs.Legal.{IsLegal, IsWhole}
use Rattle.sv_journal.specs.Stream.{stream_of}
use Rattle.sv_recorder.specs.Commands.{command_bytes}
use Rattle.sv_stream.specs.Decoding.{pushed}
use Rattle.sv_timeline.specs.declared.span.Span.{Span}
use Rattle.sv_analyse.specs.State.{State, StandsFor}
use Rattle.sv_run.specs.Fed.{IsFed}
use Rattle.sv_run.specs.Ran.{AreThrough, HasAnswered, HasStory}
use Rattle.sv_run.proofs.Commands.{first_commands}

-- the analyser's input goes on
pub fed_more : {E : Type 0} (old new : State) (piece : List ℕ) (before after : List Span)
    (r : Result (Unit {0}) E)
    → OnOk r ((input : List ℕ) (given : List Span) → StandsFor old input given
    → (more : List Span) × (after ≡ before ++ more)
    × StandsFor new (input ++ piece) (given ++ more))
    → OnOk r (pushed new.decoder ≡ pushed old.decoder + length piece)
    → OnOk r ((old.analysis.failed ≡ false) × (new.analysis.failed ≡ false))
    → OnOk r ((input : List ℕ) → IsFed old input → IsFed new (input ++ piece))
fed_more old new piece before after (Err e) stands count live = tt
fed_more old new piece before after (Ok unit) stands count live = λ input fed.
    let more = stands input fed.given fed.stands in record {
      given = fed.given ++ more.0;
      stands = more.2;
      bytes = count ∙ (ap (λ n. n + length piece) fed.bytes ∙ sym (length-append input piece));
      live = live.1;
    }

-- the rest can be analysed
pub rest_short : (taken rest piece stream : List ℕ) (pushed : ℕ) → taken ++ rest ≡ stream
    → length stream < 181000000 → piece ≡ rest → pushed ≡ length taken
    → pushed + length piece ≤ 2 ^ 33
rest_short taken rest piece stream pushed whole short same count =
    let sum : length stream ≡ length taken + length rest =
    ap length (sym whole) ∙ length-append taken rest in
    let one : length piece ≡ length rest = ap length same in
    omega (arith, sum, one, short, count)

-- the analyser has the stream
pub fed_whole : (analyser : State) (taken more rest piece stream : List ℕ) → taken ++ rest ≡ stream
    → taken ≡ more → piece ≡ rest → IsFed analyser (more ++ piece) → IsFed analyser stream
fed_whole analyser taken more rest piece stream whole heard same fed =
    subst (λ (input : List ℕ). IsFed analyser input)
    (ap (λ (l : List ℕ). more ++ l) same ∙ (ap (λ (l : List ℕ). l ++ rest) (sym heard) ∙ whole))
    fed

-- each script is through, and the commands are the first that were sent
pub whole_run : (load : Load) (items : List Item) (answered asked : List ℕ) → IsLegal load items
    → AreThrough load items → All IsAsked load.commands → HasAnswered items answered
    → IsFront answered asked → asked ≡ flat_map command_bytes load.commands → IsWhole load items
whole_run load items answered asked legal through commands has front all =
    record {
      scripts = through;
      commands = first_commands load items has.kept legal commands
          (subst (λ (l : List ℕ). IsFront l (flat_map command_bytes load.commands)) has.is
          (subst (λ (l : List ℕ). IsFront answered l) all front));
    }

abbrev story_with : ℕ → List ℕ → List ℕ → List ℕ → List ℕ → Story
story_with size sent taken asked answered = record {
  size = size;
  sent = sent;
  taken = taken;
  asked = asked;
  answered = answered;
}

same_story : (size more : ℕ) (sent one taken two asked three answered : List ℕ)
    → size ≡ more → sent ≡ one → taken ≡ two → asked ≡ three
    → story_with size sent taken asked answered ≡ story_with more one two three answered
same_story size more sent one taken two asked three answered a b c d = cc

-- the dock's story is that of the run
pub story_told : (load : Load) (items : List Item) (before now : Option (List Story)) (size : ℕ)
    (sent taken asked answered : List ℕ) → size ≡ load.ring → sent ≡ stream_of load items
    → taken ≡ stream_of load items → asked ≡ flat_map command_bytes load.commands
    → HasAnswered items answered → GainsStory before now (story_with size sent taken asked answered)
    → HasStory load items before now
story_told load items before now size sent taken asked answered is_size is_sent is_taken is_asked
    has gains = record {
      answered = answered;
      commands = has;
      gains = subst (λ (s : Story). GainsStory before now s)
          (same_story size load.ring sent (stream_of load items) taken (stream_of load items) asked
          (flat_map command_bytes load.commands) answered is_size is_sent is_taken is_asked)
          gains;
    }
